-- Checks with and without a link register.
use Rattle.std.proofs.Common.{◌≡◌, ℕ, zero, suc, List, [], ◌∷◌, ◌++◌, ◌+◌, ◌<◌, ◌≤◌, ◌==◌, Bool, true, false, Option, Some, None, pos, length, drop, take, refl, sym, ap, ◌∙◌, subst, arith, inl, inr, is_some, if◌then◌else◌}
use Rattle.std.proofs.lemmas.Bool.{cases_order}
use Rattle.std.proofs.lemmas.Bool.Decides.{nat_tests, Decides-eqb}
use Rattle.std.proofs.lemmas.List.Elements.{All-head, All-tail}
use Rattle.std.specs.List.{slice_get}
use Rattle.std.specs.Prelude.{All, map, ◌+ℤ◌, ◌-◌}
use Rattle.machine_effect.specs.declared.flow.Shape.{Shape}
use Rattle.machine_effect.specs.declared.flow.SpMove.TheVariants.{Keep}
use Rattle.machine_effect.specs.declared.next.Next.{Next}
use Rattle.machine_effect.specs.declared.next.Next.TheVariants as next
use Rattle.asm_target.specs.declared.frame.Guard.{Guard}
use Rattle.asm_target.specs.declared.refer.Picked.{Picked}
use Rattle.asm_target.specs.declared.refer.Refer.{Refer}
use Rattle.asm_target.specs.declared.refer.To.{To}
use Rattle.asm_target.specs.declared.sequence.Sequence.{Sequence}
use Rattle.asm_target.specs.declared.sequence.Sequence.TheVariants.{Plain, Saving, Restoring, Growth}
use Rattle.asm_target.specs.Aiming.{Aiming, IsAimedForm, IsPlaced, bytes_of}
use Rattle.asm_target.specs.DepthChange.{depth_change, is_call, longest}
use Rattle.asm_target.specs.FlowFunction.{FlowFunction, call_goal, is_in_order, jump_goal, next_at, outgoing, role_at, sequence_at, span_at, start_at}
use Rattle.asm_target.specs.FlowRules.{breaks_f7, breaks_f8, is_growth_call}
use Rattle.asm_target.specs.InstructionSet.{InstructionSet}
use Rattle.asm_target.specs.SequenceLaws.{DoSequences, DoesAs, FallThrough, GrowsAnywhere, StandsApart}
use Rattle.asm_target.specs.Sequences.{count_of, span_of, is_of_frame, is_plain}
use Rattle.asm_target.specs.Standing.{KeepsLevel, StandsGuarded}
use Rattle.asm_target.proofs.CheckLemmas.{IsMadeSo, body_at, calls_block, guarded, head_at, some_is}
use Rattle.asm_target.proofs.CleanLemmas.{and_off}
use Rattle.asm_target.proofs.FrameLemmas.{unlinked_f8}
use Rattle.asm_target.proofs.GuardLemmas.{DoesHere, GuardLaws}
use Rattle.asm_target.proofs.PlaceLemmas.{apart_positions}
use Rattle.asm_target.proofs.RoleLemmas.{AreApart, IsQuiet, added_quiet, counts, linked_out, not_inside, span_most, stands_in}

same_if : (b : Bool) → (if b then pos 0 else pos 0) ≡ pos 0
same_if true = refl
same_if false = refl

unlinked_kept : (f : FlowFunction) (p : ℕ) → f.link ≡ None → (f.flow p).sp ≡ Keep → outgoing f p ≡ pos (f.depth p) +ℤ pos 0
unfolding outgoing depth_change
unlinked_kept f p link keep = rw (link, keep, same_if _) refl

unlinked_f7 : (f : FlowFunction) (p : ℕ) → f.link ≡ None → breaks_f7 f p ≡ false
unlinked_f7 f p link = rw link refl

growth_f7 : (f : FlowFunction) (p : ℕ) → is_growth_call f p ≡ true → breaks_f7 f p ≡ false
growth_f7 f p grows = rw grows (rw (and_off (is_call (next_at f p))) (and_off (is_some f.link)))

growth_f8 : (f : FlowFunction) (p : ℕ) → f.depth p ≡ 0 → is_growth_call f p ≡ true → (f.flow p).stores_link ≡ false
    → breaks_f8 f p ≡ false
growth_f8 f p depth grows stores =
    rw (depth, grows, stores) (rw (and_off (f.flow p).writes_link, and_off (start_at f p == p)) (rw (and_off _) (and_off (is_some f.link))))

all_drop : {A : Type 0} (P : A → Type 0) (xs : List A) (n : ℕ) → All P xs → All P (drop n xs)
all_drop {A} P xs zero all = all
all_drop {A} P [] (suc n) all = all
all_drop {A} P (x ∷ xs) (suc n) all = all_drop P xs n (All-tail P x xs all)

drop_item : {A : Type 0} (xs : List A) (k : ℕ) (x : A) → slice_get xs k ≡ Some x → drop k xs ≡ x ∷ drop (suc k) xs
drop_item {A} [] k x is = absurd (cc)
drop_item {A} (y ∷ xs) zero x is = (let same : y ≡ x = cc in ap (λ (z : A). z ∷ xs) same)
drop_item {A} (y ∷ xs) (suc k) x is = drop_item xs k x is

take_front : {A : Type 0} (xs ys : List A) → take (length xs) (xs ++ ys) ≡ xs
take_front {A} [] ys = refl
take_front {A} (x ∷ xs) ys = ap (λ (zs : List A). x ∷ zs) (take_front xs ys)

take_whole : {A : Type 0} (xs : List A) → take (length xs) xs ≡ xs
take_whole {A} [] = refl
take_whole {A} (x ∷ xs) = ap (λ (zs : List A). x ∷ zs) (take_whole xs)

module _ {Instr : Type 0} (set : InstructionSet Instr) (fits : Instr → Type 0) (begins : List Instr → Sequence) (shape : Shape) (aiming : Aiming Instr) where
  -- without a link register
  pub unlinked_check : GuardLaws set fits begins shape aiming → shape.link ≡ None → (guard : Guard Instr)
      → IsMadeSo set fits begins shape aiming guard → KeepsLevel set fits begins shape aiming guard
  unlinked_check laws none guard made f block routine head body s =
      let link : f.link ≡ None = s.whole.link ∙ none in
      guarded set fits begins shape aiming laws guard made f block routine head body s (record {
        head_out = λ k less keep. unlinked_kept f k link keep;
        body_out = λ k less keep. unlinked_kept f (block + k) link keep;
        call_f7 = λ n is. unlinked_f7 f (block + n) link;
        call_f8 = λ n is depth stores. unlinked_f8 f (block + n) link;
      })

  -- the block of a check is a sequence that has the stack grow, and its instructions have no long forms
  pub record IsGrowthBlock (guard : Guard Instr) : Type 0 where
    pub single : All (λ pick. (form : ℕ) → form ≤ 1 → aiming.forms pick.instr form ≡ pick.instr ∷ []) guard.block
    pub grows : begins (map (λ pick. pick.instr) guard.block) ≡ Growth (length guard.block)

  abbrev Single : Picked Instr → Type 0
  Single pick = (form : ℕ) → form ≤ 1 → aiming.forms pick.instr form ≡ pick.instr ∷ []

  same_one : (goal_of : To → Option ℕ) (refer : Option Refer) (place : ℕ) (i : Instr) (code : List Instr)
      → IsAimedForm set fits aiming goal_of refer place (i ∷ []) code → map aiming.undirected code ≡ aiming.undirected i ∷ []
  same_one goal_of None place i code aimed =
      ap (map aiming.undirected) aimed.2 ∙ ap (λ (j : Instr). aiming.undirected j ∷ []) aimed.1
  same_one goal_of (Some refer) place i code aimed =
      ap (map aiming.undirected) aimed.2 ∙ ap (λ (j : Instr). j ∷ []) aimed.1.2.same

  map_both : (front back : List Instr) → map aiming.undirected (front ++ back) ≡ map aiming.undirected front ++ map aiming.undirected back
  map_both [] back = refl
  map_both (i ∷ front) back = ap (λ (xs : List Instr). aiming.undirected i ∷ xs) (map_both front back)

  same_code : (goal_of : To → Option ℕ) (place : ℕ) (picks : List (Picked Instr)) (code : List Instr) → All Single picks
      → IsPlaced set fits aiming goal_of place picks code
      → map aiming.undirected code ≡ map aiming.undirected (map (λ pick. pick.instr) picks)
  same_code goal_of place [] code single placed = ap (map aiming.undirected) placed
  same_code goal_of place (pick ∷ picks) code single placed =
      let itself = All-head Single pick picks single placed.0 placed.3 in
      let aimed = subst (λ (form : List Instr). IsAimedForm set fits aiming goal_of pick.refer place form placed.1) itself placed.4 in
      let back = same_code goal_of (place + bytes_of set placed.1) picks placed.2 (All-tail Single pick picks single) placed.5 in
      ap (map aiming.undirected) placed.6 ∙ map_both placed.1 placed.2
      ∙ ap (λ (xs : List Instr). xs ++ map aiming.undirected placed.2) (same_one goal_of pick.refer place pick.instr placed.1 aimed)
      ∙ ap (λ (xs : List Instr). aiming.undirected pick.instr ∷ xs) back

  map_length : {A B : Type 0} (g : A → B) (xs : List A) → length (map g xs) ≡ length xs
  map_length {A} {B} g [] = refl
  map_length {A} {B} g (x ∷ xs) = ap suc (map_length g xs)

  -- an instruction that begins a sequence of a frame goes on behind itself
  frames_fall : (link growth : Option ℕ) (found : Sequence) (code : List Instr) → DoesAs set shape link growth found code
      → is_of_frame found ≡ true → FallThrough set shape code
  frames_fall (Some link) growth (Saving count total) code does framed = does.1.falls
  frames_fall (Some link) growth (Restoring count total) code does framed = does.1.falls
  frames_fall None growth (Saving count total) code does framed = absurd does
  frames_fall None growth (Restoring count total) code does framed = absurd does
  frames_fall link growth Plain code does framed = absurd (cc)
  frames_fall link growth (Growth count) code does framed = absurd (cc)

  begun_falls : ((code : List Instr) → StandsApart begins code) → (growth : Option ℕ) → DoSequences set shape fits begins growth
      → (i : Instr) (rest : List Instr) → All fits (i ∷ rest) → is_of_frame (begins (i ∷ rest)) ≡ true → (pc : ℕ)
      → (set.effect i pc).next ≡ next.Fall
  begun_falls apart growth acts i rest fit framed pc =
      let n : ℕ = count_of (begins (i ∷ rest)) in
      let falls = frames_fall shape.link growth (begins (i ∷ rest)) (take n (i ∷ rest)) (acts (i ∷ rest) fit) framed in
      let some : 0 < n = omega (arith, (apart (i ∷ rest)).some, span_most (begins (i ∷ rest))) in
      let step : suc (n - 1) ≡ n = omega arith in
      falls 0 pc i (ap (λ (m : ℕ). slice_get (take m (i ∷ rest)) 0) (sym step))

  -- so one that goes elsewhere, or is quiet, begins none
  unframed : ((code : List Instr) → StandsApart begins code) → (growth : Option ℕ) → DoSequences set shape fits begins growth
      → (goes : Next) (i : Instr) (place : ℕ) (rest : List Instr) → All fits (i ∷ rest)
      → DoesHere set fits begins shape aiming goes i place → (b : Bool) → is_of_frame (begins (i ∷ rest)) ≡ b → b ≡ false
  unframed apart growth acts goes i place rest fit does false is = refl
  unframed apart growth acts goes i place rest fit does true is =
      let falls : goes ≡ next.Fall = sym does.told ∙ begun_falls apart growth acts i rest fit is place in
      sym is ∙ does.frameless falls rest

  -- with one
  module _ (laws : GuardLaws set fits begins shape aiming) (linked : is_some shape.link ≡ true)
      (apart : (code : List Instr) → StandsApart begins code) (growth : Option ℕ) (acts : DoSequences set shape fits begins growth)
      (anywhere : GrowsAnywhere aiming begins) (guard : Guard Instr) (made : IsMadeSo set fits begins shape aiming guard)
      (is : IsGrowthBlock guard) (f : FlowFunction) (block routine : ℕ) (head body : List Instr)
      (s : StandsGuarded set fits begins shape aiming f guard block routine head body) where
    link : is_some f.link ≡ true
    link = ap is_some s.whole.link ∙ linked

    lies : AreApart f
    lies = apart_positions set fits begins shape apart f s.all s.whole

    unframed_at : (p : ℕ) (i : Instr) (goes : Next) → slice_get s.all p ≡ Some i
        → DoesHere set fits begins shape aiming goes i (f.at p) → is_of_frame (f.found p) ≡ false
    unframed_at p i goes here does =
        let code : drop p s.all ≡ i ∷ drop (suc p) s.all = drop_item s.all p i here in
        let fit : All fits (i ∷ drop (suc p) s.all) = subst (All fits) code (all_drop fits s.all p s.whole.fit) in
        ap is_of_frame (s.whole.found p ∙ ap begins code)
        ∙ unframed apart growth acts goes i (f.at p) (drop (suc p) s.all) fit does
        (is_of_frame (begins (i ∷ drop (suc p) s.all))) refl

    head_unframed : (k : ℕ) → k < length head → is_of_frame (f.found k) ≡ false
    head_unframed k less =
        let m = head_at set fits begins shape aiming laws guard made f block routine head body s k less in
        let same : 0 + k ≡ k = omega arith in
        ap (λ (p : ℕ). is_of_frame (f.found p)) (sym same) ∙ unframed_at (0 + k) m.instr m.goes m.here m.does

    body_unframed : (k : ℕ) → k < length body → is_of_frame (f.found (block + k)) ≡ false
    body_unframed k less =
        let m = body_at set fits begins shape aiming laws guard made f block routine head body s k less in
        unframed_at (block + k) m.instr m.goes m.here m.does

    -- the block begins a sequence that has the stack grow
    picked : List Instr
    picked = map (λ pick. pick.instr) guard.block

    grown : f.found block ≡ Growth (length body)
    unfolding picked
    grown =
        let same = same_code _ (f.at block) guard.block body is.single s.body_placed in
        let many : length body ≡ length guard.block =
        sym (map_length aiming.undirected body) ∙ ap length same ∙ map_length aiming.undirected picked ∙ map_length (λ pick. pick.instr) guard.block in
        let ours : take (length guard.block) (body ++ s.behind) ≡ body =
        ap (λ (n : ℕ). take n (body ++ s.behind)) (sym many) ∙ take_front body s.behind in
        let theirs : take (length guard.block) picked ≡ picked =
        ap (λ (n : ℕ). take n picked) (sym (map_length (λ pick. pick.instr) guard.block)) ∙ take_whole picked in
        let begun : begins (body ++ s.behind) ≡ Growth (length guard.block) =
        anywhere (length guard.block) picked (body ++ s.behind) is.grows
        (ap (map aiming.undirected) ours ∙ same ∙ sym (ap (map aiming.undirected) theirs)) in
        s.whole.found block ∙ ap begins s.body_here ∙ begun ∙ ap Growth (sym many)

    begun_there : is_plain (f.found block) ≡ false
    begun_there = ap is_plain grown

    head_quiet : (p : ℕ) → p < length head → IsQuiet f p
    head_quiet p less start most inside = head_unframed start (omega arith)

    body_quiet : (k : ℕ) → k < length body → IsQuiet f (block + k)
    body_quiet k less start most inside =
        elim (cases_order start block) as (λ _. is_of_frame (f.found start) ≡ false) [
          | inl same ↦ ap (λ (p : ℕ). is_of_frame (f.found p)) same ∙ ap is_of_frame grown
          | inr (inl before) ↦ absurd (omega (arith, not_inside f lies start block begun_there before))
          | inr (inr after) ↦
              (let back : block + (start - block) ≡ start = omega arith in
              ap (λ (p : ℕ). is_of_frame (f.found p)) (sym back) ∙ body_unframed (start - block) (omega arith))
        ]

    ordered : is_in_order f block (f.found block) ≡ true
    ordered =
        let e = calls_block set fits begins shape aiming laws guard made f block routine head body s in
        let count : length body - 2 ≡ e.before = omega (arith, e.count) in
        let last : length body - 1 ≡ suc e.before = omega (arith, e.count) in
        let call : call_goal (next_at f (block + (length body - 2))) ≡ Some e.routine =
        ap (λ (n : ℕ). call_goal (next_at f (block + n))) count ∙ ap call_goal e.calls in
        let jump : jump_goal (next_at f (block + (length body - 1))) ≡ Some e.entry =
        ap (λ (n : ℕ). jump_goal (next_at f (block + n))) last ∙ ap jump_goal e.jumps in
        let routine_is : routine ≡ e.routine = some_is routine e.routine e.grows in
        let entry_is : f.at 0 ≡ e.entry = some_is (f.at 0) e.entry e.enters in
        let told : f.is_growth_routine e.routine ≡ true = ap f.is_growth_routine (sym routine_is) ∙ s.routine_told in
        let enters : (e.entry == f.at 0) ≡ true = (Decides-eqb e.entry (f.at 0)).1 (sym entry_is) in
        ap (is_in_order f block) grown ∙ rw (s.level.1, call, jump, told, enters) refl

    counts_here : sequence_at f block ≡ Growth (length body)
    counts_here = counts f block (length body) (ap count_of grown) ordered s.unhit ∙ grown

    spans : span_at f block ≡ length body - 1
    spans = ap span_of counts_here

    growth_call : (n : ℕ) → suc (suc n) ≡ length body → is_growth_call f (block + n) ≡ true
    growth_call n last =
        let start : start_at f (block + n) ≡ block = stands_in f lies block n begun_there (omega (arith, spans)) in
        let role : role_at f (block + n) ≡ Growth (length body) = ap (sequence_at f) start ∙ counts_here in
        let ends : (suc (block + n) == block + (length body - 1)) ≡ true = grind (arith, nat_tests) in
        rw (role, start, ends) refl

  pub linked_check : GuardLaws set fits begins shape aiming → is_some shape.link ≡ true
      → ((code : List Instr) → StandsApart begins code) → (growth : Option ℕ) → DoSequences set shape fits begins growth
      → GrowsAnywhere aiming begins → (guard : Guard Instr) → IsMadeSo set fits begins shape aiming guard → IsGrowthBlock guard
      → KeepsLevel set fits begins shape aiming guard
  linked_check laws linked apart growth acts anywhere guard made is f block routine head body s =
      let on = link laws linked apart growth acts anywhere guard made is f block routine head body s in
      let apart_here = lies laws linked apart growth acts anywhere guard made is f block routine head body s in
      let quiet = head_quiet laws linked apart growth acts anywhere guard made is f block routine head body s in
      let quiet_body = body_quiet laws linked apart growth acts anywhere guard made is f block routine head body s in
      let grows = growth_call laws linked apart growth acts anywhere guard made is f block routine head body s in
      guarded set fits begins shape aiming laws guard made f block routine head body s (record {
        head_out = λ k less keep. linked_out f on k (pos 0) (added_quiet f k longest (quiet k less));
        body_out = λ k less keep. linked_out f on (block + k) (pos 0) (added_quiet f (block + k) longest (quiet_body k less));
        call_f7 = λ n last. growth_f7 f (block + n) (grows n last);
        call_f8 = λ n last depth stores. growth_f8 f (block + n) depth (grows n last) stores;
      })
