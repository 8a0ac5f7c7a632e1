-- A check and its block, by the flow rules: what is picked makes code at depth 0 that stays there.
use Rattle.std.proofs.Common.{◌≡◌, ℕ, List, [], ◌∷◌, ◌+◌, ◌<◌, ◌≤◌, Bool, false, Option, Some, None, length, refl, sym, ap, ◌∙◌, subst, arith}
use Rattle.std.proofs.lemmas.List.Elements.{All-head, All-tail}
use Rattle.std.specs.List.{slice_get}
use Rattle.std.specs.Prelude.{All, ◌^◌, ◌%◌}
use Rattle.machine_effect.specs.declared.cond.Cond.{Cond}
use Rattle.machine_effect.specs.declared.effect.Effect.{Effect}
use Rattle.machine_effect.specs.declared.flow.Shape.{Shape}
use Rattle.machine_effect.specs.declared.flow.SpMove.TheVariants.{Keep}
use Rattle.machine_effect.specs.declared.next.Next.{Next}
use Rattle.machine_effect.specs.declared.next.Next.TheVariants as next
use Rattle.machine_effect.specs.Applies.{link_of}
use Rattle.machine_effect.specs.Bounds.{OnlyGoes}
use Rattle.machine_effect.specs.Flow.{flow_of, of_link}
use Rattle.asm_target.specs.declared.refer.Part.TheVariants.{Whole}
use Rattle.asm_target.specs.declared.refer.Picked.{Picked}
use Rattle.asm_target.specs.declared.refer.Refer.{Refer}
use Rattle.asm_target.specs.declared.refer.To.{To}
use Rattle.asm_target.specs.declared.sequence.Sequence.{Sequence}
use Rattle.asm_target.specs.Aiming.{Aiming, Aims, HaveForms, HoldGoals, IsAimedForm, JumpsAs, KeepLengths, with_goal}
use Rattle.asm_target.specs.DepthChange.{is_call}
use Rattle.asm_target.specs.FlowFunction.{jump_goal}
use Rattle.asm_target.specs.InstructionSet.{InstructionSet}
use Rattle.asm_target.specs.Laws.{HasOnlyGoing, HasLinks}
use Rattle.asm_target.specs.Sequences.{is_of_frame}
use Rattle.asm_target.proofs.FlowLemmas.{stays}

of_none : (link : Option ℕ) (test : ℕ → Bool) → ((register : ℕ) → test register ≡ false) → of_link link test ≡ false
of_none None test none = refl
of_none (Some register) test none = none register

-- an effect behind which the machine doesn't go on writes no link register but as a call, and stores none
unwritten : (effect : Effect) (shape : Shape) → OnlyGoes effect → ¬ (effect.next ≡ next.Fall) → link_of effect.next ≡ None
    → (flow_of effect shape).writes_link ≡ false
unfolding flow_of
unwritten effect shape only goes unlinked =
    of_none shape.link _ (λ register. rw (unlinked, (only goes).writes) refl)

unstored : (effect : Effect) (shape : Shape) → OnlyGoes effect → ¬ (effect.next ≡ next.Fall)
    → (flow_of effect shape).stores_link ≡ false
unfolding flow_of
unstored effect shape only goes = of_none shape.link _ (λ register. rw (only goes).store refl)

module _ {Instr : Type 0} (set : InstructionSet Instr) (fits : Instr → Type 0) (begins : List Instr → Sequence) (shape : Shape) (aiming : Aiming Instr) where
  -- what is used of a target's laws
  pub record GuardLaws : Type 0 where
    pub some : (i : Instr) → fits i → 0 < length (set.spelling i)
    pub only_goes : HasOnlyGoing set fits
    pub links : HasLinks set fits shape
    pub formed : HaveForms set fits aiming
    pub holds_goals : HoldGoals set fits aiming
    pub same_lengths : KeepLengths set fits aiming

  -- an instruction that goes on behind itself, touches neither the stack pointer nor the link register, and begins no sequence of a
  -- frame
  pub record IsQuietPick (pick : Picked Instr) : Type 0 where
    pub fit : fits pick.instr
    pub unreferred : pick.refer ≡ None
    pub falls : (pc : ℕ) → (set.effect pick.instr pc).next ≡ next.Fall
    pub keeps : (pc : ℕ) → (flow_of (set.effect pick.instr pc) shape).sp ≡ Keep
    pub unwritten : (pc : ℕ) → (flow_of (set.effect pick.instr pc) shape).writes_link ≡ false
    pub unstored : (pc : ℕ) → (flow_of (set.effect pick.instr pc) shape).stores_link ≡ false
    pub frameless : (rest : List Instr) → is_of_frame (begins (pick.instr ∷ rest)) ≡ false

  -- one that goes to what it refers to: by a jump, under a condition, by a call
  pub record GoesTo (to : To) (pick : Picked Instr) : Type 0 where
    pub fit : fits pick.instr
    pub referred : pick.refer ≡ Some (record { to = to; part = Whole })

  pub record IsJumpPick (to : To) (pick : Picked Instr) : Type 0 where
    pub goes : GoesTo to pick
    pub jumps : (pc : ℕ) → (goal : ℕ) × ((set.effect pick.instr pc).next ≡ next.Jump goal)

  pub record IsBranchPick (to : To) (pick : Picked Instr) : Type 0 where
    pub goes : GoesTo to pick
    pub branches : (pc : ℕ) → (held : Cond) × (goal : ℕ) × ((set.effect pick.instr pc).next ≡ next.Branch held goal)

  pub record IsCallPick (to : To) (pick : Picked Instr) : Type 0 where
    pub goes : GoesTo to pick
    pub calls : (pc : ℕ) → (goal : ℕ) × (link : Option ℕ) × ((set.effect pick.instr pc).next ≡ next.Call goal link)

  -- what an instruction of placed code does at its place
  pub record DoesHere (goes : Next) (i : Instr) (place : ℕ) : Type 0 where
    pub told : (set.effect i place).next ≡ goes
    pub keeps : (flow_of (set.effect i place) shape).sp ≡ Keep
    pub unwritten : is_call goes ≡ false → (flow_of (set.effect i place) shape).writes_link ≡ false
    pub unstored : (flow_of (set.effect i place) shape).stores_link ≡ false
    pub frameless : goes ≡ next.Fall → (rest : List Instr) → is_of_frame (begins (i ∷ rest)) ≡ false

  module _ (laws : GuardLaws) where
    unlinked : (goes : Next) → is_call goes ≡ false → link_of goes ≡ None
    unlinked (next.Call goal link) is = absurd (cc)
    unlinked (next.CallTo goal link) is = absurd (cc)
    unlinked _ is = refl

    -- where the machine doesn't go on behind it
    goes_only : (i : Instr) (place : ℕ) (goes : Next) → fits i → place < 2 ^ 64 → (set.effect i place).next ≡ goes
        → ¬ (goes ≡ next.Fall) → DoesHere goes i place
    goes_only i place goes fit low is away =
        let only = laws.only_goes i place fit low in
        let not_fall : ¬ ((set.effect i place).next ≡ next.Fall) = λ falls. away (sym is ∙ falls) in
        record {
          told = is;
          keeps = stays (set.effect i place) shape only (laws.links i place fit low) not_fall;
          unwritten = λ no_call. unwritten (set.effect i place) shape only not_fall (ap link_of is ∙ unlinked goes no_call);
          unstored = unstored (set.effect i place) shape only not_fall;
          frameless = λ falls. absurd (away falls);
        }

    falls_here : (pick : Picked Instr) (place : ℕ) → IsQuietPick pick → DoesHere next.Fall pick.instr place
    falls_here pick place quiet = record {
      told = quiet.falls place;
      keeps = quiet.keeps place;
      unwritten = λ no_call. quiet.unwritten place;
      unstored = quiet.unstored place;
      frameless = λ falls. quiet.frameless;
    }

    -- the code of such an instruction is itself
    pub alone : (i : Instr) (form pc : ℕ) → fits i → form ≤ 1 → pc < 2 ^ 64 → jump_goal (set.effect i pc).next ≡ None
        → aiming.forms i form ≡ i ∷ []
    alone i form pc fit least low none = (laws.formed i fit).alone form pc least low none

    pub quiet_code : (goal_of : To → Option ℕ) (pick : Picked Instr) (form place : ℕ) (code : List Instr) → IsQuietPick pick → form ≤ 1
        → IsAimedForm set fits aiming goal_of pick.refer place (aiming.forms pick.instr form) code → code ≡ pick.instr ∷ []
    quiet_code goal_of pick form place code quiet least aimed =
        let no_goal : jump_goal (set.effect pick.instr 0).next ≡ None = ap jump_goal (quiet.falls 0) in
        let one = alone pick.instr form 0 quiet.fit least (omega arith) no_goal in
        let same = subst (λ (form : List Instr). IsAimedForm set fits aiming goal_of pick.refer place form code) one aimed in
        let itself = subst (λ (refer : Option Refer). IsAimedForm set fits aiming goal_of refer place (pick.instr ∷ []) code) quiet.unreferred same in
        itself.2 ∙ ap (λ (i : Instr). i ∷ []) itself.1

    other_goal : (goal : ℕ) (goes : Next) → with_goal goal goes ≡ with_goal goal (with_goal 0 goes)
    other_goal goal (next.Branch held old) = refl
    other_goal goal (next.Jump old) = refl
    other_goal goal (next.Call old link) = refl
    other_goal goal next.Fall = refl
    other_goal goal (next.JumpTo old) = refl
    other_goal goal (next.CallTo old link) = refl
    other_goal goal next.Return = refl
    other_goal goal next.System = refl
    other_goal goal next.Stop = refl

    -- an aimed instruction goes where it's aimed
    pub aimed_next : (i j : Instr) (place goal : ℕ) (goes : Next) → fits i → place < 2 ^ 64 → goal < 2 ^ 64
        → Aims set fits aiming i Whole place goal j → with_goal 0 (set.effect i place).next ≡ with_goal 0 goes
        → (set.effect j place).next ≡ with_goal goal goes
    aimed_next i j place goal goes fit low near aims same =
        laws.holds_goals.aimed i j place place goal fit low low near aims ∙ other_goal goal (set.effect i place).next
        ∙ ap (with_goal goal) same ∙ sym (other_goal goal goes)

    module _ (goal_of : To → Option ℕ) (There Called : ℕ → Type 0) (near : (goal : ℕ) → There goal → goal < 2 ^ 64)
        (near_called : (goal : ℕ) → Called goal → goal < 2 ^ 64) where
      -- what is referred to has an address that is known
      abbrev pub Known : To → Type 0
      Known to = (goal : ℕ) → goal_of to ≡ Some goal → There goal

      abbrev pub KnownCall : To → Type 0
      KnownCall to = (goal : ℕ) → goal_of to ≡ Some goal → Called goal

      -- a picked instruction of one of these kinds; under a condition only where the code may go on behind it
      pub data IsMildPick (Can : Type 0) (pick : Picked Instr) : Type 0 where
        quiet : IsQuietPick pick → IsMildPick Can pick
        jump : (to : To) → Known to → IsJumpPick to pick → IsMildPick Can pick
        branch : (to : To) → Known to → Can → IsBranchPick to pick → IsMildPick Can pick
        call : (to : To) → KnownCall to → IsCallPick to pick → IsMildPick Can pick

      abbrev pub Soft : Next → Type 0
      Soft next.Fall = Unit {0}
      Soft (next.Branch held goal) = There goal
      Soft (next.Jump goal) = There goal
      Soft (next.Call goal link) = Called goal
      Soft _ = ⊥

      -- the instruction of this number
      pub record IsMildIn (code : List Instr) (k place : ℕ) : Type 0 where
        pub instr : Instr
        pub here : slice_get code k ≡ Some instr
        pub goes : Next
        pub does : DoesHere goes instr place
        pub soft : Soft goes

      -- code of one instruction, aimed
      pub record IsOne (to : To) (i : Instr) (place : ℕ) (code : List Instr) : Type 0 where
        pub instr : Instr
        pub goal : ℕ
        pub told : goal_of to ≡ Some goal
        pub aims : Aims set fits aiming i Whole place goal instr
        pub code_is : code ≡ instr ∷ []

      pub one : (to : To) (i : Instr) (refer : Option Refer) (place : ℕ) (code : List Instr)
          → refer ≡ Some (record { to = to; part = Whole })
          → IsAimedForm set fits aiming goal_of refer place (i ∷ []) code → IsOne to i place code
      one to i refer place code referred aimed =
          let a = subst (λ (refer : Option Refer). IsAimedForm set fits aiming goal_of refer place (i ∷ []) code) referred aimed in
          record { instr = a.0; goal = a.1.0; told = a.1.1; aims = a.1.2; code_is = a.2 }

      -- its next, if it is one that jumps or calls
      mild_one : (P : ℕ → Type 0) → ((goal : ℕ) → P goal → goal < 2 ^ 64)
          → (to : To) (i : Instr) (place : ℕ) (code : List Instr) (goes : ℕ → Next)
          → ((goal : ℕ) → goal_of to ≡ Some goal → P goal) → place < 2 ^ 64 → fits i
          → ((goal : ℕ) → ¬ (goes goal ≡ next.Fall)) → ((goal : ℕ) → P goal → Soft (goes goal))
          → ((goal : ℕ) → with_goal goal (goes 0) ≡ goes goal)
          → with_goal 0 (set.effect i place).next ≡ with_goal 0 (goes 0) → IsOne to i place code → IsMildIn code 0 place
      mild_one P near_p to i place code goes known low fit away soft with_goals same o =
          let there = known o.goal o.told in
          let is : (set.effect o.instr place).next ≡ goes o.goal =
          aimed_next i o.instr place o.goal (goes 0) fit low (near_p o.goal there) o.aims same ∙ with_goals o.goal in
          record {
            instr = o.instr;
            here = ap (λ (xs : List Instr). slice_get xs 0) o.code_is;
            goes = goes o.goal;
            does = goes_only o.instr place (goes o.goal) o.aims.fit low is (away o.goal);
            soft = soft o.goal there;
          }

      -- the code of a picked instruction: one instruction, or a branch over a jump
      pub data IsMildFront (code : List Instr) (place : ℕ) : Type 0 where
        single : (i : Instr) → code ≡ i ∷ [] → IsMildIn code 0 place → IsMildFront code place
        double : (i j : Instr) → code ≡ i ∷ j ∷ [] → IsMildIn code 0 place → IsMildIn code 1 (place + length (set.spelling i))
            → IsMildFront code place

      jump_front : (to : To) (refer : Option Refer) (place goal : ℕ) (form code : List Instr) → Known to → place < 2 ^ 64
          → refer ≡ Some (record { to = to; part = Whole }) → All fits form → JumpsAs set fits aiming (next.Jump goal) form
          → IsAimedForm set fits aiming goal_of refer place form code → IsMildFront code place
      jump_front to refer place goal [] code known low referred fit jumps aimed = absurd jumps
      jump_front to refer place goal (i ∷ []) code known low referred fit jumps aimed =
          let o = one to i refer place code referred aimed in
          single o.instr o.code_is
          (mild_one There near to i place code (λ goal. next.Jump goal) known low (All-head fits i [] fit) (λ goal falls. cc)
          (λ goal there. there) (λ goal. refl) (jumps place low) o)
      jump_front to refer place goal (i ∷ j ∷ []) code known low referred fit jumps aimed = absurd jumps
      jump_front to refer place goal (i ∷ j ∷ k ∷ form) code known low referred fit jumps aimed = absurd jumps

      branch_front : (to : To) (refer : Option Refer) (place goal : ℕ) (held : Cond) (form code : List Instr) → Known to
          → place < 2 ^ 64 → refer ≡ Some (record { to = to; part = Whole }) → All fits form
          → JumpsAs set fits aiming (next.Branch held goal) form
          → IsAimedForm set fits aiming goal_of refer place form code
          → ((i j : Instr) → code ≡ i ∷ j ∷ []
          → There ((place + (length (set.spelling i) + length (set.spelling j))) % 2 ^ 64) × (place + length (set.spelling i) < 2 ^ 64))
          → IsMildFront code place
      branch_front to refer place goal held [] code known low referred fit jumps aimed skip = absurd jumps
      branch_front to refer place goal held (i ∷ []) code known low referred fit jumps aimed skip =
          let o = one to i refer place code referred aimed in
          single o.instr o.code_is
          (mild_one There near to i place code (λ goal. next.Branch held goal) known low (All-head fits i [] fit) (λ goal falls. cc)
          (λ goal there. there) (λ goal. refl) (jumps place low) o)
      branch_front to refer place goal held (i ∷ l ∷ []) code known low referred fit jumps aimed skip =
          let behind : ℕ = place + length (set.spelling i) in
          let o = one to l refer behind aimed.0 referred aimed.1 in
          let both : code ≡ i ∷ o.instr ∷ [] = aimed.2 ∙ ap (λ (xs : List Instr). i ∷ xs) o.code_is in
          let past = skip i o.instr both in
          let fit_l = All-head fits l [] (All-tail fits i (l ∷ []) fit) in
          let long : length (set.spelling l) ≡ length (set.spelling o.instr) =
          laws.same_lengths l o.instr fit_l o.aims.fit (sym o.aims.same) in
          let over = ap (λ (n : ℕ). next.Branch jumps.opposite ((place + (length (set.spelling i) + n)) % 2 ^ 64)) long in
          let second = mild_one There near to l behind aimed.0 (λ goal. next.Jump goal) known past.1 fit_l (λ goal falls. cc)
          (λ goal there. there) (λ goal. refl) (jumps.jumps behind past.1) o in
          double i o.instr both
          (record {
            instr = i;
            here = ap (λ (xs : List Instr). slice_get xs 0) both;
            goes = next.Branch jumps.opposite ((place + (length (set.spelling i) + length (set.spelling o.instr))) % 2 ^ 64);
            does = goes_only i place _ (All-head fits i (l ∷ []) fit) low (jumps.over place low ∙ over) (λ falls. cc);
            soft = past.0;
          })
          (record {
            instr = second.instr;
            here = ap (λ (xs : List Instr). slice_get xs 1) aimed.2 ∙ second.here;
            goes = second.goes;
            does = second.does;
            soft = second.soft;
          })
      branch_front to refer place goal held (i ∷ j ∷ k ∷ form) code known low referred fit jumps aimed skip = absurd jumps

      call_front : (to : To) (pick : Picked Instr) (form place : ℕ) (code : List Instr) → KnownCall to → place < 2 ^ 64 → form ≤ 1
          → IsCallPick to pick → IsAimedForm set fits aiming goal_of pick.refer place (aiming.forms pick.instr form) code
          → IsMildFront code place
      call_front to pick form place code known low least is aimed =
          let c = is.calls place in
          let no_jump : jump_goal (set.effect pick.instr place).next ≡ None = ap jump_goal c.2 in
          let itself = alone pick.instr form place is.goes.fit least low no_jump in
          let same = subst (λ (form : List Instr). IsAimedForm set fits aiming goal_of pick.refer place form code) itself aimed in
          let o = one to pick.instr pick.refer place code is.goes.referred same in
          single o.instr o.code_is
          (mild_one Called near_called to pick.instr place code (λ goal. next.Call goal c.1) known low is.goes.fit (λ goal falls. cc)
          (λ goal there. there) (λ goal. refl) (ap (with_goal 0) c.2) o)

      quiet_front : (pick : Picked Instr) (form place : ℕ) (code : List Instr) → form ≤ 1 → IsQuietPick pick
          → IsAimedForm set fits aiming goal_of pick.refer place (aiming.forms pick.instr form) code → IsMildFront code place
      quiet_front pick form place code least is aimed =
          let itself = quiet_code goal_of pick form place code is least aimed in
          single pick.instr itself (record {
            instr = pick.instr;
            here = ap (λ (xs : List Instr). slice_get xs 0) itself;
            goes = next.Fall;
            does = falls_here pick place is;
            soft = tt;
          })

      pub mild_front : (Can : Type 0) (pick : Picked Instr) (form place : ℕ) (code : List Instr) → form ≤ 1 → place < 2 ^ 64
          → IsMildPick Can pick → IsAimedForm set fits aiming goal_of pick.refer place (aiming.forms pick.instr form) code
          → (Can → (i j : Instr) → code ≡ i ∷ j ∷ []
          → There ((place + (length (set.spelling i) + length (set.spelling j))) % 2 ^ 64) × (place + length (set.spelling i) < 2 ^ 64))
          → IsMildFront code place
      mild_front Can pick form place code least low (quiet is) aimed skip = quiet_front pick form place code least is aimed
      mild_front Can pick form place code least low (call to known is) aimed skip =
          call_front to pick form place code known low least is aimed
      mild_front Can pick form place code least low (jump to known is) aimed skip =
          let j = is.jumps place in
          let formed = laws.formed pick.instr is.goes.fit in
          let goal : jump_goal (set.effect pick.instr place).next ≡ Some j.0 = ap jump_goal j.1 in
          let jumps : JumpsAs set fits aiming (next.Jump j.0) (aiming.forms pick.instr form) =
          subst (λ (goes : Next). JumpsAs set fits aiming goes (aiming.forms pick.instr form)) j.1
          (formed.jumps form place j.0 least low goal) in
          jump_front to pick.refer place j.0 (aiming.forms pick.instr form) code known low is.goes.referred
          (formed.fit form least) jumps aimed
      mild_front Can pick form place code least low (branch to known can is) aimed skip =
          let b = is.branches place in
          let formed = laws.formed pick.instr is.goes.fit in
          let goal : jump_goal (set.effect pick.instr place).next ≡ Some b.1 = ap jump_goal b.2 in
          let jumps : JumpsAs set fits aiming (next.Branch b.0 b.1) (aiming.forms pick.instr form) =
          subst (λ (goes : Next). JumpsAs set fits aiming goes (aiming.forms pick.instr form)) b.2
          (formed.jumps form place b.1 least low goal) in
          branch_front to pick.refer place b.1 b.0 (aiming.forms pick.instr form) code known low is.goes.referred
          (formed.fit form least) jumps aimed (skip can)
