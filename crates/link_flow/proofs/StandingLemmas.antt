-- What the flow rules ask of the instructions of a function at its address.
use Rattle.std.proofs.Common.{◌≡◌, ℕ, zero, suc, ◌+◌, ◌^◌, ◌<◌, ◌≤◌, List, [], ◌∷◌, All, length, Some, sym, ap, subst, ◌∙◌, arith, length-append}
use Rattle.std.specs.List.{flat_map, slice_get}
use Rattle.std.proofs.lemmas.List.Elements.{All-head, All-tail}
use Rattle.asm_target.specs.declared.body.Placed.{Placed}
use Rattle.asm_target.specs.Aiming.{bytes_of}
use Rattle.asm_target.specs.InstructionSet.{InstructionSet}
use Rattle.asm_target.specs.Laws.{HasLengths}
use Rattle.flow_rules.specs.Placing.{ArePlaced, Surroundings, function_of}
use Rattle.image_rules.specs.Functions.{placed_from}
use Rattle.link_build.specs.Functions.{Seen}
use Rattle.link_code.specs.declared.placing.Code.{Code}
use Rattle.link_code.proofs.AddedLemmas.{length_placed}
use Rattle.link_code.proofs.WholeLemmas.{as_many}
use Rattle.unit_listing.specs.Kit.{Kit}
use Rattle.link_flow.specs.declared.around.Around.{Around}
use Rattle.link_flow.specs.Around.{surroundings}
use Rattle.link_flow.specs.Codes.{IsCodeOf, IsCodeSomewhere}
use Rattle.link_flow.specs.Refusals.{rules_of}

-- what holds of the first item and of the others
by_items : {X : Type 0} (P : ℕ → X → Type 0) (x : X) (xs : List X) → P 0 x
    → ((k : ℕ) (y : X) → slice_get xs k ≡ Some y → P (suc k) y) → (k : ℕ) (y : X) → slice_get (x ∷ xs) k ≡ Some y → P k y
by_items P x xs first rest zero y is = let same : x ≡ y = cc in subst (P 0) same first
by_items P x xs first rest (suc k) y is = rest k y is

module _ {Instr : Type 0} where
  -- an instruction before others
  one_before : (one : Placed Instr) (code : List (Placed Instr)) → 0 < one.len → one.at + one.len ≤ 2 ^ 64
      → ((other : Placed Instr) → slice_get code 0 ≡ Some other → other.at ≡ one.at + one.len) → ArePlaced code → ArePlaced (one ∷ code)
  one_before one code some room follows placed = record {
    some = by_items (λ k one. 0 < one.len) one code some placed.some;
    room = by_items (λ k one. one.at + one.len ≤ 2 ^ 64) one code room placed.room;
    follows = λ k first other is next.
        by_items (λ k first. (other : Placed Instr) → slice_get (one ∷ code) (suc k) ≡ Some other → other.at ≡ first.at + first.len)
        one code follows (λ k first is other next. placed.follows k first other is next) k first is other next;
  }

  module _ (set : InstructionSet Instr) (fits : Instr → Type 0) (quantum : ℕ) (lengths : HasLengths set fits quantum) where
    first_at : (at : ℕ) (code : List Instr) (one : Placed Instr) → slice_get (placed_from set at code) 0 ≡ Some one → one.at ≡ at
    first_at at [] one is = absurd (cc)
    first_at at (i ∷ code) one is = cc

    all_placed : (at : ℕ) (code : List Instr) → All fits code → at + bytes_of set code ≤ 2 ^ 64 → ArePlaced (placed_from set at code)
    all_placed at [] fit low = record {
      some = λ k one is. absurd (cc);
      room = λ k one is. absurd (cc);
      follows = λ k one other is next. absurd (cc);
    }
    all_placed at (i ∷ code) fit low =
        let past = at + length (set.spelling i) in
        let least = (lengths i (All-head fits i code fit)).least in
        let bytes : bytes_of set (i ∷ code) ≡ length (set.spelling i) + bytes_of set code
        = length-append (set.spelling i) (flat_map set.spelling code) in
        one_before (record { at = at; len = length (set.spelling i); instr = i }) (placed_from set past code) (omega (arith, least))
        (omega (arith, low, bytes)) (first_at past code)
        (all_placed past code (All-tail fits i code fit) (omega (arith, low, bytes)))

module _ {Instr : Type 0} (kit : Kit Instr) (func : Seen Instr) (code : Code Instr) (stands : IsCodeSomewhere kit func code) where
  abbrev is : IsCodeOf stands.0 stands.1 kit func stands.2 code
  is = stands.4

  pub are_placed : HasLengths kit.set kit.fits kit.quantum → func.part.laid.sizes.length < 2 ^ 32 → ArePlaced code.placed.items
  are_placed lengths short =
      let entry = is.of.entry in
      let near = stands.3 in
      let long = is.placed.long in
      subst ArePlaced (sym is.placed.placed)
      (all_placed kit.set kit.fits kit.quantum lengths is.site.entry is.placed.code is.placed.fit (omega (arith, entry, near, long, short)))

  pub some_code : 0 < length code.placed.items
  some_code =
      let long : length code.placed.items ≡ length is.placed.code
      = ap length is.placed.placed ∙ length_placed kit.set is.site.entry is.placed.code in
      let some = is.placed.some in
      omega (arith, long, some)

  pub as_many_depths : length code.depths.items ≡ length code.placed.items
  as_many_depths = as_many kit is.site func.part.laid code.placed.items code.depths.items is.placed is.depths

-- a function as the flow rules see it, where its lists are borrowed
pub rules_seen : {Instr : Type 0} (kit : Kit Instr) (around : Around) (code : Code Instr) (placed : List (Placed Instr)) (depths : List ℕ)
    (out : Surroundings) → placed ≡ code.placed.items → depths ≡ code.depths.items → out ≡ surroundings around
    → function_of kit.set kit.shape kit.begins placed depths out ≡ rules_of kit around code
rules_seen kit around code placed depths out placed_is depths_is out_is =
    ap (λ placed. function_of kit.set kit.shape kit.begins placed depths out) placed_is
    ∙ ap (λ depths. function_of kit.set kit.shape kit.begins code.placed.items depths out) depths_is
    ∙ ap (λ out. function_of kit.set kit.shape kit.begins code.placed.items code.depths.items out) out_is
