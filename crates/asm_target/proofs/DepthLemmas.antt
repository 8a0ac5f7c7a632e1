-- Which sequence ends with an instruction.
use Rattle.std.proofs.Common.{◌≡◌, ℕ, ℤ, SFits, w64, to_z, of_z, ◌^◌, suc, ◌-◌, ◌≤◌, ◌<◌, ◌&&◌, ◌==◌, not, Bool, true, false, is_some, nat_le, List, map, take, take_all, drop, length, length-drop, get_or, refl, sym, ap, ◌∙◌, arith}
use Rattle.std.proofs.lemmas.Int.{ints, to_z-of_z}
use Rattle.std.specs.Int.Signed.{mag}
use Rattle.std.specs.Bool.{if◌then◌else◌}
use Rattle.std.specs.List.{slice_get}
use Rattle.std.proofs.lemmas.Bool.Decides.{nat_tests}
use Rattle.std.proofs.lemmas.List.{drop-map}
use Rattle.std.proofs.lemmas.Option.{slice_get-get_or, slice_get-map}
use Rattle.machine_effect.specs.declared.flow.Shape.{Shape}
use Rattle.machine_effect.specs.Flow.{flow_of}
use Rattle.asm_target.specs.declared.body.Placed.{Placed}
use Rattle.asm_target.specs.declared.sequence.Sequence.{Sequence}
use Rattle.asm_target.specs.DepthChange.{DepthView, added_within, depth_change, depth_or_zero, flow_in, longest, moved_by, depth_view_of, ends_sequence, is_at_depth, is_hit, is_marked}
use Rattle.asm_target.specs.InstructionSet.{InstructionSet}
use Rattle.asm_target.specs.Sequences.{count_of, depth_added_by}

-- a sequence can't begin before the first instruction
pub none_before : (view : DepthView) (k n : ℕ) → k < n → added_within view k (suc n) ≡ added_within view k n
unfolding ends_sequence
none_before view k n before = let no : nat_le n k ≡ false = grind (arith, nat_tests) in rw no refl

-- what ends with the instruction at k and begins n instructions before it, by the tests on its sequence
pub ends_if : (view : DepthView) (k n : ℕ) (found : Sequence) (ends : Bool) → n ≤ k → found ≡ view.found (k - n)
    → ends ≡ (count_of found == suc n && (is_at_depth found (view.depth (k - n)) && not (is_hit view.is_target (k - n) n)))
    → added_within view k (suc n) ≡ (if ends then depth_added_by found else added_within view k n)
unfolding ends_sequence
ends_if view k n found ends inside same tested =
    let yes : nat_le n k ≡ true = grind (arith, nat_tests) in rw (yes, tested, same) refl

-- the same of instructions in lists
pub ends_in : {I : Type 0} (set : InstructionSet I) (shape : Shape) (begins : List I → Sequence) (code : List (Placed I))
    (depths : List ℕ) (targets : List Bool) (k n : ℕ) (found : Sequence) (hit ends : Bool) → n ≤ k → k < length depths
    → found ≡ begins (map (λ placed. placed.instr) (take (length code - (k - n)) (drop (k - n) code)))
    → hit ≡ is_hit (λ j. is_marked (slice_get targets j)) (k - n) n
    → ends ≡ (count_of found == suc n && (is_at_depth found (get_or depths (k - n) 0) && not hit))
    → added_within (depth_view_of set shape begins (map (λ placed. placed.instr) code) depths targets) k (suc n)
    ≡ (if ends then depth_added_by found
    else added_within (depth_view_of set shape begins (map (λ placed. placed.instr) code) depths targets) k n)
ends_in set shape begins code depths targets k n found hit ends inside within same hits tested =
    let view = depth_view_of set shape begins (map (λ placed. placed.instr) code) depths targets in
    let same' : found ≡ view.found (k - n) = same ∙ ap (λ rest. begins (map (λ placed. placed.instr) rest)) (take_all (length code - (k - n)) (drop (k - n) code) (omega (arith, length-drop (k - n) code)))
    ∙ ap begins (sym (drop-map (λ placed. placed.instr) (k - n) code)) in
    let depth : get_or depths (k - n) 0 ≡ view.depth (k - n) =
    sym (ap depth_or_zero (slice_get-get_or depths (k - n) 0 (omega arith))) in
    ends_if view k n found ends inside same' (tested ∙ rw (depth, hits) refl)

-- one turn of a search that begins with the sequence of the most instructions
pub turned : (view : DepthView) (k most turn : ℕ) → turn < most
    → added_within view k (suc (most - turn - 1)) ≡ added_within view k (most - turn)
turned view k most turn before = let same : suc (most - turn - 1) ≡ most - turn = omega arith in ap (added_within view k) same

-- a number of 64 bits is kept as it is
pub kept : (z : ℤ) → mag z < 2 ^ 63 → to_z w64 (of_z w64 z) ≡ z
kept z small = let fits : SFits w64 z = omega (arith, ints) in to_z-of_z w64 z fits

-- with a link register sequences change the depth, and without one the stack pointer's moves do
pub by_sequence : (view : DepthView) (k : ℕ) → is_some view.link ≡ true → depth_change view k ≡ added_within view k longest
unfolding depth_change
by_sequence view k linked = rw linked refl

pub by_move : (view : DepthView) (k : ℕ) → is_some view.link ≡ false → depth_change view k ≡ moved_by (view.flow k)
unfolding depth_change
by_move view k unlinked = rw unlinked refl

-- the flow of an instruction in a list
pub flow_there : {I : Type 0} (set : InstructionSet I) (shape : Shape) (code : List (Placed I)) (k : ℕ) (none : Placed I)
    → k < length code
    → flow_in set shape (slice_get (map (λ placed. placed.instr) code) k) ≡ flow_of (set.effect (get_or code k none).instr 0) shape
flow_there set shape code k none inside =
    let got = slice_get-get_or code k none inside in rw (slice_get-map, got) refl
