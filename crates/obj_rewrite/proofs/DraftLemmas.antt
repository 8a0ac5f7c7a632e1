-- Lines that are added to a draft.
use Rattle.std.proofs.Common.{◌≡◌, ℕ, suc, ℤ, pos, ◌+ℤ◌, ◌+◌, ◌-◌, ◌<◌, List, [], ◌∷◌, ◌++◌, map, length, drop, get_or, Bool, false, Option, Some, sym, ap, ◌∙◌, add-one}
use Rattle.std.proofs.lemmas.List.{map-append, length-map}
use Rattle.std.proofs.lemmas.Option.{slice_get_within, get_or_from_slice_get}
use Rattle.std.proofs.Math.Seq.{drop-cons}
use Rattle.std.specs.List.{slice_get}
use Rattle.goasm_base.specs.declared.pos.Pos.{Pos}
use Rattle.machine_effect.specs.declared.flow.Shape.{Shape}
use Rattle.asm_target.specs.declared.body.Line.{Line}
use Rattle.asm_target.specs.declared.body.Placed.{Placed}
use Rattle.asm_target.specs.declared.refer.Picked.{Picked}
use Rattle.asm_target.specs.declared.sequence.Sequence.{Sequence}
use Rattle.asm_target.specs.DepthChange.{depth_change, depth_view_of}
use Rattle.asm_target.specs.InstructionSet.{InstructionSet}
use Rattle.obj_rewrite.specs.declared.draft.Draft.{Draft}
use Rattle.obj_rewrite.specs.Draft.{IsDraft, written}
use Rattle.obj_rewrite.specs.Rewriting.{added, clamped, code_of, last_change, line_of}

-- what a list has from one place on
pub from_here : {X : Type 0} (xs : List X) (k : ℕ) (x : X) → k < length xs → x ≡ get_or xs k x → drop k xs ≡ x ∷ drop (k + 1) xs
from_here xs k x inside same = rw (add-one) (drop-cons xs k x inside ∙ ap (λ here. here ∷ drop (suc k) xs) (sym same))

pub from_place : {X : Type 0} (xs : List X) (k : ℕ) (x : X) → slice_get xs k ≡ Some x → drop k xs ≡ x ∷ drop (k + 1) xs
from_place xs k x there =
    from_here xs k x (slice_get_within xs k x there) (sym (get_or_from_slice_get xs k x x there))

-- the draft with a line more is the code with a line more
pub with_line : {I : Type 0} (set : InstructionSet I) (shape : Shape) (begins : List I → Sequence) (draft : Draft I)
    (pick : Picked I) (place : Pos) (stmt : Option ℕ) (lines : List (Line I)) (code : List (Placed I)) (depths : List ℕ)
    (seen targets : List Bool) (last depth : ℕ) (by : ℤ) (awaited : Bool) → IsDraft draft
    → lines ≡ draft.lines.items ++ line_of pick place draft.depth stmt ∷ []
    → code ≡ draft.code.items ++ record { at = 0; len = 0; instr = pick.instr } ∷ []
    → depths ≡ draft.depths.items ++ draft.depth ∷ []
    → targets ≡ draft.targets.items ++ draft.awaited ∷ []
    → seen ≡ targets → last ≡ length code - 1
    → by ≡ depth_change (depth_view_of set shape begins (map (λ placed. placed.instr) code) depths seen) last
    → depth ≡ clamped (pos draft.depth +ℤ by) → awaited ≡ false
    → code_of lines targets depth awaited ≡ added (last_change set shape begins) (written draft) pick place stmt
unfolding added
with_line set shape begins draft pick place stmt lines code depths seen targets last depth by awaited is e1 e2 e3 e4 e0 e5 e6 e7 e8 =
    let instrs : map (λ placed. placed.instr) code ≡ map (λ line. line.instr) lines =
    ap (map (λ placed. placed.instr)) e2 ∙ map-append (λ placed. placed.instr) draft.code.items _
    ∙ ap (λ front. front ++ pick.instr ∷ []) is.code
    ∙ sym (ap (map (λ line. line.instr)) e1 ∙ map-append (λ line. line.instr) draft.lines.items _) in
    let same : depths ≡ map (λ line. line.depth) lines =
    e3 ∙ ap (λ front. front ++ draft.depth ∷ []) is.depths
    ∙ sym (ap (map (λ line. line.depth)) e1 ∙ map-append (λ line. line.depth) draft.lines.items _) in
    let last' : last ≡ length (map (λ line. line.instr) lines) - 1 =
    e5 ∙ ap (λ n. n - 1) (sym (length-map code (λ placed. placed.instr)) ∙ ap length instrs) in
    let by' : by ≡ last_change set shape begins (map (λ line. line.instr) lines) (map (λ line. line.depth) lines) targets = cc in
    cc
