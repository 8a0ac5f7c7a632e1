-- The functions of code that is the same, side by side.
use Rattle.std.proofs.Common.{◌≡◌, ℕ, List, [], ◌∷◌, map, Some, refl, sym, ap, ◌∙◌, subst}
use Rattle.std.specs.List.{AllZip, slice_get}
use Rattle.goasm_base.specs.declared.statement.Function.{Function}
use Rattle.asm_target.specs.declared.body.Body.{Body}
use Rattle.asm_target.specs.declared.body.Line.{Line}
use Rattle.asm_parse.specs.declared.unit.Unit.{Unit as Said}
use Rattle.unit_listing.specs.Lines.{symbol_name}
use Rattle.unit_listing.proofs.OneLemmas.{same_item}
use Rattle.link_functions.specs.declared.code.Part.{Part}
use Rattle.link_functions.specs.declared.code.UnitCode.{UnitCode}
use Rattle.link_build.specs.Functions.{Seen, functions_in, functions_of, seen_in}
use Rattle.link_build.proofs.PlaceLemmas.{zip_left}
use Rattle.link_flow.specs.Named.{IsNamed, line_name, refer_name}
use Rattle.build_answer.specs.Same.{IsSameCode, IsSamePart, IsSameUnit}
use Rattle.link_answer.proofs.ListLemmas.{zip_each}

module _ {Instr : Type 0} where
  -- two functions are the same one, with the same instructions
  pub record IsSameSeen (one other : Seen Instr) : Type 0 where
    pub number : one.number ≡ other.number
    pub unit : one.unit ≡ other.unit
    pub part : IsSamePart one.part other.part

  parts_seen : (number : ℕ) (said its : Said) → said ≡ its → (parts others : List (Part Instr)) → AllZip IsSamePart parts others
      → AllZip IsSameSeen (map (seen_in number said) parts) (map (seen_in number its) others)
  parts_seen number said its same [] [] are = tt
  parts_seen number said its same [] (other ∷ others) are = absurd are
  parts_seen number said its same (part ∷ parts) [] are = absurd are
  parts_seen number said its same (part ∷ parts) (other ∷ others) are =
      (record { number = refl; unit = same; part = are.0 }, parts_seen number said its same parts others are.1)

  pub same_seen : (code again : List (UnitCode Instr)) → IsSameCode code again → AllZip IsSameSeen (functions_in code) (functions_in again)
  same_seen code again same =
      zip_each functions_of IsSameUnit IsSameSeen
      (λ number one other is. parts_seen number one.unit.now other.unit.now is.unit one.parts.items other.parts.items is.parts)
      0 code again same

  -- those of one number are the same
  pub seen_at : (funcs twos : List (Seen Instr)) → AllZip IsSameSeen funcs twos → (number : ℕ) (one other : Seen Instr)
      → slice_get funcs number ≡ Some one → slice_get twos number ≡ Some other → IsSameSeen one other
  seen_at funcs twos are number one other here there =
      let found = zip_left IsSameSeen funcs twos number one are here in
      subst (IsSameSeen one) (same_item (sym found.1 ∙ there)) found.2

  -- their lines refer to things of the same names
  line_same : (one other : Seen Instr) → IsSameSeen one other → (line : Line Instr) → line_name one line ≡ line_name other line
  line_same one other same line =
      ap (λ (unit : Said). refer_name unit.symbols one.part.laid.flags (symbol_name unit.symbols one.part.function.now.sym) line.refer)
      same.unit
      ∙ ap (λ (function : Function). refer_name other.unit.symbols one.part.laid.flags (symbol_name other.unit.symbols function.sym) line.refer)
      same.part.function
      ∙ ap (λ (flags : ℕ). refer_name other.unit.symbols flags (symbol_name other.unit.symbols other.part.function.now.sym) line.refer)
      same.part.laid.flags

  pub one_name : (one other : Seen Instr) → IsSameSeen one other → (line its : ℕ) → line ≡ its → (name called : List ℕ)
      → IsNamed one line name → IsNamed other its called → name ≡ called
  one_name one other same line its equal name called named that =
      let here : slice_get one.part.laid.body.code its ≡ Some that.line
      = subst (λ (body : Body Instr). slice_get body.code its ≡ Some that.line) (sym same.part.laid.body) that.here in
      let there : slice_get one.part.laid.body.code line ≡ Some that.line
      = subst (λ number. slice_get one.part.laid.body.code number ≡ Some that.line) (sym equal) here in
      let item : named.line ≡ that.line = same_item (sym named.here ∙ there) in
      named.named ∙ ap (λ (item : Line Instr). line_name one item) item ∙ line_same one other same that.line ∙ sym that.named
