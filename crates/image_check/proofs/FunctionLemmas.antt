-- A function that was read, and why one isn't.
use Rattle.std.proofs.Common.{◌≡◌, ℕ, suc, List, [], ◌∷◌, ◌+◌, ◌%◌, ◌<◌, length, drop, refl, sym, ap, ◌∙◌, subst, arith, inl, inr}
use Rattle.std.specs.Prelude.{replicate}
use Rattle.std.specs.List.{flat_map}
use Rattle.std.proofs.lemmas.List.{append_cancel_left}
use Rattle.std.proofs.lemmas.Bool.{cases_lt}
use Rattle.asm_target.specs.declared.body.Placed.{Placed}
use Rattle.asm_target.specs.InstructionSet.{Begins, InstructionSet, IsListing}
use Rattle.elf_image.specs.Contents.{table_in, text_in}
use Rattle.pclntab.specs.Func.{FuncView, entry_of}
use Rattle.flow_rules.specs.Placing.{Surroundings}
use Rattle.image_rules.specs.Functions.{HasTables, IsCode, IsFunction, ends_from, padding_byte, placed_from}
use Rattle.image_rules.specs.Machine.{Machine}
use Rattle.image_rules.specs.Parts.{HasProfile, alignment, count_in, entry_in, offset_in, own_bytes}
use Rattle.image_rules.specs.Refusals.{IsUnread, IsUntold}
use Rattle.image_check.specs.Code.{IsCodeTo, IsInText, IsPadded, IsWhole}
use Rattle.image_check.specs.Tables.{AreTold}

length_placed : {Instr : Type 0} (set : InstructionSet Instr) (code : List Instr) (at : ℕ)
    → length (placed_from set at code) ≡ length code
length_placed set [] at = refl
length_placed set (first ∷ code) at =
    grind (arith, length_placed set code (at + length (set.spelling first)))

pub entry_is : (bytes table : List ℕ) (index entry : ℕ) (view : FuncView) → view ≡ record { bytes = table; index = index }
    → entry ≡ entry_of view.bytes view.index → table ≡ table_in bytes → entry ≡ entry_in bytes index
entry_is bytes table index entry view is at same =
    at ∙ ap (λ func. entry_of func.bytes func.index) is ∙ ap (λ list. entry_of list index) same

module _ {Instr : Type 0} (machine : Machine Instr) (bytes : List ℕ) (index : ℕ) where
  -- each function of a table that fits its image lies in the text
  pub in_text : HasProfile bytes machine → index < count_in bytes → IsInText bytes index
  in_text profile inside = elim (cases_lt (suc index) (count_in bytes)) as (λ _. IsInText bytes index) [
    | inl more ↦
        let rises = profile.rises index more in
        let within = profile.inside (suc index) more in
        record { start = profile.start; rises = omega (arith, rises); inside = omega (arith, within) }
    | inr none ↦
        let last : suc index ≡ count_in bytes = omega (arith, inside, none) in
        let past : offset_in bytes (suc index) ≡ length (text_in bytes) = ap (offset_in bytes) last ∙ profile.past in
        let within = profile.inside index inside in
        record { start = profile.start; rises = omega (arith, within, past); inside = omega (arith, past) }
  ]

  module _ (own : List ℕ) (same : own ≡ own_bytes bytes index) (entry : ℕ) (here : entry ≡ entry_in bytes index) (byte : ℕ)
      (pads : byte ≡ padding_byte machine.number) (placed : List (Placed Instr)) (ends : List ℕ) (size : ℕ)
      (known : IsCodeTo machine.set machine.fits own entry placed ends size)
      (over : (i : Instr) → machine.fits i → ¬ Begins machine.set (drop size own) i) where
    listing : IsListing machine.set machine.fits (own_bytes bytes index) known.code (drop size own)
    listing = record { fit = known.fit; whole = sym same ∙ known.whole; ends = over }

    count : length placed ≡ length known.code
    count = ap length known.places ∙ length_placed machine.set known.code entry

    is_code : IsWhole byte (length placed) own (drop size own)
        → IsCode machine (own_bytes bytes index) known.code
    is_code whole = record {
      rest = drop size own;
      listing = listing;
      some = omega (arith, whole.some, count);
      padding = whole.padded.same ∙ ap (replicate (length (drop size own))) pads;
      short = whole.padded.short;
      whole = ap (λ list. length list % alignment) (sym same) ∙ whole.padded.whole;
    }

    -- what stands behind the instructions is one
    one_rest : (code : IsCode machine (own_bytes bytes index) known.code) → code.rest ≡ drop size own
    one_rest code = append_cancel_left (flat_map machine.set.spelling known.code) code.rest (drop size own)
        (sym code.listing.whole ∙ sym same ∙ known.whole)

    code_whole : IsCode machine (own_bytes bytes index) known.code
        → IsWhole byte (length placed) own (drop size own)
    code_whole code =
        let rest = one_rest code in
        record {
          some = omega (arith, code.some, count);
          padded = subst (IsPadded byte own) rest (record {
            same = code.padding ∙ ap (replicate (length code.rest)) (sym pads);
            short = code.short;
            whole = ap (λ list. length list % alignment) same ∙ code.whole;
          });
        }

    pub unread : (around : Surroundings)
        → ¬ IsWhole byte (length placed) own (drop size own) → IsUnread machine bytes around index (entry + size)
    unread around broken = record {
      code = known.code;
      rest = drop size own;
      listing = listing;
      at = omega (arith, here, known.long);
      unlike = λ code. broken (code_whole code);
    }

    module _ (table : List ℕ) (is_table : table ≡ table_in bytes)
        (whole : IsWhole byte (length placed) own (drop size own)) where
      told_by : (depths : List ℕ) → HasTables machine bytes index known.code depths → AreTold table index ends depths
      told_by depths has =
          subst (λ list. AreTold list index ends depths) (sym is_table)
          (subst (λ list. AreTold (table_in bytes) index list depths) (sym known.behind) (record {
            depth = has.depth;
            line = record { lines = has.lines; over = has.line };
            file = record { files = has.files; over = has.file; named = has.named };
          }))

      tables_of : (depths : List ℕ) → AreTold table index ends depths → HasTables machine bytes index known.code depths
      tables_of depths told =
          let told_here : AreTold (table_in bytes) index (ends_from machine.set 0 known.code) depths =
          subst (λ list. AreTold (table_in bytes) index list depths) known.behind
          (subst (λ list. AreTold list index ends depths) is_table told) in
          record {
            depth = told_here.depth;
            lines = told_here.line.lines;
            line = told_here.line.over;
            files = told_here.file.files;
            file = told_here.file.over;
            named = told_here.file.named;
          }

      pub untold : (around : Surroundings) → ((depths : List ℕ) → ¬ AreTold table index ends depths) → IsUntold machine bytes around index entry
      untold around none = record {
        code = known.code;
        is_code = is_code whole;
        at = here;
        unlike = λ depths has. none depths (told_by depths has);
      }

      pub function : (depths : List ℕ) → AreTold table index ends depths
          → IsFunction machine bytes index (record { code = placed; depths = depths })
      function depths told = record {
        code = known.code;
        is_code = is_code whole;
        placed = known.places ∙ ap (λ at. placed_from machine.set at known.code) here;
        tables = tables_of depths told;
      }
