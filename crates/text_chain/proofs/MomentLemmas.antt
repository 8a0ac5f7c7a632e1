-- A dump of a moment of a run has the text of its calls.
use Rattle.std.proofs.Common.{◌≡◌, ℕ, zero, suc, ◌+◌, ◌-◌, ◌<◌, ◌&&◌, Bool, true, false, List, [], ◌∷◌, ◌++◌, codes, length, Option, Some, nat_le, nat_lt, slice_index, slice_get, if◌then◌else◌, refl, sym, ap, ◌∙◌, arith, inl, inr}
use Rattle.std.proofs.lemmas.Bool.{cases_lt}
use Rattle.std.proofs.lemmas.Bool.Decides.{nat_tests}
use Rattle.std.proofs.lemmas.List.Elements.{All-cons, All-head, All-nil, All-tail}
use Rattle.std.proofs.lemmas.Option.{slice_get-get_or}
use Rattle.std.specs.FinMap as map
use Rattle.std.specs.List.{All}
use Rattle.std.specs.Option.{option_and_then, option_map, unwrap_or}
use Rattle.std.specs.Ordering.{nat_cmp}
use Rattle.elf_image.specs.Contents.{table_in, text_in}
use Rattle.flow_rules.specs.Placing.{Surroundings}
use Rattle.goasm_base.specs.Numbers.{hex_text}
use Rattle.image_model.specs.Image.{Image}
use Rattle.image_model.specs.Kept.{ChainCall, SlotsStay, chain_of, until}
use Rattle.image_model.specs.Listed.{Listed}
use Rattle.image_model.specs.Steps.{Moment, sp_of}
use Rattle.image_rules.specs.Functions.{AreFunctionsOf}
use Rattle.image_rules.specs.Machine.{Machine}
use Rattle.image_rules.specs.Parts.{Surrounds, count_in, entry_in, offset_in}
use Rattle.image_rules.specs.Sound.{IsSoundImage}
use Rattle.image_runs.proofs.EffectLemmas.{each_slot}
use Rattle.machine_dump.specs.Contents.{byte_in, byte_of, bytes_from, ranges_of}
use Rattle.machine_dump.specs.Form.{Range, end_of}
use Rattle.machine_effect.specs.Memory.{Memory, byte_at, bytes_at, number_of, put, word_at}
use Rattle.machine_effect.specs.Stores.{BytesStay}
use Rattle.machine_effect.proofs.MemoryLemmas.{byte_at-put}
use Rattle.pcvalue.specs.declared.answer.Answer.{Answer}
use Rattle.pclntab.specs.Func.{HasPc, file_at, func_at, line_at, name_of}
use Rattle.text_chain.specs.Chain.{IsChainText, words_of}
use Rattle.text_chain.specs.Lines.{call_text, calls_text, found_text, frame_text, frames_text, value_text}
use Rattle.text_chain.specs.Moments.{IsPrinted, Records, moment_text}
use Rattle.text_chain.proofs.OneLemmas.{AreSettled, no_refusal, one_text}
use Rattle.image_check.specs.declared.seen.Seen.{Seen}
use Rattle.unwind.specs.Looks.{AreCalls, IsCall, WalksToChain, image_of, is_top_entry}
use Rattle.unwind.proofs.StretchLemmas.{found_in}

-- the memory that a dump has

memory_of : List Range → Memory
memory_of [] = map.empty
memory_of (range ∷ ranges) = put (memory_of ranges) range.first range.bytes

has_byte : (bytes : List ℕ) (first at : ℕ) → (nat_le first at && nat_lt at (first + length bytes)) ≡ true
    → slice_get bytes (at - first) ≡ Some (slice_index bytes (at - first))
has_byte bytes first at within =
    let less : at - first < length bytes = grind (arith, nat_tests) in
    slice_get-get_or bytes (at - first) 0 less

if_same : (test : Bool) (x y z w : Option ℕ) → (test ≡ true → x ≡ z) → y ≡ w → (if test then x else y) ≡ (if test then z else w)
if_same true x y z w on off = on refl
if_same false x y z w on off = off

bytes_there : (ranges : List Range) (at : ℕ) → byte_at (memory_of ranges) at ≡ byte_in ranges at
unfolding byte_in memory_of
bytes_there [] at = map.get-empty nat_cmp at
bytes_there (range ∷ ranges) at =
    byte_at-put range.bytes (memory_of ranges) range.first at
    ∙ if_same (nat_le range.first at && nat_lt at (end_of range)) (slice_get range.bytes (at - range.first)) (byte_at (memory_of ranges) at)
    (Some (slice_index range.bytes (at - range.first))) (byte_in ranges at) (has_byte range.bytes range.first at) (bytes_there ranges at)

same_bytes : (byte : ℕ → Option ℕ) (memory : Memory) → ((at : ℕ) → byte_at memory at ≡ byte at) → (count at : ℕ)
    → bytes_from byte at count ≡ bytes_at memory at count
unfolding bytes_from bytes_at
same_bytes byte memory agree zero at = refl
same_bytes byte memory agree (suc count) at =
    ap (λ (rest : Option (List ℕ)). option_and_then (λ (value : ℕ). option_map (λ (more : List ℕ). value ∷ more) rest) (byte at))
    (same_bytes byte memory agree count (at + 1))
    ∙ ap (option_and_then (λ (value : ℕ). option_map (λ (more : List ℕ). value ∷ more) (bytes_at memory (at + 1) count))) (sym (agree at))

words_there : (dump : List ℕ) (at : ℕ) → words_of dump at ≡ word_at (memory_of (ranges_of dump)) at
words_there dump at =
    ap (option_map number_of) (same_bytes (byte_of dump) (memory_of (ranges_of dump)) (bytes_there (ranges_of dump)) 8 at)

-- a frame that shows a call has its line

module _ {Instr : Type 0} (machine : Machine Instr) (bytes : List ℕ) (sound : IsSoundImage machine bytes) where
  has_entry : (index : ℕ) → index < count_in bytes → HasPc (table_in bytes) index (entry_in bytes index)
  has_entry index inside =
      elim (cases_lt (suc index) (count_in bytes)) as (λ _. HasPc (table_in bytes) index (entry_in bytes index)) [
        | inl more ↦ (let rise = sound.readable.profile.rises index more in
            let next : offset_in bytes (suc index) ≡ offset_in bytes (index + 1) = ap (offset_in bytes) (omega arith) in
            record { from = omega arith; before = omega arith })
        | inr last ↦
            (let behind : count_in bytes ≡ index + 1 = omega arith in
            let past : offset_in bytes (index + 1) ≡ length (text_in bytes) = ap (offset_in bytes) (sym behind) ∙ sound.readable.profile.past in
            let less = sound.readable.profile.inside index inside in
            record { from = omega arith; before = omega arith })
      ]

  shown_text : (seen : Seen) (call : ChainCall) → IsCall bytes seen call → frame_text bytes seen ≡ call_text bytes call
  shown_text seen call is =
      let table : List ℕ = table_in bytes in
      let found : func_at table call.func ≡ Some seen.func =
      ap (func_at table) (sym is.func)
      ∙ found_in table (entry_in bytes seen.func) seen.func sound.readable.table.order is.inside (has_entry seen.func is.inside) in
      let line_with = λ (file : Option (List ℕ)) (line : Answer) (pc : ℕ).
      (unwrap_or (name_of table seen.func) [] ++ codes " " ++ unwrap_or file [] ++ codes ":" ++ value_text line)
      ++ codes " " ++ hex_text pc ++ codes "\n" in
      ap (λ (file : Option (List ℕ)). line_with file (line_at table seen.func seen.look) seen.pc) is.file
      ∙ ap (λ (line : Answer). line_with (file_at table seen.func call.look) line seen.pc) is.line
      ∙ ap (λ (pc : ℕ). line_with (file_at table seen.func call.look) (line_at table seen.func call.look) pc) is.pc
      ∙ ap (λ (func : Option ℕ). found_text bytes func call.pc call.look) (sym found)

  shown_texts : (seen : List Seen) (calls : List ChainCall) → AreCalls bytes seen calls → frames_text bytes seen ≡ calls_text bytes calls
  shown_texts [] [] are = refl
  shown_texts [] (call ∷ others) are = absurd are
  shown_texts (seen ∷ more) [] are = absurd are
  shown_texts (seen ∷ more) (call ∷ others) are =
      ap (λ (text : List ℕ). text ++ frames_text bytes more) (shown_text seen call are.0)
      ∙ ap (λ (text : List ℕ). call_text bytes call ++ text) (shown_texts more others are.1)

  module _ (settled : AreSettled machine) (around : Surroundings) (functions : ℕ → Listed Instr) (surrounds : Surrounds bytes around)
      (are : AreFunctionsOf machine bytes functions (count_in bytes)) where
    abbrev img : Image
    img = image_of machine bytes around functions

    slots_stay : (moment : Moment) (dump : List ℕ) → Records machine.number img moment dump
        → SlotsStay moment.state.mem (memory_of (ranges_of dump)) moment.calls
    slots_stay moment dump records =
        each_slot (λ slot. (k : ℕ) → k < 8 → byte_of dump (slot + k) ≡ byte_at moment.state.mem (slot + k))
        (λ slot. BytesStay moment.state.mem (memory_of (ranges_of dump)) slot 8)
        (λ slot same k less. bytes_there (ranges_of dump) (slot + k) ∙ same k less) moment.calls records.slots

    has_text : (moment : Moment) (dump : List ℕ) → WalksToChain machine bytes around functions moment
        → Records machine.number img moment dump → IsChainText machine bytes dump (moment_text bytes moment)
    has_text moment dump walks records =
        let gives = walks (memory_of (ranges_of dump)) (words_of dump) records.link (slots_stay moment dump records)
        (λ at low. words_there dump at) records.linked in
        record {
          own = records.machine;
          frames = gives.seen;
          walk = record {
            around = around;
            functions = functions;
            surrounds = surrounds;
            are = are;
            pc = moment.state.pc;
            sp = sp_of img moment.state;
            link = records.link;
            pc_is = records.pc;
            sp_is = records.sp;
            link_is = records.link_is;
            given = gives.given;
          };
          says = sym (shown_texts gives.seen (until (is_top_entry bytes) (chain_of moment)) gives.shown);
        }

    printed : (moment : Moment) → WalksToChain machine bytes around functions moment → IsPrinted machine bytes img moment
    printed moment walks = record {
      text = λ dump records. has_text moment dump walks records;
      only = λ dump text records is.
          one_text machine settled bytes dump text (moment_text bytes moment) is (has_text moment dump walks records);
      never = λ dump refusal records.
          no_refusal machine settled bytes dump (moment_text bytes moment) refusal (has_text moment dump walks records);
    }

    pub all_printed : (moments : List Moment) → All (WalksToChain machine bytes around functions) moments
        → All (IsPrinted machine bytes img) moments
    all_printed [] walk = All-nil (IsPrinted machine bytes img)
    all_printed (moment ∷ more) walk =
        All-cons (IsPrinted machine bytes img) moment more
        (printed moment (All-head (WalksToChain machine bytes around functions) moment more walk))
        (all_printed more (All-tail (WalksToChain machine bytes around functions) moment more walk))
