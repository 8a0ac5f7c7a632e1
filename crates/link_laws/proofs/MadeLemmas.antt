-- An image that is made of functions is sound.
use Rattle.std.specs.Prelude.{replicate}
use Rattle.std.proofs.Common.{◌≡◌, ◌⊎◌, ℕ, zero, suc, ◌+◌, ◌-◌, ◌%◌, ◌≤◌, ◌<◌, ◌==◌, false, List, [], ◌∷◌, ◌++◌, All, length, take, drop, Option, Some, refl, sym, ap, ◌∙◌, subst, arith, inl, inr, length-append}
use Rattle.std.specs.List.{flat_map, slice_get}
use Rattle.std.proofs.Math.Seq.{take-append_seam, take-length, drop-append-add}
use Rattle.std.proofs.lemmas.Bool.Decides.{nat_tests}
use Rattle.std.proofs.lemmas.List.{length-replicate}
use Rattle.std.proofs.lemmas.List.Elements.{All-cons, All-head, All-nil, All-tail}
use Rattle.std.proofs.lemmas.Option.{slice_get_within}
use Rattle.machine_effect.specs.declared.flow.Shape.{Shape}
use Rattle.asm_target.proofs.PlaceLemmas.{item_at}
use Rattle.asm_target.specs.Architecture.{IsArchitecture}
use Rattle.asm_target.specs.FlowFunction.{Range, is_within}
use Rattle.asm_target.specs.InstructionSet.{Begins}
use Rattle.asm_target.specs.Laws.{AvoidsPadding, HasLengths}
use Rattle.elf_image.specs.Contents.{outside_in, text_in}
use Rattle.image_rules.specs.Functions.{IsCode, padding_byte}
use Rattle.image_rules.specs.Machine.{Machine}
use Rattle.image_rules.specs.Parts.{HasProfile, count_in, entry_in, image_range, offset_in, own_bytes}
use Rattle.image_rules.specs.Sound.{IsSoundFunction, IsSoundImage}
use Rattle.link_laws.specs.Made.{IsMadeOf, Made, bytes_of, listed_at, padded, padding_behind}

-- what pads a function to a multiple of 16
padding_whole : (at : ℕ) → (at + padding_behind at) % 16 ≡ 0
padding_whole at = omega arith

padding_short : (at : ℕ) → padding_behind at < 16
padding_short at = omega arith

padding_quanta : (at : ℕ) → at % 4 ≡ 0 → padding_behind at % 4 ≡ 0
padding_quanta at whole = omega arith

-- what is known of the machine
pub record Known {Instr : Type 0} (machine : Machine Instr) : Type 0 where
  pub kind : ((machine.number ≡ 62) × (machine.quantum ≡ 1)) ⊎ (((machine.number == 62) ≡ false) × (machine.quantum ≡ 4))
  pub lengths : HasLengths machine.set machine.fits machine.quantum
  pub avoids : AvoidsPadding machine.set machine.fits machine.number

pub kind_of : (number quantum : ℕ) (shape : Shape) (growth : Option ℕ)
    → IsArchitecture (record { machine = number; quantum = quantum; shape = shape; growth = growth })
    → ((number ≡ 62) × (quantum ≡ 1)) ⊎ (((number == 62) ≡ false) × (quantum ≡ 4))
kind_of number quantum shape growth (inl one) = inl (ap (λ a. a.machine) one, ap (λ a. a.quantum) one)
kind_of number quantum shape growth (inr (inl one)) =
    inr (ap (λ a. a.machine == 62) one, ap (λ a. a.quantum) one)
kind_of number quantum shape growth (inr (inr one)) =
    inr (ap (λ a. a.machine == 62) one, ap (λ a. a.quantum) one)

module _ {Instr : Type 0} (machine : Machine Instr) (known : Known machine) where
  abbrev spelled : List Instr → ℕ
  spelled code = length (flat_map machine.set.spelling code)

  -- instructions have whole quanta of four bytes where the machine has such quanta
  whole_code : (code : List Instr) → All machine.fits code → machine.quantum ≡ 4 → spelled code % 4 ≡ 0
  whole_code [] fit four = refl
  whole_code (i ∷ code) fit four =
      let one : length (machine.set.spelling i) % machine.quantum ≡ 0 = (known.lengths i (All-head machine.fits i code fit)).whole in
      let one' : length (machine.set.spelling i) % 4 ≡ 0 = rw four at one in
      let rest = whole_code code (All-tail machine.fits i code fit) four in
      omega (arith, length-append (machine.set.spelling i) (flat_map machine.set.spelling code))

  some_code : (code : List Instr) → All machine.fits code → 0 < length code → 0 < spelled code
  some_code [] fit some = absurd (omega arith)
  some_code (i ∷ code) fit some =
      let one = (known.lengths i (All-head machine.fits i code fit)).least in
      omega (arith, length-append (machine.set.spelling i) (flat_map machine.set.spelling code))

  -- padding begins with no instruction
  none_begins : (i : Instr) → machine.fits i → ¬ Begins machine.set [] i
  none_begins i fit begins =
      let one = (known.lengths i fit).least in
      let size : length (machine.set.spelling i ++ drop (length (machine.set.spelling i)) []) ≡ 0 = ap length (sym begins) in
      absurd (omega (arith, length-append (machine.set.spelling i) (drop (length (machine.set.spelling i)) [])))

  int3_begins : (n : ℕ) → machine.number ≡ 62 → (i : Instr) → machine.fits i
      → ¬ Begins machine.set (replicate n (padding_byte machine.number)) i
  int3_begins zero amd64 i fit begins = none_begins i fit begins
  int3_begins (suc n) amd64 i fit begins =
      known.avoids i (replicate n (padding_byte machine.number)) fit
      (subst (λ bytes. Begins machine.set bytes i) (rw amd64 refl) begins)

  zeros_begin : (n : ℕ) → (machine.number == 62) ≡ false → n % 4 ≡ 0 → (i : Instr) → machine.fits i
      → ¬ Begins machine.set (replicate n (padding_byte machine.number)) i
  zeros_begin zero other whole i fit begins = none_begins i fit begins
  zeros_begin (suc zero) other whole i fit begins = absurd (omega arith)
  zeros_begin (suc (suc zero)) other whole i fit begins = absurd (omega arith)
  zeros_begin (suc (suc (suc zero))) other whole i fit begins = absurd (omega arith)
  zeros_begin (suc (suc (suc (suc n)))) other whole i fit begins =
      known.avoids i (replicate n (padding_byte machine.number)) fit
      (subst (λ bytes. Begins machine.set bytes i) (rw other refl) begins)

  padding_begins : (code : List Instr) → All machine.fits code → (i : Instr) → machine.fits i
      → ¬ Begins machine.set (replicate (padding_behind (spelled code)) (padding_byte machine.number)) i
  padding_begins code fits i fit begins =
      elim known.kind as (λ _. ⊥) [
        | inl amd64 ↦ int3_begins (padding_behind (spelled code)) amd64.0 i fit begins
        | inr other ↦
            zeros_begin (padding_behind (spelled code)) other.0 (padding_quanta (spelled code) (whole_code code fits other.1)) i fit
            begins
      ]

  length-padded : (code : List Instr) → length (padded machine code) ≡ spelled code + padding_behind (spelled code)
  length-padded code =
      length-append (flat_map machine.set.spelling code) (replicate (padding_behind (spelled code)) (padding_byte machine.number))
      ∙ ap (λ n. spelled code + n) (length-replicate (padding_behind (spelled code)) (padding_byte machine.number))

  whole_padded : (code : List Instr) → length (padded machine code) % 16 ≡ 0
  whole_padded code = rw (length-padded code) (padding_whole (spelled code))

  is_code : (code : List Instr) → All machine.fits code → 0 < length code → IsCode machine (padded machine code) code
  is_code code fit some = record {
    rest = replicate (padding_behind (spelled code)) (padding_byte machine.number);
    listing = record { fit = fit; whole = refl; ends = padding_begins code fit };
    some = some;
    padding = ap (λ n. replicate n (padding_byte machine.number))
        (sym (length-replicate (padding_behind (spelled code)) (padding_byte machine.number)));
    short = rw (length-replicate (padding_behind (spelled code)) (padding_byte machine.number)) (padding_short (spelled code));
    whole = whole_padded code;
  }

  -- how many bytes stand before a function
  abbrev before : List (Made Instr) → ℕ → ℕ
  before functions index = length (bytes_of machine (take index functions))

  whole_before : (functions : List (Made Instr)) (index : ℕ) → before functions index % 16 ≡ 0
  whole_before functions zero = refl
  whole_before [] (suc index) = refl
  whole_before (made ∷ functions) (suc index) =
      let one = whole_padded made.code in
      let rest = whole_before functions index in
      omega (arith, length-append (padded machine made.code) (bytes_of machine (take index functions)))

  next_before : (functions : List (Made Instr)) (index : ℕ) (made : Made Instr) → slice_get functions index ≡ Some made
      → before functions (suc index) ≡ before functions index + length (padded machine made.code)
  next_before [] index made here = absurd (cc)
  next_before (first ∷ functions) zero made here =
      let same : first ≡ made = cc in
      rw same (omega (arith, length-append (padded machine made.code) []))
  next_before (first ∷ functions) (suc index) made here =
      let rest = next_before functions index made here in
      omega (
        arith,
        length-append (padded machine first.code) (bytes_of machine (take index functions)),
        length-append (padded machine first.code) (bytes_of machine (take (suc index) functions)),
      )

  own_slice : (functions : List (Made Instr)) (index : ℕ) (made : Made Instr) → slice_get functions index ≡ Some made
      → take (length (padded machine made.code)) (drop (before functions index) (bytes_of machine functions)) ≡ padded machine made.code
  own_slice [] index made here = absurd (cc)
  own_slice (first ∷ functions) zero made here =
      let same : first ≡ made = cc in
      rw same (take-append_seam (padded machine made.code) (bytes_of machine functions))
  own_slice (first ∷ functions) (suc index) made here =
      ap (λ n. take (length (padded machine made.code)) (drop n (bytes_of machine (first ∷ functions))))
      (length-append (padded machine first.code) (bytes_of machine (take index functions)))
      ∙ ap (take (length (padded machine made.code)))
      (drop-append-add (padded machine first.code) (bytes_of machine functions) (before functions index))
      ∙ own_slice functions index made here

  within_all : (functions : List (Made Instr)) (index : ℕ) → before functions index ≤ length (bytes_of machine functions)
  within_all functions zero = omega arith
  within_all [] (suc index) = omega arith
  within_all (made ∷ functions) (suc index) =
      let rest = within_all functions index in
      omega (
        arith,
        length-append (padded machine made.code) (bytes_of machine (take index functions)),
        length-append (padded machine made.code) (bytes_of machine functions),
      )

  -- an address before a range isn't in it
  is_before : (range : Range) (at : ℕ) → at < range.first → is_within range at ≡ false
  is_before range at less = grind (arith, nat_tests)

  all_before : (range : Range) (symbols : List (List ℕ × ℕ)) → All (λ symbol. symbol.1 < range.first) symbols
      → All (λ symbol. is_within range symbol.1 ≡ false) symbols
  all_before range [] less = All-nil (λ (symbol : List ℕ × ℕ). is_within range symbol.1 ≡ false)
  all_before range (symbol ∷ symbols) less =
      All-cons (λ (symbol : List ℕ × ℕ). is_within range symbol.1 ≡ false) symbol symbols
      (is_before range symbol.1 (All-head (λ (symbol : List ℕ × ℕ). symbol.1 < range.first) symbol symbols less))
      (all_before range symbols (All-tail (λ (symbol : List ℕ × ℕ). symbol.1 < range.first) symbol symbols less))

  module _ (bytes : List ℕ) (functions : List (Made Instr)) (is : IsMadeOf machine bytes functions) where
    there : (index : ℕ) → index < count_in bytes → (made : Made Instr) × (slice_get functions index ≡ Some made)
    there index inside = item_at functions index (rw (sym is.count) inside)

    own : (index : ℕ) (made : Made Instr) → slice_get functions index ≡ Some made → own_bytes bytes index ≡ padded machine made.code
    own index made here =
        let within = slice_get_within functions index made here in
        let first = is.entries index (omega arith) in
        let next = is.entries (suc index) (omega arith) in
        let step = next_before functions index made here in
        let size : offset_in bytes (suc index) - offset_in bytes index ≡ length (padded machine made.code) = omega arith in
        ap (λ n. take n (drop (offset_in bytes index) (text_in bytes))) size
        ∙ ap (λ n. take (length (padded machine made.code)) (drop n (text_in bytes))) first
        ∙ ap (λ text. take (length (padded machine made.code)) (drop (before functions index) text)) is.text
        ∙ own_slice functions index made here

    rises : (index : ℕ) → index < count_in bytes → offset_in bytes index < offset_in bytes (suc index)
    rises index inside =
        let one = there index inside in
        let within = slice_get_within functions index one.0 one.1 in
        let made = is.each index one.0 one.1 in
        let first = is.entries index (omega arith) in
        let next = is.entries (suc index) (omega arith) in
        let step = next_before functions index one.0 one.1 in
        let some = some_code one.0.code made.fit made.some in
        let size = length-padded one.0.code in
        omega arith

    profile : HasProfile bytes machine
    profile = record {
      some = rw is.count is.some;
      number = is.number;
      quanta = is.quanta;
      start = is.start;
      first = is.entries 0 (omega arith);
      rises = λ index inside. rises index (omega arith);
      aligned = λ index inside.
          (let count = is.count in rw (is.entries index (omega arith)) (whole_before functions index));
      inside = λ index inside.
          (let count = is.count in
          let less = rises index inside in
          let next = is.entries (suc index) (omega arith) in
          let most = within_all functions (suc index) in
          let whole = ap length is.text in
          omega arith);
      past = (let last = is.entries (length functions) (omega arith) in
          ap (offset_in bytes) is.count ∙ last ∙ ap (λ all. length (bytes_of machine all)) (take-length functions) ∙ sym (ap length is.text));
      outside = all_before (image_range bytes) (outside_in bytes) is.outside;
    }

    function : (index : ℕ) (made : Made Instr) → slice_get functions index ≡ Some made
        → IsSoundFunction machine bytes is.around index (listed_at machine (entry_in bytes index) made)
    function index made here =
        let well = is.each index made here in
        record {
          function = record {
            code = made.code;
            is_code = subst (λ own. IsCode machine own made.code) (sym (own index made here)) (is_code made.code well.fit well.some);
            placed = refl;
            tables = well.tables;
          };
          flow = well.flow;
          goals = well.goals;
        }

    pub is_sound : IsSoundImage machine bytes
    is_sound = record {
      readable = record { image = is.image; table = is.table; profile = profile };
      around = is.around;
      surrounds = is.surrounds;
      functions = λ index inside.
          (let one = there index inside in (listed_at machine (entry_in bytes index) one.0, function index one.0 one.1));
    }
