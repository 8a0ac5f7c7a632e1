-- What stands for data is kept, and has a place.
use Rattle.std.proofs.Common.{◌≡◌, ◌⊎◌, inl, inr, true, false, ℕ, zero, suc, ◌+◌, ◌≤◌, List, [], ◌∷◌, ◌++◌, Some, refl, sym, ap, ◌∙◌, arith}
use Rattle.std.specs.Prelude.{All}
use Rattle.std.specs.List.{slice_get}
use Rattle.std.proofs.lemmas.Bool.{cases_Bool}
use Rattle.std.proofs.lemmas.List.Elements.{All-nil, All-cons, All-head, All-tail, All-append}
use Rattle.byte_layout.specs.Joined.{aligned}
use Rattle.asm_parse.specs.declared.unit.Unit.{Unit as Said}
use Rattle.asm_parse.specs.declared.unit.GlobalPart.{GlobalPart}
use Rattle.goasm_base.specs.declared.statement.Function.{Function as Code}
use Rattle.link_names.specs.declared.definition.Meaning.TheVariants.{Value}
use Rattle.link_names.specs.Definitions.{Key, Entry, is_same, each_from, key_at, meaning_in, function_entry, value_entry, outside_entry, function_entries, value_entries, outside_entries, unit_entries, entries_of}
use Rattle.link_names.proofs.KeyLemmas.{same_key}
use Rattle.link_places.specs.Addresses.{address_in}
use Rattle.link_places.specs.Addresses as told
use Rattle.link_places.specs.Places.{places_from, end_from}
use Rattle.link_places.proofs.AddressLemmas.{same_itself, same_meaning}
use Rattle.link_places.proofs.PlaceLemmas.{end_from-le}
use Rattle.link_values.specs.declared.kept.KeptValue.{KeptValue}
use Rattle.link_values.specs.Kept.{is_value, value_kept, unit_kept, kept_values, sizes_of, placed}
use Rattle.link_values.specs.Values.{AreNamesOf, value_places, values_end}

abbrev Among : {X : Type 0} → X → List X → Type 0
Among x [] = ⊥
Among x (y ∷ ys) = (y ≡ x) ⊎ Among x ys

among_front : {X : Type 0} (x : X) (front back : List X) → Among x front → Among x (front ++ back)
among_front x [] back among = absurd among
among_front x (y ∷ front) back (inl here) = inl here
among_front x (y ∷ front) back (inr later) = inr (among_front x front back later)

among_back : {X : Type 0} (x : X) (front back : List X) → Among x back → Among x (front ++ back)
among_back x [] back among = among
among_back x (y ∷ front) back among = inr (among_back x front back among)

module _ {X Y : Type 0} (make : ℕ → X → List Y) where
  -- what is made of an item is among what is made of all
  each_among : (number k at : ℕ) (items : List X) (item : X) (y : Y) → number + k ≡ at → slice_get items k ≡ Some item → Among y (make at item)
      → Among y (each_from number make items)
  unfolding each_from
  each_among number k at [] item y is here among = absurd cc
  each_among number zero at (first ∷ items) item y is here among =
      let same : first ≡ item = cc in
      let place : at ≡ number = omega (arith, is) in
      among_front y (make number first) (each_from (number + 1) make items) (rw (same, ← place) among)
  each_among number (suc k) at (first ∷ items) item y is here among =
      among_back y (make number first) (each_from (number + 1) make items) (each_among (number + 1) k at items item y (omega (arith, is)) here among)

  -- what holds of all that is made of each item holds of all
  each_all : (P : Y → Type 0) (number : ℕ) (items : List X)
      → ((k at : ℕ) (item : X) → number + k ≡ at → slice_get items k ≡ Some item → All P (make at item)) → All P (each_from number make items)
  unfolding each_from
  each_all P number [] holds = All-nil P
  each_all P number (first ∷ items) holds =
      All-append P (make number first) (each_from (number + 1) make items)
      (holds 0 number first (omega arith) refl)
      (each_all P (number + 1) items (λ k at item is here. holds (suc k) at item (omega (arith, is)) here))

-- the symbol of an entry of data is that of its `GLOBL`
abbrev IsRight : List Said → Entry → Type 0
IsRight units entry = (unit number : ℕ) (said : Said) (global : GlobalPart) → entry.1.meaning ≡ Value unit number → slice_get units unit ≡ Some said
    → slice_get said.globals number ≡ Some global → entry.0 ≡ key_at unit said.symbols global.sym

module _ (units : List Said) where
  value_right : (unit : ℕ) (said : Said) (number : ℕ) (global : GlobalPart) → slice_get units unit ≡ Some said → slice_get said.globals number ≡ Some global
      → IsRight units (value_entry unit said.symbols number global)
  value_right unit said number global here there its place other declared is at under =
      let one : unit ≡ its = cc in
      let two : number ≡ place = cc in
      let same : said ≡ other = let found : slice_get units unit ≡ Some other = rw one at in cc in
      let global_same : global ≡ declared = let found : slice_get said.globals number ≡ Some declared = rw (two, same) under in cc in
      rw (one, same, global_same) refl

  unit_right : (unit : ℕ) (said : Said) → slice_get units unit ≡ Some said → All (IsRight units) (unit_entries unit said)
  unit_right unit said here =
      All-append (IsRight units) (function_entries unit said.symbols said.functions) (value_entries unit said.symbols said.globals)
      (each_all (λ (number : ℕ) (function : Code). function_entry unit said.symbols number function ∷ []) (IsRight units) 0 said.functions
      (λ k at function is there. All-cons (IsRight units) (function_entry unit said.symbols at function) [] (λ its place other declared wrong. absurd cc) (All-nil (IsRight units))))
      (each_all (λ (number : ℕ) (global : GlobalPart). value_entry unit said.symbols number global ∷ []) (IsRight units) 0 said.globals
      (λ k at global is there.
      let same : k ≡ at = omega (arith, is) in
      let found : slice_get said.globals at ≡ Some global = rw (← same) there in
      All-cons (IsRight units) (value_entry unit said.symbols at global) [] (value_right unit said at global here found) (All-nil (IsRight units))))

  all_right : (outside : List (List ℕ × ℕ)) → All (IsRight units) (entries_of units outside)
  all_right outside =
      All-append (IsRight units) (each_from 0 unit_entries units) (outside_entries outside)
      (each_all unit_entries (IsRight units) 0 units
      (λ k at said is here.
      let same : k ≡ at = omega (arith, is) in
      let found : slice_get units at ≡ Some said = rw (← same) here in
      unit_right at said found))
      (each_all (λ (number : ℕ) (name : List ℕ × ℕ). outside_entry number name ∷ []) (IsRight units) 0 outside
      (λ k at name is there. All-cons (IsRight units) (outside_entry at name) [] (λ its place other declared wrong. absurd cc) (All-nil (IsRight units))))

  -- a symbol that stands for data is that of its `GLOBL`
  right_key : (entries : List Entry) (key : Key) (unit number : ℕ) (said : Said) (global : GlobalPart) → All (IsRight units) entries
      → meaning_in entries key ≡ Some (Value unit number) → slice_get units unit ≡ Some said → slice_get said.globals number ≡ Some global
      → key ≡ key_at unit said.symbols global.sym
  right_key [] key unit number said global right means here there = absurd cc
  right_key (entry ∷ entries) key unit number said global right means here there =
      elim (cases_Bool (is_same key entry.0)) [
        | inl same ↦
            let own : Some entry.1.meaning ≡ Some (Value unit number) = rw same at means in
            let meaning : entry.1.meaning ≡ Value unit number = cc in
            same_key key entry.0 same ∙ All-head (IsRight units) entry entries right unit number said global meaning here there
        | inr later ↦
            let rest : meaning_in entries key ≡ Some (Value unit number) = rw later at means in
            right_key entries key unit number said global (All-tail (IsRight units) entry entries right) rest here there
      ]

-- so it is kept
module _ (names : List Entry) (units : List Said) (are : AreNamesOf names units) (unit number : ℕ) (said : Said) (global : GlobalPart)
    (here : slice_get units unit ≡ Some said) (there : slice_get said.globals number ≡ Some global) where
  abbrev kept_one : KeptValue
  kept_one = record { unit = unit; number = number; size = global.size }

  its_value : (key : Key) → meaning_in names key ≡ Some (Value unit number)
      → is_value unit number (meaning_in names (key_at unit said.symbols global.sym)) ≡ true
  its_value key means =
      let same = right_key units (entries_of units are.0) key unit number said global (all_right units are.0) (sym (are.1 key) ∙ means) here there in
      ap (is_value unit number) (ap (meaning_in names) (sym same) ∙ means) ∙ same_itself (Value unit number)

  one_kept : (key : Key) → meaning_in names key ≡ Some (Value unit number) → Among kept_one (kept_values names units)
  one_kept key means =
      let own : Among kept_one (value_kept names unit said.symbols number global) = rw (its_value key means) (inl refl) in
      each_among (unit_kept names) 0 unit unit units said kept_one (omega arith) here
      (each_among (value_kept names unit said.symbols) 0 number number said.globals global kept_one (omega arith) there own)

-- and of the size that its `GLOBL` says
abbrev HasSize : List Said → KeptValue → Type 0
HasSize units value = (said : Said) (global : GlobalPart) → slice_get units value.unit ≡ Some said → slice_get said.globals value.number ≡ Some global
    → value.size ≡ global.size

module _ (names : List Entry) (units : List Said) where
  value_size : (unit : ℕ) (said : Said) (number : ℕ) (global : GlobalPart) → slice_get units unit ≡ Some said → slice_get said.globals number ≡ Some global
      → All (HasSize units) (value_kept names unit said.symbols number global)
  value_size unit said number global here there =
      elim (cases_Bool (is_value unit number (meaning_in names (key_at unit said.symbols global.sym)))) [
        | inl is ↦
            rw is (All-cons (HasSize units) (record { unit = unit; number = number; size = global.size }) []
            (λ other declared at under.
            let same : said ≡ other = cc in
            let found : slice_get said.globals number ≡ Some declared = rw same under in
            let equal : global ≡ declared = cc in
            ap (λ (part : GlobalPart). part.size) equal)
            (All-nil (HasSize units)))
        | inr other ↦ rw other (All-nil (HasSize units))
      ]

  all_sizes : All (HasSize units) (kept_values names units)
  all_sizes =
      each_all (unit_kept names) (HasSize units) 0 units
      (λ k at said is here.
      let same : k ≡ at = omega (arith, is) in
      let found : slice_get units at ≡ Some said = rw (← same) here in
      each_all (value_kept names at said.symbols) (HasSize units) 0 said.globals
      (λ n place global equal there.
      let its : n ≡ place = omega (arith, equal) in
      let declared : slice_get said.globals place ≡ Some global = rw (← its) there in
      value_size at said place global found declared))

-- where it stands, it ends within all data
placed_within : (units : List Said) (kept : List KeptValue) (end unit number : ℕ) (said : Said) (global : GlobalPart)
    → slice_get units unit ≡ Some said → slice_get said.globals number ≡ Some global → All (HasSize units) kept
    → Among (record { unit = unit; number = number; size = global.size }) kept
    → (place : ℕ) × (address_in (placed kept (places_from end (sizes_of kept))) (Some (Value unit number)) ≡ Some place)
    × (place + global.size ≤ end_from end (sizes_of kept))
unfolding placed places_from end_from
placed_within units [] end unit number said global here there sizes among = absurd among
placed_within units (value ∷ kept) end unit number said global here there sizes among =
    elim (cases_Bool (told.is_same (Value unit number) (Value value.unit value.number))) [
      | inl same ↦
          let equal : Value unit number ≡ Value value.unit value.number = same_meaning (Value unit number) (Value value.unit value.number) same in
          let its : value.unit ≡ unit = cc in
          let place : value.number ≡ number = cc in
          let size : value.size ≡ global.size = All-head (HasSize units) value kept sizes said global (rw its here) (rw place there) in
          rw same (aligned 16 end, refl, omega (arith, size, end_from-le (aligned 16 end + value.size) (sizes_of kept)))
      | inr apart ↦
          let later : Among (record { unit = unit; number = number; size = global.size }) kept
          = elim among [
            | inl is ↦
                let wrong : told.is_same (Value unit number) (Value unit number) ≡ false = rw is at apart in
                let right = same_itself (Value unit number) in
                absurd cc
            | inr rest ↦ rest
          ] in
          rw apart (placed_within units kept (aligned 16 end + value.size) unit number said global here there (All-tail (HasSize units) value kept sizes) later)
    ]

-- what stands for data has a place, and ends within all data
pub value_within : (names : List Entry) (units : List Said) → AreNamesOf names units → (key : Key) (unit number : ℕ) (said : Said) (global : GlobalPart)
    → meaning_in names key ≡ Some (Value unit number) → slice_get units unit ≡ Some said → slice_get said.globals number ≡ Some global
    → (place : ℕ) × (address_in (value_places names units) (Some (Value unit number)) ≡ Some place) × (place + global.size ≤ values_end names units)
value_within names units are key unit number said global means here there =
    placed_within units (kept_values names units) 0 unit number said global here there (all_sizes names units)
    (one_kept names units are unit number said global here there key means)
