-- A name that stands for a function stands for one of those that the image has.
use Rattle.std.proofs.Common.{◌≡◌, Bool, true, false, ◌==◌, ◌&&◌, inl, inr, ℕ, ◌+◌, ◌<◌, ◌≤◌, List, [], ◌∷◌, map, length, Option, Some, None, refl, sym, ap, ◌∙◌, subst, arith}
use Rattle.std.specs.Prelude.{All, if◌then◌else◌, slice_get}
use Rattle.std.specs.Map.{lookup}
use Rattle.std.specs.Option.{option_map}
use Rattle.std.proofs.lemmas.Bool.{cases_lt}
use Rattle.std.proofs.lemmas.Bool.Decides.{nat_tests}
use Rattle.std.proofs.lemmas.List.Elements.{All-append}
use Rattle.std.proofs.lemmas.Map.Entries.{place_from_lookup}
use Rattle.std.proofs.lemmas.Option.{same_Some, slice_get-map, slice_get_within}
use Rattle.goasm_base.specs.declared.statement.Function.{Function}
use Rattle.asm_parse.specs.declared.unit.Unit.{Unit as Said}
use Rattle.link_names.specs.Data.{is_function}
use Rattle.link_names.specs.Definitions.{Entry, Key, each, entries_of, function_entries, function_entry, is_same, key_at, meaning_in, numbered, outside_entries, outside_entry, unit_entries, value_entries, value_entry}
use Rattle.link_names.specs.declared.definition.Definition.{Definition}
use Rattle.link_names.specs.declared.definition.Meaning.{Meaning}
use Rattle.link_names.specs.declared.definition.Meaning.TheVariants as means
use Rattle.link_names.proofs.KeyLemmas.{same_key}
use Rattle.link_functions.specs.Code.{AreLaid, IsPart, IsUnitLaid}
use Rattle.link_functions.specs.Kept.{is_function_at, kept, kept_in}
use Rattle.link_functions.specs.declared.code.UnitCode.{UnitCode}
use Rattle.unit_listing.specs.Kit.{Kit}
use Rattle.link_build.specs.declared.build.Build.{Build}
use Rattle.link_build.specs.declared.func.Func.{Func}
use Rattle.link_build.specs.Functions.{IsEntryAt, Seen, functions_in, functions_of, seen, seen_in}
use Rattle.link_build.specs.Resolved.{IsResolved}
use Rattle.link_build.proofs.FunctionLemmas.{pair}
use Rattle.link_build.proofs.PlaceLemmas.{all_each, all_got, all_numbered, got_each, numbered_got, some_mapped, zip_left}

-- the function of this number stands in the unit of this number, and has this symbol
record IsOwn (units : List Said) (key : Key) (unit number : ℕ) : Type 0 where
  said : Said
  there : slice_get units unit ≡ Some said
  function : Function
  here : slice_get said.functions number ≡ Some function
  key_is : key ≡ key_at unit said.symbols function.sym

-- where the definition is that of a function, it has the symbol of this function
abbrev DefinesOwn : List Said → Entry → Type 0
DefinesOwn units entry = (unit number : ℕ) → entry.1.meaning ≡ means.Function unit number → IsOwn units entry.0 unit number

all_own : (units : List Said) (outside : List (List ℕ × ℕ)) → All (DefinesOwn units) (entries_of units outside)
all_own units outside =
    All-append (DefinesOwn units) (each unit_entries units) (outside_entries outside)
    (all_each unit_entries (DefinesOwn units) units (λ unit said there.
    All-append (DefinesOwn units) (function_entries unit said.symbols said.functions) (value_entries unit said.symbols said.globals)
    (all_numbered (function_entry unit said.symbols) (DefinesOwn units) said.functions
    (λ number function here. of_function unit said there number function here))
    (all_numbered (value_entry unit said.symbols) (DefinesOwn units) said.globals
    (λ number global here other place wrong. absurd cc))))
    (all_numbered outside_entry (DefinesOwn units) outside (λ number name here other place wrong. absurd cc))
  where
    of_function : (unit : ℕ) (said : Said) → slice_get units unit ≡ Some said → (number : ℕ) (function : Function)
        → slice_get said.functions number ≡ Some function → DefinesOwn units (function_entry unit said.symbols number function)
    of_function unit said there number function here other place is =
        let one : unit ≡ other = cc in
        let two : number ≡ place = cc in
        record {
          said = said;
          there = subst (λ (n : ℕ). slice_get units n ≡ Some said) one there;
          function = function;
          here = subst (λ (n : ℕ). slice_get said.functions n ≡ Some function) two here;
          key_is = ap (λ (n : ℕ). key_at n said.symbols function.sym) one;
        }

-- a symbol that stands for a function is that of this function
own_of : (units : List Said) (outside : List (List ℕ × ℕ)) (key : Key) (unit number : ℕ)
    → meaning_in (entries_of units outside) key ≡ Some (means.Function unit number) → IsOwn units key unit number
own_of units outside key unit number is =
    let entries = entries_of units outside in
    let found = some_mapped (λ (definition : Definition). definition.meaning) (lookup (is_same key) entries) (means.Function unit number) is in
    let place = place_from_lookup (is_same key) entries found.0 found.1 in
    let own : DefinesOwn units (place.1, found.0)
    = all_got (DefinesOwn units) entries place.0 (place.1, found.0) (all_own units outside) place.2 in
    subst (λ (other : Key). IsOwn units other unit number) (sym (same_key key place.1 place.3)) (own unit number found.2)

pub function_is : (meaning : Option Meaning) → is_function meaning ≡ true → (unit : ℕ) × (number : ℕ) × (meaning ≡ Some (means.Function unit number))
function_is None is = absurd cc
function_is (Some (means.Function unit number)) is = (unit, number, refl)
function_is (Some (means.Value unit number)) is = absurd cc
function_is (Some (means.Outside number)) is = absurd cc

both_same : (a b : ℕ) → ((a == a) && (b == b)) ≡ true
both_same a b = grind (arith, nat_tests)

both_told : (a b c d : ℕ) → ((a == b) && (c == d)) ≡ true → (a ≡ b) × (c ≡ d)
both_told a b c d is = grind (arith, nat_tests)

here_is : (unit number : ℕ) (meaning : Option Meaning) → meaning ≡ Some (means.Function unit number) → is_function_at unit number meaning ≡ true
here_is unit number meaning is = subst (λ (other : Option Meaning). is_function_at unit number other ≡ true) (sym is) (both_same unit number)

pub is_here : (unit number : ℕ) (meaning : Option Meaning) → is_function_at unit number meaning ≡ true → meaning ≡ Some (means.Function unit number)
is_here unit number None is = absurd cc
is_here unit number (Some (means.Function other place)) is =
    let told = both_told other unit place number is in
    let one : other ≡ unit = told.0 in
    let two : place ≡ number = told.1 in
    cc
is_here unit number (Some (means.Value other place)) is = absurd cc
is_here unit number (Some (means.Outside place)) is = absurd cc

module _ {Instr : Type 0} (kit : Kit Instr) (build : Build) (names : List Entry) (code : List (UnitCode Instr)) where
  -- a function that its own symbol stands for is one of those of the image
  in_image : (key : Key) (unit number : ℕ) → AreLaid kit names build.units code → IsOwn build.units key unit number
      → meaning_in names key ≡ Some (means.Function unit number)
      → (index : ℕ) × (func : Seen Instr) × (slice_get (functions_in code) index ≡ Some func) × (func.number ≡ unit) × (func.part.number ≡ number)
  in_image key unit number laid own is =
      let units = build.units in
      let symbols = own.said.symbols in
      let counts : is_function_at unit number (meaning_in names (key_at unit symbols own.function.sym)) ≡ true
      = here_is unit number (meaning_in names (key_at unit symbols own.function.sym)) (ap (meaning_in names) (sym own.key_is) ∙ is) in
      let first : slice_get (kept names unit symbols number own.function) 0 ≡ Some (number, own.function) = ap (λ (is : Bool). slice_get (if is then (number, own.function) ∷ [] else []) 0) counts in
      let among = got_each (kept names unit symbols) own.said.functions number own.function 0 (number, own.function) own.here first in
      let there : slice_get (numbered pair units) unit ≡ Some (unit, own.said)
      = numbered_got pair units unit ∙ ap (option_map (pair unit)) own.there in
      let its = zip_left (IsUnitLaid kit names) (numbered pair units) code unit (unit, own.said) laid there in
      let part = zip_left (IsPart kit) (kept_in names unit own.said) its.0.parts.items among.0 (number, own.function) its.2.parts among.1 in
      let func = seen_in unit its.0.unit.now part.0 in
      let shown : slice_get (functions_of unit its.0) among.0 ≡ Some func
      = slice_get-map (seen_in unit its.0.unit.now) its.0.parts.items among.0 ∙ ap (option_map (seen_in unit its.0.unit.now)) part.1 in
      let found = got_each functions_of code unit its.0 among.0 func its.1 shown in
      (found.0, func, found.1, refl, part.2.number)

  -- the entry of the build is one of the functions
  pub entry_there : IsResolved kit build names code → (index : ℕ) × IsEntryAt names build.entry (functions_in code) index
  entry_there resolved =
      let key : Key = (build.entry, None) in
      let is = function_is (meaning_in names key) resolved.entry in
      let own = own_of build.units build.outside key is.0 is.1 (sym (resolved.laid.room.named.means key) ∙ is.2) in
      let it = in_image key is.0 is.1 resolved.laid.laid own is.2 in (
        it.0,
        record {
          func = it.1;
          here = it.2;
          means = is.2 ∙ sym (ap (λ (unit : ℕ). Some (means.Function unit it.1.part.number)) it.3
              ∙ ap (λ (number : ℕ). Some (means.Function is.0 number)) it.4);
        },
      )

-- what a name stands for, of which another one is known to be the same
pub meant_by : (names : List Entry) (meaning : Option Meaning) (name entry : List ℕ) → meaning ≡ meaning_in names (name, None) → name ≡ entry
    → meaning ≡ meaning_in names (entry, None)
meant_by names meaning name entry is same = is ∙ ap (λ (one : List ℕ). meaning_in names (one, None)) same

module _ {Instr : Type 0} where
  -- none of the functions before this number is the one that is meant
  abbrev pub NoneBefore : Option Meaning → List (Seen Instr) → ℕ → Type 0
  NoneBefore meaning funcs number =
      (place : ℕ) (func : Seen Instr) → place < number → slice_get funcs place ≡ Some func → is_function_at func.number func.part.number meaning ≡ false

module _ {Instr : Type 0} (meaning : Option Meaning) (funcs : List (Func Instr)) where
  seen_there : (number : ℕ) (func : Func Instr) → slice_get funcs number ≡ Some func → slice_get (map seen funcs) number ≡ Some (seen func)
  seen_there number func here = slice_get-map seen funcs number ∙ ap (option_map seen) here

  pub none_more : (number : ℕ) (func : Func Instr) → slice_get funcs number ≡ Some func
      → false ≡ is_function_at func.number func.part.now.number meaning → NoneBefore meaning (map seen funcs) number
      → NoneBefore meaning (map seen funcs) (number + 1)
  none_more number func here other before place found below there =
      elim (cases_lt place number) [
        | inl earlier ↦ before place found earlier there
        | inr least ↦
            let same : place ≡ number = omega arith in
            let is : slice_get (map seen funcs) number ≡ Some found = subst (λ (n : ℕ). slice_get (map seen funcs) n ≡ Some found) same there in
            let one : Some found ≡ Some (seen func) = sym is ∙ seen_there number func here in
            let equal : seen func ≡ found = sym (same_Some found (seen func) one) in
            subst (λ (one : Seen Instr). is_function_at one.number one.part.number meaning ≡ false) equal (sym other)
      ]

  pub entry_here : (names : List Entry) (entry : List ℕ) (number : ℕ) (func : Func Instr) → slice_get funcs number ≡ Some func
      → meaning ≡ meaning_in names (entry, None) → true ≡ is_function_at func.number func.part.now.number meaning
      → IsEntryAt names entry (map seen funcs) number
  entry_here names entry number func here meant is =
      record { func = seen func; here = seen_there number func here; means = sym meant ∙ is_here func.number func.part.now.number meaning (sym is) }

  -- with none of them the entry would not be there
  pub none_wrong : (kit : Kit Instr) (build : Build) (names : List Entry) (code : List (UnitCode Instr)) (number : ℕ)
      → IsResolved kit build names code → map seen funcs ≡ functions_in code → meaning ≡ meaning_in names (build.entry, None)
      → length (map seen funcs) ≤ number → NoneBefore meaning (map seen funcs) number → ⊥
  none_wrong kit build names code number resolved are meant long none =
      let there = entry_there kit build names code resolved in
      let here : slice_get (map seen funcs) there.0 ≡ Some there.1.func = ap (λ (all : List (Seen Instr)). slice_get all there.0) are ∙ there.1.here in
      let within : there.0 < length (map seen funcs) = slice_get_within (map seen funcs) there.0 there.1.func here in
      let yes : is_function_at there.1.func.number there.1.func.part.number meaning ≡ true
      = here_is there.1.func.number there.1.func.part.number meaning (meant ∙ there.1.means) in
      let never : is_function_at there.1.func.number there.1.func.part.number meaning ≡ false
      = none there.0 there.1.func (omega arith) here in
      cc
