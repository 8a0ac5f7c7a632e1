-- Functions and data that are made one by one into what an image's symbols are made of.
use Rattle.std.proofs.Common.{◌≡◌, ℕ, ◌+◌, ◌≤◌, ◌<◌, ◌^◌, List, [], ◌∷◌, ◌++◌, length, map, get_or, drop, Option, Some, sym, ap, ◌∙◌, subst, arith, append_assoc, append-nil}
use Rattle.std.specs.Prelude.{All, slice_get}
use Rattle.std.specs.Option.{option_and_then}
use Rattle.std.proofs.lemmas.List.{drop_more, drop_all, get_or-map, map-append}
use Rattle.std.proofs.lemmas.List.Elements.{All-get_or, All-nil, All-push}
use Rattle.std.proofs.lemmas.Option.{get_or_from_slice_get, slice_get_within}
use Rattle.asm_grammar.specs.Names.{HasNoZero}
use Rattle.asm_parse.specs.declared.unit.GlobalPart.{GlobalPart}
use Rattle.asm_parse.specs.declared.unit.Symbol.{Symbol}
use Rattle.asm_parse.specs.declared.unit.Unit.{Unit as Said}
use Rattle.elf_image.specs.declared.parts.SymbolPart.{SymbolPart}
use Rattle.link_build.specs.Functions.{Seen}
use Rattle.link_symbols.specs.declared.defined.Defined.{Defined}
use Rattle.link_symbols.specs.Table.{HasName, symbol_of}
use Rattle.link_values.specs.declared.kept.KeptValue.{KeptValue}
use Rattle.link_parts.specs.Planned.{HasSymbol, HavePlaces, IsDeclared}
use Rattle.link_parts.specs.Symbols.{Thing, declared_in, part_of, parts_behind}

-- the first so many things were made into these
pub record AreMade (kind from : ℕ) (things : List Thing) (places : List ℕ) (number : ℕ) (defined : List Defined) : Type 0 where
  pub told : map (symbol_of kind) defined ++ parts_behind kind from (drop number things) (drop number places)
      ≡ parts_behind kind from things places
  pub names : All HasName defined

module _ (kind from : ℕ) (things : List Thing) (places : List ℕ) where
  pub none_made : (defined : List Defined) → defined ≡ [] → AreMade kind from things places 0 defined
  none_made defined none =
      record {
        told = ap (λ (made : List Defined). map (symbol_of kind) made ++ parts_behind kind from things places) none;
        names = subst (All HasName) (sym none) (All-nil HasName);
      }

  module _ (number : ℕ) (defined more : List Defined) where
    next_part : (thing : Thing) → number < length things → number < length places
        → parts_behind kind from (drop number things) (drop number places)
        ≡ part_of kind (get_or things number thing) (from + get_or places number 0)
        ∷ parts_behind kind from (drop (number + 1) things) (drop (number + 1) places)
    unfolding parts_behind
    next_part thing inside within =
        ap (λ (rest : List Thing). parts_behind kind from rest (drop number places)) (drop_more things number thing inside)
        ∙ ap (λ (rest : List ℕ). parts_behind kind from (get_or things number thing ∷ drop (number + 1) things) rest)
        (drop_more places number 0 within)

    pub one_made : (one : Defined) (thing : Thing) → AreMade kind from things places number defined → number < length things
        → number < length places → get_or things number thing ≡ thing
        → symbol_of kind one ≡ part_of kind thing (from + get_or places number 0) → HasName one → more ≡ defined ++ one ∷ []
        → AreMade kind from things places (number + 1) more
    one_made one thing made inside within thing_is symbol name pushed =
        let rest = parts_behind kind from (drop (number + 1) things) (drop (number + 1) places) in
        let place = from + get_or places number 0 in
        record {
          told =
              ap (λ (all : List Defined). map (symbol_of kind) all ++ rest) pushed
              ∙ ap (λ (all : List SymbolPart). all ++ rest) (map-append (symbol_of kind) defined (one ∷ []))
              ∙ append_assoc (map (symbol_of kind) defined) (symbol_of kind one ∷ []) rest
              ∙ ap (λ (symbol : SymbolPart). map (symbol_of kind) defined ++ symbol ∷ rest) symbol
              ∙ ap (λ (its : Thing). map (symbol_of kind) defined ++ part_of kind its place ∷ rest) (sym thing_is)
              ∙ ap (λ (behind : List SymbolPart). map (symbol_of kind) defined ++ behind) (sym (next_part thing inside within))
              ∙ made.told;
          names = subst (All HasName) (sym pushed) (All-push HasName defined one made.names name);
        }

    pub all_made : AreMade kind from things places number defined → length things ≤ number
        → map (symbol_of kind) defined ≡ parts_behind kind from things places
    unfolding parts_behind
    all_made made past =
        sym (append-nil (map (symbol_of kind) defined))
        ∙ ap (λ (rest : List SymbolPart). map (symbol_of kind) defined ++ rest)
        (sym (ap (λ (rest : List Thing). parts_behind kind from rest (drop number places)) (drop_all number things past)))
        ∙ made.told

-- the thing that is made of an item
module _ {X : Type 0} (make : X → Thing) (items : List X) (number : ℕ) (item : X) where
  pub thing_here : number < length items → item ≡ get_or items number item → get_or (map make items) number (make item) ≡ make item
  thing_here inside read = get_or-map make items number item (make item) inside ∙ ap make (sym read)

module _ {X Y : Type 0} (see : X → Y) (items : List X) (number : ℕ) (item : X) where
  pub seen_here : number < length items → item ≡ get_or items number item → see item ≡ get_or (map see items) number (see item)
  seen_here inside read = sym (get_or-map see items number item (see item) inside ∙ ap see (sym read))

-- where each has a place
module _ (count : ℕ) (places : List ℕ) (have : HavePlaces count places) where
  pub place_near : (number : ℕ) → number < count → get_or places number 0 ≤ 2 ^ 24
  place_near number inside =
      All-get_or (λ place. place ≤ 2 ^ 24) places number 0 (omega (arith, have.as_many)) have.near

module _ {Instr : Type 0} (func : Seen Instr) (has : HasSymbol func) where
  pub symbol_within : func.part.function.now.sym < length func.unit.symbols
  symbol_within = slice_get_within func.unit.symbols func.part.function.now.sym has.symbol has.here

  module _ (symbol : Symbol) (is : symbol ≡ get_or func.unit.symbols func.part.function.now.sym symbol) where
    same_symbol : has.symbol ≡ symbol
    same_symbol = sym (get_or_from_slice_get func.unit.symbols func.part.function.now.sym has.symbol symbol has.here) ∙ sym is

    pub symbol_here : slice_get func.unit.symbols func.part.function.now.sym ≡ Some symbol
    symbol_here = has.here ∙ ap (λ (one : Symbol). Some one) same_symbol

    pub symbol_name : HasNoZero symbol.name
    symbol_name = subst (λ (one : Symbol). HasNoZero one.name) same_symbol has.name

module _ (units : List Said) (value : KeptValue) (has : IsDeclared units value) where
  declared_symbol : option_and_then (λ said. declared_in said value.number) (slice_get units value.unit) ≡ Some has.symbol
  declared_symbol =
      ap (λ (found : Option Said). option_and_then (λ (said : Said). declared_in said value.number) found) has.unit
      ∙ ap (λ (found : Option GlobalPart). option_and_then (λ (global : GlobalPart). slice_get has.said.symbols global.sym) found) has.declaration
      ∙ has.here

  -- the symbol that is read is that
  module _ (unit : Said) (globals : List GlobalPart) (symbols : List Symbol) (default : GlobalPart) (symbol : Symbol) where
    pub declared_here : unit ≡ get_or units value.unit unit → globals ≡ unit.globals → symbols ≡ unit.symbols
        → symbol ≡ get_or symbols (get_or globals value.number default).sym symbol
        → Some symbol ≡ option_and_then (λ said. declared_in said value.number) (slice_get units value.unit)
    declared_here unit_is globals_are symbols_are symbol_is =
        let said : unit ≡ has.said = unit_is ∙ get_or_from_slice_get units value.unit has.said unit has.unit in
        let global : get_or globals value.number default ≡ has.global
        = ap (λ (all : List GlobalPart). get_or all value.number default) (globals_are ∙ ap (λ (one : Said). one.globals) said)
        ∙ get_or_from_slice_get has.said.globals value.number has.global default has.declaration in
        let same : symbol ≡ has.symbol
        = symbol_is
        ∙ ap (λ (one : GlobalPart). get_or symbols one.sym symbol) global
        ∙ ap (λ (all : List Symbol). get_or all has.global.sym symbol) (symbols_are ∙ ap (λ (one : Said). one.symbols) said)
        ∙ get_or_from_slice_get has.said.symbols has.global.sym has.symbol symbol has.here in
        ap (λ (one : Symbol). Some one) same ∙ sym declared_symbol
