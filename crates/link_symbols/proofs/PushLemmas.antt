-- Symbols that are added one by one.
use Rattle.std.proofs.Common.{◌≡◌, ℕ, ◌+◌, ◌<◌, Bool, true, false, List, [], ◌∷◌, ◌++◌, length, get_or, take, map, filter, refl, sym, ◌∙◌, ap, append_assoc, append-nil}
use Rattle.std.specs.Prelude.{All}
use Rattle.std.proofs.lemmas.List.{map-append}
use Rattle.std.proofs.lemmas.List.Elements.{All-push, filter_more}
use Rattle.elf_image.specs.declared.parts.SymbolPart.{SymbolPart}
use Rattle.elf_image.specs.Parts.{IsPart}
use Rattle.link_symbols.specs.declared.defined.Defined.{Defined}
use Rattle.link_symbols.specs.Table.{is_among, symbol_of}

abbrev pub defined_symbols : ℕ → Bool → List Defined → List SymbolPart
defined_symbols kind local defined = map (symbol_of kind) (filter (is_among local) defined)

-- to the old symbols these were added, and all can be written
pub record Pushed (old added symbols : List SymbolPart) : Type 0 where
  pub told : symbols ≡ old ++ added
  pub parts : All IsPart symbols

pub pushed_none : (old added : List SymbolPart) → added ≡ [] → All IsPart old → Pushed old added old
pushed_none old added none parts = record { told = sym (append-nil old) ∙ ap (λ more. old ++ more) (sym none); parts = parts }

pub pushed_more : (old added symbols next more : List SymbolPart) (symbol : SymbolPart) → Pushed old added symbols
    → next ≡ symbols ++ symbol ∷ [] → more ≡ added ++ symbol ∷ [] → IsPart symbol → Pushed old more next
pushed_more old added symbols next more symbol pushed is same part =
    record {
      told = is ∙ ap (λ front. front ++ symbol ∷ []) pushed.told ∙ append_assoc old added (symbol ∷ [])
          ∙ ap (λ behind. old ++ behind) (sym same);
      parts = rw is (All-push IsPart symbols symbol pushed.parts part);
    }

pub pushed_same : (old added symbols more : List SymbolPart) → Pushed old added symbols → more ≡ added → Pushed old more symbols
pushed_same old added symbols more pushed same = rw same pushed

module _ (kind : ℕ) (local : Bool) (defined : List Defined) (index : ℕ) (default : Defined) where
  pub defined_added : index < length defined → is_among local (get_or defined index default) ≡ true
      → defined_symbols kind local (take (index + 1) defined)
      ≡ defined_symbols kind local (take index defined) ++ symbol_of kind (get_or defined index default) ∷ []
  defined_added within among =
      ap (map (symbol_of kind)) (filter_more (is_among local) defined index default within)
      ∙ map-append (symbol_of kind) (filter (is_among local) (take index defined)) _
      ∙ rw among refl

  pub defined_left : index < length defined → is_among local (get_or defined index default) ≡ false
      → defined_symbols kind local (take (index + 1) defined) ≡ defined_symbols kind local (take index defined)
  defined_left within other =
      ap (map (symbol_of kind)) (filter_more (is_among local) defined index default within)
      ∙ map-append (symbol_of kind) (filter (is_among local) (take index defined)) _
      ∙ rw other (append-nil (defined_symbols kind local (take index defined)))
