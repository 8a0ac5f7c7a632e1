use Rattle.std.proofs.Common.{◌≡◌, ℕ, ◌+◌, ◌<◌, ◌≤◌, ◌⊎◌, Bool, true, false, ◌&&◌, ◌||◌, cond, List, [], ◌∷◌, ◌++◌, length, get_or, IsTrue, inl, inr, refl, sym, ap, ◌∙◌, arith, bytes_eq}
use Rattle.std.specs.List.{list_any}
use Rattle.std.proofs.lemmas.Bool.{leb-false, or_right}
use Rattle.std.proofs.lemmas.List.Folds.{list_any-append}
use Rattle.std.proofs.lemmas.List.Sums.{sum_by_push}
use Rattle.std.proofs.Math.Bool.{or-false}
use Rattle.goasm_list.specs.declared.line.LineKind.{LineKind}
use Rattle.goasm_list.specs.declared.line.LineKind.TheVariants.{Asm, Stub, Include, Define, Outside, Entry}
use Rattle.goasm_list.specs.declared.line.ListLine.{ListLine}
use Rattle.goasm_list.specs.Rules.{most_files, names_file, is_outside, is_entry, file_count, has_outside, has_entry, is_excess}
use Rattle.goasm_list.specs.Sound.{has_parts, clashes, IsSound}
use Rattle.std.proofs.lemmas.Bool.{false_from_ne_true}
use Rattle.std.proofs.lemmas.List.Folds.{list_any_at}
use Rattle.std.proofs.lemmas.List.Elements.{All-push}
use Rattle.std.proofs.lemmas.List.Quantifiers.{all_pairs_push}
use Rattle.goasm_list.specs.Reader.{Keeps}
use Rattle.goasm_base.specs.NameSet.{is_among, AddsName}

any_push : (test : ListLine → Bool) (lines : List ListLine) (line : ListLine)
    → list_any test (lines ++ line ∷ []) ≡ (list_any test lines || test line)
any_push test lines line = list_any-append test lines (line ∷ []) ∙ ap (λ b. list_any test lines || b) (or-false (test line))

count_push : (lines : List ListLine) (line : ListLine)
    → file_count (lines ++ line ∷ []) ≡ file_count lines + cond (names_file line.kind) 1 0
count_push lines line = sum_by_push (λ l. cond (names_file l.kind) 1 0) lines line

none_at : (test : ListLine → Bool) (lines : List ListLine) (k : ℕ) (d : ListLine) → k < length lines
    → list_any test lines ≡ false → test (get_or lines k d) ≡ false
none_at test lines k d inside none =
    false_from_ne_true (test (get_or lines k d)) (λ yes.
    let some : list_any test lines ≡ true = list_any_at test lines k d inside yes in cc)

no_clash : (lines : List ListLine) (kind : LineKind) (name : List ℕ) (k : ℕ) (d : ListLine) → k < length lines
    → is_excess lines kind name ≡ false → clashes (get_or lines k d) kind name ≡ false
no_clash lines Outside name k d inside fits = none_at (λ l. is_outside l.kind && bytes_eq l.name name) lines k d inside fits
no_clash lines Entry name k d inside fits = none_at (λ l. is_entry l.kind) lines k d inside fits
no_clash lines Asm name k d inside fits = refl
no_clash lines Stub name k d inside fits = refl
no_clash lines Include name k d inside fits = refl
no_clash lines Define name k d inside fits = refl

-- a line that may stand behind these lines
pub record Stands (lines : List ListLine) (line : ListLine) : Type 0 where
  pub room : is_excess lines line.kind line.name ≡ false
  pub parts : IsTrue (has_parts line.kind line.name line.rest line.at)

sound_push : (lines : List ListLine) (line : ListLine) → IsSound lines → Stands lines line
    → file_count (lines ++ line ∷ []) ≤ most_files → IsSound (lines ++ line ∷ [])
sound_push lines line sound stands files = record {
  files = files;
  parts = All-push (λ l. IsTrue (has_parts l.kind l.name l.rest l.at)) lines line sound.parts stands.parts;
  apart = all_pairs_push (λ earlier later. clashes earlier later.kind later.name ≡ false) lines line sound.apart
      (λ k d inside. no_clash lines line.kind line.name k d inside stands.room);
}

-- what is kept of the lines with one more, in terms of what is kept of them
keeps_push : (lines : List ListLine) (line : ListLine) (outside : List (List ℕ)) (files : ℕ) (entry : Bool)
    → IsSound lines → Stands lines line
    → ((name : List ℕ) → is_among name outside ≡ (has_outside lines name || (is_outside line.kind && bytes_eq line.name name)))
    → files ≡ file_count lines + cond (names_file line.kind) 1 0
    → files ≤ most_files
    → entry ≡ (has_entry lines || is_entry line.kind)
    → Keeps (lines ++ line ∷ []) outside files entry
keeps_push lines line outside files entry sound stands names count room entered =
    let counted : files ≡ file_count (lines ++ line ∷ []) = count ∙ sym (count_push lines line) in
    record {
      names = λ name. names name ∙ sym (any_push (λ l. is_outside l.kind && bytes_eq l.name name) lines line);
      count = counted;
      room = room;
      entered = entered ∙ sym (any_push (λ l. is_entry l.kind) lines line);
      sound = sound_push lines line sound stands (rw counted at room);
    }

abbrev NamesFile : LineKind → Type 0
NamesFile kind = (names_file kind ≡ true) × (is_outside kind ≡ false) × (is_entry kind ≡ false)

names_a_file : (kind : LineKind) → (kind ≡ Asm) ⊎ ((kind ≡ Stub) ⊎ (kind ≡ Include)) → NamesFile kind
names_a_file kind (inl is) = rw is (refl, refl, refl)
names_a_file kind (inr (inl is)) = rw is (refl, refl, refl)
names_a_file kind (inr (inr is)) = rw is (refl, refl, refl)

has_room : (lines : List ListLine) (kind : LineKind) (name : List ℕ) → (kind ≡ Asm) ⊎ ((kind ≡ Stub) ⊎ (kind ≡ Include))
    → is_excess lines kind name ≡ false → file_count lines < most_files
has_room lines kind name (inl is) fits = leb-false _ _ (rw is at fits)
has_room lines kind name (inr (inl is)) fits = leb-false _ _ (rw is at fits)
has_room lines kind name (inr (inr is)) fits = leb-false _ _ (rw is at fits)

pub keeps_file : (lines : List ListLine) (line : ListLine) (outside : List (List ℕ)) (files : ℕ) (entry : Bool)
    → (line.kind ≡ Asm) ⊎ ((line.kind ≡ Stub) ⊎ (line.kind ≡ Include)) → Keeps lines outside files entry
    → Stands lines line → Keeps (lines ++ line ∷ []) outside (files + 1) entry
keeps_file lines line outside files entry is keeps stands =
    let file : NamesFile line.kind = names_a_file line.kind is in
    let room : file_count lines < most_files = has_room lines line.kind line.name is stands.room in
    let counted : files ≡ file_count lines = keeps.count in
    keeps_push lines line outside (files + 1) entry keeps.sound stands
    (λ name. rw file.1 (keeps.names name ∙ sym (or-false (has_outside lines name))))
    (rw file.0 (omega arith)) (omega arith) (rw file.2 (keeps.entered ∙ sym (or-false (has_entry lines))))

pub keeps_define : (lines : List ListLine) (line : ListLine) (outside : List (List ℕ)) (files : ℕ) (entry : Bool)
    → line.kind ≡ Define → Keeps lines outside files entry → Stands lines line → Keeps (lines ++ line ∷ []) outside files entry
keeps_define lines line outside files entry is keeps stands =
    let counted : files ≡ file_count lines = keeps.count in
    keeps_push lines line outside files entry keeps.sound stands
    (λ name. rw is (keeps.names name ∙ sym (or-false (has_outside lines name))))
    (rw is (omega arith)) keeps.room (rw is (keeps.entered ∙ sym (or-false (has_entry lines))))

pub keeps_entry : (lines : List ListLine) (line : ListLine) (outside : List (List ℕ)) (files : ℕ) (entry : Bool)
    → line.kind ≡ Entry → Keeps lines outside files entry → Stands lines line → Keeps (lines ++ line ∷ []) outside files true
keeps_entry lines line outside files entry is keeps stands =
    let counted : files ≡ file_count lines = keeps.count in
    keeps_push lines line outside files true keeps.sound stands
    (λ name. rw is (keeps.names name ∙ sym (or-false (has_outside lines name))))
    (rw is (omega arith)) keeps.room (rw is (sym (or_right (has_entry lines) true refl)))

pub keeps_outside : (lines : List ListLine) (line : ListLine) (outside more : List (List ℕ)) (files : ℕ) (entry : Bool)
    → line.kind ≡ Outside → AddsName outside more line.name
    → Keeps lines outside files entry → Stands lines line → Keeps (lines ++ line ∷ []) more files entry
keeps_outside lines line outside more files entry is adds keeps stands =
    let counted : files ≡ file_count lines = keeps.count in
    keeps_push lines line more files entry keeps.sound stands
    (λ other. rw (is, ← keeps.names other) (adds other))
    (rw is (omega arith)) keeps.room (rw is (keeps.entered ∙ sym (or-false (has_entry lines))))
