-- The labels and functions of what was read, as facts about the statements say them.
use Rattle.std.proofs.Common.{◌≡◌, ℕ, ◌+◌, ◌-◌, Bool, true, false, cond, ◌||◌, not, List, [], ◌∷◌, ◌++◌, length, drop, map, refl, sym, ap, ◌∙◌, append_assoc, arith}
use Rattle.std.specs.Prelude.{◌&&◌, bytes_eq}
use Rattle.std.specs.List.{list_any, flat_map, after_last, suffix_len, prefix_len}
use Rattle.std.proofs.Math.Bool.{and-true, or-false}
use Rattle.std.proofs.lemmas.Grind.{flat_map-append}
use Rattle.std.proofs.lemmas.List.{reverse-append, drop_all, drop-append-le, append-nil, map_push, length_push}
use Rattle.std.proofs.lemmas.List.Folds.{list_any-append}
use Rattle.goasm_base.specs.declared.pos.Pos.{Pos}
use Rattle.asm_lex.specs.declared.token.Token.{Token}
use Rattle.asm_grammar.specs.declared.statement.CodeLine.{CodeLine}
use Rattle.asm_parse.specs.Numbering.{Key, has_name}
use Rattle.asm_parse.specs.Lines.{Gathered, with_label, labelled, are_new, with_lock, with_own_slot, with_line, is_aside}
use Rattle.asm_parse.specs.First.{begins, labels_of, is_inside, labels_before, repeats}

abbrev pub own : List ℕ → Key
own label = (label, false)

pub or_none : (one other : Bool) → (one || other) ≡ false → (one ≡ false) × (other ≡ false)
or_none false other is = (refl, is)
or_none true other is = absurd cc

has_own : (before : List (List ℕ)) (label : List ℕ) → has_name (map own before) (own label) ≡ list_any (bytes_eq label) before
has_own [] label = refl
has_own (other ∷ before) label = rw (and-true (bytes_eq label other), has_own before label) refl

module _ (gathered : Gathered) (before : List (List ℕ)) (label : List ℕ) (is : gathered.labels ≡ map own before) where
  has_here : has_name gathered.labels (own label) ≡ list_any (bytes_eq label) before
  has_here = ap (λ (names : List Key). has_name names (own label)) is ∙ has_own before label

  -- a new label is added
  added : list_any (bytes_eq label) before ≡ false → (with_label gathered label).labels ≡ map own (before ++ label ∷ [])
  added none =
      let new : has_name gathered.labels (own label) ≡ false = has_here ∙ none in
      ap (λ (b : Bool). cond b gathered.labels (gathered.labels ++ own label ∷ [])) new ∙ ap (λ (names : List Key). names ++ own label ∷ []) is ∙ sym (map_push own before label)

pub new_labels : (gathered : Gathered) (before labels : List (List ℕ)) → gathered.labels ≡ map own before → are_new gathered labels ≡ not (repeats before labels)
unfolding are_new
new_labels gathered before [] is = refl
new_labels gathered before (label ∷ labels) is = by (new_labels (with_label gathered label) (before ++ label ∷ []) labels) (list_any (bytes_eq label) before) refl where
  by : ((with_label gathered label).labels ≡ map own (before ++ label ∷ []) → are_new (with_label gathered label) labels ≡ not (repeats (before ++ label ∷ []) labels))
      → (there : Bool) → list_any (bytes_eq label) before ≡ there
      → (not (has_name gathered.labels (own label)) && are_new (with_label gathered label) labels) ≡ not (list_any (bytes_eq label) before || repeats (before ++ label ∷ []) labels)
  by rest true tested =
      ap (λ (b : Bool). not b && are_new (with_label gathered label) labels) (has_here gathered before label is ∙ tested)
      ∙ sym (ap (λ (b : Bool). not (b || repeats (before ++ label ∷ []) labels)) tested)
  by rest false tested =
      ap (λ (b : Bool). not b && are_new (with_label gathered label) labels) (has_here gathered before label is ∙ tested)
      ∙ rest (added gathered before label is tested) ∙ sym (ap (λ (b : Bool). not (b || repeats (before ++ label ∷ []) labels)) tested)

pub kept_labels : (gathered : Gathered) (before labels : List (List ℕ)) → gathered.labels ≡ map own before → repeats before labels ≡ false
    → (labelled gathered labels).labels ≡ map own (before ++ labels)
kept_labels gathered before [] is new = is ∙ ap (map own) (sym (append-nil before))
kept_labels gathered before (label ∷ labels) is new =
    let none = or_none (list_any (bytes_eq label) before) (repeats (before ++ label ∷ []) labels) new in
    kept_labels (with_label gathered label) (before ++ label ∷ []) labels (added gathered before label is none.0) none.1
    ∙ ap (map own) (append_assoc before (label ∷ []) labels)

slot_labels : (gathered : Gathered) (lock aside : Bool) → (with_own_slot gathered lock aside).labels ≡ gathered.labels
slot_labels gathered lock true = refl
slot_labels gathered true false = refl
slot_labels gathered false false = refl

lock_labels : (gathered : Gathered) (lock : Bool) → (with_lock gathered lock).labels ≡ gathered.labels
lock_labels gathered true = refl
lock_labels gathered false = refl

-- a statement adds no label of its own
pub line_labels : (gathered : Gathered) (pos : Pos) (lock : Bool) (code : CodeLine) → (with_line gathered pos lock code).labels ≡ gathered.labels
line_labels gathered pos lock code = slot_labels (with_lock gathered lock) lock (is_aside code.op) ∙ lock_labels gathered lock

module _ {X : Type 0} (p : X → Bool) (xs : List X) (x : X) where
  suffix_push : suffix_len p (xs ++ x ∷ []) ≡ cond (p x) (1 + suffix_len p xs) 0
  suffix_push = ap (prefix_len p) (reverse-append xs (x ∷ []))

module _ {X : Type 0} (p : X → Bool) (xs : List X) (x : X) where
  abbrev fails : X → Bool
  fails y = not (p y)

  -- nothing stands behind the last one
  behind_last : p x ≡ true → after_last p (xs ++ x ∷ []) ≡ []
  behind_last passes =
      let none : suffix_len fails (xs ++ x ∷ []) ≡ 0 = suffix_push fails xs x ∙ ap (λ (b : Bool). cond (not b) (1 + suffix_len fails xs) 0) passes in
      rw none (drop_all _ (xs ++ x ∷ []) (omega arith))

  behind_other : p x ≡ false → after_last p (xs ++ x ∷ []) ≡ after_last p xs ++ x ∷ []
  behind_other passes =
      let more : suffix_len fails (xs ++ x ∷ []) ≡ 1 + suffix_len fails xs = suffix_push fails xs x ∙ ap (λ (b : Bool). cond (not b) (1 + suffix_len fails xs) 0) passes in
      let count : length (xs ++ x ∷ []) - suffix_len fails (xs ++ x ∷ []) ≡ length xs - suffix_len fails xs = omega (arith, more, length_push xs x) in
      ap (λ (n : ℕ). drop n (xs ++ x ∷ [])) count ∙ drop-append-le (length xs - suffix_len fails xs) xs (x ∷ []) (omega arith)

module _ (front : List (List Token)) (statement : List Token) where
  pub inside_push : is_inside (front ++ statement ∷ []) ≡ (is_inside front || begins statement)
  inside_push = list_any-append begins front (statement ∷ []) ∙ ap (λ (b : Bool). is_inside front || b) (or-false (begins statement))

  -- a function begins without labels
  pub labels_begin : begins statement ≡ true → labels_before (front ++ statement ∷ []) ≡ []
  labels_begin first = ap (flat_map labels_of) (behind_last begins front statement first)

  pub labels_push : begins statement ≡ false → labels_before (front ++ statement ∷ []) ≡ labels_before front ++ labels_of statement
  labels_push other =
      ap (flat_map labels_of) (behind_other begins front statement other)
      ∙ flat_map-append labels_of (after_last begins front) (statement ∷ [])
      ∙ ap (λ (own : List (List ℕ)). labels_before front ++ own) (append-nil (labels_of statement))
