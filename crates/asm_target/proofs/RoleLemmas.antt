-- Which sequence an instruction stands in, and by how much it changes the depth, where sequences lie apart.
use Rattle.std.proofs.Common.{◌≡◌, ℕ, zero, suc, ◌+◌, ◌-◌, ◌<◌, ◌≤◌, ◌&&◌, ◌⊎◌, inl, inr, true, false, not, ℤ, pos, refl, sym, ap, ◌∙◌, subst, arith, if◌then◌else◌, is_some}
use Rattle.std.proofs.lemmas.Bool.{cases_order}
use Rattle.std.proofs.lemmas.Bool.Decides.{nat_tests}
use Rattle.std.specs.Prelude.{◌+ℤ◌, nat_lt}
use Rattle.asm_target.specs.declared.sequence.Sequence.{Sequence}
use Rattle.asm_target.specs.declared.sequence.Sequence.TheVariants.{Plain, Saving, Restoring, Growth}
use Rattle.asm_target.specs.DepthChange.{added_within, depth_change, ends_sequence, is_at_depth, is_hit, longest}
use Rattle.asm_target.specs.FlowFunction.{FlowFunction, depth_view, is_in_order, is_target, outgoing, role_at, sequence_at, span_at, start_at, start_of}
use Rattle.asm_target.specs.Sequences.{count_of, span_of, depth_added_by, is_of_frame, is_plain}
use Rattle.asm_target.specs.Standing.{IsUnhit}
use Rattle.asm_target.proofs.CleanLemmas.{none_below}

pub span_most : (found : Sequence) → span_of found ≤ count_of found
span_most Plain = omega arith
span_most (Saving count total) = omega arith
span_most (Restoring count total) = omega arith
span_most (Growth count) = omega arith

-- what changes the depth is a frame's sequence
frame_at_depth : (found : Sequence) (depth : ℕ) → is_at_depth found depth ≡ true → is_of_frame found ≡ true
frame_at_depth (Saving count total) depth is = refl
frame_at_depth (Restoring count total) depth is = refl
frame_at_depth Plain depth is = is
frame_at_depth (Growth count) depth is = is

pub frame_not_plain : (found : Sequence) → is_of_frame found ≡ true → is_plain found ≡ false
frame_not_plain (Saving count total) is = refl
frame_not_plain (Restoring count total) is = refl
frame_not_plain Plain is = sym is
frame_not_plain (Growth count) is = refl

plain_is : (found : Sequence) → found ≡ Plain → is_plain found ≡ true
plain_is found is = ap is_plain is

-- spans cover each position
module _ (len : ℕ → ℕ) where
  start_inside : ((k : ℕ) → 0 < len k) → (k : ℕ) → (start_of len k ≤ k) × (k < start_of len k + len (start_of len k))
  unfolding start_of
  start_inside positive zero = (omega arith, omega (arith, positive 0))
  start_inside positive (suc k) =
      let before = start_inside positive k in
      let start : ℕ = start_of len k in
      elim (nat_lt (suc k) (start + len start)) as (λ b. nat_lt (suc k) (start + len start) ≡ b
      → ((if b then start else suc k) ≤ suc k) × (suc k < (if b then start else suc k) + len (if b then start else suc k))) [
        | true ↦ (λ is. (omega (arith, before.0), grind (arith, nat_tests)))
        | false ↦ (λ is. (omega arith, omega (arith, positive (suc k))))
      ] refl

  fresh : ((k : ℕ) → 0 < len k) → (k : ℕ) → ((s : ℕ) → s < k → s + len s ≤ k) → start_of len k ≡ k
  fresh positive k ends =
      let inside = start_inside positive k in
      elim (cases_order (start_of len k) k) as (λ _. start_of len k ≡ k) [
        | inl same ↦ same
        | inr (inl less) ↦ absurd (omega (arith, ends (start_of len k) less, inside.1))
        | inr (inr more) ↦ absurd (omega (arith, inside.0))
      ]

  covers : (s j : ℕ) → start_of len s ≡ s → j < len s → start_of len (s + j) ≡ s
  unfolding start_of
  covers s zero start less = (let none : s + 0 ≡ s = omega arith in rw none start)
  covers s (suc j) start less =
      let before : start_of len (s + j) ≡ s = covers s j start (omega arith) in
      let step : s + suc j ≡ suc (s + j) = omega arith in
      let test : nat_lt (suc (s + j)) (s + len s) ≡ true = grind (arith, nat_tests) in
      ap (start_of len) step ∙ rw (before, test) refl

module _ (f : FlowFunction) where
  -- of the sequences that begin at a function's positions, none begins inside another
  pub record AreApart : Type 0 where
    pub some : (s : ℕ) → 0 < span_of (f.found s)
    pub apart : (s j : ℕ) → 0 < j → j < count_of (f.found s) → f.found (s + j) ≡ Plain

  counted : (k : ℕ) → (sequence_at f k ≡ f.found k) ⊎ (sequence_at f k ≡ Plain)
  unfolding sequence_at
  counted k =
      elim (is_in_order f k (f.found k) && not (is_hit (is_target f) k (count_of (f.found k) - 1)))
      as (λ b. ((if b then f.found k else Plain) ≡ f.found k) ⊎ ((if b then f.found k else Plain) ≡ Plain)) [
        | true ↦ inl refl
        | false ↦ inr refl
      ]

  -- a sequence in order, to whose inside no jump goes, counts
  pub counts : (k n : ℕ) → count_of (f.found k) ≡ n → is_in_order f k (f.found k) ≡ true → IsUnhit f k n
      → sequence_at f k ≡ f.found k
  unfolding sequence_at
  counts k n count order unhit =
      let spared : is_hit (is_target f) k (count_of (f.found k) - 1) ≡ false =
      none_below (λ j. is_target f (k + suc j)) (count_of (f.found k) - 1) (λ j less. unhit j (omega arith)) in
      rw (order, spared) refl

  span_some : AreApart → (k : ℕ) → 0 < span_at f k
  span_some is k =
      elim (counted k) as (λ _. 0 < span_at f k) [
        | inl found ↦ subst (λ (q : Sequence). 0 < span_of q) (sym found) (is.some k)
        | inr plain ↦ subst (λ (q : Sequence). 0 < span_of q) (sym plain) (omega arith)
      ]

  span_within : AreApart → (k : ℕ) → span_at f k ≤ count_of (f.found k)
  span_within is k =
      let most = span_most (f.found k) in
      let some = is.some k in
      elim (counted k) as (λ _. span_at f k ≤ count_of (f.found k)) [
        | inl found ↦ subst (λ (q : Sequence). span_of q ≤ count_of (f.found k)) (sym found) most
        | inr plain ↦ subst (λ (q : Sequence). span_of q ≤ count_of (f.found k)) (sym plain) (omega arith)
      ]

  -- a position inside a sequence begins none
  inside_plain : AreApart → (s k : ℕ) → s < k → k < s + count_of (f.found s) → f.found k ≡ Plain
  inside_plain is s k more less =
      let same : s + (k - s) ≡ k = omega arith in
      subst (λ (p : ℕ). f.found p ≡ Plain) same (is.apart s (k - s) (omega arith) (omega arith))

  pub not_inside : AreApart → (s k : ℕ) → is_plain (f.found k) ≡ false → s < k → s + count_of (f.found s) ≤ k
  not_inside is s k begins less =
      elim (cases_order (s + count_of (f.found s)) k) as (λ _. s + count_of (f.found s) ≤ k) [
        | inl same ↦ omega arith
        | inr (inl under) ↦ omega arith
        | inr (inr over) ↦ absurd (cc (begins, plain_is (f.found k) (inside_plain is s k less over)))
      ]

  -- where a sequence begins, no earlier one goes on
  pub begins_there : AreApart → (at : ℕ) → is_plain (f.found at) ≡ false → start_at f at ≡ at
  begins_there is at begins =
      fresh (span_at f) (span_some is) at (λ s less.
      omega (arith, not_inside is s at begins less, span_within is s))

  -- so its instructions stand in it
  pub stands_in : AreApart → (at j : ℕ) → is_plain (f.found at) ≡ false → j < span_at f at → start_at f (at + j) ≡ at
  stands_in is at j begins less = covers (span_at f) at j (begins_there is at begins) less

  -- what ends at a position, by the definition of the change
  record Ends (p n : ℕ) : Type 0 where
    within : n ≤ p
    count : count_of (f.found (p - n)) ≡ suc n
    at_depth : is_at_depth (f.found (p - n)) (f.depth (p - n)) ≡ true

  ends : (p n : ℕ) → ends_sequence (depth_view f) p n ≡ true → Ends p n
  unfolding ends_sequence
  ends p n is = record { within = grind (arith, nat_tests); count = grind (arith, nat_tests); at_depth = grind (arith, nat_tests) }

  -- only the sequence that begins at `at` ends at one of its instructions, and that at its last one
  ends_here : AreApart → (at j n : ℕ) → is_plain (f.found at) ≡ false → j < count_of (f.found at)
      → ends_sequence (depth_view f) (at + j) n ≡ true → (n ≡ j) × (suc j ≡ count_of (f.found at))
  ends_here is at j n begins less told =
      let e = ends (at + j) n told in
      let s : ℕ = at + j - n in
      let framed = frame_not_plain (f.found s) (frame_at_depth (f.found s) (f.depth s) e.at_depth) in
      elim (cases_order s at) as (λ _. (n ≡ j) × (suc j ≡ count_of (f.found at))) [
        | inl same ↦
            (let counts : count_of (f.found at) ≡ suc n = ap (λ (p : ℕ). count_of (f.found p)) (sym same) ∙ e.count in
            let back : n ≡ j = omega (arith, e.within) in
            (back, omega arith))
        | inr (inl before) ↦ absurd (omega (arith, not_inside is s at begins before, e.within, e.count))
        | inr (inr after) ↦ absurd (omega (arith, not_inside is at s framed after))
      ]

  -- before its last instruction a sequence changes no depth
  pub added_before : AreApart → (at j m : ℕ) → is_plain (f.found at) ≡ false → suc j < count_of (f.found at)
      → added_within (depth_view f) (at + j) m ≡ pos 0
  added_before is at j zero begins less = refl
  added_before is at j (suc n) begins less =
      elim (ends_sequence (depth_view f) (at + j) n) as (λ b. ends_sequence (depth_view f) (at + j) n ≡ b
      → (if b then depth_added_by (f.found (at + j - n)) else added_within (depth_view f) (at + j) n) ≡ pos 0) [
        | true ↦ (λ told. absurd (omega (arith, (ends_here is at j n begins (omega arith) told).1)))
        | false ↦ (λ told. added_before is at j n begins less)
      ] refl

  -- and at its last one by what it adds
  pub added_last : AreApart → (at j m : ℕ) → is_plain (f.found at) ≡ false → suc j ≡ count_of (f.found at)
      → ends_sequence (depth_view f) (at + j) j ≡ true → j < m
      → added_within (depth_view f) (at + j) m ≡ depth_added_by (f.found at)
  added_last is at j zero begins last here less = absurd (omega arith)
  added_last is at j (suc n) begins last here less =
      elim (ends_sequence (depth_view f) (at + j) n) as (λ b. ends_sequence (depth_view f) (at + j) n ≡ b
      → (if b then depth_added_by (f.found (at + j - n)) else added_within (depth_view f) (at + j) n)
      ≡ depth_added_by (f.found at)) [
        | true ↦ (λ told.
            let same = (ends_here is at j n begins (omega arith) told).0 in
            let back : at + j - n ≡ at = omega arith in
            ap (λ (p : ℕ). depth_added_by (f.found p)) back)
        | false ↦ (λ told.
            elim (cases_order n j) as (λ _. added_within (depth_view f) (at + j) n ≡ depth_added_by (f.found at)) [
              | inl same ↦ absurd (cc (told, here, same))
              | inr (inl under) ↦ absurd (omega arith)
              | inr (inr over) ↦ added_last is at j n begins last here over
            ])
      ] refl

  -- no sequence of a frame goes over the position
  abbrev pub IsQuiet : ℕ → Type 0
  IsQuiet p = (s : ℕ) → s ≤ p → p < s + count_of (f.found s) → is_of_frame (f.found s) ≡ false

  pub added_quiet : (p m : ℕ) → IsQuiet p → added_within (depth_view f) p m ≡ pos 0
  added_quiet p zero quiet = refl
  added_quiet p (suc n) quiet =
      elim (ends_sequence (depth_view f) p n) as (λ b. ends_sequence (depth_view f) p n ≡ b
      → (if b then depth_added_by (f.found (p - n)) else added_within (depth_view f) p n) ≡ pos 0) [
        | true ↦ (λ told.
            let e = ends p n told in
            absurd (cc (
              quiet (p - n) (omega (arith, e.within)) (omega (arith, e.within, e.count)),
              frame_at_depth (f.found (p - n)) (f.depth (p - n)) e.at_depth,
            )))
        | false ↦ (λ told. added_quiet p n quiet)
      ] refl

  pub role_quiet : AreApart → (p : ℕ) → IsQuiet p → is_of_frame (role_at f p) ≡ false
  role_quiet is p quiet =
      let s : ℕ = start_at f p in
      let inside = start_inside (span_at f) (span_some is) p in
      elim (counted s) as (λ _. is_of_frame (role_at f p) ≡ false) [
        | inl found ↦ ap is_of_frame found ∙ quiet s inside.0 (omega (arith, inside.1, span_within is s))
        | inr plain ↦ ap is_of_frame plain
      ]

  -- the depth behind an instruction, with a link register
  pub linked_out : is_some f.link ≡ true → (p : ℕ) (added : ℤ) → added_within (depth_view f) p longest ≡ added
      → outgoing f p ≡ pos (f.depth p) +ℤ added
  unfolding outgoing depth_change
  linked_out link p added is = rw (link, is) refl
