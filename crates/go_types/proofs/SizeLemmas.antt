-- Sizes that are told up to a limit.
use Rattle.std.proofs.Common.{◌≡◌, ℕ, zero, suc, ◌≤◌, ◌<◌, ◌+◌, ◌*◌, min, ap, ◌∙◌, arith, inl, inr}
use Rattle.std.proofs.lemmas.Bool.{cases_order}
use Rattle.std.specs.Int.{next_multiple_of}
use Rattle.go_types.specs.Kinds.{Fields, no_fields, field}
use Rattle.go_types.specs.Sizes.{size_of, align_of, end_of, widest}

pub not_before : (end align : ℕ) → end ≤ next_multiple_of end align
not_before end align = omega arith

pub ends_behind : (end : ℕ) (fields : Fields) → end ≤ end_of end fields
ends_behind end no_fields = omega arith
ends_behind end (field name kind others) =
    let here = not_before end (align_of kind) in
    let there = ends_behind (next_multiple_of end (align_of kind) + size_of kind) others in
    omega (arith, here, there)

-- an end told up to a limit leads to the same end told so
pub end_told : (most end : ℕ) (fields : Fields) → min (end_of (min end most) fields) most ≡ min (end_of end fields) most
end_told most end fields =
    let told = ends_behind (min end most) fields in
    let whole = ends_behind end fields in
    elim (cases_order end most) [
      | inl same ↦ ap (λ (x : ℕ). min (end_of x fields) most) (omega (arith, same))
      | inr other ↦ elim other [
        | inl below ↦ ap (λ (x : ℕ). min (end_of x fields) most) (omega (arith, below))
        | inr above ↦ omega (arith, told, whole, above)
      ]
    ]

pub step_told : (most end size told : ℕ) (others : Fields) → told ≡ min (end + min size most) most
    → min (end_of told others) most ≡ min (end_of (end + size) others) most
step_told most end size told others is =
    ap (λ (x : ℕ). min (end_of x others) most) (let same : told ≡ min (end + size) most = omega (arith, is) in same) ∙ end_told most (end + size) others

pub rounded_told : (most end align whole : ℕ) → min end most ≡ min whole most → end ≤ most
    → min (next_multiple_of end align) most ≡ min (next_multiple_of whole align) most
rounded_told most end align whole same within =
    let told = not_before end align in
    let all = not_before whole align in
    elim (cases_order end whole) [
      | inl equal ↦ ap (λ (x : ℕ). min (next_multiple_of x align) most) equal
      | inr apart ↦ let most_told : most ≤ end = elim apart [
        | inl below ↦ omega (arith, below, same, within)
        | inr above ↦ omega (arith, above, same, within)
      ] in omega (arith, told, all, same, most_told)
    ]

pub times_told : (most count size : ℕ) → min (count * min size most) most ≡ min (count * size) most
times_told most zero size = omega arith
times_told most (suc count) size =
    elim (cases_order size most) [
      | inl same ↦ ap (λ (x : ℕ). min (suc count * x) most) (omega (arith, same))
      | inr other ↦ elim other [
        | inl below ↦ ap (λ (x : ℕ). min (suc count * x) most) (omega (arith, below))
        | inr above ↦ let told : min size most ≡ most = omega (arith, above) in
            ap (λ (x : ℕ). min (suc count * x) most) told ∙ more count size most above
      ]
    ] where
      more : (count size most : ℕ) → most < size → min (suc count * most) most ≡ min (suc count * size) most
      more count size most above = omega arith

pub some_wide : (fields : Fields) → 1 ≤ widest fields
some_wide no_fields = omega arith
some_wide (field name kind others) = let there = some_wide others in omega (arith, there)
