-- The bytes of functions, one behind the other.
use Rattle.std.proofs.Common.{◌≡◌, ℕ, zero, suc, ◌+◌, ◌%◌, ◌<◌, List, [], ◌∷◌, ◌++◌, length, map, take, Option, Some, refl, sym, ap, ◌∙◌, subst, arith, append_assoc, append-nil, length-append}
use Rattle.std.specs.Prelude.{replicate, sum}
use Rattle.std.specs.List.{AllZip, flat_map, slice_get}
use Rattle.std.proofs.lemmas.List.{length-replicate, map-append, take_more}
use Rattle.std.proofs.lemmas.List.Concat.{flat_map-append}
use Rattle.std.proofs.lemmas.List.Sums.{sum_by-cons}
use Rattle.std.proofs.lemmas.Option.{slice_get_within, get_or_from_slice_get}
use Rattle.byte_layout.specs.Joined.{aligned}
use Rattle.byte_layout.proofs.JoinedLemmas.{aligned_whole}
use Rattle.image_rules.specs.Functions.{padding_byte}
use Rattle.link_assembly.specs.Assembly.{machine_with}
use Rattle.link_code.specs.Bytes.{IsPadded}
use Rattle.link_code.specs.declared.placing.Code.{Code}
use Rattle.link_laws.specs.Made.{Made, padded, padding_behind}
use Rattle.link_text.specs.Text.{HasSize, image_text, instructions_of, made}
use Rattle.unit_listing.specs.Kit.{Kit}

-- fewer than 16 bytes up to a multiple of 16 are one count
padding_same : (len padding : ℕ) → padding < 16 → (len + padding) % 16 ≡ 0 → padding ≡ padding_behind len
padding_same len padding short whole = omega (arith, short, whole)

take_next : {X : Type 0} (xs : List X) (n : ℕ) (x : X) → slice_get xs n ≡ Some x → take (n + 1) xs ≡ take n xs ++ x ∷ []
take_next xs n x here =
    take_more xs n x (slice_get_within xs n x here) ∙ ap (λ y. take n xs ++ y ∷ []) (get_or_from_slice_get xs n x x here)

module _ {A B : Type 0} (R : A → B → Type 0) where
  pub zip_length : (xs : List A) (ys : List B) → AllZip R xs ys → length xs ≡ length ys
  zip_length [] [] are = refl
  zip_length [] (y ∷ ys) are = absurd are
  zip_length (x ∷ xs) [] are = absurd are
  zip_length (x ∷ xs) (y ∷ ys) are = (let rest = zip_length xs ys are.1 in omega arith)

  pub zip_take : (n : ℕ) (xs : List A) (ys : List B) → AllZip R xs ys → AllZip R (take n xs) (take n ys)
  zip_take zero xs ys are = tt
  zip_take (suc n) [] [] are = tt
  zip_take (suc n) [] (y ∷ ys) are = absurd are
  zip_take (suc n) (x ∷ xs) [] are = absurd are
  zip_take (suc n) (x ∷ xs) (y ∷ ys) are = (are.0, zip_take n xs ys are.1)

module _ {Instr : Type 0} (kit : Kit Instr) (growth : Option ℕ) where
  -- a function reaches up to a multiple of 16
  padded_long : (code : List Instr) → length (padded (machine_with kit growth) code) ≡ aligned 16 (length (flat_map kit.set.spelling code))
  unfolding aligned
  padded_long code =
      let bytes = flat_map kit.set.spelling code in
      let padding = padding_behind (length bytes) in
      length-append bytes (replicate padding (padding_byte kit.machine))
      ∙ ap (λ n. length bytes + n) (length-replicate padding (padding_byte kit.machine))

  text_more : (codes : List (Code Instr)) (code : Code Instr)
      → image_text kit growth (codes ++ code ∷ []) ≡ image_text kit growth codes ++ padded (machine_with kit growth) (instructions_of code)
  text_more codes code =
      let one : Made Instr → List ℕ = λ made. padded (machine_with kit growth) made.code in
      ap (flat_map one) (map-append made codes (code ∷ [])) ∙ flat_map-append one (map made codes) (made code ∷ [])
      ∙ ap (λ rest. image_text kit growth codes ++ rest) (append-nil (padded (machine_with kit growth) (instructions_of code)))

  -- the text of one function and those behind it
  text_long : (code : Code Instr) (codes : List (Code Instr)) → length (image_text kit growth (code ∷ codes))
      ≡ aligned 16 (length (flat_map kit.set.spelling (instructions_of code))) + length (image_text kit growth codes)
  text_long code codes =
      length-append (padded (machine_with kit growth) (instructions_of code)) (image_text kit growth codes)
      ∙ ap (λ n. n + length (image_text kit growth codes)) (padded_long (instructions_of code))

  text_whole : (codes : List (Code Instr)) → length (image_text kit growth codes) % 16 ≡ 0
  text_whole [] = refl
  text_whole (code ∷ codes) =
      let long = text_long code codes in
      let here = aligned_whole 16 (length (flat_map kit.set.spelling (instructions_of code))) (omega arith) in
      let rest = text_whole codes in
      omega (arith, long, here, rest)

  -- a function more
  pub pushed : (codes : List (Code Instr)) (number : ℕ) (code : Code Instr) (before after : List ℕ) → slice_get codes number ≡ Some code
      → before ≡ image_text kit growth (take number codes) → IsPadded kit.set kit.machine code.placed.items before after
      → after ≡ image_text kit growth (take (number + 1) codes)
  pushed codes number code before after here front is =
      let bytes = flat_map kit.set.spelling (instructions_of code) in
      let behind = replicate is.padding (padding_byte kit.machine) in
      let start : length before % 16 ≡ 0 = subst (λ text. length text % 16 ≡ 0) (sym front) (text_whole (take number codes)) in
      let long : length after ≡ length before + length bytes + is.padding
      = ap length is.whole ∙ length-append (before ++ bytes) behind
      ∙ omega (arith, length-append before bytes, length-replicate is.padding (padding_byte kit.machine)) in
      let fits : (length bytes + is.padding) % 16 ≡ 0 = (let end : length after % 16 ≡ 0 = is.aligned in omega (arith, long, start, end)) in
      let same : is.padding ≡ padding_behind (length bytes) = padding_same (length bytes) is.padding is.short fits in
      is.whole ∙ append_assoc before bytes behind ∙ ap (λ n. before ++ (bytes ++ replicate n (padding_byte kit.machine))) same
      ∙ ap (λ text. text ++ padded (machine_with kit growth) (instructions_of code)) front
      ∙ sym (ap (image_text kit growth) (take_next codes number code here) ∙ text_more (take number codes) code)

  -- the text is as long as the sizes of its functions have it
  pub sizes_add_up : (sizes : List ℕ) (codes : List (Code Instr)) → AllZip (HasSize kit) sizes codes
      → sum (map (aligned 16) sizes) ≡ length (image_text kit growth codes)
  sizes_add_up [] [] are = refl
  sizes_add_up [] (code ∷ codes) are = absurd are
  sizes_add_up (size ∷ sizes) [] are = absurd are
  sizes_add_up (size ∷ sizes) (code ∷ codes) are =
      let more : sum (map (aligned 16) (size ∷ sizes)) ≡ aligned 16 size + sum (map (aligned 16) sizes)
      = sum_by-cons (λ x. x) (aligned 16 size) (map (aligned 16) sizes) in
      let here : aligned 16 (length (flat_map kit.set.spelling (instructions_of code))) ≡ aligned 16 size = ap (aligned 16) are.0.long in
      let rest = sizes_add_up sizes codes are.1 in
      let long = text_long code codes in
      omega (arith, more, here, rest, long)
