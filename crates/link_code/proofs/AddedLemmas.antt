-- Instructions one behind the other.
use Rattle.std.proofs.Common.{◌≡◌, ℕ, ◌+◌, List, [], ◌∷◌, ◌++◌, length, refl, sym, ap, ◌∙◌, append_assoc, append-nil, length-append, add-one, arith}
use Rattle.std.specs.List.{flat_map}
use Rattle.std.proofs.lemmas.List.Concat.{flat_map-append}
use Rattle.std.proofs.lemmas.List.Elements.{All-append, All-nil, All-cons}
use Rattle.asm_target.specs.declared.body.Placed.{Placed}
use Rattle.asm_target.specs.Aiming.{bytes_of}
use Rattle.asm_target.specs.InstructionSet.{InstructionSet}
use Rattle.image_rules.specs.Functions.{placed_from}
use Rattle.unit_listing.specs.Joined.{AreJoined}
use Rattle.link_code.specs.Placed.{AreAdded}

module _ {Instr : Type 0} (set : InstructionSet Instr) where
  pub bytes_append : (xs ys : List Instr) → bytes_of set (xs ++ ys) ≡ bytes_of set xs + bytes_of set ys
  bytes_append xs ys =
      ap length (flat_map-append set.spelling xs ys) ∙ length-append (flat_map set.spelling xs) (flat_map set.spelling ys)

  pub bytes_one : (i : Instr) → bytes_of set (i ∷ []) ≡ length (set.spelling i)
  bytes_one i = ap length (append-nil (set.spelling i))

  pub placed_append : (at : ℕ) (xs ys : List Instr)
      → placed_from set at (xs ++ ys) ≡ placed_from set at xs ++ placed_from set (at + bytes_of set xs) ys
  placed_append at [] ys =
      let same : at ≡ at + 0 = omega arith in
      ap (λ place. placed_from set place ys) same
  placed_append at (x ∷ xs) ys =
      let len = length (set.spelling x) in
      let more : bytes_of set (x ∷ xs) ≡ len + bytes_of set xs = length-append (set.spelling x) (flat_map set.spelling xs) in
      let same : at + len + bytes_of set xs ≡ at + bytes_of set (x ∷ xs) = omega (arith, more) in
      let first : Placed Instr = record { at = at; len = len; instr = x } in
      ap (λ rest. first ∷ rest) (placed_append (at + len) xs ys
      ∙ ap (λ place. placed_from set (at + len) xs ++ placed_from set place ys) same)

  pub length_placed : (at : ℕ) (code : List Instr) → length (placed_from set at code) ≡ length code
  length_placed at [] = refl
  length_placed at (i ∷ code) =
      let rest = length_placed (at + length (set.spelling i)) code in
      omega (arith, rest)

  module _ (fits : Instr → Type 0) where
    -- nothing was added
    pub none_added : (Is : ℕ → List Instr → Type 0) (at : ℕ) (before : List (Placed Instr))
        → AreAdded set fits (AreJoined Is 0) at at before before
    none_added Is at before = record {
      code = [];
      are = refl;
      fit = All-nil fits;
      long = omega arith;
      behind = sym (append-nil before);
    }

    -- an instruction was added
    pub one_added : (Is : List Instr → Type 0) (at len past : ℕ) (j : Instr) (before after : List (Placed Instr)) → Is (j ∷ []) → fits j
        → length (set.spelling j) ≡ len → past ≡ at + len → after ≡ before ++ record { at = at; len = len; instr = j } ∷ []
        → AreAdded set fits Is at past before after
    one_added Is at len past j before after is fit long there behind = record {
      code = j ∷ [];
      are = is;
      fit = All-cons fits j [] fit (All-nil fits);
      long = there ∙ ap (λ n. at + n) (sym long ∙ sym (bytes_one j));
      behind = behind ∙ ap (λ n. before ++ record { at = at; len = n; instr = j } ∷ []) (sym long);
    }

    -- others were added behind those
    pub more_added : (Is : ℕ → List Instr → Type 0) (number at mid past : ℕ) (before between after : List (Placed Instr))
        → AreAdded set fits (AreJoined Is number) at mid before between → AreAdded set fits (Is number) mid past between after
        → AreAdded set fits (AreJoined Is (number + 1)) at past before after
    more_added Is number at mid past before between after one two =
        let code = one.code ++ two.code in
        let joined : AreJoined Is (number + 1) code = rw (add-one) (one.code, two.code, one.are, two.are, refl) in
        let long : bytes_of set code ≡ bytes_of set one.code + bytes_of set two.code = bytes_append one.code two.code in
        record {
          code = code;
          are = joined;
          fit = All-append fits one.code two.code one.fit two.fit;
          long = omega (arith, one.long, two.long, long);
          behind = two.behind
              ∙ ap (λ front. front ++ placed_from set mid two.code) one.behind
              ∙ append_assoc before (placed_from set at one.code) (placed_from set mid two.code)
              ∙ ap (λ behind. before ++ behind)
              (ap (λ place. placed_from set at one.code ++ placed_from set place two.code) one.long ∙ sym (placed_append at one.code two.code));
        }
