-- What follows of the texts of machine code from the laws of spellings alone.
use Rattle.std.proofs.Common.{◌≡◌, ℕ, List, [], ◌∷◌, ◌++◌, ◌+◌, ◌-◌, ◌<◌, ◌≤◌, length, drop, refl, sym, ap, ◌∙◌, subst, arith, append_assoc, inl, inr, length-drop, length-append, append-nil}
use Rattle.std.specs.List.{flat_map}
use Rattle.asm_target.specs.InstructionSet.{InstructionSet}
use Rattle.asm_target.specs.Laws.{HasLengths, IsPrefixFree}
use Rattle.text_dis.specs.Raw.{IsLine, AreLines, IsRaw}

module _ {Instr : Type 0} (set : InstructionSet Instr) (fits : Instr → Type 0) (quantum : ℕ) where
  -- a line, and the text of what it leaves
  pub in_front : (offset : ℕ) (bytes line more : List ℕ) (n : ℕ) → IsLine set fits quantum offset bytes line n
      → IsRaw set fits quantum (offset + n) (drop n bytes) more → IsRaw set fits quantum offset bytes (line ++ more)
  in_front offset bytes line more n is raw =
      (line ∷ raw.0, (n, is, raw.1), ap (λ text. line ++ text) raw.2)

  -- whatever the text of the rest is, it ends the text of the whole
  abbrev pub Begun : List ℕ → List ℕ → List ℕ → Type 0
  Begun whole rest before =
      (more : List ℕ) → IsRaw set fits quantum (length whole - length rest) rest more
      → IsRaw set fits quantum 0 whole (before ++ more)

  pub begun : (whole : List ℕ) → Begun whole whole []
  begun whole more raw = subst (λ k. IsRaw set fits quantum k whole more) (omega arith) raw

  pub begun_next : (whole rest next before after : List ℕ) (n : ℕ)
      → ((line : List ℕ) × IsLine set fits quantum (length whole - length rest) rest line n × (after ≡ before ++ line))
      → next ≡ drop n rest → n ≤ length rest → length rest ≤ length whole
      → Begun whole rest before → Begun whole next after
  begun_next whole rest next before after n (line, is, behind) left within inside told more raw =
      let len : length next ≡ length rest - n = ap length left ∙ length-drop n rest in
      let place : length whole - length next ≡ length whole - length rest + n = omega (arith, len) in
      let last : IsRaw set fits quantum (length whole - length rest + n) (drop n rest) more =
      subst (λ bytes. IsRaw set fits quantum (length whole - length rest + n) bytes more) left
      (subst (λ k. IsRaw set fits quantum k next more) place raw) in
      subst (λ text. IsRaw set fits quantum 0 whole text)
      (sym (append_assoc before line more) ∙ ap (λ text. text ++ more) (sym behind))
      (told (line ++ more) (in_front (length whole - length rest) rest line more n is last))

  pub begun_ends : (whole rest before : List ℕ) → rest ≡ [] → Begun whole rest before
      → IsRaw set fits quantum 0 whole before
  begun_ends whole rest before none told =
      subst (λ text. IsRaw set fits quantum 0 whole text) (append-nil before) (told [] ([], none, refl))

  module _ (lengths : HasLengths set fits quantum) (prefix_free : IsPrefixFree set fits) where
    -- a line is of some bytes
    some_bytes : (offset : ℕ) (bytes line : List ℕ) (n : ℕ) → IsLine set fits quantum offset bytes line n
        → 0 < length bytes
    some_bytes offset bytes line n (inl (i, first, says)) =
        let long = (lengths i first.fit).least in
        let whole = ap length first.begins ∙ length-append (set.spelling i) (drop (length (set.spelling i)) bytes) in
        omega (arith, long, whole)
    some_bytes offset bytes line n (inr unread) = unread.some

    same_line : (offset : ℕ) (bytes line other : List ℕ) (n m : ℕ) → IsLine set fits quantum offset bytes line n
        → IsLine set fits quantum offset bytes other m → (line ≡ other) × (n ≡ m)
    same_line offset bytes line other n m (inl (i, first, says)) (inl (j, second, also)) =
        let same = prefix_free i j bytes first.fit second.fit first.begins second.begins in
        let len : n ≡ m = cc (first.len, second.len, same) in
        (cc (says, also, same, len), len)
    same_line offset bytes line other n m (inl (i, first, says)) (inr unread) =
        absurd (unread.none i first.fit first.begins)
    same_line offset bytes line other n m (inr unread) (inl (i, first, says)) =
        absurd (unread.none i first.fit first.begins)
    same_line offset bytes line other n m (inr one) (inr two) =
        let len : n ≡ m = cc (one.len, two.len) in
        (cc (one.says, two.says, len), len)

    same_lines : (lines others : List (List ℕ)) (offset : ℕ) (bytes : List ℕ)
        → AreLines set fits quantum offset bytes lines → AreLines set fits quantum offset bytes others → lines ≡ others
    same_lines [] [] offset bytes one two = refl
    same_lines [] (other ∷ others) offset bytes one two =
        let some = some_bytes offset bytes other two.0 two.1 in
        absurd (omega (arith, some, ap length one))
    same_lines (line ∷ lines) [] offset bytes one two =
        let some = some_bytes offset bytes line one.0 one.1 in
        absurd (omega (arith, some, ap length two))
    same_lines (line ∷ lines) (other ∷ others) offset bytes one two =
        let same = same_line offset bytes line other one.0 two.0 one.1 two.1 in
        let rest : AreLines set fits quantum (offset + one.0) (drop one.0 bytes) others =
        subst (λ k. AreLines set fits quantum (offset + k) (drop k bytes) others) (sym same.1) two.2 in
        let tail = same_lines lines others (offset + one.0) (drop one.0 bytes) one.2 rest in
        cc (same.0, tail)

    pub same_raw : (offset : ℕ) (bytes text other : List ℕ) → IsRaw set fits quantum offset bytes text
        → IsRaw set fits quantum offset bytes other → text ≡ other
    same_raw offset bytes text other one two =
        let same = same_lines one.0 two.0 offset bytes one.1 two.1 in
        one.2 ∙ ap (flat_map (λ line. line)) same ∙ sym two.2
