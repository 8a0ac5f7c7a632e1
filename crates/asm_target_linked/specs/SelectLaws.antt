-- The laws of selection.
use Rattle.std.specs.Prelude.{All, IfSome, IsTrue, map, nat_lt, bytes_eq, codes}
use Rattle.std.specs.List.{list_all}
use Rattle.std.proofs.Common.{◌≡◌, ℕ, List, [], ◌∷◌, length, ◌<◌, ◌^◌, ◌≤◌, ◌&&◌, ◌||◌, Bool, true, false, not, Some, None, Option, Decides, refl, sym, ap, ◌∙◌, arith, subst, is_some, if◌then◌else◌}
use Rattle.std.proofs.lemmas.Bool.{and_parts}
use Rattle.std.proofs.lemmas.Bool.Decides.{nat_tests, Decides-and, Decides-by_and, not_from_Decides}
use Rattle.std.proofs.lemmas.List.Elements.{All-nil, All-cons}
use Rattle.std.proofs.lemmas.Slice.Eq.{bytes_eq-Decides}
use Rattle.goasm_base.specs.declared.statement.Operand.{Operand}
use Rattle.goasm_base.specs.declared.statement.Operand.TheVariants.{Imm, Word, Mem, Sym, Arg, Auto, Label, Pair, Shifted}
use Rattle.goasm_base.specs.declared.statement.Stmt.{Stmt}
use Rattle.asm_target.specs.declared.frame.Site.{Site}
use Rattle.asm_target.specs.declared.refer.Picked.{Picked}
use Rattle.asm_target.specs.declared.select_no.SelectNo.TheVariants as no
use Rattle.asm_target.specs.Aiming.{IsPickable, most_bytes}
use Rattle.asm_target.specs.References.{IsNamed, RefersTo}
use Rattle.asm_target.specs.Selection.{CouldBe, IsRefused, IsSelected, NamesWords, without_numbers}
use Rattle.asm_target_linked.specs.declared.instr.FrameOp.TheVariants.{Above}
use Rattle.asm_target_linked.specs.declared.instr.Instr.{Instr}
use Rattle.asm_target_linked.specs.declared.instr.Instr.TheVariants.{Frame}
use Rattle.asm_target_linked.specs.Instr.{Fits, linked}
use Rattle.asm_target_linked.specs.Forms.{aiming}
use Rattle.asm_target_linked.specs.Frames.{plain}
use Rattle.asm_target_linked.specs.Selecting.{Becomes, IsKnown, constant_in, constant_of, has_no_suffix, is_known, is_register, is_word, low_of, names_index, names_word, refusal_of, selected_of, selection}

below_bound : (n : ℕ) → nat_lt n (2 ^ 32) ≡ true → n < 2 ^ 32
below_bound n is = grind (arith, nat_tests)

is_below : (n : ℕ) → n < 2 ^ 32 → nat_lt n (2 ^ 32) ≡ true
is_below n low = grind (arith, nat_tests)

imm_same : (a b : ℕ) → Imm a ∷ [] ≡ Imm b ∷ [] → a ≡ b
imm_same a b same = cc

pub single : (stmt : Stmt) (site : Site) (code other : List (Picked Instr)) → selection.becomes stmt site code
    → selection.becomes stmt site other → code ≡ other
single stmt site code other a b =
    let same : a.constant ≡ b.constant = imm_same a.constant b.constant (sym a.operands ∙ b.operands) in
    a.code_is ∙ ap (λ (n : ℕ). plain (Frame Above n) ∷ []) same ∙ sym b.code_is

pub known : (stmt : Stmt) (site : Site) (code : List (Picked Instr)) → selection.becomes stmt site code
    → selection.knows stmt.op stmt.suffix
known stmt site code is = is.known

abbrev Pickable : Picked Instr → Type 0
Pickable = IsPickable Fits aiming

pub pickable : (stmt : Stmt) (site : Site) (code : List (Picked Instr)) → selection.becomes stmt site code → All Pickable code
pickable stmt site code is =
    subst (All Pickable) (sym is.code_is)
    (All-cons Pickable (plain (Frame Above is.constant)) [] (record { fit = is.low; directed = λ to refers. absurd (cc) }) (All-nil Pickable))

pub few_bytes : (stmt : Stmt) (site : Site) (code : List (Picked Instr)) → selection.becomes stmt site code
    → most_bytes linked aiming code ≤ 64
few_bytes stmt site code is =
    subst (λ (c : List (Picked Instr)). most_bytes linked aiming c ≤ 64) (sym is.code_is) (omega arith)

-- it refers to nothing
pub refers : (stmt : Stmt) (site : Site) (code : List (Picked Instr)) → selection.becomes stmt site code
    → All (RefersTo (IsNamed stmt.operands)) code
refers stmt site code is =
    let Named : Picked Instr → Type 0 = RefersTo (IsNamed stmt.operands) in
    subst (All Named) (sym is.code_is)
    (All-cons Named (plain (Frame Above is.constant)) [] (λ refer is. absurd (cc)) (All-nil Named))

pub some : (stmt : Stmt) (site : Site) (code : List (Picked Instr)) → selection.becomes stmt site code → 0 < length code
some stmt site code is = omega (arith, ap length is.code_is)

bytes_same : (a b : List ℕ) → bytes_eq a b ≡ true → a ≡ b
bytes_same a b is = (bytes_eq-Decides a b).0 is

same_bytes : (a b : List ℕ) → a ≡ b → bytes_eq a b ≡ true
same_bytes a b is = (bytes_eq-Decides a b).1 is

no_suffix : (letter : Option ℕ) → has_no_suffix letter ≡ true → letter ≡ None
no_suffix None is = refl
no_suffix (Some letter) is = absurd (cc)

known_is : (stmt : Stmt) → is_known stmt ≡ true → IsKnown stmt.op stmt.suffix
known_is stmt is =
    let parts = and_parts (bytes_eq stmt.op (codes "ABOVE")) (has_no_suffix stmt.suffix) is in
    record { op = bytes_same stmt.op (codes "ABOVE") parts.0; suffix = no_suffix stmt.suffix parts.1 }

is_known_so : (stmt : Stmt) → IsKnown stmt.op stmt.suffix → is_known stmt ≡ true
is_known_so stmt known =
    rw (same_bytes stmt.op (codes "ABOVE") known.op, known.suffix) refl

-- the constant
constant_is : (operands : List Operand) (c : ℕ) → constant_in operands ≡ Some c → operands ≡ Imm c ∷ []
constant_is (Imm value ∷ []) c is = (let same : value ≡ c = cc in ap (λ (n : ℕ). Imm n ∷ []) same)
constant_is _ c is = absurd (cc)

unlocked : (lock : Bool) (operands : List Operand) (c : ℕ) → (if not lock then constant_in operands else None) ≡ Some c
    → (lock ≡ false) × (constant_in operands ≡ Some c)
unlocked false operands c is = (refl, is)
unlocked true operands c is = absurd (cc)

low_test : (n c : ℕ) (b : Bool) → nat_lt n (2 ^ 32) ≡ b → (if b then Some n else None) ≡ Some c → (Some n ≡ Some c) × (c < 2 ^ 32)
low_test n c true low is =
    (let same : n ≡ c = cc in (is, subst (λ (m : ℕ). m < 2 ^ 32) same (below_bound n low)))
low_test n c false low is = absurd (cc)

low_is : (found : Option ℕ) (c : ℕ) → low_of found ≡ Some c → (found ≡ Some c) × (c < 2 ^ 32)
low_is None c is = absurd (cc)
low_is (Some n) c is = low_test n c (nat_lt n (2 ^ 32)) refl is

known_case : (b : Bool) (found : Option ℕ) (c : ℕ) → (if b then found else None) ≡ Some c → (b ≡ true) × (found ≡ Some c)
known_case true found c is = (refl, is)
known_case false found c is = absurd (cc)

-- what is chosen is what a statement becomes
pub chosen : (stmt : Stmt) (c : ℕ) (code : List (Picked Instr)) → selected_of stmt ≡ Some c → code ≡ plain (Frame Above c) ∷ []
    → Becomes stmt code
chosen stmt c code is made =
    let k = known_case (is_known stmt) (low_of (constant_of stmt)) c is in
    let l = low_is (constant_of stmt) c k.1 in
    let u = unlocked stmt.lock stmt.operands c l.0 in
    record {
      known = known_is stmt k.0;
      lock = u.0;
      constant = c;
      operands = constant_is stmt.operands c u.1;
      low = l.1;
      code_is = made;
    }

constant_so : (stmt : Stmt) (c : ℕ) → stmt.lock ≡ false → stmt.operands ≡ Imm c ∷ [] → constant_of stmt ≡ Some c
constant_so stmt c unlocked_so operands = rw (unlocked_so, operands) refl

pub becomes_chosen : (stmt : Stmt) (code : List (Picked Instr)) → (is : Becomes stmt code) → selected_of stmt ≡ Some is.constant
becomes_chosen stmt code is =
    rw (is_known_so stmt is.known, constant_so stmt is.constant is.lock is.operands, is_below is.constant is.low) refl

-- refusals
true_is : (b : Bool) → Decides b (IsTrue b)
true_is b = (λ is. is, λ is. is)

both : (a b : Bool) (P Q : Type 0) → Decides a P → Decides b Q → Decides (a && b) (P × Q)
both a b P Q first second = Decides-and a b first second

index_is : (index : Option (List ℕ × ℕ)) → Decides (names_index index) (IfSome index (λ part. IsTrue (is_register part.0)))
index_is None = (λ is. tt, λ is. refl)
index_is (Some part) = true_is (is_register part.0)

word_is : (operand : Operand) → Decides (names_word operand) (NamesWords selection operand)
word_is (Imm value) = (λ is. tt, λ is. refl)
word_is (Word name) = true_is (is_word name)
word_is (Mem off base index) =
    both (is_register base) (names_index index) (IsTrue (is_register base)) (IfSome index (λ part. IsTrue (is_register part.0)))
    (true_is (is_register base)) (index_is index)
word_is (Sym sym off address) = (λ is. tt, λ is. refl)
word_is (Arg name off address) = (λ is. tt, λ is. refl)
word_is (Auto off address) = (λ is. tt, λ is. refl)
word_is (Label statement) = (λ is. tt, λ is. refl)
word_is (Pair first second) =
    both (is_register first) (is_register second) (IsTrue (is_register first)) (IsTrue (is_register second))
    (true_is (is_register first)) (true_is (is_register second))
word_is (Shifted reg kind amount) = true_is (is_register reg)

words_are : (operands : List Operand) → Decides (list_all names_word operands) (All (NamesWords selection) operands)
words_are operands =
    Decides-by_and names_word (NamesWords selection) (list_all names_word) word_is refl (λ _ _. refl) operands

imm_shape : (operands : List Operand) → map without_numbers operands ≡ Imm 0 ∷ [] → (c : ℕ) × (operands ≡ Imm c ∷ [])
imm_shape [] same = absurd (cc)
imm_shape (Imm value ∷ []) same = (value, refl)
imm_shape (first ∷ second ∷ rest) same = absurd (cc)
imm_shape (Word name ∷ []) same = absurd (cc)
imm_shape (Mem off base index ∷ []) same = absurd (cc)
imm_shape (Sym sym off address ∷ []) same = absurd (cc)
imm_shape (Arg name off address ∷ []) same = absurd (cc)
imm_shape (Auto off address ∷ []) same = absurd (cc)
imm_shape (Label statement ∷ []) same = absurd (cc)
imm_shape (Pair one two ∷ []) same = absurd (cc)
imm_shape (Shifted reg kind amount ∷ []) same = absurd (cc)

unselected : (stmt : Stmt) (site : Site) → selected_of stmt ≡ None → ¬ IsSelected selection stmt site
unselected stmt site none some = cc (none, becomes_chosen stmt some.0 some.1)

could : (stmt : Stmt) (site : Site) (c : ℕ) → is_known stmt ≡ true → constant_of stmt ≡ Some c → CouldBe selection stmt site
could stmt site c known_so is =
    let u = unlocked stmt.lock stmt.operands c is in (
      record stmt { operands = Imm 0 ∷ [] },
      record {
        lock = refl;
        op = refl;
        suffix = refl;
        operands = ap (map without_numbers) (constant_is stmt.operands c u.1);
      },
      (
        plain (Frame Above 0) ∷ [],
        record { known = known_is stmt known_so; lock = u.0; constant = 0; operands = refl; low = omega arith; code_is = refl },
      ),
    )

never : (stmt : Stmt) (site : Site) → constant_of stmt ≡ None → ¬ CouldBe selection stmt site
never stmt site none is =
    let b = is.2.1 in
    let shape = imm_shape stmt.operands (is.1.operands ∙ ap (map without_numbers) b.operands) in
    cc (none, constant_so stmt shape.0 (is.1.lock ∙ b.lock) shape.1)

last_two : (stmt : Stmt) (site : Site) (found : Option ℕ) → constant_of stmt ≡ found → selected_of stmt ≡ None → is_known stmt ≡ true
    → list_all names_word stmt.operands ≡ true → IsRefused selection stmt site (if is_some found then no.S4 else no.S3)
last_two stmt site (Some c) is none known_so named = record {
  known = known_is stmt known_so;
  named = (words_are stmt.operands).0 named;
  unselected = unselected stmt site none;
  could = could stmt site c known_so is;
}
last_two stmt site None is none known_so named = record {
  known = known_is stmt known_so;
  named = (words_are stmt.operands).0 named;
  never = never stmt site is;
}

by_names : (stmt : Stmt) (site : Site) (named : Bool) → list_all names_word stmt.operands ≡ named → selected_of stmt ≡ None
    → is_known stmt ≡ true
    → IsRefused selection stmt site (if not named then no.S2 else (if is_some (constant_of stmt) then no.S4 else no.S3))
by_names stmt site false named none known_so = record {
  known = known_is stmt known_so;
  unselected = unselected stmt site none;
  unnamed = not_from_Decides (list_all names_word stmt.operands) (words_are stmt.operands) named;
}
by_names stmt site true named none known_so = last_two stmt site (constant_of stmt) refl none known_so named

by_known : (stmt : Stmt) (site : Site) (known_so : Bool) → is_known stmt ≡ known_so → selected_of stmt ≡ None
    → IsRefused selection stmt site (if not known_so then no.S1
    else (if not (list_all names_word stmt.operands) then no.S2
    else (if is_some (constant_of stmt) then no.S4
    else no.S3)))
by_known stmt site false is none = λ known. cc (is, is_known_so stmt known)
by_known stmt site true is none = by_names stmt site (list_all names_word stmt.operands) refl none is

pub refused : (stmt : Stmt) (site : Site) → selected_of stmt ≡ None → IsRefused selection stmt site (refusal_of stmt)
refused stmt site none = by_known stmt site (is_known stmt) refl none
