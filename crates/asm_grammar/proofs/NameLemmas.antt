-- A name has no zero byte.
use Rattle.std.proofs.Common.{◌≡◌, ℕ, Bool, true, false, not, ◌||◌, List, [], ◌∷◌, ◌++◌, Some, None, refl, ◌∙◌, if◌then◌else◌}
use Rattle.std.specs.Prelude.{◌==◌, filter_map}
use Rattle.std.specs.List.{cons_option}
use Rattle.std.proofs.lemmas.Bool.{and_from}
use Rattle.std.proofs.lemmas.List.Folds.{list_all-append}
use Rattle.asm_grammar.specs.Names.{name_byte, has_middle_dot, package_of, HasNoZero}

byte_kept : (byte : ℕ) (rest : List ℕ) → HasNoZero rest → HasNoZero (cons_option (name_byte byte) rest)
byte_kept byte rest all = by (byte == 0xB7) (byte == 0x95) (byte == 0) (byte == 0xC2) (byte == 0xE2) (byte == 0x88) refl where
  by : (dot slash zero dot_start slash_start slash_middle : Bool) → (byte == 0) ≡ zero
      → HasNoZero (cons_option (if dot then Some 46 else (if slash then Some 47 else (if zero || dot_start || slash_start || slash_middle then None else Some byte))) rest)
  by true slash zero first start middle is = all
  by false true zero first start middle is = all
  by false false true first start middle is = all
  by false false false true start middle is = all
  by false false false false true middle is = all
  by false false false false false true is = all
  by false false false false false false is = rw is all

bytes_kept : (word : List ℕ) → HasNoZero (filter_map name_byte word)
bytes_kept [] = refl
bytes_kept (byte ∷ word) = byte_kept byte (filter_map name_byte word) (bytes_kept word)

package_kept : (word : List ℕ) → HasNoZero (package_of word)
package_kept word = by (has_middle_dot word) refl where
  by : (dot : Bool) → has_middle_dot word ≡ dot → HasNoZero (package_of word)
  by true is = rw is refl
  by false is = rw is refl

-- also of what was read of a word so far
pub no_zero : (word front : List ℕ) → HasNoZero (package_of word ++ filter_map name_byte front)
no_zero word front =
    list_all-append (λ (byte : ℕ). not (byte == 0)) (package_of word) (filter_map name_byte front)
    ∙ and_from _ _ (package_kept word) (bytes_kept front)
