-- How a statement is read: from left to right, with the lowest of what is refused of its form so far.
use Rattle.std.specs.Prelude.{◌≡◌, ℕ, zero, suc, ◌<◌, ◌≤◌, Bool, true, false, List, [], ◌∷◌, length, Option, Some, None, Result, Ok, Err, ◌&&◌, ◌||◌, codes, bytes_eq, if◌then◌else◌}
use Rattle.asm_lex.specs.declared.token.Token.{Token}
use Rattle.asm_grammar.specs.declared.cause.Cause.{Cause}
use Rattle.asm_grammar.specs.declared.operator.Operator.{Operator}
use Rattle.asm_grammar.specs.declared.operator.Group.{Group}
use Rattle.asm_grammar.specs.declared.stop.Stop.{Stop}
use Rattle.asm_grammar.specs.declared.stop.Stop.TheVariants.{Form, Memory}
use Rattle.asm_grammar.specs.Causes.{lower}
use Rattle.asm_grammar.specs.Operators.{operator_of}
use Rattle.asm_grammar.specs.Tokens.{word_of, sign_of, text_of, number_of, is_sign, is_word}

-- the tokens that are left of the statement, and the lowest cause that was found in what was read
pub record Reading : Type 0 where
  pub rest : List Token
  pub found : Option Cause

-- a form: what it says, and what is left behind it; `None` where no such form begins here
abbrev pub Reader : Type 0 → Type 0
Reader A = Reading → Option (A × Reading)

abbrev pub and_then : {A B : Type 0} → Option (A × Reading) → (A → Reader B) → Option (B × Reading)
and_then None next = None
and_then (Some read) next = next read.0 read.1

infixl 10 ◌>>=◌
abbrev pub ◌>>=◌ : {A B : Type 0} → Reader A → (A → Reader B) → Reader B
reader >>= next = λ at. and_then (reader at) next

infixl 10 ◌>>◌
abbrev pub ◌>>◌ : {A B : Type 0} → Reader A → Reader B → Reader B
reader >> next = λ at. and_then (reader at) (λ _. next)

abbrev pub pure : {A : Type 0} → A → Reader A
pure value = λ at. Some (value, at)

-- no form begins here
abbrev pub refuse : {A : Type 0} → Reader A
refuse = λ at. None

abbrev pub done : Reader (Unit {0})
done = λ at. Some (tt, at)

-- a form whose parts have to meet a test
abbrev pub require : Bool → Reader (Unit {0})
require true = done
require false = refuse

-- something is refused, and reading goes on, since a lower cause may follow. What is read then is never used
abbrev pub note : Cause → Reader (Unit {0})
note cause = λ at. Some (tt, record { rest = at.rest; found = Some (lower at.found cause) })

abbrev pub note_if : Bool → Cause → Reader (Unit {0})
note_if true cause = note cause
note_if false cause = done

abbrev pub behind : Reading → List Token → Reading
behind at tokens = record { rest = tokens; found = at.found }

abbrev pub taken : {A : Type 0} → Option A → Reading → List Token → Option (Option A × Reading)
taken None at tokens = Some (None, at)
taken (Some value) at tokens = Some (Some value, behind at tokens)

abbrev pub next_from : {A : Type 0} → (Token → Option A) → Reading → List Token → Option (Option A × Reading)
next_from value_of at [] = Some (None, at)
next_from value_of at (token ∷ tokens) = taken (value_of token) at tokens

-- the next token's value, where it has one of this kind; otherwise it is left
unfoldable pub next : {A : Type 0} → (Token → Option A) → Reader (Option A)
next value_of = λ at. next_from value_of at at.rest

abbrev pub eaten_from : (Token → Bool) → Reading → List Token → Option (Bool × Reading)
eaten_from test at [] = Some (false, at)
eaten_from test at (token ∷ tokens) = if test token then Some (true, behind at tokens) else Some (false, at)

-- whether this sign is next, which is passed then
unfoldable pub eat : List ℕ → Reader Bool
eat sign = λ at. eaten_from (is_sign sign) at at.rest

unfoldable pub expect : List ℕ → Reader (Unit {0})
expect sign = do
  is_there ← eat sign
  require is_there

abbrev pub needed : {A : Type 0} → Option A → Reader A
needed None = refuse
needed (Some value) = pure value

abbrev pub eat_word : Reader (Option (List ℕ))
eat_word = next word_of

unfoldable pub word : Reader (List ℕ)
word = do
  found ← eat_word
  needed found

abbrev pub eat_text : Reader (Option (List ℕ))
eat_text = next text_of

unfoldable pub number : Reader ℕ
number = do
  found ← next number_of
  needed found

abbrev pub operator_in : Group → Option (List ℕ) → Option Operator
operator_in group None = None
operator_in group (Some sign) = operator_of group sign

abbrev pub eat_operator : Group → Reader (Option Operator)
eat_operator group = next (λ token. operator_in group (sign_of token))

abbrev pub is_empty : List Token → Bool
is_empty [] = true
is_empty (token ∷ tokens) = false

-- whether what follows passes a test; nothing is passed
abbrev pub sees : (List Token → Bool) → Reader Bool
sees test = λ at. Some (test at.rest, at)

-- whether an operand ends here: the statement is read, or a comma is next
abbrev pub is_over : List Token → Bool
is_over [] = true
is_over (token ∷ tokens) = is_sign (codes ",") token

-- whether an offset is next
abbrev pub sees_offset : List Token → Bool
sees_offset [] = false
sees_offset (token ∷ tokens) = is_sign (codes "+") token || is_sign (codes "-") token

-- whether a base is next: a bracket with a word in it
abbrev pub sees_base : List Token → Bool
sees_base (token ∷ next ∷ tokens) = is_sign (codes "(") token && is_word next
sees_base _ = false

abbrev pub sees_word : List Token → Bool
sees_word [] = false
sees_word (token ∷ tokens) = is_word token

-- a label: a word with a colon behind it
abbrev pub label_from : Reading → List Token → Option (Option (List ℕ) × Reading)
label_from at (token ∷ next ∷ tokens) =
    if is_word token && is_sign (codes ":") next then Some (Some token.text, behind at tokens) else Some (None, at)
label_from at _ = Some (None, at)

unfoldable pub eat_label : Reader (Option (List ℕ))
eat_label = λ at. label_from at at.rest

-- this sign, where it may stand
abbrev pub eat_if : Bool → List ℕ → Reader Bool
eat_if true sign = eat sign
eat_if false sign = pure false

-- the field `shift` of arm64's instructions
abbrev pub shift_kind : List ℕ → Option ℕ
shift_kind sign =
    if bytes_eq sign (codes "<<") then Some 0
    else (if bytes_eq sign (codes ">>") then Some 1
    else (if bytes_eq sign (codes "->") then Some 2
    else None))

abbrev pub shift_in : Option (List ℕ) → Option ℕ
shift_in None = None
shift_in (Some sign) = shift_kind sign

abbrev pub eat_shift : Reader (Option ℕ)
eat_shift = next (λ token. shift_in (sign_of token))

-- a part, and as many more as begin, each of which goes on from the one before; each turn takes a token
abbrev pub repeated : {A B : Type 0} → Reader (Option B) → (A → B → Reader A) → ℕ → A → Reader A
repeated begins goes zero part = pure part
repeated begins goes (suc most) part = do
  next ← begins
  elim next [
    | None ↦ pure part
    | Some found ↦ (do longer ← goes part found; repeated begins goes most longer)
  ]

unfoldable pub going_on : {A B : Type 0} → Reader (Option B) → (A → B → Reader A) → A → Reader A
going_on begins goes part = λ at. repeated begins goes (length at.rest) part at

abbrev pub Stops : {A : Type 0} → Option (A × Reading) → Stop → Type 0
Stops said Form = said ≡ None
Stops said Memory = Unit {0}

-- what a call read is what a form says; only want of memory may come in its place
abbrev pub Reads : {A : Type 0} → Reader A → Reading → Result A Stop → Reading → Type 0
Reads reader old (Ok value) new = (reader old ≡ Some (value, new)) × (length new.rest ≤ length old.rest)
Reads reader old (Err stop) new = Stops (reader old) stop

-- the same of a call that can't fail
abbrev pub Takes : {A : Type 0} → Reader A → Reading → A → Reading → Type 0
Takes reader old value new = (reader old ≡ Some (value, new)) × (length new.rest ≤ length old.rest)

-- the same of a call that takes a token or leaves all as it was
abbrev pub Finds : {A : Type 0} → Reader (Option A) → Reading → Option A → Reading → Type 0
Finds reader old None new = (reader old ≡ Some (None, new)) × (new ≡ old)
Finds reader old (Some value) new = (reader old ≡ Some (Some value, new)) × (length new.rest < length old.rest)

abbrev pub Eats : Reader Bool → Reading → Bool → Reading → Type 0
Eats reader old false new = (reader old ≡ Some (false, new)) × (new ≡ old)
Eats reader old true new = (reader old ≡ Some (true, new)) × (length new.rest < length old.rest)

-- what a call that reads nothing found
abbrev pub IsFound : {A : Type 0} → Option A → Result A Stop → Type 0
IsFound said (Ok value) = said ≡ Some value
IsFound said (Err Form) = said ≡ None
IsFound said (Err Memory) = Unit {0}
