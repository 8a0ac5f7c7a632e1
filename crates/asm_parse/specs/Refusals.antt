-- Refusals, and how a call answers what a definition says.
use Rattle.std.specs.Prelude.{◌≡◌, ◌≢◌, List, [], ◌∷◌, Result, Ok, Err}
use Rattle.goasm_base.specs.declared.pos.Pos.{Pos}
use Rattle.goasm_base.specs.Refusals as refusals
use Rattle.asm_grammar.specs.declared.cause.Cause.{Cause}
use Rattle.asm_grammar.specs.declared.cause.Cause.TheVariants.{DuplicateLabel, NamelessArgument, ArgumentSizeMissing, DataOrder, ZeroDivisor, OutsideText, RawCode}
use Rattle.asm_parse.specs.declared.parse_no.ParseNo.{ParseNo}
use Rattle.asm_parse.specs.declared.parse_no.ParseNo.TheVariants.{P2, P4, P5, P6, P7, P9, P10, Memory}

abbrev pub refusal : Cause → Pos → ParseNo
refusal DuplicateLabel pos = P2 pos
refusal NamelessArgument pos = P4 pos
refusal ArgumentSizeMissing pos = P5 pos
refusal DataOrder pos = P6 pos
refusal ZeroDivisor pos = P7 pos
refusal OutsideText pos = P9 pos
refusal RawCode pos = P10 pos

infixl 10 ◌>>=◌
abbrev pub ◌>>=◌ : {A B : Type 0} → Result A ParseNo → (A → Result B ParseNo) → Result B ParseNo
(Ok value) >>= next = next value
(Err refused) >>= next = Err refused

-- the answer is what a definition says; only want of memory may come in its place
abbrev pub Gives : {T : Type 0} → Result T ParseNo → Result T ParseNo → Type 0
Gives said answer = refusals.Gives Memory said answer

-- the same of a call that changes its state
abbrev pub Moves : {T : Type 0} → Result T ParseNo → Result (Unit {0}) ParseNo → T → Type 0
Moves said (Ok done) new = said ≡ Ok new
Moves said (Err refused) new = refused ≢ Memory → said ≡ Err refused

-- all the answers of a rule over a list, or its first refusal
unfoldable pub traversed : {A B : Type 0} → (A → Result B ParseNo) → List A → Result (List B) ParseNo
traversed rule [] = Ok []
traversed rule (first ∷ others) = do
  value ← rule first
  values ← traversed rule others
  Ok (value ∷ values)
