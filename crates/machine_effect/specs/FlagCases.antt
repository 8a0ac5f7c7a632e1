-- Cases of each flag rule and condition, from the manuals' words and, for amd64, from what a processor gave.
use Rattle.std.specs.Prelude.{ℕ, Bool, true, false, List, [], ◌∷◌, ◌==◌, ◌&&◌, Option, Some, None, if◌then◌else◌}
use Rattle.std.specs.Bool.{beq}
use Rattle.machine_effect.specs.declared.state.Flags.{Flags}
use Rattle.machine_effect.specs.declared.effect.Atom.{Atom}
use Rattle.machine_effect.specs.declared.effect.Atom.TheVariants.{Reg, Const, Loaded, Wide}
use Rattle.machine_effect.specs.declared.op.Shift.TheVariants.{Left, Right, RightSigned}
use Rattle.machine_effect.specs.declared.op.Logic.TheVariants.{And, Or, Xor}
use Rattle.machine_effect.specs.declared.cond.Cond.{Cond}
use Rattle.machine_effect.specs.declared.cond.Cond.TheVariants as cond
use Rattle.machine_effect.specs.declared.flag_rule.FlagRule.{FlagRule}
use Rattle.machine_effect.specs.declared.flag_rule.FlagRule.TheVariants as rule
use Rattle.machine_effect.specs.Values.{holds_by}
use Rattle.machine_effect.specs.FlagsAfter.{FlagChoice, flags_by}

-- the registers 0 and 1 have these numbers
abbrev numbers : ℕ → ℕ → Atom → ℕ
numbers a b (Reg r) = if r == 0 then a else b
numbers a b (Const n) = n
numbers a b Loaded = a
numbers a b (Wide r) = 0

abbrev first : Atom
first = Reg 0

abbrev second : Atom
second = Reg 1

abbrev all_flags : Bool → Flags
all_flags flag = record { carry = flag; zero = flag; sign = flag; over = flag; parity = flag }

-- a rule, the two numbers, what all flags were before, and what carry, zero, sign, over and parity may be
pub record FlagCase : Type 0 where
  pub rule : FlagRule
  pub a : ℕ
  pub b : ℕ
  pub before : Bool
  pub wanted : FlagChoice

abbrev flag_case : FlagRule → ℕ → ℕ → Bool → Option Bool → Option Bool → Option Bool → Option Bool → Option Bool → FlagCase
flag_case rule a b before carry zero sign over parity = record {
  rule = rule;
  a = a;
  b = b;
  before = before;
  wanted = record { carry = carry; zero = zero; sign = sign; over = over; parity = parity };
}

abbrev set : Option Bool
set = Some true

abbrev clear : Option Bool
clear = Some false

abbrev free : Option Bool
free = None

abbrev is_same : Option Bool → Option Bool → Bool
is_same (Some m) (Some n) = beq m n
is_same None None = true
is_same _ _ = false

abbrev is_same_choice : FlagChoice → FlagChoice → Bool
is_same_choice m n =
    is_same m.carry n.carry && is_same m.zero n.zero && is_same m.sign n.sign && is_same m.over n.over
    && is_same m.parity n.parity

-- the rule gives what the case says
abbrev pub is_met : FlagCase → Bool
is_met one = is_same_choice (flags_by (all_flags one.before) (numbers one.a one.b) one.rule) one.wanted

-- a condition, the flags, the two numbers, and whether it holds
pub record CondCase : Type 0 where
  pub cond : Cond
  pub flags : Flags
  pub a : ℕ
  pub b : ℕ
  pub wanted : Bool

abbrev of_flags : Cond → Bool → Bool → Bool → Bool → Bool → Bool → CondCase
of_flags cond carry zero sign over parity wanted = record {
  cond = cond;
  flags = record { carry = carry; zero = zero; sign = sign; over = over; parity = parity };
  a = 0;
  b = 0;
  wanted = wanted;
}

abbrev of_numbers : Cond → ℕ → ℕ → Bool → CondCase
of_numbers cond a b wanted = record { cond = cond; flags = all_flags false; a = a; b = b; wanted = wanted }

-- the condition holds exactly where the case says so
abbrev pub is_told : CondCase → Bool
is_told one = beq (holds_by one.flags (numbers one.a one.b) one.cond) one.wanted

abbrev pub flag_cases : List FlagCase
flag_cases =
    flag_case (rule.Add first second 64) 0xffff_ffff_ffff_ffff 1 false set set clear clear set ∷
    flag_case (rule.Add first second 64) 0x8000_0000_0000_0000 0x8000_0000_0000_0000 false set set clear set set ∷
    flag_case (rule.Add first second 64) 0x7fff_ffff_ffff_ffff 1 false clear clear set set set ∷
    flag_case (rule.Add first second 64) 5 7 false clear clear clear clear set ∷
    flag_case (rule.Add first second 64) 0 0 false clear set clear clear set ∷
    flag_case (rule.Add first second 64) 0xffff_ffff_0000_0003 1 false clear clear set clear clear ∷
    flag_case (rule.Add first second 32) 0xffff_ffff 1 false set set clear clear set ∷
    flag_case (rule.Add first second 32) 0x8000_0000 0x8000_0000 false set set clear set set ∷
    flag_case (rule.Add first second 32) 0x7fff_ffff 1 false clear clear set set set ∷
    flag_case (rule.Add first second 32) 5 7 false clear clear clear clear set ∷
    flag_case (rule.Add first second 32) 0 0 false clear set clear clear set ∷
    flag_case (rule.Subtract first second 64) 0xffff_ffff_ffff_ffff 1 false clear clear set clear clear ∷
    flag_case (rule.Subtract first second 64) 0x8000_0000_0000_0000 0x8000_0000_0000_0000 false clear set clear clear set ∷
    flag_case (rule.Subtract first second 64) 0x7fff_ffff_ffff_ffff 1 false clear clear clear clear clear ∷
    flag_case (rule.Subtract first second 64) 5 7 false set clear set clear clear ∷
    flag_case (rule.Subtract first second 64) 0x8000_0000_0000_0000 1 false clear clear clear set set ∷
    flag_case (rule.Subtract first second 64) 0 0x8000_0000_0000_0000 false set clear set set set ∷
    flag_case (rule.Subtract first second 32) 0xffff_ffff 1 false clear clear set clear clear ∷
    flag_case (rule.Subtract first second 32) 0x8000_0000 0x8000_0000 false clear set clear clear set ∷
    flag_case (rule.Subtract first second 32) 0x7fff_ffff 1 false clear clear clear clear clear ∷
    flag_case (rule.Subtract first second 32) 5 7 false set clear set clear clear ∷
    flag_case (rule.Subtract first second 32) 0x8000_0000 1 false clear clear clear set set ∷
    flag_case (rule.Subtract first second 32) 0 0x8000_0000 false set clear set set set ∷
    flag_case (rule.AddCarry first second 64) 0xffff_ffff_ffff_ffff 1 false set set clear clear set ∷
    flag_case (rule.AddCarry first second 64) 0xffff_ffff_ffff_ffff 1 true set clear clear clear clear ∷
    flag_case (rule.AddCarry first second 64) 0x8000_0000_0000_0000 0x8000_0000_0000_0000 false set set clear set set ∷
    flag_case (rule.AddCarry first second 64) 0x8000_0000_0000_0000 0x8000_0000_0000_0000 true set clear clear set clear ∷
    flag_case (rule.AddCarry first second 64) 0x7fff_ffff_ffff_ffff 1 false clear clear set set set ∷
    flag_case (rule.AddCarry first second 64) 0x7fff_ffff_ffff_ffff 1 true clear clear set set clear ∷
    flag_case (rule.AddCarry first second 64) 5 7 false clear clear clear clear set ∷
    flag_case (rule.AddCarry first second 64) 5 7 true clear clear clear clear clear ∷
    flag_case (rule.AddCarry first second 64) 0 0 false clear set clear clear set ∷
    flag_case (rule.AddCarry first second 64) 0xffff_ffff_0000_0003 1 false clear clear set clear clear ∷
    flag_case (rule.AddCarry first second 64) 0xffff_ffff_0000_0003 1 true clear clear set clear set ∷
    flag_case (rule.AddCarry first second 64) 0x7fff_ffff_ffff_ffff 0 true clear clear set set set ∷
    flag_case (rule.AddCarry first second 32) 0xffff_ffff 1 false set set clear clear set ∷
    flag_case (rule.AddCarry first second 32) 0xffff_ffff 1 true set clear clear clear clear ∷
    flag_case (rule.AddCarry first second 32) 0x8000_0000 0x8000_0000 false set set clear set set ∷
    flag_case (rule.AddCarry first second 32) 0x8000_0000 0x8000_0000 true set clear clear set clear ∷
    flag_case (rule.AddCarry first second 32) 0x7fff_ffff 1 false clear clear set set set ∷
    flag_case (rule.AddCarry first second 32) 0x7fff_ffff 1 true clear clear set set clear ∷
    flag_case (rule.AddCarry first second 32) 5 7 false clear clear clear clear set ∷
    flag_case (rule.AddCarry first second 32) 5 7 true clear clear clear clear clear ∷
    flag_case (rule.AddCarry first second 32) 0 0 false clear set clear clear set ∷
    flag_case (rule.AddCarry first second 32) 0x7fff_ffff 0 true clear clear set set set ∷
    flag_case (rule.SubtractBorrow first second 64) 0xffff_ffff_ffff_ffff 1 false clear clear set clear clear ∷
    flag_case (rule.SubtractBorrow first second 64) 0xffff_ffff_ffff_ffff 1 true clear clear set clear clear ∷
    flag_case (rule.SubtractBorrow first second 64) 0x8000_0000_0000_0000 0x8000_0000_0000_0000 false clear set clear clear set ∷
    flag_case (rule.SubtractBorrow first second 64) 0x8000_0000_0000_0000 0x8000_0000_0000_0000 true set clear set clear set ∷
    flag_case (rule.SubtractBorrow first second 64) 0x7fff_ffff_ffff_ffff 1 false clear clear clear clear clear ∷
    flag_case (rule.SubtractBorrow first second 64) 0x7fff_ffff_ffff_ffff 1 true clear clear clear clear clear ∷
    flag_case (rule.SubtractBorrow first second 64) 5 7 false set clear set clear clear ∷
    flag_case (rule.SubtractBorrow first second 64) 5 7 true set clear set clear clear ∷
    flag_case (rule.SubtractBorrow first second 64) 0x8000_0000_0000_0000 0x7fff_ffff_ffff_ffff true clear set clear set set ∷
    flag_case (rule.SubtractBorrow first second 64) 0 0xffff_ffff_ffff_ffff true set set clear clear set ∷
    flag_case (rule.SubtractBorrow first second 32) 0xffff_ffff 1 false clear clear set clear clear ∷
    flag_case (rule.SubtractBorrow first second 32) 0xffff_ffff 1 true clear clear set clear clear ∷
    flag_case (rule.SubtractBorrow first second 32) 0x8000_0000 0x8000_0000 false clear set clear clear set ∷
    flag_case (rule.SubtractBorrow first second 32) 0x8000_0000 0x8000_0000 true set clear set clear set ∷
    flag_case (rule.SubtractBorrow first second 32) 0x7fff_ffff 1 false clear clear clear clear clear ∷
    flag_case (rule.SubtractBorrow first second 32) 0x7fff_ffff 1 true clear clear clear clear clear ∷
    flag_case (rule.SubtractBorrow first second 32) 5 7 false set clear set clear clear ∷
    flag_case (rule.SubtractBorrow first second 32) 5 7 true set clear set clear clear ∷
    flag_case (rule.SubtractBorrow first second 32) 0x8000_0000 0x7fff_ffff true clear set clear set set ∷
    flag_case (rule.SubtractBorrow first second 32) 0 0xffff_ffff true set set clear clear set ∷
    flag_case (rule.Logic And first second 64) 0xffff_ffff_ffff_ffff 1 false clear clear clear clear clear ∷
    flag_case (rule.Logic And first second 64) 0x8000_0000_0000_0000 0x8000_0000_0000_0000 false clear clear set clear set ∷
    flag_case (rule.Logic And first second 64) 5 7 false clear clear clear clear set ∷
    flag_case (rule.Logic And first second 64) 0 0 false clear set clear clear set ∷
    flag_case (rule.Logic Or first second 64) 0x8000_0000_0000_0000 1 false clear clear set clear clear ∷
    flag_case (rule.Logic Xor first second 64) 0x8000_0000_0000_0000 0x8000_0000_0000_0000 false clear set clear clear set ∷
    flag_case (rule.Logic And first second 32) 0xffff_ffff 1 false clear clear clear clear clear ∷
    flag_case (rule.Logic And first second 32) 0x8000_0000 0x8000_0000 false clear clear set clear set ∷
    flag_case (rule.Logic And first second 32) 5 7 false clear clear clear clear set ∷
    flag_case (rule.Logic And first second 32) 0 0 false clear set clear clear set ∷
    flag_case (rule.Logic Or first second 32) 0x8000_0000 1 false clear clear set clear clear ∷
    flag_case (rule.Logic Xor first second 32) 0x8000_0000 0x8000_0000 false clear set clear clear set ∷
    flag_case (rule.Increment first 64) 0xffff_ffff_ffff_ffff 0 false clear set clear clear set ∷
    flag_case (rule.Increment first 64) 0xffff_ffff_ffff_ffff 0 true set set clear clear set ∷
    flag_case (rule.Increment first 64) 0x7fff_ffff_ffff_ffff 0 false clear clear set set set ∷
    flag_case (rule.Increment first 64) 0x7fff_ffff_ffff_ffff 0 true set clear set set set ∷
    flag_case (rule.Increment first 64) 0x8000_0000_0000_0000 0 false clear clear set clear clear ∷
    flag_case (rule.Increment first 64) 0x8000_0000_0000_0000 0 true set clear set clear clear ∷
    flag_case (rule.Increment first 64) 0 0 false clear clear clear clear clear ∷
    flag_case (rule.Increment first 64) 0 0 true set clear clear clear clear ∷
    flag_case (rule.Increment first 32) 0xffff_ffff 0 false clear set clear clear set ∷
    flag_case (rule.Increment first 32) 0xffff_ffff 0 true set set clear clear set ∷
    flag_case (rule.Increment first 32) 0x7fff_ffff 0 false clear clear set set set ∷
    flag_case (rule.Increment first 32) 0x7fff_ffff 0 true set clear set set set ∷
    flag_case (rule.Increment first 32) 0x8000_0000 0 false clear clear set clear clear ∷
    flag_case (rule.Increment first 32) 0x8000_0000 0 true set clear set clear clear ∷
    flag_case (rule.Increment first 32) 0 0 false clear clear clear clear clear ∷
    flag_case (rule.Increment first 32) 0 0 true set clear clear clear clear ∷
    flag_case (rule.Decrement first 64) 0xffff_ffff_ffff_ffff 0 false clear clear set clear clear ∷
    flag_case (rule.Decrement first 64) 0xffff_ffff_ffff_ffff 0 true set clear set clear clear ∷
    flag_case (rule.Decrement first 64) 0x7fff_ffff_ffff_ffff 0 false clear clear clear clear clear ∷
    flag_case (rule.Decrement first 64) 0x7fff_ffff_ffff_ffff 0 true set clear clear clear clear ∷
    flag_case (rule.Decrement first 64) 0x8000_0000_0000_0000 0 false clear clear clear set set ∷
    flag_case (rule.Decrement first 64) 0x8000_0000_0000_0000 0 true set clear clear set set ∷
    flag_case (rule.Decrement first 64) 0 0 false clear clear set clear set ∷
    flag_case (rule.Decrement first 64) 0 0 true set clear set clear set ∷
    flag_case (rule.Decrement first 64) 7 0 false clear clear clear clear set ∷
    flag_case (rule.Decrement first 64) 7 0 true set clear clear clear set ∷
    flag_case (rule.Decrement first 32) 0xffff_ffff 0 false clear clear set clear clear ∷
    flag_case (rule.Decrement first 32) 0xffff_ffff 0 true set clear set clear clear ∷
    flag_case (rule.Decrement first 32) 0x7fff_ffff 0 false clear clear clear clear clear ∷
    flag_case (rule.Decrement first 32) 0x7fff_ffff 0 true set clear clear clear clear ∷
    flag_case (rule.Decrement first 32) 0x8000_0000 0 false clear clear clear set set ∷
    flag_case (rule.Decrement first 32) 0x8000_0000 0 true set clear clear set set ∷
    flag_case (rule.Decrement first 32) 0 0 false clear clear set clear set ∷
    flag_case (rule.Decrement first 32) 0 0 true set clear set clear set ∷
    flag_case (rule.Decrement first 32) 7 0 false clear clear clear clear set ∷
    flag_case (rule.Decrement first 32) 7 0 true set clear clear clear set ∷
    flag_case (rule.Shift Left first second 64) 0x8000_0000_0000_0003 1 false free clear clear free set ∷
    flag_case (rule.Shift Left first second 64) 0x8000_0000_0000_0003 63 false free clear set free set ∷
    flag_case (rule.Shift Left first second 64) 0x8000_0000_0000_0003 0 true set set set set set ∷
    flag_case (rule.Shift Left first second 64) 0x8000_0000_0000_0003 0 false clear clear clear clear clear ∷
    flag_case (rule.Shift Right first second 64) 0x8000_0000_0000_0003 1 false free clear clear free clear ∷
    flag_case (rule.Shift Right first second 64) 0x8000_0000_0000_0003 66 false free clear clear free set ∷
    flag_case (rule.Shift Right first second 64) 0x8000_0000_0000_0003 0 true set set set set set ∷
    flag_case (rule.Shift Right first second 64) 0x8000_0000_0000_0003 0 false clear clear clear clear clear ∷
    flag_case (rule.Shift RightSigned first second 64) 0x8000_0000_0000_0003 1 false free clear set free clear ∷
    flag_case (rule.Shift RightSigned first second 64) 0x8000_0000_0000_0003 63 false free clear set free set ∷
    flag_case (rule.Shift RightSigned first second 64) 0x8000_0000_0000_0003 0 true set set set set set ∷
    flag_case (rule.Shift RightSigned first second 64) 0x8000_0000_0000_0003 0 false clear clear clear clear clear ∷
    flag_case (rule.Shift Left first second 32) 0x8000_0003 1 false free clear clear free set ∷
    flag_case (rule.Shift Left first second 32) 0x8000_0003 31 false free clear set free set ∷
    flag_case (rule.Shift Left first second 32) 0x8000_0003 0 true set set set set set ∷
    flag_case (rule.Shift Left first second 32) 0x8000_0003 0 false clear clear clear clear clear ∷
    flag_case (rule.Shift Right first second 32) 0x8000_0003 1 false free clear clear free clear ∷
    flag_case (rule.Shift Right first second 32) 0x8000_0003 34 false free clear clear free set ∷
    flag_case (rule.Shift Right first second 32) 0x8000_0003 0 true set set set set set ∷
    flag_case (rule.Shift Right first second 32) 0x8000_0003 0 false clear clear clear clear clear ∷
    flag_case (rule.Shift RightSigned first second 32) 0x8000_0003 1 false free clear set free clear ∷
    flag_case (rule.Shift RightSigned first second 32) 0x8000_0003 31 false free clear set free set ∷
    flag_case (rule.Shift RightSigned first second 32) 0x8000_0003 0 true set set set set set ∷
    flag_case (rule.Shift RightSigned first second 32) 0x8000_0003 0 false clear clear clear clear clear ∷
    flag_case (rule.Rotate second 64) 0x8000_0000_0000_0003 5 false free clear clear free clear ∷
    flag_case (rule.Rotate second 64) 0x8000_0000_0000_0003 64 false clear clear clear clear clear ∷
    flag_case (rule.Rotate second 64) 0x8000_0000_0000_0003 5 true free set set free set ∷
    flag_case (rule.Rotate second 64) 0x8000_0000_0000_0003 64 true set set set set set ∷
    flag_case (rule.Rotate second 32) 0x8000_0003 5 false free clear clear free clear ∷
    flag_case (rule.Rotate second 32) 0x8000_0003 32 false clear clear clear clear clear ∷
    flag_case (rule.Rotate second 32) 0x8000_0003 5 true free set set free set ∷
    flag_case (rule.Rotate second 32) 0x8000_0003 32 true set set set set set ∷
    flag_case (rule.Multiply first second 64) 0xffff_ffff_ffff_ffff 0xffff_ffff_ffff_ffff false set free free set free ∷
    flag_case (rule.Multiply first second 64) 2 3 false clear free free clear free ∷
    flag_case (rule.Multiply first second 32) 0xffff_ffff 0xffff_ffff false set free free set free ∷
    flag_case (rule.Multiply first second 32) 2 3 false clear free free clear free ∷
    flag_case (rule.SignedMultiply first second 64) 0xffff_ffff_ffff_ffff 0xffff_ffff_ffff_ffff false clear free free clear free ∷
    flag_case (rule.SignedMultiply first second 64) 0x8000_0000_0000_0000 2 false set free free set free ∷
    flag_case (rule.SignedMultiply first second 32) 0xffff_ffff 0xffff_ffff false clear free free clear free ∷
    flag_case (rule.SignedMultiply first second 32) 0x8000_0000 2 false set free free set free ∷
    flag_case (rule.Scan first 64) 0 0 true free set free free free ∷
    flag_case (rule.Scan first 64) 4 0 true free clear free free free ∷
    flag_case (rule.Scan first 32) 0 0 true free set free free free ∷
    flag_case (rule.Scan first 32) 4 0 true free clear free free free ∷
    flag_case (rule.CountOnes first 64) 0 0 true clear set clear clear clear ∷
    flag_case (rule.CountOnes first 64) 4 4 true clear clear clear clear clear ∷
    flag_case (rule.CountOnes first 32) 0 0 true clear set clear clear clear ∷
    flag_case (rule.CountOnes first 32) 4 4 true clear clear clear clear clear ∷
    flag_case rule.Keep 3 4 false clear clear clear clear clear ∷
    flag_case rule.Keep 3 4 true set set set set set ∷
    flag_case rule.Free 3 4 false free free free free free ∷
    flag_case rule.Free 3 4 true free free free free free ∷
    flag_case (rule.AddShifted first second Left 0) 5 5 false clear clear clear clear clear ∷
    flag_case (rule.AddShifted first second Left 0) 5 5 true clear clear clear clear set ∷
    flag_case (rule.AddShifted first second Left 63) 0 1 false clear clear set clear clear ∷
    flag_case (rule.AddShifted first second Left 63) 0 1 true clear clear set clear set ∷
    flag_case (rule.AddShifted first second Left 0) 0x8000_0000_0000_0000 0x8000_0000_0000_0000 false set set clear set clear ∷
    flag_case (rule.AddShifted first second Left 0) 0x8000_0000_0000_0000 0x8000_0000_0000_0000 true set set clear set set ∷
    flag_case (rule.AddShifted first second RightSigned 63) 0x8000_0000_0000_0000 0x8000_0000_0000_0000 false set clear clear set clear ∷
    flag_case (rule.AddShifted first second RightSigned 63) 0x8000_0000_0000_0000 0x8000_0000_0000_0000 true set clear clear set set ∷
    flag_case (rule.AddShifted first second Left 0) 0x8000_0000_0000_0000 1 false clear clear set clear clear ∷
    flag_case (rule.AddShifted first second Left 0) 0x8000_0000_0000_0000 1 true clear clear set clear set ∷
    flag_case (rule.AddShifted first second Right 63) 0xffff_ffff_ffff_ffff 0xffff_ffff_ffff_ffff false set set clear clear clear ∷
    flag_case (rule.AddShifted first second Right 63) 0xffff_ffff_ffff_ffff 0xffff_ffff_ffff_ffff true set set clear clear set ∷
    flag_case (rule.SubtractShifted first second Left 0) 5 5 false set set clear clear clear ∷
    flag_case (rule.SubtractShifted first second Left 0) 5 5 true set set clear clear set ∷
    flag_case (rule.SubtractShifted first second Left 63) 0 1 false clear clear set set clear ∷
    flag_case (rule.SubtractShifted first second Left 63) 0 1 true clear clear set set set ∷
    flag_case (rule.SubtractShifted first second RightSigned 63) 0x8000_0000_0000_0000 0x8000_0000_0000_0000 false clear clear set clear clear ∷
    flag_case (rule.SubtractShifted first second RightSigned 63) 0x8000_0000_0000_0000 0x8000_0000_0000_0000 true clear clear set clear set ∷
    flag_case (rule.SubtractShifted first second Left 0) 0x8000_0000_0000_0000 1 false set clear clear set clear ∷
    flag_case (rule.SubtractShifted first second Left 0) 0x8000_0000_0000_0000 1 true set clear clear set set ∷
    flag_case (rule.SubtractShifted first second Right 63) 0xffff_ffff_ffff_ffff 0xffff_ffff_ffff_ffff false set clear set clear clear ∷
    flag_case (rule.SubtractShifted first second Right 63) 0xffff_ffff_ffff_ffff 0xffff_ffff_ffff_ffff true set clear set clear set ∷
    flag_case (rule.SubtractShifted first second Left 0) 3 7 false clear clear set clear clear ∷
    flag_case (rule.SubtractShifted first second Left 0) 3 7 true clear clear set clear set ∷
    flag_case (rule.AndShifted first second Left 0) 5 5 false clear clear clear clear clear ∷
    flag_case (rule.AndShifted first second Left 0) 5 5 true clear clear clear clear set ∷
    flag_case (rule.AndShifted first second Left 63) 0 1 false clear set clear clear clear ∷
    flag_case (rule.AndShifted first second Left 63) 0 1 true clear set clear clear set ∷
    flag_case (rule.AndShifted first second Left 0) 0x8000_0000_0000_0000 0x8000_0000_0000_0000 false clear clear set clear clear ∷
    flag_case (rule.AndShifted first second Left 0) 0x8000_0000_0000_0000 0x8000_0000_0000_0000 true clear clear set clear set ∷
    flag_case (rule.AndShifted first second RightSigned 63) 0x8000_0000_0000_0000 0x8000_0000_0000_0000 false clear clear set clear clear ∷
    flag_case (rule.AndShifted first second RightSigned 63) 0x8000_0000_0000_0000 0x8000_0000_0000_0000 true clear clear set clear set ∷
    flag_case (rule.AndShifted first second Left 0) 0x8000_0000_0000_0000 1 false clear set clear clear clear ∷
    flag_case (rule.AndShifted first second Left 0) 0x8000_0000_0000_0000 1 true clear set clear clear set ∷
    flag_case (rule.AndShifted first second Right 63) 0xffff_ffff_ffff_ffff 0xffff_ffff_ffff_ffff false clear clear clear clear clear ∷
    flag_case (rule.AndShifted first second Right 63) 0xffff_ffff_ffff_ffff 0xffff_ffff_ffff_ffff true clear clear clear clear set ∷
    []

abbrev pub cond_cases : List CondCase
cond_cases =
    of_flags cond.Carry false true true true true false ∷
    of_flags cond.Carry true false false false false true ∷
    of_flags cond.NoCarry false true true true true true ∷
    of_flags cond.NoCarry true false false false false false ∷
    of_flags cond.Zero true false true true true false ∷
    of_flags cond.Zero false true false false false true ∷
    of_flags cond.NotZero true false true true true true ∷
    of_flags cond.NotZero false true false false false false ∷
    of_flags cond.Negative true true false true true false ∷
    of_flags cond.Negative false false true false false true ∷
    of_flags cond.NotNegative true true false true true true ∷
    of_flags cond.NotNegative false false true false false false ∷
    of_flags cond.Over true true true false true false ∷
    of_flags cond.Over false false false true false true ∷
    of_flags cond.NotOver true true true false true true ∷
    of_flags cond.NotOver false false false true false false ∷
    of_flags cond.ParityEven true true true true false false ∷
    of_flags cond.ParityEven false false false false true true ∷
    of_flags cond.ParityOdd true true true true false true ∷
    of_flags cond.ParityOdd false false false false true false ∷
    of_flags cond.CarryOrZero false false true true true false ∷
    of_flags cond.CarryOrZero false true true true true true ∷
    of_flags cond.CarryOrZero true false false false false true ∷
    of_flags cond.CarryOrZero true true false false false true ∷
    of_flags cond.NeitherCarryNorZero false false true true true true ∷
    of_flags cond.NeitherCarryNorZero false true true true true false ∷
    of_flags cond.NeitherCarryNorZero true false false false false false ∷
    of_flags cond.NeitherCarryNorZero true true false false false false ∷
    of_flags cond.CarryNotZero false false true true true false ∷
    of_flags cond.CarryNotZero false true true true true false ∷
    of_flags cond.CarryNotZero true false false false false true ∷
    of_flags cond.CarryNotZero true true false false false false ∷
    of_flags cond.NoCarryOrZero false false true true true true ∷
    of_flags cond.NoCarryOrZero false true true true true true ∷
    of_flags cond.NoCarryOrZero true false false false false false ∷
    of_flags cond.NoCarryOrZero true true false false false true ∷
    of_flags cond.Less true true false false true false ∷
    of_flags cond.Less true true false true true true ∷
    of_flags cond.Less false false true false false true ∷
    of_flags cond.Less false false true true false false ∷
    of_flags cond.GreaterOrEqual true true false false true true ∷
    of_flags cond.GreaterOrEqual true true false true true false ∷
    of_flags cond.GreaterOrEqual false false true false false false ∷
    of_flags cond.GreaterOrEqual false false true true false true ∷
    of_flags cond.LessOrEqual true false false false true false ∷
    of_flags cond.LessOrEqual true false false true true true ∷
    of_flags cond.LessOrEqual true false true false true true ∷
    of_flags cond.LessOrEqual true false true true true false ∷
    of_flags cond.LessOrEqual false true false false false true ∷
    of_flags cond.LessOrEqual false true false true false true ∷
    of_flags cond.LessOrEqual false true true false false true ∷
    of_flags cond.LessOrEqual false true true true false true ∷
    of_flags cond.Greater true false false false true true ∷
    of_flags cond.Greater true false false true true false ∷
    of_flags cond.Greater true false true false true false ∷
    of_flags cond.Greater true false true true true true ∷
    of_flags cond.Greater false true false false false false ∷
    of_flags cond.Greater false true false true false false ∷
    of_flags cond.Greater false true true false false false ∷
    of_flags cond.Greater false true true true false false ∷
    of_numbers (cond.Equal first second 64) 5 5 true ∷
    of_numbers (cond.NotEqual first second 64) 5 5 false ∷
    of_numbers (cond.Equal first second 64) 5 6 false ∷
    of_numbers (cond.NotEqual first second 64) 5 6 true ∷
    of_numbers (cond.Equal first second 64) 0x1_0000_0005 5 false ∷
    of_numbers (cond.NotEqual first second 64) 0x1_0000_0005 5 true ∷
    of_numbers (cond.Equal first second 32) 0x1_0000_0005 5 true ∷
    of_numbers (cond.NotEqual first second 32) 0x1_0000_0005 5 false ∷
    of_numbers (cond.Equal first second 32) 0 0x1_0000_0000 true ∷
    of_numbers (cond.NotEqual first second 32) 0 0x1_0000_0000 false ∷
    of_numbers (cond.SignedBelow first second 64) 5 5 false ∷
    of_numbers (cond.SignedNotBelow first second 64) 5 5 true ∷
    of_numbers (cond.Below first second 64) 5 5 false ∷
    of_numbers (cond.NotBelow first second 64) 5 5 true ∷
    of_numbers (cond.SignedBelow first second 64) 0xffff_ffff_ffff_ffff 0 true ∷
    of_numbers (cond.SignedNotBelow first second 64) 0xffff_ffff_ffff_ffff 0 false ∷
    of_numbers (cond.Below first second 64) 0xffff_ffff_ffff_ffff 0 false ∷
    of_numbers (cond.NotBelow first second 64) 0xffff_ffff_ffff_ffff 0 true ∷
    of_numbers (cond.SignedBelow first second 64) 0 0xffff_ffff_ffff_ffff false ∷
    of_numbers (cond.SignedNotBelow first second 64) 0 0xffff_ffff_ffff_ffff true ∷
    of_numbers (cond.Below first second 64) 0 0xffff_ffff_ffff_ffff true ∷
    of_numbers (cond.NotBelow first second 64) 0 0xffff_ffff_ffff_ffff false ∷
    of_numbers (cond.SignedBelow first second 64) 0x8000_0000_0000_0000 0x7fff_ffff_ffff_ffff true ∷
    of_numbers (cond.SignedNotBelow first second 64) 0x8000_0000_0000_0000 0x7fff_ffff_ffff_ffff false ∷
    of_numbers (cond.Below first second 64) 0x8000_0000_0000_0000 0x7fff_ffff_ffff_ffff false ∷
    of_numbers (cond.NotBelow first second 64) 0x8000_0000_0000_0000 0x7fff_ffff_ffff_ffff true ∷
    of_numbers (cond.SignedBelow first second 32) 0x8000_0000 1 true ∷
    of_numbers (cond.SignedNotBelow first second 32) 0x8000_0000 1 false ∷
    of_numbers (cond.Below first second 32) 0x8000_0000 1 false ∷
    of_numbers (cond.NotBelow first second 32) 0x8000_0000 1 true ∷
    of_numbers (cond.SignedBelow first second 64) 0x8000_0000 1 false ∷
    of_numbers (cond.SignedNotBelow first second 64) 0x8000_0000 1 true ∷
    of_numbers (cond.Below first second 64) 0x8000_0000 1 false ∷
    of_numbers (cond.NotBelow first second 64) 0x8000_0000 1 true ∷
    of_numbers (cond.BitSet first 63) 0x8000_0000_0000_0000 0 true ∷
    of_numbers (cond.BitClear first 63) 0x8000_0000_0000_0000 0 false ∷
    of_numbers (cond.BitSet first 62) 0x8000_0000_0000_0000 0 false ∷
    of_numbers (cond.BitClear first 62) 0x8000_0000_0000_0000 0 true ∷
    of_numbers (cond.BitSet first 0) 1 0 true ∷
    of_numbers (cond.BitClear first 0) 1 0 false ∷
    of_numbers (cond.BitSet first 0) 2 0 false ∷
    of_numbers (cond.BitClear first 0) 2 0 true ∷
    []
