-- Instructions of a target at their places, as the functions of an image.
use Rattle.std.specs.Prelude.{◌≡◌, ℕ, ◌+◌, ◌-◌, ◌<◌, ◌≤◌, ◌==◌, List, All, true, false, length, Option, Some, None}
use Rattle.std.specs.List.{slice_get, list_any}
use Rattle.machine_effect.specs.declared.flow.Shape.{Shape}
use Rattle.asm_target.specs.declared.body.Placed.{Placed}
use Rattle.asm_target.specs.declared.sequence.Sequence.{Sequence}
use Rattle.asm_target.specs.FlowFunction.{is_within}
use Rattle.asm_target.specs.InstructionSet.{InstructionSet}
use Rattle.asm_target.specs.Runs.{PlacedEffect, stopped}
use Rattle.flow_rules.specs.Placing.{ArePlaced, Surroundings, end_of, function_of, is_listed, place_of}
use Rattle.image_model.specs.Joined.{Code, Text}

-- a function's instructions, and their depths by its table
pub record Listed (Instr : Type 0) : Type 0 where
  pub code : List (Placed Instr)
  pub depths : List ℕ

-- where it begins and ends
abbrev pub first_of : {Instr : Type 0} → Listed Instr → ℕ
first_of listed = place_of (slice_get listed.code 0)

abbrev pub past_of : {Instr : Type 0} → Listed Instr → ℕ
past_of listed = end_of (slice_get listed.code (length listed.code - 1))

module _ {Instr : Type 0} (set : InstructionSet Instr) where
  -- what an instruction does at its place; where there is none, nothing is done
  abbrev pub placed_there : Option (Placed Instr) → PlacedEffect
  placed_there (Some one) = record { effect = set.effect one.instr one.at; past = one.at + one.len }
  placed_there None = record { effect = stopped; past = 0 }

  -- each instruction is of the target's list, and has the bytes of its spelling
  abbrev pub AreSpelled : (Instr → Type 0) → List (Placed Instr) → Type 0
  AreSpelled fits code = All (λ one. fits one.instr × (one.len ≡ length (set.spelling one.instr))) code

  abbrev pub code_of : Shape → (List Instr → Sequence) → Surroundings → Listed Instr → Code
  code_of shape begins around listed = record {
    rules = function_of set shape begins listed.code listed.depths around;
    placed = λ k. placed_there (slice_get listed.code k);
  }

  -- functions by number as a text
  abbrev pub text_of : Shape → Option ℕ → (List Instr → Sequence) → Surroundings → ℕ → (ℕ → Listed Instr) → Text
  text_of shape growth begins around count functions = record {
    count = count;
    code = λ i. code_of shape begins around (functions i);
    shape = shape;
    growth = growth;
    range = around.text;
    is_entry = is_listed around.entries;
    is_growth_routine = is_listed around.growth;
  }

  -- Each function has instructions of the target, one behind the other. Functions lie in the text one behind the other, and their
  -- first instructions are its entries; what grows the stack lies outside
  pub record AreFunctions (fits : Instr → Type 0) (around : Surroundings) (count : ℕ) (functions : ℕ → Listed Instr) : Type 0 where
    pub some : (i : ℕ) → i < count → 0 < length (functions i).code
    pub placed : (i : ℕ) → i < count → ArePlaced (functions i).code
    pub spelled : (i : ℕ) → i < count → AreSpelled fits (functions i).code
    pub apart : (i j : ℕ) → i < j → j < count → past_of (functions i) ≤ first_of (functions j)
    pub low : (i : ℕ) → i < count → around.text.first ≤ first_of (functions i)
    pub high : (i : ℕ) → i < count → past_of (functions i) ≤ around.text.past
    pub entry : (i : ℕ) → i < count → is_listed around.entries (first_of (functions i)) ≡ true
    pub entries : (at : ℕ) → is_listed around.entries at ≡ true
        → (i : ℕ) × (i < count) × (at ≡ first_of (functions i))
    pub growth : (at : ℕ) → is_listed around.growth at ≡ true
        → is_within around.text at ≡ false
