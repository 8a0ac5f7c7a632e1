-- The conditions that are open in a file, the innermost first.
use Rattle.std.specs.Prelude.{Bool, true, false, List, [], ◌∷◌, ◌&&◌, ◌||◌, not, Option, Some, None, if◌then◌else◌}
use Rattle.goasm_base.specs.declared.pos.Pos.{Pos}
use Rattle.asm_macro.specs.declared.condition.Condition.{Condition}

-- whether statements behind these conditions count
unfoldable pub is_taken : List Condition → Bool
is_taken [] = true
is_taken (condition ∷ conditions) = condition.taken

-- a condition that counts, of which the first branch is taken or not
abbrev pub counted_condition : Pos → Bool → Condition
counted_condition pos taken = record { pos = pos; counts = true; taken = taken; has_else = false }

-- a condition in a branch that isn't taken: no branch of it is
abbrev pub uncounted_condition : Pos → Condition
uncounted_condition pos = record { pos = pos; counts = false; taken = false; has_else = false }

-- `#else`: it has to stand alone where its condition counts, and comes once
unfoldable pub conditions_after_else : Bool → List Condition → Option (List Condition)
conditions_after_else alone [] = None
conditions_after_else alone (condition ∷ conditions) =
    if condition.has_else || (condition.counts && not alone) then None
    else Some (record {
      pos = condition.pos;
      counts = condition.counts;
      taken = condition.counts && not condition.taken;
      has_else = true;
    } ∷ conditions)

-- `#endif`: it has to stand alone where its condition counts
unfoldable pub conditions_after_endif : Bool → List Condition → Option (List Condition)
conditions_after_endif alone [] = None
conditions_after_endif alone (condition ∷ conditions) = if condition.counts && not alone then None else Some conditions
