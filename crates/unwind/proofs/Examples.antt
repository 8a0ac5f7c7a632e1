-- The definition of a walk on two small stacks.
use Rattle.std.proofs.Common.{◌≡◌, ℕ, ◌==◌, ◌||◌, true, false, [], ◌∷◌, Option, Some, None, if◌then◌else◌, refl}
use Rattle.image_model.specs.Kept.{chain_of}
use Rattle.image_runs.specs.Sample.{second}
use Rattle.unwind.specs.declared.stage.Stage.TheVariants as stages
use Rattle.image_check.specs.declared.seen.UnwindNo.TheVariants.{U1, U2, U3, U4, U5}
use Rattle.unwind.specs.declared.walked.Walked.TheVariants as answers
use Rattle.unwind.specs.Walk.{Gives, Looks}

-- the functions of 0x1000 and 0x1010, of which the first calls the second and waits at 0x1005
abbrev number : ℕ → Option ℕ
number at = if at == 0x1010 then Some 1 else (if at == 0x1000 then Some 0 else None)

abbrev pushing : Looks
pushing = record {
  text = record { first = 0x1000; past = 0x1011 };
  function_at = number;
  is_start = λ at. (at == 0x1000) || (at == 0x1005) || (at == 0x1010);
  depth_at = λ func at. 0;
  is_top = λ func. false;
  caller_at = λ past. if past == 0x1005 then Some 0 else None;
  has_link = false;
}

-- the words of a stack
abbrev words : ℕ → ℕ → ℕ → ℕ → ℕ → Option ℕ
words first value second other at = if at == first then Some value else (if at == second then Some other else None)

pushed_walk : Gives pushing (words 0x9000 0x1005 0x9008 0) (stages.Start 0x1010 0x9000 0)
    (record { func = 1; pc = 0x1010; look = 0x1010 } ∷ record { func = 0; pc = 0x1005; look = 0x1004 } ∷ []) answers.End
pushed_walk = (refl, (refl, refl))

-- these are the calls of that moment
pushed_chain : chain_of second
    ≡ (record { func = 0x1010; pc = 0x1010; look = 0x1010 } ∷ record { func = 0x1000; pc = 0x1005; look = 0x1000 } ∷ [])
pushed_chain = refl

no_function : Gives pushing (words 0x9000 0x1005 0x9008 0) (stages.Start 0x2000 0x9000 0) [] (answers.No (U1 0x2000))
no_function = refl

no_start : Gives (record pushing { is_start = λ at. false }) (words 0x9000 0x1005 0x9008 0) (stages.Start 0x1010 0x9000 0) [] (answers.No (U2 0x1010))
no_start = refl

no_word : Gives pushing (λ at. None) (stages.Start 0x1010 0x9000 0) (record { func = 1; pc = 0x1010; look = 0x1010 } ∷ [])
    (answers.No (U3 0x9000))
no_word = (refl, refl)

no_call : Gives pushing (words 0x9000 0x1006 0x9008 0) (stages.Start 0x1010 0x9000 0) (record { func = 1; pc = 0x1010; look = 0x1010 } ∷ [])
    (answers.No (U4 0x1006))
no_call = (refl, refl)

passing : Gives pushing (λ at. Some 0x1005) (stages.Start 0x1010 0xffff_ffff_ffff_fff8 0) (record { func = 1; pc = 0x1010; look = 0x1010 } ∷ [])
    (answers.No (U5 0xffff_ffff_ffff_fff8 0))
passing = (refl, refl)

-- with a link register the first function has depth 0, the other one 16, and its own return address at the stack pointer
abbrev linking : Looks
linking = record pushing { depth_at = λ func at. if func == 0 then 16 else 0; has_link = true }

linked_walk : Gives linking (words 0x9000 0 0x9010 0x1005) (stages.Start 0x1010 0x9000 0x1005)
    (record { func = 1; pc = 0x1010; look = 0x1010 } ∷ record { func = 0; pc = 0x1005; look = 0x1004 } ∷ []) answers.End
linked_walk = (refl, (refl, refl))

-- a stack ends in the first function, whatever the words are
top_walk : Gives (record pushing { is_top = λ func. func == 1 }) (λ at. None) (stages.Start 0x1010 0x9000 0)
    (record { func = 1; pc = 0x1010; look = 0x1010 } ∷ []) answers.End
top_walk = (refl, refl)
