-- The lines so far, as the code keeps them.
use Rattle.std.specs.Prelude.{◌≡◌, ◌^◌, ◌<◌, map, length}
use Rattle.obj_rewrite.specs.declared.draft.Draft.{Draft}
use Rattle.obj_rewrite.specs.Rewriting.{Code, code_of}

abbrev pub written : {I : Type 0} → Draft I → Code I
written draft = code_of draft.lines.items draft.targets.items draft.depth draft.awaited

-- the parts belong together
pub record IsDraft {I : Type 0} (draft : Draft I) : Type 0 where
  pub code : map (λ placed. placed.instr) draft.code.items ≡ map (λ line. line.instr) draft.lines.items
  pub depths : draft.depths.items ≡ map (λ line. line.depth) draft.lines.items
  pub targets : length draft.targets.items ≡ length draft.lines.items
  pub small : draft.depth < 2 ^ 31
