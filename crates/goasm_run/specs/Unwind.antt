-- `unwind IMAGE DUMP`: the calls that were made and hadn't returned in a recorded state of a machine that ran an image.
use Rattle.std.specs.Prelude.{ℕ, List, nat_lt, length, Option, Some, None, if◌then◌else◌}
use Rattle.elf_image.specs.declared.fault.ImageNo.TheVariants.{I1}
use Rattle.image_rules.specs.declared.check_no.CheckNo.TheVariants.{K1}
use Rattle.image_rules.specs.declared.check_no.ProfileNo.TheVariants.{Image}
use Rattle.goasm_text.specs.Lines.{check_line}
use Rattle.goasm_run.specs.declared.architecture.Architecture.{Architecture}
use Rattle.goasm_run.specs.Images.{architecture_in}
use Rattle.goasm_run.specs.Limits.{dump_limit, image_limit}
use Rattle.goasm_run.specs.Lines.{too_long_line}
use Rattle.goasm_run.specs.Plan.{Plan, Ask, Refuse, Pose}
use Rattle.goasm_run.specs.Questions as question

abbrev pub unwind_for : List ℕ → List ℕ → List ℕ → List ℕ → Option Architecture → Plan
unwind_for name dump_name image dump (Some architecture) = Pose (question.Chain architecture name dump_name image dump)
unwind_for name dump_name image dump None = Refuse (check_line name (K1 (Image (I1 18))))

-- over the bytes of both files, which are read before either of them is judged
unfoldable pub unwind_answer : List ℕ → List ℕ → List ℕ → List ℕ → Plan
unwind_answer name dump_name image dump =
    if nat_lt image_limit (length image) then Refuse (too_long_line name)
    else unwind_for name dump_name image dump (architecture_in image)

abbrev pub unwind_plan : List ℕ → List ℕ → Plan
unwind_plan name dump_name =
    Ask name image_limit (λ image. Ask dump_name dump_limit (unwind_answer name dump_name image))
