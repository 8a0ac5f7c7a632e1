-- `check IMAGE` and `dis IMAGE`: whether an image is sound, and then how many functions it has, or their instructions.
use Rattle.std.specs.Prelude.{ℕ, List, [], ◌∷◌, ◌+◌, ◌*◌, ◌==◌, nat_lt, length, drop, Option, Some, None, if◌then◌else◌}
use Rattle.elf_image.specs.declared.fault.ImageNo.TheVariants.{I1}
use Rattle.image_rules.specs.declared.check_no.CheckNo.TheVariants.{K1}
use Rattle.image_rules.specs.declared.check_no.ProfileNo.TheVariants.{Image}
use Rattle.goasm_text.specs.Lines.{check_line}
use Rattle.goasm_run.specs.declared.architecture.Architecture.{Architecture}
use Rattle.goasm_run.specs.declared.architecture.Architecture.TheVariants.{Amd64}
use Rattle.goasm_run.specs.declared.image_text.ImageText.{ImageText}
use Rattle.goasm_run.specs.Limits.{image_limit}
use Rattle.goasm_run.specs.Lines.{too_long_line}
use Rattle.goasm_run.specs.Plan.{Plan, Ask, Refuse, Pose}
use Rattle.goasm_run.specs.Questions as question

-- the architecture of this machine number of ELF
abbrev pub architecture_numbered : ℕ → Option Architecture
architecture_numbered number = if number == 62 then Some Amd64 else None

-- the first two bytes are a machine number, the low byte before the high one
abbrev pub architecture_at : List ℕ → Option Architecture
architecture_at [] = None
architecture_at (low ∷ []) = None
architecture_at (low ∷ high ∷ rest) = architecture_numbered (low + 256 * high)

-- the architecture of an image
unfoldable pub architecture_in : List ℕ → Option Architecture
architecture_in bytes = architecture_at (drop 18 bytes)

abbrev pub image_for : ImageText → List ℕ → List ℕ → Option Architecture → Plan
image_for said name bytes (Some architecture) = Pose (question.Image architecture said name bytes)
image_for said name bytes None = Refuse (check_line name (K1 (Image (I1 18))))

-- over the bytes that were read
unfoldable pub image_answer : ImageText → List ℕ → List ℕ → Plan
image_answer said name bytes =
    if nat_lt image_limit (length bytes) then Refuse (too_long_line name)
    else image_for said name bytes (architecture_in bytes)

abbrev pub image_plan : ImageText → List ℕ → Plan
image_plan said name = Ask name image_limit (image_answer said name)
