-- What `unwind` prints of a run.
use Rattle.std.proofs.Common.{◌≡◌, ◌≤◌, ◌+◌, ◌*◌, ℕ, List, [], ◌∷◌, length, drop, codes, Some, None, inr, refl, sym, ap, ◌∙◌, subst, arith, length-drop}
use Rattle.std.specs.Prelude.{All}
use Rattle.std.proofs.lemmas.Bool.{eq-eqb, le-ltb}
use Rattle.std.proofs.lemmas.List.Elements.{All-weaker}
use Rattle.byteorder.specs.Endian.{little_number}
use Rattle.elf_image.specs.Layout.{machine_in}
use Rattle.elf_image.specs.Rows.{number_at}
use Rattle.image_model.specs.Image.{Image}
use Rattle.image_model.specs.Steps.{Moment}
use Rattle.image_rules.specs.Sound.{IsSoundImage}
use Rattle.machine_dump.specs.Faults.{dump_fault}
use Rattle.text_chain.specs.Chain.{IsChainText}
use Rattle.text_chain.specs.Moments.{IsPrinted, moment_text}
use Rattle.goasm_run.specs.declared.architecture.Architecture.TheVariants.{Amd64}
use Rattle.goasm_run.specs.declared.command.Command.TheVariants.{Unwind}
use Rattle.goasm_run.specs.Commands.{command_of, plan_of_two}
use Rattle.goasm_run.specs.Endings.{Text}
use Rattle.goasm_run.specs.Images.{architecture_at, architecture_in}
use Rattle.goasm_run.specs.Limits.{dump_limit}
use Rattle.goasm_run.specs.Plan.{EndsOver, Plan}
use Rattle.goasm_run.specs.Questions.{IsDumpJudged}
use Rattle.goasm_run.specs.Targets.{amd64_machine}
use Rattle.goasm_run.specs.Unwind.{unwind_answer}
use Rattle.goasm_run.specs.Chains.{PrintsChain}
use Rattle.goasm_run.proofs.UnwindLemmas.{short_enough}

named : command_of (codes "unwind") ≡ Some Unwind
unfolding command_of
named = refl

-- the architecture of a sound image of amd64

architecture_here : (bytes : List ℕ) → 2 ≤ length bytes → little_number 2 bytes ≡ 62 → architecture_at bytes ≡ Some Amd64
architecture_here [] long is = absurd (omega arith)
architecture_here (low ∷ []) long is = absurd (omega arith)
architecture_here (low ∷ high ∷ rest) long is =
    let number : low + 256 * high ≡ 62 = omega (arith, is) in
    rw (eq-eqb (low + 256 * high) 62 number) refl

machine_is : (image : List ℕ) → machine_in image ≡ little_number 2 (drop 18 image)
unfolding number_at
machine_is image = refl

architecture_is : (image : List ℕ) → IsSoundImage amd64_machine image → Some Amd64 ≡ architecture_in image
unfolding architecture_in
architecture_is image sound =
    let size = sound.readable.image.header.long in
    let long : 2 ≤ length (drop 18 image) = omega (arith, length-drop 18 image, size) in
    sym (architecture_here (drop 18 image) long (sym (machine_is image) ∙ sound.readable.profile.number))

-- the plan ends so over both files

dump_judged : (name image dump text : List ℕ) → length dump ≤ dump_limit → dump_fault dump ≡ None → IsChainText amd64_machine image dump text
    → IsDumpJudged amd64_machine name image dump (Text text)
dump_judged name image dump text short form is =
    rw (le-ltb dump_limit (length dump) short)
    (rw form is)

unwinds : (image : List ℕ) (img : Image) (moment : Moment) → IsSoundImage amd64_machine image
    → IsPrinted amd64_machine image img moment → PrintsChain image img moment
unwinds image img moment sound printed files name dump_name dump image_whole dump_whole form records =
    let text : List ℕ = moment_text image moment in
    let ends : EndsOver files (unwind_answer name dump_name image dump) (Text text) =
    subst (λ (plan : Plan). EndsOver files plan (Text text))
    (sym (short_enough name dump_name image dump (Some Amd64) image_whole.short (architecture_is image sound)))
    (inr (sound, dump_judged dump_name image dump text dump_whole.short form (printed.text dump records))) in
    subst (λ (plan : Plan). EndsOver files plan (Text text)) (sym (ap (λ command. plan_of_two command name dump_name) named))
    (image, image_whole.read, (dump, dump_whole.read, ends))

pub all_unwound : (image : List ℕ) (img : Image) (moments : List Moment) → IsSoundImage amd64_machine image
    → All (IsPrinted amd64_machine image img) moments → All (PrintsChain image img) moments
all_unwound image img moments sound all =
    All-weaker (IsPrinted amd64_machine image img) (PrintsChain image img) (λ moment. unwinds image img moment sound) moments all
