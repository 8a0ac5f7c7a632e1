use Rattle.std.proofs.Common.{◌≡◌, ℕ, ◌<◌, ◌^◌, List, true, false, length, refl, sym, ap, subst, ◌∙◌, arith}
use Rattle.elf_image.specs.Contents.{table_in}
use Rattle.elf_image.specs.Image.{IsImage}
use Rattle.pclntab.specs.Table.{IsTable}
use Rattle.image_rules.specs.Machine.{machine_of}
use Rattle.image_rules.specs.Parts.{HasProfile}
use Rattle.image_check.proofs.SizeLemmas.{table_short}
use Rattle.image_check.proofs.check.read.Goals as goal

pub read-requires : goal.read-requires
read-requires g c =
    let bytes = c.args.bytes.now in
    let least = table_short bytes in
    let short = c.requires in
    let P : List ℕ → Type 0 = λ xs. length xs < 2 ^ 32 in
    subst P (sym (c.table.ensures ∙ ap table_in c.in-Ok.ensures.image)) (omega arith)

pub has_profile-requires : goal.has_profile-requires
has_profile-requires g c =
    let P : List ℕ → Type 0 = λ xs. length xs < 2 ^ 32 in
    record {
      image = subst IsImage (sym c.in-Ok.ensures.image) c.in-Ok.ensures.form;
      short = subst P (sym c.in-Ok.ensures.image) c.requires;
      table = c.in-Ok-read.ensures.table ∙ c.table.ensures;
    }

pub returns-then-not-has_profile-clause-unreadable : goal.returns-then-not-has_profile-clause-unreadable
returns-then-not-has_profile-clause-unreadable g c =
    let machine = machine_of g.T.Processor.instructions g.T.Processor.fits g.T.Processor.MACHINE g.T.Processor.QUANTUM
    g.T.Processor.SHAPE g.T.Processor.GROWTH g.T.Target.begins in
    let same = c.in-Ok.ensures.image in (
      c.in-Ok.ensures.form,
      subst IsTable (c.table.ensures ∙ ap table_in same) c.in-Ok-read.ensures.form,
      λ profile. let wrong : false ≡ true = c.if-not-has_profile.ensures.1 (subst (λ (xs : List ℕ). HasProfile xs machine) (sym same) profile) in cc,
    )

pub returns : goal.returns
returns g c =
    let machine = machine_of g.T.Processor.instructions g.T.Processor.fits g.T.Processor.MACHINE g.T.Processor.QUANTUM
    g.T.Processor.SHAPE g.T.Processor.GROWTH g.T.Target.begins in
    let same = c.in-Ok.ensures.image in
    record {
      image = same;
      table = c.in-Ok-read.ensures.table ∙ c.table.ensures ∙ ap table_in same;
      readable = record {
        image = c.in-Ok.ensures.form;
        table = subst IsTable (c.table.ensures ∙ ap table_in same) c.in-Ok-read.ensures.form;
        profile = subst (λ (xs : List ℕ). HasProfile xs machine) same (c.if-not-has_profile.ensures.0 refl);
      };
      unreadable = tt;
    }
