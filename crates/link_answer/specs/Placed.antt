-- Where a refusal of a build stands.
use Rattle.std.specs.Prelude.{◌≢◌, ℕ, ◌<◌}
use Rattle.asm_target.specs.declared.select_no.SelectNo.TheVariants as selection
use Rattle.branch_size.specs.declared.size_no.SizeNo.TheVariants as sizing
use Rattle.link_build.specs.declared.link_no.LinkNo.{LinkNo}
use Rattle.link_build.specs.declared.link_no.LinkNo.TheVariants as no
use Rattle.obj_rewrite.specs.declared.rewrite_no.RewriteNo.TheVariants as rewriting

-- A refusal of a function stands in one of so many files, and none is want of memory
abbrev pub IsPlacedIn : ℕ → LinkNo → Type 0
IsPlacedIn files (no.Rewrite (rewriting.RW1 place total)) = place.file < files
IsPlacedIn files (no.Rewrite (rewriting.Select place why)) = (place.file < files) × (why ≢ selection.Memory)
IsPlacedIn files (no.Rewrite rewriting.Memory) = ⊥
IsPlacedIn files (no.Size (sizing.B1 place distance)) = place.file < files
IsPlacedIn files (no.Size sizing.Memory) = ⊥
IsPlacedIn files (no.Flow place broken) = place.file < files
IsPlacedIn files no.Memory = ⊥
IsPlacedIn files (no.N1 name) = Unit {0}
IsPlacedIn files (no.N6 name) = Unit {0}
IsPlacedIn files (no.N2 name) = Unit {0}
IsPlacedIn files no.N5 = Unit {0}
IsPlacedIn files (no.N3 name) = Unit {0}
IsPlacedIn files (no.N7 name) = Unit {0}
