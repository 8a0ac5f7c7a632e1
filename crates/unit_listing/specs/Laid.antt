-- A function's instructions with their places, as the code keeps them.
use Rattle.std.specs.Prelude.{◌≡◌, ℕ, ◌≤◌, length, slice_index}
use Rattle.goasm_base.specs.declared.statement.Function.{Function}
use Rattle.branch_size.specs.Sizing.{IsSized}
use Rattle.branch_size.specs.Tables.{HasGoals}
use Rattle.obj_rewrite.specs.declared.rewrite_no.RewriteNo.{RewriteNo}
use Rattle.obj_rewrite.specs.declared.rewrite_no.RewriteNo.TheVariants as rewriting
use Rattle.branch_size.specs.declared.size_no.SizeNo.{SizeNo}
use Rattle.branch_size.specs.declared.size_no.SizeNo.TheVariants as sizing
use Rattle.unit_listing.specs.declared.laid.Laid.{Laid}
use Rattle.unit_listing.specs.declared.listing_no.ListingNo.{ListingNo}
use Rattle.unit_listing.specs.declared.listing_no.ListingNo.TheVariants as no
use Rattle.unit_listing.specs.Kit.{Kit, IsRewritten, branches, guard_of}

pub record IsLaid {Instr : Type 0} (kit : Kit Instr) (function : Function) (laid : Laid Instr) : Type 0 where
  pub flags : laid.flags ≡ function.flags
  pub rewritten : IsRewritten kit function laid.body
  pub sized : IsSized (branches kit function laid.body.code) laid.sizes
  pub goals : HasGoals (guard_of kit function) laid.body.code laid.goals

-- The flags, the instructions and their places are the same. The table of the lines that references lead to isn't compared: it's a
-- means to find them
pub record IsSameLaid {Instr : Type 0} (one other : Laid Instr) : Type 0 where
  pub flags : one.flags ≡ other.flags
  pub body : one.body ≡ other.body
  pub sizes : one.sizes ≡ other.sizes

-- what is relied on where its lines are shown: the table of its lines is right, and each line has a place and a form
pub record IsTold {Instr : Type 0} (kit : Kit Instr) (laid : Laid Instr) : Type 0 where
  pub goals : HasGoals (kit.check laid.body.frame) laid.body.code laid.goals
  pub places : length laid.sizes.places ≡ length laid.body.code
  pub forms : length laid.sizes.forms ≡ length laid.body.code
  pub form : (line : ℕ) → slice_index laid.sizes.forms line ≤ 1

-- a refusal of rewriting, as one of the listing
abbrev pub of_rewriting : RewriteNo → ListingNo
of_rewriting (rewriting.RW1 place total) = no.RW1 place total
of_rewriting (rewriting.Select place why) = no.Select place why
of_rewriting rewriting.Memory = no.Memory

-- a refusal of sizes
abbrev pub of_sizing : SizeNo → ListingNo
of_sizing (sizing.B1 place distance) = no.B1 place distance
of_sizing sizing.Memory = no.Memory
