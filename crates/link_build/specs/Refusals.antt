-- Why a build has no names or no instructions that it could be linked with.
use Rattle.std.specs.Prelude.{◌≡◌, ◌⊎◌, ℕ, false, List, [], None, Some}
use Rattle.std.specs.List.{slice_get}
use Rattle.link_names.specs.Data.{is_function, misplaced}
use Rattle.link_names.specs.Definitions.{Entry, IsFirstTwice, meaning_in}
use Rattle.link_names.specs.declared.data_no.DataNo.{DataNo}
use Rattle.link_names.specs.declared.data_no.DataNo.TheVariants as room
use Rattle.link_names.specs.declared.names_no.NamesNo.{NamesNo}
use Rattle.link_names.specs.declared.names_no.NamesNo.TheVariants as twice
use Rattle.link_names.specs.declared.symbol_no.SymbolNo.{SymbolNo}
use Rattle.link_names.specs.declared.symbol_no.SymbolNo.TheVariants as nothing
use Rattle.link_functions.specs.Code.{IsFirstUnlaid}
use Rattle.link_functions.specs.Kept.{kept_of}
use Rattle.link_functions.specs.References.{all_undefined}
use Rattle.link_functions.specs.declared.code.UnitCode.{UnitCode}
use Rattle.branch_size.specs.declared.size_no.SizeNo.TheVariants as sizing
use Rattle.obj_rewrite.specs.declared.rewrite_no.RewriteNo.TheVariants as rewriting
use Rattle.unit_listing.specs.declared.listing_no.ListingNo.{ListingNo}
use Rattle.unit_listing.specs.declared.listing_no.ListingNo.TheVariants as listing
use Rattle.unit_listing.specs.Kit.{Kit}
use Rattle.unit_listing.specs.Laid.{of_rewriting, of_sizing}
use Rattle.link_build.specs.declared.build.Build.{Build}
use Rattle.link_build.specs.declared.link_no.LinkNo.{LinkNo}
use Rattle.link_build.specs.declared.link_no.LinkNo.TheVariants as no
use Rattle.link_build.specs.Resolved.{HasRoom, IsLaidOut, IsNamed, entries_in}

abbrev pub of_names : NamesNo → LinkNo
of_names (twice.N1 name) = no.N1 name
of_names twice.Memory = no.Memory

abbrev pub of_data : DataNo → LinkNo
of_data (room.N6 name) = no.N6 name
of_data room.Memory = no.Memory

abbrev pub of_listing : ListingNo → LinkNo
of_listing (listing.RW1 place total) = no.Rewrite (rewriting.RW1 place total)
of_listing (listing.Select place why) = no.Rewrite (rewriting.Select place why)
of_listing (listing.B1 place distance) = no.Size (sizing.B1 place distance)
of_listing listing.Memory = no.Memory

abbrev pub of_symbol : SymbolNo → LinkNo
of_symbol (nothing.N2 name) = no.N2 name
of_symbol nothing.Memory = no.Memory

module _ {Instr : Type 0} (kit : Kit Instr) (build : Build) where
  -- the first name to which code or data refers and which stands for nothing, and else the entry, which stands for no function
  abbrev pub IsFirstUndefined : List Entry → List (UnitCode Instr) → List ℕ → Type 0
  IsFirstUndefined names code name =
      (slice_get (all_undefined names code) 0 ≡ Some name)
      ⊎ ((all_undefined names code ≡ []) × (is_function (meaning_in names (build.entry, None)) ≡ false) × (name ≡ build.entry))

  -- the functions that count have the names of the build, and the first of them that has no instructions is refused so
  pub record IsUnlaid (refusal : ListingNo) : Type 0 where
    pub names : List Entry
    pub room : HasRoom build names
    pub first : IsFirstUnlaid kit (kept_of names build.units) refusal

  -- a `DATA` is the first that has no room
  pub record IsMisplaced (name : List ℕ) : Type 0 where
    pub names : List Entry
    pub named : IsNamed build names
    pub first : slice_get (misplaced build.units names) 0 ≡ Some name

  pub record IsUndefined (name : List ℕ) : Type 0 where
    pub names : List Entry
    pub code : List (UnitCode Instr)
    pub laid : IsLaidOut kit build names code
    pub first : IsFirstUndefined names code name

  -- the first thing that is wrong with the build, and nothing of what is told before it
  abbrev pub IsUnresolved : LinkNo → Type 0
  IsUnresolved (no.N1 name) = IsFirstTwice (entries_in build) name
  IsUnresolved (no.N6 name) = IsMisplaced name
  IsUnresolved (no.Rewrite refused) = IsUnlaid (of_rewriting refused)
  IsUnresolved (no.Size refused) = IsUnlaid (of_sizing refused)
  IsUnresolved (no.N2 name) = IsUndefined name
  IsUnresolved _ = ⊥
