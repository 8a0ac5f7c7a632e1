-- What a build is refused for, by the refusal of the call that found it.
use Rattle.std.proofs.Common.{◌≡◌, ◌≢◌, false, inl, inr, ℕ, List, [], None, Some, refl, sym, subst}
use Rattle.std.specs.Prelude.{slice_get}
use Rattle.link_names.specs.Data.{is_function, misplaced}
use Rattle.link_names.specs.Definitions.{Entry, IsFirstTwice, meaning_in}
use Rattle.link_names.specs.declared.data_no.DataNo.{DataNo}
use Rattle.link_names.specs.declared.data_no.DataNo.TheVariants as room
use Rattle.link_names.specs.declared.names_no.NamesNo.{NamesNo}
use Rattle.link_names.specs.declared.names_no.NamesNo.TheVariants as twice
use Rattle.link_names.specs.declared.symbol_no.SymbolNo.{SymbolNo}
use Rattle.link_names.specs.declared.symbol_no.SymbolNo.TheVariants as nothing
use Rattle.link_functions.specs.Code.{IsFirstUnlaid}
use Rattle.link_functions.specs.Kept.{kept_of}
use Rattle.link_functions.specs.References.{all_undefined}
use Rattle.link_functions.specs.declared.code.UnitCode.{UnitCode}
use Rattle.unit_listing.specs.declared.listing_no.ListingNo.{ListingNo}
use Rattle.unit_listing.specs.declared.listing_no.ListingNo.TheVariants as listing
use Rattle.unit_listing.specs.Kit.{Kit}
use Rattle.link_build.specs.declared.build.Build.{Build}
use Rattle.link_build.specs.declared.link_no.LinkNo.{LinkNo}
use Rattle.link_build.specs.declared.link_no.LinkNo.TheVariants as refusal
use Rattle.link_build.specs.Refusals.{IsUnresolved, of_data, of_listing, of_names, of_symbol}
use Rattle.link_build.specs.Resolved.{HasRoom, IsLaidOut, IsNamed, entries_in}

module _ {Instr : Type 0} (kit : Kit Instr) (build : Build) (told : LinkNo) (real : told ≢ refusal.Memory) where
  pub names_refused : (why : NamesNo) → told ≡ of_names why
      → ((name : List ℕ) → why ≡ twice.N1 name → IsFirstTwice (entries_in build) name) → IsUnresolved kit build told
  names_refused (twice.N1 name) is first = subst (IsUnresolved kit build) (sym is) (first name refl)
  names_refused twice.Memory is first = absurd (real is)

  pub data_refused : (names : List Entry) → IsNamed build names → (why : DataNo) → told ≡ of_data why
      → ((name : List ℕ) → why ≡ room.N6 name → slice_get (misplaced build.units names) 0 ≡ Some name) → IsUnresolved kit build told
  data_refused names named (room.N6 name) is first =
      subst (IsUnresolved kit build) (sym is) (record { names = names; named = named; first = first name refl })
  data_refused names named room.Memory is first = absurd (real is)

  pub listing_refused : (names : List Entry) → HasRoom build names → (why : ListingNo) → told ≡ of_listing why
      → (why ≢ listing.Memory → IsFirstUnlaid kit (kept_of names build.units) why) → IsUnresolved kit build told
  listing_refused names has (listing.RW1 place total) is first =
      subst (IsUnresolved kit build) (sym is) (record { names = names; room = has; first = first (λ wrong. cc) })
  listing_refused names has (listing.Select place why) is first =
      subst (IsUnresolved kit build) (sym is) (record { names = names; room = has; first = first (λ wrong. cc) })
  listing_refused names has (listing.B1 place distance) is first =
      subst (IsUnresolved kit build) (sym is) (record { names = names; room = has; first = first (λ wrong. cc) })
  listing_refused names has listing.Memory is first = absurd (real is)

  module _ (names : List Entry) (code : List (UnitCode Instr)) (laid : IsLaidOut kit build names code) where
    pub reference_refused : (why : SymbolNo) → told ≡ of_symbol why
        → ((name : List ℕ) → why ≡ nothing.N2 name → slice_get (all_undefined names code) 0 ≡ Some name) → IsUnresolved kit build told
    reference_refused (nothing.N2 name) is first =
        subst (IsUnresolved kit build) (sym is) (record { names = names; code = code; laid = laid; first = inl (first name refl) })
    reference_refused nothing.Memory is first = absurd (real is)

    pub entry_refused : all_undefined names code ≡ [] → (why : SymbolNo) → told ≡ of_symbol why
        → ((name : List ℕ) → why ≡ nothing.N2 name → is_function (meaning_in names (build.entry, None)) ≡ false)
        → ((name : List ℕ) → why ≡ nothing.N2 name → name ≡ build.entry) → IsUnresolved kit build told
    entry_refused defined (nothing.N2 name) is none named =
        subst (IsUnresolved kit build) (sym is) (record { names = names; code = code; laid = laid; first = inr (defined, none name refl, named name refl) })
    entry_refused defined nothing.Memory is none named = absurd (real is)
