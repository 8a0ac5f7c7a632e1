-- A build that has names and instructions isn't refused, and one that is refused is so for one cause.
use Rattle.std.proofs.Common.{◌≡◌, true, false, inl, inr, ℕ, List, None, refl, sym, ap, ◌∙◌, subst}
use Rattle.std.specs.Prelude.{All}
use Rattle.link_names.specs.Data.{is_function, misplaced}
use Rattle.link_names.specs.Definitions.{Entry, IsFirstTwice, MeansAs, meaning_in}
use Rattle.link_functions.specs.Code.{HasCode}
use Rattle.link_functions.specs.Kept.{kept_of}
use Rattle.link_functions.specs.References.{all_undefined}
use Rattle.link_functions.specs.declared.code.UnitCode.{UnitCode}
use Rattle.branch_size.specs.declared.size_no.SizeNo.{SizeNo}
use Rattle.branch_size.specs.declared.size_no.SizeNo.TheVariants as sizing
use Rattle.obj_rewrite.specs.declared.rewrite_no.RewriteNo.{RewriteNo}
use Rattle.obj_rewrite.specs.declared.rewrite_no.RewriteNo.TheVariants as rewriting
use Rattle.unit_listing.specs.declared.listing_no.ListingNo.{ListingNo}
use Rattle.unit_listing.specs.Kit.{Kit}
use Rattle.unit_listing.specs.Laid.{of_rewriting, of_sizing}
use Rattle.link_build.specs.declared.build.Build.{Build}
use Rattle.link_build.specs.declared.link_no.LinkNo.{LinkNo}
use Rattle.link_build.specs.declared.link_no.LinkNo.TheVariants as cause
use Rattle.link_build.specs.Refusals.{IsFirstUndefined, IsMisplaced, IsUndefined, IsUnlaid, IsUnresolved, of_listing}
use Rattle.link_build.specs.Resolved.{HasRoom, IsLaidOut, IsNamed, IsResolved, IsValidBuild, entries_in}
use Rattle.build_answer.specs.Same.{IsSameCode}
use Rattle.build_answer.proofs.ListLemmas.{none_first, same_first}
use Rattle.build_answer.proofs.TwiceLemmas.{not_twice, same_twice}
use Rattle.build_answer.proofs.NameLemmas.{kept_of_same, misplaced_same, undefined_by}
use Rattle.build_answer.proofs.CodeLemmas.{LaidLaws, all_code, kept_valid, not_unlaid, same_code, same_unlaid, undefined_in_code}

module _ {Instr : Type 0} (kit : Kit Instr) (build : Build) where
  pub same_names : (names others : List Entry) → IsNamed build names → IsNamed build others → MeansAs names others
  same_names names others one two = λ key. one.means key ∙ sym (two.means key)

  -- Where the data has room

  not_misplaced : (names : List Entry) (name : List ℕ) → HasRoom build names → IsMisplaced kit build name → ⊥
  not_misplaced names name has bad =
      none_first (misplaced build.units bad.names) name
      (misplaced_same bad.names names (same_names bad.names names bad.named has.named) build.units ∙ has.room) bad.first

  same_misplaced : (name other : List ℕ) → IsMisplaced kit build name → IsMisplaced kit build other → name ≡ other
  same_misplaced name other one two =
      same_first (misplaced build.units one.names) (misplaced build.units two.names) name other
      (misplaced_same one.names two.names (same_names one.names two.names one.named two.named) build.units) one.first two.first

  module _ (laws : LaidLaws kit) where
    pub code_is : (names others : List Entry) (code again : List (UnitCode Instr)) → IsLaidOut kit build names code
        → IsLaidOut kit build others again → IsSameCode code again
    code_is names others code again one two =
        same_code kit laws names others (same_names names others one.room.named two.room.named) build.units code again one.laid two.laid

    -- by all names, the same of the code stands for nothing
    undefined_is : (names others : List Entry) (code again : List (UnitCode Instr)) → IsLaidOut kit build names code
        → IsLaidOut kit build others again → all_undefined names code ≡ all_undefined others again
    undefined_is names others code again one two =
        undefined_by names others (same_names names others one.room.named two.room.named) code
        ∙ undefined_in_code others code again (code_is names others code again one two)

    entry_is : (names others : List Entry) → IsNamed build names → IsNamed build others
        → is_function (meaning_in names (build.entry, None)) ≡ is_function (meaning_in others (build.entry, None))
    entry_is names others one two = ap is_function (same_names names others one two (build.entry, None))

    same_undefined : (name other : List ℕ) → IsUndefined kit build name → IsUndefined kit build other → name ≡ other
    same_undefined name other one two =
        once (undefined_is one.names two.names one.code two.code one.laid two.laid) one.first two.first
      where
        once : all_undefined one.names one.code ≡ all_undefined two.names two.code → IsFirstUndefined kit build one.names one.code name
            → IsFirstUndefined kit build two.names two.code other → name ≡ other
        once same (inl here) (inl there) =
            same_first (all_undefined one.names one.code) (all_undefined two.names two.code) name other same here there
        once same (inl here) (inr last) = absurd (none_first (all_undefined one.names one.code) name (same ∙ last.0) here)
        once same (inr last) (inl there) = absurd (none_first (all_undefined two.names two.code) other (sym same ∙ last.0) there)
        once same (inr last) (inr end) = last.2 ∙ sym end.2

    not_undefined : (names : List Entry) (code : List (UnitCode Instr)) (name : List ℕ) → IsResolved kit build names code
        → IsUndefined kit build name → ⊥
    not_undefined names code name resolved bad = never bad.first
      where
        never : IsFirstUndefined kit build bad.names bad.code name → ⊥
        never (inl here) =
            none_first (all_undefined bad.names bad.code) name
            (undefined_is bad.names names bad.code code bad.laid resolved.laid ∙ resolved.defined) here
        never (inr last) =
            let wrong : false ≡ true = sym last.1 ∙ entry_is bad.names names bad.laid.room.named resolved.laid.room.named ∙ resolved.entry in
            cc

    module _ (valid : IsValidBuild build) where
      -- where the functions have instructions, none is refused
      not_refused : (names : List Entry) (code : List (UnitCode Instr)) (refusal : ListingNo) → IsLaidOut kit build names code
          → IsUnlaid kit build refusal → ⊥
      not_refused names code refusal laid bad =
          not_unlaid kit laws (kept_of bad.names build.units) refusal (kept_valid bad.names build.units valid.units)
          (subst (All (HasCode kit)) (kept_of_same names bad.names (same_names names bad.names laid.room.named bad.room.named) build.units)
          (all_code kit names build.units code laid.laid))
          bad.first

      same_refused : (refusal other : ListingNo) → IsUnlaid kit build refusal → IsUnlaid kit build other → refusal ≡ other
      same_refused refusal other one two =
          same_unlaid kit laws (kept_of one.names build.units) (kept_of two.names build.units) refusal other
          (kept_of_same one.names two.names (same_names one.names two.names one.room.named two.room.named) build.units)
          (kept_valid one.names build.units valid.units) one.first two.first

      -- how a refusal of a function's instructions is told
      rewriting_told : (refused : RewriteNo) → IsUnlaid kit build (of_rewriting refused) → of_listing (of_rewriting refused) ≡ cause.Rewrite refused
      rewriting_told (rewriting.RW1 place total) is = refl
      rewriting_told (rewriting.Select place why) is = refl
      rewriting_told rewriting.Memory is = absurd is.first.refused

      sizing_told : (refused : SizeNo) → IsUnlaid kit build (of_sizing refused) → of_listing (of_sizing refused) ≡ cause.Size refused
      sizing_told (sizing.B1 place distance) is = refl
      sizing_told sizing.Memory is = absurd is.first.refused

      pub not_unresolved : (names : List Entry) (code : List (UnitCode Instr)) (told : LinkNo) → IsResolved kit build names code
          → IsUnresolved kit build told → ⊥
      not_unresolved names code (cause.N1 name) resolved bad = not_twice (entries_in build) name bad resolved.laid.room.named.allowed
      not_unresolved names code (cause.N6 name) resolved bad = not_misplaced names name resolved.laid.room bad
      not_unresolved names code (cause.Rewrite refused) resolved bad = not_refused names code (of_rewriting refused) resolved.laid bad
      not_unresolved names code (cause.Size refused) resolved bad = not_refused names code (of_sizing refused) resolved.laid bad
      not_unresolved names code (cause.N2 name) resolved bad = not_undefined names code name resolved bad
      not_unresolved names code told resolved bad = bad

      -- What else a build is refused for that is refused for one cause

      with_twice : (name : List ℕ) → IsFirstTwice (entries_in build) name → (other : LinkNo) → IsUnresolved kit build other
          → cause.N1 name ≡ other
      with_twice name one (cause.N1 other) two = ap (λ (name : List ℕ). cause.N1 name) (same_twice (entries_in build) name other one two)
      with_twice name one (cause.N6 other) two = absurd (not_twice (entries_in build) name one two.named.allowed)
      with_twice name one (cause.Rewrite refused) two = absurd (not_twice (entries_in build) name one two.room.named.allowed)
      with_twice name one (cause.Size refused) two = absurd (not_twice (entries_in build) name one two.room.named.allowed)
      with_twice name one (cause.N2 other) two = absurd (not_twice (entries_in build) name one two.laid.room.named.allowed)
      with_twice name one other two = absurd two

      with_misplaced : (name : List ℕ) → IsMisplaced kit build name → (other : LinkNo) → IsUnresolved kit build other → cause.N6 name ≡ other
      with_misplaced name one (cause.N1 other) two = absurd (not_twice (entries_in build) other two one.named.allowed)
      with_misplaced name one (cause.N6 other) two = ap (λ (name : List ℕ). cause.N6 name) (same_misplaced name other one two)
      with_misplaced name one (cause.Rewrite refused) two = absurd (not_misplaced two.names name two.room one)
      with_misplaced name one (cause.Size refused) two = absurd (not_misplaced two.names name two.room one)
      with_misplaced name one (cause.N2 other) two = absurd (not_misplaced two.names name two.laid.room one)
      with_misplaced name one other two = absurd two

      with_unlaid : (refusal : ListingNo) → IsUnlaid kit build refusal → (other : LinkNo) → IsUnresolved kit build other
          → of_listing refusal ≡ other
      with_unlaid refusal one (cause.N1 other) two = absurd (not_twice (entries_in build) other two one.room.named.allowed)
      with_unlaid refusal one (cause.N6 other) two = absurd (not_misplaced one.names other one.room two)
      with_unlaid refusal one (cause.Rewrite refused) two =
          ap of_listing (same_refused refusal (of_rewriting refused) one two) ∙ rewriting_told refused two
      with_unlaid refusal one (cause.Size refused) two =
          ap of_listing (same_refused refusal (of_sizing refused) one two) ∙ sizing_told refused two
      with_unlaid refusal one (cause.N2 other) two = absurd (not_refused two.names two.code refusal two.laid one)
      with_unlaid refusal one other two = absurd two

      with_undefined : (name : List ℕ) → IsUndefined kit build name → (other : LinkNo) → IsUnresolved kit build other → cause.N2 name ≡ other
      with_undefined name one (cause.N1 other) two = absurd (not_twice (entries_in build) other two one.laid.room.named.allowed)
      with_undefined name one (cause.N6 other) two = absurd (not_misplaced one.names other one.laid.room two)
      with_undefined name one (cause.Rewrite refused) two = absurd (not_refused one.names one.code (of_rewriting refused) one.laid two)
      with_undefined name one (cause.Size refused) two = absurd (not_refused one.names one.code (of_sizing refused) one.laid two)
      with_undefined name one (cause.N2 other) two = ap (λ (name : List ℕ). cause.N2 name) (same_undefined name other one two)
      with_undefined name one other two = absurd two

      pub one_cause : (told other : LinkNo) → IsUnresolved kit build told → IsUnresolved kit build other → told ≡ other
      one_cause (cause.N1 name) other one two = with_twice name one other two
      one_cause (cause.N6 name) other one two = with_misplaced name one other two
      one_cause (cause.Rewrite refused) other one two = sym (rewriting_told refused one) ∙ with_unlaid (of_rewriting refused) one other two
      one_cause (cause.Size refused) other one two = sym (sizing_told refused one) ∙ with_unlaid (of_sizing refused) one other two
      one_cause (cause.N2 name) other one two = with_undefined name one other two
      one_cause told other one two = absurd one
