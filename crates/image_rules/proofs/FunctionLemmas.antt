-- The instructions of a function of an image are settled, and so are their depths.
use Rattle.std.proofs.Common.{◌≡◌, ℕ, pos, ◌+◌, List, [], ◌∷◌, All, length, map, refl, sym, ap, ◌∙◌, subst, arith}
use Rattle.std.proofs.lemmas.List.Elements.{All-head, All-tail}
use Rattle.pcvalue.specs.Cover.{Ascends, HasOneList}
use Rattle.asm_target.specs.InstructionSet.{IsListing}
use Rattle.asm_target.specs.Laws.{HasLengths, IsPrefixFree}
use Rattle.asm_target.proofs.ListingLemmas.{same_listing}
use Rattle.elf_image.specs.Contents.{table_in}
use Rattle.pclntab.specs.Func.{DepthsOver}
use Rattle.pclntab.specs.Places.{depth_field, quantum}
use Rattle.pclntab.specs.Table.{pc_bytes}
use Rattle.pclntab.specs.Words.{u32_at}
use Rattle.image_model.specs.Listed.{Listed}
use Rattle.image_rules.specs.Functions.{IsFunction, ends_from, placed_from}
use Rattle.image_rules.specs.Machine.{Machine}
use Rattle.image_rules.specs.Parts.{entry_in}

same_numbers : (xs ys : List ℕ) → map pos xs ≡ map pos ys → xs ≡ ys
same_numbers [] [] same = refl
same_numbers [] (y ∷ ys) same = absurd (cc)
same_numbers (x ∷ xs) [] same = absurd (cc)
same_numbers (x ∷ xs) (y ∷ ys) same =
    let head : x ≡ y = cc in
    let tail : xs ≡ ys = same_numbers xs ys (cc) in
    cc (head, tail)

module _ {Instr : Type 0} (machine : Machine Instr) (prefix_free : IsPrefixFree machine.set machine.fits)
    (lengths : HasLengths machine.set machine.fits machine.quantum) (one_list : HasOneList) where
  pub same_code : (own : List ℕ) (code others : List Instr) (rest more : List ℕ) → IsListing machine.set machine.fits own code rest
      → IsListing machine.set machine.fits own others more → code ≡ others
  same_code own code others rest more a b =
      (same_listing machine.set machine.fits prefix_free code others rest more a.fit b.fit (sym a.whole ∙ b.whole) a.ends b.ends).0

  ascends : (at : ℕ) (code : List Instr) → All machine.fits code → Ascends at (ends_from machine.set at code)
  ascends at [] fit = tt
  ascends at (instr ∷ code) fit =
      let size = (lengths instr (All-head machine.fits instr code fit)).least in
      (omega arith, ascends (at + length (machine.set.spelling instr)) code (All-tail machine.fits instr code fit))

  pub same_function : (bytes : List ℕ) (index : ℕ) (listed other : Listed Instr) → IsFunction machine bytes index listed
      → IsFunction machine bytes index other → listed ≡ other
  same_function bytes index listed other a b =
      let table : List ℕ = table_in bytes in
      let code : a.code ≡ b.code =
      same_code _ a.code b.code a.is_code.rest b.is_code.rest a.is_code.listing b.is_code.listing in
      let placed : listed.code ≡ other.code = a.placed ∙ ap (placed_from machine.set (entry_in bytes index)) code ∙ sym b.placed in
      let told : DepthsOver (table_in bytes) index (ends_from machine.set 0 a.code) (map pos other.depths) =
      subst (λ (found : List Instr). DepthsOver (table_in bytes) index (ends_from machine.set 0 found) (map pos other.depths)) (sym code)
      b.tables.depth in
      let depths : listed.depths ≡ other.depths =
      same_numbers listed.depths other.depths
      (one_list (pc_bytes (table_in bytes)) (u32_at (table_in bytes) (depth_field (table_in bytes) index)) (quantum (table_in bytes))
      (ends_from machine.set 0 a.code) (map pos listed.depths) (map pos other.depths) (ascends 0 a.code a.is_code.listing.fit)
      a.tables.depth told) in
      let same : record { code = listed.code; depths = listed.depths } ≡ record { code = other.code; depths = other.depths } =
      cc (placed, depths) in
      same
