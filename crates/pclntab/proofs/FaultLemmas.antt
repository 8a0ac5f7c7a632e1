-- A function table has no fault.
use Rattle.std.proofs.Common.{◌≡◌, ◌⊎◌, ℕ, zero, suc, ◌-◌, ◌<◌, ◌==◌, ◌||◌, Bool, true, List, Option, None, length, refl, arith}
use Rattle.std.specs.Option.{option_or}
use Rattle.std.proofs.lemmas.Bool.{and_from, eq-eqb, le-leb}
use Rattle.std.proofs.lemmas.Bool.Decides.{nat_tests}
use Rattle.goasm_base.specs.Refusals.{first_below}
use Rattle.pclntab.specs.declared.fault.TableNo.{TableNo}
use Rattle.pclntab.specs.Faults.{unless, header_fault, tables_fault, entry_fault, order_fault, record_fault, name_fault, pc_fault, func_fault, table_fault}
use Rattle.pclntab.specs.Places.{depth_field, file_field, func_count, line_field}
use Rattle.pclntab.specs.Table.{HasName, HasOrder, HasRecord, HasTables, IsFunc, IsHeader, IsTable, NamesPcTable}

passes : (test : Bool) (fault : TableNo) (others : Option TableNo) → test ≡ true → others ≡ None → unless test fault others ≡ None
passes test fault others holds rest = rw holds rest

both : (one other : Option TableNo) → one ≡ None → other ≡ None → option_or one other ≡ None
both one other first second = rw first second

either : (n a b : ℕ) → (n ≡ a) ⊎ (n ≡ b) → (n == a || n == b) ≡ true
either n a b is = grind (arith, nat_tests)

one_of : (n a b c : ℕ) → (n ≡ a) ⊎ (n ≡ b) ⊎ (n ≡ c) → (n == a || n == b || n == c) ≡ true
one_of n a b c is = grind (arith, nat_tests)

all_none : {A : Type 0} (at : ℕ → Option A) (count : ℕ) → ((i : ℕ) → i < count → at i ≡ None) → first_below count at ≡ None
unfolding first_below
all_none {A} at zero free = refl
all_none {A} at (suc count) free = rw (all_none at count (λ i less. free i (omega arith))) (free count (omega arith))

module _ (bytes : List ℕ) where
  header_none : IsHeader bytes → header_fault bytes ≡ None
  unfolding header_fault
  header_none is =
      passes _ _ _ (and_from _ _ (le-leb 4 (length bytes) (let long = is.length in omega arith)) (either _ _ _ is.magic))
      (passes _ _ _ (le-leb _ _ is.length)
      (passes _ _ _ (and_from _ _ (eq-eqb _ _ is.zeros.0) (eq-eqb _ _ is.zeros.1))
      (passes _ _ _ (one_of _ _ _ _ is.quantum)
      (passes _ _ _ (eq-eqb _ _ is.pointers)
      (passes _ _ _ (le-leb _ _ is.text) refl)))))

  tables_none : HasTables bytes → tables_fault bytes ≡ None
  unfolding tables_fault
  tables_none has =
      passes _ _ _ (le-leb _ _ has.names)
      (passes _ _ _ (le-leb _ _ has.units)
      (passes _ _ _ (le-leb _ _ has.files)
      (passes _ _ _ (le-leb _ _ has.pcs)
      (passes _ _ _ (le-leb _ _ has.funcs)
      (passes _ _ _ (le-leb _ _ has.pairs) refl)))))

  order_none : HasOrder bytes → order_fault bytes ≡ None
  unfolding order_fault entry_fault
  order_none has =
      all_none (entry_fault bytes) (func_count bytes - 1) (λ index less. passes _ _ _ (le-leb _ _ (has index (omega arith))) refl)

  record_none : (index : ℕ) → HasRecord bytes index → record_fault bytes index ≡ None
  unfolding record_fault
  record_none index has = passes _ _ _ (le-leb _ _ has.fits) (passes _ _ _ (le-leb _ _ has.words) refl)

  name_none : (index : ℕ) → HasName bytes index → name_fault bytes index ≡ None
  unfolding name_fault
  name_none index has = passes _ _ _ (le-leb _ _ has.within) (passes _ _ _ has.ended refl)

  pc_none : (field : ℕ) → NamesPcTable bytes field → pc_fault bytes field ≡ None
  unfolding pc_fault
  pc_none field names = passes _ _ _ names refl

  func_none : (index : ℕ) → IsFunc bytes index → func_fault bytes index ≡ None
  unfolding func_fault
  func_none index is =
      both _ _ (record_none index is.fits)
      (both _ _ (name_none index is.name)
      (both _ _ (pc_none (depth_field bytes index) is.depth)
      (both _ _ (pc_none (file_field bytes index) is.file) (pc_none (line_field bytes index) is.line))))

  pub table_none : IsTable bytes → table_fault bytes ≡ None
  unfolding table_fault
  table_none is =
      both _ _ (header_none is.header)
      (both _ _ (tables_none is.tables)
      (both _ _ (order_none is.order)
      (all_none (func_fault bytes) (func_count bytes) (λ index less. func_none index (is.funcs index less)))))
