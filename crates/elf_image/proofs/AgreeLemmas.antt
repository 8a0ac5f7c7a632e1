-- What is so, and the fault of what isn't: each holds exactly where the other doesn't.
use Rattle.std.proofs.Common.{◌≡◌, ℕ, ◌≤◌, ◌&&◌, Bool, true, false, nat_le, nat_eq, List, Option, Some, None, IsTrue, refl, ap}
use Rattle.std.specs.Option.{option_or}
use Rattle.std.proofs.lemmas.Bool.{leb-true, le-leb, eqb-true, eq-eqb, and_parts, and_from}
use Rattle.elf_image.specs.declared.fault.ImageNo.{ImageNo}
use Rattle.elf_image.specs.declared.rows.Row.{Row}
use Rattle.elf_image.specs.Rows.{HasRows, rows_fault}
use Rattle.elf_image.specs.Faults.{unless, header_at, layout_at, field_at}
use Rattle.elf_image.proofs.RowLemmas.{faultless_rows, rows_faultless}

pub record Agree (fact : Type 0) (fault : Option ImageNo) : Type 0 where
  pub told : fault ≡ None → fact
  pub none : fact → fault ≡ None

first_none : (first others : Option ImageNo) → option_or first others ≡ None → (first ≡ None) × (others ≡ None)
first_none None others is = (refl, is)
first_none (Some fault) others is = cc

pub both : {A B : Type 0} (first others : Option ImageNo) → Agree A first → Agree B others → Agree (A × B) (option_or first others)
both first others one rest = record {
  told = λ is. (let parts = first_none first others is in (one.told parts.0, rest.told parts.1));
  none = λ facts. (let here = one.none facts.0 in rw here (rest.none facts.1));
}

pub tested : (test : Bool) (fault : ImageNo) → Agree (IsTrue test) (unless test fault)
tested true fault = record { told = λ is. refl; none = λ is. refl }
tested false fault = record { told = λ is. cc; none = λ is. cc }

pub below : (a b : ℕ) (fault : ImageNo) → Agree (a ≤ b) (unless (nat_le a b) fault)
below a b fault = record {
  told = λ is. leb-true a b ((tested (nat_le a b) fault).told is);
  none = λ is. (tested (nat_le a b) fault).none (le-leb a b is);
}

pub equal : (a b : ℕ) (fault : ImageNo) → Agree (a ≡ b) (unless (nat_eq a b) fault)
equal a b fault = record {
  told = λ is. eqb-true a b ((tested (nat_eq a b) fault).told is);
  none = λ is. (tested (nat_eq a b) fault).none (eq-eqb a b is);
}

pub begins : (a b x y : ℕ) (fault : ImageNo) → Agree ((a ≤ b) × (x ≡ y)) (unless (nat_le a b && nat_eq x y) fault)
begins a b x y fault = record {
  told = λ is.
      (let parts = and_parts (nat_le a b) (nat_eq x y) ((tested (nat_le a b && nat_eq x y) fault).told is) in
      (leb-true a b parts.0, eqb-true x y parts.1));
  none = λ facts.
      (tested (nat_le a b && nat_eq x y) fault).none
      (and_from (nat_le a b) (nat_eq x y) (le-leb a b facts.0) (eq-eqb x y facts.1));
}

none_header : (place : Option ℕ) → header_at place ≡ None → place ≡ None
none_header None is = refl
none_header (Some at) is = cc

none_layout : (place : Option ℕ) → layout_at place ≡ None → place ≡ None
none_layout None is = refl
none_layout (Some at) is = cc

none_field : (place : Option ℕ) (fault : ImageNo) → field_at place fault ≡ None → place ≡ None
none_field None fault is = refl
none_field (Some at) fault is = cc

module _ (bytes : List ℕ) (at : ℕ) (rows : List Row) where
  pub in_header : Agree (HasRows bytes at rows) (header_at (rows_fault bytes at rows))
  in_header = record {
    told = λ is. rows_faultless bytes at rows (none_header (rows_fault bytes at rows) is);
    none = λ has. ap header_at (faultless_rows bytes at rows has);
  }

  pub in_layout : Agree (HasRows bytes at rows) (layout_at (rows_fault bytes at rows))
  in_layout = record {
    told = λ is. rows_faultless bytes at rows (none_layout (rows_fault bytes at rows) is);
    none = λ has. ap layout_at (faultless_rows bytes at rows has);
  }

  pub in_field : (fault : ImageNo) → Agree (HasRows bytes at rows) (field_at (rows_fault bytes at rows) fault)
  in_field fault = record {
    told = λ is. rows_faultless bytes at rows (none_field (rows_fault bytes at rows) fault is);
    none = λ has. ap (λ place. field_at place fault) (faultless_rows bytes at rows has);
  }
