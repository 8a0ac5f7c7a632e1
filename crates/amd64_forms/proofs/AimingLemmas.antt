-- What becomes of an instruction whose distance changes.
use Rattle.std.specs.Prelude.{◌&&◌, is_some, if◌then◌else◌}
use Rattle.std.proofs.Common.{◌≡◌, ℤ, false, IsTrue, Some, None, refl, ◌∙◌, rules}
use Rattle.std.specs.Option.{option_map}
use Rattle.machine_effect.specs.Numbers.{fits as fits_bits}
use Rattle.amd64_table.specs.declared.instr.Instr.{Instr}
use Rattle.amd64_table.specs.Fits.{fits, fits_rm, fits_mem, fits_lock}
use Rattle.amd64_forms.specs.Aiming.{place_in, symbol_distance, distance_of, distance_bits, is_branch, aimed, aimed_by}

-- only the last distance counts
pub aimed_twice : (d e : ℤ) (i : Instr) → aimed_by d (aimed_by e i) ≡ aimed_by d i
unfolding aimed_by
aimed_twice = search rules

pub distance_aimed : (d : ℤ) (i : Instr) → distance_of (aimed_by d i) ≡ option_map (λ _. d) (distance_of i)
unfolding aimed_by distance_of place_in
distance_aimed = search rules

-- an instruction has the distance that it has
pub aimed_same : (d : ℤ) (i : Instr) → distance_of i ≡ Some d → aimed_by d i ≡ i
unfolding aimed_by distance_of place_in
aimed_same = search rules

pub bits_aimed : (d : ℤ) (i : Instr) → distance_bits (aimed_by d i) ≡ distance_bits i
unfolding aimed_by distance_bits
bits_aimed = search rules

pub distance_fits : (d : ℤ) (i : Instr) → IsTrue (fits i) → distance_of i ≡ Some d → IsTrue (fits_bits (distance_bits i) d)
unfolding distance_of place_in distance_bits fits fits_rm fits_mem fits_lock
distance_fits = search rules

pub fits_aimed : (d : ℤ) (i : Instr) → IsTrue (fits i) → IsTrue (fits_bits (distance_bits i) d) → IsTrue (fits (aimed_by d i))
unfolding distance_of place_in distance_bits aimed_by fits fits_rm fits_mem fits_lock
fits_aimed = search rules

-- what is no branch has a symbol's distance
pub no_branch : (i : Instr) → is_branch i ≡ false → (distance_of i ≡ symbol_distance (place_in i)) × (distance_bits i ≡ 32)
unfolding distance_of place_in distance_bits is_branch
no_branch = search rules

pub aimed_plain : (i : Instr) (d : ℤ) → is_branch i ≡ false
    → (if is_some (symbol_distance (place_in i)) && fits_bits 32 d then Some (aimed_by d i) else None) ≡ aimed i d
aimed_plain i d plain = let same = no_branch i plain in rw (same.0, same.1) refl
