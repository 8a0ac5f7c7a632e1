-- How far amd64's instructions reach.
use Rattle.std.specs.Prelude.{◌↔◌, ◌⊎◌}
use Rattle.std.proofs.Common.{◌≡◌, ℕ, ℤ, pos, negsuc, ◌+ℤ◌, ◌-ℤ◌, ◌≤ℤ◌, ◌+◌, ◌-◌, ◌*◌, ◌/◌, ◌%◌, ◌^◌, ◌<◌, ◌≤◌, true, IsTrue, length, refl, sym, ◌∙◌, ap, arith, inl, inr}
use Rattle.std.proofs.lemmas.Bool.{cases_lt, ltb-true, lt-ltb}
use Rattle.std.proofs.lemmas.Int.{ints}
use Rattle.machine_effect.specs.Numbers.{fits as fits_bits, moved_by}
use Rattle.asm_target.specs.Aiming as aim
use Rattle.amd64_table.specs.declared.instr.Instr.{Instr}
use Rattle.amd64_table.specs.declared.instr.Instr.TheVariants as instr
use Rattle.amd64_code.specs.InstructionSet.{amd64, Fits, end_of}
use Rattle.amd64_code.specs.Spelling.{spelling_of}
use Rattle.amd64_code.proofs.LengthLaws.{bounded}
use Rattle.amd64_forms.specs.Aiming.{distance_bits, aimed_by}
use Rattle.amd64_select.specs.Aims.{aiming}
use Rattle.amd64_select.specs.AimLaws.{aimed_so, aims_by}

-- a distance of w bits lies from -h to below h, where 2 ^ w is 2 * h
abbrev IsNear : ℕ → ℕ → ℕ → ℕ → Type 0
IsNear n h place goal = ((pos n -ℤ pos h) ≤ℤ (pos goal -ℤ pos place)) × ((pos goal -ℤ pos place) ≤ℤ (pos (n + h) -ℤ pos 1))

ahead : (e m goal : ℕ) → m < 2147483648 → e < 2 ^ 33 → (e + m % 2 ^ 64) % 2 ^ 64 ≡ goal → goal ≡ e + m
ahead e m goal small near to = omega arith

behind : (e m goal : ℕ) → m < 2147483648 → e < 2 ^ 33 → goal < 2 ^ 32 → (e + (2 ^ 64 - 1 - m % 2 ^ 64)) % 2 ^ 64 ≡ goal
    → goal + m + 1 ≡ e
behind e m goal small near low to = omega arith

ahead_back : (e m goal : ℕ) → m < 2147483648 → e < 2 ^ 33 → goal ≡ e + m → (e + m % 2 ^ 64) % 2 ^ 64 ≡ goal
ahead_back e m goal small near is = omega arith

behind_back : (e m goal : ℕ) → m < 2147483648 → e < 2 ^ 33 → goal + m + 1 ≡ e → (e + (2 ^ 64 - 1 - m % 2 ^ 64)) % 2 ^ 64 ≡ goal
behind_back e m goal small near is = omega arith

reaches_near : (w h place n goal : ℕ) (d : ℤ) → 2 ^ w ≡ 2 * h → h ≤ 2147483648 → n ≤ 15 → place < 2 ^ 32 → goal < 2 ^ 32
    → IsTrue (fits_bits w d) → moved_by (place + n) d ≡ goal → IsNear n h place goal
reaches_near w h place n goal (pos m) half most few low near fit to =
    let less : 2 * m < 2 ^ w = ltb-true (2 * m) (2 ^ w) fit in
    let is : goal ≡ place + n + m = ahead (place + n) m goal (omega arith) (omega arith) to in
    (omega (arith, ints), omega (arith, ints))
reaches_near w h place n goal (negsuc m) half most few low near fit to =
    let less : 2 * m < 2 ^ w = ltb-true (2 * m) (2 ^ w) fit in
    let is : goal + m + 1 ≡ place + n = behind (place + n) m goal (omega arith) (omega arith) near to in
    (omega (arith, ints), omega (arith, ints))

-- the distance that leads to a goal
record Way (w e goal : ℕ) : Type 0 where
  distance : ℤ
  fit : IsTrue (fits_bits w distance)
  to : moved_by e distance ≡ goal

way : (w h place n goal : ℕ) → 2 ^ w ≡ 2 * h → h ≤ 2147483648 → n ≤ 15 → place < 2 ^ 32 → goal < 2 ^ 32 → IsNear n h place goal
    → Way w (place + n) goal
way w h place n goal half most few low near is =
    elim (cases_lt goal (place + n)) as (λ _. Way w (place + n) goal) [
      | inl before ↦
          (let m : ℕ = place + n - goal - 1 in
          let less : 2 * m < 2 ^ w = omega (arith, ints) in
          record {
            distance = negsuc m;
            fit = lt-ltb (2 * m) (2 ^ w) less;
            to = behind_back (place + n) m goal (omega (arith, ints)) (omega arith) (omega arith);
          })
      | inr after ↦
          (let m : ℕ = goal - (place + n) in
          let less : 2 * m < 2 ^ w = omega (arith, ints) in
          record {
            distance = pos m;
            fit = lt-ltb (2 * m) (2 ^ w) less;
            to = ahead_back (place + n) m goal (omega (arith, ints)) (omega arith) (omega arith);
          })
    ]

record Half (i : Instr) : Type 0 where
  half : ℕ
  some : 1 ≤ half
  least : 128 ≤ half
  most : half ≤ 2147483648
  is : 2 ^ distance_bits i ≡ 2 * half

halves : (i : Instr) → Half i
unfolding distance_bits
halves (instr.Short code d) = record { half = 128; some = omega arith; least = omega arith; most = omega arith; is = refl }
halves i = record { half = 2147483648; some = omega arith; least = omega arith; most = omega arith; is = refl }

end_is : (i : Instr) (place : ℕ) → place < 2 ^ 32 → end_of i place ≡ place + length (spelling_of i)
end_is i place low = let most = (bounded i).1 in omega (arith, most)

pub reaches : aim.HaveReach amd64 Fits aiming 1
reaches i fit directed =
    let n : ℕ = length (spelling_of i) in
    let h = halves i in
    let few : n ≤ 15 = (bounded i).1 in
    let some : 1 ≤ n = (bounded i).0 in
    record {
      low = pos n -ℤ pos h.half;
      high = pos (n + h.half) -ℤ pos 1;
      low_most = omega (arith, ints, few, h.least);
      high_least = omega (arith, ints, some, h.some);
      reach = λ place goal low near whole. (
        (λ can.
            let by = aimed_so i can.0 place goal can.1 in
            let to : moved_by (place + n) by.distance ≡ goal =
            ap (λ (end : ℕ). moved_by end by.distance) (sym (end_is i place low)) ∙ by.leads.to in
            reaches_near (distance_bits i) h.half place n goal by.distance h.is h.most few low near by.leads.fit to),
        (λ is.
            let w = way (distance_bits i) h.half place n goal h.is h.most few low near is in
            let to : moved_by (end_of i place) w.distance ≡ goal =
            ap (λ (end : ℕ). moved_by end w.distance) (end_is i place low) ∙ w.to in
            (aimed_by w.distance i, aims_by i place goal w.distance fit directed (record { fit = w.fit; to = to }))),
      );
    }
