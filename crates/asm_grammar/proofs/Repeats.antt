-- Reading one part after the other, as a loop does.
use Rattle.std.proofs.Common.{◌≡◌, ℕ, zero, suc, ◌<◌, ◌≤◌, length, Option, Some, None, sym, ap, ◌∙◌, arith}
use Rattle.asm_grammar.specs.declared.stop.Stop.{Stop}
use Rattle.asm_grammar.specs.declared.stop.Stop.TheVariants.{Form, Memory}
use Rattle.asm_grammar.specs.Reader.{Reading, Reader, repeated, going_on, Stops}

-- what a loop still has to read gives what it was to read from the start
pub record IsRest {A B : Type 0} (begins : Reader (Option B)) (goes : A → B → Reader A) (whole : Option (A × Reading)) (part : A) (at : Reading) : Type 0 where
  pub most : ℕ
  pub bound : length at.rest ≤ most
  pub so_far : repeated begins goes most part at ≡ whole

pub starts : {A B : Type 0} (begins : Reader (Option B)) (goes : A → B → Reader A) (whole : Option (A × Reading)) (part : A) (at : Reading)
    → going_on begins goes part at ≡ whole → IsRest begins goes whole part at
unfolding going_on
starts begins goes whole part at e = record { most = length at.rest; bound = omega arith; so_far = e }

step_of : {A B : Type 0} (begins : Reader (Option B)) (goes : A → B → Reader A) (whole : Option (A × Reading)) (part longer : A) (at then after : Reading) (found : B) (most : ℕ)
    → length at.rest ≤ most → repeated begins goes most part at ≡ whole
    → begins at ≡ Some (Some found, then) → length then.rest < length at.rest
    → goes part found then ≡ Some (longer, after) → length after.rest ≤ length then.rest
    → IsRest begins goes whole longer after
step_of begins goes whole part longer at then after found zero bound so_far begun shorter gone kept = absurd (omega arith)
step_of begins goes whole part longer at then after found (suc most) bound so_far begun shorter gone kept =
    record { most = most; bound = omega arith; so_far = rw (begun, gone) at so_far }

pub goes_on : {A B : Type 0} (begins : Reader (Option B)) (goes : A → B → Reader A) (whole : Option (A × Reading)) (part longer : A) (at then after : Reading) (found : B)
    → IsRest begins goes whole part at
    → begins at ≡ Some (Some found, then) → length then.rest < length at.rest
    → goes part found then ≡ Some (longer, after) → length after.rest ≤ length then.rest
    → IsRest begins goes whole longer after
goes_on begins goes whole part longer at then after found rest begun shorter gone kept =
    step_of begins goes whole part longer at then after found rest.most rest.bound rest.so_far begun shorter gone kept

done_at : {A B : Type 0} (begins : Reader (Option B)) (goes : A → B → Reader A) (whole : Option (A × Reading)) (part : A) (at then : Reading) (most : ℕ)
    → repeated begins goes most part at ≡ whole → begins at ≡ Some (None, then) → then ≡ at → whole ≡ Some (part, then)
done_at begins goes whole part at then zero so_far ended same = sym so_far ∙ ap (λ (x : Reading). Some (part, x)) (sym same)
done_at begins goes whole part at then (suc most) so_far ended same = sym (rw ended at so_far)

pub is_done : {A B : Type 0} (begins : Reader (Option B)) (goes : A → B → Reader A) (whole : Option (A × Reading)) (part : A) (at then : Reading)
    → IsRest begins goes whole part at → begins at ≡ Some (None, then) → then ≡ at → whole ≡ Some (part, then)
is_done begins goes whole part at then rest ended same = done_at begins goes whole part at then rest.most rest.so_far ended same

stop_at : {A B : Type 0} (begins : Reader (Option B)) (goes : A → B → Reader A) (whole : Option (A × Reading)) (part : A) (at then : Reading) (found : B) (most : ℕ)
    → length at.rest ≤ most → repeated begins goes most part at ≡ whole
    → begins at ≡ Some (Some found, then) → length then.rest < length at.rest → goes part found then ≡ None → whole ≡ None
stop_at begins goes whole part at then found zero bound so_far begun shorter gone = absurd (omega arith)
stop_at begins goes whole part at then found (suc most) bound so_far begun shorter gone = sym (rw (begun, gone) at so_far)

pub stops : {A B : Type 0} (begins : Reader (Option B)) (goes : A → B → Reader A) (whole : Option (A × Reading)) (part : A) (at then : Reading) (found : B)
    → IsRest begins goes whole part at
    → begins at ≡ Some (Some found, then) → length then.rest < length at.rest → goes part found then ≡ None → whole ≡ None
stops begins goes whole part at then found rest begun shorter gone =
    stop_at begins goes whole part at then found rest.most rest.bound rest.so_far begun shorter gone

-- the same of a call that stopped
pub ends : {A B : Type 0} (begins : Reader (Option B)) (goes : A → B → Reader A) (whole : Option (A × Reading)) (part : A) (at then : Reading) (found : B) (stop : Stop)
    → IsRest begins goes whole part at
    → begins at ≡ Some (Some found, then) → length then.rest < length at.rest → Stops (goes part found then) stop → Stops whole stop
ends begins goes whole part at then found Form rest begun shorter gone = stops begins goes whole part at then found rest begun shorter gone
ends begins goes whole part at then found Memory rest begun shorter gone = tt
