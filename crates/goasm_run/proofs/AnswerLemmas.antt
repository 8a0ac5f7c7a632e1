-- A plan's answer, from the answer to what is left of the plan.
use Rattle.std.proofs.Common.{◌≡◌, ℕ, List, Option, Result, Ok, Err, IfErr, IsErrAnd, inl, refl, sym, subst}
use Rattle.goasm_base.specs.Shelf.{Files, ReadLog}
use Rattle.goasm_run.specs.declared.stop.Stop.{Stop}
use Rattle.goasm_run.specs.declared.stop.Stop.TheVariants as stops
use Rattle.goasm_run.specs.Changes.{ShelfChange, ReadsAll}
use Rattle.goasm_run.specs.Endings.{Text, Refusal}
use Rattle.goasm_run.specs.Plan.{Plan, ComesTo}
use Rattle.goasm_run.specs.Stops.{AnswerStopped, EndStopped, Settles, Stopped, Answers}
use Rattle.goasm_run.specs.PartsRead.{LeadsTo}

-- what `?` hands on

pub passed_on : {T E : Type 0} (r : Result T E) (e : E) (P : E → Type 0) → IsErrAnd r (λ y. y ≡ e) → P e → IfErr r P
passed_on (Ok x) e P is p = tt
passed_on (Err y) e P is p = subst P (sym is) p

pub stop_answers : (shelf : ShelfChange) (plan : Plan) (result : Result (List ℕ) Stop) (stop : Stop)
    → IsErrAnd result (λ y. y ≡ stop) → Stopped shelf plan stop → Answers shelf plan result
stop_answers shelf plan (Ok text) stop is stopped = absurd is
stop_answers shelf plan (Err y) stop is stopped = record { text = tt; stopped = subst (Stopped shelf plan) (sym is) stopped }

-- an answer that reads nothing, where the plan has led to it
pub led_stopped : (shelf : ShelfChange) (plan rest : Plan) (stop : Stop)
    → LeadsTo shelf.holds plan shelf.reads_before rest shelf.reads_now → ReadsAll shelf
    → AnswerStopped rest stop → Stopped shelf plan stop
led_stopped shelf plan rest (stops.Refused line) leads unfailed stopped =
    let comes : ComesTo shelf.holds rest shelf.reads_now shelf.reads_now (Refusal line) = rw stopped (refl, refl) in
    (leads.comes shelf.reads_now (Refusal line) comes, unfailed)
led_stopped shelf plan rest stops.Words leads unfailed stopped = stopped
led_stopped shelf plan rest stops.Memory leads unfailed stopped = leads.made
led_stopped shelf plan rest (stops.Unread name) leads unfailed stopped = absurd stopped

-- a plan leads to itself by no read
pub leads_nowhere : (told : Option Files) (plan : Plan) (before : ReadLog) → LeadsTo told plan before plan before
leads_nowhere told plan before = record {
  comes = λ now ending comes. comes;
  asks = λ now name asks. asks;
  makes = λ now makes. makes;
  made = inl refl;
}

-- an end that reads nothing, where the plan has led to it

led_end : (shelf : ShelfChange) (plan rest : Plan) (stop : Stop)
    → LeadsTo shelf.holds plan shelf.reads_before rest shelf.reads_now → ReadsAll shelf → EndStopped rest stop → Stopped shelf plan stop
led_end shelf plan rest (stops.Refused line) leads unfailed stopped =
    (leads.comes shelf.reads_now (Refusal line) (stopped shelf.holds shelf.reads_now shelf.reads_now refl), unfailed)
led_end shelf plan rest stops.Words leads unfailed stopped = stopped
led_end shelf plan rest stops.Memory leads unfailed stopped = leads.made
led_end shelf plan rest (stops.Unread name) leads unfailed stopped = absurd stopped

pub led_settled : (shelf : ShelfChange) (plan rest : Plan) (result : Result (List ℕ) Stop)
    → LeadsTo shelf.holds plan shelf.reads_before rest shelf.reads_now → ReadsAll shelf → Settles rest result → Answers shelf plan result
led_settled shelf plan rest (Ok text) leads unfailed settles = record {
  text = (leads.comes shelf.reads_now (Text text) (settles.text shelf.holds shelf.reads_now shelf.reads_now refl), unfailed);
  stopped = tt;
}
led_settled shelf plan rest (Err stop) leads unfailed settles = record {
  text = tt;
  stopped = led_end shelf plan rest stop leads unfailed settles.stopped;
}
