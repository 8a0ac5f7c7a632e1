use Rattle.std.proofs.Common.{◌≡◌, ◌⊎◌, ℕ, List, Option, Some, inl, inr, refl, sym, subst, ◌∙◌}
use Rattle.goasm_base.specs.Shelf.{Files, ReadLog, read_of, with_read}
use Rattle.goasm_run.specs.Changes.{ShelfChange}
use Rattle.goasm_run.specs.Endings.{Ending, Text, Refusal, NoForm}
use Rattle.goasm_run.specs.Plan.{Plan, Ask, Tell, Refuse, Pose, Malformed, ComesTo, AsksFor, MakesSome, MakesReads, EndsIn, StopsAt, EndsOver}
use Rattle.goasm_run.specs.Questions.{HaveOneAnswer}

same_bytes : (found other : Option (List ℕ)) (bytes more : List ℕ) → found ≡ Some bytes → other ≡ Some more → found ≡ other → bytes ≡ more
same_bytes found other bytes more is that same = cc

-- over a shelf that tells its files a plan comes to one ending alone
comes_to_one : HaveOneAnswer → (files : Files) (plan : Plan) (before now : ReadLog) (ending other : Ending)
    → ComesTo (Some files) plan before now ending → EndsOver files plan other → ending ≡ other
comes_to_one one files (Ask name limit next) before now ending other comes ends =
    let same : ends.0 ≡ comes.0
    = same_bytes (read_of files name limit) (read_of files name limit) ends.0 comes.0 ends.1 (comes.1 files refl) refl in
    comes_to_one one files (next comes.0) (with_read name before) now ending other comes.3
    (subst (λ bytes. EndsOver files (next bytes) other) same ends.2)
comes_to_one one files (Tell text) before now ending other comes ends = sym comes.0 ∙ ends
comes_to_one one files (Refuse line) before now ending other comes ends = sym comes.0 ∙ ends
comes_to_one one files (Pose question) before now ending other comes ends = one question ending other comes.0 comes.1 ends
comes_to_one one files Malformed before now ending other comes ends = sym comes.0 ∙ ends

-- two endings that a plan comes to are one
one_ending : HaveOneAnswer → (shelf : ShelfChange) (files : Files) (plan : Plan) (ending other : Ending)
    → shelf.holds ≡ Some files → EndsIn shelf plan ending → EndsOver files plan other → ending ≡ other
one_ending one shelf files plan ending other tells ends is =
    comes_to_one one files plan shelf.reads_before shelf.reads_now ending other (rw tells at ends.0) is

pub one_text : HaveOneAnswer → (shelf : ShelfChange) (files : Files) (plan : Plan) (text other : List ℕ)
    → shelf.holds ≡ Some files → EndsIn shelf plan (Text text) → EndsOver files plan (Text other) → text ≡ other
one_text one shelf files plan text other tells ends is =
    let same : Text text ≡ Text other = one_ending one shelf files plan (Text text) (Text other) tells ends is in
    cc

pub one_refusal : HaveOneAnswer → (shelf : ShelfChange) (files : Files) (plan : Plan) (line other : List ℕ)
    → shelf.holds ≡ Some files → EndsIn shelf plan (Refusal line) → EndsOver files plan (Refusal other) → line ≡ other
one_refusal one shelf files plan line other tells ends is =
    let same : Refusal line ≡ Refusal other
    = one_ending one shelf files plan (Refusal line) (Refusal other) tells ends is in
    cc

pub no_text : HaveOneAnswer → (shelf : ShelfChange) (files : Files) (plan : Plan) (line text : List ℕ)
    → shelf.holds ≡ Some files → EndsIn shelf plan (Refusal line) → EndsOver files plan (Text text) → ⊥
no_text one shelf files plan line text tells ends is =
    let same : Refusal line ≡ Text text = one_ending one shelf files plan (Refusal line) (Text text) tells ends is in
    cc

pub no_refusal : HaveOneAnswer → (shelf : ShelfChange) (files : Files) (plan : Plan) (text line : List ℕ)
    → shelf.holds ≡ Some files → EndsIn shelf plan (Text text) → EndsOver files plan (Refusal line) → ⊥
no_refusal one shelf files plan text line tells ends is =
    let same : Text text ≡ Refusal line = one_ending one shelf files plan (Text text) (Refusal line) tells ends is in
    cc

-- words of no form have no other ending

pub malformed_untold : (files : Files) (plan : Plan) (text : List ℕ) → plan ≡ Malformed → EndsOver files plan (Text text) → ⊥
malformed_untold files plan text is ends =
    let same : NoForm ≡ Text text = rw is at ends in
    cc

pub malformed_unended : (files : Files) (plan : Plan) (line : List ℕ) → plan ≡ Malformed → EndsOver files plan (Refusal line) → ⊥
malformed_unended files plan line is ends =
    let same : NoForm ≡ Refusal line = rw is at ends in
    cc

-- a plan of malformed words comes to no refusal, and asks for no file
pub malformed_unrefused : (shelf : ShelfChange) (plan : Plan) (line : List ℕ)
    → plan ≡ Malformed → EndsIn shelf plan (Refusal line) → ⊥
malformed_unrefused shelf plan line is ends =
    let comes = rw is at ends.0 in
    let same : NoForm ≡ Refusal line = comes.0 in
    cc

pub malformed_unread : (shelf : ShelfChange) (plan : Plan) (name : List ℕ)
    → plan ≡ Malformed → StopsAt shelf plan name → ⊥
malformed_unread shelf plan name is stops = rw is at stops.0

-- all reads of a plan are some of them

comes_makes : (told : Option Files) (plan : Plan) (before now : ReadLog) (ending : Ending)
    → ComesTo told plan before now ending → (now ≡ before) ⊎ MakesSome told plan before now
comes_makes told (Ask name limit next) before now ending comes =
    elim (comes_makes told (next comes.0) (with_read name before) now ending comes.3) [
      | inl same ↦ inr (inl same)
      | inr more ↦ inr (inr (comes.0, comes.1, comes.2, more))
    ]
comes_makes told (Tell text) before now ending comes = inl comes.1
comes_makes told (Refuse line) before now ending comes = inl comes.1
comes_makes told (Pose question) before now ending comes = inl comes.2
comes_makes told Malformed before now ending comes = inl comes.1

asks_makes : (told : Option Files) (plan : Plan) (before now : ReadLog) (name : List ℕ)
    → AsksFor told plan before now name → MakesSome told plan before now
asks_makes told (Ask asked limit next) before now name asks =
    elim asks [
      | inl last ↦ inl last.1
      | inr more ↦ inr (more.0, more.1, more.2, asks_makes told (next more.0) (with_read asked before) now name more.3)
    ]
asks_makes told (Tell text) before now name asks = absurd asks
asks_makes told (Refuse line) before now name asks = absurd asks
asks_makes told (Pose question) before now name asks = absurd asks
asks_makes told Malformed before now name asks = absurd asks

pub ends_makes : (shelf : ShelfChange) (plan : Plan) (ending : Ending) → EndsIn shelf plan ending → MakesReads shelf plan
ends_makes shelf plan ending ends = comes_makes shelf.holds plan shelf.reads_before shelf.reads_now ending ends.0

pub stops_makes : (shelf : ShelfChange) (plan : Plan) (name : List ℕ) → StopsAt shelf plan name → MakesReads shelf plan
stops_makes shelf plan name stops = inr (asks_makes shelf.holds plan shelf.reads_before shelf.reads_now name stops.0)
