-- Why units have no listing: each refusal has a cause, and stands in a file that has a name.
use Rattle.std.proofs.Common.{◌≡◌, ◌≢◌, ◌+◌, ◌<◌, ◌≤◌, ℕ, Bool, false, List, [], ◌∷◌, length, inl, inr, refl, arith, rules}
use Rattle.std.specs.Prelude.{All, IsSome}
use Rattle.std.proofs.lemmas.List.Elements.{All-weaker}
use Rattle.goasm_base.specs.declared.pos.Pos.{Pos}
use Rattle.goasm_base.specs.declared.statement.Stmt.{Stmt}
use Rattle.asm_lex.specs.declared.token.Tokens.{Tokens}
use Rattle.asm_macro.specs.Places.{StandsIn, StandIn, IsBelow}
use Rattle.asm_parse.specs.declared.parse_no.ParseNo.{ParseNo}
use Rattle.asm_parse.specs.declared.parse_no.ParseNo.TheVariants as parses
use Rattle.asm_parse.specs.declared.unit.Unit.{Unit as Said}
use Rattle.asm_parse.specs.Placed as placed
use Rattle.asm_target.specs.declared.select_no.SelectNo.{SelectNo}
use Rattle.asm_target.specs.declared.select_no.SelectNo.TheVariants as selects
use Rattle.obj_rewrite.specs.Rewriting.{Code, Rules, Refuses}
use Rattle.obj_rewrite.specs.Rewritten.{opened, appended}
use Rattle.obj_rewrite.specs.Words.{is_goal}
use Rattle.unit_listing.specs.declared.listing_no.ListingNo.{ListingNo}
use Rattle.unit_listing.specs.declared.listing_no.ListingNo.TheVariants as listings
use Rattle.unit_listing.specs.Kit.{Kit, rules_for, frame_of, guard_of}
use Rattle.unit_listing.specs.Listing as listing
use Rattle.unit_listing.specs.Listing.{IsFirstRefusal}
use Rattle.goasm_text.specs.declared.refusal.Refusal.TheVariants.{Parse}
use Rattle.goasm_text.specs.Lines.{HasCause, HasName, IsNamed, select_cause}
use Rattle.goasm_run.specs.declared.architecture.Architecture.{Architecture}
use Rattle.goasm_run.specs.declared.architecture.Architecture.TheVariants.{Amd64}
use Rattle.goasm_run.specs.declared.stop.Stop.{Stop}
use Rattle.goasm_run.specs.declared.stop.Stop.TheVariants as stops
use Rattle.goasm_run.specs.Questions.{told_as}
use Rattle.goasm_run.specs.UnitsSaid.{ListingStopped, IsUnlisted}

-- where the tokens of sources stand, as statements are read of them
pub tokens_in : (count : ℕ) (sources : List Tokens) → All (StandIn (IsBelow count)) sources
    → All (λ tokens. All (placed.TokenIn count) tokens.list) sources
tokens_in count sources all =
    All-weaker (StandIn (IsBelow count)) (λ tokens. All (placed.TokenIn count) tokens.list)
    (λ tokens. All-weaker (λ token. StandsIn (IsBelow count) token.pos) (placed.TokenIn count)
    (λ token here. record { file = here.file; line = here.line }) tokens.list)
    sources all

-- a refusal of statements

pub parse_named : (no : ParseNo) (count : ℕ) (names : List (List ℕ)) → placed.NoIn count no → count ≤ length names → HasName names (Parse no)
parse_named (parses.P1 pos) count names within below = omega (arith, within.file, below)
parse_named (parses.P2 pos) count names within below = omega (arith, within.file, below)
parse_named (parses.P3 pos) count names within below = omega (arith, within.file, below)
parse_named (parses.P4 pos) count names within below = omega (arith, within.file, below)
parse_named (parses.P5 pos) count names within below = omega (arith, within.file, below)
parse_named (parses.P6 pos) count names within below = omega (arith, within.file, below)
parse_named (parses.P7 pos) count names within below = omega (arith, within.file, below)
parse_named (parses.P8 pos) count names within below = omega (arith, within.file, below)
parse_named (parses.P9 pos) count names within below = omega (arith, within.file, below)
parse_named (parses.P10 pos) count names within below = omega (arith, within.file, below)
parse_named parses.Memory count names within below = tt

pub parse_caused : (no : ParseNo) → no ≢ parses.Memory → HasCause (Parse no)
parse_caused (parses.P1 pos) fault = search rules
parse_caused (parses.P2 pos) fault = search rules
parse_caused (parses.P3 pos) fault = search rules
parse_caused (parses.P4 pos) fault = search rules
parse_caused (parses.P5 pos) fault = search rules
parse_caused (parses.P6 pos) fault = search rules
parse_caused (parses.P7 pos) fault = search rules
parse_caused (parses.P8 pos) fault = search rules
parse_caused (parses.P9 pos) fault = search rules
parse_caused (parses.P10 pos) fault = search rules
parse_caused parses.Memory fault = absurd (fault refl)

-- a refusal of the listing

select_named : (place : Pos) (why : SelectNo) (count : ℕ) (names : List (List ℕ)) → place.file < count → count ≤ length names → IsNamed names (select_cause place why)
select_named place selects.S1 count names within below = omega (arith, within, below)
select_named place selects.S2 count names within below = omega (arith, within, below)
select_named place selects.S3 count names within below = omega (arith, within, below)
select_named place selects.S4 count names within below = omega (arith, within, below)
select_named place selects.Memory count names within below = tt

pub listing_named : (no : ListingNo) (count : ℕ) (names : List (List ℕ)) → listing.NoIn count no → count ≤ length names → HasName names (told_as no)
listing_named (listings.RW1 place total) count names within below = omega (arith, within, below)
listing_named (listings.Select place why) count names within below = select_named place why count names within below
listing_named (listings.B1 place distance) count names within below = omega (arith, within, below)
listing_named listings.Memory count names within below = tt

select_caused : (place : Pos) (why : SelectNo) → ¬ (why ≡ selects.Memory) → IsSome (select_cause place why)
select_caused place selects.S1 fault = search rules
select_caused place selects.S2 fault = search rules
select_caused place selects.S3 fault = search rules
select_caused place selects.S4 fault = search rules
select_caused place selects.Memory fault = absurd (fault refl)

-- a statement that is refused is so for a reason
module _ {Instr : Type 0} (rules_of : Rules Instr)
    (real : (stmt : Stmt) (depth : ℕ) (why : SelectNo) → rules_of.refuses stmt depth why → ¬ (why ≡ selects.Memory)) where
  refuses_real : (goals : ℕ → Bool) (stmts : List Stmt) (number : ℕ) (before : Code Instr) (place : Pos) (why : SelectNo)
      → Refuses rules_of goals stmts number before place why → ¬ (why ≡ selects.Memory)
  refuses_real goals [] number before place why refused = absurd refused
  refuses_real goals (stmt ∷ stmts) number before place why (inl (refused, at)) = real stmt before.depth why refused
  refuses_real goals (stmt ∷ stmts) number before place why (inr (between, step, later)) =
      refuses_real goals stmts (number + 1) between place why later

pub listing_caused : {Instr : Type 0} (kit : Kit Instr) (units : List Said) (no : ListingNo)
    → (no ≢ listings.Memory → IsFirstRefusal kit units no) → no ≢ listings.Memory → HasCause (told_as no)
listing_caused kit units (listings.RW1 place total) first fault = search rules
listing_caused kit units (listings.Select place why) first fault =
    let within = (first fault).refused in
    let function = within.item in
    let rules_of = rules_for kit function in
    let real : (stmt : Stmt) (depth : ℕ) (why : SelectNo) → rules_of.refuses stmt depth why → ¬ (why ≡ selects.Memory)
    = λ stmt depth why refused. refused.1 in
    let begun = opened rules_of function (frame_of kit function) (guard_of kit function) (kit.entry (frame_of kit function)) in
    select_caused place why
    (elim within.refused.1 [
      | inl refused ↦ refuses_real rules_of real (is_goal function.stmts) function.stmts 0 begun place why refused
      | inr later ↦
          refuses_real rules_of real (λ number. false) (appended function) (length function.stmts) later.0 place why later.2
    ])
listing_caused kit units (listings.B1 place distance) first fault = search rules
listing_caused kit units listings.Memory first fault = absurd (fault refl)

-- why the listing stops

pub listing_stopped : {Instr : Type 0} (kit : Kit Instr) (files : List (List ℕ)) (units : List Said) (one : ListingNo) (stop : Stop)
    → (one ≢ listings.Memory → IsFirstRefusal kit units one) → IsUnlisted files one stop → ListingStopped kit files units stop
listing_stopped kit files units one (stops.Refused line) first told = (one, first told.0, told.1)
listing_stopped kit files units one stops.Words first told = told
listing_stopped kit files units one stops.Memory first told = tt
listing_stopped kit files units one (stops.Unread name) first told = told

-- the only architecture so far
pub only_amd64 : (architecture : Architecture) → architecture ≡ Amd64
only_amd64 Amd64 = refl
