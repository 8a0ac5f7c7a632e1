-- The first function that goes astray, or that breaks a flow rule, is one, and is refused for one cause.
use Rattle.std.proofs.Common.{◌≡◌, ◌<◌, ℕ, Bool, true, false, List, Some, take, sym, ap, ◌∙◌, subst, inl, inr}
use Rattle.std.specs.Prelude.{All}
use Rattle.std.specs.List.{AllZip, slice_get}
use Rattle.std.proofs.lemmas.Bool.{cases_order}
use Rattle.goasm_base.specs.declared.pos.Pos.{Pos}
use Rattle.asm_target.specs.declared.body.Placed.{Placed}
use Rattle.asm_target.specs.FlowFunction.{FlowFunction}
use Rattle.asm_target.specs.FlowRules.{Breach, IsFirstBreach}
use Rattle.asm_target.proofs.BreachLemmas.{same_breach, unsound}
use Rattle.flow_rules.specs.declared.flow_no.FlowNo.{FlowNo}
use Rattle.flow_rules.specs.Placing.{told}
use Rattle.unit_listing.specs.Kit.{Kit}
use Rattle.unit_listing.proofs.OneLemmas.{same_item}
use Rattle.link_code.specs.declared.placing.Code.{Code}
use Rattle.link_code.specs.declared.site.Site.{Site}
use Rattle.link_code.specs.Astray.{IsFirstAstray, is_astray, range_of}
use Rattle.link_code.specs.Code.{IsCode}
use Rattle.link_code.specs.Positions.{HasPos, IsOfLine}
use Rattle.link_names.specs.Definitions.{Entry}
use Rattle.link_names.specs.declared.definition.Meaning.{Meaning}
use Rattle.link_build.specs.declared.link_no.LinkNo.{LinkNo}
use Rattle.link_build.specs.declared.link_no.LinkNo.TheVariants as cause
use Rattle.link_build.specs.Functions.{Seen}
use Rattle.link_build.proofs.PlaceLemmas.{all_got, zip_left}
use Rattle.link_flow.specs.declared.around.Around.{Around}
use Rattle.link_flow.specs.Codes.{AreCodes}
use Rattle.link_flow.specs.Refusals.{BreaksRule, GoesAstray, IsAstray, IsBreach, IsFirst, KeepsGoals, KeepsRules, rules_of}
use Rattle.link_answer.proofs.AroundLemmas.{IsSameAround, same_astray, same_rules}
use Rattle.link_answer.proofs.CodesLemmas.{CodeLaws, IsAlike}
use Rattle.link_answer.proofs.ListLemmas.{among_first}
use Rattle.link_answer.proofs.SameLemmas.{IsSameSeen, one_name, seen_at}

-- a test doesn't pass and fail
passes_fails : {X : Type 0} (test check : X → Bool) → ((item : X) → test item ≡ check item) → (item : X) → test item ≡ true
    → check item ≡ false → ⊥
passes_fails test check same item passes fails = let wrong : true ≡ false = sym passes ∙ same item ∙ fails in absurd cc

-- one of two numbers is the other, if it isn't before it, nor the other before it
same_number : (one other : ℕ) → (one < other → ⊥) → (other < one → ⊥) → one ≡ other
same_number one other before behind =
    elim (cases_order one other) as (λ _. one ≡ other) [
      | inl equal ↦ equal
      | inr (inl less) ↦ absurd (before less)
      | inr (inr more) ↦ absurd (behind more)
    ]

abbrev untold : Breach → FlowNo
untold breach = record { rule = breach.rule; at = breach.address; depths = breach.depths }

module _ {Instr : Type 0} (kit : Kit Instr) where
  module _ (Keeps Holds : Code Instr → Type 0) (Breaks Fails : Seen Instr → Code Instr → LinkNo → Type 0) (one two : LinkNo)
      (wrong : (func : Seen Instr) (code again : Code Instr) → IsAlike code again → Breaks func code one → Holds again → ⊥)
      (funcs others : List (Seen Instr)) (codes again : List (Code Instr)) (alike : AllZip IsAlike codes again) where
    -- the first function that breaks something isn't before the first one that is alike and doesn't hold it
    not_before : (a : IsFirst kit Keeps Breaks funcs codes one) (b : IsFirst kit Holds Fails others again two) → a.number < b.number → ⊥
    not_before a b less =
        let found = zip_left IsAlike codes again a.number a.code alike a.there in
        wrong a.func a.code found.0 found.2 a.broken
        (all_got Holds (take b.number again) a.number found.0 b.before (among_first again b.number a.number found.0 less found.1))

    -- there is none where all hold it
    none_breaks : All Holds again → IsFirst kit Keeps Breaks funcs codes one → ⊥
    none_breaks all a =
        let found = zip_left IsAlike codes again a.number a.code alike a.there in
        wrong a.func a.code found.0 found.2 a.broken (all_got Holds again a.number found.0 all found.1)

  module _ (one other : Around) (same : IsSameAround one other) where
    abbrev AstrayBy : Around → Placed Instr → Bool
    AstrayBy all item = is_astray kit.set (range_of all.text) all.symbols.items item

    here_again : (code again : Code Instr) → IsAlike code again → (number : ℕ) (item : Placed Instr)
        → slice_get code.placed.items number ≡ Some item → slice_get again.placed.items number ≡ Some item
    here_again code again alike number item here =
        subst (λ (items : List (Placed Instr)). slice_get items number ≡ Some item) alike.placed here

    -- what goes astray doesn't keep its goals
    astray_kept : (name : List ℕ) (func : Seen Instr) (code again : Code Instr) → IsAlike code again
        → GoesAstray kit one func code name → KeepsGoals kit other again → ⊥
    astray_kept name func code again alike astray kept =
        let first = astray.astray in
        passes_fails (AstrayBy one) (AstrayBy other) (same_astray kit one other same) first.one first.astray
        (all_got (λ item. AstrayBy other item ≡ false) again.placed.items astray.number first.one kept
        (here_again code again alike astray.number first.one first.here))

    -- the first instruction that goes astray isn't before the other's
    not_sooner : (code again : Code Instr) → IsAlike code again → (number place : ℕ)
        → IsFirstAstray kit.set (range_of one.text) one.symbols.items code.placed.items number
        → IsFirstAstray kit.set (range_of other.text) other.symbols.items again.placed.items place → number < place → ⊥
    not_sooner code again alike number place first second less =
        passes_fails (AstrayBy one) (AstrayBy other) (same_astray kit one other same) first.one first.astray
        (second.before number first.one less (here_again code again alike number first.one first.here))

    -- what breaks a rule doesn't keep the rules
    breach_by : (code again : Code Instr) → IsAlike code again → (breach : Breach) → IsFirstBreach (rules_of kit one code) breach
        → IsFirstBreach (rules_of kit other again) breach
    breach_by code again alike breach first =
        subst (λ (rules : FlowFunction). IsFirstBreach rules breach) (same_rules kit one other same code again alike) first

    breach_kept : (pos : Pos) (refusal : FlowNo) (func : Seen Instr) (code again : Code Instr) → IsAlike code again
        → BreaksRule kit one func code pos refusal → KeepsRules kit other again → ⊥
    breach_kept pos refusal func code again alike broken kept =
        unsound (rules_of kit other again) (told refusal) (breach_by code again alike (told refusal) broken.breach) kept

  module _ (laws : CodeLaws kit) (one other : Around) (same : IsSameAround one other) (turn : IsSameAround other one) where
    one_astray : (func its : Seen Instr) → IsSameSeen func its → (code again : Code Instr) → IsAlike code again → IsAlike again code
        → (name called : List ℕ) → GoesAstray kit one func code name → GoesAstray kit other its again called → name ≡ called
    one_astray func its seen code again alike back name called a b =
        let number : a.number ≡ b.number = same_number a.number b.number
        (not_sooner one other same code again alike a.number b.number a.astray b.astray)
        (not_sooner other one turn again code back b.number a.number b.astray a.astray) in
        let line = laws.line func.part.laid its.part.laid a.number a.line b.line seen.part.laid a.of
        (subst (λ number. IsOfLine kit its.part.laid number b.line) (sym number) b.of) in
        one_name func its seen a.line b.line line name called a.named b.named

    one_breach : (func its : Seen Instr) → IsSameSeen func its → (code again : Code Instr) → IsAlike code again
        → (site : Site) → IsCode kit site func.part.laid code.placed.items → (pos place : Pos) (refusal wide : FlowNo)
        → BreaksRule kit one func code pos refusal → BreaksRule kit other its again place wide
        → cause.Flow pos refusal ≡ cause.Flow place wide
    one_breach func its seen code again alike site is pos place refusal wide a b =
        let equal : refusal ≡ wide = ap untold (same_breach (rules_of kit other again) (told refusal) (told wide)
        (breach_by one other same code again alike (told refusal) a.breach) b.breach) in
        let there : HasPos kit its.part.laid code.placed.items wide.at place
        = subst (λ (items : List (Placed Instr)). HasPos kit its.part.laid items wide.at place) (sym alike.placed) b.at in
        let here : HasPos kit its.part.laid code.placed.items refusal.at place
        = subst (λ (refused : FlowNo). HasPos kit its.part.laid code.placed.items refused.at place) (sym equal) there in
        let where_is : pos ≡ place
        = laws.place site func.part.laid its.part.laid code.placed.items refusal.at pos place seen.part.laid is a.at here in
        ap (λ (pos : Pos). cause.Flow pos refusal) where_is ∙ ap (λ (refused : FlowNo). cause.Flow place refused) equal

    module _ (funcs twos : List (Seen Instr)) (are : AllZip IsSameSeen funcs twos) (codes again : List (Code Instr))
        (alike : AllZip IsAlike codes again) (back : AllZip IsAlike again codes) where
      at_number : {X : Type 0} (items : List X) (item : X) (number place : ℕ) → number ≡ place → slice_get items place ≡ Some item
          → slice_get items number ≡ Some item
      at_number items item number place equal here = subst (λ number. slice_get items number ≡ Some item) (sym equal) here

      alike_at : (number : ℕ) (code its : Code Instr) → slice_get codes number ≡ Some code → slice_get again number ≡ Some its → IsAlike code its
      alike_at number code its here there =
          let found = zip_left IsAlike codes again number code alike here in
          subst (IsAlike code) (same_item (sym found.1 ∙ there)) found.2

      -- a function that goes astray, where none does by the other
      pub not_astray : (name : List ℕ) → IsFirst kit (KeepsGoals kit one) (IsAstray kit one) funcs codes (cause.N7 name)
          → All (KeepsGoals kit other) again → ⊥
      not_astray name first all =
          none_breaks (KeepsGoals kit one) (KeepsGoals kit other) (IsAstray kit one) (IsAstray kit other) (cause.N7 name) (cause.N7 name)
          (astray_kept one other same name) funcs twos codes again alike all first

      pub not_breach : (pos : Pos) (refusal : FlowNo)
          → IsFirst kit (KeepsRules kit one) (IsBreach kit one) funcs codes (cause.Flow pos refusal) → All (KeepsRules kit other) again → ⊥
      not_breach pos refusal first all =
          none_breaks (KeepsRules kit one) (KeepsRules kit other) (IsBreach kit one) (IsBreach kit other) (cause.Flow pos refusal)
          (cause.Flow pos refusal) (breach_kept one other same pos refusal) funcs twos codes again alike all first

      pub first_astray : (name called : List ℕ) → IsFirst kit (KeepsGoals kit one) (IsAstray kit one) funcs codes (cause.N7 name)
          → IsFirst kit (KeepsGoals kit other) (IsAstray kit other) twos again (cause.N7 called) → name ≡ called
      first_astray name called a b =
          let number : a.number ≡ b.number = same_number a.number b.number
          (not_before (KeepsGoals kit one) (KeepsGoals kit other) (IsAstray kit one) (IsAstray kit other) (cause.N7 name) (cause.N7 called)
          (astray_kept one other same name) funcs twos codes again alike a b)
          (not_before (KeepsGoals kit other) (KeepsGoals kit one) (IsAstray kit other) (IsAstray kit one) (cause.N7 called) (cause.N7 name)
          (astray_kept other one turn called) twos funcs again codes back b a) in
          let seen = seen_at funcs twos are a.number a.func b.func a.here (at_number twos b.func a.number b.number number b.here) in
          let code = alike_at a.number a.code b.code a.there (at_number again b.code a.number b.number number b.there) in
          one_astray a.func b.func seen a.code b.code code (record { placed = sym code.placed; depths = sym code.depths }) name called
          a.broken b.broken

      pub first_breach : (names : List Entry) (addresses : List (Meaning × ℕ)) (at : List ℕ) → AreCodes names addresses kit funcs at codes
          → (pos place : Pos) (refusal wide : FlowNo)
          → IsFirst kit (KeepsRules kit one) (IsBreach kit one) funcs codes (cause.Flow pos refusal)
          → IsFirst kit (KeepsRules kit other) (IsBreach kit other) twos again (cause.Flow place wide)
          → cause.Flow pos refusal ≡ cause.Flow place wide
      first_breach names addresses at codes_are pos place refusal wide a b =
          let number : a.number ≡ b.number = same_number a.number b.number
          (not_before (KeepsRules kit one) (KeepsRules kit other) (IsBreach kit one) (IsBreach kit other) (cause.Flow pos refusal)
          (cause.Flow place wide) (breach_kept one other same pos refusal) funcs twos codes again alike a b)
          (not_before (KeepsRules kit other) (KeepsRules kit one) (IsBreach kit other) (IsBreach kit one) (cause.Flow place wide)
          (cause.Flow pos refusal) (breach_kept other one turn place wide) twos funcs again codes back b a) in
          let seen = seen_at funcs twos are a.number a.func b.func a.here (at_number twos b.func a.number b.number number b.here) in
          let code = alike_at a.number a.code b.code a.there (at_number again b.code a.number b.number number b.there) in
          let is = codes_are.each a.number a.func a.code a.here a.there in
          one_breach a.func b.func seen a.code b.code code is.site is.placed pos place refusal wide a.broken b.broken
