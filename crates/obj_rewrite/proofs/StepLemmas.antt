-- One statement more.
use Rattle.std.proofs.Common.{◌≡◌, ℕ, Bool, false, ◌+◌, ◌<◌, ◌≤◌, List, [], ◌∷◌, ◌++◌, map, drop, length, get_or, Some, Result, Ok, Err, refl, sym, ap, ◌∙◌, subst, inl, inr, append_assoc, arith}
use Rattle.std.specs.List.{slice_get}
use Rattle.std.specs.Result.{OnOk}
use Rattle.goasm_base.specs.declared.pos.Pos.{Pos}
use Rattle.goasm_base.specs.declared.statement.Stmt.{Stmt}
use Rattle.asm_target.specs.declared.select_no.SelectNo.{SelectNo}
use Rattle.obj_rewrite.specs.Rewriting.{Code, IsStep, Refuses, Rewrites, Rules}
use Rattle.obj_rewrite.specs.Words.{is_goal}
use Rattle.obj_rewrite.proofs.DraftLemmas.{from_here, from_place}

module _ {I : Type 0} (rules : Rules I) (goals : ℕ → Bool) (stmts : List Stmt) (number : ℕ) (stmt : Stmt) where
  -- the statement at this number is refused
  pub refused_here : (before : Code I) (place : Pos) (why : SelectNo) → number < length stmts → stmt ≡ get_or stmts number stmt
      → rules.refuses stmt before.depth why × (place ≡ stmt.pos)
      → Refuses rules goals (drop number stmts) number before place why
  refused_here before place why inside same refused =
      subst (λ rest. Refuses rules goals rest number before place why) (sym (from_here stmts number stmt inside same)) (inl refused)

  -- it becomes instructions, and then come the others
  pub steps_on : (before between after : Code I) → number < length stmts → stmt ≡ get_or stmts number stmt
      → IsStep rules (goals number) stmt number before between
      → Rewrites rules goals (drop (number + 1) stmts) (number + 1) between after
      → Rewrites rules goals (drop number stmts) number before after
  steps_on before between after inside same step rest =
      subst (λ rest. Rewrites rules goals rest number before after) (sym (from_here stmts number stmt inside same))
      (between, step, rest)

  pub refused_later : (before between : Code I) (place : Pos) (why : SelectNo) → number < length stmts → stmt ≡ get_or stmts number stmt
      → IsStep rules (goals number) stmt number before between
      → Refuses rules goals (drop (number + 1) stmts) (number + 1) between place why
      → Refuses rules goals (drop number stmts) number before place why
  refused_later before between place why inside same step rest =
      subst (λ rest. Refuses rules goals rest number before place why) (sym (from_here stmts number stmt inside same))
      (inr (between, step, rest))

module _ {I : Type 0} (rules : Rules I) (goals others : ℕ → Bool) where
  -- only the goals among the statements matter
  pub other_goals : (stmts : List Stmt) (number : ℕ) (before after : Code I)
      → ((k : ℕ) → number ≤ k → k < number + length stmts → goals k ≡ others k)
      → Rewrites rules goals stmts number before after → Rewrites rules others stmts number before after
  other_goals [] number before after same done = done
  other_goals (stmt ∷ stmts) number before after same (between, step, rest) = (
    between,
    subst (λ goal. IsStep rules goal stmt number before between) (same number (omega arith) (omega arith)) step,
    other_goals stmts (number + 1) between after (λ k from within. same k (omega arith) (omega arith)) rest,
  )

  pub other_goals_refused : (stmts : List Stmt) (number : ℕ) (before : Code I) (place : Pos) (why : SelectNo)
      → ((k : ℕ) → number ≤ k → k < number + length stmts → goals k ≡ others k)
      → Refuses rules goals stmts number before place why → Refuses rules others stmts number before place why
  other_goals_refused [] number before place why same none = none
  other_goals_refused (stmt ∷ stmts) number before place why same (inl here) = inl here
  other_goals_refused (stmt ∷ stmts) number before place why same (inr (between, step, rest)) = inr (
    between,
    subst (λ goal. IsStep rules goal stmt number before between) (same number (omega arith) (omega arith)) step,
    other_goals_refused stmts (number + 1) between place why (λ k from within. same k (omega arith) (omega arith)) rest,
  )

module _ {I : Type 0} (rules : Rules I) (marks items : List Bool) (slice stmts : List Stmt) (before : Code I) where
  -- marks on a function's statements stand for the goals among them
  pub as_goals : (after : Code I) → marks ≡ items → slice ≡ stmts
      → ((number : ℕ) → number < length slice → get_or items number false ≡ is_goal slice number)
      → Rewrites rules (λ number. get_or marks number false) slice 0 before after
      → Rewrites rules (is_goal stmts) stmts 0 before after
  as_goals after same there each rewrites =
      subst (λ list. Rewrites rules (is_goal list) list 0 before after) there
      (other_goals rules (λ number. get_or marks number false) (is_goal slice) slice 0 before after
      (λ k from within. ap (λ list. get_or list k false) same ∙ each k (omega arith)) rewrites)

  pub as_goals_refused : (place : Pos) (why : SelectNo) → marks ≡ items → slice ≡ stmts
      → ((number : ℕ) → number < length slice → get_or items number false ≡ is_goal slice number)
      → Refuses rules (λ number. get_or marks number false) slice 0 before place why
      → Refuses rules (is_goal stmts) stmts 0 before place why
  as_goals_refused place why same there each refused =
      subst (λ list. Refuses rules (is_goal list) list 0 before place why) there
      (other_goals_refused rules (λ number. get_or marks number false) (is_goal slice) slice 0 before place why
      (λ k from within. ap (λ list. get_or list k false) same ∙ each k (omega arith)) refused)

-- what follows from a fact follows where there is a value
pub on_ok : {X E : Type 0} {P Q : Type 0} (r : Result X E) → (P → Q) → OnOk r P → OnOk r Q
on_ok (Ok x) follows there = follows there
on_ok (Err e) follows none = tt

-- a line more of the block
pub pushed : {X Y : Type 0} (f : X → Y) (lines new all : List Y) (block : List X) (number : ℕ) (item : X)
    → slice_get block number ≡ Some item → new ≡ lines ++ f item ∷ [] → lines ++ map f (drop number block) ≡ all
    → new ++ map f (drop (number + 1) block) ≡ all
pushed f lines new all block number item there more same =
    let rest = map f (drop (number + 1) block) in
    let moved : (lines ++ f item ∷ []) ++ rest ≡ lines ++ (f item ∷ rest) = rw append_assoc refl in
    ap (λ list. list ++ rest) more ∙ moved ∙ sym (ap (λ list. lines ++ map f list) (from_place block number item there)) ∙ same
