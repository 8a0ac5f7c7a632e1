-- A function becomes one list of lines, or is refused at one place for one reason.
use Rattle.std.proofs.Common.{◌≡◌, ℕ, ◌+◌, List, [], ◌∷◌, ◌++◌, map, length, Bool, false, None, refl, sym, ap, ◌∙◌, subst, inl, inr}
use Rattle.goasm_base.specs.declared.pos.Pos.{Pos}
use Rattle.goasm_base.specs.declared.statement.Function.{Function}
use Rattle.goasm_base.specs.declared.statement.Stmt.{Stmt}
use Rattle.machine_effect.specs.declared.flow.Shape.{Shape}
use Rattle.asm_target.specs.declared.body.Body.{Body}
use Rattle.asm_target.specs.declared.frame.FrameShape.{FrameShape}
use Rattle.asm_target.specs.declared.frame.Guard.{Guard}
use Rattle.asm_target.specs.declared.frame.Site.{Site}
use Rattle.asm_target.specs.declared.refer.Picked.{Picked}
use Rattle.asm_target.specs.declared.select_no.SelectNo.{SelectNo}
use Rattle.asm_target.specs.declared.select_no.SelectNo.TheVariants as no
use Rattle.asm_target.specs.declared.sequence.Sequence.{Sequence}
use Rattle.asm_target.specs.InstructionSet.{InstructionSet}
use Rattle.asm_target.specs.Selection.{DiffersInNumbers, IsRefused, Selection}
use Rattle.stack_split.specs.FrameSizes.{is_checked}
use Rattle.obj_rewrite.specs.Laws.{IsSettled}
use Rattle.obj_rewrite.specs.Rewriting.{Code, IsStep, Refuses, Rewrites, Rules, line_of, rules_of, site_of}
use Rattle.obj_rewrite.specs.Rewritten.{IsRefusedAt, IsRewritten, IsUnwritten, IsWritten, appended, closing, opened}
use Rattle.obj_rewrite.specs.Words.{is_goal}

same_numbers : (stmt : Stmt) → DiffersInNumbers stmt stmt
same_numbers stmt = record { lock = refl; op = refl; suffix = refl; operands = refl }

-- what becomes instructions isn't refused
never_refused : {I : Type 0} (selection : Selection I)
    → ((stmt : Stmt) (site : Site) (code : List (Picked I)) → selection.becomes stmt site code → selection.knows stmt.op stmt.suffix)
    → (stmt : Stmt) (site : Site) (code : List (Picked I)) (why : SelectNo) → selection.becomes stmt site code
    → IsRefused selection stmt site why → ¬ (why ≡ no.Memory) → ⊥
never_refused selection known stmt site code no.S1 becomes refused real = refused (known stmt site code becomes)
never_refused selection known stmt site code no.S2 becomes refused real = refused.unselected (code, becomes)
never_refused selection known stmt site code no.S3 becomes refused real = refused.never (stmt, same_numbers stmt, (code, becomes))
never_refused selection known stmt site code no.S4 becomes refused real = refused.unselected (code, becomes)
never_refused selection known stmt site code no.Memory becomes refused real = real refl

-- two reasons are the same
one_reason : {I : Type 0} (selection : Selection I) (stmt : Stmt) (site : Site) (why other : SelectNo)
    → IsRefused selection stmt site why → IsRefused selection stmt site other → ¬ (why ≡ no.Memory) → ¬ (other ≡ no.Memory)
    → why ≡ other
one_reason selection stmt site no.Memory other a b real real' = absurd (real refl)
one_reason selection stmt site no.S1 no.Memory a b real real' = absurd (real' refl)
one_reason selection stmt site no.S2 no.Memory a b real real' = absurd (real' refl)
one_reason selection stmt site no.S3 no.Memory a b real real' = absurd (real' refl)
one_reason selection stmt site no.S4 no.Memory a b real real' = absurd (real' refl)
one_reason selection stmt site no.S1 no.S1 a b real real' = refl
one_reason selection stmt site no.S1 no.S2 a b real real' = absurd (a b.known)
one_reason selection stmt site no.S1 no.S3 a b real real' = absurd (a b.known)
one_reason selection stmt site no.S1 no.S4 a b real real' = absurd (a b.known)
one_reason selection stmt site no.S2 no.S1 a b real real' = absurd (b a.known)
one_reason selection stmt site no.S2 no.S2 a b real real' = refl
one_reason selection stmt site no.S2 no.S3 a b real real' = absurd (a.unnamed b.named)
one_reason selection stmt site no.S2 no.S4 a b real real' = absurd (a.unnamed b.named)
one_reason selection stmt site no.S3 no.S1 a b real real' = absurd (b a.known)
one_reason selection stmt site no.S3 no.S2 a b real real' = absurd (b.unnamed a.named)
one_reason selection stmt site no.S3 no.S3 a b real real' = refl
one_reason selection stmt site no.S3 no.S4 a b real real' = absurd (a.never b.could)
one_reason selection stmt site no.S4 no.S1 a b real real' = absurd (b a.known)
one_reason selection stmt site no.S4 no.S2 a b real real' = absurd (b.unnamed a.named)
one_reason selection stmt site no.S4 no.S3 a b real real' = absurd (b.never a.could)
one_reason selection stmt site no.S4 no.S4 a b real real' = refl

-- the rules of a target are settled
pub settled : {I : Type 0} (set : InstructionSet I) (shape : Shape) (begins : List I → Sequence) (selection : Selection I)
    (frame : FrameShape)
    → ((stmt : Stmt) (site : Site) (code other : List (Picked I))
    → selection.becomes stmt site code → selection.becomes stmt site other → code ≡ other)
    → ((stmt : Stmt) (site : Site) (code : List (Picked I)) → selection.becomes stmt site code → selection.knows stmt.op stmt.suffix)
    → IsSettled (rules_of set shape begins selection frame)
settled set shape begins selection frame single known = record {
  single = λ stmt depth picks others. single stmt (site_of depth frame) picks others;
  never = λ stmt depth picks why becomes refused.
      never_refused selection known stmt (site_of depth frame) picks why becomes refused.0 refused.1;
  one_reason = λ stmt depth why other a b. one_reason selection stmt (site_of depth frame) why other a.0 b.0 a.1 b.1;
}

module _ {I : Type 0} (rules : Rules I) (laws : IsSettled rules) where
  one_step : (goal : Bool) (stmt : Stmt) (number : ℕ) (before one other : Code I)
      → IsStep rules goal stmt number before one → IsStep rules goal stmt number before other → one ≡ other
  one_step goal stmt number before one other (picks, becomes, same) (picks', becomes', same') =
      let equal : picks ≡ picks' = laws.single stmt before.depth picks picks' becomes becomes' in
      same ∙ rw equal (sym same')

  module _ (goals : ℕ → Bool) where
    pub one_code : (stmts : List Stmt) (number : ℕ) (before one other : Code I)
        → Rewrites rules goals stmts number before one → Rewrites rules goals stmts number before other → one ≡ other
    one_code [] number before one other done done' = done ∙ sym done'
    one_code (stmt ∷ stmts) number before one other (between, step, rest) (between', step', rest') =
        let equal : between' ≡ between = one_step (goals number) stmt number before between' between step' step in
        one_code stmts (number + 1) between one other rest
        (subst (λ code. Rewrites rules goals stmts (number + 1) code other) equal rest')

    pub never_both : (stmts : List Stmt) (number : ℕ) (before after : Code I) (place : Pos) (why : SelectNo)
        → Rewrites rules goals stmts number before after → Refuses rules goals stmts number before place why → ⊥
    never_both [] number before after place why done none = none
    never_both (stmt ∷ stmts) number before after place why (between, (picks, becomes, same), rest) (inl refused) =
        laws.never stmt before.depth picks why becomes refused.0
    never_both (stmt ∷ stmts) number before after place why (between, step, rest) (inr (between', step', rest')) =
        let equal : between' ≡ between = one_step (goals number) stmt number before between' between step' step in
        never_both stmts (number + 1) between after place why rest
        (subst (λ code. Refuses rules goals stmts (number + 1) code place why) equal rest')

    pub one_place : (stmts : List Stmt) (number : ℕ) (before : Code I) (place place' : Pos) (why why' : SelectNo)
        → Refuses rules goals stmts number before place why → Refuses rules goals stmts number before place' why'
        → (place ≡ place') × (why ≡ why')
    one_place [] number before place place' why why' none other = absurd none
    one_place (stmt ∷ stmts) number before place place' why why' (inl a) (inl b) =
        (a.1 ∙ sym b.1, laws.one_reason stmt before.depth why why' a.0 b.0)
    one_place (stmt ∷ stmts) number before place place' why why' (inl a) (inr (between, (picks, becomes, same), rest)) =
        absurd (laws.never stmt before.depth picks why becomes a.0)
    one_place (stmt ∷ stmts) number before place place' why why' (inr (between, (picks, becomes, same), rest)) (inl b) =
        absurd (laws.never stmt before.depth picks why' becomes b.0)
    one_place (stmt ∷ stmts) number before place place' why why' (inr (between, step, rest)) (inr (between', step', rest')) =
        let equal : between' ≡ between = one_step (goals number) stmt number before between' between step' step in
        one_place stmts (number + 1) between place place' why why' rest
        (subst (λ code. Refuses rules goals stmts (number + 1) code place' why') equal rest')

module _ {I : Type 0} (rules : Rules I) (laws : IsSettled rules) (function : Function) where
  module _ (begun : Code I) where
    one_written : (one other : Code I) → IsWritten rules function begun one → IsWritten rules function begun other → one ≡ other
    one_written one other a b =
        let equal : b.before ≡ a.before = one_code rules laws (is_goal function.stmts) function.stmts 0 begun b.before a.before b.statements a.statements in
        one_code rules laws (λ number. false) (appended function) (length function.stmts) a.before one other a.jump
        (subst (λ code. Rewrites rules (λ number. false) (appended function) (length function.stmts) code other) equal b.jump)

    never_unwritten : (code : Code I) (place : Pos) (why : SelectNo) → IsWritten rules function begun code
        → IsUnwritten rules function begun place why → ⊥
    never_unwritten code place why a (inl refused) =
        never_both rules laws (is_goal function.stmts) function.stmts 0 begun a.before place why a.statements refused
    never_unwritten code place why a (inr (before, statements, refused)) =
        let equal : before ≡ a.before = one_code rules laws (is_goal function.stmts) function.stmts 0 begun before a.before statements a.statements in
        never_both rules laws (λ number. false) (appended function) (length function.stmts) a.before code place why a.jump
        (subst (λ start. Refuses rules (λ number. false) (appended function) (length function.stmts) start place why) equal refused)

    one_unwritten : (place place' : Pos) (why why' : SelectNo) → IsUnwritten rules function begun place why
        → IsUnwritten rules function begun place' why' → (place ≡ place') × (why ≡ why')
    one_unwritten place place' why why' (inl a) (inl b) =
        one_place rules laws (is_goal function.stmts) function.stmts 0 begun place place' why why' a b
    one_unwritten place place' why why' (inl a) (inr (before, statements, b)) =
        absurd (never_both rules laws (is_goal function.stmts) function.stmts 0 begun before place why statements a)
    one_unwritten place place' why why' (inr (before, statements, a)) (inl b) =
        absurd (never_both rules laws (is_goal function.stmts) function.stmts 0 begun before place' why' statements b)
    one_unwritten place place' why why' (inr (before, statements, a)) (inr (before', statements', b)) =
        let equal : before' ≡ before = one_code rules laws (is_goal function.stmts) function.stmts 0 begun before' before statements' statements in
        one_place rules laws (λ number. false) (appended function) (length function.stmts) before place place' why why' a
        (subst (λ start. Refuses rules (λ number. false) (appended function) (length function.stmts) start place' why') equal b)

  module _ (frame : FrameShape) (guard : Guard I) (entry : List I) where
    pub one_body : (one other : Body I) → IsRewritten rules function frame guard entry one
        → IsRewritten rules function frame guard entry other → (one.frame ≡ other.frame) × (one.code ≡ other.code)
    one_body one other a b =
        let equal : a.lines.code ≡ b.lines.code =
        one_written (opened rules function frame guard entry) a.lines.code b.lines.code a.lines.written b.lines.written in (
          a.same ∙ sym b.same,
          a.lines.whole
              ∙ ap (λ code. code.lines ++ map (λ pick. line_of pick function.pos 0 None) (closing (is_checked function frame) guard)) equal
              ∙ sym b.lines.whole,
        )

    pub never_refused_at : (body : Body I) (place : Pos) (why : SelectNo) → IsRewritten rules function frame guard entry body
        → ¬ IsRefusedAt rules function frame guard entry place why
    never_refused_at body place why a = λ refused.
        never_unwritten (opened rules function frame guard entry) a.lines.code place why a.lines.written refused.1

    pub one_refusal : (place place' : Pos) (why why' : SelectNo) → IsRefusedAt rules function frame guard entry place why
        → IsRefusedAt rules function frame guard entry place' why' → (place ≡ place') × (why ≡ why')
    one_refusal place place' why why' a b =
        one_unwritten (opened rules function frame guard entry) place place' why why' a.1 b.1
