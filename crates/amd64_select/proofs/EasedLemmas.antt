-- A statement becomes instructions with some other numbers exactly where it does with eased ones.
use Rattle.std.specs.Prelude.{map, if◌then◌else◌}
use Rattle.std.proofs.Common.{◌≡◌, ◌⊎◌, ℕ, zero, ℤ, pos, ◌+ℤ◌, ◌-ℤ◌, ◌+◌, Bool, true, false, List, [], ◌∷◌, Option, Some, None, refl, sym, ◌∙◌, ap, subst, arith, inl, inr}
use Rattle.std.proofs.lemmas.Int.{ints}
use Rattle.goasm_base.specs.declared.statement.Operand.{Operand}
use Rattle.goasm_base.specs.declared.statement.Operand.TheVariants as written
use Rattle.goasm_base.specs.declared.statement.Stmt.{Stmt}
use Rattle.asm_target.specs.declared.frame.Site.{Site}
use Rattle.asm_target.specs.declared.refer.Picked.{Picked}
use Rattle.asm_target.specs.Selection.{CouldBe, IsSelected, without_numbers}
use Rattle.amd64_table.specs.declared.reg.Reg.TheVariants.{Sp}
use Rattle.amd64_table.specs.declared.memory.Mem.TheVariants as memory
use Rattle.amd64_table.specs.declared.memory.Scale.TheVariants.{One}
use Rattle.amd64_table.specs.declared.operand.Operand.TheVariants as operand
use Rattle.amd64_table.specs.declared.instr.Instr.{Instr}
use Rattle.amd64_table.specs.Operands.{factor_of}
use Rattle.amd64_forms.specs.declared.rows.Spoken.{Spoken}
use Rattle.amd64_forms.specs.declared.rows.Spoken.TheVariants as spoken
use Rattle.amd64_forms.specs.declared.rows.Resolved.{Resolved}
use Rattle.amd64_forms.specs.declared.rows.Resolved.TheVariants.{Plain}
use Rattle.amd64_forms.specs.Rows.{Becomes as BecomesOne, stands}
use Rattle.amd64_forms.specs.Words.{Says}
use Rattle.amd64_forms.proofs.Zero.{becomes-zero, zero_option, zero_resolved}
use Rattle.amd64_select.specs.Operands.{IsBased, IsIndexed, IsPlaced, IsRegister, Resolves, arguments_at, eased, goes_to_symbols, locals_at, place, symbol, taken}
use Rattle.amd64_select.specs.Selecting.{Becomes, BecomesBy, Picks, ResolveAll, code_of, refers, selection}
use Rattle.amd64_select.specs.SelectLaws.{says_one}

eased_numbers : (site : Site) (op : Operand) → without_numbers (taken true site op) ≡ without_numbers op
eased_numbers site (written.Mem off base None) = refl
eased_numbers site (written.Mem off base (Some index)) = refl
eased_numbers site op = refl

eased_by : (site : Site) (op : Operand) → taken true site op ≡ taken true site (without_numbers op)
eased_by site (written.Mem off base None) = refl
eased_by site (written.Mem off base (Some index)) = refl
eased_by site op = refl

all_numbers : (site : Site) (ops : List Operand) → map without_numbers (map (taken true site) ops) ≡ map without_numbers ops
all_numbers site [] = refl
all_numbers site (op ∷ ops) = cc (eased_numbers site op, all_numbers site ops)

all_by : (site : Site) (ops : List Operand) → map (taken true site) ops ≡ map (taken true site) (map without_numbers ops)
all_by site [] = refl
all_by site (op ∷ ops) = cc (eased_by site op, all_by site ops)

all_eased : (site : Site) (ops others : List Operand) → map without_numbers ops ≡ map without_numbers others
    → map (taken true site) ops ≡ map (taken true site) others
all_eased site ops others same = all_by site ops ∙ ap (map (taken true site)) same ∙ sym (all_by site others)

pub cancels : (z : ℤ) → z +ℤ (pos 0 -ℤ z) ≡ pos 0
cancels z = omega (arith, ints)

zero_symbol : (s : Spoken) (address : Bool) → zero_resolved (symbol s address) ≡ symbol s address
zero_symbol s true = refl
zero_symbol s false = by (goes_to_symbols s)
  where
    by : (goes : Bool) → zero_resolved (if goes then Plain (operand.Goal (pos 0)) else Plain (operand.Mem (memory.Symbol (pos 0))))
        ≡ (if goes then Plain (operand.Goal (pos 0)) else Plain (operand.Mem (memory.Symbol (pos 0))))
    by true = refl
    by false = refl

zero_place : (address : Bool) (disp : ℤ) → zero_resolved (place address (memory.Base Sp disp)) ≡ place address (memory.Base Sp (pos 0))
zero_place true disp = refl
zero_place false disp = refl

on_stack : (address : Bool) (at off : ℤ) (x : Resolved) → IsPlaced address Sp (at +ℤ off) x
    → IsPlaced address Sp (at +ℤ (pos 0 -ℤ at)) (zero_resolved x)
on_stack address at off x placed =
    subst (λ (disp : ℤ). IsPlaced address Sp disp (zero_resolved x)) (sym (cancels at))
    (refl, ap zero_resolved placed.1 ∙ zero_place address (at +ℤ off))

register_zero : (text : List ℕ) (x : Resolved) → IsRegister text x → IsRegister text (zero_resolved x)
unfolding IsRegister
register_zero text x (inl reg) = inl (reg.0, reg.1, ap zero_resolved reg.2)
register_zero text x (inr xmm) = inr (xmm.0, xmm.1, ap zero_resolved xmm.2)

based_zero : (off : ℤ) (base : List ℕ) (x : Resolved) → IsBased off base x → IsBased (pos 0) base (zero_resolved x)
unfolding IsBased
based_zero off base x (inl reg) = inl (reg.0, reg.1, (refl, ap zero_resolved reg.2.1))
based_zero off base x (inr tls) = inr (tls.0, refl, ap zero_resolved tls.2)

indexed_zero : (off : ℤ) (base index : List ℕ) (factor : ℕ) (x : Resolved) → IsIndexed off base index factor x
    → IsIndexed (pos 0) base index 1 (zero_resolved x)
unfolding factor_of
indexed_zero off base index factor x is = record {
  reg = is.reg;
  second = is.second;
  scale = One;
  base_named = is.base_named;
  index_named = is.index_named;
  scaled = refl;
  fit = refl;
  is = ap zero_resolved is.is;
}

resolves_zero : (s : Spoken) (site : Site) (op : Operand) (x : Resolved) → Resolves s site op x
    → Resolves s site (taken true site op) (zero_resolved x)
unfolding Resolves
resolves_zero s site (written.Imm value) x is = ap zero_resolved is
resolves_zero s site (written.Word text) x is = register_zero text x is
resolves_zero s site (written.Mem off base None) x is = based_zero off base x is
resolves_zero s site (written.Mem off base (Some index)) x is = indexed_zero off base index.0 index.1 x is
resolves_zero s site (written.Sym number off address) x is = ap zero_resolved is ∙ zero_symbol s address
resolves_zero s site (written.Arg text off address) x is = on_stack address (arguments_at site) off x is
resolves_zero s site (written.Auto off address) x is = on_stack address (locals_at site) off x is
resolves_zero s site (written.Label statement) x is = ap zero_resolved is
resolves_zero s site (written.Pair first second) x is = absurd is
resolves_zero s site (written.Shifted reg kind amount) x is = absurd is

all_zero : (s : Spoken) (site : Site) (ops : List Operand) (a b : Option Resolved) → ResolveAll s site ops a b
    → ResolveAll s site (map (taken true site) ops) (zero_option a) (zero_option b)
all_zero s site [] a b all = (ap zero_option all.0, ap zero_option all.1)
all_zero s site (op ∷ []) a b all =
    (zero_resolved all.0, resolves_zero s site op all.0 all.1, ap zero_option all.2, ap zero_option all.3)
all_zero s site (op ∷ other ∷ []) a b all = (
  zero_resolved all.0,
  zero_resolved all.1,
  resolves_zero s site op all.0 all.2,
  resolves_zero s site other all.1 all.3,
  ap zero_option all.4,
  ap zero_option all.5,
)
all_zero s site (op ∷ other ∷ third ∷ more) a b all = absurd all

picks_zero : (s : Spoken) (lock : Bool) (site : Site) (ops : List Operand) (i : Instr) → Picks s lock site ops i
    → (j : Instr) × Picks s lock site (map (taken true site) ops) j
picks_zero s lock site ops i picks =
    let zero = becomes-zero s lock picks.first picks.second i picks.becomes in (
      zero.0,
      record {
        first = zero_option picks.first;
        second = zero_option picks.second;
        resolved = all_zero s site ops picks.first picks.second picks.resolved;
        becomes = zero.1;
      },
    )

pub picks_nothing : (lock : Bool) (site : Site) (ops : List Operand) (i : Instr) → Picks spoken.Nothing lock site ops i → ⊥
unfolding BecomesOne stands
picks_nothing lock site ops i picks = picks.becomes

-- a statement for which an instruction is picked becomes it
becomes_picked : (s : Spoken) (stmt : Stmt) (site : Site) (i : Instr) → Picks s stmt.lock site stmt.operands i
    → (code : List (Picked Instr)) × BecomesBy s stmt site code
becomes_picked spoken.Nothing stmt site i picks = absurd (picks_nothing stmt.lock site stmt.operands i picks)
becomes_picked (spoken.Listed m) stmt site i picks = (code_of i (refers stmt.operands) site.frame, (i, picks, refl))
becomes_picked spoken.Widen stmt site i picks = (code_of i (refers stmt.operands) site.frame, (i, picks, refl))
becomes_picked (spoken.ToLabel code) stmt site i picks = (code_of i (refers stmt.operands) site.frame, (i, picks, refl))
becomes_picked (spoken.Direct near) stmt site i picks = (code_of i (refers stmt.operands) site.frame, (i, picks, refl))
becomes_picked spoken.Adjust stmt site i picks = (code_of i (refers stmt.operands) site.frame, (i, picks, refl))

pub could_by : (s : Spoken) (stmt : Stmt) (site : Site) (i : Instr) → stmt.suffix ≡ None → Says stmt.op s
    → Picks s stmt.lock site (map (taken true site) stmt.operands) i → CouldBe selection stmt site
could_by s stmt site i plain says picks =
    let other : Stmt = record stmt { operands = map (taken true site) stmt.operands } in
    let becomes = becomes_picked s other site i picks in (
      other,
      record { lock = refl; op = refl; suffix = refl; operands = sym (all_numbers site stmt.operands) },
      (becomes.0, record { plain = plain; spoken = s; says = says; by = becomes.1 }),
    )

-- and what it becomes is nothing, or such an instruction
pub picked_by : (s : Spoken) (stmt : Stmt) (site : Site) (code : List (Picked Instr)) → BecomesBy s stmt site code
    → ((s ≡ spoken.Nothing) × (stmt.lock ≡ false)) ⊎ ((i : Instr) × Picks s stmt.lock site stmt.operands i)
picked_by spoken.Nothing stmt site code by = inl (refl, by.0)
picked_by (spoken.Listed m) stmt site code by = inr (by.0, by.1)
picked_by spoken.Widen stmt site code by = inr (by.0, by.1)
picked_by (spoken.ToLabel at) stmt site code by = inr (by.0, by.1)
picked_by (spoken.Direct near) stmt site code by = inr (by.0, by.1)
picked_by spoken.Adjust stmt site code by = inr (by.0, by.1)

pub nothing_selected : (stmt : Stmt) (site : Site) → stmt.suffix ≡ None → Says stmt.op spoken.Nothing → stmt.lock ≡ false
    → Becomes stmt site []
nothing_selected stmt site plain says lock = record { plain = plain; spoken = spoken.Nothing; says = says; by = (lock, refl) }

pub could_only : (s : Spoken) (stmt : Stmt) (site : Site) → stmt.suffix ≡ None → Says stmt.op s → ¬ IsSelected selection stmt site
    → CouldBe selection stmt site → (j : Instr) × Picks s stmt.lock site (map (taken true site) stmt.operands) j
could_only s stmt site plain says unselected could =
    let other : Stmt = could.0 in
    let differs = could.1 in
    let becomes = could.2.1 in
    let same : becomes.spoken ≡ s =
    says_one stmt.op becomes.spoken s (subst (λ (op : List ℕ). Says op becomes.spoken) (sym differs.op) becomes.says) says in
    let by = subst (λ (t : Spoken). BecomesBy t other site could.2.0) same becomes.by in
    elim (picked_by s other site could.2.0 by) as (λ _. (j : Instr) × Picks s stmt.lock site (map (taken true site) stmt.operands) j) [
      | inl nothing ↦ absurd (unselected ([], nothing_selected stmt site plain (subst (Says stmt.op) nothing.0 says) (differs.lock ∙ nothing.1)))
      | inr found ↦
          (let zero = picks_zero s other.lock site other.operands found.0 found.1 in (
            zero.0,
            subst (λ (lock : Bool). Picks s lock site (map (taken true site) stmt.operands) zero.0) (sym differs.lock)
                (subst (λ (ops : List Operand). Picks s other.lock site ops zero.0) (sym (all_eased site stmt.operands other.operands differs.operands)) zero.1),
          ))
    ]
