-- The laws of selection, for amd64.
use Rattle.std.specs.Prelude.{◌⊎◌, ◌||◌, ◌==◌, All, map, if◌then◌else◌}
use Rattle.std.specs.List.{flat_map}
use Rattle.std.proofs.Common.{◌≡◌, ℕ, ℤ, pos, ◌+ℤ◌, ◌+◌, ◌*◌, ◌<◌, ◌≤◌, Bool, true, false, List, [], ◌∷◌, ◌++◌, length, get_or, Option, Some, None, refl, sym, ◌∙◌, ap, subst, arith, rules, inl, inr}
use Rattle.std.proofs.lemmas.List.{length-append, length-map}
use Rattle.std.proofs.lemmas.List.Elements.{All-append, All-cons, All-head, All-nil, All-tail}
use Rattle.std.proofs.lemmas.Grind.{flat_map-append}
use Rattle.goasm_base.specs.declared.statement.Operand.{Operand}
use Rattle.goasm_base.specs.declared.statement.Operand.TheVariants as written
use Rattle.goasm_base.specs.declared.statement.Stmt.{Stmt}
use Rattle.asm_target.specs.declared.frame.FrameShape.{FrameShape}
use Rattle.asm_target.specs.declared.frame.Site.{Site}
use Rattle.asm_target.specs.declared.refer.Part.TheVariants.{Whole}
use Rattle.asm_target.specs.declared.refer.Picked.{Picked}
use Rattle.asm_target.specs.declared.refer.Refer.{Refer}
use Rattle.asm_target.specs.declared.refer.To.{To}
use Rattle.asm_target.specs.declared.refer.To.TheVariants as to
use Rattle.asm_target.specs.Aiming as aim
use Rattle.asm_target.specs.Frames.{IsFrame}
use Rattle.asm_target.specs.References.{IsEnd, IsNamed, Names, RefersTo}
use Rattle.amd64_table.specs.declared.reg.Reg.{Reg}
use Rattle.amd64_table.specs.declared.xmm.Xmm.{Xmm}
use Rattle.amd64_table.specs.declared.memory.Mem.TheVariants as memory
use Rattle.amd64_table.specs.declared.memory.Scale.{Scale}
use Rattle.amd64_table.specs.declared.operand.Operand.TheVariants as operand
use Rattle.amd64_table.specs.declared.op.Plain.TheVariants as plain
use Rattle.amd64_table.specs.declared.instr.Instr.{Instr}
use Rattle.amd64_table.specs.declared.instr.Instr.TheVariants as instr
use Rattle.amd64_table.specs.Operands.{factor_of}
use Rattle.amd64_code.specs.InstructionSet.{amd64, Fits}
use Rattle.amd64_code.specs.Spelling.{spelling_of}
use Rattle.amd64_code.proofs.LengthLaws.{bounded}
use Rattle.amd64_forms.specs.declared.alias.Alias.{Alias}
use Rattle.amd64_forms.specs.declared.alias.Alias.TheVariants as alias
use Rattle.amd64_forms.specs.declared.rows.Spoken.{Spoken}
use Rattle.amd64_forms.specs.declared.rows.Spoken.TheVariants as spoken
use Rattle.amd64_forms.specs.declared.rows.Resolved.{Resolved}
use Rattle.amd64_forms.specs.declared.rows.Resolved.TheVariants.{Plain}
use Rattle.amd64_forms.specs.Aiming.{forms_of, long_of}
use Rattle.amd64_forms.specs.Names.{alias_text}
use Rattle.amd64_forms.specs.Rows.{Becomes as BecomesOne, meaning_of}
use Rattle.amd64_forms.specs.Words.{Says}
use Rattle.amd64_forms.proofs.Apart.{regs_apart, xmms_apart, reg_no_xmm, reg_no_tls, aliases_apart}
use Rattle.amd64_forms.proofs.NamesApart.{mnemonics_apart, mnemonic_no_alias}
use Rattle.amd64_forms.proofs.Told.{becomes_one}
use Rattle.amd64_forms.proofs.Held.{becomes_listed, becomes_directed, holds_address}
use Rattle.amd64_select.specs.Aims.{aiming}
use Rattle.amd64_select.specs.FrameLaws.{fits_exit, few_left}
use Rattle.amd64_select.specs.Operands.{Resolves, IsPlaced, IsRegister, IsBased, IsIndexed, refer_of, goes_to_symbols}
use Rattle.amd64_select.specs.Selecting.{Becomes, BecomesBy, Knows, Picks, ResolveAll, alone, before, code_of, first_refer, refers, selection}

-- a name says one thing
pub says_one : (text : List ℕ) (s t : Spoken) → Says text s → Says text t → s ≡ t
unfolding Says
says_one text s t (inl one) (inl other) =
    one.2 ∙ ap spoken.Listed (mnemonics_apart one.0 other.0 (one.1 ∙ sym other.1)) ∙ sym other.2
says_one text s t (inl one) (inr other) = absurd (mnemonic_no_alias one.0 other.0 (one.1 ∙ sym other.1))
says_one text s t (inr one) (inl other) = absurd (mnemonic_no_alias other.0 one.0 (other.1 ∙ sym one.1))
says_one text s t (inr one) (inr other) =
    one.2 ∙ ap meaning_of (aliases_apart one.0 other.0 (one.1 ∙ sym other.1)) ∙ sym other.2

scales_apart : (one other : Scale) → factor_of one ≡ factor_of other → one ≡ other
unfolding factor_of
scales_apart = search rules

placed_one : (address : Bool) (reg other : Reg) (disp : ℤ) (x y : Resolved) → reg ≡ other → IsPlaced address reg disp x
    → IsPlaced address other disp y → x ≡ y
placed_one address reg other disp x y same one two = cc

register_one : (text : List ℕ) (x y : Resolved) → IsRegister text x → IsRegister text y → x ≡ y
unfolding IsRegister
register_one text x y (inl one) (inl two) =
    one.2 ∙ ap (λ (reg : Reg). Plain (operand.Reg reg)) (regs_apart one.0 two.0 (one.1 ∙ sym two.1)) ∙ sym two.2
register_one text x y (inl one) (inr two) = absurd (reg_no_xmm one.0 two.0 (one.1 ∙ sym two.1))
register_one text x y (inr one) (inl two) = absurd (reg_no_xmm two.0 one.0 (two.1 ∙ sym one.1))
register_one text x y (inr one) (inr two) =
    one.2 ∙ ap (λ (xmm : Xmm). Plain (operand.Wide xmm)) (xmms_apart one.0 two.0 (one.1 ∙ sym two.1)) ∙ sym two.2

based_one : (off : ℤ) (base : List ℕ) (x y : Resolved) → IsBased off base x → IsBased off base y → x ≡ y
unfolding IsBased
based_one off base x y (inl one) (inl two) =
    placed_one false one.0 two.0 off x y (regs_apart one.0 two.0 (one.1 ∙ sym two.1)) one.2 two.2
based_one off base x y (inl one) (inr two) = absurd (reg_no_tls one.0 (one.1 ∙ two.0))
based_one off base x y (inr one) (inl two) = absurd (reg_no_tls two.0 (two.1 ∙ one.0))
based_one off base x y (inr one) (inr two) = one.2 ∙ sym two.2

indexed_one : (off : ℤ) (base index : List ℕ) (factor : ℕ) (x y : Resolved) → IsIndexed off base index factor x
    → IsIndexed off base index factor y → x ≡ y
indexed_one off base index factor x y one two =
    let regs = regs_apart one.reg two.reg (one.base_named ∙ sym two.base_named) in
    let indices = regs_apart one.second two.second (one.index_named ∙ sym two.index_named) in
    let scales = scales_apart one.scale two.scale (one.scaled ∙ sym two.scaled) in
    cc (one.is, two.is, regs, indices, scales)

-- an operand is one thing
pub resolves_one : (s : Spoken) (site : Site) (op : Operand) (x y : Resolved) → Resolves s site op x → Resolves s site op y
    → x ≡ y
unfolding Resolves
resolves_one s site (written.Imm value) x y one two = one ∙ sym two
resolves_one s site (written.Word text) x y one two = register_one text x y one two
resolves_one s site (written.Mem off base None) x y one two = based_one off base x y one two
resolves_one s site (written.Mem off base (Some index)) x y one two = indexed_one off base index.0 index.1 x y one two
resolves_one s site (written.Sym sym' off address) x y one two = one ∙ sym two
resolves_one s site (written.Arg text off address) x y one two = placed_one address _ _ _ x y refl one two
resolves_one s site (written.Auto off address) x y one two = placed_one address _ _ _ x y refl one two
resolves_one s site (written.Label statement) x y one two = one ∙ sym two
resolves_one s site (written.Pair first second) x y one two = absurd one
resolves_one s site (written.Shifted reg kind amount) x y one two = absurd one

pub record AreSame (a b c d : Option Resolved) : Type 0 where
  pub first : a ≡ c
  pub second : b ≡ d

pub all_one : (s : Spoken) (site : Site) (ops : List Operand) (a b c d : Option Resolved) → ResolveAll s site ops a b
    → ResolveAll s site ops c d → AreSame a b c d
all_one s site [] a b c d one two = record { first = one.0 ∙ sym two.0; second = one.1 ∙ sym two.1 }
all_one s site (op ∷ []) a b c d one two = record {
  first = one.2 ∙ ap (λ (x : Resolved). Some x) (resolves_one s site op one.0 two.0 one.1 two.1) ∙ sym two.2;
  second = one.3 ∙ sym two.3;
}
all_one s site (op ∷ other ∷ []) a b c d one two = record {
  first = one.4 ∙ ap (λ (x : Resolved). Some x) (resolves_one s site op one.0 two.0 one.2 two.2) ∙ sym two.4;
  second = one.5 ∙ ap (λ (x : Resolved). Some x) (resolves_one s site other one.1 two.1 one.3 two.3) ∙ sym two.5;
}
all_one s site (op ∷ other ∷ third ∷ more) a b c d one two = absurd one

pub picks_one : (s : Spoken) (lock : Bool) (site : Site) (ops : List Operand) (i j : Instr) → Picks s lock site ops i
    → Picks s lock site ops j → i ≡ j
picks_one s lock site ops i j one two =
    let same = all_one s site ops one.first one.second two.first two.second one.resolved two.resolved in
    let moved = subst (λ (b : Option Resolved). BecomesOne s lock two.first b i) same.second
    (subst (λ (a : Option Resolved). BecomesOne s lock a one.second i) same.first one.becomes) in
    becomes_one s lock two.first two.second i j moved two.becomes

by_one : (s : Spoken) (stmt : Stmt) (site : Site) (code other : List (Picked Instr)) → BecomesBy s stmt site code
    → BecomesBy s stmt site other → code ≡ other
by_one spoken.Nothing stmt site code other one two = one.1 ∙ sym two.1
by_one (spoken.Listed m) stmt site code other one two =
    one.2 ∙ ap (λ (i : Instr). code_of i (refers stmt.operands) site.frame) (picks_one _ stmt.lock site stmt.operands one.0 two.0 one.1 two.1) ∙ sym two.2
by_one spoken.Widen stmt site code other one two =
    one.2 ∙ ap (λ (i : Instr). code_of i (refers stmt.operands) site.frame) (picks_one _ stmt.lock site stmt.operands one.0 two.0 one.1 two.1) ∙ sym two.2
by_one (spoken.ToLabel cc') stmt site code other one two =
    one.2 ∙ ap (λ (i : Instr). code_of i (refers stmt.operands) site.frame) (picks_one _ stmt.lock site stmt.operands one.0 two.0 one.1 two.1) ∙ sym two.2
by_one (spoken.Direct near) stmt site code other one two =
    one.2 ∙ ap (λ (i : Instr). code_of i (refers stmt.operands) site.frame) (picks_one _ stmt.lock site stmt.operands one.0 two.0 one.1 two.1) ∙ sym two.2
by_one spoken.Adjust stmt site code other one two =
    one.2 ∙ ap (λ (i : Instr). code_of i (refers stmt.operands) site.frame) (picks_one _ stmt.lock site stmt.operands one.0 two.0 one.1 two.1) ∙ sym two.2

pub single : (stmt : Stmt) (site : Site) (code other : List (Picked Instr)) → Becomes stmt site code → Becomes stmt site other
    → code ≡ other
single stmt site code other one two =
    let same = says_one stmt.op one.spoken two.spoken one.says two.says in
    by_one two.spoken stmt site code other (subst (λ (s : Spoken). BecomesBy s stmt site code) same one.by) two.by

pub known : (stmt : Stmt) (site : Site) (code : List (Picked Instr)) → Becomes stmt site code → Knows stmt.op stmt.suffix
known stmt site code becomes = (becomes.plain, (becomes.spoken, becomes.says))

-- What is picked: nothing, or an instruction behind those that leave the frame

pub data Kind (stmt : Stmt) (site : Site) (code : List (Picked Instr)) : Type 0 where
  none : code ≡ [] → Kind stmt site code
  some : (s : Spoken) (i : Instr) → Picks s stmt.lock site stmt.operands i → code ≡ code_of i (refers stmt.operands) site.frame → Kind stmt site code

kind_by : (s : Spoken) (stmt : Stmt) (site : Site) (code : List (Picked Instr)) → BecomesBy s stmt site code → Kind stmt site code
kind_by spoken.Nothing stmt site code by = none by.1
kind_by (spoken.Listed m) stmt site code by = some _ by.0 by.1 by.2
kind_by spoken.Widen stmt site code by = some _ by.0 by.1 by.2
kind_by (spoken.ToLabel cc') stmt site code by = some _ by.0 by.1 by.2
kind_by (spoken.Direct near) stmt site code by = some _ by.0 by.1 by.2
kind_by spoken.Adjust stmt site code by = some _ by.0 by.1 by.2

-- an operand that refers to something holds its address
refers_held : (s : Spoken) (site : Site) (op : Operand) (x : Resolved) (refer : Refer) → Resolves s site op x
    → refer_of op ≡ Some refer → holds_address (Some x) ≡ true
unfolding Resolves
refers_held s site (written.Sym sym' off true) x refer resolved is = ap (λ (x : Resolved). holds_address (Some x)) resolved
refers_held s site (written.Sym sym' off false) x refer resolved is = ap (λ (x : Resolved). holds_address (Some x)) resolved ∙ by (goes_to_symbols s)
  where
    by : (goes : Bool) → holds_address (Some (if goes then Plain (operand.Goal (pos 0)) else Plain (operand.Mem (memory.Symbol (pos 0))))) ≡ true
    by true = refl
    by false = refl
refers_held s site (written.Label statement) x refer resolved is = ap (λ (x : Resolved). holds_address (Some x)) resolved
refers_held s site _ x refer resolved is = absurd (cc)

-- so does one of all operands
refers_some : (s : Spoken) (site : Site) (ops : List Operand) (a b : Option Resolved) (refer : Refer) → ResolveAll s site ops a b
    → refers ops ≡ Some refer → (holds_address a || holds_address b) ≡ true
refers_some s site [] a b refer all is = absurd (cc)
refers_some s site (op ∷ []) a b refer all is = rw (all.2) (by (refer_of op) refl is)
  where
    by : (r : Option Refer) → refer_of op ≡ r → first_refer r None ≡ Some refer → (holds_address (Some all.0) || holds_address b) ≡ true
    by None at is = absurd (cc)
    by (Some r) at is = rw (refers_held s site op all.0 r all.1 at) refl
refers_some s site (op ∷ other ∷ []) a b refer all is = rw (all.4, all.5) (by (refer_of op) (refer_of other) refl refl is)
  where
    by : (r t : Option Refer) → refer_of op ≡ r → refer_of other ≡ t → first_refer r (first_refer t None) ≡ Some refer
        → (holds_address (Some all.0) || holds_address (Some all.1)) ≡ true
    by None None at there is = absurd (cc)
    by None (Some t) at there is = rw (refers_held s site other all.1 t all.3 there) (search rules)
    by (Some r) t at there is = rw (refers_held s site op all.0 r all.2 at) refl
refers_some s site (op ∷ other ∷ third ∷ more) a b refer all is = absurd all

alone_pickable : (i : Instr) → Fits i → aim.IsPickable Fits aiming (alone i)
alone_pickable i fit = record { fit = fit; directed = λ to is. absurd (cc) }

all_alone : (code : List Instr) → All Fits code → All (aim.IsPickable Fits aiming) (map alone code)
all_alone [] fit = All-nil (aim.IsPickable Fits aiming)
all_alone (i ∷ code) fit =
    All-cons (aim.IsPickable Fits aiming) (alone i) (map alone code) (alone_pickable i (All-head Fits i code fit)) (all_alone code (All-tail Fits i code fit))

fits_before : (i : Instr) (frame : FrameShape) → IsFrame 62 frame → All Fits (before i frame)
fits_before (instr.Plain plain.Ret) frame is = fits_exit frame is
fits_before _ frame is = All-nil Fits

few_before : (i : Instr) (frame : FrameShape) → length (before i frame) ≤ 2
few_before (instr.Plain plain.Ret) frame = few_left frame
few_before _ frame = omega arith

picked_pickable : (s : Spoken) (stmt : Stmt) (site : Site) (i : Instr) → Picks s stmt.lock site stmt.operands i
    → aim.IsPickable Fits aiming (record { instr = i; refer = refers stmt.operands })
picked_pickable s stmt site i picks = record {
  fit = becomes_listed s stmt.lock picks.first picks.second i picks.becomes;
  directed = λ to is.
      becomes_directed s stmt.lock picks.first picks.second i picks.becomes
      ∙ refers_some s site stmt.operands picks.first picks.second (record { to = to; part = Whole }) picks.resolved is;
}

pub pickable : (stmt : Stmt) (site : Site) (code : List (Picked Instr)) → IsFrame 62 site.frame → Becomes stmt site code
    → All (aim.IsPickable Fits aiming) code
pickable stmt site code is becomes = by (kind_by becomes.spoken stmt site code becomes.by)
  where
    by : Kind stmt site code → All (aim.IsPickable Fits aiming) code
    by (none empty) = subst (All (aim.IsPickable Fits aiming)) (sym empty) (All-nil (aim.IsPickable Fits aiming))
    by (some s i picks told) =
        subst (All (aim.IsPickable Fits aiming)) (sym told)
        (All-append (aim.IsPickable Fits aiming) (map alone (before i site.frame)) (record { instr = i; refer = refers stmt.operands } ∷ []) (all_alone (before i site.frame) (fits_before i site.frame is))
        (All-cons (aim.IsPickable Fits aiming) (record { instr = i; refer = refers stmt.operands }) [] (picked_pickable s stmt site i picks) (All-nil (aim.IsPickable Fits aiming))))

-- an instruction in its long form has at most 15 bytes

long_bytes : (i : Instr) → length (flat_map spelling_of (forms_of i 1)) ≤ 15
unfolding forms_of
long_bytes i = omega (arith, length-append (spelling_of (long_of i)) [], (bounded (long_of i)).1)

most_of : (code : List (Picked Instr)) → aim.most_bytes amd64 aiming code ≤ 15 * length code
most_of [] = omega arith
most_of (pick ∷ code) =
    let forms : List Instr = forms_of pick.instr 1 in
    let rest : List Instr = flat_map (λ (pick : Picked Instr). forms_of pick.instr 1) code in
    let split = ap length (flat_map-append spelling_of forms rest) ∙ length-append (flat_map spelling_of forms) (flat_map spelling_of rest) in
    omega (arith, split, long_bytes pick.instr, most_of code)

few_codes : (i : Instr) (refer : Option Refer) (frame : FrameShape) → length (code_of i refer frame) ≤ 3
few_codes i refer frame =
    omega (arith, length-append (map alone (before i frame)) (record { instr = i; refer = refer } ∷ []), length-map (before i frame) alone, few_before i frame)

pub few_bytes : (stmt : Stmt) (site : Site) (code : List (Picked Instr)) → IsFrame 62 site.frame → Becomes stmt site code
    → aim.most_bytes amd64 aiming code ≤ 64
few_bytes stmt site code is becomes = by (kind_by becomes.spoken stmt site code becomes.by)
  where
    by : Kind stmt site code → aim.most_bytes amd64 aiming code ≤ 64
    by (none empty) = omega (arith, most_of code, ap length empty)
    by (some s i picks told) =
        omega (arith, most_of code, ap length told, few_codes i (refers stmt.operands) site.frame)

-- What an operand refers to is that operand

named : (op : Operand) (refer : Refer) → refer_of op ≡ Some refer → Names op refer.to
named (written.Sym sym' off address) refer is = (let same : record { to = to.Symbol sym' off; part = Whole } ≡ refer = cc in sym (ap (λ (r : Refer). r.to) same))
named (written.Label statement) refer is = (let same : record { to = to.Stmt statement; part = Whole } ≡ refer = cc in sym (ap (λ (r : Refer). r.to) same))
named _ refer is = absurd (cc)

is_named : (ops : List Operand) (refer : Refer) → refers ops ≡ Some refer → IsNamed ops refer.to
is_named [] refer is = absurd (cc)
is_named (op ∷ ops) refer is = by (refer_of op) refl is (λ more. is_named ops refer more)
  where
    by : (r : Option Refer) → refer_of op ≡ r → first_refer r (refers ops) ≡ Some refer
        → (refers ops ≡ Some refer → IsNamed ops refer.to) → IsNamed (op ∷ ops) refer.to
    by None at is others = inr (others is)
    by (Some r) at is others = inl (named op refer (at ∙ is))

alone_refers : (P : To → Type 0) (code : List Instr) → All (RefersTo P) (map alone code)
alone_refers P [] = All-nil (RefersTo P)
alone_refers P (i ∷ code) = All-cons (RefersTo P) (alone i) (map alone code) (λ refer is. absurd (cc)) (alone_refers P code)

pub refers_named : (stmt : Stmt) (site : Site) (code : List (Picked Instr)) → Becomes stmt site code
    → All (RefersTo (IsNamed stmt.operands)) code
refers_named stmt site code becomes = by (kind_by becomes.spoken stmt site code becomes.by)
  where
    Named : Picked Instr → Type 0
    Named = RefersTo (IsNamed stmt.operands)

    by : Kind stmt site code → All Named code
    by (none empty) = subst (All Named) (sym empty) (All-nil Named)
    by (some s i picks told) =
        let last : Picked Instr = record { instr = i; refer = refers stmt.operands } in
        subst (All Named) (sym told)
        (All-append Named (map alone (before i site.frame)) (last ∷ []) (alone_refers (IsNamed stmt.operands) (before i site.frame))
        (All-cons Named last [] (λ refer is. is_named stmt.operands refer is) (All-nil Named)))

-- NOP, PCDATA and FUNCDATA alone become nothing

abbrev begins : ℕ → List ℕ → Bool
begins letter text = get_or text 0 0 == letter

true_false : true ≡ false → ⊥
true_false is = cc

meaning_some : (name : Alias) → spoken.Nothing ≡ meaning_of name → ¬ IsEnd (alias_text name)
unfolding alias_text meaning_of
meaning_some alias.Nop is (inl end) = true_false (ap (begins 78) end)
meaning_some alias.Nop is (inr (inl end)) = true_false (ap (begins 78) end)
meaning_some alias.Nop is (inr (inr end)) = true_false (ap (begins 78) end)
meaning_some alias.Pcdata is (inl end) = true_false (ap (begins 80) end)
meaning_some alias.Pcdata is (inr (inl end)) = true_false (ap (begins 80) end)
meaning_some alias.Pcdata is (inr (inr end)) = true_false (ap (begins 80) end)
meaning_some alias.Funcdata is (inl end) = true_false (ap (begins 70) end)
meaning_some alias.Funcdata is (inr (inl end)) = true_false (ap (begins 70) end)
meaning_some alias.Funcdata is (inr (inr end)) = true_false (ap (begins 70) end)
meaning_some _ is _ = cc

says_some : (text : List ℕ) → IsEnd text → ¬ Says text spoken.Nothing
unfolding Says
says_some text end (inl one) = cc
says_some text end (inr one) = meaning_some one.0 one.2 (subst IsEnd (sym one.1) end)

some_code : (i : Instr) (refer : Option Refer) (frame : FrameShape) → 0 < length (code_of i refer frame)
some_code i refer frame = omega (arith, length-append (map alone (before i frame)) (record { instr = i; refer = refer } ∷ []))

some_by : (s : Spoken) (stmt : Stmt) (site : Site) (code : List (Picked Instr)) → ¬ (s ≡ spoken.Nothing) → BecomesBy s stmt site code
    → 0 < length code
some_by spoken.Nothing stmt site code not by = absurd (not refl)
some_by (spoken.Listed m) stmt site code not by = omega (arith, ap length by.2, some_code by.0 (refers stmt.operands) site.frame)
some_by spoken.Widen stmt site code not by = omega (arith, ap length by.2, some_code by.0 (refers stmt.operands) site.frame)
some_by (spoken.ToLabel cc') stmt site code not by = omega (arith, ap length by.2, some_code by.0 (refers stmt.operands) site.frame)
some_by (spoken.Direct near) stmt site code not by = omega (arith, ap length by.2, some_code by.0 (refers stmt.operands) site.frame)
some_by spoken.Adjust stmt site code not by = omega (arith, ap length by.2, some_code by.0 (refers stmt.operands) site.frame)

pub ends : (stmt : Stmt) (site : Site) (code : List (Picked Instr)) → IsEnd stmt.op → Becomes stmt site code → 0 < length code
ends stmt site code end becomes =
    some_by becomes.spoken stmt site code (λ none. says_some stmt.op end (subst (Says stmt.op) none becomes.says)) becomes.by
