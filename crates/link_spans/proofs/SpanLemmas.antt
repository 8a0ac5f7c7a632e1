-- What covers the lines of a function covers their instructions.
use Rattle.std.specs.Prelude.{All, map, replicate, take}
use Rattle.std.proofs.Common.{◌≡◌, ◌≢◌, ℕ, ℤ, pos, zero, suc, ◌+◌, ◌<◌, ◌≤◌, List, [], ◌∷◌, ◌++◌, length, Option, Some, slice_index, refl, sym, ap, ◌∙◌, subst, arith, length-append, append_assoc, append-nil, add-one}
use Rattle.std.specs.List.{flat_map, slice_get}
use Rattle.std.proofs.Math.Seq.{take-length, take-suc}
use Rattle.std.proofs.lemmas.Grind.{flat_map-append}
use Rattle.std.proofs.lemmas.List.{map-append, length-map}
use Rattle.std.proofs.lemmas.List.Elements.{All-append, All-cons, All-head, All-nil, All-tail}
use Rattle.std.proofs.lemmas.Option.{slice_get_within, get_or_from_slice_get}
use Rattle.pcvalue.specs.declared.run.Run.{Run}
use Rattle.pcvalue.specs.Cover.{Ascends, Covers}
use Rattle.asm_target.specs.declared.body.Line.{Line}
use Rattle.asm_target.specs.declared.body.Placed.{Placed}
use Rattle.asm_target.specs.declared.refer.Refer.{Refer}
use Rattle.asm_target.specs.declared.refer.To.{To}
use Rattle.asm_target.specs.Aiming.{HaveForms, KeepLengths, bytes_of}
use Rattle.asm_target.specs.Laws.{HasLengths}
use Rattle.least_forms.specs.Problem.{at, place}
use Rattle.least_forms.proofs.PlaceLemmas.{place_first}
use Rattle.image_rules.specs.Functions.{ends_from}
use Rattle.unit_listing.specs.declared.laid.Laid.{Laid}
use Rattle.unit_listing.specs.Joined.{AreJoined}
use Rattle.unit_listing.specs.Kit.{Kit}
use Rattle.link_code.specs.declared.site.Site.{Site}
use Rattle.link_code.specs.Code.{HasDepth, HaveDepths, IsCode, IsLine, IsPart, IsReady, begins_at, form_in, lines_in}
use Rattle.link_code.proofs.AddedLemmas.{bytes_append, bytes_one}
use Rattle.link_code.proofs.LineLemmas.{line_ends}
use Rattle.link_code.proofs.PartLemmas.{aimed_long}
use Rattle.link_tables.specs.Finer.{HoldsOfFiner, joined, last_of, repeated}
use Rattle.link_spans.specs.Spans.{CoverCode, CoverLines, IsOfLine, ends_to}

of_item : {X : Type 0} (P : X → Type 0) (xs : List X) (n : ℕ) (x : X) → All P xs → slice_get xs n ≡ Some x → P x
of_item P xs n x all here = subst P (get_or_from_slice_get xs n x x here) (all n x (slice_get_within xs n x here))

take_next : {X : Type 0} (xs : List X) (n : ℕ) (x : X) → slice_get xs n ≡ Some x → take (suc n) xs ≡ take n xs ++ x ∷ []
take_next xs n x here =
    take-suc xs n x (slice_get_within xs n x here) ∙ ap (λ y. take n xs ++ y ∷ []) (get_or_from_slice_get xs n x x here)

some_same : {X : Type 0} {x y : X} → Some x ≡ Some y → x ≡ y
some_same h = cc

constant : {X : Type 0} (v : ℕ) (xs : List X) → replicate (length xs) v ≡ map (λ _. v) xs
constant {X} v [] = refl
constant {X} v (x ∷ xs) = ap (λ rest. v ∷ rest) (constant v xs)

map_through : {X : Type 0} (v : ℕ) (xs : List X) → map pos (map (λ _. v) xs) ≡ map (λ _. pos v) xs
map_through {X} v [] = refl
map_through {X} v (x ∷ xs) = ap (λ rest. pos v ∷ rest) (map_through v xs)

map_as_long : {X Y : Type 0} (v : ℤ) (xs : List X) (ys : List Y) → length xs ≡ length ys → map (λ _. v) xs ≡ map (λ _. v) ys
map_as_long v [] [] same = refl
map_as_long v [] (y ∷ ys) same = absurd (omega arith)
map_as_long v (x ∷ xs) [] same = absurd (omega arith)
map_as_long v (x ∷ xs) (y ∷ ys) same = ap (λ rest. v ∷ rest) (map_as_long v xs ys (omega arith))

repeated_append : (groups others : List (List ℕ)) (values further : List ℤ) → length groups ≡ length values
    → repeated (groups ++ others) (values ++ further) ≡ repeated groups values ++ repeated others further
repeated_append [] others [] further same = refl
repeated_append [] others (value ∷ values) further same = absurd (omega arith)
repeated_append (group ∷ groups) others [] further same = absurd (omega arith)
repeated_append (group ∷ groups) others (value ∷ values) further same =
    ap (λ rest. map (λ _. value) group ++ rest) (repeated_append groups others values further (omega arith))
    ∙ sym (append_assoc (map (λ _. value) group) (repeated groups values) (repeated others further))

module _ {Instr : Type 0} (kit : Kit Instr) where
  ends_append : (from : ℕ) (code more : List Instr)
      → ends_from kit.set from (code ++ more) ≡ ends_from kit.set from code ++ ends_from kit.set (from + bytes_of kit.set code) more
  ends_append from [] more = ap (λ at. ends_from kit.set at more) (omega arith)
  ends_append from (i ∷ code) more =
      ap (λ rest. (from + length (kit.set.spelling i)) ∷ rest)
      (ends_append (from + length (kit.set.spelling i)) code more
      ∙ ap (λ at. ends_from kit.set (from + length (kit.set.spelling i)) code ++ ends_from kit.set at more)
      (omega (arith, length-append (kit.set.spelling i) (flat_map kit.set.spelling code))))

  ends_long : (from : ℕ) (code : List Instr) → length (ends_from kit.set from code) ≡ length code
  ends_long from [] = refl
  ends_long from (i ∷ code) = (let rest = ends_long (from + length (kit.set.spelling i)) code in omega arith)

  last_end : (from : ℕ) (code : List Instr) → 0 < length code → last_of (ends_from kit.set from code) ≡ from + bytes_of kit.set code
  last_end from [] some = absurd (omega arith)
  last_end from (i ∷ []) some = omega (arith, length-append (kit.set.spelling i) [])
  last_end from (i ∷ k ∷ code) some =
      last_end (from + length (kit.set.spelling i)) (k ∷ code) (omega arith)
      ∙ omega (arith, length-append (kit.set.spelling i) (flat_map kit.set.spelling (k ∷ code)))

  ends_some : (from : ℕ) (code : List Instr) → 0 < length code → ends_from kit.set from code ≢ []
  ends_some from code some none = (let long = ends_long from code in let zero_long = ap length none in absurd (omega arith))

  ascends : HasLengths kit.set kit.fits kit.quantum → (from : ℕ) (code : List Instr) → All kit.fits code
      → Ascends from (ends_from kit.set from code)
  ascends lengths from [] fit = tt
  ascends lengths from (i ∷ code) fit = (
    let one = (lengths i (All-head kit.fits i code fit)).least in omega arith,
    ascends lengths (from + length (kit.set.spelling i)) code (All-tail kit.fits i code fit),
  )

  module _ (formed : HaveForms kit.set kit.fits kit.aiming) (keeps : KeepLengths kit.set kit.fits kit.aiming) where
    -- the first instructions of a form
    parts_long : (goals : To → Option ℕ) (refer : Option Refer) (back start : ℕ) (form : List Instr) (n : ℕ) (code : List Instr)
        → AreJoined (IsPart kit goals refer back start form) n code → length code ≡ n
    parts_long goals refer back start form zero code none = ap length none
    parts_long goals refer back start form (suc n) code (before, last, are, (i, here, j, aimed, only, one), whole) =
        let rest = parts_long goals refer back start form n before are in
        let single : length last ≡ 1 = ap length one in
        ap length whole ∙ length-append before last ∙ omega (arith, rest, single)

    parts_bytes : (goals : To → Option ℕ) (refer : Option Refer) (back start : ℕ) (form : List Instr) (n : ℕ) (code : List Instr)
        → All kit.fits form → AreJoined (IsPart kit goals refer back start form) n code
        → bytes_of kit.set code ≡ bytes_of kit.set (take n form)
    parts_bytes goals refer back start form zero code fit none = ap (bytes_of kit.set) none
    parts_bytes goals refer back start form (suc n) code fit (before, last, are, (i, here, j, aimed, only, one), whole) =
        let rest = parts_bytes goals refer back start form n before fit are in
        let same = aimed_long kit goals _ _ _ i j keeps (of_item kit.fits form n i fit here) aimed in
        ap (bytes_of kit.set) whole ∙ bytes_append kit.set before last ∙ ap (λ code. bytes_of kit.set before + bytes_of kit.set code) one
        ∙ omega (arith, rest, same, bytes_one kit.set j, bytes_one kit.set i, bytes_append kit.set (take n form) (i ∷ []))
        ∙ sym (ap (bytes_of kit.set) (take_next form n i here))

    -- a form has an instruction
    form_some : (i : Instr) (form : ℕ) → kit.fits i → form ≤ 1 → 0 < length (kit.aiming.forms i form)
    form_some i zero fit most =
        let is = (formed i fit).short in
        let long : length (kit.aiming.forms i 0) ≡ 1 = ap length is.1 in
        omega (arith, long)
    form_some i (suc zero) fit most =
        let is = (formed i fit).long in
        let long : length (kit.aiming.forms i 1) ≡ length is.0 + 1 = ap length is.2 ∙ length-append is.0 (is.1 ∷ []) in
        omega (arith, long)
    form_some i (suc (suc form)) fit most = absurd (omega arith)

    module _ (site : Site) (laid : Laid Instr) (ready : IsReady kit site laid) where
      ends_at : ℕ → ℕ
      ends_at number = place (lines_in kit laid) (at laid.sizes.forms) number

      line_long : (number : ℕ) (code : List Instr) (is : IsLine kit site laid number code)
          → length code ≡ length (form_in kit laid number is.line)
      line_long number code is =
          parts_long _ is.line.refer _ _ (form_in kit laid number is.line) (length (form_in kit laid number is.line)) code is.parts

      line_fit : (number : ℕ) (code : List Instr) (is : IsLine kit site laid number code) → kit.fits is.line.instr
      line_fit number code is = of_item (λ line. kit.fits line.instr) laid.body.code number is.line ready.fit is.here

      line_some : (number : ℕ) (code : List Instr) → IsLine kit site laid number code → 0 < length code
      line_some number code is =
          let some = form_some is.line.instr (slice_index laid.sizes.forms number) (line_fit number code is) (ready.told.form number) in
          omega (arith, line_long number code is, some)

      line_bytes : (number : ℕ) (code : List Instr) → IsLine kit site laid number code
          → begins_at kit site laid (number + 1) ≡ begins_at kit site laid number + bytes_of kit.set code
      line_bytes number code is =
          let form = form_in kit laid number is.line in
          let fit = (formed is.line.instr (line_fit number code is)).fit (slice_index laid.sizes.forms number) (ready.told.form number) in
          let bytes = parts_bytes _ is.line.refer _ _ form (length form) code fit is.parts in
          line_ends kit site laid ready number is.line is.here
          ∙ ap (λ n. begins_at kit site laid number + n) (sym (bytes ∙ ap (bytes_of kit.set) (take-length form)))

      -- the places where the instructions of each line end
      groups : (number : ℕ) (code : List Instr) → AreJoined (IsLine kit site laid) number code → List (List ℕ)
      groups zero code none = []
      groups (suc number) code (before, last, are, is, whole) =
          groups number before are ++ ends_from kit.set (bytes_of kit.set before) last ∷ []

      groups_long : (number : ℕ) (code : List Instr) (lines : AreJoined (IsLine kit site laid) number code)
          → length (groups number code lines) ≡ number
      unfolding groups
      groups_long zero code none = refl
      groups_long (suc number) code (before, last, are, is, whole) =
          length-append (groups number before are) _ ∙ omega (arith, groups_long number before are)

      bytes_to : (number : ℕ) (code : List Instr) → AreJoined (IsLine kit site laid) number code
          → site.entry + bytes_of kit.set code ≡ begins_at kit site laid number
      bytes_to zero code none =
          let first = place_first (lines_in kit laid) (at laid.sizes.forms) in
          let empty : bytes_of kit.set code ≡ 0 = ap (bytes_of kit.set) none in
          omega (arith, first, empty)
      bytes_to (suc number) code (before, last, are, is, whole) =
          let rest = bytes_to number before are in
          let line = line_bytes number last is in
          let both = ap (bytes_of kit.set) whole ∙ bytes_append kit.set before last in
          let next : begins_at kit site laid (suc number) ≡ begins_at kit site laid (number + 1)
          = ap (begins_at kit site laid) (sym (add-one number)) in
          omega (arith, rest, line, both, next)

      groups_join : (number : ℕ) (code : List Instr) (lines : AreJoined (IsLine kit site laid) number code)
          → joined (groups number code lines) ≡ ends_from kit.set 0 code
      unfolding groups
      groups_join zero code none = ap (ends_from kit.set 0) (sym none)
      groups_join (suc number) code (before, last, are, is, whole) =
          flat_map-append (λ group. group) (groups number before are) (ends_from kit.set (bytes_of kit.set before) last ∷ [])
          ∙ ap (λ ends. ends ++ (ends_from kit.set (bytes_of kit.set before) last ++ [])) (groups_join number before are)
          ∙ ap (λ ends. ends_from kit.set 0 before ++ ends) (append-nil (ends_from kit.set (bytes_of kit.set before) last))
          ∙ ap (λ (from : ℕ). ends_from kit.set 0 before ++ ends_from kit.set from last) (omega arith)
          ∙ sym (ends_append 0 before last) ∙ ap (ends_from kit.set 0) (sym whole)

      groups_filled : (number : ℕ) (code : List Instr) (lines : AreJoined (IsLine kit site laid) number code)
          → All (λ group. group ≢ []) (groups number code lines)
      unfolding groups
      groups_filled zero code none = All-nil (λ (group : List ℕ). group ≢ [])
      groups_filled (suc number) code (before, last, are, is, whole) =
          All-append (λ (group : List ℕ). group ≢ []) (groups number before are) (ends_from kit.set (bytes_of kit.set before) last ∷ [])
          (groups_filled number before are)
          (All-cons (λ (group : List ℕ). group ≢ []) (ends_from kit.set (bytes_of kit.set before) last) []
          (ends_some (bytes_of kit.set before) last (line_some number last is)) (All-nil (λ (group : List ℕ). group ≢ [])))

      groups_end : (number : ℕ) (code : List Instr) (lines : AreJoined (IsLine kit site laid) number code)
          → map last_of (groups number code lines) ≡ ends_to (lines_in kit laid) (at laid.sizes.forms) number
      unfolding groups
      groups_end zero code none = refl
      groups_end (suc number) code (before, last, are, is, whole) =
          let to = bytes_to (suc number) code (before, last, are, is, whole) in
          let both = ap (bytes_of kit.set) whole ∙ bytes_append kit.set before last in
          let end : last_of (ends_from kit.set (bytes_of kit.set before) last) ≡ place (lines_in kit laid) (at laid.sizes.forms) (suc number)
          = last_end (bytes_of kit.set before) last (line_some number last is) ∙ omega (arith, to, both) in
          map-append last_of (groups number before are) (ends_from kit.set (bytes_of kit.set before) last ∷ [])
          ∙ ap (λ ends. ends ++ last_of (ends_from kit.set (bytes_of kit.set before) last) ∷ []) (groups_end number before are)
          ∙ ap (λ end. ends_to (lines_in kit laid) (at laid.sizes.forms) number ++ end ∷ []) end

      module _ (value : Line Instr → ℕ) where
        -- the value of its line for each instruction
        values : (number : ℕ) (code : List Instr) → AreJoined (IsLine kit site laid) number code → List ℕ
        values zero code none = []
        values (suc number) code (before, last, are, is, whole) = values number before are ++ map (λ _. value is.line) last

        values_repeated : (number : ℕ) (code : List Instr) (lines : AreJoined (IsLine kit site laid) number code)
            → repeated (groups number code lines) (map (λ line. pos (value line)) (take number laid.body.code))
            ≡ map pos (values number code lines)
        unfolding groups values
        values_repeated zero code none = refl
        values_repeated (suc number) code (before, last, are, is, whole) =
            let within = slice_get_within laid.body.code number is.line is.here in
            let count : length (map (λ line. pos (value line)) (take number laid.body.code)) ≡ number
            = length-map (take number laid.body.code) (λ line. pos (value line))
            ∙ Rattle.std.proofs.lemmas.List.length-take-le number laid.body.code (omega arith) in
            ap (λ lines. repeated (groups number before are ++ ends_from kit.set (bytes_of kit.set before) last ∷ []) (map (λ line. pos (value line)) lines))
            (take_next laid.body.code number is.line is.here)
            ∙ ap (repeated (groups number before are ++ ends_from kit.set (bytes_of kit.set before) last ∷ []))
            (map-append (λ line. pos (value line)) (take number laid.body.code) (is.line ∷ []))
            ∙ repeated_append (groups number before are) (ends_from kit.set (bytes_of kit.set before) last ∷ [])
            (map (λ line. pos (value line)) (take number laid.body.code)) (pos (value is.line) ∷ [])
            (groups_long number before are ∙ sym count)
            ∙ ap (λ rest. rest ++ (map (λ _. pos (value is.line)) (ends_from kit.set (bytes_of kit.set before) last) ++ []))
            (values_repeated number before are)
            ∙ ap (λ rest. map pos (values number before are) ++ rest)
            (append-nil (map (λ _. pos (value is.line)) (ends_from kit.set (bytes_of kit.set before) last))
            ∙ map_as_long (pos (value is.line)) (ends_from kit.set (bytes_of kit.set before) last) last (ends_long (bytes_of kit.set before) last)
            ∙ sym (map_through (value is.line) last))
            ∙ sym (map-append pos (values number before are) (map (λ _. value is.line) last))

        all_constant : (P : ℕ → Type 0) (v : ℕ) (code : List Instr) → P v → All P (map (λ _. v) code)
        all_constant P v [] holds = All-nil P
        all_constant P v (i ∷ code) holds = All-cons P v (map (λ _. v) code) holds (all_constant P v code holds)

        values_among : (number : ℕ) (code : List Instr) (lines : AreJoined (IsLine kit site laid) number code)
            → All (IsOfLine kit laid value) (values number code lines)
        unfolding values
        values_among zero code none = All-nil (IsOfLine kit laid value)
        values_among (suc number) code (before, last, are, is, whole) =
            All-append (IsOfLine kit laid value) (values number before are) (map (λ _. value is.line) last) (values_among number before are)
            (all_constant (IsOfLine kit laid value) (value is.line) last
            (record { number = number; line = is.line; here = is.here; is = refl }))

        values_cover : HasLengths kit.set kit.fits kit.quantum → HoldsOfFiner → (items : List (Placed Instr)) (is : IsCode kit site laid items)
            (runs : List Run) → CoverLines kit laid value runs
            → Covers 0 (ends_from kit.set 0 is.code) (map pos (values (length laid.body.code) is.code is.lines)) runs
        values_cover lengths finer items is runs covers =
            let number = length laid.body.code in
            let all = groups number is.code is.lines in
            let join = groups_join number is.code is.lines in
            let whole : take number laid.body.code ≡ laid.body.code = take-length laid.body.code in
            let same : repeated all (map (λ line. pos (value line)) laid.body.code) ≡ map pos (values number is.code is.lines)
            = ap (λ lines. repeated all (map (λ line. pos (value line)) lines)) (sym whole) ∙ values_repeated number is.code is.lines in
            subst (λ values. Covers 0 (ends_from kit.set 0 is.code) values runs) same
            (subst (λ ends. Covers 0 ends (repeated all (map (λ line. pos (value line)) laid.body.code)) runs) join
            (finer 0 all (map (λ line. pos (value line)) laid.body.code) runs (groups_filled number is.code is.lines)
            (subst (Ascends 0) (sym join) (ascends lengths 0 is.code is.fit))
            (subst (λ ends. Covers 0 ends (map (λ line. pos (value line)) laid.body.code) runs) (sym (groups_end number is.code is.lines)) covers)))

        pub cover_code : HasLengths kit.set kit.fits kit.quantum → HoldsOfFiner → (items : List (Placed Instr)) (is : IsCode kit site laid items)
            (runs : List Run) → CoverLines kit laid value runs → CoverCode kit laid is.code value runs
        cover_code lengths finer items is runs covers = record {
          values = values (length laid.body.code) is.code is.lines;
          covers = values_cover lengths finer items is runs covers;
          among = values_among (length laid.body.code) is.code is.lines;
        }

      -- depths are such values
      are_depths : (number : ℕ) (code : List Instr) (depths : List ℕ) (lines : AreJoined (IsLine kit site laid) number code)
          → AreJoined (HasDepth kit laid) number depths → values (λ line. line.depth) number code lines ≡ depths
      unfolding values
      are_depths zero code depths none none' = sym none'
      are_depths (suc number) code depths (before, last, are, is, whole) (before', last', are', has, whole') =
          let rest = are_depths number before before' are are' in
          let same : has.line ≡ is.line = some_same (sym has.here ∙ is.here) in
          let one : map (λ _. is.line.depth) last ≡ last' =
          sym (constant is.line.depth last) ∙ ap (λ n. replicate n is.line.depth) (line_long number last is)
          ∙ ap (λ (line : Line Instr). replicate (length (form_in kit laid number line)) line.depth) (sym same) ∙ sym has.each in
          ap (λ values. values ++ map (λ _. is.line.depth) last) rest ∙ ap (λ values. before' ++ values) one ∙ sym whole'

      pub cover_depths : HasLengths kit.set kit.fits kit.quantum → HoldsOfFiner → (items : List (Placed Instr)) (depths : List ℕ)
          (runs : List Run) (is : IsCode kit site laid items) → HaveDepths kit laid depths → CoverLines kit laid (λ line. line.depth) runs
          → Covers 0 (ends_from kit.set 0 is.code) (map pos depths) runs
      cover_depths lengths finer items depths runs is have covers =
          subst (λ values. Covers 0 (ends_from kit.set 0 is.code) (map pos values) runs)
          (are_depths (length laid.body.code) is.code depths is.lines have)
          (values_cover (λ line. line.depth) lengths finer items is runs covers)
