-- From a known moment a walk gives the moment's calls.
use Rattle.std.proofs.Common.{◌≡◌, ℕ, ◌+◌, ◌-◌, ◌^◌, ◌≤◌, ◌<◌, ◌==◌, ◌&&◌, Bool, true, false, List, All, [], ◌∷◌, Option, Some, None, is_some, nat_le, if◌then◌else◌, refl, sym, ap, ◌∙◌, subst, arith}
use Rattle.std.proofs.lemmas.Bool.Decides.{nat_tests}
use Rattle.std.proofs.lemmas.List.Elements.{All-cons, All-nil}
use Rattle.machine_effect.specs.declared.frame.Frame.{Frame}
use Rattle.machine_effect.specs.Memory.{Memory, word_at}
use Rattle.machine_effect.specs.Stores.{BytesStay}
use Rattle.elf_image.specs.Contents.{table_in}
use Rattle.pclntab.specs.Func.{HasPc, depth_at, func_at}
use Rattle.pclntab.specs.Table.{IsTable}
use Rattle.pcvalue.specs.Cover.{AnswersPlaces}
use Rattle.asm_target.specs.FlowFunction.{Range, is_within}
use Rattle.flow_rules.specs.Placing.{Surroundings}
use Rattle.image_check.specs.Readers.{instr_among}
use Rattle.image_model.specs.Image.{Image, IsOutside, Line}
use Rattle.image_model.specs.Joined.{IsText}
use Rattle.image_model.specs.Kept.{ChainCall, SlotsStay, call_place, chain_from, chain_of, until}
use Rattle.image_model.specs.Listed.{Listed, text_of}
use Rattle.image_model.specs.Soundness.{IsSound}
use Rattle.image_model.specs.Steps.{Moment, link_in, pushed, sp_of}
use Rattle.image_rules.specs.Functions.{AreFunctionsOf}
use Rattle.image_rules.specs.Machine.{Machine}
use Rattle.image_rules.specs.Parts.{count_in, entry_in, text_range}
use Rattle.image_runs.specs.Known.{AreKnown, IsCaller, IsKnown, Standing, in_link, slot_place}
use Rattle.image_runs.proofs.EffectLemmas.{at_slot, slot_first, slots_behind, word_stays}
use Rattle.unwind.specs.declared.stage.Place.{Place}
use Rattle.unwind.specs.declared.stage.Stage.{Stage}
use Rattle.unwind.specs.declared.stage.Stage.TheVariants as stages
use Rattle.image_check.specs.declared.seen.Seen.{Seen}
use Rattle.image_check.specs.declared.seen.UnwindNo.TheVariants.{U2, U5}
use Rattle.unwind.specs.declared.walked.Walked.TheVariants as answers
use Rattle.unwind.specs.Looks.{AreCalls, IsCall, WalksToChain, caller_of, depth_by, image_of, is_top, is_top_entry, is_top_of, looks_of}
use Rattle.unwind.specs.Walk.{Gives, Looks, answer_at, asked, begun, behind, called, next_stage, place_by, pushed_by, returned, word_by}
use Rattle.unwind.proofs.CallLemmas.{served_found, served_within}
use Rattle.unwind.proofs.CaseLemmas.{and_then, by_test, test_cons, test_off, test_on}
use Rattle.unwind.proofs.PlaceLemmas.{IsLineIn, line_in}
use Rattle.unwind.proofs.StretchLemmas.{found_in}

low_test : (n : ℕ) → n < 2 ^ 64 → nat_le (2 ^ 64) n ≡ false
low_test n low = grind (arith, nat_tests)

place_low : (linked : Bool) (sp depth : ℕ) → place_by linked sp depth ≤ sp + depth
place_low true sp depth = omega arith
place_low false sp depth = omega arith

module _ {Instr : Type 0} (machine : Machine Instr) (bytes : List ℕ) (around : Surroundings) (functions : ℕ → Listed Instr) where
  abbrev img : Image
  img = image_of machine bytes around functions

  abbrev linked : Bool
  linked = is_some machine.shape.link

  abbrev looks : Looks
  looks = looks_of machine bytes around functions

  abbrev rest_of : Frame → List Frame → List ChainCall
  rest_of frame more =
      if is_top_entry bytes frame.func then [] else until (is_top_entry bytes) (chain_from frame.ret (call_place frame.call) more)

  -- a place of an instruction is told of like its first byte
  shown_call : (at : ℕ) (line : Line) (is : IsLineIn machine bytes around functions at line) (pc look call_look entry : ℕ)
      → at ≤ look → look < line.part.past → call_look ≡ at → entry ≡ line.entry
      → IsCall bytes (record { func = is.index; pc = pc; look = look }) (record { func = entry; pc = pc; look = call_look })
  shown_call at line is pc look call_look entry low high same is_entry =
      let from : at ≤ call_look = omega arith in
      let upto : call_look < line.part.past = (let long = is.long in omega arith) in
      record {
        inside = is.stretch.inside;
        func = is.entry ∙ sym is_entry;
        pc = refl;
        depth = is.stretch.depths look low high ∙ sym (is.stretch.depths call_look from upto);
        line = is.stretch.lines look low high ∙ sym (is.stretch.lines call_look from upto);
        file = is.stretch.files look low high ∙ sym (is.stretch.files call_look from upto);
      }

  module _ (settled : AnswersPlaces) (table : IsTable (table_in bytes)) (are : AreFunctionsOf machine bytes functions (count_in bytes))
      (text_is : IsText (text_of machine.set machine.shape machine.growth machine.begins around (count_in bytes) functions))
      (sound : IsSound img) (range : around.text ≡ text_range bytes) where
    is_line : (at : ℕ) (line : Line) → img.line_at at ≡ Some line → IsLineIn machine bytes around functions at line
    is_line at line here = line_in machine bytes around functions settled table are text_is at line here

    -- whether a stack ends in the function, by its entry
    top_is : (at : ℕ) (line : Line) (is : IsLineIn machine bytes around functions at line) → is_top_entry bytes line.entry ≡ is_top bytes is.index
    top_is at line is =
        let has = is.stretch.has at (omega arith) is.long in
        let from = has.from in
        let before = has.before in
        let first : HasPc (table_in bytes) is.index (entry_in bytes is.index) = record { from = omega arith; before = omega arith } in
        ap (is_top_entry bytes) (sym is.entry)
        ∙ ap (is_top_of bytes) (found_in (table_in bytes) (entry_in bytes is.index) is.index table.order is.stretch.inside first)

    module _ (before memory : Memory) (peek : ℕ → Option ℕ) (agrees : (at : ℕ) → at < 2 ^ 64 → peek at ≡ word_at memory at) where
      -- what a walk gives that has come to this stage
      abbrev GivenAt : Stage → List Seen → Type 0
      GivenAt stage [] = answer_at stage ≡ answers.End
      GivenAt stage (seen ∷ more) = (answer_at stage ≡ answers.Frame seen) × Gives looks peek stage more answers.End

      turned : (from : Stage) (seen : List Seen) → GivenAt (next_stage looks peek from) seen → Gives looks peek from seen answers.End
      turned from [] given = given
      turned from (one ∷ more) given = given

      record Ending (stage : Stage) (calls : List ChainCall) : Type 0 where
        seen : List Seen
        shown : AreCalls bytes seen calls
        given : GivenAt stage seen

      -- The frame was given, and its return address stands where the walk asks for it
      record Fits (place : Place) (frame : Frame) : Type 0 where
        at : ℕ
        line : Line
        here : img.line_at at ≡ Some line
        func : func_at (table_in bytes) at ≡ Some place.seen.func
        low : at ≤ place.seen.look
        high : place.seen.look < line.part.past
        entry : frame.func ≡ line.entry
        base : frame.base ≡ place.sp + line.depth
        room : frame.base < 2 ^ 64
        word : word_by peek place.link (place_by linked place.sp line.depth) line.depth ≡ Some frame.ret

      -- a saved return address is found
      saved : (frame : Frame) (more : List Frame) (place ret : ℕ) → frame.slot ≡ Some place → place < 2 ^ 64
          → SlotsStay before memory (frame ∷ more) → word_at before place ≡ Some ret → peek place ≡ Some ret
      saved frame more place ret slot low stay word =
          agrees place low
          ∙ word_stays before memory place
          (at_slot (λ at. BytesStay before memory at 8) frame.slot place slot
          (slot_first (λ at. BytesStay before memory at 8) frame more stay))
          ∙ word

      -- the function of a frame that was given
      index_is : (place : Place) (frame : Frame) (fits : Fits place frame) → place.seen.func ≡ (is_line fits.at fits.line fits.here).index
      index_is place frame fits =
          let is = is_line fits.at fits.line fits.here in
          let there = is.stretch.found fits.at (omega arith) is.long in
          let found = fits.func in
          cc

      -- the walk comes to the return address
      comes : (place : Place) (frame : Frame) (fits : Fits place frame)
          → behind looks peek place (depth_by (depth_at (table_in bytes) place.seen.func place.seen.look))
          ≡ returned looks place.sp fits.line.depth frame.ret
      comes place frame fits =
          let is = is_line fits.at fits.line fits.here in
          let level : depth_by (depth_at (table_in bytes) place.seen.func place.seen.look) ≡ fits.line.depth =
          ap (λ (func : ℕ). depth_by (depth_at (table_in bytes) func place.seen.look)) (index_is place frame fits)
          ∙ ap depth_by (is.stretch.depths place.seen.look fits.low fits.high) in
          let base = fits.base in
          let room = fits.room in
          ap (behind looks peek place) level
          ∙ test_off (nat_le (2 ^ 64) (place.sp + fits.line.depth)) (stages.No (U5 place.sp fits.line.depth))
          (asked looks place.sp fits.line.depth (word_by peek place.link (place_by linked place.sp fits.line.depth) fits.line.depth))
          (low_test (place.sp + fits.line.depth) (omega arith))
          ∙ ap (asked looks place.sp fits.line.depth) fits.word

      -- the place of the caller
      abbrev place_in : Place → ℕ → ℕ → ℕ → Place
      place_in place depth word func = record {
        seen = record { func = func; pc = word; look = word - 1 };
        sp = place.sp + depth + pushed_by linked;
        link = None;
      }

      module _ (place : Place) (frame outer : Frame) (others : List Frame) (fits : Fits place frame) (caller : IsCaller img frame outer) where
        sp_is : place.sp + fits.line.depth + pushed_by linked ≡ frame.base + pushed img
        sp_is = ap (λ (base : ℕ). base + pushed_by linked) (sym fits.base)

        goes : returned looks place.sp fits.line.depth frame.ret ≡ stages.At (place_in place fits.line.depth frame.ret (is_line caller.at caller.line caller.here).index)
        goes =
            let is = is_line caller.at caller.line caller.here in
            let inside : is_within looks.text frame.ret ≡ true =
            ap (λ (r : Range). is_within r frame.ret) (sym range) ∙ ap (is_within img.text) caller.ret
            ∙ served_within img sound caller.at caller.line caller.here caller.served in
            let call : img.after_call frame.ret ≡ Some caller.at =
            ap img.after_call caller.ret ∙ served_found img sound caller.at caller.line caller.here caller.served in
            let found : caller_of machine bytes around functions frame.ret ≡ Some is.index =
            and_then (func_at (table_in bytes)) (img.after_call frame.ret) caller.at call
            (is.stretch.found caller.at (omega arith) is.long) in
            let same = sp_is in
            let base = caller.base in
            let room = caller.low in
            test_on (is_within looks.text frame.ret) (called looks (caller_of machine bytes around functions frame.ret) place.sp fits.line.depth frame.ret)
            stages.End inside
            ∙ ap (λ (found : Option ℕ). called looks found place.sp fits.line.depth frame.ret) found
            ∙ test_off (nat_le (2 ^ 64) (place.sp + fits.line.depth + pushed_by linked)) (stages.No (U5 place.sp fits.line.depth))
            (stages.At (place_in place fits.line.depth frame.ret is.index))
            (low_test (place.sp + fits.line.depth + pushed_by linked) (omega arith))

        fits_caller : word_at before (slot_place img (frame.base + pushed img) caller.line.depth) ≡ Some outer.ret
            → SlotsStay before memory (outer ∷ others) → Fits (place_in place fits.line.depth frame.ret (is_line caller.at caller.line caller.here).index) outer
        fits_caller word stay =
            let is = is_line caller.at caller.line caller.here in
            let long = is.long in
            let ret = caller.ret in
            let same = sp_is in
            let base = caller.base in
            let room = caller.low in
            let most = place_low linked (frame.base + pushed img) caller.line.depth in
            let low : caller.at ≤ frame.ret - 1 = omega arith in
            let high : frame.ret - 1 < caller.line.part.past = omega arith in
            let sum : outer.base ≡ place.sp + fits.line.depth + pushed_by linked + caller.line.depth = omega arith in
            record {
              at = caller.at;
              line = caller.line;
              here = caller.here;
              func = is.stretch.found caller.at (omega arith) long;
              low = low;
              high = high;
              entry = caller.entry;
              base = sum;
              room = room;
              word = ap (λ (sp : ℕ). peek (place_by linked sp caller.line.depth)) same
                  ∙ saved outer others (slot_place img (frame.base + pushed img) caller.line.depth) outer.ret caller.slot (omega arith) stay word;
            }

      -- a walk ends where a stack ends in the function, and else at the return address
      finish : (place : Place) (frame : Frame) (more : List Frame) (fits : Fits place frame)
          → Ending (returned looks place.sp fits.line.depth frame.ret)
          (until (is_top_entry bytes) (chain_from frame.ret (call_place frame.call) more))
          → Ending (next_stage looks peek (stages.At place)) (rest_of frame more)
      finish place frame more fits ahead =
          both (is_top_entry bytes frame.func) (is_top bytes place.seen.func)
          (ap (is_top_entry bytes) fits.entry ∙ top_is fits.at fits.line (is_line fits.at fits.line fits.here)
          ∙ ap (is_top bytes) (sym (index_is place frame fits)))
          (behind looks peek place (depth_by (depth_at (table_in bytes) place.seen.func place.seen.look)))
          (until (is_top_entry bytes) (chain_from frame.ret (call_place frame.call) more))
          (subst (λ (stage : Stage). Ending stage (until (is_top_entry bytes) (chain_from frame.ret (call_place frame.call) more)))
          (sym (comes place frame fits)) ahead)
        where
          both : (b c : Bool) → b ≡ c → (stage : Stage) (calls : List ChainCall) → Ending stage calls
              → Ending (if c then stages.End else stage) (if b then [] else calls)
          both true true is stage calls rest = record { seen = []; shown = tt; given = refl }
          both false false is stage calls rest = rest
          both true false is stage calls rest = absurd (cc)
          both false true is stage calls rest = absurd (cc)

      -- the return address lies outside
      none_left : (place : Place) (frame : Frame) (depth : ℕ) → IsOutside img frame.ret → Ending (returned looks place.sp depth frame.ret) []
      none_left place frame depth outside =
          let off : is_within looks.text frame.ret ≡ false = ap (λ (r : Range). is_within r frame.ret) (sym range) ∙ outside in
          record {
            seen = [];
            shown = tt;
            given = ap answer_at (test_off (is_within looks.text frame.ret)
                (called looks (caller_of machine bytes around functions frame.ret) place.sp depth frame.ret) stages.End off);
          }

      -- the caller's frame is given, and what's given behind it
      one_more : (place : Place) (frame outer : Frame) (others : List Frame) (fits : Fits place frame) (caller : IsCaller img frame outer)
          → Ending (next_stage looks peek (stages.At (place_in place fits.line.depth frame.ret (is_line caller.at caller.line caller.here).index)))
          (rest_of outer others)
          → Ending (returned looks place.sp fits.line.depth frame.ret)
          (until (is_top_entry bytes) (chain_from frame.ret (call_place frame.call) (outer ∷ others)))
      one_more place frame outer others fits caller rest =
          let is = is_line caller.at caller.line caller.here in
          let long = is.long in
          let ret = caller.ret in
          let calls = until (is_top_entry bytes) (chain_from outer.ret (call_place outer.call) others) in
          let call : ChainCall = record { func = outer.func; pc = frame.ret; look = call_place frame.call } in
          let next = place_in place fits.line.depth frame.ret is.index in
          let ending : Ending (stages.At next) (call ∷ rest_of outer others) = record {
            seen = next.seen ∷ rest.seen;
            shown = (
              shown_call caller.at caller.line is frame.ret (frame.ret - 1) (call_place frame.call) outer.func (omega arith) (omega arith)
                  (ap call_place caller.call) caller.entry,
              rest.shown,
            );
            given = (refl, turned (stages.At next) rest.seen rest.given);
          } in
          subst (λ (stage : Stage). Ending stage (if is_top_entry bytes outer.func then call ∷ [] else call ∷ calls))
          (sym (goes place frame outer others fits caller))
          (subst (λ (all : List ChainCall). Ending (stages.At next) all) (sym (test_cons (is_top_entry bytes outer.func) call calls)) ending)

      walks : (more : List Frame) (place : Place) (frame : Frame) → Fits place frame → Standing img before frame more
          → SlotsStay before memory more → Ending (next_stage looks peek (stages.At place)) (rest_of frame more)
      walks [] place frame fits standing stay =
          finish place frame [] fits (none_left place frame fits.line.depth standing.1)
      walks (outer ∷ others) place frame fits standing stay =
          finish place frame (outer ∷ others) fits
          (one_more place frame outer others fits standing.0
          (walks others (place_in place fits.line.depth frame.ret (is_line standing.0.at standing.0.line standing.0.here).index) outer
          (fits_caller place frame outer others fits standing.0 standing.1 stay) standing.2
          (slots_behind (λ at. BytesStay before memory at 8) outer others stay)))

    -- the first frame's return address is in the link register or in memory
    first_word : (m : Moment) (known : IsKnown img m) (memory : Memory) (peek : ℕ → Option ℕ) (link : ℕ)
        → ((at : ℕ) → at < 2 ^ 64 → peek at ≡ word_at memory at) → (linked ≡ true → link ≡ link_in img m.state)
        → SlotsStay m.state.mem memory (known.frame ∷ known.further) → (some : Bool) → linked ≡ some
        → word_by peek (if some then Some link else None) (place_by linked (sp_of img m.state) known.line.depth) known.line.depth
        ≡ Some known.frame.ret
    first_word m known memory peek link agrees link_is stay some is =
        let holds = known.inner.holds in
        let depth : ℕ = known.line.depth in
        let base = holds.base in
        let room = holds.low in
        let most = place_low linked (sp_of img m.state) depth in
        let in_memory : in_link img depth ≡ false
        → peek (place_by linked (sp_of img m.state) depth) ≡ Some known.frame.ret =
        λ deep.
        saved m.state.mem memory peek agrees known.frame known.further (place_by linked (sp_of img m.state) depth) known.frame.ret
        (holds.slot deep) (omega arith) stay (holds.word deep) in
        by some is in_memory
      where
        by : (some : Bool) → linked ≡ some
            → (in_link img known.line.depth ≡ false → peek (place_by linked (sp_of img m.state) known.line.depth) ≡ Some known.frame.ret)
            → word_by peek (if some then Some link else None) (place_by linked (sp_of img m.state) known.line.depth) known.line.depth
            ≡ Some known.frame.ret
        by false none in_memory = in_memory (ap (λ (b : Bool). b && (known.line.depth == 0)) none)
        by true some in_memory =
            by_test (known.line.depth == 0) (Some link) (peek (place_by linked (sp_of img m.state) known.line.depth))
            (λ (word : Option ℕ). word ≡ Some known.frame.ret)
            (λ level. ap Some (link_is some ∙ known.inner.holds.link (ap (λ (b : Bool). b && (known.line.depth == 0)) some ∙ level)))
            (λ deep. in_memory (ap (λ (b : Bool). b && (known.line.depth == 0)) some ∙ deep))

    pub known_walks : (m : Moment) → IsKnown img m → WalksToChain machine bytes around functions m
    known_walks m known memory peek link stay agrees link_is =
        let pc : ℕ = m.state.pc in
        let sp : ℕ = sp_of img m.state in
        let is = is_line pc known.line known.here in
        let self : pc ≤ pc = omega arith in
        let found = is.stretch.found pc (omega arith) is.long in
        let slots : SlotsStay m.state.mem memory (known.frame ∷ known.further) =
        subst (λ (calls : List Frame). SlotsStay m.state.mem memory calls) known.calls stay in
        let place : Place = record {
          seen = record { func = is.index; pc = pc; look = pc };
          sp = sp;
          link = if linked then Some link else None;
        } in
        let fits : Fits m.state.mem memory peek agrees place known.frame = record {
          at = pc;
          line = known.line;
          here = known.here;
          func = found;
          low = self;
          high = is.long;
          entry = known.inner.entry;
          base = known.inner.holds.base;
          room = known.inner.holds.low;
          word = first_word m known memory peek link agrees link_is slots linked refl;
        } in
        let rest = walks m.state.mem memory peek agrees known.further place known.frame fits known.standing
        (slots_behind (λ at. BytesStay m.state.mem memory at 8) known.frame known.further slots) in
        let call : ChainCall = record { func = known.frame.func; pc = pc; look = pc } in
        let calls = until (is_top_entry bytes) (chain_from known.frame.ret (call_place known.frame.call) known.further) in
        let starts : next_stage looks peek (stages.Start pc sp link) ≡ stages.At place =
        ap (λ (o : Option ℕ). begun looks o pc sp link) found
        ∙ test_on (is_some (instr_among functions (count_in bytes) pc)) (stages.At place) (stages.No (U2 pc)) is.begins in
        let chain : until (is_top_entry bytes) (chain_of m) ≡ (call ∷ rest_of known.frame known.further) =
        ap (λ (frames : List Frame). until (is_top_entry bytes) (chain_from pc pc frames)) known.calls
        ∙ test_cons (is_top_entry bytes known.frame.func) call calls in
        record {
          seen = place.seen ∷ rest.seen;
          shown = subst (λ (all : List ChainCall). AreCalls bytes (place.seen ∷ rest.seen) all) (sym chain) (
            shown_call pc known.line is pc pc pc known.frame.func (omega arith) is.long refl known.inner.entry,
            rest.shown,
          );
          given = (
            ap answer_at starts,
            subst (λ (stage : Stage). Gives looks peek stage rest.seen answers.End) (sym starts)
                (turned m.state.mem memory peek agrees (stages.At place) rest.seen rest.given),
          );
        }

    pub all_walk : (first : Moment) (more : List Moment) → AreKnown img first more
        → All (WalksToChain machine bytes around functions) (first ∷ more)
    all_walk first [] known =
        All-cons (WalksToChain machine bytes around functions) first [] (known_walks first known)
        (All-nil (WalksToChain machine bytes around functions))
    all_walk first (second ∷ more) known =
        All-cons (WalksToChain machine bytes around functions) first (second ∷ more) (known_walks first known.0)
        (all_walk second more known.1)
