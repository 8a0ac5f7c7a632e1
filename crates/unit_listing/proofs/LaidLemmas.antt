-- A function that is laid out.
use Rattle.std.proofs.Common.{◌≡◌, ℕ, List, ◌++◌, length, sym, ap, ◌∙◌, subst, refl, append_assoc}
use Rattle.std.specs.Prelude.{◌≢◌}
use Rattle.goasm_base.specs.declared.pos.Pos.{Pos}
use Rattle.goasm_base.specs.declared.statement.Function.{Function}
use Rattle.asm_target.specs.declared.body.Body.{Body}
use Rattle.asm_target.specs.declared.frame.FrameShape.{FrameShape}
use Rattle.branch_size.specs.declared.size_no.SizeNo.{SizeNo}
use Rattle.branch_size.specs.declared.size_no.SizeNo.TheVariants as sizing
use Rattle.branch_size.specs.Sizing.{branches_of, IsOutOfReach, IsSized}
use Rattle.branch_size.specs.Tables.{HasGoals}
use Rattle.branch_size.proofs.SizeLemmas.{count_is}
use Rattle.asm_parse.specs.declared.unit.Symbol.{Symbol}
use Rattle.unit_listing.specs.declared.laid.Laid.{Laid}
use Rattle.unit_listing.specs.declared.listing_no.ListingNo.TheVariants as no
use Rattle.unit_listing.specs.Joined.{AreJoined, Appends}
use Rattle.unit_listing.specs.Kit.{Kit, IsRewritten, frame_of, guard_of}
use Rattle.unit_listing.specs.Laid.{IsLaid, IsTold, of_sizing}
use Rattle.unit_listing.specs.Lines.{IsLine}
use Rattle.unit_listing.specs.Listing.{IsFunctionText, IsRefused, header}

module _ {Instr : Type 0} (kit : Kit Instr) (function : Function) where
  pub told : (laid : Laid Instr) → IsLaid kit function laid → IsTold kit laid
  told laid is =
      let count = count_is kit.set kit.fits kit.aiming kit.quantum (guard_of kit function) laid.body.code in
      record {
        goals = subst (λ (frame : FrameShape). HasGoals (kit.check frame) laid.body.code laid.goals) (sym is.rewritten.same) is.goals;
        places = is.sized.places ∙ count;
        forms = is.sized.forms ∙ count;
        form = is.sized.least.sound.forms;
      }

  -- sizes that are refused
  pub size_refused : (body : Body Instr) (refused : SizeNo) → IsRewritten kit function body
      → ((place : Pos) (distance : ℕ) → refused ≡ sizing.B1 place distance
      → IsOutOfReach (branches_of kit.set kit.fits kit.aiming kit.quantum (kit.check body.frame) body.code) body.code place distance)
      → of_sizing refused ≢ no.Memory → IsRefused kit function (of_sizing refused)
  size_refused body (sizing.B1 place distance) rewritten lost real = (
    body,
    rewritten,
    subst (λ (frame : FrameShape). IsOutOfReach (branches_of kit.set kit.fits kit.aiming kit.quantum (kit.check frame) body.code) body.code
        place distance) rewritten.same (lost place distance refl),
  )
  size_refused body sizing.Memory rewritten lost real = absurd (real refl)

  -- the function's name, and its lines behind that
  pub function_text : (symbols : List Symbol) (laid : Laid Instr) (before between after : List ℕ) → IsLaid kit function laid
      → between ≡ before ++ header symbols function
      → Appends (AreJoined (IsLine kit symbols laid.flags (kit.check laid.body.frame) laid.body.code laid.sizes) (length laid.body.code))
      between after
      → Appends (IsFunctionText kit symbols function) before after
  function_text symbols laid before between after is named (lines, are, there) =
      let Joined : ℕ → FrameShape → Type 0 = λ flags frame.
      AreJoined (IsLine kit symbols flags (kit.check frame) laid.body.code laid.sizes) (length laid.body.code) lines in (
        header symbols function ++ lines,
        record {
          body = laid.body;
          rewritten = is.rewritten;
          sizes = laid.sizes;
          sized = is.sized;
          lines = lines;
          joined = subst (λ frame. Joined function.flags frame) is.rewritten.same
              (subst (λ flags. Joined flags laid.body.frame) is.flags are);
          whole = refl;
        },
        there ∙ ap (λ text. text ++ lines) named ∙ append_assoc before (header symbols function) lines,
      )
