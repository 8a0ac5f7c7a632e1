use Rattle.std.proofs.Common.{◌++◌, codes, refl, ◌∙◌, ap, append_assoc}
use Rattle.std.specs.Prelude.{pos}
use Rattle.std.proofs.lemmas.Result.{on_err_weaker}
use Rattle.goasm_base.specs.Numbers.{decimal_text}
use Rattle.goasm_text.specs.Lines.{name_in}
use Rattle.goasm_text.proofs.FrontLemmas.{front_of, on_err}
use Rattle.goasm_text.proofs.lines.push_place.Goals as goal

pub returns-in_err-push-2-clause-err : goal.returns-in_err-push-2-clause-err
returns-in_err-push-2-clause-err c =
    on_err c.from_residual-in_err-push-2.result
    (front_of c.args.text.now c.push-2.new.self _ (name_in c.args.files.now c.args.at.file) (codes ":" ++ decimal_text (pos c.args.at.line))
    (append_assoc (name_in c.args.files.now c.args.at.file) (codes ":") (decimal_text (pos c.args.at.line)))
    (c.in_err-push-2.ensures.err ∙ c.in_ok-push.ensures.ok ∙ ap (λ name. c.args.text.now ++ name) c.name_in.ensures))

pub returns-clause-err : goal.returns-clause-err
returns-clause-err c =
    on_err_weaker c.push_unsigned.result
    (λ same. front_of c.args.text.now c.push_unsigned.new.self _ (name_in c.args.files.now c.args.at.file ++ codes ":") (decimal_text (pos c.args.at.line)) refl
    (same ∙ c.in_ok-push-2.ensures.ok ∙ ap (λ text. text ++ codes ":") (c.in_ok-push.ensures.ok ∙ ap (λ name. c.args.text.now ++ name) c.name_in.ensures)
    ∙ append_assoc c.args.text.now (name_in c.args.files.now c.args.at.file) (codes ":")))
    c.push_unsigned.ensures.err
