use Rattle.std.proofs.Common.{◌∙◌, ◌++◌, [], ◌∷◌, ap, sym, add-one}
use Rattle.goasm.proofs.WordLemmas.{take_on, take_whole}
use Rattle.goasm.proofs.words.words.Goals as goal

pub returns-in-None : goal.returns-in-None
returns-in-None g c = λ words told.
    c.new.ensures ∙ c.loop-number.invariant words told
    ∙ take_whole words c.loop-number.number (sym (c.in_ok-word.ensures words told) ∙ c.in-None.is)

pub loop-number-preserved : goal.loop-number-preserved
loop-number-preserved g c = λ words told.
    rw add-one (c.in_ok-push-in-Some.ensures.items
    ∙ ap (λ list. list ++ c.in-Some.word ∷ []) (c.loop-number.invariant words told)
    ∙ sym (take_on words c.loop-number.number c.in-Some.word (sym (c.in_ok-word.ensures words told) ∙ c.in-Some.is)))
