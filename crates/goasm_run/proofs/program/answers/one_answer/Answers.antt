use Rattle.goasm_run.proofs.QuestionLemmas.{have_one}
use Rattle.goasm_run.proofs.program.answers.one_answer.Goals as goal

pub returns : goal.returns
returns c =
    have_one
    (record {
      one = c.one_listing.ensures.one;
      never = c.one_listing.ensures.never;
      first = c.one_listing.ensures.first;
    })
    (record { one = c.one_text.ensures; never = c.refused_is_unsound.ensures; first = c.one_refusal.ensures })
    (record { text = c.one_chain.ensures.text; never = c.one_chain.ensures.never; refusal = c.one_chain.ensures.refusal })
