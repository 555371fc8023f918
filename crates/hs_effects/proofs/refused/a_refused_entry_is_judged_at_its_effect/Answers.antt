use Rattle.hs_effects.proofs.RefusedLemmas.{refused_answer}
use Rattle.hs_effects.proofs.refused.a_refused_entry_is_judged_at_its_effect.Goals as goal

pub returns : goal.returns
returns c = λ name cs core shard number line entry w r folded low order leads by at did addressed refuses.
    refused_answer c.an_answer_is_the_judges.ensures.answered name cs core shard number line entry w r folded low order leads by at did addressed refuses
