use Rattle.hs_effects.proofs.MarkLemmas.{mark_answer}
use Rattle.hs_effects.proofs.marked.a_present_block_is_answered_at_its_effect.Goals as goal

pub returns : goal.returns
returns c = λ name cs core shard number line least block a its order written first may did.
    mark_answer c.views_show_the_store.ensures.shown c.an_effect_is_the_stores.ensures.marked name cs core shard number line least block a its order written first may did
