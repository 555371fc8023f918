use Rattle.hs_effects.proofs.BlockLemmas.{block_answer}
use Rattle.hs_effects.proofs.stored.a_new_block_is_answered_at_its_effect.Goals as goal

pub returns : goal.returns
returns c = λ name cs core shard number line least bytes its order all first may did.
    block_answer c.views_show_the_store.ensures.shown c.an_effect_is_the_stores.ensures.stored name cs core shard number line least bytes its order all first may did
