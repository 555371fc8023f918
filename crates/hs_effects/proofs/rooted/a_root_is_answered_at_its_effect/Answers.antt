use Rattle.hs_effects.proofs.RootLemmas.{root_answer}
use Rattle.hs_effects.proofs.rooted.a_root_is_answered_at_its_effect.Goals as goal

pub returns : goal.returns
returns c = λ name cs core shard number line epoch a key its order first may did.
    root_answer c.views_show_the_store.ensures.shown c.an_effect_is_the_stores.ensures.rooted name cs core shard number line epoch a key its order first may did
