use Rattle.hs_effects.proofs.DeleteLemmas.{entered_answer}
use Rattle.hs_effects.proofs.deleted.a_delete_is_answered_at_its_effect.Goals as goal

pub returns : goal.returns
returns c = λ name cs core shard number line epoch counted its order first may enters below.
    entered_answer c.views_show_the_store.ensures.shown name cs core shard number line epoch counted its order first may enters below
