use Rattle.hs_effects.proofs.DropLemmas.{dropped_answer}
use Rattle.hs_effects.proofs.dropped.a_drop_is_answered_at_its_effect.Goals as goal

pub returns : goal.returns
returns c = λ name cs core shard number line key its order first may kept.
    dropped_answer c.views_show_the_store.ensures.shown name cs core shard number line key its order first may kept
