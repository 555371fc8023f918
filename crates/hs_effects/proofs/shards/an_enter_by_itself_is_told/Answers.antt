use Rattle.hs_effects.proofs.EnterLemmas.{entered, quiet}
use Rattle.hs_effects.proofs.shards.an_enter_by_itself_is_told.Goals as goal

pub returns-clause-enters : goal.returns-clause-enters
returns-clause-enters c = λ name cs core shard line epoch its alone may comes.
    entered c.views_show_the_store.ensures.shown name cs core shard line epoch alone its may comes

pub returns-clause-silent : goal.returns-clause-silent
returns-clause-silent c = λ name cs core shard line epoch its alone may stays.
    quiet c.views_show_the_store.ensures.shown name cs core shard line epoch alone its may stays
