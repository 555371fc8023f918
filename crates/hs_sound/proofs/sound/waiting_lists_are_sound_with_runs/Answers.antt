use Rattle.hs_sound.proofs.SoundLemmas.{whole_along, blank_along}
use Rattle.hs_sound.proofs.sound.waiting_lists_are_sound_with_runs.Goals as goal

pub returns-clause-behind : goal.returns-clause-behind
returns-clause-behind c = λ set lists lawful shape records stay. (whole_along set lists lawful shape stay.each records stay.waits stay.records stay.views).sound

pub returns-clause-blank : goal.returns-clause-blank
returns-clause-blank c = λ set some. blank_along set some

pub returns-clause-again : goal.returns-clause-again
returns-clause-again c = λ set lists shape along stay. whole_along set lists along.sound.lawful shape stay.each along.records stay.waits stay.records stay.views
