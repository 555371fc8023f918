use Rattle.hs_copies.proofs.OpenedLemmas.{lives_right, opened_right}
use Rattle.hs_copies.proofs.ViewKeeps.{after_right}
use Rattle.hs_copies.proofs.faithful.events_keep_the_copies_faithful.Goals as goal

pub returns : goal.returns
returns c = record { opened = opened_right; kept = λ s event r a. after_right s r event a; run = lives_right }
