use Rattle.hs_known_copies.proofs.KnownLemmas.{opens_along, opens_in_step, soundly_knows}
use Rattle.hs_known_copies.proofs.known.a_store_that_opens_comes_on.Goals as goal

pub returns : goal.returns
returns c = record {
  opens = λ shape limits taken moment logs may on. opens_in_step shape limits taken moment logs may on;
  along = λ shape limits taken moment logs events may. opens_along shape limits taken moment logs events may;
  soundly = λ set found events o. soundly_knows set found o events;
}
