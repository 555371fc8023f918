use Rattle.hs_steady.proofs.ShowLemmas.{opens_showing, shows_span, stays_along}
use Rattle.hs_steady.proofs.lists.a_store_in_step_shows_its_lists.Goals as goal

pub returns : goal.returns
returns c = record {
  span = λ c span result events machines w is shows kept cached. shows_span c span result events machines w is shows kept cached;
  goes_on = λ c events machines w on. stays_along c events machines w on;
  opened = λ set found span result events may on is keeps uncached shows. opens_showing set found span result events may on is keeps uncached shows;
}
