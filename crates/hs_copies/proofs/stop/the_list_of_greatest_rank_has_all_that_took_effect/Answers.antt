use Rattle.hs_replica.specs.Group.{view_after}
use Rattle.hs_copies.proofs.ImageLemmas.{stop}
use Rattle.hs_copies.proofs.RunLemmas.{chosen, stop_since}
use Rattle.hs_copies.proofs.stop.the_list_of_greatest_rank_has_all_that_took_effect.Goals as goal

pub returns : goal.returns
returns c = record {
  greatest = λ s p y images r i g. (stop s r p y images i g).0;
  told = stop_since;
  core = λ line c s p y images st g h.
      chosen (record { line = line; tells = view_after }) st.begun st.begun_at (record { copies = s; waits = c.waits })
      (record { right = st.faithful; owned = st.lines; tells = st.told }) p y images g h;
}
