use Rattle.std.proofs.Common.{◌≡◌, sym, ◌∙◌, false}
use Rattle.hs_deletion.specs.Rounds.{total_in}
use Rattle.hs_deletion.specs.History.{is_last}
use Rattle.hs_deletion.proofs.LabelLemmas.{not_last_tells}
use Rattle.hs_deletion.proofs.HistoryKeeps.{right_made}
use Rattle.hs_deletion.proofs.OpenLemmas.{last_same}
use Rattle.hs_deletion.proofs.FollowShards.{enter_sends, search_sends}
use Rattle.hs_deletion.proofs.catalogue.catalogues_send_what_the_machine_sends.Goals as goal

pub returns-clause-first : goal.returns-clause-first
returns-clause-first x layout m shard c made follows may = enter_sends layout m (right_made layout m made) shard may.within may c follows

pub returns-clause-next : goal.returns-clause-next
returns-clause-next x layout m shard c made is to =
    let right = right_made layout m made in
    let e : is_last layout shard m ≡ false = sym (last_same layout m right shard is.within c is.follows is.complete) ∙ is.more in
    rw e (search_sends layout m right shard is.within c is.follows is.complete (not_last_tells (m.states shard).round (total_in layout m.states (m.states shard).completed) e) to)
