use Rattle.hs_events.specs.Whole.{Whole, open_whole}
use Rattle.hs_tails.proofs.OpenFirstLemmas.{first_begun}
use Rattle.hs_tails.proofs.RankLemmas.{may_be_chosen}
use Rattle.hs_tails.proofs.StandsLemmas.{tails_stand}
use Rattle.hs_tails.specs.Chosen.{AreChosen, TailsStand, disks_of, lead_lists}
use Rattle.hs_tails.specs.Stop.{MayStopWithTails, left_at}
use Rattle.hs_tails.proofs.run.the_lists_of_greatest_rank_reopen.Goals as goal

pub returns-clause-stops : goal.returns-clause-stops
returns-clause-stops c = λ start stop whole left peers may greatest.
    let stands : TailsStand start stop whole.core.journal (disks_of whole) (lead_lists whole) whole.core = tails_stand start whole may.runs.runs stop may.begun may.runs.keeps.lines in
    let chosen : AreChosen start.set.shape (disks_of whole) (lead_lists whole) (λ shard. left (peers shard)) = λ shard low. may_be_chosen start whole may.runs.runs shard low left (peers shard) (greatest shard low) in
    record {
      stands = c.chosen_lists_reopen.ensures.stands start stop whole.core.journal (disks_of whole) (lead_lists whole) whole.core (λ shard. left (peers shard)) stands chosen;
      legal = c.chosen_lists_reopen.ensures.legal start stop whole.core.journal (disks_of whole) (lead_lists whole) whole.core (λ shard. left (peers shard)) stands chosen;
      sound = c.chosen_lists_reopen.ensures.sound start stop whole.core.journal (disks_of whole) (lead_lists whole) whole.core (λ shard. left (peers shard)) stands chosen;
      awaited = c.chosen_lists_reopen.ensures.awaited start stop whole.core.journal (disks_of whole) (lead_lists whole) whole.core (λ shard. left (peers shard)) stands chosen;
      once = c.chosen_lists_reopen.ensures.once start stop whole.core.journal (disks_of whole) (lead_lists whole) whole.core (λ shard. left (peers shard)) stands chosen;
    }

pub returns-clause-runs : goal.returns-clause-runs
returns-clause-runs c = λ start stop found events left peers begins first few keep inside going greatest.
    let whole : Whole = left_at start.set found events stop.moment in
    let opened = c.a_run_goes_on_with_its_tails.ensures.opens start found begins first few in
    let may : MayStopWithTails start stop whole = c.a_run_goes_on_with_its_tails.ensures.moments start stop (open_whole start.set found) events opened (first_begun start stop found) keep inside going in
    let stands : TailsStand start stop whole.core.journal (disks_of whole) (lead_lists whole) whole.core = tails_stand start whole may.runs.runs stop may.begun may.runs.keeps.lines in
    let chosen : AreChosen start.set.shape (disks_of whole) (lead_lists whole) (λ shard. left (peers shard)) = λ shard low. may_be_chosen start whole may.runs.runs shard low left (peers shard) (greatest shard low) in
    record {
      stands = c.chosen_lists_reopen.ensures.stands start stop whole.core.journal (disks_of whole) (lead_lists whole) whole.core (λ shard. left (peers shard)) stands chosen;
      legal = c.chosen_lists_reopen.ensures.legal start stop whole.core.journal (disks_of whole) (lead_lists whole) whole.core (λ shard. left (peers shard)) stands chosen;
      sound = c.chosen_lists_reopen.ensures.sound start stop whole.core.journal (disks_of whole) (lead_lists whole) whole.core (λ shard. left (peers shard)) stands chosen;
      awaited = c.chosen_lists_reopen.ensures.awaited start stop whole.core.journal (disks_of whole) (lead_lists whole) whole.core (λ shard. left (peers shard)) stands chosen;
      once = c.chosen_lists_reopen.ensures.once start stop whole.core.journal (disks_of whole) (lead_lists whole) whole.core (λ shard. left (peers shard)) stands chosen;
    }
