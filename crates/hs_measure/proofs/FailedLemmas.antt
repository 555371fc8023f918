-- The count of each disk rose by all failures that its reports tell: what a peer is to read stands in its list, and a core that ended with its opening has no report.
use Rattle.std.proofs.Common.{◌≡◌, sym, ap, subst, refl, ℕ, ◌+◌, ◌<◌, ◌++◌, [], Option, Some, None, length, arith}
use Rattle.std.specs.Prelude.{IfSome, flat_map, true}
use Rattle.hs_clauses.proofs.ListLemmas.{opened_is}
use Rattle.hs_clauses.specs.Shown.{IsShown, OnDisks}
use Rattle.hs_moments.proofs.OpeningLemmas.{all_good}
use Rattle.hs_cluster.specs.Kept.{AreStored}
use Rattle.hs_desk.specs.declared.fault.CoreFault.{CoreFault}
use Rattle.hs_events.specs.Due.{Events}
use Rattle.hs_events.specs.Found.{Found, first_core, opened_list, starts_good}
use Rattle.hs_events.specs.Reports.{failures}
use Rattle.hs_events.specs.Sane.{IsFromOne}
use Rattle.hs_events.specs.Taken.{peer_count}
use Rattle.hs_events.specs.Whole.{open_whole}
use Rattle.hs_fold.specs.Shards.Setting.{Numbered, Setting}
use Rattle.hs_measure.proofs.OpenedLemmas.{from_one}
use Rattle.hs_measure.proofs.ShownLemmas.{if_run}
use Rattle.hs_measure.specs.Counted.{CountsAllFailures}
use Rattle.hs_ports.specs.Moments.{disk_at}
use Rattle.hs_promise.specs.Machine.{loss_count, opening_is_whole}
use Rattle.hs_promise.specs.Run.{DiskRose, Ran, Script}
use Rattle.hs_promise.specs.Story.{Story, all_events}
use Rattle.hs_run.specs.Machine.{IsOfCluster, RunsOnDisks}
use Rattle.hs_settled.proofs.AskLemmas.{opening_none}
use Rattle.hs_settled.proofs.CausesGoodLemmas.{no_lines}
use Rattle.hs_standing.specs.Held.{GivesAddresses}

-- what a peer is to read is in what is sealed of its list, as hs_clauses has it
abbrev pub Seals : Type 0
Seals =
    (set : Setting) (found : Found) (events : Events) → set.shape.copies ≡ 1 → (first_core set found).ended ≡ None
    → ((shard : ℕ) → shard < set.shape.shards → IsFromOne (opened_list set found shard)) → length found.good ≡ peer_count set.shape → AreStored (open_whole set found) events

module _ (seals : Seals) (S : Script) (r : Ran) (story : Story) (on : OnDisks S r) (shown : IsShown S r story) where
  stored : (first_core S.set story.found).ended ≡ None → AreStored (open_whole S.set story.found) (all_events story)
  stored going = seals S.set story.found (all_events story) on.one going lists shown.went.found.goods
    where
      good : (p : ℕ) → p < S.set.shape.shards → starts_good story.found p ≡ true
      good p low = all_good S.set story.found on.one shown.went.found.goods going p low

      lists : (shard : ℕ) → shard < S.set.shape.shards → IsFromOne (opened_list S.set story.found shard)
      lists p low =
          subst (λ (list : Numbered). IsFromOne list) (sym (opened_is S r story shown.went on.one shown.read on.disks good p low))
          (from_one (disk_at r.old.disks p).seen)

  no_event : (fault : CoreFault) → (first_core S.set story.found).ended ≡ Some fault → all_events story ≡ []
  no_event fault over = λ i. opening i ++ flat_map (λ (line : Events). line) (lines i)
    where
      opening : story.opening ≡ []
      opening = opening_none (opening_is_whole r story.lines) (first_core S.set story.found) story.opening fault over shown.went.opening

      lines : story.lines ≡ []
      lines = no_lines S r story shown.went fault over

  rose : (tells : Type 0) → tells → RunsOnDisks tells S r story → CountsAllFailures S r story
  rose tells told runs disk = go (first_core S.set story.found).ended refl
    where
      go : (o : Option CoreFault) → (first_core S.set story.found).ended ≡ o → DiskRose r (failures true disk (first_core S.set story.found) (all_events story) + loss_count story disk) disk
      go None going = runs.failed told (runs.shown.read on.one told going (stored going)) disk
      go (Some fault) over =
          let none : failures true disk (first_core S.set story.found) (all_events story) ≡ 0 = ap (λ (es : Events). failures true disk (first_core S.set story.found) es) (no_event fault over) in
          let same : loss_count story disk ≡ failures true disk (first_core S.set story.found) (all_events story) + loss_count story disk = omega (arith, none) in
          subst (λ (n : ℕ). DiskRose r n disk) same (runs.lost told disk)

pub machine_counts : Seals → (tells : Type 0) (S : Script) (r : Ran) → GivesAddresses S.set.name → (machine : IsOfCluster tells S r) → S.set.shape.copies ≡ 1 → tells → IfSome machine.how (CountsAllFailures S r)
machine_counts seals tells S r names machine one told =
    if_run tells S r (CountsAllFailures S r) names machine one told (λ story on shown runs. rose seals S r story on shown tells told runs)
