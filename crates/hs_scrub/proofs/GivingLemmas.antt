-- Giving a log the whole of another list.
use Rattle.std.proofs.Common.{◌≡◌, ◌∙◌, subst, ℕ, ◌+◌, ◌≤◌, List, None, take, refl}
use Rattle.hs_entry.specs.declared.entry.Entry.{Entry}
use Rattle.hs_peerlog.proofs.ImageLemmas.{Since}
use Rattle.hs_peerlog.proofs.StayLemmas.{seen-list}
use Rattle.hs_peerlog.specs.Lists.{HasLog, Keeping}
use Rattle.hs_peerlog.specs.Views.{HasView, Viewing}
use Rattle.hs_ports.specs.declared.disk.Side.{Side}
use Rattle.hs_ports.specs.Disk.{IsImage, Standing}
use Rattle.hs_ports.specs.Fault.{HasRisen}
use Rattle.hs_scrub.proofs.CopyLemmas.{calls_none, calls_then, calm_both, each_then, stopped_then}
use Rattle.hs_scrub.proofs.GiveLemmas.{fronts_none}
use Rattle.hs_scrub.proofs.StillLemmas.{has_still}
use Rattle.hs_scrub.specs.CopySteps.{AreCalm, Calls, HasAll, HasFronts, HasMore, IsFront, IsOpen, IsStopped}
use Rattle.hs_scrub.specs.declared.mark.PeerMark.{PeerMark}
use Rattle.hs_taking.proofs.LoadLemmas.{all_read}
use Rattle.hs_taking.specs.Disks.{DiskSeen, seen_at}

-- a log that was empty has the first entries of the source, and no call failed
pub record Giving (tells : Type 0) (source : Viewing) (from place before now index : ℕ) (old new : List DiskSeen) (log log' : Keeping) : Type 0 where
  pub calls : Calls tells from place before now old new
  pub calm : AreCalm from place old new
  pub opens : IsOpen tells (seen_at new place) log'
  pub list : tells → (seen_at old place).stands.last ≤ before → (whole : List (ℕ × Entry)) → HasView source (seen_at old from).stands.seen whole → HasLog log (seen_at old place).stands (take 0 whole) None
      → HasLog log' (seen_at new place).stands (take index whole) None
  pub fronts : HasFronts tells source before now (seen_at old from) (seen_at old place) (seen_at new place) log 0

pub giving_none : (tells : Type 0) (source : Viewing) (from place now : ℕ) (disks : List DiskSeen) (log : Keeping) → IsOpen tells (seen_at disks place) log → (tells → Since (seen_at disks place).stands) → Giving tells source from place now now 0 disks disks log log
giving_none tells source from place now disks log opens since = record {
  calls = calls_none tells from place now disks;
  calm = record { source = refl; target = refl };
  opens = opens;
  list = λ told last whole has own. own;
  fronts = fronts_none tells source now (seen_at disks from) (seen_at disks place) (seen_at disks place) log 0 refl since;
}

module _ (tells : Type 0) (source : Viewing) (from place before mid now index : ℕ) (old cur new : List DiskSeen) (log own next : Keeping) (so_far : Giving tells source from place before mid index old cur log own) (calls : Calls tells from place mid now cur new)
    (fronts : HasFronts tells source mid now (seen_at cur from) (seen_at cur place) (seen_at new place) own index) where
  -- what the source tells, after so many reads
  has_cur : tells → (whole : List (ℕ × Entry)) → HasView source (seen_at old from).stands.seen whole → HasView source (seen_at cur from).stands.seen whole
  has_cur told whole has = has_still tells (seen_at old from) (seen_at cur from) source whole so_far.calls.source told has

  has_old : tells → (whole : List (ℕ × Entry)) → HasView source (seen_at cur from).stands.seen whole → HasView source (seen_at old from).stands.seen whole
  has_old told whole has = subst (λ (d : Standing). HasView source d.seen whole) (so_far.calls.source.stands told) has

  last_cur : tells → (seen_at old place).stands.last ≤ before → (seen_at cur place).stands.last ≤ mid
  last_cur told last = (so_far.calls.past told last).last

  pub fronts_more : HasFronts tells source before now (seen_at old from) (seen_at old place) (seen_at new place) log 0
  fronts_more = λ told last whole has first.
      each_then (IsFront whole) (so_far.fronts told last whole has first) (fronts told (last_cur told last) whole (has_cur told whole has) (so_far.list told last whole has first))

  pub calls_more : Calls tells from place before now old new
  calls_more = calls_then tells from place before mid now old cur new so_far.calls calls

  pub giving_more : AreCalm from place cur new → HasMore tells source mid (seen_at cur from) (seen_at cur place) (seen_at new place) own next index → Giving tells source from place before now (index + 1) old new log next
  giving_more calm more = record {
    calls = calls_more;
    calm = calm_both from place old cur new so_far.calm calm;
    opens = more.opens;
    list = λ told last whole has first. more.list told (last_cur told last) whole (has_cur told whole has) (so_far.list told last whole has first);
    fronts = fronts_more;
  }

  pub left_more : HasRisen (seen_at cur place).faults (seen_at new place).faults × ((seen_at new from).faults ≡ (seen_at cur from).faults) → HasRisen (seen_at old place).faults (seen_at new place).faults × ((seen_at new from).faults ≡ (seen_at old from).faults)
  left_more rose = (subst (λ n. HasRisen n (seen_at new place).faults) so_far.calm.target rose.0, rose.1 ∙ so_far.calm.source)

  pub stopped_more : (mark : PeerMark) → IsStopped tells (HasView source (seen_at cur from).stands.seen) (seen_at cur from).faults (seen_at new from).faults mark → IsStopped tells (HasView source (seen_at old from).stands.seen) (seen_at old from).faults (seen_at new from).faults mark
  stopped_more mark h = stopped_then tells (HasView source (seen_at cur from).stands.seen) (HasView source (seen_at old from).stands.seen) (seen_at old from).faults (seen_at cur from).faults (seen_at new from).faults mark so_far.calm.source
      (λ list told has. has_cur told list has) h

-- all of it was given
pub giving_all : (tells : Type 0) (source : Viewing) (from place before now index : ℕ) (old new : List DiskSeen) (log own : Keeping) → source.rank.number ≤ index → (tells → (side : Side) → IsImage ((seen_at new place).stands.loose side) ((seen_at new place).stands.seen side))
    → Giving tells source from place before now index old new log own → HasAll tells source before (seen_at old from) (seen_at old place) (seen_at new place) log
giving_all tells source from place before now index old new log own all stays so_far = record {
  list = λ told last whole has first.
      let whole_is : take index whole ≡ whole = all_read source (seen_at old from).stands.seen whole index has all in
      let has_log : HasLog own (seen_at new place).stands whole None = subst (λ es. HasLog own (seen_at new place).stands es None) whole_is (so_far.list told last whole has first) in
      record { gives = seen-list (seen_at new place).stands whole (stays told) has_log.leaves; leaves = has_log.leaves };
}
