-- With any number of copies what a cluster shows of a run is what is asked of it here, where the disks tell their contents and no call of one was ahead at entry: the lists at each moment behind the opening of the core, and up to it of each disk that it had at entry, or a front of the one that is taken.
use Rattle.std.proofs.Common.{◌≡◌, ◌∙◌, inl, inr, ap, sym, subst, ℕ, ◌<◌, ◌≤◌, ◌^◌, ◌-◌, true, List, [], ◌∷◌, Option, Some, None, refl, length, is_some, arith}
use Rattle.std.proofs.lemmas.Bool.{false≢true}
use Rattle.std.specs.Prelude.{IsSome}
use Rattle.hs_clauses.proofs.ShownLemmas.{seen_as}
use Rattle.hs_clauses.proofs.ToldRunLemmas.{told_of}
use Rattle.hs_clauses.specs.Stopped.{IsEarly, IsShownOf, LeavesAt}
use Rattle.hs_cluster.specs.Disks.{DiskSeen, stands_of}
use Rattle.hs_cluster.specs.Kept.{LeavesLists, Span}
use Rattle.hs_cluster.specs.Opens.{IsFound}
use Rattle.hs_cluster.specs.RunsOn.{RunsOn, from_opening}
use Rattle.hs_desk.specs.declared.fault.CoreFault.{CoreFault}
use Rattle.hs_events.specs.Course.{happened}
use Rattle.hs_events.specs.Due.{Events, MomentsRise}
use Rattle.hs_events.specs.Found.{first_core, opened_list, starts_good}
use Rattle.hs_events.specs.Taken.{is_taken, peer_count, taken_list}
use Rattle.hs_events.specs.Whole.{open_whole}
use Rattle.hs_fold.specs.Images.{IsLeft}
use Rattle.hs_fold.specs.Shards.Images.{Image}
use Rattle.hs_fold.specs.Shards.Setting.{Numbered}
use Rattle.hs_known_copies.proofs.KnownLemmas.{whole_opens}
use Rattle.hs_members.specs.Members.{home_of}
use Rattle.hs_moments.specs.Moments.{ListsAtMoments, Since}
use Rattle.hs_moments.specs.WholeMachine.{whole_machine}
use Rattle.hs_peerlog.specs.Images.{GivesList, IsAny, LeavesAny, LeavesOnly}
use Rattle.hs_peerlog.specs.Lists.{Keeping}
use Rattle.hs_ports.specs.declared.disk.Side.{Side}
use Rattle.hs_ports.specs.Disk.{IsImage, Loose, Standing}
use Rattle.hs_ports.specs.Moments.{disk_at}
use Rattle.hs_ports.specs.Objects.{IsDuring}
use Rattle.hs_promise.specs.declared.status.Status.TheVariants as status
use Rattle.hs_promise.specs.Found.{IsReadAs}
use Rattle.hs_promise.specs.Machine.{Went}
use Rattle.hs_promise.specs.Run.{Ran, Script}
use Rattle.hs_promise.specs.Story.{Story, all_events}
use Rattle.hs_side.specs.Current.{list_in}
use Rattle.hs_standing.specs.Opening.{OpensSoundly}
use Rattle.hs_steady.proofs.ShowLemmas.{run_shows}
use Rattle.hs_taking.specs.Copies.{IsHadOrFront, IsOwnOrFront}
use Rattle.hs_taking.specs.Disks.{log_at, seen_at}

module _ (tells : Type 0) (S : Script) (r : Ran) (story : Story) (span : Span) (told : tells) (before : span.before ≡ r.old.moment) (now : span.now ≡ r.new.moment) (old : stands_of span.disks ≡ r.old.disks)
    (new : stands_of span.left ≡ r.new.disks) (runs : RunsOn tells S.set span story.found (all_events story)) (behind : (peer : ℕ) → (disk_at r.old.disks peer).last ≤ r.old.moment) (since : Since r.new.disks) where
  called : (p : ℕ) → (seen_at span.disks p).stands.last ≤ span.before
  called p =
      let last = ap (λ (d : Standing). d.last) (seen_as span.disks r.old.disks p old) in
      let low = behind p in
      omega (arith, last, low, before)

  -- ---- what opening leaves of a disk, seen at a moment at which it is what it was right before the first turn

  module _ (p : ℕ) (low : p < peer_count S.set.shape) (own : Numbered) (only : LeavesOnly (disk_at r.old.disks p) own) (m : ℕ) (above : r.old.moment < m) (bound : m < 2 ^ 64 - 1)
      (same : (side : Side) → (disk_at r.new.disks p).past m side ≡ (seen_at runs.disks p).stands.past m side) where
    found : IsFound tells S.set (record { before = span.before; now = story.found.opened; old = span.disks; new = runs.disks }) story.found runs.slots p
    found = runs.finds.each p low

    had : LeavesAny (seen_at span.disks p).stands (λ k. own)
    had =
        subst (λ (d : Standing). LeavesAny d (λ k. own)) (sym (seen_as span.disks r.old.disks p old))
        (λ image stands. record { list = own; read = only image stands; holds = record { at = 0; same = refl } })

    later : span.before < m
    later = omega (arith, before, above)

    module _ (image : Image) (left : IsLeft (disk_at r.new.disks p) m image) where
      sides : (side : Side) → IsImage ((seen_at runs.disks p).stands.past m side) (image side)
      sides side = subst (λ (l : Loose). IsImage l (image side)) (same side) (left.sides side)

      taken_is : is_taken S.set.shape story.found.logs p ≡ true → list_in image ≡ Some own
      taken_is taken =
          let gives : GivesList (IsAny (λ k. own)) image = (found.taken taken told (called p) (λ k. own) had).each m later bound image sides in
          gives.read ∙ ap (λ (l : Numbered). Some l) gives.holds.same

      each_is : GivesList (IsOwnOrFront own (taken_list S.set.shape story.found.logs (home_of S.set.shape p))) image
      each_is =
          let gives : GivesList (IsHadOrFront (taken_list S.set.shape story.found.logs (home_of S.set.shape p)) (λ k. own)) image = (found.leaves told (called p) (λ k. own) had).each m later bound image sides in
          record {
            list = gives.list;
            read = gives.read;
            holds = elim gives.holds [
              | inl any ↦ inl any.same
              | inr front ↦ inr front
            ];
          }

    leaves_at : LeavesAt S r story p own m
    leaves_at = record { each = each_is; taken = λ taken image left. taken_is image left taken }

  -- ---- where the core ended with its opening

  module _ (ended : IsSome (first_core S.set story.found).ended) where
    stays : (p : ℕ) → disk_at r.new.disks p ≡ (seen_at runs.disks p).stands
    stays p =
        ap (λ (ds : List Standing). disk_at ds p) (sym new)
        ∙ ap (λ (ds : List DiskSeen). disk_at (stands_of ds) p) (runs.still ended)
        ∙ sym (seen_as runs.disks (stands_of runs.disks) p refl)

    leaves_ended : (p : ℕ) → p < peer_count S.set.shape → (own : Numbered) → LeavesOnly (disk_at r.old.disks p) own → (m : ℕ) → IsDuring r.old r.new m → LeavesAt S r story p own m
    leaves_ended p low own only m during = leaves_at p low own only m during.above during.early (λ side. ap (λ (d : Standing). d.past m side) (stays p))

    opened_ended : (p : ℕ) → p < peer_count S.set.shape → starts_good story.found p ≡ true → (m : ℕ) → story.found.opened < m → (image : Image) → IsLeft (disk_at r.new.disks p) m image
        → list_in image ≡ Some (opened_list S.set story.found (home_of S.set.shape p))
    opened_ended p low good m later image left =
        (its.log told (called p) slot.0 slot.1).leaves image (record {
          sides = λ side. subst (λ (l : Loose). IsImage l (image side)) (since p side m early ∙ ap (λ (d : Standing). d.loose side) (stays p)) (left.sides side);
        })
      where
        its : IsFound tells S.set (record { before = span.before; now = story.found.opened; old = span.disks; new = runs.disks }) story.found runs.slots p
        its = runs.finds.each p low

        some_slot : (o : Option Keeping) → is_some o ≡ true → (keeping : Keeping) × (o ≡ Some keeping)
        some_slot None e = absurd (false≢true e)
        some_slot (Some keeping) e = (keeping, refl)

        slot : (keeping : Keeping) × (log_at runs.slots p ≡ Some keeping)
        slot = some_slot (log_at runs.slots p) (sym its.good ∙ good)

        early : (disk_at r.new.disks p).last < m
        early =
            let past = (its.past told (called p)).last in
            let same = ap (λ (d : Standing). d.last) (stays p) in
            omega (arith, past, same, later)

  -- ---- where it goes on

  module _ (soundly : OpensSoundly S.set story.found) (going : (first_core S.set story.found).ended ≡ None) where
    shows : LeavesLists (open_whole S.set story.found) (all_events story) (from_opening story.found runs.disks span)
    shows = run_shows tells S.set span story.found (all_events story) runs told called (whole_opens S.set story.found soundly) going

    -- up to the opening a disk is what it was right before the first turn
    past_early : (p m : ℕ) (side : Side) → m ≤ story.found.opened → m < 2 ^ 64 - 1 → (disk_at r.new.disks p).past m side ≡ (seen_at runs.disks p).stands.past m side
    past_early p m side early bound =
        ap (λ (ds : List Standing). (disk_at ds p).past m side) (sym new)
        ∙ shows.earlier p m side early bound
        ∙ ap (λ (d : Standing). d.past m side) (sym (seen_as runs.disks (stands_of runs.disks) p refl))

    leaves_early : (p : ℕ) → p < peer_count S.set.shape → (own : Numbered) → LeavesOnly (disk_at r.old.disks p) own → (m : ℕ) → IsEarly r story m → LeavesAt S r story p own m
    leaves_early p low own only m early =
        leaves_at p low own only m early.above early.early (λ side. past_early p m side early.up_to early.early)

    lists_then : ListsAtMoments whole_machine (open_whole S.set story.found) (happened (first_core S.set story.found) (all_events story)) (record { before = story.found.opened; now = r.new.moment; disks = r.new.disks })
    lists_then = record {
      fine = λ m p above up_to early counts image left.
          shows.moments.fine m p above (omega (arith, up_to, now)) early counts image
          (subst (λ (ds : List Standing). IsLeft (disk_at ds p) m image) (sym new) left);
    }

  -- ---- no call of a disk is ahead at the end

  rises_to : (from to : ℕ) (es : Events) → MomentsRise from es to → from ≤ to
  rises_to from to [] h = h
  rises_to from to (e ∷ es) h = let low = h.0 in let rest = rises_to e.1 to es h.1 in omega (arith, low, rest)

  called_then : Went S r story → ((first_core S.set story.found).ended ≡ None → OpensSoundly S.set story.found) → (p : ℕ) → p < peer_count S.set.shape → (disk_at r.new.disks p).last ≤ r.new.moment
  called_then went soundly p low = go (first_core S.set story.found).ended refl
    where
      go : (o : Option CoreFault) → (first_core S.set story.found).ended ≡ o → (disk_at r.new.disks p).last ≤ r.new.moment
      go None going =
          let last = (shows (soundly going) going).keeps.called p in
          let same = ap (λ (ds : List Standing). (disk_at ds p).last) new in
          omega (arith, last, same, now)
      go (Some f) over =
          let past = ((runs.finds.each p low).past told (called p)).last in
          let same = ap (λ (d : Standing). d.last) (stays (subst (λ (o : Option CoreFault). IsSome o) (sym over) refl) p) in
          let up = rises_to story.found.opened r.new.moment (all_events story) went.rises in
          omega (arith, past, same, up)

  pub shown_moments : Went S r story → ((peer : ℕ) → peer < peer_count S.set.shape → IsReadAs r story peer) → (r.ending ≡ status.WriteFault → story.lines ≡ [] → 0 < length r.journal) → IsShownOf S r story
  shown_moments went read answered = record {
    told = told_of tells S r story span told before old runs (inr behind) went read;
    early = leaves_early;
    lists = lists_then;
    ended = leaves_ended;
    opened = opened_ended;
    answered = answered;
    called = called_then went;
  }
