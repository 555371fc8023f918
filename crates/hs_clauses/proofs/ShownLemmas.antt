-- What a cluster shows of a run is what is asked of it here, where the disks tell their contents.
use Rattle.std.proofs.Common.{◌≡◌, ◌∙◌, ap, sym, subst, ℕ, zero, suc, ◌*◌, ◌<◌, ◌≤◌, List, [], ◌∷◌, Some, None, refl, length, arith}
use Rattle.std.proofs.lemmas.List.{length-map}
use Rattle.std.specs.Prelude.{IsSome, true}
use Rattle.hs_clauses.specs.Shown.{HaveOneList, IsShown, IsUnopened, KeepLists, KeepsList, OnDisks}
use Rattle.hs_cluster.specs.Disks.{DiskSeen, seen_at, stands_of}
use Rattle.hs_cluster.specs.Kept.{Span}
use Rattle.hs_cluster.specs.Opens.{LeaveOneList}
use Rattle.hs_cluster.specs.RunsOn.{RunsOn}
use Rattle.hs_cluster.specs.Unopened.{LeavesAsTaken}
use Rattle.hs_events.specs.Course.{happened}
use Rattle.hs_events.specs.Found.{first_core}
use Rattle.hs_events.specs.Taken.{peer_count}
use Rattle.hs_events.specs.Whole.{open_whole}
use Rattle.hs_fold.specs.Images.{IsLeft}
use Rattle.hs_fold.specs.Shards.Setting.{Numbered}
use Rattle.hs_moments.specs.Moments.{ListsAtMoments}
use Rattle.hs_moments.specs.WholeMachine.{whole_machine}
use Rattle.hs_peerlog.specs.Images.{GivesList, Is, LeavesOnly}
use Rattle.hs_ports.specs.Disk.{Standing}
use Rattle.hs_ports.specs.Moments.{disk_at}
use Rattle.hs_promise.specs.Ending.{ending_of}
use Rattle.hs_promise.specs.Found.{IsReadAs}
use Rattle.hs_promise.specs.Machine.{NeverOpened, Went}
use Rattle.hs_promise.specs.Run.{Ran, Script}
use Rattle.hs_promise.specs.Story.{Story, all_events}
use Rattle.hs_side.specs.Current.{list_in}
use Rattle.hs_taking.specs.Shares.{KeepsDisk, Span as Taking}

stands_seen : (disks : List DiskSeen) (k : ℕ) → disk_at (stands_of disks) k ≡ (seen_at disks k).stands
stands_seen [] k = refl
stands_seen (d ∷ disks) zero = refl
stands_seen (d ∷ disks) (suc k) = stands_seen disks k

pub seen_as : (disks : List DiskSeen) (objects : List Standing) (p : ℕ) → stands_of disks ≡ objects → (seen_at disks p).stands ≡ disk_at objects p
seen_as disks objects p same = sym (stands_seen disks p) ∙ ap (λ (ds : List Standing). disk_at ds p) same

-- calls that keep a disk's list, as a run sees it
keeps_list : (tells : Type 0) (r : Ran) (p before now : ℕ) (old new : DiskSeen) → tells → before ≡ r.old.moment → old.stands ≡ disk_at r.old.disks p → new.stands ≡ disk_at r.new.disks p → KeepsDisk tells before now old new
    → (disk_at r.old.disks p).last ≤ r.old.moment → KeepsList r p
keeps_list tells r p before now old new told start was is keeps called list only m during image left =
    let low : old.stands.last ≤ before = let last = ap (λ (d : Standing). d.last) was in omega (arith, last, start, called) in
    let above : before < m = let up = during.above in omega (arith, start, up) in
    let gives : GivesList (Is list) image =
    (keeps.moments told low list (subst (λ (d : Standing). LeavesOnly d list) (sym was) only)).each m above during.early image (subst (λ (d : Standing). IsLeft d m image) (sym is) left).sides in
    gives.read ∙ ap (λ (l : Numbered). Some l) gives.holds

-- ---- a core was opened

module _ (tells : Type 0) (S : Script) (r : Ran) (story : Story) (on : OnDisks S r) (span : Span) (told : tells) (before : span.before ≡ r.old.moment) (now : span.now ≡ r.new.moment)
    (old : stands_of span.disks ≡ r.old.disks) (new : stands_of span.left ≡ r.new.disks) (runs : RunsOn tells S.set span story.found (all_events story)) where
  sound : HaveOneList r → LeaveOneList span.before span.disks
  sound h = record {
    called = λ p. let last = ap (λ (d : Standing). d.last) (seen_as span.disks r.old.disks p old) in let low = h.called p in omega (arith, last, low, before);
    only = λ p list read.
        subst (λ (d : Standing). LeavesOnly d list) (sym (seen_as span.disks r.old.disks p old))
        (h.only p list (ap (λ (d : Standing). list_in d.seen) (sym (seen_as span.disks r.old.disks p old)) ∙ read));
  }

  moments : HaveOneList r → (first_core S.set story.found).ended ≡ None
      → ListsAtMoments whole_machine (open_whole S.set story.found) (happened (first_core S.set story.found) (all_events story)) (record { before = r.old.moment; now = r.new.moment; disks = r.new.disks })
  moments h going = record {
    fine = λ m p above up_to early counts image left.
        (runs.lists on.one told (sound h) going).moments.fine m p (omega (arith, above, before)) (omega (arith, up_to, now)) early counts image
        (subst (λ (ds : List Standing). IsLeft (disk_at ds p) m image) (sym new) left);
  }

  kept : IsSome (first_core S.set story.found).ended → KeepLists S r
  kept ended called p low =
      keeps_list tells r p span.before story.found.opened (seen_at span.disks p) (seen_at runs.disks p) told before (seen_as span.disks r.old.disks p old)
      (ap (λ (ds : List DiskSeen). (seen_at ds p).stands) (sym (runs.still ended)) ∙ seen_as span.left r.new.disks p new)
      ((runs.finds.each p (let all = ap (λ n. S.set.shape.shards * n) on.one in omega (arith, low, all))).disk on.one) (called p)

  pub shown_of : Went S r story → ((peer : ℕ) → peer < peer_count S.set.shape → IsReadAs r story peer) → IsShown S r story
  shown_of went read = record {
    went = went;
    read = read;
    rooms = runs.rooms;
    told = runs.told on.one told;
    lists = moments;
    ended = kept;
  }

-- ---- and none was

pub unopened_of : (tells : Type 0) (S : Script) (r : Ran) (on : OnDisks S r) (span : Taking) → tells → span.before ≡ r.old.moment → stands_of span.old ≡ r.old.disks → stands_of span.new ≡ r.new.disks
    → NeverOpened r → ((ending_of r.ending).wanting ≡ true → LeavesAsTaken tells span) → IsUnopened S r
unopened_of tells S r on span told before old new never taken = record {
  never = never;
  kept = λ wanting called p low.
      keeps_list tells r p span.before span.now (seen_at span.old p) (seen_at span.new p) told before (seen_as span.old r.old.disks p old) (seen_as span.new r.new.disks p new)
      ((taken wanting).each p (let long = count in let disks = on.disks in omega (arith, long, disks, low))) (called p);
}
  where
    count : length span.old ≡ length r.old.disks
    count = sym (length-map span.old (λ (disk : DiskSeen). disk.stands)) ∙ ap (λ (ds : List Standing). length ds) old
