-- A run that follows one which came to its end may stop too.
use Rattle.std.proofs.Common.{◌≡◌, ◌∙◌, inl, inr, ap, sym, subst, refl, ℕ, zero, suc, ◌*◌, ◌<◌, ◌≤◌, arith, false, true, List, [], ◌∷◌, Option, length, map, replicate}
use Rattle.std.proofs.lemmas.Bool.{cases_lt}
use Rattle.std.proofs.lemmas.List.{get_or_past, length-map}
use Rattle.hs_clauses.proofs.ImageLemmas.{good_count}
use Rattle.hs_clauses.specs.Shown.{IsShownRun, OnDisks}
use Rattle.hs_events.specs.Taken.{taken_lists}
use Rattle.hs_fold.specs.Good.{is_good}
use Rattle.hs_fold.specs.Images.{IsLeft, image_at}
use Rattle.hs_fold.specs.Shards.Images.{AreGoodImages, Image, IsGoodImage}
use Rattle.hs_journal.specs.Events.{client_op}
use Rattle.hs_limits.specs.declared.limits.Limits.{Limits}
use Rattle.hs_model.specs.declared.command.Command.{Command}
use Rattle.hs_model.specs.declared.course.CourseItem.{CourseItem}
use Rattle.hs_peerlog.proofs.ImageLemmas.{image-is, list-same}
use Rattle.hs_ports.specs.declared.disk.Side.{Side}
use Rattle.hs_ports.specs.Disk.{IsImage, Loose, Standing, settled}
use Rattle.hs_ports.specs.MemoryDisk.{untold}
use Rattle.hs_ports.specs.Moments.{disk_at}
use Rattle.hs_promise.specs.Entry.{MayStop, OneListAtEntry, entry_logs, entry_store, is_aside}
use Rattle.hs_promise.specs.Headers.{KeepsHeaders}
use Rattle.hs_promise.specs.Run.{Ran, Script}
use Rattle.hs_promise.specs.Stops.{Stops, image_logs, stop_at}
use Rattle.hs_run.specs.Machine.{IsOfCluster}
use Rattle.hs_side.specs.Current.{list_in}
use Rattle.hs_sound.specs.Stay.{AreSoundAlong}
use Rattle.hs_standing.specs.Held.{GivesAddresses}
use Rattle.hs_top.proofs.LaterLemmas.{counted_later, headers_later, later, may_later, run_later, since_end}
use Rattle.hs_top.proofs.LimitLemmas.{sound_too}
use Rattle.hs_top.proofs.RestLemmas.{alone_sound, stopped_sound}
use Rattle.hs_top.specs.Next.{Follows, script_after}
use Rattle.hs_top.specs.Rest.{EndsAtRest}

-- what hs_clauses says of stops
abbrev pub StopsAlong : Type 0
StopsAlong = (S : Script) (r : Ran) → IsShownRun S r → KeepsHeaders S r → MayStop S r → Stops S (entry_store S r) r

-- ---- what disks read as

abbrev pub seen_images : List Standing → List Image
seen_images disks = map (λ disk. disk.seen) disks

pub image_is : (disks : List Standing) (peer : ℕ) → image_at (seen_images disks) peer ≡ (disk_at disks peer).seen
image_is [] peer = refl
image_is (disk ∷ disks) zero = refl
image_is (disk ∷ disks) (suc peer) = image_is disks peer

-- ---- the next run

module _ (S : Script) (r : Ran) (ends : EndsAtRest S r) (called : (peer : ℕ) → (disk_at r.new.disks peer).last ≤ r.new.moment) (limits : Limits) (commands : ℕ → Option Command) (next : Ran) (follows : Follows r next) where
  abbrev after : Script
  after = script_after S limits commands

  pub seen_after : (peer : ℕ) (side : Side) → (disk_at next.old.disks peer).seen side ≡ image_at (seen_images r.new.disks) peer side
  seen_after peer side = ap (λ (ds : List Standing). (disk_at ds peer).seen side) follows.disks ∙ ap (λ (image : Image). image side) (sym (image_is r.new.disks peer))

  pub same_count : length next.old.disks ≡ length (seen_images r.new.disks)
  same_count = ap (λ (ds : List Standing). length ds) follows.disks ∙ sym (length-map r.new.disks (λ (disk : Standing). disk.seen))

  one_list : (disk : Standing) → (disk ≡ untold) → (image : Image) → ((side : Side) → IsImage (disk.loose side) (image side)) → list_in image ≡ list_in disk.seen
  one_list disk none image stands =
      list-same disk.seen image (image-is disk image (λ side. subst (λ (d : Standing). d.loose side ≡ settled (d.seen side)) (sym none) refl) stands)

  lists : OneListAtEntry after next
  lists peer counts = subst (λ (ds : List Standing). (image : Image) → ((side : Side) → IsImage ((disk_at ds peer).loose side) (image side)) → list_in image ≡ list_in (disk_at ds peer).seen) (sym follows.disks)
      (elim (cases_lt peer (length r.new.disks)) [
        | inl low ↦ (ends.lists peer low).one
        | inr high ↦ one_list (disk_at r.new.disks peer) (get_or_past r.new.disks peer untold high)
      ])

  pub may_from : AreSoundAlong after.set (taken_lists after.set.shape (entry_logs after next)) → MayStop after next
  may_from h = record {
    sound = h;
    one = lists;
    none = record {
      called = λ peer.
          let last : (disk_at next.old.disks peer).last ≡ (disk_at r.new.disks peer).last = ap (λ (ds : List Standing). (disk_at ds peer).last) follows.disks in
          let low = called peer in let up = follows.later in omega (arith, last, low, up);
      put = follows.sink;
    };
  }

-- ---- at its end the lists are sound

module _ (laws : StopsAlong) (tells : Type 0) (S : Script) (r : Ran) (one : S.set.shape.copies ≡ 1) (names : GivesAddresses S.set.name) (cluster : IsOfCluster tells S r) (told : tells) (may : MayStop S r) (ends : EndsAtRest S r) where
  on : OnDisks S r
  on = record {
    shape = cluster.shape;
    one = one;
    names = names;
    nobody = ap (λ (c : Option Command). client_op c) cluster.nobody;
    disks = disks;
    left = cluster.served.handed_back ∙ disks;
  }
    where
      disks : length r.old.disks ≡ S.set.shape.shards
      disks = cluster.count ∙ ap (λ n. S.set.shape.shards * n) one ∙ omega arith

  -- no call is ahead
  pub called : (peer : ℕ) → (disk_at r.new.disks peer).last ≤ r.new.moment
  called peer = (cluster.served.past one told).called peer (may.none.called peer)

  abbrev images : List Image
  images = seen_images r.new.disks

  left : (peer : ℕ) → peer < length r.new.disks → IsLeft (disk_at r.new.disks peer) ends.moment (image_at images peer)
  left peer low =
      subst (λ (image : Image). IsLeft (disk_at r.new.disks peer) ends.moment image) (sym (image_is r.new.disks peer))
      (record {
        sides = λ side.
            subst (λ (l : Loose). IsImage l ((disk_at r.new.disks peer).seen side))
            (sym (since_end S r tells told on cluster peer side ends.moment (ends.still peer low))) ((ends.lists peer low).seen side);
      })

  good : (peer : ℕ) → peer < length r.new.disks → IsGoodImage (stop_at S (later r) ends.moment) images peer
  good peer low = record {
    good = subst (λ (course : List CourseItem). is_good course ends.moment peer ≡ true) (sym (counted_later S r)) (ends.good peer low);
    left = left peer low;
  }

  all_good : AreGoodImages S.set.shape (stop_at S (later r) ends.moment) images
  all_good = good_count S.set.shape (stop_at S (later r) ends.moment) images one on.left (length-map r.new.disks (λ (disk : Standing). disk.seen)) good

  pub sound : AreSoundAlong S.set (taken_lists S.set.shape (image_logs images))
  sound =
      ((laws S (later r) (run_later S r tells told on cluster) (headers_later S r tells told on cluster may) (may_later S r may)).reopens ends.moment
      (record { above = ends.above; up_to = ends.up_to; early = ends.early }) images all_good).sound

  module _ (limits : Limits) (commands : ℕ → Option Command) (next : Ran) (follows : Follows r next) where
    pub again_may : ((peer : ℕ) → peer < length next.old.disks → is_aside (script_after S limits commands) next peer ≡ false) → MayStop (script_after S limits commands) next
    again_may none =
        may_from S r ends called limits commands next follows
        (stopped_sound (script_after S limits commands) next images (sound_too S.set limits (taken_lists S.set.shape (image_logs images)) sound) (seen_after S r ends called limits commands next follows) (same_count S r ends called limits commands next follows) none)

    pub again_alone : S.set.shape.shards ≡ 1 → AreSoundAlong (script_after S limits commands).set (replicate S.set.shape.shards []) → MayStop (script_after S limits commands) next
    again_alone shards blank =
        may_from S r ends called limits commands next follows
        (alone_sound (script_after S limits commands) next images shards one blank (sound_too S.set limits (taken_lists S.set.shape (image_logs images)) sound) (seen_after S r ends called limits commands next follows) (same_count S r ends called limits commands next follows))
