-- What a stop leaves of a disk that was only read at first, whatever lists it could leave before.
use Rattle.std.proofs.Common.{◌≡◌, ◌∙◌, sym, subst, inl, inr, ℕ, ◌≤◌, Option, Some, None, refl}
use Rattle.std.specs.Prelude.{IsSome}
use Rattle.hs_fold.specs.Shards.Setting.{Numbered}
use Rattle.hs_limits.specs.declared.shape.Shape.{Shape}
use Rattle.hs_peerlog.proofs.ImageLemmas.{Since}
use Rattle.hs_peerlog.specs.Images.{IsAny, IsStanding, LeavesAll, LeavesAny, LeavesEach}
use Rattle.hs_peerlog.specs.Views.{Viewing}
use Rattle.hs_ports.proofs.Images.{settled_image}
use Rattle.hs_ports.specs.Disk.{IsImage, Standing}
use Rattle.hs_side.specs.Current.{list_in}
use Rattle.hs_taking.proofs.EvenLemmas.{each_then, each_weak}
use Rattle.hs_taking.proofs.PastLemmas.{past_all, past_still, past_then}
use Rattle.hs_taking.proofs.ShareLemmas.{quiet}
use Rattle.hs_taking.specs.Copies.{IsHadOrFront, IsOwnOrFront, LeavesBy}
use Rattle.hs_taking.specs.Disks.{DiskSeen}
use Rattle.hs_taking.specs.Pairs.{IsStill}
use Rattle.hs_taking.specs.Past.{PastStays}
use Rattle.hs_taking.specs.Shares.{KeepsDisk}
use Rattle.hs_taking.specs.Slots.{HasMoved}
use Rattle.hs_taking.specs.Viewed.{IsOnlyRead, IsViewOf}

some_is : (x y : Numbered) → Some x ≡ Some y → x ≡ y
some_is x y e = cc e

listed_of : (o : Option Numbered) → IsSome o → (list : Numbered) × (o ≡ Some list)
listed_of None h = cc h
listed_of (Some list) h = (list, refl)

-- ---- calls that leave all as it is

all_any : {before now : ℕ} {old new : Standing} (had : ℕ → Numbered) → LeavesAll before now old new → LeavesAny old had → LeavesEach before now old new (IsAny had)
all_any {before} {now} {old} {new} had run leaves = record {
  later = run.later;
  last = run.last;
  earlier = run.earlier;
  each = λ m high fits image left. leaves image (record { sides = λ s. run.each s m high fits (image s) (left s) });
  standing = λ image left. leaves image (record { sides = λ s. run.standing s (image s) (left.sides s) });
}

still_any : {before now : ℕ} {old new : Standing} (had : ℕ → Numbered) → LeavesAll before now old new → LeavesAny old had → LeavesAny new had
still_any had run leaves image left = leaves image (record { sides = λ s. run.standing s (image s) (left.sides s) })

pub leaves_read : (tells : Type 0) (before now : ℕ) (old new : DiskSeen) → IsOnlyRead tells before now old new → LeavesBy tells before now old new IsAny
leaves_read tells before now old new read told last had leaves = all_any had (read.moments told last) leaves

-- what leaves what it could leaves that or a front
pub leaves_front : (tells : Type 0) (before now : ℕ) (old new : DiskSeen) (taken : Numbered) → LeavesBy tells before now old new IsAny → LeavesBy tells before now old new (IsHadOrFront taken)
leaves_front tells before now old new taken all told last had leaves = each_weak (λ list any. inl any) (all told last had leaves)

-- ---- it was read, and then other calls came

-- what is past of it stays
abbrev pub PastBy : Type 0 → ℕ → ℕ → DiskSeen → DiskSeen → Type 0
PastBy tells before now old new = tells → old.stands.last ≤ before → PastStays before now old.stands new.stands

pub read_past : (tells : Type 0) (before now : ℕ) (old new : DiskSeen) → IsOnlyRead tells before now old new → PastBy tells before now old new
read_past tells before now old new read told last = past_all before now old.stands new.stands (read.moments told last)

module _ (tells : Type 0) (before mid now : ℕ) (old via new : DiskSeen) (read : IsOnlyRead tells before mid old via) where
  -- which did not write it
  pub leaves_still : mid ≤ now → (tells → Since via.stands) → IsStill tells via new → LeavesBy tells before now old new IsAny
  leaves_still on since still told last had leaves =
      let run = read.moments told last in
      let then : LeavesEach mid now via.stands via.stands (IsAny had) = all_any had (quiet mid now via.stands on run.last (since told)) (still_any had run leaves) in
      subst (λ (s : Standing). LeavesEach before now old.stands s (IsAny had)) (sym (still.same told)) (each_then (all_any had run leaves) then)

  pub still_past : mid ≤ now → IsStill tells via new → PastBy tells before now old new
  still_past on still told last =
      let run = read.moments told last in
      past_then before mid now old.stands via.stands new.stands (past_all before mid old.stands via.stands run) (subst (λ (s : Standing). PastStays mid now via.stands s) (sym (still.same told)) (past_still mid now via.stands on run.last))

  module _ (shape : Shape) (peer : ℕ) (view : Viewing) (viewed : IsViewOf tells shape peer via view) where
    pub kept_past : KeepsDisk tells mid now via new → PastBy tells before now old new
    kept_past keeps told last = let run = read.moments told last in past_then before mid now old.stands via.stands new.stands (past_all before mid old.stands via.stands run) (keeps.past told run.last)

    pub moved_past : (P : Numbered → Type 0) → HasMoved tells mid now via new P → PastBy tells before now old new
    moved_past P moved told last = let run = read.moments told last in past_then before mid now old.stands via.stands new.stands (past_all before mid old.stands via.stands run) (moved.past told run.last)

    -- all of it is on the medium
    stands_seen : tells → IsStanding via.stands via.stands.seen
    stands_seen told = record {
      sides = λ side. subst (λ l. IsImage l (via.stands.seen side)) (sym ((viewed.viewed.alone told).settled side)) (settled_image (via.stands.seen side));
    }

    -- so the list that it reads as could be left before
    own_any : tells → (had : ℕ → Numbered) → LeavesAll before mid old.stands via.stands → LeavesAny old.stands had → (own : Numbered) → list_in via.stands.seen ≡ Some own → IsAny had own
    own_any told had run leaves own e =
        let g = still_any had run leaves via.stands.seen (stands_seen told) in
        subst (λ l. IsAny had l) (some_is g.list own (sym g.read ∙ e)) g.holds

    -- its list was kept
    pub leaves_kept : KeepsDisk tells mid now via new → LeavesBy tells before now old new IsAny
    leaves_kept keeps told last had leaves =
        let run = read.moments told last in
        let l = listed_of (list_in via.stands.seen) (viewed.listed told) in
        let own = own_any told had run leaves l.0 l.1 in
        each_then (all_any had run leaves) (each_weak (λ list same. subst (λ x. IsAny had x) (sym same) own) (keeps.moments told run.last l.0 (viewed.only told l.0 l.1)))

    -- it was made equal to the taken one
    pub leaves_moved : (P : Numbered → Type 0) (taken : Numbered) → (tells → P taken) → HasMoved tells mid now via new P → LeavesBy tells before now old new (IsHadOrFront taken)
    leaves_moved P taken has moved told last had leaves =
        let run = read.moments told last in
        let l = listed_of (list_in via.stands.seen) (viewed.listed told) in
        let own = own_any told had run leaves l.0 l.1 in
        each_then (each_weak (λ list any. inl any) (all_any had run leaves)) (each_weak (λ list one. turn l.0 own list one) (moved.moments told run.last taken (has told) l.0 l.1))
      where
        turn : (x : Numbered) → IsAny had x → (list : Numbered) → IsOwnOrFront x taken list → IsHadOrFront taken had list
        turn x any list (inl same) = inl (subst (λ y. IsAny had y) (sym same) any)
        turn x any list (inr front) = inr front
