-- What became of the disks of each shard, whatever was answered.
use Rattle.std.proofs.Common.{◌≡◌, ◌≢◌, ap, sym, subst, inl, inr, ℕ, ◌*◌, ◌<◌, ◌≤◌, List, length, map, Option, Some, refl, arith}
use Rattle.std.proofs.lemmas.Bool.{cases_eq, cases_lt}
use Rattle.std.proofs.Math.Nat.{mul-le-mul_right}
use Rattle.hs_fold.specs.Shards.Setting.{Numbered, Setting}
use Rattle.hs_limits.specs.declared.shape.Shape.{Shape}
use Rattle.hs_memory.specs.Forget.{apply_all}
use Rattle.hs_peerlog.proofs.ImageLemmas.{Since}
use Rattle.hs_peerlog.specs.Views.{Viewing}
use Rattle.hs_shard.specs.Facts.{Catalogue, empty_catalogue}
use Rattle.hs_side.specs.Current.{list_in}
use Rattle.hs_taking.proofs.ChoiceLemmas.{shard_within}
use Rattle.hs_taking.proofs.KeepLemmas.{keeps_none}
use Rattle.hs_taking.proofs.LevelLemmas.{moved_before, moved_none, moved_wait, still_same}
use Rattle.hs_taking.proofs.PairLemmas.{still_none}
use Rattle.hs_taking.proofs.RunLemmas.{TakesSome, at_shard, of_below}
use Rattle.hs_taking.proofs.ShareLemmas.{keeps_before, keeps_wait}
use Rattle.hs_taking.specs.Copies.{IsOf}
use Rattle.hs_taking.specs.declared.shares.Share.{Share}
use Rattle.hs_taking.specs.declared.slot.Slot.{Slot}
use Rattle.hs_taking.specs.declared.slot.Slot.TheVariants.{Aside, Viewed, Equal, Kept}
use Rattle.hs_taking.specs.Disks.{DiskSeen, seen_at}
use Rattle.hs_taking.specs.Evens.{AreMoved, HaveMoved, IsEvenedAs, IsKeptAs, IsMovedAs, TakesFrom, TakesNone, chosen_peer, slot_of}
use Rattle.hs_taking.specs.Slots.{IsSlot, slot_at}

-- ---- one disk

moved_span : (tells : Type 0) (shape : Shape) (peer before mid till now : ℕ) (b b' : DiskSeen) (P : Numbered → Type 0) (slot : Slot) → before ≤ mid → till ≤ now → (tells → Since b.stands) → IsSlot tells shape peer b slot → IsMovedAs tells mid till b b' P slot → IsMovedAs tells before now b b' P slot
moved_span tells shape peer before mid till now b b' P Aside up on since is m = m
moved_span tells shape peer before mid till now b b' P (Equal view) up on since is m = tt
moved_span tells shape peer before mid till now b b' P (Kept log) up on since is m = tt
moved_span tells shape peer before mid till now b b' P (Viewed view) up on since is m = moved_wait tells before till now b b' P on (moved_before tells shape peer before mid till b b' view P P up since is (λ list told p. p) m)

kept_span : (tells : Type 0) (before mid till now : ℕ) (a a' : DiskSeen) (slot : Slot) → before ≤ mid → till ≤ now → (tells → Since a.stands) → IsKeptAs tells mid till a a' slot → IsKeptAs tells before now a a' slot
kept_span tells before mid till now a a' Aside up on since k = k
kept_span tells before mid till now a a' (Equal view) up on since k = tt
kept_span tells before mid till now a a' (Kept log) up on since k = tt
kept_span tells before mid till now a a' (Viewed view) up on since k = keeps_wait tells before till now a a' on (keeps_before tells before mid till a a' up since k)

-- nothing was called
unmoved_as : (tells : Type 0) (shape : Shape) (peer before now : ℕ) (b : DiskSeen) (P : Numbered → Type 0) (slot : Slot) → before ≤ now → (tells → Since b.stands) → IsSlot tells shape peer b slot → IsMovedAs tells before now b b P slot
unmoved_as tells shape peer before now b P Aside up since is = still_none tells b
unmoved_as tells shape peer before now b P (Equal view) up since is = tt
unmoved_as tells shape peer before now b P (Kept log) up since is = tt
unmoved_as tells shape peer before now b P (Viewed view) up since is = moved_none tells shape peer before now b view P up since is

unkept_as : (tells : Type 0) (before now : ℕ) (a : DiskSeen) (slot : Slot) → before ≤ now → (tells → Since a.stands) → IsKeptAs tells before now a a slot
unkept_as tells before now a Aside up since = still_none tells a
unkept_as tells before now a (Equal view) up since = tt
unkept_as tells before now a (Kept log) up since = tt
unkept_as tells before now a (Viewed view) up since = keeps_wait tells before before now a a up (keeps_none tells before a since)

evened_moved : (tells : Type 0) (before now : ℕ) (b b' : DiskSeen) (P : Numbered → Type 0) (old new : Slot) (lost : Option ℕ) → IsEvenedAs tells before now b b' P old new lost → IsMovedAs tells before now b b' P old
evened_moved tells before now b b' P Aside new lost e = e.1
evened_moved tells before now b b' P (Equal view) new lost e = tt
evened_moved tells before now b b' P (Kept log) new lost e = tt
evened_moved tells before now b b' P (Viewed view) new lost e = e.moved

-- ---- a shard

-- its disks stand as they did
pub unmoved : (tells : Type 0) (shape : Shape) (shard from before now : ℕ) (old new : List DiskSeen) (slots : List Slot) → before ≤ now → IsOf shape shard from → ((peer : ℕ) → IsOf shape shard peer → seen_at new peer ≡ seen_at old peer) → ((peer : ℕ) → tells → Since (seen_at old peer).stands)
    → ((peer : ℕ) → IsOf shape shard peer → IsSlot tells shape peer (seen_at old peer) (slot_at slots peer)) → HaveMoved tells shape shard from before now old new slots
unmoved tells shape shard from before now old new slots up home same since views = record {
  each = λ peer of differs. subst (λ (d : DiskSeen). IsMovedAs tells before now (seen_at old peer) d (λ list. list_in (seen_at old from).stands.seen ≡ Some list) (slot_at slots peer)) (sym (same peer of))
      (unmoved_as tells shape peer before now (seen_at old peer) (λ list. list_in (seen_at old from).stands.seen ≡ Some list) (slot_at slots peer) up (since peer) (views peer of));
  own = subst (λ (d : DiskSeen). IsKeptAs tells before now (seen_at old from) d (slot_at slots from)) (sym (same from home)) (unkept_as tells before now (seen_at old from) (slot_at slots from) up (since from));
}

-- from an earlier moment on, and as it is seen later
pub moved_carried : (tells : Type 0) (shape : Shape) (shard from before mid till now : ℕ) (o n o' n' : List DiskSeen) (s s' : List Slot) → before ≤ mid → till ≤ now → IsOf shape shard from
    → ((peer : ℕ) → IsOf shape shard peer → seen_at o' peer ≡ seen_at o peer) → ((peer : ℕ) → IsOf shape shard peer → seen_at n' peer ≡ seen_at n peer) → ((peer : ℕ) → IsOf shape shard peer → slot_at s' peer ≡ slot_at s peer)
    → ((peer : ℕ) → tells → Since (seen_at o peer).stands) → ((peer : ℕ) → IsOf shape shard peer → IsSlot tells shape peer (seen_at o peer) (slot_at s peer)) → HaveMoved tells shape shard from mid till o n s → HaveMoved tells shape shard from before now o' n' s'
moved_carried tells shape shard from before mid till now o n o' n' s s' up on home olds news slots since views moved = record {
  each = λ peer of differs.
      subst (λ (d : DiskSeen). IsMovedAs tells before now d (seen_at n' peer) (λ list. list_in (seen_at o' from).stands.seen ≡ Some list) (slot_at s' peer)) (sym (olds peer of))
      (subst (λ (d : DiskSeen). IsMovedAs tells before now (seen_at o peer) d (λ list. list_in (seen_at o' from).stands.seen ≡ Some list) (slot_at s' peer)) (sym (news peer of))
      (subst (λ (d : DiskSeen). IsMovedAs tells before now (seen_at o peer) (seen_at n peer) (λ list. list_in d.stands.seen ≡ Some list) (slot_at s' peer)) (sym (olds from home))
      (subst (λ (x : Slot). IsMovedAs tells before now (seen_at o peer) (seen_at n peer) (λ list. list_in (seen_at o from).stands.seen ≡ Some list) x) (sym (slots peer of))
      (moved_span tells shape peer before mid till now (seen_at o peer) (seen_at n peer) (λ list. list_in (seen_at o from).stands.seen ≡ Some list) (slot_at s peer) up on (since peer) (views peer of) (moved.each peer of differs)))));
  own =
      subst (λ (d : DiskSeen). IsKeptAs tells before now d (seen_at n' from) (slot_at s' from)) (sym (olds from home))
      (subst (λ (d : DiskSeen). IsKeptAs tells before now (seen_at o from) d (slot_at s' from)) (sym (news from home))
      (subst (λ (x : Slot). IsKeptAs tells before now (seen_at o from) (seen_at n from) x) (sym (slots from home)) (kept_span tells before mid till now (seen_at o from) (seen_at n from) (slot_at s from) up on (since from) moved.own)));
}

-- what was taken of it
module _ (tells : Type 0) (fold : Numbered → Catalogue) (shape : Shape) (shard from before now : ℕ) (old new : List DiskSeen) (slots slots' : List Slot) (share : Share) (up : before ≤ now) (home : IsOf shape shard from) (since : (peer : ℕ) → tells → Since (seen_at old peer).stands)
    (views : (peer : ℕ) → IsOf shape shard peer → IsSlot tells shape peer (seen_at old peer) (slot_at slots peer)) where
  none_moved : TakesNone fold shape shard from old new slots slots' share → HaveMoved tells shape shard from before now old new slots
  none_moved t = unmoved tells shape shard from before now old new slots up home t.disks since views

  pub taken_moved : (slot : Slot) → slot_at slots from ≡ slot → TakesFrom tells fold shape shard from before now old new slots slots' share slot → HaveMoved tells shape shard from before now old new slots
  taken_moved Aside is t = none_moved t
  taken_moved (Equal view) is t = none_moved t
  taken_moved (Kept log) is t = none_moved t
  taken_moved (Viewed view) is t = record {
    each = λ peer of differs. evened_moved tells before now (seen_at old peer) (seen_at new peer) (λ list. list_in (seen_at old from).stands.seen ≡ Some list) (slot_at slots peer) (slot_at slots' peer) share.lost (t.copies.each peer of differs);
    own = subst (λ (s : Slot). IsKeptAs tells before now (seen_at old from) (seen_at new from) s) (sym is) t.copies.disk;
  }

-- whatever was answered; where its log was not viewed nothing was called
pub shard_moved : (tells : Type 0) (shape : Shape) (shard from before now : ℕ) (old new : List DiskSeen) (slots : List Slot) → AreMoved tells shape shard from before now old new slots → (slot_at slots from ≡ Aside → seen_at new from ≡ seen_at old from) → HaveMoved tells shape shard from before now old new slots
shard_moved tells shape shard from before now old new slots moved idle = record {
  each = moved.each;
  own = by (slot_at slots from) refl;
}
  where
    by : (slot : Slot) → slot_at slots from ≡ slot → IsKeptAs tells before now (seen_at old from) (seen_at new from) slot
    by Aside is = still_same tells (seen_at old from) (seen_at new from) (idle is)
    by (Viewed view) is = moved.disk
    by (Equal view) is = tt
    by (Kept log) is = tt

-- ---- all of them

module _ (tells : Type 0) (set : Setting) (before mid : ℕ) (old cur : List DiskSeen) (views : List (Option Viewing)) (slots : List Slot) (shares : List Share) (up : before ≤ mid) (so_far : TakesSome tells set before mid old cur views slots shares)
    (since : (peer : ℕ) → tells → Since (seen_at old peer).stands) (stand : (peer : ℕ) → peer < set.shape.shards * set.shape.copies → IsSlot tells set.shape peer (seen_at old peer) (slot_at (map slot_of views) peer))
    (homes : (k : ℕ) → k < set.shape.shards → IsOf set.shape k (chosen_peer set.shape views k)) where
  views_of : (k : ℕ) → k < set.shape.shards → (peer : ℕ) → IsOf set.shape k peer → IsSlot tells set.shape peer (seen_at old peer) (slot_at (map slot_of views) peer)
  views_of k low peer of =
      let t = of.to in
      let w = shard_within set.shape k low in
      stand peer (omega (arith, t, w))

  pub some_moved : (k : ℕ) → k < set.shape.shards → HaveMoved tells set.shape k (chosen_peer set.shape views k) before mid old cur (map slot_of views)
  some_moved k low = elim (cases_lt k (length shares)) [
    | inl less ↦
        subst (λ p. HaveMoved tells set.shape k p before mid old cur (map slot_of views)) (so_far.chosen k less)
        (taken_moved tells (apply_all set.name (empty_catalogue set.shape k)) set.shape k (at_shard shares k).peer before mid old cur (map slot_of views) slots (at_shard shares k) up (so_far.home k less) since (views_of k low) (slot_at (map slot_of views) (at_shard shares k).peer) refl (so_far.each k less))
    | inr more ↦ unmoved tells set.shape k (chosen_peer set.shape views k) before mid old cur (map slot_of views) up (homes k low) (λ peer of. (so_far.rest peer (behind k more peer of)).1) since (views_of k low)
  ]
    where
      behind : (k : ℕ) → length shares ≤ k → (peer : ℕ) → IsOf set.shape k peer → length shares * set.shape.copies ≤ peer
      behind k more peer of =
          let m = mul-le-mul_right set.shape.copies more in
          let f = of.from in
          omega (arith, m, f)

  -- and then one more, whatever was answered
  module _ (now shard : ℕ) (next : List DiskSeen) (on : mid ≤ now) (count : length shares ≡ shard) (within : shard < set.shape.shards) (moved : AreMoved tells set.shape shard (chosen_peer set.shape views shard) mid now cur next slots)
      (idle : slot_at slots (chosen_peer set.shape views shard) ≡ Aside → seen_at next (chosen_peer set.shape views shard) ≡ seen_at cur (chosen_peer set.shape views shard)) (since_cur : (peer : ℕ) → tells → Since (seen_at cur peer).stands) where
    -- its disks were not called before
    rest_of : (peer : ℕ) → IsOf set.shape shard peer → (slot_at slots peer ≡ slot_at (map slot_of views) peer) × (seen_at cur peer ≡ seen_at old peer)
    rest_of peer of =
        let f = of.from in
        let same : length shares * set.shape.copies ≡ shard * set.shape.copies = ap (λ n. n * set.shape.copies) count in
        so_far.rest peer (omega (arith, f, same))

    here : HaveMoved tells set.shape shard (chosen_peer set.shape views shard) before now old next (map slot_of views)
    here = moved_carried tells set.shape shard (chosen_peer set.shape views shard) before mid now now cur next old next slots (map slot_of views) up (omega arith) (homes shard within) (λ peer of. sym (rest_of peer of).1) (λ peer of. refl) (λ peer of. sym (rest_of peer of).0) since_cur
        (λ peer of. subst (λ (d : DiskSeen). IsSlot tells set.shape peer d (slot_at slots peer)) (sym (rest_of peer of).1) (subst (λ (s : Slot). IsSlot tells set.shape peer (seen_at old peer) s) (sym (rest_of peer of).0) (views_of shard within peer of)))
        (shard_moved tells set.shape shard (chosen_peer set.shape views shard) mid now cur next slots moved idle)

    apart : (k peer : ℕ) → k ≢ shard → IsOf set.shape k peer → IsOf set.shape shard peer → ⊥
    apart k peer differs of other = elim (cases_lt k shard) [
      | inl less ↦ let b = of_below set.shape k shard peer less of in let f = other.from in omega (arith, b, f)
      | inr more ↦ let b = of_below set.shape shard k peer (omega (arith, more, differs)) other in let f = of.from in omega (arith, b, f)
    ]

    pub moved_since : (k : ℕ) → k < set.shape.shards → HaveMoved tells set.shape k (chosen_peer set.shape views k) before now old next (map slot_of views)
    moved_since k low = elim (cases_eq k shard) [
      | inl same ↦ subst (λ n. HaveMoved tells set.shape n (chosen_peer set.shape views n) before now old next (map slot_of views)) (sym same) here
      | inr differs ↦
          moved_carried tells set.shape k (chosen_peer set.shape views k) before before mid now old cur old next (map slot_of views) (map slot_of views) (omega arith) on (homes k low) (λ peer of. refl) (λ peer of. moved.outside peer (apart k peer differs of)) (λ peer of. refl) since
          (views_of k low) (some_moved k low)
    ]
