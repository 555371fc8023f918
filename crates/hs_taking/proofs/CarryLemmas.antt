-- What became of the copies of a shard, from an earlier moment on and as it is seen later.
use Rattle.std.proofs.Common.{◌≡◌, ◌∙◌, ap, sym, subst, ℕ, zero, suc, ◌+◌, ◌<◌, ◌≤◌, ◌||◌, Bool, List, [], Option, Some, None, is_some, refl, arith, if◌then◌else◌}
use Rattle.std.specs.List.{list_any, range_with_len}
use Rattle.hs_entry.specs.Entries.{rank_of}
use Rattle.hs_fold.specs.Shards.Setting.{Numbered}
use Rattle.hs_limits.specs.declared.shape.Shape.{Shape}
use Rattle.hs_limits.specs.Shape.{peer_of}
use Rattle.hs_peerlog.proofs.ImageLemmas.{Since}
use Rattle.hs_peerlog.specs.Lists.{Keeping}
use Rattle.hs_shard.specs.Facts.{Catalogue}
use Rattle.hs_side.specs.Current.{list_in}
use Rattle.hs_taking.proofs.LevelLemmas.{moved_before, moved_wait}
use Rattle.hs_taking.proofs.ShareLemmas.{keeps_before, keeps_wait}
use Rattle.hs_taking.specs.Copies.{IsOf}
use Rattle.hs_taking.specs.declared.shares.Share.{Share}
use Rattle.hs_taking.specs.declared.slot.Slot.{Slot}
use Rattle.hs_taking.specs.declared.slot.Slot.TheVariants.{Aside, Viewed, Equal, Kept}
use Rattle.hs_taking.specs.Disks.{DiskSeen, seen_at}
use Rattle.hs_taking.specs.Evens.{AreEvened, IsEvenedAs, IsTaken, TakesFrom, TakesNone, has_kept, log_of}
use Rattle.hs_taking.specs.Shares.{KeepsDisk}
use Rattle.hs_taking.specs.Slots.{IsGood, IsSlot, slot_at}

-- ---- one peer

good_before : (tells : Type 0) (before mid : ℕ) (b b' : DiskSeen) (P : Numbered → Type 0) (log : Keeping) → before ≤ mid → IsGood tells mid b b' P log → IsGood tells before b b' P log
good_before tells before mid b b' P log up good = record {
  ready = good.ready;
  calm = good.calm;
  has = λ told last. good.has told (omega (arith, last, up));
}

evened_span : (tells : Type 0) (shape : Shape) (peer before mid till now : ℕ) (b b' : DiskSeen) (P : Numbered → Type 0) (old new : Slot) (lost : Option ℕ) → before ≤ mid → till ≤ now → (tells → Since b.stands) → IsSlot tells shape peer b old
    → IsEvenedAs tells mid till b b' P old new lost → IsEvenedAs tells before now b b' P old new lost
evened_span tells shape peer before mid till now b b' P Aside new lost up on since is e = e
evened_span tells shape peer before mid till now b b' P (Equal view) new lost up on since is e = tt
evened_span tells shape peer before mid till now b b' P (Kept log) new lost up on since is e = tt
evened_span tells shape peer before mid till now b b' P (Viewed view) new lost up on since is e = record {
  good = λ log kept. good_before tells before mid b b' P log up (e.good log kept);
  reads = e.reads;
  out = e.out;
  moved = moved_wait tells before till now b b' P on (moved_before tells shape peer before mid till b b' view P P up since is (λ list told p. p) e.moved);
  even = λ told list taken own. keeps_wait tells before till now b b' on (keeps_before tells before mid till b b' up since (e.even told list taken own));
}

taken_span : (tells : Type 0) (before mid till now : ℕ) (a a' : DiskSeen) (slot : Slot) (lost : Option ℕ) → before ≤ mid → till ≤ now → IsTaken tells mid till a a' slot lost → IsTaken tells before now a a' slot lost
taken_span tells before mid till now a a' (Kept log) None up on t = record {
  good = good_before tells before mid a a' (λ list. list_in a.stands.seen ≡ Some list) log up t.good;
  sealed = t.sealed;
  reads = t.reads;
}
taken_span tells before mid till now a a' (Kept log) (Some moment) up on t = absurd t
taken_span tells before mid till now a a' Aside None up on t = absurd t
taken_span tells before mid till now a a' Aside (Some moment) up on t =
    let low = t.0 in
    let high = t.1 in (
      omega (arith, up, low),
      omega (arith, on, high),
      record {
        still = λ told last list leaves. t.2.still told (omega (arith, last, up)) list leaves;
        failed = t.2.failed;
      },
    )
taken_span tells before mid till now a a' (Viewed view) lost up on t = absurd t
taken_span tells before mid till now a a' (Equal view) lost up on t = absurd t

-- ---- whether a log is kept

pub any_same : (p q : ℕ → Bool) (from n : ℕ) → ((k : ℕ) → from ≤ k → k < from + n → p k ≡ q k) → list_any p (range_with_len from n) ≡ list_any q (range_with_len from n)
any_same p q from zero same = refl
any_same p q from (suc n) same =
    let one : p from ≡ q from = same from (omega arith) (omega arith) in
    let rest = any_same p q (from + 1) n (λ k low high. same k (omega (arith, low)) (omega (arith, high))) in
    ap (λ b. b || list_any p (range_with_len (from + 1) n)) one ∙ ap (λ b. q from || b) rest

pub kept_same : (shape : Shape) (shard : ℕ) (s t : List Slot) → ((peer : ℕ) → IsOf shape shard peer → slot_at s peer ≡ slot_at t peer) → has_kept shape s shard ≡ has_kept shape t shard
kept_same shape shard s t same = any_same (λ k. is_some (log_of (slot_at s k))) (λ k. is_some (log_of (slot_at t k))) (peer_of shape shard 0) shape.copies (λ k low high. ap (λ (x : Slot). is_some (log_of x)) (same k (record { from = low; to = high })))

-- ---- a shard

module _ (tells : Type 0) (shape : Shape) (shard from before mid till now : ℕ) (o n o' n' : List DiskSeen) (s e s' e' : List Slot) (up : before ≤ mid) (on : till ≤ now) (home : IsOf shape shard from)
    (olds : (peer : ℕ) → IsOf shape shard peer → seen_at o' peer ≡ seen_at o peer) (news : (peer : ℕ) → IsOf shape shard peer → seen_at n' peer ≡ seen_at n peer)
    (firsts : (peer : ℕ) → IsOf shape shard peer → slot_at s' peer ≡ slot_at s peer) (lasts : (peer : ℕ) → IsOf shape shard peer → slot_at e' peer ≡ slot_at e peer)
    (since : (peer : ℕ) → tells → Since (seen_at o peer).stands) (views : (peer : ℕ) → IsOf shape shard peer → IsSlot tells shape peer (seen_at o peer) (slot_at s peer)) where
  abbrev Has : List DiskSeen → Numbered → Type 0
  Has disks list = list_in (seen_at disks from).stands.seen ≡ Some list

  evened_carried : (lost : Option ℕ) → AreEvened tells shape shard from mid till o n s e lost → AreEvened tells shape shard from before now o' n' s' e' lost
  evened_carried lost all = record {
    each = λ peer of differs.
        subst (λ (x : DiskSeen). IsEvenedAs tells before now x (seen_at n' peer) (Has o') (slot_at s' peer) (slot_at e' peer) lost) (sym (olds peer of))
        (subst (λ (x : DiskSeen). IsEvenedAs tells before now (seen_at o peer) x (Has o') (slot_at s' peer) (slot_at e' peer) lost) (sym (news peer of))
        (subst (λ (x : DiskSeen). IsEvenedAs tells before now (seen_at o peer) (seen_at n peer) (λ list. list_in x.stands.seen ≡ Some list) (slot_at s' peer) (slot_at e' peer) lost) (sym (olds from home))
        (subst (λ (x : Slot). IsEvenedAs tells before now (seen_at o peer) (seen_at n peer) (Has o) x (slot_at e' peer) lost) (sym (firsts peer of))
        (subst (λ (x : Slot). IsEvenedAs tells before now (seen_at o peer) (seen_at n peer) (Has o) (slot_at s peer) x lost) (sym (lasts peer of))
        (evened_span tells shape peer before mid till now (seen_at o peer) (seen_at n peer) (Has o) (slot_at s peer) (slot_at e peer) lost up on (since peer) (views peer of) (all.each peer of differs))))));
    taken =
        subst (λ (x : DiskSeen). IsTaken tells before now x (seen_at n' from) (slot_at e' from) lost) (sym (olds from home))
        (subst (λ (x : DiskSeen). IsTaken tells before now (seen_at o from) x (slot_at e' from) lost) (sym (news from home))
        (subst (λ (x : Slot). IsTaken tells before now (seen_at o from) (seen_at n from) x lost) (sym (lasts from home))
        (taken_span tells before mid till now (seen_at o from) (seen_at n from) (slot_at e from) lost up on all.taken)));
    disk =
        subst (λ (x : DiskSeen). KeepsDisk tells before now x (seen_at n' from)) (sym (olds from home))
        (subst (λ (x : DiskSeen). KeepsDisk tells before now (seen_at o from) x) (sym (news from home))
        (keeps_wait tells before till now (seen_at o from) (seen_at n from) on (keeps_before tells before mid till (seen_at o from) (seen_at n from) up (since from) all.disk)));
  }

  none_carried : (fold : Numbered → Catalogue) (share : Share) → TakesNone fold shape shard from o n s e share → TakesNone fold shape shard from o' n' s' e' share
  none_carried fold share t = record {
    took = t.took;
    lost = t.lost;
    catalogue = t.catalogue;
    rank = t.rank;
    disks = λ peer of. news peer of ∙ t.disks peer of ∙ sym (olds peer of);
    others = λ peer of differs. lasts peer of ∙ t.others peer of differs ∙ sym (firsts peer of);
    own = lasts from home ∙ t.own;
  }

  pub carried : (fold : Numbered → Catalogue) (share : Share) (slot : Slot) → TakesFrom tells fold shape shard from mid till o n s e share slot → TakesFrom tells fold shape shard from before now o' n' s' e' share slot
  carried fold share Aside t = none_carried fold share t
  carried fold share (Equal view) t = none_carried fold share t
  carried fold share (Kept log) t = none_carried fold share t
  carried fold share (Viewed view) t =
      let same : has_kept shape e shard ≡ has_kept shape e' shard = kept_same shape shard e e' (λ peer of. sym (lasts peer of)) in
      record {
        log = t.log;
        ranked = t.ranked;
        blank = t.blank;
        told = λ told. ap (λ (x : DiskSeen). list_in x.stands.seen) (olds from home) ∙ t.told told;
        took = t.took;
        catalogue = t.catalogue ∙ ap (λ (b : Bool). fold (if b then t.log else [])) same;
        rank = t.rank ∙ ap (λ (b : Bool). rank_of (if b then t.log else [])) same;
        copies = evened_carried share.lost t.copies;
      }
