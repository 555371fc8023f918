-- The disks of a shard, from the views of its peers to their logs.
use Rattle.std.proofs.Common.{◌≡◌, ◌≢◌, ◌∙◌, ◌⊎◌, ap, sym, subst, inl, inr, ℕ, ◌+◌, ◌<◌, ◌≤◌, Bool, true, false, List, Option, None, Some, is_some, refl, arith}
use Rattle.hs_fold.specs.Shards.Setting.{Numbered}
use Rattle.hs_limits.specs.declared.shape.Shape.{Shape}
use Rattle.hs_limits.specs.Shape.{peer_of}
use Rattle.hs_peerlog.proofs.ImageLemmas.{Since}
use Rattle.hs_peerlog.specs.Images.{Is, LeavesEach, LeavesOnly}
use Rattle.hs_peerlog.specs.Lists.{HasLog, IsKept, Keeping}
use Rattle.hs_peerlog.specs.Views.{Viewing}
use Rattle.hs_ports.specs.Disk.{Standing}
use Rattle.hs_ports.specs.Fault.{HasRisen}
use Rattle.hs_side.specs.Current.{list_in}
use Rattle.hs_taking.proofs.EvenLemmas.{each_weak}
use Rattle.hs_taking.proofs.KeepLemmas.{keeps_none, keeps_then}
use Rattle.hs_taking.proofs.LevelLemmas.{moved_before, ready_still, view_still}
use Rattle.hs_taking.proofs.ShareLemmas.{keeps_before, keeps_wait}
use Rattle.hs_taking.specs.Copies.{IsOf, IsOwnOrFront}
use Rattle.hs_taking.specs.declared.slot.Slot.{Slot}
use Rattle.hs_taking.specs.declared.slot.Slot.TheVariants.{Aside, Viewed, Equal, Kept}
use Rattle.hs_taking.specs.declared.slot.Source.{Source}
use Rattle.hs_taking.specs.declared.slot.Source.TheVariants as source
use Rattle.hs_taking.specs.Disks.{DiskSeen, seen_at}
use Rattle.hs_taking.specs.Evens.{AreEvened, AreMoved, IsEvened, IsEvenedAs, IsMovedAs, IsRecovered, IsTaken, log_of}
use Rattle.hs_taking.specs.Pairs.{IsStill}
use Rattle.hs_taking.specs.Past.{PastStays}
use Rattle.hs_taking.specs.Shares.{KeepsDisk}
use Rattle.hs_taking.specs.Slots.{AreMade, AreSorted, HasMoved, IsGood, IsGoodView, IsKeptOr, IsMade, IsMoved, IsSlot, IsSorted, IsSortedView, IsSource, IsSourceOf, IsSourceRun, is_lost, lost_at, slot_at}
use Rattle.hs_taking.specs.Viewed.{IsViewOf}

-- ---- a disk that was only read before

moved_still : (tells : Type 0) (before now : ℕ) (a b c : DiskSeen) (P : Numbered → Type 0) → IsStill tells a b → HasMoved tells before now b c P → HasMoved tells before now a c P
moved_still tells before now a b c P still moved = record {
  moments = λ told. subst (λ (s : Standing). s.last ≤ before → (list : Numbered) → P list → (own : Numbered) → list_in s.seen ≡ Some own → LeavesEach before now s c.stands (IsOwnOrFront own list)) (still.same told) (moved.moments told);
  past = λ told. subst (λ (s : Standing). s.last ≤ before → PastStays before now s c.stands) (still.same told) (moved.past told);
  counted = omega (arith, still.counted, moved.counted);
}

pub keeps_still : (tells : Type 0) (before now : ℕ) (a b c : DiskSeen) → IsStill tells a b → KeepsDisk tells before now b c → KeepsDisk tells before now a c
keeps_still tells before now a b c still keeps = record {
  moments = λ told. subst (λ (s : Standing). s.last ≤ before → (list : Numbered) → LeavesOnly s list → LeavesEach before now s c.stands (Is list)) (still.same told) (keeps.moments told);
  past = λ told. subst (λ (s : Standing). s.last ≤ before → PastStays before now s c.stands) (still.same told) (keeps.past told);
  counted = let a = still.counted in let b = keeps.counted in omega (arith, a, b);
}

-- and not again
pub still_keeps : (tells : Type 0) (before now : ℕ) (a b : DiskSeen) → before ≤ now → (tells → Since a.stands) → IsStill tells a b → KeepsDisk tells before now a b
still_keeps tells before now a b up since still =
    let one : KeepsDisk tells before now a a = keeps_wait tells before before now a a up (keeps_none tells before a since) in
    record {
      moments = λ told. subst (λ (s : Standing). a.stands.last ≤ before → (list : Numbered) → LeavesOnly a.stands list → LeavesEach before now a.stands s (Is list)) (sym (still.same told)) (one.moments told);
      past = λ told. subst (λ (s : Standing). a.stands.last ≤ before → PastStays before now a.stands s) (sym (still.same told)) (one.past told);
      counted = still.counted;
    }

-- what leaves the list leaves it or a front
pub keeps_moved : (tells : Type 0) (shape : Shape) (peer before now : ℕ) (a b : DiskSeen) (view : Viewing) (P : Numbered → Type 0) → IsViewOf tells shape peer a view → KeepsDisk tells before now a b → HasMoved tells before now a b P
keeps_moved tells shape peer before now a b view P viewed keeps = record {
  moments = λ told last list p own e. each_weak (λ l same. inl same) (keeps.moments told last own (viewed.only told own e));
  past = keeps.past;
  counted = keeps.counted;
}

-- ---- one peer

module _ (tells : Type 0) (shape : Shape) (peer t0 t2 t3 : ℕ) (a0 a2 b0 b1 b3 : DiskSeen) (view : Viewing) (lost1 : Bool) (first last : Source) (s2 : Slot) (lost : Option ℕ)
    (up : t0 ≤ t2) (on : t2 ≤ t3) (since : tells → Since b0.stands) (viewed : IsViewOf tells shape peer b0 view) (still : IsStill tells b0 b1)
    (has : is_lost first ≡ false → (list : Numbered) → tells → list_in a0.stands.seen ≡ Some list → IsSourceOf first a2 list) (gone : lost1 ≡ true → is_lost first ≡ true) where
  abbrev Q : Numbered → Type 0
  Q = IsSourceOf first a2

  abbrev T : Numbered → Type 0
  T list = list_in a0.stands.seen ≡ Some list

  list_b : tells → list_in b1.stands.seen ≡ list_in b0.stands.seen
  list_b told = ap (λ (s : Standing). list_in s.seen) (still.same told)

  since1 : tells → Since b1.stands
  since1 told = subst (λ (s : Standing). Since s) (sym (still.same told)) (since told)

  -- nothing was written
  idle : b3 ≡ b1 → KeepsDisk tells t0 t3 b0 b3
  idle same = subst (λ (s : DiskSeen). KeepsDisk tells t0 t3 b0 s) (sym same) (still_keeps tells t0 t3 b0 b1 (omega (arith, up, on)) since still)

  not_aside : (log : Keeping) → Kept log ≡ Aside → ⊥
  not_aside log e = cc e

  none_kept : s2 ≡ Aside → (log : Keeping) → s2 ≡ Kept log → ⊥
  none_kept is log kept = not_aside log (sym kept ∙ is)

  -- it stood aside
  set_aside : s2 ≡ Aside → b3 ≡ b1 → (is_some lost ≡ true) ⊎ (tells → HasRisen b0.faults b3.faults) → IsEvened tells t0 t3 b0 b3 T s2 lost
  set_aside is same why = record {
    good = λ log kept. absurd (none_kept is log kept);
    reads = λ told log kept. absurd (none_kept is log kept);
    out = λ none. why;
    moved = keeps_moved tells shape peer t0 t3 b0 b3 view T viewed (idle same);
    even = λ told list taken own. idle same;
  }

  good_from : (P : Numbered → Type 0) (log : Keeping) → b1.faults ≡ b0.faults → ((list : Numbered) → tells → T list → P list) → IsGood tells t2 b1 b3 P log → IsGood tells t0 b0 b3 T log
  good_from P log calm weak good = record {
    ready = good.ready;
    calm = good.calm ∙ calm;
    has = λ told last list taken. good.has told (subst (λ (s : Standing). s.last ≤ t2) (sym (still.same told)) (omega (arith, last, up))) list (weak list told taken);
  }

  rose_from : b1.faults ≡ b0.faults → HasRisen b1.faults b3.faults → HasRisen b0.faults b3.faults
  rose_from calm rose = subst (λ n. HasRisen n b3.faults) calm rose

  pub evened : (later : is_lost first ≡ true → is_lost last ≡ true) (told_lost : is_lost last ≡ true → is_some lost ≡ true) (s1 : Slot) → IsSortedView tells a0 b0 b1 lost1 view s1 → IsMade tells t2 b1 b3 first last Q s1 s2 → IsMoved tells t2 t3 b1 b3 first Q s1 → IsEvened tells t0 t3 b0 b3 T s2 lost
  evened later told_lost Aside sorted made moved = set_aside made moved (elim sorted [
    | inl was ↦ inl (told_lost (later (gone was)))
    | inr rose ↦ inr (λ told. subst (λ (s : DiskSeen). HasRisen b0.faults s.faults) (sym moved) (rose told))
  ])
  evened later told_lost (Kept log) sorted made moved = absurd sorted
  evened later told_lost (Equal same) sorted made moved = record {
    good = λ log kept.
        let m : IsKeptOr (IsGoodView tells t2 b1 b3) (tells → HasRisen b1.faults b3.faults) (Kept log) = subst (λ (s : Slot). IsKeptOr (IsGoodView tells t2 b1 b3) (tells → HasRisen b1.faults b3.faults) s) kept made in
        good_from (λ list. list_in b1.stands.seen ≡ Some list) log sorted.1 (λ list told taken. list_b told ∙ sorted.2 told ∙ taken) m.good;
    reads = λ told log kept list taken own.
        let m : IsKeptOr (IsGoodView tells t2 b1 b3) (tells → HasRisen b1.faults b3.faults) (Kept log) = subst (λ (s : Slot). IsKeptOr (IsGoodView tells t2 b1 b3) (tells → HasRisen b1.faults b3.faults) s) kept made in
        m.reads told list (list_b told ∙ own);
    out = λ none. inr (λ told. rose_from sorted.1 (out_of s2 made none told));
    moved = keeps_moved tells shape peer t0 t3 b0 b3 view T viewed keeps;
    even = λ told list taken own. keeps;
  }
    where
      keeps : KeepsDisk tells t0 t3 b0 b3
      keeps = keeps_still tells t0 t3 b0 b1 b3 still (keeps_before tells t0 t2 t3 b1 b3 up since1 moved)

      some_not : (log : Keeping) → Some log ≡ None → ⊥
      some_not log e = cc e

      out_of : (s : Slot) → IsKeptOr (IsGoodView tells t2 b1 b3) (tells → HasRisen b1.faults b3.faults) s → log_of s ≡ None → tells → HasRisen b1.faults b3.faults
      out_of Aside m none told = m told
      out_of (Viewed v) m none told = absurd m
      out_of (Equal v) m none told = absurd m
      out_of (Kept log) m none told = absurd (some_not log none)
  evened later told_lost (Viewed same) sorted made moved = by (is_lost first) refl
    where
      some_not : (log : Keeping) → Some log ≡ None → ⊥
      some_not log e = cc e

      out_of : (s : Slot) → IsKeptOr (IsGood tells t2 b1 b3 Q) ((is_lost last ≡ true) ⊎ (tells → HasRisen b1.faults b3.faults)) s → log_of s ≡ None → (is_lost last ≡ true) ⊎ (tells → HasRisen b1.faults b3.faults)
      out_of Aside m none = m
      out_of (Viewed v) m none = absurd m
      out_of (Equal v) m none = absurd m
      out_of (Kept log) m none = absurd (some_not log none)

      never : true ≡ false → ⊥
      never e = cc e

      by : (b : Bool) → is_lost first ≡ b → IsEvened tells t0 t3 b0 b3 T s2 lost
      by true e = set_aside (made.1 e) (moved.1 e) (inl (told_lost (later e)))
      by false e = record {
        good = λ log kept. good_from Q log sorted.1 (has e) (subst (λ (s : Slot). IsKeptOr (IsGood tells t2 b1 b3 Q) ((is_lost last ≡ true) ⊎ (tells → HasRisen b1.faults b3.faults)) s) kept made.0);
        reads = λ told log kept list taken own. absurd (differs told (own ∙ sym taken));
        out = λ none. elim (out_of s2 made.0 none) [ inl was ↦ inl (told_lost was) | inr rose ↦ inr (λ told. rose_from sorted.1 (rose told)) ];
        moved = moved_still tells t0 t3 b0 b1 b3 T still (moved_before tells shape peer t0 t2 t3 b1 b3 view Q T up since1 viewed1 (has e) moved.0);
        even = λ told list taken own. absurd (differs told (own ∙ sym taken));
      }
        where
          differs : tells → list_in b0.stands.seen ≡ list_in a0.stands.seen → ⊥
          differs told same_list = elim sorted.2 [ inl was ↦ never (sym (gone was) ∙ e) | inr other ↦ other told same_list ]

          viewed1 : IsViewOf tells shape peer b1 view
          viewed1 = view_still tells shape peer b0 b1 view still viewed

  -- whatever was answered
  pub moved_one : (s1 : Slot) → IsSortedView tells a0 b0 b1 lost1 view s1 → IsMoved tells t2 t3 b1 b3 first Q s1 → HasMoved tells t0 t3 b0 b3 T
  moved_one Aside sorted moved = keeps_moved tells shape peer t0 t3 b0 b3 view T viewed (idle moved)
  moved_one (Kept log) sorted moved = absurd sorted
  moved_one (Equal same) sorted moved = keeps_moved tells shape peer t0 t3 b0 b3 view T viewed (keeps_still tells t0 t3 b0 b1 b3 still (keeps_before tells t0 t2 t3 b1 b3 up since1 moved))
  moved_one (Viewed same) sorted moved = by (is_lost first) refl
    where
      by : (b : Bool) → is_lost first ≡ b → HasMoved tells t0 t3 b0 b3 T
      by true e = keeps_moved tells shape peer t0 t3 b0 b3 view T viewed (idle (moved.1 e))
      by false e = moved_still tells t0 t3 b0 b1 b3 T still (moved_before tells shape peer t0 t2 t3 b1 b3 view Q T up since1 (view_still tells shape peer b0 b1 view still viewed) (has e) moved.0)

-- the others were only read
pub moved_read : (tells : Type 0) (shape : Shape) (shard from before now : ℕ) (old new : List DiskSeen) (slots : List Slot) → before ≤ now → ((peer : ℕ) → tells → Since (seen_at old peer).stands) → ((peer : ℕ) → IsOf shape shard peer → IsSlot tells shape peer (seen_at old peer) (slot_at slots peer))
    → ((peer : ℕ) → peer ≢ from → IsStill tells (seen_at old peer) (seen_at new peer)) → KeepsDisk tells before now (seen_at old from) (seen_at new from) → ((peer : ℕ) → (IsOf shape shard peer → ⊥) → seen_at new peer ≡ seen_at old peer) → AreMoved tells shape shard from before now old new slots
moved_read tells shape shard from before now old new slots up since views still keeps outside = record {
  each = λ peer of differs. by peer (slot_at slots peer) (views peer of) (still peer differs);
  disk = keeps;
  outside = outside;
}
  where
    by : (peer : ℕ) (slot : Slot) → IsSlot tells shape peer (seen_at old peer) slot → IsStill tells (seen_at old peer) (seen_at new peer) → IsMovedAs tells before now (seen_at old peer) (seen_at new peer) (λ list. list_in (seen_at old from).stands.seen ≡ Some list) slot
    by peer Aside is s = s
    by peer (Equal view) is s = tt
    by peer (Kept log) is s = tt
    by peer (Viewed view) is s = keeps_moved tells shape peer before now (seen_at old peer) (seen_at new peer) view (λ list. list_in (seen_at old from).stands.seen ≡ Some list) is (still_keeps tells before now (seen_at old peer) (seen_at new peer) up (since peer) s)

-- ---- all of them

-- where the taken log was lost by then
recovered_gone : (tells : Type 0) (t1 t2 : ℕ) (a1 a2 : DiskSeen) (lost1 : Bool) (first : Source) → IsRecovered tells t1 t2 a1 a2 lost1 first → lost1 ≡ true → is_lost first ≡ true
recovered_gone tells t1 t2 a1 a2 lost1 (source.Kept log) rec gone = cc (sym gone ∙ rec.0)
recovered_gone tells t1 t2 a1 a2 lost1 (source.Lost moment) rec gone = refl

recovered_has : (tells : Type 0) (t1 t2 : ℕ) (a1 a2 : DiskSeen) (lost1 : Bool) (first : Source) → IsRecovered tells t1 t2 a1 a2 lost1 first → is_lost first ≡ false → (list : Numbered) → tells → list_in a1.stands.seen ≡ Some list → IsSourceOf first a2 list
recovered_has tells t1 t2 a1 a2 lost1 (source.Kept log) rec there list told is = rec.1.reads told list is
recovered_has tells t1 t2 a1 a2 lost1 (source.Lost moment) rec there list told is = cc there

run_gone : (tells : Type 0) (before now : ℕ) (a a' : DiskSeen) (first last : Source) → IsSourceRun tells before now a a' first last → is_lost first ≡ true → is_lost last ≡ true
run_gone tells before now a a' (source.Kept log) last run gone = cc gone
run_gone tells before now a a' (source.Lost moment) (source.Kept log) run gone = absurd run
run_gone tells before now a a' (source.Lost moment) (source.Lost same) run gone = refl

-- the slot of the taken log, and the moment at which it was lost
abbrev pub slot_with : Source → Slot
slot_with (source.Kept log) = Kept log
slot_with (source.Lost moment) = Aside

lost_told : (last : Source) → is_lost last ≡ true → is_some (lost_at last) ≡ true
lost_told (source.Kept log) e = e
lost_told (source.Lost moment) e = refl

module _ (tells : Type 0) (shape : Shape) (shard from t1 t2 t3 : ℕ) (d0 d1 d2 d3 : List DiskSeen) (slots0 slots1 slots2 slots3 : List Slot) (lost1 : Bool) (first last : Source)
    (up : t1 ≤ t2) (on : t2 ≤ t3) (since : (peer : ℕ) → tells → Since (seen_at d0 peer).stands) (since2 : tells → Since (seen_at d2 from).stands)
    (views : (peer : ℕ) → IsOf shape shard peer → IsSlot tells shape peer (seen_at d0 peer) (slot_at slots0 peer))
    (sorted : AreSorted tells shape shard from (peer_of shape shard 0 + shape.copies) d0 d1 slots0 slots1 lost1)
    (rec : IsRecovered tells t1 t2 (seen_at d1 from) (seen_at d2 from) lost1 first) (keeps : KeepsDisk tells t1 t2 (seen_at d1 from) (seen_at d2 from)) (there : (peer : ℕ) → peer ≢ from → seen_at d2 peer ≡ seen_at d1 peer)
    (made : AreMade tells shape shard from (peer_of shape shard 0 + shape.copies) t2 t3 d2 d3 slots1 slots2 first last)
    (others : (peer : ℕ) → peer ≢ from → slot_at slots3 peer ≡ slot_at slots2 peer) (own : slot_at slots3 from ≡ slot_with last) where
  abbrev a0 : DiskSeen
  a0 = seen_at d0 from

  abbrev a1 : DiskSeen
  a1 = seen_at d1 from

  abbrev a2 : DiskSeen
  a2 = seen_at d2 from

  abbrev a3 : DiskSeen
  a3 = seen_at d3 from

  abbrev Has : Numbered → Type 0
  Has list = list_in a0.stands.seen ≡ Some list

  same_list : tells → list_in a1.stands.seen ≡ list_in a0.stands.seen
  same_list told = ap (λ (s : Standing). list_in s.seen) ((sorted.still from).same told)

  by_slot : (peer : ℕ) → IsOf shape shard peer → peer ≢ from → (s0 s1 s2 : Slot) → IsSlot tells shape peer (seen_at d0 peer) s0
      → IsSorted tells a0 (seen_at d0 peer) (seen_at d1 peer) lost1 s0 s1 → IsMade tells t2 (seen_at d1 peer) (seen_at d3 peer) first last (IsSourceOf first a2) s1 s2 → IsMoved tells t2 t3 (seen_at d1 peer) (seen_at d3 peer) first (IsSourceOf first a2) s1
      → IsEvenedAs tells t1 t3 (seen_at d0 peer) (seen_at d3 peer) Has s0 s2 (lost_at last)
  by_slot peer of differs (Equal view) s1 s2 is s m v = tt
  by_slot peer of differs (Kept log) s1 s2 is s m v = tt
  by_slot peer of differs Aside s1 s2 is s m v = (
    subst (λ (x : Slot). IsMade tells t2 (seen_at d1 peer) (seen_at d3 peer) first last (IsSourceOf first a2) x s2) s m,
    subst (λ (x : DiskSeen). IsStill tells (seen_at d0 peer) x) (sym (subst (λ (x : Slot). IsMoved tells t2 t3 (seen_at d1 peer) (seen_at d3 peer) first (IsSourceOf first a2) x) s v)) (sorted.still peer),
  )
  by_slot peer of differs (Viewed view) s1 s2 is s m v =
      evened tells shape peer t1 t2 t3 a0 a2 (seen_at d0 peer) (seen_at d1 peer) (seen_at d3 peer) view lost1 first last s2 (lost_at last) up on (since peer) is (sorted.still peer)
      (λ none list told e. recovered_has tells t1 t2 a1 a2 lost1 first rec none list told (same_list told ∙ e)) (recovered_gone tells t1 t2 a1 a2 lost1 first rec) (run_gone tells t2 t3 a2 a3 first last made.source) (lost_told last) s1 s m v

  each : (peer : ℕ) → IsOf shape shard peer → peer ≢ from → IsEvenedAs tells t1 t3 (seen_at d0 peer) (seen_at d3 peer) Has (slot_at slots0 peer) (slot_at slots3 peer) (lost_at last)
  each peer of differs =
      let low = of.to in
      let b = there peer differs in
      subst (λ (x : Slot). IsEvenedAs tells t1 t3 (seen_at d0 peer) (seen_at d3 peer) Has (slot_at slots0 peer) x (lost_at last)) (sym (others peer differs))
      (by_slot peer of differs (slot_at slots0 peer) (slot_at slots1 peer) (slot_at slots2 peer) (views peer of) (sorted.each peer of low)
      (subst (λ (x : DiskSeen). IsMade tells t2 x (seen_at d3 peer) first last (IsSourceOf first a2) (slot_at slots1 peer) (slot_at slots2 peer)) b (made.each peer of low))
      (subst (λ (x : DiskSeen). IsMoved tells t2 t3 x (seen_at d3 peer) first (IsSourceOf first a2) (slot_at slots1 peer)) b (made.moved peer of low differs)))

  -- its disk
  keeps_all : KeepsDisk tells t1 t3 a0 a3
  keeps_all = keeps_then tells t1 t2 t3 a0 a2 a3 (keeps_still tells t1 t2 a0 a1 a2 (sorted.still from) keeps) (still_keeps tells t2 t3 a2 a3 on since2 made.still)

  pub evened_all : IsTaken tells t1 t3 a0 a3 (slot_with last) (lost_at last) → AreEvened tells shape shard from t1 t3 d0 d3 slots0 slots3 (lost_at last)
  evened_all taken = record {
    each = each;
    taken = subst (λ (s : Slot). IsTaken tells t1 t3 a0 a3 s (lost_at last)) (sym own) taken;
    disk = keeps_all;
  }

  -- the taken log
  at_rest : tells → a0.stands.last ≤ t1 → a3.stands.last ≤ t2
  at_rest told last =
      let a : a1.stands.last ≤ t1 = subst (λ (s : Standing). s.last ≤ t1) (sym ((sorted.still from).same told)) last in
      subst (λ (s : Standing). s.last ≤ t2) (sym (made.still.same told)) (keeps.past told a).last

  lost_is : (moment : ℕ) → t2 ≤ moment → moment ≤ t3 → (tells → HasRisen a0.faults a3.faults) → IsTaken tells t1 t3 a0 a3 Aside (Some moment)
  lost_is moment low high rose = (
    omega (arith, low, up),
    high,
    record {
      still = λ told last list leaves. let r = at_rest told last in omega (arith, r, low);
      failed = rose;
    },
  )

  counts : (a0.faults ≤ a1.faults) × (a1.faults ≤ a2.faults) × (a2.faults ≤ a3.faults)
  counts = ((sorted.still from).counted, keeps.counted, made.still.counted)

  rose_first : HasRisen a0.faults a1.faults → HasRisen a0.faults a3.faults
  rose_first r = let c = counts in omega (arith, r, c.1, c.2)

  rose_second : HasRisen a1.faults a2.faults → HasRisen a0.faults a3.faults
  rose_second r = let c = counts in omega (arith, r, c.0, c.2)

  rose_third : HasRisen a2.faults a3.faults → HasRisen a0.faults a3.faults
  rose_third r = let c = counts in omega (arith, r, c.0, c.1)

  good_is : (log : Keeping) → lost1 ≡ false → IsGoodView tells t1 a1 a2 log → a3.faults ≡ a2.faults → IsGoodView tells t1 a0 a3 log
  good_is log none g calm = record {
    good = record {
      ready = ready_still tells log a2 a3 made.still g.good.ready;
      calm = calm ∙ g.good.calm ∙ sorted.calm none;
      has = λ told last list e.
          subst (λ (s : Standing). HasLog log s list None) (sym (made.still.same told))
          (g.good.has told (subst (λ (s : Standing). s.last ≤ t1) (sym ((sorted.still from).same told)) last) list (same_list told ∙ e));
    };
    sealed = g.sealed;
    reads = λ told list e. subst (λ (s : Standing). IsKept log (s.seen log.log.side) list None) (sym (made.still.same told)) (g.reads told list (same_list told ∙ e));
  }

  taken_by : (one two : Source) → IsRecovered tells t1 t2 a1 a2 lost1 one → IsSourceRun tells t2 t3 a2 a3 one two → IsTaken tells t1 t3 a0 a3 (slot_with two) (lost_at two)
  taken_by (source.Kept log) (source.Kept same) r run = subst (λ (k : Keeping). IsGoodView tells t1 a0 a3 k) (sym run.0) (good_is log r.0 r.1 run.1)
  taken_by (source.Kept log) (source.Lost moment) r run = lost_is moment run.0 run.1 (λ told. rose_third (run.2 told))
  taken_by (source.Lost moment) (source.Kept log) r run = absurd run
  taken_by (source.Lost moment) (source.Lost same) r run =
      let m : same ≡ t2 = run ∙ r.0 in
      lost_is same (omega (arith, m)) (omega (arith, m, on)) (λ told. elim r.1 [ inl was ↦ rose_first (sorted.failed was.0 told) | inr rose ↦ rose_second (rose told) ])

  pub all_evened : AreEvened tells shape shard from t1 t3 d0 d3 slots0 slots3 (lost_at last)
  all_evened = evened_all (taken_by first last rec made.source)

-- and then made equal, as far as that came
module _ (tells : Type 0) (shape : Shape) (shard from t1 t2 t3 : ℕ) (d0 d1 d2 d3 : List DiskSeen) (slots0 slots1 : List Slot) (lost1 : Bool) (first : Source)
    (up : t1 ≤ t2) (on : t2 ≤ t3) (since : (peer : ℕ) → tells → Since (seen_at d0 peer).stands) (since2 : tells → Since (seen_at d2 from).stands)
    (views : (peer : ℕ) → IsOf shape shard peer → IsSlot tells shape peer (seen_at d0 peer) (slot_at slots0 peer))
    (sorted : AreSorted tells shape shard from (peer_of shape shard 0 + shape.copies) d0 d1 slots0 slots1 lost1)
    (rec : IsRecovered tells t1 t2 (seen_at d1 from) (seen_at d2 from) lost1 first) (keeps : KeepsDisk tells t1 t2 (seen_at d1 from) (seen_at d2 from)) (there : (peer : ℕ) → peer ≢ from → seen_at d2 peer ≡ seen_at d1 peer) (from_home : IsOf shape shard from)
    (moved : (peer : ℕ) → IsOf shape shard peer → peer ≢ from → IsMoved tells t2 t3 (seen_at d2 peer) (seen_at d3 peer) first (IsSourceOf first (seen_at d2 from)) (slot_at slots1 peer))
    (still : IsStill tells (seen_at d2 from) (seen_at d3 from)) (outside : (peer : ℕ) → (IsOf shape shard peer → ⊥) → seen_at d3 peer ≡ seen_at d2 peer) where
  pub moved_all : AreMoved tells shape shard from t1 t3 d0 d3 slots0
  moved_all = record {
    each = λ peer of differs. by peer differs (slot_at slots0 peer) (slot_at slots1 peer) (views peer of) (sorted.each peer of of.to)
        (subst (λ (x : DiskSeen). IsMoved tells t2 t3 x (seen_at d3 peer) first (IsSourceOf first (seen_at d2 from)) (slot_at slots1 peer)) (there peer differs) (moved peer of differs));
    disk = keeps_then tells t1 t2 t3 (seen_at d0 from) (seen_at d2 from) (seen_at d3 from) (keeps_still tells t1 t2 (seen_at d0 from) (seen_at d1 from) (seen_at d2 from) (sorted.still from) keeps)
        (still_keeps tells t2 t3 (seen_at d2 from) (seen_at d3 from) on since2 still);
    outside = λ peer not.
        let differs : peer ≢ from = λ same. not (subst (λ p. IsOf shape shard p) (sym same) from_home) in
        outside peer not ∙ there peer differs ∙ (sorted.outside peer not).1;
  }
    where
      by : (peer : ℕ) → peer ≢ from → (s0 s1 : Slot) → IsSlot tells shape peer (seen_at d0 peer) s0 → IsSorted tells (seen_at d0 from) (seen_at d0 peer) (seen_at d1 peer) lost1 s0 s1 → IsMoved tells t2 t3 (seen_at d1 peer) (seen_at d3 peer) first (IsSourceOf first (seen_at d2 from)) s1
          → IsMovedAs tells t1 t3 (seen_at d0 peer) (seen_at d3 peer) (λ list. list_in (seen_at d0 from).stands.seen ≡ Some list) s0
      by peer differs (Equal view) s1 is s m = tt
      by peer differs (Kept log) s1 is s m = tt
      by peer differs Aside s1 is s m = subst (λ (x : DiskSeen). IsStill tells (seen_at d0 peer) x) (sym (subst (λ (x : Slot). IsMoved tells t2 t3 (seen_at d1 peer) (seen_at d3 peer) first (IsSourceOf first (seen_at d2 from)) x) s m)) (sorted.still peer)
      by peer differs (Viewed view) s1 is s m =
          moved_one tells shape peer t1 t2 t3 (seen_at d0 from) (seen_at d2 from) (seen_at d0 peer) (seen_at d1 peer) (seen_at d3 peer) view lost1 first first (slot_at slots1 peer) None up on (since peer) is (sorted.still peer)
          (λ none list told e. recovered_has tells t1 t2 (seen_at d1 from) (seen_at d2 from) lost1 first rec none list told (ap (λ (x : Standing). list_in x.seen) ((sorted.still from).same told) ∙ e)) (recovered_gone tells t1 t2 (seen_at d1 from) (seen_at d2 from) lost1 first rec) s1 s m

-- ---- what the steps ask

pub sorted_slot : (tells : Type 0) (shape : Shape) (peer : ℕ) (a b b' : DiskSeen) (lost : Bool) (old new : Slot) → IsStill tells b b' → IsSlot tells shape peer b old → IsSorted tells a b b' lost old new → IsSlot tells shape peer b' new
sorted_slot tells shape peer a b b' lost Aside new still is s = subst (λ (x : Slot). IsSlot tells shape peer b' x) (sym s) tt
sorted_slot tells shape peer a b b' lost (Equal view) new still is s = subst (λ (x : Slot). IsSlot tells shape peer b' x) (sym s) (view_still tells shape peer b b' view still is)
sorted_slot tells shape peer a b b' lost (Kept log) new still is s = subst (λ (x : Slot). IsSlot tells shape peer b' x) (sym s) (ready_still tells log b b' still is)
sorted_slot tells shape peer a b b' lost (Viewed view) Aside still is s = tt
sorted_slot tells shape peer a b b' lost (Viewed view) (Viewed same) still is s = subst (λ (v : Viewing). IsViewOf tells shape peer b' v) (sym s.0) (view_still tells shape peer b b' view still is)
sorted_slot tells shape peer a b b' lost (Viewed view) (Equal same) still is s = subst (λ (v : Viewing). IsViewOf tells shape peer b' v) (sym s.0) (view_still tells shape peer b b' view still is)
sorted_slot tells shape peer a b b' lost (Viewed view) (Kept log) still is s = absurd s

pub recovered_source : (tells : Type 0) (t1 t2 : ℕ) (a1 a2 : DiskSeen) (lost : Bool) (first : Source) → IsRecovered tells t1 t2 a1 a2 lost first → IsSource tells a2 first
recovered_source tells t1 t2 x y lost (source.Kept log) rec = (rec.1.good.ready, rec.1.sealed)
recovered_source tells t1 t2 x y lost (source.Lost moment) rec = tt

pub sorted_none : (tells : Type 0) (shape : Shape) (shard from to : ℕ) (old new : List DiskSeen) (slots slots' : List Slot) (lost : Bool) → IsOf shape shard from → from < to → slot_at slots from ≡ Aside → AreSorted tells shape shard from to old new slots slots' lost → slot_at slots' from ≡ Aside
sorted_none tells shape shard from to old new slots slots' lost home low aside sorted =
    subst (λ (x : Slot). IsSorted tells (seen_at old from) (seen_at old from) (seen_at new from) lost x (slot_at slots' from)) aside (sorted.each from home low)

pub made_none_at : (tells : Type 0) (shape : Shape) (shard from to before now : ℕ) (old new : List DiskSeen) (slots slots' : List Slot) (first last : Source) → IsOf shape shard from → from < to → slot_at slots from ≡ Aside → AreMade tells shape shard from to before now old new slots slots' first last → slot_at slots' from ≡ Aside
made_none_at tells shape shard from to before now old new slots slots' first last home low aside made =
    subst (λ (x : Slot). IsMade tells before (seen_at old from) (seen_at new from) first last (IsSourceOf first (seen_at old from)) x (slot_at slots' from)) aside (made.each from home low)
