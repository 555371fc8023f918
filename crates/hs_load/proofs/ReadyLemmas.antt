-- The logs that are in use behind the joins may go on.
use Rattle.std.proofs.Common.{◌≡◌, ◌∙◌, inl, inr, ap, sym, subst, ℕ, zero, suc, ◌-◌, ◌<◌, ◌≤◌, ◌&&◌, ◌==◌, Bool, true, false, List, [], ◌∷◌, ◌++◌, Option, Some, None, Result, Ok, Err, length, get_or, refl, arith, length-append}
use Rattle.std.specs.Option.{option_map_or}
use Rattle.std.specs.Prelude.{if◌then◌else◌, is_none, not, slice_get}
use Rattle.hs_desk.specs.declared.slip.Slip.{Slip}
use Rattle.hs_entry.specs.declared.entry.Entry.{Entry}
use Rattle.hs_peerlog.specs.Lists.{IsKept, IsReady, Keeping}
use Rattle.hs_promise.specs.declared.load.Stored.{Stored}
use Rattle.hs_taking.specs.Disks.{AreReady, DiskSeen, log_at, seen_at}
use Rattle.hs_workers.specs.Work.{GoesOnBy, WorkEnds}
use Rattle.hs_workers.specs.declared.fault.WorkFault.{WorkFault}
use Rattle.hs_load.specs.Judged.{HaveStored, HaveWorked, Team}
use Rattle.hs_load.specs.Team.{HasWorked, PeerEnds, Task, WasAside, bench_at, end_by, ends_failed, fresh_slip, log_left, stored_of}

none_not : {T : Type 0} (x : T) → None ≡ Some x → ⊥
none_not x e = grind arith

true_not : true ≡ false → ⊥
true_not e = cc e

last_of : {T : Type 0} (xs : List T) (x : T) → slice_get (xs ++ x ∷ []) (length xs) ≡ Some x
last_of [] x = refl
last_of (y ∷ xs) x = last_of xs x

-- numbers with a 0 behind them end so
failed_last : (numbers before : List ℕ) → numbers ≡ before ++ 0 ∷ [] → ends_failed numbers ≡ true
failed_last numbers before is =
    let count : length (before ++ 0 ∷ []) - 1 ≡ length before = let e = length-append before (0 ∷ []) in omega (arith, e) in
    ap ends_failed is ∙ ap (λ (n : ℕ). option_map_or (λ number. number == 0) (slice_get (before ++ 0 ∷ []) n) false) count
    ∙ ap (λ (o : Option ℕ). option_map_or (λ number. number == 0) o false) (last_of before 0)

left_by : (b : Bool) (left keeping : Keeping) → Some keeping ≡ (if not b then Some left else None) → (b ≡ false) × (keeping ≡ left)
left_by true left keeping h = absurd (none_not keeping (sym h))
left_by false left keeping h = (refl, cc)

-- a log that is left is the worker's, whose disk did not fail
left_is : (slip : Slip) (stop : Option WorkFault) (left keeping : Keeping) → Some keeping ≡ log_left slip stop left → (stop ≡ None) × (ends_failed slip.stored ≡ false) × (keeping ≡ left)
left_is slip None left keeping is = let both = left_by (ends_failed slip.stored) left keeping is in (refl, both.0, both.1)
left_is slip (Some why) left keeping is = absurd (none_not keeping (sym is))

module _ (tells : Type 0) where
  one_ready : (peer : ℕ) (slot : Option Keeping) (old new : DiskSeen) (kept : Option Keeping) (told : Stored) (stop : Option WorkFault) (keeping : Keeping)
      → PeerEnds tells peer slot old new kept told stop → kept ≡ Some keeping → IsReady tells keeping (new.size keeping.log.side) new.stands
  one_ready peer None old new kept told stop keeping ends is = absurd (none_not keeping (sym ends.in_use ∙ is))
  one_ready peer (Some log) old new kept told stop keeping ends is =
      let left = left_is ends.slip stop ends.left keeping (sym is ∙ ends.in_use) in
      subst (λ (k : Keeping). IsReady tells k (new.size k.log.side) new.stands) (sym left.2) (go stop left.0 ends.came)
    where
      go : (o : Option WorkFault) → o ≡ None → WorkEnds tells (fresh_slip peer) ends.slip (bench_at log old) (bench_at ends.left new) (end_by o) → IsReady tells ends.left (new.size ends.left.log.side) new.stands
      go None e came = elim came.1 [
        | inl rests ↦ rests.1.in_place
        | inr fails ↦ absurd (true_not (sym (failed_last ends.slip.stored fails.before.stored fails.stored) ∙ (left_is ends.slip stop ends.left keeping (sym is ∙ ends.in_use)).1))
      ]
      go (Some why) e came = absurd (none_not why (sym e))

  past_none : (logs : List (Option Keeping)) (peer : ℕ) (keeping : Keeping) → log_at logs peer ≡ Some keeping → peer < length logs
  past_none [] peer keeping is = absurd (none_not keeping is)
  past_none (log ∷ logs) zero keeping is = omega arith
  past_none (log ∷ logs) (suc peer) keeping is = let low = past_none logs peer keeping is in omega (arith, low)

  pub all_ready : (task : Task) (slots : List (Option Keeping)) (disks left : List DiskSeen) (team : Team) → HaveWorked tells task slots disks left team → AreReady tells team.logs left
  all_ready task slots disks left team worked = record {
    each = λ peer keeping is.
        let low = past_none team.logs peer keeping is in
        let logs = worked.logs in
        one_ready peer (log_at slots peer) (seen_at disks peer) (seen_at left peer) (log_at team.logs peer) (get_or team.stored peer (stored_of (fresh_slip peer))) (get_or team.stops peer None) keeping
        (worked.peers peer (stored_of (fresh_slip peer)) None (omega (arith, low, logs))) is;
  }

some_is : {T : Type 0} (x y : T) → Some x ≡ Some y → x ≡ y
some_is x y e = cc

module _ (tells : Type 0) (told : tells) where
  one_stores : (peer : ℕ) (slot : Option Keeping) (old new : DiskSeen) (kept : Option Keeping) (given : Stored) (stop : Option WorkFault) (log after : Keeping) (list : List (ℕ × Entry)) (waiting : Option Entry)
      → PeerEnds tells peer slot old new kept given stop → slot ≡ Some log → kept ≡ Some after → IsKept log (old.stands.seen log.log.side) list waiting → GoesOnBy (bench_at after new) list given.numbers given.shown
  one_stores peer None old new kept given stop log after list waiting ends is used has = absurd (none_not log is)
  one_stores peer (Some own) old new kept given stop log after list waiting ends is used has =
      let left = left_is ends.slip stop ends.left after (sym used ∙ ends.in_use) in
      subst (λ (k : Keeping). GoesOnBy (bench_at k new) list given.numbers given.shown) (sym left.2) (go stop left.0 ends.came)
    where
      here : IsKept own (old.stands.seen own.log.side) list waiting
      here = subst (λ (k : Keeping). IsKept k (old.stands.seen k.log.side) list waiting) (sym (some_is own log is)) has

      go : (o : Option WorkFault) → o ≡ None → WorkEnds tells (fresh_slip peer) ends.slip (bench_at own old) (bench_at ends.left new) (end_by o) → GoesOnBy (bench_at ends.left new) list given.numbers given.shown
      go None e came = elim came.1 [
        | inl rests ↦ subst (λ (numbers : List ℕ). GoesOnBy (bench_at ends.left new) list numbers given.shown) (sym (ap (λ (s : Stored). s.numbers) ends.stored ∙ rests.0.noted_stored))
            (subst (λ (shown : List (ℕ × List ℕ)). GoesOnBy (bench_at ends.left new) list rests.0.stored shown) (sym (ap (λ (s : Stored). s.shown) ends.stored ∙ rests.0.noted_shown)) (rests.0.done.list told list waiting here))
        | inr fails ↦ absurd (true_not (sym (failed_last ends.slip.stored fails.before.stored fails.stored) ∙ (left_is ends.slip stop ends.left after (sym used ∙ ends.in_use)).1))
      ]
      go (Some why) e came = absurd (none_not why (sym e))

-- the logs that are in use behind the joins go on by the numbers that are handed back
pub all_stored : (tells : Type 0) (task : Task) (slots : List (Option Keeping)) (disks left : List DiskSeen) (team : Team) → HaveWorked tells task slots disks left team → HaveStored tells slots disks left team
all_stored tells task slots disks left team worked = λ told peer log after list waiting given is used has.
    let low = past_none tells team.logs peer after used in
    let logs = worked.logs in
    one_stores tells told peer (log_at slots peer) (seen_at disks peer) (seen_at left peer) (log_at team.logs peer) (get_or team.stored peer given) (get_or team.stops peer None) log after list waiting
    (worked.peers peer given None (omega (arith, low, logs))) is used has
