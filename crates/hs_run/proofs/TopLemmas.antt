-- A run right behind its opening.
use Rattle.std.proofs.Common.{◌≡◌, ◌∙◌, inl, inr, ap, sym, subst, ℕ, ◌≤◌, Bool, true, List, [], ◌++◌, Option, Some, Result, refl, arith, not}
use Rattle.std.proofs.lemmas.List.{append-nil}
use Rattle.std.specs.Prelude.{is_ok, ⊤}
use Rattle.hs_cache.specs.Cached.{Cached, cached}
use Rattle.hs_cluster.proofs.RunLemmas.{can_cache, runs_beside}
use Rattle.hs_cluster.specs.declared.fault.ClusterFault.{ClusterFault}
use Rattle.hs_cluster.specs.Disks.{DiskSeen, stands_of}
use Rattle.hs_cluster.specs.Running.{Running}
use Rattle.hs_cluster.specs.RunsOn.{CanRunOn, RunsOn}
use Rattle.hs_core_words.specs.State.{Core}
use Rattle.hs_events.specs.Beginning.{first_items}
use Rattle.hs_events.specs.Course.{items_of, steps}
use Rattle.hs_events.specs.Due.{Events, MomentsRise, is_walk, next_turn}
use Rattle.hs_events.specs.Found.{first_core}
use Rattle.hs_moments.specs.Moments.{Since}
use Rattle.hs_promise.specs.Story.{all_events}
use Rattle.hs_script.specs.Text.{text}
use Rattle.hs_run.specs.declared.stop.Stop.{Stop}
use Rattle.hs_run.specs.Between.{IsCached, IsReadyAt, Point}
use Rattle.hs_run.specs.Going.{Begun, HasAnswered, HasGone, HasShown, IsBehind, IsOpened, IsPrinted, span_to, story_of}
use Rattle.hs_run.specs.OneLine.{IsOpeningPut, Printing}
use Rattle.hs_run.specs.Puts.{Puts}
use Rattle.hs_run.proofs.AnsweredLemmas.{answered_on}
use Rattle.hs_run.proofs.FoundLemmas.{ok_there}
use Rattle.hs_run.proofs.OpeningLemmas.{opening_printed, since_opened}
use Rattle.hs_run.proofs.PassedLemmas.{EndedWell, end_ok, going_of}
use Rattle.hs_run.proofs.RiseLemmas.{rise_on}
use Rattle.hs_run.proofs.ShownLemmas.{later_can, later_shown}

-- whether opening came to its end
pub opened_ok : (did : Result ⊤ ClusterFault) (running : Running) (part : Printing) (result : Result ⊤ Stop) → is_ok result ≡ true → IsOpeningPut did running part result → is_ok did ≡ true
opened_ok did running part result fine put = (end_ok did put.put (ap (λ (r : Result ⊤ Stop). is_ok r) (sym put.ended) ∙ fine)).whole

module _ (tells : Type 0) (b : Begun) (did : Result ⊤ ClusterFault) (at mid : Point) (result : Result ⊤ Stop) (same : mid.cluster ≡ at.cluster) where
  all_same : all_events (story_of b []) ≡ b.opening
  all_same = append-nil b.opening

  pub opened_behind : IsOpened tells b did at → is_ok did ≡ true → at.now ≤ mid.now → IsBehind b [] mid
  opened_behind h fine up = record {
    later = h.later;
    opening = ap (λ (w : Bool). is_walk next_turn (not w) 0 (first_core b.set b.found) b.opening) (sym (ok_there did fine)) ∙ h.due;
    core = ap (λ (c : Running). c.core) same ∙ h.core (ok_there did fine) ∙ ap (λ (es : Events). steps (first_core b.set b.found) es) (sym all_same);
    course = ap (λ (c : Running). c.course) same ∙ h.course ∙ ap (λ (es : Events). first_items b.set.shape b.found b.old.moment ++ items_of (first_core b.set b.found) es) (sym all_same);
    rises = subst (λ (es : Events). MomentsRise b.found.opened es mid.now) (sym all_same) (rise_on b.found.opened at.now mid.now b.opening up h.rises);
    answered = answered_on b.set.limits.ops mid.cluster.core at.now mid.now up
        (subst (λ (c : Core). HasAnswered b.set.limits.ops c at.now) (sym (ap (λ (c : Running). c.core) same ∙ h.core (ok_there did fine))) h.answered);
  }

  pub opened_gone : mid.line ≡ 0 → IsOpened tells b did at → at.got ≡ b.old.got → is_ok result ≡ true
      → IsOpeningPut did at.cluster (record { before = at.now; now = mid.now; old = at.got; new = mid.got }) result → HasGone b [] [] mid
  opened_gone zero h was fine put =
      let well : EndedWell did put.put = end_ok did put.put (ap (λ (r : Result ⊤ Stop). is_ok r) (sym put.ended) ∙ fine) in
      record {
        behind = opened_behind h well.whole put.puts.late.later;
        going = ap (λ (c : Running). c.core.ended) same ∙ going_of did at.cluster.core.ended well.whole (h.outcome well.there);
        line = zero;
        each = refl;
        gone = λ commands said. tt;
        printed = subst (λ (c : Running). IsPrinted b.old mid.now mid.got c.core.journal) (sym same)
            (opening_printed tells b did at mid.now mid.got put.put h (since_opened tells b did at h)
            (subst (λ (g : Option (List (ℕ × ℕ))). Puts at.now mid.now (text at.cluster.core.journal) g mid.got put.put) was put.puts) well.printed);
      }

  pub opened_shown : mid.disks ≡ at.disks → IsOpened tells b did at → is_ok result ≡ true
      → IsOpeningPut did at.cluster (record { before = at.now; now = mid.now; old = at.got; new = mid.got }) result → HasShown tells b [] mid
  opened_shown left h fine put =
      let well : EndedWell did put.put = end_ok did put.put (ap (λ (r : Result ⊤ Stop). is_ok r) (sym put.ended) ∙ fine) in
      record {
        shown = subst (λ (es : Events). RunsOn tells b.set (span_to b mid) b.found es) (sym all_same)
            (subst (λ (c : Running). RunsOn tells b.set (span_to b (record mid { cluster = c })) b.found b.opening) (sym same)
            (subst (λ (d : List DiskSeen). RunsOn tells b.set (span_to b (record mid { cluster = at.cluster; disks = d })) b.found b.opening) (sym left)
            (later_shown tells b at b.opening mid.now put.puts.late.later h.rises h.since h.shown)));
        may = subst (λ (es : Events). CanRunOn tells b.set (span_to b mid) b.found es) (sym all_same)
            (subst (λ (c : Running). CanRunOn tells b.set (span_to b (record mid { cluster = c })) b.found b.opening) (sym same)
            (subst (λ (d : List DiskSeen). CanRunOn tells b.set (span_to b (record mid { cluster = at.cluster; disks = d })) b.found b.opening) (sym left)
            (later_can tells b at b.opening mid.now put.puts.late.later (h.may well.whole))));
        since = λ told. subst (λ (d : List DiskSeen). Since (stands_of d)) (sym left) (h.since told);
      }

-- ---- with an empty cache

pub gone_cached : (b : Begun) (mid : Point) (cluster : Running) → IsCached mid.cluster cluster → HasGone b [] [] mid → HasGone b [] [] (record mid { cluster = cluster })
gone_cached b mid cluster is h = elim is [
  | inl same ↦ subst (λ (c : Running). HasGone b [] [] (record mid { cluster = c })) (sym same) h
  | inr new ↦ subst (λ (c : Running). HasGone b [] [] (record mid { cluster = c })) (sym new.1) (record {
    behind = record {
      later = h.behind.later;
      opening = h.behind.opening;
      core = h.behind.core;
      course = h.behind.course;
      rises = h.behind.rises;
      answered = h.behind.answered;
    };
    going = h.going;
    line = h.line;
    each = h.each;
    gone = h.gone;
    printed = h.printed;
  })
]

pub shown_cached : (tells : Type 0) (b : Begun) (mid : Point) (cluster : Running) → IsCached mid.cluster cluster → HasShown tells b [] mid → HasShown tells b [] (record mid { cluster = cluster })
shown_cached tells b mid cluster is h = elim is [
  | inl same ↦ subst (λ (c : Running). HasShown tells b [] (record mid { cluster = c })) (sym same) h
  | inr new ↦
      let cache : Option Cached = Some (cached [] new.0) in
      let other : Running = record mid.cluster { cache = cache } in
      subst (λ (c : Running). HasShown tells b [] (record mid { cluster = c })) (sym new.1) (record {
        shown = runs_beside tells b.set b.found b.old.moment mid.now b.first mid.cluster other b.disks mid.disks (all_events (story_of b [])) h.shown;
        may = can_cache tells b.set b.found b.old.moment mid.now b.first mid.cluster cache b.disks mid.disks (all_events (story_of b [])) refl h.may;
        since = h.since;
      })
]

pub ready_cached : (tells : Type 0) (mid : Point) (cluster : Running) → IsCached mid.cluster cluster → IsReadyAt tells mid → IsReadyAt tells (record mid { cluster = cluster })
ready_cached tells mid cluster is h = elim is [
  | inl same ↦ subst (λ (c : Running). IsReadyAt tells (record mid { cluster = c })) (sym same) h
  | inr new ↦ subst (λ (c : Running). IsReadyAt tells (record mid { cluster = c })) (sym new.1) (record { going = h.going; last = h.last; moment = h.moment; count = h.count; ready = h.ready })
]

pub core_cached : (old new : Running) → IsCached old new → new.core ≡ old.core
core_cached old new is = elim is [
  | inl same ↦ ap (λ (c : Running). c.core) same
  | inr cache ↦ ap (λ (c : Running). c.core) cache.1
]

-- as ready as before, with what was put since
pub ready_on : (tells : Type 0) (at mid : Point) → mid.cluster ≡ at.cluster → mid.disks ≡ at.disks → mid.line ≡ at.line → at.now ≤ mid.now → IsReadyAt tells at → IsReadyAt tells mid
ready_on tells at mid cluster disks line up h = subst (λ (c : Running). IsReadyAt tells (record mid { cluster = c })) (sym cluster)
    (subst (λ (d : List DiskSeen). IsReadyAt tells (record mid { cluster = at.cluster; disks = d })) (sym disks)
    (subst (λ (n : ℕ). IsReadyAt tells (record mid { cluster = at.cluster; disks = at.disks; line = n })) (sym line) (record {
      going = h.going;
      last = h.last;
      moment = let low = h.moment in omega (arith, low, up);
      count = h.count;
      ready = h.ready;
    })))
