-- What opening found, as hs_promise says it, and the run right behind opening.
use Rattle.std.proofs.Common.{◌≡◌, inl, inr, ◌∙◌, ap, sym, subst, ℕ, ◌+◌, ◌-◌, ◌^◌, ◌≤◌, ◌*◌, true, false, not, List, ◌++◌, Option, Result, Ok, Err, refl, arith, length}
use Rattle.std.proofs.lemmas.Bool.{cases_lt, false≢true}
use Rattle.std.proofs.lemmas.List.{get_or_past}
use Rattle.std.proofs.lemmas.List.Elements.{Contains-get_or}
use Rattle.std.specs.Prelude.{All, Contains, is_ok, slice_index_or, ⊤}
use Rattle.hs_cluster.proofs.CountLemmas.{rose_then}
use Rattle.hs_cluster.proofs.OpenedLemmas.{opens_so}
use Rattle.hs_cluster.proofs.RunLemmas.{runs_opened, untold_opened}
use Rattle.hs_cluster.specs.Calls.{ran_out}
use Rattle.hs_cluster.specs.declared.fault.ClusterFault.{ClusterFault}
use Rattle.hs_cluster.specs.Disks.{AreReady, DiskSeen, seen_at, stands_of}
use Rattle.hs_cluster.specs.Kept.{Span as Kept}
use Rattle.hs_cluster.specs.Opens.{Finds, IsLostLog, Opens}
use Rattle.hs_cluster.specs.Running.{Running}
use Rattle.hs_cluster.specs.RunsOn.{CanRunOn, RunsOn, StandUntold}
use Rattle.hs_core_words.specs.State.{Core}
use Rattle.hs_events.specs.Beginning.{first_items}
use Rattle.hs_events.specs.Course.{items_of, steps}
use Rattle.hs_events.specs.Due.{Events, next_turn}
use Rattle.hs_events.specs.Found.{first_core, opens_with}
use Rattle.hs_events.specs.Reports.{failures}
use Rattle.hs_events.specs.Taken.{peer_count}
use Rattle.hs_fold.specs.Shards.Setting.{Setting}
use Rattle.hs_model.specs.declared.command.Command.{Command}
use Rattle.hs_moments.specs.Moments.{Since}
use Rattle.hs_ports.specs.Fault.{HasRisen}
use Rattle.hs_ports.specs.Objects.{Objects}
use Rattle.hs_promise.specs.Found.{HasFound, IsLostBefore}
use Rattle.hs_promise.specs.Run.{DiskRose, Ran}
use Rattle.hs_promise.specs.Story.{all_events}
use Rattle.hs_taking.specs.Shares.{Span}
use Rattle.hs_run.specs.Between.{IsReadyAt}
use Rattle.hs_run.specs.Going.{Begun, IsOpened, script_by, story_of}
use Rattle.hs_run.specs.Machine.{AreHanded}
use Rattle.hs_run.proofs.AnsweredLemmas.{answered_opens, answered_steps}
use Rattle.hs_run.proofs.DisksLemmas.{rose_is}
use Rattle.hs_run.proofs.LastLineLemmas.{steps_later, steps_up, walk_up}
use Rattle.hs_run.proofs.PassedLemmas.{going_of}
use Rattle.hs_run.proofs.ShownLemmas.{can_first}

-- ---- what was found

all_of : {X : Type 0} (P : X → Type 0) (xs : List X) → ((x : X) → Contains xs x → P x) → All P xs
all_of P xs h = λ k d low. h (slice_index_or xs k d) (Contains-get_or xs k d low)

-- of a run, by what its disks show
pub has_found : (tells : Type 0) (b : Begun) (lines : List Events) (commands : ℕ → Option Command) (r : Ran) (span : Kept) → span.before ≡ r.old.moment → AreHanded r.old span.disks → AreHanded r.new span.left
    → RunsOn tells b.set span b.found (all_events (story_of b lines)) → HasFound (script_by b commands) r (story_of b lines)
has_found tells b lines commands r span entry was is shown = record {
  logs = finds.logs;
  goods = finds.goods;
  later = let low = finds.later in omega (arith, entry, low);
  lost = all_of (IsLostBefore (script_by b commands) r (story_of b lines)) b.found.lost (λ x among. lost_before x (finds.lost x among));
  once = finds.once;
  all_lost = finds.all_lost;
  kept = λ peer good. elim (cases_lt peer (peer_count b.set.shape)) [
    | inl low ↦ (finds.each peer low).kept good
    | inr high ↦ absurd (false≢true (sym (get_or_past b.found.good peer false (let long = finds.goods in omega (arith, high, long))) ∙ good))
  ];
  aside = λ peer low bad. elim ((finds.each peer low).aside bad) [
    | inl rose ↦ inl (beside peer rose)
    | inr other ↦ elim other [
      | inl none ↦ inr (inl none)
      | inr behind ↦ inr (inr (record { lost = behind.lost; among = behind.among; same_shard = behind.same_shard }))
    ]
  ];
}
  where
    finds : Finds tells b.set (record { before = span.before; now = b.found.opened; old = span.disks; new = shown.disks }) b.found shown.slots
    finds = shown.finds

    lost_before : (x : ℕ × ℕ) → IsLostLog tells b.set (record { before = span.before; now = b.found.opened; old = span.disks; new = shown.disks }) b.found x → IsLostBefore (script_by b commands) r (story_of b lines) x
    lost_before x h = record {
      taken = h.taken;
      bad = h.bad;
      later = let low = h.later in omega (arith, entry, low);
      before = h.up_to;
    }

    -- a disk that failed before the first turn, and by each report since
    beside : (peer : ℕ) → HasRisen (seen_at span.disks peer).faults (seen_at shown.disks peer).faults
        → DiskRose r (1 + failures false peer (first_core b.set b.found) (all_events (story_of b lines))) peer
    beside peer rose =
        rose_is (1 + failures false peer (first_core b.set b.found) (all_events (story_of b lines))) r.old r.new span.disks span.left was is peer
        (rose_then (2 ^ 64 - 1) (seen_at span.disks peer).faults (seen_at shown.disks peer).faults (seen_at span.left peer).faults 1 (failures false peer (first_core b.set b.found) (all_events (story_of b lines)))
        rose (shown.counted.failed peer))

-- ---- behind opening

pub ok_there : (did : Result ⊤ ClusterFault) → is_ok did ≡ true → ran_out did ≡ false
ok_there (Ok x) fine = refl
ok_there (Err fault) fine = absurd (false≢true fine)

pub opened_so : (tells : Type 0) (set : Setting) (span : Span) (cluster : Running) (did : Result ⊤ ClusterFault) (opens : Opens tells set span cluster did) (old : Objects) (disks : List DiskSeen) (got : Option (List (ℕ × ℕ))) (line : ℕ)
    → old.moment ≡ span.before → disks ≡ span.new → (tells → Since (stands_of disks))
    → IsOpened tells (record { set = set; old = old; disks = span.old; found = opens.found; first = opens.begun; opening = opens.events }) did (record { now = span.now; cluster = cluster; disks = disks; got = got; line = line })
opened_so tells set span cluster did opens old disks got line entry left since = record {
  later = let low = opens.finds.later in omega (arith, entry, low);
  due = opens.due;
  rises = opens.rises;
  core = opens.core;
  outcome = opens.outcome;
  journal = opens.journal;
  refused = opens.refused;
  course = opens.course ∙ ap (λ (k : ℕ). first_items set.shape opens.found k ++ items_of (first_core set opens.found) opens.events) (sym entry);
  answered = answered_steps set.limits.ops (first_core set opens.found) opens.events opens.found.opened span.now (answered_opens set.shape set.limits (opens_with set opens.found) opens.found.opened) opens.rises;
  shown = as_span (runs_opened tells set span cluster did opens);
  may = λ fine. may_span (can_first tells set span cluster did opens fine);
  untold = λ out. subst (λ (d : List DiskSeen). StandUntold set opens.found opens.events span.old d) (sym left) (untold_opened tells set span cluster did opens out);
  since = since;
}
  where
    -- from the entry of the run, with the disks as they are
    as_span : RunsOn tells set (record { before = span.before; now = span.now; old = opens.begun; new = cluster; disks = span.old; left = span.new }) opens.found opens.events
        → RunsOn tells set (record { before = old.moment; now = span.now; old = opens.begun; new = cluster; disks = span.old; left = disks }) opens.found opens.events
    as_span h =
        subst (λ (k : ℕ). RunsOn tells set (record { before = k; now = span.now; old = opens.begun; new = cluster; disks = span.old; left = disks }) opens.found opens.events) (sym entry)
        (subst (λ (d : List DiskSeen). RunsOn tells set (record { before = span.before; now = span.now; old = opens.begun; new = cluster; disks = span.old; left = d }) opens.found opens.events) (sym left) h)

    may_span : CanRunOn tells set (record { before = span.before; now = span.now; old = opens.begun; new = cluster; disks = span.old; left = span.new }) opens.found opens.events
        → CanRunOn tells set (record { before = old.moment; now = span.now; old = opens.begun; new = cluster; disks = span.old; left = disks }) opens.found opens.events
    may_span h =
        subst (λ (k : ℕ). CanRunOn tells set (record { before = k; now = span.now; old = opens.begun; new = cluster; disks = span.old; left = disks }) opens.found opens.events) (sym entry)
        (subst (λ (d : List DiskSeen). CanRunOn tells set (record { before = span.before; now = span.now; old = opens.begun; new = cluster; disks = span.old; left = d }) opens.found opens.events) (sym left) h)

-- where it came to its end, the cluster may be asked its first line
pub opened_ready : (tells : Type 0) (set : Setting) (span : Span) (cluster : Running) (did : Result ⊤ ClusterFault) (opens : Opens tells set span cluster did) (disks : List DiskSeen) (got : Option (List (ℕ × ℕ))) (line : ℕ) → is_ok did ≡ true
    → length disks ≡ cluster.core.members.shape.shards * cluster.core.members.shape.copies → AreReady tells cluster.logs disks → IsReadyAt tells (record { now = span.now; cluster = cluster; disks = disks; got = got; line = line })
opened_ready tells set span cluster did opens disks got line fine count ready =
    let stays = opens_so set.shape set.limits (opens_with set opens.found) opens.found.opened in
    let core : cluster.core ≡ steps (first_core set opens.found) opens.events = opens.core (ok_there did fine) in
    let none : (first_core set opens.found).progress.last_line ≡ 0 = stays.last_line in
    let at : (first_core set opens.found).moment ≡ opens.found.opened = stays.moment in
    let last : (steps (first_core set opens.found) opens.events).progress.last_line ≤ 0 =
    steps_up 0 (first_core set opens.found) opens.events (omega (arith, none)) (walk_up 0 0 next_turn (not (ran_out did)) (first_core set opens.found) opens.events opens.due) in
    let later : (steps (first_core set opens.found) opens.events).moment ≤ span.now = steps_later (first_core set opens.found) opens.events opens.found.opened span.now (omega (arith, at)) opens.rises in
    record {
      going = going_of did cluster.core.ended fine (opens.outcome (ok_there did fine));
      last = subst (λ (c : Core). c.progress.last_line ≤ line) (sym core) (omega (arith, last));
      moment = subst (λ (c : Core). c.moment ≤ span.now) (sym core) later;
      count = count;
      ready = ready;
    }
