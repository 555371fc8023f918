-- The events of a line.
use Rattle.std.proofs.Common.{◌≡◌, ◌∙◌, ap, sym, subst, ℕ, ◌≤◌, true, false, List, [], ◌∷◌, Option, Some, None, refl, arith}
use Rattle.std.specs.Prelude.{Result, Ok, Err, ⊤, is_ok}
use Rattle.hs_cluster.proofs.EventLemmas.{does_then}
use Rattle.hs_cluster.proofs.PeerEventLemmas.{SlotStays}
use Rattle.hs_cluster.proofs.ShowLemmas.{any_shows, quiet_shows}
use Rattle.hs_cluster.proofs.WalkLemmas.{rise_one}
use Rattle.hs_cluster.specs.Disks.{DiskSeen, log_at}
use Rattle.hs_cluster.specs.Kept.{Shows, Span}
use Rattle.hs_events.specs.Asked.{report_in}
use Rattle.hs_peerlog.specs.Lists.{Keeping}
use Rattle.hs_cluster.specs.Calls.{Does, RunsLine, done_of, ran_out}
use Rattle.hs_events.specs.Commands.{AreOfCommand, BeginsWith, LineAt}
use Rattle.hs_events.specs.declared.due.Due.{Due}
use Rattle.hs_cluster.specs.declared.fault.ClusterFault.{ClusterFault}
use Rattle.hs_cluster.specs.declared.fault.ClusterFault.TheVariants as cluster
use Rattle.hs_events.specs.Due.{Events, MomentsRise, is_it, is_one, turn_behind}
use Rattle.hs_cluster.specs.Running.{Running}
use Rattle.hs_cluster.specs.Settling.{DoesDue, RunsWalk}
use Rattle.hs_core_words.specs.declared.event.Event.{Event}
use Rattle.hs_core_words.specs.declared.event.Event.TheVariants as event
use Rattle.hs_core_words.specs.State.{Core}
use Rattle.hs_core_words.specs.Step.{step}
use Rattle.hs_limits.specs.declared.address.Address.{Address}
use Rattle.hs_model.specs.declared.command.Command.{Command}
use Rattle.hs_model.specs.declared.command.Command.TheVariants as command

-- a line with some events
line_at : ℕ → Core → Events → Result ⊤ ClusterFault → LineAt
line_at line core events r = record { line = line; core = core; events = events; whole = is_ok r }

-- ---- one event

pub begins_one : (line : ℕ) (core : Core) (e : Event) (k : ℕ) (r : Result ⊤ ClusterFault) → BeginsWith (record { line = line; core = core; events = done_of r (e, k); whole = is_ok r }) e (λ core. None)
begins_one line core e k (Ok done) = (refl, refl)
begins_one line core e k (Err (cluster.WrongShape peer found)) = (refl, refl)
begins_one line core e k (Err (cluster.ShardLost shard)) = (refl, refl)
begins_one line core e k (Err cluster.OpsFull) = (refl, refl)
begins_one line core e k (Err cluster.NoMemory) = refl

pub runs_one : (name : List ℕ → Address) (line : ℕ) (asked : Command) (before now : ℕ) (old new : Running) (r : Result ⊤ ClusterFault) (e : Event) (k : ℕ) (Kept : Events → Type 0)
    → (BeginsWith (record { line = line; core = old.core; events = done_of r (e, k); whole = is_ok r }) e (λ core. None) → AreOfCommand name (record { line = line; core = old.core; events = done_of r (e, k); whole = is_ok r }) asked)
    → before ≤ k → k ≤ now → Does (done_of r (e, k)) old new r → Kept (done_of r (e, k)) → RunsLine name line asked before now old new r Kept
runs_one name line asked before now old new r e k Kept is low high does kept = record {
  events = done_of r (e, k);
  due = is (begins_one line old.core e k r);
  rises = rise_one before now r (e, k) low high;
  does = does;
  kept = kept;
}

-- no event, since memory ran out before the first
pub runs_none : (name : List ℕ → Address) (line : ℕ) (asked : Command) (before now : ℕ) (old new : Running) (Kept : Events → Type 0)
    → (BeginsWith (record { line = line; core = old.core; events = []; whole = false }) (event.Turn 0 0) (λ core. None) → AreOfCommand name (record { line = line; core = old.core; events = []; whole = false }) asked)
    → before ≤ now → Does [] old new (Err cluster.NoMemory) → Kept [] → RunsLine name line asked before now old new (Err cluster.NoMemory) Kept
runs_none name line asked before now old new Kept is low does kept = record { events = []; due = is refl; rises = low; does = does; kept = kept }

-- ---- a turn

-- behind a first event, something may be due, or nothing
cut_short : (due : Option Due) (line : ℕ) (core : Core) → is_one due false line core [] ≡ true
cut_short None line core = refl
cut_short (Some due) line core = refl

turn_begins : (line : ℕ) (core : Core) (peer k : ℕ) (fault : ClusterFault)
    → BeginsWith (record { line = line; core = core; events = done_of (Err fault) (event.Turn line peer, k); whole = false }) (event.Turn line peer) (turn_behind peer)
turn_begins line core peer k (cluster.WrongShape p found) = (refl, cut_short (turn_behind peer (step (event.Turn line peer) k core)) line (step (event.Turn line peer) k core))
turn_begins line core peer k (cluster.ShardLost shard) = (refl, cut_short (turn_behind peer (step (event.Turn line peer) k core)) line (step (event.Turn line peer) k core))
turn_begins line core peer k cluster.OpsFull = (refl, cut_short (turn_behind peer (step (event.Turn line peer) k core)) line (step (event.Turn line peer) k core))
turn_begins line core peer k cluster.NoMemory = refl

-- its own event was the last, since the core ended by it, or memory ran out
pub runs_turn_cut : (name : List ℕ → Address) (line peer before now k : ℕ) (old new : Running) (fault : ClusterFault) (Kept : Events → Type 0) → before ≤ k → k ≤ now
    → Does (done_of (Err fault) (event.Turn line peer, k)) old new (Err fault) → Kept (done_of (Err fault) (event.Turn line peer, k)) → RunsLine name line (command.Turn peer) before now old new (Err fault) Kept
runs_turn_cut name line peer before now k old new fault Kept low high does kept = record {
  events = done_of (Err fault) (event.Turn line peer, k);
  due = turn_begins line old.core peer k fault;
  rises = rise_one before now (Err fault) (event.Turn line peer, k) low high;
  does = does;
  kept = kept;
}

-- nothing is due behind it
pub runs_turn_alone : (name : List ℕ → Address) (line peer before now k : ℕ) (old new : Running) (Kept : Events → Type 0) → before ≤ k → k ≤ now
    → Does (done_of (Ok tt) (event.Turn line peer, k)) old new (Ok tt) → turn_behind peer new.core ≡ None → Kept ((event.Turn line peer, k) ∷ []) → RunsLine name line (command.Turn peer) before now old new (Ok tt) Kept
runs_turn_alone name line peer before now k old new Kept low high does none kept = record {
  events = (event.Turn line peer, k) ∷ [];
  due = (refl, ap (λ d. is_one d true line (step (event.Turn line peer) k old.core) []) (ap (turn_behind peer) (sym (does.core refl)) ∙ none));
  rises = (low, high);
  does = does;
  kept = kept;
}

-- what is due behind it is done
one_due : (due : Due) (line : ℕ) (core : Core) (e : Event × ℕ) (r : Result ⊤ ClusterFault) → (ran_out r ≡ false → is_it line core due e.0 ≡ true) → is_one (Some due) (is_ok r) line core (done_of r e) ≡ true
one_due due line core e (Ok done) is = rw (is refl) refl
one_due due line core e (Err (cluster.WrongShape peer found)) is = rw (is refl) refl
one_due due line core e (Err (cluster.ShardLost shard)) is = rw (is refl) refl
one_due due line core e (Err cluster.OpsFull) is = rw (is refl) refl
one_due due line core e (Err cluster.NoMemory) is = refl

pub runs_turn : (name : List ℕ → Address) (line peer before now k : ℕ) (old mid new : Running) (due : Due) (r : Result ⊤ ClusterFault) (Then Kept : Events → Type 0) → before ≤ k
    → Does (done_of (Ok tt) (event.Turn line peer, k)) old mid (Ok tt) → turn_behind peer mid.core ≡ Some due → DoesDue line due k now mid new r Then
    → ((fs : Events) → MomentsRise k fs now → Then fs → Kept ((event.Turn line peer, k) ∷ fs)) → RunsLine name line (command.Turn peer) before now old new r Kept
runs_turn name line peer before now k old mid new due r Then Kept low first is does all =
    let core : mid.core ≡ step (event.Turn line peer) k old.core = first.core refl in
    record {
      events = (event.Turn line peer, k) ∷ done_of r does.event;
      due = (
        refl,
        ap (λ d. is_one d (is_ok r) line (step (event.Turn line peer) k old.core) (done_of r does.event)) (ap (turn_behind peer) (sym core) ∙ is)
            ∙ one_due due line (step (event.Turn line peer) k old.core) does.event r (λ h. ap (λ c. is_it line c due does.event.0) (sym core) ∙ does.due_is h),
      );
      rises = (low, rise_one k now r does.event does.after does.up_to);
      does = does_then ((event.Turn line peer, k) ∷ []) (done_of r does.event) old mid new r first does.does;
      kept = all (done_of r does.event) (rise_one k now r does.event does.after does.up_to) does.kept;
    }

-- ---- settle

pub runs_settle : (name : List ℕ → Address) (line before now : ℕ) (old new : Running) (r : Result ⊤ ClusterFault) (Kept : Events → Type 0) → RunsWalk true line before now old new r Kept → RunsLine name line command.Settle before now old new r Kept
runs_settle name line before now old new r Kept walks = record { events = walks.events; due = walks.due; rises = walks.rises; does = walks.does; kept = walks.kept }

-- ---- what is shown of the disks

pub runs_also : (name : List ℕ → Address) (line : ℕ) (asked : Command) (before now : ℕ) (old new : Running) (r : Result ⊤ ClusterFault) (Kept Also : Events → Type 0) → ((es : Events) → Kept es → Also es)
    → RunsLine name line asked before now old new r Kept → RunsLine name line asked before now old new r Also
runs_also name line asked before now old new r Kept Also f runs = record { events = runs.events; due = runs.due; rises = runs.rises; does = runs.does; kept = f runs.events runs.kept }

-- a line that is one event without a call, whatever the disks
pub runs_quiet : (name : List ℕ → Address) (line : ℕ) (asked meant : Command) (now : ℕ) (old new : Running) (disks : List DiskSeen) (r : Result ⊤ ClusterFault) (e : Event) → asked ≡ meant
    → (BeginsWith (record { line = line; core = old.core; events = done_of r (e, now); whole = is_ok r }) e (λ core. None) → AreOfCommand name (record { line = line; core = old.core; events = done_of r (e, now); whole = is_ok r }) meant)
    → report_in e ≡ None → old.core.ended ≡ None → Does (done_of r (e, now)) old new r → ((p : ℕ) (keeping : Keeping) → log_at new.logs p ≡ Some keeping → log_at old.logs p ≡ Some keeping) → ((p : ℕ) → SlotStays e old.logs new.logs p) → new.cache ≡ old.cache
    → RunsLine name line asked now now old new r (Shows ⊤ (record { before = now; now = now; old = old; new = new; disks = disks; left = disks }) r)
runs_quiet name line asked meant now old new disks r e same is quiet was does less stays cache =
    let kept = quiet_shows e now old new disks r quiet was does less stays cache in
    subst (λ c. RunsLine name line c now now old new r (Shows ⊤ (record { before = now; now = now; old = old; new = new; disks = disks; left = disks }) r)) (sym same)
    (runs_one name line meant now now old new r e now (Shows ⊤ (record { before = now; now = now; old = old; new = new; disks = disks; left = disks }) r) is (omega arith) (omega arith) does kept)

-- so for disks of any type
pub runs_any : (tells : Type 0) (name : List ℕ → Address) (line : ℕ) (asked : Command) (before now : ℕ) (old new : Running) (span : Span) (r : Result ⊤ ClusterFault) → RunsLine name line asked before now old new r (Shows ⊤ span r) → RunsLine name line asked before now old new r (Shows tells span r)
runs_any tells name line asked before now old new span r runs = runs_also name line asked before now old new r (Shows ⊤ span r) (Shows tells span r) (λ es shows. any_shows tells span r es shows) runs
