-- The last lines, one after another.
use Rattle.std.proofs.lemmas.Bool.{false≢true}
use Rattle.std.proofs.Common.{◌≡◌, ◌∙◌, ◌⊎◌, inl, inr, ap, sym, subst, ℕ, ◌+◌, ◌*◌, ◌≤◌, Bool, true, false, List, [], ◌∷◌, Result, Ok, Err, refl, length, arith}
use Rattle.std.specs.Prelude.{OnOk, is_ok, ⊤}
use Rattle.hs_cluster.specs.Calls.{RunsLine, outcome_by, ran_out}
use Rattle.hs_cluster.proofs.GrowingLemmas.{goes_same, goes_then}
use Rattle.hs_cluster.specs.Disks.{AreReady}
use Rattle.hs_cluster.specs.declared.fault.ClusterFault.{ClusterFault}
use Rattle.hs_core_words.specs.State.{Core}
use Rattle.hs_events.specs.Course.{steps}
use Rattle.hs_events.specs.Due.{Events}
use Rattle.hs_limits.specs.declared.address.Address.{Address}
use Rattle.hs_limits.specs.declared.shape.Shape.{Shape}
use Rattle.hs_model.specs.declared.command.Command.{Command}
use Rattle.hs_model.specs.declared.command.Command.TheVariants as command
use Rattle.hs_run.specs.Between.{IsReadyAt, Point}
use Rattle.hs_run.proofs.LastLineLemmas.{command_up, steps_up}
use Rattle.hs_run.proofs.PassedLemmas.{going_of}
use Rattle.hs_load.specs.Loaded.{ListsGoOn, RunsAll, RunsNext, Stand, starts_one}

-- behind a line the cluster may be asked the next one
pub line_ready : (tells : Type 0) (name : List ℕ → Address) (asked : Command) (old new : Point) (did : Result ⊤ ClusterFault) (Kept : Events → Type 0) → IsReadyAt tells old
    → RunsLine name (old.line + 1) asked old.now new.now old.cluster new.cluster did Kept
    → OnOk did (AreReady tells new.cluster.logs new.disks) → OnOk did (new.cluster.core.moment ≤ new.now) → new.cluster.core.members.shape ≡ old.cluster.core.members.shape
    → length new.disks ≡ length old.disks → new.line ≡ old.line + 1 → OnOk did (IsReadyAt tells new)
line_ready tells name asked old new did Kept h runs ready moment shape count line = go did ready moment runs.does.outcome runs.does.core
  where
    up : (steps old.cluster.core runs.events).progress.last_line ≤ old.line + 1
    up = steps_up (old.line + 1) old.cluster.core runs.events (let low = h.last in omega (arith, low)) (command_up name (old.line + 1) old.cluster.core runs.events (is_ok did) asked runs.due)

    go : (r : Result ⊤ ClusterFault) → OnOk r (AreReady tells new.cluster.logs new.disks) → OnOk r (new.cluster.core.moment ≤ new.now) → (ran_out r ≡ false → r ≡ outcome_by new.cluster.core.ended)
        → (ran_out r ≡ false → new.cluster.core ≡ steps old.cluster.core runs.events) → OnOk r (IsReadyAt tells new)
    go (Ok x) ready moment outcome core = record {
      going = going_of (Ok x) new.cluster.core.ended refl (outcome refl);
      last = subst (λ (n : ℕ). new.cluster.core.progress.last_line ≤ n) (sym line) (subst (λ (c : Core). c.progress.last_line ≤ old.line + 1) (sym (core refl)) up);
      moment = moment;
      count = count ∙ h.count ∙ ap (λ (s : Shape). s.shards * s.copies) (sym shape);
      ready = ready;
    }
    go (Err fault) ready moment outcome core = tt

-- a line that starts nobody starts no peer
pub starts_none : (asked : Command) → starts_one asked ≡ false → (peer : ℕ) → asked ≡ command.Start peer → ⊥
starts_none asked none peer is = false≢true (sym none ∙ ap starts_one is)

-- what is so of each peer where a line was done
pub each_on : (did : Result ⊤ ClusterFault) (P : ℕ → Type 0) → ((peer : ℕ) → OnOk did (P peer)) → OnOk did ((peer : ℕ) → P peer)
each_on (Ok x) P each = each
each_on (Err f) P each = tt

module _ (tells : Type 0) (name : List ℕ → Address) where
  -- the lists go on, from line to line
  pub lists_go_on : (asked : List Command) (old new : Stand) (did : Result ⊤ ClusterFault) → RunsAll tells name asked old new did → ListsGoOn tells old new
  lists_go_on [] old new did runs = λ told peer. subst (λ (at : Stand). ListsGoOn tells old at) (sym runs.0) (λ t p. goes_same old.cluster.logs old.disks p) told peer
  lists_go_on (a ∷ asked) old new (Ok x) runs = λ told peer.
      let mid = runs.0 in
      goes_then old.cluster.logs mid.cluster.logs new.cluster.logs old.disks mid.disks new.disks peer (runs.1.on told peer) (lists_go_on asked mid new (Ok x) runs.2 told peer)
  lists_go_on (a ∷ asked) old new (Err f) runs = λ told peer. elim runs [
    | inl cut ↦ cut.on told peer
    | inr on ↦ (let mid = on.0 in goes_then old.cluster.logs mid.cluster.logs new.cluster.logs old.disks mid.disks new.disks peer (on.1.on told peer) (lists_go_on asked mid new (Err f) on.2 told peer))
  ]

  -- the last line, one of which others follow, and one that was cut short
  pub one_line : (asked : Command) (old new : Stand) (did : Result ⊤ ClusterFault) → RunsNext tells name asked old new did → RunsAll tells name (asked ∷ []) old new did
  one_line asked old new (Ok x) runs = (new, runs, (refl, refl))
  one_line asked old new (Err f) runs = inl runs

  pub more_lines : (asked : Command) (more : List Command) (old mid new : Stand) (did : Result ⊤ ClusterFault) → RunsNext tells name asked old mid (Ok tt) → RunsAll tells name more mid new did → RunsAll tells name (asked ∷ more) old new did
  more_lines asked more old mid new (Ok x) runs rest = (mid, runs, rest)
  more_lines asked more old mid new (Err f) runs rest = inr (mid, runs, rest)

  pub cut_line : (asked : Command) (more : List Command) (old new : Stand) (f : ClusterFault) → RunsNext tells name asked old new (Err f) → RunsAll tells name (asked ∷ more) old new (Err f)
  cut_line asked more old new f runs = inl runs
