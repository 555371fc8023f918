-- Opening's turns: where the core ended nobody has one any more.
use Rattle.std.proofs.Common.{◌≡◌, ◌∙◌, ap, sym, subst, ℕ, Bool, true, false, List, [], ◌∷◌, ◌+◌, Option, Some, None, refl, is_none, is_some, not, if◌then◌else◌, arith}
use Rattle.std.proofs.lemmas.List.{append-nil}
use Rattle.std.specs.Option.{option_and_then, option_map, option_map_or}
use Rattle.std.specs.Prelude.{IsSome, Result, Ok, Err, ⊤, is_ok, length, nat_lt}
use Rattle.hs_cluster.proofs.GrowingLemmas.{goes_same}
use Rattle.hs_cluster.proofs.ShowLemmas.{begin_shows, cut_shows}
use Rattle.hs_cluster.specs.Begins.{Begins, HasOpened, HasTurned}
use Rattle.hs_cluster.specs.Calls.{of_core, outcome_by, ran_out}
use Rattle.hs_cluster.specs.declared.fault.ClusterFault.{ClusterFault}
use Rattle.hs_cluster.specs.declared.fault.ClusterFault.TheVariants as why
use Rattle.hs_cluster.specs.Disks.{DiskSeen}
use Rattle.hs_cluster.specs.Growing.{GoesOn}
use Rattle.hs_cluster.specs.Kept.{Shows, Span as Turns}
use Rattle.hs_cluster.specs.Running.{Running}
use Rattle.hs_cluster.specs.Settling.{RunsWalk}
use Rattle.hs_desk.specs.declared.fault.CoreFault.{CoreFault}
use Rattle.hs_desk.specs.declared.fault.CoreFault.TheVariants as ends
use Rattle.hs_limits.specs.declared.limits.Limits.{Limits}
use Rattle.hs_limits.specs.declared.shape.Shape.{Shape}
use Rattle.hs_core_words.specs.declared.event.Event.{Event}
use Rattle.hs_core_words.specs.Looking.{lost_shard}
use Rattle.hs_core_words.specs.Opening.{Taken, begin_views, new_core, note_down, open_core}
use Rattle.hs_core_words.specs.State.{Core}
use Rattle.hs_core_words.specs.Step.{end_event, step}
use Rattle.hs_events.specs.Course.{steps}
use Rattle.hs_events.specs.declared.due.Due.{Due}
use Rattle.hs_events.specs.declared.due.Place.{Place}
use Rattle.hs_fold.specs.Shards.Setting.{Setting}
use Rattle.hs_taking.specs.Shares.{Span}
use Rattle.hs_events.specs.Due.{Events, Walked, first_place, is_it, is_walk, move, next_turn, place_after, raises_known, walk}

some_is : {A : Type 0} (x y : A) → Some x ≡ Some y → x ≡ y
some_is x y e = cc

none_is_not : {A : Type 0} (x : A) → None ≡ Some x → ⊥
none_is_not x e = cc e

-- a walk's core is the one behind its events
move_core : (due : Place → Core → Option Due) (line : ℕ) (at next : Walked) (e : Event × ℕ) → move due line at e ≡ Some next → next.core ≡ step e.0 e.1 at.core
move_core due line at next e h = go (due at.place at.core) h
  where
    inner : (d : Due) (b : Bool) → (if b then Some (record { place = place_after d (raises_known at.core (step e.0 e.1 at.core)) at.place; core = step e.0 e.1 at.core }) else None) ≡ Some next → next.core ≡ step e.0 e.1 at.core
    inner d true k = ap (λ (w : Walked). w.core) (sym (some_is (record { place = place_after d (raises_known at.core (step e.0 e.1 at.core)) at.place; core = step e.0 e.1 at.core }) next k))
    inner d false k = absurd (none_is_not next k)

    go : (o : Option Due) → option_and_then (λ d. if is_it line at.core d e.0 then Some (record { place = place_after d (raises_known at.core (step e.0 e.1 at.core)) at.place; core = step e.0 e.1 at.core }) else None) o ≡ Some next
        → next.core ≡ step e.0 e.1 at.core
    go None k = absurd (none_is_not next k)
    go (Some d) k = inner d (is_it line at.core d e.0) k

walk_core : (due : Place → Core → Option Due) (line : ℕ) (at last : Walked) (es : Events) → walk due line at es ≡ Some last → last.core ≡ steps at.core es
walk_core due line at last [] h = ap (λ (w : Walked). w.core) (sym (some_is at last h))
walk_core due line at last (e ∷ es) h = go (λ next k. walk_core due line next last es k) (move due line at e) refl h
  where
    go : ((next : Walked) → walk due line next es ≡ Some last → last.core ≡ steps next.core es)
        → (o : Option Walked) → move due line at e ≡ o → option_and_then (λ n. walk due line n es) o ≡ Some last → last.core ≡ steps (step e.0 e.1 at.core) es
    go ih None m k = absurd (none_is_not last k)
    go ih (Some next) m k = ih next k ∙ ap (λ c. steps c es) (move_core due line at next e m)

-- a walk that was cut short since the core ended is whole
pub ended_whole : (core : Core) (es : Events) → is_walk next_turn false 0 core es ≡ true → is_some (steps core es).ended ≡ true → is_walk next_turn true 0 core es ≡ true
ended_whole core es h ended = go (walk next_turn 0 (record { place = first_place; core = core }) es) refl h
  where
    no_turn : (place : Place) (c : Core) → is_some c.ended ≡ true → is_none (next_turn place c) ≡ true
    no_turn place c e = rw e refl

    false_is_not : false ≡ true → ⊥
    false_is_not k = cc k

    go : (o : Option Walked) → walk next_turn 0 (record { place = first_place; core = core }) es ≡ o → option_map_or (λ at. true) o false ≡ true
        → option_map_or (λ at. is_none (next_turn at.place at.core)) o false ≡ true
    go None w k = absurd (false_is_not k)
    go (Some at) w k = no_turn at.place at.core (ap (λ (c : Core). is_some c.ended) (walk_core next_turn 0 (record { place = first_place; core = core }) at es w) ∙ ended)

-- ---- what a fault of a core that ended tells

-- where memory did not run out
pub has_ended : (r : Result ⊤ ClusterFault) (ended : Option CoreFault) → is_ok r ≡ false → r ≡ outcome_by ended → is_some ended ≡ true
has_ended (Ok x) ended not is = cc not
has_ended (Err fault) None not is = cc is
has_ended (Err fault) (Some f) not is = refl

-- turns that were cut short only by want of memory are whole
whole : (core : Core) (es : Events) (r : Result ⊤ ClusterFault) → is_walk next_turn (is_ok r) 0 core es ≡ true → (ran_out r ≡ false → r ≡ outcome_by (steps core es).ended) → is_walk next_turn (not (ran_out r)) 0 core es ≡ true
whole core es (Ok x) due outcome = due
whole core es (Err (why.WrongShape peer found)) due outcome = ended_whole core es due (has_ended (Err (why.WrongShape peer found)) (steps core es).ended refl (outcome refl))
whole core es (Err (why.ShardLost shard)) due outcome = ended_whole core es due (has_ended (Err (why.ShardLost shard)) (steps core es).ended refl (outcome refl))
whole core es (Err why.OpsFull) due outcome = ended_whole core es due (has_ended (Err why.OpsFull) (steps core es).ended refl (outcome refl))
whole core es (Err why.NoMemory) due outcome = due

-- a core that goes on has no fault
pub not_ended : (ended : Option CoreFault) → ended ≡ None → IsSome ended → ⊥
not_ended ended is some = never (subst (λ o. IsSome o) is some)
  where
    never : false ≡ true → ⊥
    never k = cc k

-- the turns that were done, whatever ended them
pub turned : (tells : Type 0) (turns : Turns) (r : Result ⊤ ClusterFault) → turns.old.core.ended ≡ None → RunsWalk false 0 turns.before turns.now turns.old turns.new r (Shows tells turns r)
    → (tells → (peer : ℕ) → GoesOn turns.old.logs turns.disks turns.new.logs turns.left peer) → HasTurned tells turns r
turned tells turns r going walks goes_on = record {
  events = walks.events;
  due = whole turns.old.core walks.events r walks.due (λ there. walks.does.outcome there ∙ ap (λ (c : Core). outcome_by c.ended) (walks.does.core there));
  rises = walks.rises;
  does = walks.does;
  still = λ ended. absurd (not_ended turns.old.core.ended going ended);
  shows = walks.kept;
  goes_on = goes_on;
}

-- of a core that had ended none was done
pub not_turned : (tells : Type 0) (now : ℕ) (old : Running) (disks : List DiskSeen) (ended : CoreFault) (fault : ClusterFault) → old.core.ended ≡ Some ended → fault ≡ of_core ended → (ended ≡ ends.NoMemory → ⊥)
    → HasTurned tells (record { before = now; now = now; old = old; new = old; disks = disks; left = disks }) (Err fault)
not_turned tells now old disks ended fault is same never = record {
  events = [];
  due = short (not (ran_out none_done));
  rises = omega arith;
  does = record {
    course = sym (append-nil old.course);
    journal = refl;
    refused = refl;
    core = λ there. refl;
    outcome = λ there. ap (λ (f : ClusterFault). Err f) same ∙ ap outcome_by (sym is);
    going = λ out. absurd (known ended never (sym (ap (λ (f : ClusterFault). ran_out {T = ⊤} (Err f)) same) ∙ out));
    rooms = tt;
  };
  still = λ there. refl;
  shows = cut_shows tells _ fault [] (begin_shows tells now old disks);
  goes_on = λ told peer. goes_same old.logs disks peer;
}
  where
    none_done : Result ⊤ ClusterFault
    none_done = Err fault

    short : (b : Bool) → is_walk next_turn b 0 old.core [] ≡ true
    short true = ended_whole old.core [] refl (ap is_some is)
    short false = refl

    false_is_not : false ≡ true → ⊥
    false_is_not k = cc k

    known : (f : CoreFault) → (f ≡ ends.NoMemory → ⊥) → ran_out {T = ⊤} (Err (of_core f)) ≡ true → ⊥
    known ends.OpsFull other out = false_is_not out
    known (ends.ShardLost shard) other out = false_is_not out
    known ends.NoMemory other out = other refl

-- a core that is opened has not ended for want of memory
pub opens_so_far : (shape : Shape) (limits : Limits) (taken : Taken) (moment : ℕ) (c : Core) (ended : CoreFault) → c ≡ open_core shape limits taken moment → c.ended ≡ Some ended → ended ≡ ends.NoMemory → ⊥
opens_so_far shape limits taken moment c ended is there none =
    not_so (note_down (begin_views (new_core shape limits taken moment))) (sym (ap (λ (x : Core). x.ended) is) ∙ there ∙ ap (λ (f : CoreFault). Some f) none)
  where
    full : Some ends.OpsFull ≡ Some ends.NoMemory → ⊥
    full e = cc e

    lost : (o : Option ℕ) → option_map ends.ShardLost o ≡ Some ends.NoMemory → ⊥
    lost None e = cc e
    lost (Some shard) e = cc e

    not_so : (c : Core) → (end_event c).ended ≡ Some ends.NoMemory → ⊥
    not_so c = go (nat_lt c.limits.ops (length c.journal + length c.entries)) refl
      where
        go : (b : Bool) → nat_lt c.limits.ops (length c.journal + length c.entries) ≡ b → (end_event c).ended ≡ Some ends.NoMemory → ⊥
        go true e = rw e (λ h. full h)
        go false e = rw e (λ h. lost (lost_shard c) h)

-- ---- opening, from its two parts

pub opened : (tells : Type 0) (set : Setting) (span : Span) (begun cluster : Running) (done : Result ⊤ ClusterFault) (at : ℕ) (disks : List DiskSeen) → Begins tells set (record { before = span.before; now = at; old = span.old; new = disks }) begun
    → HasTurned tells (record { before = at; now = span.now; old = begun; new = cluster; disks = disks; left = span.new }) done → HasOpened tells set span cluster done
opened tells set span begun cluster done at disks begins turned = record { begun = begun; opened = at; disks = disks; begins = begins; turned = turned }
