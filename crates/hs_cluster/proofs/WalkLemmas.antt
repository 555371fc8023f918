-- Events that are due one after another.
use Rattle.std.proofs.Common.{◌≡◌, ◌∙◌, ap, sym, subst, ℕ, ◌*◌, ◌<◌, ◌≤◌, Bool, true, false, List, [], ◌∷◌, ◌++◌, Option, Some, None, refl, arith, is_none, map, nat_lt}
use Rattle.std.proofs.lemmas.List.{append-nil}
use Rattle.std.specs.List.{list_any, range_with_len}
use Rattle.std.specs.Option.{option_and_then, option_map_or}
use Rattle.std.specs.Prelude.{slice_index_or, Result, Ok, Err, ⊤, ◌==◌, if◌then◌else◌}
use Rattle.hs_cluster.proofs.EventLemmas.{does_then, nothing_done, still_going}
use Rattle.hs_events.proofs.NotedLemmas.{at_from_zero}
use Rattle.hs_events.proofs.RangeLemmas.{any_same}
use Rattle.hs_cluster.specs.Calls.{Does, done_of, outcome_by, ran_out}
use Rattle.hs_events.specs.declared.due.Due.{Due}
use Rattle.hs_events.specs.declared.due.Due.TheVariants.{Reporting, Handling, Nudging}
use Rattle.hs_events.specs.declared.due.Place.{Place}
use Rattle.hs_cluster.specs.declared.fault.ClusterFault.{ClusterFault}
use Rattle.hs_cluster.specs.declared.fault.ClusterFault.TheVariants.{NoMemory}
use Rattle.hs_events.specs.Due.{Events, MomentsRise, Walked, first_place, is_answer, is_it, move, peer_due, place_after, raises_known, walk}
use Rattle.hs_cluster.specs.Running.{Running}
use Rattle.hs_cluster.specs.Settling.{DoesDue, HasWalked, RunsWalk, due_with}
use Rattle.hs_core_words.specs.declared.event.Event.{Event}
use Rattle.hs_core_words.specs.declared.event.Event.TheVariants as event
use Rattle.hs_core_words.specs.Looking.{known_of}
use Rattle.hs_core_words.specs.State.{Core}
use Rattle.hs_core_words.specs.Step.{step}
use Rattle.hs_desk.specs.declared.done.Done.{Done}
use Rattle.hs_limits.specs.declared.shape.Shape.{Shape}
use Rattle.hs_members.specs.Members.{all_peers}

-- ---- one event is what is due

same_number : (n : ℕ) → (n == n) ≡ true
same_number n = grind arith

pub report_is_it : (line : ℕ) (core : Core) (peer : ℕ) (told : Done) → is_answer core peer told ≡ true → is_it line core (Reporting peer) (event.Report peer told) ≡ true
report_is_it line core peer told h = rw h (same_number peer)

pub deliver_is_it : (line : ℕ) (core : Core) (peer message : ℕ) → is_it line core (Handling peer message) (event.Deliver line message) ≡ true
deliver_is_it line core peer message = rw (same_number line) (same_number message)

pub nudge_is_it : (line : ℕ) (core : Core) (peer : ℕ) → is_it line core (Nudging peer) (event.Nudge line peer) ≡ true
nudge_is_it line core peer = rw (same_number line) (same_number peer)

-- by what is due
pub deliver_of : (line : ℕ) (core : Core) (d : Due) (peer message : ℕ) → d ≡ Handling peer message → is_it line core d (event.Deliver line message) ≡ true
deliver_of line core d peer message is = subst (λ x. is_it line core x (event.Deliver line message) ≡ true) (sym is) (deliver_is_it line core peer message)

pub nudge_of : (line : ℕ) (core : Core) (d : Due) (peer : ℕ) → d ≡ Nudging peer → is_it line core d (event.Nudge line peer) ≡ true
nudge_of line core d peer is = subst (λ x. is_it line core x (event.Nudge line peer) ≡ true) (sym is) (nudge_is_it line core peer)

-- ---- moments

pub rise_then : (from mid to : ℕ) (es fs : Events) → MomentsRise from es mid → MomentsRise mid fs to → MomentsRise from (es ++ fs) to
rise_then from mid to [] fs h g = lower fs g
  where
    lower : (fs : Events) → MomentsRise mid fs to → MomentsRise from fs to
    lower [] g = let a = h in let b = g in omega (arith, a, b)
    lower (f ∷ fs) g = let a = h in let b = g.0 in (omega (arith, a, b), g.1)
rise_then from mid to (e ∷ es) fs h g = (h.0, rise_then e.1 mid to es fs h.1 g)

pub rise_one : (before now : ℕ) (r : Result ⊤ ClusterFault) (e : Event × ℕ) → before ≤ e.1 → e.1 ≤ now → MomentsRise before (done_of r e) now
rise_one before now r e low high = go (ran_out r)
  where
    go : (b : Bool) → MomentsRise before (if b then [] else e ∷ []) now
    go true = omega (arith, low, high)
    go false = (low, high)

-- ---- a walk that goes on

then_walk : (due : Place → Core → Option Due) (line : ℕ) (at mid : Walked) (es fs : Events) → walk due line at es ≡ Some mid → walk due line at (es ++ fs) ≡ walk due line mid fs
then_walk due line at mid [] fs h = ap (λ w. walk due line w fs) (some_is at mid h)
  where
    some_is : (x y : Walked) → Some x ≡ Some y → x ≡ y
    some_is x y e = cc
then_walk due line at mid (e ∷ es) fs h = go (λ next. then_walk due line next mid es fs) (move due line at e) h
  where
    none_is_not : (x : Walked) → None ≡ Some x → ⊥
    none_is_not x e = grind arith

    go : ((next : Walked) → walk due line next es ≡ Some mid → walk due line next (es ++ fs) ≡ walk due line mid fs)
        → (next : Option Walked) → option_and_then (λ n. walk due line n es) next ≡ Some mid → option_and_then (λ n. walk due line n (es ++ fs)) next ≡ walk due line mid fs
    go ih None h = absurd (none_is_not mid h)
    go ih (Some next) h = ih next h

-- one event that is due
move_one : (due : Place → Core → Option Due) (line : ℕ) (place : Place) (core : Core) (d : Due) (e : Event × ℕ) → due place core ≡ Some d → is_it line core d e.0 ≡ true
    → walk due line (record { place = place; core = core }) (e ∷ []) ≡ Some (record { place = place_after d (raises_known core (step e.0 e.1 core)) place; core = step e.0 e.1 core })
move_one due line place core d e is it = rw (is, it) refl

-- ---- beginning, going on and ending

pub none_walked : (nudges : Bool) (line before : ℕ) (old : Running) (Kept : Events → Type 0) → old.core.ended ≡ None → Kept [] → HasWalked nudges line before before old old first_place Kept
none_walked nudges line before old Kept ended kept = record {
  events = [];
  walked = refl;
  rises = omega arith;
  does = record {
    course = sym (append-nil old.course);
    journal = refl;
    refused = refl;
    core = λ h. refl;
    outcome = λ h. ap outcome_by (sym ended);
    going = λ h. absurd (both h);
    rooms = tt;
  };
  kept = kept;
}
  where
    both : false ≡ true → ⊥
    both e = grind arith

-- what is due is done
pub one_more : (nudges : Bool) (line before mid now : ℕ) (old here new : Running) (place : Place) (d : Due) (Kept Then All : Events → Type 0) → HasWalked nudges line before mid old here place Kept → due_with nudges place here.core ≡ Some d
    → DoesDue line d mid now here new (Ok tt) Then → ((es fs : Events) → Does es old here (Ok tt) → MomentsRise before es mid → MomentsRise mid fs now → Kept es → Then fs → All (es ++ fs))
    → HasWalked nudges line before now old new (place_after d (raises_known here.core new.core) place) All
one_more nudges line before mid now old here new place d Kept Then All so_far due does all =
    let e : Event × ℕ = does.event in
    let core : new.core ≡ step e.0 e.1 here.core = does.does.core refl in
    record {
      events = so_far.events ++ e ∷ [];
      walked = then_walk (due_with nudges) line (record { place = first_place; core = old.core }) (record { place = place; core = here.core }) so_far.events (e ∷ []) so_far.walked
          ∙ move_one (due_with nudges) line place here.core d e due (does.due_is refl)
          ∙ ap (λ c. Some (record { place = place_after d (raises_known here.core c) place; core = c })) (sym core);
      rises = rise_then before mid now so_far.events (e ∷ []) so_far.rises (does.after, does.up_to);
      does = does_then so_far.events (e ∷ []) old here new (Ok tt) so_far.does does.does;
      kept = all so_far.events (e ∷ []) so_far.does so_far.rises (does.after, does.up_to) so_far.kept does.kept;
    }

-- what is due was the last, since the core ended by it, or memory ran out
pub one_last : (nudges : Bool) (line before mid now : ℕ) (old here new : Running) (place : Place) (d : Due) (fault : ClusterFault) (Kept Then All : Events → Type 0) → HasWalked nudges line before mid old here place Kept → due_with nudges place here.core ≡ Some d
    → DoesDue line d mid now here new (Err fault) Then → ((es fs : Events) → Does es old here (Ok tt) → MomentsRise before es mid → MomentsRise mid fs now → Kept es → Then fs → All (es ++ fs))
    → RunsWalk nudges line before now old new (Err fault) All
one_last nudges line before mid now old here new place d fault Kept Then All so_far due does all = record {
  events = so_far.events ++ done_of (Err fault) does.event;
  due = ap (λ w. option_map_or (λ at. true) w false) (then_walk (due_with nudges) line (record { place = first_place; core = old.core }) (record { place = place; core = here.core }) so_far.events (done_of (Err fault) does.event) so_far.walked)
      ∙ last (ran_out {T = ⊤} (Err fault)) does.due_is;
  rises = rise_then before mid now so_far.events (done_of (Err fault) does.event) so_far.rises (rise_one mid now (Err fault) does.event does.after does.up_to);
  does = does_then so_far.events (done_of (Err fault) does.event) old here new (Err fault) so_far.does does.does;
  kept = all so_far.events (done_of (Err fault) does.event) so_far.does so_far.rises (rise_one mid now (Err fault) does.event does.after does.up_to) so_far.kept does.kept;
}
  where
    e : Event × ℕ
    e = does.event

    last : (b : Bool) → (b ≡ false → is_it line here.core d e.0 ≡ true) → option_map_or (λ at. true) (walk (due_with nudges) line (record { place = place; core = here.core }) (if b then [] else e ∷ [])) false ≡ true
    last true h = refl
    last false h = ap (λ w. option_map_or (λ at. true) w false) (move_one (due_with nudges) line place here.core d e due (h refl))

-- nothing is due any more
pub walk_ends : (nudges : Bool) (line before now : ℕ) (old new : Running) (place : Place) (Kept : Events → Type 0) → HasWalked nudges line before now old new place Kept → due_with nudges place new.core ≡ None → RunsWalk nudges line before now old new (Ok tt) Kept
walk_ends nudges line before now old new place Kept so_far due = record {
  events = so_far.events;
  due = ap (λ w. option_map_or (λ at. is_none (due_with nudges at.place at.core)) w false) so_far.walked ∙ ap is_none due;
  rises = so_far.rises;
  does = so_far.does;
  kept = so_far.kept;
}

-- it is given up
pub walk_stops : (nudges : Bool) (line before now : ℕ) (old new : Running) (place : Place) (Kept All : Events → Type 0) → HasWalked nudges line before now old new place Kept → ((es : Events) → Kept es → All es) → RunsWalk nudges line before now old new (Err NoMemory) All
walk_stops nudges line before now old new place Kept All so_far all = record {
  events = so_far.events;
  due = ap (λ w. option_map_or (λ at. true) w false) so_far.walked;
  rises = so_far.rises;
  does = record {
    course = so_far.does.course;
    journal = so_far.does.journal;
    refused = so_far.does.refused;
    core = λ h. so_far.does.core refl;
    outcome = λ h. absurd (both h);
    going = λ h. ap (λ (c : Core). c.ended) (sym (so_far.does.core refl)) ∙ still_going so_far.events old new so_far.does;
    rooms = so_far.does.rooms;
  };
  kept = all so_far.events so_far.kept;
}
  where
    both : true ≡ false → ⊥
    both e = grind arith

-- ---- within the peers

pub place_within : (d : Due) (raised : Bool) (place : Place) (n : ℕ) → peer_due d < n → place.nudger ≤ n → ((place_after d raised place).peer ≤ n) × ((place_after d raised place).nudger ≤ n)
place_within (Reporting peer) raised place n low h = (omega (arith, low), h)
place_within (Handling peer message) raised place n low h = (omega (arith, low), h)
place_within (Nudging peer) raised place n low h = (omega arith, omega (arith, low))

-- whether known numbers rose, where these were known before
pub raised_is : (before after : Core) (knowns : List ℕ) → after.members.shape ≡ before.members.shape → knowns ≡ map (λ peer. known_of peer before) (range_with_len 0 (before.members.shape.shards * before.members.shape.copies))
    → list_any (λ peer. nat_lt (slice_index_or knowns peer 0) (known_of peer after)) (all_peers after.members.shape) ≡ raises_known before after
raised_is before after knowns shape is =
    ap (λ (s : Shape). list_any (λ peer. nat_lt (slice_index_or knowns peer 0) (known_of peer after)) (range_with_len 0 (s.shards * s.copies))) shape
    ∙ any_same (λ peer. nat_lt (slice_index_or knowns peer 0) (known_of peer after)) (λ peer. nat_lt (known_of peer before) (known_of peer after)) (before.members.shape.shards * before.members.shape.copies)
    (λ k low. ap (λ n. nat_lt n (known_of k after)) (at_from_zero (λ peer. known_of peer before) 0 knowns (before.members.shape.shards * before.members.shape.copies) k is low))

-- nothing was done, since memory ran out
pub nothing_due : (line : ℕ) (d : Due) (before now : ℕ) (old new : Running) (Kept : Events → Type 0) → old.core.ended ≡ None → before ≤ now → new.course ≡ old.course → new.core ≡ old.core → Kept [] → DoesDue line d before now old new (Err NoMemory) Kept
nothing_due line d before now old new Kept going ticks course core kept = record {
  event = (event.Turn 0 0, before);
  due_is = λ h. absurd (both h);
  after = omega arith;
  up_to = ticks;
  does = nothing_done old new course (ap (λ (c : Core). c.journal) core) (ap (λ (c : Core). c.refused) core) going;
  kept = kept;
}
  where
    both : true ≡ false → ⊥
    both e = grind arith

-- an event was done as what was due
pub event_due : (line : ℕ) (d : Due) (before now : ℕ) (old new : Running) (e : Event) (k : ℕ) (r : Result ⊤ ClusterFault) (Kept : Events → Type 0) → is_it line old.core d e ≡ true → before ≤ k → k ≤ now → Does (done_of r (e, k)) old new r
    → Kept (done_of r (e, k)) → DoesDue line d before now old new r Kept
event_due line d before now old new e k r Kept is low high does kept = record { event = (e, k); due_is = λ h. is; after = low; up_to = high; does = does; kept = kept }
