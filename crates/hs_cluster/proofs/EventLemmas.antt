-- What events leave of a cluster.
use Rattle.std.proofs.Common.{◌≡◌, ◌∙◌, ap, sym, ℕ, true, false, [], ◌∷◌, ◌++◌, Option, Some, None, refl, subst, arith}
use Rattle.std.proofs.lemmas.List.{append-nil, append_assoc}
use Rattle.std.specs.Prelude.{Result, Ok, Err, if◌then◌else◌, ⊤}
use Rattle.hs_cluster.proofs.RoomLemmas.{room_ended, room_one, rooms_then}
use Rattle.hs_cluster.specs.Calls.{Does, outcome_by, ran_out}
use Rattle.hs_events.specs.Course.{event_items, is_refused, items_between, items_of, steps}
use Rattle.hs_cluster.specs.declared.fault.ClusterFault.{ClusterFault}
use Rattle.hs_cluster.specs.declared.fault.ClusterFault.TheVariants as cluster
use Rattle.hs_cluster.specs.declared.fault.ClusterFault.TheVariants.{NoMemory}
use Rattle.hs_events.specs.Due.{Events}
use Rattle.hs_cluster.specs.Rooms.{HaveRecordRoom}
use Rattle.hs_cluster.specs.Running.{Running}
use Rattle.hs_core_words.specs.Calls.{begun_line, outcome_of}
use Rattle.hs_core_words.specs.declared.event.Event.{Event}
use Rattle.hs_core_words.specs.Records.{HasRecordRoom}
use Rattle.hs_core_words.specs.State.{Core}
use Rattle.hs_core_words.specs.Step.{step}
use Rattle.hs_desk.specs.declared.fault.CoreFault.{CoreFault}
use Rattle.hs_desk.specs.declared.fault.CoreFault.TheVariants as fault
use Rattle.hs_events.proofs.RunLemmas.{items_append, steps_append}

-- ---- what they leave

pub nothing_done : (old new : Running) → new.course ≡ old.course → new.core.journal ≡ old.core.journal → new.core.refused ≡ old.core.refused → old.core.ended ≡ None → Does [] old new (Err NoMemory)
nothing_done old new course journal refused ended = record {
  course = course ∙ sym (append-nil old.course);
  journal = journal;
  refused = refused;
  core = λ e. absurd (true_is_not_false e);
  outcome = λ e. absurd (true_is_not_false e);
  going = λ e. ended;
  rooms = tt;
}
  where
    true_is_not_false : true ≡ false → ⊥
    true_is_not_false e = grind arith

pub one_done : (e : Event × ℕ) (old new : Running) (result : Result ⊤ ClusterFault) → new.course ≡ old.course ++ event_items old.core e → new.core ≡ step e.0 e.1 old.core → result ≡ outcome_by new.core.ended → ran_out result ≡ false
    → (new.core.ended ≡ None → HasRecordRoom new.core) → Does (e ∷ []) old new result
one_done e old new result course core outcome there room = record {
  course = course ∙ ap (λ xs. old.course ++ xs) (sym (append-nil (event_items old.core e)));
  journal = ap (λ (c : Core). c.journal) core;
  refused = ap (λ (c : Core). c.refused) core;
  core = λ h. core;
  outcome = λ h. outcome;
  going = λ h. absurd (both (sym there ∙ h));
  rooms = room_one e old.core new.core core room;
}
  where
    both : false ≡ true → ⊥
    both e = grind arith

-- a core that goes on has not ended
goes_on : (ended : Option CoreFault) → Ok tt ≡ outcome_by ended → ended ≡ None
goes_on None h = refl
goes_on (Some fault) h = grind arith

pub still_going : (es : Events) (old mid : Running) → Does es old mid (Ok tt) → mid.core.ended ≡ None
still_going es old mid one = goes_on mid.core.ended (one.outcome refl)

pub does_then : (es fs : Events) (old mid new : Running) (result : Result ⊤ ClusterFault) → Does es old mid (Ok tt) → Does fs mid new result → Does (es ++ fs) old new result
does_then es fs old mid new result one two =
    let core : mid.core ≡ steps old.core es = one.core refl in
    let last : steps mid.core fs ≡ steps old.core (es ++ fs) = ap (λ c. steps c fs) core ∙ sym (steps_append old.core es fs) in
    record {
      course = two.course ∙ ap (λ xs. xs ++ items_of mid.core fs) one.course ∙ append_assoc old.course (items_of old.core es) (items_of mid.core fs)
          ∙ ap (λ xs. old.course ++ xs) (ap (λ c. items_of old.core es ++ items_of c fs) core ∙ sym (items_append old.core es fs));
      journal = two.journal ∙ ap (λ (c : Core). c.journal) last;
      refused = two.refused ∙ ap (λ (c : Core). c.refused) last;
      core = λ h. two.core h ∙ last;
      outcome = two.outcome;
      going = λ h. ap (λ (c : Core). c.ended) (sym last) ∙ two.going h;
      rooms = rooms_then old.core es fs one.rooms (subst (λ c. HaveRecordRoom c fs) core two.rooms);
    }

-- ---- one event of a cluster

-- a core that answers Ok goes on, and one that answers a fault has ended by it
pub ok_goes : (core : Core) (x : ⊤) → Ok x ≡ outcome_of core → core.ended ≡ None
ok_goes core x h = go core.ended refl
  where
    not_err : (fault : CoreFault) → Ok x ≡ Err fault → ⊥
    not_err fault e = grind arith

    go : (o : Option CoreFault) → core.ended ≡ o → core.ended ≡ None
    go None e = e
    go (Some fault) e =
        let is : outcome_of core ≡ Err fault = rw e refl in
        absurd (not_err fault (h ∙ is))

abbrev err : CoreFault → Result ⊤ CoreFault
err fault = Err fault

pub err_ends : (core : Core) (fault : CoreFault) → Err fault ≡ outcome_of core → core.ended ≡ Some fault
err_ends core fault h = go core.ended refl
  where
    not_ok : (x : ⊤) → Err fault ≡ Ok x → ⊥
    not_ok x e = grind arith

    same : (other : CoreFault) → err fault ≡ err other → other ≡ fault
    same other e = cc

    go : (o : Option CoreFault) → core.ended ≡ o → core.ended ≡ Some fault
    go None e =
        let is : outcome_of core ≡ Ok tt = rw e refl in
        absurd (not_ok tt (h ∙ is))
    go (Some other) e =
        let is : outcome_of core ≡ Err other = rw e refl in
        e ∙ ap (λ f. Some f) (same other (h ∙ is))

-- one that happened, with its items
pub event_done : (event : Event) (moment : ℕ) (old new : Running) (line : Option ℕ) (result : Result ⊤ ClusterFault) → new.core ≡ step event moment old.core → line ≡ begun_line event
    → new.course ≡ old.course ++ items_between line old.core new.core moment → is_refused new.core.ended ≡ false → result ≡ outcome_by new.core.ended → ran_out result ≡ false
    → (new.core.ended ≡ None → HasRecordRoom new.core) → Does ((event, moment) ∷ []) old new result
event_done event moment old new line result core begun course happened outcome there room =
    let h : is_refused (step event moment old.core).ended ≡ false = ap (λ (c : Core). is_refused c.ended) (sym core) ∙ happened in
    one_done (event, moment) old new result
    (course ∙ ap (λ l. old.course ++ items_between l old.core new.core moment) begun ∙ ap (λ c. old.course ++ items_between (begun_line event) old.core c moment) core
    ∙ ap (λ b. old.course ++ (if b then [] else items_between (begun_line event) old.core (step event moment old.core) moment)) (sym h)) core outcome there room

-- one that was refused, with none
pub event_refused : (event : Event) (moment : ℕ) (old new : Running) → new.core ≡ step event moment old.core → new.course ≡ old.course → new.core.ended ≡ Some fault.OpsFull → Does ((event, moment) ∷ []) old new (Err cluster.OpsFull)
event_refused event moment old new core course ended =
    let h : is_refused (step event moment old.core).ended ≡ true = ap (λ (c : Core). is_refused c.ended) (sym core) ∙ ap is_refused ended in
    one_done (event, moment) old new (Err cluster.OpsFull)
    (course ∙ sym (append-nil old.course) ∙ ap (λ b. old.course ++ (if b then [] else items_between (begun_line event) old.core (step event moment old.core) moment)) (sym h)) core (ap outcome_by (sym ended)) refl (room_ended new.core fault.OpsFull ended)
