-- Each client's line up to the last one was begun, and where a shard has no good peer its store has ended.
use Rattle.std.proofs.Common.{◌≡◌, ◌⊎◌, ◌∙◌, ap, sym, subst, inl, inr, ℕ, zero, suc, ◌+◌, ◌<◌, ◌≤◌, ◌==◌, not, Bool, true, false, [], ◌∷◌, Option, Some, None, refl, arith}
use Rattle.std.proofs.lemmas.Bool.{cases_eq, cases_lt, ne_eqb}
use Rattle.std.proofs.lemmas.List.Elements.{Contains-append_left, Contains-append_right}
use Rattle.std.specs.List.{AllByRecursion, range_with_len}
use Rattle.std.specs.Option.{option_map}
use Rattle.std.specs.Prelude.{Contains, IsSome, find, if◌then◌else◌}
use Rattle.hs_core_words.specs.Calls.{begun_line}
use Rattle.hs_core_words.specs.declared.event.Event.{Event}
use Rattle.hs_core_words.specs.declared.event.Event.TheVariants as event
use Rattle.hs_core_words.specs.Looking.{lost_shard, status_of}
use Rattle.hs_core_words.specs.State.{Core}
use Rattle.hs_core_words.specs.Step.{do_event, end_event, line_of, step}
use Rattle.hs_desk.specs.declared.fault.CoreFault.{CoreFault}
use Rattle.hs_desk.specs.declared.fault.CoreFault.TheVariants as fault
use Rattle.hs_events.specs.Course.{event_items, is_refused, items_between, items_of, steps}
use Rattle.hs_events.specs.Due.{Events}
use Rattle.hs_events.specs.Sane.{IsSane}
use Rattle.hs_events.specs.Whole.{Whole, step_whole}
use Rattle.hs_fold.specs.Good.{IsBegun}
use Rattle.hs_fold.specs.Shards.Images.{Stop}
use Rattle.hs_journal.specs.Events.{client_op}
use Rattle.hs_limits.specs.declared.limits.PeerStatus.{PeerStatus}
use Rattle.hs_limits.specs.declared.limits.PeerStatus.TheVariants.{Good, Joining, Down}
use Rattle.hs_limits.specs.declared.shape.Shape.{Shape}
use Rattle.hs_standing.proofs.LinesStepLemmas.{step_ended, step_line, went}
use Rattle.hs_members.specs.Members.{Members, has_good, is_good_status, status}
use Rattle.hs_model.specs.declared.command.Command.{Command}
use Rattle.hs_model.specs.declared.course.CourseItem.{CourseItem}
use Rattle.hs_model.specs.declared.course.CourseItem.TheVariants as item
use Rattle.hs_model.specs.declared.op.Op.{Op}
use Rattle.hs_moments.proofs.AloneEventLemmas.{begun, ends, has_good_is, step_is}
use Rattle.hs_moments.proofs.CoreLemmas.{shape_at}
use Rattle.hs_moments.specs.Machine.{runs}
use Rattle.hs_moments.specs.WholeMachine.{whole_machine}
use Rattle.hs_standing.specs.Standing.{AreBegun}
use Rattle.hs_standing.specs.Start.{Start}
use Rattle.hs_told.specs.InTurn.{AllMayCome, ClientMay, MayBegin, NoneBetween, OtherMay}

-- ---- lines

-- no client's line lies above the last one, up to this one
abbrev pub NoneUpTo : (ℕ → Option Command) → Core → ℕ → Type 0
NoneUpTo commands core line = (k : ℕ) → core.progress.event_line < k → k ≤ line → client_op (commands k) ≡ None

none_up_to : (commands : ℕ → Option Command) (core : Core) (line : ℕ) → NoneBetween commands core line → client_op (commands line) ≡ None → NoneUpTo commands core line
none_up_to commands core line between nobody k above up = elim (cases_eq k line) [
  | inl same ↦ ap (λ n. client_op (commands n)) same ∙ nobody
  | inr differs ↦ between k above (omega (arith, up, differs))
]

other_line : (commands : ℕ → Option Command) (core : Core) (line : ℕ) (e : Event) → OtherMay commands core line e → NoneUpTo commands core line
other_line commands core line e may = none_up_to commands core line may.next may.nobody

-- an event of no client's line
begins_none : (commands : ℕ → Option Command) (core : Core) (e : Event) → MayBegin commands core e → begun_line e ≡ None → (line_of e ≡ 0) ⊎ NoneUpTo commands core (line_of e)
begins_none commands core (event.Line line o) may none = absurd (cc none)
begins_none commands core (event.Report p d) may none = inl refl
begins_none commands core (event.Turn line p) may none = inr (other_line commands core line (event.Turn line p) may)
begins_none commands core (event.Deliver line number) may none = inr (other_line commands core line (event.Deliver line number) may)
begins_none commands core (event.Lose line number) may none = inr (other_line commands core line (event.Lose line number) may)
begins_none commands core (event.Repeat line number) may none = inr (other_line commands core line (event.Repeat line number) may)
begins_none commands core (event.Nudge line p) may none = inr (other_line commands core line (event.Nudge line p) may)
begins_none commands core (event.Fail line p) may none = inr (other_line commands core line (event.Fail line p) may)
begins_none commands core (event.Start line p) may none = inr (other_line commands core line (event.Start line p) may)

some_is_none : {X : Type 0} (o : Option X) → IsSome o → o ≡ None → ⊥
some_is_none None some e = absurd (cc some)
some_is_none (Some x) some e = absurd (cc e)

-- the item of a client's line is among those of its event, which happened
item_there : (core : Core) (line at : ℕ) (o : Op) → is_refused (step (event.Line line o) at core).ended ≡ false → Contains (event_items core (event.Line line o, at)) (item.Begun line at)
item_there core line at o happened =
    subst (λ items. Contains items (item.Begun line at)) (sym (ap (λ (b : Bool). if b then [] else items_between (Some line) core (step (event.Line line o) at core) at) happened)) (0, omega arith, refl)

module _ (start : Start) (stop : Stop) (core : Core) (e : Event) (at : ℕ) (going : core.ended ≡ None) (may : MayBegin start.commands core e) (happened : is_refused (step e at core).ended ≡ false) (below : at < stop.moment)
    (inside : (i : CourseItem) → Contains (event_items core (e, at)) i → Contains stop.course i) where
  -- the last line then
  line_now : (step e at core).progress.event_line ≡ (if line_of e == 0 then core.progress.event_line else line_of e)
  line_now = step_line e at core going

  last_line : (line_of e ≡ 0 → ⊥) → (step e at core).progress.event_line ≡ line_of e
  last_line some = line_now ∙ ap (λ b. if b then core.progress.event_line else line_of e) (ne_eqb (line_of e) 0 some)

  up_to : (line_of e ≡ 0 → (step e at core).progress.event_line ≡ core.progress.event_line) × ((line_of e ≡ 0 → ⊥) → (step e at core).progress.event_line ≡ line_of e)
  up_to = (λ none. line_now ∙ ap (λ n. if n == 0 then core.progress.event_line else n) none, last_line)

  -- no client's line is above the last one before, where the event is of none
  quiet_begun : (line_of e ≡ 0) ⊎ NoneUpTo start.commands core (line_of e) → AreBegun start stop core → AreBegun start stop (step e at core)
  quiet_begun (inl none) before = λ k some low client. before k some (let same = up_to.0 none in omega (arith, low, same)) client
  quiet_begun (inr clear) before = λ k some low client. elim (cases_lt core.progress.event_line k) [
    | inl above ↦ elim (cases_eq (line_of e) 0) [
      | inl none ↦ absurd (let same = up_to.0 none in omega (arith, low, same, above))
      | inr line ↦ absurd (some_is_none (client_op (start.commands k)) client (clear k above (let same = up_to.1 line in omega (arith, low, same))))
    ]
    | inr early ↦ before k some early client
  ]

-- a client's line
line_begun : (start : Start) (stop : Stop) (core : Core) (line : ℕ) (o : Op) (at : ℕ) → core.ended ≡ None → ClientMay start.commands core line o → is_refused (step (event.Line line o) at core).ended ≡ false → at < stop.moment
    → ((i : CourseItem) → Contains (event_items core (event.Line line o, at)) i → Contains stop.course i) → AreBegun start stop core → AreBegun start stop (step (event.Line line o) at core)
line_begun start stop core line o at going may happened below inside before = λ k some low client. elim (cases_lt core.progress.event_line k) [
  | inl above ↦ elim (cases_eq k line) [
    | inl same ↦ subst (λ n. IsBegun stop.course n stop.moment) (sym same) (record { at = at; below = below; begun = inside (item.Begun line at) (item_there core line at o happened) })
    | inr differs ↦ absurd (some_is_none (client_op (start.commands k)) client (may.next k above (let last = last_is in omega (arith, low, last, differs))))
  ]
  | inr early ↦ before k some early client
]
  where
    some_line : line ≡ 0 → ⊥
    some_line none = let up = may.above in omega (arith, up, none)

    last_is : (step (event.Line line o) at core).progress.event_line ≡ line
    last_is = step_line (event.Line line o) at core going ∙ ap (λ b. if b then core.progress.event_line else line) (ne_eqb line 0 some_line)

pub event_begun : (start : Start) (stop : Stop) (core : Core) (e : Event) (at : ℕ) → core.ended ≡ None → MayBegin start.commands core e → is_refused (step e at core).ended ≡ false → at < stop.moment
    → ((i : CourseItem) → Contains (event_items core (e, at)) i → Contains stop.course i) → AreBegun start stop core → AreBegun start stop (step e at core)
event_begun start stop core (event.Line line o) at going may happened below inside before = line_begun start stop core line o at going may happened below inside before
event_begun start stop core (event.Report p d) at going may happened below inside before =
    quiet_begun start stop core (event.Report p d) at going may happened below inside (begins_none start.commands core (event.Report p d) may refl) before
event_begun start stop core (event.Turn line p) at going may happened below inside before =
    quiet_begun start stop core (event.Turn line p) at going may happened below inside (begins_none start.commands core (event.Turn line p) may refl) before
event_begun start stop core (event.Deliver line number) at going may happened below inside before =
    quiet_begun start stop core (event.Deliver line number) at going may happened below inside (begins_none start.commands core (event.Deliver line number) may refl) before
event_begun start stop core (event.Lose line number) at going may happened below inside before =
    quiet_begun start stop core (event.Lose line number) at going may happened below inside (begins_none start.commands core (event.Lose line number) may refl) before
event_begun start stop core (event.Repeat line number) at going may happened below inside before =
    quiet_begun start stop core (event.Repeat line number) at going may happened below inside (begins_none start.commands core (event.Repeat line number) may refl) before
event_begun start stop core (event.Nudge line p) at going may happened below inside before =
    quiet_begun start stop core (event.Nudge line p) at going may happened below inside (begins_none start.commands core (event.Nudge line p) may refl) before
event_begun start stop core (event.Fail line p) at going may happened below inside before =
    quiet_begun start stop core (event.Fail line p) at going may happened below inside (begins_none start.commands core (event.Fail line p) may refl) before
event_begun start stop core (event.Start line p) at going may happened below inside before =
    quiet_begun start stop core (event.Start line p) at going may happened below inside (begins_none start.commands core (event.Start line p) may refl) before

-- ---- events, one after another

-- a core that goes on behind some events went on before
pub went_on : (core : Core) (es : Events) → (steps core es).ended ≡ None → core.ended ≡ None
went_on core [] h = h
went_on core (e ∷ es) h = went e.0 e.1 core (went_on (step e.0 e.1 core) es h)

pub all_begun : (start : Start) (stop : Stop) (core : Core) (es : Events) → (steps core es).ended ≡ None → AllMayCome start.commands core es → AllByRecursion (λ (e : Event × ℕ). e.1 < stop.moment) es
    → ((i : CourseItem) → Contains (items_of core es) i → Contains stop.course i) → AreBegun start stop core → AreBegun start stop (steps core es)
all_begun start stop core [] going may below inside before = before
all_begun start stop core (e ∷ es) going may below inside before =
    let next : (step e.0 e.1 core).ended ≡ None = went_on (step e.0 e.1 core) es going in
    let now : core.ended ≡ None = went e.0 e.1 core next in
    all_begun start stop (step e.0 e.1 core) es going may.1 below.1 (λ i has. inside i (Contains-append_right (event_items core e) (items_of (step e.0 e.1 core) es) i has))
    (event_begun start stop core e.0 e.1 now (may.0 now).begins (ap (λ (o : Option CoreFault). is_refused o) next) below.0
    (λ i has. inside i (Contains-append_left (event_items core e) (items_of (step e.0 e.1 core) es) i has)) before)

-- ---- a store that has ended

find_none : (p : ℕ → Bool) (from n : ℕ) → ((k : ℕ) → k < from + n → p k ≡ false) → find p (range_with_len from n) ≡ None
find_none p from zero h = refl
find_none p from (suc n) h =
    let here : p from ≡ false = h from (omega arith) in
    rw here (find_none p (from + 1) n (λ k lt. h k (omega (arith, lt))))

status_good : (s : PeerStatus) → is_good_status s ≡ true → s ≡ Good
status_good Good h = refl
status_good Joining h = absurd (cc h)
status_good Down h = absurd (cc h)

-- where each shard has its good peer behind an event that happened, the core goes on
pub good_goes : (c : Whole) (e : Event) (at : ℕ) → IsSane c → is_refused (step e at c.core).ended ≡ false
    → ((g : ℕ) → g < c.core.members.shape.shards → is_good_status (status_of g (step e at c.core)) ≡ true) → (step e at c.core).ended ≡ None
good_goes c e at h happened good = by_end (ends (do_event e (begun e at c.core))).ended
  where
    after_is : step e at c.core ≡ end_event (do_event e (begun e at c.core))
    after_is = step_is e at c.core h.going

    members_is : (step e at c.core).members ≡ (do_event e (begun e at c.core)).members
    members_is = ap (λ (y : Core). y.members) after_is ∙ (ends (do_event e (begun e at c.core))).members

    shape_is : (do_event e (begun e at c.core)).members.shape ≡ c.core.members.shape
    shape_is = sym (ap (λ (m : Members). m.shape) members_is) ∙ shape_at c.core e at

    has : (g : ℕ) → g < 0 + (do_event e (begun e at c.core)).members.shape.shards → not (has_good g (do_event e (begun e at c.core)).members) ≡ false
    has g low =
        let count = ap (λ (x : Shape). x.shards) shape_is in
        let one : (do_event e (begun e at c.core)).members.shape.copies ≡ 1 = ap (λ (x : Shape). x.copies) shape_is ∙ h.alone.copies in
        let is : status g (do_event e (begun e at c.core)).members ≡ Good = ap (λ (m : Members). status g m) (sym members_is) ∙ status_good (status_of g (step e at c.core)) (good g (omega (arith, low, count))) in
        ap not (has_good_is (do_event e (begun e at c.core)).members g Good one is)

    none_lost : lost_shard (do_event e (begun e at c.core)) ≡ None
    none_lost = find_none (λ g. not (has_good g (do_event e (begun e at c.core)).members)) 0 (do_event e (begun e at c.core)).members.shape.shards has

    by_end : ((end_event (do_event e (begun e at c.core))).ended ≡ Some fault.OpsFull) ⊎ ((end_event (do_event e (begun e at c.core))).ended ≡ option_map fault.ShardLost (lost_shard (do_event e (begun e at c.core)))) → (step e at c.core).ended ≡ None
    by_end (inl full) = let bad : true ≡ false = sym (ap (λ (o : Option CoreFault). is_refused o) (ap (λ (y : Core). y.ended) after_is ∙ full)) ∙ happened in absurd (cc bad)
    by_end (inr told) = ap (λ (y : Core). y.ended) after_is ∙ told ∙ ap (λ (o : Option ℕ). option_map fault.ShardLost o) none_lost

-- and one that has ended stays as it is
pub ended_stays : (c : Whole) (es : Events) (f : CoreFault) → c.core.ended ≡ Some f → (runs whole_machine c es).core ≡ c.core
ended_stays c [] f h = refl
ended_stays c (e ∷ es) f h =
    let same : step e.0 e.1 c.core ≡ c.core = step_ended e.0 e.1 c.core f h in
    ended_stays (step_whole e.0 e.1 c) es f (ap (λ (y : Core). y.ended) same ∙ h) ∙ same
