-- The core is such a machine.
use Rattle.std.proofs.Common.{◌≡◌, ◌∙◌, ap, sym, ℕ, zero, suc, ◌+◌, ◌*◌, ◌≤◌, Bool, true, false, List, [], ◌∷◌, ◌++◌, Option, Some, None, refl, arith, nat_lt, is_none}
use Rattle.std.proofs.lemmas.List.{append-nil, append_assoc}
use Rattle.std.proofs.lemmas.List.Elements.{filter-append}
use Rattle.std.specs.List.{range_with_len}
use Rattle.std.specs.Option.{option_map_or}
use Rattle.std.specs.Prelude.{flat_map, if◌then◌else◌}
use Rattle.hs_events.proofs.GoingLemmas.{step_goes}
use Rattle.hs_events.proofs.RangeLemmas.{flat_map_range_more}
use Rattle.hs_events.specs.Due.{MomentsRise}
use Rattle.hs_events.specs.Course.{change_item, event_items, happened, is_refused, items_between, items_of, steps, took_items}
use Rattle.hs_events.specs.Due.{Events}
use Rattle.hs_core_words.specs.Calls.{begun_line, last_line_after}
use Rattle.hs_core_words.specs.declared.event.Event.{Event}
use Rattle.hs_core_words.specs.Looking.{front_of, status_of}
use Rattle.hs_core_words.specs.State.{Core}
use Rattle.hs_core_words.specs.Step.{step}
use Rattle.hs_desk.specs.declared.fault.CoreFault.{CoreFault}
use Rattle.hs_fold.specs.Good.{good_from, taken_from}
use Rattle.hs_journal.specs.declared.entry.JournalEntry.{JournalEntry}
use Rattle.hs_limits.specs.declared.shape.Shape.{Shape}
use Rattle.hs_members.specs.Members.{IsPeer, IsShard, is_good_status}
use Rattle.hs_model.specs.declared.course.CourseItem.{CourseItem}
use Rattle.hs_model.specs.declared.course.CourseItem.TheVariants as item
use Rattle.hs_moments.proofs.AdvanceLemmas.{journal-tells}
use Rattle.hs_moments.proofs.CourseLemmas.{good-tells, taken-tells}
use Rattle.hs_moments.proofs.FrontLemmas.{fronts_rise}
use Rattle.hs_moments.proofs.HappenedLemmas.{happened_rise, items_happened, journal_happened}
use Rattle.hs_moments.proofs.JournalLemmas.{added_at, entries_after, journal_after}
use Rattle.hs_moments.specs.Answers.{added}
use Rattle.hs_moments.specs.CoreMachine.{core_at, core_machine}
use Rattle.hs_moments.specs.Course.{begun_items, course_of, front_items, good_items}
use Rattle.hs_moments.specs.Machine.{Rises, runs, state_at, until}
use Rattle.hs_journal.specs.Moments.{below}
use Rattle.hs_moments.specs.Obeys.{Obeys, entries_of}

-- ---- runs

runs_are : (core : Core) (es : Events) → runs core_machine core es ≡ steps core es
runs_are core [] = refl
runs_are core (e ∷ es) = runs_are (step e.0 e.1 core) es

pub state_is : (core : Core) (es : Events) (m : ℕ) → state_at core_machine core (happened core es) m ≡ core_at core es m
state_is core es m = runs_are core (until m (happened core es))

rises_are : (from to : ℕ) (es : Events) → MomentsRise from es to → Rises core_machine from es to
rises_are from to [] h = h
rises_are from to (e ∷ es) h = (h.0, rises_are e.1 to es h.1)

-- ---- the course

goods_are : (was is : ℕ → Bool) (k n : ℕ) → good_items was is k n ≡ flat_map (λ peer. change_item (was peer) (is peer) peer k) (range_with_len 0 n)
goods_are was is k zero = refl
goods_are was is k (suc n) =
    let e : n + 1 ≡ suc n = omega arith in
    ap (λ xs. xs ++ change_item (was n) (is n) n k) (goods_are was is k n)
    ∙ sym (flat_map_range_more (λ peer. change_item (was peer) (is peer) peer k) n)
    ∙ ap (λ i. flat_map (λ peer. change_item (was peer) (is peer) peer k) (range_with_len 0 i)) e

fronts_are : (was is : ℕ → ℕ) (k n : ℕ) → front_items was is k n ≡ flat_map (λ shard. took_items shard (was shard) (is shard) k) (range_with_len 0 n)
fronts_are was is k zero = refl
fronts_are was is k (suc n) =
    let e : n + 1 ≡ suc n = omega arith in
    ap (λ xs. xs ++ took_items n (was n) (is n) k) (fronts_are was is k n)
    ∙ sym (flat_map_range_more (λ shard. took_items shard (was shard) (is shard) k) n)
    ∙ ap (λ i. flat_map (λ shard. took_items shard (was shard) (is shard) k) (range_with_len 0 i)) e

begun_are : (line : Option ℕ) (k : ℕ) → begun_items line k ≡ option_map_or (λ n. item.Begun n k ∷ []) line []
begun_are None k = refl
begun_are (Some line) k = refl

ended_none : (o : Option CoreFault) → is_none o ≡ true → o ≡ None
ended_none None h = refl
ended_none (Some fault) h = grind arith

-- the shape stays
shape_stays : (e : Event) (at : ℕ) (core : Core) → (step e at core).members.shape ≡ core.members.shape
shape_stays e at core = go (is_none core.ended) refl
  where
    go : (b : Bool) → is_none core.ended ≡ b → (step e at core).members.shape ≡ core.members.shape
    go true h = (step_goes e at core (ended_none core.ended h)).shape
    go false h = rw h refl

-- those of one event that happened
course_item : (shape : Shape) (core : Core) (e : Event × ℕ) → core.members.shape ≡ shape → is_refused (step e.0 e.1 core).ended ≡ false
    → course_of core_machine shape core (e ∷ []) ≡ event_items core e ++ []
course_item shape core e same h =
    let after : Core = step e.0 e.1 core in
    let goods = goods_are (λ peer. is_good_status (status_of peer core)) (λ peer. is_good_status (status_of peer after)) e.1 (shape.shards * shape.copies)
    ∙ ap (λ (s : Shape). flat_map (λ peer. change_item (is_good_status (status_of peer core)) (is_good_status (status_of peer after)) peer e.1) (range_with_len 0 (s.shards * s.copies))) (sym same) in
    let fronts = fronts_are (λ shard. front_of shard core) (λ shard. front_of shard after) e.1 shape.shards
    ∙ ap (λ (s : Shape). flat_map (λ shard. took_items shard (front_of shard core) (front_of shard after) e.1) (range_with_len 0 s.shards)) (sym same) in
    let line = begun_are (core_machine.begins e.0) e.1 in
    let items : course_of core_machine shape core (e ∷ []) ≡ items_between (begun_line e.0) core after e.1 ++ [] = λ i. (line i ++ (goods i ++ fronts i)) ++ [] in
    items ∙ sym (ap (λ b. (if b then [] else items_between (begun_line e.0) core after e.1) ++ []) h)

joined : (xs ys more less : List CourseItem) → xs ++ [] ≡ ys ++ [] → more ≡ less → xs ++ more ≡ ys ++ less
joined xs ys more less h g = ap (λ zs. zs ++ more) (sym (append-nil xs) ∙ h ∙ append-nil ys) ∙ ap (λ zs. ys ++ zs) g

pub course_is : (shape : Shape) (core : Core) (es : Events) → core.members.shape ≡ shape → course_of core_machine shape core (happened core es) ≡ items_of core (happened core es)
course_is shape core [] same = refl
course_is shape core (e ∷ es) same = go (course_is shape (step e.0 e.1 core) es (shape_stays e.0 e.1 core ∙ same)) (is_refused (step e.0 e.1 core).ended) refl
  where
    go : course_of core_machine shape (step e.0 e.1 core) (happened (step e.0 e.1 core) es) ≡ items_of (step e.0 e.1 core) (happened (step e.0 e.1 core) es)
        → (b : Bool) → is_refused (step e.0 e.1 core).ended ≡ b
        → course_of core_machine shape core (if b then [] else e ∷ happened (step e.0 e.1 core) es) ≡ items_of core (if b then [] else e ∷ happened (step e.0 e.1 core) es)
    go ih true h = refl
    go ih false h = joined _ _ _ _ (course_item shape core e same h) ih

pub good_at : (core : Core) (es : Events) (from to m peer : ℕ) → MomentsRise from es to → IsPeer core.members.shape peer
    → good_from (is_good_status (status_of peer core)) (items_of core es) m peer ≡ is_good_status (status_of peer (core_at core es m))
good_at core es from to m peer rises low =
    ap (λ items. good_from (is_good_status (status_of peer core)) items m peer) (sym (course_is core.members.shape core es refl ∙ items_happened core es))
    ∙ good-tells core_machine core.members.shape core (happened core es) from to m peer low (rises_are from to (happened core es) (happened_rise core from to es rises))
    ∙ ap (λ c. is_good_status (status_of peer c)) (state_is core es m)

pub taken_at : (core : Core) (es : Events) (from to m shard : ℕ) → MomentsRise from es to → IsShard core.members.shape shard
    → taken_from (front_of shard core) (items_of core es) m shard ≡ front_of shard (core_at core es m)
taken_at core es from to m shard rises low =
    ap (λ items. taken_from (front_of shard core) items m shard) (sym (course_is core.members.shape core es refl ∙ items_happened core es))
    ∙ taken-tells core_machine core.members.shape (λ c e k g. (fronts_rise e k c).each g) core (happened core es) from to m shard low (rises_are from to (happened core es) (happened_rise core from to es rises))
    ∙ ap (λ c. front_of shard c) (state_is core es m)

-- ---- the journal

abbrev IsBetween : Core → Type 0
IsBetween core = core.entries ≡ []

obeys : Obeys core_machine IsBetween (λ core e at. added e at core)
obeys = record {
  rise = λ core e at shard. (fronts_rise e at core).each shard;
  journal = λ core e at between. journal_after e at core;
  moments = λ core e at between. added_at e at core between;
  sane = λ core e at between. entries_after e at core between;
}

abbrev entries_so_far : Core → Events → List JournalEntry
entries_so_far core es = entries_of core_machine IsBetween (λ c e at. added e at c) core es

-- behind all of them the journal is what it was, and then what they added
journal_all : (core : Core) (es : Events) → core.entries ≡ [] → (steps core es).journal ≡ core.journal ++ entries_so_far core es
journal_all core [] between = sym (append-nil core.journal)
journal_all core (e ∷ es) between =
    journal_all (step e.0 e.1 core) es (entries_after e.0 e.1 core between)
    ∙ ap (λ j. j ++ entries_so_far (step e.0 e.1 core) es) (journal_after e.0 e.1 core)
    ∙ append_assoc core.journal (added e.0 e.1 core) (entries_so_far (step e.0 e.1 core) es)

-- at a moment it is what was there at the beginning, and what was added below the moment
pub journal_at : (core : Core) (es : Events) (from to m : ℕ) → core.entries ≡ [] → MomentsRise from es to → below m core.journal ≡ core.journal
    → (core_at core es m).journal ≡ below m (steps core es).journal
journal_at core es from to m between rises old =
    ap (λ (c : Core). c.journal) (sym (state_is core es m))
    ∙ journal-tells core_machine IsBetween (λ c e at. added e at c) core.members.shape obeys core (happened core es) from to m between (rises_are from to (happened core es) (happened_rise core from to es rises))
    ∙ ap (λ j. j ++ below m (entries_so_far core (happened core es))) (sym old)
    ∙ sym (filter-append (λ (entry : JournalEntry). nat_lt entry.moment m) core.journal (entries_so_far core (happened core es)))
    ∙ ap (below m) (sym (journal_all core (happened core es) between) ∙ journal_happened core es)

pub entries_at : (core : Core) (es : Events) (m : ℕ) → core.entries ≡ [] → (core_at core es m).entries ≡ []
entries_at core es m between = go core (until m (happened core es)) between
  where
    go : (c : Core) (fs : Events) → c.entries ≡ [] → (steps c fs).entries ≡ []
    go c [] h = h
    go c (f ∷ fs) h = go (step f.0 f.1 c) fs (entries_after f.0 f.1 c h)

-- ---- of one event

pub rises_at : (core : Core) (event : Event) (moment shard : ℕ) → front_of shard core ≤ front_of shard (step event moment core)
rises_at core event moment shard = (fronts_rise event moment core).each shard

pub shape_at : (core : Core) (event : Event) (moment : ℕ) → (step event moment core).members.shape ≡ core.members.shape
shape_at core event moment = shape_stays event moment core

pub limits_at : (core : Core) (event : Event) (moment : ℕ) → (step event moment core).limits ≡ core.limits
limits_at core event moment = go (is_none core.ended) refl
  where
    go : (b : Bool) → is_none core.ended ≡ b → (step event moment core).limits ≡ core.limits
    go true h = (step_goes event moment core (ended_none core.ended h)).limits
    go false h = rw h refl

pub moment_at : (core : Core) (event : Event) (moment : ℕ) → core.ended ≡ None → (step event moment core).moment ≡ moment
moment_at core event moment h = (step_goes event moment core h).moment

pub line_at : (core : Core) (event : Event) (moment : ℕ) → core.ended ≡ None → (step event moment core).progress.last_line ≡ last_line_after event core
line_at core event moment h = (step_goes event moment core h).last_line
