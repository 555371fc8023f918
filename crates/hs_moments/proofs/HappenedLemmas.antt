-- What came of the events that happened is all that came of a run.
use Rattle.std.proofs.Common.{◌≡◌, ◌∙◌, ap, sym, ℕ, ◌+◌, ◌≤◌, Bool, true, false, [], ◌∷◌, ◌++◌, Option, Some, None, refl, arith, is_none, length, nat_lt}
use Rattle.std.proofs.lemmas.List.{append-nil}
use Rattle.std.specs.Option.{option_map}
use Rattle.std.specs.Prelude.{if◌then◌else◌}
use Rattle.hs_core_words.specs.Calls.{begun_line}
use Rattle.hs_core_words.specs.declared.event.Event.{Event}
use Rattle.hs_core_words.specs.Looking.{lost_shard}
use Rattle.hs_core_words.specs.State.{Core}
use Rattle.hs_core_words.specs.Step.{end_event, step}
use Rattle.hs_desk.specs.declared.fault.CoreFault.{CoreFault}
use Rattle.hs_desk.specs.declared.fault.CoreFault.TheVariants as fault
use Rattle.hs_events.specs.Course.{event_items, happened, is_refused, items_between, items_of, steps}
use Rattle.hs_events.specs.Due.{Events, MomentsRise}
use Rattle.hs_moments.proofs.JournalLemmas.{journal_after}
use Rattle.hs_moments.specs.Answers.{added, before_end, kept_entries}

false_is_not_true : false ≡ true → ⊥
false_is_not_true e = grind arith

-- ---- behind a refused event nothing happens

has_ended : (o : Option CoreFault) → is_refused o ≡ true → is_none o ≡ false
has_ended None h = absurd (false_is_not_true h)
has_ended (Some fault) h = refl

stays_refused : (e : Event) (at : ℕ) (core : Core) → is_refused core.ended ≡ true → step e at core ≡ core
stays_refused e at core h =
    let ended : is_none core.ended ≡ false = has_ended core.ended h in
    rw ended refl

steps_refused : (core : Core) → is_refused core.ended ≡ true → (es : Events) → steps core es ≡ core
steps_refused core h [] = refl
steps_refused core h (e ∷ es) = ap (λ c. steps c es) (stays_refused e.0 e.1 core h) ∙ steps_refused core h es

-- ---- the course

no_item : (core : Core) (e : Event × ℕ) → is_refused (step e.0 e.1 core).ended ≡ true → event_items core e ≡ []
no_item core e h = ap (λ b. if b then [] else items_between (begun_line e.0) core (step e.0 e.1 core) e.1) h

no_items : (core : Core) → is_refused core.ended ≡ true → (es : Events) → items_of core es ≡ []
no_items core h [] = refl
no_items core h (e ∷ es) =
    let same : step e.0 e.1 core ≡ core = stays_refused e.0 e.1 core h in
    ap (λ xs. xs ++ items_of (step e.0 e.1 core) es) (no_item core e (ap (λ (c : Core). is_refused c.ended) same ∙ h))
    ∙ ap (λ c. items_of c es) same
    ∙ no_items core h es

pub items_happened : (core : Core) (es : Events) → items_of core (happened core es) ≡ items_of core es
items_happened core [] = refl
items_happened core (e ∷ es) = go (items_happened (step e.0 e.1 core) es) (is_refused (step e.0 e.1 core).ended) refl
  where
    go : items_of (step e.0 e.1 core) (happened (step e.0 e.1 core) es) ≡ items_of (step e.0 e.1 core) es → (b : Bool) → is_refused (step e.0 e.1 core).ended ≡ b
        → items_of core (if b then [] else e ∷ happened (step e.0 e.1 core) es) ≡ event_items core e ++ items_of (step e.0 e.1 core) es
    go ih true h = sym (ap (λ xs. xs ++ items_of (step e.0 e.1 core) es) (no_item core e h) ∙ no_items (step e.0 e.1 core) h es)
    go ih false h = ap (λ xs. event_items core e ++ xs) ih

-- ---- the journal

not_refused : (o : Option ℕ) → is_refused (option_map fault.ShardLost o) ≡ true → ⊥
not_refused None h = false_is_not_true h
not_refused (Some shard) h = false_is_not_true h

none_kept : (c : Core) → is_refused (end_event c).ended ≡ true → kept_entries c ≡ []
none_kept c h = go (nat_lt c.limits.ops (length c.journal + length c.entries)) refl
  where
    go : (b : Bool) → nat_lt c.limits.ops (length c.journal + length c.entries) ≡ b → kept_entries c ≡ []
    go true e = rw e refl
    go false e = absurd (not_refused (lost_shard c) (rw e at h))

none_added : (e : Event) (at : ℕ) (c : Core) → is_refused (step e at c).ended ≡ true → added e at c ≡ []
none_added e at c h = go (is_none c.ended) refl
  where
    go : (b : Bool) → is_none c.ended ≡ b → added e at c ≡ []
    go true g = rw g (none_kept (before_end e at c) (rw g at h))
    go false g = rw g refl

refused_journal : (e : Event) (at : ℕ) (c : Core) → is_refused (step e at c).ended ≡ true → (step e at c).journal ≡ c.journal
refused_journal e at c h = journal_after e at c ∙ ap (λ added. c.journal ++ added) (none_added e at c h) ∙ append-nil c.journal

pub journal_happened : (core : Core) (es : Events) → (steps core (happened core es)).journal ≡ (steps core es).journal
journal_happened core [] = refl
journal_happened core (e ∷ es) = go (journal_happened (step e.0 e.1 core) es) (is_refused (step e.0 e.1 core).ended) refl
  where
    go : (steps (step e.0 e.1 core) (happened (step e.0 e.1 core) es)).journal ≡ (steps (step e.0 e.1 core) es).journal → (b : Bool) → is_refused (step e.0 e.1 core).ended ≡ b
        → (steps core (if b then [] else e ∷ happened (step e.0 e.1 core) es)).journal ≡ (steps (step e.0 e.1 core) es).journal
    go ih true h = sym (ap (λ (c : Core). c.journal) (steps_refused (step e.0 e.1 core) h es) ∙ refused_journal e.0 e.1 core h)
    go ih false h = ih

-- ---- moments

rises_to : (from to : ℕ) (es : Events) → MomentsRise from es to → from ≤ to
rises_to from to [] h = h
rises_to from to (e ∷ es) h =
    let low = h.0 in
    let rest = rises_to e.1 to es h.1 in
    omega (arith, low, rest)

pub happened_rise : (core : Core) (from to : ℕ) (es : Events) → MomentsRise from es to → MomentsRise from (happened core es) to
happened_rise core from to [] h = h
happened_rise core from to (e ∷ es) h = go (happened_rise (step e.0 e.1 core) e.1 to es h.1) (is_refused (step e.0 e.1 core).ended)
  where
    go : MomentsRise e.1 (happened (step e.0 e.1 core) es) to → (b : Bool) → MomentsRise from (if b then [] else e ∷ happened (step e.0 e.1 core) es) to
    go ih true = rises_to from to (e ∷ es) h
    go ih false = (h.0, ih)
