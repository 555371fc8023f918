-- A front of a journal that is answered as the plain store does.
use Rattle.std.proofs.Common.{sym, subst, ℕ, ◌++◌, List, [], ◌∷◌, Option, Some, None, take, drop, take-append-drop}
use Rattle.hs_answered.specs.Telling.{Judging, events_in}
use Rattle.hs_journal.specs.declared.entry.JournalEntry.{JournalEntry}
use Rattle.hs_journal.specs.Events.{IsAnswered, event_at, store_by, with_event}
use Rattle.hs_model.specs.Run.{Event, IsLegal, step}
use Rattle.hs_model.specs.Store.{Store}

module _ (by : Judging) where
  pub legal_front : (s : Store) (front more : List JournalEntry) → IsLegal by.limits s (events_in by s (front ++ more)) → IsLegal by.limits s (events_in by s front)
  legal_front s [] more h = tt
  legal_front s (x ∷ front) more h = by_event (λ t g. legal_front t front more g) (event_at by.commands by.name s x) h
    where
      by_event : ((t : Store) → IsLegal by.limits t (events_in by t (front ++ more)) → IsLegal by.limits t (events_in by t front))
          → (o : Option Event) → IsLegal by.limits s (with_event o (events_in by (store_by by.limits s o) (front ++ more)))
          → IsLegal by.limits s (with_event o (events_in by (store_by by.limits s o) front))
      by_event again None k = again s k
      by_event again (Some event) k = (k.0, again (step by.limits s event).store k.1)

  pub answered_front : (s : Store) (front more : List JournalEntry) → IsAnswered by.commands by.name by.limits s (front ++ more) → IsAnswered by.commands by.name by.limits s front
  answered_front s [] more h = tt
  answered_front s (x ∷ front) more h = (h.0, answered_front (store_by by.limits s (event_at by.commands by.name s x)) front more h.1)

  pub legal_take : (s : Store) (n : ℕ) (entries : List JournalEntry) → IsLegal by.limits s (events_in by s entries) → IsLegal by.limits s (events_in by s (take n entries))
  legal_take s n entries h =
      legal_front s (take n entries) (drop n entries) (subst (λ (es : List JournalEntry). IsLegal by.limits s (events_in by s es)) (sym (take-append-drop n entries)) h)
