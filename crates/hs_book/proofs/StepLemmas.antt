-- What one event leaves of a core: its journal goes on, and it answers why it has ended.
use Rattle.std.proofs.Common.{◌≡◌, ◌∙◌, ap, subst, sym, ℕ, ◌+◌, ◌≤◌, Bool, true, false, List, [], ◌∷◌, ◌++◌, Option, Some, None, refl, length, nat_lt, take, arith, length-append}
use Rattle.std.proofs.lemmas.List.{append-nil}
use Rattle.std.specs.Prelude.{Result, Ok, Err, ⊤}
use Rattle.hs_core_words.specs.Calls.{outcome_of}
use Rattle.hs_core_words.specs.declared.event.Event.{Event}
use Rattle.hs_core_words.specs.State.{Core}
use Rattle.hs_core_words.specs.Step.{begin_event, do_event, end_event, line_of, step}
use Rattle.hs_desk.specs.declared.fault.CoreFault.{CoreFault}
use Rattle.hs_events.proofs.FrameLemmas.{Frame, frame_done, step_by}
use Rattle.hs_journal.specs.declared.entry.JournalEntry.{JournalEntry}

-- ---- the journal

-- some entries, and others behind them
pub record GoesOn (old new : List JournalEntry) : Type 0 where
  pub more : List JournalEntry
  pub is : new ≡ old ++ more

ended_journal : (c : Core) → GoesOn c.journal (end_event c).journal
ended_journal c = go (nat_lt c.limits.ops (length c.journal + length c.entries)) refl
  where
    go : (b : Bool) → nat_lt c.limits.ops (length c.journal + length c.entries) ≡ b → GoesOn c.journal (end_event c).journal
    go true e = record { more = []; is = rw e (sym (append-nil c.journal)) }
    go false e = record { more = c.entries; is = rw e refl }

pub journal_goes_on : (e : Event) (at : ℕ) (c : Core) → GoesOn c.journal (step e at c).journal
journal_goes_on e at c = step_by (λ (d : Core). GoesOn c.journal d.journal) e at c (record { more = []; is = sym (append-nil c.journal) })
    (subst (λ j. GoesOn j (end_event before).journal) (ap (λ (f : Frame). f.journal) (frame_done e at c)) (ended_journal before))
  where
    before : Core
    before = do_event e (begin_event (line_of e) at c)

-- so what it had is its front
front_of : (old new : List JournalEntry) → GoesOn old new → (length old ≤ length new) × (take (length old) new ≡ old)
front_of old new on = (rw on.is (omega (arith, length-append old on.more)), rw on.is (take_all old on.more))
  where
    take_all : (xs ys : List JournalEntry) → take (length xs) (xs ++ ys) ≡ xs
    take_all [] ys = refl
    take_all (x ∷ xs) ys = ap (λ zs. x ∷ zs) (take_all xs ys)

pub record HasFront (old new : List JournalEntry) : Type 0 where
  pub within : length old ≤ length new
  pub front : take (length old) new ≡ old

pub step_has_front : (e : Event) (at : ℕ) (c : Core) → HasFront c.journal (step e at c).journal
step_has_front e at c =
    let both = front_of c.journal (step e at c).journal (journal_goes_on e at c) in
    record { within = both.0; front = both.1 }

-- ---- results

-- a core that answers Ok goes on, and one that answers a fault has ended by it
pub ok_goes : (core : Core) (x : ⊤) → Ok x ≡ outcome_of core → core.ended ≡ None
ok_goes core x h = go core.ended refl
  where
    not_err : (fault : CoreFault) → Ok x ≡ Err fault → ⊥
    not_err fault e = grind arith

    go : (o : Option CoreFault) → core.ended ≡ o → core.ended ≡ None
    go None e = e
    go (Some fault) e =
        let is : outcome_of core ≡ Err fault = rw e refl in
        absurd (not_err fault (h ∙ is))

abbrev err : CoreFault → Result ⊤ CoreFault
err fault = Err fault

pub err_ends : (core : Core) (fault : CoreFault) → Err fault ≡ outcome_of core → core.ended ≡ Some fault
err_ends core fault h = go core.ended refl
  where
    not_ok : (x : ⊤) → Err fault ≡ Ok x → ⊥
    not_ok x e = grind arith

    alike : (other : CoreFault) → err fault ≡ err other → other ≡ fault
    alike other e = cc

    go : (o : Option CoreFault) → core.ended ≡ o → core.ended ≡ Some fault
    go None e =
        let is : outcome_of core ≡ Ok tt = rw e refl in
        absurd (not_ok tt (h ∙ is))
    go (Some other) e =
        let is : outcome_of core ≡ Err other = rw e refl in
        e ∙ ap (λ f. Some f) (alike other (h ∙ is))
