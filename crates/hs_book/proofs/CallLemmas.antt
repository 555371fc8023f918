-- What the calls make of a book, by cases.
use Rattle.std.proofs.Common.{◌≡◌, ◌∙◌, ap, sym, subst, ℕ, zero, suc, ◌<◌, ◌≤◌, Bool, true, false, List, [], ◌∷◌, Option, Some, None, length, refl, arith}
use Rattle.std.specs.Prelude.{IsOkUnless, OnOk, Result, Ok, Err, ⊤, is_none, slice_get, slice_index_or, if◌then◌else◌}
use Rattle.hs_book.specs.Answers.{Hears}
use Rattle.hs_book.proofs.NextLemmas.{job_is_next, message_is_next, no_peer_is_next, nothing_is_next}
use Rattle.hs_book.specs.Book.{Book, delivery_of, count_of_peers}
use Rattle.hs_book.specs.Calls.{DoesEvent, StepsOnce, book_after, book_behind, book_with, is_out_of_memory, memory_ran_out}
use Rattle.hs_book.specs.Events.{IsBookEvent, IsHandling}
use Rattle.hs_book.specs.Reports.{with_numbers, with_report}
use Rattle.hs_core_words.specs.declared.event.Event.{Event}
use Rattle.hs_core_words.specs.declared.event.Event.TheVariants as event
use Rattle.hs_core_words.specs.Looking.{first_job, oldest_message}
use Rattle.hs_core_words.specs.Records.{HasRecordRoom}
use Rattle.hs_core_words.specs.State.{Core}
use Rattle.hs_core_words.specs.Step.{step}
use Rattle.hs_desk.specs.declared.done.Done.{Done}
use Rattle.hs_desk.specs.declared.fault.CoreFault.{CoreFault}
use Rattle.hs_desk.specs.declared.fault.CoreFault.TheVariants as fault
use Rattle.hs_desk.specs.declared.job.Job.{Job}
use Rattle.hs_desk.specs.declared.token.Token.{Token}
use Rattle.hs_desk.specs.Faults.{EndsOnce}
use Rattle.hs_desk.specs.Slips.{stored_by}
use Rattle.hs_desk.specs.Tokens.{HasAnswered}
use Rattle.hs_events.specs.Asked.{report_in}
use Rattle.hs_journal.specs.declared.entry.JournalEntry.{JournalEntry}
use Rattle.hs_model.specs.declared.op.Asked.{Asked}
use Rattle.hs_model.specs.declared.reply.Reply.{Reply}

-- ---- no event

pub nothing_done : (b : Book) → DoesEvent None b b
nothing_done b = record { done = λ h. refl; may = λ none h. tt; room = λ none. tt }

-- a book that has ended stays as it is
pub stays_ended : (b : Book) (f : CoreFault) → b.ended ≡ Some f → (e : Option Event) → DoesEvent e b b
stays_ended b f is None = nothing_done b
stays_ended b f is (Some e) =
    let stays : book_behind (Some e) b ≡ b = rw is refl in
    record { done = λ h. sym stays; may = λ none h. absurd (not_both (sym is ∙ none)); room = λ none. absurd (not_both (sym is ∙ none)) }
  where
    not_both : Some f ≡ None → ⊥
    not_both h = cc

-- there is no memory: whatever event it was
pub runs_out : (b c : Book) → b.ended ≡ None → c.ended ≡ Some fault.NoMemory → (e : Option Event) → DoesEvent e b c
runs_out b c none short e = record {
  done = λ h. absurd (out h);
  may = λ going h. absurd (out h);
  room = λ going. absurd (not_both (sym short ∙ going));
}
  where
    not_both : Some fault.NoMemory ≡ None → ⊥
    not_both h = cc

    apart : true ≡ false → ⊥
    apart h = cc

    out : memory_ran_out b c ≡ false → ⊥
    out h = apart (rw (none, short) at h)

-- ---- what is next

pub no_peer_does : (peer : ℕ) (b : Book) → count_of_peers b.core ≤ peer → DoesEvent (delivery_of peer b.core) b b
no_peer_does peer b h = subst (λ e. DoesEvent e b b) (sym (no_peer_is_next peer b.core h).event) (nothing_done b)

pub job_does : (peer : ℕ) (b : Book) (job : Job) → peer < count_of_peers b.core → first_job peer b.core ≡ Some job → DoesEvent (delivery_of peer b.core) b b
job_does peer b job h is = subst (λ e. DoesEvent e b b) (sym (job_is_next peer b.core job h is).event) (nothing_done b)

pub nothing_does : (peer : ℕ) (b : Book) → peer < count_of_peers b.core → first_job peer b.core ≡ None → oldest_message peer b.core ≡ None → DoesEvent (delivery_of peer b.core) b b
nothing_does peer b h job message = subst (λ e. DoesEvent e b b) (sym (nothing_is_next peer b.core h job message).event) (nothing_done b)

-- ---- one event

-- memory did not run out from a book that goes on
not_out : (b c : Book) → b.ended ≡ None → memory_ran_out b c ≡ false → is_out_of_memory c.ended ≡ false
not_out b c none h = rw none at h

behind : (b : Book) (e : Event) → b.ended ≡ None → book_behind (Some e) b ≡ book_after e b
behind b e none = rw none refl

no_report : (e : Event) (b : Book) (core : Core) → report_in e ≡ None → record b { core = core; ended = core.ended } ≡ book_with e b core
no_report e b core none = ap (λ reported. record b { core = core; reported = reported; ended = core.ended }) (sym (go (is_none core.ended)))
  where
    go : (x : Bool) → (if x then with_report e b.reported else b.reported) ≡ b.reported
    go true = rw none refl
    go false = refl

-- one that is no report
pub event_does : (e : Event) (b c : Book) → b.ended ≡ None → IsBookEvent b.core e → report_in e ≡ None → StepsOnce e b c → DoesEvent (Some e) b c
event_does e b c none may other steps = record {
  done = λ h. steps.done (not_out b c none h) ∙ no_report e b (step e b.core.moment b.core) other ∙ sym (behind b e none);
  may = λ going h. may;
  room = steps.room;
}

pub message_does : (peer number : ℕ) (b c : Book) → b.ended ≡ None → peer < count_of_peers b.core → first_job peer b.core ≡ None → oldest_message peer b.core ≡ Some number
    → StepsOnce (event.Deliver 0 number) b c → DoesEvent (delivery_of peer b.core) b c
message_does peer number b c none there job message steps =
    let handling : IsHandling b.core 0 number = record { no_line = refl; peer = peer; there = there; no_job = job; oldest = message } in
    subst (λ e. DoesEvent e b c) (sym (message_is_next peer b.core number there job message).event) (event_does (event.Deliver 0 number) b c none handling refl steps)

-- a report with which the book ends
pub last_report_does : (peer : ℕ) (d : Done) (b c : Book) (f : CoreFault) → b.ended ≡ None → IsBookEvent b.core (event.Report peer d) → StepsOnce (event.Report peer d) b c → c.ended ≡ Some f
    → DoesEvent (Some (event.Report peer d)) b c
last_report_does peer d b c f none may steps ends = record {
  done = λ h. ended (not_out b c none h) ∙ sym (behind b e none);
  may = λ going h. may;
  room = steps.room;
}
  where
    e : Event
    e = event.Report peer d

    after : Core
    after = step e b.core.moment b.core

    kept : after.ended ≡ Some f → record b { core = after; ended = after.ended } ≡ book_with e b after
    kept is = rw is refl

    ended : is_out_of_memory c.ended ≡ false → c ≡ book_after e b
    ended h =
        let is : c ≡ record b { core = after; ended = after.ended } = steps.done h in
        is ∙ kept (sym (ap (λ (x : Book). x.ended) is) ∙ ends)

-- and one behind which it goes on
pub report_does : (peer : ℕ) (d : Done) (b m c : Book) → b.ended ≡ None → IsBookEvent b.core (event.Report peer d) → StepsOnce (event.Report peer d) b m → m.ended ≡ None
    → c ≡ record m { reported = with_numbers peer (stored_by d) m.reported } → DoesEvent (Some (event.Report peer d)) b c
report_does peer d b m c none may steps goes noted = record {
  done = λ h. noted ∙ went ∙ sym (behind b e none);
  may = λ going h. may;
  room = λ going. subst (λ (x : Book). HasRecordRoom x.core) (sym noted) (steps.room goes);
}
  where
    e : Event
    e = event.Report peer d

    after : Core
    after = step e b.core.moment b.core

    is : m ≡ record b { core = after; ended = after.ended }
    is = steps.done (ap is_out_of_memory goes)

    kept : after.ended ≡ None → record b { core = after; reported = with_numbers peer (stored_by d) b.reported; ended = after.ended } ≡ book_with e b after
    kept on = rw on refl

    went : record m { reported = with_numbers peer (stored_by d) m.reported } ≡ book_after e b
    went = ap (λ (x : Book). record x { reported = with_numbers peer (stored_by d) x.reported }) is ∙ kept (sym (ap (λ (x : Book). x.ended) is) ∙ goes)

-- a report that was taken, and is kept or not
pub kept_report_does : (peer : ℕ) (d : Done) (b m c : Book) (result : Result ⊤ CoreFault) → b.ended ≡ None → IsBookEvent b.core (event.Report peer d) → StepsOnce (event.Report peer d) b m → m.ended ≡ None
    → EndsOnce m.ended c.ended result → IsOkUnless result fault.NoMemory → OnOk result (c ≡ record m { reported = with_numbers peer (stored_by d) m.reported }) → DoesEvent (Some (event.Report peer d)) b c
kept_report_does peer d b m c (Ok u) none may steps goes ends only noted = report_does peer d b m c none may steps goes noted
kept_report_does peer d b m c (Err f) none may steps goes ends only noted = runs_out b c none (ends.0 ∙ ap (λ x. Some x) only) (Some (event.Report peer d))

-- ---- what a clerk is told

pub has_answered : (line : ℕ) (journal : List JournalEntry) (o : Asked) (old new : Token) (result : Result (Option Reply) CoreFault) → Hears line journal o old new result → HasAnswered o old new result
has_answered line journal o old new (Ok None) h = h.1
has_answered line journal o old new (Ok (Some told)) h = (h.place, h.noted)
has_answered line journal o old new (Err f) h = h

-- ---- what stands at a place

pub get_is : {A : Type 0} (xs : List A) (i : ℕ) (x : A) → i < length xs → x ≡ slice_index_or xs i x → slice_get xs i ≡ Some x
get_is [] i x h is = absurd (omega arith)
get_is (y ∷ ys) zero x h is = ap (λ z. Some z) (sym is)
get_is (y ∷ ys) (suc i) x h is = get_is ys i x (omega arith) is
