-- A book goes on from how it came to be by the events that its calls make.
use Rattle.std.proofs.Common.{◌≡◌, ◌∙◌, ap, sym, subst, ℕ, ◌<◌, Bool, true, false, List, [], ◌∷◌, ◌++◌, Option, Some, None, length, replicate, refl}
use Rattle.std.proofs.lemmas.List.{append-nil, length-replicate}
use Rattle.std.specs.Prelude.{◌&&◌, is_none, slice_index_or, if◌then◌else◌}
use Rattle.hs_book.proofs.ReportLemmas.{nothing_reported, report_adds, report_keeps_length, told_more}
use Rattle.hs_book.specs.Book.{Book, count_of_peers}
use Rattle.hs_book.specs.Calls.{DoesEvent, book_behind, is_out_of_memory, book_after}
use Rattle.hs_book.specs.Events.{AreBookSteps, IsBookEvent, IsBookStep}
use Rattle.hs_book.specs.History.{History, IsBook, NobodyJoins}
use Rattle.hs_book.specs.Reports.{numbers_along, numbers_of, with_report}
use Rattle.hs_core_words.specs.declared.event.Event.{Event}
use Rattle.hs_core_words.specs.Records.{HasRecordRoom}
use Rattle.hs_core_words.specs.State.{Core}
use Rattle.hs_core_words.specs.Step.{step}
use Rattle.hs_desk.specs.declared.fault.CoreFault.{CoreFault}
use Rattle.hs_events.proofs.RunLemmas.{steps_append}
use Rattle.hs_events.specs.Course.{steps}
use Rattle.hs_events.specs.Due.{Events}

-- ---- one event more

steps_more : (core : Core) (es : Events) (e : Event × ℕ) → AreBookSteps core es → IsBookStep (steps core es) e → AreBookSteps core (es ++ e ∷ [])
steps_more core [] e are one = (one, tt)
steps_more core (d ∷ es) e are one = (are.0, steps_more (step d.0 d.1 core) es e are.1 one)

kept_by : (b : Bool) (e : Event) (reported : List (List ℕ)) → length (if b then with_report e reported else reported) ≡ length reported
kept_by true e reported = report_keeps_length e reported
kept_by false e reported = refl

told_by : (b : Bool) (peer : ℕ) (e : Event) (reported : List (List ℕ)) → peer < length reported
    → slice_index_or (if b then with_report e reported else reported) peer [] ≡ slice_index_or reported peer [] ++ (if b then numbers_of peer e else [])
told_by true peer e reported h = report_adds peer e reported h
told_by false peer e reported h = sym (append-nil (slice_index_or reported peer []))

pub one_more : (start : Core) (book : Book) (e : Event) → book.ended ≡ None → History start book → IsBookEvent book.core e
    → ((book_after e book).ended ≡ None → HasRecordRoom (book_after e book).core) → History start (book_after e book)
one_more start book e none h may room =
    let at : ℕ = book.core.moment in
    let es : Events = h.events in
    let next : Event × ℕ = (e, at) in
    let after : Core = step e at book.core in
    let led : after ≡ step e at (steps start es) = ap (λ c. step e at c) h.led in
    let one : IsBookStep book.core next = record { going = sym h.ended ∙ none; may = may; moment = refl; room = room } in
    record {
      calm = h.calm;
      events = es ++ next ∷ [];
      may = steps_more start es next h.may (subst (λ c. IsBookStep c next) h.led one);
      led = led ∙ sym (steps_append start es (next ∷ []));
      peers = kept_by (is_none after.ended) e book.reported ∙ h.peers;
      reported = λ peer there.
          told_by (is_none after.ended) peer e book.reported (subst (λ n. peer < n) (sym h.peers) there)
          ∙ ap (λ xs. xs ++ (if is_none after.ended then numbers_of peer e else [])) (h.reported peer there)
          ∙ ap (λ (c : Core). numbers_along peer start es ++ (if is_none c.ended then numbers_of peer e else [])) led
          ∙ sym (told_more peer start es next);
      ended = refl;
    }

-- ---- a call

-- memory did not run out where the new book is not short of it
not_short : (before after : Option CoreFault) → is_out_of_memory after ≡ false → (is_none before && is_out_of_memory after) ≡ false
not_short None after h = h
not_short (Some fault) after h = refl

by_event : (start : Core) (e : Option Event) (old new : Book) (ended : Option CoreFault) → old.ended ≡ ended → IsBook start old → DoesEvent e old new → is_out_of_memory new.ended ≡ false → History start new
by_event start None old new ended is h does none =
    let same : new ≡ old = does.done (not_short old.ended new.ended none) in
    subst (λ b. History start b) (sym same) (h (ap (λ (b : Book). is_out_of_memory b.ended) (sym same) ∙ none))
by_event start (Some e) old new (Some fault) is h does none =
    let stays : book_behind (Some e) old ≡ old = rw is refl in
    let same : new ≡ old = does.done (not_short old.ended new.ended none) ∙ stays in
    subst (λ b. History start b) (sym same) (h (ap (λ (b : Book). is_out_of_memory b.ended) (sym same) ∙ none))
by_event start (Some e) old new None is h does none =
    let goes : book_behind (Some e) old ≡ book_after e old = rw is refl in
    let same : new ≡ book_after e old = does.done (not_short old.ended new.ended none) ∙ goes in
    let before : History start old = h (ap is_out_of_memory is) in
    subst (λ b. History start b) (sym same)
    (one_more start old e is before (does.may is (not_short old.ended new.ended none)) (λ on. subst (λ (b : Book). HasRecordRoom b.core) same (does.room (ap (λ (b : Book). b.ended) same ∙ on))))

-- the book of a start is one behind a call
pub still_a_book : (start : Core) (e : Option Event) (old new : Book) → IsBook start old → DoesEvent e old new → IsBook start new
still_a_book start e old new h does = λ none. by_event start e old new old.ended refl h does none

-- a book that was opened
pub opens : (start : Core) (book : Book) → book.core ≡ start → NobodyJoins start → book.core.ended ≡ None → book.reported ≡ replicate (count_of_peers start) [] → book.ended ≡ None → IsBook start book
opens start book is calm going reported ended = λ none. record {
  calm = calm;
  events = [];
  may = tt;
  led = is;
  peers = ap length reported ∙ length-replicate (count_of_peers start) [];
  reported = λ peer there. ap (λ rs. slice_index_or rs peer []) reported ∙ nothing_reported (count_of_peers start) peer;
  ended = ended ∙ sym going;
}
