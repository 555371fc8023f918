-- The events of a book come as is asked of events.
use Rattle.std.proofs.Common.{◌≡◌, ◌+◌, [], ◌∷◌, None, arith}
use Rattle.hs_any_events.specs.Events.{BringsAddress, ComesNext}
use Rattle.hs_book.specs.Events.{AreBookSteps, HasWholeAddress, IsBookEvent}
use Rattle.hs_core_words.specs.declared.event.Event.{Event}
use Rattle.hs_core_words.specs.declared.event.Event.TheVariants as event
use Rattle.hs_core_words.specs.Records.{HasRecordRoom}
use Rattle.hs_core_words.specs.State.{Core}
use Rattle.hs_core_words.specs.Step.{step}
use Rattle.hs_events.specs.Due.{Events}
use Rattle.hs_known_copies.specs.Known.{AllComeWithRoom}
use Rattle.hs_model.specs.declared.op.Op.{Op}
use Rattle.hs_model.specs.declared.op.Op.TheVariants as op
use Rattle.hs_tokens.specs.Seats.{Seats}

brings : (seats : Seats) (o : Op) → HasWholeAddress o → BringsAddress seats o
brings seats (op.Write session payload handles address) its = λ has. its
brings seats (op.Open name) its = tt
brings seats (op.Close name) its = tt
brings seats (op.Read name handle) its = tt
brings seats (op.Look name key) its = tt
brings seats (op.Root name key handle) its = tt
brings seats (op.Drop key) its = tt
brings seats (op.Forget name handle) its = tt
brings seats (op.Name name handle) its = tt
brings seats op.Delete its = tt
brings seats op.Stat its = tt

-- an event of a book is the next one
comes_next : (e : Event) (c : Core) → IsBookEvent c e → ComesNext e c
comes_next (event.Line line o) c may = record { next = let is : line ≡ c.progress.last_line + 1 = may.next in omega (arith, is); given = brings c.sessions o may.address }
comes_next (event.Report peer d) c may = record { next = tt; given = tt }
comes_next (event.Deliver line number) c may = record { next = tt; given = tt }
comes_next (event.Turn line peer) c may = absurd may
comes_next (event.Lose line number) c may = absurd may
comes_next (event.Repeat line number) c may = absurd may
comes_next (event.Nudge line peer) c may = absurd may
comes_next (event.Fail line peer) c may = absurd may
comes_next (event.Start line peer) c may = absurd may

-- so its events come, where it opens with room for root records
pub book_comes : (es : Events) (c : Core) → (c.ended ≡ None → HasRecordRoom c) → AreBookSteps c es → AllComeWithRoom ComesNext c es
book_comes [] c few may = tt
book_comes (e ∷ es) c few may = (λ going. (few going, comes_next e.0 c may.0.may), book_comes es (step e.0 e.1 c) may.0.room may.1)
