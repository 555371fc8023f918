-- What a call makes of a book.
use Rattle.std.specs.Prelude.{◌≡◌, ◌&&◌, Bool, true, false, Option, Some, None, IfSome, is_none, if◌then◌else◌}
use Rattle.hs_core_words.specs.declared.event.Event.{Event}
use Rattle.hs_core_words.specs.Records.{HasRecordRoom}
use Rattle.hs_core_words.specs.State.{Core}
use Rattle.hs_core_words.specs.Step.{step}
use Rattle.hs_desk.specs.declared.fault.CoreFault.{CoreFault}
use Rattle.hs_desk.specs.declared.fault.CoreFault.TheVariants as fault
use Rattle.hs_book.specs.Book.{Book}
use Rattle.hs_book.specs.Events.{IsBookEvent}
use Rattle.hs_book.specs.Reports.{with_report}

-- whether a book has ended for want of memory
abbrev pub is_out_of_memory : Option CoreFault → Bool
is_out_of_memory None = false
is_out_of_memory (Some fault.OpsFull) = false
is_out_of_memory (Some (fault.ShardLost shard)) = false
is_out_of_memory (Some fault.NoMemory) = true

-- whether memory ran out on the way from one book to another
abbrev pub memory_ran_out : Book → Book → Bool
memory_ran_out old new = is_none old.ended && is_out_of_memory new.ended

-- with another core: it ends as the core does, and a report is kept where the core goes on
abbrev pub book_with : Event → Book → Core → Book
book_with e book core = record {
  core = core;
  reported = if is_none core.ended then with_report e book.reported else book.reported;
  ended = core.ended;
}

-- an event, at the moment of the core
abbrev pub book_after : Event → Book → Book
book_after e book = book_with e book (step e book.core.moment book.core)

-- an event or none; a book that has ended stays as it is
abbrev pub book_behind : Option Event → Book → Book
book_behind None book = book
book_behind (Some e) book = if is_none book.ended then book_after e book else book

-- one event or none was done, unless memory ran out; a book may make it, and where the book goes on no shard has more root records than it takes
pub record DoesEvent (e : Option Event) (old new : Book) : Type 0 where
  pub done : memory_ran_out old new ≡ false → new ≡ book_behind e old
  pub may : old.ended ≡ None → memory_ran_out old new ≡ false → IfSome e (λ e. IsBookEvent old.core e)
  pub room : new.ended ≡ None → IfSome e (λ e. HasRecordRoom new.core)

-- one event was done and no report is kept yet, unless memory ran out
pub record StepsOnce (e : Event) (old new : Book) : Type 0 where
  pub done : is_out_of_memory new.ended ≡ false
      → new ≡ record old { core = step e old.core.moment old.core; ended = (step e old.core.moment old.core).ended }
  pub room : new.ended ≡ None → HasRecordRoom new.core
