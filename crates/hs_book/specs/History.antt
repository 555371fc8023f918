-- How a book came to be as it is.
use Rattle.std.specs.Prelude.{◌≡◌, ℕ, [], length, false, slice_index_or}
use Rattle.hs_core_words.specs.Looking.{status_of}
use Rattle.hs_core_words.specs.Opening.{empty_core}
use Rattle.hs_core_words.specs.State.{Core}
use Rattle.hs_events.specs.Course.{steps}
use Rattle.hs_events.specs.Due.{Events}
use Rattle.hs_limits.specs.Limits.{greatest_limits}
use Rattle.hs_members.specs.Members.{IsPeer, is_joining}
use Rattle.hs_book.specs.Book.{Book, count_of_peers}
use Rattle.hs_book.specs.Calls.{is_out_of_memory}
use Rattle.hs_book.specs.Events.{AreBookSteps}
use Rattle.hs_book.specs.Reports.{numbers_along}

-- no peer is joining
abbrev pub NobodyJoins : Core → Type 0
NobodyJoins core = (peer : ℕ) → is_joining (status_of peer core) ≡ false

-- events of a book have led from this core, of which nobody joins, to its core; the numbers by peer are those of their reports; it has ended as its core has
pub record History (start : Core) (book : Book) : Type 0 where
  pub calm : NobodyJoins start
  pub events : Events
  pub may : AreBookSteps start events
  pub led : book.core ≡ steps start events
  pub peers : length book.reported ≡ count_of_peers start
  pub reported : (peer : ℕ) → IsPeer start.members.shape peer → slice_index_or book.reported peer [] ≡ numbers_along peer start events
  pub ended : book.ended ≡ book.core.ended

-- so is it, until memory ran out
abbrev pub IsBook : Core → Book → Type 0
IsBook start book = is_out_of_memory book.ended ≡ false → History start book

-- a core with nothing in it: that of nobody's book
abbrev pub no_core : Core
no_core = empty_core greatest_limits (record { shape = record { shards = 1; copies = 1 }; views = []; statuses = [] }) 0
