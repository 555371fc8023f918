use Rattle.hs_book.proofs.NextLemmas.{idle_of}
use Rattle.hs_book.proofs.handing.BookDesk.next.Goals as goal

pub returns-clause-idle : goal.returns-clause-idle
returns-clause-idle g c = idle_of c.next_for-given.result c.args.seat.now.peer c.args.self.now.core (rw (← c.self.view_is, ← c.seat.view_is) c.next_for-given.ensures.given)

pub returns-clause-given : goal.returns-clause-given
returns-clause-given g c = rw (← c.self.view_is, ← c.seat.view_is) c.next_for-given.ensures.given
