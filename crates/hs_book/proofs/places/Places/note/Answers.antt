use Rattle.std.proofs.Common.{arith}
use Rattle.hs_book.proofs.PlaceLemmas.{indexes_more}
use Rattle.hs_book.proofs.places.Places.note.Goals as goal

pub loop-place-preserved : goal.loop-place-preserved
loop-place-preserved c =
    indexes_more c.args.journal.now c.loop-place.place c.index-journal-place.result c.loop-place.self c.note_one.new.self (omega arith) c.index-journal-place.is c.loop-place.invariant c.in_ok-note_one.ensures
