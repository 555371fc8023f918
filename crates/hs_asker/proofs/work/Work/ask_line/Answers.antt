use Rattle.std.proofs.Common.{◌∙◌, ap, refl, arith, length}
use Rattle.hs_asker.proofs.BehindLemmas.{asks_broken, asks_heard, asks_none, asks_undriven, journal_asked}
use Rattle.hs_asker.proofs.HeardLemmas.{journal_on}
use Rattle.hs_asker.proofs.work.Work.ask_line.Goals as goal

pub returns-then-self-clause-asks : goal.returns-then-self-clause-asks
returns-then-self-clause-asks g c = asks_none g.D.Disk.tells (g.A.Addresser.name c.args.naming.now) c.args.op _ _ _ c.note_line.ensures

pub returns-in-Err-clause-asks : goal.returns-in-Err-clause-asks
returns-in-Err-clause-asks g c = asks_broken g.D.Disk.tells (g.A.Addresser.name c.args.naming.now) c.args.op _ _ _ _ c.in-Err.fault _ c.note_line.ensures c.in-Err.ensures.runs c.core_fault.ensures

pub returns-in-Err-drive-clause-asks : goal.returns-in-Err-drive-clause-asks
returns-in-Err-drive-clause-asks g c =
    asks_undriven g.D.Disk.tells (g.A.Addresser.name c.args.naming.now) c.args.op _ _ _ _ _ _ c.note_line.ensures c.in-Ok.ensures.runs c.in-Err-drive.fault _ c.in-Err-drive.ensures.drives c.core_fault-in-Err-drive.ensures

pub drive-requires-clause-some : goal.drive-requires-clause-some
drive-requires-clause-some g c =
    let grows = journal_on g.D.Disk.tells (g.A.Addresser.name c.args.naming.now) _ _ _ _ c.in-Ok.ensures.runs in
    let was = ap length (c.entries-answered.ensures ∙ c.journal.ensures) in
    omega (arith, grows, was)

pub answer_behind-requires : goal.answer_behind-requires
answer_behind-requires g c =
    let one = journal_asked g.D.Disk.tells (g.A.Addresser.name c.args.naming.now) c.args.op _ _ _ _ _ _ c.note_line.ensures c.in-Ok.ensures.runs c.in-Ok-drive.ensures.drives in
    let was = ap length (c.entries-answered.ensures ∙ c.journal.ensures) in
    let is = ap length (c.entries-entries.ensures ∙ c.journal-2.ensures) in
    omega (arith, one, was, is)

pub returns-clause-asks : goal.returns-clause-asks
returns-clause-asks g c =
    let was = c.entries-answered.ensures ∙ c.journal.ensures in
    let is = c.entries-entries.ensures ∙ c.journal-2.ensures in
    asks_heard g.D.Disk.tells (g.A.Addresser.name c.args.naming.now) c.args.op _ _ _ _ _ _ c.note_line.ensures c.in-Ok.ensures.runs c.in-Ok-drive.ensures.drives
    _ _ _ c.kind_of-kind.result c.answer_behind.result was is refl c.kind_of-kind.ensures c.in-Ok-drive.ensures.answered c.answer_behind.ensures.answer c.answer_behind.ensures.may c.answer_behind.ensures.only
