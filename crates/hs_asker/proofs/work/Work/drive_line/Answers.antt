use Rattle.std.proofs.Common.{◌∙◌, ◌++◌, ◌∷◌, [], ap, map}
use Rattle.hs_asker.proofs.DrivenLemmas.{drives_one, drives_refused, drives_short}
use Rattle.hs_asker.proofs.LinesLemmas.{drives_served}
use Rattle.hs_asker.proofs.work.Work.drive_line.Goals as goal

pub run_line-requires-clause-served : goal.run_line-requires-clause-served
run_line-requires-clause-served g c = drives_served c.args.command c.requires.driving

pub returns-then-self-clause-drives : goal.returns-then-self-clause-drives
returns-then-self-clause-drives g c = drives_short g.D.Disk.tells (g.A.Addresser.name c.args.naming.now) _ _

pub returns-then-not-has_room-clause-drives : goal.returns-then-not-has_room-clause-drives
returns-then-not-has_room-clause-drives g c = drives_refused g.D.Disk.tells (g.A.Addresser.name c.args.naming.now) _ _ _ (ap (λ xs. map (λ said. said.value) xs) c.has_room.ensures.items)

pub returns-clause-drives : goal.returns-clause-drives
returns-clause-drives g c =
    drives_one g.D.Disk.tells (g.A.Addresser.name c.args.naming.now) _ _ _ _ c.args.command _ c.requires.driving
    (c.note_line.ensures ∙ ap (λ xs. map (λ said. said.value) xs ++ c.args.command ∷ []) c.has_room.ensures.items) c.run_line.ensures.runs
