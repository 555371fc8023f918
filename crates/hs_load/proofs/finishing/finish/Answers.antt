use Rattle.std.proofs.Common.{◌+◌, inl, inr, List, [], ◌∷◌, map}
use Rattle.hs_model.specs.declared.command.Command.{Command}
use Rattle.hs_model.specs.declared.command.Command.TheVariants as command
use Rattle.hs_model.specs.declared.op.Op.TheVariants as op
use Rattle.hs_taking.specs.Disks.{DiskSeen, seen_as}
use Rattle.hs_load.specs.Loaded.{Stand}
use Rattle.hs_load.proofs.FinishLemmas.{more_lines, one_line}
use Rattle.hs_load.proofs.finishing.finish.Goals as goal

pub returns-in-Err-clause-runs : goal.returns-in-Err-clause-runs
returns-in-Err-clause-runs g c = (c.args.line + 1, inl c.in-Err.ensures.runs)

pub returns-in-Err-run_line-clause-runs : goal.returns-in-Err-run_line-clause-runs
returns-in-Err-run_line-clause-runs g c = (c.args.line + 1 + 1, inr (_, c.in-Ok.ensures.runs, inl c.in-Err-run_line.ensures.runs))

pub returns-in-Err-run_line-2-clause-runs : goal.returns-in-Err-run_line-2-clause-runs
returns-in-Err-run_line-2-clause-runs g c =
    (c.args.line + 1 + 1 + 1, inr (_, c.in-Ok.ensures.runs, inr (_, c.in-Ok-run_line.ensures.runs, inl c.in-Err-run_line-2.ensures.runs)))

pub returns-in-Err-run_line-3-clause-runs : goal.returns-in-Err-run_line-3-clause-runs
returns-in-Err-run_line-3-clause-runs g c =
    (c.args.line + 1 + 1 + 1 + 1, inr (_, c.in-Ok.ensures.runs, inr (_, c.in-Ok-run_line.ensures.runs, inr (_, c.in-Ok-run_line-2.ensures.runs, inl c.in-Err-run_line-3.ensures.runs))))

pub returns-clause-runs : goal.returns-clause-runs
returns-clause-runs g c =
    let seen : g.row.D.Denot → DiskSeen = λ disk. seen_as (g.D.Disk.size disk) (g.D.Disk.stands disk) (g.D.Disk.faults disk) in
    let new : Stand = record { now = c.run_line-5.new.watch; cluster = c.run_line-5.new.cluster; disks = map seen c.run_line-5.new.disks; line = c.args.line + 1 + 1 + 1 + 1 + 1 } in
    let fifth : List Command = command.Settle ∷ [] in
    let fourth : List Command = command.Client op.Delete ∷ fifth in
    let third : List Command = command.Settle ∷ fourth in
    let second : List Command = command.Client op.Delete ∷ third in
    let did = c.run_line-5.result in
    let tells = g.D.Disk.tells in
    let name = g.A.Addresser.name c.args.naming.now in (
      c.args.line + 1 + 1 + 1 + 1 + 1,
      more_lines tells name command.Settle second _ _ new did c.in-Ok.ensures.runs
          (more_lines tells name (command.Client op.Delete) third _ _ new did c.in-Ok-run_line.ensures.runs
          (more_lines tells name command.Settle fourth _ _ new did c.in-Ok-run_line-2.ensures.runs
          (more_lines tells name (command.Client op.Delete) fifth _ _ new did c.in-Ok-run_line-3.ensures.runs
          (one_line tells name command.Settle _ new did c.run_line-5.ensures.runs)))),
    )
