use Rattle.hs_wanted.proofs.task.task_of.Goals as goal

pub returns-in-Script-clause-task : goal.returns-in-Script-clause-task
returns-in-Script-clause-task c = c.script_task.ensures.task c.args.shape

pub returns-in-Load-clause-task : goal.returns-in-Load-clause-task
returns-in-Load-clause-task c = c.load_task.ensures.task c.args.shape

pub returns-in-Copy-clause-task : goal.returns-in-Copy-clause-task
returns-in-Copy-clause-task c = c.copy_task.ensures.task c.args.shape
