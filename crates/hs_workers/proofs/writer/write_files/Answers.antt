use Rattle.std.proofs.Common.{rules}
use Rattle.hs_workers.specs.Stages.{stage_told}
use Rattle.hs_workers.proofs.AskLemmas.{stands_first, stands_left, stands_memory, stands_more, stands_stage}
use Rattle.hs_workers.proofs.writer.write_files.Goals as goal

pub loop-init : goal.loop-init
loop-init g c = stands_first _ _ c.requires.asked

pub returns-in_err-op : goal.returns-in_err-op
returns-in_err-op g c = record { ended = stands_memory _ _ _ _ _ c.loop.invariant (search rules) }

pub returns-in_err-reply : goal.returns-in_err-reply
returns-in_err-reply g c = record { ended = stands_left _ _ _ _ _ _ _ _ _ c.loop.invariant c.ask.ensures c.in_err-reply.was (search rules) }

pub returns-in_err-stage : goal.returns-in_err-stage
returns-in_err-stage g c = record { ended = stands_memory _ _ _ _ _ (stands_more _ _ _ _ (stage_told c.loop.stage) _ _ _ c.loop.invariant (search rules) c.ask.ensures c.in_ok-reply.was) (search rules) }

pub loop-preserved : goal.loop-preserved
loop-preserved g c = stands_stage _ _ _ _ _ (c.in_ok-stage.ensures c.args.files) (stands_more _ _ _ _ (stage_told c.loop.stage) _ _ _ c.loop.invariant (search rules) c.ask.ensures c.in_ok-reply.was)
