use Rattle.hs_quiet.proofs.StoryLemmas.{settle_of_run}
use Rattle.hs_quiet.proofs.story.a_settle_of_a_run_leaves_nothing.Goals as goal

pub returns : goal.returns
returns c = λ name shape limits taken moment events settle line valid logs may may_then rounds walked on. settle_of_run name shape limits taken moment events settle line valid logs may may_then rounds walked on
