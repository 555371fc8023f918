use Rattle.hs_quiet.proofs.KeptRoundsLemmas.{has_rounds, have_rounds}
use Rattle.hs_quiet.proofs.LeftLemmas.{level_left, no_operations}
use Rattle.hs_quiet.proofs.SettleLemmas.{settle_left}
use Rattle.hs_quiet.proofs.settled.a_settle_leaves_nothing.Goals as goal

pub returns : goal.returns
returns c = record {
  left = λ line core events all up fronts rounds walked on. settle_left line core events walked on rounds all up fronts;
  level = λ core all left peer good. level_left core all left peer good;
  operations = λ name core left shape orderly caused. no_operations name core shape orderly caused left.jobs left.lists;
  rounds = λ by start core cs stands room. has_rounds by start core cs stands room;
  along = λ by start core events stands. have_rounds by start events core stands;
}
