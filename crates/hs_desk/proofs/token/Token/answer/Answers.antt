use Rattle.std.proofs.Common.{rules}
use Rattle.hs_desk.proofs.token.Token.answer.Goals as goal

pub returns-in-Ok-clause-answer : goal.returns-in-Ok-clause-answer
returns-in-Ok-clause-answer c = λ asked is. (c.args.place, search rules)
