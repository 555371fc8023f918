use Rattle.std.proofs.Common.{◌≡◌, Some, rules}
use Rattle.hs_book.proofs.PlaceLemmas.{indexed_within}
use Rattle.hs_book.specs.Answers.{answer_place}
use Rattle.hs_book.proofs.keeper.Keeper.answer_for.Goals as goal

pub tell-requires-clause-within : goal.tell-requires-clause-within
tell-requires-clause-within c =
    let found : answer_place c.args.line c.args.self.now.core.journal ≡ Some c.in-Some.place = search rules in
    indexed_within c.args.self.now.core.journal c.args.line c.in-Some.place found
