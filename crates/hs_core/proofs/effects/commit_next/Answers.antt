use Rattle.std.proofs.Common.{◌≡◌, ◌∙◌, sym, None}
use Rattle.hs_core_words.specs.Looking.{group_of}
use Rattle.hs_core.proofs.CommitLemmas.{commit_none}
use Rattle.hs_replica.specs.Group.{committed}
use Rattle.hs_core.proofs.effects.commit_next.Goals as goal

pub returns-in_default-clause-ok : goal.returns-in_default-clause-ok
returns-in_default-clause-ok c =
    let shard = c.args.shard in
    let core = c.args.core.now in
    let none : committed (group_of shard core) ≡ None = sym c.take_committed.ensures.entry ∙ c.in_default.is in
    c.take_committed.ensures.rest ∙ commit_none shard core none
