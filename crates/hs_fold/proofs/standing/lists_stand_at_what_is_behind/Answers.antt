use Rattle.std.proofs.Common.{◌≡◌, ℕ, ◌+◌, ◌<◌, ap, ◌∙◌, arith}
use Rattle.std.proofs.lemmas.List.Elements.{recursion_from_All}
use Rattle.hs_fold.proofs.Shards.DeedLemmas.{whole-stands}
use Rattle.hs_fold.proofs.Shards.LeftLemmas.{behind-left}
use Rattle.hs_fold.proofs.Shards.LegalLemmas.{behind-legal}
use Rattle.hs_fold.proofs.Shards.ListLemmas.{behind-all}
use Rattle.hs_fold.proofs.Shards.PendingLemmas.{all-pending}
use Rattle.hs_fold.proofs.standing.lists_stand_at_what_is_behind.Goals as goal

pub returns-clause-by_shard : goal.returns-clause-by_shard
returns-clause-by_shard c = λ set lists count. behind-all set lists count

pub returns-clause-any_order : goal.returns-clause-any_order
returns-clause-any_order c = λ set lists deeds count of behind. whole-stands set lists deeds count (recursion_from_All (λ deed. deed.shard < set.shape.shards) deeds of) behind

pub returns-clause-pending : goal.returns-clause-pending
returns-clause-pending c = λ set lists front f. all-pending set front 0 lists (λ k low. let h = f k low in (h.0, ap front (zero-left k) ∙ h.1))
  where
    zero-left : (m : ℕ) → 0 + m ≡ m
    zero-left m = omega arith

pub returns-clause-legal : goal.returns-clause-legal
returns-clause-legal c = λ set lists s. behind-legal s set lists

pub returns-clause-left : goal.returns-clause-left
returns-clause-left c = λ set lists s. behind-left s set lists
