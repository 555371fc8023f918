-- All that is committed, one entry after another.
use Rattle.std.proofs.Common.{◌≡◌, ℕ, zero, suc, List, Option, Some, None, refl}
use Rattle.std.specs.Option.{option_map_or}
use Rattle.hs_awaiting.specs.Words.{change_with, times}
use Rattle.hs_core_words.specs.Effects.{commit, commit_next, take_effect}
use Rattle.hs_core_words.specs.Looking.{group_of}
use Rattle.hs_core_words.specs.State.{Core}
use Rattle.hs_effects.specs.Lawful.{IsLawful, MayComeAll, MayComeNext, committed_count, folds_after, folds_next}
use Rattle.hs_effects.specs.Logged.{IsOrderly}
use Rattle.hs_effects.specs.Taking.{folds_behind}
use Rattle.hs_effects.proofs.EffectLemmas.{committed_named}
use Rattle.hs_effects.proofs.EventLemmas.{next_orderly}
use Rattle.hs_effects.proofs.LawfulLemmas.{entry_lawful}
use Rattle.hs_entry.specs.declared.entry.Entry.{Entry}
use Rattle.hs_fold.specs.Runs.Facts.{Catalogue as Folded}
use Rattle.hs_limits.specs.declared.address.Address.{Address}
use Rattle.hs_replica.specs.Group.{committed}

module _ (name : List ℕ → Address) (shard : ℕ) where
  next_lawful : (cs : List Folded) (core : Core) → IsOrderly name core → IsLawful name core cs → MayComeNext name shard core cs → IsLawful name (commit_next shard core) (folds_next name shard core cs)
  next_lawful cs core order its may = go (committed (group_of shard core)) refl
    where
      go : (o : Option (ℕ × Entry)) → committed (group_of shard core) ≡ o
          → IsLawful name (change_with o (λ (e : ℕ × Entry). take_effect shard e.1) core) (option_map_or (λ (e : ℕ × Entry). folds_behind name cs shard e.1 core) o cs)
      go None e = its
      go (Some x) e = entry_lawful name cs core shard x.1 its (may x.0 x.1 e) (committed_named name core shard x.0 x.1 order e)

  times_lawful : (n : ℕ) (cs : List Folded) (core : Core) → IsOrderly name core → IsLawful name core cs → MayComeAll n name shard core cs → IsLawful name (times n (commit_next shard) core) (folds_after n name shard core cs)
  times_lawful zero cs core order its may = its
  times_lawful (suc n) cs core order its may =
      times_lawful n (folds_next name shard core cs) (commit_next shard core) (next_orderly name shard core order) (next_lawful cs core order its may.0) may.1

  pub commit_lawful : (cs : List Folded) (core : Core) → IsOrderly name core → IsLawful name core cs → MayComeAll (committed_count shard core) name shard core cs
      → IsLawful name (commit shard core) (folds_after (committed_count shard core) name shard core cs)
  commit_lawful cs core order its may = times_lawful (committed_count shard core) cs core order its may
