-- Entries of all kinds, and lists of them.
use Rattle.std.proofs.Common.{◌≡◌, ℕ, List, [], ◌∷◌, refl, ap, ◌∙◌}
use Rattle.hs_entry.specs.declared.entry.Entry.{Entry}
use Rattle.hs_entry.specs.declared.entry.Entry.TheVariants as kind
use Rattle.hs_fold.specs.Runs.Catalogue.{apply_all as fold_entries}
use Rattle.hs_fold.specs.Runs.Catalogue.{apply as fold_entry}
use Rattle.hs_fold.specs.Runs.Facts.{Catalogue as Folded, empty_catalogue as empty_fold}
use Rattle.hs_fold.specs.Runs.Own.{IsOwn}
use Rattle.hs_fold.specs.Shards.Setting.{Numbered}
use Rattle.hs_fold.proofs.Runs.OwnLemmas.{apply-own, empty-own}
use Rattle.hs_limits.specs.declared.address.Address.{Address}
use Rattle.hs_limits.specs.declared.shape.Shape.{Shape}
use Rattle.hs_limits.specs.Reading.{read_block}
use Rattle.hs_memory.specs.Forget.{apply_all, forget, named, reading}
use Rattle.hs_memory.proofs.ClientLemmas.{dropped_alike, marked_alike, rooted_alike, stored_alike}
use Rattle.hs_memory.proofs.RunLemmas.{entered_alike, got_alike}
use Rattle.hs_shard.specs.Apply.{apply}
use Rattle.hs_shard.specs.Facts.{empty_catalogue}

module _ (name : List ℕ → Address) (shape : Shape) (shard : ℕ) where
  pub entry_alike : (c : Folded) → IsOwn shape.shards shard c → (number : ℕ) (entry : Entry)
      → (apply number entry (named name entry) (forget shape shard c)).catalogue ≡ forget shape shard (fold_entry (reading name shape shard) c (number, entry))
  entry_alike c own number (kind.View view) = refl
  entry_alike c own number (kind.Block op least bytes) = stored_alike name shape shard c own number least (name bytes) (read_block bytes)
  entry_alike c own number (kind.Mark op least block address) = marked_alike name shape shard c own least block address
  entry_alike c own number (kind.Root op held address key) = rooted_alike name shape shard c own held address key
  entry_alike c own number (kind.Drop op key) = dropped_alike name shape shard c own key
  entry_alike c own number (kind.Enter op epoch) = entered_alike name shape shard c own epoch
  entry_alike c own number (kind.Got sender epoch round total deltas) =
      got_alike name shape shard c own (record { epoch = epoch; round = round; from = sender }) (record { total = total; deltas = deltas })
  entry_alike c own number (kind.Base view epoch swept round frames) = refl
  entry_alike c own number (kind.KeptBlock born mark flags count bytes) = refl
  entry_alike c own number (kind.KeptRoot created dropped counted address key) = refl
  entry_alike c own number (kind.KeptRound way other epoch round total deltas) = refl

  entries_alike : (c : Folded) → IsOwn shape.shards shard c → (es : Numbered) → apply_all name (forget shape shard c) es ≡ forget shape shard (fold_entries (reading name shape shard) c es)
  entries_alike c own [] = refl
  entries_alike c own (e ∷ es) =
      ap (λ k. apply_all name k es) (entry_alike c own e.0 e.1)
      ∙ entries_alike (fold_entry (reading name shape shard) c e) (apply-own (reading name shape shard) c own e.0 e.1) es

  pub list_alike : (es : Numbered) → apply_all name (empty_catalogue shape shard) es ≡ forget shape shard (fold_entries (reading name shape shard) empty_fold es)
  list_alike es = entries_alike empty_fold (empty-own shape.shards shard) es
