-- When a shard's lead proposes an Enter that nobody asked it for.
use Rattle.std.specs.List.{list_any}
use Rattle.std.specs.Prelude.{ℕ, ◌+◌, ◌==◌, ◌&&◌, Bool, not}
use Rattle.hs_awaiting.specs.Words.{change_if, ◌▸◌}
use Rattle.hs_core_words.specs.Looking.{catalogue_of, group_of}
use Rattle.hs_core_words.specs.Operating.{propose_entry}
use Rattle.hs_core_words.specs.State.{Core}
use Rattle.hs_entry.specs.declared.entry.Entry.TheVariants as kind
pub use Rattle.hs_replica.specs.Kinds.{enters}
use Rattle.hs_rounds.specs.Rounds.{Run}
use Rattle.hs_shard.specs.Facts.{Catalogue}

-- round 0 of an epoch has come from some shard
abbrev pub has_begun : ℕ → Run → Bool
has_begun epoch run = list_any (λ e. e.0.epoch == epoch && e.0.round == 0) run.gots

-- it is due in a shard other than 0 where round 0 of the next epoch has come, its own epoch is swept, and the lead's list has no such Enter
abbrev pub is_enter_due : ℕ → Core → Bool
is_enter_due shard core =
    let c : Catalogue = catalogue_of shard core in
    (not (shard == 0) && c.swept == c.epoch)
    && (has_begun (c.epoch + 1) c.run && not (list_any (enters (c.epoch + 1)) (group_of shard core).waiting))

abbrev pub propose_due : ℕ → Core → Core
propose_due shard core =
    core ▸ change_if (is_enter_due shard core) (propose_entry shard (kind.Enter 0 ((catalogue_of shard core).epoch + 1)))
