-- A new view of a shard.
use Rattle.std.specs.Prelude.{ℕ, false, map}
use Rattle.hs_awaiting.specs.Views.{restarted}
use Rattle.hs_awaiting.specs.Words.{change_if, ◌▸◌}
use Rattle.hs_core_words.specs.Changing.{change_group, post, set_viewed}
use Rattle.hs_core_words.specs.Looking.{group_of}
use Rattle.hs_core_words.specs.Operating.{propose_entry}
use Rattle.hs_core_words.specs.State.{Core}
use Rattle.hs_entry.specs.declared.entry.Entry.TheVariants as kind
use Rattle.hs_members.specs.Members.{has_good, view_of}
use Rattle.hs_replica.specs.Group.{last_number, renew, renewal}

-- where this is the last number of the lead's list
abbrev pub restart_at : ℕ → ℕ → Core → Core
restart_at shard last core = record core { operations = map (λ e. (e.0, restarted shard last e.1)) core.operations }

abbrev pub restart : ℕ → Core → Core
restart shard core = restart_at shard (last_number (group_of shard core)) core

-- the view has risen: all copies are told, operations start again, each good peer is sent what it lacks, and the View is proposed
abbrev pub begin_view : ℕ → Core → Core
begin_view shard core =
    core ▸ set_viewed shard false ▸ change_group shard (renew core.members) ▸ restart shard
    ▸ (λ core. post (renewal (group_of shard core)) core)
    ▸ (λ core. propose_entry shard (kind.View (view_of shard core.members)) core)

-- where a good peer is left
abbrev pub change_view : ℕ → Core → Core
change_view shard core = core ▸ change_if (has_good shard core.members) (begin_view shard)
