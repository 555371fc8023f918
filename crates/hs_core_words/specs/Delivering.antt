-- How a message is handled.
use Rattle.std.specs.List.{list_any}
use Rattle.std.specs.Prelude.{ℕ, ◌&&◌, Bool, not, is_none}
use Rattle.hs_awaiting.specs.Words.{change_if, ◌▸◌}
use Rattle.hs_core_words.specs.Changing.{add_entry_tasks, change_group}
use Rattle.hs_core_words.specs.Effects.{commit}
use Rattle.hs_core_words.specs.Joining.{follow_lead}
use Rattle.hs_core_words.specs.Looking.{catalogue_of, group_of, status_of}
use Rattle.hs_core_words.specs.Operating.{propose_entry}
use Rattle.hs_core_words.specs.State.{Core}
use Rattle.hs_entry.specs.declared.entry.Entry.{Entry}
use Rattle.hs_entry.specs.declared.entry.Entry.TheVariants as kind
use Rattle.hs_members.specs.Members.{is_good_status}
use Rattle.hs_post.specs.declared.message.Message.{Message}
use Rattle.hs_post.specs.declared.message.Message.TheVariants as message
use Rattle.hs_replica.specs.Group.{on_have, take_entry, takes}
pub use Rattle.hs_replica.specs.Kinds.{is_got}
use Rattle.hs_rounds.specs.Rounds.{body}
use Rattle.hs_shard.specs.Facts.{Catalogue}
use Rattle.hs_shard.specs.Rounds.{is_due}

-- a Copy is taken by a good peer, in its view, where it is the next of its list
abbrev pub take_copy : ℕ → ℕ → ℕ → Entry → Core → Core
take_copy shard peer number entry core =
    core ▸ change_group shard (take_entry peer entry) ▸ add_entry_tasks peer number entry ▸ follow_lead shard

abbrev pub on_copy : ℕ → ℕ → ℕ → ℕ → Entry → Core → Core
on_copy shard peer view number entry core =
    core ▸ change_if (takes peer view number (group_of shard core)) (take_copy shard peer number entry)

-- a Have for a good peer raises what the lead knows, and what is committed takes effect
abbrev pub take_have : ℕ → ℕ → ℕ → ℕ → ℕ → Core → Core
take_have shard from to view sealed core =
    core ▸ change_if (is_good_status (status_of to core)) (λ core. core ▸ change_group shard (on_have from view sealed) ▸ commit shard)

-- a Round is of the run or of the next one, was not logged, and its Got does not stand in the lead's list
abbrev pub is_new_round : ℕ → ℕ → ℕ → ℕ → Core → Bool
is_new_round shard from epoch round core =
    let c : Catalogue = catalogue_of shard core in
    is_due (record { epoch = epoch; round = round; from = from }) c && (is_none (body from epoch round c.run) && not (list_any (is_got from epoch round) (group_of shard core).waiting))

-- by the kind of the message; a new Round is proposed as a Got
abbrev pub handle : Message → Core → Core
handle (message.Copy shard to view number entry) core = on_copy shard to view number entry core
handle (message.Have shard from to view sealed) core = take_have shard from to view sealed core
handle (message.Round from to epoch round total deltas) core =
    core ▸ change_if (is_new_round to from epoch round core) (propose_entry to (kind.Got from epoch round total deltas))
