-- A shard as the core opens it, with the log that was taken.
use Rattle.std.specs.Prelude.{◌≡◌, ◌*◌, ℕ, true, List, length, slice_index}
use Rattle.hs_copies.specs.CoreCopies.{opens_good}
use Rattle.hs_copies.specs.CoreRuns.{opened_machine}
use Rattle.hs_copies.specs.Lists.{Item}
use Rattle.hs_copies.specs.Machine.{Copies}
use Rattle.hs_copies.specs.Stamps.{ToldRises, view_told}
use Rattle.hs_core_words.specs.Opening.{Taken, first_members, good_copies}
use Rattle.hs_core_words.specs.State.{Core}
use Rattle.hs_entry.specs.declared.entry.Entry.{Entry}
use Rattle.hs_limits.specs.declared.shape.Shape.{Shape}
use Rattle.hs_limits.specs.Shape.{IsShape}
use Rattle.hs_members.specs.Members.{IsShard}
use Rattle.hs_replica.specs.Group.{view_after}
use Rattle.hs_core_copies.specs.InStep.{GoesOn}

-- this is the log of a shard, as what opening found tells of it; the views that its entries tell never fall
pub record IsTakenLog (taken : Taken) (shard : ℕ) (log : List (Item Entry)) : Type 0 where
  pub ascends : ToldRises view_after 0 log
  pub view : view_told view_after 0 log ≡ slice_index taken.views shard
  pub long : length log ≡ slice_index taken.lengths shard

-- the machine of the shard's copies opens with it, and this peer leads
abbrev pub opened_with : Shape → Taken → ℕ → List (Item Entry) → ℕ → Copies Entry
opened_with shape taken shard log leads = opened_machine shape shard log (good_copies shape taken.good shard) (first_members shape taken) leads

-- what is known of a shard's log as the core opens: of a peer it is known whether it has the log
pub record MayOpen (shape : Shape) (taken : Taken) (shard : ℕ) (log : List (Item Entry)) : Type 0 where
  pub fits : IsShape shape
  pub count : length taken.good ≡ shape.shards * shape.copies
  pub here : IsShard shape shard
  pub log_is : IsTakenLog taken shard log

-- some good peer leads, and the shard goes on from there as its machine
abbrev pub OpensAs : Shape → Taken → ℕ → List (Item Entry) → Core → Type 0
OpensAs shape taken shard log core =
    (leads : ℕ) × (opens_good shape shard (good_copies shape taken.good shard) leads ≡ true)
    × GoesOn shard core (opened_with shape taken shard log leads)
