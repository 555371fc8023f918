-- A core whose counts are right, in its catalogues and with what is under way.
use Rattle.std.specs.Map.{values_of}
use Rattle.std.specs.Prelude.{◌<◌, ℕ, List, All}
use Rattle.hs_answered.specs.Standing.{IsFolded}
use Rattle.hs_core_words.specs.Looking.{shape_of}
use Rattle.hs_core_words.specs.State.{Core}
use Rattle.hs_settled.specs.Machine.{FollowsMachine}
use Rattle.hs_deletion.specs.Following.{IsSent}
use Rattle.hs_deletion.specs.Machine.{Layout, Machine}
use Rattle.hs_effects.specs.Taking.{setting_of}
use Rattle.hs_fold.specs.Runs.Counts.{AreCounted}
use Rattle.hs_fold.specs.Runs.Facts.{Catalogue as Folded}
use Rattle.hs_joint.specs.Seen.{layout_of, seen_round}
use Rattle.hs_limits.specs.declared.address.Address.{Address}
use Rattle.hs_post.specs.declared.message.Message.{Message}
use Rattle.hs_post.specs.declared.message.Message.TheVariants as message
use Rattle.hs_rounds.specs.declared.body.RoundBody.{RoundBody}
use Rattle.hs_rounds.specs.declared.place.Place.{Place}
use Rattle.hs_standing.specs.Sent.{HasGot}

-- a message that is a Round is one that the machine's shard sent
abbrev pub IsSentRound : Layout → Machine → Message → Type 0
IsSentRound layout m (message.Copy shard to view number entry) = Unit {0}
IsSentRound layout m (message.Have shard from to view sealed) = Unit {0}
IsSentRound layout m (message.Round from to epoch round total deltas) = IsSent layout m.states to from epoch round (seen_round round (record { total = total; deltas = deltas }))

-- so is each Round of a core's pool, and what each Got tells that waits
pub record AreRoundsSent (layout : Layout) (m : Machine) (core : Core) : Type 0 where
  pub messages : All (IsSentRound layout m) (values_of core.pool.messages)
  pub gots : (shard at : ℕ) (place : Place) (told : RoundBody) → HasGot core shard at place told → IsSent layout m.states shard place.from place.epoch place.round (seen_round place.round told)

-- the catalogues of a core are folds that follow a machine which a lawful history makes, by which no zero block is a wrong one and each is found;
-- each of their counts is how often its address is named, but for the rounds that are sent and not applied; and what is under way is what was sent
pub record CountsRight (name : List ℕ → Address) (core : Core) : Type 0 where
  pub some : 0 < (shape_of core).shards
  pub folds : List Folded
  pub folded : IsFolded core folds
  pub follows : FollowsMachine (setting_of name core) some folds
  pub counted : All (AreCounted folds) folds
  pub sent : AreRoundsSent (layout_of (shape_of core).shards some) follows.machine core
