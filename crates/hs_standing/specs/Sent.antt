-- Rounds that are under way, and Gots that wait: each was sent, and each of these would be taken.
use Rattle.std.specs.Map.{values_of}
use Rattle.std.specs.Prelude.{◌≡◌, ℕ, ◌<◌, ◌++◌, true, List, All, Some, slice_get}
use Rattle.hs_core_words.specs.Looking.{group_of}
use Rattle.hs_core_words.specs.State.{Core}
use Rattle.hs_entry.specs.declared.entry.Entry.{Entry}
use Rattle.hs_entry.specs.declared.entry.Entry.TheVariants as kind
use Rattle.hs_fold.specs.Lawful.{Deed}
use Rattle.hs_fold.specs.Runs.Facts.{Catalogue as Folded}
use Rattle.hs_fold.specs.Runs.Fits.{HasSent, catalogue_at}
use Rattle.hs_fold.specs.Runs.History.{follow_all, no_entries}
use Rattle.hs_fold.specs.Runs.Rounds.{is_accepted}
use Rattle.hs_fold.specs.Shards.Setting.{Setting}
use Rattle.hs_post.specs.declared.message.Message.{Message}
use Rattle.hs_post.specs.declared.message.Message.TheVariants as message
use Rattle.hs_rounds.specs.declared.body.RoundBody.{RoundBody}
use Rattle.hs_rounds.specs.declared.place.Place.{Place}

-- behind some front of a history the catalogue of its sender kept a round as sent, which told a shard this
pub record WasSent (set : Setting) (history : List Deed) (to : ℕ) (place : Place) (told : RoundBody) : Type 0 where
  pub front : List Deed
  pub later : List Deed
  pub parted : front ++ later ≡ history
  pub of : place.from < set.shape.shards
  pub sent : HasSent (catalogue_at (follow_all set (no_entries set) front) place.from).sent to place.epoch place.round told

-- so each message that is a Round
abbrev pub IsOfSent : Setting → List Deed → Message → Type 0
IsOfSent set history (message.Copy shard to view number entry) = Unit {0}
IsOfSent set history (message.Have shard from to view sealed) = Unit {0}
IsOfSent set history (message.Round from to epoch round total deltas) =
    WasSent set history to (record { epoch = epoch; round = round; from = from }) (record { total = total; deltas = deltas })

-- the Got of a round, and that it waits at a place of a shard's list
abbrev pub got_of : Place → RoundBody → Entry
got_of place told = kind.Got place.from place.epoch place.round told.total told.deltas

abbrev pub HasGot : Core → ℕ → ℕ → Place → RoundBody → Type 0
HasGot core shard at place told = slice_get (group_of shard core).waiting at ≡ Some (got_of place told)

-- each Round under way and each Got that waits was sent; each Got would be accepted where it waits, and no two of a shard are of one sender's round
pub record AreSent (set : Setting) (history : List Deed) (core : Core) : Type 0 where
  pub messages : All (IsOfSent set history) (values_of core.pool.messages)
  pub gots : (shard at : ℕ) (place : Place) (told : RoundBody) → HasGot core shard at place told → WasSent set history shard place told
  pub due : (shard at : ℕ) (place : Place) (told : RoundBody) (cs : List Folded) → follow_all set (no_entries set) history ≡ cs → HasGot core shard at place told
      → is_accepted set.shape.shards (catalogue_at cs shard) place ≡ true
  pub once : (shard p q : ℕ) (place : Place) (told other : RoundBody) → HasGot core shard p place told → HasGot core shard q place other → p ≡ q
