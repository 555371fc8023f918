-- The counts of a core that stands are right.
use Rattle.std.proofs.Common.{subst, ℕ, ◌<◌, List}
use Rattle.std.proofs.lemmas.List.Elements.{All-weaker}
use Rattle.std.specs.Map.{values_of}
use Rattle.std.specs.Prelude.{All}
use Rattle.hs_answered.specs.Telling.{Judging}
use Rattle.hs_core_words.specs.Looking.{shape_of}
use Rattle.hs_core_words.specs.State.{Core}
use Rattle.hs_settled.proofs.SentLemmas.{Sends, sends_all}
use Rattle.hs_settled.specs.Counts.{AreRoundsSent, CountsRight, IsSentRound}
use Rattle.hs_deletion.specs.Catalogue.{ShardCatalogue}
use Rattle.hs_deletion.specs.Following.{AreCountsFollowed, IsFollowed, IsSent}
use Rattle.hs_deletion.specs.History.{IsMade}
use Rattle.hs_deletion.specs.Machine.{Layout, Machine, empty_machine}
use Rattle.hs_deletion.specs.Promises.{HasEachZero, HasNoWrongZero}
use Rattle.hs_effects.specs.Lawful.{AreOfHistory}
use Rattle.hs_effects.specs.Taking.{setting_of}
use Rattle.hs_fold.specs.Lawful.{Deed}
use Rattle.hs_fold.specs.Runs.Counts.{AreCounted}
use Rattle.hs_fold.specs.Runs.Facts.{Catalogue as Folded}
use Rattle.hs_fold.specs.Runs.History.{FitAll, follow_all, no_entries}
use Rattle.hs_fold.specs.Shards.Setting.{Setting}
use Rattle.hs_joint.proofs.HistoryLemmas.{empty_standing, shape_few, shape_some}
use Rattle.hs_joint.specs.Along.{KeepFewRecords}
use Rattle.hs_joint.specs.Joined.{AreJoined}
use Rattle.hs_joint.specs.Seen.{all_seen, layout_of, seen_round}
use Rattle.hs_standing.specs.Legal.{IsStanding}
use Rattle.hs_limits.specs.Shape.{IsShape}
use Rattle.hs_model.specs.Store.{Store}
use Rattle.hs_post.specs.declared.message.Message.{Message}
use Rattle.hs_post.specs.declared.message.Message.TheVariants as message
use Rattle.hs_rounds.specs.declared.body.RoundBody.{RoundBody}
use Rattle.hs_rounds.specs.declared.place.Place.{Place}
use Rattle.hs_standing.specs.Sent.{IsOfSent, WasSent}

-- what is known of machines that lawful histories make, and of the counts behind a lawful history
pub record CountLaws : Type 0 where
  pub counts : (layout : Layout) (m : Machine) (catalogues : ℕ → ShardCatalogue) → IsFollowed layout m catalogues → AreCountsFollowed layout m catalogues
  pub none : (layout : Layout) (m : Machine) → IsMade layout m → HasNoWrongZero layout m
  pub found : (layout : Layout) (m : Machine) → IsMade layout m → HasEachZero layout m
  pub counted : (set : Setting) (history : List Deed) → IsShape set.shape → FitAll set (no_entries set) history → KeepFewRecords set (no_entries set) history
      → All (AreCounted (follow_all set (no_entries set) history)) (follow_all set (no_entries set) history)

module _ (laws : CountLaws) (by : Judging) (start : Store) (core : Core) (cs : List Folded) (its : IsStanding by start core cs) where
  abbrev set : Setting
  set = setting_of by.name core

  abbrev lawful : AreOfHistory (setting_of by.name core) cs
  lawful = its.lawful.lawful

  some : 0 < (shape_of core).shards
  some = shape_some (shape_of core) its.lawful.folded.valid

  abbrev layout : Layout
  layout = layout_of (shape_of core).shards some

  sends : Sends (setting_of by.name core) some (no_entries (setting_of by.name core)) empty_machine lawful.history
  sends = sends_all set some (shape_few (shape_of core) its.lawful.folded.valid) lawful.history (no_entries set) empty_machine (empty_standing set some) lawful.fits lawful.records

  joined : AreJoined (setting_of by.name core) some cs sends.later
  joined = subst (λ (ds : List Folded). AreJoined set some ds sends.later) lawful.gives sends.standing.joined

  -- what was sent behind a front of the history was sent
  was : (to : ℕ) (place : Place) (told : RoundBody) → WasSent (setting_of by.name core) lawful.history to place told → IsSent layout sends.later.states to place.from place.epoch place.round (seen_round place.round told)
  was to place told sent = sends.sent sent.front sent.later sent.parted place.from sent.of to place.epoch place.round told sent.sent

  of_message : (m : Message) → IsOfSent (setting_of by.name core) lawful.history m → IsSentRound layout sends.later m
  of_message (message.Copy shard to view number entry) sent = tt
  of_message (message.Have shard from to view sealed) sent = tt
  of_message (message.Round from to epoch round total deltas) sent = was to (record { epoch = epoch; round = round; from = from }) (record { total = total; deltas = deltas }) sent

  rounds : AreRoundsSent layout sends.later core
  rounds = record {
    messages = All-weaker (IsOfSent (setting_of by.name core) lawful.history) (IsSentRound layout sends.later) of_message (values_of core.pool.messages) its.sent.messages;
    gots = λ shard at place told waits. was shard place told (its.sent.gots shard at place told waits);
  }

  counts : All (AreCounted cs) cs
  counts = subst (λ (ds : List Folded). All (AreCounted ds) ds) lawful.gives (laws.counted set lawful.history its.lawful.folded.valid lawful.fits lawful.records)

  pub core_right : CountsRight by.name core
  core_right = record {
    some = some;
    folds = cs;
    folded = its.lawful.folded;
    follows = record {
      machine = sends.later;
      joined = joined;
      counts = laws.counts layout sends.later (all_seen cs) joined.followed;
      no_wrong_zero = laws.none layout sends.later joined.followed.made;
      exact_zero = laws.found layout sends.later joined.followed.made;
    };
    counted = counts;
    sent = rounds;
  }
