-- Each Got that waits may come.
use Rattle.std.proofs.Common.{◌≡◌, sym, subst, ℕ, ◌<◌, List, true, Some, slice_get, refl}
use Rattle.hs_core_words.specs.Looking.{group_of}
use Rattle.hs_core_words.specs.State.{Core}
use Rattle.hs_effects.specs.Lawful.{IsLawful}
use Rattle.hs_effects.specs.Taking.{setting_of}
use Rattle.hs_entry.specs.declared.entry.Entry.TheVariants as kind
use Rattle.hs_fold.specs.Runs.Facts.{Catalogue as Folded}
use Rattle.hs_fold.specs.Runs.Fits.{HasSent, catalogue_at}
use Rattle.hs_fold.specs.Runs.History.{follow_all, no_entries}
use Rattle.hs_fold.specs.Runs.Rounds.{is_accepted}
use Rattle.hs_fold.specs.Shards.Setting.{Setting}
use Rattle.hs_limits.specs.declared.address.Address.{Address}
use Rattle.hs_limits.specs.declared.delta.Delta.{Delta}
use Rattle.hs_rounds.specs.declared.body.RoundBody.{RoundBody}
use Rattle.hs_rounds.specs.declared.place.Place.{Place}
use Rattle.hs_waiting.specs.Waits.{EntryWaits}
use Rattle.hs_standing.specs.Sent.{AreSent, HasGot}
use Rattle.hs_standing.proofs.WasLemmas.{kept_now}

module _ (name : List ℕ → Address) (cs : List Folded) (core : Core) (lawful : IsLawful name core cs) (sent : AreSent (setting_of name core) lawful.lawful.history core) where
  abbrev set : Setting
  set = setting_of name core

  abbrev folds : List Folded
  folds = follow_all (setting_of name core) (no_entries (setting_of name core)) lawful.lawful.history

  -- its sender keeps the round still
  pub got_kept : (shard at : ℕ) (place : Place) (told : RoundBody) → HasGot core shard at place told → HasSent (catalogue_at folds place.from).sent shard place.epoch place.round told
  got_kept shard at place told there =
      kept_now set lawful.lawful.history shard place told lawful.folded.valid lawful.lawful.fits lawful.lawful.records (sent.gots shard at place told there) (sent.due shard at place told folds refl there)

  -- and its shard would take it
  pub got_due : (shard at : ℕ) (place : Place) (told : RoundBody) → HasGot core shard at place told → is_accepted set.shape.shards (catalogue_at cs shard) place ≡ true
  got_due shard at place told there = sent.due shard at place told cs lawful.lawful.gives there

  pub got_waits : (shard at from epoch round total : ℕ) (deltas : List Delta) → slice_get (group_of shard core).waiting at ≡ Some (kind.Got from epoch round total deltas) → EntryWaits cs shard (kind.Got from epoch round total deltas)
  got_waits shard at from epoch round total deltas there =
      let place : Place = record { epoch = epoch; round = round; from = from } in
      let told : RoundBody = record { total = total; deltas = deltas } in
      let low : from < set.shape.shards = (sent.gots shard at place told there).of in (
        subst (λ n. from < n) (sym lawful.folded.shards) low,
        subst (λ (x : List Folded). HasSent (catalogue_at x from).sent shard epoch round told) lawful.lawful.gives (got_kept shard at place told there),
      )
