-- What rounds tell is told whole, and counted whole.
use Rattle.std.specs.Prelude.{◌≡◌, ℕ, ◌+◌, ◌^◌, ◌<◌, ◌≤◌, true, false, ◌==◌, List, [], ◌∷◌, filter, All}
use Rattle.hs_limits.specs.declared.delta.Delta.{Delta}
use Rattle.hs_limits.specs.Shape.{shard_of}
use Rattle.hs_entry.specs.declared.entry.Entry.{Entry}
use Rattle.hs_entry.specs.declared.entry.Entry.TheVariants as kind
use Rattle.hs_rounds.specs.declared.body.RoundBody.{RoundBody}
use Rattle.hs_rounds.specs.declared.place.Place.{Place}
use Rattle.hs_rounds.specs.Changes.{changes_for}
use Rattle.hs_fold.specs.Lawful.{Deed}
use Rattle.hs_fold.specs.Shards.Setting.{Setting}
use Rattle.hs_fold.specs.Runs.Counts.{amount_at}
use Rattle.hs_fold.specs.Runs.Facts.{Catalogue}
use Rattle.hs_fold.specs.Runs.Fits.{catalogue_at}
use Rattle.hs_fold.specs.Runs.History.{follow}
use Rattle.hs_fold.specs.Runs.Rounds.{may_enter, first_deltas, is_accepted, log_got, is_complete, is_last, open_deltas, settled, next_deltas}

-- each shard is told all that changes of its blocks
abbrev pub TellsAll : ℕ → List Delta → Type 0
TellsAll shards deltas = (to : ℕ) → to < shards → changes_for shards deltas to ≡ filter (λ d. shard_of shards d.address == to) deltas

-- counts take all that the open round tells: round 0 leaves each below 2^32, and each later one lowers none below 0
pub record CountsTakeAll (shards : ℕ) (c : Catalogue) : Type 0 where
  pub raised : c.round ≡ 0 → All (λ e. e.1.count + amount_at e.0 (open_deltas shards c) < 2 ^ 32) c.blocks
  pub lowered : 1 ≤ c.round → All (λ e. amount_at e.0 (open_deltas shards c) ≤ e.1.count) c.blocks

-- a Got that ends a round: counts take all of it, and all of the next is told
abbrev pub GotLosesNothing : ℕ → Catalogue → Place → RoundBody → Type 0
GotLosesNothing shards c place told = is_accepted shards c place ≡ true → is_complete shards (log_got place told c) ≡ true
    → CountsTakeAll shards (log_got place told c)
    × (is_last shards (log_got place told c) ≡ false → TellsAll shards (next_deltas (settled shards (log_got place told c))))

-- an Enter that changes its catalogue tells all of round 0; the other kinds end no round
abbrev pub EntryLosesNothing : ℕ → Catalogue → Entry → Type 0
EntryLosesNothing shards c (kind.Enter op epoch) = may_enter c epoch ≡ true → TellsAll shards (first_deltas (c.epoch + 1) c)
EntryLosesNothing shards c (kind.Got sender epoch round total deltas) =
    GotLosesNothing shards c (record { epoch = epoch; round = round; from = sender }) (record { total = total; deltas = deltas })
EntryLosesNothing shards c (kind.View view) = Unit {0}
EntryLosesNothing shards c (kind.Block op least bytes) = Unit {0}
EntryLosesNothing shards c (kind.Mark op least block address) = Unit {0}
EntryLosesNothing shards c (kind.Root op held address key) = Unit {0}
EntryLosesNothing shards c (kind.Drop op key) = Unit {0}
EntryLosesNothing shards c (kind.Base view epoch swept round frames) = Unit {0}
EntryLosesNothing shards c (kind.KeptBlock born mark flags count bytes) = Unit {0}
EntryLosesNothing shards c (kind.KeptRoot created dropped counted address key) = Unit {0}
EntryLosesNothing shards c (kind.KeptRound way other epoch round total deltas) = Unit {0}

-- so with each of some entries, one after another
abbrev pub EachLosesNothing : Setting → List Catalogue → List Deed → Type 0
EachLosesNothing set cs [] = Unit {0}
EachLosesNothing set cs (deed ∷ deeds) =
    EntryLosesNothing set.shape.shards (catalogue_at cs deed.shard) deed.entry × EachLosesNothing set (follow set cs deed) deeds
