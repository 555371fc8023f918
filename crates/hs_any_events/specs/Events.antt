-- Events that may come to a core, whatever their reports tell and whatever addresses their writes bring, and what holds of the core behind them.
use Rattle.std.specs.Option.{IsSomeAnd}
use Rattle.std.specs.Prelude.{◌≡◌, ◌≢◌, ℕ, List, None, Some}
use Rattle.hs_anatomy.specs.Acts.{Acts, begun}
use Rattle.hs_answered.specs.Telling.{Judging}
use Rattle.hs_core_words.specs.Calls.{IsNextLine}
use Rattle.hs_core_words.specs.declared.event.Event.{Event}
use Rattle.hs_core_words.specs.declared.event.Event.TheVariants as event
use Rattle.hs_core_words.specs.Looking.{catalogue_of, group_of}
use Rattle.hs_core_words.specs.State.{Core}
use Rattle.hs_effects.specs.Logged.{HasBlock}
use Rattle.hs_effects.specs.Taking.{taken}
use Rattle.hs_entry.specs.declared.entry.Entry.{Entry}
use Rattle.hs_fold.specs.Shards.Setting.{Setting}
use Rattle.hs_limits.specs.declared.address.Address.{Address}
use Rattle.hs_measure.specs.Zeros.{EachUnreachedIsZero, ZerosRight}
use Rattle.hs_model.specs.declared.op.Op.{Op}
use Rattle.hs_model.specs.declared.op.Op.TheVariants as op
use Rattle.hs_settled.specs.Counts.{CountsRight}
use Rattle.hs_replica.specs.Group.{committed}
use Rattle.hs_standing.specs.Held.{GivesAddresses, Has32Bytes}
use Rattle.hs_tokens.specs.Seats.{Seats}

-- a write that has a block brings an address, whichever 32 bytes this is
abbrev pub BringsAddress : Seats → Op → Type 0
BringsAddress seats (op.Write session payload handles address) = HasBlock seats session payload handles → IsSomeAnd address Has32Bytes
BringsAddress seats other = Unit {0}

-- so does that of a client's line
abbrev pub LineBringsAddress : Event → Core → Type 0
LineBringsAddress (event.Line line o) core = BringsAddress core.sessions o
LineBringsAddress other core = Unit {0}

-- an event is the next one: a client's line is above that of each one before, and its write brings an address
pub record ComesNext (event : Event) (core : Core) : Type 0 where
  pub next : IsNextLine core event
  pub given : LineBringsAddress event core

-- blocks are named so, whatever lines there are
abbrev pub any_lines : Setting → Judging
any_lines set = record { commands = λ line. None; name = set.name; limits = set.limits }

-- the counts of a core are right, and so are its zero blocks
pub record IsCountedRight (name : List ℕ → Address) (core : Core) : Type 0 where
  pub counts : CountsRight name core
  pub zeros : ZerosRight name core

-- so they are by some naming of blocks
pub record AreCountedRight (core : Core) : Type 0 where
  pub naming : List ℕ → Address
  pub names : GivesAddresses naming
  pub counts : CountsRight naming core
  pub zeros : ZerosRight naming core

-- a shard sweeps on the way from one core to another: the epoch up to which it has swept is not the same
abbrev pub Sweeps : ℕ → Core → Core → Type 0
Sweeps shard core after = (catalogue_of shard after).swept ≢ (catalogue_of shard core).swept

-- an entry takes effect by which a shard sweeps: it does up to its epoch, and each of its older blocks that are out of reach there was a zero block
pub record SweepsRight (shard : ℕ) (entry : Entry) (core : Core) : Type 0 where
  pub naming : List ℕ → Address
  pub names : GivesAddresses naming
  pub zeros : ZerosRight naming core
  pub upto : (catalogue_of shard (taken shard entry core)).swept ≡ (catalogue_of shard core).epoch
  pub exact : EachUnreachedIsZero zeros.folds shard

-- by an event a shard sweeps: by an entry that takes effect in it
pub record SweepsBy (shard : ℕ) (event : Event) (moment : ℕ) (core : Core) : Type 0 where
  pub reached : Core
  pub acts : Acts (begun event moment core) (Some event) reached
  pub number : ℕ
  pub entry : Entry
  pub next : committed (group_of shard reached) ≡ Some (number, entry)
  pub sweeps : Sweeps shard reached (taken shard entry reached)
