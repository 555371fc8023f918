-- A run whose operations wait for blocks that are there, and are sealed where they are read.
use Rattle.std.specs.Prelude.{◌≡◌, ℕ, ◌<◌, Bool, Contains, List, Some}
use Rattle.hs_cluster.specs.Kept.{sealed_front}
use Rattle.hs_copies.specs.Machine.{Copies}
use Rattle.hs_core_copies.specs.Lists.{numbered}
use Rattle.hs_core_words.specs.Looking.{first_task, shape_of, status_of}
use Rattle.hs_core_words.specs.State.{Core}
use Rattle.hs_desk.specs.declared.job.Job.TheVariants as job
use Rattle.hs_entry.specs.declared.entry.Entry.{Entry}
use Rattle.hs_events.specs.Whole.{Whole}
use Rattle.hs_fold.specs.Runs.Catalogue.{catalogue_of}
use Rattle.hs_fold.specs.Runs.Facts.{Catalogue as Folded}
use Rattle.hs_fold.specs.Runs.Fits.{catalogue_at}
use Rattle.hs_fold.specs.Shards.Setting.{Numbered, shard_in}
use Rattle.hs_limits.specs.declared.limits.PeerStatus.TheVariants.{Good}
use Rattle.hs_members.specs.Members.{home_of}
use Rattle.hs_standing.specs.Held.{GivesAddresses}
use Rattle.hs_laws.specs.Valid.{IsValid}
use Rattle.hs_standing.specs.Script.{Script}
use Rattle.hs_clauses.specs.Home.{AreAtHome}
use Rattle.hs_clauses.specs.Awaiting.{AreAwaiting}
use Rattle.hs_standing.specs.Run.{RunStands}
use Rattle.hs_standing.specs.Standing.{StandsWith}
use Rattle.hs_standing.specs.Start.{Start}
use Rattle.hs_told.specs.InTurn.{IsInTurn}
use Rattle.hs_whole_copies.specs.Whole.{IsWholeInStep}

-- what was told is a legal run up to the store of these folds, and the operations that wait for bytes wait for blocks of them
pub record ReadStands (start : Start) (core : Core) (cs : List Folded) : Type 0 where
  pub stands : RunStands start core cs
  pub awaiting : AreAwaiting core cs

-- a peer is good, and has each of these entries sealed; what is sealed there has each number once
pub record HasSealed (c : Whole) (peer : ℕ) (list : Numbered) : Type 0 where
  pub good : status_of peer c.core ≡ Good
  pub low : home_of c.core.members.shape peer < (shape_of c.core).shards
  pub all : (x : ℕ × Entry) → Contains list x → Contains (sealed_front c peer) x
  pub once : (number : ℕ) (x y : Entry) → Contains (sealed_front c peer) (number, x) → Contains (sealed_front c peer) (number, y) → x ≡ y

-- for any number of copies a core stands with folds that are those of what took effect, by shard; and a peer that is to read has that of its shard sealed
pub record ReadsWhatIsSealed (start : Start) (c : Whole) : Type 0 where
  pub folds : List Folded
  pub holds : ReadStands start c.core folds
  pub at_home : AreAtHome c.core
  pub took : ℕ → Numbered
  pub settled : (shard : ℕ) → shard < (shape_of c.core).shards → catalogue_at folds shard ≡ catalogue_of (shard_in start.set shard) (took shard)
  pub sealed : (peer number line : ℕ) → first_task peer c.core ≡ Some (record { job = job.Read number; line = line }) → HasSealed c peer (took (home_of c.core.members.shape peer))

-- for any number of copies a run between two events: its whole lists are those of the machines of the copies, and its core stands with the folds of what took effect
-- in these; each job that reads is in a queue of its operation's shard
pub record ReadsInStep (start : Start) (c : Whole) : Type 0 where
  pub names : GivesAddresses start.set.name
  pub valid : IsValid start.entry
  pub turn : IsInTurn start.commands c.core
  pub shape : shape_of c.core ≡ start.set.shape
  pub machines : ℕ → Copies Entry
  pub whole : IsWholeInStep c machines
  pub folds : List Folded
  pub holds : ReadStands start c.core folds
  pub at_home : AreAtHome c.core
  pub settled : (shard : ℕ) → shard < start.set.shape.shards → catalogue_at folds shard ≡ catalogue_of (shard_in start.set shard) (numbered (machines shard).took)

-- a run of one copy between two events, each job that reads in the queue of its operation's shard
pub record IsReading (start : Start) (c : Whole) : Type 0 where
  pub names : GivesAddresses start.set.name
  pub valid : IsValid start.entry
  pub stands : StandsWith start (ReadStands start) c
  pub home : AreAtHome c.core

-- the script of a run, as its lines see it, whose last line was gone past or not
abbrev pub script_of : Start → Bool → Script
script_of start past = record { name = start.set.name; commands = start.commands; past = past }
