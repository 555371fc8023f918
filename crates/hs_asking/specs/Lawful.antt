-- What holds of an asker that tells with what it began.
use Rattle.std.specs.List.{AllByRecursion}
use Rattle.std.specs.Prelude.{◌≡◌, ℕ, List, Some}
use Rattle.hs_journal.specs.Events.{IsAnswered}
use Rattle.hs_journal.specs.declared.entry.JournalEntry.{JournalEntry}
use Rattle.hs_journal.specs.declared.entry.Who.TheVariants as who
use Rattle.hs_laws.specs.Distinct.{HasDistinctAddresses}
use Rattle.hs_laws.specs.Valid.{IsValid}
use Rattle.hs_limits.specs.Block.{IsBlock, spell}
use Rattle.hs_limits.specs.declared.address.Address.{Address}
use Rattle.hs_model.specs.Peel.{IsAcyclic}
use Rattle.hs_model.specs.Run.{IsLegal}
use Rattle.hs_model.specs.Store.{Store, block_at, block_of}
use Rattle.hs_model.specs.declared.deed.Deed.TheVariants as deed
use Rattle.hs_model.specs.declared.store.StoredBlock.{StoredBlock}
use Rattle.hs_asking.specs.Shown.{Began, Shown, events_since}

-- each present block stands at its name
abbrev pub StandNamed : (List ℕ → Address) → Store → Type 0
StandNamed name s = (a : Address) (stored : StoredBlock) → block_at s a ≡ Some stored → a ≡ name (spell (block_of stored))

abbrev pub StandAtNames : Began → Type 0
StandAtNames b = StandNamed b.name b.store

-- the blocks of a store are within the bounds of blocks
abbrev pub AreBlocks : Store → Type 0
AreBlocks s = (a : Address) (stored : StoredBlock) → block_at s a ≡ Some stored → IsBlock (block_of stored)

-- an entry doesn't tell that shard 0 entered an epoch without a line that asked for it
abbrev pub IsForALine : JournalEntry → Type 0
IsForALine entry = entry.who ≡ who.Shard 0 → entry.deed ≡ deed.Entered 0 → ⊥

-- the store at which it began is valid, with no address twice, each block within its bounds and at its name, and none that leads back to itself;
-- from there the journal is a legal run, which the plain store answers, and shard 0 enters for a line alone
pub record AreAnswersOf {tells : Type 0} (b : Began) (s : Shown tells) : Type 0 where
  pub valid : IsValid b.store
  pub distinct : HasDistinctAddresses b.store
  pub blocks : AreBlocks b.store
  pub named : StandAtNames b
  pub acyclic : IsAcyclic b.store
  pub legal : IsLegal b.limits b.store (events_since b s)
  pub answered : IsAnswered s.commands b.name b.limits b.store s.journal
  pub led : AllByRecursion IsForALine s.journal
