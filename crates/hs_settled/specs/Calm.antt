-- What a journal is where no disk failed.
use Rattle.std.specs.List.{AllByRecursion}
use Rattle.std.specs.Prelude.{All, List, ℕ, ◌≡◌}
use Rattle.hs_journal.specs.declared.entry.JournalEntry.{JournalEntry}
use Rattle.hs_journal.specs.declared.entry.Who.TheVariants as who
use Rattle.hs_model.specs.Store.{Store}
use Rattle.hs_model.specs.declared.deed.Deed.TheVariants as deed
use Rattle.hs_promise.specs.Answers.{Answers, IsEntry}
use Rattle.hs_promise.specs.Deletes.{Deletes}
use Rattle.hs_promise.specs.Run.{Ran, Script}

-- an entry doesn't tell that shard 0 entered an epoch by itself
abbrev pub IsNotAlone : JournalEntry → Type 0
IsNotAlone entry = entry.who ≡ who.Shard 0 → entry.deed ≡ deed.Entered 0 → ⊥

-- so it is with each: shard 0 enters by `delete` lines alone
abbrev pub AreLed : List JournalEntry → Type 0
AreLed entries = AllByRecursion IsNotAlone entries

-- a journal is answered from a store on, its deletions are told as promised, each of its entries stands for something, and shard 0 is led by lines
pub record IsCalm (S : Script) (entry : Store) (last : ℕ) (r : Ran) : Type 0 where
  pub answers : Answers S entry r.journal
  pub deletes : Deletes S entry r
  pub entries : All (IsEntry S last) r.journal
  pub led : AreLed r.journal
