-- A file that is kept before a run, and behind it.
use Rattle.std.specs.Prelude.{List, Option, Some, ℕ, ◌≡◌}
use Rattle.hs_founded.specs.Spelled.{HoldBytes}
use Rattle.hs_journal.specs.Events.{client_op}
use Rattle.hs_model.specs.declared.command.Command.{Command}
use Rattle.hs_model.specs.declared.op.Op.TheVariants as op
use Rattle.hs_promise.specs.Answers.{store_after}
use Rattle.hs_promise.specs.Entry.{IsSoundAtEntry, entry_store}
use Rattle.hs_promise.specs.Run.{Ran, Script}
use Rattle.hs_tree.specs.Trees.{IsStored}

-- no line drops a key
abbrev pub NoneDrops : (ℕ → Option Command) → List ℕ → Type 0
NoneDrops commands key = (n : ℕ) (taken : List ℕ) → client_op (commands n) ≡ Some (op.Drop taken) → taken ≡ key → ⊥

-- the disks hold bytes, and have sound lists
pub record OpensSound (S : Script) (r : Ran) : Type 0 where
  pub bytes : HoldBytes r.old.disks
  pub sound : IsSoundAtEntry S r

-- a file that is stored in the store at entry is so behind what was answered, where no line drops its key
abbrev pub SurvivesRun : Script → Ran → Type 0
SurvivesRun S r =
    (key file : List ℕ) → NoneDrops S.commands key → IsStored S.set.name (entry_store S r) key file → IsStored S.set.name (store_after S (entry_store S r) r.journal) key file
