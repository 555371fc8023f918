-- What lines do that have peers do what is due.
use Rattle.std.specs.List.{AllByRecursion}
use Rattle.std.specs.Prelude.{Err, List, Ok, Result, [], ℕ, ⊤, ◌++◌, ◌∷◌, ◌≡◌}
use Rattle.hs_cluster.specs.declared.fault.ClusterFault.{ClusterFault}
use Rattle.hs_cluster.specs.declared.fault.ClusterFault.TheVariants as cluster
use Rattle.hs_limits.specs.declared.address.Address.{Address}
use Rattle.hs_model.specs.declared.command.Command.{Command}
use Rattle.hs_run.specs.Between.{Point}
use Rattle.hs_asker.specs.Going.{RunsAlone}
use Rattle.hs_asker.specs.Lines.{IsDriving}

-- these lines were gone past, one after another
pub data Drives (tells : Type 0) (name : List ℕ → Address) (old : Point) : List Command → Point → Type 0 where
  Still : Drives tells name old [] old
  Onward : {front : List Command} {mid new : Point} → (c : Command) → Drives tells name old front mid → IsDriving c → RunsAlone tells name c mid new (Ok tt) → Drives tells name old (front ++ c ∷ []) new

-- they were, or the last one was cut short, or there was no number or no room for one more
pub data HasDriven (tells : Type 0) (name : List ℕ → Address) (old new : Point) (said : List Command) (did : Result ⊤ ClusterFault) : Type 0 where
  Whole : Drives tells name old said new → did ≡ Ok tt → HasDriven tells name old new said did
  Wanting : Drives tells name old said new → did ≡ Err cluster.NoMemory → HasDriven tells name old new said did
  Cut : (last : Point) (front : List Command) (c : Command) (fault : ClusterFault) → Drives tells name old front last → IsDriving c → RunsAlone tells name c last new (Err fault) → said ≡ front ++ c ∷ [] → did ≡ Err fault
      → HasDriven tells name old new said did

-- the lines so far are some, and these behind them
pub record DrivesOn (tells : Type 0) (name : List ℕ → Address) (old new : Point) (was is : List Command) (did : Result ⊤ ClusterFault) : Type 0 where
  pub said : List Command
  pub more : is ≡ was ++ said
  pub driving : AllByRecursion IsDriving said
  pub driven : HasDriven tells name old new said did
