-- The views that entries tell: `tells v x` is the view behind the entry x, where v was the view before it.
use Rattle.std.specs.Prelude.{◌≡◌, ℕ, zero, suc, ◌≤◌, List, [], ◌∷◌, length}
use Rattle.hs_entry.specs.declared.rank.Rank.{Rank}
use Rattle.hs_copies.specs.Lists.{Item, IsFront, end_view}
use Rattle.hs_copies.specs.Machine.{Copied, Copies, CopyComes, CopyEvent, Copying, Cleared, Fail, GiveUp, HaveComes, Join, Propose, Sealed, Send, Start, TakesEffect}
use Rattle.hs_copies.specs.Invariant.{reach}

-- the view behind all of a list
abbrev pub view_told : {X : Type 0} → (ℕ → X → ℕ) → ℕ → List (Item X) → ℕ
view_told tells v [] = v
view_told tells v (x ∷ xs) = view_told tells (tells v x.what) xs

-- the rank of a list as its entries tell it
abbrev pub rank_told : {X : Type 0} → (ℕ → X → ℕ) → List (Item X) → Rank
rank_told tells xs = record { view = view_told tells 0 xs; number = length xs }

-- the views that are told never fall, and none is below this one
abbrev pub ToldRises : {X : Type 0} → (ℕ → X → ℕ) → ℕ → List (Item X) → Type 0
ToldRises tells d [] = Unit {0}
ToldRises tells d (x ∷ xs) = (d ≤ tells d x.what) × ToldRises tells (tells d x.what) xs

-- the first n items are those of opening, all of view v; behind them each item's view is what the entries tell
abbrev pub AreStamped : {X : Type 0} → (ℕ → X → ℕ) → ℕ → ℕ → List (Item X) → Type 0
AreStamped tells n v [] = Unit {0}
AreStamped tells zero v (x ∷ xs) = (x.view ≡ tells v x.what) × AreStamped tells zero x.view xs
AreStamped tells (suc n) v (x ∷ xs) = (x.view ≡ v) × AreStamped tells n v xs

-- an entry of a view tells it, every other entry tells none
abbrev pub TellsView : {X : Type 0} → (ℕ → X → ℕ) → Copies X → CopyEvent X → Type 0
TellsView tells s (Propose lead x) = tells s.view x ≡ s.view
TellsView tells s (Fail p lead again x) = (v : ℕ) → tells v x ≡ suc s.view
TellsView tells s (Join p lead x) = (v : ℕ) → tells v x ≡ suc s.view
TellsView tells s (Send m) = Unit {0}
TellsView tells s (CopyComes to place x) = Unit {0}
TellsView tells s (Sealed p n) = Unit {0}
TellsView tells s (HaveComes p n) = Unit {0}
TellsView tells s (TakesEffect x) = Unit {0}
TellsView tells s (GiveUp p) = Unit {0}
TellsView tells s (Start p) = Unit {0}
TellsView tells s (Cleared p n) = Unit {0}
TellsView tells s (Copying p more) = Unit {0}
TellsView tells s (Copied p) = Unit {0}

-- what stays true of a shard that was opened with this list, whose views never fall and whose last is v
pub record AreStampsTold {X : Type 0} (tells : ℕ → X → ℕ) (start : List (Item X)) (v : ℕ) (s : Copies X) : Type 0 where
  -- the list of opening took effect
  pub opening : IsFront start s.took
  pub ascends : ToldRises tells 0 start
  pub ends : view_told tells 0 start ≡ v
  -- each list is stamped as its entries tell, and the lead's ends with the current view
  pub each : (q : ℕ) → AreStamped tells (length start) v (reach (s.peers q))
  pub current : (d : ℕ) → end_view d s.log ≡ s.view
