-- What disks may be left with, list by list.
use Rattle.std.specs.Prelude.{◌≡◌, ◌⊎◌, ℕ, ◌≤◌, List, [], ◌++◌, length}
use Rattle.std.specs.Prelude.{take}
use Rattle.hs_copies.specs.Lists.{Item, IsFront, IsAtMost, rank_by_stamps}
use Rattle.hs_copies.specs.Machine.{Stage, Good, Clearing, Following, Down, PeerCopy, Copies, CopyEvent, Propose, Send, CopyComes, Sealed, HaveComes, TakesEffect, Fail, GiveUp, Start, Cleared, Copying, Copied, Join}
use Rattle.hs_copies.specs.Invariant.{reach}

-- the peers of which the sealed entries are known to stand
abbrev pub KeepsSealed : Stage → Type 0
KeepsSealed Good = Unit {0}
KeepsSealed Following = Unit {0}
KeepsSealed Clearing = ⊥
KeepsSealed Down = ⊥

-- a list that the peer's disk may be left with: a front of the peer's, and no shorter than what is known to be sealed
pub record IsFine {X : Type 0} (c : PeerCopy X) (l : List (Item X)) : Type 0 where
  pub front : IsFront l (reach c)
  pub sealed : KeepsSealed c.stage → c.sealed ≤ length l

-- what a report of disk work tells of every list that the disk may be left with from then on
abbrev pub IsReported : {X : Type 0} → Copies X → CopyEvent X → ℕ → List (Item X) → Type 0
IsReported s (Sealed p n) q l = q ≡ p → n ≤ length l
IsReported s (Cleared p n) q l = q ≡ p → (l ≡ take n (s.peers p).list) × (n ≤ length (s.peers p).list)
IsReported s (Copied p) q l = q ≡ p → l ≡ (s.peers p).list ++ (s.peers p).adding
IsReported s (Propose lead x) q l = Unit {0}
IsReported s (Send m) q l = Unit {0}
IsReported s (CopyComes to place x) q l = Unit {0}
IsReported s (HaveComes p n) q l = Unit {0}
IsReported s (TakesEffect x) q l = Unit {0}
IsReported s (Fail p lead again x) q l = Unit {0}
IsReported s (GiveUp p) q l = Unit {0}
IsReported s (Start p) q l = Unit {0}
IsReported s (Copying p more) q l = Unit {0}
IsReported s (Join p lead x) q l = Unit {0}

-- what the disks are left with: that of one good peer, and of every other peer such a list or none
pub record AreImages {X : Type 0} (s : Copies X) (peer : ℕ) (images : ℕ → List (Item X)) : Type 0 where
  pub is_good : (s.peers peer).stage ≡ Good
  pub of_good : IsFine (s.peers peer) (images peer)
  pub others : (q : ℕ) → IsFine (s.peers q) (images q) ⊎ (images q ≡ [])

-- the list of greatest rank among them
abbrev pub HasGreatestRank : {X : Type 0} → (ℕ → List (Item X)) → ℕ → Type 0
HasGreatestRank images y = (q : ℕ) → IsAtMost (rank_by_stamps (images q)) (rank_by_stamps (images y))
