-- What stays true of the copies of a shard.
use Rattle.std.specs.Prelude.{◌≡◌, ℕ, suc, ◌≤◌, List, [], ◌++◌, length, Some}
use Rattle.std.specs.Prelude.{slice_get}
use Rattle.hs_copies.specs.Lists.{Item, IsAmong, IsFront, AreBelow, Rises, IsBehind, Agree}
use Rattle.hs_copies.specs.Machine.{Good, Following, PeerCopy, Notice, EntryNotice, SealedNotice, Copies}

-- the longest list that the peer's disk may have
abbrev pub reach : {X : Type 0} → PeerCopy X → List (Item X)
reach c = c.list ++ c.adding

-- a good peer's copy
pub record IsGoodCopy {X : Type 0} (log : List (Item X)) (took : List (Item X)) (c : PeerCopy X) : Type 0 where
  -- its list is a front of the lead's
  pub prefix : IsFront c.list log
  -- it copies nothing
  pub nothing : c.adding ≡ []
  -- what took effect is known to be sealed, what is known is sealed, and what is sealed is there
  pub front : length took ≤ c.known
  pub told : c.known ≤ c.sealed
  pub held : c.sealed ≤ length c.list

-- a notice of the current view tells what is so; none is of a later view
abbrev pub IsTrue : {X : Type 0} → Copies X → Notice X → Type 0
IsTrue s (EntryNotice to view place x) = (view ≤ s.view) × (view ≡ s.view → slice_get s.log place ≡ Some x)
IsTrue s (SealedNotice from view number) =
    (view ≤ s.view) × (view ≡ s.view → ((s.peers from).stage ≡ Good) × (number ≤ (s.peers from).sealed))

-- what stays true, whatever happens
pub record AreFaithful {X : Type 0} (s : Copies X) : Type 0 where
  -- views never fall along the lead's list, and along no list that a disk may have
  pub rises : Rises 0 s.log
  pub risen : (p : ℕ) → Rises 0 (reach (s.peers p))
  -- no list has a view above the current one
  pub below : (p : ℕ) → AreBelow (suc s.view) (reach (s.peers p))
  -- each list follows the lead's, and where it leaves it the lead's has a greater view
  pub behind : (p : ℕ) → IsBehind (reach (s.peers p)) s.log
  -- two lists are one up to any place where their views are one
  pub agree : (p q : ℕ) → Agree (reach (s.peers p)) (reach (s.peers q))
  -- some good peer has the lead's list
  pub led : (p : ℕ) × ((s.peers p).stage ≡ Good) × ((s.peers p).list ≡ s.log)
  -- good peers have fronts of it
  pub good : (p : ℕ) → (s.peers p).stage ≡ Good → IsGoodCopy s.log s.took (s.peers p)
  -- so has a peer that follows, with what it copies; it has sealed all of its list
  pub following : (p : ℕ) → (s.peers p).stage ≡ Following
      → IsFront (reach (s.peers p)) s.log × (length (s.peers p).list ≡ (s.peers p).sealed)
  -- what took effect is a front of the lead's list
  pub took : IsFront s.took s.log
  -- every notice is true
  pub sent : (m : Notice X) → IsAmong m s.sent → IsTrue s m
