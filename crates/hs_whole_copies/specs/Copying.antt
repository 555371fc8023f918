-- What a copying step copies, of the whole lists.
use Rattle.std.specs.Prelude.{◌≡◌, ℕ, ◌+◌, ◌-◌, ◌≤◌, [], ◌∷◌, Some, length, slice_get}
use Rattle.hs_core_words.specs.Looking.{home, lead_of, sealed_of}
use Rattle.hs_entry.specs.declared.entry.Entry.{Entry}
use Rattle.hs_events.specs.Whole.{Whole}

-- the entry of this number is the next of the lead's list, and sealed there; and all that the peer's disk may have behind its own list
pub record IsNextCopied (c : Whole) (peer from number : ℕ) : Type 0 where
  pub leads : lead_of (home peer c.core) c.core ≡ Some from
  pub next : number ≡ length (c.lists peer) + 1
  pub sealed : number ≤ sealed_of from c.core
  pub entry : Entry
  pub there : slice_get (c.lists from) (number - 1) ≡ Some (number, entry)
  pub adds : c.adds peer ≡ (number, entry) ∷ []
