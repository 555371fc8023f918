-- Which lists the copies of a shard have, of the machine's.
use Rattle.std.specs.Prelude.{◌⊎◌, ℕ, List, drop, length, map}
use Rattle.hs_copies.specs.Invariant.{reach}
use Rattle.hs_copies.specs.Lists.{IsFront, Item}
use Rattle.hs_copies.specs.Machine.{Copies}
use Rattle.hs_core_words.specs.State.{Core}
use Rattle.hs_entry.specs.declared.entry.Entry.{Entry}
use Rattle.hs_fold.specs.Runs.Facts.{Catalogue as Folded}
use Rattle.hs_limits.specs.declared.address.Address.{Address}
use Rattle.hs_tails.specs.Tails.{RestsIn}

-- a list begins the lead's, or what some peer's disk may have
abbrev pub IsKnown : Copies Entry → List (Item Entry) → Type 0
IsKnown copies list = IsFront list copies.log ⊎ ((peer : ℕ) × IsFront list (reach (copies.peers peer)))

-- the entries of a list behind so many
abbrev pub entries_behind : ℕ → List (Item Entry) → List Entry
entries_behind n list = map (λ x. x.what) (drop n list)

-- what each known list of a shard's copies that has all that took effect has behind that rests on what is there
abbrev pub KnownListsRest : (List ℕ → Address) → Core → List Folded → ℕ → Copies Entry → Type 0
KnownListsRest name core cs shard copies =
    (list : List (Item Entry)) → IsKnown copies list → IsFront copies.took list → RestsIn name core cs shard (entries_behind (length copies.took) list)
