-- Of one list that list counts.
use Rattle.std.proofs.Common.{◌≡◌, ℕ, ◌==◌, ◌&&◌, ◌||◌, List, [], ◌∷◌, false, cond, ap, nat_lt, arith}
use Rattle.std.proofs.lemmas.Bool.Decides.{nat_tests}
use Rattle.hs_entry.specs.declared.entry.Entry.{Entry}
use Rattle.hs_entry.specs.declared.rank.Rank.{Rank}
use Rattle.hs_entry.specs.Entries.{rank_of}
use Rattle.hs_fold.specs.Opened.{outranks, chosen_each}

-- no list is below the empty one
none-below : (rank : Rank) → outranks (rank_of []) rank ≡ false
unfolding rank_of
none-below rank = low rank.view rank.number
  where
    low : (view number : ℕ) → (nat_lt view 0 || (0 == view && nat_lt number 0)) ≡ false
    low view number = grind (arith, nat_tests)

pub one-chosen : (list : List (ℕ × Entry)) → chosen_each 1 1 (list ∷ []) ≡ list ∷ []
one-chosen list = ap (λ b. cond b [] list ∷ []) (none-below (rank_of list))
