-- The lists that count, and the blocks of several shards.
use Rattle.std.specs.Prelude.{ℕ, ◌==◌, ◌&&◌, ◌||◌, Bool, if◌then◌else◌, List, [], ◌∷◌, nat_lt, take, drop}
use Rattle.std.specs.BTreeMap.{insert_entry}
use Rattle.std.proofs.Common.{zero, suc}
use Rattle.hs_limits.specs.declared.address.Address.{Address}
use Rattle.hs_model.specs.Store.{address_cmp}
use Rattle.hs_entry.specs.declared.entry.Entry.{Entry}
use Rattle.hs_entry.specs.declared.rank.Rank.{Rank}
use Rattle.hs_entry.specs.Entries.{rank_of}
use Rattle.hs_fold.specs.Catalogue.{Present}

-- the blocks of two shards by address
abbrev pub both : List (Address × Present) → List (Address × Present) → List (Address × Present)
both [] others = others
both (e ∷ es) others = insert_entry address_cmp (both es others) e.0 e.1

-- the view counts first, then the number of the last entry
abbrev pub outranks : Rank → Rank → Bool
outranks a b = nat_lt b.view a.view || (a.view == b.view && nat_lt b.number a.number)

-- the list of greatest rank, and the first of equals
abbrev pub chosen : List (List (ℕ × Entry)) → List (ℕ × Entry)
chosen [] = []
chosen (list ∷ lists) = if outranks (rank_of (chosen lists)) (rank_of list) then chosen lists else list

-- for each of so many shards the list that counts, from the lists of the peers in their order
abbrev pub chosen_each : ℕ → ℕ → List (List (ℕ × Entry)) → List (List (ℕ × Entry))
chosen_each zero copies lists = []
chosen_each (suc shards) copies lists = chosen (take copies lists) ∷ chosen_each shards copies (drop copies lists)
