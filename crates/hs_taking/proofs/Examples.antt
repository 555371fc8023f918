-- Two copies of a shard, of which the second has the greater view: it stays the one that counts while the first becomes a front of it.
use Rattle.std.proofs.Common.{◌≡◌, [], ◌∷◌, take, refl}
use Rattle.hs_entry.specs.declared.entry.Entry.TheVariants as kind
use Rattle.hs_entry.specs.Entries.{rank_of}
use Rattle.hs_fold.specs.Opened.{chosen}
use Rattle.hs_fold.specs.Shards.Setting.{Numbered}

-- three entries of the first view, and two of which the last begins the second
abbrev old_list : Numbered
old_list = (1, kind.View 1) ∷ (2, kind.Enter 1 1) ∷ (3, kind.Enter 2 1) ∷ []

abbrev new_list : Numbered
new_list = (1, kind.View 1) ∷ (2, kind.View 2) ∷ []

as_they_were : chosen (old_list ∷ new_list ∷ []) ≡ new_list
unfolding rank_of
as_they_were = refl

emptied : chosen (take 0 new_list ∷ new_list ∷ []) ≡ new_list
unfolding rank_of
emptied = refl

with_one_entry : chosen (take 1 new_list ∷ new_list ∷ []) ≡ new_list
unfolding rank_of
with_one_entry = refl

made_equal : chosen (take 2 new_list ∷ new_list ∷ []) ≡ new_list
unfolding rank_of
made_equal = refl

-- were its disk blank, the front would count
without_the_taken_one : chosen (take 1 new_list ∷ [] ∷ []) ≡ take 1 new_list
unfolding rank_of
without_the_taken_one = refl
