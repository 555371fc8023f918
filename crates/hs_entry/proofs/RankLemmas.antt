-- The rank behind one entry more.
use Rattle.std.proofs.Common.{◌≡◌, ℕ, List, [], ◌∷◌, ◌++◌, false, refl}
use Rattle.std.proofs.lemmas.List.Sums.{fold-append}
use Rattle.hs_entry.specs.declared.entry.Entry.{Entry}
use Rattle.hs_entry.specs.declared.entry.Entry.TheVariants.{View, Block, Mark, Root, Drop, Enter, Got, Base, KeptBlock, KeptRoot, KeptRound}
use Rattle.hs_entry.specs.declared.rank.Rank.{Rank}
use Rattle.hs_entry.specs.Entries.{is_of_base, view_after, rank_after, rank_of}

-- of an ordinary entry it is its view and its number
pub rank_plain : (rank : Rank) (number : ℕ) (entry : Entry) → is_of_base entry ≡ false → rank_after rank number entry ≡ record { view = view_after rank.view entry; number = number }
rank_plain rank number (View view) f = refl
rank_plain rank number (Block op least bytes) f = refl
rank_plain rank number (Mark op least block address) f = refl
rank_plain rank number (Root op held address key) f = refl
rank_plain rank number (Drop op key) f = refl
rank_plain rank number (Enter op epoch) f = refl
rank_plain rank number (Got sender epoch round total deltas) f = refl
rank_plain rank number (Base view epoch swept round frames) f = absurd cc
rank_plain rank number (KeptBlock born mark flags count bytes) f = absurd cc
rank_plain rank number (KeptRoot created dropped counted address key) f = absurd cc
rank_plain rank number (KeptRound way other epoch round total deltas) f = absurd cc

pub rank_more : (entries : List (ℕ × Entry)) (number : ℕ) (entry : Entry) → rank_of (entries ++ (number, entry) ∷ []) ≡ rank_after (rank_of entries) number entry
unfolding rank_of
rank_more entries number entry = fold-append (λ rank x. rank_after rank x.0 x.1) (record { view = 0; number = 0 }) entries ((number, entry) ∷ [])
