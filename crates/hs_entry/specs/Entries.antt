-- Lists of entries, each under its number.
use Rattle.std.specs.Prelude.{◌≡◌, ℕ, ◌<◌, ◌⊎◌, Bool, true, false, IsTrue, List, ◌++◌, fold}
use Rattle.hs_entry.specs.declared.entry.Entry.{Entry}
use Rattle.hs_entry.specs.declared.entry.Entry.TheVariants.{View, Block, Mark, Root, Drop, Enter, Got, Base, KeptBlock, KeptRoot, KeptRound}
use Rattle.hs_entry.specs.declared.rank.Rank.{Rank}

-- a frame that is kept behind a Base
abbrev pub is_kept : Entry → Bool
is_kept (KeptBlock born mark flags count bytes) = true
is_kept (KeptRoot created dropped counted address key) = true
is_kept (KeptRound way other epoch round total deltas) = true
is_kept entry = false

-- a Base, or a frame that is kept behind one
abbrev pub is_of_base : Entry → Bool
is_of_base (Base view epoch swept round frames) = true
is_of_base entry = is_kept entry

-- the view behind an entry: a View or a Base sets it
abbrev pub view_after : ℕ → Entry → ℕ
view_after before (View view) = view
view_after before (Base view epoch swept round frames) = view
view_after before (Block op least bytes) = before
view_after before (Mark op least block address) = before
view_after before (Root op held address key) = before
view_after before (Drop op key) = before
view_after before (Enter op epoch) = before
view_after before (Got sender epoch round total deltas) = before
view_after before (KeptBlock born mark flags count bytes) = before
view_after before (KeptRoot created dropped counted address key) = before
view_after before (KeptRound way other epoch round total deltas) = before

-- the rank behind one frame more: a View or a Base sets the view, and a kept frame is no entry
abbrev pub rank_after : Rank → ℕ → Entry → Rank
rank_after rank number (View view) = record { view = view; number = number }
rank_after rank number (Base view epoch swept round frames) = record { view = view; number = number }
rank_after rank number (KeptBlock born mark flags count bytes) = rank
rank_after rank number (KeptRoot created dropped counted address key) = rank
rank_after rank number (KeptRound way other epoch round total deltas) = rank
rank_after rank number (Block op least bytes) = record { view = rank.view; number = number }
rank_after rank number (Mark op least block address) = record { view = rank.view; number = number }
rank_after rank number (Root op held address key) = record { view = rank.view; number = number }
rank_after rank number (Drop op key) = record { view = rank.view; number = number }
rank_after rank number (Enter op epoch) = record { view = rank.view; number = number }
rank_after rank number (Got sender epoch round total deltas) = record { view = rank.view; number = number }

-- the view of the last View or Base, and the number of the last entry
unfoldable pub rank_of : List (ℕ × Entry) → Rank
rank_of entries = fold (λ rank x. rank_after rank x.0 x.1) (record { view = 0; number = 0 }) entries

-- whether the last frame is a Base or kept behind one
unfoldable pub ends_in_base : List (ℕ × Entry) → Bool
ends_in_base entries = fold (λ ends x. is_of_base x.1) false entries

-- the entry may come next: its number is above the last, or it is a kept frame behind its Base
abbrev pub Follows : List (ℕ × Entry) → ℕ → Entry → Type 0
Follows entries number entry =
    ((rank_of entries).number < number) ⊎ (IsTrue (is_kept entry) × IsTrue (ends_in_base entries))

-- the second list begins with the first
abbrev pub IsPrefix : List (ℕ × Entry) → List (ℕ × Entry) → Type 0
IsPrefix front all = (rest : List (ℕ × Entry)) × (all ≡ front ++ rest)
