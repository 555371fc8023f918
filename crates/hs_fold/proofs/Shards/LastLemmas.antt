-- The last number of a list that goes on.
use Rattle.std.proofs.Common.{◌≡◌, ℕ, ◌+◌, ◌<◌, ◌≤◌, [], ◌∷◌, ◌++◌, length, fold, refl, ap, ◌∙◌, arith}
use Rattle.std.specs.List.{AllByRecursion}
use Rattle.hs_entry.specs.declared.entry.Entry.{Entry}
use Rattle.hs_entry.specs.declared.rank.Rank.{Rank}
use Rattle.hs_entry.specs.Entries.{rank_after, rank_of}
use Rattle.hs_fold.specs.Prefix.{GoOn, last_of}
use Rattle.hs_fold.specs.Shards.Setting.{Numbered}
use Rattle.hs_fold.proofs.PrefixLemmas.{folded}

abbrev rank_behind : Rank → Numbered → Rank
rank_behind rank es = fold (λ (r : Rank) (x : ℕ × Entry). rank_after r x.0 x.1) rank es

rank-append : (rank : Rank) (xs es : Numbered) → rank_behind rank (xs ++ es) ≡ rank_behind (rank_behind rank xs) es
rank-append rank [] es = refl
rank-append rank (x ∷ xs) es = rank-append (rank_after rank x.0 x.1) xs es

pub last-goes_on : (xs es : Numbered) → GoOn (last_of xs) es → last_of (xs ++ es) ≡ last_of xs + length es
unfolding rank_of
last-goes_on xs es g = ap (λ (r : Rank). r.number) (rank-append (record { view = 0; number = 0 }) xs es) ∙ folded (rank_behind (record { view = 0; number = 0 }) xs) es g

-- a number that goes on is above the start, and no later than the last
pub record Between (low high number : ℕ) : Type 0 where
  pub above : low < number
  pub within : number ≤ high

pub all-between : (low n high : ℕ) (es : Numbered) → low ≤ n → n + length es ≤ high → GoOn n es → AllByRecursion (λ (e : ℕ × Entry). Between low high e.0) es
all-between low n high [] l h g = tt
all-between low n high (e ∷ es) l h g =
    let number : e.0 ≡ n + 1 = g.0 in
    (record { above = omega (arith, number, l); within = omega (arith, number, h) }, all-between low (n + 1) high es (omega (arith, l)) (omega (arith, h)) g.2)
