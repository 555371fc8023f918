-- The numbers of present blocks as the core opens.
use Rattle.std.proofs.Common.{◌≡◌, ◌≢◌, ◌⊎◌, ◌∙◌, ap, inl, inr, ℕ, ◌+◌, ◌<◌, ◌≤◌, List, [], ◌∷◌, length, Some, sym, arith, slice_index}
use Rattle.std.proofs.lemmas.Bool.{cases_eq, cases_lt}
use Rattle.std.proofs.lemmas.List.FromFn.{get_or-map-range_with_len}
use Rattle.hs_core_words.specs.Looking.{front_of}
use Rattle.hs_core_words.specs.Opening.{Taken, new_core, taken_group}
use Rattle.hs_fold.specs.Catalogue.{Shard}
use Rattle.hs_fold.specs.Prefix.{GoOn, IsNumbered}
use Rattle.hs_fold.specs.Runs.Catalogue.{apply, apply_all, catalogue_of}
use Rattle.hs_fold.specs.Runs.Facts.{Catalogue as Folded, Facts as FoldedFacts, empty_catalogue, facts_at}
use Rattle.hs_fold.specs.Runs.Fits.{catalogue_at}
use Rattle.hs_fold.specs.Runs.Own.{IsOwn}
use Rattle.hs_fold.specs.Shards.Setting.{Numbered}
use Rattle.hs_fold.proofs.Runs.OwnLemmas.{apply-own, empty-own}
use Rattle.hs_limits.specs.declared.address.Address.{Address}
use Rattle.hs_limits.specs.declared.limits.Limits.{Limits}
use Rattle.hs_limits.specs.declared.shape.Shape.{Shape}
use Rattle.hs_replica.specs.Group.{Group, new_group}
use Rattle.hs_standing.specs.Rests.{AreStored}
use Rattle.hs_standing.proofs.EnterLemmas.{past}
use Rattle.hs_waiting.proofs.WasLemmas.{was-there}

-- the number of each present block is at most this
abbrev AreUpTo : ℕ → Folded → Type 0
AreUpTo n c = (a : Address) (facts : FoldedFacts) → facts_at c a ≡ Some facts → facts.present.number ≤ n

numbers_on : (at : Shard) (n : ℕ) (es : Numbered) (c : Folded) → IsOwn at.shards at.shard c → GoOn n es → AreUpTo n c → AreUpTo (n + length es) (apply_all at c es)
numbers_on at n [] c own numbered old a facts e = let up = old a facts e in omega (arith, up)
numbers_on at n (e ∷ es) c own numbered old a facts found =
    let rest = numbers_on at (n + 1) es (apply at c e) (apply-own at c own e.0 e.1) numbered.2 (λ b f here. next b f here (cases_eq f.present.number e.0)) a facts found in
    omega (arith, rest)
  where
    next : (b : Address) (f : FoldedFacts) → facts_at (apply at c e) b ≡ Some f → (f.present.number ≡ e.0) ⊎ (f.present.number ≢ e.0) → f.present.number ≤ n + 1
    next b f here (inl is) = let first = numbered.0 in omega (arith, is, first)
    next b f here (inr other) =
        let was = was-there at c own b f e.0 e.1 other here in
        let up = old b was.old was.found in
        let same = was.number in
        omega (arith, up, same)

-- what a numbered list amounts to has blocks of its entries alone
pub list_numbers : (at : Shard) (list : Numbered) → IsNumbered list → (a : Address) (facts : FoldedFacts) → facts_at (catalogue_of at list) a ≡ Some facts → facts.present.number ≤ length list
list_numbers at list numbered a facts found =
    let up = numbers_on at 0 list empty_catalogue (empty-own at.shards at.shard) numbered (λ b f here. absurd (cc here)) a facts found in
    omega (arith, up)

front_new : (shape : Shape) (limits : Limits) (found : Taken) (moment g : ℕ) → g < shape.shards → front_of g (new_core shape limits found moment) ≡ slice_index found.lengths g
front_new shape limits found moment g low =
    ap (λ (x : Group). x.front) (get_or-map-range_with_len (taken_group shape found) 0 shape.shards g g (new_group shape g 0 0 []) low (omega arith))

pub stored_new : (cs : List Folded) (shape : Shape) (limits : Limits) (found : Taken) (moment : ℕ) → length cs ≡ shape.shards
    → ((shard : ℕ) → shard < shape.shards → (a : Address) (facts : FoldedFacts) → facts_at (catalogue_at cs shard) a ≡ Some facts → facts.present.number ≤ slice_index found.lengths shard)
    → AreStored (new_core shape limits found moment) cs
stored_new cs shape limits found moment each stored shard a facts at = elim (cases_lt shard shape.shards) [
  | inl low ↦ (let up = stored shard low a facts at in let front = front_new shape limits found moment shard low in omega (arith, up, front))
  | inr high ↦ absurd (nothing (sym (ap (λ (c : Folded). facts_at c a) (past cs shard (omega (arith, high, each)))) ∙ at))
]
  where
    nothing : facts_at empty_catalogue a ≡ Some facts → ⊥
    nothing e = cc e
