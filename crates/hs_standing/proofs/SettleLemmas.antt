-- What took effect of the lists of all shards, shard by shard.
use Rattle.std.proofs.Common.{◌≡◌, ◌∙◌, ap, ℕ, zero, suc, ◌+◌, ◌<◌, ◌≤◌, List, [], ◌∷◌, refl, arith, length, take}
use Rattle.std.specs.List.{AllByRecursion}
use Rattle.std.specs.Prelude.{slice_index_or}
use Rattle.hs_answered.specs.Standing.{forget_all}
use Rattle.hs_fold.specs.Lawful.{Deed, list_at}
use Rattle.hs_fold.specs.Runs.Catalogue.{catalogue_of}
use Rattle.hs_fold.specs.Runs.Facts.{Catalogue as Folded}
use Rattle.hs_fold.specs.Runs.Fits.{catalogue_at}
use Rattle.hs_fold.specs.Runs.History.{FitAll, follow}
use Rattle.hs_fold.specs.Runs.Opened.{catalogues}
use Rattle.hs_fold.specs.Shards.Setting.{Setting, shard_in}
use Rattle.hs_limits.specs.declared.shape.Shape.{Shape}
use Rattle.hs_memory.specs.Forget.{forget}
use Rattle.hs_shard.specs.Facts.{Catalogue}
use Rattle.hs_standing.specs.Lists.{Lists, settled_from}

zero_right : (a : ℕ) → a ≡ a + 0
zero_right a = omega arith

shift : (a b : ℕ) → a + 1 + b ≡ a + suc b
shift a b = omega arith

zero_left : (a : ℕ) → 0 + a ≡ a
zero_left a = omega arith

-- ---- lists

settled_from_at : (lists : Lists) (k n j : ℕ) → j < n → list_at (settled_from lists k n) j ≡ take (lists.front (k + j)) (lists.whole (k + j))
settled_from_at lists k zero j low = absurd (omega (arith, low))
settled_from_at lists k (suc n) zero low = ap (λ m. take (lists.front m) (lists.whole m)) (zero_right k)
settled_from_at lists k (suc n) (suc j) low = settled_from_at lists (k + 1) n j (omega (arith, low)) ∙ ap (λ m. take (lists.front m) (lists.whole m)) (shift k j)

pub settled_at : (lists : Lists) (n shard : ℕ) → shard < n → list_at (settled_from lists 0 n) shard ≡ take (lists.front shard) (lists.whole shard)
settled_at lists n shard low = settled_from_at lists 0 n shard low ∙ ap (λ m. take (lists.front m) (lists.whole m)) (zero_left shard)

-- the same took effect of other lists
pub settled_alike : (one other : Lists) (k n : ℕ) → ((j : ℕ) → j < k + n → take (one.front j) (one.whole j) ≡ take (other.front j) (other.whole j)) → settled_from one k n ≡ settled_from other k n
settled_alike one other k zero same = refl
settled_alike one other k (suc n) same =
    let here = same k (omega arith) in
    let rest = settled_alike one other (k + 1) n (λ j low. same j (omega (arith, low))) in
    λ i. here i ∷ rest i

-- ---- catalogues

catalogues_from : (set : Setting) (lists : Lists) (k n j : ℕ) → j < n → catalogue_at (catalogues set k (settled_from lists k n)) j ≡ catalogue_of (shard_in set (k + j)) (take (lists.front (k + j)) (lists.whole (k + j)))
catalogues_from set lists k zero j low = absurd (omega (arith, low))
catalogues_from set lists k (suc n) zero low = ap (λ m. catalogue_of (shard_in set m) (take (lists.front m) (lists.whole m))) (zero_right k)
catalogues_from set lists k (suc n) (suc j) low =
    catalogues_from set lists (k + 1) n j (omega (arith, low)) ∙ ap (λ m. catalogue_of (shard_in set m) (take (lists.front m) (lists.whole m))) (shift k j)

pub folds_at : (set : Setting) (lists : Lists) (shard : ℕ) → shard < set.shape.shards → catalogue_at (catalogues set 0 (settled_from lists 0 set.shape.shards)) shard ≡ catalogue_of (shard_in set shard) (take (lists.front shard) (lists.whole shard))
folds_at set lists shard low =
    catalogues_from set lists 0 set.shape.shards shard low ∙ ap (λ m. catalogue_of (shard_in set m) (take (lists.front m) (lists.whole m))) (zero_left shard)

forget_from : (shape : Shape) (k : ℕ) (cs : List Folded) (j : ℕ) → j < length cs → (none : Catalogue) → slice_index_or (forget_all shape k cs) j none ≡ forget shape (k + j) (catalogue_at cs j)
forget_from shape k [] j low none = absurd (omega (arith, low))
forget_from shape k (c ∷ cs) zero low none = ap (λ m. forget shape m c) (zero_right k)
forget_from shape k (c ∷ cs) (suc j) low none = forget_from shape (k + 1) cs j (omega (arith, low)) none ∙ ap (λ m. forget shape m (catalogue_at cs j)) (shift k j)

pub forget_at : (shape : Shape) (cs : List Folded) (shard : ℕ) → shard < length cs → (none : Catalogue) → slice_index_or (forget_all shape 0 cs) shard none ≡ forget shape shard (catalogue_at cs shard)
forget_at shape cs shard low none = forget_from shape 0 cs shard low none ∙ ap (λ m. forget shape m (catalogue_at cs shard)) (zero_left shard)

-- ---- numbers of a history

-- they are within other fronts too, where these are the same for each shard
pub within_as : (set : Setting) (cs : List Folded) (deeds : List Deed) (front other : ℕ → ℕ) → FitAll set cs deeds → ((shard : ℕ) → shard < set.shape.shards → front shard ≤ other shard)
    → AllByRecursion (λ (d : Deed). d.number ≤ front d.shard) deeds → AllByRecursion (λ (d : Deed). d.number ≤ other d.shard) deeds
within_as set cs [] front other fits up h = tt
within_as set cs (d ∷ deeds) front other fits up h = ((let low = h.0 in let more = up d.shard fits.0 in omega (arith, low, more)), within_as set (follow set cs d) deeds front other fits.2 up h.1)
