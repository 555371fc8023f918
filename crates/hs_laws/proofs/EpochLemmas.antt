-- The least epoch.
use Rattle.std.proofs.Common.{◌≡◌, ℕ, ◌<◌, ◌≤◌, List, [], ◌∷◌, zero, suc, length, true, refl, arith, slice_index, nat_le, tests}
use Rattle.std.proofs.lemmas.Bool.{and_parts, and_from}
use Rattle.std.proofs.lemmas.Grind.{common_steps}
use Rattle.std.specs.List.{list_all}
use Rattle.hs_model.specs.Inner.{none_below}
use Rattle.hs_model.specs.Store.{Store}
use Rattle.hs_laws.specs.Valid.{least_of, least_epoch}

pub nat_le_from : (a b : ℕ) → nat_le a b ≡ true → a ≤ b
nat_le_from a b h = grind (arith, tests, h)

pub nat_le-true : (a b : ℕ) → a ≤ b → nat_le a b ≡ true
nat_le-true a b h = grind (arith, tests, h)

least-first : (first : ℕ) (ns : List ℕ) → least_of first ns ≤ first
least-first first [] = omega arith
least-first first (n ∷ ns) = omega (arith, least-first first ns)

least-at : (first : ℕ) (ns : List ℕ) (i : ℕ) → i < length ns → least_of first ns ≤ slice_index ns i
least-at first [] i h = absurd (omega (arith, h))
least-at first (n ∷ ns) zero h = omega arith
least-at first (n ∷ ns) (suc i) h = omega (arith, least-at first ns i (grind (arith, common_steps, h)))

all-at : (n : ℕ) (ns : List ℕ) (i : ℕ) → list_all (λ e. nat_le n e) ns ≡ true → i < length ns → n ≤ slice_index ns i
all-at n [] i t h = absurd (omega (arith, h))
all-at n (m ∷ ns) zero t h = nat_le_from n m (and_parts (nat_le n m) (list_all (λ e. nat_le n e) ns) t).0
all-at n (m ∷ ns) (suc i) t h = all-at n ns i (and_parts (nat_le n m) (list_all (λ e. nat_le n e) ns) t).1 (grind (arith, common_steps, h))

all_from_at : (n : ℕ) (ns : List ℕ) → ((i : ℕ) → i < length ns → n ≤ slice_index ns i) → list_all (λ e. nat_le n e) ns ≡ true
all_from_at n [] f = refl
all_from_at n (m ∷ ns) f = and_from (nat_le n m) (list_all (λ e. nat_le n e) ns) (nat_le-true n m (f 0 (grind (arith, common_steps)))) (all_from_at n ns (λ i h. f (suc i) (grind (arith, common_steps, h))))

least-greatest : (first : ℕ) (ns : List ℕ) (n : ℕ) → n ≤ first → ((i : ℕ) → i < length ns → n ≤ slice_index ns i) → n ≤ least_of first ns
least-greatest first [] n h f = h
least-greatest first (m ∷ ns) n h f =
    let here : n ≤ m = f 0 (grind (arith, common_steps)) in
    let rest : n ≤ least_of first ns = least-greatest first ns n h (λ i l. f (suc i) (grind (arith, common_steps, l))) in
    omega (arith, here, rest)

pub least_epoch-at : (s : Store) (shard : ℕ) → shard < length s.epochs → least_epoch s ≤ slice_index s.epochs shard
least_epoch-at s shard h = least-at (slice_index s.epochs 0) s.epochs shard h

pub least_epoch-greatest : (s : Store) (n : ℕ) → 0 < length s.epochs → ((i : ℕ) → i < length s.epochs → n ≤ slice_index s.epochs i) → n ≤ least_epoch s
least_epoch-greatest s n h f = least-greatest (slice_index s.epochs 0) s.epochs n (f 0 h) f

pub least_from_none_below : (s : Store) (n : ℕ) → 0 < length s.epochs → none_below s n ≡ true → n ≤ least_epoch s
least_from_none_below s n h t = least_epoch-greatest s n h (λ i l. all-at n s.epochs i t l)

pub none_below_from_least : (s : Store) (n : ℕ) → n ≤ least_epoch s → none_below s n ≡ true
none_below_from_least s n h = all_from_at n s.epochs (λ i l. omega (arith, h, least_epoch-at s i l))
