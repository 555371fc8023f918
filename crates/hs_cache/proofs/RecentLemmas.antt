-- What is found, and what is kept behind it.
use Rattle.std.proofs.Common.{◌≡◌, ◌∙◌, ◌⊎◌, inl, inr, ap, sym, subst, refl, arith, ℕ, Bool, true, false, List, Option, Some, None, Contains}
use Rattle.std.specs.Map.{lookup}
use Rattle.std.specs.Prelude.{◌==◌, ◌&&◌, IfSome}
use Rattle.hs_cache.specs.Cached.{Cached, Key, cached, is_key, is_same, pairs_of, promoted_at, with_pair}
use Rattle.lru.proofs.CallerLemmas.{Contains-lookup, Contains-promoted, Contains-put_entries}

false_is_not : false ≡ true → ⊥
false_is_not e = cc e

same_number : (a b : ℕ) → (a == b) ≡ true → a ≡ b
same_number a b h = grind arith

both_true : (a b : Bool) → (a && b) ≡ true → (a ≡ true) × (b ≡ true)
both_true true true h = (refl, refl)
both_true true false h = absurd (false_is_not h)
both_true false b h = absurd (false_is_not h)

-- keys that are the same are one
same_key : (a b : Key) → is_same a b ≡ true → a ≡ b
same_key a b h =
    let parts = both_true (a.0 == b.0) (a.1 == b.1) h in
    ap (λ n. (n, a.1)) (same_number a.0 b.0 parts.0) ∙ ap (λ n. (b.0, n)) (same_number a.1 b.1 parts.1)

-- what a look-up finds is kept under its key
pub found_there : (old : Option Cached) (kept : Cached) (shard number : ℕ) (found : Option (List ℕ)) → old ≡ Some kept → found ≡ lookup (is_key shard number) kept.entries
    → IfSome found (λ bytes. Contains (pairs_of old) ((shard, number), bytes))
found_there old kept shard number found is value = go found value
  where
    go : (o : Option (List ℕ)) → o ≡ lookup (is_key shard number) kept.entries → IfSome o (λ bytes. Contains (pairs_of old) ((shard, number), bytes))
    go None e = tt
    go (Some bytes) e =
        let at = Contains-lookup (is_key shard number) kept.entries bytes (sym e) in
        subst (λ o. Contains (pairs_of o) ((shard, number), bytes)) (sym is)
        (subst (λ k. Contains kept.entries (k, bytes)) (sym (same_key (shard, number) at.0 at.2)) at.1)

-- to bring one to the front keeps no more
pub promoted_fewer : (old : Option Cached) (kept after : Cached) (shard number : ℕ) → old ≡ Some kept → after ≡ cached (promoted_at shard number kept.entries) kept.cap
    → (pair : Key × List ℕ) → Contains after.entries pair → Contains (pairs_of old) pair
promoted_fewer old kept after shard number was is = λ pair there.
    subst (λ o. Contains (pairs_of o) pair) (sym was) (Contains-promoted (is_key shard number) kept.entries pair (subst (λ (c : Cached). Contains c.entries pair) is there))

-- what is kept behind one that was put was so before, or is that
pub put_there : (cache : Cached) (shard number : ℕ) (bytes : List ℕ) (pair : Key × List ℕ) → Contains (with_pair shard number bytes cache).entries pair → Contains cache.entries pair ⊎ (pair ≡ ((shard, number), bytes))
put_there cache shard number bytes pair there = elim (Contains-put_entries is_same cache (shard, number) bytes pair there) [
  | inl was ↦ inl was
  | inr put ↦ inr (elim put.1 [
    | inl key ↦ whole pair key put.0
    | inr more ↦ whole pair (sym (same_key (shard, number) pair.0 more.2)) put.0
  ])
]
  where
    whole : (p : Key × List ℕ) → p.0 ≡ (shard, number) → p.1 ≡ bytes → p ≡ ((shard, number), bytes)
    whole p key same = ap (λ (k : Key). (k, p.1)) key ∙ ap (λ (b : List ℕ). ((shard, number), b)) same
