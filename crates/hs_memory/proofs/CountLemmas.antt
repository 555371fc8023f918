-- Addresses that are counted in either order.
use Rattle.std.proofs.Common.{◌≡◌, ℕ, ◌+◌, List, [], ◌∷◌, Bool, true, false, cond, Some, None, refl, sym, ap, subst, ◌∙◌, unwrap_or, Ordering, Less, Equal, Greater, is_eq}
use Rattle.std.specs.BTreeMap.{insert_entry, is_at}
use Rattle.std.specs.Map.{lookup}
use Rattle.std.specs.Ordering.{match_ordering}
use Rattle.hs_fold.specs.Runs.Told.{counted_up}
use Rattle.hs_fold.specs.Runs.Told.{tally as fold_tally}
use Rattle.hs_fold.proofs.Shards.BlockLemmas.{insert-commute}
use Rattle.hs_limits.specs.declared.address.Address.{Address}
use Rattle.hs_model.specs.Reach.{is_same}
use Rattle.hs_model.specs.Store.{address_cmp}
use Rattle.hs_model.proofs.Members.{at_is_same, same_from}
use Rattle.hs_model.proofs.SetLemmas.{same-sym}
use Rattle.hs_shard.specs.Tally.{count_all, deltas_of, one_more, tally}
use Rattle.hs_shard.proofs.FoundLemmas.{same_at}

-- what is put at one address is not found at another
lookup_other : (a b : Address) (v : ℕ) (es : List (Address × ℕ)) → is_at (address_cmp a) b ≡ false → lookup (is_at (address_cmp a)) (insert_entry address_cmp es b v) ≡ lookup (is_at (address_cmp a)) es
lookup_other a b v [] e = ap (λ (t : Bool). cond t (Some v) None) e
lookup_other a b v (x ∷ es) e = go (lookup_other a b v es e) (address_cmp b x.0) refl
  where
    go : lookup (is_at (address_cmp a)) (insert_entry address_cmp es b v) ≡ lookup (is_at (address_cmp a)) es → (o : Ordering) → address_cmp b x.0 ≡ o
        → lookup (is_at (address_cmp a)) (match_ordering o ((b, v) ∷ x ∷ es) ((x.0, v) ∷ es) (x ∷ insert_entry address_cmp es b v)) ≡ lookup (is_at (address_cmp a)) (x ∷ es)
    go ih Less s = ap (λ (t : Bool). cond t (Some v) (lookup (is_at (address_cmp a)) (x ∷ es))) e
    go ih Equal s =
        let other : is_at (address_cmp a) x.0 ≡ false = subst (λ z. is_at (address_cmp a) z ≡ false) (same_at b x.0 (ap is_eq s)) e in
        ap (λ (t : Bool). cond t (Some v) (lookup (is_at (address_cmp a)) es)) other ∙ sym (ap (λ (t : Bool). cond t (Some x.1) (lookup (is_at (address_cmp a)) es)) other)
    go ih Greater s = ap (λ found. cond (is_at (address_cmp a) x.0) (Some x.1) found) ih

count_of : Address → List (Address × ℕ) → ℕ
count_of a counts = unwrap_or (lookup (is_at (address_cmp a)) counts) 0 + 1

one_more-commute : (a b : Address) (counts : List (Address × ℕ)) → one_more a (one_more b counts) ≡ one_more b (one_more a counts)
unfolding count_of
one_more-commute a b counts = go (is_same a b) refl
  where
    go : (s : Bool) → is_same a b ≡ s → one_more a (one_more b counts) ≡ one_more b (one_more a counts)
    go true s = subst (λ z. one_more a (one_more z counts) ≡ one_more z (one_more a counts)) (same_from a b s) refl
    go false s =
        let back : is_same b a ≡ false = same-sym b a ∙ s in
        ap (λ found. insert_entry address_cmp (one_more b counts) a (unwrap_or found 0 + 1)) (lookup_other a b (count_of b counts) counts (at_is_same a b ∙ s))
        ∙ insert-commute counts b a (count_of b counts) (count_of a counts) back
        ∙ sym (ap (λ found. insert_entry address_cmp (one_more a counts) b (unwrap_or found 0 + 1)) (lookup_other b a (count_of a counts) counts (at_is_same b a ∙ back)))

count_out : (xs : List Address) (a : Address) (counts : List (Address × ℕ)) → count_all xs (one_more a counts) ≡ one_more a (count_all xs counts)
count_out [] a counts = refl
count_out (x ∷ xs) a counts = ap (λ cs. count_all xs cs) (one_more-commute x a counts) ∙ count_out xs a (one_more x counts)

counted_alike : (xs : List Address) → count_all xs [] ≡ counted_up xs
counted_alike [] = refl
counted_alike (x ∷ xs) = count_out xs x [] ∙ ap (λ cs. one_more x cs) (counted_alike xs)

-- both tallies are one
pub tally_alike : (xs : List Address) → tally xs ≡ fold_tally xs
tally_alike xs = ap deltas_of (counted_alike xs)
