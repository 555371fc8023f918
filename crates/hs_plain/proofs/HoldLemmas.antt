-- Addresses that a session holds one after another.
use Rattle.std.proofs.Common.{◌≡◌, ℕ, ◌+◌, ◌<◌, ◌≤◌, List, [], ◌∷◌, ◌++◌, length, get_or, drop, refl, sym, ap, ◌∙◌}
use Rattle.std.proofs.lemmas.List.FromFn.{map-range_with_len_more}
use Rattle.std.specs.List.{range_with_len}
use Rattle.std.proofs.lemmas.List.{at_drop_more, at_drop_all, map-id}
use Rattle.hs_limits.specs.declared.address.Address.{Address}
use Rattle.hs_model.specs.Store.{Session, holding, holding_all, helds_of}

pub holds_one_more : (addresses : List Address) (epoch : ℕ) (session : Session) (i : ℕ) (d : Address) → i < length addresses → holding_all (helds_of (drop i addresses) epoch) session ≡ holding_all (helds_of (drop (i + 1) addresses) epoch) (holding (record { address = get_or addresses i d; epoch = epoch }) session)
unfolding helds_of
holds_one_more addresses epoch session i d h =
    at_drop_more (λ (xs : List Address). holding_all (helds_of xs epoch) session) addresses i d h

pub holds_no_more : (addresses : List Address) (epoch : ℕ) (session : Session) (i : ℕ) → length addresses ≤ i → holding_all (helds_of (drop i addresses) epoch) session ≡ session
unfolding helds_of
holds_no_more addresses epoch session i h =
    at_drop_all (λ (xs : List Address). holding_all (helds_of xs epoch) session) addresses i h

-- one number more
pub range_one_more : (a n : ℕ) → range_with_len a (n + 1) ≡ range_with_len a n ++ (a + n) ∷ []
range_one_more a n =
    sym (map-id (range_with_len a (n + 1))) ∙ map-range_with_len_more (λ (k : ℕ). k) a n (a + n) refl ∙ ap (λ (xs : List ℕ). xs ++ (a + n) ∷ []) (map-id (range_with_len a n))
