-- A stored file is the one file of its key.
use Rattle.std.proofs.Common.{◌≡◌, ◌∙◌, ℕ, ◌≤◌, List, Some, ap, arith, length, subst}
use Rattle.hs_limits.specs.declared.address.Address.{Address}
use Rattle.hs_model.specs.Store.{Root, Store, retained_at}
use Rattle.hs_tree.proofs.LawLemmas.{stored_at}
use Rattle.hs_tree.proofs.OneFileLemmas.{one_file}
use Rattle.hs_tree.specs.Fetching.{IsFileOf, IsNoFile}
use Rattle.hs_tree.specs.Trees.{IsStored, IsTreeAt}

pub stored_is : (name : List ℕ → Address) (s : Store) (key file : List ℕ) → length file ≤ 67108864 → IsStored name s key file → IsFileOf s key file
stored_is name s key file fits h = record { root = h.root; kept = h.kept; fits = fits; tree = stored_at name s key file h }

same_address : (s : Store) (key : List ℕ) (r q : Root) → retained_at s key ≡ Some r → retained_at s key ≡ Some q → r.address ≡ q.address
same_address s key r q h k = let same : r ≡ q = cc (h, k) in ap (λ (z : Root). z.address) same

pub one_of_key : (s : Store) (key f g : List ℕ) → IsFileOf s key f → IsFileOf s key g → f ≡ g
one_of_key s key f g h k =
    let first : length f ≤ 67108864 = h.fits in
    let second : length g ≤ 67108864 = k.fits in
    one_file s h.root.address f g (omega (arith, first)) (omega (arith, second)) h.tree (subst (λ a. IsTreeAt s a g) (same_address s key k.root h.root k.kept h.kept) k.tree)

pub never_none : (name : List ℕ → Address) (s : Store) (key file : List ℕ) (a : Address) → length file ≤ 67108864 → IsStored name s key file → IsNoFile s key a → ⊥
never_none name s key file a fits h k =
    k.none file fits (subst (λ z. IsTreeAt s z file) (same_address s key h.root k.root h.kept k.kept ∙ k.first) (stored_at name s key file h))
