-- A tree is of one file.
use Rattle.std.proofs.Common.{◌≡◌, ℕ, ◌-◌, ◌<◌, ◌≤◌, ◌^◌, List, [], ◌∷◌, ◌++◌, zero, suc, Some, refl, sym, ap, ◌∙◌, subst, length, take, drop, arith, length-drop}
use Rattle.std.proofs.lemmas.List.{take-append-drop}
use Rattle.std.proofs.lemmas.Nat.{from_be_bytes-to_be_bytes_8}
use Rattle.std.specs.Int.{from_be_bytes, to_be_bytes, w64}
use Rattle.std.specs.List.{AllZip, concat}
use Rattle.hs_laws.specs.Written.{IsBlockAt}
use Rattle.hs_limits.specs.Block.{Block}
use Rattle.hs_limits.specs.declared.address.Address.{Address}
use Rattle.hs_model.specs.Store.{Store, block_at}
use Rattle.hs_model.specs.declared.store.StoredBlock.{StoredBlock}
use Rattle.hs_tree.proofs.RunsLemmas.{height-0, span-positive}
use Rattle.hs_tree.specs.Trees.{IsTreeAt, IsTreeBelow, height, runs, runs_in, span, stored_cut}

-- ---- runs joined are the list

joined_in : (turns n : ℕ) (xs : List ℕ) → 0 < n → length xs ≤ turns → concat (runs_in turns n xs) ≡ xs
joined_in turns n [] p h = refl
joined_in zero n (x ∷ xs) p h = absurd (omega (arith, h))
joined_in (suc turns) n (x ∷ xs) p h =
    let shorter : length (drop n (x ∷ xs)) ≡ length (x ∷ xs) - n = length-drop n (x ∷ xs) in
    ap (λ z. take n (x ∷ xs) ++ z) (joined_in turns n (drop n (x ∷ xs)) p (omega (arith, shorter, h, p))) ∙ take-append-drop n (x ∷ xs)

pub runs-joined : (n : ℕ) (xs : List ℕ) → 0 < n → concat (runs n xs) ≡ xs
unfolding runs
runs-joined n xs p = joined_in (length xs) n xs p (omega arith)

-- ---- one block at an address

pub same_block : (s : Store) (a : Address) (b c : Block) → IsBlockAt s a b → IsBlockAt s a c → (b.bytes ≡ c.bytes) × (b.pointers ≡ c.pointers)
same_block s a b c h k =
    let p : block_at s a ≡ Some h.stored = h.present in
    let q : block_at s a ≡ Some k.stored = k.present in
    let same : h.stored ≡ k.stored = cc (p, q) in
    (sym h.bytes ∙ (ap (λ (z : StoredBlock). z.bytes) same ∙ k.bytes), sym h.pointers ∙ (ap (λ (z : StoredBlock). z.pointers) same ∙ k.pointers))

-- ---- one file at a height

zip_same : (R : Address → List ℕ → Type 0) → ((a : Address) (f g : List ℕ) → R a f → R a g → f ≡ g) → (places : List Address) (fs gs : List (List ℕ)) → AllZip R places fs → AllZip R places gs → fs ≡ gs
zip_same R one [] [] [] h k = refl
zip_same R one [] [] (g ∷ gs) h k = absurd k
zip_same R one [] (f ∷ fs) gs h k = absurd h
zip_same R one (a ∷ places) [] gs h k = absurd h
zip_same R one (a ∷ places) (f ∷ fs) [] h k = absurd k
zip_same R one (a ∷ places) (f ∷ fs) (g ∷ gs) h k =
    let here : f ≡ g = one a f g h.0 k.0 in
    let rest : fs ≡ gs = zip_same R one places fs gs h.1 k.1 in
    λ i. here i ∷ rest i

pub below_same : (s : Store) (h : ℕ) (a : Address) (f g : List ℕ) → IsTreeBelow s h a f → IsTreeBelow s h a g → f ≡ g
unfolding IsTreeBelow
below_same s zero a f g p q = (same_block s a (record { pointers = []; bytes = f }) (record { pointers = []; bytes = g }) p q).0
below_same s (suc h) a f g p q =
    let n : ℕ = span stored_cut h in
    let pointers : p.0 ≡ q.0 = (same_block s a (record { pointers = p.0; bytes = to_be_bytes w64 (length f) }) (record { pointers = q.0; bytes = to_be_bytes w64 (length g) }) p.1 q.1).1 in
    let there : AllZip (IsTreeBelow s h) p.0 (runs n g) = subst (λ z. AllZip (IsTreeBelow s h) z (runs n g)) (sym pointers) q.2 in
    let same : runs n f ≡ runs n g = zip_same (IsTreeBelow s h) (λ b c d x y. below_same s h b c d x y) p.0 (runs n f) (runs n g) p.2 there in
    sym (runs-joined n f (span-positive h)) ∙ (ap (λ z. concat z) same ∙ runs-joined n g (span-positive h))

-- ---- one file

-- a tree that is more than a piece has a pointer
no_pointer : (s : Store) (h : ℕ) (a : Address) (f g : List ℕ) → 0 < length g → IsTreeBelow s 0 a f → IsTreeBelow s (suc h) a g → ⊥
unfolding IsTreeBelow runs
no_pointer s h a f [] p x y = absurd (omega (arith, p))
no_pointer s h a f (b ∷ bs) p x y =
    let pointers : [] ≡ y.0 = (same_block s a (record { pointers = []; bytes = f }) (record { pointers = y.0; bytes = to_be_bytes w64 (length (b ∷ bs)) }) x y.1).1 in
    subst (λ z. AllZip (IsTreeBelow s h) z (runs_in (length (b ∷ bs)) (span stored_cut h) (b ∷ bs))) (sym pointers) y.2

some_bytes : (h : ℕ) (g : List ℕ) → height stored_cut (length g) ≡ suc h → 0 < length g
some_bytes h [] e = let z : height stored_cut 0 ≡ 0 = height-0 0 (omega arith) in absurd (omega (arith, z, e))
some_bytes h (b ∷ bs) e = omega arith

same_length : (s : Store) (h k : ℕ) (a : Address) (f g : List ℕ) → length f < 2 ^ 64 → length g < 2 ^ 64 → IsTreeBelow s (suc h) a f → IsTreeBelow s (suc k) a g → length f ≡ length g
unfolding IsTreeBelow
same_length s h k a f g m n p q =
    let bytes : to_be_bytes w64 (length f) ≡ to_be_bytes w64 (length g) = (same_block s a (record { pointers = p.0; bytes = to_be_bytes w64 (length f) }) (record { pointers = q.0; bytes = to_be_bytes w64 (length g) }) p.1 q.1).0 in
    sym (from_be_bytes-to_be_bytes_8 (length f) m) ∙ (ap (λ z. from_be_bytes w64 z) bytes ∙ from_be_bytes-to_be_bytes_8 (length g) n)

pub one_file : (s : Store) (a : Address) (f g : List ℕ) → length f < 2 ^ 64 → length g < 2 ^ 64 → IsTreeAt s a f → IsTreeAt s a g → f ≡ g
one_file s a f g m n p q = go (height stored_cut (length f)) refl (height stored_cut (length g)) refl p q
  where
    go : (h : ℕ) → height stored_cut (length f) ≡ h → (k : ℕ) → height stored_cut (length g) ≡ k → IsTreeBelow s h a f → IsTreeBelow s k a g → f ≡ g
    go zero e zero d x y = below_same s zero a f g x y
    go zero e (suc k) d x y = absurd (no_pointer s k a f g (some_bytes k g d) x y)
    go (suc h) e zero d x y = absurd (no_pointer s h a g f (some_bytes h f e) y x)
    go (suc h) e (suc k) d x y =
        let lengths : length f ≡ length g = same_length s h k a f g m n x y in
        let levels : suc k ≡ suc h = sym d ∙ (ap (λ z. height stored_cut z) (sym lengths) ∙ e) in
        below_same s (suc h) a f g x (subst (λ z. IsTreeBelow s z a g) levels y)
