-- Blocks in a row, and what stays of them.
use Rattle.std.proofs.Common.{◌≡◌, ◌⊎◌, inl, inr, ℕ, ◌+◌, ◌-◌, ◌<◌, ◌≤◌, List, [], ◌∷◌, ◌++◌, zero, suc, Bool, true, false, refl, sym, ap, ◌∙◌, subst, min, length, take, drop, nat_le, arith, tests, append-nil, length-append, length-drop}
use Rattle.std.proofs.lemmas.List.{take-append-drop}
use Rattle.std.specs.Int.{to_be_bytes, w64}
use Rattle.std.specs.List.{AllZip}
use Rattle.hs_asking.specs.Staying.{Stays}
use Rattle.hs_laws.specs.Written.{IsBlockAt}
use Rattle.hs_limits.specs.Block.{Block}
use Rattle.hs_limits.specs.declared.address.Address.{Address}
use Rattle.hs_model.proofs.Members.{Member}
use Rattle.hs_model.specs.Store.{Store}
use Rattle.hs_tree.proofs.PlantLemmas.{block_stays, stays_next}
use Rattle.hs_tree.proofs.RunsLemmas.{runs-cons, runs-one, span-positive, turns_enough}
use Rattle.hs_tree.specs.Rows.{IsRowOf}
use Rattle.hs_tree.specs.Trees.{IsTreeBelow, runs, runs_in, span, stored_cut}

-- ---- both ways between two stores

pub block_was : (s t : Store) (a : Address) (block : Block) → Stays s t a → IsBlockAt t a block → IsBlockAt s a block
block_was s t a block h b = record { stored = b.stored; present = sym (h.blocks [] a refl) ∙ b.present; bytes = b.bytes; pointers = b.pointers }

zip_goes : (R Q : Address → List ℕ → Type 0) (places : List Address) (cs : List (List ℕ)) → ((a : Address) (c : List ℕ) → Member a places → R a c → Q a c) → AllZip R places cs → AllZip Q places cs
zip_goes R Q [] [] f h = tt
zip_goes R Q [] (c ∷ cs) f h = absurd h
zip_goes R Q (a ∷ places) [] f h = absurd h
zip_goes R Q (a ∷ places) (c ∷ cs) f h = (f a c (inl refl) h.0, zip_goes R Q places cs (λ b d m r. f b d (inr m) r) h.1)

pub tree_stays : (s t : Store) (h : ℕ) (a : Address) (file : List ℕ) → Stays s t a → IsTreeBelow s h a file → IsTreeBelow t h a file
unfolding IsTreeBelow
tree_stays s t zero a file stays p = block_stays s t a (record { pointers = []; bytes = file }) stays p
tree_stays s t (suc h) a file stays p =
    let b = p.1 in (
      p.0,
      block_stays s t a (record { pointers = p.0; bytes = to_be_bytes w64 (length file) }) stays p.1,
      zip_goes (IsTreeBelow s h) (IsTreeBelow t h) p.0 (runs (span stored_cut h) file) (λ next c m r. tree_stays s t h next c (stays_next s t a next b.stored stays b.present (subst (λ z. Member next z) (sym b.pointers) m)) r) p.2,
    )

pub tree_was : (s t : Store) (h : ℕ) (a : Address) (file : List ℕ) → Stays s t a → IsTreeBelow t h a file → IsTreeBelow s h a file
unfolding IsTreeBelow
tree_was s t zero a file stays p = block_was s t a (record { pointers = []; bytes = file }) stays p
tree_was s t (suc h) a file stays p =
    let b = block_was s t a (record { pointers = p.0; bytes = to_be_bytes w64 (length file) }) stays p.1 in
    (p.0, b, zip_goes (IsTreeBelow t h) (IsTreeBelow s h) p.0 (runs (span stored_cut h) file) (λ next c m r. tree_was s t h next c (stays_next s t a next b.stored stays b.present (subst (λ z. Member next z) (sym b.pointers) m)) r) p.2)

row_goes : (s t : Store) (h : ℕ) (places : List Address) (left : ℕ) (file : List ℕ) → ((a : Address) (c : List ℕ) → Member a places → IsTreeBelow s h a c → IsTreeBelow t h a c) → IsRowOf s h places left file → IsRowOf t h places left file
unfolding IsRowOf
row_goes s t h [] left file f r = r
row_goes s t h (a ∷ places) left file f r = (r.0, r.1, r.2, r.3, r.4, f a r.0 (inl refl) r.5, row_goes s t h places (left - length r.0) r.1 (λ b c m x. f b c (inr m) x) r.6)

pub row_stays : (s t : Store) (h : ℕ) (places : List Address) (left : ℕ) (file : List ℕ) → ((a : Address) → Member a places → Stays s t a) → IsRowOf s h places left file → IsRowOf t h places left file
row_stays s t h places left file stays r = row_goes s t h places left file (λ a c m x. tree_stays s t h a c (stays a m) x) r

pub row_was : (s t : Store) (h : ℕ) (places : List Address) (left : ℕ) (file : List ℕ) → ((a : Address) → Member a places → Stays s t a) → IsRowOf t h places left file → IsRowOf s h places left file
row_was s t h places left file stays r = row_goes t s h places left file (λ a c m x. tree_was s t h a c (stays a m) x) r

-- ---- a row and the runs of a file

take-length : {A : Type 0} (n : ℕ) (xs : List A) → length (take n xs) ≡ min (length xs) n
take-length zero xs = omega arith
take-length (suc n) [] = omega arith
take-length (suc n) (x ∷ xs) = let k : length (take n xs) ≡ min (length xs) n = take-length n xs in omega (arith, k)

pub row_from_runs : (s : Store) (h : ℕ) (places : List Address) (file : List ℕ) → AllZip (IsTreeBelow s h) places (runs (span stored_cut h) file) → IsRowOf s h places (length file) file
unfolding IsRowOf runs
row_from_runs s h [] [] z = (refl, refl)
row_from_runs s h [] (x ∷ xs) z = absurd z
row_from_runs s h (a ∷ places) [] z = absurd z
row_from_runs s h (a ∷ places) (x ∷ xs) z =
    let n : ℕ = span stored_cut h in
    let p : 0 < n = span-positive h in
    let c : List ℕ = take n (x ∷ xs) in
    let d : List ℕ = drop n (x ∷ xs) in
    let long : length c ≡ min (length (x ∷ xs)) n = take-length n (x ∷ xs) in
    let rest : length d ≡ length (x ∷ xs) - n = length-drop n (x ∷ xs) in
    let turns : runs_in (length xs) n d ≡ runs_in (length d) n d = turns_enough (length xs) (length d) n d p (omega (arith, rest, p)) (omega arith) in
    let below : AllZip (IsTreeBelow s h) places (runs_in (length d) n d) = subst (λ y. AllZip (IsTreeBelow s h) places y) turns z.1 in
    let left : length d ≡ length (x ∷ xs) - length c = omega (arith, rest, long) in
    (c, d, omega arith, sym (take-append-drop n (x ∷ xs)), long, z.0, subst (λ y. IsRowOf s h places y d) left (row_from_runs s h places d below))

pub runs_from_row : (s : Store) (h : ℕ) (places : List Address) (left : ℕ) (file : List ℕ) → IsRowOf s h places left file → (length file ≡ left) × AllZip (IsTreeBelow s h) places (runs (span stored_cut h) file)
unfolding IsRowOf
runs_from_row s h [] left file r =
    let none : length file ≡ 0 = ap (λ z. length z) r.1 in
    let zero_left : left ≡ 0 = r.0 in
    (omega (arith, none, zero_left), subst (λ z. AllZip (IsTreeBelow s h) [] (runs (span stored_cut h) z)) (sym r.1) (no_runs (span stored_cut h)))
  where
    no_runs : (n : ℕ) → AllZip (IsTreeBelow s h) [] (runs n [])
    no_runs n = unfold runs in tt
runs_from_row s h (a ∷ places) left file r =
    let n : ℕ = span stored_cut h in
    let p : 0 < n = span-positive h in
    let c : List ℕ = r.0 in
    let more : List ℕ = r.1 in
    let some : 0 < left = r.2 in
    let long : length c ≡ min left n = r.4 in
    let rest = runs_from_row s h places (left - length c) more r.6 in
    let rest_length : length more ≡ left - length c = rest.0 in
    let both : length (c ++ more) ≡ length c + length more = length-append c more in
    let whole : length file ≡ length (c ++ more) = ap (λ z. length z) r.3 in (
      omega (arith, whole, both, rest_length, long),
      subst (λ z. AllZip (IsTreeBelow s h) (a ∷ places) z) (sym (ap (λ z. runs n z) r.3 ∙ split n c more p (omega (arith, long, some, p)) (omega (arith, long)) (short left n c more long rest_length))) (r.5, rest.1),
    )
  where
    short : (left n : ℕ) (c more : List ℕ) → length c ≡ min left n → length more ≡ left - length c → (length c ≡ n) ⊎ (length more ≡ 0)
    short left n c more long rest = go (nat_le n left) refl
      where
        go : (b : Bool) → nat_le n left ≡ b → (length c ≡ n) ⊎ (length more ≡ 0)
        go true e = let k : n ≤ left = grind (arith, tests, e) in inl (omega (arith, long, k))
        go false e = let k : left < n = grind (arith, tests, e) in inr (omega (arith, long, rest, k))

    split : (n : ℕ) (c more : List ℕ) → 0 < n → 0 < length c → length c ≤ n → (length c ≡ n) ⊎ (length more ≡ 0) → runs n (c ++ more) ≡ c ∷ runs n more
    split n c more p some most (inl full) = runs-cons n c more p full
    split n c [] p some most (inr none) = ap (λ z. runs n z) (append-nil c) ∙ (runs-one n c some most ∙ ap (λ z. c ∷ z) (unfold runs in refl))
    split n c (x ∷ xs) p some most (inr none) = absurd (omega (arith, none))
