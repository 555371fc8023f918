-- Lists made sender by sender.
use Rattle.std.proofs.Common.{◌≡◌, ◌≢◌, ℕ, zero, suc, ◌+◌, ◌-◌, ◌<◌, ◌≤◌, List, [], ◌++◌, length, take, drop, ap, ap₂, sym, ◌∙◌, refl, arith, append_assoc, append-nil, length-append}
use Rattle.std.proofs.Math.Seq.{drop-append_seam, take-append_seam}
use Rattle.std.specs.List.{flat_map, range_with_len}
use Rattle.hs_rounds.specs.Steps.{moved}

module _ {A : Type 0} where
  abbrev pub each : (ℕ → List A) → ℕ → ℕ → List A
  each f a n = flat_map f (range_with_len a n)

  -- some first, and then the others
  pub each_parts : (f : ℕ → List A) (a n m : ℕ) → each f a (n + m) ≡ each f a n ++ each f (a + n) m
  each_parts f a zero m = let at : a + 0 ≡ a = omega arith in let all : 0 + m ≡ m = omega arith in rw (at, all) refl
  each_parts f a (suc n) m =
      let all : suc n + m ≡ suc (n + m) = omega arith in
      let at : a + suc n ≡ (a + 1) + n = omega arith in
      rw (all, at) (ap (λ rest. f a ++ rest) (each_parts f (a + 1) n m) ∙ sym (append_assoc (f a) (each f (a + 1) n) (each f ((a + 1) + n) m)))

  -- the first, and then the others
  pub each_first : (f : ℕ → List A) (a m : ℕ) → each f a (1 + m) ≡ f a ++ each f (a + 1) m
  each_first f a m = let one : 1 + m ≡ suc m = omega arith in ap (each f a) one

  -- one more
  pub each_more : (f : ℕ → List A) (n : ℕ) → each f 0 (n + 1) ≡ each f 0 n ++ f n
  each_more f n = each_parts f 0 n 1 ∙ (let at : 0 + n ≡ n = omega arith in rw at (ap (λ last. each f 0 n ++ last) (append-nil (f n))))

  -- those below one are no longer than all
  pub each_below : (f : ℕ → List A) (i n : ℕ) → i ≤ n → length (each f 0 i) ≤ length (each f 0 n)
  each_below f i n le = go (n - i) (omega arith)
    where
      go : (m : ℕ) → n ≡ i + m → length (each f 0 i) ≤ length (each f 0 n)
      go m e = rw e (rw (each_parts f 0 i m) (omega (arith, length-append (each f 0 i) (each f (0 + i) m))))

  -- the same of each
  pub each_same : (f g : ℕ → List A) (a n : ℕ) → ((i : ℕ) → a ≤ i → i < a + n → f i ≡ g i) → each f a n ≡ each g a n
  each_same f g a zero h = refl
  each_same f g a (suc n) h =
      let here : f a ≡ g a = h a (omega arith) (omega arith) in
      rw here (ap (λ rest. g a ++ rest) (each_same f g (a + 1) n (λ i low high. h i (omega arith) (omega arith))))

-- ---- one sender's items come last, and are moved to their place

-- the items behind the two others go between them
moved_between : {A : Type 0} (front back more : List A) → moved (length front) (length more) ((front ++ back) ++ more) ≡ front ++ (more ++ back)
moved_between front back more =
    let tail : drop (length front) ((front ++ back) ++ more) ≡ back ++ more = ap (drop (length front)) (append_assoc front back more) ∙ drop-append_seam front (back ++ more) in
    let head : take (length front) ((front ++ back) ++ more) ≡ front = ap (take (length front)) (append_assoc front back more) ∙ take-append_seam front (back ++ more) in
    let stays : length (back ++ more) - length more ≡ length back = omega (arith, length-append back more) in
    rw (tail, head, stays) (ap₂ (λ a b. front ++ (a ++ b)) (drop-append_seam back more) (take-append_seam back more))

-- where a sender had none, and its items stand behind those of all, they are moved to their place
pub put_in_turn : {A : Type 0} (f g : ℕ → List A) (s n : ℕ) → s < n → f s ≡ [] → ((i : ℕ) → i ≢ s → g i ≡ f i)
    → moved (length (each f 0 s)) (length (g s)) (each f 0 n ++ g s) ≡ each g 0 n
put_in_turn {A = A} f g s n below none others = go (n - (s + 1)) (omega (arith, below))
  where
    go : (m : ℕ) → n ≡ s + (1 + m) → moved (length (each f 0 s)) (length (g s)) (each f 0 n ++ g s) ≡ each g 0 n
    go m e =
        let at : 0 + s ≡ s = omega arith in
        let parts : (h : ℕ → List A) → each h 0 n ≡ each h 0 s ++ (h s ++ each h (s + 1) m) = λ h. ap (each h 0) e ∙ each_parts h 0 s (1 + m) ∙ ap (λ k. each h 0 s ++ each h k (1 + m)) at ∙ ap (λ rest. each h 0 s ++ rest) (each_first h s m) in
        let before : each g 0 s ≡ each f 0 s = each_same g f 0 s (λ i low high. others i (λ same. absurd (omega (arith, same, high)))) in
        let behind : each g (s + 1) m ≡ each f (s + 1) m = each_same g f (s + 1) m (λ i low high. others i (λ same. absurd (omega (arith, same, low)))) in
        let all : each f 0 n ≡ each f 0 s ++ each f (s + 1) m = parts f ∙ ap (λ here. each f 0 s ++ (here ++ each f (s + 1) m)) none in
        ap (λ xs. moved (length (each f 0 s)) (length (g s)) (xs ++ g s)) all
        ∙ moved_between (each f 0 s) (each f (s + 1) m) (g s)
        ∙ sym (parts g ∙ ap₂ (λ a b. a ++ (g s ++ b)) before behind)
