-- Handles whose numbers ascend, and sessions by name.
use Rattle.std.proofs.Common.{◌≡◌, ℕ, ◌+◌, ◌<◌, ◌≤◌, List, [], ◌∷◌, ◌++◌, Some, Bool, true, false, refl, sym, ap, ◌∙◌, subst, arith, length, Less, Equal, Greater, Ordering, is_eq, inl, inr, append-nil, append_assoc}
use Rattle.std.specs.Ordering.{match_ordering, nat_cmp}
use Rattle.std.specs.BTreeMap.{insert_entry, is_at}
use Rattle.std.specs.Cmp.{nat_cmp_is}
use Rattle.std.specs.List.{AllByRecursion}
use Rattle.std.specs.Map.{lookup, remove_entry, set_value}
use Rattle.hs_limits.specs.declared.address.Held.{Held}
use Rattle.hs_model.proofs.Members.{Member}
use Rattle.hs_model.specs.Store.{holding_all}
use Rattle.hs_asking.specs.Seats.{Ascend, numbered}

-- ---- numbers

cmp-greater : (a k : ℕ) → a < k → nat_cmp k a ≡ Greater
cmp-greater a k h = sym (nat_cmp_is k a Greater h)

pub at-self : (k : ℕ) → is_at (nat_cmp k) k ≡ true
at-self k = ap (λ o. is_eq o) (sym (nat_cmp_is k k Equal refl))

pub at-below : (k a : ℕ) → a < k → is_at (nat_cmp k) a ≡ false
at-below k a h = ap (λ o. is_eq o) (sym (nat_cmp_is k a Greater h))

pub at-above : (k a : ℕ) → k < a → is_at (nat_cmp k) a ≡ false
at-above k a h = ap (λ o. is_eq o) (sym (nat_cmp_is k a Less h))

-- ---- ascending handles

pub ascend-ends : (low : ℕ) (es : List (ℕ × Held)) (next : ℕ) → Ascend low es next → low ≤ next
ascend-ends low [] next h = h
ascend-ends low (e ∷ es) next h = let k : e.0 + 1 ≤ next = ascend-ends (e.0 + 1) es next h.1 in let l : low ≤ e.0 = h.0 in omega (arith, k, l)

pub ascend-lower : (low lower : ℕ) (es : List (ℕ × Held)) (next : ℕ) → lower ≤ low → Ascend low es next → Ascend lower es next
ascend-lower low lower [] next l h = let k : low ≤ next = h in omega (arith, k, l)
ascend-lower low lower (e ∷ es) next l h = let k : low ≤ e.0 = h.0 in (omega (arith, k, l), h.1)

pub ascend-at : (low : ℕ) (es : List (ℕ × Held)) (e : ℕ × Held) (fs : List (ℕ × Held)) (next : ℕ) → Ascend low (es ++ e ∷ fs) next → low ≤ e.0
ascend-at low [] e fs next h = h.0
ascend-at low (d ∷ es) e fs next h = let k : d.0 + 1 ≤ e.0 = ascend-at (d.0 + 1) es e fs next h.1 in let l : low ≤ d.0 = h.0 in omega (arith, k, l)

pub ascend_last : (low : ℕ) (es : List (ℕ × Held)) (next : ℕ) (v : Held) → Ascend low es next → Ascend low (es ++ (next, v) ∷ []) (next + 1)
ascend_last low [] next v h = (h, omega arith)
ascend_last low (e ∷ es) next v h = (h.0, ascend_last (e.0 + 1) es next v h.1)

pub ascend_without : (low : ℕ) (es : List (ℕ × Held)) (e : ℕ × Held) (fs : List (ℕ × Held)) (next : ℕ) → Ascend low (es ++ e ∷ fs) next → Ascend low (es ++ fs) next
ascend_without low [] e fs next h = let k : low ≤ e.0 = h.0 in ascend-lower (e.0 + 1) low fs next (omega (arith, k)) h.1
ascend_without low (d ∷ es) e fs next h = (h.0, ascend_without (d.0 + 1) es e fs next h.1)

pub insert_last : (low : ℕ) (es : List (ℕ × Held)) (k : ℕ) (v : Held) → Ascend low es k → insert_entry nat_cmp es k v ≡ es ++ (k, v) ∷ []
insert_last low [] k v h = refl
insert_last low (e ∷ es) k v h =
    let below : e.0 + 1 ≤ k = ascend-ends (e.0 + 1) es k h.1 in
    let less : e.0 < k = omega (arith, below) in
    rw (cmp-greater e.0 k less) (ap (λ x. e ∷ x) (insert_last (e.0 + 1) es k v h.1))

pub find_in : (low : ℕ) (es : List (ℕ × Held)) (h : ℕ) (v : Held) (fs : List (ℕ × Held)) (next : ℕ) → Ascend low (es ++ (h, v) ∷ fs) next → lookup (is_at (nat_cmp h)) (es ++ (h, v) ∷ fs) ≡ Some v
find_in low [] h v fs next a = rw (at-self h) refl
find_in low (e ∷ es) h v fs next a =
    let below : e.0 + 1 ≤ h = ascend-at (e.0 + 1) es (h, v) fs next a.1 in
    let less : e.0 < h = omega (arith, below) in
    rw (at-below h e.0 less) (find_in (e.0 + 1) es h v fs next a.1)

pub remove_in : (low : ℕ) (es : List (ℕ × Held)) (h : ℕ) (v : Held) (fs : List (ℕ × Held)) (next : ℕ) → Ascend low (es ++ (h, v) ∷ fs) next → remove_entry (is_at (nat_cmp h)) (es ++ (h, v) ∷ fs) ≡ es ++ fs
remove_in low [] h v fs next a = rw (at-self h) refl
remove_in low (e ∷ es) h v fs next a =
    let below : e.0 + 1 ≤ h = ascend-at (e.0 + 1) es (h, v) fs next a.1 in
    let less : e.0 < h = omega (arith, below) in
    rw (at-below h e.0 less) (ap (λ x. e ∷ x) (remove_in (e.0 + 1) es h v fs next a.1))

-- ---- facts of each

pub all_append : {A : Type 0} (P : A → Type 0) (xs ys : List A) → AllByRecursion P xs → AllByRecursion P ys → AllByRecursion P (xs ++ ys)
all_append P [] ys h k = k
all_append P (x ∷ xs) ys h k = (h.0, all_append P xs ys h.1 k)

pub all_left : {A : Type 0} (P : A → Type 0) (xs ys : List A) → AllByRecursion P (xs ++ ys) → AllByRecursion P xs
all_left P [] ys h = tt
all_left P (x ∷ xs) ys h = (h.0, all_left P xs ys h.1)

pub all_right : {A : Type 0} (P : A → Type 0) (xs ys : List A) → AllByRecursion P (xs ++ ys) → AllByRecursion P ys
all_right P [] ys h = h
all_right P (x ∷ xs) ys h = all_right P xs ys h.1

pub all_more : {A : Type 0} (P Q : A → Type 0) → ((x : A) → P x → Q x) → (xs : List A) → AllByRecursion P xs → AllByRecursion Q xs
all_more P Q f [] h = tt
all_more P Q f (x ∷ xs) h = (f x h.0, all_more P Q f xs h.1)

-- ---- entries under keys

pub lookup_set : {K V : Type 0} (test : K → Bool) (es : List (K × V)) (v w : V) → lookup test es ≡ Some v → lookup test (set_value test es w) ≡ Some w
lookup_set test [] v w h = cc h
lookup_set test (x ∷ es) v w h = go (lookup_set test es v w) (test x.0) refl h
  where
    go : (lookup test es ≡ Some v → lookup test (set_value test es w) ≡ Some w) → (b : Bool) → test x.0 ≡ b → lookup test (x ∷ es) ≡ Some v → lookup test (set_value test (x ∷ es) w) ≡ Some w
    go ih true t e = rw (t, t) refl
    go ih false t e = rw (t, t) (ih (rw t at e))

pub lookup_inserted : {K V : Type 0} (cmp : K → K → Ordering) (k : K) → cmp k k ≡ Equal → (es : List (K × V)) (v : V) → lookup (is_at (cmp k)) (insert_entry cmp es k v) ≡ Some v
lookup_inserted cmp k same [] v = rw same refl
lookup_inserted cmp k same (x ∷ es) v = go (lookup_inserted cmp k same es v) (cmp k x.0) refl
  where
    go : lookup (is_at (cmp k)) (insert_entry cmp es k v) ≡ Some v → (o : Ordering) → cmp k x.0 ≡ o → lookup (is_at (cmp k)) (match_ordering o ((k, v) ∷ x ∷ es) ((x.0, v) ∷ es) (x ∷ insert_entry cmp es k v)) ≡ Some v
    go ih Less e = rw same refl
    go ih Equal e = rw e refl
    go ih Greater e = rw e ih

-- ---- members and rows

pub ascend-member : (low : ℕ) (es : List (ℕ × Held)) (e : ℕ × Held) (next : ℕ) → Ascend low es next → Member e es → low ≤ e.0
ascend-member low [] e next h m = absurd m
ascend-member low (d ∷ es) e next h (inl same) = subst (λ (z : ℕ × Held). low ≤ z.0) (sym same) h.0
ascend-member low (d ∷ es) e next h (inr m) = let k : d.0 + 1 ≤ e.0 = ascend-member (d.0 + 1) es e next h.1 m in let l : low ≤ d.0 = h.0 in omega (arith, k, l)

pub find_member : (low : ℕ) (es : List (ℕ × Held)) (e : ℕ × Held) (next : ℕ) → Ascend low es next → Member e es → lookup (is_at (nat_cmp e.0)) es ≡ Some e.1
find_member low [] e next h m = absurd m
find_member low (d ∷ es) e next h (inl same) = subst (λ (z : ℕ × Held). lookup (is_at (nat_cmp z.0)) (d ∷ es) ≡ Some z.1) (sym same) (rw (at-self d.0) refl)
find_member low (d ∷ es) e next h (inr m) =
    let below : d.0 + 1 ≤ e.0 = ascend-member (d.0 + 1) es e next h.1 m in
    let less : d.0 < e.0 = omega (arith, below) in
    rw (at-below e.0 d.0 less) (find_member (d.0 + 1) es e next h.1 m)

pub ascend_numbered : (low : ℕ) (es : List (ℕ × Held)) (next : ℕ) (helds : List Held) → Ascend low es next → Ascend low (es ++ numbered next helds) (next + length helds)
ascend_numbered low [] next [] h = let k : low ≤ next = h in omega (arith, k)
ascend_numbered low [] next (held ∷ rest) h =
    let k = ascend_numbered (next + 1) [] (next + 1) rest (omega arith) in
    let same : (next + 1) + length rest ≡ next + length (held ∷ rest) = omega arith in
    (h, subst (λ z. Ascend (next + 1) (numbered (next + 1) rest) z) same k)
ascend_numbered low (e ∷ es) next helds h = (h.0, ascend_numbered (e.0 + 1) es next helds h.1)

pub holding-numbered : (low : ℕ) (es : List (ℕ × Held)) (next : ℕ) (helds : List Held) → Ascend low es next → holding_all helds (record { next = next; handles = es }) ≡ record { next = next + length helds; handles = es ++ numbered next helds }
holding-numbered low es next [] h =
    let n : next ≡ next + 0 = omega arith in
    let l : es ≡ es ++ [] = sym (append-nil es) in
    λ i. record { next = n i; handles = l i }
holding-numbered low es next (held ∷ rest) h =
    let placed : insert_entry nat_cmp es next held ≡ es ++ (next, held) ∷ [] = insert_last low es next held h in
    let more = holding-numbered low (es ++ (next, held) ∷ []) (next + 1) rest (ascend_last low es next held h) in
    let n : (next + 1) + length rest ≡ next + length (held ∷ rest) = omega arith in
    let l : (es ++ (next, held) ∷ []) ++ numbered (next + 1) rest ≡ es ++ numbered next (held ∷ rest) = append_assoc es ((next, held) ∷ []) (numbered (next + 1) rest) in
    ap (λ z. holding_all rest (record { next = next + 1; handles = z })) placed ∙ (more ∙ (λ i. record { next = n i; handles = l i }))
