-- Laws of lists of entries.
use Rattle.std.proofs.Common.{◌≡◌, ℕ, zero, suc, ◌+◌, ◌≤◌, ◌<◌, List, [], ◌∷◌, ◌++◌, ◌⊎◌, inl, inr, refl, sym, arith, length, Some, ap, ◌∙◌}
use Rattle.std.specs.Prelude.{slice_get, take}
use Rattle.hs_copies.specs.Lists.{Item, IsFront, AreBelow, Rises, IsBehind, AreApart, Agree, end_view, IsAtMost, rank_by_stamps}

pub view_ap : {X : Type 0} (x y : Item X) → x ≡ y → x.view ≡ y.view
view_ap {X = X} x y e = ap (λ (k : Item X). k.view) e

pub front_refl : {X : Type 0} (xs : List X) → IsFront xs xs
front_refl [] = tt
front_refl (x ∷ xs) = (refl, front_refl xs)

pub front_trans : {X : Type 0} (xs ys zs : List X) → IsFront xs ys → IsFront ys zs → IsFront xs zs
front_trans [] ys zs p q = tt
front_trans (x ∷ xs) [] zs p q = absurd p
front_trans (x ∷ xs) (y ∷ ys) [] p q = absurd q
front_trans (x ∷ xs) (y ∷ ys) (z ∷ zs) p q = (p.0 ∙ q.0, front_trans xs ys zs p.1 q.1)

pub front_append : {X : Type 0} (xs ys : List X) → IsFront xs (xs ++ ys)
front_append [] ys = tt
front_append (x ∷ xs) ys = (refl, front_append xs ys)

pub front_more : {X : Type 0} (xs ys zs : List X) → IsFront xs ys → IsFront xs (ys ++ zs)
front_more xs ys zs p = front_trans xs ys (ys ++ zs) p (front_append ys zs)

pub front_length : {X : Type 0} (xs ys : List X) → IsFront xs ys → length xs ≤ length ys
front_length [] ys p = omega arith
front_length (x ∷ xs) [] p = absurd p
front_length (x ∷ xs) (y ∷ ys) p = omega (arith, front_length xs ys p.1)

pub front_whole : {X : Type 0} (xs ys : List X) → IsFront xs ys → length ys ≤ length xs → xs ≡ ys
front_whole [] [] p l = refl
front_whole [] (y ∷ ys) p l = absurd (omega arith)
front_whole (x ∷ xs) [] p l = absurd p
front_whole (x ∷ xs) (y ∷ ys) p l = let e = front_whole xs ys p.1 (omega arith) in cc (p.0, e)

pub front_both : {X : Type 0} (xs ys zs : List X) → IsFront xs zs → IsFront ys zs → length xs ≤ length ys → IsFront xs ys
front_both [] ys zs p q l = tt
front_both (x ∷ xs) [] zs p q l = absurd (omega arith)
front_both (x ∷ xs) (y ∷ ys) [] p q l = absurd p
front_both (x ∷ xs) (y ∷ ys) (z ∷ zs) p q l = (p.0 ∙ sym q.0, front_both xs ys zs p.1 q.1 (omega arith))

pub front_step : {X : Type 0} (xs zs : List X) (x : X) → IsFront xs zs → slice_get zs (length xs) ≡ Some x → IsFront (xs ++ x ∷ []) zs
front_step [] [] x p e = absurd (cc e)
front_step [] (z ∷ zs) x p e = (cc e, tt)
front_step (y ∷ xs) [] x p e = absurd p
front_step (y ∷ xs) (z ∷ zs) x p e = (p.0, front_step xs zs x p.1 e)

pub front_left : {X : Type 0} (xs ys zs : List X) → IsFront (xs ++ ys) zs → IsFront xs zs
front_left xs ys zs p = front_trans xs (xs ++ ys) zs (front_append xs ys) p

pub front_first : {X : Type 0} (n : ℕ) (xs : List X) → IsFront (take n xs) xs
front_first zero xs = tt
front_first (suc n) [] = tt
front_first (suc n) (x ∷ xs) = (refl, front_first n xs)

pub get_more : {X : Type 0} (xs ys : List X) (n : ℕ) (x : X) → slice_get xs n ≡ Some x → slice_get (xs ++ ys) n ≡ Some x
get_more [] ys n x e = absurd (cc e)
get_more (y ∷ xs) ys zero x e = e
get_more (y ∷ xs) ys (suc n) x e = get_more xs ys n x e

pub get_low : {X : Type 0} (xs : List X) (n : ℕ) (x : X) → slice_get xs n ≡ Some x → n < length xs
get_low [] n x e = absurd (cc e)
get_low (y ∷ xs) zero x e = omega arith
get_low (y ∷ xs) (suc n) x e = omega (arith, get_low xs n x e)

pub take_length : {X : Type 0} (n : ℕ) (xs : List X) → n ≤ length xs → length (take n xs) ≡ n
take_length zero [] l = refl
take_length (suc n) [] l = absurd (omega arith)
take_length zero (x ∷ xs) l = refl
take_length (suc n) (x ∷ xs) l = omega (arith, take_length n xs (omega arith))

pub append_nil : {X : Type 0} (xs : List X) → xs ++ [] ≡ xs
append_nil [] = refl
append_nil (x ∷ xs) = let e = append_nil xs in cc e

pub length_append : {X : Type 0} (xs ys : List X) → length (xs ++ ys) ≡ length xs + length ys
length_append [] ys = omega arith
length_append (x ∷ xs) ys = omega (arith, length_append xs ys)

-- views

pub below_prefix : {X : Type 0} (v : ℕ) (xs ys : List (Item X)) → IsFront xs ys → AreBelow v ys → AreBelow v xs
below_prefix v [] ys p b = tt
below_prefix v (x ∷ xs) [] p b = absurd p
below_prefix v (x ∷ xs) (y ∷ ys) p b = (omega (arith, view_ap x y p.0, b.0), below_prefix v xs ys p.1 b.1)

pub below_up : {X : Type 0} (v w : ℕ) (xs : List (Item X)) → v ≤ w → AreBelow v xs → AreBelow w xs
below_up v w [] l b = tt
below_up v w (x ∷ xs) l b = (omega (arith, b.0), below_up v w xs l b.1)

pub below_append : {X : Type 0} (v : ℕ) (xs ys : List (Item X)) → AreBelow v xs → AreBelow v ys → AreBelow v (xs ++ ys)
below_append v [] ys b c = c
below_append v (x ∷ xs) ys b c = (b.0, below_append v xs ys b.1 c)

pub rises_prefix : {X : Type 0} (v : ℕ) (xs ys : List (Item X)) → IsFront xs ys → Rises v ys → Rises v xs
rises_prefix v [] ys p r = tt
rises_prefix v (x ∷ xs) [] p r = absurd p
rises_prefix v (x ∷ xs) (y ∷ ys) p r =
    let e = view_ap x y p.0 in
    (omega (arith, e, r.0), rises_prefix x.view xs ys p.1 (rw e r.1))

pub rises_append : {X : Type 0} (v w : ℕ) (xs : List (Item X)) (x : Item X) → Rises v xs → AreBelow (suc x.view) xs → v ≤ x.view → Rises v (xs ++ x ∷ [])
rises_append v w [] x r b l = (l, tt)
rises_append v w (y ∷ xs) x r b l = (r.0, rises_append y.view w xs x r.1 b.1 (omega (arith, b.0)))

pub rises_last : {X : Type 0} (v : ℕ) (xs : List (Item X)) → Rises v xs → v ≤ end_view v xs
rises_last v [] r = omega arith
rises_last v (x ∷ xs) r = omega (arith, r.0, rises_last x.view xs r.1)

pub below_last : {X : Type 0} (v : ℕ) (x : Item X) (xs : List (Item X)) → AreBelow v (x ∷ xs) → end_view x.view xs < v
below_last v x [] b = b.0
below_last v x (y ∷ xs) b = below_last v y xs b.1

-- behind

pub behind_prefix : {X : Type 0} (xs log : List (Item X)) → IsFront xs log → IsBehind xs log
behind_prefix [] log p = tt
behind_prefix (x ∷ xs) [] p = absurd p
behind_prefix (x ∷ xs) (l ∷ log) p = inl (p.0, behind_prefix xs log p.1)

pub behind_less : {X : Type 0} (xs ys log : List (Item X)) → IsFront xs ys → IsBehind ys log → IsBehind xs log
behind_less [] ys log p b = tt
behind_less (x ∷ xs) [] log p b = absurd p
behind_less (x ∷ xs) (y ∷ ys) [] p b = absurd b
behind_less (x ∷ xs) (y ∷ ys) (l ∷ log) p (inl b) = inl (p.0 ∙ b.0, behind_less xs ys log p.1 b.1)
behind_less (x ∷ xs) (y ∷ ys) (l ∷ log) p (inr b) = inr (below_prefix l.view (x ∷ xs) (y ∷ ys) p b)

pub behind_more : {X : Type 0} (xs log more : List (Item X)) → IsBehind xs log → IsBehind xs (log ++ more)
behind_more [] log more b = tt
behind_more (x ∷ xs) [] more b = absurd b
behind_more (x ∷ xs) (l ∷ log) more (inl b) = inl (b.0, behind_more xs log more b.1)
behind_more (x ∷ xs) (l ∷ log) more (inr b) = inr b

-- the log may be cut where an entry of a higher view follows
pub behind_cut : {X : Type 0} (xs log front : List (Item X)) (x : Item X) → IsBehind xs log → IsFront front log → AreBelow x.view xs → IsBehind xs (front ++ x ∷ [])
behind_cut [] log front x b p v = tt
behind_cut (y ∷ xs) log [] x b p v = inr v
behind_cut (y ∷ xs) [] (f ∷ front) x b p v = absurd b
behind_cut (y ∷ xs) (l ∷ log) (f ∷ front) x (inl b) p v = inl (b.0 ∙ sym p.0, behind_cut xs log front x b.1 p.1 v.1)
behind_cut (y ∷ xs) (l ∷ log) (f ∷ front) x (inr b) p v = inr (below_up l.view f.view (y ∷ xs) (omega (arith, view_ap f l p.0)) b)

-- agreement

pub agree_refl : {X : Type 0} (xs : List (Item X)) → Agree xs xs
agree_refl [] = tt
agree_refl (x ∷ xs) = inl (refl, agree_refl xs)

apart_sym : {X : Type 0} (xs ys : List (Item X)) → AreApart xs ys → AreApart ys xs
apart_sym [] [] a = tt
apart_sym [] (y ∷ ys) a = tt
apart_sym (x ∷ xs) [] a = tt
apart_sym (x ∷ xs) (y ∷ ys) a = (λ e. a.0 (sym e), apart_sym xs ys a.1)

pub agree_sym : {X : Type 0} (xs ys : List (Item X)) → Agree xs ys → Agree ys xs
agree_sym [] [] a = tt
agree_sym [] (y ∷ ys) a = tt
agree_sym (x ∷ xs) [] a = tt
agree_sym (x ∷ xs) (y ∷ ys) (inl a) = inl (sym a.0, agree_sym xs ys a.1)
agree_sym (x ∷ xs) (y ∷ ys) (inr a) = inr (apart_sym (x ∷ xs) (y ∷ ys) a)

apart_front : {X : Type 0} (xs zs ys : List (Item X)) → IsFront xs zs → AreApart zs ys → AreApart xs ys
apart_front [] zs ys p a = tt
apart_front (x ∷ xs) [] ys p a = absurd p
apart_front (x ∷ xs) (z ∷ zs) [] p a = tt
apart_front (x ∷ xs) (z ∷ zs) (y ∷ ys) p a = (λ e. a.0 (sym (view_ap x z p.0) ∙ e), apart_front xs zs ys p.1 a.1)

pub agree_front_of : {X : Type 0} (xs zs ys : List (Item X)) → IsFront xs zs → Agree zs ys → Agree xs ys
agree_front_of [] zs ys p a = tt
agree_front_of (x ∷ xs) [] ys p a = absurd p
agree_front_of (x ∷ xs) (z ∷ zs) [] p a = tt
agree_front_of (x ∷ xs) (z ∷ zs) (y ∷ ys) p (inl a) = inl (p.0 ∙ a.0, agree_front_of xs zs ys p.1 a.1)
agree_front_of (x ∷ xs) (z ∷ zs) (y ∷ ys) p (inr a) = inr (apart_front (x ∷ xs) (z ∷ zs) (y ∷ ys) p a)

apart_fresh : {X : Type 0} (xs ys : List (Item X)) (x : Item X) → AreApart xs ys → AreBelow x.view ys → AreApart (xs ++ x ∷ []) ys
apart_fresh [] [] x a b = tt
apart_fresh [] (y ∷ ys) x a b = (λ e. omega (arith, e, b.0), tt)
apart_fresh (z ∷ xs) [] x a b = tt
apart_fresh (z ∷ xs) (y ∷ ys) x a b = (a.0, apart_fresh xs ys x a.1 b.1)

-- an entry of a view that the other list doesn't have
pub agree_fresh : {X : Type 0} (xs ys : List (Item X)) (x : Item X) → Agree xs ys → AreBelow x.view ys → Agree (xs ++ x ∷ []) ys
agree_fresh [] [] x a b = tt
agree_fresh [] (y ∷ ys) x a b = inr (λ e. omega (arith, e, b.0), tt)
agree_fresh (z ∷ xs) [] x a b = tt
agree_fresh (z ∷ xs) (y ∷ ys) x (inl a) b = inl (a.0, agree_fresh xs ys x a.1 b.1)
agree_fresh (z ∷ xs) (y ∷ ys) x (inr a) b = inr (apart_fresh (z ∷ xs) (y ∷ ys) x a b)

-- an entry at the log's end
pub agree_end : {X : Type 0} (log ys : List (Item X)) (x : Item X) → Agree log ys → IsBehind ys log → AreBelow (suc x.view) log → Agree (log ++ x ∷ []) ys
agree_end [] [] x a b v = tt
agree_end [] (y ∷ ys) x a b v = absurd b
agree_end (l ∷ log) [] x a b v = tt
agree_end (l ∷ log) (y ∷ ys) x (inl a) (inl b) v = inl (a.0, agree_end log ys x a.1 b.1 v.1)
agree_end (l ∷ log) (y ∷ ys) x (inr a) (inl b) v = absurd (a.0 (view_ap l y (sym b.0)))
agree_end (l ∷ log) (y ∷ ys) x (inl a) (inr b) v = absurd (omega (arith, view_ap l y a.0, b.0))
agree_end (l ∷ log) (y ∷ ys) x (inr a) (inr b) v =
    inr (apart_fresh (l ∷ log) (y ∷ ys) x a (below_up l.view x.view (y ∷ ys) (omega (arith, v.0)) b))

apart_get : {X : Type 0} (xs ys : List (Item X)) (n : ℕ) (x y : Item X) → AreApart xs ys → slice_get xs n ≡ Some x → slice_get ys n ≡ Some y → x.view ≡ y.view → ⊥
apart_get [] ys n x y a e f g = cc e
apart_get (u ∷ xs) [] n x y a e f g = cc f
apart_get (u ∷ xs) (w ∷ ys) zero x y a e f g =
    let i : u ≡ x = cc e in let j : w ≡ y = cc f in a.0 (view_ap u x i ∙ g ∙ sym (view_ap w y j))
apart_get (u ∷ xs) (w ∷ ys) (suc n) x y a e f g = apart_get xs ys n x y a.1 e f g

-- lists that agree are one up to a place where their views are one
pub agree_up_to : {X : Type 0} (xs ys : List (Item X)) (n : ℕ) (x y : Item X) → Agree xs ys → slice_get xs n ≡ Some x → slice_get ys n ≡ Some y → x.view ≡ y.view → take (suc n) xs ≡ take (suc n) ys
agree_up_to [] ys n x y a e f g = absurd (cc e)
agree_up_to (u ∷ xs) [] n x y a e f g = absurd (cc f)
agree_up_to (u ∷ xs) (w ∷ ys) zero x y (inl a) e f g = let k = a.0 in cc k
agree_up_to (u ∷ xs) (w ∷ ys) (suc n) x y (inl a) e f g = let k = a.0 in let r = agree_up_to xs ys n x y a.1 e f g in cc (k, r)
agree_up_to (u ∷ xs) (w ∷ ys) n x y (inr a) e f g = absurd (apart_get (u ∷ xs) (w ∷ ys) n x y a e f g)

take_none : {X : Type 0} (xs log : List X) → IsFront (take 0 xs) log
take_none [] log = tt
take_none (x ∷ xs) log = tt

-- and entries of one view at one number are one
pub agree_entry : {X : Type 0} (xs ys : List (Item X)) (n : ℕ) (x y : Item X) → Agree xs ys → slice_get xs n ≡ Some x → slice_get ys n ≡ Some y → x.view ≡ y.view → x ≡ y
agree_entry [] ys n x y g a b e = absurd (cc a)
agree_entry (c ∷ xs) [] n x y g a b e = absurd (cc b)
agree_entry (c ∷ xs) (d ∷ ys) n x y (inr g) a b e = absurd (apart_get (c ∷ xs) (d ∷ ys) n x y g a b e)
agree_entry (c ∷ xs) (d ∷ ys) zero x y (inl g) a b e = cc (sym a ∙ ap (λ z. Some z) g.0 ∙ b)
agree_entry (c ∷ xs) (d ∷ ys) (suc n) x y (inl g) a b e = agree_entry xs ys n x y g.1 a b e

below_at : {X : Type 0} (v : ℕ) (xs : List (Item X)) (n : ℕ) (x : Item X) → AreBelow v xs → slice_get xs n ≡ Some x → x.view < v
below_at v [] n x b e = absurd (cc e)
below_at v (y ∷ xs) zero x b e = let k : y ≡ x = cc e in omega (arith, view_ap y x k, b.0)
below_at v (y ∷ xs) (suc n) x b e = below_at v xs n x b.1 e

rises_at : {X : Type 0} (v : ℕ) (xs : List (Item X)) (n : ℕ) (x : Item X) → Rises v xs → slice_get xs n ≡ Some x → v ≤ x.view
rises_at v [] n x r e = absurd (cc e)
rises_at v (y ∷ xs) zero x r e = let k : y ≡ x = cc e in omega (arith, view_ap y x k, r.0)
rises_at v (y ∷ xs) (suc n) x r e = omega (arith, r.0, rises_at y.view xs n x r.1 e)

-- where the views of a list and the log are equal, the list is the log's up to there
pub common_prefix : {X : Type 0} (v : ℕ) (xs log : List (Item X)) (n : ℕ) (x y : Item X) → Rises v log → IsBehind xs log → slice_get xs n ≡ Some x → slice_get log n ≡ Some y → x.view ≡ y.view → IsFront (take (suc n) xs) log
common_prefix v [] log n x y r b e f g = tt
common_prefix v (z ∷ xs) [] n x y r b e f g = absurd b
common_prefix v (z ∷ xs) (l ∷ log) zero x y r (inl b) e f g = (b.0, take_none xs log)
common_prefix v (z ∷ xs) (l ∷ log) (suc n) x y r (inl b) e f g = (b.0, common_prefix l.view xs log n x y r.1 b.1 e f g)
common_prefix v (z ∷ xs) (l ∷ log) n x y r (inr b) e f g =
    absurd (omega (arith, below_at l.view (z ∷ xs) n x b e, rises_at l.view (l ∷ log) n y (omega arith, r.1) f, g))

-- lineage: a list behind the log whose rank is that of a front of the log, or more, begins with that front
pub lineage_from : {X : Type 0} (v : ℕ) (fs hs log : List (Item X)) → Rises v log → IsFront fs log → IsBehind hs log → (end_view v fs < end_view v hs) ⊎ ((end_view v fs ≡ end_view v hs) × (length fs ≤ length hs)) → IsFront fs hs
lineage_from v [] hs log r p b l = tt
lineage_from v (f ∷ fs) hs [] r p b l = absurd p
lineage_from v (f ∷ fs) [] (k ∷ log) r p b (inl l) = absurd (omega (arith, l, rises_last v (f ∷ fs) (rises_prefix v (f ∷ fs) (k ∷ log) p r)))
lineage_from v (f ∷ fs) [] (k ∷ log) r p b (inr l) = absurd (omega (arith, l.1))
lineage_from v (f ∷ fs) (h ∷ hs) (k ∷ log) r p (inl b) l =
    let e : f ≡ h = p.0 ∙ sym b.0 in
    let m : end_view f.view hs ≡ end_view h.view hs = ap (λ j. end_view j hs) (view_ap f h e) in
    let d : f.view ≡ k.view = view_ap f k p.0 in
    (e, lineage_from f.view fs hs log (rw d r.1) p.1 b.1 (elim l [ inl a ↦ inl (omega (arith, a, m)) | inr a ↦ inr (omega (arith, a.0, m), omega (arith, a.1)) ]))
lineage_from v (f ∷ fs) (h ∷ hs) (k ∷ log) r p (inr b) l =
    let d : f.view ≡ k.view = view_ap f k p.0 in
    let low = below_last k.view h hs b in
    let high = rises_last f.view fs (rises_prefix f.view fs log p.1 (rw d r.1)) in
    absurd (elim l [ inl a ↦ omega (arith, a, low, high, d) | inr a ↦ omega (arith, a.0, low, high, d) ])

pub lineage : {X : Type 0} (fs hs log : List (Item X)) → Rises 0 log → IsFront fs log → IsBehind hs log → IsAtMost (rank_by_stamps fs) (rank_by_stamps hs) → IsFront fs hs
lineage fs hs log r p b l = lineage_from 0 fs hs log r p b l
