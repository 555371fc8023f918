-- Sets of addresses, and lists that ascend.
use Rattle.std.proofs.Common.{◌≡◌, ◌↔◌, IsTrue, ℕ, ◌+◌, ◌<◌, arith, List, [], ◌∷◌, ◌++◌, Bool, true, false, cond, ◌||◌, refl, sym, ap, ◌∙◌, subst, map, filter, take, drop, length, slice_index_or, Less, Greater, is_eq, append_assoc}
use Rattle.std.proofs.lemmas.Grind.{common_steps, take_at_read}
use Rattle.std.proofs.lemmas.Bool.{false≢true}
use Rattle.std.proofs.lemmas.Map.Made.{keys_of-map_values}
use Rattle.std.proofs.lemmas.Map.Keys.{sorted_head, sorted_tail}
use Rattle.std.specs.BTreeMap.{is_at, insert_entry}
use Rattle.std.specs.List.{AllByRecursion, IsDistinct, list_any}
use Rattle.std.specs.List.Sorted.{IsStrictlySortedBy}
use Rattle.std.specs.Map.{keys_of}
use Rattle.std.specs.Cmp.{IsTotalOrder}
use Rattle.std.specs.Cmp.Lexicographic.{on_texts}
use Rattle.std.specs.Ordering.{ordering_reverse}
use Rattle.hs_limits.specs.declared.address.Address.{Address}
use Rattle.hs_model.specs.declared.plain.PlainBlock.{PlainBlock}
use Rattle.hs_model.specs.declared.store.StoredBlock.{StoredBlock}
use Rattle.hs_model.specs.Listed.{IsListOf}
use Rattle.hs_model.specs.Plain.{entry_of}
use Rattle.hs_model.specs.Pointing.{Pointing, pointers_in}
use Rattle.hs_model.specs.Reach.{is_same, is_among}
use Rattle.hs_model.specs.Store.{address_cmp}
use Rattle.hs_model.proofs.Members.{same-refl, same_from, at_is_same}

pub address_total : IsTotalOrder address_cmp
address_total = on_texts (λ a. a.0)

pub same-sym : (a b : Address) → is_same a b ≡ is_same b a
same-sym a b = go (is_same a b) refl (is_same b a) refl
  where
    go : (c : Bool) → is_same a b ≡ c → (d : Bool) → is_same b a ≡ d → is_same a b ≡ is_same b a
    go true e true f = e ∙ sym f
    go false e false f = e ∙ sym f
    go true e false f = let h : is_same b a ≡ true = subst (λ z. is_same z a ≡ true) (same_from a b e) (same-refl a) in absurd (false≢true (sym f ∙ h))
    go false e true f = let h : is_same a b ≡ true = subst (λ z. is_same z b ≡ true) (same_from b a f) (same-refl b) in absurd (false≢true (sym e ∙ h))

-- a set has what is among its keys
pub contains_is_among : (keys : List Address) (a : Address) → list_any (is_at (address_cmp a)) keys ≡ is_among keys a
contains_is_among [] a = refl
contains_is_among (k ∷ keys) a = rw (at_is_same a k, contains_is_among keys a)

pub listed_by_set : (keys : List Address) (Holds : Address → Type 0) → ((a : Address) → IsTrue (list_any (is_at (address_cmp a)) keys) ↔ Holds a) → IsListOf keys Holds
listed_by_set keys Holds h a = subst (λ z. IsTrue z ↔ Holds a) (contains_is_among keys a) (h a)

pub keys_more : (old now : List Address) (x : Address) → ((q : Address) → list_any (is_at (address_cmp q)) now ≡ cond (is_at (address_cmp x) q) true (list_any (is_at (address_cmp q)) old)) → (q : Address) → is_among now q ≡ cond (is_at (address_cmp x) q) true (is_among old q)
keys_more old now x u q = sym (contains_is_among now q) ∙ u q ∙ ap (λ z. cond (is_at (address_cmp x) q) true z) (contains_is_among old q)

-- ---- one address more

either_more : (c orig among : Bool) → cond c true (orig || among) ≡ (orig || (among || c))
either_more true true among = refl
either_more true false true = refl
either_more true false false = refl
either_more false true among = refl
either_more false false true = refl
either_more false false false = refl

among-push : (xs : List Address) (x a : Address) → is_among (xs ++ x ∷ []) a ≡ (is_among xs a || is_same a x)
among-push [] x a = grind (arith, common_steps)
among-push (y ∷ xs) x a = rw (among-push xs x a) (go (is_same a y))
  where
    go : (b : Bool) → (b || (is_among xs a || is_same a x)) ≡ ((b || is_among xs a) || is_same a x)
    go true = refl
    go false = refl

pub add_step : (old orig now : Address → Bool) (xs : List Address) (i : ℕ) (x : Address) → i < length xs → x ≡ slice_index_or xs i x → ((q : Address) → now q ≡ cond (is_at (address_cmp x) q) true (old q)) → ((q : Address) → old q ≡ (orig q || is_among (take i xs) q)) → (a : Address) → now a ≡ (orig a || is_among (take (i + 1) xs) a)
add_step old orig now xs i x l e u v a =
    let t : take (i + 1) xs ≡ take i xs ++ x ∷ [] = (take_at_read xs i x l).1 ∙ ap (λ z. take i xs ++ z ∷ []) (sym e) in
    u a ∙ rw (v a, at_is_same x a, same-sym x a) (either_more (is_same a x) (orig a) (is_among (take i xs) a)) ∙ ap (λ z. orig a || z) (sym (among-push (take i xs) x a) ∙ ap (λ z. is_among z a) (sym t))

-- ---- entries that are put in their order

less_last : (k : Address) (xs : List PlainBlock) (b : PlainBlock) → AllByRecursion (λ y. address_cmp k y ≡ Less) (keys_of (map entry_of (xs ++ b ∷ []))) → address_cmp k b.address ≡ Less
less_last k [] b h = h.0
less_last k (x ∷ xs) b h = less_last k xs b h.1

all_front : (P : Address → Type 0) (xs ys : List PlainBlock) → AllByRecursion P (keys_of (map entry_of (xs ++ ys))) → AllByRecursion P (keys_of (map entry_of xs))
all_front P [] ys h = tt
all_front P (x ∷ xs) ys h = (h.0, all_front P xs ys h.1)

front : (xs ys : List PlainBlock) → IsStrictlySortedBy address_cmp (keys_of (map entry_of (xs ++ ys))) → IsStrictlySortedBy address_cmp (keys_of (map entry_of xs))
unfolding IsStrictlySortedBy
front [] ys d = tt
front (x ∷ xs) ys d = (all_front (λ y. address_cmp x.address y ≡ Less) xs ys d.0, front xs ys d.1)

insert_last : (xs : List PlainBlock) (b : PlainBlock) → IsStrictlySortedBy address_cmp (keys_of (map entry_of (xs ++ b ∷ []))) → insert_entry address_cmp (pointers_in (map entry_of xs)) b.address b.pointers ≡ pointers_in (map entry_of (xs ++ b ∷ []))
insert_last [] b d = refl
insert_last (x ∷ xs) b d =
    let less = less_last x.address xs b (sorted_head address_cmp x.address (keys_of (map entry_of (xs ++ b ∷ []))) d) in
    let greater : address_cmp b.address x.address ≡ Greater = address_total.antisymm b.address x.address ∙ ap (λ o. ordering_reverse o) less in
    rw (greater, insert_last xs b (sorted_tail address_cmp x.address (keys_of (map entry_of (xs ++ b ∷ []))) d))

pub pointing_more : (blocks : List PlainBlock) (i : ℕ) (b : PlainBlock) (m n : Pointing) → IsStrictlySortedBy address_cmp (keys_of (map entry_of blocks)) → i < length blocks → b ≡ slice_index_or blocks i b → m ≡ pointers_in (map entry_of (take i blocks)) → n ≡ insert_entry address_cmp m b.address b.pointers → n ≡ pointers_in (map entry_of (take (i + 1) blocks))
pointing_more blocks i b m n d l e f g =
    let t : take (i + 1) blocks ≡ take i blocks ++ b ∷ [] = (take_at_read blocks i b l).1 ∙ ap (λ z. take i blocks ++ z ∷ []) (sym e) in
    let whole : take (i + 1) blocks ++ drop (i + 1) blocks ≡ blocks = grind (arith, common_steps) in
    let d1 = front (take (i + 1) blocks) (drop (i + 1) blocks) (subst (λ z. IsStrictlySortedBy address_cmp (keys_of (map entry_of z))) (sym whole) d) in
    let d2 = subst (λ z. IsStrictlySortedBy address_cmp (keys_of (map entry_of z))) t d1 in
    g ∙ ap (λ z. insert_entry address_cmp z b.address b.pointers) f ∙ insert_last (take i blocks) b d2 ∙ ap (λ z. pointers_in (map entry_of z)) (sym t)

-- ---- filters of mapped lists

pub map_of_filter : {X Y : Type 0} (p : Y → Bool) (h : X → Y) (xs : List X) → map h (filter (λ x. p (h x)) xs) ≡ filter p (map h xs)
map_of_filter p h [] = refl
map_of_filter p h (x ∷ xs) = go (map_of_filter p h xs) (p (h x))
  where
    go : map h (filter (λ x. p (h x)) xs) ≡ filter p (map h xs) → (b : Bool) → map h (cond b (x ∷ filter (λ x. p (h x)) xs) (filter (λ x. p (h x)) xs)) ≡ cond b (h x ∷ filter p (map h xs)) (filter p (map h xs))
    go ih true = ap (λ z. h x ∷ z) ih
    go ih false = ih

pub filter_of_map : {X Y Z : Type 0} (g : Y → Z) (p : Y → Bool) (h : X → Y) (xs : List X) → map g (filter p (map h xs)) ≡ map (λ x. g (h x)) (filter (λ x. p (h x)) xs)
filter_of_map g p h [] = refl
filter_of_map g p h (x ∷ xs) = go (filter_of_map g p h xs) (p (h x))
  where
    go : map g (filter p (map h xs)) ≡ map (λ x. g (h x)) (filter (λ x. p (h x)) xs) → (b : Bool) → map g (cond b (h x ∷ filter p (map h xs)) (filter p (map h xs))) ≡ map (λ x. g (h x)) (cond b (x ∷ filter (λ x. p (h x)) xs) (filter (λ x. p (h x)) xs))
    go ih true = ap (λ z. g (h x) ∷ z) ih
    go ih false = ih

pub filter_same : {X : Type 0} (p q : X → Bool) → ((x : X) → p x ≡ q x) → (xs : List X) → filter p xs ≡ filter q xs
filter_same p q h [] = refl
filter_same p q h (x ∷ xs) = rw (h x, filter_same p q h xs)

-- ---- what ascends is distinct

less_apart : (k : Address) (ks : List Address) → AllByRecursion (λ y. address_cmp k y ≡ Less) ks → AllByRecursion (λ y. is_same k y ≡ false) ks
less_apart k [] h = tt
less_apart k (y ∷ ks) h = (sym (at_is_same k y) ∙ ap (λ o. is_eq o) h.0, less_apart k ks h.1)

pub distinct_from_sorted : (ks : List Address) → IsStrictlySortedBy address_cmp ks → IsDistinct is_same ks
unfolding IsDistinct
distinct_from_sorted [] d = tt
distinct_from_sorted (k ∷ ks) d = (less_apart k ks (sorted_head address_cmp k ks d), distinct_from_sorted ks (sorted_tail address_cmp k ks d))

-- ---- entries of a map, in their order

less_end : (k : Address) (m rest : Pointing) (a : Address) (p : List Address) → AllByRecursion (λ y. address_cmp k y ≡ Less) (keys_of (m ++ (a, p) ∷ rest)) → address_cmp k a ≡ Less
less_end k [] rest a p h = h.0
less_end k (e ∷ m) rest a p h = less_end k m rest a p h.1

insert_end : (m rest : Pointing) (a : Address) (p : List Address) → IsStrictlySortedBy address_cmp (keys_of (m ++ (a, p) ∷ rest)) → insert_entry address_cmp m a p ≡ m ++ (a, p) ∷ []
insert_end [] rest a p d = refl
insert_end (e ∷ m) rest a p d =
    let less = less_end e.0 m rest a p (sorted_head address_cmp e.0 (keys_of (m ++ (a, p) ∷ rest)) d) in
    let greater : address_cmp a e.0 ≡ Greater = address_total.antisymm a e.0 ∙ ap (λ o. ordering_reverse o) less in
    rw (greater, insert_end m rest a p (sorted_tail address_cmp e.0 (keys_of (m ++ (a, p) ∷ rest)) d))

pub pointing_turn : (es rest after : List (Address × StoredBlock)) (m n : Pointing) (a : Address) (stored : StoredBlock) (p : List Address) → IsStrictlySortedBy address_cmp (keys_of es) → m ++ pointers_in rest ≡ pointers_in es → rest ≡ (a, stored) ∷ after → n ≡ insert_entry address_cmp m a p → p ≡ stored.pointers → n ++ pointers_in after ≡ pointers_in es
pointing_turn es rest after m n a stored p d h e f g =
    let k : m ++ (a, p) ∷ pointers_in after ≡ pointers_in es = ap (λ (z : List Address). m ++ (a, z) ∷ pointers_in after) g ∙ subst (λ (z : List (Address × StoredBlock)). m ++ pointers_in z ≡ pointers_in es) e h in
    let same : keys_of (pointers_in es) ≡ keys_of es = keys_of-map_values (λ (b : StoredBlock). b.pointers) es in
    let d2 = subst (λ z. IsStrictlySortedBy address_cmp z) (sym same) d in
    let d3 = subst (λ (z : Pointing). IsStrictlySortedBy address_cmp (keys_of z)) (sym k) d2 in
    rw (f, insert_end m (pointers_in after) a p d3) (append_assoc m ((a, p) ∷ []) (pointers_in after) ∙ k)

-- ---- lists of one block and of none

one_block_sorted : (b : PlainBlock) (blocks : List PlainBlock) → blocks ≡ b ∷ [] → IsStrictlySortedBy address_cmp (keys_of (map entry_of blocks))
unfolding IsStrictlySortedBy
one_block_sorted b blocks e = subst (λ (z : List PlainBlock). IsStrictlySortedBy address_cmp (keys_of (map entry_of z))) (sym e) (tt, tt)

pub one_pushed_sorted : (b : PlainBlock) (old new blocks : List PlainBlock) → old ≡ [] → new ≡ old ++ b ∷ [] → blocks ≡ new → IsStrictlySortedBy address_cmp (keys_of (map entry_of blocks))
one_pushed_sorted b old new blocks e f g = one_block_sorted b blocks (g ∙ f ∙ ap (λ (z : List PlainBlock). z ++ b ∷ []) e)

pub none_sorted : (keys : List Address) → keys ≡ [] → IsStrictlySortedBy address_cmp keys
unfolding IsStrictlySortedBy
none_sorted keys e = subst (λ (z : List Address). IsStrictlySortedBy address_cmp z) (sym e) tt
