-- What is listed as reached is closed under pointers, and is reached.
use Rattle.std.proofs.Common.{◌≡◌, ◌≢◌, ℕ, ◌+◌, ◌≤◌, ◌⊎◌, inl, inr, List, [], ◌∷◌, ◌++◌, zero, suc, length, Option, Some, None, Bool, true, false, cond, refl, sym, ap, ◌∙◌, subst, arith, append-nil, le_refl}
use Rattle.std.proofs.lemmas.Grind.{common_steps}
use Rattle.std.specs.BTreeMap.{is_at}
use Rattle.std.specs.Map.{lookup, keys_of}
use Rattle.std.specs.List.{IsDistinct, AllByRecursion}
use Rattle.std.proofs.lemmas.Map.Keys.{IsDistinct-tail, IsDistinct-head}
use Rattle.hs_limits.specs.declared.address.Address.{Address}
use Rattle.hs_model.specs.declared.store.StoredBlock.{StoredBlock}
use Rattle.hs_model.specs.Reach.{is_same, is_among, pointers_of, Leads, IsReached, pick, left, close, reached_from}
use Rattle.hs_model.specs.Store.{Store, address_cmp, block_at}
use Rattle.hs_model.proofs.Members.{Member, contains_from_member, member_from_contains, member-append_left, member-append_right, member-append, same-refl, same_from, at_is_same, among_from_member, member_from_among}

-- ---- reached over any two predicates

pub data Reached {A : Type 0} (Starts : A → Type 0) (Points : A → A → Type 0) : A → Type 0 where
  start : {a : A} → Starts a → Reached Starts Points a
  onward : {a b : A} → Reached Starts Points a → Points a b → Reached Starts Points b

-- what the starts have, and the pointers pass on, all that is reached has
pub Reached-each : {A : Type 0} {Starts : A → Type 0} {Points : A → A → Type 0} (P : A → Type 0) → ((a : A) → Starts a → P a) → ((a b : A) → Reached Starts Points a → P a → Points a b → P b) → (b : A) → Reached Starts Points b → P b
Reached-each P f g b (start s) = f b s
Reached-each P f g b (onward {a = a} r p) = g a b r (Reached-each P f g a r) p

abbrev pub Points : List (Address × StoredBlock) → Address → Address → Type 0
Points blocks a b = Member b (pointers_of (lookup (is_at (address_cmp a)) blocks))

abbrev pub Among : List Address → Address → Type 0
Among from a = Member a from

abbrev pub Reaches : List (Address × StoredBlock) → List Address → Address → Type 0
Reaches blocks from b = Reached (Among from) (Points blocks) b

-- ---- a list that leads on, and what is reached

reached_by_leads : (s : Store) (from : List Address) (a : Address) (path : List Address) (b : Address) → Reaches s.blocks from a → Leads s a path b → Reaches s.blocks from b
reached_by_leads s from a [] b r e = subst (λ z. Reaches s.blocks from z) e r
reached_by_leads s from a (next ∷ path) b r l = reached_by_leads s from next path b (onward r (member_from_contains next (pointers_of (block_at s a)) l.0)) l.1

pub reached_from_is : (s : Store) (from : List Address) (b : Address) → IsReached s from b → Reaches s.blocks from b
reached_from_is s from b r = reached_by_leads s from r.start r.path b (start (member_from_contains r.start from r.anchored)) r.leads

leads-more : (s : Store) (a : Address) (path : List Address) (b c : Address) → Leads s a path b → Points s.blocks b c → Leads s a (path ++ c ∷ []) c
leads-more s a [] b c e p = (contains_from_member c (pointers_of (block_at s a)) (subst (λ z. Points s.blocks z c) (sym e) p), refl)
leads-more s a (next ∷ path) b c l p = (l.0, leads-more s next path b c l.1 p)

pub is_from_reached : (s : Store) (from : List Address) (b : Address) → Reaches s.blocks from b → IsReached s from b
is_from_reached s from b r = Reached-each (λ b. IsReached s from b) (λ a m. record { start = a; path = []; anchored = contains_from_member a from m; leads = refl }) (λ a b q i p. record { start = i.start; path = i.path ++ b ∷ []; anchored = i.anchored; leads = leads-more s i.start i.path a b i.leads p }) b r

-- ---- the list is closed

-- the found block of a left block's address is the same, unless it was picked
left-lookup : (es : List (Address × StoredBlock)) (seen : List Address) (a : Address) → (lookup (is_at (address_cmp a)) (left es seen) ≡ lookup (is_at (address_cmp a)) es) ⊎ ((is_among seen a ≡ true) × (pick es seen ≡ lookup (is_at (address_cmp a)) es))
left-lookup [] seen a = inl refl
left-lookup (e ∷ es) seen a = go (left-lookup es seen a) (is_among seen e.0) refl (is_same a e.0) refl
  where
    go : (lookup (is_at (address_cmp a)) (left es seen) ≡ lookup (is_at (address_cmp a)) es) ⊎ ((is_among seen a ≡ true) × (pick es seen ≡ lookup (is_at (address_cmp a)) es)) → (b : Bool) → is_among seen e.0 ≡ b → (c : Bool) → is_same a e.0 ≡ c → (lookup (is_at (address_cmp a)) (left (e ∷ es) seen) ≡ lookup (is_at (address_cmp a)) (e ∷ es)) ⊎ ((is_among seen a ≡ true) × (pick (e ∷ es) seen ≡ lookup (is_at (address_cmp a)) (e ∷ es)))
    go ih true t true u = inr (subst (λ z. is_among seen z ≡ true) (sym (same_from a e.0 u)) t, rw (t, at_is_same a e.0, u))
    go ih true t false u = inl (rw (t, at_is_same a e.0, u))
    go ih false t true u = inl (rw (t, at_is_same a e.0, u))
    go (inl h) false t false u = inl (rw (t, at_is_same a e.0, u) h)
    go (inr h) false t false u = inr (h.0, rw (t, at_is_same a e.0, u) h.1)

-- a seen address whose block is among the blocks has something picked
pick-some : (es : List (Address × StoredBlock)) (seen : List Address) (a : Address) (stored : StoredBlock) → is_among seen a ≡ true → lookup (is_at (address_cmp a)) es ≡ Some stored → pick es seen ≢ None
pick-some [] seen a stored m l = λ n. cc
pick-some (e ∷ es) seen a stored m l = go (pick-some es seen a stored m) (is_among seen e.0) refl (is_same a e.0) refl
  where
    go : (lookup (is_at (address_cmp a)) es ≡ Some stored → pick es seen ≢ None) → (b : Bool) → is_among seen e.0 ≡ b → (c : Bool) → is_same a e.0 ≡ c → pick (e ∷ es) seen ≢ None
    go ih true t c u n = let h = rw t at n in cc h
    go ih false t true u n = let h : is_among seen e.0 ≡ true = subst (λ z. is_among seen z ≡ true) (same_from a e.0 u) m in cc (h, t)
    go ih false t false u n = ih (rw (at_is_same a e.0, u) at l) (rw t at n)

-- where nothing is picked nothing is left out, and nothing is added
left-none : (es : List (Address × StoredBlock)) (seen : List Address) → pick es seen ≡ None → left es seen ≡ es
left-none [] seen n = refl
left-none (e ∷ es) seen n = go (left-none es seen) (is_among seen e.0) refl
  where
    go : (pick es seen ≡ None → left es seen ≡ es) → (b : Bool) → is_among seen e.0 ≡ b → left (e ∷ es) seen ≡ e ∷ es
    go ih true t = let h = rw t at n in cc h
    go ih false t = let h : pick es seen ≡ None = rw t at n in rw (t, ih h)

left-length : (es : List (Address × StoredBlock)) (seen : List Address) (stored : StoredBlock) → pick es seen ≡ Some stored → length (left es seen) + 1 ≡ length es
left-length [] seen stored n = cc
left-length (e ∷ es) seen stored n = go (left-length es seen stored) (is_among seen e.0) refl
  where
    go : (pick es seen ≡ Some stored → length (left es seen) + 1 ≡ length es) → (b : Bool) → is_among seen e.0 ≡ b → length (left (e ∷ es) seen) + 1 ≡ length (e ∷ es)
    go ih true t = rw t (grind (arith, common_steps))
    go ih false t = let h : pick es seen ≡ Some stored = rw t at n in rw t (grind (arith, common_steps, ih h))

close-none : (turns : ℕ) (es : List (Address × StoredBlock)) (seen : List Address) → pick es seen ≡ None → close turns es seen ≡ seen
close-none zero es seen n = refl
close-none (suc turns) es seen n = rw (n, left-none es seen n, append-nil seen) (close-none turns es seen n)

close-keeps : (turns : ℕ) (es : List (Address × StoredBlock)) (seen : List Address) (a : Address) → Member a seen → Member a (close turns es seen)
close-keeps zero es seen a m = m
close-keeps (suc turns) es seen a m = close-keeps turns (left es seen) (seen ++ pointers_of (pick es seen)) a (member-append_left a seen _ m)

-- each pointer is from a seen address and seen itself, or its block is still to come
abbrev IsOpen : List (Address × StoredBlock) → List (Address × StoredBlock) → List Address → Type 0
IsOpen blocks es seen = (a b : Address) → Points blocks a b → (Member a seen × Member b seen) ⊎ (lookup (is_at (address_cmp a)) es ≡ lookup (is_at (address_cmp a)) blocks)

abbrev IsClosed : List (Address × StoredBlock) → List Address → Type 0
IsClosed blocks seen = (a b : Address) → Points blocks a b → Member a seen → Member b seen

-- where nothing is picked what is seen is closed
closed_at_end : (blocks es : List (Address × StoredBlock)) (seen : List Address) → pick es seen ≡ None → IsOpen blocks es seen → IsClosed blocks seen
closed_at_end blocks es seen n o a b p m = go (o a b p)
  where
    found : (f : Option StoredBlock) → lookup (is_at (address_cmp a)) blocks ≡ f → lookup (is_at (address_cmp a)) es ≡ lookup (is_at (address_cmp a)) blocks → Member b (pointers_of f) → Member b seen
    found None e h q = elim q [ ]
    found (Some stored) e h q = absurd (pick-some es seen a stored (among_from_member a seen m) (h ∙ e) n)

    go : (Member a seen × Member b seen) ⊎ (lookup (is_at (address_cmp a)) es ≡ lookup (is_at (address_cmp a)) blocks) → Member b seen
    go (inl h) = h.1
    go (inr h) = found (lookup (is_at (address_cmp a)) blocks) refl h p

open_step : (blocks es : List (Address × StoredBlock)) (seen : List Address) → IsOpen blocks es seen → IsOpen blocks (left es seen) (seen ++ pointers_of (pick es seen))
open_step blocks es seen o a b p = go (o a b p) (left-lookup es seen a)
  where
    go : (Member a seen × Member b seen) ⊎ (lookup (is_at (address_cmp a)) es ≡ lookup (is_at (address_cmp a)) blocks) → (lookup (is_at (address_cmp a)) (left es seen) ≡ lookup (is_at (address_cmp a)) es) ⊎ ((is_among seen a ≡ true) × (pick es seen ≡ lookup (is_at (address_cmp a)) es)) → (Member a (seen ++ pointers_of (pick es seen)) × Member b (seen ++ pointers_of (pick es seen))) ⊎ (lookup (is_at (address_cmp a)) (left es seen) ≡ lookup (is_at (address_cmp a)) blocks)
    go (inl h) l = inl (member-append_left a seen _ h.0, member-append_left b seen _ h.1)
    go (inr h) (inl l) = inr (l ∙ h)
    go (inr h) (inr l) = inl (member-append_left a seen _ (member_from_among a seen l.0), member-append_right b seen (pointers_of (pick es seen)) (subst (λ f. Member b (pointers_of f)) (sym (l.1 ∙ h)) p))

close-closed : (blocks : List (Address × StoredBlock)) (turns : ℕ) (es : List (Address × StoredBlock)) (seen : List Address) → length es ≤ turns → IsOpen blocks es seen → IsClosed blocks (close turns es seen)
close-closed blocks zero [] seen l o = closed_at_end blocks [] seen refl o
close-closed blocks zero (e ∷ es) seen l o = absurd (omega (arith, l))
close-closed blocks (suc turns) es seen l o = go (close-closed blocks turns (left es seen) (seen ++ pointers_of (pick es seen))) (pick es seen) refl
  where
    go : (length (left es seen) ≤ turns → IsOpen blocks (left es seen) (seen ++ pointers_of (pick es seen)) → IsClosed blocks (close turns (left es seen) (seen ++ pointers_of (pick es seen)))) → (f : Option StoredBlock) → pick es seen ≡ f → IsClosed blocks (close (suc turns) es seen)
    go ih None e = rw (close-none (suc turns) es seen e) (closed_at_end blocks es seen e o)
    go ih (Some stored) e = ih (omega (arith, l, left-length es seen stored e)) (open_step blocks es seen o)

-- all that is reached is listed
pub listed_from_reached : (s : Store) (from : List Address) (b : Address) → Reaches s.blocks from b → Member b (reached_from s from)
listed_from_reached s from b r =
    let closed = close-closed s.blocks (length s.blocks) s.blocks from (le_refl (length s.blocks)) (λ a b p. inr refl) in
    Reached-each (λ b. Member b (reached_from s from)) (λ a m. close-keeps (length s.blocks) s.blocks from a m) (λ a b q m p. closed a b p m) b r

-- ---- what is listed is reached

-- each block is found at its address
abbrev AreFound : List (Address × StoredBlock) → List (Address × StoredBlock) → Type 0
AreFound blocks es = (e : Address × StoredBlock) → Member e es → lookup (is_at (address_cmp e.0)) blocks ≡ Some e.1

member_of_left : (es : List (Address × StoredBlock)) (seen : List Address) (x : Address × StoredBlock) → Member x (left es seen) → Member x es
member_of_left [] seen x m = m
member_of_left (e ∷ es) seen x m = go (member_of_left es seen x) (is_among seen e.0) m
  where
    go : (Member x (left es seen) → Member x es) → (b : Bool) → Member x (cond b es (e ∷ left es seen)) → Member x (e ∷ es)
    go ih true n = inr n
    go ih false (inl n) = inl n
    go ih false (inr n) = inr (ih n)

picked : (es : List (Address × StoredBlock)) (seen : List Address) (stored : StoredBlock) → pick es seen ≡ Some stored → (e : Address × StoredBlock) × Member e es × Member e.0 seen × (e.1 ≡ stored)
picked [] seen stored h = cc
picked (e ∷ es) seen stored h = go (picked es seen stored) (is_among seen e.0) refl h
  where
    go : (pick es seen ≡ Some stored → (x : Address × StoredBlock) × Member x es × Member x.0 seen × (x.1 ≡ stored)) → (b : Bool) → is_among seen e.0 ≡ b → cond b (Some e.1) (pick es seen) ≡ Some stored → (x : Address × StoredBlock) × Member x (e ∷ es) × Member x.0 seen × (x.1 ≡ stored)
    go ih true t n = (e, inl refl, member_from_among e.0 seen t, cc n)
    go ih false t n = let r = ih n in (r.0, inr r.1, r.2, r.3)

close-reached : (blocks : List (Address × StoredBlock)) (from : List Address) (turns : ℕ) (es : List (Address × StoredBlock)) (seen : List Address) → AreFound blocks es → ((a : Address) → Member a seen → Reaches blocks from a) → (b : Address) → Member b (close turns es seen) → Reaches blocks from b
close-reached blocks from zero es seen f h b m = h b m
close-reached blocks from (suc turns) es seen f h b m = close-reached blocks from turns (left es seen) (seen ++ pointers_of (pick es seen)) (λ e n. f e (member_of_left es seen e n)) (λ a n. go a (member-append a seen (pointers_of (pick es seen)) n)) b m
  where
    by_pick : (a : Address) → (p : Option StoredBlock) → pick es seen ≡ p → Member a (pointers_of p) → Reaches blocks from a
    by_pick a None e n = elim n [ ]
    by_pick a (Some stored) e n =
        let r = picked es seen stored e in
        onward (h r.0.0 r.2) (subst (λ p. Member a (pointers_of p)) (sym (f r.0 r.1 ∙ ap (λ x. Some x) r.3)) n)

    go : (a : Address) → Member a seen ⊎ Member a (pointers_of (pick es seen)) → Reaches blocks from a
    go a (inl n) = h a n
    go a (inr n) = by_pick a (pick es seen) refl n

apart : (k : Address) (es : List (Address × StoredBlock)) (x : Address × StoredBlock) → AllByRecursion (λ y. is_same k y ≡ false) (keys_of es) → Member x es → is_same k x.0 ≡ false
apart k [] x d m = elim m [ ]
apart k (e ∷ es) x d (inl h) = subst (λ z. is_same k z.0 ≡ false) (sym h) d.0
apart k (e ∷ es) x d (inr m) = apart k es x d.1 m

pub found_from_distinct : (es : List (Address × StoredBlock)) → IsDistinct is_same (keys_of es) → AreFound es es
found_from_distinct [] d x m = elim m [ ]
found_from_distinct (e ∷ es) d x (inl h) = subst (λ z. lookup (is_at (address_cmp z.0)) (e ∷ es) ≡ Some z.1) (sym h) (rw (at_is_same e.0 e.0, same-refl e.0))
found_from_distinct (e ∷ es) d x (inr m) = go (found_from_distinct es (IsDistinct-tail is_same e.0 (keys_of es) d) x m) (is_same x.0 e.0) refl
  where
    go : lookup (is_at (address_cmp x.0)) es ≡ Some x.1 → (b : Bool) → is_same x.0 e.0 ≡ b → lookup (is_at (address_cmp x.0)) (e ∷ es) ≡ Some x.1
    go ih true t =
        let same : is_same e.0 x.0 ≡ true = subst (λ z. is_same z x.0 ≡ true) (same_from x.0 e.0 t) (same-refl x.0) in
        let other : is_same e.0 x.0 ≡ false = apart e.0 es x (IsDistinct-head is_same e.0 (keys_of es) d) m in
        cc (same, other)
    go ih false t = rw (at_is_same x.0 e.0, t) ih

pub reached_from_listed : (s : Store) (from : List Address) (b : Address) → AreFound s.blocks s.blocks → Member b (reached_from s from) → Reaches s.blocks from b
reached_from_listed s from b f m = close-reached s.blocks from (length s.blocks) s.blocks from f (λ a n. start n) b m

-- ---- both ways

pub listed_is : (s : Store) (from : List Address) (b : Address) → IsDistinct is_same (keys_of s.blocks) → is_among (reached_from s from) b ≡ true → IsReached s from b
listed_is s from b d t = is_from_reached s from b (reached_from_listed s from b (found_from_distinct s.blocks d) (member_from_among b (reached_from s from) t))

pub is_listed : (s : Store) (from : List Address) (b : Address) → IsReached s from b → is_among (reached_from s from) b ≡ true
is_listed s from b r = among_from_member b (reached_from s from) (listed_from_reached s from b (reached_from_is s from b r))
