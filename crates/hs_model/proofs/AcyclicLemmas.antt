-- Where no pointers lead back to a block, what stays is what is reached.
use Rattle.std.proofs.Common.{◌≡◌, ◌⊎◌, inl, inr, List, [], ◌∷◌, ◌++◌, Option, Some, None, refl, sym, subst, IsSome}
use Rattle.hs_limits.specs.declared.address.Address.{Address}
use Rattle.hs_model.specs.declared.store.StoredBlock.{StoredBlock}
use Rattle.hs_model.specs.Listed.{IsListOf, IsPresent}
use Rattle.hs_model.specs.Peel.{IsStaying, IsAcyclic}
use Rattle.hs_model.specs.Reach.{Leads, IsReached, pointers_of}
use Rattle.hs_model.specs.Store.{Store, block_at}
use Rattle.hs_model.proofs.Members.{Member, member_from_contains, contains_from_member}
use Rattle.hs_model.proofs.PeelLemmas.{Supports, supports_from_is, is_from_supports}
use Rattle.hs_model.proofs.ReachLemmas.{Reached-each, reached_from_is, Reaches}

-- ---- lists whose members each rest on another one or on something good

module _ {A : Type 0} (Before : A → A → Type 0) (Good : A → Type 0) (joins : (x y z : A) → Before x y → Before y z → Before x z) (apart : (x : A) → Before x x → ⊥) (carries : (x y : A) → Good x → Before x y → Good y) where
  abbrev Rests : List A → Type 0
  Rests list = (a : A) → Member a list → Good a ⊎ ((b : A) × Member b list × Before b a)

  -- where the first is good the others rest on each other or on something good
  over_good : (x : A) (list : List A) → Good x → (b : A) → Good b ⊎ ((c : A) × Member c (x ∷ list) × Before c b) → Good b ⊎ ((c : A) × Member c list × Before c b)
  over_good x list g b (inl h) = inl h
  over_good x list g b (inr r) = elim r.1 [ inl e ↦ inl (carries x b g (subst (λ z. Before z b) e r.2)) | inr n ↦ inr (r.0, n, r.2) ]

  -- where it rests on another, that one stands for it
  over_other : (x : A) (list : List A) (y : A) → Member y list → Before y x → (b : A) → Good b ⊎ ((c : A) × Member c (x ∷ list) × Before c b) → Good b ⊎ ((c : A) × Member c list × Before c b)
  over_other x list y n q b (inl h) = inl h
  over_other x list y n q b (inr r) = elim r.1 [ inl e ↦ inr (y, n, joins y x b q (subst (λ z. Before z b) e r.2)) | inr o ↦ inr (r.0, o, r.2) ]

  pub rests_good : (list : List A) → Rests list → (a : A) → Member a list → Good a
  rests_good [] r a m = elim m [ ]
  rests_good (x ∷ list) r a m = go (rests_good list) (r x (inl refl)) m
    where
      other : (Rests list → (a : A) → Member a list → Good a) → (y : A) → (y ≡ x) ⊎ Member y list → Before y x → Member a (x ∷ list) → Good a
      other ih y (inl e) q k = absurd (apart x (subst (λ z. Before z x) e q))
      other ih y (inr n) q (inr o) = ih (λ b t. over_other x list y n q b (r b (inr t))) a o
      other ih y (inr n) q (inl e) = subst (λ z. Good z) (sym e) (carries y x (ih (λ b t. over_other x list y n q b (r b (inr t))) y n) q)

      go : (Rests list → (a : A) → Member a list → Good a) → Good x ⊎ ((b : A) × Member b (x ∷ list) × Before b x) → Member a (x ∷ list) → Good a
      go ih (inl g) (inl e) = subst (λ z. Good z) (sym e) g
      go ih (inl g) (inr n) = ih (λ b o. over_good x list g b (r b (inr o))) a n
      go ih (inr w) k = other ih w.0 w.1 w.2 k

-- ---- one address before another

abbrev Before : Store → Address → Address → Type 0
Before s a b = (next : Address) × (path : List Address) × Leads s a (next ∷ path) b

leads-append : (s : Store) (a : Address) (p : List Address) (b next : Address) (q : List Address) (c : Address) → Leads s a p b → Leads s b (next ∷ q) c → Leads s a (p ++ next ∷ q) c
leads-append s a [] b next q c e l = subst (λ z. Leads s z (next ∷ q) c) (sym e) l
leads-append s a (x ∷ p) b next q c k l = (k.0, leads-append s x p b next q c k.1 l)

before_joins : (s : Store) (a b c : Address) → Before s a b → Before s b c → Before s a c
before_joins s a b c p q = (p.0, p.1 ++ q.0 ∷ q.1, (p.2.0, leads-append s p.0 p.1 b q.0 q.1 c p.2.1 q.2))

reached_on : (s : Store) (from : List Address) (a b : Address) → IsReached s from a → Before s a b → IsReached s from b
reached_on s from a b r p = record { start = r.start; path = r.path ++ p.0 ∷ p.1; anchored = r.anchored; leads = leads-append s r.start r.path a p.0 p.1 b r.leads p.2 }

-- ---- what stays is reached

pub staying_reached : (s : Store) (anchors : List Address) → IsAcyclic s → (a : Address) → IsStaying s anchors a → IsReached s anchors a
staying_reached s anchors acyclic a t =
    rests_good (Before s) (IsReached s anchors) (before_joins s) (λ x p. acyclic x p.0 p.1 p.2) (reached_on s anchors) t.list (λ b m. go b ((supports_from_is s anchors t.list t.supported).held b m)) a (member_from_contains a t.list t.listed)
  where
    go : (b : Address) → Member b anchors ⊎ ((c : Address) × Member c t.list × Member b (pointers_of (block_at s c))) → IsReached s anchors b ⊎ ((c : Address) × Member c t.list × Before s c b)
    go b (inl m) = inl (record { start = b; path = []; anchored = contains_from_member b anchors m; leads = refl })
    go b (inr r) = inr (r.0, r.1, (b, [], (contains_from_member b (pointers_of (block_at s r.0)) r.2, refl)))

-- ---- what is reached and present stays

points_present : (s : Store) (a b : Address) → Member b (pointers_of (block_at s a)) → IsPresent s a
points_present s a b m = go (block_at s a) m
  where
    go : (o : Option StoredBlock) → Member b (pointers_of o) → IsSome o
    go None m = elim m [ ]
    go (Some stored) m = refl

stays_one_more : (s : Store) (anchors list : List Address) (b : Address) → Supports s anchors list → IsPresent s b → Member b anchors ⊎ ((c : Address) × Member c list × Member b (pointers_of (block_at s c))) → Supports s anchors (b ∷ list)
stays_one_more s anchors list b u p h = record { present = present; held = held }
  where
    present : (a : Address) → Member a (b ∷ list) → IsPresent s a
    present a (inl e) = subst (λ z. IsPresent s z) (sym e) p
    present a (inr m) = u.present a m

    more : (a : Address) → Member a anchors ⊎ ((c : Address) × Member c list × Member a (pointers_of (block_at s c))) → Member a anchors ⊎ ((c : Address) × Member c (b ∷ list) × Member a (pointers_of (block_at s c)))
    more a (inl m) = inl m
    more a (inr r) = inr (r.0, inr r.1, r.2)

    held : (a : Address) → Member a (b ∷ list) → Member a anchors ⊎ ((c : Address) × Member c (b ∷ list) × Member a (pointers_of (block_at s c)))
    held a (inl e) = more a (subst (λ z. Member z anchors ⊎ ((c : Address) × Member c list × Member z (pointers_of (block_at s c)))) (sym e) h)
    held a (inr m) = more a (u.held a m)

pub reached_stays : (s : Store) (anchors : List Address) (a : Address) → IsReached s anchors a → IsPresent s a → IsStaying s anchors a
reached_stays s anchors a r p = Reached-each (λ b. IsPresent s b → IsStaying s anchors b) begins goes a (reached_from_is s anchors a r) p
  where
    begins : (b : Address) → Member b anchors → IsPresent s b → IsStaying s anchors b
    begins b m q =
        let u : Supports s anchors [] = record { present = λ c n. absurd n; held = λ c n. absurd n } in
        record { list = b ∷ []; supported = is_from_supports s anchors (b ∷ []) (stays_one_more s anchors [] b u q (inl m)); listed = contains_from_member b (b ∷ []) (inl refl) }

    goes : (b c : Address) → Reaches s.blocks anchors b → (IsPresent s b → IsStaying s anchors b) → Member c (pointers_of (block_at s b)) → IsPresent s c → IsStaying s anchors c
    goes b c q ih m k =
        let t = ih (points_present s b c m) in
        record { list = c ∷ t.list; supported = is_from_supports s anchors (c ∷ t.list) (stays_one_more s anchors t.list c (supports_from_is s anchors t.list t.supported) k (inr (b, member_from_contains b t.list t.listed, m))); listed = contains_from_member c (c ∷ t.list) (inl refl) }

pub gone_unreached : (s : Store) (anchors list : List Address) → IsListOf list (λ a. IsPresent s a × ¬ IsStaying s anchors a) → IsAcyclic s → IsListOf list (λ a. IsPresent s a × ¬ IsReached s anchors a)
gone_unreached s anchors list g acyclic a =
    (λ t. (let h = (g a).0 t in (h.0, λ r. h.1 (reached_stays s anchors a r h.0))), λ h. (g a).1 (h.0, λ t. h.1 (staying_reached s anchors acyclic a t)))
