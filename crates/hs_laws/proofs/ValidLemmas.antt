-- Valid stores in the terms of members.
use Rattle.std.proofs.Common.{◌≡◌, ℕ, ◌+◌, ◌≤◌, ◌⊎◌, inl, inr, List, ◌++◌, Bool, true, refl, sym, subst, map, filter, is_some}
use Rattle.std.specs.BTreeMap.{is_at}
use Rattle.std.specs.Map.{lookup}
use Rattle.hs_limits.specs.declared.address.Address.{Address}
use Rattle.hs_limits.specs.declared.address.Held.{Held}
use Rattle.hs_model.specs.declared.store.StoredBlock.{StoredBlock}
use Rattle.hs_model.specs.Reach.{anchors}
use Rattle.hs_model.specs.Store.{Store, Root, Session, address_cmp, block_at, epoch_at}
use Rattle.hs_laws.specs.Held.{IsHeld}
use Rattle.hs_laws.specs.Valid.{least_epoch, AreEpochsInStep, rests_on, IsValid}
use Rattle.hs_model.proofs.Members.{Member, contains_from_member, member_from_contains, member-append_left, member-append_right, member-append, member-map, member_of_map, member-filter, member_of_filter}
use Rattle.hs_model.proofs.ReachLemmas.{Reached-each, onward, Reaches, reached_from_is, is_from_reached}
use Rattle.hs_laws.proofs.SweepLemmas.{some_from_member, member_from_some}

-- ---- starts: of the roots that pass a test, and of the gifts that do

abbrev pub starts : (Root → Bool) → (Address × ℕ → Bool) → List Root → List (Address × ℕ) → List Address
starts p q roots given = map (λ root. root.address) (filter p roots) ++ map (λ e. e.0) (filter q given)

pub starts-root : (p : Root → Bool) (q : Address × ℕ → Bool) (roots : List Root) (given : List (Address × ℕ)) (root : Root) → Member root roots → p root ≡ true → Member root.address (starts p q roots given)
starts-root p q roots given root m t = member-append_left root.address (map (λ (r : Root). r.address) (filter p roots)) (map (λ (e : Address × ℕ). e.0) (filter q given)) (member-map (λ (r : Root). r.address) root (filter p roots) (member-filter p root roots m t))

pub starts-given : (p : Root → Bool) (q : Address × ℕ → Bool) (roots : List Root) (given : List (Address × ℕ)) (e : Address × ℕ) → Member e given → q e ≡ true → Member e.0 (starts p q roots given)
starts-given p q roots given e m t = member-append_right e.0 (map (λ (r : Root). r.address) (filter p roots)) (map (λ (e : Address × ℕ). e.0) (filter q given)) (member-map (λ (e : Address × ℕ). e.0) e (filter q given) (member-filter q e given m t))

pub starts-each : (P : Address → Type 0) (p : Root → Bool) (q : Address × ℕ → Bool) (roots : List Root) (given : List (Address × ℕ)) → ((root : Root) → Member root roots → p root ≡ true → P root.address) → ((e : Address × ℕ) → Member e given → q e ≡ true → P e.0) → (a : Address) → Member a (starts p q roots given) → P a
starts-each P p q roots given f g a m = go (member-append a (map (λ (r : Root). r.address) (filter p roots)) (map (λ (e : Address × ℕ). e.0) (filter q given)) m)
  where
    go : Member a (map (λ (r : Root). r.address) (filter p roots)) ⊎ Member a (map (λ (e : Address × ℕ). e.0) (filter q given)) → P a
    go (inl n) =
        let x = member_of_map (λ (r : Root). r.address) a (filter p roots) n in
        let y = member_of_filter p x.0 roots x.1 in
        subst P (sym x.2) (f x.0 y.0 y.1)
    go (inr n) =
        let x = member_of_map (λ (e : Address × ℕ). e.0) a (filter q given) n in
        let y = member_of_filter q x.0 given x.1 in
        subst P (sym x.2) (g x.0 y.0 y.1)

-- where the starts are reached from others, so is all that they reach
pub Reaches-more : (blocks : List (Address × StoredBlock)) (from more : List Address) → ((a : Address) → Member a from → Reaches blocks more a) → (b : Address) → Reaches blocks from b → Reaches blocks more b
Reaches-more blocks from more f b r = Reached-each (λ b. Reaches blocks more b) f (λ a b q i p. onward i p) b r

-- ---- what is held

abbrev pub HeldIn : List (List ℕ × Session) → Held → Type 0
HeldIn sessions held = (e : List ℕ × Session) × (h : ℕ × Held) × Member e sessions × Member h e.1.handles × (h.1 ≡ held)

pub held_in_from : (s : Store) (held : Held) → IsHeld s held → HeldIn s.sessions held
held_in_from s held h = ((h.name, h.session), (h.handle, held), member_from_contains (h.name, h.session) s.sessions h.opened, member_from_contains (h.handle, held) h.session.handles h.holds, refl)

pub held_from_in : (s : Store) (held : Held) → HeldIn s.sessions held → IsHeld s held
held_from_in s held h = record { name = h.0.0; session = h.0.1; handle = h.1.0; opened = contains_from_member h.0 s.sessions h.2; holds = contains_from_member (h.1.0, held) h.0.1.handles (subst (λ z. Member (h.1.0, z) h.0.1.handles) h.4 h.3) }

-- ---- valid

-- what is held, at a least epoch, from the parts that it reads
abbrev pub AreHeld : Store → ℕ → List (List ℕ × Session) → Type 0
AreHeld s least sessions = (held : Held) → HeldIn sessions held → least ≤ held.epoch + 1 → Reaches s.blocks (rests_on s held.epoch) held.address

pub record Gifts (s : Store) : Type 0 where
  pub given_present : (e : Address × ℕ) → Member e s.given → is_some (lookup (is_at (address_cmp e.0)) s.blocks) ≡ true
  pub present_given : (e : Address × StoredBlock) → Member e s.blocks → (epoch : ℕ) × Member (e.0, epoch) s.given
  pub born : (a : Address) (stored : StoredBlock) (epoch : ℕ) → Member (a, stored) s.blocks → Member (a, epoch) s.given → stored.born ≤ epoch
  pub now : (e : Address × ℕ) → Member e s.given → e.1 ≤ epoch_at s e.0

pub record Valid (s : Store) : Type 0 where
  pub epochs : AreEpochsInStep s
  pub anchored : (a : Address) → Reaches s.blocks (anchors s (least_epoch s)) a → is_some (block_at s a) ≡ true
  pub held : AreHeld s (least_epoch s) s.sessions
  pub given : Gifts s

pub valid_from_is : (s : Store) → IsValid s → Valid s
valid_from_is s v = record {
  epochs = v.epochs;
  anchored = λ a r. v.anchored a (is_from_reached s (anchors s (least_epoch s)) a r);
  held = λ h i l. reached_from_is s (rests_on s h.epoch) h.address (v.held h (held_from_in s h i) l);
  given = record {
    given_present = λ e m. v.given.given_is_present e.0 e.1 (contains_from_member e s.given m);
    present_given = λ e m. let g = v.given.present_is_given e.0 (some_from_member s.blocks e m) in (g.0, member_from_contains (e.0, g.0) s.given g.1);
    born = λ a stored epoch m n. v.given.after_birth a stored epoch (contains_from_member (a, stored) s.blocks m) (contains_from_member (a, epoch) s.given n);
    now = λ e m. v.given.until_now e.0 e.1 (contains_from_member e s.given m);
  };
}

pub is_from_valid : (s : Store) → Valid s → IsValid s
is_from_valid s v = record {
  epochs = v.epochs;
  anchored = λ a r. v.anchored a (reached_from_is s (anchors s (least_epoch s)) a r);
  held = λ h i l. is_from_reached s (rests_on s h.epoch) h.address (v.held h (held_in_from s h i) l);
  given = record {
    given_is_present = λ a epoch m. v.given.given_present (a, epoch) (member_from_contains (a, epoch) s.given m);
    present_is_given = λ a t. let b = member_from_some s.blocks a t in let g = v.given.present_given (a, b.0) b.1 in (g.0, contains_from_member (a, g.0) s.given g.1);
    after_birth = λ a stored epoch m n. v.given.born a stored epoch (member_from_contains (a, stored) s.blocks m) (member_from_contains (a, epoch) s.given n);
    until_now = λ a epoch m. v.given.now (a, epoch) (member_from_contains (a, epoch) s.given m);
  };
}
