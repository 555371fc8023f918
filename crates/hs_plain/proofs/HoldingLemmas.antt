-- What a session holds, by its handles one after another.
use Rattle.std.proofs.Common.{◌≡◌, ◌∙◌, ◌+◌, ℕ, arith, List, [], ◌∷◌, Bool, true, false, cond, ◌||◌, ◌==◌, refl, sym, ap, subst, Option, Some, None, Ordering, bytes_eq, nat_le}
use Rattle.std.proofs.lemmas.Bool.{and_from, and_parts, or_left, or_right}
use Rattle.std.proofs.lemmas.Bool.Decides.{nat_tests}
use Rattle.std.proofs.lemmas.Map.Lookups.{CmpEqualImpliesEq, exact_bytes, exact_unsigned}
use Rattle.std.proofs.lemmas.Map.Views.{tells_apart}
use Rattle.std.specs.BTreeMap.{is_at}
use Rattle.std.specs.List.{AllByRecursion, list_any}
use Rattle.std.specs.Map.{keys_of, lookup}
use Rattle.std.specs.Option.{option_map_or}
use Rattle.std.specs.Cmp.Lexicographic.{slice_cmp}
use Rattle.std.specs.Ordering.{nat_cmp}
use Rattle.hs_limits.specs.declared.address.Address.{Address}
use Rattle.hs_limits.specs.declared.address.Held.{Held}
use Rattle.hs_limits.specs.Epoch.{IsFresh}
use Rattle.hs_model.proofs.Members.{same-refl, same_from}
use Rattle.hs_model.specs.Deeds.{HoldsFresh, IsHeldFresh, IsHeldSomewhere}
use Rattle.hs_model.specs.Store.{Session, Store, held_at, held_in, session_at}
use Rattle.hs_plain.specs.Holding.{has_each, has_fresh, has_some, is_fresh_of, is_held, some_has}

-- ---- tests of the keys of a map

module _ {K : Type 0} where
  some_key : (f : K → Bool) (ks : List K) → list_any f ks ≡ true → (k : K) × (f k ≡ true)
  some_key f [] h = absurd (cc h)
  some_key f (k ∷ ks) h = go (some_key f ks) (f k) refl h
    where
      go : (list_any f ks ≡ true → (k : K) × (f k ≡ true)) → (b : Bool) → f k ≡ b → (b || list_any f ks) ≡ true → (k : K) × (f k ≡ true)
      go ih true e h = (k, e)
      go ih false e h = ih h

module _ {K V : Type 0} where
  -- where a key of a map passes, one does
  key_passes : (cmp : K → K → Ordering) → CmpEqualImpliesEq cmp → (f : K → Bool) (es : List (K × V)) (k : K) (v : V) → lookup (is_at (cmp k)) es ≡ Some v → f k ≡ true → list_any f (keys_of es) ≡ true
  key_passes cmp exact f [] k v h e = absurd (cc h)
  key_passes cmp exact f (x ∷ es) k v h e = go (key_passes cmp exact f es k v) (is_at (cmp k) x.0) refl h
    where
      go : (lookup (is_at (cmp k)) es ≡ Some v → f k ≡ true → list_any f (keys_of es) ≡ true)
          → (b : Bool) → is_at (cmp k) x.0 ≡ b → cond b (Some x.1) (lookup (is_at (cmp k)) es) ≡ Some v → (f x.0 || list_any f (keys_of es)) ≡ true
      go ih true at h = or_left (f x.0) (list_any f (keys_of es)) (subst (λ z. f z ≡ true) (tells_apart exact k x.0 at) e)
      go ih false at h = or_right (f x.0) (list_any f (keys_of es)) (ih h e)

module _ {V : Type 0} where
  -- a value that passes
  passing : (test : V → Bool) (o : Option V) → option_map_or test o false ≡ true → (v : V) × (o ≡ Some v) × (test v ≡ true)
  passing test None h = absurd (cc h)
  passing test (Some v) h = (v, refl, h)

-- ---- handles

-- a handle that stands for what passes
record Stands (session : Session) (test : Held → Bool) : Type 0 where
  handle : ℕ
  held : Held
  at : held_in (Some session) handle ≡ Some held
  passes : test held ≡ true

stands_found : (session : Session) (test : Held → Bool) → has_some test session ≡ true → Stands session test
stands_found session test h =
    let k = some_key (λ handle. option_map_or test (held_in (Some session) handle) false) (keys_of session.handles) h in
    let v = passing test (held_in (Some session) k.0) k.1 in
    record { handle = k.0; held = v.0; at = v.1; passes = v.2 }

stands_only : (session : Session) (test : Held → Bool) (handle : ℕ) (held : Held) → held_in (Some session) handle ≡ Some held → test held ≡ true → has_some test session ≡ true
stands_only session test handle held at passes =
    key_passes nat_cmp exact_unsigned (λ handle. option_map_or test (held_in (Some session) handle) false) session.handles handle held at (ap (λ o. option_map_or test o false) at ∙ passes)

-- ---- an address in a fresh epoch

fresh_from : (now epoch : ℕ) → nat_le now (epoch + 1) ≡ true → IsFresh epoch now
fresh_from now epoch h = grind (arith, nat_tests, h)

fresh_test : (now epoch : ℕ) → IsFresh epoch now → nat_le now (epoch + 1) ≡ true
fresh_test now epoch h = grind (arith, nat_tests, h)

module _ (s : Store) (name : List ℕ) (session : Session) (here : session_at s name ≡ Some session) where
  pub fresh_found : (now : ℕ) (a : Address) → has_fresh session now a ≡ true → HoldsFresh s name now a
  fresh_found now a h =
      let r = stands_found session (is_fresh_of now a) h in
      let parts = and_parts (bytes_eq r.held.address.0 a.0) (nat_le now (r.held.epoch + 1)) r.passes in
      let same : r.held.address ≡ a = same_from r.held.address a parts.0 in
      record {
        handle = r.handle;
        epoch = r.held.epoch;
        held = ap (λ o. held_in o r.handle) here ∙ r.at ∙ ap (λ (z : Address). Some (record { address = z; epoch = r.held.epoch })) same;
        fresh = fresh_from now r.held.epoch parts.1;
      }

  pub fresh_only : (now : ℕ) (a : Address) → HoldsFresh s name now a → has_fresh session now a ≡ true
  fresh_only now a h =
      stands_only session (is_fresh_of now a) h.handle (record { address = a; epoch = h.epoch }) (sym (ap (λ o. held_in o h.handle) here) ∙ h.held)
      (and_from (bytes_eq a.0 a.0) (nat_le now (h.epoch + 1)) (same-refl a) (fresh_test now h.epoch h.fresh))

  pub each_found : (now : ℕ) (addresses : List Address) → has_each session now addresses ≡ true → AllByRecursion (HoldsFresh s name now) addresses
  each_found now [] h = tt
  each_found now (a ∷ rest) h =
      let parts = and_parts (has_fresh session now a) (has_each session now rest) h in
      (fresh_found now a parts.0, each_found now rest parts.1)

  pub each_only : (now : ℕ) (addresses : List Address) → AllByRecursion (HoldsFresh s name now) addresses → has_each session now addresses ≡ true
  each_only now [] h = refl
  each_only now (a ∷ rest) h = and_from (has_fresh session now a) (has_each session now rest) (fresh_only now a h.0) (each_only now rest h.1)

  -- ---- this, with its epoch

  pub held_found : (held : Held) → has_some (is_held held) session ≡ true → (handle : ℕ) × (held_at s name handle ≡ Some held)
  held_found held h =
      let r = stands_found session (is_held held) h in
      let parts = and_parts (bytes_eq r.held.address.0 held.address.0) (r.held.epoch == held.epoch) r.passes in
      let same : r.held.address ≡ held.address = same_from r.held.address held.address parts.0 in
      let epoch : r.held.epoch ≡ held.epoch = grind (arith, nat_tests, parts.1) in
      (r.handle, ap (λ o. held_in o r.handle) here ∙ r.at ∙ (λ i. Some (record { address = same i; epoch = epoch i })))

  pub held_only : (held : Held) (handle : ℕ) → held_at s name handle ≡ Some held → has_some (is_held held) session ≡ true
  held_only held handle at =
      stands_only session (is_held held) handle held (sym (ap (λ o. held_in o handle) here) ∙ at)
      (and_from (bytes_eq held.address.0 held.address.0) (held.epoch == held.epoch) (same-refl held.address) (grind (arith, nat_tests)))

-- ---- some session

pub any_found : (s : Store) (now : ℕ) (a : Address) → list_any (some_has s now a) (keys_of s.sessions) ≡ true → IsHeldFresh s now a
any_found s now a h =
    let k = some_key (some_has s now a) (keys_of s.sessions) h in
    let v = passing (λ (session : Session). has_fresh session now a) (session_at s k.0) k.1 in
    record { name = k.0; held = fresh_found s k.0 v.0 v.1 now a v.2 }

pub any_only : (s : Store) (now : ℕ) (a : Address) → IsHeldFresh s now a → list_any (some_has s now a) (keys_of s.sessions) ≡ true
any_only s now a h = go (session_at s h.name) refl
  where
    go : (o : Option Session) → session_at s h.name ≡ o → list_any (some_has s now a) (keys_of s.sessions) ≡ true
    go None at = let never = sym (ap (λ o. held_in o h.held.handle) at) ∙ h.held.held in absurd (cc never)
    go (Some session) at =
        key_passes (slice_cmp nat_cmp) exact_bytes (some_has s now a) s.sessions h.name session at
        (ap (λ o. option_map_or (λ session. has_fresh session now a) o false) at ∙ fresh_only s h.name session at now a h.held)

-- in some epoch
pub somewhere_found : (s : Store) (a : Address) → IsHeldFresh s 0 a → IsHeldSomewhere s a
somewhere_found s a h = record { name = h.name; handle = h.held.handle; epoch = h.held.epoch; held = h.held.held }

pub somewhere_only : (s : Store) (a : Address) → IsHeldSomewhere s a → IsHeldFresh s 0 a
somewhere_only s a h = record { name = h.name; held = record { handle = h.handle; epoch = h.epoch; held = h.held; fresh = omega arith } }
