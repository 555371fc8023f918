-- A row that is read part by part.
use Rattle.std.proofs.Common.{◌≡◌, inl, inr, ℕ, ◌+◌, ◌*◌, ◌-◌, ◌<◌, ◌≤◌, ◌==◌, List, [], ◌∷◌, ◌++◌, Bool, true, false, refl, sym, ap, ◌∙◌, subst, min, length, arith, append-nil, append_assoc, length-append}
use Rattle.hs_asking.proofs.StayLemmas.{stays-refl, stays-trans}
use Rattle.hs_asking.specs.Alone.{Goes}
use Rattle.hs_asking.specs.Seats.{HasSeat}
use Rattle.hs_asking.specs.Staying.{Stays}
use Rattle.hs_limits.specs.declared.address.Address.{Address}
use Rattle.hs_limits.specs.declared.address.Held.{Held}
use Rattle.hs_model.proofs.Members.{Member, member-append, member-append_left, member-append_right}
use Rattle.hs_model.specs.Store.{Store}
use Rattle.hs_tree.proofs.OneFileLemmas.{below_same}
use Rattle.hs_tree.proofs.RowLemmas.{tree_was}
use Rattle.hs_tree.specs.Rows.{IsNoPart, IsNoRow, IsPart, IsRowOf, KeepsFront, RowAt, RowIs, addresses_in}
use Rattle.hs_tree.specs.Trees.{IsTreeBelow, span, stored_cut}

-- ---- what stays

pub keeps_same : (s : Store) (front : List (ℕ × Held)) → KeepsFront s s front
keeps_same s front = record { stays = λ e m. stays-refl s e.1.address; roots = λ key. refl }

pub keeps_trans : (s t u : Store) (front : List (ℕ × Held)) → KeepsFront s t front → KeepsFront t u front → KeepsFront s u front
keeps_trans s t u front h k = record {
  stays = λ e m. stays-trans s t u e.1.address (h.stays e m) (k.stays e m);
  roots = λ key. k.roots key ∙ h.roots key;
}

pub keeps_within : (s t : Store) (front some : List (ℕ × Held)) → ((e : ℕ × Held) → Member e some → Member e front) → KeepsFront s t front → KeepsFront s t some
keeps_within s t front some f h = record { stays = λ e m. h.stays e (f e m); roots = h.roots }

pub goes_keeps : (s t : Store) (name : List ℕ) (es : List (ℕ × Held)) (next : ℕ) (fs some : List (ℕ × Held)) → Goes s t name es next fs → ((e : ℕ × Held) → Member e some → Member e es) → ((e : ℕ × Held) → Member e some → Member e fs) → KeepsFront s t some
goes_keeps s t name es next fs some g f k = record { stays = λ e m. g.stays e (f e m) (k e m); roots = g.roots }

pub without_one : (front : List (ℕ × Held)) (x : ℕ × Held) (rest : List (ℕ × Held)) (e : ℕ × Held) → Member e (front ++ rest) → Member e (front ++ x ∷ rest)
without_one front x rest e m = elim (member-append e front rest m) [ inl p ↦ member-append_left e front (x ∷ rest) p | inr p ↦ member-append_right e front (x ∷ rest) (inr p) ]

pub the_one : (front : List (ℕ × Held)) (x : ℕ × Held) (rest : List (ℕ × Held)) → Member x (front ++ x ∷ rest)
the_one front x rest = member-append_right x front (x ∷ rest) (inl refl)

-- ---- steps

module _ (s : Store) (session : List ℕ) (h : ℕ) (front row : List (ℕ × Held)) (bytes : ℕ) (before : List ℕ) where
  pub starts : (next : ℕ) → HasSeat s session next (front ++ row) → length (front ++ row) + 64 * (h + 1) ≤ 193 → RowAt s s session h front row bytes before row bytes before
  starts next seat few = record {
    next = next;
    seat = seat;
    few = few;
    keeps = keeps_same s (front ++ row);
    given = [];
    out_is = sym (append-nil before);
    found = λ tail r. r;
    only = λ file r. (file, refl, r);
  }

  pub goes_on : (t u : Store) (x : ℕ × Held) (rest : List (ℕ × Held)) (left : ℕ) (out after : List ℕ) (part : ℕ) → part ≡ min left (span stored_cut h) → RowAt s t session h front row bytes before (x ∷ rest) left out → IsPart t u session h front x rest part out after → RowAt s u session h front row bytes before rest (left - part) after
  unfolding IsRowOf
  goes_on t u x rest left out after part pe r p =
      let c : List ℕ = p.bytes in
      let there : IsTreeBelow s h x.1.address c = tree_was s t h x.1.address c (r.keeps.stays x (the_one front x rest)) p.tree in
      let some : 0 < part = p.some in
      let long : length c ≡ part = p.long in
      let some_left : 0 < left = omega (arith, pe, some) in
      let is_long : length c ≡ min left (span stored_cut h) = long ∙ pe in
      let l1 : length (front ++ x ∷ rest) ≡ length front + length (x ∷ rest) = length-append front (x ∷ rest) in
      let l2 : length (front ++ rest) ≡ length front + length rest = length-append front rest in
      let few : length (front ++ x ∷ rest) + 64 * (h + 1) ≤ 193 = r.few in
      record {
        next = p.next;
        seat = p.seat;
        few = omega (arith, l1, l2, few);
        keeps = keeps_trans s t u (front ++ rest) (keeps_within s t (front ++ x ∷ rest) (front ++ rest) (without_one front x rest) r.keeps) p.keeps;
        given = r.given ++ c;
        out_is = p.given ∙ (ap (λ z. z ++ c) r.out_is ∙ append_assoc before r.given c);
        found = λ tail q. subst (λ z. IsRowOf s h (addresses_in row) bytes z) (sym (append_assoc r.given c tail))
            (r.found (c ++ tail) (c, tail, some_left, refl, is_long, there, subst (λ z. IsRowOf s h (addresses_in rest) (left - z) tail) (sym long) q));
        only = λ file q.
            let o = r.only file q in
            let k = o.2 in
            let same : k.0 ≡ c = below_same s h x.1.address k.0 c k.5 there in (
              k.1,
              o.1 ∙ (ap (λ z. r.given ++ z) k.3 ∙ (ap (λ z. r.given ++ (z ++ k.1)) same ∙ sym (append_assoc r.given c k.1))),
              subst (λ z. IsRowOf s h (addresses_in rest) (left - z) k.1) (ap (λ z. length z) same ∙ long) k.6,
            );
      }

  pub goes_wrong : (t u : Store) (x : ℕ × Held) (rest : List (ℕ × Held)) (left : ℕ) (out : List ℕ) (part : ℕ) → part ≡ min left (span stored_cut h) → 0 < span stored_cut h → RowAt s t session h front row bytes before (x ∷ rest) left out → IsNoPart t u h front x rest part → ((s t : Store) (a : Address) (c : List ℕ) → Stays s t a → IsTreeBelow s h a c → IsTreeBelow t h a c) → IsNoRow s u h front row bytes
  unfolding IsRowOf
  goes_wrong t u x rest left out part pe wide r p stays = record {
    none = λ file q.
        let o = r.only file q in
        let k = o.2 in
        let some : 0 < left = k.2 in
        let positive : 0 < part = omega (arith, pe, some, wide) in
        p.none k.0 positive (k.4 ∙ sym pe) (stays s t x.1.address k.0 (r.keeps.stays x (the_one front x rest)) k.5);
    keeps = keeps_trans s t u front (keeps_within s t (front ++ x ∷ rest) front (λ e m. member-append_left e front (x ∷ rest) m) r.keeps) (keeps_within t u (front ++ rest) front (λ e m. member-append_left e front rest m) p.keeps);
  }

  -- more handles than parts, or fewer
  pub is_over : (t : Store) (left : ℕ) (out : List ℕ) → RowAt s t session h front row bytes before [] left out → (good : Bool) → good ≡ (left == 0) → RowIs s t session h front row bytes before out good
  unfolding IsRowOf
  is_over t left out r true e =
      let none : left ≡ 0 = grind (arith, e) in
      record {
        file = r.given;
        given = r.out_is;
        is = subst (λ z. IsRowOf s h (addresses_in row) bytes z) (append-nil r.given) (r.found [] (none, refl));
        next = r.next;
        seat = subst (λ z. HasSeat t session r.next z) (append-nil front) r.seat;
        keeps = keeps_within s t (front ++ []) front (λ e m. member-append_left e front [] m) r.keeps;
      }
  is_over t left out r false e = record {
    none = λ file q. let o = r.only file q in let z : left ≡ 0 = o.2.0 in grind (arith, e, z);
    keeps = keeps_within s t (front ++ []) front (λ e m. member-append_left e front [] m) r.keeps;
  }
