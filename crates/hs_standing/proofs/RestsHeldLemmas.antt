-- What the handles of sessions stand for rests on what was given, where the store with these sessions is valid.
use Rattle.std.proofs.Common.{◌≡◌, sym, subst, inl, inr, ℕ, ◌+◌, ◌≤◌, Bool, true, false, cond, List, [], ◌∷◌, fold, map, min, Option, Some, None, is_some, refl, arith, unwrap_or}
use Rattle.std.proofs.lemmas.Bool.{and_parts}
use Rattle.std.specs.BTreeMap.{is_at}
use Rattle.std.specs.List.{list_all}
use Rattle.std.specs.Map.{lookup}
use Rattle.std.specs.Ordering.{nat_cmp}
use Rattle.std.specs.Prelude.{Contains, nat_le}
use Rattle.hs_answered.specs.Standing.{store_with}
use Rattle.hs_effects.specs.Logged.{HasBlock}
use Rattle.hs_fold.specs.Runs.Facts.{Catalogue as Folded}
use Rattle.hs_fold.specs.Runs.Opened.{store_of}
use Rattle.hs_fold.specs.Shards.Fits.{Rests}
use Rattle.hs_laws.specs.Valid.{IsValid, rests_on, stands_in}
use Rattle.hs_laws.specs.Valid.{least_epoch as lowest_epoch}
use Rattle.hs_laws.proofs.EpochLemmas.{nat_le-true, nat_le_from}
use Rattle.hs_laws.proofs.ValidLemmas.{HeldIn, Reaches-more, Valid, starts-each, starts-given, starts-root, valid_from_is}
use Rattle.hs_limits.specs.declared.address.Address.{Address}
use Rattle.hs_limits.specs.declared.address.Held.{Held}
use Rattle.hs_limits.specs.declared.limits.TheConstants.{LAST_EPOCH}
use Rattle.hs_model.specs.Store.{Store}
use Rattle.hs_model.proofs.Members.{Member, member-map, member_from_contains}
use Rattle.hs_model.proofs.ReachLemmas.{is_from_reached, start}
use Rattle.hs_ops.specs.Speaking.{asked_block, helds, least_epoch}
use Rattle.hs_ops.specs.Views.{as_session}
use Rattle.hs_shown.specs.Showing.{as_sessions}
use Rattle.hs_tokens.specs.Seats.{Seat, Seats, found, held_at, name_cmp, nothing, seat_of}

-- ---- what is found is a member

found_member : {K V : Type 0} (test : K → Bool) (es : List (K × V)) (v : V) → lookup test es ≡ Some v → (k : K) × Member (k, v) es
found_member test [] v e = absurd (cc e)
found_member {K} {V} test (x ∷ es) v e = go (test x.0) e (found_member test es v)
  where
    go : (b : Bool) → cond b (Some x.1) (lookup test es) ≡ Some v → (lookup test es ≡ Some v → (k : K) × Member (k, v) es) → (k : K) × Member (k, v) (x ∷ es)
    go true f ih = (let is : v ≡ x.1 = cc f in (x.0, inl (λ i. (x.0, is i))))
    go false f ih = let r = ih f in (r.0, inr r.1)

-- what a handle stands for that is held is held by a session of the store
held_in : (seats : Seats) (session : List ℕ) (handle : ℕ) → is_some (held_at (seat_of session seats) handle) ≡ true → HeldIn (as_sessions seats) (found seats session handle)
held_in seats session handle some = there (seat_of session seats) refl (held_at (seat_of session seats) handle) refl some
  where
    there : (seat : Option Seat) → seat_of session seats ≡ seat → (x : Option Held) → held_at seat handle ≡ x → is_some x ≡ true → HeldIn (as_sessions seats) (unwrap_or x nothing)
    there seat at None is some = absurd (cc some)
    there None at (Some held) is some = absurd (cc is)
    there (Some seat) at (Some held) is some =
        let a = found_member (is_at (name_cmp session)) seats seat at in
        let b = found_member (is_at (nat_cmp handle)) seat.handles held is in
        ((a.0, as_session seat), (b.0, held), member-map (λ (e : List ℕ × Seat). (e.0, as_session e.1)) (a.0, seat) seats a.1, b.1, refl)

-- ---- the handles of a write

low : (i : ℕ) (all : List Held) → fold (λ least (h : Held). min least h.epoch) i all ≤ i
low i [] = omega arith
low i (x ∷ xs) = let rest = low (min i x.epoch) xs in omega (arith, rest)

-- an address is what one of some handles stands for, which is held, and was given no earlier than the earliest of them
record IsUnder (seats : Seats) (session handles : List ℕ) (a : Address) : Type 0 where
  handle : ℕ
  is : a ≡ (found seats session handle).address
  some : is_some (held_at (seat_of session seats) handle) ≡ true
  since : (i : ℕ) → fold (λ least (h : Held). min least h.epoch) i (helds seats session handles) ≤ (found seats session handle).epoch

under : (seats : Seats) (session handles : List ℕ) → list_all (λ handle. is_some (held_at (seat_of session seats) handle)) handles ≡ true → (a : Address)
    → Member a (map (λ (h : Held). h.address) (helds seats session handles)) → IsUnder seats session handles a
under seats session [] all a m = elim m [ ]
under seats session (h ∷ handles) all a (inl e) = record {
  handle = h;
  is = e;
  some = (and_parts (is_some (held_at (seat_of session seats) h)) (list_all (λ handle. is_some (held_at (seat_of session seats) handle)) handles) all).0;
  since = λ i. (let rest = low (min i (found seats session h).epoch) (helds seats session handles) in omega (arith, rest));
}
under seats session (h ∷ handles) all a (inr m) =
    let rest = under seats session handles (and_parts (is_some (held_at (seat_of session seats) h)) (list_all (λ handle. is_some (held_at (seat_of session seats) handle)) handles) all).1 a m in
    record { handle = rest.handle; is = rest.is; some = rest.some; since = λ i. rest.since (min i (found seats session h).epoch) }

-- ---- what rests on a later epoch rests on an earlier one

rests_earlier : (s : Store) (epoch least : ℕ) → least ≤ epoch → (a : Address) → Member a (rests_on s epoch) → Member a (rests_on s least)
rests_earlier s epoch least l a m =
    starts-each (λ a. Member a (rests_on s least)) (λ root. nat_le epoch (stands_in s root)) (λ e. nat_le epoch e.1) s.roots s.given
    (λ root n t. starts-root (λ root. nat_le least (stands_in s root)) (λ e. nat_le least e.1) s.roots s.given root n
    (nat_le-true least (stands_in s root) (let up = nat_le_from epoch (stands_in s root) t in omega (arith, l, up))))
    (λ e n t. starts-given (λ root. nat_le least (stands_in s root)) (λ e. nat_le least e.1) s.roots s.given e n
    (nat_le-true least e.1 (let up = nat_le_from epoch e.1 t in omega (arith, l, up)))) a m

module _ (cs : List Folded) (seats : Seats) (valid : IsValid (store_with cs seats)) where
  abbrev s : Store
  s = store_of cs

  -- what a handle stands for that is held and fresh
  pub held_rests : (session : List ℕ) (handle least : ℕ) → is_some (held_at (seat_of session seats) handle) ≡ true → least ≤ (found seats session handle).epoch
      → lowest_epoch s ≤ (found seats session handle).epoch + 1 → Rests s least (found seats session handle).address
  held_rests session handle least some since fresh =
      let h : Held = found seats session handle in
      let v : Valid (store_with cs seats) = valid_from_is (store_with cs seats) valid in
      is_from_reached s (rests_on s least) h.address
      (Reaches-more s.blocks (rests_on s h.epoch) (rests_on s least) (λ a m. start (rests_earlier s h.epoch least since a m)) h.address (v.held h (held_in seats session handle some) fresh))

  -- a pointer of a write's block, in a shard of an epoch in which the write may use its handles
  pub pointer_rests : (session payload handles : List ℕ) (now : ℕ) → HasBlock seats session payload handles → lowest_epoch s ≤ now → now ≤ least_epoch (helds seats session handles) + 1
      → (a : Address) → Contains (asked_block seats session payload handles).pointers a → Rests s (least_epoch (helds seats session handles)) a
  unfolding asked_block least_epoch
  pointer_rests session payload handles now has lowest fresh a among =
      let u = under seats session handles has.held a (member_from_contains a (map (λ (h : Held). h.address) (helds seats session handles)) among) in
      let since : least_epoch (helds seats session handles) ≤ (found seats session u.handle).epoch = u.since LAST_EPOCH in
      subst (λ x. Rests s (least_epoch (helds seats session handles)) x) (sym u.is)
      (held_rests session u.handle (least_epoch (helds seats session handles)) u.some since (omega (arith, lowest, fresh, since)))
