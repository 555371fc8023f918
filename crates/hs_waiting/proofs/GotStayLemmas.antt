-- A Got that waits may come still behind any other entry: where it is accepted, its sender still keeps the round.
use Rattle.std.proofs.Common.{◌≡◌, ◌≢◌, ◌⊎◌, inl, inr, ℕ, zero, suc, ◌+◌, ◌-◌, ◌<◌, ◌≤◌, ◌==◌, ◌&&◌, ◌||◌, List, [], ◌∷◌, take, Bool, true, false, Some, is_none, refl, sym, ap, ◌∙◌, subst, arith, nat_lt}
use Rattle.std.proofs.lemmas.Bool.{and_parts, eqb-true, ltb-true, cases_eq, cases_lt}
use Rattle.std.specs.Prelude.{slice_get}
use Rattle.hs_model.proofs.Members.{Member, member_from_contains, contains_from_member}
use Rattle.hs_rounds.specs.declared.body.RoundBody.{RoundBody}
use Rattle.hs_rounds.specs.declared.place.Place.{Place}
use Rattle.hs_rounds.specs.declared.sending.SentRound.{SentRound}
use Rattle.hs_rounds.specs.Rounds.{body_at}
use Rattle.hs_deletion.specs.Clocks.{label_of}
use Rattle.hs_deletion.specs.Machine.{Layout, Round, Machine}
use Rattle.hs_deletion.specs.Following.{IsSent}
use Rattle.hs_deletion.specs.Invariants.{IsRight}
use Rattle.hs_deletion.proofs.ClockLemmas.{sent_near, unswept_of}
use Rattle.hs_deletion.proofs.LabelLemmas.{label_rises, label_tells}
use Rattle.hs_fold.specs.Shards.Setting.{Setting}
use Rattle.hs_fold.specs.Runs.Facts.{Catalogue}
use Rattle.hs_fold.specs.Runs.Fits.{catalogue_at, HasSent}
use Rattle.hs_fold.specs.Runs.Rounds.{is_running, is_due, is_accepted}
use Rattle.hs_joint.specs.Seen.{layout_of, seen_round}
use Rattle.hs_joint.proofs.EndLemmas.{taken}
use Rattle.hs_joint.proofs.StandLemmas.{IsStanding, SendsOn, right, was_sent}

-- ---- places in a list

pub place_of : {X : Type 0} (x : X) (xs : List X) → Member x xs → (place : ℕ) × (slice_get xs place ≡ Some x)
place_of x [] m = elim m [ ]
place_of {X} x (y ∷ ys) (inl e) = (0, ap (λ (z : X). Some z) (sym e))
place_of x (y ∷ ys) (inr m) = let p = place_of x ys m in (suc p.0, p.1)

pub member_at : {X : Type 0} (x : X) (xs : List X) (place : ℕ) → slice_get xs place ≡ Some x → Member x xs
member_at x [] place e = cc e
member_at x (y ∷ ys) zero e = (let is : y ≡ x = cc e in inl (sym is))
member_at x (y ∷ ys) (suc place) e = inr (member_at x ys place e)

one_there : {X : Type 0} (x y : X) (xs : List X) (place : ℕ) → slice_get xs place ≡ Some x → slice_get xs place ≡ Some y → x ≡ y
one_there x y xs place e f = (let is : Some x ≡ Some y = sym e ∙ f in cc is)

or_true : (a b : Bool) → a || b ≡ true → (a ≡ true) ⊎ (b ≡ true)
or_true true b e = inl refl
or_true false b e = inr e

-- the open round or a next one
pub accepted_label : (n : ℕ) (c : Catalogue) (place : Place) → is_accepted n c place ≡ true → (c.swept < c.epoch) × (place.epoch ≡ c.epoch) × (c.round ≤ place.round) ⊎ (place.epoch ≡ c.epoch + 1) × (place.round ≡ 0)
accepted_label n c place t =
    let a = and_parts (nat_lt place.from n) (is_none (body_at place c.got) && is_due c place.epoch place.round) t in
    let b = and_parts (is_none (body_at place c.got)) (is_due c place.epoch place.round) a.1 in
    elim (or_true (is_running c && (place.epoch == c.epoch && (place.round == c.round || place.round == c.round + 1))) (place.epoch == c.epoch + 1 && place.round == 0) b.1) [
      | inl o ↦ (
          let d = and_parts (is_running c) (place.epoch == c.epoch && (place.round == c.round || place.round == c.round + 1)) o in
          let e = and_parts (place.epoch == c.epoch) (place.round == c.round || place.round == c.round + 1) d.1 in
          inl (ltb-true c.swept c.epoch d.0, eqb-true place.epoch c.epoch e.0, elim (or_true (place.round == c.round) (place.round == c.round + 1) e.1) [ inl q ↦ (let k = eqb-true place.round c.round q in omega (arith, k)) | inr q ↦ (let k = eqb-true place.round (c.round + 1) q in omega (arith, k)) ])
          )
      | inr o ↦ (let d = and_parts (place.epoch == c.epoch + 1) (place.round == 0) o in inr (eqb-true place.epoch (c.epoch + 1) d.0, eqb-true place.round 0 d.1))
    ]

module _ (set : Setting) (some : 0 < set.shape.shards) (cs : List Catalogue) (m : Machine) (st : IsStanding set some cs m) where
  abbrev n : ℕ
  n = set.shape.shards

  abbrev L : Layout
  L = layout_of n some

  R : IsRight L m
  R = right set some cs m st

  -- its sender sent it, and what it still keeps under its label tells it
  pub record GotWaits (shard : ℕ) (place : Place) (told : RoundBody) : Type 0 where
    pub sender : place.from < n
    pub sent : IsSent L m.states shard place.from place.epoch place.round (seen_round place.round told)
    pub tells : (kept : SentRound) → Member kept (catalogue_at cs place.from).sent → kept.epoch ≡ place.epoch → kept.round ≡ place.round → slice_get kept.bodies shard ≡ Some told

  pub got_waits : (shard : ℕ) (place : Place) (told : RoundBody) → place.from < n → HasSent (catalogue_at cs place.from).sent shard place.epoch place.round told → GotWaits shard place told
  got_waits shard place told within h = record {
    sender = within;
    sent = was_sent set some cs m st place.from within shard place.epoch place.round told h;
    tells = λ kept k e r. (
        let last = st.joined.last place.from within in
        let p = place_of h.kept (catalogue_at cs place.from).sent (member_from_contains h.kept (catalogue_at cs place.from).sent h.among) in
        let q = place_of kept (catalogue_at cs place.from).sent k in
        let x = last.rows p.0 h.kept p.1 in
        let y = last.rows q.0 kept q.1 in
        let xe = x.epoch in
        let xr = x.round in
        let ye = y.epoch in
        let yr = y.round in
        let he = h.of_epoch in
        let hr = h.of_round in
        let rows = label_tells L m.states x.row y.row (omega (arith, xe, ye, he, e)) (omega (arith, xr, yr, hr, r)) in
        let xb = x.back in
        let yb = y.back in
        let places : p.0 ≡ q.0 = omega (arith, rows, xb, yb) in
        let same : h.kept ≡ kept = one_there h.kept kept (catalogue_at cs place.from).sent q.0 (subst (λ j. slice_get (catalogue_at cs place.from).sent j ≡ Some h.kept) places p.1) q.1 in
        subst (λ (z : SentRound). slice_get z.bodies shard ≡ Some told) same h.tells
        );
  }

  -- a row that the shard has not completed its sender keeps
  pub row_is_kept : (g : ℕ) → g < n → (place : Place) (told : RoundBody) (w : GotWaits g place told) → (m.states g).completed ≤ w.sent.row → HasSent (catalogue_at cs place.from).sent g place.epoch place.round told
  row_is_kept g lg place told w late =
      let up = w.sent.sent in
      let near = sent_near L m.states R.clocks g place.from lg w.sender in
      let last = st.joined.last place.from w.sender in
      let at : ℕ = (m.states place.from).sent - (w.sent.row + 1) in
      let back : w.sent.row + (at + 1) ≡ (m.states place.from).sent = omega (arith, up) in
      let k = last.there at (omega (arith, near, late, back)) (omega (arith, back)) in
      let y = last.rows at k.0 k.1 in
      let yb = y.back in
      let row : y.row ≡ w.sent.row = omega (arith, yb, back) in
      let epoch : k.0.epoch ≡ place.epoch = sym y.epoch ∙ ap (λ j. (label_of L m.states j).epoch) row ∙ w.sent.of_epoch in
      let round : k.0.round ≡ place.round = sym y.round ∙ ap (λ j. (label_of L m.states j).round) row ∙ w.sent.of_round in
      let m_k = member_at k.0 (catalogue_at cs place.from).sent at k.1 in
      record { kept = k.0; among = contains_from_member k.0 (catalogue_at cs place.from).sent m_k; of_epoch = epoch; of_round = round; tells = w.tells k.0 m_k epoch round }

  -- ---- an accepted one is of its sender's last two rounds

  module _ (g : ℕ) (lg : g < n) (place : Place) (ok : is_accepted n (catalogue_at cs g) place ≡ true) (told : RoundBody) (w : GotWaits g place told) where
    abbrev c : Catalogue
    c = catalogue_at cs g

    e1 : c.epoch ≡ (m.states g).epoch
    e1 = (st.joined.followed.each g lg).epoch

    e2 : c.swept ≡ (m.states g).swept
    e2 = (st.joined.followed.each g lg).swept

    early : w.sent.row < (m.states g).completed → ((label_of L m.states w.sent.row).epoch < (label_of L m.states (m.states g).completed).epoch) ⊎ ((label_of L m.states w.sent.row).epoch ≡ (label_of L m.states (m.states g).completed).epoch) × ((label_of L m.states w.sent.row).round < (label_of L m.states (m.states g).completed).round)
    early k = label_rises L m.states w.sent.row ((m.states g).completed - (w.sent.row + 1)) (m.states g).completed (omega (arith, k))

    never : w.sent.row < (m.states g).completed → ⊥
    never k =
        let ie = w.sent.of_epoch in
        let ir = w.sent.of_round in
        elim (accepted_label n c place ok) [
          | inl q ↦ (
              let q0 = q.0 in
              let q1 = q.1 in
              let q2 = q.2 in
              let unswept : (m.states g).swept < (m.states g).epoch = omega (arith, q0, e1, e2) in
              let r = (st.joined.followed.each g lg).round unswept in
              let p = unswept_of L m.states R.clocks g lg unswept in
              let pe = p.of_epoch in
              let pr = p.of_round in
              elim (early k) [ inl x ↦ omega (arith, x, pe, ie, q1, e1) | inr x ↦ (let x1 = x.1 in omega (arith, x1, pr, ir, q2, r)) ]
              )
          | inr q ↦ (
              let q0 = q.0 in
              elim (R.clocks g lg).phase [
                | inl p ↦ (let pe = p.of_epoch in elim (early k) [ inl x ↦ omega (arith, x, pe, ie, q0, e1) | inr x ↦ (let x0 = x.0 in omega (arith, x0, pe, ie, q0, e1)) ])
                | inr p ↦ (let pe = p.of_epoch in let pr = p.of_round in elim (early k) [ inl x ↦ omega (arith, x, pe, ie, q0, e1) | inr x ↦ (let x1 = x.1 in omega (arith, x1, pr)) ])
              ]
              )
        ]

    late : (m.states g).completed ≤ w.sent.row
    late = elim (cases_lt w.sent.row (m.states g).completed) [ inl l ↦ absurd (never l) | inr l ↦ l ]

    -- so it is exactly what its sender keeps of that round
    pub accepted_is_kept : HasSent (catalogue_at cs place.from).sent g place.epoch place.round told
    accepted_is_kept = row_is_kept g lg place told w late

-- ---- behind an entry

pub got_stays : (set : Setting) (some : 0 < set.shape.shards) (cs ds : List Catalogue) (m later : Machine) (st : IsStanding set some cs m) (st' : IsStanding set some ds later) (g : ℕ) → g < set.shape.shards
    → ((to sender epoch round : ℕ) (body : Round) → IsSent (layout_of set.shape.shards some) m.states to sender epoch round body → IsSent (layout_of set.shape.shards some) later.states to sender epoch round body)
    → SendsOn (catalogue_at cs g).sent (catalogue_at ds g).sent (m.states g).sent (later.states g).sent
    → ((k : ℕ) → k ≢ g → catalogue_at ds k ≡ catalogue_at cs k)
    → (shard : ℕ) (place : Place) (told : RoundBody) → GotWaits set some cs m st shard place told → GotWaits set some ds later st' shard place told
got_stays set some cs ds m later st st' g lg moves sends others shard place told w = record {
  sender = w.sender;
  sent = moves shard place.from place.epoch place.round (seen_round place.round told) w.sent;
  tells = λ kept k e r. elim (cases_eq place.from g) [
    | inr o ↦ w.tells kept (subst (λ (x : Catalogue). Member kept x.sent) (others place.from o) k) e r
    | inl here ↦ elim sends [
      | inl same ↦ w.tells kept (subst (λ j. Member kept (catalogue_at cs j).sent) (sym here) (subst (λ xs. Member kept xs) same.0 (subst (λ j. Member kept (catalogue_at ds j).sent) here k))) e r
      | inr more ↦ newer here more.0 more.1 more.2 kept (subst (λ xs. Member kept xs) more.1 (subst (λ j. Member kept (catalogue_at ds j).sent) here k)) e r
    ]
  ];
}
  where
    L : Layout
    L = layout_of set.shape.shards some

    newer : place.from ≡ g → (new : SentRound) → (catalogue_at ds g).sent ≡ take 2 (new ∷ (catalogue_at cs g).sent) → (later.states g).sent ≡ (m.states g).sent + 1 → (kept : SentRound) → Member kept (take 2 (new ∷ (catalogue_at cs g).sent)) → kept.epoch ≡ place.epoch → kept.round ≡ place.round → slice_get kept.bodies shard ≡ Some told
    newer here new list count kept (inr k) e r = w.tells kept (subst (λ j. Member kept (catalogue_at cs j).sent) (sym here) (taken 1 kept (catalogue_at cs g).sent k)) e r
    newer here new list count kept (inl is) e r =
        -- the new round has a later label than all that were sent before
        let before : w.sent.row < (m.states g).sent = subst (λ j. w.sent.row < (m.states j).sent) here w.sent.sent in
        let old = (st.joined.last g lg).there 0 (omega arith) (omega (arith, before)) in
        let old_row = (st.joined.last g lg).rows 0 old.0 old.1 in
        let first : slice_get (catalogue_at ds g).sent 0 ≡ Some new = ap (λ xs. slice_get xs 0) list in
        let second : slice_get (catalogue_at ds g).sent 1 ≡ Some old.0 = ap (λ xs. slice_get xs 1) list ∙ behind (catalogue_at cs g).sent old.0 old.1 in
        let new_row = (st'.joined.last g lg).rows 0 new first in
        let next_row = (st'.joined.last g lg).rows 1 old.0 second in
        let ob = old_row.back in
        let oe = old_row.epoch in
        let or = old_row.round in
        let nb = new_row.back in
        let ne = new_row.epoch in
        let nr = new_row.round in
        let xb = next_row.back in
        let xe = next_row.epoch in
        let xr = next_row.round in
        let ie = w.sent.of_epoch in
        let ir = w.sent.of_round in
        let ke : new.epoch ≡ place.epoch = ap (λ (x : SentRound). x.epoch) (sym is) ∙ e in
        let kr : new.round ≡ place.round = ap (λ (x : SentRound). x.round) (sym is) ∙ r in
        let up = label_rises L later.states next_row.row 0 new_row.row (omega (arith, nb, xb)) in
        elim (cases_eq w.sent.row old_row.row) [
          | inl same ↦ (
              let se : (label_of L m.states w.sent.row).epoch ≡ (label_of L m.states old_row.row).epoch = ap (λ j. (label_of L m.states j).epoch) same in
              let sr : (label_of L m.states w.sent.row).round ≡ (label_of L m.states old_row.row).round = ap (λ j. (label_of L m.states j).round) same in
              elim up [ inl l ↦ absurd (omega (arith, l, se, ie, oe, xe, ne, ke)) | inr l ↦ (let l1 = l.1 in absurd (omega (arith, l1, sr, ir, or, xr, nr, kr))) ]
              )
          | inr differs ↦ elim (label_rises L m.states w.sent.row (old_row.row - (w.sent.row + 1)) old_row.row (omega (arith, before, ob, differs))) [
            | inl l2 ↦ elim up [ inl l ↦ absurd (omega (arith, l, l2, ie, oe, xe, ne, ke)) | inr l ↦ (let l0 = l.0 in absurd (omega (arith, l0, l2, ie, oe, xe, ne, ke))) ]
            | inr l2 ↦ (let l20 = l2.0 in let l21 = l2.1 in elim up [ inl l ↦ absurd (omega (arith, l, l20, ie, oe, xe, ne, ke)) | inr l ↦ (let l1 = l.1 in absurd (omega (arith, l1, l21, ir, or, xr, nr, kr))) ])
          ]
        ]
      where
        behind : (xs : List SentRound) (x : SentRound) → slice_get xs 0 ≡ Some x → slice_get (take 2 (new ∷ xs)) 1 ≡ Some x
        behind [] x q = cc q
        behind (y ∷ ys) x q = q
