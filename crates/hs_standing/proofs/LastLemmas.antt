-- Behind the last round of a run no shard has sent another round of that run.
use Rattle.std.proofs.Common.{◌≡◌, ◌∙◌, sym, ap, inl, inr, ℕ, ◌+◌, ◌-◌, ◌<◌, ◌≤◌, List, true, refl, arith, slice_set}
use Rattle.std.proofs.lemmas.Bool.{and_parts, cases_eq, cases_lt, ltb-true}
use Rattle.hs_rounds.specs.declared.body.RoundBody.{RoundBody}
use Rattle.hs_rounds.specs.declared.place.Place.{Place}
use Rattle.hs_deletion.specs.Clocks.{label_of}
use Rattle.hs_deletion.specs.History.{is_last as is_last_there}
use Rattle.hs_deletion.specs.Invariants.{IsRight}
use Rattle.hs_deletion.specs.Machine.{Layout, Machine}
use Rattle.hs_deletion.specs.Rounds.{total_in}
use Rattle.hs_deletion.proofs.ClockLemmas.{unswept_of}
use Rattle.hs_deletion.proofs.LabelLemmas.{epoch_rises, label_next, label_rises, last_tells}
use Rattle.hs_fold.specs.Shards.Setting.{Setting}
use Rattle.hs_fold.specs.Runs.Facts.{Catalogue}
use Rattle.hs_fold.specs.Runs.Fits.{catalogue_at}
use Rattle.hs_fold.specs.Runs.Rounds.{is_complete, is_last, is_running, log_got}
use Rattle.hs_joint.specs.Seen.{layout_of}
use Rattle.hs_joint.proofs.EndLemmas.{last_is}
use Rattle.hs_joint.proofs.LikeLemmas.{logged_follows}
use Rattle.hs_joint.proofs.StandLemmas.{IsStanding, few_on, join_on, nothing_done, own_here, right, room_on, set_here}
use Rattle.hs_waiting.proofs.GotStayLemmas.{GotWaits}

module _ (set : Setting) (some : 0 < set.shape.shards) (cs : List Catalogue) (m : Machine) (st : IsStanding set some cs m) (g : ℕ) (lg : g < set.shape.shards) (place : Place) (told : RoundBody) (w : GotWaits set some cs m st g place told) where
  abbrev n : ℕ
  n = set.shape.shards

  abbrev L : Layout
  L = layout_of n some

  abbrev c : Catalogue
  c = catalogue_at cs g

  abbrev D : Catalogue
  D = log_got place told c

  R : IsRight L m
  R = right set some cs m st

  -- with the Got logged nothing else has changed
  logged_standing : IsStanding set some (slice_set cs g D) m
  logged_standing = record {
    joined = join_on set some cs m st g lg D m st.joined.followed.made (nothing_done set some cs m st g) (logged_follows g c L m (st.joined.followed.each g lg) place told w.sent) (let o = own_here set some cs m st g lg in record { mine = o.mine; once = o.once }) (λ kept among to body tells. st.joined.sent g lg kept among to body tells) (λ row l. refl) (st.joined.last g lg);
    bounded = st.bounded;
    room = room_on set some cs m st g lg D m (st.room g lg);
    few = few_on set some cs m st g lg D m (st.few g lg);
  }

  -- where it completes the last round, none that was sent is of a later one of the run
  pub none_later : is_complete n D ≡ true → is_last n D ≡ true → (q : Place) (body : RoundBody) → GotWaits set some cs m st g q body → q.epoch ≡ c.epoch → c.round + 1 ≤ q.round → ⊥
  none_later whole over q body v same later =
      let lst = logged_standing in
      let at = set_here set some cs m st g lg D m in
      let whole' : is_complete n (catalogue_at (slice_set cs g D) g) ≡ true = ap (λ y. is_complete n y) at ∙ whole in
      let over' : is_last_there L g m ≡ true = sym (last_is set some (slice_set cs g D) m lst g lg whole') ∙ ap (λ y. is_last n y) at ∙ over in
      let parts = last_tells (m.states g).round (total_in L m.states (m.states g).completed) over' in
      let late = parts.0 in
      let none = parts.1 in
      let running = ltb-true c.swept c.epoch (and_parts (is_running c) _ whole).0 in
      let e1 = (st.joined.followed.each g lg).epoch in
      let e2 = (st.joined.followed.each g lg).swept in
      let unswept : (m.states g).swept < (m.states g).epoch = omega (arith, running, e1, e2) in
      let r = (st.joined.followed.each g lg).round unswept in
      let p = unswept_of L m.states R.clocks g lg unswept in
      let pe = p.of_epoch in
      let pr = p.of_round in
      let ie = v.sent.of_epoch in
      let ir = v.sent.of_round in
      let row : ℕ = v.sent.row in
      let done : ℕ = (m.states g).completed in
      elim (cases_lt row done) [
        | inl l ↦ elim (label_rises L m.states row (done - (row + 1)) done (omega (arith, l))) [ inl x ↦ omega (arith, x, pe, ie, same, e1) | inr x ↦ (let x1 = x.1 in omega (arith, x1, pr, ir, later, r)) ]
        | inr l ↦ elim (cases_eq row done) [
          | inl is ↦ (let x : (label_of L m.states row).round ≡ (label_of L m.states done).round = ap (λ j. (label_of L m.states j).round) is in omega (arith, x, pr, ir, later, r))
          | inr differs ↦ (
              let rises = epoch_rises L m.states (done + 1) row (omega (arith, l, differs)) in
              elim (label_next L m.states done (done + 1) (omega arith)) [
                | inl x ↦ (let x2 = x.2 in omega (arith, x2, rises, pe, ie, same, e1))
                | inr x ↦ elim x.0 [ inl z ↦ omega (arith, z, pr, late) | inr z ↦ omega (arith, z, none) ]
              ]
              )
        ]
      ]
