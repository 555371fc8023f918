-- Each operation of a copy's writing, with what shards do around it.
use Rattle.std.proofs.Common.{◌≡◌, inl, inr, ℕ, ◌+◌, ◌<◌, ◌≤◌, List, [], ◌∷◌, ◌++◌, Option, Some, refl, sym, ap, ◌∙◌, subst, arith, length, map, slice_index, unwrap_or}
use Rattle.std.specs.List.{AllByRecursion}
use Rattle.hs_asking.proofs.AloneLemmas.{opens_alone}
use Rattle.hs_asking.proofs.StayLemmas.{Drifted, drift}
use Rattle.hs_asking.specs.Judged.{Drifts, IsJudged}
use Rattle.hs_asking.specs.Seats.{IsSane}
use Rattle.hs_copy.proofs.HandsLemmas.{IsKnown, delete_so, drift_less, forget_so, hands_drift, root_so, write_so}
use Rattle.hs_copy.specs.Hands.{HasHands, IsTooOld, KeepsHands, Lessens, RootsSo, WritesSo, rooted, unrooted, unwritten, wrote}
use Rattle.hs_limits.specs.declared.address.Address.{Address}
use Rattle.hs_limits.specs.declared.address.Held.{Held}
use Rattle.hs_limits.specs.declared.limits.Limits.{Limits}
use Rattle.hs_limits.specs.declared.spelling.TheConstants.{MOST_BYTES, MOST_POINTERS}
use Rattle.hs_model.proofs.Members.{Member}
use Rattle.hs_model.specs.Judge.{judge, nothing, written}
use Rattle.hs_model.specs.Store.{Session, Store, held_in}
use Rattle.hs_model.specs.declared.op.Op.{Op}
use Rattle.hs_model.specs.declared.op.Op.TheVariants as op
use Rattle.hs_model.specs.declared.reply.Reply.{Reply}
use Rattle.hs_model.specs.declared.reply.Reply.TheVariants as reply
use Rattle.hs_tree.specs.Storing.{our_session}

-- ---- an open

pub open_judged : (limits : Limits) (s t : Store) (told : Reply) → IsSane s → length s.sessions ≡ 0 → 0 < limits.sessions → IsJudged limits s t (op.Open our_session) told → HasHands t (slice_index t.epochs 0) 0 [] × (told ≡ reply.Ok)
open_judged limits s t told sane none room j =
    let h = opens_alone limits s t our_session told sane none room j in
    (record { sane = h.goes.seat.sane; opened = h.goes.seat.opened; ascend = h.goes.seat.ascend; given = tt; now = omega arith }, h.told_is)

module _ (limits : Limits) (s t : Store) (since next : ℕ) (es : List (ℕ × Held)) (hands : HasHands s since next es) where
  -- shards, an operation, and shards again
  through : (at u : Store) (n : ℕ) (fs : List (ℕ × Held)) → Drifts limits s at → HasHands u since n fs → Lessens at u → Drifts limits u t → KeepsHands s t since n fs
  through at u n fs before after less behind = record {
    hands = hands_drift u t since n fs (drift limits u t behind after.sane) after;
    less = λ a y p. drift_less limits s at before hands.sane.distinct a y (less a y (drift_less limits u t behind after.sane.distinct a y p));
  }

  here : (at : Store) → Drifts limits s at → HasHands at since next es
  here at d = hands_drift s at since next es (drift limits s at d hands.sane) hands

  older : (u : Store) (r : Reply) → Drifts limits u t → IsSane u → IsTooOld u since r → IsTooOld t since r
  older u r d sane old = record { stale = old.stale; risen = subst (λ z. since + 1 ≤ z) (sym (drift limits u t d sane).first) old.risen }

  pub write_judged : (payload handles : List ℕ) (a : Address) (told : Reply) → length payload ≤ MOST_BYTES → length handles ≤ MOST_POINTERS → length es + 1 ≤ limits.handles → AllByRecursion (IsKnown (record { next = next; handles = es })) handles
      → IsJudged limits s t (op.Write our_session payload handles (Some a)) told → WritesSo limits s t since next es a (written s our_session payload handles) told
  write_judged payload handles a told short few room known j =
      let before : Drifted s j.at = drift limits s j.at j.before hands.sane in
      let same : written j.at our_session payload handles ≡ written s our_session payload handles = ap (λ (x : Option Session). record { pointers = map (λ handle. (unwrap_or (held_in x handle) nothing).address) handles; bytes = payload }) (before.sessions our_session) in
      let o : Op = op.Write our_session payload handles (Some a) in
      go (judge limits j.at o).store refl (judge limits j.at o).reply j.reply
      (subst (λ z. WritesSo limits j.at (judge limits j.at o).store since next es a z (judge limits j.at o).reply) same
      (write_so limits j.at since next es (here j.at j.before) payload handles a short few room known))
    where
      go : (u : Store) → (judge limits j.at (op.Write our_session payload handles (Some a))).store ≡ u → (r : Reply) → r ≡ told → WritesSo limits j.at u since next es a (written s our_session payload handles) r → WritesSo limits s t since next es a (written s our_session payload handles) told
      go u e r q (wrote epoch told_is after only less) =
          let behind : Drifts limits u t = subst (λ z. Drifts limits z t) e j.behind in
          let back : Lessens u t = drift_less limits u t behind after.sane.distinct in
          wrote epoch (elim told_is [ inl h ↦ inl (sym q ∙ h) | inr h ↦ inr (sym q ∙ h) ])
          (hands_drift u t since (next + 1) (es ++ (next, record { address = a; epoch = epoch }) ∷ []) (drift limits u t behind after.sane) after)
          (λ y p. only y (back a y p))
          (λ b y p. elim (less b y (back b y p)) [ inl k ↦ inl (drift_less limits s j.at j.before hands.sane.distinct b y k) | inr k ↦ inr k ])
      go u e r q (unwritten why after less) =
          let behind : Drifts limits u t = subst (λ z. Drifts limits z t) e j.behind in
          let k : KeepsHands s t since next es = through j.at u next es j.before after less behind in
          unwritten (elim why [ inl old ↦ inl (subst (λ z. IsTooOld t since z) q (older u r behind after.sane old)) | inr w ↦ inr (elim w [ inl h ↦ inl (sym q ∙ h) | inr h ↦ inr (sym q ∙ h) ]) ]) k.hands k.less

  pub root_judged : (handle : ℕ) (held : Held) (key : List ℕ) (told : Reply) → Member (handle, held) es → IsJudged limits s t (op.Root our_session key handle) told → RootsSo limits s t since next es key held told
  root_judged handle held key told m j =
      let o : Op = op.Root our_session key handle in
      go (judge limits j.at o).store refl (judge limits j.at o).reply j.reply (root_so limits j.at since next es (here j.at j.before) handle held m key)
    where
      go : (u : Store) → (judge limits j.at (op.Root our_session key handle)).store ≡ u → (r : Reply) → r ≡ told → RootsSo limits j.at u since next es key held r → RootsSo limits s t since next es key held told
      go u e r q (rooted told_is root kept same after less) =
          let behind : Drifts limits u t = subst (λ z. Drifts limits z t) e j.behind in
          let k : KeepsHands s t since next es = through j.at u next es j.before after less behind in
          rooted (sym q ∙ told_is) root ((drift limits u t behind after.sane).retained key ∙ kept) same k.hands k.less
      go u e r q (unrooted why after less) =
          let behind : Drifts limits u t = subst (λ z. Drifts limits z t) e j.behind in
          let k : KeepsHands s t since next es = through j.at u next es j.before after less behind in
          unrooted (elim why [ inl old ↦ inl (subst (λ z. IsTooOld t since z) q (older u r behind after.sane old)) | inr w ↦ inr (elim w [ inl h ↦ inl (sym q ∙ h) | inr h ↦ inr (sym q ∙ h) ]) ]) k.hands k.less

  pub forget_judged : (front : List (ℕ × Held)) (e : ℕ × Held) (back : List (ℕ × Held)) (told : Reply) → es ≡ front ++ e ∷ back → IsJudged limits s t (op.Forget our_session e.0) told → KeepsHands s t since next (front ++ back) × (told ≡ reply.Ok)
  forget_judged front e back told split j =
      let k = forget_so limits j.at since next es (here j.at j.before) front e back split in
      (through j.at (judge limits j.at (op.Forget our_session e.0)).store next (front ++ back) j.before k.0.hands k.0.less j.behind, sym j.reply ∙ k.1)

  pub delete_judged : (told : Reply) → IsJudged limits s t op.Delete told → KeepsHands s t since next es
  delete_judged told j =
      let k = delete_so limits j.at since next es (here j.at j.before) in
      through j.at (judge limits j.at op.Delete).store next es j.before k.hands k.less j.behind
