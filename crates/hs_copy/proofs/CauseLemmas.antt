-- Why a writing is refused, where its store is told.
use Rattle.std.proofs.Common.{◌≡◌, ◌∙◌, inl, inr, ℕ, ◌+◌, ◌≤◌, false, List, [], ◌∷◌, ◌++◌, refl, ap, subst, arith}
use Rattle.hs_asking.proofs.SaneLemmas.{answers_sane}
use Rattle.hs_asking.specs.Lawful.{AreAnswersOf}
use Rattle.hs_asking.specs.Seats.{IsSane}
use Rattle.hs_asking.specs.Shown.{Began, IfTold, Shown, store_now}
use Rattle.hs_asking.specs.Telling.{grants, is_ok}
use Rattle.hs_copy.proofs.EpochLemmas.{heard_rises}
use Rattle.hs_copy.proofs.HeardLemmas.{deletes-append, heard_more, heard_then, ops-append}
use Rattle.hs_copy.proofs.JudgedLemmas.{open_judged}
use Rattle.hs_copy.proofs.RootLemmas.{none_next}
use Rattle.hs_copy.proofs.StepLemmas.{no_sessions}
use Rattle.hs_copy.specs.Calls.{CallFails}
use Rattle.hs_copy.specs.Hands.{IsTooOld}
use Rattle.hs_copy.specs.Heard.{AreHeard, joined, ops_of}
use Rattle.hs_copy.specs.Rounds.{IsWriteCause, RoundStops, RoundsBroken, RoundsStop, epoch_now}
use Rattle.hs_copy.specs.Rounds.RoundsStop.{in_forgets, in_round}
use Rattle.hs_copy.specs.Writing.{deletes_in}
use Rattle.hs_copy.specs.declared.fault.PartFault.{PartFault}
use Rattle.hs_copy.specs.declared.fault.PartFault.TheVariants as part
use Rattle.hs_copy.specs.declared.order.Placed.{Placed}
use Rattle.hs_copy.specs.declared.write.Node.{Node}
use Rattle.hs_limits.specs.declared.address.Address.{Address}
use Rattle.hs_model.specs.declared.op.Op.{Op}
use Rattle.hs_model.specs.declared.op.Op.TheVariants as op
use Rattle.hs_model.specs.declared.reply.Reply.{Reply}
use Rattle.hs_model.specs.declared.reply.Reply.TheVariants as reply
use Rattle.hs_tree.specs.Calls.{Hears}
use Rattle.hs_tree.specs.Storing.{IsIdle, our_session}

module _ {tells : Type 0} (name : List ℕ → Address) (old : Shown tells) (idle : IfTold old (λ b. IsIdle name b old)) (law : IfTold old (λ b. AreAnswersOf b old)) where
  -- an open is never refused
  pub open_unrefused : (key : List ℕ) (new : Shown tells) (f : PartFault) → CallFails old new (op.Open our_session) f → IsWriteCause key old f
  unfolding grants
  open_unrefused key new (part.Core core) c = tt
  open_unrefused key new (part.Refused told) c = λ is.
      let b : Began = old.began in
      let limits : b.limits.sessions ≡ 64 = ap (λ l. l.sessions) (idle is).limits in
      let h = open_judged b.limits (store_now b old) (store_now b new) told (answers_sane b old (law is)) (no_sessions (store_now b old).sessions (idle is).none_open) (omega (arith, limits)) (c.0.judged is) in
      let z = subst (λ z. is_ok z ≡ false) h.1 c.1 in
      absurd (cc z)
  open_unrefused key new part.TooMany c = tt
  open_unrefused key new part.NoMemory c = tt

  module _ (key : List ℕ) (placed : List Placed) (first new : Shown tells) (opened : Hears old first (op.Open our_session) reply.Ok) where
    sane_first : tells → IsSane (store_now first.began first)
    sane_first is = (heard_rises old first ((op.Open our_session, reply.Ok) ∷ []) is (first, opened, refl) (answers_sane old.began old (law is))).sane

    -- behind four beginnings that came to a stale handle no handle is stale: four deletions at most have come
    never_stale : (told : Reply) (start : Shown tells) (n c b : ℕ) (nodes : List Node) → n ≡ 4 → (broken : RoundsBroken name key first start placed n 0 c) → (r : RoundStops name key start new placed nodes c b (part.Refused told)) → tells → IsTooOld (store_now new.began new) (epoch_now start) told → ⊥
    never_stale told start n c b nodes four broken r is late =
        let last : List (Op × Reply) = (r.end.0, told) ∷ [] in
        let all : AreHeard first new (joined broken.rounds ++ (r.work ++ last)) = heard_then first start new (joined broken.rounds) (r.work ++ last) broken.heard (heard_more start r.mid new r.work r.end.0 told r.heard r.end.2) in
        let high : epoch_now new ≤ epoch_now first + deletes_in (ops_of (joined broken.rounds ++ (r.work ++ last))) = (heard_rises first new (joined broken.rounds ++ (r.work ++ last)) is all (sane_first is)).high in
        let split : deletes_in (ops_of (joined broken.rounds ++ (r.work ++ last))) ≡ deletes_in (ops_of (joined broken.rounds)) + deletes_in (ops_of (r.work ++ last)) = ap (λ z. deletes_in z) (ops-append (joined broken.rounds) (r.work ++ last)) ∙ deletes-append (ops_of (joined broken.rounds)) (ops_of (r.work ++ last)) in
        let behind : deletes_in (ops_of (r.work ++ last)) ≡ deletes_in (ops_of r.work) + deletes_in (r.end.0 ∷ []) = ap (λ z. deletes_in z) (ops-append r.work last) ∙ deletes-append (ops_of r.work) (r.end.0 ∷ []) in
        let none : deletes_in (r.end.0 ∷ []) ≡ 0 = none_next name key placed r.work r.end.0 r.end.1 in
        let before : deletes_in (ops_of (joined broken.rounds)) + 0 ≡ c = broken.deletes in
        let most : deletes_in (ops_of r.work) + c ≤ 4 = r.deletes in
        let rose : epoch_now first + n ≤ epoch_now start = broken.risen is in
        let once : epoch_now start + 1 ≤ epoch_now new = late.risen in
        omega (arith, high, split, behind, none, before, most, rose, once, four)

    pub rounds_cause : (f : PartFault) → RoundsStop name key first new placed 0 f → IsWriteCause key old f
    rounds_cause (part.Core core) h = tt
    rounds_cause (part.Refused told) (in_round n few start c b nodes broken r caught) = λ is. elim (r.cause told refl is) [
      | inl late ↦ elim caught [ inl four ↦ absurd (never_stale told start n c b nodes four broken r is late) | inr other ↦ absurd (other late.stale) ]
      | inr refused ↦ refused
    ]
    rounds_cause (part.Refused told) (in_forgets n few start stale c b nodes broken s most g granted) = λ is. absurd (granted s.holds is)
    rounds_cause part.TooMany h = tt
    rounds_cause part.NoMemory h = tt
