-- Where the lists come from.
use Rattle.std.proofs.Common.{◌≡◌, ℕ, suc, ◌≤◌, Bool, true, false, List, [], ◌∷◌, ◌++◌, ◌⊎◌, inl, inr, refl, arith, length, Some, ◌∙◌}
use Rattle.std.specs.Prelude.{slice_get, take}
use Rattle.hs_copies.specs.Lists.{Item, IsFront}
use Rattle.hs_copies.specs.Machine.{Good, Clearing, Following, Down, PeerCopy, EntryNotice, Copies, CopyEvent, Propose, Send, CopyComes, Sealed, HaveComes, TakesEffect, Fail, GiveUp, Start, Cleared, Copying, Copied, Join, put_at, item, told_copy, begin_again, with_new_view, CanCome, after_event}
use Rattle.hs_copies.specs.Invariant.{reach, AreFaithful}
use Rattle.hs_copies.proofs.ListLemmas.{front_refl, front_length, front_both, front_step}
use Rattle.hs_copies.proofs.PeerLemmas.{put_cases, reach_none}
use Rattle.hs_copies.proofs.EventKeeps.{cleared_common}
use Rattle.hs_copies.proofs.ViewKeeps.{others, fail_same, fail_within, lead_list, joined, join_same, join_list}

-- what an event adds to the lead's list
abbrev pub items_added : {X : Type 0} → CopyEvent X → Copies X → List (Item X)
items_added (Propose lead x) s = item s.view x ∷ []
items_added (Fail p lead again x) s = item (suc s.view) x ∷ []
items_added (Join p lead x) s = item (suc s.view) x ∷ []
items_added e s = []

-- a proposed entry stands behind the whole log, that of a new view behind all that took effect
abbrev pub StandsBehind : {X : Type 0} → CopyEvent X → Copies X → List (Item X) → Type 0
StandsBehind (Propose lead x) s ys = ys ≡ s.log
StandsBehind e s ys = length s.took ≤ length ys

-- where a peer's list comes from after an event: from its own list, or from the lead's, or from a front of the lead's with what is added
abbrev pub IsGrown : {X : Type 0} → Copies X → CopyEvent X → ℕ → List (Item X) → Type 0
IsGrown {X} s e q xs =
    IsFront xs s.log ⊎ IsFront xs (reach (s.peers q)) ⊎ ((ys : List (Item X)) × IsFront ys s.log × (xs ≡ ys ++ items_added e s) × StandsBehind e s ys)

took_good : {X : Type 0} (s : Copies X) (r : AreFaithful s) (p : ℕ) → (s.peers p).stage ≡ Good → IsFront s.took (s.peers p).list
took_good s r p g = let k = r.good p g in front_both s.took (s.peers p).list s.log r.took k.prefix (omega (arith, k.front, k.told, k.held))

module _ {X : Type 0} (s : Copies X) (r : AreFaithful s) where
  same_grown : (e : CopyEvent X) (q : ℕ) → IsGrown s e q (reach (s.peers q))
  same_grown e q = inr (inl (front_refl (reach (s.peers q))))

  one_grown : (e : CopyEvent X) (p : ℕ) (c : PeerCopy X) → IsFront (reach c) s.log ⊎ IsFront (reach c) (reach (s.peers p)) → (q : ℕ) → IsGrown s e q (reach (put_at p c s.peers q))
  one_grown e p c within q =
      put_cases (λ k. IsGrown s e q (reach k)) p c s.peers q
      (λ i. elim within [ inl k ↦ inl k | inr k ↦ inr (inl (rw i k)) ])
      (λ i. same_grown e q)

  view_grown : (e : CopyEvent X) (lead : ℕ) (x : X) (peers : ℕ → PeerCopy X) → items_added e s ≡ item (suc s.view) x ∷ [] → StandsBehind e s (peers lead).list → ((q : ℕ) → reach (peers q) ≡ reach (s.peers q)) → IsFront (peers lead).list s.log → (peers lead).adding ≡ [] → (q : ℕ) → IsGrown s e q (reach ((with_new_view lead x peers s).peers q))
  view_grown e lead x peers a w same within none q =
      let c : PeerCopy X = record (told_copy (peers lead)) { list = (peers lead).list ++ item (suc s.view) x ∷ [] } in
      put_cases (λ k. IsGrown s e q (reach k)) lead c (λ b. told_copy (peers b)) q
      (λ i. inr (inr ((peers lead).list, within, rw a (reach_none c none), w)))
      (λ i. inr (inl (rw (same q) (front_refl (reach (s.peers q))))))

  begins_adding : (again : Bool) (c : PeerCopy X) → (begin_again again c).adding ≡ c.adding
  begins_adding true c = refl
  begins_adding false c = refl

  fail_adding : (p lead : ℕ) (again : Bool) (x : X) → CanCome s (Fail p lead again x) → (begin_again again (put_at p (record (s.peers p) { stage = Down }) s.peers lead)).adding ≡ []
  fail_adding p lead again x a =
      put_cases (λ k. (begin_again again k).adding ≡ []) p (record (s.peers p) { stage = Down }) s.peers lead (λ e. absurd (a.0 e)) (λ e. begins_adding again (s.peers lead) ∙ (r.good lead a.2).nothing)

  join_adding : (p lead : ℕ) (x : X) → CanCome s (Join p lead x) → (put_at p (record (s.peers p) { stage = Good }) s.peers lead).adding ≡ []
  join_adding p lead x a =
      put_cases (λ k. k.adding ≡ []) p (record (s.peers p) { stage = Good }) s.peers lead (λ e. a.1) (λ e. (r.good lead (a.3.0 e)).nothing)

  pub grown : (e : CopyEvent X) → CanCome s e → (q : ℕ) → IsGrown s e q (reach ((after_event e s).peers q))
  unfolding others joined
  grown (Propose lead x) a q =
      let c : PeerCopy X = record (s.peers lead) { list = s.log ++ item s.view x ∷ [] } in
      put_cases (λ k. IsGrown s (Propose lead x) q (reach k)) lead c s.peers q
      (λ i. inr (inr (s.log, front_refl s.log, reach_none c (r.good lead a.0).nothing, refl)))
      (λ i. same_grown (Propose lead x) q)
  grown (Send m) a q = same_grown (Send m) q
  grown (CopyComes to place x) a q =
      let g = r.good to a.0 in
      let here : slice_get s.log (length (s.peers to).list) ≡ Some x = rw (← a.1) ((r.sent (EntryNotice to s.view place x) a.2).1 refl) in
      let c : PeerCopy X = record (s.peers to) { list = (s.peers to).list ++ x ∷ [] } in
      one_grown (CopyComes to place x) to c (inl (rw (reach_none c g.nothing) (front_step (s.peers to).list s.log x g.prefix here))) q
  grown (Sealed p n) a q = one_grown (Sealed p n) p (record (s.peers p) { sealed = n }) (inr (front_refl (reach (s.peers p)))) q
  grown (HaveComes p n) a q = one_grown (HaveComes p n) p (record (s.peers p) { known = n }) (inr (front_refl (reach (s.peers p)))) q
  grown (TakesEffect x) a q = same_grown (TakesEffect x) q
  grown (Fail p lead again x) a q =
      view_grown (Fail p lead again x) lead x (others s r p lead again x a) refl (rw (lead_list s r p lead again x a) (front_length s.took (s.peers lead).list (took_good s r lead a.2))) (fail_same s r p lead again x a) (fail_within s r p lead again x a) (fail_adding p lead again x a) q
  grown (GiveUp p) a q = one_grown (GiveUp p) p (record (s.peers p) { stage = Down }) (inr (front_refl (reach (s.peers p)))) q
  grown (Start p) a q = one_grown (Start p) p (record (s.peers p) { stage = Clearing }) (inr (front_refl (reach (s.peers p)))) q
  grown (Cleared p n) a q =
      let c : PeerCopy X = record (s.peers p) { stage = Following; list = take n (s.peers p).list; adding = []; sealed = n } in
      one_grown (Cleared p n) p c (inl (rw (reach_none c refl) (cleared_common s r p n a.1).0)) q
  grown (Copying p more) a q = one_grown (Copying p more) p (record (s.peers p) { adding = more }) (inl a.1) q
  grown (Copied p) a q =
      let c : PeerCopy X = record (s.peers p) { list = (s.peers p).list ++ (s.peers p).adding; adding = []; sealed = length ((s.peers p).list ++ (s.peers p).adding) } in
      one_grown (Copied p) p c (inr (rw (reach_none c refl) (front_refl (reach (s.peers p))))) q
  grown (Join p lead x) a q =
      view_grown (Join p lead x) lead x (joined s r p lead x a) refl (rw (join_list s r p lead x a) (front_length s.took s.log r.took)) (join_same s r p lead x a) (rw (join_list s r p lead x a) (front_refl s.log)) (join_adding p lead x a) q
