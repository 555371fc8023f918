-- What a change of one peer, and what a new view must keep.
use Rattle.std.proofs.Common.{◌≡◌, ℕ, suc, ◌≤◌, List, [], ◌∷◌, ◌++◌, ◌⊎◌, inl, inr, refl, arith, length}
use Rattle.hs_copies.specs.Lists.{Item, IsFront, AreBelow, Rises, IsBehind, Agree}
use Rattle.hs_copies.specs.Machine.{Stage, Good, Following, PeerCopy, Notice, EntryNotice, SealedNotice, Copies, put_at, item, told_copy, with_new_view, with_copy}
use Rattle.hs_copies.specs.Invariant.{reach, IsGoodCopy, IsTrue, AreFaithful}
use Rattle.hs_copies.proofs.ListLemmas.{front_refl, front_append, front_more, front_both, length_append, below_prefix, below_up, below_append, rises_append, rises_prefix, behind_prefix, behind_less, behind_cut, agree_refl, agree_sym, agree_front_of, agree_fresh}
use Rattle.hs_copies.proofs.PeerLemmas.{put_cases, put_self, reach_none}

-- the lead's list is the reach of a peer
pub log_below : {X : Type 0} (s : Copies X) → AreFaithful s → AreBelow (suc s.view) s.log
log_below s r = rw (← r.led.2) (below_prefix (suc s.view) (s.peers r.led.0).list (reach (s.peers r.led.0)) (front_append (s.peers r.led.0).list (s.peers r.led.0).adding) (r.below r.led.0))

pub log_agree : {X : Type 0} (s : Copies X) → AreFaithful s → (q : ℕ) → Agree s.log (reach (s.peers q))
log_agree s r q = rw (← r.led.2) (agree_front_of (s.peers r.led.0).list (reach (s.peers r.led.0)) (reach (s.peers q)) (front_append (s.peers r.led.0).list (s.peers r.led.0).adding) (r.agree r.led.0 q))

module _ {X : Type 0} (s : Copies X) (r : AreFaithful s) (p : ℕ) (c : PeerCopy X)
    (within : IsFront (reach c) s.log ⊎ IsFront (reach c) (reach (s.peers p)))
    (stays : (s.peers p).stage ≡ Good → (c.stage ≡ Good) × ((s.peers p).sealed ≤ c.sealed))
    (leads : (s.peers p).stage ≡ Good → (s.peers p).list ≡ s.log → c.list ≡ s.log)
    (good : c.stage ≡ Good → IsGoodCopy s.log s.took c)
    (following : c.stage ≡ Following → IsFront (reach c) s.log × (length c.list ≡ c.sealed)) where
  one_below : AreBelow (suc s.view) (reach c)
  one_below = elim within [ inl k ↦ below_prefix (suc s.view) (reach c) s.log k (log_below s r) | inr k ↦ below_prefix (suc s.view) (reach c) (reach (s.peers p)) k (r.below p) ]

  one_risen : Rises 0 (reach c)
  one_risen = elim within [ inl k ↦ rises_prefix 0 (reach c) s.log k r.rises | inr k ↦ rises_prefix 0 (reach c) (reach (s.peers p)) k (r.risen p) ]

  one_behind : IsBehind (reach c) s.log
  one_behind = elim within [ inl k ↦ behind_prefix (reach c) s.log k | inr k ↦ behind_less (reach c) (reach (s.peers p)) s.log k (r.behind p) ]

  one_agree : (q : ℕ) → Agree (reach c) (reach (s.peers q))
  one_agree q = elim within [ inl k ↦ agree_front_of (reach c) s.log (reach (s.peers q)) k (log_agree s r q) | inr k ↦ agree_front_of (reach c) (reach (s.peers p)) (reach (s.peers q)) k (r.agree p q) ]

  one_fits : (m : Notice X) → IsTrue s m → IsTrue (with_copy p c s) m
  one_fits (EntryNotice to view place x) f = f
  one_fits (SealedNotice from view number) f =
      (f.0, λ e. put_cases (λ k. (k.stage ≡ Good) × (number ≤ k.sealed)) p c s.peers from (λ i. let g = rw i at (f.1 e) in ((stays g.0).0, omega (arith, (stays g.0).1, g.1))) (λ i. f.1 e))

  one_led : ((put_at p c s.peers r.led.0).stage ≡ Good) × ((put_at p c s.peers r.led.0).list ≡ s.log)
  one_led =
      put_cases (λ k. (k.stage ≡ Good) × (k.list ≡ s.log)) p c s.peers r.led.0
      (λ e. let g : (s.peers p).stage ≡ Good = rw (← e) r.led.1 in let h : (s.peers p).list ≡ s.log = rw (← e) r.led.2 in ((stays g).0, leads g h))
      (λ e. (r.led.1, r.led.2))

  pub one_peer : AreFaithful (with_copy p c s)
  one_peer =
      record {
        rises = r.rises;
        risen = λ q. put_cases (λ k. Rises 0 (reach k)) p c s.peers q (λ e. one_risen) (λ e. r.risen q);
        below = λ q. put_cases (λ k. AreBelow (suc s.view) (reach k)) p c s.peers q (λ e. one_below) (λ e. r.below q);
        behind = λ q. put_cases (λ k. IsBehind (reach k) s.log) p c s.peers q (λ e. one_behind) (λ e. r.behind q);
        agree = λ a b. put_cases (λ k. Agree (reach k) (reach (put_at p c s.peers b))) p c s.peers a
            (λ e. put_cases (λ k. Agree (reach c) (reach k)) p c s.peers b (λ e. agree_refl (reach c)) (λ e. one_agree b))
            (λ e. put_cases (λ k. Agree (reach (s.peers a)) (reach k)) p c s.peers b (λ e. agree_sym (reach c) (reach (s.peers a)) (one_agree a)) (λ e. r.agree a b));
        led = (r.led.0, one_led.0, one_led.1);
        good = λ q. put_cases (λ k. k.stage ≡ Good → IsGoodCopy s.log s.took k) p c s.peers q (λ e. good) (λ e. r.good q);
        following = λ q. put_cases (λ k. k.stage ≡ Following → IsFront (reach k) s.log × (length k.list ≡ k.sealed)) p c s.peers q (λ e. following) (λ e. r.following q);
        took = r.took;
        sent = λ m k. one_fits m (r.sent m k);
      }

-- a peer that is good in the new view
pub record Stays {X : Type 0} (lead took : List (Item X)) (c : PeerCopy X) : Type 0 where
  pub prefix : IsFront c.list lead
  pub nothing : c.adding ≡ []
  pub held : c.sealed ≤ length c.list
  pub front : length took ≤ c.sealed

module _ {X : Type 0} (s : Copies X) (r : AreFaithful s) (lead : ℕ) (x : X) (peers : ℕ → PeerCopy X)
    (same : (q : ℕ) → reach (peers q) ≡ reach (s.peers q))
    (leads : (peers lead).stage ≡ Good)
    (within : IsFront (peers lead).list s.log)
    (good : (q : ℕ) → (peers q).stage ≡ Good → Stays (peers lead).list s.took (peers q))
    (following : (q : ℕ) → (peers q).stage ≡ Following → IsFront (reach (peers q)) (peers lead).list × (length (peers q).list ≡ (peers q).sealed)) where
  new : Item X
  new = item (suc s.view) x

  whole : List (Item X)
  whole = (peers lead).list ++ item (suc s.view) x ∷ []

  c : PeerCopy X
  c = record (told_copy (peers lead)) { list = (peers lead).list ++ item (suc s.view) x ∷ [] }

  low : (q : ℕ) → AreBelow (suc s.view) (reach (peers q))
  low q = rw (same q) (r.below q)

  lead_low : AreBelow (suc s.view) (peers lead).list
  lead_low = below_prefix (suc s.view) (peers lead).list (reach (peers lead)) (front_append (peers lead).list (peers lead).adding) (low lead)

  whole_rises : Rises 0 ((peers lead).list ++ item (suc s.view) x ∷ [])
  whole_rises = rises_append 0 0 (peers lead).list (item (suc s.view) x) (rises_prefix 0 (peers lead).list s.log within r.rises) (below_up (suc s.view) (suc (suc s.view)) (peers lead).list (omega arith) lead_low) (omega arith)

  lead_reach : reach c ≡ (peers lead).list ++ item (suc s.view) x ∷ []
  unfolding c
  lead_reach = reach_none (record (told_copy (peers lead)) { list = (peers lead).list ++ item (suc s.view) x ∷ [] }) (good lead leads).nothing

  others_behind : (q : ℕ) → IsBehind (reach (peers q)) ((peers lead).list ++ item (suc s.view) x ∷ [])
  others_behind q = rw (same q) (behind_cut (reach (s.peers q)) s.log (peers lead).list (item (suc s.view) x) (r.behind q) within (r.below q))

  lead_agree : (q : ℕ) → Agree ((peers lead).list ++ item (suc s.view) x ∷ []) (reach (peers q))
  lead_agree q =
      agree_fresh (peers lead).list (reach (peers q)) (item (suc s.view) x) (agree_front_of (peers lead).list s.log (reach (peers q)) within (rw (same q) (log_agree s r q))) (low q)

  view_fits : (m : Notice X) → IsTrue s m → IsTrue (with_new_view lead x peers s) m
  view_fits (EntryNotice to view place y) f = (omega (arith, f.0), λ e. absurd (omega (arith, f.0, e)))
  view_fits (SealedNotice from view number) f = (omega (arith, f.0), λ e. absurd (omega (arith, f.0, e)))

  pub next_view : AreFaithful (with_new_view lead x peers s)
  unfolding c
  next_view =
      record {
        rises = whole_rises;
        risen = λ q. put_cases (λ k. Rises 0 (reach k)) lead c (λ a. told_copy (peers a)) q (λ e. rw lead_reach whole_rises) (λ e. rw (same q) (r.risen q));
        below = λ q. put_cases (λ k. AreBelow (suc (suc s.view)) (reach k)) lead c (λ a. told_copy (peers a)) q
            (λ e. rw lead_reach (below_append (suc (suc s.view)) (peers lead).list (item (suc s.view) x ∷ []) (below_up (suc s.view) (suc (suc s.view)) (peers lead).list (omega arith) lead_low) (omega arith, tt)))
            (λ e. below_up (suc s.view) (suc (suc s.view)) (reach (peers q)) (omega arith) (low q));
        behind = λ q. put_cases (λ k. IsBehind (reach k) ((peers lead).list ++ item (suc s.view) x ∷ [])) lead c (λ a. told_copy (peers a)) q
            (λ e. rw lead_reach (behind_prefix ((peers lead).list ++ item (suc s.view) x ∷ []) ((peers lead).list ++ item (suc s.view) x ∷ []) (front_refl ((peers lead).list ++ item (suc s.view) x ∷ []))))
            (λ e. others_behind q);
        agree = λ a b. put_cases (λ k. Agree (reach k) (reach (put_at lead c (λ q. told_copy (peers q)) b))) lead c (λ q. told_copy (peers q)) a
            (λ e. put_cases (λ k. Agree (reach c) (reach k)) lead c (λ q. told_copy (peers q)) b (λ e. agree_refl (reach c)) (λ e. rw lead_reach (lead_agree b)))
            (λ e. put_cases (λ k. Agree (reach (peers a)) (reach k)) lead c (λ q. told_copy (peers q)) b (λ e. rw lead_reach (agree_sym ((peers lead).list ++ item (suc s.view) x ∷ []) (reach (peers a)) (lead_agree a))) (λ e. rw (same a, same b) (r.agree a b)));
        led = (lead, put_self (λ k. k.stage ≡ Good) lead c (λ a. told_copy (peers a)) leads, put_self (λ k. k.list ≡ (peers lead).list ++ item (suc s.view) x ∷ []) lead c (λ a. told_copy (peers a)) refl);
        good = λ q. put_cases (λ k. k.stage ≡ Good → IsGoodCopy ((peers lead).list ++ item (suc s.view) x ∷ []) s.took k) lead c (λ a. told_copy (peers a)) q
            (λ e g. record { prefix = front_refl ((peers lead).list ++ item (suc s.view) x ∷ []); nothing = (good lead leads).nothing; told = omega arith; held = omega (arith, (good lead leads).held, length_append (peers lead).list (item (suc s.view) x ∷ [])); front = (good lead leads).front })
            (λ e g. record { prefix = front_more (peers q).list (peers lead).list (item (suc s.view) x ∷ []) (good q g).prefix; nothing = (good q g).nothing; told = omega arith; held = (good q g).held; front = (good q g).front });
        following = λ q. put_cases (λ k. k.stage ≡ Following → IsFront (reach k) ((peers lead).list ++ item (suc s.view) x ∷ []) × (length k.list ≡ k.sealed)) lead c (λ a. told_copy (peers a)) q
            (λ e g. absurd (not_both (peers lead).stage leads g))
            (λ e g. (front_more (reach (peers q)) (peers lead).list (item (suc s.view) x ∷ []) (following q g).0, (following q g).1));
        took = front_more s.took (peers lead).list (item (suc s.view) x ∷ []) (front_both s.took (peers lead).list s.log r.took within (omega (arith, (good lead leads).held, (good lead leads).front)));
        sent = λ m k. view_fits m (r.sent m k);
      }
    where
      not_both : (k : Stage) → k ≡ Good → k ≡ Following → ⊥
      not_both k a b = cc (a, b)
