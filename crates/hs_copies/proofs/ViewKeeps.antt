-- A peer that fails, and one that joins: new views.
use Rattle.std.proofs.Common.{◌≡◌, ◌≢◌, ℕ, Bool, true, false, List, [], ◌∷◌, refl, sym, arith, length, ap, ◌∙◌}
use Rattle.hs_copies.specs.Lists.{Item, IsFront}
use Rattle.hs_copies.specs.Machine.{Stage, Good, Clearing, Following, Down, PeerCopy, Copies, CopyEvent, Propose, Send, CopyComes, Sealed, HaveComes, TakesEffect, Fail, GiveUp, Start, Cleared, Copying, Copied, Join, put_at, stage_again, begin_again, CanCome, after_event, CanComeAll, after_events}
use Rattle.hs_copies.specs.Invariant.{reach, AreFaithful}
use Rattle.hs_copies.proofs.ListLemmas.{front_refl, front_length, front_whole, front_both, front_left}
use Rattle.hs_copies.proofs.PeerLemmas.{put_cases}
use Rattle.hs_copies.proofs.ChangeLemmas.{Stays, next_view}
use Rattle.hs_copies.proofs.EventKeeps.{propose, send, copy_comes, seals, have_comes, takes_effect, give_up, starts, cleared, copying, copied}

begins_reach : {X : Type 0} (again : Bool) (c : PeerCopy X) → reach (begin_again again c) ≡ reach c
begins_reach true c = refl
begins_reach false c = refl

begins_list : {X : Type 0} (again : Bool) (c : PeerCopy X) → (begin_again again c).list ≡ c.list
begins_list true c = refl
begins_list false c = refl

begins_good : {X : Type 0} (again : Bool) (c : PeerCopy X) → c.stage ≡ Good → (begin_again again c).stage ≡ Good
begins_good true c e = rw e refl
begins_good false c e = e

again_good : (k : Stage) → stage_again k ≡ Good → k ≡ Good
again_good Good e = refl
again_good Clearing e = absurd (cc e)
again_good Following e = absurd (cc e)
again_good Down e = absurd (cc e)

again_following : (k : Stage) → stage_again k ≡ Following → ⊥
again_following Good e = cc e
again_following Clearing e = cc e
again_following Following e = cc e
again_following Down e = cc e

was_good : {X : Type 0} (again : Bool) (c : PeerCopy X) → (begin_again again c).stage ≡ Good → c.stage ≡ Good
was_good true c e = again_good c.stage e
was_good false c e = e

was_following : {X : Type 0} (again : Bool) (c : PeerCopy X) → (begin_again again c).stage ≡ Following → (again ≡ false) × (c.stage ≡ Following)
was_following true c e = absurd (again_following c.stage e)
was_following false c e = (refl, e)

begins_stays : {X : Type 0} (again : Bool) (c : PeerCopy X) (lead took : List (Item X)) → Stays lead took c → Stays lead took (begin_again again c)
begins_stays true c lead took k = record { prefix = k.prefix; nothing = k.nothing; held = k.held; front = k.front }
begins_stays false c lead took k = k

begins_followed : {X : Type 0} (again : Bool) (c : PeerCopy X) (lead : List (Item X)) → IsFront (reach c) lead → length c.list ≡ c.sealed → IsFront (reach (begin_again again c)) lead × (length (begin_again again c).list ≡ (begin_again again c).sealed)
begins_followed true c lead p l = (p, l)
begins_followed false c lead p l = (p, l)

module _ {X : Type 0} (s : Copies X) (r : AreFaithful s) where
  module _ (p lead : ℕ) (again : Bool) (x : X) (a : CanCome s (Fail p lead again x)) where
    down : PeerCopy X
    down = record (s.peers p) { stage = Down }

    unfoldable pub others : ℕ → PeerCopy X
    others q = begin_again again (put_at p (record (s.peers p) { stage = Down }) s.peers q)

    cases : (P : PeerCopy X → Type 0) (q : ℕ) → (q ≡ p → P (begin_again again (record (s.peers p) { stage = Down }))) → (q ≢ p → P (begin_again again (s.peers q))) → P (begin_again again (put_at p (record (s.peers p) { stage = Down }) s.peers q))
    cases P q same other = put_cases (λ k. P (begin_again again k)) p (record (s.peers p) { stage = Down }) s.peers q same other

    down_good : (again : Bool) → (begin_again again (record (s.peers p) { stage = Down })).stage ≡ Good → ⊥
    down_good true e = cc e
    down_good false e = cc e

    down_following : (again : Bool) → (begin_again again (record (s.peers p) { stage = Down })).stage ≡ Following → ⊥
    down_following true e = cc e
    down_following false e = cc e

    pub fail_same : (q : ℕ) → reach (others q) ≡ reach (s.peers q)
    unfolding others
    fail_same q =
        cases (λ k. reach k ≡ reach (s.peers q)) q
        (λ e. begins_reach again (record (s.peers p) { stage = Down }) ∙ ap (λ n. reach (s.peers n)) (sym e))
        (λ e. begins_reach again (s.peers q))

    pub lead_list : (others lead).list ≡ (s.peers lead).list
    unfolding others
    lead_list = cases (λ k. k.list ≡ (s.peers lead).list) lead (λ e. absurd (a.0 e)) (λ e. begins_list again (s.peers lead))

    pub fail_within : IsFront (others lead).list s.log
    fail_within = rw lead_list (r.good lead a.2).prefix

    fail_good : (q : ℕ) → (others q).stage ≡ Good → Stays (others lead).list s.took (others q)
    unfolding others
    fail_good q =
        cases (λ k. k.stage ≡ Good → Stays (others lead).list s.took k) q
        (λ e g. absurd (down_good again g))
        (λ e g.
        let h = was_good again (s.peers q) g in
        let k = r.good q h in
        begins_stays again (s.peers q) (others lead).list s.took (record {
          prefix = rw lead_list (front_both (s.peers q).list (s.peers lead).list s.log k.prefix (r.good lead a.2).prefix (a.3 q e h));
          nothing = k.nothing;
          held = k.held;
          front = omega (arith, k.front, k.told);
        }))

    fail_following : (q : ℕ) → (others q).stage ≡ Following → IsFront (reach (others q)) (others lead).list × (length (others q).list ≡ (others q).sealed)
    unfolding others
    fail_following q =
        cases (λ k. k.stage ≡ Following → IsFront (reach k) (others lead).list × (length k.list ≡ k.sealed)) q
        (λ e g. absurd (down_following again g))
        (λ e g.
        let h = was_following again (s.peers q) g in
        let k = r.following q h.1 in
        let w : (s.peers lead).list ≡ s.log = front_whole (s.peers lead).list s.log (r.good lead a.2).prefix (omega (arith, a.4 h.0)) in
        begins_followed again (s.peers q) (others lead).list (rw (lead_list, w) k.0) k.1)

    pub fails : AreFaithful (after_event (Fail p lead again x) s)
    unfolding others
    fails =
        next_view s r lead x others fail_same
        (cases (λ k. k.stage ≡ Good) lead (λ e. absurd (a.0 e)) (λ e. begins_good again (s.peers lead) a.2))
        fail_within fail_good fail_following

  module _ (p lead : ℕ) (x : X) (a : CanCome s (Join p lead x)) where
    unfoldable pub joined : ℕ → PeerCopy X
    joined = put_at p (record (s.peers p) { stage = Good }) s.peers

    pub join_same : (q : ℕ) → reach (joined q) ≡ reach (s.peers q)
    unfolding joined
    join_same q = put_cases (λ k. reach k ≡ reach (s.peers q)) p (record (s.peers p) { stage = Good }) s.peers q (λ e. ap (λ n. reach (s.peers n)) (sym e)) (λ e. refl)

    joiner : IsFront (s.peers p).list s.log
    joiner = front_left (s.peers p).list (s.peers p).adding s.log (r.following p a.0).0

    pub join_list : (joined lead).list ≡ s.log
    unfolding joined
    join_list =
        put_cases (λ k. k.list ≡ s.log) p (record (s.peers p) { stage = Good }) s.peers lead
        (λ e. front_whole (s.peers p).list s.log joiner (omega (arith, a.2)))
        (λ e. front_whole (s.peers lead).list s.log (r.good lead (a.3.0 e)).prefix (omega (arith, a.3.1)))

    join_good : (q : ℕ) → (joined q).stage ≡ Good → Stays (joined lead).list s.took (joined q)
    unfolding joined
    join_good q =
        put_cases (λ k. k.stage ≡ Good → Stays (joined lead).list s.took k) p (record (s.peers p) { stage = Good }) s.peers q
        (λ e g. record {
          prefix = rw join_list joiner;
          nothing = a.1;
          held = omega (arith, (r.following p a.0).1);
          front = omega (arith, (r.following p a.0).1, a.2, front_length s.took s.log r.took);
        })
        (λ e g. let k = r.good q g in record { prefix = rw join_list k.prefix; nothing = k.nothing; held = k.held; front = omega (arith, k.front, k.told) })

    join_following : (q : ℕ) → (joined q).stage ≡ Following → IsFront (reach (joined q)) (joined lead).list × (length (joined q).list ≡ (joined q).sealed)
    unfolding joined
    join_following q =
        put_cases (λ k. k.stage ≡ Following → IsFront (reach k) (joined lead).list × (length k.list ≡ k.sealed)) p (record (s.peers p) { stage = Good }) s.peers q
        (λ e g. absurd (cc g))
        (λ e g. rw join_list (r.following q g))

    pub joins : AreFaithful (after_event (Join p lead x) s)
    unfolding joined
    joins =
        next_view s r lead x joined join_same
        (put_cases (λ k. k.stage ≡ Good) p (record (s.peers p) { stage = Good }) s.peers lead (λ e. refl) (λ e. a.3.0 e))
        (rw join_list (front_refl s.log)) join_good join_following

  pub after_right : (e : CopyEvent X) → CanCome s e → AreFaithful (after_event e s)
  after_right (Propose lead x) a = propose s r lead x a.0 a.1
  after_right (Send m) a = send s r m a
  after_right (CopyComes to place x) a = copy_comes s r to place x a
  after_right (Sealed p n) a = seals s r p n a
  after_right (HaveComes p n) a = have_comes s r p n a
  after_right (TakesEffect x) a = takes_effect s r x a
  after_right (Fail p lead again x) a = fails p lead again x a
  after_right (GiveUp p) a = give_up s r p a
  after_right (Start p) a = starts s r p a
  after_right (Cleared p n) a = cleared s r p n a
  after_right (Copying p more) a = copying s r p more a
  after_right (Copied p) a = copied s r p a
  after_right (Join p lead x) a = joins p lead x a

pub keeps_right : {X : Type 0} (s : Copies X) (es : List (CopyEvent X)) → AreFaithful s → CanComeAll s es → AreFaithful (after_events s es)
keeps_right s [] r l = r
keeps_right s (e ∷ es) r l = keeps_right (after_event e s) es (after_right s r e l.0) l.1
