-- A peer begins to join, is emptied, gets an entry, and is good once it is level: all is fine behind it.
use Rattle.std.proofs.Common.{◌≡◌, ◌≢◌, ◌∙◌, ap, sym, subst, refl, inl, inr, arith, ℕ, ◌+◌, ◌-◌, ◌*◌, ◌<◌, ◌≤◌, ◌==◌, ◌&&◌, not, Bool, true, false, ◌++◌, Some, None, length, length-append, unwrap_or}
use Rattle.std.proofs.lemmas.Bool.{cases_eq, cases_lt}
use Rattle.std.proofs.lemmas.List.{length-set}
use Rattle.std.proofs.lemmas.List.Elements.{All-weaker}
use Rattle.std.specs.Map.{values_of}
use Rattle.std.specs.Option.{option_map, option_map_or}
use Rattle.hs_awaiting.specs.Words.{change_if}
use Rattle.hs_copies.proofs.ListLemmas.{front_length}
use Rattle.hs_copies.proofs.StandLemmas.{length_is}
use Rattle.hs_copies.proofs.StatusLemmas.{become_here, become_other}
use Rattle.hs_copies.specs.Machine.{Copies, Following, after_events}
use Rattle.hs_copies.specs.Standing.{stage_of}
use Rattle.hs_core_words.specs.Changing.{set_rejoin, set_status}
use Rattle.hs_core_words.specs.Effects.{commit}
use Rattle.hs_core_words.specs.Joining.{follow_lead, is_level_with_lead, join, join_if_level, start}
use Rattle.hs_core_words.specs.Looking.{group_of, home, lead_of, rejoin_of, status_of}
use Rattle.hs_core_words.specs.State.{Core}
use Rattle.hs_core_words.specs.Views.{begin_view, change_view}
use Rattle.hs_core_copies.proofs.BesideLemmas.{home_of_peer}
use Rattle.hs_core_copies.proofs.LeadLemmas.{of_home}
use Rattle.hs_core_copies.proofs.PlaceLemmas.{rejoin_here, rejoin_other}
use Rattle.hs_core_copies.proofs.ReportLemmas.{same_number}
use Rattle.hs_core_copies.proofs.RiseLemmas.{starts}
use Rattle.hs_core_copies.proofs.WalkLemmas.{keeps_commits}
use Rattle.hs_core_copies.specs.InStep.{IsInStep, IsOf, copies_in, rejoin_at}
use Rattle.hs_entry.specs.declared.entry.Entry.{Entry}
use Rattle.hs_limits.specs.declared.limits.PeerStatus.{PeerStatus}
use Rattle.hs_limits.specs.declared.limits.PeerStatus.TheVariants.{Down, Good, Joining}
use Rattle.hs_members.specs.Members.{become, has_good, status}
use Rattle.hs_rejoin.specs.Rejoin.{Rejoin, is_level, new_rejoin}
use Rattle.hs_replica.specs.declared.replica.Replica.{Replica}
use Rattle.hs_replica.specs.Group.{IsHome, copy_of, first_peer, last_number, lead, length_of}
use Rattle.hs_quiet.specs.Keeping.{AreInStep, IsForGood}
use Rattle.hs_quiet.proofs.CopyLemmas.{copy_at, fit_renewed, past}
use Rattle.hs_quiet.proofs.FineLemmas.{Fine, Follows, NoOne, fine_follows, fine_view, stays_for, steps_fine}
use Rattle.hs_quiet.proofs.StartLemmas.{copy_good, known_at, last_is, lead_here, lead_whole, low_home, peer_low, seated_all}

-- ---- a peer that is down starts

module _ (s c : Core) (all : AreInStep c) (f : Fine s NoOne NoOne c) (p : ℕ) (low : p < c.members.shape.shards * c.members.shape.copies) (down : status_of p c ≡ Down) where
  other_starts : (q : ℕ) → q ≢ p → status_of q (start p c) ≡ status_of q c
  other_starts q n = become_other p q Joining c.members n

  is_other : (q : ℕ) (k : PeerStatus) → k ≢ Down → status_of q c ≡ k → q ≢ p
  is_other q k n e i = n (sym e ∙ ap (λ j. status_of j c) i ∙ down)

  good_apart : (q : ℕ) → status_of q c ≡ Good → q ≢ p
  good_apart q e = is_other q Good (λ d. let wrong : Good ≡ Down = d in cc wrong) e

  -- there is a lead
  led : (l : ℕ) × (lead_of (home p c) (start p c) ≡ Some l)
  led =
      let t = all.each (home p c) (low_home c all p low) in
      let k = starts (home p c) p c down t.0 t.1 in
      let l = lead_here (home p c) (start p c) (after_events t.0 k.events) k.keeps in
      (l.0, l.2)

  pub starts_fine : Fine s NoOne NoOne (start p c)
  starts_fine = record {
    shape = f.shape;
    seats = length-set c.progress.rejoins p _ ∙ f.seats;
    receivers = All-weaker (IsForGood c.members) (IsForGood (become p Joining c.members)) (stays_for c.members (become p Joining c.members) (λ q e. other_starts q (good_apart q e) ∙ e)) (values_of c.pool.messages) f.receivers;
    joins = λ q j. elim (cases_eq q p) [
      | inl e ↦
          let at : rejoin_of q (start p c) ≡ Some (new_rejoin led.0) =
          ap (λ n. rejoin_of n (start p c)) e ∙ rejoin_here p (option_map new_rejoin (lead_of (home p c) (set_status p Joining c))) (set_status p Joining c) (let n = (seated_all c all).rejoins in omega (arith, n, low)) ∙ ap (option_map new_rejoin) led.1 in
          inr (record { rejoin = new_rejoin led.0; is = at; less = λ i. (let wrong : true ≡ false = i in absurd (cc wrong)); leads = λ i. (let wrong : true ≡ false = i in absurd (cc wrong)) })
      | inr n ↦ elim (f.joins q (sym (other_starts q n) ∙ j)) [
        | inl none ↦ absurd none
        | inr k ↦ inr (record {
          rejoin = k.rejoin;
          is = rejoin_other p q (option_map new_rejoin (lead_of (home p c) (set_status p Joining c))) (set_status p Joining c) n ∙ k.is;
          less = k.less;
          leads = λ i l is. (let e = k.leads i l is in other_starts l (good_apart l e) ∙ e);
        })
      ]
    ];
    fits = λ g. elim (f.fits g) [
      | inl none ↦ absurd none
      | inr k ↦ inr (record {
        good = λ i e. (let was = k.good i e in other_starts (first_peer (group_of g c) + i) (good_apart (first_peer (group_of g c) + i) was) ∙ was);
        held = k.held;
        known = k.known;
        leads = k.leads;
      })
    ];
  }

-- ---- a joining peer that is level is good

module _ (s c : Core) (g : ℕ) (copies : Copies Entry) (st : IsInStep g c copies) (p : ℕ) (own : home p c ≡ g) (joins : status_of p c ≡ Joining) (f : Fine s (λ q. q ≡ p) NoOne c) where
  low_p : p < c.members.shape.shards * c.members.shape.copies
  low_p = peer_low p c st.stands.members.statuses (λ d. let wrong : Joining ≡ Down = sym joins ∙ d in cc wrong)

  now_good : status p (become p Good c.members) ≡ Good
  now_good = become_here p Good c.members st.stands.members low_p

  stays_good : (q : ℕ) → status_of q c ≡ Good → status q (become p Good c.members) ≡ Good
  stays_good q e = elim (cases_eq q p) [
    | inl is ↦ ap (λ k. status k (become p Good c.members)) is ∙ now_good
    | inr n ↦ become_other p q Good c.members n ∙ e
  ]

  abbrev c2 : Core
  c2 = set_rejoin p None (set_status p Good c)

  good_fine : Fine s NoOne NoOne (set_rejoin p None (set_status p Good c))
  good_fine = record {
    shape = f.shape;
    seats = length-set c.progress.rejoins p None ∙ f.seats;
    receivers = All-weaker (IsForGood c.members) (IsForGood (become p Good c.members)) (stays_for c.members (become p Good c.members) stays_good) (values_of c.pool.messages) f.receivers;
    joins = λ q j.
        let n : q ≢ p = λ e. (let wrong : Good ≡ Joining = sym now_good ∙ ap (λ k. status k (become p Good c.members)) (sym e) ∙ j in cc wrong) in
        elim (f.joins q (sym (become_other p q Good c.members n) ∙ j)) [
          | inl is ↦ absurd (n is)
          | inr k ↦ inr (record { rejoin = k.rejoin; is = rejoin_other p q None (set_status p Good c) n ∙ k.is; less = k.less; leads = λ i l led. stays_good l (k.leads i l led) })
        ];
    fits = λ y. elim (f.fits y) [
      | inl none ↦ absurd none
      | inr k ↦ inr (record { good = λ i e. stays_good (first_peer (group_of y c) + i) (k.good i e); held = k.held; known = k.known; leads = k.leads })
    ];
  }

  module _ (done : (rejoin_at c p).empty ≡ false) where
    home_p : IsHome (group_of g c) p
    home_p = home_of_peer g c copies st p own

    follows : (copies.peers p).stage ≡ Following
    follows = st.stands.peers.stage p home_p ∙ ap (λ k. stage_of k (rejoin_at c p).empty) joins ∙ ap (λ b. stage_of Joining b) done

    -- what it has it has sealed
    sealed_all : (copy_of (group_of g c) p).sealed ≤ length_of (group_of g c) p
    sealed_all = omega (arith, (st.stands.peers.each p home_p).sealed, (st.stands.faithful.following p follows).1, length_is (copies_in g st.sent c) copies st.stands p home_p)

    held_at : (i : ℕ) → status (first_peer (group_of g c) + i) (become p Good c.members) ≡ Good → (copy_at i (group_of g c)).sealed ≤ length (copy_at i (group_of g c)).stamps
    held_at i e = elim (cases_lt i (length (group_of g c).copies)) [
      | inl low ↦
          let q : ℕ = first_peer (group_of g c) + i in
          let at : q - first_peer (group_of g c) ≡ i = omega arith in
          let k = st.seated.placed g in
          let many : (group_of g c).shape.copies ≡ c.members.shape.copies = ap (λ x. x.copies) k.same_shape in
          let of : IsOf c.members.shape g q = of_home c.members.shape g (group_of g c) q (sym k.same_shape) k.same_shard (omega arith, omega (arith, low, k.few, many)) in
          elim (cases_eq q p) [
            | inl is ↦ subst (λ j. (copy_at j (group_of g c)).sealed ≤ length (copy_at j (group_of g c)).stamps) (ap (λ n. n - first_peer (group_of g c)) (sym is) ∙ at) sealed_all
            | inr n ↦
                let was : status_of q c ≡ Good = sym (become_other p q Good c.members n) ∙ e in
                (known_at g c copies st i (ap (λ j. (copy_at j (group_of g c)).good) (sym at) ∙ copy_good g c copies st q of was)).1
          ]
      | inr high ↦ subst (λ (r : Replica). r.sealed ≤ length r.stamps) (sym (past (group_of g c).copies i high)) (omega arith)
    ]

    viewed_fine : Fine s NoOne NoOne (begin_view g (set_rejoin p None (set_status p Good c)))
    viewed_fine =
        fine_view s NoOne g (set_rejoin p None (set_status p Good c)) (let n = st.seated.groups in let h = st.here in omega (arith, n, h)) (fit_renewed (become p Good c.members) (group_of g c) held_at)
        (record { shape = good_fine.shape; seats = good_fine.seats; receivers = good_fine.receivers; joins = good_fine.joins; fits = λ y. elim (good_fine.fits y) [ inl none ↦ absurd none | inr k ↦ inr k ] })

    pub joins_fine : Fine s NoOne NoOne (join p c)
    joins_fine = subst (λ (y : ℕ). Fine s NoOne NoOne (commit y (follow_lead y (change_view y (set_rejoin p None (set_status p Good c)))))) (sym own) (by_good (has_good g (become p Good c.members)))
      where
        rest : (b : Core) → Fine s NoOne NoOne b → Fine s NoOne NoOne (commit g (follow_lead g b))
        rest b k = keeps_commits (steps_fine s NoOne) g (follow_lead g b) (fine_follows s NoOne NoOne g b k)

        by_good : (b : Bool) → Fine s NoOne NoOne (commit g (follow_lead g (change_if b (begin_view g) (set_rejoin p None (set_status p Good c)))))
        by_good true = rest (begin_view g (set_rejoin p None (set_status p Good c))) viewed_fine
        by_good false = rest (set_rejoin p None (set_status p Good c)) good_fine

  -- how far it is, and where it is not level it has less than the lead's list
  pub level_fine : last_number (group_of g c) ≡ last_number (group_of (home p s) s) → (r : Rejoin) → rejoin_of p c ≡ Some r → r.empty ≡ false
      → ((l : ℕ) → lead (group_of (home p s) s) ≡ Some l → status_of l c ≡ Good) → Fine s NoOne NoOne (join_if_level p c)
  level_fine same r is loose led = go (is_level_with_lead p c) refl
    where
      done : (rejoin_at c p).empty ≡ false
      done = ap (λ o. (unwrap_or o (new_rejoin 0)).empty) is ∙ loose

      t : (l : ℕ) × (lead (group_of g c) ≡ Some l) × (lead_of g c ≡ Some l)
      t = lead_here g c copies st

      len : r.len ≡ length_of (group_of g c) p
      len =
          ap (λ o. (unwrap_or o (new_rejoin 0)).len) (sym is) ∙ st.stands.peers.counted p (home_of_peer g c copies st p own) (follows done)
          ∙ sym (length_is (copies_in g st.sent c) copies st.stands p (home_of_peer g c copies st p own))

      top : length_of (group_of g c) p ≤ last_number (group_of g c)
      top =
          let h : IsHome (group_of g c) p = home_of_peer g c copies st p own in
          let front = (st.stands.faithful.following p (follows done)).0 in
          let short = front_length ((copies.peers p).list ++ (copies.peers p).adding) copies.log front in
          let split = length-append (copies.peers p).list (copies.peers p).adding in
          let n = length_is (copies_in g st.sent c) copies st.stands p h in
          let whole = last_is g c copies st in
          omega (arith, short, split, n, whole)

      level : is_level_with_lead p c ≡ (not r.empty && r.len == last_number (group_of g c))
      level =
          ap (λ (y : ℕ). option_map_or (is_level (option_map_or (length_of (group_of y c)) (lead_of y c) 0)) (rejoin_of p c) false) own
          ∙ ap (λ o. option_map_or (is_level (option_map_or (length_of (group_of g c)) o 0)) (rejoin_of p c) false) t.2
          ∙ ap (λ o. option_map_or (is_level (length_of (group_of g c) t.0)) o false) is
          ∙ ap (λ n. not r.empty && r.len == n) (lead_whole g c copies st t.0 t.1)

      short : is_level_with_lead p c ≡ false → r.len < last_number (group_of g c)
      short e =
          let at : (not r.empty && r.len == last_number (group_of g c)) ≡ false = sym level ∙ e in
          let apart : (r.len == last_number (group_of g c)) ≡ false = sym (ap (λ b. not b && r.len == last_number (group_of g c)) loose) ∙ at in
          let n : r.len ≢ last_number (group_of g c) = λ i. (let wrong : true ≡ false = sym (ap (λ k. k == last_number (group_of g c)) i ∙ same_number (last_number (group_of g c))) ∙ apart in cc wrong) in
          omega (arith, n, len, top)

      go : (b : Bool) → is_level_with_lead p c ≡ b → Fine s NoOne NoOne (change_if b (join p) c)
      go true e = joins_fine done
      go false e = record {
        shape = f.shape;
        seats = f.seats;
        receivers = f.receivers;
        joins = λ q j. elim (f.joins q j) [
          | inr k ↦ inr k
          | inl at ↦ inr (subst (λ k. Follows s c k (rejoin_of k c)) (sym at) (record { rejoin = r; is = is; less = λ i. (let n = short e in omega (arith, n, same)); leads = λ i l is_lead. led l is_lead }))
        ];
        fits = f.fits;
      }
