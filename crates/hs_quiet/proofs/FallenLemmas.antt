-- A peer goes down: all is fine behind it, or its shard is lost.
use Rattle.std.proofs.Common.{◌≡◌, ◌≢◌, ◌⊎◌, ◌∙◌, ap, sym, subst, refl, inl, inr, arith, ℕ, suc, ◌+◌, ◌-◌, ◌*◌, ◌/◌, ◌<◌, ◌≤◌, ◌==◌, Bool, true, false, List, [], ◌∷◌, Option, Some, None, length, map, eqb-true, zero}
use Rattle.std.proofs.lemmas.Bool.{cases_eq, cases_lt}
use Rattle.std.proofs.lemmas.List.{length-set}
use Rattle.std.proofs.lemmas.Nat.{div-mul-add}
use Rattle.std.proofs.lemmas.List.Elements.{All-cons, All-filter, All-nil}
use Rattle.std.proofs.Math.Nat.{div-mul-le_self, lt-div-mul-add, mul-le-mul_right}
use Rattle.std.specs.List.{All, range_with_len}
use Rattle.std.specs.Prelude.{filter}
use Rattle.hs_awaiting.specs.Words.{change_if, change_with, each}
use Rattle.hs_copies.proofs.StatusLemmas.{become_other}
use Rattle.hs_copies.specs.Machine.{Copies, after_events}
use Rattle.hs_core_words.specs.Changing.{add_entry_tasks, change_group, post, set_viewed}
use Rattle.hs_core_words.specs.Effects.{commit}
use Rattle.hs_core_words.specs.Failing.{commit_rest, go_down, leave}
use Rattle.hs_core_words.specs.Joining.{begin_joining, joining_peers}
use Rattle.hs_core_words.specs.Looking.{group_of, home, lead_of, rejoin_of, shape_of, status_of}
use Rattle.hs_core_words.specs.Operating.{propose_entry}
use Rattle.hs_core_words.specs.State.{Core}
use Rattle.hs_core_words.specs.Views.{begin_view, change_view, restart}
use Rattle.hs_core_copies.proofs.FallLemmas.{IsBegunAnew, IsLost, anew, down_by, goes_anew, lost_with}
use Rattle.hs_core_copies.proofs.LeadLemmas.{lead_is, of_home}
use Rattle.hs_core_copies.proofs.PlaceLemmas.{rejoin_other}
use Rattle.hs_core_copies.proofs.ReportLemmas.{same_number}
use Rattle.hs_core_copies.proofs.WalkLemmas.{keeps_commits, keeps_if}
use Rattle.hs_core_copies.specs.InStep.{IsInStep, IsOf}
use Rattle.hs_entry.specs.declared.entry.Entry.{Entry}
use Rattle.hs_entry.specs.declared.entry.Entry.TheVariants as kind
use Rattle.hs_limits.specs.declared.limits.PeerStatus.{PeerStatus}
use Rattle.hs_limits.specs.declared.limits.PeerStatus.TheVariants.{Down, Good, Joining}
use Rattle.hs_limits.specs.declared.shape.Shape.{Shape}
use Rattle.hs_limits.specs.Shape.{peer_of}
use Rattle.hs_members.specs.Members.{Members, become, has_good, home_of, is_good_status, is_joining, lead_by, peers_of, status, view_of}
use Rattle.hs_replica.specs.declared.replica.Replica.{Replica}
use Rattle.hs_replica.specs.Group.{Group, first_peer, is_peer, last_number, lead, proposal, propose, renew, renewal}
use Rattle.hs_quiet.specs.Keeping.{AreInStep}
use Rattle.hs_quiet.proofs.CopyLemmas.{copy_at, fit_renewed, past}
use Rattle.hs_quiet.proofs.FineLemmas.{Fine, Follows, IsIn, NoOne, dropped_for, fine_anew, fine_view, same_group, steps_fine}
use Rattle.hs_quiet.proofs.StartLemmas.{copy_good, down_now, good_lead, known_at, lead_here, low_home, low_peer, peer_own, seated_all}

-- ---- exceptions

-- those that are left out are left out otherwise
pub fine_more : (s : Core) (but more loose : ℕ → Type 0) (c : Core) → ((p : ℕ) → status_of p c ≡ Joining → but p → more p) → Fine s but loose c → Fine s more loose c
fine_more s but more loose c turn f = record {
  shape = f.shape;
  seats = f.seats;
  receivers = f.receivers;
  joins = λ p j. elim (f.joins p j) [ inl left ↦ inl (turn p j left) | inr k ↦ inr k ];
  fits = f.fits;
}

-- a view that began anew has the same groups
anew_group : (g : ℕ) (a b : Core) → IsBegunAnew a b → group_of g b ≡ group_of g a
anew_group g a b w = rw (w.groups, w.members) refl

-- ---- peers among some

in_range : (q n k : ℕ) → n ≤ q → q < n + k → IsIn q (range_with_len n k)
in_range q n zero a b = absurd (omega (arith, a, b))
in_range q n (suc k) a b = elim (cases_eq q n) [
  | inl e ↦ inl e
  | inr i ↦ inr (in_range q (n + 1) k (omega (arith, a, i)) (omega (arith, b)))
]

in_filter : (test : ℕ → Bool) (q : ℕ) (qs : List ℕ) → test q ≡ true → IsIn q qs → IsIn q (filter test qs)
in_filter test q [] e k = absurd k
in_filter test q (p ∷ qs) e k = go (test p) refl k (λ rest. in_filter test q qs e rest)
  where
    go : (b : Bool) → test p ≡ b → IsIn q (p ∷ qs) → (IsIn q qs → IsIn q (filter test qs)) → IsIn q (filter test (p ∷ qs))
    go true i (inl same) h = rw i (inl same)
    go true i (inr rest) h = rw i (inr (h rest))
    go false i (inl same) h = let wrong : true ≡ false = sym e ∙ ap test same ∙ i in absurd (cc wrong)
    go false i (inr rest) h = rw i (h rest)

range_all : (P : ℕ → Type 0) (n k : ℕ) → ((q : ℕ) → n ≤ q → q < n + k → P q) → All P (range_with_len n k)
range_all P n zero h = All-nil P
range_all P n (suc k) h = All-cons P n (range_with_len (n + 1) k) (h n (omega arith) (omega arith)) (range_all P (n + 1) k (λ q a b. h q (omega (arith, a)) (omega (arith, b))))

-- a peer stands among those of its shard, and each of those is of it
home_low : (p copies : ℕ) → p / copies * copies ≤ p
home_low p copies = div-mul-le_self p copies

home_high : (p copies : ℕ) → 0 < copies → p < p / copies * copies + copies
home_high p copies some = lt-div-mul-add some

-- a peer of a shard by its number
pub home_is : (q g copies : ℕ) → g * copies + 0 ≤ q → q < g * copies + 0 + copies → q / copies ≡ g
home_is q g copies from to =
    let e : q ≡ g * copies + (q - g * copies) = omega (arith, from) in
    ap (λ k. k / copies) e ∙ div-mul-add g copies (q - g * copies) (omega (arith, from, to))

peer_top : (q g shards copies : ℕ) → g < shards → q < g * copies + 0 + copies → q < shards * copies
peer_top q g shards copies low to =
    let le : (g + 1) * copies ≤ shards * copies = mul-le-mul_right {m = g + 1} {n = shards} copies (omega (arith, low)) in
    let one : (g + 1) * copies ≡ g * copies + copies = omega arith in
    omega (arith, to, le, one)

-- ---- views

propose_members : (x : ℕ) (entry : Entry) (c : Core) → (propose_entry x entry c).members ≡ c.members
propose_members x entry c = go (lead_of x c)
  where
    go : (o : Option ℕ) → (change_with o (λ peer. add_entry_tasks peer (last_number (group_of x c) + 1) entry) (post (proposal entry (group_of x c)) (change_group x (propose entry) c))).members ≡ c.members
    go None = refl
    go (Some l) = refl

pub view_members : (x : ℕ) (c : Core) → (begin_view x c).members ≡ c.members
view_members x c =
    let d : Core = restart x (change_group x (renew c.members) (set_viewed x false c)) in
    propose_members x (kind.View (view_of x c.members)) (post (renewal (group_of x d)) d)

-- ---- it leaves

module _ (s c : Core) (all : AreInStep c) (members : c.members ≡ s.members) (groups : c.groups ≡ s.groups) (f : Fine s NoOne NoOne c) (p : ℕ) where
  -- its shard had it for lead
  abbrev pub IsLedBy : ℕ → Type 0
  IsLedBy q = lead (group_of (home q s) s) ≡ Some p

  stays_other : (q : ℕ) → q ≢ p → status_of q (leave p c) ≡ status_of q c
  stays_other q n = become_other p q Down c.members n

  was_other : (q : ℕ) (k : PeerStatus) → k ≢ Down → status_of q (leave p c) ≡ k → q ≢ p
  was_other q k n e i = n (sym e ∙ ap (λ j. status_of j (leave p c)) i ∙ down_now p c.members)

  left_seats : length (leave p c).progress.rejoins ≡ length s.progress.rejoins
  left_seats = length-set c.progress.rejoins p None ∙ f.seats

  left_joins : (q : ℕ) → status_of q (leave p c) ≡ Joining → IsLedBy q ⊎ Follows s (leave p c) q (rejoin_of q (leave p c))
  left_joins q j =
      let n : q ≢ p = was_other q Joining (λ e. let wrong : Joining ≡ Down = e in cc wrong) j in
      elim (f.joins q (sym (stays_other q n) ∙ j)) [
        | inl none ↦ absurd none
        | inr k ↦ go k n (lead (group_of (home q s) s)) refl
      ]
    where
      go : Follows s c q (rejoin_of q c) → q ≢ p → (o : Option ℕ) → lead (group_of (home q s) s) ≡ o → IsLedBy q ⊎ Follows s (leave p c) q (rejoin_of q (leave p c))
      go k n None e = inr (record { rejoin = k.rejoin; is = rejoin_other p q None c n ∙ k.is; less = k.less; leads = λ i l led. (let wrong : None ≡ Some l = sym e ∙ led in absurd (cc wrong)) })
      go k n (Some l) e = elim (cases_eq l p) [
        | inl same ↦ inl (e ∙ ap (λ i. Some i) same)
        | inr apart ↦ inr (record {
          rejoin = k.rejoin;
          is = rejoin_other p q None c n ∙ k.is;
          less = k.less;
          leads = λ i m led.
              let same : l ≡ m = (let both : Some l ≡ Some m = sym e ∙ led in cc both) in
              stays_other m (λ d. apart (same ∙ d)) ∙ k.leads i m led;
        })
      ]

  -- where it was not good nothing else changes
  left_bad : status_of p c ≢ Good → Fine s NoOne NoOne (leave p c)
  left_bad bad = record {
    shape = f.shape;
    seats = left_seats;
    receivers = dropped_for p c.members c.pool.messages f.receivers;
    joins = λ q j. elim (left_joins q j) [
      | inr k ↦ inr k
      | inl led ↦
          -- a lead is good
          let low : home q c < c.members.shape.shards = low_home c all q (low_peer c all q (λ d. (let wrong : Joining ≡ Down = sym (sym (stays_other q (was_other q Joining (λ e. let w : Joining ≡ Down = e in cc w) j)) ∙ j) ∙ d in cc wrong))) in
          let t = all.each (home q c) low in
          absurd (bad (good_lead (home q c) c t.0 t.1 p (led_now q led)).good)
    ];
    fits = λ g. elim (f.fits g) [
      | inl none ↦ absurd none
      | inr k ↦ inr (record {
        good = λ i e.
            let was : status_of (first_peer (group_of g c) + i) c ≡ Good = k.good i e in
            stays_other (first_peer (group_of g c) + i) (λ d. bad (ap (λ j. status_of j c) (sym d) ∙ was)) ∙ was;
        held = k.held;
        known = k.known;
        leads = k.leads;
      })
    ];
  }
    where
      led_now : (q : ℕ) → IsLedBy q → lead (group_of (home q c) c) ≡ Some p
      led_now q led = ap (λ (m : Members). lead (group_of (home_of m.shape q) c)) members ∙ ap lead (same_group (home q s) s c members groups) ∙ led

  -- where it was good, its shard's group is loose, and those that followed it are left out
  left_good : Fine s IsLedBy (λ g. g ≡ home p c) (leave p c)
  left_good = record {
    shape = f.shape;
    seats = left_seats;
    receivers = dropped_for p c.members c.pool.messages f.receivers;
    joins = left_joins;
    fits = λ g. elim (cases_eq g (home p c)) [
      | inl same ↦ inl same
      | inr apart ↦ elim (f.fits g) [
        | inl none ↦ absurd none
        | inr k ↦ inr (record {
          good = λ i e.
              let own : IsOf c.members.shape g (first_peer (group_of g c) + i) = peer_own c g i (seated_all c all) e in
              stays_other (first_peer (group_of g c) + i) (λ d. apart (sym own ∙ ap (λ j. home_of c.members.shape j) d)) ∙ k.good i e;
          held = k.held;
          known = k.known;
          leads = k.leads;
        })
      ]
    ];
  }

  -- ---- a view begins

  module _ (good : status_of p c ≡ Good) where
    abbrev x : ℕ
    x = home p c

    low_p : p < c.members.shape.shards * c.members.shape.copies
    low_p = low_peer c all p (λ d. let wrong : Good ≡ Down = sym good ∙ d in cc wrong)

    abbrev low_x : home p c < c.members.shape.shards
    low_x = low_home c all p low_p

    abbrev copies_x : Copies Entry
    copies_x = (all.each (home p c) low_x).0

    abbrev step_x : IsInStep (home p c) c (all.each (home p c) low_x).0
    step_x = (all.each (home p c) low_x).1

    in_groups : home p c < length c.groups
    in_groups = let n = (seated_all c all).groups in omega (arith, n, low_x)

    held_at : (i : ℕ) → status (first_peer (group_of (home p c) c) + i) (become p Down c.members) ≡ Good → (copy_at i (group_of (home p c) c)).sealed ≤ length (copy_at i (group_of (home p c) c)).stamps
    held_at i e = elim (cases_lt i (length (group_of (home p c) c).copies)) [
      | inl low ↦
          let q : ℕ = first_peer (group_of (home p c) c) + i in
          let st = (seated_all c all).placed (home p c) in
          let copies : (group_of (home p c) c).shape.copies ≡ c.members.shape.copies = ap (λ k. k.copies) st.same_shape in
          let own : IsOf c.members.shape (home p c) q = of_home c.members.shape (home p c) (group_of (home p c) c) q (sym st.same_shape) st.same_shard (omega arith, omega (arith, low, st.few, copies)) in
          let was : status_of q c ≡ Good = sym (stays_other q (was_other q Good (λ d. let wrong : Good ≡ Down = d in cc wrong) e)) ∙ e in
          let at : q - first_peer (group_of (home p c) c) ≡ i = omega arith in
          (known_at (home p c) c copies_x step_x i (ap (λ k. (copy_at k (group_of (home p c) c)).good) (sym at) ∙ copy_good (home p c) c copies_x step_x q own was)).1
      | inr high ↦ subst (λ (r : Replica). r.sealed ≤ length r.stamps) (sym (past (group_of (home p c) c).copies i high)) (omega arith)
    ]

    view_fine : Fine s IsLedBy NoOne (begin_view (home p c) (leave p c))
    view_fine = fine_view s IsLedBy (home p c) (leave p c) in_groups (fit_renewed (become p Down c.members) (group_of (home p c) c) held_at) left_good

    rest_fine : (d : Core) → Fine s NoOne NoOne d → Fine s NoOne NoOne (commit_rest (home p c) d)
    rest_fine d g = keeps_if (steps_fine s NoOne) (has_good (home p c) d.members) (commit (home p c)) d (λ y. keeps_commits (steps_fine s NoOne) (home p c) y) g

    -- a peer whose shard it leads is of its shard
    led_home : (q : ℕ) → q < c.members.shape.shards * c.members.shape.copies → IsLedBy q → (home q c ≡ home p c) × (lead (group_of (home p c) c) ≡ Some p)
    led_home q low led =
        let at : lead (group_of (home q c) c) ≡ Some p = ap (λ (m : Members). lead (group_of (home_of m.shape q) c)) members ∙ ap lead (same_group (home q s) s c members groups) ∙ led in
        let t = all.each (home q c) (low_home c all q low) in
        let own : home p c ≡ home q c = (good_lead (home q c) c t.0 t.1 p at).own in
        (sym own, ap (λ g. lead (group_of g c)) own ∙ at)

    -- it did not lead
    follows_fine : is_peer p (lead (group_of (home p c) c)) ≡ false → Fine s NoOne NoOne (begin_view (home p c) (leave p c))
    follows_fine e = fine_more s IsLedBy NoOne NoOne (begin_view (home p c) (leave p c)) turn view_fine
      where
        b : Core
        b = begin_view (home p c) (leave p c)

        turn : (q : ℕ) → status_of q (begin_view (home p c) (leave p c)) ≡ Joining → IsLedBy q → ⊥
        turn q j led =
            let k : status_of q (leave p c) ≡ Joining = sym (ap (λ m. status q m) (view_members (home p c) (leave p c))) ∙ j in
            let n : q ≢ p = was_other q Joining (λ d. let wrong : Joining ≡ Down = d in cc wrong) k in
            let was : status_of q c ≡ Joining = sym (stays_other q n) ∙ k in
            let low = low_peer c all q (λ d. let wrong : Joining ≡ Down = sym was ∙ d in cc wrong) in
            let wrong : true ≡ false = sym (ap (is_peer p) (led_home q low led).1 ∙ same_number p) ∙ e in
            cc wrong

    -- it did, and those that follow begin again
    anew_fine : has_good (home p c) (become p Down c.members) ≡ true → is_peer p (lead (group_of (home p c) c)) ≡ true
        → Fine s NoOne NoOne (each (joining_peers (home p c) (begin_view (home p c) (leave p c))) begin_joining (begin_view (home p c) (leave p c)))
    anew_fine some e =
        fine_anew s NoOne (joining_peers (home p c) b) b each_led (fine_more s IsLedBy (λ q. IsIn q (joining_peers (home p c) b)) NoOne b turn view_fine)
      where
        b : Core
        b = begin_view (home p c) (leave p c)

        d : Core
        d = each (joining_peers (home p c) b) begin_joining b

        same_members : b.members ≡ become p Down c.members
        same_members = view_members (home p c) (leave p c)

        -- there is a lead
        led : (l : ℕ) × (lead_of (home p c) b ≡ Some l)
        led =
            let k = goes_anew (home p c) c copies_x step_x p refl good some e in
            let t = lead_here (home p c) d (after_events copies_x k.events) k.keeps in
            let w : IsBegunAnew b d = anew (joining_peers (home p c) b) b in (
              t.0,
              ap (λ (y : Group). lead_by (home p c) (map (λ (copy : Replica). length copy.stamps) y.copies) b.members) (sym (anew_group (home p c) b d w))
                  ∙ ap (λ (m : Members). lead_by (home p c) (map (λ (copy : Replica). length copy.stamps) (group_of (home p c) d).copies) m) (sym w.members) ∙ t.2,
            )

        some_copies : 0 < c.members.shape.copies
        some_copies = go c.members.shape.copies refl
          where
            go : (n : ℕ) → c.members.shape.copies ≡ n → 0 < c.members.shape.copies
            go zero i = absurd (omega (arith, ap (λ n. c.members.shape.shards * n) i, low_p))
            go (suc n) i = omega (arith, i)

        each_led : All (λ q. (q < length b.progress.rejoins) × ((l : ℕ) × (lead_of (home q b) b ≡ Some l))) (joining_peers (home p c) b)
        each_led =
            All-filter (λ q. is_joining (status_of q b)) (λ q. (q < length b.progress.rejoins) × ((l : ℕ) × (lead_of (home q b) b ≡ Some l))) (peers_of (shape_of b) (home p c))
            (range_all (λ q. (q < length b.progress.rejoins) × ((l : ℕ) × (lead_of (home q b) b ≡ Some l))) (peer_of (shape_of b) (home p c) 0) (shape_of b).copies
            (λ q from to.
            let sh : shape_of b ≡ c.members.shape = ap (λ (m : Members). m.shape) same_members in
            let at : home q b ≡ home p c = home_is q (home p c) (shape_of b).copies from to in
            let long : length b.progress.rejoins ≡ c.members.shape.shards * c.members.shape.copies = view_fine.seats ∙ sym f.seats ∙ (seated_all c all).rejoins in
            let top = peer_top q (home p c) c.members.shape.shards c.members.shape.copies low_x (subst (λ (k : Shape). q < peer_of k (home p c) 0 + k.copies) sh to) in
            (omega (arith, long, top), (led.0, ap (λ g. lead_of g b) at ∙ led.1))))

        turn : (q : ℕ) → status_of q b ≡ Joining → IsLedBy q → IsIn q (joining_peers (home p c) b)
        turn q j is =
            let k : status_of q (leave p c) ≡ Joining = sym (ap (λ m. status q m) same_members) ∙ j in
            let n : q ≢ p = was_other q Joining (λ i. let wrong : Joining ≡ Down = i in cc wrong) k in
            let was : status_of q c ≡ Joining = sym (stays_other q n) ∙ k in
            let low = low_peer c all q (λ i. let wrong : Joining ≡ Down = sym was ∙ i in cc wrong) in
            let own : home q c ≡ home p c = (led_home q low is).0 in
            let sh : shape_of b ≡ c.members.shape = ap (λ (m : Members). m.shape) same_members in
            in_filter (λ i. is_joining (status_of i b)) q (peers_of (shape_of b) (home p c)) (ap is_joining j)
            (subst (λ (y : Shape). IsIn q (peers_of y (home p c))) (sym sh)
            (subst (λ g. IsIn q (peers_of c.members.shape g)) own
            (in_range q (home q c * c.members.shape.copies + 0) c.members.shape.copies
            (let n : home q c * c.members.shape.copies ≤ q = home_low q c.members.shape.copies in omega (arith, n))
            (let n : q < home q c * c.members.shape.copies + c.members.shape.copies = home_high q c.members.shape.copies some_copies in omega (arith, n)))))

    good_falls : has_good (home p c) (become p Down c.members) ≡ true → (led : Bool) → is_peer p (lead (group_of (home p c) c)) ≡ led → Fine s NoOne NoOne (down_by true led (home p c) p c)
    good_falls some true e =
        let viewed : change_view (home p c) (leave p c) ≡ begin_view (home p c) (leave p c) = ap (λ t. change_if t (begin_view (home p c)) (leave p c)) some in
        rw viewed (rest_fine (each (joining_peers (home p c) (begin_view (home p c) (leave p c))) begin_joining (begin_view (home p c) (leave p c))) (anew_fine some e))
    good_falls some false e =
        let viewed : change_view (home p c) (leave p c) ≡ begin_view (home p c) (leave p c) = ap (λ t. change_if t (begin_view (home p c)) (leave p c)) some in
        rw viewed (rest_fine (begin_view (home p c) (leave p c)) (follows_fine e))

  -- ---- all of it

  -- a lead is good
  no_lead : status_of p c ≢ Good → is_peer p (lead_of (home p c) c) ≡ false
  no_lead bad = go (lead_of (home p c) c) refl
    where
      other : (l : ℕ) → lead_of (home p c) c ≡ Some l → (b : Bool) → (l == p) ≡ b → (l == p) ≡ false
      other l e false i = i
      other l e true i =
          absurd (bad (ap (λ k. status_of k c) (sym (eqb-true l p i)) ∙ (lead_is (home p c) c l ((seated_all c all).placed (home p c)).few e).good))

      go : (o : Option ℕ) → lead_of (home p c) c ≡ o → is_peer p o ≡ false
      go None e = refl
      go (Some l) e = other l e (l == p) refl

  pub falls_fine : Fine s NoOne NoOne (go_down p c) ⊎ ((g : ℕ) × IsLost g (go_down p c))
  falls_fine = go (status_of p c) refl
    where
      bad : status_of p c ≢ Good → is_good_status (status_of p c) ≡ false → Fine s NoOne NoOne (go_down p c) ⊎ ((g : ℕ) × IsLost g (go_down p c))
      bad n e =
          let same : go_down p c ≡ leave p c = ap (λ b. down_by b (is_peer p (lead_of (home p c) c)) (home p c) p c) e ∙ ap (λ b. down_by false b (home p c) p c) (no_lead n) in
          inl (subst (λ (y : Core). Fine s NoOne NoOne y) (sym same) (left_bad n))

      last : status_of p c ≡ Good → (b : Bool) → has_good (home p c) (become p Down c.members) ≡ b → Fine s NoOne NoOne (down_by true (is_peer p (lead_of (home p c) c)) (home p c) p c) ⊎ ((g : ℕ) × IsLost g (down_by true (is_peer p (lead_of (home p c) c)) (home p c) p c))
      last good true e =
          let l = lead_here (home p c) c (copies_x good) (step_x good) in
          let same : lead_of (home p c) c ≡ lead (group_of (home p c) c) = l.2 ∙ sym l.1 in
          inl (subst (λ o. Fine s NoOne NoOne (down_by true (is_peer p o) (home p c) p c)) (sym same) (good_falls good e (is_peer p (lead (group_of (home p c) c))) refl))
      last good false e = inr (home p c, lost_with (home p c) p c (low_x good) e (is_peer p (lead_of (home p c) c)))

      go : (k : PeerStatus) → status_of p c ≡ k → Fine s NoOne NoOne (go_down p c) ⊎ ((g : ℕ) × IsLost g (go_down p c))
      go Good e = subst (λ t. Fine s NoOne NoOne (down_by t (is_peer p (lead_of (home p c) c)) (home p c) p c) ⊎ ((g : ℕ) × IsLost g (down_by t (is_peer p (lead_of (home p c) c)) (home p c) p c))) (sym (ap is_good_status e)) (last e (has_good (home p c) (become p Down c.members)) refl)
      go Joining e = bad (λ i. let wrong : Joining ≡ Good = sym e ∙ i in cc wrong) (ap is_good_status e)
      go Down e = bad (λ i. let wrong : Down ≡ Good = sym e ∙ i in cc wrong) (ap is_good_status e)
