-- A Got: it is logged, and ends one round at most.
use Rattle.std.proofs.Common.{◌≡◌, ◌⊎◌, inl, inr, ℕ, zero, suc, ◌+◌, ◌<◌, ◌≤◌, ◌&&◌, ◌||◌, List, [], ◌∷◌, length, Bool, true, false, cond, Some, None, is_none, refl, sym, ap, ◌∙◌, subst, arith, nat_lt, slice_index, slice_set, map}
use Rattle.std.proofs.lemmas.Bool.{and_parts, ltb-true}
use Rattle.std.specs.BTreeMap.{insert_entry}
use Rattle.hs_model.specs.Inner.{may_sweep, none_below}
use Rattle.hs_model.specs.Inner.{sweep as sweep_store}
use Rattle.hs_model.specs.Store.{Store}
use Rattle.hs_laws.proofs.EpochLemmas.{none_below_from_least}
use Rattle.hs_rounds.specs.declared.body.RoundBody.{RoundBody}
use Rattle.hs_rounds.specs.declared.place.Place.{Place}
use Rattle.hs_rounds.specs.Rounds.{place_cmp, body_at}
use Rattle.hs_deletion.specs.Machine.{Layout, Machine}
use Rattle.hs_deletion.specs.Following.{IsSent}
use Rattle.hs_deletion.specs.Invariants.{IsRight}
use Rattle.hs_deletion.specs.Promises.{IsAtTheLast}
use Rattle.hs_deletion.proofs.HistoryKeeps.{at_the_last}
use Rattle.hs_deletion.proofs.SweepLemmas.{level_all}
use Rattle.hs_fold.specs.Shards.Happening.{sweeps, happen_by}
use Rattle.hs_fold.specs.Shards.Setting.{Setting}
use Rattle.hs_fold.specs.Runs.Facts.{Catalogue, plain}
use Rattle.hs_fold.specs.Runs.Fits.{catalogue_at}
use Rattle.hs_fold.specs.Shards.Catalogue.{Catalogue as Plain}
use Rattle.hs_fold.specs.Shards.Opened.{store_of as listed}
use Rattle.hs_fold.specs.Runs.Opened.{pruned, store_of}
use Rattle.hs_fold.specs.Runs.Rounds.{is_running, is_accepted, is_due, is_complete, is_last, next_deltas, settled, search, sweep, end_round, advance, advanced, ends_last, log_got, get_round}
use Rattle.hs_fold.specs.Runs.Happening.{ends_run}
use Rattle.hs_joint.specs.Numbers.{TellsAll, CountsTakeAll}
use Rattle.hs_joint.specs.Seen.{layout_of, seen_round}
use Rattle.hs_joint.proofs.EndLemmas.{may, last_is, sweeps_to, swept_goes, swept_store, searches_to, searched_goes, searched_store, next_whole, takes_all, ends_once}
use Rattle.hs_joint.proofs.EnterLemmas.{swept-at}
use Rattle.hs_joint.proofs.GotLookups.{logged_here}
use Rattle.hs_joint.proofs.LikeLemmas.{logged_follows}
use Rattle.hs_joint.proofs.ListedLemmas.{epoch-at}
use Rattle.hs_joint.proofs.ReachedLemmas.{least_high}
use Rattle.hs_joint.proofs.StandLemmas.{IsStanding, SendsOn, GoesOn, right, own_here, set_here, join_on, room_on, few_on, nothing_done, set_twice}

-- ---- rounds end one after another, but here one at most

pub stays_open : (n : ℕ) (c : Catalogue) → is_complete n c ≡ false → advanced n c ≡ c
stays_open n c e = ap (λ turns. advance n turns c) (plus_one (length c.got)) ∙ ap (λ b. cond b (advance n (length c.got) (end_round n c)) c) e
  where
    plus_one : (k : ℕ) → k + 1 ≡ suc k
    plus_one k = omega arith

advance_none : (n turns : ℕ) (c : Catalogue) → is_complete n c ≡ false → advance n turns c ≡ c
advance_none n zero c e = refl
advance_none n (suc turns) c e = ap (λ b. cond b (advance n turns (end_round n c)) c) e

ends_none : (n turns : ℕ) (c : Catalogue) → is_complete n c ≡ false → ends_last n turns c ≡ false
ends_none n zero c e = refl
ends_none n (suc turns) c e = ap (λ b. b && (is_last n c || ends_last n turns (end_round n c))) e

pub ends_one : (n : ℕ) (c : Catalogue) → is_complete n c ≡ true → is_complete n (end_round n c) ≡ false → advanced n c ≡ end_round n c
ends_one n c e f = ap (λ turns. advance n turns c) (plus_one (length c.got)) ∙ ap (λ b. cond b (advance n (length c.got) (end_round n c)) c) e ∙ advance_none n (length c.got) (end_round n c) f
  where
    plus_one : (k : ℕ) → k + 1 ≡ suc k
    plus_one k = omega arith

last_or_not : (n : ℕ) (c : Catalogue) (whole : Bool) → is_complete n c ≡ whole → (whole ≡ true → is_complete n (end_round n c) ≡ false) → ends_last n (length c.got + 1) c ≡ (whole && is_last n c)
last_or_not n c whole e f =
    ap (λ turns. ends_last n turns c) (plus_one (length c.got))
    ∙ ap (λ b. b && (is_last n c || ends_last n (length c.got) (end_round n c))) e
    ∙ go whole f
  where
    plus_one : (k : ℕ) → k + 1 ≡ suc k
    plus_one k = omega arith

    or_false : (b d : Bool) → d ≡ false → b || d ≡ b
    or_false true d q = refl
    or_false false d q = q

    go : (b : Bool) → (b ≡ true → is_complete n (end_round n c) ≡ false) → b && (is_last n c || ends_last n (length c.got) (end_round n c)) ≡ (b && is_last n c)
    go true h = or_false (is_last n c) (ends_last n (length c.got) (end_round n c)) (ends_none n (length c.got) (end_round n c) (h refl))
    go false h = refl

-- ---- a Got that is taken changes something

pub record HasMoved (c d : Catalogue) : Type 0 where
  pub epoch : d.epoch ≡ c.epoch
  pub on : (d.swept ≡ c.epoch) ⊎ (d.swept ≡ c.swept) × (c.round ≤ d.round)

ended_moves : (n : ℕ) (c : Catalogue) → ((end_round n c).epoch ≡ c.epoch) × (((end_round n c).swept ≡ c.epoch) ⊎ ((end_round n c).swept ≡ c.swept) × (c.round + 1 ≤ (end_round n c).round))
ended_moves n c = go (is_last n c)
  where
    go : (b : Bool) → ((cond b (sweep (settled n c)) (search n (settled n c))).epoch ≡ c.epoch) × (((cond b (sweep (settled n c)) (search n (settled n c))).swept ≡ c.epoch) ⊎ ((cond b (sweep (settled n c)) (search n (settled n c))).swept ≡ c.swept) × (c.round + 1 ≤ (cond b (sweep (settled n c)) (search n (settled n c))).round))
    go true = (refl, inl refl)
    go false = (refl, inr (refl, omega arith))

advanced_moves : (n turns : ℕ) (c : Catalogue) → HasMoved c (advance n turns c)
advanced_moves n zero c = record { epoch = refl; on = inr (refl, omega arith) }
advanced_moves n (suc turns) c = go (is_complete n c) (ended_moves n c) (advanced_moves n turns (end_round n c))
  where
    go : (b : Bool) → ((end_round n c).epoch ≡ c.epoch) × (((end_round n c).swept ≡ c.epoch) ⊎ ((end_round n c).swept ≡ c.swept) × (c.round + 1 ≤ (end_round n c).round)) → HasMoved (end_round n c) (advance n turns (end_round n c)) → HasMoved c (cond b (advance n turns (end_round n c)) c)
    go false one rest = record { epoch = refl; on = inr (refl, omega arith) }
    go true one rest =
        let e1 = one.0 in
        let e2 = rest.epoch in
        record {
          epoch = e2 ∙ e1;
          on = elim rest.on [
            | inl s ↦ inl (s ∙ e1)
            | inr r ↦ elim one.1 [
              | inl s ↦ inl (r.0 ∙ s)
              | inr s ↦ inr (r.0 ∙ s.0, (let up = s.1 in let more = r.1 in omega (arith, up, more)))
            ]
          ];
        }

-- it differs from what was before
pub got_differs : (n : ℕ) (place : Place) (told : RoundBody) (c : Catalogue) → is_accepted n c place ≡ true → get_round n place told c ≡ c → ⊥
got_differs n place told c ok same =
    let moved : advanced n (log_got place told c) ≡ c = ap (λ b. cond b (advanced n (log_got place told c)) c) (sym ok) ∙ same in
    go (is_complete n (log_got place told c)) refl moved
  where
    none : is_none (body_at place c.got) ≡ true
    none = (and_parts (is_none (body_at place c.got)) (is_due c place.epoch place.round) (and_parts (nat_lt place.from n) (is_none (body_at place c.got) && is_due c place.epoch place.round) ok).1).0

    go : (b : Bool) → is_complete n (log_got place told c) ≡ b → advanced n (log_got place told c) ≡ c → ⊥
    go false e moved =
        let is : log_got place told c ≡ c = sym (stays_open n (log_got place told c) e) ∙ moved in
        let there : is_none (body_at place (insert_entry place_cmp c.got place told)) ≡ false = ap (λ o. is_none o) (logged_here c.got place told) in
        let absent : is_none (body_at place (insert_entry place_cmp c.got place told)) ≡ true = ap (λ (x : Catalogue). is_none (body_at place x.got)) is ∙ none in
        cc (there, absent)
    go true e moved =
        let running = ltb-true c.swept c.epoch (and_parts (is_running c) _ e).0 in
        let turns : advanced n (log_got place told c) ≡ advance n (length (log_got place told c).got) (end_round n (log_got place told c)) = ap (λ k. advance n k (log_got place told c)) (plus_one (length (log_got place told c).got)) ∙ ap (λ b. cond b (advance n (length (log_got place told c).got) (end_round n (log_got place told c))) (log_got place told c)) e in
        let one = ended_moves n (log_got place told c) in
        let rest = advanced_moves n (length (log_got place told c).got) (end_round n (log_got place told c)) in
        let is : advance n (length (log_got place told c).got) (end_round n (log_got place told c)) ≡ c = sym turns ∙ moved in
        let swept : (advance n (length (log_got place told c).got) (end_round n (log_got place told c))).swept ≡ c.swept = ap (λ (x : Catalogue). x.swept) is in
        let round : (advance n (length (log_got place told c).got) (end_round n (log_got place told c))).round ≡ c.round = ap (λ (x : Catalogue). x.round) is in
        let e1 = one.0 in
        elim rest.on [
          | inl s ↦ omega (arith, running, s, swept, e1)
          | inr r ↦ elim one.1 [
            | inl s ↦ (let q = r.0 in omega (arith, running, q, s, swept))
            | inr s ↦ (let up = s.1 in let more = r.1 in omega (arith, up, more, round))
          ]
        ]
      where
        plus_one : (k : ℕ) → k + 1 ≡ suc k
        plus_one k = omega arith

pub advanced_epoch : (n : ℕ) (c : Catalogue) → (advanced n c).epoch ≡ c.epoch
advanced_epoch n c = (advanced_moves n (length c.got + 1) c).epoch

-- ---- a Got of a shard among others

module _ (set : Setting) (some : 0 < set.shape.shards) (cs : List Catalogue) (m : Machine) (st : IsStanding set some cs m) (g : ℕ) (lg : g < set.shape.shards) (place : Place) (told : RoundBody) where
  abbrev n : ℕ
  n = set.shape.shards

  abbrev L : Layout
  L = layout_of n some

  abbrev c : Catalogue
  c = catalogue_at cs g

  abbrev D : Catalogue
  D = log_got place told c

  abbrev ds : List Catalogue
  ds = slice_set cs g D

  module _ (sent : IsSent L m.states g place.from place.epoch place.round (seen_round place.round told)) where
    logged_standing : IsStanding set some ds m
    logged_standing = record {
      joined = join_on set some cs m st g lg D m st.joined.followed.made (nothing_done set some cs m st g) (logged_follows g c L m (st.joined.followed.each g lg) place told sent) (let o = own_here set some cs m st g lg in record { mine = o.mine; once = o.once }) (λ kept among to body tells. st.joined.sent g lg kept among to body tells) (λ row l. refl) (st.joined.last g lg);
      bounded = st.bounded;
      room = room_on set some cs m st g lg D m (st.room g lg);
      few = few_on set some cs m st g lg D m (st.few g lg);
    }

    here : catalogue_at ds g ≡ D
    here = set_here set some cs m st g lg D m

    store_same : store_of ds ≡ store_of cs
    store_same = ap (λ (xs : List Plain). pruned (listed xs)) (same_plain cs g)
      where
        same_plain : (es : List Catalogue) (k : ℕ) → map plain (slice_set es k (log_got place told (catalogue_at es k))) ≡ map plain es
        same_plain [] k = refl
        same_plain (e ∷ es) zero = refl
        same_plain (e ∷ es) (suc k) = ap (λ rest. plain e ∷ rest) (same_plain es k)

    -- it waits, or another one is missing
    waits : is_complete n D ≡ false → GoesOn set some cs m g D
    waits e = record { later = m; standing = logged_standing; moves = λ to sender epoch round body i. i; sends = inl (refl, refl); states = λ k o. refl }

    module _ (whole : is_complete n D ≡ true) where
      whole_there : is_complete n (catalogue_at ds g) ≡ true
      whole_there = ap (λ x. is_complete n x) here ∙ whole

      pub once : is_complete n (end_round n D) ≡ false
      once = ap (λ x. is_complete n (end_round n x)) (sym here) ∙ ends_once set some ds m logged_standing g lg whole_there

      place_end : slice_set ds g (end_round n (catalogue_at ds g)) ≡ slice_set cs g (end_round n D)
      place_end = ap (λ x. slice_set ds g (end_round n x)) here ∙ set_twice cs g D (end_round n D)

      ended : GoesOn set some ds m g (end_round n (catalogue_at ds g)) → GoesOn set some cs m g (end_round n D)
      ended go = record { later = go.later; standing = subst (λ xs. IsStanding set some xs go.later) place_end go.standing; moves = go.moves; sends = subst (λ x. SendsOn x.sent (end_round n D).sent (m.states g).sent (go.later.states g).sent) here (subst (λ x. SendsOn (catalogue_at ds g).sent (end_round n x).sent (m.states g).sent (go.later.states g).sent) here go.sends); states = go.states }

      pub got_loses_nothing : CountsTakeAll n D × (is_last n D ≡ false → TellsAll n (next_deltas (settled n D)))
      got_loses_nothing = subst (λ x. CountsTakeAll n x × (is_last n x ≡ false → TellsAll n (next_deltas (settled n x)))) here
          (takes_all set some ds m logged_standing g lg whole_there, λ goes. next_whole set some ds m logged_standing g lg whole_there goes)

      -- the last round of a run: the shard sweeps, which the plain store allows
      module _ (over : is_last n D ≡ true) where
        over_there : is_last n (catalogue_at ds g) ≡ true
        over_there = ap (λ x. is_last n x) here ∙ over

        pub got_sweeps : GoesOn set some cs m g (end_round n D)
        got_sweeps = ended (subst (λ x. GoesOn set some ds m g x) (sym (sweeps_to set some ds m logged_standing g lg whole_there over_there)) (swept_goes set some ds m logged_standing g lg whole_there over_there))

        pub sweeps_store : store_of (slice_set cs g (end_round n D)) ≡ sweep_store (store_of cs) g
        sweeps_store = ap store_of (sym place_end) ∙ swept_store set some ds m logged_standing g lg whole_there over_there ∙ ap (λ (s : Store). sweep_store s g) store_same

        R : IsRight L m
        R = right set some cs m st

        at_last : IsAtTheLast L m g
        at_last = at_the_last L m g (may set some ds m logged_standing g lg whole_there) (sym (last_is set some ds m logged_standing g lg whole_there) ∙ over_there)

        pub sweep_allowed : may_sweep (store_of cs) g ≡ true
        sweep_allowed = both_true (nat_lt (slice_index (store_of cs).swept g) (slice_index (store_of cs).epochs g)) (none_below (store_of cs) (slice_index (store_of cs).epochs g)) behind level
          where
            both_true : (a b : Bool) → a ≡ true → b ≡ true → a && b ≡ true
            both_true true true a b = refl
            both_true true false a b = cc b
            both_true false b a q = cc a

            each : length cs ≡ n
            each = st.joined.each

            here_epoch : slice_index (store_of cs).epochs g ≡ c.epoch
            here_epoch = epoch-at cs g (omega (arith, lg, each))

            here_swept : slice_index (store_of cs).swept g ≡ c.swept
            here_swept = swept-at cs g (omega (arith, lg, each))

            behind : nat_lt (slice_index (store_of cs).swept g) (slice_index (store_of cs).epochs g) ≡ true
            behind = rw (here_swept, here_epoch) (and_parts (nat_lt c.swept c.epoch) _ whole).0

            each_level : (h : ℕ) → h < n → c.epoch ≤ (catalogue_at cs h).epoch
            each_level h lh =
                let a = level_all L m R g at_last h lh in
                let b = (st.joined.followed.each h lh).epoch in
                let d = (st.joined.followed.each g lg).epoch in
                omega (arith, a, b, d)

            level : none_below (store_of cs) (slice_index (store_of cs).epochs g) ≡ true
            level = rw here_epoch (none_below_from_least (store_of cs) c.epoch (least_high n some cs st.joined.each st.joined.own m st.joined.followed.each c.epoch each_level))

      -- any other: nothing happens in the plain store
      module _ (goes : is_last n D ≡ false) where
        goes_there : is_last n (catalogue_at ds g) ≡ false
        goes_there = ap (λ x. is_last n x) here ∙ goes

        pub got_searches : GoesOn set some cs m g (end_round n D)
        got_searches = ended (subst (λ x. GoesOn set some ds m g x) (sym (searches_to set some ds m logged_standing g lg whole_there goes_there)) (searched_goes set some ds m logged_standing g lg whole_there goes_there))

        pub searches_store : store_of (slice_set cs g (end_round n D)) ≡ store_of cs
        searches_store = ap store_of (sym place_end) ∙ searched_store set some ds m logged_standing g lg whole_there goes_there ∙ store_same

    -- ---- all of it

    pub record GotGoes : Type 0 where
      pub goes : GoesOn set some cs m g (get_round n place told c)
      pub store : store_of (slice_set cs g (get_round n place told c)) ≡ happen_by (store_of cs) (cond (ends_run n c place told) (Some (sweeps g)) None)
      pub allowed : ends_run n c place told ≡ true → may_sweep (store_of cs) g ≡ true

    pub got_goes : is_accepted n c place ≡ true → GotGoes
    got_goes ok = go (is_complete n D) refl (is_last n D) refl
      where
        to_logged : get_round n place told c ≡ advanced n D
        to_logged = ap (λ b. cond b (advanced n D) c) ok

        ends_is : (whole : Bool) → is_complete n D ≡ whole → ends_run n c place told ≡ (whole && is_last n D)
        ends_is whole e = ap (λ b. b && ends_last n (length D.got + 1) D) ok ∙ last_or_not n D whole e (λ t. once (e ∙ t))

        by_end : (b : Bool) → ends_run n c place told ≡ b → (d : Catalogue) → get_round n place told c ≡ d → GoesOn set some cs m g d → store_of (slice_set cs g d) ≡ happen_by (store_of cs) (cond b (Some (sweeps g)) None) → (b ≡ true → may_sweep (store_of cs) g ≡ true) → GotGoes
        by_end b e d is goes store allowed = record {
          goes = subst (λ x. GoesOn set some cs m g x) (sym is) goes;
          store = ap (λ x. store_of (slice_set cs g x)) is ∙ store ∙ ap (λ t. happen_by (store_of cs) (cond t (Some (sweeps g)) None)) (sym e);
          allowed = λ t. allowed (sym e ∙ t);
        }

        go : (a : Bool) → is_complete n D ≡ a → (b : Bool) → is_last n D ≡ b → GotGoes
        go false p b q = by_end false (ends_is false p) D (to_logged ∙ stays_open n D p) (waits p) store_same (λ t. cc t)
        go true p true q = by_end true (ends_is true p ∙ q) (end_round n D) (to_logged ∙ ends_one n D p (once p)) (got_sweeps p q) (sweeps_store p q) (λ t. sweep_allowed p q)
        go true p false q = by_end false (ends_is true p ∙ q) (end_round n D) (to_logged ∙ ends_one n D p (once p)) (got_searches p q) (searches_store p q) (λ t. cc t)
