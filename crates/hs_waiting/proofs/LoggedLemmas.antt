-- Each Got that is logged is one of the last two rounds that its sender sent.
use Rattle.std.proofs.Common.{◌≡◌, ◌⊎◌, inl, inr, ℕ, zero, suc, ◌+◌, ◌-◌, ◌<◌, ◌≤◌, ◌==◌, not, List, [], ◌∷◌, Bool, true, false, cond, refl, sym, ap, ◌∙◌, subst, arith, nat_lt, replicate, slice_set, Ordering, Less, Equal, Greater, is_eq}
use Rattle.std.proofs.lemmas.Bool.{and_parts, eqb-true, ltb-true, cases_eq, cases_lt}
use Rattle.std.proofs.lemmas.Bool.Decides.{nat_tests}
use Rattle.std.proofs.lemmas.List.Elements.{All-from_recursion}
use Rattle.std.specs.BTreeMap.{insert_entry}
use Rattle.std.specs.List.{AllByRecursion}
use Rattle.std.specs.Ordering.{match_ordering}
use Rattle.hs_limits.specs.Shape.{IsShape}
use Rattle.hs_model.proofs.Members.{Member, member_of_filter}
use Rattle.hs_entry.specs.declared.entry.Entry.{Entry}
use Rattle.hs_entry.specs.declared.entry.Entry.TheVariants as kind
use Rattle.hs_rounds.specs.declared.body.RoundBody.{RoundBody}
use Rattle.hs_rounds.specs.declared.place.Place.{Place}
use Rattle.hs_rounds.specs.Rounds.{GotList, place_cmp, is_before, from_round}
use Rattle.hs_rounds.proofs.PlaceLemmas.{same_place}
use Rattle.hs_deletion.specs.Clocks.{label_of}
use Rattle.hs_deletion.specs.History.{is_last as is_last_there}
use Rattle.hs_deletion.specs.Rounds.{total_in}
use Rattle.hs_deletion.specs.Machine.{Layout, Machine, empty_machine}
use Rattle.hs_deletion.specs.Invariants.{IsRight}
use Rattle.hs_deletion.proofs.ClockLemmas.{unswept_of}
use Rattle.hs_deletion.proofs.LabelLemmas.{last_tells, label_next, label_rises, epoch_rises}
use Rattle.hs_fold.specs.Lawful.{Deed}
use Rattle.hs_fold.specs.Shards.Setting.{Setting, shard_in}
use Rattle.hs_fold.specs.Runs.Facts.{Catalogue, empty_catalogue}
use Rattle.hs_fold.specs.Runs.Fits.{catalogue_at, HasSent}
use Rattle.hs_fold.specs.Runs.Happening.{IsClients}
use Rattle.hs_fold.specs.Runs.History.{applied, follow, follow_all, FitAll, no_entries}
use Rattle.hs_fold.specs.Runs.Sound.{AreSent}
use Rattle.hs_fold.specs.Runs.Rounds.{is_running, is_accepted, is_complete, is_last, settled, search, sweep, advanced, enter_epoch, log_got, get_round, may_enter}
use Rattle.hs_fold.specs.Runs.Rounds.{enter as enter_here}
use Rattle.hs_joint.specs.Along.{KeepFewRecords}
use Rattle.hs_joint.proofs.DeedLemmas.{Arrives, Fits, arrives}
use Rattle.hs_joint.proofs.EndLemmas.{last_is}
use Rattle.hs_joint.proofs.EnterLemmas.{enter_open}
use Rattle.hs_joint.proofs.GotLemmas.{stays_open, ends_one, got_differs, once}
use Rattle.hs_joint.proofs.HistoryLemmas.{shape_some, shape_few, empty_standing}
use Rattle.hs_joint.proofs.LikeLemmas.{logged_follows}
use Rattle.hs_joint.proofs.StandLemmas.{IsStanding, SendsOn, right, set_here, set_there, own_here, join_on, room_on, few_on, nothing_done}
use Rattle.hs_joint.specs.Seen.{layout_of}
use Rattle.hs_waiting.proofs.EpochLemmas.{client_still}
use Rattle.hs_waiting.proofs.GotStayLemmas.{GotWaits, got_waits, accepted_label, row_is_kept, got_stays}

-- ---- members of what is logged and of what is not forgotten

logged_member : (gots : GotList) (p : Place) (told : RoundBody) (e : Place × RoundBody) → Member e (insert_entry place_cmp gots p told) → (e ≡ (p, told)) ⊎ Member e gots
logged_member [] p told e (inl q) = inl q
logged_member [] p told e (inr m) = elim m [ ]
logged_member (x ∷ gots) p told e m = go (place_cmp p x.0) refl (logged_member gots p told e) m
  where
    go : (o : Ordering) → place_cmp p x.0 ≡ o → (Member e (insert_entry place_cmp gots p told) → (e ≡ (p, told)) ⊎ Member e gots) → Member e (match_ordering o ((p, told) ∷ x ∷ gots) ((x.0, told) ∷ gots) (x ∷ insert_entry place_cmp gots p told)) → (e ≡ (p, told)) ⊎ Member e (x ∷ gots)
    go Less o ih (inl q) = inl q
    go Less o ih (inr k) = inr k
    go Equal o ih (inl q) = inl (q ∙ ap (λ (y : Place). (y, told)) (sym (same_place p x.0 (ap is_eq o))))
    go Equal o ih (inr k) = inr (inr k)
    go Greater o ih (inl q) = inr (inl q)
    go Greater o ih (inr k) = elim (ih k) [ inl q ↦ inl q | inr j ↦ inr (inr j) ]

-- a place that is not before a round
not_before : (epoch round : ℕ) (p : Place) → is_before epoch round p ≡ false → (epoch < p.epoch) ⊎ (p.epoch ≡ epoch) × (round ≤ p.round)
not_before epoch round p e = grind (arith, nat_tests, e)

kept_member : (epoch round : ℕ) (gots : GotList) (e : Place × RoundBody) → Member e (from_round epoch round gots) → Member e gots × ((epoch < e.0.epoch) ⊎ (e.0.epoch ≡ epoch) × (round ≤ e.0.round))
kept_member epoch round gots e m =
    let f = member_of_filter (λ (x : Place × RoundBody). not (is_before epoch round x.0)) e gots m in
    (f.0, not_before epoch round e.0 (flipped (is_before epoch round e.0) f.1))
  where
    flipped : (b : Bool) → not b ≡ true → b ≡ false
    flipped true q = cc q
    flipped false q = refl

-- ---- of the open round or later

abbrev pub IsDueYet : Catalogue → Place → Type 0
IsDueYet c p = (c.swept < c.epoch) × ((c.epoch < p.epoch) ⊎ (p.epoch ≡ c.epoch) × (c.round ≤ p.round)) ⊎ (c.swept ≡ c.epoch) × (c.epoch < p.epoch)

module _ (set : Setting) (some : 0 < set.shape.shards) (cs : List Catalogue) (m : Machine) (st : IsStanding set some cs m) where
  abbrev n : ℕ
  n = set.shape.shards

  abbrev L : Layout
  L = layout_of n some

  R : IsRight L m
  R = right set some cs m st

  pub swept_or_runs : (g : ℕ) → g < n → ((catalogue_at cs g).swept ≡ (catalogue_at cs g).epoch) ⊎ ((catalogue_at cs g).swept < (catalogue_at cs g).epoch)
  swept_or_runs g lg =
      let e = (st.joined.followed.each g lg).epoch in
      let s = (st.joined.followed.each g lg).swept in
      elim (R.clocks g lg).phase [ inl p ↦ (let u = p.unswept in inr (omega (arith, e, s, u))) | inr p ↦ (let u = p.is_swept in inl (omega (arith, e, s, u))) ]

  -- what is due yet is a row that the shard has not completed
  pub due_late : (g : ℕ) (lg : g < n) (place : Place) (told : RoundBody) (w : GotWaits set some cs m st g place told) → IsDueYet (catalogue_at cs g) place → (m.states g).completed ≤ w.sent.row
  due_late g lg place told w due = elim (cases_lt w.sent.row (m.states g).completed) [ inl l ↦ absurd (never l) | inr l ↦ l ]
    where
      early : w.sent.row < (m.states g).completed → ((label_of L m.states w.sent.row).epoch < (label_of L m.states (m.states g).completed).epoch) ⊎ ((label_of L m.states w.sent.row).epoch ≡ (label_of L m.states (m.states g).completed).epoch) × ((label_of L m.states w.sent.row).round < (label_of L m.states (m.states g).completed).round)
      early k = label_rises L m.states w.sent.row ((m.states g).completed - (w.sent.row + 1)) (m.states g).completed (omega (arith, k))

      never : w.sent.row < (m.states g).completed → ⊥
      never k =
          let e1 = (st.joined.followed.each g lg).epoch in
          let e2 = (st.joined.followed.each g lg).swept in
          let ie = w.sent.of_epoch in
          let ir = w.sent.of_round in
          elim due [
            | inl q ↦ (
                let q0 = q.0 in
                let unswept : (m.states g).swept < (m.states g).epoch = omega (arith, q0, e1, e2) in
                let r = (st.joined.followed.each g lg).round unswept in
                let p = unswept_of L m.states R.clocks g lg unswept in
                let pe = p.of_epoch in
                let pr = p.of_round in
                elim q.1 [
                  | inl up ↦ elim (early k) [ inl x ↦ omega (arith, x, pe, ie, up, e1) | inr x ↦ (let x0 = x.0 in omega (arith, x0, pe, ie, up, e1)) ]
                  | inr at ↦ (let a0 = at.0 in let a1 = at.1 in elim (early k) [ inl x ↦ omega (arith, x, pe, ie, a0, e1) | inr x ↦ (let x1 = x.1 in omega (arith, x1, pr, ir, a1, r)) ])
                ]
                )
            | inr q ↦ (
                let q0 = q.0 in
                let q1 = q.1 in
                elim (R.clocks g lg).phase [
                  | inl p ↦ (let u = p.unswept in omega (arith, u, q0, e1, e2))
                  | inr p ↦ (let pe = p.of_epoch in let pr = p.of_round in elim (early k) [ inl x ↦ omega (arith, x, pe, ie, q1, e1) | inr x ↦ (let x1 = x.1 in omega (arith, x1, pr)) ])
                ]
                )
          ]

  -- each that is logged waits, and is due yet
  abbrev pub AreLogged : Type 0
  AreLogged = (g : ℕ) → g < n → (e : Place × RoundBody) → Member e (catalogue_at cs g).got → GotWaits set some cs m st g e.0 e.1 × IsDueYet (catalogue_at cs g) e.0

  pub logged_is_kept : AreLogged → (g : ℕ) → g < n → (e : Place × RoundBody) → Member e (catalogue_at cs g).got → HasSent (catalogue_at cs e.0.from).sent g e.0.epoch e.0.round e.1
  logged_is_kept logged g lg e k = let l = logged g lg e k in row_is_kept set some cs m st g lg e.0 e.1 l.0 (due_late g lg e.0 e.1 l.0 l.1)

-- ---- behind an entry

module _ (set : Setting) (some : 0 < set.shape.shards) (cs : List Catalogue) (m : Machine) (st : IsStanding set some cs m) (g : ℕ) (lg : g < set.shape.shards) (number : ℕ) (logged : AreLogged set some cs m st) where
  abbrev n' : ℕ
  n' = set.shape.shards

  abbrev c : Catalogue
  c = catalogue_at cs g

  abbrev deed : Entry → Deed
  deed entry = record { shard = g; number = number; entry = entry }

  -- what the catalogue of the entry's shard has logged behind it was logged before, and is due yet, or is the entry itself
  abbrev IsLoggedOn : Catalogue → Type 0
  IsLoggedOn d = (e : Place × RoundBody) → Member e d.got → GotWaits set some cs m st g e.0 e.1 × IsDueYet d e.0

  same_logged : (d : Catalogue) → d.got ≡ c.got → d.epoch ≡ c.epoch → d.swept ≡ c.swept → d.round ≡ c.round → IsLoggedOn d
  same_logged d same e s r x k =
      let l = logged g lg x (subst (λ xs. Member x xs) same k) in (
        l.0,
        elim l.1 [
          | inl q ↦ (
              let q0 = q.0 in
              inl (omega (arith, q0, e, s), elim q.1 [ inl up ↦ inl (omega (arith, up, e)) | inr at ↦ (let a0 = at.0 in let a1 = at.1 in inr (omega (arith, a0, e), omega (arith, a1, r))) ])
              )
          | inr q ↦ (let q0 = q.0 in let q1 = q.1 in inr (omega (arith, q0, e, s), omega (arith, q1, e)))
        ],
      )

  entered_logged : c.swept ≡ c.epoch → IsLoggedOn (enter_epoch n' c)
  entered_logged idle x k =
      let f = kept_member (c.epoch + 1) 0 c.got x k in
      ((logged g lg x f.0).0, inl (omega (arith, idle), f.1))

  log_logged : (place : Place) (told : RoundBody) → GotWaits set some cs m st g place told → is_accepted n' c place ≡ true → IsLoggedOn (log_got place told c)
  log_logged place told w ok x k = elim (logged_member c.got place told x k) [
    | inl is ↦ subst (λ (y : Place × RoundBody). GotWaits set some cs m st g y.0 y.1 × IsDueYet (log_got place told c) y.0) (sym is) (w, due (accepted_label n' c place ok) (swept_or_runs set some cs m st g lg))
    | inr old ↦ logged g lg x old
  ]
    where
      due : (c.swept < c.epoch) × (place.epoch ≡ c.epoch) × (c.round ≤ place.round) ⊎ (place.epoch ≡ c.epoch + 1) × (place.round ≡ 0) → (c.swept ≡ c.epoch) ⊎ (c.swept < c.epoch) → IsDueYet (log_got place told c) place
      due (inl q) runs = inl (q.0, inr (q.1, q.2))
      due (inr q) (inl idle) = let q0 = q.0 in inr (idle, omega (arith, q0))
      due (inr q) (inr run) = let q0 = q.0 in inl (run, inl (omega (arith, q0)))

  -- ---- the end of a round forgets what is past

  module _ (place : Place) (told : RoundBody) (w : GotWaits set some cs m st g place told) (ok : is_accepted n' c place ≡ true) where
    abbrev D : Catalogue
    D = log_got place told c

    abbrev L' : Layout
    L' = layout_of n' some

    R' : IsRight L' m
    R' = right set some cs m st

    searched_logged : c.swept < c.epoch → IsLoggedOn (search n' (settled n' D))
    searched_logged run x k =
        let f = kept_member c.epoch (c.round + 1) D.got x k in
        ((log_logged place told w ok x f.0).0, inl (run, f.1))

    -- with it logged, nothing else has changed
    logged_standing : IsStanding set some (slice_set cs g D) m
    logged_standing = record {
      joined = join_on set some cs m st g lg D m st.joined.followed.made (nothing_done set some cs m st g) (logged_follows g c L' m (st.joined.followed.each g lg) place told w.sent) (let o = own_here set some cs m st g lg in record { mine = o.mine; once = o.once }) (λ kept among to body tells. st.joined.sent g lg kept among to body tells) (λ row l. refl) (st.joined.last g lg);
      bounded = st.bounded;
      room = room_on set some cs m st g lg D m (st.room g lg);
      few = few_on set some cs m st g lg D m (st.few g lg);
    }

    -- behind the last round of a run there is none of that run
    none_later : is_complete n' D ≡ true → is_last n' D ≡ true → (x : Place × RoundBody) → GotWaits set some cs m st g x.0 x.1 → x.0.epoch ≡ c.epoch → c.round + 1 ≤ x.0.round → ⊥
    none_later whole over x v same later =
        let lst = logged_standing in
        let at = set_here set some cs m st g lg D m in
        let whole' : is_complete n' (catalogue_at (slice_set cs g D) g) ≡ true = ap (λ y. is_complete n' y) at ∙ whole in
        let over' : is_last_there L' g m ≡ true = sym (last_is set some (slice_set cs g D) m lst g lg whole') ∙ ap (λ y. is_last n' y) at ∙ over in
        let parts = last_tells (m.states g).round (total_in L' m.states (m.states g).completed) over' in
        let late = parts.0 in
        let none = parts.1 in
        let running = ltb-true c.swept c.epoch (and_parts (is_running c) _ whole).0 in
        let e1 = (st.joined.followed.each g lg).epoch in
        let e2 = (st.joined.followed.each g lg).swept in
        let unswept : (m.states g).swept < (m.states g).epoch = omega (arith, running, e1, e2) in
        let r = (st.joined.followed.each g lg).round unswept in
        let p = unswept_of L' m.states R'.clocks g lg unswept in
        let pe = p.of_epoch in
        let pr = p.of_round in
        let ie = v.sent.of_epoch in
        let ir = v.sent.of_round in
        let row : ℕ = v.sent.row in
        let done : ℕ = (m.states g).completed in
        elim (cases_lt row done) [
          | inl l ↦ elim (label_rises L' m.states row (done - (row + 1)) done (omega (arith, l))) [ inl q ↦ omega (arith, q, pe, ie, same, e1) | inr q ↦ (let q1 = q.1 in omega (arith, q1, pr, ir, later, r)) ]
          | inr l ↦ elim (cases_eq row done) [
            | inl is ↦ (let q : (label_of L' m.states row).round ≡ (label_of L' m.states done).round = ap (λ j. (label_of L' m.states j).round) is in omega (arith, q, pr, ir, later, r))
            | inr differs ↦ (
                let rises = epoch_rises L' m.states (done + 1) row (omega (arith, l, differs)) in
                elim (label_next L' m.states done (done + 1) (omega arith)) [
                  | inl q ↦ (let q2 = q.2 in omega (arith, q2, rises, pe, ie, same, e1))
                  | inr q ↦ elim q.0 [ inl z ↦ omega (arith, z, pr, late) | inr z ↦ omega (arith, z, none) ]
                ]
                )
          ]
        ]

    swept_logged : is_complete n' D ≡ true → is_last n' D ≡ true → IsLoggedOn (sweep (settled n' D))
    swept_logged whole over x k =
        let f = kept_member c.epoch (c.round + 1) D.got x k in
        let v = (log_logged place told w ok x f.0).0 in
        (v, inr (refl, elim f.1 [ inl up ↦ up | inr at ↦ absurd (none_later whole over x v at.0 at.1) ]))

    pub got_logged : IsLoggedOn (get_round n' place told c)
    got_logged = go (is_complete n' D) refl (is_last n' D) refl
      where
        to_logged : get_round n' place told c ≡ advanced n' D
        to_logged = ap (λ b. cond b (advanced n' D) c) ok

        ended : (whole : is_complete n' D ≡ true) → get_round n' place told c ≡ cond (is_last n' D) (sweep (settled n' D)) (search n' (settled n' D))
        ended whole = to_logged ∙ ends_one n' D whole (once set some cs m st g lg place told w.sent whole)

        go : (a : Bool) → is_complete n' D ≡ a → (b : Bool) → is_last n' D ≡ b → IsLoggedOn (get_round n' place told c)
        go false p b q = subst (λ d. IsLoggedOn d) (sym (to_logged ∙ stays_open n' D p)) (log_logged place told w ok)
        go true p true q = subst (λ d. IsLoggedOn d) (sym (ended p ∙ ap (λ b. cond b (sweep (settled n' D)) (search n' (settled n' D))) q)) (swept_logged p q)
        go true p false q = subst (λ d. IsLoggedOn d) (sym (ended p ∙ ap (λ b. cond b (sweep (settled n' D)) (search n' (settled n' D))) q)) (searched_logged (ltb-true c.swept c.epoch (and_parts (is_running c) _ p).0))

  -- ---- any entry

  pub logged_on : (entry : Entry) (one : Arrives set some cs m (deed entry)) → IsLoggedOn (applied set cs (deed entry)) → AreLogged set some (follow set cs (deed entry)) one.later one.standing
  logged_on entry one on k lk x mem = elim (cases_eq k g) [
    | inl e ↦ subst (λ j. GotWaits set some (follow set cs (deed entry)) one.later one.standing j x.0 x.1 × IsDueYet (catalogue_at (follow set cs (deed entry)) j) x.0) (sym e) (
        let now = set_here set some cs m st g lg (applied set cs (deed entry)) m in
        let inside : Member x (applied set cs (deed entry)).got = subst (λ (y : Catalogue). Member x y.got) now (subst (λ j. Member x (catalogue_at (follow set cs (deed entry)) j).got) e mem) in
        let l = on x inside in
        (stays g x.0 x.1 l.0, subst (λ (y : Catalogue). IsDueYet y x.0) (sym now) l.1)
        )
    | inr o ↦ (
        let now = set_there set some cs m st g lg (applied set cs (deed entry)) m k o in
        let l = logged k lk x (subst (λ (y : Catalogue). Member x y.got) now mem) in
        (stays k x.0 x.1 l.0, subst (λ (y : Catalogue). IsDueYet y x.0) (sym now) l.1)
        )
  ]
    where
      stays : (shard : ℕ) (place : Place) (told : RoundBody) → GotWaits set some cs m st shard place told → GotWaits set some (follow set cs (deed entry)) one.later one.standing shard place told
      stays shard place told w = got_stays set some cs (follow set cs (deed entry)) m one.later st one.standing g lg one.moves
          (subst (λ (y : Catalogue). SendsOn c.sent y.sent (m.states g).sent (one.later.states g).sent) (sym (set_here set some cs m st g lg (applied set cs (deed entry)) m)) one.sends)
          (λ j o. set_there set some cs m st g lg (applied set cs (deed entry)) m j o) shard place told w

  client_logged : (entry : Entry) → IsClients entry → IsLoggedOn (applied set cs (deed entry))
  client_logged entry u = let s = client_still (shard_in set g) c number entry u in same_logged (applied set cs (deed entry)) s.3 s.0 s.1 s.2

  enter_logged : (op epoch : ℕ) → IsLoggedOn (applied set cs (deed (kind.Enter op epoch)))
  enter_logged op epoch = go (may_enter c epoch) refl
    where
      go : (b : Bool) → may_enter c epoch ≡ b → IsLoggedOn (applied set cs (deed (kind.Enter op epoch)))
      go false e = subst (λ d. IsLoggedOn d) (sym (ap (λ b. cond b (advanced n' (enter_epoch n' c)) c) e)) (same_logged c refl refl refl refl)
      go true e =
          let is : enter_here n' epoch c ≡ enter_epoch n' c = ap (λ b. cond b (advanced n' (enter_epoch n' c)) c) e ∙ stays_open n' (enter_epoch n' c) (enter_open set some cs m st g lg) in
          subst (λ d. IsLoggedOn d) (sym is) (entered_logged (eqb-true c.swept c.epoch (and_parts (epoch == c.epoch + 1) (c.swept == c.epoch) e).1))

  got_entry_logged : (place : Place) (told : RoundBody) → Fits set cs (deed (kind.Got place.from place.epoch place.round told.total told.deltas)) → IsLoggedOn (get_round n' place told c)
  got_entry_logged place told fit = go (is_accepted n' c place) refl
    where
      go : (b : Bool) → is_accepted n' c place ≡ b → IsLoggedOn (get_round n' place told c)
      go false e = subst (λ d. IsLoggedOn d) (sym (ap (λ b. cond b (advanced n' (log_got place told c)) c) e)) (same_logged c refl refl refl refl)
      go true e =
          let may = fit (λ same. got_differs n' place told c e same) in
          let within : place.from < n' = ltb-true place.from n' (and_parts (nat_lt place.from n') _ e).0 in
          got_logged place told (got_waits set some cs m st g place told within may) e

  pub entry_logged : (entry : Entry) → Fits set cs (deed entry) → IsLoggedOn (applied set cs (deed entry))
  entry_logged (kind.View view) fit = client_logged (kind.View view) tt
  entry_logged (kind.Block op least bytes) fit = client_logged (kind.Block op least bytes) tt
  entry_logged (kind.Mark op least block a) fit = client_logged (kind.Mark op least block a) tt
  entry_logged (kind.Root op held a key) fit = client_logged (kind.Root op held a key) tt
  entry_logged (kind.Drop op key) fit = client_logged (kind.Drop op key) tt
  entry_logged (kind.Enter op epoch) fit = enter_logged op epoch
  entry_logged (kind.Got sender epoch round total deltas) fit = got_entry_logged (record { epoch = epoch; round = round; from = sender }) (record { total = total; deltas = deltas }) fit
  entry_logged (kind.Base view epoch swept round frames) fit = client_logged (kind.Base view epoch swept round frames) tt
  entry_logged (kind.KeptBlock born mark flags count bytes) fit = client_logged (kind.KeptBlock born mark flags count bytes) tt
  entry_logged (kind.KeptRoot created dropped counted address key) fit = client_logged (kind.KeptRoot created dropped counted address key) tt
  entry_logged (kind.KeptRound way other epoch round total deltas) fit = client_logged (kind.KeptRound way other epoch round total deltas) tt

-- ---- along a history

pub record KeepsLogged (set : Setting) (some : 0 < set.shape.shards) (cs : List Catalogue) (deeds : List Deed) : Type 0 where
  pub later : Machine
  pub standing : IsStanding set some (follow_all set cs deeds) later
  pub logged : AreLogged set some (follow_all set cs deeds) later standing

pub keeps_logged : (set : Setting) (some : 0 < set.shape.shards) → set.shape.shards ≤ 8 → (deeds : List Deed) (cs : List Catalogue) (m : Machine) (st : IsStanding set some cs m) → FitAll set cs deeds → KeepFewRecords set cs deeds → AreLogged set some cs m st → KeepsLogged set some cs deeds
keeps_logged set some few [] cs m st fit records logged = record { later = m; standing = st; logged = logged }
keeps_logged set some few (deed ∷ deeds) cs m st fit records logged =
    let one = arrives set some cs m st deed.shard fit.0 deed.number deed.entry few fit.1 records.0 in
    let next = logged_on set some cs m st deed.shard fit.0 deed.number logged deed.entry one (entry_logged set some cs m st deed.shard fit.0 deed.number logged deed.entry fit.1) in
    let rest = keeps_logged set some few deeds (follow set cs deed) one.later one.standing fit.2 records.1 next in
    record { later = rest.later; standing = rest.standing; logged = rest.logged }

none_logged : (n k : ℕ) → (catalogue_at (replicate n empty_catalogue) k).got ≡ []
none_logged zero k = refl
none_logged (suc n) zero = refl
none_logged (suc n) (suc k) = none_logged n k

each_member : (P : Place × RoundBody → Type 0) (es : GotList) → ((e : Place × RoundBody) → Member e es → P e) → AllByRecursion P es
each_member P [] h = tt
each_member P (e ∷ es) h = (h e (inl refl), each_member P es (λ x k. h x (inr k)))

pub history_logged : (set : Setting) (history : List Deed) (shard : ℕ) → IsShape set.shape → FitAll set (no_entries set) history → KeepFewRecords set (no_entries set) history → shard < set.shape.shards → AreSent (follow_all set (no_entries set) history) shard
history_logged set history shard shape fit records l =
    let some = shape_some set.shape shape in
    let cs : List Catalogue = follow_all set (no_entries set) history in
    let k = keeps_logged set some (shape_few set.shape shape) history (no_entries set) empty_machine (empty_standing set some) fit records (λ g lg e mem. elim (subst (λ xs. Member e xs) (none_logged set.shape.shards g) mem) [ ]) in
    All-from_recursion (λ (e : Place × RoundBody). HasSent (catalogue_at cs e.0.from).sent shard e.0.epoch e.0.round e.1) (catalogue_at cs shard).got
    (each_member (λ (e : Place × RoundBody). HasSent (catalogue_at cs e.0.from).sent shard e.0.epoch e.0.round e.1) (catalogue_at cs shard).got (λ e mem. logged_is_kept set some cs k.later k.standing k.logged shard l e mem))
