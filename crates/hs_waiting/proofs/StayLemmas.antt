-- What waits may come still behind any other entry.
use Rattle.std.proofs.Common.{◌≡◌, ◌≢◌, ◌⊎◌, inl, inr, ℕ, ◌+◌, ◌<◌, ◌≤◌, ◌==◌, List, length, Bool, true, false, cond, Option, Some, None, refl, sym, ap, ◌∙◌, subst, arith, nat_lt}
use Rattle.std.proofs.lemmas.Bool.{cases_eq, and_parts, eqb-true}
use Rattle.std.proofs.lemmas.Bool.Decides.{nat_tests}
use Rattle.std.proofs.lemmas.Map.Made.{lookup-map_values}
use Rattle.std.specs.BTreeMap.{is_at}
use Rattle.std.specs.Map.{lookup}
use Rattle.std.specs.Option.{option_map}
use Rattle.std.specs.Prelude.{Contains}
use Rattle.hs_limits.specs.declared.address.Address.{Address}
use Rattle.hs_model.specs.Inner.{may_enter as store_may_enter}
use Rattle.hs_model.specs.Store.{address_cmp}
use Rattle.hs_model.proofs.ReachLemmas.{reached_from_is, is_from_reached}
use Rattle.hs_laws.specs.Valid.{least_epoch, rests_on}
use Rattle.hs_laws.proofs.EpochLemmas.{nat_le_from, nat_le-true}
use Rattle.hs_laws.proofs.ValidLemmas.{Valid}
use Rattle.hs_entry.specs.declared.entry.Entry.{Entry}
use Rattle.hs_entry.specs.declared.entry.Entry.TheVariants as kind
use Rattle.hs_rounds.specs.declared.body.RoundBody.{RoundBody}
use Rattle.hs_rounds.specs.declared.place.Place.{Place}
use Rattle.hs_deletion.specs.Machine.{Machine}
use Rattle.hs_fold.specs.Catalogue.{Present, Shard}
use Rattle.hs_fold.specs.Lawful.{Deed}
use Rattle.hs_fold.specs.Shards.Catalogue.{is_fresh, present_at}
use Rattle.hs_fold.specs.Shards.Fits.{Rests, BlockRests, MarkRests, RootRests}
use Rattle.hs_fold.specs.Shards.Happening.{Happening, changes, enters, sweeps, happen_by}
use Rattle.hs_fold.specs.Shards.Happening.{happening_of as plain_happening}
use Rattle.hs_fold.specs.Shards.Setting.{Setting, shard_in}
use Rattle.hs_fold.specs.Runs.Facts.{Facts, Catalogue, empty_catalogue, plain, facts_at}
use Rattle.hs_fold.specs.Runs.Fits.{catalogue_at}
use Rattle.hs_fold.specs.Runs.Happening.{IsClients, ends_run, happening_of}
use Rattle.hs_fold.specs.Runs.History.{applied, follow}
use Rattle.hs_fold.specs.Runs.Opened.{store_of}
use Rattle.hs_fold.specs.Runs.Rounds.{may_enter, enter_epoch, advanced}
use Rattle.hs_fold.specs.Runs.Rounds.{enter as enter_here}
use Rattle.hs_fold.proofs.Shards.LegalLemmas.{MayBeChange, one-changes}
use Rattle.hs_fold.proofs.Shards.PlaceLemmas.{same-at, other-at}
use Rattle.hs_joint.specs.Along.{happening_by, MayHappenBy}
use Rattle.hs_joint.proofs.AllowLemmas.{inside}
use Rattle.hs_joint.proofs.DeedLemmas.{Arrives}
use Rattle.hs_joint.proofs.ListedLemmas.{epochs-length}
use Rattle.hs_joint.proofs.ReachedLemmas.{least_low}
use Rattle.hs_joint.proofs.StandLemmas.{IsStanding, SendsOn, own_here}
use Rattle.hs_waiting.specs.Waits.{EnterWaits}
use Rattle.hs_waiting.proofs.EnterStoreLemmas.{Elsewhere, enter-still}
use Rattle.hs_waiting.proofs.EpochLemmas.{client_still, entered_epoch, epoch_rises, idle_got, idle_ends}
use Rattle.hs_waiting.proofs.GotStayLemmas.{GotWaits, got_stays}
use Rattle.hs_waiting.proofs.WasLemmas.{was-there}

-- the entry of this number is not the Block that a waiting Mark of its shard names
abbrev pub NamesAnother : ℕ → ℕ → ℕ → Entry → Type 0
NamesAnother g number k (kind.Mark op least block a) = k ≡ g → block ≢ number
NamesAnother g number k other = Unit {0}

-- an entry waits beside the machine
abbrev pub WaitsBeside : (set : Setting) (some : 0 < set.shape.shards) (cs : List Catalogue) (m : Machine) → IsStanding set some cs m → ℕ → Entry → Type 0
WaitsBeside set some cs m st shard (kind.Enter op epoch) = EnterWaits cs shard epoch
WaitsBeside set some cs m st shard (kind.Got sender epoch round total deltas) = GotWaits set some cs m st shard (record { epoch = epoch; round = round; from = sender }) (record { total = total; deltas = deltas })
WaitsBeside set some cs m st shard (kind.View view) = Unit {0}
WaitsBeside set some cs m st shard (kind.Block op least bytes) = BlockRests (store_of cs) (plain (catalogue_at cs shard)) least bytes
WaitsBeside set some cs m st shard (kind.Mark op least block a) = MarkRests (store_of cs) (plain (catalogue_at cs shard)) least block a
WaitsBeside set some cs m st shard (kind.Root op held a key) = RootRests (store_of cs) (plain (catalogue_at cs shard)) held a
WaitsBeside set some cs m st shard (kind.Drop op key) = Unit {0}
WaitsBeside set some cs m st shard (kind.Base view epoch swept round frames) = Unit {0}
WaitsBeside set some cs m st shard (kind.KeptBlock born mark flags count bytes) = Unit {0}
WaitsBeside set some cs m st shard (kind.KeptRoot created dropped counted address key) = Unit {0}
WaitsBeside set some cs m st shard (kind.KeptRound way other epoch round total deltas) = Unit {0}

-- ---- of which shard what happens is

client_elsewhere : (at : Shard) (c : Catalogue) (entry : Entry) → IsClients entry → (k : ℕ) (one : Happening) → happening_of at c entry ≡ Some one → Elsewhere k one
client_elsewhere at c entry u k one e = go entry u e
  where
    by_change : (o : Option Happening) → MayBeChange o → o ≡ Some one → Elsewhere k one
    by_change None h q = cc q
    by_change (Some (changes x)) h q = subst (λ (y : Happening). Elsewhere k y) (inside (changes x) one q) tt
    by_change (Some (enters shard)) h q = elim h [ ]
    by_change (Some (sweeps shard)) h q = elim h [ ]

    go : (entry : Entry) → IsClients entry → happening_of at c entry ≡ Some one → Elsewhere k one
    go (kind.View view) u q = cc q
    go (kind.Block op least bytes) u q = by_change (plain_happening at (plain c) (kind.Block op least bytes)) (one-changes at (plain c) (kind.Block op least bytes)) q
    go (kind.Mark op least block a) u q = by_change (plain_happening at (plain c) (kind.Mark op least block a)) (one-changes at (plain c) (kind.Mark op least block a)) q
    go (kind.Root op held a key) u q = by_change (plain_happening at (plain c) (kind.Root op held a key)) (one-changes at (plain c) (kind.Root op held a key)) q
    go (kind.Drop op key) u q = by_change (plain_happening at (plain c) (kind.Drop op key)) (one-changes at (plain c) (kind.Drop op key)) q
    go (kind.Enter op epoch) u q = elim u [ ]
    go (kind.Got sender epoch round total deltas) u q = elim u [ ]
    go (kind.Base view epoch swept round frames) u q = cc q
    go (kind.KeptBlock born mark flags count bytes) u q = cc q
    go (kind.KeptRoot created dropped counted address key) u q = cc q
    go (kind.KeptRound way other epoch round total deltas) u q = cc q

other_elsewhere : (at : Shard) (c : Catalogue) (entry : Entry) (k : ℕ) → k ≢ at.shard → (one : Happening) → happening_of at c entry ≡ Some one → Elsewhere k one
other_elsewhere at c entry k o one e = go entry e
  where
    of_shard : (x : Happening) → Elsewhere k x → (b : Bool) → cond b (Some x) None ≡ Some one → Elsewhere k one
    of_shard x u true q = subst (λ (y : Happening). Elsewhere k y) (inside x one q) u
    of_shard x u false q = cc q

    go : (entry : Entry) → happening_of at c entry ≡ Some one → Elsewhere k one
    go (kind.View view) q = cc q
    go (kind.Block op least bytes) q = client_elsewhere at c (kind.Block op least bytes) tt k one q
    go (kind.Mark op least block a) q = client_elsewhere at c (kind.Mark op least block a) tt k one q
    go (kind.Root op held a key) q = client_elsewhere at c (kind.Root op held a key) tt k one q
    go (kind.Drop op key) q = client_elsewhere at c (kind.Drop op key) tt k one q
    go (kind.Enter op epoch) q = of_shard (enters at.shard) o (may_enter c epoch) q
    go (kind.Got sender epoch round total deltas) q = of_shard (sweeps at.shard) o (ends_run at.shards c (record { epoch = epoch; round = round; from = sender }) (record { total = total; deltas = deltas })) q
    go (kind.Base view epoch swept round frames) q = cc q
    go (kind.KeptBlock born mark flags count bytes) q = cc q
    go (kind.KeptRoot created dropped counted address key) q = cc q
    go (kind.KeptRound way other epoch round total deltas) q = cc q

-- ---- behind one entry

module _ (set : Setting) (some : 0 < set.shape.shards) (cs : List Catalogue) (m : Machine) (st : IsStanding set some cs m) (valid : Valid (store_of cs)) (g : ℕ) (lg : g < set.shape.shards) (number : ℕ) (entry : Entry)
    (one : Arrives set some cs m (record { shard = g; number = number; entry = entry })) where
  abbrev n : ℕ
  n = set.shape.shards

  abbrev deed : Deed
  deed = record { shard = g; number = number; entry = entry }

  abbrev at : Shard
  at = shard_in set g

  abbrev c : Catalogue
  c = catalogue_at cs g

  abbrev d : Catalogue
  d = applied set cs deed

  abbrev ds : List Catalogue
  ds = follow set cs deed

  now_here : catalogue_at ds g ≡ d
  now_here = same-at empty_catalogue cs g d (let e = st.joined.each in omega (arith, lg, e))

  now_there : (k : ℕ) → k ≢ g → catalogue_at ds k ≡ catalogue_at cs k
  now_there k o = other-at empty_catalogue cs g k d o

  each_rises : (k : ℕ) → (catalogue_at cs k).epoch ≤ (catalogue_at ds k).epoch
  each_rises k = elim (cases_eq k g) [
    | inl e ↦ (
        let a : (catalogue_at cs k).epoch ≡ c.epoch = ap (λ j. (catalogue_at cs j).epoch) e in
        let b : (catalogue_at ds k).epoch ≡ d.epoch = ap (λ j. (catalogue_at ds j).epoch) e ∙ ap (λ (x : Catalogue). x.epoch) now_here in
        let r = epoch_rises at c number entry in
        omega (arith, a, b, r)
        )
    | inr o ↦ (let a : (catalogue_at ds k).epoch ≡ (catalogue_at cs k).epoch = ap (λ (x : Catalogue). x.epoch) (now_there k o) in omega (arith, a))
  ]

  -- what is fresh was fresh, and what rests on it rests on it still
  rests_still : (k least : ℕ) → k < n → is_fresh (plain (catalogue_at ds k)) least ≡ true → (is_fresh (plain (catalogue_at cs k)) least ≡ true) × ((a : Address) → Rests (store_of cs) least a → Rests (store_of ds) least a)
  rests_still k least l fresh =
      let now = nat_le_from (catalogue_at ds k).epoch (least + 1) fresh in
      let up = each_rises k in
      let after = one.standing.joined in
      let low : least_epoch (store_of ds) ≤ (catalogue_at ds k).epoch = least_low n some ds after.each after.own one.later after.followed.each k l in (
        nat_le-true (catalogue_at cs k).epoch (least + 1) (omega (arith, now, up)),
        λ a r. is_from_reached (store_of ds) (rests_on (store_of ds) least) a ((one.keeps valid).1 least (omega (arith, now, low)) a (reached_from_is (store_of cs) (rests_on (store_of cs) least) a r)),
      )

  block_stays : (k least : ℕ) (bytes : List ℕ) → k < n → BlockRests (store_of cs) (plain (catalogue_at cs k)) least bytes → BlockRests (store_of ds) (plain (catalogue_at ds k)) least bytes
  block_stays k least bytes l w fresh block e pointer among = let r = rests_still k least l fresh in r.1 pointer (w r.0 block e pointer among)

  root_stays : (k held : ℕ) (a : Address) → k < n → RootRests (store_of cs) (plain (catalogue_at cs k)) held a → RootRests (store_of ds) (plain (catalogue_at ds k)) held a
  root_stays k held a l w fresh = let r = rests_still k held l fresh in r.1 a (w r.0)

  -- the facts of a present block
  facts_of : (x : Catalogue) (a : Address) (kept : Present) → present_at (plain x) a ≡ Some kept → (f : Facts) × (facts_at x a ≡ Some f) × (f.present ≡ kept)
  facts_of x a kept e = go (lookup (is_at (address_cmp a)) x.blocks) refl (sym (lookup-map_values (λ (f : Facts). f.present) (is_at (address_cmp a)) x.blocks) ∙ e)
    where
      go : (o : Option Facts) → lookup (is_at (address_cmp a)) x.blocks ≡ o → option_map (λ (f : Facts). f.present) o ≡ Some kept → (f : Facts) × (facts_at x a ≡ Some f) × (f.present ≡ kept)
      go None q r = cc r
      go (Some f) q r = (f, q, cc r)

  present_of : (x : Catalogue) (a : Address) (f : Facts) → facts_at x a ≡ Some f → present_at (plain x) a ≡ Some f.present
  present_of x a f e = lookup-map_values (λ (f : Facts). f.present) (is_at (address_cmp a)) x.blocks ∙ ap (option_map (λ (f : Facts). f.present)) e

  mark_stays : (k least block : ℕ) (a : Address) → k < n → (k ≡ g → block ≢ number) → MarkRests (store_of cs) (plain (catalogue_at cs k)) least block a → MarkRests (store_of ds) (plain (catalogue_at ds k)) least block a
  mark_stays k least block a l names w fresh kept found numbered pointer among = go (cases_eq k g)
    where
      r : (is_fresh (plain (catalogue_at cs k)) least ≡ true) × ((b : Address) → Rests (store_of cs) least b → Rests (store_of ds) least b)
      r = rests_still k least l fresh

      go : (k ≡ g) ⊎ (k ≢ g) → Rests (store_of ds) least pointer
      go (inl e) =
          let f = facts_of (catalogue_at ds k) a kept found in
          let at_d : catalogue_at ds k ≡ d = ap (catalogue_at ds) e ∙ now_here in
          let here : facts_at d a ≡ Some f.0 = subst (λ (x : Catalogue). facts_at x a ≡ Some f.0) at_d f.1 in
          let number_is : f.0.present.number ≡ block = ap (λ (p : Present). p.number) f.2 ∙ numbered in
          let was = was-there at c (own_here set some cs m st g lg) a f.0 number entry (λ q. names e (sym number_is ∙ q)) here in
          let before : facts_at (catalogue_at cs k) a ≡ Some was.old = subst (λ j. facts_at (catalogue_at cs j) a ≡ Some was.old) (sym e) was.found in
          let same : was.old.present.stored ≡ kept.stored = was.stored ∙ ap (λ (p : Present). p.stored) f.2 in
          r.1 pointer (w r.0 was.old.present (present_of (catalogue_at cs k) a was.old before) (was.number ∙ number_is) pointer (subst (λ ps. Contains ps.pointers pointer) (sym same) among))
      go (inr o) = r.1 pointer (w r.0 kept (subst (λ (x : Catalogue). present_at (plain x) a ≡ Some kept) (now_there k o) found) numbered pointer among)

  -- ---- an Enter

  filled : 0 < length (store_of cs).epochs
  filled = rw (epochs-length cs, st.joined.each) some

  enter_allowed : (k : ℕ) → k < n → store_may_enter (store_of cs) k ≡ true → ((x : Happening) → happening_by set cs deed ≡ Some x → Elsewhere k x) → store_may_enter (store_of ds) k ≡ true
  enter_allowed k lk t away = subst (λ s. store_may_enter s k ≡ true) (sym one.store) (still (happening_by set cs deed) refl one.allowed)
    where
      still : (found : Option Happening) → happening_by set cs deed ≡ found → MayHappenBy (store_of cs) found → store_may_enter (happen_by (store_of cs) found) k ≡ true
      still None e may = t
      still (Some x) e may = enter-still (store_of cs) filled k (rw (epochs-length cs, st.joined.each) lk) t x may (away x e)

  enter_elsewhere : (k epoch : ℕ) → k < n → k ≢ g → EnterWaits cs k epoch → EnterWaits ds k epoch
  enter_elsewhere k epoch lk o w = elim w [
    | inl over ↦ inl (subst (λ (x : Catalogue). epoch ≤ x.epoch) (sym (now_there k o)) over)
    | inr now ↦ inr (subst (λ (x : Catalogue). may_enter x epoch ≡ true) (sym (now_there k o)) now.0, enter_allowed k lk now.1 (λ x e. other_elsewhere at c entry k o x e))
  ]

  -- behind one of its own shard
  over_here : (epoch : ℕ) → epoch ≤ d.epoch → EnterWaits ds g epoch
  over_here epoch l = inl (subst (λ (x : Catalogue). epoch ≤ x.epoch) (sym now_here) l)

  still_here : (epoch : ℕ) → may_enter c epoch ≡ true → store_may_enter (store_of cs) g ≡ true → (d.epoch ≡ c.epoch) × (d.swept ≡ c.swept) → ((x : Happening) → happening_by set cs deed ≡ Some x → Elsewhere g x) → EnterWaits ds g epoch
  still_here epoch here may same away = inr (subst (λ (x : Catalogue). may_enter x epoch ≡ true) (sym now_here) (rw (same.0, same.1) here), enter_allowed g lg may away)

module _ (set : Setting) (some : 0 < set.shape.shards) (cs : List Catalogue) (m : Machine) (st : IsStanding set some cs m) (valid : Valid (store_of cs)) (g : ℕ) (lg : g < set.shape.shards) (number : ℕ) where
  abbrev n' : ℕ
  n' = set.shape.shards

  abbrev deed' : Entry → Deed
  deed' entry = record { shard = g; number = number; entry = entry }

  abbrev c' : Catalogue
  c' = catalogue_at cs g

  -- an Enter that the shard may take now, behind another entry of the shard
  enter_own : (entry : Entry) (one : Arrives set some cs m (deed' entry)) (epoch : ℕ) → may_enter c' epoch ≡ true → store_may_enter (store_of cs) g ≡ true → EnterWaits (follow set cs (deed' entry)) g epoch
  enter_own (kind.View view) one epoch here may = still_here set some cs m st valid g lg number (kind.View view) one epoch here may (refl, refl) (λ x e. cc e)
  enter_own (kind.Block op least bytes) one epoch here may = still_here set some cs m st valid g lg number (kind.Block op least bytes) one epoch here may ((client_still (shard_in set g) c' number (kind.Block op least bytes) tt).0, (client_still (shard_in set g) c' number (kind.Block op least bytes) tt).1) (λ x e. client_elsewhere (shard_in set g) c' (kind.Block op least bytes) tt g x e)
  enter_own (kind.Mark op least block a) one epoch here may = still_here set some cs m st valid g lg number (kind.Mark op least block a) one epoch here may ((client_still (shard_in set g) c' number (kind.Mark op least block a) tt).0, (client_still (shard_in set g) c' number (kind.Mark op least block a) tt).1) (λ x e. client_elsewhere (shard_in set g) c' (kind.Mark op least block a) tt g x e)
  enter_own (kind.Root op held a key) one epoch here may = still_here set some cs m st valid g lg number (kind.Root op held a key) one epoch here may ((client_still (shard_in set g) c' number (kind.Root op held a key) tt).0, (client_still (shard_in set g) c' number (kind.Root op held a key) tt).1) (λ x e. client_elsewhere (shard_in set g) c' (kind.Root op held a key) tt g x e)
  enter_own (kind.Drop op key) one epoch here may = still_here set some cs m st valid g lg number (kind.Drop op key) one epoch here may ((client_still (shard_in set g) c' number (kind.Drop op key) tt).0, (client_still (shard_in set g) c' number (kind.Drop op key) tt).1) (λ x e. client_elsewhere (shard_in set g) c' (kind.Drop op key) tt g x e)
  enter_own (kind.Enter op other) one epoch here may = go (may_enter c' other) refl
    where
      go : (b : Bool) → may_enter c' other ≡ b → EnterWaits (follow set cs (deed' (kind.Enter op other))) g epoch
      go true e =
          let up = entered_epoch (shard_in set g) c' other e in
          let next = eqb-true epoch (c'.epoch + 1) (and_parts (epoch == c'.epoch + 1) (c'.swept == c'.epoch) here).0 in
          over_here set some cs m st valid g lg number (kind.Enter op other) one epoch (omega (arith, up, next))
      go false e =
          let same : enter_here n' other c' ≡ c' = ap (λ b. cond b (advanced n' (enter_epoch n' c')) c') e in
          still_here set some cs m st valid g lg number (kind.Enter op other) one epoch here may (ap (λ (x : Catalogue). x.epoch) same, ap (λ (x : Catalogue). x.swept) same)
          (λ x q. (let none : happening_by set cs (deed' (kind.Enter op other)) ≡ None = ap (λ b. cond b (Some (enters g)) None) e in cc (none, q)))
  enter_own (kind.Got sender e round total deltas) one epoch here may =
      let swept = eqb-true c'.swept c'.epoch (and_parts (epoch == c'.epoch + 1) (c'.swept == c'.epoch) here).1 in
      let idle : nat_lt c'.swept c'.epoch ≡ false = grind (arith, nat_tests, swept) in
      let place : Place = record { epoch = e; round = round; from = sender } in
      let told : RoundBody = record { total = total; deltas = deltas } in
      still_here set some cs m st valid g lg number (kind.Got sender e round total deltas) one epoch here may (idle_got n' c' idle place told)
      (λ x q. (let none : happening_by set cs (deed' (kind.Got sender e round total deltas)) ≡ None = ap (λ b. cond b (Some (sweeps g)) None) (idle_ends n' c' idle place told) in cc (none, q)))
  enter_own (kind.Base view e swept round frames) one epoch here may = still_here set some cs m st valid g lg number (kind.Base view e swept round frames) one epoch here may (refl, refl) (λ x q. cc q)
  enter_own (kind.KeptBlock born mark flags count bytes) one epoch here may = still_here set some cs m st valid g lg number (kind.KeptBlock born mark flags count bytes) one epoch here may (refl, refl) (λ x q. cc q)
  enter_own (kind.KeptRoot created dropped counted address key) one epoch here may = still_here set some cs m st valid g lg number (kind.KeptRoot created dropped counted address key) one epoch here may (refl, refl) (λ x q. cc q)
  enter_own (kind.KeptRound way other e round total deltas) one epoch here may = still_here set some cs m st valid g lg number (kind.KeptRound way other e round total deltas) one epoch here may (refl, refl) (λ x q. cc q)

  enter_stays : (entry : Entry) (one : Arrives set some cs m (deed' entry)) (k epoch : ℕ) → k < n' → EnterWaits cs k epoch → EnterWaits (follow set cs (deed' entry)) k epoch
  enter_stays entry one k epoch lk w = elim (cases_eq k g) [
    | inr o ↦ enter_elsewhere set some cs m st valid g lg number entry one k epoch lk o w
    | inl e ↦ subst (λ j. EnterWaits (follow set cs (deed' entry)) j epoch) (sym e) (elim (subst (λ j. EnterWaits cs j epoch) e w) [
      | inl l ↦ (let up = epoch_rises (shard_in set g) c' number entry in over_here set some cs m st valid g lg number entry one epoch (omega (arith, l, up)))
      | inr p ↦ enter_own entry one epoch p.0 p.1
    ])
  ]

  -- ---- any entry

  pub waits_stay : (entry : Entry) (one : Arrives set some cs m (deed' entry)) (k : ℕ) → k < n' → (other : Entry) → NamesAnother g number k other → WaitsBeside set some cs m st k other → WaitsBeside set some (follow set cs (deed' entry)) one.later one.standing k other
  waits_stay entry one k l (kind.View view) u w = tt
  waits_stay entry one k l (kind.Block op least bytes) u w = block_stays set some cs m st valid g lg number entry one k least bytes l w
  waits_stay entry one k l (kind.Mark op least block a) u w = mark_stays set some cs m st valid g lg number entry one k least block a l u w
  waits_stay entry one k l (kind.Root op held a key) u w = root_stays set some cs m st valid g lg number entry one k held a l w
  waits_stay entry one k l (kind.Drop op key) u w = tt
  waits_stay entry one k l (kind.Enter op epoch) u w = enter_stays entry one k epoch l w
  waits_stay entry one k l (kind.Got sender epoch round total deltas) u w =
      got_stays set some cs (follow set cs (deed' entry)) m one.later st one.standing g lg one.moves
      (subst (λ (x : Catalogue). SendsOn c'.sent x.sent (m.states g).sent (one.later.states g).sent) (sym (now_here set some cs m st valid g lg number entry one)) one.sends)
      (λ j o. now_there set some cs m st valid g lg number entry one j o) k (record { epoch = epoch; round = round; from = sender }) (record { total = total; deltas = deltas }) w
  waits_stay entry one k l (kind.Base view epoch swept round frames) u w = tt
  waits_stay entry one k l (kind.KeptBlock born mark flags count bytes) u w = tt
  waits_stay entry one k l (kind.KeptRoot created dropped counted address key) u w = tt
  waits_stay entry one k l (kind.KeptRound way other epoch round total deltas) u w = tt
