-- An entry of a lawful history: what it does in the plain store and in the machine.
use Rattle.std.proofs.Common.{◌≡◌, ◌≢◌, inl, inr, ℕ, zero, suc, ◌+◌, ◌<◌, ◌≤◌, ◌&&◌, List, [], ◌∷◌, length, Bool, true, false, cond, Option, Some, None, refl, sym, ap, ◌∙◌, subst, arith, slice_set}
use Rattle.std.proofs.lemmas.Bool.{and_parts, ltb-true}
use Rattle.std.proofs.lemmas.Grind.{common_steps}
use Rattle.std.proofs.lemmas.List.Elements.{recursion_from_All}
use Rattle.std.specs.List.{AllByRecursion}
use Rattle.std.specs.Prelude.{nat_lt}
use Rattle.hs_model.specs.Inner.{may_sweep}
use Rattle.hs_model.specs.Store.{Store}
use Rattle.hs_laws.proofs.ValidLemmas.{Valid}
use Rattle.hs_entry.specs.declared.entry.Entry.{Entry}
use Rattle.hs_entry.specs.declared.entry.Entry.TheVariants as kind
use Rattle.hs_rounds.specs.declared.body.RoundBody.{RoundBody}
use Rattle.hs_rounds.specs.declared.place.Place.{Place}
use Rattle.hs_deletion.specs.Machine.{Round, Machine}
use Rattle.hs_deletion.specs.Following.{IsSent}
use Rattle.hs_fold.specs.Catalogue.{Shard}
use Rattle.hs_fold.specs.Lawful.{Deed}
use Rattle.hs_fold.specs.Shards.Happening.{Happening, changes, enters, sweeps, happen_by}
use Rattle.hs_fold.specs.Shards.Happening.{happening_of as plain_happening}
use Rattle.hs_fold.specs.Shards.Setting.{Setting, shard_in}
use Rattle.hs_fold.specs.Runs.Facts.{Catalogue, plain}
use Rattle.hs_fold.specs.Runs.Fits.{catalogue_at, MayCome}
use Rattle.hs_fold.specs.Runs.Happening.{IsClients, ends_run, happening_of}
use Rattle.hs_fold.specs.Runs.History.{applied, follow}
use Rattle.hs_fold.specs.Runs.Opened.{store_of}
use Rattle.hs_fold.specs.Runs.Rounds.{may_enter, enter_epoch, is_accepted, advanced, get_round, ends_last, log_got}
use Rattle.hs_fold.specs.Runs.Rounds.{enter as enter_here}
use Rattle.hs_fold.proofs.Runs.DeedLemmas.{deed-client, deed-enter}
use Rattle.hs_fold.proofs.Shards.LegalLemmas.{MayBeChange, one-changes}
use Rattle.hs_fold.proofs.Shards.PlaceLemmas.{length-set}
use Rattle.hs_joint.specs.Along.{HaveFewRecords, happening_by, MayHappenBy}
use Rattle.hs_joint.specs.Seen.{layout_of}
use Rattle.hs_joint.proofs.AllowLemmas.{KeepsFresh, AllowedBy, inside, happens_keep, client_allowed, may_by}
use Rattle.hs_joint.proofs.ClientLemmas.{comes_or_not, client_goes}
use Rattle.hs_joint.proofs.EnterLemmas.{enter_fits, enter_open, entered_goes}
use Rattle.hs_joint.proofs.GotLemmas.{stays_open, got_differs, got_goes}
use Rattle.hs_joint.proofs.StandLemmas.{IsStanding, SendsOn, GoesOn, was_sent, set_same}

-- the records of each shard
pub few_at : (P : Catalogue → Type 0) (cs : List Catalogue) → AllByRecursion P cs → (k : ℕ) → k < length cs → P (catalogue_at cs k)
few_at P [] h k l = absurd (omega (arith, l))
few_at P (c ∷ cs) h zero l = h.0
few_at P (c ∷ cs) h (suc k) l = few_at P cs h.1 k (grind (arith, common_steps, l))

pub record Arrives (set : Setting) (some : 0 < set.shape.shards) (cs : List Catalogue) (m : Machine) (deed : Deed) : Type 0 where
  pub later : Machine
  pub standing : IsStanding set some (follow set cs deed) later
  pub moves : (to sender epoch round : ℕ) (body : Round) → IsSent (layout_of set.shape.shards some) m.states to sender epoch round body → IsSent (layout_of set.shape.shards some) later.states to sender epoch round body
  pub sends : SendsOn (catalogue_at cs deed.shard).sent (applied set cs deed).sent (m.states deed.shard).sent (later.states deed.shard).sent
  pub states : (k : ℕ) → k ≢ deed.shard → later.states k ≡ m.states k
  pub store : store_of (follow set cs deed) ≡ happen_by (store_of cs) (happening_by set cs deed)
  pub allowed : MayHappenBy (store_of cs) (happening_by set cs deed)
  pub keeps : Valid (store_of cs) → KeepsFresh (store_of cs) (store_of (follow set cs deed))

-- it may come where it changes something
abbrev pub Fits : Setting → List Catalogue → Deed → Type 0
Fits set cs deed = (applied set cs deed ≡ catalogue_at cs deed.shard → ⊥) → MayCome cs deed.shard deed.entry

module _ (set : Setting) (some : 0 < set.shape.shards) (cs : List Catalogue) (m : Machine) (st : IsStanding set some cs m) (g : ℕ) (lg : g < set.shape.shards) (number : ℕ) where
  abbrev n : ℕ
  n = set.shape.shards

  abbrev at : Shard
  at = shard_in set g

  abbrev c : Catalogue
  c = catalogue_at cs g

  abbrev s : Store
  s = store_of cs

  abbrev deed : Entry → Deed
  deed entry = record { shard = g; number = number; entry = entry }

  unmoved : (d : Catalogue) → d ≡ c → slice_set cs g d ≡ cs
  unmoved d e = ap (λ x. slice_set cs g x) e ∙ set_same cs g

  -- nothing happens where the catalogue stays as it is
  stays_as_it_is : (entry : Entry) → applied set cs (deed entry) ≡ c → store_of (follow set cs (deed entry)) ≡ happen_by s (happening_by set cs (deed entry)) → MayHappenBy s (happening_by set cs (deed entry)) → Arrives set some cs m (deed entry)
  stays_as_it_is entry e store allowed =
      let is : follow set cs (deed entry) ≡ cs = unmoved (applied set cs (deed entry)) e in
      record {
        later = m;
        standing = subst (λ ds. IsStanding set some ds m) (sym is) st;
        moves = λ to sender epoch round body i. i;
        sends = inl (ap (λ (x : Catalogue). x.sent) e, refl);
        states = λ k o. refl;
        store = store;
        allowed = allowed;
        keeps = λ v. subst (λ ds. KeepsFresh s (store_of ds)) (sym is) (v, λ least l a r. r);
      }

  goes_on : (entry : Entry) → GoesOn set some cs m g (applied set cs (deed entry)) → store_of (follow set cs (deed entry)) ≡ happen_by s (happening_by set cs (deed entry)) → ((one : Happening) → happening_by set cs (deed entry) ≡ Some one → AllowedBy s one) → Arrives set some cs m (deed entry)
  goes_on entry goes store may = record {
    later = goes.later;
    standing = goes.standing;
    moves = goes.moves;
    sends = goes.sends;
    states = goes.states;
    store = store;
    allowed = may_by s (happening_by set cs (deed entry)) may;
    keeps = λ v. subst (λ t. KeepsFresh s t) (sym store) (happens_keep s v (happening_by set cs (deed entry)) may);
  }

  -- ---- clients

  by_change : (o : Option Happening) → MayBeChange o → MayHappenBy s o
  by_change None h = tt
  by_change (Some (changes one)) h = tt
  by_change (Some (enters shard)) h = elim h [ ]
  by_change (Some (sweeps shard)) h = elim h [ ]

  client_may : (entry : Entry) → IsClients entry → MayHappenBy s (happening_of at c entry)
  client_may (kind.View view) u = tt
  client_may (kind.Block op least bytes) u = by_change (plain_happening at (plain c) (kind.Block op least bytes)) (one-changes at (plain c) (kind.Block op least bytes))
  client_may (kind.Mark op least block a) u = by_change (plain_happening at (plain c) (kind.Mark op least block a)) (one-changes at (plain c) (kind.Mark op least block a))
  client_may (kind.Root op held a key) u = by_change (plain_happening at (plain c) (kind.Root op held a key)) (one-changes at (plain c) (kind.Root op held a key))
  client_may (kind.Drop op key) u = by_change (plain_happening at (plain c) (kind.Drop op key)) (one-changes at (plain c) (kind.Drop op key))
  client_may (kind.Enter op epoch) u = elim u [ ]
  client_may (kind.Got sender epoch round total deltas) u = elim u [ ]
  client_may (kind.Base view epoch swept round frames) u = tt
  client_may (kind.KeptBlock born mark flags count bytes) u = tt
  client_may (kind.KeptRoot created dropped counted address key) u = tt
  client_may (kind.KeptRound way other epoch round total deltas) u = tt

  client_arrives : (entry : Entry) → IsClients entry → Fits set cs (deed entry) → Arrives set some cs m (deed entry)
  client_arrives entry u fit = elim (comes_or_not at cs g number entry u fit) [
    | inl same ↦ stays_as_it_is entry same (deed-client set (deed entry) cs st.joined.each lg st.joined.own u) (client_may entry u)
    | inr may ↦ goes_on entry (client_goes set some cs m st g lg number entry u may) (deed-client set (deed entry) cs st.joined.each lg st.joined.own u) (client_allowed set.name n cs g entry st.joined.each lg st.joined.own u may)
  ]

  -- ---- Enter

  enter_arrives : (op epoch : ℕ) → n ≤ 8 → Fits set cs (deed (kind.Enter op epoch)) → HaveFewRecords (follow set cs (deed (kind.Enter op epoch))) → Arrives set some cs m (deed (kind.Enter op epoch))
  enter_arrives op epoch shards fit records = go (may_enter c epoch) refl
    where
      open_round : advanced n (enter_epoch n c) ≡ enter_epoch n c
      open_round = stays_open n (enter_epoch n c) (enter_open set some cs m st g lg)

      store : store_of (follow set cs (deed (kind.Enter op epoch))) ≡ happen_by s (happening_by set cs (deed (kind.Enter op epoch)))
      store = deed-enter set g number op epoch cs st.joined.each lg st.joined.own (enter_open set some cs m st g lg)

      go : (b : Bool) → may_enter c epoch ≡ b → Arrives set some cs m (deed (kind.Enter op epoch))
      go false e =
          let happens : happening_by set cs (deed (kind.Enter op epoch)) ≡ None = ap (λ b. cond b (Some (enters g)) None) e in
          stays_as_it_is (kind.Enter op epoch) (ap (λ b. cond b (advanced n (enter_epoch n c)) c) e) store (subst (λ o. MayHappenBy s o) (sym happens) tt)
      go true e =
          let is : enter_here n epoch c ≡ enter_epoch n c = ap (λ b. cond b (advanced n (enter_epoch n c)) c) e ∙ open_round in
          let happens : happening_by set cs (deed (kind.Enter op epoch)) ≡ Some (enters g) = ap (λ b. cond b (Some (enters g)) None) e in
          let may = fit (λ same. (
          let one : (enter_here n epoch c).epoch ≡ c.epoch + 1 = ap (λ (x : Catalogue). x.epoch) is in
          let two : (enter_here n epoch c).epoch ≡ c.epoch = ap (λ (x : Catalogue). x.epoch) same in
          omega (arith, one, two)
          )) in
          let few : AllByRecursion (λ (x : Catalogue). length x.roots ≤ 16777216) (slice_set cs g (enter_epoch n c)) = subst (λ x. AllByRecursion (λ (y : Catalogue). length y.roots ≤ 16777216) (slice_set cs g x)) is (recursion_from_All (λ (x : Catalogue). length x.roots ≤ 16777216) (slice_set cs g (enter_here n epoch c)) records) in
          let each : (k : ℕ) → k < n → length (catalogue_at (slice_set cs g (enter_epoch n c)) k).roots ≤ 16777216 = λ k lk. few_at (λ (x : Catalogue). length x.roots ≤ 16777216) (slice_set cs g (enter_epoch n c)) few k (
          let same_length = length-set cs g (enter_epoch n c) in
          let whole = st.joined.each in
          omega (arith, lk, same_length, whole)
          ) in
          goes_on (kind.Enter op epoch) (subst (λ x. GoesOn set some cs m g x) (sym is) (entered_goes set some cs m st g lg (enter_fits set some cs m st g lg may) shards each)) store
          (λ one q. (let it : enters g ≡ one = inside (enters g) one (sym happens ∙ q) in subst (λ x. AllowedBy s x) it may))

  -- ---- Got

  got_arrives : (place : Place) (told : RoundBody) → Fits set cs (deed (kind.Got place.from place.epoch place.round told.total told.deltas)) → Arrives set some cs m (deed (kind.Got place.from place.epoch place.round told.total told.deltas))
  got_arrives place told fit = go (is_accepted n c place) refl
    where
      go : (b : Bool) → is_accepted n c place ≡ b → Arrives set some cs m (deed (kind.Got place.from place.epoch place.round told.total told.deltas))
      go false e =
          let same : get_round n place told c ≡ c = ap (λ b. cond b (advanced n (log_got place told c)) c) e in
          let happens : happening_by set cs (deed (kind.Got place.from place.epoch place.round told.total told.deltas)) ≡ None = ap (λ b. cond (b && ends_last n (length (log_got place told c).got + 1) (log_got place told c)) (Some (sweeps g)) None) e in
          stays_as_it_is (kind.Got place.from place.epoch place.round told.total told.deltas) same (ap store_of (unmoved (get_round n place told c) same) ∙ sym (ap (λ o. happen_by s o) happens)) (subst (λ o. MayHappenBy s o) (sym happens) tt)
      go true e =
          let may = fit (λ same. got_differs n place told c e same) in
          let within : place.from < n = ltb-true place.from n (and_parts (nat_lt place.from n) _ e).0 in
          let sent = was_sent set some cs m st place.from within g place.epoch place.round told may in
          let got = got_goes set some cs m st g lg place told sent e in
          goes_on (kind.Got place.from place.epoch place.round told.total told.deltas) got.goes got.store (λ one q. allowed_by (ends_run n c place told) refl got.allowed one q)
        where
          allowed_by : (b : Bool) → ends_run n c place told ≡ b → (b ≡ true → may_sweep (store_of cs) g ≡ true) → (one : Happening) → cond b (Some (sweeps g)) None ≡ Some one → AllowedBy s one
          allowed_by true e ok one q = subst (λ x. AllowedBy s x) (inside (sweeps g) one q) (ok refl)
          allowed_by false e ok one q = cc q

  -- ---- any entry

  pub arrives : (entry : Entry) → n ≤ 8 → Fits set cs (deed entry) → HaveFewRecords (follow set cs (deed entry)) → Arrives set some cs m (deed entry)
  arrives (kind.View view) shards fit records = client_arrives (kind.View view) tt fit
  arrives (kind.Block op least bytes) shards fit records = client_arrives (kind.Block op least bytes) tt fit
  arrives (kind.Mark op least block a) shards fit records = client_arrives (kind.Mark op least block a) tt fit
  arrives (kind.Root op held a key) shards fit records = client_arrives (kind.Root op held a key) tt fit
  arrives (kind.Drop op key) shards fit records = client_arrives (kind.Drop op key) tt fit
  arrives (kind.Enter op epoch) shards fit records = enter_arrives op epoch shards fit records
  arrives (kind.Got sender epoch round total deltas) shards fit records = got_arrives (record { epoch = epoch; round = round; from = sender }) (record { total = total; deltas = deltas }) fit
  arrives (kind.Base view epoch swept round frames) shards fit records = client_arrives (kind.Base view epoch swept round frames) tt fit
  arrives (kind.KeptBlock born mark flags count bytes) shards fit records = client_arrives (kind.KeptBlock born mark flags count bytes) tt fit
  arrives (kind.KeptRoot created dropped counted address key) shards fit records = client_arrives (kind.KeptRoot created dropped counted address key) tt fit
  arrives (kind.KeptRound way other epoch round total deltas) shards fit records = client_arrives (kind.KeptRound way other epoch round total deltas) tt fit
