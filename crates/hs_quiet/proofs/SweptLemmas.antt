-- A quiet core in whose lists nothing waits has swept the greatest epoch in each shard.
use Rattle.std.proofs.Common.{◌≡◌, ◌∙◌, sym, ap, subst, ℕ, ◌+◌, ◌<◌, ◌≤◌, ◌==◌, ◌&&◌, ◌||◌, Bool, true, false, cond, not, List, [], ◌∷◌, Option, Some, None, IsSome, refl, arith, tests, length, is_none, slice_get, slice_index, slice_index_or}
use Rattle.std.proofs.lemmas.Bool.{ne_eqb}
use Rattle.std.specs.BTreeMap.{is_at}
use Rattle.std.specs.List.{list_any}
use Rattle.std.specs.Option.{option_map_or}
use Rattle.hs_answered.specs.Standing.{store_with}
use Rattle.hs_core_words.specs.Delivering.{is_got, is_new_round}
use Rattle.hs_core_words.specs.Entering.{enters, has_begun, is_enter_due}
use Rattle.hs_core_words.specs.Looking.{catalogue_of, group_of, shape_of}
use Rattle.hs_core_words.specs.State.{Core}
use Rattle.hs_deletion.specs.History.{IsMade}
use Rattle.hs_deletion.specs.Machine.{Layout, Machine}
use Rattle.hs_deletion.specs.Promises.{AreInStep, GoesOn}
use Rattle.hs_deletion.proofs.HistoryKeeps.{right_made}
use Rattle.hs_effects.specs.Lawful.{AreOfHistory, IsLawful}
use Rattle.hs_effects.specs.Taking.{setting_of}
use Rattle.hs_entry.specs.declared.entry.Entry.{Entry}
use Rattle.hs_fold.specs.Lawful.{Deed}
use Rattle.hs_fold.specs.Runs.Facts.{Catalogue as Folded}
use Rattle.hs_fold.specs.Runs.Fits.{catalogue_at}
use Rattle.hs_fold.specs.Runs.History.{FitAll, follow_all, no_entries}
use Rattle.hs_fold.specs.Runs.Opened.{store_of}
use Rattle.hs_fold.specs.Runs.Rounds.{is_running, is_due as is_due_there}
use Rattle.hs_fold.specs.Shards.Setting.{Setting}
use Rattle.hs_joint.specs.Along.{KeepFewRecords}
use Rattle.hs_joint.specs.Joined.{AreJoined}
use Rattle.hs_joint.specs.Seen.{layout_of}
use Rattle.hs_joint.proofs.ListedLemmas.{epoch-at, epochs-length}
use Rattle.hs_laws.specs.Valid.{IsValid}
use Rattle.hs_limits.specs.Shape.{IsShape}
use Rattle.hs_limits.specs.declared.address.Address.{Address}
use Rattle.hs_limits.specs.declared.shape.Shape.{Shape}
use Rattle.hs_memory.specs.Forget.{forget}
use Rattle.hs_rounds.proofs.PlaceLemmas.{same_place}
use Rattle.hs_rounds.specs.declared.place.Place.{Place}
use Rattle.hs_rounds.specs.Rounds.{GotList, body_at, place_cmp, told_by}
use Rattle.hs_quiet.proofs.RowLemmas.{AreOpen, HaveCome, NoneBegun, history_open, no_run}
use Rattle.hs_quiet.specs.Settled.{IsQuiet}
use Rattle.hs_shard.specs.Facts.{Catalogue, empty_catalogue}
use Rattle.hs_shard.specs.Rounds.{is_due}
use Rattle.hs_standing.proofs.SettleLemmas.{forget_at}

-- what is known of lawful histories, and of the machines that they make
pub record Below : Type 0 where
  pub joined : (set : Setting) (history : List Deed) (some : 0 < set.shape.shards) → IsShape set.shape → FitAll set (no_entries set) history → KeepFewRecords set (no_entries set) history
      → (m : Machine) × AreJoined set some (follow_all set (no_entries set) history) m
  pub step : (layout : Layout) (m : Machine) → IsMade layout m → AreInStep layout m
  pub on : (layout : Layout) (m : Machine) → IsMade layout m → GoesOn layout m

-- ---- in memory

due_same : (shape : Shape) (k : ℕ) (c : Folded) (place : Place) → is_due place (forget shape k c) ≡ is_due_there c place.epoch place.round
due_same shape k c place = go (is_running c) refl
  where
    go : (b : Bool) → is_running c ≡ b → (option_map_or (λ (at : ℕ × ℕ). place.epoch == at.0 && (place.round == at.1 || place.round == at.1 + 1)) (cond (is_running c) (Some (c.epoch, c.round)) None) false || place.epoch == c.epoch + 1 && place.round == 0)
        ≡ (is_running c && (place.epoch == c.epoch && (place.round == c.round || place.round == c.round + 1)) || place.epoch == c.epoch + 1 && place.round == 0)
    go true e = rw e refl
    go false e = rw e refl

-- what came of a round stands among what came
begun_by : (gots : GotList) (place : Place) (epoch : ℕ) → place.epoch ≡ epoch → place.round ≡ 0 → IsSome (body_at place gots) → list_any (λ e. e.0.epoch == epoch && e.0.round == 0) gots ≡ true
begun_by [] place epoch e r h = absurd (cc h)
begun_by (g ∷ gots) place epoch e r h = by_here (λ k. begun_by gots place epoch e r k) (is_at (place_cmp place) g.0) refl h
  where
    same_true : (x : ℕ) → (x == x) ≡ true
    same_true x = grind (arith, tests)

    or_true : (a b : Bool) → b ≡ true → a || b ≡ true
    or_true true b f = refl
    or_true false b f = f

    or_here : (a b : Bool) → a ≡ true → a || b ≡ true
    or_here true b f = refl
    or_here false b f = absurd (cc f)

    by_here : (IsSome (body_at place gots) → list_any (λ x. x.0.epoch == epoch && x.0.round == 0) gots ≡ true) → (b : Bool) → is_at (place_cmp place) g.0 ≡ b → IsSome (cond b (Some g.1) (body_at place gots)) → (g.0.epoch == epoch && g.0.round == 0) || list_any (λ x. x.0.epoch == epoch && x.0.round == 0) gots ≡ true
    by_here again true is k =
        let same : place ≡ g.0 = same_place place g.0 is in
        let at : g.0.epoch ≡ epoch = ap (λ (p : Place). p.epoch) (sym same) ∙ e in
        let of : g.0.round ≡ 0 = ap (λ (p : Place). p.round) (sym same) ∙ r in
        or_here (g.0.epoch == epoch && g.0.round == 0) (list_any (λ x. x.0.epoch == epoch && x.0.round == 0) gots) ((λ i. (at i == epoch) && (of i == 0)) ∙ ap (λ b. b && true) (same_true epoch))
    by_here again false is k = or_true (g.0.epoch == epoch && g.0.round == 0) (list_any (λ x. x.0.epoch == epoch && x.0.round == 0) gots) (again k)

some_of : {X : Type 0} (o : Option X) → is_none o ≡ false → IsSome o
some_of None e = absurd (cc e)
some_of (Some x) e = refl

module _ (below : Below) (name : List ℕ → Address) (core : Core) (cs : List Folded) (lawful : IsLawful name core cs) (valid : IsValid (store_with cs core.sessions)) (some : 0 < (shape_of core).shards)
    (quiet : IsQuiet core) (lists : (shard : ℕ) → shard < (shape_of core).shards → (group_of shard core).waiting ≡ []) where
  abbrev n : ℕ
  n = (shape_of core).shards

  abbrev set : Setting
  set = setting_of name core

  of_history : AreOfHistory (setting_of name core) cs
  of_history = lawful.lawful

  machine : (m : Machine) × AreJoined (setting_of name core) some cs m
  machine =
      let found = below.joined (setting_of name core) lawful.lawful.history some lawful.folded.valid lawful.lawful.fits lawful.lawful.records in
      (found.0, subst (λ (ds : List Folded). AreJoined (setting_of name core) some ds found.0) lawful.lawful.gives found.1)

  is_there : (k : ℕ) → k < (shape_of core).shards → catalogue_of k core ≡ forget (shape_of core) k (catalogue_at cs k)
  is_there k low =
      ap (λ (xs : List Catalogue). slice_index_or xs k (empty_catalogue (shape_of core) k)) lawful.folded.catalogues
      ∙ forget_at (shape_of core) cs k (let e = lawful.folded.shards in omega (arith, low, e)) (empty_catalogue (shape_of core) k)

  unfinished : AreOpen (setting_of name core) some cs
  unfinished = subst (λ (ds : List Folded). AreOpen (setting_of name core) some ds) lawful.lawful.gives (history_open (setting_of name core) some lawful.lawful.history)

  come : HaveCome (shape_of core).shards cs
  come from place to kept from_low to_low two at due =
      let sent : slice_get (catalogue_of from core).run.sent place ≡ Some kept = ap (λ (c : Catalogue). slice_get c.run.sent place) (is_there from from_low) ∙ at in
      let new : is_new_round to from kept.epoch kept.round core ≡ false = quiet.came from place to kept from_low to_low two sent in
      by_new (ap (λ (c : Catalogue). is_due (record { epoch = kept.epoch; round = kept.round; from = from }) c && (is_none (told_by kept.epoch kept.round c.run.gots from) && not (list_any (is_got from kept.epoch kept.round) (group_of to core).waiting))) (sym (is_there to to_low))
      ∙ new)
    where
      by_new : (is_due (record { epoch = kept.epoch; round = kept.round; from = from }) (forget (shape_of core) to (catalogue_at cs to))
          && (is_none (told_by kept.epoch kept.round (catalogue_at cs to).got from) && not (list_any (is_got from kept.epoch kept.round) (group_of to core).waiting))) ≡ false
          → IsSome (told_by kept.epoch kept.round (catalogue_at cs to).got from)
      by_new e = some_of (told_by kept.epoch kept.round (catalogue_at cs to).got from) (last (is_none (told_by kept.epoch kept.round (catalogue_at cs to).got from)) all)
        where
          here : is_due (record { epoch = kept.epoch; round = kept.round; from = from }) (forget (shape_of core) to (catalogue_at cs to)) ≡ true
          here = due_same (shape_of core) to (catalogue_at cs to) (record { epoch = kept.epoch; round = kept.round; from = from }) ∙ due

          none_waits : list_any (is_got from kept.epoch kept.round) (group_of to core).waiting ≡ false
          none_waits = ap (λ (es : List Entry). list_any (is_got from kept.epoch kept.round) es) (lists to to_low)

          all : (true && (is_none (told_by kept.epoch kept.round (catalogue_at cs to).got from) && not false)) ≡ false
          all = (λ i. sym here i && (is_none (told_by kept.epoch kept.round (catalogue_at cs to).got from) && not (sym none_waits i))) ∙ e

          last : (b : Bool) → (true && (b && not false)) ≡ false → b ≡ false
          last true f = absurd (cc f)
          last false f = refl

  begun : NoneBegun (shape_of core).shards cs
  begun h s low other swept told =
      let its : is_enter_due h core ≡ false = quiet.due h low in
      let both : true ≡ false = sym due ∙ its in
      cc both
    where
      c : Catalogue
      c = catalogue_of h core

      has : has_begun ((catalogue_at cs h).epoch + 1) (forget (shape_of core) h (catalogue_at cs h)).run ≡ true
      has = begun_by (catalogue_at cs h).got (record { epoch = (catalogue_at cs h).epoch + 1; round = 0; from = s }) ((catalogue_at cs h).epoch + 1) refl refl told

      same_true : (x y : ℕ) → x ≡ y → (x == y) ≡ true
      same_true x y e = grind (arith, tests, e)

      there : (not (h == 0) && (catalogue_at cs h).swept == (catalogue_at cs h).epoch)
          && (has_begun ((catalogue_at cs h).epoch + 1) (forget (shape_of core) h (catalogue_at cs h)).run && not (list_any (enters ((catalogue_at cs h).epoch + 1)) (group_of h core).waiting)) ≡ true
      there =
          λ i. (not (ne_eqb h 0 other i) && same_true (catalogue_at cs h).swept (catalogue_at cs h).epoch swept i)
          && (has i && not (ap (λ (es : List Entry). list_any (enters ((catalogue_at cs h).epoch + 1)) es) (lists h low) i))

      due : is_enter_due h core ≡ true
      due = ap (λ (x : Catalogue). (not (h == 0) && x.swept == x.epoch) && (has_begun (x.epoch + 1) x.run && not (list_any (enters (x.epoch + 1)) (group_of h core).waiting))) (is_there h low) ∙ there

  ahead : (k : ℕ) → k < (shape_of core).shards → (catalogue_at cs k).epoch ≤ (catalogue_at cs 0).epoch
  ahead k low =
      let one : slice_index (store_of cs).epochs k ≤ slice_index (store_of cs).epochs 0 = valid.epochs.not_ahead k (let e = many in omega (arith, low, e)) in
      let a = epoch_at k low in
      let b = epoch_at 0 some in
      omega (arith, one, a, b)
    where
      many : length (store_of cs).epochs ≡ (shape_of core).shards
      many = epochs-length cs ∙ lawful.folded.shards

      epoch_at : (j : ℕ) → j < (shape_of core).shards → slice_index (store_of cs).epochs j ≡ (catalogue_at cs j).epoch
      epoch_at j l = epoch-at cs j (let e = lawful.folded.shards in omega (arith, l, e))

  -- no shard has an epoch that it has not swept
  pub all_swept : (k : ℕ) → k < (shape_of core).shards → (catalogue_at cs k).swept < (catalogue_at cs k).epoch → ⊥
  all_swept k low run =
      no_run (setting_of name core) some cs machine.0 machine.1
      (right_made (layout_of (shape_of core).shards some) machine.0 machine.1.followed.made).clocks
      (below.step (layout_of (shape_of core).shards some) machine.0 machine.1.followed.made) (below.on (layout_of (shape_of core).shards some) machine.0 machine.1.followed.made)
      unfinished come begun ahead k low run
