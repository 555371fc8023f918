-- Enters that are proposed: that of a Delete, and that of a shard to which round 0 of the next epoch has come.
use Rattle.std.proofs.Common.{◌≡◌, sym, ap, subst, ◌⊎◌, inl, inr, ℕ, zero, suc, ◌+◌, ◌<◌, ◌≤◌, ◌==◌, ◌&&◌, ◌||◌, Bool, true, false, not, List, [], ◌∷◌, length, refl, arith, nat_lt, slice_index}
use Rattle.std.proofs.lemmas.Bool.{and_from, and_parts, cases_lt, eq-eqb, eqb-true, ltb-false}
use Rattle.std.proofs.lemmas.Grind.{common_steps}
use Rattle.std.specs.List.{list_any}
use Rattle.std.specs.Prelude.{Contains}
use Rattle.hs_core_words.specs.Entering.{has_begun, is_enter_due}
use Rattle.hs_core_words.specs.Looking.{catalogue_of, group_of, shape_of}
use Rattle.hs_core_words.specs.State.{Core}
use Rattle.hs_deletion.specs.Following.{IsSent}
use Rattle.hs_deletion.specs.Machine.{Layout}
use Rattle.hs_deletion.proofs.ClockLemmas.{epoch_of_sent}
use Rattle.hs_effects.specs.Lawful.{IsLawful}
use Rattle.hs_effects.specs.Taking.{setting_of}
use Rattle.hs_effects.proofs.FoldLemmas.{memory_at}
use Rattle.hs_entry.specs.declared.entry.Entry.TheVariants as kind
use Rattle.hs_fold.specs.Lawful.{Deed}
use Rattle.hs_fold.specs.Runs.Facts.{Catalogue as Folded, empty_catalogue}
use Rattle.hs_fold.specs.Runs.Fits.{HasSent, catalogue_at}
use Rattle.hs_fold.specs.Runs.History.{FitAll, follow_all, no_entries}
use Rattle.hs_fold.specs.Runs.Opened.{store_of}
use Rattle.hs_fold.specs.Runs.Rounds.{may_enter}
use Rattle.hs_fold.specs.Runs.Sound.{AreSent}
use Rattle.hs_fold.specs.Shards.Setting.{Setting}
use Rattle.hs_joint.specs.Along.{KeepFewRecords}
use Rattle.hs_joint.specs.Seen.{layout_of, seen_round}
use Rattle.hs_joint.proofs.EnterLemmas.{swept-at}
use Rattle.hs_joint.proofs.HistoryLemmas.{GoesAll, history_goes, shape_few, shape_some}
use Rattle.hs_joint.proofs.ListedLemmas.{epoch-at, epochs-length}
use Rattle.hs_joint.proofs.StandLemmas.{right, was_sent}
use Rattle.hs_laws.specs.Valid.{AreEpochsInStep, least_epoch}
use Rattle.hs_laws.proofs.EpochLemmas.{least_epoch-at, none_below_from_least}
use Rattle.hs_limits.specs.declared.address.Address.{Address}
use Rattle.hs_limits.specs.Shape.{IsShape}
use Rattle.hs_memory.specs.Forget.{forget}
use Rattle.hs_model.specs.Inner.{none_below}
use Rattle.hs_model.specs.Inner.{may_enter as store_may_enter}
use Rattle.hs_model.specs.Store.{Store}
use Rattle.hs_model.proofs.Members.{Member, contains_from_member, member_from_contains}
use Rattle.hs_replica.specs.Kinds.{enters}
use Rattle.hs_rounds.specs.declared.body.RoundBody.{RoundBody}
use Rattle.hs_rounds.specs.declared.place.Place.{Place}
use Rattle.hs_rounds.specs.Rounds.{GotList}
use Rattle.hs_shard.specs.Facts.{Catalogue}
use Rattle.hs_waiting.specs.Waits.{EnterWaits}
use Rattle.hs_waiting.proofs.LoggedLemmas.{history_logged}

-- ---- a shard may enter

or_left : (a b : Bool) → a ≡ true → (a || b) ≡ true
or_left true b e = refl
or_left false b e = absurd (cc e)

or_right : (a b : Bool) → b ≡ true → (a || b) ≡ true
or_right true b e = refl
or_right false b e = e

may_by : (s : Store) (k : ℕ) → slice_index s.swept k ≡ slice_index s.epochs k → slice_index s.epochs k ≤ least_epoch s → (k ≡ 0) ⊎ (slice_index s.epochs 0 ≡ slice_index s.epochs k + 1) → store_may_enter s k ≡ true
may_by s k swept least behind =
    and_from ((slice_index s.swept k == slice_index s.epochs k) && none_below s (slice_index s.epochs k)) (k == 0 || slice_index s.epochs 0 == slice_index s.epochs k + 1)
    (and_from (slice_index s.swept k == slice_index s.epochs k) (none_below s (slice_index s.epochs k)) (eq-eqb (slice_index s.swept k) (slice_index s.epochs k) swept) (none_below_from_least s (slice_index s.epochs k) least))
    (either behind)
  where
    either : (k ≡ 0) ⊎ (slice_index s.epochs 0 ≡ slice_index s.epochs k + 1) → (k == 0 || slice_index s.epochs 0 == slice_index s.epochs k + 1) ≡ true
    either (inl e) = or_left (k == 0) (slice_index s.epochs 0 == slice_index s.epochs k + 1) (eq-eqb k 0 e)
    either (inr e) = or_right (k == 0) (slice_index s.epochs 0 == slice_index s.epochs k + 1) (eq-eqb (slice_index s.epochs 0) (slice_index s.epochs k + 1) e)

fold_may : (c : Folded) (epoch : ℕ) → epoch ≡ c.epoch + 1 → c.swept ≡ c.epoch → may_enter c epoch ≡ true
fold_may c epoch next swept = and_from (epoch == c.epoch + 1) (c.swept == c.epoch) (eq-eqb epoch (c.epoch + 1) next) (eq-eqb c.swept c.epoch swept)

-- what a shard's fold says of its epoch, the store says
module _ (cs : List Folded) (k : ℕ) (l : k < length cs) where
  pub epoch_here : slice_index (store_of cs).epochs k ≡ (catalogue_at cs k).epoch
  epoch_here = epoch-at cs k l

  pub swept_here : slice_index (store_of cs).swept k ≡ (catalogue_at cs k).swept
  swept_here = swept-at cs k l

  pub some_here : k < length (store_of cs).epochs
  some_here = let n = epochs-length cs in omega (arith, n, l)

  pub lowest_here : least_epoch (store_of cs) ≤ (catalogue_at cs k).epoch
  lowest_here = let low = least_epoch-at (store_of cs) k some_here in let at = epoch_here in omega (arith, low, at)

-- ---- a Delete

pub delete_waits : (cs : List Folded) → 0 < length cs → AreEpochsInStep (store_of cs) → nat_lt (slice_index (store_of cs).swept 0) (slice_index (store_of cs).epochs 0) ≡ false
    → EnterWaits cs 0 (slice_index (store_of cs).epochs 0 + 1)
delete_waits cs some step idle =
    let here = some_here cs 0 some in
    let over = ltb-false (slice_index (store_of cs).swept 0) (slice_index (store_of cs).epochs 0) idle in
    let under = step.swept_not_ahead 0 here in
    let least = step.swept_entered 0 here in
    let e = epoch_here cs 0 some in
    let w = swept_here cs 0 some in
    inr (
      fold_may (catalogue_at cs 0) (slice_index (store_of cs).epochs 0 + 1) (omega (arith, e)) (omega (arith, over, under, e, w)),
      may_by (store_of cs) 0 (omega (arith, over, under)) (omega (arith, over, least)) (inl refl),
    )

-- ---- round 0 of the next epoch has come

any_member : (test : Place × RoundBody → Bool) (es : GotList) → list_any test es ≡ true → (x : Place × RoundBody) × Member x es × (test x ≡ true)
any_member test [] e = absurd (cc e)
any_member test (x ∷ es) e = go (test x) refl e (any_member test es)
  where
    go : (b : Bool) → test x ≡ b → (b || list_any test es) ≡ true → (list_any test es ≡ true → (y : Place × RoundBody) × Member y es × (test y ≡ true)) → (y : Place × RoundBody) × Member y (x ∷ es) × (test y ≡ true)
    go true is f ih = (x, inl refl, is)
    go false is f ih = let r = ih f in (r.0, inr r.1, r.2)

pub past : (cs : List Folded) (k : ℕ) → length cs ≤ k → catalogue_at cs k ≡ empty_catalogue
past [] k l = refl
past (c ∷ cs) zero l = absurd (omega (arith, l))
past (c ∷ cs) (suc k) l = past cs k (grind (arith, common_steps, l))

-- one that has sent a round is a shard
sender_low : (cs : List Folded) (from to epoch round : ℕ) (told : RoundBody) → HasSent (catalogue_at cs from).sent to epoch round told → from < length cs
sender_low cs from to epoch round told h = elim (cases_lt from (length cs)) [ inl l ↦ l | inr high ↦ absurd (nothing high) ]
  where
    nothing : length cs ≤ from → ⊥
    nothing high =
        let among : Contains empty_catalogue.sent h.kept = subst (λ (c : Folded). Contains c.sent h.kept) (past cs from high) h.among in
        member_from_contains h.kept [] among

module _ (set : Setting) (history : List Deed) (shape : IsShape set.shape) (fit : FitAll set (no_entries set) history) (records : KeepFewRecords set (no_entries set) history) where
  abbrev cs' : List Folded
  cs' = follow_all set (no_entries set) history

  abbrev some' : 0 < set.shape.shards
  some' = shape_some set.shape shape

  abbrev L : Layout
  L = layout_of set.shape.shards (shape_some set.shape shape)

  g : GoesAll set (shape_some set.shape shape) (no_entries set) history
  g = history_goes set (shape_some set.shape shape) (shape_few set.shape shape) history fit records

  -- a shard from which a round has come has entered its epoch
  has_entered : (shard : ℕ) → shard < set.shape.shards → (x : Place × RoundBody) → Member x (catalogue_at (follow_all set (no_entries set) history) shard).got
      → (x.0.from < set.shape.shards) × (x.0.epoch ≤ (catalogue_at (follow_all set (no_entries set) history) x.0.from).epoch)
  has_entered shard low x m =
      let all : AreSent cs' shard = history_logged set history shard shape fit records low in
      let at = contains_from_member x (catalogue_at cs' shard).got m in
      let h : HasSent (catalogue_at cs' x.0.from).sent shard x.0.epoch x.0.round x.1 =
      subst (λ (y : Place × RoundBody). HasSent (catalogue_at cs' y.0.from).sent shard y.0.epoch y.0.round y.1) at.2 (all at.0 x at.1) in
      let each = g.standing.joined.each in
      let first = sender_low cs' x.0.from shard x.0.epoch x.0.round x.1 h in
      let within : x.0.from < set.shape.shards = omega (arith, first, each) in
      let s : IsSent L g.later.states shard x.0.from x.0.epoch x.0.round (seen_round x.0.round x.1) =
      was_sent set some' cs' g.later g.standing x.0.from within shard x.0.epoch x.0.round x.1 h in
      let up = epoch_of_sent L g.later.states (right set some' cs' g.later g.standing).clocks x.0.from s.row within s.sent in
      let is = s.of_epoch in
      let here : (catalogue_at cs' x.0.from).epoch ≡ (g.later.states x.0.from).epoch = (g.standing.joined.followed.each x.0.from within).epoch in
      (within, omega (arith, up, is, here))

  -- so the next shard may enter where it has swept
  pub next_waits : (shard : ℕ) → shard < set.shape.shards → (catalogue_at (follow_all set (no_entries set) history) shard).swept ≡ (catalogue_at (follow_all set (no_entries set) history) shard).epoch
      → (x : Place × RoundBody) → Member x (catalogue_at (follow_all set (no_entries set) history) shard).got → x.0.epoch ≡ (catalogue_at (follow_all set (no_entries set) history) shard).epoch + 1
      → EnterWaits (follow_all set (no_entries set) history) shard ((catalogue_at (follow_all set (no_entries set) history) shard).epoch + 1)
  next_waits shard low swept x m next =
      let each = g.standing.joined.each in
      let l : shard < length cs' = omega (arith, low, each) in
      let come = has_entered shard low x m in
      let come0 = come.0 in
      let come1 = come.1 in
      let f : x.0.from < length cs' = omega (arith, come0, each) in
      let step = g.valid.epochs in
      let here = some_here cs' shard l in
      let e = epoch_here cs' shard l in
      let w = swept_here cs' shard l in
      let fe = epoch_here cs' x.0.from f in
      let ahead = step.not_ahead x.0.from (some_here cs' x.0.from f) in
      let near = step.not_behind shard here in
      let least = step.swept_entered shard here in
      inr (
        fold_may (catalogue_at cs' shard) ((catalogue_at cs' shard).epoch + 1) refl swept,
        may_by (store_of cs') shard (omega (arith, e, w, swept)) (omega (arith, e, w, swept, least)) (inr (omega (arith, come1, next, e, fe, ahead, near))),
      )

-- ---- in a core

-- what a due Enter tells of a catalogue
abbrev IsBegun : Catalogue → Type 0
IsBegun c = (c.swept ≡ c.epoch) × (has_begun (c.epoch + 1) c.run ≡ true)

due_parts : (shard : ℕ) (core : Core) → is_enter_due shard core ≡ true → IsBegun (catalogue_of shard core)
due_parts shard core due =
    let c : Catalogue = catalogue_of shard core in
    let both = and_parts (not (shard == 0) && c.swept == c.epoch) (has_begun (c.epoch + 1) c.run && not (list_any (enters (c.epoch + 1)) (group_of shard core).waiting)) due in
    let one = and_parts (not (shard == 0)) (c.swept == c.epoch) both.0 in
    let two = and_parts (has_begun (c.epoch + 1) c.run) (not (list_any (enters (c.epoch + 1)) (group_of shard core).waiting)) both.1 in
    (eqb-true c.swept c.epoch one.1, two.0)

pub due_waits : (name : List ℕ → Address) (cs : List Folded) (core : Core) → IsLawful name core cs → (shard : ℕ) → shard < (shape_of core).shards → is_enter_due shard core ≡ true
    → EnterWaits cs shard ((catalogue_of shard core).epoch + 1)
due_waits name cs core its shard low due =
    subst (λ n. EnterWaits cs shard (n + 1)) (sym (ap (λ (c : Catalogue). c.epoch) mem))
    (subst (λ ds. IsBegun (forget (shape_of core) shard (catalogue_at ds shard)) → EnterWaits ds shard ((catalogue_at ds shard).epoch + 1)) its.lawful.gives there
    (subst (λ (c : Catalogue). IsBegun c) mem (due_parts shard core due)))
  where
    mem : catalogue_of shard core ≡ forget (shape_of core) shard (catalogue_at cs shard)
    mem = memory_at name cs core shard (kind.View 0) its.folded low

    ds' : List Folded
    ds' = follow_all (setting_of name core) (no_entries (setting_of name core)) its.lawful.history

    there : IsBegun (forget (shape_of core) shard (catalogue_at ds' shard)) → EnterWaits ds' shard ((catalogue_at ds' shard).epoch + 1)
    there begun =
        let d : Folded = catalogue_at ds' shard in
        let x = any_member (λ (e : Place × RoundBody). e.0.epoch == d.epoch + 1 && e.0.round == 0) d.got begun.1 in
        next_waits (setting_of name core) its.lawful.history its.folded.valid its.lawful.fits its.lawful.records shard low begun.0 x.0 x.1
        (eqb-true x.0.0.epoch (d.epoch + 1) (and_parts (x.0.0.epoch == d.epoch + 1) (x.0.0.round == 0) x.2).0)
