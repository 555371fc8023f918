-- Where each round that is kept has come, and no Enter is due, no shard is in a run.
use Rattle.std.proofs.Common.{◌≡◌, ◌∙◌, ◌⊎◌, inl, inr, sym, ap, subst, ℕ, zero, suc, ◌+◌, ◌-◌, ◌<◌, ◌≤◌, ◌==◌, ◌&&◌, ◌||◌, Bool, true, false, List, [], ◌∷◌, Option, Some, None, IsSome, refl, arith, tests, is_some, replicate, slice_get, nat_lt, cond}
use Rattle.std.specs.List.{list_all, range_with_len}
use Rattle.std.specs.Prelude.{slice_set}
use Rattle.hs_deletion.proofs.LabelLemmas.{label_rises}
use Rattle.hs_deletion.specs.Clocks.{AreClocksRight, IsIdle, IsRunning, label_of}
use Rattle.hs_deletion.specs.Following.{IsFollowing}
use Rattle.hs_deletion.specs.History.{MayComplete, MayEnter}
use Rattle.hs_deletion.specs.Machine.{Layout, Machine, ShardState}
use Rattle.hs_deletion.specs.Promises.{AreInStep, CanGoOn, GoesOn}
use Rattle.hs_entry.specs.declared.entry.Entry.{Entry}
use Rattle.hs_entry.specs.declared.entry.Entry.TheVariants as kind
use Rattle.hs_fold.proofs.Runs.RoundLemmas.{all-ended}
use Rattle.hs_fold.specs.Lawful.{Deed}
use Rattle.hs_fold.specs.Runs.Catalogue.{apply}
use Rattle.hs_fold.specs.Runs.Facts.{Catalogue, empty_catalogue}
use Rattle.hs_fold.specs.Runs.Fits.{catalogue_at}
use Rattle.hs_fold.specs.Runs.History.{applied, follow, follow_all, no_entries}
use Rattle.hs_fold.specs.Runs.Rounds.{advanced, enter_epoch, is_accepted, is_complete, is_due, is_running, log_got, may_enter}
use Rattle.hs_fold.specs.Shards.Setting.{Setting, shard_in}
use Rattle.hs_joint.specs.Joined.{AreJoined, IsOfRow}
use Rattle.hs_joint.specs.Seen.{layout_of, seen}
use Rattle.hs_rounds.specs.declared.body.RoundBody.{RoundBody}
use Rattle.hs_rounds.specs.declared.place.Place.{Place}
use Rattle.hs_rounds.specs.declared.sending.SentRound.{SentRound}
use Rattle.hs_rounds.specs.Rounds.{have_told, told_by}
use Rattle.hs_waiting.proofs.EpochLemmas.{IsStill, client_still}

pub le_or : (m n : ℕ) → (m ≤ n) ⊎ (n < m)
le_or zero n = inl (omega arith)
le_or (suc m) zero = inr (omega arith)
le_or (suc m) (suc n) = go (le_or m n)
  where
    go : (m ≤ n) ⊎ (n < m) → (suc m ≤ suc n) ⊎ (suc n < suc m)
    go (inl h) = inl (omega (arith, h))
    go (inr h) = inr (omega (arith, h))

-- ---- no open round is complete

set_at : (cs : List Catalogue) (g k : ℕ) (d : Catalogue) → (catalogue_at (slice_set cs g d) k ≡ d) ⊎ (catalogue_at (slice_set cs g d) k ≡ catalogue_at cs k)
set_at [] g k d = inr refl
set_at (c ∷ cs) zero zero d = inl refl
set_at (c ∷ cs) zero (suc k) d = inr refl
set_at (c ∷ cs) (suc g) zero d = inr refl
set_at (c ∷ cs) (suc g) (suc k) d = set_at cs g k d

none_at : (n k : ℕ) → catalogue_at (replicate n empty_catalogue) k ≡ empty_catalogue
none_at zero k = refl
none_at (suc n) zero = refl
none_at (suc n) (suc k) = none_at n k

still_open : (set : Setting) (shard : ℕ) (c : Catalogue) (d : Catalogue) → IsStill (shard_in set shard) c d → is_complete set.shape.shards c ≡ false → is_complete set.shape.shards d ≡ false
still_open set shard c d (epoch, swept, round, got) h = (λ i. nat_lt (swept i) (epoch i) && have_told set.shape.shards (epoch i) (round i) (got i)) ∙ h

module _ (set : Setting) (some : 0 < set.shape.shards) where
  abbrev n : ℕ
  n = set.shape.shards

  applied_open : (shard : ℕ) (c : Catalogue) (number : ℕ) (entry : Entry) → is_complete set.shape.shards c ≡ false → is_complete set.shape.shards (apply (shard_in set shard) c (number, entry)) ≡ false
  applied_open shard c number (kind.View view) h = h
  applied_open shard c number (kind.Block op least bytes) h = still_open set shard c (apply (shard_in set shard) c (number, kind.Block op least bytes)) (client_still (shard_in set shard) c number (kind.Block op least bytes) tt) h
  applied_open shard c number (kind.Mark op least block address) h = still_open set shard c (apply (shard_in set shard) c (number, kind.Mark op least block address)) (client_still (shard_in set shard) c number (kind.Mark op least block address) tt) h
  applied_open shard c number (kind.Root op held address key) h = still_open set shard c (apply (shard_in set shard) c (number, kind.Root op held address key)) (client_still (shard_in set shard) c number (kind.Root op held address key) tt) h
  applied_open shard c number (kind.Drop op key) h = still_open set shard c (apply (shard_in set shard) c (number, kind.Drop op key)) (client_still (shard_in set shard) c number (kind.Drop op key) tt) h
  applied_open shard c number (kind.Enter op epoch) h = go (may_enter c epoch)
    where
      go : (b : Bool) → is_complete n (cond b (advanced n (enter_epoch n c)) c) ≡ false
      go true = all-ended n (enter_epoch n c) some
      go false = h
  applied_open shard c number (kind.Got sender epoch round total deltas) h = go (is_accepted n c place)
    where
      place : Place
      place = record { epoch = epoch; round = round; from = sender }

      told : RoundBody
      told = record { total = total; deltas = deltas }

      go : (b : Bool) → is_complete n (cond b (advanced n (log_got (record { epoch = epoch; round = round; from = sender }) (record { total = total; deltas = deltas }) c)) c) ≡ false
      go true = all-ended n (log_got place told c) some
      go false = h
  applied_open shard c number (kind.Base view epoch swept round frames) h = h
  applied_open shard c number (kind.KeptBlock born mark flags count bytes) h = h
  applied_open shard c number (kind.KeptRoot created dropped counted address key) h = h
  applied_open shard c number (kind.KeptRound way other epoch round total deltas) h = h

  -- of any shard
  abbrev pub AreOpen : List Catalogue → Type 0
  AreOpen cs = (k : ℕ) → is_complete set.shape.shards (catalogue_at cs k) ≡ false

  follow_open : (cs : List Catalogue) (deeds : List Deed) → AreOpen cs → AreOpen (follow_all set cs deeds)
  follow_open cs [] h = h
  follow_open cs (deed ∷ deeds) h = follow_open (follow set cs deed) deeds (λ k. by_place k (set_at cs deed.shard k (applied set cs deed)))
    where
      by_place : (k : ℕ) → (catalogue_at (follow set cs deed) k ≡ applied set cs deed) ⊎ (catalogue_at (follow set cs deed) k ≡ catalogue_at cs k) → is_complete n (catalogue_at (follow set cs deed) k) ≡ false
      by_place k (inl is) = ap (λ (c : Catalogue). is_complete n c) is ∙ applied_open deed.shard (catalogue_at cs deed.shard) deed.number deed.entry (h deed.shard)
      by_place k (inr is) = ap (λ (c : Catalogue). is_complete n c) is ∙ h k

  pub history_open : (history : List Deed) → AreOpen (follow_all set (no_entries set) history)
  history_open history = follow_open (no_entries set) history (λ k. ap (λ (c : Catalogue). is_complete n c) (none_at n k))

-- ---- tests

all_range : (test : ℕ → Bool) (k n : ℕ) → ((i : ℕ) → k ≤ i → i < k + n → test i ≡ true) → list_all test (range_with_len k n) ≡ true
all_range test k zero h = refl
all_range test k (suc n) h = both (test k) (list_all test (range_with_len (k + 1) n)) (h k (omega arith) (omega arith)) (all_range test (k + 1) n (λ i low high. h i (omega (arith, low)) (omega (arith, high))))
  where
    both : (a b : Bool) → a ≡ true → b ≡ true → a && b ≡ true
    both a b e f = (λ i. e i && f i)

same_true : (x : ℕ) → (x == x) ≡ true
same_true x = grind (arith, tests)

less_true : (a b : ℕ) → a < b → nat_lt a b ≡ true
less_true a b h = grind (arith, tests, h)

due_open : (c : Catalogue) → c.swept < c.epoch → is_due c c.epoch c.round ≡ true
due_open c run = (λ i. less_true c.swept c.epoch run i && (same_true c.epoch i && (same_true c.round i || c.round == c.round + 1)) || c.epoch == c.epoch + 1 && c.round == 0)

or_true : (a b : Bool) → b ≡ true → a || b ≡ true
or_true true b e = refl
or_true false b e = e

due_next : (c : Catalogue) → is_due c (c.epoch + 1) 0 ≡ true
due_next c = or_true (is_running c && (c.epoch + 1 == c.epoch && (0 == c.round || 0 == c.round + 1))) (c.epoch + 1 == c.epoch + 1 && 0 == 0) (ap (λ b. b && true) (same_true (c.epoch + 1)))

is_some_true : {X : Type 0} (o : Option X) → IsSome o → is_some o ≡ true
is_some_true None h = absurd (cc h)
is_some_true (Some x) h = refl

-- ---- no shard is in a run

-- each round that a shard keeps as sent, and that may come at another, has come there
abbrev pub HaveCome : ℕ → List Catalogue → Type 0
HaveCome n cs = (s place h : ℕ) (kept : SentRound) → s < n → h < n → place < 2 → slice_get (catalogue_at cs s).sent place ≡ Some kept → is_due (catalogue_at cs h) kept.epoch kept.round ≡ true
    → IsSome (told_by kept.epoch kept.round (catalogue_at cs h).got s)

-- no shard but the first that has swept its epoch has round 0 of the next
abbrev pub NoneBegun : ℕ → List Catalogue → Type 0
NoneBegun n cs = (h s : ℕ) → h < n → (h ≡ 0 → ⊥) → (catalogue_at cs h).swept ≡ (catalogue_at cs h).epoch → IsSome (told_by ((catalogue_at cs h).epoch + 1) 0 (catalogue_at cs h).got s) → ⊥

module _ (set : Setting) (some : 0 < set.shape.shards) (cs : List Catalogue) (m : Machine) (joined : AreJoined set some cs m) (clocks : AreClocksRight (layout_of set.shape.shards some) m.states)
    (steps : AreInStep (layout_of set.shape.shards some) m) (goes : GoesOn (layout_of set.shape.shards some) m) (unfinished : AreOpen set some cs)
    (come : HaveCome set.shape.shards cs) (begun : NoneBegun set.shape.shards cs) (ahead : (k : ℕ) → k < set.shape.shards → (catalogue_at cs k).epoch ≤ (catalogue_at cs 0).epoch) where
  abbrev L : Layout
  L = layout_of set.shape.shards some

  abbrev s : ℕ → ShardState
  s = m.states

  follows : (k : ℕ) → k < set.shape.shards → IsFollowing (layout_of set.shape.shards some) m k (seen k (catalogue_at cs k))
  follows k low = joined.followed.each k low

  -- a row that is among the last two of a shard is kept
  record Kept (k row : ℕ) : Type 0 where
    kept : SentRound
    place : ℕ
    two : place < 2
    at : slice_get (catalogue_at cs k).sent place ≡ Some kept
    epoch : (label_of (layout_of set.shape.shards some) m.states row).epoch ≡ kept.epoch
    round : (label_of (layout_of set.shape.shards some) m.states row).round ≡ kept.round

  row_kept : (k row : ℕ) → k < set.shape.shards → row < (m.states k).sent → (m.states k).sent ≤ row + 2 → Kept k row
  row_kept k row low sent two =
      let place : ℕ = (s k).sent - row - 1 in
      let there = (joined.last k low).there place (omega (arith, sent, two)) (omega (arith, sent, two)) in
      let of : IsOfRow L m.states (s k).sent place there.0 = (joined.last k low).rows place there.0 there.1 in
      let same : of.row ≡ row = (let b = of.back in omega (arith, b, sent, two)) in
      record {
        kept = there.0;
        place = place;
        two = omega (arith, sent, two);
        at = there.1;
        epoch = subst (λ (r : ℕ). (label_of L m.states r).epoch ≡ there.0.epoch) same of.epoch;
        round = subst (λ (r : ℕ). (label_of L m.states r).round ≡ there.0.round) same of.round;
      }

  -- a row that a shard may complete would be complete
  none_complete : (h : ℕ) → MayComplete (layout_of set.shape.shards some) m h → ⊥
  none_complete h may = by_phase (clocks h may.within).phase
    where
      c : Catalogue
      c = catalogue_at cs h

      by_run : IsRunning L m.states (s h) → ⊥
      by_run run =
          let f = follows h may.within in
          let unswept : (catalogue_at cs h).swept < (catalogue_at cs h).epoch = (let e = f.epoch in let w = f.swept in let u = run.unswept in omega (arith, e, w, u)) in
          let told : (i : ℕ) → i < set.shape.shards → is_some (told_by (catalogue_at cs h).epoch (catalogue_at cs h).round (catalogue_at cs h).got i) ≡ true = λ i low. (
          let kept : Kept i (s h).completed = row_kept i (s h).completed low (may.sent i low) (steps.sent h i may.within low) in
          let e : kept.kept.epoch ≡ (catalogue_at cs h).epoch = (let a = kept.epoch in let b = run.of_epoch in let d = f.epoch in omega (arith, a, b, d)) in
          let r : kept.kept.round ≡ (catalogue_at cs h).round = (let a = kept.round in let b = run.of_round in let w = run.unswept in let d = f.round (omega (arith, w)) in omega (arith, a, b, d)) in
          let due : is_due (catalogue_at cs h) kept.kept.epoch kept.kept.round ≡ true = (λ j. is_due (catalogue_at cs h) (e j) (r j)) ∙ due_open (catalogue_at cs h) unswept in
          (λ j. is_some (told_by (sym e j) (sym r j) (catalogue_at cs h).got i)) ∙ is_some_true (told_by kept.kept.epoch kept.kept.round (catalogue_at cs h).got i) (come i kept.place h kept.kept low may.within kept.two kept.at due)
          ) in
          let all : have_told set.shape.shards (catalogue_at cs h).epoch (catalogue_at cs h).round (catalogue_at cs h).got ≡ true =
          all_range (λ i. is_some (told_by (catalogue_at cs h).epoch (catalogue_at cs h).round (catalogue_at cs h).got i)) 0 set.shape.shards (λ i low high. told i (omega (arith, high))) in
          let whole : is_complete set.shape.shards (catalogue_at cs h) ≡ true = (λ j. less_true (catalogue_at cs h).swept (catalogue_at cs h).epoch unswept j && all j) in
          let both : true ≡ false = sym whole ∙ unfinished h in
          cc both

      by_phase : IsRunning L m.states (s h) ⊎ IsIdle L m.states (s h) → ⊥
      by_phase (inl run) = by_run run
      by_phase (inr idle) = let sent = may.sent h may.within in let level = idle.level in omega (arith, sent, level)

  -- an Enter that may come would be due
  none_enters : (g h : ℕ) → g < set.shape.shards → (m.states g).swept < (m.states g).epoch → MayEnter (layout_of set.shape.shards some) m h → (m.states g).epoch ≡ (m.states h).epoch + 1 → ⊥
  none_enters g h lg run may up = by_phases (clocks h may.within).phase (clocks g lg).phase
    where
      by_phases : IsRunning L m.states (s h) ⊎ IsIdle L m.states (s h) → IsRunning L m.states (s g) ⊎ IsIdle L m.states (s g) → ⊥
      by_phases (inl running) other = let a = running.unswept in let b = may.is_swept in omega (arith, a, b)
      by_phases (inr idle) (inr other) = let a = other.is_swept in omega (arith, a, run)
      by_phases (inr idle) (inl running) =
          let later : (s h).completed ≤ (s g).completed = by_order (le_or (s h).completed (s g).completed) in
          let ahead_of : (s h).completed < (s g).sent = (let a = running.ahead in omega (arith, later, a)) in
          let kept : Kept g (s h).completed = row_kept g (s h).completed lg ahead_of (steps.sent h g may.within lg) in
          let f = follows h may.within in
          let e : kept.kept.epoch ≡ (catalogue_at cs h).epoch + 1 = (let a = kept.epoch in let b = idle.of_epoch in let d = f.epoch in omega (arith, a, b, d)) in
          let r : kept.kept.round ≡ 0 = (let a = kept.round in let b = idle.of_round in omega (arith, a, b)) in
          let due : is_due (catalogue_at cs h) kept.kept.epoch kept.kept.round ≡ true = (λ j. is_due (catalogue_at cs h) (e j) (r j)) ∙ due_next (catalogue_at cs h) in
          let told : IsSome (told_by ((catalogue_at cs h).epoch + 1) 0 (catalogue_at cs h).got g) =
          subst (λ (x : ℕ). IsSome (told_by x 0 (catalogue_at cs h).got g)) e (subst (λ (x : ℕ). IsSome (told_by kept.kept.epoch x (catalogue_at cs h).got g)) r (come g kept.place h kept.kept lg may.within kept.two kept.at due)) in
          begun h g may.within not_first (let a = f.epoch in let b = f.swept in let d = may.is_swept in omega (arith, a, b, d)) told
        where
          by_order : ((s h).completed ≤ (s g).completed) ⊎ ((s g).completed < (s h).completed) → (s h).completed ≤ (s g).completed
          by_order (inl le) = le
          by_order (inr less) = absurd (elim (label_rises L m.states (s g).completed ((s h).completed - (s g).completed - 1) (s h).completed (omega (arith, less))) [
            | inl x ↦ (let a = idle.of_epoch in let b = running.of_epoch in omega (arith, x, a, b, up))
            | inr x ↦ (let a = idle.of_round in let y = x.1 in omega (arith, y, a))
          ])

          not_first : h ≡ 0 → ⊥
          not_first zero_is =
              let a = ahead g lg in
              let b = (follows g lg).epoch in
              let d = (follows h may.within).epoch in
              let e : (catalogue_at cs h).epoch ≡ (catalogue_at cs 0).epoch = ap (λ k. (catalogue_at cs k).epoch) zero_is in
              omega (arith, a, b, d, e, up)

  pub no_run : (g : ℕ) → g < set.shape.shards → (catalogue_at cs g).swept < (catalogue_at cs g).epoch → ⊥
  no_run g lg run = by_step found.1
    where
      there : (m.states g).swept < (m.states g).epoch
      there = let a = (follows g lg).epoch in let b = (follows g lg).swept in omega (arith, a, b, run)

      found : (h : ℕ) × CanGoOn L m g h
      found = goes g lg there

      by_step : CanGoOn L m g found.0 → ⊥
      by_step (inl may) = none_complete found.0 may
      by_step (inr may) = none_enters g found.0 lg there may.0 may.1
