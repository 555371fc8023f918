-- Catalogues that stand beside a machine, where one shard's goes on.
use Rattle.std.proofs.Common.{◌≡◌, ◌≢◌, ◌⊎◌, inl, inr, ℕ, zero, suc, ◌+◌, ◌<◌, ◌≤◌, List, [], ◌∷◌, length, take, Some, refl, sym, ap, ◌∙◌, subst, arith}
use Rattle.std.proofs.lemmas.Bool.{cases_eq}
use Rattle.std.proofs.lemmas.Grind.{common_steps}
use Rattle.std.specs.Prelude.{slice_get, slice_set}
use Rattle.hs_rounds.specs.declared.body.RoundBody.{RoundBody}
use Rattle.hs_rounds.specs.declared.sending.SentRound.{SentRound}
use Rattle.hs_deletion.specs.Clocks.{label_of}
use Rattle.hs_deletion.specs.Machine.{Layout, Round, ShardState, Machine}
use Rattle.hs_deletion.specs.Following.{IsSent, IsFollowing, AreFollowing}
use Rattle.hs_deletion.specs.History.{IsMade}
use Rattle.hs_deletion.specs.Invariants.{IsRight}
use Rattle.hs_deletion.proofs.FollowLemmas.{IsStepAt, all_follow}
use Rattle.hs_deletion.proofs.HistoryKeeps.{right_made}
use Rattle.hs_deletion.proofs.SumLemmas.{set_at_other}
use Rattle.hs_fold.specs.Runs.Facts.{Catalogue, empty_catalogue}
use Rattle.hs_fold.specs.Runs.Fits.{catalogue_at, HasSent}
use Rattle.hs_fold.specs.Runs.Own.{IsOwn, AreOwn}
use Rattle.hs_fold.specs.Shards.Setting.{Setting}
use Rattle.hs_fold.proofs.Shards.PlaceLemmas.{same-at, other-at, length-set}
use Rattle.hs_joint.specs.Joined.{IsSentSo, IsOfRow, KeepsTheLast, AreJoined}
use Rattle.hs_joint.specs.Seen.{layout_of, seen_round, seen, all_seen}
use Rattle.hs_joint.proofs.BoundLemmas.{IsBounded}
use Rattle.hs_joint.proofs.FewLemmas.{HaveFew}

-- ---- a shard's own

pub own_at : (n from : ℕ) (cs : List Catalogue) → AreOwn n from cs → (k : ℕ) → k < length cs → IsOwn n (from + k) (catalogue_at cs k)
own_at n from [] own k l = absurd (omega (arith, l))
own_at n from (c ∷ cs) own zero l = subst (λ j. IsOwn n j c) (zero_right from) own.0
  where
    zero_right : (j : ℕ) → j ≡ j + 0
    zero_right j = omega arith
own_at n from (c ∷ cs) own (suc k) l = subst (λ j. IsOwn n j (catalogue_at cs k)) (shift from k) (own_at n (from + 1) cs own.1 k (grind (arith, common_steps, l)))
  where
    shift : (a b : ℕ) → a + 1 + b ≡ a + suc b
    shift a b = omega arith

pub own_set : (n from : ℕ) (cs : List Catalogue) → AreOwn n from cs → (k : ℕ) → k < length cs → (d : Catalogue) → IsOwn n (from + k) d → AreOwn n from (slice_set cs k d)
own_set n from [] own k l d h = absurd (omega (arith, l))
own_set n from (c ∷ cs) own zero l d h = (subst (λ j. IsOwn n j d) (zero_right from) h, own.1)
  where
    zero_right : (j : ℕ) → j + 0 ≡ j
    zero_right j = omega arith
own_set n from (c ∷ cs) own (suc k) l d h = (own.0, own_set n (from + 1) cs own.1 k (grind (arith, common_steps, l)) d (subst (λ j. IsOwn n j d) (shift from k) h))
  where
    shift : (a b : ℕ) → a + suc b ≡ a + 1 + b
    shift a b = omega arith

pub set_same : (cs : List Catalogue) (k : ℕ) → slice_set cs k (catalogue_at cs k) ≡ cs
set_same [] k = refl
set_same (c ∷ cs) zero = refl
set_same (c ∷ cs) (suc k) = ap (λ rest. c ∷ rest) (set_same cs k)

pub set_twice : (cs : List Catalogue) (k : ℕ) (c d : Catalogue) → slice_set (slice_set cs k c) k d ≡ slice_set cs k d
set_twice [] k c d = refl
set_twice (x ∷ cs) zero c d = refl
set_twice (x ∷ cs) (suc k) c d = ap (λ rest. x ∷ rest) (set_twice cs k c d)

-- ---- the last two rounds

pub same_rows : (layout : Layout) (m later : Machine) (h : ℕ) (xs : List SentRound) → (later.states h).sent ≡ (m.states h).sent → ((row : ℕ) → row < (m.states h).sent → label_of layout later.states row ≡ label_of layout m.states row) → KeepsTheLast layout m h xs → KeepsTheLast layout later h xs
same_rows layout m later h xs same labels keeps = record {
  rows = λ place kept e. (
      let r = keeps.rows place kept e in
      let back = r.back in
      let l = labels r.row (omega (arith, back)) in
      record { row = r.row; back = omega (arith, back, same); epoch = rw l r.epoch; round = rw l r.round }
      );
  there = λ place two low. keeps.there place two (omega (arith, low, same));
}

pub more_rows : (layout : Layout) (m later : Machine) (h : ℕ) (xs : List SentRound) (new : SentRound) → (later.states h).sent ≡ (m.states h).sent + 1 → ((row : ℕ) → row < (m.states h).sent → label_of layout later.states row ≡ label_of layout m.states row)
    → (label_of layout later.states (m.states h).sent).epoch ≡ new.epoch → (label_of layout later.states (m.states h).sent).round ≡ new.round → KeepsTheLast layout m h xs → KeepsTheLast layout later h (take 2 (new ∷ xs))
more_rows layout m later h xs new more labels epoch round keeps = record { rows = λ place kept e. place_row place kept e; there = λ place two low. place_there place two low }
  where
    second : (ys : List SentRound) (place : ℕ) (kept : SentRound) → slice_get (take 1 ys) place ≡ Some kept → (place ≡ 0) × (slice_get ys 0 ≡ Some kept)
    second [] place kept e = cc e
    second (y ∷ ys) zero kept e = (refl, e)
    second (y ∷ ys) (suc place) kept e = elim (nothing ys place kept e) [ ]
      where
        nothing : (zs : List SentRound) (p : ℕ) (k : SentRound) → slice_get (take 0 zs) p ≡ Some k → ⊥
        nothing [] p k q = cc q
        nothing (z ∷ zs) p k q = cc q

    place_row : (place : ℕ) (kept : SentRound) → slice_get (take 2 (new ∷ xs)) place ≡ Some kept → IsOfRow layout later.states (later.states h).sent place kept
    place_row zero kept e = (
        let is : new ≡ kept = cc e in
        record { row = (m.states h).sent; back = omega (arith, more); epoch = epoch ∙ ap (λ (x : SentRound). x.epoch) is; round = round ∙ ap (λ (x : SentRound). x.round) is }
        )
    place_row (suc place) kept e =
        let at = second xs place kept e in
        let r = keeps.rows 0 kept at.1 in
        let back = r.back in
        let first = at.0 in
        let l = labels r.row (omega (arith, back)) in
        record { row = r.row; back = omega (arith, back, more, first); epoch = rw l r.epoch; round = rw l r.round }

    kept_first : (ys : List SentRound) (kept : SentRound) → slice_get ys 0 ≡ Some kept → slice_get (take 1 ys) 0 ≡ Some kept
    kept_first [] kept e = e
    kept_first (y ∷ ys) kept e = e

    place_there : (place : ℕ) → place < 2 → place < (later.states h).sent → (kept : SentRound) × (slice_get (take 2 (new ∷ xs)) place ≡ Some kept)
    place_there zero two low = (new, refl)
    place_there (suc zero) two low = (let k = keeps.there 0 (omega arith) (omega (arith, low, more)) in (k.0, kept_first xs k.0 k.1))
    place_there (suc (suc place)) two low = absurd (omega (arith, two))

-- ---- with all that proofs need

pub record IsStanding (set : Setting) (some : 0 < set.shape.shards) (cs : List Catalogue) (m : Machine) : Type 0 where
  pub joined : AreJoined set some cs m
  pub bounded : IsBounded (layout_of set.shape.shards some) m
  pub room : (shard : ℕ) → shard < set.shape.shards → length (catalogue_at cs shard).blocks ≤ 16384
  pub few : (shard : ℕ) → shard < set.shape.shards → HaveFew (catalogue_at cs shard)

module _ (set : Setting) (some : 0 < set.shape.shards) (cs : List Catalogue) (m : Machine) (st : IsStanding set some cs m) where
  abbrev n : ℕ
  n = set.shape.shards

  abbrev L : Layout
  L = layout_of n some

  pub right : IsRight L m
  right = right_made L m st.joined.followed.made

  pub own_here : (g : ℕ) → g < n → IsOwn n g (catalogue_at cs g)
  own_here g l = subst (λ j. IsOwn n j (catalogue_at cs g)) (zero_left g) (own_at n 0 cs st.joined.own g (let e = st.joined.each in omega (arith, l, e)))
    where
      zero_left : (j : ℕ) → 0 + j ≡ j
      zero_left j = omega arith

  -- what its sender keeps as sent was sent
  pub was_sent : (sender : ℕ) → sender < n → (to epoch round : ℕ) (told : RoundBody) → HasSent (catalogue_at cs sender).sent to epoch round told → IsSent L m.states to sender epoch round (seen_round round told)
  was_sent sender l to epoch round told h =
      let k : IsSent L m.states to sender h.kept.epoch h.kept.round (seen_round h.kept.round told) = st.joined.sent sender l h.kept h.among to told h.tells in
      subst (λ r. IsSent L m.states to sender epoch r (seen_round r told)) h.of_round (subst (λ e. IsSent L m.states to sender e h.kept.round (seen_round h.kept.round told)) h.of_epoch k)

  -- ---- one shard's catalogue goes on

  module _ (g : ℕ) (lg : g < n) (d : Catalogue) (later : Machine) where
    abbrev ds : List Catalogue
    ds = slice_set cs g d

    low : g < length cs
    low = let e = st.joined.each in omega (arith, lg, e)

    pub set_here : catalogue_at ds g ≡ d
    set_here = same-at empty_catalogue cs g d low

    pub set_there : (k : ℕ) → k ≢ g → catalogue_at ds k ≡ catalogue_at cs k
    set_there k o = other-at empty_catalogue cs g k d o

    pub follow_on : IsStepAt L g m later → IsFollowing L later g (seen g d) → AreFollowing L later (all_seen ds)
    follow_on step follows k lk = elim (cases_eq k g) [
      | inl e ↦ subst (λ j. IsFollowing L later j (seen j (catalogue_at ds j))) (sym e) (subst (λ x. IsFollowing L later g (seen g x)) (sym set_here) follows)
      | inr o ↦ subst (λ x. IsFollowing L later k (seen k x)) (sym (set_there k o)) (subst (λ x. IsFollowing L later k x) (set_at_other g (seen g d) (all_seen cs) k o) (all_follow L g m later (all_seen cs) (seen g d) step st.joined.followed.each follows k lk))
    ]

    pub join_on : IsMade L later → IsStepAt L g m later → IsFollowing L later g (seen g d) → IsOwn n g d → IsSentSo L later g d.sent → ((row : ℕ) → row ≤ (m.states g).sent → label_of L later.states row ≡ label_of L m.states row) → KeepsTheLast L later g d.sent → AreJoined set some ds later
    join_on made step follows own sent labels keeps = record {
      each = length-set cs g d ∙ st.joined.each;
      own = own_set n 0 cs st.joined.own g low d (subst (λ j. IsOwn n j d) (zero_left g) own);
      followed = record { made = made; each = follow_on step follows };
      sent = λ k lk. elim (cases_eq k g) [
        | inl e ↦ subst (λ j. IsSentSo L later j (catalogue_at ds j).sent) (sym e) (subst (λ x. IsSentSo L later g x.sent) (sym set_here) sent)
        | inr o ↦ subst (λ x. IsSentSo L later k x.sent) (sym (set_there k o)) (λ kept among to told tells. step.sent to k kept.epoch kept.round (seen_round kept.round told) (st.joined.sent k lk kept among to told tells))
      ];
      last = λ k lk. elim (cases_eq k g) [
        | inl e ↦ subst (λ j. KeepsTheLast L later j (catalogue_at ds j).sent) (sym e) (subst (λ x. KeepsTheLast L later g x.sent) (sym set_here) keeps)
        | inr o ↦ subst (λ x. KeepsTheLast L later k x.sent) (sym (set_there k o)) (same_rows L m later k (catalogue_at cs k).sent (ap (λ (x : ShardState). x.sent) (step.states k o)) (λ row l. labels row (low_row k lk row l)) (st.joined.last k lk))
      ];
    }
      where
        low_row : (k : ℕ) → k < n → (row : ℕ) → row < (m.states k).sent → row ≤ (m.states g).sent
        low_row k lk row l = let come = (right.clocks k lk).come g lg in elim (right.clocks k lk).phase [ inl p ↦ omega (arith, p.ahead, come, l) | inr p ↦ omega (arith, p.level, come, l) ]

        zero_left : (j : ℕ) → j ≡ 0 + j
        zero_left j = omega arith

    pub room_on : length d.blocks ≤ 16384 → (k : ℕ) → k < n → length (catalogue_at ds k).blocks ≤ 16384
    room_on room k lk = elim (cases_eq k g) [
      | inl e ↦ subst (λ j. length (catalogue_at ds j).blocks ≤ 16384) (sym e) (subst (λ x. length x.blocks ≤ 16384) (sym set_here) room)
      | inr o ↦ subst (λ x. length x.blocks ≤ 16384) (sym (set_there k o)) (st.room k lk)
    ]

    pub few_on : HaveFew d → (k : ℕ) → k < n → HaveFew (catalogue_at ds k)
    few_on few k lk = elim (cases_eq k g) [
      | inl e ↦ subst (λ j. HaveFew (catalogue_at ds j)) (sym e) (subst (λ x. HaveFew x) (sym set_here) few)
      | inr o ↦ subst (λ x. HaveFew x) (sym (set_there k o)) (st.few k lk)
    ]

  -- where nothing happens in the machine
  pub nothing_done : (g : ℕ) → IsStepAt L g m m
  nothing_done g = record { blocks = λ h o. refl; roots = λ h o. refl; states = λ h o. refl; sent = λ to h epoch round body s. s }

-- a shard sends nothing more, or one round
abbrev pub SendsOn : List SentRound → List SentRound → ℕ → ℕ → Type 0
SendsOn old now before after = ((now ≡ old) × (after ≡ before)) ⊎ ((new : SentRound) × (now ≡ take 2 (new ∷ old)) × (after ≡ before + 1))

-- the catalogue of one shard behind an entry, and the machine beside it
pub record GoesOn (set : Setting) (some : 0 < set.shape.shards) (cs : List Catalogue) (m : Machine) (g : ℕ) (d : Catalogue) : Type 0 where
  pub later : Machine
  pub standing : IsStanding set some (slice_set cs g d) later
  pub moves : (to sender epoch round : ℕ) (body : Round) → IsSent (layout_of set.shape.shards some) m.states to sender epoch round body → IsSent (layout_of set.shape.shards some) later.states to sender epoch round body
  pub sends : SendsOn (catalogue_at cs g).sent d.sent (m.states g).sent (later.states g).sent
  pub states : (k : ℕ) → k ≢ g → later.states k ≡ m.states k
