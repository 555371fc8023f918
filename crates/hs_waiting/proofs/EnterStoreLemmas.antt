-- An Enter that waits may come still behind any other entry.
use Rattle.std.proofs.Common.{◌≡◌, ◌≢◌, ◌⊎◌, inl, inr, ℕ, ◌+◌, ◌<◌, ◌≤◌, ◌==◌, ◌&&◌, ◌||◌, List, length, Bool, true, false, cond, is_none, refl, sym, ap, ◌∙◌, arith, slice_index, slice_set}
use Rattle.std.proofs.lemmas.Bool.{eq-eqb, cases_eq}
use Rattle.std.specs.BTreeMap.{insert_entry}
use Rattle.hs_limits.specs.Limits.{greatest_limits}
use Rattle.hs_model.specs.Inner.{enter, sweep, may_enter, none_below}
use Rattle.hs_model.specs.Refusals.{shard_full}
use Rattle.hs_model.specs.Store.{Store, Root, address_cmp, epoch_at, with_block, with_roots}
use Rattle.hs_laws.specs.Valid.{least_epoch}
use Rattle.hs_laws.proofs.EnterLemmas.{MayEnter, may_enter-gives, set-at, enter-least}
use Rattle.hs_laws.proofs.EpochLemmas.{least_epoch-at, none_below_from_least}
use Rattle.hs_fold.specs.Shards.Change.{Change, change, stores, gives, keeps, drops, is_usable, may_keep}
use Rattle.hs_fold.specs.Shards.Happening.{Happening, changes, enters, sweeps, MayHappen, happen}

same-may : (s t : Store) (k : ℕ) → t.epochs ≡ s.epochs → t.swept ≡ s.swept → may_enter t k ≡ may_enter s k
same-may s t k e w = rw (e, w) refl

change-same : (s : Store) (one : Change) → ((change s one).epochs ≡ s.epochs) × ((change s one).swept ≡ s.swept)
change-same s (stores least a block) = go (is_usable s least a && is_none (shard_full greatest_limits s a))
  where
    go : (b : Bool) → ((cond b (with_block s a block) s).epochs ≡ s.epochs) × ((cond b (with_block s a block) s).swept ≡ s.swept)
    go true = (refl, refl)
    go false = (refl, refl)
change-same s (gives least a) = go (is_usable s least a)
  where
    given : Store
    given = record s { given = insert_entry address_cmp s.given a (epoch_at s a) }

    go : (b : Bool) → ((cond b (record s { given = insert_entry address_cmp s.given a (epoch_at s a) }) s).epochs ≡ s.epochs) × ((cond b (record s { given = insert_entry address_cmp s.given a (epoch_at s a) }) s).swept ≡ s.swept)
    go true = (refl, refl)
    go false = (refl, refl)
change-same s (keeps held a key) = go (may_keep s held a key) _
  where
    go : (b : Bool) (rs : List Root) → ((cond b (with_roots s rs) s).epochs ≡ s.epochs) × ((cond b (with_roots s rs) s).swept ≡ s.swept)
    go true rs = (refl, refl)
    go false rs = (refl, refl)
change-same s (drops key) = (refl, refl)

may-from : (s : Store) (k : ℕ) → MayEnter s k → may_enter s k ≡ true
may-from s k m = all (slice_index s.swept k == slice_index s.epochs k) (none_below s (slice_index s.epochs k)) (k == 0 || slice_index s.epochs 0 == slice_index s.epochs k + 1) (eq-eqb _ _ m.swept) (none_below_from_least s (slice_index s.epochs k) m.least) (either m.behind)
  where
    all : (a b d : Bool) → a ≡ true → b ≡ true → d ≡ true → (a && b) && d ≡ true
    all true true true a b d = refl
    all true true false a b d = cc d
    all true false d a b e = cc b
    all false b d a e f = cc a

    or-left : (a b : Bool) → a ≡ true → a || b ≡ true
    or-left true b e = refl
    or-left false b e = cc e

    or-right : (a b : Bool) → b ≡ true → a || b ≡ true
    or-right true b e = refl
    or-right false b e = e

    either : (k ≡ 0) ⊎ (slice_index s.epochs 0 ≡ slice_index s.epochs k + 1) → (k == 0 || slice_index s.epochs 0 == slice_index s.epochs k + 1) ≡ true
    either (inl e) = or-left (k == 0) (slice_index s.epochs 0 == slice_index s.epochs k + 1) (eq-eqb k 0 e)
    either (inr e) = or-right (k == 0) (slice_index s.epochs 0 == slice_index s.epochs k + 1) (eq-eqb _ _ e)

set-other : (xs : List ℕ) (i v j : ℕ) → j ≢ i → slice_index (slice_set xs i v) j ≡ slice_index xs j
set-other xs i v j o = elim (set-at xs i v j) [ inl h ↦ absurd (o h.0) | inr h ↦ h.0 ]

-- it is of another shard than k, or a client's
abbrev pub Elsewhere : ℕ → Happening → Type 0
Elsewhere k (changes one) = Unit {0}
Elsewhere k (enters shard) = k ≢ shard
Elsewhere k (sweeps shard) = k ≢ shard

pub enter-still : (s : Store) → 0 < length s.epochs → (k : ℕ) → k < length s.epochs → may_enter s k ≡ true → (one : Happening) → MayHappen s one → Elsewhere k one → may_enter (happen s one) k ≡ true
enter-still s some k l t (changes one) may u = let e = change-same s one in same-may s (change s one) k e.0 e.1 ∙ t
enter-still s some k l t (enters shard) may u =
    let m = may_enter-gives s k some t in
    let o = may_enter-gives s shard some may in
    let here : slice_index (enter s shard).epochs k ≡ slice_index s.epochs k = set-other s.epochs shard (slice_index s.epochs shard + 1) k u in
    let up = enter-least s shard some in
    may-from (enter s shard) k (record {
      swept = m.swept ∙ sym here;
      least = omega (arith, here, m.least, up);
      behind = elim m.behind [
        | inl z ↦ inl z
        | inr e ↦ inr (first e here (cases_eq 0 shard) (least_epoch-at s k l) o.least)
      ];
    })
  where
    first : slice_index s.epochs 0 ≡ slice_index s.epochs k + 1 → slice_index (enter s shard).epochs k ≡ slice_index s.epochs k → (0 ≡ shard) ⊎ (0 ≢ shard) → least_epoch s ≤ slice_index s.epochs k → slice_index s.epochs shard ≤ least_epoch s → slice_index (enter s shard).epochs 0 ≡ slice_index (enter s shard).epochs k + 1
    first e here (inl z) low up = (let is : slice_index s.epochs 0 ≡ slice_index s.epochs shard = ap (λ j. slice_index s.epochs j) z in absurd (omega (arith, e, low, up, is)))
    first e here (inr o) low up = (let is = set-other s.epochs shard (slice_index s.epochs shard + 1) 0 o in omega (arith, e, here, is))
enter-still s some k l t (sweeps shard) may u =
    let m = may_enter-gives s k some t in
    may-from (sweep s shard) k (record { swept = set-other s.swept shard (slice_index s.epochs shard) k u ∙ m.swept; least = m.least; behind = m.behind })
