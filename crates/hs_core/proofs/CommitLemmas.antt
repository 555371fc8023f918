-- All committed entries, one at a time.
use Rattle.std.proofs.Common.{◌≡◌, ◌∙◌, sym, ap, ℕ, ◌+◌, ◌-◌, ◌<◌, ◌≤◌, zero, suc, true, false, [], Option, Some, None, is_some, refl, arith}
use Rattle.std.proofs.lemmas.List.{set-get_or}
use Rattle.std.specs.Prelude.{slice_set}
use Rattle.hs_awaiting.specs.Words.{change_with, times}
use Rattle.hs_core_words.specs.Changing.{change_group}
use Rattle.hs_core_words.specs.Effects.{after_entry, commit_next, take_effect}
use Rattle.hs_core_words.specs.Looking.{group_of, shape_of}
use Rattle.hs_core_words.specs.State.{Core}
use Rattle.hs_entry.specs.declared.entry.Entry.{Entry}
use Rattle.hs_entry.specs.declared.entry.Entry.TheVariants as kind
use Rattle.hs_replica.specs.Group.{committed, new_group, take_committed}
use Rattle.hs_shard.specs.declared.effect.Effect.{Effect}

-- ---- so many times

pub times_next : {A : Type 0} (f : A → A) (s n : ℕ) (x : A) → s < n → times (n - s) f x ≡ times (n - (s + 1)) f (f x)
times_next f s n x h =
    let d : n - s ≡ suc (n - (s + 1)) = omega (arith, h) in
    rw d refl

pub times_end : {A : Type 0} (f : A → A) (s n : ℕ) (x : A) → n ≤ s → times (n - s) f x ≡ x
times_end f s n x h =
    let d : n - s ≡ 0 = omega (arith, h) in
    rw d refl

pub times_begin : {A : Type 0} (f : A → A) (n : ℕ) (x : A) → times (n - 0) f x ≡ times n f x
times_begin f n x =
    let d : n - 0 ≡ n = omega arith in
    rw d refl

-- where it changes nothing it never does
pub times_still : {A : Type 0} (f : A → A) (x : A) → f x ≡ x → (n : ℕ) → times n f x ≡ x
times_still f x same zero = refl
times_still f x same (suc n) = ap (times n f) same ∙ times_still f x same n

-- ---- one of them

-- nothing changes where there is none
pub commit_none : (shard : ℕ) (core : Core) → committed (group_of shard core) ≡ None → change_group shard take_committed core ≡ commit_next shard core
commit_none shard core h =
    let same : take_committed (group_of shard core) ≡ group_of shard core = rw h refl in
    let groups : slice_set core.groups shard (take_committed (group_of shard core)) ≡ core.groups =
    ap (slice_set core.groups shard) same ∙ set-get_or core.groups shard (new_group (shape_of core) shard 0 0 []) in
    ap (λ gs. record core { groups = gs }) groups ∙ sym (ap (λ o. change_with o (λ e. take_effect shard e.1) core) h)

-- so where none is told of
pub commit_still : (shard : ℕ) (core : Core) → is_some (committed (group_of shard core)) ≡ false → commit_next shard core ≡ core
commit_still shard core = go (committed (group_of shard core))
  where
    go : (o : Option (ℕ × Entry)) → is_some o ≡ false → change_with o (λ e. take_effect shard e.1) core ≡ core
    go None none = refl
    go (Some e) none = let wrong : true ≡ false = none in cc

-- what is told of an entry does not depend on what it sent
pub after_sends : (shard : ℕ) (entry : Entry) (effect : Effect) (core : Core)
    → after_entry shard entry (record { what = effect.what; sends = []; removed = effect.removed }) core ≡ after_entry shard entry effect core
after_sends shard (kind.View view) effect core = refl
after_sends shard (kind.Block line least bytes) effect core = refl
after_sends shard (kind.Mark line least block a) effect core = refl
after_sends shard (kind.Root line held a key) effect core = refl
after_sends shard (kind.Drop line key) effect core = refl
after_sends shard (kind.Enter line epoch) effect core = refl
after_sends shard (kind.Got from epoch round total deltas) effect core = refl
after_sends shard (kind.Base view epoch swept round frames) effect core = refl
after_sends shard (kind.KeptBlock born mark flags count bytes) effect core = refl
after_sends shard (kind.KeptRoot created dropped counted address key) effect core = refl
after_sends shard (kind.KeptRound way other epoch round total deltas) effect core = refl
