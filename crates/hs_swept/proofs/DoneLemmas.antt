-- What a shard that sweeps tells, and an entry of anything else.
use Rattle.std.proofs.Common.{◌≡◌, ◌∙◌, ◌⊎◌, ◌≢◌, inl, inr, sym, ap, subst, ℕ, zero, suc, ◌+◌, ◌<◌, ◌≤◌, Bool, true, false, List, [], ◌∷◌, Some, refl, length, arith, tests, slice_get, slice_index, nat_le, nat_lt, if◌then◌else◌}
use Rattle.std.proofs.lemmas.Bool.{and_from, and_parts}
use Rattle.std.proofs.lemmas.Grind.{common_steps}
use Rattle.std.proofs.lemmas.List.{set-get_or, set-set}
use Rattle.std.proofs.lemmas.List.Elements.{All-set}
use Rattle.std.specs.List.{list_all}
use Rattle.std.specs.Prelude.{All, IsTrue, slice_set}
use Rattle.hs_answered.specs.Telling.{Judging}
use Rattle.hs_effects.specs.Telling.{shard_entry}
use Rattle.hs_journal.specs.declared.entry.JournalEntry.{JournalEntry}
use Rattle.hs_journal.specs.declared.entry.Who.TheVariants as who
use Rattle.hs_laws.proofs.EnterLemmas.{set-at}
use Rattle.hs_laws.proofs.EpochLemmas.{nat_le-true, nat_le_from}
use Rattle.hs_laws.proofs.SweepKeeps.{MaySweep, may_sweep-gives}
use Rattle.hs_laws.specs.Distinct.{HasDistinctAddresses}
use Rattle.hs_laws.specs.Kept.{AllSwept, SweepIsExact}
use Rattle.hs_laws.specs.Valid.{AreEpochsInStep, IsValid}
use Rattle.hs_model.specs.declared.deed.Deed.TheVariants as deed
use Rattle.hs_model.specs.declared.reply.Reply.{Reply}
use Rattle.hs_model.specs.declared.reply.Reply.TheVariants as reply
use Rattle.hs_model.specs.Inner.{may_sweep, sweep}
use Rattle.hs_model.specs.Run.{step, sweeps}
use Rattle.hs_model.specs.Store.{Store}
use Rattle.hs_swept.proofs.ExactLemmas.{Blocks, Given, none_is_some, some_is, swept_by}
use Rattle.hs_swept.specs.Swept.{AreSwept, EndsRun, IsDoneAt, IsOther, SweepsExactly, sweep_entries}

-- ---- numbers of a list

all_le : (n : ℕ) (xs : List ℕ) → All (λ e. n ≤ e) xs → list_all (λ e. nat_le n e) xs ≡ true
all_le n [] h = refl
all_le n (x ∷ xs) h = and_from (nat_le n x) (list_all (λ e. nat_le n e) xs) (nat_le-true n x (h 0 x (omega arith))) (all_le n xs (λ k d l. h (suc k) d (omega (arith, l))))

le_all : (n : ℕ) (xs : List ℕ) → list_all (λ e. nat_le n e) xs ≡ true → All (λ e. n ≤ e) xs
le_all n [] t k d l = absurd (omega (arith, l))
le_all n (x ∷ xs) t zero d l = nat_le_from n x (and_parts (nat_le n x) (list_all (λ e. nat_le n e) xs) t).0
le_all n (x ∷ xs) t (suc k) d l = le_all n xs (and_parts (nat_le n x) (list_all (λ e. nat_le n e) xs) t).1 k d (omega (arith, l))

past_end : (xs : List ℕ) (i : ℕ) → length xs ≤ i → slice_index xs i ≡ 0
past_end [] i h = refl
past_end (x ∷ xs) zero h = absurd (omega (arith, h))
past_end (x ∷ xs) (suc i) h = past_end xs i (omega (arith, h))

is_within : (xs : List ℕ) (i n : ℕ) → n < slice_index xs i → i < length xs
is_within xs i n some = go (nat_lt i (length xs)) refl
  where
    go : (b : Bool) → nat_lt i (length xs) ≡ b → i < length xs
    go true e = grind (arith, tests, e)
    go false e = let past : length xs ≤ i = grind (arith, tests, e) in absurd (omega (arith, some, past_end xs i past))

-- ---- the epoch whose run a sweep ends is that of its shard

module _ (s : Store) (v : AreEpochsInStep s) (shard : ℕ) (m : MaySweep s shard) where
  abbrev now : ℕ
  now = slice_index s.epochs shard

  low : shard < length s.epochs
  low = is_within s.epochs shard (slice_index s.swept shard) m.behind

  swept_low : shard < length s.swept
  swept_low = omega (arith, low, v.swept_each)

  new_at : slice_index (slice_set s.swept shard now) shard ≡ now
  new_at = go (set-at s.swept shard now shard)
    where
      go : ((shard ≡ shard) × (shard < length s.swept) × (slice_index (slice_set s.swept shard now) shard ≡ now)) ⊎ ((slice_index (slice_set s.swept shard now) shard ≡ slice_index s.swept shard) × (shard < length s.swept → shard ≢ shard))
          → slice_index (slice_set s.swept shard now) shard ≡ now
      go (inl h) = h.2
      go (inr h) = absurd (h.1 swept_low refl)

  not_before : AllSwept s now → ⊥
  not_before all = let here : now ≤ slice_index s.swept shard = all shard 0 swept_low in omega (arith, here, m.behind)

  were_before : (epoch : ℕ) → epoch ≤ slice_index s.swept shard → AllSwept (sweep s shard) epoch → AllSwept s epoch
  were_before epoch here after =
      subst (λ xs. All (λ e. epoch ≤ e) xs) (set-set s.swept shard now (slice_index s.swept shard) ∙ set-get_or s.swept shard 0)
      (All-set (λ e. epoch ≤ e) (slice_set s.swept shard now) shard (slice_index s.swept shard) here after)

  is_epoch : (epoch : ℕ) → (AllSwept s epoch → ⊥) → AllSwept (sweep s shard) epoch → epoch ≡ now
  is_epoch epoch before after = go (nat_le epoch (slice_index s.swept shard)) refl
    where
      up : epoch ≤ now
      up = subst (λ n. epoch ≤ n) new_at (after shard 0 (grind (arith, common_steps, swept_low)))

      go : (b : Bool) → nat_le epoch (slice_index s.swept shard) ≡ b → epoch ≡ now
      go true e = absurd (before (were_before epoch (nat_le_from epoch (slice_index s.swept shard) e) after))
      go false e =
          let over : slice_index s.swept shard < epoch = grind (arith, tests, e) in
          omega (arith, up, over, v.swept_not_behind shard low)

-- ---- what a sweep tells

abbrev swept_of : JournalEntry → ℕ
swept_of e = swept_by e.deed

abbrev done_of : Reply → ℕ
done_of (reply.Done epoch) = epoch
done_of other = 0

module _ (blocks : Blocks) (given : Given) (by : Judging) (s : Store) (v : IsValid s) (apart : HasDistinctAddresses s) (shard moment : ℕ) (may : IsTrue (may_sweep s shard)) where
  abbrev epoch_now : ℕ
  epoch_now = slice_index s.epochs shard

  behind : MaySweep s shard
  behind = may_sweep-gives s shard v.epochs.some_shard may

  abbrev the_sweep : JournalEntry
  the_sweep = shard_entry shard moment (step by.limits s (sweeps shard))

  abbrev the_done : JournalEntry
  the_done = record { who = who.Store; moment = moment; deed = deed.Nothing; reply = reply.Done epoch_now }

  abbrev if_done : Bool → List JournalEntry
  if_done b = if b then the_done ∷ [] else []

  abbrev all_have : Bool
  all_have = list_all (λ e. nat_le epoch_now e) (sweep s shard).swept

  done_there : (b : Bool) (p : ℕ) (e : JournalEntry) → slice_get (if_done b) p ≡ Some e → (b ≡ true) × (p ≡ 0) × (the_done ≡ e)
  done_there true zero e at = (refl, refl, some_is the_done e at)
  done_there true (suc p) e at = absurd (none_is_some e at)
  done_there false p e at = absurd (none_is_some e at)

  not_swept : (e : JournalEntry) (g : ℕ) → the_done ≡ e → e.deed ≡ deed.Swept g → ⊥
  not_swept e g is swept = absurd (cc (ap (λ (x : JournalEntry). x.deed) is ∙ swept))

  group_sweeps : SweepsExactly by s (sweep_entries by s shard moment)
  group_sweeps zero g e at swept =
      let is : the_sweep ≡ e = some_is the_sweep e at in
      let same : shard ≡ g = ap (λ d. swept_by d) (ap (λ (x : JournalEntry). x.deed) is ∙ swept) in
      subst (λ n. SweepIsExact s n e.reply) same (record { exact = blocks s shard apart; given = given s shard; number = sym (ap (λ (x : JournalEntry). x.reply) is) })
  group_sweeps (suc p) g e at swept = absurd (not_swept e g (done_there all_have p e at).2 swept)

  group_done : (place epoch : ℕ) → EndsRun by s (sweep_entries by s shard moment) place epoch → IsDoneAt (sweep_entries by s shard moment) (place + 1) epoch
  group_done zero epoch ends =
      let same : epoch ≡ epoch_now = is_epoch s v.epochs shard behind epoch ends.before ends.after in
      let all : all_have ≡ true = all_le epoch_now (sweep s shard).swept (subst (λ n. AllSwept (sweep s shard) n) same ends.after) in
      record { entry = the_done; at = ap (λ b. slice_get (if_done b) 0) all; tells = ap (λ n. reply.Done n) (sym same) }
  group_done (suc p) epoch ends = absurd (not_swept ends.sweeping ends.shard (done_there all_have p ends.sweeping ends.at).2 ends.swept)

  its_end : all_have ≡ true → EndsRun by s (sweep_entries by s shard moment) 0 epoch_now
  its_end all = record {
    shard = shard;
    sweeping = the_sweep;
    at = refl;
    swept = refl;
    before = not_before s v.epochs shard behind;
    after = le_all epoch_now (sweep s shard).swept all;
  }

  group_only : (place epoch : ℕ) → IsDoneAt (sweep_entries by s shard moment) place epoch → (before : ℕ) × (place ≡ before + 1) × EndsRun by s (sweep_entries by s shard moment) before epoch
  group_only zero epoch d = absurd (cc (ap (λ (x : JournalEntry). x.reply) (some_is the_sweep d.entry d.at) ∙ d.tells))
  group_only (suc p) epoch d =
      let there : (all_have ≡ true) × (p ≡ 0) × (the_done ≡ d.entry) = done_there all_have p d.entry d.at in
      let same : epoch_now ≡ epoch = ap (λ r. done_of r) (ap (λ (x : JournalEntry). x.reply) there.2 ∙ d.tells) in
      (0, omega (arith, there.1), subst (λ n. EndsRun by s (sweep_entries by s shard moment) 0 n) same (its_end there.0))

  pub group_swept : AreSwept by s (sweep_entries by s shard moment)
  group_swept = record { sweeps = group_sweeps; done = group_done; only_done = group_only }

-- ---- nothing, and any other entry

pub none_swept : (by : Judging) (s : Store) → AreSwept by s []
none_swept by s = record {
  sweeps = λ place g e at swept. absurd (none_is_some e at);
  done = λ place epoch ends. absurd (none_is_some ends.sweeping ends.at);
  only_done = λ place epoch d. absurd (none_is_some d.entry d.at);
}

alone_at : (x e : JournalEntry) (place : ℕ) → slice_get (x ∷ []) place ≡ Some e → x ≡ e
alone_at x e zero at = some_is x e at
alone_at x e (suc place) at = absurd (none_is_some e at)

pub other_swept : (by : Judging) (s : Store) (x : JournalEntry) → IsOther x → AreSwept by s (x ∷ [])
other_swept by s x other = record {
  sweeps = λ place g e at swept. absurd (other.no_sweep g (ap (λ (y : JournalEntry). y.deed) (alone_at x e place at) ∙ swept));
  done = λ place epoch ends. absurd (other.no_sweep ends.shard (ap (λ (y : JournalEntry). y.deed) (alone_at x ends.sweeping place ends.at) ∙ ends.swept));
  only_done = λ place epoch d. absurd (other.no_done epoch (ap (λ (y : JournalEntry). y.reply) (alone_at x d.entry place d.at) ∙ d.tells));
}
