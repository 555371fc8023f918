-- What comes of an entry that is looked at, by its deed.
use Rattle.std.proofs.Common.{◌≡◌, ◌∙◌, ◌<◌, ◌-◌, ℕ, List, [], ◌∷◌, Bool, true, false, ◌||◌, refl, sym, ap, subst, map, length, Some, None, IsTrue, slice_get, suc, arith}
use Rattle.std.proofs.lemmas.Grind.{common_steps}
use Rattle.std.specs.List.{list_any}
use Rattle.std.specs.Option.{option_map}
use Rattle.hs_journal.specs.declared.entry.JournalEntry.{JournalEntry}
use Rattle.hs_journal.specs.Deeds.{as_deed}
use Rattle.hs_limits.specs.declared.address.Address.{Address}
use Rattle.hs_limits.specs.declared.address.Held.{Held}
use Rattle.hs_limits.specs.declared.limits.Limits.{Limits}
use Rattle.hs_model.proofs.JudgeLemmas.{judge_granted}
use Rattle.hs_model.specs.declared.deed.Deed.{Deed}
use Rattle.hs_model.specs.declared.deed.Deed.TheVariants as deed
use Rattle.hs_model.specs.declared.op.Asked.{Asked}
use Rattle.hs_model.specs.declared.op.Op.{Op}
use Rattle.hs_model.specs.declared.op.Op.TheVariants as op
use Rattle.hs_model.specs.declared.reply.Reply.{Reply}
use Rattle.hs_model.specs.declared.reply.Reply.TheVariants as reply
use Rattle.hs_model.specs.Deeds.{Busy, DeedEntry, IsDeedOf, IsHeldFresh, IsNote, IsRefused, MayBeRefused, Refused, is_answered, is_there, last_reply, refusals_told}
use Rattle.hs_model.specs.Inner.{enter, may_enter, may_sweep, sweep}
use Rattle.hs_model.specs.Judge.{bytes_of, granted, judge, pointers_at, read, refusals, rooted, wrote}
use Rattle.hs_model.specs.Refusals.{first, key_taken, roots_full}
use Rattle.hs_model.specs.Run.{enters, step, sweeps}
use Rattle.hs_model.specs.Store.{Store, block_at, epoch_at, root_epoch}
use Rattle.hs_plain.proofs.DeedLemmas.{marked_found, marked_only, told_none, whole, wrote_found, wrote_only}
use Rattle.hs_plain.specs.Deeds.{Does, HasHandles, IsBusy, IsJudged, MayMark, MayRead, MayTake, answers_line, last_told, operation_of}

-- ---- what is no deed

pub does_not : (limits : Limits) (s : Store) (before : List DeedEntry) (d : Deed) (told : Reply) (left : Store) → (IsDeedOf limits s before d told → ⊥) → Does limits s before d told false left
does_not limits s before d told left never = record { found = λ h. absurd (cc h); only = λ h. absurd (never h); leaves = λ h. absurd (cc h) }

-- ---- runs

module _ (limits : Limits) (s : Store) (shard : ℕ) (left : Store) (is : Bool) where
  -- a deletion that is not refused
  pub run_does : (epoch : ℕ) (told : Reply) → shard ≡ 0 → first (refusals limits s op.Delete) ≡ None → told ≡ (judge limits s op.Delete).reply → left ≡ (judge limits s op.Delete).store
      → (IsTrue is → told ≡ reply.Run epoch) → (told ≡ reply.Run epoch → IsTrue is) → (before : List DeedEntry) → Does limits s before (deed.Entered shard) (reply.Run epoch) is left
  unfolding granted
  run_does epoch told at_zero none same kept found only before = record {
    found = λ h. (at_zero, told_none limits s op.Delete refl none, sym (found h) ∙ same ∙ ap (λ j. j.reply) (judge_granted limits s op.Delete none));
    only = λ h. only (same ∙ ap (λ j. j.reply) (judge_granted limits s op.Delete none) ∙ sym h.2);
    leaves = λ h. kept ∙ ap (λ j. j.store) (judge_granted limits s op.Delete none) ∙ ap (λ g. enter s g) (sym at_zero);
  }

  pub enter_does : (epoch : ℕ) (told : Reply) → shard < length s.epochs → IsTrue (may_enter s shard) → told ≡ (step limits s (enters shard)).reply → left ≡ enter s shard
      → (IsTrue is → told ≡ reply.Enter epoch) → (told ≡ reply.Enter epoch → IsTrue is) → (before : List DeedEntry) → Does limits s before (deed.Entered shard) (reply.Enter epoch) is left
  enter_does epoch told low may same kept found only before = record {
    found = λ h. (low, may, sym (found h) ∙ same);
    only = λ h. only (same ∙ sym h.2);
    leaves = λ h. kept;
  }

  pub sweep_does : (answer told : Reply) → shard < length s.epochs → IsTrue (may_sweep s shard) → answer ≡ (step limits s (sweeps shard)).reply → left ≡ sweep s shard
      → (IsTrue is → answer ≡ told) → (answer ≡ told → IsTrue is) → (before : List DeedEntry) → Does limits s before (deed.Swept shard) told is left
  sweep_does answer told low may same kept found only before = record {
    found = λ h. (low, may, sym (found h) ∙ same);
    only = λ h. only (same ∙ sym h.2);
    leaves = λ h. kept;
  }

-- ---- refusals

pub answered_map : (before : List JournalEntry) (line : ℕ) → list_any (λ entry. answers_line line entry) before ≡ is_answered (map as_deed before) line
answered_map [] line = refl
answered_map (e ∷ before) line = ap (λ b. answers_line line e || b) (answered_map before line)

module _ (limits : Limits) (s : Store) (before : List JournalEntry) (o : Asked) where
  pub busy_so : (told : Reply) → IsBusy before told → MayBeRefused limits s (map as_deed before) o told
  busy_so (reply.Busy line) h = Busy line refl (sym (answered_map before line) ∙ h)
  busy_so reply.Ok h = absurd h
  busy_so (reply.New handle epoch) h = absurd h
  busy_so (reply.Dup handle epoch) h = absurd h
  busy_so (reply.Bytes bytes handles) h = absurd h
  busy_so (reply.Held handle epoch) h = absurd h
  busy_so (reply.Name address) h = absurd h
  busy_so (reply.Stat blocks roots sessions epochs swept) h = absurd h
  busy_so (reply.Run epoch) h = absurd h
  busy_so (reply.Enter epoch) h = absurd h
  busy_so (reply.Sweep epoch removed) h = absurd h
  busy_so (reply.Done epoch) h = absurd h
  busy_so (reply.Down peer line) h = absurd h
  busy_so (reply.Visits epoch count) h = absurd h
  busy_so (reply.NoSession name) h = absurd h
  busy_so (reply.SessionTaken name) h = absurd h
  busy_so (reply.SessionsFull limit) h = absurd h
  busy_so (reply.TooLong found) h = absurd h
  busy_so (reply.TooMany found) h = absurd h
  busy_so (reply.NoHandle handle) h = absurd h
  busy_so (reply.HandlesFull limit) h = absurd h
  busy_so (reply.Stale handle held now) h = absurd h
  busy_so reply.Collision h = absurd h
  busy_so (reply.ShardFull limit) h = absurd h
  busy_so (reply.KeyTaken key) h = absurd h
  busy_so (reply.NoKey key) h = absurd h
  busy_so (reply.RootsFull limit) h = absurd h
  busy_so (reply.Running epoch) h = absurd h
  busy_so (reply.EpochEnd limit) h = absurd h
  busy_so (reply.NoPeer peer) h = absurd h
  busy_so (reply.NotUp peer) h = absurd h
  busy_so (reply.NotDown peer) h = absurd h
  busy_so (reply.NoMessage message) h = absurd h
  busy_so (reply.PoolFull limit) h = absurd h

  -- where it is not so, it is refused
  pub not_busy : (told : Reply) → (IsBusy before told → ⊥) → MayBeRefused limits s (map as_deed before) o told → IsRefused limits s o told
  not_busy told never (Busy line e h) = absurd (never (subst (λ z. IsBusy before z) (sym e) (answered_map before line ∙ h)))
  not_busy told never (Refused r) = r

-- of a collision, or of none
module _ (limits : Limits) (s : Store) (o : Asked) (told : Reply) where
  pub refused_plain : first (refusals_told limits s o false) ≡ Some told → IsRefused limits s o told
  refused_plain e = record { collides = false; there = λ h. absurd (cc h); first_of = e }

  pub refused_colliding : IsTrue (is_there s o) → first (refusals_told limits s o true) ≡ Some told → IsRefused limits s o told
  refused_colliding there e = record { collides = true; there = λ h. there; first_of = e }

  pub not_plain : (first (refusals_told limits s o false) ≡ Some told → ⊥) → IsRefused limits s o told → IsTrue (is_there s o) × (first (refusals_told limits s o true) ≡ Some told)
  not_plain never r = by r.collides r.there r.first_of
    where
      by : (c : Bool) → (IsTrue c → IsTrue (is_there s o)) → first (refusals_told limits s o c) ≡ Some told → IsTrue (is_there s o) × (first (refusals_told limits s o true) ≡ Some told)
      by true there e = (there refl, e)
      by false there e = absurd (never e)

-- ---- the last entry

pub last_same : (before : List JournalEntry) → last_told before ≡ last_reply (map as_deed before)
last_same [] = refl
last_same (e ∷ []) = refl
last_same (e ∷ f ∷ before) = ap (λ n. option_map (λ (x : JournalEntry). x.reply) (slice_get (e ∷ f ∷ before) n)) (one_more e f before) ∙ last_same (f ∷ before)
  where
    one_more : (e f : JournalEntry) (before : List JournalEntry) → length (e ∷ f ∷ before) - 1 ≡ suc (length (f ∷ before) - 1)
    one_more e f before = grind (arith, common_steps)

-- ---- blocks and roots

module _ (limits : Limits) (s : Store) (name : List ℕ) (a : Address) (left : Store) where
  pub write_does : (pointers : List Address) (handle : ℕ) (told : Reply) → MayTake limits s name a pointers handle → told ≡ reply.New handle (epoch_at s a)
      → left ≡ (wrote s name a (record { pointers = pointers; bytes = [] })).store → (before : List DeedEntry) → Does limits s before (deed.Wrote name a pointers handle) told true left
  write_does pointers handle told may is kept before = record { found = λ h. wrote_found limits s name a pointers handle told may is; only = λ h. refl; leaves = λ h. kept }

  pub write_not : (pointers : List Address) (handle : ℕ) (told : Reply) → (MayTake limits s name a pointers handle → told ≡ reply.New handle (epoch_at s a) → ⊥) → (before : List DeedEntry) → Does limits s before (deed.Wrote name a pointers handle) told false left
  write_not pointers handle told never before = does_not limits s before (deed.Wrote name a pointers handle) told left (λ h. never (wrote_only limits s name a pointers handle told h) h.reply)

  pub mark_does : (handle : ℕ) (told : Reply) → MayMark s name a handle → told ≡ reply.Dup handle (epoch_at s a)
      → left ≡ (wrote s name a (record { pointers = pointers_at s a; bytes = [] })).store → (before : List DeedEntry) → Does limits s before (deed.Marked name a handle) told true left
  mark_does handle told may is kept before = record { found = λ h. marked_found limits s name a handle told may is; only = λ h. refl; leaves = λ h. kept }

  pub mark_not : (handle : ℕ) (told : Reply) → (MayMark s name a handle → told ≡ reply.Dup handle (epoch_at s a) → ⊥) → (before : List DeedEntry) → Does limits s before (deed.Marked name a handle) told false left
  mark_not handle told never before = does_not limits s before (deed.Marked name a handle) told left (λ h. never (marked_only limits s name a handle told h) h.reply)

abbrev bytes_handles : List ℕ → Reply → List ℕ
bytes_handles none (reply.Bytes bytes handles) = handles
bytes_handles none other = none

module _ (limits : Limits) (s : Store) (name : List ℕ) (this : Held) (handles : List ℕ) (told : Reply) (left : Store) where
  -- the handles that a read gives are these, or they are not
  pub read_does : (answer : Reply) (is : Bool) → MayRead s name this → HasHandles told handles → answer ≡ (read s name this).reply → left ≡ (read s name this).store
      → (IsTrue is → HasHandles answer handles) → (HasHandles answer handles → IsTrue is) → (before : List DeedEntry) → Does limits s before (deed.ReadBlock name this.address this.epoch handles) told is left
  read_does answer is may has same kept found only before = record {
    found = λ h. record {
      handle = may.handle;
      held = may.held;
      fresh = may.fresh;
      next = ap (λ r. bytes_handles [] r) (sym (found h).reply ∙ same);
      bytes = has.bytes;
      reply = has.reply;
    };
    only = λ h. only (record { bytes = bytes_of (block_at s this.address); reply = same ∙ ap (λ z. reply.Bytes (bytes_of (block_at s this.address)) z) (sym h.next) });
    leaves = λ h. kept;
  }

  pub read_not : (MayRead s name this → HasHandles told handles → ⊥) → (before : List DeedEntry) → Does limits s before (deed.ReadBlock name this.address this.epoch handles) told false left
  read_not never before = does_not limits s before (deed.ReadBlock name this.address this.epoch handles) told left
      (λ h. never (record { handle = h.handle; held = h.held; fresh = h.fresh }) (record { bytes = h.bytes; reply = h.reply }))

module _ (limits : Limits) (s : Store) (key : List ℕ) (a : Address) (told : Reply) (left : Store) where
  pub root_does : IsHeldFresh s (root_epoch s key) a → told ≡ reply.Ok → first (key_taken s key a ∷ roots_full limits s key ∷ []) ≡ None → left ≡ (rooted s key a).store
      → (before : List DeedEntry) → Does limits s before (deed.Rooted key a) told true left
  root_does held is free kept before = record { found = λ h. record { held = held; granted = free; reply = is }; only = λ h. refl; leaves = λ h. kept }

  pub root_not : (IsHeldFresh s (root_epoch s key) a → told ≡ reply.Ok → first (key_taken s key a ∷ roots_full limits s key ∷ []) ≡ None → ⊥) → (before : List DeedEntry) → Does limits s before (deed.Rooted key a) told false left
  root_not never before = does_not limits s before (deed.Rooted key a) told left (λ h. never h.held h.reply h.granted)

-- ---- notes, and what is refused

module _ (limits : Limits) (s : Store) (before : List DeedEntry) (told : Reply) (is : Bool) where
  pub note_does : (IsTrue is → IsNote s before told) → (IsNote s before told → IsTrue is) → Does limits s before deed.Nothing told is s
  note_does found only = record { found = found; only = only; leaves = λ h. refl }

  pub refused_does : (o : Asked) → (IsTrue is → MayBeRefused limits s before o told) → (MayBeRefused limits s before o told → IsTrue is) → Does limits s before (deed.Refused o) told is s
  refused_does o found only = record { found = found; only = only; leaves = λ h. refl }

  -- an operation that a deed tells whole
  pub judged_does : (o : Op) (d : Deed) (left : Store) → operation_of d ≡ Some o → (IsTrue is → IsJudged limits s o d told) → (IsJudged limits s o d told → IsTrue is) → left ≡ (judge limits s o).store → Does limits s before d told is left
  judged_does o d left e found only kept =
      let w = whole limits s d o told before e in
      record { found = λ h. w.found (found h); only = λ h. only (w.only h); leaves = λ h. kept ∙ w.leaves (found h) }
