-- What each event adds to what was told, and that the note of a disk that failed has the line of the last event that had one.
use Rattle.std.proofs.Common.{◌≡◌, ◌⊎◌, inl, inr, ◌∙◌, sym, ap, subst, ℕ, ◌+◌, ◌<◌, ◌≤◌, ◌==◌, ◌++◌, Bool, true, false, cond, length, List, [], ◌∷◌, Option, Some, None, IfSome, refl, arith, is_none, nat_lt}
use Rattle.std.proofs.lemmas.Bool.{ltb-false, ltb-true}
use Rattle.std.proofs.lemmas.List.{append-nil, length-append}
use Rattle.std.specs.List.{AllByRecursion}
use Rattle.std.specs.Option.{option_map}
use Rattle.hs_awaiting.specs.Words.{change_if}
use Rattle.hs_core_words.specs.Changing.{change_pool, refuse}
use Rattle.hs_core_words.specs.declared.event.Event.{Event}
use Rattle.hs_core_words.specs.declared.event.Event.TheVariants as event
use Rattle.hs_core_words.specs.Looking.{lost_shard, shape_of}
use Rattle.hs_core_words.specs.State.{Core}
use Rattle.hs_core_words.specs.Step.{begin_event, do_event, end_event, keep_entries, line_of, refuse_entries, run_event, step}
use Rattle.hs_desk.specs.declared.done.Done.TheVariants as done
use Rattle.hs_desk.specs.declared.fault.CoreFault.TheVariants as fault
use Rattle.hs_journal.specs.declared.entry.JournalEntry.{JournalEntry}
use Rattle.hs_journal.specs.declared.entry.Who.TheVariants as who
use Rattle.hs_journal.specs.Notes.{down_in}
use Rattle.hs_limits.specs.declared.limits.Limits.{Limits}
use Rattle.hs_limits.specs.declared.shape.Shape.{Shape}
use Rattle.hs_model.specs.declared.command.Command.{Command}
use Rattle.hs_model.specs.declared.deed.Deed.TheVariants as deed
use Rattle.hs_model.specs.declared.reply.Reply.{Reply}
use Rattle.hs_model.specs.declared.reply.Reply.TheVariants as reply
use Rattle.hs_settled.proofs.CalmLemmas.{IsNoNote, refusal_tells}
use Rattle.hs_settled.proofs.NotedEventLemmas.{line_then}
use Rattle.hs_settled.proofs.NotingLemmas.{all_append}
use Rattle.hs_settled.proofs.RefusalLemmas.{ended_told}
use Rattle.hs_settled.proofs.NotedWalkLemmas.{Tells, tells_event}
use Rattle.hs_settled.specs.Noted.{IsNoted}
use Rattle.hs_ops.specs.Answers.{deed_of}
use Rattle.hs_post.specs.Pool.{restart_numbers}
use Rattle.hs_told.specs.InTurn.{told_of}

-- ---- while an event is done

-- shape, limits, lists, journal and line are as they were, nothing was refused, and of each entry that was told something holds
pub record Adding (shape : Shape) (limits : Limits) (before : List JournalEntry) (last : ℕ) (Q : JournalEntry → Type 0) (c : Core) : Type 0 where
  pub shaped : shape_of c ≡ shape
  pub limited : c.limits ≡ limits
  pub groups : length c.groups ≡ shape.shards
  pub line : c.progress.event_line ≡ last
  pub journal : c.journal ≡ before
  pub refused : c.refused ≡ []
  pub entries : AllByRecursion Q c.entries

module _ (shape : Shape) (limits : Limits) (before : List JournalEntry) (last : ℕ) (Q : JournalEntry → Type 0) (quiet : (e : JournalEntry) → IsNoNote e.reply → Q e) where
  abbrev pub A : Core → Type 0
  A c = Adding shape limits before last Q c

  more : (c : Core) (e : JournalEntry) → Q e → A c → A (record c { entries = c.entries ++ e ∷ [] })
  more c e q p = record {
    shaped = p.shaped;
    limited = p.limited;
    groups = p.groups;
    line = p.line;
    journal = p.journal;
    refused = p.refused;
    entries = all_append Q c.entries (e ∷ []) p.entries (q, tt);
  }

  pub adding_tells : Tells shape (λ (c : Core). Adding shape limits before last Q c)
  adding_tells = record {
    beside = λ c d s p. record {
      shaped = s.shape ∙ p.shaped;
      limited = s.limits ∙ p.limited;
      groups = s.groups ∙ p.groups;
      line = s.line ∙ p.line;
      journal = s.journal ∙ p.journal;
      refused = s.refused ∙ p.refused;
      entries = subst (λ (es : List JournalEntry). AllByRecursion Q es) (sym s.entries) p.entries;
    };
    groups = λ c p. p.groups;
    waits = λ line w was c at p. record { shaped = p.shaped; limited = p.limited; groups = p.groups; line = p.line; journal = p.journal; refused = p.refused; entries = p.entries };
    answers = λ line w was told c at calm p.
        let entry : JournalEntry = record { who = who.Line line; moment = c.moment; deed = deed_of c.sessions w.operation.op told; reply = told } in
        record {
          shaped = p.shaped;
          limited = p.limited;
          groups = p.groups;
          line = p.line;
          journal = p.journal;
          refused = p.refused;
          entries = all_append Q c.entries (entry ∷ []) p.entries (quiet entry calm, tt);
        };
    restarts = λ shard number c p. record { shaped = p.shaped; limited = p.limited; groups = p.groups; line = p.line; journal = p.journal; refused = p.refused; entries = p.entries };
    sweeps = λ shard epoch removed c low p.
        let entry : JournalEntry = record { who = who.Shard shard; moment = c.moment; deed = deed.Swept shard; reply = reply.Sweep epoch removed } in
        more c entry (quiet entry refl) p;
    enters = λ shard epoch c low p.
        let entry : JournalEntry = record { who = who.Shard shard; moment = c.moment; deed = deed.Entered shard; reply = reply.Enter epoch } in
        more c entry (quiet entry refl) p;
    dones = λ epoch c p.
        let entry : JournalEntry = record { who = who.Store; moment = c.moment; deed = deed.Nothing; reply = reply.Done epoch } in
        more c entry (quiet entry refl) p;
  }

  -- a line's refusal is no note
  refused_adds : (line : ℕ) (r : Reply) (c : Core) → IsNoNote r → A c → A (refuse line r c)
  refused_adds line r c none p =
      let entry : JournalEntry = record { who = who.Line line; moment = c.moment; deed = deed.Nothing; reply = r } in
      more c entry (quiet entry none) p

  -- whatever an event does, where its note is such an entry
  pub adds_do : (e : Event) (c : Core) → ((peer disk moment : ℕ) → e ≡ event.Report peer (done.Failed disk) → Q (record { who = who.Store; moment = moment; deed = deed.Nothing; reply = reply.Down disk last })) → A c → A (do_event e c)
  adds_do e c may p = tells_event adding_tells e c (λ line o is. record { shaped = p.shaped; limited = p.limited; groups = p.groups; line = p.line; journal = p.journal; refused = p.refused; entries = p.entries })
      (λ r why. refused_adds (line_of e) r c (refusal_tells e c r why) p)
      (λ by disk is x q. more x (record { who = who.Store; moment = x.moment; deed = deed.Nothing; reply = reply.Down disk x.progress.event_line })
      (subst (λ n. Q (record { who = who.Store; moment = x.moment; deed = deed.Nothing; reply = reply.Down disk n })) (sym q.line) (may by disk x.moment is)) q) p

-- ---- how an event ends

-- by how it ended: a shard is lost or none, with nothing refused; or the journal had no room for what was told
pub record Ends (c : Core) : Type 0 where
  pub going : c.ended ≡ None → lost_shard c ≡ None
  pub clean : (shard : ℕ) → c.ended ≡ Some (fault.ShardLost shard) → c.refused ≡ []
  pub lost : (shard : ℕ) → c.ended ≡ Some (fault.ShardLost shard) → lost_shard c ≡ Some shard
  pub full : c.ended ≡ Some fault.OpsFull → c.limits.ops < length (told_of c)
  pub fits : length c.journal ≤ c.limits.ops

lost_is : (a b : ℕ) → Some (fault.ShardLost a) ≡ Some (fault.ShardLost b) → a ≡ b
lost_is a b e = cc e

full_lost : (a : ℕ) → Some fault.OpsFull ≡ Some (fault.ShardLost a) → ⊥
full_lost a e = cc e

lost_full : (a : ℕ) → Some (fault.ShardLost a) ≡ Some fault.OpsFull → ⊥
lost_full a e = cc e

pub ends_so : (c : Core) → c.refused ≡ [] → length c.journal ≤ c.limits.ops → Ends (end_event c)
ends_so c clean fits = go (nat_lt c.limits.ops (length c.journal + length c.entries)) refl
  where
    by_lost : nat_lt c.limits.ops (length c.journal + length c.entries) ≡ false → (o : Option ℕ) → lost_shard c ≡ o → Ends (record (keep_entries c) { ended = option_map fault.ShardLost o })
    by_lost room None e = record {
      going = λ k. e;
      clean = λ shard k. clean;
      lost = λ shard k. absurd (cc k);
      full = λ k. absurd (cc k);
      fits = let le : length c.journal + length c.entries ≤ c.limits.ops = ltb-false c.limits.ops (length c.journal + length c.entries) room in
          let both : length (c.journal ++ c.entries) ≡ length c.journal + length c.entries = length-append c.journal c.entries in omega (arith, le, both);
    }
    by_lost room (Some g) e = record {
      going = λ k. absurd (cc k);
      clean = λ shard k. clean;
      lost = λ shard k. e ∙ ap (λ x. Some x) (lost_is g shard k);
      full = λ k. absurd (lost_full g k);
      fits = let le : length c.journal + length c.entries ≤ c.limits.ops = ltb-false c.limits.ops (length c.journal + length c.entries) room in
          let both : length (c.journal ++ c.entries) ≡ length c.journal + length c.entries = length-append c.journal c.entries in omega (arith, le, both);
    }

    go : (b : Bool) → nat_lt c.limits.ops (length c.journal + length c.entries) ≡ b → Ends (cond b (refuse_entries c) (keep_entries c))
    go true e = record {
      going = λ k. absurd (cc k);
      clean = λ shard k. absurd (full_lost shard k);
      lost = λ shard k. absurd (full_lost shard k);
      full = λ k.
          let lt : c.limits.ops < length c.journal + length c.entries = ltb-true c.limits.ops (length c.journal + length c.entries) e in
          let both : length (c.journal ++ c.entries) ≡ length c.journal + length c.entries = length-append c.journal c.entries in omega (arith, lt, both);
      fits = fits;
    }
    go false e = by_lost e (lost_shard c) refl

-- ---- one event

-- what a note of an event may be: it is of the store, and has the line of the last event that had one, which the event leaves
abbrev pub IsLate : ℕ → ℕ → JournalEntry → Type 0
IsLate was is entry = IfSome (down_in entry.reply) (λ d. (entry.who ≡ who.Store) × (d.1 ≡ was) × (is ≡ was))

late_quiet : (was is : ℕ) (e : JournalEntry) → IsNoNote e.reply → IsLate was is e
late_quiet was is e none = subst (λ (o : Option (ℕ × ℕ)). IfSome o (λ d. (e.who ≡ who.Store) × (d.1 ≡ was) × (is ≡ was))) (sym none) tt

-- a journal goes on from another
pub record GoesOn (old new : List JournalEntry) : Type 0 where
  pub rest : List JournalEntry
  pub is : new ≡ old ++ rest

-- from a core to the one behind an event
pub record Grows (Q : JournalEntry → Type 0) (old new : Core) : Type 0 where
  pub more : List JournalEntry
  pub told : told_of new ≡ told_of old ++ more
  pub each : AllByRecursion Q more
  pub journal : GoesOn old.journal new.journal
  pub room : (new.refused ≡ []) ⊎ (new.journal ≡ old.journal)
  pub limits : new.limits ≡ old.limits
  pub shape : shape_of new ≡ shape_of old
  pub ends : Ends new

module _ (commands : ℕ → Option Command) (core : Core) (its : IsNoted commands core) (goes : core.ended ≡ None) (fits : length core.journal ≤ core.limits.ops) (e : Event) (moment : ℕ) where
  abbrev last : ℕ
  last = line_then (line_of e) core

  abbrev Q : JournalEntry → Type 0
  Q entry = IsLate core.progress.event_line last entry

  abbrev B : Core → Type 0
  B c = Adding (shape_of core) core.limits core.journal last Q c

  begun : B (begin_event (line_of e) moment core)
  begun = go _
    where
      none : AllByRecursion Q core.entries
      none = subst (λ (es : List JournalEntry). AllByRecursion Q es) (sym its.quiet) tt

      go : (b : Bool) → B (record (change_if b (change_pool restart_numbers) core) { moment = moment; progress = record core.progress { event_line = cond (line_of e == 0) core.progress.event_line (line_of e) } })
      go true = record { shaped = refl; limited = refl; groups = its.groups; line = refl; journal = refl; refused = its.going goes; entries = none }
      go false = record { shaped = refl; limited = refl; groups = its.groups; line = refl; journal = refl; refused = its.going goes; entries = none }

  abbrev done_core : Core
  done_core = do_event e (begin_event (line_of e) moment core)

  does : B done_core
  does = adds_do (shape_of core) core.limits core.journal last Q (late_quiet core.progress.event_line last) e (begin_event (line_of e) moment core) note begun
    where
      note : (peer disk at : ℕ) → e ≡ event.Report peer (done.Failed disk) → Q (record { who = who.Store; moment = at; deed = deed.Nothing; reply = reply.Down disk last })
      note peer disk at is = let same : last ≡ core.progress.event_line = ap (λ (x : Event). line_then (line_of x) core) is in (refl, same, same)

  before_is : told_of core ≡ core.journal
  before_is = ap (λ (es : List JournalEntry). core.journal ++ es) (its.going goes) ∙ append-nil core.journal

  run_grows : Grows Q core (run_event e moment core)
  run_grows = record {
    more = done_core.entries;
    told = ended_told done_core does.refused ∙ ap (λ (es : List JournalEntry). es ++ done_core.entries) (does.journal ∙ sym before_is);
    each = does.entries;
    journal = grown (nat_lt done_core.limits.ops (length done_core.journal + length done_core.entries));
    room = room_of (nat_lt done_core.limits.ops (length done_core.journal + length done_core.entries));
    limits = limits_of (nat_lt done_core.limits.ops (length done_core.journal + length done_core.entries));
    shape = shape_is (nat_lt done_core.limits.ops (length done_core.journal + length done_core.entries));
    ends = ends_so done_core does.refused
        (subst (λ (es : List JournalEntry). length es ≤ done_core.limits.ops) (sym does.journal)
        (subst (λ (l : Limits). length core.journal ≤ l.ops) (sym does.limited) fits));
  }
    where
      grown : (b : Bool) → GoesOn core.journal (cond b (refuse_entries done_core) (keep_entries done_core)).journal
      grown true = record { rest = []; is = does.journal ∙ sym (append-nil core.journal) }
      grown false = record { rest = done_core.entries; is = ap (λ (es : List JournalEntry). es ++ done_core.entries) does.journal }

      room_of : (b : Bool) → ((cond b (refuse_entries done_core) (keep_entries done_core)).refused ≡ []) ⊎ ((cond b (refuse_entries done_core) (keep_entries done_core)).journal ≡ core.journal)
      room_of true = inr does.journal
      room_of false = inl does.refused

      limits_of : (b : Bool) → (cond b (refuse_entries done_core) (keep_entries done_core)).limits ≡ core.limits
      limits_of true = does.limited
      limits_of false = does.limited

      shape_is : (b : Bool) → shape_of (cond b (refuse_entries done_core) (keep_entries done_core)) ≡ shape_of core
      shape_is true = does.shaped
      shape_is false = does.shaped

  pub step_grows : Grows (IsLate core.progress.event_line (line_then (line_of e) core)) core (step e moment core)
  step_grows = subst (λ (x : Core). Grows Q core x) (sym (ap (λ x. change_if (is_none x) (run_event e moment) core) goes)) run_grows
