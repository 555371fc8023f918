-- A line that is no client's is told its refusal where it is refused, and nothing of a line is told otherwise but clients' answers.
use Rattle.std.proofs.Common.{◌≡◌, ◌∙◌, sym, ap, subst, ℕ, ◌+◌, ◌==◌, ◌++◌, Bool, true, false, cond, List, [], ◌∷◌, length, Option, Some, None, IsSome, refl, is_none, nat_lt}
use Rattle.std.proofs.lemmas.List.{append-nil}
use Rattle.std.specs.BTreeMap.{is_at}
use Rattle.std.specs.List.{AllByRecursion}
use Rattle.std.specs.Map.{lookup}
use Rattle.std.specs.Ordering.{nat_cmp}
use Rattle.hs_answered.proofs.RefusalLemmas.{IsNotBusy}
use Rattle.hs_awaiting.specs.declared.waiting.Waiting.{Waiting}
use Rattle.hs_awaiting.specs.Views.{restarted}
use Rattle.hs_awaiting.specs.Words.{change_if}
use Rattle.hs_core_words.specs.Changing.{change_pool, note, put_operation, refuse}
use Rattle.hs_core_words.specs.declared.event.Event.{Event}
use Rattle.hs_core_words.specs.declared.event.Event.TheVariants as event
use Rattle.hs_core_words.specs.Looking.{operation_of}
use Rattle.hs_core_words.specs.Operating.{answer}
use Rattle.hs_core_words.specs.State.{Core}
use Rattle.hs_core_words.specs.Step.{begin_event, do_event, end_event, keep_entries, line_of, refuse_entries, run_event, step}
use Rattle.hs_core_words.specs.Views.{restart_at}
use Rattle.hs_journal.specs.declared.entry.JournalEntry.{JournalEntry}
use Rattle.hs_journal.specs.declared.entry.Who.{Who}
use Rattle.hs_journal.specs.declared.entry.Who.TheVariants as who
use Rattle.hs_journal.specs.Events.{client_op}
use Rattle.hs_model.specs.declared.command.Command.{Command}
use Rattle.hs_model.specs.declared.deed.Deed.{Deed}
use Rattle.hs_model.specs.declared.reply.Reply.{Reply}
use Rattle.hs_settled.proofs.NotingLemmas.{OfEach, all_append, lines_map, lines_remove, lines_set}
use Rattle.hs_settled.specs.Noted.{Adds, IsNoClients, IsNoted, IsOfClient, refusal_entry}
use Rattle.hs_ops.specs.Answers.{deed_of}
use Rattle.hs_post.specs.Pool.{restart_numbers}
use Rattle.hs_told.proofs.OrderLemmas.{IsOther, event_stays, refused_does, same_refusal}
use Rattle.hs_told.proofs.StirLemmas.{Stirs}
use Rattle.hs_told.specs.InTurn.{refusal_in, told_of}
use Rattle.hs_told.specs.Part.{Part, part_of}

-- ---- what an event begins with, and ends with

-- nothing that is told changes as it begins
pub record Begins (a b : Core) : Type 0 where
  pub journal : b.journal ≡ a.journal
  pub refused : b.refused ≡ a.refused
  pub entries : b.entries ≡ a.entries
  pub operations : b.operations ≡ a.operations

begins : (line moment : ℕ) (core : Core) → Begins core (begin_event line moment core)
begins line moment core = go _
  where
    go : (b : Bool) → Begins core (record (change_if b (change_pool restart_numbers) core) { moment = moment; progress = record core.progress { event_line = cond (line == 0) core.progress.event_line line } })
    go true = record { journal = refl; refused = refl; entries = refl; operations = refl }
    go false = record { journal = refl; refused = refl; entries = refl; operations = refl }

pub ended_told : (x : Core) → x.refused ≡ [] → told_of (end_event x) ≡ x.journal ++ x.entries
ended_told x none = go (nat_lt x.limits.ops (length x.journal + length x.entries))
  where
    go : (b : Bool) → told_of (cond b (refuse_entries x) (keep_entries x)) ≡ x.journal ++ x.entries
    go true = refl
    go false = ap (λ (es : List JournalEntry). (x.journal ++ x.entries) ++ es) none ∙ append-nil (x.journal ++ x.entries)

module _ (commands : ℕ → Option Command) (core : Core) (its : IsNoted commands core) (goes : core.ended ≡ None) (e : Event) (moment : ℕ) where
  abbrev b : Core
  b = begin_event (line_of e) moment core

  pub runs : step e moment core ≡ run_event e moment core
  runs = ap (λ x. change_if (is_none x) (run_event e moment) core) goes

  pub at_first : Begins core (begin_event (line_of e) moment core)
  at_first = begins (line_of e) moment core

  -- nothing was refused so far, and nothing was told of this event
  pub clean : (begin_event (line_of e) moment core).refused ≡ []
  clean = at_first.refused ∙ its.going goes

  pub before_is : told_of core ≡ core.journal
  before_is = ap (λ (es : List JournalEntry). core.journal ++ es) (its.going goes) ∙ append-nil core.journal

  -- ---- it is refused

  pub refused_tells : (r : Reply) → refusal_in e core ≡ Some r → told_of (step e moment core) ≡ told_of core ++ refusal_entry (line_of e) moment r ∷ []
  refused_tells r s =
      ap (λ (x : Core). told_of x) runs
      ∙ ap (λ (x : Core). told_of (end_event x)) (refused_does e b r (same_refusal e (line_of e) moment core ∙ s))
      ∙ ended_told (refuse (line_of e) r b) clean
      ∙ ap (λ (es : List JournalEntry). es ++ (b.entries ++ refusal_entry (line_of e) moment r ∷ [])) at_first.journal
      ∙ ap (λ (es : List JournalEntry). core.journal ++ (es ++ refusal_entry (line_of e) moment r ∷ [])) (at_first.entries ∙ its.quiet)
      ∙ ap (λ (es : List JournalEntry). es ++ refusal_entry (line_of e) moment r ∷ []) (sym before_is)

-- ---- it is not

-- operations are of clients' lines, and what is told of lines is clients'
pub record Here (commands : ℕ → Option Command) (p : Part) : Type 0 where
  pub asking : OfEach (λ n. IsSome (client_op (commands n))) p.operations
  pub entries : AllByRecursion (IsOfClient commands) p.entries

module _ (commands : ℕ → Option Command) where
  abbrev C : ℕ → Type 0
  C n = IsSome (client_op (commands n))

  waits_on : (line : ℕ) (w was : Waiting) (c : Core) → operation_of line c ≡ Some was → w.operation.op ≡ was.operation.op → Here commands (part_of c) → Here commands (part_of (put_operation line w c))
  waits_on line w was c at same p = record { asking = lines_set C c.operations p.asking line w was at; entries = p.entries }

  answers_on : (line : ℕ) (w was : Waiting) (told : Reply) (c : Core) → operation_of line c ≡ Some was → w.operation.op ≡ was.operation.op → IsNotBusy told → Here commands (part_of c) → Here commands (part_of (answer line w told c))
  answers_on line w was told c at same calm p = record {
    asking = lines_remove C c.operations p.asking line was at;
    entries = all_append (IsOfClient commands) c.entries (entry ∷ []) p.entries ((λ n is. subst C (of_line n is) (p.asking line was at)), tt);
  }
    where
      entry : JournalEntry
      entry = record { who = who.Line line; moment = c.moment; deed = deed_of c.sessions w.operation.op told; reply = told }

      of_line : (n : ℕ) → who.Line line ≡ who.Line n → line ≡ n
      of_line n is = cc is

  restarts_on : (shard last : ℕ) (c : Core) → Here commands (part_of c) → Here commands (part_of (restart_at shard last c))
  restarts_on shard last c p = record { asking = lines_map C c.operations p.asking (restarted shard last); entries = p.entries }

  notes_on : (of : Who) (did : Deed) (told : Reply) (c : Core) → ((n : ℕ) → of ≡ who.Line n → ⊥) → Here commands (part_of c) → Here commands (part_of (note of did told c))
  notes_on of did told c nobody p = record {
    asking = p.asking;
    entries = all_append (IsOfClient commands) c.entries (record { who = of; moment = c.moment; deed = did; reply = told } ∷ []) p.entries ((λ n is. absurd (nobody n is)), tt);
  }

  stirs_here : Stirs (λ (c : Core). Here commands (part_of c))
  stirs_here = record {
    beside = λ c d same p. subst (λ (x : Part). Here commands x) (sym same) p;
    waits = waits_on;
    answers = answers_on;
    restarts = restarts_on;
    notes = notes_on;
  }

no_clients : (e : Event) → IsNoClients e → IsOther e
no_clients (event.Line line o) h = h
no_clients (event.Report peer d) h = tt
no_clients (event.Turn line peer) h = tt
no_clients (event.Deliver line number) h = tt
no_clients (event.Lose line number) h = tt
no_clients (event.Repeat line number) h = tt
no_clients (event.Nudge line peer) h = tt
no_clients (event.Fail line peer) h = tt
no_clients (event.Start line peer) h = tt

-- whatever an event does, it keeps what was told before it
pub record Keeps (a c : Core) : Type 0 where
  pub journal : c.journal ≡ a.journal
  pub refused : c.refused ≡ a.refused

module _ (a : Core) where
  stirs_kept : Stirs (λ (c : Core). Keeps a c)
  stirs_kept = record {
    beside = λ c d same p. record { journal = ap (λ (x : Part). x.journal) same ∙ p.journal; refused = ap (λ (x : Part). x.refused) same ∙ p.refused };
    waits = λ line w was c at same p. record { journal = p.journal; refused = p.refused };
    answers = λ line w was told c at same calm p. record { journal = p.journal; refused = p.refused };
    restarts = λ shard last c p. record { journal = p.journal; refused = p.refused };
    notes = λ of did told c nobody p. record { journal = p.journal; refused = p.refused };
  }

pub allowed_tells : (commands : ℕ → Option Command) (core : Core) (its : IsNoted commands core) (goes : core.ended ≡ None) (e : Event) (moment : ℕ) → IsNoClients e → refusal_in e core ≡ None → Adds (IsOfClient commands) core (step e moment core)
allowed_tells commands core its goes e moment other free = record {
  more = done.entries;
  told =
      ap (λ (x : Core). told_of x) (runs commands core its goes e moment) ∙ ended_told done (kept.refused ∙ clean commands core its goes e moment)
      ∙ ap (λ (es : List JournalEntry). es ++ done.entries) (kept.journal ∙ at_first.journal ∙ sym (before_is commands core its goes e moment));
  each = here.entries;
}
  where
    first : Core
    first = begin_event (line_of e) moment core

    done : Core
    done = do_event e first

    at_first : Begins core first
    at_first = begins (line_of e) moment core

    allowed : refusal_in e first ≡ None
    allowed = same_refusal e (line_of e) moment core ∙ free

    kept : Keeps first done
    kept = event_stays (stirs_kept first) e first (no_clients e other) allowed (record { journal = refl; refused = refl })

    here : Here commands (part_of done)
    here = event_stays (stirs_here commands) e first (no_clients e other) allowed (record {
      asking = λ n w at. (its.asking n w (sym (ap (λ (es : List (ℕ × Waiting)). lookup (is_at (nat_cmp n)) es) at_first.operations) ∙ at)).1;
      entries = subst (λ (es : List JournalEntry). AllByRecursion (IsOfClient commands) es) (sym (at_first.entries ∙ its.quiet)) tt;
    })
