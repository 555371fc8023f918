-- What single changes of a core tell: answers of clients' lines, and entries that tell neither of a sweep nor of the end of a run.
use Rattle.std.proofs.Common.{◌≡◌, ◌∙◌, ◌⊎◌, inl, inr, sym, ap, ℕ, Bool, true, false, cond, List, [], ◌∷◌, ◌++◌, Option, Some, None, IsSome, refl, append_assoc, append-nil, is_some}
use Rattle.std.specs.List.{AllByRecursion}
use Rattle.hs_standing.specs.Changes.{tells_at_once, told_at_once}
use Rattle.hs_awaiting.specs.declared.wait.Wait.TheVariants as wait
use Rattle.hs_awaiting.specs.declared.waiting.Waiting.{Waiting}
use Rattle.hs_awaiting.specs.Words.{change_with}
use Rattle.hs_core_words.specs.Asking.{send_round}
use Rattle.hs_core_words.specs.Changing.{add_operation, change_group, note, post, set_viewed}
use Rattle.hs_core_words.specs.Effects.{note_enter, round_messages, tell_enter, tell_operation}
use Rattle.hs_core_words.specs.Looking.{catalogue_of, group_of, operation_of, shape_of}
use Rattle.hs_core_words.specs.Operating.{begin_line, busy_line, go_on_with, propose_entry, take_step}
use Rattle.hs_core_words.specs.Seeing.{view_for}
use Rattle.hs_core_words.specs.State.{Core}
use Rattle.hs_core_words.specs.Views.{begin_view, restart}
use Rattle.hs_settled.proofs.ReplyLemmas.{IsNoSweep, answer_no_sweep}
use Rattle.hs_desk.specs.declared.what.What.{What}
use Rattle.hs_desk.specs.declared.what.What.TheVariants as what
use Rattle.hs_effects.specs.Taking.{done_by, taken}
use Rattle.hs_entry.specs.declared.entry.Entry.{Entry}
use Rattle.hs_entry.specs.declared.entry.Entry.TheVariants as kind
use Rattle.hs_journal.specs.declared.entry.JournalEntry.{JournalEntry}
use Rattle.hs_journal.specs.declared.entry.Who.{Who}
use Rattle.hs_journal.specs.declared.entry.Who.TheVariants as who
use Rattle.hs_journal.specs.Events.{client_op}
use Rattle.hs_standing.proofs.MuteLemmas.{Books, Words, books_of, proposed_books, proposed_words, step_books, step_stays}
use Rattle.hs_standing.specs.Telling.{told_so_far}
use Rattle.hs_members.specs.Members.{view_of}
use Rattle.hs_model.specs.declared.command.Command.{Command}
use Rattle.hs_model.specs.declared.deed.Deed.{Deed}
use Rattle.hs_model.specs.declared.deed.Deed.TheVariants as deed
use Rattle.hs_model.specs.declared.op.Op.{Op}
use Rattle.hs_model.specs.declared.reply.Reply.{Reply}
use Rattle.hs_model.specs.declared.reply.Reply.TheVariants as reply
use Rattle.hs_ops.specs.Answers.{deed_of}
use Rattle.hs_ops.specs.declared.step.OpStep.{OpStep}
use Rattle.hs_ops.specs.declared.step.OpStep.TheVariants.{Answer, Compare, Propose, Wait}
use Rattle.hs_ops.specs.Operations.{Operation, effect_step, go_step, new_operation}
use Rattle.hs_ops.specs.Speaking.{judging_shard}
use Rattle.hs_ops.specs.Views.{OpView}
use Rattle.hs_replica.specs.Group.{renew, renewal}
use Rattle.hs_rounds.specs.Rounds.{sent_back}
use Rattle.hs_shard.specs.declared.effect.Effect.{Effect}
use Rattle.hs_shard.specs.Rounds.{messages}
use Rattle.hs_swept.specs.Swept.{IsOther}

-- ---- entries

-- an entry tells what the operation of a client's line was answered
pub record IsSpoken (commands : ℕ → Option Command) (e : JournalEntry) : Type 0 where
  pub line : ℕ
  pub of : e.who ≡ who.Line line
  pub client : IsSome (client_op (commands line))
  pub did : IsNoSweep e.deed

-- or it tells neither of a sweep nor of the end of a run
abbrev pub IsPlain : (ℕ → Option Command) → JournalEntry → Type 0
IsPlain commands e = IsSpoken commands e ⊎ IsOther e

-- a core has told what another had told, and then entries of a kind
pub record Says (P : JournalEntry → Type 0) (a b : Core) : Type 0 where
  pub more : List JournalEntry
  pub told : told_so_far b ≡ told_so_far a ++ more
  pub each : AllByRecursion P more

-- ---- what was told

abbrev noted : Who → Deed → Reply → Core → JournalEntry
noted of did told c = record { who = of; moment = c.moment; deed = did; reply = told }

pub noted_told : (of : Who) (did : Deed) (told : Reply) (c : Core) → told_so_far (note of did told c) ≡ told_so_far c ++ record { who = of; moment = c.moment; deed = did; reply = told } ∷ []
noted_told of did told c = sym (append_assoc (c.journal ++ c.refused) c.entries (noted of did told c ∷ []))

pub same_told : (a b : Core) → books_of b ≡ books_of a → b.entries ≡ a.entries → told_so_far b ≡ told_so_far a
same_told a b books entries =
    ap (λ (x : Books). (x.journal ++ x.refused) ++ b.entries) books ∙ ap (λ (es : List JournalEntry). (a.journal ++ a.refused) ++ es) entries

pub more_told : (a b : Core) (more : List JournalEntry) → books_of b ≡ books_of a → b.entries ≡ a.entries ++ more → told_so_far b ≡ told_so_far a ++ more
more_told a b more books entries =
    ap (λ (x : Books). (x.journal ++ x.refused) ++ b.entries) books ∙ ap (λ (es : List JournalEntry). (a.journal ++ a.refused) ++ es) entries
    ∙ sym (append_assoc (a.journal ++ a.refused) a.entries more)

pub says_nothing : (P : JournalEntry → Type 0) (a b : Core) → told_so_far b ≡ told_so_far a → Says P a b
says_nothing P a b same = record { more = []; told = same ∙ sym (append-nil (told_so_far a)); each = tt }

pub says_note : (P : JournalEntry → Type 0) (of : Who) (did : Deed) (told : Reply) (c : Core) → P (record { who = of; moment = c.moment; deed = did; reply = told }) → Says P c (note of did told c)
says_note P of did told c p = record { more = noted of did told c ∷ []; told = noted_told of did told c; each = (p, tt) }

-- an entry that is proposed
pub proposed_told : (shard : ℕ) (entry : Entry) (c : Core) → told_so_far (propose_entry shard entry c) ≡ told_so_far c
proposed_told shard entry c = same_told c (propose_entry shard entry c) (proposed_books shard entry c) (ap (λ (x : Words). x.entries) (proposed_words shard entry c))

-- rounds that are sent again
pub again_told : (back shard : ℕ) (c : Core) → told_so_far (send_round back shard c) ≡ told_so_far c
again_told back shard c = by_round (sent_back back (catalogue_of shard c).run)
  where
    by_round : (at : Option (ℕ × ℕ)) → told_so_far (change_with at (λ r. post (round_messages shard (messages (catalogue_of shard c).shape.shards r.0 r.1 (catalogue_of shard c).run))) c) ≡ told_so_far c
    by_round None = refl
    by_round (Some r) = refl

-- a first view
pub view_told : (shard : ℕ) (c : Core) → told_so_far (begin_view shard c) ≡ told_so_far c
view_told shard c =
    let cut : Core = change_group shard (renew c.members) (set_viewed shard false c) in
    let posted : Core = post (renewal (group_of shard (restart shard cut))) (restart shard cut) in
    proposed_told shard (kind.View (view_of shard posted.members)) posted

-- an entry is no Got
abbrev pub IsNoGot : Entry → Type 0
IsNoGot (kind.Got from epoch round total deltas) = ⊥
IsNoGot other = Unit {0}

-- ---- operations

module _ (commands : ℕ → Option Command) where
  pub step_says : (line : ℕ) (w : Waiting) (s : OpStep) (c : Core) → IsSome (client_op (commands line)) → Says (IsPlain commands) c (take_step line w s c)
  step_says line w s c client = by_step s
    where
      quietly : (t : OpStep) → ((r : Reply) → t ≡ Answer r → ⊥) → Says (IsPlain commands) c (take_step line w t c)
      quietly t never = says_nothing (IsPlain commands) c (take_step line w t c) (same_told c (take_step line w t c) (step_books line w t c) (ap (λ (x : Words). x.entries) (step_stays line w t c never).words))

      by_step : (t : OpStep) → Says (IsPlain commands) c (take_step line w t c)
      by_step (Answer r) =
          let e : JournalEntry = noted (who.Line line) (deed_of c.sessions w.operation.op r) r c in
          record {
            more = e ∷ [];
            told = more_told c (take_step line w (Answer r) c) (e ∷ []) refl refl;
            each = (inl (record { line = line; of = refl; client = client; did = answer_no_sweep c.sessions w.operation.op r }), tt);
          }
      by_step (Propose entry) = quietly (Propose entry) (λ r h. cc h)
      by_step (Compare number) = quietly (Compare number) (λ r h. cc h)
      by_step Wait = quietly Wait (λ r h. cc h)

  pub go_on_says : (next : OpView → Operation → OpStep) (line : ℕ) (c : Core) → ((w : Waiting) → operation_of line c ≡ Some w → IsSome (client_op (commands line))) → Says (IsPlain commands) c (go_on_with next line c)
  go_on_says next line c client = go (operation_of line c) refl
    where
      go : (o : Option Waiting) → operation_of line c ≡ o → Says (IsPlain commands) c (change_with o (λ w. take_step line w (next (view_for w.shard w.operation.op c) w.operation)) c)
      go None e = says_nothing (IsPlain commands) c c refl
      go (Some w) e = step_says line w (next (view_for w.shard w.operation.op c) w.operation) c (client w e)

  -- a client's line
  pub line_says : (line : ℕ) (o : Op) (c : Core) → IsSome (client_op (commands line)) → Says (IsPlain commands) c (begin_line line o c)
  line_says line o c client = record { more = s.more; told = s.told; each = s.each }
    where
      begun : Core
      begun = record c { progress = record c.progress { last_line = line } }

      w : Waiting
      w = record { operation = new_operation line o; shard = judging_shard (shape_of c).shards c.sessions o; wait = wait.View }

      v : OpView
      v = record (view_for (judging_shard (shape_of c).shards c.sessions o) o begun) { busy = busy_line o c }

      s : Says (IsPlain commands) (add_operation line w begun) (take_step line w (go_step v w.operation) (add_operation line w begun))
      s = step_says line w (go_step v w.operation) (add_operation line w begun) client

  -- ---- an entry that takes effect, but for a Got

  enter_says : (shard : ℕ) (did : What) (c : Core) → Says (IsPlain commands) c (note_enter shard did c)
  enter_says shard what.Nothing c = says_nothing (IsPlain commands) c c refl
  enter_says shard (what.Viewed view) c = says_nothing (IsPlain commands) c c refl
  enter_says shard what.Stored c = says_nothing (IsPlain commands) c c refl
  enter_says shard what.Marked c = says_nothing (IsPlain commands) c c refl
  enter_says shard what.Again c = says_nothing (IsPlain commands) c c refl
  enter_says shard what.Rooted c = says_nothing (IsPlain commands) c c refl
  enter_says shard what.Dropped c = says_nothing (IsPlain commands) c c refl
  enter_says shard (what.Entered epoch) c =
      says_note (IsPlain commands) (who.Shard shard) (deed.Entered shard) (reply.Enter epoch) c (inr (record { no_sweep = λ g is. cc is; no_done = λ n is. cc is }))
  enter_says shard what.Refused c = says_nothing (IsPlain commands) c c refl

  tell_enter_says : (shard line : ℕ) (did : What) (c : Core) → ((w : Waiting) → operation_of line c ≡ Some w → IsSome (client_op (commands line))) → Says (IsPlain commands) c (tell_enter shard line did c)
  tell_enter_says shard line did c client = go (is_some (operation_of line c))
    where
      go : (b : Bool) → Says (IsPlain commands) c (cond b (tell_operation line did c) (note_enter shard did c))
      go true = go_on_says (λ v o. effect_step v did o) line c client
      go false = enter_says shard did c

  at_once_says : (shard : ℕ) (entry : Entry) (effect : Effect) (c : Core) → IsNoGot entry → ((line : ℕ) (w : Waiting) → operation_of line c ≡ Some w → IsSome (client_op (commands line)))
      → Says (IsPlain commands) c (tells_at_once shard entry effect c)
  at_once_says shard (kind.View view) effect c no_got client = says_nothing (IsPlain commands) c c refl
  at_once_says shard (kind.Block line least bytes) effect c no_got client = go_on_says (λ v o. effect_step v effect.what o) line c (client line)
  at_once_says shard (kind.Mark line least block a) effect c no_got client = go_on_says (λ v o. effect_step v effect.what o) line c (client line)
  at_once_says shard (kind.Root line held a key) effect c no_got client = go_on_says (λ v o. effect_step v effect.what o) line c (client line)
  at_once_says shard (kind.Drop line key) effect c no_got client = go_on_says (λ v o. effect_step v effect.what o) line c (client line)
  at_once_says shard (kind.Enter line epoch) effect c no_got client = tell_enter_says shard line effect.what c (client line)
  at_once_says shard (kind.Got from epoch round total deltas) effect c no_got client = absurd no_got
  at_once_says shard (kind.Base view epoch swept round frames) effect c no_got client = says_nothing (IsPlain commands) c c refl
  at_once_says shard (kind.KeptBlock born mark flags count bytes) effect c no_got client = says_nothing (IsPlain commands) c c refl
  at_once_says shard (kind.KeptRoot created dropped counted address key) effect c no_got client = says_nothing (IsPlain commands) c c refl
  at_once_says shard (kind.KeptRound way other epoch round total deltas) effect c no_got client = says_nothing (IsPlain commands) c c refl

  pub effect_says : (shard : ℕ) (entry : Entry) (c : Core) → IsNoGot entry → ((line : ℕ) (w : Waiting) → operation_of line c ≡ Some w → IsSome (client_op (commands line)))
      → Says (IsPlain commands) c (told_at_once shard entry c)
  effect_says shard entry c no_got client = record { more = s.more; told = s.told; each = s.each }
    where
      s : Says (IsPlain commands) (taken shard entry c) (told_at_once shard entry c)
      s = at_once_says shard entry (done_by shard entry c).effect (taken shard entry c) no_got client
