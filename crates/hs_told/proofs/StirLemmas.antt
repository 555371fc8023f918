-- What operations keep where they wait, are answered or start again, each event keeps.
use Rattle.std.proofs.Common.{◌≡◌, ◌∙◌, sym, ap, ℕ, false, List, Option, Some, None, refl}
use Rattle.hs_anatomy.proofs.EventLemmas.{does_acts, opening_acts}
use Rattle.hs_anatomy.proofs.StillLemmas.{kept_still, strokes_keep}
use Rattle.hs_anatomy.proofs.StrokeLemmas.{strokes_of}
use Rattle.hs_anatomy.specs.Kept.{Kept, kept_of}
use Rattle.hs_anatomy.specs.Refusing.{refusal_in}
use Rattle.hs_anatomy.specs.Strokes.{Adds, Answers, AtFirst, IsNoted, IsStepOf, IsStill, Notes, OfDisk, OfDone, OfEntering, OfFound, OfRefusal, OfSweep, Renews, Seen, Stroke, TakesOut, Waits, renewed}
use Rattle.hs_answered.proofs.RefusalLemmas.{IsNotBusy}
use Rattle.hs_awaiting.specs.declared.next.Next.{Next}
use Rattle.hs_awaiting.specs.declared.next.Next.TheVariants as next
use Rattle.hs_awaiting.specs.declared.waiting.Waiting.{Waiting}
use Rattle.hs_awaiting.specs.Going.{next_step}
use Rattle.hs_core_words.specs.Changing.{change_group, note, put_operation, set_viewed}
use Rattle.hs_core_words.specs.declared.event.Event.{Event}
use Rattle.hs_core_words.specs.declared.event.Event.TheVariants as event
use Rattle.hs_core_words.specs.Looking.{group_of, operation_of}
use Rattle.hs_core_words.specs.Opening.{begin_views, note_down}
use Rattle.hs_core_words.specs.Operating.{answer}
use Rattle.hs_core_words.specs.State.{Core}
use Rattle.hs_core_words.specs.Step.{do_event}
use Rattle.hs_core_words.specs.Views.{restart, restart_at}
use Rattle.hs_journal.specs.declared.entry.Who.{Who}
use Rattle.hs_journal.specs.declared.entry.Who.TheVariants as who
use Rattle.hs_limits.specs.declared.address.Address.{Address}
use Rattle.hs_model.specs.declared.deed.Deed.{Deed}
use Rattle.hs_model.specs.declared.op.Op.{Op}
use Rattle.hs_model.specs.declared.reply.Reply.{Reply}
use Rattle.hs_ops.specs.declared.step.OpStep.TheVariants as step
use Rattle.hs_ops.specs.Operations.{Operation}
use Rattle.hs_ops.specs.Views.{OpView}
use Rattle.hs_replica.specs.Group.{last_number, renew}
use Rattle.hs_told.proofs.CalmLemmas.{bytes_calm, effect_calm, go_calm}
use Rattle.hs_told.specs.Part.{part_of}

-- what is kept where nothing of it changes, and where an operation waits, is answered or starts again, and where something is told of no line
pub record Stirs (P : Core → Type 0) : Type 0 where
  pub beside : (c d : Core) → part_of d ≡ part_of c → P c → P d
  pub waits : (line : ℕ) (w was : Waiting) (c : Core) → operation_of line c ≡ Some was → w.operation.op ≡ was.operation.op → P c → P (put_operation line w c)
  pub answers : (line : ℕ) (w was : Waiting) (told : Reply) (c : Core) → operation_of line c ≡ Some was → w.operation.op ≡ was.operation.op → IsNotBusy told → P c → P (answer line w told c)
  pub restarts : (shard last : ℕ) (c : Core) → P c → P (restart_at shard last c)
  pub notes : (of : Who) (did : Deed) (told : Reply) (c : Core) → ((n : ℕ) → of ≡ who.Line n → ⊥) → P c → P (note of did told c)

-- nothing of it changes where catalogues, sessions, operations and what is told stay
pub part_still : (a b : Core) → kept_of b ≡ kept_of a → part_of b ≡ part_of a
part_still a b same =
    ap (λ (k : Kept). record { sessions = k.sessions; operations = k.operations; journal = k.journal; entries = k.entries; refused = k.refused; moment = k.moment; event_line = k.event_line }) same

-- no event but a client's line answers that a session is busy
step_calm : (how : Next) (pointers : List Address) (v : OpView) (operation : Operation) (r : Reply) → v.busy ≡ None → next_step how pointers v operation ≡ step.Answer r → IsNotBusy r
step_calm next.Go pointers v operation r free is = go_calm v operation r free is
step_calm (next.Bytes bytes) pointers v operation r free is = bytes_calm v bytes pointers operation r free is
step_calm (next.Effect did) pointers v operation r free is = effect_calm v did operation r free is

module _ {e : Option Event} (calm : (line : ℕ) (o : Op) → e ≡ Some (event.Line line o) → ⊥) where
  answer_calm : (a : Core) (line : ℕ) (w : Waiting) (r : Reply) → IsStepOf e a line w (step.Answer r) → IsNotBusy r
  answer_calm a line w r (Seen how pointers is) = step_calm how pointers _ w.operation r refl (sym is)
  answer_calm a line w r (AtFirst o v first is) = absurd (calm line o first)

  module _ {s : Core} (allowed : (now : Event) (r : Reply) → e ≡ Some now → refusal_in now s ≡ Some r → ⊥) where
    -- what is noted is of no line
    noted_calm : (a : Core) (of : Who) (did : Deed) (told : Reply) → IsNoted s e a of did told → (n : ℕ) → of ≡ who.Line n → ⊥
    noted_calm a of did told (OfRefusal now refusal is why) n line = allowed now refusal is why
    noted_calm a of did told (OfDisk by peer is) n line = cc line
    noted_calm a of did told (OfFound peer is bad) n line = cc line
    noted_calm a of did told (OfSweep shard removed low) n line = cc line
    noted_calm a of did told (OfDone epoch) n line = cc line
    noted_calm a of did told (OfEntering shard epoch low) n line = cc line

    module _ {P : Core → Type 0} (S : Stirs P) where
      stirred : (a b : Core) → Stroke s e a b → P a → P b
      stirred a b (IsStill x) p = S.beside a b (part_still a b (kept_still x)) p
      stirred a b (Notes {of = of} {did = did} {told = told} x) p = S.notes of did told a (noted_calm a of did told x) p
      stirred a b (Adds line o start is) p = absurd (calm line o is)
      stirred a b (Waits line w was at one) p = S.waits line w was a at one.op p
      stirred a b (Answers line w was told at one by) p = S.answers line w was told a at one.op (answer_calm a line was told by) p
      stirred a b (TakesOut shard number entry next) p = S.beside a b refl p
      stirred a b (Renews shard) p =
          let two : Core = change_group shard (renew a.members) (set_viewed shard false a) in
          S.beside (restart shard two) (renewed shard a) refl (S.restarts shard (last_number (group_of shard two)) two (S.beside a two refl p))

module _ {P : Core → Type 0} (S : Stirs P) where
  -- an event that is no client's line and is not refused
  pub stays_event : (x : Event) (c : Core) → ((line : ℕ) (o : Op) → x ≡ event.Line line o → ⊥) → refusal_in x c ≡ None → P c → P (do_event x c)
  stays_event x c other none p =
      strokes_keep P (stirred (λ line o is. other line o (cc is)) (λ now r is why. cc (sym why ∙ ap (λ y. refusal_in y c) (event_is now is) ∙ none)) S) (do_event x c) (strokes_of (does_acts c x)) p
    where
      event_is : (now : Event) → Some x ≡ Some now → now ≡ x
      event_is now is = cc is

  -- and what a core makes of that with which it opens
  pub stays_open : (c : Core) → P c → P (note_down (begin_views c))
  stays_open c p = strokes_keep P (stirred {e = None} (λ line o is. cc is) {s = c} (λ now r is why. cc is) S) (note_down (begin_views c)) (strokes_of (opening_acts c)) p
