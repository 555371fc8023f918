-- What is told is kept by each event that is made of its single changes.
use Rattle.std.proofs.Common.{◌≡◌, ◌∙◌, sym, ap, subst, ℕ, ◌<◌, Bool, true, false, List, [], ◌∷◌, Option, Some, None, refl, length}
use Rattle.hs_anatomy.proofs.AsideLemmas.{kept_joining}
use Rattle.hs_anatomy.proofs.EventLemmas.{commit_acts, does_acts}
use Rattle.hs_anatomy.proofs.SizeLemmas.{sizes_joining, sizes_leave, sizes_still}
use Rattle.hs_anatomy.proofs.StepLemmas.{refused_is}
use Rattle.hs_anatomy.proofs.StillLemmas.{kept_still, strokes_keep}
use Rattle.hs_anatomy.proofs.StrokeLemmas.{strokes_change, strokes_of}
use Rattle.hs_anatomy.specs.Acts.{NoAct, fallen}
use Rattle.hs_anatomy.specs.Kept.{Kept, kept_of}
use Rattle.hs_anatomy.specs.Refusing.{refusal_in}
use Rattle.hs_anatomy.specs.Sizes.{Sizes, sizes_of}
use Rattle.hs_anatomy.specs.Strokes.{Adds, Answers, AtFirst, IsNoted, IsStepOf, IsStill, NoStroke, Notes, OfDisk, OfDone, OfEntering, OfFound, OfRefusal, OfSweep, Renews, Seen, Stroke, TakesOut, Waits, added, renewed}
use Rattle.hs_awaiting.specs.declared.next.Next.{Next}
use Rattle.hs_awaiting.specs.declared.next.Next.TheVariants as next
use Rattle.hs_awaiting.specs.declared.wait.Wait.TheVariants as wait
use Rattle.hs_awaiting.specs.declared.waiting.Waiting.{Waiting}
use Rattle.hs_awaiting.specs.Going.{next_step}
use Rattle.hs_awaiting.specs.Words.{change_if, each}
use Rattle.hs_core_words.specs.Changing.{add_operation, change_group, note, put_operation, refuse, set_catalogue, set_viewed}
use Rattle.hs_core_words.specs.declared.event.Event.{Event}
use Rattle.hs_core_words.specs.declared.event.Event.TheVariants as event
use Rattle.hs_core_words.specs.Effects.{commit, round_messages}
use Rattle.hs_core_words.specs.Failing.{commit_rest, fail_disk, leave}
use Rattle.hs_core_words.specs.Joining.{begin_joining, joining_peers}
use Rattle.hs_core_words.specs.Looking.{group_of, home, lead_of, operation_of, shape_of, status_of}
use Rattle.hs_core_words.specs.Operating.{answer}
use Rattle.hs_core_words.specs.State.{Core}
use Rattle.hs_core_words.specs.Step.{do_event, line_of}
use Rattle.hs_core_words.specs.Views.{change_view, restart, restart_at}
use Rattle.hs_desk.specs.declared.done.Done.TheVariants as done
use Rattle.hs_effects.specs.Taking.{done_by, taken}
use Rattle.hs_entry.specs.declared.entry.Entry.{Entry}
use Rattle.hs_journal.specs.declared.entry.Who.{Who}
use Rattle.hs_journal.specs.declared.entry.Who.TheVariants as who
use Rattle.hs_limits.specs.declared.address.Address.{Address}
use Rattle.hs_limits.specs.declared.shape.Shape.{Shape}
use Rattle.hs_members.specs.Members.{has_good, is_good_status}
use Rattle.hs_model.specs.declared.deed.Deed.{Deed}
use Rattle.hs_model.specs.declared.deed.Deed.TheVariants as deed
use Rattle.hs_model.specs.declared.op.Op.{Op}
use Rattle.hs_model.specs.declared.reply.Reply.{Reply}
use Rattle.hs_model.specs.declared.reply.Reply.TheVariants as reply
use Rattle.hs_ops.specs.declared.step.OpStep.TheVariants as step
use Rattle.hs_ops.specs.Operations.{Operation, new_operation}
use Rattle.hs_ops.specs.Speaking.{judging_shard}
use Rattle.hs_ops.specs.Views.{OpView}
use Rattle.hs_replica.specs.Group.{is_peer, last_number, renew, renewal, take_committed}
use Rattle.hs_settled.proofs.AsideLemmas.{Aside, aside_both, aside_catalogue, aside_group, aside_post, aside_viewed}
use Rattle.hs_settled.proofs.CalmLemmas.{IsNoNote, bytes_tells, effect_tells, go_tells}

-- what is kept where nothing of it changes, where an operation that is there waits, is answered or starts again, and where a shard or the store notes what it did
pub record Tells (shape : Shape) (P : Core → Type 0) : Type 0 where
  pub beside : (c d : Core) → Aside c d → P c → P d
  pub groups : (c : Core) → P c → length c.groups ≡ shape.shards
  pub waits : (line : ℕ) (w was : Waiting) (c : Core) → operation_of line c ≡ Some was → P c → P (put_operation line w c)
  pub answers : (line : ℕ) (w was : Waiting) (told : Reply) (c : Core) → operation_of line c ≡ Some was → IsNoNote told → P c → P (answer line w told c)
  pub restarts : (shard number : ℕ) (c : Core) → P c → P (restart_at shard number c)
  pub sweeps : (shard epoch removed : ℕ) (c : Core) → shard < shape.shards → P c → P (note (who.Shard shard) (deed.Swept shard) (reply.Sweep epoch removed) c)
  pub enters : (shard epoch : ℕ) (c : Core) → shard < shape.shards → P c → P (note (who.Shard shard) (deed.Entered shard) (reply.Enter epoch) c)
  pub dones : (epoch : ℕ) (c : Core) → P c → P (note who.Store deed.Nothing (reply.Done epoch) c)

-- a client's line has its operation, before its first step
abbrev pub begun_with : ℕ → Op → Core → Core
begun_with line o c = add_operation line (record { operation = new_operation line o; shard = judging_shard (shape_of c).shards c.sessions o; wait = wait.View }) (record c { progress = record c.progress { last_line = line } })

-- a change that leaves what strokes leave, and sizes
aside_by : (a b : Core) → kept_of b ≡ kept_of a → sizes_of b ≡ sizes_of a → Aside a b
aside_by a b kept sizes = record {
  limits = ap (λ (k : Kept). k.limits) kept;
  shape = ap (λ (z : Sizes). z.shape) sizes;
  groups = ap (λ (z : Sizes). z.groups) sizes;
  peers = ap (λ (z : Sizes). z.peers) sizes;
  pool = ap (λ (z : Sizes). z.limit) sizes;
  line = ap (λ (k : Kept). k.event_line) kept;
  operations = ap (λ (k : Kept). k.operations) kept;
  journal = ap (λ (k : Kept). k.journal) kept;
  refused = ap (λ (k : Kept). k.refused) kept;
  entries = ap (λ (k : Kept). k.entries) kept;
}

aside_taken : (shard : ℕ) (entry : Entry) (c : Core) → Aside c (taken shard entry c)
aside_taken shard entry c =
    let one : Core = change_group shard take_committed c in
    let two : Core = set_catalogue shard (done_by shard entry c).catalogue one in
    aside_both c one (taken shard entry c) (aside_group shard take_committed c)
    (aside_both one two (taken shard entry c) (aside_catalogue shard (done_by shard entry c).catalogue one) (aside_post (round_messages shard (done_by shard entry c).effect.sends) two))

-- no step answers with a note
step_tells : (how : Next) (pointers : List Address) (v : OpView) (o : Operation) (r : Reply) → next_step how pointers v o ≡ step.Answer r → IsNoNote r
step_tells next.Go pointers v o r is = go_tells v o r is
step_tells (next.Bytes bytes) pointers v o r is = bytes_tells bytes pointers v o r is
step_tells (next.Effect did) pointers v o r is = effect_tells did v o r is

answer_tells : {e : Option Event} (a : Core) (line : ℕ) (w : Waiting) (r : Reply) → IsStepOf e a line w (step.Answer r) → IsNoNote r
answer_tells a line w r (Seen how pointers is) = step_tells how pointers _ w.operation r (sym is)
answer_tells a line w r (AtFirst o v first is) = go_tells v (new_operation line o) r (sym is)

module _ {shape : Shape} {P : Core → Type 0} (T : Tells shape P) where
  renewed_stays : (shard : ℕ) (c : Core) → P c → P (renewed shard c)
  renewed_stays shard c p =
      let one : Core = set_viewed shard false c in
      let two : Core = change_group shard (renew c.members) one in
      let three : Core = restart shard two in
      T.beside three (renewed shard c) (aside_post (renewal (group_of shard three)) three)
      (T.restarts shard (last_number (group_of shard two)) two (T.beside one two (aside_group shard (renew c.members) one) (T.beside c one (aside_viewed shard false c) p)))

  -- strokes, where no line of a client's comes, no line is refused, and where it is kept that a disk has failed
  module _ {s : Core} {e : Option Event} (begins : (line : ℕ) (o : Op) → e ≡ Some (event.Line line o) → P (added line o s)) (allowed : (now : Event) (r : Reply) → e ≡ Some now → refusal_in now s ≡ Some r → ⊥)
      (downs : (by disk : ℕ) → e ≡ Some (event.Report by (done.Failed disk)) → (y : Core) → P y → P (note who.Store deed.Nothing (reply.Down disk y.progress.event_line) y)) (comes : e ≡ None → ⊥) where
    noted_stays : (a : Core) (of : Who) (did : Deed) (told : Reply) → IsNoted s e a of did told → P a → P (note of did told a)
    noted_stays a of did told (OfRefusal now refusal is why) p = absurd (allowed now refusal is why)
    noted_stays a of did told (OfDisk by peer is) p = downs by peer is a p
    noted_stays a of did told (OfFound peer is bad) p = absurd (comes is)
    noted_stays a of did told (OfSweep shard removed low) p = T.sweeps shard _ removed a (subst (λ n. shard < n) (T.groups a p) low) p
    noted_stays a of did told (OfDone epoch) p = T.dones epoch a p
    noted_stays a of did told (OfEntering shard epoch low) p = T.enters shard epoch a (subst (λ n. shard < n) (T.groups a p) low) p

    stroke_stays : (a b : Core) → Stroke s e a b → P a → P b
    stroke_stays a b (IsStill x) p = T.beside a b (aside_by a b (kept_still x) (sizes_still x)) p
    stroke_stays a b (Notes {of = of} {did = did} {told = told} by) p = noted_stays a of did told by p
    stroke_stays a b (Adds line o start is) p = subst (λ y. P (added line o y)) (sym start) (begins line o is)
    stroke_stays a b (Waits line w was at one) p = T.waits line w was a at p
    stroke_stays a b (Answers line w was told at one by) p = T.answers line w was told a at (answer_tells a line was told by) p
    stroke_stays a b (TakesOut shard number entry next) p = T.beside a b (aside_taken shard entry a) p
    stroke_stays a b (Renews shard) p = renewed_stays shard a p

  -- an event, by what is kept where a client's line comes, where it is refused, and where a disk has failed
  pub tells_event : (x : Event) (c : Core) → ((line : ℕ) (o : Op) → x ≡ event.Line line o → P (added line o c)) → ((r : Reply) → refusal_in x c ≡ Some r → P (refuse (line_of x) r c))
      → ((by disk : ℕ) → x ≡ event.Report by (done.Failed disk) → (y : Core) → P y → P (note who.Store deed.Nothing (reply.Down disk y.progress.event_line) y)) → P c → P (do_event x c)
  tells_event x c begins refuses downs p = go (refusal_in x c) refl
    where
      it_is : (y : Event) → Some x ≡ Some y → x ≡ y
      it_is y is = cc is

      go : (o : Option Reply) → refusal_in x c ≡ o → P (do_event x c)
      go (Some r) why = subst P (sym (refused_is x r c why)) (refuses r why)
      go None none =
          strokes_keep P
          (stroke_stays (λ line o is. begins line o (it_is (event.Line line o) is)) (λ now r is why. cc (sym none ∙ ap (λ y. refusal_in y c) (it_is now is) ∙ why))
          (λ by disk is. downs by disk (it_is (event.Report by (done.Failed disk)) is)) (λ is. cc is))
          (do_event x c) (strokes_of (does_acts c x)) p

  -- ---- changes that no line brings

  -- an event at which nothing is refused, and no disk fails
  abbrev quiet : Event
  quiet = event.Report 0 (done.Stored 0)

  quiet_stays : (s a b : Core) → Stroke s (Some quiet) a b → P a → P b
  quiet_stays s a b x p = stroke_stays {s = s} {e = Some quiet} (λ line o is. cc is) (λ now r is why. silent now r (cc is) why) (λ by disk is. cc is) (λ is. cc is) a b x p
    where
      silent : (now : Event) (r : Reply) → event.Report 0 (done.Stored 0) ≡ now → refusal_in now s ≡ Some r → ⊥
      silent now r is why = cc (ap (λ y. refusal_in y s) is ∙ why)

  pub stays_change_view : (shard : ℕ) (c : Core) → P c → P (change_view shard c)
  stays_change_view shard c p = strokes_keep P (quiet_stays c) (change_view shard c) (strokes_change shard c NoStroke) p

  pub stays_each : {B : Type 0} (ys : List B) (f : B → Core → Core) (c : Core) → ((y : B) (x : Core) → P x → P (f y x)) → P c → P (each ys f c)
  stays_each [] f c h p = p
  stays_each (y ∷ ys) f c h p = stays_each ys f (f y c) h (h y c p)

  stays_rest : (shard : ℕ) (b : Bool) (c : Core) → P c → P (change_if b (commit_rest shard) c)
  stays_rest shard false c p = p
  stays_rest shard true c p = go (has_good shard c.members)
    where
      go : (b : Bool) → P (change_if b (commit shard) c)
      go true = strokes_keep P (quiet_stays c) (commit shard c) (strokes_of (commit_acts {s = c} {e = Some quiet} (λ line o is. cc is) shard c NoAct)) p
      go false = p

  -- a disk fails, where the note of it is kept
  pub stays_fail : (peer : ℕ) (c : Core) → P (note who.Store deed.Nothing (reply.Down peer c.progress.event_line) c) → P (fail_disk peer c)
  stays_fail peer c noted = stays_rest shard was_good joined (begin_again (is_peer peer (lead_of shard told)) (viewed was_good))
    where
      told : Core
      told = note who.Store deed.Nothing (reply.Down peer c.progress.event_line) c

      shard : ℕ
      shard = home peer c

      was_good : Bool
      was_good = is_good_status (status_of peer c)

      left : Core
      left = leave peer (note who.Store deed.Nothing (reply.Down peer c.progress.event_line) c)

      joined : Core
      joined = fallen peer (note who.Store deed.Nothing (reply.Down peer c.progress.event_line) c)

      gone : P left
      gone = T.beside told left (aside_by told left refl (sizes_leave peer told)) noted

      viewed : (b : Bool) → P (change_if b (change_view (home peer c)) (leave peer (note who.Store deed.Nothing (reply.Down peer c.progress.event_line) c)))
      viewed true = stays_change_view shard left gone
      viewed false = gone

      begin_again : (b : Bool) {x : Core} → P x → P (change_if b (λ y. each (joining_peers (home peer c) y) begin_joining y) x)
      begin_again true {x} p =
          let again : Core = each (joining_peers shard x) begin_joining x in
          T.beside x again (aside_by x again (kept_joining (joining_peers shard x) x) (sizes_joining (joining_peers shard x) x)) p
      begin_again false {x} p = p
