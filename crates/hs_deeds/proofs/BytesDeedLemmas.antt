-- An operation that is told bytes, whichever these are: what it tells then is a deed.
use Rattle.std.proofs.Common.{◌&&◌, ◌≡◌, ◌∙◌, sym, ap, subst, ℕ, ◌==◌, Bool, true, false, cond, not, List, [], ◌∷◌, Option, Some, None, is_none, is_some, refl}
use Rattle.std.specs.Option.{option_map_or}
use Rattle.hs_answered.specs.Judged.{IsJudged, IsTold, entry_of, judged_at, telling, with_data}
use Rattle.hs_answered.specs.Standing.{IsAddressed, IsFolded, store_with}
use Rattle.hs_awaiting.specs.declared.waiting.Waiting.{Waiting}
use Rattle.hs_awaiting.specs.Words.{change_with}
use Rattle.hs_core_words.specs.Looking.{operation_of, shape_of}
use Rattle.hs_core_words.specs.Operating.{go_on_with, take_step}
use Rattle.hs_core_words.specs.Seeing.{pointers_for, view_for}
use Rattle.hs_core_words.specs.State.{Core}
use Rattle.hs_deeds.proofs.FreeLemmas.{StandsFree, collides_so, free_at}
use Rattle.hs_deeds.proofs.JudgedLemmas.{judge_is, judge_left, reads_any}
use Rattle.hs_deeds.proofs.OnLemmas.{judged_on, silent_on}
use Rattle.hs_deeds.proofs.StepDeedLemmas.{goes_anew, refused_here}
use Rattle.hs_fold.specs.Runs.Facts.{Catalogue as Folded}
use Rattle.hs_journal.specs.Deeds.{as_deed}
use Rattle.hs_limits.specs.declared.address.Address.{Address}
use Rattle.hs_limits.specs.declared.limits.Limits.{Limits}
use Rattle.hs_model.specs.declared.deed.Deed.{Deed}
use Rattle.hs_model.specs.declared.deed.Deed.TheVariants as deed
use Rattle.hs_model.specs.declared.op.Op.{Op}
use Rattle.hs_model.specs.declared.op.Op.TheVariants as op
use Rattle.hs_model.specs.declared.reply.Reply.{Reply}
use Rattle.hs_model.specs.declared.reply.Reply.TheVariants as reply
use Rattle.hs_model.specs.Deeds.{DeedEntry, IsDeed, IsDeedOf, IsRefused, Refused, deed_store}
use Rattle.hs_deeds.specs.On.{DeedsOn}
use Rattle.hs_model.specs.Hollow.{hollow, looks_at}
use Rattle.hs_model.specs.Judge.{asked_of, judge}
use Rattle.hs_model.specs.Store.{Store}
use Rattle.hs_ops.specs.Answers.{deed_of, gained, is_done, seated, seats_after}
use Rattle.hs_ops.specs.declared.step.OpStep.{OpStep}
use Rattle.hs_ops.specs.declared.step.OpStep.TheVariants.{Answer, Compare, Propose, Wait}
use Rattle.hs_ops.specs.Going.{compared, data_of, go, is_reported, is_same_block, mark_entry, on_bytes}
use Rattle.hs_ops.specs.Operations.{bytes_step, wanted_number}
use Rattle.hs_ops.specs.Refusals.{refusal_of}
use Rattle.hs_ops.specs.Speaking.{asked_block, judging_shard}
use Rattle.hs_ops.specs.Views.{OpView}
use Rattle.hs_shown.specs.Showing.{Shows}
use Rattle.hs_standing.proofs.Laws.{Steps}
use Rattle.hs_standing.proofs.MuteLemmas.{Books, Stays, Words, step_books, step_stays}

-- what a read is told, whatever bytes these are, as hs_answered has it
abbrev pub ReadsAnyBytes : Type 0
ReadsAnyBytes =
    (cs : List Folded) (core : Core) (line : ℕ) (bytes : Option (List ℕ)) (w : Waiting) (name : List ℕ) (handle : ℕ) (r : Reply) → IsFolded core cs → IsAddressed core.sessions w.operation.op
    → w.shard ≡ judging_shard (shape_of core).shards core.sessions w.operation.op → w.operation.op ≡ op.Read name handle
    → bytes_step (view_for w.shard w.operation.op core) bytes (pointers_for w.shard w.operation.op core) w.operation ≡ Answer r
    → IsTold cs core (take_step line w (Answer r) core) line (telling (data_of bytes) (judged_at cs core w.operation.op))

-- an answer that is none of what was done leaves the sessions
undone : (line : ℕ) (w : Waiting) (r : Reply) (core : Core) → is_done r ≡ false → (take_step line w (Answer r) core).sessions ≡ core.sessions
unfolding seats_after
undone line w r core e = ap (λ (b : Bool). cond b (seated (gained (view_for w.shard w.operation.op core) (pointers_for w.shard w.operation.op core) w.operation.op) w.operation.op core.sessions) core.sessions) e

-- ---- a read

-- what the judge says of it, whatever data are told
read_deed : (limits : Limits) (s : Store) (name : List ℕ) (handle : ℕ) (content : List ℕ) (before : List DeedEntry) (line moment : ℕ) → IsDeed limits (hollow s) before (as_deed (entry_of line moment (telling content (judge limits s (op.Read name handle)))))
read_deed limits s name handle content before line moment = go (judge limits s (op.Read name handle)).reply refl
  where
    go : (r : Reply) → (judge limits s (op.Read name handle)).reply ≡ r → IsDeed limits (hollow s) before (record { line = Some line; deed = (judge limits s (op.Read name handle)).deed; reply = with_data content (judge limits s (op.Read name handle)).reply })
    go (reply.Bytes bytes handles) e =
        subst (λ (r : Reply). IsDeed limits (hollow s) before (record { line = Some line; deed = (judge limits s (op.Read name handle)).deed; reply = with_data content r })) (sym e)
        (reads_any limits s name handle line bytes content handles before e)
    go other e =
        subst (λ (r : Reply). IsDeed limits (hollow s) before (record { line = Some line; deed = (judge limits s (op.Read name handle)).deed; reply = with_data content r })) (sym e)
        (subst (λ (r : Reply). IsDeed limits (hollow s) before (record { line = Some line; deed = (judge limits s (op.Read name handle)).deed; reply = r })) e (judge_is limits s (op.Read name handle) before line))

-- ---- why a write is answered

-- by what it sees, anew, or since another block is there
data WhyAnswered (v : OpView) (line : ℕ) (o : Op) (r : Reply) : Type 0 where
  BySight : refusal_of v o ≡ Some r → WhyAnswered v line o r
  Anew : go v line o ≡ Answer r → WhyAnswered v line o r
  ByOther : r ≡ reply.Collision → refusal_of v o ≡ None → is_some v.present ≡ true → WhyAnswered v line o r

same_answer : (q r : Reply) → Answer q ≡ Answer r → q ≡ r
same_answer q r e = cc e

there_reported : (number : ℕ) (x : Option ℕ) (b : Bool) → (option_map_or (λ (present : ℕ). present == number) x false && b) ≡ true → is_some x ≡ true
there_reported number None b e = absurd (cc e)
there_reported number (Some n) b e = refl

why : (v : OpView) (line number : ℕ) (bytes : Option (List ℕ)) (pointers : List Address) (session payload handles : List ℕ) (address : Option Address) (r : Reply)
    → on_bytes v line (record { number = number; bytes = bytes; pointers = pointers }) (op.Write session payload handles address) ≡ Answer r → WhyAnswered v line (op.Write session payload handles address) r
unfolding on_bytes compared
why v line number bytes pointers session payload handles address r e = by_refusal (refusal_of v (op.Write session payload handles address)) refl e
  where
    by_tests : refusal_of v (op.Write session payload handles address) ≡ None → (b : Bool) → is_reported v number bytes ≡ b → (c : Bool)
        → cond (not b) (go v line (op.Write session payload handles address)) (cond c (Propose (mark_entry v line number session handles address)) (Answer reply.Collision)) ≡ Answer r → WhyAnswered v line (op.Write session payload handles address) r
    by_tests free false told c h = Anew h
    by_tests free true told true h = absurd (cc h)
    by_tests free true told false h = ByOther (sym (same_answer reply.Collision r h)) free (there_reported number v.present (not (is_none bytes)) told)

    by_refusal : (x : Option Reply) → refusal_of v (op.Write session payload handles address) ≡ x
        → option_map_or Answer x (compared v line (record { number = number; bytes = bytes; pointers = pointers }) (op.Write session payload handles address)) ≡ Answer r → WhyAnswered v line (op.Write session payload handles address) r
    by_refusal None free h = by_tests free (is_reported v number bytes) refl (is_same_block (asked_block v.seats session payload handles) bytes pointers) h
    by_refusal (Some q) stops h = BySight (stops ∙ ap (λ (x : Reply). Some x) (same_answer q r h))

refused_deed : (o : Op) (core : Core) → deed_of core.sessions o reply.Collision ≡ deed.Refused (asked_of o)
unfolding deed_of
refused_deed o core = refl

-- ---- it is told

module _ (Known : List DeedEntry → Type 0) (laws : Steps) (reads : ReadsAnyBytes) (limits : Limits) (cs : List Folded) (core : Core) (same : core.limits ≡ limits) (folded : IsFolded core cs) (line : ℕ) (w : Waiting)
    (has : IsAddressed core.sessions w.operation.op) (place : w.shard ≡ judging_shard (shape_of core).shards core.sessions w.operation.op) (shows : Shows core.limits (store_with cs core.sessions) w.operation.op (view_for w.shard w.operation.op core)) where
  abbrev s : Store
  s = store_with cs core.sessions

  abbrev v : OpView
  v = view_for w.shard w.operation.op core

  quietly : (t : OpStep) → ((r : Reply) → t ≡ Answer r → ⊥) → DeedsOn Known limits cs cs core (take_step line w t core)
  quietly t never =
      let stays : Stays core (take_step line w t core) line w = step_stays line w t core never in
      silent_on Known limits cs cs core (take_step line w t core) (ap (λ (b : Books). b.journal) (step_books line w t core)) (ap (λ (b : Books). b.refused) (step_books line w t core))
      (ap (λ (x : Words). x.entries) stays.words) (ap (λ (x : Words). store_with cs x.sessions) stays.words)

  judged : (r : Reply) → IsJudged cs core (take_step line w (Answer r) core) line w.operation.op → DeedsOn Known limits cs cs core (take_step line w (Answer r) core)
  judged r its = judged_on Known limits cs core (take_step line w (Answer r) core) line w.operation.op same its refl refl

  -- a read, whatever bytes are told
  read_on : (name : List ℕ) (handle : ℕ) (content : List ℕ) (r : Reply) → w.operation.op ≡ op.Read name handle → IsTold cs core (take_step line w (Answer r) core) line (telling content (judged_at cs core w.operation.op))
      → DeedsOn Known limits cs cs core (take_step line w (Answer r) core)
  read_on name handle content r is its = record {
    more = entry_of line core.moment (telling content (judged_at cs core w.operation.op)) ∷ [];
    journal = refl;
    refused = refl;
    told = its.told;
    deeds = λ before k. (
      subst (λ (l : Limits). IsDeed limits (hollow s) before (as_deed (entry_of line core.moment (telling content (judge l s w.operation.op))))) (sym same)
          (subst (λ (o : Op). IsDeed limits (hollow s) before (as_deed (entry_of line core.moment (telling content (judge limits s o))))) (sym is) (read_deed limits s name handle content before line core.moment)),
      tt,
    );
    left = sym (judge_left core.limits s w.operation.op) ∙ sym (ap (λ (x : Store). hollow x) its.left);
  }

  -- a write that finds another block
  other_on : (name payload handles : List ℕ) (a : Address) → w.operation.op ≡ op.Write name payload handles (Some a) → refusal_of (view_for w.shard w.operation.op core) w.operation.op ≡ None → is_some (view_for w.shard w.operation.op core).present ≡ true
      → DeedsOn Known limits cs cs core (take_step line w (Answer reply.Collision) core)
  other_on name payload handles a is free there = record {
    more = (take_step line w (Answer reply.Collision) (record core { entries = [] })).entries;
    journal = refl;
    refused = refl;
    told = refl;
    deeds = λ before k. (
      record {
        printed = refl;
        done = subst (λ (d : Deed). IsDeedOfCollision before d) (sym (refused_deed w.operation.op core)) (subst (λ (o : Op). IsDeedOfCollision before (deed.Refused (asked_of o))) (sym is) (Refused refused));
      },
      tt,
    );
    left = ap (λ (d : Deed). deed_store (hollow s) d) (refused_deed w.operation.op core) ∙ sym (ap (λ seats. hollow (store_with cs seats)) (undone line w reply.Collision core refl));
  }
    where
      IsDeedOfCollision : List DeedEntry → Deed → Type 0
      IsDeedOfCollision before d = IsDeedOf limits (hollow (store_with cs core.sessions)) before d reply.Collision

      stands : StandsFree limits s name payload handles a
      stands =
          subst (λ (l : Limits). StandsFree l s name payload handles a) same
          (free_at core.limits s v name payload handles a (subst (λ (o : Op). Shows core.limits s o v) is shows) (ap (λ (o : Op). refusal_of v o) (sym is) ∙ free))

      refused : IsRefused limits (hollow s) (asked_of (op.Write name payload handles (Some a))) reply.Collision
      refused = collides_so limits s name payload handles a stands (sym (shows.present a (ap (λ (o : Op). looks_at s o) is)) ∙ there)

  -- an operation that compares nothing
  abbrev ComparesNone : Op → Type 0
  ComparesNone o = (u : OpView) (l n : ℕ) (bs : Option (List ℕ)) (ps : List Address) → compared u l (record { number = n; bytes = bs; pointers = ps }) o ≡ Wait

  by_sight : (bytes : Option (List ℕ)) (o : Op) (r : Reply) → w.operation.op ≡ o → ComparesNone o → bytes_step (view_for w.shard w.operation.op core) bytes (pointers_for w.shard w.operation.op core) w.operation ≡ Answer r → refusal_of (view_for w.shard w.operation.op core) w.operation.op ≡ Some r
  unfolding on_bytes
  by_sight bytes o r is none e = go_refusal (refusal_of v w.operation.op) refl e
    where
      told : OpStep
      told = compared (view_for w.shard w.operation.op core) w.operation.line (record { number = wanted_number w.operation.stage; bytes = bytes; pointers = pointers_for w.shard w.operation.op core }) w.operation.op

      waits : compared (view_for w.shard w.operation.op core) w.operation.line (record { number = wanted_number w.operation.stage; bytes = bytes; pointers = pointers_for w.shard w.operation.op core }) w.operation.op ≡ Wait
      waits = ap (λ (p : Op). compared v w.operation.line (record { number = wanted_number w.operation.stage; bytes = bytes; pointers = pointers_for w.shard w.operation.op core }) p) is ∙ none v w.operation.line (wanted_number w.operation.stage) bytes (pointers_for w.shard w.operation.op core)

      never : Wait ≡ Answer r → ⊥
      never h = cc h

      go_refusal : (x : Option Reply) → refusal_of (view_for w.shard w.operation.op core) w.operation.op ≡ x
          → option_map_or Answer x (compared (view_for w.shard w.operation.op core) w.operation.line (record { number = wanted_number w.operation.stage; bytes = bytes; pointers = pointers_for w.shard w.operation.op core }) w.operation.op) ≡ Answer r
          → refusal_of (view_for w.shard w.operation.op core) w.operation.op ≡ Some r
      go_refusal None free h = absurd (never (sym waits ∙ h))
      go_refusal (Some q) stops h = stops ∙ ap (λ (x : Reply). Some x) (same_answer q r h)

  -- of each kind
  answered_as : (bytes : Option (List ℕ)) (o : Op) (r : Reply) → w.operation.op ≡ o → bytes_step (view_for w.shard w.operation.op core) bytes (pointers_for w.shard w.operation.op core) w.operation ≡ Answer r → DeedsOn Known limits cs cs core (take_step line w (Answer r) core)
  unfolding compared
  answered_as bytes (op.Read name handle) r is e = read_on name handle (data_of bytes) r is (reads cs core line bytes w name handle r folded has place is e)
  answered_as bytes (op.Write name payload handles None) r is e = absurd (cc (subst (λ (o : Op). IsAddressed core.sessions o) is has))
  answered_as bytes (op.Write name payload handles (Some a)) r is e =
      by_why (why v w.operation.line (wanted_number w.operation.stage) bytes (pointers_for w.shard w.operation.op core) name payload handles (Some a) r
      (subst (λ (o : Op). on_bytes v w.operation.line (record { number = wanted_number w.operation.stage; bytes = bytes; pointers = pointers_for w.shard w.operation.op core }) o ≡ Answer r) is e))
    where
      by_why : WhyAnswered (view_for w.shard w.operation.op core) w.operation.line (op.Write name payload handles (Some a)) r → DeedsOn Known limits cs cs core (take_step line w (Answer r) core)
      by_why (BySight f) = judged r (refused_here laws cs core folded line w has place r (ap (λ (o : Op). refusal_of v o) is ∙ f))
      by_why (Anew f) = judged r (goes_anew laws cs core folded line w has place r (ap (λ (o : Op). go v w.operation.line o) is ∙ f))
      by_why (ByOther c free there) =
          subst (λ (q : Reply). DeedsOn Known limits cs cs core (take_step line w (Answer q) core)) (sym c)
          (other_on name payload handles a is (ap (λ (o : Op). refusal_of v o) is ∙ free) there)
  answered_as bytes (op.Open name) r is e = judged r (refused_here laws cs core folded line w has place r (by_sight bytes (op.Open name) r is (λ u l n bs ps. refl) e))
  answered_as bytes (op.Close name) r is e = judged r (refused_here laws cs core folded line w has place r (by_sight bytes (op.Close name) r is (λ u l n bs ps. refl) e))
  answered_as bytes (op.Look name key) r is e = judged r (refused_here laws cs core folded line w has place r (by_sight bytes (op.Look name key) r is (λ u l n bs ps. refl) e))
  answered_as bytes (op.Root name key handle) r is e = judged r (refused_here laws cs core folded line w has place r (by_sight bytes (op.Root name key handle) r is (λ u l n bs ps. refl) e))
  answered_as bytes (op.Drop key) r is e = judged r (refused_here laws cs core folded line w has place r (by_sight bytes (op.Drop key) r is (λ u l n bs ps. refl) e))
  answered_as bytes (op.Forget name handle) r is e = judged r (refused_here laws cs core folded line w has place r (by_sight bytes (op.Forget name handle) r is (λ u l n bs ps. refl) e))
  answered_as bytes (op.Name name handle) r is e = judged r (refused_here laws cs core folded line w has place r (by_sight bytes (op.Name name handle) r is (λ u l n bs ps. refl) e))
  answered_as bytes op.Delete r is e = judged r (refused_here laws cs core folded line w has place r (by_sight bytes op.Delete r is (λ u l n bs ps. refl) e))
  answered_as bytes op.Stat r is e = judged r (refused_here laws cs core folded line w has place r (by_sight bytes op.Stat r is (λ u l n bs ps. refl) e))

  pub bytes_deeds : (bytes : Option (List ℕ)) → operation_of line core ≡ Some w → DeedsOn Known limits cs cs core (go_on_with (λ u o. bytes_step u bytes (pointers_for w.shard w.operation.op core) o) line core)
  bytes_deeds bytes at =
      subst (λ (x : Option Waiting). DeedsOn Known limits cs cs core (change_with x (λ y. take_step line y (bytes_step (view_for y.shard y.operation.op core) bytes (pointers_for w.shard w.operation.op core) y.operation)) core)) (sym at)
      (by_step (bytes_step v bytes (pointers_for w.shard w.operation.op core) w.operation) refl)
    where
      by_step : (t : OpStep) → bytes_step (view_for w.shard w.operation.op core) bytes (pointers_for w.shard w.operation.op core) w.operation ≡ t → DeedsOn Known limits cs cs core (take_step line w t core)
      by_step (Answer r) e = answered_as bytes w.operation.op r refl e
      by_step (Propose entry) e = quietly (Propose entry) (λ r h. cc h)
      by_step (Compare number) e = quietly (Compare number) (λ r h. cc h)
      by_step Wait e = quietly Wait (λ r h. cc h)
