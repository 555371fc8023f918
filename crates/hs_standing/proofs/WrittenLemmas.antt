-- Each single change of a core leaves each Mark that waits the block that its line writes.
use Rattle.std.proofs.Common.{◌≡◌, ◌∙◌, sym, ap, subst, ◌⊎◌, inl, inr, ℕ, suc, ◌+◌, ◌<◌, ◌≤◌, ◌==◌, Bool, true, false, cond, length, List, [], ◌∷◌, ◌++◌, Option, Some, None, refl, arith, is_some, slice_get}
use Rattle.std.proofs.lemmas.Bool.Decides.{nat_tests}
use Rattle.std.specs.BTreeMap.{is_at}
use Rattle.std.specs.Map.{lookup}
use Rattle.std.specs.Ordering.{nat_cmp}
use Rattle.hs_standing.specs.Changes.{IsBeside, told_at_once, tells_at_once}
use Rattle.hs_standing.specs.Changes.{IsIdle as MayGoOn}
use Rattle.hs_answered.specs.Standing.{IsFolded}
use Rattle.hs_awaiting.specs.declared.wait.Wait.{Wait}
use Rattle.hs_awaiting.specs.declared.wait.Wait.TheVariants as wait
use Rattle.hs_awaiting.specs.declared.waiting.Waiting.{Waiting}
use Rattle.hs_awaiting.specs.Words.{change_if, change_with}
use Rattle.hs_core_words.specs.Asking.{send_round}
use Rattle.hs_core_words.specs.Changing.{add_entry_tasks, change_group, change_pool, note, post, put_operation, refuse}
use Rattle.hs_core_words.specs.Effects.{note_enter, note_sweep, round_messages, tell_enter, tell_operation}
use Rattle.hs_core_words.specs.Looking.{catalogue_of, front_of, group_of, lead_of, operation_of, shape_of}
use Rattle.hs_core_words.specs.Operating.{add_read, answer, carry_out, go_on_with, propose_entry, resume, take_step, wait_for, what_holds}
use Rattle.hs_core_words.specs.Seeing.{pointers_for, view_for}
use Rattle.hs_core_words.specs.State.{Core}
use Rattle.hs_desk.specs.declared.what.What.{What}
use Rattle.hs_desk.specs.declared.what.What.TheVariants as what
use Rattle.hs_effects.specs.Logged.{IsOrderly, asked_by}
use Rattle.hs_effects.specs.Taking.{done_by, folds_behind, next_deed, setting_of, taken}
use Rattle.hs_effects.proofs.EffectLemmas.{taken_free}
use Rattle.hs_effects.proofs.FoldLemmas.{low_here, own_here}
use Rattle.hs_effects.proofs.GoingLemmas.{IsIdle, idle_free}
use Rattle.hs_effects.proofs.GroupLemmas.{IsFirst, at_end, at_front, committed_first, group_changed}
use Rattle.hs_effects.proofs.LookLemmas.{found_set, number_exact, one_or_other, remove_other, set_other}
use Rattle.hs_effects.proofs.OrderlyLemmas.{IsFree, session_in, some_is}
use Rattle.hs_effects.proofs.SeatLemmas.{IsSameFor, block_same, seats_other}
use Rattle.hs_entry.specs.declared.entry.Entry.{Entry}
use Rattle.hs_entry.specs.declared.entry.Entry.TheVariants as kind
use Rattle.hs_fold.proofs.Shards.PlaceLemmas.{other-at, same-at}
use Rattle.hs_fold.specs.Runs.Facts.{Catalogue as Folded}
use Rattle.hs_fold.specs.Runs.Facts.{empty_catalogue, facts_at}
use Rattle.hs_fold.specs.Runs.Fits.{catalogue_at}
use Rattle.hs_fold.specs.Runs.History.{applied}
use Rattle.hs_fold.specs.Shards.Parted.{NamesUpTo}
use Rattle.hs_fold.specs.Shards.Setting.{shard_in}
use Rattle.hs_standing.specs.Held.{AreWritten, IsOfWrite}
use Rattle.hs_standing.proofs.AnswerLemmas.{ProposesNoMark, effect_no_mark, from_no_mark}
use Rattle.hs_journal.specs.declared.entry.Who.TheVariants as who
use Rattle.hs_journal.specs.Order.{session_of}
use Rattle.hs_limits.specs.declared.address.Address.{Address}
use Rattle.hs_limits.specs.declared.delta.Delta.{Delta}
use Rattle.hs_model.specs.declared.deed.Deed.TheVariants as deed
use Rattle.hs_model.specs.declared.op.Op.{Op}
use Rattle.hs_model.specs.declared.op.Op.TheVariants as op
use Rattle.hs_model.specs.declared.reply.Reply.{Reply}
use Rattle.hs_model.specs.declared.reply.Reply.TheVariants as reply
use Rattle.hs_model.specs.Store.{block_of}
use Rattle.hs_ops.specs.Answers.{gained}
use Rattle.hs_ops.specs.declared.step.OpStep.{OpStep}
use Rattle.hs_ops.specs.declared.step.OpStep.TheVariants as step
use Rattle.hs_ops.specs.Operations.{Operation, after_step, effect_step, go_step}
use Rattle.hs_ops.specs.Speaking.{asked_block}
use Rattle.hs_ops.specs.Views.{OpView}
use Rattle.hs_post.specs.Pool.{Pool}
use Rattle.hs_replica.specs.Group.{Group, committed, last_number, proposal, propose, take_committed}
use Rattle.hs_rounds.specs.Rounds.{sent_back}
use Rattle.hs_shard.specs.declared.effect.Effect.{Effect}
use Rattle.hs_shard.specs.Rounds.{messages}
use Rattle.hs_tokens.specs.Seats.{Seats, seat_of}
use Rattle.hs_waiting.proofs.WasLemmas.{was-there}

-- ---- what an operation writes rests on its own session

pub of_write_on : (a b : Seats) (o p : Op) (c : Folded) (number : ℕ) (m : Address) → p ≡ o → IsSameFor o a b → IsOfWrite a o c number m → IsOfWrite b p c number m
of_write_on a b o p c number m same seats its session payload handles f is at numbered =
    let written : o ≡ op.Write session payload handles (Some m) = sym same ∙ is in
    its session payload handles f written at numbered ∙ block_same a b session payload handles (seats session (ap (λ x. session_of (Some x)) written))

-- no two lines have operations of one session
abbrev pub AreApart : Core → Type 0
AreApart c = (l m : ℕ) (v w : Waiting) (q : List ℕ) → operation_of l c ≡ Some v → operation_of m c ≡ Some w → session_in v ≡ Some q → session_in w ≡ Some q → l ≡ m

-- ---- where the lists are as they were

pub record AlikeHere (a b : Core) : Type 0 where
  pub operations : b.operations ≡ a.operations
  pub sessions : b.sessions ≡ a.sessions
  pub waiting : (g : ℕ) → (group_of g b).waiting ≡ (group_of g a).waiting

pub alike_written : (a b : Core) (cs : List Folded) → AlikeHere a b → AreWritten a cs → AreWritten b cs
alike_written a b cs same its shard place line least number m w at of =
    of_write_on a.sessions b.sessions w.operation.op w.operation.op (catalogue_at cs shard) number m refl (λ q s. ap (λ (seats : Seats). seat_of q seats) same.sessions)
    (its shard place line least number m w (sym (ap (λ es. slice_get es place) (same.waiting shard)) ∙ at) (sym (ap (λ (es : List (ℕ × Waiting)). lookup (is_at (nat_cmp line)) es) same.operations) ∙ of))

-- one line's operation changes, and with it its session alone, while no entry of the line waits
pub record ChangesHere (a b : Core) (line : ℕ) : Type 0 where
  pub waiting : (g : ℕ) → (group_of g b).waiting ≡ (group_of g a).waiting
  pub others : (l : ℕ) → (l ≡ line → ⊥) → operation_of l b ≡ operation_of l a
  pub seats : (l : ℕ) (v : Waiting) (q : List ℕ) → (l ≡ line → ⊥) → operation_of l a ≡ Some v → session_in v ≡ Some q → seat_of q b.sessions ≡ seat_of q a.sessions

pub changed_written : (a b : Core) (cs : List Folded) (line : ℕ) → IsFree a line → ChangesHere a b line → AreWritten a cs → AreWritten b cs
changed_written a b cs line free ch its shard place k least number m w at of = go (one_or_other k line)
  where
    there : slice_get (group_of shard a).waiting place ≡ Some (kind.Mark k least number m)
    there = sym (ap (λ es. slice_get es place) (ch.waiting shard)) ∙ at

    go : (k ≡ line) ⊎ (k ≡ line → ⊥) → IsOfWrite b.sessions w.operation.op (catalogue_at cs shard) number m
    go (inl is) = absurd (free shard place (kind.Mark k least number m) there (ap (λ j. Some j) is))
    go (inr d) =
        let was : operation_of k a ≡ Some w = sym (ch.others k d) ∙ of in
        of_write_on a.sessions b.sessions w.operation.op w.operation.op (catalogue_at cs shard) number m refl (λ q s. ch.seats k w q d was s) (its shard place k least number m w there was)

pub put_written : (c : Core) (cs : List Folded) (line : ℕ) (w : Waiting) → IsFree c line → AreWritten c cs → AreWritten (put_operation line w c) cs
put_written c cs line w free its = changed_written c (put_operation line w c) cs line free
    (record { waiting = λ g. refl; others = λ l d. set_other nat_cmp number_exact c.operations line l w d; seats = λ l v q d at s. refl }) its

-- ---- an entry is proposed

-- a Mark that is proposed is of the block that its line writes
abbrev pub MayPropose : Core → List Folded → ℕ → Entry → Type 0
MayPropose c cs shard entry =
    (line least number : ℕ) (m : Address) (w : Waiting) → entry ≡ kind.Mark line least number m → operation_of line c ≡ Some w → IsOfWrite c.sessions w.operation.op (catalogue_at cs shard) number m

listed_written : (shard : ℕ) (entry : Entry) (c : Core) (cs : List Folded) → MayPropose c cs shard entry → AreWritten c cs → AreWritten (change_group shard (propose entry) c) cs
listed_written shard entry c cs may its g place line least number m w at of = go (group_changed shard (propose entry) c g)
  where
    by_end : (slice_get (group_of shard c).waiting place ≡ Some (kind.Mark line least number m)) ⊎ ((place ≡ length (group_of shard c).waiting) × (entry ≡ kind.Mark line least number m))
        → IsOfWrite c.sessions w.operation.op (catalogue_at cs shard) number m
    by_end (inl old) = its shard place line least number m w old of
    by_end (inr last) = may line least number m w last.1 of

    go : (group_of g (change_group shard (propose entry) c) ≡ group_of g c) ⊎ ((g ≡ shard) × (group_of g (change_group shard (propose entry) c) ≡ propose entry (group_of shard c)))
        → IsOfWrite c.sessions w.operation.op (catalogue_at cs g) number m
    go (inl same) = its g place line least number m w (sym (ap (λ (x : Group). slice_get x.waiting place) same) ∙ at) of
    go (inr is) =
        let there : slice_get ((group_of shard c).waiting ++ entry ∷ []) place ≡ Some (kind.Mark line least number m) = sym (ap (λ (x : Group). slice_get x.waiting place) is.1) ∙ at in
        subst (λ j. IsOfWrite c.sessions w.operation.op (catalogue_at cs j) number m) (sym is.0) (by_end (at_end (group_of shard c).waiting entry (kind.Mark line least number m) place there))

sent_alike : (shard : ℕ) (entry : Entry) (c : Core) → AlikeHere (change_group shard (propose entry) c) (propose_entry shard entry c)
sent_alike shard entry c = go (lead_of shard c)
  where
    sent : Core
    sent = post (proposal entry (group_of shard c)) (change_group shard (propose entry) c)

    go : (lead : Option ℕ) → AlikeHere (change_group shard (propose entry) c) (change_with lead (λ peer. add_entry_tasks peer (last_number (group_of shard c) + 1) entry) sent)
    go None = record { operations = refl; sessions = refl; waiting = λ g. refl }
    go (Some peer) = record { operations = refl; sessions = refl; waiting = λ g. refl }

pub proposed_written : (shard : ℕ) (entry : Entry) (c : Core) (cs : List Folded) → MayPropose c cs shard entry → AreWritten c cs → AreWritten (propose_entry shard entry c) cs
proposed_written shard entry c cs may its =
    alike_written (change_group shard (propose entry) c) (propose_entry shard entry c) cs (sent_alike shard entry c) (listed_written shard entry c cs may its)

-- ---- one step

read_alike : (number line : ℕ) (lead : Option ℕ) (x : Core) → AlikeHere x (change_with lead (add_read number line) x)
read_alike number line None x = record { operations = refl; sessions = refl; waiting = λ g. refl }
read_alike number line (Some peer) x = record { operations = refl; sessions = refl; waiting = λ g. refl }

-- where a step proposes a Mark, it is of the block that its operation writes
abbrev pub MarksWell : Core → List Folded → ℕ → Waiting → OpStep → Type 0
MarksWell c cs line u taken =
    (k least number : ℕ) (m : Address) → taken ≡ step.Propose (kind.Mark k least number m) → (k ≡ line) × IsOfWrite c.sessions u.operation.op (catalogue_at cs u.shard) number m

pub no_mark_well : (c : Core) (cs : List Folded) (line : ℕ) (u : Waiting) (taken : OpStep) → ProposesNoMark taken → MarksWell c cs line u taken
no_mark_well c cs line u taken none k least number m e = absurd (none k least number m e)

module _ (c : Core) (cs : List Folded) (line : ℕ) (free : IsFree c line) (apart : AreApart c) (its : AreWritten c cs) (u : Waiting) (at : operation_of line c ≡ Some u) where
  answered_written : (w : Waiting) (told : Reply) → w.operation.op ≡ u.operation.op → AreWritten (answer line w told c) cs
  answered_written w told same = changed_written c (answer line w told c) cs line free (record {
    waiting = λ g. refl;
    others = λ l d. remove_other nat_cmp number_exact c.operations line l d;
    seats = λ l v q d e s. seats_other (gained (view_for w.shard w.operation.op c) (pointers_for w.shard w.operation.op c) w.operation.op) w.operation.op told c.sessions q
        (λ t. d (apart l line v u q e at s (ap (λ o. session_of (Some o)) (sym same) ∙ t)));
  }) its

  -- w is u at another stage
  module _ (w : Waiting) (same : w.operation.op ≡ u.operation.op) (places : w.shard ≡ u.shard) where
    proposes : (entry : Entry) → MarksWell c cs line u (step.Propose entry) → AreWritten (propose_entry w.shard entry (wait_for line w (wait.Entry (last_number (group_of w.shard c) + 1)) c)) cs
    proposes entry well = proposed_written w.shard entry waits cs may (put_written c cs line waiting free its)
      where
        waiting : Waiting
        waiting = record w { wait = wait.Entry (last_number (group_of w.shard c) + 1) }

        waits : Core
        waits = put_operation line waiting c

        here : (k : ℕ) → k ≡ line → (x : Waiting) → operation_of k (put_operation line (record w { wait = wait.Entry (last_number (group_of w.shard c) + 1) }) c) ≡ Some x → x.operation.op ≡ u.operation.op
        here k is x e =
            let found : operation_of line waits ≡ Some waiting = found_set line c.operations u waiting at in
            let one : waiting ≡ x = some_is waiting x (sym found ∙ subst (λ j. operation_of j waits ≡ Some x) is e) in
            ap (λ (y : Waiting). y.operation.op) (sym one) ∙ same

        may : MayPropose (put_operation line (record w { wait = wait.Entry (last_number (group_of w.shard c) + 1) }) c) cs w.shard entry
        may k least number m x is e =
            let good = well k least number m (ap (λ y. step.Propose y) is) in
            of_write_on c.sessions c.sessions u.operation.op x.operation.op (catalogue_at cs w.shard) number m (here k good.0 x e) (λ q s. refl)
            (subst (λ j. IsOfWrite c.sessions u.operation.op (catalogue_at cs j) number m) (sym places) good.1)

    carried_written : (taken : OpStep) → MarksWell c cs line u taken → AreWritten (carry_out line w taken c) cs
    carried_written (step.Answer told) well = answered_written w told same
    carried_written (step.Propose entry) well = proposes entry well
    carried_written (step.Compare number) well =
        let waits : Core = wait_for line w (wait.Bytes number) c in
        alike_written waits (change_with (lead_of w.shard c) (add_read number line) waits) cs (read_alike number line (lead_of w.shard c) waits)
        (put_written c cs line (record w { wait = wait.Bytes number }) free its)
    carried_written step.Wait well = put_written c cs line (record w { wait = what_holds w c }) free its

  pub stepped_written : (taken : OpStep) → MarksWell c cs line u taken → AreWritten (take_step line u taken c) cs
  stepped_written taken well = carried_written (record u { operation = after_step taken u.operation }) refl refl taken well

pub going_written : (next : OpView → Operation → OpStep) (c : Core) (cs : List Folded) (line : ℕ) → IsFree c line → AreApart c
    → ((w : Waiting) → operation_of line c ≡ Some w → MarksWell c cs line w (next (view_for w.shard w.operation.op c) w.operation)) → AreWritten c cs → AreWritten (go_on_with next line c) cs
going_written next c cs line free apart well its = go (operation_of line c) refl
  where
    go : (o : Option Waiting) → operation_of line c ≡ o → AreWritten (change_with o (λ w. take_step line w (next (view_for w.shard w.operation.op c) w.operation)) c) cs
    go None at = its
    go (Some u) at = stepped_written c cs line free apart its u at (next (view_for u.shard u.operation.op c) u.operation) (well u at)

-- ---- an operation goes on

idle_is : (w : Wait) → MayGoOn w → IsIdle w
idle_is wait.View h = tt
idle_is wait.Address h = tt
idle_is wait.Room h = tt
idle_is (wait.Bytes number) h = tt
idle_is (wait.Entry number) h = h

pub written_goes : (name : List ℕ → Address) (cs : List Folded) (c : Core) → IsOrderly name c → AreWritten c cs → (line : ℕ) → ((w : Waiting) → operation_of line c ≡ Some w → MayGoOn w.wait) → AreWritten (resume line c) cs
written_goes name cs c order its line idle =
    going_written go_step c cs line (idle_free name c line order (λ w at. idle_is w.wait (idle w at))) order.alone
    (λ w at. no_mark_well c cs line w (go_step (view_for w.shard w.operation.op c) w.operation) (from_no_mark (view_for w.shard w.operation.op c) w.operation.line w.operation.op w.operation.stage)) its

-- ---- an entry takes effect

above : (n k front : ℕ) → n ≡ k → k ≤ front → n ≡ front + 1 → ⊥
above n k front e low same = omega (arith, e, low, same)

module _ (name : List ℕ → Address) (cs : List Folded) (shard number : ℕ) (entry : Entry) (core : Core) (low : shard < (shape_of core).shards) (folded : IsFolded core cs) (order : IsOrderly name core)
    (leads : committed (group_of shard core) ≡ Some (number, entry)) (names : (place : ℕ) (e : Entry) → slice_get (group_of shard core).waiting place ≡ Some e → NamesUpTo (front_of shard core) e) (its : AreWritten core cs) where
  abbrev behind : List Folded
  behind = folds_behind name cs shard entry core

  abbrev next : Folded
  next = applied (setting_of name core) cs (next_deed shard entry core)

  one : IsFirst (group_of shard core) number entry
  one = committed_first (group_of shard core) number entry leads

  -- what is there behind the entry was there, if it is no block that the entry stores
  still : (g : ℕ) (o : Op) (block : ℕ) (m : Address) → (g ≡ shard → block ≤ front_of shard core) → IsOfWrite core.sessions o (catalogue_at cs g) block m → IsOfWrite core.sessions o (catalogue_at behind g) block m
  still g o block m below was session payload handles f is at numbered = go (one_or_other g shard)
    where
      go : (g ≡ shard) ⊎ (g ≡ shard → ⊥) → block_of f.present.stored ≡ asked_block core.sessions session payload handles
      go (inl here) =
          let now : catalogue_at behind g ≡ next = ap (λ k. catalogue_at behind k) here ∙ same-at empty_catalogue cs shard next (low_here name cs core shard entry folded low) in
          let old = was-there (shard_in (setting_of name core) shard) (catalogue_at cs shard) (own_here name cs core shard entry folded low) m f (front_of shard core + 1) entry
          (above f.present.number block (front_of shard core) numbered (below here)) (subst (λ (x : Folded). facts_at x m ≡ Some f) now at) in
          ap (λ s. block_of s) (sym old.stored)
          ∙ was session payload handles old.old is (subst (λ k. facts_at (catalogue_at cs k) m ≡ Some old.old) (sym here) old.found) (old.number ∙ numbered)
      go (inr d) = was session payload handles f is (subst (λ (x : Folded). facts_at x m ≡ Some f) (other-at empty_catalogue cs shard g next d) at) numbered

  -- a Mark that waits behind the entry waited before
  pub taken_written : AreWritten (taken shard entry core) behind
  taken_written g place line least block m w at of = go (group_changed shard take_committed core g)
    where
      by_place : (k : ℕ) → slice_get (group_of g core).waiting k ≡ Some (kind.Mark line least block m) → IsOfWrite core.sessions w.operation.op (catalogue_at behind g) block m
      by_place k there = still g w.operation.op block m (λ e. names k (kind.Mark line least block m) (subst (λ j. slice_get (group_of j core).waiting k ≡ Some (kind.Mark line least block m)) e there))
          (its g k line least block m w there of)

      go : (group_of g (change_group shard take_committed core) ≡ group_of g core) ⊎ ((g ≡ shard) × (group_of g (change_group shard take_committed core) ≡ take_committed (group_of shard core)))
          → IsOfWrite core.sessions w.operation.op (catalogue_at behind g) block m
      go (inl same) = by_place place (sym (ap (λ (x : Group). slice_get x.waiting place) same) ∙ at)
      go (inr is) =
          let there : slice_get (group_of shard core).waiting (suc place) ≡ Some (kind.Mark line least block m) =
          sym (at_front (group_of shard core).waiting place) ∙ sym (ap (λ es. slice_get es place) one.taken.waiting) ∙ sym (ap (λ (x : Group). slice_get x.waiting place) is.1) ∙ at in
          by_place (suc place) (subst (λ j. slice_get (group_of j core).waiting (suc place) ≡ Some (kind.Mark line least block m)) (sym is.0) there)

-- ---- what is told of it

sweep_alike : (shard removed : ℕ) (c : Core) → AlikeHere c (note_sweep shard removed c)
sweep_alike shard removed c = go _
  where
    go : (b : Bool) → AlikeHere c (change_if b (note who.Store deed.Nothing (reply.Done (catalogue_of shard c).swept)) (note (who.Shard shard) (deed.Swept shard) (reply.Sweep (catalogue_of shard c).swept removed) c))
    go true = record { operations = refl; sessions = refl; waiting = λ g. refl }
    go false = record { operations = refl; sessions = refl; waiting = λ g. refl }

pub swept_alike : (shard : ℕ) (removed : Option ℕ) (c : Core) → AlikeHere c (change_with removed (note_sweep shard) c)
swept_alike shard None c = record { operations = refl; sessions = refl; waiting = λ g. refl }
swept_alike shard (Some n) c = sweep_alike shard n c

pub enter_alike : (shard : ℕ) (did : What) (c : Core) → AlikeHere c (note_enter shard did c)
enter_alike shard (what.Entered epoch) c = record { operations = refl; sessions = refl; waiting = λ g. refl }
enter_alike shard other c = record { operations = refl; sessions = refl; waiting = λ g. refl }

module _ (shard : ℕ) (c : Core) (cs : List Folded) (apart : AreApart c) (counted : (line : ℕ) (w : Waiting) → operation_of line c ≡ Some w → 1 ≤ line) (its : AreWritten c cs) where
  heard_written : (line : ℕ) (did : What) → IsFree c line → AreWritten (tell_operation line did c) cs
  heard_written line did free = going_written (λ v o. effect_step v did o) c cs line free apart
      (λ w at. no_mark_well c cs line w (effect_step (view_for w.shard w.operation.op c) did w.operation) (effect_no_mark (view_for w.shard w.operation.op c) w.operation.line did w.operation.op)) its

  entered_written : (line : ℕ) (did : What) → ((line == 0) ≡ false → IsFree c line) → AreWritten (tell_enter shard line did c) cs
  entered_written line did free = go (operation_of line c) refl
    where
      not_none : 1 ≤ line → (line == 0) ≡ false
      not_none low = grind (arith, nat_tests, low)

      go : (o : Option Waiting) → operation_of line c ≡ o → AreWritten (cond (is_some o) (tell_operation line did c) (note_enter shard did c)) cs
      go None at = alike_written c (note_enter shard did c) cs (enter_alike shard did c) its
      go (Some u) at = heard_written line did (free (not_none (counted line u at)))

  tells_written : (entry : Entry) (effect : Effect) → ((line : ℕ) → asked_by entry ≡ Some line → IsFree c line) → AreWritten (tells_at_once shard entry effect c) cs
  tells_written (kind.View view) effect free = its
  tells_written (kind.Block line least bytes) effect free = heard_written line effect.what (free line refl)
  tells_written (kind.Mark line least block a) effect free = heard_written line effect.what (free line refl)
  tells_written (kind.Root line held a key) effect free = heard_written line effect.what (free line refl)
  tells_written (kind.Drop line key) effect free = heard_written line effect.what (free line refl)
  tells_written (kind.Enter line epoch) effect free = entered_written line effect.what (λ e. free line (ap (λ b. cond b None (Some line)) e))
  tells_written (kind.Got from epoch round total deltas) effect free = alike_written c (change_with effect.removed (note_sweep shard) c) cs (swept_alike shard effect.removed c) its
  tells_written (kind.Base view epoch swept round frames) effect free = its
  tells_written (kind.KeptBlock born mark flags count bytes) effect free = its
  tells_written (kind.KeptRoot created dropped counted address key) effect free = its
  tells_written (kind.KeptRound way other epoch round total deltas) effect free = its

-- premise: each Mark that waits in the shard names a block that took effect
pub written_effect : (name : List ℕ → Address) (cs : List Folded) (core : Core) → IsFolded core cs → IsOrderly name core → AreWritten core cs → (shard number : ℕ) (entry : Entry) → shard < (shape_of core).shards
    → committed (group_of shard core) ≡ Some (number, entry) → ((place : ℕ) (e : Entry) → slice_get (group_of shard core).waiting place ≡ Some e → NamesUpTo (front_of shard core) e)
    → AreWritten (told_at_once shard entry core) (folds_behind name cs shard entry core)
written_effect name cs core folded order its shard number entry low leads names =
    tells_written shard (taken shard entry core) (folds_behind name cs shard entry core) order.alone (λ line w at. (order.pending line w at).counted)
    (taken_written name cs shard number entry core low folded order leads names its) entry (done_by shard entry core).effect
    (λ line by g place x at of. taken_free name shard number line entry core order leads by g place x at of)

-- ---- the other changes

pub written_beside : (cs : List Folded) (a b : Core) → IsBeside a b → AreWritten a cs → AreWritten b cs
written_beside cs a b same its = alike_written a b cs (record { operations = same.operations; sessions = same.sessions; waiting = same.waiting }) its

pub written_downed : (cs : List Folded) (c : Core) → AreWritten c cs → (peer line : ℕ) → AreWritten (note who.Store deed.Nothing (reply.Down peer line) c) cs
written_downed cs c its peer line = its

pub written_refused : (cs : List Folded) (c : Core) → AreWritten c cs → (line : ℕ) (refusal : Reply) → AreWritten (refuse line refusal c) cs
written_refused cs c its line refusal = its

pub entered_proposed : (cs : List Folded) (c : Core) → AreWritten c cs → (shard line epoch : ℕ) → AreWritten (propose_entry shard (kind.Enter line epoch) c) cs
entered_proposed cs c its shard line epoch = proposed_written shard (kind.Enter line epoch) c cs (λ k least number m w is at. absurd (cc is)) its

pub written_due : (cs : List Folded) (c : Core) → AreWritten c cs → (shard : ℕ) → AreWritten (propose_entry shard (kind.Enter 0 ((catalogue_of shard c).epoch + 1)) c) cs
written_due cs c its shard = entered_proposed cs c its shard 0 ((catalogue_of shard c).epoch + 1)

pub written_round : (cs : List Folded) (c : Core) → AreWritten c cs → (from to epoch round total : ℕ) (deltas : List Delta) (f : Pool → Pool) → AreWritten (propose_entry to (kind.Got from epoch round total deltas) (change_pool f c)) cs
written_round cs c its from to epoch round total deltas f =
    proposed_written to (kind.Got from epoch round total deltas) (change_pool f c) cs (λ line least number m w is at. absurd (cc is)) its

pub written_again : (cs : List Folded) (c : Core) → AreWritten c cs → (back shard : ℕ) → AreWritten (send_round back shard c) cs
written_again cs c its back shard = alike_written c (send_round back shard c) cs (go (sent_back back (catalogue_of shard c).run)) its
  where
    go : (o : Option (ℕ × ℕ)) → AlikeHere c (change_with o (λ at. post (round_messages shard (messages (catalogue_of shard c).shape.shards at.0 at.1 (catalogue_of shard c).run))) c)
    go None = record { operations = refl; sessions = refl; waiting = λ g. refl }
    go (Some at) = record { operations = refl; sessions = refl; waiting = λ g. refl }
