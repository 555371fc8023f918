-- Each single change of a core leaves each Mark that waits the pointers that its line writes, whatever bytes are told.
use Rattle.std.proofs.Common.{◌≡◌, ◌∙◌, sym, ap, subst, ◌⊎◌, inl, inr, ℕ, suc, ◌+◌, ◌<◌, ◌≤◌, ◌==◌, true, false, cond, length, List, [], ◌∷◌, ◌++◌, Option, Some, None, refl, arith, is_some, slice_get, bytes_eq}
use Rattle.std.proofs.lemmas.Bool.{and_parts}
use Rattle.std.proofs.lemmas.Bool.Decides.{nat_tests}
use Rattle.std.proofs.lemmas.Map.Made.{lookup-map_values}
use Rattle.std.specs.BTreeMap.{is_at}
use Rattle.std.specs.Cmp.Lexicographic.{pointwise}
use Rattle.std.specs.Map.{lookup}
use Rattle.std.specs.Option.{option_map, option_map_or}
use Rattle.std.specs.Ordering.{nat_cmp}
use Rattle.std.specs.Prelude.{slice_index_or}
use Rattle.hs_standing.specs.Changes.{IsBeside, told_at_once, tells_at_once}
use Rattle.hs_standing.specs.Changes.{IsIdle as MayGoOn}
use Rattle.hs_answered.specs.Standing.{IsFolded}
use Rattle.hs_awaiting.specs.declared.wait.Wait.{Wait}
use Rattle.hs_awaiting.specs.declared.wait.Wait.TheVariants as wait
use Rattle.hs_awaiting.specs.declared.waiting.Waiting.{Waiting}
use Rattle.hs_awaiting.specs.Words.{change_with}
use Rattle.hs_core_words.specs.Asking.{send_round}
use Rattle.hs_core_words.specs.Changing.{add_entry_tasks, add_operation, change_group, change_pool, note, post, put_operation, refuse, set_viewed}
use Rattle.hs_core_words.specs.Effects.{note_enter, note_sweep, round_messages, tell_enter, tell_operation}
use Rattle.hs_core_words.specs.Looking.{catalogue_of, front_of, group_of, lead_of, operation_of, shape_of}
use Rattle.hs_core_words.specs.Opening.{Taken, new_core}
use Rattle.hs_core_words.specs.Operating.{add_read, answer, begin_line, busy_line, carry_out, go_on_with, propose_entry, resume, take_step, wait_for, what_holds}
use Rattle.hs_core_words.specs.Seeing.{pointers_for, view_for}
use Rattle.hs_core_words.specs.State.{Core}
use Rattle.hs_core_words.specs.Views.{begin_view, restart}
use Rattle.hs_deeds.specs.Points.{ArePointed, MarksPoint, PointsAt}
use Rattle.hs_deeds.proofs.GrantedLemmas.{same_pointers}
use Rattle.hs_desk.specs.declared.what.What.{What}
use Rattle.hs_effects.specs.Logged.{IsNewLine, IsOrderly, asked_by}
use Rattle.hs_effects.specs.Taking.{IsNamed, done_by, folds_behind, next_deed, setting_of, taken}
use Rattle.hs_effects.proofs.BeginLemmas.{added, begin_is, seats_apart}
use Rattle.hs_effects.proofs.EffectLemmas.{committed_named, taken_free}
use Rattle.hs_effects.proofs.FoldLemmas.{low_here, memory_at, own_here, taken_folds}
use Rattle.hs_effects.proofs.GoingLemmas.{IsIdle, idle_free}
use Rattle.hs_effects.proofs.GroupLemmas.{IsFirst, at_end, at_front, committed_first, group_changed}
use Rattle.hs_effects.proofs.LookLemmas.{found_insert, found_set, insert_other, number_exact, one_or_other, remove_other, set_other}
use Rattle.hs_effects.proofs.OrderlyLemmas.{IsFree, some_is}
use Rattle.hs_effects.proofs.QuietLemmas.{Quiet, going_quiet, proposed_quiet}
use Rattle.hs_effects.proofs.SeatLemmas.{IsSameFor, block_same, seats_other}
use Rattle.hs_effects.proofs.ViewLemmas.{at_cut}
use Rattle.hs_entry.specs.declared.entry.Entry.{Entry}
use Rattle.hs_entry.specs.declared.entry.Entry.TheVariants as kind
use Rattle.hs_fold.proofs.Shards.PlaceLemmas.{other-at, same-at}
use Rattle.hs_fold.specs.Runs.Facts.{Catalogue as Folded, Facts as FoldedFacts}
use Rattle.hs_fold.specs.Runs.Facts.{empty_catalogue}
use Rattle.hs_fold.specs.Runs.Facts.{facts_at as folded_at}
use Rattle.hs_fold.specs.Runs.Fits.{catalogue_at}
use Rattle.hs_fold.specs.Runs.History.{applied}
use Rattle.hs_fold.specs.Shards.Parted.{NamesUpTo}
use Rattle.hs_fold.specs.Shards.Setting.{shard_in}
use Rattle.hs_standing.proofs.AgainLemmas.{Was, was}
use Rattle.hs_standing.proofs.LegalLineLemmas.{begun_quiet}
use Rattle.hs_standing.proofs.MuteLemmas.{at_once_quiet}
use Rattle.hs_standing.proofs.AnswerLemmas.{HasCompared, ProposesNoMark, bytes_mark, effect_no_mark, from_no_mark, mark_line}
use Rattle.hs_standing.proofs.WrittenLemmas.{AlikeHere, AreApart, ChangesHere, enter_alike, swept_alike}
use Rattle.hs_journal.specs.declared.entry.Who.TheVariants as who
use Rattle.hs_journal.specs.Order.{session_of}
use Rattle.hs_limits.specs.Block.{Block, spell}
use Rattle.hs_limits.specs.declared.limits.Limits.{Limits}
use Rattle.hs_limits.specs.declared.shape.Shape.{Shape}
use Rattle.hs_members.specs.Members.{view_of}
use Rattle.hs_limits.specs.declared.address.Address.{Address}
use Rattle.hs_limits.specs.declared.delta.Delta.{Delta}
use Rattle.hs_memory.specs.Forget.{forget, known_of}
use Rattle.hs_model.specs.declared.deed.Deed.TheVariants as deed
use Rattle.hs_model.specs.declared.op.Op.{Op}
use Rattle.hs_model.specs.declared.op.Op.TheVariants as op
use Rattle.hs_model.specs.declared.reply.Reply.{Reply}
use Rattle.hs_model.specs.declared.reply.Reply.TheVariants as reply
use Rattle.hs_model.specs.declared.store.StoredBlock.{StoredBlock}
use Rattle.hs_model.specs.Store.{address_cmp}
use Rattle.hs_ops.specs.Answers.{gained, seats_after}
use Rattle.hs_ops.specs.declared.step.OpStep.{OpStep}
use Rattle.hs_ops.specs.declared.step.OpStep.TheVariants as step
use Rattle.hs_ops.specs.Going.{go, is_same_block, judged_in, on_bytes}
use Rattle.hs_ops.specs.Operations.{Operation, after_step, bytes_step, effect_step, go_step, new_operation, wanted_number}
use Rattle.hs_ops.specs.Speaking.{asked_block, asked_pointers, judging_shard}
use Rattle.hs_ops.specs.Views.{OpView}
use Rattle.hs_post.specs.Pool.{Pool, without}
use Rattle.hs_replica.specs.Group.{Group, committed, last_number, proposal, propose, renew, renewal, take_committed}
use Rattle.hs_rounds.specs.Rounds.{sent_back}
use Rattle.hs_shard.specs.declared.effect.Effect.{Effect}
use Rattle.hs_shard.specs.declared.facts.Facts.{Facts}
use Rattle.hs_shard.specs.Facts.{Catalogue, facts_at}
use Rattle.hs_shard.specs.Facts.{empty_catalogue as no_catalogue}
use Rattle.hs_shard.specs.Rounds.{messages}
use Rattle.hs_tokens.specs.Seats.{Seats, seat_of}
use Rattle.hs_waiting.proofs.WasLemmas.{was-there}

-- ---- what an operation writes rests on its own session

pointers_same : (a b : Seats) (session payload handles : List ℕ) → seat_of session b ≡ seat_of session a → asked_pointers a session handles ≡ asked_pointers b session handles
unfolding asked_block
pointers_same a b session payload handles e = ap (λ (block : Block). block.pointers) (block_same a b session payload handles e)

of_write_on : (a b : Seats) (o p : Op) (c : Catalogue) (number : ℕ) (m : Address) → p ≡ o → IsSameFor o a b → PointsAt a o c number m → PointsAt b p c number m
of_write_on a b o p c number m same seats its session payload handles f is at numbered =
    let written : o ≡ op.Write session payload handles (Some m) = sym same ∙ is in
    its session payload handles f written at numbered ∙ pointers_same a b session payload handles (seats session (ap (λ x. session_of (Some x)) written))

-- ---- where the lists are as they were

pub alike_pointed : (a b : Core) (ks : ℕ → Catalogue) → AlikeHere a b → ArePointed a ks → ArePointed b ks
alike_pointed a b ks same its shard place line least number m w at of =
    of_write_on a.sessions b.sessions w.operation.op w.operation.op (ks shard) number m refl (λ q s. ap (λ (seats : Seats). seat_of q seats) same.sessions)
    (its shard place line least number m w (sym (ap (λ es. slice_get es place) (same.waiting shard)) ∙ at) (sym (ap (λ (es : List (ℕ × Waiting)). lookup (is_at (nat_cmp line)) es) same.operations) ∙ of))

-- one line's operation changes, and with it its session alone, while no entry of the line waits
pub changed_pointed : (a b : Core) (ks : ℕ → Catalogue) (line : ℕ) → IsFree a line → ChangesHere a b line → ArePointed a ks → ArePointed b ks
changed_pointed a b ks line free ch its shard place k least number m w at of = go (one_or_other k line)
  where
    there : slice_get (group_of shard a).waiting place ≡ Some (kind.Mark k least number m)
    there = sym (ap (λ es. slice_get es place) (ch.waiting shard)) ∙ at

    go : (k ≡ line) ⊎ (k ≡ line → ⊥) → PointsAt b.sessions w.operation.op (ks shard) number m
    go (inl is) = absurd (free shard place (kind.Mark k least number m) there (ap (λ j. Some j) is))
    go (inr d) =
        let was : operation_of k a ≡ Some w = sym (ch.others k d) ∙ of in
        of_write_on a.sessions b.sessions w.operation.op w.operation.op (ks shard) number m refl (λ q s. ch.seats k w q d was s) (its shard place k least number m w there was)

pub put_pointed : (c : Core) (ks : ℕ → Catalogue) (line : ℕ) (w : Waiting) → IsFree c line → ArePointed c ks → ArePointed (put_operation line w c) ks
put_pointed c ks line w free its = changed_pointed c (put_operation line w c) ks line free
    (record { waiting = λ g. refl; others = λ l d. set_other nat_cmp number_exact c.operations line l w d; seats = λ l v q d at s. refl }) its

-- ---- an entry is proposed

-- a Mark that is proposed is of the block that its line writes
abbrev pub MayPropose : Core → (ℕ → Catalogue) → ℕ → Entry → Type 0
MayPropose c ks shard entry =
    (line least number : ℕ) (m : Address) (w : Waiting) → entry ≡ kind.Mark line least number m → operation_of line c ≡ Some w → PointsAt c.sessions w.operation.op (ks shard) number m

listed_pointed : (shard : ℕ) (entry : Entry) (c : Core) (ks : ℕ → Catalogue) → MayPropose c ks shard entry → ArePointed c ks → ArePointed (change_group shard (propose entry) c) ks
listed_pointed shard entry c ks may its g place line least number m w at of = go (group_changed shard (propose entry) c g)
  where
    by_end : (slice_get (group_of shard c).waiting place ≡ Some (kind.Mark line least number m)) ⊎ ((place ≡ length (group_of shard c).waiting) × (entry ≡ kind.Mark line least number m))
        → PointsAt c.sessions w.operation.op (ks shard) number m
    by_end (inl old) = its shard place line least number m w old of
    by_end (inr last) = may line least number m w last.1 of

    go : (group_of g (change_group shard (propose entry) c) ≡ group_of g c) ⊎ ((g ≡ shard) × (group_of g (change_group shard (propose entry) c) ≡ propose entry (group_of shard c)))
        → PointsAt c.sessions w.operation.op (ks g) number m
    go (inl same) = its g place line least number m w (sym (ap (λ (x : Group). slice_get x.waiting place) same) ∙ at) of
    go (inr is) =
        let there : slice_get ((group_of shard c).waiting ++ entry ∷ []) place ≡ Some (kind.Mark line least number m) = sym (ap (λ (x : Group). slice_get x.waiting place) is.1) ∙ at in
        subst (λ j. PointsAt c.sessions w.operation.op (ks j) number m) (sym is.0) (by_end (at_end (group_of shard c).waiting entry (kind.Mark line least number m) place there))

sent_alike : (shard : ℕ) (entry : Entry) (c : Core) → AlikeHere (change_group shard (propose entry) c) (propose_entry shard entry c)
sent_alike shard entry c = go (lead_of shard c)
  where
    sent : Core
    sent = post (proposal entry (group_of shard c)) (change_group shard (propose entry) c)

    go : (lead : Option ℕ) → AlikeHere (change_group shard (propose entry) c) (change_with lead (λ peer. add_entry_tasks peer (last_number (group_of shard c) + 1) entry) sent)
    go None = record { operations = refl; sessions = refl; waiting = λ g. refl }
    go (Some peer) = record { operations = refl; sessions = refl; waiting = λ g. refl }

pub proposed_pointed : (shard : ℕ) (entry : Entry) (c : Core) (ks : ℕ → Catalogue) → MayPropose c ks shard entry → ArePointed c ks → ArePointed (propose_entry shard entry c) ks
proposed_pointed shard entry c ks may its =
    alike_pointed (change_group shard (propose entry) c) (propose_entry shard entry c) ks (sent_alike shard entry c) (listed_pointed shard entry c ks may its)

-- ---- one step

read_alike : (number line : ℕ) (lead : Option ℕ) (x : Core) → AlikeHere x (change_with lead (add_read number line) x)
read_alike number line None x = record { operations = refl; sessions = refl; waiting = λ g. refl }
read_alike number line (Some peer) x = record { operations = refl; sessions = refl; waiting = λ g. refl }

-- where a step proposes a Mark, it is of the block that its operation writes
abbrev pub MarksWell : Core → (ℕ → Catalogue) → ℕ → Waiting → OpStep → Type 0
MarksWell c ks line u taken =
    (k least number : ℕ) (m : Address) → taken ≡ step.Propose (kind.Mark k least number m) → (k ≡ line) × PointsAt c.sessions u.operation.op (ks u.shard) number m

pub no_mark_well : (c : Core) (ks : ℕ → Catalogue) (line : ℕ) (u : Waiting) (taken : OpStep) → ProposesNoMark taken → MarksWell c ks line u taken
no_mark_well c ks line u taken none k least number m e = absurd (none k least number m e)

module _ (c : Core) (ks : ℕ → Catalogue) (line : ℕ) (free : IsFree c line) (apart : AreApart c) (its : ArePointed c ks) (u : Waiting) (at : operation_of line c ≡ Some u) where
  answered_pointed : (w : Waiting) (told : Reply) → w.operation.op ≡ u.operation.op → ArePointed (answer line w told c) ks
  answered_pointed w told same = changed_pointed c (answer line w told c) ks line free (record {
    waiting = λ g. refl;
    others = λ l d. remove_other nat_cmp number_exact c.operations line l d;
    seats = λ l v q d e s. seats_other (gained (view_for w.shard w.operation.op c) (pointers_for w.shard w.operation.op c) w.operation.op) w.operation.op told c.sessions q
        (λ t. d (apart l line v u q e at s (ap (λ o. session_of (Some o)) (sym same) ∙ t)));
  }) its

  -- w is u at another stage
  module _ (w : Waiting) (same : w.operation.op ≡ u.operation.op) (places : w.shard ≡ u.shard) where
    proposes : (entry : Entry) → MarksWell c ks line u (step.Propose entry) → ArePointed (propose_entry w.shard entry (wait_for line w (wait.Entry (last_number (group_of w.shard c) + 1)) c)) ks
    proposes entry well = proposed_pointed w.shard entry waits ks may (put_pointed c ks line waiting free its)
      where
        waiting : Waiting
        waiting = record w { wait = wait.Entry (last_number (group_of w.shard c) + 1) }

        waits : Core
        waits = put_operation line waiting c

        here : (k : ℕ) → k ≡ line → (x : Waiting) → operation_of k (put_operation line (record w { wait = wait.Entry (last_number (group_of w.shard c) + 1) }) c) ≡ Some x → x.operation.op ≡ u.operation.op
        here k is x e =
            let found : operation_of line waits ≡ Some waiting = found_set line c.operations u waiting at in
            let one : waiting ≡ x = some_is waiting x (sym found ∙ subst (λ j. operation_of j waits ≡ Some x) is e) in
            ap (λ (y : Waiting). y.operation.op) (sym one) ∙ same

        may : MayPropose (put_operation line (record w { wait = wait.Entry (last_number (group_of w.shard c) + 1) }) c) ks w.shard entry
        may k least number m x is e =
            let good = well k least number m (ap (λ y. step.Propose y) is) in
            of_write_on c.sessions c.sessions u.operation.op x.operation.op (ks w.shard) number m (here k good.0 x e) (λ q s. refl)
            (subst (λ j. PointsAt c.sessions u.operation.op (ks j) number m) (sym places) good.1)

    carried_pointed : (taken : OpStep) → MarksWell c ks line u taken → ArePointed (carry_out line w taken c) ks
    carried_pointed (step.Answer told) well = answered_pointed w told same
    carried_pointed (step.Propose entry) well = proposes entry well
    carried_pointed (step.Compare number) well =
        let waits : Core = wait_for line w (wait.Bytes number) c in
        alike_pointed waits (change_with (lead_of w.shard c) (add_read number line) waits) ks (read_alike number line (lead_of w.shard c) waits)
        (put_pointed c ks line (record w { wait = wait.Bytes number }) free its)
    carried_pointed step.Wait well = put_pointed c ks line (record w { wait = what_holds w c }) free its

  pub stepped_pointed : (taken : OpStep) → MarksWell c ks line u taken → ArePointed (take_step line u taken c) ks
  stepped_pointed taken well = carried_pointed (record u { operation = after_step taken u.operation }) refl refl taken well

pub going_pointed : (next : OpView → Operation → OpStep) (c : Core) (ks : ℕ → Catalogue) (line : ℕ) → IsFree c line → AreApart c
    → ((w : Waiting) → operation_of line c ≡ Some w → MarksWell c ks line w (next (view_for w.shard w.operation.op c) w.operation)) → ArePointed c ks → ArePointed (go_on_with next line c) ks
going_pointed next c ks line free apart well its = go (operation_of line c) refl
  where
    go : (o : Option Waiting) → operation_of line c ≡ o → ArePointed (change_with o (λ w. take_step line w (next (view_for w.shard w.operation.op c) w.operation)) c) ks
    go None at = its
    go (Some u) at = stepped_pointed c ks line free apart its u at (next (view_for u.shard u.operation.op c) u.operation) (well u at)

-- ---- an operation goes on

idle_is : (w : Wait) → MayGoOn w → IsIdle w
idle_is wait.View h = tt
idle_is wait.Address h = tt
idle_is wait.Room h = tt
idle_is (wait.Bytes number) h = tt
idle_is (wait.Entry number) h = h

pub pointed_goes : (name : List ℕ → Address) (ks : ℕ → Catalogue) (c : Core) → IsOrderly name c → ArePointed c ks → (line : ℕ) → ((w : Waiting) → operation_of line c ≡ Some w → MayGoOn w.wait) → ArePointed (resume line c) ks
pointed_goes name ks c order its line idle =
    going_pointed go_step c ks line (idle_free name c line order (λ w at. idle_is w.wait (idle w at))) order.alone
    (λ w at. no_mark_well c ks line w (go_step (view_for w.shard w.operation.op c) w.operation) (from_no_mark (view_for w.shard w.operation.op c) w.operation.line w.operation.op w.operation.stage)) its

-- ---- an entry takes effect

above : (n k front : ℕ) → n ≡ k → k ≤ front → n ≡ front + 1 → ⊥
above n k front e low same = omega (arith, e, low, same)

-- what a catalogue in memory knows, its fold has
kept_facts : (x : Option FoldedFacts) (f : Facts) → option_map known_of x ≡ Some f → (g : FoldedFacts) × (x ≡ Some g) × (known_of g ≡ f)
kept_facts None f e = absurd (cc e)
kept_facts (Some g) f e = (g, refl, cc e)

-- the catalogues behind an entry, by shard
abbrev pub catalogues_behind : ℕ → Entry → Core → ℕ → Catalogue
catalogues_behind shard entry core g = catalogue_of g (taken shard entry core)

module _ (name : List ℕ → Address) (cs : List Folded) (shard number : ℕ) (entry : Entry) (core : Core) (low : shard < (shape_of core).shards) (folded : IsFolded core cs) (called : IsNamed name entry core)
    (leads : committed (group_of shard core) ≡ Some (number, entry)) (names : (place : ℕ) (e : Entry) → slice_get (group_of shard core).waiting place ≡ Some e → NamesUpTo (front_of shard core) e) (its : ArePointed core (λ g. catalogue_of g core)) where
  abbrev behind : List Folded
  behind = folds_behind name cs shard entry core

  abbrev next : Folded
  next = applied (setting_of name core) cs (next_deed shard entry core)

  one : IsFirst (group_of shard core) number entry
  one = committed_first (group_of shard core) number entry leads

  memory : catalogue_of shard core ≡ forget (shape_of core) shard (catalogue_at cs shard)
  memory = memory_at name cs core shard entry folded low

  memory_then : catalogue_of shard (taken shard entry core) ≡ forget (shape_of core) shard (applied (setting_of name core) cs (next_deed shard entry core))
  memory_then =
      memory_at name behind (taken shard entry core) shard entry (taken_folds name cs core shard entry folded low called) low
      ∙ ap (λ (c : Folded). forget (shape_of core) shard c) (same-at empty_catalogue cs shard next (low_here name cs core shard entry folded low))

  found_in : (c : Folded) (m : Address) → facts_at m (forget (shape_of core) shard c) ≡ option_map known_of (folded_at c m)
  found_in c m = lookup-map_values known_of (is_at (address_cmp m)) c.blocks

  -- what is there behind the entry was there, if it is no block that the entry stores
  still : (g : ℕ) (o : Op) (block : ℕ) (m : Address) → (g ≡ shard → block ≤ front_of shard core) → PointsAt core.sessions o (catalogue_of g core) block m → PointsAt core.sessions o (catalogue_of g (taken shard entry core)) block m
  still g o block m below was session payload handles f is at numbered = go (one_or_other g shard)
    where
      go : (g ≡ shard) ⊎ (g ≡ shard → ⊥) → f.pointers ≡ asked_pointers core.sessions session handles
      go (inl here) =
          let at_shard : facts_at m (catalogue_of shard (taken shard entry core)) ≡ Some f = subst (λ (k : ℕ). facts_at m (catalogue_of k (taken shard entry core)) ≡ Some f) here at in
          let seen = kept_facts (folded_at next m) f (sym (ap (λ (c : Catalogue). facts_at m c) memory_then ∙ found_in next m) ∙ at_shard) in
          let its_number : seen.0.present.number ≡ block = ap (λ (x : Facts). x.number) seen.2 ∙ numbered in
          let old = was-there (shard_in (setting_of name core) shard) (catalogue_at cs shard) (own_here name cs core shard entry folded low) m seen.0 (front_of shard core + 1) entry
          (above seen.0.present.number block (front_of shard core) its_number (below here)) seen.1 in
          let there : facts_at m (catalogue_of g core) ≡ Some (known_of old.old) =
          ap (λ (k : ℕ). facts_at m (catalogue_of k core)) here ∙ ap (λ (c : Catalogue). facts_at m c) memory ∙ found_in (catalogue_at cs shard) m ∙ ap (λ (x : Option FoldedFacts). option_map known_of x) old.found in
          sym (ap (λ (x : Facts). x.pointers) seen.2)
          ∙ sym (ap (λ (s : StoredBlock). s.pointers) old.stored)
          ∙ was session payload handles (known_of old.old) is there (old.number ∙ its_number)
      go (inr d) =
          was session payload handles f is
          (sym (ap (λ (c : Catalogue). facts_at m c) (other-at (no_catalogue (shape_of core) g) core.catalogues shard g (done_by shard entry core).catalogue d)) ∙ at) numbered

  -- a Mark that waits behind the entry waited before
  taken_pointed : ArePointed (taken shard entry core) (catalogues_behind shard entry core)
  taken_pointed g place line least block m w at of = go (group_changed shard take_committed core g)
    where
      by_place : (k : ℕ) → slice_get (group_of g core).waiting k ≡ Some (kind.Mark line least block m) → PointsAt core.sessions w.operation.op (catalogue_of g (taken shard entry core)) block m
      by_place k there = still g w.operation.op block m (λ e. names k (kind.Mark line least block m) (subst (λ j. slice_get (group_of j core).waiting k ≡ Some (kind.Mark line least block m)) e there))
          (its g k line least block m w there of)

      go : (group_of g (change_group shard take_committed core) ≡ group_of g core) ⊎ ((g ≡ shard) × (group_of g (change_group shard take_committed core) ≡ take_committed (group_of shard core)))
          → PointsAt core.sessions w.operation.op (catalogue_of g (taken shard entry core)) block m
      go (inl same) = by_place place (sym (ap (λ (x : Group). slice_get x.waiting place) same) ∙ at)
      go (inr is) =
          let there : slice_get (group_of shard core).waiting (suc place) ≡ Some (kind.Mark line least block m) =
          sym (at_front (group_of shard core).waiting place) ∙ sym (ap (λ es. slice_get es place) one.taken.waiting) ∙ sym (ap (λ (x : Group). slice_get x.waiting place) is.1) ∙ at in
          by_place (suc place) (subst (λ j. slice_get (group_of j core).waiting (suc place) ≡ Some (kind.Mark line least block m)) (sym is.0) there)

-- ---- what is told of it

module _ (shard : ℕ) (c : Core) (ks : ℕ → Catalogue) (apart : AreApart c) (counted : (line : ℕ) (w : Waiting) → operation_of line c ≡ Some w → 1 ≤ line) (its : ArePointed c ks) where
  heard_pointed : (line : ℕ) (did : What) → IsFree c line → ArePointed (tell_operation line did c) ks
  heard_pointed line did free = going_pointed (λ v o. effect_step v did o) c ks line free apart
      (λ w at. no_mark_well c ks line w (effect_step (view_for w.shard w.operation.op c) did w.operation) (effect_no_mark (view_for w.shard w.operation.op c) w.operation.line did w.operation.op)) its

  entered_pointed : (line : ℕ) (did : What) → ((line == 0) ≡ false → IsFree c line) → ArePointed (tell_enter shard line did c) ks
  entered_pointed line did free = go (operation_of line c) refl
    where
      not_none : 1 ≤ line → (line == 0) ≡ false
      not_none low = grind (arith, nat_tests, low)

      go : (o : Option Waiting) → operation_of line c ≡ o → ArePointed (cond (is_some o) (tell_operation line did c) (note_enter shard did c)) ks
      go None at = alike_pointed c (note_enter shard did c) ks (enter_alike shard did c) its
      go (Some u) at = heard_pointed line did (free (not_none (counted line u at)))

  tells_pointed : (entry : Entry) (effect : Effect) → ((line : ℕ) → asked_by entry ≡ Some line → IsFree c line) → ArePointed (tells_at_once shard entry effect c) ks
  tells_pointed (kind.View view) effect free = its
  tells_pointed (kind.Block line least bytes) effect free = heard_pointed line effect.what (free line refl)
  tells_pointed (kind.Mark line least block a) effect free = heard_pointed line effect.what (free line refl)
  tells_pointed (kind.Root line held a key) effect free = heard_pointed line effect.what (free line refl)
  tells_pointed (kind.Drop line key) effect free = heard_pointed line effect.what (free line refl)
  tells_pointed (kind.Enter line epoch) effect free = entered_pointed line effect.what (λ e. free line (ap (λ b. cond b None (Some line)) e))
  tells_pointed (kind.Got from epoch round total deltas) effect free = alike_pointed c (change_with effect.removed (note_sweep shard) c) ks (swept_alike shard effect.removed c) its
  tells_pointed (kind.Base view epoch swept round frames) effect free = its
  tells_pointed (kind.KeptBlock born mark flags count bytes) effect free = its
  tells_pointed (kind.KeptRoot created dropped counted address key) effect free = its
  tells_pointed (kind.KeptRound way other epoch round total deltas) effect free = its

-- what an effect tells leaves catalogues
catalogues_told : (shard : ℕ) (entry : Entry) (core : Core) (g : ℕ) → catalogue_of g (told_at_once shard entry core) ≡ catalogue_of g (taken shard entry core)
catalogues_told shard entry core g =
    let q : Quiet (taken shard entry core) (told_at_once shard entry core) = at_once_quiet shard entry (done_by shard entry core).effect (taken shard entry core) in
    λ i. slice_index_or (q.catalogues i) g (no_catalogue (q.members i).shape g)

-- by catalogues that are the same
pub pointed_same : (c : Core) (ks ls : ℕ → Catalogue) → ((g : ℕ) → ls g ≡ ks g) → ArePointed c ks → ArePointed c ls
pointed_same c ks ls same its shard place line least number m w at of = subst (λ (k : Catalogue). PointsAt c.sessions w.operation.op k number m) (sym (same shard)) (its shard place line least number m w at of)

-- premise: each Mark that waits in the shard names a block that took effect
pub pointed_effect : (name : List ℕ → Address) (cs : List Folded) (core : Core) → IsFolded core cs → IsOrderly name core → ArePointed core (λ g. catalogue_of g core) → (shard number : ℕ) (entry : Entry) → shard < (shape_of core).shards
    → committed (group_of shard core) ≡ Some (number, entry) → ((place : ℕ) (e : Entry) → slice_get (group_of shard core).waiting place ≡ Some e → NamesUpTo (front_of shard core) e)
    → ArePointed (told_at_once shard entry core) (λ g. catalogue_of g (told_at_once shard entry core))
pointed_effect name cs core folded order its shard number entry low leads names =
    pointed_same (told_at_once shard entry core) (catalogues_behind shard entry core) (λ g. catalogue_of g (told_at_once shard entry core)) (catalogues_told shard entry core)
    (tells_pointed shard (taken shard entry core) (catalogues_behind shard entry core) order.alone (λ line w at. (order.pending line w at).counted)
    (taken_pointed name cs shard number entry core low folded (committed_named name core shard number entry order leads) leads names its) entry (done_by shard entry core).effect
    (λ line by g place x at of. taken_free name shard number line entry core order leads by g place x at of))

-- ---- bytes are told, whichever

-- a block that compares as the same has the pointers
same_in : (block : Block) (bytes : Option (List ℕ)) (pointers : List Address) → is_same_block block bytes pointers ≡ true → block.pointers ≡ pointers
unfolding is_same_block
same_in block None pointers e = absurd (cc e)
same_in block (Some bs) pointers e = same_pointers block.pointers pointers (and_parts (bytes_eq (spell block) bs) (pointwise (λ p q. bytes_eq p.0 q.0) block.pointers pointers) e).1

module _ (name : List ℕ → Address) (c : Core) (order : IsOrderly name c) where
  told_well : (line : ℕ) (w : Waiting) (bytes : Option (List ℕ)) → operation_of line c ≡ Some w
      → MarksWell c (λ g. catalogue_of g c) line w (bytes_step (view_for w.shard w.operation.op c) bytes (pointers_for w.shard w.operation.op c) w.operation)
  unfolding asked_block
  told_well line w bytes at k least number m e = (of_line, of_write)
    where
      pointers : List Address
      pointers = pointers_for w.shard w.operation.op c

      compared : (session payload handles : List ℕ) (address : Option Address) → w.operation.op ≡ op.Write session payload handles address
          → HasCompared (view_for w.shard w.operation.op c) w.operation.line (wanted_number w.operation.stage) bytes (pointers_for w.shard w.operation.op c) session payload handles address k number m
      compared session payload handles address is =
          bytes_mark (view_for w.shard w.operation.op c) w.operation.line (wanted_number w.operation.stage) bytes pointers session payload handles address k least number m
          (subst (λ (o : Op). on_bytes (view_for w.shard w.operation.op c) w.operation.line (record { number = wanted_number w.operation.stage; bytes = bytes; pointers = pointers }) o ≡ step.Propose (kind.Mark k least number m)) is e)

      of_line : k ≡ line
      of_line = mark_line (view_for w.shard w.operation.op c) w.operation.line (wanted_number w.operation.stage) bytes pointers w.operation.op k least number m e ∙ (order.pending line w at).of_line

      of_write : PointsAt c.sessions w.operation.op (catalogue_of w.shard c) number m
      of_write session payload handles f is there numbered =
          let x = compared session payload handles (Some m) is in
          let its : pointers_for w.shard w.operation.op c ≡ f.pointers =
          ap (λ (o : Op). pointers_for w.shard o c) is ∙ ap (λ (y : Option Facts). option_map_or (λ (g : Facts). g.pointers) y []) there in
          sym its ∙ sym (same_in (asked_block c.sessions session payload handles) bytes pointers x.same)

pub pointed_told : (name : List ℕ → Address) (c : Core) → IsOrderly name c → ArePointed c (λ g. catalogue_of g c) → (line number : ℕ) (bytes : Option (List ℕ)) (w : Waiting) → operation_of line c ≡ Some w → w.wait ≡ wait.Bytes number
    → ArePointed (go_on_with (λ v o. bytes_step v bytes (pointers_for w.shard w.operation.op c) o) line c) (λ g. catalogue_of g c)
pointed_told name c order its line number bytes w at waits =
    going_pointed (λ v o. bytes_step v bytes (pointers_for w.shard w.operation.op c) o) c (λ g. catalogue_of g c) line
    (idle_free name c line order (λ u e. subst (λ (x : Waiting). IsIdle x.wait) (some_is w u (sym at ∙ e)) (subst (λ (x : Wait). IsIdle x) (sym waits) tt))) order.alone
    (λ u e. subst (λ (x : Waiting). MarksWell c (λ g. catalogue_of g c) line x (bytes_step (view_for x.shard x.operation.op c) bytes (pointers_for w.shard w.operation.op c) x.operation)) (some_is w u (sym at ∙ e))
    (told_well name c order line w bytes at)) its

-- ---- the other changes

pub pointed_beside : (ks : ℕ → Catalogue) (a b : Core) → IsBeside a b → ArePointed a ks → ArePointed b ks
pointed_beside ks a b same its = alike_pointed a b ks (record { operations = same.operations; sessions = same.sessions; waiting = same.waiting }) its

pub pointed_downed : (ks : ℕ → Catalogue) (c : Core) → ArePointed c ks → (peer line : ℕ) → ArePointed (note who.Store deed.Nothing (reply.Down peer line) c) ks
pointed_downed ks c its peer line = its

pub pointed_refused : (ks : ℕ → Catalogue) (c : Core) → ArePointed c ks → (line : ℕ) (refusal : Reply) → ArePointed (refuse line refusal c) ks
pointed_refused ks c its line refusal = its

pub entered_proposed : (ks : ℕ → Catalogue) (c : Core) → ArePointed c ks → (shard line epoch : ℕ) → ArePointed (propose_entry shard (kind.Enter line epoch) c) ks
entered_proposed ks c its shard line epoch = proposed_pointed shard (kind.Enter line epoch) c ks (λ k least number m w is at. absurd (cc is)) its

pub pointed_due : (ks : ℕ → Catalogue) (c : Core) → ArePointed c ks → (shard : ℕ) → ArePointed (propose_entry shard (kind.Enter 0 ((catalogue_of shard c).epoch + 1)) c) ks
pointed_due ks c its shard = entered_proposed ks c its shard 0 ((catalogue_of shard c).epoch + 1)

pub pointed_round : (ks : ℕ → Catalogue) (c : Core) → ArePointed c ks → (from to epoch round total : ℕ) (deltas : List Delta) (f : Pool → Pool) → ArePointed (propose_entry to (kind.Got from epoch round total deltas) (change_pool f c)) ks
pointed_round ks c its from to epoch round total deltas f =
    proposed_pointed to (kind.Got from epoch round total deltas) (change_pool f c) ks (λ line least number m w is at. absurd (cc is)) its

pub pointed_again : (ks : ℕ → Catalogue) (c : Core) → ArePointed c ks → (back shard : ℕ) → ArePointed (send_round back shard c) ks
pointed_again ks c its back shard = alike_pointed c (send_round back shard c) ks (go (sent_back back (catalogue_of shard c).run)) its
  where
    go : (o : Option (ℕ × ℕ)) → AlikeHere c (change_with o (λ at. post (round_messages shard (messages (catalogue_of shard c).shape.shards at.0 at.1 (catalogue_of shard c).run))) c)
    go None = record { operations = refl; sessions = refl; waiting = λ g. refl }
    go (Some at) = record { operations = refl; sessions = refl; waiting = λ g. refl }

-- ---- a client's line

module _ (name : List ℕ → Address) (ks : ℕ → Catalogue) (line : ℕ) (o : Op) (c : Core) (order : IsOrderly name c) (may : IsNewLine name c line o) (its : ArePointed c ks) where
  abbrev begun : Core
  begun = record c { progress = record c.progress { last_line = line } }

  abbrev shard : ℕ
  shard = judging_shard (shape_of c).shards c.sessions o

  abbrev w : Waiting
  w = record { operation = new_operation line o; shard = shard; wait = wait.View }

  abbrev v : OpView
  v = record (view_for shard o begun) { busy = busy_line o c }

  abbrev with_it : Core
  with_it = add_operation line w begun

  -- no entry of a new line waits
  free : IsFree c line
  free = λ g place e at by. cc (sym may.new ∙ (order.asked g place line e at by).at)

  added_pointed : ArePointed with_it ks
  added_pointed = changed_pointed c with_it ks line free
      (record { waiting = λ g. refl; others = λ l d. insert_other nat_cmp number_exact c.operations line l w d; seats = λ l u q d at s. refl }) its

  -- it is answered at its line: no other line has an operation of its session, or it is told that this is busy
  told_pointed : (x : Waiting) (r : Reply) → x.operation.op ≡ o → judged_in v o ≡ Some r → ArePointed (answer line x r with_it) ks
  unfolding seats_after
  told_pointed x r same j = changed_pointed c (answer line x r with_it) ks line free (record {
    waiting = λ g. refl;
    others = λ l d. remove_other nat_cmp number_exact with_it.operations line l d ∙ insert_other nat_cmp number_exact c.operations line l w d;
    seats = seats_apart name line o c order may.new may.counted may.called x r same j;
  }) its

  pub line_pointed : ArePointed (begin_line line o c) ks
  line_pointed = by_judge (judged_in v o) refl
    where
      by_judge : (x : Option Reply) → judged_in v o ≡ x → ArePointed (begin_line line o c) ks
      by_judge (Some r) j =
          subst (λ taken. ArePointed (take_step line w taken with_it) ks) (sym (begin_is v line o r j))
          (told_pointed (record w { operation = after_step (step.Answer r) w.operation }) r refl j)
      by_judge None j =
          stepped_pointed with_it ks line (λ g place e at by. free g place e at by) (added name line o c order may.new may.counted may.called j).alone added_pointed w (found_insert line c.operations w)
          (go_step v w.operation) (no_mark_well with_it ks line w (go_step v w.operation) (from_no_mark v line o w.operation.stage))

pub pointed_line : (name : List ℕ → Address) (ks : ℕ → Catalogue) (c : Core) → IsOrderly name c → ArePointed c ks → (line : ℕ) (o : Op) → IsNewLine name c line o → ArePointed (begin_line line o c) ks
pointed_line name ks c order its line o may = line_pointed name ks line o c order may its

-- ---- views, and a core as it is made

pub pointed_new : (ks : ℕ → Catalogue) (shape : Shape) (limits : Limits) (found : Taken) (moment : ℕ) → ArePointed (new_core shape limits found moment) ks
pointed_new ks shape limits found moment shard place line least number a w at of = absurd (cc of)

module _ (shard : ℕ) (c : Core) where
  -- all copies are told of the view, and operations start again
  abbrev again : Core
  again = restart shard (change_group shard (renew c.members) (set_viewed shard false c))

  -- each good peer is sent what it lacks
  abbrev posted : Core
  posted = post (renewal (group_of shard again)) again

  -- each Mark that waits still is of the same write
  kept_pointed : (ks : ℕ → Catalogue) → ArePointed c ks → ArePointed posted ks
  kept_pointed ks its g place line least number a w at of =
      let last : ℕ = last_number (group_of shard (change_group shard (renew c.members) (set_viewed shard false c))) in
      let u : Was (change_group shard (renew c.members) (set_viewed shard false c)) line w = was shard last (change_group shard (renew c.members) (set_viewed shard false c)) line w of in
      subst (λ (o : Operation). PointsAt c.sessions o.op (ks g) number a) u.same (its g place line least number a u.waiting (there (group_changed shard (renew c.members) (set_viewed shard false c) g)) u.at)
    where
      there : (group_of g (change_group shard (renew c.members) (set_viewed shard false c)) ≡ group_of g c) ⊎ ((g ≡ shard) × (group_of g (change_group shard (renew c.members) (set_viewed shard false c)) ≡ renew c.members (group_of shard c)))
          → slice_get (group_of g c).waiting place ≡ Some (kind.Mark line least number a)
      there (inl same) = ap (λ (x : Group). slice_get x.waiting place) (sym same) ∙ at
      there (inr is) =
          ap (λ k. slice_get (group_of k c).waiting place) is.0
          ∙ at_cut _ (group_of shard c).waiting place (kind.Mark line least number a) (ap (λ (x : Group). slice_get x.waiting place) (sym is.1) ∙ at)

  pub pointed_opens : (ks : ℕ → Catalogue) → ArePointed c ks → ArePointed (begin_view shard c) ks
  pointed_opens ks its = proposed_pointed shard (kind.View (view_of shard posted.members)) posted ks (λ line least number m w is at. absurd (cc is)) (kept_pointed ks its)

-- ---- by the core's own catalogues

-- where these are the same
quiet_points : (a b : Core) → Quiet a b → ArePointed b (λ g. catalogue_of g a) → MarksPoint b
quiet_points a b q its = pointed_same b (λ g. catalogue_of g a) (λ g. catalogue_of g b) (λ g i. slice_index_or (q.catalogues i) g (no_catalogue (q.members i).shape g)) its

pub points_new : (shape : Shape) (limits : Limits) (found : Taken) (moment : ℕ) → MarksPoint (new_core shape limits found moment)
points_new shape limits found moment = pointed_new (λ g. catalogue_of g (new_core shape limits found moment)) shape limits found moment

pub points_beside : (a b : Core) → IsBeside a b → MarksPoint a → MarksPoint b
points_beside a b same its =
    pointed_same b (λ g. catalogue_of g a) (λ g. catalogue_of g b) (λ g i. slice_index_or (same.catalogues i) g (no_catalogue (same.shape i) g)) (pointed_beside (λ g. catalogue_of g a) a b same its)

pub points_opens : (shard : ℕ) (c : Core) → MarksPoint c → MarksPoint (begin_view shard c)
points_opens shard c its =
    quiet_points (posted shard c) (begin_view shard c) (proposed_quiet shard (kind.View (view_of shard (posted shard c).members)) (posted shard c)) (pointed_opens shard c (λ g. catalogue_of g c) its)

pub points_own : (c : Core) → MarksPoint c → (shard line epoch : ℕ) → MarksPoint (propose_entry shard (kind.Enter line epoch) c)
points_own c its shard line epoch = quiet_points c (propose_entry shard (kind.Enter line epoch) c) (proposed_quiet shard (kind.Enter line epoch) c) (entered_proposed (λ g. catalogue_of g c) c its shard line epoch)

pub points_line : (name : List ℕ → Address) (c : Core) → IsOrderly name c → MarksPoint c → (line : ℕ) (o : Op) → IsNewLine name c line o → MarksPoint (begin_line line o c)
points_line name c order its line o may = quiet_points c (begin_line line o c) (begun_quiet line o c) (pointed_line name (λ g. catalogue_of g c) c order its line o may)

pub points_goes : (name : List ℕ → Address) (c : Core) → IsOrderly name c → MarksPoint c → (line : ℕ) → ((w : Waiting) → operation_of line c ≡ Some w → MayGoOn w.wait) → MarksPoint (resume line c)
points_goes name c order its line idle = quiet_points c (resume line c) (going_quiet go_step line c) (pointed_goes name (λ g. catalogue_of g c) c order its line idle)

pub points_told : (name : List ℕ → Address) (c : Core) → IsOrderly name c → MarksPoint c → (line number : ℕ) (bytes : Option (List ℕ)) (w : Waiting) → operation_of line c ≡ Some w → w.wait ≡ wait.Bytes number
    → MarksPoint (go_on_with (λ v o. bytes_step v bytes (pointers_for w.shard w.operation.op c) o) line c)
points_told name c order its line number bytes w at waits =
    quiet_points c (go_on_with (λ v o. bytes_step v bytes (pointers_for w.shard w.operation.op c) o) line c) (going_quiet (λ v o. bytes_step v bytes (pointers_for w.shard w.operation.op c) o) line c)
    (pointed_told name c order its line number bytes w at waits)

pub points_effect : (name : List ℕ → Address) (cs : List Folded) (core : Core) → IsFolded core cs → IsOrderly name core → MarksPoint core → (shard number : ℕ) (entry : Entry) → shard < (shape_of core).shards
    → committed (group_of shard core) ≡ Some (number, entry) → ((place : ℕ) (e : Entry) → slice_get (group_of shard core).waiting place ≡ Some e → NamesUpTo (front_of shard core) e)
    → MarksPoint (told_at_once shard entry core)
points_effect name cs core folded order its shard number entry low leads names = pointed_effect name cs core folded order its shard number entry low leads names

-- a round that is proposed as a Got
pub points_round : (c : Core) → MarksPoint c → (number from to epoch round total : ℕ) (deltas : List Delta) → MarksPoint (propose_entry to (kind.Got from epoch round total deltas) (change_pool (without number) c))
points_round c its number from to epoch round total deltas =
    quiet_points (change_pool (without number) c) (propose_entry to (kind.Got from epoch round total deltas) (change_pool (without number) c)) (proposed_quiet to (kind.Got from epoch round total deltas) (change_pool (without number) c))
    (pointed_round (λ g. catalogue_of g c) c its from to epoch round total deltas (without number))

-- rounds that are sent again
pub points_again : (c : Core) → MarksPoint c → (back shard : ℕ) → MarksPoint (send_round back shard c)
points_again c its back shard = by (sent_back back (catalogue_of shard c).run)
  where
    by : (at : Option (ℕ × ℕ)) → MarksPoint (change_with at (λ x. post (round_messages shard (messages (catalogue_of shard c).shape.shards x.0 x.1 (catalogue_of shard c).run))) c)
    by None = its
    by (Some x) = its
