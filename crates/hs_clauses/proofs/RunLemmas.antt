-- A run goes on reading, and each of its reports tells the bytes of its block.
use Rattle.std.proofs.Common.{◌≡◌, ◌∙◌, sym, ap, subst, ◌⊎◌, inl, inr, ℕ, zero, suc, ◌+◌, ◌*◌, ◌<◌, ◌≤◌, Bool, drop, length, map, List, [], ◌∷◌, Option, Some, None, refl, arith, replicate, take}
use Rattle.std.proofs.lemmas.Bool.{cases_lt}
use Rattle.std.proofs.lemmas.List.{length-map}
use Rattle.std.specs.List.{AllByRecursion, range_with_len}
use Rattle.std.specs.Prelude.{if◌then◌else◌, slice_index, slice_index_or}
use Rattle.hs_standing.specs.Walks.{HasRecordRoom}
use Rattle.hs_answered.specs.Standing.{store_with}
use Rattle.hs_answered.specs.Telling.{Judging}
use Rattle.hs_standing.specs.Answered.{KeepsRecordRoom, TellTheirBlocks}
use Rattle.hs_cluster.specs.Kept.{AreTold}
use Rattle.hs_awaiting.specs.declared.waiting.Waiting.{Waiting}
use Rattle.hs_core_words.specs.declared.event.Event.{Event}
use Rattle.hs_core_words.specs.declared.task.Task.{Task}
use Rattle.hs_core_words.specs.Looking.{catalogue_of, group_of, shape_of}
use Rattle.hs_core_words.specs.Opening.{Taken, good_copies, new_core, taken_group}
use Rattle.hs_core_words.specs.Seeing.{pointers_for}
use Rattle.hs_core_words.specs.State.{Core}
use Rattle.hs_core_words.specs.Step.{step}
use Rattle.hs_desk.specs.declared.fault.CoreFault.{CoreFault}
use Rattle.hs_effects.proofs.EffectLemmas.{committed_named}
use Rattle.hs_entry.specs.declared.entry.Entry.TheVariants as kind
use Rattle.hs_events.specs.Course.{steps}
use Rattle.hs_events.specs.Due.{Events}
use Rattle.hs_events.specs.Found.{Found, first_core, opens_with}
use Rattle.hs_events.specs.Whole.{Whole, open_whole, step_whole}
use Rattle.hs_fold.specs.Runs.Facts.{Catalogue as Folded}
use Rattle.hs_fold.specs.Runs.Opened.{store_of}
use Rattle.hs_standing.specs.Held.{GivesAddresses}
use Rattle.hs_laws.specs.Valid.{IsValid}
use Rattle.hs_standing.proofs.ComingLemmas.{may_stand}
use Rattle.hs_standing.proofs.LegalOpenLemmas.{standing_new, standing_opens}
use Rattle.hs_standing.proofs.StandingLemmas.{line_beside, standing_again, standing_beside, standing_downed, standing_due, standing_effect, standing_follows, standing_goes, standing_line, standing_refused, standing_round, standing_told, tell_beside}
use Rattle.hs_standing.specs.Bytes.{TellsItsBlock}
use Rattle.hs_standing.specs.Coming.{ReportsBlocks}
use Rattle.hs_standing.specs.Commands.{IsLineOf, IsNobodys}
use Rattle.hs_standing.specs.Legal.{IsStanding}
use Rattle.hs_standing.specs.Telling.{told_so_far}
use Rattle.hs_limits.specs.declared.limits.Limits.{Limits}
use Rattle.hs_limits.specs.declared.shape.Shape.{Shape}
use Rattle.hs_limits.specs.Shape.{peer_of}
use Rattle.hs_standing.proofs.LinesStepLemmas.{step_ended}
use Rattle.hs_model.specs.Store.{Store}
use Rattle.hs_members.specs.Members.{home_of}
use Rattle.hs_moments.proofs.AloneStepLemmas.{nowhere}
use Rattle.hs_moments.specs.Machine.{runs}
use Rattle.hs_moments.specs.WholeMachine.{whole_machine}
use Rattle.hs_clauses.proofs.AtomLemmas.{awaiting_again, awaiting_beside, awaiting_due, awaiting_effect, awaiting_goes, awaiting_opens, awaiting_round, awaiting_told}
use Rattle.hs_clauses.proofs.AwaitLemmas.{awaiting_line, none_awaiting}
use Rattle.hs_clauses.proofs.HomeLemmas.{Fine}
use Rattle.hs_clauses.proofs.HomeWalk.{fine_event, fine_opens}
use Rattle.hs_clauses.proofs.TellLemmas.{reports_tell}
use Rattle.hs_clauses.specs.Along.{AllCome, Comes}
use Rattle.hs_clauses.specs.Home.{AreAtHome, IsAtHome}
use Rattle.hs_clauses.specs.Run.{IsReading, ReadStands}
use Rattle.hs_replica.specs.Group.{Group, new_group, no_copy, whole_copy}
use Rattle.hs_standing.proofs.ValidLemmas.{told_valid}
use Rattle.hs_standing.proofs.BegunLemmas.{went_on}
use Rattle.hs_standing.proofs.FirstLemmas.{first_held}
use Rattle.hs_standing.proofs.KeepLemmas.{Keeps}
use Rattle.hs_standing.proofs.MomentLemmas.{event_stands}
use Rattle.hs_standing.proofs.OpeningLemmas.{opened_stands}
use Rattle.hs_standing.proofs.RunLemmas.{LawsBelow, run_opens, run_suffices}
use Rattle.hs_standing.proofs.TakenLemmas.{may_open, run_begins}
use Rattle.hs_standing.specs.Opening.{opened_folds}
use Rattle.hs_standing.specs.Run.{RunBegins, RunOpens, RunStands}
use Rattle.hs_standing.specs.Standing.{CoreStands, judging_of}
use Rattle.hs_standing.specs.Start.{Start}

-- ---- it suffices, and single changes keep it

pub reads_suffice : (start : Start) (core : Core) (cs : List Folded) → ReadStands start core cs → CoreStands start core cs
reads_suffice start core cs its = run_suffices start core cs its.stands

module _ (below : LawsBelow) (start : Start) (names : GivesAddresses start.set.name) (valid : IsValid start.entry) where
  abbrev by : Judging
  by = judging_of start

  valid_now : (c : Core) (cs : List Folded) → RunStands start c cs → IsValid (store_with cs c.sessions)
  valid_now c cs its = told_valid (judging_of start) start.entry (told_so_far c) (store_with cs c.sessions) valid its.tells

  pub reads_keep : Keeps start.set.name (λ line o c. IsLineOf (judging_of start) c line o) (TellsItsBlock (judging_of start) start.entry) (IsNobodys (judging_of start)) (λ core cs. ReadStands start core cs)
  reads_keep = record {
    orderly = λ c cs its. its.stands.orderly;
    line_beside = λ line o a b beside may. line_beside (judging_of start) start.entry line o a b beside may;
    tell_beside = λ number bytes w a b beside may. tell_beside (judging_of start) start.entry number bytes w a b beside may;
    beside = λ a b cs beside its. record {
      stands = standing_beside below.views below.steps below.laws (judging_of start) names start.entry valid a cs its.stands b beside;
      awaiting = awaiting_beside cs a b its.awaiting beside;
    };
    downed = λ peer line c cs its. record {
      stands = standing_downed below.views below.steps below.laws (judging_of start) names start.entry valid c cs its.stands peer line;
      awaiting = its.awaiting;
    };
    refused = λ line refusal c cs nobody its. record {
      stands = standing_refused below.views below.steps below.laws (judging_of start) names start.entry valid c cs its.stands line refusal nobody;
      awaiting = its.awaiting;
    };
    line = λ line o c cs may its. record {
      stands = standing_line below.views below.steps below.laws (judging_of start) names start.entry valid c cs its.stands line o may;
      awaiting = awaiting_line start.set.name cs c its.stands.lawful.folded its.stands.orderly its.awaiting line o may.fresh;
    };
    goes = λ line c cs idle its. record {
      stands = standing_goes below.views below.steps below.laws (judging_of start) names start.entry valid c cs its.stands line idle;
      awaiting = awaiting_goes start.set.name cs c its.stands.lawful.folded its.stands.orderly its.awaiting line;
    };
    told = λ line number bytes w c cs at waits may its. record {
      stands = standing_told below.views below.steps below.laws (judging_of start) names start.entry valid c cs its.stands line number bytes w at waits may;
      awaiting = awaiting_told start.set.name cs c its.stands.lawful.folded its.stands.orderly its.awaiting line bytes (pointers_for w.shard w.operation.op c);
    };
    follows = λ shard number entry c cs low leads few its. standing_follows below.views below.steps below.laws (judging_of start) names start.entry valid c cs its.stands shard number entry low leads few;
    effect = λ shard number entry c cs low leads few its. record {
      stands = standing_effect below.views below.steps below.laws (judging_of start) names start.entry valid c cs its.stands shard number entry low leads few;
      awaiting = awaiting_effect start.set.name cs c its.stands.lawful its.stands.orderly (valid_now c cs its.stands) shard number entry low leads
          (committed_named start.set.name c shard number entry its.stands.orderly leads)
          (standing_follows below.views below.steps below.laws (judging_of start) names start.entry valid c cs its.stands shard number entry low leads few) its.awaiting;
    };
    due = λ shard c cs low due its. record {
      stands = standing_due below.views below.steps below.laws (judging_of start) names start.entry valid c cs its.stands shard low due;
      awaiting = awaiting_due cs c its.awaiting shard (kind.Enter 0 ((catalogue_of shard c).epoch + 1));
    };
    round = λ number from to epoch round total deltas c cs low at new its. record {
      stands = standing_round below.views below.steps below.laws (judging_of start) names start.entry valid c cs its.stands number from to epoch round total deltas low at new;
      awaiting = awaiting_round cs c its.awaiting number to (kind.Got from epoch round total deltas);
    };
    again = λ back shard c cs its. record {
      stands = standing_again below.views below.steps below.laws (judging_of start) names start.entry valid c cs its.stands back shard;
      awaiting = awaiting_again cs c its.awaiting back shard;
    };
  }

-- ---- as it opens

pub no_sessions : (cs : List Folded) → store_of cs ≡ store_with cs []
no_sessions cs = refl

pub first_stands : (below : LawsBelow) (start : Start) (found : Found) (o : RunBegins start found) → IsValid start.entry → ReadStands start (first_core start.set found) (opened_folds start.set found)
first_stands below start found o valid =
    first_held (λ core. ReadStands start core (opened_folds start.set found))
    (record {
      beside = λ a b beside its. record {
        stands = standing_beside below.views below.steps below.laws (judging_of start) o.soundly.names start.entry valid a (opened_folds start.set found) its.stands b beside;
        awaiting = awaiting_beside (opened_folds start.set found) a b its.awaiting beside;
      };
      downed = λ peer c its. record {
        stands = standing_downed below.views below.steps below.laws (judging_of start) o.soundly.names start.entry valid c (opened_folds start.set found) its.stands peer 0;
        awaiting = its.awaiting;
      };
      views = λ shard c low none its. record {
        stands = standing_opens (judging_of start) shard c start.entry (opened_folds start.set found) its.stands low;
        awaiting = awaiting_opens (opened_folds start.set found) shard c none;
      };
    })
    start.set.shape start.set.limits (opens_with start.set found) found.opened
    (record {
      stands = subst (λ (s : Store). IsStanding (judging_of start) s (new_core start.set.shape start.set.limits (opens_with start.set found) found.opened) (opened_folds start.set found)) (sym (o.entry ∙ no_sessions (opened_folds start.set found)))
          (standing_new (judging_of start) start.set.shape (opens_with start.set found) found.opened (opened_folds start.set found) (may_open below.memory start.set found o.soundly start.commands));
      awaiting = none_awaiting (new_core start.set.shape start.set.limits (opens_with start.set found) found.opened) (opened_folds start.set found) refl;
    })

-- queues are empty, and no shard has more copies than it may
abbrev nothing_queued : List Task
nothing_queued = []

none_queued : (n k : ℕ) → slice_index_or (replicate n nothing_queued) k nothing_queued ≡ nothing_queued
none_queued zero k = refl
none_queued (suc n) zero = refl
none_queued (suc n) (suc k) = none_queued n k

taken_short : {X : Type 0} (n : ℕ) (xs : List X) → length (take n xs) ≤ n
taken_short zero [] = omega arith
taken_short zero (x ∷ xs) = omega arith
taken_short (suc n) [] = omega arith
taken_short (suc n) (x ∷ xs) = let rest = taken_short n xs in omega (arith, rest)

few_copies : (shape : Shape) (taken : Taken) (shards : List ℕ) (g : ℕ) (none : Group) → length none.copies ≤ shape.copies → length (slice_index_or (map (taken_group shape taken) shards) g none).copies ≤ shape.copies
few_copies shape taken [] g none few = few
few_copies shape taken (s ∷ shards) zero none few =
    let long : length (taken_group shape taken s).copies ≡ length (good_copies shape taken.good s) =
    length-map (good_copies shape taken.good s) (λ (b : Bool). if b then whole_copy (slice_index taken.views s) (slice_index taken.lengths s) else no_copy) in
    let short : length (good_copies shape taken.good s) ≤ shape.copies = taken_short shape.copies (drop (peer_of shape s 0) taken.good) in
    omega (arith, long, short)
few_copies shape taken (s ∷ shards) (suc g) none few = few_copies shape taken shards g none few

lookup_none : (w : Waiting) → None ≡ Some w → ⊥
lookup_none w e = cc e

pub new_fine : (shape : Shape) (limits : Limits) (taken : Taken) (moment : ℕ) → Fine (new_core shape limits taken moment)
new_fine shape limits taken moment = record {
  single = λ g. few_copies shape taken (range_with_len 0 shape.shards) g (new_group shape g 0 0 []) (omega arith);
  once = tt;
  begun = λ line w e. absurd (lookup_none w e);
  home = λ peer. subst (λ (ts : List Task). AllByRecursion (IsAtHome [] 0 (home_of shape peer)) ts) (sym (none_queued (shape.shards * shape.copies) peer)) tt;
}

pub at_home : (c : Core) → Fine c → AreAtHome c
at_home c f = record { begun = f.begun; jobs = f.home }

pub reads_open : (below : LawsBelow) (start : Start) (found : Found) → RunOpens start found → IsReading start (open_whole start.set found)
reads_open below start found o =
    let valid : IsValid start.entry = (run_opens below start found o).valid in
    record {
      names = o.names;
      valid = valid;
      stands = opened_stands start found o.well (λ core cs. ReadStands start core cs) (reads_suffice start) below.opens (first_stands below start found (run_begins start found o) valid);
      home = at_home (first_core start.set found)
          (fine_opens (new_core start.set.shape start.set.limits (opens_with start.set found) found.opened) (new_fine start.set.shape start.set.limits (opens_with start.set found) found.opened));
    }

-- ---- behind an event

fine_of : (start : Start) (c : Whole) → IsReading start c → Fine c.core
fine_of start c r = record {
  single = λ g. single g (cases_lt g c.core.members.shape.shards);
  once = r.stands.holds.stands.orderly.once;
  begun = r.home.begun;
  home = r.home.jobs;
}
  where
    single : (g : ℕ) → (g < c.core.members.shape.shards) ⊎ (c.core.members.shape.shards ≤ g) → length (group_of g c.core).copies ≤ (shape_of c.core).copies
    single g (inl low) = let n = ap (λ xs. length xs) (r.stands.whole.sane.alone.each g low).copies in let one = r.stands.whole.sane.alone.copies in omega (arith, n, one)
    single g (inr high) = let n = ap (λ (x : Group). length x.copies) (nowhere c.core g r.stands.whole.sane.alone high) in omega (arith, n)

module _ (below : LawsBelow) (start : Start) where
  pub reads_event : (c : Whole) (e : Event) (at : ℕ) → IsReading start c → Comes (judging_of start) c.core e at → ReportsBlocks (judging_of start) start.entry e c.core → ((step e at c.core).ended ≡ None → HasRecordRoom (step e at c.core)) → (step e at c.core).ended ≡ None
      → IsReading start (step_whole e at c)
  reads_event c e at r comes blocks room going = record {
    names = r.names;
    valid = r.valid;
    stands = event_stands start (λ line o core. IsLineOf (judging_of start) core line o) (TellsItsBlock (judging_of start) start.entry) (IsNobodys (judging_of start)) (λ core cs. ReadStands start core cs)
        (reads_suffice start) (reads_keep below start r.names r.valid) below.turns c e at r.stands
        (record { comes = comes.may; may = may_stand (judging_of start) start.entry c.core e at comes.may comes.begins comes.addressed blocks; room = room }) going;
    home = at_home (step e at c.core) (fine_event start.commands at c.core at (fine_of start c r) e r.stands.whole.sane.going comes.may);
  }

  -- a core that has ended takes no reports
  over_blocks : (core : Core) (es : Events) (f : CoreFault) → core.ended ≡ Some f → TellTheirBlocks (judging_of start) start.entry core es
  over_blocks core [] f over = tt
  over_blocks core (e ∷ es) f over = (
    (λ going. (let bad : None ≡ Some f = sym going ∙ over in absurd (cc bad))),
    subst (λ (d : Core). TellTheirBlocks (judging_of start) start.entry d es) (sym (step_ended e.0 e.1 core f over)) (over_blocks core es f over),
  )

  -- ---- events, one after another

  pub all_tell : (c : Whole) (es : Events) → IsReading start c → AllCome (judging_of start) c.core es → KeepsRecordRoom c.core es → AreTold c es → TellTheirBlocks (judging_of start) start.entry c.core es
  all_tell c [] r come room told = tt
  all_tell c (e ∷ es) r come room told = (
    λ going. blocks,
    by_end (λ f over. over_blocks (step e.0 e.1 c.core) es f over) (λ going. by_more es room.1 (λ n. all_tell (step_whole e.0 e.1 c) es n come.1 room.1 told.1) going) (step e.0 e.1 c.core).ended refl,
  )
    where
      blocks : ReportsBlocks (judging_of start) start.entry e.0 c.core
      blocks = reports_tell start c r e.0 told.0

      -- what is so of events behind this one
      Tell : Events → Type 0
      Tell fs = TellTheirBlocks (judging_of start) start.entry (step e.0 e.1 c.core) fs

      by_more : (fs : Events) → KeepsRecordRoom (step e.0 e.1 c.core) fs → (IsReading start (step_whole e.0 e.1 c) → Tell fs) → (step e.0 e.1 c.core).ended ≡ None → Tell fs
      by_more [] keep later going = tt
      by_more (f ∷ fs) keep later going = later (reads_event c e.0 e.1 r (come.0 r.stands.whole.sane.going) blocks keep.0 going)

      by_end : ((f : CoreFault) → (step e.0 e.1 c.core).ended ≡ Some f → Tell es) → ((step e.0 e.1 c.core).ended ≡ None → Tell es) → (o : Option CoreFault) → (step e.0 e.1 c.core).ended ≡ o → Tell es
      by_end over now None going = now going
      by_end over now (Some f) ended = over f ended

  -- behind them, while the core goes on
  pub all_read : (c : Whole) (es : Events) → IsReading start c → AllCome (judging_of start) c.core es → KeepsRecordRoom c.core es → ((steps c.core es).ended ≡ None → HasRecordRoom (steps c.core es)) → AreTold c es → (steps c.core es).ended ≡ None
      → IsReading start (runs whole_machine c es)
  all_read c [] r come room last told going = r
  all_read c (e ∷ es) r come room last told going =
      all_read (step_whole e.0 e.1 c) es
      (reads_event c e.0 e.1 r (come.0 r.stands.whole.sane.going) (reports_tell start c r e.0 told.0) (first_room (step e.0 e.1 c.core) es room.1 last) (went_on (step e.0 e.1 c.core) es going))
      come.1 room.1 last told.1 going
    where
      first_room : (core : Core) (fs : Events) → KeepsRecordRoom core fs → ((steps core fs).ended ≡ None → HasRecordRoom (steps core fs)) → core.ended ≡ None → HasRecordRoom core
      first_room core [] keep behind now = behind now
      first_room core (f ∷ fs) keep behind now = keep.0 now
