-- A report tells an operation that waits for it the bytes of its block.
use Rattle.std.proofs.Common.{◌≡◌, ◌∙◌, sym, ap, subst, ◌⊎◌, inl, inr, ℕ, ◌+◌, ◌<◌, ◌≤◌, ◌++◌, Bool, true, false, map, List, [], ◌∷◌, Option, Some, None, Ok, refl, arith, append-nil, nat_lt, slice_get, slice_index, take, unwrap_or}
use Rattle.std.proofs.lemmas.Bool.{cases_lt}
use Rattle.std.proofs.lemmas.Bool.Decides.{nat_tests}
use Rattle.std.specs.List.{AllByRecursion, enumerate_from}
use Rattle.std.specs.Option.{option_map}
use Rattle.std.specs.Prelude.{Contains, IsSome, if◌then◌else◌}
use Rattle.hs_standing.specs.Walks.{IsReadFor, MayReport}
use Rattle.hs_answered.proofs.ShownLemmas.{held_is}
use Rattle.hs_answered.specs.Asked.{HasBytes}
use Rattle.hs_answered.specs.Standing.{IsAddressed, IsFolded, forget_all, store_with}
use Rattle.hs_cluster.specs.Jobs.{AreBytes}
use Rattle.hs_cluster.specs.Kept.{IsTold, sealed_front}
use Rattle.hs_awaiting.specs.declared.waiting.Waiting.{Waiting}
use Rattle.hs_core_words.specs.declared.event.Event.{Event}
use Rattle.hs_core_words.specs.declared.event.Event.TheVariants as event
use Rattle.hs_core_words.specs.declared.task.Task.{Task}
use Rattle.hs_core_words.specs.Looking.{copying_step, first_task, front_of, group_of, shape_of, tasks_of}
use Rattle.hs_core_words.specs.Seeing.{view_for}
use Rattle.hs_core_words.specs.State.{Core}
use Rattle.hs_desk.specs.declared.done.Done.{Done}
use Rattle.hs_desk.specs.declared.done.Done.TheVariants as done
use Rattle.hs_desk.specs.declared.job.Job.{Job}
use Rattle.hs_desk.specs.declared.job.Job.TheVariants as job
use Rattle.hs_effects.proofs.StepLemmas.{held_same}
use Rattle.hs_entry.specs.declared.entry.Entry.{Entry}
use Rattle.hs_entry.specs.declared.entry.Entry.TheVariants as kind
use Rattle.hs_events.specs.Alone.{AreAlone, face}
use Rattle.hs_events.specs.Asked.{report_in}
use Rattle.hs_events.specs.Reports.{HasBlock, LacksEntry}
use Rattle.hs_events.specs.Whole.{Whole, floor, reach}
use Rattle.hs_fold.specs.Runs.Catalogue.{catalogue_of}
use Rattle.hs_fold.specs.Runs.Facts.{Catalogue as Folded, Facts, facts_at}
use Rattle.hs_fold.specs.Runs.Fits.{catalogue_at}
use Rattle.hs_fold.specs.Runs.Opened.{store_of}
use Rattle.hs_fold.specs.Shards.Setting.{Numbered, shard_in}
use Rattle.hs_standing.proofs.ToldLemmas.{block_there}
use Rattle.hs_joint.proofs.ListedLemmas.{epoch-at}
use Rattle.hs_laws.proofs.JudgeKeeps.{all_none}
use Rattle.hs_standing.specs.Bytes.{AreOfBlock, IsFree, TellsItsBlock}
use Rattle.hs_standing.specs.Coming.{ReportsBlocks}
use Rattle.hs_standing.specs.Legal.{IsStanding}
use Rattle.hs_limits.proofs.ReadingLemmas.{read_takes}
use Rattle.hs_limits.specs.Block.{spell}
use Rattle.hs_limits.specs.declared.address.Address.{Address}
use Rattle.hs_limits.specs.declared.address.Held.{Held}
use Rattle.hs_limits.specs.declared.shape.Shape.{Shape}
use Rattle.hs_limits.specs.Reading.{read_block}
use Rattle.hs_limits.specs.Shape.{shard_of}
use Rattle.hs_members.specs.Members.{home_of, is_joining}
use Rattle.hs_model.proofs.Members.{Member, contains_from_member, member_from_contains}
use Rattle.hs_model.specs.declared.op.Op.{Op}
use Rattle.hs_model.specs.declared.op.Op.TheVariants as op
use Rattle.hs_model.specs.declared.reply.Reply.{Reply}
use Rattle.hs_model.specs.declared.reply.Reply.TheVariants as reply
use Rattle.hs_model.specs.declared.store.StoredBlock.{StoredBlock}
use Rattle.hs_model.specs.Judge.{address_of, nothing}
use Rattle.hs_model.specs.Refusals.{first, refused_when, stale_handle, stale_in}
use Rattle.hs_model.specs.Store.{Session, Store, block_at, block_of, held_in}
use Rattle.hs_moments.proofs.AloneEventLemmas.{home_here}
use Rattle.hs_moments.proofs.AloneReportLemmas.{first_past}
use Rattle.hs_moments.proofs.WorkLemmas.{floor_alone, reach_sane}
use Rattle.hs_moments.specs.WholeMachine.{whole_machine}
use Rattle.hs_ops.specs.Operations.{wanted_number}
use Rattle.hs_ops.specs.Refusals.{refusal_of, refusals_of}
use Rattle.hs_ops.specs.Speaking.{judging_shard, wanted_address}
use Rattle.hs_ops.specs.Views.{OpView, now_in, open_in}
use Rattle.hs_clauses.proofs.AwaitLemmas.{read_shard, there_is}
use Rattle.hs_clauses.proofs.ReadsListLemmas.{IsStoredBy, one_entry, stored_by, taken_member}
use Rattle.hs_clauses.specs.Home.{IsAtHome}
use Rattle.hs_clauses.specs.Awaiting.{AwaitsBlock, IsAwaiting, IsThere}
use Rattle.hs_clauses.specs.Run.{HasSealed, IsReading, ReadsWhatIsSealed}
use Rattle.hs_shard.specs.Facts.{Catalogue}
use Rattle.hs_standing.proofs.SettleLemmas.{folds_at}
use Rattle.hs_standing.specs.Standing.{judging_of}
use Rattle.hs_standing.specs.Stands.{lists_of}
use Rattle.hs_standing.specs.Start.{Start}
use Rattle.hs_tokens.specs.Seats.{Seats, held_at, seat_of}

-- ---- plain facts

some_is : {A : Type 0} (x y : A) → Some x ≡ Some y → x ≡ y
some_is x y e = cc e

first_fits : {X : Type 0} (P : X → Type 0) (xs : List X) (x : X) → AllByRecursion P xs → slice_get xs 0 ≡ Some x → P x
first_fits P [] x all e = absurd (cc e)
first_fits P (y ∷ xs) x all e = subst P (some_is y x e) all.0

same_bytes : (k l m n : ℕ) (xs ys : List ℕ) → kind.Block k m xs ≡ kind.Block l n ys → xs ≡ ys
same_bytes k l m n xs ys e = cc e

-- the epochs in memory are those of the plain store
epochs_same : (shape : Shape) (from : ℕ) (cs : List Folded) → map (λ (c : Catalogue). c.epoch) (forget_all shape from cs) ≡ (store_of cs).epochs
epochs_same shape from [] = refl
epochs_same shape from (c ∷ cs) = ap (λ (rest : List ℕ). c.epoch ∷ rest) (epochs_same shape (from + 1) cs)

-- ---- bytes that spell a stored block are its

pub has_bytes : (stored : StoredBlock) (bytes : List ℕ) → AreBytes bytes → read_block bytes ≡ Ok (block_of stored) → HasBytes (Some stored) (Some bytes)
has_bytes stored bytes small reads = (ap (λ (bs : List ℕ). Some bs) spelled, subst (λ (bs : List ℕ). read_block bs ≡ Ok (block_of stored)) spelled reads)
  where
    spelled : bytes ≡ spell (block_of stored)
    spelled = (read_takes bytes (block_of stored) (λ i. small i) reads).spelled ∙ append-nil (spell (block_of stored))

-- ---- a handle that refuses no read may be used

stale_not : (now handle : ℕ) (held : Held) → stale_handle now handle (Some held) ≡ None → now ≤ held.epoch + 1
stale_not now handle held e = by (nat_lt (held.epoch + 1) now) refl e
  where
    by : (b : Bool) → nat_lt (held.epoch + 1) now ≡ b → refused_when b (reply.Stale handle held.epoch now) ≡ None → now ≤ held.epoch + 1
    by true t f = absurd (cc f)
    by false t f = grind (arith, nat_tests, t)

one_none : (x : Option Reply) → first (x ∷ []) ≡ None → x ≡ None
one_none None e = refl
one_none (Some r) e = absurd (cc e)

stale_one : (session : Option Session) (now handle : ℕ) → stale_in session now (handle ∷ []) ≡ None → stale_handle now handle (held_in session handle) ≡ None
unfolding stale_in
stale_one session now handle e = one_none (stale_handle now handle (held_in session handle)) e

-- the handle of a read that nothing refuses is not outdated
free_fresh : (v : OpView) (name : List ℕ) (handle : ℕ) → refusal_of v (op.Read name handle) ≡ None → stale_in (open_in v name) (now_in v) (handle ∷ []) ≡ None
unfolding refusals_of
free_fresh v name handle free = let all = all_none (refusals_of v (op.Read name handle)) free in all.1.1.1.0

may_be_used : (v : OpView) (name : List ℕ) (handle : ℕ) (held : Held) → refusal_of v (op.Read name handle) ≡ None → held_at (seat_of name v.seats) handle ≡ Some held → now_in v ≤ held.epoch + 1
may_be_used v name handle held free is =
    stale_not (now_in v) handle held
    (ap (λ (x : Option Held). stale_handle (now_in v) handle x) (sym (held_same (seat_of name v.seats) handle ∙ is)) ∙ stale_one (open_in v name) (now_in v) handle (free_fresh v name handle free))

-- ---- a core that reads what is sealed

module _ (start : Start) (c : Whole) (r : ReadsWhatIsSealed start c) where
  abbrev core : Core
  core = c.core

  abbrev cs : List Folded
  cs = r.folds

  abbrev seats : Seats
  seats = c.core.sessions

  abbrev stands : IsStanding (judging_of start) start.entry c.core r.folds
  stands = r.holds.stands

  folded_in : IsFolded c.core r.folds
  folded_in = r.holds.stands.lawful.folded

  -- the epoch of a shard
  now_is : (shard : ℕ) → shard < (shape_of core).shards → (o : Op) → now_in (view_for shard o core) ≡ (catalogue_at cs shard).epoch
  now_is shard low o =
      ap (λ (es : List ℕ). slice_index es shard) (ap (λ (all : List Catalogue). map (λ (d : Catalogue). d.epoch) all) folded_in.catalogues ∙ epochs_same (shape_of core) 0 cs)
      ∙ epoch-at cs shard (let n = folded_in.shards in omega (arith, low, n))

  module _ (peer number : ℕ) (w : Waiting) (read : IsReadFor peer number c.core w) where
    abbrev shard : ℕ
    shard = home_of c.core.members.shape peer

    here : HasSealed c peer (r.took (home_of c.core.members.shape peer))
    here = r.sealed peer number read.line read.first

    -- bytes are right, where they are those of each block that the entry of the number stored
    abbrev AreRight : Option (List ℕ) → Type 0
    AreRight bytes = (a : Address) → shard_of (shape_of core).shards a ≡ shard → IsThere (catalogue_at cs shard) a number → HasBytes (block_at (store_with cs seats) a) bytes

    -- a block that is there was stored by an entry that took effect
    stored_in : (a : Address) (there : IsThere (catalogue_at cs shard) a number) → IsStoredBy (r.took shard) there.facts
    stored_in a there =
        stored_by (shard_in start.set shard) (r.took shard) a there.facts (subst (λ (d : Folded). facts_at d a ≡ Some there.facts) (r.settled shard here.low) there.found)

    -- so it is sealed
    mine : (a : Address) (there : IsThere (catalogue_at cs shard) a number) → let s = stored_in a there in Contains (sealed_front c peer) (number, kind.Block s.line s.least s.bytes)
    mine a there =
        let s = stored_in a there in
        here.all (number, kind.Block s.line s.least s.bytes)
        (contains_from_member (number, kind.Block s.line s.least s.bytes) (r.took shard) (subst (λ n. Member (n, kind.Block s.line s.least s.bytes) (r.took shard)) there.numbered s.among))

    told_right : (bytes : List ℕ) → AreBytes bytes → HasBlock number bytes (Some (sealed_front c peer)) → AreRight (Some bytes)
    told_right bytes small has a place there =
        subst (λ (x : Option StoredBlock). HasBytes x (Some bytes)) (sym block) (has_bytes there.facts.present.stored bytes small spells)
      where
        s : IsStoredBy (r.took (home_of c.core.members.shape peer)) there.facts
        s = stored_in a there

        block : block_at (store_of cs) a ≡ Some there.facts.present.stored
        block =
            block_there (shape_of core).shards cs folded_in.shards folded_in.own shard here.low a place
            ∙ ap (λ (x : Option Facts). option_map (λ (f : Facts). f.present.stored) x) there.found

        told : Contains (sealed_front c peer) (number, kind.Block has.line has.least bytes)
        told = subst (λ (es : Numbered). Contains es (number, kind.Block has.line has.least bytes)) (sym (some_is (sealed_front c peer) has.entries has.listed)) has.block

        same : s.bytes ≡ bytes
        same = same_bytes s.line has.line s.least has.least s.bytes bytes (here.once number (kind.Block s.line s.least s.bytes) (kind.Block has.line has.least bytes) (mine a there) told)

        spells : read_block bytes ≡ Ok (block_of there.facts.present.stored)
        spells = ap (λ (bs : List ℕ). read_block bs) (sym same) ∙ s.spells

    gone_right : LacksEntry number (Some (sealed_front c peer)) → AreRight None
    gone_right lacks a place there = let s = stored_in a there in absurd (lacks (kind.Block s.line s.least s.bytes) (mine a there))

    -- ---- who waits

    -- a good peer's jobs are those of its queue
    first_in : slice_get (tasks_of peer core) 0 ≡ Some (record { job = job.Read number; line = read.line })
    first_in =
        sym (ap (λ s. if is_joining s then option_map (λ (j : Job). record { job = j; line = 0 }) (copying_step peer core) else slice_get (tasks_of peer core) 0) here.good) ∙ read.first

    -- its shard is the peer's
    home_is : w.shard ≡ home_of c.core.members.shape peer
    home_is =
        let its : IsAtHome core.operations core.progress.event_line (home_of core.members.shape peer) (record { job = job.Read number; line = read.line }) =
        first_fits (IsAtHome core.operations core.progress.event_line (home_of core.members.shape peer)) (tasks_of peer core) (record { job = job.Read number; line = read.line }) (r.at_home.jobs peer) first_in in
        (its number refl).1 w read.at

    waits : IsAwaiting seats cs number w
    waits = r.holds.awaiting read.line number w read.at read.waits

    judged : (o : Op) → w.operation.op ≡ o → w.shard ≡ judging_shard (shape_of core).shards seats o
    judged o is = (stands.orderly.pending read.line w read.at).judges ∙ ap (λ (p : Op). judging_shard (shape_of core).shards seats p) is

    w_low : w.shard < (shape_of c.core).shards
    w_low = subst (λ k. k < (shape_of core).shards) (sym home_is) here.low

    module _ (bytes : Option (List ℕ)) (right : AreRight bytes) where
      -- of a block that is there in its shard
      of_there : (a : Address) → shard_of (shape_of core).shards a ≡ w.shard → IsThere (catalogue_at cs w.shard) a number → HasBytes (block_at (store_with cs seats) a) bytes
      of_there a place there = right a (place ∙ home_is) (subst (λ k. IsThere (catalogue_at cs k) a number) home_is there)

      -- a read that nothing refuses
      of_read : (name : List ℕ) (handle : ℕ) → w.operation.op ≡ op.Read name handle → IsFree core w.shard (op.Read name handle) → HasBytes (block_at (store_with cs seats) (address_of (store_with cs seats) name handle)) bytes
      of_read name handle is free = by_held (held_at (seat_of name seats) handle) refl held
        where
          held : IsSome (held_at (seat_of name seats) handle)
          held = subst (λ (p : Op). IsAddressed seats p) is (stands.commands read.line w read.at).has

          awaits : AwaitsBlock seats (catalogue_at cs w.shard) number (op.Read name handle)
          awaits = subst (λ (p : Op). AwaitsBlock seats (catalogue_at cs w.shard) number p) is waits.awaits

          by_held : (x : Option Held) → held_at (seat_of name seats) handle ≡ x → IsSome x → HasBytes (block_at (store_with cs seats) (address_of (store_with cs seats) name handle)) bytes
          by_held None e some = absurd (cc some)
          by_held (Some h) e some =
              let now = now_is w.shard w_low (op.Read name handle) in
              let used = may_be_used (view_for w.shard (op.Read name handle) core) name handle h free e in
              let there : IsThere (catalogue_at cs w.shard) h.address number = awaits h e (omega (arith, now, used)) in
              let address : address_of (store_with cs seats) name handle ≡ h.address =
              ap (λ (x : Option Held). (unwrap_or x nothing).address) (held_is (store_with cs seats) seats refl name handle ∙ e) in
              subst (λ (a : Address). HasBytes (block_at (store_with cs seats) a) bytes) (sym address)
              (of_there h.address (sym (judged (op.Read name handle) is ∙ read_shard (shape_of core).shards seats name handle h e)) there)

      -- a write whose block is still that of the number
      of_write : (name payload handles : List ℕ) (address : Option Address) → w.operation.op ≡ op.Write name payload handles address → (view_for w.shard w.operation.op core).present ≡ Some (wanted_number w.operation.stage)
          → HasBytes (block_at (store_with cs seats) (unwrap_or address nothing.address)) bytes
      of_write name payload handles None is present =
          let none : (view_for w.shard w.operation.op core).present ≡ None = ap (λ (p : Op). (view_for w.shard p core).present) is in
          let bad : None ≡ Some (wanted_number w.operation.stage) = sym none ∙ present in
          absurd (cc bad)
      of_write name payload handles (Some a) is present =
          let there : IsThere (catalogue_at cs w.shard) a (wanted_number w.operation.stage) =
          there_is cs core folded_in w.shard w_low w.operation.op a (ap (λ (p : Op). wanted_address seats p) is) (wanted_number w.operation.stage) present in
          of_there a (sym (judged (op.Write name payload handles (Some a)) is)) (subst (λ n. IsThere (catalogue_at cs w.shard) a n) waits.wanted there)

      of_block : (o : Op) → w.operation.op ≡ o → AreOfBlock (store_with cs seats) core bytes w o
      of_block (op.Read name handle) is = λ free. of_read name handle is free
      of_block (op.Write name payload handles address) is = λ present. of_write name payload handles address is present
      of_block (op.Open name) is = tt
      of_block (op.Close name) is = tt
      of_block (op.Look name key) is = tt
      of_block (op.Root name key handle) is = tt
      of_block (op.Drop key) is = tt
      of_block (op.Forget name handle) is = tt
      of_block (op.Name name handle) is = tt
      of_block op.Delete is = tt
      of_block op.Stat is = tt

      tells_it : TellsItsBlock (judging_of start) start.entry number bytes w c.core
      tells_it = subst (λ (s : Store). AreOfBlock s core bytes w w.operation.op) (sym stands.tells.left) (of_block w.operation.op refl)

  -- ---- a report

  told_blocks : (peer : ℕ) (d : Done) → IsTold c (Some (peer, d)) → MayReport (TellsItsBlock (judging_of start) start.entry) peer d c.core
  told_blocks peer (done.Stored number) told = tt
  told_blocks peer (done.Sealed number) told = tt
  told_blocks peer (done.Bytes number bytes) told = λ w read. tells_it peer number w read (Some bytes) (told_right peer number w read bytes told.1 told.0)
  told_blocks peer (done.Gone number) told = λ w read. tells_it peer number w read None (gone_right peer number w read told.0)
  told_blocks peer done.Emptied told = tt
  told_blocks peer (done.Copied number) told = tt
  told_blocks peer (done.Stepped switched) told = tt
  told_blocks peer (done.Failed disk) told = tt

  pub reports_right : (e : Event) → IsTold c (report_in e) → ReportsBlocks (judging_of start) start.entry e c.core
  reports_right (event.Line line o) told = tt
  reports_right (event.Report peer d) told = told_blocks peer d told
  reports_right (event.Turn line peer) told = tt
  reports_right (event.Deliver line number) told = tt
  reports_right (event.Lose line number) told = tt
  reports_right (event.Repeat line number) told = tt
  reports_right (event.Nudge line peer) told = tt
  reports_right (event.Fail line peer) told = tt
  reports_right (event.Start line peer) told = tt

-- ---- with one copy a shard

module _ (start : Start) (c : Whole) (r : IsReading start c) where
  alone : AreAlone (face c.core)
  alone = r.stands.whole.sane.alone

  peer_low : (peer : ℕ) (task : Task) → first_task peer c.core ≡ Some task → peer < (shape_of c.core).shards
  peer_low peer task is = by_place (cases_lt peer c.core.members.shape.shards)
    where
      by_place : (peer < c.core.members.shape.shards) ⊎ (c.core.members.shape.shards ≤ peer) → peer < (shape_of c.core).shards
      by_place (inl low) = low
      by_place (inr high) = let bad : None ≡ Some task = sym (first_past c.core peer alone high) ∙ is in absurd (cc bad)

  module _ (peer : ℕ) (low : peer < (shape_of c.core).shards) where
    sealed_is : sealed_front c peer ≡ take (front_of peer c.core) (reach c peer)
    sealed_is = ap (λ n. take n (reach c peer)) (floor_alone c peer alone low ∙ (r.stands.whole.sane.settled peer low).settled)

    fold_is : catalogue_at r.stands.whole.cs peer ≡ catalogue_of (shard_in start.set peer) (take (front_of peer c.core) (reach c peer))
    fold_is =
        ap (λ (ds : List Folded). catalogue_at ds peer) (sym r.stands.whole.settled.folds)
        ∙ folds_at start.set (lists_of whole_machine c) peer (subst (λ (x : Shape). peer < x.shards) r.stands.whole.shape low)

    -- a number has one entry
    once : (number : ℕ) (x y : Entry) → Contains (sealed_front c peer) (number, x) → Contains (sealed_front c peer) (number, y) → x ≡ y
    once number x y a b =
        let l = r.stands.whole.sane.lists peer low in
        let listed : reach c peer ≡ enumerate_from 1 (l.taken ++ (group_of peer c.core).waiting) = reach_sane c peer r.stands.whole.sane ∙ l.counted in
        one_entry 1 (l.taken ++ (group_of peer c.core).waiting) number x y (among listed x a) (among listed y b)
      where
        among : reach c peer ≡ enumerate_from 1 ((r.stands.whole.sane.lists peer low).taken ++ (group_of peer c.core).waiting) → (z : Entry) → Contains (sealed_front c peer) (number, z)
            → Member (number, z) (enumerate_from 1 ((r.stands.whole.sane.lists peer low).taken ++ (group_of peer c.core).waiting))
        among listed z h = subst (λ (es : Numbered). Member (number, z) es) listed (taken_member (floor c peer) (reach c peer) (number, z) (member_from_contains (number, z) (sealed_front c peer) h))

  pub reads_sealed : ReadsWhatIsSealed start c
  reads_sealed = record {
    folds = r.stands.whole.cs;
    holds = r.stands.holds;
    at_home = r.home;
    took = λ shard. take (front_of shard c.core) (reach c shard);
    settled = λ shard low. fold_is shard low;
    sealed = λ peer number line first. has peer (peer_low peer (record { job = job.Read number; line = line }) first);
  }
    where
      has : (peer : ℕ) → peer < (shape_of c.core).shards → HasSealed c peer (take (front_of (home_of c.core.members.shape peer) c.core) (reach c (home_of c.core.members.shape peer)))
      has peer low =
          subst (λ k. HasSealed c peer (take (front_of k c.core) (reach c k))) (sym (home_here c.core peer alone.copies))
          (record {
            good = alone.good peer low;
            low = subst (λ k. k < (shape_of c.core).shards) (sym (home_here c.core peer alone.copies)) low;
            all = λ x h. subst (λ (es : Numbered). Contains es x) (sym (sealed_is peer low)) h;
            once = λ number x y a b. once peer low number x y a b;
          })

  pub reports_tell : (e : Event) → IsTold c (report_in e) → ReportsBlocks (judging_of start) start.entry e c.core
  reports_tell e told = reports_right start c reads_sealed e told
