-- A whole that stands has what is asked where a run may stop.
use Rattle.std.proofs.Common.{◌≡◌, ◌∙◌, ap, sym, subst, inl, inr, ℕ, zero, suc, ◌+◌, ◌<◌, ◌≤◌, false, List, [], ◌∷◌, ◌++◌, Some, None, refl, arith, length, take, append-nil, count_by}
use Rattle.std.proofs.lemmas.Bool.{cases_eq, ne_eqb}
use Rattle.std.proofs.lemmas.List.{length-map}
use Rattle.std.proofs.lemmas.List.Elements.{All-from_recursion, recursion_from_All}
use Rattle.std.specs.List.{AllByRecursion}
use Rattle.std.specs.Option.{option_map}
use Rattle.std.specs.Prelude.{IsSome, if◌then◌else◌, slice_get, slice_index_or}
use Rattle.hs_answered.specs.Standing.{store_with}
use Rattle.hs_answered.specs.Telling.{Tells}
use Rattle.hs_awaiting.specs.declared.waiting.Waiting.{Waiting}
use Rattle.hs_core_words.specs.Looking.{front_of, group_of, shape_of}
use Rattle.hs_core_words.specs.State.{Core}
use Rattle.hs_effects.specs.Logged.{HasAsked, IsOrderly, asked_by}
use Rattle.hs_entry.specs.declared.entry.Entry.{Entry}
use Rattle.hs_entry.specs.declared.entry.Entry.TheVariants as kind
use Rattle.hs_entry.specs.Entries.{is_of_base}
use Rattle.hs_events.specs.Alone.{IsCounted}
use Rattle.hs_events.specs.Whole.{Whole, reach}
use Rattle.hs_fold.specs.Lawful.{Deed, list_at}
use Rattle.hs_fold.specs.Prefix.{last_of}
use Rattle.hs_fold.specs.Runs.Catalogue.{catalogue_of}
use Rattle.hs_fold.specs.Runs.Facts.{Catalogue as Folded}
use Rattle.hs_fold.specs.Runs.Fits.{catalogue_at}
use Rattle.hs_fold.specs.Runs.History.{no_entries}
use Rattle.hs_fold.specs.Runs.Opened.{store_of}
use Rattle.hs_fold.specs.Shards.Images.{Stop}
use Rattle.hs_fold.specs.Shards.Outstanding.{MayPend}
use Rattle.hs_fold.specs.Shards.Parted.{NamesUpTo}
use Rattle.hs_fold.specs.Shards.Setting.{Numbered, Setting, shard_in}
use Rattle.hs_journal.specs.declared.entry.JournalEntry.{JournalEntry}
use Rattle.hs_journal.specs.Events.{client_op}
use Rattle.hs_journal.specs.Order.{IsOfLine}
use Rattle.hs_limits.specs.declared.address.Address.{Address}
use Rattle.hs_limits.specs.declared.shape.Shape.{Shape}
use Rattle.hs_memory.specs.Forget.{record_of}
use Rattle.hs_model.specs.Store.{reborn}
use Rattle.hs_moments.proofs.WorkLemmas.{last_of_front}
use Rattle.hs_moments.specs.WholeMachine.{whole_machine}
use Rattle.hs_replica.specs.Kinds.{is_root}
use Rattle.hs_shard.specs.Facts.{Catalogue, empty_catalogue}
use Rattle.hs_standing.proofs.SettleLemmas.{folds_at, forget_at, settled_at, within_as}
use Rattle.hs_standing.proofs.WaitLemmas.{NoneTwice, all_waits, lines_apart, roots_are, same_asked}
use Rattle.hs_standing.specs.Standing.{AreBegun, WholeStands, judging_of}
use Rattle.hs_standing.proofs.StopsRecordLemmas.{few_wait, lines_once}
use Rattle.hs_standing.proofs.SaneLemmas.{front_sealed, front_within, good_counts, reach_numbered, waits_in_core}
use Rattle.hs_standing.specs.Left.{HasFewRecords, MayBeLeft, TookEffect}
use Rattle.hs_standing.specs.Lists.{Lists, settled, settled_catalogues, waiting}
use Rattle.hs_standing.specs.Stands.{Stands, lists_of}
use Rattle.hs_standing.specs.Start.{IsAwaited, Start}
use Rattle.hs_standing.specs.Suffices.{roots_in}
use Rattle.hs_told.specs.InTurn.{told_of}
use Rattle.hs_told.specs.Part.{asking}
use Rattle.hs_waiting.specs.Waits.{EntryWaits}

-- ---- elements of lists

each_back : {X : Type 0} (P : X → Type 0) (xs ys : List X) → AllByRecursion P (xs ++ ys) → AllByRecursion P ys
each_back P [] ys h = h
each_back P (x ∷ xs) ys h = each_back P xs ys h.1

each_at : {X : Type 0} (P : X → Type 0) (xs : List X) (i : ℕ) (x : X) → AllByRecursion P xs → slice_get xs i ≡ Some x → P x
each_at P [] i x h at = absurd (cc at)
each_at P (y ∷ ys) zero x h at = let same : y ≡ x = cc at in subst P same h.0
each_at P (y ∷ ys) (suc i) x h at = each_at P ys i x h.1 at

-- no two entries that wait are of one line, as hs_effects has it
abbrev pub NoLineWaitsTwice : Type 0
NoLineWaitsTwice = (name : List ℕ → Address) (core : Core) → IsOrderly name core → (shard i : ℕ) (entry : Entry) (other j : ℕ) (second : Entry) (line : ℕ)
    → slice_get (group_of shard core).waiting i ≡ Some entry → slice_get (group_of other core).waiting j ≡ Some second → asked_by entry ≡ Some line → asked_by second ≡ Some line → (shard ≡ other) × (i ≡ j)

-- the store of some folds, without sessions
without_sessions : (cs : List Folded) (core : Core) → reborn (store_with cs core.sessions) ≡ store_of cs
without_sessions cs core = refl

module _ (start : Start) (c : Whole) (s : WholeStands start c) where
  abbrev set : Setting
  set = start.set

  abbrev lists : Lists
  lists = lists_of whole_machine c

  abbrev core : Core
  core = c.core

  low_in : (g : ℕ) → g < start.set.shape.shards → g < c.core.members.shape.shards
  low_in g low = subst (λ (x : Shape). g < x.shards) (sym s.shape) low

  -- ---- what took effect

  told_is : told_of c.core ≡ c.core.journal
  told_is = ap (λ (es : List JournalEntry). c.core.journal ++ es) (s.turn.going s.sane.going) ∙ append-nil c.core.journal

  all_told : (c.core.journal ++ c.core.refused) ++ c.core.entries ≡ c.core.journal
  all_told = ap (λ (es : List JournalEntry). (c.core.journal ++ c.core.refused) ++ es) s.turn.told ∙ append-nil (c.core.journal ++ c.core.refused) ∙ told_is

  now : Tells (judging_of start) start.entry c.core.journal (store_with s.cs c.core.sessions)
  now = subst (λ (es : List JournalEntry). Tells (judging_of start) start.entry es (store_with s.cs c.core.sessions)) all_told s.stands.told

  last_at : (g : ℕ) → g < start.set.shape.shards → last_of (list_at (settled start.set lists) g) ≡ front_of g c.core
  last_at g low =
      ap (λ (es : Numbered). last_of es) (settled_at lists start.set.shape.shards g low)
      ∙ last_of_front c g (front_of g c.core) s.sane (low_in g low) (front_within c g s.sane (low_in g low))

  pub took : TookEffect start c.core.journal (lists_of whole_machine c)
  took = record {
    legal = now.legal;
    stood = ap (λ (ds : List Folded). store_of ds) s.settled.folds ∙ sym (without_sessions s.cs c.core) ∙ ap (λ x. reborn x) (sym now.left);
    lawful = record {
      history = s.settled.history;
      ascends = s.settled.ascends;
      within = All-from_recursion (λ (d : Deed). d.number ≤ last_of (list_at (settled start.set lists) d.shard)) s.settled.history
          (within_as start.set (no_entries start.set) s.settled.history lists.front (λ g. last_of (list_at (settled start.set lists) g)) s.settled.fits
          (λ g low. let e = last_at g low in omega (arith, e))
          (recursion_from_All (λ (d : Deed). d.number ≤ lists.front d.shard) s.settled.history s.settled.within));
      fits = s.settled.fits;
      gives = s.settled.gives ∙ sym s.settled.folds;
    };
    records = s.settled.records;
  }

  -- ---- what waits

  few : (shard : ℕ) → shard < start.set.shape.shards → HasFewRecords start.set lists shard
  few shard low =
      let within : shard < length s.cs = (let count = s.stands.folded.shards in let here = low_in shard low in omega (arith, count, here)) in
      let memory = ap (λ (cats : List Catalogue). length (slice_index_or cats shard (empty_catalogue (shape_of c.core) shard)).roots) s.stands.folded.catalogues
      ∙ ap (λ (x : Catalogue). length x.roots) (forget_at (shape_of c.core) s.cs shard within (empty_catalogue (shape_of c.core) shard))
      ∙ length-map (catalogue_at s.cs shard).roots record_of in
      let fold : length (catalogue_at s.cs shard).roots ≡ length (catalogue_of (shard_in start.set shard) (take (front_of shard c.core) (reach c shard))).roots =
      ap (λ (ds : List Folded). length (catalogue_at ds shard).roots) (sym s.settled.folds) ∙ ap (λ (x : Folded). length x.roots) (folds_at start.set lists shard low) in
      let roots : roots_in (waiting lists shard) ≡ count_by is_root (group_of shard c.core).waiting =
      ap (λ (es : Numbered). roots_in es) (waits_in_core c shard s.sane (low_in shard low)) ∙ roots_are (front_of shard c.core + 1) (group_of shard c.core).waiting in
      let room = s.few shard in
      few_wait start.set lists shard (omega (arith, memory, fold, roots, room))

  plain_at : (shard place : ℕ) (entry : Entry) → shard < start.set.shape.shards → slice_get (group_of shard c.core).waiting place ≡ Some entry → is_of_base entry ≡ false
  plain_at shard place entry low at =
      let l : IsCounted (c.lists shard) (group_of shard c.core) = s.sane.lists shard (low_in shard low) in
      each_at (λ (x : Entry). is_of_base x ≡ false) (group_of shard c.core).waiting place entry
      (each_back (λ (x : Entry). is_of_base x ≡ false) l.taken (group_of shard c.core).waiting (recursion_from_All (λ (x : Entry). is_of_base x ≡ false) (l.taken ++ (group_of shard c.core).waiting) l.plain)) at

  module _ (stop : Stop) (begun : AreBegun start stop c.core) where
    abbrev Awaited : ℕ → Type 0
    Awaited = IsAwaited start stop c.core.journal

    awaits : (shard place line : ℕ) (entry : Entry) → slice_get (group_of shard c.core).waiting place ≡ Some entry → asked_by entry ≡ Some line → IsAwaited start stop c.core.journal line
    awaits shard place line entry at asks = record {
      asks = client;
      begun = begun line counted (omega (arith, below)) client;
      unanswered = λ i of. s.turn.turns.unanswered line has.waiting.operation.op asking_is i (subst (λ (es : List JournalEntry). IsOfLine es i line) (sym told_is) of);
    }
      where
        has : HasAsked start.set.name c.core shard (front_of shard c.core + 1 + place) line entry
        has = s.stands.orderly.asked shard place line entry at asks

        client : IsSome (client_op (start.commands line))
        client = s.stands.asked line has.waiting has.at

        counted : 1 ≤ line
        counted = (s.stands.orderly.pending line has.waiting has.at).counted

        asking_is : asking c.core.operations line ≡ Some has.waiting.operation.op
        asking_is = ap (option_map (λ (w : Waiting). w.operation.op)) has.at

        below : line < c.core.progress.event_line + 1
        below = s.turn.turns.below line has.waiting.operation.op asking_is

    pends : (shard place : ℕ) (entry : Entry) → slice_get (group_of shard c.core).waiting place ≡ Some entry → is_of_base entry ≡ false → MayPend (IsAwaited start stop c.core.journal) entry
    pends shard place (kind.View view) at plain = tt
    pends shard place (kind.Block line least bytes) at plain = awaits shard place line (kind.Block line least bytes) at refl
    pends shard place (kind.Mark line least block address) at plain = awaits shard place line (kind.Mark line least block address) at refl
    pends shard place (kind.Root line held address key) at plain = awaits shard place line (kind.Root line held address key) at refl
    pends shard place (kind.Drop line key) at plain = awaits shard place line (kind.Drop line key) at refl
    pends shard place (kind.Enter line epoch) at plain = elim (cases_eq line 0) [
      | inl none ↦ inl none
      | inr some ↦ inr (awaits shard place line (kind.Enter line epoch) at (ap (λ b. if b then None else Some line) (ne_eqb line 0 some)))
    ]
    pends shard place (kind.Got sender epoch round total deltas) at plain = tt
    pends shard place (kind.Base view epoch swept round frames) at plain = absurd (cc plain)
    pends shard place (kind.KeptBlock born mark flags count bytes) at plain = absurd (cc plain)
    pends shard place (kind.KeptRoot created dropped counted address key) at plain = absurd (cc plain)
    pends shard place (kind.KeptRound way other epoch round total deltas) at plain = absurd (cc plain)

    left : (shard : ℕ) → shard < start.set.shape.shards → MayBeLeft start.set (IsAwaited start stop c.core.journal) (lists_of whole_machine c) shard
    left shard low = record {
      numbered = reach_numbered c shard s.sane (low_in shard low);
      views = s.views shard low;
      few = few shard low;
      waits = all_waits (λ (x : Entry). NamesUpTo (front_of shard c.core) x × EntryWaits (settled_catalogues start.set lists) shard x) (front_of shard c.core + 1) (group_of shard c.core).waiting (waiting lists shard)
          (waits_in_core c shard s.sane (low_in shard low))
          (λ place entry at. let r = s.stands.rested shard place entry at in (r.0, subst (λ ds. EntryWaits ds shard entry) (sym s.settled.folds) r.1));
      awaited = all_waits (λ (x : Entry). MayPend (IsAwaited start stop c.core.journal) x) (front_of shard c.core + 1) (group_of shard c.core).waiting (waiting lists shard)
          (waits_in_core c shard s.sane (low_in shard low))
          (λ place entry at. pends shard place entry at (plain_at shard place entry low at));
    }

    pub whole_stands : NoLineWaitsTwice → Stands whole_machine start stop c
    whole_stands alone = record {
      counted = good_counts c s.sane;
      sealed = λ peer good. front_sealed c peer s.sane good;
      took = took;
      left = left;
      once = lines_once start lists (λ g low. (reach_numbered c g s.sane (low_in g low), front_within c g s.sane (low_in g low)))
          (lines_apart lists (λ g. (group_of g c.core).waiting) (λ g. front_of g c.core + 1) start.set.shape.shards (λ g low. waits_in_core c g s.sane (low_in g low)) never_twice);
    }
      where
        never_twice : NoneTwice (λ g. (group_of g c.core).waiting) start.set.shape.shards
        never_twice g h i j line one other lg lh a b p q = alone start.set.name c.core s.stands.orderly g i one h j other line a b (sym (same_asked one) ∙ p) (sym (same_asked other) ∙ q)
