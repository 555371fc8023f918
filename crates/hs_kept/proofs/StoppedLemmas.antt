-- What a key keeps while a file is stored under it: behind what was answered, and whatever images count.
use Rattle.std.proofs.Common.{◌≡◌, ◌∙◌, ◌⊎◌, inl, inr, ap, sym, subst, refl, ℕ, ◌≤◌, List, [], ◌∷◌, ◌++◌, Option, Some, None, append-nil, length}
use Rattle.std.specs.List.{AllByRecursion, AllZip}
use Rattle.std.specs.Prelude.{IsSome}
use Rattle.hs_asker.specs.Going.{AtEntry}
use Rattle.hs_asker.specs.Shows.{IsTold}
use Rattle.hs_asker.specs.Silent.{status_by}
use Rattle.hs_asking.proofs.EventLemmas.{events-same}
use Rattle.hs_asking.proofs.HandLemmas.{all_right}
use Rattle.hs_asking.proofs.SeatLemmas.{seat_held, seat_kept}
use Rattle.hs_asking.proofs.StayLemmas.{kept_whole}
use Rattle.hs_asking.specs.Seats.{HasSeat}
use Rattle.hs_asking.specs.Shown.{Began, Shown, store_now}
use Rattle.hs_clauses.proofs.EndedLemmas.{journal_notes}
use Rattle.hs_clauses.proofs.NoteLemmas.{IsNote}
use Rattle.hs_clauses.specs.Shown.{HasItsDisks, IsShownRun, IsToldAs, IsToldRun}
use Rattle.hs_desk.specs.declared.fault.CoreFault.{CoreFault}
use Rattle.hs_events.specs.Found.{first_core}
use Rattle.hs_events.specs.Taken.{or_blank, taken_lists}
use Rattle.hs_files.specs.Client.{AsksAsClient, beneath, client_script}
use Rattle.hs_files.specs.Stored.{Ended, EndsStore, Stopped, Stored, StoresFile, Unbegun, Unopened}
use Rattle.hs_fold.specs.Runs.Opened.{opened}
use Rattle.hs_fold.specs.Shards.Happening.{happen_all, happenings}
use Rattle.hs_fold.specs.Shards.Images.{AreGoodImages, Image}
use Rattle.hs_fold.specs.Shards.Setting.{Numbered}
use Rattle.hs_journal.specs.Events.{client_op, events_of}
use Rattle.hs_journal.specs.Moments.{below}
use Rattle.hs_journal.specs.Order.{IsOrdered}
use Rattle.hs_journal.specs.declared.entry.JournalEntry.{JournalEntry}
use Rattle.hs_journal.specs.declared.entry.Who.TheVariants as who
use Rattle.hs_laws.proofs.JudgeKeeps.{run_valid}
use Rattle.hs_laws.proofs.ValidLemmas.{is_from_valid, valid_from_is}
use Rattle.hs_laws.specs.Distinct.{HasDistinctAddresses}
use Rattle.hs_laws.specs.Reached.{IsWhole}
use Rattle.hs_laws.specs.Valid.{IsValid}
use Rattle.hs_limits.specs.Limits.{greatest_limits}
use Rattle.hs_limits.specs.declared.address.Address.{Address}
use Rattle.hs_limits.specs.declared.address.Held.{Held}
use Rattle.hs_limits.specs.declared.shape.Shape.{Shape}
use Rattle.hs_model.proofs.Members.{Member}
use Rattle.hs_model.specs.Run.{Event, run}
use Rattle.hs_model.specs.Store.{Store, held_at, reborn, retained_at}
use Rattle.hs_model.specs.declared.command.Command.{Command}
use Rattle.hs_model.specs.declared.op.Op.{Op}
use Rattle.hs_model.specs.declared.op.Op.TheVariants as op
use Rattle.hs_ports.specs.Objects.{IsDuring}
use Rattle.hs_ports.specs.Source.{IsEnded, before}
use Rattle.hs_promise.specs.Entry.{IsSoundAtEntry, MayStop, entry_store}
use Rattle.hs_promise.specs.Headers.{KeepsHeaders}
use Rattle.hs_promise.specs.Run.{Ran, Script}
use Rattle.hs_promise.specs.Stops.{Reopens, Stops, image_logs, pending_at, stop_at}
use Rattle.hs_promise.specs.Story.{Story}
use Rattle.hs_sound.specs.Stay.{AreSoundAlong}
use Rattle.hs_standing.specs.Held.{GivesAddresses}
use Rattle.hs_tree.proofs.GatherLemmas.{before_none}
use Rattle.hs_tree.specs.Growing.{HasPlanted, IsOpenAndWork, IsPlanted, IsStoringOp, Matches, Place, name_of}
use Rattle.hs_tree.specs.Storing.{AsksRoot, our_session}
use Rattle.hs_tree.specs.Trees.{height, stored_cut}
use Rattle.hs_kept.proofs.AskedLemmas.{ClientsAre, IsOurs, done_clients, finds_same, our_works, quiet_ops, some_line}
use Rattle.hs_kept.proofs.FilesLemmas.{asks_plainly, began_is, here, lists_are}
use Rattle.hs_kept.proofs.LawLemmas.{Laws}
use Rattle.hs_kept.proofs.LineLemmas.{HasLine, has_left}
use Rattle.hs_kept.proofs.MomentLemmas.{MomentLaws, asked_then}
use Rattle.hs_kept.proofs.QuietLemmas.{IsQuiet}
use Rattle.hs_kept.proofs.SaidLemmas.{each_line}
use Rattle.hs_kept.proofs.RunLemmas.{its_disks, on_disks, shown_run, shown_story, sound_at, store_is, told_never, told_run, told_story}
use Rattle.hs_kept.proofs.WholeKeyLemmas.{IsEarlier, IsKeptWhole, IsPoised, quiet_after, quiet_stop, whole_after, whole_stop}
use Rattle.hs_kept.specs.Kept.{AsksPlainly, IsSoundStart, StartsAlike, disk_lists, set_of, store_before, store_behind}
use Rattle.hs_kept.specs.Pending.{ArePendingAs, IsPendingAs}
use Rattle.hs_kept.specs.Stopped.{EndsWhole, GoesOn, KeepsKeyWhole, KeepsWhole, StopsAsAsked}

-- the clause of stops
abbrev pub StopsSo : Type 0
StopsSo = (S : Script) (r : Ran) → IsShownRun S r → KeepsHeaders S r → MayStop S r → Stops S (entry_store S r) r

no_note : (n : ℕ) (xs : List JournalEntry) → AllByRecursion IsNote xs → HasLine n xs → ⊥
no_note n [] notes h = h
no_note n (x ∷ xs) notes (inl is) = differs n (sym notes.0 ∙ is)
  where
    differs : (n : ℕ) → who.Store ≡ who.Line n → ⊥
    differs n e = cc e
no_note n (x ∷ xs) notes (inr h) = no_note n xs notes.1 h

-- ---- the top that a session holds

record HoldsTop {N : Type 0} (fits : N → ℕ × Held → Type 0) (s : Store) (n : N) : Type 0 where
  next : ℕ
  es : List (ℕ × Held)
  seat : HasSeat s our_session next es
  e : ℕ × Held
  member : Member e es
  matches : fits n e

holds_top : (name : List ℕ → Address) (b : Began) (s : Store) (n : _) (place : Place) → HasPlanted name b s our_session (n ∷ []) [] [] (place ∷ []) → HoldsTop Matches s n
holds_top name b s n place h = go h.fore h.fronts h.seat
  where
    go : (fore : List (ℕ × Held)) → AllZip Matches (n ∷ []) fore → HasSeat s our_session h.next (fore ++ (h.middle ++ h.back)) → HoldsTop Matches s n
    go [] zipped seat = absurd zipped
    go (e ∷ fore) zipped seat = record { next = h.next; es = e ∷ fore ++ (h.middle ++ h.back); seat = seat; e = e; member = inl refl; matches = zipped.0 }

module _ (laws : Laws) (moments : MomentLaws) (stops : StopsSo) (tells : Type 0) (name : List ℕ → Address) (shape : Shape) (r : Ran) (told : tells) (alike : StartsAlike shape r) (names : GivesAddresses name) (sound : IsSoundStart name shape r) where
  abbrev was : Store
  was = store_before name shape r

  valid_before : IsValid (store_before name shape r)
  valid_before = sound.sound.sound.valid

  distinct_before : HasDistinctAddresses (store_before name shape r)
  distinct_before = laws.distinct (set_of name shape) (taken_lists shape (disk_lists r))

  module _ (e : AtEntry) (start now : Shown (IsTold tells e)) (asks : AsksAsClient tells name shape r e start now) (key : List ℕ) where
    abbrev S : Script
    S = client_script name shape now.commands

    abbrev plainly : AsksPlainly tells name shape r now.commands
    plainly = asks_plainly laws tells name shape r told alike names sound e start now asks

    abbrev ran : Ran
    ran = beneath r asks.until (status_by now.ended)

    abbrev told_ran : IsToldRun S ran
    told_ran = told_run tells S ran told alike names asks.machine

    abbrev on : HasItsDisks S ran
    on = its_disks tells S ran told alike names asks.machine

    valid_behind : IsValid (store_behind name shape now.commands r)
    valid_behind =
        is_from_valid (store_behind name shape now.commands r)
        (run_valid greatest_limits (store_before name shape r) (valid_from_is (store_before name shape r) valid_before) (events_of now.commands name greatest_limits (store_before name shape r) r.journal) plainly.legal)

    -- ---- where its core goes on

    told_of : (story : Story) → asks.machine.how ≡ Some story → IsToldAs S ran story
    told_of story is = told_story tells S ran told alike names asks.machine story is

    entry_is : (story : Story) → asks.machine.how ≡ Some story → (first_core S.set story.found).ended ≡ None → entry_store S ran ≡ store_before name shape r
    entry_is story is going =
        store_is S ran story on (told_of story is) alike going e.disks asks.disks.stands
        ∙ ap (λ (logs : List (Option Numbered)). opened (set_of name shape) (or_blank logs)) (lists_are laws tells name shape r told alike names sound e asks.set asks.disks)

    sound_of : (story : Story) → asks.machine.how ≡ Some story → (first_core S.set story.found).ended ≡ None → IsSoundAtEntry S ran
    sound_of story is going =
        sound_at S ran story on (told_of story is) alike going e.disks asks.disks.stands
        (subst (λ (logs : List (Option Numbered)). AreSoundAlong (set_of name shape) (taken_lists shape logs)) (sym (lists_are laws tells name shape r told alike names sound e asks.set asks.disks)) sound.sound)

    -- where a line was answered, what was answered is in order
    ordered_by : (n : ℕ) → HasLine n r.journal → IsOrdered now.commands r.journal
    ordered_by n has = by_how asks.machine.how refl
      where
        by_end : (story : Story) → asks.machine.how ≡ Some story → (o : Option CoreFault) → (first_core S.set story.found).ended ≡ o → IsOrdered now.commands r.journal
        by_end story is None going = (laws.answers S ran told_ran (sound_of story is going)).ordered
        by_end story is (Some fault) ended = absurd (no_note n r.journal (journal_notes S ran story (told_of story is).went fault ended) has)

        by_how : (how : Option Story) → asks.machine.how ≡ how → IsOrdered now.commands r.journal
        by_how None is = absurd (subst (λ (journal : List JournalEntry). HasLine n journal) (told_never tells S ran told alike names asks.machine is).journal has)
        by_how (Some story) is = by_end story is (first_core S.set story.found).ended refl

    -- ---- at a moment

    module _ (goes : GoesOn tells S ran asks.machine) (asked : StopsAsAsked S ran) (m : ℕ) (during : IsDuring ran.old ran.new m) (images : List Image) (count : AreGoodImages shape (stop_at S ran m) images) where
      abbrev entry : Store
      entry = entry_store S ran

      abbrev reopened : List JournalEntry → Store
      reopened journal = reborn (happen_all (run greatest_limits entry (events_of now.commands name greatest_limits entry (below m journal))) (happenings (pending_at S ran m images)))

      first_is : entry_store S ran ≡ store_before name shape r
      first_is = entry_is goes.story goes.is goes.going

      reopens : Reopens S (entry_store S ran) ran m images
      reopens = asked.stops.reopens m during images count

      pends : ArePendingAs S ran m images
      pends = asked.pends m during images count

      pub quiet_then : ((n : ℕ) (o : Op) → client_op (now.commands n) ≡ Some o → IsQuiet o) → (file : List ℕ) → retained_at (opened (set_of name shape) (or_blank (image_logs images))) key ≡ retained_at (store_before name shape r) key
      quiet_then quiet file =
          ap (λ (t : Store). retained_at t key) reopens.stands
          ∙ quiet_stop name greatest_limits now.commands key file entry quiet (below m r.journal) (pending_at S ran m images) pends
          ∙ ap (λ (t : Store). retained_at t key) first_is

      module _ (file : List ℕ) (early more : List JournalEntry) (line handle : ℕ) (poised : IsPoised name greatest_limits now.commands key file (store_before name shape r) early line handle) (journal_is : r.journal ≡ early ++ more) (ordered : IsOrdered now.commands (early ++ more)) where
        opens_at : opened (set_of name shape) (or_blank (image_logs images)) ≡ reopened (early ++ more)
        opens_at = reopens.stands ∙ ap (λ (journal : List JournalEntry). reopened journal) journal_is

        whole_there : IsKeptWhole name greatest_limits now.commands key file (entry_store S ran) (reopened (early ++ more))
        whole_there =
            whole_stop name greatest_limits now.commands key file (entry_store S ran) early more line handle
            (subst (λ (s : Store). IsPoised name greatest_limits now.commands key file s early line handle) (sym first_is) poised) ordered m (pending_at S ran m images)
            (subst (λ (journal : List JournalEntry). AllByRecursion (IsPendingAs now.commands (run greatest_limits entry (events_of now.commands name greatest_limits entry (below m journal))) (below m journal)) (pending_at S ran m images)) journal_is pends)
            (subst (λ (t : Store). IsValid t) opens_at reopens.sound.sound.valid)

        whole_then : IsKeptWhole name greatest_limits now.commands key file (store_before name shape r) (opened (set_of name shape) (or_blank (image_logs images)))
        whole_then =
            subst (λ (s : Store). IsKeptWhole name greatest_limits now.commands key file s (opened (set_of name shape) (or_blank (image_logs images)))) first_is
            (subst (λ (t : Store). IsKeptWhole name greatest_limits now.commands key file (entry_store S ran) t) (sym opens_at) whole_there)

    -- with one copy of each shard it may be stopped so

    pub asked_alone : shape.copies ≡ 1 → GoesOn tells S ran asks.machine → MayStop S ran → StopsAsAsked S ran
    asked_alone one goes may = record {
      stops = stops S ran (shown_run tells S ran told one names asks.machine) (asks.machine.served.headers told) may;
      pends = λ m during images count. asked_then moments S ran goes.story (on_disks tells S ran told one names asks.machine) (shown_story tells S ran told one names asks.machine goes.story goes.is) goes.going may m during images count;
    }

    -- ---- where no root was asked for

    module _ (quiet : (n : ℕ) (o : Op) → client_op (now.commands n) ≡ Some o → IsQuiet o) (file : List ℕ) (given : before file r.new.left ≡ r.old.left) where
      keeps_quiet : KeepsKeyWhole tells name shape key r
      keeps_quiet = record {
        commands = now.commands;
        asks = plainly;
        file = file;
        given = given;
        behind = inl (quiet_after name greatest_limits now.commands key file (store_before name shape r) quiet r.journal);
        stopped = λ goes asked m during images count. inl (quiet_then goes asked m during images count quiet file);
        alone = asked_alone;
      }

    quiet_by : (ops : List Op) → now.asked ≡ start.asked ++ ops → AllByRecursion IsQuiet ops → (n : ℕ) (o : Op) → client_op (now.commands n) ≡ Some o → IsQuiet o
    quiet_by ops asked all n o is =
        each_line IsQuiet asks.said
        (subst (λ (xs : List Op). AllByRecursion IsQuiet xs) (ap (λ (xs : List Op). xs ++ ops) (sym asks.first) ∙ (sym asked ∙ asks.asked)) all) n o
        (subst (λ (commands : ℕ → Option Command). client_op (commands n) ≡ Some o) asks.commands is)

    -- ---- where it was asked for last

    module _ (file : List ℕ) (root : AsksRoot name key start now file) (began : now.began ≡ start.began) where
      abbrev place : Place
      place = record { height = height stored_cut (length file); bytes = file }

      abbrev s : Store
      s = store_now root.before.began root.before

      began_at : root.before.began ≡ record { name = name; limits = greatest_limits; store = store_before name shape r }
      began_at = sym root.began ∙ (began ∙ (asks.began ∙ began_is laws tells name shape r told alike names sound e asks.set asks.disks))

      store_there : store_now root.before.began root.before ≡ run greatest_limits was (events_of now.commands name greatest_limits was root.before.journal)
      store_there =
          ap (λ (b : Began). store_now b root.before) began_at
          ∙ ap (λ (es : List Event). run greatest_limits was es)
          (events-same root.before.commands now.commands name greatest_limits was root.before.journal (finds_same root.before now (op.Root our_session key root.top.handle) root.begun root.before.journal root.begun.unused))

      planted : HasPlanted name root.before.began (store_now root.before.began root.before) our_session (root.top ∷ []) [] [] (place ∷ [])
      planted = root.grown.told (here laws tells name shape r told alike names sound e start now asks)

      top : HoldsTop Matches (store_now root.before.began root.before) root.top
      top = holds_top name root.before.began (store_now root.before.began root.before) root.top place planted

      names_top : root.top.address ≡ name_of name place
      names_top = let same : root.top.address ∷ [] ≡ name_of name place ∷ [] = root.grown.names in cc same

      ours : ClientsAre IsOurs root.before
      ours =
          done_clients IsOurs start root.before (op.Open our_session ∷ root.grown.worked.ops) ((tt, refl), our_works root.grown.worked.ops root.grown.worked.work) root.grown.worked.done
          (λ n o is. let bad : None ≡ Some o = sym (ap (λ (commands : ℕ → Option Command). client_op (commands n)) asks.started) ∙ is in absurd (cc bad))

      earlier : (n : ℕ) (o : Op) → client_op (now.commands n) ≡ Some o → (n ≡ root.begun.line → ⊥) → IsEarlier name greatest_limits now.commands key file (store_before name shape r) root.before.journal root.begun.line n o
      earlier n o is differs =
          let there : client_op (root.before.commands n) ≡ Some o = sym (root.begun.others n differs) ∙ is in
          let c = ours n o there in
          record { quiet = c.1.0; low = root.begun.above n (subst (λ (x : Option Op). IsSome x) (sym there) refl); ours = c.1.1; answered = c.0 }

      poised : IsPoised name greatest_limits now.commands key file (store_before name shape r) root.before.journal root.begun.line root.top.handle
      poised = record {
        asks_it = root.begun.asks;
        unused = root.begun.unused;
        clients = earlier;
        distinct = distinct_before;
        held = top.e.1;
        holds = subst (λ (t : Store). held_at t our_session root.top.handle ≡ Some top.e.1) store_there
            (subst (λ (h : ℕ). held_at (store_now root.before.began root.before) our_session h ≡ Some top.e.1) (sym top.matches.0) (seat_held (store_now root.before.began root.before) our_session top.next top.es top.seat top.e top.member));
        is_top = sym top.matches.1 ∙ names_top;
        whole = subst (λ (t : Store). IsWhole t (name_of name place)) store_there
            (subst (λ (a : Address). IsWhole (store_now root.before.began root.before) a) (sym top.matches.1 ∙ names_top)
            (kept_whole (store_now root.before.began root.before) (valid_from_is (store_now root.before.began root.before) top.seat.sane.valid) top.e.1.address
            (seat_kept (store_now root.before.began root.before) our_session top.next top.es top.seat top.e top.member)));
        planted = subst (λ (t : Store). IsPlanted name t (height stored_cut (length file)) file) store_there planted.planted.0;
      }

      journal_is : r.journal ≡ root.before.journal ++ root.begun.more
      journal_is = asks.journal ∙ root.begun.journal

      ordered : IsOrdered now.commands (root.before.journal ++ root.begun.more)
      ordered =
          let some = some_line start root.before (op.Open our_session) root.grown.worked.ops root.grown.worked.done in
          subst (λ (journal : List JournalEntry). IsOrdered now.commands journal) journal_is
          (ordered_by some.0 (subst (λ (journal : List JournalEntry). HasLine some.0 journal) (sym journal_is) (has_left some.0 root.before.journal root.begun.more some.1)))

      behind : IsKeptWhole name greatest_limits now.commands key file (store_before name shape r) (store_behind name shape now.commands r)
      behind =
          subst (λ (journal : List JournalEntry). IsKeptWhole name greatest_limits now.commands key file was (run greatest_limits was (events_of now.commands name greatest_limits was journal))) (sym journal_is)
          (whole_after name greatest_limits now.commands key file was root.before.journal root.begun.more root.begun.line root.top.handle poised ordered
          (subst (λ (journal : List JournalEntry). IsValid (run greatest_limits was (events_of now.commands name greatest_limits was journal))) journal_is valid_behind))

      keeps_root : before file r.new.left ≡ r.old.left → IsEnded r.new.left → length file ≤ 67108864 → KeepsKeyWhole tells name shape key r
      keeps_root given ended fits = record {
        commands = now.commands;
        asks = plainly;
        file = file;
        given = given;
        behind = with_end (store_behind name shape now.commands r) behind;
        stopped = λ goes asked m during images count. with_end (opened (set_of name shape) (or_blank (image_logs images)))
            (whole_then goes asked m during images count file root.before.journal root.begun.more root.begun.line root.top.handle poised journal_is ordered);
        alone = asked_alone;
      }
        where
          with_end : (t : Store) → IsKeptWhole name greatest_limits now.commands key file (store_before name shape r) t → KeepsWhole name (store_before name shape r) key file r.new.left t
          with_end t (inl same) = inl same
          with_end t (inr stored) = inr (stored, ended, fits)

  -- ---- the command

  key_of : (session key k : List ℕ) (asked front : List Op) (handle : ℕ) → AllByRecursion (IsStoringOp session key) asked → asked ≡ front ++ op.Root session k handle ∷ [] → k ≡ key
  key_of session key k asked front handle all is = (all_right (IsStoringOp session key) front (op.Root session k handle ∷ []) (subst (λ (xs : List Op). AllByRecursion (IsStoringOp session key) xs) is all)).0.1

  pub ends_whole : (key : List ℕ) → StoresFile tells name shape key r → EndsWhole tells name shape key r
  ends_whole key h = by_end h.ends
    where
      by_end : EndsStore tells name shape key r → EndsWhole tells name shape key r
      by_end (Unbegun nothing) = inl nothing.unanswered
      by_end (Unopened opens takes) = inl opens.unanswered
      by_end (Ended e start asks core ended takes end) =
          inr (keeps_quiet e start start asks key (quiet_by e start start asks key [] (sym (append-nil start.asked)) tt) [] (before_none r.new.left ∙ takes.left))
      by_end (Stored e start now asks bytes stored end) = inr (keeps_root e start now asks key stored.file stored.root stored.began stored.stream stored.ended stored.fits)
      by_end (Stopped e start now asks f stopped unfinished cause end) = inr (by_root unfinished.root)
        where
          by_root : ((session : List ℕ) × IsOpenAndWork session unfinished.ops) ⊎ ((taken : List ℕ) × AsksRoot name taken start now unfinished.file × IsEnded r.new.left × (length unfinished.file ≤ 67108864)) → KeepsKeyWhole tells name shape key r
          by_root (inl quiet) = keeps_quiet e start now asks key (quiet_by e start now asks key unfinished.ops unfinished.asked (quiet_ops quiet.0 unfinished.ops quiet.1)) unfinished.file unfinished.stream
          by_root (inr root) =
              let same : root.0 ≡ key =
              key_of our_session key root.0 stopped.ops root.1.before.asked root.1.top.handle stopped.kinds (ap (λ (xs : List Op). xs ++ stopped.ops) (sym asks.first) ∙ (sym stopped.asked ∙ root.1.asked)) in
              keeps_root e start now asks key unfinished.file (subst (λ (k : List ℕ). AsksRoot name k start now unfinished.file) same root.1) stopped.began unfinished.stream root.2 root.3
