-- The journal of a load that is done is one of deeds, which leave what its last core has.
use Rattle.std.proofs.Common.{◌≡◌, ◌∙◌, sym, ap, subst, ℕ, ◌+◌, ◌≤◌, ◌++◌, true, false, List, [], ◌∷◌, length, Option, Some, None, Result, Ok, Err, refl, arith}
use Rattle.std.specs.Prelude.{⊤, count_by, is_none}
use Rattle.hs_answered.specs.Standing.{store_with}
use Rattle.hs_book.specs.Book.{Book}
use Rattle.hs_book.specs.Calls.{is_out_of_memory}
use Rattle.hs_book.specs.Events.{AreBookSteps}
use Rattle.hs_book.specs.History.{History}
use Rattle.hs_cluster.proofs.GoingOnLemmas.{opens_found}
use Rattle.hs_cluster.proofs.OpenedLemmas.{moment_opens}
use Rattle.hs_cluster.proofs.WalkLemmas.{rise_then}
use Rattle.hs_cluster.specs.Calls.{outcome_by}
use Rattle.hs_cluster.specs.declared.fault.ClusterFault.{ClusterFault}
use Rattle.hs_cluster.specs.Opens.{Opens}
use Rattle.hs_cluster.specs.Rooms.{HaveRecordRoom}
use Rattle.hs_core_words.specs.Plain.{plain_store}
use Rattle.hs_core_words.specs.Records.{HasRecordRoom}
use Rattle.hs_core_words.specs.State.{Core}
use Rattle.hs_core_words.specs.Step.{step}
use Rattle.hs_deeds.specs.Bare.{bare_store}
use Rattle.hs_deeds.specs.Lines.{AreLast, AskedLine, DeletesOrSettles, GoesToEnd, LeavesDeeds, events_of}
use Rattle.hs_deeds.specs.Told.{store_after}
use Rattle.hs_desk.specs.declared.fault.CoreFault.{CoreFault}
use Rattle.hs_events.proofs.RunLemmas.{steps_append}
use Rattle.hs_events.specs.Course.{steps}
use Rattle.hs_events.specs.Due.{Events, MomentsRise}
use Rattle.hs_events.specs.Found.{Found, first_core, opens_with}
use Rattle.hs_fold.specs.Shards.Setting.{Setting}
use Rattle.hs_journal.specs.declared.entry.JournalEntry.{JournalEntry}
use Rattle.hs_journal.specs.Deeds.{as_deed}
use Rattle.hs_limits.specs.declared.address.Address.{Address}
use Rattle.hs_load.specs.Judged.{Load}
use Rattle.hs_load.specs.Loaded.{Close, Handed, RunsAll, Stand, begun_at, last_lines}
use Rattle.hs_load.specs.Reached.{EachIsReached}
use Rattle.hs_load.specs.Tallied.{blocks_in, roots_in}
use Rattle.hs_model.specs.declared.command.Command.{Command}
use Rattle.hs_model.specs.Hollow.{hollow}
use Rattle.hs_model.specs.Reach.{IsReached, Leads}
use Rattle.hs_model.specs.Store.{Session, Store, with_sessions}
use Rattle.hs_shown.specs.Showing.{as_sessions}
use Rattle.hs_standing.proofs.FirstRoomLemmas.{first_room}
use Rattle.hs_standing.proofs.TakenLemmas.{FoldsInMemory}
use Rattle.hs_standing.specs.Answered.{KeepsRecordRoom}
use Rattle.hs_standing.specs.Opening.{OpensSoundly, opened_folds}
use Rattle.hs_summed.proofs.OpensLemmas.{opens_soundly, opens_with_entry, still_goes, still_none}
use Rattle.hs_summed.proofs.SumLemmas.{DoneBy, sums_up}
use Rattle.hs_summed.specs.Store.{LeavesStore, SumsUpStore}
use Rattle.hs_taking.specs.Disks.{DiskSeen}

-- ---- what is reached rests on no session

leads_same : (s : Store) (sessions : List (List ℕ × Session)) (path : List Address) (a b : Address) → Leads s a path b → Leads (with_sessions s sessions) a path b
leads_same s sessions [] a b leads = leads
leads_same s sessions (next ∷ path) a b leads = (leads.0, leads_same s sessions path next b leads.1)

reached_same : (s : Store) (sessions : List (List ℕ × Session)) → EachIsReached s → EachIsReached (with_sessions s sessions)
reached_same s sessions each a there =
    let its = each a there in
    record { start = its.start; path = its.path; anchored = its.anchored; leads = leads_same s sessions its.path its.start a its.leads }

-- ---- room for root records

abbrev HasRoomThere : Core → Type 0
HasRoomThere c = c.ended ≡ None → HasRecordRoom c

room_kept : (c : Core) (es : Events) → HasRoomThere c → HaveRecordRoom c es → KeepsRecordRoom c es
room_kept c [] few behind = tt
room_kept c (e ∷ es) few behind = (few, room_kept (step e.0 e.1 c) es behind.0 behind.1)

room_behind : (c : Core) (es : Events) → HasRoomThere c → HaveRecordRoom c es → HasRoomThere (steps c es)
room_behind c [] few behind = few
room_behind c (e ∷ es) few behind = room_behind (step e.0 e.1 c) es behind.0 behind.1

room_of_book : (c : Core) (es : Events) → HasRoomThere c → AreBookSteps c es → HasRoomThere (steps c es)
room_of_book c [] few may = few
room_of_book c (e ∷ es) few may = room_of_book (step e.0 e.1 c) es may.0.room may.1

-- ---- the last lines

module _ (tells : Type 0) (name : List ℕ → Address) where
  abbrev Runs : List Command → Stand → Stand → Type 0
  Runs asked old new = RunsAll tells name asked old new (Ok tt)

  abbrev lines_of : (asked : List Command) (old new : Stand) → RunsAll tells name asked old new (Ok tt) → List AskedLine
  lines_of [] old new runs = []
  lines_of (a ∷ asked) old new runs = record { asked = a; events = runs.1.runs.events } ∷ lines_of asked runs.0 new runs.2

  abbrev AllPlain : List Command → Type 0
  AllPlain [] = Unit {0}
  AllPlain (a ∷ asked) = DeletesOrSettles a × AllPlain asked

  core_there : (asked : List Command) (old new : Stand) (runs : RunsAll tells name asked old new (Ok tt)) → new.cluster.core ≡ steps old.cluster.core (events_of (lines_of asked old new runs))
  core_there [] old new runs = ap (λ (z : Stand). z.cluster.core) runs.0
  core_there (a ∷ asked) old new runs =
      core_there asked runs.0 new runs.2 ∙ ap (λ (c : Core). steps c (events_of (lines_of asked runs.0 new runs.2))) (runs.1.runs.does.core refl)
      ∙ sym (steps_append old.cluster.core runs.1.runs.events (events_of (lines_of asked runs.0 new runs.2)))

  going_there : (asked : List Command) (old new : Stand) → RunsAll tells name asked old new (Ok tt) → old.cluster.core.ended ≡ None → new.cluster.core.ended ≡ None
  going_there [] old new runs going = ap (λ (z : Stand). z.cluster.core.ended) runs.0 ∙ going
  going_there (a ∷ asked) old new runs going = going_there asked runs.0 new runs.2 (still_goes runs.0.cluster.core.ended (runs.1.runs.does.outcome refl))

  are_last : (asked : List Command) (old new : Stand) (runs : RunsAll tells name asked old new (Ok tt)) → AllPlain asked → old.cluster.core.ended ≡ None → AreLast name (old.line + 1) old.cluster.core (lines_of asked old new runs)
  are_last [] old new runs plain going = tt
  are_last (a ∷ asked) old new runs plain going =
      let rest : AreLast name (runs.0.line + 1) runs.0.cluster.core (lines_of asked runs.0 new runs.2) = are_last asked runs.0 new runs.2 plain.1 (still_goes runs.0.cluster.core.ended (runs.1.runs.does.outcome refl)) in (
        going,
        plain.0,
        runs.1.runs.due,
        subst (λ (c : Core). AreLast name (old.line + 1 + 1) c (lines_of asked runs.0 new runs.2)) (runs.1.runs.does.core refl)
            (subst (λ (n : ℕ). AreLast name (n + 1) runs.0.cluster.core (lines_of asked runs.0 new runs.2)) runs.1.next rest),
      )

  rise_there : (asked : List Command) (old new : Stand) (runs : RunsAll tells name asked old new (Ok tt)) → MomentsRise old.now (events_of (lines_of asked old new runs)) new.now
  rise_there [] old new runs = let same : new.now ≡ old.now = ap (λ (z : Stand). z.now) runs.0 in omega (arith, same)
  rise_there (a ∷ asked) old new runs = rise_then old.now runs.0.now new.now runs.1.runs.events (events_of (lines_of asked runs.0 new runs.2)) runs.1.runs.rises (rise_there asked runs.0 new runs.2)

  rooms_there : (asked : List Command) (old new : Stand) (runs : RunsAll tells name asked old new (Ok tt)) → HasRoomThere old.cluster.core → KeepsRecordRoom old.cluster.core (events_of (lines_of asked old new runs))
  rooms_there [] old new runs few = tt
  rooms_there (a ∷ asked) old new runs few =
      kept_then old.cluster.core runs.1.runs.events (events_of (lines_of asked runs.0 new runs.2)) (room_kept old.cluster.core runs.1.runs.events few runs.1.runs.does.rooms)
      (subst (λ (c : Core). KeepsRecordRoom c (events_of (lines_of asked runs.0 new runs.2))) core
      (rooms_there asked runs.0 new runs.2 (subst (λ (c : Core). HasRoomThere c) (sym core) (room_behind old.cluster.core runs.1.runs.events few runs.1.runs.does.rooms))))
    where
      core : runs.0.cluster.core ≡ steps old.cluster.core runs.1.runs.events
      core = runs.1.runs.does.core refl

      kept_then : (c : Core) (es fs : Events) → KeepsRecordRoom c es → KeepsRecordRoom (steps c es) fs → KeepsRecordRoom c (es ++ fs)
      kept_then c [] fs k l = l
      kept_then c (e ∷ es) fs k l = (k.0, kept_then (step e.0 e.1 c) es fs k.1 l)

-- ---- all of it

-- what hs_deeds says of lines behind a book
abbrev pub LinesLeave : Type 0
LinesLeave = (set : Setting) (found : Found) (name : List ℕ → Address) (turns : Events) (book : Book) (lines : List AskedLine) → OpensSoundly set found → GoesToEnd name set found turns book lines
    → (steps book.core (events_of lines)).ended ≡ None → LeavesDeeds set.limits (hollow (store_with (opened_folds set found) [])) (steps book.core (events_of lines))

module _ (law : LinesLeave) (memory : FoldsInMemory) (tells : Type 0) (load : Load) (before : ℕ) (old new : List DiskSeen) (h : Handed) (c : Close) (d : DoneBy tells load before old new h c) where
  abbrev book : Book
  book = d.works.book

  opens : Opens tells load.set (record { before = before; now = d.now; old = old; new = d.disks }) d.running (Ok tt)
  opens = opens_found tells load.set (record { before = before; now = d.now; old = old; new = d.disks }) d.running (Ok tt) d.opened

  turned : d.running.core ≡ steps (first_core load.set opens.found) opens.events
  turned = opens.core refl

  led : History d.running.core d.works.book
  led = d.works.led (ap is_out_of_memory d.same.going)

  going : d.works.book.core.ended ≡ None
  going = sym led.ended ∙ d.same.going

  abbrev lines : List AskedLine
  lines = lines_of tells load.set.name last_lines (begun_at book d.works.team d.works.left d.runs.now) d.runs.end d.runs.runs

  last_is : d.works.last ≡ steps d.works.book.core (events_of lines)
  last_is = d.runs.last ∙ core_there tells load.set.name last_lines (begun_at book d.works.team d.works.left d.runs.now) d.runs.end d.runs.runs

  last_goes : d.works.last.ended ≡ None
  last_goes = ap (λ (x : Core). x.ended) d.runs.last ∙ going_there tells load.set.name last_lines (begun_at book d.works.team d.works.left d.runs.now) d.runs.end d.runs.runs going

  module _ (o : OpensSoundly load.set opens.found) where
    few : HasRoomThere (first_core load.set opens.found)
    few on = first_room load.set opens.found memory o.sound

    few_turned : HasRoomThere (steps (first_core load.set opens.found) opens.events)
    few_turned = room_behind (first_core load.set opens.found) opens.events few opens.rooms

    led_there : History (steps (first_core load.set opens.found) opens.events) d.works.book
    led_there = subst (λ (x : Core). History x book) turned led

    few_joined : HasRoomThere d.works.book.core
    few_joined = subst (λ (x : Core). HasRoomThere x) (sym led_there.led) (room_of_book (steps (first_core load.set opens.found) opens.events) led_there.events few_turned led_there.may)

    goes : GoesToEnd load.set.name load.set opens.found opens.events d.works.book lines
    goes = record {
      turned = opens.due;
      until = d.now;
      rises = subst (λ (m : ℕ). MomentsRise m opens.events d.now) (sym (moment_opens load.set.shape load.set.limits (opens_with load.set opens.found) opens.found.opened (first_core load.set opens.found) refl)) opens.rises;
      opened = room_kept (first_core load.set opens.found) opens.events few opens.rooms;
      room = few_turned;
      led = led_there;
      last = are_last tells load.set.name last_lines (begun_at book d.works.team d.works.left d.runs.now) d.runs.end d.runs.runs (tt, (refl, (tt, (refl, (tt, tt))))) going;
      begun = d.runs.now;
      end = d.runs.end.now;
      later = d.runs.later;
      rise = rise_there tells load.set.name last_lines (begun_at book d.works.team d.works.left d.runs.now) d.runs.end d.runs.runs;
      kept = rooms_there tells load.set.name last_lines (begun_at book d.works.team d.works.left d.runs.now) d.runs.end d.runs.runs few_joined;
    }

    abbrev start : Store
    start = hollow (store_with (opened_folds load.set opens.found) [])

    left : LeavesDeeds load.set.limits (hollow (store_with (opened_folds load.set opens.found) [])) d.works.last
    left = subst (λ (x : Core). LeavesDeeds load.set.limits start x) (sym last_is)
        (law load.set opens.found load.set.name opens.events book lines o goes (subst (λ (x : Core). x.ended ≡ None) last_is last_goes))

    store : LeavesStore load.set.limits (hollow (store_with (opened_folds load.set opens.found) [])) d.works.last.journal (blocks_in d.works.last) (roots_in d.works.last)
    store = record {
      deeds = left.deeds;
      blocks = ap (λ (s : Store). length s.blocks) left.left ∙ left.blocks;
      roots = ap (λ (s : Store). count_by (λ root. is_none root.dropped) s.roots) left.left ∙ left.roots;
      reached = subst (λ (s : Store). EachIsReached s) (sym left.left) (reached_same (plain_store d.works.last) (as_sessions d.works.last.sessions) d.tallied.reached);
    }

  pub store_left : SumsUpStore tells load before old h c
  store_left = record {
    sums = sums_up tells load before old new h c d;
    found = opens.found;
    disks = opens.disks;
    slots = opens.begun.logs;
    finds = opens.finds;
    at_entry = λ told calm.
        opens_with_entry tells load.set (record { before = before; now = opens.found.opened; old = old; new = opens.disks }) opens.found opens.begun.logs opens.finds told d.opened.begins.shape d.opened.begins.disks
        (still_none (first_core load.set opens.found) opens.events (ap (λ (x : Core). x.ended) (sym turned) ∙ still_goes d.running.core.ended (opens.outcome refl))) calm;
    leaves = λ told names sound. subst (λ (journal : List JournalEntry). LeavesStore load.set.limits (hollow (store_with (opened_folds load.set opens.found) [])) journal (blocks_in d.works.last) (roots_in d.works.last)) (sym (ap (λ (z : Handed). z.journal) d.works.hands))
        (store (opens_soundly tells load.set (record { before = before; now = opens.found.opened; old = old; new = opens.disks }) opens.found opens.begun.logs opens.finds told names d.opened.begins.shape sound));
  }
