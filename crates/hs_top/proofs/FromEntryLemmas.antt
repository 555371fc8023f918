-- What is promised of a run from the store at entry, with any number of copies, where the disks tell and are sound.
use Rattle.std.proofs.Common.{◌≡◌, ap, refl, ℕ, List, Option, Some, None}
use Rattle.std.proofs.lemmas.Bool.{false≢true}
use Rattle.std.specs.Prelude.{IfSome, IsSome}
use Rattle.hs_clauses.proofs.AsideLemmas.{each_taken, set_aside, tells_down}
use Rattle.hs_clauses.proofs.CostLemmas.{costs_of}
use Rattle.hs_clauses.proofs.ToldRunLemmas.{told_of}
use Rattle.hs_clauses.specs.Shown.{HasItsDisks, IsBehindAtEntry, IsToldAs, IsToldRun, RunsSoundly, ToldAs}
use Rattle.hs_cluster.specs.Counts.{AreAllCounted}
use Rattle.hs_desk.specs.declared.fault.CoreFault.{CoreFault}
use Rattle.hs_events.specs.Found.{first_core}
use Rattle.hs_journal.specs.Events.{client_op}
use Rattle.hs_model.specs.declared.command.Command.{Command}
use Rattle.hs_promise.specs.Causes.{Cause}
use Rattle.hs_promise.specs.Completes.{EndsWell, FullBeyond, MayEndWell, SettlesEach}
use Rattle.hs_promise.specs.declared.status.Status.TheVariants as status
use Rattle.hs_promise.specs.Deletes.{Deletes}
use Rattle.hs_promise.specs.Ends.{Ends}
use Rattle.hs_promise.specs.Entry.{IsSoundAtEntry, entry_store}
use Rattle.hs_promise.specs.Lost.{NotesCause}
use Rattle.hs_promise.specs.Machine.{WentAs}
use Rattle.hs_promise.specs.Promise.{Clauses}
use Rattle.hs_promise.specs.Run.{Ran, Script}
use Rattle.hs_promise.specs.Story.{Story, all_events}
use Rattle.hs_run.proofs.DisksLemmas.{aside_as}
use Rattle.hs_run.specs.Machine.{HasReadDisks, IsOfCluster, RunsOnDisks}
use Rattle.hs_script.specs.Reading.{commands}
use Rattle.hs_settled.specs.Ending.{HasItsCause}
use Rattle.hs_standing.specs.Held.{GivesAddresses}
use Rattle.hs_top.proofs.LawLemmas.{Laws}
use Rattle.hs_top.proofs.NoteLemmas.{aside_caused}
use Rattle.hs_top.proofs.RankLemmas.{ranked_by}
use Rattle.hs_top.proofs.SettleLemmas.{no_line, settles_none}
use Rattle.hs_top.specs.Calls.{FromEntry}

module _ (laws : Laws) (tells : Type 0) (S : Script) (r : Ran) (names : GivesAddresses S.set.name) (cluster : IsOfCluster tells S r) (told : tells) (behind : IsBehindAtEntry S r) where
  its_disks : HasItsDisks S r
  its_disks = record { shape = cluster.shape; names = names; nobody = ap (λ (c : Option Command). client_op c) cluster.nobody; disks = cluster.count }

  told_by : (how : Option Story) → WentAs S r how → IfSome how (HasReadDisks S r) → IfSome how (RunsOnDisks tells S r) → ToldAs S r how
  told_by None went read runs = went
  told_by (Some story) went read runs = told_of tells S r story runs.span told runs.before runs.old.stands runs.shown behind went read.read

  tells_all : ToldAs S r cluster.how
  tells_all = told_by cluster.how cluster.went (cluster.told told) cluster.runs

  pub run : IsToldRun S r
  run = record { on = its_disks; how = cluster.how; told = tells_all }

  module _ (sound : IsSoundAtEntry S r) where
    -- a run whose core goes on behind its opening
    soundly : (story : Story) → IsToldAs S r story → (first_core S.set story.found).ended ≡ None → RunsSoundly S r story
    soundly story so going = laws.soundly S r story its_disks so sound going

    deletes_by : (how : Option Story) → ToldAs S r how → Deletes S (entry_store S r) r
    deletes_by None never = laws.deletes_never S r never
    deletes_by (Some story) so = go (first_core S.set story.found).ended refl
      where
        go : (o : Option CoreFault) → (first_core S.set story.found).ended ≡ o → Deletes S (entry_store S r) r
        go None going = let s = soundly story so going in laws.deletes S r story so.went s.begins (laws.events S r story s)
        go (Some fault) ended = laws.deletes_ended S r story fault so.went ended

    settles_by : (how : Option Story) → ToldAs S r how → SettlesEach S (entry_store S r) r
    settles_by None never = settles_none S (entry_store S r) r cluster.nobody never.line
    settles_by (Some story) so = go (first_core S.set story.found).ended refl
      where
        go : (o : Option CoreFault) → (first_core S.set story.found).ended ≡ o → SettlesEach S (entry_store S r) r
        go None going = let s = soundly story so going in laws.settles S r story so.went cluster.nobody s.begins (laws.events S r story s) (laws.answers S r run sound)
        go (Some fault) ended = settles_none S (entry_store S r) r cluster.nobody (no_line S r story fault so.went ended)

    -- ---- where the journal is full, and how a run without faults ends

    room_by : (how : Option Story) → ToldAs S r how → FullBeyond S r
    room_by None never = laws.room_never S r never
    room_by (Some story) so = go (first_core S.set story.found).ended refl
      where
        go : (o : Option CoreFault) → (first_core S.set story.found).ended ≡ o → FullBeyond S r
        go None going = laws.room S r story (soundly story so going)
        go (Some fault) ended = laws.room_ended S r story fault so.went ended

    beyond : FullBeyond S r
    beyond = room_by cluster.how tells_all

    -- ---- how often peers are told to be down

    notes_by : (how : Option Story) → WentAs S r how → ToldAs S r how → IfSome how (HasReadDisks S r) → IfSome how (RunsOnDisks tells S r) → NotesCause S r
    notes_by None went so read runs = laws.notes_never S r went cluster.served.counts.disks
    notes_by (Some story) went so read runs =
        laws.notes S r story went read.read (runs.lost told) (λ going. runs.failed told (counted going))
        (λ several going peer low bad. record {
          told = aside_as tells S r story runs told (counted going) peer low bad;
          aside = λ untaken. set_aside S r story went cluster.shape (each_taken S story.found cluster.shape went.found.logs went.found.kept going) (tells_down S r story went cluster.shape going) peer low untaken bad;
        })
      where
        counted : (first_core S.set story.found).ended ≡ None → AreAllCounted (first_core S.set story.found) (all_events story) runs.shown.disks runs.span.left
        counted going = costs_of tells S r story runs.span told runs.before runs.old.stands runs.shown behind (soundly story so going).begins.soundly going

    notes : NotesCause S r
    notes = notes_by cluster.how cluster.went tells_all (cluster.told told) cluster.runs

    module _ (asked : r.ending ≡ status.Usage → ⊥) where
      cause : Cause S r r.ending
      cause = laws.cause S r cluster.how cluster.went (λ several. ranked_by S r cluster.how cluster.shape cluster.went (cluster.told told)) cluster.served.causes.read cluster.served.causes.write cluster.served.within

      its_cause : HasItsCause S r
      its_cause = record { cause = cause; asked = asked; shape = (cluster.served.shape told).only }

      ends_by : (old new : Option (List ℕ)) → IfSome old (λ script. (n : ℕ) → S.commands n ≡ commands script n) → IfSome old (λ script. IfSome new (Ends r script))
          → (IsSome old → IsSome new) → IfSome old (λ script. MayEndWell S script r → EndsWell S r)
      ends_by None new reads ends left = tt
      ends_by (Some script) None reads ends left = absurd (false≢true (left refl))
      ends_by (Some script) (Some rest) reads ends left = λ may. laws.ends_well S r script rest reads its_cause ends beyond may

      -- ---- all of it

      clauses : Clauses S r
      clauses = record {
        answers = laws.answers S r run sound;
        full = laws.full S r run sound;
        keeps = laws.keeps S r run sound;
        deletes = deletes_by cluster.how tells_all;
        settles = settles_by cluster.how tells_all;
        room = beyond;
        ends = ends_by r.old.left r.new.left cluster.script cluster.served.ends cluster.served.left;
      }

      pub from_entry : FromEntry S r
      from_entry = record { clauses = clauses; notes = notes; aside = aside_caused S r notes }
