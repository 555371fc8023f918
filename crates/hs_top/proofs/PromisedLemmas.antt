-- What is promised of a run, from what hs_run says of it and the laws.
use Rattle.std.proofs.Common.{◌≡◌, ◌∙◌, inl, inr, ap, refl, true, ℕ, ◌*◌, ◌<◌, arith, Option, Some, None, length}
use Rattle.std.specs.Prelude.{IfSome}
use Rattle.hs_settled.specs.Printing.{FailsInOpening, FailsInText, LeavesUnread}
use Rattle.hs_clauses.proofs.CopiesShownLemmas.{shown_moments}
use Rattle.hs_clauses.proofs.FoundLemmas.{opens_good}
use Rattle.hs_clauses.proofs.ShownLemmas.{shown_of, unopened_of}
use Rattle.hs_clauses.specs.Shown.{HasItsDisks, IsShownRun, OnDisks, ShownAs}
use Rattle.hs_clauses.specs.Stopped.{IsShownByMoments, MayLosePeers, ShownOf}
use Rattle.hs_standing.specs.Held.{GivesAddresses}
use Rattle.hs_journal.specs.Events.{client_op}
use Rattle.hs_model.specs.declared.command.Command.{Command}
use Rattle.hs_promise.specs.Answers.{Prints}
use Rattle.hs_promise.specs.Calm.{RisesAreTold}
use Rattle.hs_promise.specs.Causes.{Cause}
use Rattle.hs_promise.specs.declared.status.Status.TheVariants as status
use Rattle.hs_promise.specs.Entry.{MayStop, entry_store, is_aside}
use Rattle.hs_promise.specs.Lost.{NotesCause}
use Rattle.hs_promise.specs.Machine.{WentAs}
use Rattle.hs_promise.specs.Untold.{IsGoodUntold}
use Rattle.hs_promise.specs.Run.{Ran, Script}
use Rattle.hs_promise.specs.Stops.{Stops}
use Rattle.hs_promise.specs.Story.{Story}
use Rattle.hs_run.proofs.CaseLemmas.{if_told}
use Rattle.hs_run.specs.Machine.{HasItsEnd, HasReadDisks, IsOfCluster, IsUnopened, RunsOnDisks}
use Rattle.hs_top.proofs.FromEntryLemmas.{from_entry}
use Rattle.hs_top.proofs.LawLemmas.{Laws}
use Rattle.hs_top.proofs.NoteLemmas.{WhyAside, failed_by, never_aside, why_aside}
use Rattle.hs_top.proofs.RankLemmas.{ranked_by}
use Rattle.hs_top.proofs.PastLemmas.{never_past}
use Rattle.hs_top.specs.Calls.{Promised, PromisedAlone, PromisedWhereTold}

module _ (laws : Laws) (tells : Type 0) (S : Script) (r : Ran) (names : GivesAddresses S.set.name) (asked : r.ending ≡ status.Usage → ⊥) (cluster : IsOfCluster tells S r) where
  nobody : client_op (S.commands 0) ≡ None
  nobody = ap (λ (c : Option Command). client_op c) cluster.nobody

  -- ---- what stands whatever the objects tell

  unread : IfSome cluster.how (LeavesUnread S r)
  unread = if_told (HasItsEnd S r) (LeavesUnread S r) cluster.how cluster.ended (λ story ended. ended.unread)

  in_text : IfSome cluster.how (FailsInText S r)
  in_text = if_told (HasItsEnd S r) (FailsInText S r) cluster.how cluster.ended (λ story ended. ended.written)

  in_opening : IfSome cluster.how (FailsInOpening r)
  in_opening = if_told (HasItsEnd S r) (FailsInOpening r) cluster.how cluster.ended (λ story ended. ended.answered)

  prints : Prints S r
  prints = record {
    entries = laws.entries S r cluster.how cluster.went;
    fits = cluster.served.prints.fits;
    dated = laws.dated S r cluster.how cluster.went;
    nothing = λ none. laws.nothing S r cluster.how cluster.shape cluster.went unread none;
    printed = cluster.served.prints.printed;
    in_time = cluster.served.prints.in_time;
  }

  -- how long a peer is good
  good_by : (how : Option Story) → WentAs S r how → IsGoodUntold S r
  good_by None went = λ past m peer during low untold none its. absurd (never_past r went past)
  good_by (Some story) went = laws.good S r story went (λ one m peer above low start.
      let count : S.set.shape.shards * S.set.shape.copies ≡ S.set.shape.shards = ap (λ n. S.set.shape.shards * n) one ∙ omega arith in
      let within : peer < S.set.shape.shards * S.set.shape.copies = low in
      opens_good S r story went.found one m peer above (omega (arith, within, count)) start)

  -- no count rises of which nothing is told
  rises_by : (how : Option Story) → WentAs S r how → IfSome how (RunsOnDisks tells S r) → RisesAreTold S r
  rises_by None went runs = laws.rises_never S r went
  rises_by (Some story) went runs = laws.rises S r story went runs.untold

  -- ---- with one copy a shard

  module _ (one : S.set.shape.copies ≡ 1) where
    on : OnDisks S r
    on = record {
      shape = cluster.shape;
      one = one;
      names = names;
      nobody = nobody;
      disks = disks;
      left = cluster.served.handed_back ∙ disks;
    }
      where
        disks : length r.old.disks ≡ S.set.shape.shards
        disks = cluster.count ∙ ap (λ n. S.set.shape.shards * n) one ∙ omega arith

    cause : Cause S r r.ending
    cause = laws.cause S r cluster.how cluster.went (λ several. absurd (several one)) cluster.served.causes.read cluster.served.causes.write cluster.served.within

    -- ---- what stands where the disks tell

    module _ (told : tells) where
      shown_by : (how : Option Story) → WentAs S r how → IfSome how (HasReadDisks S r) → IfSome how (RunsOnDisks tells S r) → (how ≡ None → IsUnopened tells r) → ShownAs S r how
      shown_by None went read runs unopened =
          let u : IsUnopened tells r = unopened refl in
          unopened_of tells S r on u.span told u.before u.old.stands u.new.stands went (λ wanting. u.taken)
      shown_by (Some story) went read runs unopened =
          shown_of tells S r story on runs.span told runs.before runs.now runs.old.stands runs.new.stands runs.shown went read.read

      shown : ShownAs S r cluster.how
      shown = shown_by cluster.how cluster.went (cluster.told told) cluster.runs (cluster.unopened one)

      run : IsShownRun S r
      run = record { on = on; how = cluster.how; shown = shown }

      aside_by : (how : Option Story) → WentAs S r how → ShownAs S r how → (p : ℕ) → p < length r.old.disks → is_aside S r p ≡ true → WhyAside r p
      aside_by None went so p low is = never_aside S r went p is
      aside_by (Some story) went so p low is = why_aside S r story on so p low is

      notes_by : (how : Option Story) → WentAs S r how → IfSome how (HasReadDisks S r) → IfSome how (RunsOnDisks tells S r) → ShownAs S r how → NotesCause S r
      notes_by None went read runs so = laws.notes_never S r went cluster.served.counts.disks
      notes_by (Some story) went read runs so =
          laws.notes S r story went read.read (runs.lost told) (λ going. failed_by laws S r story on so going tells told runs) (λ several. absurd (several one))

      where_told : PromisedWhereTold S r
      where_told = record {
        past = cluster.served.past one told;
        aside = aside_by cluster.how cluster.went shown;
        notes = notes_by cluster.how cluster.went (cluster.told told) cluster.runs shown;
      }

    promised_alone : PromisedAlone tells S r
    promised_alone = record {
      cause = cause;
      notes_end = laws.notes_end S r cluster.how one cluster.went;
      told = where_told;
    }

  -- ---- a stop, with any number of copies

  module _ (told : tells) (may : MayStop S r) where
    its_disks : HasItsDisks S r
    its_disks = record { shape = cluster.shape; names = names; nobody = nobody; disks = cluster.count }

    moments_by : (how : Option Story) → WentAs S r how → IfSome how (HasReadDisks S r) → IfSome how (RunsOnDisks tells S r) → IfSome how (HasItsEnd S r) → ShownOf S r how
    moments_by None went read runs ended = went
    moments_by (Some story) went read runs ended =
        shown_moments tells S r story runs.span told runs.before runs.now runs.old.stands runs.new.stands runs.shown may.none.called (runs.since told) went read.read ended.answered

    by_moments : IsShownByMoments S r
    by_moments = record {
      on = its_disks;
      left = cluster.served.handed_back ∙ cluster.count;
      how = cluster.how;
      shown = moments_by cluster.how cluster.went (cluster.told told) cluster.runs cluster.ended;
    }

    stops : MayLosePeers S r → Stops S (entry_store S r) r
    stops (inl one) = laws.stops S r (run one told) (cluster.served.headers told) may
    stops (inr keeps) = laws.stops_copies S r by_moments (cluster.served.headers told) may keeps

  pub promised_of : Promised tells S r
  promised_of = record {
    script = cluster.script;
    handed_back = cluster.served.handed_back;
    prints = prints;
    prompt = laws.prompt S r cluster.how nobody cluster.went in_text;
    time = cluster.served.time;
    counts = cluster.served.counts;
    no_load = cluster.served.no_load;
    cause = laws.any_cause S r cluster.how cluster.went cluster.served.causes.read cluster.served.causes.write cluster.served.within;
    lost = λ told. laws.cause S r cluster.how cluster.went (λ several. ranked_by S r cluster.how cluster.shape cluster.went (cluster.told told)) cluster.served.causes.read cluster.served.causes.write cluster.served.within;
    calm = record { told = rises_by cluster.how cluster.went cluster.runs; other = cluster.served.others };
    ordered = laws.ordered S r cluster.how nobody cluster.went;
    none_good = λ none. laws.none_good S r cluster.how cluster.went cluster.shape in_opening none;
    good = good_by cluster.how cluster.went;
    ends = cluster.served.ends;
    shape = cluster.served.shape;
    headers = cluster.served.headers;
    from_entry = λ told behind sound. from_entry laws tells S r names cluster told behind sound asked;
    stops = λ told may keeps. stops told may keeps;
    alone = promised_alone;
  }
