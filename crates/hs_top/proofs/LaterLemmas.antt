-- A run as it is seen one moment later: it is shown so too.
use Rattle.std.proofs.Common.{◌≡◌, ◌∙◌, inl, inr, ap, sym, subst, refl, ℕ, ◌+◌, ◌<◌, ◌&&◌, ◌==◌, arith, Bool, true, List, [], ◌∷◌, Option, Some, None, length, filter, if◌then◌else◌}
use Rattle.std.proofs.lemmas.Bool.{cases_lt}
use Rattle.std.proofs.lemmas.List.Elements.{All-weaker}
use Rattle.std.specs.Prelude.{IfSome}
use Rattle.hs_clauses.proofs.ShownLemmas.{shown_of, unopened_of}
use Rattle.hs_clauses.specs.Shown.{IsShownRun, OnDisks, ShownAs}
use Rattle.hs_cluster.proofs.RunLemmas.{runs_later}
use Rattle.hs_cluster.specs.RunsOn.{RunsOn}
use Rattle.hs_core_words.specs.State.{Core}
use Rattle.hs_events.specs.Commands.{LineAt}
use Rattle.hs_events.specs.Course.{steps}
use Rattle.hs_events.specs.Due.{Events, MomentsRise, is_walk, next_turn}
use Rattle.hs_events.specs.Found.{first_core}
use Rattle.hs_events.specs.Taken.{taken_items}
use Rattle.hs_fold.specs.Shards.Setting.{Numbered}
use Rattle.hs_model.specs.declared.course.CourseItem.{CourseItem}
use Rattle.hs_model.specs.declared.course.CourseItem.TheVariants as item
use Rattle.hs_ports.specs.declared.disk.Side.{Side}
use Rattle.hs_ports.specs.Disk.{IsImage, Loose, Standing}
use Rattle.hs_ports.specs.Moments.{disk_at}
use Rattle.hs_promise.specs.Ending.{ending_of}
use Rattle.hs_promise.specs.Entry.{MayStop, counted_course, entry_logs, is_aside, logs_from, still_counts}
use Rattle.hs_promise.specs.Found.{HasFound, IsLostBefore}
use Rattle.hs_promise.specs.Headers.{IsOwnAtEntry, KeepsHeaders}
use Rattle.hs_promise.specs.Lines.{AreLines, IsBegunLine, IsOnTime}
use Rattle.hs_promise.specs.Machine.{NeverOpened, Went, WentAs, opening_is_whole}
use Rattle.hs_promise.specs.Run.{Ran, Script}
use Rattle.hs_promise.specs.Story.{Story, all_events}
use Rattle.hs_run.proofs.RiseLemmas.{rise_on}
use Rattle.hs_run.specs.Machine.{HasReadDisks, IsOfCluster, IsUnopened, RunsOnDisks}
use Rattle.hs_side.specs.Current.{list_in}
use Rattle.hs_sound.specs.Stay.{AreSoundAlong}
use Rattle.hs_events.specs.Taken.{taken_lists}

-- ---- the run, with one moment more in which nothing is done

abbrev pub later : Ran → Ran
later r = record r { new = record r.new { moment = r.new.moment + 1 } }

-- at moments behind its last call a disk has what it may leave now
abbrev pub LeaveSince : List Standing → Type 0
LeaveSince disks = (peer : ℕ) (side : Side) (m : ℕ) → (disk_at disks peer).last < m → (disk_at disks peer).past m side ≡ (disk_at disks peer).loose side

module _ (S : Script) (r : Ran) where
  -- ---- what counted at entry is the same

  logs_later : (peer : ℕ) (disks : List Standing) → logs_from S (later r) peer disks ≡ logs_from S r peer disks
  logs_later peer [] = refl
  logs_later peer (disk ∷ disks) = ap (λ (logs : List (Option Numbered)). (if is_aside S r peer then None else list_in disk.seen) ∷ logs) (logs_later (peer + 1) disks)

  entry_later : entry_logs S (later r) ≡ entry_logs S r
  entry_later = logs_later 0 r.old.disks

  still_later : (i : CourseItem) → still_counts (later r) i ≡ still_counts r i
  still_later (item.Good peer moment) = refl
  still_later (item.Bad peer moment) = refl
  still_later (item.Begun line moment) = refl
  still_later (item.Took shard number moment) = refl

  pub counted_later : counted_course S (later r) ≡ counted_course S r
  counted_later = λ k. if (ending_of r.ending).wanting && length r.course == 0 then filter (λ i. still_later i k) (taken_items S.set.shape (entry_later k) r.old.moment) else r.course

  pub may_later : MayStop S r → MayStop S (later r)
  may_later may = record {
    sound = subst (λ (logs : List (Option Numbered)). AreSoundAlong S.set (taken_lists S.set.shape logs)) (sym entry_later) may.sound;
    one = may.one;
    none = may.none;
  }

  -- ---- how it went

  time_later : (at : LineAt) (es : Events) → IsOnTime r at es → IsOnTime (later r) at es
  time_later at [] h = h
  time_later at (e ∷ es) h = h

  begun_later : (at : LineAt) → IsBegunLine S r at → IsBegunLine S (later r) at
  begun_later at h = record {
    going = h.going;
    printed = record { on_time = time_later at at.events h.printed.on_time; rest = h.printed.rest; put = h.printed.put };
    events = h.events;
  }

  lines_later : (line : ℕ) (core : Core) (lines : List Events) → AreLines S r line core lines → AreLines S (later r) line core lines
  lines_later line core [] h = h
  lines_later line core (es ∷ []) h = begun_later (record { line = line; core = core; events = es; whole = (ending_of r.ending).past }) h
  lines_later line core (es ∷ next ∷ rest) h =
      (begun_later (record { line = line; core = core; events = es; whole = true }) h.0, lines_later (line + 1) (steps core es) (next ∷ rest) h.1)

  whole_later : (lines : List Events) → opening_is_whole (later r) lines ≡ opening_is_whole r lines
  whole_later [] = refl
  whole_later (first ∷ rest) = refl

  lost_later : (story : Story) (lost : ℕ × ℕ) → IsLostBefore S r story lost → IsLostBefore S (later r) story lost
  lost_later story lost h = record { taken = h.taken; bad = h.bad; later = h.later; before = h.before }

  found_later : (story : Story) → HasFound S r story → HasFound S (later r) story
  found_later story h = record {
    logs = h.logs;
    goods = h.goods;
    later = h.later;
    lost = All-weaker (IsLostBefore S r story) (IsLostBefore S (later r) story) (lost_later story) story.found.lost h.lost;
    once = h.once;
    all_lost = h.all_lost;
    kept = h.kept;
    aside = h.aside;
  }

  pub went_later : (story : Story) → Went S r story → Went S (later r) story
  went_later story h = record {
    found = found_later story h.found;
    opening = ap (λ (w : Bool). is_walk next_turn w 0 (first_core S.set story.found) story.opening) (whole_later story.lines) ∙ h.opening;
    lines = lines_later 1 (steps (first_core S.set story.found) story.opening) story.lines h.lines;
    line = h.line;
    rises = rise_on story.found.opened r.new.moment (r.new.moment + 1) (all_events story) (omega arith) h.rises;
    journal = h.journal;
    refused = h.refused;
    course = h.course;
    ends = h.ends;
    failed = h.failed;
  }

  pub never_later : NeverOpened r → NeverOpened (later r)
  never_later h = record {
    scripted = h.scripted;
    cause = h.cause;
    journal = h.journal;
    refused = h.refused;
    course = h.course;
    line = h.line;
    unread = h.unread;
    unput = h.unput;
  }

  -- ---- what is shown of it

  on_later : OnDisks S r → OnDisks S (later r)
  on_later on = record { shape = on.shape; one = on.one; names = on.names; nobody = on.nobody; disks = on.disks; left = on.left }

  module _ (tells : Type 0) where
    pub runs_on : (story : Story) → Went S r story → (h : RunsOnDisks tells S r story) → RunsOn tells S.set (record h.span { now = r.new.moment + 1 }) story.found (all_events story)
    runs_on story went h =
        runs_later tells S.set story.found h.span.before h.span.now (r.new.moment + 1) h.span.old h.span.new h.span.disks h.span.left (all_events story)
        (let now = h.now in omega (arith, now))
        (subst (λ (m : ℕ). MomentsRise story.found.opened (all_events story) m) (sym h.now) went.rises)
        (λ t. subst (λ (ds : List Standing). LeaveSince ds) (sym h.new.stands) (h.since t)) h.shown

  module _ (tells : Type 0) (told : tells) (on : OnDisks S r) where
    shown_by : (how : Option Story) → WentAs S r how → IfSome how (HasReadDisks S r) → IfSome how (RunsOnDisks tells S r) → (how ≡ None → IsUnopened tells r) → ShownAs S (later r) how
    shown_by None went read runs unopened =
        let u : IsUnopened tells r = unopened refl in
        unopened_of tells S (later r) (on_later on) u.span told u.before u.old.stands u.new.stands (never_later went) (λ wanting. u.taken)
    shown_by (Some story) went read runs unopened =
        shown_of tells S (later r) story (on_later on) (record runs.span { now = r.new.moment + 1 }) told runs.before refl runs.old.stands runs.new.stands
        (runs_on tells story went runs) (went_later story went) read.read

    since_by : (how : Option Story) → IfSome how (RunsOnDisks tells S r) → (how ≡ None → IsUnopened tells r) → LeaveSince r.new.disks
    since_by None runs unopened = (unopened refl).since told
    since_by (Some story) runs unopened = runs.since told

    pub run_later : (cluster : IsOfCluster tells S r) → IsShownRun S (later r)
    run_later cluster = record {
      on = on_later on;
      how = cluster.how;
      shown = shown_by cluster.how cluster.went (cluster.told told) cluster.runs (cluster.unopened on.one);
    }

    pub since_end : IsOfCluster tells S r → LeaveSince r.new.disks
    since_end cluster = since_by cluster.how cluster.runs (cluster.unopened on.one)

    -- what a stop leaves behind the end is left one moment later
    pub headers_later : IsOfCluster tells S r → MayStop S r → KeepsHeaders S (later r)
    headers_later cluster may = record {
      each = λ m peer during own image here. elim (cases_lt r.new.moment m) [
        | inl above ↦ (cluster.served.headers told).behind peer (entry own) image
            (λ side. subst (λ (l : Loose). IsImage l (image side)) (since_end cluster peer side m (let last = (cluster.served.past on.one told).called peer own.called in omega (arith, last, above))) (here.sides side))
        | inr up ↦ (cluster.served.headers told).each m peer (record { above = during.above; up_to = up; early = during.early }) (entry own) image here
      ];
      behind = λ peer own image stands. (cluster.served.headers told).behind peer (entry own) image stands;
    }
      where
        entry : {peer : ℕ} → IsOwnAtEntry S (later r) peer → IsOwnAtEntry S r peer
        entry own = record { within = own.within; called = own.called; leaves = own.leaves }
