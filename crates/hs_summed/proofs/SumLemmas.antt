-- What a load that is done was put by, case by case.
use Rattle.std.proofs.Common.{◌≡◌, ◌∙◌, ◌+◌, ◌-◌, ◌<◌, ◌++◌, ◌&&◌, ℕ, Bool, true, false, cond, if◌then◌else◌, List, [], ◌∷◌, Option, None, Result, Ok, IfOk, refl, sym, ap, subst, arith, append_assoc}
use Rattle.std.proofs.lemmas.List.{append-nil}
use Rattle.std.proofs.lemmas.Option.{get_or_from_slice_get}
use Rattle.std.specs.List.{count_by, list_any}
use Rattle.std.specs.Prelude.{slice_index_or}
use Rattle.hs_book.specs.Book.{Book}
use Rattle.hs_cluster.specs.Begins.{HasOpened}
use Rattle.hs_cluster.specs.declared.fault.ClusterFault.{ClusterFault}
use Rattle.hs_cluster.specs.declared.fault.ClusterFault.TheVariants as cluster
use Rattle.hs_cluster.specs.Running.{Running}
use Rattle.hs_core_words.specs.State.{Core}
use Rattle.hs_desk.specs.declared.fault.CoreFault.{CoreFault}
use Rattle.hs_desk.specs.declared.fault.CoreFault.TheVariants as core
use Rattle.hs_events.specs.Course.{steps}
use Rattle.hs_events.specs.Due.{Events}
use Rattle.hs_journal.specs.declared.entry.JournalEntry.{JournalEntry}
use Rattle.hs_limits.specs.declared.address.Address.{Address}
use Rattle.hs_load.specs.Compared.{answer_of, is_own, own_answers, own_from}
use Rattle.hs_load.specs.Judged.{AreSame, Ended, HaveWorked, IsJudged, IsTorn, Job, Load, Mismatched, Numbers, Team, TornAt, core_status, task_of}
use Rattle.hs_load.specs.Loaded.{AreSums, Close, Cut, Empty, EndsLoad, EndsTeam, EndsWork, Full, Handed, Judged, Put, PutsSummary, RunsAll, RunsLast, Shut, Stand, Summed, Unopened, Unagreed, Unfit, Unput, Unsummed, Unworked, Wanting, Worked, Works, begun_at, cluster_status, last_lines}
use Rattle.hs_load.specs.Owners.{is_of}
use Rattle.hs_load.specs.Tallied.{HasTallied, blocks_in, is_deletion, roots_in, runs_at}
use Rattle.hs_load.specs.Team.{sessions_of}
use Rattle.hs_model.proofs.CountLemmas.{count-cons}
use Rattle.hs_model.specs.declared.command.Command.{Command}
use Rattle.hs_model.specs.declared.deed.Deed.{Deed}
use Rattle.hs_moments.proofs.JournalLemmas.{journal_after}
use Rattle.hs_moments.specs.Answers.{added}
use Rattle.hs_core_words.specs.Step.{step}
use Rattle.hs_peerlog.specs.Lists.{Keeping}
use Rattle.hs_ports.specs.Sink.{bytes_of, followed}
use Rattle.hs_promise.specs.declared.load.Kept.{Kept}
use Rattle.hs_promise.specs.declared.status.Status.TheVariants as status
use Rattle.hs_script.specs.Summary.{summary_text}
use Rattle.hs_script.specs.declared.sums.WriterSum.{WriterSum}
use Rattle.hs_summed.specs.Summed.{IsSumOf, SumsUp}
use Rattle.hs_taking.specs.Disks.{DiskSeen}
use Rattle.hs_workers.specs.Asks.{KeptAnswer, drops_file, roots_file, sum_of}
use Rattle.hs_workers.specs.declared.fault.WorkFault.{WorkFault}

-- ---- counts of one's own answers

module _ (own does : Deed → Bool) where
  abbrev counted : List KeptAnswer → ℕ
  counted items = count_by (λ (item : KeptAnswer). does item.1) items

  abbrev entered : List JournalEntry → ℕ
  entered journal = count_by (λ (entry : JournalEntry). is_own own entry && does entry.deed) journal

  pub own_count : (place : ℕ) (journal : List JournalEntry) → counted (own_from own place journal) ≡ entered journal
  own_count place [] = refl
  own_count place (e ∷ es) = by (own_count (place + 1) es) (is_own own e) ∙ sym (count-cons (λ (entry : JournalEntry). is_own own entry && does entry.deed) e es)
    where
      zero_left : (n : ℕ) → n ≡ 0 + n
      zero_left n = omega arith

      by : counted (own_from own (place + 1) es) ≡ entered es → (b : Bool) → counted ((if b then answer_of place e ∷ [] else []) ++ own_from own (place + 1) es) ≡ cond (b && does e.deed) 1 0 + entered es
      by rest true = count-cons (λ (item : KeptAnswer). does item.1) (answer_of place e) (own_from own (place + 1) es) ∙ ap (λ n. cond (does e.deed) 1 0 + n) rest
      by rest false = rest ∙ zero_left (entered es)

-- ---- what a writer did

module _ (tells : Type 0) (load : Load) (slots : List (Option Keeping)) (disks left : List DiskSeen) (book : Book) (team : Team) (worked : HaveWorked tells (task_of load) slots disks left team) (same : AreSame load book team)
    (sums : List WriterSum) (are : AreSums sums load.writers team.ends) where
  nobody : Kept
  nobody = record { session = []; answers = []; fault = None }

  pub its_sum : (number : ℕ) (given : WriterSum) → number < load.writers → IsSumOf load.writers number book.core.journal (slice_index_or sums number given)
  its_sum number given low =
      let sum : WriterSum = slice_index_or sums number given in
      let end : slice_index_or team.ends number (Ok given) ≡ Ok sum = get_or_from_slice_get team.ends number (Ok sum) (Ok given) (are.1 number given low) in
      let asked = (worked.askers number nobody (Ok given) (omega (arith, low))).writer low in
      let is : sum ≡ sum_of (slice_index_or team.kept number nobody).answers = subst (λ (x : Result WriterSum WorkFault). IfOk x (λ z. z ≡ sum_of (slice_index_or team.kept number nobody).answers)) end asked.1 in
      let own : (slice_index_or team.kept number nobody).answers ≡ own_answers (is_of (sessions_of load.writers) number) book.core.journal = same.kept number nobody (let n = worked.kept in omega (arith, n, low)) in
      let all : sum ≡ sum_of (own_answers (is_of (sessions_of load.writers) number) book.core.journal) = is ∙ ap sum_of own in
      let rooted = own_count (is_of (sessions_of load.writers) number) roots_file 0 book.core.journal in
      let dropped = own_count (is_of (sessions_of load.writers) number) drops_file 0 book.core.journal in
      record {
        files = ap (λ (z : WriterSum). z.files) all ∙ rooted;
        kept = ap (λ (z : WriterSum). z.kept) all ∙ (λ i. rooted i - dropped i);
      }

-- ---- the journal goes on

steps_grow : (es : Events) (c : Core) → (more : List JournalEntry) × ((steps c es).journal ≡ c.journal ++ more)
steps_grow [] c = ([], sym (append-nil c.journal))
steps_grow (e ∷ es) c =
    let rest = steps_grow es (step e.0 e.1 c) in
    (added e.0 e.1 c ++ rest.0, rest.1 ∙ ap (λ j. j ++ rest.0) (journal_after e.0 e.1 c) ∙ append_assoc c.journal (added e.0 e.1 c) rest.0)

pub lines_grow : (tells : Type 0) (name : List ℕ → Address) (lines : List Command) (old new : Stand) → RunsAll tells name lines old new (Ok tt) → (more : List JournalEntry) × (new.cluster.core.journal ≡ old.cluster.core.journal ++ more)
lines_grow tells name [] old new runs = ([], ap (λ (z : Stand). z.cluster.core.journal) runs.0 ∙ sym (append-nil old.cluster.core.journal))
lines_grow tells name (line ∷ lines) old new runs =
    let mid = runs.0 in
    let one = steps_grow runs.1.runs.events old.cluster.core in
    let rest = lines_grow tells name lines mid new runs.2 in
    (one.0 ++ rest.0, rest.1 ∙ ap (λ j. j ++ rest.0) (runs.1.runs.does.journal ∙ one.1) ∙ append_assoc old.cluster.core.journal one.0 rest.0)

-- ---- how it ended

not_cluster : (f : ClusterFault) → cluster_status f ≡ status.Done → ⊥
not_cluster (cluster.WrongShape peer found) e = cc e
not_cluster (cluster.ShardLost shard) e = cc e
not_cluster cluster.OpsFull e = cc e
not_cluster cluster.NoMemory e = cc e

not_core : (f : CoreFault) → core_status f ≡ status.Done → ⊥
not_core core.OpsFull e = cc e
not_core (core.ShardLost shard) e = cc e
not_core core.NoMemory e = cc e

not_judged : (load : Load) (book : Book) (team : Team) → IsJudged load book team status.Done → ⊥
not_judged load book team (TornAt torn) = not_torn torn
  where
    not_torn : IsTorn book team.stored team.stops status.Done → ⊥
    not_torn (Job peer place number next at e) = cc e
    not_torn (Numbers peer place given at part e) = cc e
not_judged load book team (Ended f ended e none reported) = not_core f (sym e)
not_judged load book team (Mismatched d e going none reported mismatch) = cc e

-- a load that is done has worked, its last lines were run, and this was put
pub record DoneBy (tells : Type 0) (load : Load) (before : ℕ) (old new : List DiskSeen) (h : Handed) (c : Close) : Type 0 where
  pub now : ℕ
  pub running : Running
  pub disks : List DiskSeen
  pub opened : HasOpened tells load.set (record { before = before; now = now; old = old; new = disks }) running (Ok tt)
  pub works : Works tells load running.core running.logs disks new h c
  pub same : AreSame load works.book works.team
  pub runs : RunsLast tells load works.book works.team works.left new works.last (Ok tt)
  pub sums : List WriterSum
  pub are : AreSums sums load.writers works.team.ends
  pub tallied : HasTallied sums works.last works.book.core.progress.last_line
  pub put : bytes_of c.new ≡ followed (bytes_of c.old) (summary_text sums (roots_in works.last) (blocks_in works.last))

module _ (tells : Type 0) (load : Load) (h : Handed) (c : Close) (done : c.ending ≡ status.Done) (before : ℕ) (old new : List DiskSeen) where
  module _ (now : ℕ) (running : Running) (disks : List DiskSeen) (opened : HasOpened tells load.set (record { before = before; now = now; old = old; new = disks }) running (Ok tt)) where
    work_done : Works tells load running.core running.logs disks new h c → DoneBy tells load before old new h c
    work_done works = by works.ends
      where
        puts : AreSame load works.book works.team → RunsLast tells load works.book works.team works.left new works.last (Ok tt) → PutsSummary load.writers works.team.ends works.last works.book.core.progress.last_line c → DoneBy tells load before old new h c
        puts same runs (Unsummed e nothing) = absurd (cc (sym e ∙ done))
        puts same runs (Unagreed sums are differs e nothing) = absurd (cc (sym e ∙ done))
        puts same runs (Unput sums are tallied e front risen least) = absurd (cc (sym e ∙ done))
        puts same runs (Put sums are tallied e put least) =
            record { now = now; running = running; disks = disks; opened = opened; works = works; same = same; runs = runs; sums = sums; are = are; tallied = tallied; put = put }

        by : EndsWork tells load works.book works.team works.left new works.last c → DoneBy tells load before old new h c
        by (Wanting e nothing same left) = absurd (cc (sym e ∙ done))
        by (Unfit same unfit e nothing at left) = absurd (cc (sym e ∙ done))
        by (Judged rested judged nothing same left) = absurd (not_judged load works.book works.team (subst (λ s. IsJudged load works.book works.team s) done judged))
        by (Cut f same runs e nothing) = absurd (not_cluster f (sym e ∙ done))
        by (Summed same runs its) = puts same runs its

    team_done : EndsTeam tells load running.core running.logs disks new h c → DoneBy tells load before old new h c
    team_done (Unworked e nothing kept stored) = absurd (cc (sym e ∙ done))
    team_done (Worked works) = work_done works

  pub load_done : EndsLoad tells load before old new h c → DoneBy tells load before old new h c
  load_done (Unopened f closed falls e nothing handed) = absurd (not_cluster f (sym e ∙ done))
  load_done (Shut now running f opened e nothing handed) = absurd (not_cluster f (sym e ∙ done))
  load_done (Full now running opened some e nothing handed) = absurd (cc (sym e ∙ done))
  load_done (Empty now running disks opened blocks roots ends) = team_done now running disks opened ends

-- ---- what it put

abbrev pub sums_up : (tells : Type 0) (load : Load) (before : ℕ) (old new : List DiskSeen) (h : Handed) (c : Close) → DoneBy tells load before old new h c → SumsUp load.writers h c
sums_up tells load before old new h c d =
    let journal : h.journal ≡ d.works.last.journal = ap (λ (z : Handed). z.journal) d.works.hands in
    let grown = lines_grow tells load.set.name last_lines (begun_at d.works.book d.works.team d.works.left d.runs.now) d.runs.end d.runs.runs in
    record {
      sums = d.sums;
      last = d.works.last;
      joined = d.works.book.core.journal;
      more = grown.0;
      line = d.works.book.core.progress.last_line;
      put = d.put;
      count = d.are.0;
      each = its_sum tells load d.running.logs d.disks d.works.left d.works.book d.works.team d.works.worked d.same d.sums d.are;
      roots = d.tallied.roots;
      journal = journal;
      front = journal ∙ ap (λ (z : Core). z.journal) d.runs.last ∙ grown.1;
      deletions = ap (λ js. count_by is_deletion js) journal ∙ d.tallied.deletions;
      first = ap (λ js. list_any (λ entry. runs_at (d.works.book.core.progress.last_line + 2) entry) js) journal ∙ d.tallied.first;
      second = ap (λ js. list_any (λ entry. runs_at (d.works.book.core.progress.last_line + 4) entry) js) journal ∙ d.tallied.second;
    }
