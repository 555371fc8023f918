-- An asker that was opened.
use Rattle.std.specs.List.{AllByRecursion}
use Rattle.std.proofs.Common.{◌≡◌, ◌∙◌, ap, sym, subst, ℕ, ◌*◌, ◌≤◌, true, false, List, [], ◌∷◌, ◌++◌, Option, Some, None, Result, Ok, Err, refl, arith, drop, length, take}
use Rattle.std.proofs.lemmas.Bool.{false≢true}
use Rattle.std.proofs.lemmas.List.{append-nil, drop_all, take_all}
use Rattle.std.specs.Prelude.{IfSome, is_ok, ⊤}
use Rattle.hs_asking.specs.Asked.{IsOfNoLine}
use Rattle.hs_cluster.specs.Calls.{outcome_by, ran_out}
use Rattle.hs_cluster.specs.Disks.{AreReady, DiskSeen, stands_of}
use Rattle.hs_cluster.specs.Opens.{Opens}
use Rattle.hs_cluster.specs.Running.{Running}
use Rattle.hs_cluster.specs.RunsOn.{RunsOn, StandUntold}
use Rattle.hs_cluster.specs.declared.fault.ClusterFault.{ClusterFault}
use Rattle.hs_cluster.specs.declared.fault.ClusterFault.TheVariants as cluster
use Rattle.hs_desk.specs.declared.fault.CoreFault.{CoreFault}
use Rattle.hs_desk.specs.declared.fault.CoreFault.TheVariants as core
use Rattle.hs_events.specs.Due.{Events}
use Rattle.hs_fold.specs.Shards.Setting.{Setting}
use Rattle.hs_journal.specs.declared.entry.JournalEntry.{JournalEntry}
use Rattle.hs_limits.specs.Shape.{IsShape}
use Rattle.hs_limits.specs.declared.address.Address.{Address}
use Rattle.hs_model.specs.declared.command.Command.{Command}
use Rattle.hs_moments.specs.Moments.{Since}
use Rattle.hs_promise.specs.Found.{HasFound}
use Rattle.hs_promise.specs.Machine.{Went}
use Rattle.hs_promise.specs.Story.{all_events}
use Rattle.hs_promise.specs.declared.status.Status.{Status}
use Rattle.hs_script.specs.Text.{text}
use Rattle.hs_taking.specs.Shares.{Span as Taking}
use Rattle.hs_run.specs.Between.{Point}
use Rattle.hs_run.specs.Ended.{ran_at}
use Rattle.hs_run.specs.Going.{Begun, HasGone, HasShown, IsOpened, script_by, span_to, story_of}
use Rattle.hs_run.specs.Machine.{IsOfCluster}
use Rattle.hs_run.specs.OneLine.{IsOpeningPut}
use Rattle.hs_run.specs.Stopping.{end_of, status_of}
use Rattle.hs_run.specs.declared.stop.Stop.{Stop}
use Rattle.hs_run.specs.declared.stop.Stop.TheVariants as stop
use Rattle.hs_run.proofs.EndsLemmas.{no_shape}
use Rattle.hs_run.proofs.FoundLemmas.{opened_so}
use Rattle.hs_run.proofs.OpeningLemmas.{since_opened}
use Rattle.hs_run.proofs.TopLemmas.{opened_gone, opened_shown}
use Rattle.hs_run.proofs.WentLemmas.{went_unopened}
use Rattle.hs_run.proofs.WholeLemmas.{run_ready}
use Rattle.hs_asker.specs.Answer.{IsUpTo}
use Rattle.hs_asker.specs.Asked.{core_of}
use Rattle.hs_asker.specs.Going.{AtEntry, HasDone, HasStopped, IsAsker, IsGoing, begun_by, point_of}
use Rattle.hs_asker.specs.Silent.{silent, status_by}
use Rattle.hs_asker.proofs.DoneLemmas.{quiet}
use Rattle.hs_asker.proofs.EndsLemmas.{told_out}
use Rattle.hs_asker.proofs.HubLemmas.{found_so, hub, paid_so}
use Rattle.hs_asker.proofs.StopLemmas.{stops_between}

-- entries of no line are of no line behind any
pub none_up_to : (line : ℕ) (entries : List JournalEntry) → AllByRecursion IsOfNoLine entries → AllByRecursion (IsUpTo line) entries
none_up_to line [] h = tt
none_up_to line (x ∷ xs) h = ((λ n is. absurd (h.0 n is)), none_up_to line xs h.1)

-- nothing of what opening answered is put
opening_put : (did : Result ⊤ ClusterFault) (cluster : Running) (now : ℕ) → IsOpeningPut did cluster (record { before = now; now = now; old = None; new = None }) (end_of did (Ok tt))
opening_put did cluster now = record {
  put = Ok tt;
  puts = quiet now now (text cluster.core.journal) (omega arith);
  only = tt;
  ended = refl;
  some = λ is. absurd (not_err is);
}
  where
    not_err : ◌≡◌ {A = Result ⊤ Stop} (Ok tt) (Err stop.WriteFault) → ⊥
    not_err e = cc

-- the status of a core that has ended as it opened, where it is not of another store
status_same : (fault : ClusterFault) → (ran_out {T = ⊤} (Err fault) ≡ false → (o : Option CoreFault) × (Err fault ≡ outcome_by o)) → status_of (end_of (Err fault) (Ok tt)) 0 ≡ status_by (Some (core_of fault))
status_same (cluster.WrongShape peer found) told = let t = told refl in absurd (no_shape t.0 peer found t.1)
status_same (cluster.ShardLost shard) told = refl
status_same cluster.OpsFull told = refl
status_same cluster.NoMemory told = refl

module _ (tells : Type 0) (set : Setting) (span : Taking) (running : Running) (did : Result ⊤ ClusterFault) (opens : Opens tells set span running did) (since : tells → Since (stands_of span.new))
    (shape : IsShape set.shape) (count : length span.old ≡ set.shape.shards * set.shape.copies) (left : length span.new ≡ length span.old) where
  abbrev e : AtEntry
  e = record { set = set; moment = span.before; disks = span.old }

  abbrev b : Begun
  b = begun_by e opens.found opens.begun opens.events

  abbrev at : Point
  at = point_of span.now running span.new 0

  opened : IsOpened tells b did at
  opened = opened_so tells set span running did opens (silent span.before span.old) span.new None 0 refl refl since

  -- ---- its core goes on

  module _ (fine : is_ok did ≡ true) where
    fine_end : is_ok (end_of did (Ok tt)) ≡ true
    fine_end = go did fine
      where
        go : (r : Result ⊤ ClusterFault) → is_ok r ≡ true → is_ok (end_of r (Ok tt)) ≡ true
        go (Ok x) h = refl
        go (Err fault) h = absurd (false≢true h)

    gone : HasGone b [] [] at
    gone = opened_gone tells b did at at (end_of did (Ok tt)) refl refl opened refl fine_end (opening_put did running span.now)

    done : HasDone b [] [] at
    done = record { behind = gone.behind; going = gone.going; line = gone.line; each = refl; gone = λ commands asks. tt }

    shows : HasShown tells b [] at
    shows = opened_shown tells b did at at (end_of did (Ok tt)) refl refl opened fine_end (opening_put did running span.now)

    pub opened_going : running.core.members.shape ≡ set.shape → AreReady tells running.logs span.new → AllByRecursion IsOfNoLine running.core.journal → IsGoing tells e [] at
    opened_going same ready lines = record {
      found = opens.found;
      first = opens.begun;
      opening = opens.events;
      lines = [];
      done = done;
      shows = shows;
      ready = run_ready tells set span running did opens at refl refl (left ∙ count) same ready fine;
      up_to = none_up_to 0 running.core.journal lines;
    }

    -- there was no memory behind it
    pub opened_wanting : IsOfCluster tells (record { set = set; commands = λ n. None }) (ran_at (status_by (Some core.NoMemory)) 0 (Some running) (silent span.before span.old) (silent span.now span.new))
    opened_wanting = stops_between tells e opens.found opens.begun opens.events shape count (λ n. None) [] [] at (Some core.NoMemory) tt left refl (λ n c is. absurd (none_some c is)) done shows
      where
        none_some : (c : Command) → None ≡ Some c → ⊥
        none_some c is = cc

-- ---- it has ended as it opened

module _ (tells : Type 0) (set : Setting) (span : Taking) (running : Running) (fault : ClusterFault) (opens : Opens tells set span running (Err fault)) (since : tells → Since (stands_of span.new))
    (shape : IsShape set.shape) (count : length span.old ≡ set.shape.shards * set.shape.copies) (left : length span.new ≡ length span.old) where
  abbrev e' : AtEntry
  e' = record { set = set; moment = span.before; disks = span.old }

  abbrev b' : Begun
  b' = begun_by e' opens.found opens.begun opens.events

  abbrev at' : Point
  at' = point_of span.now running span.new 0

  opened' : IsOpened tells b' (Err fault) at'
  opened' = opened_so tells set span running (Err fault) opens (silent span.before span.old) span.new None 0 refl refl since

  shown' : RunsOn tells set (span_to b' at') opens.found (all_events (story_of b' []))
  shown' = subst (λ (es : Events). RunsOn tells set (span_to b' at') opens.found es) (sym (append-nil opens.events)) opened'.shown

  abbrev why : CoreFault
  why = core_of fault

  same : status_of (end_of (Err fault) (Ok tt)) 0 ≡ status_by (Some why)
  same = status_same fault (λ there. (running.core.ended, opened'.outcome there))

  went' : Went (script_by b' (λ n. None)) (ran_at (status_by (Some why)) 0 (Some running) (silent span.before span.old) (silent span.now span.new)) (story_of b' [])
  went' = subst (λ (s : Status). Went (script_by b' (λ n. None)) (ran_at s 0 (Some running) (silent span.before span.old) (silent span.now span.new)) (story_of b' [])) same
      (went_unopened tells b' (Err fault) at' (end_of (Err fault) (Ok tt)) 0 (silent span.now span.new) (record { before = span.now; now = span.now; old = None; new = None }) (λ n. None) opened' (omega arith) refl refl
      (opening_put (Err fault) running span.now)
      found_as
      (paid_so tells e' opens.found opens.begun opens.events (λ n. None) (Some why) 0 span.now running running span.new [] shown' since))
    where
      found_as : HasFound (script_by b' (λ n. None)) (ran_at (status_of (end_of (Err fault) (Ok tt)) 0) 0 (Some running) (silent span.before span.old) (silent span.now span.new)) (story_of b' [])
      found_as = subst (λ (s : Status). HasFound (script_by b' (λ n. None)) (ran_at s 0 (Some running) (silent span.before span.old) (silent span.now span.new)) (story_of b' [])) (sym same)
          (found_so tells e' opens.found opens.begun opens.events (λ n. None) (Some why) 0 span.now running running span.new [] shown' since)

  pub opened_ended : IsOfCluster tells (record { set = set; commands = λ n. None }) (ran_at (status_by (Some why)) 0 (Some running) (silent span.before span.old) (silent span.now span.new))
  opened_ended =
      hub tells e' opens.found opens.begun opens.events (λ n. None) (Some why) 0 span.now running running span.new [] shown' since shape count left
      (subst (λ (j : List JournalEntry). length j ≤ set.limits.ops) (sym opened'.journal) opened'.answered.fits)
      (since_opened tells b' (Err fault) at' opened') refl
      (λ whole. subst (λ (es : Events). StandUntold set opens.found es span.old span.new) (sym (append-nil opens.events)) (opened'.untold (told_out fault whole)))
      went'

-- ---- from what an asker was handed

-- what is handed back of a part that was written is that part
pub written_back : {X : Type 0} (len : ℕ) (xs items : List X) → length xs ≡ length items → length items ≡ len → take len (xs ++ drop (length xs) items) ≡ xs
written_back {X} len xs items same all =
    let none : drop (length xs) items ≡ [] = drop_all (length xs) items (omega (arith, same)) in
    ap (λ (rest : List X). take len (xs ++ rest)) none ∙ ap (λ (ys : List X). take len ys) (append-nil xs) ∙ take_all len xs (omega (arith, same, all))

some_is : (a b : CoreFault) → Some a ≡ Some b → a ≡ b
some_is a b e = cc

some_not : (a : CoreFault) → Some a ≡ None → ⊥
some_not a e = cc

none_not : (a : CoreFault) → None ≡ Some a → ⊥
none_not a e = cc

module _ (tells : Type 0) (set : Setting) (span : Taking) (running : Running) (since : tells → Since (stands_of span.new))
    (shape : IsShape set.shape) (count : length span.old ≡ set.shape.shards * set.shape.copies) (left : length span.new ≡ length span.old) where
  abbrev handed : AtEntry
  handed = record { set = set; moment = span.before; disks = span.old }

  ended_asker : (why : CoreFault) → IsOfCluster tells (record { set = set; commands = λ n. None }) (ran_at (status_by (Some why)) 0 (Some running) (silent span.before span.old) (silent span.now span.new))
      → IsAsker tells set.name handed (record { said = []; now = span.now; cluster = running; disks = span.new; line = 0; ended = Some why })
  ended_asker why h = record {
    named = refl;
    shape = shape;
    count = count;
    left = left;
    askers = tt;
    going = λ none. absurd (some_not why none);
    ended = λ fault is. subst (λ (f : CoreFault). HasStopped tells handed [] (point_of span.now running span.new 0) f) (some_is why fault is) h;
  }

  -- its core has ended as it opened
  pub shut_asker : (fault : ClusterFault) → Opens tells set span running (Err fault) → IsAsker tells set.name handed (record { said = []; now = span.now; cluster = running; disks = span.new; line = 0; ended = Some (core_of fault) })
  shut_asker fault opens = ended_asker (core_of fault) (opened_ended tells set span running fault opens since shape count left)

  -- its core goes on
  pub open_asker : (did : Result ⊤ ClusterFault) → Opens tells set span running did → is_ok did ≡ true → running.core.members.shape ≡ set.shape → AreReady tells running.logs span.new → (why : Option CoreFault)
      → (why ≡ None → AllByRecursion IsOfNoLine running.core.journal) → IfSome why (λ fault. fault ≡ core.NoMemory)
      → IsAsker tells set.name handed (record { said = []; now = span.now; cluster = running; disks = span.new; line = 0; ended = why })
  open_asker did opens fine alike ready None lines only = record {
    named = refl;
    shape = shape;
    count = count;
    left = left;
    askers = tt;
    going = λ none. opened_going tells set span running did opens since shape count left fine alike ready (lines refl);
    ended = λ fault is. absurd (none_not fault is);
  }
  open_asker did opens fine alike ready (Some fault) lines only =
      subst (λ (f : CoreFault). IsAsker tells set.name handed (record { said = []; now = span.now; cluster = running; disks = span.new; line = 0; ended = Some f })) (sym only)
      (ended_asker core.NoMemory (opened_wanting tells set span running did opens since shape count left fine))

-- as it stands in what is handed back
pub asker_as : (tells : Type 0) (name : List ℕ → Address) (e handed : AtEntry) (said : List Command) (now : ℕ) (cluster : Running) (disks seen : List DiskSeen) (ended because : Option CoreFault) → e ≡ handed → said ≡ [] → seen ≡ disks → ended ≡ because
    → IsAsker tells name handed (record { said = []; now = now; cluster = cluster; disks = disks; line = 0; ended = because }) → IsAsker tells name e (record { said = said; now = now; cluster = cluster; disks = seen; line = 0; ended = ended })
asker_as tells name e handed said now cluster disks seen ended because entry none same end h =
    subst (λ (x : AtEntry). IsAsker tells name x (record { said = said; now = now; cluster = cluster; disks = seen; line = 0; ended = ended })) (sym entry)
    (subst (λ (lines : List Command). IsAsker tells name handed (record { said = lines; now = now; cluster = cluster; disks = seen; line = 0; ended = ended })) (sym none)
    (subst (λ (ds : List DiskSeen). IsAsker tells name handed (record { said = []; now = now; cluster = cluster; disks = ds; line = 0; ended = ended })) (sym same)
    (subst (λ (o : Option CoreFault). IsAsker tells name handed (record { said = []; now = now; cluster = cluster; disks = disks; line = 0; ended = o })) (sym end) h)))
