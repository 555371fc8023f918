-- The first job of a peer on its disk, and the report of it, for the logs and the disks of any number of copies.
use Rattle.std.proofs.Common.{◌≡◌, ◌≢◌, ◌∙◌, ◌⊎◌, inl, inr, ap, sym, subst, ℕ, ◌≤◌, Bool, true, false, List, [], ◌∷◌, ◌++◌, length, take, Option, Some, None, refl, arith}
use Rattle.std.proofs.lemmas.Bool.{cases_eq}
use Rattle.std.specs.Option.{option_map_or}
use Rattle.std.specs.Prelude.{◌==◌, ◌||◌, Result, Ok, if◌then◌else◌}
use Rattle.hs_cluster.proofs.HeldLemmas.{HasKept, MayHave, after_may, append_is, read_is, seal_is, sealed_may, sealing}
use Rattle.hs_cluster.proofs.PeerEventLemmas.{log_headed, log_stays}
use Rattle.hs_cluster.proofs.PeerLogLemmas.{counts_before, floor_none, front_is, log_begins, peers_fine, rest_fine, take_begins}
use Rattle.hs_cluster.proofs.ReportLemmas.{fine_by, length_stands, one_of_all, one_of_each}
use Rattle.hs_cluster.specs.Disks.{log_at, stands_of}
use Rattle.hs_cluster.specs.Headed.{HasHeaded, IsHeadedAt, StaysHeadedAt}
use Rattle.hs_cluster.specs.Jobs.{Empties, HasCopied, IsAnyOrNone, Leaves, LeavesCopy, LeavesEmpty, LeavesLog, WithCopy, Working, Works, is_own, list_after, try_of, waiting_after}
use Rattle.hs_cluster.specs.Kept.{sealed_front}
use Rattle.hs_cluster.specs.PeerLogs.{HasPeerLog, KeepsPeerLogs, KeepsPeers, log_of_peer}
use Rattle.hs_cluster.specs.Steady.{AsksFor, GoesAlong, IsNextCopy, IsNextOwn, IsSteady, LogTold}
use Rattle.hs_core_words.specs.declared.event.Event.TheVariants as event
use Rattle.hs_core_words.specs.Looking.{first_job}
use Rattle.hs_core_words.specs.State.{Core}
use Rattle.hs_desk.specs.Answers.{answers, is_copy_of, is_read_of, is_reset}
use Rattle.hs_desk.specs.declared.done.Done.{Done}
use Rattle.hs_desk.specs.declared.done.Done.TheVariants as done
use Rattle.hs_desk.specs.declared.job.Job.{Job}
use Rattle.hs_desk.specs.declared.job.Job.TheVariants as job
use Rattle.hs_entry.specs.declared.entry.Entry.{Entry}
use Rattle.hs_events.proofs.GoingLemmas.{step_goes}
use Rattle.hs_events.specs.Asked.{failed_disk}
use Rattle.hs_events.specs.Due.{is_answer}
use Rattle.hs_events.specs.Reports.{TellsOf}
use Rattle.hs_events.specs.Sane.{appended_of}
use Rattle.hs_events.specs.Whole.{Whole, counts, floor, reach, step_whole, taken_report}
use Rattle.hs_fold.specs.Shards.Setting.{Numbered}
use Rattle.hs_limits.specs.declared.shape.Shape.{Shape}
use Rattle.hs_members.specs.Members.{IsPeer}
use Rattle.hs_moments.specs.Moments.{EachImageOfOne, GivesFine, IsStanding, Keeps}
use Rattle.hs_moments.specs.WholeMachine.{IsFrontOf, last_of, whole_machine}
use Rattle.hs_moments.specs.Working.{NextJob}
use Rattle.hs_peerlog.specs.Heads.{LeavesHeader}
use Rattle.hs_peerlog.specs.Images.{GivesList, IsOne, LeavesAny, LeavesEach}
use Rattle.hs_peerlog.specs.Lists.{HasLog, IsKept, Keeping}
use Rattle.hs_ports.specs.declared.disk.Side.{Side}
use Rattle.hs_ports.specs.Disk.{Standing}
use Rattle.hs_ports.specs.Moments.{disk_at}
use Rattle.hs_side.specs.declared.header.Header.{Header}
use Rattle.hs_side.specs.Headers.{own_header}

none_is_not : {A : Type 0} (x : A) → None ≡ Some x → ⊥
none_is_not x e = cc e

some_is_not : {A : Type 0} (x : A) → Some x ≡ None → ⊥
some_is_not x e = cc e

some_is : {A : Type 0} (x y : A) → Some x ≡ Some y → x ≡ y
some_is x y e = cc

false_is_not : false ≡ true → ⊥
false_is_not e = cc e

-- ---- what answers a job

answer_of : (core : Core) (peer : ℕ) (j : Job) (told : Done) → first_job peer core ≡ Some j → is_answer core peer told ≡ true → answers peer j told ≡ true
answer_of core peer j told first answer = subst (λ o. option_map_or (λ x. answers peer x told) o false ≡ true) first answer

-- there was one
no_job : (core : Core) (peer : ℕ) (told : Done) → first_job peer core ≡ None → is_answer core peer told ≡ true → ⊥
no_job core peer told first answer = false_is_not (subst (λ o. option_map_or (λ x. answers peer x told) o false ≡ true) first answer)

only_own : (d peer : ℕ) → (d == peer || false) ≡ true → d ≡ peer
only_own d peer h = same (left (d == peer) h)
  where
    left : (b : Bool) → (b || false) ≡ true → b ≡ true
    left true h = refl
    left false h = h

    same : (d == peer) ≡ true → d ≡ peer
    same h = grind arith

-- a job of its peer alone fails by its own disk
own_fails : (peer : ℕ) (j : Job) (told : Done) (disk : ℕ) → is_own (Some j) ≡ true → answers peer j told ≡ true → failed_disk told ≡ Some disk → disk ≡ peer
own_fails peer j told disk own = go told
  where
    alone : (j : Job) → is_own (Some j) ≡ true → (d : ℕ) → answers peer j (done.Failed d) ≡ true → d ≡ peer
    alone (job.Append number entry) own d a = only_own d peer a
    alone (job.Seal number) own d a = only_own d peer a
    alone (job.Read number) own d a = only_own d peer a
    alone job.Reset own d a = absurd (false_is_not own)
    alone (job.Copy from number) own d a = absurd (false_is_not own)
    alone job.Reclaim own d a = only_own d peer a

    go : (t : Done) → answers peer j t ≡ true → failed_disk t ≡ Some disk → disk ≡ peer
    go (done.Stored number) a f = absurd (none_is_not disk f)
    go (done.Sealed number) a f = absurd (none_is_not disk f)
    go (done.Bytes number bytes) a f = absurd (none_is_not disk f)
    go (done.Gone number) a f = absurd (none_is_not disk f)
    go done.Emptied a f = absurd (none_is_not disk f)
    go (done.Copied number) a f = absurd (none_is_not disk f)
    go (done.Stepped switched) a f = absurd (none_is_not disk f)
    go (done.Failed d) a f = sym (some_is d disk f) ∙ alone j own d a

-- so does an emptying
reset_fails : (peer : ℕ) (told : Done) (disk : ℕ) → answers peer job.Reset told ≡ true → failed_disk told ≡ Some disk → disk ≡ peer
reset_fails peer told disk = go told
  where
    go : (t : Done) → answers peer job.Reset t ≡ true → failed_disk t ≡ Some disk → disk ≡ peer
    go (done.Stored number) a f = absurd (none_is_not disk f)
    go (done.Sealed number) a f = absurd (none_is_not disk f)
    go (done.Bytes number bytes) a f = absurd (none_is_not disk f)
    go (done.Gone number) a f = absurd (none_is_not disk f)
    go done.Emptied a f = absurd (none_is_not disk f)
    go (done.Copied number) a f = absurd (none_is_not disk f)
    go (done.Stepped switched) a f = absurd (none_is_not disk f)
    go (done.Failed d) a f = sym (some_is d disk f) ∙ only_own d peer a

-- ---- what the log has behind it

-- a job of its own log
pub own_told : (c : Whole) (peer : ℕ) (j : Job) (told : Done) (list : Numbered) (waiting : Option Entry) → floor c peer ≤ length (reach c peer) → HasKept c peer → first_job peer c.core ≡ Some j → answers peer j told ≡ true
    → failed_disk told ≡ None → IsNextOwn c peer j → LogTold c peer told list waiting
    → (list ≡ list_after j (sealed_front c peer) (appended_of peer c.core)) × (waiting ≡ waiting_after j (appended_of peer c.core))
own_told c peer j told list waiting within kept first answer fine own = go told answer fine
  where
    front : Numbered
    front = sealed_front c peer

    waits : Option Entry
    waits = appended_of peer c.core

    same : log_of_peer c peer ≡ Some list → list ≡ front
    same at = some_is list front (sym at ∙ own.log)

    read : (number : ℕ) → is_read_of number j ≡ true → log_of_peer c peer ≡ Some list → waiting ≡ None → (list ≡ list_after j front waits) × (waiting ≡ waiting_after j waits)
    read number a at none =
        let reads : j ≡ job.Read number = read_is number j a in
        let nothing : waits ≡ None = subst (λ x. NextJob c peer x) reads own.next in
        (same at ∙ ap (λ x. list_after x front waits) (sym reads), none ∙ sym nothing ∙ ap (λ x. waiting_after x waits) (sym reads))

    emptied : (k : Job) → is_reset k ≡ true → NextJob c peer k → ⊥
    emptied (job.Append number entry) a h = false_is_not a
    emptied (job.Seal number) a h = false_is_not a
    emptied (job.Read number) a h = false_is_not a
    emptied job.Reset a h = h
    emptied (job.Copy from number) a h = false_is_not a
    emptied job.Reclaim a h = false_is_not a

    copied : (n : ℕ) (k : Job) → is_copy_of n k ≡ true → NextJob c peer k → ⊥
    copied n (job.Append number entry) a h = false_is_not a
    copied n (job.Seal number) a h = false_is_not a
    copied n (job.Read number) a h = false_is_not a
    copied n job.Reset a h = false_is_not a
    copied n (job.Copy from number) a h = h
    copied n job.Reclaim a h = false_is_not a

    go : (t : Done) → answers peer j t ≡ true → failed_disk t ≡ None → LogTold c peer t list waiting → (list ≡ list_after j front waits) × (waiting ≡ waiting_after j waits)
    go (done.Stored number) a f h =
        let appends = append_is number j a in
        (same h.0 ∙ ap (λ x. list_after x front waits) (sym appends.1), h.1 appends.0 (first ∙ ap (λ x. Some x) appends.1) ∙ ap (λ x. waiting_after x waits) (sym appends.1))
    go (done.Sealed number) a f h =
        let seals : j ≡ job.Seal number = seal_is number j a in
        let s = sealing c peer number within kept (subst (λ x. NextJob c peer x) seals own.next) in
        (h.0 ∙ sym s.list ∙ ap (λ x. list_after x front waits) (sym seals), h.1 ∙ ap (λ x. waiting_after x waits) (sym seals))
    go (done.Bytes number bytes) a f h = read number a h.0 h.1
    go (done.Gone number) a f h = read number a h.0 h.1
    go done.Emptied a f h = absurd (emptied j a own.next)
    go (done.Copied number) a f h = absurd (copied number j a own.next)
    go (done.Stepped switched) a f h = absurd h
    go (done.Failed disk) a f h = absurd (some_is_not disk f)

-- an emptying
emptied_told : (c : Whole) (peer : ℕ) (told : Done) (list : Numbered) (waiting : Option Entry) → answers peer job.Reset told ≡ true → failed_disk told ≡ None → LogTold c peer told list waiting → (list ≡ []) × (waiting ≡ None)
emptied_told c peer told list waiting = go told
  where
    go : (t : Done) → answers peer job.Reset t ≡ true → failed_disk t ≡ None → LogTold c peer t list waiting → (list ≡ []) × (waiting ≡ None)
    go (done.Stored number) a f h = absurd (false_is_not a)
    go (done.Sealed number) a f h = absurd (false_is_not a)
    go (done.Bytes number bytes) a f h = absurd (false_is_not a)
    go (done.Gone number) a f h = absurd (false_is_not a)
    go done.Emptied a f h = h
    go (done.Copied number) a f h = absurd (false_is_not a)
    go (done.Stepped switched) a f h = absurd (false_is_not a)
    go (done.Failed disk) a f h = absurd (some_is_not disk f)

-- a copying step
copied_told : (c : Whole) (peer from number : ℕ) (told : Done) (list : Numbered) (waiting : Option Entry) → answers peer (job.Copy from number) told ≡ true → failed_disk told ≡ None → LogTold c peer told list waiting
    → (list ≡ reach c peer) × (waiting ≡ None)
copied_told c peer from number told list waiting = go told
  where
    go : (t : Done) → answers peer (job.Copy from number) t ≡ true → failed_disk t ≡ None → LogTold c peer t list waiting → (list ≡ reach c peer) × (waiting ≡ None)
    go (done.Stored n) a f h = absurd (false_is_not a)
    go (done.Sealed n) a f h = absurd (false_is_not a)
    go (done.Bytes n bytes) a f h = absurd (false_is_not a)
    go (done.Gone n) a f h = absurd (false_is_not a)
    go done.Emptied a f h = absurd (false_is_not a)
    go (done.Copied n) a f h = h
    go (done.Stepped switched) a f h = absurd (false_is_not a)
    go (done.Failed disk) a f h = absurd (some_is_not disk f)

-- where a call failed
failed_told : (c : Whole) (peer disk : ℕ) (told : Done) (list : Numbered) (waiting : Option Entry) → failed_disk told ≡ Some disk → LogTold c peer told list waiting → (log_of_peer c peer ≡ Some list) × (waiting ≡ appended_of peer c.core)
failed_told c peer disk told list waiting = go told
  where
    go : (t : Done) → failed_disk t ≡ Some disk → LogTold c peer t list waiting → (log_of_peer c peer ≡ Some list) × (waiting ≡ appended_of peer c.core)
    go (done.Stored n) f h = absurd (none_is_not disk f)
    go (done.Sealed n) f h = absurd (none_is_not disk f)
    go (done.Bytes n bytes) f h = absurd (none_is_not disk f)
    go (done.Gone n) f h = absurd (none_is_not disk f)
    go done.Emptied f h = absurd (none_is_not disk f)
    go (done.Copied n) f h = absurd (none_is_not disk f)
    go (done.Stepped switched) f h = absurd h
    go (done.Failed d) f h = h

-- what an emptying or a copying step tells of blocks is nothing
pub other_told : (peer : ℕ) (j : Job) (told : Done) (list : Option Numbered) → is_own (Some j) ≡ false → answers peer j told ≡ true → TellsOf told list
other_told peer j told list other = go told
  where
    read : (n : ℕ) (k : Job) → is_own (Some k) ≡ false → is_read_of n k ≡ true → ⊥
    read n (job.Append number entry) other a = false_is_not a
    read n (job.Seal number) other a = false_is_not a
    read n (job.Read number) other a = false_is_not (sym other)
    read n job.Reset other a = false_is_not a
    read n (job.Copy from number) other a = false_is_not a
    read n job.Reclaim other a = false_is_not a

    go : (t : Done) → answers peer j t ≡ true → TellsOf t list
    go (done.Stored n) a = tt
    go (done.Sealed n) a = tt
    go (done.Bytes n bytes) a = absurd (read n j other a)
    go (done.Gone n) a = absurd (read n j other a)
    go done.Emptied a = tt
    go (done.Copied n) a = tt
    go (done.Stepped switched) a = tt
    go (done.Failed d) a = tt

-- ---- the job

module _ (c : Whole) (w : Working) (steady : IsSteady c) (is : IsPeer c.core.members.shape w.peer) (keeps : KeepsPeers c w.logs w.disks w.before) where
  abbrev head : Header
  head = own_header c.core.members.shape w.peer

  abbrev Fine : (Side → List ℕ) → Type 0
  Fine image = GivesFine whole_machine c w.peer image

  abbrev AllFine : Type 0
  AllFine = EachImageOfOne w.before w.now w.peer (stands_of w.disks) (stands_of w.left) (λ image. counts c w.peer ≡ true → Fine image)

  abbrev front : Numbered
  front = sealed_front c w.peer

  abbrev waits : Option Entry
  waits = appended_of w.peer c.core

  within : floor c w.peer ≤ length (reach c w.peer)
  within = steady.within w.peer

  -- the log of one that has sealed entries, and of one that follows
  log_own : (j : Job) → IsNextOwn c w.peer j → HasPeerLog c.core.members.shape w.logs w.disks w.peer front waits
  log_own j own = keeps.listed.each w.peer front is own.log

  kept_own : (j : Job) (own : IsNextOwn c w.peer j) → HasKept c w.peer
  kept_own j own = record {
    keeping = (log_own j own).keeping;
    seen = (disk_at (stands_of w.disks) w.peer).seen (log_own j own).keeping.log.side;
    kept = (log_own j own).has.kept;
  }

  count_stands : length w.left ≡ length w.disks → length (stands_of w.left) ≡ length (stands_of w.disks)
  count_stands e = length_stands w.left ∙ e ∙ sym (length_stands w.disks)

  -- what a stop leaves before it
  any_front : counts c w.peer ≡ true → LeavesAny (disk_at (stands_of w.disks) w.peer) (λ n. take n (reach c w.peer))
  any_front counted = λ image stands.
      let fine = keeps.keeps.fine w.peer counted image (record { sides = stands.sides }) in
      record { list = fine.list; read = fine.read; holds = record { at = length fine.list; same = front_is w.peer fine.list (reach c w.peer) fine.front } }

  two_fine : (a b : Numbered) → MayHave c w.peer a → MayHave c w.peer b → (image : Side → List ℕ) → GivesList (IsOne a b) image → Fine image
  two_fine a b one two image g = elim g.holds [
    | inl same ↦ fine_by c w.peer image g.list g.read (subst (λ l. MayHave c w.peer l) (sym same) one)
    | inr same ↦ fine_by c w.peer image g.list g.read (subst (λ l. MayHave c w.peer l) (sym same) two)
  ]

  own_fine : {E : Type 0} (j : Job) (own : IsNextOwn c w.peer j) (result : Result Done E) (works : Works head w (first_job w.peer c.core) result) → Leaves (try_of w) j front waits result → AllFine
  own_fine j own result works leaves =
      one_of_each w.before w.now w.peer (stands_of w.disks) (stands_of w.left) (IsOne front (list_after j front waits)) (λ image. counts c w.peer ≡ true → Fine image) (count_stands works.count) works.others leaves.moments
      (λ image g counted. two_fine front (list_after j front waits) (sealed_may c w.peer within (log_own j own).has.kept.numbered) (after_may c w.peer j within (kept_own j own) own.next) image g)

  own_leaves : {E : Type 0} (j : Job) (own : IsNextOwn c w.peer j) (result : Result Done E) (works : Works head w (first_job w.peer c.core) result) → is_own (Some j) ≡ true → first_job w.peer c.core ≡ Some j → Leaves (try_of w) j front waits result
  own_leaves j own result works is_one first =
      let alone = works.alone (ap is_own first ∙ is_one) in
      (alone.tries (keeps.keeps.called w.peer)).each j (log_own j own).keeping first (log_own j own).used front waits (log_own j own).has

  -- an emptying leaves what was there, or the empty list
  empty_fine : log_of_peer c w.peer ≡ None → counts c w.peer ≡ true → (image : Side → List ℕ) → GivesList (IsAnyOrNone (λ n. take n (reach c w.peer))) image → Fine image
  empty_fine none counted image g = elim g.holds [
    | inl any ↦ fine_by c w.peer image g.list g.read (record { front = subst (λ l. IsFrontOf w.peer l (reach c w.peer)) (sym any.same) (take_begins w.peer any.at (reach c w.peer)); long = low g.list })
    | inr empty ↦ fine_by c w.peer image g.list g.read (record { front = (reach c w.peer, ap (λ l. l ++ reach c w.peer) (sym empty)); long = low g.list })
  ]
    where
      low : (l : Numbered) → floor c w.peer ≤ last_of l
      low l = let zero_is = floor_none c w.peer none in omega (arith, zero_is)

  reset_fine : {E : Type 0} (result : Result Done E) (works : Works head w (first_job w.peer c.core) result) → first_job w.peer c.core ≡ Some job.Reset → log_of_peer c w.peer ≡ None → AllFine
  reset_fine {E = E} result works first none = record {
    later = empties.past.later;
    count = count_stands works.count;
    last = empties.past.last;
    earlier = empties.past.earlier;
    each = λ m above fits image left counted. empty_fine none counted image ((moments counted).each m above fits image left.sides);
    standing = λ image left counted. empty_fine none counted image ((moments counted).standing image (record { sides = left.sides }));
    others = works.others;
  }
    where
      empties : Empties {E = E} head (try_of w) result
      empties = works.empties first (keeps.keeps.called w.peer)

      moments : counts c w.peer ≡ true → LeavesEach w.before w.now (disk_at (stands_of w.disks) w.peer) (disk_at (stands_of w.left) w.peer) (IsAnyOrNone (λ n. take n (reach c w.peer)))
      moments counted = empties.moments (λ n. take n (reach c w.peer)) (any_front counted) (keeps.headed w.peer counted)

  -- a copying step
  abbrev lead_log : (from number : ℕ) → IsNextCopy c w.peer from number → HasPeerLog c.core.members.shape w.logs w.disks from (sealed_front c from) (appended_of from c.core)
  lead_log from number next = keeps.listed.each from (sealed_front c from) next.there next.source

  abbrev log_follows : (from number : ℕ) → IsNextCopy c w.peer from number → HasPeerLog c.core.members.shape w.logs w.disks w.peer (c.lists w.peer) waits
  log_follows from number next = keeps.listed.each w.peer (c.lists w.peer) is next.follows

  copies : {E : Type 0} (from number : ℕ) (next : IsNextCopy c w.peer from number) (result : Result Done E) → Works head w (first_job w.peer c.core) result → first_job w.peer c.core ≡ Some (job.Copy from number)
      → HasCopied (try_of w) w.peer from number (sealed_front c from) (c.lists w.peer) result
  copies from number next result works first =
      works.copies from number first next.other (keeps.keeps.called w.peer) (lead_log from number next).keeping (log_follows from number next).keeping (sealed_front c from) (c.lists w.peer) (appended_of from c.core) waits
      (lead_log from number next).used (lead_log from number next).has.kept (log_follows from number next).used (log_follows from number next).has

  -- with the copy it is all that the disk may have
  with_copy_is : (from number : ℕ) → IsNextCopy c w.peer from number → (l : Numbered) → WithCopy number (sealed_front c from) (c.lists w.peer) l → l ≡ reach c w.peer
  with_copy_is from number next l copy = copy.same ∙ ap (λ more. c.lists w.peer ++ more) (sym (next.added copy.entry copy.found))

  copy_fine : {E : Type 0} (from number : ℕ) (next : IsNextCopy c w.peer from number) (result : Result Done E) (works : Works head w (first_job w.peer c.core) result) → first_job w.peer c.core ≡ Some (job.Copy from number) → AllFine
  copy_fine from number next result works first =
      one_of_each w.before w.now w.peer (stands_of w.disks) (stands_of w.left) (λ l. (l ≡ c.lists w.peer) ⊎ WithCopy number (sealed_front c from) (c.lists w.peer) l) (λ image. counts c w.peer ≡ true → Fine image) (count_stands works.count) works.others
      (copies from number next result works first).moments (λ image g counted. by image g)
    where
      by : (image : Side → List ℕ) → GivesList (λ l. (l ≡ c.lists w.peer) ⊎ WithCopy number (sealed_front c from) (c.lists w.peer) l) image → Fine image
      by image g = elim g.holds [
        | inl same ↦ fine_by c w.peer image g.list g.read (record {
          front = subst (λ l. IsFrontOf w.peer l (reach c w.peer)) (sym same) (log_begins c w.peer (c.lists w.peer) next.follows);
          long = nothing g.list;
        })
        | inr copy ↦ fine_by c w.peer image g.list g.read (record {
          front = ([], sym (ap (λ l. l ++ []) (with_copy_is from number next g.list copy) ∙ nil (reach c w.peer)));
          long = nothing g.list;
        })
      ]
        where
          nil : (l : Numbered) → l ++ [] ≡ l
          nil [] = refl
          nil (x ∷ l) = ap (λ xs. x ∷ xs) (nil l)

          nothing : (l : Numbered) → floor c w.peer ≤ last_of l
          nothing l = let zero_is = next.unsealed in omega (arith, zero_is)

  idle_fine : {E : Type 0} (result : Result Done E) (works : Works head w (first_job w.peer c.core) result) → first_job w.peer c.core ≡ None → AllFine
  idle_fine result works first =
      let alone = works.alone (ap is_own first) in
      one_of_all w.before w.now w.peer (stands_of w.disks) (stands_of w.left) (λ image. counts c w.peer ≡ true → Fine image) (count_stands works.count) works.others ((alone.tries (keeps.keeps.called w.peer)).idle (inl first))
      (λ image stands counted. keeps.keeps.fine w.peer counted image stands)

  -- each moment of it is fine for the core as it stands
  pub call_peers : {E : Type 0} (result : Result Done E) → Works head w (first_job w.peer c.core) result → AllFine
  call_peers result works = go (first_job w.peer c.core) refl
    where
      own : (j : Job) → is_own (Some j) ≡ true → first_job w.peer c.core ≡ Some j → IsNextOwn c w.peer j → AllFine
      own j is_one first next = own_fine j next result works (own_leaves j next result works is_one first)

      by : (j : Job) → first_job w.peer c.core ≡ Some j → AsksFor c w.peer j → AllFine
      by (job.Append number entry) first next = own (job.Append number entry) refl first next
      by (job.Seal number) first next = own (job.Seal number) refl first next
      by (job.Read number) first next = own (job.Read number) refl first next
      by job.Reset first next = reset_fine result works first next
      by (job.Copy from number) first next = copy_fine from number next result works first
      by job.Reclaim first next = absurd next

      go : (todo : Option Job) → first_job w.peer c.core ≡ todo → AllFine
      go None first = idle_fine result works first
      go (Some j) first = by j first (steady.asks w.peer j is first)

  -- ---- its report

  module _ (told : Done) (at : ℕ) (E : Type 0) (works : Works {E = E} head w (first_job w.peer c.core) (Ok told)) (answer : is_answer c.core w.peer told ≡ true) where
    -- what it tells of a block is so of what is sealed
    pub peers_told : (is_own (first_job w.peer c.core) ≡ true → ((keeping : Keeping) → log_at w.logs w.peer ≡ Some keeping → IsKept keeping ((disk_at (stands_of w.disks) w.peer).seen keeping.log.side) front waits) → TellsOf told (Some front))
        → TellsOf told (Some front)
    peers_told tells = go (first_job w.peer c.core) refl
      where
        own : (j : Job) → is_own (Some j) ≡ true → first_job w.peer c.core ≡ Some j → IsNextOwn c w.peer j → TellsOf told (Some front)
        own j is_one first next = tells (ap is_own first ∙ is_one)
            (λ keeping at. subst (λ (k : Keeping). IsKept k ((disk_at (stands_of w.disks) w.peer).seen k.log.side) front waits) (some_is (log_own j next).keeping keeping (sym (log_own j next).used ∙ at)) (log_own j next).has.kept)

        by : (j : Job) → first_job w.peer c.core ≡ Some j → AsksFor c w.peer j → TellsOf told (Some front)
        by (job.Append number entry) first next = own (job.Append number entry) refl first next
        by (job.Seal number) first next = own (job.Seal number) refl first next
        by (job.Read number) first next = own (job.Read number) refl first next
        by job.Reset first next = other_told w.peer job.Reset told (Some front) refl (answer_of c.core w.peer job.Reset told first answer)
        by (job.Copy from number) first next = other_told w.peer (job.Copy from number) told (Some front) refl (answer_of c.core w.peer (job.Copy from number) told first answer)
        by job.Reclaim first next = absurd next

        go : (todo : Option Job) → first_job w.peer c.core ≡ todo → TellsOf told (Some front)
        go None first = absurd (no_job c.core w.peer told first answer)
        go (Some j) first = by j first (steady.asks w.peer j is first)

    abbrev new : Whole
    new = step_whole (event.Report w.peer told) at c

    module _ (was : c.core.ended ≡ None) (goes : GoesAlong c (event.Report w.peer told) new)
        (heads : IsHeadedAt head w.before w.logs w.disks w.peer → StaysHeadedAt head w.before w.now w.disks w.after w.left w.peer) where
      taken : taken_report c.core (event.Report w.peer told) ≡ Some (w.peer, told)
      taken = ap (λ b. if b then Some (w.peer, told) else None) answer

      shape_is : new.core.members.shape ≡ c.core.members.shape
      shape_is = (step_goes (event.Report w.peer told) at c.core was).shape

      low : (peer : ℕ) → IsPeer new.core.members.shape peer → IsPeer c.core.members.shape peer
      low peer here = subst (λ (s : Shape). IsPeer s peer) shape_is here

      others : (peer : ℕ) → peer ≢ w.peer → (d : Done) → taken_report c.core (event.Report w.peer told) ≢ Some (peer, d)
      others peer differs d here = differs (same (w.peer, told) (peer, d) (some_is (w.peer, told) (peer, d) (sym taken ∙ here)))
        where
          same : (x y : ℕ × Done) → x ≡ y → y.0 ≡ x.0
          same x y e = ap (λ (p : ℕ × Done). p.0) (sym e)

      -- a log that is told of did not fail
      not_failed : (peer disk : ℕ) (list : Numbered) → log_of_peer new peer ≡ Some list → failed_disk told ≡ Some disk → disk ≡ peer → ⊥
      not_failed peer disk list there fails same = none_is_not list (sym (goes.failed w.peer disk told taken fails) ∙ ap (λ p. log_of_peer new p) same ∙ there)

      -- ---- of another peer

      other_log : (peer : ℕ) (list : Numbered) → peer ≢ w.peer → IsPeer new.core.members.shape peer → log_of_peer new peer ≡ Some list
          → HasPeerLog c.core.members.shape w.after w.left peer list (appended_of peer new.core)
      other_log peer list differs here there =
          let still = (goes.beside peer (others peer differs)).same list there in
          subst (λ e. HasPeerLog c.core.members.shape w.after w.left peer list e) (sym still.1)
          (log_stays c.core.members.shape w.logs w.after w.disks w.left peer list (appended_of peer c.core)
          ((works.logs peer differs).0 (λ fails. not_failed peer peer list there fails refl)) (works.others peer differs) (keeps.listed.each peer list (low peer here) still.0))

      -- ---- of the peer itself

      -- a log that was in use before, with its header
      headed_by : {list : Numbered} {waiting : Option Entry} → HasPeerLog c.core.members.shape w.logs w.disks w.peer list waiting → StaysHeadedAt head w.before w.now w.disks w.after w.left w.peer
      headed_by {list = list} {waiting = waiting} log = heads (record {
        called = keeps.keeps.called w.peer;
        leaves = log_headed c.core.members.shape w.logs w.disks w.peer list waiting log;
        log = λ keeping here. subst (λ k. HasHeaded head k (disk_at (stands_of w.disks) w.peer)) (some_is log.keeping keeping (sym log.used ∙ here))
            (record { generation = log.generation; head = log.head; some = record { list = list; waiting = waiting; has = log.has } });
      })

      -- what was done is there
      has_done : (keeping : Keeping) (have want : Numbered) (kept waiting : Option Entry) → log_at w.after w.peer ≡ Some keeping → HasLog keeping (disk_at (stands_of w.left) w.peer) have kept → want ≡ have → waiting ≡ kept
          → (generation : ℕ) × (keeping.log.head ≡ Some (head, generation)) → HasPeerLog c.core.members.shape w.after w.left w.peer want waiting
      has_done keeping have want kept waiting used has same entry own = record {
        keeping = keeping;
        used = used;
        generation = own.0;
        head = own.1;
        has = subst (λ l. HasLog keeping (disk_at (stands_of w.left) w.peer) l waiting) (sym same) (subst (λ e. HasLog keeping (disk_at (stands_of w.left) w.peer) have e) (sym entry) has);
      }

      own_head : {list : Numbered} {waiting : Option Entry} → HasPeerLog c.core.members.shape w.logs w.disks w.peer list waiting → (keeping : Keeping) → log_at w.after w.peer ≡ Some keeping
          → (generation : ℕ) × (keeping.log.head ≡ Some (head, generation))
      own_head log keeping used = let h = (headed_by log).log keeping used in (h.generation, h.head)

      abbrev There : Numbered → Type 0
      There list = HasPeerLog c.core.members.shape w.after w.left w.peer list (appended_of w.peer new.core)

      own_there : (j : Job) → is_own (Some j) ≡ true → first_job w.peer c.core ≡ Some j → IsNextOwn c w.peer j → (list : Numbered) → log_of_peer new w.peer ≡ Some list → There list
      own_there j is_one first next list there = go (failed_disk told) refl (own_leaves {E = E} j next (Ok told) works is_one first).log
        where
          answers_it : answers w.peer j told ≡ true
          answers_it = answer_of c.core w.peer j told first answer

          go : (o : Option ℕ) → failed_disk told ≡ o → LeavesLog o (try_of w) j front waits → There list
          go None fine log =
              let same = own_told c w.peer j told list (appended_of w.peer new.core) within (kept_own j next) first answers_it fine next ((goes.told w.peer told taken).log list there) in
              has_done log.0 (list_after j front waits) list (waiting_after j waits) (appended_of w.peer new.core) log.1 log.2 same.0 same.1 (own_head (log_own j next) log.0 log.1)
          go (Some disk) fails log = absurd (not_failed w.peer disk list there fails (own_fails w.peer j told disk is_one answers_it fails))

      reset_there : first_job w.peer c.core ≡ Some job.Reset → (list : Numbered) → log_of_peer new w.peer ≡ Some list → There list
      reset_there first list there = go (failed_disk told) refl empties.log
        where
          empties : Empties {E = E} head (try_of w) (Ok told)
          empties = works.empties first (keeps.keeps.called w.peer)

          answers_it : answers w.peer job.Reset told ≡ true
          answers_it = answer_of c.core w.peer job.Reset told first answer

          go : (o : Option ℕ) → failed_disk told ≡ o → LeavesEmpty o (try_of w) → There list
          go None fine log =
              let same = emptied_told c w.peer told list (appended_of w.peer new.core) answers_it fine ((goes.told w.peer told taken).log list there) in
              has_done log.0 [] list None (appended_of w.peer new.core) log.1 log.2 same.0 same.1 (empties.own log.0 log.1)
          go (Some disk) fails log = absurd (not_failed w.peer disk list there fails (reset_fails w.peer told disk answers_it fails))

      copy_there : (from number : ℕ) → first_job w.peer c.core ≡ Some (job.Copy from number) → IsNextCopy c w.peer from number → (list : Numbered) → log_of_peer new w.peer ≡ Some list → There list
      copy_there from number first next list there = go (failed_disk told) refl (copies {E = E} from number next (Ok told) works first).log
        where
          answers_it : answers w.peer (job.Copy from number) told ≡ true
          answers_it = answer_of c.core w.peer (job.Copy from number) told first answer

          go : (o : Option ℕ) → failed_disk told ≡ o → LeavesCopy o (try_of w) w.peer from number (sealed_front c from) (c.lists w.peer) → There list
          go None fine log =
              let same = copied_told c w.peer from number told list (appended_of w.peer new.core) answers_it fine ((goes.told w.peer told taken).log list there) in
              has_done log.0 log.1 list None (appended_of w.peer new.core) log.2 log.4 (same.0 ∙ sym (with_copy_is from number next log.1 log.3)) same.1 (own_head (log_follows from number next) log.0 log.2)
          go (Some disk) fails log = elim log [
            | inl lead ↦
                let same = failed_told c w.peer disk told list (appended_of w.peer new.core) fails ((goes.told w.peer told taken).log list there) in
                subst (λ e. HasPeerLog c.core.members.shape w.after w.left w.peer list e) (sym same.1)
                (log_stays c.core.members.shape w.logs w.after w.disks w.left w.peer list waits lead.1 lead.2 (keeps.listed.each w.peer list is same.0))
            | inr own ↦ absurd (not_failed w.peer disk list there fails own.0)
          ]

      this_log : (list : Numbered) → log_of_peer new w.peer ≡ Some list → There list
      this_log list there = go (first_job w.peer c.core) refl
        where
          by : (j : Job) → first_job w.peer c.core ≡ Some j → AsksFor c w.peer j → There list
          by (job.Append number entry) first next = own_there (job.Append number entry) refl first next list there
          by (job.Seal number) first next = own_there (job.Seal number) refl first next list there
          by (job.Read number) first next = own_there (job.Read number) refl first next list there
          by job.Reset first next = reset_there first list there
          by (job.Copy from number) first next = copy_there from number first next list there
          by job.Reclaim first next = absurd next

          go : (todo : Option Job) → first_job w.peer c.core ≡ todo → There list
          go None first = absurd (no_job c.core w.peer told first answer)
          go (Some j) first = by j first (steady.asks w.peer j is first)

      -- ---- of all of them

      pub report_listed : KeepsPeerLogs new w.after w.left
      report_listed = record {
        each = λ peer list here there. subst (λ (s : Shape). HasPeerLog s w.after w.left peer list (appended_of peer new.core)) (sym shape_is) (elim (cases_eq peer w.peer) [
          | inl same ↦ subst (λ p. HasPeerLog c.core.members.shape w.after w.left p list (appended_of p new.core)) (sym same) (this_log list (ap (λ p. log_of_peer new p) (sym same) ∙ there))
          | inr differs ↦ other_log peer list differs here there
        ]);
      }

      call : AllFine
      call = call_peers {E = E} (Ok told) works

      called : (peer : ℕ) → (disk_at (stands_of w.left) peer).last ≤ w.now
      called peer = elim (cases_eq peer w.peer) [
        | inl same ↦ subst (λ p. (disk_at (stands_of w.left) p).last ≤ w.now) (sym same) call.last
        | inr differs ↦ subst (λ (d : Standing). d.last ≤ w.now) (sym (call.others peer differs)) (let before = keeps.keeps.called peer in let up = call.later in omega (arith, before, up))
      ]

      pub report_peers_fine : Keeps whole_machine new w.now (stands_of w.left)
      report_peers_fine = peers_fine new w.now w.after w.left goes.peers goes.within report_listed called
          (λ peer none counted image stands. elim (cases_eq peer w.peer) [
            | inl same ↦ rest_fine c new peer image none (subst (λ p. log_of_peer new p ≡ None → IsFrontOf p (reach c p) (reach new p)) (sym same) (goes.told w.peer told taken).begins none)
                (subst (λ p. GivesFine whole_machine c p image) (sym same)
                (call.standing image (subst (λ p. IsStanding (disk_at (stands_of w.left) p) image) same stands) (subst (λ p. counts c p ≡ true) same (counts_before c (event.Report w.peer told) at peer none counted))))
            | inr differs ↦ rest_fine c new peer image none ((goes.beside peer (others peer differs)).begins none)
                (keeps.keeps.fine peer (counts_before c (event.Report w.peer told) at peer none counted) image (subst (λ d. IsStanding d image) (call.others peer differs) stands))
          ])

      -- whose header a stop leaves, where the peer's log is not told of
      gone_headed : counts c w.peer ≡ true → LeavesHeader (disk_at (stands_of w.left) w.peer) head
      gone_headed counted = go (first_job w.peer c.core) refl
        where
          by : (j : Job) → first_job w.peer c.core ≡ Some j → AsksFor c w.peer j → LeavesHeader (disk_at (stands_of w.left) w.peer) head
          by (job.Append number entry) first next = (headed_by (log_own (job.Append number entry) next)).disk.keeps.standing
          by (job.Seal number) first next = (headed_by (log_own (job.Seal number) next)).disk.keeps.standing
          by (job.Read number) first next = (headed_by (log_own (job.Read number) next)).disk.keeps.standing
          by job.Reset first next = ((works.empties first (keeps.keeps.called w.peer)).headed (keeps.headed w.peer counted)).standing
          by (job.Copy from number) first next = (headed_by (log_follows from number next)).disk.keeps.standing
          by job.Reclaim first next = absurd next

          go : (todo : Option Job) → first_job w.peer c.core ≡ todo → LeavesHeader (disk_at (stands_of w.left) w.peer) head
          go None first = absurd (no_job c.core w.peer told first answer)
          go (Some j) first = by j first (steady.asks w.peer j is first)

      report_headed : (peer : ℕ) → counts new peer ≡ true → LeavesHeader (disk_at (stands_of w.left) peer) (own_header new.core.members.shape peer)
      report_headed peer counted = by (log_of_peer new peer) refl
        where
          before : log_of_peer new peer ≡ None → counts c peer ≡ true
          before none = counts_before c (event.Report w.peer told) at peer none counted

          by : (o : Option Numbered) → log_of_peer new peer ≡ o → LeavesHeader (disk_at (stands_of w.left) peer) (own_header new.core.members.shape peer)
          by (Some list) there = log_headed new.core.members.shape w.after w.left peer list _ (report_listed.each peer list (goes.peers peer list there) there)
          by None there = subst (λ (s : Shape). LeavesHeader (disk_at (stands_of w.left) peer) (own_header s peer)) (sym shape_is) (elim (cases_eq peer w.peer) [
            | inl same ↦ subst (λ p. LeavesHeader (disk_at (stands_of w.left) p) (own_header c.core.members.shape p)) (sym same) (gone_headed (subst (λ p. counts c p ≡ true) same (before there)))
            | inr differs ↦ subst (λ d. LeavesHeader d (own_header c.core.members.shape peer)) (sym (call.others peer differs)) (keeps.headed peer (before there))
          ])

      pub report_peers : KeepsPeers new w.after w.left w.now
      report_peers = record { listed = report_listed; keeps = report_peers_fine; headed = report_headed }
