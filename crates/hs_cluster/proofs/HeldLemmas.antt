-- What a peer's disk may hold before its first job and behind it, by the core's laws.
use Rattle.std.proofs.Common.{◌≡◌, ◌≢◌, ◌∙◌, ap, sym, subst, ℕ, ◌+◌, ◌*◌, ◌≤◌, true, false, List, [], ◌∷◌, ◌++◌, length, take, drop, Option, Some, None, refl, arith}
use Rattle.std.proofs.lemmas.List.{append-nil, length-append, length-take-le, take-append-drop, take-append-le}
use Rattle.std.specs.Option.{option_map_or}
use Rattle.std.specs.Prelude.{fold, ◌==◌}
use Rattle.hs_moments.proofs.SaneLemmas.{after_reports, appended_beside, appended_stays, growing_beside, growing_without_call}
use Rattle.hs_moments.proofs.WorkLemmas.{next_job, floor_within}
use Rattle.hs_cluster.specs.Jobs.{is_own, list_after, sealed_list, waiting_after}
use Rattle.hs_cluster.specs.Kept.{sealed_front}
use Rattle.hs_events.specs.Sane.{IsSane, appended_of}
use Rattle.hs_moments.specs.Working.{HasReported, NextJob, SealsNext}
use Rattle.hs_core_words.specs.declared.event.Event.{Event}
use Rattle.hs_core_words.specs.declared.event.Event.TheVariants as event
use Rattle.hs_core_words.specs.Looking.{first_job}
use Rattle.hs_core_words.specs.Step.{step}
use Rattle.hs_desk.specs.Answers.{answers, is_append_of, is_read_of, is_seal_of}
use Rattle.hs_desk.specs.declared.done.Done.{Done}
use Rattle.hs_desk.specs.declared.done.Done.TheVariants as done
use Rattle.hs_desk.specs.declared.job.Job.{Job}
use Rattle.hs_desk.specs.declared.job.Job.TheVariants as job
use Rattle.hs_entry.specs.declared.entry.Entry.{Entry}
use Rattle.hs_entry.specs.declared.entry.Entry.TheVariants as kind
use Rattle.hs_entry.specs.declared.rank.Rank.{Rank}
use Rattle.hs_entry.specs.Entries.{is_of_base, rank_after, rank_of}
use Rattle.hs_events.specs.Asked.{failed_disk, report_in}
use Rattle.hs_events.specs.Course.{is_refused}
use Rattle.hs_events.specs.Due.{is_answer}
use Rattle.hs_events.specs.Whole.{Whole, floor, reach, step_whole}
use Rattle.hs_fold.specs.Shards.Setting.{Numbered}
use Rattle.hs_members.specs.Members.{IsPeer}
use Rattle.hs_moments.specs.WholeMachine.{IsFrontOf, last_of}
use Rattle.hs_peerlog.specs.Lists.{GoOn, IsKept, IsNumbered, Keeping, with_waiting}

-- a list begins that of a peer, and is no shorter than what is sealed
pub record MayHave (c : Whole) (peer : ℕ) (list : Numbered) : Type 0 where
  pub front : IsFrontOf peer list (reach c peer)
  pub long : floor c peer ≤ last_of list

-- what is sealed, and the entry that was appended, are those of some log
pub record HasKept (c : Whole) (peer : ℕ) : Type 0 where
  pub keeping : Keeping
  pub seen : List ℕ
  pub kept : IsKept keeping seen (sealed_front c peer) (appended_of peer c.core)

-- a peer of whose disk nothing is told keeps what is sealed
pub record KeepsSealed (c after : Whole) (peer : ℕ) : Type 0 where
  pub sealed : sealed_front after peer ≡ sealed_front c peer
  pub appended : appended_of peer after.core ≡ appended_of peer c.core

false_is_not : false ≡ true → ⊥
false_is_not e = grind arith

none_is_not : {A : Type 0} (x : A) → None ≡ Some x → ⊥
none_is_not x e = grind arith

some_is_not : {A : Type 0} (x : A) → Some x ≡ None → ⊥
some_is_not x e = grind arith

some_is : {A : Type 0} (x y : A) → Some x ≡ Some y → x ≡ y
some_is x y e = cc

same_number : (a b : ℕ) → (a == b) ≡ true → a ≡ b
same_number a b h = grind arith

-- ---- the last number of a list

-- behind an entry that is no Base's the rank has its number
rank_number : (r : Rank) (n : ℕ) (e : Entry) → is_of_base e ≡ false → (rank_after r n e).number ≡ n
rank_number r n (kind.View view) h = refl
rank_number r n (kind.Block op least bytes) h = refl
rank_number r n (kind.Mark op least block address) h = refl
rank_number r n (kind.Root op held address key) h = refl
rank_number r n (kind.Drop op key) h = refl
rank_number r n (kind.Enter op epoch) h = refl
rank_number r n (kind.Got sender epoch round total deltas) h = refl
rank_number r n (kind.Base view epoch swept round frames) h = absurd (false_is_not (sym h))
rank_number r n (kind.KeptBlock born mark flags count bytes) h = absurd (false_is_not (sym h))
rank_number r n (kind.KeptRoot created dropped counted address key) h = absurd (false_is_not (sym h))
rank_number r n (kind.KeptRound way other epoch round total deltas) h = absurd (false_is_not (sym h))

numbers : (n : ℕ) (rank : Rank) (es : Numbered) → GoOn n es → rank.number ≡ n → (fold (λ r x. rank_after r x.0 x.1) rank es).number ≡ n + length es
numbers n rank [] g is = is ∙ omega arith
numbers n rank (e ∷ es) g is = numbers (n + 1) (rank_after rank e.0 e.1) es g.2 (rank_number rank e.0 e.1 g.1 ∙ g.0) ∙ omega arith

pub last_numbered : (es : Numbered) → IsNumbered es → last_of es ≡ length es
unfolding rank_of
last_numbered es g = numbers 0 (record { view = 0; number = 0 }) es g refl ∙ omega arith

last_more : (es : Numbered) (n : ℕ) (e : Entry) → is_of_base e ≡ false → last_of (es ++ (n, e) ∷ []) ≡ n
unfolding rank_of
last_more es n e plain = go (record { view = 0; number = 0 }) es
  where
    go : (r : Rank) (es : Numbered) → (fold (λ r x. rank_after r x.0 x.1) r (es ++ (n, e) ∷ [])).number ≡ n
    go r [] = rank_number r n e plain
    go r (x ∷ es) = go (rank_after r x.0 x.1) es

-- ---- before a job

-- a peer of a store of one copy a shard has its shard's number
pub floor_in : (c : Whole) (peer : ℕ) → IsSane c → IsPeer c.core.members.shape peer → floor c peer ≤ length (reach c peer)
floor_in c peer sane is =
    let one : c.core.members.shape.shards * c.core.members.shape.copies ≡ c.core.members.shape.shards * 1 = ap (λ n. c.core.members.shape.shards * n) sane.alone.copies in
    floor_within c peer sane (omega (arith, is, one))

front_length : (c : Whole) (peer : ℕ) → floor c peer ≤ length (reach c peer) → length (sealed_front c peer) ≡ floor c peer
front_length c peer within = length-take-le (floor c peer) (reach c peer) within

last_sealed : (c : Whole) (peer : ℕ) → floor c peer ≤ length (reach c peer) → IsNumbered (sealed_front c peer) → last_of (sealed_front c peer) ≡ floor c peer
last_sealed c peer within numbered = last_numbered (sealed_front c peer) numbered ∙ front_length c peer within

pub front_take : (n : ℕ) (list : Numbered) → IsFrontOf 0 (take n list) list
front_take n list = (drop n list, sym (take-append-drop n list))

pub sealed_may : (c : Whole) (peer : ℕ) → floor c peer ≤ length (reach c peer) → IsNumbered (sealed_front c peer) → MayHave c peer (sealed_front c peer)
sealed_may c peer within numbered = record {
  front = front_take (floor c peer) (reach c peer);
  long = let same = last_sealed c peer within numbered in omega (arith, same);
}

plain_waits : (keeping : Keeping) (seen : List ℕ) (list : Numbered) (waiting : Option Entry) (entry : Entry) → IsKept keeping seen list waiting → waiting ≡ Some entry → is_of_base entry ≡ false
plain_waits keeping seen list None entry kept h = absurd (none_is_not entry h)
plain_waits keeping seen list (Some other) entry kept h = subst (λ e. is_of_base e ≡ false) (some_is other entry h) kept.waits.plain

-- what a Seal makes of the list: one entry more of the peer's
pub record Sealing (c : Whole) (peer number : ℕ) : Type 0 where
  pub list : sealed_list (sealed_front c peer) (appended_of peer c.core) ≡ take number (reach c peer)
  pub last : last_of (sealed_list (sealed_front c peer) (appended_of peer c.core)) ≡ number
  pub next : number ≡ floor c peer + 1

pub sealing : (c : Whole) (peer number : ℕ) → floor c peer ≤ length (reach c peer) → HasKept c peer → SealsNext c peer number → Sealing c peer number
sealing c peer number within kept h = record {
  list = ap (λ w. sealed_list (sealed_front c peer) w) h.appended ∙ same ∙ sym h.next.list;
  last = ap (λ w. last_of (sealed_list (sealed_front c peer) w)) h.appended ∙ ap last_of same ∙ last_more (sealed_front c peer) number h.entry (plain_waits kept.keeping kept.seen (sealed_front c peer) (appended_of peer c.core) h.entry kept.kept h.appended);
  next = h.next.next;
}
  where
    same : with_waiting (sealed_front c peer) h.entry ≡ sealed_front c peer ++ (number, h.entry) ∷ []
    same = ap (λ n. sealed_front c peer ++ (n, h.entry) ∷ []) (ap (λ n. n + 1) (last_sealed c peer within kept.kept.numbered) ∙ sym h.next.next)

pub after_may : (c : Whole) (peer : ℕ) (j : Job) → floor c peer ≤ length (reach c peer) → HasKept c peer → NextJob c peer j
    → MayHave c peer (list_after j (sealed_front c peer) (appended_of peer c.core))
after_may c peer j within kept next = go j next
  where
    stays : MayHave c peer (sealed_front c peer)
    stays = sealed_may c peer within kept.kept.numbered

    go : (j : Job) → NextJob c peer j → MayHave c peer (list_after j (sealed_front c peer) (appended_of peer c.core))
    go (job.Append number entry) h = stays
    go (job.Seal number) h =
        let s = sealing c peer number within kept h in
        record {
          front = subst (λ l. IsFrontOf peer l (reach c peer)) (sym s.list) (front_take number (reach c peer));
          long = omega (arith, s.last, s.next);
        }
    go (job.Read number) h = stays
    go job.Reset h = absurd h
    go (job.Copy from number) h = absurd h
    go job.Reclaim h = absurd h

pub own_job : (c : Whole) (peer : ℕ) → IsSane c → is_own (first_job peer c.core) ≡ true
own_job c peer sane = go (first_job peer c.core) refl
  where
    by : (j : Job) → NextJob c peer j → is_own (Some j) ≡ true
    by (job.Append number entry) h = refl
    by (job.Seal number) h = refl
    by (job.Read number) h = refl
    by job.Reset h = absurd h
    by (job.Copy from number) h = absurd h
    by job.Reclaim h = absurd h

    go : (o : Option Job) → first_job peer c.core ≡ o → is_own o ≡ true
    go None first = refl
    go (Some j) first = by j (next_job c peer j sane first)

-- ---- behind its report

answer_of : (c : Whole) (peer : ℕ) (j : Job) (told : Done) → first_job peer c.core ≡ Some j → is_answer c.core peer told ≡ true → answers peer j told ≡ true
answer_of c peer j told first answer = subst (λ o. option_map_or (λ x. answers peer x told) o false ≡ true) first answer

pub append_is : (n : ℕ) (j : Job) → is_append_of n j ≡ true → (entry : Entry) × (j ≡ job.Append n entry)
append_is n (job.Append number entry) h = (entry, ap (λ k. job.Append k entry) (sym (same_number n number h)))
append_is n (job.Seal number) h = absurd (false_is_not h)
append_is n (job.Read number) h = absurd (false_is_not h)
append_is n job.Reset h = absurd (false_is_not h)
append_is n (job.Copy from number) h = absurd (false_is_not h)
append_is n job.Reclaim h = absurd (false_is_not h)

pub seal_is : (n : ℕ) (j : Job) → is_seal_of n j ≡ true → j ≡ job.Seal n
seal_is n (job.Append number entry) h = absurd (false_is_not h)
seal_is n (job.Seal number) h = ap (λ k. job.Seal k) (sym (same_number n number h))
seal_is n (job.Read number) h = absurd (false_is_not h)
seal_is n job.Reset h = absurd (false_is_not h)
seal_is n (job.Copy from number) h = absurd (false_is_not h)
seal_is n job.Reclaim h = absurd (false_is_not h)

pub read_is : (n : ℕ) (j : Job) → is_read_of n j ≡ true → j ≡ job.Read n
read_is n (job.Append number entry) h = absurd (false_is_not h)
read_is n (job.Seal number) h = absurd (false_is_not h)
read_is n (job.Read number) h = ap (λ k. job.Read k) (sym (same_number n number h))
read_is n job.Reset h = absurd (false_is_not h)
read_is n (job.Copy from number) h = absurd (false_is_not h)
read_is n job.Reclaim h = absurd (false_is_not h)

-- what is taken of a list that grew
take_grown : (n : ℕ) (old new : Numbered) → n ≤ length old → IsFrontOf 0 old new → take n new ≡ take n old
take_grown n old new low front = ap (λ l. take n l) front.1 ∙ take-append-le n old front.0 low

whole_front : (list : Numbered) → IsFrontOf 0 list list
whole_front list = ([], sym (append-nil list))

seal_within : (c : Whole) (peer number : ℕ) → IsSane c → IsPeer c.core.members.shape peer → SealsNext c peer number → number ≤ length (reach c peer)
seal_within c peer number sane is h =
    let long = length-append (take number (reach c peer)) (drop number (reach c peer)) in
    let all = ap length (take-append-drop number (reach c peer)) in
    let one = ap length h.next.list ∙ length-append (sealed_front c peer) ((number, h.entry) ∷ []) in
    let front = front_length c peer (floor_in c peer sane is) in
    let next = h.next.next in
    omega (arith, long, all, one, front, next)

-- the job was done: the peer's list still begins with what is on the disk then, and has no more sealed
pub done_may : (c : Whole) (peer at : ℕ) (j : Job) (told : Done) → IsSane c → IsPeer c.core.members.shape peer → HasKept c peer → first_job peer c.core ≡ Some j → is_answer c.core peer told ≡ true
    → failed_disk told ≡ None → is_refused (step (event.Report peer told) at c.core).ended ≡ false
    → MayHave (step_whole (event.Report peer told) at c) peer (list_after j (sealed_front c peer) (appended_of peer c.core))
done_may c peer at j told sane is kept first answer fine there =
    let behind = after_reports c told at peer sane answer there in
    let may = after_may c peer j (floor_in c peer sane is) kept (next_job c peer j sane first) in
    record { front = behind.front (list_after j (sealed_front c peer) (appended_of peer c.core)) may.front; long = go told (answer_of c peer j told first answer) fine behind.told may.long }
  where
    new : Whole
    new = step_whole (event.Report peer told) at c

    list : Numbered
    list = list_after j (sealed_front c peer) (appended_of peer c.core)

    go : (d : Done) → answers peer j d ≡ true → failed_disk d ≡ None → HasReported c new peer d → floor c peer ≤ last_of list → floor new peer ≤ last_of list
    go (done.Stored number) a f h long = let same = h.0 in omega (arith, same, long)
    go (done.Sealed number) a f h long =
        let seals : j ≡ job.Seal number = seal_is number j a in
        let s = sealing c peer number (floor_in c peer sane is) kept (subst (λ x. NextJob c peer x) seals (next_job c peer j sane first)) in
        let last : last_of list ≡ number = ap (λ x. last_of (list_after x (sealed_front c peer) (appended_of peer c.core))) seals ∙ s.last in
        let same = h.0 in
        omega (arith, same, last)
    go (done.Bytes number bytes) a f h long = let same = h.0 in omega (arith, same, long)
    go (done.Gone number) a f h long = let same = h.0 in omega (arith, same, long)
    go done.Emptied a f h long = absurd h
    go (done.Copied number) a f h long = absurd h
    go (done.Stepped switched) a f h long = absurd h
    go (done.Failed disk) a f h long = absurd (some_is_not disk f)

-- the disk failed: what began the list still does, and nothing is sealed
pub failed_may : (c : Whole) (peer at disk : ℕ) (told : Done) (list : Numbered) → IsSane c → is_answer c.core peer told ≡ true → failed_disk told ≡ Some disk
    → is_refused (step (event.Report peer told) at c.core).ended ≡ false → MayHave c peer list → MayHave (step_whole (event.Report peer told) at c) peer list
failed_may c peer at disk told list sane answer fails there may =
    let behind = after_reports c told at peer sane answer there in
    record { front = behind.front list may.front; long = let zero_is = go told fails behind.told in omega (arith, zero_is) }
  where
    new : Whole
    new = step_whole (event.Report peer told) at c

    go : (d : Done) → failed_disk d ≡ Some disk → HasReported c new peer d → floor new peer ≡ 0
    go (done.Stored number) f h = absurd (none_is_not disk f)
    go (done.Sealed number) f h = absurd (none_is_not disk f)
    go (done.Bytes number bytes) f h = absurd (none_is_not disk f)
    go (done.Gone number) f h = absurd (none_is_not disk f)
    go done.Emptied f h = absurd h
    go (done.Copied number) f h = absurd h
    go (done.Stepped switched) f h = absurd h
    go (done.Failed d) f h = h

-- where the core goes on, just that is sealed then
pub done_is : (c : Whole) (peer at : ℕ) (j : Job) (told : Done) → IsSane c → IsPeer c.core.members.shape peer → HasKept c peer → first_job peer c.core ≡ Some j → is_answer c.core peer told ≡ true
    → failed_disk told ≡ None → (step (event.Report peer told) at c.core).ended ≡ None
    → (sealed_front (step_whole (event.Report peer told) at c) peer ≡ list_after j (sealed_front c peer) (appended_of peer c.core))
    × (appended_of peer (step (event.Report peer told) at c.core) ≡ waiting_after j (appended_of peer c.core))
done_is c peer at j told sane is kept first answer fine going =
    let behind = after_reports c told at peer sane answer (ap is_refused going) in
    go told (answer_of c peer j told first answer) fine behind.told (behind.front (reach c peer) (whole_front (reach c peer)))
  where
    new : Whole
    new = step_whole (event.Report peer told) at c

    next : NextJob c peer j
    next = next_job c peer j sane first

    -- no more is sealed
    same_front : IsFrontOf peer (reach c peer) (reach new peer) → floor new peer ≡ floor c peer → sealed_front new peer ≡ sealed_front c peer
    same_front front same = ap (λ n. take n (reach new peer)) same ∙ take_grown (floor c peer) (reach c peer) (reach new peer) (floor_in c peer sane is) front

    read : (number : ℕ) → is_read_of number j ≡ true → IsFrontOf peer (reach c peer) (reach new peer) → floor new peer ≡ floor c peer → appended_of peer new.core ≡ None
        → (sealed_front new peer ≡ list_after j (sealed_front c peer) (appended_of peer c.core)) × (appended_of peer new.core ≡ waiting_after j (appended_of peer c.core))
    read number a front same none =
        let reads : j ≡ job.Read number = read_is number j a in
        let waits : appended_of peer c.core ≡ None = subst (λ x. NextJob c peer x) reads next in
        (same_front front same ∙ ap (λ x. list_after x (sealed_front c peer) (appended_of peer c.core)) (sym reads), none ∙ sym waits ∙ ap (λ x. waiting_after x (appended_of peer c.core)) (sym reads))

    go : (d : Done) → answers peer j d ≡ true → failed_disk d ≡ None → HasReported c new peer d → IsFrontOf peer (reach c peer) (reach new peer)
        → (sealed_front new peer ≡ list_after j (sealed_front c peer) (appended_of peer c.core)) × (appended_of peer new.core ≡ waiting_after j (appended_of peer c.core))
    go (done.Stored number) a f h front =
        let appends = append_is number j a in (
          same_front front h.0 ∙ ap (λ x. list_after x (sealed_front c peer) (appended_of peer c.core)) (sym appends.1),
          h.1 appends.0 (first ∙ ap (λ x. Some x) appends.1) ∙ ap (λ x. waiting_after x (appended_of peer c.core)) (sym appends.1),
        )
    go (done.Sealed number) a f h front =
        let seals : j ≡ job.Seal number = seal_is number j a in
        let n : SealsNext c peer number = subst (λ x. NextJob c peer x) seals next in
        let s = sealing c peer number (floor_in c peer sane is) kept n in (
          ap (λ k. take k (reach new peer)) h.0 ∙ take_grown number (reach c peer) (reach new peer) (seal_within c peer number sane is n) front ∙ sym s.list ∙ ap (λ x. list_after x (sealed_front c peer) (appended_of peer c.core)) (sym seals),
          h.1 ∙ ap (λ x. waiting_after x (appended_of peer c.core)) (sym seals),
        )
    go (done.Bytes number bytes) a f h front = read number a front h.0 h.1
    go (done.Gone number) a f h front = read number a front h.0 h.1
    go done.Emptied a f h front = absurd h
    go (done.Copied number) a f h front = absurd h
    go (done.Stepped switched) a f h front = absurd h
    go (done.Failed disk) a f h front = absurd (some_is_not disk f)

-- ---- where a peer's disk is not told of

keeps_sealed : (c new : Whole) (peer : ℕ) → IsSane c → IsPeer c.core.members.shape peer → IsFrontOf peer (reach c peer) (reach new peer) → floor new peer ≡ floor c peer → appended_of peer new.core ≡ appended_of peer c.core → KeepsSealed c new peer
keeps_sealed c new peer sane is front same appended = record {
  sealed = ap (λ n. take n (reach new peer)) same ∙ take_grown (floor c peer) (reach c peer) (reach new peer) (floor_in c peer sane is) front;
  appended = appended;
}

pub sealed_stays : (c : Whole) (e : Event) (at peer : ℕ) → IsSane c → IsPeer c.core.members.shape peer → report_in e ≡ None → (step e at c.core).ended ≡ None → KeepsSealed c (step_whole e at c) peer
sealed_stays c e at peer sane is quiet going =
    let same = appended_stays c e at peer sane quiet going in
    keeps_sealed c (step_whole e at c) peer sane is ((growing_without_call c e at peer sane quiet (ap is_refused going)).front (reach c peer) (whole_front (reach c peer))) same.1 same.0

pub sealed_beside : (c : Whole) (told : Done) (at peer other : ℕ) → IsSane c → IsPeer c.core.members.shape other → is_answer c.core peer told ≡ true → other ≢ peer → (step (event.Report peer told) at c.core).ended ≡ None
    → KeepsSealed c (step_whole (event.Report peer told) at c) other
sealed_beside c told at peer other sane is answer differs going =
    let same = appended_beside c told at peer other sane answer differs going in
    keeps_sealed c (step_whole (event.Report peer told) at c) other sane is ((growing_beside c told at peer other sane answer differs (ap is_refused going)).front (reach c other) (whole_front (reach c other))) same.1 same.0
