-- What each event leaves of the peers: their number, who is good, that their queues hold no copying step, and that each copies from a peer.
use Rattle.std.proofs.Common.{◌≡◌, ◌⊎◌, inl, inr, ◌∙◌, sym, ap, subst, ℕ, ◌+◌, ◌<◌, ◌==◌, ◌||◌, Bool, true, false, cond, not, drop, length, List, [], ◌∷◌, ◌++◌, Option, Some, None, IfSome, refl, arith, is_none, nat_le, nat_lt, map}
use Rattle.std.proofs.lemmas.Bool.{cases_lt, eqb-true}
use Rattle.std.proofs.lemmas.List.{get_or_past}
use Rattle.std.specs.List.{AllByRecursion, enumerate_from}
use Rattle.std.specs.Option.{option_map, option_map_or}
use Rattle.std.specs.Prelude.{filter, if◌then◌else◌, slice_get, slice_index_or}
use Rattle.hs_core_words.specs.Opening.{begin_views, note_down}
use Rattle.hs_anatomy.specs.Strokes.{Adds, Answers as Replies, BeginsAgain, Besides, Follows, IsStill, Leaves, Notes, Proposes, Reads, Renews, SendsAgain, Still, Stroke, TakesOut, TurnsGood, Waits}
use Rattle.hs_anatomy.specs.Refusing.{refusal_in}
use Rattle.hs_anatomy.specs.Acts.{Aside, ByDisk, ByLine, Copies, Empties, Hears, IsFelled, Loses, Repeats, Reports, Resends, Seals, Starts, Takes, Views, without_job}
use Rattle.hs_anatomy.proofs.StrokeLemmas.{strokes_of}
use Rattle.hs_anatomy.proofs.StillLemmas.{strokes_keep}
use Rattle.hs_anatomy.proofs.EventLemmas.{does_acts, opening_acts}
use Rattle.hs_settled.proofs.CausesListLemmas.{set_keeps, some_is}
use Rattle.hs_awaiting.specs.Words.{change_if, change_with, each}
use Rattle.hs_core_words.specs.Asking.{no_peer, not_down, send_round}
use Rattle.hs_core_words.specs.Changing.{add_entry_tasks, add_task, change_group, change_pool, change_rejoin, post, set_rejoin, set_status, set_tasks}
use Rattle.hs_core_words.specs.declared.event.Event.{Event}
use Rattle.hs_core_words.specs.declared.event.Event.TheVariants as event
use Rattle.hs_core_words.specs.declared.task.Task.{Task}
use Rattle.hs_core_words.specs.Effects.{round_messages}
use Rattle.hs_core_words.specs.Failing.{leave}
use Rattle.hs_core_words.specs.Joining.{begin_joining, follow_lead, joining_peers, start}
use Rattle.hs_core_words.specs.Looking.{catalogue_of, copying_step, group_of, home, lead_of, rejoin_of, sealed_of, status_of, tasks_of}
use Rattle.hs_core_words.specs.Operating.{add_read, propose_entry}
use Rattle.hs_core_words.specs.State.{Core}
use Rattle.hs_core_words.specs.Step.{begin_event, do_event, end_event, keep_entries, line_of, refuse_entries, run_event, step}
use Rattle.hs_desk.specs.Answers.{answers, is_copy_from}
use Rattle.hs_desk.specs.declared.done.Done.TheVariants as done
use Rattle.hs_desk.specs.declared.fault.CoreFault.{CoreFault}
use Rattle.hs_desk.specs.declared.job.Job.{Job}
use Rattle.hs_desk.specs.declared.job.Job.TheVariants as job
use Rattle.hs_entry.specs.declared.entry.Entry.{Entry}
use Rattle.hs_events.specs.Due.{is_answer}
use Rattle.hs_fold.proofs.Shards.PlaceLemmas.{length-set}
use Rattle.hs_limits.specs.declared.limits.PeerStatus.{PeerStatus}
use Rattle.hs_limits.specs.declared.limits.PeerStatus.TheVariants.{Down, Good, Joining}
use Rattle.hs_limits.specs.Shape.{peer_of}
use Rattle.hs_members.specs.Members.{Members, good_lengths, is_down, is_good_status, is_joining, longer, longest, status}
use Rattle.hs_model.specs.declared.reply.Reply.{Reply}
use Rattle.hs_model.specs.declared.reply.Reply.TheVariants as reply
use Rattle.hs_model.specs.Refusals.{first, refused_when}
use Rattle.hs_settled.proofs.NotingLemmas.{all_append}
use Rattle.hs_post.specs.Pool.{restart_numbers, without}
use Rattle.hs_rejoin.specs.Rejoin.{Rejoin, copied, emptied, follow, new_rejoin, next_job}
use Rattle.hs_replica.specs.declared.replica.Replica.{Replica}
use Rattle.hs_replica.specs.Group.{last_number, proposal, propose, take_entry}
use Rattle.hs_rounds.specs.Rounds.{sent_back}
use Rattle.hs_shard.specs.Rounds.{messages}

-- ---- the lead is a peer

pub good_low : (m : Members) (k : ℕ) → is_good_status (status k m) ≡ true → k < length m.statuses
good_low m k good = elim (cases_lt k (length m.statuses)) [
  | inl low ↦ low
  | inr high ↦ let bad : false ≡ true = ap is_good_status (sym (get_or_past m.statuses k Down high)) ∙ good in absurd (cc bad)
]

longest_in : (Q : ℕ × ℕ → Type 0) (xs : List (ℕ × ℕ)) → AllByRecursion Q xs → (x : ℕ × ℕ) → longest xs ≡ Some x → Q x
longest_in Q [] h x e = absurd cc
longest_in Q (y ∷ ys) h x e = subst Q (some_is (longer y (longest ys)) x e) (pick (longest ys) (λ z f. longest_in Q ys h.1 z f))
  where
    by_test : (z : ℕ × ℕ) (b : Bool) → Q z → Q (if b then y else z)
    by_test z true k = h.0
    by_test z false k = k

    pick : (o : Option (ℕ × ℕ)) → ((z : ℕ × ℕ) → o ≡ Some z → Q z) → Q (longer y o)
    pick None f = h.0
    pick (Some z) f = by_test z (nat_le z.1 y.1) (f z refl)

filter_all : (q : ℕ × ℕ → Bool) (xs : List (ℕ × ℕ)) → AllByRecursion (λ x. q x ≡ true) (filter q xs)
filter_all q [] = tt
filter_all q (x ∷ xs) = go (q x) refl (filter_all q xs)
  where
    go : (b : Bool) → q x ≡ b → AllByRecursion (λ y. q y ≡ true) (filter q xs) → AllByRecursion (λ y. q y ≡ true) (filter q (x ∷ xs))
    go true t h = rw t (t, h)
    go false t h = rw t h

pub lead_low : (shard lead : ℕ) (c : Core) → lead_of shard c ≡ Some lead → lead < length c.members.statuses
lead_low shard lead c e =
    let lengths : List ℕ = map (λ (copy : Replica). length copy.stamps) (group_of shard c).copies in
    let all : AllByRecursion (λ y. is_good_status (status y.0 c.members) ≡ true) (good_lengths shard lengths c.members) =
    filter_all (λ (y : ℕ × ℕ). is_good_status (status y.0 c.members)) (enumerate_from (peer_of c.members.shape shard 0) lengths) in
    go (longest (good_lengths shard lengths c.members)) (λ x f. longest_in (λ y. is_good_status (status y.0 c.members) ≡ true) (good_lengths shard lengths c.members) all x f) e
  where
    go : (o : Option (ℕ × ℕ)) → ((x : ℕ × ℕ) → o ≡ Some x → is_good_status (status x.0 c.members) ≡ true) → option_map (λ x. x.0) o ≡ Some lead → lead < length c.members.statuses
    go None f k = absurd (cc k)
    go (Some x) f k = let same : x.0 ≡ lead = cc k in good_low c.members lead (subst (λ p. is_good_status (status p c.members) ≡ true) same (f x refl))

-- ---- what is kept

-- a job that copies from no other peer
abbrev pub IsOwn : Job → Type 0
IsOwn (job.Append number entry) = Unit {0}
IsOwn (job.Seal number) = Unit {0}
IsOwn (job.Read number) = Unit {0}
IsOwn job.Reset = Unit {0}
IsOwn (job.Copy from number) = ⊥
IsOwn job.Reclaim = Unit {0}

abbrev pub AreOwn : List Task → Type 0
AreOwn tasks = AllByRecursion (λ (t : Task). IsOwn t.job) tasks

abbrev pub CopiesFrom : ℕ → Option Rejoin → Type 0
CopiesFrom n rejoin = IfSome rejoin (λ (r : Rejoin). r.from < n)

pub record Peers : Type 0 where
  pub statuses : List PeerStatus
  pub tasks : List (List Task)
  pub rejoins : List (Option Rejoin)

abbrev pub peers_in : Core → Peers
peers_in c = record { statuses = c.members.statuses; tasks = c.tasks; rejoins = c.progress.rejoins }

-- there are so many peers, each is good or excused; their queues hold no copying step, and each that joins copies from one of them
pub record Seated (n : ℕ) (R : ℕ → Type 0) (p : Peers) : Type 0 where
  pub statuses : length p.statuses ≡ n
  pub count : length p.tasks ≡ n
  pub good : (x : ℕ) → x < n → R x ⊎ (slice_index_or p.statuses x Down ≡ Good)
  pub tasks : (x : ℕ) → AreOwn (slice_index_or p.tasks x [])
  pub rejoins : (x : ℕ) → CopiesFrom n (slice_index_or p.rejoins x None)

all_drop : (ts : List Task) → AreOwn ts → AreOwn (drop 1 ts)
all_drop [] h = tt
all_drop (t ∷ ts) h = h.1

module _ (n : ℕ) (R : ℕ → Type 0) where
  abbrev pub S : Core → Type 0
  S c = Seated n R (peers_in c)

  -- ---- how changes are joined

  seats_with : {B : Type 0} (o : Option B) (f : B → Core → Core) (c : Core) → ((y : B) (x : Core) → o ≡ Some y → S x → S (f y x)) → S c → S (change_with o f c)
  seats_with None f c h p = p
  seats_with (Some y) f c h p = h y c refl p

  pub seats_each : {B : Type 0} (ys : List B) (f : B → Core → Core) (c : Core) → ((y : B) (x : Core) → S x → S (f y x)) → S c → S (each ys f c)
  seats_each [] f c h p = p
  seats_each (y ∷ ys) f c h p = seats_each ys f (f y c) h (h y c p)

  -- ---- single changes

  on_tasks : (peer : ℕ) (ts : List Task) (c : Core) → AreOwn ts → S c → S (set_tasks peer ts c)
  on_tasks peer ts c own p = record {
    statuses = p.statuses;
    count = length-set c.tasks peer ts ∙ p.count;
    good = p.good;
    tasks = set_keeps (λ q xs. AreOwn xs) [] c.tasks peer ts (λ low. own) p.tasks;
    rejoins = p.rejoins;
  }

  on_task : (peer : ℕ) (t : Task) (c : Core) → IsOwn t.job → S c → S (add_task peer t c)
  on_task peer t c own p = on_tasks peer (tasks_of peer c ++ t ∷ []) c (all_append (λ (x : Task). IsOwn x.job) (tasks_of peer c) (t ∷ []) (p.tasks peer) (own, tt)) p

  on_entry : (peer number : ℕ) (entry : Entry) (c : Core) → S c → S (add_entry_tasks peer number entry c)
  on_entry peer number entry c p =
      let one : Task = record { job = job.Append number entry; line = 0 } in
      let two : Task = record { job = job.Seal number; line = 0 } in
      on_task peer two (add_task peer one c) tt (on_task peer one c tt p)

  on_rejoin : (peer : ℕ) (o : Option Rejoin) (c : Core) → CopiesFrom n o → S c → S (set_rejoin peer o c)
  on_rejoin peer o c from p = record {
    statuses = p.statuses;
    count = p.count;
    good = p.good;
    tasks = p.tasks;
    rejoins = set_keeps (λ q x. CopiesFrom n x) None c.progress.rejoins peer o (λ low. from) p.rejoins;
  }

  on_status : (peer : ℕ) (s : PeerStatus) (c : Core) → (peer < n → R peer ⊎ (s ≡ Good)) → S c → S (set_status peer s c)
  on_status peer s c new p = record {
    statuses = length-set c.members.statuses peer s ∙ p.statuses;
    count = p.count;
    good = set_keeps (λ q st. q < n → R q ⊎ (st ≡ Good)) Down c.members.statuses peer s (λ l. new) p.good;
    tasks = p.tasks;
    rejoins = p.rejoins;
  }

  -- how a peer copies from then on
  on_change : (peer : ℕ) (f : Rejoin → Rejoin) (c : Core) → ((r : Rejoin) → r.from < n → (f r).from < n) → S c → S (change_rejoin peer f c)
  on_change peer f c h p = on_rejoin peer (option_map f (rejoin_of peer c)) c (go (rejoin_of peer c) (p.rejoins peer)) p
    where
      go : (o : Option Rejoin) → CopiesFrom n o → CopiesFrom n (option_map f o)
      go None k = tt
      go (Some r) k = h r k

  lead_in : (shard lead : ℕ) (c : Core) → lead_of shard c ≡ Some lead → S c → lead < n
  lead_in shard lead c e p = subst (λ k. lead < k) p.statuses (lead_low shard lead c e)

  -- ---- entries and operations

  seats_propose : (shard : ℕ) (entry : Entry) (c : Core) → S c → S (propose_entry shard entry c)
  seats_propose shard entry c p =
      seats_with (lead_of shard c) (λ peer. add_entry_tasks peer (last_number (group_of shard c) + 1) entry) (post (proposal entry (group_of shard c)) (change_group shard (propose entry) c))
      (λ peer x e q. on_entry peer (last_number (group_of shard c) + 1) entry x q) p

  -- ---- views and peers

  seats_begin_joining : (peer : ℕ) (c : Core) → S c → S (begin_joining peer c)
  seats_begin_joining peer c p = on_rejoin peer (option_map new_rejoin (lead_of (home peer c) c)) c (go (lead_of (home peer c) c) refl) p
    where
      go : (o : Option ℕ) → lead_of (home peer c) c ≡ o → CopiesFrom n (option_map new_rejoin o)
      go None e = tt
      go (Some lead) e = lead_in (home peer c) lead c e p

  seats_start : (peer : ℕ) (c : Core) → (peer < n → R peer) → S c → S (start peer c)
  seats_start peer c may p = seats_begin_joining peer (set_status peer Joining c) (on_status peer Joining c (λ low. inl (may low)) p)

  -- a lead is a peer whatever happens beside
  seats_follow : (shard : ℕ) (c : Core) → S c → S (follow_lead shard c)
  seats_follow shard c p =
      seats_with (lead_of shard c) (λ lead x. each (joining_peers shard x) (λ peer. change_rejoin peer (follow lead)) x) c
      (λ lead x e q. seats_each (joining_peers shard x) (λ peer. change_rejoin peer (follow lead)) x (λ peer y k. on_change peer (follow lead) y (λ r low. lead_in shard lead c e p) k) q) p

  seats_leave : (peer : ℕ) (c : Core) → (peer < n → R peer) → S c → S (leave peer c)
  seats_leave peer c may p =
      let one : Core = set_status peer Down c in
      let two : Core = set_tasks peer [] one in
      on_rejoin peer None two tt (on_tasks peer [] one tt (on_status peer Down c (λ low. inl (may low)) p))

  seats_round : (back shard : ℕ) (c : Core) → S c → S (send_round back shard c)
  seats_round back shard c p =
      let run = (catalogue_of shard c).run in
      seats_with (sent_back back run) (λ sent. post (round_messages shard (messages (catalogue_of shard c).shape.shards sent.0 sent.1 run))) c (λ sent x e q. q) p

-- ---- an event

-- who may go down by an event: the peer of a `fail` line, or the one whose disk is reported to have failed
abbrev pub FallsBy : Event → ℕ → Type 0
FallsBy (event.Line line o) x = ⊥
FallsBy (event.Report peer d) x = d ≡ done.Failed x
FallsBy (event.Turn line peer) x = ⊥
FallsBy (event.Deliver line number) x = ⊥
FallsBy (event.Lose line number) x = ⊥
FallsBy (event.Repeat line number) x = ⊥
FallsBy (event.Nudge line peer) x = ⊥
FallsBy (event.Fail line peer) x = peer ≡ x
FallsBy (event.Start line peer) x = ⊥

module _ (n : ℕ) (R : ℕ → Type 0) where
  -- a peer that is not refused as up is excused, or there is none
  start_free : (peer : ℕ) (c : Core) → S n R c → first (no_peer peer c ∷ not_down peer c ∷ []) ≡ None → peer < n → R peer
  start_free peer c p free low = elim (p.good peer low) [
    | inl r ↦ r
    | inr good ↦ absurd (refused (no_peer peer c) (ap (λ s. first (no_peer peer c ∷ refused_when (not (is_down s)) (reply.NotDown peer) ∷ [])) (sym good) ∙ free))
  ]
    where
      refused : (o : Option Reply) → first (o ∷ Some (reply.NotDown peer) ∷ []) ≡ None → ⊥
      refused None e = cc e
      refused (Some r) e = cc e

  -- ---- strokes

  module _ {s : Core} {e : Option Event} (may : (x : ℕ) → IsFelled s e x → x < n → R x) where
    seats_aside : (a b : Core) → Aside s e a b → S n R a → S n R b
    seats_aside a b (Reports peer d known) p = on_tasks n R peer (drop 1 (tasks_of peer a)) a (all_drop (tasks_of peer a) (p.tasks peer)) p
    seats_aside a b (Seals peer number known) p = on_tasks n R peer (drop 1 (tasks_of peer a)) a (all_drop (tasks_of peer a) (p.tasks peer)) p
    seats_aside a b (Empties peer known) p = on_change n R peer emptied (without_job peer a) (λ r low. low) (on_tasks n R peer (drop 1 (tasks_of peer a)) a (all_drop (tasks_of peer a) (p.tasks peer)) p)
    seats_aside a b (Copies peer number known) p = on_change n R peer (copied number) (without_job peer a) (λ r low. low) (on_tasks n R peer (drop 1 (tasks_of peer a)) a (all_drop (tasks_of peer a) (p.tasks peer)) p)
    seats_aside a b (Loses number m at) p = p
    seats_aside a b (Takes number shard to view next entry known fits) p =
        let one : Core = change_group shard (take_entry to entry) (change_pool (without number) a) in
        seats_follow n R shard (add_entry_tasks to next entry one) (on_entry n R to next entry one p)
    seats_aside a b (Hears number shard from to view sealed known good) p = p
    seats_aside a b (Repeats number m at room) p = p
    seats_aside a b (Resends shard peer known) p = p
    seats_aside a b (Starts line peer start known free) p = seats_start n R peer a (start_free peer a p (subst (λ (c : Core). refusal_in (event.Start line peer) c ≡ None) (sym start) free)) p
    seats_aside a b (Views shard) p = p

    seats_still : (a b : Core) → Still s e a b → S n R a → S n R b
    seats_still a b (Besides x) p = seats_aside a b x p
    seats_still a b (Proposes shard entry by) p = seats_propose n R shard entry a p
    seats_still a b (Reads line number w at waits) p =
        seats_with n R (lead_of w.shard a) (add_read number line) a (λ peer x e q. on_task n R peer (record { job = job.Read number; line = line }) x tt q) p
    seats_still a b (SendsAgain back shard peer known) p = seats_round n R back shard a p
    seats_still a b (Leaves peer known) p = seats_leave n R peer a (may peer known) p
    seats_still a b (TurnsGood peer) p = on_rejoin n R peer None (set_status peer Good a) tt (on_status n R peer Good a (λ low. inr refl) p)
    seats_still a b (BeginsAgain shard) p = seats_each n R (joining_peers shard a) begin_joining a (λ peer x q. seats_begin_joining n R peer x q) p
    seats_still a b (Follows shard) p = seats_follow n R shard a p

    seats_stroke : (a b : Core) → Stroke s e a b → S n R a → S n R b
    seats_stroke a b (IsStill x) p = seats_still a b x p
    seats_stroke a b (Notes by) p = p
    seats_stroke a b (Adds line o start is) p = p
    seats_stroke a b (Waits line w was at one) p = p
    seats_stroke a b (Replies line w was told at one by) p = p
    seats_stroke a b (TakesOut shard number entry next) p = p
    seats_stroke a b (Renews shard) p = p

  falls_by : (e : Event) (c : Core) (x : ℕ) → IsFelled c (Some e) x → FallsBy e x
  falls_by e c x (ByLine line is free) = subst (λ y. FallsBy y x) (sym (event_is (event.Fail line x) is)) refl
    where
      event_is : (y : Event) → Some e ≡ Some y → e ≡ y
      event_is y is = cc is
  falls_by e c x (ByDisk by is) = subst (λ y. FallsBy y x) (sym (event_is (event.Report by (done.Failed x)) is)) refl
    where
      event_is : (y : Event) → Some e ≡ Some y → e ≡ y
      event_is y is = cc is

  seats_do : (e : Event) (c : Core) → ((x : ℕ) → FallsBy e x → x < n → R x) → S n R c → S n R (do_event e c)
  seats_do e c may p = strokes_keep (S n R) (seats_stroke (λ x felled. may x (falls_by e c x felled))) (do_event e c) (strokes_of (does_acts c e)) p

  -- what a core makes of that with which it opens
  pub seats_opening : (c : Core) → S n R c → S n R (note_down (begin_views c))
  seats_opening c p = strokes_keep (S n R) (seats_stroke (λ x felled. absurd (nobody x felled))) (note_down (begin_views c)) (strokes_of (opening_acts c)) p
    where
      nobody : (x : ℕ) → IsFelled c None x → ⊥
      nobody x (ByLine line is free) = cc is
      nobody x (ByDisk by is) = cc is

  seats_begin : (line moment : ℕ) (c : Core) → S n R c → S n R (begin_event line moment c)
  seats_begin line moment c p = go _
    where
      go : (b : Bool) → S n R (record (change_if b (change_pool restart_numbers) c) { moment = moment; progress = record c.progress { event_line = cond (line == 0) c.progress.event_line line } })
      go true = p
      go false = p

  pub seats_end : (c : Core) → S n R c → S n R (end_event c)
  seats_end c p = go (nat_lt c.limits.ops (length c.journal + length c.entries))
    where
      go : (b : Bool) → S n R (cond b (refuse_entries c) (keep_entries c))
      go true = p
      go false = p

  pub seats_run : (e : Event) (moment : ℕ) (c : Core) → ((x : ℕ) → FallsBy e x → x < n → R x) → S n R c → S n R (step e moment c)
  seats_run e moment c may p = go c.ended
    where
      go : (x : Option CoreFault) → S n R (change_if (is_none x) (run_event e moment) c)
      go None = seats_end (do_event e (begin_event (line_of e) moment c)) (seats_do e (begin_event (line_of e) moment c) may (seats_begin (line_of e) moment c p))
      go (Some f) = p

-- ---- whose disk a report may say to have failed

or_false : (disk peer : ℕ) → (disk == peer || false) ≡ true → disk ≡ peer
or_false disk peer e = go (disk == peer) refl e
  where
    go : (b : Bool) → (disk == peer) ≡ b → (b || false) ≡ true → disk ≡ peer
    go true t k = eqb-true disk peer t
    go false t k = absurd (cc k)

or_either : (disk peer from : ℕ) → (disk == peer || disk == from) ≡ true → (disk ≡ peer) ⊎ (disk ≡ from)
or_either disk peer from e = go (disk == peer) refl e
  where
    go : (b : Bool) → (disk == peer) ≡ b → (b || disk == from) ≡ true → (disk ≡ peer) ⊎ (disk ≡ from)
    go true t k = inl (eqb-true disk peer t)
    go false t k = inr (eqb-true disk from k)

abbrev as_task : Job → Task
as_task j = record { job = j; line = 0 }

-- a job is answered by this failure
abbrev Answers : ℕ → ℕ → Option Job → Type 0
Answers peer disk o = option_map_or (λ j. answers peer j (done.Failed disk)) o false ≡ true

copying_is : (peer lead : ℕ) (r : Rejoin) (c : Core) → lead_of (home peer c) c ≡ Some lead → rejoin_of peer c ≡ Some r → copying_step peer c ≡ next_job (sealed_of lead c) r
copying_is peer lead r c e q = rw (e, q) refl

copying_alone : (peer : ℕ) (c : Core) → lead_of (home peer c) c ≡ None → copying_step peer c ≡ None
copying_alone peer c e = rw e refl

copying_over : (peer lead : ℕ) (c : Core) → lead_of (home peer c) c ≡ Some lead → rejoin_of peer c ≡ None → copying_step peer c ≡ None
copying_over peer lead c e q = rw (e, q) refl

same_job : (o : Option Job) → option_map (λ (t : Task). t.job) (option_map as_task o) ≡ o
same_job None = refl
same_job (Some j) = refl

module _ (n : ℕ) (R : ℕ → Type 0) (c : Core) (p : S n R c) (peer disk : ℕ) where
  own_failed : (j : Job) → peer < n → IsOwn j → (disk == peer || is_copy_from disk j) ≡ true → disk < n
  own_failed (job.Append number entry) low own e = let same : disk ≡ peer = or_false disk peer e in omega (arith, low, same)
  own_failed (job.Seal number) low own e = let same : disk ≡ peer = or_false disk peer e in omega (arith, low, same)
  own_failed (job.Read number) low own e = let same : disk ≡ peer = or_false disk peer e in omega (arith, low, same)
  own_failed job.Reset low own e = let same : disk ≡ peer = or_false disk peer e in omega (arith, low, same)
  own_failed (job.Copy from number) low own e = absurd own
  own_failed job.Reclaim low own e = let same : disk ≡ peer = or_false disk peer e in omega (arith, low, same)

  queued : (ts : List Task) → tasks_of peer c ≡ ts → Answers peer disk (option_map (λ (t : Task). t.job) (slice_get ts 0)) → disk < n
  queued [] is e = absurd (cc e)
  queued (t ∷ ts) is e = own_failed t.job low (subst (λ xs. AreOwn xs) is (p.tasks peer)).0 e
    where
      low : peer < n
      low = elim (cases_lt peer (length c.tasks)) [
        | inl l ↦ subst (λ k. peer < k) p.count l
        | inr high ↦ let bad : t ∷ ts ≡ [] = sym is ∙ get_or_past c.tasks peer [] high in absurd (cc bad)
      ]

  by_next : (r : Rejoin) → peer < n → r.from < n → (a b : Bool) → Answers peer disk (if a then Some job.Reset else (if b then Some (job.Copy r.from (r.len + 1)) else None)) → disk < n
  by_next r low from true b e = let same : disk ≡ peer = or_false disk peer e in omega (arith, low, same)
  by_next r low from false true e = elim (or_either disk peer r.from e) [ inl same ↦ omega (arith, low, same) | inr same ↦ omega (arith, from, same) ]
  by_next r low from false false e = absurd (cc e)

  copying : peer < n → Answers peer disk (copying_step peer c) → disk < n
  copying low e = go (lead_of (home peer c) c) refl (rejoin_of peer c) refl
    where
      go : (l : Option ℕ) → lead_of (home peer c) c ≡ l → (o : Option Rejoin) → rejoin_of peer c ≡ o → disk < n
      go None a o b = let bad : Answers peer disk None = subst (λ x. Answers peer disk x) (copying_alone peer c a) e in absurd (cc bad)
      go (Some lead) a None b = let bad : Answers peer disk None = subst (λ x. Answers peer disk x) (copying_over peer lead c a b) e in absurd (cc bad)
      go (Some lead) a (Some r) b =
          by_next r low (subst (λ x. CopiesFrom n x) b (p.rejoins peer)) r.empty (nat_lt r.len (sealed_of lead c)) (subst (λ x. Answers peer disk x) (copying_is peer lead r c a b) e)

  pub failed_low : is_answer c peer (done.Failed disk) ≡ true → disk < n
  failed_low e = go (is_joining (status_of peer c)) refl e
    where
      go : (b : Bool) → is_joining (status_of peer c) ≡ b
          → Answers peer disk (option_map (λ (t : Task). t.job) (if b then option_map as_task (copying_step peer c) else slice_get (tasks_of peer c) 0)) → disk < n
      go true t k = copying low (subst (λ x. Answers peer disk x) (same_job (copying_step peer c)) k)
        where
          low : peer < n
          low = elim (cases_lt peer (length c.members.statuses)) [
            | inl l ↦ subst (λ k. peer < k) p.statuses l
            | inr high ↦ let bad : false ≡ true = ap is_joining (sym (get_or_past c.members.statuses peer Down high)) ∙ t in absurd (cc bad)
          ]
      go false t k = queued (tasks_of peer c) refl k
