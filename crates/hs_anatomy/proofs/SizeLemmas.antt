-- Sizes stay.
use Rattle.std.proofs.Common.{◌≡◌, ◌∙◌, ap, ℕ, ◌+◌, Bool, true, false, cond, List, [], ◌∷◌, Option, Some, None, refl}
use Rattle.std.specs.BTreeMap.{insert_entry}
use Rattle.std.specs.Ordering.{nat_cmp}
use Rattle.hs_core_words.specs.Failing.{leave}
use Rattle.hs_anatomy.proofs.StepLemmas.{length_set}
use Rattle.hs_anatomy.proofs.StillLemmas.{strokes_keep}
use Rattle.hs_anatomy.specs.Acts.{Aside, Copies, Empties, Hears, Loses, Repeats, Reports, Resends, Seals, Starts, Takes, Views, without_job}
use Rattle.hs_anatomy.specs.Effect.{done_by}
use Rattle.hs_anatomy.specs.Sizes.{sizes_of}
use Rattle.hs_anatomy.specs.Strokes.{Adds, Answers, BeginsAgain, Besides, Follows, IsStill, Leaves, Notes, Proposes, Reads, Renews, SendsAgain, Still, Stroke, Strokes, TakesOut, TurnsGood, Waits}
use Rattle.hs_awaiting.specs.Words.{change_with, each}
use Rattle.hs_core_words.specs.Asking.{send_round}
use Rattle.hs_core_words.specs.Changing.{add_entry_tasks, add_task, change_group, change_pool, change_rejoin, post, set_catalogue, set_rejoin, set_status, set_tasks, set_viewed}
use Rattle.hs_core_words.specs.declared.event.Event.{Event}
use Rattle.hs_core_words.specs.declared.task.Task.{Task}
use Rattle.hs_core_words.specs.Effects.{round_messages}
use Rattle.hs_core_words.specs.Joining.{begin_joining, follow_lead, joining_peers}
use Rattle.hs_core_words.specs.Looking.{catalogue_of, group_of, home, lead_of}
use Rattle.hs_core_words.specs.Operating.{add_read, propose_entry}
use Rattle.hs_core_words.specs.State.{Core}
use Rattle.hs_core_words.specs.Views.{restart}
use Rattle.hs_desk.specs.declared.job.Job.TheVariants as job
use Rattle.hs_entry.specs.declared.entry.Entry.{Entry}
use Rattle.hs_limits.specs.declared.limits.PeerStatus.{PeerStatus}
use Rattle.hs_limits.specs.declared.limits.PeerStatus.TheVariants.{Down, Good, Joining}
use Rattle.hs_post.specs.declared.message.Message.{Message}
use Rattle.hs_post.specs.Pool.{Pool, is_full, send, without}
use Rattle.hs_rejoin.specs.Rejoin.{Rejoin, copied, emptied, follow}
use Rattle.hs_replica.specs.Group.{Group, have, last_number, on_copied, on_emptied, on_have, on_sealed, proposal, propose, renew, renewal, resend, send_all, take_committed, take_entry}
use Rattle.hs_rounds.specs.Rounds.{sent_back}
use Rattle.hs_shard.specs.Rounds.{messages}

-- ---- one field

sizes_group : (shard : ℕ) (f : Group → Group) (c : Core) → sizes_of (change_group shard f c) ≡ sizes_of c
sizes_group shard f c = ap (λ n. record (sizes_of c) { groups = n }) (length_set c.groups shard (f (group_of shard c)))

sizes_tasks : (peer : ℕ) (tasks : List Task) (c : Core) → sizes_of (set_tasks peer tasks c) ≡ sizes_of c
sizes_tasks peer tasks c = ap (λ n. record (sizes_of c) { queues = n }) (length_set c.tasks peer tasks)

sizes_rejoin : (peer : ℕ) (r : Option Rejoin) (c : Core) → sizes_of (set_rejoin peer r c) ≡ sizes_of c
sizes_rejoin peer r c = ap (λ n. record (sizes_of c) { joining = n }) (length_set c.progress.rejoins peer r)

sizes_viewed : (shard : ℕ) (b : Bool) (c : Core) → sizes_of (set_viewed shard b c) ≡ sizes_of c
sizes_viewed shard b c = ap (λ n. record (sizes_of c) { views = n }) (length_set c.progress.viewed shard b)

sizes_status : (peer : ℕ) (new : PeerStatus) (c : Core) → sizes_of (set_status peer new c) ≡ sizes_of c
sizes_status peer new c = ap (λ n. record (sizes_of c) { peers = n }) (length_set c.members.statuses peer new)

sent_limit : (m : Message) (p : Pool) → (send m p).limit ≡ p.limit
sent_limit m p = go (is_full p)
  where
    go : (b : Bool) → (cond b p (record p { messages = insert_entry nat_cmp p.messages p.next m; next = p.next + 1 })).limit ≡ p.limit
    go true = refl
    go false = refl

all_limit : (ms : List Message) (p : Pool) → (send_all ms p).limit ≡ p.limit
all_limit [] p = refl
all_limit (m ∷ ms) p = all_limit ms (send m p) ∙ sent_limit m p

sizes_post : (ms : List Message) (c : Core) → sizes_of (post ms c) ≡ sizes_of c
sizes_post ms c = ap (λ n. record (sizes_of c) { limit = n }) (all_limit ms c.pool)

-- ---- how they are joined

sizes_with : {B : Type 0} (o : Option B) (f : B → Core → Core) (c : Core) → ((y : B) (x : Core) → sizes_of (f y x) ≡ sizes_of x) → sizes_of (change_with o f c) ≡ sizes_of c
sizes_with None f c h = refl
sizes_with (Some y) f c h = h y c

sizes_each : {B : Type 0} (ys : List B) (f : B → Core → Core) (c : Core) → ((y : B) (x : Core) → sizes_of (f y x) ≡ sizes_of x) → sizes_of (each ys f c) ≡ sizes_of c
sizes_each [] f c h = refl
sizes_each (y ∷ ys) f c h = sizes_each ys f (f y c) h ∙ h y c

sizes_entry : (peer number : ℕ) (entry : Entry) (c : Core) → sizes_of (add_entry_tasks peer number entry c) ≡ sizes_of c
sizes_entry peer number entry c =
    let one : Core = add_task peer (record { job = job.Append number entry; line = 0 }) c in
    sizes_tasks peer _ one ∙ sizes_tasks peer _ c

pub sizes_propose : (shard : ℕ) (entry : Entry) (c : Core) → sizes_of (propose_entry shard entry c) ≡ sizes_of c
sizes_propose shard entry c =
    let one : Core = change_group shard (propose entry) c in
    let two : Core = post (proposal entry (group_of shard c)) one in
    sizes_with (lead_of shard c) (λ peer. add_entry_tasks peer (last_number (group_of shard c) + 1) entry) two (λ peer x. sizes_entry peer (last_number (group_of shard c) + 1) entry x)
    ∙ sizes_post (proposal entry (group_of shard c)) one ∙ sizes_group shard (propose entry) c

sizes_follow : (shard : ℕ) (c : Core) → sizes_of (follow_lead shard c) ≡ sizes_of c
sizes_follow shard c =
    sizes_with (lead_of shard c) (λ lead x. each (joining_peers shard x) (λ peer. change_rejoin peer (follow lead)) x) c
    (λ lead x. sizes_each (joining_peers shard x) (λ peer. change_rejoin peer (follow lead)) x (λ peer y. sizes_rejoin peer _ y))

sizes_round : (back shard : ℕ) (c : Core) → sizes_of (send_round back shard c) ≡ sizes_of c
sizes_round back shard c =
    let run = (catalogue_of shard c).run in
    sizes_with (sent_back back run) (λ sent. post (round_messages shard (messages (catalogue_of shard c).shape.shards sent.0 sent.1 run))) c (λ sent x. sizes_post (round_messages shard (messages (catalogue_of shard c).shape.shards sent.0 sent.1 run)) x)

-- ---- acts and strokes

sizes_aside : {s : Core} {e : Option Event} {a : Core} {b : Core} → Aside s e a b → sizes_of b ≡ sizes_of a
sizes_aside {a = a} (Reports peer d known) = sizes_tasks peer _ a
sizes_aside {a = a} (Seals peer number known) =
    let one : Core = without_job peer a in
    let two : Core = post (have peer number (group_of (home peer one) one)) one in
    sizes_group (home peer a) (on_sealed peer number) two ∙ sizes_post (have peer number (group_of (home peer one) one)) one ∙ sizes_tasks peer _ a
sizes_aside {a = a} (Empties peer known) =
    let one : Core = without_job peer a in
    let two : Core = change_rejoin peer emptied one in
    sizes_group (home peer a) (on_emptied peer) two ∙ sizes_rejoin peer _ one ∙ sizes_tasks peer _ a
sizes_aside {a = a} (Copies peer number known) =
    let one : Core = without_job peer a in
    let two : Core = change_rejoin peer (copied number) one in
    sizes_group (home peer a) (on_copied peer number) two ∙ sizes_rejoin peer _ one ∙ sizes_tasks peer _ a
sizes_aside (Loses number m at) = refl
sizes_aside {a = a} (Takes number shard to view next entry known fits) =
    let one : Core = change_pool (without number) a in
    let two : Core = change_group shard (take_entry to entry) one in
    sizes_follow shard (add_entry_tasks to next entry two) ∙ sizes_entry to next entry two ∙ sizes_group shard (take_entry to entry) one
sizes_aside {a = a} (Hears number shard from to view sealed known good) = sizes_group shard (on_have from view sealed) (change_pool (without number) a)
sizes_aside {a = a} (Repeats number m at room) = sizes_post (m ∷ []) a
sizes_aside {a = a} (Resends shard peer known) = sizes_post (resend peer (group_of shard a)) a
sizes_aside {a = a} (Starts line peer start known may) = sizes_rejoin peer _ (set_status peer Joining a) ∙ sizes_status peer Joining a
sizes_aside {a = a} (Views shard) = sizes_viewed shard true a

pub sizes_leave : (peer : ℕ) (c : Core) → sizes_of (leave peer c) ≡ sizes_of c
sizes_leave peer c =
    let one : Core = set_status peer Down c in
    let two : Core = set_tasks peer [] one in
    sizes_rejoin peer None two ∙ sizes_tasks peer [] one ∙ sizes_status peer Down c

pub sizes_good : (peer : ℕ) (c : Core) → sizes_of (set_rejoin peer None (set_status peer Good c)) ≡ sizes_of c
sizes_good peer c = sizes_rejoin peer None (set_status peer Good c) ∙ sizes_status peer Good c

pub sizes_joining : (peers : List ℕ) (c : Core) → sizes_of (each peers begin_joining c) ≡ sizes_of c
sizes_joining peers c = sizes_each peers begin_joining c (λ peer x. sizes_rejoin peer _ x)

pub sizes_still : {s : Core} {e : Option Event} {a : Core} {b : Core} → Still s e a b → sizes_of b ≡ sizes_of a
sizes_still (Besides x) = sizes_aside x
sizes_still {a = a} (Proposes shard entry by) = sizes_propose shard entry a
sizes_still {a = a} (Reads line number w at waits) = sizes_with (lead_of w.shard a) (add_read number line) a (λ peer x. sizes_tasks peer _ x)
sizes_still {a = a} (SendsAgain back shard peer known) = sizes_round back shard a
sizes_still {a = a} (Leaves peer known) = sizes_leave peer a
sizes_still {a = a} (TurnsGood peer) = sizes_good peer a
sizes_still {a = a} (BeginsAgain shard) = sizes_joining (joining_peers shard a) a
sizes_still {a = a} (Follows shard) = sizes_follow shard a

pub sizes_stroke : {s : Core} {e : Option Event} {a : Core} {b : Core} → Stroke s e a b → sizes_of b ≡ sizes_of a
sizes_stroke (IsStill x) = sizes_still x
sizes_stroke (Notes by) = refl
sizes_stroke (Adds line o start is) = refl
sizes_stroke (Waits line w was at one) = refl
sizes_stroke (Answers line w was told at one by) = refl
sizes_stroke {a = a} (TakesOut shard number entry next) =
    let one : Core = change_group shard take_committed a in
    sizes_post (round_messages shard (done_by shard entry a).effect.sends) (set_catalogue shard (done_by shard entry a).catalogue one) ∙ sizes_group shard take_committed a
sizes_stroke {a = a} (Renews shard) =
    let one : Core = set_viewed shard false a in
    let two : Core = restart shard (change_group shard (renew a.members) one) in
    sizes_post (renewal (group_of shard two)) two ∙ sizes_group shard (renew a.members) one ∙ sizes_viewed shard false a

pub sizes_same : {s : Core} {e : Option Event} (b : Core) → Strokes s e b → sizes_of b ≡ sizes_of s
sizes_same {s = s} b xs = strokes_keep (λ c. sizes_of c ≡ sizes_of s) (λ x y one same. sizes_stroke one ∙ same) b xs refl
