-- Changes by which nothing goes that an operation may wait for.
use Rattle.std.proofs.Common.{◌≡◌, ◌∙◌, sym, ap, subst, ◌⊎◌, inl, inr, ℕ, suc, ◌+◌, ◌*◌, ◌/◌, ◌<◌, Bool, true, false, List, [], ◌∷◌, ◌++◌, length, map, Option, Some, None, refl, arith, is_some, slice_get, zero}
use Rattle.std.proofs.Math.Nat.{div-lt_iff_lt-mul}
use Rattle.std.proofs.lemmas.List.{get_or-set_other, get_or-set_same, length-map, length-set}
use Rattle.std.specs.List.{list_any, range_with_len}
use Rattle.std.specs.Option.{option_map}
use Rattle.std.specs.Prelude.{slice_index_or}
use Rattle.hs_awaiting.specs.declared.wait.Wait.{Wait}
use Rattle.hs_awaiting.specs.declared.wait.Wait.TheVariants as wait
use Rattle.hs_awaiting.specs.declared.waiting.Waiting.{Waiting}
use Rattle.hs_awaiting.specs.Words.{change_with}
use Rattle.hs_core_words.specs.declared.task.Task.{Task}
use Rattle.hs_core_words.specs.Changing.{add_entry_tasks, add_task, change_group, post, set_tasks}
use Rattle.hs_core_words.specs.Looking.{front_of, group_of, home, lead_of, shape_of, status_of, tasks_of}
use Rattle.hs_core_words.specs.Operating.{add_read, answer, carry_out, propose_entry, wait_for, what_holds}
use Rattle.hs_core_words.specs.State.{Core}
use Rattle.hs_desk.specs.declared.job.Job.TheVariants as job
use Rattle.hs_effects.proofs.GroupLemmas.{group_changed, propose_front, set_at}
use Rattle.hs_effects.proofs.LookLemmas.{one_or_other}
use Rattle.hs_entry.specs.declared.entry.Entry.{Entry}
use Rattle.hs_quiet.specs.Causes.{Asker, HasCause, IsAmongJobs, OwnWaits, SomeWaits, StoresFor, TakesRoomFor, read_of}
use Rattle.hs_quiet.proofs.GoingListLemmas.{at_last, at_more}
use Rattle.hs_limits.specs.declared.address.Address.{Address}
use Rattle.hs_limits.specs.declared.limits.PeerStatus.TheVariants.{Good}
use Rattle.hs_core_copies.proofs.LeadLemmas.{lead_is as good_lead_is}
use Rattle.hs_limits.specs.Shape.{peer_of}
use Rattle.hs_members.proofs.LeadLemmas.{found_where_any, passing}
use Rattle.hs_members.specs.Members.{Members, has_good, home_of, is_good_status, longest, status}
use Rattle.hs_ops.specs.declared.step.OpStep.{OpStep}
use Rattle.hs_ops.specs.declared.step.OpStep.TheVariants as step
use Rattle.hs_post.specs.declared.message.Message.{Message}
use Rattle.hs_replica.specs.declared.replica.Replica.{Replica}
use Rattle.hs_replica.specs.Group.{Group, last_number, lead, lead_takes, new_group, proposal, propose}

-- ---- what stays

-- entries and jobs only come, and views, fronts and leads are the same
pub record Stays (a b : Core) : Type 0 where
  pub members : b.members ≡ a.members
  pub viewed : b.progress.viewed ≡ a.progress.viewed
  pub groups : length b.groups ≡ length a.groups
  pub tasks : length b.tasks ≡ length a.tasks
  pub copies : (g : ℕ) → length (group_of g b).copies ≡ length (group_of g a).copies
  pub view : (g : ℕ) → (group_of g b).view ≡ (group_of g a).view
  pub front : (g : ℕ) → front_of g b ≡ front_of g a
  pub waits : (g place : ℕ) (e : Entry) → slice_get (group_of g a).waiting place ≡ Some e → slice_get (group_of g b).waiting place ≡ Some e
  pub jobs : (p place : ℕ) (t : Task) → slice_get (tasks_of p a) place ≡ Some t → slice_get (tasks_of p b) place ≡ Some t

pub stays_same : (c : Core) → Stays c c
stays_same c = record {
  members = refl;
  viewed = refl;
  groups = refl;
  tasks = refl;
  copies = λ g. refl;
  view = λ g. refl;
  front = λ g. refl;
  waits = λ g place e at. at;
  jobs = λ p place t at. at;
}

pub stays_both : (a b c : Core) → Stays a b → Stays b c → Stays a c
stays_both a b c x y = record {
  members = y.members ∙ x.members;
  viewed = y.viewed ∙ x.viewed;
  groups = y.groups ∙ x.groups;
  tasks = y.tasks ∙ x.tasks;
  copies = λ g. y.copies g ∙ x.copies g;
  view = λ g. y.view g ∙ x.view g;
  front = λ g. y.front g ∙ x.front g;
  waits = λ g place e at. y.waits g place e (x.waits g place e at);
  jobs = λ p place t at. y.jobs p place t (x.jobs p place t at);
}

-- neither lists nor jobs change
pub stays_by : (a b : Core) → b.members ≡ a.members → b.progress.viewed ≡ a.progress.viewed → b.groups ≡ a.groups → b.tasks ≡ a.tasks → Stays a b
stays_by a b members viewed groups tasks = record {
  members = members;
  viewed = viewed;
  groups = ap (λ (gs : List Group). length gs) groups;
  tasks = ap (λ (ts : List (List Task)). length ts) tasks;
  copies = λ g. ap (λ (x : Group). length x.copies) (same g);
  view = λ g. ap (λ (x : Group). x.view) (same g);
  front = λ g. ap (λ (x : Group). x.front) (same g);
  waits = λ g place e at. ap (λ (x : Group). slice_get x.waiting place) (same g) ∙ at;
  jobs = λ p place t at. ap (λ (ts : List (List Task)). slice_get (slice_index_or ts p []) place) tasks ∙ at;
}
  where
    same : (g : ℕ) → group_of g b ≡ group_of g a
    same g =
        ap (λ (m : Members). slice_index_or b.groups g (new_group m.shape g 0 0 [])) members
        ∙ ap (λ (gs : List Group). slice_index_or gs g (new_group (shape_of a) g 0 0 [])) groups

-- ---- one list changes

pub group_stays : (shard : ℕ) (f : Group → Group) (c : Core)
    → length (f (group_of shard c)).copies ≡ length (group_of shard c).copies → (f (group_of shard c)).view ≡ (group_of shard c).view → (f (group_of shard c)).front ≡ (group_of shard c).front
    → ((place : ℕ) (e : Entry) → slice_get (group_of shard c).waiting place ≡ Some e → slice_get (f (group_of shard c)).waiting place ≡ Some e) → Stays c (change_group shard f c)
group_stays shard f c copies view front waits = record {
  members = refl;
  viewed = refl;
  groups = length-set c.groups shard (f (group_of shard c));
  tasks = refl;
  copies = λ g. same_by (λ (x : Group). length x.copies) copies g (group_changed shard f c g);
  view = λ g. same_by (λ (x : Group). x.view) view g (group_changed shard f c g);
  front = λ g. same_by (λ (x : Group). x.front) front g (group_changed shard f c g);
  waits = λ g place e at. more g place e at (group_changed shard f c g);
  jobs = λ p place t at. at;
}
  where
    same_by : (h : Group → ℕ) → h (f (group_of shard c)) ≡ h (group_of shard c) → (g : ℕ)
        → (group_of g (change_group shard f c) ≡ group_of g c) ⊎ ((g ≡ shard) × (group_of g (change_group shard f c) ≡ f (group_of shard c))) → h (group_of g (change_group shard f c)) ≡ h (group_of g c)
    same_by h e g (inl s) = ap h s
    same_by h e g (inr s) = ap h s.1 ∙ e ∙ ap (λ k. h (group_of k c)) (sym s.0)

    more : (g place : ℕ) (e : Entry) → slice_get (group_of g c).waiting place ≡ Some e
        → (group_of g (change_group shard f c) ≡ group_of g c) ⊎ ((g ≡ shard) × (group_of g (change_group shard f c) ≡ f (group_of shard c))) → slice_get (group_of g (change_group shard f c)).waiting place ≡ Some e
    more g place e at (inl s) = ap (λ (x : Group). slice_get x.waiting place) s ∙ at
    more g place e at (inr s) = ap (λ (x : Group). slice_get x.waiting place) s.1 ∙ waits place e (ap (λ k. slice_get (group_of k c).waiting place) (sym s.0) ∙ at)

-- ---- a job more

pub tasks_changed : (peer : ℕ) (ts : List Task) (c : Core) (q : ℕ) → (tasks_of q (set_tasks peer ts c) ≡ tasks_of q c) ⊎ ((q ≡ peer) × (tasks_of q (set_tasks peer ts c) ≡ ts))
tasks_changed peer ts c q = go (one_or_other q peer)
  where
    here : (tasks_of peer (set_tasks peer ts c) ≡ ts) ⊎ (tasks_of peer (set_tasks peer ts c) ≡ tasks_of peer c)
        → (tasks_of peer (set_tasks peer ts c) ≡ tasks_of peer c) ⊎ ((peer ≡ peer) × (tasks_of peer (set_tasks peer ts c) ≡ ts))
    here (inl e) = inr (refl, e)
    here (inr e) = inl e

    go : (q ≡ peer) ⊎ (q ≡ peer → ⊥) → (tasks_of q (set_tasks peer ts c) ≡ tasks_of q c) ⊎ ((q ≡ peer) × (tasks_of q (set_tasks peer ts c) ≡ ts))
    go (inl e) = subst (λ k. (tasks_of k (set_tasks peer ts c) ≡ tasks_of k c) ⊎ ((k ≡ peer) × (tasks_of k (set_tasks peer ts c) ≡ ts))) (sym e) (here (set_at [] c.tasks peer ts))
    go (inr d) = inl (get_or-set_other c.tasks peer q ts [] d)

pub task_stays : (peer : ℕ) (t : Task) (c : Core) → Stays c (add_task peer t c)
task_stays peer t c = record {
  members = refl;
  viewed = refl;
  groups = refl;
  tasks = length-set c.tasks peer (tasks_of peer c ++ t ∷ []);
  copies = λ g. refl;
  view = λ g. refl;
  front = λ g. refl;
  waits = λ g place e at. at;
  jobs = λ p place u at. more p place u at (tasks_changed peer (tasks_of peer c ++ t ∷ []) c p);
}
  where
    more : (p place : ℕ) (u : Task) → slice_get (tasks_of p c) place ≡ Some u
        → (tasks_of p (add_task peer t c) ≡ tasks_of p c) ⊎ ((p ≡ peer) × (tasks_of p (add_task peer t c) ≡ tasks_of peer c ++ t ∷ [])) → slice_get (tasks_of p (add_task peer t c)) place ≡ Some u
    more p place u at (inl same) = ap (λ (ts : List Task). slice_get ts place) same ∙ at
    more p place u at (inr is) = ap (λ (ts : List Task). slice_get ts place) is.1 ∙ at_more (tasks_of peer c) (t ∷ []) place u (ap (λ k. slice_get (tasks_of k c) place) (sym is.0) ∙ at)

pub entry_tasks_stay : (peer number : ℕ) (entry : Entry) (c : Core) → Stays c (add_entry_tasks peer number entry c)
entry_tasks_stay peer number entry c =
    let one : Core = add_task peer (record { job = job.Append number entry; line = 0 }) c in
    stays_both c one (add_entry_tasks peer number entry c) (task_stays peer (record { job = job.Append number entry; line = 0 }) c) (task_stays peer (record { job = job.Seal number; line = 0 }) one)

read_stays : (lead : Option ℕ) (number line : ℕ) (c : Core) → Stays c (change_with lead (add_read number line) c)
read_stays None number line c = stays_same c
read_stays (Some peer) number line c = task_stays peer (read_of number line) c

-- the new job is there
pub task_there : (peer : ℕ) (t : Task) (c : Core) → peer < length c.tasks → IsAmongJobs (add_task peer t c) peer t
task_there peer t c low = record {
  place = length (tasks_of peer c);
  at = ap (λ (ts : List Task). slice_get ts (length (tasks_of peer c))) (get_or-set_same c.tasks peer (tasks_of peer c ++ t ∷ []) [] low) ∙ at_last (tasks_of peer c) t;
}

-- ---- an entry is proposed

copies_taken : (l : Option ℕ) (entry : Entry) (group : Group) → length (lead_takes l entry group).copies ≡ length group.copies
copies_taken None entry group = refl
copies_taken (Some l) entry group = length-set group.copies _ _

view_taken : (l : Option ℕ) (entry : Entry) (group : Group) → (lead_takes l entry group).view ≡ group.view
view_taken None entry group = refl
view_taken (Some l) entry group = refl

pub proposed_view : (entry : Entry) (group : Group) → (propose entry group).view ≡ group.view
proposed_view entry group = view_taken (lead group) entry group

listed_stays : (shard : ℕ) (entry : Entry) (c : Core) → Stays c (change_group shard (propose entry) c)
listed_stays shard entry c =
    group_stays shard (propose entry) c (copies_taken (lead (group_of shard c)) entry (group_of shard c)) (view_taken (lead (group_of shard c)) entry (group_of shard c)) (propose_front entry (group_of shard c))
    (λ place e at. at_more (group_of shard c).waiting (entry ∷ []) place e at)

sent_stays : (lead : Option ℕ) (number : ℕ) (entry : Entry) (messages : List Message) (c : Core) → Stays c (change_with lead (λ peer. add_entry_tasks peer number entry) (post messages c))
sent_stays None number entry messages c = stays_by c (post messages c) refl refl refl refl
sent_stays (Some peer) number entry messages c =
    stays_both c (post messages c) (add_entry_tasks peer number entry (post messages c)) (stays_by c (post messages c) refl refl refl refl) (entry_tasks_stay peer number entry (post messages c))

pub proposal_stays : (shard : ℕ) (entry : Entry) (c : Core) → Stays c (propose_entry shard entry c)
proposal_stays shard entry c =
    stays_both c (change_group shard (propose entry) c) (propose_entry shard entry c) (listed_stays shard entry c)
    (sent_stays (lead_of shard c) (last_number (group_of shard c) + 1) entry (proposal entry (group_of shard c)) (change_group shard (propose entry) c))

-- operations and lists are as the proposal leaves them, whoever leads
with_lead : (lead : Option ℕ) (number : ℕ) (entry : Entry) (messages : List Message) (c : Core) → (change_with lead (λ peer. add_entry_tasks peer number entry) (post messages c)).operations ≡ c.operations
with_lead None number entry messages c = refl
with_lead (Some peer) number entry messages c = refl

pub proposal_operations : (shard : ℕ) (entry : Entry) (c : Core) → (propose_entry shard entry c).operations ≡ c.operations
proposal_operations shard entry c = with_lead (lead_of shard c) (last_number (group_of shard c) + 1) entry (proposal entry (group_of shard c)) (change_group shard (propose entry) c)

lead_group : (lead : Option ℕ) (number g : ℕ) (entry : Entry) (messages : List Message) (c : Core) → group_of g (change_with lead (λ peer. add_entry_tasks peer number entry) (post messages c)) ≡ group_of g c
lead_group None number g entry messages c = refl
lead_group (Some peer) number g entry messages c = refl

pub proposal_groups : (shard g : ℕ) (entry : Entry) (c : Core) → group_of g (propose_entry shard entry c) ≡ group_of g (change_group shard (propose entry) c)
proposal_groups shard g entry c = lead_group (lead_of shard c) (last_number (group_of shard c) + 1) g entry (proposal entry (group_of shard c)) (change_group shard (propose entry) c)

pub proposal_group : (shard : ℕ) (entry : Entry) (c : Core) → shard < length c.groups → group_of shard (propose_entry shard entry c) ≡ propose entry (group_of shard c)
proposal_group shard entry c low =
    proposal_groups shard shard entry c ∙ get_or-set_same c.groups shard (propose entry (group_of shard c)) (new_group (shape_of c) shard 0 0 []) low

-- and the entry is there
pub proposal_there : (shard : ℕ) (entry : Entry) (c : Core) → shard < length c.groups → slice_get (group_of shard (propose_entry shard entry c)).waiting (length (group_of shard c).waiting) ≡ Some entry
proposal_there shard entry c low =
    ap (λ (x : Group). slice_get x.waiting (length (group_of shard c).waiting)) (proposal_group shard entry c low) ∙ at_last (group_of shard c).waiting entry

-- ---- what a step of an operation leaves

pub carried_stays : (line : ℕ) (w : Waiting) (taken : OpStep) (c : Core) → Stays c (carry_out line w taken c)
carried_stays line w (step.Answer told) c = stays_by c (answer line w told c) refl refl refl refl
carried_stays line w (step.Propose entry) c =
    let waits : Core = wait_for line w (wait.Entry (last_number (group_of w.shard c) + 1)) c in
    stays_both c waits (propose_entry w.shard entry waits) (stays_by c waits refl refl refl refl) (proposal_stays w.shard entry waits)
carried_stays line w (step.Compare number) c =
    let waits : Core = wait_for line w (wait.Bytes number) c in
    stays_both c waits (change_with (lead_of w.shard c) (add_read number line) waits) (stays_by c waits refl refl refl refl) (read_stays (lead_of w.shard c) number line waits)
carried_stays line w step.Wait c = stays_by c (wait_for line w (what_holds w c) c) refl refl refl refl

-- ---- leads

-- each shard has a good peer, a list and a copy for each of its peers, and there are jobs for each peer
pub record IsLed (c : Core) : Type 0 where
  pub some : (g : ℕ) → g < c.members.shape.shards → has_good g c.members ≡ true
  pub groups : length c.groups ≡ c.members.shape.shards
  pub tasks : length c.tasks ≡ c.members.shape.shards * c.members.shape.copies
  pub each : (g : ℕ) → g < c.members.shape.shards → length (group_of g c).copies ≡ c.members.shape.copies

pub led_by : (a b : Core) → IsLed a → b.members ≡ a.members → length b.groups ≡ length a.groups → length b.tasks ≡ length a.tasks
    → ((g : ℕ) → length (group_of g b).copies ≡ length (group_of g a).copies) → IsLed b
led_by a b h members groups tasks copies = record {
  some = λ g low. ap (λ (m : Members). has_good g m) members ∙ h.some g (back g low);
  groups = groups ∙ h.groups ∙ ap (λ (m : Members). m.shape.shards) (sym members);
  tasks = tasks ∙ h.tasks ∙ ap (λ (m : Members). m.shape.shards * m.shape.copies) (sym members);
  each = λ g low. copies g ∙ h.each g (back g low) ∙ ap (λ (m : Members). m.shape.copies) (sym members);
}
  where
    back : (p : ℕ) → p < b.members.shape.shards → p < a.members.shape.shards
    back p low = subst (λ (m : Members). p < m.shape.shards) members low

pub led_stays : (a b : Core) → Stays a b → IsLed a → IsLed b
led_stays a b s h = led_by a b h s.members s.groups s.tasks s.copies

-- who leads is a good peer of the shard
pub record Leads (c : Core) (g : ℕ) : Type 0 where
  pub peer : ℕ
  pub is : lead_of g c ≡ Some peer
  pub own : home peer c ≡ g
  pub good : status_of peer c ≡ Good
  pub low : peer < length c.tasks

some_of : (o : Option (ℕ × ℕ)) → is_some o ≡ true → (x : ℕ × ℕ) × (o ≡ Some x)
some_of None e = let wrong : false ≡ true = e in absurd (cc wrong)
some_of (Some x) e = (x, refl)

peer_within : (p g shards copies : ℕ) → p / copies ≡ g → g < shards → 0 < copies → p < shards * copies
peer_within p g shards copies e low some = (div-lt_iff_lt-mul {k = copies} {x = p} {y = shards} some).0 (omega (arith, e, low))

pub lead_is : (c : Core) (g : ℕ) → IsLed c → g < c.members.shape.shards → Leads c g
lead_is c g h low =
    let lengths : List ℕ = map (λ (copy : Replica). length copy.stamps) (group_of g c).copies in
    let test : ℕ → Bool = λ peer. is_good_status (status peer c.members) in
    let long : length lengths ≡ c.members.shape.copies = length-map (group_of g c).copies (λ (copy : Replica). length copy.stamps) ∙ h.each g low in
    let found : is_some (longest (passing (λ peer. is_good_status (status peer c.members)) (peer_of c.members.shape g 0) lengths)) ≡ true =
    found_where_any (λ peer. is_good_status (status peer c.members)) (peer_of c.members.shape g 0) lengths ∙ ap (λ n. list_any (λ peer. is_good_status (status peer c.members)) (range_with_len (peer_of c.members.shape g 0) n)) long ∙ h.some g low in
    let best = some_of (longest (passing (λ peer. is_good_status (status peer c.members)) (peer_of c.members.shape g 0) lengths)) found in
    let is : lead_of g c ≡ Some best.0.0 = ap (option_map (λ (x : ℕ × ℕ). x.0)) best.1 in
    let k = good_lead_is g c best.0.0 (let n = h.each g low in omega (arith, n)) is in
    record {
      peer = best.0.0;
      is = is;
      own = k.own;
      good = k.good;
      low = (let n = h.tasks in let at = peer_within best.0.0 g c.members.shape.shards c.members.shape.copies k.own low (copies_some c.members.shape.copies (h.some g low)) in omega (arith, n, at));
    }
  where
    copies_some : (n : ℕ) → list_any (λ peer. is_good_status (status peer c.members)) (range_with_len (peer_of c.members.shape g 0) n) ≡ true → 0 < n
    copies_some zero e = let wrong : false ≡ true = e in absurd (cc wrong)
    copies_some (suc n) e = omega arith

-- ---- causes stay

some_stays : (a b : Core) (shard : ℕ) (P : Entry → Type 0) → Stays a b → SomeWaits a shard P → SomeWaits b shard P
some_stays a b shard P s h = record { place = h.place; entry = h.entry; at = s.waits shard h.place h.entry h.at; is = h.is }

own_stays : (a b : Core) (shard number line : ℕ) → Stays a b → OwnWaits a shard number line → OwnWaits b shard number line
own_stays a b shard number line s h = record {
  place = h.place;
  entry = h.entry;
  at = s.waits shard h.place h.entry h.at;
  numbered = h.numbered ∙ ap (λ f. f + 1 + h.place) (sym (s.front shard));
  asked = h.asked;
}

pub cause_stays : (name : List ℕ → Address) (a b : Core) (x : Asker) (what : Wait) → Stays a b → HasCause name a x what → HasCause name b x what
cause_stays name a b x wait.View s h = ap (λ (vs : List Bool). slice_index_or vs x.shard false) s.viewed ∙ h
cause_stays name a b x wait.Address s h = some_stays a b x.shard (StoresFor name x.asks) s h
cause_stays name a b x wait.Room s h = some_stays a b x.shard (TakesRoomFor x.asks) s h
cause_stays name a b x (wait.Bytes number) s h = (
  h.0,
  record {
    peer = h.1.peer;
    own = ap (λ (m : Members). home_of m.shape h.1.peer) s.members ∙ h.1.own;
    good = ap (λ (m : Members). status h.1.peer m) s.members ∙ h.1.good;
    jobs = record { place = h.1.jobs.place; at = s.jobs h.1.peer h.1.jobs.place (read_of number x.line) h.1.jobs.at };
  },
)
cause_stays name a b x (wait.Entry number) s h = own_stays a b x.shard number x.line s h
