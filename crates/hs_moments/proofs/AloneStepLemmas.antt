-- A core of one copy a shard goes on so by each step of an event.
use Rattle.std.proofs.Common.{◌≡◌, ◌∙◌, ap, sym, subst, inl, inr, ℕ, ◌+◌, ◌<◌, ◌≤◌, Bool, true, false, List, [], ◌∷◌, ◌++◌, Some, None, refl, arith, length, map}
use Rattle.std.proofs.lemmas.Bool.{cases_lt}
use Rattle.std.proofs.lemmas.List.{append-nil, append_assoc, get_or-set_same, get_or_past, length-append, set-get_or, set-set, set_past}
use Rattle.std.proofs.lemmas.List.Elements.{All-cons, All-nil, All-head, All-tail}
use Rattle.std.proofs.lemmas.Map.Views.{All-values-insert_entry}
use Rattle.std.specs.List.{All}
use Rattle.std.specs.Map.{values_of}
use Rattle.std.specs.Ordering.{nat_cmp}
use Rattle.std.specs.Prelude.{slice_index_or, slice_set}
use Rattle.hs_awaiting.specs.Words.{change_with}
use Rattle.hs_core_words.specs.declared.task.Task.{Task}
use Rattle.hs_core_words.specs.Changing.{add_entry_tasks, change_group, post}
use Rattle.hs_core_words.specs.Effects.{round_messages}
use Rattle.hs_core_words.specs.Looking.{group_of, lead_of, tasks_of}
use Rattle.hs_core_words.specs.Operating.{add_read, propose_entry}
use Rattle.hs_core_words.specs.State.{Core}
use Rattle.hs_desk.specs.declared.job.Job.TheVariants as job
use Rattle.hs_entry.specs.declared.entry.Entry.{Entry}
use Rattle.hs_entry.specs.Entries.{is_of_base}
use Rattle.hs_members.specs.Members.{lead_by}
use Rattle.hs_post.specs.declared.message.Message.{Message}
use Rattle.hs_post.specs.Pool.{Pool, is_full, send}
use Rattle.hs_replica.specs.declared.replica.Replica.{Replica}
use Rattle.hs_replica.specs.Group.{Group, last_number, new_group, proposal, propose, send_all, stamp, take_committed}
use Rattle.hs_shard.specs.declared.effect.Sent.{Sent}
use Rattle.hs_events.specs.Alone.{AreAlone, IsAlone, face, is_round, own, seal_of}
use Rattle.hs_moments.proofs.AloneLemmas.{HandsOut, alone, hands_nothing, hands_out, is_alone, lead_by_alone, proposal_alone, propose_alone}
use Rattle.hs_moments.proofs.MoveLemmas.{Goes, Moves, moves_at, moves_both, moves_pool, moves_same}
use Rattle.hs_core_copies.proofs.WalkLemmas.{StepLeaves}

-- ---- leads

pub lead_here : (c : Core) (s : ℕ) → AreAlone (face c) → s < c.members.shape.shards → lead_of s c ≡ Some s
lead_here c s h low =
    ap (λ copies. lead_by s (map (λ (copy : Replica). length copy.stamps) copies) c.members) (h.each s low).copies
    ∙ lead_by_alone c.members s (length (own (group_of s c)).stamps) h.copies (h.good s low)

pub nowhere : (c : Core) (s : ℕ) → AreAlone (face c) → c.members.shape.shards ≤ s → group_of s c ≡ new_group c.members.shape s 0 0 []
nowhere c s h high = get_or_past c.groups s (new_group c.members.shape s 0 0 []) (let n = h.groups in omega (arith, n, high))

pub lead_nowhere : (c : Core) (s : ℕ) → AreAlone (face c) → c.members.shape.shards ≤ s → lead_of s c ≡ None
lead_nowhere c s h high = ap (λ (g : Group). lead_by s (map (λ (copy : Replica). length copy.stamps) g.copies) c.members) (nowhere c s h high)

-- ---- an entry is proposed

-- its jobs
abbrev jobs_of : ℕ → Entry → List Task
jobs_of number entry = record { job = job.Append number entry; line = 0 } ∷ seal_of number ∷ []

-- one after the other
two_tasks : (tasks : List (List Task)) (s number : ℕ) (entry : Entry) → s < length tasks →
    slice_set (slice_set tasks s (slice_index_or tasks s [] ++ record { job = job.Append number entry; line = 0 } ∷ [])) s
    (slice_index_or (slice_set tasks s (slice_index_or tasks s [] ++ record { job = job.Append number entry; line = 0 } ∷ [])) s [] ++ seal_of number ∷ [])
    ≡ slice_set tasks s (slice_index_or tasks s [] ++ jobs_of number entry)
two_tasks tasks s number entry lt =
    let one : List Task = slice_index_or tasks s [] ++ record { job = job.Append number entry; line = 0 } ∷ [] in
    set-set tasks s one (slice_index_or (slice_set tasks s one) s [] ++ seal_of number ∷ [])
    ∙ ap (λ ts. slice_set tasks s (ts ++ seal_of number ∷ [])) (get_or-set_same tasks s one [] lt)
    ∙ ap (λ ts. slice_set tasks s ts) (append_assoc (slice_index_or tasks s []) (record { job = job.Append number entry; line = 0 } ∷ []) (seal_of number ∷ []))

face_proposes : (c : Core) (s : ℕ) (entry : Entry) → AreAlone (face c) → s < c.members.shape.shards
    → face (propose_entry s entry c) ≡ record (face c) { groups = slice_set c.groups s (propose entry (group_of s c)); tasks = slice_set c.tasks s (tasks_of s c ++ jobs_of (last_number (group_of s c) + 1) entry) }
face_proposes c s entry h low =
    let n : ℕ = last_number (group_of s c) + 1 in
    let one : Core = change_group s (propose entry) c in
    ap (λ o. face (change_with o (λ peer. add_entry_tasks peer n entry) (post (proposal entry (group_of s c)) one))) (lead_here c s h low)
    ∙ ap (λ (ms : List Message). face (add_entry_tasks s n entry (post ms one))) (proposal_alone c.members.shape s (group_of s c) h.copies (h.each s low) entry)
    ∙ ap (λ ts. record (face c) { groups = slice_set c.groups s (propose entry (group_of s c)); tasks = ts }) (two_tasks c.tasks s n entry (let k = h.tasks in omega (arith, k, low)))

face_proposes_nowhere : (c : Core) (s : ℕ) (entry : Entry) → AreAlone (face c) → c.members.shape.shards ≤ s → face (propose_entry s entry c) ≡ face c
face_proposes_nowhere c s entry h high =
    let n : ℕ = last_number (group_of s c) + 1 in
    let one : Core = change_group s (propose entry) c in
    ap (λ o. face (change_with o (λ peer. add_entry_tasks peer n entry) (post (proposal entry (group_of s c)) one))) (lead_nowhere c s h high)
    ∙ ap (λ (g : Group). face (post (proposal entry g) one)) (nowhere c s h high)
    ∙ ap (λ gs. record (face c) { groups = gs }) (set_past c.groups s (propose entry (group_of s c)) (let k = h.groups in omega (arith, k, high)))

-- a group that stands alone still does, with an entry more
alone_proposes : (c : Core) (s : ℕ) (entry : Entry) → AreAlone (face c) → s < c.members.shape.shards → IsAlone c.members.shape s (propose entry (group_of s c))
alone_proposes c s entry h low =
    let group : Group = group_of s c in
    let a : IsAlone c.members.shape s group = h.each s low in
    let handed = a.handed in let within = a.within in let long = a.long in
    let one = length-append group.waiting (entry ∷ []) in
    subst (IsAlone c.members.shape s) (sym (propose_alone c.members.shape s group h.copies a entry))
    (is_alone c.members.shape s group.view group.front (group.waiting ++ entry ∷ []) (record (own group) { stamps = stamp entry (own group).stamps }) a.good a.known handed (omega (arith, within, one)) (stamped (own group).stamps long))
  where
    stamped : (stamps : List ℕ) → length stamps ≡ last_number (group_of s c) → length (stamp entry stamps) ≡ (group_of s c).front + length ((group_of s c).waiting ++ entry ∷ [])
    stamped stamps long =
        let l = length-append (group_of s c).waiting (entry ∷ []) in
        length-append stamps _ ∙ omega (arith, l, long)

goes_proposes : (c : Core) (s : ℕ) (entry : Entry) → AreAlone (face c) → s < c.members.shape.shards → is_of_base entry ≡ false
    → Goes (group_of s c) (propose entry (group_of s c)) (tasks_of s c) (tasks_of s c ++ jobs_of (last_number (group_of s c) + 1) entry)
goes_proposes c s entry h low plain =
    let group : Group = group_of s c in
    let after : Group = alone c.members.shape s group.view group.front (group.waiting ++ entry ∷ []) (record (own group) { stamps = stamp entry (own group).stamps }) in
    let goes : Goes group after (tasks_of s c) (tasks_of s c ++ jobs_of (last_number group + 1) entry) = record {
      handed = [];
      more = entry ∷ [];
      queue = record { number = last_number group + 1; entry = Some entry; line = 0 } ∷ [];
      waits = refl;
      front = omega arith;
      sealed = refl;
      plain = All-cons (λ (e : Entry). is_of_base e ≡ false) entry [] plain (All-nil (λ (e : Entry). is_of_base e ≡ false));
      jobs = refl;
      entries = refl;
    } in
    subst (λ g. Goes group g (tasks_of s c) (tasks_of s c ++ jobs_of (last_number group + 1) entry)) (sym (propose_alone c.members.shape s group h.copies (h.each s low) entry)) goes

pub proposes : (s : ℕ) (entry : Entry) (c : Core) → is_of_base entry ≡ false → AreAlone (face c) → Moves (face c) (face (propose_entry s entry c))
proposes s entry c plain h = elim (cases_lt s c.members.shape.shards) [
  | inl low ↦ subst (Moves (face c)) (sym (face_proposes c s entry h low))
      (moves_at (face c) s (propose entry (group_of s c)) (tasks_of s c ++ jobs_of (last_number (group_of s c) + 1) entry) h low (alone_proposes c s entry h low) (goes_proposes c s entry h low plain))
  | inr high ↦ subst (Moves (face c)) (sym (face_proposes_nowhere c s entry h high)) (moves_same (face c) h)
]

-- ---- a Read

pub reads : (s number line : ℕ) (c : Core) → AreAlone (face c) → Moves (face c) (face (change_with (lead_of s c) (add_read number line) c))
reads s number line c h = elim (cases_lt s c.members.shape.shards) [
  | inl low ↦
      let read : List Task = record { job = job.Read number; line = line } ∷ [] in
      let goes : Goes (group_of s c) (group_of s c) (tasks_of s c) (tasks_of s c ++ read) = record {
        handed = [];
        more = [];
        queue = record { number = number; entry = None; line = line } ∷ [];
        waits = sym (append-nil (group_of s c).waiting);
        front = omega arith;
        sealed = refl;
        plain = All-nil (λ (e : Entry). is_of_base e ≡ false);
        jobs = refl;
        entries = refl;
      } in
      let is : face (change_with (lead_of s c) (add_read number line) c) ≡ record (face c) { groups = slice_set c.groups s (group_of s c); tasks = slice_set c.tasks s (tasks_of s c ++ read) } =
      ap (λ o. face (change_with o (add_read number line) c)) (lead_here c s h low)
      ∙ ap (λ gs. record (face c) { groups = gs; tasks = slice_set c.tasks s (tasks_of s c ++ read) }) (sym (set-get_or c.groups s (new_group c.members.shape s 0 0 []))) in
      subst (Moves (face c)) (sym is) (moves_at (face c) s (group_of s c) (tasks_of s c ++ read) h low (h.each s low) goes)
  | inr high ↦ subst (Moves (face c)) (sym (ap (λ o. face (change_with o (add_read number line) c)) (lead_nowhere c s h high))) (moves_same (face c) h)
]

-- ---- an entry is handed out

alone_handed : (c : Core) (s : ℕ) → IsAlone c.members.shape s (group_of s c) → (group_of s c).front < (own (group_of s c)).sealed → (out : HandsOut (group_of s c)) → IsAlone c.members.shape s (record (group_of s c) { front = (group_of s c).front + 1; waiting = out.rest })
alone_handed c s a lt out =
    let n = ap length out.waits in let within = a.within in let long = a.long in
    record { same_shape = a.same_shape; same_shard = a.same_shard; copies = a.copies; good = a.good; known = a.known; handed = omega (arith, lt); within = omega (arith, within, n); long = omega (arith, long, n) }

goes_handed : (c : Core) (s : ℕ) (out : HandsOut (group_of s c)) → Goes (group_of s c) (record (group_of s c) { front = (group_of s c).front + 1; waiting = out.rest }) (tasks_of s c) (tasks_of s c)
goes_handed c s out = record {
  handed = out.entry ∷ [];
  more = [];
  queue = [];
  waits = sym out.waits ∙ sym (append-nil (group_of s c).waiting);
  front = refl;
  sealed = refl;
  plain = All-nil (λ (e : Entry). is_of_base e ≡ false);
  jobs = sym (append-nil (tasks_of s c));
  entries = refl;
}

face_handed : (c : Core) (s : ℕ) (group : Group) → take_committed (group_of s c) ≡ group → face (change_group s take_committed c) ≡ record (face c) { groups = slice_set c.groups s group; tasks = slice_set c.tasks s (tasks_of s c) }
face_handed c s group e =
    ap (λ g. record (face c) { groups = slice_set c.groups s g }) e
    ∙ ap (λ ts. record (face c) { groups = slice_set c.groups s group; tasks = ts }) (sym (set-get_or c.tasks s []))

pub hands : (s : ℕ) (c : Core) → AreAlone (face c) → s < c.members.shape.shards → (group_of s c).front < (own (group_of s c)).sealed → (out : HandsOut (group_of s c)) → Moves (face c) (face (change_group s take_committed c))
hands s c h low lt out =
    subst (Moves (face c)) (sym (face_handed c s (record (group_of s c) { front = (group_of s c).front + 1; waiting = out.rest }) out.is))
    (moves_at (face c) s (record (group_of s c) { front = (group_of s c).front + 1; waiting = out.rest }) (tasks_of s c) h low (alone_handed c s (h.each s low) lt out) (goes_handed c s out))

hands_none : (s : ℕ) (c : Core) → take_committed (group_of s c) ≡ group_of s c → face (change_group s take_committed c) ≡ face c
hands_none s c e = ap (λ g. record (face c) { groups = slice_set c.groups s g }) e ∙ ap (λ gs. record (face c) { groups = gs }) (set-get_or c.groups s (new_group c.members.shape s 0 0 []))

pub commits : (s : ℕ) (c : Core) → AreAlone (face c) → Moves (face c) (face (change_group s take_committed c))
commits s c h = elim (cases_lt s c.members.shape.shards) [
  | inl low ↦ elim (cases_lt (group_of s c).front (own (group_of s c)).sealed) [
    | inl lt ↦ hands s c h low lt (hands_out c.members.shape s (group_of s c) h.copies (h.each s low) lt)
    | inr le ↦ subst (Moves (face c)) (sym (hands_none s c (hands_nothing c.members.shape s (group_of s c) h.copies (h.each s low) le))) (moves_same (face c) h)
  ]
  | inr high ↦ subst (Moves (face c)) (sym (ap (λ gs. record (face c) { groups = gs }) (set_past c.groups s (take_committed (group_of s c)) (let k = h.groups in omega (arith, k, high))))) (moves_same (face c) h)
]

-- ---- Rounds are sent

pub sends_rounds : (ms : List Message) (pool : Pool) → All (λ m. is_round m ≡ true) ms → All (λ m. is_round m ≡ true) (values_of pool.messages) → All (λ m. is_round m ≡ true) (values_of (send_all ms pool).messages)
sends_rounds [] pool rounds h = h
sends_rounds (m ∷ ms) pool rounds h = sends_rounds ms (send m pool) (All-tail (λ m. is_round m ≡ true) m ms rounds) (sent (is_full pool) refl)
  where
    sent : (b : Bool) → is_full pool ≡ b → All (λ m. is_round m ≡ true) (values_of (send m pool).messages)
    sent true e = rw e h
    sent false e = rw e (All-values-insert_entry nat_cmp pool.next m (λ m. is_round m ≡ true) pool.messages h (All-head (λ m. is_round m ≡ true) m ms rounds))

are_rounds : (shard : ℕ) (sent : List Sent) → All (λ m. is_round m ≡ true) (round_messages shard sent)
are_rounds shard [] = All-nil (λ m. is_round m ≡ true)
are_rounds shard (s ∷ sent) = All-cons (λ m. is_round m ≡ true) _ (round_messages shard sent) refl (are_rounds shard sent)

pub sends : (shard : ℕ) (sent : List Sent) (c : Core) → AreAlone (face c) → Moves (face c) (face (post (round_messages shard sent) c))
sends shard sent c h = moves_pool (face c) (send_all (round_messages shard sent) c.pool) h (sends_rounds (round_messages shard sent) c.pool (are_rounds shard sent) h.rounds)

-- ---- all steps

abbrev pub GoesOn : Core → Core → Type 0
GoesOn a b = AreAlone (face a) → Moves (face a) (face b)

pub steps_go_on : StepLeaves GoesOn
steps_go_on = record {
  same = λ c h. moves_same (face c) h;
  both = λ a b c f g h. let m = f h in moves_both (face a) (face b) (face c) m (g m.alone);
  catalogue = λ shard x c h. moves_same (face c) h;
  viewed = λ shard x c h. moves_same (face c) h;
  operations = λ x c h. moves_same (face c) h;
  sessions = λ x c h. moves_same (face c) h;
  noted = λ of did told c h. moves_same (face c) h;
  proposes = λ s entry c plain. proposes s entry c plain.1;
  reads = reads;
  sends = sends;
  commits = commits;
}
