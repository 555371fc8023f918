-- What waits in a shard's list is no Base, and not kept behind one: no event proposes such an entry.
use Rattle.std.proofs.Common.{◌≡◌, ◌∙◌, ap, sym, subst, refl, inl, inr, ℕ, zero, suc, ◌+◌, Bool, true, false, if◌then◌else◌, List, [], ◌∷◌, ◌++◌, Option, Some, None, length}
use Rattle.std.proofs.lemmas.Bool.{cases_eq, cases_lt}
use Rattle.std.proofs.lemmas.List.Elements.{All-cons, All-head, All-nil, All-tail}
use Rattle.std.specs.Option.{option_map_or}
use Rattle.std.specs.Prelude.{drop, nat_lt, take}
use Rattle.hs_anatomy.proofs.StepLemmas.{step_is}
use Rattle.hs_anatomy.specs.Acts.{begun}
use Rattle.hs_awaiting.specs.Words.{change_if, change_with, each, ◌▸◌}
use Rattle.hs_core_copies.proofs.PlaceLemmas.{group_here, group_other, group_past}
use Rattle.hs_core_copies.proofs.StepsLemmas.{was_going}
use Rattle.hs_core_copies.proofs.WalkLemmas.{StepLeaves, keeps_begin_line, keeps_commits, keeps_each, keeps_if, keeps_propose_due, keeps_send_rounds, keeps_tell_bytes, message_by, unless_by}
use Rattle.hs_core_words.specs.Asking.{deliver, lose, no_peer, not_down, not_up, nudge, nudge_good, send_again, send_rounds}
use Rattle.hs_core_words.specs.Changing.{add_entry_tasks, change_group, change_pool, change_rejoin, note, post, refuse, set_rejoin, set_status, set_tasks, set_viewed}
use Rattle.hs_core_words.specs.declared.event.Event.{Event}
use Rattle.hs_core_words.specs.declared.event.Event.TheVariants as event
use Rattle.hs_core_words.specs.declared.task.Task.{Task}
use Rattle.hs_core_words.specs.Delivering.{handle, is_new_round, take_copy}
use Rattle.hs_core_words.specs.Effects.{commit}
use Rattle.hs_core_words.specs.Entering.{propose_due}
use Rattle.hs_core_words.specs.Failing.{commit_rest, go_down, leave}
use Rattle.hs_core_words.specs.Joining.{begin_joining, follow_lead, is_level_with_lead, join, join_if_level, joining_peers, start}
use Rattle.hs_core_words.specs.Looking.{first_task, group_of, home, lead_of, status_of, tasks_of}
use Rattle.hs_core_words.specs.Operating.{add_read, propose_entry}
use Rattle.hs_core_words.specs.Reporting.{on_report, take_report}
use Rattle.hs_core_words.specs.State.{Core}
use Rattle.hs_core_words.specs.Step.{do_event, end_event, keep_entries, refuse_entries, step}
use Rattle.hs_core_words.specs.Views.{begin_view, change_view, restart}
use Rattle.hs_desk.specs.Answers.{answers}
use Rattle.hs_desk.specs.declared.done.Done.{Done}
use Rattle.hs_desk.specs.declared.done.Done.TheVariants as done
use Rattle.hs_entry.specs.declared.entry.Entry.{Entry}
use Rattle.hs_entry.specs.declared.entry.Entry.TheVariants as kind
use Rattle.hs_entry.specs.Entries.{is_of_base}
use Rattle.hs_journal.specs.declared.entry.Who.TheVariants as who
use Rattle.hs_limits.specs.declared.limits.PeerStatus.TheVariants.{Good}
use Rattle.hs_members.specs.Members.{has_good, is_good_status, view_of}
use Rattle.hs_model.specs.declared.deed.Deed.TheVariants as deed
use Rattle.hs_model.specs.declared.reply.Reply.TheVariants as reply
use Rattle.hs_post.specs.declared.message.Message.{Message}
use Rattle.hs_post.specs.declared.message.Message.TheVariants as message
use Rattle.hs_post.specs.Pool.{is_full, without}
use Rattle.hs_rejoin.specs.Rejoin.{copied, emptied, follow}
use Rattle.hs_replica.specs.Group.{Group, committed, have, hears, is_peer, last_number, on_copied, on_emptied, on_have, on_sealed, proposal, propose, renew, renewal, take_committed, take_entry, takes}
use Rattle.hs_whole_copies.specs.Whole.{ArePlain}

-- ---- lists

pub plain_more : (xs : List Entry) (e : Entry) → ArePlain xs → is_of_base e ≡ false → ArePlain (xs ++ e ∷ [])
plain_more [] e h i = All-cons (λ x. is_of_base x ≡ false) e [] i h
plain_more (x ∷ xs) e h i = All-cons (λ y. is_of_base y ≡ false) x (xs ++ e ∷ []) (All-head (λ y. is_of_base y ≡ false) x xs h) (plain_more xs e (All-tail (λ y. is_of_base y ≡ false) x xs h) i)

pub plain_take : (n : ℕ) (xs : List Entry) → ArePlain xs → ArePlain (take n xs)
plain_take zero xs h = All-nil (λ x. is_of_base x ≡ false)
plain_take (suc n) [] h = h
plain_take (suc n) (x ∷ xs) h = All-cons (λ y. is_of_base y ≡ false) x (take n xs) (All-head (λ y. is_of_base y ≡ false) x xs h) (plain_take n xs (All-tail (λ y. is_of_base y ≡ false) x xs h))

plain_rest : (xs : List Entry) → ArePlain xs → ArePlain (drop 1 xs)
plain_rest [] h = h
plain_rest (x ∷ xs) h = All-tail (λ y. is_of_base y ≡ false) x xs h

-- ---- changes

abbrev pub Plain : ℕ → Core → Core → Type 0
Plain g a b = ArePlain (group_of g a).waiting → ArePlain (group_of g b).waiting

plain_same : (g : ℕ) (a b : Core) → group_of g b ≡ group_of g a → Plain g a b
plain_same g a b e h = subst (λ (x : Group). ArePlain x.waiting) (sym e) h

plain_both : (g : ℕ) (a b c : Core) → Plain g a b → Plain g b c → Plain g a c
plain_both g a b c f h k = h (f k)

plain_change : (g x : ℕ) (f : Group → Group) (c : Core) → ((y : Group) → ArePlain y.waiting → ArePlain (f y).waiting) → Plain g c (change_group x f c)
plain_change g x f c k h = elim (cases_eq g x) [
  | inl e ↦ elim (cases_lt x (length c.groups)) [
    | inl low ↦
        let is : group_of g (change_group x f c) ≡ f (group_of x c) = ap (λ i. group_of i (change_group x f c)) e ∙ group_here x f c low in
        subst (λ (y : Group). ArePlain y.waiting) (sym is) (k (group_of x c) (subst (λ i. ArePlain (group_of i c).waiting) e h))
    | inr high ↦
        let is : group_of g (change_group x f c) ≡ group_of g c = ap (λ i. group_of i (change_group x f c)) e ∙ group_past x f c high ∙ ap (λ i. group_of i c) (sym e) in
        subst (λ (y : Group). ArePlain y.waiting) (sym is) h
  ]
  | inr n ↦ subst (λ (y : Group). ArePlain y.waiting) (sym (group_other g x f c n)) h
]

plain_tasks : (g : ℕ) (o : Option ℕ) (n : ℕ) (entry : Entry) (c : Core) → Plain g c (change_with o (λ peer. add_entry_tasks peer n entry) c)
plain_tasks g None n entry c h = h
plain_tasks g (Some l) n entry c h = h

plain_reads : (g : ℕ) (o : Option ℕ) (number line : ℕ) (c : Core) → Plain g c (change_with o (add_read number line) c)
plain_reads g None number line c h = h
plain_reads g (Some l) number line c h = h

plain_proposes : (g x : ℕ) (entry : Entry) (c : Core) → is_of_base entry ≡ false → Plain g c (propose_entry x entry c)
plain_proposes g x entry c e h =
    let a : Core = change_group x (propose entry) c in
    let b : Core = post (proposal entry (group_of x c)) a in
    plain_tasks g (lead_of x c) (last_number (group_of x c) + 1) entry b (plain_change g x (propose entry) c (λ y k. plain_more y.waiting entry k e) h)

handed : (y : Group) → ArePlain y.waiting → ArePlain (take_committed y).waiting
handed y h = go (committed y)
  where
    go : (o : Option (ℕ × Entry)) → ArePlain (option_map_or (λ x. record y { front = x.0; waiting = drop 1 y.waiting }) o y).waiting
    go None = h
    go (Some x) = plain_rest y.waiting h

pub steps_plain : (g : ℕ) → StepLeaves (Plain g)
steps_plain g = record {
  same = λ c h. h;
  both = plain_both g;
  catalogue = λ x y c h. h;
  viewed = λ x y c h. h;
  operations = λ x c h. h;
  sessions = λ x c h. h;
  noted = λ of did told c h. h;
  proposes = λ x entry c plain. plain_proposes g x entry c plain.1;
  reads = λ x number line c. plain_reads g (lead_of x c) number line c;
  sends = λ x sent c h. h;
  commits = λ x c. plain_change g x take_committed c handed;
}

-- ---- views and peers

plain_view : (g x : ℕ) (c : Core) → Plain g c (change_view x c)
plain_view g x c = keeps_if (steps_plain g) (has_good x c.members) (begin_view x) c (λ y h.
    let a : Core = set_viewed x false y in
    let b : Core = change_group x (renew y.members) a in
    let d : Core = post (renewal (group_of x (restart x b))) (restart x b) in
    plain_proposes g x (kind.View (view_of x y.members)) d refl (plain_change g x (renew y.members) a (λ z k. plain_take _ z.waiting k) h))

plain_follows : (g x : ℕ) (c : Core) → Plain g c (follow_lead x c)
plain_follows g x c = go (lead_of x c)
  where
    go : (o : Option ℕ) → Plain g c (change_with o (λ lead core. each (joining_peers x core) (λ peer. change_rejoin peer (follow lead)) core) c)
    go None = λ h. h
    go (Some l) = keeps_each (steps_plain g) (joining_peers x c) (λ peer. change_rejoin peer (follow l)) c (λ q y h. h)

plain_down : (g p : ℕ) (c : Core) → Plain g c (go_down p c)
plain_down g p c h =
    let x : ℕ = home p c in
    let was_good : Bool = is_good_status (status_of p c) in
    let was_lead : Bool = is_peer p (lead_of x c) in
    let c1 : Core = leave p c in
    let c2 : Core = change_if was_good (change_view x) c1 in
    let c3 : Core = change_if was_lead (λ core. core ▸ each (joining_peers x core) begin_joining) c2 in
    keeps_if (steps_plain g) was_good (commit_rest x) c3 (λ y. keeps_if (steps_plain g) (has_good x y.members) (commit x) y (λ z. keeps_commits (steps_plain g) x z))
    (keeps_if (steps_plain g) was_lead (λ core. core ▸ each (joining_peers x core) begin_joining) c2 (λ y. keeps_each (steps_plain g) (joining_peers x y) begin_joining y (λ q z k. k))
    (keeps_if (steps_plain g) was_good (change_view x) c1 (λ y. plain_view g x y) h))

plain_level : (g p : ℕ) (c : Core) → Plain g c (join_if_level p c)
plain_level g p c = keeps_if (steps_plain g) (is_level_with_lead p c) (join p) c (λ y h.
    let x : ℕ = home p y in
    let c2 : Core = set_rejoin p None (set_status p Good y) in
    keeps_commits (steps_plain g) x (follow_lead x (change_view x c2)) (plain_follows g x (change_view x c2) (plain_view g x c2 h)))

-- ---- reports

plain_report : (g p line : ℕ) (d : Done) (c : Core) → Plain g c (take_report p line d c)
plain_report g p line (done.Stored number) c h = h
plain_report g p line (done.Sealed number) c h =
    let x : ℕ = home p c in
    let a : Core = post (have p number (group_of x c)) c in
    keeps_commits (steps_plain g) x (change_group x (on_sealed p number) a) (plain_change g x (on_sealed p number) a (λ y k. k) h)
plain_report g p line (done.Bytes number bytes) c h = keeps_tell_bytes (steps_plain g) line number (Some bytes) c h
plain_report g p line (done.Gone number) c h = keeps_tell_bytes (steps_plain g) line number None c h
plain_report g p line done.Emptied c h =
    let a : Core = change_rejoin p emptied c in
    plain_level g p (change_group (home p c) (on_emptied p) a) (plain_change g (home p c) (on_emptied p) a (λ y k. k) h)
plain_report g p line (done.Copied number) c h =
    let a : Core = change_rejoin p (copied number) c in
    plain_level g p (change_group (home p c) (on_copied p number) a) (plain_change g (home p c) (on_copied p number) a (λ y k. k) h)
plain_report g p line (done.Stepped switched) c h = h
plain_report g p line (done.Failed disk) c h = plain_down g disk (note who.Store deed.Nothing (reply.Down disk c.progress.event_line) c) h

plain_reports : (g p : ℕ) (d : Done) (c : Core) → Plain g c (on_report p d c)
plain_reports g p d c h = go (first_task p c) refl
  where
    go : (o : Option Task) → first_task p c ≡ o → ArePlain (group_of g (on_report p d c)).waiting
    go None e = rw e h
    go (Some task) e = answered (answers p task.job d) refl
      where
        answered : (b : Bool) → answers p task.job d ≡ b → ArePlain (group_of g (on_report p d c)).waiting
        answered true a = rw (e, a) (plain_report g p task.line d (set_tasks p (drop 1 (tasks_of p c)) c) h)
        answered false a = rw (e, a) h

-- ---- messages

heard : (from view sealed : ℕ) (y : Group) → ArePlain y.waiting → ArePlain (on_have from view sealed y).waiting
heard from view sealed y h = go (hears from view y) refl
  where
    go : (b : Bool) → hears from view y ≡ b → ArePlain (on_have from view sealed y).waiting
    go true e = rw e h
    go false e = rw e h

plain_handles : (g : ℕ) (m : Message) (c : Core) → Plain g c (handle m c)
plain_handles g (message.Copy shard to view number entry) c = keeps_if (steps_plain g) (takes to view number (group_of shard c)) (take_copy shard to number entry) c (λ y h.
    let a : Core = change_group shard (take_entry to entry) y in
    plain_follows g shard (add_entry_tasks to number entry a) (plain_change g shard (take_entry to entry) y (λ z k. k) h))
plain_handles g (message.Have shard from to view sealed) c = keeps_if (steps_plain g) (is_good_status (status_of to c)) (λ core. core ▸ change_group shard (on_have from view sealed) ▸ commit shard) c (λ y h.
    keeps_commits (steps_plain g) shard (change_group shard (on_have from view sealed) y) (plain_change g shard (on_have from view sealed) y (heard from view sealed) h))
plain_handles g (message.Round from to epoch round total deltas) c =
    keeps_if (steps_plain g) (is_new_round to from epoch round c) (propose_entry to (kind.Got from epoch round total deltas)) c (λ y. plain_proposes g to (kind.Got from epoch round total deltas) y refl)

plain_again : (g line : ℕ) (m : Message) (c : Core) → Plain g c (send_again line m c)
plain_again g line m c h = go (is_full c.pool)
  where
    go : (b : Bool) → ArePlain (group_of g (if b then refuse line (reply.PoolFull c.pool.limit) c else post (m ∷ []) c)).waiting
    go true = h
    go false = h

plain_nudges : (g p : ℕ) (c : Core) → Plain g c (nudge_good p c)
plain_nudges g p c = keeps_if (steps_plain g) (is_good_status (status_of p c)) (nudge p) c (λ y h.
    let x : ℕ = home p y in
    keeps_if (steps_plain g) (is_peer p (lead_of x y)) (λ core. core ▸ propose_due x ▸ send_rounds x) y
    (λ z k. keeps_send_rounds (steps_plain g) x (propose_due x z) (keeps_propose_due (steps_plain g) x z k)) h)

-- ---- events

does_plain : (g : ℕ) (e : Event) (c : Core) → Plain g c (do_event e c)
does_plain g (event.Line line o) c h = keeps_begin_line (steps_plain g) line o c h
does_plain g (event.Report p d) c h = plain_reports g p d c h
does_plain g (event.Turn line p) c h = unless_by line (no_peer p c ∷ not_up p c ∷ []) (λ core. core) c (λ y. ArePlain (group_of g y).waiting) (λ r. h) (λ e. h)
does_plain g (event.Deliver line number) c h = message_by line number (deliver number) c (λ y. ArePlain (group_of g y).waiting) (λ r. h) (λ m at. plain_handles g m (change_pool (without number) c) h)
does_plain g (event.Lose line number) c h = message_by line number (lose number) c (λ y. ArePlain (group_of g y).waiting) (λ r. h) (λ m at. h)
does_plain g (event.Repeat line number) c h = message_by line number (send_again line) c (λ y. ArePlain (group_of g y).waiting) (λ r. h) (λ m at. plain_again g line m c h)
does_plain g (event.Nudge line p) c h = unless_by line (no_peer p c ∷ not_up p c ∷ []) (nudge_good p) c (λ y. ArePlain (group_of g y).waiting) (λ r. h) (λ e. plain_nudges g p c h)
does_plain g (event.Fail line p) c h = unless_by line (no_peer p c ∷ not_up p c ∷ []) (go_down p) c (λ y. ArePlain (group_of g y).waiting) (λ r. h) (λ e. plain_down g p c h)
does_plain g (event.Start line p) c h = unless_by line (no_peer p c ∷ not_down p c ∷ []) (start p) c (λ y. ArePlain (group_of g y).waiting) (λ r. h) (λ e. h)

ends_plain : (g : ℕ) (c : Core) → Plain g c (end_event c)
ends_plain g c h = go (nat_lt c.limits.ops (length c.journal + length c.entries))
  where
    go : (b : Bool) → ArePlain (group_of g (if b then refuse_entries c else keep_entries c)).waiting
    go true = h
    go false = h

pub step_plain : (g : ℕ) (e : Event) (at : ℕ) (c : Core) → (step e at c).ended ≡ None → Plain g c (step e at c)
step_plain g e at c on h =
    let a : Core = begun e at c in
    let is : step e at c ≡ end_event (do_event e a) = step_is e at c (was_going e at c on) in
    subst (λ (y : Core). ArePlain (group_of g y).waiting) (sym is) (ends_plain g (do_event e a) (does_plain g e a h))
