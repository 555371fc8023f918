-- Changes beside a run: of one peer, of a message that is lost, of what is proposed to no shard, and how an event begins and ends.
use Rattle.std.proofs.Common.{◌≡◌, ◌∙◌, sym, ap, subst, ℕ, ◌+◌, ◌≤◌, ◌==◌, ◌&&◌, Bool, true, false, cond, not, All, Contains, filter, List, [], ◌∷◌, ◌++◌, append-nil, length, map, nat_lt, Option, None, refl}
use Rattle.std.proofs.lemmas.List.{get_or_past, set_past}
use Rattle.std.proofs.lemmas.List.Elements.{All-cons, All-head, All-tail}
use Rattle.std.proofs.lemmas.Map.Views.{All-map-remove_entry}
use Rattle.std.specs.BTreeMap.{is_at}
use Rattle.std.specs.Map.{values_of}
use Rattle.std.specs.Ordering.{nat_cmp}
use Rattle.std.specs.Prelude.{slice_index_or}
use Rattle.hs_standing.specs.Changes.{IsBeside}
use Rattle.hs_awaiting.specs.declared.waiting.Waiting.{Waiting}
use Rattle.hs_anatomy.proofs.RoundLemmas.{known_same}
use Rattle.hs_anatomy.specs.Acts.{begun}
use Rattle.hs_anatomy.specs.Rounds.{is_round}
use Rattle.hs_awaiting.specs.Words.{change_if, change_with}
use Rattle.hs_core_words.specs.Changing.{add_entry_tasks, change_group, change_pool, post, set_tasks}
use Rattle.hs_core_words.specs.declared.event.Event.{Event}
use Rattle.hs_core_words.specs.declared.task.Task.{Task}
use Rattle.hs_core_words.specs.Failing.{leave}
use Rattle.hs_core_words.specs.Looking.{catalogue_of, group_of, lead_of, shape_of}
use Rattle.hs_core_words.specs.Operating.{propose_entry}
use Rattle.hs_core_words.specs.State.{Core}
use Rattle.hs_core_words.specs.Step.{end_event, keep_entries, line_of, refuse_entries}
use Rattle.hs_entry.specs.declared.entry.Entry.{Entry}
use Rattle.hs_journal.specs.declared.entry.JournalEntry.{JournalEntry}
use Rattle.hs_limits.specs.declared.limits.Limits.{Limits}
use Rattle.hs_limits.specs.declared.shape.Shape.{Shape}
use Rattle.hs_members.specs.Members.{lead_by}
use Rattle.hs_post.specs.declared.message.Message.{Message}
use Rattle.hs_post.specs.Pool.{Pool, is_empty, is_for_peer, restart_numbers, without}
use Rattle.hs_replica.specs.declared.replica.Replica.{Replica}
use Rattle.hs_replica.specs.Group.{Group, last_number, new_group, proposal, propose}
use Rattle.hs_shard.specs.Facts.{Catalogue, empty_catalogue}
use Rattle.hs_tokens.specs.Seats.{Seats}

-- ---- messages

-- a Round among these was among those
abbrev IsKnown : List (ℕ × Message) → Message → Type 0
IsKnown es m = is_round m ≡ true → Contains (values_of es) m

known_kept : (xs es : List (ℕ × Message)) (p : ℕ × Message → Bool) → All (IsKnown xs) (values_of es) → All (IsKnown xs) (values_of (filter p es))
known_kept xs [] p h = h
known_kept xs (e ∷ es) p h = go (p e) (known_kept xs es p (All-tail (IsKnown xs) e.1 (values_of es) h))
  where
    go : (b : Bool) → All (IsKnown xs) (values_of (filter p es)) → All (IsKnown xs) (values_of (cond b (e ∷ filter p es) (filter p es)))
    go true rest = All-cons (IsKnown xs) e.1 (values_of (filter p es)) (All-head (IsKnown xs) e.1 (values_of es) h) rest
    go false rest = rest

-- ---- joined

-- what a run is made of, but for its messages
record Kept : Type 0 where
  pub limits : Limits
  pub shape : Shape
  pub catalogues : List Catalogue
  pub groups : List Group
  pub sessions : Seats
  pub operations : List (ℕ × Waiting)
  pub told : List JournalEntry

abbrev kept_of : Core → Kept
kept_of c = record {
  limits = c.limits;
  shape = shape_of c;
  catalogues = c.catalogues;
  groups = c.groups;
  sessions = c.sessions;
  operations = c.operations;
  told = (c.journal ++ c.refused) ++ c.entries;
}

beside_kept : (a b : Core) → kept_of b ≡ kept_of a → All (IsKnown a.pool.messages) (values_of b.pool.messages) → IsBeside a b
beside_kept a b same rounds = record {
  limits = ap (λ (k : Kept). k.limits) same;
  shape = ap (λ (k : Kept). k.shape) same;
  catalogues = ap (λ (k : Kept). k.catalogues) same;
  sessions = ap (λ (k : Kept). k.sessions) same;
  operations = ap (λ (k : Kept). k.operations) same;
  told = ap (λ (k : Kept). k.told) same;
  waiting = λ g. ap (λ (k : Kept). (slice_index_or k.groups g (new_group k.shape g 0 0 [])).waiting) same;
  front = λ g. ap (λ (k : Kept). (slice_index_or k.groups g (new_group k.shape g 0 0 [])).front) same;
  rounds = rounds;
}

-- the messages are the same too
beside_still : (a b : Core) → kept_of b ≡ kept_of a → b.pool ≡ a.pool → IsBeside a b
beside_still a b same pool = beside_kept a b same (subst (λ (p : Pool). All (IsKnown a.pool.messages) (values_of p.messages)) (sym pool) (known_same a.pool.messages))

-- other messages alone
beside_pool : (c : Core) (pool : Pool) → All (IsKnown c.pool.messages) (values_of pool.messages) → IsBeside c (record c { pool = pool })
beside_pool c pool h = beside_kept c (record c { pool = pool }) refl h

pub beside_without : (number : ℕ) (c : Core) → IsBeside c (change_pool (without number) c)
beside_without number c =
    beside_pool c (without number c.pool) (All-map-remove_entry (is_at (nat_cmp number)) (λ e. e.1) (IsKnown c.pool.messages) c.pool.messages (known_same c.pool.messages))

-- ---- one shard, one peer

pub beside_tasks : (peer : ℕ) (tasks : List Task) (c : Core) → IsBeside c (set_tasks peer tasks c)
beside_tasks peer tasks c = beside_still c (set_tasks peer tasks c) refl refl

pub beside_leave : (peer : ℕ) (c : Core) → IsBeside c (leave peer c)
beside_leave peer c = beside_kept c (leave peer c) refl (known_kept c.pool.messages c.pool.messages (λ e. not (is_for_peer peer e.1)) (known_same c.pool.messages))

-- what is proposed in a shard that there is not
pub beside_nowhere : (shard : ℕ) (entry : Entry) (c : Core) → length c.groups ≤ shard → IsBeside c (propose_entry shard entry c)
beside_nowhere shard entry c high =
    subst (λ (o : Option ℕ). IsBeside c (change_with o (λ peer. add_entry_tasks peer (last_number (group_of shard c) + 1) entry) (post (proposal entry (group_of shard c)) (change_group shard (propose entry) c)))) (sym no_lead)
    (subst (λ (g : Group). IsBeside c (post (proposal entry g) (change_group shard (propose entry) c))) (sym nothing)
    (beside_still c (post (proposal entry (new_group (shape_of c) shard 0 0 [])) (change_group shard (propose entry) c))
    (ap (λ gs. record (kept_of c) { groups = gs }) (set_past c.groups shard (propose entry (group_of shard c)) high)) refl))
  where
    nothing : group_of shard c ≡ new_group (shape_of c) shard 0 0 []
    nothing = get_or_past c.groups shard (new_group (shape_of c) shard 0 0 []) high

    no_lead : lead_of shard c ≡ None
    no_lead = ap (λ (g : Group). lead_by shard (map (λ (copy : Replica). length copy.stamps) g.copies) c.members) nothing

-- ---- how an event begins and ends

pub beside_begun : (e : Event) (at : ℕ) (c : Core) → IsBeside c (begun e at c)
beside_begun e at c = beside_kept c (begun e at c) refl (go ((c.progress.event_line == 0 && not (line_of e == 0)) && is_empty c.pool))
  where
    go : (b : Bool) → All (IsKnown c.pool.messages) (values_of (change_if b restart_numbers c.pool).messages)
    go true = known_same c.pool.messages
    go false = known_same c.pool.messages

told_kept : (journal refused entries : List JournalEntry) → refused ≡ [] → ((journal ++ entries) ++ refused) ++ [] ≡ (journal ++ refused) ++ entries
told_kept journal refused entries none =
    append-nil ((journal ++ entries) ++ refused) ∙ ap (λ rs. (journal ++ entries) ++ rs) none ∙ append-nil (journal ++ entries)
    ∙ sym (ap (λ rs. (journal ++ rs) ++ entries) none ∙ ap (λ rs. rs ++ entries) (append-nil journal))

told_refused : (journal refused entries : List JournalEntry) → refused ≡ [] → (journal ++ entries) ++ [] ≡ (journal ++ refused) ++ entries
told_refused journal refused entries none =
    append-nil (journal ++ entries) ∙ sym (ap (λ rs. (journal ++ rs) ++ entries) none ∙ ap (λ rs. rs ++ entries) (append-nil journal))

-- where the journal was not full before
pub beside_ended : (c : Core) → c.refused ≡ [] → IsBeside c (end_event c)
beside_ended c none = go (nat_lt c.limits.ops (length c.journal + length c.entries))
  where
    go : (b : Bool) → IsBeside c (cond b (refuse_entries c) (keep_entries c))
    go true = beside_kept c (refuse_entries c) (ap (λ es. record (kept_of c) { told = es }) (told_refused c.journal c.refused c.entries none)) (known_same c.pool.messages)
    go false = beside_kept c (keep_entries c) (ap (λ es. record (kept_of c) { told = es }) (told_kept c.journal c.refused c.entries none)) (known_same c.pool.messages)

-- ---- what stays beside

pub beside_catalogue : (a b : Core) → IsBeside a b → (g : ℕ) → catalogue_of g b ≡ catalogue_of g a
beside_catalogue a b p g =
    ap (λ (s : Shape). slice_index_or b.catalogues g (empty_catalogue s g)) p.shape
    ∙ ap (λ (cs : List Catalogue). slice_index_or cs g (empty_catalogue (shape_of a) g)) p.catalogues
