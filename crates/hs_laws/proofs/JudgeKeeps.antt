-- Each operation keeps a store valid.
use Rattle.std.proofs.Common.{◌≡◌, ℕ, ◌+◌, ◌<◌, ◌≤◌, ◌⊎◌, inl, inr, List, [], ◌∷◌, length, Bool, true, false, not, Option, Some, None, is_none, refl, sym, ap, ◌∙◌, subst, arith, slice_index, nat_le, nat_lt, ◌==◌, ◌&&◌, ◌||◌, map, bytes_eq, tests, mod-lt, ◌-◌}
use Rattle.std.proofs.lemmas.Bool.{and_parts, and_from}
use Rattle.std.specs.BTreeMap.{is_at, insert_entry}
use Rattle.std.specs.Cmp.Lexicographic.{pointwise}
use Rattle.std.specs.Map.{lookup, remove_entry}
use Rattle.std.specs.Option.{option_map}
use Rattle.std.specs.Ordering.{nat_cmp}
use Rattle.hs_limits.specs.Block.{Block}
use Rattle.hs_limits.specs.Shape.{shard_of_key}
use Rattle.hs_limits.specs.declared.address.Address.{Address}
use Rattle.hs_limits.specs.declared.address.Held.{Held}
use Rattle.hs_limits.specs.declared.limits.Limits.{Limits}
use Rattle.hs_model.specs.declared.op.Op.{Op}
use Rattle.hs_model.specs.declared.op.Op.TheVariants as op
use Rattle.hs_model.specs.declared.reply.Reply.{Reply}
use Rattle.hs_model.specs.declared.store.StoredBlock.{StoredBlock}
use Rattle.hs_model.specs.Inner.{none_below}
use Rattle.hs_model.specs.Judge.{judge, judged, refusals, granted, held_or, address_of, written, given_address, kept_address, forgetting}
use Rattle.hs_model.specs.Reach.{anchors, pointers_of}
use Rattle.hs_model.specs.Refusals.{first, refused_when, no_such_handle, no_handle_in, stale_handle, stale_in, is_block, is_other, collision}
use Rattle.hs_model.specs.Run.{Event, asks, enters, sweeps, step, IsAllowed, run, IsLegal}
use Rattle.hs_model.specs.Store.{Store, Root, Session, text_cmp, block_at, epoch_at, root_epoch, session_at, held_in, retained_at, with_block, new_session, helds_of, put_session}
use Rattle.hs_laws.specs.Valid.{least_epoch, rests_on, stands_in}
use Rattle.hs_laws.proofs.EnterLemmas.{enter_valid}
use Rattle.hs_laws.proofs.EpochLemmas.{nat_le-true, least_epoch-at, none_below_from_least}
use Rattle.hs_laws.proofs.HoldKeeps.{sessions_valid, session_entry, put_valid, hold_all_valid}
use Rattle.hs_laws.proofs.InsertLemmas.{insert-value, member_of_remove, entry_from_lookup}
use Rattle.hs_model.proofs.Members.{Member, member_of_map, same_from}
use Rattle.hs_laws.proofs.PromiseLemmas.{anchored_from_held, least-epoch_at}
use Rattle.hs_model.proofs.ReachLemmas.{start, onward, Reaches}
use Rattle.hs_laws.proofs.RootKeeps.{retained_is, rooted_valid, dropped_valid}
use Rattle.hs_laws.proofs.SweepKeeps.{sweep_valid}
use Rattle.hs_laws.proofs.ValidLemmas.{starts-root, HeldIn, Valid}
use Rattle.hs_laws.proofs.WriteKeeps.{MayWrite, with_block_valid, written_rests}

-- ---- what no refusal says

first-none : (r : Option Reply) (rs : List (Option Reply)) → first (r ∷ rs) ≡ None → (r ≡ None) × (first rs ≡ None)
first-none None rs e = (refl, e)
first-none (Some x) rs e = cc e

-- no refusal of a line holds
abbrev pub AllNone : List (Option Reply) → Type 0
AllNone [] = Unit {0}
AllNone (r ∷ rs) = (r ≡ None) × AllNone rs

pub all_none : (rs : List (Option Reply)) → first rs ≡ None → AllNone rs
all_none [] e = tt
all_none (r ∷ rs) e = let f = first-none r rs e in (f.0, all_none rs f.1)

first-each : (f : ℕ → Option Reply) (handles : List ℕ) (handle : ℕ) → first (map f handles) ≡ None → Member handle handles → f handle ≡ None
first-each f [] handle e m = elim m [ ]
first-each f (h ∷ handles) handle e (inl same) = ap f same ∙ (first-none (f h) (map f handles) e).0
first-each f (h ∷ handles) handle e (inr m) = first-each f handles handle (first-none (f h) (map f handles) e).1 m

refused-false : (b : Bool) (r : Reply) → refused_when b r ≡ None → b ≡ false
refused-false true r e = cc e
refused-false false r e = refl

some_from : {X : Type 0} (o : Option X) → is_none o ≡ false → (x : X) × (o ≡ Some x)
some_from None e = cc e
some_from (Some x) e = (x, refl)

-- what a handle that may be used stands for
record Usable (s : Store) (name : List ℕ) (handle now : ℕ) : Type 0 where
  held : HeldIn s.sessions (held_or s name handle)
  fresh : now ≤ (held_or s name handle).epoch + 1

held_found : (s : Store) (name : List ℕ) (handle : ℕ) → no_such_handle (session_at s name) handle ≡ None → (held : Held) × (held_in (session_at s name) handle ≡ Some held) × HeldIn s.sessions held
held_found s name handle e = go (session_at s name) refl (some_from (held_in (session_at s name) handle) (refused-false (is_none (held_in (session_at s name) handle)) _ e))
  where
    go : (found : Option Session) → session_at s name ≡ found → (held : Held) × (held_in (session_at s name) handle ≡ Some held) → (held : Held) × (held_in (session_at s name) handle ≡ Some held) × HeldIn s.sessions held
    go None q h = let none : held_in (session_at s name) handle ≡ None = rw q in cc (none, h.1)
    go (Some session) q h =
        let e = session_entry s name session q in
        let found : lookup (is_at (nat_cmp handle)) session.handles ≡ Some h.0 = rw q at h.1 in
        let p = entry_from_lookup (is_at (nat_cmp handle)) session.handles h.0 found in
        (h.0, h.1, (e.0, p.0, e.1, subst (λ z. Member p.0 z.handles) (sym e.2) p.1, p.2))

held_is : (s : Store) (name : List ℕ) (handle : ℕ) → no_such_handle (session_at s name) handle ≡ None → HeldIn s.sessions (held_or s name handle)
held_is s name handle e = let h = held_found s name handle e in rw h.1 h.2

usable : (s : Store) (name : List ℕ) (handle now : ℕ) → no_such_handle (session_at s name) handle ≡ None → stale_handle now handle (held_in (session_at s name) handle) ≡ None → Usable s name handle now
usable s name handle now e f =
    let h = held_found s name handle e in
    let stale = refused-false (nat_lt (h.0.epoch + 1) now) _ (rw h.1 at f) in
    record { held = held_is s name handle e; fresh = rw h.1 (grind (arith, tests, stale)) }

-- the address of a handle that may be used is anchored
anchored_handle : (s : Store) → Valid s → (name : List ℕ) (handle now : ℕ) → least_epoch s ≤ now → Usable s name handle now → Reaches s.blocks (anchors s (least_epoch s)) (address_of s name handle)
anchored_handle s v name handle now l u =
    let held = held_or s name handle in
    let fresh : least_epoch s ≤ held.epoch + 1 = omega (arith, l, u.fresh) in
    anchored_from_held s held.epoch (least_epoch s) held.address fresh (v.held held u.held fresh)

-- ---- the block that is there is the block that is written

pub least-root_epoch : (s : Store) (key : List ℕ) → 0 < length s.epochs → least_epoch s ≤ root_epoch s key
least-root_epoch s key h = least_epoch-at s (shard_of_key (length s.epochs) key) (mod-lt (slice_index key (length key - 1)) h)

same_pointers : (ps qs : List Address) → pointwise (λ p q. bytes_eq p.0 q.0) ps qs ≡ true → ps ≡ qs
same_pointers [] [] e = refl
same_pointers [] (q ∷ qs) e = cc e
same_pointers (p ∷ ps) [] e = cc e
same_pointers (p ∷ ps) (q ∷ qs) e =
    let both = and_parts (bytes_eq p.0 q.0) (pointwise (λ p q. bytes_eq p.0 q.0) ps qs) e in
    let head : p ≡ q = same_from p q both.0 in
    let tail : ps ≡ qs = same_pointers ps qs both.1 in
    cc (head, tail)

not_false : (b : Bool) → not b ≡ false → b ≡ true
not_false true e = refl
not_false false e = cc e

same_block : (s : Store) (a : Address) (block : Block) (stored : StoredBlock) → collision s a block ≡ None → block_at s a ≡ Some stored → stored.pointers ≡ block.pointers
same_block s a block stored e h =
    let other : is_other (Some stored) block ≡ false = rw h at (refused-false (is_other (block_at s a) block) _ e) in
    same_pointers stored.pointers block.pointers (and_parts (pointwise (λ p q. bytes_eq p.0 q.0) stored.pointers block.pointers) (bytes_eq stored.bytes block.bytes) (not_false (is_block stored block) other)).0

-- ---- operation by operation

opens : (limits : Limits) (s : Store) → Valid s → (name : List ℕ) → Valid (granted s (op.Open name)).store
unfolding granted
opens limits s v name = sessions_valid s v (insert_entry text_cmp s.sessions name new_session) (λ held i l. go held i l (insert-value text_cmp s.sessions name new_session i.0 i.2))
  where
    go : (held : Held) (i : HeldIn (insert_entry text_cmp s.sessions name new_session) held) → least_epoch s ≤ held.epoch + 1 → (i.0.1 ≡ new_session) ⊎ Member i.0 s.sessions → Reaches s.blocks (rests_on s held.epoch) held.address
    go held i l (inl e) = absurd (subst (λ z. Member i.1 z.handles) e i.3)
    go held i l (inr n) = v.held held (i.0, i.1, n, i.3, i.4) l

closes : (s : Store) → Valid s → (name : List ℕ) → Valid (granted s (op.Close name)).store
unfolding granted
closes s v name = sessions_valid s v (remove_entry (is_at (text_cmp name)) s.sessions) (λ held i l. v.held held (i.0, i.1, member_of_remove (is_at (text_cmp name)) s.sessions i.0 i.2, i.3, i.4) l)

forgets : (s : Store) → Valid s → (name : List ℕ) (handle : ℕ) → Valid (granted s (op.Forget name handle)).store
unfolding granted
forgets s v name handle = go (session_at s name) refl
  where
    go : (found : Option Session) → session_at s name ≡ found → Valid (put_session s name (option_map (forgetting handle) found))
    go None e = v
    go (Some session) e = put_valid s v name session (forgetting handle session) e (λ h n. inl (member_of_remove (is_at (nat_cmp handle)) session.handles h n))

-- a write that is not refused has pointers that are anchored, and the block that is there, if one is
pub may_write : (limits : Limits) (s : Store) → Valid s → (name payload handles : List ℕ) (address : Option Address) → first (refusals limits s (op.Write name payload handles address)) ≡ None → MayWrite s (given_address address) (written s name payload handles)
unfolding refusals no_handle_in stale_in
may_write limits s v name payload handles address e =
    let a = given_address address in
    let block = written s name payload handles in
    let r = all_none (refusals limits s (op.Write name payload handles address)) e in
    record {
      pointers = λ p n. let h = member_of_map (λ handle. address_of s name handle) p handles n in subst (λ z. Reaches s.blocks (anchors s (least_epoch s)) z) (sym h.2) (anchored_handle s v name h.0 (epoch_at s a) (least-epoch_at s a v.epochs.some_shard) (usable s name h.0 (epoch_at s a) (first-each (λ handle. no_such_handle (session_at s name) handle) handles h.0 r.1.1.1.0 h.1) (first-each (λ handle. stale_handle (epoch_at s a) handle (held_in (session_at s name) handle)) handles h.0 r.1.1.1.1.1.0 h.1)));
      same = λ stored h. same_block s a block stored r.1.1.1.1.1.1.0 h;
    }

writes : (limits : Limits) (s : Store) → Valid s → (name payload handles : List ℕ) (address : Option Address) → first (refusals limits s (op.Write name payload handles address)) ≡ None → Valid (granted s (op.Write name payload handles address)).store
unfolding granted
writes limits s v name payload handles address e =
    let a = given_address address in
    let block = written s name payload handles in
    let may = may_write limits s v name payload handles address e in
    let held : Held = record { address = a; epoch = epoch_at s a } in
    hold_all_valid (with_block s a block) (with_block_valid s v a block may) name (held ∷ []) (λ x n l. elim n [ inl q ↦ subst (λ z. Reaches (with_block s a block).blocks (rests_on (with_block s a block) z.epoch) z.address) (sym q) (written_rests s v a block may) | inr k ↦ absurd k ])

reads : (limits : Limits) (s : Store) → Valid s → (name : List ℕ) (handle : ℕ) → first (refusals limits s (op.Read name handle)) ≡ None → Valid (granted s (op.Read name handle)).store
unfolding granted refusals no_handle_in helds_of
reads limits s v name handle e =
    let r = all_none (refusals limits s (op.Read name handle)) e in
    let held = held_or s name handle in
    let is = held_is s name handle (first-each (λ handle. no_such_handle (session_at s name) handle) (handle ∷ []) handle r.1.0 (inl refl)) in
    let pointers = pointers_of (block_at s held.address) in
    hold_all_valid s v name (helds_of pointers held.epoch) (λ x n l. let p = member_of_map (λ (address : Address). record { address = address; epoch = held.epoch }) x pointers n in let same : x ≡ record { address = p.0; epoch = held.epoch } = p.2 in let fresh : least_epoch s ≤ held.epoch + 1 = subst (λ (z : Held). least_epoch s ≤ z.epoch + 1) same l in subst (λ (z : Held). Reaches s.blocks (rests_on s z.epoch) z.address) (sym same) (onward (v.held held is fresh) p.1))

kept-found : (o : Option Root) (root : Root) → o ≡ Some root → kept_address o ≡ root.address
kept-found o root e = ap kept_address e

looks : (limits : Limits) (s : Store) → Valid s → (name key : List ℕ) → first (refusals limits s (op.Look name key)) ≡ None → Valid (granted s (op.Look name key)).store
unfolding granted refusals
looks limits s v name key e =
    let r = all_none (refusals limits s (op.Look name key)) e in
    let found = some_from (retained_at s key) (refused-false (is_none (retained_at s key)) _ r.1.1.0) in
    let is = retained_is s key found.0 found.1 in
    let address = kept-found (retained_at s key) found.0 found.1 in
    let stands : stands_in s found.0 ≡ root_epoch s key = rw (is.standing, is.its_key) in
    let held : Held = record { address = kept_address (retained_at s key); epoch = root_epoch s key } in
    let rest : Member found.0.address (rests_on s (root_epoch s key)) = starts-root (λ root. nat_le (root_epoch s key) (stands_in s root)) (λ e. nat_le (root_epoch s key) e.1) s.roots s.given found.0 is.member (nat_le-true (root_epoch s key) (stands_in s found.0) (omega (arith, stands))) in
    hold_all_valid s v name (held ∷ []) (λ x n l. elim n [ inl q ↦ subst (λ (z : Held). Reaches s.blocks (rests_on s z.epoch) z.address) (sym q) (start (subst (λ z. Member z (rests_on s (root_epoch s key))) (sym address) rest)) | inr k ↦ absurd k ])

roots : (limits : Limits) (s : Store) → Valid s → (name key : List ℕ) (handle : ℕ) → first (refusals limits s (op.Root name key handle)) ≡ None → Valid (granted s (op.Root name key handle)).store
unfolding granted refusals no_handle_in stale_in
roots limits s v name key handle e =
    let r = all_none (refusals limits s (op.Root name key handle)) e in
    let now = root_epoch s key in
    let least : least_epoch s ≤ now = least-root_epoch s key v.epochs.some_shard in
    let may = usable s name handle now (first-each (λ handle. no_such_handle (session_at s name) handle) (handle ∷ []) handle r.1.0 (inl refl)) (first-each (λ handle. stale_handle now handle (held_in (session_at s name) handle)) (handle ∷ []) handle r.1.1.0 (inl refl)) in
    rooted_valid s v key (address_of s name handle) (anchored_handle s v name handle now least may)

deletes : (limits : Limits) (s : Store) → Valid s → first (refusals limits s op.Delete) ≡ None → Valid (granted s op.Delete).store
unfolding granted refusals
deletes limits s v e =
    let r = all_none (refusals limits s op.Delete) e in
    let h = v.epochs.some_shard in
    let epoch = slice_index s.epochs 0 in
    let ran = refused-false (nat_lt (slice_index s.swept 0) epoch) _ r.0 in
    let swept : slice_index s.swept 0 ≡ epoch = grind (arith, tests, ran, v.epochs.swept_not_ahead 0 h) in
    let least : epoch ≤ least_epoch s = omega (arith, swept, v.epochs.swept_entered 0 h) in
    enter_valid s v 0 (and_from ((slice_index s.swept 0 == epoch) && none_below s epoch) (0 == 0 || slice_index s.epochs 0 == epoch + 1) (and_from (slice_index s.swept 0 == epoch) (none_below s epoch) (grind (arith, tests, swept)) (none_below_from_least s epoch least)) refl)

grants : (limits : Limits) (s : Store) → Valid s → (o : Op) → first (refusals limits s o) ≡ None → Valid (granted s o).store
unfolding granted
grants limits s v (op.Open name) e = opens limits s v name
grants limits s v (op.Close name) e = closes s v name
grants limits s v (op.Write name payload handles address) e = writes limits s v name payload handles address e
grants limits s v (op.Read name handle) e = reads limits s v name handle e
grants limits s v (op.Look name key) e = looks limits s v name key e
grants limits s v (op.Root name key handle) e = roots limits s v name key handle e
grants limits s v (op.Drop key) e = dropped_valid s v key
grants limits s v (op.Forget name handle) e = forgets s v name handle
grants limits s v (op.Name name handle) e = v
grants limits s v op.Delete e = deletes limits s v e
grants limits s v op.Stat e = v

pub judge_valid : (limits : Limits) (s : Store) → Valid s → (o : Op) → Valid (judge limits s o).store
unfolding judge
judge_valid limits s v o = go (first (refusals limits s o)) refl
  where
    go : (found : Option Reply) → first (refusals limits s o) ≡ found → Valid (judged s o found).store
    go None e = grants limits s v o e
    go (Some refusal) e = v

-- ---- events, and runs of them

pub step_valid : (limits : Limits) (s : Store) → Valid s → (event : Event) → IsAllowed s event → Valid (step limits s event).store
step_valid limits s v (asks o) t = judge_valid limits s v o
step_valid limits s v (enters shard) t = enter_valid s v shard t
step_valid limits s v (sweeps shard) t = sweep_valid s v shard t

pub run_valid : (limits : Limits) (s : Store) → Valid s → (events : List Event) → IsLegal limits s events → Valid (run limits s events)
run_valid limits s v [] t = v
run_valid limits s v (event ∷ events) t = run_valid limits (step limits s event).store (step_valid limits s v event t.0) events t.1
