-- What is judged of a copy's operations does to its session, whose handles may grow stale.
use Rattle.std.proofs.Common.{◌≡◌, ◌⊎◌, inl, inr, ℕ, ◌+◌, ◌-◌, ◌<◌, ◌≤◌, List, [], ◌∷◌, ◌++◌, Option, Some, None, Bool, true, false, refl, sym, ap, ◌∙◌, subst, arith, tests, length, map, is_none, is_some, nat_lt, not, bytes_eq, slice_index, slice_set, mod-lt, unwrap_or, if◌then◌else◌}
use Rattle.std.proofs.lemmas.Slice.Eq.{bytes_eq-Decides}
use Rattle.std.specs.BTreeMap.{insert_entry, is_at}
use Rattle.std.specs.List.{AllByRecursion}
use Rattle.std.specs.Map.{lookup, remove_entry}
use Rattle.std.specs.Option.{option_map}
use Rattle.std.specs.Ordering.{is_gt, nat_cmp}
use Rattle.std.specs.Prelude.{find}
use Rattle.hs_asking.proofs.HandLemmas.{all_append, all_left, all_right, ascend_last, ascend_without, find_member, holding-numbered, remove_in}
use Rattle.hs_asking.proofs.SaneLemmas.{step_sane}
use Rattle.hs_asking.proofs.SeatLemmas.{epoch_behind, epoch_within, full_none, lt-false, member_all, one_of_two, put-blocks, put-epochs, put-opened, skip, when_not}
use Rattle.hs_asking.proofs.StayLemmas.{Drifted, inner_was}
use Rattle.hs_asking.specs.Judged.{Drifts, IsInner}
use Rattle.hs_asking.specs.Seats.{Ascend, IsSane}
use Rattle.hs_copy.specs.Hands.{HasHands, HasOnly, IsTooOld, KeepsHands, Lessens, LessensBut, RootsSo, WritesSo, rooted, unrooted, unwritten, wrote}
use Rattle.hs_copy.specs.Writing.{IsStale}
use Rattle.hs_laws.proofs.DistinctLemmas.{step-distinct}
use Rattle.hs_laws.proofs.InsertLemmas.{lookup-insert_other}
use Rattle.hs_laws.proofs.JudgeKeeps.{AllNone, all_none}
use Rattle.hs_laws.proofs.WriteAnswers.{dup_stays, dup_there, new_there}
use Rattle.hs_laws.specs.Distinct.{HasDistinctAddresses}
use Rattle.hs_laws.specs.Written.{IsBlockAt}
use Rattle.hs_limits.specs.Block.{Block}
use Rattle.hs_limits.specs.Shape.{shard_of_key}
use Rattle.hs_limits.specs.declared.address.Address.{Address}
use Rattle.hs_limits.specs.declared.address.Held.{Held}
use Rattle.hs_limits.specs.declared.limits.Limits.{Limits}
use Rattle.hs_limits.specs.declared.spelling.TheConstants.{MOST_BYTES, MOST_POINTERS}
use Rattle.hs_model.proofs.JudgeLemmas.{judge_deleted, judge_forgot, judge_refused, judge_rooted, judge_wrote, root_refused}
use Rattle.hs_model.proofs.Members.{Member, member-append_right, same_from}
use Rattle.hs_model.proofs.RefusalLemmas.{held_of_open, root_unused, root_used, write_of_block, write_of_open, write_of_session}
use Rattle.hs_model.specs.Judge.{Judged, address_of, deleted, forgetting, forgot, judge, nothing, refusals, root_refusals, refused as refused_by, rooted as rooted_by, roots_with, written, written_reply, wrote as wrote_by}
use Rattle.hs_model.specs.Reach.{is_same}
use Rattle.hs_model.specs.Refusals.{collision, first, handles_full_in, keeps_other, key_taken, no_handle_in, no_session, no_such_handle, refused_when, roots_full, shard_full, stale_handle, stale_in, too_long, too_many, no_handle, handles_full, stale}
use Rattle.hs_model.specs.Run.{Event, asks, run, step}
use Rattle.hs_model.specs.Store.{Root, Session, Store, address_cmp, block_at, blocks_with, epoch_at, held_at, held_in, holding_all, is_retained, next_of, place_root, put_session, retained_at, root_cmp, root_epoch, session_at, with_block}
use Rattle.hs_model.specs.declared.op.Op.{Op}
use Rattle.hs_model.specs.declared.op.Op.TheVariants as op
use Rattle.hs_model.specs.declared.reply.Reply.{Reply}
use Rattle.hs_model.specs.declared.reply.Reply.TheVariants as reply
use Rattle.hs_model.specs.declared.store.StoredBlock.{StoredBlock}
use Rattle.hs_tree.specs.Storing.{our_session}

-- ---- shards

run_less : (limits : Limits) (s : Store) (es : List Event) → AllByRecursion IsInner es → HasDistinctAddresses s → Lessens s (run limits s es)
run_less limits s [] h d a y p = p
run_less limits s (e ∷ es) h d a y p = inner_was limits s e h.0 d a y (run_less limits (step limits s e).store es h.1 (step-distinct limits s e d) a y p)

pub drift_less : (limits : Limits) (s t : Store) → Drifts limits s t → HasDistinctAddresses s → Lessens s t
drift_less limits s t d distinct a y p = run_less limits s d.events d.inner distinct a y (subst (λ z. block_at z a ≡ Some y) (sym d.leaves) p)

pub hands_drift : (s t : Store) (since next : ℕ) (es : List (ℕ × Held)) → Drifted s t → HasHands s since next es → HasHands t since next es
hands_drift s t since next es d h = record { sane = d.sane; opened = d.sessions our_session ∙ h.opened; ascend = h.ascend; given = h.given; now = subst (λ z. since ≤ z) (sym d.first) h.now }

-- ---- one operation

first_one : (o : Option Reply) → first (o ∷ []) ≡ o
first_one None = refl
first_one (Some r) = refl

blocks_less : (s u : Store) → u.blocks ≡ s.blocks → Lessens s u
blocks_less s u e a y p = sym (ap (λ x. lookup (is_at (address_cmp a)) x) e) ∙ p

with_less : (s u : Store) (a : Address) (block : Block) (epoch : ℕ) → u.blocks ≡ blocks_with (block_at s a) s.blocks a block epoch → LessensBut s u a
with_less s u a block epoch e = go (block_at s a) e
  where
    stored : StoredBlock
    stored = record { pointers = block.pointers; bytes = block.bytes; born = epoch }

    at : u.blocks ≡ insert_entry address_cmp s.blocks a stored → (b : Address) (y : StoredBlock) → (c : Bool) → is_same b a ≡ c → block_at u b ≡ Some y → (block_at s b ≡ Some y) ⊎ (b ≡ a)
    at f b y true t p = inr (same_from b a t)
    at f b y false t p = inl (sym (ap (λ x. lookup (is_at (address_cmp b)) x) f ∙ lookup-insert_other s.blocks a stored b t) ∙ p)

    go : (found : Option StoredBlock) → u.blocks ≡ blocks_with found s.blocks a block epoch → LessensBut s u a
    go (Some x) f b y p = inl (blocks_less s u f b y p)
    go None f b y p = at f b y (is_same b a) refl p

only_from : (u : Store) (a : Address) (block : Block) → IsBlockAt u a block → HasOnly u a block
only_from u a block h y p =
    let same : h.stored ≡ y = some_is h.stored y (sym h.present ∙ p) in
    let pointers : y.pointers ≡ block.pointers = ap (λ (z : StoredBlock). z.pointers) (sym same) ∙ h.pointers in
    let bytes : y.bytes ≡ block.bytes = ap (λ (z : StoredBlock). z.bytes) (sym same) ∙ h.bytes in
    λ i. record { pointers = pointers i; bytes = bytes i }
  where
    some_is : (x y : StoredBlock) → Some x ≡ Some y → x ≡ y
    some_is x y e = cc e

-- what is held is found
abbrev pub IsKnown : Session → ℕ → Type 0
IsKnown session handle = (held : Held) × Member (handle, held) session.handles

known_here : (next : ℕ) (es : List (ℕ × Held)) → Ascend 0 es next → (handle : ℕ) (held : Held) → Member (handle, held) es → held_in (Some (record { next = next; handles = es })) handle ≡ Some held
known_here next es a handle held m = find_member 0 es (handle, held) next a m

no_handle_none : (next : ℕ) (es : List (ℕ × Held)) → Ascend 0 es next → (handles : List ℕ) → AllByRecursion (IsKnown (record { next = next; handles = es })) handles → no_handle_in (Some (record { next = next; handles = es })) handles ≡ None
unfolding no_handle_in
no_handle_none next es a [] h = refl
no_handle_none next es a (handle ∷ rest) h =
    let session : Session = record { next = next; handles = es } in
    let here : no_such_handle (Some session) handle ≡ None = ap (λ x. refused_when (is_none x) (reply.NoHandle handle)) (known_here next es a handle h.0.0 h.0.1) in
    skip (no_such_handle (Some session) handle) (map (λ handle. no_such_handle (Some session) handle) rest) here ∙ no_handle_none next es a rest h.1

-- a stale handle was given too long ago
stale_one : (now handle : ℕ) (held : Held) (r : Reply) → stale_handle now handle (Some held) ≡ Some r → IsStale r × (held.epoch + 1 < now)
stale_one now handle held r e = go (nat_lt (held.epoch + 1) now) refl e
  where
    go : (b : Bool) → nat_lt (held.epoch + 1) now ≡ b → refused_when b (reply.Stale handle held.epoch now) ≡ Some r → IsStale r × (held.epoch + 1 < now)
    go true t f = (subst IsStale (is r f) tt, grind (arith, tests, t))
      where
        is : (r : Reply) → Some (reply.Stale handle held.epoch now) ≡ Some r → reply.Stale handle held.epoch now ≡ r
        is r f = cc f
    go false t f = cc f

stale_is : (since next : ℕ) (es : List (ℕ × Held)) → Ascend 0 es next → AllByRecursion (λ (e : ℕ × Held). since ≤ e.1.epoch + 1) es → (now : ℕ) (handles : List ℕ) → AllByRecursion (IsKnown (record { next = next; handles = es })) handles
    → (r : Reply) → stale_in (Some (record { next = next; handles = es })) now handles ≡ Some r → IsStale r × (since < now)
unfolding stale_in
stale_is since next es a g now [] h r e = cc e
stale_is since next es a g now (handle ∷ rest) h r e = go (stale_is since next es a g now rest h.1 r) (stale_handle now handle (held_in (Some session) handle)) refl
  where
    session : Session
    session = record { next = next; handles = es }

    found : held_in (Some session) handle ≡ Some h.0.0
    found = known_here next es a handle h.0.0 h.0.1

    go : (stale_in (Some session) now rest ≡ Some r → IsStale r × (since < now)) → (o : Option Reply) → stale_handle now handle (held_in (Some session) handle) ≡ o → IsStale r × (since < now)
    go ih None f = ih (sym (skip (stale_handle now handle (held_in (Some session) handle)) (map (λ handle. stale_handle now handle (held_in (Some session) handle)) rest) f) ∙ e)
    go ih (Some q) f =
        let same : Some q ≡ Some r = sym (ap (λ z. first (z ∷ map (λ handle. stale_handle now handle (held_in (Some session) handle)) rest)) f) ∙ e in
        let one = stale_one now handle h.0.0 r (sym (ap (λ z. stale_handle now handle z) found) ∙ (f ∙ same)) in
        let given : since ≤ h.0.0.epoch + 1 = member_all (λ (e : ℕ × Held). since ≤ e.1.epoch + 1) es (handle, h.0.0) g h.0.1 in
        let late : h.0.0.epoch + 1 < now = one.1 in
        (one.0, omega (arith, given, late))

module _ (limits : Limits) (s : Store) (since next : ℕ) (es : List (ℕ × Held)) (hands : HasHands s since next es) where
  abbrev session : Session
  session = record { next = next; handles = es }

  sane_after : (o : Op) → IsSane (judge limits s o).store
  sane_after o = step_sane limits s (asks o) tt hands.sane

  -- a session that is as it was, in a store of these epochs
  same_hands : (o : Op) (after : List (ℕ × Held)) → session_at (judge limits s o).store our_session ≡ Some (record { next = next; handles = after }) → Ascend 0 after next → AllByRecursion (λ (e : ℕ × Held). since ≤ e.1.epoch + 1) after → since ≤ slice_index (judge limits s o).store.epochs 0 → HasHands (judge limits s o).store since next after
  same_hands o after opened ascend given now = record { sane = sane_after o; opened = opened; ascend = ascend; given = given; now = now }

  -- what a refusal leaves
  refused_keeps : (o : Op) (r : Reply) → first (refusals limits s o) ≡ Some r → KeepsHands s (judge limits s o).store since next es × ((judge limits s o).reply ≡ r)
  refused_keeps o r e =
      let j : judge limits s o ≡ refused_by o s r = judge_refused limits s o r e in
      let still : (judge limits s o).store ≡ s = ap (λ x. x.store) j in
      (subst (λ u. KeepsHands s u since next es) (sym still) (record { hands = hands; less = λ a y p. p }), ap (λ x. x.reply) j)

  -- ---- a write

  module _ (payload handles : List ℕ) (a : Address) (short : length payload ≤ MOST_BYTES) (few : length handles ≤ MOST_POINTERS) (room : length es + 1 ≤ limits.handles) (known : AllByRecursion (IsKnown session) handles) where
    abbrev line : Op
    line = op.Write our_session payload handles (Some a)

    abbrev block : Block
    block = written s our_session payload handles

    of_session : first (no_session s our_session ∷ too_long payload ∷ too_many handles ∷ no_handle s our_session handles ∷ handles_full limits s our_session 1 ∷ stale s our_session (epoch_at s a) handles ∷ []) ≡ stale_in (Some session) (epoch_at s a) handles
    of_session = write_of_open limits s our_session payload handles (epoch_at s a) session hands.opened
        ∙ (skip (too_long payload) _ (when_not _ _ (lt-false MOST_BYTES (length payload) short))
        ∙ (skip (too_many handles) _ (when_not _ _ (lt-false MOST_POINTERS (length handles) few))
        ∙ (skip (no_handle_in (Some session) handles) _ (no_handle_none next es hands.ascend handles known)
        ∙ (skip (handles_full_in limits (Some session) 1) _ (full_none limits session 1 room)
        ∙ first_one (stale_in (Some session) (epoch_at s a) handles)))))

    too_old : (r : Reply) → stale_in (Some session) (epoch_at s a) handles ≡ Some r → IsTooOld s since r
    too_old r e =
        let k = stale_is since next es hands.ascend hands.given (epoch_at s a) handles known r e in
        let late : since < epoch_at s a = k.1 in
        let within : epoch_at s a ≤ slice_index s.epochs 0 = epoch_within s hands.sane a in
        record { stale = k.0; risen = omega (arith, late, within) }

    write_refused : (r : Reply) → first (refusals limits s line) ≡ Some r → IsTooOld (judge limits s line).store since r ⊎ ((r ≡ reply.Collision) ⊎ (r ≡ reply.ShardFull limits.blocks)) → WritesSo limits s (judge limits s line).store since next es a block (judge limits s line).reply
    write_refused r e why =
        let k = refused_keeps line r e in
        subst (λ z. WritesSo limits s (judge limits s line).store since next es a block z) (sym k.1) (unwritten why k.0.hands k.0.less)

    write_granted : first (refusals limits s line) ≡ None → WritesSo limits s (judge limits s line).store since next es a block (judge limits s line).reply
    write_granted e =
        let j : judge limits s line ≡ wrote_by s our_session a block = judge_wrote limits s our_session payload handles (Some a) a block.pointers e refl refl in
        let held : Held = record { address = a; epoch = epoch_at s a } in
        let blocks_are : (judge limits s line).store.blocks ≡ blocks_with (block_at s a) s.blocks a block (epoch_at s a) = ap (λ x. x.store.blocks) j ∙ put-blocks (with_block s a block) our_session _ in
        let epochs_are : (judge limits s line).store.epochs ≡ s.epochs = ap (λ x. x.store.epochs) j ∙ put-epochs (with_block s a block) our_session _ in
        let more : holding_all (held ∷ []) session ≡ record { next = next + 1; handles = es ++ (next, held) ∷ [] } = holding-numbered 0 es next (held ∷ []) hands.ascend in
        let opened : session_at (judge limits s line).store our_session ≡ Some (record { next = next + 1; handles = es ++ (next, held) ∷ [] }) =
        ap (λ x. session_at x.store our_session) j ∙ (ap (λ x. session_at (put_session (with_block s a block) our_session (option_map (holding_all (held ∷ [])) x)) our_session) hands.opened ∙ (put-opened (with_block s a block) our_session session (holding_all (held ∷ []) session) hands.opened ∙ ap (λ x. Some x) more)) in
        let behind : slice_index s.epochs 0 ≤ epoch_at s a + 1 = epoch_behind s hands.sane a in
        let since_is : since ≤ slice_index s.epochs 0 = hands.now in
        let after : HasHands (judge limits s line).store since (next + 1) (es ++ (next, held) ∷ []) = record {
          sane = sane_after line;
          opened = opened;
          ascend = ascend_last 0 es next held hands.ascend;
          given = all_append (λ (e : ℕ × Held). since ≤ e.1.epoch + 1) es ((next, held) ∷ []) hands.given (omega (arith, behind, since_is), tt);
          now = subst (λ z. since ≤ slice_index z 0) (sym epochs_are) hands.now;
        } in
        let told : (judge limits s line).reply ≡ written_reply (is_some (block_at s a)) next (epoch_at s a) = ap (λ x. x.reply) j ∙ ap (λ x. written_reply (is_some (block_at s a)) (next_of x) (epoch_at s a)) hands.opened in
        go (is_some (block_at s a)) told after (with_less s (judge limits s line).store a block (epoch_at s a) blocks_are)
      where
        go : (present : Bool) → (judge limits s line).reply ≡ written_reply present next (epoch_at s a) → HasHands (judge limits s line).store since (next + 1) (es ++ (next, record { address = a; epoch = epoch_at s a }) ∷ [])
            → LessensBut s (judge limits s line).store a → WritesSo limits s (judge limits s line).store since next es a block (judge limits s line).reply
        go true t after less =
            let there : IsBlockAt s a block = dup_there limits s our_session payload handles (Some a) next (epoch_at s a) t in
            let same : (judge limits s line).store.blocks ≡ s.blocks = dup_stays limits s our_session payload handles (Some a) next (epoch_at s a) t in
            wrote (epoch_at s a) (inr t) after (λ y p. only_from s a block there y (blocks_less s (judge limits s line).store same a y p)) less
        go false t after less = wrote (epoch_at s a) (inl t) after (only_from (judge limits s line).store a block (new_there limits s our_session payload handles (Some a) next (epoch_at s a) t)) less

    pub write_so : WritesSo limits s (judge limits s line).store since next es a block (judge limits s line).reply
    write_so = go (stale_in (Some session) (epoch_at s a) handles) refl
      where
        here : (r : Reply) → IsTooOld s since r → first (refusals limits s line) ≡ Some r → IsTooOld (judge limits s line).store since r
        here r old e = subst (λ u. IsTooOld u since r) (sym (ap (λ x. x.store) (judge_refused limits s line r e))) old

        behind : first (no_session s our_session ∷ too_long payload ∷ too_many handles ∷ no_handle s our_session handles ∷ handles_full limits s our_session 1 ∷ stale s our_session (epoch_at s a) handles ∷ []) ≡ None → (found : Option Reply) → first (refusals limits s line) ≡ found → WritesSo limits s (judge limits s line).store since next es a block (judge limits s line).reply
        behind free None e = write_granted e
        behind free (Some r) e =
            let of_it : first (refusals limits s line) ≡ first (collision s a block ∷ shard_full limits s a ∷ []) = write_of_block limits s our_session payload handles (Some a) a block refl refl free in
            write_refused r e (inr (one_of_two _ _ reply.Collision (reply.ShardFull limits.blocks) r (sym of_it ∙ e)))

        go : (found : Option Reply) → stale_in (Some session) (epoch_at s a) handles ≡ found → WritesSo limits s (judge limits s line).store since next es a block (judge limits s line).reply
        go (Some r) e =
            let f : first (refusals limits s line) ≡ Some r = write_of_session limits s our_session payload handles (Some a) a r refl (of_session ∙ e) in
            write_refused r f (inl (here r (too_old r e) f))
        go None e = behind (of_session ∙ e) (first (refusals limits s line)) refl

  -- ---- a root

  find_placed : (key : List ℕ) (root : Root) → is_retained key root ≡ true → (roots : List Root) → find (is_retained key) roots ≡ None → find (is_retained key) (place_root root roots) ≡ Some root
  find_placed key root t [] h = rw t refl
  find_placed key root t (r ∷ roots) h = go (find_placed key root t roots) (is_retained key r) refl (is_gt (root_cmp root r)) h
    where
      go : (find (is_retained key) roots ≡ None → find (is_retained key) (place_root root roots) ≡ Some root) → (b : Bool) → is_retained key r ≡ b → (c : Bool) → find (is_retained key) (r ∷ roots) ≡ None → find (is_retained key) (if c then r ∷ place_root root roots else root ∷ r ∷ roots) ≡ Some root
      go ih true e c n = let k = rw e at n in cc k
      go ih false e true n = rw e (ih (rw e at n))
      go ih false e false n = rw t refl

  module _ (handle : ℕ) (held : Held) (m : Member (handle, held) es) (key : List ℕ) where
    abbrev rooting : Op
    rooting = op.Root our_session key handle

    held_here : held_at s our_session handle ≡ Some held
    held_here = ap (λ x. held_in x handle) hands.opened ∙ known_here next es hands.ascend handle held m

    pub address_is : address_of s our_session handle ≡ held.address
    address_is = ap (λ x. (unwrap_or x nothing).address) held_here

    is_known : AllByRecursion (IsKnown session) (handle ∷ [])
    is_known = ((held, m), tt)

    root_within : root_epoch s key ≤ slice_index s.epochs 0
    root_within = hands.sane.valid.epochs.not_ahead (shard_of_key (length s.epochs) key) (mod-lt (slice_index key (length key - 1)) hands.sane.valid.epochs.some_shard)

    of_use : first (no_handle_in (Some session) (handle ∷ []) ∷ stale_in (Some session) (root_epoch s key) (handle ∷ []) ∷ []) ≡ stale_in (Some session) (root_epoch s key) (handle ∷ [])
    of_use = skip (no_handle_in (Some session) (handle ∷ [])) _ (no_handle_none next es hands.ascend (handle ∷ []) is_known) ∙ first_one (stale_in (Some session) (root_epoch s key) (handle ∷ []))

    kept_same : (root : Root) → keeps_other (Some root) held.address ≡ false → root.address ≡ held.address
    kept_same root e = λ i. record { 0 = (bytes_eq-Decides root.address.0 held.address.0).0 (not_false (bytes_eq root.address.0 held.address.0) e) i }
      where
        not_false : (b : Bool) → not b ≡ false → b ≡ true
        not_false true e = refl
        not_false false e = cc e

    when_none : (b : Bool) (r : Reply) → refused_when b r ≡ None → b ≡ false
    when_none true r e = cc e
    when_none false r e = refl

    refused_root : (r : Reply) → first (root_refusals limits s our_session key handle) ≡ Some r → IsTooOld s since r ⊎ ((r ≡ reply.KeyTaken key) ⊎ (r ≡ reply.RootsFull limits.roots)) → RootsSo limits s (judge limits s rooting).store since next es key held (judge limits s rooting).reply
    refused_root r e why =
        let j : judge limits s rooting ≡ refused_by rooting s r = root_refused limits s our_session key handle r e in
        subst (λ (z : Judged). RootsSo limits s z.store since next es key held z.reply) (sym j) (unrooted why hands (λ a y p. p))

    granted_root : first (root_refusals limits s our_session key handle) ≡ None → keeps_other (retained_at s key) held.address ≡ false → RootsSo limits s (judge limits s rooting).store since next es key held (judge limits s rooting).reply
    granted_root e k =
        let j : judge limits s rooting ≡ rooted_by s key held.address = judge_rooted limits s our_session key handle held.address e (sym address_is) in
        go (retained_at s key) refl k j
      where
        fresh_root : Root
        fresh_root = record { key = key; address = held.address; dropped = None }

        go : (found : Option Root) → retained_at s key ≡ found → keeps_other found held.address ≡ false → judge limits s rooting ≡ rooted_by s key held.address → RootsSo limits s (judge limits s rooting).store since next es key held (judge limits s rooting).reply
        go found f k j =
            let roots_are : (judge limits s rooting).store.roots ≡ roots_with found s.roots fresh_root = ap (λ x. x.store.roots) j ∙ ap (λ x. roots_with x s.roots fresh_root) f in
            let same : (judge limits s rooting).store.blocks ≡ s.blocks = ap (λ x. x.store.blocks) j in
            let epochs_are : (judge limits s rooting).store.epochs ≡ s.epochs = ap (λ x. x.store.epochs) j in
            let after : HasHands (judge limits s rooting).store since next es = same_hands rooting es (ap (λ x. session_at x.store our_session) j ∙ hands.opened) hands.ascend hands.given (subst (λ z. since ≤ slice_index z 0) (sym epochs_are) hands.now) in
            with_root found f k roots_are (ap (λ x. x.reply) j) after (blocks_less s (judge limits s rooting).store same)
          where
            with_root : (found : Option Root) → retained_at s key ≡ found → keeps_other found held.address ≡ false → (judge limits s rooting).store.roots ≡ roots_with found s.roots fresh_root
                → (judge limits s rooting).reply ≡ reply.Ok → HasHands (judge limits s rooting).store since next es → Lessens s (judge limits s rooting).store → RootsSo limits s (judge limits s rooting).store since next es key held (judge limits s rooting).reply
            with_root (Some root) f k r t after less = rooted t root (ap (λ x. find (is_retained key) x) r ∙ f) (kept_same root k) after less
            with_root None f k r t after less = rooted t fresh_root (ap (λ x. find (is_retained key) x) r ∙ find_placed key fresh_root ((bytes_eq-Decides key key).1 refl) s.roots f) refl after less

    pub root_so : RootsSo limits s (judge limits s rooting).store since next es key held (judge limits s rooting).reply
    root_so = go (stale_in (Some session) (root_epoch s key) (handle ∷ [])) refl
      where
        behind : first (no_handle_in (Some session) (handle ∷ []) ∷ stale_in (Some session) (root_epoch s key) (handle ∷ []) ∷ []) ≡ None → (found : Option Reply) → first (root_refusals limits s our_session key handle) ≡ found → RootsSo limits s (judge limits s rooting).store since next es key held (judge limits s rooting).reply
        behind free (Some r) e =
            let used = root_used limits s our_session key handle (root_epoch s key) session held.address hands.opened refl (sym address_is) free in
            refused_root r e (inr (one_of_two _ _ (reply.KeyTaken key) (reply.RootsFull limits.roots) r (sym used ∙ e)))
        behind free None e =
            let used = root_used limits s our_session key handle (root_epoch s key) session held.address hands.opened refl (sym address_is) free in
            let none : AllNone (key_taken s key held.address ∷ roots_full limits s key ∷ []) = all_none (key_taken s key held.address ∷ roots_full limits s key ∷ []) (sym used ∙ e) in
            granted_root e (when_none (keeps_other (retained_at s key) held.address) (reply.KeyTaken key) none.0)

        go : (found : Option Reply) → stale_in (Some session) (root_epoch s key) (handle ∷ []) ≡ found → RootsSo limits s (judge limits s rooting).store since next es key held (judge limits s rooting).reply
        go (Some r) e =
            let k = stale_is since next es hands.ascend hands.given (root_epoch s key) (handle ∷ []) is_known r e in
            let late : since < root_epoch s key = k.1 in
            let within : root_epoch s key ≤ slice_index s.epochs 0 = root_within in
            refused_root r (root_unused limits s our_session key handle (root_epoch s key) session r hands.opened refl (of_use ∙ e)) (inl (record { stale = k.0; risen = omega (arith, late, within) }))
        go None e = behind (of_use ∙ e) (first (root_refusals limits s our_session key handle)) refl

  -- ---- a forget

  pub forget_so : (front : List (ℕ × Held)) (e : ℕ × Held) (back : List (ℕ × Held)) → es ≡ front ++ e ∷ back → KeepsHands s (judge limits s (op.Forget our_session e.0)).store since next (front ++ back) × ((judge limits s (op.Forget our_session e.0)).reply ≡ reply.Ok)
  forget_so front e back split =
      let o : Op = op.Forget our_session e.0 in
      let ascends : Ascend 0 (front ++ e ∷ back) next = subst (λ z. Ascend 0 z next) split hands.ascend in
      let given_all : AllByRecursion (λ (x : ℕ × Held). since ≤ x.1.epoch + 1) (front ++ e ∷ back) = subst (AllByRecursion (λ (x : ℕ × Held). since ≤ x.1.epoch + 1)) split hands.given in
      let m : Member e es = subst (λ z. Member e z) (sym split) (member-append_right e front (e ∷ back) (inl refl)) in
      let free : first (no_session s our_session ∷ no_handle s our_session (e.0 ∷ []) ∷ []) ≡ None = held_of_open s our_session (e.0 ∷ []) session hands.opened ∙ no_handle_none next es hands.ascend (e.0 ∷ []) ((e.1, m), tt) in
      let j : judge limits s o ≡ forgot s our_session e.0 = judge_forgot limits s our_session e.0 free in
      let same : (judge limits s o).store.blocks ≡ s.blocks = ap (λ x. x.store.blocks) j ∙ put-blocks s our_session _ in
      let epochs_are : (judge limits s o).store.epochs ≡ s.epochs = ap (λ x. x.store.epochs) j ∙ put-epochs s our_session _ in
      let left : remove_entry (is_at (nat_cmp e.0)) es ≡ front ++ back = ap (λ z. remove_entry (is_at (nat_cmp e.0)) z) split ∙ remove_in 0 front e.0 e.1 back next ascends in (
        record {
          hands = same_hands o (front ++ back)
              (ap (λ x. session_at x.store our_session) j ∙ (ap (λ x. session_at (put_session s our_session (option_map (forgetting e.0) x)) our_session) hands.opened ∙ (put-opened s our_session session (forgetting e.0 session) hands.opened ∙ ap (λ z. Some (record { next = next; handles = z })) left)))
              (ascend_without 0 front e back next ascends)
              (all_append (λ (x : ℕ × Held). since ≤ x.1.epoch + 1) front back (all_left (λ (x : ℕ × Held). since ≤ x.1.epoch + 1) front (e ∷ back) given_all) (all_right (λ (x : ℕ × Held). since ≤ x.1.epoch + 1) front (e ∷ back) given_all).1)
              (subst (λ z. since ≤ slice_index z 0) (sym epochs_are) hands.now);
          less = blocks_less s (judge limits s o).store same;
        },
        ap (λ x. x.reply) j,
      )

  -- ---- a deletion

  pub delete_so : KeepsHands s (judge limits s op.Delete).store since next es
  delete_so = go (first (refusals limits s op.Delete)) refl
    where
      go : (found : Option Reply) → first (refusals limits s op.Delete) ≡ found → KeepsHands s (judge limits s op.Delete).store since next es
      go (Some r) e = (refused_keeps op.Delete r e).0
      go None e =
          let j : judge limits s op.Delete ≡ deleted s = judge_deleted limits s e in
          let same : (judge limits s op.Delete).store.blocks ≡ s.blocks = ap (λ x. x.store.blocks) j in
          let epochs_are : (judge limits s op.Delete).store.epochs ≡ slice_set s.epochs 0 (slice_index s.epochs 0 + 1) = ap (λ x. x.store.epochs) j in
          record {
            hands = same_hands op.Delete es (ap (λ x. session_at x.store our_session) j ∙ hands.opened) hands.ascend hands.given (later s.epochs hands.now epochs_are);
            less = blocks_less s (judge limits s op.Delete).store same;
          }
        where
          later : (xs : List ℕ) → since ≤ slice_index xs 0 → (judge limits s op.Delete).store.epochs ≡ slice_set xs 0 (slice_index xs 0 + 1) → since ≤ slice_index (judge limits s op.Delete).store.epochs 0
          later [] h e = subst (λ z. since ≤ slice_index z 0) (sym e) h
          later (x ∷ xs) h e = subst (λ z. since ≤ slice_index z 0) (sym e) (omega (arith, h))
