-- What is judged of a client's operations does to its seat.
use Rattle.std.proofs.Common.{◌≡◌, ◌⊎◌, inl, inr, ℕ, ◌+◌, ◌≤◌, List, [], ◌∷◌, ◌++◌, Option, Some, None, Bool, true, false, refl, sym, ap, ◌∙◌, subst, arith, tests, length, map, is_none, is_some, nat_lt, slice_index, mod-lt}
use Rattle.std.proofs.lemmas.List.{length-map}
use Rattle.std.specs.BTreeMap.{insert_entry, is_at}
use Rattle.std.specs.List.{AllByRecursion}
use Rattle.std.specs.Map.{lookup}
use Rattle.std.specs.Option.{option_map}
use Rattle.hs_laws.proofs.DistinctLemmas.{step-distinct}
use Rattle.hs_laws.proofs.InsertLemmas.{lookup-insert_other, lookup-insert_same}
use Rattle.hs_laws.proofs.JudgeKeeps.{judge_valid}
use Rattle.hs_laws.proofs.ValidLemmas.{is_from_valid, valid_from_is}
use Rattle.hs_laws.proofs.WriteAnswers.{dup_stays, dup_there, new_there}
use Rattle.hs_laws.specs.Written.{IsBlockAt}
use Rattle.hs_limits.specs.Block.{Block, IsBlock}
use Rattle.hs_limits.specs.declared.address.Address.{Address}
use Rattle.hs_limits.specs.declared.address.Held.{Held}
use Rattle.hs_limits.specs.declared.limits.Limits.{Limits}
use Rattle.hs_limits.specs.declared.spelling.TheConstants.{MOST_BYTES, MOST_POINTERS}
use Rattle.hs_model.proofs.JudgeLemmas.{judge_refused, judge_wrote}
use Rattle.hs_model.proofs.Members.{Member, same_from}
use Rattle.hs_model.proofs.RefusalLemmas.{write_of_block, write_of_open}
use Rattle.hs_model.specs.Judge.{address_of, judge, refusals, refused as refused_by, wrote, written, written_reply}
use Rattle.hs_model.specs.Reach.{is_same}
use Rattle.hs_model.specs.Refusals.{collision, first, handles_full, handles_full_in, no_handle, no_handle_in, no_session, no_such_handle, refused_when, shard_full, stale, stale_handle, stale_in, too_long, too_many}
use Rattle.hs_model.specs.Run.{asks}
use Rattle.hs_model.specs.Store.{Session, Store, address_cmp, block_at, block_of, blocks_with, epoch_at, held_at, held_in, hold_all, holding_all, next_of, put_session, session_at, shard_at, text_cmp, with_block}
use Rattle.hs_model.specs.declared.op.Op.{Op}
use Rattle.hs_model.specs.declared.op.Op.TheVariants as op
use Rattle.hs_model.specs.declared.reply.Reply.{Reply}
use Rattle.hs_model.specs.declared.reply.Reply.TheVariants as reply
use Rattle.hs_model.specs.declared.store.StoredBlock.{StoredBlock}
use Rattle.hs_asking.proofs.HandLemmas.{all_append, ascend_last, find_member, holding-numbered, lookup_set}
use Rattle.hs_asking.proofs.StayLemmas.{Drifted, SameWhereBoth}
use Rattle.hs_asking.specs.Seats.{HasSeat, IsSane}
use Rattle.hs_asking.specs.Staying.{IsKept, by_handle}

-- ---- sessions that are put back

pub put-blocks : (s : Store) (name : List ℕ) (session : Option Session) → (put_session s name session).blocks ≡ s.blocks
put-blocks s name None = refl
put-blocks s name (Some session) = refl

pub put-epochs : (s : Store) (name : List ℕ) (session : Option Session) → (put_session s name session).epochs ≡ s.epochs
put-epochs s name None = refl
put-epochs s name (Some session) = refl

pub put-roots : (s : Store) (name : List ℕ) (session : Option Session) → (put_session s name session).roots ≡ s.roots
put-roots s name None = refl
put-roots s name (Some session) = refl

pub put-opened : (s : Store) (name : List ℕ) (session after : Session) → session_at s name ≡ Some session → session_at (put_session s name (Some after)) name ≡ Some after
put-opened s name session after h = lookup_set (is_at (text_cmp name)) s.sessions session after h

-- ---- what stays there

-- a handle of a seat keeps what it stands for
pub seat_held : (s : Store) (name : List ℕ) (next : ℕ) (es : List (ℕ × Held)) → HasSeat s name next es → (e : ℕ × Held) → Member e es → held_at s name e.0 ≡ Some e.1
seat_held s name next es seat e m = ap (λ x. held_in x e.0) seat.opened ∙ find_member 0 es e next seat.ascend m

pub member_all : {A : Type 0} (P : A → Type 0) (xs : List A) (x : A) → AllByRecursion P xs → Member x xs → P x
member_all P [] x h m = absurd m
member_all P (y ∷ ys) x h (inl e) = subst P (sym e) h.0
member_all P (y ∷ ys) x h (inr m) = member_all P ys x h.1 m

pub seat_kept : (s : Store) (name : List ℕ) (next : ℕ) (es : List (ℕ × Held)) → HasSeat s name next es → (e : ℕ × Held) → Member e es → IsKept s e.1.address
seat_kept s name next es seat e m = by_handle name e.0 e.1.epoch (seat_held s name next es seat e m) (member_all (λ (x : ℕ × Held). slice_index s.epochs 0 ≤ x.1.epoch + 1) es e seat.fresh m)

pub seat_drift : (s t : Store) (name : List ℕ) (next : ℕ) (es : List (ℕ × Held)) → Drifted s t → HasSeat s name next es → HasSeat t name next es
seat_drift s t name next es d seat = record {
  sane = d.sane;
  opened = d.sessions name ∙ seat.opened;
  ascend = seat.ascend;
  fresh = subst (λ z. AllByRecursion (λ (e : ℕ × Held). z ≤ e.1.epoch + 1) es) (sym d.first) seat.fresh;
}

-- ---- blocks

-- a store whose blocks are those of another, or some more
pub record HasMore (s u : Store) : Type 0 where
  pub was : (a : Address) (y : StoredBlock) → block_at u a ≡ Some y → (block_at s a ≡ Some y) ⊎ IsBlock (block_of y)
  pub same : SameWhereBoth s u

pub more_same : (s u : Store) → u.blocks ≡ s.blocks → HasMore s u
more_same s u e =
    let at : (a : Address) → block_at u a ≡ block_at s a = λ a. ap (λ x. lookup (is_at (address_cmp a)) x) e in
    record { was = λ a y p. inl (sym (at a) ∙ p); same = λ a x y p q. let r = at a in cc (p, q, r) }

-- what is there once a block was put was there before, or is that block
pub was_or_put : (s u : Store) (a : Address) (block : Block) (epoch : ℕ) → u.blocks ≡ blocks_with (block_at s a) s.blocks a block epoch → (b : Address) (y : StoredBlock) → block_at u b ≡ Some y → (block_at s b ≡ Some y) ⊎ (b ≡ a) × (block_of y ≡ block)
was_or_put s u a block epoch e b y p = go (block_at s a) e
  where
    stored : StoredBlock
    stored = record { pointers = block.pointers; bytes = block.bytes; born = epoch }

    put : u.blocks ≡ insert_entry address_cmp s.blocks a stored → (c : Bool) → is_same b a ≡ c → (block_at s b ≡ Some y) ⊎ (b ≡ a) × (block_of y ≡ block)
    put f true t =
        let there : block_at u a ≡ Some stored = ap (λ x. lookup (is_at (address_cmp a)) x) f ∙ lookup-insert_same s.blocks a stored in
        let here : block_at u a ≡ Some y = subst (λ z. block_at u z ≡ Some y) (same_from b a t) p in
        let is_it : stored ≡ y = cc (there, here) in
        inr (same_from b a t, sym (ap (λ z. block_of z) is_it))
    put f false t = inl (sym (ap (λ x. lookup (is_at (address_cmp b)) x) f ∙ lookup-insert_other s.blocks a stored b t) ∙ p)

    go : (found : Option StoredBlock) → u.blocks ≡ blocks_with found s.blocks a block epoch → (block_at s b ≡ Some y) ⊎ (b ≡ a) × (block_of y ≡ block)
    go (Some x) f = inl (sym (ap (λ x. lookup (is_at (address_cmp b)) x) f) ∙ p)
    go None f = put f (is_same b a) refl

pub more_with : (s u : Store) (a : Address) (block : Block) (epoch : ℕ) → IsBlock block → u.blocks ≡ blocks_with (block_at s a) s.blocks a block epoch → HasMore s u
more_with s u a block epoch is e = go (block_at s a) refl e
  where
    stored : StoredBlock
    stored = record { pointers = block.pointers; bytes = block.bytes; born = epoch }

    at : u.blocks ≡ insert_entry address_cmp s.blocks a stored → (b : Address) → block_at u b ≡ lookup (is_at (address_cmp b)) (insert_entry address_cmp s.blocks a stored)
    at f b = ap (λ x. lookup (is_at (address_cmp b)) x) f

    was : (b : Address) (y : StoredBlock) → block_at u b ≡ Some y → (block_at s b ≡ Some y) ⊎ IsBlock (block_of y)
    was b y p = elim (was_or_put s u a block epoch e b y p) [ inl q ↦ inl q | inr q ↦ inr (subst (λ z. IsBlock z) (sym q.1) is) ]

    same : u.blocks ≡ insert_entry address_cmp s.blocks a stored → block_at s a ≡ None → (b : Address) (x y : StoredBlock) → (c : Bool) → is_same b a ≡ c → block_at s b ≡ Some x → block_at u b ≡ Some y → x ≡ y
    same f n b x y true t p q = let here : block_at s a ≡ Some x = subst (λ z. block_at s z ≡ Some x) (same_from b a t) p in cc (n, here)
    same f n b x y false t p q = let r : block_at u b ≡ block_at s b = at f b ∙ lookup-insert_other s.blocks a stored b t in cc (p, q, r)

    go : (found : Option StoredBlock) → block_at s a ≡ found → u.blocks ≡ blocks_with found s.blocks a block epoch → HasMore s u
    go (Some x) h f = more_same s u f
    go None h f = record { was = was; same = λ b x y p q. same f h b x y (is_same b a) refl p q }

pub judge_sane : (limits : Limits) (s : Store) (o : Op) → IsSane s → HasMore s (judge limits s o).store → IsSane (judge limits s o).store
judge_sane limits s o sane more =
    let u : Store = (judge limits s o).store in
    record {
      valid = is_from_valid u (judge_valid limits s (valid_from_is s sane.valid) o);
      distinct = step-distinct limits s (asks o) sane.distinct;
      blocks = λ a y p. elim (more.was a y p) [ inl q ↦ sane.blocks a y q | inr q ↦ q ];
    }

-- ---- refusals that don't hold

pub skip : (r : Option Reply) (rs : List (Option Reply)) → r ≡ None → first (r ∷ rs) ≡ first rs
skip None rs e = refl
skip (Some x) rs e = cc e

pub lt-false : (a b : ℕ) → b ≤ a → nat_lt a b ≡ false
lt-false a b h = grind (arith, tests, h)

pub when_not : (b : Bool) (r : Reply) → b ≡ false → refused_when b r ≡ None
when_not true r e = cc e
when_not false r e = refl

-- a handle is held, and may be used as long as shard 0 stays in its epoch
abbrev pub IsUsable : Store → Session → ℕ → Type 0
IsUsable s session handle = (held : Held) × (held_in (Some session) handle ≡ Some held) × (slice_index s.epochs 0 ≤ held.epoch + 1)

pub no_handle_none : (s : Store) (session : Session) (handles : List ℕ) → AllByRecursion (IsUsable s session) handles → no_handle_in (Some session) handles ≡ None
unfolding no_handle_in
no_handle_none s session [] h = refl
no_handle_none s session (handle ∷ rest) h =
    let here : no_such_handle (Some session) handle ≡ None = ap (λ x. refused_when (is_none x) (reply.NoHandle handle)) h.0.1 in
    skip (no_such_handle (Some session) handle) (map (λ handle. no_such_handle (Some session) handle) rest) here ∙ no_handle_none s session rest h.1

pub stale_none : (s : Store) (session : Session) (now : ℕ) → now ≤ slice_index s.epochs 0 → (handles : List ℕ) → AllByRecursion (IsUsable s session) handles → stale_in (Some session) now handles ≡ None
unfolding stale_in
stale_none s session now l [] h = refl
stale_none s session now l (handle ∷ rest) h =
    let held : Held = h.0.0 in
    let usable : slice_index s.epochs 0 ≤ held.epoch + 1 = h.0.2 in
    let here : stale_handle now handle (held_in (Some session) handle) ≡ None = ap (λ x. stale_handle now handle x) h.0.1 ∙ when_not (nat_lt (held.epoch + 1) now) (reply.Stale handle held.epoch now) (lt-false (held.epoch + 1) now (omega (arith, l, usable))) in
    skip (stale_handle now handle (held_in (Some session) handle)) (map (λ handle. stale_handle now handle (held_in (Some session) handle)) rest) here ∙ stale_none s session now l rest h.1

pub full_none : (limits : Limits) (session : Session) (more : ℕ) → length session.handles + more ≤ limits.handles → handles_full_in limits (Some session) more ≡ None
full_none limits session more h = when_not (nat_lt limits.handles (length session.handles + more)) (reply.HandlesFull limits.handles) (lt-false limits.handles (length session.handles + more) h)

pub one_of_two : (b c : Bool) (p q r : Reply) → first (refused_when b p ∷ refused_when c q ∷ []) ≡ Some r → (r ≡ p) ⊎ (r ≡ q)
one_of_two true c p q r e = inl (cc e)
one_of_two false true p q r e = inr (cc e)
one_of_two false false p q r e = cc e

-- the epoch of each shard is that of shard 0 or the one before
pub epoch_within : (s : Store) → IsSane s → (a : Address) → epoch_at s a ≤ slice_index s.epochs 0
epoch_within s sane a = sane.valid.epochs.not_ahead (shard_at s a) (mod-lt (slice_index a.0 31) sane.valid.epochs.some_shard)

pub epoch_behind : (s : Store) → IsSane s → (a : Address) → slice_index s.epochs 0 ≤ epoch_at s a + 1
epoch_behind s sane a = sane.valid.epochs.not_behind (shard_at s a) (mod-lt (slice_index a.0 31) sane.valid.epochs.some_shard)

-- ---- a write

-- it is done, or refused for its block
pub data WriteComes (limits : Limits) (s u : Store) (name : List ℕ) (next : ℕ) (es : List (ℕ × Held)) (a : Address) (block : Block) (told : Reply) : Type 0 where
  done : (epoch : ℕ) → (told ≡ reply.New next epoch) ⊎ (told ≡ reply.Dup next epoch) → HasSeat u name (next + 1) (es ++ (next, record { address = a; epoch = epoch }) ∷ []) → IsBlockAt u a block → SameWhereBoth s u → u.roots ≡ s.roots → u.epochs ≡ s.epochs → WriteComes limits s u name next es a block told
  refused : (told ≡ reply.Collision) ⊎ (told ≡ reply.ShardFull limits.blocks) → u ≡ s → WriteComes limits s u name next es a block told

module _ (limits : Limits) (s : Store) (name : List ℕ) (next : ℕ) (es : List (ℕ × Held)) (seat : HasSeat s name next es) where
  abbrev session : Session
  session = record { next = next; handles = es }

  -- a store with the same sessions where the session holds one more
  pub hold_one : (t : Store) (held : Held) → t.sessions ≡ s.sessions → session_at (hold_all t name (held ∷ [])) name ≡ Some (record { next = next + 1; handles = es ++ (next, held) ∷ [] })
  hold_one t held same =
      let here : session_at t name ≡ Some session = ap (λ x. lookup (is_at (text_cmp name)) x) same ∙ seat.opened in
      let more : holding_all (held ∷ []) session ≡ record { next = next + 1; handles = es ++ (next, held) ∷ [] } = holding-numbered 0 es next (held ∷ []) seat.ascend in
      ap (λ x. session_at (put_session t name (option_map (holding_all (held ∷ [])) x)) name) here ∙ (put-opened t name session (holding_all (held ∷ []) session) here ∙ ap (λ x. Some x) more)

  pub fresh_more : (u : Store) (held : Held) → u.epochs ≡ s.epochs → slice_index s.epochs 0 ≤ held.epoch + 1 → AllByRecursion (λ (e : ℕ × Held). slice_index u.epochs 0 ≤ e.1.epoch + 1) (es ++ (next, held) ∷ [])
  fresh_more u held same f = subst (λ z. AllByRecursion (λ (e : ℕ × Held). slice_index z 0 ≤ e.1.epoch + 1) (es ++ (next, held) ∷ [])) (sym same) (all_append (λ (e : ℕ × Held). slice_index s.epochs 0 ≤ e.1.epoch + 1) es ((next, held) ∷ []) seat.fresh (f, tt))

  module _ (payload handles : List ℕ) (a : Address) (short : length payload ≤ MOST_BYTES) (few : length handles ≤ MOST_POINTERS) (room : length es + 1 ≤ limits.handles) (usable : AllByRecursion (IsUsable s session) handles) where
    abbrev line : Op
    line = op.Write name payload handles (Some a)

    abbrev block : Block
    block = written s name payload handles

    block_bounds : IsBlock block
    block_bounds = record { pointers = subst (λ z. z ≤ MOST_POINTERS) (sym (length-map handles (λ handle. address_of s name handle))) few; bytes = short }

    free : first (no_session s name ∷ too_long payload ∷ too_many handles ∷ no_handle s name handles ∷ handles_full limits s name 1 ∷ stale s name (epoch_at s a) handles ∷ []) ≡ None
    free = write_of_open limits s name payload handles (epoch_at s a) session seat.opened
        ∙ (skip (too_long payload) _ (when_not _ _ (lt-false MOST_BYTES (length payload) short))
        ∙ (skip (too_many handles) _ (when_not _ _ (lt-false MOST_POINTERS (length handles) few))
        ∙ (skip (no_handle_in (Some session) handles) _ (no_handle_none s session handles usable)
        ∙ (skip (handles_full_in limits (Some session) 1) _ (full_none limits session 1 room)
        ∙ skip (stale_in (Some session) (epoch_at s a) handles) _ (stale_none s session (epoch_at s a) (epoch_within s seat.sane a) handles usable)))))

    of_it : first (refusals limits s line) ≡ first (collision s a block ∷ shard_full limits s a ∷ [])
    of_it = write_of_block limits s name payload handles (Some a) a block refl refl free

    write_refused : (r : Reply) → first (refusals limits s line) ≡ Some r → WriteComes limits s (judge limits s line).store name next es a block (judge limits s line).reply
    write_refused r e =
        let j : judge limits s line ≡ refused_by line s r = judge_refused limits s line r e in
        let which : (r ≡ reply.Collision) ⊎ (r ≡ reply.ShardFull limits.blocks) = one_of_two _ _ reply.Collision (reply.ShardFull limits.blocks) r (sym of_it ∙ e) in
        let told : (judge limits s line).reply ≡ r = ap (λ x. x.reply) j in
        refused (elim which [ inl q ↦ inl (told ∙ q) | inr q ↦ inr (told ∙ q) ]) (ap (λ x. x.store) j)

    write_done : first (refusals limits s line) ≡ None → WriteComes limits s (judge limits s line).store name next es a block (judge limits s line).reply
    write_done e =
        let j : judge limits s line ≡ wrote s name a block = judge_wrote limits s name payload handles (Some a) a block.pointers e refl refl in
        let held : Held = record { address = a; epoch = epoch_at s a } in
        let blocks_are : (judge limits s line).store.blocks ≡ blocks_with (block_at s a) s.blocks a block (epoch_at s a) = ap (λ x. x.store.blocks) j ∙ put-blocks (with_block s a block) name _ in
        let epochs_are : (judge limits s line).store.epochs ≡ s.epochs = ap (λ x. x.store.epochs) j ∙ put-epochs (with_block s a block) name _ in
        let roots_are : (judge limits s line).store.roots ≡ s.roots = ap (λ x. x.store.roots) j ∙ put-roots (with_block s a block) name _ in
        let more : HasMore s (judge limits s line).store = more_with s (judge limits s line).store a block (epoch_at s a) block_bounds blocks_are in
        let after : HasSeat (judge limits s line).store name (next + 1) (es ++ (next, held) ∷ []) = record {
          sane = judge_sane limits s line seat.sane more;
          opened = ap (λ x. session_at x.store name) j ∙ hold_one (with_block s a block) held refl;
          ascend = ascend_last 0 es next held seat.ascend;
          fresh = fresh_more (judge limits s line).store held epochs_are (epoch_behind s seat.sane a);
        } in
        let told : (judge limits s line).reply ≡ written_reply (is_some (block_at s a)) next (epoch_at s a) = ap (λ x. x.reply) j ∙ ap (λ x. written_reply (is_some (block_at s a)) (next_of x) (epoch_at s a)) seat.opened in
        go (is_some (block_at s a)) told after more roots_are epochs_are
      where
        go : (present : Bool) → (judge limits s line).reply ≡ written_reply present next (epoch_at s a)
            → HasSeat (judge limits s line).store name (next + 1) (es ++ (next, record { address = a; epoch = epoch_at s a }) ∷ []) → HasMore s (judge limits s line).store
            → (judge limits s line).store.roots ≡ s.roots → (judge limits s line).store.epochs ≡ s.epochs
            → WriteComes limits s (judge limits s line).store name next es a block (judge limits s line).reply
        go true t after more r p =
            let there : IsBlockAt s a block = dup_there limits s name payload handles (Some a) next (epoch_at s a) t in
            let same : (judge limits s line).store.blocks ≡ s.blocks = dup_stays limits s name payload handles (Some a) next (epoch_at s a) t in
            done (epoch_at s a) (inr t) after (record { stored = there.stored; present = ap (λ x. lookup (is_at (address_cmp a)) x) same ∙ there.present; bytes = there.bytes; pointers = there.pointers }) more.same r p
        go false t after more r p = done (epoch_at s a) (inl t) after (new_there limits s name payload handles (Some a) next (epoch_at s a) t) more.same r p

    pub write_comes : WriteComes limits s (judge limits s line).store name next es a block (judge limits s line).reply
    write_comes = go (first (refusals limits s line)) refl
      where
        go : (found : Option Reply) → first (refusals limits s line) ≡ found → WriteComes limits s (judge limits s line).store name next es a block (judge limits s line).reply
        go (Some r) e = write_refused r e
        go None e = write_done e
