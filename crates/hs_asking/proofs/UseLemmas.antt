-- What reading, looking up, putting a root, forgetting and opening do to a client's seat.
use Rattle.std.proofs.Common.{◌≡◌, ◌⊎◌, inl, inr, ℕ, ◌+◌, ◌-◌, ◌<◌, ◌≤◌, List, [], ◌∷◌, ◌++◌, Option, Some, None, Bool, true, false, refl, sym, ap, ◌∙◌, subst, arith, tests, length, map, is_none, is_some, nat_le, not, slice_index, mod-lt, unwrap_or, bytes_eq, IsSome, Less, Equal, Greater, if◌then◌else◌}
use Rattle.std.proofs.lemmas.List.{length-map}
use Rattle.std.proofs.lemmas.Slice.Eq.{bytes_eq-Decides}
use Rattle.std.proofs.lemmas.Map.Text.{is_eq-slice_cmp}
use Rattle.std.specs.BTreeMap.{is_at}
use Rattle.std.specs.List.{AllByRecursion, range_with_len}
use Rattle.std.specs.Map.{lookup, remove_entry}
use Rattle.std.specs.Option.{option_map}
use Rattle.std.specs.Ordering.{is_eq, is_gt, nat_cmp}
use Rattle.std.specs.Prelude.{find}
use Rattle.std.specs.declared.cmp.Ordering.{Ordering}
use Rattle.hs_laws.proofs.JudgeKeeps.{AllNone, all_none}
use Rattle.hs_laws.proofs.ValidLemmas.{valid_from_is}
use Rattle.hs_limits.specs.Shape.{shard_of_key}
use Rattle.hs_limits.specs.declared.address.Address.{Address}
use Rattle.hs_limits.specs.declared.address.Held.{Held}
use Rattle.hs_limits.specs.declared.limits.Limits.{Limits}
use Rattle.hs_limits.specs.declared.spelling.TheConstants.{MOST_POINTERS}
use Rattle.hs_model.proofs.JudgeLemmas.{judge_forgot, judge_looked, judge_opened, judge_read, judge_rooted, look_refused, root_refusals, root_refused}
use Rattle.hs_model.proofs.Members.{Member, member-append_right}
use Rattle.hs_model.proofs.RefusalLemmas.{held_of_open, look_key, read_of_open, root_used}
use Rattle.hs_model.specs.Judge.{address_of, bytes_of, forgetting, forgot, held_or, judge, kept_address, looked, nothing, opened, pointers_at, read, refusals, refused as refused_by, rooted, roots_with}
use Rattle.hs_model.specs.Reach.{pointers_of}
use Rattle.hs_model.specs.Refusals.{first, handles_full, handles_full_in, keeps_other, key_taken, no_handle, no_handle_in, no_key, no_session, refused_when, roots_full, session_taken, sessions_full, stale_in}
use Rattle.hs_model.specs.Store.{Root, Session, Store, block_at, epoch_at, held_at, helds_of, hold_all, holding_all, is_retained, new_session, next_of, place_root, put_session, retained_at, root_cmp, root_epoch, session_at, text_cmp}
use Rattle.hs_model.specs.declared.op.Op.{Op}
use Rattle.hs_model.specs.declared.op.Op.TheVariants as op
use Rattle.hs_model.specs.declared.reply.Reply.{Reply}
use Rattle.hs_model.specs.declared.reply.Reply.TheVariants as reply
use Rattle.hs_model.specs.declared.store.StoredBlock.{StoredBlock}
use Rattle.hs_asking.proofs.HandLemmas.{all_append, all_left, all_right, ascend_last, ascend_numbered, ascend_without, find_member, holding-numbered, lookup_inserted, remove_in}
use Rattle.hs_asking.proofs.SeatLemmas.{epoch_within, fresh_more, full_none, hold_one, IsUsable, judge_sane, member_all, more_same, no_handle_none, one_of_two, put-blocks, put-epochs, put-opened, put-roots, seat_held, seat_kept, skip, stale_none, when_not}
use Rattle.hs_asking.proofs.StayLemmas.{kept_whole, whole-here}
use Rattle.hs_asking.specs.Seats.{Ascend, HasSeat, IsSane, numbered}

-- what an operation that touches no block, root or epoch leaves
pub record LeavesRest (s u : Store) : Type 0 where
  pub blocks : u.blocks ≡ s.blocks
  pub roots : u.roots ≡ s.roots
  pub epochs : u.epochs ≡ s.epochs

module _ (limits : Limits) (s : Store) (name : List ℕ) (next : ℕ) (es : List (ℕ × Held)) (seat : HasSeat s name next es) where
  abbrev session : Session
  session = record { next = next; handles = es }

  sane_after : (o : Op) → (judge limits s o).store.blocks ≡ s.blocks → IsSane (judge limits s o).store
  sane_after o same = judge_sane limits s o seat.sane (more_same s (judge limits s o).store same)

  full_free : (more : ℕ) → length es + more ≤ limits.handles → handles_full limits s name more ≡ None
  full_free more h = ap (λ x. handles_full_in limits x more) seat.opened ∙ full_none limits session more h

  module _ (handle : ℕ) (held : Held) (m : Member (handle, held) es) where
    found : held_at s name handle ≡ Some held
    found = seat_held s name next es seat (handle, held) m

    is_usable : AllByRecursion (IsUsable s session) (handle ∷ [])
    is_usable = ((held, find_member 0 es (handle, held) next seat.ascend m, member_all (λ (x : ℕ × Held). slice_index s.epochs 0 ≤ x.1.epoch + 1) es (handle, held) seat.fresh m), tt)

    held-is : held_or s name handle ≡ held
    held-is = ap (λ x. unwrap_or x nothing) found

    pub address-is : address_of s name handle ≡ held.address
    address-is = ap (λ (x : Held). x.address) held-is

    -- ---- a read

    stored_there : (stored : StoredBlock) × (block_at s held.address ≡ Some stored)
    stored_there = go (block_at s held.address) refl (whole-here s held.address (kept_whole s (valid_from_is s seat.sane.valid) held.address (seat_kept s name next es seat (handle, held) m)))
      where
        go : (o : Option StoredBlock) → block_at s held.address ≡ o → IsSome o → (stored : StoredBlock) × (block_at s held.address ≡ Some stored)
        go None e t = cc t
        go (Some x) e t = (x, e)

    -- the block of the handle is told, and its pointers are held
    pub record ReadComes (u : Store) (told : Reply) : Type 0 where
      pub stored : StoredBlock
      pub present : block_at s held.address ≡ Some stored
      pub few : length stored.pointers ≤ MOST_POINTERS
      pub told_is : told ≡ reply.Bytes stored.bytes (range_with_len next (length stored.pointers))
      pub after : HasSeat u name (next + length stored.pointers) (es ++ numbered next (helds_of stored.pointers held.epoch))
      pub rest : LeavesRest s u

    pub read_comes : length es + MOST_POINTERS ≤ limits.handles → ReadComes (judge limits s (op.Read name handle)).store (judge limits s (op.Read name handle)).reply
    unfolding helds_of
    read_comes room =
        let stored : StoredBlock = stored_there.0 in
        let p : block_at s held.address ≡ Some stored = stored_there.1 in
        let few : length stored.pointers ≤ MOST_POINTERS = (seat.sane.blocks held.address stored p).pointers in
        let pointers : pointers_at s held.address ≡ stored.pointers = ap (λ x. pointers_of x) p in
        let o : Op = op.Read name handle in
        let here : epoch_at s (address_of s name handle) ≡ epoch_at s held.address = ap (λ a. epoch_at s a) address-is in
        let more : length stored.pointers ≡ length (pointers_at s (address_of s name handle)) = ap (λ x. length x) (sym pointers) ∙ ap (λ a. length (pointers_at s a)) (sym address-is) in
        let free : first (refusals limits s o) ≡ None =
        read_of_open limits s name handle session (epoch_at s held.address) (length stored.pointers) seat.opened (sym here) more
        ∙ (skip (no_handle_in (Some session) (handle ∷ [])) _ (no_handle_none s session (handle ∷ []) is_usable)
        ∙ (skip (stale_in (Some session) (epoch_at s held.address) (handle ∷ [])) _ (stale_none s session (epoch_at s held.address) (epoch_within s seat.sane held.address) (handle ∷ []) is_usable)
        ∙ skip (handles_full_in limits (Some session) (length stored.pointers)) [] (full_none limits session (length stored.pointers) (omega (arith, room, few))))) in
        let j : judge limits s o ≡ read s name held = judge_read limits s name handle free ∙ ap (λ x. read s name x) held-is in
        let helds : List Held = helds_of stored.pointers held.epoch in
        let same : (judge limits s o).store.blocks ≡ s.blocks = ap (λ x. x.store.blocks) j ∙ put-blocks s name _ in
        let epochs_are : (judge limits s o).store.epochs ≡ s.epochs = ap (λ x. x.store.epochs) j ∙ put-epochs s name _ in
        let held_all : hold_all s name (helds_of (pointers_at s held.address) held.epoch) ≡ hold_all s name helds = ap (λ x. hold_all s name (helds_of x held.epoch)) pointers in
        let opened_is : session_at (hold_all s name helds) name ≡ Some (record { next = next + length helds; handles = es ++ numbered next helds }) =
        ap (λ x. session_at (put_session s name (option_map (holding_all helds) x)) name) seat.opened ∙ (put-opened s name session (holding_all helds session) seat.opened ∙ ap (λ x. Some x) (holding-numbered 0 es next helds seat.ascend)) in
        let counted : length helds ≡ length stored.pointers = length-map stored.pointers (λ address. record { address = address; epoch = held.epoch }) in
        let usable : slice_index s.epochs 0 ≤ held.epoch + 1 = member_all (λ (x : ℕ × Held). slice_index s.epochs 0 ≤ x.1.epoch + 1) es (handle, held) seat.fresh m in
        record {
          stored = stored;
          present = p;
          few = few;
          told_is = ap (λ x. x.reply) j ∙ (ap (λ x. reply.Bytes (bytes_of x) (range_with_len (next_of (session_at s name)) (length (pointers_of x)))) p ∙ ap (λ x. reply.Bytes stored.bytes (range_with_len (next_of x) (length stored.pointers))) seat.opened);
          after = record {
            sane = sane_after o same;
            opened = ap (λ x. session_at x.store name) j ∙ (ap (λ x. session_at x name) held_all ∙ (opened_is ∙ ap (λ n. Some (record { next = next + n; handles = es ++ numbered next helds })) counted));
            ascend = subst (λ n. Ascend 0 (es ++ numbered next helds) (next + n)) counted (ascend_numbered 0 es next helds seat.ascend);
            fresh = subst (λ z. AllByRecursion (λ (e : ℕ × Held). slice_index z 0 ≤ e.1.epoch + 1) (es ++ numbered next helds)) (sym epochs_are) (all_append (λ (e : ℕ × Held). slice_index s.epochs 0 ≤ e.1.epoch + 1) es (numbered next helds) seat.fresh (each_fresh stored.pointers held.epoch next usable));
          };
          rest = record { blocks = same; roots = ap (λ x. x.store.roots) j ∙ put-roots s name _; epochs = epochs_are };
        }
      where
        each_fresh : (pointers : List Address) (epoch n : ℕ) → slice_index s.epochs 0 ≤ epoch + 1 → AllByRecursion (λ (e : ℕ × Held). slice_index s.epochs 0 ≤ e.1.epoch + 1) (numbered n (map (λ address. record { address = address; epoch = epoch }) pointers))
        each_fresh [] epoch n h = tt
        each_fresh (a ∷ rest) epoch n h = (h, each_fresh rest epoch (n + 1) h)

    -- ---- a root

    -- the key keeps what the handle stands for, or it is refused for its key
    pub data RootComes (key : List ℕ) (u : Store) (told : Reply) : Type 0 where
      done : told ≡ reply.Ok → (root : Root) → retained_at u key ≡ Some root → root.address ≡ held.address → HasSeat u name next es → u.blocks ≡ s.blocks → u.epochs ≡ s.epochs → RootComes key u told
      refused : (told ≡ reply.KeyTaken key) ⊎ (told ≡ reply.RootsFull limits.roots) → u ≡ s → RootComes key u told

    find_placed : (key : List ℕ) (root : Root) → is_retained key root ≡ true → (roots : List Root) → find (is_retained key) roots ≡ None → find (is_retained key) (place_root root roots) ≡ Some root
    find_placed key root t [] h = rw t refl
    find_placed key root t (r ∷ roots) h = go (find_placed key root t roots) (is_retained key r) refl (is_gt (root_cmp root r)) h
      where
        go : (find (is_retained key) roots ≡ None → find (is_retained key) (place_root root roots) ≡ Some root) → (b : Bool) → is_retained key r ≡ b → (c : Bool) → find (is_retained key) (r ∷ roots) ≡ None → find (is_retained key) (if c then r ∷ place_root root roots else root ∷ r ∷ roots) ≡ Some root
        go ih true e c n = let k = rw e at n in cc k
        go ih false e true n = rw e (ih (rw e at n))
        go ih false e false n = rw t refl

    kept_same : (key : List ℕ) (root : Root) → keeps_other (Some root) held.address ≡ false → root.address ≡ held.address
    kept_same key root e = λ i. record { 0 = (bytes_eq-Decides root.address.0 held.address.0).0 (not_false (bytes_eq root.address.0 held.address.0) e) i }
      where
        not_false : (b : Bool) → not b ≡ false → b ≡ true
        not_false true e = refl
        not_false false e = cc e

    when_none : (b : Bool) (r : Reply) → refused_when b r ≡ None → b ≡ false
    when_none true r e = cc e
    when_none false r e = refl

    root_within : (key : List ℕ) → root_epoch s key ≤ slice_index s.epochs 0
    root_within key = seat.sane.valid.epochs.not_ahead (shard_of_key (length s.epochs) key) (mod-lt (slice_index key (length key - 1)) seat.sane.valid.epochs.some_shard)

    pub root_comes : (key : List ℕ) → RootComes key (judge limits s (op.Root name key handle)).store (judge limits s (op.Root name key handle)).reply
    root_comes key = go (first (root_refusals limits s name key handle)) refl
      where
        o : Op
        o = op.Root name key handle

        fresh_root : Root
        fresh_root = record { key = key; address = held.address; dropped = None }

        used : first (root_refusals limits s name key handle) ≡ first (key_taken s key held.address ∷ roots_full limits s key ∷ [])
        used = root_used limits s name key handle (root_epoch s key) session held.address seat.opened refl (sym address-is)
            (skip (no_handle_in (Some session) (handle ∷ [])) _ (no_handle_none s session (handle ∷ []) is_usable)
            ∙ skip (stale_in (Some session) (root_epoch s key) (handle ∷ [])) [] (stale_none s session (root_epoch s key) (root_within key) (handle ∷ []) is_usable))

        keeps : (found : Option Root) → retained_at s key ≡ found → keeps_other found held.address ≡ false → judge limits s o ≡ rooted s key held.address → RootComes key (judge limits s o).store (judge limits s o).reply
        keeps found e k j =
            let roots_are : (judge limits s o).store.roots ≡ roots_with found s.roots fresh_root = ap (λ x. x.store.roots) j ∙ ap (λ x. roots_with x s.roots fresh_root) e in
            let same : (judge limits s o).store.blocks ≡ s.blocks = ap (λ x. x.store.blocks) j in
            let epochs_are : (judge limits s o).store.epochs ≡ s.epochs = ap (λ x. x.store.epochs) j in
            let after : HasSeat (judge limits s o).store name next es = record {
              sane = sane_after o same;
              opened = ap (λ x. session_at x.store name) j ∙ seat.opened;
              ascend = seat.ascend;
              fresh = subst (λ z. AllByRecursion (λ (e : ℕ × Held). slice_index z 0 ≤ e.1.epoch + 1) es) (sym epochs_are) seat.fresh;
            } in
            with_root found e k roots_are (ap (λ x. x.reply) j) after same epochs_are
          where
            with_root : (found : Option Root) → retained_at s key ≡ found → keeps_other found held.address ≡ false → (judge limits s o).store.roots ≡ roots_with found s.roots fresh_root
                → (judge limits s o).reply ≡ reply.Ok → HasSeat (judge limits s o).store name next es → (judge limits s o).store.blocks ≡ s.blocks → (judge limits s o).store.epochs ≡ s.epochs → RootComes key (judge limits s o).store (judge limits s o).reply
            with_root (Some root) e k r t after b p = done t root (ap (λ x. find (is_retained key) x) r ∙ e) (kept_same key root k) after b p
            with_root None e k r t after b p = done t fresh_root (ap (λ x. find (is_retained key) x) r ∙ find_placed key fresh_root ((bytes_eq-Decides key key).1 refl) s.roots e) refl after b p

        go : (found : Option Reply) → first (root_refusals limits s name key handle) ≡ found → RootComes key (judge limits s o).store (judge limits s o).reply
        go (Some r) e =
            let j : judge limits s o ≡ refused_by o s r = root_refused limits s name key handle r e in
            let told : (judge limits s o).reply ≡ r = ap (λ x. x.reply) j in
            let which : (r ≡ reply.KeyTaken key) ⊎ (r ≡ reply.RootsFull limits.roots) = one_of_two _ _ (reply.KeyTaken key) (reply.RootsFull limits.roots) r (sym used ∙ e) in
            refused (elim which [ inl q ↦ inl (told ∙ q) | inr q ↦ inr (told ∙ q) ]) (ap (λ x. x.store) j)
        go None e =
            let j : judge limits s o ≡ rooted s key held.address = judge_rooted limits s name key handle held.address e (sym address-is) in
            let none : AllNone (key_taken s key held.address ∷ roots_full limits s key ∷ []) = all_none (key_taken s key held.address ∷ roots_full limits s key ∷ []) (sym used ∙ e) in
            keeps (retained_at s key) refl (when_none (keeps_other (retained_at s key) held.address) (reply.KeyTaken key) none.0) j

  -- ---- a look

  -- the root's address is held, or there is no such root
  pub data LookComes (key : List ℕ) (u : Store) (told : Reply) : Type 0 where
    done : (root : Root) → retained_at s key ≡ Some root → (epoch : ℕ) → told ≡ reply.Held next epoch → HasSeat u name (next + 1) (es ++ (next, record { address = root.address; epoch = epoch }) ∷ []) → LeavesRest s u → LookComes key u told
    none : told ≡ reply.NoKey key → retained_at s key ≡ None → u ≡ s → LookComes key u told

  root_behind : (key : List ℕ) → slice_index s.epochs 0 ≤ root_epoch s key + 1
  root_behind key = seat.sane.valid.epochs.not_behind (shard_of_key (length s.epochs) key) (mod-lt (slice_index key (length key - 1)) seat.sane.valid.epochs.some_shard)

  pub look_comes : (key : List ℕ) → length es + 1 ≤ limits.handles → LookComes key (judge limits s (op.Look name key)).store (judge limits s (op.Look name key)).reply
  look_comes key room = go (retained_at s key) refl
    where
      o : Op
      o = op.Look name key

      free : first (no_session s name ∷ handles_full limits s name 1 ∷ no_key s key ∷ []) ≡ no_key s key
      free = look_key limits s name key session seat.opened (full_none limits session 1 room)

      go : (found : Option Root) → retained_at s key ≡ found → LookComes key (judge limits s o).store (judge limits s o).reply
      go None e =
          let refusal : first (no_session s name ∷ handles_full limits s name 1 ∷ no_key s key ∷ []) ≡ Some (reply.NoKey key) = free ∙ ap (λ x. refused_when (is_none x) (reply.NoKey key)) e in
          let j : judge limits s o ≡ refused_by o s (reply.NoKey key) = look_refused limits s name key (reply.NoKey key) refusal in
          none (ap (λ x. x.reply) j) e (ap (λ x. x.store) j)
      go (Some root) e =
          let granted_it : first (no_session s name ∷ handles_full limits s name 1 ∷ no_key s key ∷ []) ≡ None = free ∙ ap (λ x. refused_when (is_none x) (reply.NoKey key)) e in
          let j : judge limits s o ≡ looked s name key = judge_looked limits s name key granted_it in
          let held : Held = record { address = root.address; epoch = root_epoch s key } in
          let hold : hold_all s name (record { address = kept_address (retained_at s key); epoch = root_epoch s key } ∷ []) ≡ hold_all s name (held ∷ []) = ap (λ x. hold_all s name (record { address = kept_address x; epoch = root_epoch s key } ∷ [])) e in
          let same : (judge limits s o).store.blocks ≡ s.blocks = ap (λ x. x.store.blocks) j ∙ put-blocks s name _ in
          let epochs_are : (judge limits s o).store.epochs ≡ s.epochs = ap (λ x. x.store.epochs) j ∙ put-epochs s name _ in
          done root e (root_epoch s key)
          (ap (λ x. x.reply) j ∙ ap (λ x. reply.Held (next_of x) (root_epoch s key)) seat.opened)
          (record {
            sane = sane_after o same;
            opened = ap (λ x. session_at x.store name) j ∙ (ap (λ x. session_at x name) hold ∙ hold_one limits s name next es seat s held refl);
            ascend = ascend_last 0 es next held seat.ascend;
            fresh = fresh_more limits s name next es seat (judge limits s o).store held epochs_are (root_behind key);
          })
          (record { blocks = same; roots = ap (λ x. x.store.roots) j ∙ put-roots s name _; epochs = epochs_are })

  -- ---- a forget

  pub record ForgetComes (u : Store) (told : Reply) (left : List (ℕ × Held)) : Type 0 where
    pub told_is : told ≡ reply.Ok
    pub after : HasSeat u name next left
    pub rest : LeavesRest s u

  pub forget_comes : (front : List (ℕ × Held)) (e : ℕ × Held) (back : List (ℕ × Held)) → es ≡ front ++ e ∷ back → ForgetComes (judge limits s (op.Forget name e.0)).store (judge limits s (op.Forget name e.0)).reply (front ++ back)
  forget_comes front e back split =
      let o : Op = op.Forget name e.0 in
      let ascends : Ascend 0 (front ++ e ∷ back) next = subst (λ z. Ascend 0 z next) split seat.ascend in
      let fresh_all : AllByRecursion (λ (x : ℕ × Held). slice_index s.epochs 0 ≤ x.1.epoch + 1) (front ++ e ∷ back) = subst (AllByRecursion (λ (x : ℕ × Held). slice_index s.epochs 0 ≤ x.1.epoch + 1)) split seat.fresh in
      let m : Member e es = subst (λ z. Member e z) (sym split) (member-append_right e front (e ∷ back) (inl refl)) in
      let free : first (no_session s name ∷ no_handle s name (e.0 ∷ []) ∷ []) ≡ None = held_of_open s name (e.0 ∷ []) session seat.opened ∙ no_handle_none s session (e.0 ∷ []) (is_usable e.0 e.1 m) in
      let j : judge limits s o ≡ forgot s name e.0 = judge_forgot limits s name e.0 free in
      let same : (judge limits s o).store.blocks ≡ s.blocks = ap (λ x. x.store.blocks) j ∙ put-blocks s name _ in
      let epochs_are : (judge limits s o).store.epochs ≡ s.epochs = ap (λ x. x.store.epochs) j ∙ put-epochs s name _ in
      let left : remove_entry (is_at (nat_cmp e.0)) es ≡ front ++ back = ap (λ z. remove_entry (is_at (nat_cmp e.0)) z) split ∙ remove_in 0 front e.0 e.1 back next ascends in
      record {
        told_is = ap (λ x. x.reply) j;
        after = record {
          sane = sane_after o same;
          opened = ap (λ x. session_at x.store name) j ∙ (ap (λ x. session_at (put_session s name (option_map (forgetting e.0) x)) name) seat.opened ∙ (put-opened s name session (forgetting e.0 session) seat.opened ∙ ap (λ z. Some (record { next = next; handles = z })) left));
          ascend = ascend_without 0 front e back next ascends;
          fresh = subst (λ z. AllByRecursion (λ (x : ℕ × Held). slice_index z 0 ≤ x.1.epoch + 1) (front ++ back)) (sym epochs_are) (all_append (λ (x : ℕ × Held). slice_index s.epochs 0 ≤ x.1.epoch + 1) front back (all_left (λ (x : ℕ × Held). slice_index s.epochs 0 ≤ x.1.epoch + 1) front (e ∷ back) fresh_all) (all_right (λ (x : ℕ × Held). slice_index s.epochs 0 ≤ x.1.epoch + 1) front (e ∷ back) fresh_all).1);
        };
        rest = record { blocks = same; roots = ap (λ x. x.store.roots) j ∙ put-roots s name _; epochs = epochs_are };
      }

-- ---- an open

text-self : (name : List ℕ) → text_cmp name name ≡ Equal
text-self name = go (text_cmp name name) (is_eq-slice_cmp name name ∙ (bytes_eq-Decides name name).1 refl)
  where
    go : (o : Ordering) → is_eq o ≡ true → o ≡ Equal
    go Less e = cc e
    go Equal e = refl
    go Greater e = cc e

pub record OpenComes (s u : Store) (name : List ℕ) (told : Reply) : Type 0 where
  pub told_is : told ≡ reply.Ok
  pub after : HasSeat u name 0 []
  pub rest : LeavesRest s u

pub open_comes : (limits : Limits) (s : Store) (name : List ℕ) → IsSane s → length s.sessions ≡ 0 → 0 < limits.sessions → OpenComes s (judge limits s (op.Open name)).store name (judge limits s (op.Open name)).reply
unfolding refusals
open_comes limits s name sane none_open room =
    let o : Op = op.Open name in
    let none : s.sessions ≡ [] = no_sessions s.sessions none_open in
    let absent : session_at s name ≡ None = ap (λ x. lookup (is_at (text_cmp name)) x) none in
    let free : first (refusals limits s o) ≡ None =
    skip (session_taken s name) (sessions_full limits s ∷ []) (ap (λ x. refused_when (is_some x) (reply.SessionTaken name)) absent)
    ∙ skip (sessions_full limits s) [] (when_not (nat_le limits.sessions (length s.sessions)) (reply.SessionsFull limits.sessions) (le-false limits.sessions (length s.sessions) (omega (arith, none_open, room)))) in
    let j : judge limits s o ≡ opened s name = judge_opened limits s name free in
    let same : (judge limits s o).store.blocks ≡ s.blocks = ap (λ x. x.store.blocks) j in
    record {
      told_is = ap (λ x. x.reply) j;
      after = record {
        sane = judge_sane limits s o sane (more_same s (judge limits s o).store same);
        opened = ap (λ x. session_at x.store name) j ∙ lookup_inserted text_cmp name (text-self name) s.sessions new_session;
        ascend = omega arith;
        fresh = tt;
      };
      rest = record { blocks = same; roots = ap (λ x. x.store.roots) j; epochs = ap (λ x. x.store.epochs) j };
    }
  where
    no_sessions : (xs : List (List ℕ × Session)) → length xs ≡ 0 → xs ≡ []
    no_sessions [] e = refl
    no_sessions (x ∷ xs) e = absurd (omega (arith, e))

    le-false : (a b : ℕ) → b < a → nat_le a b ≡ false
    le-false a b h = grind (arith, tests, h)
