-- What the store in memory looks at is what an entry of a journal says by its deed.
use Rattle.std.proofs.Common.{◌≡◌, ◌∙◌, ◌≤◌, ◌+◌, ℕ, arith, List, [], ◌∷◌, Bool, true, false, refl, sym, ap, subst, map, length, Option, Some, None, IsSome, is_none, is_some, nat_le, nat_lt, ◌==◌, ◌&&◌}
use Rattle.std.proofs.lemmas.Bool.{and_from, and_parts, and_right, eq-eqb, eqb-true, le-leb, leb-true}
use Rattle.std.proofs.lemmas.Bool.Decides.{nat_tests}
use Rattle.std.proofs.lemmas.Grind.{common_steps}
use Rattle.std.proofs.lemmas.List.{length-map}
use Rattle.std.specs.List.{AllByRecursion}
use Rattle.std.specs.Prelude.{unwrap_or}
use Rattle.hs_limits.specs.declared.address.Address.{Address}
use Rattle.hs_limits.specs.declared.limits.Limits.{Limits}
use Rattle.hs_limits.specs.declared.spelling.TheConstants.{MOST_POINTERS}
use Rattle.hs_model.proofs.DeedLemmas.{is_collision, told_refusals}
use Rattle.hs_model.proofs.JudgeLemmas.{judge_granted, judge_refused}
use Rattle.hs_model.specs.declared.deed.Deed.{Deed}
use Rattle.hs_model.specs.declared.deed.Deed.TheVariants as deed
use Rattle.hs_model.specs.declared.op.Op.{Op}
use Rattle.hs_model.specs.declared.op.Op.TheVariants as op
use Rattle.hs_model.specs.declared.reply.Reply.{Reply}
use Rattle.hs_model.specs.declared.reply.Reply.TheVariants as reply
use Rattle.hs_model.specs.declared.store.StoredBlock.{StoredBlock}
use Rattle.hs_model.specs.Deeds.{DeedEntry, HoldsFresh, IsDeedOf, IsMarked, IsWrote, MayWrite, NothingRefuses, deed_store, is_too_long, refusals_told}
use Rattle.hs_model.specs.Judge.{address_of, asked_of, granted, judge, nothing, refusals}
use Rattle.hs_model.specs.Refusals.{first, handles_full, handles_full_in, no_handle, no_handle_in, no_session, no_such_handle, refused_when, shard_full, stale, stale_handle, stale_in, too_many}
use Rattle.hs_model.specs.Store.{Session, Store, block_at, blocks_in, epoch_at, held_at, next_of, session_at, shard_at}
use Rattle.hs_model.specs.Reach.{pointers_of}
use Rattle.hs_plain.proofs.HoldingLemmas.{each_found, each_only}
use Rattle.hs_plain.specs.Holding.{has_each, may_mark, may_take}
use Rattle.hs_plain.proofs.FirstLemmas.{first-none}
use Rattle.hs_plain.specs.Deeds.{IsJudged, MayGive, MayMark, MayTake, operation_of}

-- ---- refusals

none_of : (o : Option Reply) (rest : List (Option Reply)) → first (o ∷ rest) ≡ None → (o ≡ None) × (first rest ≡ None)
none_of None rest e = (refl, e)
none_of (Some r) rest e = absurd (cc e)

-- where one holds not, the rest decide
first_none : (o : Option Reply) (rest : List (Option Reply)) → o ≡ None → first rest ≡ None → first (o ∷ rest) ≡ None
first_none o rest e f = first-none o rest e ∙ f

when_false : (b : Bool) (r : Reply) → b ≡ false → refused_when b r ≡ None
when_false b r e = ap (λ z. refused_when z r) e

false_when : (b : Bool) (r : Reply) → refused_when b r ≡ None → b ≡ false
false_when true r e = absurd (cc e)
false_when false r e = refl

some_open : (o : Option Session) (r : Reply) → IsSome o → refused_when (is_none o) r ≡ None
some_open None r h = absurd (cc h)
some_open (Some session) r h = refl

-- ---- operations that deeds tell whole

abbrev given_op : Option Op → Op
given_op None = op.Stat
given_op (Some o) = o

module _ (limits : Limits) (s : Store) where
  -- what was not refused did what the deed says
  granted_so : (o : Op) (d : Deed) (told : Reply) → operation_of d ≡ Some o → IsJudged limits s o d told → (first (refusals limits s o) ≡ None) × ((granted s o).deed ≡ d) × ((granted s o).reply ≡ told)
  granted_so o d told e h = go (first (refusals limits s o)) refl
    where
      go : (r : Option Reply) → first (refusals limits s o) ≡ r → (first (refusals limits s o) ≡ None) × ((granted s o).deed ≡ d) × ((granted s o).reply ≡ told)
      go None at = let g = judge_granted limits s o at in (at, sym (ap (λ j. j.deed) g) ∙ h.done, sym (ap (λ j. j.reply) g) ∙ h.reply)
      go (Some r) at = let never = ap operation_of (sym (ap (λ j. j.deed) (judge_refused limits s o r at)) ∙ h.done) ∙ e in absurd (cc never)

  -- of an operation that is no write no refusal holds as it is told
  pub told_none : (o : Op) → is_collision s o ≡ false → first (refusals limits s o) ≡ None → NothingRefuses limits s (asked_of o)
  told_none o apart none = ap (λ c. first (refusals_told limits s (asked_of o) c)) (sym apart) ∙ ap (λ (rs : List (Option Reply)). first rs) (sym (told_refusals limits s o)) ∙ none

  pub none_told : (o : Op) → is_collision s o ≡ false → NothingRefuses limits s (asked_of o) → first (refusals limits s o) ≡ None
  none_told o apart none = ap (λ (rs : List (Option Reply)). first rs) (told_refusals limits s o) ∙ ap (λ c. first (refusals_told limits s (asked_of o) c)) apart ∙ none

  pub record Whole (o : Op) (d : Deed) (told : Reply) (before : List DeedEntry) : Type 0 where
    pub found : IsJudged limits s o d told → IsDeedOf limits s before d told
    pub only : IsDeedOf limits s before d told → IsJudged limits s o d told
    pub leaves : IsJudged limits s o d told → (judge limits s o).store ≡ deed_store s d

  judged_so : (o : Op) (d : Deed) (told : Reply) → first (refusals limits s o) ≡ None → (granted s o).deed ≡ d → (granted s o).reply ≡ told → IsJudged limits s o d told
  judged_so o d told none e f = let g = judge_granted limits s o none in record { done = ap (λ j. j.deed) g ∙ e; reply = ap (λ j. j.reply) g ∙ f }

  left_so : (o : Op) (d : Deed) (told : Reply) → operation_of d ≡ Some o → (granted s o).store ≡ deed_store s d → IsJudged limits s o d told → (judge limits s o).store ≡ deed_store s d
  left_so o d told e f h = ap (λ j. j.store) (judge_granted limits s o (granted_so o d told e h).0) ∙ f

  pub whole : (d : Deed) (o : Op) (told : Reply) (before : List DeedEntry) → operation_of d ≡ Some o → Whole o d told before
  unfolding granted
  whole d o told before e = go d o e
    where
      at_op : (d : Deed) (o p : Op) → Some o ≡ Some p → Whole o d told before → Whole p d told before
      at_op d o p f h = subst (λ z. Whole z d told before) (ap given_op f) h

      go : (d : Deed) (o : Op) → operation_of d ≡ Some o → Whole o d told before
      go (deed.Opened name) o e = at_op (deed.Opened name) (op.Open name) o e (record {
        found = λ h. let g = granted_so (op.Open name) (deed.Opened name) told refl h in (told_none (op.Open name) refl g.0, sym g.2);
        only = λ h. judged_so (op.Open name) (deed.Opened name) told (none_told (op.Open name) refl h.0) refl (sym h.1);
        leaves = left_so (op.Open name) (deed.Opened name) told refl refl;
      })
      go (deed.Closed name) o e = at_op (deed.Closed name) (op.Close name) o e (record {
        found = λ h. let g = granted_so (op.Close name) (deed.Closed name) told refl h in (told_none (op.Close name) refl g.0, sym g.2);
        only = λ h. judged_so (op.Close name) (deed.Closed name) told (none_told (op.Close name) refl h.0) refl (sym h.1);
        leaves = left_so (op.Close name) (deed.Closed name) told refl refl;
      })
      go (deed.Looked name key handle) o e = at_op (deed.Looked name key handle) (op.Look name key) o e (record {
        found = λ h. let g = granted_so (op.Look name key) (deed.Looked name key handle) told refl h in (told_none (op.Look name key) refl g.0, sym g.1, sym g.2);
        only = λ h. judged_so (op.Look name key) (deed.Looked name key handle) told (none_told (op.Look name key) refl h.0) (sym h.1) (sym h.2);
        leaves = left_so (op.Look name key) (deed.Looked name key handle) told refl refl;
      })
      go (deed.Dropped key) o e = at_op (deed.Dropped key) (op.Drop key) o e (record {
        found = λ h. let g = granted_so (op.Drop key) (deed.Dropped key) told refl h in (told_none (op.Drop key) refl g.0, sym g.2);
        only = λ h. judged_so (op.Drop key) (deed.Dropped key) told (none_told (op.Drop key) refl h.0) refl (sym h.1);
        leaves = left_so (op.Drop key) (deed.Dropped key) told refl refl;
      })
      go (deed.Forgot name handle) o e = at_op (deed.Forgot name handle) (op.Forget name handle) o e (record {
        found = λ h. let g = granted_so (op.Forget name handle) (deed.Forgot name handle) told refl h in (told_none (op.Forget name handle) refl g.0, sym g.2);
        only = λ h. judged_so (op.Forget name handle) (deed.Forgot name handle) told (none_told (op.Forget name handle) refl h.0) refl (sym h.1);
        leaves = left_so (op.Forget name handle) (deed.Forgot name handle) told refl refl;
      })
      go (deed.Wrote name a pointers handle) o e = absurd (cc e)
      go (deed.Marked name a handle) o e = absurd (cc e)
      go (deed.ReadBlock name a epoch handles) o e = absurd (cc e)
      go (deed.Rooted key a) o e = absurd (cc e)
      go (deed.Entered shard) o e = absurd (cc e)
      go (deed.Swept shard) o e = absurd (cc e)
      go (deed.Refused asked) o e = absurd (cc e)
      go deed.Nothing o e = absurd (cc e)

-- ---- handles that stand for pointers

module _ (s : Store) (name : List ℕ) (now : ℕ) where
  abbrev handles_for : (pointers : List Address) → AllByRecursion (HoldsFresh s name now) pointers → List ℕ
  handles_for [] h = []
  handles_for (a ∷ rest) h = h.0.handle ∷ handles_for rest h.1

  stand_for : (pointers : List Address) (h : AllByRecursion (HoldsFresh s name now) pointers) → map (λ handle. address_of s name handle) (handles_for pointers h) ≡ pointers
  stand_for [] h = refl
  stand_for (a ∷ rest) h =
      let head : address_of s name h.0.handle ≡ a = ap (λ o. (unwrap_or o nothing).address) h.0.held in
      let tail = stand_for rest h.1 in
      λ i. head i ∷ tail i

  all_held : (pointers : List Address) (h : AllByRecursion (HoldsFresh s name now) pointers) → no_handle s name (handles_for pointers h) ≡ None
  unfolding no_handle_in
  all_held [] h = refl
  all_held (a ∷ rest) h = first_none (no_such_handle (session_at s name) h.0.handle) _ (ap (λ o. refused_when (is_none o) (reply.NoHandle h.0.handle)) h.0.held) (all_held rest h.1)

  all_fresh : (pointers : List Address) (h : AllByRecursion (HoldsFresh s name now) pointers) → stale s name now (handles_for pointers h) ≡ None
  unfolding stale_in
  all_fresh [] h = refl
  all_fresh (a ∷ rest) h =
      let late : nat_lt (h.0.epoch + 1) now ≡ false = grind (arith, nat_tests, h.0.fresh) in
      first_none (stale_handle now h.0.handle (held_at s name h.0.handle)) _ (ap (λ o. stale_handle now h.0.handle o) h.0.held ∙ when_false (nat_lt (h.0.epoch + 1) now) (reply.Stale h.0.handle h.0.epoch now) late) (all_fresh rest h.1)

  same_length : (pointers : List Address) (h : AllByRecursion (HoldsFresh s name now) pointers) → length (handles_for pointers h) ≡ length pointers
  same_length [] h = refl
  same_length (a ∷ rest) h = grind (arith, common_steps, same_length rest h.1)

-- ---- blocks

module _ (limits : Limits) (s : Store) (name : List ℕ) (a : Address) where
  few_of : (handles : List ℕ) → length handles ≤ MOST_POINTERS → too_many handles ≡ None
  few_of handles h = let late : nat_lt MOST_POINTERS (length handles) ≡ false = grind (arith, nat_tests, h) in when_false (nat_lt MOST_POINTERS (length handles)) (reply.TooMany (length handles)) late

  few_from : (handles : List ℕ) → too_many handles ≡ None → length handles ≤ MOST_POINTERS
  few_from handles h = let late = false_when (nat_lt MOST_POINTERS (length handles)) (reply.TooMany (length handles)) h in grind (arith, nat_tests, late)

  -- what is looked at behind each refusal of a write
  abbrev behind_fresh : List (Option Reply)
  behind_fresh = refused_when false reply.Collision ∷ shard_full limits s a ∷ []

  abbrev behind_full : List ℕ → List (Option Reply)
  behind_full handles = stale s name (epoch_at s a) handles ∷ behind_fresh

  abbrev behind_held : List ℕ → List (Option Reply)
  behind_held handles = handles_full limits s name 1 ∷ behind_full handles

  abbrev behind_many : List ℕ → List (Option Reply)
  behind_many handles = no_handle s name handles ∷ behind_held handles

  abbrev behind_length : List ℕ → List (Option Reply)
  behind_length handles = too_many handles ∷ behind_many handles

  abbrev behind_session : List ℕ → List (Option Reply)
  behind_session handles = is_too_long 0 ∷ behind_length handles

  may_write : (pointers : List Address) (handle : ℕ) → MayTake limits s name a pointers handle → MayWrite limits s name a pointers
  unfolding refusals_told
  may_write pointers handle h =
      let fresh = h.gives.held in
      let now = epoch_at s a in
      let handles = handles_for s name now pointers fresh in
      record {
        bytes = 0;
        handles = handles;
        stand_for = stand_for s name now pointers fresh;
        granted =
            first_none (no_session s name) (behind_session handles) (some_open (session_at s name) (reply.NoSession name) h.gives.is_open)
            (first_none (is_too_long 0) (behind_length handles) refl
            (first_none (too_many handles) (behind_many handles) (few_of handles (subst (λ n. n ≤ MOST_POINTERS) (sym (same_length s name now pointers fresh)) h.few))
            (first_none (no_handle s name handles) (behind_held handles) (all_held s name now pointers fresh)
            (first_none (handles_full limits s name 1) (behind_full handles) h.handles
            (first_none (stale s name now handles) behind_fresh (all_fresh s name now pointers fresh)
            (first_none (refused_when false reply.Collision) (shard_full limits s a ∷ []) refl
            (first_none (shard_full limits s a) [] h.room refl)))))));
      }

  pub wrote_found : (pointers : List Address) (handle : ℕ) (told : Reply) → MayTake limits s name a pointers handle → told ≡ reply.New handle (epoch_at s a) → IsWrote limits s name a pointers handle told
  wrote_found pointers handle told h e = record {
    is_open = h.gives.is_open;
    absent = h.absent;
    held = h.gives.held;
    granted = may_write pointers handle h;
    next = h.gives.next;
    reply = e;
  }

  pub wrote_only : (pointers : List Address) (handle : ℕ) (told : Reply) → IsWrote limits s name a pointers handle told → MayTake limits s name a pointers handle
  unfolding refusals_told
  wrote_only pointers handle told h =
      let may = h.granted in
      let one = none_of (no_session s name) (is_too_long may.bytes ∷ behind_length may.handles) may.granted in
      let two = none_of (is_too_long may.bytes) (behind_length may.handles) one.1 in
      let three = none_of (too_many may.handles) (behind_many may.handles) two.1 in
      let four = none_of (no_handle s name may.handles) (behind_held may.handles) three.1 in
      let five = none_of (handles_full limits s name 1) (behind_full may.handles) four.1 in
      let six = none_of (stale s name (epoch_at s a) may.handles) behind_fresh five.1 in
      let seven = none_of (refused_when false reply.Collision) (shard_full limits s a ∷ []) six.1 in
      let eight = none_of (shard_full limits s a) [] seven.1 in
      let same : length may.handles ≡ length pointers = sym (length-map may.handles (λ handle. address_of s name handle)) ∙ ap (λ (z : List Address). length z) may.stand_for in
      record {
        gives = record { is_open = h.is_open; held = h.held; next = h.next };
        absent = h.absent;
        few = subst (λ n. n ≤ MOST_POINTERS) same (few_from may.handles three.0);
        handles = five.0;
        room = eight.0;
      }

  pub marked_found : (handle : ℕ) (told : Reply) → MayMark s name a handle → told ≡ reply.Dup handle (epoch_at s a) → IsMarked s name a handle told
  marked_found handle told h e = record { is_open = h.gives.is_open; present = h.present; held = h.gives.held; next = h.gives.next; reply = e }

  pub marked_only : (handle : ℕ) (told : Reply) → IsMarked s name a handle told → MayMark s name a handle
  marked_only handle told h = record { gives = record { is_open = h.is_open; held = h.held; next = h.next }; present = h.present }

-- ---- who may be given a block

none_is : {X : Type 0} (o : Option X) → is_none o ≡ true → o ≡ None
none_is None e = refl
none_is (Some x) e = absurd (cc e)

module _ (s : Store) (name : List ℕ) (session : Session) (here : session_at s name ≡ Some session) where
  give_found : (now : ℕ) (pointers : List Address) (handle : ℕ) → may_mark session now pointers handle ≡ true → MayGive s name now pointers handle
  give_found now pointers handle h =
      let parts = and_parts (has_each session now pointers) (session.next == handle) h in
      record {
        is_open = ap (λ o. is_some o) here;
        held = each_found s name session here now pointers parts.0;
        next = sym (eqb-true session.next handle parts.1) ∙ sym (ap next_of here);
      }

  give_only : (now : ℕ) (pointers : List Address) (handle : ℕ) → MayGive s name now pointers handle → may_mark session now pointers handle ≡ true
  give_only now pointers handle h =
      and_from (has_each session now pointers) (session.next == handle) (each_only s name session here now pointers h.held)
      (eq-eqb session.next handle (sym (h.next ∙ ap next_of here)))

  pub take_found : (limits : Limits) (a : Address) (pointers : List Address) (handle : ℕ) → block_at s a ≡ None → nat_le limits.blocks (blocks_in s (shard_at s a)) ≡ false
      → may_take limits session (epoch_at s a) pointers handle ≡ true → MayTake limits s name a pointers handle
  take_found limits a pointers handle absent room h =
      let parts = and_parts (may_mark session (epoch_at s a) pointers handle && nat_le (length pointers) MOST_POINTERS) (is_none (handles_full_in limits (Some session) 1)) h in
      let front = and_parts (may_mark session (epoch_at s a) pointers handle) (nat_le (length pointers) MOST_POINTERS) parts.0 in
      record {
        gives = give_found (epoch_at s a) pointers handle front.0;
        absent = absent;
        few = leb-true (length pointers) MOST_POINTERS front.1;
        handles = ap (λ o. handles_full_in limits o 1) here ∙ none_is (handles_full_in limits (Some session) 1) parts.1;
        room = when_false (is_none (block_at s a) && nat_le limits.blocks (blocks_in s (shard_at s a))) (reply.ShardFull limits.blocks) (and_right (is_none (block_at s a)) (nat_le limits.blocks (blocks_in s (shard_at s a))) room);
      }

  pub take_only : (limits : Limits) (a : Address) (pointers : List Address) (handle : ℕ) → MayTake limits s name a pointers handle → may_take limits session (epoch_at s a) pointers handle ≡ true
  take_only limits a pointers handle h =
      and_from (may_mark session (epoch_at s a) pointers handle && nat_le (length pointers) MOST_POINTERS) (is_none (handles_full_in limits (Some session) 1))
      (and_from (may_mark session (epoch_at s a) pointers handle) (nat_le (length pointers) MOST_POINTERS) (give_only (epoch_at s a) pointers handle h.gives) (le-leb (length pointers) MOST_POINTERS h.few))
      (ap (λ o. is_none o) (sym (ap (λ o. handles_full_in limits o 1) here) ∙ h.handles))

  pub mark_found : (a : Address) (stored : StoredBlock) (handle : ℕ) → block_at s a ≡ Some stored → may_mark session (epoch_at s a) stored.pointers handle ≡ true → MayMark s name a handle
  mark_found a stored handle at h = record {
    gives = subst (λ (ps : List Address). MayGive s name (epoch_at s a) ps handle) (sym (ap pointers_of at)) (give_found (epoch_at s a) stored.pointers handle h);
    present = ap (λ o. is_some o) at;
  }

  pub mark_only : (a : Address) (stored : StoredBlock) (handle : ℕ) → block_at s a ≡ Some stored → MayMark s name a handle → may_mark session (epoch_at s a) stored.pointers handle ≡ true
  mark_only a stored handle at h = give_only (epoch_at s a) stored.pointers handle (subst (λ (ps : List Address). MayGive s name (epoch_at s a) ps handle) (ap pointers_of at) h.gives)

-- where it is there is room for one more
pub room_of : (limits : Limits) (s : Store) (name : List ℕ) (a : Address) (pointers : List Address) (handle : ℕ) → MayTake limits s name a pointers handle → nat_le limits.blocks (blocks_in s (shard_at s a)) ≡ false
room_of limits s name a pointers handle h = ap (λ o. is_none o && nat_le limits.blocks (blocks_in s (shard_at s a))) (sym h.absent) ∙ false_when _ (reply.ShardFull limits.blocks) h.room
