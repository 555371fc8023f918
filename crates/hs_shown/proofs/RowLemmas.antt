-- Each row of the table is the plain store's, and so is the first refusal.
use Rattle.std.proofs.Common.{◌≡◌, ℕ, Bool, not, List, [], ◌∷◌, ◌++◌, ◌⊎◌, Option, Some, None, is_none, is_some, inl, inr, length, nat_le, refl, sym, ap, ◌∙◌}
use Rattle.std.specs.Option.{option_map}
use Rattle.std.specs.Prelude.{nat_lt, slice_index, ◌&&◌}
use Rattle.hs_limits.specs.Block.{Block}
use Rattle.hs_limits.specs.Shape.{shard_of_key}
use Rattle.hs_limits.specs.declared.address.Address.{Address}
use Rattle.hs_limits.specs.declared.limits.Limits.{Limits}
use Rattle.hs_model.specs.Judge.{address_of, given_address, refusals, written}
use Rattle.hs_model.specs.Refusals.{collision, epoch_end, first, handles_full, handles_full_in, is_other, key_taken, no_handle, no_handle_in, no_key, no_session, refused_when, roots_full, running, session_taken, sessions_full, shard_full, stale, stale_in, too_long, too_many}
use Rattle.hs_model.specs.Store.{Session, Store, block_at, blocks_in, roots_in, shard_at}
use Rattle.hs_model.specs.declared.op.Op.{Op}
use Rattle.hs_model.specs.declared.op.Op.TheVariants as op
use Rattle.hs_model.specs.declared.reply.Reply.{Reply}
use Rattle.hs_model.specs.declared.reply.Reply.TheVariants as reply
use Rattle.hs_model.specs.declared.store.StoredBlock.{StoredBlock}
use Rattle.hs_ops.specs.Refusals.{all_open, epochs_end, is_busy, is_running, kept_otherwise, no_more_handles, no_room_for_block, no_room_for_root, not_held, not_kept, not_open, open_already, outdated, refusal_of, refusals_of}
use Rattle.hs_model.specs.Op.{named_key}
use Rattle.hs_ops.specs.Views.{OpView, kept_in, now_in, open_in}
use Rattle.hs_shown.proofs.ShownLemmas.{address_is, kept_differs, kept_none, none_is, not_room, read_now, root_now, session_is, sessions_count, write_now}
use Rattle.hs_shown.specs.Showing.{Shows}

-- ---- rows

not_open_is : (limits : Limits) (s : Store) (o : Op) (v : OpView) (name : List ℕ) → Shows limits s o v → no_session s name ≡ not_open v name
not_open_is limits s o v name shows = ap (λ (session : Option Session). refused_when (is_none session) (reply.NoSession name)) (session_is limits s o v shows name)

open_already_is : (limits : Limits) (s : Store) (o : Op) (v : OpView) (name : List ℕ) → Shows limits s o v → session_taken s name ≡ open_already v name
open_already_is limits s o v name shows = ap (λ (session : Option Session). refused_when (is_some session) (reply.SessionTaken name)) (session_is limits s o v shows name)

all_open_is : (limits : Limits) (s : Store) (o : Op) (v : OpView) → Shows limits s o v → sessions_full limits s ≡ all_open v
all_open_is limits s o v shows =
    ap (λ (n : ℕ). refused_when (nat_le limits.sessions n) (reply.SessionsFull limits.sessions)) (sessions_count limits s o v shows)
    ∙ ap (λ (l : Limits). refused_when (nat_le l.sessions (length v.seats)) (reply.SessionsFull l.sessions)) (sym shows.limited)

not_held_is : (limits : Limits) (s : Store) (o : Op) (v : OpView) (name handles : List ℕ) → Shows limits s o v → no_handle s name handles ≡ not_held v name handles
not_held_is limits s o v name handles shows = ap (λ (session : Option Session). no_handle_in session handles) (session_is limits s o v shows name)

no_more_is : (limits : Limits) (s : Store) (o : Op) (v : OpView) (name : List ℕ) (more : ℕ) → Shows limits s o v → handles_full limits s name more ≡ no_more_handles v name more
no_more_is limits s o v name more shows =
    ap (λ (session : Option Session). handles_full_in limits session more) (session_is limits s o v shows name)
    ∙ ap (λ (l : Limits). handles_full_in l (open_in v name) more) (sym shows.limited)

outdated_is : (limits : Limits) (s : Store) (o : Op) (v : OpView) (name handles : List ℕ) (now : ℕ) → Shows limits s o v → now ≡ now_in v → stale s name now handles ≡ outdated v name handles
outdated_is limits s o v name handles now shows e =
    ap (λ (session : Option Session). stale_in session now handles) (session_is limits s o v shows name) ∙ ap (λ (n : ℕ). stale_in (open_in v name) n handles) e

not_kept_is : (limits : Limits) (s : Store) (o : Op) (v : OpView) (key : List ℕ) → Shows limits s o v → named_key o ≡ Some key → no_key s key ≡ not_kept v key
not_kept_is limits s o v key shows e = ap (λ (b : Bool). refused_when b (reply.NoKey key)) (kept_none limits s o v key shows e)

kept_otherwise_is : (limits : Limits) (s : Store) (o : Op) (v : OpView) (key : List ℕ) (a b : Address) → Shows limits s o v → named_key o ≡ Some key → a ≡ b → key_taken s key a ≡ kept_otherwise v key b
kept_otherwise_is limits s o v key a b shows e f = ap (λ (x : Bool). refused_when x (reply.KeyTaken key)) (kept_differs limits s o v key a b shows e f)

root_room_is : (limits : Limits) (s : Store) (v : OpView) (name key : List ℕ) (handle : ℕ) → Shows limits s (op.Root name key handle) v → roots_full limits s key ≡ no_room_for_root v key
root_room_is limits s v name key handle shows =
    let full : Bool = nat_le limits.roots (roots_in s (shard_of_key (length s.epochs) key)) in
    ap (λ (b : Bool). refused_when (b && full) (reply.RootsFull limits.roots)) (kept_none limits s _ v key shows refl)
    ∙ ap (λ (b : Bool). refused_when (is_none (kept_in v key) && b) (reply.RootsFull limits.roots)) (not_room full v.room (shows.root_room key refl))
    ∙ ap (λ (l : Limits). refused_when (is_none (kept_in v key) && not v.room) (reply.RootsFull l.roots)) (sym shows.limited)

block_room_is : (limits : Limits) (s : Store) (v : OpView) (name payload handles : List ℕ) (address : Option Address) → Shows limits s (op.Write name payload handles address) v → shard_full limits s (given_address address) ≡ no_room_for_block v
block_room_is limits s v name payload handles address shows =
    let a : Address = given_address address in
    let full : Bool = nat_le limits.blocks (blocks_in s (shard_at s a)) in
    ap (λ (b : Bool). refused_when (b && full) (reply.ShardFull limits.blocks)) (none_is v.present (block_at s a) (shows.present a refl))
    ∙ ap (λ (b : Bool). refused_when (is_none v.present && b) (reply.ShardFull limits.blocks)) (not_room full v.room (shows.room a refl))
    ∙ ap (λ (l : Limits). refused_when (is_none v.present && not v.room) (reply.ShardFull l.blocks)) (sym shows.limited)

running_is : (limits : Limits) (s : Store) (o : Op) (v : OpView) → Shows limits s o v → running s ≡ is_running v
running_is limits s o v shows =
    ap (λ (epochs : List ℕ). refused_when (nat_lt (slice_index s.swept 0) (slice_index epochs 0)) (reply.Running (slice_index epochs 0))) (sym shows.epochs)
    ∙ ap (λ (swept : List ℕ). refused_when (nat_lt (slice_index swept 0) (slice_index v.epochs 0)) (reply.Running (slice_index v.epochs 0))) (sym shows.swept)

epochs_end_is : (limits : Limits) (s : Store) (o : Op) (v : OpView) → Shows limits s o v → epoch_end limits s ≡ epochs_end v
epochs_end_is limits s o v shows =
    ap (λ (epochs : List ℕ). refused_when (nat_le limits.epochs (slice_index epochs 0)) (reply.EpochEnd limits.epochs)) (sym shows.epochs)
    ∙ ap (λ (l : Limits). refused_when (nat_le l.epochs (slice_index v.epochs 0)) (reply.EpochEnd l.epochs)) (sym shows.limited)

-- ---- lists of rows

cons_is : {A : Type 0} (a b : A) (xs ys : List A) → a ≡ b → xs ≡ ys → a ∷ xs ≡ b ∷ ys
cons_is a b xs ys e f = ap (λ x. x ∷ xs) e ∙ ap (λ zs. b ∷ zs) f

first_is : (xs ys : List (Option Reply)) → xs ≡ ys → first xs ≡ first ys
first_is xs ys e = ap first e

-- a session without another operation is not busy
free_rows : (v : OpView) (o : Option Reply) (rest : List (Option Reply)) → v.busy ≡ None → first (o ∷ is_busy v ∷ rest) ≡ first (o ∷ rest)
free_rows v None rest e = ap (λ (busy : Option ℕ). first (option_map (λ line. reply.Busy line) busy ∷ rest)) e
free_rows v (Some r) rest e = refl

pub open_refusal : (limits : Limits) (s : Store) (v : OpView) (name : List ℕ) → Shows limits s (op.Open name) v → first (refusals limits s (op.Open name)) ≡ refusal_of v (op.Open name)
unfolding refusals refusals_of
open_refusal limits s v name shows =
    first_is _ _ (cons_is _ _ _ _ (open_already_is limits s _ v name shows) (cons_is _ _ _ _ (all_open_is limits s _ v shows) refl))

pub close_refusal : (limits : Limits) (s : Store) (v : OpView) (name : List ℕ) → Shows limits s (op.Close name) v → first (refusals limits s (op.Close name)) ≡ refusal_of v (op.Close name)
unfolding refusals refusals_of
close_refusal limits s v name shows =
    first_is _ _ (cons_is _ _ _ _ (not_open_is limits s _ v name shows) refl) ∙ sym (free_rows v (not_open v name) [] shows.free)

pub read_refusal : (limits : Limits) (s : Store) (v : OpView) (name : List ℕ) (handle : ℕ) → Shows limits s (op.Read name handle) v → first (refusals limits s (op.Read name handle)) ≡ refusal_of v (op.Read name handle)
unfolding refusals refusals_of
read_refusal limits s v name handle shows =
    first_is _ _ (cons_is _ _ _ _ (not_open_is limits s _ v name shows)
    (cons_is _ _ _ _ (not_held_is limits s _ v name (handle ∷ []) shows)
    (cons_is _ _ _ _ (outdated_is limits s _ v name (handle ∷ []) _ shows (read_now limits s v name handle shows))
    (cons_is _ _ _ _ (ap (λ (more : ℕ). handles_full limits s name more) (sym (shows.pointers (address_of s name handle) refl)) ∙ no_more_is limits s _ v name v.pointers shows) refl))))
    ∙ sym (free_rows v (not_open v name) _ shows.free)

pub look_refusal : (limits : Limits) (s : Store) (v : OpView) (name key : List ℕ) → Shows limits s (op.Look name key) v → first (refusals limits s (op.Look name key)) ≡ refusal_of v (op.Look name key)
unfolding refusals refusals_of
look_refusal limits s v name key shows =
    first_is _ _ (cons_is _ _ _ _ (not_open_is limits s _ v name shows)
    (cons_is _ _ _ _ (no_more_is limits s _ v name 1 shows)
    (cons_is _ _ _ _ (not_kept_is limits s _ v key shows refl) refl)))
    ∙ sym (free_rows v (not_open v name) _ shows.free)

pub root_refusal : (limits : Limits) (s : Store) (v : OpView) (name key : List ℕ) (handle : ℕ) → Shows limits s (op.Root name key handle) v → first (refusals limits s (op.Root name key handle)) ≡ refusal_of v (op.Root name key handle)
unfolding refusals refusals_of
root_refusal limits s v name key handle shows =
    first_is _ _ (cons_is _ _ _ _ (not_open_is limits s _ v name shows)
    (cons_is _ _ _ _ (not_held_is limits s _ v name (handle ∷ []) shows)
    (cons_is _ _ _ _ (outdated_is limits s _ v name (handle ∷ []) _ shows (root_now limits s v name key handle shows))
    (cons_is _ _ _ _ (kept_otherwise_is limits s _ v key _ _ shows refl (address_is limits s _ v shows name handle))
    (cons_is _ _ _ _ (root_room_is limits s v name key handle shows) refl)))))
    ∙ sym (free_rows v (not_open v name) _ shows.free)

pub drop_refusal : (limits : Limits) (s : Store) (v : OpView) (key : List ℕ) → Shows limits s (op.Drop key) v → first (refusals limits s (op.Drop key)) ≡ refusal_of v (op.Drop key)
unfolding refusals refusals_of
drop_refusal limits s v key shows = first_is _ _ (cons_is _ _ _ _ (not_kept_is limits s _ v key shows refl) refl)

pub forget_refusal : (limits : Limits) (s : Store) (v : OpView) (name : List ℕ) (handle : ℕ) → Shows limits s (op.Forget name handle) v → first (refusals limits s (op.Forget name handle)) ≡ refusal_of v (op.Forget name handle)
unfolding refusals refusals_of
forget_refusal limits s v name handle shows =
    first_is _ _ (cons_is _ _ _ _ (not_open_is limits s _ v name shows) (cons_is _ _ _ _ (not_held_is limits s _ v name (handle ∷ []) shows) refl))
    ∙ sym (free_rows v (not_open v name) _ shows.free)

pub name_refusal : (limits : Limits) (s : Store) (v : OpView) (name : List ℕ) (handle : ℕ) → Shows limits s (op.Name name handle) v → first (refusals limits s (op.Name name handle)) ≡ refusal_of v (op.Name name handle)
unfolding refusals refusals_of
name_refusal limits s v name handle shows =
    first_is _ _ (cons_is _ _ _ _ (not_open_is limits s _ v name shows) (cons_is _ _ _ _ (not_held_is limits s _ v name (handle ∷ []) shows) refl))
    ∙ sym (free_rows v (not_open v name) _ shows.free)

pub delete_refusal : (limits : Limits) (s : Store) (v : OpView) → Shows limits s op.Delete v → first (refusals limits s op.Delete) ≡ refusal_of v op.Delete
unfolding refusals refusals_of
delete_refusal limits s v shows = first_is _ _ (cons_is _ _ _ _ (running_is limits s _ v shows) (cons_is _ _ _ _ (epochs_end_is limits s _ v shows) refl))

pub stat_refusal : (limits : Limits) (s : Store) (v : OpView) → first (refusals limits s op.Stat) ≡ refusal_of v op.Stat
unfolding refusals refusals_of
stat_refusal limits s v = refl

-- ---- a write: a collision stands before the room, and never beside it

abbrev front : OpView → List ℕ → List ℕ → List ℕ → List (Option Reply)
front v name payload handles = not_open v name ∷ too_long payload ∷ too_many handles ∷ not_held v name handles ∷ no_more_handles v name 1 ∷ outdated v name handles ∷ []

write_rows : (limits : Limits) (s : Store) (v : OpView) (name payload handles : List ℕ) (address : Option Address) → Shows limits s (op.Write name payload handles address) v
    → first (refusals limits s (op.Write name payload handles address)) ≡ first (front v name payload handles ++ collision s (given_address address) (written s name payload handles) ∷ shard_full limits s (given_address address) ∷ [])
unfolding refusals
write_rows limits s v name payload handles address shows =
    first_is _ _ (cons_is _ _ _ _ (not_open_is limits s _ v name shows)
    (cons_is _ _ _ _ refl
    (cons_is _ _ _ _ refl
    (cons_is _ _ _ _ (not_held_is limits s _ v name handles shows)
    (cons_is _ _ _ _ (no_more_is limits s _ v name 1 shows)
    (cons_is _ _ _ _ (outdated_is limits s _ v name handles _ shows (write_now limits s v name payload handles address shows)) refl))))))

view_rows : (limits : Limits) (s : Store) (v : OpView) (name payload handles : List ℕ) (address : Option Address) → Shows limits s (op.Write name payload handles address) v
    → refusal_of v (op.Write name payload handles address) ≡ first (front v name payload handles ++ shard_full limits s (given_address address) ∷ [])
unfolding refusals_of
view_rows limits s v name payload handles address shows =
    free_rows v (not_open v name) _ shows.free
    ∙ ap (λ (x : Option Reply). first (front v name payload handles ++ x ∷ [])) (sym (block_room_is limits s v name payload handles address shows))

with_front : (rows : List (Option Reply)) (c x : Option Reply) (r : Reply) → (c ≡ None) ⊎ (x ≡ None) → first (rows ++ x ∷ []) ≡ Some r → first (rows ++ c ∷ x ∷ []) ≡ Some r
with_front [] c x r (inl e) h = rw e h
with_front [] c x r (inr e) h = cc
with_front (Some q ∷ rows) c x r e h = h
with_front (None ∷ rows) c x r e h = with_front rows c x r e h

none_front : (rows : List (Option Reply)) (c x : Option Reply) → first (rows ++ x ∷ []) ≡ None → first (rows ++ c ∷ x ∷ []) ≡ c
none_front [] None x h = h
none_front [] (Some r) x h = refl
none_front (Some q ∷ rows) c x h = cc
none_front (None ∷ rows) c x h = none_front rows c x h

apart : (stored : Option StoredBlock) (block : Block) (full : Bool) (r : Reply) → (refused_when (is_other stored block) reply.Collision ≡ None) ⊎ (refused_when (is_none stored && full) r ≡ None)
apart None block full r = inl refl
apart (Some stored) block full r = inr refl

pub write_refused : (limits : Limits) (s : Store) (v : OpView) (name payload handles : List ℕ) (address : Option Address) (r : Reply) → Shows limits s (op.Write name payload handles address) v
    → refusal_of v (op.Write name payload handles address) ≡ Some r → first (refusals limits s (op.Write name payload handles address)) ≡ Some r
write_refused limits s v name payload handles address r shows e =
    write_rows limits s v name payload handles address shows
    ∙ with_front (front v name payload handles) _ _ r (apart (block_at s (given_address address)) (written s name payload handles) _ _) (sym (view_rows limits s v name payload handles address shows) ∙ e)

pub write_taken : (limits : Limits) (s : Store) (v : OpView) (name payload handles : List ℕ) (address : Option Address) → Shows limits s (op.Write name payload handles address) v
    → refusal_of v (op.Write name payload handles address) ≡ None → first (refusals limits s (op.Write name payload handles address)) ≡ collision s (given_address address) (written s name payload handles)
write_taken limits s v name payload handles address shows e =
    write_rows limits s v name payload handles address shows
    ∙ none_front (front v name payload handles) _ _ (sym (view_rows limits s v name payload handles address shows) ∙ e)
