-- Each event keeps the lists of a store in their order.
use Rattle.std.proofs.Common.{◌≡◌, ℕ, ◌⊎◌, inl, inr, List, [], ◌∷◌, Option, Some, None, refl, sym, subst, false, Less}
use Rattle.std.proofs.lemmas.Cmp.{nat_cmp_total, nat_list_cmp_total}
use Rattle.std.proofs.lemmas.Map.{keys-set_value}
use Rattle.std.proofs.lemmas.Map.Keys.{IsDistinct-cons, sorted_head, sorted_tail}
use Rattle.std.specs.BTreeMap.{is_at, insert_entry}
use Rattle.std.specs.List.{IsDistinct, AllByRecursion}
use Rattle.std.specs.List.Sorted.{IsStrictlySortedBy}
use Rattle.std.specs.Map.{keys_of, set_value, remove_entry}
use Rattle.std.specs.Option.{option_map}
use Rattle.std.specs.Ordering.{nat_cmp}
use Rattle.hs_limits.specs.Block.{Block}
use Rattle.hs_limits.specs.declared.address.Address.{Address}
use Rattle.hs_limits.specs.declared.address.Held.{Held}
use Rattle.hs_limits.specs.declared.limits.Limits.{Limits}
use Rattle.hs_model.specs.declared.op.Op.{Op}
use Rattle.hs_model.specs.declared.op.Op.TheVariants as op
use Rattle.hs_model.specs.declared.reply.Reply.{Reply}
use Rattle.hs_model.specs.declared.store.StoredBlock.{StoredBlock}
use Rattle.hs_model.specs.Inner.{enter, sweep}
use Rattle.hs_model.specs.Judge.{judge, judged, refusals, granted, given_address, written, pointers_at, held_or, kept_address, forgetting, roots_with, drop_root}
use Rattle.hs_model.specs.Reach.{is_same}
use Rattle.hs_model.specs.Refusals.{first}
use Rattle.hs_model.specs.Run.{Event, asks, enters, sweeps, step, run}
use Rattle.hs_model.specs.Store.{Store, Root, Session, text_cmp, address_cmp, block_at, epoch_at, root_epoch, retained_at, is_retained, session_at, new_session, holding, holding_all, blocks_with, with_block, with_roots, with_sessions, put_session, helds_of, hold_all, place_root, without_first, empty_store}
use Rattle.hs_laws.specs.Order.{IsInOrder}
use Rattle.hs_laws.proofs.DistinctLemmas.{none-distinct}
use Rattle.hs_laws.proofs.HoldKeeps.{session_entry}
use Rattle.hs_laws.proofs.InsertLemmas.{insert-value, set-value, member_of_remove, compare}
use Rattle.hs_model.proofs.Members.{Member, contains_from_member, member_from_contains}
use Rattle.hs_laws.proofs.OrderLemmas.{address_total, insert-sorted, filter-sorted, remove-sorted, none-sorted, Rising, pairs_from_rising, rising_from_pairs, place-rising, without-rising, kept-rising}

abbrev pub HandlesInOrder : List (List ℕ × Session) → Type 0
HandlesInOrder sessions = (e : List ℕ × Session) → Member e sessions → IsStrictlySortedBy nat_cmp (keys_of e.1.handles)

pub record Ordered (s : Store) : Type 0 where
  pub blocks : IsStrictlySortedBy address_cmp (keys_of s.blocks)
  pub given : IsStrictlySortedBy address_cmp (keys_of s.given)
  pub sessions : IsStrictlySortedBy text_cmp (keys_of s.sessions)
  pub handles : HandlesInOrder s.sessions
  pub roots : Rising s.roots

pub ordered_from_is : (s : Store) → IsInOrder s → Ordered s
ordered_from_is s o = record { blocks = o.blocks; given = o.given; sessions = o.sessions; handles = λ e m. o.handles e.0 e.1 (contains_from_member e s.sessions m); roots = rising_from_pairs s.roots o.roots }

pub is_from_ordered : (s : Store) → Ordered s → IsInOrder s
is_from_ordered s o = record { blocks = o.blocks; given = o.given; sessions = o.sessions; handles = λ name session h. o.handles (name, session) (member_from_contains (name, session) s.sessions h); roots = pairs_from_rising s.roots o.roots }

pub empty_ordered : (shards : ℕ) → Ordered (empty_store shards)
empty_ordered shards = record { blocks = none-sorted address_cmp; given = none-sorted address_cmp; sessions = none-sorted text_cmp; handles = λ e m. absurd m; roots = tt }

-- ---- part by part

sessions_ordered : (s : Store) → Ordered s → (sessions : List (List ℕ × Session)) → IsStrictlySortedBy text_cmp (keys_of sessions) → HandlesInOrder sessions → Ordered (with_sessions s sessions)
sessions_ordered s o sessions d h = record { blocks = o.blocks; given = o.given; sessions = d; handles = h; roots = o.roots }

roots_ordered : (s : Store) → Ordered s → (roots : List Root) → Rising roots → Ordered (with_roots s roots)
roots_ordered s o roots h = record { blocks = o.blocks; given = o.given; sessions = o.sessions; handles = o.handles; roots = h }

put_ordered : (s : Store) → Ordered s → (name : List ℕ) (after : Session) → IsStrictlySortedBy nat_cmp (keys_of after.handles) → Ordered (put_session s name (Some after))
put_ordered s o name after d = sessions_ordered s o (set_value (is_at (text_cmp name)) s.sessions after) (subst (λ z. IsStrictlySortedBy text_cmp z) (sym (keys-set_value (is_at (text_cmp name)) s.sessions after)) o.sessions) (λ e m. go e (set-value (is_at (text_cmp name)) s.sessions after e m))
  where
    go : (e : List ℕ × Session) → (e.1 ≡ after) ⊎ Member e s.sessions → IsStrictlySortedBy nat_cmp (keys_of e.1.handles)
    go e (inl q) = subst (λ (z : Session). IsStrictlySortedBy nat_cmp (keys_of z.handles)) (sym q) d
    go e (inr n) = o.handles e n

session_ordered : (s : Store) → Ordered s → (name : List ℕ) (session : Session) → session_at s name ≡ Some session → IsStrictlySortedBy nat_cmp (keys_of session.handles)
session_ordered s o name session h = let e = session_entry s name session h in subst (λ (z : Session). IsStrictlySortedBy nat_cmp (keys_of z.handles)) e.2 (o.handles e.0 e.1)

holding_all-ordered : (helds : List Held) (session : Session) → IsStrictlySortedBy nat_cmp (keys_of session.handles) → IsStrictlySortedBy nat_cmp (keys_of (holding_all helds session).handles)
holding_all-ordered [] session d = d
holding_all-ordered (held ∷ rest) session d = holding_all-ordered rest (holding held session) (insert-sorted nat_cmp nat_cmp_total session.handles session.next held d)

hold_ordered : (s : Store) → Ordered s → (name : List ℕ) (helds : List Held) → Ordered (hold_all s name helds)
hold_ordered s o name helds = go (session_at s name) refl
  where
    go : (found : Option Session) → session_at s name ≡ found → Ordered (put_session s name (option_map (holding_all helds) found))
    go None e = o
    go (Some session) e = put_ordered s o name (holding_all helds session) (holding_all-ordered helds session (session_ordered s o name session e))

block_ordered : (s : Store) → Ordered s → (a : Address) (block : Block) → Ordered (with_block s a block)
block_ordered s o a block = record { blocks = go (block_at s a); given = insert-sorted address_cmp address_total s.given a (epoch_at s a) o.given; sessions = o.sessions; handles = o.handles; roots = o.roots }
  where
    go : (found : Option StoredBlock) → IsStrictlySortedBy address_cmp (keys_of (blocks_with found s.blocks a block (epoch_at s a)))
    go None = insert-sorted address_cmp address_total s.blocks a (record { pointers = block.pointers; bytes = block.bytes; born = epoch_at s a }) o.blocks
    go (Some stored) = o.blocks

enter_ordered : (s : Store) → Ordered s → (shard : ℕ) → Ordered (enter s shard)
enter_ordered s o shard = record { blocks = o.blocks; given = o.given; sessions = o.sessions; handles = o.handles; roots = kept-rising _ s.roots o.roots }

sweep_ordered : (s : Store) → Ordered s → (shard : ℕ) → Ordered (sweep s shard)
sweep_ordered s o shard = record { blocks = filter-sorted address_cmp _ s.blocks o.blocks; given = filter-sorted address_cmp _ s.given o.given; sessions = o.sessions; handles = o.handles; roots = o.roots }

-- ---- operation by operation

open_ordered : (s : Store) → Ordered s → (name : List ℕ) → Ordered (with_sessions s (insert_entry text_cmp s.sessions name new_session))
open_ordered s o name = sessions_ordered s o (insert_entry text_cmp s.sessions name new_session) (insert-sorted text_cmp nat_list_cmp_total s.sessions name new_session o.sessions) (λ e m. go e (insert-value text_cmp s.sessions name new_session e m))
  where
    go : (e : List ℕ × Session) → (e.1 ≡ new_session) ⊎ Member e s.sessions → IsStrictlySortedBy nat_cmp (keys_of e.1.handles)
    go e (inl q) = subst (λ (z : Session). IsStrictlySortedBy nat_cmp (keys_of z.handles)) (sym q) (none-sorted nat_cmp)
    go e (inr n) = o.handles e n

close_ordered : (s : Store) → Ordered s → (name : List ℕ) → Ordered (with_sessions s (remove_entry (is_at (text_cmp name)) s.sessions))
close_ordered s o name = sessions_ordered s o (remove_entry (is_at (text_cmp name)) s.sessions) (remove-sorted text_cmp (is_at (text_cmp name)) s.sessions o.sessions) (λ e m. o.handles e (member_of_remove (is_at (text_cmp name)) s.sessions e m))

forget_ordered : (s : Store) → Ordered s → (name : List ℕ) (handle : ℕ) → Ordered (put_session s name (option_map (forgetting handle) (session_at s name)))
forget_ordered s o name handle = go (session_at s name) refl
  where
    go : (found : Option Session) → session_at s name ≡ found → Ordered (put_session s name (option_map (forgetting handle) found))
    go None e = o
    go (Some session) e = put_ordered s o name (forgetting handle session) (remove-sorted nat_cmp (is_at (nat_cmp handle)) session.handles (session_ordered s o name session e))

root_ordered : (s : Store) → Ordered s → (root : Root) (found : Option Root) → Ordered (with_roots s (roots_with found s.roots root))
root_ordered s o root None = roots_ordered s o (place_root root s.roots) (place-rising root s.roots o.roots)
root_ordered s o root (Some retained) = roots_ordered s o s.roots o.roots

drop_ordered : (s : Store) → Ordered s → (key : List ℕ) (epoch : ℕ) (found : Option Root) → Ordered (with_roots s (drop_root found s.roots key epoch))
drop_ordered s o key epoch None = roots_ordered s o s.roots o.roots
drop_ordered s o key epoch (Some root) = roots_ordered s o (place_root (record root { dropped = Some epoch }) (without_first (is_retained key) s.roots)) (place-rising (record root { dropped = Some epoch }) (without_first (is_retained key) s.roots) (without-rising (is_retained key) s.roots o.roots))

granted_ordered : (s : Store) → Ordered s → (o : Op) → Ordered (granted s o).store
unfolding granted
granted_ordered s o (op.Open name) = open_ordered s o name
granted_ordered s o (op.Close name) = close_ordered s o name
granted_ordered s o (op.Write name payload handles address) = hold_ordered (with_block s (given_address address) (written s name payload handles)) (block_ordered s o (given_address address) (written s name payload handles)) name (record { address = given_address address; epoch = epoch_at s (given_address address) } ∷ [])
granted_ordered s o (op.Read name handle) = hold_ordered s o name (helds_of (pointers_at s (held_or s name handle).address) (held_or s name handle).epoch)
granted_ordered s o (op.Look name key) = hold_ordered s o name (record { address = kept_address (retained_at s key); epoch = root_epoch s key } ∷ [])
granted_ordered s o (op.Root name key handle) = root_ordered s o _ (retained_at s key)
granted_ordered s o (op.Drop key) = drop_ordered s o key (root_epoch s key) (retained_at s key)
granted_ordered s o (op.Forget name handle) = forget_ordered s o name handle
granted_ordered s o (op.Name name handle) = o
granted_ordered s o op.Delete = enter_ordered s o 0
granted_ordered s o op.Stat = o

judge_ordered : (limits : Limits) (s : Store) → Ordered s → (o : Op) → Ordered (judge limits s o).store
unfolding judge
judge_ordered limits s h o = go (first (refusals limits s o))
  where
    go : (found : Option Reply) → Ordered (judged s o found).store
    go None = granted_ordered s h o
    go (Some refusal) = h

pub step_ordered : (limits : Limits) (s : Store) → Ordered s → (event : Event) → Ordered (step limits s event).store
step_ordered limits s h (asks o) = judge_ordered limits s h o
step_ordered limits s h (enters shard) = enter_ordered s h shard
step_ordered limits s h (sweeps shard) = sweep_ordered s h shard

pub run_ordered : (limits : Limits) (s : Store) → Ordered s → (events : List Event) → Ordered (run limits s events)
run_ordered limits s h [] = h
run_ordered limits s h (event ∷ events) = run_ordered limits (step limits s event).store (step_ordered limits s h event) events

-- ---- what ascends is distinct

less_apart : (k : Address) (ks : List Address) → AllByRecursion (λ y. address_cmp k y ≡ Less) ks → AllByRecursion (λ y. is_same k y ≡ false) ks
less_apart k [] h = tt
less_apart k (y ∷ ks) h = (compare k y Less h.0, less_apart k ks h.1)

pub distinct_from_sorted : (ks : List Address) → IsStrictlySortedBy address_cmp ks → IsDistinct is_same ks
distinct_from_sorted [] d = none-distinct
distinct_from_sorted (k ∷ ks) d = IsDistinct-cons is_same k ks (less_apart k ks (sorted_head address_cmp k ks d)) (distinct_from_sorted ks (sorted_tail address_cmp k ks d))
