-- The addresses of present blocks stay distinct.
use Rattle.std.proofs.Common.{◌≡◌, ℕ, List, [], ◌∷◌, Bool, true, false, Option, Some, None, refl, sym, subst, Ordering, Less, Equal, Greater}
use Rattle.std.proofs.lemmas.Map.Keys.{IsDistinct-tail, IsDistinct-head, IsDistinct-cons}
use Rattle.std.proofs.lemmas.Map.Made.{IsDistinct-keys_filter}
use Rattle.std.specs.BTreeMap.{is_at, insert_entry}
use Rattle.std.specs.List.{IsDistinct, AllByRecursion}
use Rattle.std.specs.Map.{lookup, keys_of}
use Rattle.std.specs.Ordering.{match_ordering}
use Rattle.hs_limits.specs.Block.{Block}
use Rattle.hs_limits.specs.declared.address.Address.{Address}
use Rattle.hs_limits.specs.declared.limits.Limits.{Limits}
use Rattle.hs_model.specs.declared.op.Op.{Op}
use Rattle.hs_model.specs.declared.op.Op.TheVariants as op
use Rattle.hs_model.specs.declared.reply.Reply.{Reply}
use Rattle.hs_model.specs.declared.store.StoredBlock.{StoredBlock}
use Rattle.hs_model.specs.Judge.{judge, judged, refusals, granted, given_address, written}
use Rattle.hs_model.specs.Reach.{is_same}
use Rattle.hs_model.specs.Refusals.{first}
use Rattle.hs_model.specs.Run.{Event, asks, enters, sweeps, step, run}
use Rattle.hs_model.specs.Store.{Store, Session, address_cmp, block_at, epoch_at, blocks_with, with_block, put_session}
use Rattle.hs_model.proofs.Members.{same-refl, same_from, at_is_same}

same-flips : (a b : Address) → is_same a b ≡ false → is_same b a ≡ false
same-flips a b f = go (is_same b a) refl
  where
    go : (c : Bool) → is_same b a ≡ c → is_same b a ≡ false
    go true e = let t : is_same a b ≡ true = subst (λ z. is_same z b ≡ true) (same_from b a e) (same-refl b) in cc (t, f)
    go false e = e

-- an address that is not found is apart from all keys
apart_from_none : (es : List (Address × StoredBlock)) (k : Address) → lookup (is_at (address_cmp k)) es ≡ None → AllByRecursion (λ y. is_same k y ≡ false) (keys_of es)
apart_from_none [] k h = tt
apart_from_none (e ∷ es) k h = go (apart_from_none es k) (is_same k e.0) refl
  where
    go : (lookup (is_at (address_cmp k)) es ≡ None → AllByRecursion (λ y. is_same k y ≡ false) (keys_of es)) → (b : Bool) → is_same k e.0 ≡ b → AllByRecursion (λ y. is_same k y ≡ false) (keys_of (e ∷ es))
    go ih true t = let h : Some e.1 ≡ None = rw (at_is_same k e.0, t) at h in cc h
    go ih false t = (t, ih (rw (at_is_same k e.0, t) at h))

-- a key that is apart from another and from all is apart from all with the other
insert-apart : (x : Address) (es : List (Address × StoredBlock)) (k : Address) (v : StoredBlock) → is_same x k ≡ false → AllByRecursion (λ y. is_same x y ≡ false) (keys_of es) → AllByRecursion (λ y. is_same x y ≡ false) (keys_of (insert_entry address_cmp es k v))
insert-apart x [] k v f h = (f, tt)
insert-apart x (e ∷ es) k v f h = go (insert-apart x es k v f h.1) (address_cmp k e.0)
  where
    go : AllByRecursion (λ y. is_same x y ≡ false) (keys_of (insert_entry address_cmp es k v)) → (o : Ordering) → AllByRecursion (λ y. is_same x y ≡ false) (keys_of (match_ordering o ((k, v) ∷ e ∷ es) ((e.0, v) ∷ es) (e ∷ insert_entry address_cmp es k v)))
    go ih Less = (f, h)
    go ih Equal = h
    go ih Greater = (h.0, ih)

insert-distinct : (es : List (Address × StoredBlock)) (k : Address) (v : StoredBlock) → AllByRecursion (λ y. is_same k y ≡ false) (keys_of es) → IsDistinct is_same (keys_of es) → IsDistinct is_same (keys_of (insert_entry address_cmp es k v))
insert-distinct [] k v h d = IsDistinct-cons is_same k [] tt d
insert-distinct (e ∷ es) k v h d = go (insert-distinct es k v h.1 (IsDistinct-tail is_same e.0 (keys_of es) d)) (address_cmp k e.0)
  where
    go : IsDistinct is_same (keys_of (insert_entry address_cmp es k v)) → (o : Ordering) → IsDistinct is_same (keys_of (match_ordering o ((k, v) ∷ e ∷ es) ((e.0, v) ∷ es) (e ∷ insert_entry address_cmp es k v)))
    go ih Less = IsDistinct-cons is_same k (keys_of (e ∷ es)) h d
    go ih Equal = d
    go ih Greater = IsDistinct-cons is_same e.0 (keys_of (insert_entry address_cmp es k v)) (insert-apart e.0 es k v (same-flips k e.0 h.0) (IsDistinct-head is_same e.0 (keys_of es) d)) ih

with_block-distinct : (s : Store) (a : Address) (block : Block) → IsDistinct is_same (keys_of s.blocks) → IsDistinct is_same (keys_of (with_block s a block).blocks)
with_block-distinct s a block d = go (block_at s a) refl
  where
    go : (found : Option StoredBlock) → block_at s a ≡ found → IsDistinct is_same (keys_of (blocks_with found s.blocks a block (epoch_at s a)))
    go None e = insert-distinct s.blocks a (record { pointers = block.pointers; bytes = block.bytes; born = epoch_at s a }) (apart_from_none s.blocks a e) d
    go (Some stored) e = d

-- sessions have no part in it
pub put-blocks : (s : Store) (name : List ℕ) (session : Option Session) → (put_session s name session).blocks ≡ s.blocks
put-blocks s name None = refl
put-blocks s name (Some session) = refl

hold-distinct : (s : Store) (name : List ℕ) (session : Option Session) → IsDistinct is_same (keys_of s.blocks) → IsDistinct is_same (keys_of (put_session s name session).blocks)
hold-distinct s name session d = subst (λ z. IsDistinct is_same (keys_of z)) (sym (put-blocks s name session)) d

granted-distinct : (s : Store) (o : Op) → IsDistinct is_same (keys_of s.blocks) → IsDistinct is_same (keys_of (granted s o).store.blocks)
unfolding granted
granted-distinct s (op.Open name) d = d
granted-distinct s (op.Close name) d = d
granted-distinct s (op.Write name payload handles address) d = hold-distinct (with_block s (given_address address) (written s name payload handles)) name _ (with_block-distinct s (given_address address) (written s name payload handles) d)
granted-distinct s (op.Read name handle) d = hold-distinct s name _ d
granted-distinct s (op.Look name key) d = hold-distinct s name _ d
granted-distinct s (op.Root name key handle) d = d
granted-distinct s (op.Drop key) d = d
granted-distinct s (op.Forget name handle) d = hold-distinct s name _ d
granted-distinct s (op.Name name handle) d = d
granted-distinct s op.Delete d = d
granted-distinct s op.Stat d = d

judge-distinct : (limits : Limits) (s : Store) (o : Op) → IsDistinct is_same (keys_of s.blocks) → IsDistinct is_same (keys_of (judge limits s o).store.blocks)
unfolding judge
judge-distinct limits s o d = go (first (refusals limits s o))
  where
    go : (found : Option Reply) → IsDistinct is_same (keys_of (judged s o found).store.blocks)
    go None = granted-distinct s o d
    go (Some refusal) = d

pub step-distinct : (limits : Limits) (s : Store) (event : Event) → IsDistinct is_same (keys_of s.blocks) → IsDistinct is_same (keys_of (step limits s event).store.blocks)
step-distinct limits s (asks o) d = judge-distinct limits s o d
step-distinct limits s (enters shard) d = d
step-distinct limits s (sweeps shard) d = IsDistinct-keys_filter is_same _ s.blocks d

pub run-distinct : (limits : Limits) (s : Store) (events : List Event) → IsDistinct is_same (keys_of s.blocks) → IsDistinct is_same (keys_of (run limits s events).blocks)
run-distinct limits s [] d = d
run-distinct limits s (event ∷ events) d = run-distinct limits (step limits s event).store events (step-distinct limits s event d)

pub none-distinct : IsDistinct is_same []
unfolding IsDistinct
none-distinct = tt
