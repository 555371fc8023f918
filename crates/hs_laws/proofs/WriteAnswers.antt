-- What each operation answers of a block: only a write is answered New, Dup or Collision, and where.
use Rattle.std.proofs.Common.{◌≡◌, ℕ, ◌⊎◌, inl, inr, List, [], ◌∷◌, Bool, true, false, not, Option, Some, None, is_none, refl, ap, ◌∙◌, subst, map, bytes_eq, nat_le}
use Rattle.std.proofs.lemmas.Bool.{and_parts, and_from}
use Rattle.std.proofs.lemmas.Slice.Eq.{bytes_eq-Decides, slice_eq-Decides}
use Rattle.std.specs.Cmp.Lexicographic.{pointwise}
use Rattle.std.specs.Bool.{Decides}
use Rattle.std.specs.BTreeMap.{is_at}
use Rattle.std.specs.Map.{lookup}
use Rattle.hs_limits.specs.Block.{Block}
use Rattle.hs_limits.specs.declared.address.Address.{Address}
use Rattle.hs_limits.specs.declared.address.Held.{Held}
use Rattle.hs_limits.specs.declared.limits.Limits.{Limits}
use Rattle.hs_model.specs.declared.op.Op.{Op}
use Rattle.hs_model.specs.declared.op.Op.TheVariants as op
use Rattle.hs_model.specs.declared.reply.Reply.{Reply}
use Rattle.hs_model.specs.declared.reply.Reply.TheVariants as reply
use Rattle.hs_model.specs.declared.store.StoredBlock.{StoredBlock}
use Rattle.hs_model.specs.Judge.{Judged, judge, judged, granted, refused, refusals, wrote, given_address, written}
use Rattle.hs_model.specs.Refusals.{refused_when, first, no_such_handle, no_handle_in, stale_handle, stale_in, is_block, collision, shard_full}
use Rattle.hs_model.specs.Store.{Store, Session, address_cmp, block_at, session_at, held_in, shard_at, blocks_in, blocks_with, with_block, epoch_at, next_of, put_session}
use Rattle.hs_model.proofs.JudgeLemmas.{judge_refused, judge_wrote}
use Rattle.hs_model.proofs.RefusalLemmas.{write_of_session, write_of_block}
use Rattle.hs_laws.specs.Written.{IsWrite, IsBlockAt, IsOtherAt, before_collision}
use Rattle.hs_laws.proofs.InsertLemmas.{lookup-insert_same}

-- ---- replies that other operations than writes give too

abbrev IsQuiet : Reply → Type 0
IsQuiet (reply.New handle epoch) = ⊥
IsQuiet (reply.Dup handle epoch) = ⊥
IsQuiet reply.Collision = ⊥
IsQuiet other = Unit {0}

abbrev IsQuietRefusal : Option Reply → Type 0
IsQuietRefusal None = Unit {0}
IsQuietRefusal (Some refusal) = IsQuiet refusal

abbrev AreQuiet : List (Option Reply) → Type 0
AreQuiet [] = Unit {0}
AreQuiet (refusal ∷ rest) = IsQuietRefusal refusal × AreQuiet rest

first_quiet : (rs : List (Option Reply)) → AreQuiet rs → IsQuietRefusal (first rs)
first_quiet [] h = tt
first_quiet (Some refusal ∷ rest) h = h.0
first_quiet (None ∷ rest) h = first_quiet rest h.1

when_quiet : (b : Bool) (r : Reply) → IsQuiet r → IsQuietRefusal (refused_when b r)
when_quiet true r h = h
when_quiet false r h = tt

map_quiet : (f : ℕ → Option Reply) (handles : List ℕ) → ((handle : ℕ) → IsQuietRefusal (f handle)) → AreQuiet (map f handles)
map_quiet f [] h = tt
map_quiet f (handle ∷ rest) h = (h handle, map_quiet f rest h)

stale_quiet : (now handle : ℕ) (held : Option Held) → IsQuietRefusal (stale_handle now handle held)
stale_quiet now handle None = tt
stale_quiet now handle (Some held) = when_quiet _ _ tt

no_handle_quiet : (session : Option Session) (handles : List ℕ) → IsQuietRefusal (no_handle_in session handles)
unfolding no_handle_in
no_handle_quiet session handles =
    let refusal : ℕ → Option Reply = λ handle. no_such_handle session handle in
    first_quiet (map refusal handles) (map_quiet refusal handles (λ handle. when_quiet (is_none (held_in session handle)) (reply.NoHandle handle) tt))

stale_ones_quiet : (session : Option Session) (now : ℕ) (handles : List ℕ) → IsQuietRefusal (stale_in session now handles)
unfolding stale_in
stale_ones_quiet session now handles =
    let refusal : ℕ → Option Reply = λ handle. stale_handle now handle (held_in session handle) in
    first_quiet (map refusal handles) (map_quiet refusal handles (λ handle. stale_quiet now handle (held_in session handle)))

-- an operation is a write, or it is answered so
abbrev IsWriteOrQuiet : Op → Reply → Type 0
IsWriteOrQuiet o r = IsWrite o ⊎ IsQuiet r

judged_quiet : (s : Store) (o : Op) (refusal : Option Reply) → IsQuietRefusal refusal → IsQuiet (granted s o).reply → IsQuiet (judged s o refusal).reply
judged_quiet s o (Some refusal) h g = h
judged_quiet s o None h g = g

judge_quiet : (limits : Limits) (s : Store) (o : Op) → AreQuiet (refusals limits s o) → IsQuiet (granted s o).reply → IsQuiet (judge limits s o).reply
unfolding judge
judge_quiet limits s o h g = judged_quiet s o (first (refusals limits s o)) (first_quiet (refusals limits s o) h) g

write_or_quiet : (limits : Limits) (s : Store) (o : Op) → IsWriteOrQuiet o (judge limits s o).reply
unfolding refusals granted
write_or_quiet limits s (op.Open name) = inr (judge_quiet limits s (op.Open name) (when_quiet _ _ tt, (when_quiet _ _ tt, tt)) tt)
write_or_quiet limits s (op.Close name) = inr (judge_quiet limits s (op.Close name) (when_quiet _ _ tt, tt) tt)
write_or_quiet limits s (op.Write name payload handles address) = inl (record { name = name; payload = payload; handles = handles; address = address; is = refl })
write_or_quiet limits s (op.Read name handle) =
    inr (judge_quiet limits s (op.Read name handle) (when_quiet _ _ tt, (no_handle_quiet (session_at s name) (handle ∷ []), (stale_ones_quiet (session_at s name) _ (handle ∷ []), (when_quiet _ _ tt, tt)))) tt)
write_or_quiet limits s (op.Look name key) = inr (judge_quiet limits s (op.Look name key) (when_quiet _ _ tt, (when_quiet _ _ tt, (when_quiet _ _ tt, tt))) tt)
write_or_quiet limits s (op.Root name key handle) =
    inr (judge_quiet limits s (op.Root name key handle) (when_quiet _ _ tt, (no_handle_quiet (session_at s name) (handle ∷ []), (stale_ones_quiet (session_at s name) _ (handle ∷ []), (when_quiet _ _ tt, (when_quiet _ _ tt, tt))))) tt)
write_or_quiet limits s (op.Drop key) = inr (judge_quiet limits s (op.Drop key) (when_quiet _ _ tt, tt) tt)
write_or_quiet limits s (op.Forget name handle) = inr (judge_quiet limits s (op.Forget name handle) (when_quiet _ _ tt, (no_handle_quiet (session_at s name) (handle ∷ []), tt)) tt)
write_or_quiet limits s (op.Name name handle) = inr (judge_quiet limits s (op.Name name handle) (when_quiet _ _ tt, (no_handle_quiet (session_at s name) (handle ∷ []), tt)) tt)
write_or_quiet limits s op.Delete = inr (judge_quiet limits s op.Delete (when_quiet _ _ tt, (when_quiet _ _ tt, tt)) tt)
write_or_quiet limits s op.Stat = inr (judge_quiet limits s op.Stat tt tt)

-- so what is answered like a write is one
write_from_loud : (o : Op) (r loud : Reply) → IsWriteOrQuiet o r → r ≡ loud → ¬ IsQuiet loud → IsWrite o
write_from_loud o r loud (inl w) e n = w
write_from_loud o r loud (inr q) e n = absurd (n (rw e at q))

pub dup_writes : (limits : Limits) (s : Store) (o : Op) (handle epoch : ℕ) → (judge limits s o).reply ≡ reply.Dup handle epoch → IsWrite o
dup_writes limits s o handle epoch e = write_from_loud o (judge limits s o).reply (reply.Dup handle epoch) (write_or_quiet limits s o) e (λ q. q)

pub new_writes : (limits : Limits) (s : Store) (o : Op) (handle epoch : ℕ) → (judge limits s o).reply ≡ reply.New handle epoch → IsWrite o
new_writes limits s o handle epoch e = write_from_loud o (judge limits s o).reply (reply.New handle epoch) (write_or_quiet limits s o) e (λ q. q)

pub collision_writes : (limits : Limits) (s : Store) (o : Op) → (judge limits s o).reply ≡ reply.Collision → IsWrite o
collision_writes limits s o e = write_from_loud o (judge limits s o).reply reply.Collision (write_or_quiet limits s o) e (λ q. q)

-- ---- whether a block is the one that is there

pointers_decide : (ps qs : List Address) → Decides (pointwise (λ p q. bytes_eq p.0 q.0) ps qs) (ps ≡ qs)
pointers_decide ps qs = slice_eq-Decides (λ p q. ((λ h i. record { 0 = (bytes_eq-Decides p.0 q.0).0 h i }), (λ e. (bytes_eq-Decides p.0 q.0).1 (ap (λ z. z.0) e)))) ps qs (pointwise (λ p q. bytes_eq p.0 q.0) ps qs) refl

block_is : (stored : StoredBlock) (block : Block) → is_block stored block ≡ true → (stored.bytes ≡ block.bytes) × (stored.pointers ≡ block.pointers)
block_is stored block e =
    let both = and_parts (pointwise (λ p q. bytes_eq p.0 q.0) stored.pointers block.pointers) (bytes_eq stored.bytes block.bytes) e in
    ((bytes_eq-Decides stored.bytes block.bytes).0 both.1, (pointers_decide stored.pointers block.pointers).0 both.0)

is_block_from : (stored : StoredBlock) (block : Block) → (stored.bytes ≡ block.bytes) × (stored.pointers ≡ block.pointers) → is_block stored block ≡ true
is_block_from stored block h = and_from (pointwise (λ p q. bytes_eq p.0 q.0) stored.pointers block.pointers) (bytes_eq stored.bytes block.bytes) ((pointers_decide stored.pointers block.pointers).1 h.1) ((bytes_eq-Decides stored.bytes block.bytes).1 h.0)

-- ---- what a write comes to

-- it is refused for another cause, or as a collision, or answers Dup, or answers New
data Comes (s : Store) (a : Address) (block : Block) (found : Judged) : Type 0 where
  quiet : IsQuiet found.reply → found.store ≡ s → Comes s a block found
  collides : (stored : StoredBlock) → block_at s a ≡ Some stored → is_block stored block ≡ false → found.reply ≡ reply.Collision → found.store ≡ s → Comes s a block found
  dup : (stored : StoredBlock) (handle epoch : ℕ) → block_at s a ≡ Some stored → is_block stored block ≡ true → found.reply ≡ reply.Dup handle epoch → found.store.blocks ≡ s.blocks → Comes s a block found
  new : (stored : StoredBlock) (handle epoch : ℕ) → block_at s a ≡ None → stored.bytes ≡ block.bytes → stored.pointers ≡ block.pointers → found.reply ≡ reply.New handle epoch → block_at found.store a ≡ Some stored → Comes s a block found

put-blocks : (s : Store) (name : List ℕ) (session : Option Session) → (put_session s name session).blocks ≡ s.blocks
put-blocks s name None = refl
put-blocks s name (Some session) = refl

same_found : (s : Store) (a : Address) (block : Block) (stored other : StoredBlock) → block_at s a ≡ Some stored → block_at s a ≡ Some other → is_block other block ≡ true → is_block stored block ≡ true
same_found s a block stored other h k f =
    let e : other ≡ stored = cc (h, k) in
    subst (λ z. is_block z block ≡ true) e f

no_block_from : (stored : StoredBlock) (block : Block) → ¬ ((stored.bytes ≡ block.bytes) × (stored.pointers ≡ block.pointers)) → (same : Bool) → is_block stored block ≡ same → same ≡ false
no_block_from stored block n true e = absurd (n (block_is stored block e))
no_block_from stored block n false e = refl

module _ (limits : Limits) (s : Store) (name payload handles : List ℕ) (address : Option Address) where
  abbrev a : Address
  a = given_address address

  abbrev block : Block
  block = written s name payload handles

  abbrev line : Op
  line = op.Write name payload handles address

  abbrev before : List (Option Reply)
  before = before_collision limits s name payload handles a

  abbrev of_it : List (Option Reply)
  of_it = collision s a block ∷ shard_full limits s a ∷ []

  before_quiet : AreQuiet before
  before_quiet = (when_quiet _ _ tt, (when_quiet _ _ tt, (when_quiet _ _ tt, (no_handle_quiet (session_at s name) handles, (when_quiet _ _ tt, (stale_ones_quiet (session_at s name) (epoch_at s a) handles, tt))))))

  -- ---- where it is granted

  abbrev added : StoredBlock
  added = record { pointers = block.pointers; bytes = block.bytes; born = epoch_at s a }

  is_wrote : first (refusals limits s line) ≡ None → judge limits s line ≡ wrote s name a block
  is_wrote e = judge_wrote limits s name payload handles address a block.pointers e refl refl

  wrote-blocks : (wrote s name a block).store.blocks ≡ blocks_with (block_at s a) s.blocks a block (epoch_at s a)
  wrote-blocks = put-blocks (with_block s a block) name _

  wrote_dup : (stored : StoredBlock) → block_at s a ≡ Some stored → is_block stored block ≡ true → Comes s a block (wrote s name a block)
  wrote_dup stored h t = dup stored (next_of (session_at s name)) (epoch_at s a) h t (rw h) (wrote-blocks ∙ rw h)

  wrote_new : block_at s a ≡ None → Comes s a block (wrote s name a block)
  wrote_new h = new added (next_of (session_at s name)) (epoch_at s a) h refl refl (rw h) (ap (λ bs. lookup (is_at (address_cmp a)) bs) wrote-blocks ∙ rw h (lookup-insert_same s.blocks a added))

  comes_granted : (found : Judged) → judge limits s line ≡ found → Comes s a block found → Comes s a block (judge limits s line)
  comes_granted found e c = rw e c

  -- ---- where it is refused

  comes_refused : (r : Reply) → first (refusals limits s line) ≡ Some r → Comes s a block (refused line s r) → Comes s a block (judge limits s line)
  comes_refused r e c = rw (judge_refused limits s line r e) c

  -- ---- where its session does not refuse it

  other_none : block_at s a ≡ None → first of_it ≡ first (shard_full limits s a ∷ [])
  other_none h = rw h

  full_none : block_at s a ≡ None → (full : Bool) → nat_le limits.blocks (blocks_in s (shard_at s a)) ≡ full → first of_it ≡ refused_when full (reply.ShardFull limits.blocks)
  full_none h true f = rw (h, f)
  full_none h false f = rw (h, f)

  other_some : (stored : StoredBlock) → block_at s a ≡ Some stored → (same : Bool) → is_block stored block ≡ same → first of_it ≡ refused_when (not same) reply.Collision
  other_some stored h true f = rw (h, f)
  other_some stored h false f = rw (h, f)

  comes_none : block_at s a ≡ None → first (refusals limits s line) ≡ first of_it → (full : Bool) → nat_le limits.blocks (blocks_in s (shard_at s a)) ≡ full → Comes s a block (judge limits s line)
  comes_none h e true f = comes_refused (reply.ShardFull limits.blocks) (e ∙ full_none h true f) (quiet tt refl)
  comes_none h e false f = comes_granted (wrote s name a block) (is_wrote (e ∙ full_none h false f)) (wrote_new h)

  comes_some : (stored : StoredBlock) → block_at s a ≡ Some stored → first (refusals limits s line) ≡ first of_it → (same : Bool) → is_block stored block ≡ same → Comes s a block (judge limits s line)
  comes_some stored h e true f = comes_granted (wrote s name a block) (is_wrote (e ∙ other_some stored h true f)) (wrote_dup stored h f)
  comes_some stored h e false f = comes_refused reply.Collision (e ∙ other_some stored h false f) (collides stored h f refl refl)

  comes_block : first (refusals limits s line) ≡ first of_it → (found : Option StoredBlock) → block_at s a ≡ found → Comes s a block (judge limits s line)
  comes_block e None h = comes_none h e (nat_le limits.blocks (blocks_in s (shard_at s a))) refl
  comes_block e (Some stored) h = comes_some stored h e (is_block stored block) refl

  comes : (earlier : Option Reply) → first before ≡ earlier → Comes s a block (judge limits s line)
  comes (Some r) e = comes_refused r (write_of_session limits s name payload handles address a r refl e) (quiet (rw e at (first_quiet before before_quiet)) refl)
  comes None e = comes_block (write_of_block limits s name payload handles address a block refl refl e) (block_at s a) refl

  -- ---- what each answer says

  dup-comes : (found : Judged) (handle epoch : ℕ) → Comes s a block found → found.reply ≡ reply.Dup handle epoch → IsBlockAt s a block × (found.store.blocks ≡ s.blocks)
  dup-comes found handle epoch (quiet q k) e = elim (rw e at q) [ ]
  dup-comes found handle epoch (collides stored h f r k) e = cc (r, e)
  dup-comes found handle epoch (dup stored n m h f r k) e = let i = block_is stored block f in (record { stored = stored; present = h; bytes = i.0; pointers = i.1 }, k)
  dup-comes found handle epoch (new stored n m h b p r k) e = cc (r, e)

  new-comes : (found : Judged) (handle epoch : ℕ) → Comes s a block found → found.reply ≡ reply.New handle epoch → (block_at s a ≡ None) × IsBlockAt found.store a block
  new-comes found handle epoch (quiet q k) e = elim (rw e at q) [ ]
  new-comes found handle epoch (collides stored h f r k) e = cc (r, e)
  new-comes found handle epoch (dup stored n m h f r k) e = cc (r, e)
  new-comes found handle epoch (new stored n m h b p r k) e = (h, record { stored = stored; present = k; bytes = b; pointers = p })

  collision-comes : (found : Judged) → Comes s a block found → found.reply ≡ reply.Collision → IsOtherAt s a block
  collision-comes found (quiet q k) e = elim (rw e at q) [ ]
  collision-comes found (collides stored h f r k) e = record { stored = stored; present = h; differs = λ d. let t = is_block_from stored block d in cc (f, t) }
  collision-comes found (dup stored n m h f r k) e = cc (r, e)
  collision-comes found (new stored n m h b p r k) e = cc (r, e)

  other-comes : (found : Judged) → Comes s a block found → IsOtherAt s a block → found.store ≡ s
  other-comes found (quiet q k) i = k
  other-comes found (collides stored h f r k) i = k
  other-comes found (dup stored n m h f r k) i = absurd (i.differs (block_is i.stored block (same_found s a block i.stored stored i.present h f)))
  other-comes found (new stored n m h b p r k) i = let p = i.present in cc (p, h)

  pub dup_there : (handle epoch : ℕ) → (judge limits s line).reply ≡ reply.Dup handle epoch → IsBlockAt s a block
  dup_there handle epoch e = (dup-comes (judge limits s line) handle epoch (comes (first before) refl) e).0

  pub dup_stays : (handle epoch : ℕ) → (judge limits s line).reply ≡ reply.Dup handle epoch → (judge limits s line).store.blocks ≡ s.blocks
  dup_stays handle epoch e = (dup-comes (judge limits s line) handle epoch (comes (first before) refl) e).1

  pub new_absent : (handle epoch : ℕ) → (judge limits s line).reply ≡ reply.New handle epoch → block_at s a ≡ None
  new_absent handle epoch e = (new-comes (judge limits s line) handle epoch (comes (first before) refl) e).0

  pub new_there : (handle epoch : ℕ) → (judge limits s line).reply ≡ reply.New handle epoch → IsBlockAt (judge limits s line).store a block
  new_there handle epoch e = (new-comes (judge limits s line) handle epoch (comes (first before) refl) e).1

  pub collision_stays : IsOtherAt s a block → (judge limits s line).store ≡ s
  collision_stays i = other-comes (judge limits s line) (comes (first before) refl) i

  pub collision_other : (judge limits s line).reply ≡ reply.Collision → IsOtherAt s a block
  collision_other e = collision-comes (judge limits s line) (comes (first before) refl) e

  pub before_tells : (refusal : Reply) → first before ≡ Some refusal → (judge limits s line).reply ≡ refusal
  before_tells refusal e = rw (judge_refused limits s line refusal (write_of_session limits s name payload handles address a refusal refl e))

  pub other_collides : IsOtherAt s a block → first before ≡ None → (judge limits s line).reply ≡ reply.Collision
  other_collides i e =
      let differs = no_block_from i.stored block i.differs (is_block i.stored block) refl in
      let refusal : first (refusals limits s line) ≡ Some reply.Collision = write_of_block limits s name payload handles address a block refl refl e ∙ other_some i.stored i.present false differs in
      rw (judge_refused limits s line reply.Collision refusal)
