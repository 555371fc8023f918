-- What an entry's effect and reported bytes answer.
use Rattle.std.proofs.Common.{◌≡◌, ◌+◌, ℕ, Bool, true, false, List, Option, Some, None, is_some, not, refl, sym, ap, ◌∙◌}
use Rattle.std.specs.List.{range_with_len}
use Rattle.std.specs.Prelude.{slice_index}
use Rattle.hs_desk.specs.declared.what.What.TheVariants as what
use Rattle.hs_limits.specs.Block.{Block}
use Rattle.hs_limits.specs.declared.address.Address.{Address}
use Rattle.hs_limits.specs.declared.limits.Limits.{Limits}
use Rattle.hs_model.specs.Judge.{address_of, bytes_of, given_address, granted, judge, written, written_reply}
use Rattle.hs_model.specs.Refusals.{collision, is_block, is_other, refused_when}
use Rattle.hs_model.specs.Store.{Session, Store, block_at, epoch_at, next_of, session_at}
use Rattle.hs_model.specs.declared.op.Op.TheVariants as op
use Rattle.hs_model.specs.declared.reply.Reply.{Reply}
use Rattle.hs_model.specs.declared.reply.Reply.TheVariants as reply
use Rattle.hs_model.specs.declared.store.StoredBlock.{StoredBlock}
use Rattle.hs_ops.specs.Going.{effect_reply, read_reply}
use Rattle.hs_ops.specs.Refusals.{refusal_of}
use Rattle.hs_ops.specs.Views.{OpView, now_in, open_in}
use Rattle.hs_shown.proofs.AnswerLemmas.{judge_granted, judge_refused}
use Rattle.hs_shown.proofs.RowLemmas.{delete_refusal, drop_refusal, read_refusal, root_refusal, write_taken}
use Rattle.hs_shown.proofs.ShownLemmas.{session_is, write_now}
use Rattle.hs_shown.specs.Showing.{Shows}

-- ---- writes

no_collision : (block : Option StoredBlock) (asked : Block) → block ≡ None → refused_when (is_other block asked) reply.Collision ≡ None
no_collision block asked e = ap (λ (b : Option StoredBlock). refused_when (is_other b asked) reply.Collision) e

same_block : (block : Option StoredBlock) (stored : StoredBlock) (asked : Block) (same : Bool) → block ≡ Some stored → is_block stored asked ≡ same → refused_when (is_other block asked) reply.Collision ≡ refused_when (not same) reply.Collision
same_block block stored asked same e f =
    ap (λ (b : Option StoredBlock). refused_when (is_other b asked) reply.Collision) e ∙ ap (λ (b : Bool). refused_when (not b) reply.Collision) f

write_reply : (limits : Limits) (s : Store) (v : OpView) (name payload handles : List ℕ) (address : Option Address) (dup : Bool)
    → Shows limits s (op.Write name payload handles address) v → refusal_of v (op.Write name payload handles address) ≡ None
    → collision s (given_address address) (written s name payload handles) ≡ None → is_some (block_at s (given_address address)) ≡ dup
    → Some (written_reply dup (next_of (open_in v name)) (now_in v)) ≡ Some (judge limits s (op.Write name payload handles address)).reply
unfolding granted
write_reply limits s v name payload handles address dup shows n c d =
    ap (λ (told : Reply). Some told) (sym (
    judge_granted limits s _ (write_taken limits s v name payload handles address shows n ∙ c)
    ∙ ap (λ (b : Bool). written_reply b (next_of (session_at s name)) (epoch_at s (given_address address))) d
    ∙ ap (λ (session : Option Session). written_reply dup (next_of session) (epoch_at s (given_address address))) (session_is limits s _ v shows name)
    ∙ ap (λ (now : ℕ). written_reply dup (next_of (open_in v name)) now) (write_now limits s v name payload handles address shows)))

pub stored : (limits : Limits) (s : Store) (v : OpView) (name payload handles : List ℕ) (address : Option Address)
    → Shows limits s (op.Write name payload handles address) v → refusal_of v (op.Write name payload handles address) ≡ None
    → block_at s (given_address address) ≡ None
    → effect_reply v what.Stored (op.Write name payload handles address) ≡ Some (judge limits s (op.Write name payload handles address)).reply
stored limits s v name payload handles address shows n absent =
    write_reply limits s v name payload handles address false shows n
    (no_collision (block_at s (given_address address)) (written s name payload handles) absent) (ap (λ (b : Option StoredBlock). is_some b) absent)

pub marked : (limits : Limits) (s : Store) (v : OpView) (name payload handles : List ℕ) (address : Option Address) (block : StoredBlock)
    → Shows limits s (op.Write name payload handles address) v → refusal_of v (op.Write name payload handles address) ≡ None
    → block_at s (given_address address) ≡ Some block → is_block block (written s name payload handles) ≡ true
    → effect_reply v what.Marked (op.Write name payload handles address) ≡ Some (judge limits s (op.Write name payload handles address)).reply
marked limits s v name payload handles address block shows n present same =
    write_reply limits s v name payload handles address true shows n
    (same_block (block_at s (given_address address)) block (written s name payload handles) true present same) (ap (λ (b : Option StoredBlock). is_some b) present)

pub collides : (limits : Limits) (s : Store) (v : OpView) (name payload handles : List ℕ) (address : Option Address) (block : StoredBlock)
    → Shows limits s (op.Write name payload handles address) v → refusal_of v (op.Write name payload handles address) ≡ None
    → block_at s (given_address address) ≡ Some block → is_block block (written s name payload handles) ≡ false
    → (judge limits s (op.Write name payload handles address)).reply ≡ reply.Collision
collides limits s v name payload handles address block shows n present other =
    judge_refused limits s _ reply.Collision (write_taken limits s v name payload handles address shows n
    ∙ same_block (block_at s (given_address address)) block (written s name payload handles) false present other)

-- ---- reads

pub read_is : (limits : Limits) (s : Store) (v : OpView) (name : List ℕ) (handle : ℕ)
    → Shows limits s (op.Read name handle) v → refusal_of v (op.Read name handle) ≡ None
    → read_reply v name (bytes_of (block_at s (address_of s name handle))) ≡ (judge limits s (op.Read name handle)).reply
unfolding granted
read_is limits s v name handle shows n =
    let bytes : List ℕ = bytes_of (block_at s (address_of s name handle)) in
    sym (judge_granted limits s _ (read_refusal limits s v name handle shows ∙ n)
    ∙ ap (λ (more : ℕ). reply.Bytes bytes (range_with_len (next_of (session_at s name)) more)) (sym (shows.pointers (address_of s name handle) refl))
    ∙ ap (λ (session : Option Session). reply.Bytes bytes (range_with_len (next_of session) v.pointers)) (session_is limits s _ v shows name))

-- ---- roots and deletion runs

pub rooted : (limits : Limits) (s : Store) (v : OpView) (name key : List ℕ) (handle : ℕ)
    → Shows limits s (op.Root name key handle) v → refusal_of v (op.Root name key handle) ≡ None
    → effect_reply v what.Rooted (op.Root name key handle) ≡ Some (judge limits s (op.Root name key handle)).reply
unfolding granted
rooted limits s v name key handle shows n = ap (λ (told : Reply). Some told) (sym (judge_granted limits s _ (root_refusal limits s v name key handle shows ∙ n)))

pub dropped : (limits : Limits) (s : Store) (v : OpView) (key : List ℕ)
    → Shows limits s (op.Drop key) v → refusal_of v (op.Drop key) ≡ None
    → effect_reply v what.Dropped (op.Drop key) ≡ Some (judge limits s (op.Drop key)).reply
unfolding granted
dropped limits s v key shows n = ap (λ (told : Reply). Some told) (sym (judge_granted limits s _ (drop_refusal limits s v key shows ∙ n)))

pub entered : (limits : Limits) (s : Store) (v : OpView)
    → Shows limits s op.Delete v → refusal_of v op.Delete ≡ None
    → effect_reply v (what.Entered (slice_index s.epochs 0 + 1)) op.Delete ≡ Some (judge limits s op.Delete).reply
unfolding granted
entered limits s v shows n = ap (λ (told : Reply). Some told) (sym (judge_granted limits s _ (delete_refusal limits s v shows ∙ n)))
