-- A write is told that it was done only where its entry took effect, and no step but that of bytes proposes a Mark.
use Rattle.std.proofs.Common.{◌≡◌, ap, subst, ℕ, ◌+◌, ◌==◌, ◌&&◌, Bool, true, false, cond, not, List, [], Option, Some, None, refl, arith, slice_index}
use Rattle.std.proofs.lemmas.Bool.Decides.{nat_tests}
use Rattle.std.specs.Option.{option_map_or, option_or}
use Rattle.hs_answered.proofs.AnswerLemmas.{view_refusal_stops}
use Rattle.hs_desk.specs.declared.what.What.{What}
use Rattle.hs_entry.specs.declared.entry.Entry.{Entry}
use Rattle.hs_entry.specs.declared.entry.Entry.TheVariants as kind
use Rattle.hs_limits.specs.Block.{spell}
use Rattle.hs_limits.specs.declared.address.Address.{Address}
use Rattle.hs_model.specs.declared.op.Op.{Op}
use Rattle.hs_model.specs.declared.op.Op.TheVariants as op
use Rattle.hs_model.specs.declared.reply.Reply.{Reply}
use Rattle.hs_model.specs.declared.reply.Reply.TheVariants as reply
use Rattle.hs_model.specs.Judge.{given_address}
use Rattle.hs_ops.specs.Answers.{is_done}
use Rattle.hs_ops.specs.Going.{asked_for, at_once, begin, block_entry, compared, data_of, effect_reply, go, is_reported, is_same_block, judged_in, mark_entry, on_bytes, on_effect, propose_unless, read_or, read_reply, root_entry}
use Rattle.hs_ops.specs.Operations.{go_from}
use Rattle.hs_ops.specs.Refusals.{refusal_of}
use Rattle.hs_ops.specs.Speaking.{asked_block, helds, least_epoch}
use Rattle.hs_ops.specs.Views.{OpView}
use Rattle.hs_ops.specs.declared.operation.Stage.{Stage}
use Rattle.hs_ops.specs.declared.operation.Stage.TheVariants as stage
use Rattle.hs_ops.specs.declared.step.OpStep.{OpStep}
use Rattle.hs_ops.specs.declared.step.OpStep.TheVariants as step

answer_is : (r told : Reply) → step.Answer r ≡ step.Answer told → r ≡ told
answer_is r told e = cc e

-- ---- a write that is answered by what it sees

module _ (v : OpView) (line : ℕ) (session payload handles : List ℕ) (address : Option Address) (told : Reply) where
  refused_stops : (r : Reply) → refusal_of v (op.Write session payload handles address) ≡ Some r → step.Answer r ≡ step.Answer told → is_done told ≡ false
  refused_stops r f e = subst (λ q. is_done q ≡ false) (answer_is r told e) (view_refusal_stops v (op.Write session payload handles address) r f)

  go_stops : go v line (op.Write session payload handles address) ≡ step.Answer told → is_done told ≡ false
  unfolding go judged_in asked_for
  go_stops e = by_view v.viewed e
    where
      by_present : (pending : Bool) (present : Option ℕ) → read_or (propose_unless pending (block_entry v line session payload handles)) present ≡ step.Answer told → is_done told ≡ false
      by_present pending (Some number) f = absurd (cc f)
      by_present true None f = absurd (cc f)
      by_present false None f = absurd (cc f)

      by_refusal : (x : Option Reply) → refusal_of v (op.Write session payload handles address) ≡ x
          → option_map_or step.Answer (option_or x (at_once v (op.Write session payload handles address))) (asked_for v line (op.Write session payload handles address)) ≡ step.Answer told → is_done told ≡ false
      by_refusal None r f = by_present v.pending v.present f
      by_refusal (Some q) r f = refused_stops q r f

      by_view : (b : Bool) → cond b (option_map_or step.Answer (judged_in v (op.Write session payload handles address)) (asked_for v line (op.Write session payload handles address))) step.Wait ≡ step.Answer told → is_done told ≡ false
      by_view true f = by_refusal (refusal_of v (op.Write session payload handles address)) refl f
      by_view false f = absurd (cc f)

  begin_stops : begin v line (op.Write session payload handles address) ≡ step.Answer told → is_done told ≡ false
  unfolding begin judged_in
  begin_stops e = by_refusal (refusal_of v (op.Write session payload handles address)) refl e
    where
      by_refusal : (x : Option Reply) → refusal_of v (op.Write session payload handles address) ≡ x
          → option_map_or step.Answer (option_or x (at_once v (op.Write session payload handles address))) (go v line (op.Write session payload handles address)) ≡ step.Answer told → is_done told ≡ false
      by_refusal None r f = go_stops f
      by_refusal (Some q) r f = refused_stops q r f

  pub from_stops : (s : Stage) → go_from s v line (op.Write session payload handles address) ≡ step.Answer told → is_done told ≡ false
  from_stops stage.New e = begin_stops e
  from_stops stage.Waiting e = go_stops e
  from_stops (stage.Reading number) e = go_stops e
  from_stops stage.Logged e = go_stops e

  pub bytes_stops : (number : ℕ) (bytes : Option (List ℕ)) (pointers : List Address) → on_bytes v line (record { number = number; bytes = bytes; pointers = pointers }) (op.Write session payload handles address) ≡ step.Answer told → is_done told ≡ false
  unfolding on_bytes compared
  bytes_stops number bytes pointers e = by_refusal (refusal_of v (op.Write session payload handles address)) refl e
    where
      by_tests : (b c : Bool) → cond b (go v line (op.Write session payload handles address)) (cond c (step.Propose (mark_entry v line number session handles address)) (step.Answer reply.Collision)) ≡ step.Answer told → is_done told ≡ false
      by_tests true c f = go_stops f
      by_tests false true f = absurd (cc f)
      by_tests false false f = subst (λ q. is_done q ≡ false) (answer_is reply.Collision told f) refl

      by_refusal : (x : Option Reply) → refusal_of v (op.Write session payload handles address) ≡ x
          → option_map_or step.Answer x (compared v line (record { number = number; bytes = bytes; pointers = pointers }) (op.Write session payload handles address)) ≡ step.Answer told → is_done told ≡ false
      by_refusal None r f = by_tests (not (is_reported v number bytes)) (is_same_block (asked_block v.seats session payload handles) bytes pointers) f
      by_refusal (Some q) r f = refused_stops q r f

-- ---- which steps propose a Mark

propose_is : (a b : Entry) → step.Propose a ≡ step.Propose b → a ≡ b
propose_is a b e = cc e

mark_is : (l k since least number block : ℕ) (b a : Address) → kind.Mark l since number b ≡ kind.Mark k least block a → (k ≡ l) × (block ≡ number) × (a ≡ b)
mark_is l k since least number block b a e = (cc e, cc e, cc e)

-- a step proposes none
abbrev pub ProposesNoMark : OpStep → Type 0
ProposesNoMark taken = (k least block : ℕ) (a : Address) → taken ≡ step.Propose (kind.Mark k least block a) → ⊥

or_answered : (x : Option Reply) (other : OpStep) → ProposesNoMark other → ProposesNoMark (option_map_or step.Answer x other)
or_answered None other h = h
or_answered (Some r) other h = λ k least block a e. cc e

block_no_mark : (v : OpView) (line : ℕ) (session payload handles : List ℕ) (pending : Bool) (present : Option ℕ) → ProposesNoMark (read_or (propose_unless pending (block_entry v line session payload handles)) present)
unfolding block_entry
block_no_mark v line session payload handles pending (Some number) = λ k least block a e. cc e
block_no_mark v line session payload handles true None = λ k least block a e. cc e
block_no_mark v line session payload handles false None = λ k least block a e.
    let g : kind.Block line (least_epoch (helds v.seats session handles)) (spell (asked_block v.seats session payload handles)) ≡ kind.Mark k least block a = propose_is (block_entry v line session payload handles) (kind.Mark k least block a) e in
    cc g

read_no_mark : (told : Reply) (present : Option ℕ) → ProposesNoMark (read_or (step.Answer told) present)
read_no_mark told (Some number) = λ k least block a e. cc e
read_no_mark told None = λ k least block a e. cc e

root_no_mark : (v : OpView) (line : ℕ) (session key : List ℕ) (handle : ℕ) (pending : Bool) → ProposesNoMark (propose_unless pending (root_entry v line session key handle))
root_no_mark v line session key handle true = λ k least block a e. cc e
root_no_mark v line session key handle false = λ k least block a e. cc (propose_is (root_entry v line session key handle) (kind.Mark k least block a) e)

asked_no_mark : (v : OpView) (line : ℕ) (o : Op) → ProposesNoMark (asked_for v line o)
unfolding asked_for
asked_no_mark v line (op.Open session) = λ k least block a e. cc e
asked_no_mark v line (op.Close session) = λ k least block a e. cc e
asked_no_mark v line (op.Write session payload handles address) = block_no_mark v line session payload handles v.pending v.present
asked_no_mark v line (op.Read session handle) = read_no_mark (read_reply v session []) v.present
asked_no_mark v line (op.Look session key) = λ k least block a e. cc e
asked_no_mark v line (op.Root session key handle) = root_no_mark v line session key handle v.pending
asked_no_mark v line (op.Drop key) = λ k least block a e. cc (propose_is (kind.Drop line key) (kind.Mark k least block a) e)
asked_no_mark v line (op.Forget session handle) = λ k least block a e. cc e
asked_no_mark v line (op.Name session handle) = λ k least block a e. cc e
asked_no_mark v line op.Delete = λ k least block a e. cc (propose_is (kind.Enter line (slice_index v.epochs 0 + 1)) (kind.Mark k least block a) e)
asked_no_mark v line op.Stat = λ k least block a e. cc e

pub go_no_mark : (v : OpView) (line : ℕ) (o : Op) → ProposesNoMark (go v line o)
unfolding go
go_no_mark v line o = by_view v.viewed
  where
    by_view : (b : Bool) → ProposesNoMark (cond b (option_map_or step.Answer (judged_in v o) (asked_for v line o)) step.Wait)
    by_view true = or_answered (judged_in v o) (asked_for v line o) (asked_no_mark v line o)
    by_view false = λ k least block a e. cc e

pub begin_no_mark : (v : OpView) (line : ℕ) (o : Op) → ProposesNoMark (begin v line o)
unfolding begin
begin_no_mark v line o = or_answered (judged_in v o) (go v line o) (go_no_mark v line o)

pub from_no_mark : (v : OpView) (line : ℕ) (o : Op) (s : Stage) → ProposesNoMark (go_from s v line o)
from_no_mark v line o stage.New = begin_no_mark v line o
from_no_mark v line o stage.Waiting = go_no_mark v line o
from_no_mark v line o (stage.Reading number) = go_no_mark v line o
from_no_mark v line o stage.Logged = go_no_mark v line o

pub effect_no_mark : (v : OpView) (line : ℕ) (did : What) (o : Op) → ProposesNoMark (on_effect v line did o)
unfolding on_effect
effect_no_mark v line did o = or_answered (effect_reply v did o) (go v line o) (go_no_mark v line o)

-- ---- bytes

-- a write whose bytes compared as its block's
pub record HasCompared (v : OpView) (line number : ℕ) (bytes : Option (List ℕ)) (pointers : List Address) (session payload handles : List ℕ) (address : Option Address) (k block : ℕ) (a : Address) : Type 0 where
  pub of_line : k ≡ line
  pub of_number : block ≡ number
  pub at : a ≡ given_address address
  pub free : refusal_of v (op.Write session payload handles address) ≡ None
  pub reported : is_reported v number bytes ≡ true
  pub same : is_same_block (asked_block v.seats session payload handles) bytes pointers ≡ true

pub bytes_mark : (v : OpView) (line number : ℕ) (bytes : Option (List ℕ)) (pointers : List Address) (session payload handles : List ℕ) (address : Option Address) (k least block : ℕ) (a : Address)
    → on_bytes v line (record { number = number; bytes = bytes; pointers = pointers }) (op.Write session payload handles address) ≡ step.Propose (kind.Mark k least block a)
    → HasCompared v line number bytes pointers session payload handles address k block a
unfolding on_bytes compared mark_entry
bytes_mark v line number bytes pointers session payload handles address k least block a e = by_refusal (refusal_of v (op.Write session payload handles address)) refl e
  where
    by_tests : refusal_of v (op.Write session payload handles address) ≡ None → (b : Bool) → is_reported v number bytes ≡ b → (c : Bool) → is_same_block (asked_block v.seats session payload handles) bytes pointers ≡ c
        → cond (not b) (go v line (op.Write session payload handles address)) (cond c (step.Propose (mark_entry v line number session handles address)) (step.Answer reply.Collision)) ≡ step.Propose (kind.Mark k least block a)
        → HasCompared v line number bytes pointers session payload handles address k block a
    by_tests r false f c g h = absurd (go_no_mark v line (op.Write session payload handles address) k least block a h)
    by_tests r true f false g h = absurd (cc h)
    by_tests r true f true g h =
        let is = mark_is line k (least_epoch (helds v.seats session handles)) least number block (given_address address) a (propose_is (mark_entry v line number session handles address) (kind.Mark k least block a) h) in
        record { of_line = is.0; of_number = is.1; at = is.2; free = r; reported = f; same = g }

    by_refusal : (x : Option Reply) → refusal_of v (op.Write session payload handles address) ≡ x
        → option_map_or step.Answer x (compared v line (record { number = number; bytes = bytes; pointers = pointers }) (op.Write session payload handles address)) ≡ step.Propose (kind.Mark k least block a)
        → HasCompared v line number bytes pointers session payload handles address k block a
    by_refusal None r h = by_tests r (is_reported v number bytes) refl (is_same_block (asked_block v.seats session payload handles) bytes pointers) refl h
    by_refusal (Some q) r h = absurd (cc h)

-- whatever operation proposes it, a Mark is of its line
pub mark_line : (v : OpView) (line number : ℕ) (bytes : Option (List ℕ)) (pointers : List Address) (o : Op) (k least block : ℕ) (a : Address) → on_bytes v line (record { number = number; bytes = bytes; pointers = pointers }) o ≡ step.Propose (kind.Mark k least block a) → k ≡ line
unfolding on_bytes compared
mark_line v line number bytes pointers (op.Write session payload handles address) k least block a e = (bytes_mark v line number bytes pointers session payload handles address k least block a e).of_line
mark_line v line number bytes pointers (op.Read session handle) k least block a e =
    absurd (or_answered (refusal_of v (op.Read session handle)) (step.Answer (read_reply v session (data_of bytes))) (λ k least block a f. cc f) k least block a e)
mark_line v line number bytes pointers (op.Open session) k least block a e = absurd (or_answered (refusal_of v (op.Open session)) step.Wait (λ k least block a f. cc f) k least block a e)
mark_line v line number bytes pointers (op.Close session) k least block a e = absurd (or_answered (refusal_of v (op.Close session)) step.Wait (λ k least block a f. cc f) k least block a e)
mark_line v line number bytes pointers (op.Look session key) k least block a e = absurd (or_answered (refusal_of v (op.Look session key)) step.Wait (λ k least block a f. cc f) k least block a e)
mark_line v line number bytes pointers (op.Root session key handle) k least block a e = absurd (or_answered (refusal_of v (op.Root session key handle)) step.Wait (λ k least block a f. cc f) k least block a e)
mark_line v line number bytes pointers (op.Drop key) k least block a e = absurd (or_answered (refusal_of v (op.Drop key)) step.Wait (λ k least block a f. cc f) k least block a e)
mark_line v line number bytes pointers (op.Forget session handle) k least block a e = absurd (or_answered (refusal_of v (op.Forget session handle)) step.Wait (λ k least block a f. cc f) k least block a e)
mark_line v line number bytes pointers (op.Name session handle) k least block a e = absurd (or_answered (refusal_of v (op.Name session handle)) step.Wait (λ k least block a f. cc f) k least block a e)
mark_line v line number bytes pointers op.Delete k least block a e = absurd (or_answered (refusal_of v op.Delete) step.Wait (λ k least block a f. cc f) k least block a e)
mark_line v line number bytes pointers op.Stat k least block a e = absurd (or_answered (refusal_of v op.Stat) step.Wait (λ k least block a f. cc f) k least block a e)

-- the wanted entry's block is the one that is present
pub reported_number : (present : Option ℕ) (number : ℕ) (told : Bool) → (option_map_or (λ k. k == number) present false && told) ≡ true → present ≡ Some number
reported_number None number told e = absurd (cc e)
reported_number (Some k) number told e =
    let t : (k == number) ≡ true = first_true (k == number) told e in
    let same : k ≡ number = grind (arith, nat_tests, t) in
    ap (λ n. Some n) same
  where
    first_true : (a b : Bool) → (a && b) ≡ true → a ≡ true
    first_true true b f = refl
    first_true false b f = absurd (cc f)
