-- Each single change of a core leaves its sessions and its shards addresses of 32 bytes.
use Rattle.std.proofs.Common.{◌≡◌, ◌∙◌, sym, ap, subst, inl, inr, ℕ, ◌+◌, ◌≤◌, ◌==◌, Bool, true, false, cond, List, Option, Some, None, Ok, refl, arith, is_some, slice_get}
use Rattle.std.proofs.lemmas.Bool.{false≢true}
use Rattle.std.proofs.lemmas.Bool.Decides.{nat_tests}
use Rattle.std.specs.List.{AllByRecursion}
use Rattle.hs_standing.specs.Changes.{IsBeside, told_at_once, tells_at_once}
use Rattle.hs_awaiting.specs.declared.wait.Wait.TheVariants as wait
use Rattle.hs_awaiting.specs.declared.waiting.Waiting.{Waiting}
use Rattle.hs_awaiting.specs.Words.{change_if, change_with}
use Rattle.hs_core_words.specs.Asking.{send_round}
use Rattle.hs_core_words.specs.Changing.{add_entry_tasks, add_operation, change_group, change_pool, note, post, put_operation, refuse}
use Rattle.hs_core_words.specs.Effects.{note_enter, note_sweep, round_messages, tell_enter, tell_operation}
use Rattle.hs_core_words.specs.Looking.{catalogue_of, front_of, group_of, lead_of, operation_of, shape_of}
use Rattle.hs_core_words.specs.Operating.{add_read, answer, begin_line, busy_line, carry_out, go_on_with, propose_entry, resume, take_step, wait_for}
use Rattle.hs_core_words.specs.Pending.{named}
use Rattle.hs_core_words.specs.Seeing.{pointers_for, view_for}
use Rattle.hs_core_words.specs.State.{Core}
use Rattle.hs_desk.specs.declared.what.What.{What}
use Rattle.hs_desk.specs.declared.what.What.TheVariants as what
use Rattle.hs_effects.specs.Logged.{HasAsked, HasBlock, IsCalled, IsEntryOf, IsNewLine, IsOrderly, IsOwn, asked_by}
use Rattle.hs_effects.specs.Taking.{done_by, taken}
use Rattle.hs_effects.proofs.EffectLemmas.{committed_named}
use Rattle.hs_effects.proofs.FreeLemmas.{are_addressed, is_bounded, own_block}
use Rattle.hs_effects.proofs.GroupLemmas.{committed_first}
use Rattle.hs_entry.specs.declared.entry.Entry.{Entry}
use Rattle.hs_entry.specs.declared.entry.Entry.TheVariants as kind
use Rattle.hs_standing.specs.Held.{AreAddressed, GivesAddresses, Has32Bytes, KeepsAddresses, StandForAddresses}
use Rattle.hs_standing.proofs.AllLemmas.{all_set, some_is}
use Rattle.hs_standing.proofs.AnswerLemmas.{bytes_stops, from_stops}
use Rattle.hs_standing.proofs.CatalogueLemmas.{Brings, applied_keeps}
use Rattle.hs_standing.proofs.GainLemmas.{IsGivenWhole, gained_whole, name_whole, pointers_whole, shard_keeps}
use Rattle.hs_standing.proofs.HandleLemmas.{after_stands, asked_whole, hold_addresses}
use Rattle.hs_journal.specs.declared.entry.Who.TheVariants as who
use Rattle.hs_limits.specs.Block.{Block, spell}
use Rattle.hs_limits.specs.Reading.{read_block}
use Rattle.hs_limits.proofs.FieldLemmas.{ok_is}
use Rattle.hs_limits.proofs.ReadingLemmas.{read_again}
use Rattle.hs_limits.specs.declared.address.Address.{Address}
use Rattle.hs_limits.specs.declared.limits.Limits.{Limits}
use Rattle.hs_limits.specs.declared.spelling.SpellingFault.{SpellingFault}
use Rattle.hs_model.specs.declared.deed.Deed.TheVariants as deed
use Rattle.hs_model.specs.declared.op.Op.{Op}
use Rattle.hs_model.specs.declared.op.Op.TheVariants as op
use Rattle.hs_model.specs.declared.reply.Reply.{Reply}
use Rattle.hs_model.specs.declared.reply.Reply.TheVariants as reply
use Rattle.hs_ops.specs.Answers.{gained, is_done}
use Rattle.hs_ops.specs.declared.step.OpStep.{OpStep}
use Rattle.hs_ops.specs.declared.step.OpStep.TheVariants as step
use Rattle.hs_ops.specs.Going.{on_bytes}
use Rattle.hs_ops.specs.Operations.{Operation, after_step, bytes_step, effect_step, go_from, go_step, new_operation, wanted_number}
use Rattle.hs_ops.specs.Speaking.{asked_block, judging_shard}
use Rattle.hs_ops.specs.Views.{OpView}
use Rattle.hs_post.specs.Pool.{Pool}
use Rattle.hs_replica.specs.Group.{committed, last_number, proposal, propose}
use Rattle.hs_rounds.specs.Rounds.{sent_back}
use Rattle.hs_shard.specs.Apply.{named_as}
use Rattle.hs_shard.specs.declared.effect.Effect.{Effect}
use Rattle.hs_shard.specs.Facts.{Catalogue}
use Rattle.hs_shard.specs.Rounds.{messages}
use Rattle.hs_tokens.specs.Seats.{Seats}

-- ---- the same sessions and catalogues

pub record Same (a b : Core) : Type 0 where
  pub sessions : b.sessions ≡ a.sessions
  pub catalogues : b.catalogues ≡ a.catalogues

pub same_held : (a b : Core) → Same a b → AreAddressed a → AreAddressed b
same_held a b s its = record {
  sessions = subst (λ (seats : Seats). StandForAddresses seats) (sym s.sessions) its.sessions;
  catalogues = subst (λ (cs : List Catalogue). AllByRecursion KeepsAddresses cs) (sym s.catalogues) its.catalogues;
}

proposed_same : (shard : ℕ) (entry : Entry) (c : Core) → Same c (propose_entry shard entry c)
proposed_same shard entry c = go (lead_of shard c)
  where
    sent : Core
    sent = post (proposal entry (group_of shard c)) (change_group shard (propose entry) c)

    go : (lead : Option ℕ) → Same c (change_with lead (λ peer. add_entry_tasks peer (last_number (group_of shard c) + 1) entry) sent)
    go None = record { sessions = refl; catalogues = refl }
    go (Some peer) = record { sessions = refl; catalogues = refl }

pub proposed_held : (shard : ℕ) (entry : Entry) (c : Core) → AreAddressed c → AreAddressed (propose_entry shard entry c)
proposed_held shard entry c its = same_held c (propose_entry shard entry c) (proposed_same shard entry c) its

read_same : (number line : ℕ) (lead : Option ℕ) (x : Core) → Same x (change_with lead (add_read number line) x)
read_same number line None x = record { sessions = refl; catalogues = refl }
read_same number line (Some peer) x = record { sessions = refl; catalogues = refl }

sweep_same : (shard removed : ℕ) (c : Core) → Same c (note_sweep shard removed c)
sweep_same shard removed c = go _
  where
    go : (b : Bool) → Same c (change_if b (note who.Store deed.Nothing (reply.Done (catalogue_of shard c).swept)) (note (who.Shard shard) (deed.Swept shard) (reply.Sweep (catalogue_of shard c).swept removed) c))
    go true = record { sessions = refl; catalogues = refl }
    go false = record { sessions = refl; catalogues = refl }

swept_same : (shard : ℕ) (removed : Option ℕ) (c : Core) → Same c (change_with removed (note_sweep shard) c)
swept_same shard None c = record { sessions = refl; catalogues = refl }
swept_same shard (Some n) c = sweep_same shard n c

enter_same : (shard : ℕ) (did : What) (c : Core) → Same c (note_enter shard did c)
enter_same shard what.Nothing c = record { sessions = refl; catalogues = refl }
enter_same shard (what.Viewed view) c = record { sessions = refl; catalogues = refl }
enter_same shard what.Stored c = record { sessions = refl; catalogues = refl }
enter_same shard what.Marked c = record { sessions = refl; catalogues = refl }
enter_same shard what.Again c = record { sessions = refl; catalogues = refl }
enter_same shard what.Rooted c = record { sessions = refl; catalogues = refl }
enter_same shard what.Dropped c = record { sessions = refl; catalogues = refl }
enter_same shard (what.Entered epoch) c = record { sessions = refl; catalogues = refl }
enter_same shard what.Refused c = record { sessions = refl; catalogues = refl }

-- ---- one step

-- a write that a step answers as done has a block
abbrev pub AnswersBlocks : Core → Op → OpStep → Type 0
AnswersBlocks c o taken =
    (session payload handles : List ℕ) (address : Option Address) (told : Reply) → o ≡ op.Write session payload handles address → taken ≡ step.Answer told → is_done told ≡ true → HasBlock c.sessions session payload handles

module _ (name : List ℕ → Address) (names : GivesAddresses name) (line : ℕ) (c : Core) (its : AreAddressed c) where
  given_whole : (o : Op) (told : Reply) → IsCalled name c.sessions o → AnswersBlocks c o (step.Answer told) → is_done told ≡ true → IsGivenWhole o
  given_whole o told called blocks done session payload handles address is =
      name_whole name names (spell (asked_block c.sessions session payload handles)) address
      (subst (λ (x : Op). IsCalled name c.sessions x) is called (blocks session payload handles address told is refl done))

  answered_held : (w : Waiting) (told : Reply) → IsCalled name c.sessions w.operation.op → AnswersBlocks c w.operation.op (step.Answer told) → AreAddressed (answer line w told c)
  answered_held w told called blocks = record {
    sessions = after_stands (gained (view_for w.shard w.operation.op c) (pointers_for w.shard w.operation.op c) w.operation.op) w.operation.op told c.sessions
        (λ done. gained_whole (view_for w.shard w.operation.op c) (pointers_for w.shard w.operation.op c) w.operation.op (pointers_whole w.shard w.operation.op c its) (shard_keeps c w.shard its).roots
        (given_whole w.operation.op told called blocks done)) its.sessions;
    catalogues = its.catalogues;
  }

  waits_held : (w : Waiting) → AreAddressed (put_operation line w c)
  waits_held w = record { sessions = its.sessions; catalogues = its.catalogues }

  carried_held : (w : Waiting) (taken : OpStep) → IsCalled name c.sessions w.operation.op → AnswersBlocks c w.operation.op taken → AreAddressed (carry_out line w taken c)
  carried_held w (step.Answer told) called blocks = answered_held w told called blocks
  carried_held w (step.Propose entry) called blocks =
      let waiting : Waiting = record w { wait = wait.Entry (last_number (group_of w.shard c) + 1) } in
      proposed_held w.shard entry (put_operation line waiting c) (waits_held waiting)
  carried_held w (step.Compare number) called blocks =
      let waits : Core = wait_for line w (wait.Bytes number) c in
      same_held waits (change_with (lead_of w.shard c) (add_read number line) waits) (read_same number line (lead_of w.shard c) waits) (waits_held (record w { wait = wait.Bytes number }))
  carried_held w step.Wait called blocks = record { sessions = its.sessions; catalogues = its.catalogues }

  stepped_held : (u : Waiting) (taken : OpStep) → IsCalled name c.sessions u.operation.op → AnswersBlocks c u.operation.op taken → AreAddressed (take_step line u taken c)
  stepped_held u taken called blocks = carried_held (record u { operation = after_step taken u.operation }) taken called blocks

  going_held : (next : OpView → Operation → OpStep) → ((w : Waiting) → operation_of line c ≡ Some w → IsCalled name c.sessions w.operation.op)
      → ((w : Waiting) → operation_of line c ≡ Some w → AnswersBlocks c w.operation.op (next (view_for w.shard w.operation.op c) w.operation)) → AreAddressed (go_on_with next line c)
  going_held next called blocks = go (operation_of line c) refl
    where
      go : (o : Option Waiting) → operation_of line c ≡ o → AreAddressed (change_with o (λ w. take_step line w (next (view_for w.shard w.operation.op c) w.operation)) c)
      go None at = its
      go (Some u) at = stepped_held u (next (view_for u.shard u.operation.op c) u.operation) (called u at) (blocks u at)

-- ---- what goes on by what it sees, and by bytes

-- a write is never told so that it was done
never_done : (c : Core) (o : Op) (taken : OpStep)
    → ((session payload handles : List ℕ) (address : Option Address) (told : Reply) → o ≡ op.Write session payload handles address → taken ≡ step.Answer told → is_done told ≡ false) → AnswersBlocks c o taken
never_done c o taken stops session payload handles address told is e done = absurd (false≢true (sym (stops session payload handles address told is e) ∙ done))

from_blocks : (c : Core) (v : OpView) (p : Operation) → AnswersBlocks c p.op (go_step v p)
from_blocks c v p = never_done c p.op (go_step v p) (λ session payload handles address told is e.
    from_stops v p.line session payload handles address told p.stage (subst (λ (o : Op). go_from p.stage v p.line o ≡ step.Answer told) is e))

bytes_blocks : (c : Core) (v : OpView) (bytes : Option (List ℕ)) (pointers : List Address) (p : Operation) → AnswersBlocks c p.op (bytes_step v bytes pointers p)
bytes_blocks c v bytes pointers p = never_done c p.op (bytes_step v bytes pointers p) (λ session payload handles address told is e.
    bytes_stops v p.line session payload handles address told (wanted_number p.stage) bytes pointers
    (subst (λ (o : Op). on_bytes v p.line (record { number = wanted_number p.stage; bytes = bytes; pointers = pointers }) o ≡ step.Answer told) is e))

pub held_goes : (name : List ℕ → Address) → GivesAddresses name → (c : Core) → IsOrderly name c → AreAddressed c → (line : ℕ) → AreAddressed (resume line c)
held_goes name names c order its line =
    going_held name names line c its go_step (λ w at. (order.pending line w at).called) (λ w at. from_blocks c (view_for w.shard w.operation.op c) w.operation)

pub held_told : (name : List ℕ → Address) → GivesAddresses name → (c : Core) → IsOrderly name c → AreAddressed c → (line : ℕ) (bytes : Option (List ℕ)) (w : Waiting)
    → AreAddressed (go_on_with (λ v o. bytes_step v bytes (pointers_for w.shard w.operation.op c) o) line c)
held_told name names c order its line bytes w =
    going_held name names line c its (λ v o. bytes_step v bytes (pointers_for w.shard w.operation.op c) o) (λ u at. (order.pending line u at).called)
    (λ u at. bytes_blocks c (view_for u.shard u.operation.op c) bytes (pointers_for w.shard w.operation.op c) u.operation)

-- ---- a client's line

pub held_line : (name : List ℕ → Address) → GivesAddresses name → (c : Core) → AreAddressed c → (line : ℕ) (o : Op) → IsNewLine name c line o → AreAddressed (begin_line line o c)
held_line name names c its line o may = stepped_held name names line with_it (record { sessions = its.sessions; catalogues = its.catalogues }) w (go_step v w.operation) may.called (from_blocks with_it v w.operation)
  where
    begun : Core
    begun = record c { progress = record c.progress { last_line = line } }

    w : Waiting
    w = record { operation = new_operation line o; shard = judging_shard (shape_of c).shards c.sessions o; wait = wait.View }

    v : OpView
    v = record (view_for (judging_shard (shape_of c).shards c.sessions o) o begun) { busy = busy_line o c }

    with_it : Core
    with_it = add_operation line w begun

-- ---- an entry takes effect

-- what is known of the operation that hears of an entry
pub record Hears (name : List ℕ → Address) (entry : Entry) (c : Core) : Type 0 where
  pub called : (line : ℕ) (w : Waiting) → operation_of line c ≡ Some w → IsCalled name c.sessions w.operation.op
  pub counted : (line : ℕ) (w : Waiting) → operation_of line c ≡ Some w → 1 ≤ line
  pub own : (line : ℕ) (w : Waiting) → asked_by entry ≡ Some line → operation_of line c ≡ Some w → IsOwn c.limits c.sessions w.operation.op

-- one that is not refused for its session has a block, if it writes
own_blocks : (c : Core) (o : Op) (taken : OpStep) → IsOwn c.limits c.sessions o → AnswersBlocks c o taken
own_blocks c o taken own session payload handles address told is e done = own_block c.limits c.sessions session payload handles address (subst (λ (x : Op). IsOwn c.limits c.sessions x) is own)

module _ (name : List ℕ → Address) (names : GivesAddresses name) (shard : ℕ) (c : Core) (its : AreAddressed c) where
  heard_held : (line : ℕ) (did : What) (entry : Entry) → Hears name entry c → asked_by entry ≡ Some line → AreAddressed (tell_operation line did c)
  heard_held line did entry hears by =
      going_held name names line c its (λ v o. effect_step v did o) (λ w at. hears.called line w at)
      (λ w at. own_blocks c w.operation.op (effect_step (view_for w.shard w.operation.op c) did w.operation) (hears.own line w by at))

  entered_held : (line epoch : ℕ) (did : What) → Hears name (kind.Enter line epoch) c → AreAddressed (tell_enter shard line did c)
  entered_held line epoch did hears = go (operation_of line c) refl
    where
      not_none : 1 ≤ line → (line == 0) ≡ false
      not_none low = grind (arith, nat_tests, low)

      go : (o : Option Waiting) → operation_of line c ≡ o → AreAddressed (cond (is_some o) (tell_operation line did c) (note_enter shard did c))
      go None at = same_held c (note_enter shard did c) (enter_same shard did c) its
      go (Some u) at = heard_held line did (kind.Enter line epoch) hears (ap (λ b. cond b None (Some line)) (not_none (hears.counted line u at)))

  tells_held : (entry : Entry) (effect : Effect) → Hears name entry c → AreAddressed (tells_at_once shard entry effect c)
  tells_held (kind.View view) effect hears = its
  tells_held (kind.Block line least bytes) effect hears = heard_held line effect.what (kind.Block line least bytes) hears refl
  tells_held (kind.Mark line least block a) effect hears = heard_held line effect.what (kind.Mark line least block a) hears refl
  tells_held (kind.Root line held a key) effect hears = heard_held line effect.what (kind.Root line held a key) hears refl
  tells_held (kind.Drop line key) effect hears = heard_held line effect.what (kind.Drop line key) hears refl
  tells_held (kind.Enter line epoch) effect hears = entered_held line epoch effect.what hears
  tells_held (kind.Got from epoch round total deltas) effect hears = same_held c (change_with effect.removed (note_sweep shard) c) (swept_same shard effect.removed c) its
  tells_held (kind.Base view epoch swept round frames) effect hears = its
  tells_held (kind.KeptBlock born mark flags count bytes) effect hears = its
  tells_held (kind.KeptRoot created dropped counted address key) effect hears = its
  tells_held (kind.KeptRound way other epoch round total deltas) effect hears = its

-- ---- what an entry brings

-- the block of a Block's bytes is the one that its write asked for
block_points : (name : List ℕ → Address) (limits : Limits) (seats : Seats) (line k least : ℕ) (bytes : List ℕ) (o : Op) → StandForAddresses seats → IsEntryOf name seats k o (kind.Block line least bytes) → IsOwn limits seats o
    → (block : Block) → read_block bytes ≡ Ok block → AllByRecursion Has32Bytes block.pointers
block_points name limits seats line k least bytes (op.Write session payload handles address) all asks own block e = go asks
  where
    spelled : {l m : ℕ} {x : List ℕ} → kind.Block line least bytes ≡ kind.Block l m x → bytes ≡ x
    spelled is = cc is

    go : IsEntryOf name seats k (op.Write session payload handles address) (kind.Block line least bytes) → AllByRecursion Has32Bytes block.pointers
    go (inl is) =
        let reads : read_block bytes ≡ Ok (asked_block seats session payload handles) =
        ap (λ (bs : List ℕ). read_block bs) (spelled is.0)
        ∙ read_again (asked_block seats session payload handles) (is_bounded seats session payload handles (own_block limits seats session payload handles address own))
        (are_addressed seats session payload (hold_addresses seats all) handles) in
        subst (λ (b : Block). AllByRecursion Has32Bytes b.pointers) (ok_is {E = SpellingFault} (asked_block seats session payload handles) block (sym reads ∙ e))
        (asked_whole seats session payload (hold_addresses seats all) handles)
    go (inr is) = absurd (cc is.1)
block_points name limits seats line k least bytes (op.Root session key handle) all asks own block e = absurd (cc asks)
block_points name limits seats line k least bytes (op.Drop key) all asks own block e = absurd (cc asks)
block_points name limits seats line k least bytes op.Delete all asks own block e = absurd (cc asks.1)
block_points name limits seats line k least bytes (op.Open session) all asks own block e = absurd asks
block_points name limits seats line k least bytes (op.Close session) all asks own block e = absurd asks
block_points name limits seats line k least bytes (op.Read session handle) all asks own block e = absurd asks
block_points name limits seats line k least bytes (op.Look session key) all asks own block e = absurd asks
block_points name limits seats line k least bytes (op.Forget session handle) all asks own block e = absurd asks
block_points name limits seats line k least bytes (op.Name session handle) all asks own block e = absurd asks
block_points name limits seats line k least bytes op.Stat all asks own block e = absurd asks

-- the address of a Root is what its operation's handle stands for
root_points : (name : List ℕ → Address) (seats : Seats) (line k held : ℕ) (a : Address) (key : List ℕ) (o : Op) → StandForAddresses seats → IsEntryOf name seats k o (kind.Root line held a key) → Has32Bytes a
root_points name seats line k held a key (op.Root session other handle) all asks = subst (λ (x : Address). Has32Bytes x) (sym (kept asks)) (hold_addresses seats all session handle)
  where
    kept : {l h : ℕ} {x : Address} {q : List ℕ} → kind.Root line held a key ≡ kind.Root l h x q → a ≡ x
    kept is = cc is
root_points name seats line k held a key (op.Write session payload handles address) all asks = go asks
  where
    go : IsEntryOf name seats k (op.Write session payload handles address) (kind.Root line held a key) → Has32Bytes a
    go (inl is) = absurd (cc is.0)
    go (inr is) = absurd (cc is.1)
root_points name seats line k held a key (op.Drop other) all asks = absurd (cc asks)
root_points name seats line k held a key op.Delete all asks = absurd (cc asks.1)
root_points name seats line k held a key (op.Open session) all asks = absurd asks
root_points name seats line k held a key (op.Close session) all asks = absurd asks
root_points name seats line k held a key (op.Read session handle) all asks = absurd asks
root_points name seats line k held a key (op.Look session other) all asks = absurd asks
root_points name seats line k held a key (op.Forget session handle) all asks = absurd asks
root_points name seats line k held a key (op.Name session handle) all asks = absurd asks
root_points name seats line k held a key op.Stat all asks = absurd asks

-- that of a Mark is the name of its write's block
mark_points : (name : List ℕ → Address) → GivesAddresses name → (limits : Limits) (seats : Seats) (line k least block : ℕ) (a : Address) (o : Op) → IsEntryOf name seats k o (kind.Mark line least block a) → IsCalled name seats o → IsOwn limits seats o → Has32Bytes a
mark_points name names limits seats line k least block a (op.Write session payload handles address) asks called own = go asks
  where
    kept : {l m n : ℕ} {x : Address} → kind.Mark line least block a ≡ kind.Mark l m n x → x ≡ a
    kept is = cc is

    go : IsEntryOf name seats k (op.Write session payload handles address) (kind.Mark line least block a) → Has32Bytes a
    go (inl is) = absurd (cc is.0)
    go (inr is) = subst (λ (x : Address). Has32Bytes x) (kept is.1)
        (name_whole name names (spell (asked_block seats session payload handles)) address (called (own_block limits seats session payload handles address own)))
mark_points name names limits seats line k least block a (op.Root session key handle) asks called own = absurd (cc asks)
mark_points name names limits seats line k least block a (op.Drop key) asks called own = absurd (cc asks)
mark_points name names limits seats line k least block a op.Delete asks called own = absurd (cc asks.1)
mark_points name names limits seats line k least block a (op.Open session) asks called own = absurd asks
mark_points name names limits seats line k least block a (op.Close session) asks called own = absurd asks
mark_points name names limits seats line k least block a (op.Read session handle) asks called own = absurd asks
mark_points name names limits seats line k least block a (op.Look session key) asks called own = absurd asks
mark_points name names limits seats line k least block a (op.Forget session handle) asks called own = absurd asks
mark_points name names limits seats line k least block a (op.Name session handle) asks called own = absurd asks
mark_points name names limits seats line k least block a op.Stat asks called own = absurd asks

module _ (name : List ℕ → Address) (names : GivesAddresses name) (shard number : ℕ) (core : Core) (order : IsOrderly name core) (its : AreAddressed core) where
  asked_here : (entry : Entry) → committed (group_of shard core) ≡ Some (number, entry) → (line : ℕ) → asked_by entry ≡ Some line → HasAsked name core shard (front_of shard core + 1 + 0) line entry
  asked_here entry leads line by = order.asked shard 0 line entry (committed_first (group_of shard core) number entry leads).first by

  brings : (entry : Entry) → committed (group_of shard core) ≡ Some (number, entry) → Brings (named entry core) entry
  brings (kind.Block line least bytes) leads =
      let h = asked_here (kind.Block line least bytes) leads line refl in (
        subst (λ (x : Option Address). Has32Bytes (named_as x)) (sym (committed_named name core shard number (kind.Block line least bytes) order leads)) (names bytes),
        block_points name core.limits core.sessions line line least bytes h.waiting.operation.op its.sessions h.asks h.own,
      )
  brings (kind.Root line held a key) leads =
      let h = asked_here (kind.Root line held a key) leads line refl in
      root_points name core.sessions line line held a key h.waiting.operation.op its.sessions h.asks
  brings (kind.View view) leads = tt
  brings (kind.Mark line least block a) leads = tt
  brings (kind.Drop line key) leads = tt
  brings (kind.Enter line epoch) leads = tt
  brings (kind.Got from epoch round total deltas) leads = tt
  brings (kind.Base view epoch swept round frames) leads = tt
  brings (kind.KeptBlock born mark flags count bytes) leads = tt
  brings (kind.KeptRoot created dropped counted address key) leads = tt
  brings (kind.KeptRound way other epoch round total deltas) leads = tt

  module _ (entry : Entry) (leads : committed (group_of shard core) ≡ Some (number, entry)) where
    pub taken_held : AreAddressed (taken shard entry core)
    taken_held = record {
      sessions = its.sessions;
      catalogues = all_set (λ (c : Catalogue). KeepsAddresses c) core.catalogues shard (done_by shard entry core).catalogue
          (applied_keeps (front_of shard core + 1) entry (named entry core) (catalogue_of shard core) (brings entry leads) (shard_keeps core shard its)) its.catalogues;
    }

    hears_here : Hears name entry (taken shard entry core)
    hears_here = record {
      called = λ line w at. (order.pending line w at).called;
      counted = λ line w at. (order.pending line w at).counted;
      own = λ line w by at.
          let h = asked_here entry leads line by in
          subst (λ (x : Waiting). IsOwn core.limits core.sessions x.operation.op) (some_is h.waiting w (sym h.at ∙ at)) h.own;
    }

    pub effect_held : AreAddressed (told_at_once shard entry core)
    effect_held = tells_held name names shard (taken shard entry core) taken_held entry (done_by shard entry core).effect hears_here

pub held_effect : (name : List ℕ → Address) → GivesAddresses name → (core : Core) → IsOrderly name core → AreAddressed core → (shard number : ℕ) (entry : Entry) → committed (group_of shard core) ≡ Some (number, entry)
    → AreAddressed (told_at_once shard entry core)
held_effect name names core order its shard number entry leads = effect_held name names shard number core order its entry leads

-- ---- what waits

-- the address of a Root that waits has 32 bytes, and so has that of a Mark
pub waiting_root : (name : List ℕ → Address) (core : Core) → IsOrderly name core → AreAddressed core → (shard place line held : ℕ) (a : Address) (key : List ℕ) → slice_get (group_of shard core).waiting place ≡ Some (kind.Root line held a key) → Has32Bytes a
waiting_root name core order its shard place line held a key at =
    let h = order.asked shard place line (kind.Root line held a key) at refl in
    root_points name core.sessions line line held a key h.waiting.operation.op its.sessions h.asks

pub waiting_mark : (name : List ℕ → Address) → GivesAddresses name → (core : Core) → IsOrderly name core → (shard place line least block : ℕ) (a : Address) → slice_get (group_of shard core).waiting place ≡ Some (kind.Mark line least block a) → Has32Bytes a
waiting_mark name names core order shard place line least block a at =
    let h = order.asked shard place line (kind.Mark line least block a) at refl in
    mark_points name names core.limits core.sessions line line least block a h.waiting.operation.op h.asks (order.pending line h.waiting h.at).called h.own

-- ---- the other changes

pub held_beside : (a b : Core) → IsBeside a b → AreAddressed a → AreAddressed b
held_beside a b same its = same_held a b (record { sessions = same.sessions; catalogues = same.catalogues }) its

pub held_downed : (c : Core) → AreAddressed c → (peer line : ℕ) → AreAddressed (note who.Store deed.Nothing (reply.Down peer line) c)
held_downed c its peer line = record { sessions = its.sessions; catalogues = its.catalogues }

pub held_refused : (c : Core) → AreAddressed c → (line : ℕ) (refusal : Reply) → AreAddressed (refuse line refusal c)
held_refused c its line refusal = record { sessions = its.sessions; catalogues = its.catalogues }

pub held_due : (c : Core) → AreAddressed c → (shard : ℕ) → AreAddressed (propose_entry shard (kind.Enter 0 ((catalogue_of shard c).epoch + 1)) c)
held_due c its shard = proposed_held shard (kind.Enter 0 ((catalogue_of shard c).epoch + 1)) c its

pub held_round : (c : Core) → AreAddressed c → (to : ℕ) (entry : Entry) (f : Pool → Pool) → AreAddressed (propose_entry to entry (change_pool f c))
held_round c its to entry f = proposed_held to entry (change_pool f c) (record { sessions = its.sessions; catalogues = its.catalogues })

pub held_again : (c : Core) → AreAddressed c → (back shard : ℕ) → AreAddressed (send_round back shard c)
held_again c its back shard = go (sent_back back (catalogue_of shard c).run)
  where
    go : (o : Option (ℕ × ℕ)) → AreAddressed (change_with o (λ at. post (round_messages shard (messages (catalogue_of shard c).shape.shards at.0 at.1 (catalogue_of shard c).run))) c)
    go None = its
    go (Some at) = record { sessions = its.sessions; catalogues = its.catalogues }
