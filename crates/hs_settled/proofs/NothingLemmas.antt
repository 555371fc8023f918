-- A run without a course began nothing, and has its cause.
use Rattle.std.proofs.Common.{◌≡◌, inl, inr, ◌∙◌, ap, sym, subst, ℕ, ◌*◌, ◌<◌, ◌≤◌, ◌++◌, Bool, true, false, cond, not, List, [], ◌∷◌, Option, Some, None, IfSome, refl, arith, is_some, length}
use Rattle.std.proofs.lemmas.Bool.{cases_lt}
use Rattle.std.proofs.lemmas.List.Elements.{All-from_recursion}
use Rattle.std.specs.List.{All, AllByRecursion}
use Rattle.std.specs.Prelude.{if◌then◌else◌}
use Rattle.hs_settled.proofs.CourseLemmas.{nothing_good}
use Rattle.hs_settled.proofs.CausesFirstLemmas.{IsFirst, members_first, room_first, told_first}
use Rattle.hs_settled.proofs.CausesGoodLemmas.{last_opened, no_line, no_lines, opened_good, past_good}
use Rattle.hs_settled.proofs.KeptLemmas.{Kept}
use Rattle.hs_settled.proofs.CausesListLemmas.{all_left, any_none, both_nil, find_none, not_both, range_each}
use Rattle.hs_settled.proofs.NoteLemmas.{not_noted}
use Rattle.hs_settled.proofs.CausesRunLemmas.{last_kept, mute, opened_kept}
use Rattle.hs_settled.specs.Printing.{FailsInOpening, LeavesUnread}
use Rattle.hs_core_words.specs.Looking.{shape_of, shards_of, status_of}
use Rattle.hs_core_words.specs.State.{Core}
use Rattle.hs_desk.specs.declared.fault.CoreFault.{CoreFault}
use Rattle.hs_desk.specs.declared.fault.CoreFault.TheVariants as core_fault
use Rattle.hs_events.specs.Beginning.{first_items}
use Rattle.hs_events.specs.Found.{first_core, opens_with, starts_good}
use Rattle.hs_journal.specs.declared.entry.JournalEntry.{JournalEntry}
use Rattle.hs_journal.specs.Notes.{is_first_noted, note_count}
use Rattle.hs_limits.specs.declared.shape.Shape.{Shape}
use Rattle.hs_limits.specs.Shape.{IsShape}
use Rattle.hs_members.specs.Members.{Members, has_good, is_good_status, peers_of, status as status_in}
use Rattle.hs_model.specs.declared.reply.Reply.TheVariants as reply
use Rattle.hs_settled.proofs.NotedFirstLemmas.{first_notes}
use Rattle.hs_settled.proofs.NotingLemmas.{all_weaker}
use Rattle.hs_promise.specs.Answers.{BeganNothing}
use Rattle.hs_promise.specs.declared.status.Status.{Status}
use Rattle.hs_promise.specs.declared.status.Status.TheVariants as status
use Rattle.hs_promise.specs.Ending.{ending_of}
use Rattle.hs_promise.specs.Lost.{NoneGoodCause}
use Rattle.hs_promise.specs.Machine.{NeverOpened, Went}
use Rattle.hs_promise.specs.Run.{Ran, Script}
use Rattle.hs_promise.specs.Story.{Story, last_core}
use Rattle.hs_told.specs.InTurn.{told_of}

each_all : (Q : ℕ → Type 0) → ((x : ℕ) → Q x) → (xs : List ℕ) → AllByRecursion Q xs
each_all Q h [] = tt
each_all Q h (x ∷ xs) = (h x, each_all Q h xs)

some_shard : (shape : Shape) → IsShape shape → 0 < shape.shards
some_shard shape is = elim is.shards [
  | inl one ↦ omega (arith, one)
  | inr more ↦ elim more [
    | inl two ↦ omega (arith, two)
    | inr most ↦ elim most [ inl four ↦ omega (arith, four) | inr eight ↦ omega (arith, eight) ]
  ]
]

abbrev TellsDown : JournalEntry → Type 0
TellsDown entry = (peer : ℕ) × (entry.reply ≡ reply.Down peer 0)

module _ (S : Script) (r : Ran) (story : Story) (went : Went S r story) (shape : IsShape S.set.shape) (none : r.course ≡ []) where
  abbrev opened : Core
  opened = first_core S.set story.found

  -- no peer was good
  nobody : (x : ℕ) → starts_good story.found x ≡ false
  nobody x = elim (cases_lt x (S.set.shape.shards * S.set.shape.copies)) [
    | inl low ↦ nothing_good S.set.shape story.found r.old.moment (let some : 1 ≤ S.set.shape.copies = shape.some_copy in omega (arith, some))
        (both_nil (first_items S.set.shape story.found r.old.moment) _ (sym went.course ∙ none)).0 x low
    | inr high ↦ past_good S r story went x high
  ]

  kept : Kept (mute S.commands) S.set.shape S.set.limits opened
  kept = opened_kept S r story went

  -- so that the core ended as it opened
  over : opened.ended ≡ None → ⊥
  over going =
      let low : 0 < (shape_of opened).shards = let s : (shape_of opened).shards ≡ S.set.shape.shards = ap (λ (z : Shape). z.shards) kept.shaped in let some : 0 < S.set.shape.shards = some_shard S.set.shape shape in omega (arith, s, some) in
      let each : AllByRecursion (λ shard. not (has_good shard opened.members) ≡ false) (shards_of opened) = find_none (λ shard. not (has_good shard opened.members)) (shards_of opened) (kept.ends.going going) in
      let here : not (has_good 0 opened.members) ≡ false = range_each (λ shard. not (has_good shard opened.members) ≡ false) (shape_of opened).shards 0 0 each (omega arith) (omega (arith, low)) in
      let bad : has_good 0 opened.members ≡ false =
      any_none (λ peer. is_good_status (status_of peer opened)) (peers_of opened.members.shape 0)
      (each_all (λ peer. is_good_status (status_of peer opened) ≡ false) (λ peer. opened_good S r story went peer ∙ nobody peer) (peers_of opened.members.shape 0)) in
      not_both (sym (ap not bad) ∙ here)

  ended : (o : Option CoreFault) → opened.ended ≡ o → (f : CoreFault) × (opened.ended ≡ Some f)
  ended None is = absurd (over is)
  ended (Some f) is = (f, is)

  pub began_nothing : LeavesUnread S r story → BeganNothing r
  began_nothing unread =
      let fault : (f : CoreFault) × (opened.ended ≡ Some f) = ended opened.ended refl in
      let n : ℕ = S.set.shape.shards * S.set.shape.copies in
      let firsts : AllByRecursion (λ (e : JournalEntry). IsFirst n e) (told_of opened) = told_first S.set.shape S.set.limits (opens_with S.set story.found) story.found.opened went.found.goods in
      let journal : AllByRecursion (λ (e : JournalEntry). IsFirst n e) r.journal =
      subst (λ es. AllByRecursion (λ (e : JournalEntry). IsFirst n e) es) (sym (went.journal ∙ ap (λ (c : Core). c.journal) (last_opened S r story went fault.0 fault.1)))
      (all_left (λ (e : JournalEntry). IsFirst n e) opened.journal opened.refused firsts) in
      record {
        unread = unread (ap is_some fault.1);
        line = no_line S r story went fault.0 fault.1;
        notes = All-from_recursion TellsDown r.journal (all_weaker (λ (e : JournalEntry). IsFirst n e) TellsDown (λ e first. (first.peer, first.told)) r.journal journal);
      }

  -- ---- its cause

  firsts : AllByRecursion (λ (e : JournalEntry). IsFirst (S.set.shape.shards * S.set.shape.copies) e) (told_of opened)
  firsts = told_first S.set.shape S.set.limits (opens_with S.set story.found) story.found.opened went.found.goods

  -- each peer is told to be down
  first_told : (peer : ℕ) → peer < S.set.shape.shards * S.set.shape.copies → is_first_noted peer (told_of opened) ≡ true
  first_told peer low = go (is_first_noted peer (told_of opened)) refl
    where
      counted : note_count peer (told_of opened) ≡ 1
      counted =
          first_notes S.set.shape S.set.limits (opens_with S.set story.found) story.found.opened peer low
          ∙ ap (λ (m : Members). cond (is_good_status (status_in peer m)) 0 1) (sym (members_first S.set.shape S.set.limits (opens_with S.set story.found) story.found.opened went.found.goods))
          ∙ ap (λ b. cond b 0 1) (opened_good S r story went peer ∙ nobody peer)

      go : (b : Bool) → is_first_noted peer (told_of opened) ≡ b → is_first_noted peer (told_of opened) ≡ true
      go true t = t
      go false t =
          let no_note : note_count peer (told_of opened) ≡ 0 = not_noted (S.set.shape.shards * S.set.shape.copies) peer (told_of opened) firsts t in
          let a_note : note_count peer (told_of opened) ≡ 1 = counted in
          absurd (omega (arith, no_note, a_note))

  fault_is : (f : CoreFault) × (opened.ended ≡ Some f)
  fault_is = ended opened.ended refl

  opened_is_last : last_core S story ≡ opened
  opened_is_last = last_opened S r story went fault_is.0 fault_is.1

  -- where all that was told is handed back
  each_noted : r.refused ≡ (last_core S story).refused → NoneGoodCause S r
  each_noted same = inr (λ peer low. subst (λ es. is_first_noted peer es ≡ true) (sym all) (first_told peer low))
    where
      all : r.journal ++ r.refused ≡ told_of opened
      all = ap (λ es. es ++ r.refused) went.journal ∙ ap (λ es. (last_core S story).journal ++ es) same ∙ ap (λ (c : Core). told_of c) opened_is_last

  goes_on : (ending_of r.ending).past ≡ true → ⊥
  goes_on past = over (ap (λ (c : Core). c.ended) (sym opened_is_last) ∙ went.ends.past past)

  scripted : (ending_of r.ending).unscripted ≡ true → ⊥
  scripted other = not_both (sym other ∙ went.ends.scripted)

  refused_if : (st : Status) (b : Bool) → r.ending ≡ st → (ending_of st).full ≡ b → r.refused ≡ (if b then (last_core S story).refused else [])
  refused_if st b e full = went.refused ∙ ap (λ t. if t then (last_core S story).refused else []) (ap (λ st. (ending_of st).full) e ∙ full)

  -- a sink that failed had been told something, so that nothing was refused
  by_sink : FailsInOpening r story → r.ending ≡ status.WriteFault → NoneGoodCause S r
  by_sink wrote e = elim (room_first S.set.shape S.set.limits (opens_with S.set story.found) story.found.opened went.found.goods) [
    | inl clean ↦ each_noted (refused_if status.WriteFault false e refl ∙ sym (ap (λ (c : Core). c.refused) opened_is_last ∙ clean))
    | inr silent ↦
        let some : 0 < length r.journal = wrote e (no_lines S r story went fault_is.0 fault_is.1) in
        let none : length r.journal ≡ 0 = ap (λ (es : List JournalEntry). length es) (went.journal ∙ ap (λ (c : Core). c.journal) opened_is_last ∙ silent) in
        absurd (omega (arith, some, none))
  ]

  by_status : FailsInOpening r story → (st : Status) → r.ending ≡ st → NoneGoodCause S r
  by_status wrote status.Done e = absurd (goes_on (ap (λ st. (ending_of st).past) e))
  by_status wrote status.Usage e = inl (inl (ap (λ st. (ending_of st).closed) e))
  by_status wrote (status.BadLine line) e = absurd (goes_on (ap (λ st. (ending_of st).past) e))
  by_status wrote (status.ShardLost shard) e =
      let lost : (last_core S story).ended ≡ Some (core_fault.ShardLost shard) = subst (λ (st : Status). IfSome (ending_of st).lost (λ g. (last_core S story).ended ≡ Some (core_fault.ShardLost g))) e went.ends.lost in
      each_noted (refused_if (status.ShardLost shard) false e refl ∙ sym ((last_kept S r story went).ends.clean shard lost))
  by_status wrote status.ReadFault e = absurd (goes_on (ap (λ st. (ending_of st).past) e))
  by_status wrote status.WriteFault e = by_sink wrote e
  by_status wrote status.NoMemory e = inl (inr (ap (λ st. (ending_of st).wanting) e))
  by_status wrote (status.WrongShape peer found) e = inl (inl (ap (λ st. (ending_of st).closed) e))
  by_status wrote status.OpsFull e = each_noted (refused_if status.OpsFull true e refl)
  by_status wrote status.InputFull e = absurd (goes_on (ap (λ st. (ending_of st).past) e))
  by_status wrote (status.Mismatch session place told kept) e = absurd (scripted (ap (λ st. (ending_of st).unscripted) e))
  by_status wrote (status.Torn peer place told kept) e = absurd (scripted (ap (λ st. (ending_of st).unscripted) e))
  by_status wrote (status.NotEmpty blocks roots) e = absurd (scripted (ap (λ st. (ending_of st).unscripted) e))
  by_status wrote (status.Refused reply) e = absurd (scripted (ap (λ st. (ending_of st).unscripted) e))
  by_status wrote (status.NotATree address) e = absurd (scripted (ap (λ st. (ending_of st).unscripted) e))
  by_status wrote (status.NoSource peer) e = absurd (scripted (ap (λ st. (ending_of st).unscripted) e))
  by_status wrote (status.CopyFull blocks) e = absurd (scripted (ap (λ st. (ending_of st).unscripted) e))

  pub none_good_cause : FailsInOpening r story → NoneGoodCause S r
  none_good_cause wrote = by_status wrote r.ending refl

pub never_began : (r : Ran) → NeverOpened r → BeganNothing r
never_began r never = record {
  unread = never.unread;
  line = never.line;
  notes = subst (λ es. All TellsDown es) (sym never.journal) (All-from_recursion TellsDown [] tt);
}
