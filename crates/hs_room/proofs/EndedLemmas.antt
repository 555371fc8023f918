-- A run whose core ended as it opened, or that opened none, has its journal full only where its limit has no room for a note a peer.
use Rattle.std.proofs.Common.{◌≡◌, ◌∙◌, inl, inr, ap, sym, subst, ℕ, ◌+◌, ◌*◌, ◌<◌, ◌≤◌, ◌++◌, Bool, true, false, cond, List, [], ◌∷◌, Some, arith, length}
use Rattle.std.proofs.lemmas.Bool.{false≢true}
use Rattle.std.specs.List.{AllByRecursion}
use Rattle.std.specs.Prelude.{if◌then◌else◌}
use Rattle.hs_desk.specs.declared.fault.CoreFault.{CoreFault}
use Rattle.hs_events.specs.Found.{first_core, opens_with, starts_good}
use Rattle.hs_events.specs.Taken.{peer_count}
use Rattle.hs_journal.specs.declared.entry.JournalEntry.{JournalEntry}
use Rattle.hs_journal.specs.declared.entry.Who.{Who}
use Rattle.hs_journal.specs.declared.entry.Who.TheVariants as who
use Rattle.hs_journal.specs.Notes.{note_count}
use Rattle.hs_limits.specs.declared.limits.Limits.{Limits}
use Rattle.hs_model.specs.declared.reply.Reply.{Reply}
use Rattle.hs_model.specs.declared.reply.Reply.TheVariants as reply
use Rattle.hs_promise.specs.Answers.{IsEntry}
use Rattle.hs_promise.specs.Completes.{FullBeyond}
use Rattle.hs_promise.specs.declared.status.Status.{Status}
use Rattle.hs_promise.specs.declared.status.Status.TheVariants as status
use Rattle.hs_promise.specs.Ending.{ending_of}
use Rattle.hs_promise.specs.Machine.{NeverOpened, Went}
use Rattle.hs_promise.specs.Run.{Ran, Script}
use Rattle.hs_promise.specs.Story.{Story, last_core}
use Rattle.hs_settled.proofs.CausesCountLemmas.{first_count}
use Rattle.hs_settled.proofs.CausesFirstLemmas.{IsFirst, told_first}
use Rattle.hs_settled.proofs.CausesGoodLemmas.{last_opened}
use Rattle.hs_settled.proofs.CausesRunLemmas.{journal_stands, last_kept, refused_stands}
use Rattle.hs_settled.proofs.DoneLemmas.{is_down}
use Rattle.hs_settled.proofs.EndsCountLemmas.{many, sum_from, sum_ones}
use Rattle.hs_settled.proofs.KindLemmas.{all_downs}
use Rattle.hs_settled.proofs.NotingLemmas.{all_append}
use Rattle.hs_told.specs.InTurn.{told_of}

-- one tells that a peer is down
down_told : (e : JournalEntry) (peer : ℕ) → e.who ≡ who.Store → e.reply ≡ reply.Down peer 0 → is_down e ≡ true
down_told e peer store told =
    ap (λ (w : Who). is_down (record { who = w; moment = e.moment; deed = e.deed; reply = e.reply })) store
    ∙ ap (λ (r : Reply). is_down (record { who = who.Store; moment = e.moment; deed = e.deed; reply = r })) told

counts : (b : Bool) → b ≡ true → 1 ≤ cond b 1 0
counts true is = omega arith
counts false is = absurd (false≢true is)

-- so does each
all_down : (n : ℕ) (es : List JournalEntry) → AllByRecursion (λ (e : JournalEntry). IsFirst n e) es → length es ≤ many is_down es
all_down n [] all = omega arith
all_down n (e ∷ es) all =
    let first : IsFirst n e = all.0 in
    let one : 1 ≤ cond (is_down e) 1 0 = counts (is_down e) (down_told e first.peer first.store first.told) in
    let rest : length es ≤ many is_down es = all_down n es all.1 in
    omega (arith, one, rest)

module _ (S : Script) (r : Ran) (story : Story) (went : Went S r story) (f : CoreFault) (over : (first_core S.set story.found).ended ≡ Some f) where
  same : told_of (last_core S story) ≡ told_of (first_core S.set story.found)
  same = ap told_of (last_opened S r story went f over)

  firsts : AllByRecursion (λ (e : JournalEntry). IsFirst (S.set.shape.shards * S.set.shape.copies) e) (told_of (last_core S story))
  firsts = subst (λ es. AllByRecursion (λ (e : JournalEntry). IsFirst (S.set.shape.shards * S.set.shape.copies) e) es) (sym same) (told_first S.set.shape S.set.limits (opens_with S.set story.found) story.found.opened went.found.goods)

  once : (peer : ℕ) → peer < S.set.shape.shards * S.set.shape.copies → note_count peer (told_of (last_core S story)) ≤ 1
  once peer low =
      let is : note_count peer (told_of (last_core S story)) ≡ cond (starts_good story.found peer) 0 1 = ap (λ es. note_count peer es) same ∙ first_count S r story went peer low in
      let few : cond (starts_good story.found peer) 0 1 ≤ 1 = at_most (starts_good story.found peer) in
      omega (arith, is, few)
    where
      at_most : (b : Bool) → cond b 0 1 ≤ 1
      at_most true = omega arith
      at_most false = omega arith

  pub ended_beyond : FullBeyond S r
  ended_beyond is =
      let full : (ending_of r.ending).full ≡ true = ap (λ st. (ending_of st).full) is in
      let all : r.journal ++ r.refused ≡ told_of (last_core S story) =
      ap (λ es. es ++ r.refused) went.journal ∙ ap (λ es. (last_core S story).journal ++ es) (went.refused ∙ ap (λ b. if b then (last_core S story).refused else []) full) in
      let each : AllByRecursion (IsEntry S r.line) (told_of (last_core S story)) =
      subst (λ es. AllByRecursion (IsEntry S r.line) es) all (all_append (IsEntry S r.line) r.journal r.refused (journal_stands S r story went) (refused_stands S r story went)) in
      let many_downs : many is_down (told_of (last_core S story)) ≤ sum_from 0 (peer_count S.set.shape) (λ p. 1) = all_downs S r.line (told_of (last_core S story)) each (λ p. 1) once in
      let ones : sum_from 0 (peer_count S.set.shape) (λ p. 1) ≡ peer_count S.set.shape = sum_ones 0 (peer_count S.set.shape) in
      let long : length (told_of (last_core S story)) ≤ many is_down (told_of (last_core S story)) = all_down (S.set.shape.shards * S.set.shape.copies) (told_of (last_core S story)) firsts in
      let above : S.set.limits.ops < length (told_of (last_core S story)) =
      subst (λ (l : Limits). l.ops < length (told_of (last_core S story))) (last_kept S r story went).limited ((last_kept S r story went).ends.full (went.ends.full full)) in
      omega (arith, many_downs, ones, long, above)

-- no core was opened, so that none was full
pub never_beyond : (S : Script) (r : Ran) → NeverOpened r → FullBeyond S r
never_beyond S r never is = elim never.cause [
  | inl closed ↦ absurd (false≢true (sym (ap (λ (st : Status). (ending_of st).closed) is) ∙ closed))
  | inr want ↦ absurd (false≢true (sym (ap (λ (st : Status). (ending_of st).wanting) is) ∙ want))
]
