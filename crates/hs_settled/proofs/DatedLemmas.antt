-- Notes keep their line: what an event tells comes behind what was told, with the line of the last event that had one.
use Rattle.std.proofs.Common.{◌≡◌, ◌⊎◌, inl, inr, ◌∙◌, ap, sym, subst, ℕ, ◌+◌, ◌<◌, ◌≤◌, ◌++◌, List, Option, None, IfSome, arith, length}
use Rattle.std.proofs.lemmas.Option.{slice_get_within}
use Rattle.std.specs.List.{AllByRecursion}
use Rattle.hs_settled.proofs.AddingLemmas.{Grows, IsLate}
use Rattle.hs_settled.proofs.AskLemmas.{AsksFor, prompt_op}
use Rattle.hs_settled.proofs.CausesListLemmas.{all_at, at_either, at_left}
use Rattle.hs_core_words.specs.Looking.{shape_of}
use Rattle.hs_core_words.specs.State.{Core}
use Rattle.hs_journal.specs.declared.entry.JournalEntry.{JournalEntry}
use Rattle.hs_journal.specs.declared.entry.Who.{Who}
use Rattle.hs_journal.specs.declared.entry.Who.TheVariants as who
use Rattle.hs_journal.specs.Events.{client_op}
use Rattle.hs_journal.specs.Notes.{down_in}
use Rattle.hs_journal.specs.Order.{IsOfLine, IsPrompt}
use Rattle.hs_journal.specs.Telling.{AreDated, IsDownAt, IsOfStore}
use Rattle.hs_journal.specs.Telling.IsOfStore.{Done, Down}
use Rattle.hs_limits.specs.declared.limits.Limits.{Limits}
use Rattle.hs_limits.specs.declared.shape.Shape.{Shape}
use Rattle.hs_model.specs.declared.command.Command.{Command}
use Rattle.hs_model.specs.declared.reply.Reply.{Reply}
use Rattle.hs_model.specs.declared.reply.Reply.TheVariants as reply
use Rattle.hs_settled.proofs.NotingLemmas.{all_append}
use Rattle.hs_settled.specs.Noted.{IsNoted, StandsFor}
use Rattle.hs_told.specs.InTurn.{IsInTurn, told_of}

-- ---- what stands for the store

pub store_stands : (commands : ℕ → Option Command) (shape : Shape) (limits : Limits) (last : ℕ) (entry : JournalEntry) → entry.who ≡ who.Store → StandsFor commands shape limits last entry → IsOfStore shape last entry.reply
store_stands commands shape limits last entry is s = go entry.who is s
  where
    go : (w : Who) → w ≡ who.Store → StandsFor commands shape limits last (record entry { who = w }) → IsOfStore shape last entry.reply
    go (who.Line k) e h = absurd (cc e)
    go (who.Shard g) e h = absurd (cc e)
    go who.Store e h = h.1

line_in : (p l q k : ℕ) → reply.Down p l ≡ reply.Down q k → l ≡ k
line_in p l q k e = cc e

pub down_low : (shape : Shape) (last peer line : ℕ) (told : Reply) → told ≡ reply.Down peer line → IsOfStore shape last told → line ≤ last
down_low shape last peer line told is (Done epoch e) = let bad : reply.Down peer line ≡ reply.Done epoch = sym is ∙ e in absurd (cc bad)
down_low shape last peer line told is (Down p l e low upto) = let same : l ≡ line = line_in p l peer line (sym e ∙ is) in omega (arith, upto, same)

-- each note so far has a line that is not above the last one
pub note_low : (commands : ℕ → Option Command) (core : Core) → IsNoted commands core → (j peer line : ℕ) → IsDownAt (told_of core) j peer line → line ≤ core.progress.event_line
note_low commands core its j peer line b =
    let all : AllByRecursion (StandsFor commands (shape_of core) core.limits core.progress.event_line) (told_of core) =
    all_append (StandsFor commands (shape_of core) core.limits core.progress.event_line) core.journal core.refused its.journal its.refused in
    let s : StandsFor commands (shape_of core) core.limits core.progress.event_line b.note = all_at (StandsFor commands (shape_of core) core.limits core.progress.event_line) (told_of core) j b.note all b.at in
    down_low (shape_of core) core.progress.event_line peer line b.note.reply b.told (store_stands commands (shape_of core) core.limits core.progress.event_line b.note b.store s)

-- ---- lines of prompt answers

-- a line that is answered in its own event has its entry as soon as it is not above the last line
pub prompt_told : (commands : ℕ → Option Command) (core : Core) → IsInTurn commands core → (n : ℕ) → IsPrompt (client_op (commands n)) → n ≤ core.progress.event_line → (i : ℕ) × IsOfLine (told_of core) i n
prompt_told commands core turn n prompt le =
    let asks : AsksFor (commands n) = prompt_op (commands n) prompt in
    elim (turn.turns.each n asks.op (omega (arith, le)) asks.is) [
      | inl there ↦ there
      | inr waits ↦ absurd ((turn.turns.asked n waits.0 waits.1).slow prompt)
    ]

pub of_left : (xs ys : List JournalEntry) (i n : ℕ) → IsOfLine xs i n → IsOfLine (xs ++ ys) i n
of_left xs ys i n o = record { entry = o.entry; at = at_left xs ys i o.entry o.at; line = o.line }

of_either : (xs ys : List JournalEntry) (i n : ℕ) → IsOfLine (xs ++ ys) i n → IsOfLine xs i n ⊎ (length xs ≤ i)
of_either xs ys i n o = elim (at_either xs ys i o.entry o.at) [
  | inl old ↦ inl (record { entry = o.entry; at = old; line = o.line })
  | inr new ↦ inr (let e : i ≡ length xs + new.place = new.is in omega (arith, e))
]

-- ---- one event

module _ (commands : ℕ → Option Command) (core after : Core) (last : ℕ) (turn : IsInTurn commands core) (turns : IsInTurn commands after) (noted : IsNoted commands core) (line_is : after.progress.event_line ≡ last) (grows : Grows (IsLate core.progress.event_line last) core after) (dated : AreDated commands (told_of core)) where
  -- a note is an older one, or has the line of the last event, which has not changed
  which : (j peer line : ℕ) → IsDownAt (told_of core ++ grows.more) j peer line
      → IsDownAt (told_of core) j peer line ⊎ ((length (told_of core) ≤ j) × (line ≡ core.progress.event_line) × (last ≡ core.progress.event_line))
  which j peer line b = elim (at_either (told_of core) grows.more j b.note b.at) [
    | inl old ↦ inl (record { note = b.note; at = old; store = b.store; told = b.told })
    | inr new ↦
        let late : IsLate core.progress.event_line last b.note = all_at (IsLate core.progress.event_line last) grows.more new.place b.note grows.each new.at in
        let of : (b.note.who ≡ who.Store) × (line ≡ core.progress.event_line) × (last ≡ core.progress.event_line) =
        subst (λ (o : Option (ℕ × ℕ)). IfSome o (λ d. (b.note.who ≡ who.Store) × (d.1 ≡ core.progress.event_line) × (last ≡ core.progress.event_line))) (ap down_in b.told) late in
        let e : j ≡ length (told_of core) + new.place = new.is in
        inr (omega (arith, e), of.1, of.2)
  ]

  -- so that the entry of a prompt line that is not above it stands before what the event tells
  before : (i n : ℕ) → IsOfLine (told_of core ++ grows.more) i n → IsPrompt (client_op (commands n)) → n ≤ core.progress.event_line → IsOfLine (told_of core) i n
  before i n a prompt le =
      let there : (k : ℕ) × IsOfLine (told_of core) k n = prompt_told commands core turn n prompt le in
      let again : IsOfLine (told_of core ++ grows.more) there.0 n = of_left (told_of core) grows.more there.0 n there.1 in
      let all : (k m : ℕ) → IsOfLine (told_of core ++ grows.more) k n → IsOfLine (told_of core ++ grows.more) m n → k ≡ m =
      λ k m x y. turns.turns.ordered.once k m n (subst (λ es. IsOfLine es k n) (sym grows.told) x) (subst (λ es. IsOfLine es m n) (sym grows.told) y) in
      subst (λ k. IsOfLine (told_of core) k n) (all there.0 i again a) there.1

  both : AreDated commands (told_of core ++ grows.more)
  both = record {
    later = λ i j n peer line a b lt. elim (which j peer line b) [
      | inl old ↦
          let low : j < length (told_of core) = slice_get_within (told_of core) j old.note old.at in
          elim (of_either (told_of core) grows.more i n a) [
            | inl o ↦ dated.later i j n peer line o old lt
            | inr high ↦ absurd (omega (arith, low, lt, high))
          ]
      | inr new ↦
          let up : n < after.progress.event_line + 1 = turns.turns.begun i n (subst (λ es. IsOfLine es i n) (sym grows.told) a) in
          let is : line ≡ core.progress.event_line = new.1 in
          let same : last ≡ core.progress.event_line = new.2 in
          omega (arith, up, line_is, is, same)
    ];
    earlier = λ i j n peer line a prompt b le. elim (which j peer line b) [
      | inl old ↦
          let low : line ≤ core.progress.event_line = note_low commands core noted j peer line old in
          dated.earlier i j n peer line (before i n a prompt (omega (arith, le, low))) prompt old le
      | inr new ↦
          let is : line ≡ core.progress.event_line = new.1 in
          let high : length (told_of core) ≤ j = new.0 in
          let o : IsOfLine (told_of core) i n = before i n a prompt (omega (arith, le, is)) in
          let low : i < length (told_of core) = slice_get_within (told_of core) i o.entry o.at in
          omega (arith, low, high)
    ];
  }

  pub dated_on : AreDated commands (told_of after)
  dated_on = subst (λ es. AreDated commands es) (sym grows.told) both

-- ---- as a core opens, and a part of what was told

pub dated_first : (commands : ℕ → Option Command) (core : Core) → client_op (commands 0) ≡ None → core.progress.event_line ≡ 0 → IsInTurn commands core → AreDated commands (told_of core)
dated_first commands core nobody zero turn = record {
  later = λ i j n peer line a b lt. let up : n < core.progress.event_line + 1 = turn.turns.begun i n a in omega (arith, up, zero);
  earlier = λ i j n peer line a prompt b le.
      let up : n < core.progress.event_line + 1 = turn.turns.begun i n a in
      let none : n ≡ 0 = omega (arith, up, zero) in
      absurd (subst (λ o. IsPrompt o) (ap (λ k. client_op (commands k)) none ∙ nobody) prompt);
}

pub down_left : (xs ys : List JournalEntry) (j peer line : ℕ) → IsDownAt xs j peer line → IsDownAt (xs ++ ys) j peer line
down_left xs ys j peer line b = record { note = b.note; at = at_left xs ys j b.note b.at; store = b.store; told = b.told }

pub dated_left : (commands : ℕ → Option Command) (xs ys : List JournalEntry) → AreDated commands (xs ++ ys) → AreDated commands xs
dated_left commands xs ys dated = record {
  later = λ i j n peer line a b lt. dated.later i j n peer line (of_left xs ys i n a) (down_left xs ys j peer line b) lt;
  earlier = λ i j n peer line a prompt b le. dated.earlier i j n peer line (of_left xs ys i n a) prompt (down_left xs ys j peer line b) le;
}
