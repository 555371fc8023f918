-- What an ask does to what an asker tells.
use Rattle.std.specs.List.{AllByRecursion}
use Rattle.std.specs.Prelude.{ℕ, ◌<◌, ◌≡◌, List, ◌∷◌, ◌++◌, Some, IsSome}
use Rattle.hs_journal.specs.Events.{addressed, client_op}
use Rattle.hs_journal.specs.declared.entry.JournalEntry.{JournalEntry}
use Rattle.hs_journal.specs.declared.entry.Who.TheVariants as who
use Rattle.hs_model.specs.declared.op.Op.{Op}
use Rattle.hs_model.specs.declared.op.Op.TheVariants as op
use Rattle.hs_model.specs.declared.reply.Reply.{Reply}
use Rattle.hs_asking.specs.Shown.{IfTold, Shown, store_now}
use Rattle.hs_asking.specs.Telling.{MayBeTold}

-- ---- what may be asked

-- a write is handed an address
abbrev pub HasAddress : Op → Type 0
HasAddress (op.Write name payload handles address) = IsSome address
HasAddress other = Unit {0}

-- and where the store is told it is the one by which the write is judged: that of its block
abbrev pub IsNamed : {tells : Type 0} → Shown tells → Op → Type 0
IsNamed s o = HasAddress o × IfTold s (λ b. addressed b.name (store_now b s) o ≡ o)

-- ---- what is answered

-- an entry of no line
abbrev pub IsOfNoLine : JournalEntry → Type 0
IsOfNoLine entry = (line : ℕ) → entry.who ≡ who.Line line → ⊥

-- an entry of another line
abbrev pub IsOfAnother : ℕ → JournalEntry → Type 0
IsOfAnother line entry = entry.who ≡ who.Line line → ⊥

-- the journal gets one entry of a line, a new one whose client asks for this operation, and its reply is the answer, which may be told of it;
-- the entries around it are of no line, and what other lines ask for stays
pub record HasAsked {tells : Type 0} (old new : Shown tells) (o : Op) (told : Reply) : Type 0 where
  pub line : ℕ
  pub front : List JournalEntry
  pub entry : JournalEntry
  pub back : List JournalEntry
  pub journal : new.journal ≡ old.journal ++ (front ++ entry ∷ back)
  pub before : AllByRecursion IsOfNoLine front
  pub behind : AllByRecursion IsOfNoLine back
  pub of_line : entry.who ≡ who.Line line
  pub unused : AllByRecursion (IsOfAnother line) old.journal
  pub asks : client_op (new.commands line) ≡ Some o
  pub others : (other : ℕ) → (other ≡ line → ⊥) → client_op (new.commands other) ≡ client_op (old.commands other)
  pub answer : entry.reply ≡ told
  pub may : MayBeTold o told

-- whether it is answered or not, its line is a new one, above each that a client asked by, and asks for this operation; the journal goes on, and what other lines ask for stays
pub record HasBegun {tells : Type 0} (old new : Shown tells) (o : Op) : Type 0 where
  pub line : ℕ
  pub more : List JournalEntry
  pub above : (other : ℕ) → IsSome (client_op (old.commands other)) → other < line
  pub journal : new.journal ≡ old.journal ++ more
  pub unused : AllByRecursion (IsOfAnother line) old.journal
  pub asks : client_op (new.commands line) ≡ Some o
  pub others : (other : ℕ) → (other ≡ line → ⊥) → client_op (new.commands other) ≡ client_op (old.commands other)
