-- Operations asked one after another, and their answers.
use Rattle.std.specs.Prelude.{◌≡◌, ℕ, ◌-◌, ⊤, Bool, true, false, List, [], ◌∷◌, ◌++◌, count_by, map, Option, Some, None, Result, Ok, Err}
use Rattle.hs_limits.specs.declared.address.Held.{Held}
use Rattle.hs_model.specs.Deed.{deed_of}
use Rattle.hs_model.specs.Judge.{asked_of}
use Rattle.hs_model.specs.declared.deed.Deed.{Deed}
use Rattle.hs_model.specs.declared.deed.Deed.TheVariants as deed
use Rattle.hs_model.specs.declared.op.Op.{Op}
use Rattle.hs_model.specs.declared.reply.Reply.{Reply}
use Rattle.hs_desk.specs.Tokens.{answered, newly_held}
use Rattle.hs_desk.specs.declared.token.Token.{Token}
use Rattle.hs_script.specs.declared.sums.WriterSum.{WriterSum}
use Rattle.hs_workers.specs.declared.fault.WorkFault.{WorkFault}
use Rattle.hs_workers.specs.declared.fault.WorkFault.TheVariants as fault

-- ---- one operation

-- nothing was answered: what the token keeps and holds is as before
abbrev pub LeavesAnswers : Token → Token → WorkFault → Type 0
LeavesAnswers old new (fault.Core f) = new ≡ record old { asked = new.asked; number = new.number; fault = Some f }
LeavesAnswers old new (fault.Torn place told kept) = ⊥
LeavesAnswers old new fault.NoMemory = new ≡ record old { asked = new.asked; number = new.number }

-- an operation was begun, or not begun
abbrev pub HasBegun : Op → Token → Token → Result ℕ WorkFault → Type 0
HasBegun o old new (Ok number) = new ≡ record old { asked = Some (asked_of o); number = number }
HasBegun o old new (Err why) = LeavesAnswers old new why

-- an operation was asked for and answered, or not answered
abbrev pub AsksOnce : Op → Token → Token → Result Reply WorkFault → Type 0
AsksOnce o old new (Ok reply) = (number : ℕ) × (place : ℕ) × (new ≡ record (answered place (asked_of o) reply old) { number = number })
AsksOnce o old new (Err why) = LeavesAnswers old new why

-- the fault that a token has at the end, where the book has ended
abbrev pub HasFault : Token → WorkFault → Type 0
HasFault new (fault.Core f) = new.fault ≡ Some f
HasFault new (fault.Torn place told kept) = ⊥
HasFault new fault.NoMemory = ⊤

-- ---- lists of answers

-- an answer: its place in the journal, its deed and its reply
abbrev pub KeptAnswer : Type 0
KeptAnswer = ℕ × Deed × Reply

abbrev pub replies_of : List KeptAnswer → List Reply
replies_of items = map (λ item. item.2) items

-- an answer is that of an operation, where these are held
abbrev pub IsAnswerOf : List Held → Option Op → KeptAnswer → Type 0
IsAnswerOf held None item = ⊥
IsAnswerOf held (Some o) item = item.1 ≡ deed_of held (asked_of o) item.2

-- what is held behind an answer
abbrev pub held_behind : List Held → Option Op → Reply → List Held
held_behind held None reply = held
held_behind held (Some o) reply = held ++ newly_held (asked_of o) reply

module _ (next : List Reply → Option Op) where
  -- each of these answers that of the operation that is asked for behind the replies before it, where these are held; and what is held behind all
  abbrev pub Follow : List Reply → List Held → List KeptAnswer → List Held → Type 0
  Follow replies held [] held' = held' ≡ held
  Follow replies held (item ∷ items) held' = IsAnswerOf held (next replies) item × Follow (replies ++ item.2 ∷ []) (held_behind held (next replies) item.2) items held'

  -- what a token kept grew by these, each the answer to what is asked for behind those before it
  pub record Asks (old new : Token) (items : List KeptAnswer) : Type 0 where
    pub answers : Follow [] old.held items new.held
    pub kept : new.kept ≡ old.kept ++ items
    pub session : new.session ≡ old.session

  -- so as far as it goes
  pub record AsksSome (old new : Token) : Type 0 where
    pub items : List KeptAnswer
    pub asked : Asks old new items

  -- so to the end: nothing waits for an answer, and nothing more is asked for
  pub record AsksAll (old new : Token) : Type 0 where
    pub items : List KeptAnswer
    pub asked : Asks old new items
    pub rests : new.asked ≡ None
    pub calm : new.fault ≡ old.fault
    pub none : next (replies_of items) ≡ None

  -- how asking ends: with nothing more to ask for, or with a fault
  abbrev pub HasEnded : {T : Type 0} → Token → Token → Result T WorkFault → Type 0
  HasEnded old new (Ok x) = AsksAll old new
  HasEnded old new (Err why) = AsksSome old new × HasFault new why

-- ---- what a writer did

-- whether a deed kept a file's root, and whether it gave one up
unfoldable pub roots_file : Deed → Bool
roots_file (deed.Opened name) = false
roots_file (deed.Closed name) = false
roots_file (deed.Wrote name address pointers handle) = false
roots_file (deed.Marked name address handle) = false
roots_file (deed.ReadBlock name address epoch handles) = false
roots_file (deed.Looked name key handle) = false
roots_file (deed.Rooted key address) = true
roots_file (deed.Dropped key) = false
roots_file (deed.Forgot name handle) = false
roots_file (deed.Entered shard) = false
roots_file (deed.Swept shard) = false
roots_file (deed.Refused asked) = false
roots_file deed.Nothing = false

unfoldable pub drops_file : Deed → Bool
drops_file (deed.Opened name) = false
drops_file (deed.Closed name) = false
drops_file (deed.Wrote name address pointers handle) = false
drops_file (deed.Marked name address handle) = false
drops_file (deed.ReadBlock name address epoch handles) = false
drops_file (deed.Looked name key handle) = false
drops_file (deed.Rooted key address) = false
drops_file (deed.Dropped key) = true
drops_file (deed.Forgot name handle) = false
drops_file (deed.Entered shard) = false
drops_file (deed.Swept shard) = false
drops_file (deed.Refused asked) = false
drops_file deed.Nothing = false

-- how many files were rooted by these answers, and how many of them were not dropped
abbrev pub sum_of : List KeptAnswer → WriterSum
sum_of items =
    let roots : ℕ = count_by (λ item. roots_file item.1) items in
    record { files = roots; kept = roots - count_by (λ item. drops_file item.1) items }
