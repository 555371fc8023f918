-- Tails: what a list of a shard has behind all that took effect, whichever peer has it.
use Rattle.std.specs.List.{enumerate_from}
use Rattle.std.specs.Prelude.{◌≡◌, ℕ, ◌+◌, ◌++◌, ◌≤◌, All, AllPairs, List, Option, Some, None, true, count_by, length, slice_get, take}
use Rattle.hs_answered.specs.Telling.{Judging}
use Rattle.hs_awaiting.specs.declared.waiting.Waiting.{Waiting}
use Rattle.hs_core_words.specs.declared.event.Event.{Event}
use Rattle.hs_core_words.specs.declared.event.Event.TheVariants.{Line}
use Rattle.hs_core_words.specs.Looking.{front_of, group_of, operation_of}
use Rattle.hs_core_words.specs.Operating.{answer}
use Rattle.hs_core_words.specs.State.{Core}
use Rattle.hs_effects.specs.Lawful.{AreOfHistory}
use Rattle.hs_effects.specs.Logged.{asked_by}
use Rattle.hs_effects.specs.Taking.{setting_of}
use Rattle.hs_entry.specs.declared.entry.Entry.{Entry}
use Rattle.hs_fold.specs.Lawful.{Ascends, Deed}
use Rattle.hs_fold.specs.Runs.Catalogue.{apply_all}
use Rattle.hs_fold.specs.Runs.Facts.{Catalogue as Folded}
use Rattle.hs_fold.specs.Runs.Fits.{catalogue_at}
use Rattle.hs_fold.specs.Runs.History.{FitAll, follow_all, no_entries}
use Rattle.hs_fold.specs.Runs.Rounds.{is_accepted}
use Rattle.hs_fold.specs.Shards.Setting.{Setting, shard_in}
use Rattle.hs_fold.specs.Shards.Sound.{most_records}
use Rattle.hs_joint.specs.Along.{KeepFewRecords}
use Rattle.hs_limits.specs.declared.address.Address.{Address}
use Rattle.hs_model.specs.declared.op.Op.{Op}
use Rattle.hs_model.specs.declared.reply.Reply.{Reply}
use Rattle.hs_model.specs.Store.{Store}
use Rattle.hs_replica.specs.Kinds.{is_root}
use Rattle.hs_rounds.specs.declared.body.RoundBody.{RoundBody}
use Rattle.hs_rounds.specs.declared.place.Place.{Place}
use Rattle.hs_standing.specs.Legal.{IsStanding}
use Rattle.hs_standing.specs.Rests.{IsResting}
use Rattle.hs_standing.specs.Sent.{WasSent, got_of}

-- the Got of a round stands at a place of a tail
abbrev pub IsGotAt : List Entry → ℕ → Place → RoundBody → Type 0
IsGotAt tail at place told = slice_get tail at ≡ Some (got_of place told)

-- of these folds, which a lawful history gives, and behind so many entries that took effect: each entry of a tail has what it rests on; each Got of it was sent and would be accepted, and no two are of one sender's round; its Roots with the root records are no more than a shard takes
pub record TailRests (set : Setting) (cs : List Folded) (shard front : ℕ) (tail : List Entry) : Type 0 where
  pub lawful : AreOfHistory set cs
  pub rests : (at : ℕ) (entry : Entry) → slice_get tail at ≡ Some entry → IsResting cs shard front entry
  pub gots : (at : ℕ) (place : Place) (told : RoundBody) → IsGotAt tail at place told → WasSent set lawful.history shard place told
  pub due : (at : ℕ) (place : Place) (told : RoundBody) → IsGotAt tail at place told → is_accepted set.shape.shards (catalogue_at cs shard) place ≡ true
  pub once : (at other : ℕ) (place : Place) (told more : RoundBody) → IsGotAt tail at place told → IsGotAt tail other place more → at ≡ other
  pub few : length (catalogue_at cs shard).roots + count_by is_root tail ≤ most_records

-- so in a core
abbrev pub RestsIn : (List ℕ → Address) → Core → List Folded → ℕ → List Entry → Type 0
RestsIn name core cs shard tail = TailRests (setting_of name core) cs shard (front_of shard core) tail

-- a line has an operation without an answer, at this shard
pub record IsOpenAt (core : Core) (shard line : ℕ) : Type 0 where
  pub waiting : Waiting
  pub at : operation_of line core ≡ Some waiting
  pub judges : waiting.shard ≡ shard

-- each line that asked for an entry of a tail is open at its shard, and asked for one entry of it
pub record HasOpenLines (core : Core) (shard : ℕ) (tail : List Entry) : Type 0 where
  pub asked : (at line : ℕ) (entry : Entry) → slice_get tail at ≡ Some entry → asked_by entry ≡ Some line → IsOpenAt core shard line
  pub once : (at other line : ℕ) (one more : Entry) → slice_get tail at ≡ Some one → slice_get tail other ≡ Some more → asked_by one ≡ Some line → asked_by more ≡ Some line → at ≡ other

-- a client's line that comes has no operation yet
abbrev pub IsNew : Option Event → Core → Type 0
IsNew event core = (line : ℕ) (o : Op) → event ≡ Some (Line line o) → operation_of line core ≡ None

-- a line is answered
pub record IsAnswered (old new : Core) (line : ℕ) : Type 0 where
  pub waiting : Waiting
  pub reply : Reply
  pub is : new ≡ answer line waiting reply old

-- no line that asked for an entry of a tail is answered
abbrev pub AnswersNone : Core → Core → List Entry → Type 0
AnswersNone old new tail = (at line : ℕ) (entry : Entry) → slice_get tail at ≡ Some entry → asked_by entry ≡ Some line → IsAnswered old new line → ⊥

-- a lawful history gives these folds, in which the numbers of each shard ascend, up to so many at most
pub record AreAscending (set : Setting) (front : ℕ → ℕ) (cs : List Folded) : Type 0 where
  pub history : List Deed
  pub ascends : AllPairs Ascends history
  pub within : All (λ deed. deed.number ≤ front deed.shard) history
  pub fits : FitAll set (no_entries set) history
  pub records : KeepFewRecords set (no_entries set) history
  pub gives : follow_all set (no_entries set) history ≡ cs

-- a core has become one that stands with some folds; some entries of each shard took effect meanwhile, which the folds behind have more, and a history that gave the folds goes on with them; and of each tail that rested on these folds and began with them the rest rests
pub record TailsGoOn (by : Judging) (start : Store) (old new : Core) (cs : List Folded) : Type 0 where
  pub after : List Folded
  pub stands : IsStanding by start new after
  pub took : ℕ → List Entry
  pub fronts : (shard : ℕ) → front_of shard new ≡ front_of shard old + length (took shard)
  pub folds : (shard : ℕ) → catalogue_at after shard ≡ apply_all (shard_in (setting_of by.name new) shard) (catalogue_at cs shard) (enumerate_from (front_of shard old + 1) (took shard))
  pub rests : (shard : ℕ) (tail rest : List Entry) → RestsIn by.name old cs shard tail → tail ≡ took shard ++ rest → RestsIn by.name new after shard rest
  pub history : AreAscending (setting_of by.name new) (λ shard. front_of shard old) cs → AreAscending (setting_of by.name new) (λ shard. front_of shard new) after

-- so by one event: what took effect waited first as it came
pub record TakesFirst (by : Judging) (start : Store) (old new : Core) (cs : List Folded) : Type 0 where
  pub gone : TailsGoOn by start old new cs
  pub first : (shard : ℕ) → gone.took shard ≡ take (length (gone.took shard)) (group_of shard old).waiting
