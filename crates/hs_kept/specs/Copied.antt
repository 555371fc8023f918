-- What a copy of a root comes to in the words of the plain store, where the disks of both stores tell their contents, and are sound and open alike at entry.
use Rattle.std.specs.Prelude.{List, Option, ℕ, ◌≡◌, ◌⊎◌}
use Rattle.hs_copy.specs.Copied.{IsCopied}
use Rattle.hs_copy.specs.Writing.{IsCopyRefusal}
use Rattle.hs_copy.specs.Listing.{KeepsItsOwn}
use Rattle.hs_files.specs.Client.{IsUnanswered}
use Rattle.hs_files.specs.Copied.{CopiesRoot, IsInFirst, Shapes, in_first, in_second}
use Rattle.hs_limits.specs.declared.address.Address.{Address}
use Rattle.hs_limits.specs.declared.shape.Shape.{Shape}
use Rattle.hs_model.specs.declared.command.Command.{Command}
use Rattle.hs_model.specs.declared.reply.Reply.{Reply}
use Rattle.hs_model.specs.declared.reply.Reply.TheVariants as reply
use Rattle.hs_promise.specs.Run.{Ran}
use Rattle.hs_promise.specs.declared.status.Status.TheVariants as status
use Rattle.hs_tree.specs.Growing.{KeepsRoots}
use Rattle.hs_kept.specs.Kept.{AsksPlainly, IsSoundStart, StartsAlike, store_before, store_behind}
use Rattle.hs_kept.specs.Stopped.{AtMoments, StopsAlone}

-- the disks of both hold bytes, and have sound lists
pub record AreSoundStarts (name : List ℕ → Address) (shapes : Shapes) (r : Ran) : Type 0 where
  pub first : IsSoundStart name shapes.first (in_first shapes.first r.ending r)
  pub second : IsSoundStart name shapes.second (in_second shapes.first r.ending r)

-- what was asked of either store is a legal run of the plain store, with its answers; behind them the key is copied from the first into the second
pub record HasRootOf (tells : Type 0) (name : List ℕ → Address) (shapes : Shapes) (key : List ℕ) (r : Ran) : Type 0 where
  pub one : Ran
  pub in_it : IsInFirst shapes.first r one
  pub reads : ℕ → Option Command
  pub read : AsksPlainly tells name shapes.first one reads
  pub writes : ℕ → Option Command
  pub written : AsksPlainly tells name shapes.second (in_second shapes.first r.ending r) writes
  pub copied : IsCopied (store_behind name shapes.first reads one) (store_behind name shapes.second writes (in_second shapes.first r.ending r)) key

pub record CopiesPlainly (tells : Type 0) (name : List ℕ → Address) (shapes : Shapes) (key : List ℕ) (r : Ran) : Type 0 where
  pub done : r.ending ≡ status.Done → HasRootOf tells name shapes key r
  pub refusal : (told : Reply) → r.ending ≡ status.Refused told → (told ≡ reply.NoKey key) ⊎ IsCopyRefusal key told

-- ---- the first store

-- behind what was answered it has each root and block that a root kept at its opening, and at each moment of it each key keeps what it kept
pub record StaysItself (tells : Type 0) (name : List ℕ → Address) (shape : Shape) (one : Ran) (reads : ℕ → Option Command) (asks : AsksPlainly tells name shape one reads) : Type 0 where
  pub behind : KeepsItsOwn (store_before name shape one) (store_behind name shape reads one)
  pub stopped : AtMoments tells name shape one reads asks (KeepsRoots (store_before name shape one))
  pub alone : StopsAlone tells name shape one reads asks

-- of what was asked of the first store nothing was answered; or it is a legal run of the plain store, and the store stays itself
pub data FirstStays (tells : Type 0) (name : List ℕ → Address) (shapes : Shapes) (r : Ran) : Type 0 where
  Unasked : IsUnanswered (in_first shapes.first r.ending r) → FirstStays tells name shapes r
  Asked : (one : Ran) → IsInFirst shapes.first r one → (reads : ℕ → Option Command) → (asks : AsksPlainly tells name shapes.first one reads) → StaysItself tells name shapes.first one reads asks → FirstStays tells name shapes r

-- ---- all that is promised

-- with what the command itself promises, all that is promised of it
pub record CopiesAndKeeps (tells : Type 0) (name : List ℕ → Address) (shapes : Shapes) (key : List ℕ) (every : Option ℕ) (r : Ran) : Type 0 where
  pub copies : CopiesRoot tells name shapes key every r
  pub plainly : tells → StartsAlike shapes.first (in_first shapes.first r.ending r) → StartsAlike shapes.second (in_second shapes.first r.ending r) → AreSoundStarts name shapes r → CopiesPlainly tells name shapes key r
  pub stays : tells → StartsAlike shapes.first (in_first shapes.first r.ending r) → IsSoundStart name shapes.first (in_first shapes.first r.ending r) → FirstStays tells name shapes r
