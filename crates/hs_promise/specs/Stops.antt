-- Clause 3, a stop: what it leaves, at every moment of a run.
use Rattle.std.specs.Prelude.{All, AllPairs, IsSome, List, Option, length, map, ℕ, ◌<◌, ◌≡◌, ◌≢◌}
use Rattle.hs_entry.specs.declared.entry.Entry.{Entry}
use Rattle.hs_fold.specs.Good.{taken_below}
use Rattle.hs_fold.specs.Images.{image_at}
use Rattle.hs_fold.specs.Runs.Opened.{opened}
use Rattle.hs_fold.specs.Shards.Happening.{Happening, happen_all, happenings}
use Rattle.hs_fold.specs.Shards.Images.{AreGoodImages, Image, IsGoodImage, Stop}
use Rattle.hs_fold.specs.Shards.Pending.{AreOneRun, changing_lines}
use Rattle.hs_fold.specs.Shards.Setting.{Numbered}
use Rattle.hs_model.specs.Store.{Store, reborn}
use Rattle.hs_side.specs.Current.{list_in}
use Rattle.hs_sound.specs.Stay.{AreSoundAlong}
use Rattle.hs_promise.specs.Answers.{events_in, store_after}
use Rattle.hs_promise.specs.Awaited.{IsAwaited}
use Rattle.hs_promise.specs.Entry.{counted_course, is_aside}
use Rattle.hs_journal.specs.Moments.{below}
use Rattle.hs_fold.specs.Shards.Outstanding.{MayPend, pending}
use Rattle.hs_events.specs.Taken.{or_blank, taken_lists}
use Rattle.hs_promise.specs.Headers.{IsOwnAtEntry, IsOwnImage}
use Rattle.hs_promise.specs.Run.{Ran, Script}
use Rattle.hs_ports.specs.Objects.{IsDuring}

-- a stop of a run at a moment
abbrev pub stop_at : Script → Ran → ℕ → Stop
stop_at S r moment = record { course = counted_course S r; aside = is_aside S r; moment = moment; disks = r.new.disks }

-- the logs of images, and what is pending of those that count: the entries behind the last that took effect below the moment
abbrev pub image_logs : List Image → List (Option Numbered)
image_logs images = map list_in images

abbrev pub pending_at : Script → Ran → ℕ → List Image → List (Entry × Option Happening)
pending_at S r moment images = pending S.set (taken_below (counted_course S r) moment) 0 (taken_lists S.set.shape (image_logs images))

-- the images open at the store after the journal below the moment and then what is pending, all of it one legal run, and the next run may begin with them
pub record Reopens (S : Script) (entry : Store) (r : Ran) (moment : ℕ) (images : List Image) : Type 0 where
  pub stands : opened S.set (or_blank (image_logs images))
      ≡ reborn (happen_all (store_after S entry (below moment r.journal)) (happenings (pending_at S r moment images)))
  pub legal : AreOneRun S.set.limits entry (events_in S entry (below moment r.journal)) (happenings (pending_at S r moment images))
  pub sound : AreSoundAlong S.set (taken_lists S.set.shape (image_logs images))
  pub awaited : All (λ e. MayPend (IsAwaited S r moment) e.0) (pending_at S r moment images)
  pub once : AllPairs (λ one other. one ≢ other) (changing_lines (pending_at S r moment images))

-- at each moment of the call, whatever images count then: those of good peers are logs, each under its peer's header where a stop at entry left no other there, and all together reopen
pub record Stops (S : Script) (entry : Store) (r : Ran) : Type 0 where
  pub logs : (m peer : ℕ) → IsDuring r.old r.new m → (images : List Image) → peer < length r.new.disks
      → IsGoodImage (stop_at S r m) images peer → IsSome (list_in (image_at images peer))
  pub headed : (m peer : ℕ) → IsDuring r.old r.new m → IsOwnAtEntry S r peer → (images : List Image) → IsGoodImage (stop_at S r m) images peer → IsOwnImage S peer (image_at images peer)
  pub reopens : (m : ℕ) → IsDuring r.old r.new m → (images : List Image) → AreGoodImages S.set.shape (stop_at S r m) images
      → Reopens S entry r m images
