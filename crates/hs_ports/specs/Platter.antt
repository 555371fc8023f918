-- What one side of a disk in memory keeps.
use Rattle.std.specs.Prelude.{◌≡◌, Bool, false, if◌then◌else◌, ℕ, List, [], ◌∷◌, ◌++◌, Option, None, Some}
use Rattle.hs_ports.specs.declared.change.Change.{Change}
use Rattle.hs_ports.specs.declared.change.Deed.{Deed}
use Rattle.hs_ports.specs.declared.change.Deed.TheVariants as deed
use Rattle.hs_ports.specs.Disk.{Loose}
use Rattle.hs_ports.specs.Replay.{Track, seen_by, loose_by, last_by, past_by}
use Rattle.hs_ports.specs.Called.{Called}

-- what a read gives
unfoldable pub seen_of : Track → List ℕ
seen_of track = seen_by track.first track.calls

-- what a crash may leave from now on
unfoldable pub loose_of : Track → Loose
loose_of track = loose_by track.first track.calls

-- the moment of the last call
unfoldable pub last_of : Track → ℕ
last_of track = last_by track.calls

-- what a crash at a moment may have left
unfoldable pub past_of : Track → ℕ → Loose
past_of track m = past_by track.first track.calls m

-- one call more
abbrev pub after : ℕ → Deed → Bool → Track → Track
after moment deed kept track =
    record track { calls = record { moment = moment; deed = deed; kept = kept } ∷ track.calls }

-- a deed of a call that failed
abbrev pub IsFailed : Deed → Type 0
IsFailed (deed.Wrote at bytes) = ⊥
IsFailed (deed.Cut len) = ⊥
IsFailed deed.Synced = ⊥
IsFailed (deed.WriteFailed at len) = Unit {0}
IsFailed (deed.CutFailed len) = Unit {0}
IsFailed deed.SyncFailed = Unit {0}

-- the first bytes: those of now until they are kept apart
abbrev pub first_of : Option (List ℕ) → List ℕ → List ℕ
first_of None now = now
first_of (Some first) now = first

-- the calls that the record has, in order
unfoldable pub kept_of : List Called → List Change
kept_of [] = []
kept_of (call ∷ older) =
    if call.kept then kept_of older ++ record { moment = call.moment; deed = call.deed } ∷ []
    else kept_of older

-- each call that the record hasn't has failed
unfoldable pub AreLostFailed : List Called → Type 0
AreLostFailed [] = Unit {0}
AreLostFailed (call ∷ older) = (call.kept ≡ false → IsFailed call.deed) × AreLostFailed older

-- the bytes are those of the calls, and the record has its part of them
pub record IsReplayed (first now : List ℕ) (changes : List Change)
    (calls : List Called) : Type 0 where
  pub bytes : now ≡ seen_by first calls
  pub record_part : changes ≡ kept_of calls
  pub lost : AreLostFailed calls
