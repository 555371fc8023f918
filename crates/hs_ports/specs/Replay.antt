-- One side of a disk in memory: what the calls so far made of it.
use Rattle.std.specs.Prelude.{ℕ, ◌+◌, Bool, not, ◌&&◌, ◌||◌, nat_lt, nat_eq, max, if◌then◌else◌, List, [], ◌∷◌, length, take}
use Rattle.hs_ports.specs.declared.change.Deed.{Deed}
use Rattle.hs_ports.specs.declared.change.Deed.TheVariants as deed
use Rattle.hs_ports.specs.Disk.{Loose, settled, written, shortened, overwritten}
use Rattle.hs_ports.specs.Called.{Called}

-- a side: its bytes before the first call, and the calls that changed it, the newest first
pub record Track : Type 0 where
  pub first : List ℕ
  pub calls : List Called

-- what a read gives after this deed, where it gave these bytes before
abbrev pub seen_after : Deed → List ℕ → List ℕ
seen_after (deed.Wrote at bytes) seen = overwritten at bytes seen
seen_after (deed.Cut len) seen = take len seen
seen_after deed.Synced seen = seen
seen_after (deed.WriteFailed at len) seen = seen
seen_after (deed.CutFailed len) seen = seen
seen_after deed.SyncFailed seen = seen

-- what a crash may leave after it
abbrev pub loose_after : Deed → List ℕ → Loose → Loose
loose_after (deed.Wrote at bytes) seen loose = written at (length bytes) loose
loose_after (deed.Cut len) seen loose = shortened len loose
loose_after deed.Synced seen loose = settled seen
loose_after (deed.WriteFailed at len) seen loose = written at len loose
loose_after (deed.CutFailed len) seen loose = shortened len loose
loose_after deed.SyncFailed seen loose = loose

-- what a crash may leave while it acts
abbrev pub loose_during : Deed → Loose → Loose
loose_during (deed.Wrote at bytes) loose = written at (length bytes) loose
loose_during (deed.Cut len) loose = shortened len loose
loose_during deed.Synced loose = loose
loose_during (deed.WriteFailed at len) loose = written at len loose
loose_during (deed.CutFailed len) loose = shortened len loose
loose_during deed.SyncFailed loose = loose

-- what a read gives after these calls
unfoldable pub seen_by : List ℕ → List Called → List ℕ
seen_by first [] = first
seen_by first (call ∷ older) = seen_after call.deed (seen_by first older)

-- what a crash may leave after them
unfoldable pub loose_by : List ℕ → List Called → Loose
loose_by first [] = settled first
loose_by first (call ∷ older) = loose_after call.deed (seen_by first older) (loose_by first older)

-- the moment of the last of them
unfoldable pub last_by : List Called → ℕ
last_by [] = 0
last_by (call ∷ older) = max (last_by older) call.moment

-- a call left what could be left at this moment as it was
abbrev pub is_earlier : Called → List Called → ℕ → Bool
is_earlier call older m = nat_lt m call.moment || (not call.kept && nat_lt m (last_by older + 1))

-- what a crash at a moment may have left
unfoldable pub past_by : List ℕ → List Called → ℕ → Loose
past_by first [] m = settled first
past_by first (call ∷ older) m =
    if is_earlier call older m then past_by first older m
    else (if nat_eq m call.moment then loose_during call.deed (loose_by first older)
    else loose_after call.deed (seen_by first older) (loose_by first older))
