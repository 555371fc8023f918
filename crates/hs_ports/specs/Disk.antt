-- What a disk is: what reads give, and what a crash may leave on it at each moment.
use Rattle.std.specs.Prelude.{◌≡◌, ◌⊎◌, ⊤, ℕ, ◌+◌, ◌-◌, ◌^◌, ◌<◌, ◌≤◌, min, max, List, [], ◌∷◌, ◌++◌, length, take, drop, slice_index_or}
use Rattle.hs_ports.specs.declared.disk.Side.{Side}
use Rattle.hs_ports.specs.declared.disk.Side.TheVariants.{Zero, One}

-- the other side
abbrev pub other_side : Side → Side
other_side Zero = One
other_side One = Zero

-- what a crash may leave on a side, by what was done since the last sync that succeeded
pub record Loose : Type 0 where
  -- the bytes then
  pub base : List ℕ
  -- the least and the greatest length since
  pub least : ℕ
  pub most : ℕ
  -- each write since: its place and its length
  pub ranges : List (ℕ × ℕ)

-- none of these ranges has this place
abbrev pub IsOutside : List (ℕ × ℕ) → ℕ → Type 0
IsOutside [] i = ⊤
IsOutside (range ∷ ranges) i = ((i < range.0) ⊎ (range.0 + range.1 ≤ i)) × IsOutside ranges i

-- the byte at a place, and 0 past the end
abbrev pub byte_at : List ℕ → ℕ → ℕ
byte_at bytes i = slice_index_or bytes i 0

-- a crash may leave this content: any bytes in the ranges and past the least length
pub record IsImage (loose : Loose) (content : List ℕ) : Type 0 where
  pub no_shorter : loose.least ≤ length content
  pub no_longer : length content ≤ loose.most
  pub kept : (i : ℕ) → i < loose.least → IsOutside loose.ranges i
      → byte_at content i ≡ byte_at loose.base i

-- the whole meaning of a disk
pub record Standing : Type 0 where
  -- what a read gives
  pub seen : Side → List ℕ
  -- what a crash may leave from now on
  pub loose : Side → Loose
  -- what a crash at a moment may have left
  pub past : ℕ → Side → Loose
  -- the moment of the last call that changes the disk
  pub last : ℕ

-- after a sync: these bytes and nothing else
abbrev pub settled : List ℕ → Loose
settled bytes = record { base = bytes; least = length bytes; most = length bytes; ranges = [] }

-- after a write of n bytes at a place, whether it was done or failed
abbrev pub written : ℕ → ℕ → Loose → Loose
written at n loose = record loose { most = max loose.most (at + n); ranges = (at, n) ∷ loose.ranges }

-- after a cut to a length, whether it was done or failed
abbrev pub shortened : ℕ → Loose → Loose
shortened len loose = record loose { least = min loose.least len }

-- the old bytes with these written over them from a place on
abbrev pub overwritten : ℕ → List ℕ → List ℕ → List ℕ
overwritten at bytes old = take at old ++ bytes ++ drop (at + length bytes) old

-- from low to high
pub record IsBetween (low high n : ℕ) : Type 0 where
  pub no_less : low ≤ n
  pub no_more : n ≤ high

-- a write of n bytes failed: any bytes in its range, and the same elsewhere
pub record Torn (at n : ℕ) (old new : List ℕ) : Type 0 where
  pub front : take at new ≡ take at old
  pub back : drop (at + n) new ≡ drop (at + n) old
  pub no_shorter : length old ≤ length new
  pub no_longer : length new ≤ max (length old) (at + n)

-- a cut failed: any bytes past the length, and a length between
pub record Clipped (len : ℕ) (old new : List ℕ) : Type 0 where
  pub front : take len new ≡ take len old
  pub no_shorter : len ≤ length new
  pub no_longer : length new ≤ length old

-- n bytes were read from a side of this size; how many, and where they went
pub record HasRead (size at max : ℕ) (held held' : List ℕ) (n : ℕ) : Type 0 where
  pub front : take (length held) held' ≡ held
  pub count : length held' ≡ length held + n
  pub bound : n ≤ max
  pub within : n ≤ size - at
  pub some : at < size → 0 < n

-- a call at the moment now: a crash during it leaves an image of during, and the history
-- before it is as it was; nothing is said of the last moment of a u64
pub record Happens (side : Side) (now : ℕ) (during : Loose) (old new : Standing) : Type 0 where
  pub last : new.last ≡ now
  pub here : now < 2 ^ 64 - 1 → new.past now side ≡ during
  pub earlier : (m : ℕ) → m < now → new.past m side ≡ old.past m side

-- a call did nothing to this side
pub record Untouched (side : Side) (old new : Standing) : Type 0 where
  pub seen : new.seen side ≡ old.seen side
  pub loose : new.loose side ≡ old.loose side
  pub past : (m : ℕ) → new.past m side ≡ old.past m side
