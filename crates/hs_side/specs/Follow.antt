-- Which entry may stand in the next frame.
use Rattle.std.specs.Prelude.{ℕ, ◌+◌, ◌-◌, Bool, true, false, List, [], ◌∷◌, Option, None, Some, nat_lt, nat_le, ◌==◌, ◌&&◌, if◌then◌else◌}
use Rattle.std.specs.List.{list_any}
use Rattle.std.specs.Option.{option_and_then}
use Rattle.hs_entry.specs.declared.entry.Entry.{Entry}
use Rattle.hs_entry.specs.declared.entry.Entry.TheVariants.{View, Block, Mark, Root, Drop, Enter, Got, Base, KeptBlock, KeptRoot, KeptRound}

-- what the frames so far leave open
pub record Follow : Type 0 where
  -- there is no frame yet
  pub first : Bool
  -- the number of the last ordinary entry or of the Base, and 0 at first
  pub last : ℕ
  -- the kept frames that the Base tells and that are still to come
  pub owed : ℕ
  -- the numbers of the KeptBlocks so far
  pub blocks : List ℕ

-- before the first frame
abbrev pub start : Follow
start = record { first = true; last = 0; owed = 0; blocks = [] }

-- this follow, where the test holds
abbrev pub only_if : Bool → Follow → Option Follow
only_if test follow = if test then Some follow else None

-- an ordinary entry comes behind all kept frames, with a number one above the last
abbrev pub after_entry : Follow → ℕ → Option Follow
after_entry follow number =
    only_if (follow.owed == 0 && number == follow.last + 1)
    (record follow { first = false; last = number })

-- a Base comes first
abbrev pub after_base : Follow → ℕ → ℕ → Option Follow
after_base follow number frames =
    only_if follow.first (record { first = false; last = number; owed = frames; blocks = [] })

-- a KeptBlock has a number that is not above the Base's and that no KeptBlock before it has
abbrev pub after_block : Follow → ℕ → Option Follow
after_block follow number =
    if list_any (λ other. other == number) follow.blocks then None else
    only_if (nat_lt 0 follow.owed && nat_le number follow.last)
    (record follow { owed = follow.owed - 1; blocks = number ∷ follow.blocks })

-- another kept frame has the number of the Base
abbrev pub after_kept : Follow → ℕ → Option Follow
after_kept follow number =
    only_if (nat_lt 0 follow.owed && number == follow.last)
    (record follow { owed = follow.owed - 1 })

-- what may follow behind this entry too, where the entry may come here
abbrev pub after : Follow → ℕ → Entry → Option Follow
after follow number (View view) = after_entry follow number
after follow number (Block op least bytes) = after_entry follow number
after follow number (Mark op least block address) = after_entry follow number
after follow number (Root op held address key) = after_entry follow number
after follow number (Drop op key) = after_entry follow number
after follow number (Enter op epoch) = after_entry follow number
after follow number (Got sender epoch round total deltas) = after_entry follow number
after follow number (Base view epoch swept round frames) = after_base follow number frames
after follow number (KeptBlock born mark flags count bytes) = after_block follow number
after follow number (KeptRoot created dropped counted address key) = after_kept follow number
after follow number (KeptRound way other epoch round total deltas) = after_kept follow number

-- a log may end where no kept frame is owed
abbrev pub may_end : Follow → Bool
may_end follow = follow.owed == 0

-- what may follow behind these entries, where each may come at its place
unfoldable pub followed : Follow → List (ℕ × Entry) → Option Follow
followed follow [] = Some follow
followed follow (x ∷ entries) =
    option_and_then (λ next. followed next entries) (after follow x.0 x.1)
