-- How a list stands beside the taken one: both are numbered from 1 on, without a Base.
use Rattle.std.specs.Prelude.{◌≡◌, ◌<◌, ℕ, Bool, true, false, List, is_some}
use Rattle.hs_entry.specs.declared.entry.Entry.{Entry}
use Rattle.hs_entry.specs.Entries.{IsPrefix}
use Rattle.hs_peerlog.specs.Lists.{last_of, numbered_entry}
use Rattle.hs_scrub.specs.declared.mark.PeerMark.{PeerMark}
use Rattle.hs_scrub.specs.declared.mark.PeerMark.TheVariants.{Same, Behind, Differs, NoLog, Fault}

-- the taken list begins with this one, of this length, and goes on
pub record IsBehind (taken list : List (ℕ × Entry)) (count : ℕ) : Type 0 where
  pub front : IsPrefix list taken
  pub length : count ≡ last_of list
  pub shorter : last_of list < last_of taken

-- the first number under which the list has an entry that is not the taken one's
pub record IsFirstOther (taken list : List (ℕ × Entry)) (number : ℕ) : Type 0 where
  pub kept : is_some (numbered_entry list number) ≡ true
  pub other : numbered_entry list number ≡ numbered_entry taken number → ⊥
  pub first : (before : ℕ) → before < number → numbered_entry list before ≡ numbered_entry taken before

-- what a mark says of a list beside the taken one
abbrev pub IsMarked : List (ℕ × Entry) → PeerMark → List (ℕ × Entry) → Type 0
IsMarked taken Same list = list ≡ taken
IsMarked taken (Behind length) list = IsBehind taken list length
IsMarked taken (Differs number) list = IsFirstOther taken list number
IsMarked taken (NoLog at) list = ⊥
IsMarked taken Fault list = ⊥

-- whether a mark is that of a list
abbrev pub is_read : PeerMark → Bool
is_read Same = true
is_read (Behind length) = true
is_read (Differs number) = true
is_read (NoLog at) = false
is_read Fault = false
