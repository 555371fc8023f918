-- The marks of blocks: for each address that was given, the epoch in which it was given last.
use Rattle.std.specs.Prelude.{ℕ, ◌+◌, Bool, false, List, Option, nat_le}
use Rattle.std.specs.declared.cmp.Ordering.{Ordering}
use Rattle.std.specs.BTreeMap.{is_at, insert_entry}
use Rattle.std.specs.Cmp.Lexicographic.{slice_cmp}
use Rattle.std.specs.Map.{lookup, remove_entry}
use Rattle.std.specs.Option.{option_map_or}
use Rattle.std.specs.Ordering.{nat_cmp}
use Rattle.hs_limits.specs.declared.address.Address.{Address}

-- the marks by address
abbrev pub MarkList : Type 0
MarkList = List (Address × ℕ)

-- addresses are in the order of their bytes
abbrev pub address_cmp : Address → Address → Ordering
address_cmp a b = slice_cmp nat_cmp a.0 b.0

-- the mark of an address
abbrev pub mark_of : Address → MarkList → Option ℕ
mark_of a marks = lookup (is_at (address_cmp a)) marks

-- what is given in an epoch has that epoch as its mark, whatever it had before
abbrev pub give : Address → ℕ → MarkList → MarkList
give a epoch marks = insert_entry address_cmp marks a epoch

-- the address has no mark any more
abbrev pub forget_mark : Address → MarkList → MarkList
forget_mark a marks = remove_entry (is_at (address_cmp a)) marks

-- whether what was given last in the epoch of its mark may still be used in this one: in its own epoch and in the one after
abbrev pub is_kept_in : ℕ → Option ℕ → Bool
is_kept_in epoch mark = option_map_or (λ mark. nat_le epoch (mark + 1)) mark false
