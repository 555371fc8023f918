-- Places of copies, and what the calls on a group leave as it was, also where they fail: for private clauses, and for those who hold groups.
use Rattle.std.specs.Prelude.{◌≡◌, ℕ, ◌+◌, ◌==◌, ◌&&◌, Bool, length, slice_index_or, slice_set}
use Rattle.hs_entry.specs.declared.entry.Entry.{Entry}
use Rattle.hs_replica.specs.declared.replica.Replica.{Replica}
use Rattle.hs_replica.specs.Group.{Group, no_copy, stamp}

-- it is of the same shard, with as many copies and as many entries handed out
pub record KeepsFront (old new : Group) : Type 0 where
  pub shape : new.shape ≡ old.shape
  pub shard : new.shard ≡ old.shard
  pub copies : length new.copies ≡ length old.copies
  pub front : new.front ≡ old.front

-- the copy at a place
abbrev pub copy_at : ℕ → Group → Replica
copy_at place group = slice_index_or group.copies place no_copy

-- its peer takes a Copy
abbrev pub takes_at : ℕ → ℕ → ℕ → Group → Bool
takes_at place view number group =
    (copy_at place group).good && view == group.view && number == length (copy_at place group).stamps + 1

-- its list has an entry more
abbrev pub take_at : ℕ → Entry → Group → Group
take_at place entry group =
    record group { copies = slice_set group.copies place (record (copy_at place group) { stamps = stamp entry (copy_at place group).stamps }) }
