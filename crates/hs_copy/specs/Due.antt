-- When a deletion is asked for while a copy is written.
use Rattle.std.specs.Prelude.{ℕ, ◌+◌, ◌≡◌, Bool, true, false, ◌&&◌, List, [], ◌∷◌, Option, None, Some, nat_le, nat_lt}
use Rattle.hs_asking.specs.Shown.{Shown}
use Rattle.hs_asking.specs.Telling.{is_written}
use Rattle.hs_copy.specs.Heard.{AreHeard}
use Rattle.hs_copy.specs.declared.deleting.Deleting.{Deleting}
use Rattle.hs_copy.specs.declared.fault.PartFault.{PartFault}
use Rattle.hs_copy.specs.declared.fault.PartFault.TheVariants as part
use Rattle.hs_model.specs.declared.op.Op.{Op}
use Rattle.hs_model.specs.declared.op.Op.TheVariants as op
use Rattle.hs_model.specs.declared.reply.Reply.{Reply}

-- behind how many writes a deletion is asked for, if any is; how many were done since the last one; and how many deletions were asked for
pub record Count : Type 0 where
  pub every : Option ℕ
  pub since : ℕ
  pub asked : ℕ

-- at most four are asked for
abbrev pub may_come : Option ℕ → ℕ → Bool
may_come None asked = false
may_come (Some every) asked = nat_lt asked 4

-- one is due where that many writes were done, and one at least
abbrev pub due_in : Option ℕ → ℕ → ℕ → Bool
due_in None since asked = false
due_in (Some every) since asked = nat_lt asked 4 && (nat_lt 0 since && nat_le every since)

abbrev pub is_due : Count → Bool
is_due c = due_in c.every c.since c.asked

-- a write that was done counts while deletions may come
abbrev pub one_more : Bool → ℕ → ℕ
one_more true since = since + 1
one_more false since = since

abbrev pub with_write : Count → Count
with_write c = record { every = c.every; since = one_more (may_come c.every c.asked) c.since; asked = c.asked }

abbrev pub with_write_if : Bool → Count → Count
with_write_if true c = with_write c
with_write_if false c = c

-- the count behind an operation and its answer: a deletion begins it anew
abbrev pub counted : Count → Op × Reply → Count
counted c (op.Write name payload handles address, told) = with_write_if (is_written told) c
counted c (op.Delete, told) = record { every = c.every; since = 0; asked = c.asked + 1 }
counted c (other, told) = c

abbrev pub counted_all : Count → List (Op × Reply) → Count
counted_all c [] = c
counted_all c (h ∷ hs) = counted_all (counted c h) hs

abbrev pub is_deletion : Op → Bool
is_deletion op.Delete = true
is_deletion other = false

-- deletions are asked for just where one is due
abbrev pub AreDue : Count → List (Op × Reply) → Type 0
AreDue c [] = Unit {0}
AreDue c (h ∷ hs) = (is_deletion h.0 ≡ is_due c) × AreDue (counted c h) hs

-- so it is of what was asked for from one state to another, where the count goes from c to d, with which none is due
pub record DeletesSo {tells : Type 0} (c d : Count) (old new : Shown tells) : Type 0 where
  pub heard : List (Op × Reply)
  pub all : AreHeard old new heard
  pub due : AreDue c heard
  pub counts : counted_all c heard ≡ d
  pub rest : is_due d ≡ false

pub record DeletesOn {tells : Type 0} (c : Count) (old new : Shown tells) : Type 0 where
  pub behind : Count
  pub deletes : DeletesSo c behind old new

-- with a count that begins with nothing, and goes on over a new beginning
abbrev pub DeletesWhenDue : {tells : Type 0} → Option ℕ → Shown tells → Shown tells → Type 0
DeletesWhenDue every start now = DeletesOn (record { every = every; since = 0; asked = 0 }) start now

abbrev pub count_of : Deleting → Count
count_of d = record { every = d.every; since = d.writes; asked = d.asked }

-- where a fault is a refusal
abbrev pub WhereRefused : PartFault → Type 0 → Type 0
WhereRefused (part.Core core) P = Unit {0}
WhereRefused (part.Refused told) P = P
WhereRefused part.TooMany P = Unit {0}
WhereRefused part.NoMemory P = Unit {0}
