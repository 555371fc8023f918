-- Of which fault of a file a status tells.
use Rattle.std.proofs.Common.{◌≡◌, ◌⊎◌, inl, inr, ◌∙◌, ap, sym, refl, ℕ, Some, arith}
use Rattle.hs_asker.specs.Silent.{status_by}
use Rattle.hs_desk.specs.declared.fault.CoreFault.{CoreFault}
use Rattle.hs_desk.specs.declared.fault.CoreFault.TheVariants as core
use Rattle.hs_files.specs.Client.{HasOtherShape, tree_status}
use Rattle.hs_limits.specs.declared.address.Address.{Address}
use Rattle.hs_model.specs.declared.reply.Reply.{Reply}
use Rattle.hs_promise.specs.declared.status.Status.{Status}
use Rattle.hs_promise.specs.declared.status.Status.TheVariants as status
use Rattle.hs_tree.specs.declared.fault.TreeFault.{TreeFault}
use Rattle.hs_tree.specs.declared.fault.TreeFault.TheVariants as fault

-- which of those it is that tell something of a file, and 6 where it is none
abbrev pub told_by_status : Status → ℕ
told_by_status status.Done = 0
told_by_status (status.Refused told) = 1
told_by_status status.ReadFault = 2
told_by_status status.InputFull = 3
told_by_status (status.NotATree address) = 4
told_by_status status.WriteFault = 5
told_by_status other = 6

-- it tells nothing of a file
abbrev pub TellsNoFile : Status → Type 0
TellsNoFile s = told_by_status s ≡ 6

pub core_tells_none : (c : CoreFault) → TellsNoFile (status_by (Some c))
core_tells_none core.OpsFull = refl
core_tells_none (core.ShardLost shard) = refl
core_tells_none core.NoMemory = refl

pub closed_tells_none : (s : Status) → HasOtherShape s ⊎ (s ≡ status.NoMemory) → TellsNoFile s
closed_tells_none s (inl other) = ap told_by_status other.is
closed_tells_none s (inr none) = ap told_by_status none

pub never : (s t : Status) → TellsNoFile s → s ≡ t → (told_by_status t ≡ 6 → ⊥) → ⊥
never s t none is tells = tells (ap told_by_status (sym is) ∙ none)

pub done_not : (s : Status) → status.Done ≡ s → (0 ≡ told_by_status s → ⊥) → ⊥
done_not s is other = other (ap told_by_status is)

pub cut_not : (s : Status) → status.WriteFault ≡ s → (5 ≡ told_by_status s → ⊥) → ⊥
cut_not s is other = other (ap told_by_status is)

-- ---- a fault of a file

core_not : (c : CoreFault) (t : Status) → status_by (Some c) ≡ t → (told_by_status t ≡ 6 → ⊥) → ⊥
core_not c t is tells = never (status_by (Some c)) t (core_tells_none c) is tells

pub never_done : (f : TreeFault) → tree_status f ≡ status.Done → ⊥
never_done (fault.Core c) is = core_not c status.Done is (λ e. omega (arith, e))
never_done fault.Read is = let e : 2 ≡ 0 = ap told_by_status is in omega (arith, e)
never_done fault.InputFull is = let e : 3 ≡ 0 = ap told_by_status is in omega (arith, e)
never_done (fault.Refused told) is = let e : 1 ≡ 0 = ap told_by_status is in omega (arith, e)
never_done (fault.NotATree address) is = let e : 4 ≡ 0 = ap told_by_status is in omega (arith, e)
never_done fault.NoMemory is = let e : 6 ≡ 0 = ap told_by_status is in omega (arith, e)

pub never_written : (f : TreeFault) → tree_status f ≡ status.WriteFault → ⊥
never_written (fault.Core c) is = core_not c status.WriteFault is (λ e. omega (arith, e))
never_written fault.Read is = let e : 2 ≡ 5 = ap told_by_status is in omega (arith, e)
never_written fault.InputFull is = let e : 3 ≡ 5 = ap told_by_status is in omega (arith, e)
never_written (fault.Refused told) is = let e : 1 ≡ 5 = ap told_by_status is in omega (arith, e)
never_written (fault.NotATree address) is = let e : 4 ≡ 5 = ap told_by_status is in omega (arith, e)
never_written fault.NoMemory is = let e : 6 ≡ 5 = ap told_by_status is in omega (arith, e)

pub is_read_fault : (f : TreeFault) → tree_status f ≡ status.ReadFault → f ≡ fault.Read
is_read_fault (fault.Core c) is = absurd (core_not c status.ReadFault is (λ e. omega (arith, e)))
is_read_fault fault.Read is = refl
is_read_fault fault.InputFull is = let e : 3 ≡ 2 = ap told_by_status is in absurd (omega (arith, e))
is_read_fault (fault.Refused told) is = let e : 1 ≡ 2 = ap told_by_status is in absurd (omega (arith, e))
is_read_fault (fault.NotATree address) is = let e : 4 ≡ 2 = ap told_by_status is in absurd (omega (arith, e))
is_read_fault fault.NoMemory is = let e : 6 ≡ 2 = ap told_by_status is in absurd (omega (arith, e))

pub is_too_long : (f : TreeFault) → tree_status f ≡ status.InputFull → f ≡ fault.InputFull
is_too_long (fault.Core c) is = absurd (core_not c status.InputFull is (λ e. omega (arith, e)))
is_too_long fault.Read is = let e : 2 ≡ 3 = ap told_by_status is in absurd (omega (arith, e))
is_too_long fault.InputFull is = refl
is_too_long (fault.Refused told) is = let e : 1 ≡ 3 = ap told_by_status is in absurd (omega (arith, e))
is_too_long (fault.NotATree address) is = let e : 4 ≡ 3 = ap told_by_status is in absurd (omega (arith, e))
is_too_long fault.NoMemory is = let e : 6 ≡ 3 = ap told_by_status is in absurd (omega (arith, e))

pub is_refused : (reply : Reply) (f : TreeFault) → tree_status f ≡ status.Refused reply → f ≡ fault.Refused reply
is_refused reply (fault.Core c) is = absurd (core_not c (status.Refused reply) is (λ e. omega (arith, e)))
is_refused reply fault.Read is = let e : 2 ≡ 1 = ap told_by_status is in absurd (omega (arith, e))
is_refused reply fault.InputFull is = let e : 3 ≡ 1 = ap told_by_status is in absurd (omega (arith, e))
is_refused reply (fault.Refused told) is = let same : told ≡ reply = cc is in ap (λ (x : Reply). fault.Refused x) same
is_refused reply (fault.NotATree address) is = let e : 4 ≡ 1 = ap told_by_status is in absurd (omega (arith, e))
is_refused reply fault.NoMemory is = let e : 6 ≡ 1 = ap told_by_status is in absurd (omega (arith, e))

pub is_no_tree : (a : Address) (f : TreeFault) → tree_status f ≡ status.NotATree a → f ≡ fault.NotATree a
is_no_tree a (fault.Core c) is = absurd (core_not c (status.NotATree a) is (λ e. omega (arith, e)))
is_no_tree a fault.Read is = let e : 2 ≡ 4 = ap told_by_status is in absurd (omega (arith, e))
is_no_tree a fault.InputFull is = let e : 3 ≡ 4 = ap told_by_status is in absurd (omega (arith, e))
is_no_tree a (fault.Refused told) is = let e : 1 ≡ 4 = ap told_by_status is in absurd (omega (arith, e))
is_no_tree a (fault.NotATree address) is = let same : address ≡ a = cc is in ap (λ (x : Address). fault.NotATree x) same
is_no_tree a fault.NoMemory is = let e : 6 ≡ 4 = ap told_by_status is in absurd (omega (arith, e))
