-- Telling one copy after another.
use Rattle.std.proofs.Common.{◌≡◌, ℕ, zero, suc, ◌+◌, ◌<◌, ◌≤◌, List, [], ◌∷◌, arith, refl, length, slice_index_or, slice_set, ap}
use Rattle.hs_members.specs.Members.{Members, is_good_status, status}
use Rattle.hs_replica.specs.declared.replica.Replica.{Replica}
use Rattle.hs_replica.specs.Group.{tell, tell_from}

-- the copies behind the first so many are told; the first is of this peer
abbrev pub told_behind : Members → ℕ → ℕ → List Replica → List Replica
told_behind members peer zero cs = tell_from members peer cs
told_behind members peer (suc i) [] = []
told_behind members peer (suc i) (c ∷ cs) = c ∷ told_behind members (peer + 1) i cs

pub tell_next : (members : Members) (peer i : ℕ) (cs : List Replica) (old new : Replica) → i < length cs → old ≡ slice_index_or cs i old
    → new ≡ tell (is_good_status (status (peer + i) members)) old → told_behind members peer (i + 1) (slice_set cs i new) ≡ told_behind members peer i cs
tell_next members peer i [] old new l o n = absurd (omega arith)
tell_next members peer zero (c ∷ cs) old new l o n = let same : peer + 0 ≡ peer = omega arith in rw (n, same, o) refl
tell_next members peer (suc i) (c ∷ cs) old new l o n =
    let same : peer + 1 + i ≡ peer + suc i = omega arith in
    let more : suc i + 1 ≡ suc (i + 1) = omega arith in
    rw more (ap (λ r. c ∷ r) (tell_next members (peer + 1) i cs old new (omega arith) o (rw same n)))

pub all_told : (members : Members) (peer i : ℕ) (cs : List Replica) → length cs ≤ i → told_behind members peer i cs ≡ cs
all_told members peer zero [] l = refl
all_told members peer zero (c ∷ cs) l = absurd (omega arith)
all_told members peer (suc i) [] l = refl
all_told members peer (suc i) (c ∷ cs) l = ap (λ r. c ∷ r) (all_told members (peer + 1) i cs (omega arith))
