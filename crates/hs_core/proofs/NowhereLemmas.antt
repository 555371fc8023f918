-- What happens for a shard or a peer that the store does not have.
use Rattle.std.proofs.Common.{◌≡◌, sym, ap, ℕ, ◌≤◌, ◌*◌, ◌-◌, [], length, None, refl, arith}
use Rattle.std.proofs.lemmas.List.{get_or_past, set_past}
use Rattle.std.proofs.lemmas.Nat.{le-div}
use Rattle.hs_awaiting.specs.Words.{times}
use Rattle.hs_core_words.specs.Effects.{commit, commit_next}
use Rattle.hs_core_words.specs.Failing.{go_down, leave}
use Rattle.hs_core_state.specs.Keeping.{IsCore}
use Rattle.hs_core_words.specs.Looking.{front_of, group_of, home, lead_of, shape_of, status_of}
use Rattle.hs_core_words.specs.Operating.{propose_entry}
use Rattle.hs_core_words.specs.State.{Core}
use Rattle.hs_entry.specs.declared.entry.Entry.{Entry}
use Rattle.hs_limits.specs.declared.limits.PeerStatus.TheVariants.{Down}
use Rattle.hs_replica.specs.Group.{Group, commit_front, new_group, propose}

-- the group of no shard
no_group : (shard : ℕ) (core : Core) → length core.groups ≤ shard → group_of shard core ≡ new_group (shape_of core) shard 0 0 []
no_group shard core h = get_or_past core.groups shard (new_group (shape_of core) shard 0 0 []) h

pub commit_nowhere : (shard : ℕ) (core : Core) → length core.groups ≤ shard → commit shard core ≡ core
commit_nowhere shard core h =
    let front : front_of shard core ≡ 0 = ap (λ (g : Group). g.front) (no_group shard core h) in
    let top : commit_front (group_of shard core) ≡ 0 = ap commit_front (no_group shard core h) in
    let none : commit_front (group_of shard core) - front_of shard core ≡ 0 = omega (arith, front, top) in
    ap (λ n. times n (commit_next shard) core) none

pub propose_nowhere : (shard : ℕ) (entry : Entry) (core : Core) → length core.groups ≤ shard → propose_entry shard entry core ≡ core
propose_nowhere shard entry core h = rw (set_past core.groups shard (propose entry (group_of shard core)) h, no_group shard core h) refl

-- ---- a peer

no_status : (peer : ℕ) (core : Core) → length core.members.statuses ≤ peer → status_of peer core ≡ Down
no_status peer core h = get_or_past core.members.statuses peer Down h

no_lead : (shard : ℕ) (core : Core) → length core.groups ≤ shard → lead_of shard core ≡ None
no_lead shard core h = rw (no_group shard core h) refl

pub go_down_nowhere : (peer : ℕ) (core : Core) → IsCore core → (shape_of core).shards * (shape_of core).copies ≤ peer → leave peer core ≡ go_down peer core
go_down_nowhere peer core is h =
    let statuses : length core.members.statuses ≤ peer = omega (arith, is.members.statuses, h) in
    let past : (shape_of core).shards ≤ home peer core = le-div (shape_of core).shards peer (shape_of core).copies (omega (arith, is.members.shape.some_copy)) h in
    let groups : length core.groups ≤ home peer core = omega (arith, is.groups, past) in
    sym (rw (no_status peer core statuses, no_lead (home peer core) core groups) refl)
