-- Who is good, at which view each shard is, and who leads.
use Rattle.std.specs.List.{enumerate_from, list_any, range_with_len}
use Rattle.std.specs.Option.{option_map}
use Rattle.std.specs.Prelude.{◌≡◌, ℕ, ◌+◌, ◌*◌, ◌/◌, ◌<◌, ◌≤◌, Bool, true, false, not, List, [], ◌∷◌, length, map, filter, Option, Some, None, nat_le, slice_index, slice_index_or, slice_set, if◌then◌else◌}
use Rattle.hs_limits.specs.declared.limits.PeerStatus.{PeerStatus}
use Rattle.hs_limits.specs.declared.limits.PeerStatus.TheVariants.{Good, Joining, Down}
use Rattle.hs_limits.specs.declared.shape.Shape.{Shape}
use Rattle.hs_limits.specs.Shape.{IsShape, peer_of}

-- the view of each shard, and the status of each peer
pub record Members : Type 0 where
  pub shape : Shape
  pub views : List ℕ
  pub statuses : List PeerStatus

-- a view for each shard, and a status for each peer
pub record IsMembers (m : Members) : Type 0 where
  pub shape : IsShape m.shape
  pub views : length m.views ≡ m.shape.shards
  pub statuses : length m.statuses ≡ m.shape.shards * m.shape.copies

-- ---- peers and shards

-- whether a status is Good, Joining or Down
abbrev pub is_good_status : PeerStatus → Bool
is_good_status Good = true
is_good_status Joining = false
is_good_status Down = false

abbrev pub is_joining : PeerStatus → Bool
is_joining Good = false
is_joining Joining = true
is_joining Down = false

abbrev pub is_down : PeerStatus → Bool
is_down Good = false
is_down Joining = false
is_down Down = true

-- the shard that a peer keeps a copy of
abbrev pub home_of : Shape → ℕ → ℕ
home_of shape peer = peer / shape.copies

-- the peers of a shard, and those of the store, ascending
abbrev pub peers_of : Shape → ℕ → List ℕ
peers_of shape shard = range_with_len (peer_of shape shard 0) shape.copies

abbrev pub all_peers : Shape → List ℕ
all_peers shape = range_with_len 0 (shape.shards * shape.copies)

-- there is such a peer, and such a shard
abbrev pub IsPeer : Shape → ℕ → Type 0
IsPeer shape peer = peer < shape.shards * shape.copies

abbrev pub IsShard : Shape → ℕ → Type 0
IsShard shape shard = shard < shape.shards

-- ---- views and statuses

-- the status of a peer, and the view of a shard
abbrev pub status : ℕ → Members → PeerStatus
status peer m = slice_index_or m.statuses peer Down

abbrev pub view_of : ℕ → Members → ℕ
view_of shard m = slice_index m.views shard

-- a peer is Good where it is said so, and else Down
abbrev pub members_at : Shape → List ℕ → List Bool → Members
members_at shape views good = record {
  shape = shape;
  views = views;
  statuses = map (λ b. if b then Good else Down) good;
}

-- whether a new status makes a peer good that was not, or the other way round
abbrev pub changes_good : PeerStatus → PeerStatus → Bool
changes_good old new = if is_good_status new then not (is_good_status old) else is_good_status old

-- another status; the view of the peer's shard rises by one where the shard's good peers change
abbrev pub become : ℕ → PeerStatus → Members → Members
become peer new m =
    let shard : ℕ = home_of m.shape peer in
    record m {
      views = if changes_good (status peer m) new then slice_set m.views shard (view_of shard m + 1) else m.views;
      statuses = slice_set m.statuses peer new;
    }

-- whether a shard has a good peer
abbrev pub has_good : ℕ → Members → Bool
has_good shard m = list_any (λ peer. is_good_status (status peer m)) (peers_of m.shape shard)

-- ---- the lead

-- of two peers with the lengths of their lists the one with the longer list, of equals the first
abbrev pub longer : ℕ × ℕ → Option (ℕ × ℕ) → ℕ × ℕ
longer x None = x
longer x (Some y) = if nat_le y.1 x.1 then x else y

-- the peer with the longest list, of equals the first
abbrev pub longest : List (ℕ × ℕ) → Option (ℕ × ℕ)
longest [] = None
longest (x ∷ xs) = Some (longer x (longest xs))

-- the good peers of a shard with the lengths of their lists, where these are the lengths at its copies, in order
abbrev pub good_lengths : ℕ → List ℕ → Members → List (ℕ × ℕ)
good_lengths shard lengths m = filter (λ x. is_good_status (status x.0 m)) (enumerate_from (peer_of m.shape shard 0) lengths)

-- the lead of a shard: its good peer with the longest list, of equals the lowest
abbrev pub lead_by : ℕ → List ℕ → Members → Option ℕ
lead_by shard lengths m = option_map (λ x. x.0) (longest (good_lengths shard lengths m))

-- what a lead is: a good peer of the shard; no good peer's list is longer, and no lower good peer's is as long
pub record IsLead (shard : ℕ) (lengths : List ℕ) (m : Members) (lead : ℕ) : Type 0 where
  pub copy : ℕ
  pub home : (copy < m.shape.copies) × (lead ≡ peer_of m.shape shard copy)
  pub good : status lead m ≡ Good
  pub longest : (other : ℕ) → other < m.shape.copies → status (peer_of m.shape shard other) m ≡ Good
      → slice_index lengths other ≤ slice_index lengths copy
  pub lowest : (other : ℕ) → other < copy → status (peer_of m.shape shard other) m ≡ Good
      → slice_index lengths other < slice_index lengths copy
