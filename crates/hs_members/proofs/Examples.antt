-- Worked examples: one shard of two copies, opened at view 1.
use Rattle.std.proofs.Common.{◌≡◌, true, false, [], ◌∷◌, Some, None, refl}
use Rattle.hs_limits.specs.declared.limits.PeerStatus.TheVariants.{Good, Joining, Down}
use Rattle.hs_members.specs.Members.{Members, become, has_good, is_down, lead_by, members_at, status, view_of}

abbrev two_copies : Members
two_copies = members_at (record { shards = 1; copies = 2 }) (1 ∷ []) (true ∷ true ∷ [])

-- ---- peer states: peer 1 fails, fails again, is started, is started again

abbrev failed : Members
failed = become 1 Down two_copies

abbrev started : Members
started = become 1 Joining failed

-- the first failure is taken and raises the view; the second and third find the peer Down
peer_1_fails : (is_down (status 1 two_copies) ≡ false) × (status 1 failed ≡ Down) × (view_of 0 failed ≡ 2)
peer_1_fails = (refl, refl, refl)

-- the first start is taken and raises no view; the second finds the peer not Down
peer_1_starts : (is_down (status 1 started) ≡ false) × (status 1 started ≡ Joining) × (view_of 0 started ≡ 2)
peer_1_starts = (refl, refl, refl)

-- a joining peer is no lead, however long its list; it joins, and the view rises
peer_1_joins : (lead_by 0 (3 ∷ 4 ∷ []) started ≡ Some 0) × (become 1 Good started ≡ record two_copies { views = 3 ∷ [] })
peer_1_joins = (refl, refl)

-- ---- lower view: peer 0 leads with the longer list and fails, so that the view is 2 and peer 1 leads

peer_0_leads : lead_by 0 (5 ∷ 2 ∷ []) two_copies ≡ Some 0
peer_0_leads = refl

peer_1_follows : (lead_by 0 (5 ∷ 2 ∷ []) (become 0 Down two_copies) ≡ Some 1) × (view_of 0 (become 0 Down two_copies) ≡ 2)
peer_1_follows = (refl, refl)

-- ---- of equals the lowest leads, and where no peer is good there is none

of_equals_the_lowest : lead_by 0 (4 ∷ 4 ∷ []) two_copies ≡ Some 0
of_equals_the_lowest = refl

none_is_good : (lead_by 0 (5 ∷ 2 ∷ []) (become 1 Down (become 0 Down two_copies)) ≡ None) × (has_good 0 (become 1 Down (become 0 Down two_copies)) ≡ false)
none_is_good = (refl, refl)

-- a change in one shard leaves the view of the other
other_shard : become 2 Down (members_at (record { shards = 2; copies = 2 }) (7 ∷ 8 ∷ []) (true ∷ true ∷ true ∷ false ∷ []))
    ≡ record { shape = record { shards = 2; copies = 2 }; views = 7 ∷ 9 ∷ []; statuses = Good ∷ Good ∷ Down ∷ Down ∷ [] }
other_shard = refl
