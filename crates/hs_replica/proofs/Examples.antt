-- Worked examples: one shard of two copies. Only the calls on the group are here, and no disk and no pool.
use Rattle.std.proofs.Common.{◌≡◌, ℕ, Bool, true, false, List, [], ◌∷◌, length, map, Option, Some, None, refl}
use Rattle.hs_entry.specs.declared.entry.Entry.{Entry}
use Rattle.hs_entry.specs.declared.entry.Entry.TheVariants as kind
use Rattle.hs_limits.specs.declared.limits.PeerStatus.TheVariants.{Good, Joining, Down}
use Rattle.hs_members.specs.Members.{Members, become, members_at}
use Rattle.hs_post.specs.declared.message.Message.{Message}
use Rattle.hs_post.specs.declared.message.Message.TheVariants.{Copy, Have}
use Rattle.hs_replica.specs.Group.{Group, commit_front, committed, copy_of, have, lead, length_of, new_group, on_append, on_copied, on_emptied, on_have, on_sealed, on_view, proposal, propose, resend, take_committed, takes, view_messages}

infixl 3 ◌▸◌
-- x, and then f of it
abbrev ◌▸◌ : {A B : Type 0} → A → (A → B) → B
x ▸ f = f x

-- of each copy the views of its entries, how many it has sealed, and how many the lead knows it to have sealed
abbrev standing : Group → List (List ℕ × ℕ × ℕ)
standing group = map (λ c. (c.stamps, c.sealed, c.known)) group.copies

-- ---- opening: the list is empty, and the first view is 1

abbrev two_copies : Members
two_copies = members_at (record { shards = 1; copies = 2 }) (1 ∷ []) (true ∷ true ∷ [])

abbrev nothing : Group
nothing = new_group (record { shards = 1; copies = 2 }) 0 0 0 (true ∷ true ∷ [])

-- the View of view 1 is sent to peer 1 alone
abbrev first_view : Group
first_view = on_view two_copies nothing

view_1_is_sent : view_messages two_copies nothing ≡ Copy 0 1 1 1 (kind.View 1) ∷ []
view_1_is_sent = refl

-- peer 0 seals it and knows that; peer 1 takes it, seals it, and its Have comes
abbrev opened : Group
opened = first_view ▸ on_sealed 0 1 ▸ on_append 1 1 1 (kind.View 1) ▸ on_sealed 1 1 ▸ on_have 1 1 1 ▸ take_committed

haves : (have 0 1 first_view ≡ []) × (have 1 1 (on_append 1 1 1 (kind.View 1) first_view) ≡ Have 0 1 0 1 1 ∷ [])
haves = (refl, refl)

opened_at : (standing opened ≡ (1 ∷ [], 1, 1) ∷ (1 ∷ [], 1, 1) ∷ []) × (opened.front ≡ 1) × (opened.waiting ≡ [])
opened_at = (refl, refl, refl)

-- an entry takes effect in the event in which the last good peer is known to have sealed it
not_before : (committed (first_view ▸ on_sealed 0 1 ▸ on_append 1 1 1 (kind.View 1) ▸ on_sealed 1 1) ≡ None) × (committed (first_view ▸ on_sealed 0 1 ▸ on_append 1 1 1 (kind.View 1) ▸ on_sealed 1 1 ▸ on_have 1 1 1) ≡ Some (1, kind.View 1))
not_before = (refl, refl)

-- ---- turn by turn: a write of two bytes, with the Copy, the Seal and the Have one by one

abbrev ab : Entry
ab = kind.Block 2 281474976710655 (1 ∷ 0 ∷ 0 ∷ 0 ∷ 0 ∷ 0 ∷ 2 ∷ 97 ∷ 98 ∷ [])

abbrev written : Group
written = propose ab opened

write_is_sent : proposal ab opened ≡ Copy 0 1 1 2 ab ∷ []
write_is_sent = refl

-- after the two turns of peer 0 nothing takes effect, after the three of peer 1 neither, and with the Have it does
abbrev sealed_by_both : Group
sealed_by_both = written ▸ on_sealed 0 2 ▸ on_append 1 1 2 ab ▸ on_sealed 1 2

turn_by_turn : (committed (on_sealed 0 2 written) ≡ None) × (committed sealed_by_both ≡ None) × (committed (on_have 1 1 2 sealed_by_both) ≡ Some (2, ab)) × (commit_front (on_have 1 1 2 sealed_by_both) ≡ 2)
turn_by_turn = (refl, refl, refl, refl)

-- handed out once
once : committed (take_committed (on_have 1 1 2 sealed_by_both)) ≡ None
once = refl

-- a Copy of another view, of a number ahead, or a second time is dropped; a Have of another view is
copies_dropped : map {A = ℕ × ℕ} (λ x. takes 1 x.0 x.1 written) ((1, 2) ∷ (2, 2) ∷ (0, 2) ∷ (1, 3) ∷ (1, 1) ∷ []) ≡ true ∷ false ∷ false ∷ false ∷ false ∷ []
copies_dropped = refl

haves_dropped : (on_have 1 2 2 sealed_by_both ≡ sealed_by_both) × (on_have 1 0 2 sealed_by_both ≡ sealed_by_both)
haves_dropped = (refl, refl)

-- a nudge: the lead sends what it doesn't know the other to have sealed, the other sends its Have
nudges : (resend 0 sealed_by_both ≡ Copy 0 1 1 2 ab ∷ []) × (resend 1 sealed_by_both ≡ Have 0 1 0 1 2 ∷ []) × (resend 0 (on_have 1 1 2 sealed_by_both) ≡ [])
nudges = (refl, refl, refl)

-- ---- one copy fails: peer 0 seals the write and goes down; peer 1 leads, and the write is gone

abbrev peer_0_down : Members
peer_0_down = become 0 Down two_copies

abbrev led_by_1 : Group
led_by_1 = on_view peer_0_down (on_sealed 0 2 written)

peer_1_leads : (lead led_by_1 ≡ Some 1) × (led_by_1.waiting ≡ kind.View 2 ∷ []) × (standing led_by_1 ≡ (1 ∷ 1 ∷ [], 2, 2) ∷ (1 ∷ 2 ∷ [], 1, 1) ∷ []) × (view_messages peer_0_down (on_sealed 0 2 written) ≡ [])
peer_1_leads = (refl, refl, refl, refl)

-- it has no other peer to wait for
abbrev alone : Group
alone = led_by_1 ▸ on_sealed 1 2 ▸ take_committed ▸ propose ab ▸ on_sealed 1 3 ▸ take_committed

alone_at : (alone.front ≡ 3) × (standing alone ≡ (1 ∷ 1 ∷ [], 2, 2) ∷ (1 ∷ 2 ∷ 2 ∷ [], 3, 3) ∷ [])
alone_at = (refl, refl)

-- where peer 1 had taken the write, it keeps it, and the View of view 2 is behind it
kept : (on_view peer_0_down (written ▸ on_sealed 0 2 ▸ on_append 1 1 2 ab)).waiting ≡ ab ∷ kind.View 2 ∷ []
kept = refl

-- ---- rejoin: peer 0 is emptied, copies what peer 1 has sealed, and is good

abbrev joining : Group
joining = alone ▸ on_emptied 0 ▸ on_copied 0 1 ▸ on_copied 0 2 ▸ on_copied 0 3

-- while it joins it takes no Copy, and nobody waits for it
joining_at : (standing joining ≡ (1 ∷ 2 ∷ 2 ∷ [], 3, 2) ∷ (1 ∷ 2 ∷ 2 ∷ [], 3, 3) ∷ []) × (lead joining ≡ Some 1) × (takes 0 2 4 joining ≡ false) × (commit_front joining ≡ 3)
joining_at = (refl, refl, refl, refl)

abbrev peer_0_joined : Members
peer_0_joined = become 0 Good (become 0 Joining peer_0_down)

abbrev rejoined : Group
rejoined = on_view peer_0_joined joining

-- it leads as the lower of two with equal lists, and View 3 goes to peer 1
rejoined_at : (lead joining ≡ Some 1) × (view_messages peer_0_joined joining ≡ Copy 0 1 3 4 (kind.View 3) ∷ []) × (standing rejoined ≡ (1 ∷ 2 ∷ 2 ∷ 3 ∷ [], 3, 3) ∷ (1 ∷ 2 ∷ 2 ∷ [], 3, 3) ∷ [])
rejoined_at = (refl, refl, refl)

-- a peer that joins while an entry waits at the lead is sent it
joined_behind : view_messages peer_0_joined (propose ab joining) ≡ Copy 0 0 3 4 ab ∷ Copy 0 0 3 5 (kind.View 3) ∷ []
joined_behind = refl

-- ---- lower view: peer 0 has three entries that peer 1 has not, one of which peer 1 takes when peer 0 is down

abbrev longer_list : Group
longer_list = opened ▸ propose (kind.Block 4 281474976710655 (1 ∷ [])) ▸ on_sealed 0 2
    ▸ on_append 1 1 2 (kind.Block 4 281474976710655 (1 ∷ [])) ▸ on_sealed 1 2 ▸ on_have 1 1 2 ▸ take_committed
    ▸ propose (kind.Block 6 281474976710655 (2 ∷ [])) ▸ propose (kind.Block 7 281474976710655 (3 ∷ []))
    ▸ propose (kind.Block 8 281474976710655 (4 ∷ [])) ▸ on_sealed 0 3 ▸ on_sealed 0 4 ▸ on_sealed 0 5

abbrev lower_view : Group
lower_view = on_view peer_0_down longer_list

-- peer 0's list is longer, and the last entry of peer 1's has the greater view
lower_view_at : (standing lower_view ≡ (1 ∷ 1 ∷ 1 ∷ 1 ∷ 1 ∷ [], 5, 5) ∷ (1 ∷ 1 ∷ 2 ∷ [], 2, 2) ∷ []) × (lower_view.waiting ≡ kind.View 2 ∷ []) × (committed (on_sealed 1 3 lower_view) ≡ Some (3, kind.View 2))
lower_view_at = (refl, refl, refl)

-- a Copy of the view before, still under way, is dropped
old_copy : takes 1 1 4 lower_view ≡ false
old_copy = refl
