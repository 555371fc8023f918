-- Worked examples: peers that join.
use Rattle.std.proofs.Common.{◌≡◌, ℕ, zero, suc, true, false, List, [], ◌∷◌, Option, Some, None, refl}
use Rattle.std.specs.Option.{option_map_or}
use Rattle.hs_desk.specs.declared.job.Job.{Job}
use Rattle.hs_desk.specs.declared.job.Job.TheVariants as job
use Rattle.hs_entry.specs.declared.entry.Entry.{Entry}
use Rattle.hs_entry.specs.declared.entry.Entry.TheVariants as kind
use Rattle.hs_rejoin.specs.Course.{after_step, counted}
use Rattle.hs_rejoin.specs.Rejoin.{Rejoin, follow, is_level, new_rejoin, next_job}

-- what is left once a step is reported, if there is one
abbrev report : Option Job → Rejoin → Rejoin
report step r = option_map_or (λ step. counted step r) step r

-- the first n steps, where the lead has sealed so many entries, and what they leave
abbrev steps : ℕ → ℕ → Rejoin → List (Option Job)
steps zero lead_sealed r = []
steps (suc n) lead_sealed r = next_job lead_sealed r ∷ steps n lead_sealed (report (next_job lead_sealed r) r)

abbrev after : ℕ → ℕ → Rejoin → Rejoin
after zero lead_sealed r = r
after (suc n) lead_sealed r = after n lead_sealed (report (next_job lead_sealed r) r)

-- ---- rejoin: peer 0 failed and is started; peer 1 leads, with three entries, all sealed

peer_0_copies : steps 5 3 (new_rejoin 1) ≡ Some job.Reset ∷ Some (job.Copy 1 1) ∷ Some (job.Copy 1 2) ∷ Some (job.Copy 1 3) ∷ None ∷ []
peer_0_copies = refl

-- it is level after the last of them and not before
peer_0_is_level : (is_level 3 (after 3 3 (new_rejoin 1)) ≡ false) × (is_level 3 (after 4 3 (new_rejoin 1)) ≡ true)
peer_0_is_level = (refl, refl)

-- ---- of an empty list it copies nothing, and is emptied all the same

an_empty_list : (steps 2 0 (new_rejoin 1) ≡ Some job.Reset ∷ None ∷ []) × (is_level 0 (new_rejoin 1) ≡ false) × (is_level 0 (after 1 0 (new_rejoin 1)) ≡ true)
an_empty_list = (refl, refl, refl)

-- ---- a lead with an entry that it has not sealed: the peer waits and is not level

an_unsealed_entry : (next_job 3 (after 4 3 (new_rejoin 1)) ≡ None) × (is_level 4 (after 4 3 (new_rejoin 1)) ≡ false)
an_unsealed_entry = (refl, refl)

-- ---- the lead goes Down after two entries: it begins again, with the next lead

a_lead_goes_down : steps 2 2 (new_rejoin 2) ≡ Some job.Reset ∷ Some (job.Copy 2 1) ∷ []
a_lead_goes_down = refl

-- ---- the lead changes without going Down after two entries: it goes on, from the other

another_lead : steps 2 3 (follow 2 (after 3 3 (new_rejoin 1))) ≡ Some (job.Copy 2 3) ∷ None ∷ []
another_lead = refl

-- a lead that changes before the emptying leaves that due
another_lead_at_first : steps 2 3 (follow 2 (new_rejoin 1)) ≡ Some job.Reset ∷ Some (job.Copy 2 1) ∷ []
another_lead_at_first = refl

-- ---- what the steps leave on the disk of peer 0, where the lead's list is these three entries

abbrev lead_list : List Entry
lead_list = kind.View 1 ∷ kind.View 2 ∷ kind.View 3 ∷ []

abbrev lists : ℕ → Rejoin → List Entry → List (List Entry)
lists zero r list = list ∷ []
lists (suc n) r list = list ∷ option_map_or (λ step. lists n (counted step r) (after_step step lead_list list)) (next_job 3 r) []

the_list_of_peer_0 : lists 5 (new_rejoin 1) (kind.View 9 ∷ [])
    ≡ (kind.View 9 ∷ []) ∷ [] ∷ (kind.View 1 ∷ []) ∷ (kind.View 1 ∷ kind.View 2 ∷ []) ∷ lead_list ∷ []
the_list_of_peer_0 = refl
