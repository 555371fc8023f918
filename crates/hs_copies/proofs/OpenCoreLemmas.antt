-- A shard as the core opens it stands for one as the machine does.
use Rattle.std.proofs.Common.{◌≡◌, ℕ, zero, suc, ◌+◌, ◌-◌, ◌≤◌, Bool, true, false, if◌then◌else◌, List, [], ◌∷◌, inl, inr, refl, sym, arith, length, Some, ap, ◌∙◌, map, drop, Option, None}
use Rattle.std.proofs.lemmas.Bool.Decides.{nat_tests}
use Rattle.std.proofs.lemmas.List.{length-map}
use Rattle.std.specs.Prelude.{replicate, slice_index_or, ◌&&◌, nat_le}
use Rattle.hs_entry.specs.declared.entry.Entry.{Entry}
use Rattle.hs_entry.specs.declared.entry.Entry.TheVariants.{View}
use Rattle.hs_limits.specs.declared.limits.PeerStatus.TheVariants as is
use Rattle.hs_limits.specs.declared.shape.Shape.{Shape}
use Rattle.hs_limits.specs.Shape.{peer_of}
use Rattle.hs_members.specs.Members.{Members, is_good_status, status, view_of}
use Rattle.hs_rejoin.specs.Rejoin.{Rejoin}
use Rattle.hs_replica.specs.declared.replica.Replica.{Replica}
use Rattle.hs_replica.specs.Group.{Group, IsHome, copy_of, lead, new_group, no_copy, told, view_after, view_messages, whole_copy}
use Rattle.hs_copies.specs.CoreCopies.{CoreCopies, core_open, opens_good}
use Rattle.hs_copies.specs.Lists.{Item}
use Rattle.hs_copies.specs.Machine.{Copies, Down, Following, Good, PeerCopy}
use Rattle.hs_copies.specs.Opened.{copy_with, opened_copies, stamped_alike, taken_copies}
use Rattle.hs_copies.specs.Stamps.{view_told}
use Rattle.hs_copies.specs.Standing.{Continues, IsCopyOf, IsOpening, StandsFor, stage_of, stamps_of}
use Rattle.hs_copies.proofs.FailLemmas.{good_found}
use Rattle.hs_copies.proofs.HomeLemmas.{Leads, le_or_lt, lead_found}
use Rattle.hs_copies.proofs.ListLemmas.{front_refl}
use Rattle.hs_copies.proofs.NewViewLemmas.{Before, told_good, told_length, view_is, view_stands, viewed, viewed_messages}
use Rattle.hs_copies.proofs.OpenedLemmas.{opened_right}
use Rattle.hs_copies.proofs.OpeningLemmas.{alike_below, alike_rises, opened_tells}
use Rattle.hs_copies.proofs.RunLemmas.{opened_owned}
use Rattle.hs_copies.proofs.SendLemmas.{tell_all}

alike_long : (v : ℕ) (xs : List (Item Entry)) → length (stamped_alike v xs) ≡ length xs
alike_long v [] = refl
alike_long v (x ∷ xs) = omega (arith, alike_long v xs)

alike_stamps : (v : ℕ) (xs : List (Item Entry)) → stamps_of (stamped_alike v xs) ≡ replicate (length xs) v
alike_stamps v [] = refl
alike_stamps v (x ∷ xs) = ap (λ k. v ∷ k) (alike_stamps v xs)

drop_whole : {X : Type 0} (xs : List X) → drop (length xs) xs ≡ []
drop_whole [] = refl
drop_whole (x ∷ xs) = drop_whole xs

abbrev one_copy : ℕ → ℕ → Bool → Replica
one_copy view len b = if b then whole_copy view len else no_copy

get_copy : (view len : ℕ) (good : List Bool) (i : ℕ) → slice_index_or (map (λ b. if b then whole_copy view len else no_copy) good) i no_copy ≡ one_copy view len (slice_index_or good i false)
get_copy view len [] i = refl
get_copy view len (b ∷ good) zero = refl
get_copy view len (b ∷ good) (suc i) = get_copy view len good i

past : (good : List Bool) (i : ℕ) → length good ≤ i → slice_index_or good i false ≡ false
past [] i l = refl
past (b ∷ good) zero l = absurd (omega (arith, l))
past (b ∷ good) (suc i) l = past good i (omega (arith, l))

-- a copy of the group and of the machine, good or not
one_is : (view : ℕ) (log : List (Item Entry)) (b : Bool) → IsCopyOf (one_copy view (length log) b) (copy_with (stamped_alike view log) b)
one_is view log true =
    record { good = refl; stamps = sym (alike_stamps view log); sealed = sym (alike_long view log); known = λ e. sym (alike_long view log) }
one_is view log false = record { good = refl; stamps = refl; sealed = refl; known = λ e. refl }

module _ (shape : Shape) (shard : ℕ) (log : List (Item Entry)) (good : List Bool) (m : Members) (rejoins : ℕ → Rejoin) (o : IsOpening shape shard log good m)
    (line : Entry → Option ℕ) (views : (view : ℕ) → line (View view) ≡ None) where
  v : ℕ
  v = view_told view_after 0 log

  abbrev group : Group
  group = new_group shape shard (view_told view_after 0 log) (length log) good

  abbrev c : CoreCopies
  c = record { group = new_group shape shard (view_told view_after 0 log) (length log) good; members = m; rejoins = rejoins; sent = []; waits = λ k. false }

  abbrev s : Copies Entry
  s = taken_copies (view_told view_after 0 log) (stamped_alike (view_told view_after 0 log) log) (opens_good shape shard good)

  abbrev peers : ℕ → PeerCopy Entry
  peers q = copy_with (stamped_alike (view_told view_after 0 log) log) (opens_good shape shard good q)

  at_home : (q : ℕ) → IsHome group q → opens_good shape shard good q ≡ slice_index_or good (q - peer_of shape shard 0) false
  at_home q h = go (nat_le (peer_of shape shard 0) q) refl
    where
      go : (b : Bool) → nat_le (peer_of shape shard 0) q ≡ b → (b && slice_index_or good (q - peer_of shape shard 0) false) ≡ slice_index_or good (q - peer_of shape shard 0) false
      go true e = refl
      go false e = absurd (grind (arith, nat_tests))

  away : (q : ℕ) → (IsHome group q → ⊥) → opens_good shape shard good q ≡ false
  away q n = go (nat_le (peer_of shape shard 0) q) refl
    where
      go : (b : Bool) → nat_le (peer_of shape shard 0) q ≡ b → (b && slice_index_or good (q - peer_of shape shard 0) false) ≡ false
      go false e = refl
      go true e =
          let low : peer_of shape shard 0 ≤ q = grind (arith, nat_tests) in
          elim (le_or_lt (suc q) (peer_of shape shard 0 + shape.copies)) [
            | inl k ↦ absurd (n (low, omega (arith, k)))
            | inr k ↦ past good (q - peer_of shape shard 0) (omega (arith, k, low, o.copies))
          ]

  status_of_peer : (q : ℕ) → IsHome group q → status q m ≡ (if opens_good shape shard good q then is.Good else is.Down)
  status_of_peer q h =
      let place : peer_of shape shard (q - peer_of shape shard 0) ≡ q = omega (arith, h.0) in
      let k = o.each (q - peer_of shape shard 0) (omega (arith, h.0, h.1)) in
      rw (at_home q h) (rw place at k)

  group_copies : length (new_group shape shard (view_told view_after 0 log) (length log) good).copies ≡ shape.copies
  group_copies = length-map good (λ b. if b then whole_copy (view_told view_after 0 log) (length log) else no_copy) ∙ o.copies

  each_copy : (q : ℕ) → IsHome group q → IsCopyOf (copy_of group q) (peers q)
  each_copy q h =
      rw (get_copy (view_told view_after 0 log) (length log) good (q - peer_of shape shard 0), at_home q h)
      (one_is (view_told view_after 0 log) log (slice_index_or good (q - peer_of shape shard 0) false))

  opening_before : Before c s
  opening_before =
      record {
        shard = o.within;
        copies = group_copies;
        each = each_copy;
        front = sym (alike_long (view_told view_after 0 log) log);
        waiting = rw (drop_whole (stamped_alike (view_told view_after 0 log) log)) refl;
        sent = λ n k. absurd k;
      }

  stage_by : (b : Bool) (due : Bool) → (copy_with (stamped_alike (view_told view_after 0 log) log) b).stage ≡ stage_of (if b then is.Good else is.Down) due
  stage_by true due = refl
  stage_by false due = refl

  open_stages : (q : ℕ) → IsHome group q → (peers q).stage ≡ stage_of (status q m) (rejoins q).empty
  open_stages q h = rw (status_of_peer q h) (stage_by (opens_good shape shard good q) (rejoins q).empty)

  none_follows : (b : Bool) → (copy_with (stamped_alike (view_told view_after 0 log) log) b).stage ≡ Following → ⊥
  none_follows true e = cc e
  none_follows false e = cc e

  open_elsewhere : (q : ℕ) → (IsHome group q → ⊥) → (peers q).stage ≡ Down
  open_elsewhere q n = rw (away q n) refl

  record HasFirstLead (l : ℕ) : Type 0 where
    chosen : lead (told m (new_group shape shard (view_told view_after 0 log) (length log) good)) ≡ Some l
    leads : Leads (told m (new_group shape shard (view_told view_after 0 log) (length log) good)) l
    good_there : opens_good shape shard good l ≡ true

  first_lead : (l : ℕ) × HasFirstLead l
  first_lead =
      let q = good_found group m o.same o.some in
      let n : length (told m group).copies ≡ shape.copies = told_length m group ∙ group_copies in
      let f = lead_found (told m group) q.0 n q.1 (told_good m group q.0 group_copies q.1 ∙ q.2) in
      let k : Leads (told m group) f.0 = f.2 in
      let g : is_good_status (status f.0 m) ≡ true = sym (told_good m group f.0 group_copies k.home) ∙ k.good in
      (f.0, record { chosen = f.1; leads = k; good_there = by_status (opens_good shape shard good f.0) (rw (status_of_peer f.0 k.home) at g) })
    where
      by_status : (b : Bool) → is_good_status (if b then is.Good else is.Down) ≡ true → b ≡ true
      by_status true e = refl
      by_status false e = let wrong : false ≡ true = e in cc

  module _ (l : ℕ) (d : HasFirstLead l) where
    good_stage_of : (b : Bool) → b ≡ true → (copy_with (stamped_alike (view_told view_after 0 log) log) b).stage ≡ Good
    good_stage_of true e = refl
    good_stage_of false e = let wrong : false ≡ true = e in cc

    list_of : (b : Bool) → b ≡ true → (copy_with (stamped_alike (view_told view_after 0 log) log) b).list ≡ stamped_alike (view_told view_after 0 log) log
    list_of true e = refl
    list_of false e = let wrong : false ≡ true = e in cc

    lead_list : (peers l).list ≡ stamped_alike (view_told view_after 0 log) log
    lead_list = list_of (opens_good shape shard good l) d.good_there

    begun : Copies Entry
    begun = opened_copies (view_told view_after 0 log) (stamped_alike (view_told view_after 0 log) log) (opens_good shape shard good) l (View (view_of shard m))

    begun_stands : StandsFor line (record c { group = viewed m l group }) (opened_copies (view_told view_after 0 log) (stamped_alike (view_told view_after 0 log) log) (opens_good shape shard good) l (View (view_of shard m)))
    begun_stands =
        view_stands c s opening_before m rejoins peers l o.same o.valid o.view (λ q. refl) (λ q. refl) open_stages
        (λ q h e. absurd (none_follows (opens_good shape shard good q) e)) (λ q h e. absurd (none_follows (opens_good shape shard good q) e)) open_elsewhere
        d.chosen d.leads.home (good_stage_of (opens_good shape shard good l) d.good_there)
        (rw lead_list (front_refl (stamped_alike (view_told view_after 0 log) log))) (omega (arith, ap (λ k. length k) lead_list))
        line views
        (opened_owned line (view_told view_after 0 log) (stamped_alike (view_told view_after 0 log) log) (opens_good shape shard good) l (View (view_of shard m)) d.good_there (views (view_of shard m)) (λ k. false))
        (opened_right (view_told view_after 0 log) (stamped_alike (view_told view_after 0 log) log) (opens_good shape shard good) l (View (view_of shard m))
        (alike_rises (view_told view_after 0 log) 0 log (omega arith)) (alike_below (view_told view_after 0 log) log) d.good_there)
        (stamped_alike (view_told view_after 0 log) log) (view_told view_after 0 log)
        (opened_tells view_after log (opens_good shape shard good) l (View (view_of shard m)) (view_told view_after 0 log) o.ascends refl d.good_there (λ w. o.view))

    begun_continues : Continues line (core_open shape shard (view_told view_after 0 log) (length log) good m rejoins)
        (opened_copies (view_told view_after 0 log) (stamped_alike (view_told view_after 0 log) log) (opens_good shape shard good) l (View (view_of shard m)))
    begun_continues =
        let may = viewed_messages c s opening_before m rejoins peers l o.same o.valid o.view (λ q. refl) (λ q. refl) open_stages
        (λ q h e. absurd (none_follows (opens_good shape shard good q) e)) (λ q h e. absurd (none_follows (opens_good shape shard good q) e)) open_elsewhere
        d.chosen d.leads.home (good_stage_of (opens_good shape shard good l) d.good_there)
        (rw lead_list (front_refl (stamped_alike (view_told view_after 0 log) log))) (omega (arith, ap (λ k. length k) lead_list)) in
        let k = tell_all (record c { group = viewed m l group }) (opened_copies (view_told view_after 0 log) (stamped_alike (view_told view_after 0 log) log) (opens_good shape shard good) l (View (view_of shard m)))
        begun_stands (view_messages m group) may in
        rw (view_is m group l d.chosen) (record { events = k.events; allowed = k.allowed; stands = k.stands })

  pub opens : (l : ℕ) × (opens_good shape shard good l ≡ true)
      × Continues line (core_open shape shard (view_told view_after 0 log) (length log) good m rejoins)
      (opened_copies (view_told view_after 0 log) (stamped_alike (view_told view_after 0 log) log) (opens_good shape shard good) l (View (view_of shard m)))
  opens = let d = first_lead in (d.0, d.1.good_there, begun_continues d.0 d.1)
