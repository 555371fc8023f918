-- What took effect of a shard's list: each good peer has sealed it, and it only grows.
use Rattle.std.proofs.Common.{◌≡◌, ◌∙◌, ap, sym, subst, refl, ℕ, zero, suc, ◌+◌, ◌<◌, ◌≤◌, List, [], ◌∷◌, ◌++◌, Contains, Some, length, map, arith}
use Rattle.std.proofs.lemmas.List.{map-append}
use Rattle.std.specs.List.{enumerate_from}
use Rattle.std.specs.Prelude.{slice_index_or, take}
use Rattle.hs_cluster.specs.Cached.{HasEffect, effect_by, in_effect}
use Rattle.hs_cluster.specs.Sealed.{sealed_front}
use Rattle.hs_copies.proofs.OpenedLemmas.{took_good}
use Rattle.hs_copies.proofs.StandLemmas.{HasLead, stands_lead}
use Rattle.hs_copies.specs.Lists.{IsFront, Item}
use Rattle.hs_copies.specs.Machine.{Copies}
use Rattle.hs_core_copies.proofs.BesideLemmas.{home_of_peer}
use Rattle.hs_core_copies.proofs.LeadLemmas.{lead_is}
use Rattle.hs_core_copies.proofs.StepLemmas.{lead_in_step}
use Rattle.hs_core_copies.proofs.UnsealedLemmas.{numbered_append}
use Rattle.hs_core_copies.specs.InStep.{IsOf, copies_in}
use Rattle.hs_core_copies.specs.Lists.{numbered}
use Rattle.hs_core_words.specs.Looking.{front_of, home, lead_of, status_of}
use Rattle.hs_entry.specs.declared.entry.Entry.{Entry}
use Rattle.hs_events.specs.Whole.{Whole, floor}
use Rattle.hs_fold.specs.Shards.Setting.{Numbered}
use Rattle.hs_limits.specs.declared.limits.PeerStatus.TheVariants.{Good}
use Rattle.hs_moments.specs.WholeMachine.{IsFrontOf}
use Rattle.hs_whole_copies.specs.Whole.{IsShardInStep}
use Rattle.hs_steady.proofs.PeerLemmas.{floor_good, good_stage, reach_good, sealed_is}

-- ---- lists

abbrev what : Item Entry → Entry
what x = x.what

front_rest : {X : Type 0} (xs ys : List X) → IsFront xs ys → (rest : List X) × (ys ≡ xs ++ rest)
front_rest [] ys h = (ys, refl)
front_rest (x ∷ xs) [] h = absurd h
front_rest (x ∷ xs) (y ∷ ys) h = let r = front_rest xs ys h.1 in (r.0, (λ i. sym h.0 i ∷ r.1 i))

pub numbered_front : (xs ys : List (Item Entry)) → IsFront xs ys → (more : Numbered) × (numbered ys ≡ numbered xs ++ more)
numbered_front xs ys h =
    let r = front_rest xs ys h in (
      enumerate_from (1 + length (map what xs)) (map what r.0),
      ap numbered r.1 ∙ ap (enumerate_from 1) (map-append what xs r.0) ∙ numbered_append 1 (map what xs) (map what r.0),
    )

-- as many as a front has
taken_front : (m : ℕ) (xs : List (Item Entry)) (more : Numbered) → take (length xs) (enumerate_from m (map what xs) ++ more) ≡ enumerate_from m (map what xs)
taken_front m [] more = refl
taken_front m (x ∷ xs) more = ap (λ l. (m, x.what) ∷ l) (taken_front (m + 1) xs more)

-- and more
taken_past : (m n : ℕ) (xs : List (Item Entry)) (more : Numbered) → length xs ≤ n → (rest : Numbered) × (take n (enumerate_from m (map what xs) ++ more) ≡ enumerate_from m (map what xs) ++ rest)
taken_past m n [] more low = (take n more, refl)
taken_past m zero (x ∷ xs) more low = absurd (omega (arith, low))
taken_past m (suc n) (x ∷ xs) more low = let r = taken_past (m + 1) n xs more (omega (arith, low)) in (r.0, ap (λ l. (m, x.what) ∷ l) r.1)

contains_none : {A : Type 0} (x : A) → Contains [] x → ⊥
contains_none x there = omega (arith, there.1)

-- an entry stands at the place of its number
there_below : (m n j number : ℕ) (entry : Entry) (es : List Entry) → number < m + j → Contains (take n (enumerate_from m es)) (number, entry) → Contains (take j (enumerate_from m es)) (number, entry)
there_below m zero j number entry es low there = absurd (contains_none (number, entry) there)
there_below m (suc n) j number entry [] low there = absurd (contains_none (number, entry) there)
there_below m (suc n) j number entry (e ∷ es) low there = by j low there.0 there.1 there.2 (λ i below inside. there_below (m + 1) n i number entry es below inside)
  where
    number_is : (a b : ℕ × Entry) → a ≡ b → a.0 ≡ b.0
    number_is a b is = ap (λ (x : ℕ × Entry). x.0) is

    by : (j : ℕ) → number < m + j → (k : ℕ) → k < length ((m, e) ∷ take n (enumerate_from (m + 1) es)) → slice_index_or ((m, e) ∷ take n (enumerate_from (m + 1) es)) k (number, entry) ≡ (number, entry)
        → ((i : ℕ) → number < m + 1 + i → Contains (take n (enumerate_from (m + 1) es)) (number, entry) → Contains (take i (enumerate_from (m + 1) es)) (number, entry))
        → Contains (take j ((m, e) ∷ enumerate_from (m + 1) es)) (number, entry)
    by zero low zero within at rest = let same = number_is (m, e) (number, entry) at in absurd (omega (arith, low, same))
    by zero low (suc k) within at rest = absurd (contains_none (number, entry) (rest 0 (omega (arith, low)) (k, omega (arith, within), at)))
    by (suc j) low zero within at rest = (0, omega arith, at)
    by (suc j) low (suc k) within at rest =
        let c = rest j (omega (arith, low)) (k, omega (arith, within), at) in
        (suc c.0, (let inside = c.1 in omega (arith, inside)), c.2)

-- ---- a shard

module _ (g : ℕ) (c : Whole) (s : Copies Entry) (k : IsShardInStep g c s) where
  front_is : front_of g c.core ≡ length s.took
  front_is = k.in_step.stands.front

  taken_of : (ys : List (Item Entry)) → IsFront s.took ys → take (length s.took) (numbered ys) ≡ numbered s.took
  taken_of ys h = let r = numbered_front s.took ys h in ap (take (length s.took)) r.1 ∙ taken_front 1 s.took r.0

  pub effect_is : in_effect c g ≡ numbered s.took
  effect_is =
      let d : HasLead (copies_in g k.in_step.sent c.core) s = stands_lead (copies_in g k.in_step.sent c.core) s k.in_step.stands in
      let leads : lead_of g c.core ≡ Some d.peer = lead_in_step g c.core s k.in_step ∙ d.is in
      let own : IsOf c.core.members.shape g d.peer = (lead_is g c.core d.peer (k.in_step.seated.placed g).few leads).own in
      ap (effect_by c g) leads ∙ ap (λ n. take n (c.lists d.peer)) front_is ∙ ap (take (length s.took)) (k.lists d.peer own ∙ ap numbered d.whole) ∙ taken_of s.log k.in_step.stands.faithful.took

  -- a good peer
  module _ (q : ℕ) (own : IsOf c.core.members.shape g q) (good : status_of q c.core ≡ Good) where
    took_here : IsFront s.took (s.peers q).list
    took_here = took_good s k.in_step.stands.faithful q (good_stage g q c s k own good)

    sealed_list : sealed_front c q ≡ take (floor c q) (numbered (s.peers q).list)
    sealed_list = ap (take (floor c q)) (reach_good g q c s k own good ∙ k.lists q own)

    long : length s.took ≤ floor c q
    long =
        let copy = k.in_step.stands.faithful.good q (good_stage g q c s k own good) in
        let front = copy.front in
        let told = copy.told in
        let floor_is = floor_good c q good in
        let group_is = sealed_is g q c s k own in
        let machine_is = (k.in_step.stands.peers.each q (home_of_peer g c.core s k.in_step q own)).sealed in
        omega (arith, front, told, floor_is, group_is, machine_is)

    effect_begins : IsFrontOf q (in_effect c g) (sealed_front c q)
    effect_begins =
        let f = numbered_front s.took (s.peers q).list took_here in
        let r = taken_past 1 (floor c q) s.took f.0 long in
        (r.0, sealed_list ∙ ap (take (floor c q)) f.1 ∙ r.1 ∙ ap (λ (l : Numbered). l ++ r.0) (sym effect_is))

    effect_within : (number : ℕ) (entry : Entry) → number ≤ front_of g c.core → Contains (sealed_front c q) (number, entry) → Contains (in_effect c g) (number, entry)
    effect_within number entry low there =
        subst (λ (l : Numbered). Contains l (number, entry)) (taken_of (s.peers q).list took_here ∙ sym effect_is)
        (there_below 1 (floor c q) (length s.took) number entry (map what (s.peers q).list) (omega (arith, low, front_is)) (subst (λ (l : Numbered). Contains l (number, entry)) sealed_list there))

-- of the shard of a good peer
pub good_effect : (c : Whole) (q : ℕ) (s : Copies Entry) → IsShardInStep (home q c.core) c s → status_of q c.core ≡ Good → HasEffect c q
good_effect c q s k good = record { begins = effect_begins (home q c.core) c s k q refl good; within = effect_within (home q c.core) c s k q refl good }

-- what took effect grows where the machine's does
pub effect_grows : (g : ℕ) (c new : Whole) (s t : Copies Entry) → IsShardInStep g c s → IsShardInStep g new t → IsFront s.took t.took → IsFrontOf g (in_effect c g) (in_effect new g)
effect_grows g c new s t k after front =
    let r = numbered_front s.took t.took front in
    (r.0, effect_is g new t after ∙ r.1 ∙ ap (λ (l : Numbered). l ++ r.0) (sym (effect_is g c s k)))
