-- An entry takes effect, and with the Roots that may yet take effect no shard has more root records than it takes.
use Rattle.std.proofs.Common.{◌≡◌, ◌∙◌, sym, ap, subst, ◌⊎◌, inl, inr, ℕ, suc, ◌+◌, ◌-◌, ◌<◌, ◌≤◌, Bool, true, false, cond, List, [], ◌∷◌, arith, count_by, drop, length, take, Some, None, refl, slice_get}
use Rattle.std.proofs.lemmas.Bool.{ltb-true}
use Rattle.std.proofs.lemmas.List.{length-append, take-append-le}
use Rattle.std.proofs.lemmas.List.Sums.{sum_by-cons}
use Rattle.std.specs.Option.{option_map}
use Rattle.std.specs.Prelude.{nat_lt, slice_index_or, slice_set}
use Rattle.hs_standing.specs.Walks.{HasRecordRoom}
use Rattle.hs_standing.proofs.AlongRecordLemmas.{AddsRecords, applied_adds}
use Rattle.hs_standing.proofs.GrownLemmas.{Grown, grown_catalogue}
use Rattle.hs_standing.proofs.KnownLemmas.{fewer_roots, taken_front}
use Rattle.hs_core_words.specs.Looking.{catalogue_of, front_of, group_of, shape_of}
use Rattle.hs_core_words.specs.Pending.{named}
use Rattle.hs_core_words.specs.State.{Core}
use Rattle.hs_effects.specs.Taking.{done_by, taken}
use Rattle.hs_effects.proofs.EffectLemmas.{taken_here}
use Rattle.hs_effects.proofs.GroupLemmas.{IsFirst, committed_first, set_at}
use Rattle.hs_effects.proofs.LookLemmas.{one_or_other}
use Rattle.hs_effects.proofs.OrderlyLemmas.{some_is}
use Rattle.hs_entry.specs.declared.entry.Entry.{Entry}
use Rattle.hs_fold.proofs.Shards.PlaceLemmas.{other-at}
use Rattle.hs_fold.specs.Shards.Sound.{most_records}
use Rattle.hs_replica.specs.Group.{Group, commit_front, committed, last_number, new_group, take_committed}
use Rattle.hs_replica.specs.Kinds.{is_root}
use Rattle.hs_shard.specs.Facts.{Catalogue, empty_catalogue}

-- no more is known to be sealed than there is, and with the Roots up to there no shard has more root records than it takes
pub record HasFewLeft (c : Core) : Type 0 where
  pub within : (g : ℕ) → commit_front (group_of g c) ≤ last_number (group_of g c)
  pub few : (g : ℕ) → length (catalogue_of g c).roots + count_by is_root (take (commit_front (group_of g c) - front_of g c) (group_of g c).waiting) ≤ most_records

-- numbers
part_few : (n k most : ℕ) → n + k ≤ most → n ≤ most
part_few n k most h = omega (arith, h)

less_few : (n less more most : ℕ) → n + more ≤ most → less ≤ more → n + less ≤ most
less_few n less more most h l = omega (arith, h, l)

one_few : (now held one rest all most : ℕ) → now ≤ held + one → held + all ≤ most → all ≡ one + rest → now + rest ≤ most
one_few now held one rest all most a h e = omega (arith, a, h, e)

grown_fits : (known front long more known' front' long' : ℕ) → known ≤ front + long → known' ≡ known → front' ≡ front → long' ≡ long + more → known' ≤ front' + long'
grown_fits known front long more known' front' long' h a b c = omega (arith, h, a, b, c)

left_fits : (known front long : ℕ) → known ≤ front + long → known - front ≤ long
left_fits known front long h = omega (arith, h)

taken_fits : (known front long rest known' front' long' : ℕ) → known ≤ front + long → long ≡ suc rest → long' ≡ rest → front' ≡ front + 1 → known' ≡ known → known' ≤ front' + long'
taken_fits known front long rest known' front' long' h a b c d = omega (arith, h, a, b, c, d)

one_left : (known front known' front' : ℕ) → front < known → front' ≡ front + 1 → known' ≡ known → known - front ≡ suc (known' - front')
one_left known front known' front' h a b = omega (arith, h, a, b)

same_more : (m n k : ℕ) → m ≡ n → m ≤ n + k
same_more m n k e = omega (arith, e)

-- each shard has few root records
pub few_records : (c : Core) → HasFewLeft c → (g : ℕ) → length (catalogue_of g c).roots ≤ most_records
few_records c h g = part_few (length (catalogue_of g c).roots) (count_by is_root (take (commit_front (group_of g c) - front_of g c) (group_of g c).waiting)) most_records (h.few g)

-- where they are few with all Roots that wait
pub few_room : (c : Core) → HasRecordRoom c → ((g : ℕ) → commit_front (group_of g c) ≤ last_number (group_of g c)) → HasFewLeft c
few_room c room within = record {
  within = within;
  few = λ g. less_few (length (catalogue_of g c).roots) (count_by is_root (take (commit_front (group_of g c) - front_of g c) (group_of g c).waiting)) (count_by is_root (group_of g c).waiting) most_records (room g)
      (fewer_roots (commit_front (group_of g c) - front_of g c) (group_of g c).waiting);
}

-- ---- entries come behind those that wait

pub few_grown : (a b : Core) → Grown a b → HasFewLeft a → HasFewLeft b
few_grown a b p h = record { within = within; few = few }
  where
    within : (g : ℕ) → commit_front (group_of g b) ≤ last_number (group_of g b)
    within g =
        let more = p.waiting g in
        grown_fits (commit_front (group_of g a)) (front_of g a) (length (group_of g a).waiting) (length more.0) (commit_front (group_of g b)) (front_of g b) (length (group_of g b).waiting)
        (h.within g) (p.known g) (p.front g) (ap length more.1 ∙ length-append (group_of g a).waiting more.0)

    few : (g : ℕ) → length (catalogue_of g b).roots + count_by is_root (take (commit_front (group_of g b) - front_of g b) (group_of g b).waiting) ≤ most_records
    few g =
        let more = p.waiting g in
        let left : ℕ = commit_front (group_of g a) - front_of g a in
        let long : commit_front (group_of g a) - front_of g a ≤ length (group_of g a).waiting = left_fits (commit_front (group_of g a)) (front_of g a) (length (group_of g a).waiting) (h.within g) in
        let same : take (commit_front (group_of g b) - front_of g b) (group_of g b).waiting ≡ take left (group_of g a).waiting =
        ap (λ k. take (k - front_of g b) (group_of g b).waiting) (p.known g) ∙ ap (λ k. take (commit_front (group_of g a) - k) (group_of g b).waiting) (p.front g) ∙ ap (take left) more.1 ∙ take-append-le left (group_of g a).waiting more.0 long in
        subst (λ (x : Catalogue). length x.roots + count_by is_root (take (commit_front (group_of g b) - front_of g b) (group_of g b).waiting) ≤ most_records) (sym (grown_catalogue a b p g))
        (subst (λ ws. length (catalogue_of g a).roots + count_by is_root ws ≤ most_records) (sym same) (h.few g))

-- ---- one entry takes effect

counted : (entry : Entry) (entries : List Entry) → count_by is_root (entry ∷ entries) ≡ cond (is_root entry) 1 0 + count_by is_root entries
counted entry entries = sum_by-cons (λ (e : Entry). cond (is_root e) 1 0) entry entries

-- the first, and those behind it
first_is : (entries : List Entry) (entry : Entry) → slice_get entries 0 ≡ Some entry → entries ≡ entry ∷ drop 1 entries
first_is [] entry e = absurd (cc e)
first_is (x ∷ entries) entry e = ap (λ y. y ∷ entries) (some_is x entry e)

-- it is known to be sealed
committed_known : (group : Group) (x : ℕ × Entry) → committed group ≡ Some x → group.front < commit_front group
committed_known group x next = go (nat_lt group.front (commit_front group)) refl next
  where
    go : (b : Bool) → nat_lt group.front (commit_front group) ≡ b → cond b (option_map (λ (entry : Entry). (group.front + 1, entry)) (slice_get group.waiting 0)) None ≡ Some x → group.front < commit_front group
    go true low e = ltb-true group.front (commit_front group) low
    go false high e = absurd (cc e)

module _ (shard number : ℕ) (entry : Entry) (c : Core) (next : committed (group_of shard c) ≡ Some (number, entry)) where
  abbrev then : Core
  then = taken shard entry c

  one : IsFirst (group_of shard c) number entry
  one = committed_first (group_of shard c) number entry next

  abbrev rest : List Entry
  rest = drop 1 (group_of shard c).waiting

  waits : (group_of shard c).waiting ≡ entry ∷ drop 1 (group_of shard c).waiting
  waits = first_is (group_of shard c).waiting entry one.first

  waits_then : (group_of shard then).waiting ≡ drop 1 (group_of shard c).waiting
  waits_then = ap (λ (x : Group). x.waiting) (taken_here shard number entry c next) ∙ one.taken.waiting

  front_then : front_of shard then ≡ front_of shard c + 1
  front_then = ap (λ (x : Group). x.front) (taken_here shard number entry c next) ∙ one.taken.front

  known_then : commit_front (group_of shard then) ≡ commit_front (group_of shard c)
  known_then = ap commit_front (taken_here shard number entry c next) ∙ taken_front (group_of shard c)

  group_other : (g : ℕ) → (g ≡ shard → ⊥) → group_of g then ≡ group_of g c
  group_other g d = other-at (new_group (shape_of c) g 0 0 []) c.groups shard g (take_committed (group_of shard c)) d

  -- its shard's catalogue is the one behind it, or as it was
  records_then : length (catalogue_of shard then).roots ≤ length (catalogue_of shard c).roots + cond (is_root entry) 1 0
  records_then = by (set_at (empty_catalogue (shape_of c) shard) c.catalogues shard (done_by shard entry c).catalogue)
    where
      done : Catalogue
      done = (done_by shard entry c).catalogue

      none : Catalogue
      none = empty_catalogue (shape_of c) shard

      adds : AddsRecords entry (catalogue_of shard c) done
      adds = applied_adds (front_of shard c + 1) entry (named entry c) (catalogue_of shard c)

      by : (slice_index_or (slice_set c.catalogues shard done) shard none ≡ done) ⊎ (slice_index_or (slice_set c.catalogues shard done) shard none ≡ slice_index_or c.catalogues shard none)
          → length (catalogue_of shard then).roots ≤ length (catalogue_of shard c).roots + cond (is_root entry) 1 0
      by (inl set) = subst (λ (x : Catalogue). length x.roots ≤ length (catalogue_of shard c).roots + cond (is_root entry) 1 0) (sym set) adds
      by (inr old) = same_more (length (catalogue_of shard then).roots) (length (catalogue_of shard c).roots) (cond (is_root entry) 1 0) (ap (λ (x : Catalogue). length x.roots) old)

  records_other : (g : ℕ) → (g ≡ shard → ⊥) → catalogue_of g then ≡ catalogue_of g c
  records_other g d = other-at (empty_catalogue (shape_of c) g) c.catalogues shard g (done_by shard entry c).catalogue d

  module _ (h : HasFewLeft c) where
    within_then : commit_front (group_of shard then) ≤ last_number (group_of shard then)
    within_then =
        taken_fits (commit_front (group_of shard c)) (front_of shard c) (length (group_of shard c).waiting) (length rest) (commit_front (group_of shard then)) (front_of shard then) (length (group_of shard then).waiting)
        (h.within shard) (ap length waits) (ap length waits_then) front_then known_then

    few_then : length (catalogue_of shard then).roots + count_by is_root (take (commit_front (group_of shard then) - front_of shard then) (group_of shard then).waiting) ≤ most_records
    few_then =
        let left : ℕ = commit_front (group_of shard then) - front_of shard then in
        let more : commit_front (group_of shard c) - front_of shard c ≡ suc (commit_front (group_of shard then) - front_of shard then) =
        one_left (commit_front (group_of shard c)) (front_of shard c) (commit_front (group_of shard then)) (front_of shard then) (committed_known (group_of shard c) (number, entry) next) front_then known_then in
        let all : count_by is_root (take (commit_front (group_of shard c) - front_of shard c) (group_of shard c).waiting) ≡ cond (is_root entry) 1 0 + count_by is_root (take left (group_of shard then).waiting) =
        ap (λ k. count_by is_root (take k (group_of shard c).waiting)) more ∙ ap (λ ws. count_by is_root (take (suc left) ws)) waits ∙ counted entry (take left rest) ∙ ap (λ ws. cond (is_root entry) 1 0 + count_by is_root (take left ws)) (sym waits_then) in
        one_few (length (catalogue_of shard then).roots) (length (catalogue_of shard c).roots) (cond (is_root entry) 1 0) (count_by is_root (take left (group_of shard then).waiting))
        (count_by is_root (take (commit_front (group_of shard c) - front_of shard c) (group_of shard c).waiting)) most_records records_then (h.few shard) all

    pub few_taken : HasFewLeft (taken shard entry c)
    few_taken = record { within = λ g. within g (one_or_other g shard); few = λ g. few g (one_or_other g shard) }
      where
        within : (g : ℕ) → (g ≡ shard) ⊎ (g ≡ shard → ⊥) → commit_front (group_of g then) ≤ last_number (group_of g then)
        within g (inl same) = subst (λ k. commit_front (group_of k then) ≤ last_number (group_of k then)) (sym same) within_then
        within g (inr d) = subst (λ (x : Group). commit_front x ≤ last_number x) (sym (group_other g d)) (h.within g)

        few : (g : ℕ) → (g ≡ shard) ⊎ (g ≡ shard → ⊥) → length (catalogue_of g then).roots + count_by is_root (take (commit_front (group_of g then) - front_of g then) (group_of g then).waiting) ≤ most_records
        few g (inl same) = subst (λ k. length (catalogue_of k then).roots + count_by is_root (take (commit_front (group_of k then) - front_of k then) (group_of k then).waiting) ≤ most_records) (sym same) few_then
        few g (inr d) =
            subst (λ (x : Group). length (catalogue_of g then).roots + count_by is_root (take (commit_front x - x.front) x.waiting) ≤ most_records) (sym (group_other g d))
            (subst (λ (x : Catalogue). length x.roots + count_by is_root (take (commit_front (group_of g c) - front_of g c) (group_of g c).waiting) ≤ most_records) (sym (records_other g d)) (h.few g))
