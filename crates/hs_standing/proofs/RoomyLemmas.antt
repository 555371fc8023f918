-- What is known of copies stays within the lists, and root records few, where a view begins.
use Rattle.std.proofs.Common.{◌≡◌, ◌∙◌, sym, ap, subst, ◌⊎◌, inl, inr, ℕ, zero, suc, ◌+◌, ◌-◌, ◌<◌, ◌≤◌, ◌++◌, true, false, List, [], ◌∷◌, Option, Some, None, refl, arith, count_by, length, slice_index_or, slice_set}
use Rattle.std.specs.Option.{option_map_or}
use Rattle.hs_awaiting.specs.Words.{change_with, each}
use Rattle.hs_core_words.specs.Changing.{add_entry_tasks, change_group, post, set_viewed}
use Rattle.hs_core_words.specs.Looking.{catalogue_of, group_of, lead_of, shape_of}
use Rattle.hs_core_words.specs.Records.{HasRecordRoom, most_records}
use Rattle.hs_core_words.specs.State.{Core}
use Rattle.hs_core_words.specs.Views.{begin_view, restart}
use Rattle.hs_effects.proofs.GroupLemmas.{group_changed}
use Rattle.hs_entry.specs.declared.entry.Entry.{Entry}
use Rattle.hs_entry.specs.declared.entry.Entry.TheVariants as kind
use Rattle.hs_limits.specs.declared.limits.PeerStatus.{PeerStatus}
use Rattle.hs_limits.specs.declared.limits.PeerStatus.TheVariants.{Down, Good}
use Rattle.hs_limits.specs.declared.shape.Shape.{Shape}
use Rattle.hs_limits.specs.Shape.{peer_of}
use Rattle.hs_members.specs.Members.{Members, is_good_status, status, view_of}
use Rattle.hs_replica.specs.Group.{Group, commit_front, first_peer, last_number, lead, length_of, no_copy, propose, proposal, renew, renewal, told}
use Rattle.hs_replica.specs.Kinds.{is_root}
use Rattle.hs_shard.specs.Facts.{Catalogue}
use Rattle.hs_standing.proofs.KnownLemmas.{fewer_roots, more_roots, proposed_known, viewed_known}
use Rattle.hs_standing.specs.Copies.{IsWithinLists, KnowsCopies}

-- root records are few with all Roots that wait, and no more is known to be sealed than there is
pub record IsRoomy (c : Core) : Type 0 where
  pub room : HasRecordRoom c
  pub within : (g : ℕ) → commit_front (group_of g c) ≤ last_number (group_of g c)

-- lists and catalogues are the same
pub roomy_still : (a b : Core) → ((g : ℕ) → catalogue_of g b ≡ catalogue_of g a) → ((g : ℕ) → group_of g b ≡ group_of g a) → IsRoomy a → IsRoomy b
roomy_still a b catalogues groups h = record {
  room = λ g. subst (λ n. n ≤ most_records) (sym (ap (λ (x : Group). length (catalogue_of g b).roots + count_by is_root x.waiting) (groups g) ∙ ap (λ (x : Catalogue). length x.roots + count_by is_root (group_of g a).waiting) (catalogues g))) (h.room g);
  within = λ g. subst (λ (x : Group). commit_front x ≤ last_number x) (sym (groups g)) (h.within g);
}

-- a list changes: no more Roots wait in it, and no more is known than there is
pub roomy_group : (shard : ℕ) (f : Group → Group) (c : Core) → commit_front (f (group_of shard c)) ≤ last_number (f (group_of shard c)) → count_by is_root (f (group_of shard c)).waiting ≤ count_by is_root (group_of shard c).waiting
    → IsRoomy c → IsRoomy (change_group shard f c)
roomy_group shard f c known fewer h = record { room = λ g. room g (group_changed shard f c g); within = λ g. within g (group_changed shard f c g) }
  where
    less : (n k m most : ℕ) → n + m ≤ most → k ≤ m → n + k ≤ most
    less n k m most a b = omega (arith, a, b)

    within : (g : ℕ) → (group_of g (change_group shard f c) ≡ group_of g c) ⊎ ((g ≡ shard) × (group_of g (change_group shard f c) ≡ f (group_of shard c)))
        → commit_front (group_of g (change_group shard f c)) ≤ last_number (group_of g (change_group shard f c))
    within g (inl same) = subst (λ (x : Group). commit_front x ≤ last_number x) (sym same) (h.within g)
    within g (inr is) = subst (λ (x : Group). commit_front x ≤ last_number x) (sym is.1) known

    room : (g : ℕ) → (group_of g (change_group shard f c) ≡ group_of g c) ⊎ ((g ≡ shard) × (group_of g (change_group shard f c) ≡ f (group_of shard c)))
        → length (catalogue_of g c).roots + count_by is_root (group_of g (change_group shard f c)).waiting ≤ most_records
    room g (inl same) = subst (λ (x : Group). length (catalogue_of g c).roots + count_by is_root x.waiting ≤ most_records) (sym same) (h.room g)
    room g (inr is) =
        subst (λ (x : Group). length (catalogue_of g c).roots + count_by is_root x.waiting ≤ most_records) (sym is.1)
        (subst (λ k. length (catalogue_of k c).roots + count_by is_root (f (group_of shard c)).waiting ≤ most_records) (sym is.0)
        (less (length (catalogue_of shard c).roots) (count_by is_root (f (group_of shard c)).waiting) (count_by is_root (group_of shard c).waiting) most_records (h.room shard) fewer))

pub roomy_each : (ps : List ℕ) (f : ℕ → Core → Core) (c : Core) → ((p : ℕ) (x : Core) → IsRoomy x → IsRoomy (f p x)) → IsRoomy c → IsRoomy (each ps f c)
roomy_each [] f c k h = h
roomy_each (p ∷ ps) f c k h = roomy_each ps f (f p c) k (k p c h)

-- ---- a good copy of a list

-- its peer is good by these members, and it has sealed no more than its list has, and than there is
pub record IsGoodCopy (group : Group) (m : Members) (place : ℕ) : Type 0 where
  pub low : place < length group.copies
  pub good : is_good_status (status (first_peer group + place) m) ≡ true
  pub own : (slice_index_or group.copies place no_copy).sealed ≤ length (slice_index_or group.copies place no_copy).stamps
  pub all : (slice_index_or group.copies place no_copy).sealed ≤ last_number group

behind : (first i : ℕ) → first + i - first ≡ i
behind first i = omega arith

from : (first i : ℕ) → first ≤ first + i
from first i = omega arith

upto : (first i n copies : ℕ) → n ≡ copies → i < copies → first + i < first + n
upto first i n copies e l = omega (arith, e, l)

pub first_of : (shard : ℕ) (c : Core) → KnowsCopies shard c → first_peer (group_of shard c) ≡ peer_of (shape_of c) shard 0
first_of shard c k = ap (λ (s : Shape). peer_of s (group_of shard c).shard 0) k.same_shape ∙ ap (λ n. peer_of (shape_of c) n 0) k.same_shard

-- so it has a copy, where other members have it good too
pub good_copy : (shard : ℕ) (c : Core) → KnowsCopies shard c → (i : ℕ) → i < (shape_of c).copies → is_good_status (status (peer_of (shape_of c) shard 0 + i) c.members) ≡ true
    → (m : Members) → is_good_status (status (peer_of (shape_of c) shard 0 + i) m) ≡ true → IsGoodCopy (group_of shard c) m i
good_copy shard c k i low good m still = record {
  low = subst (λ n. i < n) (sym k.copies) low;
  good = subst (λ n. is_good_status (status (n + i) m) ≡ true) (sym first) still;
  own = subst (λ j. (slice_index_or (group_of shard c).copies j no_copy).sealed ≤ length (slice_index_or (group_of shard c).copies j no_copy).stamps) place its.own;
  all = subst (λ j. (slice_index_or (group_of shard c).copies j no_copy).sealed ≤ last_number (group_of shard c)) place its.all;
}
  where
    first : first_peer (group_of shard c) ≡ peer_of (shape_of c) shard 0
    first = first_of shard c k

    place : first_peer (group_of shard c) + i - first_peer (group_of shard c) ≡ i
    place = behind (first_peer (group_of shard c)) i

    its : IsWithinLists (group_of shard c) (first_peer (group_of shard c) + i)
    its =
        k.sealed (first_peer (group_of shard c) + i)
        (from (first_peer (group_of shard c)) i, upto (first_peer (group_of shard c)) i (group_of shard c).shape.copies (shape_of c).copies (ap (λ (s : Shape). s.copies) k.same_shape) low) (subst (λ n. is_good_status (status (n + i) c.members) ≡ true) (sym first) good)

-- of the statuses one changes
pub good_before : (xs : List PeerStatus) (k p : ℕ) → is_good_status (slice_index_or (slice_set xs p Down) k Down) ≡ true → is_good_status (slice_index_or xs k Down) ≡ true
good_before [] k p h = h
good_before (x ∷ xs) zero zero h = absurd (cc h)
good_before (x ∷ xs) zero (suc p) h = h
good_before (x ∷ xs) (suc k) zero h = h
good_before (x ∷ xs) (suc k) (suc p) h = good_before xs k p h

pub good_behind : (xs : List PeerStatus) (k p : ℕ) → is_good_status (slice_index_or xs k Down) ≡ true → is_good_status (slice_index_or (slice_set xs p Good) k Down) ≡ true
good_behind [] k p h = h
good_behind (x ∷ xs) zero zero h = refl
good_behind (x ∷ xs) zero (suc p) h = h
good_behind (x ∷ xs) (suc k) zero h = h
good_behind (x ∷ xs) (suc k) (suc p) h = good_behind xs k p h

-- ---- a view begins

no_more : (all some : ℕ) → all ≡ some + 0 → all ≤ some
no_more all some e = omega (arith, e)

pub roomy_view : (shard place : ℕ) (c : Core) → IsGoodCopy (group_of shard c) c.members place → IsRoomy c → IsRoomy (begin_view shard c)
roomy_view shard place c copy h = sent (lead_of shard posted)
  where
    viewed : Core
    viewed = set_viewed shard false c

    cut : Core
    cut = change_group shard (renew c.members) (set_viewed shard false c)

    posted : Core
    posted = post (renewal (group_of shard (restart shard cut))) (restart shard cut)

    view : Entry
    view = kind.View (view_of shard c.members)

    roomy_cut : IsRoomy cut
    roomy_cut =
        roomy_group shard (renew c.members) viewed (viewed_known c.members (group_of shard c) place copy.low copy.good copy.own copy.all)
        (fewer_roots (option_map_or (length_of (told c.members (group_of shard c))) (lead (told c.members (group_of shard c))) 0 - (group_of shard c).front) (group_of shard c).waiting) (roomy_still c viewed (λ g. refl) (λ g. refl) h)

    roomy_posted : IsRoomy posted
    roomy_posted = roomy_still cut posted (λ g. refl) (λ g. refl) roomy_cut

    proposed : IsRoomy (change_group shard (propose view) posted)
    proposed =
        roomy_group shard (propose view) posted (proposed_known view (group_of shard posted) (roomy_posted.within shard))
        (no_more (count_by is_root ((group_of shard posted).waiting ++ view ∷ [])) (count_by is_root (group_of shard posted).waiting) (more_roots (group_of shard posted).waiting (view ∷ []))) roomy_posted

    sent : (lead : Option ℕ) → IsRoomy (change_with lead (λ peer. add_entry_tasks peer (last_number (group_of shard posted) + 1) view) (post (proposal view (group_of shard posted)) (change_group shard (propose view) posted)))
    sent None = roomy_still (change_group shard (propose view) posted) _ (λ g. refl) (λ g. refl) proposed
    sent (Some peer) = roomy_still (change_group shard (propose view) posted) _ (λ g. refl) (λ g. refl) proposed
