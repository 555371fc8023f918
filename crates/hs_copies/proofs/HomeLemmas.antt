-- The copies of a group, by peer, and its lead.
use Rattle.std.proofs.Common.{◌≡◌, ◌≢◌, ℕ, zero, suc, ◌+◌, ◌-◌, ◌≤◌, ◌<◌, Bool, true, false, List, [], ◌∷◌, ◌⊎◌, inl, inr, refl, sym, arith, length, Option, Some, None, ap, ◌∙◌, leb}
use Rattle.std.proofs.lemmas.Bool.{leb-true}
use Rattle.std.proofs.lemmas.Bool.Decides.{leb_tells}
use Rattle.std.proofs.lemmas.List.{get_or-set_other, get_or-set_same}
use Rattle.std.specs.Option.{MatchOption}
use Rattle.std.specs.Prelude.{slice_index_or}
use Rattle.hs_entry.specs.declared.entry.Entry.{Entry}
use Rattle.hs_members.specs.Members.{longer, longest}
use Rattle.hs_replica.specs.declared.replica.Replica.{Replica}
use Rattle.hs_replica.specs.Group.{Group, IsHome, change_copy, copy_of, first_peer, good_from, lead, length_of, no_copy}
use Rattle.hs_copies.specs.Machine.{PeerCopy, put_at}
use Rattle.hs_copies.specs.Standing.{IsCopyOf}
use Rattle.hs_copies.proofs.PeerLemmas.{put_cases}

pub le_or_lt : (a b : ℕ) → (a ≤ b) ⊎ (b < a)
le_or_lt zero b = inl (omega arith)
le_or_lt (suc a) zero = inr (omega arith)
le_or_lt (suc a) (suc b) = elim (le_or_lt a b) [ inl k ↦ inl (omega arith) | inr k ↦ inr (omega arith) ]

pub home_or_not : (group : Group) (peer : ℕ) → IsHome group peer ⊎ (IsHome group peer → ⊥)
home_or_not group peer =
    elim (le_or_lt (first_peer group) peer) [
      | inl k ↦ elim (le_or_lt (suc peer) (first_peer group + group.shape.copies)) [
        | inl l ↦ inl (k, omega (arith, l))
        | inr l ↦ inr (λ h. omega (arith, l, h.1))
      ]
      | inr k ↦ inr (λ h. omega (arith, k, h.0))
    ]

-- ---- another copy of one peer

pub set_same : (group : Group) (peer : ℕ) (f : Replica → Replica) → length group.copies ≡ group.shape.copies → IsHome group peer
    → copy_of (change_copy peer f group) peer ≡ f (copy_of group peer)
set_same group peer f l h =
    get_or-set_same group.copies (peer - first_peer group) (f (copy_of group peer)) no_copy (omega (arith, l, h.0, h.1))

pub set_other : (group : Group) (peer q : ℕ) (f : Replica → Replica) → IsHome group peer → IsHome group q → q ≢ peer
    → copy_of (change_copy peer f group) q ≡ copy_of group q
set_other group peer q f h k n =
    get_or-set_other group.copies (peer - first_peer group) (q - first_peer group) (f (copy_of group peer)) no_copy (λ e. n (omega (arith, e, h.0, k.0)))

pub change_each : (group : Group) (peers : ℕ → PeerCopy Entry) (peer : ℕ) (f : Replica → Replica) (new : PeerCopy Entry)
    → length group.copies ≡ group.shape.copies → IsHome group peer → IsCopyOf (f (copy_of group peer)) new
    → ((q : ℕ) → IsHome group q → IsCopyOf (copy_of group q) (peers q))
    → (q : ℕ) → IsHome group q → IsCopyOf (copy_of (change_copy peer f group) q) (put_at peer new peers q)
change_each group peers peer f new l h k each q i =
    put_cases (λ p. IsCopyOf (copy_of (change_copy peer f group) q) p) peer new peers q
    (λ e. rw (e, set_same group peer f l h) k)
    (λ n. rw (set_other group peer q f h i n) (each q i))

-- ---- the lead

-- of the good copies among these, the first of which is this peer's, this has the longest list
pub record IsLongest (n : ℕ) (cs : List Replica) (best : ℕ × ℕ) : Type 0 where
  pub place : ℕ
  pub within : place < length cs
  pub number : best.0 ≡ n + place
  pub good : (slice_index_or cs place no_copy).good ≡ true
  pub long : best.1 ≡ length (slice_index_or cs place no_copy).stamps
  pub longest : (i : ℕ) → i < length cs → (slice_index_or cs i no_copy).good ≡ true → length (slice_index_or cs i no_copy).stamps ≤ best.1

-- none is good, or this is the longest
abbrev pub IsJudged : ℕ → List Replica → Option (ℕ × ℕ) → Type 0
IsJudged n cs o = MatchOption o ((i : ℕ) → i < length cs → (slice_index_or cs i no_copy).good ≡ false) (IsLongest n cs)

passed_over : (n : ℕ) (c : Replica) (cs : List Replica) (o : Option (ℕ × ℕ)) → c.good ≡ false → IsJudged (n + 1) cs o → IsJudged n (c ∷ cs) o
passed_over n c cs None e h = go
  where
    go : (i : ℕ) → i < length (c ∷ cs) → (slice_index_or (c ∷ cs) i no_copy).good ≡ false
    go zero l = e
    go (suc i) l = h i (omega arith)
passed_over n c cs (Some b) e h = record {
  place = suc h.place;
  within = omega (arith, h.within);
  number = omega (arith, h.number);
  good = h.good;
  long = h.long;
  longest = go;
}
  where
    go : (i : ℕ) → i < length (c ∷ cs) → (slice_index_or (c ∷ cs) i no_copy).good ≡ true → length (slice_index_or (c ∷ cs) i no_copy).stamps ≤ b.1
    go zero l g = let wrong : false ≡ true = sym e ∙ g in cc
    go (suc i) l g = h.longest i (omega arith) g

the_first : (n : ℕ) (c : Replica) (cs : List Replica) → c.good ≡ true
    → ((i : ℕ) → i < length cs → (slice_index_or cs i no_copy).good ≡ true → length (slice_index_or cs i no_copy).stamps ≤ length c.stamps)
    → IsLongest n (c ∷ cs) (n, length c.stamps)
the_first n c cs e h = record {
  place = 0;
  within = omega arith;
  number = omega arith;
  good = e;
  long = refl;
  longest = go;
}
  where
    go : (i : ℕ) → i < length (c ∷ cs) → (slice_index_or (c ∷ cs) i no_copy).good ≡ true → length (slice_index_or (c ∷ cs) i no_copy).stamps ≤ length c.stamps
    go zero l g = omega arith
    go (suc i) l g = h i (omega arith) g

chosen_of : (n : ℕ) (c : Replica) (cs : List Replica) (o : Option (ℕ × ℕ)) → c.good ≡ true → IsJudged (n + 1) cs o
    → IsLongest n (c ∷ cs) (longer (n, length c.stamps) o)
chosen_of n c cs None e h = the_first n c cs e (λ i l g. let wrong : false ≡ true = sym (h i l) ∙ g in cc)
chosen_of n c cs (Some b) e h = go (leb b.1 (length c.stamps)) refl
  where
    go_each : length c.stamps ≤ b.1 → (i : ℕ) → i < length (c ∷ cs) → (slice_index_or (c ∷ cs) i no_copy).good ≡ true → length (slice_index_or (c ∷ cs) i no_copy).stamps ≤ b.1
    go_each k zero l g = k
    go_each k (suc i) l g = h.longest i (omega arith) g

    go : (t : Bool) → leb b.1 (length c.stamps) ≡ t → IsLongest n (c ∷ cs) (longer (n, length c.stamps) (Some b))
    go true f = rw f (the_first n c cs e (λ i l g. omega (arith, leb-true b.1 (length c.stamps) f, h.longest i l g)))
    go false f = rw f (record {
      place = suc h.place;
      within = omega (arith, h.within);
      number = omega (arith, h.number);
      good = h.good;
      long = h.long;
      longest = go_each (grind (arith, leb_tells b.1 (length c.stamps)));
    })

judged_by : (n : ℕ) (cs : List Replica) (o p : Option (ℕ × ℕ)) → o ≡ p → IsJudged n cs p → IsJudged n cs o
judged_by n cs o p e h = rw e h

good_first : (n : ℕ) (c : Replica) (cs : List Replica) → c.good ≡ true → good_from n (c ∷ cs) ≡ (n, length c.stamps) ∷ good_from (n + 1) cs
good_first n c cs e = rw e refl

good_later : (n : ℕ) (c : Replica) (cs : List Replica) → c.good ≡ false → good_from n (c ∷ cs) ≡ good_from (n + 1) cs
good_later n c cs e = rw e refl

pub judged : (n : ℕ) (cs : List Replica) → IsJudged n cs (longest (good_from n cs))
judged n [] = λ i l. absurd (omega arith)
judged n (c ∷ cs) = go c.good refl (judged (n + 1) cs)
  where
    go : (b : Bool) → c.good ≡ b → IsJudged (n + 1) cs (longest (good_from (n + 1) cs)) → IsJudged n (c ∷ cs) (longest (good_from n (c ∷ cs)))
    go true e h =
        judged_by n (c ∷ cs) (longest (good_from n (c ∷ cs))) (Some (longer (n, length c.stamps) (longest (good_from (n + 1) cs)))) (ap longest (good_first n c cs e))
        (chosen_of n c cs (longest (good_from (n + 1) cs)) e h)
    go false e h =
        judged_by n (c ∷ cs) (longest (good_from n (c ∷ cs))) (longest (good_from (n + 1) cs)) (ap longest (good_later n c cs e))
        (passed_over n c cs (longest (good_from (n + 1) cs)) e h)

-- a good peer of the shard, and no good peer's list is longer
pub record Leads (group : Group) (l : ℕ) : Type 0 where
  pub home : IsHome group l
  pub good : (copy_of group l).good ≡ true
  pub longest : (q : ℕ) → IsHome group q → (copy_of group q).good ≡ true → length_of group q ≤ length_of group l

-- where a peer is good there is a lead
pub lead_found : (group : Group) (q : ℕ) → length group.copies ≡ group.shape.copies → IsHome group q → (copy_of group q).good ≡ true
    → (l : ℕ) × (lead group ≡ Some l) × Leads group l
lead_found group q n h g = go (longest (good_from (first_peer group) group.copies)) refl (judged (first_peer group) group.copies)
  where
    go : (o : Option (ℕ × ℕ)) → longest (good_from (first_peer group) group.copies) ≡ o → IsJudged (first_peer group) group.copies o
        → (l : ℕ) × (lead group ≡ Some l) × Leads group l
    go None e j = let wrong : true ≡ false = sym g ∙ j (q - first_peer group) (omega (arith, n, h.0, h.1)) in cc
    go (Some b) e j =
        let place : b.0 - first_peer group ≡ j.place = omega (arith, j.number) in (
          b.0,
          rw e refl,
          record {
            home = (omega (arith, j.number), omega (arith, j.number, j.within, n));
            good = rw place j.good;
            longest = λ p i k. rw (place, ← j.long) (j.longest (p - first_peer group) (omega (arith, n, i.0, i.1)) k);
          },
        )
