-- The lead of a shard, as the members tell it and as its group does.
use Rattle.std.proofs.Common.{◌≡◌, ◌∙◌, ap, sym, refl, inl, inr, arith, ℕ, suc, ◌+◌, ◌-◌, ◌*◌, ◌/◌, ◌<◌, ◌≤◌, Bool, true, false, List, [], ◌∷◌, Option, Some, None, length, map}
use Rattle.std.proofs.lemmas.List.{length-map}
use Rattle.std.proofs.lemmas.Nat.{div-mul-add}
use Rattle.std.specs.Option.{option_map}
use Rattle.std.specs.Prelude.{slice_index_or}
use Rattle.hs_copies.proofs.HomeLemmas.{home_or_not}
use Rattle.hs_copies.proofs.NewViewLemmas.{good_status}
use Rattle.hs_copies.proofs.StatusLemmas.{home_shard, other_shard}
use Rattle.hs_copies.specs.CoreCopies.{CoreCopies}
use Rattle.hs_copies.specs.Machine.{Copies}
use Rattle.hs_copies.specs.Standing.{StandsFor, is_good_stage}
use Rattle.hs_core_words.specs.Looking.{group_of, lead_of}
use Rattle.hs_core_words.specs.State.{Core}
use Rattle.hs_entry.specs.declared.entry.Entry.{Entry}
use Rattle.hs_limits.specs.declared.limits.PeerStatus.{PeerStatus}
use Rattle.hs_limits.specs.declared.limits.PeerStatus.TheVariants.{Good, Joining, Down}
use Rattle.hs_limits.specs.declared.shape.Shape.{Shape}
use Rattle.hs_limits.specs.Shape.{peer_of}
use Rattle.hs_members.proofs.LeadLemmas.{IsBest, IsJudged as IsJudgedBest, longest_is_judged, passing}
use Rattle.hs_members.specs.Members.{Members, is_good_status, lead_by, longest, status}
use Rattle.hs_replica.specs.declared.replica.Replica.{Replica}
use Rattle.hs_replica.specs.Group.{Group, IsHome, copy_of, first_peer, good_from, lead, no_copy}
use Rattle.hs_core_copies.specs.InStep.{IsOf}

pub good_only : (s : PeerStatus) → is_good_status s ≡ true → s ≡ Good
good_only Good e = refl
good_only Joining e = let wrong : false ≡ true = e in absurd (cc wrong)
good_only Down e = let wrong : false ≡ true = e in absurd (cc wrong)

-- ---- peers of a shard

-- a peer of the group keeps a copy of its shard, and the other way round
pub of_home : (shape : Shape) (g : ℕ) (x : Group) (p : ℕ) → shape ≡ x.shape → x.shard ≡ g → IsHome x p → IsOf shape g p
of_home shape g x p e f h = rw (e, ← f) (home_shard x p h)

pub home_of_shard : (shape : Shape) (g : ℕ) (x : Group) (p : ℕ) → shape ≡ x.shape → x.shard ≡ g → 1 ≤ shape.copies → IsOf shape g p → IsHome x p
home_of_shard shape g x p e f some own = elim (home_or_not x p) [
  | inl h ↦ h
  | inr n ↦ absurd (other_shard x p (some_of e some) n (rw (e, ← f) at own))
]
  where
    some_of : shape ≡ x.shape → 1 ≤ shape.copies → 0 < x.shape.copies
    some_of e k = let n : shape.copies ≡ x.shape.copies = ap (λ (s : Shape). s.copies) e in omega (arith, n, k)

-- ---- the lead by the members

-- it is a good peer of the shard
pub record IsGoodLead (shape : Shape) (shard : ℕ) (m : Members) (l : ℕ) : Type 0 where
  pub own : IsOf shape shard l
  pub good : status l m ≡ Good

pub led_by : (shard : ℕ) (lengths : List ℕ) (m : Members) (l : ℕ) → length lengths ≤ m.shape.copies → lead_by shard lengths m ≡ Some l → IsGoodLead m.shape shard m l
led_by shard lengths m l few e = go (longest (passing (λ peer. is_good_status (status peer m)) (peer_of m.shape shard 0) lengths)) refl (longest_is_judged (λ peer. is_good_status (status peer m)) (peer_of m.shape shard 0) lengths)
  where
    found : (best : ℕ × ℕ) → best.0 ≡ l → IsBest (λ peer. is_good_status (status peer m)) (peer_of m.shape shard 0) lengths best → IsGoodLead m.shape shard m l
    found best same h =
        let place : l ≡ shard * m.shape.copies + h.place = omega (arith, h.number, same) in
        record {
          own = ap (λ k. k / m.shape.copies) place ∙ div-mul-add shard m.shape.copies h.place (omega (arith, h.within, few));
          good = good_only (status l m) (ap (λ k. is_good_status (status k m)) (sym same) ∙ h.passes);
        }

    go : (o : Option (ℕ × ℕ)) → longest (passing (λ peer. is_good_status (status peer m)) (peer_of m.shape shard 0) lengths) ≡ o
        → IsJudgedBest (λ peer. is_good_status (status peer m)) (peer_of m.shape shard 0) lengths o → IsGoodLead m.shape shard m l
    go None f h = let wrong : None ≡ Some l = sym (ap (option_map (λ (x : ℕ × ℕ). x.0)) f) ∙ e in absurd (cc wrong)
    go (Some best) f h = found best (let k : Some best.0 ≡ Some l = sym (ap (option_map (λ (x : ℕ × ℕ). x.0)) f) ∙ e in cc k) h

pub lead_is : (shard : ℕ) (c : Core) (l : ℕ) → length (group_of shard c).copies ≤ c.members.shape.copies → lead_of shard c ≡ Some l → IsGoodLead c.members.shape shard c.members l
lead_is shard c l few e =
    led_by shard (map (λ (copy : Replica). length copy.stamps) (group_of shard c).copies) c.members l
    (let n = length-map (group_of shard c).copies (λ (copy : Replica). length copy.stamps) in omega (arith, n, few)) e

-- ---- and by the group

same_good : (m : Members) (n : ℕ) (cs : List Replica)
    → ((i peer : ℕ) → peer ≡ n + i → i < length cs → (slice_index_or cs i no_copy).good ≡ is_good_status (status peer m))
    → passing (λ peer. is_good_status (status peer m)) n (map (λ (copy : Replica). length copy.stamps) cs) ≡ good_from n cs
same_good m n [] h = refl
same_good m n (c ∷ cs) h = go c.good refl (h 0 n (omega arith) (omega arith)) (same_good m (n + 1) cs (λ i peer e l. h (suc i) peer (omega (arith, e)) (omega (arith, l))))
  where
    go : (b : Bool) → c.good ≡ b → c.good ≡ is_good_status (status n m)
        → passing (λ peer. is_good_status (status peer m)) (n + 1) (map (λ (copy : Replica). length copy.stamps) cs) ≡ good_from (n + 1) cs
        → passing (λ peer. is_good_status (status peer m)) n (map (λ (copy : Replica). length copy.stamps) (c ∷ cs)) ≡ good_from n (c ∷ cs)
    go true e f rest = let k : is_good_status (status n m) ≡ true = sym f ∙ e in rw (k, e, rest) refl
    go false e f rest = let k : is_good_status (status n m) ≡ false = sym f ∙ e in rw (k, e, rest) refl

-- where the group's copies are good as the members say the two are one
pub same_lead : (shard : ℕ) (x : Group) (m : Members) → m.shape ≡ x.shape → x.shard ≡ shard → length x.copies ≡ x.shape.copies
    → ((peer : ℕ) → IsHome x peer → (copy_of x peer).good ≡ is_good_status (status peer m))
    → lead_by shard (map (λ (copy : Replica). length copy.stamps) x.copies) m ≡ lead x
same_lead shard x m shape of long h =
    rw (shape, ← of) (ap (λ ls. option_map (λ (y : ℕ × ℕ). y.0) (longest ls)) (same_good m (first_peer x) x.copies each))
  where
    each : (i peer : ℕ) → peer ≡ first_peer x + i → i < length x.copies → (slice_index_or x.copies i no_copy).good ≡ is_good_status (status peer m)
    each i peer e l =
        let place : peer - first_peer x ≡ i = omega (arith, e) in
        ap (λ k. (slice_index_or x.copies k no_copy).good) (sym place) ∙ h peer (omega (arith, e), omega (arith, e, l, long))

-- where copies of the core stand for copies of the machine
pub good_as_told : {line : Entry → Option ℕ} (c : CoreCopies) (s : Copies Entry) → StandsFor line c s → (peer : ℕ) → IsHome c.group peer
    → (copy_of c.group peer).good ≡ is_good_status (status peer c.members)
good_as_told c s st peer h =
    (st.peers.each peer h).good ∙ ap is_good_stage (st.peers.stage peer h) ∙ good_status (status peer c.members) (c.rejoins peer).empty
