-- In a core in step each shard has a good peer, a list, and a copy for each of its peers.
use Rattle.std.proofs.Common.{◌≡◌, ◌≢◌, ◌⊎◌, ◌∙◌, ap, sym, subst, refl, inl, inr, arith, ℕ, zero, suc, ◌+◌, ◌*◌, ◌/◌, ◌<◌, ◌≤◌, Bool, true, false}
use Rattle.std.proofs.lemmas.Bool.{cases_eq}
use Rattle.std.proofs.Math.Nat.{div-mul-le_self, lt-div-mul-add}
use Rattle.std.specs.List.{list_any, range_with_len}
use Rattle.hs_core_words.specs.Looking.{status_of}
use Rattle.hs_core_words.specs.State.{Core}
use Rattle.hs_limits.specs.declared.limits.PeerStatus.TheVariants.{Down, Good}
use Rattle.hs_limits.specs.declared.shape.Shape.{Shape}
use Rattle.hs_members.specs.Members.{Members, is_good_status, status}
use Rattle.hs_quiet.specs.Keeping.{AreInStep}
use Rattle.hs_quiet.proofs.StartLemmas.{good_lead, lead_here, low_peer, seated_all}
use Rattle.hs_quiet.proofs.StayLemmas.{IsLed}

-- one of a range that passes
pub any_range : (test : ℕ → Bool) (a n q : ℕ) → a ≤ q → q < a + n → test q ≡ true → list_any test (range_with_len a n) ≡ true
any_range test a zero q low high e = absurd (omega (arith, low, high))
any_range test a (suc n) q low high e = go (test a) refl (cases_eq q a) (λ h k. any_range test (a + 1) n q h k e)
  where
    go : (b : Bool) → test a ≡ b → (q ≡ a) ⊎ (q ≢ a) → (a + 1 ≤ q → q < a + 1 + n → list_any test (range_with_len (a + 1) n) ≡ true) → list_any test (range_with_len a (suc n)) ≡ true
    go true t k again = rw t refl
    go false t (inl same) again = absurd (let wrong : false ≡ true = sym t ∙ ap test (sym same) ∙ e in cc wrong)
    go false t (inr apart) again = rw t (again (omega (arith, low, apart)) (omega (arith, high)))

-- a good peer of a shard is one
pub has_one : (l g copies : ℕ) (m : Members) → 0 < copies → l / copies ≡ g → status l m ≡ Good → list_any (λ p. is_good_status (status p m)) (range_with_len (g * copies + 0) copies) ≡ true
has_one l g copies m some own good =
    subst (λ x. list_any (λ p. is_good_status (status p m)) (range_with_len (x * copies + 0) copies) ≡ true) own
    (any_range (λ p. is_good_status (status p m)) (l / copies * copies + 0) copies l
    (let n : l / copies * copies ≤ l = div-mul-le_self l copies in omega (arith, n))
    (let n : l < l / copies * copies + copies = lt-div-mul-add some in omega (arith, n))
    (ap is_good_status good))

pub led_all : (c : Core) → AreInStep c → IsLed c
led_all c all = record {
  some = λ g low.
      let t = all.each g low in
      let l = lead_here g c t.0 t.1 in
      let led = good_lead g c t.0 t.1 l.0 l.1 in
      has_one l.0 g c.members.shape.copies c.members (some_copies g l.0 low led.good) led.own led.good;
  groups = (seated_all c all).groups;
  tasks = (seated_all c all).tasks;
  each = λ g low. (let t = all.each g low in t.1.stands.copies ∙ ap (λ (s : Shape). s.copies) (t.1.seated.placed g).same_shape);
}
  where
    -- a store of no copies has no peer
    some_copies : (g l : ℕ) → g < c.members.shape.shards → status_of l c ≡ Good → 0 < c.members.shape.copies
    some_copies g l low good = go c.members.shape.copies refl
      where
        go : (n : ℕ) → c.members.shape.copies ≡ n → 0 < c.members.shape.copies
        go zero i =
            let peer = low_peer c all l (λ d. let wrong : Good ≡ Down = sym good ∙ d in cc wrong) in
            let none : c.members.shape.shards * c.members.shape.copies ≡ 0 = ap (λ n. c.members.shape.shards * n) i ∙ (let z : c.members.shape.shards * 0 ≡ 0 = omega arith in z) in
            absurd (omega (arith, peer, none))
        go (suc n) i = omega (arith, i)
