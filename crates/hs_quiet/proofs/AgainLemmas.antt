-- A view begins: the operations of its shard start again, and each has its cause.
use Rattle.std.proofs.Common.{◌≡◌, ◌≢◌, ◌∙◌, sym, ap, subst, ◌⊎◌, inl, inr, ℕ, zero, suc, ◌+◌, ◌-◌, ◌<◌, ◌≤◌, ◌==◌, ◌&&◌, Bool, true, false, cond, not, List, [], ◌∷◌, length, Option, Some, None, refl, arith, slice_get, eqb-true}
use Rattle.std.proofs.lemmas.Bool.{cases_eq}
use Rattle.std.proofs.lemmas.Bool.Decides.{nat_tests}
use Rattle.std.proofs.lemmas.List.{get_or-set_other, length-set}
use Rattle.std.specs.BTreeMap.{is_at}
use Rattle.std.specs.Option.{option_map, option_map_or}
use Rattle.std.specs.Ordering.{nat_cmp}
use Rattle.std.specs.Prelude.{slice_index_or, slice_set, take}
use Rattle.hs_awaiting.specs.declared.wait.Wait.{Wait}
use Rattle.hs_awaiting.specs.declared.wait.Wait.TheVariants as wait
use Rattle.hs_awaiting.specs.declared.waiting.Waiting.{Waiting}
use Rattle.hs_awaiting.specs.Views.{is_within, restarted}
use Rattle.hs_copies.proofs.NewViewLemmas.{told_length}
use Rattle.hs_core_words.specs.Changing.{change_group, post, set_viewed}
use Rattle.hs_core_words.specs.Looking.{group_of, operation_of}
use Rattle.hs_core_words.specs.Operating.{propose_entry}
use Rattle.hs_core_words.specs.State.{Core}
use Rattle.hs_core_words.specs.Views.{begin_view, restart}
use Rattle.hs_core_copies.proofs.PlaceLemmas.{group_here, group_other}
use Rattle.hs_effects.proofs.LookLemmas.{found_map}
use Rattle.hs_effects.proofs.OrderlyLemmas.{some_is}
use Rattle.hs_effects.proofs.ViewLemmas.{view_began}
use Rattle.hs_entry.specs.declared.entry.Entry.{Entry}
use Rattle.hs_entry.specs.declared.entry.Entry.TheVariants as kind
use Rattle.hs_limits.specs.declared.address.Address.{Address}
use Rattle.hs_limits.specs.Shape.{IsShape}
use Rattle.hs_members.specs.Members.{Members, view_of}
use Rattle.hs_replica.specs.Group.{Group, last_number, lead, length_of, renew, renewal, told}
use Rattle.hs_quiet.specs.Causes.{HasCause, OwnWaits, asker_of}
use Rattle.hs_quiet.proofs.GoingGoodLemmas.{IsGood, Most, NoLine, NoShard, ViewWaits, most_stays}
use Rattle.hs_quiet.proofs.StayLemmas.{IsLed, Stays, led_by, led_stays, proposal_operations, proposal_stays, proposal_there, stays_by}
use Rattle.hs_quiet.proofs.CopyLemmas.{group_cases}

-- an operation of this shard waits for bytes
pub record ForBytes (x line : ℕ) (w : Waiting) : Type 0 where
  pub judges : w.shard ≡ x
  pub number : ℕ
  pub waits : w.wait ≡ wait.Bytes number

-- ---- lists

take_get : {X : Type 0} (k : ℕ) (xs : List X) (place : ℕ) (x : X) → place < length (take k xs) → slice_get xs place ≡ Some x → slice_get (take k xs) place ≡ Some x
take_get zero xs place x low e = absurd (omega (arith, low))
take_get (suc k) [] place x low e = absurd (omega (arith, low))
take_get (suc k) (y ∷ xs) zero x low e = e
take_get (suc k) (y ∷ xs) (suc place) x low e = take_get k xs place x (omega (arith, low)) e

-- what is set to false is false
off_now : (xs : List Bool) (k : ℕ) → slice_index_or (slice_set xs k false) k false ≡ false
off_now [] k = refl
off_now (x ∷ xs) zero = refl
off_now (x ∷ xs) (suc k) = off_now xs k

-- one that waits for an entry of the list
record IsWithin (last : ℕ) (x : Wait) : Type 0 where
  number : ℕ
  is : x ≡ wait.Entry number
  low : number ≤ last

within_entry : (last : ℕ) (x : Wait) → is_within last x ≡ true → IsWithin last x
within_entry last (wait.Entry number) e = record { number = number; is = refl; low = grind (arith, nat_tests, e) }
within_entry last wait.View e = let wrong : false ≡ true = e in absurd (cc wrong)
within_entry last wait.Address e = let wrong : false ≡ true = e in absurd (cc wrong)
within_entry last wait.Room e = let wrong : false ≡ true = e in absurd (cc wrong)
within_entry last (wait.Bytes number) e = let wrong : false ≡ true = e in absurd (cc wrong)

module _ (name : List ℕ → Address) (x : ℕ) (c : Core) (low : x < length c.groups) where
  abbrev a : Core
  a = set_viewed x false c

  abbrev b : Core
  b = change_group x (renew c.members) a

  abbrev d : Core
  d = restart x b

  abbrev e : Core
  e = post (renewal (group_of x d)) d

  abbrev last : ℕ
  last = last_number (group_of x b)

  here : group_of x d ≡ renew c.members (group_of x c)
  here = group_here x (renew c.members) a low

  there : (g : ℕ) → g ≢ x → group_of g d ≡ group_of g c
  there g n = group_other g x (renew c.members) a n

  -- ---- of another shard

  cause_other : (l : ℕ) (w : Waiting) (what : Wait) → w.shard ≢ x → HasCause name c (asker_of l w) what → HasCause name d (asker_of l w) what
  cause_other l w wait.View n h = get_or-set_other c.progress.viewed x w.shard false false n ∙ h
  cause_other l w wait.Address n h = record { place = h.place; entry = h.entry; at = ap (λ (y : Group). slice_get y.waiting h.place) (there w.shard n) ∙ h.at; is = h.is }
  cause_other l w wait.Room n h = record { place = h.place; entry = h.entry; at = ap (λ (y : Group). slice_get y.waiting h.place) (there w.shard n) ∙ h.at; is = h.is }
  cause_other l w (wait.Bytes k) n h = (h.0, record { peer = h.1.peer; own = h.1.own; good = h.1.good; jobs = record { place = h.1.jobs.place; at = h.1.jobs.at } })
  cause_other l w (wait.Entry k) n h = record {
    place = h.place;
    entry = h.entry;
    at = ap (λ (y : Group). slice_get y.waiting h.place) (there w.shard n) ∙ h.at;
    numbered = h.numbered ∙ ap (λ (y : Group). y.front + 1 + h.place) (sym (there w.shard n));
    asked = h.asked;
  }

  -- ---- of this one

  own_kept : (number line : ℕ) → number ≤ last → OwnWaits c x number line → OwnWaits d x number line
  own_kept number line low_number h =
      let g : Group = group_of x c in
      let new : Group = renew c.members (group_of x c) in
      let k : ℕ = option_map_or (length_of (told c.members g)) (lead (told c.members g)) 0 - g.front in
      let top : last_number (group_of x b) ≡ g.front + length (take k g.waiting) = ap last_number here in
      let inside : h.place < length (take k g.waiting) = omega (arith, h.numbered, low_number, top) in
      record {
        place = h.place;
        entry = h.entry;
        at = ap (λ (y : Group). slice_get y.waiting h.place) here ∙ take_get k g.waiting h.place h.entry inside h.at;
        numbered = h.numbered ∙ ap (λ (y : Group). y.front + 1 + h.place) (sym here);
        asked = h.asked;
      }

  -- by its shard, and whether its entry stays
  again_cause : (l : ℕ) (w : Waiting) → ForBytes x l w ⊎ HasCause name c (asker_of l w) w.wait → HasCause name d (asker_of l (restarted x last w)) (restarted x last w).wait
  again_cause l w h = elim (cases_eq w.shard x) [
    | inr n ↦
        let same : restarted x last w ≡ w = ap (λ t. cond (t && not (is_within last w.wait)) (record w { wait = wait.View }) w) (neq w.shard x n) in
        subst (λ (y : Waiting). HasCause name d (asker_of l y) y.wait) (sym same) (elim h [
          | inl bytes ↦ absurd (n bytes.judges)
          | inr cause ↦ cause_other l w w.wait n cause
        ])
    | inl is ↦ by_within is (is_within last w.wait) refl
  ]
    where
      neq : (p q : ℕ) → p ≢ q → (p == q) ≡ false
      neq p q n = go (p == q) refl
        where
          go : (t : Bool) → (p == q) ≡ t → (p == q) ≡ false
          go false f = f
          go true f = absurd (n (eqb-true p q f))

      same_true : (p q : ℕ) → p ≡ q → (p == q) ≡ true
      same_true p q f = grind (arith, nat_tests, f)

      kept : w.shard ≡ x → (k : IsWithin last w.wait) → HasCause name d (asker_of l w) w.wait
      kept is k = elim h [
        | inl bytes ↦ (let wrong : wait.Bytes bytes.number ≡ wait.Entry k.number = sym bytes.waits ∙ k.is in absurd (cc wrong))
        | inr cause ↦
            let own : OwnWaits c x k.number l = subst (λ g. OwnWaits c g k.number l) is (subst (λ (y : Wait). HasCause name c (asker_of l w) y) k.is cause) in
            let now : OwnWaits d w.shard k.number l = subst (λ g. OwnWaits d g k.number l) (sym is) (own_kept k.number l k.low own) in
            subst (λ (y : Wait). HasCause name d (asker_of l w) y) (sym k.is) now
      ]

      viewless : w.shard ≡ x → slice_index_or d.progress.viewed w.shard false ≡ false
      viewless is = ap (λ g. slice_index_or (slice_set c.progress.viewed x false) g false) is ∙ off_now c.progress.viewed x

      by_within : w.shard ≡ x → (t : Bool) → is_within last w.wait ≡ t → HasCause name d (asker_of l (restarted x last w)) (restarted x last w).wait
      by_within is true f =
          let same : restarted x last w ≡ w = (λ i. cond (same_true w.shard x is i && not (f i)) (record w { wait = wait.View }) w) in
          subst (λ (y : Waiting). HasCause name d (asker_of l y) y.wait) (sym same) (kept is (within_entry last w.wait f))
      by_within is false f =
          let same : restarted x last w ≡ record w { wait = wait.View } = (λ i. cond (same_true w.shard x is i && not (f i)) (record w { wait = wait.View }) w) in
          subst (λ (y : Waiting). HasCause name d (asker_of l y) y.wait) (sym same) (viewless is)

  -- ---- all of them

  -- what is found started again
  was : (l : ℕ) (w : Waiting) → operation_of l d ≡ Some w → (old : Waiting) × (operation_of l c ≡ Some old) × (restarted x last old ≡ w)
  was l w at = go (operation_of l c) refl (sym (found_map (restarted x last) (is_at (nat_cmp l)) c.operations) ∙ at)
    where
      go : (o : Option Waiting) → operation_of l c ≡ o → option_map (restarted x last) o ≡ Some w → (old : Waiting) × (operation_of l c ≡ Some old) × (restarted x last old ≡ w)
      go None f k = let wrong : None ≡ Some w = k in absurd (cc wrong)
      go (Some old) f k = (old, f, some_is (restarted x last old) w k)

  again_most : Most name (ForBytes x) NoShard c → Most name NoLine (λ g. g ≡ x) d
  again_most m = record {
    views = length-set c.progress.viewed x false ∙ m.views;
    viewing = λ g in_range off. elim (cases_eq g x) [
      | inl is ↦ inl is
      | inr n ↦ elim (m.viewing g in_range (sym (get_or-set_other c.progress.viewed x g false false n) ∙ off)) [
        | inl none ↦ absurd none
        | inr h ↦ inr (record {
          place = h.place;
          entry = h.entry;
          at = ap (λ (y : Group). slice_get y.waiting h.place) (there g n) ∙ h.at;
          is = h.is ∙ ap (λ (y : Group). kind.View y.view) (sym (there g n));
        })
      ]
    ];
    caused = λ l w at. (let k = was l w at in inr (subst (λ (y : Waiting). HasCause name d (asker_of l y) y.wait) k.2 (again_cause l k.0 (m.caused l k.0 k.1))));
  }

  -- the View waits
  module _ (of : (group_of x c).shard ≡ x) where
    view_there : ViewWaits (begin_view x c) x
    view_there =
        let entry : Entry = kind.View (view_of x c.members) in
        let s : Stays e (propose_entry x entry e) = proposal_stays x entry e in
        record {
          place = length (group_of x e).waiting;
          entry = entry;
          at = proposal_there x entry e (let n = length-set c.groups x (renew c.members (group_of x c)) in omega (arith, n, low));
          is = ap (λ v. kind.View v) (sym (s.view x ∙ ap (λ (y : Group). y.view) here ∙ ap (λ g. view_of g c.members) of));
        }

    began_most : Most name (ForBytes x) NoShard c → Most name NoLine NoShard (begin_view x c)
    began_most m =
        let entry : Entry = kind.View (view_of x c.members) in
        let at_e : Most name NoLine (λ g. g ≡ x) e = most_stays name d e (stays_by d e refl refl refl refl) NoLine (λ g. g ≡ x) refl (again_most m) in
        let at_end : Most name NoLine (λ g. g ≡ x) (propose_entry x entry e) = most_stays name e (propose_entry x entry e) (proposal_stays x entry e) NoLine (λ g. g ≡ x) (proposal_operations x entry e) at_e in
        record {
          views = at_end.views;
          viewing = λ g in_range off. elim (at_end.viewing g in_range off) [
            | inl is ↦ inr (subst (λ k. ViewWaits (begin_view x c) k) (sym is) view_there)
            | inr h ↦ inr h
          ];
          caused = at_end.caused;
        }

    began_led : IsLed c → IsLed (begin_view x c)
    began_led h =
        let entry : Entry = kind.View (view_of x c.members) in
        led_stays e (begin_view x c) (proposal_stays x entry e)
        (led_by c e h refl (length-set c.groups x (renew c.members (group_of x c))) refl
        (λ g. elim (group_cases x (renew c.members) a g) [
          | inl same ↦ ap (λ (y : Group). length y.copies) same
          | inr is ↦ ap (λ (y : Group). length y.copies) is.1 ∙ told_length c.members (group_of x c) ∙ ap (λ k. length (group_of k c).copies) (sym is.0)
        ]))

    pub began_good : IsGood name (ForBytes x) NoShard c → IsGood name NoLine NoShard (begin_view x c)
    began_good g =
        let entry : Entry = kind.View (view_of x c.members) in
        record {
          orderly = view_began name x c g.orderly;
          led = began_led g.led;
          valid = subst (λ (m : Members). IsShape m.shape) (sym (proposal_stays x entry e).members) g.valid;
          most = began_most g.most;
        }
