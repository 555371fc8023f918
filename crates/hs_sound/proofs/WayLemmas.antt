-- What shards keep as sent and a shard has not applied is what the machine has on its way there.
use Rattle.std.proofs.Common.{◌≡◌, ◌⊎◌, inl, inr, ℕ, zero, suc, ◌+◌, ◌-◌, ◌<◌, ◌≤◌, ◌==◌, ◌&&◌, ◌||◌, not, List, [], ◌∷◌, length, filter, flat_map, Bool, true, false, cond, Some, refl, sym, ap, ◌∙◌, arith, nat_lt, nat_le}
use Rattle.std.proofs.lemmas.Bool.{cases_eq, eq-eqb, ne_eqb, ltb-true, leb-true}
use Rattle.std.proofs.lemmas.Bool.Decides.{nat_tests}
use Rattle.std.proofs.lemmas.List.Elements.{recursion_from_All}
use Rattle.std.specs.List.{AllByRecursion}
use Rattle.std.specs.Prelude.{slice_get}
use Rattle.hs_limits.specs.declared.address.Address.{Address}
use Rattle.hs_limits.specs.declared.delta.Delta.{Delta}
use Rattle.hs_limits.specs.Shape.{shard_of}
use Rattle.hs_model.proofs.Members.{contains_from_member}
use Rattle.hs_rounds.specs.declared.body.RoundBody.{RoundBody}
use Rattle.hs_rounds.specs.declared.sending.SentRound.{SentRound}
use Rattle.hs_deletion.specs.Clocks.{label_of}
use Rattle.hs_deletion.specs.Counts.{raised_on_way, lowered_on_way}
use Rattle.hs_deletion.specs.Invariants.{IsRight}
use Rattle.hs_deletion.specs.Machine.{Layout, Round, Machine, empty_round, sum_below}
use Rattle.hs_deletion.specs.Rounds.{times, raised_in, lowered_in}
use Rattle.hs_deletion.proofs.ClockLemmas.{sent_near}
use Rattle.hs_deletion.proofs.LabelLemmas.{label_rises, label_tells, epoch_rises}
use Rattle.hs_deletion.proofs.RoundLemmas.{times_none}
use Rattle.hs_deletion.proofs.SumLemmas.{sum_below_same}
use Rattle.hs_fold.specs.Shards.Setting.{Setting}
use Rattle.hs_fold.specs.Runs.Counts.{amount_at, deltas_of, is_unapplied, raised, lowered}
use Rattle.hs_fold.specs.Runs.Facts.{Catalogue}
use Rattle.hs_fold.specs.Runs.Fits.{catalogue_at}
use Rattle.hs_joint.specs.Joined.{IsOfRow}
use Rattle.hs_joint.specs.Seen.{layout_of, repeated, seen_round}
use Rattle.hs_joint.proofs.AmountLemmas.{times_repeated, amount_append}
use Rattle.hs_joint.proofs.StandLemmas.{IsStanding, right}
use Rattle.hs_waiting.proofs.GotStayLemmas.{member_at}
use Rattle.hs_sound.specs.Told.{TellsEachItsOwn}
use Rattle.hs_sound.proofs.KeptLemmas.{Tells}
use Rattle.hs_sound.proofs.PlaceLemmas.{stands_at, each_of, here_each, sum_below_zero, sum_below_front, sum_below_plus}
use Rattle.hs_sound.proofs.ToldLemmas.{IsOf, other_none, one_told}

-- ---- what a sender keeps

abbrev sum_each : (SentRound → ℕ) → List SentRound → ℕ
sum_each w [] = 0
sum_each w (x ∷ xs) = w x + sum_each w xs

amount_kept : (a : Address) (test : SentRound → Bool) (xs : List SentRound) → amount_at a (flat_map deltas_of (filter test xs)) ≡ sum_each (λ s. cond (test s) (amount_at a (deltas_of s)) 0) xs
amount_kept a test [] = refl
amount_kept a test (x ∷ xs) = go (test x) (amount_kept a test xs)
  where
    rest : ℕ
    rest = sum_each (λ s. cond (test s) (amount_at a (deltas_of s)) 0) xs

    go : (b : Bool) → amount_at a (flat_map deltas_of (filter test xs)) ≡ rest → amount_at a (flat_map deltas_of (cond b (x ∷ filter test xs) (filter test xs))) ≡ cond b (amount_at a (deltas_of x)) 0 + rest
    go true ih = amount_append a (deltas_of x) (flat_map deltas_of (filter test xs)) ∙ ap (λ k. amount_at a (deltas_of x) + k) ih
    go false ih = omega (arith, ih)

sum_none : (w : SentRound → ℕ) (xs : List SentRound) → ((place : ℕ) (kept : SentRound) → slice_get xs place ≡ Some kept → w kept ≡ 0) → sum_each w xs ≡ 0
sum_none w [] h = refl
sum_none w (x ∷ xs) h = let one = h 0 x refl in let rest = sum_none w xs (λ place kept e. h (suc place) kept e) in omega (arith, one, rest)

sum_first : (w : SentRound → ℕ) (xs : List SentRound) (one : SentRound) → slice_get xs 0 ≡ Some one → ((place : ℕ) (kept : SentRound) → slice_get xs (suc place) ≡ Some kept → w kept ≡ 0) → sum_each w xs ≡ w one
sum_first w [] one e h = cc e
sum_first w (x ∷ xs) one e h =
    let is : x ≡ one = cc e in
    let same : w x ≡ w one = ap w is in
    let rest = sum_none w xs (λ place kept q. h place kept q) in
    omega (arith, same, rest)

sum_two : (w : SentRound → ℕ) (xs : List SentRound) (one two : SentRound) → slice_get xs 0 ≡ Some one → slice_get xs 1 ≡ Some two → ((place : ℕ) (kept : SentRound) → slice_get xs (suc (suc place)) ≡ Some kept → w kept ≡ 0) → sum_each w xs ≡ w one + w two
sum_two w [] one two e f h = cc e
sum_two w (x ∷ xs) one two e f h =
    let is : x ≡ one = cc e in
    let same : w x ≡ w one = ap w is in
    let rest = sum_first w xs two f (λ place kept q. h place kept q) in
    omega (arith, same, rest)

-- ---- sender by sender

amount_senders : (a : Address) (f : Catalogue → List Delta) (cs : List Catalogue) → amount_at a (flat_map f cs) ≡ sum_below (length cs) (λ k. amount_at a (f (catalogue_at cs k)))
amount_senders a f [] = sym (sum_below_zero (λ k. amount_at a (f (catalogue_at [] k))))
amount_senders a f (c ∷ cs) =
    amount_append a (f c) (flat_map f cs)
    ∙ ap (λ k. amount_at a (f c) + k) (amount_senders a f cs)
    ∙ sym (sum_below_front (length cs) (λ k. amount_at a (f (catalogue_at (c ∷ cs) k))))

-- ---- of which rounds a shard has not applied all

lt_false : (x y : ℕ) → y ≤ x → nat_lt x y ≡ false
lt_false x y l = go (nat_lt x y) refl
  where
    go : (b : Bool) → nat_lt x y ≡ b → b ≡ false
    go true e = absurd (let k = ltb-true x y e in omega (arith, k, l))
    go false e = refl

le_false : (x y : ℕ) → y < x → nat_le x y ≡ false
le_false x y l = go (nat_le x y) refl
  where
    go : (b : Bool) → nat_le x y ≡ b → b ≡ false
    go true e = absurd (let k = leb-true x y e in omega (arith, k, l))
    go false e = refl

lt_true : (x y : ℕ) → x < y → nat_lt x y ≡ true
lt_true x y l = grind (arith, nat_tests, l)

le_true : (x y : ℕ) → x ≤ y → nat_le x y ≡ true
le_true x y l = grind (arith, nat_tests, l)

-- in an epoch that is swept up to one and in a round, a round of such an epoch and number
abbrev waits : ℕ → ℕ → ℕ → ℕ → ℕ → Bool
waits epoch swept round e r = nat_lt epoch e || (nat_lt swept epoch && (e == epoch && nat_le round r))

waits_late : (epoch swept round e r : ℕ) → (epoch < e) ⊎ (swept < epoch) × (e ≡ epoch) × (round ≤ r) → waits epoch swept round e r ≡ true
waits_late epoch swept round e r (inl l) = let up = lt_true epoch e l in rw up refl
waits_late epoch swept round e r (inr q) = all (nat_lt epoch e) (nat_lt swept epoch) (e == epoch) (nat_le round r) (lt_true swept epoch q.0) (eq-eqb e epoch q.1) (le_true round r q.2)
  where
    all : (a b c d : Bool) → b ≡ true → c ≡ true → d ≡ true → a || (b && (c && d)) ≡ true
    all true b c d x y z = refl
    all false true true true x y z = refl
    all false true true false x y z = z
    all false true false d x y z = y
    all false false c d x y z = x

waits_early : (epoch swept round e r : ℕ) → (e < epoch) ⊎ (e ≡ epoch) × (r < round) ⊎ (swept ≡ epoch) × (e ≤ epoch) → waits epoch swept round e r ≡ false
waits_early epoch swept round e r h = none (nat_lt epoch e) (nat_lt swept epoch) (e == epoch) (nat_le round r) (lt_false epoch e (low h)) (one h)
  where
    low : (e < epoch) ⊎ (e ≡ epoch) × (r < round) ⊎ (swept ≡ epoch) × (e ≤ epoch) → e ≤ epoch
    low (inl l) = omega (arith, l)
    low (inr (inl q)) = let same = q.0 in omega (arith, same)
    low (inr (inr q)) = q.1

    one : (e < epoch) ⊎ (e ≡ epoch) × (r < round) ⊎ (swept ≡ epoch) × (e ≤ epoch) → (nat_lt swept epoch ≡ false) ⊎ ((e == epoch) ≡ false) ⊎ (nat_le round r ≡ false)
    one (inl l) = inr (inl (ne_eqb e epoch (λ z. omega (arith, z, l))))
    one (inr (inl q)) = inr (inr (le_false round r q.1))
    one (inr (inr q)) = inl (lt_false swept epoch (let same = q.0 in omega (arith, same)))

    none : (a b c d : Bool) → a ≡ false → (b ≡ false) ⊎ (c ≡ false) ⊎ (d ≡ false) → a || (b && (c && d)) ≡ false
    none true b c d x y = cc x
    none false false c d x y = refl
    none false true false d x y = refl
    none false true true false x y = refl
    none false true true true x (inl y) = cc y
    none false true true true x (inr (inl y)) = cc y
    none false true true true x (inr (inr y)) = cc y

some_or_zero : (round : ℕ) → nat_lt 0 round ≡ not (round == 0)
some_or_zero zero = refl
some_or_zero (suc round) = let up = lt_true 0 (suc round) (omega arith) in let off = ne_eqb (suc round) 0 (λ z. omega (arith, z)) in rw (up, off) refl

three : (x y : ℕ) → y ≤ x → x ≤ y + 2 → (x ≡ y) ⊎ (x ≡ y + 1) ⊎ (x ≡ y + 2)
three x y low high = grind arith

raised_row : (layout : Layout) (m : Machine) (row : ℕ) (a : Address) → raised_in layout m.states row a ≡ sum_below layout.shards (λ h. times a ((m.states h).rounds row).raises)
unfolding raised_in
raised_row layout m row a = refl

lowered_row : (layout : Layout) (m : Machine) (row : ℕ) (a : Address) → lowered_in layout m.states row a ≡ sum_below layout.shards (λ h. times a ((m.states h).rounds row).lowers)
unfolding lowered_in
lowered_row layout m row a = refl

-- ---- beside a machine

module _ (set : Setting) (some : 0 < set.shape.shards) (cs : List Catalogue) (m : Machine) (st : IsStanding set some cs m) (tells : AllByRecursion (Tells set.shape.shards) cs) (a : Address) where
  abbrev n : ℕ
  n = set.shape.shards

  abbrev L : Layout
  L = layout_of n some

  abbrev g : ℕ
  g = shard_of n a

  abbrev c : Catalogue
  c = catalogue_at cs g

  abbrev done : ℕ
  done = (m.states g).completed

  lg : g < n
  lg = L.within a

  R : IsRight L m
  R = right set some cs m st

  epoch_is : c.epoch ≡ (m.states g).epoch
  epoch_is = (st.joined.followed.each g lg).epoch

  swept_is : c.swept ≡ (m.states g).swept
  swept_is = (st.joined.followed.each g lg).swept

  -- a row that is not completed is not applied, and each before is
  late_row : (row epoch round : ℕ) → (label_of L m.states row).epoch ≡ epoch → (label_of L m.states row).round ≡ round → done ≤ row → waits c.epoch c.swept c.round epoch round ≡ true
  late_row row epoch round e r low = waits_late c.epoch c.swept c.round epoch round (elim (R.clocks g lg).phase [
    | inl p ↦ (
        let u = p.unswept in
        let pe = p.of_epoch in
        let pr = p.of_round in
        let now = (st.joined.followed.each g lg).round (omega (arith, u)) in
        elim (cases_eq row done) [
          | inl is ↦ (
              let se : (label_of L m.states row).epoch ≡ (label_of L m.states done).epoch = ap (λ j. (label_of L m.states j).epoch) is in
              let sr : (label_of L m.states row).round ≡ (label_of L m.states done).round = ap (λ j. (label_of L m.states j).round) is in
              inr (omega (arith, u, epoch_is, swept_is), omega (arith, se, pe, e, epoch_is), omega (arith, sr, pr, r, now))
              )
          | inr differs ↦ elim (label_rises L m.states done (row - (done + 1)) row (omega (arith, low, differs))) [
            | inl x ↦ inl (omega (arith, x, pe, e, epoch_is))
            | inr x ↦ (let x0 = x.0 in let x1 = x.1 in inr (omega (arith, u, epoch_is, swept_is), omega (arith, x0, pe, e, epoch_is), omega (arith, x1, pr, r, now)))
          ]
        ]
        )
    | inr p ↦ (let pe = p.of_epoch in let x = epoch_rises L m.states done row low in inl (omega (arith, x, pe, e, epoch_is)))
  ])

  early_row : (row epoch round : ℕ) → (label_of L m.states row).epoch ≡ epoch → (label_of L m.states row).round ≡ round → row < done → waits c.epoch c.swept c.round epoch round ≡ false
  early_row row epoch round e r low =
      let rises = label_rises L m.states row (done - (row + 1)) done (omega (arith, low)) in
      waits_early c.epoch c.swept c.round epoch round (elim (R.clocks g lg).phase [
        | inl p ↦ (
            let u = p.unswept in
            let pe = p.of_epoch in
            let pr = p.of_round in
            let now = (st.joined.followed.each g lg).round (omega (arith, u)) in
            elim rises [
              | inl x ↦ inl (omega (arith, x, pe, e, epoch_is))
              | inr x ↦ (let x0 = x.0 in let x1 = x.1 in inr (inl (omega (arith, x0, pe, e, epoch_is), omega (arith, x1, pr, r, now))))
            ]
            )
        | inr p ↦ (
            let u = p.is_swept in
            let pe = p.of_epoch in
            let pr = p.of_round in
            elim rises [
              | inl x ↦ inr (inr (omega (arith, u, epoch_is, swept_is), omega (arith, x, pe, e, epoch_is)))
              | inr x ↦ (let x1 = x.1 in absurd (omega (arith, x1, pr)))
            ]
            )
      ])

  -- ---- what one sender keeps

  module _ (h : ℕ) (lh : h < n) where
    abbrev list : List SentRound
    list = (catalogue_at cs h).sent

    abbrev up : ℕ
    up = (m.states h).sent

    abbrev said_in : ℕ → Round
    said_in row = (m.states h).rounds row

    record SaysHere (kept : SentRound) (row : ℕ) : Type 0 where
      told : RoundBody
      all : amount_at a (deltas_of kept) ≡ amount_at a told.deltas
      raises : times a (seen_round kept.round told).raises ≡ times a (said_in row).raises
      lowers : times a (seen_round kept.round told).lowers ≡ times a (said_in row).lowers

    says_here : (place : ℕ) (kept : SentRound) → slice_get list place ≡ Some kept → (x : IsOfRow L m.states up place kept) → SaysHere kept x.row
    says_here place kept e x =
        let k = member_at kept list place e in
        let t = each_of (TellsEachItsOwn n) list (here_each (Tells n) cs tells tt h) kept k in
        let te = t.each in
        let b = stands_at kept.bodies g (omega (arith, lg, te)) in
        let s = st.joined.sent h lh kept (contains_from_member kept list k) g b.0 b.1 in
        let row : s.row ≡ x.row = label_tells L m.states s.row x.row (s.of_epoch ∙ sym x.epoch) (s.of_round ∙ sym x.round) in
        record {
          told = b.0;
          all = one_told a kept.bodies g b.0 b.1 (λ j other q o. other_none n j a other.deltas (recursion_from_All (IsOf n j) other.deltas (t.own j other q)) (λ z. o (sym z)));
          raises = s.raises a refl ∙ ap (λ j. times a (said_in j).raises) row;
          lowers = s.lowers a refl ∙ ap (λ j. times a (said_in j).lowers) row;
        }

    kept_raises : (place : ℕ) (kept : SentRound) → slice_get list place ≡ Some kept → (x : IsOfRow L m.states up place kept) → cond (kept.round == 0) (amount_at a (deltas_of kept)) 0 ≡ times a (said_in x.row).raises
    kept_raises place kept e x = let s = says_here place kept e x in ap (λ k. cond (kept.round == 0) k 0) s.all ∙ go s.told (kept.round == 0) ∙ s.raises
      where
        go : (told : RoundBody) (b : Bool) → cond b (amount_at a told.deltas) 0 ≡ times a (cond b (repeated told.deltas) [])
        go told true = sym (times_repeated a told.deltas)
        go told false = sym (times_none a)

    kept_lowers : (place : ℕ) (kept : SentRound) → slice_get list place ≡ Some kept → (x : IsOfRow L m.states up place kept) → cond (nat_lt 0 kept.round) (amount_at a (deltas_of kept)) 0 ≡ times a (said_in x.row).lowers
    kept_lowers place kept e x =
        let s = says_here place kept e x in
        ap (λ k. cond (nat_lt 0 kept.round) k 0) s.all ∙ ap (λ t. cond t (amount_at a s.told.deltas) 0) (some_or_zero kept.round) ∙ go s.told (kept.round == 0) ∙ s.lowers
      where
        go : (told : RoundBody) (b : Bool) → cond (not b) (amount_at a told.deltas) 0 ≡ times a (cond b [] (repeated told.deltas))
        go told true = sym (times_none a)
        go told false = sym (times_repeated a told.deltas)

    -- of one way, raising or lowering
    module _ (part : SentRound → Bool) (said : Round → List Address) (none : times a (said empty_round) ≡ 0)
        (each : (place : ℕ) (kept : SentRound) → slice_get list place ≡ Some kept → (x : IsOfRow L m.states up place kept) → cond (part kept) (amount_at a (deltas_of kept)) 0 ≡ times a (said (said_in x.row))) where
      abbrev w : SentRound → ℕ
      w s = cond (is_unapplied c s && part s) (amount_at a (deltas_of s)) 0

      row_at : (place : ℕ) (kept : SentRound) → slice_get list place ≡ Some kept → IsOfRow L m.states up place kept
      row_at place kept e = (st.joined.last h lh).rows place kept e

      late : (place : ℕ) (kept : SentRound) → slice_get list place ≡ Some kept → (x : IsOfRow L m.states up place kept) → done ≤ x.row → w kept ≡ times a (said (said_in x.row))
      late place kept e x low = ap (λ b. cond (b && part kept) (amount_at a (deltas_of kept)) 0) (late_row x.row kept.epoch kept.round x.epoch x.round low) ∙ each place kept e x

      early : (place : ℕ) (kept : SentRound) (x : IsOfRow L m.states up place kept) → x.row < done → w kept ≡ 0
      early place kept x low = ap (λ b. cond (b && part kept) (amount_at a (deltas_of kept)) 0) (early_row x.row kept.epoch kept.round x.epoch x.round low)

      unsent : (j : ℕ) → up ≤ j → times a (said (said_in j)) ≡ 0
      unsent j l = ap (λ r. times a (said r)) ((R.clocks h lh).unsent j l) ∙ none

      sender_says : sum_each w list ≡ times a (said (said_in done)) + times a (said (said_in (done + 1)))
      sender_says = elim (three up done ((R.clocks g lg).come h lh) (sent_near L m.states R.clocks g h lg lh)) [
        | inl e ↦ (
            let rest = sum_none w list (λ place kept q. (let x = row_at place kept q in let b = x.back in early place kept x (omega (arith, b, e)))) in
            let u0 = unsent done (omega (arith, e)) in
            let u1 = unsent (done + 1) (omega (arith, e)) in
            omega (arith, rest, u0, u1)
            )
        | inr (inl e) ↦ (
            let k = (st.joined.last h lh).there 0 (omega arith) (omega (arith, e)) in
            let x = row_at 0 k.0 k.1 in
            let b = x.back in
            let row : x.row ≡ done = omega (arith, b, e) in
            let first : w k.0 ≡ times a (said (said_in done)) = late 0 k.0 k.1 x (omega (arith, row)) ∙ ap (λ j. times a (said (said_in j))) row in
            let rest = sum_first w list k.0 k.1 (λ place kept q. (let y = row_at (suc place) kept q in let yb = y.back in early (suc place) kept y (omega (arith, yb, e)))) in
            let u1 = unsent (done + 1) (omega (arith, e)) in
            omega (arith, first, rest, u1)
            )
        | inr (inr e) ↦ (
            let k = (st.joined.last h lh).there 0 (omega arith) (omega (arith, e)) in
            let l = (st.joined.last h lh).there 1 (omega arith) (omega (arith, e)) in
            let x = row_at 0 k.0 k.1 in
            let y = row_at 1 l.0 l.1 in
            let xb = x.back in
            let yb = y.back in
            let xr : x.row ≡ done + 1 = omega (arith, xb, e) in
            let yr : y.row ≡ done = omega (arith, yb, e) in
            let first : w k.0 ≡ times a (said (said_in (done + 1))) = late 0 k.0 k.1 x (omega (arith, xr)) ∙ ap (λ j. times a (said (said_in j))) xr in
            let second : w l.0 ≡ times a (said (said_in done)) = late 1 l.0 l.1 y (omega (arith, yr)) ∙ ap (λ j. times a (said (said_in j))) yr in
            let rest = sum_two w list k.0 l.0 k.1 l.1 (λ place kept q. (let z = row_at (suc (suc place)) kept q in let zb = z.back in early (suc (suc place)) kept z (omega (arith, zb, e)))) in
            omega (arith, first, second, rest)
            )
      ]

  -- ---- all senders

  abbrev raising : SentRound → Bool
  raising s = is_unapplied c s && s.round == 0

  abbrev lowering : SentRound → Bool
  lowering s = is_unapplied c s && nat_lt 0 s.round

  pub raised_is : raised a c cs ≡ raised_on_way L m a
  raised_is =
      amount_senders a (λ (sender : Catalogue). flat_map deltas_of (filter raising sender.sent)) cs
      ∙ ap (λ k. sum_below k (λ h. amount_at a (flat_map deltas_of (filter raising (catalogue_at cs h).sent)))) st.joined.each
      ∙ sum_below_same n (λ h. amount_at a (flat_map deltas_of (filter raising (catalogue_at cs h).sent))) (λ h. times a ((m.states h).rounds done).raises + times a ((m.states h).rounds (done + 1)).raises)
      (λ h lh. amount_kept a raising (catalogue_at cs h).sent ∙ sender_says h lh (λ s. s.round == 0) (λ r. r.raises) (times_none a) (kept_raises h lh))
      ∙ sum_below_plus n (λ h. times a ((m.states h).rounds done).raises) (λ h. times a ((m.states h).rounds (done + 1)).raises)
      ∙ (let one = raised_row L m done a in let two = raised_row L m (done + 1) a in omega (arith, one, two))

  pub lowered_is : lowered a c cs ≡ lowered_on_way L m a
  lowered_is =
      amount_senders a (λ (sender : Catalogue). flat_map deltas_of (filter lowering sender.sent)) cs
      ∙ ap (λ k. sum_below k (λ h. amount_at a (flat_map deltas_of (filter lowering (catalogue_at cs h).sent)))) st.joined.each
      ∙ sum_below_same n (λ h. amount_at a (flat_map deltas_of (filter lowering (catalogue_at cs h).sent))) (λ h. times a ((m.states h).rounds done).lowers + times a ((m.states h).rounds (done + 1)).lowers)
      (λ h lh. amount_kept a lowering (catalogue_at cs h).sent ∙ sender_says h lh (λ s. nat_lt 0 s.round) (λ r. r.lowers) (times_none a) (kept_lowers h lh))
      ∙ sum_below_plus n (λ h. times a ((m.states h).rounds done).lowers) (λ h. times a ((m.states h).rounds (done + 1)).lowers)
      ∙ (let one = lowered_row L m done a in let two = lowered_row L m (done + 1) a in omega (arith, one, two))
