-- A Got that a shard would accept it would accept still behind another entry of its list.
use Rattle.std.proofs.Common.{◌≡◌, ◌∙◌, sym, ap, subst, ◌⊎◌, inl, inr, ℕ, zero, suc, ◌+◌, ◌<◌, ◌==◌, ◌&&◌, ◌||◌, Bool, true, false, cond, Option, Some, None, is_none, is_some, length, refl, arith, nat_lt}
use Rattle.std.proofs.lemmas.Bool.{and_from, and_parts, and_right, eq-eqb, eqb-true, lt-ltb, ltb-true, or_cases}
use Rattle.std.specs.BTreeMap.{insert_entry}
use Rattle.hs_entry.specs.declared.entry.Entry.{Entry}
use Rattle.hs_entry.specs.declared.entry.Entry.TheVariants as kind
use Rattle.hs_rounds.specs.declared.body.RoundBody.{RoundBody}
use Rattle.hs_rounds.specs.declared.place.Place.{Place}
use Rattle.hs_rounds.specs.Rounds.{GotList, body_at, from_round, have_told, place_cmp, told_by}
use Rattle.hs_fold.specs.Catalogue.{Shard}
use Rattle.hs_fold.specs.Runs.Catalogue.{apply}
use Rattle.hs_fold.specs.Runs.Facts.{Catalogue}
use Rattle.hs_fold.specs.Runs.Rounds.{advance, advanced, end_round, enter_epoch, get_round, is_accepted, is_complete, is_due, is_last, is_running, log_got, may_enter, search, settled, sweep}
use Rattle.hs_fold.specs.Runs.Rounds.{enter as enter_here}
use Rattle.hs_joint.proofs.GotLemmas.{stays_open}
use Rattle.hs_joint.proofs.GotLookups.{each_of_all, kept_is_old, logged_or_old}
use Rattle.hs_waiting.proofs.EpochLemmas.{client_still}
use Rattle.hs_standing.specs.Sent.{got_of}

-- ---- which rounds may come

or_left : (a b : Bool) → a ≡ true → a || b ≡ true
or_left true b e = refl
or_left false b e = cc e

or_right : (a b : Bool) → b ≡ true → a || b ≡ true
or_right true b e = refl
or_right false b e = e

-- a place is of the open round, of the one behind it, or of the first of the next run
abbrev IsOpen : Catalogue → Place → Type 0
IsOpen c q = (is_running c ≡ true) × (q.epoch ≡ c.epoch) × (q.round ≡ c.round)

abbrev IsNext : Catalogue → Place → Type 0
IsNext c q = (is_running c ≡ true) × (q.epoch ≡ c.epoch) × (q.round ≡ c.round + 1)

abbrev IsFirst : Catalogue → Place → Type 0
IsFirst c q = (q.epoch ≡ c.epoch + 1) × (q.round ≡ 0)

due_cases : (c : Catalogue) (q : Place) → is_due c q.epoch q.round ≡ true → IsOpen c q ⊎ IsNext c q ⊎ IsFirst c q
due_cases c q d = elim (or_cases (is_running c && (q.epoch == c.epoch && (q.round == c.round || q.round == c.round + 1))) (q.epoch == c.epoch + 1 && q.round == 0) d) [
  | inl o ↦ (
      let a = and_parts (is_running c) (q.epoch == c.epoch && (q.round == c.round || q.round == c.round + 1)) o in
      let b = and_parts (q.epoch == c.epoch) (q.round == c.round || q.round == c.round + 1) a.1 in
      let e = eqb-true q.epoch c.epoch b.0 in
      elim (or_cases (q.round == c.round) (q.round == c.round + 1) b.1) [ inl r ↦ inl (a.0, e, eqb-true q.round c.round r) | inr r ↦ inr (inl (a.0, e, eqb-true q.round (c.round + 1) r)) ]
      )
  | inr o ↦ (let a = and_parts (q.epoch == c.epoch + 1) (q.round == 0) o in inr (inr (eqb-true q.epoch (c.epoch + 1) a.0, eqb-true q.round 0 a.1)))
]

due_open : (c : Catalogue) (q : Place) → IsOpen c q → is_due c q.epoch q.round ≡ true
due_open c q h =
    or_left (is_running c && (q.epoch == c.epoch && (q.round == c.round || q.round == c.round + 1))) (q.epoch == c.epoch + 1 && q.round == 0)
    (and_from (is_running c) (q.epoch == c.epoch && (q.round == c.round || q.round == c.round + 1)) h.0
    (and_from (q.epoch == c.epoch) (q.round == c.round || q.round == c.round + 1) (eq-eqb q.epoch c.epoch h.1)
    (or_left (q.round == c.round) (q.round == c.round + 1) (eq-eqb q.round c.round h.2))))

due_first : (c : Catalogue) (q : Place) → IsFirst c q → is_due c q.epoch q.round ≡ true
due_first c q h =
    or_right (is_running c && (q.epoch == c.epoch && (q.round == c.round || q.round == c.round + 1))) (q.epoch == c.epoch + 1 && q.round == 0)
    (and_from (q.epoch == c.epoch + 1) (q.round == 0) (eq-eqb q.epoch (c.epoch + 1) h.0) (eq-eqb q.round 0 h.1))

-- ---- what is accepted

pub parts_of : (n : ℕ) (c : Catalogue) (q : Place) → is_accepted n c q ≡ true → (nat_lt q.from n ≡ true) × (is_none (body_at q c.got) ≡ true) × (is_due c q.epoch q.round ≡ true)
parts_of n c q ok =
    let a = and_parts (nat_lt q.from n) (is_none (body_at q c.got) && is_due c q.epoch q.round) ok in
    let b = and_parts (is_none (body_at q c.got)) (is_due c q.epoch q.round) a.1 in
    (a.0, b.0, b.1)

pub accepted_by : (n : ℕ) (c : Catalogue) (q : Place) → nat_lt q.from n ≡ true → is_none (body_at q c.got) ≡ true → is_due c q.epoch q.round ≡ true → is_accepted n c q ≡ true
accepted_by n c q low none due =
    and_from (nat_lt q.from n) (is_none (body_at q c.got) && is_due c q.epoch q.round) low (and_from (is_none (body_at q c.got)) (is_due c q.epoch q.round) none due)

-- what stood nowhere stands nowhere, where all that stands stood there before
still_none : (gots more : GotList) (q : Place) → ((body : RoundBody) → body_at q more ≡ Some body → body_at q gots ≡ Some body) → is_none (body_at q gots) ≡ true → is_none (body_at q more) ≡ true
still_none gots more q old none = go (body_at q more) refl
  where
    go : (o : Option RoundBody) → body_at q more ≡ o → is_none (body_at q more) ≡ true
    go None e = ap (λ (o : Option RoundBody). is_none o) e
    go (Some body) e = let there : is_none (body_at q gots) ≡ false = ap (λ (o : Option RoundBody). is_none o) (old body e) in cc (there, none)

-- a round that one of its senders has not told is not complete
untold : (n epoch round : ℕ) (gots : GotList) (k : ℕ) → k < n → is_none (told_by epoch round gots k) ≡ true → have_told n epoch round gots ≡ false
untold n epoch round gots k low none = go (have_told n epoch round gots) refl
  where
    zero_left : (j : ℕ) → 0 + j ≡ j
    zero_left j = omega arith

    clash : (o : Option RoundBody) → is_none o ≡ true → is_some o ≡ true → ⊥
    clash None a b = cc b
    clash (Some body) a b = cc a

    go : (b : Bool) → have_told n epoch round gots ≡ b → have_told n epoch round gots ≡ false
    go false e = e
    go true e =
        let each : is_some (told_by epoch round gots (0 + k)) ≡ true = each_of_all n 0 (λ from. is_some (told_by epoch round gots from)) e k low in
        absurd (clash (told_by epoch round gots k) none (subst (λ j. is_some (told_by epoch round gots j) ≡ true) (zero_left k) each))

-- so the open round is not complete where a Got of it would be accepted
open_incomplete : (n : ℕ) (c : Catalogue) (q : Place) → is_accepted n c q ≡ true → IsOpen c q → is_complete n c ≡ false
open_incomplete n c q ok h =
    let p = parts_of n c q ok in
    let at : q ≡ record { epoch = c.epoch; round = c.round; from = q.from } = λ i. record { epoch = h.1 i; round = h.2 i; from = q.from } in
    let none : is_none (told_by c.epoch c.round c.got q.from) ≡ true = subst (λ (x : Place). is_none (body_at x c.got) ≡ true) at p.1 in
    and_right (is_running c) (have_told n c.epoch c.round c.got) (untold n c.epoch c.round c.got q.from (ltb-true q.from n p.0) none)

-- ---- the end of a round

-- it is accepted still, and not of the round behind the one that is open then
abbrev EndsWell : ℕ → Place → Catalogue → Type 0
EndsWell n q x = (is_accepted n x q ≡ true) × (q.epoch ≡ x.epoch → q.round ≡ x.round + 1 → ⊥)

searched : (n : ℕ) (c : Catalogue) (q : Place) → is_accepted n c q ≡ true → IsNext c q → EndsWell n q (search n (settled n c))
searched n c q ok h =
    let p = parts_of n c q ok in
    let none = still_none c.got (from_round c.epoch (c.round + 1) c.got) q (λ body e. kept_is_old c.epoch (c.round + 1) c.got q body e) p.1 in
    let at = h.2 in
    (accepted_by n (search n (settled n c)) q p.0 none (due_open (search n (settled n c)) q (h.0, h.1, h.2)), λ e r. (let later : q.round ≡ c.round + 1 + 1 = r in omega (arith, at, later)))

of_next_run : (n : ℕ) (c : Catalogue) (q : Place) → is_accepted n c q ≡ true → IsFirst c q → EndsWell n q (end_round n c)
of_next_run n c q ok h = go (is_last n c)
  where
    p : (nat_lt q.from n ≡ true) × (is_none (body_at q c.got) ≡ true) × (is_due c q.epoch q.round ≡ true)
    p = parts_of n c q ok

    none : is_none (body_at q (from_round c.epoch (c.round + 1) c.got)) ≡ true
    none = still_none c.got (from_round c.epoch (c.round + 1) c.got) q (λ body e. kept_is_old c.epoch (c.round + 1) c.got q body e) p.1

    never : q.epoch ≡ c.epoch → ⊥
    never e = let up = h.0 in omega (arith, e, up)

    go : (b : Bool) → (is_accepted n (cond b (sweep (settled n c)) (search n (settled n c))) q ≡ true)
        × (q.epoch ≡ (cond b (sweep (settled n c)) (search n (settled n c))).epoch → q.round ≡ (cond b (sweep (settled n c)) (search n (settled n c))).round + 1 → ⊥)
    go true = (accepted_by n (sweep (settled n c)) q p.0 none (due_first (sweep (settled n c)) q h), λ e r. never e)
    go false = (accepted_by n (search n (settled n c)) q p.0 none (due_first (search n (settled n c)) q h), λ e r. never e)

ended : (n : ℕ) (c : Catalogue) (q : Place) → is_accepted n c q ≡ true → is_complete n c ≡ true → (q.epoch ≡ c.epoch → q.round ≡ c.round + 1 → is_last n c ≡ false) → EndsWell n q (end_round n c)
ended n c q ok whole goes = by (due_cases c q (parts_of n c q ok).2)
  where
    by : IsOpen c q ⊎ IsNext c q ⊎ IsFirst c q → EndsWell n q (end_round n c)
    by (inl o) = absurd (cc (sym (open_incomplete n c q ok o) ∙ whole))
    by (inr (inl o)) =
        let last = goes o.1 o.2 in
        let is : end_round n c ≡ search n (settled n c) = ap (λ b. cond b (sweep (settled n c)) (search n (settled n c))) last in
        subst (λ (x : Catalogue). EndsWell n q x) (sym is) (searched n c q ok o)
    by (inr (inr o)) = of_next_run n c q ok o

advanced_still : (n turns : ℕ) (c : Catalogue) (q : Place) → is_accepted n c q ≡ true → (is_complete n c ≡ true → q.epoch ≡ c.epoch → q.round ≡ c.round + 1 → is_last n c ≡ false) → is_accepted n (advance n turns c) q ≡ true
advanced_still n zero c q ok goes = ok
advanced_still n (suc turns) c q ok goes = go (is_complete n c) refl (advanced_still n turns (end_round n c) q)
  where
    go : (b : Bool) → is_complete n c ≡ b
        → (is_accepted n (end_round n c) q ≡ true → (is_complete n (end_round n c) ≡ true → q.epoch ≡ (end_round n c).epoch → q.round ≡ (end_round n c).round + 1 → is_last n (end_round n c) ≡ false) → is_accepted n (advance n turns (end_round n c)) q ≡ true)
        → is_accepted n (cond b (advance n turns (end_round n c)) c) q ≡ true
    go false e ih = ok
    go true e ih = let one = ended n c q ok e (goes e) in ih one.0 (λ whole epoch round. absurd (one.1 epoch round))

-- ---- an Enter

first_of : (c : Catalogue) (q : Place) → c.swept ≡ c.epoch → IsOpen c q ⊎ IsNext c q ⊎ IsFirst c q → IsFirst c q
first_of c q idle (inl o) = let run = ltb-true c.swept c.epoch o.0 in absurd (omega (arith, run, idle))
first_of c q idle (inr (inl o)) = let run = ltb-true c.swept c.epoch o.0 in absurd (omega (arith, run, idle))
first_of c q idle (inr (inr o)) = o

entered_still : (n epoch : ℕ) (c : Catalogue) (q : Place) → is_accepted n c q ≡ true → is_accepted n (enter_here n epoch c) q ≡ true
entered_still n epoch c q ok = go (may_enter c epoch) refl
  where
    go : (b : Bool) → may_enter c epoch ≡ b → is_accepted n (cond b (advanced n (enter_epoch n c)) c) q ≡ true
    go false e = ok
    go true e =
        let idle = eqb-true c.swept c.epoch (and_parts (epoch == c.epoch + 1) (c.swept == c.epoch) e).1 in
        let p = parts_of n c q ok in
        let first = first_of c q idle (due_cases c q p.2) in
        let runs : nat_lt c.swept (c.epoch + 1) ≡ true = lt-ltb c.swept (c.epoch + 1) (omega (arith, idle)) in
        let here : IsOpen (enter_epoch n c) q = (runs, first.0, first.1) in
        let none = still_none c.got (from_round (c.epoch + 1) 0 c.got) q (λ body f. kept_is_old (c.epoch + 1) 0 c.got q body f) p.1 in
        let now = accepted_by n (enter_epoch n c) q p.0 none (due_open (enter_epoch n c) q here) in
        subst (λ (x : Catalogue). is_accepted n x q ≡ true) (sym (stays_open n (enter_epoch n c) (open_incomplete n (enter_epoch n c) q now here))) now

-- ---- a Got of another place

logged_still : (n : ℕ) (place : Place) (told : RoundBody) (c : Catalogue) (q : Place) → (q ≡ place → ⊥) → is_accepted n c q ≡ true → is_accepted n (log_got place told c) q ≡ true
logged_still n place told c q apart ok =
    let p = parts_of n c q ok in
    accepted_by n (log_got place told c) q p.0 (still_none c.got (insert_entry place_cmp c.got place told) q (λ body e. old body (logged_or_old c.got place q told body e)) p.1) p.2
  where
    old : (body : RoundBody) → ((q ≡ place) × (told ≡ body)) ⊎ (body_at q c.got ≡ Some body) → body_at q c.got ≡ Some body
    old body (inl here) = absurd (apart here.0)
    old body (inr there) = there

got_still : (n : ℕ) (place : Place) (told : RoundBody) (c : Catalogue) (q : Place) → (q ≡ place → ⊥)
    → (is_complete n (log_got place told c) ≡ true → q.epoch ≡ c.epoch → q.round ≡ c.round + 1 → is_last n (log_got place told c) ≡ false) → is_accepted n c q ≡ true → is_accepted n (get_round n place told c) q ≡ true
got_still n place told c q apart goes ok = go (is_accepted n c place)
  where
    go : (b : Bool) → is_accepted n (cond b (advanced n (log_got place told c)) c) q ≡ true
    go false = ok
    go true = advanced_still n (length (log_got place told c).got + 1) (log_got place told c) q (logged_still n place told c q apart ok) goes

-- ---- any entry

-- what is asked of it, where it is a Got: it is of another place, and ends no run to which this one belongs
pub record Spares (n : ℕ) (c : Catalogue) (q : Place) (entry : Entry) : Type 0 where
  pub apart : (place : Place) (told : RoundBody) → entry ≡ got_of place told → q ≡ place → ⊥
  pub goes : (place : Place) (told : RoundBody) → entry ≡ got_of place told → is_complete n (log_got place told c) ≡ true → q.epoch ≡ c.epoch → q.round ≡ c.round + 1 → is_last n (log_got place told c) ≡ false

same_still : (n : ℕ) (c d : Catalogue) (q : Place) → (d.epoch ≡ c.epoch) × (d.swept ≡ c.swept) × (d.round ≡ c.round) × (d.got ≡ c.got) → is_accepted n c q ≡ true → is_accepted n d q ≡ true
same_still n c d q s ok =
    ap (λ x. is_accepted n (record d { epoch = x }) q) s.0
    ∙ ap (λ x. is_accepted n (record d { epoch = c.epoch; swept = x }) q) s.1
    ∙ ap (λ x. is_accepted n (record d { epoch = c.epoch; swept = c.swept; round = x }) q) s.2
    ∙ ap (λ x. is_accepted n (record d { epoch = c.epoch; swept = c.swept; round = c.round; got = x }) q) s.3
    ∙ ok

pub entry_still : (at : Shard) (c : Catalogue) (q : Place) (number : ℕ) (entry : Entry) → Spares at.shards c q entry → is_accepted at.shards c q ≡ true → is_accepted at.shards (apply at c (number, entry)) q ≡ true
entry_still at c q number (kind.View view) s ok = ok
entry_still at c q number (kind.Block op least bytes) s ok = same_still at.shards c (apply at c (number, kind.Block op least bytes)) q (client_still at c number (kind.Block op least bytes) tt) ok
entry_still at c q number (kind.Mark op least block a) s ok = same_still at.shards c (apply at c (number, kind.Mark op least block a)) q (client_still at c number (kind.Mark op least block a) tt) ok
entry_still at c q number (kind.Root op held a key) s ok = same_still at.shards c (apply at c (number, kind.Root op held a key)) q (client_still at c number (kind.Root op held a key) tt) ok
entry_still at c q number (kind.Drop op key) s ok = same_still at.shards c (apply at c (number, kind.Drop op key)) q (client_still at c number (kind.Drop op key) tt) ok
entry_still at c q number (kind.Enter op epoch) s ok = entered_still at.shards epoch c q ok
entry_still at c q number (kind.Got from epoch round total deltas) s ok =
    let place : Place = record { epoch = epoch; round = round; from = from } in
    let told : RoundBody = record { total = total; deltas = deltas } in
    got_still at.shards place told c q (s.apart place told refl) (s.goes place told refl) ok
entry_still at c q number (kind.Base view epoch swept round frames) s ok = ok
entry_still at c q number (kind.KeptBlock born mark flags count bytes) s ok = ok
entry_still at c q number (kind.KeptRoot created dropped counted address key) s ok = ok
entry_still at c q number (kind.KeptRound way other epoch round total deltas) s ok = ok
