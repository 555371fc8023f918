-- The lists of a sane store.
use Rattle.std.proofs.Common.{◌≡◌, inl, inr, ℕ, ◌+◌, ◌<◌, ◌≤◌, Bool, true, false, not, ◌&&◌, List, [], ◌∷◌, ◌++◌, length, drop, refl, sym, ap, ◌∙◌, subst, arith}
use Rattle.std.proofs.Math.Seq.{drop-append_seam}
use Rattle.std.proofs.lemmas.Bool.{cases_lt}
use Rattle.std.proofs.lemmas.List.Elements.{All-head, All-tail}
use Rattle.std.proofs.lemmas.List.FromFn.{length-enumerate_from}
use Rattle.std.specs.List.{All, enumerate_from}
use Rattle.hs_core_words.specs.declared.event.Event.{Event}
use Rattle.hs_core_words.specs.Looking.{front_of, group_of, status_of}
use Rattle.hs_entry.specs.declared.entry.Entry.{Entry}
use Rattle.hs_entry.specs.Entries.{is_of_base}
use Rattle.hs_events.specs.Alone.{IsCounted}
use Rattle.hs_events.specs.Sane.{IsSane}
use Rattle.hs_events.specs.Whole.{Whole, floor, reach, step_whole}
use Rattle.hs_fold.specs.Prefix.{GoOn, IsNumbered}
use Rattle.hs_fold.specs.Shards.Setting.{Numbered}
use Rattle.hs_members.specs.Members.{is_good_status}
use Rattle.hs_moments.proofs.AloneEventLemmas.{status_past}
use Rattle.hs_moments.proofs.MoveLemmas.{enumerate_append}
use Rattle.hs_moments.proofs.WorkLemmas.{floor_alone, floor_within, reach_sane}
use Rattle.hs_moments.specs.WholeMachine.{whole_machine}
use Rattle.hs_replica.specs.Group.{Group}
use Rattle.hs_standing.specs.Lists.{waiting}
use Rattle.hs_standing.specs.Stands.{GoodPeersCount, lists_of}

-- ---- good peers

good_within : (c : Whole) (p : ℕ) → IsSane c → is_good_status (status_of p c.core) ≡ true → p < c.core.members.shape.shards
good_within c p h good = elim (cases_lt p c.core.members.shape.shards) [
  | inl low ↦ low
  | inr high ↦ (let bad : false ≡ true = sym (ap is_good_status (status_past c.core p h.alone high)) ∙ good in cc)
]

pub good_counts : (c : Whole) → IsSane c → GoodPeersCount whole_machine c
good_counts c h p good = ap (λ b. not b) (h.counted p (good_within c p h good))

-- behind an event, whatever it was
pub good_counts_after : (c : Whole) (e : Event) (at : ℕ) → GoodPeersCount whole_machine (step_whole e at c)
good_counts_after c e at p good = ap (λ g. not (c.aside p && not g)) good ∙ none (c.aside p)
  where
    none : (b : Bool) → not (b && false) ≡ true
    none true = refl
    none false = refl

pub front_sealed : (c : Whole) (p : ℕ) → IsSane c → is_good_status (status_of p c.core) ≡ true → front_of p c.core ≤ floor c p
front_sealed c p h good =
    let low = good_within c p h good in
    let floor_is : floor c p ≡ (group_of p c.core).front = floor_alone c p h.alone low ∙ (h.settled p low).settled in
    omega (arith, floor_is)

-- ---- lists

goes_counted : (n : ℕ) (es : List Entry) → All (λ e. is_of_base e ≡ false) es → GoOn n (enumerate_from (n + 1) es)
goes_counted n [] plain = tt
goes_counted n (x ∷ es) plain = (refl, All-head (λ e. is_of_base e ≡ false) x es plain, goes_counted (n + 1) es (All-tail (λ e. is_of_base e ≡ false) x es plain))

pub reach_numbered : (c : Whole) (p : ℕ) → IsSane c → p < c.core.members.shape.shards → IsNumbered (reach c p)
reach_numbered c p h low =
    let l : IsCounted (c.lists p) (group_of p c.core) = h.lists p low in
    subst (λ es. IsNumbered es) (sym (reach_sane c p h ∙ l.counted)) (goes_counted 0 (l.taken ++ (group_of p c.core).waiting) l.plain)

pub front_within : (c : Whole) (p : ℕ) → IsSane c → p < c.core.members.shape.shards → front_of p c.core ≤ length (reach c p)
front_within c p h low =
    let floor_is : floor c p ≡ (group_of p c.core).front = floor_alone c p h.alone low ∙ (h.settled p low).settled in
    let within = floor_within c p h low in
    omega (arith, floor_is, within)

pub waits_in_core : (c : Whole) (p : ℕ) → IsSane c → p < c.core.members.shape.shards → waiting (lists_of whole_machine c) p ≡ enumerate_from (front_of p c.core + 1) (group_of p c.core).waiting
waits_in_core c p h low =
    let g : Group = group_of p c.core in
    let l : IsCounted (c.lists p) g = h.lists p low in
    let front : Numbered = enumerate_from 1 l.taken in
    let long : length front ≡ g.front = length-enumerate_from 1 l.taken ∙ l.handed in
    let begins : 1 + length l.taken ≡ g.front + 1 = (let handed = l.handed in omega (arith, handed)) in
    ap (λ es. drop g.front es) (reach_sane c p h ∙ l.counted ∙ enumerate_append 1 l.taken g.waiting ∙ ap (λ n. front ++ enumerate_from n g.waiting) begins)
    ∙ ap (λ n. drop n (front ++ enumerate_from (g.front + 1) g.waiting)) (sym long)
    ∙ drop-append_seam front (enumerate_from (g.front + 1) g.waiting)
