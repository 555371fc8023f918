-- The copies of a group: who is good, what is sealed and known, and who leads, as single copies change.
use Rattle.std.proofs.Common.{◌≡◌, ◌≢◌, ◌⊎◌, ◌∙◌, ap, sym, subst, refl, inl, inr, arith, tests, ℕ, zero, suc, ◌+◌, ◌-◌, ◌<◌, ◌≤◌, ◌==◌, ◌&&◌, not, nat_le, Bool, true, false, if◌then◌else◌, List, [], ◌∷◌, Option, Some, None, length, length-append, map, max, eqb-true, flat_map}
use Rattle.std.proofs.lemmas.Bool.{cases_eq, cases_lt}
use Rattle.std.proofs.lemmas.List.{get_or-set_other, get_or-set_same}
use Rattle.std.proofs.lemmas.List.Elements.{All-append, All-cons, All-head, All-map, All-nil, All-tail, All-weaker}
use Rattle.std.specs.List.{All}
use Rattle.std.specs.Option.{option_map, option_to_list}
use Rattle.std.specs.Prelude.{slice_index_or, slice_set}
use Rattle.hs_copies.proofs.StandLemmas.{and_left, and_right}
use Rattle.hs_core_copies.proofs.LeadLemmas.{good_only}
use Rattle.hs_core_copies.proofs.PlaceLemmas.{committed_copies, committed_kept, group_here, group_other, group_past}
use Rattle.hs_core_words.specs.Changing.{change_group}
use Rattle.hs_core_words.specs.Looking.{group_of}
use Rattle.hs_core_words.specs.State.{Core}
use Rattle.hs_core_copies.proofs.ReportLemmas.{same_number}
use Rattle.hs_entry.specs.declared.entry.Entry.{Entry}
use Rattle.hs_limits.specs.declared.limits.PeerStatus.TheVariants.{Good}
use Rattle.hs_limits.specs.Shape.{peer_of}
use Rattle.hs_members.specs.Members.{Members, is_good_status, longer, longest, status}
use Rattle.hs_post.specs.declared.message.Message.{Message}
use Rattle.hs_post.specs.declared.message.Message.TheVariants as message
use Rattle.hs_replica.specs.declared.replica.Replica.{Replica}
use Rattle.hs_replica.specs.Group.{Group, change_copy, copies_above, copy_of, entries_above, first_peer, good_from, have, hears, is_peer, last_number, lead, lead_takes, no_copy, on_have, on_sealed, others, others_from, proposal, propose, renew, renewal, resend, stamp, take_committed, take_entry, tell, tell_from}
use Rattle.hs_quiet.specs.Keeping.{IsForGood, IsLeadKnown}

-- the copy at a place
abbrev pub copy_at : ℕ → Group → Replica
copy_at i x = slice_index_or x.copies i no_copy

-- ---- the best of some

-- another best is this peer's, or the same as before, and no shorter
abbrev Rises : ℕ → Option (ℕ × ℕ) → Option (ℕ × ℕ) → Type 0
Rises p None None = Unit {0}
Rises p None (Some b) = b.0 ≡ p
Rises p (Some a) None = ⊥
Rises p (Some a) (Some b) = ((b.0 ≡ p) ⊎ (b ≡ a)) × (a.1 ≤ b.1)

rises_same : (p : ℕ) (o : Option (ℕ × ℕ)) → Rises p o o
rises_same p None = tt
rises_same p (Some a) = (inr refl, omega arith)

le_cases : (a b : ℕ) → ((a ≤ b) × (nat_le a b ≡ true)) ⊎ ((b < a) × (nat_le a b ≡ false))
le_cases a b = go (nat_le a b) refl
  where
    go : (t : Bool) → nat_le a b ≡ t → ((a ≤ b) × (nat_le a b ≡ true)) ⊎ ((b < a) × (nat_le a b ≡ false))
    go true e = inl (grind (arith, tests, e), e)
    go false e = inr (grind (arith, tests, e), e)

longer_first : (x y : ℕ × ℕ) → y.1 ≤ x.1 → longer x (Some y) ≡ x
longer_first x y h = elim (le_cases y.1 x.1) [
  | inl c ↦ rw c.1 refl
  | inr c ↦ absurd (omega (arith, h, c.0))
]

longer_other : (x y : ℕ × ℕ) → x.1 < y.1 → longer x (Some y) ≡ y
longer_other x y h = elim (le_cases y.1 x.1) [
  | inl c ↦ absurd (omega (arith, h, c.0))
  | inr c ↦ rw c.1 refl
]

-- in front of the others
rises_behind : (p : ℕ) (x : ℕ × ℕ) (a b : Option (ℕ × ℕ)) → Rises p a b → Rises p (Some (longer x a)) (Some (longer x b))
rises_behind p x None None h = (inr refl, omega arith)
rises_behind p x None (Some b) h = elim (le_cases b.1 x.1) [
  | inl c ↦ rw (longer_first x b c.0) (inr refl, omega arith)
  | inr c ↦ rw (longer_other x b c.0) (inl h, let n = c.0 in omega (arith, n))
]
rises_behind p x (Some a) None h = absurd h
rises_behind p x (Some a) (Some b) h = elim (le_cases b.1 x.1) [
  | inl c ↦
      let low : a.1 ≤ x.1 = omega (arith, h.1, c.0) in
      rw (longer_first x b c.0, longer_first x a low) (inr refl, omega arith)
  | inr c ↦ rw (longer_other x b c.0) (elim h.0 [
    | inl is ↦ (
      inl is,
      elim (le_cases a.1 x.1) [
        | inl d ↦ rw (longer_first x a d.0) (let n = c.0 in omega (arith, n))
        | inr d ↦ rw (longer_other x a d.0) h.1
      ],
    )
    | inr same ↦
        let low : x.1 < a.1 = (let e : b.1 ≡ a.1 = ap (λ (y : ℕ × ℕ). y.1) same in omega (arith, c.0, e)) in
        rw (longer_other x a low) (inr same, h.1)
  ])
]

-- where the first is this peer, with a longer list
rises_first : (p : ℕ) (x y : ℕ × ℕ) (o : Option (ℕ × ℕ)) → y.0 ≡ p → x.1 ≤ y.1 → Rises p (Some (longer x o)) (Some (longer y o))
rises_first p x y None e h = (inl e, h)
rises_first p x y (Some b) e h = elim (le_cases b.1 y.1) [
  | inl c ↦ rw (longer_first y b c.0) (
    inl e,
    elim (le_cases b.1 x.1) [
      | inl d ↦ rw (longer_first x b d.0) h
      | inr d ↦ rw (longer_other x b d.0) c.0
    ],
  )
  | inr c ↦
      let low : x.1 < b.1 = omega (arith, h, c.0) in
      rw (longer_other y b c.0, longer_other x b low) (inr refl, omega arith)
]

-- one copy of some is another: as good, and no shorter
rises_from : (n i : ℕ) (cs : List Replica) (r : Replica) → r.good ≡ (slice_index_or cs i no_copy).good → length (slice_index_or cs i no_copy).stamps ≤ length r.stamps
    → Rises (n + i) (longest (good_from n cs)) (longest (good_from n (slice_set cs i r)))
rises_from n i [] r e h = tt
rises_from n zero (c ∷ cs) r e h = go c.good refl
  where
    go : (b : Bool) → c.good ≡ b → Rises (n + 0) (longest (good_from n (c ∷ cs))) (longest (good_from n (r ∷ cs)))
    go true f =
        let g : r.good ≡ true = e ∙ f in
        rw (f, g) (rises_first (n + 0) (n, length c.stamps) (n, length r.stamps) (longest (good_from (n + 1) cs)) (omega arith) h)
    go false f =
        let g : r.good ≡ false = e ∙ f in
        rw (f, g) (rises_same (n + 0) (longest (good_from (n + 1) cs)))
rises_from n (suc i) (c ∷ cs) r e h =
    go c.good refl (subst (λ k. Rises k (longest (good_from (n + 1) cs)) (longest (good_from (n + 1) (slice_set cs i r)))) (let s : n + 1 + i ≡ n + suc i = omega arith in s) (rises_from (n + 1) i cs r e h))
  where
    go : (b : Bool) → c.good ≡ b → Rises (n + suc i) (longest (good_from (n + 1) cs)) (longest (good_from (n + 1) (slice_set cs i r)))
        → Rises (n + suc i) (longest (good_from n (c ∷ cs))) (longest (good_from n (c ∷ slice_set cs i r)))
    go true f k = rw f (rises_behind (n + suc i) (n, length c.stamps) (longest (good_from (n + 1) cs)) (longest (good_from (n + 1) (slice_set cs i r))) k)
    go false f k = rw f k

-- ---- who leads

-- a copy with another in its place, which is as good
as_long : (n i : ℕ) (cs : List Replica) (r : Replica) → r.good ≡ (slice_index_or cs i no_copy).good → (r.good ≡ true → length r.stamps ≡ length (slice_index_or cs i no_copy).stamps)
    → good_from n (slice_set cs i r) ≡ good_from n cs
as_long n i [] r e h = refl
as_long n zero (c ∷ cs) r e h = go c.good refl
  where
    go : (b : Bool) → c.good ≡ b → good_from n (r ∷ cs) ≡ good_from n (c ∷ cs)
    go true f =
        let g : r.good ≡ true = e ∙ f in
        rw (f, g) (ap (λ k. (n, k) ∷ good_from (n + 1) cs) (h g))
    go false f = let g : r.good ≡ false = e ∙ f in rw (f, g) refl
as_long n (suc i) (c ∷ cs) r e h = go c.good refl (as_long (n + 1) i cs r e h)
  where
    go : (b : Bool) → c.good ≡ b → good_from (n + 1) (slice_set cs i r) ≡ good_from (n + 1) cs → good_from n (c ∷ slice_set cs i r) ≡ good_from n (c ∷ cs)
    go true f k = rw (f, k) refl
    go false f k = rw (f, k) refl

-- what leads is good, and at its place
pub record IsPlaced (n : ℕ) (cs : List Replica) (l : ℕ) : Type 0 where
  pub place : ℕ
  pub number : l ≡ n + place
  pub good : (slice_index_or cs place no_copy).good ≡ true

best_placed : (n : ℕ) (cs : List Replica) (b : ℕ × ℕ) → longest (good_from n cs) ≡ Some b → IsPlaced n cs b.0
best_placed n [] b e = let wrong : None ≡ Some b = e in absurd (cc wrong)
best_placed n (c ∷ cs) b e = go (λ f. best_placed (n + 1) cs b f) c.good refl (longest (good_from (n + 1) cs)) refl
  where
    first : c.good ≡ true → (n, length c.stamps) ≡ b → IsPlaced n (c ∷ cs) b.0
    first f i = record { place = 0; number = (let k : n ≡ b.0 = ap (λ (y : ℕ × ℕ). y.0) i in omega (arith, k)); good = f }

    behind : IsPlaced (n + 1) cs b.0 → IsPlaced n (c ∷ cs) b.0
    behind k = record { place = suc k.place; number = omega (arith, k.number); good = k.good }

    go : (longest (good_from (n + 1) cs) ≡ Some b → IsPlaced (n + 1) cs b.0) → (t : Bool) → c.good ≡ t → (o : Option (ℕ × ℕ)) → longest (good_from (n + 1) cs) ≡ o → IsPlaced n (c ∷ cs) b.0
    go again true f None g = first f (let k : Some (n, length c.stamps) ≡ Some b = rw (f, g) at e in cc k)
    go again true f (Some y) g = elim (le_cases y.1 (length c.stamps)) [
      | inl d ↦ first f (let k : Some (n, length c.stamps) ≡ Some b = sym (ap (λ z. Some z) (longer_first (n, length c.stamps) y d.0)) ∙ (rw (f, g) at e) in cc k)
      | inr d ↦ behind (again (g ∙ sym (ap (λ z. Some z) (longer_other (n, length c.stamps) y d.0)) ∙ (rw (f, g) at e)))
    ]
    go again false f o g = behind (again (rw f at e))

first_of : (o : Option (ℕ × ℕ)) (l : ℕ) → option_map (λ (x : ℕ × ℕ). x.0) o ≡ Some l → (b : ℕ × ℕ) × (o ≡ Some b) × (b.0 ≡ l)
first_of None l e = let wrong : None ≡ Some l = e in absurd (cc wrong)
first_of (Some b) l e = (b, refl, let k : Some b.0 ≡ Some l = e in cc k)

pub lead_placed : (x : Group) (l : ℕ) → lead x ≡ Some l → IsPlaced (first_peer x) x.copies l
lead_placed x l e =
    let f = first_of (longest (good_from (first_peer x) x.copies)) l e in
    subst (λ k. IsPlaced (first_peer x) x.copies k) f.2 (best_placed (first_peer x) x.copies f.0 f.1)

-- the copy of one that leads
pub lead_copy : (x : Group) (l : ℕ) (e : lead x ≡ Some l) → copy_of x l ≡ copy_at (lead_placed x l e).place x
lead_copy x l e = let k = lead_placed x l e in ap (λ i. copy_at i x) (let n : l - first_peer x ≡ k.place = omega (arith, k.number) in n)

-- behind a change of one copy, which is as good and no shorter, that one leads, or who led before
pub lead_rises : (x : Group) (p : ℕ) (f : Replica → Replica) → (f (copy_of x p)).good ≡ (copy_of x p).good → length (copy_of x p).stamps ≤ length (f (copy_of x p)).stamps
    → (l : ℕ) → lead (change_copy p f x) ≡ Some l → (l ≡ first_peer x + (p - first_peer x)) ⊎ (lead x ≡ Some l)
lead_rises x p f good long l e =
    go (longest (good_from (first_peer x) x.copies)) refl (longest (good_from (first_peer x) (slice_set x.copies (p - first_peer x) (f (copy_of x p))))) refl (rises_from (first_peer x) (p - first_peer x) x.copies (f (copy_of x p)) good long)
  where
    q : ℕ
    q = first_peer x + (p - first_peer x)

    is : (o : Option (ℕ × ℕ)) → longest (good_from (first_peer x) (slice_set x.copies (p - first_peer x) (f (copy_of x p)))) ≡ o → option_map (λ (y : ℕ × ℕ). y.0) o ≡ Some l
    is o g = sym (ap (option_map (λ (y : ℕ × ℕ). y.0)) g) ∙ e

    go : (a : Option (ℕ × ℕ)) → longest (good_from (first_peer x) x.copies) ≡ a → (b : Option (ℕ × ℕ)) → longest (good_from (first_peer x) (slice_set x.copies (p - first_peer x) (f (copy_of x p)))) ≡ b
        → Rises (first_peer x + (p - first_peer x)) a b → (l ≡ first_peer x + (p - first_peer x)) ⊎ (lead x ≡ Some l)
    go a fa None fb h = let wrong : None ≡ Some l = is None fb in absurd (cc wrong)
    go None fa (Some b) fb h = let k : Some b.0 ≡ Some l = is (Some b) fb in let j : b.0 ≡ l = cc k in inl (sym j ∙ h)
    go (Some a) fa (Some b) fb h =
        let k : Some b.0 ≡ Some l = is (Some b) fb in
        let j : b.0 ≡ l = cc k in
        elim h.0 [
          | inl at ↦ inl (sym j ∙ at)
          | inr same ↦ inr (ap (option_map (λ (y : ℕ × ℕ). y.0)) fa ∙ ap (λ k. Some k) (ap (λ (y : ℕ × ℕ). y.0) (sym same) ∙ j))
        ]

-- and where it is as long who led before
pub lead_stays : (x : Group) (p : ℕ) (f : Replica → Replica) → (f (copy_of x p)).good ≡ (copy_of x p).good → ((f (copy_of x p)).good ≡ true → length (f (copy_of x p)).stamps ≡ length (copy_of x p).stamps)
    → lead (change_copy p f x) ≡ lead x
lead_stays x p f good long = ap (λ xs. option_map (λ (y : ℕ × ℕ). y.0) (longest xs)) (as_long (first_peer x) (p - first_peer x) x.copies (f (copy_of x p)) good long)

-- ---- one copy changes

none_past : (cs : List Replica) (j : ℕ) (r : Replica) → length cs ≤ j → slice_index_or (slice_set cs j r) j no_copy ≡ no_copy
none_past [] j r h = refl
none_past (c ∷ cs) zero r h = absurd (omega (arith, h))
none_past (c ∷ cs) (suc j) r h = none_past cs j r (omega (arith, h))

pub past : (cs : List Replica) (j : ℕ) → length cs ≤ j → slice_index_or cs j no_copy ≡ no_copy
past [] j h = refl
past (c ∷ cs) zero h = absurd (omega (arith, h))
past (c ∷ cs) (suc j) h = past cs j (omega (arith, h))

-- a copy is as it was, and if it is good it is not the changed one; or it is that
pub changed_at : (x : Group) (p : ℕ) (f : Replica → Replica) (i : ℕ)
    → ((copy_at i (change_copy p f x) ≡ copy_at i x) × ((copy_at i x).good ≡ true → i ≢ p - first_peer x)) ⊎ ((i ≡ p - first_peer x) × (copy_at i (change_copy p f x) ≡ f (copy_of x p)))
changed_at x p f i = elim (cases_eq i (p - first_peer x)) [
  | inl e ↦ elim (cases_lt (p - first_peer x) (length x.copies)) [
    | inl low ↦ inr (e, ap (λ k. copy_at k (change_copy p f x)) e ∙ get_or-set_same x.copies (p - first_peer x) (f (copy_of x p)) no_copy low)
    | inr high ↦
        let was : copy_at i x ≡ no_copy = ap (λ k. copy_at k x) e ∙ past x.copies (p - first_peer x) high in
        inl (
          ap (λ k. copy_at k (change_copy p f x)) e ∙ none_past x.copies (p - first_peer x) (f (copy_of x p)) high ∙ sym was,
          λ g. let wrong : false ≡ true = sym (ap (λ (r : Replica). r.good) was) ∙ g in absurd (cc wrong),
        )
  ]
  | inr n ↦ inl (get_or-set_other x.copies (p - first_peer x) i (f (copy_of x p)) no_copy n, λ g. n)
]

-- ---- groups that fit

-- who counts as good is good; what a good copy is known to have sealed it has sealed, and what it has sealed is in its list; and the lead is known
pub record IsFit (m : Members) (x : Group) : Type 0 where
  pub good : (i : ℕ) → (copy_at i x).good ≡ true → status (first_peer x + i) m ≡ Good
  pub held : (i : ℕ) → (copy_at i x).good ≡ true → (copy_at i x).sealed ≤ length (copy_at i x).stamps
  pub known : (i : ℕ) → (copy_at i x).good ≡ true → (copy_at i x).known ≤ (copy_at i x).sealed
  pub leads : IsLeadKnown x

-- with the copies of another group the same is so
pub fit_same : (m : Members) (x y : Group) → y.copies ≡ x.copies → first_peer y ≡ first_peer x → IsFit m x → IsFit m y
fit_same m x y copies first f = record {
  good = λ i g. subst (λ k. status (k + i) m ≡ Good) (sym first) (f.good i (sym (same i (λ (r : Replica). r.good)) ∙ g));
  held = λ i g. subst (λ (r : Replica). r.sealed ≤ length r.stamps) (sym (at i)) (f.held i (sym (same i (λ (r : Replica). r.good)) ∙ g));
  known = λ i g. subst (λ (r : Replica). r.known ≤ r.sealed) (sym (at i)) (f.known i (sym (same i (λ (r : Replica). r.good)) ∙ g));
  leads = λ l e. subst (λ (r : Replica). (r.known ≡ r.sealed) ⊎ (r.sealed < length r.stamps)) (sym (own l)) (f.leads l (sym led ∙ e));
}
  where
    at : (i : ℕ) → copy_at i y ≡ copy_at i x
    at i = ap (λ cs. slice_index_or cs i no_copy) copies

    same : {A : Type 0} (i : ℕ) (g : Replica → A) → g (copy_at i y) ≡ g (copy_at i x)
    same i g = ap g (at i)

    own : (l : ℕ) → copy_of y l ≡ copy_of x l
    own l = ap (λ k. copy_at (l - k) y) first ∙ at (l - first_peer x)

    led : lead y ≡ lead x
    led = ap (λ k. option_map (λ (z : ℕ × ℕ). z.0) (longest (good_from k y.copies))) first ∙ ap (λ cs. option_map (λ (z : ℕ × ℕ). z.0) (longest (good_from (first_peer x) cs))) copies

-- what a copy becomes that may be another
pub record MayChange (old new : Replica) : Type 0 where
  pub good : new.good ≡ old.good
  pub held : new.good ≡ true → new.sealed ≤ length new.stamps
  pub known : new.good ≡ true → new.known ≤ new.sealed

-- one copy changes, and whoever leads then is known
pub fit_changed : (m : Members) (x : Group) (p : ℕ) (f : Replica → Replica) → MayChange (copy_of x p) (f (copy_of x p)) → IsLeadKnown (change_copy p f x) → IsFit m x → IsFit m (change_copy p f x)
fit_changed m x p f may leads fit = record {
  good = λ i g. elim (changed_at x p f i) [
    | inl same ↦ fit.good i (sym (ap (λ (r : Replica). r.good) same.0) ∙ g)
    | inr is ↦ fit.good i (ap (λ k. (copy_at k x).good) is.0 ∙ sym may.good ∙ sym (ap (λ (r : Replica). r.good) is.1) ∙ g)
  ];
  held = λ i g. elim (changed_at x p f i) [
    | inl same ↦ subst (λ (r : Replica). r.sealed ≤ length r.stamps) (sym same.0) (fit.held i (sym (ap (λ (r : Replica). r.good) same.0) ∙ g))
    | inr is ↦ subst (λ (r : Replica). r.sealed ≤ length r.stamps) (sym is.1) (may.held (sym (ap (λ (r : Replica). r.good) is.1) ∙ g))
  ];
  known = λ i g. elim (changed_at x p f i) [
    | inl same ↦ subst (λ (r : Replica). r.known ≤ r.sealed) (sym same.0) (fit.known i (sym (ap (λ (r : Replica). r.good) same.0) ∙ g))
    | inr is ↦ subst (λ (r : Replica). r.known ≤ r.sealed) (sym is.1) (may.known (sym (ap (λ (r : Replica). r.good) is.1) ∙ g))
  ];
  leads = leads;
}

-- where the changed copy is as long, and is known where it was, the lead is known
pub leads_same : (x : Group) (p : ℕ) (f : Replica → Replica) → (f (copy_of x p)).good ≡ (copy_of x p).good → ((f (copy_of x p)).good ≡ true → length (f (copy_of x p)).stamps ≡ length (copy_of x p).stamps)
    → (lead x ≡ Some (first_peer x + (p - first_peer x)) → ((copy_of x p).known ≡ (copy_of x p).sealed) ⊎ ((copy_of x p).sealed < length (copy_of x p).stamps)
    → ((f (copy_of x p)).known ≡ (f (copy_of x p)).sealed) ⊎ ((f (copy_of x p)).sealed < length (f (copy_of x p)).stamps)) → IsLeadKnown x → IsLeadKnown (change_copy p f x)
leads_same x p f good long turn h l e =
    let was : lead x ≡ Some l = sym (lead_stays x p f good long) ∙ e in
    let k = lead_placed x l was in
    let before = h l was in
    let at : l - first_peer x ≡ k.place = omega (arith, k.number) in
    elim (changed_at x p f (l - first_peer x)) [
      | inl same ↦ subst (λ (r : Replica). (r.known ≡ r.sealed) ⊎ (r.sealed < length r.stamps)) (sym same.0) before
      | inr is ↦
          let own : l ≡ first_peer x + (p - first_peer x) = omega (arith, k.number, at, is.0) in
          subst (λ (r : Replica). (r.known ≡ r.sealed) ⊎ (r.sealed < length r.stamps)) (sym is.1)
          (turn (was ∙ ap (λ n. Some n) own) (subst (λ i. ((copy_at i x).known ≡ (copy_at i x).sealed) ⊎ ((copy_at i x).sealed < length (copy_at i x).stamps)) is.0 before))
    ]

-- where it has an entry more that it has not sealed, whoever leads is known
pub leads_longer : (x : Group) (p : ℕ) (f : Replica → Replica) → (f (copy_of x p)).good ≡ (copy_of x p).good → length (copy_of x p).stamps ≤ length (f (copy_of x p)).stamps
    → ((f (copy_of x p)).good ≡ true → (f (copy_of x p)).sealed < length (f (copy_of x p)).stamps) → IsLeadKnown x → IsLeadKnown (change_copy p f x)
leads_longer x p f good long more h l e =
    let k = lead_placed (change_copy p f x) l e in
    let at : l - first_peer x ≡ k.place = omega (arith, k.number) in
    elim (changed_at x p f (l - first_peer x)) [
      | inr is ↦
          let t : (f (copy_of x p)).good ≡ true = sym (ap (λ (r : Replica). r.good) is.1) ∙ ap (λ i. (copy_at i (change_copy p f x)).good) at ∙ k.good in
          subst (λ (r : Replica). (r.known ≡ r.sealed) ⊎ (r.sealed < length r.stamps)) (sym is.1) (inr (more t))
      | inl same ↦ subst (λ (r : Replica). (r.known ≡ r.sealed) ⊎ (r.sealed < length r.stamps)) (sym same.0) (elim (lead_rises x p f good long l e) [
        | inr was ↦ h l was
        | inl own ↦
            let i : l - first_peer x ≡ p - first_peer x = omega (arith, own) in
            let t : (copy_at (l - first_peer x) x).good ≡ true = sym (ap (λ (r : Replica). r.good) same.0) ∙ ap (λ j. (copy_at j (change_copy p f x)).good) at ∙ k.good in
            absurd (same.1 t i)
      ])
    ]

-- ---- what the calls on a group leave

-- a copy with an entry more
pub fit_takes : (m : Members) (entry : Entry) (p : ℕ) (x : Group) → ((copy_of x p).good ≡ true → (copy_of x p).sealed ≤ length (copy_of x p).stamps) → ((copy_of x p).good ≡ true → (copy_of x p).known ≤ (copy_of x p).sealed)
    → IsFit m x → IsFit m (take_entry p entry x)
fit_takes m entry p x held known fit =
    let r : Replica = copy_of x p in
    let one : length (stamp entry r.stamps) ≡ length r.stamps + 1 = length-append r.stamps _ in
    fit_changed m x p (λ c. record c { stamps = stamp entry c.stamps })
    (record { good = refl; held = λ g. (let n = held g in omega (arith, one, n)); known = known })
    (leads_longer x p (λ c. record c { stamps = stamp entry c.stamps }) refl (omega (arith, one)) (λ g. let n = held g in omega (arith, one, n)) fit.leads) fit

-- an entry is proposed
pub fit_proposes : (m : Members) (entry : Entry) (x : Group) → IsFit m x → IsFit m (propose entry x)
fit_proposes m entry x fit = fit_same m (lead_takes (lead x) entry x) (propose entry x) refl refl (go (lead x) refl)
  where
    go : (o : Option ℕ) → lead x ≡ o → IsFit m (lead_takes o entry x)
    go None e = fit
    go (Some l) e =
        let k = lead_placed x l e in
        let at : copy_of x l ≡ copy_at k.place x = lead_copy x l e in
        fit_takes m entry l x (λ g. subst (λ (r : Replica). r.sealed ≤ length r.stamps) (sym at) (fit.held k.place k.good)) (λ g. subst (λ (r : Replica). r.known ≤ r.sealed) (sym at) (fit.known k.place k.good)) fit

-- a peer has sealed so many, no fewer than it is known to have, and no more than it has
pub fit_sealed : (m : Members) (p n : ℕ) (x : Group) → first_peer x ≤ p → (copy_of x p).known ≤ n → n ≤ length (copy_of x p).stamps → IsFit m x → IsFit m (on_sealed p n x)
fit_sealed m p n x low known high fit =
    fit_changed m x p f
    (record { good = refl; held = λ g. high; known = λ g. less (is_peer p (lead x)) })
    (leads_same x p f refl (λ g. refl) (λ e was. inl (own e)) fit.leads) fit
  where
    f : Replica → Replica
    f = λ c. record c { sealed = n; known = if is_peer p (lead x) then max c.known n else c.known }

    less : (b : Bool) → (if b then max (copy_of x p).known n else (copy_of x p).known) ≤ n
    less true = omega (arith, known)
    less false = known

    own : lead x ≡ Some (first_peer x + (p - first_peer x)) → (if is_peer p (lead x) then max (copy_of x p).known n else (copy_of x p).known) ≡ n
    own e =
        let at : first_peer x + (p - first_peer x) ≡ p = omega (arith, low) in
        let is : is_peer p (lead x) ≡ true = ap (is_peer p) e ∙ ap (λ k. k == p) at ∙ same_number p in
        ap (λ b. if b then max (copy_of x p).known n else (copy_of x p).known) is ∙ omega (arith, known)

-- a Have tells no more than a peer has sealed
pub fit_heard : (m : Members) (from view n : ℕ) (x : Group) → ((copy_of x from).good ≡ true → view ≡ x.view → n ≤ (copy_of x from).sealed) → IsFit m x → IsFit m (on_have from view n x)
fit_heard m from view n x told fit = go (hears from view x) refl
  where
    f : Replica → Replica
    f = λ c. record c { known = max c.known n }

    heard : hears from view x ≡ true → IsFit m (change_copy from (λ c. record c { known = max c.known n }) x)
    heard e =
        let same : view ≡ x.view = eqb-true view x.view (and_left (view == x.view) (copy_of x from).good e) in
        let good : (copy_of x from).good ≡ true = and_right (view == x.view) (copy_of x from).good e in
        let top : n ≤ (copy_of x from).sealed = told good same in
        let held : (copy_of x from).sealed ≤ length (copy_of x from).stamps = fit.held (from - first_peer x) good in
        let known : (copy_of x from).known ≤ (copy_of x from).sealed = fit.known (from - first_peer x) good in
        fit_changed m x from (λ c. record c { known = max c.known n })
        (record { good = refl; held = λ g. held; known = λ g. omega (arith, top, known) })
        (leads_same x from (λ c. record c { known = max c.known n }) refl (λ g. refl) (λ e was. elim was [ inl same ↦ inl (omega (arith, same, top)) | inr more ↦ inr more ]) fit.leads) fit

    go : (b : Bool) → hears from view x ≡ b → IsFit m (on_have from view n x)
    go true e = rw e (heard e)
    go false e = rw e fit

-- the copy of a peer that is not good is another, which is not good either
pub fit_apart : (m : Members) (p : ℕ) (f : Replica → Replica) (x : Group) → (copy_of x p).good ≡ false → (f (copy_of x p)).good ≡ false → IsFit m x → IsFit m (change_copy p f x)
fit_apart m p f x bad still fit =
    let none : (f (copy_of x p)).good ≡ true → ⊥ = λ g. (let wrong : false ≡ true = sym still ∙ g in cc wrong) in
    fit_changed m x p f (record { good = still ∙ sym bad; held = λ g. absurd (none g); known = λ g. absurd (none g) })
    (leads_same x p f (still ∙ sym bad) (λ g. absurd (none g)) (λ e was.
    -- it does not lead
    let k = lead_placed x (first_peer x + (p - first_peer x)) e in
    let at : k.place ≡ p - first_peer x = omega (arith, k.number) in
    let wrong : false ≡ true = sym bad ∙ ap (λ j. (copy_at j x).good) (sym at) ∙ k.good in
    absurd (cc wrong)) fit.leads) fit

-- ---- a view begins

told_from : (m : Members) (n i : ℕ) (cs : List Replica) → i < length cs → slice_index_or (tell_from m n cs) i no_copy ≡ tell (is_good_status (status (n + i) m)) (slice_index_or cs i no_copy)
told_from m n i [] low = absurd (omega (arith, low))
told_from m n zero (c ∷ cs) low = ap (λ k. tell (is_good_status (status k m)) c) (let e : n ≡ n + 0 = omega arith in e)
told_from m n (suc i) (c ∷ cs) low = told_from m (n + 1) i cs (omega (arith, low)) ∙ ap (λ k. tell (is_good_status (status k m)) (slice_index_or cs i no_copy)) (let e : n + 1 + i ≡ n + suc i = omega arith in e)

told_past : (m : Members) (n i : ℕ) (cs : List Replica) → length cs ≤ i → slice_index_or (tell_from m n cs) i no_copy ≡ no_copy
told_past m n i [] h = refl
told_past m n zero (c ∷ cs) h = absurd (omega (arith, h))
told_past m n (suc i) (c ∷ cs) h = told_past m (n + 1) i cs (omega (arith, h))

told_at : (m : Members) (x : Group) (i : ℕ) → (copy_at i (renew m x) ≡ tell (is_good_status (status (first_peer x + i) m)) (copy_at i x)) ⊎ (copy_at i (renew m x) ≡ no_copy)
told_at m x i = elim (cases_lt i (length x.copies)) [
  | inl low ↦ inl (told_from m (first_peer x) i x.copies low)
  | inr high ↦ inr (told_past m (first_peer x) i x.copies high)
]

-- of good copies it is known then what they have sealed
pub fit_renewed : (m : Members) (x : Group) → ((i : ℕ) → status (first_peer x + i) m ≡ Good → (copy_at i x).sealed ≤ length (copy_at i x).stamps) → IsFit m (renew m x)
fit_renewed m x held = record {
  good = λ i g. elim (told_at m x i) [
    | inl is ↦ good_only (status (first_peer x + i) m) (sym (ap (λ (r : Replica). r.good) is) ∙ g)
    | inr none ↦ absurd (no_good i none g)
  ];
  held = λ i g. elim (told_at m x i) [
    | inl is ↦
        subst (λ (r : Replica). r.sealed ≤ length r.stamps) (sym is) (held i (good_only (status (first_peer x + i) m) (sym (ap (λ (r : Replica). r.good) is) ∙ g)))
    | inr none ↦ absurd (no_good i none g)
  ];
  known = λ i g. (let e = all_known i g in omega (arith, e));
  leads = λ l e.
      let k = lead_placed (renew m x) l e in
      inl (subst (λ (r : Replica). r.known ≡ r.sealed) (sym (lead_copy (renew m x) l e)) (all_known k.place k.good));
}
  where
    no_good : (i : ℕ) → copy_at i (renew m x) ≡ no_copy → (copy_at i (renew m x)).good ≡ true → ⊥
    no_good i none g = let wrong : false ≡ true = sym (ap (λ (r : Replica). r.good) none) ∙ g in cc wrong

    all_known : (i : ℕ) → (copy_at i (renew m x)).good ≡ true → (copy_at i (renew m x)).known ≡ (copy_at i (renew m x)).sealed
    all_known i g = elim (told_at m x i) [
      | inl is ↦
          let t : is_good_status (status (first_peer x + i) m) ≡ true = sym (ap (λ (r : Replica). r.good) is) ∙ g in
          ap (λ (r : Replica). r.known) is ∙ ap (λ b. if b then (copy_at i x).sealed else (copy_at i x).known) t ∙ sym (ap (λ (r : Replica). r.sealed) is)
      | inr none ↦ absurd (no_good i none g)
    ]

pub fit_committed : (m : Members) (x : Group) → IsFit m x → IsFit m (take_committed x)
fit_committed m x fit =
    let k = committed_kept x in
    fit_same m x (take_committed x) (committed_copies x) (ap (λ s. peer_of s (take_committed x).shard 0) k.shape ∙ ap (λ g. peer_of x.shape g 0) k.shard) fit

-- ---- who is sent what

others_all : (n : ℕ) (cs : List Replica) (l : Option ℕ) (P : ℕ → Type 0) → ((i : ℕ) → (slice_index_or cs i no_copy).good ≡ true → P (n + i)) → All (λ (y : ℕ × Replica). P y.0) (others_from l n cs)
others_all n [] l P h = All-nil (λ (y : ℕ × Replica). P y.0)
others_all n (c ∷ cs) l P h = go c.good refl (is_peer n l) (others_all (n + 1) cs l P (λ i g. subst P (let e : n + suc i ≡ n + 1 + i = omega arith in e) (h (suc i) g)))
  where
    go : (b : Bool) → c.good ≡ b → (led : Bool) → All (λ (y : ℕ × Replica). P y.0) (others_from l (n + 1) cs) → All (λ (y : ℕ × Replica). P y.0) (if b && not led then (n, c) ∷ others_from l (n + 1) cs else others_from l (n + 1) cs)
    go true e true k = k
    go true e false k = All-cons (λ (y : ℕ × Replica). P y.0) (n, c) (others_from l (n + 1) cs) (subst P (let z : n + 0 ≡ n = omega arith in z) (h 0 e)) k
    go false e led k = k

pub others_good : (m : Members) (x : Group) → IsFit m x → All (λ (y : ℕ × Replica). status y.0 m ≡ Good) (others x)
others_good m x fit = others_all (first_peer x) x.copies (lead x) (λ p. status p m ≡ Good) fit.good

all_flat : {X : Type 0} (P : Message → Type 0) (f : X → List Message) (xs : List X) → All (λ x. All P (f x)) xs → All P (flat_map f xs)
all_flat P f [] h = All-nil P
all_flat P f (x ∷ xs) h = All-append P (f x) (flat_map f xs) (All-head (λ x. All P (f x)) x xs h) (all_flat P f xs (All-tail (λ x. All P (f x)) x xs h))

all_any : {X : Type 0} (P : X → Type 0) (xs : List X) → ((x : X) → P x) → All P xs
all_any P [] h = All-nil P
all_any P (x ∷ xs) h = All-cons P x xs (h x) (all_any P xs h)

module _ (m : Members) (x : Group) (fit : IsFit m x) where
  pub proposal_for : (entry : Entry) → All (IsForGood m) (proposal entry x)
  proposal_for entry = All-map (IsForGood m) (λ (y : ℕ × Replica). message.Copy x.shard y.0 x.view (last_number x + 1) entry) (others x) (others_good m x fit)

  copies_for : (peer above : ℕ) → status peer m ≡ Good → All (IsForGood m) (copies_above peer above x)
  copies_for peer above h =
      All-map (IsForGood m) (λ (e : ℕ × Entry). message.Copy x.shard peer x.view e.0 e.1) (entries_above above x) (all_any (λ (e : ℕ × Entry). status peer m ≡ Good) (entries_above above x) (λ e. h))

  all_copies_for : (above : ℕ × Replica → ℕ) → All (IsForGood m) (flat_map (λ (y : ℕ × Replica). copies_above y.0 (above y) x) (others x))
  all_copies_for above =
      all_flat (IsForGood m) (λ (y : ℕ × Replica). copies_above y.0 (above y) x) (others x)
      (All-weaker (λ (y : ℕ × Replica). status y.0 m ≡ Good) (λ (y : ℕ × Replica). All (IsForGood m) (copies_above y.0 (above y) x)) (λ y h. copies_for y.0 (above y) h) (others x) (others_good m x fit))

  pub renewal_for : All (IsForGood m) (renewal x)
  renewal_for = all_copies_for (λ y. length y.1.stamps)

  pub have_for : (peer sealed : ℕ) → All (IsForGood m) (have peer sealed x)
  have_for peer sealed = go (is_peer peer (lead x)) (lead x) refl
    where
      go : (b : Bool) (o : Option ℕ) → lead x ≡ o → All (IsForGood m) (if b then [] else map (λ l. message.Have x.shard peer l x.view sealed) (option_to_list o))
      go true o e = All-nil (IsForGood m)
      go false None e = All-nil (IsForGood m)
      go false (Some l) e =
          let k = lead_placed x l e in
          All-cons (IsForGood m) (message.Have x.shard peer l x.view sealed) [] (subst (λ q. status q m ≡ Good) (sym k.number) (fit.good k.place k.good)) (All-nil (IsForGood m))

  pub resend_for : (peer : ℕ) → All (IsForGood m) (resend peer x)
  resend_for peer = go (is_peer peer (lead x))
    where
      go : (b : Bool) → All (IsForGood m) (if b then flat_map (λ (y : ℕ × Replica). copies_above y.0 y.1.known x) (others x) else have peer (copy_of x peer).sealed x)
      go true = all_copies_for (λ y. y.1.known)
      go false = have_for peer (copy_of x peer).sealed

-- ---- the groups of a core

-- a group is as it was, or it is the one that changes
pub group_cases : (x : ℕ) (f : Group → Group) (c : Core) (g : ℕ)
    → (group_of g (change_group x f c) ≡ group_of g c) ⊎ ((g ≡ x) × (group_of g (change_group x f c) ≡ f (group_of x c)))
group_cases x f c g = elim (cases_eq g x) [
  | inl e ↦ elim (cases_lt x (length c.groups)) [
    | inl low ↦ inr (e, ap (λ k. group_of k (change_group x f c)) e ∙ group_here x f c low)
    | inr high ↦ inl (ap (λ k. group_of k (change_group x f c)) e ∙ group_past x f c high ∙ ap (λ k. group_of k c) (sym e))
  ]
  | inr n ↦ inl (group_other g x f c n)
]
