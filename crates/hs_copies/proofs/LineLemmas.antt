-- Every pending entry of a line is of a line that waits, and no list has two of one line.
use Rattle.std.proofs.Common.{◌≡◌, ℕ, zero, suc, ◌<◌, Bool, true, false, if◌then◌else◌, nat_eq, eqb-true, List, [], ◌∷◌, ◌++◌, ◌⊎◌, inl, inr, refl, sym, arith, length, Option, Some, ap, ◌∙◌, map, drop, ◌≤◌}
use Rattle.std.specs.Prelude.{slice_get}
use Rattle.hs_copies.specs.Lists.{IsAmong, Item, IsFront, end_view}
use Rattle.hs_copies.specs.Machine.{Copies, CopyEvent, Propose, Send, CopyComes, Sealed, HaveComes, TakesEffect, Fail, GiveUp, Start, Cleared, Copying, Copied, Join, CanCome, after_event, item}
use Rattle.hs_copies.specs.Invariant.{reach, AreFaithful}
use Rattle.hs_copies.specs.Lines.{IsLineEntry, AreLinesOpen, LinedCopies, LineEvent, Step, Begin, Answer, AnswerBy, set_waits, ProposesRightly, CanComeToLines, after_line_event}
use Rattle.hs_copies.proofs.ListLemmas.{front_refl, front_trans, front_append, append_nil, length_append}
use Rattle.hs_copies.proofs.PeerLemmas.{reach_none}
use Rattle.hs_copies.proofs.ViewKeeps.{after_right}
use Rattle.hs_copies.proofs.GrownLemmas.{grown, items_added, IsGrown}
use Rattle.hs_copies.proofs.OpenedLemmas.{settled_right}

pub get_prefix : {X : Type 0} (xs ys : List X) (n : ℕ) (x : X) → IsFront xs ys → slice_get xs n ≡ Some x → slice_get ys n ≡ Some x
get_prefix [] ys n x p e = absurd (cc e)
get_prefix (z ∷ xs) [] n x p e = absurd p
get_prefix (z ∷ xs) (y ∷ ys) zero x p e = let k = p.0 in cc (e, k)
get_prefix (z ∷ xs) (y ∷ ys) (suc n) x p e = get_prefix xs ys n x p.1 e

-- an item of a longer list stands in the list, or it is the one that is added
pub get_end : {X : Type 0} (xs : List X) (y : X) (n : ℕ) (x : X) → slice_get (xs ++ y ∷ []) n ≡ Some x → (slice_get xs n ≡ Some x) ⊎ ((n ≡ length xs) × (y ≡ x))
get_end [] y zero x e = inr (refl, cc e)
get_end [] y (suc n) x e = absurd (cc e)
get_end (z ∷ xs) y zero x e = inl e
get_end (z ∷ xs) y (suc n) x e = elim (get_end xs y n x e) [ inl k ↦ inl k | inr k ↦ inr (omega (arith, k.0), k.1) ]

module _ {X : Type 0} (line : X → Option ℕ) (waits : ℕ → Bool) (s : Copies X) (r : AreFaithful s) (o : AreLinesOpen line waits s) where
  log_reach : reach (s.peers r.led.0) ≡ s.log
  log_reach = reach_none (s.peers r.led.0) (r.good r.led.0 r.led.1).nothing ∙ r.led.2

  -- pending in a front is pending in the whole
  pub up : (xs ys : List (Item X)) (n k : ℕ) → IsFront xs ys → IsLineEntry line s.took xs n k → IsLineEntry line s.took ys n k
  up xs ys n k p h =
      record { entry = h.entry; has = front_trans s.took xs ys h.has p; above = h.above; here = get_prefix xs ys n h.entry p h.here; of_line = h.of_line }

  to_lead : (xs : List (Item X)) (n k : ℕ) → IsFront xs s.log → IsLineEntry line s.took xs n k → IsLineEntry line s.took (reach (s.peers r.led.0)) n k
  to_lead xs n k p h = up xs (reach (s.peers r.led.0)) n k (rw log_reach p) h

  log_waits : (xs : List (Item X)) (n k : ℕ) → IsFront xs s.log → IsLineEntry line s.took xs n k → waits k ≡ true
  log_waits xs n k p h = o.waiting r.led.0 n k (to_lead xs n k p h)

  log_once : (xs : List (Item X)) (m n k : ℕ) → IsFront xs s.log → IsLineEntry line s.took xs m k → IsLineEntry line s.took xs n k → m ≡ n
  log_once xs m n k p h i = o.once r.led.0 m n k (to_lead xs m k p h) (to_lead xs n k p i)

  -- pending with an entry more: pending before, or just that entry
  split : (ys : List (Item X)) (y : Item X) (n k : ℕ) → IsFront ys s.log → IsLineEntry line s.took (ys ++ y ∷ []) n k → IsLineEntry line s.took s.log n k ⊎ ((n ≡ length ys) × (line y.what ≡ Some k))
  split ys y n k p h =
      elim (get_end ys y n h.entry h.here) [ inl e ↦ inl (record { entry = h.entry; has = r.took; above = h.above; here = get_prefix ys s.log n h.entry p e; of_line = h.of_line }) | inr e ↦ inr (e.0, rw e.1 h.of_line) ]

  module _ (e : CopyEvent X) (a : CanCome s e) (l : ProposesRightly line (record { copies = s; waits = waits }) e) (same : (after_event e s).took ≡ s.took) where
    -- the entry that is added is of a line that waits and has no other
    new_line : (y : Item X) (k : ℕ) → items_added e s ≡ y ∷ [] → line y.what ≡ Some k → (waits k ≡ true) × ((n : ℕ) → IsLineEntry line s.took s.log n k → ⊥)
    new_line y k f g = go e l f
      where
        go : (e : CopyEvent X) → ProposesRightly line (record { copies = s; waits = waits }) e → items_added e s ≡ y ∷ [] → (waits k ≡ true) × ((n : ℕ) → IsLineEntry line s.took s.log n k → ⊥)
        go (Propose lead x) l f = l k (let i : item s.view x ≡ y = cc f in rw (ap (λ (j : Item X). line j.what) i) g)
        go (Fail p lead again x) l f = let i : item (suc s.view) x ≡ y = cc f in let j : line x ≡ Some k = rw (ap (λ (j : Item X). line j.what) i) g in absurd (cc (l, j))
        go (Join p lead x) l f = let i : item (suc s.view) x ≡ y = cc f in let j : line x ≡ Some k = rw (ap (λ (j : Item X). line j.what) i) g in absurd (cc (l, j))
        go (Send m) l f = absurd (cc f)
        go (CopyComes to place x) l f = absurd (cc f)
        go (Sealed p n) l f = absurd (cc f)
        go (HaveComes p n) l f = absurd (cc f)
        go (TakesEffect x) l f = absurd (cc f)
        go (GiveUp p) l f = absurd (cc f)
        go (Start p) l f = absurd (cc f)
        go (Cleared p n) l f = absurd (cc f)
        go (Copying p more) l f = absurd (cc f)
        go (Copied p) l f = absurd (cc f)

    one_or_none : (items_added e s ≡ []) ⊎ ((y : Item X) × (items_added e s ≡ y ∷ []))
    one_or_none = go e
      where
        go : (e : CopyEvent X) → (items_added e s ≡ []) ⊎ ((y : Item X) × (items_added e s ≡ y ∷ []))
        go (Propose lead x) = inr (item s.view x, refl)
        go (Fail p lead again x) = inr (item (suc s.view) x, refl)
        go (Join p lead x) = inr (item (suc s.view) x, refl)
        go (Send m) = inl refl
        go (CopyComes to place x) = inl refl
        go (Sealed p n) = inl refl
        go (HaveComes p n) = inl refl
        go (TakesEffect x) = inl refl
        go (GiveUp p) = inl refl
        go (Start p) = inl refl
        go (Cleared p n) = inl refl
        go (Copying p more) = inl refl
        go (Copied p) = inl refl

    step_waits : (q n k : ℕ) (xs : List (Item X)) → IsGrown s e q xs → IsLineEntry line s.took xs n k → waits k ≡ true
    step_waits q n k xs g h =
        elim g [
          | inl p ↦ log_waits xs n k p h
          | inr (inl p) ↦ o.waiting q n k (up xs (reach (s.peers q)) n k p h)
          | inr (inr p) ↦ elim one_or_none [
            | inl z ↦ log_waits xs n k (rw (p.2, z, append_nil p.0) p.1) h
            | inr z ↦ elim (split p.0 z.0 n k p.1 (let w : xs ≡ p.0 ++ z.0 ∷ [] = p.2 ∙ ap (λ j. p.0 ++ j) z.1 in rw w at h)) [
              | inl i ↦ log_waits s.log n k (front_refl s.log) i
              | inr i ↦ (new_line z.0 k z.1 i.1).0
            ]
          ]
        ]

    step_once : (q m n k : ℕ) (xs : List (Item X)) → IsGrown s e q xs → IsLineEntry line s.took xs m k → IsLineEntry line s.took xs n k → m ≡ n
    step_once q m n k xs g h i =
        elim g [
          | inl p ↦ log_once xs m n k p h i
          | inr (inl p) ↦ o.once q m n k (up xs (reach (s.peers q)) m k p h) (up xs (reach (s.peers q)) n k p i)
          | inr (inr p) ↦ elim one_or_none [
            | inl z ↦ log_once xs m n k (rw (p.2, z, append_nil p.0) p.1) h i
            | inr z ↦ (let w : xs ≡ p.0 ++ z.0 ∷ [] = p.2 ∙ ap (λ j. p.0 ++ j) z.1 in both p.0 z.0 p.1 z.1 (split p.0 z.0 m k p.1 (rw w at h)) (split p.0 z.0 n k p.1 (rw w at i)))
          ]
        ]
      where
        both : (ys : List (Item X)) (y : Item X) → IsFront ys s.log → items_added e s ≡ y ∷ [] → IsLineEntry line s.took s.log m k ⊎ ((m ≡ length ys) × (line y.what ≡ Some k)) → IsLineEntry line s.took s.log n k ⊎ ((n ≡ length ys) × (line y.what ≡ Some k)) → m ≡ n
        both ys y p z (inl u) (inl v) = log_once s.log m n k (front_refl s.log) u v
        both ys y p z (inl u) (inr v) = absurd ((new_line y k z v.1).1 m u)
        both ys y p z (inr u) (inl v) = absurd ((new_line y k z u.1).1 n v)
        both ys y p z (inr u) (inr v) = u.0 ∙ sym v.0

    pub step_owned : AreLinesOpen line waits (after_event e s)
    step_owned =
        record {
          waiting = λ y n k h. step_waits y n k (reach ((after_event e s).peers y)) (grown s r e a y) (rw same at h);
          once = λ y m n k h i. step_once y m n k (reach ((after_event e s).peers y)) (grown s r e a y) (rw same at h) (rw same at i);
        }

  -- an entry takes effect, and its line may be answered by it
  module _ (x : Item X) (a : CanCome s (TakesEffect x)) where
    down : (xs : List (Item X)) (n k : ℕ) → IsLineEntry line (s.took ++ x ∷ []) xs n k → IsLineEntry line s.took xs n k × (length s.took < n) × (slice_get xs (length s.took) ≡ Some x) × IsFront s.took xs
    down xs n k h = (
      record { entry = h.entry; has = front_trans s.took (s.took ++ x ∷ []) xs (front_append s.took (x ∷ [])) h.has; above = omega (arith, h.above, length_append s.took (x ∷ [])); here = h.here; of_line = h.of_line },
      omega (arith, h.above, length_append s.took (x ∷ [])),
      get_prefix (s.took ++ x ∷ []) xs (length s.took) x h.has (get_last s.took x),
      front_trans s.took (s.took ++ x ∷ []) xs (front_append s.took (x ∷ [])) h.has,
    )
      where
        get_last : (xs : List (Item X)) (x : Item X) → slice_get (xs ++ x ∷ []) (length xs) ≡ Some x
        get_last [] x = refl
        get_last (y ∷ xs) x = get_last xs x

    pub effect_owned : AreLinesOpen line waits (after_event (TakesEffect x) s)
    effect_owned =
        record {
          waiting = λ y n k h. o.waiting y n k (down (reach (s.peers y)) n k h).0;
          once = λ y m n k h i. o.once y m n k (down (reach (s.peers y)) m k h).0 (down (reach (s.peers y)) n k i).0;
        }

    pub answer_by_owned : (j : ℕ) → line x.what ≡ Some j → AreLinesOpen line (set_waits j false waits) (after_event (TakesEffect x) s)
    answer_by_owned j e =
        record {
          waiting = λ y n k h. stay y n k h (nat_eq k j) refl;
          once = λ y m n k h i. o.once y m n k (down (reach (s.peers y)) m k h).0 (down (reach (s.peers y)) n k i).0;
        }
      where
        stay : (y n k : ℕ) → IsLineEntry line (s.took ++ x ∷ []) (reach (s.peers y)) n k → (t : Bool) → nat_eq k j ≡ t → (if t then false else waits k) ≡ true
        stay y n k h true f =
            let d = down (reach (s.peers y)) n k h in
            let i : k ≡ j = eqb-true k j f in
            let begun : IsLineEntry line s.took (reach (s.peers y)) (length s.took) k = record { entry = x; has = d.3; above = omega arith; here = d.2; of_line = rw i e } in
            absurd (omega (arith, d.1, o.once y (length s.took) n k begun d.0))
        stay y n k h false f = o.waiting y n k (down (reach (s.peers y)) n k h).0

  -- in a settled view a line without an entry in the lead's list has none in any list
  pub answer_owned : (j : ℕ) → end_view 0 s.took ≡ s.view → ((n : ℕ) → IsLineEntry line s.took s.log n j → ⊥) → AreLinesOpen line (set_waits j false waits) s
  answer_owned j settled none =
      record { waiting = λ y n k h. stay y n k h (nat_eq k j) refl; once = o.once }
    where
      stay : (y n k : ℕ) → IsLineEntry line s.took (reach (s.peers y)) n k → (t : Bool) → nat_eq k j ≡ t → (if t then false else waits k) ≡ true
      stay y n k h true f =
          let p : IsFront (reach (s.peers y)) s.log = settled_right s r settled y (reach (s.peers y)) (front_refl (reach (s.peers y))) h.has in
          absurd (none n (rw (← eqb-true k j f) (up (reach (s.peers y)) s.log n k p h)))
      stay y n k h false f = o.waiting y n k h

  pub begin_owned : (j : ℕ) → AreLinesOpen line (set_waits j true waits) s
  begin_owned j =
      record { waiting = λ y n k h. stay k (o.waiting y n k h) (nat_eq k j); once = o.once }
    where
      stay : (k : ℕ) → waits k ≡ true → (t : Bool) → (if t then true else waits k) ≡ true
      stay k w true = refl
      stay k w false = w

took_same : {X : Type 0} (e : CopyEvent X) (s : Copies X) → ((after_event e s).took ≡ s.took) ⊎ ((x : Item X) × (e ≡ TakesEffect x))
took_same (TakesEffect x) s = inr (x, refl)
took_same (Propose lead x) s = inl refl
took_same (Send m) s = inl refl
took_same (CopyComes to place x) s = inl refl
took_same (Sealed p n) s = inl refl
took_same (HaveComes p n) s = inl refl
took_same (Fail p lead again x) s = inl refl
took_same (GiveUp p) s = inl refl
took_same (Start p) s = inl refl
took_same (Cleared p n) s = inl refl
took_same (Copying p more) s = inl refl
took_same (Copied p) s = inl refl
took_same (Join p lead x) s = inl refl

pub does_owned : {X : Type 0} (line : X → Option ℕ) (w : LinedCopies X) (d : LineEvent X) → AreFaithful w.copies → AreLinesOpen line w.waits w.copies → CanComeToLines line w d → AreFaithful (after_line_event d w).copies × AreLinesOpen line (after_line_event d w).waits (after_line_event d w).copies
does_owned line w (Step e) r o a =
    (after_right w.copies r e a.0, elim (took_same e w.copies) [ inl k ↦ step_owned line w.waits w.copies r o e a.0 a.1 k | inr k ↦ rw k.1 (effect_owned line w.waits w.copies r o k.0 (rw k.1 at a.0)) ])
does_owned line w (Begin k) r o a = (r, begin_owned line w.waits w.copies r o k)
does_owned line w (Answer k) r o a = (r, answer_owned line w.waits w.copies r o k a.0 a.1)
does_owned line w (AnswerBy x k) r o a = (after_right w.copies r (TakesEffect x) a.0, answer_by_owned line w.waits w.copies r o x a.0 k a.1)

-- an event of the copies that proposes rightly
pub lines_after : {X : Type 0} {line : X → Option ℕ} (s : Copies X) (waits : ℕ → Bool) → AreFaithful s → AreLinesOpen line waits s → (e : CopyEvent X) → CanCome s e
    → ProposesRightly line (record { copies = s; waits = waits }) e → AreLinesOpen line waits (after_event e s)
lines_after {line = line} s waits r o e a l = (does_owned line (record { copies = s; waits = waits }) (Step e) r o (a, l)).1

-- an entry of a line in the log above so many is among those that wait
pub among_waiting : {X : Type 0} (log : List (Item X)) (m n : ℕ) (x : Item X) → m ≤ n → slice_get log n ≡ Some x → IsAmong x.what (map (λ y. y.what) (drop m log))
among_waiting {X = X} [] m n x l e = absurd (cc e)
among_waiting {X = X} (y ∷ log) zero zero x l e = let k : y ≡ x = cc e in inl (sym (ap (λ (z : Item X). z.what) k))
among_waiting {X = X} (y ∷ log) zero (suc n) x l e = inr (rest log n x (among_waiting log zero n x (omega arith) e))
  where
    rest : (log : List (Item X)) (n : ℕ) (x : Item X) → IsAmong x.what (map (λ y. y.what) (drop 0 log)) → IsAmong x.what (map (λ y. y.what) log)
    rest log n x k = k
among_waiting (y ∷ log) (suc m) zero x l e = absurd (omega (arith, l))
among_waiting (y ∷ log) (suc m) (suc n) x l e = among_waiting log m n x (omega (arith, l)) e
