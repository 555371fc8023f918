-- The entries of a peer's list that it has not sealed, as the group of its shard changes.
use Rattle.std.proofs.Common.{◌≡◌, ◌∙◌, ap, sym, subst, refl, arith, ℕ, zero, suc, ◌+◌, ◌-◌, ◌≤◌, nat_lt, Bool, true, false, if◌then◌else◌, List, [], ◌∷◌, ◌++◌, Option, Some, None, length, map, min}
use Rattle.std.proofs.lemmas.List.{drop-append-le, drop-drop, drop_at, length-drop, length-take, length-take-le, take-append-drop, take-append-le}
use Rattle.std.proofs.lemmas.Option.{slice_get_within}
use Rattle.std.specs.List.{enumerate_from}
use Rattle.std.specs.Option.{option_map, option_map_or}
use Rattle.std.specs.Prelude.{drop, slice_get, take}
use Rattle.hs_copies.proofs.CoreLemmas.{last_is_leads}
use Rattle.hs_copies.proofs.StandLemmas.{HasLead, good_peer, length_is, stands_lead}
use Rattle.hs_copies.specs.CoreCopies.{CoreCopies}
use Rattle.hs_copies.specs.Lists.{Item}
use Rattle.hs_copies.specs.Machine.{Copies}
use Rattle.hs_copies.specs.Standing.{StandsFor}
use Rattle.hs_entry.specs.declared.entry.Entry.{Entry}
use Rattle.hs_replica.specs.Group.{Group, IsHome, commit_front, committed, copy_of, entries_above, last_number, length_of, take_committed}
use Rattle.hs_core_copies.specs.Jobs.{unsealed}

-- ---- lists with numbers

pub numbered_append : {X : Type 0} (n : ℕ) (xs ys : List X) → enumerate_from n (xs ++ ys) ≡ enumerate_from n xs ++ enumerate_from (n + length xs) ys
numbered_append n [] ys = let e : n ≡ n + 0 = omega arith in ap (λ k. enumerate_from k ys) e
numbered_append n (x ∷ xs) ys =
    let e : n + 1 + length xs ≡ n + suc (length xs) = omega arith in
    ap (λ zs. (n, x) ∷ zs) (numbered_append (n + 1) xs ys ∙ ap (λ k. enumerate_from (n + 1) xs ++ enumerate_from k ys) e)

pub numbered_drop : {X : Type 0} (k n : ℕ) (xs : List X) → drop k (enumerate_from n xs) ≡ enumerate_from (n + k) (drop k xs)
numbered_drop zero n xs = let same : n + 0 ≡ n = omega arith in rw same refl
numbered_drop (suc k) n [] = refl
numbered_drop (suc k) n (x ∷ xs) = let same : n + suc k ≡ n + 1 + k = omega arith in rw same (numbered_drop k (n + 1) xs)

pub numbered_take : {X : Type 0} (k n : ℕ) (xs : List X) → take k (enumerate_from n xs) ≡ enumerate_from n (take k xs)
numbered_take zero n xs = refl
numbered_take (suc k) n [] = refl
numbered_take (suc k) n (x ∷ xs) = ap (λ zs. (n, x) ∷ zs) (numbered_take k (n + 1) xs)

take_next : {X : Type 0} (n : ℕ) (xs : List X) (x : X) → slice_get xs n ≡ Some x → take (suc n) xs ≡ take n xs ++ x ∷ []
take_next n [] x e = let wrong : None ≡ Some x = e in absurd (cc wrong)
take_next zero (y ∷ ys) x e = let same : y ≡ x = cc e in ap (λ z. z ∷ []) same
take_next (suc n) (y ∷ ys) x e = ap (λ zs. y ∷ zs) (take_next n ys x e)

pub get_dropped : {X : Type 0} (m n : ℕ) (xs : List X) → slice_get (drop m xs) n ≡ slice_get xs (m + n)
get_dropped zero n xs = ap (slice_get xs) (let e : n ≡ 0 + n = omega arith in e)
get_dropped (suc m) n [] = refl
get_dropped (suc m) n (x ∷ xs) = get_dropped m n xs ∙ ap (slice_get (x ∷ xs)) (let e : suc (m + n) ≡ suc m + n = omega arith in e)

pub get_mapped : {X Y : Type 0} (f : X → Y) (xs : List X) (n : ℕ) → slice_get (map f xs) n ≡ option_map f (slice_get xs n)
get_mapped f [] n = refl
get_mapped f (x ∷ xs) zero = refl
get_mapped f (x ∷ xs) (suc n) = get_mapped f xs n

-- ---- entries that wait, from one number up to another

abbrev pub between : ℕ → ℕ → Group → List (ℕ × Entry)
between low high x = take (high - low) (entries_above low x)

abbrev part : ℕ → ℕ → Group → List Entry
part low high x = take (high - low) (drop (low - x.front) x.waiting)

pub between_is : (low high : ℕ) (x : Group) → x.front ≤ low → between low high x ≡ enumerate_from (low + 1) (part low high x)
between_is low high x h =
    let n : x.front + 1 + (low - x.front) ≡ low + 1 = omega (arith, h) in
    ap (take (high - low)) (numbered_drop (low - x.front) (x.front + 1) x.waiting ∙ ap (λ k. enumerate_from k (drop (low - x.front) x.waiting)) n)
    ∙ numbered_take (high - low) (low + 1) (drop (low - x.front) x.waiting)

-- more entries wait
pub between_more : (low high : ℕ) (x y : Group) (more : List Entry) → x.front ≤ low → low ≤ high → high ≤ last_number x → y.front ≡ x.front → y.waiting ≡ x.waiting ++ more
    → between low high y ≡ between low high x
between_more low high x y more a b c e f = between_is low high y (omega (arith, a, e)) ∙ ap (enumerate_from (low + 1)) same ∙ sym (between_is low high x a)
  where
    same : part low high y ≡ part low high x
    same =
        let l = length-drop (low - x.front) x.waiting in
        ap (λ k. take (high - low) (drop (low - k) y.waiting)) e
        ∙ ap (λ ws. take (high - low) (drop (low - x.front) ws)) f
        ∙ ap (take (high - low)) (drop-append-le (low - x.front) x.waiting more (omega (arith, a, b, c)))
        ∙ take-append-le (high - low) (drop (low - x.front) x.waiting) more (omega (arith, l, a, b, c))

-- only so many wait
pub between_cut : (low high k : ℕ) (x y : Group) → x.front ≤ low → low ≤ high → high ≤ x.front + k → high ≤ last_number x → y.front ≡ x.front → y.waiting ≡ take k x.waiting
    → between low high y ≡ between low high x
between_cut low high k x y a b c d e f =
    let n : length y.waiting ≡ min k (length x.waiting) = ap (λ ws. length ws) f ∙ length-take k x.waiting in
    sym (between_more low high y x (drop k x.waiting) (omega (arith, a, e)) b (omega (arith, c, d, e, n)) (sym e) (sym (take-append-drop k x.waiting) ∙ ap (λ ws. ws ++ drop k x.waiting) (sym f)))

-- the first of them were handed out
pub between_handed : (low high : ℕ) (x y : Group) (handed : List Entry) → y.front ≤ low → y.front ≡ x.front + length handed → x.waiting ≡ handed ++ y.waiting
    → between low high y ≡ between low high x
between_handed low high x y handed a e f = between_is low high y a ∙ ap (enumerate_from (low + 1)) (sym same) ∙ sym (between_is low high x (omega (arith, a, e)))
  where
    same : part low high x ≡ part low high y
    same =
        let n : low - x.front ≡ length handed + (low - y.front) = omega (arith, a, e) in
        ap (λ ws. take (high - low) (drop (low - x.front) ws)) f
        ∙ ap (λ k. take (high - low) (drop k (handed ++ y.waiting))) n
        ∙ ap (take (high - low)) (sym (drop-drop (low - y.front) (length handed) (handed ++ y.waiting)))
        ∙ ap (λ ws. take (high - low) (drop (low - y.front) ws)) (drop_at handed y.waiting (length handed) refl)

-- the next of them too
pub between_next : (low high : ℕ) (x : Group) (entry : Entry) → x.front ≤ low → low ≤ high → slice_get x.waiting (high - x.front) ≡ Some entry
    → between low (high + 1) x ≡ between low high x ++ (high + 1, entry) ∷ []
between_next low high x entry a b e =
    between_is low (high + 1) x a ∙ ap (enumerate_from (low + 1)) longer
    ∙ numbered_append (low + 1) (part low high x) (entry ∷ [])
    ∙ ap (λ k. enumerate_from (low + 1) (part low high x) ++ (k, entry) ∷ []) number
    ∙ ap (λ es. es ++ (high + 1, entry) ∷ []) (sym (between_is low high x a))
  where
    there : slice_get (drop (low - x.front) x.waiting) (high - low) ≡ Some entry
    there =
        let n : (low - x.front) + (high - low) ≡ high - x.front = omega (arith, a, b) in
        get_dropped (low - x.front) (high - low) x.waiting ∙ ap (slice_get x.waiting) n ∙ e

    longer : part low (high + 1) x ≡ part low high x ++ entry ∷ []
    longer =
        let n : high + 1 - low ≡ suc (high - low) = omega (arith, b) in
        ap (λ k. take k (drop (low - x.front) x.waiting)) n ∙ take_next (high - low) (drop (low - x.front) x.waiting) entry there

    number : low + 1 + length (part low high x) ≡ high + 1
    number =
        let within = slice_get_within (drop (low - x.front) x.waiting) (high - low) entry there in
        let l : length (part low high x) ≡ high - low = length-take-le (high - low) (drop (low - x.front) x.waiting) (omega (arith, within)) in
        omega (arith, l, b)

-- the first of them
pub record IsFirst (low high : ℕ) (x : Group) (first : ℕ × Entry) (others : List (ℕ × Entry)) : Type 0 where
  pub number : first.0 ≡ low + 1
  pub within : low + 1 ≤ high
  pub rest : others ≡ between (low + 1) high x
  pub waits : slice_get x.waiting (low - x.front) ≡ Some first.1

pub between_first : (low high : ℕ) (x : Group) (first : ℕ × Entry) (others : List (ℕ × Entry)) → x.front ≤ low → between low high x ≡ first ∷ others → IsFirst low high x first others
between_first low high x first others a e = go (high - low) (drop (low - x.front) x.waiting) refl refl (sym (between_is low high x a) ∙ e)
  where
    go : (k : ℕ) (ds : List Entry) → high - low ≡ k → drop (low - x.front) x.waiting ≡ ds → enumerate_from (low + 1) (take (high - low) (drop (low - x.front) x.waiting)) ≡ first ∷ others
        → IsFirst low high x first others
    go zero ds n f h = let wrong : [] ≡ first ∷ others = sym (ap (λ k. enumerate_from (low + 1) (take k (drop (low - x.front) x.waiting))) n) ∙ h in absurd (cc wrong)
    go (suc k) [] n f h = let wrong : [] ≡ first ∷ others = sym (ap (λ j. enumerate_from (low + 1) (take j (drop (low - x.front) x.waiting))) n ∙ ap (λ ws. enumerate_from (low + 1) (take (suc k) ws)) f) ∙ h in absurd (cc wrong)
    go (suc k) (d ∷ ds) n f h =
        let is : (low + 1, d) ∷ enumerate_from (low + 1 + 1) (take k ds) ≡ first ∷ others =
        sym (ap (λ j. enumerate_from (low + 1) (take j (drop (low - x.front) x.waiting))) n ∙ ap (λ ws. enumerate_from (low + 1) (take (suc k) ws)) f) ∙ h in
        let one : (low + 1, d) ≡ first = cc is in
        let more : enumerate_from (low + 1 + 1) (take k ds) ≡ others = cc is in
        let less : high - (low + 1) ≡ k = omega (arith, n) in
        let on : low - x.front + 1 ≡ low + 1 - x.front = omega (arith, a) in
        let tail : drop (low + 1 - x.front) x.waiting ≡ ds = ap (λ j. drop j x.waiting) (sym on) ∙ sym (drop-drop 1 (low - x.front) x.waiting) ∙ ap (drop 1) f in
        let same : part (low + 1) high x ≡ take k ds = ap (λ j. take j (drop (low + 1 - x.front) x.waiting)) less ∙ ap (take k) tail in
        let zeroth : low - x.front ≡ (low - x.front) + 0 = omega arith in
        record {
          number = sym (ap (λ (y : ℕ × Entry). y.0) one);
          within = omega (arith, n);
          rest = sym more ∙ ap (enumerate_from (low + 1 + 1)) (sym same) ∙ sym (between_is (low + 1) high x (omega (arith, a)));
          waits = ap (slice_get x.waiting) zeroth ∙ sym (get_dropped (low - x.front) 0 x.waiting) ∙ ap (λ ws. slice_get ws 0) f ∙ ap (λ (y : ℕ × Entry). Some y.1) one;
        }

-- ---- a peer's

-- what took effect was sealed, what is sealed is in the list, and the list is within the lead's
pub record IsHeld (x : Group) (p : ℕ) : Type 0 where
  pub front : x.front ≤ (copy_of x p).sealed
  pub sealed : (copy_of x p).sealed ≤ length_of x p
  pub within : length_of x p ≤ last_number x

-- as much is sealed of a list that is as long
pub unsealed_by : (x y : Group) (p : ℕ) → (copy_of y p).sealed ≡ (copy_of x p).sealed → length_of y p ≡ length_of x p
    → between (copy_of x p).sealed (length_of x p) y ≡ between (copy_of x p).sealed (length_of x p) x → unsealed p y ≡ unsealed p x
unsealed_by x y p a b e = ap (λ k. between k (length_of y p) y) a ∙ ap (λ k. between (copy_of x p).sealed k y) b ∙ e

-- all is sealed
pub none_unsealed : (x : Group) (p : ℕ) → length_of x p ≤ (copy_of x p).sealed → unsealed p x ≡ []
none_unsealed x p h =
    let n : length_of x p - (copy_of x p).sealed ≡ 0 = omega (arith, h) in
    ap (λ k. take k (entries_above (copy_of x p).sealed x)) n

module _ {line : Entry → Option ℕ} (c : CoreCopies) (s : Copies Entry) (st : StandsFor line c s) where
  pub held_by : (p : ℕ) → IsHome c.group p → (copy_of c.group p).good ≡ true → IsHeld c.group p
  held_by p h good =
      let k = st.faithful.good p (good_peer c s st p h good) in
      let d : HasLead c s = stands_lead c s st in
      let sealed = (st.peers.each p h).sealed in
      record {
        front = omega (arith, st.front, k.front, k.told, sealed);
        sealed = omega (arith, sealed, k.held, length_is c s st p h);
        within = omega (arith, d.leads.longest p h good, last_is_leads c s st d.peer d.is);
      }

  -- an entry of the lead's list waits, where it has not taken effect
  pub waits_at : (n : ℕ) (y : Item Entry) → c.group.front ≤ n → slice_get s.log n ≡ Some y → slice_get c.group.waiting (n - c.group.front) ≡ Some y.what
  waits_at n y low e =
      let at : length s.took + (n - c.group.front) ≡ n = omega (arith, st.front, low) in
      ap (λ ws. slice_get ws (n - c.group.front)) st.waiting
      ∙ get_mapped (λ (x : Item Entry). x.what) (drop (length s.took) s.log) (n - c.group.front)
      ∙ ap (option_map (λ (x : Item Entry). x.what)) (get_dropped (length s.took) (n - c.group.front) s.log ∙ ap (slice_get s.log) at ∙ e)

-- ---- an entry takes effect

-- what is handed out next
pub record IsHanded (x : Group) (y : ℕ × Entry) : Type 0 where
  pub entry : Entry
  pub waits : x.waiting ≡ entry ∷ drop 1 x.waiting
  pub number : y.0 ≡ x.front + 1

handed_is : (x : Group) (y : ℕ × Entry) → committed x ≡ Some y → IsHanded x y
handed_is x y e = by_test (nat_lt x.front (commit_front x)) refl
  where
    by_waiting : (ws : List Entry) → x.waiting ≡ ws → option_map (λ (entry : Entry). (x.front + 1, entry)) (slice_get ws 0) ≡ Some y → IsHanded x y
    by_waiting [] w i = let wrong : None ≡ Some y = i in absurd (cc wrong)
    by_waiting (z ∷ zs) w i =
        let same : Some (x.front + 1, z) ≡ Some y = i in
        let is : (x.front + 1, z) ≡ y = cc same in
        record { entry = z; waits = w ∙ ap (λ vs. z ∷ vs) (sym (ap (drop 1) w)); number = sym (ap (λ (k : ℕ × Entry). k.0) is) }

    by_test : (b : Bool) → nat_lt x.front (commit_front x) ≡ b → IsHanded x y
    by_test true t =
        by_waiting x.waiting refl (sym (ap (λ b. if b then option_map (λ (entry : Entry). (x.front + 1, entry)) (slice_get x.waiting 0) else None) t) ∙ e)
    by_test false t =
        let wrong : None ≡ Some y = sym (ap (λ b. if b then option_map (λ (entry : Entry). (x.front + 1, entry)) (slice_get x.waiting 0) else None) t) ∙ e in absurd (cc wrong)

-- what took effect was sealed
pub committed_unsealed : (x : Group) (p : ℕ) → IsHeld (take_committed x) p → unsealed p (take_committed x) ≡ unsealed p x
committed_unsealed x p held = go (committed x) refl
  where
    go : (o : Option (ℕ × Entry)) → committed x ≡ o → unsealed p (take_committed x) ≡ unsealed p x
    go None e =
        let is : take_committed x ≡ x = ap (λ o. option_map_or (λ (k : ℕ × Entry). record x { front = k.0; waiting = drop 1 x.waiting }) o x) e in
        ap (λ (z : Group). unsealed p z) is
    go (Some y) e =
        let new : Group = record x { front = y.0; waiting = drop 1 x.waiting } in
        let is : take_committed x ≡ new = ap (λ o. option_map_or (λ (k : ℕ × Entry). record x { front = k.0; waiting = drop 1 x.waiting }) o x) e in
        let h : IsHeld new p = subst (λ (z : Group). IsHeld z p) is held in
        let w : IsHanded x y = handed_is x y e in
        ap (λ (z : Group). unsealed p z) is
        ∙ unsealed_by x new p refl refl (between_handed (copy_of x p).sealed (length_of x p) x new (w.entry ∷ []) h.front w.number w.waits)
