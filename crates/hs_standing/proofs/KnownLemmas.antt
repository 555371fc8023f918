-- How far the copies of a list are known to have sealed: where one more is known of, and where a view begins.
use Rattle.std.proofs.Common.{◌≡◌, ◌∙◌, sym, ap, subst, ℕ, zero, suc, ◌+◌, ◌-◌, ◌<◌, ◌≤◌, ◌++◌, Bool, true, false, cond, List, [], ◌∷◌, Option, Some, None, refl, arith, count_by, drop, get_or, length, length-take, map, max, min, slice_index_or, slice_set, take, if◌then◌else◌}
use Rattle.std.proofs.lemmas.List.{length-append, length-map}
use Rattle.std.proofs.lemmas.List.Sums.{sum_by-append, sum_by-take-le}
use Rattle.std.specs.Option.{option_map, option_map_or}
use Rattle.hs_entry.specs.declared.entry.Entry.{Entry}
use Rattle.hs_members.proofs.LeadLemmas.{IsJudged, longest_is_judged, passing}
use Rattle.hs_members.specs.Members.{Members, is_good_status, longest, status}
use Rattle.hs_replica.specs.declared.replica.Replica.{Replica}
use Rattle.hs_replica.specs.Group.{Group, change_copy, commit_front, committed, copy_of, first_peer, good_from, hears, is_peer, last_number, lead, lead_takes, least_known, length_of, lower, no_copy, on_have, on_sealed, propose, renew, stamp, take_committed, take_entry, tell_from, told}
use Rattle.hs_replica.specs.Kinds.{is_root}

-- ---- as much is known

-- another copy that is good alike and known alike
known_alike : (cs : List Replica) (i : ℕ) (new : Replica) → new.good ≡ (slice_index_or cs i no_copy).good → new.known ≡ (slice_index_or cs i no_copy).known → least_known (slice_set cs i new) ≡ least_known cs
known_alike [] i new g k = refl
known_alike (c ∷ cs) zero new g k = rw (g, k) refl
known_alike (c ∷ cs) (suc i) new g k = ap (λ r. if c.good then Some (lower c.known r) else r) (known_alike cs i new g k)

pub copy_known : (peer : ℕ) (f : Replica → Replica) (group : Group) → (f (copy_of group peer)).good ≡ (copy_of group peer).good → (f (copy_of group peer)).known ≡ (copy_of group peer).known → commit_front (change_copy peer f group) ≡ commit_front group
copy_known peer f group g k = ap (λ o. option_map_or (λ n. n) o 0) (known_alike group.copies (peer - first_peer group) (f (copy_of group peer)) g k)

pub took_known : (peer : ℕ) (entry : Entry) (group : Group) → commit_front (take_entry peer entry group) ≡ commit_front group
took_known peer entry group = copy_known peer (λ c. record c { stamps = stamp entry c.stamps }) group refl refl

pub proposed_front : (entry : Entry) (group : Group) → commit_front (propose entry group) ≡ commit_front group
proposed_front entry group = go (lead group)
  where
    go : (l : Option ℕ) → commit_front (lead_takes l entry group) ≡ commit_front group
    go None = refl
    go (Some l) = took_known l entry group

pub taken_front : (group : Group) → commit_front (take_committed group) ≡ commit_front group
taken_front group = go (committed group)
  where
    go : (o : Option (ℕ × Entry)) → commit_front (option_map_or (λ (x : ℕ × Entry). record group { front = x.0; waiting = drop 1 group.waiting }) o group) ≡ commit_front group
    go None = refl
    go (Some x) = refl

-- ---- more is known of one

-- a number is no more than it was, or than so many
abbrev NoMore : ℕ → Option ℕ → Option ℕ → Type 0
NoMore n None None = Unit {0}
NoMore n None (Some y) = ⊥
NoMore n (Some x) None = ⊥
NoMore n (Some x) (Some y) = y ≤ max x n

more_same : (n : ℕ) (o : Option ℕ) → NoMore n o o
more_same n None = tt
more_same n (Some x) = omega arith

more_least : (n x y : ℕ) (o p : Option ℕ) → y ≤ max x n → NoMore n o p → lower y p ≤ max (lower x o) n
more_least n x y None None l h = l
more_least n x y (Some a) (Some b) l h = omega (arith, l, h)
more_least n x y None (Some b) l h = absurd h
more_least n x y (Some a) None l h = absurd h

more_front : (n : ℕ) (o p : Option ℕ) → NoMore n o p → option_map_or (λ k. k) p 0 ≤ max (option_map_or (λ k. k) o 0) n
more_front n None None h = omega arith
more_front n (Some a) (Some b) h = h
more_front n None (Some b) h = absurd h
more_front n (Some a) None h = absurd h

more_at : (n : ℕ) (cs : List Replica) (i : ℕ) (new : Replica) → new.good ≡ (slice_index_or cs i no_copy).good → new.known ≤ max (slice_index_or cs i no_copy).known n
    → NoMore n (least_known cs) (least_known (slice_set cs i new))
more_at n [] i new g k = tt
more_at n (c ∷ cs) zero new g k = rw g (go c.good)
  where
    go : (b : Bool) → NoMore n (if b then Some (lower c.known (least_known cs)) else least_known cs) (if b then Some (lower new.known (least_known cs)) else least_known cs)
    go true = more_least n c.known new.known (least_known cs) (least_known cs) k (more_same n (least_known cs))
    go false = more_same n (least_known cs)
more_at n (c ∷ cs) (suc i) new g k = go c.good (more_at n cs i new g k)
  where
    go : (b : Bool) → NoMore n (least_known cs) (least_known (slice_set cs i new))
        → NoMore n (if b then Some (lower c.known (least_known cs)) else least_known cs) (if b then Some (lower c.known (least_known (slice_set cs i new))) else least_known (slice_set cs i new))
    go true h = more_least n c.known c.known (least_known cs) (least_known (slice_set cs i new)) (omega arith) h
    go false h = h

same_most : (n : ℕ) → n ≤ n
same_most n = omega arith

up_to : (was now number top : ℕ) → now ≤ max was number → was ≤ top → number ≤ top → now ≤ top
up_to was now number top h a b = omega (arith, h, a, b)

-- a peer has sealed, or is heard to have sealed, no more than there is
pub sealed_known : (peer number top : ℕ) (group : Group) → commit_front group ≤ top → number ≤ top → commit_front (on_sealed peer number group) ≤ top
sealed_known peer number top group was more =
    let now : ℕ = if is_peer peer (lead group) then max (copy_of group peer).known number else (copy_of group peer).known in
    let new : Replica = record (copy_of group peer) { sealed = number; known = now } in
    up_to (commit_front group) (commit_front (on_sealed peer number group)) number top
    (more_front number (least_known group.copies) (least_known (slice_set group.copies (peer - first_peer group) new)) (more_at number group.copies (peer - first_peer group) new refl (go (is_peer peer (lead group))))) was more
  where
    go : (b : Bool) → (if b then max (copy_of group peer).known number else (copy_of group peer).known) ≤ max (copy_of group peer).known number
    go true = omega arith
    go false = omega arith

pub heard_known : (peer view sealed top : ℕ) (group : Group) → commit_front group ≤ top → (hears peer view group ≡ true → sealed ≤ top) → commit_front (on_have peer view sealed group) ≤ top
heard_known peer view sealed top group was more = go (hears peer view group) refl
  where
    go : (b : Bool) → hears peer view group ≡ b → commit_front (on_have peer view sealed group) ≤ top
    go true e =
        let new : Replica = record (copy_of group peer) { known = max (copy_of group peer).known sealed } in
        rw e
        (up_to (commit_front group) (option_map_or (λ k. k) (least_known (slice_set group.copies (peer - first_peer group) new)) 0) sealed top
        (more_front sealed (least_known group.copies) (least_known (slice_set group.copies (peer - first_peer group) new)) (more_at sealed group.copies (peer - first_peer group) new refl (same_most (max (copy_of group peer).known sealed)))) was (more e))
    go false e = rw e was

-- ---- a view begins

-- there is a number, and it is no more than this
abbrev IsAtMost : ℕ → Option ℕ → Type 0
IsAtMost n None = ⊥
IsAtMost n (Some x) = x ≤ n

lower_first : (x : ℕ) (o : Option ℕ) → lower x o ≤ x
lower_first x None = omega arith
lower_first x (Some y) = omega arith

lower_rest : (n x : ℕ) (o : Option ℕ) → IsAtMost n o → lower x o ≤ n
lower_rest n x None h = absurd h
lower_rest n x (Some y) h = omega (arith, h)

-- of each good copy is known what it has sealed, so the least is no more than that
told_least : (m : Members) (peer i p : ℕ) (cs : List Replica) → p ≡ peer + i → i < length cs → is_good_status (status p m) ≡ true → IsAtMost (slice_index_or cs i no_copy).sealed (least_known (tell_from m peer cs))
told_least m peer i p [] e l t = absurd (omega (arith, l))
told_least m peer zero p (c ∷ cs) e l t =
    let here : p ≡ peer = omega (arith, e) in
    let good : is_good_status (status peer m) ≡ true = rw here at t in
    rw good (lower_first c.sealed (least_known (tell_from m (peer + 1) cs)))
told_least m peer (suc i) p (c ∷ cs) e l t = go (is_good_status (status peer m)) refl (told_least m (peer + 1) i p cs (omega (arith, e)) (omega (arith, l)) t)
  where
    go : (b : Bool) → is_good_status (status peer m) ≡ b → IsAtMost (slice_index_or cs i no_copy).sealed (least_known (tell_from m (peer + 1) cs))
        → IsAtMost (slice_index_or cs i no_copy).sealed (least_known (tell_from m peer (c ∷ cs)))
    go true f r = rw f (lower_rest (slice_index_or cs i no_copy).sealed c.sealed (least_known (tell_from m (peer + 1) cs)) r)
    go false f r = rw f r

front_least : (n : ℕ) (o : Option ℕ) → IsAtMost n o → option_map_or (λ k. k) o 0 ≤ n
front_least n None h = absurd h
front_least n (Some x) h = h

-- the copies that are good are those of the good peers, with the same lists
told_passing : (m : Members) (n : ℕ) (cs : List Replica) → good_from n (tell_from m n cs) ≡ passing (λ peer. is_good_status (status peer m)) n (map (λ (copy : Replica). length copy.stamps) cs)
told_passing m n [] = refl
told_passing m n (c ∷ cs) = go (is_good_status (status n m)) refl (told_passing m (n + 1) cs)
  where
    go : (b : Bool) → is_good_status (status n m) ≡ b → good_from (n + 1) (tell_from m (n + 1) cs) ≡ passing (λ peer. is_good_status (status peer m)) (n + 1) (map (λ (copy : Replica). length copy.stamps) cs)
        → good_from n (tell_from m n (c ∷ cs)) ≡ passing (λ peer. is_good_status (status peer m)) n (map (λ (copy : Replica). length copy.stamps) (c ∷ cs))
    go true e h = rw e (ap (λ xs. (n, length c.stamps) ∷ xs) h)
    go false e h = rw e h

told_long : (m : Members) (n : ℕ) (cs : List Replica) (k : ℕ) → length (slice_index_or (tell_from m n cs) k no_copy).stamps ≡ get_or (map (λ (copy : Replica). length copy.stamps) cs) k 0
told_long m n [] k = refl
told_long m n (c ∷ cs) zero = refl
told_long m n (c ∷ cs) (suc k) = told_long m (n + 1) cs k

list_long : (cs : List Replica) (k : ℕ) → get_or (map (λ (copy : Replica). length copy.stamps) cs) k 0 ≡ length (slice_index_or cs k no_copy).stamps
list_long [] k = refl
list_long (c ∷ cs) zero = refl
list_long (c ∷ cs) (suc k) = list_long cs k

place_is : (peer first place : ℕ) → peer ≡ first + place → peer - first ≡ place
place_is peer first place e = omega (arith, e)

as_long : (own at most long : ℕ) → at ≡ own → at ≤ most → long ≡ most → own ≤ long
as_long own at most long e h f = omega (arith, e, h, f)

cut_fits : (known sealed own top front long left : ℕ) → known ≤ sealed → sealed ≤ own → own ≤ top → sealed ≤ front + long → left ≡ min (top - front) long → known ≤ front + left
cut_fits known sealed own top front long left a b c d e = omega (arith, a, b, c, d, e)

more_fits : (known front long known' front' long' : ℕ) → known ≤ front + long → known' ≡ known → front' ≡ front → long' ≡ long + 1 → known' ≤ front' + long'
more_fits known front long known' front' long' h a b c = omega (arith, h, a, b, c)

module _ (m : Members) (group : Group) (i : ℕ) (low : i < length group.copies) (good : is_good_status (status (first_peer group + i) m) ≡ true) where
  abbrev lengths : List ℕ
  lengths = map (λ (copy : Replica). length copy.stamps) group.copies

  -- the new lead's list is as long as that of each good copy
  lead_long : length (slice_index_or group.copies i no_copy).stamps ≤ option_map_or (length_of (told m group)) (lead (told m group)) 0
  lead_long = subst (λ xs. length (slice_index_or group.copies i no_copy).stamps ≤ option_map_or (length_of (told m group)) (option_map (λ (x : ℕ × ℕ). x.0) (longest xs)) 0) (sym (told_passing m (first_peer group) group.copies))
      (go (longest (passing (λ peer. is_good_status (status peer m)) (first_peer group) lengths)) (longest_is_judged (λ peer. is_good_status (status peer m)) (first_peer group) lengths))
    where
      here : i < length lengths
      here = subst (λ n. i < n) (sym (length-map group.copies (λ (copy : Replica). length copy.stamps))) low

      go : (o : Option (ℕ × ℕ)) → IsJudged (λ peer. is_good_status (status peer m)) (first_peer group) lengths o
          → length (slice_index_or group.copies i no_copy).stamps ≤ option_map_or (length_of (told m group)) (option_map (λ (x : ℕ × ℕ). x.0) o) 0
      go None none = absurd (cc (sym (none i (first_peer group + i) refl here) ∙ good))
      go (Some best) h =
          let place : best.0 - first_peer group ≡ h.place = place_is best.0 (first_peer group) h.place h.number in
          let long : length_of (told m group) best.0 ≡ best.1 = ap (λ k. length (slice_index_or (tell_from m (first_peer group) group.copies) k no_copy).stamps) place ∙ told_long m (first_peer group) group.copies h.place ∙ sym h.long in
          let most : get_or lengths i 0 ≤ best.1 = h.longest i (first_peer group + i) refl here good in
          as_long (length (slice_index_or group.copies i no_copy).stamps) (get_or lengths i 0) best.1 (length_of (told m group) best.0) (list_long group.copies i) most long

  -- so what is known behind a view is within the list that is left
  pub viewed_known : (slice_index_or group.copies i no_copy).sealed ≤ length (slice_index_or group.copies i no_copy).stamps → (slice_index_or group.copies i no_copy).sealed ≤ last_number group
      → commit_front (renew m group) ≤ last_number (renew m group)
  viewed_known own all =
      let top : ℕ = option_map_or (length_of (told m group)) (lead (told m group)) 0 in
      cut_fits (commit_front (renew m group)) (slice_index_or group.copies i no_copy).sealed (length (slice_index_or group.copies i no_copy).stamps) top group.front (length group.waiting) (length (take (top - group.front) group.waiting))
      (front_least (slice_index_or group.copies i no_copy).sealed (least_known (tell_from m (first_peer group) group.copies)) (told_least m (first_peer group) i (first_peer group + i) group.copies refl low good))
      own lead_long all (length-take (top - group.front) group.waiting)

-- ---- an entry is proposed behind it

pub proposed_known : (entry : Entry) (group : Group) → commit_front group ≤ last_number group → commit_front (propose entry group) ≤ last_number (propose entry group)
proposed_known entry group within =
    more_fits (commit_front group) group.front (length group.waiting) (commit_front (propose entry group)) (propose entry group).front (length (propose entry group).waiting)
    within (proposed_front entry group) (led (lead group)) (length-append group.waiting (entry ∷ []))
  where
    led : (l : Option ℕ) → (lead_takes l entry group).front ≡ group.front
    led None = refl
    led (Some l) = refl

-- ---- Roots that wait

pub fewer_roots : (n : ℕ) (entries : List Entry) → count_by is_root (take n entries) ≤ count_by is_root entries
fewer_roots n entries = sum_by-take-le (λ (e : Entry). cond (is_root e) 1 0) entries n

pub more_roots : (xs ys : List Entry) → count_by is_root (xs ++ ys) ≡ count_by is_root xs + count_by is_root ys
more_roots xs ys = sum_by-append (λ (e : Entry). cond (is_root e) 1 0) xs ys
