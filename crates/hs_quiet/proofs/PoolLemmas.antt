-- Messages that are sent into a pool, and one that is taken out.
use Rattle.std.proofs.Common.{◌≡◌, ◌∙◌, ◌⊎◌, inl, inr, sym, ap, subst, ℕ, zero, suc, ◌+◌, ◌<◌, ◌≤◌, ◌++◌, Bool, true, false, List, [], ◌∷◌, Some, refl, arith, tests, length, slice_get, length-append, nat_le}
use Rattle.std.proofs.lemmas.Bool.{cases_lt}
use Rattle.std.specs.BTreeMap.{insert_entry, is_at}
use Rattle.std.specs.Cmp.{nat_cmp_is}
use Rattle.std.specs.declared.cmp.Ordering.TheVariants.{Greater}
use Rattle.std.specs.List.{AllByRecursion}
use Rattle.std.specs.Map.{lookup, remove_entry}
use Rattle.std.specs.Ordering.{nat_cmp}
use Rattle.hs_post.specs.declared.message.Message.{Message}
use Rattle.hs_post.specs.Pool.{Pool, send}
use Rattle.hs_replica.specs.Group.{send_all}

-- ---- lists

module _ {X : Type 0} where
  pub get_front : (front back : List X) (n : ℕ) → n < length front → slice_get (front ++ back) n ≡ slice_get front n
  get_front [] back n h = absurd (omega (arith, h))
  get_front (x ∷ front) back zero h = refl
  get_front (x ∷ front) back (suc n) h = get_front front back n (omega (arith, h))

  pub get_back : (front back : List X) (n k : ℕ) → n ≡ length front + k → slice_get (front ++ back) n ≡ slice_get back k
  get_back [] back n k e = ap (λ m. slice_get back m) (omega (arith, e))
  get_back (x ∷ front) back zero k e = absurd (omega (arith, e))
  get_back (x ∷ front) back (suc n) k e = get_back front back n k (omega (arith, e))

  -- a place where something stands is within the list
  pub at_within : (xs : List X) (i : ℕ) (x : X) → slice_get xs i ≡ Some x → i < length xs
  at_within [] zero x e = absurd (cc e)
  at_within [] (suc i) x e = absurd (cc e)
  at_within (y ∷ xs) zero x e = omega arith
  at_within (y ∷ xs) (suc i) x e = let low : i < length xs = at_within xs i x e in omega (arith, low)

  all_append : (P : X → Type 0) (xs ys : List X) → AllByRecursion P xs → AllByRecursion P ys → AllByRecursion P (xs ++ ys)
  all_append P [] ys h k = k
  all_append P (x ∷ xs) ys h k = (h.0, all_append P xs ys h.1 k)

  all_weaker : (P Q : X → Type 0) → ((x : X) → P x → Q x) → (xs : List X) → AllByRecursion P xs → AllByRecursion Q xs
  all_weaker P Q f [] h = tt
  all_weaker P Q f (x ∷ xs) h = (f x h.0, all_weaker P Q f xs h.1)

-- ---- sending

-- all numbers are below one
abbrev pub AreLow : ℕ → List (ℕ × Message) → Type 0
AreLow next es = AllByRecursion (λ e. e.0 < next) es

insert_last : (es : List (ℕ × Message)) (k : ℕ) (v : Message) → AllByRecursion (λ e. e.0 < k) es → insert_entry nat_cmp es k v ≡ es ++ (k, v) ∷ []
insert_last [] k v h = refl
insert_last (e ∷ es) k v h = rw (sym (nat_cmp_is k e.0 Greater h.0), insert_last es k v h.1) refl

-- a message that is sent stands last
send_one : (m : Message) (pool : Pool) → AreLow pool.next pool.messages → length pool.messages < pool.limit → send m pool ≡ record pool { messages = pool.messages ++ (pool.next, m) ∷ []; next = pool.next + 1 }
send_one m pool low room = rw (not_full, insert_last pool.messages pool.next m low) refl
  where
    not_full : nat_le pool.limit (length pool.messages) ≡ false
    not_full = grind (arith, tests, room)

pub record SentAll (ms : List Message) (pool later : Pool) : Type 0 where
  pub new : (j : ℕ) (m : Message) → slice_get ms j ≡ Some m → (i : ℕ) × ((n : ℕ) × (slice_get later.messages i ≡ Some (n, m)))
  pub kept : (i : ℕ) (e : ℕ × Message) → slice_get pool.messages i ≡ Some e → slice_get later.messages i ≡ Some e
  pub low : AreLow later.next later.messages
  pub long : length later.messages ≡ length pool.messages + length ms
  pub limit : later.limit ≡ pool.limit

pub sent_all : (ms : List Message) (pool : Pool) → AreLow pool.next pool.messages → length pool.messages + length ms ≤ pool.limit → SentAll ms pool (send_all ms pool)
sent_all [] pool low room = record { new = λ j m at. nothing j m at; kept = λ i e at. at; low = low; long = omega arith; limit = refl }
  where
    nothing : (j : ℕ) (m : Message) → slice_get [] j ≡ Some m → (i : ℕ) × ((n : ℕ) × (slice_get pool.messages i ≡ Some (n, m)))
    nothing zero m e = absurd (cc e)
    nothing (suc j) m e = absurd (cc e)
sent_all (m ∷ ms) pool low room =
    let next : Pool = record pool { messages = pool.messages ++ (pool.next, m) ∷ []; next = pool.next + 1 } in
    let long : length next.messages ≡ length pool.messages + 1 = length-append pool.messages ((pool.next, m) ∷ []) in
    let low_next : AreLow next.next next.messages =
    all_append (λ (e : ℕ × Message). e.0 < pool.next + 1) pool.messages ((pool.next, m) ∷ []) (all_weaker (λ (e : ℕ × Message). e.0 < pool.next) (λ (e : ℕ × Message). e.0 < pool.next + 1) (λ e h. omega (arith, h)) pool.messages low) (omega arith, tt) in
    let rest : SentAll ms next (send_all ms next) = sent_all ms next low_next (omega (arith, room, long)) in
    subst (λ (p : Pool). SentAll (m ∷ ms) pool (send_all ms p)) (sym (send_one m pool low (omega (arith, room)))) (record {
      new = λ j x at. by_place rest j x at;
      kept = λ i e at. rest.kept i e (get_front pool.messages ((pool.next, m) ∷ []) i (at_within pool.messages i e at) ∙ at);
      low = rest.low;
      long = let l = rest.long in omega (arith, l, long);
      limit = rest.limit;
    })
  where
    by_place : SentAll ms (record pool { messages = pool.messages ++ (pool.next, m) ∷ []; next = pool.next + 1 }) (send_all ms (record pool { messages = pool.messages ++ (pool.next, m) ∷ []; next = pool.next + 1 }))
        → (j : ℕ) (x : Message) → slice_get (m ∷ ms) j ≡ Some x
        → (i : ℕ) × ((n : ℕ) × (slice_get (send_all ms (record pool { messages = pool.messages ++ (pool.next, m) ∷ []; next = pool.next + 1 })).messages i ≡ Some (n, x)))
    by_place rest zero x at =
        let same : m ≡ x = cc at in
        (length pool.messages, (pool.next, rest.kept (length pool.messages) (pool.next, x) (get_back pool.messages ((pool.next, m) ∷ []) (length pool.messages) 0 (omega arith) ∙ ap (λ (y : Message). Some (pool.next, y)) same)))
    by_place rest (suc j) x at = rest.new j x at

-- an entry that is not the one taken out stays
pub taken_out : (number : ℕ) (m : Message) (es : List (ℕ × Message)) (i k : ℕ) (x : Message) → lookup (is_at (nat_cmp number)) es ≡ Some m → slice_get es i ≡ Some (k, x)
    → (m ≡ x) ⊎ ((j : ℕ) × (slice_get (remove_entry (is_at (nat_cmp number)) es) j ≡ Some (k, x)))
taken_out number m [] zero k x look at = absurd (cc at)
taken_out number m [] (suc i) k x look at = absurd (cc at)
taken_out number m (e ∷ es) i k x look at = by_test (λ j h l. taken_out number m es j k x l h) (is_at (nat_cmp number) e.0) refl i at look
  where
    by_test : ((j : ℕ) → slice_get es j ≡ Some (k, x) → lookup (is_at (nat_cmp number)) es ≡ Some m → (m ≡ x) ⊎ ((p : ℕ) × (slice_get (remove_entry (is_at (nat_cmp number)) es) p ≡ Some (k, x))))
        → (b : Bool) → is_at (nat_cmp number) e.0 ≡ b → (i : ℕ) → slice_get (e ∷ es) i ≡ Some (k, x) → lookup (is_at (nat_cmp number)) (e ∷ es) ≡ Some m
        → (m ≡ x) ⊎ ((j : ℕ) × (slice_get (remove_entry (is_at (nat_cmp number)) (e ∷ es)) j ≡ Some (k, x)))
    by_test again true t zero h l =
        let first : Some e.1 ≡ Some m = sym (rw t refl) ∙ l in
        let pair : e ≡ (k, x) = cc h in
        let value : e.1 ≡ x = ap (λ (p : ℕ × Message). p.1) pair in
        let is : e.1 ≡ m = cc first in
        inl (sym is ∙ value)
    by_test again true t (suc j) h l = inr (j, rw t h)
    by_test again false t zero h l = inr (0, rw t h)
    by_test again false t (suc j) h l = by_rest (again j h (sym (rw t refl) ∙ l))
      where
        by_rest : (m ≡ x) ⊎ ((p : ℕ) × (slice_get (remove_entry (is_at (nat_cmp number)) es) p ≡ Some (k, x))) → (m ≡ x) ⊎ ((p : ℕ) × (slice_get (remove_entry (is_at (nat_cmp number)) (e ∷ es)) p ≡ Some (k, x)))
        by_rest (inl same) = inl same
        by_rest (inr (p, there)) = inr (suc p, rw t there)

-- what is sent takes nothing away, whether there is room or not
pub kept_all : (ms : List Message) (pool : Pool) → AreLow pool.next pool.messages → (i : ℕ) (e : ℕ × Message) → slice_get pool.messages i ≡ Some e → slice_get (send_all ms pool).messages i ≡ Some e
kept_all [] pool low i e at = at
kept_all (m ∷ ms) pool low i e at = elim (cases_lt (length pool.messages) pool.limit) [
  | inl room ↦
      let next : Pool = record pool { messages = pool.messages ++ (pool.next, m) ∷ []; next = pool.next + 1 } in
      let low_next : AreLow next.next next.messages =
      all_append (λ (e : ℕ × Message). e.0 < pool.next + 1) pool.messages ((pool.next, m) ∷ []) (all_weaker (λ (e : ℕ × Message). e.0 < pool.next) (λ (e : ℕ × Message). e.0 < pool.next + 1) (λ e h. omega (arith, h)) pool.messages low) (omega arith, tt) in
      subst (λ (p : Pool). slice_get (send_all ms p).messages i ≡ Some e) (sym (send_one m pool low room))
      (kept_all ms next low_next i e (get_front pool.messages ((pool.next, m) ∷ []) i (at_within pool.messages i e at) ∙ at))
  | inr full ↦
      let is_full : nat_le pool.limit (length pool.messages) ≡ true = grind (arith, tests, full) in
      let same : send m pool ≡ pool = rw is_full refl in
      subst (λ (p : Pool). slice_get (send_all ms p).messages i ≡ Some e) (sym same) (kept_all ms pool low i e at)
]

-- the first that is sent comes into a pool with room
pub first_sent : (m : Message) (ms : List Message) (pool : Pool) → AreLow pool.next pool.messages → length pool.messages < pool.limit
    → (i : ℕ) × ((n : ℕ) × (slice_get (send_all (m ∷ ms) pool).messages i ≡ Some (n, m)))
first_sent m ms pool low room =
    let next : Pool = record pool { messages = pool.messages ++ (pool.next, m) ∷ []; next = pool.next + 1 } in
    let low_next : AreLow next.next next.messages =
    all_append (λ (e : ℕ × Message). e.0 < pool.next + 1) pool.messages ((pool.next, m) ∷ []) (all_weaker (λ (e : ℕ × Message). e.0 < pool.next) (λ (e : ℕ × Message). e.0 < pool.next + 1) (λ e h. omega (arith, h)) pool.messages low) (omega arith, tt) in
    let there : slice_get next.messages (length pool.messages) ≡ Some (pool.next, m) = get_back pool.messages ((pool.next, m) ∷ []) (length pool.messages) 0 (omega arith) in
    subst (λ (p : Pool). (i : ℕ) × ((n : ℕ) × (slice_get (send_all ms p).messages i ≡ Some (n, m)))) (sym (send_one m pool low room))
    (length pool.messages, (pool.next, kept_all ms next low_next (length pool.messages) (pool.next, m) there))
