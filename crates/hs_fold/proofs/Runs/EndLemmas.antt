-- What the end of a round does in the plain store, where released roots stay no longer and what goes is unreached.
use Rattle.std.proofs.Common.{◌≡◌, ◌≢◌, inl, inr, ℕ, ◌+◌, List, [], ◌∷◌, ◌++◌, length, map, filter, Bool, true, false, cond, not, None, refl, sym, ap, ◌∙◌, arith, slice_index, slice_set}
use Rattle.std.proofs.lemmas.Bool.{ne_eqb}
use Rattle.std.proofs.lemmas.Map.Keys.{sorted_head, sorted_tail}
use Rattle.std.specs.BTreeMap.{insert_entry, is_at}
use Rattle.std.specs.List.Sorted.{IsStrictlySortedBy}
use Rattle.std.specs.Map.{lookup, keys_of}
use Rattle.hs_limits.specs.declared.address.Address.{Address}
use Rattle.hs_limits.specs.Shape.{shard_of}
use Rattle.hs_model.specs.declared.store.StoredBlock.{StoredBlock}
use Rattle.hs_model.specs.Inner.{sweep, stays, stays_in}
use Rattle.hs_model.specs.Reach.{is_among, is_swept}
use Rattle.hs_model.specs.Store.{Store, address_cmp}
use Rattle.hs_model.proofs.Members.{Member, among_from_member, member_from_among, member-map, member_of_map, member-filter, member_of_filter}
use Rattle.hs_fold.specs.Catalogue.{Present}
use Rattle.hs_fold.specs.Opened.{both}
use Rattle.hs_fold.specs.Shards.Catalogue.{Catalogue as Plain}
use Rattle.hs_fold.specs.Shards.Mine.{AreMine}
use Rattle.hs_fold.specs.Shards.Opened.{both_roots, all_present, all_roots, store_of as listed}
use Rattle.hs_fold.specs.Runs.Facts.{Facts, RootFacts, Catalogue, plain, each_block}
use Rattle.hs_fold.specs.Runs.Opened.{pruned}
use Rattle.hs_fold.specs.Runs.Rounds.{search, find_zero, is_released, spare, is_gone}
use Rattle.hs_fold.specs.Runs.Rounds.{sweep as sweep_on}
use Rattle.hs_fold.proofs.Runs.FilterLemmas.{filter-both, filter-all, filter-gone, filter-insert}
use Rattle.hs_fold.proofs.Runs.KeyLemmas.{one-entry}
use Rattle.hs_fold.proofs.Runs.StepLemmas.{same-each, set-front, zero-present}
use Rattle.hs_fold.proofs.Shards.BlockLemmas.{Apart, apart-mine, both-look, look-above, NoneOf, NoBlock, no_block_later, same-all-present}
use Rattle.hs_fold.proofs.Shards.StoreLemmas.{all_shards, all-sorted, both-sorted, same-roots, map-front, at-front, blocks-front, blocks-back, stored_of, marks_of, shards-is}

-- ---- lists

filter-both-present : (test : Address × Present → Bool) (es others : List (Address × Present)) → IsStrictlySortedBy address_cmp (keys_of es) → IsStrictlySortedBy address_cmp (keys_of others) → Apart es others
    → filter test (both es others) ≡ both (filter test es) (filter test others)
filter-both-present test [] others d o h = refl
filter-both-present test (x ∷ es) others d o h =
    filter-insert test (both es others) x.0 x.1 (both-sorted es others o) absent ∙ go (filter-both-present test es others (sorted_tail address_cmp x.0 (keys_of es) d) o h.1) (test x)
  where
    absent : lookup (is_at (address_cmp x.0)) (both es others) ≡ None
    absent = both-look es others x.0 ∙ (rw (look-above es x.0 (sorted_head address_cmp x.0 (keys_of es) d)) h.0)

    go : filter test (both es others) ≡ both (filter test es) (filter test others) → (b : Bool) → cond b (insert_entry address_cmp (filter test (both es others)) x.0 x.1) (filter test (both es others)) ≡ both (cond b (x ∷ filter test es) (filter test es)) (filter test others)
    go ih true = ap (λ rest. insert_entry address_cmp rest x.0 x.1) ih
    go ih false = ih

filter-none : (test : Address × Present → Bool) (shards shard : ℕ) → ((e : Address × Present) → shard_of shards e.0 ≢ shard → test e ≡ true) → (es : List (Address × Present)) → NoneOf shards shard es → filter test es ≡ es
filter-none test shards shard h [] n = refl
filter-none test shards shard h (e ∷ es) n = rw (h e n.0, filter-none test shards shard h es n.1) refl

filter-nothing : (test : Address × Present → Bool) (shards shard from : ℕ) → ((e : Address × Present) → shard_of shards e.0 ≢ shard → test e ≡ true) → (cs : List Plain) → NoBlock shards shard cs → AreMine shards from cs → filter test (all_present cs) ≡ all_present cs
filter-nothing test shards shard from h [] n m = refl
filter-nothing test shards shard from h (c ∷ cs) n m =
    filter-both-present test c.blocks (all_present cs) m.0.ordered (all-sorted cs) (apart-mine shards from c.blocks cs m.0.blocks (no_block_later shards from (from + 1) cs (omega arith) m.1))
    ∙ rw (filter-none test shards shard h c.blocks n.0, filter-nothing test shards shard (from + 1) h cs n.1 m.1) refl

filter-front : (test : Address × Present → Bool) (shards shard from : ℕ) → ((e : Address × Present) → shard_of shards e.0 ≢ shard → test e ≡ true) → (front back : List Plain) (c d : Plain) → d.blocks ≡ filter test c.blocks → NoBlock shards shard front → NoBlock shards shard back
    → AreMine shards from (front ++ c ∷ back) → filter test (all_present (front ++ c ∷ back)) ≡ all_present (front ++ d ∷ back)
filter-front test shards shard from h [] back c d e f b m =
    filter-both-present test c.blocks (all_present back) m.0.ordered (all-sorted back) (apart-mine shards from c.blocks back m.0.blocks (no_block_later shards from (from + 1) back (omega arith) m.1))
    ∙ rw (filter-nothing test shards shard (from + 1) h back b m.1, ← e) refl
filter-front test shards shard from h (x ∷ front) back c d e f b m =
    filter-both-present test x.blocks (all_present (front ++ c ∷ back)) m.0.ordered (all-sorted (front ++ c ∷ back)) (apart-mine shards from x.blocks (front ++ c ∷ back) m.0.blocks (no_block_later shards from (from + 1) (front ++ c ∷ back) (omega arith) m.1))
    ∙ rw (filter-none test shards shard h x.blocks f.0, filter-front test shards shard (from + 1) h front back c d e f.1 b m.1) refl

pub filter-map : {X Y : Type 0} (f : X → Y) (test : Y → Bool) (xs : List X) → filter test (map f xs) ≡ map f (filter (λ x. test (f x)) xs)
filter-map f test [] = refl
filter-map f test (x ∷ xs) = go (filter-map f test xs) (test (f x))
  where
    go : filter test (map f xs) ≡ map f (filter (λ x. test (f x)) xs) → (b : Bool) → cond b (f x ∷ filter test (map f xs)) (filter test (map f xs)) ≡ map f (cond b (x ∷ filter (λ x. test (f x)) xs) (filter (λ x. test (f x)) xs))
    go ih true = ap (λ ys. f x ∷ ys) ih
    go ih false = ih

filter-ext : {X : Type 0} (p q : X → Bool) (xs : List X) → ((x : X) → Member x xs → p x ≡ q x) → filter p xs ≡ filter q xs
filter-ext p q [] h = refl
filter-ext p q (x ∷ xs) h = rw (h x (inl refl), filter-ext p q xs (λ y m. h y (inr m))) refl

-- in a list with distinct keys, the key tells whether its entry is among those that pass
key-among : (test : Address × Present → Bool) (es : List (Address × Present)) → IsStrictlySortedBy address_cmp (keys_of es) → (e : Address × Present) → Member e es → is_among (map (λ (b : Address × StoredBlock). b.0) (stored_of (filter test es))) e.0 ≡ test e
key-among test es d e m = go (test e) refl
  where
    same-entry : (xs : List (Address × Present)) → IsStrictlySortedBy address_cmp (keys_of xs) → (y : Address × Present) → Member y xs → (z : Address × Present) → Member z xs → y.0 ≡ z.0 → y ≡ z
    same-entry xs d y m z k q = one-entry xs d y m z k q

    keys : (xs : List (Address × Present)) → map (λ (b : Address × StoredBlock). b.0) (stored_of xs) ≡ map (λ (b : Address × Present). b.0) xs
    keys [] = refl
    keys (x ∷ xs) = ap (λ ys. x.0 ∷ ys) (keys xs)

    go : (b : Bool) → test e ≡ b → is_among (map (λ (b : Address × StoredBlock). b.0) (stored_of (filter test es))) e.0 ≡ b
    go true t = rw (keys (filter test es)) (among_from_member e.0 (map (λ (b : Address × Present). b.0) (filter test es)) (member-map (λ (b : Address × Present). b.0) e (filter test es) (member-filter test e es m t)))
    go false t = none (is_among (map (λ (b : Address × StoredBlock). b.0) (stored_of (filter test es))) e.0) refl
      where
        none : (b : Bool) → is_among (map (λ (b : Address × StoredBlock). b.0) (stored_of (filter test es))) e.0 ≡ b → b ≡ false
        none false a = refl
        none true a =
            let q = member_of_map (λ (b : Address × Present). b.0) e.0 (filter test es) (member_from_among e.0 (map (λ (b : Address × Present). b.0) (filter test es)) (rw (keys (filter test es)) at a)) in
            let f = member_of_filter test q.0 es q.1 in
            let is : e ≡ q.0 = same-entry es d e m q.0 f.0 q.2 in
            cc (is, f.1, t)

module _ (front back : List Plain) (c : Catalogue) (mine : AreMine (all_shards front back) 0 (front ++ plain c ∷ back)) where
  abbrev n : ℕ
  n = all_shards front back

  abbrev s : Store
  s = listed (front ++ plain c ∷ back)

  abbrev to : Catalogue → Store
  to d = listed (front ++ plain d ∷ back)

  abbrev g : ℕ
  g = length front

  -- a round that isn't the last: nothing, where what the run lets go of counts in no epoch any more
  pub search-step : (shards : ℕ) → ((k : RootFacts) → Member k c.roots → is_released c k ≡ true → stays s k.root ≡ false) → pruned (to (search shards c)) ≡ pruned s
  search-step shards h = λ i. record { blocks = stored_of (present i); given = marks_of (present i); roots = roots i; epochs = epochs i; swept = swept i; sessions = [] }
    where
      d : Plain
      d = plain (search shards c)

      present : all_present (front ++ d ∷ back) ≡ all_present (front ++ plain c ∷ back)
      present = same-all-present front back (plain c) d (same-each (find_zero c.epoch) (zero-present c.epoch) c.blocks)

      epochs : map (λ (x : Plain). x.epoch) (front ++ d ∷ back) ≡ s.epochs
      epochs = map-front (λ (x : Plain). x.epoch) front back (plain c) d refl

      swept : map (λ (x : Plain). x.swept) (front ++ d ∷ back) ≡ s.swept
      swept = map-front (λ (x : Plain). x.swept) front back (plain c) d refl

      of_shard : filter (stays s) d.roots ≡ filter (stays s) (plain c).roots
      of_shard =
          filter-both (stays s) (map (λ (k : RootFacts). k.root) (filter (λ k. not (is_released c k)) c.roots)) [] tt
          ∙ ap (λ rs. both_roots rs []) (filter-gone (stays s) (is_released c) c.roots h)
          ∙ sym (filter-both (stays s) (map (λ (k : RootFacts). k.root) c.roots) [] tt)

      roots : (pruned (to (search shards c))).roots ≡ (pruned s).roots
      roots = ap (λ es. filter (stays_in es) (all_roots (front ++ d ∷ back))) epochs ∙ filter-all (stays s) front back (plain c) d of_shard

  -- whether the plain store's sweep leaves a block
  abbrev left : Address × Present → Bool
  left e = not (is_swept (pruned s) c.epoch g (e.0, e.1.stored))

  -- a last round: the shard's sweep, where the zero blocks that go are those that it takes
  pub sweep-step : ((e : Address × Facts) → Member e c.blocks → is_gone c.epoch e.1 ≡ is_swept (pruned s) c.epoch g (e.0, e.1.present.stored)) → pruned (to (sweep_on c)) ≡ sweep (pruned s) g
  sweep-step h = λ i. record { blocks = blocks i; given = given i; roots = roots i; epochs = epochs i; swept = swept i; sessions = [] }
    where
      d : Plain
      d = plain (sweep_on c)

      whole : List (Address × Present)
      whole = all_present (front ++ plain c ∷ back)

      now : slice_index s.epochs g ≡ c.epoch
      now = at-front (λ (x : Plain). x.epoch) front back (plain c)

      epochs : map (λ (x : Plain). x.epoch) (front ++ d ∷ back) ≡ s.epochs
      epochs = map-front (λ (x : Plain). x.epoch) front back (plain c) d refl

      swept : map (λ (x : Plain). x.swept) (front ++ d ∷ back) ≡ slice_set s.swept g (slice_index s.epochs g)
      swept = set-front (λ (x : Plain). x.swept) front back (plain c) d ∙ ap (λ k. slice_set s.swept g k) (sym now)

      roots : (pruned (to (sweep_on c))).roots ≡ (pruned s).roots
      roots = ap (λ es. filter (stays_in es) (all_roots (front ++ d ∷ back))) epochs ∙ ap (filter (stays s)) (same-roots front back (plain c) d refl)

      others : (e : Address × Present) → shard_of n e.0 ≢ g → left e ≡ true
      others e o = rw (shards-is front back (plain c) mine, ne_eqb (shard_of n e.0) g o) refl

      stay : (es : List (Address × Facts)) → ((e : Address × Facts) → Member e es → is_gone c.epoch e.1 ≡ is_swept (pruned s) c.epoch g (e.0, e.1.present.stored))
          → map {B = Address × Present} (λ (e : Address × Facts). (e.0, e.1.present)) (each_block spare (filter (λ e. not (is_gone c.epoch e.1)) es)) ≡ filter left (map {B = Address × Present} (λ (e : Address × Facts). (e.0, e.1.present)) es)
      stay [] k = refl
      stay (e ∷ es) k = go (stay es (λ x m. k x (inr m))) (is_gone c.epoch e.1) refl (k e (inl refl)) e.1.zero
        where
          go : map {B = Address × Present} (λ (e : Address × Facts). (e.0, e.1.present)) (each_block spare (filter (λ e. not (is_gone c.epoch e.1)) es)) ≡ filter left (map {B = Address × Present} (λ (e : Address × Facts). (e.0, e.1.present)) es)
              → (b : Bool) → is_gone c.epoch e.1 ≡ b → is_gone c.epoch e.1 ≡ is_swept (pruned s) c.epoch g (e.0, e.1.present.stored) → (z : Bool)
              → map {B = Address × Present} (λ (e : Address × Facts). (e.0, e.1.present)) (each_block spare (filter (λ e. not (is_gone c.epoch e.1)) (e ∷ es))) ≡ filter left (map {B = Address × Present} (λ (e : Address × Facts). (e.0, e.1.present)) (e ∷ es))
          go ih true e1 q z = rw (e1, ← q, e1) ih
          go ih false e1 q z = rw (e1, ← q, e1) (one e.1.zero)
            where
              one : (z : Bool) → (e.0, (cond z (record e.1 { counted = false; zero = false }) e.1).present) ∷ map {B = Address × Present} (λ (e : Address × Facts). (e.0, e.1.present)) (each_block spare (filter (λ e. not (is_gone c.epoch e.1)) es)) ≡ (e.0, e.1.present) ∷ filter left (map {B = Address × Present} (λ (e : Address × Facts). (e.0, e.1.present)) es)
              one true = ap (λ rest. (e.0, e.1.present) ∷ rest) ih
              one false = ap (λ rest. (e.0, e.1.present) ∷ rest) ih

      present : filter left whole ≡ all_present (front ++ d ∷ back)
      present = filter-front left n g 0 others front back (plain c) d (stay c.blocks h) (blocks-front front back (plain c) mine) (blocks-back front back (plain c) mine) mine

      kept : filter (λ (e : Address × StoredBlock). not (is_swept (pruned s) c.epoch g e)) s.blocks ≡ stored_of (filter left whole)
      kept = filter-map (λ (e : Address × Present). (e.0, e.1.stored)) (λ (e : Address × StoredBlock). not (is_swept (pruned s) c.epoch g e)) whole

      blocks : stored_of (all_present (front ++ d ∷ back)) ≡ (sweep (pruned s) g).blocks
      blocks = rw now (sym (kept ∙ ap (λ es. stored_of es) present))

      given : marks_of (all_present (front ++ d ∷ back)) ≡ (sweep (pruned s) g).given
      given = rw (now, kept) (sym (
          filter-map (λ (e : Address × Present). (e.0, e.1.mark)) (λ (e : Address × ℕ). is_among (map (λ (b : Address × StoredBlock). b.0) (stored_of (filter left whole))) e.0) whole
          ∙ ap (λ es. marks_of es) (filter-ext (λ (e : Address × Present). is_among (map (λ (b : Address × StoredBlock). b.0) (stored_of (filter left whole))) e.0) left whole (key-among left whole (all-sorted (front ++ plain c ∷ back))) ∙ present)
          ))
