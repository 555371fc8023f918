-- Blocks of a plain store taken and put by address, and roots put in their places.
use Rattle.std.proofs.Common.{◌≡◌, ℕ, ◌<◌, ◌≤◌, zero, suc, length, List, [], ◌∷◌, ◌++◌, Bool, true, false, refl, sym, ap, subst, ◌∙◌, arith, append_assoc, is_gt}
use Rattle.std.proofs.lemmas.Bool.{false≢true}
use Rattle.std.proofs.lemmas.Cmp.{upto}
use Rattle.std.proofs.lemmas.Grind.{common_steps}
use Rattle.std.proofs.lemmas.List.{map-append}
use Rattle.std.proofs.lemmas.List.Elements.{All-get_or, All-from_get_or, All-from_recursion, recursion_from_All}
use Rattle.std.proofs.lemmas.Map.Keys.{sorted_tail}
use Rattle.std.specs.BTreeMap.{insert_entry}
use Rattle.std.specs.List.{AllByRecursion, AllWithin, insert}
use Rattle.std.specs.List.Sorted.{IsPartitionedBy, IsStrictlySortedBy}
use Rattle.std.specs.Map.{keys_of}
use Rattle.std.specs.Prelude.{AllPairs, slice_index_or}
use Rattle.hs_limits.specs.declared.address.Address.{Address}
use Rattle.hs_limits.specs.declared.address.Held.{Held}
use Rattle.hs_model.specs.declared.plain.PlainBlock.{PlainBlock}
use Rattle.hs_model.specs.declared.plain.PlainRoot.{PlainRoot}
use Rattle.hs_model.specs.declared.store.StoredBlock.{StoredBlock}
use Rattle.hs_model.specs.Plain.{entry_of, root_of}
use Rattle.hs_model.specs.Store.{Root, address_cmp, place_root, root_cmp}
use Rattle.hs_model.proofs.MapLemmas.{insert-head, map-insert_entry}
use Rattle.hs_model.proofs.PlaceLemmas.{Before, Rising, place-rising, root_total}
use Rattle.hs_shard.specs.declared.facts.Facts.{Facts}
use Rattle.hs_shard.specs.declared.plain_blocks.Outline.{Outline}
use Rattle.hs_shard.specs.Adding.{AscendBlocks, AscendGiven, RiseInOrder, listed_blocks, listed_given, listed_roots, outlined}
use Rattle.hs_shard.specs.Facts.{BlockList}
use Rattle.hs_shard.specs.Plain.{add_blocks}

pub sorted_none : IsStrictlySortedBy address_cmp []
unfolding IsStrictlySortedBy
sorted_none = tt

-- ---- taken from the end

module _ {V : Type 0} where
  end_sorted : (xs ys : List (Address × V)) → IsStrictlySortedBy address_cmp (keys_of (xs ++ ys)) → IsStrictlySortedBy address_cmp (keys_of ys)
  end_sorted [] ys d = d
  end_sorted (x ∷ xs) ys d = end_sorted xs ys (sorted_tail address_cmp x.0 (keys_of (xs ++ ys)) d)

  -- the last of those that are left comes before those that are taken
  taken_last : (all rest es : List (Address × V)) (e : Address × V) → IsStrictlySortedBy address_cmp (keys_of all) → (rest ++ e ∷ []) ++ es ≡ all → rest ++ insert_entry address_cmp es e.0 e.1 ≡ all
  taken_last all rest es e d h =
      let whole : rest ++ e ∷ es ≡ all = sym (append_assoc rest (e ∷ []) es) ∙ h in
      let sorted : IsStrictlySortedBy address_cmp (keys_of (e ∷ es)) = end_sorted rest (e ∷ es) (subst (λ z. IsStrictlySortedBy address_cmp (keys_of z)) (sym whole) d) in
      ap (λ z. rest ++ z) (insert-head address_cmp e es sorted) ∙ whole

abbrev stored : Outline → StoredBlock
stored o = record { pointers = o.pointers; bytes = []; born = o.born }

pub outlined_insert : (es : List (Address × Outline)) (a : Address) (o : Outline) → outlined (insert_entry address_cmp es a o) ≡ insert_entry address_cmp (outlined es) a (stored o)
outlined_insert es a o = map-insert_entry stored address_cmp es a o

pub block_taken : (all before rest : List PlainBlock) (b : PlainBlock) (es now : List (Address × Outline)) → AscendBlocks all → before ≡ rest ++ b ∷ [] → listed_blocks before ++ outlined es ≡ listed_blocks all
    → now ≡ insert_entry address_cmp es b.address (record { pointers = b.pointers; born = b.born }) → listed_blocks rest ++ outlined now ≡ listed_blocks all
block_taken all before rest b es now d e h n =
    let split : listed_blocks before ≡ listed_blocks rest ++ entry_of b ∷ [] = ap (λ (z : List PlainBlock). listed_blocks z) e ∙ map-append entry_of rest (b ∷ []) in
    ap (λ z. listed_blocks rest ++ outlined z) n
    ∙ ap (λ z. listed_blocks rest ++ z) (outlined_insert es b.address (record { pointers = b.pointers; born = b.born }))
    ∙ taken_last (listed_blocks all) (listed_blocks rest) (outlined es) (entry_of b) d (ap (λ z. z ++ outlined es) (sym split) ∙ h)

pub given_taken : (all before rest : List Held) (held : Held) (es now : List (Address × ℕ)) → AscendGiven all → before ≡ rest ++ held ∷ [] → listed_given before ++ es ≡ listed_given all
    → now ≡ insert_entry address_cmp es held.address held.epoch → listed_given rest ++ now ≡ listed_given all
given_taken all before rest held es now d e h n =
    let pair : Held → Address × ℕ = λ held. (held.address, held.epoch) in
    let split : listed_given before ≡ listed_given rest ++ (held.address, held.epoch) ∷ [] = ap (λ (z : List Held). listed_given z) e ∙ map-append pair rest (held ∷ []) in
    ap (λ z. listed_given rest ++ z) n
    ∙ taken_last (listed_given all) (listed_given rest) es (held.address, held.epoch) d (ap (λ z. z ++ es) (sym split) ∙ h)

-- ---- put at the end

pub block_put : (before now : List PlainBlock) (b : PlainBlock) (rest after : List (Address × Outline)) (a : Address) (o : Outline) (all : List (Address × StoredBlock)) → now ≡ before ++ b ∷ [] → rest ≡ (a, o) ∷ after
    → entry_of b ≡ (a, stored o) → listed_blocks before ++ outlined rest ≡ all → listed_blocks now ++ outlined after ≡ all
block_put before now b rest after a o all n r e h =
    ap (λ (z : List PlainBlock). listed_blocks z ++ outlined after) n
    ∙ ap (λ z. z ++ outlined after) (map-append entry_of before (b ∷ []))
    ∙ append_assoc (listed_blocks before) (entry_of b ∷ []) (outlined after)
    ∙ ap (λ z. listed_blocks before ++ z ∷ outlined after) e
    ∙ ap (λ z. listed_blocks before ++ outlined z) (sym r)
    ∙ h

pub given_put : (before now : List Held) (held : Held) (rest after all : List (Address × ℕ)) → now ≡ before ++ held ∷ [] → rest ≡ (held.address, held.epoch) ∷ after → listed_given before ++ rest ≡ all → listed_given now ++ after ≡ all
given_put before now held rest after all n r h =
    let pair : Held → Address × ℕ = λ held. (held.address, held.epoch) in
    ap (λ (z : List Held). listed_given z ++ after) n
    ∙ ap (λ z. z ++ after) (map-append pair before (held ∷ []))
    ∙ append_assoc (listed_given before) ((held.address, held.epoch) ∷ []) after
    ∙ ap (λ z. listed_given before ++ z) (sym r)
    ∙ h

-- ---- those of a shard

pub block_added : (es after : BlockList) (a : Address) (f : Facts) (m n : List (Address × Outline)) (pointers : List Address) → es ≡ (a, f) ∷ after → pointers ≡ f.pointers
    → n ≡ insert_entry address_cmp m a (record { pointers = pointers; born = f.born }) → add_blocks after (outlined n) ≡ add_blocks es (outlined m)
block_added es after a f m n pointers e p i =
    let with_pointers : List Address → StoredBlock = λ pointers. record { pointers = pointers; bytes = []; born = f.born } in
    ap (λ z. add_blocks after (outlined z)) i
    ∙ ap (λ z. add_blocks after z) (outlined_insert m a (record { pointers = pointers; born = f.born }))
    ∙ ap (λ z. add_blocks after (insert_entry address_cmp (outlined m) a (with_pointers z))) p
    ∙ ap (λ z. add_blocks z (outlined m)) (sym e)

pub keys_outlined : (es : List (Address × Outline)) → keys_of (outlined es) ≡ keys_of es
keys_outlined [] = refl
keys_outlined (e ∷ es) = ap (λ z. e.0 ∷ z) (keys_outlined es)

-- ---- roots

-- whether a root comes after another one
abbrev pub is_after : PlainRoot → PlainRoot → Bool
is_after root other = is_gt (root_cmp (root_of root) (root_of other))

pub placed_at : (root : PlainRoot) (rs : List PlainRoot) (i : ℕ) → i ≤ length rs → AllWithin (λ x. is_after root x ≡ true) rs 0 i → AllWithin (λ x. is_after root x ≡ false) rs i (length rs)
    → listed_roots (insert rs i root) ≡ place_root (root_of root) (listed_roots rs)
placed_at root [] zero l p q = refl
placed_at root [] (suc i) l p q = absurd (omega (arith, l))
placed_at root (x ∷ rs) zero l p q = rw (q 0 x (omega arith) (omega arith)) refl
placed_at root (x ∷ rs) (suc i) l p q =
    rw (p 0 x (omega arith) (omega arith))
    (ap (λ z. root_of x ∷ z) (placed_at root rs i (omega (arith, l)) (λ k d a b. p (suc k) d (omega arith) (omega (arith, b))) (λ k d a b. q (suc k) d (omega (arith, a)) (omega (arith, b)))))

-- pairs in order, and the same by recursion
rising_from : (rs : List Root) → AllPairs (λ first later. is_gt (root_cmp first later) ≡ false) rs → Rising rs
rising_from [] f = tt
rising_from (r ∷ rs) f = (
  recursion_from_All (Before r) rs (All-from_get_or (Before r) rs r (λ j l. f 0 (suc j) r (omega arith) (grind (arith, common_steps, l)))),
  rising_from rs (λ i j d l m. f (suc i) (suc j) d (omega (arith, l)) (grind (arith, common_steps, m))),
)

pairs_from : (rs : List Root) → Rising rs → AllPairs (λ first later. is_gt (root_cmp first later) ≡ false) rs
pairs_from [] h i j d l m = absurd (omega (arith, m))
pairs_from (r ∷ rs) h i zero d l m = absurd (omega (arith, l))
pairs_from (r ∷ rs) h zero (suc j) d l m = All-get_or (Before r) rs j d (grind (arith, common_steps, m)) (All-from_recursion (Before r) rs h.0)
pairs_from (r ∷ rs) h (suc i) (suc j) d l m = pairs_from rs h.1 i j d (omega (arith, l)) (grind (arith, common_steps, m))

pub placed_rise : (rs now : List PlainRoot) (root : PlainRoot) → RiseInOrder rs → listed_roots now ≡ place_root (root_of root) (listed_roots rs) → RiseInOrder now
placed_rise rs now root h e =
    subst (λ z. AllPairs (λ first later. is_gt (root_cmp first later) ≡ false) z) (sym e) (pairs_from (place_root (root_of root) (listed_roots rs)) (place-rising (root_of root) (listed_roots rs) (rising_from (listed_roots rs) h)))

-- a root that is past another, which is not past a third, is past the third's place
past : (a b x : Root) → is_gt (root_cmp a x) ≡ true → is_gt (root_cmp b x) ≡ false → is_gt (root_cmp a b) ≡ true
past a b x p q = go (is_gt (root_cmp a b)) refl
  where
    go : (c : Bool) → is_gt (root_cmp a b) ≡ c → c ≡ true
    go true e = refl
    go false e = absurd (false≢true (sym (upto root_total a b x e q) ∙ p))

-- what a root comes after stands before what it does not come after
after_by_recursion : (root : PlainRoot) (rs : List PlainRoot) → Rising (listed_roots rs) → (i j : ℕ) (d : PlainRoot) → i ≤ j → j < length rs → is_after root (slice_index_or rs j d) ≡ true → is_after root (slice_index_or rs i d) ≡ true
after_by_recursion root [] h i j d l m t = absurd (omega (arith, m))
after_by_recursion root (r ∷ rs) h zero zero d l m t = t
after_by_recursion root (r ∷ rs) h zero (suc j) d l m t = past (root_of root) (root_of r) (root_of (slice_index_or rs j d)) t (later rs j h.0 (grind (arith, common_steps, m)))
  where
    later : (xs : List PlainRoot) (j : ℕ) → AllByRecursion (Before (root_of r)) (listed_roots xs) → j < length xs → is_gt (root_cmp (root_of r) (root_of (slice_index_or xs j d))) ≡ false
    later [] j a m = absurd (omega (arith, m))
    later (x ∷ xs) zero a m = a.0
    later (x ∷ xs) (suc j) a m = later xs j a.1 (grind (arith, common_steps, m))
after_by_recursion root (r ∷ rs) h (suc i) zero d l m t = absurd (omega (arith, l))
after_by_recursion root (r ∷ rs) h (suc i) (suc j) d l m t = after_by_recursion root rs h.1 i j d (omega (arith, l)) (grind (arith, common_steps, m)) t

pub after_is_front : (root : PlainRoot) (rs : List PlainRoot) → RiseInOrder rs → IsPartitionedBy (λ other. is_after root other) rs
after_is_front root rs h = after_by_recursion root rs (rising_from (listed_roots rs) h)
