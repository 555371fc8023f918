-- What an entry does to one catalogue is what its change does to the store of all.
use Rattle.std.proofs.Common.{◌≡◌, ◌≢◌, inl, inr, ℕ, suc, ◌+◌, ◌<◌, ◌≤◌, ◌==◌, ◌&&◌, List, [], ◌∷◌, ◌++◌, length, map, Bool, true, false, cond, not, Option, Some, None, is_none, Result, Ok, Err, refl, sym, ap, ◌∙◌, subst, arith, nat_le, nat_lt, slice_index, count_by, find, bytes_eq}
use Rattle.std.proofs.lemmas.Bool.{and_parts, eq-eqb, ne_eqb, cases_eq}
use Rattle.std.proofs.lemmas.Bool.Decides.{nat_tests}
use Rattle.std.proofs.lemmas.List.Sums.{sum_by-cons}
use Rattle.std.proofs.lemmas.Map.Made.{lookup-map_values, keys_of-map_values}
use Rattle.std.proofs.lemmas.Map.Steps.{set_value_same}
use Rattle.std.proofs.lemmas.Slice.Eq.{bytes_eq-Decides}
use Rattle.std.specs.BTreeMap.{insert_entry, is_at}
use Rattle.std.specs.List.{AllByRecursion}
use Rattle.std.specs.List.Sorted.{IsStrictlySortedBy}
use Rattle.std.specs.Map.{keys_of, lookup, set_value}
use Rattle.std.specs.Option.{option_map}
use Rattle.hs_limits.specs.declared.address.Address.{Address}
use Rattle.hs_limits.specs.declared.spelling.SpellingFault.{SpellingFault}
use Rattle.hs_limits.specs.Block.{Block}
use Rattle.hs_limits.specs.Limits.{greatest_limits}
use Rattle.hs_limits.specs.Reading.{read_block}
use Rattle.hs_limits.specs.Shape.{shard_of, shard_of_key}
use Rattle.hs_model.specs.declared.reply.Reply.{Reply}
use Rattle.hs_model.specs.declared.reply.Reply.TheVariants as reply
use Rattle.hs_model.specs.declared.store.StoredBlock.{StoredBlock}
use Rattle.hs_model.specs.Judge.{drop_root, roots_with}
use Rattle.hs_model.specs.Refusals.{shard_full, key_taken, roots_full, keeps_other, refused_when}
use Rattle.hs_model.specs.Store.{Store, Root, address_cmp, block_at, epoch_at, shard_at, blocks_in, with_block, blocks_with, retained_at, roots_in, root_epoch, is_retained, place_root, without_first, with_roots}
use Rattle.hs_model.proofs.MapLemmas.{map-insert_entry, insert-present}
use Rattle.hs_laws.proofs.OrderLemmas.{address_total, Rising, insert-sorted, none-sorted}
use Rattle.hs_model.specs.Reach.{is_same}
use Rattle.hs_model.proofs.Members.{same_from, at_is_same}
use Rattle.hs_entry.specs.declared.entry.Entry.{Entry}
use Rattle.hs_entry.specs.declared.entry.Entry.TheVariants as kind
use Rattle.hs_fold.proofs.Shards.BlockLemmas.{NoBlock, look-all, insert-all-present, same-all-present, counted, counted-all, is_of, no_block_later, no_block_before}
use Rattle.hs_fold.proofs.Shards.MineLemmas.{from-rising}
use Rattle.hs_fold.proofs.Shards.RootLemmas.{both-place, place-both, both-rising, both-without, both-find, without-both, find-both, both-each, NonePass, passing, passing-is, passing-both}
use Rattle.hs_fold.specs.Catalogue.{Present, Shard, fresh_present}
use Rattle.hs_fold.specs.Lawful.{shard_at as shard_in}
use Rattle.hs_fold.specs.Opened.{both}
use Rattle.hs_fold.specs.Shards.Catalogue.{Catalogue, present_at, is_fresh, has_room, with_present, store_block, is_marked, marked, give_block, retained_in, retained_count, takes_root, keep_root, drop_key, apply}
use Rattle.hs_fold.specs.Shards.Change.{stores, gives, keeps, drops, is_usable, may_keep, change}
use Rattle.hs_fold.specs.Shards.Happening.{changes, happen_by, block_happens, mark_happens, key_happens, happening_of}
use Rattle.hs_fold.specs.Shards.Mine.{IsMine, AreMine}
use Rattle.hs_fold.specs.Shards.Opened.{all_present, all_roots, both_roots, store_of}

-- ---- the place of a shard

pub at-front : {X : Type 0} (f : X → ℕ) (front back : List X) (c : X) → slice_index (map f (front ++ c ∷ back)) (length front) ≡ f c
at-front f [] back c = refl
at-front f (x ∷ front) back c = at-front f front back c

pub length-front : {X : Type 0} (f : X → ℕ) (front back : List X) (c : X) → length (map f (front ++ c ∷ back)) ≡ length front + (1 + length back)
length-front f [] [] c = refl
length-front f [] (b ∷ back) c = let rest = length-front f [] back b in omega (arith, rest)
length-front f (x ∷ front) back c = let rest = length-front f front back c in omega (arith, rest)

pub map-front : {X : Type 0} (f : X → ℕ) (front back : List X) (c d : X) → f d ≡ f c → map f (front ++ d ∷ back) ≡ map f (front ++ c ∷ back)
map-front f [] back c d e = ap (λ n. n ∷ map f back) e
map-front f (x ∷ front) back c d e = ap (λ rest. f x ∷ rest) (map-front f front back c d e)

-- ---- roots of other shards

abbrev NotOf : ℕ → ℕ → List Root → Type 0
NotOf shards shard rs = AllByRecursion (λ (r : Root). shard_of_key shards r.key ≢ shard) rs

abbrev NoRoot : ℕ → ℕ → List Catalogue → Type 0
NoRoot shards shard [] = Unit {0}
NoRoot shards shard (c ∷ cs) = NotOf shards shard c.roots × NoRoot shards shard cs

not_of_mine : (shards shard other : ℕ) (rs : List Root) → shard ≢ other → AllByRecursion (λ (r : Root). shard_of_key shards r.key ≡ shard) rs → NotOf shards other rs
not_of_mine shards shard other [] differs h = tt
not_of_mine shards shard other (r ∷ rs) differs h = ((λ same. differs (sym h.0 ∙ same)), not_of_mine shards shard other rs differs h.1)

no_root_later : (shards shard from : ℕ) (cs : List Catalogue) → shard < from → AreMine shards from cs → NoRoot shards shard cs
no_root_later shards shard from [] low h = tt
no_root_later shards shard from (c ∷ cs) low h = (not_of_mine shards from shard c.roots (λ same. omega (arith, low, same)) h.0.roots, no_root_later shards shard (from + 1) cs (omega (arith, low)) h.1)

no_root_before : (shards shard from : ℕ) (front rest : List Catalogue) → from + length front ≤ shard → AreMine shards from (front ++ rest) → NoRoot shards shard front
no_root_before shards shard from [] rest low h = tt
no_root_before shards shard from (c ∷ front) rest low h = (not_of_mine shards from shard c.roots (λ same. omega (arith, low, same)) h.0.roots, no_root_before shards shard (from + 1) front rest (omega (arith, low)) h.1)

none-pass : (shards shard : ℕ) (key : List ℕ) (rs : List Root) → shard_of_key shards key ≡ shard → NotOf shards shard rs → NonePass (is_retained key) rs
none-pass shards shard key [] mine h = tt
none-pass shards shard key (r ∷ rs) mine h = (go (is_retained key r) refl, none-pass shards shard key rs mine h.1)
  where
    go : (t : Bool) → is_retained key r ≡ t → is_retained key r ≡ false
    go true e =
        let both = and_parts (is_none r.dropped) (bytes_eq r.key key) e in
        let same : r.key ≡ key = (bytes_eq-Decides r.key key).0 both.1 in
        absurd (h.0 (ap (λ k. shard_of_key shards k) same ∙ mine))
    go false e = e

all-none-pass : (shards shard : ℕ) (key : List ℕ) (cs : List Catalogue) → shard_of_key shards key ≡ shard → NoRoot shards shard cs → NonePass (is_retained key) (all_roots cs)
all-none-pass shards shard key [] mine h = tt
all-none-pass shards shard key (c ∷ cs) mine h = both-each (λ r. is_retained key r ≡ false) c.roots (all_roots cs) (none-pass shards shard key c.roots mine h.0) (all-none-pass shards shard key cs mine h.1)

pub all-rising : (cs : List Catalogue) → Rising (all_roots cs)
all-rising [] = tt
all-rising (c ∷ cs) = both-rising c.roots (all_roots cs) (all-rising cs)

find-all : (shards shard : ℕ) (key : List ℕ) (front back : List Catalogue) (c : Catalogue) → shard_of_key shards key ≡ shard → NoRoot shards shard front → NoRoot shards shard back → Rising c.roots
    → find (is_retained key) (all_roots (front ++ c ∷ back)) ≡ find (is_retained key) c.roots
find-all shards shard key [] back c mine f b r = both-find (is_retained key) c.roots (all_roots back) r (all-none-pass shards shard key back mine b)
find-all shards shard key (x ∷ front) back c mine f b r = find-both (is_retained key) x.roots (all_roots (front ++ c ∷ back)) (none-pass shards shard key x.roots mine f.0) ∙ find-all shards shard key front back c mine f.1 b r

without-roots : (shards shard : ℕ) (key : List ℕ) (front back : List Catalogue) (c d : Catalogue) → shard_of_key shards key ≡ shard → d.roots ≡ without_first (is_retained key) c.roots → NoRoot shards shard front → NoRoot shards shard back → Rising c.roots
    → all_roots (front ++ d ∷ back) ≡ without_first (is_retained key) (all_roots (front ++ c ∷ back))
without-roots shards shard key [] back c d mine e f b r = ap (λ rs. both_roots rs (all_roots back)) e ∙ sym (both-without (is_retained key) c.roots (all_roots back) r (all-rising back) (all-none-pass shards shard key back mine b))
without-roots shards shard key (x ∷ front) back c d mine e f b r =
    ap (λ rest. both_roots x.roots rest) (without-roots shards shard key front back c d mine e f.1 b r)
    ∙ sym (without-both (is_retained key) x.roots (all_roots (front ++ c ∷ back)) (all-rising (front ++ c ∷ back)) (none-pass shards shard key x.roots mine f.0))

place-roots : (front back : List Catalogue) (c d : Catalogue) (root : Root) → d.roots ≡ place_root root c.roots → all_roots (front ++ d ∷ back) ≡ place_root root (all_roots (front ++ c ∷ back))
place-roots [] back c d root e = ap (λ rs. both_roots rs (all_roots back)) e ∙ both-place c.roots (all_roots back) root
place-roots (x ∷ front) back c d root e = ap (λ rest. both_roots x.roots rest) (place-roots front back c d root e) ∙ place-both x.roots (all_roots (front ++ c ∷ back)) root

pub same-roots : (front back : List Catalogue) (c d : Catalogue) → d.roots ≡ c.roots → all_roots (front ++ d ∷ back) ≡ all_roots (front ++ c ∷ back)
same-roots [] back c d e = ap (λ rs. both_roots rs (all_roots back)) e
same-roots (x ∷ front) back c d e = ap (λ rest. both_roots x.roots rest) (same-roots front back c d e)

-- how many of a shard's roots are retained

abbrev stands : ℕ → ℕ → Root → Bool
stands shards shard root = is_none root.dropped && shard_of_key shards root.key == shard

passing-none : (shards shard : ℕ) (rs : List Root) → NotOf shards shard rs → passing (stands shards shard) rs ≡ 0
passing-none shards shard [] h = refl
passing-none shards shard (r ∷ rs) h = go (passing-none shards shard rs h.1) (is_none r.dropped)
  where
    go : passing (stands shards shard) rs ≡ 0 → (b : Bool) → cond (b && shard_of_key shards r.key == shard) 1 0 + passing (stands shards shard) rs ≡ 0
    go rest true = rw (ne_eqb (shard_of_key shards r.key) shard h.0) (omega (arith, rest))
    go rest false = omega (arith, rest)

passing-mine : (shards shard : ℕ) (rs : List Root) → AllByRecursion (λ (r : Root). shard_of_key shards r.key ≡ shard) rs → passing (stands shards shard) rs ≡ passing (λ (r : Root). is_none r.dropped) rs
passing-mine shards shard [] h = refl
passing-mine shards shard (r ∷ rs) h = go (passing-mine shards shard rs h.1) (is_none r.dropped)
  where
    go : passing (stands shards shard) rs ≡ passing (λ (r : Root). is_none r.dropped) rs → (b : Bool) → cond (b && shard_of_key shards r.key == shard) 1 0 + passing (stands shards shard) rs ≡ cond b 1 0 + passing (λ (r : Root). is_none r.dropped) rs
    go rest true = rw (eq-eqb (shard_of_key shards r.key) shard h.0) (omega (arith, rest))
    go rest false = omega (arith, rest)

passing-nothing : (shards shard : ℕ) (cs : List Catalogue) → NoRoot shards shard cs → passing (stands shards shard) (all_roots cs) ≡ 0
passing-nothing shards shard [] h = refl
passing-nothing shards shard (c ∷ cs) h =
    let all = passing-both (stands shards shard) c.roots (all_roots cs) in
    let here = passing-none shards shard c.roots h.0 in
    let rest = passing-nothing shards shard cs h.1 in
    omega (arith, all, here, rest)

passing-all : (shards shard : ℕ) (front back : List Catalogue) (c : Catalogue) → NoRoot shards shard front → NoRoot shards shard back → AllByRecursion (λ (r : Root). shard_of_key shards r.key ≡ shard) c.roots
    → passing (stands shards shard) (all_roots (front ++ c ∷ back)) ≡ passing (λ (r : Root). is_none r.dropped) c.roots
passing-all shards shard [] back c f b h =
    let all = passing-both (stands shards shard) c.roots (all_roots back) in
    let here = passing-mine shards shard c.roots h in
    let rest = passing-nothing shards shard back b in
    omega (arith, all, here, rest)
passing-all shards shard (x ∷ front) back c f b h =
    let all = passing-both (stands shards shard) x.roots (all_roots (front ++ c ∷ back)) in
    let here = passing-none shards shard x.roots f.0 in
    let rest = passing-all shards shard front back c f.1 b h in
    omega (arith, all, here, rest)

-- ---- small things

abbrev pub stored_of : List (Address × Present) → List (Address × StoredBlock)
stored_of es = map (λ e. (e.0, e.1.stored)) es

abbrev pub marks_of : List (Address × Present) → List (Address × ℕ)
marks_of es = map (λ e. (e.0, e.1.mark)) es

count-stored : (shards shard : ℕ) (es : List (Address × Present)) → count_by (λ (e : Address × StoredBlock). shard_of shards e.0 == shard) (stored_of es) ≡ counted (is_of shards shard) es
count-stored shards shard [] = refl
count-stored shards shard (e ∷ es) =
    sum_by-cons (λ (x : Address × StoredBlock). cond (shard_of shards x.0 == shard) 1 0) (e.0, e.1.stored) (stored_of es)
    ∙ ap (λ n. cond (shard_of shards e.0 == shard) 1 0 + n) (count-stored shards shard es)

below : (n limit : ℕ) → not (nat_le limit n) ≡ nat_lt n limit
below n limit = grind (arith, nat_tests)

none-refused : (test : Bool) (refusal : Reply) → is_none (refused_when test refusal) ≡ not test
none-refused true refusal = refl
none-refused false refusal = refl

pub both-sorted : (es others : List (Address × Present)) → IsStrictlySortedBy address_cmp (keys_of others) → IsStrictlySortedBy address_cmp (keys_of (both es others))
both-sorted [] others d = d
both-sorted (e ∷ es) others d = insert-sorted address_cmp address_total (both es others) e.0 e.1 (both-sorted es others d)

pub all-sorted : (cs : List Catalogue) → IsStrictlySortedBy address_cmp (keys_of (all_present cs))
all-sorted [] = none-sorted address_cmp
all-sorted (c ∷ cs) = both-sorted c.blocks (all_present cs) (all-sorted cs)

pub found-mine : (shards shard : ℕ) (es : List (Address × Present)) (a : Address) (kept : Present) → AllByRecursion (λ b. shard_of shards b ≡ shard) (keys_of es) → lookup (is_at (address_cmp a)) es ≡ Some kept → shard_of shards a ≡ shard
found-mine shards shard [] a kept h e = cc e
found-mine shards shard (x ∷ es) a kept h e = go (found-mine shards shard es a kept h.1) (is_same a x.0) refl e
  where
    go : (lookup (is_at (address_cmp a)) es ≡ Some kept → shard_of shards a ≡ shard) → (t : Bool) → is_same a x.0 ≡ t → lookup (is_at (address_cmp a)) (x ∷ es) ≡ Some kept → shard_of shards a ≡ shard
    go ih true t f = ap (λ b. shard_of shards b) (same_from a x.0 t) ∙ h.0
    go ih false t f =
        let test : is_at (address_cmp a) x.0 ≡ false = at_is_same a x.0 ∙ t in
        ih (sym (ap (λ b. cond b (Some x.1) (lookup (is_at (address_cmp a)) es)) test) ∙ f)

-- ---- one shard among others

abbrev pub all_shards : List Catalogue → List Catalogue → ℕ
all_shards front back = length front + (1 + length back)

module _ (front back : List Catalogue) (c : Catalogue) (mine : AreMine (all_shards front back) 0 (front ++ c ∷ back)) where
  abbrev n : ℕ
  n = all_shards front back

  abbrev g : ℕ
  g = length front

  abbrev s : Store
  s = store_of (front ++ c ∷ back)

  abbrev to : Catalogue → Store
  to d = store_of (front ++ d ∷ back)

  its : (from : ℕ) (front' : List Catalogue) → AreMine n from (front' ++ c ∷ back) → IsMine n (from + length front') c × AreMine n (from + length front' + 1) back
  its from [] h = subst (λ k. IsMine n k c × AreMine n (k + 1) back) (zero-right from) h
    where
      zero-right : (k : ℕ) → k ≡ k + 0
      zero-right k = omega arith
  its from (x ∷ front') h = subst (λ k. IsMine n k c × AreMine n (k + 1) back) (shift from (length front')) (its (from + 1) front' h.1)
    where
      shift : (a b : ℕ) → a + 1 + b ≡ a + suc b
      shift a b = omega arith

  parts : IsMine n g c × AreMine n (g + 1) back
  parts = subst (λ k. IsMine n k c × AreMine n (k + 1) back) (zero-left g) (its 0 front mine)
    where
      zero-left : (k : ℕ) → 0 + k ≡ k
      zero-left k = omega arith

  pub own : IsMine n g c
  own = parts.0

  pub blocks-front : NoBlock n g front
  blocks-front = no_block_before n g 0 front (c ∷ back) (omega arith) mine

  pub blocks-back : NoBlock n g back
  blocks-back = no_block_later n g (g + 1) back (omega arith) parts.1

  roots-front : NoRoot n g front
  roots-front = no_root_before n g 0 front (c ∷ back) (omega arith) mine

  roots-back : NoRoot n g back
  roots-back = no_root_later n g (g + 1) back (omega arith) parts.1

  pub shards-is : length s.epochs ≡ n
  shards-is = length-front (λ (d : Catalogue). d.epoch) front back c

  epochs-is : (d : Catalogue) → d.epoch ≡ c.epoch → (to d).epochs ≡ s.epochs
  epochs-is d e = map-front (λ (d : Catalogue). d.epoch) front back c d e

  swept-is : (d : Catalogue) → d.swept ≡ c.swept → (to d).swept ≡ s.swept
  swept-is d e = map-front (λ (d : Catalogue). d.swept) front back c d e

  -- ---- what is looked up in the shard

  module _ (a : Address) (here : shard_of n a ≡ g) where
    shard-is : shard_at s a ≡ g
    shard-is = ap (λ k. shard_of k a) shards-is ∙ here

    epoch-is : epoch_at s a ≡ c.epoch
    epoch-is = ap (λ k. slice_index s.epochs k) shard-is ∙ at-front (λ (d : Catalogue). d.epoch) front back c

    look-is : lookup (is_at (address_cmp a)) (all_present (front ++ c ∷ back)) ≡ present_at c a
    look-is = look-all n g front back c a here blocks-front blocks-back

    pub block-is : block_at s a ≡ option_map (λ kept. kept.stored) (present_at c a)
    block-is = lookup-map_values (λ (kept : Present). kept.stored) (is_at (address_cmp a)) (all_present (front ++ c ∷ back)) ∙ ap (λ f. option_map (λ (kept : Present). kept.stored) f) look-is

    count-is : blocks_in s (shard_at s a) ≡ length c.blocks
    count-is =
        ap (λ k. blocks_in s k) shard-is
        ∙ ap (λ k. count_by (λ (e : Address × StoredBlock). shard_of k e.0 == g) s.blocks) shards-is
        ∙ count-stored n g (all_present (front ++ c ∷ back))
        ∙ counted-all n g 0 front back c (omega arith) mine

    pub usable-is : (least : ℕ) → is_usable s least a ≡ is_fresh c least
    usable-is least = ap (λ k. nat_le k (least + 1)) epoch-is

    room-is : present_at c a ≡ None → is_none (shard_full greatest_limits s a) ≡ has_room c
    room-is absent =
        let gone : block_at s a ≡ None = block-is ∙ ap (λ f. option_map (λ (kept : Present). kept.stored) f) absent in
        none-refused (is_none (block_at s a) && nat_le greatest_limits.blocks (blocks_in s (shard_at s a))) (reply.ShardFull greatest_limits.blocks)
        ∙ ap (λ found. not (is_none found && nat_le greatest_limits.blocks (blocks_in s (shard_at s a)))) gone
        ∙ ap (λ k. not (nat_le greatest_limits.blocks k)) count-is
        ∙ below (length c.blocks) greatest_limits.blocks

    -- ---- Block

    with-is : (number : ℕ) (block : Block) → present_at c a ≡ None → with_block s a block ≡ to (with_present c a (fresh_present c.epoch number block))
    with-is number block absent =
        let kept : Present = fresh_present c.epoch number block in
        let d : Catalogue = with_present c a kept in
        let gone : block_at s a ≡ None = block-is ∙ ap (λ f. option_map (λ (k : Present). k.stored) f) absent in
        let present : all_present (front ++ d ∷ back) ≡ insert_entry address_cmp (all_present (front ++ c ∷ back)) a kept = insert-all-present n g front back c d a kept here refl blocks-front in
        let blocks : blocks_with (block_at s a) s.blocks a block (epoch_at s a) ≡ (to d).blocks =
        rw (gone, epoch-is) (sym (ap (λ es. stored_of es) present ∙ map-insert_entry (λ (k : Present). k.stored) address_cmp (all_present (front ++ c ∷ back)) a kept)) in
        let given : insert_entry address_cmp s.given a (epoch_at s a) ≡ (to d).given =
        rw epoch-is (sym (ap (λ es. marks_of es) present ∙ map-insert_entry (λ (k : Present). k.mark) address_cmp (all_present (front ++ c ∷ back)) a kept)) in
        let roots : s.roots ≡ (to d).roots = sym (same-roots front back c d refl) in
        let epochs : s.epochs ≡ (to d).epochs = sym (epochs-is d refl) in
        let swept : s.swept ≡ (to d).swept = sym (swept-is d refl) in
        λ i. record { blocks = blocks i; given = given i; roots = roots i; epochs = epochs i; swept = swept i; sessions = [] }

    -- ---- Mark

    given-is : (kept : Present) → present_at c a ≡ Some kept
        → record s { given = insert_entry address_cmp s.given a (epoch_at s a) } ≡ to (record c { blocks = set_value (is_at (address_cmp a)) c.blocks (record kept { mark = c.epoch }) })
    given-is kept found =
        let all : List (Address × Present) = all_present (front ++ c ∷ back) in
        let later : Present = record kept { mark = c.epoch } in
        let d : Catalogue = record c { blocks = set_value (is_at (address_cmp a)) c.blocks later } in
        let present : all_present (front ++ d ∷ back) ≡ insert_entry address_cmp all a later = insert-all-present n g front back c d a later here (sym (insert-present address_cmp address_total c.blocks a kept later own.ordered found)) blocks-front in
        let stored : lookup (is_at (address_cmp a)) (stored_of all) ≡ Some kept.stored = block-is ∙ ap (λ f. option_map (λ (k : Present). k.stored) f) found in
        let sorted : IsStrictlySortedBy address_cmp (keys_of (stored_of all)) = subst (λ ks. IsStrictlySortedBy address_cmp ks) (sym (keys_of-map_values (λ (k : Present). k.stored) all)) (all-sorted (front ++ c ∷ back)) in
        let blocks : s.blocks ≡ (to d).blocks =
        sym (ap (λ es. stored_of es) present ∙ map-insert_entry (λ (k : Present). k.stored) address_cmp all a later
        ∙ insert-present address_cmp address_total (stored_of all) a kept.stored kept.stored sorted stored
        ∙ set_value_same (is_at (address_cmp a)) (stored_of all) kept.stored stored) in
        let given : insert_entry address_cmp s.given a (epoch_at s a) ≡ (to d).given =
        rw epoch-is (sym (ap (λ es. marks_of es) present ∙ map-insert_entry (λ (k : Present). k.mark) address_cmp all a later)) in
        let roots : s.roots ≡ (to d).roots = sym (same-roots front back c d refl) in
        let epochs : s.epochs ≡ (to d).epochs = sym (epochs-is d refl) in
        let swept : s.swept ≡ (to d).swept = sym (swept-is d refl) in
        λ i. record { blocks = blocks i; given = given i; roots = roots i; epochs = epochs i; swept = swept i; sessions = [] }

  -- ---- the store with other roots of the shard

  roots-to : (d : Catalogue) (roots : List Root) → d.blocks ≡ c.blocks → d.epoch ≡ c.epoch → d.swept ≡ c.swept → all_roots (front ++ d ∷ back) ≡ roots → with_roots s roots ≡ to d
  roots-to d roots b e w r =
      let present = same-all-present front back c d b in
      let blocks : s.blocks ≡ (to d).blocks = sym (ap (λ es. stored_of es) present) in
      let given : s.given ≡ (to d).given = sym (ap (λ es. marks_of es) present) in
      let epochs : s.epochs ≡ (to d).epochs = sym (epochs-is d e) in
      let swept : s.swept ≡ (to d).swept = sym (swept-is d w) in
      λ i. record { blocks = blocks i; given = given i; roots = sym r i; epochs = epochs i; swept = swept i; sessions = [] }

  module _ (key : List ℕ) (here : shard_of_key n key ≡ g) where
    key-is : shard_of_key (length s.epochs) key ≡ g
    key-is = ap (λ k. shard_of_key k key) shards-is ∙ here

    pub key-epoch : root_epoch s key ≡ c.epoch
    key-epoch = ap (λ k. slice_index s.epochs k) key-is ∙ at-front (λ (d : Catalogue). d.epoch) front back c

    retained-is : retained_at s key ≡ retained_in c key
    retained-is = find-all n g key front back c here roots-front roots-back (from-rising c.roots own.rising)

    roots-count : roots_in s (shard_of_key (length s.epochs) key) ≡ retained_count c.roots
    roots-count =
        ap (λ k. roots_in s k) key-is
        ∙ ap (λ k. count_by (stands k g) s.roots) shards-is
        ∙ passing-is (stands n g) s.roots
        ∙ passing-all n g front back c roots-front roots-back own.roots
        ∙ sym (passing-is (λ (r : Root). is_none r.dropped) c.roots)

    full-is : is_none (roots_full greatest_limits s key) ≡ takes_root c.roots (retained_in c key)
    full-is =
        none-refused (is_none (retained_at s key) && nat_le greatest_limits.roots (roots_in s (shard_of_key (length s.epochs) key))) (reply.RootsFull greatest_limits.roots)
        ∙ ap (λ f. not (is_none f && nat_le greatest_limits.roots (roots_in s (shard_of_key (length s.epochs) key)))) retained-is
        ∙ ap (λ k. not (is_none (retained_in c key) && nat_le greatest_limits.roots k)) roots-count
        ∙ go (retained_in c key)
      where
        go : (found : Option Root) → not (is_none found && nat_le greatest_limits.roots (retained_count c.roots)) ≡ takes_root c.roots found
        go None = below (retained_count c.roots) greatest_limits.roots
        go (Some root) = refl

    may-is : (held : ℕ) (a : Address) → may_keep s held a key ≡ ((is_fresh c held && not (keeps_other (retained_in c key) a)) && takes_root c.roots (retained_in c key))
    may-is held a =
        ap (λ b. (b && is_none (key_taken s key a)) && is_none (roots_full greatest_limits s key)) (ap (λ k. nat_le k (held + 1)) key-epoch)
        ∙ ap (λ b. (is_fresh c held && b) && is_none (roots_full greatest_limits s key)) (none-refused (keeps_other (retained_at s key) a) (reply.KeyTaken key) ∙ ap (λ f. not (keeps_other f a)) retained-is)
        ∙ ap (λ b. (is_fresh c held && not (keeps_other (retained_in c key) a)) && b) full-is

    -- ---- Root

    kept-is : (a : Address) → with_roots s (roots_with (retained_at s key) s.roots (record { key = key; address = a; dropped = None }))
        ≡ to (record c { roots = roots_with (retained_in c key) c.roots (record { key = key; address = a; dropped = None }) })
    kept-is a = ap (λ f. with_roots s (roots_with f s.roots root)) retained-is ∙ go (retained_in c key)
      where
        root : Root
        root = record { key = key; address = a; dropped = None }

        go : (found : Option Root) → with_roots s (roots_with found s.roots root) ≡ to (record c { roots = roots_with found c.roots root })
        go None = roots-to (record c { roots = place_root root c.roots }) (place_root root s.roots) refl refl refl (place-roots front back c (record c { roots = place_root root c.roots }) root refl)
        go (Some old) = refl

    -- ---- Drop

    dropped-is : with_roots s (drop_root (retained_at s key) s.roots key (root_epoch s key)) ≡ to (record c { roots = drop_root (retained_in c key) c.roots key c.epoch })
    dropped-is = ap (λ f. with_roots s (drop_root f s.roots key (root_epoch s key))) retained-is ∙ ap (λ k. with_roots s (drop_root (retained_in c key) s.roots key k)) key-epoch ∙ go (retained_in c key)
      where
        go : (found : Option Root) → with_roots s (drop_root found s.roots key c.epoch) ≡ to (record c { roots = drop_root found c.roots key c.epoch })
        go None = refl
        go (Some root) =
            let new : Root = record root { dropped = Some c.epoch } in
            let rest : List Root = without_first (is_retained key) c.roots in
            let mid : Catalogue = record c { roots = rest } in
            let d : Catalogue = record c { roots = place_root new rest } in
            roots-to d (place_root new (without_first (is_retained key) s.roots)) refl refl refl
            (place-roots front back mid d new refl ∙ ap (λ rs. place_root new rs) (without-roots n g key front back c mid here refl roots-front roots-back (from-rising c.roots own.rising)))

  -- ---- any entry

  module _ (name : List ℕ → Address) where
    abbrev at : Shard
    at = shard_in name n g

    view-is : (view : ℕ) → to (record c { view = view }) ≡ s
    view-is view = sym (roots-to (record c { view = view }) s.roots refl refl refl (same-roots front back c (record c { view = view }) refl))

    block-step : (number least : ℕ) (a : Address) (read : Result Block SpellingFault) → to (store_block at c number least a read) ≡ happen_by s (block_happens at c least a read)
    block-step number least a (Err fault) = refl
    block-step number least a (Ok block) = elim (cases_eq (shard_of n a) g) [
      | inl here ↦ rw (eq-eqb (shard_of n a) g here) (go here (present_at c a) refl)
      | inr other ↦ rw (ne_eqb (shard_of n a) g other) refl
    ]
      where
        after : Bool → Catalogue
        after b = cond b (with_present c a (fresh_present c.epoch number block)) c

        last : shard_of n a ≡ g → present_at c a ≡ None → (p q : Bool) → to (after (p && q)) ≡ cond (p && q) (with_block s a block) s
        last here absent true true = sym (with-is a here number block absent)
        last here absent true false = refl
        last here absent false q = refl

        go : shard_of n a ≡ g → (found : Option Present) → present_at c a ≡ found
            → to (after (((true && is_none found) && is_fresh c least) && has_room c)) ≡ happen_by s (cond (true && is_none found) (Some (changes (stores least a block))) None)
        go here (Some kept) e = refl
        go here None e = last here e (is_fresh c least) (has_room c) ∙ (rw (usable-is a here least, room-is a here e) refl)

    mark-step : (least number : ℕ) (a : Address) → to (give_block c least number a) ≡ happen_by s (mark_happens (present_at c a) least number a)
    mark-step least number a = go (present_at c a) refl
      where
        after : Bool → Option Present → Catalogue
        after b found = cond b (record c { blocks = marked c.epoch found c.blocks a }) c

        go : (found : Option Present) → present_at c a ≡ found → to (after (is_marked c least number found) found) ≡ happen_by s (mark_happens found least number a)
        go None e = refl
        go (Some kept) e = same (kept.number == number)
          where
            here : shard_of n a ≡ g
            here = found-mine n g c.blocks a kept own.blocks e

            given : (q : Bool) → is_usable s least a ≡ q → to (after q (Some kept)) ≡ change s (gives least a)
            given true u = rw u (sym (given-is a here kept e))
            given false u = rw u refl

            same : (p : Bool) → to (after (p && is_fresh c least) (Some kept)) ≡ happen_by s (cond p (Some (changes (gives least a))) None)
            same false = refl
            same true = given (is_fresh c least) (usable-is a here least)

    root-step : (held : ℕ) (a : Address) (key : List ℕ) → to (keep_root at c held a key) ≡ happen_by s (key_happens at key (keeps held a key))
    root-step held a key = elim (cases_eq (shard_of_key n key) g) [
      | inl here ↦ rw (eq-eqb (shard_of_key n key) g here, may-is key here held a) (go here ((is_fresh c held && not (keeps_other (retained_in c key) a)) && takes_root c.roots (retained_in c key)))
      | inr other ↦ rw (ne_eqb (shard_of_key n key) g other) refl
    ]
      where
        root : Root
        root = record { key = key; address = a; dropped = None }

        go : shard_of_key n key ≡ g → (b : Bool) → to (cond b (record c { roots = roots_with (retained_in c key) c.roots root }) c) ≡ cond b (with_roots s (roots_with (retained_at s key) s.roots root)) s
        go here true = sym (kept-is key here a)
        go here false = refl

    drop-step : (key : List ℕ) → to (drop_key at c key) ≡ happen_by s (key_happens at key (drops key))
    drop-step key = elim (cases_eq (shard_of_key n key) g) [
      | inl here ↦ rw (eq-eqb (shard_of_key n key) g here) (sym (dropped-is key here))
      | inr other ↦ rw (ne_eqb (shard_of_key n key) g other) refl
    ]

    pub entry-step : (number : ℕ) (entry : Entry) → to (apply at c (number, entry)) ≡ happen_by s (happening_of at c entry)
    entry-step number (kind.View view) = view-is view
    entry-step number (kind.Block op least bytes) = block-step number least (name bytes) (read_block bytes)
    entry-step number (kind.Mark op least block address) = mark-step least block address
    entry-step number (kind.Root op held address key) = root-step held address key
    entry-step number (kind.Drop op key) = drop-step key
    entry-step number (kind.Enter op epoch) = refl
    entry-step number (kind.Got sender epoch round total deltas) = refl
    entry-step number (kind.Base view epoch swept round frames) = refl
    entry-step number (kind.KeptBlock born mark flags count bytes) = refl
    entry-step number (kind.KeptRoot created dropped counted address key) = refl
    entry-step number (kind.KeptRound way other epoch round total deltas) = refl
