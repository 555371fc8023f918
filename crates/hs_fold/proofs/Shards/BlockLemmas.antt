-- Blocks of several shards by address.
use Rattle.std.proofs.Common.{◌≡◌, ◌≢◌, ℕ, ◌+◌, ◌<◌, ◌≤◌, ◌==◌, List, [], ◌∷◌, ◌++◌, length, Bool, true, false, cond, Option, Some, None, refl, sym, ap, ◌∙◌, subst, arith, Ordering, Less, Equal, Greater, is_eq}
use Rattle.std.proofs.lemmas.Map.Keys.{sorted_head, sorted_tail}
use Rattle.std.specs.Ordering.{match_ordering, ordering_reverse}
use Rattle.std.specs.Cmp.{IsTotalOrder}
use Rattle.std.specs.BTreeMap.{is_at, insert_entry}
use Rattle.std.specs.List.{AllByRecursion}
use Rattle.std.specs.List.Sorted.{IsStrictlySortedBy}
use Rattle.std.specs.Map.{lookup, keys_of}
use Rattle.hs_limits.specs.declared.address.Address.{Address}
use Rattle.hs_limits.specs.Shape.{shard_of}
use Rattle.hs_model.specs.Reach.{is_same}
use Rattle.hs_model.specs.Store.{address_cmp}
use Rattle.hs_model.proofs.Members.{same-refl, same_from, at_is_same}
use Rattle.hs_laws.proofs.InsertLemmas.{compare, lookup-insert_same, lookup-insert_other}
use Rattle.hs_laws.proofs.OrderLemmas.{address_total}
use Rattle.std.proofs.lemmas.Bool.{eq-eqb, ne_eqb}
use Rattle.hs_fold.specs.Catalogue.{Present}
use Rattle.hs_fold.specs.Opened.{both}
use Rattle.hs_fold.specs.Shards.Catalogue.{Catalogue}
use Rattle.hs_fold.specs.Shards.Mine.{AreMine}
use Rattle.hs_fold.specs.Shards.Opened.{all_present}

-- ---- two keys come in either order

pub flips : {K : Type 0} (cmp : K → K → Ordering) → IsTotalOrder cmp → (a b : K) (r : Ordering) → cmp a b ≡ r → cmp b a ≡ ordering_reverse r
flips cmp o a b r e = o.antisymm b a ∙ ap (λ q. ordering_reverse q) e

module _ {K V : Type 0} (cmp : K → K → Ordering) (o : IsTotalOrder cmp) where
  commute-less : (es : List (K × V)) (a b : K) (u v : V) → cmp a b ≡ Less → insert_entry cmp (insert_entry cmp es a u) b v ≡ insert_entry cmp (insert_entry cmp es b v) a u
  commute-less [] a b u v l = rw (flips cmp o a b Less l, l) refl
  commute-less (x ∷ es) a b u v l = go (commute-less es a b u v l) (cmp a x.0) refl
    where
      below : (r : Ordering) → cmp b x.0 ≡ r → cmp a x.0 ≡ Less
          → insert_entry cmp ((a, u) ∷ x ∷ es) b v ≡ insert_entry cmp (match_ordering r ((b, v) ∷ x ∷ es) ((x.0, v) ∷ es) (x ∷ insert_entry cmp es b v)) a u
      below Less e k = rw (flips cmp o a b Less l, l) (rw e refl)
      below Equal e k = rw (flips cmp o a b Less l, k) (rw e refl)
      below Greater e k = rw (flips cmp o a b Less l, k) (rw e refl)

      go : insert_entry cmp (insert_entry cmp es a u) b v ≡ insert_entry cmp (insert_entry cmp es b v) a u → (r : Ordering) → cmp a x.0 ≡ r
          → insert_entry cmp (match_ordering r ((a, u) ∷ x ∷ es) ((x.0, u) ∷ es) (x ∷ insert_entry cmp es a u)) b v ≡ insert_entry cmp (insert_entry cmp (x ∷ es) b v) a u
      go ih Less e = below (cmp b x.0) refl e
      go ih Equal e =
          let after : cmp b x.0 ≡ Greater = flips cmp o x.0 b Less (sym (o.congr a x.0 b e) ∙ l) in
          rw (after, e) refl
      go ih Greater e =
          let after : cmp b x.0 ≡ Greater = flips cmp o x.0 b Less (o.trans x.0 a b (flips cmp o a x.0 Greater e) l) in
          rw (after, e) (ap (λ rest. x ∷ rest) ih)

-- ---- blocks by address

equal-self : (a : Address) → address_cmp a a ≡ Equal
equal-self a = go (address_cmp a a) refl
  where
    go : (r : Ordering) → address_cmp a a ≡ r → r ≡ Equal
    go Less e = let no = compare a a Less e in cc (no, same-refl a)
    go Equal e = refl
    go Greater e = let no = compare a a Greater e in cc (no, same-refl a)

module _ {V : Type 0} where
  pub insert-commute : (es : List (Address × V)) (a b : Address) (u v : V) → is_same a b ≡ false → insert_entry address_cmp (insert_entry address_cmp es a u) b v ≡ insert_entry address_cmp (insert_entry address_cmp es b v) a u
  insert-commute es a b u v differs = go (address_cmp a b) refl
    where
      go : (r : Ordering) → address_cmp a b ≡ r → insert_entry address_cmp (insert_entry address_cmp es a u) b v ≡ insert_entry address_cmp (insert_entry address_cmp es b v) a u
      go Less e = commute-less address_cmp address_total es a b u v e
      go Equal e = let no = compare a b Equal e in cc (no, differs)
      go Greater e = sym (commute-less address_cmp address_total es b a v u (flips address_cmp address_total a b Greater e))

  -- where a key stands it is written over
  pub insert-twice : (es : List (Address × V)) (a : Address) (u v : V) → insert_entry address_cmp (insert_entry address_cmp es a u) a v ≡ insert_entry address_cmp es a v
  insert-twice [] a u v = rw (equal-self a) refl
  insert-twice (x ∷ es) a u v = go (insert-twice es a u v) (address_cmp a x.0) refl
    where
      go : insert_entry address_cmp (insert_entry address_cmp es a u) a v ≡ insert_entry address_cmp es a v → (r : Ordering) → address_cmp a x.0 ≡ r
          → insert_entry address_cmp (match_ordering r ((a, u) ∷ x ∷ es) ((x.0, u) ∷ es) (x ∷ insert_entry address_cmp es a u)) a v ≡ match_ordering r ((a, v) ∷ x ∷ es) ((x.0, v) ∷ es) (x ∷ insert_entry address_cmp es a v)
      go ih Less e = rw (equal-self a) refl
      go ih Equal e = rw e refl
      go ih Greater e = rw e (ap (λ rest. x ∷ rest) ih)

-- ---- two shards

-- none of these keys is an address of this shard
abbrev pub NoneOf : ℕ → ℕ → List (Address × Present) → Type 0
NoneOf shards shard es = AllByRecursion (λ a. shard_of shards a ≢ shard) (keys_of es)

other-key : (shards shard : ℕ) (a b : Address) → shard_of shards b ≢ shard → shard_of shards a ≡ shard → is_same a b ≡ false
other-key shards shard a b differs same = go (is_same a b) refl
  where
    go : (t : Bool) → is_same a b ≡ t → is_same a b ≡ false
    go true e = absurd (differs (ap (λ x. shard_of shards x) (sym (same_from a b e)) ∙ same))
    go false e = e

both-left : (es others : List (Address × Present)) (a : Address) (k : Present) → both (insert_entry address_cmp es a k) others ≡ insert_entry address_cmp (both es others) a k
both-left [] others a k = refl
both-left (x ∷ es) others a k = go (both-left es others a k) (address_cmp a x.0) refl
  where
    go : both (insert_entry address_cmp es a k) others ≡ insert_entry address_cmp (both es others) a k → (r : Ordering) → address_cmp a x.0 ≡ r
        → both (match_ordering r ((a, k) ∷ x ∷ es) ((x.0, k) ∷ es) (x ∷ insert_entry address_cmp es a k)) others ≡ insert_entry address_cmp (insert_entry address_cmp (both es others) x.0 x.1) a k
    go ih Less e = refl
    go ih Equal e =
        let same : a ≡ x.0 = same_from a x.0 (compare a x.0 Equal e) in
        sym (ap (λ b. insert_entry address_cmp (insert_entry address_cmp (both es others) x.0 x.1) b k) same ∙ insert-twice (both es others) x.0 x.1 k)
    go ih Greater e = ap (λ rest. insert_entry address_cmp rest x.0 x.1) ih ∙ insert-commute (both es others) a x.0 k x.1 (compare a x.0 Greater e)

both-right : (shards shard : ℕ) (es others : List (Address × Present)) (a : Address) (k : Present) → shard_of shards a ≡ shard → NoneOf shards shard es → both es (insert_entry address_cmp others a k) ≡ insert_entry address_cmp (both es others) a k
both-right shards shard [] others a k mine h = refl
both-right shards shard (x ∷ es) others a k mine h =
    ap (λ rest. insert_entry address_cmp rest x.0 x.1) (both-right shards shard es others a k mine h.1)
    ∙ insert-commute (both es others) a x.0 k x.1 (other-key shards shard a x.0 h.0 mine)

-- ---- looking up

abbrev either : {V : Type 0} → Option V → Option V → Option V
either None other = other
either (Some v) other = Some v

look : Address → List (Address × Present) → Option Present
look a es = lookup (is_at (address_cmp a)) es

pub both-look : (es others : List (Address × Present)) (a : Address) → lookup (is_at (address_cmp a)) (both es others) ≡ either (lookup (is_at (address_cmp a)) es) (lookup (is_at (address_cmp a)) others)
both-look [] others a = refl
both-look (x ∷ es) others a = go (both-look es others a) (is_same a x.0) refl
  where
    go : lookup (is_at (address_cmp a)) (both es others) ≡ either (lookup (is_at (address_cmp a)) es) (lookup (is_at (address_cmp a)) others) → (t : Bool) → is_same a x.0 ≡ t
        → lookup (is_at (address_cmp a)) (insert_entry address_cmp (both es others) x.0 x.1) ≡ either (lookup (is_at (address_cmp a)) (x ∷ es)) (lookup (is_at (address_cmp a)) others)
    go ih true e = rw (at_is_same a x.0, e) (ap (λ b. lookup (is_at (address_cmp b)) (insert_entry address_cmp (both es others) x.0 x.1)) (same_from a x.0 e) ∙ lookup-insert_same (both es others) x.0 x.1)
    go ih false e = rw (at_is_same a x.0, e) (lookup-insert_other (both es others) x.0 x.1 a e ∙ ih)

none-look : (shards shard : ℕ) (es : List (Address × Present)) (a : Address) → shard_of shards a ≡ shard → NoneOf shards shard es → lookup (is_at (address_cmp a)) es ≡ None
none-look shards shard [] a mine h = refl
none-look shards shard (x ∷ es) a mine h = rw (at_is_same a x.0, other-key shards shard a x.0 h.0 mine) (none-look shards shard es a mine h.1)

-- ---- a shard among others

-- no catalogue has a block of this shard
abbrev pub NoBlock : ℕ → ℕ → List Catalogue → Type 0
NoBlock shards shard [] = Unit {0}
NoBlock shards shard (c ∷ cs) = NoneOf shards shard c.blocks × NoBlock shards shard cs

nothing-look : (shards shard : ℕ) (cs : List Catalogue) (a : Address) → shard_of shards a ≡ shard → NoBlock shards shard cs → lookup (is_at (address_cmp a)) (all_present cs) ≡ None
nothing-look shards shard [] a mine h = refl
nothing-look shards shard (c ∷ cs) a mine h = both-look c.blocks (all_present cs) a ∙ rw (none-look shards shard c.blocks a mine h.0) (nothing-look shards shard cs a mine h.1)

either-none : {V : Type 0} (found : Option V) → either found None ≡ found
either-none None = refl
either-none (Some v) = refl

pub look-all : (shards shard : ℕ) (front back : List Catalogue) (c : Catalogue) (a : Address) → shard_of shards a ≡ shard → NoBlock shards shard front → NoBlock shards shard back
    → lookup (is_at (address_cmp a)) (all_present (front ++ c ∷ back)) ≡ lookup (is_at (address_cmp a)) c.blocks
look-all shards shard [] back c a mine f b =
    both-look c.blocks (all_present back) a ∙ ap (λ other. either (lookup (is_at (address_cmp a)) c.blocks) other) (nothing-look shards shard back a mine b) ∙ either-none (lookup (is_at (address_cmp a)) c.blocks)
look-all shards shard (x ∷ front) back c a mine f b =
    both-look x.blocks (all_present (front ++ c ∷ back)) a ∙ rw (none-look shards shard x.blocks a mine f.0) (look-all shards shard front back c a mine f.1 b)

-- a block more of the shard is one more of all
pub insert-all-present : (shards shard : ℕ) (front back : List Catalogue) (c d : Catalogue) (a : Address) (k : Present) → shard_of shards a ≡ shard → d.blocks ≡ insert_entry address_cmp c.blocks a k → NoBlock shards shard front
    → all_present (front ++ d ∷ back) ≡ insert_entry address_cmp (all_present (front ++ c ∷ back)) a k
insert-all-present shards shard [] back c d a k mine e f = ap (λ es. both es (all_present back)) e ∙ both-left c.blocks (all_present back) a k
insert-all-present shards shard (x ∷ front) back c d a k mine e f =
    ap (λ rest. both x.blocks rest) (insert-all-present shards shard front back c d a k mine e f.1) ∙ both-right shards shard x.blocks (all_present (front ++ c ∷ back)) a k mine f.0

pub same-all-present : (front back : List Catalogue) (c d : Catalogue) → d.blocks ≡ c.blocks → all_present (front ++ d ∷ back) ≡ all_present (front ++ c ∷ back)
same-all-present [] back c d e = ap (λ es. both es (all_present back)) e
same-all-present (x ∷ front) back c d e = ap (λ rest. both x.blocks rest) (same-all-present front back c d e)

-- ---- counting

abbrev pub one : Bool → ℕ
one b = cond b 1 0

abbrev pub counted : (Address → Bool) → List (Address × Present) → ℕ
counted test [] = 0
counted test (e ∷ es) = one (test e.0) + counted test es

counted-insert : (test : Address → Bool) (es : List (Address × Present)) (a : Address) (k : Present) → lookup (is_at (address_cmp a)) es ≡ None → counted test (insert_entry address_cmp es a k) ≡ one (test a) + counted test es
counted-insert test [] a k none = refl
counted-insert test (x ∷ es) a k none = go (counted-insert test es a k) (address_cmp a x.0) refl none
  where
    go : (lookup (is_at (address_cmp a)) es ≡ None → counted test (insert_entry address_cmp es a k) ≡ one (test a) + counted test es) → (r : Ordering) → address_cmp a x.0 ≡ r → cond (is_eq r) (Some x.1) (lookup (is_at (address_cmp a)) es) ≡ None
        → counted test (match_ordering r ((a, k) ∷ x ∷ es) ((x.0, k) ∷ es) (x ∷ insert_entry address_cmp es a k)) ≡ one (test a) + (one (test x.0) + counted test es)
    go ih Less e n = refl
    go ih Equal e n = cc n
    go ih Greater e n = let more = ih n in omega (arith, more)

pub look-above : (es : List (Address × Present)) (a : Address) → AllByRecursion (λ y. address_cmp a y ≡ Less) (keys_of es) → lookup (is_at (address_cmp a)) es ≡ None
look-above [] a h = refl
look-above (x ∷ es) a h = rw h.0 (look-above es a h.1)

-- what both count is the sum, where no key stands in both
abbrev pub Apart : List (Address × Present) → List (Address × Present) → Type 0
Apart [] others = Unit {0}
Apart (e ∷ es) others = (lookup (is_at (address_cmp e.0)) others ≡ None) × Apart es others

counted-both : (test : Address → Bool) (es others : List (Address × Present)) → IsStrictlySortedBy address_cmp (keys_of es) → Apart es others → counted test (both es others) ≡ counted test es + counted test others
counted-both test [] others d h = omega arith
counted-both test (x ∷ es) others d h =
    let rest = counted-both test es others (sorted_tail address_cmp x.0 (keys_of es) d) h.1 in
    let new = both-look es others x.0 ∙ ap (λ found. either found (lookup (is_at (address_cmp x.0)) others)) (look-above es x.0 (sorted_head address_cmp x.0 (keys_of es) d)) ∙ h.0 in
    let more = counted-insert test (both es others) x.0 x.1 new in
    omega (arith, rest, more)

-- ---- which shard has what

none_of_mine : (shards shard other : ℕ) (es : List (Address × Present)) → shard ≢ other → AllByRecursion (λ a. shard_of shards a ≡ shard) (keys_of es) → NoneOf shards other es
none_of_mine shards shard other [] differs h = tt
none_of_mine shards shard other (e ∷ es) differs h = ((λ same. differs (sym h.0 ∙ same)), none_of_mine shards shard other es differs h.1)

pub no_block_later : (shards shard from : ℕ) (cs : List Catalogue) → shard < from → AreMine shards from cs → NoBlock shards shard cs
no_block_later shards shard from [] low h = tt
no_block_later shards shard from (c ∷ cs) low h = (none_of_mine shards from shard c.blocks (λ same. omega (arith, low, same)) h.0.blocks, no_block_later shards shard (from + 1) cs (omega (arith, low)) h.1)

pub no_block_before : (shards shard from : ℕ) (front rest : List Catalogue) → from + length front ≤ shard → AreMine shards from (front ++ rest) → NoBlock shards shard front
no_block_before shards shard from [] rest low h = tt
no_block_before shards shard from (c ∷ front) rest low h = (none_of_mine shards from shard c.blocks (λ same. omega (arith, low, same)) h.0.blocks, no_block_before shards shard (from + 1) front rest (omega (arith, low)) h.1)

pub apart-mine : (shards shard : ℕ) (es : List (Address × Present)) (cs : List Catalogue) → AllByRecursion (λ a. shard_of shards a ≡ shard) (keys_of es) → NoBlock shards shard cs → Apart es (all_present cs)
apart-mine shards shard [] cs h none = tt
apart-mine shards shard (e ∷ es) cs h none = (nothing-look shards shard cs e.0 h.0 none, apart-mine shards shard es cs h.1 none)

abbrev pub is_of : ℕ → ℕ → Address → Bool
is_of shards shard a = shard_of shards a == shard

counted-none : (shards shard : ℕ) (es : List (Address × Present)) → NoneOf shards shard es → counted (is_of shards shard) es ≡ 0
counted-none shards shard [] h = refl
counted-none shards shard (e ∷ es) h = let rest = counted-none shards shard es h.1 in rw (ne_eqb (shard_of shards e.0) shard h.0) (omega (arith, rest))

counted-mine : (shards shard : ℕ) (es : List (Address × Present)) → AllByRecursion (λ a. shard_of shards a ≡ shard) (keys_of es) → counted (is_of shards shard) es ≡ length es
counted-mine shards shard [] h = refl
counted-mine shards shard (e ∷ es) h = rw (eq-eqb (shard_of shards e.0) shard h.0, counted-mine shards shard es h.1) (omega arith)

counted-nothing : (shards shard from : ℕ) (cs : List Catalogue) → NoBlock shards shard cs → AreMine shards from cs → counted (is_of shards shard) (all_present cs) ≡ 0
counted-nothing shards shard from [] none h = refl
counted-nothing shards shard from (c ∷ cs) none h =
    let all = counted-both (is_of shards shard) c.blocks (all_present cs) h.0.ordered (apart-mine shards from c.blocks cs h.0.blocks (no_block_later shards from (from + 1) cs (omega arith) h.1)) in
    let here = counted-none shards shard c.blocks none.0 in
    let rest = counted-nothing shards shard (from + 1) cs none.1 h.1 in
    omega (arith, all, here, rest)

pub counted-all : (shards shard from : ℕ) (front back : List Catalogue) (c : Catalogue) → from + length front ≡ shard → AreMine shards from (front ++ c ∷ back) → counted (is_of shards shard) (all_present (front ++ c ∷ back)) ≡ length c.blocks
counted-all shards shard from [] back c at h =
    let same : from ≡ shard = omega (arith, at) in
    let later = no_block_later shards from (from + 1) back (omega arith) h.1 in
    let all = counted-both (is_of shards shard) c.blocks (all_present back) h.0.ordered (apart-mine shards from c.blocks back h.0.blocks later) in
    let here = counted-mine shards shard c.blocks (subst (λ g. AllByRecursion (λ a. shard_of shards a ≡ g) (keys_of c.blocks)) same h.0.blocks) in
    let rest = counted-nothing shards shard (from + 1) back (subst (λ g. NoBlock shards g back) same later) h.1 in
    omega (arith, all, here, rest)
counted-all shards shard from (x ∷ front) back c at h =
    let rest = counted-all shards shard (from + 1) front back c (omega (arith, at)) h.1 in
    let all = counted-both (is_of shards shard) x.blocks (all_present (front ++ c ∷ back)) h.0.ordered (apart-mine shards from x.blocks (front ++ c ∷ back) h.0.blocks (no_block_later shards from (from + 1) (front ++ c ∷ back) (omega arith) h.1)) in
    let here = counted-none shards shard x.blocks (none_of_mine shards from shard x.blocks (λ same. omega (arith, at, same)) h.0.blocks) in
    omega (arith, all, here, rest)
