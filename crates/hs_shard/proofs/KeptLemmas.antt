-- What is kept beside the blocks stays so when one block changes, comes or goes.
use Rattle.std.proofs.Common.{◌≡◌, ◌≤◌, ℕ, ◌==◌, ◌&&◌, arith, [], ◌∷◌, Bool, true, false, cond, Option, Some, None, refl, sym, ap, subst, ◌∙◌, find, length, is_eq, Ordering, Less, Equal, Greater}
use Rattle.std.proofs.lemmas.Bool.{false≢true}
use Rattle.std.proofs.lemmas.Bool.Decides.{Decides-eqb}
use Rattle.std.proofs.lemmas.Map.{keys-set_value, length-set_value}
use Rattle.std.specs.BTreeMap.{is_at}
use Rattle.std.specs.List.Sorted.{IsStrictlySortedBy}
use Rattle.std.specs.Map.{keys_of}
use Rattle.std.specs.Option.{IsSome, option_map, option_map_or}
use Rattle.std.specs.Ordering.{nat_cmp}
use Rattle.std.proofs.lemmas.Cmp.{nat_cmp_total, tied_itself}
use Rattle.std.proofs.lemmas.Map.Lookups.{exact_unsigned}
use Rattle.hs_limits.specs.declared.address.Address.{Address}
use Rattle.hs_limits.specs.Limits.{greatest_limits}
use Rattle.hs_model.specs.Store.{address_cmp}
use Rattle.hs_shard.specs.declared.facts.Facts.{Facts}
use Rattle.hs_shard.specs.declared.listed.Kind.{Kind}
use Rattle.hs_shard.specs.declared.listed.Kind.TheVariants.{Uncounted, Idle, Zero, Other}
use Rattle.hs_shard.specs.declared.listed.Listed.{Listed}
use Rattle.hs_shard.specs.Clients.{change_at, give, put_facts}
use Rattle.hs_shard.specs.Facts.{BlockList, facts_in, is_stored_by, pointers_at}
use Rattle.hs_shard.specs.Listed.{AreKept, AreListed, AreNumbered, NumberList, address_of, goes_in, has, is_sound, kind_of}
use Rattle.hs_shard.proofs.FoundLemmas.{AreFound, all_found, at_itself, found_put, same_at}

Some≢None : {A : Type 0} {P : Type 0} (x : A) → Some x ≡ None → P
Some≢None x e = cc e

same_some : {A : Type 0} (x y : A) → Some x ≡ Some y → x ≡ y
same_some x y e = cc e

-- numbers are equal where the test says so
equal_itself : (n : ℕ) → (n == n) ≡ true
equal_itself n = (Decides-eqb n n).1 refl

equal_from : (n m : ℕ) → (n == m) ≡ true → n ≡ m
equal_from n m e = (Decides-eqb n m).0 e

-- what is found at an address behind a step at it
abbrev pub Finds : BlockList → BlockList → Address → Option Facts → Type 0
Finds blocks now a facts = (q : Address) → facts_in q now ≡ cond (is_at (address_cmp a) q) facts (facts_in q blocks)

-- what is listed behind it
abbrev pub Lists : Listed → Listed → Address → Option Facts → Type 0
Lists listed now a facts = (k : Kind) (q : Address) → has k q now ≡ cond (is_at (address_cmp a) q) (option_map_or (λ f. goes_in k (kind_of f)) facts false) (has k q listed)

listed_now : (blocks now : BlockList) (listed then : Listed) (a : Address) (facts : Option Facts) → Finds blocks now a facts → Lists listed then a facts → AreListed blocks listed → AreListed now then
listed_now blocks now listed then a facts finds lists before k q = go (is_at (address_cmp a) q) refl
  where
    go : (b : Bool) → is_at (address_cmp a) q ≡ b → has k q then ≡ option_map_or (λ f. goes_in k (kind_of f)) (facts_in q now) false
    go true e =
        (lists k q ∙ ap (λ b. cond b (option_map_or (λ f. goes_in k (kind_of f)) facts false) (has k q listed)) e)
        ∙ sym (ap (λ o. option_map_or (λ f. goes_in k (kind_of f)) o false) (finds q ∙ ap (λ b. cond b facts (facts_in q blocks)) e))
    go false e =
        (lists k q ∙ ap (λ b. cond b (option_map_or (λ f. goes_in k (kind_of f)) facts false) (has k q listed)) e)
        ∙ before k q
        ∙ sym (ap (λ o. option_map_or (λ f. goes_in k (kind_of f)) o false) (finds q ∙ ap (λ b. cond b facts (facts_in q blocks)) e))

sound_now : (blocks now : BlockList) (a : Address) (facts : Option Facts) → Finds blocks now a facts → option_map_or is_sound facts true ≡ true
    → ((q : Address) → option_map_or is_sound (facts_in q blocks) true ≡ true) → (q : Address) → option_map_or is_sound (facts_in q now) true ≡ true
sound_now blocks now a facts finds sound before q = go (is_at (address_cmp a) q) refl
  where
    go : (b : Bool) → is_at (address_cmp a) q ≡ b → option_map_or is_sound (facts_in q now) true ≡ true
    go true e = ap (λ o. option_map_or is_sound o true) (finds q ∙ ap (λ b. cond b facts (facts_in q blocks)) e) ∙ sound
    go false e = ap (λ o. option_map_or is_sound o true) (finds q ∙ ap (λ b. cond b facts (facts_in q blocks)) e) ∙ before q

pub kept_now : (blocks now : BlockList) (numbers after : NumberList) (listed then : Listed) (a : Address) (facts : Option Facts)
    → AreKept blocks numbers listed → Finds blocks now a facts → Lists listed then a facts → option_map_or is_sound facts true ≡ true
    → length now ≤ greatest_limits.blocks → IsStrictlySortedBy address_cmp (keys_of now) → AreNumbered now after → AreKept now after then
kept_now blocks now numbers after listed then a facts kept finds lists sound few ordered numbered = record {
  few = few;
  ordered = ordered;
  sound = sound_now blocks now a facts finds sound kept.sound;
  lists = listed_now blocks now listed then a facts finds lists kept.lists;
  numbered = numbered;
}

-- ---- numbers

-- a block that is changed keeps its number
numbered_changed : (blocks now : BlockList) (numbers : NumberList) (a : Address) (f g : Facts) → AreNumbered blocks numbers → Finds blocks now a (Some g) → facts_in a blocks ≡ Some f → g.number ≡ f.number → AreNumbered now numbers
numbered_changed blocks now numbers a f g old finds here same = record { kept = kept; present = present }
  where
    kept : (q : Address) (x : Facts) → facts_in q now ≡ Some x → address_of x.number numbers ≡ Some q
    kept q x e = go (is_at (address_cmp a) q) refl
      where
        go : (b : Bool) → is_at (address_cmp a) q ≡ b → address_of x.number numbers ≡ Some q
        go true t =
            let x_is : g ≡ x = same_some g x (sym (finds q ∙ ap (λ b. cond b (Some g) (facts_in q blocks)) t) ∙ e) in
            ap (λ y. address_of y.number numbers) (sym x_is) ∙ ap (λ n. address_of n numbers) same ∙ old.kept a f here ∙ ap (λ z. Some z) (same_at a q t)
        go false t = old.kept q x (sym (finds q ∙ ap (λ b. cond b (Some g) (facts_in q blocks)) t) ∙ e)

    present : (number : ℕ) (q : Address) → address_of number numbers ≡ Some q → option_map_or (λ x. x.number == number) (facts_in q now) false ≡ true
    present number q e = go (is_at (address_cmp a) q) refl
      where
        has_it : option_map_or (λ x. x.number == number) (facts_in q blocks) false ≡ true
        has_it = old.present number q e

        go : (b : Bool) → is_at (address_cmp a) q ≡ b → option_map_or (λ x. x.number == number) (facts_in q now) false ≡ true
        go true t =
            let there : facts_in q blocks ≡ Some f = subst (λ z. facts_in z blocks ≡ Some f) (same_at a q t) here in
            ap (λ o. option_map_or (λ x. x.number == number) o false) (finds q ∙ ap (λ b. cond b (Some g) (facts_in q blocks)) t)
            ∙ ap (λ n. n == number) same
            ∙ ap (λ o. option_map_or (λ x. x.number == number) o false) (sym there) ∙ has_it
        go false t = ap (λ o. option_map_or (λ x. x.number == number) o false) (finds q ∙ ap (λ b. cond b (Some g) (facts_in q blocks)) t) ∙ has_it

-- a block that is found among the blocks was not stored by a number that none was stored by
none_stored : (number : ℕ) (a : Address) (f : Facts) (es : BlockList) → find (is_stored_by number) es ≡ None → facts_in a es ≡ Some f → (f.number == number) ≡ false
none_stored number a f [] none here = Some≢None f (sym here)
none_stored number a f (e ∷ es) none here = go (none_stored number a f es) (e.1.number == number) refl (is_at (address_cmp a) e.0) refl
  where
    go : (find (is_stored_by number) es ≡ None → facts_in a es ≡ Some f → (f.number == number) ≡ false) → (b : Bool) → (e.1.number == number) ≡ b → (c : Bool) → is_at (address_cmp a) e.0 ≡ c → (f.number == number) ≡ false
    go ih true s c t = Some≢None e (sym (ap (λ b. cond b (Some e) (find (is_stored_by number) es)) s) ∙ none)
    go ih false s true t = ap (λ x. x.number == number) (same_some f e.1 (sym here ∙ ap (λ c. cond c (Some e.1) (facts_in a es)) t)) ∙ s
    go ih false s false t =
        ih (sym (ap (λ b. cond b (Some e) (find (is_stored_by number) es)) s) ∙ none) (sym (ap (λ c. cond c (Some e.1) (facts_in a es)) t) ∙ here)

no_find : (number : ℕ) (es : BlockList) → pointers_at number es ≡ None → find (is_stored_by number) es ≡ None
no_find number es e = go (find (is_stored_by number) es) refl
  where
    go : (o : Option (Address × Facts)) → find (is_stored_by number) es ≡ o → find (is_stored_by number) es ≡ None
    go None h = h
    go (Some x) h = Some≢None x.1.pointers (sym (ap (λ o. option_map (λ e. e.1.pointers) o) h) ∙ e)

-- where no block was stored by a number, the number has no address
pub number_is_new : (blocks : BlockList) (numbers : NumberList) (number : ℕ) → AreNumbered blocks numbers → pointers_at number blocks ≡ None → address_of number numbers ≡ None
number_is_new blocks numbers number old none = go (address_of number numbers) refl
  where
    go : (o : Option Address) → address_of number numbers ≡ o → address_of number numbers ≡ None
    go None h = h
    go (Some a) h = further (facts_in a blocks) refl
      where
        further : (o : Option Facts) → facts_in a blocks ≡ o → address_of number numbers ≡ None
        further None t = absurd (false≢true (ap (λ o. option_map_or (λ x. x.number == number) o false) (sym t) ∙ old.present number a h))
        further (Some f) t =
            absurd (false≢true (sym (none_stored number a f blocks (no_find number blocks none) t) ∙ ap (λ o. option_map_or (λ x. x.number == number) o false) (sym t) ∙ old.present number a h))

same_number : (n m : ℕ) → is_at (nat_cmp n) m ≡ true → n ≡ m
same_number n m e = exact_unsigned n m (equal (nat_cmp n m) e)
  where
    equal : (o : Ordering) → is_eq o ≡ true → o ≡ Equal
    equal Less h = cc h
    equal Equal h = refl
    equal Greater h = cc h

-- what is kept of a number behind a step at it
abbrev pub Numbers : NumberList → NumberList → ℕ → Option Address → Type 0
Numbers numbers now number address = (n : ℕ) → address_of n now ≡ cond (is_at (nat_cmp number) n) address (address_of n numbers)

at_number : (n : ℕ) → is_at (nat_cmp n) n ≡ true
at_number n = ap is_eq (tied_itself nat_cmp_total n)

-- a block comes, with a number that no block has
pub numbered_stored : (blocks now : BlockList) (numbers after : NumberList) (a : Address) (f : Facts)
    → AreNumbered blocks numbers → Finds blocks now a (Some f) → Numbers numbers after f.number (Some a) → facts_in a blocks ≡ None → address_of f.number numbers ≡ None → AreNumbered now after
numbered_stored blocks now numbers after a f old finds counts here free = record { kept = kept; present = present }
  where
    kept : (q : Address) (x : Facts) → facts_in q now ≡ Some x → address_of x.number after ≡ Some q
    kept q x e = go (is_at (address_cmp a) q) refl
      where
        go : (b : Bool) → is_at (address_cmp a) q ≡ b → address_of x.number after ≡ Some q
        go true t =
            let x_is : f ≡ x = same_some f x (sym (finds q ∙ ap (λ b. cond b (Some f) (facts_in q blocks)) t) ∙ e) in
            ap (λ y. address_of y.number after) (sym x_is)
            ∙ counts f.number
            ∙ ap (λ b. cond b (Some a) (address_of f.number numbers)) (at_number f.number)
            ∙ ap (λ z. Some z) (same_at a q t)
        go false t = further (is_at (nat_cmp f.number) x.number) refl
          where
            was : address_of x.number numbers ≡ Some q
            was = old.kept q x (sym (finds q ∙ ap (λ b. cond b (Some f) (facts_in q blocks)) t) ∙ e)

            further : (b : Bool) → is_at (nat_cmp f.number) x.number ≡ b → address_of x.number after ≡ Some q
            further true s = Some≢None q (sym was ∙ ap (λ n. address_of n numbers) (sym (same_number f.number x.number s)) ∙ free)
            further false s = counts x.number ∙ ap (λ b. cond b (Some a) (address_of x.number numbers)) s ∙ was

    present : (number : ℕ) (q : Address) → address_of number after ≡ Some q → option_map_or (λ x. x.number == number) (facts_in q now) false ≡ true
    present number q e = go (is_at (nat_cmp f.number) number) refl
      where
        go : (b : Bool) → is_at (nat_cmp f.number) number ≡ b → option_map_or (λ x. x.number == number) (facts_in q now) false ≡ true
        go true s =
            let q_is : a ≡ q = same_some a q (sym (counts number ∙ ap (λ b. cond b (Some a) (address_of number numbers)) s) ∙ e) in
            ap (λ z. option_map_or (λ x. x.number == number) (facts_in z now) false) (sym q_is)
            ∙ ap (λ o. option_map_or (λ x. x.number == number) o false) (finds a ∙ ap (λ b. cond b (Some f) (facts_in a blocks)) (at_itself a))
            ∙ ap (λ n. n == number) (same_number f.number number s)
            ∙ equal_itself number
        go false s = further (is_at (address_cmp a) q) refl
          where
            was : option_map_or (λ x. x.number == number) (facts_in q blocks) false ≡ true
            was = old.present number q (sym (counts number ∙ ap (λ b. cond b (Some a) (address_of number numbers)) s) ∙ e)

            further : (b : Bool) → is_at (address_cmp a) q ≡ b → option_map_or (λ x. x.number == number) (facts_in q now) false ≡ true
            further true t =
                absurd (false≢true (sym (ap (λ o. option_map_or (λ x. x.number == number) o false) (subst (λ z. facts_in z blocks ≡ None) (same_at a q t) here)) ∙ was))
            further false t = ap (λ o. option_map_or (λ x. x.number == number) o false) (finds q ∙ ap (λ b. cond b (Some f) (facts_in q blocks)) t) ∙ was

-- a block goes, with its number
pub numbered_removed : (blocks now : BlockList) (numbers after : NumberList) (a : Address) (f : Facts)
    → AreNumbered blocks numbers → Finds blocks now a None → Numbers numbers after f.number None → facts_in a blocks ≡ Some f → AreNumbered now after
numbered_removed blocks now numbers after a f old finds counts here = record { kept = kept; present = present }
  where
    kept : (q : Address) (x : Facts) → facts_in q now ≡ Some x → address_of x.number after ≡ Some q
    kept q x e = go (is_at (address_cmp a) q) refl
      where
        go : (b : Bool) → is_at (address_cmp a) q ≡ b → address_of x.number after ≡ Some q
        go true t = Some≢None x (sym e ∙ finds q ∙ ap (λ b. cond b None (facts_in q blocks)) t)
        go false t = further (is_at (nat_cmp f.number) x.number) refl
          where
            was : address_of x.number numbers ≡ Some q
            was = old.kept q x (sym (finds q ∙ ap (λ b. cond b None (facts_in q blocks)) t) ∙ e)

            further : (b : Bool) → is_at (nat_cmp f.number) x.number ≡ b → address_of x.number after ≡ Some q
            further true s =
                let a_is : a ≡ q = same_some a q (sym (old.kept a f here) ∙ ap (λ n. address_of n numbers) (same_number f.number x.number s) ∙ was) in
                absurd (false≢true (sym t ∙ ap (λ z. is_at (address_cmp a) z) (sym a_is) ∙ at_itself a))
            further false s = counts x.number ∙ ap (λ b. cond b None (address_of x.number numbers)) s ∙ was

    present : (number : ℕ) (q : Address) → address_of number after ≡ Some q → option_map_or (λ x. x.number == number) (facts_in q now) false ≡ true
    present number q e = go (is_at (nat_cmp f.number) number) refl
      where
        go : (b : Bool) → is_at (nat_cmp f.number) number ≡ b → option_map_or (λ x. x.number == number) (facts_in q now) false ≡ true
        go true s = Some≢None q (sym e ∙ counts number ∙ ap (λ b. cond b None (address_of number numbers)) s)
        go false s = further (is_at (address_cmp a) q) refl
          where
            was : option_map_or (λ x. x.number == number) (facts_in q blocks) false ≡ true
            was = old.present number q (sym (counts number ∙ ap (λ b. cond b None (address_of number numbers)) s) ∙ e)

            further : (b : Bool) → is_at (address_cmp a) q ≡ b → option_map_or (λ x. x.number == number) (facts_in q now) false ≡ true
            further true t =
                let there : facts_in q blocks ≡ Some f = subst (λ z. facts_in z blocks ≡ Some f) (same_at a q t) here in
                let is_it : (f.number == number) ≡ true = ap (λ o. option_map_or (λ x. x.number == number) o false) (sym there) ∙ was in
                absurd (false≢true (sym s ∙ ap (λ n. is_at (nat_cmp n) number) (equal_from f.number number is_it) ∙ at_number number))
            further false t = ap (λ o. option_map_or (λ x. x.number == number) o false) (finds q ∙ ap (λ b. cond b None (facts_in q blocks)) t) ∙ was

-- ---- the list of a block that stays of its kind

pub listed_as_before : (blocks : BlockList) (listed : Listed) (a : Address) (f g : Facts) → AreListed blocks listed → facts_in a blocks ≡ Some f → kind_of g ≡ kind_of f → Lists listed listed a (Some g)
listed_as_before blocks listed a f g before here same k q = go (is_at (address_cmp a) q) refl
  where
    go : (b : Bool) → is_at (address_cmp a) q ≡ b → has k q listed ≡ cond b (goes_in k (kind_of g)) (has k q listed)
    go true t =
        before k q
        ∙ ap (λ o. option_map_or (λ x. goes_in k (kind_of x)) o false) (subst (λ z. facts_in z blocks ≡ Some f) (same_at a q t) here)
        ∙ ap (λ kind. goes_in k kind) (sym same)
    go false t = refl

-- it was listed as of its kind
pub listed_at : (blocks : BlockList) (listed : Listed) (a : Address) (facts : Option Facts) → AreListed blocks listed → facts_in a blocks ≡ facts
    → (k : Kind) (q : Address) → is_at (address_cmp a) q ≡ true → has k q listed ≡ option_map_or (λ f. goes_in k (kind_of f)) facts false
listed_at blocks listed a facts before here k q t =
    before k q ∙ ap (λ o. option_map_or (λ x. goes_in k (kind_of x)) o false) (subst (λ z. facts_in z blocks ≡ facts) (same_at a q t) here)

-- ---- whole steps

goes_nowhere : (k : Kind) → goes_in k Other ≡ false
goes_nowhere Uncounted = refl
goes_nowhere Idle = refl
goes_nowhere Zero = refl
goes_nowhere Other = refl

kept_put : (a : Address) (f g : Facts) (blocks : BlockList) (numbers : NumberList) (listed then : Listed) → AreKept blocks numbers listed → facts_in a blocks ≡ Some f → g.number ≡ f.number → is_sound g ≡ true
    → Lists listed then a (Some g) → AreKept (put_facts a (Some g) blocks) numbers then
kept_put a f g blocks numbers listed then kept here same sound lists =
    let finds : Finds blocks (put_facts a (Some g) blocks) a (Some g) = λ q. found_put a q g blocks (subst (λ o. IsSome o) (sym here) refl) in
    let few : length (put_facts a (Some g) blocks) ≤ greatest_limits.blocks = subst (λ n. n ≤ greatest_limits.blocks) (sym (length-set_value (is_at (address_cmp a)) blocks g)) kept.few in
    let ordered : IsStrictlySortedBy address_cmp (keys_of (put_facts a (Some g) blocks)) = subst (λ ks. IsStrictlySortedBy address_cmp ks) (sym (keys-set_value (is_at (address_cmp a)) blocks g)) kept.ordered in
    kept_now blocks (put_facts a (Some g) blocks) numbers numbers listed then a (Some g) kept finds lists sound few ordered
    (numbered_changed blocks (put_facts a (Some g) blocks) numbers a f g kept.numbered finds here same)

-- a block is changed, and listed as it is then
pub kept_changed : (a : Address) (f : Facts) (change : Facts → Facts) (blocks : BlockList) (numbers : NumberList) (listed then : Listed)
    → AreKept blocks numbers listed → facts_in a blocks ≡ Some f → (change f).number ≡ f.number → is_sound (change f) ≡ true → Lists listed then a (Some (change f)) → AreKept (change_at a change blocks) numbers then
kept_changed a f change blocks numbers listed then kept here same sound lists =
    subst (λ o. AreKept (put_facts a (option_map change o) blocks) numbers then) (sym here) (kept_put a f (change f) blocks numbers listed then kept here same sound lists)

-- a block is given
pub kept_given : (a : Address) (epoch : ℕ) (blocks : BlockList) (numbers : NumberList) (listed : Listed) → AreKept blocks numbers listed → AreKept (change_at a (give epoch) blocks) numbers listed
kept_given a epoch blocks numbers listed kept = go (facts_in a blocks) refl
  where
    go : (o : Option Facts) → facts_in a blocks ≡ o → AreKept (put_facts a (option_map (give epoch) o) blocks) numbers listed
    go None e = kept
    go (Some f) e =
        let sound : is_sound f ≡ true = ap (λ o. option_map_or is_sound o true) (sym e) ∙ kept.sound a in
        kept_put a f (give epoch f) blocks numbers listed listed kept e refl sound (listed_as_before blocks listed a f (give epoch f) kept.lists e refl)

-- the list that an absent block is in
pub listed_nowhere : (blocks : BlockList) (listed : Listed) (a : Address) → AreListed blocks listed → facts_in a blocks ≡ None → (k : Kind) (q : Address) → is_at (address_cmp a) q ≡ true → has k q listed ≡ goes_in k Other
listed_nowhere blocks listed a before none k q t = listed_at blocks listed a None before none k q t ∙ sym (goes_nowhere k)

-- a block comes
pub kept_stored : (a : Address) (f : Facts) (blocks now : BlockList) (numbers after : NumberList) (listed then : Listed)
    → AreKept blocks numbers listed → facts_in a blocks ≡ None → address_of f.number numbers ≡ None → is_sound f ≡ true
    → Finds blocks now a (Some f) → Numbers numbers after f.number (Some a) → Lists listed then a (Some f)
    → length now ≤ greatest_limits.blocks → IsStrictlySortedBy address_cmp (keys_of now) → AreKept now after then
kept_stored a f blocks now numbers after listed then kept none free sound finds counts lists few ordered =
    kept_now blocks now numbers after listed then a (Some f) kept finds lists sound few ordered (numbered_stored blocks now numbers after a f kept.numbered finds counts none free)

-- what is taken out of the list of a kind
abbrev pub Unlists : Listed → Listed → Address → Kind → Type 0
Unlists listed then a kind = (k : Kind) (q : Address) → has k q then ≡ cond (is_at (address_cmp a) q && goes_in k kind) false (has k q listed)

unlisted : (blocks : BlockList) (listed then : Listed) (a : Address) (f : Facts) → AreListed blocks listed → facts_in a blocks ≡ Some f → Unlists listed then a (kind_of f) → Lists listed then a None
unlisted blocks listed then a f before here unlists k q = go (is_at (address_cmp a) q) refl (goes_in k (kind_of f)) refl
  where
    go : (b : Bool) → is_at (address_cmp a) q ≡ b → (c : Bool) → goes_in k (kind_of f) ≡ c → has k q then ≡ cond b false (has k q listed)
    go true t true s = unlists k q ∙ ap (λ b. cond (b && goes_in k (kind_of f)) false (has k q listed)) t ∙ ap (λ c. cond c false (has k q listed)) s
    go true t false s =
        unlists k q ∙ ap (λ b. cond (b && goes_in k (kind_of f)) false (has k q listed)) t ∙ ap (λ c. cond c false (has k q listed)) s ∙ listed_at blocks listed a (Some f) before here k q t ∙ s
    go false t c s = unlists k q ∙ ap (λ b. cond (b && goes_in k (kind_of f)) false (has k q listed)) t

-- a block goes
pub kept_removed : (a : Address) (f : Facts) (blocks now : BlockList) (numbers after : NumberList) (listed then : Listed)
    → AreKept blocks numbers listed → facts_in a blocks ≡ Some f → Finds blocks now a None → Numbers numbers after f.number None → Unlists listed then a (kind_of f)
    → length now ≤ length blocks → IsStrictlySortedBy address_cmp (keys_of now) → AreKept now after then
kept_removed a f blocks now numbers after listed then kept here finds counts unlists fewer ordered =
    let few : length now ≤ greatest_limits.blocks = omega (arith, fewer, kept.few) in
    kept_now blocks now numbers after listed then a None kept finds (unlisted blocks listed then a f kept.lists here unlists) refl few ordered
    (numbered_removed blocks now numbers after a f kept.numbered finds counts here)

-- what was put into a list and taken out again
pub kept_alike : (a : Address) (blocks : BlockList) (numbers after : NumberList) (listed then last : Listed)
    → AreKept blocks numbers listed → facts_in a blocks ≡ None → ((n : ℕ) → address_of n after ≡ address_of n numbers)
    → ((k : Kind) (q : Address) → has k q then ≡ cond (is_at (address_cmp a) q) (goes_in k Uncounted) (has k q listed)) → Unlists then last a Uncounted → AreKept blocks after last
kept_alike a blocks numbers after listed then last kept none same lists unlists = record {
  few = kept.few;
  ordered = kept.ordered;
  sound = kept.sound;
  lists = λ k q. back k q ∙ kept.lists k q;
  numbered = record { kept = λ q f e. same f.number ∙ kept.numbered.kept q f e; present = λ n q e. kept.numbered.present n q (sym (same n) ∙ e) };
}
  where
    back : (k : Kind) (q : Address) → has k q last ≡ has k q listed
    back k q = go (is_at (address_cmp a) q) refl (goes_in k Uncounted) refl
      where
        go : (b : Bool) → is_at (address_cmp a) q ≡ b → (c : Bool) → goes_in k Uncounted ≡ c → has k q last ≡ has k q listed
        go true t true s =
            unlists k q ∙ ap (λ b. cond (b && goes_in k Uncounted) false (has k q then)) t ∙ ap (λ c. cond c false (has k q then)) s ∙ sym (listed_at blocks listed a None kept.lists none k q t)
        go true t false s =
            unlists k q ∙ ap (λ b. cond (b && goes_in k Uncounted) false (has k q then)) t ∙ ap (λ c. cond c false (has k q then)) s
            ∙ lists k q ∙ ap (λ b. cond b (goes_in k Uncounted) (has k q listed)) t ∙ s ∙ sym (listed_at blocks listed a None kept.lists none k q t)
        go false t c s =
            unlists k q ∙ ap (λ b. cond (b && goes_in k Uncounted) false (has k q then)) t ∙ lists k q ∙ ap (λ b. cond b (goes_in k Uncounted) (has k q listed)) t

-- ---- what an entry's block points to

found_stored : (number : ℕ) (es : BlockList) → (x : Address × Facts) → find (is_stored_by number) es ≡ Some x → (blocks : BlockList) → AreFound blocks es → (x.1.number ≡ number) × (facts_in x.0 blocks ≡ Some x.1)
found_stored number [] x e blocks found = Some≢None x (sym e)
found_stored number (y ∷ es) x e blocks found = go (λ h. found_stored number es x h blocks found.1) (y.1.number == number) refl
  where
    go : (find (is_stored_by number) es ≡ Some x → (x.1.number ≡ number) × (facts_in x.0 blocks ≡ Some x.1)) → (b : Bool) → (y.1.number == number) ≡ b → (x.1.number ≡ number) × (facts_in x.0 blocks ≡ Some x.1)
    go ih true s =
        let is : y ≡ x = same_some y x (sym (ap (λ b. cond b (Some y) (find (is_stored_by number) es)) s) ∙ e) in
        subst (λ z. (z.1.number ≡ number) × (facts_in z.0 blocks ≡ Some z.1)) is (equal_from y.1.number number s, found.0)
    go ih false s = ih (sym (ap (λ b. cond b (Some y) (find (is_stored_by number) es)) s) ∙ e)

pub pointers_unknown : (blocks : BlockList) (numbers : NumberList) (listed : Listed) (number : ℕ) → AreKept blocks numbers listed → address_of number numbers ≡ None → pointers_at number blocks ≡ None
pointers_unknown blocks numbers listed number kept none = go (find (is_stored_by number) blocks) refl
  where
    go : (o : Option (Address × Facts)) → find (is_stored_by number) blocks ≡ o → option_map (λ e. e.1.pointers) o ≡ None
    go None e = refl
    go (Some x) e =
        let facts = found_stored number blocks x e blocks (all_found blocks kept.ordered) in
        Some≢None x.0 (sym (kept.numbered.kept x.0 x.1 facts.1) ∙ ap (λ n. address_of n numbers) facts.0 ∙ none)

pub pointers_known : (blocks : BlockList) (numbers : NumberList) (listed : Listed) (number : ℕ) (a : Address) (f : Facts)
    → AreKept blocks numbers listed → address_of number numbers ≡ Some a → facts_in a blocks ≡ Some f → pointers_at number blocks ≡ Some f.pointers
pointers_known blocks numbers listed number a f kept at here = go (find (is_stored_by number) blocks) refl
  where
    is_its : (f.number == number) ≡ true
    is_its = ap (λ o. option_map_or (λ x. x.number == number) o false) (sym here) ∙ kept.numbered.present number a at

    go : (o : Option (Address × Facts)) → find (is_stored_by number) blocks ≡ o → option_map (λ e. e.1.pointers) o ≡ Some f.pointers
    go None e = absurd (false≢true (sym (none_stored number a f blocks e here) ∙ is_its))
    go (Some x) e =
        let facts = found_stored number blocks x e blocks (all_found blocks kept.ordered) in
        let same : x.0 ≡ a = same_some x.0 a (sym (kept.numbered.kept x.0 x.1 facts.1) ∙ ap (λ n. address_of n numbers) facts.0 ∙ at) in
        let f_is : x.1 ≡ f = same_some x.1 f (sym facts.1 ∙ ap (λ z. facts_in z blocks) same ∙ here) in
        ap (λ z. Some z.pointers) f_is

pub pointers_lost : {P : Type 0} (blocks : BlockList) (numbers : NumberList) (listed : Listed) (number : ℕ) (a : Address) → AreKept blocks numbers listed → address_of number numbers ≡ Some a → facts_in a blocks ≡ None → P
pointers_lost blocks numbers listed number a kept at none = absurd (false≢true (ap (λ o. option_map_or (λ x. x.number == number) o false) (sym none) ∙ kept.numbered.present number a at))

-- by the address of the number
pub pointers_by_address : (blocks : BlockList) (numbers : NumberList) (listed : Listed) (number : ℕ) (a : Address) → AreKept blocks numbers listed → address_of number numbers ≡ Some a
    → option_map (λ f. f.pointers) (facts_in a blocks) ≡ pointers_at number blocks
pointers_by_address blocks numbers listed number a kept at = go (facts_in a blocks) refl
  where
    go : (o : Option Facts) → facts_in a blocks ≡ o → option_map (λ f. f.pointers) o ≡ pointers_at number blocks
    go None e = pointers_lost blocks numbers listed number a kept at e
    go (Some f) e = sym (pointers_known blocks numbers listed number a f kept at e)
