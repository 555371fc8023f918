-- Each entry keeps a catalogue's parts of its shard and in order.
use Rattle.std.proofs.Common.{◌≡◌, inl, inr, ℕ, suc, arith, ◌+◌, ◌==◌, ◌&&◌, List, [], ◌∷◌, ◌++◌, length, Bool, true, false, cond, Option, Some, None, is_none, Result, Ok, Err, refl, sym, ap, ◌∙◌, subst}
use Rattle.std.proofs.lemmas.Bool.Decides.{nat_tests}
use Rattle.std.proofs.lemmas.Map.{keys-set_value}
use Rattle.std.specs.BTreeMap.{is_at}
use Rattle.std.specs.List.{AllByRecursion}
use Rattle.std.specs.List.Sorted.{IsStrictlySortedBy}
use Rattle.hs_limits.specs.declared.address.Address.{Address}
use Rattle.hs_limits.specs.declared.spelling.SpellingFault.{SpellingFault}
use Rattle.hs_limits.specs.Block.{Block}
use Rattle.hs_limits.specs.Reading.{read_block}
use Rattle.hs_limits.specs.Shape.{shard_of, shard_of_key}
use Rattle.hs_model.specs.Judge.{drop_root, roots_with}
use Rattle.hs_model.specs.Store.{Root, address_cmp, is_retained, place_root, without_first}
use Rattle.hs_laws.proofs.OrderLemmas.{address_total, insert-all, insert-sorted, none-sorted, place-all, without-all, place-rising, without-rising, Rising}
use Rattle.hs_laws.proofs.RootKeeps.{found_root}
use Rattle.hs_model.proofs.Members.{Member}
use Rattle.hs_entry.specs.declared.entry.Entry.{Entry}
use Rattle.hs_entry.specs.declared.entry.Entry.TheVariants as kind
use Rattle.hs_fold.specs.Catalogue.{Present, Shard, fresh_present}
use Rattle.hs_fold.specs.Shards.Catalogue.{Catalogue, empty_catalogue, present_at, is_fresh, has_room, with_present, store_block, is_marked, marked, give_block, retained_in, keep_root, drop_key, apply, apply_all}
use Rattle.hs_fold.specs.Shards.Mine.{IsRising, IsMine, AreMine}

-- the laws of the plain store say the order of roots in the same words
pub from-rising : (rs : List Root) → IsRising rs → Rising rs
from-rising [] h = tt
from-rising (r ∷ rs) h = (h.0, from-rising rs h.1)

pub to-rising : (rs : List Root) → Rising rs → IsRising rs
to-rising [] h = tt
to-rising (r ∷ rs) h = (h.0, to-rising rs h.1)

eqb-eq : (a b : ℕ) → (a == b) ≡ true → a ≡ b
eqb-eq a b e = grind (arith, nat_tests, e)

pub empty-mine : (n g : ℕ) → IsMine n g empty_catalogue
empty-mine n g = record { ordered = none-sorted address_cmp; blocks = tt; rising = tt; roots = tt }

module _ (at : Shard) (c : Catalogue) (h : IsMine at.shards at.shard c) where
  abbrev n : ℕ
  n = at.shards

  abbrev g : ℕ
  g = at.shard

  store-mine : (number least : ℕ) (a : Address) (read : Result Block SpellingFault) → IsMine n g (store_block at c number least a read)
  store-mine number least a (Err fault) = h
  store-mine number least a (Ok block) = go (shard_of n a == g) refl (is_none (present_at c a)) (is_fresh c least) (has_room c)
    where
      stored : shard_of n a ≡ g → IsMine n g (with_present c a (fresh_present c.epoch number block))
      stored here = record {
        ordered = insert-sorted address_cmp address_total c.blocks a (fresh_present c.epoch number block) h.ordered;
        blocks = insert-all address_cmp (λ b. shard_of n b ≡ g) c.blocks a (fresh_present c.epoch number block) here h.blocks;
        rising = h.rising;
        roots = h.roots;
      }

      go : (p : Bool) → (shard_of n a == g) ≡ p → (q r t : Bool) → IsMine n g (cond (((p && q) && r) && t) (with_present c a (fresh_present c.epoch number block)) c)
      go true e true true true = stored (eqb-eq (shard_of n a) g e)
      go true e true true false = h
      go true e true false t = h
      go true e false r t = h
      go false e q r t = h

  give-mine : (least number : ℕ) (a : Address) → IsMine n g (give_block c least number a)
  give-mine least number a = go (is_marked c least number (present_at c a)) (present_at c a)
    where
      go : (b : Bool) (found : Option Present) → IsMine n g (cond b (record c { blocks = marked c.epoch found c.blocks a }) c)
      go false found = h
      go true None = h
      go true (Some kept) =
          let keys = keys-set_value (is_at (address_cmp a)) c.blocks (record kept { mark = c.epoch }) in
          record {
            ordered = subst (λ ks. IsStrictlySortedBy address_cmp ks) (sym keys) h.ordered;
            blocks = subst (λ ks. AllByRecursion (λ b. shard_of n b ≡ g) ks) (sym keys) h.blocks;
            rising = h.rising;
            roots = h.roots;
          }

  rooted-mine : (held : ℕ) (a : Address) (key : List ℕ) → IsMine n g (keep_root at c held a key)
  rooted-mine held a key = go (shard_of_key n key == g) refl (is_fresh c held) _ _ (retained_in c key)
    where
      root : Root
      root = record { key = key; address = a; dropped = None }

      go : (p : Bool) → (shard_of_key n key == g) ≡ p → (q r t : Bool) (found : Option Root) → IsMine n g (cond (((p && q) && r) && t) (record c { roots = roots_with found c.roots root }) c)
      go true e true true true None = record {
        ordered = h.ordered;
        blocks = h.blocks;
        rising = to-rising (place_root root c.roots) (place-rising root c.roots (from-rising c.roots h.rising));
        roots = place-all (λ (r : Root). shard_of_key n r.key ≡ g) root c.roots (eqb-eq (shard_of_key n key) g e) h.roots;
      }
      go true e true true true (Some old) = h
      go true e true true false found = h
      go true e true false t found = h
      go true e false r t found = h
      go false e q r t found = h

  of-member : (rs : List Root) (r : Root) → AllByRecursion (λ (r : Root). shard_of_key n r.key ≡ g) rs → Member r rs → shard_of_key n r.key ≡ g
  of-member [] r k m = elim m [ ]
  of-member (x ∷ rs) r k (inl e) = ap (λ (r : Root). shard_of_key n r.key) e ∙ k.0
  of-member (x ∷ rs) r k (inr m) = of-member rs r k.1 m

  dropped-mine : (key : List ℕ) → IsMine n g (drop_key at c key)
  dropped-mine key = go (shard_of_key n key == g) (retained_in c key) refl
    where
      go : (p : Bool) (found : Option Root) → retained_in c key ≡ found → IsMine n g (cond p (record c { roots = drop_root found c.roots key c.epoch }) c)
      go false found e = h
      go true None e = h
      go true (Some root) e =
          let is = found_root (is_retained key) c.roots root e in
          let new : Root = record root { dropped = Some c.epoch } in
          let rest : List Root = without_first (is_retained key) c.roots in
          record {
            ordered = h.ordered;
            blocks = h.blocks;
            rising = to-rising (place_root new rest) (place-rising new rest (without-rising (is_retained key) c.roots (from-rising c.roots h.rising)));
            roots = place-all (λ (r : Root). shard_of_key n r.key ≡ g) new rest (of-member c.roots root h.roots is.0) (without-all (λ (r : Root). shard_of_key n r.key ≡ g) (is_retained key) c.roots h.roots);
          }

  pub apply-mine : (number : ℕ) (entry : Entry) → IsMine n g (apply at c (number, entry))
  apply-mine number (kind.View view) = record { ordered = h.ordered; blocks = h.blocks; rising = h.rising; roots = h.roots }
  apply-mine number (kind.Block op least bytes) = store-mine number least (at.name bytes) (read_block bytes)
  apply-mine number (kind.Mark op least block address) = give-mine least block address
  apply-mine number (kind.Root op held address key) = rooted-mine held address key
  apply-mine number (kind.Drop op key) = dropped-mine key
  apply-mine number (kind.Enter op epoch) = h
  apply-mine number (kind.Got sender epoch round total deltas) = h
  apply-mine number (kind.Base view epoch swept round frames) = h
  apply-mine number (kind.KeptBlock born mark flags count bytes) = h
  apply-mine number (kind.KeptRoot created dropped counted address key) = h
  apply-mine number (kind.KeptRound way other epoch round total deltas) = h

pub all-mine : (at : Shard) (c : Catalogue) (es : List (ℕ × Entry)) → IsMine at.shards at.shard c → IsMine at.shards at.shard (apply_all at c es)
all-mine at c [] h = h
all-mine at c (e ∷ es) h = all-mine at (apply at c e) es (apply-mine at c h e.0 e.1)

-- ---- one of several

pub mine-there : (n from : ℕ) (front back : List Catalogue) (c : Catalogue) → AreMine n from (front ++ c ∷ back) → IsMine n (from + length front) c
mine-there n from [] back c h = subst (λ k. IsMine n k c) (zero-right from) h.0
  where
    zero-right : (k : ℕ) → k ≡ k + 0
    zero-right k = omega arith
mine-there n from (x ∷ front) back c h = subst (λ k. IsMine n k c) (shift from (length front)) (mine-there n (from + 1) front back c h.1)
  where
    shift : (a b : ℕ) → a + 1 + b ≡ a + suc b
    shift a b = omega arith

pub mine-set : (n from : ℕ) (front back : List Catalogue) (c d : Catalogue) → AreMine n from (front ++ c ∷ back) → IsMine n (from + length front) d → AreMine n from (front ++ d ∷ back)
mine-set n from [] back c d h k = (subst (λ m. IsMine n m d) (zero-right from) k, h.1)
  where
    zero-right : (k : ℕ) → k + 0 ≡ k
    zero-right k = omega arith
mine-set n from (x ∷ front) back c d h k = (h.0, mine-set n (from + 1) front back c d h.1 (subst (λ m. IsMine n m d) (shift from (length front)) k))
  where
    shift : (a b : ℕ) → a + suc b ≡ a + 1 + b
    shift a b = omega arith
