-- What an entry does to a catalogue, as the plain store sees it.
use Rattle.std.proofs.Common.{◌≡◌, ℕ, zero, suc, ◌==◌, ◌&&◌, List, [], ◌∷◌, map, Bool, true, false, cond, Option, Some, None, is_none, Result, Ok, Err, refl, sym, ap, ◌∙◌, subst, find, bytes_eq}
use Rattle.std.proofs.lemmas.Bool.{and_parts}
use Rattle.std.proofs.lemmas.Map.Made.{lookup-map_values}
use Rattle.std.proofs.lemmas.Slice.Eq.{bytes_eq-Decides}
use Rattle.std.specs.BTreeMap.{insert_entry, is_at}
use Rattle.std.specs.List.{AllByRecursion, insert}
use Rattle.std.specs.Option.{option_map}
use Rattle.hs_limits.specs.declared.address.Address.{Address}
use Rattle.hs_limits.specs.declared.spelling.SpellingFault.{SpellingFault}
use Rattle.hs_limits.specs.Block.{Block}
use Rattle.hs_limits.specs.Reading.{read_block}
use Rattle.hs_limits.specs.Shape.{shard_of_key}
use Rattle.hs_model.specs.Judge.{drop_root, roots_with}
use Rattle.hs_model.specs.Store.{Root, address_cmp, is_retained, place_root, without_first}
use Rattle.hs_model.proofs.MapLemmas.{map-insert_entry, map-set_value}
use Rattle.hs_entry.specs.declared.entry.Entry.{Entry}
use Rattle.hs_entry.specs.declared.entry.Entry.TheVariants as kind
use Rattle.hs_roots.specs.ByKey.{count_upto}
use Rattle.hs_fold.proofs.Shards.RootLemmas.{gt, find-placed, find-place, without-placed, without-place, place-commute, both-rising, both-each}
use Rattle.hs_fold.specs.Catalogue.{Present, Shard, fresh_present}
use Rattle.hs_fold.specs.Runs.Catalogue.{apply}
use Rattle.hs_fold.specs.Runs.Clients.{new_facts, store_block, remark, marked, give_block, keep_root, end_retention, drop_key, insert_root, new_root}
use Rattle.hs_fold.specs.Runs.Facts.{roots_of, Facts, RootFacts, Catalogue, plain, facts_at}
use Rattle.hs_fold.specs.Runs.Happening.{IsClients}
use Rattle.hs_fold.specs.Runs.Own.{OneRetained}
use Rattle.hs_fold.specs.Shards.Catalogue.{is_stored, is_marked, is_rooted, retained_in, with_present, apply as plain_apply, store_block as plain_store, give_block as plain_give, keep_root as plain_keep, drop_key as plain_drop, marked as plain_marked}
use Rattle.hs_fold.specs.Shards.Opened.{both_roots}

store-plain : (at : Shard) (c : Catalogue) (number least : ℕ) (a : Address) (read : Result Block SpellingFault) → plain (store_block at c number least a read) ≡ plain_store at (plain c) number least a read
store-plain at c number least a (Err fault) = refl
store-plain at c number least a (Ok block) = go (is_stored at (plain c) least a)
  where
    kept : Present
    kept = fresh_present c.epoch number block

    go : (b : Bool) → plain (cond b (record c { blocks = insert_entry address_cmp c.blocks a (new_facts kept) }) c) ≡ cond b (with_present (plain c) a kept) (plain c)
    go true = ap (λ bs. record (plain c) { blocks = bs }) (map-insert_entry (λ (f : Facts). f.present) address_cmp c.blocks a (new_facts kept))
    go false = refl

mark-plain : (c : Catalogue) (least number : ℕ) (a : Address) → plain (give_block c least number a) ≡ plain_give (plain c) least number a
mark-plain c least number a =
    go (facts_at c a) ∙ sym (ap (λ found. cond (is_marked (plain c) least number found) (record (plain c) { blocks = plain_marked c.epoch found (plain c).blocks a }) (plain c)) (lookup-map_values (λ (f : Facts). f.present) (is_at (address_cmp a)) c.blocks))
  where
    one : (f : Facts) (b : Bool) → plain (cond b (record c { blocks = marked c.epoch (Some f) c.blocks a }) c) ≡ cond b (record (plain c) { blocks = plain_marked c.epoch (Some f.present) (plain c).blocks a }) (plain c)
    one f true = ap (λ bs. record (plain c) { blocks = bs }) (map-set_value (λ (f : Facts). f.present) (is_at (address_cmp a)) c.blocks (remark c.epoch f))
    one f false = refl

    go : (found : Option Facts) → plain (cond (is_marked (plain c) least number (option_map (λ f. f.present) found)) (record c { blocks = marked c.epoch found c.blocks a }) c)
        ≡ cond (is_marked (plain c) least number (option_map (λ f. f.present) found)) (record (plain c) { blocks = plain_marked c.epoch (option_map (λ f. f.present) found) (plain c).blocks a }) (plain c)
    go None = refl
    go (Some f) = one f (is_marked (plain c) least number (Some f.present))

abbrev placed : List Root → List Root
placed rs = both_roots rs []

-- a root that is put anywhere is placed as if it were the first
put-anywhere : (ks : List RootFacts) (i : ℕ) (r : RootFacts) → placed (roots_of (insert ks i r)) ≡ place_root r.root (placed (roots_of ks))
put-anywhere [] zero r = refl
put-anywhere [] (suc i) r = refl
put-anywhere (k ∷ ks) zero r = refl
put-anywhere (k ∷ ks) (suc i) r = ap (place_root k.root) (put-anywhere ks i r) ∙ place-commute (placed (roots_of ks)) k.root r.root

root-plain : (at : Shard) (c : Catalogue) (held : ℕ) (a : Address) (key : List ℕ) → plain (keep_root at c held a key) ≡ plain_keep at (plain c) held a key
root-plain at c held a key = go (is_rooted at (plain c) held a key) (retained_in (plain c) key)
  where
    new : Root
    new = record { key = key; address = a; dropped = None }

    go : (b : Bool) (found : Option Root) → plain (cond (b && is_none found) (record c { roots = insert_root (new_root c.epoch a key) c.roots }) c) ≡ cond b (record (plain c) { roots = roots_with found (plain c).roots new }) (plain c)
    go true None = ap (λ rs. record (plain c) { roots = rs }) (put-anywhere c.roots (count_upto (λ (r : RootFacts). r.root.key) key c.roots) (new_root c.epoch a key))
    go true (Some r) = refl
    go false found = refl

-- ---- Drop

pub same_key : (key : List ℕ) (r : Root) → is_retained key r ≡ true → (r.key ≡ key) × (is_none r.dropped ≡ true)
same_key key r e = let both = and_parts (is_none r.dropped) (bytes_eq r.key key) e in ((bytes_eq-Decides r.key key).0 both.1, both.0)

none-ends : (key : List ℕ) (epoch : ℕ) (ks : List RootFacts) → AllByRecursion (λ q. is_retained key q ≡ false) (roots_of ks) → roots_of (map (end_retention key epoch) ks) ≡ roots_of ks
none-ends key epoch [] h = refl
none-ends key epoch (k ∷ ks) h = rw h.0 (ap (λ rs. k.root ∷ rs) (none-ends key epoch ks h.1))

pub dropped-placed : (key : List ℕ) (epoch : ℕ) (ks : List RootFacts) → OneRetained (roots_of ks)
    → placed (roots_of (map (end_retention key epoch) ks)) ≡ drop_root (find (is_retained key) (placed (roots_of ks))) (placed (roots_of ks)) key epoch
dropped-placed key epoch [] h = refl
dropped-placed key epoch (k ∷ ks) h = go (dropped-placed key epoch ks h.1) (is_retained key k.root) refl
  where
    test : Root → Bool
    test = is_retained key

    rest : List Root
    rest = placed (roots_of ks)

    go : placed (roots_of (map (end_retention key epoch) ks)) ≡ drop_root (find (is_retained key) rest) rest key epoch → (t : Bool) → is_retained key k.root ≡ t → placed ((cond t (record k { root = record k.root { dropped = Some epoch } }) k).root ∷ roots_of (map (end_retention key epoch) ks)) ≡ drop_root (find (is_retained key) (place_root k.root rest)) (place_root k.root rest) key epoch
    go ih true e =
        let none : AllByRecursion (λ q. is_retained key q ≡ false) (roots_of ks) = subst (λ x. AllByRecursion (λ q. is_retained x q ≡ false) (roots_of ks)) (same_key key k.root e).0 (h.0 (same_key key k.root e).1) in
        let low : AllByRecursion (λ y. is_retained key y ≡ true → gt k.root y ≡ false) rest = weaken rest (both-each (λ q. is_retained key q ≡ false) (roots_of ks) [] none tt) in
        rw (find-placed (is_retained key) rest k.root low e, without-placed (is_retained key) rest k.root low e) (ap (λ rs. place_root (record k.root { dropped = Some epoch }) (placed rs)) (none-ends key epoch ks none))
      where
        weaken : (ys : List Root) → AllByRecursion (λ q. is_retained key q ≡ false) ys → AllByRecursion (λ y. is_retained key y ≡ true → gt k.root y ≡ false) ys
        weaken [] g = tt
        weaken (y ∷ ys) g = ((λ t. cc (t, g.0)), weaken ys g.1)
    go ih false e = ap (place_root k.root) ih ∙ sym (ap (λ found. drop_root found (place_root k.root rest) key epoch) (find-place (is_retained key) rest k.root e) ∙ one (find (is_retained key) rest))
      where
        one : (found : Option Root) → drop_root found (place_root k.root rest) key epoch ≡ place_root k.root (drop_root found rest key epoch)
        one None = refl
        one (Some r) =
            let new : Root = record r { dropped = Some epoch } in
            ap (place_root new) (without-place (is_retained key) rest k.root (both-rising (roots_of ks) [] tt) e) ∙ place-commute (without_first (is_retained key) rest) new k.root

drop-plain : (at : Shard) (c : Catalogue) (key : List ℕ) → OneRetained (roots_of c.roots) → plain (drop_key at c key) ≡ plain_drop at (plain c) key
drop-plain at c key h = go (shard_of_key at.shards key == at.shard)
  where
    go : (b : Bool) → plain (cond b (record c { roots = map (end_retention key c.epoch) c.roots }) c) ≡ cond b (record (plain c) { roots = drop_root (retained_in (plain c) key) (plain c).roots key c.epoch }) (plain c)
    go true = ap (λ rs. record (plain c) { roots = rs }) (dropped-placed key c.epoch c.roots h)
    go false = refl

pub apply-plain : (at : Shard) (c : Catalogue) → OneRetained (roots_of c.roots) → (number : ℕ) (entry : Entry) → IsClients entry → plain (apply at c (number, entry)) ≡ plain_apply at (plain c) (number, entry)
apply-plain at c h number (kind.View view) u = refl
apply-plain at c h number (kind.Block op least bytes) u = store-plain at c number least (at.name bytes) (read_block bytes)
apply-plain at c h number (kind.Mark op least block address) u = mark-plain c least block address
apply-plain at c h number (kind.Root op held address key) u = root-plain at c held address key
apply-plain at c h number (kind.Drop op key) u = drop-plain at c key h
apply-plain at c h number (kind.Enter op epoch) u = elim u [ ]
apply-plain at c h number (kind.Got sender epoch round total deltas) u = elim u [ ]
apply-plain at c h number (kind.Base view epoch swept round frames) u = refl
apply-plain at c h number (kind.KeptBlock born mark flags count bytes) u = refl
apply-plain at c h number (kind.KeptRoot created dropped counted address key) u = refl
apply-plain at c h number (kind.KeptRound way other epoch round total deltas) u = refl
