-- A shard has no more blocks than it takes, whatever its list has.
use Rattle.std.proofs.Common.{◌≡◌, ℕ, ◌+◌, ◌≤◌, ◌==◌, ◌&&◌, List, [], ◌∷◌, length, Bool, true, false, cond, Ordering, Less, Equal, Greater, Option, Some, None, is_none, Result, Ok, Err, refl, sym, subst, nat_lt, arith}
use Rattle.std.proofs.lemmas.Bool.Decides.{nat_tests}
use Rattle.std.proofs.lemmas.Map.{length-set_value}
use Rattle.std.specs.BTreeMap.{insert_entry, is_at}
use Rattle.std.specs.Ordering.{match_ordering}
use Rattle.hs_limits.specs.declared.address.Address.{Address}
use Rattle.hs_limits.specs.declared.spelling.SpellingFault.{SpellingFault}
use Rattle.hs_limits.specs.Block.{Block}
use Rattle.hs_limits.specs.Reading.{read_block}
use Rattle.hs_limits.specs.Shape.{shard_of, shard_of_key}
use Rattle.hs_model.specs.Judge.{drop_root, roots_with}
use Rattle.hs_model.specs.Store.{address_cmp}
use Rattle.hs_entry.specs.declared.entry.Entry.TheVariants as kind
use Rattle.hs_fold.specs.Catalogue.{Present, Shard, fresh_present}
use Rattle.hs_fold.specs.Shards.Catalogue.{Catalogue, empty_catalogue, present_at, is_fresh, has_room, with_present, store_block, is_marked, marked, give_block, retained_in, is_rooted, keep_root, drop_key, apply_all, catalogue_of}
use Rattle.hs_fold.specs.Shards.Setting.{Numbered}

abbrev Fits : Catalogue → Type 0
Fits c = length c.blocks ≤ 16384

pub length-insert : {V : Type 0} (es : List (Address × V)) (a : Address) (v : V) → length (insert_entry address_cmp es a v) ≤ length es + 1
length-insert [] a v = omega arith
length-insert (e ∷ es) a v = go (address_cmp a e.0) (length-insert es a v)
  where
    go : (o : Ordering) → length (insert_entry address_cmp es a v) ≤ length es + 1
        → length (match_ordering o ((a, v) ∷ e ∷ es) ((e.0, v) ∷ es) (e ∷ insert_entry address_cmp es a v)) ≤ length (e ∷ es) + 1
    go Less h = omega arith
    go Equal h = omega arith
    go Greater h = omega (arith, h)

store-fits : (at : Shard) (c : Catalogue) (number least : ℕ) (a : Address) (read : Result Block SpellingFault) → Fits c → Fits (store_block at c number least a read)
store-fits at c number least a (Err fault) h = h
store-fits at c number least a (Ok block) h = go ((shard_of at.shards a == at.shard && is_none (present_at c a)) && is_fresh c least) (has_room c) refl
  where
    new : Present
    new = fresh_present c.epoch number block

    more : (n m : ℕ) → nat_lt n 16384 ≡ true → m ≤ n + 1 → m ≤ 16384
    more n m room le = grind (arith, nat_tests, room, le)

    go : (p q : Bool) → has_room c ≡ q → Fits (cond (p && q) (with_present c a new) c)
    go true true e = more (length c.blocks) (length (insert_entry address_cmp c.blocks a new)) e (length-insert c.blocks a new)
    go true false e = h
    go false q e = h

give-fits : (c : Catalogue) (least number : ℕ) (a : Address) → Fits c → Fits (give_block c least number a)
give-fits c least number a h = go (is_marked c least number (present_at c a)) (present_at c a)
  where
    go : (b : Bool) (found : Option Present) → Fits (cond b (record c { blocks = marked c.epoch found c.blocks a }) c)
    go false found = h
    go true None = h
    go true (Some kept) = subst (λ n. n ≤ 16384) (sym (length-set_value (is_at (address_cmp a)) c.blocks (record kept { mark = c.epoch }))) h

root-fits : (at : Shard) (c : Catalogue) (held : ℕ) (a : Address) (key : List ℕ) → Fits c → Fits (keep_root at c held a key)
root-fits at c held a key h = go (is_rooted at c held a key)
  where
    go : (b : Bool) → Fits (cond b (record c { roots = roots_with (retained_in c key) c.roots (record { key = key; address = a; dropped = None }) }) c)
    go true = h
    go false = h

drop-fits : (at : Shard) (c : Catalogue) (key : List ℕ) → Fits c → Fits (drop_key at c key)
drop-fits at c key h = go (shard_of_key at.shards key == at.shard)
  where
    go : (b : Bool) → Fits (cond b (record c { roots = drop_root (retained_in c key) c.roots key c.epoch }) c)
    go true = h
    go false = h

all-fit : (at : Shard) (c : Catalogue) (es : Numbered) → Fits c → Fits (apply_all at c es)
all-fit at c [] h = h
all-fit at c ((number, kind.View view) ∷ es) h = all-fit at (record c { view = view }) es h
all-fit at c ((number, kind.Block op least bytes) ∷ es) h =
    all-fit at (store_block at c number least (at.name bytes) (read_block bytes)) es (store-fits at c number least (at.name bytes) (read_block bytes) h)
all-fit at c ((number, kind.Mark op least block a) ∷ es) h = all-fit at (give_block c least block a) es (give-fits c least block a h)
all-fit at c ((number, kind.Root op held a key) ∷ es) h = all-fit at (keep_root at c held a key) es (root-fits at c held a key h)
all-fit at c ((number, kind.Drop op key) ∷ es) h = all-fit at (drop_key at c key) es (drop-fits at c key h)
all-fit at c ((number, kind.Enter op epoch) ∷ es) h = all-fit at c es h
all-fit at c ((number, kind.Got sender epoch round total deltas) ∷ es) h = all-fit at c es h
all-fit at c ((number, kind.Base view epoch swept round frames) ∷ es) h = all-fit at c es h
all-fit at c ((number, kind.KeptBlock born mark flags count bytes) ∷ es) h = all-fit at c es h
all-fit at c ((number, kind.KeptRoot created dropped counted address key) ∷ es) h = all-fit at c es h
all-fit at c ((number, kind.KeptRound way other epoch round total deltas) ∷ es) h = all-fit at c es h

pub blocks-fit : (at : Shard) (list : Numbered) → length (catalogue_of at list).blocks ≤ 16384
blocks-fit at list = all-fit at empty_catalogue list (omega arith)
