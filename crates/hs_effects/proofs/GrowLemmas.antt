-- How many blocks and roots an entry adds to a catalogue: a Block one block, a Root one root, and any other none.
use Rattle.std.proofs.Common.{◌≡◌, ◌∙◌, ℕ, zero, suc, ◌+◌, ◌≤◌, ◌==◌, Bool, true, false, cond, not, ◌&&◌, ◌||◌, List, [], ◌∷◌, length, map, filter, count_by, is_none, is_some, Option, Some, None, Ok, Err, Ordering, Less, Equal, Greater, Result, arith}
use Rattle.std.proofs.lemmas.List.Sums.{sum_by-cons, sum_by-insert}
use Rattle.std.specs.BTreeMap.{insert_entry}
use Rattle.std.specs.Option.{option_map, option_map_or}
use Rattle.std.specs.Ordering.{match_ordering}
use Rattle.hs_desk.specs.declared.what.What.TheVariants as what
use Rattle.hs_effects.proofs.EndingLemmas.{gone_and_left, length_each, length_put, length_searched, length_settle}
use Rattle.hs_entry.specs.declared.entry.Entry.{Entry}
use Rattle.hs_entry.specs.declared.entry.Entry.TheVariants as kind
use Rattle.hs_limits.specs.Block.{Block}
use Rattle.hs_limits.specs.Reading.{read_block}
use Rattle.hs_limits.specs.Shape.{shard_of_key}
use Rattle.hs_limits.specs.declared.address.Address.{Address}
use Rattle.hs_limits.specs.declared.spelling.SpellingFault.{SpellingFault}
use Rattle.hs_model.specs.Store.{address_cmp}
use Rattle.hs_replica.specs.Kinds.{is_block, is_root}
use Rattle.hs_roots.specs.ByKey.{count_upto}
use Rattle.hs_roots.specs.Roots.{counting, dropping, is_released, insert_root, new_root, release, retained_count, retained_of, retains}
use Rattle.hs_roots.specs.Roots.{put_root as with_root}
use Rattle.hs_roots.specs.declared.root.RootRecord.{RootRecord}
use Rattle.hs_rounds.specs.Rounds.{complete, is_last, received}
use Rattle.hs_rounds.specs.declared.body.RoundBody.{RoundBody}
use Rattle.hs_rounds.specs.declared.place.Place.{Place}
use Rattle.hs_shard.specs.Apply.{apply, named_as}
use Rattle.hs_shard.specs.Clients.{Applied, change_at, drop_root, give, mark_block, new_facts, only, put_root, root_refusal, store_block, with_block}
use Rattle.hs_shard.specs.Facts.{BlockList, Catalogue, facts_at, facts_in, has_room, is_fresh, is_mine}
use Rattle.hs_shard.specs.Rounds.{advance, advanced, count_block, each_block, end_open, enter, entered, get_round, gone_count, is_accepted, log_got, may_enter, searched, settled, still_kept, swept}
use Rattle.hs_shard.specs.declared.facts.Facts.{Facts}

-- ---- numbers

le_same : (n : ℕ) → n ≤ n
le_same n = omega arith

le_zero : (n : ℕ) → 0 ≤ n
le_zero n = omega arith

le_more : (n m : ℕ) → n ≤ n + m
le_more n m = omega arith

le_is : (m n : ℕ) → m ≡ n → m ≤ n
le_is m n e = omega (arith, e)

le_part : (g l n : ℕ) → g + l ≡ n → l ≤ n
le_part g l n e = omega (arith, e)

le_with : (m n k : ℕ) → m ≤ n → m ≤ n + k
le_with m n k h = omega (arith, h)

le_both : (a b c : ℕ) → a ≤ b → b ≤ c → a ≤ c
le_both a b c h k = omega (arith, h, k)

-- ---- how often a test passes

module _ {X : Type 0} (p : X → Bool) where
  counted : (x : X) (xs : List X) → count_by p (x ∷ xs) ≡ cond (p x) 1 0 + count_by p xs
  counted x xs = sum_by-cons (λ y. cond (p y) 1 0) x xs

  count_map : (f : X → X) → ((x : X) → cond (p (f x)) 1 0 ≤ cond (p x) 1 0) → (xs : List X) → count_by p (map f xs) ≤ count_by p xs
  count_map f h [] = omega arith
  count_map f h (x ∷ xs) = let a = counted (f x) (map f xs) in let b = counted x xs in let c = h x in let d = count_map f h xs in omega (arith, a, b, c, d)

  count_filter : (q : X → Bool) (xs : List X) → count_by p (filter q xs) ≤ count_by p xs
  count_filter q [] = omega arith
  count_filter q (x ∷ xs) = go (q x) (count_filter q xs)
    where
      go : (b : Bool) → count_by p (filter q xs) ≤ count_by p xs → count_by p (cond b (x ∷ filter q xs) (filter q xs)) ≤ count_by p (x ∷ xs)
      go true ih = let a = counted x (filter q xs) in let b = counted x xs in omega (arith, a, b, ih)
      go false ih = let b = counted x xs in omega (arith, b, ih)

length_insert : (es : BlockList) (a : Address) (f : Facts) → length (insert_entry address_cmp es a f) ≤ length es + 1
length_insert [] a f = omega arith
length_insert (e ∷ es) a f = go (address_cmp a e.0) (length_insert es a f)
  where
    go : (o : Ordering) → length (insert_entry address_cmp es a f) ≤ length es + 1
        → length (match_ordering o ((a, f) ∷ e ∷ es) ((e.0, f) ∷ es) (e ∷ insert_entry address_cmp es a f)) ≤ length (e ∷ es) + 1
    go Less h = omega arith
    go Equal h = omega arith
    go Greater h = omega (arith, h)

-- ---- roots

drops : (key : List ℕ) (epoch : ℕ) (root : RootRecord) → cond (is_none (dropping key epoch root).dropped) 1 0 ≤ cond (is_none root.dropped) 1 0
drops key epoch root = go (retains key root)
  where
    go : (b : Bool) → cond (is_none (cond b (record root { dropped = Some epoch }) root).dropped) 1 0 ≤ cond (is_none root.dropped) 1 0
    go true = le_zero (cond (is_none root.dropped) 1 0)
    go false = le_same (cond (is_none root.dropped) 1 0)

keeps_count : (epoch : ℕ) (root : RootRecord) → cond (is_none (counting epoch root).dropped) 1 0 ≤ cond (is_none root.dropped) 1 0
keeps_count epoch root = le_same (cond (is_none root.dropped) 1 0)

puts : (key : List ℕ) (a : Address) (epoch : ℕ) (roots : List RootRecord) → retained_count (with_root key a epoch roots) ≤ retained_count roots + 1
puts key a epoch roots = go (is_some (retained_of key roots))
  where
    go : (b : Bool) → retained_count (cond b roots (insert_root (new_root key a epoch) roots)) ≤ retained_count roots + 1
    go true = le_more (retained_count roots) 1
    go false = le_is (retained_count (insert_root (new_root key a epoch) roots)) (retained_count roots + 1) (sum_by-insert (λ (r : RootRecord). cond (is_none r.dropped) 1 0) roots (count_upto (λ (r : RootRecord). r.key) key roots) (new_root key a epoch))

lets_go : (epoch round : ℕ) (roots : List RootRecord) → retained_count (still_kept epoch round roots) ≤ retained_count roots
lets_go epoch round roots = go (round == 0)
  where
    go : (b : Bool) → retained_count (cond b (release epoch roots) roots) ≤ retained_count roots
    go true = count_filter (λ (r : RootRecord). is_none r.dropped) (λ r. not (is_released epoch r)) roots
    go false = le_same (retained_count roots)

-- ---- rounds add nothing

pub record Shrinks (a b : Catalogue) : Type 0 where
  pub blocks : length b.blocks ≤ length a.blocks
  pub roots : retained_count b.roots ≤ retained_count a.roots

same : (c : Catalogue) → Shrinks c c
same c = record { blocks = le_same (length c.blocks); roots = le_same (retained_count c.roots) }

both : (a b c : Catalogue) → Shrinks a b → Shrinks b c → Shrinks a c
both a b c p q = record {
  blocks = le_both (length c.blocks) (length b.blocks) (length a.blocks) q.blocks p.blocks;
  roots = le_both (retained_count c.roots) (retained_count b.roots) (retained_count a.roots) q.roots p.roots;
}

sweeps : (at : ℕ × ℕ) (a : Applied) → Shrinks a.catalogue (swept at.0 a.effect (settled at.1 a.catalogue)).catalogue
sweeps at a =
    let cut : Catalogue = (swept at.0 a.effect (settled at.1 a.catalogue)).catalogue in
    record {
      blocks = le_part (gone_count at.0 (settled at.1 a.catalogue).blocks) (length cut.blocks) (length a.catalogue.blocks)
          (gone_and_left at.0 (settled at.1 a.catalogue).blocks ∙ length_settle at.1 (received a.catalogue.run) a.catalogue.blocks);
      roots = le_same (retained_count a.catalogue.roots);
    }

searches : (at : ℕ × ℕ) (a : Applied) → Shrinks a.catalogue (searched at.0 at.1 a.effect (settled at.1 a.catalogue)).catalogue
searches at a = record {
  blocks = le_is (length (searched at.0 at.1 a.effect (settled at.1 a.catalogue)).catalogue.blocks) (length a.catalogue.blocks) (length_searched at a);
  roots = lets_go at.0 at.1 a.catalogue.roots;
}

module _ (a : Applied) where
  ends_by : (at : ℕ × ℕ) (last : Bool) → Shrinks a.catalogue (cond last (swept at.0 a.effect (settled at.1 a.catalogue)) (searched at.0 at.1 a.effect (settled at.1 a.catalogue))).catalogue
  ends_by at true = sweeps at a
  ends_by at false = searches at a

  ends : (o : Option (ℕ × ℕ)) → Shrinks a.catalogue (end_open o a).catalogue
  ends None = same a.catalogue
  ends (Some at) = ends_by at (is_last a.catalogue.run)

one_more : (turns : ℕ) (a : Applied) (b : Bool) → Shrinks (end_open a.catalogue.run.opened a).catalogue (advance turns (end_open a.catalogue.run.opened a)).catalogue
    → Shrinks a.catalogue (cond b (advance turns (end_open a.catalogue.run.opened a)) a).catalogue
one_more turns a true rest =
    both a.catalogue (end_open a.catalogue.run.opened a).catalogue (advance turns (end_open a.catalogue.run.opened a)).catalogue (ends a a.catalogue.run.opened) rest
one_more turns a false rest = same a.catalogue

advances : (turns : ℕ) (a : Applied) → Shrinks a.catalogue (advance turns a).catalogue
advances zero a = same a.catalogue
advances (suc turns) a = one_more turns a (complete a.catalogue.run) (advances turns (end_open a.catalogue.run.opened a))

-- ---- an entry

pub record Grows (entry : Entry) (a b : Catalogue) : Type 0 where
  pub blocks : length b.blocks ≤ length a.blocks + cond (is_block entry) 1 0
  pub roots : retained_count b.roots ≤ retained_count a.roots + cond (is_root entry) 1 0

stays : (entry : Entry) (a b : Catalogue) → Shrinks a b → Grows entry a b
stays entry a b s = record {
  blocks = le_with (length b.blocks) (length a.blocks) (cond (is_block entry) 1 0) s.blocks;
  roots = le_with (retained_count b.roots) (retained_count a.roots) (cond (is_root entry) 1 0) s.roots;
}

stores_one : (line least used number : ℕ) (bytes : List ℕ) (a : Address) (read : Result Block SpellingFault) (c : Catalogue)
    → Grows (kind.Block line least bytes) c (store_block number used a read c).catalogue
stores_one line least used number bytes a (Err fault) c = stays (kind.Block line least bytes) c c (same c)
stores_one line least used number bytes a (Ok block) c = go (not (is_mine a c) || is_some (facts_at a c)) (not (is_fresh used c && has_room c))
  where
    f : Facts
    f = new_facts number c.epoch block.pointers

    go : (p q : Bool) → Grows (kind.Block line least bytes) c (cond p (only what.Nothing c) (cond q (only what.Refused c) (only what.Stored (with_block a (new_facts number c.epoch block.pointers) c)))).catalogue
    go true q = stays (kind.Block line least bytes) c c (same c)
    go false true = stays (kind.Block line least bytes) c c (same c)
    go false false = record { blocks = length_insert c.blocks a f; roots = le_more (retained_count c.roots) 0 }

marks_one : (entry : Entry) (least number : ℕ) (a : Address) (c : Catalogue) → Grows entry c (mark_block least number a c).catalogue
marks_one entry least number a c = go (not (option_map_or (λ (f : Facts). f.number == number) (facts_at a c) false)) (not (is_fresh least c))
  where
    go : (p q : Bool) → Grows entry c (cond p (only what.Again c) (cond q (only what.Refused c) (only what.Marked (record c { blocks = change_at a (give c.epoch) c.blocks })))).catalogue
    go true q = stays entry c c (same c)
    go false true = stays entry c c (same c)
    go false false = stays entry c (record c { blocks = change_at a (give c.epoch) c.blocks }) (record {
      blocks = le_is (length (change_at a (give c.epoch) c.blocks)) (length c.blocks) (length_put a (option_map (give c.epoch) (facts_in a c.blocks)) c.blocks);
      roots = le_same (retained_count c.roots);
    })

puts_one : (line epoch held : ℕ) (kept a : Address) (key of : List ℕ) (c : Catalogue) → Grows (kind.Root line epoch kept of) c (put_root held a key c).catalogue
puts_one line epoch held kept a key of c = go (not (shard_of_key c.shape.shards key == c.shard)) (not (is_fresh held c) || is_some (root_refusal a key c))
  where
    go : (p q : Bool) → Grows (kind.Root line epoch kept of) c (cond p (only what.Nothing c) (cond q (only what.Refused c) (only what.Rooted (record c { roots = with_root key a c.epoch c.roots })))).catalogue
    go true q = stays (kind.Root line epoch kept of) c c (same c)
    go false true = stays (kind.Root line epoch kept of) c c (same c)
    go false false = record { blocks = le_more (length c.blocks) 0; roots = puts key a c.epoch c.roots }

drops_one : (entry : Entry) (key : List ℕ) (c : Catalogue) → Grows entry c (drop_root key c).catalogue
drops_one entry key c = go (is_none (retained_of key c.roots))
  where
    go : (p : Bool) → Grows entry c (cond p (only what.Refused c) (only what.Dropped (record c { roots = map (dropping key c.epoch) c.roots }))).catalogue
    go true = stays entry c c (same c)
    go false = stays entry c (record c { roots = map (dropping key c.epoch) c.roots }) (record {
      blocks = le_same (length c.blocks);
      roots = count_map (λ (r : RootRecord). is_none r.dropped) (dropping key c.epoch) (drops key c.epoch) c.roots;
    })

enters_one : (entry : Entry) (epoch : ℕ) (c : Catalogue) → Grows entry c (enter epoch c).catalogue
enters_one entry epoch c = go (may_enter epoch c)
  where
    first : Applied
    first = entered epoch c

    counts : Shrinks c first.catalogue
    counts = record {
      blocks = le_is (length (each_block (count_block epoch) c.blocks)) (length c.blocks) (length_each (count_block epoch) c.blocks);
      roots = count_map (λ (r : RootRecord). is_none r.dropped) (counting epoch) (keeps_count epoch) c.roots;
    }

    go : (b : Bool) → Grows entry c (cond b (advanced (entered epoch c)) (only what.Refused c)).catalogue
    go true = stays entry c (advanced first).catalogue (both c first.catalogue (advanced first).catalogue counts (advances (length first.catalogue.run.gots + 1) first))
    go false = stays entry c c (same c)

gets_one : (entry : Entry) (place : Place) (told : RoundBody) (c : Catalogue) → Grows entry c (get_round place told c).catalogue
gets_one entry place told c = go (is_accepted place c)
  where
    first : Applied
    first = only what.Nothing (log_got place told c)

    logs : Shrinks c first.catalogue
    logs = record { blocks = le_same (length c.blocks); roots = le_same (retained_count c.roots) }

    go : (b : Bool) → Grows entry c (cond b (advanced (only what.Nothing (log_got place told c))) (only what.Nothing c)).catalogue
    go true = stays entry c (advanced first).catalogue (both c first.catalogue (advanced first).catalogue logs (advances (length first.catalogue.run.gots + 1) first))
    go false = stays entry c c (same c)

pub applied_grows : (number : ℕ) (entry : Entry) (named : Option Address) (c : Catalogue) → Grows entry c (apply number entry named c).catalogue
applied_grows number (kind.View view) named c = record { blocks = le_more (length c.blocks) 0; roots = le_more (retained_count c.roots) 0 }
applied_grows number (kind.Block line least bytes) named c = stores_one line least least number bytes (named_as named) (read_block bytes) c
applied_grows number (kind.Mark line least block a) named c = marks_one (kind.Mark line least block a) least block a c
applied_grows number (kind.Root line held a key) named c = puts_one line held held a a key key c
applied_grows number (kind.Drop line key) named c = drops_one (kind.Drop line key) key c
applied_grows number (kind.Enter line epoch) named c = enters_one (kind.Enter line epoch) epoch c
applied_grows number (kind.Got from epoch round total deltas) named c =
    gets_one (kind.Got from epoch round total deltas) (record { epoch = epoch; round = round; from = from }) (record { total = total; deltas = deltas }) c
applied_grows number (kind.Base view epoch swept round frames) named c = stays (kind.Base view epoch swept round frames) c c (same c)
applied_grows number (kind.KeptBlock born mark flags count bytes) named c = stays (kind.KeptBlock born mark flags count bytes) c c (same c)
applied_grows number (kind.KeptRoot created dropped counted address key) named c = stays (kind.KeptRoot created dropped counted address key) c c (same c)
applied_grows number (kind.KeptRound way other epoch round total deltas) named c = stays (kind.KeptRound way other epoch round total deltas) c c (same c)
