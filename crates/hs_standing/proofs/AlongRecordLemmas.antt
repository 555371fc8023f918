-- How many root records an entry adds to a catalogue: a Root one at most, and any other none.
use Rattle.std.proofs.Common.{ℕ, zero, suc, ◌+◌, ◌≤◌, ◌==◌, ◌||◌, ◌&&◌, Bool, true, false, cond, not, List, [], ◌∷◌, length, map, filter, is_none, is_some, Option, Some, None, Ok, Err, Result, arith}
use Rattle.std.specs.Option.{option_map_or}
use Rattle.hs_desk.specs.declared.what.What.TheVariants as what
use Rattle.hs_entry.specs.declared.entry.Entry.{Entry}
use Rattle.hs_entry.specs.declared.entry.Entry.TheVariants as kind
use Rattle.hs_limits.specs.Block.{Block}
use Rattle.hs_limits.specs.declared.address.Address.{Address}
use Rattle.hs_limits.specs.declared.spelling.SpellingFault.{SpellingFault}
use Rattle.hs_limits.specs.Reading.{read_block}
use Rattle.hs_limits.specs.Shape.{shard_of_key}
use Rattle.hs_replica.specs.Kinds.{is_root}
use Rattle.hs_roots.specs.declared.root.RootRecord.{RootRecord}
use Rattle.hs_roots.proofs.RootLemmas.{length_insert_root}
use Rattle.hs_roots.specs.Roots.{counting, dropping, is_released, insert_root, new_root, release, retained_of}
use Rattle.hs_roots.specs.Roots.{put_root as with_root}
use Rattle.hs_rounds.specs.declared.body.RoundBody.{RoundBody}
use Rattle.hs_rounds.specs.declared.place.Place.{Place}
use Rattle.hs_rounds.specs.Rounds.{complete, is_last}
use Rattle.hs_shard.specs.Apply.{apply, named_as}
use Rattle.hs_shard.specs.Clients.{Applied, change_at, drop_root, give, mark_block, new_facts, only, put_root, root_refusal, store_block, with_block}
use Rattle.hs_shard.specs.declared.facts.Facts.{Facts}
use Rattle.hs_shard.specs.Facts.{Catalogue, facts_at, has_room, is_fresh, is_mine}
use Rattle.hs_shard.specs.Rounds.{advance, advanced, end_open, enter, entered, get_round, is_accepted, log_got, may_enter, searched, settled, still_kept, swept}

-- ---- numbers

le_same : (n : ℕ) → n ≤ n
le_same n = omega arith

le_more : (n m : ℕ) → n ≤ n + m
le_more n m = omega arith

le_with : (m n k : ℕ) → m ≤ n → m ≤ n + k
le_with m n k h = omega (arith, h)

le_both : (a b c : ℕ) → a ≤ b → b ≤ c → a ≤ c
le_both a b c h k = omega (arith, h, k)

-- ---- lists of roots

length_mapped : (f : RootRecord → RootRecord) (roots : List RootRecord) → length (map f roots) ≤ length roots
length_mapped f [] = omega arith
length_mapped f (root ∷ roots) = let rest = length_mapped f roots in omega (arith, rest)

length_kept : (p : RootRecord → Bool) (roots : List RootRecord) → length (filter p roots) ≤ length roots
length_kept p [] = omega arith
length_kept p (root ∷ roots) = go (p root) (length_kept p roots)
  where
    go : (b : Bool) → length (filter p roots) ≤ length roots → length (cond b (root ∷ filter p roots) (filter p roots)) ≤ length (root ∷ roots)
    go true rest = omega (arith, rest)
    go false rest = omega (arith, rest)

length_put : (key : List ℕ) (a : Address) (epoch : ℕ) (roots : List RootRecord) → length (with_root key a epoch roots) ≤ length roots + 1
length_put key a epoch roots = go (is_some (retained_of key roots))
  where
    go : (b : Bool) → length (cond b roots (insert_root (new_root key a epoch) roots)) ≤ length roots + 1
    go true = le_more (length roots) 1
    go false = let one = length_insert_root roots (new_root key a epoch) in omega (arith, one)

lets_go : (epoch round : ℕ) (roots : List RootRecord) → length (still_kept epoch round roots) ≤ length roots
lets_go epoch round roots = go (round == 0)
  where
    go : (b : Bool) → length (cond b (release epoch roots) roots) ≤ length roots
    go true = length_kept (λ root. not (is_released epoch root)) roots
    go false = le_same (length roots)

-- ---- rounds add none

-- no more root records
abbrev HasNoMore : Catalogue → Catalogue → Type 0
HasNoMore a b = length b.roots ≤ length a.roots

same : (c : Catalogue) → HasNoMore c c
same c = le_same (length c.roots)

both : (a b c : Catalogue) → HasNoMore a b → HasNoMore b c → HasNoMore a c
both a b c p q = le_both (length c.roots) (length b.roots) (length a.roots) q p

module _ (a : Applied) where
  ends_by : (at : ℕ × ℕ) (last : Bool) → HasNoMore a.catalogue (cond last (swept at.0 a.effect (settled at.1 a.catalogue)) (searched at.0 at.1 a.effect (settled at.1 a.catalogue))).catalogue
  ends_by at true = le_same (length a.catalogue.roots)
  ends_by at false = lets_go at.0 at.1 a.catalogue.roots

  ends : (o : Option (ℕ × ℕ)) → HasNoMore a.catalogue (end_open o a).catalogue
  ends None = same a.catalogue
  ends (Some at) = ends_by at (is_last a.catalogue.run)

one_more : (turns : ℕ) (a : Applied) (b : Bool) → HasNoMore (end_open a.catalogue.run.opened a).catalogue (advance turns (end_open a.catalogue.run.opened a)).catalogue
    → HasNoMore a.catalogue (cond b (advance turns (end_open a.catalogue.run.opened a)) a).catalogue
one_more turns a true rest =
    both a.catalogue (end_open a.catalogue.run.opened a).catalogue (advance turns (end_open a.catalogue.run.opened a)).catalogue (ends a a.catalogue.run.opened) rest
one_more turns a false rest = same a.catalogue

advances : (turns : ℕ) (a : Applied) → HasNoMore a.catalogue (advance turns a).catalogue
advances zero a = same a.catalogue
advances (suc turns) a = one_more turns a (complete a.catalogue.run) (advances turns (end_open a.catalogue.run.opened a))

-- ---- an entry

-- a Root may add one
abbrev pub AddsRecords : Entry → Catalogue → Catalogue → Type 0
AddsRecords entry a b = length b.roots ≤ length a.roots + cond (is_root entry) 1 0

stays : (entry : Entry) (a b : Catalogue) → HasNoMore a b → AddsRecords entry a b
stays entry a b h = le_with (length b.roots) (length a.roots) (cond (is_root entry) 1 0) h

stores_one : (entry : Entry) (number used : ℕ) (a : Address) (read : Result Block SpellingFault) (c : Catalogue) → AddsRecords entry c (store_block number used a read c).catalogue
stores_one entry number used a (Err fault) c = stays entry c c (same c)
stores_one entry number used a (Ok block) c = go (not (is_mine a c) || is_some (facts_at a c)) (not (is_fresh used c && has_room c))
  where
    go : (p q : Bool) → AddsRecords entry c (cond p (only what.Nothing c) (cond q (only what.Refused c) (only what.Stored (with_block a (new_facts number c.epoch block.pointers) c)))).catalogue
    go true q = stays entry c c (same c)
    go false true = stays entry c c (same c)
    go false false = stays entry c (with_block a (new_facts number c.epoch block.pointers) c) (le_same (length c.roots))

marks_one : (entry : Entry) (least number : ℕ) (a : Address) (c : Catalogue) → AddsRecords entry c (mark_block least number a c).catalogue
marks_one entry least number a c = go (not (option_map_or (λ (f : Facts). f.number == number) (facts_at a c) false)) (not (is_fresh least c))
  where
    go : (p q : Bool) → AddsRecords entry c (cond p (only what.Again c) (cond q (only what.Refused c) (only what.Marked (record c { blocks = change_at a (give c.epoch) c.blocks })))).catalogue
    go true q = stays entry c c (same c)
    go false true = stays entry c c (same c)
    go false false = stays entry c (record c { blocks = change_at a (give c.epoch) c.blocks }) (le_same (length c.roots))

puts_one : (line epoch held : ℕ) (kept a : Address) (key of : List ℕ) (c : Catalogue) → AddsRecords (kind.Root line epoch kept of) c (put_root held a key c).catalogue
puts_one line epoch held kept a key of c = go (not (shard_of_key c.shape.shards key == c.shard)) (not (is_fresh held c) || is_some (root_refusal a key c))
  where
    go : (p q : Bool) → AddsRecords (kind.Root line epoch kept of) c (cond p (only what.Nothing c) (cond q (only what.Refused c) (only what.Rooted (record c { roots = with_root key a c.epoch c.roots })))).catalogue
    go true q = stays (kind.Root line epoch kept of) c c (same c)
    go false true = stays (kind.Root line epoch kept of) c c (same c)
    go false false = length_put key a c.epoch c.roots

drops_one : (entry : Entry) (key : List ℕ) (c : Catalogue) → AddsRecords entry c (drop_root key c).catalogue
drops_one entry key c = go (is_none (retained_of key c.roots))
  where
    go : (p : Bool) → AddsRecords entry c (cond p (only what.Refused c) (only what.Dropped (record c { roots = map (dropping key c.epoch) c.roots }))).catalogue
    go true = stays entry c c (same c)
    go false = stays entry c (record c { roots = map (dropping key c.epoch) c.roots }) (length_mapped (dropping key c.epoch) c.roots)

enters_one : (entry : Entry) (epoch : ℕ) (c : Catalogue) → AddsRecords entry c (enter epoch c).catalogue
enters_one entry epoch c = go (may_enter epoch c)
  where
    first : Applied
    first = entered epoch c

    go : (b : Bool) → AddsRecords entry c (cond b (advanced (entered epoch c)) (only what.Refused c)).catalogue
    go true = stays entry c (advanced first).catalogue (both c first.catalogue (advanced first).catalogue (length_mapped (counting epoch) c.roots) (advances (length first.catalogue.run.gots + 1) first))
    go false = stays entry c c (same c)

gets_one : (entry : Entry) (place : Place) (told : RoundBody) (c : Catalogue) → AddsRecords entry c (get_round place told c).catalogue
gets_one entry place told c = go (is_accepted place c)
  where
    first : Applied
    first = only what.Nothing (log_got place told c)

    go : (b : Bool) → AddsRecords entry c (cond b (advanced (only what.Nothing (log_got place told c))) (only what.Nothing c)).catalogue
    go true = stays entry c (advanced first).catalogue (both c first.catalogue (advanced first).catalogue (le_same (length c.roots)) (advances (length first.catalogue.run.gots + 1) first))
    go false = stays entry c c (same c)

pub applied_adds : (number : ℕ) (entry : Entry) (named : Option Address) (c : Catalogue) → AddsRecords entry c (apply number entry named c).catalogue
applied_adds number (kind.View view) named c = stays (kind.View view) c (record c { view = view }) (le_same (length c.roots))
applied_adds number (kind.Block line least bytes) named c = stores_one (kind.Block line least bytes) number least (named_as named) (read_block bytes) c
applied_adds number (kind.Mark line least block a) named c = marks_one (kind.Mark line least block a) least block a c
applied_adds number (kind.Root line held a key) named c = puts_one line held held a a key key c
applied_adds number (kind.Drop line key) named c = drops_one (kind.Drop line key) key c
applied_adds number (kind.Enter line epoch) named c = enters_one (kind.Enter line epoch) epoch c
applied_adds number (kind.Got from epoch round total deltas) named c =
    gets_one (kind.Got from epoch round total deltas) (record { epoch = epoch; round = round; from = from }) (record { total = total; deltas = deltas }) c
applied_adds number (kind.Base view epoch swept round frames) named c = stays (kind.Base view epoch swept round frames) c c (same c)
applied_adds number (kind.KeptBlock born mark flags count bytes) named c = stays (kind.KeptBlock born mark flags count bytes) c c (same c)
applied_adds number (kind.KeptRoot created dropped counted address key) named c = stays (kind.KeptRoot created dropped counted address key) c c (same c)
applied_adds number (kind.KeptRound way other epoch round total deltas) named c = stays (kind.KeptRound way other epoch round total deltas) c c (same c)
