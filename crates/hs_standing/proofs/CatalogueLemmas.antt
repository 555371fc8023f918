-- The addresses of a shard's blocks, their pointers, and what its roots keep, behind an entry of any kind.
use Rattle.std.proofs.Common.{◌≡◌, sym, subst, ℕ, zero, suc, ◌+◌, ◌==◌, Bool, true, false, cond, not, ◌&&◌, ◌||◌, List, [], ◌∷◌, length, map, filter, is_none, is_some, Option, Some, None, Ok, Err, Result, refl}
use Rattle.std.specs.BTreeMap.{is_at}
use Rattle.std.specs.List.{AllByRecursion}
use Rattle.std.specs.Option.{option_map, option_map_or}
use Rattle.hs_desk.specs.declared.what.What.TheVariants as what
use Rattle.hs_entry.specs.declared.entry.Entry.{Entry}
use Rattle.hs_entry.specs.declared.entry.Entry.TheVariants as kind
use Rattle.hs_standing.specs.Held.{Has32Bytes, KeepsAddresses}
use Rattle.hs_standing.proofs.AllLemmas.{all_filter, all_map, each_found, each_insert, each_set}
use Rattle.hs_limits.specs.Block.{Block}
use Rattle.hs_limits.specs.Reading.{read_block}
use Rattle.hs_limits.specs.Shape.{shard_of_key}
use Rattle.hs_limits.specs.declared.address.Address.{Address}
use Rattle.hs_limits.specs.declared.delta.Delta.{Delta}
use Rattle.hs_limits.specs.declared.spelling.SpellingFault.{SpellingFault}
use Rattle.hs_model.specs.Store.{address_cmp}
use Rattle.hs_roots.specs.ByKey.{count_upto}
use Rattle.hs_roots.proofs.InsertLemmas.{all_insert}
use Rattle.hs_roots.specs.Roots.{counting, dropping, is_released, insert_root, new_root, release, retained_of, retains}
use Rattle.hs_roots.specs.Roots.{put_root as with_root}
use Rattle.hs_roots.specs.declared.root.RootRecord.{RootRecord}
use Rattle.hs_rounds.specs.Rounds.{complete, is_last, received}
use Rattle.hs_rounds.specs.declared.body.RoundBody.{RoundBody}
use Rattle.hs_rounds.specs.declared.place.Place.{Place}
use Rattle.hs_shard.specs.Apply.{apply, named_as}
use Rattle.hs_shard.specs.Clients.{Applied, change_at, drop_root, give, mark_block, new_facts, only, put_facts, put_root, root_refusal, store_block, with_block}
use Rattle.hs_shard.specs.Facts.{BlockList, Catalogue, facts_at, facts_in, has_room, is_fresh, is_mine}
use Rattle.hs_shard.specs.Rounds.{advance, advanced, count_block, each_block, end_open, enter, entered, find_zero, get_round, is_accepted, is_gone, is_new, is_new_zero, log_got, may_enter, move_count, searched, settle, settled, spare, still_kept, swept}
use Rattle.hs_shard.specs.declared.facts.Facts.{Facts}

-- ---- blocks

-- a block stands at such an address and points to such
abbrev pub Stands : Address → Facts → Type 0
Stands a f = Has32Bytes a × AllByRecursion Has32Bytes f.pointers

abbrev pub BlocksStand : BlockList → Type 0
BlocksStand blocks = AllByRecursion (λ (e : Address × Facts). Stands e.0 e.1) blocks

-- a change that leaves the pointers
abbrev LeavesPointers : (Facts → Facts) → Type 0
LeavesPointers change = (f : Facts) → (change f).pointers ≡ f.pointers

each_stands : (change : Facts → Facts) → LeavesPointers change → (blocks : BlockList) → BlocksStand blocks → BlocksStand (each_block change blocks)
each_stands change same blocks h =
    all_map (λ (e : Address × Facts). Stands e.0 e.1) (λ (e : Address × Facts). Stands e.0 e.1) (λ (e : Address × Facts). (e.0, change e.1))
    (λ e r. (r.0, subst (λ (ps : List Address). AllByRecursion Has32Bytes ps) (sym (same e.1)) r.1)) blocks h

change_stands : (a : Address) (change : Facts → Facts) → LeavesPointers change → (blocks : BlockList) → BlocksStand blocks → BlocksStand (change_at a change blocks)
change_stands a change same blocks h = go (facts_in a blocks) refl
  where
    go : (o : Option Facts) → facts_in a blocks ≡ o → BlocksStand (put_facts a (option_map change o) blocks)
    go None e = h
    go (Some f) e = each_set Stands (is_at (address_cmp a)) blocks (change f)
        (λ x old r. (r.0, subst (λ (ps : List Address). AllByRecursion Has32Bytes ps) (sym (same f)) (each_found Stands (is_at (address_cmp a)) blocks f e h).1.1)) h

settle_stands : (round : ℕ) (ds : List Delta) (blocks : BlockList) → BlocksStand blocks → BlocksStand (settle round ds blocks)
settle_stands round [] blocks h = h
settle_stands round (d ∷ ds) blocks h =
    settle_stands round ds (change_at d.address (move_count round d.amount) blocks) (change_stands d.address (move_count round d.amount) (λ f. refl) blocks h)

either_same : (b : Bool) (f g : Facts) → g.pointers ≡ f.pointers → (cond b g f).pointers ≡ f.pointers
either_same true f g e = e
either_same false f g e = refl

counted_same : (epoch : ℕ) → LeavesPointers (count_block epoch)
counted_same epoch f = either_same (is_new epoch f) f (record f { counted = true }) refl

zero_same : (epoch : ℕ) → LeavesPointers (find_zero epoch)
zero_same epoch f = either_same (is_new_zero epoch f) f (record f { zero = true }) refl

spared_same : LeavesPointers spare
spared_same f = either_same f.zero f (record f { counted = false; zero = false }) refl

-- ---- roots

abbrev pub RootsKeep : List RootRecord → Type 0
RootsKeep roots = AllByRecursion (λ (root : RootRecord). Has32Bytes root.address) roots

put_keeps : (key : List ℕ) (a : Address) (epoch : ℕ) (roots : List RootRecord) → Has32Bytes a → RootsKeep roots → RootsKeep (with_root key a epoch roots)
put_keeps key a epoch roots w h = go (is_some (retained_of key roots))
  where
    go : (b : Bool) → RootsKeep (cond b roots (insert_root (new_root key a epoch) roots))
    go true = h
    go false = all_insert (λ (root : RootRecord). Has32Bytes root.address) roots (count_upto (λ (root : RootRecord). root.key) key roots) (new_root key a epoch) w h

drop_keeps : (key : List ℕ) (epoch : ℕ) (roots : List RootRecord) → RootsKeep roots → RootsKeep (map (dropping key epoch) roots)
drop_keeps key epoch roots h = all_map (λ (root : RootRecord). Has32Bytes root.address) (λ (root : RootRecord). Has32Bytes root.address) (dropping key epoch) one roots h
  where
    one : (root : RootRecord) → Has32Bytes root.address → Has32Bytes (dropping key epoch root).address
    one root w = go (retains key root)
      where
        go : (b : Bool) → Has32Bytes (cond b (record root { dropped = Some epoch }) root).address
        go true = w
        go false = w

count_keeps : (epoch : ℕ) (roots : List RootRecord) → RootsKeep roots → RootsKeep (map (counting epoch) roots)
count_keeps epoch roots h = all_map (λ (root : RootRecord). Has32Bytes root.address) (λ (root : RootRecord). Has32Bytes root.address) (counting epoch) (λ root w. w) roots h

let_keep : (epoch round : ℕ) (roots : List RootRecord) → RootsKeep roots → RootsKeep (still_kept epoch round roots)
let_keep epoch round roots h = go (round == 0)
  where
    go : (b : Bool) → RootsKeep (cond b (release epoch roots) roots)
    go true = all_filter (λ (root : RootRecord). Has32Bytes root.address) (λ root. not (is_released epoch root)) roots h
    go false = h

-- ---- rounds

settled_keeps : (round : ℕ) (c : Catalogue) → KeepsAddresses c → KeepsAddresses (settled round c)
settled_keeps round c h = record { blocks = settle_stands round (received c.run) c.blocks h.blocks; roots = h.roots }

sweep_keeps : (at : ℕ × ℕ) (a : Applied) → KeepsAddresses a.catalogue → KeepsAddresses (swept at.0 a.effect (settled at.1 a.catalogue)).catalogue
sweep_keeps at a h =
    let k : KeepsAddresses (settled at.1 a.catalogue) = settled_keeps at.1 a.catalogue h in
    let left : BlockList = filter (λ (e : Address × Facts). not (is_gone at.0 e.1)) (settled at.1 a.catalogue).blocks in
    record {
      blocks = each_stands spare spared_same left (all_filter (λ (e : Address × Facts). Stands e.0 e.1) (λ (e : Address × Facts). not (is_gone at.0 e.1)) (settled at.1 a.catalogue).blocks k.blocks);
      roots = k.roots;
    }

search_keeps : (at : ℕ × ℕ) (a : Applied) → KeepsAddresses a.catalogue → KeepsAddresses (searched at.0 at.1 a.effect (settled at.1 a.catalogue)).catalogue
search_keeps at a h =
    let k : KeepsAddresses (settled at.1 a.catalogue) = settled_keeps at.1 a.catalogue h in
    record { blocks = each_stands (find_zero at.0) (zero_same at.0) (settled at.1 a.catalogue).blocks k.blocks; roots = let_keep at.0 at.1 (settled at.1 a.catalogue).roots k.roots }

module _ (a : Applied) (h : KeepsAddresses a.catalogue) where
  ends_by : (at : ℕ × ℕ) (last : Bool) → KeepsAddresses (cond last (swept at.0 a.effect (settled at.1 a.catalogue)) (searched at.0 at.1 a.effect (settled at.1 a.catalogue))).catalogue
  ends_by at true = sweep_keeps at a h
  ends_by at false = search_keeps at a h

  ends : (o : Option (ℕ × ℕ)) → KeepsAddresses (end_open o a).catalogue
  ends None = h
  ends (Some at) = ends_by at (is_last a.catalogue.run)

one_more : (turns : ℕ) (a : Applied) (b : Bool) → KeepsAddresses a.catalogue → KeepsAddresses (advance turns (end_open a.catalogue.run.opened a)).catalogue
    → KeepsAddresses (cond b (advance turns (end_open a.catalogue.run.opened a)) a).catalogue
one_more turns a true h rest = rest
one_more turns a false h rest = h

advances : (turns : ℕ) (a : Applied) → KeepsAddresses a.catalogue → KeepsAddresses (advance turns a).catalogue
advances zero a h = h
advances (suc turns) a h = one_more turns a (complete a.catalogue.run) h (advances turns (end_open a.catalogue.run.opened a) (ends a h a.catalogue.run.opened))

-- ---- an entry

-- what an entry may bring: a Block a name of 32 bytes and pointers of as many, a Root such an address
abbrev pub Brings : Option Address → Entry → Type 0
Brings named (kind.Block line least bytes) = Has32Bytes (named_as named) × ((block : Block) → read_block bytes ≡ Ok block → AllByRecursion Has32Bytes block.pointers)
Brings named (kind.Root line held a key) = Has32Bytes a
Brings named (kind.View view) = Unit {0}
Brings named (kind.Mark line least block a) = Unit {0}
Brings named (kind.Drop line key) = Unit {0}
Brings named (kind.Enter line epoch) = Unit {0}
Brings named (kind.Got from epoch round total deltas) = Unit {0}
Brings named (kind.Base view epoch swept round frames) = Unit {0}
Brings named (kind.KeptBlock born mark flags count bytes) = Unit {0}
Brings named (kind.KeptRoot created dropped counted address key) = Unit {0}
Brings named (kind.KeptRound way other epoch round total deltas) = Unit {0}

stores_one : (least number : ℕ) (a : Address) (read : Result Block SpellingFault) (c : Catalogue) → Has32Bytes a → ((block : Block) → read ≡ Ok block → AllByRecursion Has32Bytes block.pointers) → KeepsAddresses c
    → KeepsAddresses (store_block number least a read c).catalogue
stores_one least number a (Err fault) c w points h = h
stores_one least number a (Ok block) c w points h = go (not (is_mine a c) || is_some (facts_at a c)) (not (is_fresh least c && has_room c))
  where
    go : (p q : Bool) → KeepsAddresses (cond p (only what.Nothing c) (cond q (only what.Refused c) (only what.Stored (with_block a (new_facts number c.epoch block.pointers) c)))).catalogue
    go true q = h
    go false true = h
    go false false = record {
      blocks = each_insert Stands address_cmp c.blocks a (new_facts number c.epoch block.pointers) (w, points block refl) (λ x old r. (r.0, points block refl)) h.blocks;
      roots = h.roots;
    }

marks_one : (least number : ℕ) (a : Address) (c : Catalogue) → KeepsAddresses c → KeepsAddresses (mark_block least number a c).catalogue
marks_one least number a c h = go (not (option_map_or (λ (f : Facts). f.number == number) (facts_at a c) false)) (not (is_fresh least c))
  where
    go : (p q : Bool) → KeepsAddresses (cond p (only what.Again c) (cond q (only what.Refused c) (only what.Marked (record c { blocks = change_at a (give c.epoch) c.blocks })))).catalogue
    go true q = h
    go false true = h
    go false false = record { blocks = change_stands a (give c.epoch) (λ f. refl) c.blocks h.blocks; roots = h.roots }

puts_one : (held : ℕ) (a : Address) (key : List ℕ) (c : Catalogue) → Has32Bytes a → KeepsAddresses c → KeepsAddresses (put_root held a key c).catalogue
puts_one held a key c w h = go (not (shard_of_key c.shape.shards key == c.shard)) (not (is_fresh held c) || is_some (root_refusal a key c))
  where
    go : (p q : Bool) → KeepsAddresses (cond p (only what.Nothing c) (cond q (only what.Refused c) (only what.Rooted (record c { roots = with_root key a c.epoch c.roots })))).catalogue
    go true q = h
    go false true = h
    go false false = record { blocks = h.blocks; roots = put_keeps key a c.epoch c.roots w h.roots }

drops_one : (key : List ℕ) (c : Catalogue) → KeepsAddresses c → KeepsAddresses (drop_root key c).catalogue
drops_one key c h = go (is_none (retained_of key c.roots))
  where
    go : (p : Bool) → KeepsAddresses (cond p (only what.Refused c) (only what.Dropped (record c { roots = map (dropping key c.epoch) c.roots }))).catalogue
    go true = h
    go false = record { blocks = h.blocks; roots = drop_keeps key c.epoch c.roots h.roots }

enters_one : (epoch : ℕ) (c : Catalogue) → KeepsAddresses c → KeepsAddresses (enter epoch c).catalogue
enters_one epoch c h = go (may_enter epoch c)
  where
    first : Applied
    first = entered epoch c

    counts : KeepsAddresses first.catalogue
    counts = record { blocks = each_stands (count_block epoch) (counted_same epoch) c.blocks h.blocks; roots = count_keeps epoch c.roots h.roots }

    go : (b : Bool) → KeepsAddresses (cond b (advanced (entered epoch c)) (only what.Refused c)).catalogue
    go true = advances (length first.catalogue.run.gots + 1) first counts
    go false = h

gets_one : (place : Place) (told : RoundBody) (c : Catalogue) → KeepsAddresses c → KeepsAddresses (get_round place told c).catalogue
gets_one place told c h = go (is_accepted place c)
  where
    first : Applied
    first = only what.Nothing (log_got place told c)

    logs : KeepsAddresses first.catalogue
    logs = record { blocks = h.blocks; roots = h.roots }

    go : (b : Bool) → KeepsAddresses (cond b (advanced (only what.Nothing (log_got place told c))) (only what.Nothing c)).catalogue
    go true = advances (length first.catalogue.run.gots + 1) first logs
    go false = h

pub applied_keeps : (number : ℕ) (entry : Entry) (named : Option Address) (c : Catalogue) → Brings named entry → KeepsAddresses c → KeepsAddresses (apply number entry named c).catalogue
applied_keeps number (kind.View view) named c may h = record { blocks = h.blocks; roots = h.roots }
applied_keeps number (kind.Block line least bytes) named c may h = stores_one least number (named_as named) (read_block bytes) c may.0 may.1 h
applied_keeps number (kind.Mark line least block a) named c may h = marks_one least block a c h
applied_keeps number (kind.Root line held a key) named c may h = puts_one held a key c may h
applied_keeps number (kind.Drop line key) named c may h = drops_one key c h
applied_keeps number (kind.Enter line epoch) named c may h = enters_one epoch c h
applied_keeps number (kind.Got from epoch round total deltas) named c may h =
    gets_one (record { epoch = epoch; round = round; from = from }) (record { total = total; deltas = deltas }) c h
applied_keeps number (kind.Base view epoch swept round frames) named c may h = h
applied_keeps number (kind.KeptBlock born mark flags count bytes) named c may h = h
applied_keeps number (kind.KeptRoot created dropped counted address key) named c may h = h
applied_keeps number (kind.KeptRound way other epoch round total deltas) named c may h = h
