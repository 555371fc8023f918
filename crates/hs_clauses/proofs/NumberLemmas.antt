-- Each block of a shard has the number of an entry that took effect, whatever the entries are.
use Rattle.std.proofs.Common.{◌≡◌, sym, subst, ℕ, zero, suc, ◌+◌, ◌≤◌, ◌==◌, Bool, true, false, cond, not, ◌&&◌, ◌||◌, List, [], ◌∷◌, arith, filter, is_none, is_some, length, Option, Some, None, Ok, Err, Result, refl}
use Rattle.std.specs.BTreeMap.{is_at}
use Rattle.std.specs.Option.{option_map, option_map_or}
use Rattle.hs_desk.specs.declared.what.What.TheVariants as what
use Rattle.hs_entry.specs.declared.entry.Entry.{Entry}
use Rattle.hs_entry.specs.declared.entry.Entry.TheVariants as kind
use Rattle.hs_standing.proofs.AllLemmas.{all_filter, all_map, each_found, each_insert, each_set}
use Rattle.hs_limits.specs.Block.{Block}
use Rattle.hs_limits.specs.Reading.{read_block}
use Rattle.hs_limits.specs.Shape.{shard_of_key}
use Rattle.hs_limits.specs.declared.address.Address.{Address}
use Rattle.hs_limits.specs.declared.delta.Delta.{Delta}
use Rattle.hs_limits.specs.declared.spelling.SpellingFault.{SpellingFault}
use Rattle.hs_model.specs.Store.{address_cmp}
use Rattle.hs_roots.specs.Roots.{retained_of}
use Rattle.hs_roots.specs.Roots.{drop_root as without_root, put_root as with_root}
use Rattle.hs_rounds.specs.Rounds.{complete, is_last, received}
use Rattle.hs_rounds.specs.declared.body.RoundBody.{RoundBody}
use Rattle.hs_rounds.specs.declared.place.Place.{Place}
use Rattle.hs_shard.specs.Apply.{apply, named_as}
use Rattle.hs_shard.specs.Clients.{Applied, change_at, drop_root, give, mark_block, new_facts, only, put_facts, put_root, root_refusal, store_block, with_block}
use Rattle.hs_shard.specs.Facts.{BlockList, Catalogue, facts_at, facts_in, has_room, is_fresh, is_mine}
use Rattle.hs_shard.specs.Rounds.{advance, advanced, count_block, each_block, end_open, enter, entered, find_zero, get_round, is_accepted, is_gone, is_new, is_new_zero, log_got, may_enter, move_count, searched, settle, settled, spare, swept}
use Rattle.hs_shard.specs.declared.facts.Facts.{Facts}
use Rattle.hs_clauses.specs.Numbered.{AreWithin, IsWithin}

-- ---- numbers of blocks

pub within_rise : (low top : ℕ) → low ≤ top → (blocks : BlockList) → AreWithin low blocks → AreWithin top blocks
within_rise low top up [] h = tt
within_rise low top up (e ∷ blocks) h = ((h.0.0, below e.1.number h.0.1), within_rise low top up blocks h.1)
  where
    below : (n : ℕ) → n ≤ low → n ≤ top
    below n k = omega (arith, k, up)

-- a change that leaves the number
abbrev LeavesNumber : (Facts → Facts) → Type 0
LeavesNumber change = (f : Facts) → (change f).number ≡ f.number

either_same : (b : Bool) (f g : Facts) → g.number ≡ f.number → (cond b g f).number ≡ f.number
either_same true f g e = e
either_same false f g e = refl

counted_same : (epoch : ℕ) → LeavesNumber (count_block epoch)
counted_same epoch f = either_same (is_new epoch f) f (record f { counted = true }) refl

zero_same : (epoch : ℕ) → LeavesNumber (find_zero epoch)
zero_same epoch f = either_same (is_new_zero epoch f) f (record f { zero = true }) refl

spared_same : LeavesNumber spare
spared_same f = either_same f.zero f (record f { counted = false; zero = false }) refl

module _ (top : ℕ) where
  moved : (a : Address) (f g : Facts) → g.number ≡ f.number → IsWithin top a f → IsWithin top a g
  moved a f g same h = subst (λ n. (1 ≤ n) × (n ≤ top)) (sym same) h

  each_within : (change : Facts → Facts) → LeavesNumber change → (blocks : BlockList) → AreWithin top blocks → AreWithin top (each_block change blocks)
  each_within change same blocks h =
      all_map (λ (e : Address × Facts). IsWithin top e.0 e.1) (λ (e : Address × Facts). IsWithin top e.0 e.1) (λ (e : Address × Facts). (e.0, change e.1)) (λ e r. moved e.0 e.1 (change e.1) (same e.1) r) blocks h

  change_within : (a : Address) (change : Facts → Facts) → LeavesNumber change → (blocks : BlockList) → AreWithin top blocks → AreWithin top (change_at a change blocks)
  change_within a change same blocks h = go (facts_in a blocks) refl
    where
      go : (o : Option Facts) → facts_in a blocks ≡ o → AreWithin top (put_facts a (option_map change o) blocks)
      go None e = h
      go (Some f) e = each_set (IsWithin top) (is_at (address_cmp a)) blocks (change f) (λ x old r. moved x f (change f) (same f) (each_found (IsWithin top) (is_at (address_cmp a)) blocks f e h).1) h

  settle_within : (round : ℕ) (ds : List Delta) (blocks : BlockList) → AreWithin top blocks → AreWithin top (settle round ds blocks)
  settle_within round [] blocks h = h
  settle_within round (d ∷ ds) blocks h = settle_within round ds (change_at d.address (move_count round d.amount) blocks) (change_within d.address (move_count round d.amount) (λ f. refl) blocks h)

  -- ---- rounds

  sweep_within : (at : ℕ × ℕ) (a : Applied) → AreWithin top a.catalogue.blocks → AreWithin top (swept at.0 a.effect (settled at.1 a.catalogue)).catalogue.blocks
  sweep_within at a h =
      let k : AreWithin top (settled at.1 a.catalogue).blocks = settle_within at.1 (received a.catalogue.run) a.catalogue.blocks h in
      let left : BlockList = filter (λ (e : Address × Facts). not (is_gone at.0 e.1)) (settled at.1 a.catalogue).blocks in
      each_within spare spared_same left (all_filter (λ (e : Address × Facts). IsWithin top e.0 e.1) (λ (e : Address × Facts). not (is_gone at.0 e.1)) (settled at.1 a.catalogue).blocks k)

  search_within : (at : ℕ × ℕ) (a : Applied) → AreWithin top a.catalogue.blocks → AreWithin top (searched at.0 at.1 a.effect (settled at.1 a.catalogue)).catalogue.blocks
  search_within at a h = each_within (find_zero at.0) (zero_same at.0) (settled at.1 a.catalogue).blocks (settle_within at.1 (received a.catalogue.run) a.catalogue.blocks h)

  module _ (a : Applied) (h : AreWithin top a.catalogue.blocks) where
    ends_by : (at : ℕ × ℕ) (last : Bool) → AreWithin top (cond last (swept at.0 a.effect (settled at.1 a.catalogue)) (searched at.0 at.1 a.effect (settled at.1 a.catalogue))).catalogue.blocks
    ends_by at true = sweep_within at a h
    ends_by at false = search_within at a h

    ends : (o : Option (ℕ × ℕ)) → AreWithin top (end_open o a).catalogue.blocks
    ends None = h
    ends (Some at) = ends_by at (is_last a.catalogue.run)

  one_more : (turns : ℕ) (a : Applied) (b : Bool) → AreWithin top a.catalogue.blocks → AreWithin top (advance turns (end_open a.catalogue.run.opened a)).catalogue.blocks
      → AreWithin top (cond b (advance turns (end_open a.catalogue.run.opened a)) a).catalogue.blocks
  one_more turns a true h rest = rest
  one_more turns a false h rest = h

  advances : (turns : ℕ) (a : Applied) → AreWithin top a.catalogue.blocks → AreWithin top (advance turns a).catalogue.blocks
  advances zero a h = h
  advances (suc turns) a h = one_more turns a (complete a.catalogue.run) h (advances turns (end_open a.catalogue.run.opened a) (ends a h a.catalogue.run.opened))

  -- ---- an entry

  stores_one : (least number : ℕ) (a : Address) (read : Result Block SpellingFault) (c : Catalogue) → 1 ≤ number → number ≤ top → AreWithin top c.blocks → AreWithin top (store_block number least a read c).catalogue.blocks
  stores_one least number a (Err fault) c low high h = h
  stores_one least number a (Ok block) c low high h = go (not (is_mine a c) || is_some (facts_at a c)) (not (is_fresh least c && has_room c))
    where
      go : (p q : Bool) → AreWithin top (cond p (only what.Nothing c) (cond q (only what.Refused c) (only what.Stored (with_block a (new_facts number c.epoch block.pointers) c)))).catalogue.blocks
      go true q = h
      go false true = h
      go false false = each_insert (IsWithin top) address_cmp c.blocks a (new_facts number c.epoch block.pointers) (low, high) (λ x old r. (low, high)) h

  marks_one : (least number : ℕ) (a : Address) (c : Catalogue) → AreWithin top c.blocks → AreWithin top (mark_block least number a c).catalogue.blocks
  marks_one least number a c h = go (not (option_map_or (λ (f : Facts). f.number == number) (facts_at a c) false)) (not (is_fresh least c))
    where
      go : (p q : Bool) → AreWithin top (cond p (only what.Again c) (cond q (only what.Refused c) (only what.Marked (record c { blocks = change_at a (give c.epoch) c.blocks })))).catalogue.blocks
      go true q = h
      go false true = h
      go false false = change_within a (give c.epoch) (λ f. refl) c.blocks h

  puts_one : (held : ℕ) (a : Address) (key : List ℕ) (c : Catalogue) → AreWithin top c.blocks → AreWithin top (put_root held a key c).catalogue.blocks
  puts_one held a key c h = go (not (shard_of_key c.shape.shards key == c.shard)) (not (is_fresh held c) || is_some (root_refusal a key c))
    where
      go : (p q : Bool) → AreWithin top (cond p (only what.Nothing c) (cond q (only what.Refused c) (only what.Rooted (record c { roots = with_root key a c.epoch c.roots })))).catalogue.blocks
      go true q = h
      go false true = h
      go false false = h

  drops_one : (key : List ℕ) (c : Catalogue) → AreWithin top c.blocks → AreWithin top (drop_root key c).catalogue.blocks
  drops_one key c h = go (is_none (retained_of key c.roots))
    where
      go : (p : Bool) → AreWithin top (cond p (only what.Refused c) (only what.Dropped (record c { roots = without_root key c.epoch c.roots }))).catalogue.blocks
      go true = h
      go false = h

  enters_one : (epoch : ℕ) (c : Catalogue) → AreWithin top c.blocks → AreWithin top (enter epoch c).catalogue.blocks
  enters_one epoch c h = go (may_enter epoch c)
    where
      first : Applied
      first = entered epoch c

      counts : AreWithin top first.catalogue.blocks
      counts = each_within (count_block epoch) (counted_same epoch) c.blocks h

      go : (b : Bool) → AreWithin top (cond b (advanced (entered epoch c)) (only what.Refused c)).catalogue.blocks
      go true = advances (length first.catalogue.run.gots + 1) first counts
      go false = h

  gets_one : (place : Place) (told : RoundBody) (c : Catalogue) → AreWithin top c.blocks → AreWithin top (get_round place told c).catalogue.blocks
  gets_one place told c h = go (is_accepted place c)
    where
      first : Applied
      first = only what.Nothing (log_got place told c)

      go : (b : Bool) → AreWithin top (cond b (advanced (only what.Nothing (log_got place told c))) (only what.Nothing c)).catalogue.blocks
      go true = advances (length first.catalogue.run.gots + 1) first h
      go false = h

  pub within_applied : (number : ℕ) (entry : Entry) (named : Option Address) (c : Catalogue) → 1 ≤ number → number ≤ top → AreWithin top c.blocks → AreWithin top (apply number entry named c).catalogue.blocks
  within_applied number (kind.View view) named c low high h = h
  within_applied number (kind.Block line least bytes) named c low high h = stores_one least number (named_as named) (read_block bytes) c low high h
  within_applied number (kind.Mark line least block a) named c low high h = marks_one least block a c h
  within_applied number (kind.Root line held a key) named c low high h = puts_one held a key c h
  within_applied number (kind.Drop line key) named c low high h = drops_one key c h
  within_applied number (kind.Enter line epoch) named c low high h = enters_one epoch c h
  within_applied number (kind.Got from epoch round total deltas) named c low high h =
      gets_one (record { epoch = epoch; round = round; from = from }) (record { total = total; deltas = deltas }) c h
  within_applied number (kind.Base view epoch swept round frames) named c low high h = h
  within_applied number (kind.KeptBlock born mark flags count bytes) named c low high h = h
  within_applied number (kind.KeptRoot created dropped counted address key) named c low high h = h
  within_applied number (kind.KeptRound way other epoch round total deltas) named c low high h = h
