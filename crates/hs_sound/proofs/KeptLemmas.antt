-- Behind any history each round that is kept as sent tells each shard its own.
use Rattle.std.proofs.Common.{ℕ, zero, suc, ◌+◌, ◌==◌, ◌&&◌, List, [], ◌∷◌, length, map, Bool, true, false, cond, is_none, Result, Ok, Err, replicate}
use Rattle.std.proofs.lemmas.List.Elements.{All-from_recursion}
use Rattle.std.specs.BTreeMap.{insert_entry}
use Rattle.std.specs.List.{AllByRecursion}
use Rattle.std.specs.Option.{option_map}
use Rattle.std.specs.Prelude.{All}
use Rattle.hs_limits.specs.declared.address.Address.{Address}
use Rattle.hs_limits.specs.declared.delta.Delta.{Delta}
use Rattle.hs_limits.specs.declared.spelling.SpellingFault.{SpellingFault}
use Rattle.hs_limits.specs.Block.{Block}
use Rattle.hs_limits.specs.Reading.{read_block}
use Rattle.hs_limits.specs.Shape.{shard_of_key}
use Rattle.hs_model.specs.Store.{address_cmp}
use Rattle.hs_entry.specs.declared.entry.Entry.{Entry}
use Rattle.hs_entry.specs.declared.entry.Entry.TheVariants as kind
use Rattle.hs_rounds.specs.declared.body.RoundBody.{RoundBody}
use Rattle.hs_rounds.specs.declared.place.Place.{Place}
use Rattle.hs_rounds.specs.declared.sending.SentRound.{SentRound}
use Rattle.hs_fold.specs.Catalogue.{Shard, fresh_present}
use Rattle.hs_fold.specs.Lawful.{Deed}
use Rattle.hs_fold.specs.Shards.Catalogue.{is_stored, is_marked, is_rooted, retained_in}
use Rattle.hs_fold.specs.Shards.Setting.{Setting, shard_in}
use Rattle.hs_fold.specs.Runs.Catalogue.{apply}
use Rattle.hs_fold.specs.Runs.Clients.{new_facts, store_block, give_block, marked, insert_root, new_root, keep_root, end_retention, drop_key}
use Rattle.hs_fold.specs.Runs.Facts.{Catalogue, empty_catalogue, plain, facts_at}
use Rattle.hs_fold.specs.Runs.Fits.{catalogue_at}
use Rattle.hs_fold.specs.Runs.History.{applied, follow, follow_all, no_entries}
use Rattle.hs_fold.specs.Runs.Rounds.{sends, enter_epoch, is_accepted, is_complete, is_last, settled, search, sweep, end_round, advance, advanced, log_got, get_round, may_enter}
use Rattle.hs_fold.specs.Runs.Rounds.{enter as enter_here}
use Rattle.hs_sound.specs.Told.{TellsEachItsOwn, KeptTellEachItsOwn}
use Rattle.hs_sound.proofs.PlaceLemmas.{take_each, set_each, here_each}
use Rattle.hs_sound.proofs.ToldLemmas.{sent_tells}

abbrev pub Tells : ℕ → Catalogue → Type 0
Tells n c = AllByRecursion (TellsEachItsOwn n) c.sent

-- ---- rounds

sends_tells : (n epoch round total : ℕ) (deltas : List Delta) (old : List SentRound) → AllByRecursion (TellsEachItsOwn n) old → AllByRecursion (TellsEachItsOwn n) (sends n epoch round total deltas old)
sends_tells n epoch round total deltas old h = (sent_tells n epoch round total deltas, take_each (TellsEachItsOwn n) 1 old h)

ended_tells : (n : ℕ) (c : Catalogue) → Tells n c → Tells n (end_round n c)
ended_tells n c h = go (is_last n c)
  where
    go : (b : Bool) → Tells n (cond b (sweep (settled n c)) (search n (settled n c)))
    go true = h
    go false = sends_tells n c.epoch (c.round + 1) _ _ c.sent h

advance_tells : (n turns : ℕ) (c : Catalogue) → Tells n c → Tells n (advance n turns c)
advance_tells n zero c h = h
advance_tells n (suc turns) c h = go (is_complete n c) (advance_tells n turns (end_round n c) (ended_tells n c h))
  where
    go : (b : Bool) → Tells n (advance n turns (end_round n c)) → Tells n (cond b (advance n turns (end_round n c)) c)
    go true k = k
    go false k = h

-- ---- entries

module _ (at : Shard) (c : Catalogue) (h : Tells at.shards c) where
  store_tells : (number least : ℕ) (a : Address) (read : Result Block SpellingFault) → Tells at.shards (store_block at c number least a read)
  store_tells number least a (Err fault) = h
  store_tells number least a (Ok block) = go (is_stored at (plain c) least a)
    where
      go : (b : Bool) → Tells at.shards (cond b (record c { blocks = insert_entry address_cmp c.blocks a (new_facts (fresh_present c.epoch number block)) }) c)
      go true = h
      go false = h

  mark_tells : (least number : ℕ) (a : Address) → Tells at.shards (give_block c least number a)
  mark_tells least number a = go (is_marked (plain c) least number (option_map (λ f. f.present) (facts_at c a)))
    where
      go : (b : Bool) → Tells at.shards (cond b (record c { blocks = marked c.epoch (facts_at c a) c.blocks a }) c)
      go true = h
      go false = h

  root_tells : (held : ℕ) (a : Address) (key : List ℕ) → Tells at.shards (keep_root at c held a key)
  root_tells held a key = go (is_rooted at (plain c) held a key && is_none (retained_in (plain c) key))
    where
      go : (b : Bool) → Tells at.shards (cond b (record c { roots = insert_root (new_root c.epoch a key) c.roots }) c)
      go true = h
      go false = h

  drop_tells : (key : List ℕ) → Tells at.shards (drop_key at c key)
  drop_tells key = go (shard_of_key at.shards key == at.shard)
    where
      go : (b : Bool) → Tells at.shards (cond b (record c { roots = map (end_retention key c.epoch) c.roots }) c)
      go true = h
      go false = h

  enter_tells : (epoch : ℕ) → Tells at.shards (enter_here at.shards epoch c)
  enter_tells epoch = go (may_enter c epoch)
    where
      entered : Tells at.shards (enter_epoch at.shards c)
      entered = sends_tells at.shards (c.epoch + 1) 0 0 _ c.sent h

      go : (b : Bool) → Tells at.shards (cond b (advanced at.shards (enter_epoch at.shards c)) c)
      go true = advance_tells at.shards (length (enter_epoch at.shards c).got + 1) (enter_epoch at.shards c) entered
      go false = h

  got_tells : (place : Place) (told : RoundBody) → Tells at.shards (get_round at.shards place told c)
  got_tells place told = go (is_accepted at.shards c place)
    where
      go : (b : Bool) → Tells at.shards (cond b (advanced at.shards (log_got place told c)) c)
      go true = advance_tells at.shards (length (log_got place told c).got + 1) (log_got place told c) h
      go false = h

  pub entry_tells : (number : ℕ) (entry : Entry) → Tells at.shards (apply at c (number, entry))
  entry_tells number (kind.View view) = h
  entry_tells number (kind.Block op least bytes) = store_tells number least (at.name bytes) (read_block bytes)
  entry_tells number (kind.Mark op least block a) = mark_tells least block a
  entry_tells number (kind.Root op held a key) = root_tells held a key
  entry_tells number (kind.Drop op key) = drop_tells key
  entry_tells number (kind.Enter op epoch) = enter_tells epoch
  entry_tells number (kind.Got sender epoch round total deltas) = got_tells (record { epoch = epoch; round = round; from = sender }) (record { total = total; deltas = deltas })
  entry_tells number (kind.Base view epoch swept round frames) = h
  entry_tells number (kind.KeptBlock born mark flags count bytes) = h
  entry_tells number (kind.KeptRoot created dropped counted address key) = h
  entry_tells number (kind.KeptRound way other epoch round total deltas) = h

-- ---- histories

along : (set : Setting) (deeds : List Deed) (cs : List Catalogue) → AllByRecursion (Tells set.shape.shards) cs → AllByRecursion (Tells set.shape.shards) (follow_all set cs deeds)
along set [] cs h = h
along set (deed ∷ deeds) cs h =
    along set deeds (follow set cs deed)
    (set_each (Tells set.shape.shards) cs deed.shard (applied set cs deed) h (entry_tells (shard_in set deed.shard) (catalogue_at cs deed.shard) (here_each (Tells set.shape.shards) cs h tt deed.shard) deed.number deed.entry))

blank_tells : (n k : ℕ) → AllByRecursion (Tells n) (replicate k empty_catalogue)
blank_tells n zero = tt
blank_tells n (suc k) = (tt, blank_tells n k)

pub history_tells : (set : Setting) (history : List Deed) → AllByRecursion (Tells set.shape.shards) (follow_all set (no_entries set) history)
history_tells set history = along set history (no_entries set) (blank_tells set.shape.shards set.shape.shards)

each_all : (n : ℕ) (cs : List Catalogue) → AllByRecursion (Tells n) cs → AllByRecursion (KeptTellEachItsOwn n) cs
each_all n [] h = tt
each_all n (c ∷ cs) h = (All-from_recursion (TellsEachItsOwn n) c.sent h.0, each_all n cs h.1)

pub history_tells_all : (set : Setting) (history : List Deed) → All (KeptTellEachItsOwn set.shape.shards) (follow_all set (no_entries set) history)
history_tells_all set history = All-from_recursion (KeptTellEachItsOwn set.shape.shards) (follow_all set (no_entries set) history) (each_all set.shape.shards (follow_all set (no_entries set) history) (history_tells set history))
