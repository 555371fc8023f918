-- The root records of a catalogue stand by key.
use Rattle.std.proofs.Common.{◌≡◌, ℕ, ◌+◌, ◌==◌, ◌&&◌, zero, suc, List, [], ◌∷◌, length, map, Bool, true, false, cond, not, Option, Some, None, is_none, refl, Result, Ok, Err, bytes_eq}
use Rattle.std.proofs.lemmas.List.Kept.{AllPairs-filter}
use Rattle.std.specs.BTreeMap.{insert_entry}
use Rattle.std.specs.List.{AllByRecursion}
use Rattle.std.specs.Option.{option_map}
use Rattle.hs_limits.specs.declared.address.Address.{Address}
use Rattle.hs_limits.specs.declared.spelling.SpellingFault.{SpellingFault}
use Rattle.hs_limits.specs.Block.{Block}
use Rattle.hs_limits.specs.Reading.{read_block}
use Rattle.hs_limits.specs.Shape.{shard_of_key}
use Rattle.hs_model.specs.Store.{Root, address_cmp, is_retained}
use Rattle.hs_entry.specs.declared.entry.Entry.{Entry}
use Rattle.hs_entry.specs.declared.entry.Entry.TheVariants as kind
use Rattle.hs_roots.specs.ByKey.{is_upto, may_precede}
use Rattle.hs_roots.proofs.ByKeyLemmas.{insert_stands, lt_from, map_stands, stand_from, standing_from}
use Rattle.hs_rounds.specs.declared.body.RoundBody.{RoundBody}
use Rattle.hs_rounds.specs.declared.place.Place.{Place}
use Rattle.hs_fold.proofs.Runs.OwnLemmas.{none-found, unboth}
use Rattle.hs_fold.specs.Catalogue.{Shard, fresh_present}
use Rattle.hs_fold.specs.Runs.Catalogue.{apply, apply_all, catalogue_of}
use Rattle.hs_fold.specs.Runs.Clients.{drop_key, end_retention, give_block, insert_root, keep_root, marked, new_facts, new_root, store_block}
use Rattle.hs_fold.specs.Runs.Facts.{Catalogue, RootFacts, empty_catalogue, facts_at, plain, roots_of}
use Rattle.hs_fold.specs.Runs.Own.{AreKeyed}
use Rattle.hs_fold.specs.Runs.Rounds.{advance, advanced, count_root, end_round, enter, enter_epoch, get_round, is_accepted, is_complete, is_last, is_new_root, is_released, log_got, may_enter, search, settled, sweep}
use Rattle.hs_fold.specs.Shards.Catalogue.{is_marked, is_rooted, is_stored, retained_in}
use Rattle.hs_fold.specs.Shards.Setting.{Numbered}

abbrev key_of : RootFacts → List ℕ
key_of r = r.root.key

abbrev ends : RootFacts → Bool
ends r = is_none r.root.dropped

-- ---- one root more

-- where none is retained under a key, each record up to it may stand before its new one
may-stand : (rs : List RootFacts) (epoch : ℕ) (a : Address) (key : List ℕ) → AllByRecursion (λ q. is_retained key q ≡ false) (roots_of rs) → AllByRecursion (λ r. is_upto r.root.key key ≡ true → may_precede key_of ends r (new_root epoch a key) ≡ true) rs
may-stand [] epoch a key none = tt
may-stand (r ∷ rs) epoch a key none = (one (ends r) refl, may-stand rs epoch a key none.1)
  where
    one : (b : Bool) → ends r ≡ b → is_upto r.root.key key ≡ true → may_precede key_of ends r (new_root epoch a key) ≡ true
    one true e u = rw e (lt_from r.root.key key u (other (bytes_eq r.root.key key) refl))
      where
        other : (s : Bool) → bytes_eq r.root.key key ≡ s → s ≡ false
        other true f = let yes : is_retained key r.root ≡ true = rw (e, f) refl in cc (yes, none.0)
        other false f = refl
    one false e u = rw e u

insert-keyed : (rs : List RootFacts) (epoch : ℕ) (a : Address) (key : List ℕ) → AllByRecursion (λ q. is_retained key q ≡ false) (roots_of rs) → AreKeyed rs → AreKeyed (insert_root (new_root epoch a key) rs)
insert-keyed rs epoch a key none h =
    stand_from key_of ends (insert_root (new_root epoch a key) rs) (insert_stands key_of ends rs (new_root epoch a key) (may-stand rs epoch a key none) (standing_from key_of ends rs h))

-- ---- each changed

map-keyed : (f : RootFacts → RootFacts) → ((r : RootFacts) → (f r).root.key ≡ r.root.key) → ((r : RootFacts) → is_none (f r).root.dropped ≡ true → is_none r.root.dropped ≡ true) → (rs : List RootFacts) → AreKeyed rs → AreKeyed (map f rs)
map-keyed f keys still rs h = stand_from key_of ends (map f rs) (map_stands key_of ends f keys still rs (standing_from key_of ends rs h))

ended-key : (key : List ℕ) (epoch : ℕ) (r : RootFacts) → (end_retention key epoch r).root.key ≡ r.root.key
ended-key key epoch r = go (is_retained key r.root)
  where
    go : (b : Bool) → (cond b (record r { root = record r.root { dropped = Some epoch } }) r).root.key ≡ r.root.key
    go true = refl
    go false = refl

ended-still : (key : List ℕ) (epoch : ℕ) (r : RootFacts) → is_none (end_retention key epoch r).root.dropped ≡ true → is_none r.root.dropped ≡ true
ended-still key epoch r = go (is_retained key r.root)
  where
    go : (b : Bool) → is_none (cond b (record r { root = record r.root { dropped = Some epoch } }) r).root.dropped ≡ true → is_none r.root.dropped ≡ true
    go true e = cc e
    go false e = e

counted-key : (epoch : ℕ) (r : RootFacts) → (count_root epoch r).root.key ≡ r.root.key
counted-key epoch r = go (is_new_root epoch r)
  where
    go : (b : Bool) → (cond b (record r { counted = true }) r).root.key ≡ r.root.key
    go true = refl
    go false = refl

counted-still : (epoch : ℕ) (r : RootFacts) → is_none (count_root epoch r).root.dropped ≡ true → is_none r.root.dropped ≡ true
counted-still epoch r = go (is_new_root epoch r)
  where
    go : (b : Bool) → is_none (cond b (record r { counted = true }) r).root.dropped ≡ true → is_none r.root.dropped ≡ true
    go true e = e
    go false e = e

-- ---- entries

abbrev Keyed : Catalogue → Type 0
Keyed c = AreKeyed c.roots

end-keyed : (n : ℕ) (c : Catalogue) → Keyed c → Keyed (end_round n c)
end-keyed n c h = go (is_last n c)
  where
    go : (b : Bool) → Keyed (cond b (sweep (settled n c)) (search n (settled n c)))
    go true = h
    go false = AllPairs-filter (λ (r later : RootFacts). may_precede key_of ends r later ≡ true) (λ r. not (is_released (settled n c) r)) c.roots h

advance-keyed : (n turns : ℕ) (c : Catalogue) → Keyed c → Keyed (advance n turns c)
advance-keyed n zero c h = h
advance-keyed n (suc turns) c h = go (is_complete n c) (advance-keyed n turns (end_round n c) (end-keyed n c h))
  where
    go : (b : Bool) → Keyed (advance n turns (end_round n c)) → Keyed (cond b (advance n turns (end_round n c)) c)
    go true k = k
    go false k = h

got-keyed : (n : ℕ) (c : Catalogue) (place : Place) (told : RoundBody) → Keyed c → Keyed (get_round n place told c)
got-keyed n c place told h = go (is_accepted n c place)
  where
    go : (b : Bool) → Keyed (cond b (advanced n (log_got place told c)) c)
    go true = advance-keyed n (length (log_got place told c).got + 1) (log_got place told c) h
    go false = h

entered-keyed : (n epoch : ℕ) (c : Catalogue) → Keyed c → Keyed (enter n epoch c)
entered-keyed n epoch c h = go (may_enter c epoch)
  where
    go : (b : Bool) → Keyed (cond b (advanced n (enter_epoch n c)) c)
    go true = advance-keyed n (length (enter_epoch n c).got + 1) (enter_epoch n c) (map-keyed (count_root (c.epoch + 1)) (counted-key (c.epoch + 1)) (counted-still (c.epoch + 1)) c.roots h)
    go false = h

module _ (at : Shard) (c : Catalogue) (h : Keyed c) where
  store-keyed : (number least : ℕ) (a : Address) (read : Result Block SpellingFault) → Keyed (store_block at c number least a read)
  store-keyed number least a (Err fault) = h
  store-keyed number least a (Ok block) = go (is_stored at (plain c) least a)
    where
      go : (b : Bool) → Keyed (cond b (record c { blocks = insert_entry address_cmp c.blocks a (new_facts (fresh_present c.epoch number block)) }) c)
      go true = h
      go false = h

  mark-keyed : (least number : ℕ) (a : Address) → Keyed (give_block c least number a)
  mark-keyed least number a = go (is_marked (plain c) least number (option_map (λ f. f.present) (facts_at c a)))
    where
      go : (b : Bool) → Keyed (cond b (record c { blocks = marked c.epoch (facts_at c a) c.blocks a }) c)
      go true = h
      go false = h

  root-keyed : (held : ℕ) (a : Address) (key : List ℕ) → Keyed (keep_root at c held a key)
  root-keyed held a key = go (is_rooted at (plain c) held a key) (retained_in (plain c) key) refl
    where
      go : (b : Bool) (found : Option Root) → retained_in (plain c) key ≡ found → Keyed (cond (b && is_none found) (record c { roots = insert_root (new_root c.epoch a key) c.roots }) c)
      go true None e = insert-keyed c.roots c.epoch a key (unboth (λ q. is_retained key q ≡ false) (roots_of c.roots) (none-found (is_retained key) (plain c).roots e)) h
      go true (Some r) e = h
      go false found e = h

  drop-keyed : (key : List ℕ) → Keyed (drop_key at c key)
  drop-keyed key = go (shard_of_key at.shards key == at.shard)
    where
      go : (b : Bool) → Keyed (cond b (record c { roots = map (end_retention key c.epoch) c.roots }) c)
      go true = map-keyed (end_retention key c.epoch) (ended-key key c.epoch) (ended-still key c.epoch) c.roots h
      go false = h

  pub apply-keyed : (number : ℕ) (entry : Entry) → Keyed (apply at c (number, entry))
  apply-keyed number (kind.View view) = h
  apply-keyed number (kind.Block op least bytes) = store-keyed number least (at.name bytes) (read_block bytes)
  apply-keyed number (kind.Mark op least block address) = mark-keyed least block address
  apply-keyed number (kind.Root op held address key) = root-keyed held address key
  apply-keyed number (kind.Drop op key) = drop-keyed key
  apply-keyed number (kind.Enter op epoch) = entered-keyed at.shards epoch c h
  apply-keyed number (kind.Got sender epoch round total deltas) = got-keyed at.shards c (record { epoch = epoch; round = round; from = sender }) (record { total = total; deltas = deltas }) h
  apply-keyed number (kind.Base view epoch swept round frames) = h
  apply-keyed number (kind.KeptBlock born mark flags count bytes) = h
  apply-keyed number (kind.KeptRoot created dropped counted address key) = h
  apply-keyed number (kind.KeptRound way other epoch round total deltas) = h

all-keyed : (at : Shard) (c : Catalogue) (es : Numbered) → Keyed c → Keyed (apply_all at c es)
all-keyed at c [] h = h
all-keyed at c (e ∷ es) h = all-keyed at (apply at c e) es (apply-keyed at c h e.0 e.1)

pub list-keyed : (at : Shard) (list : Numbered) → Keyed (catalogue_of at list)
list-keyed at list = all-keyed at empty_catalogue list (stand_from key_of ends [] tt)
