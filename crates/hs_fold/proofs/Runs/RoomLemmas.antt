-- A shard has no more blocks than it takes.
use Rattle.std.proofs.Common.{◌≡◌, ℕ, zero, suc, ◌+◌, ◌<◌, ◌≤◌, ◌==◌, ◌&&◌, Bool, true, false, cond, not, List, [], ◌∷◌, length, map, filter, Option, Some, None, is_none, Result, Ok, Err, nat_lt, refl, sym, ap, ◌∙◌, arith}
use Rattle.std.proofs.lemmas.Bool.Decides.{nat_tests}
use Rattle.std.proofs.lemmas.Map.{length-set_value}
use Rattle.std.specs.BTreeMap.{insert_entry, is_at}
use Rattle.std.specs.Option.{option_map}
use Rattle.hs_limits.specs.declared.address.Address.{Address}
use Rattle.hs_limits.specs.declared.spelling.SpellingFault.{SpellingFault}
use Rattle.hs_limits.specs.Block.{Block}
use Rattle.hs_limits.specs.Reading.{read_block}
use Rattle.hs_limits.specs.Shape.{shard_of, shard_of_key}
use Rattle.hs_model.specs.Store.{address_cmp}
use Rattle.hs_entry.specs.declared.entry.Entry.{Entry}
use Rattle.hs_entry.specs.declared.entry.Entry.TheVariants as kind
use Rattle.hs_fold.specs.Catalogue.{Shard, fresh_present}
use Rattle.hs_fold.specs.Shards.Catalogue.{present_at, is_fresh, has_room, is_marked, is_rooted, retained_in}
use Rattle.hs_fold.specs.Shards.Setting.{Numbered}
use Rattle.hs_fold.specs.Runs.Catalogue.{apply, apply_all, catalogue_of}
use Rattle.hs_fold.specs.Runs.Clients.{new_facts, store_block, remark, marked, give_block, insert_root, new_root, keep_root, end_retention, drop_key}
use Rattle.hs_fold.specs.Runs.Facts.{Facts, Catalogue, empty_catalogue, facts_at, plain}
use Rattle.hs_rounds.specs.declared.body.RoundBody.{RoundBody}
use Rattle.hs_rounds.specs.declared.place.Place.{Place}
use Rattle.hs_fold.specs.Runs.Rounds.{count_block, may_enter, enter_epoch, enter, moved_by, open_deltas, settled, find_zero, search, is_gone, spare, sweep, is_last, is_complete, end_round, advance, advanced, is_accepted, log_got, get_round}
use Rattle.hs_fold.proofs.Runs.RoundLemmas.{no-more}
use Rattle.hs_fold.proofs.Shards.RoomLemmas.{length-insert}

abbrev pub Fits : List (Address × Facts) → Type 0
Fits es = length es ≤ 16384

length-mapped : {X Y : Type 0} (f : X → Y) (xs : List X) → length (map f xs) ≡ length xs
length-mapped f [] = refl
length-mapped f (x ∷ xs) = ap (λ n. suc n) (length-mapped f xs)

mapped-fits : (f : Address × Facts → Address × Facts) (es : List (Address × Facts)) → Fits es → Fits (map f es)
mapped-fits f es h = let same = length-mapped f es in omega (arith, same, h)

-- ---- clients' entries

store-fits : (at : Shard) (c : Catalogue) (number least : ℕ) (a : Address) (read : Result Block SpellingFault) → Fits c.blocks → Fits (store_block at c number least a read).blocks
store-fits at c number least a (Err fault) h = h
store-fits at c number least a (Ok block) h = go ((shard_of at.shards a == at.shard && is_none (present_at (plain c) a)) && is_fresh (plain c) least) (has_room (plain c)) refl
  where
    new : Facts
    new = new_facts (fresh_present c.epoch number block)

    room : has_room (plain c) ≡ true → length c.blocks < 16384
    room e = let low : nat_lt (length c.blocks) 16384 ≡ true = ap (λ n. nat_lt n 16384) (sym (length-mapped (λ (x : Address × Facts). (x.0, x.1.present)) c.blocks)) ∙ e in grind (arith, nat_tests, low)

    go : (p q : Bool) → has_room (plain c) ≡ q → Fits (cond (p && q) (record c { blocks = insert_entry address_cmp c.blocks a new }) c).blocks
    go true true e = let more = length-insert c.blocks a new in let low = room e in omega (arith, more, low)
    go true false e = h
    go false q e = h

give-fits : (c : Catalogue) (least number : ℕ) (a : Address) → Fits c.blocks → Fits (give_block c least number a).blocks
give-fits c least number a h = go (facts_at c a) (is_marked (plain c) least number (option_map (λ f. f.present) (facts_at c a)))
  where
    go : (found : Option Facts) (b : Bool) → Fits (cond b (record c { blocks = marked c.epoch found c.blocks a }) c).blocks
    go found false = h
    go None true = h
    go (Some f) true = let same = length-set_value (is_at (address_cmp a)) c.blocks (remark c.epoch f) in omega (arith, same, h)

root-fits : (at : Shard) (c : Catalogue) (held : ℕ) (a : Address) (key : List ℕ) → Fits c.blocks → Fits (keep_root at c held a key).blocks
root-fits at c held a key h = go (is_rooted at (plain c) held a key && is_none (retained_in (plain c) key))
  where
    go : (b : Bool) → Fits (cond b (record c { roots = insert_root (new_root c.epoch a key) c.roots }) c).blocks
    go true = h
    go false = h

drop-fits : (at : Shard) (c : Catalogue) (key : List ℕ) → Fits c.blocks → Fits (drop_key at c key).blocks
drop-fits at c key h = go (shard_of_key at.shards key == at.shard)
  where
    go : (b : Bool) → Fits (cond b (record c { roots = map (end_retention key c.epoch) c.roots }) c).blocks
    go true = h
    go false = h

-- ---- rounds

settled-fits : (n : ℕ) (c : Catalogue) → Fits c.blocks → Fits (settled n c).blocks
settled-fits n c h = mapped-fits (λ (e : Address × Facts). (e.0, record e.1 { count = moved_by c.round e.0 (open_deltas n c) e.1.count })) c.blocks h

pub end-fits : (n : ℕ) (c : Catalogue) → Fits c.blocks → Fits (end_round n c).blocks
end-fits n c h = go (is_last n c)
  where
    low : Fits (settled n c).blocks
    low = settled-fits n c h

    go : (b : Bool) → Fits (cond b (sweep (settled n c)) (search n (settled n c))).blocks
    go true = mapped-fits (λ (e : Address × Facts). (e.0, spare e.1)) (filter (λ e. not (is_gone c.epoch e.1)) (settled n c).blocks)
        (let less = no-more (λ (e : Address × Facts). not (is_gone c.epoch e.1)) (settled n c).blocks in omega (arith, less, low))
    go false = mapped-fits (λ (e : Address × Facts). (e.0, find_zero c.epoch e.1)) (settled n c).blocks low

advance-fits : (n turns : ℕ) (c : Catalogue) → Fits c.blocks → Fits (advance n turns c).blocks
advance-fits n zero c h = h
advance-fits n (suc turns) c h = go (is_complete n c) (advance-fits n turns (end_round n c) (end-fits n c h))
  where
    go : (b : Bool) → Fits (advance n turns (end_round n c)).blocks → Fits (cond b (advance n turns (end_round n c)) c).blocks
    go true k = k
    go false k = h

got-fits : (n : ℕ) (place : Place) (told : RoundBody) (c : Catalogue) → Fits c.blocks → Fits (get_round n place told c).blocks
got-fits n place told c h = go (is_accepted n c place)
  where
    go : (b : Bool) → Fits (cond b (advanced n (log_got place told c)) c).blocks
    go true = advance-fits n (length (log_got place told c).got + 1) (log_got place told c) h
    go false = h

enter-fits : (n epoch : ℕ) (c : Catalogue) → Fits c.blocks → Fits (enter n epoch c).blocks
enter-fits n epoch c h = go (may_enter c epoch)
  where
    go : (b : Bool) → Fits (cond b (advanced n (enter_epoch n c)) c).blocks
    go true = advance-fits n (length (enter_epoch n c).got + 1) (enter_epoch n c) (mapped-fits (λ (e : Address × Facts). (e.0, count_block (c.epoch + 1) e.1)) c.blocks h)
    go false = h

-- ---- any entry

pub apply-fits : (at : Shard) (c : Catalogue) (number : ℕ) (entry : Entry) → Fits c.blocks → Fits (apply at c (number, entry)).blocks
apply-fits at c number (kind.View view) h = h
apply-fits at c number (kind.Block op least bytes) h = store-fits at c number least (at.name bytes) (read_block bytes) h
apply-fits at c number (kind.Mark op least block a) h = give-fits c least block a h
apply-fits at c number (kind.Root op held a key) h = root-fits at c held a key h
apply-fits at c number (kind.Drop op key) h = drop-fits at c key h
apply-fits at c number (kind.Enter op epoch) h = enter-fits at.shards epoch c h
apply-fits at c number (kind.Got sender epoch round total deltas) h = got-fits at.shards (record { epoch = epoch; round = round; from = sender }) (record { total = total; deltas = deltas }) c h
apply-fits at c number (kind.Base view epoch swept round frames) h = h
apply-fits at c number (kind.KeptBlock born mark flags count bytes) h = h
apply-fits at c number (kind.KeptRoot created dropped counted address key) h = h
apply-fits at c number (kind.KeptRound way other epoch round total deltas) h = h

all-fits : (at : Shard) (c : Catalogue) (es : Numbered) → Fits c.blocks → Fits (apply_all at c es).blocks
all-fits at c [] h = h
all-fits at c (e ∷ es) h = all-fits at (apply at c e) es (apply-fits at c e.0 e.1 h)

pub list-fits : (at : Shard) (list : Numbered) → length (catalogue_of at list).blocks ≤ 16384
list-fits at list = all-fits at empty_catalogue list (omega arith)
