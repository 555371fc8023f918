-- Epochs only rise, and a client's entry leaves them.
use Rattle.std.proofs.Common.{◌≡◌, ℕ, suc, ◌+◌, ◌≤◌, ◌==◌, ◌&&◌, ◌||◌, List, length, map, Bool, true, false, cond, is_none, Result, Ok, Err, refl, ap, ◌∙◌, arith, nat_lt}
use Rattle.std.specs.BTreeMap.{insert_entry}
use Rattle.std.specs.Option.{option_map}
use Rattle.hs_limits.specs.declared.address.Address.{Address}
use Rattle.hs_limits.specs.declared.spelling.SpellingFault.{SpellingFault}
use Rattle.hs_limits.specs.Block.{Block}
use Rattle.hs_limits.specs.Reading.{read_block}
use Rattle.hs_limits.specs.Shape.{shard_of_key}
use Rattle.hs_model.specs.Store.{address_cmp}
use Rattle.hs_entry.specs.declared.entry.Entry.{Entry}
use Rattle.hs_entry.specs.declared.entry.Entry.TheVariants as kind
use Rattle.hs_rounds.specs.declared.body.RoundBody.{RoundBody}
use Rattle.hs_rounds.specs.declared.place.Place.{Place}
use Rattle.hs_rounds.specs.Rounds.{have_told}
use Rattle.hs_fold.specs.Catalogue.{Shard, fresh_present}
use Rattle.hs_fold.specs.Shards.Catalogue.{is_stored, is_marked, is_rooted, retained_in}
use Rattle.hs_fold.specs.Runs.Catalogue.{apply}
use Rattle.hs_fold.specs.Runs.Clients.{new_facts, store_block, give_block, marked, insert_root, new_root, keep_root, end_retention, drop_key}
use Rattle.hs_fold.specs.Runs.Facts.{Catalogue, plain, facts_at}
use Rattle.hs_fold.specs.Runs.Happening.{IsClients}
use Rattle.hs_fold.specs.Runs.Rounds.{enter_epoch, is_accepted, is_complete, is_last, end_round, advanced, ends_last, log_got, get_round, may_enter}
use Rattle.hs_fold.specs.Runs.Rounds.{enter as enter_here}
use Rattle.hs_joint.proofs.GotLemmas.{advanced_epoch, stays_open}

module _ (at : Shard) (c : Catalogue) where
  abbrev pub IsStill : Catalogue → Type 0
  IsStill d = (d.epoch ≡ c.epoch) × (d.swept ≡ c.swept) × (d.round ≡ c.round) × (d.got ≡ c.got)

  store_still : (number least : ℕ) (a : Address) (read : Result Block SpellingFault) → IsStill (store_block at c number least a read)
  store_still number least a (Err fault) = (refl, refl, refl, refl)
  store_still number least a (Ok block) = go (is_stored at (plain c) least a)
    where
      go : (b : Bool) → IsStill (cond b (record c { blocks = insert_entry address_cmp c.blocks a (new_facts (fresh_present c.epoch number block)) }) c)
      go true = (refl, refl, refl, refl)
      go false = (refl, refl, refl, refl)

  mark_still : (least number : ℕ) (a : Address) → IsStill (give_block c least number a)
  mark_still least number a = go (is_marked (plain c) least number (option_map (λ f. f.present) (facts_at c a)))
    where
      go : (b : Bool) → IsStill (cond b (record c { blocks = marked c.epoch (facts_at c a) c.blocks a }) c)
      go true = (refl, refl, refl, refl)
      go false = (refl, refl, refl, refl)

  root_still : (held : ℕ) (a : Address) (key : List ℕ) → IsStill (keep_root at c held a key)
  root_still held a key = go (is_rooted at (plain c) held a key && is_none (retained_in (plain c) key))
    where
      go : (b : Bool) → IsStill (cond b (record c { roots = insert_root (new_root c.epoch a key) c.roots }) c)
      go true = (refl, refl, refl, refl)
      go false = (refl, refl, refl, refl)

  drop_still : (key : List ℕ) → IsStill (drop_key at c key)
  drop_still key = go (shard_of_key at.shards key == at.shard)
    where
      go : (b : Bool) → IsStill (cond b (record c { roots = map (end_retention key c.epoch) c.roots }) c)
      go true = (refl, refl, refl, refl)
      go false = (refl, refl, refl, refl)

  pub client_still : (number : ℕ) (entry : Entry) → IsClients entry → IsStill (apply at c (number, entry))
  client_still number (kind.View view) u = (refl, refl, refl, refl)
  client_still number (kind.Block op least bytes) u = store_still number least (at.name bytes) (read_block bytes)
  client_still number (kind.Mark op least block a) u = mark_still least block a
  client_still number (kind.Root op held a key) u = root_still held a key
  client_still number (kind.Drop op key) u = drop_still key
  client_still number (kind.Enter op epoch) u = elim u [ ]
  client_still number (kind.Got sender epoch round total deltas) u = elim u [ ]
  client_still number (kind.Base view epoch swept round frames) u = (refl, refl, refl, refl)
  client_still number (kind.KeptBlock born mark flags count bytes) u = (refl, refl, refl, refl)
  client_still number (kind.KeptRoot created dropped counted address key) u = (refl, refl, refl, refl)
  client_still number (kind.KeptRound way other epoch round total deltas) u = (refl, refl, refl, refl)

  -- an Enter that changes something enters
  pub entered_epoch : (epoch : ℕ) → may_enter c epoch ≡ true → (enter_here at.shards epoch c).epoch ≡ c.epoch + 1
  entered_epoch epoch e = ap (λ b. (cond b (advanced at.shards (enter_epoch at.shards c)) c).epoch) e ∙ advanced_epoch at.shards (enter_epoch at.shards c)

  pub got_epoch : (place : Place) (told : RoundBody) → (get_round at.shards place told c).epoch ≡ c.epoch
  got_epoch place told = go (is_accepted at.shards c place)
    where
      go : (b : Bool) → (cond b (advanced at.shards (log_got place told c)) c).epoch ≡ c.epoch
      go true = advanced_epoch at.shards (log_got place told c)
      go false = refl

  enter_rises : (epoch : ℕ) → c.epoch ≤ (enter_here at.shards epoch c).epoch
  enter_rises epoch = go (may_enter c epoch) refl
    where
      go : (b : Bool) → may_enter c epoch ≡ b → c.epoch ≤ (enter_here at.shards epoch c).epoch
      go true e = let up = entered_epoch epoch e in omega (arith, up)
      go false e = let same : (enter_here at.shards epoch c).epoch ≡ c.epoch = ap (λ b. (cond b (advanced at.shards (enter_epoch at.shards c)) c).epoch) e in omega (arith, same)

  pub epoch_rises : (number : ℕ) (entry : Entry) → c.epoch ≤ (apply at c (number, entry)).epoch
  epoch_rises number (kind.View view) = omega arith
  epoch_rises number (kind.Block op least bytes) = let e = (client_still number (kind.Block op least bytes) tt).0 in omega (arith, e)
  epoch_rises number (kind.Mark op least block a) = let e = (client_still number (kind.Mark op least block a) tt).0 in omega (arith, e)
  epoch_rises number (kind.Root op held a key) = let e = (client_still number (kind.Root op held a key) tt).0 in omega (arith, e)
  epoch_rises number (kind.Drop op key) = let e = (client_still number (kind.Drop op key) tt).0 in omega (arith, e)
  epoch_rises number (kind.Enter op epoch) = enter_rises epoch
  epoch_rises number (kind.Got sender epoch round total deltas) = let e = got_epoch (record { epoch = epoch; round = round; from = sender }) (record { total = total; deltas = deltas }) in omega (arith, e)
  epoch_rises number (kind.Base view epoch swept round frames) = omega arith
  epoch_rises number (kind.KeptBlock born mark flags count bytes) = omega arith
  epoch_rises number (kind.KeptRoot created dropped counted address key) = omega arith
  epoch_rises number (kind.KeptRound way other epoch round total deltas) = omega arith

-- ---- a shard that has swept its epoch ends no round

pub idle_open : (n : ℕ) (c : Catalogue) → nat_lt c.swept c.epoch ≡ false → (place : Place) (told : RoundBody) → is_complete n (log_got place told c) ≡ false
idle_open n c e place told = ap (λ b. b && have_told n c.epoch c.round (log_got place told c).got) e

pub idle_got : (n : ℕ) (c : Catalogue) → nat_lt c.swept c.epoch ≡ false → (place : Place) (told : RoundBody) → ((get_round n place told c).epoch ≡ c.epoch) × ((get_round n place told c).swept ≡ c.swept)
idle_got n c e place told = go (is_accepted n c place)
  where
    open_still : advanced n (log_got place told c) ≡ log_got place told c
    open_still = stays_open n (log_got place told c) (idle_open n c e place told)

    go : (b : Bool) → ((cond b (advanced n (log_got place told c)) c).epoch ≡ c.epoch) × ((cond b (advanced n (log_got place told c)) c).swept ≡ c.swept)
    go true = (ap (λ (x : Catalogue). x.epoch) open_still, ap (λ (x : Catalogue). x.swept) open_still)
    go false = (refl, refl)

pub idle_ends : (n : ℕ) (c : Catalogue) → nat_lt c.swept c.epoch ≡ false → (place : Place) (told : RoundBody) → (is_accepted n c place && ends_last n (length (log_got place told c).got + 1) (log_got place told c)) ≡ false
idle_ends n c e place told =
    ap (λ turns. is_accepted n c place && ends_last n turns (log_got place told c)) (plus_one (length (log_got place told c).got))
    ∙ ap (λ b. is_accepted n c place && (b && (is_last n (log_got place told c) || ends_last n (length (log_got place told c).got) (end_round n (log_got place told c))))) (idle_open n c e place told)
    ∙ both (is_accepted n c place)
  where
    plus_one : (k : ℕ) → k + 1 ≡ suc k
    plus_one k = omega arith

    both : (a : Bool) → a && false ≡ false
    both true = refl
    both false = refl
