-- What an entry leaves of a shard's catalogue: its epoch, and each block that was there.
use Rattle.std.proofs.Common.{◌≡◌, ◌≢◌, ℕ, ◌==◌, List, Bool, true, false, cond, Option, Some, None, Result, Ok, Err, refl, sym, ap, ◌∙◌}
use Rattle.std.specs.BTreeMap.{insert_entry, is_at}
use Rattle.std.specs.Map.{lookup, set_value}
use Rattle.hs_limits.specs.declared.address.Address.{Address}
use Rattle.hs_limits.specs.declared.spelling.SpellingFault.{SpellingFault}
use Rattle.hs_limits.specs.Block.{Block}
use Rattle.hs_limits.specs.Reading.{read_block}
use Rattle.hs_limits.specs.Shape.{shard_of_key}
use Rattle.hs_model.specs.Judge.{drop_root, roots_with}
use Rattle.hs_model.specs.Reach.{is_same}
use Rattle.hs_model.specs.Store.{address_cmp}
use Rattle.hs_model.proofs.MapLemmas.{insert-present}
use Rattle.hs_model.proofs.Members.{same_from}
use Rattle.hs_laws.proofs.InsertLemmas.{lookup-insert_same, lookup-insert_other}
use Rattle.hs_laws.proofs.OrderLemmas.{address_total}
use Rattle.hs_entry.specs.declared.entry.Entry.{Entry}
use Rattle.hs_entry.specs.declared.entry.Entry.TheVariants as kind
use Rattle.hs_fold.specs.Catalogue.{Present, Shard, fresh_present}
use Rattle.hs_fold.specs.Shards.Catalogue.{Catalogue, present_at, is_stored, with_present, store_block, is_marked, marked, give_block, retained_in, is_rooted, keep_root, drop_key, apply}
use Rattle.hs_fold.specs.Shards.Mine.{IsMine}

module _ (at : Shard) (c : Catalogue) where
  -- ---- the epoch stays

  store-epoch : (number least : ℕ) (a : Address) (read : Result Block SpellingFault) → (store_block at c number least a read).epoch ≡ c.epoch
  store-epoch number least a (Err fault) = refl
  store-epoch number least a (Ok block) = go (is_stored at c least a)
    where
      go : (b : Bool) → (cond b (with_present c a (fresh_present c.epoch number block)) c).epoch ≡ c.epoch
      go true = refl
      go false = refl

  mark-epoch : (least number : ℕ) (a : Address) → (give_block c least number a).epoch ≡ c.epoch
  mark-epoch least number a = go (is_marked c least number (present_at c a))
    where
      go : (b : Bool) → (cond b (record c { blocks = marked c.epoch (present_at c a) c.blocks a }) c).epoch ≡ c.epoch
      go true = refl
      go false = refl

  root-epoch : (held : ℕ) (a : Address) (key : List ℕ) → (keep_root at c held a key).epoch ≡ c.epoch
  root-epoch held a key = go (is_rooted at c held a key)
    where
      go : (b : Bool) → (cond b (record c { roots = roots_with (retained_in c key) c.roots (record { key = key; address = a; dropped = None }) }) c).epoch ≡ c.epoch
      go true = refl
      go false = refl

  drop-epoch : (key : List ℕ) → (drop_key at c key).epoch ≡ c.epoch
  drop-epoch key = go (shard_of_key at.shards key == at.shard)
    where
      go : (b : Bool) → (cond b (record c { roots = drop_root (retained_in c key) c.roots key c.epoch }) c).epoch ≡ c.epoch
      go true = refl
      go false = refl

  pub epoch-stays : (number : ℕ) (entry : Entry) → (apply at c (number, entry)).epoch ≡ c.epoch
  epoch-stays number (kind.View view) = refl
  epoch-stays number (kind.Block op least bytes) = store-epoch number least (at.name bytes) (read_block bytes)
  epoch-stays number (kind.Mark op least block a) = mark-epoch least block a
  epoch-stays number (kind.Root op held a key) = root-epoch held a key
  epoch-stays number (kind.Drop op key) = drop-epoch key
  epoch-stays number (kind.Enter op epoch) = refl
  epoch-stays number (kind.Got sender epoch round total deltas) = refl
  epoch-stays number (kind.Base view epoch swept round frames) = refl
  epoch-stays number (kind.KeptBlock born mark flags count bytes) = refl
  epoch-stays number (kind.KeptRoot created dropped counted address key) = refl
  epoch-stays number (kind.KeptRound way other epoch round total deltas) = refl

-- ---- a block that is there afterwards was there, or is the one that the entry stored

pub record WasThere (c : Catalogue) (a : Address) (kept : Present) : Type 0 where
  pub old : Present
  pub found : present_at c a ≡ Some old
  pub numbered : old.number ≡ kept.number
  pub stored : old.stored ≡ kept.stored

the-same : {X : Type 0} (x y : X) → Some x ≡ Some y → x ≡ y
the-same x y h = cc h

module _ (c : Catalogue) (a : Address) (kept : Present) where
  was-same : (d : Catalogue) → d.blocks ≡ c.blocks → present_at d a ≡ Some kept → WasThere c a kept
  was-same d e f = record { old = kept; found = ap (λ es. lookup (is_at (address_cmp a)) es) (sym e) ∙ f; numbered = refl; stored = refl }

  was-stored : (at : Shard) (number least : ℕ) (b : Address) (read : Result Block SpellingFault) → kept.number ≢ number → present_at (store_block at c number least b read) a ≡ Some kept → WasThere c a kept
  was-stored at number least b (Err fault) differs f = was-same c refl f
  was-stored at number least b (Ok block) differs f = go (is_stored at c least b) f
    where
      new : Present
      new = fresh_present c.epoch number block

      added : (t : Bool) → is_same a b ≡ t → present_at (with_present c b new) a ≡ Some kept → WasThere c a kept
      added true t h =
          let here : present_at (with_present c b new) a ≡ Some new = ap (λ y. lookup (is_at (address_cmp y)) (insert_entry address_cmp c.blocks b new)) (same_from a b t) ∙ lookup-insert_same c.blocks b new in
          absurd (differs (ap (λ (p : Present). p.number) (the-same kept new (sym h ∙ here))))
      added false t h = record { old = kept; found = sym (lookup-insert_other c.blocks b new a t) ∙ h; numbered = refl; stored = refl }

      go : (t : Bool) → present_at (cond t (with_present c b new) c) a ≡ Some kept → WasThere c a kept
      go true h = added (is_same a b) refl h
      go false h = was-same c refl h

  was-given : (n g : ℕ) → IsMine n g c → (least number : ℕ) (b : Address) → present_at (give_block c least number b) a ≡ Some kept → WasThere c a kept
  was-given n g mine least number b f = go (present_at c b) refl (is_marked c least number (present_at c b)) f
    where
      given : (x : Present) → present_at c b ≡ Some x → present_at (record c { blocks = set_value (is_at (address_cmp b)) c.blocks (record x { mark = c.epoch }) }) a ≡ Some kept → WasThere c a kept
      given x e h = same (is_same a b) refl
        where
          later : Present
          later = record x { mark = c.epoch }

          as_insert : set_value (is_at (address_cmp b)) c.blocks later ≡ insert_entry address_cmp c.blocks b later
          as_insert = sym (insert-present address_cmp address_total c.blocks b x later mine.ordered e)

          in_insert : lookup (is_at (address_cmp a)) (insert_entry address_cmp c.blocks b later) ≡ Some kept
          in_insert = ap (λ es. lookup (is_at (address_cmp a)) es) (sym as_insert) ∙ h

          same : (t : Bool) → is_same a b ≡ t → WasThere c a kept
          same true t =
              let is : a ≡ b = same_from a b t in
              let here : lookup (is_at (address_cmp a)) (insert_entry address_cmp c.blocks b later) ≡ Some later = ap (λ y. lookup (is_at (address_cmp y)) (insert_entry address_cmp c.blocks b later)) is ∙ lookup-insert_same c.blocks b later in
              let kept_is : later ≡ kept = the-same later kept (sym here ∙ in_insert) in
              record {
                old = x;
                found = ap (λ y. present_at c y) is ∙ e;
                numbered = ap (λ (p : Present). p.number) kept_is;
                stored = ap (λ (p : Present). p.stored) kept_is;
              }
          same false t = record { old = kept; found = sym (lookup-insert_other c.blocks b later a t) ∙ in_insert; numbered = refl; stored = refl }

      go : (found : Option Present) → present_at c b ≡ found → (t : Bool) → present_at (cond t (record c { blocks = marked c.epoch found c.blocks b }) c) a ≡ Some kept → WasThere c a kept
      go found e false h = was-same c refl h
      go None e true h = was-same (record c { blocks = c.blocks }) refl h
      go (Some x) e true h = given x e h

  was-rooted : (at : Shard) (held : ℕ) (b : Address) (key : List ℕ) → present_at (keep_root at c held b key) a ≡ Some kept → WasThere c a kept
  was-rooted at held b key f = go (is_rooted at c held b key) f
    where
      go : (t : Bool) → present_at (cond t (record c { roots = roots_with (retained_in c key) c.roots (record { key = key; address = b; dropped = None }) }) c) a ≡ Some kept → WasThere c a kept
      go true h = was-same c refl h
      go false h = was-same c refl h

  was-dropped : (at : Shard) (key : List ℕ) → present_at (drop_key at c key) a ≡ Some kept → WasThere c a kept
  was-dropped at key f = go (shard_of_key at.shards key == at.shard) f
    where
      go : (t : Bool) → present_at (cond t (record c { roots = drop_root (retained_in c key) c.roots key c.epoch }) c) a ≡ Some kept → WasThere c a kept
      go true h = was-same c refl h
      go false h = was-same c refl h

  pub was-there : (at : Shard) → IsMine at.shards at.shard c → (number : ℕ) (entry : Entry) → kept.number ≢ number → present_at (apply at c (number, entry)) a ≡ Some kept → WasThere c a kept
  was-there at mine number (kind.View view) differs f = was-same c refl f
  was-there at mine number (kind.Block op least bytes) differs f = was-stored at number least (at.name bytes) (read_block bytes) differs f
  was-there at mine number (kind.Mark op least block b) differs f = was-given at.shards at.shard mine least block b f
  was-there at mine number (kind.Root op held b key) differs f = was-rooted at held b key f
  was-there at mine number (kind.Drop op key) differs f = was-dropped at key f
  was-there at mine number (kind.Enter op epoch) differs f = was-same c refl f
  was-there at mine number (kind.Got sender epoch round total deltas) differs f = was-same c refl f
  was-there at mine number (kind.Base view epoch swept round frames) differs f = was-same c refl f
  was-there at mine number (kind.KeptBlock born mark flags count bytes) differs f = was-same c refl f
  was-there at mine number (kind.KeptRoot created dropped counted address key) differs f = was-same c refl f
  was-there at mine number (kind.KeptRound way other epoch round total deltas) differs f = was-same c refl f
