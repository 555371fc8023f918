-- What happens by entries so far leaves the sessions.
use Rattle.std.proofs.Common.{◌≡◌, List, [], ◌∷◌, Bool, true, false, cond, None, refl, ap, ◌∙◌}
use Rattle.std.specs.BTreeMap.{insert_entry}
use Rattle.hs_model.specs.Judge.{roots_with}
use Rattle.hs_model.specs.Store.{Store, address_cmp, epoch_at, retained_at, with_block, with_roots, reborn}
use Rattle.hs_fold.specs.Shards.Change.{Change, stores, gives, keeps, drops, is_usable, may_store, may_keep, change}
use Rattle.hs_fold.specs.Shards.Happening.{Happening, changes, enters, sweeps, happen_all}
use Rattle.hs_fold.specs.Shards.Parted.{Parted, behind_happenings}
use Rattle.hs_fold.specs.Shards.Setting.{Setting}
use Rattle.hs_fold.proofs.Shards.LegalLemmas.{AllChanges, behind-changes}

change-left : (s : Store) (one : Change) → reborn (change s one) ≡ change (reborn s) one
change-left s (stores least a block) = go (may_store s least a)
  where
    go : (b : Bool) → reborn (cond b (with_block s a block) s) ≡ cond b (with_block (reborn s) a block) (reborn s)
    go true = refl
    go false = refl
change-left s (gives least a) = go (is_usable s least a)
  where
    after : Store → Store
    after t = record t { given = insert_entry address_cmp t.given a (epoch_at t a) }

    go : (b : Bool) → reborn (cond b (after s) s) ≡ cond b (after (reborn s)) (reborn s)
    go true = refl
    go false = refl
change-left s (keeps held a key) = go (may_keep s held a key)
  where
    after : Store → Store
    after t = with_roots t (roots_with (retained_at t key) t.roots (record { key = key; address = a; dropped = None }))

    go : (b : Bool) → reborn (cond b (after s) s) ≡ cond b (after (reborn s)) (reborn s)
    go true = refl
    go false = refl
change-left s (drops key) = refl

happen-left : (s : Store) (hs : List Happening) → AllChanges hs → reborn (happen_all s hs) ≡ happen_all (reborn s) hs
happen-left s [] h = refl
happen-left s (changes one ∷ rest) h = happen-left (change s one) rest h.1 ∙ ap (λ t. happen_all t rest) (change-left s one)
happen-left s (enters shard ∷ rest) h = absurd h.0
happen-left s (sweeps shard ∷ rest) h = absurd h.0

pub behind-left : (s : Store) (set : Setting) (lists : List Parted) → reborn (happen_all s (behind_happenings set 0 lists)) ≡ happen_all (reborn s) (behind_happenings set 0 lists)
behind-left s set lists = happen-left s (behind_happenings set 0 lists) (behind-changes set 0 lists)
