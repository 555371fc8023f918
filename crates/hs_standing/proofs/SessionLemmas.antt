-- What happens by entries leaves the sessions, and looks at none.
use Rattle.std.proofs.Common.{◌≡◌, List, [], ◌∷◌, Bool, true, false, cond, None, refl, sym, ap, ◌∙◌, subst}
use Rattle.std.specs.BTreeMap.{insert_entry}
use Rattle.hs_model.specs.Judge.{roots_with}
use Rattle.hs_model.specs.Store.{Store, address_cmp, epoch_at, retained_at, with_block, with_roots, reborn}
use Rattle.hs_fold.specs.Shards.Change.{Change, stores, gives, keeps, drops, is_usable, may_store, may_keep, change}
use Rattle.hs_fold.specs.Shards.Happening.{Happening, changes, enters, sweeps, happen, happen_all, MayHappen, AreLegal}

change_left : (s : Store) (one : Change) → reborn (change s one) ≡ change (reborn s) one
change_left s (stores least a block) = go (may_store s least a)
  where
    go : (b : Bool) → reborn (cond b (with_block s a block) s) ≡ cond b (with_block (reborn s) a block) (reborn s)
    go true = refl
    go false = refl
change_left s (gives least a) = go (is_usable s least a)
  where
    after : Store → Store
    after t = record t { given = insert_entry address_cmp t.given a (epoch_at t a) }

    go : (b : Bool) → reborn (cond b (after s) s) ≡ cond b (after (reborn s)) (reborn s)
    go true = refl
    go false = refl
change_left s (keeps held a key) = go (may_keep s held a key)
  where
    after : Store → Store
    after t = with_roots t (roots_with (retained_at t key) t.roots (record { key = key; address = a; dropped = None }))

    go : (b : Bool) → reborn (cond b (after s) s) ≡ cond b (after (reborn s)) (reborn s)
    go true = refl
    go false = refl
change_left s (drops key) = refl

happen_left : (s : Store) (one : Happening) → reborn (happen s one) ≡ happen (reborn s) one
happen_left s (changes one) = change_left s one
happen_left s (enters shard) = refl
happen_left s (sweeps shard) = refl

may_left : (s : Store) (one : Happening) → MayHappen (reborn s) one → MayHappen s one
may_left s (changes one) m = tt
may_left s (enters shard) m = m
may_left s (sweeps shard) m = m

-- a stop behind them leaves what they make of what a stop before them leaves
pub all_left : (s : Store) (more : List Happening) → reborn (happen_all s more) ≡ happen_all (reborn s) more
all_left s [] = refl
all_left s (one ∷ more) = all_left (happen s one) more ∙ ap (λ t. happen_all t more) (happen_left s one)

pub legal_left : (s : Store) (more : List Happening) → AreLegal (reborn s) more → AreLegal s more
legal_left s [] l = tt
legal_left s (one ∷ more) l = (may_left s one l.0, legal_left (happen s one) more (subst (λ t. AreLegal t more) (sym (happen_left s one)) l.1))
