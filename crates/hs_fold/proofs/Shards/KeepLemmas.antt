-- Changes keep a store valid, and what rests on something does still.
use Rattle.std.proofs.Common.{◌≡◌, inl, inr, ℕ, ◌+◌, ◌&&◌, Bool, true, false, cond, List, Option, Some, None, is_none, refl, sym, ap, ◌∙◌, subst, arith, nat_le}
use Rattle.std.specs.BTreeMap.{insert_entry}
use Rattle.hs_limits.specs.declared.address.Address.{Address}
use Rattle.hs_limits.specs.Block.{Block}
use Rattle.hs_limits.specs.Limits.{greatest_limits}
use Rattle.hs_model.specs.declared.store.StoredBlock.{StoredBlock}
use Rattle.hs_model.specs.Judge.{drop_root, roots_with}
use Rattle.hs_model.specs.Reach.{anchors}
use Rattle.hs_model.specs.Refusals.{shard_full, key_taken, roots_full}
use Rattle.hs_model.specs.Store.{Store, Root, address_cmp, block_at, block_of, blocks_with, epoch_at, root_epoch, retained_at, is_retained, place_root, without_first, with_block, with_roots}
use Rattle.hs_model.proofs.Members.{Member}
use Rattle.hs_model.proofs.ReachLemmas.{start, Reaches}
use Rattle.hs_laws.specs.Valid.{least_epoch, rests_on, stands_in}
use Rattle.hs_laws.proofs.EpochLemmas.{nat_le_from}
use Rattle.hs_laws.proofs.JudgeKeeps.{least-root_epoch}
use Rattle.hs_laws.proofs.PromiseLemmas.{anchored_from_held, least-epoch_at}
use Rattle.hs_laws.proofs.RootKeeps.{retained_is, rooted_valid, dropped_valid, place-keeps, place-has, without-keeps}
use Rattle.hs_laws.proofs.ValidLemmas.{starts-root, starts-given, starts-each, Reaches-more, Valid}
use Rattle.hs_laws.proofs.WriteKeeps.{MayWrite, with_block_valid, still_reached}
use Rattle.hs_fold.specs.Shards.Change.{Change, stores, gives, keeps, drops, is_usable, is_usable_key, change}

-- what rests on something does still
abbrev pub Onward : Store → Store → Type 0
Onward s t = (epoch : ℕ) (a : Address) → Reaches s.blocks (rests_on s epoch) a → Reaches t.blocks (rests_on t epoch) a

abbrev pub Kept : Store → Store → Type 0
Kept s t = Valid t × Onward s t

-- all of these are reached from what was given, or stands as a root, in this epoch or later
abbrev pub RestOn : Store → ℕ → List Address → Type 0
RestOn s least pointers = (p : Address) → Member p pointers → Reaches s.blocks (rests_on s least) p

-- what a change rests on is there, where what it holds may still be used
abbrev pub MayChange : Store → Change → Type 0
MayChange s (stores least a block) = (block_at s a ≡ None) × (is_usable s least a ≡ true → RestOn s least block.pointers)
MayChange s (gives least a) = (stored : StoredBlock) × (block_at s a ≡ Some stored) × (is_usable s least a ≡ true → RestOn s least stored.pointers)
MayChange s (keeps held a key) = is_usable_key s held key ≡ true → Reaches s.blocks (rests_on s held) a
MayChange s (drops key) = Unit {0}

module _ (s : Store) (v : Valid s) where
  -- what may still be used is anchored
  anchored : (least : ℕ) (a p : Address) → is_usable s least a ≡ true → Reaches s.blocks (rests_on s least) p → Reaches s.blocks (anchors s (least_epoch s)) p
  anchored least a p may r =
      let now = nat_le_from (epoch_at s a) (least + 1) may in
      let low = least-epoch_at s a v.epochs.some_shard in
      anchored_from_held s least (least_epoch s) p (omega (arith, now, low)) r

  write-keeps : (least : ℕ) (a : Address) (block : Block) → is_usable s least a ≡ true → RestOn s least block.pointers → ((stored : StoredBlock) → block_at s a ≡ Some stored → stored.pointers ≡ block.pointers) → Kept s (with_block s a block)
  write-keeps least a block may rests same =
      let writes : MayWrite s a block = record { pointers = λ p m. anchored least a p may (rests p m); same = same } in
      (with_block_valid s v a block writes, still_reached s v a block writes)

  store-keeps : (least : ℕ) (a : Address) (block : Block) → MayChange s (stores least a block) → Kept s (change s (stores least a block))
  store-keeps least a block may = go (is_usable s least a) refl (is_none (shard_full greatest_limits s a))
    where
      go : (b : Bool) → is_usable s least a ≡ b → (q : Bool) → Kept s (cond (b && q) (with_block s a block) s)
      go true e true = write-keeps least a block e (may.1 e) (λ stored f. cc (may.0, f))
      go true e false = (v, λ epoch b r. r)
      go false e q = (v, λ epoch b r. r)

  give-keeps : (least : ℕ) (a : Address) → MayChange s (gives least a) → Kept s (change s (gives least a))
  give-keeps least a may = go (is_usable s least a) refl
    where
      block : Block
      block = block_of may.0

      is : with_block s a block ≡ record s { given = insert_entry address_cmp s.given a (epoch_at s a) }
      is = ap (λ found. record s { blocks = blocks_with found s.blocks a block (epoch_at s a); given = insert_entry address_cmp s.given a (epoch_at s a) }) may.1

      go : (b : Bool) → is_usable s least a ≡ b → Kept s (cond b (record s { given = insert_entry address_cmp s.given a (epoch_at s a) }) s)
      go true e = subst (λ t. Kept s t) is (write-keeps least a block e (may.2 e) (λ stored f. ap (λ (x : StoredBlock). x.pointers) (the-same may.0 stored (sym f ∙ may.1))))
        where
          the-same : (x y : StoredBlock) → Some y ≡ Some x → y ≡ x
          the-same x y h = cc h
      go false e = (v, λ epoch b r. r)

  roots-onward : (roots : List Root) → ((root : Root) (epoch : ℕ) → Member root s.roots → nat_le epoch (stands_in s root) ≡ true → Member root.address (rests_on (with_roots s roots) epoch)) → Onward s (with_roots s roots)
  roots-onward roots g epoch a r = Reaches-more s.blocks (rests_on s epoch) (rests_on (with_roots s roots) epoch)
      (λ b n. start (starts-each (λ b. Member b (rests_on (with_roots s roots) epoch)) (λ root. nat_le epoch (stands_in s root)) (λ e. nat_le epoch e.1) s.roots s.given (λ root k t. g root epoch k t) (λ e k t. starts-given (λ root. nat_le epoch (stands_in s root)) (λ e. nat_le epoch e.1) roots s.given e k t) b n)) a r

  rest : (roots : List Root) (root : Root) (epoch : ℕ) → Member root roots → nat_le epoch (stands_in s root) ≡ true → Member root.address (rests_on (with_roots s roots) epoch)
  rest roots root epoch m t = starts-root (λ root. nat_le epoch (stands_in s root)) (λ e. nat_le epoch e.1) roots s.given root m t

  keep-keeps : (held : ℕ) (a : Address) (key : List ℕ) → MayChange s (keeps held a key) → Kept s (change s (keeps held a key))
  keep-keeps held a key may = go (is_usable_key s held key) refl (is_none (key_taken s key a)) (is_none (roots_full greatest_limits s key))
    where
      root : Root
      root = record { key = key; address = a; dropped = None }

      after : Store
      after = with_roots s (roots_with (retained_at s key) s.roots root)

      onward : (found : Option Root) → Onward s (with_roots s (roots_with found s.roots root))
      onward None = roots-onward (place_root root s.roots) (λ x epoch m t. rest (place_root root s.roots) x epoch (place-keeps root s.roots x m) t)
      onward (Some old) = λ epoch b r. r

      go : (b : Bool) → is_usable_key s held key ≡ b → (q t : Bool) → Kept s (cond ((b && q) && t) after s)
      go true e true true =
          let now = nat_le_from (root_epoch s key) (held + 1) e in
          let low = least-root_epoch s key v.epochs.some_shard in
          (rooted_valid s v key a (anchored_from_held s held (least_epoch s) a (omega (arith, now, low)) (may e)), onward (retained_at s key))
      go true e true false = (v, λ epoch b r. r)
      go true e false t = (v, λ epoch b r. r)
      go false e q t = (v, λ epoch b r. r)

  drop-keeps : (key : List ℕ) → Kept s (change s (drops key))
  drop-keeps key = (dropped_valid s v key, go (retained_at s key) refl)
    where
      go : (found : Option Root) → retained_at s key ≡ found → Onward s (with_roots s (drop_root found s.roots key (root_epoch s key)))
      go None h = λ epoch b r. r
      go (Some root) h =
          let is = retained_is s key root h in
          let new : Root = record root { dropped = Some (root_epoch s key) } in
          let others : List Root = without_first (is_retained key) s.roots in
          let stands : stands_in s root ≡ root_epoch s key = rw (is.standing, is.its_key) in
          roots-onward (place_root new others) (λ x epoch n t. elim (without-keeps (is_retained key) s.roots x n) [
            | inl k ↦ rest (place_root new others) x epoch (place-keeps new others x k) t
            | inr k ↦ let same : x ≡ root = cc (h, k) in let now : nat_le epoch (root_epoch s key) ≡ true = rw stands at (subst (λ z. nat_le epoch (stands_in s z) ≡ true) same t) in subst (λ z. Member z (rests_on (with_roots s (place_root new others)) epoch)) (sym (ap (λ (z : Root). z.address) same)) (rest (place_root new others) new epoch (place-has new others) now)
          ])

  pub change-keeps : (one : Change) → MayChange s one → Kept s (change s one)
  change-keeps (stores least a block) may = store-keeps least a block may
  change-keeps (gives least a) may = give-keeps least a may
  change-keeps (keeps held a key) may = keep-keeps held a key may
  change-keeps (drops key) may = drop-keeps key
