-- A write of a block keeps a store valid.
use Rattle.std.proofs.Common.{◌≡◌, ℕ, ◌+◌, ◌≤◌, ◌⊎◌, inl, inr, Bool, true, false, Option, Some, None, refl, sym, ap, ◌∙◌, subst, arith, nat_le, is_some, le_refl}
use Rattle.std.specs.BTreeMap.{is_at}
use Rattle.std.specs.Map.{lookup}
use Rattle.hs_limits.specs.Block.{Block}
use Rattle.hs_limits.specs.declared.address.Address.{Address}
use Rattle.hs_model.specs.declared.store.StoredBlock.{StoredBlock}
use Rattle.hs_model.specs.Reach.{anchors, counts_in, is_same, pointers_of}
use Rattle.hs_model.specs.Store.{Store, address_cmp, block_at, epoch_at, blocks_with, with_block}
use Rattle.hs_laws.specs.Valid.{least_epoch, rests_on, stands_in}
use Rattle.hs_laws.proofs.EpochLemmas.{nat_le_from, nat_le-true}
use Rattle.hs_laws.proofs.InsertLemmas.{insert-key, member-insert, insert-has, lookup-insert_same, lookup-insert_other}
use Rattle.hs_model.proofs.Members.{Member, same_from}
use Rattle.hs_model.proofs.ReachLemmas.{Reached-each, start, onward, Points, Reaches}
use Rattle.hs_laws.proofs.ValidLemmas.{starts-root, starts-given, starts-each, Valid}

-- what is known where a block may be written: its pointers are anchored, and it is the one that is there, if one is
pub record MayWrite (s : Store) (a : Address) (block : Block) : Type 0 where
  pub pointers : (p : Address) → Member p block.pointers → Reaches s.blocks (anchors s (least_epoch s)) p
  pub same : (stored : StoredBlock) → block_at s a ≡ Some stored → stored.pointers ≡ block.pointers

module _ (s : Store) (v : Valid s) (a : Address) (block : Block) (m : MayWrite s a block) where
  abbrev now : ℕ
  now = epoch_at s a

  abbrev after : Store
  after = with_block s a block

  -- ---- the blocks

  pub other : (b : Address) → is_same b a ≡ false → block_at after b ≡ block_at s b
  other b f = go (block_at s a) refl
    where
      go : (found : Option StoredBlock) → block_at s a ≡ found → lookup (is_at (address_cmp b)) (blocks_with found s.blocks a block now) ≡ block_at s b
      go None e = lookup-insert_other s.blocks a (record { pointers = block.pointers; bytes = block.bytes; born = now }) b f
      go (Some stored) e = refl

  pub its_pointers : pointers_of (block_at after a) ≡ block.pointers
  its_pointers = go (block_at s a) refl
    where
      go : (found : Option StoredBlock) → block_at s a ≡ found → pointers_of (lookup (is_at (address_cmp a)) (blocks_with found s.blocks a block now)) ≡ block.pointers
      go None e = rw (lookup-insert_same s.blocks a (record { pointers = block.pointers; bytes = block.bytes; born = now }))
      go (Some stored) e = rw e (m.same stored e)

  it_is_there : is_some (block_at after a) ≡ true
  it_is_there = go (block_at s a) refl
    where
      go : (found : Option StoredBlock) → block_at s a ≡ found → is_some (lookup (is_at (address_cmp a)) (blocks_with found s.blocks a block now)) ≡ true
      go None e = rw (lookup-insert_same s.blocks a (record { pointers = block.pointers; bytes = block.bytes; born = now }))
      go (Some stored) e = rw e

  still_present : (b : Address) → is_some (block_at s b) ≡ true → is_some (block_at after b) ≡ true
  still_present b t = go (is_same b a) refl
    where
      go : (c : Bool) → is_same b a ≡ c → is_some (block_at after b) ≡ true
      go true e = subst (λ z. is_some (block_at after z) ≡ true) (sym (same_from b a e)) it_is_there
      go false e = rw (other b e) t

  -- a block afterwards was there, or is new
  abbrev IsOld : Address × StoredBlock → Type 0
  IsOld e = Member e s.blocks ⊎ ((block_at s a ≡ None) × (e.0 ≡ a) × (e.1.born ≡ now))

  old_or_new : (e : Address × StoredBlock) → Member e after.blocks → IsOld e
  old_or_new e n = go (block_at s a) refl n
    where
      new : block_at s a ≡ None → ((e.0 ≡ a) × (e.1 ≡ record { pointers = block.pointers; bytes = block.bytes; born = now })) ⊎ Member e s.blocks → IsOld e
      new f (inl h) = inr (f, h.0, ap (λ z. z.born) h.1)
      new f (inr h) = inl h

      go : (found : Option StoredBlock) → block_at s a ≡ found → Member e (blocks_with found s.blocks a block now) → IsOld e
      go None f k = new f (insert-key s.blocks a (record { pointers = block.pointers; bytes = block.bytes; born = now }) e k)
      go (Some stored) f k = inl k

  -- ---- what was given

  gift_here : Member (a, now) after.given
  gift_here = insert-has s.given a now

  -- ---- pointers

  pub points_before : (b c : Address) → Points after.blocks b c → Points s.blocks b c ⊎ Member c block.pointers
  points_before b c p = go (is_same b a) refl
    where
      go : (d : Bool) → is_same b a ≡ d → Points s.blocks b c ⊎ Member c block.pointers
      go true e = inr (subst (λ z. Member c z) its_pointers (subst (λ z. Points after.blocks z c) (same_from b a e) p))
      go false e = inl (subst (λ f. Member c (pointers_of f)) (other b e) p)

  points_after : (b c : Address) → Points s.blocks b c → Points after.blocks b c
  points_after b c p = go (is_same b a) refl
    where
      here : (found : Option StoredBlock) → block_at s a ≡ found → Member c (pointers_of found) → Member c (pointers_of (block_at after a))
      here None e q = elim q [ ]
      here (Some stored) e q = subst (λ z. Member c z) (m.same stored e ∙ sym its_pointers) q

      go : (d : Bool) → is_same b a ≡ d → Points after.blocks b c
      go true e = subst (λ z. Points after.blocks z c) (sym (same_from b a e)) (here (block_at s a) refl (subst (λ z. Points s.blocks z c) (same_from b a e) p))
      go false e = subst (λ f. Member c (pointers_of f)) (sym (other b e)) p

  -- ---- what is anchored afterwards was, or is the written address

  abbrev WasAnchored : Address → Type 0
  WasAnchored b = Reaches s.blocks (anchors s (least_epoch s)) b ⊎ (b ≡ a)

  anchors_before : (b : Address) → Member b (anchors after (least_epoch s)) → WasAnchored b
  anchors_before b n = starts-each WasAnchored (counts_in (least_epoch s)) (λ e. nat_le (least_epoch s) (e.1 + 1)) s.roots after.given (λ root k t. inl (start (starts-root (counts_in (least_epoch s)) (λ e. nat_le (least_epoch s) (e.1 + 1)) s.roots s.given root k t))) (λ e k t. gift e t (insert-key s.given a now e k)) b n
    where
      gift : (e : Address × ℕ) → nat_le (least_epoch s) (e.1 + 1) ≡ true → ((e.0 ≡ a) × (e.1 ≡ now)) ⊎ Member e s.given → WasAnchored e.0
      gift e t (inl h) = inr h.0
      gift e t (inr h) = inl (start (starts-given (counts_in (least_epoch s)) (λ e. nat_le (least_epoch s) (e.1 + 1)) s.roots s.given e h t))

  anchored_step : (b c : Address) → WasAnchored b → Points after.blocks b c → WasAnchored c
  anchored_step b c w p = go w (points_before b c p)
    where
      own : Member c (pointers_of (block_at after a)) → Member c block.pointers
      own q = subst (λ z. Member c z) its_pointers q

      go : WasAnchored b → Points s.blocks b c ⊎ Member c block.pointers → WasAnchored c
      go x (inr q) = inl (m.pointers c q)
      go (inl r) (inl q) = inl (onward r q)
      go (inr e) (inl q) = inl (m.pointers c (own (subst (λ z. Points after.blocks z c) e p)))

  was_anchored : (b : Address) → Reaches after.blocks (anchors after (least_epoch s)) b → WasAnchored b
  was_anchored b r = Reached-each WasAnchored anchors_before (λ b c q w p. anchored_step b c w p) b r

  anchored_present : (b : Address) → WasAnchored b → is_some (block_at after b) ≡ true
  anchored_present b (inl r) = still_present b (v.anchored b r)
  anchored_present b (inr e) = subst (λ z. is_some (block_at after z) ≡ true) (sym e) it_is_there

  -- ---- what rests on something does still

  rests_after : (epoch : ℕ) (b : Address) → Member b (rests_on s epoch) → Member b (rests_on after epoch)
  rests_after epoch b n =
      starts-each (λ b. Member b (rests_on after epoch)) (λ root. nat_le epoch (stands_in s root)) (λ e. nat_le epoch e.1) s.roots s.given (λ root k t. starts-root (λ root. nat_le epoch (stands_in s root)) (λ e. nat_le epoch e.1) s.roots after.given root k t) (λ e k t. gift e k t (member-insert s.given a now e k)) b n
    where
      gift : (e : Address × ℕ) → Member e s.given → nat_le epoch e.1 ≡ true → Member e after.given ⊎ (e.0 ≡ a) → Member e.0 (rests_on after epoch)
      gift e k t (inl h) = starts-given (λ root. nat_le epoch (stands_in s root)) (λ e. nat_le epoch e.1) s.roots after.given e h t
      gift e k t (inr h) =
          let until : e.1 ≤ now = subst (λ z. e.1 ≤ epoch_at s z) h (v.given.now e k) in
          subst (λ z. Member z (rests_on after epoch)) (sym h) (starts-given (λ root. nat_le epoch (stands_in s root)) (λ e. nat_le epoch e.1) s.roots after.given (a, now) gift_here (nat_le-true epoch now (omega (arith, until, nat_le_from epoch e.1 t))))

  pub still_reached : (epoch : ℕ) (b : Address) → Reaches s.blocks (rests_on s epoch) b → Reaches after.blocks (rests_on after epoch) b
  still_reached epoch b r = Reached-each (λ b. Reaches after.blocks (rests_on after epoch) b) (λ b n. start (rests_after epoch b n)) (λ b c q i p. onward i (points_after b c p)) b r

  pub written_rests : Reaches after.blocks (rests_on after now) a
  written_rests = start (starts-given (λ root. nat_le now (stands_in s root)) (λ e. nat_le now e.1) s.roots after.given (a, now) gift_here (nat_le-true now now (le_refl now)))

  -- ---- gifts

  gift_present : (e : Address × ℕ) → ((e.0 ≡ a) × (e.1 ≡ now)) ⊎ Member e s.given → is_some (block_at after e.0) ≡ true
  gift_present e (inl h) = subst (λ z. is_some (block_at after z) ≡ true) (sym h.0) it_is_there
  gift_present e (inr h) = still_present e.0 (v.given.given_present e h)

  here_given : (b : Address) → b ≡ a → (epoch : ℕ) × Member (b, epoch) after.given
  here_given b e = (now, subst (λ z. Member (z, now) after.given) (sym e) gift_here)

  gift_of_old : (b : Address) (epoch : ℕ) → Member (b, epoch) after.given ⊎ (b ≡ a) → (epoch : ℕ) × Member (b, epoch) after.given
  gift_of_old b epoch (inl h) = (epoch, h)
  gift_of_old b epoch (inr h) = here_given b h

  present_gift : (e : Address × StoredBlock) → IsOld e → (epoch : ℕ) × Member (e.0, epoch) after.given
  present_gift e (inl h) = let g = v.given.present_given e h in gift_of_old e.0 g.0 (member-insert s.given a now (e.0, g.0) g.1)
  present_gift e (inr h) = here_given e.0 h.1

  born_before : (b : Address) (stored : StoredBlock) (epoch : ℕ) → IsOld (b, stored) → ((b ≡ a) × (epoch ≡ now)) ⊎ Member (b, epoch) s.given → stored.born ≤ epoch
  born_before b stored epoch (inl h) (inl k) =
      let g = v.given.present_given (b, stored) h in
      let until : g.0 ≤ now = subst (λ z. g.0 ≤ epoch_at s z) k.0 (v.given.now (b, g.0) g.1) in
      omega (arith, v.given.born b stored g.0 h g.1, until, k.1)
  born_before b stored epoch (inl h) (inr k) = v.given.born b stored epoch h k
  born_before b stored epoch (inr h) (inl k) = omega (arith, h.2, k.1)
  born_before b stored epoch (inr h) (inr k) =
      let there : is_some (block_at s a) ≡ true = subst (λ z. is_some (block_at s z) ≡ true) h.1 (v.given.given_present (b, epoch) k) in
      let none : is_some (block_at s a) ≡ false = rw h.0 in
      cc (there, none)

  gift_now : (e : Address × ℕ) → ((e.0 ≡ a) × (e.1 ≡ now)) ⊎ Member e s.given → e.1 ≤ epoch_at s e.0
  gift_now e (inl h) = subst (λ z. e.1 ≤ epoch_at s z) (sym h.0) (omega (arith, h.1))
  gift_now e (inr h) = v.given.now e h

  pub with_block_valid : Valid (with_block s a block)
  with_block_valid = record {
    epochs = record { some_shard = v.epochs.some_shard; swept_each = v.epochs.swept_each; not_ahead = v.epochs.not_ahead; not_behind = v.epochs.not_behind; swept_not_ahead = v.epochs.swept_not_ahead; swept_not_behind = v.epochs.swept_not_behind; swept_entered = v.epochs.swept_entered };
    anchored = λ b r. anchored_present b (was_anchored b r);
    held = λ held i l. still_reached held.epoch held.address (v.held held i l);
    given = record {
      given_present = λ e n. gift_present e (insert-key s.given a now e n);
      present_given = λ e n. present_gift e (old_or_new e n);
      born = λ b stored epoch n k. born_before b stored epoch (old_or_new (b, stored) n) (insert-key s.given a now (b, epoch) k);
      now = λ e n. gift_now e (insert-key s.given a now e n);
    };
  }
