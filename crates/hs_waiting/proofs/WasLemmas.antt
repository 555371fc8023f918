-- What stays of a block behind any entry.
use Rattle.std.proofs.Common.{◌≡◌, ◌≢◌, ◌⊎◌, inl, inr, ℕ, zero, suc, ◌+◌, ◌==◌, ◌&&◌, List, [], ◌∷◌, map, filter, length, Bool, true, false, cond, not, Option, Some, None, is_none, Result, Ok, Err, refl, sym, ap, ◌∙◌, subst}
use Rattle.std.specs.BTreeMap.{insert_entry, is_at}
use Rattle.std.specs.List.Sorted.{IsStrictlySortedBy}
use Rattle.std.specs.Map.{lookup, set_value, keys_of}
use Rattle.std.specs.Option.{option_map}
use Rattle.hs_limits.specs.declared.address.Address.{Address}
use Rattle.hs_limits.specs.declared.spelling.SpellingFault.{SpellingFault}
use Rattle.hs_limits.specs.Block.{Block}
use Rattle.hs_limits.specs.Reading.{read_block}
use Rattle.hs_limits.specs.Shape.{shard_of_key}
use Rattle.hs_model.specs.Reach.{is_same}
use Rattle.hs_model.specs.Store.{address_cmp}
use Rattle.hs_model.proofs.Members.{same_from, at_is_same, member_of_filter}
use Rattle.hs_laws.proofs.InsertLemmas.{lookup-insert_same, lookup-insert_other}
use Rattle.hs_laws.proofs.SweepLemmas.{member_from_found}
use Rattle.hs_entry.specs.declared.entry.Entry.{Entry}
use Rattle.hs_entry.specs.declared.entry.Entry.TheVariants as kind
use Rattle.hs_rounds.specs.declared.body.RoundBody.{RoundBody}
use Rattle.hs_rounds.specs.declared.place.Place.{Place}
use Rattle.hs_fold.specs.Catalogue.{Present, Shard, fresh_present}
use Rattle.hs_fold.specs.Shards.Catalogue.{is_stored, is_marked, is_rooted, retained_in}
use Rattle.hs_fold.specs.Runs.Catalogue.{apply}
use Rattle.hs_fold.specs.Runs.Clients.{new_facts, remark, store_block, give_block, marked, insert_root, new_root, keep_root, end_retention, drop_key}
use Rattle.hs_fold.specs.Runs.Facts.{Facts, Catalogue, plain, facts_at}
use Rattle.hs_fold.specs.Runs.Own.{IsOwn}
use Rattle.hs_fold.specs.Runs.Rounds.{count_block, enter_epoch, is_accepted, is_complete, is_last, moved_by, open_deltas, settled, find_zero, search, is_gone, spare, sweep, end_round, advance, advanced, log_got, get_round, may_enter}
use Rattle.hs_fold.specs.Runs.Rounds.{enter as enter_here}
use Rattle.hs_fold.proofs.Runs.OwnLemmas.{enter-own, end-own}
use Rattle.hs_fold.proofs.Runs.StepLemmas.{counted-present, zero-present, spared-present}
use Rattle.hs_joint.proofs.KeyLemmas.{found-entry}
use Rattle.hs_joint.proofs.SendLemmas.{ordered_keys}

-- what is found was there, with the same number and pointers
pub record WasThere (es : List (Address × Facts)) (a : Address) (f : Facts) : Type 0 where
  pub old : Facts
  pub found : lookup (is_at (address_cmp a)) es ≡ Some old
  pub number : old.present.number ≡ f.present.number
  pub stored : old.present.stored ≡ f.present.stored

was-itself : (es : List (Address × Facts)) (a : Address) (f : Facts) → lookup (is_at (address_cmp a)) es ≡ Some f → WasThere es a f
was-itself es a f e = record { old = f; found = e; number = refl; stored = refl }

-- facts changed block by block
was-mapped : (h : Address × Facts → Facts) → ((e : Address × Facts) → (h e).present ≡ e.1.present) → (es : List (Address × Facts)) (a : Address) (f : Facts) → lookup (is_at (address_cmp a)) (map {B = Address × Facts} (λ (e : Address × Facts). (e.0, h e)) es) ≡ Some f → WasThere es a f
was-mapped h same [] a f e = cc e
was-mapped h same (x ∷ es) a f e = go (is_at (address_cmp a) x.0) refl (was-mapped h same es a f) e
  where
    go : (t : Bool) → is_at (address_cmp a) x.0 ≡ t → (lookup (is_at (address_cmp a)) (map {B = Address × Facts} (λ (e : Address × Facts). (e.0, h e)) es) ≡ Some f → WasThere es a f) → cond t (Some (h x)) (lookup (is_at (address_cmp a)) (map {B = Address × Facts} (λ (e : Address × Facts). (e.0, h e)) es)) ≡ Some f → WasThere (x ∷ es) a f
    go true t ih e =
        let is : h x ≡ f = cc e in
        record { old = x.1; found = rw t refl; number = ap (λ (p : Present). p.number) (sym (same x)) ∙ ap (λ (y : Facts). y.present.number) is; stored = ap (λ (p : Present). p.stored) (sym (same x)) ∙ ap (λ (y : Facts). y.present.stored) is }
    go false t ih e = let w = ih e in record { old = w.old; found = rw t w.found; number = w.number; stored = w.stored }

was-set : (b : Address) (v : Facts) (es : List (Address × Facts)) (a : Address) (f : Facts) → lookup (is_at (address_cmp a)) (set_value (is_at (address_cmp b)) es v) ≡ Some f → ((a ≡ b) × (f ≡ v)) ⊎ (lookup (is_at (address_cmp a)) es ≡ Some f)
was-set b v [] a f e = inr e
was-set b v (x ∷ es) a f e = go (is_at (address_cmp b) x.0) refl (was-set b v es a f) e
  where
    one : (t : Bool) → is_at (address_cmp a) x.0 ≡ t → is_at (address_cmp b) x.0 ≡ true → cond t (Some v) (lookup (is_at (address_cmp a)) es) ≡ Some f → ((a ≡ b) × (f ≡ v)) ⊎ (lookup (is_at (address_cmp a)) (x ∷ es) ≡ Some f)
    one true t u e = inl (same_from a x.0 (sym (at_is_same a x.0) ∙ t) ∙ sym (same_from b x.0 (sym (at_is_same b x.0) ∙ u)), (let is : v ≡ f = cc e in sym is))
    one false t u e = inr (rw t e)

    two : (t : Bool) → is_at (address_cmp a) x.0 ≡ t → (lookup (is_at (address_cmp a)) (set_value (is_at (address_cmp b)) es v) ≡ Some f → ((a ≡ b) × (f ≡ v)) ⊎ (lookup (is_at (address_cmp a)) es ≡ Some f))
        → cond t (Some x.1) (lookup (is_at (address_cmp a)) (set_value (is_at (address_cmp b)) es v)) ≡ Some f → ((a ≡ b) × (f ≡ v)) ⊎ (lookup (is_at (address_cmp a)) (x ∷ es) ≡ Some f)
    two true t ih e = inr (rw t e)
    two false t ih e = elim (ih e) [ inl p ↦ inl p | inr q ↦ inr (rw t q) ]

    go : (u : Bool) → is_at (address_cmp b) x.0 ≡ u → (lookup (is_at (address_cmp a)) (set_value (is_at (address_cmp b)) es v) ≡ Some f → ((a ≡ b) × (f ≡ v)) ⊎ (lookup (is_at (address_cmp a)) es ≡ Some f))
        → lookup (is_at (address_cmp a)) (cond u ((x.0, v) ∷ es) (x ∷ set_value (is_at (address_cmp b)) es v)) ≡ Some f → ((a ≡ b) × (f ≡ v)) ⊎ (lookup (is_at (address_cmp a)) (x ∷ es) ≡ Some f)
    go true u ih e = one (is_at (address_cmp a) x.0) refl u e
    go false u ih e = two (is_at (address_cmp a) x.0) refl ih e

module _ (at : Shard) (c : Catalogue) (own : IsOwn at.shards at.shard c) (a : Address) (f : Facts) where
  abbrev Was : Catalogue → Type 0
  Was d = facts_at d a ≡ Some f → WasThere c.blocks a f

  ordered : IsStrictlySortedBy address_cmp (keys_of c.blocks)
  ordered = ordered_keys at.shards at.shard c own

  store-was : (number least : ℕ) (b : Address) (read : Result Block SpellingFault) → f.present.number ≢ number → Was (store_block at c number least b read)
  store-was number least b (Err fault) o e = was-itself c.blocks a f e
  store-was number least b (Ok block) o e = go (is_stored at (plain c) least b) e
    where
      new : Facts
      new = new_facts (fresh_present c.epoch number block)

      look : (t : Bool) → is_same a b ≡ t → lookup (is_at (address_cmp a)) (insert_entry address_cmp c.blocks b (new_facts (fresh_present c.epoch number block))) ≡ Some f → WasThere c.blocks a f
      look true t e =
          let is : a ≡ b = same_from a b t in
          let here : lookup (is_at (address_cmp a)) (insert_entry address_cmp c.blocks b (new_facts (fresh_present c.epoch number block))) ≡ Some (new_facts (fresh_present c.epoch number block)) = subst (λ x. lookup (is_at (address_cmp x)) (insert_entry address_cmp c.blocks b (new_facts (fresh_present c.epoch number block))) ≡ Some (new_facts (fresh_present c.epoch number block))) (sym is) (lookup-insert_same c.blocks b (new_facts (fresh_present c.epoch number block))) in
          let both : Some f ≡ Some (new_facts (fresh_present c.epoch number block)) = sym e ∙ here in
          let same : f ≡ new_facts (fresh_present c.epoch number block) = cc both in
          absurd (o (ap (λ (y : Facts). y.present.number) same))
      look false t e = was-itself c.blocks a f (sym (lookup-insert_other c.blocks b (new_facts (fresh_present c.epoch number block)) a t) ∙ e)

      go : (t : Bool) → Was (cond t (record c { blocks = insert_entry address_cmp c.blocks b (new_facts (fresh_present c.epoch number block)) }) c)
      go true e = look (is_same a b) refl e
      go false e = was-itself c.blocks a f e

  mark-was : (least number : ℕ) (b : Address) → Was (give_block c least number b)
  mark-was least number b = go (facts_at c b) refl (is_marked (plain c) least number (option_map (λ f. f.present) (facts_at c b)))
    where
      go : (found : Option Facts) → facts_at c b ≡ found → (t : Bool) → Was (cond t (record c { blocks = marked c.epoch found c.blocks b }) c)
      go found q false e = was-itself c.blocks a f e
      go None q true e = was-itself c.blocks a f e
      go (Some old) q true e = elim (was-set b (remark c.epoch old) c.blocks a f e) [
        | inl p ↦ record { old = old; found = subst (λ x. lookup (is_at (address_cmp x)) c.blocks ≡ Some old) (sym p.0) q; number = ap (λ (y : Facts). y.present.number) (sym p.1); stored = ap (λ (y : Facts). y.present.stored) (sym p.1) }
        | inr k ↦ was-itself c.blocks a f k
      ]

  root-was : (held : ℕ) (b : Address) (key : List ℕ) → Was (keep_root at c held b key)
  root-was held b key = go (is_rooted at (plain c) held b key && is_none (retained_in (plain c) key))
    where
      go : (t : Bool) → Was (cond t (record c { roots = insert_root (new_root c.epoch b key) c.roots }) c)
      go true e = was-itself c.blocks a f e
      go false e = was-itself c.blocks a f e

  drop-was : (key : List ℕ) → Was (drop_key at c key)
  drop-was key = go (shard_of_key at.shards key == at.shard)
    where
      go : (t : Bool) → Was (cond t (record c { roots = map (end_retention key c.epoch) c.roots }) c)
      go true e = was-itself c.blocks a f e
      go false e = was-itself c.blocks a f e

  -- the end of a round
  end-was : (n : ℕ) → Was (end_round n c)
  end-was n = go (is_last n c)
    where
      low : (x : Facts) → lookup (is_at (address_cmp a)) (settled n c).blocks ≡ Some x → WasThere c.blocks a x
      low x e = was-mapped (λ (y : Address × Facts). record y.1 { count = moved_by c.round y.0 (open_deltas n c) y.1.count }) (λ y. refl) c.blocks a x e

      chained : (x : Facts) → WasThere (settled n c).blocks a x → WasThere c.blocks a x
      chained x w = let v = low w.old w.found in record { old = v.old; found = v.found; number = v.number ∙ w.number; stored = v.stored ∙ w.stored }

      keys-same : (es : List (Address × Facts)) → keys_of (map {B = Address × Facts} (λ (y : Address × Facts). (y.0, record y.1 { count = moved_by c.round y.0 (open_deltas n c) y.1.count })) es) ≡ keys_of es
      keys-same [] = refl
      keys-same (y ∷ es) = ap (λ ks. y.0 ∷ ks) (keys-same es)

      sorted : IsStrictlySortedBy address_cmp (keys_of (settled n c).blocks)
      sorted = subst (λ ks. IsStrictlySortedBy address_cmp ks) (sym (keys-same c.blocks)) ordered

      swept : Was (sweep (settled n c))
      swept e =
          let w = was-mapped (λ (y : Address × Facts). spare y.1) (λ y. spared-present y.1) (filter (λ (y : Address × Facts). not (is_gone c.epoch y.1)) (settled n c).blocks) a f e in
          let k = member_from_found (filter (λ (y : Address × Facts). not (is_gone c.epoch y.1)) (settled n c).blocks) a w.old w.found in
          let there = found-entry (settled n c).blocks sorted (a, w.old) (member_of_filter (λ (y : Address × Facts). not (is_gone c.epoch y.1)) (a, w.old) (settled n c).blocks k).0 in
          let v = low w.old there in
          record { old = v.old; found = v.found; number = v.number ∙ w.number; stored = v.stored ∙ w.stored }

      searched : Was (search n (settled n c))
      searched e =
          let w = was-mapped (λ (y : Address × Facts). find_zero c.epoch y.1) (λ y. zero-present c.epoch y.1) (settled n c).blocks a f e in
          chained f w

      go : (t : Bool) → Was (cond t (sweep (settled n c)) (search n (settled n c)))
      go true e = swept e
      go false e = searched e

-- rounds one after another
advance-was : (at : Shard) (turns : ℕ) (c : Catalogue) → IsOwn at.shards at.shard c → (a : Address) (f : Facts) → facts_at (advance at.shards turns c) a ≡ Some f → WasThere c.blocks a f
advance-was at zero c own a f e = was-itself c.blocks a f e
advance-was at (suc turns) c own a f e = go (is_complete at.shards c) (λ q. advance-was at turns (end_round at.shards c) (end-own at at.shards c own) a f q) e
  where
    go : (b : Bool) → (facts_at (advance at.shards turns (end_round at.shards c)) a ≡ Some f → WasThere (end_round at.shards c).blocks a f) → facts_at (cond b (advance at.shards turns (end_round at.shards c)) c) a ≡ Some f → WasThere c.blocks a f
    go true ih q =
        let w = ih q in
        let v = end-was at c own a w.old at.shards w.found in
        record { old = v.old; found = v.found; number = v.number ∙ w.number; stored = v.stored ∙ w.stored }
    go false ih q = was-itself c.blocks a f q

module _ (at : Shard) (c : Catalogue) (own : IsOwn at.shards at.shard c) (a : Address) (f : Facts) where
  enter-was : (epoch : ℕ) → facts_at (enter_here at.shards epoch c) a ≡ Some f → WasThere c.blocks a f
  enter-was epoch = go (may_enter c epoch)
    where
      go : (t : Bool) → facts_at (cond t (advanced at.shards (enter_epoch at.shards c)) c) a ≡ Some f → WasThere c.blocks a f
      go true e =
          let w = advance-was at (length (enter_epoch at.shards c).got + 1) (enter_epoch at.shards c) (enter-own at c own at.shards) a f e in
          let v = was-mapped (λ (x : Address × Facts). count_block (c.epoch + 1) x.1) (λ x. counted-present (c.epoch + 1) x.1) c.blocks a w.old w.found in
          record { old = v.old; found = v.found; number = v.number ∙ w.number; stored = v.stored ∙ w.stored }
      go false e = was-itself c.blocks a f e

  got-was : (place : Place) (told : RoundBody) → facts_at (get_round at.shards place told c) a ≡ Some f → WasThere c.blocks a f
  got-was place told = go (is_accepted at.shards c place)
    where
      go : (t : Bool) → facts_at (cond t (advanced at.shards (log_got place told c)) c) a ≡ Some f → WasThere c.blocks a f
      go true e = advance-was at (length (log_got place told c).got + 1) (log_got place told c) (record { mine = own.mine; once = own.once }) a f e
      go false e = was-itself c.blocks a f e

  -- behind any entry but the Block of that number
  pub was-there : (number : ℕ) (entry : Entry) → f.present.number ≢ number → facts_at (apply at c (number, entry)) a ≡ Some f → WasThere c.blocks a f
  was-there number (kind.View view) o e = was-itself c.blocks a f e
  was-there number (kind.Block op least bytes) o e = store-was at c own a f number least (at.name bytes) (read_block bytes) o e
  was-there number (kind.Mark op least block b) o e = mark-was at c own a f least block b e
  was-there number (kind.Root op held b key) o e = root-was at c own a f held b key e
  was-there number (kind.Drop op key) o e = drop-was at c own a f key e
  was-there number (kind.Enter op epoch) o e = enter-was epoch e
  was-there number (kind.Got sender epoch round total deltas) o e = got-was (record { epoch = epoch; round = round; from = sender }) (record { total = total; deltas = deltas }) e
  was-there number (kind.Base view epoch swept round frames) o e = was-itself c.blocks a f e
  was-there number (kind.KeptBlock born mark flags count bytes) o e = was-itself c.blocks a f e
  was-there number (kind.KeptRoot created dropped counted address key) o e = was-itself c.blocks a f e
  was-there number (kind.KeptRound way other epoch round total deltas) o e = was-itself c.blocks a f e
