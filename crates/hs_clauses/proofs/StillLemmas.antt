-- What a handle stands for that may be used stays there behind any entry, stored by the same entry.
use Rattle.std.proofs.Common.{◌≡◌, ◌≢◌, ◌∙◌, sym, ap, subst, ◌⊎◌, inl, inr, ℕ, ◌+◌, ◌<◌, ◌≤◌, ◌&&◌, ◌==◌, Bool, true, false, cond, length, List, Option, Some, None, Ok, Err, Result, is_none, is_some, refl, arith, unwrap_or}
use Rattle.std.proofs.lemmas.Bool.{cases_eq}
use Rattle.std.proofs.lemmas.Map.Made.{lookup-map_values}
use Rattle.std.specs.BTreeMap.{insert_entry, is_at}
use Rattle.std.specs.Map.{lookup}
use Rattle.std.specs.Option.{option_map}
use Rattle.hs_answered.specs.Standing.{IsFolded, store_with}
use Rattle.hs_core_words.specs.Looking.{front_of, shape_of}
use Rattle.hs_core_words.specs.State.{Core}
use Rattle.hs_effects.proofs.FoldLemmas.{low_here, own_here, taken_folds}
use Rattle.hs_effects.specs.Lawful.{IsLawful, MayFollow}
use Rattle.hs_effects.specs.Taking.{IsNamed, folds_behind, next_deed, setting_of, taken}
use Rattle.hs_entry.specs.declared.entry.Entry.{Entry}
use Rattle.hs_entry.specs.declared.entry.Entry.TheVariants as kind
use Rattle.hs_fold.proofs.Shards.PlaceLemmas.{other-at, same-at}
use Rattle.hs_fold.specs.Catalogue.{Present, Shard, fresh_present}
use Rattle.hs_fold.specs.Runs.Catalogue.{apply}
use Rattle.hs_fold.specs.Runs.Clients.{new_facts, store_block}
use Rattle.hs_fold.specs.Runs.Facts.{Catalogue as Folded, Facts, empty_catalogue, facts_at, plain}
use Rattle.hs_fold.specs.Runs.Fits.{catalogue_at}
use Rattle.hs_fold.specs.Runs.History.{applied}
use Rattle.hs_fold.specs.Runs.Opened.{store_of}
use Rattle.hs_fold.specs.Runs.Own.{IsOwn}
use Rattle.hs_fold.specs.Shards.Catalogue.{has_room, is_fresh, is_stored, present_at}
use Rattle.hs_fold.specs.Shards.Fits.{Rests}
use Rattle.hs_fold.specs.Shards.Setting.{shard_in}
use Rattle.hs_standing.proofs.ToldLemmas.{block_there}
use Rattle.hs_joint.proofs.ListedLemmas.{epoch-at, epochs-length}
use Rattle.hs_laws.proofs.EpochLemmas.{least_epoch-at}
use Rattle.hs_laws.proofs.InsertLemmas.{lookup-insert_other}
use Rattle.hs_laws.proofs.PromiseLemmas.{anchored_from_held}
use Rattle.hs_laws.proofs.ValidLemmas.{valid_from_is}
use Rattle.hs_laws.specs.Valid.{IsValid, least_epoch, rests_on}
use Rattle.hs_limits.specs.Block.{Block}
use Rattle.hs_limits.specs.declared.address.Address.{Address}
use Rattle.hs_limits.specs.declared.address.Held.{Held}
use Rattle.hs_limits.specs.declared.spelling.SpellingFault.{SpellingFault}
use Rattle.hs_limits.specs.Epoch.{IsFresh}
use Rattle.hs_limits.specs.Reading.{read_block}
use Rattle.hs_limits.specs.Shape.{shard_of}
use Rattle.hs_model.proofs.Members.{same_from}
use Rattle.hs_model.proofs.ReachLemmas.{Reaches, reached_from_is}
use Rattle.hs_model.specs.declared.store.StoredBlock.{StoredBlock}
use Rattle.hs_model.specs.Reach.{is_same}
use Rattle.hs_model.specs.Store.{address_cmp, block_at}
use Rattle.hs_clauses.specs.Awaiting.{IsThere}
use Rattle.hs_standing.proofs.RestsHeldLemmas.{held_rests}
use Rattle.hs_standing.proofs.ValidLemmas.{valid_behind}
use Rattle.hs_tokens.specs.Seats.{Seats, found, held_at, nothing, seat_of}
use Rattle.hs_waiting.proofs.EpochLemmas.{epoch_rises}
use Rattle.hs_waiting.proofs.WasLemmas.{was-there}

some_is : {A : Type 0} (x y : A) → Some x ≡ Some y → x ≡ y
some_is x y e = cc e

-- ---- a block that is there is stored by no other entry

one_more : (n : ℕ) → n ≡ n + 1 → ⊥
one_more n e = omega (arith, e)

none_stored : (a b c d : Bool) → b ≡ false → ((a && b) && c) && d ≡ true → ⊥
none_stored true true c d none e = cc none
none_stored true false c d none e = cc e
none_stored false b c d none e = cc e

module _ (at : Shard) (c : Folded) (own : IsOwn at.shards at.shard c) (a : Address) (old f : Facts) (there : facts_at c a ≡ Some old) where
  -- the same facts
  same_facts : facts_at c a ≡ Some f → f.present.number ≡ old.present.number
  same_facts e = ap (λ (x : Facts). x.present.number) (some_is f old (sym e ∙ there))

  -- an entry whose number does not show
  by_other : (entry : Entry) → facts_at (apply at c (f.present.number + 1, entry)) a ≡ Some f → f.present.number ≡ old.present.number
  by_other entry e =
      let was = was-there at c own a f (f.present.number + 1) entry (one_more f.present.number) e in
      sym was.number ∙ ap (λ (x : Facts). x.present.number) (some_is was.old old (sym was.found ∙ there))

  stored_none : (block : Address) → a ≡ block → is_none (present_at (plain c) block) ≡ false
  stored_none block same =
      ap (λ (b : Address). is_none (present_at (plain c) b)) (sym same)
      ∙ ap (λ (x : Option Present). is_none x) (lookup-map_values (λ (g : Facts). g.present) (is_at (address_cmp a)) c.blocks ∙ ap (λ (x : Option Facts). option_map (λ (g : Facts). g.present) x) there)

  by_block : (number least : ℕ) (b : Address) (read : Result Block SpellingFault) → facts_at (store_block at c number least b read) a ≡ Some f → f.present.number ≡ old.present.number
  by_block number least b (Err fault) e = same_facts e
  by_block number least b (Ok block) e = by_test (is_stored at (plain c) least b) refl e
    where
      by_place : is_stored at (plain c) least b ≡ true → (t : Bool) → is_same a b ≡ t → lookup (is_at (address_cmp a)) (insert_entry address_cmp c.blocks b (new_facts (fresh_present c.epoch number block))) ≡ Some f → f.present.number ≡ old.present.number
      by_place stores true t g =
          absurd (none_stored (shard_of at.shards b == at.shard) (is_none (present_at (plain c) b)) (is_fresh (plain c) least) (has_room (plain c)) (stored_none b (same_from a b t)) stores)
      by_place stores false t g = same_facts (sym (lookup-insert_other c.blocks b (new_facts (fresh_present c.epoch number block)) a t) ∙ g)

      by_test : (s : Bool) → is_stored at (plain c) least b ≡ s → facts_at (cond s (record c { blocks = insert_entry address_cmp c.blocks b (new_facts (fresh_present c.epoch number block)) }) c) a ≡ Some f → f.present.number ≡ old.present.number
      by_test true s g = by_place s (is_same a b) refl g
      by_test false s g = same_facts g

  pub stays_numbered : (number : ℕ) (entry : Entry) → facts_at (apply at c (number, entry)) a ≡ Some f → f.present.number ≡ old.present.number
  stays_numbered number (kind.View view) e = by_other (kind.View view) e
  stays_numbered number (kind.Block line least bytes) e = by_block number least (at.name bytes) (read_block bytes) e
  stays_numbered number (kind.Mark line least block b) e = by_other (kind.Mark line least block b) e
  stays_numbered number (kind.Root line held b key) e = by_other (kind.Root line held b key) e
  stays_numbered number (kind.Drop line key) e = by_other (kind.Drop line key) e
  stays_numbered number (kind.Enter line epoch) e = by_other (kind.Enter line epoch) e
  stays_numbered number (kind.Got sender epoch round total deltas) e = by_other (kind.Got sender epoch round total deltas) e
  stays_numbered number (kind.Base view epoch swept round frames) e = by_other (kind.Base view epoch swept round frames) e
  stays_numbered number (kind.KeptBlock born mark flags count bytes) e = by_other (kind.KeptBlock born mark flags count bytes) e
  stays_numbered number (kind.KeptRoot created dropped counted address key) e = by_other (kind.KeptRoot created dropped counted address key) e
  stays_numbered number (kind.KeptRound way other epoch round total deltas) e = by_other (kind.KeptRound way other epoch round total deltas) e

-- ---- what a handle stands for that may be used is there

found_is : (seats : Seats) (session : List ℕ) (handle : ℕ) (held : Held) → held_at (seat_of session seats) handle ≡ Some held → found seats session handle ≡ held
found_is seats session handle held e = ap (λ (x : Option Held). unwrap_or x nothing) e

has_some : {A : Type 0} (o : Option A) → is_some o ≡ true → (x : A) × (o ≡ Some x)
has_some None e = absurd (cc e)
has_some (Some x) e = (x, refl)

mapped_some : (o : Option Facts) (stored : StoredBlock) → option_map (λ (f : Facts). f.present.stored) o ≡ Some stored → (f : Facts) × (o ≡ Some f)
mapped_some None stored e = absurd (cc e)
mapped_some (Some f) stored e = (f, refl)

module _ (c : Core) (cs : List Folded) (folded : IsFolded c cs) (seats : Seats) (valid : IsValid (store_with cs seats)) where
  pub fresh_there : (shard : ℕ) → shard < (shape_of c).shards → (session : List ℕ) (handle : ℕ) (held : Held) → held_at (seat_of session seats) handle ≡ Some held → shard_of (shape_of c).shards held.address ≡ shard
      → IsFresh held.epoch (catalogue_at cs shard).epoch → (f : Facts) × (facts_at (catalogue_at cs shard) held.address ≡ Some f)
  fresh_there shard low session handle held is place fresh = mapped_some (facts_at (catalogue_at cs shard) held.address) there.0 (sym block ∙ there.1)
    where
      -- the least epoch is no later than this shard's
      least : least_epoch (store_of cs) ≤ held.epoch + 1
      least =
          let long = epochs-length cs in
          let all = folded.shards in
          let here : shard < length cs = omega (arith, low, all) in
          let up = least_epoch-at (store_of cs) shard (omega (arith, here, long)) in
          let now = epoch-at cs shard here in
          omega (arith, up, now, fresh)

      stands : found seats session handle ≡ held
      stands = found_is seats session handle held is

      rests : Rests (store_of cs) held.epoch held.address
      rests =
          let when : (found seats session handle).epoch ≡ held.epoch = ap (λ (h : Held). h.epoch) stands in
          subst (λ (h : Held). Rests (store_of cs) held.epoch h.address) stands
          (held_rests cs seats valid session handle held.epoch (ap (λ (x : Option Held). is_some x) is) (omega (arith, when)) (omega (arith, least, when)))

      reached : Reaches (store_of cs).blocks (rests_on (store_of cs) held.epoch) held.address
      reached = reached_from_is (store_of cs) (rests_on (store_of cs) held.epoch) held.address rests

      present : is_some (block_at (store_of cs) held.address) ≡ true
      present = (valid_from_is (store_with cs seats) valid).anchored held.address (anchored_from_held (store_of cs) held.epoch (least_epoch (store_of cs)) held.address least reached)

      there : (stored : StoredBlock) × (block_at (store_of cs) held.address ≡ Some stored)
      there = has_some (block_at (store_of cs) held.address) present

      block : block_at (store_of cs) held.address ≡ option_map (λ (f : Facts). f.present.stored) (facts_at (catalogue_at cs shard) held.address)
      block = block_there (shape_of c).shards cs folded.shards folded.own shard low held.address place

-- ---- behind an entry

module _ (name : List ℕ → Address) (cs : List Folded) (c : Core) (its : IsLawful name c cs) (valid : IsValid (store_with cs c.sessions)) (shard : ℕ) (entry : Entry) (low : shard < (shape_of c).shards)
    (called : IsNamed name entry c) (may : MayFollow (setting_of name c) cs (next_deed shard entry c)) where
  abbrev next : Folded
  next = applied (setting_of name c) cs (next_deed shard entry c)

  abbrev behind : List Folded
  behind = folds_behind name cs shard entry c

  pub folded_then : IsFolded (taken shard entry c) (folds_behind name cs shard entry c)
  folded_then = taken_folds name cs c shard entry its.folded low called

  valid_then : IsValid (store_with (folds_behind name cs shard entry c) c.sessions)
  valid_then = valid_behind name cs c its valid shard entry may

  pub there_still : (g : ℕ) → g < (shape_of c).shards → (session : List ℕ) (handle : ℕ) (held : Held) → held_at (seat_of session c.sessions) handle ≡ Some held → shard_of (shape_of c).shards held.address ≡ g → (number : ℕ)
      → (IsFresh held.epoch (catalogue_at cs g).epoch → IsThere (catalogue_at cs g) held.address number) → IsFresh held.epoch (catalogue_at behind g).epoch → IsThere (catalogue_at behind g) held.address number
  there_still g here session handle held is place number was fresh = by (cases_eq g shard)
    where
      now_there : (f : Facts) × (facts_at (catalogue_at behind g) held.address ≡ Some f)
      now_there = fresh_there (taken shard entry c) behind folded_then c.sessions valid_then g here session handle held is place fresh

      by : (g ≡ shard) ⊎ (g ≢ shard) → IsThere (catalogue_at behind g) held.address number
      by (inl same) =
          let now : catalogue_at behind g ≡ next = ap (λ k. catalogue_at behind k) same ∙ same-at empty_catalogue cs shard next (low_here name cs c shard entry its.folded low) in
          let before : catalogue_at cs g ≡ catalogue_at cs shard = ap (λ k. catalogue_at cs k) same in
          let up = epoch_rises (shard_in (setting_of name c) shard) (catalogue_at cs shard) (front_of shard c + 1) entry in
          let now_epoch : (catalogue_at behind g).epoch ≡ next.epoch = ap (λ (d : Folded). d.epoch) now in
          let old_epoch : (catalogue_at cs g).epoch ≡ (catalogue_at cs shard).epoch = ap (λ (d : Folded). d.epoch) before in
          let old : IsThere (catalogue_at cs g) held.address number = was (omega (arith, fresh, up, now_epoch, old_epoch)) in
          record {
            facts = now_there.0;
            found = now_there.1;
            numbered =
                stays_numbered (shard_in (setting_of name c) shard) (catalogue_at cs shard) (own_here name cs c shard entry its.folded low) held.address old.facts now_there.0
                (subst (λ (d : Folded). facts_at d held.address ≡ Some old.facts) before old.found) (front_of shard c + 1) entry
                (subst (λ (d : Folded). facts_at d held.address ≡ Some now_there.0) now now_there.1)
                ∙ old.numbered;
          }
      by (inr apart) =
          let same : catalogue_at behind g ≡ catalogue_at cs g = other-at empty_catalogue cs shard g next apart in
          subst (λ (d : Folded). IsThere d held.address number) (sym same) (was (subst (λ (d : Folded). IsFresh held.epoch d.epoch) same fresh))
