-- What an operation proposes rests on what is there.
use Rattle.std.proofs.Common.{◌≡◌, ◌∙◌, sym, ap, subst, inl, inr, ℕ, ◌+◌, ◌<◌, ◌≤◌, true, false, List, [], ◌∷◌, length, map, Option, Some, None, Ok, Result, refl, arith, nat_lt, slice_index, ◌-◌, unwrap_or}
use Rattle.std.proofs.Math.Nat.{mod-lt}
use Rattle.std.proofs.lemmas.Bool.{and_parts}
use Rattle.std.proofs.lemmas.Map.Made.{lookup-map_values}
use Rattle.std.specs.BTreeMap.{is_at}
use Rattle.std.specs.Option.{option_map, option_map_or, option_or}
use Rattle.std.specs.Prelude.{Contains, bytes_eq, is_some}
use Rattle.hs_answered.specs.Standing.{IsFolded, store_with}
use Rattle.hs_answered.proofs.ShownLemmas.{shown}
use Rattle.hs_core_words.specs.Looking.{catalogue_of, front_of, shape_of}
use Rattle.hs_core_words.specs.Seeing.{pointers_for, view_for}
use Rattle.hs_core_words.specs.State.{Core}
use Rattle.hs_effects.specs.Answered.{HoldAddresses}
use Rattle.hs_effects.specs.Logged.{HasBlock}
use Rattle.hs_effects.proofs.FoldLemmas.{memory_at}
use Rattle.hs_effects.proofs.FreeLemmas.{are_addressed, is_bounded}
use Rattle.hs_entry.specs.declared.entry.Entry.{Entry}
use Rattle.hs_entry.specs.declared.entry.Entry.TheVariants as kind
use Rattle.hs_fold.specs.Catalogue.{Present}
use Rattle.hs_fold.specs.Runs.Facts.{Catalogue as Folded, Facts as FoldedFacts, plain}
use Rattle.hs_fold.specs.Runs.Facts.{facts_at as fold_facts}
use Rattle.hs_fold.specs.Runs.Fits.{catalogue_at}
use Rattle.hs_fold.specs.Runs.Opened.{store_of}
use Rattle.hs_fold.specs.Shards.Catalogue.{present_at}
use Rattle.hs_fold.specs.Shards.Fits.{BlockRests, MarkRests}
use Rattle.hs_joint.proofs.HistoryLemmas.{shape_some}
use Rattle.hs_laws.specs.Valid.{AreEpochsInStep, IsValid}
use Rattle.hs_laws.specs.Valid.{least_epoch as lowest_epoch}
use Rattle.hs_laws.proofs.EpochLemmas.{nat_le_from}
use Rattle.hs_limits.specs.Block.{Block, spell}
use Rattle.hs_limits.specs.Reading.{read_block}
use Rattle.hs_limits.specs.Shape.{shard_of, shard_of_key}
use Rattle.hs_limits.specs.declared.address.Address.{Address}
use Rattle.hs_limits.specs.declared.spelling.SpellingFault.{SpellingFault}
use Rattle.hs_limits.proofs.ReadingLemmas.{read_again}
use Rattle.hs_memory.specs.Forget.{forget, known_of}
use Rattle.hs_model.specs.declared.op.Op.{Op}
use Rattle.hs_model.specs.declared.op.Op.TheVariants as op
use Rattle.hs_model.specs.Store.{Store, address_cmp}
use Rattle.hs_model.proofs.Members.{same_from}
use Rattle.hs_model.specs.Op.{named_key}
use Rattle.hs_ops.specs.Speaking.{asked_block, helds, judging_shard, least_epoch, wanted_address}
use Rattle.hs_standing.specs.Rests.{AreStored, IsResting}
use Rattle.hs_standing.proofs.AskLemmas.{IsSought, IsSoughtByWrite, are_same}
use Rattle.hs_standing.proofs.EnterLemmas.{delete_waits, lowest_here}
use Rattle.hs_standing.proofs.RestsHeldLemmas.{held_rests, pointer_rests}
use Rattle.hs_shard.specs.declared.facts.Facts.{Facts}
use Rattle.hs_shard.specs.Facts.{Catalogue, facts_at}
use Rattle.hs_tokens.specs.Seats.{found, held_at, seat_of}
use Rattle.hs_waiting.specs.Waits.{EnterWaits}

-- the shard that judges is one of the store's
judging_low : (shards : ℕ) → 0 < shards → (key : Option (List ℕ)) (a : Option Address) → unwrap_or (option_or (option_map (shard_of_key shards) key) (option_map (shard_of shards) a)) 0 < shards
judging_low shards some (Some key) a = mod-lt (slice_index key (length key - 1)) some
judging_low shards some None (Some a) = mod-lt (slice_index a.0 31) some
judging_low shards some None None = some

same_block : (read : Result Block SpellingFault) (a b : Block) → read ≡ Ok a → read ≡ Ok b → a ≡ b
same_block read a b e f = cc (sym e ∙ f)

same_number : (m n : ℕ) → Some m ≡ Some n → m ≡ n
same_number m n e = cc e

same_present : (p q : Present) → Some p ≡ Some q → p ≡ q
same_present p q e = cc e

same_pointers : (ps qs : List Address) → are_same ps qs ≡ true → ps ≡ qs
same_pointers [] [] e = refl
same_pointers [] (q ∷ qs) e = absurd (cc e)
same_pointers (p ∷ ps) [] e = absurd (cc e)
same_pointers (p ∷ ps) (q ∷ qs) e =
    let both = and_parts (bytes_eq p.0 q.0) (are_same ps qs) e in
    let head : p ≡ q = same_from p q both.0 in
    let tail : ps ≡ qs = same_pointers ps qs both.1 in
    λ i. head i ∷ tail i

-- what memory knows of a block, its fold knows
known : (x : Option FoldedFacts) (f : Facts) → option_map known_of x ≡ Some f → (y : FoldedFacts) × (x ≡ Some y) × (known_of y ≡ f)
known None f e = absurd (cc e)
known (Some y) f e = (y, refl, cc e)

module _ (name : List ℕ → Address) (cs : List Folded) (core : Core) (folded : IsFolded core cs) (valid : IsValid (store_with cs core.sessions)) (holds : HoldAddresses core.sessions) (stored : AreStored core cs) (shard line : ℕ) where
  abbrev s : Store
  s = store_of cs

  step : AreEpochsInStep s
  step = record {
    some_shard = valid.epochs.some_shard;
    swept_each = valid.epochs.swept_each;
    not_ahead = valid.epochs.not_ahead;
    not_behind = valid.epochs.not_behind;
    swept_not_ahead = valid.epochs.swept_not_ahead;
    swept_not_behind = valid.epochs.swept_not_behind;
    swept_entered = valid.epochs.swept_entered;
  }

  -- an operation is judged by a shard
  within : (o : Op) → shard ≡ judging_shard (shape_of core).shards core.sessions o → shard < length cs
  within o place =
      let l : judging_shard (shape_of core).shards core.sessions o < (shape_of core).shards =
      judging_low (shape_of core).shards (shape_some (shape_of core) folded.valid) (named_key o) (wanted_address core.sessions o) in
      let each = folded.shards in
      omega (arith, l, each, place)

  module _ (l : shard < length cs) where
    abbrev c : Folded
    c = catalogue_at cs shard

    mem : catalogue_of shard core ≡ forget (shape_of core) shard (catalogue_at cs shard)
    mem = memory_at name cs core shard (kind.View 0) folded (let each = folded.shards in omega (arith, l, each))

    lowest : lowest_epoch s ≤ (catalogue_at cs shard).epoch
    lowest = lowest_here cs shard l

    -- ---- a write

    module _ (session payload handles : List ℕ) (has : HasBlock core.sessions session payload handles) where
      block_rests : BlockRests s (plain (catalogue_at cs shard)) (least_epoch (helds core.sessions session handles)) (spell (asked_block core.sessions session payload handles))
      block_rests fresh block e pointer among =
          let asked : Block = asked_block core.sessions session payload handles in
          let reads : read_block (spell asked) ≡ Ok asked = read_again asked (is_bounded core.sessions session payload handles has) (are_addressed core.sessions session payload holds handles) in
          let same : block ≡ asked = same_block (read_block (spell asked)) block asked e reads in
          pointer_rests cs core.sessions valid session payload handles c.epoch has lowest (nat_le_from c.epoch (least_epoch (helds core.sessions session handles) + 1) fresh) pointer
          (subst (λ (b : Block). Contains b.pointers pointer) same among)

      block_is : IsResting cs shard (front_of shard core) (kind.Block line (least_epoch (helds core.sessions session handles)) (spell (asked_block core.sessions session payload handles)))
      block_is = record { of = l; ordinary = refl; names = tt; waits = block_rests }

      module _ (a : Address) (number : ℕ) (f : Facts) (at : facts_at a (catalogue_of shard core) ≡ Some f) (numbered : f.number ≡ number) (same : are_same (asked_block core.sessions session payload handles).pointers f.pointers ≡ true) where
        -- the block that is there
        there : (y : FoldedFacts) × (fold_facts (catalogue_at cs shard) a ≡ Some y) × (known_of y ≡ f)
        there = known (fold_facts c a) f (sym (lookup-map_values known_of (is_at (address_cmp a)) c.blocks) ∙ ap (λ (k : Catalogue). facts_at a k) (sym mem) ∙ at)

        early : number ≤ front_of shard core
        early =
            let t = there in
            let up = stored shard a t.0 t.1 in
            let is : t.0.present.number ≡ f.number = ap (λ (k : Facts). k.number) t.2 in
            omega (arith, up, is, numbered)

        mark_rests : MarkRests s (plain (catalogue_at cs shard)) (least_epoch (helds core.sessions session handles)) number a
        mark_rests fresh kept found_at numbered_so pointer among =
            let t = there in
            let present : present_at (plain c) a ≡ Some t.0.present = lookup-map_values (λ (y : FoldedFacts). y.present) (is_at (address_cmp a)) c.blocks ∙ ap (λ (x : Option FoldedFacts). option_map (λ (y : FoldedFacts). y.present) x) t.1 in
            let is : kept ≡ t.0.present = same_present kept t.0.present (sym found_at ∙ present) in
            let pointers : kept.stored.pointers ≡ (asked_block core.sessions session payload handles).pointers =
            ap (λ (p : Present). p.stored.pointers) is ∙ ap (λ (k : Facts). k.pointers) t.2 ∙ sym (same_pointers (asked_block core.sessions session payload handles).pointers f.pointers same) in
            pointer_rests cs core.sessions valid session payload handles c.epoch has lowest (nat_le_from c.epoch (least_epoch (helds core.sessions session handles) + 1) fresh) pointer
            (subst (λ ps. Contains ps pointer) pointers among)

        mark_is : IsResting cs shard (front_of shard core) (kind.Mark line (least_epoch (helds core.sessions session handles)) number a)
        mark_is = record { of = l; ordinary = refl; names = early; waits = mark_rests }

    -- ---- a root

    root_is : (session key : List ℕ) (handle : ℕ) → is_some (held_at (seat_of session core.sessions) handle) ≡ true
        → IsResting cs shard (front_of shard core) (kind.Root line (found core.sessions session handle).epoch (found core.sessions session handle).address key)
    root_is session key handle some = record {
      of = l;
      ordinary = refl;
      names = tt;
      waits = λ fresh. (
          let up = nat_le_from c.epoch ((found core.sessions session handle).epoch + 1) fresh in
          let low = lowest in
          held_rests cs core.sessions valid session handle (found core.sessions session handle).epoch some (omega arith) (omega (arith, low, up))
          );
    }

  -- ---- what an operation asks for

  seen_mark : (session payload handles : List ℕ) (a : Address) (number : ℕ) → shard < length cs → HasBlock core.sessions session payload handles → (x : Option Facts) → facts_at a (catalogue_of shard core) ≡ x
      → option_map (λ (f : Facts). f.number) x ≡ Some number → are_same (asked_block core.sessions session payload handles).pointers (option_map_or (λ (f : Facts). f.pointers) x []) ≡ true
      → IsResting cs shard (front_of shard core) (kind.Mark line (least_epoch (helds core.sessions session handles)) number a)
  seen_mark session payload handles a number l has None at present same = absurd (cc present)
  seen_mark session payload handles a number l has (Some f) at present same = mark_is l session payload handles has a number f at (same_number f.number number present) same

  by_write : (busy : Option ℕ) (session payload handles : List ℕ) (address : Option Address) → shard < length cs → (entry : Entry) → HasBlock core.sessions session payload handles
      → IsSoughtByWrite (record (view_for shard (op.Write session payload handles address) core) { busy = busy }) (pointers_for shard (op.Write session payload handles address) core) line (op.Write session payload handles address) entry
      → IsResting cs shard (front_of shard core) entry
  by_write busy session payload handles address l entry has (inl is) = subst (λ x. IsResting cs shard (front_of shard core) x) (sym is) (block_is l session payload handles has)
  by_write busy session payload handles None l entry has (inr m) = absurd (cc m.2)
  by_write busy session payload handles (Some a) l entry has (inr m) =
      subst (λ x. IsResting cs shard (front_of shard core) x) (sym m.1) (seen_mark session payload handles a m.0 l has (facts_at a (catalogue_of shard core)) refl m.2 m.3)

  by_delete : shard ≡ 0 → shard < length cs → nat_lt (slice_index (map (λ (c : Catalogue). c.swept) core.catalogues) 0) (slice_index (map (λ (c : Catalogue). c.epoch) core.catalogues) 0) ≡ false
      → IsResting cs shard (front_of shard core) (kind.Enter line (slice_index (map (λ (c : Catalogue). c.epoch) core.catalogues) 0 + 1))
  by_delete first l idle = record {
    of = l;
    ordinary = refl;
    names = tt;
    waits =
        subst (λ k. EnterWaits cs k (slice_index (map (λ (c : Catalogue). c.epoch) core.catalogues) 0 + 1)) (sym first)
        (subst (λ es. EnterWaits cs 0 (slice_index es 0 + 1)) (sym epochs)
        (delete_waits cs (let low = l in omega (arith, low)) step
        (subst (λ es. nat_lt (slice_index s.swept 0) (slice_index es 0) ≡ false) epochs
        (subst (λ ws. nat_lt (slice_index ws 0) (slice_index (map (λ (c : Catalogue). c.epoch) core.catalogues) 0) ≡ false) swept idle))));
  }
    where
      epochs : map (λ (c : Catalogue). c.epoch) core.catalogues ≡ s.epochs
      epochs = (shown cs core op.Delete folded tt).epochs

      swept : map (λ (c : Catalogue). c.swept) core.catalogues ≡ s.swept
      swept = (shown cs core op.Delete folded tt).swept

  pub sought_rests : (busy : Option ℕ) (o : Op) → shard ≡ judging_shard (shape_of core).shards core.sessions o → (entry : Entry)
      → IsSought (record (view_for shard o core) { busy = busy }) (pointers_for shard o core) line o entry → IsResting cs shard (front_of shard core) entry
  sought_rests busy (op.Write session payload handles address) place entry is = by_write busy session payload handles address (within (op.Write session payload handles address) place) entry is.0 is.1
  sought_rests busy (op.Root session key handle) place entry is =
      subst (λ x. IsResting cs shard (front_of shard core) x) (sym is.0) (root_is (within (op.Root session key handle) place) session key handle is.1)
  sought_rests busy (op.Drop key) place entry is =
      subst (λ x. IsResting cs shard (front_of shard core) x) (sym is) (record { of = within (op.Drop key) place; ordinary = refl; names = tt; waits = tt })
  sought_rests busy op.Delete place entry is = subst (λ x. IsResting cs shard (front_of shard core) x) (sym is.0) (by_delete place (within op.Delete place) is.1)
  sought_rests busy (op.Open session) place entry is = absurd is
  sought_rests busy (op.Close session) place entry is = absurd is
  sought_rests busy (op.Read session handle) place entry is = absurd is
  sought_rests busy (op.Look session key) place entry is = absurd is
  sought_rests busy (op.Forget session handle) place entry is = absurd is
  sought_rests busy (op.Name session handle) place entry is = absurd is
  sought_rests busy op.Stat place entry is = absurd is
