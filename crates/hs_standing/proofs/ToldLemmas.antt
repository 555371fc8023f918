-- A Mark that is proposed by the bytes of its block is of the block that its line writes, and so is one that gives its block.
use Rattle.std.proofs.Common.{◌≡◌, ◌∙◌, sym, ap, subst, ℕ, ◌+◌, ◌<◌, ◌==◌, ◌&&◌, Bool, true, false, not, map, List, [], ◌∷◌, ◌++◌, length, Option, Some, None, Ok, refl, bytes_eq, is_none, slice_get, slice_index, unwrap_or}
use Rattle.std.proofs.Math.Nat.{mod-lt}
use Rattle.std.proofs.lemmas.Bool.{eqb-true}
use Rattle.std.proofs.lemmas.Map.Made.{lookup-map_values}
use Rattle.std.proofs.lemmas.Slice.Eq.{bytes_eq-Decides, slice_eq-Decides}
use Rattle.std.specs.BTreeMap.{is_at}
use Rattle.std.specs.Bool.{Decides}
use Rattle.std.specs.Cmp.Lexicographic.{pointwise}
use Rattle.std.specs.Option.{option_map, option_map_or}
use Rattle.hs_answered.proofs.ShownLemmas.{held_is}
use Rattle.hs_answered.specs.Asked.{HasBytes}
use Rattle.hs_answered.specs.Standing.{IsFolded, store_with}
use Rattle.hs_awaiting.specs.declared.wait.Wait.{Wait}
use Rattle.hs_awaiting.specs.declared.wait.Wait.TheVariants as wait
use Rattle.hs_awaiting.specs.declared.waiting.Waiting.{Waiting}
use Rattle.hs_core_words.specs.Looking.{catalogue_of, front_of, group_of, operation_of, shape_of}
use Rattle.hs_core_words.specs.Operating.{go_on_with}
use Rattle.hs_core_words.specs.Seeing.{pointers_for, view_for}
use Rattle.hs_core_words.specs.State.{Core}
use Rattle.hs_desk.specs.declared.what.What.TheVariants as what
use Rattle.hs_effects.specs.Answered.{IsWritten}
use Rattle.hs_effects.specs.Logged.{HasAsked, HasBlock, IsOrderly}
use Rattle.hs_effects.specs.Taking.{done_by}
use Rattle.hs_effects.proofs.FoldLemmas.{memory_at}
use Rattle.hs_effects.proofs.FreeLemmas.{are_addressed, is_bounded}
use Rattle.hs_effects.proofs.GoingLemmas.{IsIdle, idle_free}
use Rattle.hs_effects.proofs.GroupLemmas.{committed_first}
use Rattle.hs_effects.proofs.MarkLemmas.{IsMarked, marked_tests}
use Rattle.hs_effects.proofs.OrderlyLemmas.{some_is}
use Rattle.hs_effects.proofs.StepLemmas.{has_block}
use Rattle.hs_entry.specs.declared.entry.Entry.TheVariants as kind
use Rattle.hs_fold.proofs.Runs.DeedLemmas.{count-plain, length-plain, mine-plain, plain-place}
use Rattle.hs_fold.proofs.Shards.PlaceLemmas.{at-place, on-place}
use Rattle.hs_fold.proofs.Shards.StoreLemmas.{all_shards, block-is}
use Rattle.hs_fold.specs.Catalogue.{Present}
use Rattle.hs_fold.specs.Runs.Facts.{Catalogue as Folded, Facts as FoldedFacts}
use Rattle.hs_fold.specs.Runs.Facts.{empty_catalogue, facts_at, plain}
use Rattle.hs_fold.specs.Runs.Fits.{catalogue_at}
use Rattle.hs_fold.specs.Runs.Opened.{store_of}
use Rattle.hs_fold.specs.Runs.Own.{AreOwn}
use Rattle.hs_fold.specs.Shards.Catalogue.{Catalogue as Plain}
use Rattle.hs_fold.specs.Shards.Mine.{AreMine}
use Rattle.hs_fold.specs.Shards.Opened.{store_of as listed}
use Rattle.hs_standing.specs.Held.{AreAddressed, AreItsBytes, AreWritten, IsOfWrite}
use Rattle.hs_standing.proofs.AnswerLemmas.{HasCompared, bytes_mark, mark_line, reported_number}
use Rattle.hs_standing.proofs.HandleLemmas.{hold_addresses}
use Rattle.hs_standing.proofs.WrittenLemmas.{MarksWell, going_written}
use Rattle.hs_joint.proofs.HistoryLemmas.{shape_some}
use Rattle.hs_limits.proofs.FieldLemmas.{ok_is}
use Rattle.hs_limits.proofs.ReadingLemmas.{read_again}
use Rattle.hs_limits.specs.Block.{Block, spell}
use Rattle.hs_limits.specs.Reading.{read_block}
use Rattle.hs_limits.specs.Shape.{shard_of}
use Rattle.hs_limits.specs.declared.address.Address.{Address}
use Rattle.hs_limits.specs.declared.address.Held.{Held}
use Rattle.hs_limits.specs.declared.spelling.SpellingFault.{SpellingFault}
use Rattle.hs_memory.specs.Forget.{known_of}
use Rattle.hs_model.specs.declared.op.Op.{Op}
use Rattle.hs_model.specs.declared.op.Op.TheVariants as op
use Rattle.hs_model.specs.declared.store.StoredBlock.{StoredBlock}
use Rattle.hs_model.specs.Judge.{address_of, nothing, written}
use Rattle.hs_model.specs.Refusals.{is_block}
use Rattle.hs_model.specs.Store.{Store, address_cmp, block_at, block_of}
use Rattle.hs_ops.specs.declared.step.OpStep.TheVariants as step
use Rattle.hs_ops.specs.Going.{is_same_block, on_bytes}
use Rattle.hs_ops.specs.Operations.{bytes_step, wanted_number}
use Rattle.hs_ops.specs.Refusals.{refusal_of}
use Rattle.hs_ops.specs.Speaking.{asked_block, judging_shard}
use Rattle.hs_ops.specs.Views.{OpView}
use Rattle.hs_replica.specs.Group.{committed}
use Rattle.hs_shard.specs.declared.facts.Facts.{Facts}
use Rattle.hs_shard.specs.Facts.{Catalogue}
use Rattle.hs_shard.specs.Facts.{facts_at as known_at}
use Rattle.hs_shown.specs.Showing.{as_sessions}
use Rattle.hs_tokens.specs.Seats.{Seats, found}

-- ---- the block of the store is its shard's

mapped_twice : (x : Option FoldedFacts) → option_map (λ (kept : Present). kept.stored) (option_map (λ (f : FoldedFacts). f.present) x) ≡ option_map (λ (f : FoldedFacts). f.present.stored) x
mapped_twice None = refl
mapped_twice (Some f) = refl

pub block_there : (n : ℕ) (cs : List Folded) → length cs ≡ n → AreOwn n 0 cs → (shard : ℕ) → shard < n → (a : Address) → shard_of n a ≡ shard
    → block_at (store_of cs) a ≡ option_map (λ (f : FoldedFacts). f.present.stored) (facts_at (catalogue_at cs shard) a)
block_there n cs all own shard low a here =
    on-place (λ ds k. AreOwn n 0 ds → shard_of n a ≡ k → block_at (store_of ds) a ≡ option_map (λ (f : FoldedFacts). f.present.stored) (facts_at (catalogue_at ds k) a)) n go cs shard all low own here
  where
    go : (front back : List Folded) (c : Folded) → length front + (1 + length back) ≡ n → AreOwn n 0 (front ++ c ∷ back) → shard_of n a ≡ length front
        → block_at (store_of (front ++ c ∷ back)) a ≡ option_map (λ (f : FoldedFacts). f.present.stored) (facts_at (catalogue_at (front ++ c ∷ back) (length front)) a)
    go front back c count h here =
        let fs : List Plain = map plain front in
        let bs : List Plain = map plain back in
        let every : all_shards fs bs ≡ n = count-plain n front back count in
        let place : length fs ≡ length front = length-plain front in
        let mine : AreMine (all_shards fs bs) 0 (fs ++ plain c ∷ bs) = subst (λ m. AreMine m 0 (fs ++ plain c ∷ bs)) (sym every) (mine-plain n front back c h) in
        let same : map plain (front ++ c ∷ back) ≡ fs ++ plain c ∷ bs = plain-place front back c in
        ap (λ ps. block_at (listed ps) a) same
        ∙ block-is fs bs (plain c) mine a (ap (λ k. shard_of k a) every ∙ here ∙ sym place)
        ∙ ap (λ x. option_map (λ (kept : Present). kept.stored) x) (lookup-map_values (λ (f : FoldedFacts). f.present) (is_at (address_cmp a)) c.blocks)
        ∙ mapped_twice (facts_at c a)
        ∙ ap (λ (x : Folded). option_map (λ (f : FoldedFacts). f.present.stored) (facts_at x a)) (sym (at-place empty_catalogue front back c))

-- ---- blocks that are the same

both_true : (a b : Bool) → (a && b) ≡ true → (a ≡ true) × (b ≡ true)
both_true true b e = (refl, e)
both_true false b e = absurd (cc e)

-- a write's block as it is asked for is the store's
asked_same : (s : Store) (seats : Seats) (session payload handles : List ℕ) → s.sessions ≡ as_sessions seats → asked_block seats session payload handles ≡ written s session payload handles
unfolding asked_block
asked_same s seats session payload handles e = ap (λ (ps : List Address). record { pointers = ps; bytes = payload }) (each handles)
  where
    one : (handle : ℕ) → (found seats session handle).address ≡ address_of s session handle
    one handle = ap (λ (held : Option Held). (unwrap_or held nothing).address) (sym (held_is s seats e session handle))

    each : (hs : List ℕ) → map (λ held. held.address) (map (λ handle. found seats session handle) hs) ≡ map (λ handle. address_of s session handle) hs
    each [] = refl
    each (h ∷ hs) = ap (λ (a : Address). a ∷ map (λ held. held.address) (map (λ handle. found seats session handle) hs)) (one h) ∙ ap (λ (rest : List Address). address_of s session h ∷ rest) (each hs)

-- a stored block is its own
pointers_decide : (ps qs : List Address) → Decides (pointwise (λ p q. bytes_eq p.0 q.0) ps qs) (ps ≡ qs)
pointers_decide ps qs = slice_eq-Decides (λ p q. ((λ h i. record { 0 = (bytes_eq-Decides p.0 q.0).0 h i }), (λ e. (bytes_eq-Decides p.0 q.0).1 (ap (λ z. z.0) e)))) ps qs (pointwise (λ p q. bytes_eq p.0 q.0) ps qs) refl

own_block_is : (stored : StoredBlock) → is_block stored (block_of stored) ≡ true
own_block_is stored = ap (λ b. b && bytes_eq stored.bytes stored.bytes) ((pointers_decide stored.pointers stored.pointers).1 refl) ∙ (bytes_eq-Decides stored.bytes stored.bytes).1 refl

-- where bytes are the spelling of a write's block
same_spelling : (block other : Block) (pointers : List Address) → is_same_block block (Some (spell other)) pointers ≡ true → spell block ≡ spell other
unfolding is_same_block
same_spelling block other pointers e = (bytes_eq-Decides (spell block) (spell other)).0 (both_true (bytes_eq (spell block) (spell other)) (pointwise (λ p q. bytes_eq p.0 q.0) block.pointers pointers) e).0

-- ---- a write that is told its block's bytes

module _ (name : List ℕ → Address) (cs : List Folded) (c : Core) (folded : IsFolded c cs) (order : IsOrderly name c) (addressed : AreAddressed c) where
  -- the shard that judges a write is its address's
  write_shard : (line : ℕ) (w : Waiting) (session payload handles : List ℕ) (a : Address) → operation_of line c ≡ Some w → w.operation.op ≡ op.Write session payload handles (Some a) → shard_of (shape_of c).shards a ≡ w.shard
  write_shard line w session payload handles a at is = sym ((order.pending line w at).judges ∙ ap (λ (o : Op). judging_shard (shape_of c).shards c.sessions o) is)

  write_low : (a : Address) → shard_of (shape_of c).shards a < (shape_of c).shards
  write_low a = mod-lt (slice_index a.0 31) (shape_some (shape_of c) folded.valid)

  -- the block that it looks at
  write_block : (line : ℕ) (w : Waiting) (session payload handles : List ℕ) (a : Address) → operation_of line c ≡ Some w → w.operation.op ≡ op.Write session payload handles (Some a)
      → block_at (store_with cs c.sessions) a ≡ option_map (λ (f : FoldedFacts). f.present.stored) (facts_at (catalogue_at cs w.shard) a)
  write_block line w session payload handles a at is =
      let place : shard_of (shape_of c).shards a ≡ w.shard = write_shard line w session payload handles a at is in
      block_there (shape_of c).shards cs folded.shards folded.own w.shard (subst (λ k. k < (shape_of c).shards) place (write_low a)) a place

  -- bytes that compared as a write's block, and are those of the block that is there
  compared_is : (v : OpView) (session payload handles : List ℕ) (address : Option Address) (bytes : Option (List ℕ)) (pointers : List Address) (stored : StoredBlock) → v.seats ≡ c.sessions
      → refusal_of v (op.Write session payload handles address) ≡ None → HasBytes (Some stored) bytes → is_same_block (asked_block v.seats session payload handles) bytes pointers ≡ true
      → block_of stored ≡ asked_block c.sessions session payload handles
  compared_is v session payload handles address bytes pointers stored seats free its same =
      let told : is_same_block (asked_block c.sessions session payload handles) (Some (spell (block_of stored))) pointers ≡ true =
      ap (λ (x : Option (List ℕ)). is_same_block (asked_block c.sessions session payload handles) x pointers) (sym its.0)
      ∙ ap (λ (x : Seats). is_same_block (asked_block x session payload handles) bytes pointers) (sym seats) ∙ same in
      let spelled : spell (asked_block c.sessions session payload handles) ≡ spell (block_of stored) = same_spelling (asked_block c.sessions session payload handles) (block_of stored) pointers told in
      let has : HasBlock c.sessions session payload handles = subst (λ (x : Seats). HasBlock x session payload handles) seats (has_block v session payload handles address free) in
      let reads : read_block (spell (asked_block c.sessions session payload handles)) ≡ Ok (asked_block c.sessions session payload handles) =
      read_again (asked_block c.sessions session payload handles) (is_bounded c.sessions session payload handles has) (are_addressed c.sessions session payload (hold_addresses c.sessions addressed.sessions) handles) in
      ok_is {E = SpellingFault} (block_of stored) (asked_block c.sessions session payload handles) (sym its.1 ∙ ap (λ (bs : List ℕ). read_block bs) (sym spelled) ∙ reads)

  -- a Mark that it proposes is of its block
  told_well : (line : ℕ) (w : Waiting) (bytes : Option (List ℕ)) (pointers : List Address) → operation_of line c ≡ Some w → AreItsBytes cs c bytes w
      → MarksWell c cs line w (bytes_step (view_for w.shard w.operation.op c) bytes pointers w.operation)
  told_well line w bytes pointers at true_bytes k least number m e = (of_line, of_write)
    where
      compared : (session payload handles : List ℕ) (address : Option Address) → w.operation.op ≡ op.Write session payload handles address
          → HasCompared (view_for w.shard w.operation.op c) w.operation.line (wanted_number w.operation.stage) bytes pointers session payload handles address k number m
      compared session payload handles address is =
          bytes_mark (view_for w.shard w.operation.op c) w.operation.line (wanted_number w.operation.stage) bytes pointers session payload handles address k least number m
          (subst (λ (o : Op). on_bytes (view_for w.shard w.operation.op c) w.operation.line (record { number = wanted_number w.operation.stage; bytes = bytes; pointers = pointers }) o ≡ step.Propose (kind.Mark k least number m)) is e)

      of_line : k ≡ line
      of_line = mark_line (view_for w.shard w.operation.op c) w.operation.line (wanted_number w.operation.stage) bytes pointers w.operation.op k least number m e ∙ (order.pending line w at).of_line

      of_write : IsOfWrite c.sessions w.operation.op (catalogue_at cs w.shard) number m
      of_write session payload handles f is there numbered =
          let x = compared session payload handles (Some m) is in
          let present = reported_number (view_for w.shard w.operation.op c).present (wanted_number w.operation.stage) (not (is_none bytes)) x.reported in
          let stands : block_at (store_with cs c.sessions) m ≡ Some f.present.stored =
          write_block line w session payload handles m at is ∙ ap (λ (y : Option FoldedFacts). option_map (λ (g : FoldedFacts). g.present.stored) y) there in
          compared_is (view_for w.shard w.operation.op c) session payload handles (Some m) bytes pointers f.present.stored refl x.free
          (subst (λ (y : Option StoredBlock). HasBytes y bytes) stands (true_bytes session payload handles (Some m) is present)) x.same

pub written_told : (name : List ℕ → Address) (cs : List Folded) (c : Core) → IsFolded c cs → IsOrderly name c → AreAddressed c → AreWritten c cs
    → (line number : ℕ) (bytes : Option (List ℕ)) (w : Waiting) → operation_of line c ≡ Some w → w.wait ≡ wait.Bytes number → AreItsBytes cs c bytes w
    → AreWritten (go_on_with (λ v o. bytes_step v bytes (pointers_for w.shard w.operation.op c) o) line c) cs
written_told name cs c folded order addressed its line number bytes w at waits true_bytes =
    going_written (λ v o. bytes_step v bytes (pointers_for w.shard w.operation.op c) o) c cs line
    (idle_free name c line order (λ u e. subst (λ (x : Waiting). IsIdle x.wait) (some_is w u (sym at ∙ e)) (subst (λ (x : Wait). IsIdle x) (sym waits) tt))) order.alone
    (λ u e. subst (λ (x : Waiting). MarksWell c cs line x (bytes_step (view_for x.shard x.operation.op c) bytes (pointers_for w.shard w.operation.op c) x.operation)) (some_is w u (sym at ∙ e))
    (told_well name cs c folded order addressed line w bytes (pointers_for w.shard w.operation.op c) at true_bytes)) its

-- ---- a Mark that gives its block

known_number : (block : ℕ) (x : Option FoldedFacts) → option_map_or (λ (f : Facts). f.number == block) (option_map known_of x) false ≡ true → (f : FoldedFacts) × (x ≡ Some f) × (f.present.number ≡ block)
known_number block None e = absurd (cc e)
known_number block (Some f) e = (f, refl, eqb-true f.present.number block e)

pub is_written : (name : List ℕ → Address) (cs : List Folded) (core : Core) → IsFolded core cs → IsOrderly name core → AreWritten core cs
    → (shard number line least block : ℕ) (a : Address) → shard < (shape_of core).shards → committed (group_of shard core) ≡ Some (number, kind.Mark line least block a)
    → (done_by shard (kind.Mark line least block a) core).effect.what ≡ what.Marked → IsWritten cs core line a
is_written name cs core folded order its shard number line least block a low leads did w session payload handles stored at is there = by_known known
  where
    first : slice_get (group_of shard core).waiting 0 ≡ Some (kind.Mark line least block a)
    first = (committed_first (group_of shard core) number (kind.Mark line least block a) leads).first

    h : HasAsked name core shard (front_of shard core + 1 + 0) line (kind.Mark line least block a)
    h = order.asked shard 0 line (kind.Mark line least block a) first refl

    -- the write is of this shard
    place : shard_of (shape_of core).shards a ≡ shard
    place =
        sym ((order.pending line w at).judges ∙ ap (λ (o : Op). judging_shard (shape_of core).shards core.sessions o) is)
        ∙ ap (λ (x : Waiting). x.shard) (some_is w h.waiting (sym at ∙ h.at)) ∙ h.judges

    tests : IsMarked least block a (catalogue_of shard core)
    tests = marked_tests least block a (catalogue_of shard core) did

    known : (f : FoldedFacts) × (facts_at (catalogue_at cs shard) a ≡ Some f) × (f.present.number ≡ block)
    known = known_number block (facts_at (catalogue_at cs shard) a)
        (ap (λ x. option_map_or (λ (f : Facts). f.number == block) x false) (sym (lookup-map_values known_of (is_at (address_cmp a)) (catalogue_at cs shard).blocks))
        ∙ ap (λ (c : Catalogue). option_map_or (λ (f : Facts). f.number == block) (known_at a c) false) (sym (memory_at name cs core shard (kind.Mark line least block a) folded low)) ∙ tests.there)

    by_known : (f : FoldedFacts) × (facts_at (catalogue_at cs shard) a ≡ Some f) × (f.present.number ≡ block) → is_block stored (written (store_with cs core.sessions) session payload handles) ≡ true
    by_known k =
        let found : Some stored ≡ Some k.0.present.stored =
        sym there ∙ block_there (shape_of core).shards cs folded.shards folded.own shard low a place ∙ ap (λ (x : Option FoldedFacts). option_map (λ (f : FoldedFacts). f.present.stored) x) k.1 in
        let same : block_of stored ≡ asked_block core.sessions session payload handles =
        ap (λ (x : StoredBlock). block_of x) (some_is stored k.0.present.stored found) ∙ its shard 0 line least block a w first at session payload handles k.0 is k.1 k.2 in
        ap (λ (b : Block). is_block stored b) (sym (same ∙ asked_same (store_with cs core.sessions) core.sessions session payload handles refl)) ∙ own_block_is stored
