-- A beginning of a copy's writing, one operation further.
use Rattle.std.proofs.Common.{◌≡◌, ◌∙◌, ◌⊎◌, inl, inr, ℕ, ◌+◌, ◌≤◌, false, List, [], ◌∷◌, ◌++◌, Option, Some, None, refl, sym, ap, subst, arith, append-nil, length, map, Contains}
use Rattle.std.proofs.lemmas.List.{length-map, map-append}
use Rattle.std.specs.List.{AllByRecursion}
use Rattle.hs_asking.proofs.HandLemmas.{all_append}
use Rattle.hs_asking.specs.Judged.{IsJudged}
use Rattle.hs_asking.specs.Shown.{Began, IfTold, Shown, store_now}
use Rattle.hs_asking.specs.Telling.{grants, is_written}
use Rattle.hs_copy.proofs.BlockLemmas.{addresses-at, blocks-more, different_last, names-more, next_block, rest_of, writes-rest}
use Rattle.hs_copy.proofs.HandsLemmas.{IsKnown}
use Rattle.hs_copy.proofs.HeardLemmas.{deletes-append, heard_more, ops-append}
use Rattle.hs_copy.proofs.JudgedLemmas.{delete_judged, write_judged}
use Rattle.hs_copy.proofs.NodeLemmas.{Entry, entries_below, known_all, stand_all, written-above}
use Rattle.hs_copy.specs.Calls.{CallFails}
use Rattle.hs_copy.specs.Hands.{Lessens, LessensBut, WritesSo, unwritten, wrote}
use Rattle.hs_copy.specs.Heard.{ops_of}
use Rattle.hs_copy.specs.Listing.{AreDifferent, name_of}
use Rattle.hs_copy.specs.Rounds.{AreBelowOf, DeleteStops, DeletesOrNot, HoldsNodes, HoldsSo, IsEnd, IsToldWhy, IsMine, Matches, PlacedFails, RoundStops, WritesAll, WritesPlaced, address_at, block_above, blocks_of, epoch_now, names_in, write_above, writes_of}
use Rattle.hs_copy.specs.Rounds.DeletesOrNot.{none, one}
use Rattle.hs_copy.specs.Rounds.PlacedFails.{failed, quiet}
use Rattle.hs_copy.specs.Writing.IsCopyRefusal.{Collides, ShardIsFull}
use Rattle.hs_copy.specs.Writing.{ComesNext, IsStale, IsWorkDone, deletes_in}
use Rattle.hs_copy.specs.declared.fault.PartFault.{PartFault}
use Rattle.hs_copy.specs.declared.fault.PartFault.TheVariants as part
use Rattle.hs_copy.specs.declared.order.Placed.{Placed}
use Rattle.hs_copy.specs.declared.write.Node.{Node}
use Rattle.hs_desk.specs.declared.fault.CoreFault.{CoreFault}
use Rattle.hs_limits.specs.Block.{Block, spell}
use Rattle.hs_limits.specs.declared.address.Address.{Address}
use Rattle.hs_limits.specs.declared.spelling.TheConstants.{MOST_POINTERS}
use Rattle.hs_model.proofs.Members.{contains_from_member, member_from_contains}
use Rattle.hs_model.specs.Judge.{written}
use Rattle.hs_model.specs.Store.{Store}
use Rattle.hs_model.specs.declared.op.Op.{Op}
use Rattle.hs_model.specs.declared.op.Op.TheVariants as op
use Rattle.hs_model.specs.declared.reply.Reply.{Reply}
use Rattle.hs_model.specs.declared.reply.Reply.TheVariants as reply
use Rattle.hs_tree.proofs.GrowLemmas.{writes-append, zip_append, zip_length}
use Rattle.hs_tree.specs.Calls.{Hears}
use Rattle.hs_tree.specs.Growing.{as_write, as_writes, writes_in}
use Rattle.hs_tree.specs.Storing.{our_session}
use Rattle.hs_tree.specs.Telling.{GivesWritten}

-- ---- blocks that are mine

-- what is present in some blocks' names is theirs, of fewer blocks
pub mine_less : (name : List ℕ → Address) (s t : Store) → Lessens s t → (blocks : List Block) → AllByRecursion (IsMine name s) blocks → AllByRecursion (IsMine name t) blocks
mine_less name s t less [] h = tt
mine_less name s t less (b ∷ bs) h = ((λ y p. h.0 y (less (name_of name b) y p)), mine_less name s t less bs h.1)

-- and but for an address that none of them has
mine_but : (name : List ℕ → Address) (s t : Store) (a : Address) → LessensBut s t a → (blocks : List Block) → (Contains (map (name_of name) blocks) a → ⊥) → AllByRecursion (IsMine name s) blocks → AllByRecursion (IsMine name t) blocks
mine_but name s t a less [] n h = tt
mine_but name s t a less (b ∷ bs) n h = (
  (λ y p. elim (less (name_of name b) y p) [
    | inl q ↦ h.0 y q
    | inr e ↦ absurd (n (contains_from_member a (map (name_of name) (b ∷ bs)) (inl (sym e))))
  ]),
  mine_but name s t a less bs (λ c. n (more a (name_of name b) (map (name_of name) bs) c)) h.1,
)
  where
    more : (x y : Address) (xs : List Address) → Contains xs x → Contains (y ∷ xs) x
    more x y xs c = contains_from_member x (y ∷ xs) (inr (member_from_contains x xs c))

-- ---- a write

gives_no_stale : (r : Reply) (handle : ℕ) → IsStale r → GivesWritten r handle → ⊥
gives_no_stale (reply.Stale h e n) handle s g = g
gives_no_stale other handle s g = absurd s

gives_no_collision : (r : Reply) (handle : ℕ) → r ≡ reply.Collision → GivesWritten r handle → ⊥
gives_no_collision r handle e g = subst (λ z. GivesWritten z handle) e g

gives_no_full : (r : Reply) (handle n : ℕ) → r ≡ reply.ShardFull n → GivesWritten r handle → ⊥
gives_no_full r handle n e g = subst (λ z. GivesWritten z handle) e g

gives_next : (r : Reply) (handle next epoch : ℕ) → (r ≡ reply.New next epoch) ⊎ (r ≡ reply.Dup next epoch) → GivesWritten r handle → handle ≡ next
gives_next r handle next epoch (inl e) g = subst (λ z. GivesWritten z handle) e g
gives_next r handle next epoch (inr e) g = subst (λ z. GivesWritten z handle) e g

module _ (name : List ℕ → Address) where
  block_is : (nodes : List Node) (front : List Placed) (q : Placed) (below : List Node) → map (λ (n : Node). n.address) nodes ≡ names_in name front → AreBelowOf nodes q below → block_above below q.bytes ≡ next_block name front q
  block_is nodes front q below names are =
      let e : map (λ (n : Node). n.address) below ≡ map (λ p. address_at (names_in name front) p) q.below =
      addresses-at nodes q.below below are.found ∙ ap (λ z. map (λ p. address_at z p) q.below) names in
      λ i. record { pointers = e i; bytes = q.bytes }

  -- what the session holds behind a write, and that it is mine
  record Written (b : Began) (t : Store) (since : ℕ) (nodes : List Node) (front : List Placed) (q : Placed) (made : Node) : Type 0 where
    holds : HoldsNodes name b t since (nodes ++ made ∷ [])
    mine : AreDifferent (names_in name (front ++ q ∷ [])) → AllByRecursion (IsMine name t) (blocks_of name [] (front ++ q ∷ []))

  written_told : (b : Began) (s t : Store) (since : ℕ) (nodes : List Node) (front : List Placed) (q : Placed) (below : List Node) (made : Node) (told : Reply) → HoldsNodes name b s since nodes → length nodes ≤ 4000
      → (AreDifferent (names_in name front) → AllByRecursion (IsMine name s) (blocks_of name [] front)) → map (λ (n : Node). n.address) nodes ≡ names_in name front → AreBelowOf nodes q below
      → IsJudged b.limits s t (write_above name our_session below q.bytes) told → GivesWritten told made.handle → made.address ≡ name (spell (block_above below q.bytes)) → Written b t since nodes front q made
  written_told b s t since nodes front q below made told h few mine names are j gives named =
      go (subst (λ z. WritesSo b.limits s t since h.next h.entries a z told) block_same (write_judged b.limits s t since h.next h.entries h.hands q.bytes handles a told are.short short_handles room known j))
    where
      a : Address
      a = name (spell (block_above below q.bytes))

      block : Block
      block = block_above below q.bytes

      handles : List ℕ
      handles = map (λ (n : Node). n.handle) below

      entries : AllByRecursion (Entry h.entries) below
      entries = entries_below nodes h.entries h.matches q.below below are.found

      known : AllByRecursion (IsKnown (record { next = h.next; handles = h.entries })) handles
      known = known_all h.next h.entries below entries

      block_same : written s our_session q.bytes handles ≡ block
      block_same = written-above s below q.bytes (stand_all s since h.next h.entries h.hands below entries)

      short_handles : length handles ≤ MOST_POINTERS
      short_handles = subst (λ z. z ≤ MOST_POINTERS) (sym (length-map below (λ (n : Node). n.handle))) are.few

      room : length h.entries + 1 ≤ b.limits.handles
      room =
          let same : length nodes ≡ length h.entries = zip_length Matches nodes h.entries h.matches in
          let limit : b.limits.handles ≡ 4096 = ap (λ l. l.handles) h.limits in
          omega (arith, same, limit, few)

      next_is : block ≡ next_block name front q
      next_is = block_is nodes front q below names are

      go : WritesSo b.limits s t since h.next h.entries a block told → Written b t since nodes front q made
      go (wrote epoch told_is after only less) = record {
        holds = record {
          named = h.named;
          limits = h.limits;
          next = h.next + 1;
          entries = h.entries ++ (h.next, record { address = a; epoch = epoch }) ∷ [];
          hands = after;
          matches = zip_append Matches nodes h.entries (made ∷ []) ((h.next, record { address = a; epoch = epoch }) ∷ []) h.matches ((gives_next told made.handle h.next epoch told_is gives, named), tt);
        };
        mine = λ d.
            let split : AreDifferent (names_in name front ++ name_of name (next_block name front q) ∷ []) = subst AreDifferent (names-more name front q) d in
            let parts = different_last (names_in name front) (name_of name (next_block name front q)) split in
            let other : Contains (names_in name front) a → ⊥ = subst (λ z. Contains (names_in name front) (name_of name z) → ⊥) (sym next_is) parts.1 in
            subst (AllByRecursion (IsMine name t)) (sym (blocks-more name front q))
            (all_append (IsMine name t) (blocks_of name [] front) (next_block name front q ∷ []) (mine_but name s t a less (blocks_of name [] front) other (mine parts.0)) (subst (IsMine name t) next_is only, tt));
      }
      go (unwritten (inl old) after less) = absurd (gives_no_stale told made.handle old.stale gives)
      go (unwritten (inr (inl e)) after less) = absurd (gives_no_collision told made.handle e gives)
      go (unwritten (inr (inr e)) after less) = absurd (gives_no_full told made.handle b.limits.blocks e gives)

  pub writes_next : {tells : Type 0} (old mid new : Shown tells) (front : List Placed) (nodes : List Node) (a b : ℕ) (q : Placed) (made : Node) → length nodes ≤ 4000 → WritesAll name old mid front nodes a b → WritesPlaced name mid new nodes q made → WritesAll name old new (front ++ q ∷ []) (nodes ++ made ∷ []) a b
  writes_next {tells} old mid new front nodes a b q made few h w =
      let o : Op = write_above name our_session w.below q.bytes in
      let told : Reply = w.node.answered.told in
      let hears : Hears mid new o told = w.node.answered.hears in
      let is_block : block_above w.below q.bytes ≡ next_block name front q = block_is nodes front q w.below h.names w.are in
      let one_write : writes_in (o ∷ []) ≡ as_write name (next_block name front q) ∷ [] = ap (λ (z : Block). as_write name z ∷ []) is_block in
      let no_deletes : deletes_in (o ∷ []) ≡ 0 = refl in
      let counted : deletes_in (ops_of (h.work ++ (o, told) ∷ [])) ≡ deletes_in (ops_of h.work) + 0 = ap (λ z. deletes_in z) (ops-append h.work ((o, told) ∷ [])) ∙ deletes-append (ops_of h.work) (o ∷ []) in
      let deletes : deletes_in (ops_of h.work) + a ≡ b = h.deletes in
      let after : tells → Written new.began (store_now new.began new) (epoch_now old) nodes front q made = λ is.
      let begun : new.began ≡ mid.began = hears.began in
      subst (λ z. Written z (store_now z new) (epoch_now old) nodes front q made) (sym begun)
      (written_told mid.began (store_now mid.began mid) (store_now mid.began new) (epoch_now old) nodes front q w.below made told (h.fresh is) few (h.mine is) h.names w.are (hears.judged is) w.node.answered.gives w.node.named) in
      record {
        work = h.work ++ (o, told) ∷ [];
        done = all_append IsWorkDone h.work ((o, told) ∷ []) h.done ((refl, made.handle, w.node.answered.gives), tt);
        heard = heard_more old mid new h.work o told h.heard hears;
        writes = ap (λ z. writes_in z) (ops-append h.work ((o, told) ∷ [])) ∙ (writes-append (ops_of h.work) (o ∷ []) ∙ (ap (λ z. z ++ writes_in (o ∷ [])) h.writes ∙ (ap (λ z. writes_of name front ++ z) one_write ∙ sym (writes-rest name front (q ∷ [])))));
        names = map-append (λ (n : Node). n.address) nodes (made ∷ []) ∙ (ap (λ z. z ++ made.address ∷ []) h.names ∙ (ap (λ z. names_in name front ++ z ∷ []) (w.node.named ∙ ap (λ z. name_of name z) is_block) ∙ sym (names-more name front q)));
        deletes = omega (arith, counted, deletes);
        going = hears.going;
        began = hears.began ∙ h.began;
        holds = λ is. (epoch_now old, (after is).holds);
        fresh = λ is. (after is).holds;
        mine = λ is. (after is).mine;
      }

  -- ---- a deletion

  held_after : (b : Began) (s t : Store) (since : ℕ) (nodes : List Node) (told : Reply) → HoldsNodes name b s since nodes → IsJudged b.limits s t op.Delete told → HoldsNodes name b t since nodes × Lessens s t
  held_after b s t since nodes told h j =
      let k = delete_judged b.limits s t since h.next h.entries h.hands told j in
      (record { named = h.named; limits = h.limits; next = h.next; entries = h.entries; hands = k.hands; matches = h.matches }, k.less)

  pub delete_next : {tells : Type 0} (old mid new : Shown tells) (placed : List Placed) (nodes : List Node) (a b c : ℕ) → WritesAll name old mid placed nodes a b → DeletesOrNot mid new b c → WritesAll name old new placed nodes a c
  delete_next old mid new placed nodes a b c h (none e f) = subst (λ z. WritesAll name old z placed nodes a c) (sym e) (subst (λ z. WritesAll name old mid placed nodes a z) (sym f) h)
  delete_next {tells} old mid new placed nodes a b c h (one heard f) =
      let told : Reply = heard.told in
      let hears : Hears mid new op.Delete told = heard.hears in
      let begun : new.began ≡ mid.began = hears.began in
      let counted : deletes_in (ops_of (h.work ++ (op.Delete, told) ∷ [])) ≡ deletes_in (ops_of h.work) + 1 = ap (λ z. deletes_in z) (ops-append h.work ((op.Delete, told) ∷ [])) ∙ deletes-append (ops_of h.work) (op.Delete ∷ []) in
      let deletes : deletes_in (ops_of h.work) + a ≡ b = h.deletes in
      record {
        work = h.work ++ (op.Delete, told) ∷ [];
        done = all_append IsWorkDone h.work ((op.Delete, told) ∷ []) h.done (tt, tt);
        heard = heard_more old mid new h.work op.Delete told h.heard hears;
        writes = ap (λ z. writes_in z) (ops-append h.work ((op.Delete, told) ∷ [])) ∙ (writes-append (ops_of h.work) (op.Delete ∷ []) ∙ (append-nil (writes_in (ops_of h.work)) ∙ h.writes));
        names = h.names;
        deletes = omega (arith, counted, deletes, f);
        going = hears.going;
        began = hears.began ∙ h.began;
        holds = λ is. ((h.holds is).0, subst (λ z. HoldsNodes name z (store_now z new) (h.holds is).0 nodes) (sym begun) (held_after mid.began (store_now mid.began mid) (store_now mid.began new) (h.holds is).0 nodes told (h.holds is).1 (hears.judged is)).0);
        fresh = λ is. subst (λ z. HoldsNodes name z (store_now z new) (epoch_now old) nodes) (sym begun) (held_after mid.began (store_now mid.began mid) (store_now mid.began new) (epoch_now old) nodes told (h.fresh is) (hears.judged is)).0;
        mine = λ is d. subst (λ z. AllByRecursion (IsMine name (store_now z new)) (blocks_of name [] placed)) (sym begun) (mine_less name (store_now mid.began mid) (store_now mid.began new) (held_after mid.began (store_now mid.began mid) (store_now mid.began new) (h.holds is).0 nodes told (h.holds is).1 (hears.judged is)).1 (blocks_of name [] placed) (h.mine is d));
      }

  -- ---- how it stops

  never : {X : Type 0} (told : Reply) → part.NoMemory ≡ part.Refused told → X
  never told e = absurd (differ e)
    where
      differ : part.NoMemory ≡ part.Refused told → ⊥
      differ e = cc e

  pub stop_quiet : {tells : Type 0} (key : List ℕ) (old new : Shown tells) (front rest placed : List Placed) (some nodes : List Node) (a b c : ℕ) → placed ≡ front ++ rest → b ≤ 4 → WritesAll name old new front some a b → RoundStops name key old new placed nodes a c part.NoMemory
  stop_quiet key old new front rest placed some nodes a b c split few h =
      let deletes : deletes_in (ops_of h.work) + a ≡ b = h.deletes in
      record {
        work = h.work;
        done = h.done;
        mid = new;
        heard = h.heard;
        calm = h.going;
        back = rest_of name front rest;
        writes = ap (λ z. z ++ rest_of name front rest) h.writes ∙ (sym (writes-rest name front rest) ∙ ap (λ z. writes_of name z) (sym split));
        end = refl;
        deletes = omega (arith, deletes, few);
        began = h.began;
        exact = λ told e. never told e;
        going = λ told e. never told e;
        holds = λ told e. never told e;
        cause = λ told e. never told e;
      }

  -- a refused write leaves what is held
  refused_holds : (b : Began) (s t : Store) (since : ℕ) (nodes : List Node) (q : Placed) (below : List Node) (told : Reply) → HoldsNodes name b s since nodes → length nodes ≤ 4000 → AreBelowOf nodes q below
      → IsJudged b.limits s t (write_above name our_session below q.bytes) told → (key : List ℕ) → grants (write_above name our_session below q.bytes) told ≡ false → HoldsNodes name b t since nodes × IsToldWhy key since t told
  unfolding grants
  refused_holds b s t since nodes q below told h few are j key denied =
      go (write_judged b.limits s t since h.next h.entries h.hands q.bytes (map (λ (n : Node). n.handle) below) (name (spell (block_above below q.bytes))) told are.short
      (subst (λ z. z ≤ MOST_POINTERS) (sym (length-map below (λ (n : Node). n.handle))) are.few) room (known_all h.next h.entries below (entries_below nodes h.entries h.matches q.below below are.found)) j)
    where
      room : length h.entries + 1 ≤ b.limits.handles
      room =
          let same : length nodes ≡ length h.entries = zip_length Matches nodes h.entries h.matches in
          let limit : b.limits.handles ≡ 4096 = ap (λ l. l.handles) h.limits in
          omega (arith, same, limit, few)

      new_granted : (r : Reply) (n e : ℕ) → r ≡ reply.New n e → is_written r ≡ false → ⊥
      new_granted r n e f k = let l : is_written (reply.New n e) ≡ false = subst (λ z. is_written z ≡ false) f k in cc l

      dup_granted : (r : Reply) (n e : ℕ) → r ≡ reply.Dup n e → is_written r ≡ false → ⊥
      dup_granted r n e f k = let l : is_written (reply.Dup n e) ≡ false = subst (λ z. is_written z ≡ false) f k in cc l

      go : WritesSo b.limits s t since h.next h.entries (name (spell (block_above below q.bytes))) (written s our_session q.bytes (map (λ (n : Node). n.handle) below)) told → HoldsNodes name b t since nodes × IsToldWhy key since t told
      go (wrote epoch (inl e) after only less) = absurd (new_granted told h.next epoch e denied)
      go (wrote epoch (inr e) after only less) = absurd (dup_granted told h.next epoch e denied)
      go (unwritten why after less) = (
        record { named = h.named; limits = h.limits; next = h.next; entries = h.entries; hands = after; matches = h.matches },
        elim why [
          | inl old ↦ inl old
          | inr w ↦ inr (elim w [ inl e ↦ Collides e | inr e ↦ ShardIsFull (e ∙ ap (λ l. reply.ShardFull l.blocks) h.limits) ])
        ],
      )

  -- a write that fails stops the beginning
  pub stop_write : {tells : Type 0} (key : List ℕ) (old mid new : Shown tells) (front rest placed : List Placed) (nodes : List Node) (a b : ℕ) (q : Placed) (f : PartFault) → placed ≡ front ++ q ∷ rest → b ≤ 4 → length nodes ≤ 4000 → WritesAll name old mid front nodes a b → PlacedFails name mid new nodes q f → RoundStops name key old new placed nodes a b f
  stop_write key old mid new front rest placed nodes a b q f split few most h (quiet e same) =
      subst (λ z. RoundStops name key old new placed nodes a b z) (sym e) (subst (λ z. RoundStops name key old z placed nodes a b part.NoMemory) (sym same) (stop_quiet key old mid front (q ∷ rest) placed nodes nodes a b b split few h))
  stop_write {tells} key old mid new front rest placed nodes a b q f split few most h (failed below are c) = go f c
    where
      o : Op
      o = write_above name our_session below q.bytes

      back : List (List ℕ × Option Address)
      back = as_writes name (blocks_of name (names_in name front ++ name_of name (next_block name front q) ∷ []) rest)

      is_block : block_above below q.bytes ≡ next_block name front q
      is_block = block_is nodes front q below h.names are

      one : (q.bytes, Some (name (spell (block_above below q.bytes)))) ≡ as_write name (next_block name front q)
      one = ap (λ (z : Block). as_write name z) is_block

      all_is : writes_in (ops_of h.work) ++ (q.bytes, Some (name (spell (block_above below q.bytes)))) ∷ back ≡ writes_of name placed
      all_is = ap (λ z. writes_in (ops_of h.work) ++ z ∷ back) one ∙ (ap (λ z. z ++ as_write name (next_block name front q) ∷ back) h.writes ∙ (sym (writes-rest name front (q ∷ rest)) ∙ ap (λ z. writes_of name z) (sym split)))

      comes : ComesNext key (writes_of name placed) h.work o
      comes = (refl, back, all_is)

      deletes : deletes_in (ops_of h.work) + a ≤ 4
      deletes = let d : deletes_in (ops_of h.work) + a ≡ b = h.deletes in omega (arith, d, few)

      with_end : (new : Shown tells) (g : PartFault) → IsEnd key (writes_of name placed) h.work a mid new g → new.began ≡ mid.began → ((told : Reply) → g ≡ part.Refused told → new.ended ≡ None) → ((told : Reply) → g ≡ part.Refused told → HoldsSo name new nodes × IfTold new (λ c. IsToldWhy key (epoch_now old) (store_now c new) told)) → RoundStops name key old new placed nodes a b g
      with_end new g end begun going why = record {
        work = h.work;
        done = h.done;
        mid = mid;
        heard = h.heard;
        calm = h.going;
        back = (q.bytes, Some (name (spell (block_above below q.bytes)))) ∷ back;
        writes = all_is;
        end = end;
        deletes = deletes;
        began = begun ∙ h.began;
        exact = λ told e. h.deletes;
        going = going;
        holds = λ told e. (why told e).0;
        cause = λ told e. (why told e).1;
      }

      go : (f : PartFault) → CallFails mid new o f → RoundStops name key old new placed nodes a b f
      go (part.Core core) c = with_end new (part.Core core) (o, comes, c) c.began (λ told e. absurd (no_core core told e)) (λ told e. absurd (no_core core told e))
        where
          no_core : (core : CoreFault) (told : Reply) → part.Core core ≡ part.Refused told → ⊥
          no_core core told e = cc e
      go (part.Refused told) c = with_end new (part.Refused told) (o, comes, c.0, c.1) c.0.began (λ r e. c.0.going) (λ r e. ((λ is. (epoch_now old, (left told c is).0)), λ is. subst (λ z. IsToldWhy key (epoch_now old) (store_now new.began new) z) (same_told told r e) (left told c is).1))
        where
          left : (told : Reply) → Hears mid new o told × (grants o told ≡ false) → tells → HoldsNodes name new.began (store_now new.began new) (epoch_now old) nodes × IsToldWhy key (epoch_now old) (store_now new.began new) told
          left told c is =
              subst (λ z. HoldsNodes name z (store_now z new) (epoch_now old) nodes × IsToldWhy key (epoch_now old) (store_now z new) told) (sym c.0.began)
              (refused_holds mid.began (store_now mid.began mid) (store_now mid.began new) (epoch_now old) nodes q below told (h.fresh is) most are (c.0.judged is) key c.1)

          same_told : (told r : Reply) → part.Refused told ≡ part.Refused r → told ≡ r
          same_told told r e = cc e
      go part.TooMany c = absurd c
      go part.NoMemory c = subst (λ z. RoundStops name key old z placed nodes a b part.NoMemory) (sym c) (stop_quiet key old mid front (q ∷ rest) placed nodes nodes a b b split few h)

  -- so does a deletion that ends the asker
  pub stop_delete : {tells : Type 0} (key : List ℕ) (old mid new : Shown tells) (front rest placed : List Placed) (some nodes : List Node) (a b c : ℕ) (f : PartFault) → placed ≡ front ++ rest → b ≤ 4 → WritesAll name old mid front some a b → DeleteStops mid new b f → RoundStops name key old new placed nodes a c f
  stop_delete {tells} key old mid new front rest placed some nodes a b c f split few h d = go f d
    where
      room : b + 1 ≤ 4 → (deletes_in (ops_of h.work) + 1) + a ≤ 4
      room r = let e : deletes_in (ops_of h.work) + a ≡ b = h.deletes in omega (arith, e, r)

      no_core : (core : CoreFault) (told : Reply) → part.Core core ≡ part.Refused told → ⊥
      no_core core told e = cc e

      go : (f : PartFault) → DeleteStops mid new b f → RoundStops name key old new placed nodes a c f
      go (part.Core core) d = record {
        work = h.work;
        done = h.done;
        mid = mid;
        heard = h.heard;
        calm = h.going;
        back = rest_of name front rest;
        writes = ap (λ z. z ++ rest_of name front rest) h.writes ∙ (sym (writes-rest name front rest) ∙ ap (λ z. writes_of name z) (sym split));
        end = (op.Delete, room d.2, d.1);
        deletes = let e : deletes_in (ops_of h.work) + a ≡ b = h.deletes in omega (arith, e, few);
        began = d.1.began ∙ h.began;
        exact = λ told e. absurd (no_core core told e);
        going = λ told e. absurd (no_core core told e);
        holds = λ told e. absurd (no_core core told e);
        cause = λ told e. absurd (no_core core told e);
      }
      go (part.Refused told) d = absurd d.0
      go part.TooMany d = absurd d.0
      go part.NoMemory d = absurd d.0
