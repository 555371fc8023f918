-- What the plain store reaches in a run is what the machine reaches, so a last round takes away just what is unreachable.
use Rattle.std.proofs.Common.{◌≡◌, ◌⊎◌, inl, inr, ℕ, ◌+◌, ◌-◌, ◌<◌, ◌≤◌, List, [], ◌∷◌, length, map, Bool, true, false, not, Option, Some, None, unwrap_or, refl, sym, ap, ◌∙◌, subst, arith, nat_le, nat_lt}
use Rattle.std.proofs.lemmas.Bool.{eq-eqb, eqb-true, and_parts, ltb-true}
use Rattle.std.proofs.lemmas.Bool.Decides.{nat_tests}
use Rattle.std.specs.BTreeMap.{is_at}
use Rattle.std.specs.List.{IsDistinct}
use Rattle.std.specs.Map.{lookup, keys_of}
use Rattle.std.specs.Option.{option_map_or}
use Rattle.hs_limits.specs.declared.address.Address.{Address}
use Rattle.hs_limits.specs.Shape.{shard_of}
use Rattle.hs_model.specs.declared.store.StoredBlock.{StoredBlock}
use Rattle.hs_model.specs.Inner.{stays, none_below}
use Rattle.hs_model.specs.Reach.{is_same, anchors, counts_in, is_swept, pointers_of, IsReached}
use Rattle.hs_model.specs.Store.{Store, Root, address_cmp, shard_at, root_epoch}
use Rattle.hs_model.proofs.Members.{Member, member-map, member_of_map, member-filter, member_of_filter}
use Rattle.hs_model.proofs.ReachLemmas.{Reached-each, Points, Reaches, reached_from_is, is_from_reached}
use Rattle.hs_model.proofs.ReachLemmas.Reached.{start, onward}
use Rattle.hs_model.proofs.SetLemmas.{distinct_from_sorted}
use Rattle.hs_laws.proofs.EpochLemmas.{nat_le_from, nat_le-true, least_epoch-at, least_epoch-greatest, least_from_none_below, none_below_from_least}
use Rattle.hs_laws.proofs.SweepLemmas.{member_from_found, unreached_from_swept, swept_from_unreached}
use Rattle.hs_laws.proofs.ValidLemmas.{starts-root, starts-given, starts-each}
use Rattle.hs_laws.specs.Valid.{least_epoch, rests_on, stands_in}
use Rattle.hs_deletion.specs.Records.{BlockRecord, RootRecord}
use Rattle.hs_deletion.specs.Machine.{Layout, Machine, is_root_at}
use Rattle.hs_deletion.specs.Machine.{is_at as is_of}
use Rattle.hs_deletion.specs.Anchors.{PointsTo, IsGivenSince, NotBefore, IsRootedSince, IsReachedIn}
use Rattle.hs_deletion.specs.Following.{AreFollowing}
use Rattle.hs_deletion.specs.History.{MayComplete, is_last}
use Rattle.hs_deletion.specs.Invariants.{IsRight}
use Rattle.hs_deletion.proofs.ClockLemmas.{together}
use Rattle.hs_deletion.proofs.HistoryKeeps.{at_the_last}
use Rattle.hs_fold.specs.Catalogue.{Present}
use Rattle.hs_fold.specs.Shards.Opened.{all_present}
use Rattle.hs_fold.specs.Shards.Opened.{store_of as listed}
use Rattle.hs_fold.proofs.Shards.StoreLemmas.{all-sorted, stored_of}
use Rattle.hs_fold.specs.Runs.Facts.{Facts, RootFacts, Catalogue, plain}
use Rattle.hs_fold.specs.Runs.Fits.{catalogue_at}
use Rattle.hs_fold.specs.Runs.Opened.{pruned}
use Rattle.hs_fold.specs.Runs.Own.{AreOwn}
use Rattle.hs_fold.specs.Runs.Rounds.{is_gone}
use Rattle.hs_joint.specs.Seen.{layout_of, seen_block, seen_root, all_seen}
use Rattle.hs_joint.proofs.KeyLemmas.{found-entry, sorted-values}
use Rattle.hs_joint.proofs.ListedLemmas.{epoch-at, epochs-length, in-present, out-present, in-roots, out-roots}

module _ (n : ℕ) (some : 0 < n) (cs : List Catalogue) (each : length cs ≡ n) (own : AreOwn n 0 cs) (m : Machine) (follow : AreFollowing (layout_of n some) m (all_seen cs)) where
  abbrev L : Layout
  L = layout_of n some

  abbrev s : Store
  s = listed (map plain cs)

  abbrev t : Store
  t = pruned s

  -- a block there and here
  pub there_at : (g : ℕ) → g < n → (e : Address × Facts) → Member e (catalogue_at cs g).blocks → Member (seen_block e) m.blocks × (shard_of n e.0 ≡ g)
  there_at g l e k =
      let p = member_of_filter (is_of L g) (seen_block e) m.blocks ((follow g l).blocks.into (seen_block e) (member-map seen_block e (catalogue_at cs g).blocks k)) in
      (p.0, eqb-true (shard_of n e.0) g p.1)

  there_block : (a : Address) (p : Present) → Member (a, p) (all_present (map plain cs)) → (f : Facts) × Member (seen_block (a, f)) m.blocks × (f.present ≡ p)
  there_block a p k =
      let b = in-present cs (a, p) k in
      (b.facts, (there_at b.shard (omega (arith, b.within, each)) (a, b.facts) b.kept).0, b.same)

  pub here_at : (b : BlockRecord) → Member b m.blocks → (e : Address × Facts) × Member e (catalogue_at cs (shard_of n b.address)).blocks × (b ≡ seen_block e)
  here_at b k =
      let g : ℕ = shard_of n b.address in
      member_of_map seen_block b (catalogue_at cs g).blocks ((follow g (L.within b.address)).blocks.back b (member-filter (is_of L g) b m.blocks k (eq-eqb g g refl)))

  pub record IsHere (b : BlockRecord) : Type 0 where
    pub entry : Address × Facts
    pub same : b ≡ seen_block entry
    pub present : Member (entry.0, entry.1.present) (all_present (map plain cs))

  here_block : (b : BlockRecord) → Member b m.blocks → IsHere b
  here_block b k =
      let o = here_at b k in
      let low = L.within b.address in
      record { entry = o.0; same = o.2; present = out-present n 0 cs own (shard_of n b.address) (omega (arith, low, each)) o.0 o.1 }

  there_root : (r : Root) → Member r s.roots → (shard : ℕ) × (x : RootFacts) × Member (seen_root shard x) m.roots × (x.root ≡ r)
  there_root r k =
      let w = in-roots cs r k in
      let l : w.shard < n = omega (arith, w.within, each) in
      (w.shard, w.record_, (member_of_filter (is_root_at w.shard) (seen_root w.shard w.record_) m.roots ((follow w.shard l).roots.into (seen_root w.shard w.record_) (member-map (seen_root w.shard) w.record_ (catalogue_at cs w.shard).roots w.kept))).0, w.same)

  here_root : (r : RootRecord) → r.home < n → Member r m.roots → (x : RootFacts) × Member x.root s.roots × (r ≡ seen_root r.home x)
  here_root r l k =
      let o = member_of_map (seen_root r.home) r (catalogue_at cs r.home).roots ((follow r.home l).roots.back r (member-filter (is_root_at r.home) r m.roots k (eq-eqb r.home r.home refl))) in
      (o.0, out-roots cs r.home (omega (arith, l, each)) o.0 o.1, o.2)

  found_present : (a : Address) (p : Present) → Member (a, p) (all_present (map plain cs)) → lookup (is_at (address_cmp a)) (stored_of (all_present (map plain cs))) ≡ Some p.stored
  found_present a p k = found-entry (stored_of (all_present (map plain cs))) (sorted-values (λ (q : Present). q.stored) (all_present (map plain cs)) (all-sorted (map plain cs))) (a, p.stored) (member-map (λ (e : Address × Present). (e.0, e.1.stored)) (a, p) (all_present (map plain cs)) k)

  there_points : (a b : Address) → Points t.blocks a b → PointsTo m.blocks a b
  there_points a b p = go (lookup (is_at (address_cmp a)) t.blocks) refl p
    where
      go : (found : Option StoredBlock) → lookup (is_at (address_cmp a)) t.blocks ≡ found → Member b (pointers_of found) → PointsTo m.blocks a b
      go None e q = elim q [ ]
      go (Some st) e q =
          let o = member_of_map (λ (x : Address × Present). (x.0, x.1.stored)) (a, st) (all_present (map plain cs)) (member_from_found t.blocks a st e) in
          let f = there_block o.0.0 o.0.1 o.1 in
          let same : f.0.present.stored ≡ st = ap (λ (p : Present). p.stored) f.2 ∙ sym (ap (λ (x : Address × StoredBlock). x.1) o.2) in
          record { block = seen_block (o.0.0, f.0); stands = f.1; here = ap (λ (x : Address × StoredBlock). x.0) (sym o.2); pointer = subst (λ (y : StoredBlock). Member b y.pointers) (sym same) q }

  -- what rests on an epoch from which the run's is at most one away is reached in the run
  pub rests_there : (run least : ℕ) → run ≤ least + 1 → (a : Address) → Reaches t.blocks (rests_on t least) a → IsReachedIn m run a
  rests_there run least l a r = Reached-each (λ a. IsReachedIn m run a) (λ a k. start (first a k)) (λ a b q i p. onward i (there_points a b p)) a r
    where
      since : (d : Option ℕ) (home : ℕ) → nat_le least (unwrap_or d home) ≡ true → NotBefore (run - 1) d
      since None home e = tt
      since (Some d) home e = omega (arith, nat_le_from least d e, l)

      first : (a : Address) → Member a (rests_on t least) → IsGivenSince m.blocks (run - 1) a ⊎ IsRootedSince m.roots (run - 1) a
      first a k = starts-each (λ a. IsGivenSince m.blocks (run - 1) a ⊎ IsRootedSince m.roots (run - 1) a) (λ (r : Root). nat_le least (stands_in t r)) (λ (e : Address × ℕ). nat_le least e.1) t.roots t.given
          (λ r q e. (
          let w = there_root r (member_of_filter (stays s) r s.roots q).0 in
          inr (record { root = seen_root w.0 w.1; kept = w.2; to = inl (ap (λ (x : Root). x.address) (sym w.3)); counts = subst (λ (x : Root). NotBefore (run - 1) x.dropped) (sym w.3) (since r.dropped (root_epoch t r.key) e) })
          ))
          (λ e q u. (
          let o = member_of_map (λ (x : Address × Present). (x.0, x.1.mark)) e (all_present (map plain cs)) q in
          let b = there_block o.0.0 o.0.1 o.1 in
          let mark : b.0.present.mark ≡ e.1 = ap (λ (p : Present). p.mark) b.2 ∙ sym (ap (λ (x : Address × ℕ). x.1) o.2) in
          inl (record { block = seen_block (o.0.0, b.0); stands = b.1; here = ap (λ (x : Address × ℕ). x.0) (sym o.2); since = omega (arith, nat_le_from least e.1 u, mark, l) })
          ))
          a k

  module _ (run : ℕ) (low : least_epoch s ≤ run) where
    counts_here : (d : Option ℕ) → option_map_or (λ dropped. nat_le run (dropped + 1)) d true ≡ true → NotBefore (run - 1) d
    counts_here None e = tt
    counts_here (Some d) e = omega (arith, nat_le_from run (d + 1) e)

    there_start : (a : Address) → Member a (anchors t run) → IsGivenSince m.blocks (run - 1) a ⊎ IsRootedSince m.roots (run - 1) a
    there_start a k = starts-each (λ a. IsGivenSince m.blocks (run - 1) a ⊎ IsRootedSince m.roots (run - 1) a) (counts_in run) (λ (e : Address × ℕ). nat_le run (e.1 + 1)) t.roots t.given
        (λ r q e. (
        let w = there_root r (member_of_filter (stays s) r s.roots q).0 in
        inr (record { root = seen_root w.0 w.1; kept = w.2; to = inl (ap (λ (x : Root). x.address) (sym w.3)); counts = counts_here w.1.root.dropped (subst (λ (x : Root). counts_in run x ≡ true) (sym w.3) e) })
        ))
        (λ e q u. (
        let o = member_of_map (λ (x : Address × Present). (x.0, x.1.mark)) e (all_present (map plain cs)) q in
        let b = there_block o.0.0 o.0.1 o.1 in
        let mark : b.0.present.mark ≡ e.1 = ap (λ (p : Present). p.mark) b.2 ∙ sym (ap (λ (x : Address × ℕ). x.1) o.2) in
        inl (record { block = seen_block (o.0.0, b.0); stands = b.1; here = ap (λ (x : Address × ℕ). x.0) (sym o.2); since = omega (arith, nat_le_from run (e.1 + 1) u, mark) })
        ))
        a k

    pub there : (a : Address) → Reaches t.blocks (anchors t run) a → IsReachedIn m run a
    there a r = Reached-each (λ a. IsReachedIn m run a) (λ a k. start (there_start a k)) (λ a b q i p. onward i (there_points a b p)) a r

    -- back
    stays_here : (r : Root) → NotBefore (run - 1) r.dropped → (stays s r ≡ true) × (counts_in run r ≡ true)
    stays_here r c = go r.dropped refl c
      where
        go : (d : Option ℕ) → r.dropped ≡ d → NotBefore (run - 1) d → (stays s r ≡ true) × (counts_in run r ≡ true)
        go None e u = (rw e refl, rw e refl)
        go (Some d) e u = (rw e (two (none_below s (d + 2)) refl), rw e (nat_le-true run (d + 1) (omega (arith, u))))
          where
            filled : 0 < length s.epochs
            filled = rw (epochs-length cs, each) some

            two : (b : Bool) → none_below s (d + 2) ≡ b → not (none_below s (d + 2)) ≡ true
            two true q = let k = least_from_none_below s (d + 2) filled q in absurd (omega (arith, k, low, u))
            two false q = rw q refl

    back_given : (a : Address) → IsGivenSince m.blocks (run - 1) a → Member a (anchors t run)
    back_given a g =
        let h = here_block g.block g.stands in
        let mark : g.block.mark ≡ h.entry.1.present.mark = ap (λ (b : BlockRecord). b.mark) h.same in
        let is : h.entry.0 ≡ a = sym (ap (λ (b : BlockRecord). b.address) h.same) ∙ g.here in
        subst (λ (x : Address). Member x (anchors t run)) is
        (starts-given (counts_in run) (λ (e : Address × ℕ). nat_le run (e.1 + 1)) t.roots t.given (h.entry.0, h.entry.1.present.mark)
        (member-map (λ (x : Address × Present). (x.0, x.1.mark)) (h.entry.0, h.entry.1.present) (all_present (map plain cs)) h.present) (nat_le-true run (h.entry.1.present.mark + 1) (omega (arith, g.since, mark))))

    back_root : ((r : RootRecord) → Member r m.roots → r.home < n) → (a : Address) → IsRootedSince m.roots (run - 1) a → Member a (anchors t run)
    back_root hr a g =
        let o = here_root g.root (hr g.root g.kept) g.kept in
        let dropped : g.root.dropped ≡ o.0.root.dropped = ap (λ (r : RootRecord). r.dropped) o.2 in
        let to : Member a (o.0.root.address ∷ []) = subst (λ (r : RootRecord). Member a r.addresses) o.2 g.to in
        let is : o.0.root.address ≡ a = elim to [ inl e ↦ sym e | inr e ↦ elim e [ ] ] in
        let st = stays_here o.0.root (subst (λ d. NotBefore (run - 1) d) dropped g.counts) in
        subst (λ (x : Address). Member x (anchors t run)) is
        (starts-root (counts_in run) (λ (e : Address × ℕ). nat_le run (e.1 + 1)) t.roots t.given o.0.root (member-filter (stays s) o.0.root s.roots o.1 st.0) st.1)

    pub back : ((r : RootRecord) → Member r m.roots → r.home < n) → (a : Address) → IsReachedIn m run a → Reaches t.blocks (anchors t run) a
    back hr a r = Reached-each (λ a. Reaches t.blocks (anchors t run) a)
        (λ a k. elim k [ inl g ↦ start (back_given a g) | inr g ↦ start (back_root hr a g) ])
        (λ a b q i p. onward i (arrow a b p)) a r
      where
        arrow : (a b : Address) → PointsTo m.blocks a b → Points t.blocks a b
        arrow a b p =
            let h = here_block p.block p.stands in
            let is : h.entry.0 ≡ a = sym (ap (λ (x : BlockRecord). x.address) h.same) ∙ p.here in
            let k : Member b h.entry.1.present.stored.pointers = subst (λ (x : BlockRecord). Member b x.pointers) h.same p.pointer in
            subst (λ x. Points t.blocks x b) is (rw (found_present h.entry.0 h.entry.1.present h.present) k)

  -- ---- epochs

  pub least_low : (g : ℕ) → g < n → least_epoch s ≤ (catalogue_at cs g).epoch
  least_low g l = rw (epoch-at cs g (omega (arith, l, each))) at (least_epoch-at s g (rw (epochs-length cs, each) l))

  pub least_high : (k : ℕ) → ((h : ℕ) → h < n → k ≤ (catalogue_at cs h).epoch) → k ≤ least_epoch s
  least_high k f = least_epoch-greatest s k (rw (epochs-length cs, each) some) (λ h l. (let l' : h < n = rw (epochs-length cs, each) at l in let e = epoch-at cs h (omega (arith, l', each)) in let up = f h l' in omega (arith, e, up)))

  module _ (right : IsRight L m) (g : ℕ) (lg : g < n) (all : MayComplete L m g) where
    -- the roots that round 1 lets go of count in no epoch any more
    pub released_goes : (m.states g).round ≡ 0 → (r : Root) (d : ℕ) → r.dropped ≡ Some d → d + 2 ≤ (catalogue_at cs g).epoch → stays s r ≡ false
    released_goes first r d e l =
        let level : (h : ℕ) → h < n → d + 2 ≤ (catalogue_at cs h).epoch = λ h lh. (let q = (together L m.states right.clocks g h lg lh all.sent (inl first)).0 in omega (arith, l, q, (follow g lg).epoch, (follow h lh).epoch)) in
        let low : none_below s (d + 2) ≡ true = none_below_from_least s (d + 2) (least_high (d + 2) level) in
        rw (e, low) refl

    module _ (over : is_last L g m ≡ true) (e : Address × Facts) (here : Member e (catalogue_at cs g).blocks) where
      abbrev E : ℕ
      E = (catalogue_at cs g).epoch

      epoch_is : E ≡ (m.states g).epoch
      epoch_is = (follow g lg).epoch

      in_machine : Member (seen_block e) m.blocks × (shard_of n e.0 ≡ g)
      in_machine = there_at g lg e here

      reached_is : (IsReached t (anchors t E) e.0 → IsReachedIn m E e.0) × (IsReachedIn m E e.0 → IsReached t (anchors t E) e.0)
      reached_is = (
        (λ r. there E (least_low g lg) e.0 (reached_from_is t (anchors t E) e.0 r)),
        (λ r. is_from_reached t (anchors t E) e.0 (back E (least_low g lg) (λ x k. right.homes x k) e.0 r)),
      )

      distinct : IsDistinct is_same (keys_of t.blocks)
      distinct = distinct_from_sorted (keys_of t.blocks) (sorted-values (λ (q : Present). q.stored) (all_present (map plain cs)) (all-sorted (map plain cs)))

      shard_here : shard_at t e.0 ≡ g
      shard_here = ap (λ k. shard_of k e.0) (epochs-length cs ∙ each) ∙ in_machine.1

      gone_swept : is_gone E e.1 ≡ true → is_swept t E g (e.0, e.1.present.stored) ≡ true
      gone_swept q =
          let parts = and_parts e.1.zero (nat_lt e.1.present.mark E) q in
          let mark : e.1.present.mark < E = ltb-true e.1.present.mark E parts.1 in
          let block = rw (in_machine.1) at (right.blocks (seen_block e) in_machine.0) in
          let is_zero = block.is_zero parts.0 in
          let born = block.counted is_zero.counted in
          let wrong : IsReachedIn m (m.states g).epoch e.0 → e.1.present.mark ≡ (m.states g).epoch = rw (in_machine.1) at (right.no_wrong_zero (seen_block e) in_machine.0 parts.0) in
          swept_from_unreached t E g e.0 e.1.present.stored distinct (record {
            of_shard = shard_here;
            older = omega (arith, born, epoch_is);
            unreached = λ r. (let w = wrong (subst (λ k. IsReachedIn m k e.0) epoch_is (reached_is.0 r)) in omega (arith, w, mark, epoch_is));
          })

      swept_gone : is_swept t E g (e.0, e.1.present.stored) ≡ true → is_gone E e.1 ≡ true
      swept_gone q =
          let u = unreached_from_swept t E g e.0 e.1.present.stored q in
          let older = u.older in
          let z = right.exact_zero g (at_the_last L m g all over) (seen_block e) in_machine.0 (record {
            of_shard = in_machine.1;
            older = omega (arith, older, epoch_is);
            unreached = λ r. u.unreached (reached_is.1 (subst (λ k. IsReachedIn m k e.0) (sym epoch_is) r));
          }) in
          let mark : nat_lt e.1.present.mark E ≡ true = (let low = z.1 in grind (arith, nat_tests, low, epoch_is)) in
          rw (z.0, mark) refl

      -- the blocks that go are those that the plain store's sweep takes
      pub gone_is : is_gone E e.1 ≡ is_swept t E g (e.0, e.1.present.stored)
      gone_is = go (is_gone E e.1) refl (is_swept t E g (e.0, e.1.present.stored)) refl
        where
          go : (a : Bool) → is_gone E e.1 ≡ a → (b : Bool) → is_swept t E g (e.0, e.1.present.stored) ≡ b → is_gone E e.1 ≡ is_swept t E g (e.0, e.1.present.stored)
          go true p b q = p ∙ sym (gone_swept p)
          go false p true q = swept_gone q ∙ sym q
          go false p false q = p ∙ sym q
