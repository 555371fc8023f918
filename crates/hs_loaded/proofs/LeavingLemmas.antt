-- Two deletions behind the last change of a client leave what the retained roots reach.
use Rattle.std.proofs.Common.{◌≡◌, ◌∙◌, sym, ap, subst, ◌⊎◌, inl, inr, ℕ, ◌+◌, ◌<◌, ◌≤◌, ◌≢◌, ◌==◌, ◌&&◌, Bool, true, false, not, List, [], ◌∷◌, ◌++◌, Option, Some, None, refl, arith, filter, is_none, length, map, nat_le, nat_lt}
use Rattle.std.proofs.Math.Nat.{mod-lt}
use Rattle.std.proofs.lemmas.Bool.{eq-eqb}
use Rattle.std.proofs.lemmas.Bool.Decides.{nat_tests}
use Rattle.std.specs.BTreeMap.{is_at}
use Rattle.std.specs.List.{AllByRecursion, IsDistinct}
use Rattle.std.specs.Map.{keys_of, lookup}
use Rattle.std.specs.Option.{option_map_or}
use Rattle.std.specs.Prelude.{slice_index, slice_set}
use Rattle.hs_deeds.specs.Told.{store_after}
use Rattle.hs_laws.proofs.DistinctLemmas.{step-distinct}
use Rattle.hs_laws.proofs.EnterLemmas.{enter-length, enter_valid, set-at}
use Rattle.hs_laws.proofs.JudgeKeeps.{judge_valid}
use Rattle.hs_laws.proofs.SweepKeeps.{lookup-filter, sweep_valid}
use Rattle.hs_laws.proofs.SweepLemmas.{member_from_found}
use Rattle.hs_laws.proofs.ValidLemmas.{Reaches-more, Valid, starts-each, starts-root, valid_from_is}
use Rattle.hs_limits.specs.declared.address.Address.{Address}
use Rattle.hs_limits.specs.declared.limits.Limits.{Limits}
use Rattle.hs_limits.specs.Shape.{shard_of}
use Rattle.hs_loaded.specs.Leaving.{ChangesNothingHeld, HaveSweptTwice, IsUpTo, retained_addresses}
use Rattle.hs_model.proofs.JudgeLemmas.{judge_deleted}
use Rattle.hs_model.proofs.Members.{Member, among_from_member, contains_from_member, member-filter, member-map, member_of_filter, member_of_map}
use Rattle.hs_model.proofs.ReachLemmas.{Reached-each, Reaches, is_from_reached, listed_from_reached, listed_is, onward, reached_from_is, start}
use Rattle.hs_model.specs.declared.deed.Deed.{Deed}
use Rattle.hs_model.specs.declared.deed.Deed.TheVariants as deed
use Rattle.hs_model.specs.declared.op.Op.TheVariants as op
use Rattle.hs_model.specs.declared.reply.Reply.{Reply}
use Rattle.hs_model.specs.declared.reply.Reply.TheVariants as reply
use Rattle.hs_model.specs.declared.store.StoredBlock.{StoredBlock}
use Rattle.hs_model.specs.Deeds.{AreDeeds, DeedEntry, IsDeedOf, NothingRefuses, deed_store, refusals_told}
use Rattle.hs_model.specs.declared.op.Asked.TheVariants as asked
use Rattle.hs_model.specs.Inner.{enter, may_sweep, stays, sweep}
use Rattle.hs_model.specs.Judge.{Judged, refusals}
use Rattle.hs_model.specs.Reach.{IsReached, anchors, counts_in, is_among, is_same, is_swept, pointers_of, reached_from}
use Rattle.hs_model.specs.Run.{sweeps}
use Rattle.hs_model.specs.Store.{Root, Store, address_cmp, block_at, epoch_at, shard_at}

-- ---- plain facts

none_is : {X : Type 0} (o : Option X) → is_none o ≡ true → o ≡ None
none_is None e = refl
none_is (Some x) e = absurd (cc e)

not_and : (b c : Bool) → c ≡ true → not (b && not c) ≡ true
not_and true c e = ap (λ x. not (not x)) e
not_and false c e = refl

stays_by : (b c : Bool) → b ≡ true → not (b && not c) ≡ true → c ≡ true
stays_by true true e h = refl
stays_by true false e h = absurd (cc h)
stays_by false c e h = absurd (cc e)

both : (b c : Bool) → b ≡ true → c ≡ true → (b && c) ≡ true
both true c e f = f
both false c e f = absurd (cc e)

lt_true : (n m : ℕ) → n < m → nat_lt n m ≡ true
lt_true n m h = grind (arith, nat_tests, h)

le_from : (n m : ℕ) → nat_le n m ≡ true → n ≤ m
le_from n m h = grind (arith, nat_tests, h)

-- ---- stores behind the last change

-- nothing given or dropped is above the epoch, and what was swept since is reached from the retained roots
record IsSince (epoch : ℕ) (u : Store) : Type 0 where
  valid : Valid u
  distinct : IsDistinct is_same (keys_of u.blocks)
  given : (e : Address × ℕ) → Member e u.given → e.1 ≤ epoch
  dropped : (root : Root) (d : ℕ) → Member root u.roots → root.dropped ≡ Some d → d ≤ epoch
  lately : (a : Address) (stored : StoredBlock) → Member (a, stored) u.blocks → epoch + 2 ≤ slice_index u.swept (shard_at u a) → Reaches u.blocks (retained_addresses u) a

-- a root that is retained, of an address that one keeps
kept_root : (roots : List Root) (a : Address) → Member a (map (λ root. root.address) (filter (λ root. is_none root.dropped) roots)) → (root : Root) × Member root roots × (root.dropped ≡ None) × (a ≡ root.address)
kept_root roots a m =
    let x = member_of_map (λ (root : Root). root.address) a (filter (λ (root : Root). is_none root.dropped) roots) m in
    let y = member_of_filter (λ (root : Root). is_none root.dropped) x.0 roots x.1 in
    (x.0, y.0, none_is x.0.dropped y.1, x.2)

keeps_root : (roots : List Root) (root : Root) → Member root roots → root.dropped ≡ None → Member root.address (map (λ root. root.address) (filter (λ root. is_none root.dropped) roots))
keeps_root roots root m e =
    member-map (λ (root : Root). root.address) root (filter (λ (root : Root). is_none root.dropped) roots) (member-filter (λ (root : Root). is_none root.dropped) root roots m (ap (λ (o : Option ℕ). is_none o) e))

-- ---- a sweep

module _ (epoch : ℕ) (u : Store) (its : IsSince epoch u) (shard : ℕ) (may : may_sweep u shard ≡ true) where
  abbrev run : ℕ
  run = slice_index u.epochs shard

  retained_counts : (root : Root) → root.dropped ≡ None → counts_in (slice_index u.epochs shard) root ≡ true
  retained_counts root e = ap (λ (o : Option ℕ). option_map_or (λ (d : ℕ). nat_le run (d + 1)) o true) e

  -- what a retained root keeps is an anchor
  anchored : (a : Address) → Member a (retained_addresses u) → Member a (anchors u (slice_index u.epochs shard))
  anchored a m =
      let k = kept_root u.roots a m in
      subst (λ (b : Address). Member b (anchors u run)) (sym k.3)
      (starts-root (counts_in run) (λ e. nat_le run (e.1 + 1)) u.roots u.given k.0 k.1 (retained_counts k.0 k.2))

  among : (a : Address) → Reaches u.blocks (retained_addresses u) a → is_among (reached_from u (anchors u (slice_index u.epochs shard))) a ≡ true
  among a r =
      among_from_member a (reached_from u (anchors u run)) (listed_from_reached u (anchors u run) a (Reaches-more u.blocks (retained_addresses u) (anchors u run) (λ b m. start (anchored b m)) a r))

  found_still : (a : Address) → Reaches u.blocks (retained_addresses u) a → lookup (is_at (address_cmp a)) (sweep u shard).blocks ≡ lookup (is_at (address_cmp a)) u.blocks
  found_still a r =
      lookup-filter (λ e. not (is_swept u run shard e)) u.blocks a
      (λ stored. not_and (shard_at u a == shard && nat_lt stored.born run) (is_among (reached_from u (anchors u run)) a) (among a r))

  still : (a : Address) → Reaches u.blocks (retained_addresses u) a → Reaches (sweep u shard).blocks (retained_addresses (sweep u shard)) a
  still a r =
      Reached-each (λ b. Reaches (sweep u shard).blocks (retained_addresses (sweep u shard)) b) (λ b m. start m)
      (λ x b q i p. onward i (subst (λ (o : Option StoredBlock). Member b (pointers_of o)) (sym (found_still x q)) p)) a r

  born_before : (a : Address) (stored : StoredBlock) → Member (a, stored) u.blocks → stored.born ≤ epoch
  born_before a stored m =
      let g = its.valid.given.present_given (a, stored) m in
      let born : stored.born ≤ g.0 = its.valid.given.born a stored g.0 m g.1 in
      let upto : g.0 ≤ epoch = its.given (a, g.0) g.1 in
      omega (arith, born, upto)

  -- two epochs later each anchor is kept by a retained root
  only_roots : epoch + 2 ≤ slice_index u.epochs shard → (a : Address) → Member a (anchors u (slice_index u.epochs shard)) → Reaches u.blocks (retained_addresses u) a
  only_roots later a m =
      starts-each (λ b. Reaches u.blocks (retained_addresses u) b) (counts_in run) (λ e. nat_le run (e.1 + 1)) u.roots u.given
      (λ root k t. by_drop root k root.dropped refl t)
      (λ e k t. absurd (omega (arith, later, le_from run (e.1 + 1) t, its.given e k))) a m
    where
      by_drop : (root : Root) → Member root u.roots → (o : Option ℕ) → root.dropped ≡ o → option_map_or (λ (d : ℕ). nat_le (slice_index u.epochs shard) (d + 1)) root.dropped true ≡ true → Reaches u.blocks (retained_addresses u) root.address
      by_drop root k None e t = start (keeps_root u.roots root k e)
      by_drop root k (Some d) e t =
          let counts : nat_le run (d + 1) ≡ true = sym (ap (λ (o : Option ℕ). option_map_or (λ (d : ℕ). nat_le run (d + 1)) o true) e) ∙ t in
          absurd (omega (arith, later, le_from run (d + 1) counts, its.dropped root d k e))

  swept_lately : (a : Address) (stored : StoredBlock) → Member (a, stored) (sweep u shard).blocks → epoch + 2 ≤ slice_index (sweep u shard).swept (shard_at u a) → Reaches (sweep u shard).blocks (retained_addresses (sweep u shard)) a
  swept_lately a stored n late = go (set-at u.swept shard run (shard_at u a))
    where
      m : Member (a, stored) u.blocks × (not (is_swept u (slice_index u.epochs shard) shard (a, stored)) ≡ true)
      m = member_of_filter (λ e. not (is_swept u run shard e)) (a, stored) u.blocks n

      go : ((shard_at u a ≡ shard) × (shard < length u.swept) × (slice_index (slice_set u.swept shard (slice_index u.epochs shard)) (shard_at u a) ≡ slice_index u.epochs shard))
          ⊎ ((slice_index (slice_set u.swept shard (slice_index u.epochs shard)) (shard_at u a) ≡ slice_index u.swept (shard_at u a)) × (shard < length u.swept → shard_at u a ≢ shard))
          → Reaches (sweep u shard).blocks (retained_addresses (sweep u shard)) a
      go (inl h) =
          let later : epoch + 2 ≤ slice_index u.epochs shard = omega (arith, h.2, late) in
          let older : stored.born < slice_index u.epochs shard = omega (arith, later, born_before a stored m.0) in
          let of_run : (shard_at u a == shard && nat_lt stored.born run) ≡ true = both (shard_at u a == shard) (nat_lt stored.born run) (eq-eqb (shard_at u a) shard h.0) (lt_true stored.born run older) in
          let seen : is_among (reached_from u (anchors u run)) a ≡ true = stays_by (shard_at u a == shard && nat_lt stored.born run) (is_among (reached_from u (anchors u run)) a) of_run m.1 in
          still a (Reaches-more u.blocks (anchors u run) (retained_addresses u) (only_roots later) a (reached_from_is u (anchors u run) a (listed_is u (anchors u run) a its.distinct seen)))
      go (inr h) =
          let late_then : epoch + 2 ≤ slice_index u.swept (shard_at u a) = omega (arith, h.0, late) in
          still a (its.lately a stored m.0 late_then)

  swept_since : (limits : Limits) → IsSince epoch (sweep u shard)
  swept_since limits = record {
    valid = sweep_valid u its.valid shard may;
    distinct = step-distinct limits u (sweeps shard) its.distinct;
    given = λ e m. its.given e (member_of_filter (λ (e : Address × ℕ). is_among (map (λ (b : Address × StoredBlock). b.0) (sweep u shard).blocks) e.0) e u.given m).0;
    dropped = its.dropped;
    lately = swept_lately;
  }

-- ---- an enter

module _ (epoch : ℕ) (u : Store) (its : IsSince epoch u) (shard : ℕ) (valid : Valid (enter u shard)) where
  abbrev entered : Store
  entered = record u { epochs = slice_set u.epochs shard (slice_index u.epochs shard + 1) }

  kept_on : (a : Address) → Member a (retained_addresses u) → Member a (retained_addresses (enter u shard))
  kept_on a m =
      let k = kept_root u.roots a m in
      let stays_there : stays entered k.0 ≡ true = ap (λ (o : Option ℕ). stays entered (record k.0 { dropped = o })) k.2 in
      subst (λ (b : Address). Member b (retained_addresses (enter u shard))) (sym k.3)
      (keeps_root (enter u shard).roots k.0 (member-filter (stays entered) k.0 u.roots k.1 stays_there) k.2)

  entered_since : IsSince epoch (enter u shard)
  entered_since = record {
    valid = valid;
    distinct = its.distinct;
    given = its.given;
    dropped = λ root d m e. its.dropped root d (member_of_filter (stays entered) root u.roots m).0 e;
    lately = λ a stored m late.
        Reaches-more u.blocks (retained_addresses u) (retained_addresses (enter u shard)) (λ b n. start (kept_on b n)) a
        (its.lately a stored m (subst (λ (n : ℕ). epoch + 2 ≤ slice_index u.swept (shard_of n a)) (enter-length u shard) late));
  }

-- ---- along a journal

delete_valid : (limits : Limits) (u : Store) → Valid u → NothingRefuses limits u asked.Delete → Valid (enter u 0)
unfolding refusals refusals_told
delete_valid limits u v none = subst (λ (j : Judged). Valid j.store) (judge_deleted limits u none) (judge_valid limits u v op.Delete)

module _ (limits : Limits) (epoch : ℕ) where
  enter_on : (u : Store) (before : List DeedEntry) (shard : ℕ) (r : Reply) → IsDeedOf limits u before (deed.Entered shard) r → IsSince epoch u → IsSince epoch (enter u shard)
  enter_on u before shard (reply.Run e) done its =
      entered_since epoch u its shard (subst (λ (k : ℕ). Valid (enter u k)) (sym done.0) (delete_valid limits u its.valid done.1))
  enter_on u before shard (reply.Enter e) done its = entered_since epoch u its shard (enter_valid u its.valid shard done.1)
  enter_on u before shard other done its = absurd done

  one : (u : Store) (before : List DeedEntry) (d : Deed) (r : Reply) → IsDeedOf limits u before d r → ChangesNothingHeld d → IsSince epoch u → IsSince epoch (deed_store u d)
  one u before (deed.Entered shard) r done quiet its = enter_on u before shard r done its
  one u before (deed.Swept shard) r done quiet its = swept_since epoch u its shard done.1 limits
  one u before (deed.Refused o) r done quiet its = its
  one u before deed.Nothing r done quiet its = its
  one u before (deed.Opened name) r done quiet its = absurd quiet
  one u before (deed.Closed name) r done quiet its = absurd quiet
  one u before (deed.Wrote name a pointers handle) r done quiet its = absurd quiet
  one u before (deed.Marked name a handle) r done quiet its = absurd quiet
  one u before (deed.ReadBlock name a e handles) r done quiet its = absurd quiet
  one u before (deed.Looked name key handle) r done quiet its = absurd quiet
  one u before (deed.Rooted key a) r done quiet its = absurd quiet
  one u before (deed.Dropped key) r done quiet its = absurd quiet
  one u before (deed.Forgot name handle) r done quiet its = absurd quiet

  along : (u : Store) (before es : List DeedEntry) → AreDeeds limits u before es → AllByRecursion (λ (e : DeedEntry). ChangesNothingHeld e.deed) es → IsSince epoch u → IsSince epoch (store_after u es)
  along u before [] deeds quiet its = its
  along u before (e ∷ es) deeds quiet its = along (deed_store u e.deed) (before ++ e ∷ []) es deeds.1 quiet.1 (one u before e.deed e.reply deeds.0.done quiet.0 its)

  low_shard : (u : Store) → Valid u → (a : Address) → shard_at u a < length u.epochs
  low_shard u v a = mod-lt (slice_index a.0 31) v.epochs.some_shard

  begins : (s : Store) → IsUpTo s epoch → IsSince epoch s
  begins s its = record {
    valid = v;
    distinct = its.distinct;
    given = λ e m. let now : e.1 ≤ epoch_at s e.0 = v.given.now e m in omega (arith, now, its.entered (shard_at s e.0) (low_shard s v e.0));
    dropped = λ root d m e. its.dropped root d (contains_from_member root s.roots m) e;
    lately = λ a stored m late.
        absurd (omega (arith, late, v.epochs.swept_not_ahead (shard_at s a) (low_shard s v a), its.entered (shard_at s a) (low_shard s v a)));
  }
    where
      v : Valid s
      v = valid_from_is s its.valid

pub leaves_reached : (limits : Limits) (s : Store) (epoch : ℕ) (before es : List DeedEntry) → IsUpTo s epoch → AreDeeds limits s before es → AllByRecursion (λ (e : DeedEntry). ChangesNothingHeld e.deed) es → HaveSweptTwice (store_after s es) epoch
    → (a : Address) (stored : StoredBlock) → block_at (store_after s es) a ≡ Some stored → IsReached (store_after s es) (retained_addresses (store_after s es)) a
leaves_reached limits s epoch before es upto deeds quiet twice a stored at =
    let t : Store = store_after s es in
    let its : IsSince epoch t = along limits epoch s before es deeds quiet (begins limits epoch s upto) in
    is_from_reached t (retained_addresses t) a
    (its.lately a stored (member_from_found t.blocks a stored at) (twice (shard_at t a) (low_shard limits epoch t its.valid a)))
