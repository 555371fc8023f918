-- What entries and ends of rounds do to a catalogue is what they do to what the machine sees of it, up to the order of lists.
use Rattle.std.proofs.Common.{Ordering, Less, Equal, Greater, ◌≡◌, inl, inr, ℕ, zero, suc, ◌+◌, ◌-◌, ◌<◌, ◌≤◌, ◌^◌, ◌==◌, ◌&&◌, List, [], ◌∷◌, map, Bool, true, false, cond, if◌then◌else◌, Option, Some, None, is_some, refl, sym, ap, ◌∙◌, subst, arith, nat_le}
use Rattle.std.proofs.lemmas.Bool.{and_parts}
use Rattle.std.proofs.lemmas.Bool.Decides.{nat_tests}
use Rattle.std.proofs.lemmas.Map.Keys.{sorted_head, sorted_tail}
use Rattle.std.specs.BTreeMap.{insert_entry, is_at}
use Rattle.std.specs.List.{AllByRecursion}
use Rattle.std.specs.List.Sorted.{IsStrictlySortedBy}
use Rattle.std.specs.Map.{lookup, keys_of, set_value}
use Rattle.std.specs.Option.{option_map}
use Rattle.std.specs.Ordering.{match_ordering}
use Rattle.hs_limits.specs.declared.address.Address.{Address}
use Rattle.hs_model.specs.Reach.{is_same}
use Rattle.hs_model.specs.Store.{address_cmp, is_retained}
use Rattle.hs_model.proofs.Members.{at_is_same, same_from}
use Rattle.hs_model.proofs.SetLemmas.{same-sym}
use Rattle.hs_laws.proofs.InsertLemmas.{compare}
use Rattle.hs_rounds.specs.declared.body.RoundBody.{RoundBody}
use Rattle.hs_rounds.specs.declared.place.Place.{Place}
use Rattle.hs_rounds.specs.Rounds.{told_by, have_told, have_told_zero, is_zero_total, changes_in, from_round}
use Rattle.hs_deletion.specs.Records.{BlockRecord, change_if, given_in, is_under, dropped_in, entered, root_entered}
use Rattle.hs_deletion.specs.Machine.{Layout, Round, Machine, sum_below}
use Rattle.hs_deletion.specs.Rounds.{times}
use Rattle.hs_deletion.specs.Catalogue.{ShardCatalogue, all_below, open_round, entered_in, recounted_in}
use Rattle.hs_deletion.specs.Catalogue.{is_complete as is_complete_there, is_open_last}
use Rattle.hs_deletion.specs.Following.{HasSame, IsSent, IsFollowing}
use Rattle.hs_deletion.proofs.SumLemmas.{sum_below_same, sum_below_none, none_of_sum_below}
use Rattle.hs_fold.specs.Runs.Clients.{remark, end_retention}
use Rattle.hs_fold.specs.Runs.Counts.{amount_at}
use Rattle.hs_fold.specs.Runs.Facts.{Facts, RootFacts, Catalogue, each_block}
use Rattle.hs_fold.specs.Runs.Rounds.{is_new, is_new_root, count_block, count_root, enter_epoch, is_running, is_complete, is_last, moved_by, open_deltas, log_got}
use Rattle.hs_joint.specs.Seen.{seen_block, seen_root, seen_round, seen}
use Rattle.hs_joint.proofs.AmountLemmas.{times_repeated, amount_each, moved_first, moved_later}
use Rattle.hs_joint.proofs.GotLookups.{logged_or_old, kept_is_old, each_of_all, all_of_each}
use Rattle.hs_joint.proofs.SameLists.{same_as, same_then, same_swap}

-- ---- a catalogue that is like one that follows

pub record IsLike (c d : ShardCatalogue) : Type 0 where
  pub blocks : HasSame c.blocks d.blocks
  pub roots : HasSame c.roots d.roots
  pub epoch : c.epoch ≡ d.epoch
  pub swept : c.swept ≡ d.swept
  pub round : c.swept < c.epoch → c.round ≡ d.round
  pub got : (sender epoch round : ℕ) (body : Round) → c.got sender epoch round ≡ Some body → d.got sender epoch round ≡ Some body

pub follow_like : (layout : Layout) (m : Machine) (g : ℕ) (c d : ShardCatalogue) → IsLike c d → IsFollowing layout m g d → IsFollowing layout m g c
follow_like layout m g c d l f = record {
  blocks = same_then c.blocks d.blocks _ l.blocks f.blocks;
  roots = same_then c.roots d.roots _ l.roots f.roots;
  epoch = l.epoch ∙ f.epoch;
  swept = l.swept ∙ f.swept;
  round = λ r. l.round (omega (arith, r, l.epoch, l.swept, f.epoch, f.swept)) ∙ f.round r;
  got = λ sender epoch round body q. f.got sender epoch round body (l.got sender epoch round body q);
}

-- ---- Block, Mark, Drop

pub seen_insert : (es : List (Address × Facts)) (a : Address) (v : Facts) → lookup (is_at (address_cmp a)) es ≡ None → HasSame (map seen_block (insert_entry address_cmp es a v)) (seen_block (a, v) ∷ map seen_block es)
seen_insert [] a v h = same_as (seen_block (a, v) ∷ []) (seen_block (a, v) ∷ []) refl
seen_insert (x ∷ es) a v h = go (seen_insert es a v) (address_cmp a x.0) refl
  where
    absent : lookup (is_at (address_cmp a)) (x ∷ es) ≡ None → lookup (is_at (address_cmp a)) es ≡ None
    absent n = step (is_at (address_cmp a) x.0) n
      where
        step : (t : Bool) → cond t (Some x.1) (lookup (is_at (address_cmp a)) es) ≡ None → lookup (is_at (address_cmp a)) es ≡ None
        step true n = cc n
        step false n = n

    go : (lookup (is_at (address_cmp a)) es ≡ None → HasSame (map seen_block (insert_entry address_cmp es a v)) (seen_block (a, v) ∷ map seen_block es)) → (r : Ordering) → address_cmp a x.0 ≡ r
        → HasSame (map seen_block (match_ordering r ((a, v) ∷ x ∷ es) ((x.0, v) ∷ es) (x ∷ insert_entry address_cmp es a v))) (seen_block (a, v) ∷ seen_block x ∷ map seen_block es)
    go ih Less e = same_as (seen_block (a, v) ∷ seen_block x ∷ map seen_block es) (seen_block (a, v) ∷ seen_block x ∷ map seen_block es) refl
    go ih Equal e = (let at : is_at (address_cmp a) x.0 ≡ true = at_is_same a x.0 ∙ compare a x.0 Equal e in let found : lookup (is_at (address_cmp a)) (x ∷ es) ≡ Some x.1 = rw at refl in cc (h, found))
    go ih Greater e = same_swap (seen_block x) (seen_block (a, v)) (map seen_block (insert_entry address_cmp es a v)) (map seen_block es) (ih (absent h))

abbrev marks : Address → ℕ → BlockRecord → BlockRecord
marks a epoch = change_if (λ b. is_same b.address a) (given_in epoch)

not_marked : (a : Address) (epoch : ℕ) (es : List (Address × Facts)) → AllByRecursion (λ y. address_cmp a y ≡ Less) (keys_of es) → map (marks a epoch) (map seen_block es) ≡ map seen_block es
not_marked a epoch [] h = refl
not_marked a epoch (x ∷ es) h = rw (same-sym x.0 a, compare a x.0 Less h.0) (ap (λ bs. seen_block x ∷ bs) (not_marked a epoch es h.1))

pub seen_mark : (a : Address) (epoch : ℕ) (f : Facts) (es : List (Address × Facts)) → IsStrictlySortedBy address_cmp (keys_of es) → lookup (is_at (address_cmp a)) es ≡ Some f → map seen_block (set_value (is_at (address_cmp a)) es (remark epoch f)) ≡ map (marks a epoch) (map seen_block es)
seen_mark a epoch f [] d e = cc e
seen_mark a epoch f (x ∷ es) d e = go (seen_mark a epoch f es (sorted_tail address_cmp x.0 (keys_of es) d)) (is_same a x.0) refl
  where
    go : (lookup (is_at (address_cmp a)) es ≡ Some f → map seen_block (set_value (is_at (address_cmp a)) es (remark epoch f)) ≡ map (marks a epoch) (map seen_block es)) → (t : Bool) → is_same a x.0 ≡ t → map seen_block (set_value (is_at (address_cmp a)) (x ∷ es) (remark epoch f)) ≡ map (marks a epoch) (map seen_block (x ∷ es))
    go ih true t =
        let at : is_at (address_cmp a) x.0 ≡ true = at_is_same a x.0 ∙ t in
        let is : Some x.1 ≡ Some f = rw at at e in
        let one : x.1 ≡ f = cc is in
        let up : AllByRecursion (λ y. address_cmp a y ≡ Less) (keys_of es) = subst (λ k. AllByRecursion (λ y. address_cmp k y ≡ Less) (keys_of es)) (sym (same_from a x.0 t)) (sorted_head address_cmp x.0 (keys_of es) d) in
        rw (at, same-sym x.0 a, t, ← one) (ap (λ bs. seen_block (x.0, remark epoch x.1) ∷ bs) (sym (not_marked a epoch es up)))
    go ih false t =
        let at : is_at (address_cmp a) x.0 ≡ false = at_is_same a x.0 ∙ t in
        let below : lookup (is_at (address_cmp a)) es ≡ Some f = rw at at e in
        rw (at, same-sym x.0 a, t) (ap (λ bs. seen_block x ∷ bs) (ih below))

pub seen_drop : (key : List ℕ) (epoch shard : ℕ) (rs : List RootFacts) → map (seen_root shard) (map (end_retention key epoch) rs) ≡ map (change_if (is_under key) (dropped_in epoch)) (map (seen_root shard) rs)
seen_drop key epoch shard [] = refl
seen_drop key epoch shard (r ∷ rs) = rw (seen_drop key epoch shard rs) (go (is_retained key r.root))
  where
    go : (b : Bool) → seen_root shard (cond b (record r { root = record r.root { dropped = Some epoch } }) r) ∷ map (change_if (is_under key) (dropped_in epoch)) (map (seen_root shard) rs)
        ≡ cond b (dropped_in epoch (seen_root shard r)) (seen_root shard r) ∷ map (change_if (is_under key) (dropped_in epoch)) (map (seen_root shard) rs)
    go true = refl
    go false = refl

-- ---- Enter

seen_counted : (epoch : ℕ) (es : List (Address × Facts)) → map seen_block (each_block (count_block epoch) es) ≡ map (entered epoch) (map seen_block es)
seen_counted epoch [] = refl
seen_counted epoch (e ∷ es) = rw (seen_counted epoch es) (go (is_new epoch e.1))
  where
    go : (b : Bool) → seen_block (e.0, cond b (record e.1 { counted = true }) e.1) ∷ map (entered epoch) (map seen_block es) ≡ cond b (record (seen_block e) { counted = true }) (seen_block e) ∷ map (entered epoch) (map seen_block es)
    go true = refl
    go false = refl

seen_counted_roots : (epoch shard : ℕ) (rs : List RootFacts) → map (seen_root shard) (map (count_root epoch) rs) ≡ map (root_entered epoch) (map (seen_root shard) rs)
seen_counted_roots epoch shard [] = refl
seen_counted_roots epoch shard (r ∷ rs) = rw (seen_counted_roots epoch shard rs) (go (is_new_root epoch r))
  where
    go : (b : Bool) → seen_root shard (cond b (record r { counted = true }) r) ∷ map (root_entered epoch) (map (seen_root shard) rs) ≡ cond b (record (seen_root shard r) { counted = true }) (seen_root shard r) ∷ map (root_entered epoch) (map (seen_root shard) rs)
    go true = refl
    go false = refl

-- ---- what came

module _ (shard : ℕ) (c : Catalogue) where
  abbrev C : ShardCatalogue
  C = seen shard c

  pub seen_kept : (E R sender epoch round : ℕ) (body : Round) → option_map (seen_round round) (told_by epoch round (from_round E R c.got) sender) ≡ Some body → C.got sender epoch round ≡ Some body
  seen_kept E R sender epoch round body e = go (told_by epoch round (from_round E R c.got) sender) refl e
    where
      go : (o : Option RoundBody) → told_by epoch round (from_round E R c.got) sender ≡ o → option_map (seen_round round) o ≡ Some body → C.got sender epoch round ≡ Some body
      go None q e = cc e
      go (Some told) q e = ap (option_map (seen_round round)) (kept_is_old E R c.got (record { epoch = epoch; round = round; from = sender }) told q) ∙ e

  pub enter_like : (n : ℕ) → IsLike (seen shard (enter_epoch n c)) (entered_in C)
  enter_like n = record {
    blocks = same_as (map seen_block (each_block (count_block (c.epoch + 1)) c.blocks)) (map (entered (c.epoch + 1)) C.blocks) (seen_counted (c.epoch + 1) c.blocks);
    roots = same_as (map (seen_root shard) (map (count_root (c.epoch + 1)) c.roots)) (map (root_entered (c.epoch + 1)) C.roots) (seen_counted_roots (c.epoch + 1) shard c.roots);
    epoch = refl;
    swept = refl;
    round = λ l. refl;
    got = λ sender epoch round body e. seen_kept (c.epoch + 1) 0 sender epoch round body e;
  }

  -- a Got that was sent is logged
  pub logged_follows : (layout : Layout) (m : Machine) → IsFollowing layout m shard C → (place : Place) (told : RoundBody) → IsSent layout m.states shard place.from place.epoch place.round (seen_round place.round told) → IsFollowing layout m shard (seen shard (log_got place told c))
  logged_follows layout m f place told sent = record {
    blocks = f.blocks;
    roots = f.roots;
    epoch = f.epoch;
    swept = f.swept;
    round = f.round;
    got = λ sender epoch round body e. there sender epoch round body e;
  }
    where
      there : (sender epoch round : ℕ) (body : Round) → option_map (seen_round round) (told_by epoch round (log_got place told c).got sender) ≡ Some body → IsSent layout m.states shard sender epoch round body
      there sender epoch round body e = go (told_by epoch round (log_got place told c).got sender) refl e
        where
          go : (o : Option RoundBody) → told_by epoch round (log_got place told c).got sender ≡ o → option_map (seen_round round) o ≡ Some body → IsSent layout m.states shard sender epoch round body
          go None q e = cc e
          go (Some b) q e = elim (logged_or_old c.got place (record { epoch = epoch; round = round; from = sender }) told b q) [
            | inl p ↦ (
                let is : seen_round round told ≡ body = ap (seen_round round) p.1 ∙ cc e in
                subst (λ (x : Round). IsSent layout m.states shard sender epoch round x) is
                (subst (λ (x : Place). IsSent layout m.states shard x.from x.epoch x.round (seen_round x.round told)) (sym p.0) sent)
                )
            | inr p ↦ f.got sender epoch round body (ap (option_map (seen_round round)) p ∙ e)
          ]

  -- ---- the open round

  pub told_each : (n epoch round : ℕ) → have_told n epoch round c.got ≡ true → (h : ℕ) → h < n → is_some (told_by epoch round c.got h) ≡ true
  told_each n epoch round e h l = ap (λ k. is_some (told_by epoch round c.got k)) (zero_left h) ∙ each_of_all n 0 (λ from. is_some (told_by epoch round c.got from)) e h l
    where
      zero_left : (k : ℕ) → k ≡ 0 + k
      zero_left k = omega arith

  some_mapped : (round : ℕ) (o : Option RoundBody) → is_some (option_map (seen_round round) o) ≡ is_some o
  some_mapped round None = refl
  some_mapped round (Some told) = refl

  all_below_each : (n : ℕ) (test : ℕ → Bool) → ((k : ℕ) → k < n → test k ≡ true) → all_below n test ≡ true
  unfolding all_below
  all_below_each zero test h = refl
  all_below_each (suc n) test h = ap (λ b. b && all_below n test) (h n (omega arith)) ∙ all_below_each n test (λ k l. h k (omega (arith, l)))

  pub complete_seen : (n : ℕ) → is_complete n c ≡ true → is_complete_there n C ≡ true
  complete_seen n e =
      let p = and_parts (is_running c) (have_told n c.epoch c.round c.got) e in
      ap (λ b. b && all_below n (λ sender. is_some (C.got sender c.epoch c.round))) p.0
      ∙ all_below_each n (λ sender. is_some (C.got sender c.epoch c.round)) (λ h l. some_mapped c.round (told_by c.epoch c.round c.got h) ∙ told_each n c.epoch c.round p.1 h l)

  abbrev told_for : ℕ → Option RoundBody
  told_for h = told_by c.epoch c.round c.got h

  total_zero : (h : ℕ) → (o : Option RoundBody) → told_for h ≡ o → is_zero_total o ≡ true → (open_round C h).total ≡ 0
  total_zero h None q e = cc e
  total_zero h (Some told) q e = rw q (let z : (told.total == 0) ≡ true = e in grind (arith, nat_tests, z))

  zero_total : (h : ℕ) → (o : Option RoundBody) → told_for h ≡ o → is_some o ≡ true → (open_round C h).total ≡ 0 → is_zero_total (told_for h) ≡ true
  zero_total h None q s e = cc s
  zero_total h (Some told) q s e = rw q (let z : told.total ≡ 0 = rw q at e in grind (arith, nat_tests, z))

  pub last_seen : (n : ℕ) → is_complete n c ≡ true → is_last n c ≡ is_open_last n C
  last_seen n e = ap (λ b. nat_le 1 c.round && b) (go (have_told_zero n c.epoch c.round c.got) refl (sum_below n (λ h. (open_round C h).total) == 0) refl)
    where
      told : (h : ℕ) → h < n → is_some (told_for h) ≡ true
      told h l = told_each n c.epoch c.round (and_parts (is_running c) (have_told n c.epoch c.round c.got) e).1 h l

      zero_left : (k : ℕ) → k ≡ 0 + k
      zero_left k = omega arith

      go : (a : Bool) → have_told_zero n c.epoch c.round c.got ≡ a → (b : Bool) → (sum_below n (λ h. (open_round C h).total) == 0) ≡ b → have_told_zero n c.epoch c.round c.got ≡ (sum_below n (λ h. (open_round C h).total) == 0)
      go true p true q = p ∙ sym q
      go false p false q = p ∙ sym q
      go true p false q =
          let none : sum_below n (λ h. (open_round C h).total) ≡ 0 = sum_below_none n (λ h. (open_round C h).total) (λ h l. total_zero h (told_for h) refl (ap (λ k. is_zero_total (told_for k)) (zero_left h) ∙ each_of_all n 0 (λ from. is_zero_total (told_for from)) p h l)) in
          absurd (grind (arith, nat_tests, none, q))
      go false p true q =
          let none : sum_below n (λ h. (open_round C h).total) ≡ 0 = grind (arith, nat_tests, q) in
          let all : have_told_zero n c.epoch c.round c.got ≡ true = all_of_each n 0 (λ from. is_zero_total (told_for from)) (λ h l. ap (λ k. is_zero_total (told_for k)) (sym (zero_left h)) ∙ zero_total h (told_for h) refl (told h l) (none_of_sum_below n (λ k. (open_round C k).total) none h l)) in
          cc (p, all)

  -- ---- what it says of an address

  open_amount : (h : ℕ) (a : Address) → (times a (open_round C h).raises ≡ (if c.round == 0 then amount_at a (changes_in (told_for h)) else 0)) × (times a (open_round C h).lowers ≡ (if c.round == 0 then 0 else amount_at a (changes_in (told_for h))))
  unfolding times
  open_amount h a = go (told_for h) refl (c.round == 0) refl
    where
      go : (o : Option RoundBody) → told_for h ≡ o → (b : Bool) → (c.round == 0) ≡ b → (times a (open_round C h).raises ≡ (if c.round == 0 then amount_at a (changes_in (told_for h)) else 0)) × (times a (open_round C h).lowers ≡ (if c.round == 0 then 0 else amount_at a (changes_in (told_for h))))
      go None q true e = rw (q, e) (refl, refl)
      go None q false e = rw (q, e) (refl, refl)
      go (Some told) q true e = rw (q, e) (times_repeated a told.deltas, refl)
      go (Some told) q false e = rw (q, e) (refl, times_repeated a told.deltas)

  abbrev pub raised_open : ℕ → Address → ℕ
  raised_open n a = sum_below n (λ h. times a (open_round C h).raises)

  abbrev pub lowered_open : ℕ → Address → ℕ
  lowered_open n a = sum_below n (λ h. times a (open_round C h).lowers)

  sum_zero : (n : ℕ) → sum_below n (λ h. 0) ≡ 0
  sum_zero n = sum_below_none n (λ h. 0) (λ h l. refl)

  pub open_sums : (n : ℕ) (a : Address) (b : Bool) → (c.round == 0) ≡ b → (raised_open n a ≡ (if b then amount_at a (open_deltas n c) else 0)) × (lowered_open n a ≡ (if b then 0 else amount_at a (open_deltas n c)))
  open_sums n a true e = (
    sum_below_same n (λ h. times a (open_round C h).raises) (λ h. amount_at a (changes_in (told_for h))) (λ h l. (open_amount h a).0 ∙ rw e refl) ∙ sym (amount_each a (λ h. changes_in (told_for h)) n),
    sum_below_same n (λ h. times a (open_round C h).lowers) (λ h. 0) (λ h l. (open_amount h a).1 ∙ rw e refl) ∙ sum_zero n,
  )
  open_sums n a false e = (
    sum_below_same n (λ h. times a (open_round C h).raises) (λ h. 0) (λ h l. (open_amount h a).0 ∙ rw e refl) ∙ sum_zero n,
    sum_below_same n (λ h. times a (open_round C h).lowers) (λ h. amount_at a (changes_in (told_for h))) (λ h l. (open_amount h a).1 ∙ rw e refl) ∙ sym (amount_each a (λ h. changes_in (told_for h)) n),
  )

  -- where a count stays within its bounds it moves as the machine's does
  pub record IsWithin (n : ℕ) (e : Address × Facts) : Type 0 where
    pub above : e.1.count + raised_open n e.0 < 2 ^ 32
    pub below : lowered_open n e.0 ≤ e.1.count + raised_open n e.0

  pub count_seen : (n : ℕ) (e : Address × Facts) → IsWithin n e → moved_by c.round e.0 (open_deltas n c) e.1.count ≡ (e.1.count + raised_open n e.0) - lowered_open n e.0
  count_seen n e w = go (c.round == 0) refl
    where
      go : (b : Bool) → (c.round == 0) ≡ b → moved_by c.round e.0 (open_deltas n c) e.1.count ≡ (e.1.count + raised_open n e.0) - lowered_open n e.0
      go true q =
          let s = open_sums n e.0 true q in
          let up : raised_open n e.0 ≡ amount_at e.0 (open_deltas n c) = s.0 in
          let down : lowered_open n e.0 ≡ 0 = s.1 in
          moved_first c.round e.0 (open_deltas n c) e.1.count q (omega (arith, w.above, up)) ∙ omega (arith, up, down)
      go false q =
          let s = open_sums n e.0 false q in
          let up : raised_open n e.0 ≡ 0 = s.0 in
          let down : lowered_open n e.0 ≡ amount_at e.0 (open_deltas n c) = s.1 in
          moved_later c.round e.0 (open_deltas n c) e.1.count q (omega (arith, w.below, up, down)) ∙ omega (arith, up, down)

  abbrev pub settle : ℕ → Address × Facts → Address × Facts
  settle n e = (e.0, record e.1 { count = moved_by c.round e.0 (open_deltas n c) e.1.count })

  pub settle_seen : (n : ℕ) (e : Address × Facts) → IsWithin n e → seen_block (settle n e) ≡ recounted_in n C (seen_block e)
  settle_seen n e w = ap (λ (k : ℕ). record (seen_block e) { count = k }) (count_seen n e w)
