-- What deeds do to the number of retained roots, and to the epoch of a shard.
use Rattle.std.proofs.Common.{◌≡◌, ◌∙◌, sym, ap, subst, ◌⊎◌, inl, inr, ℕ, ◌+◌, ◌<◌, ◌≤◌, ◌≢◌, ◌==◌, Bool, true, false, cond, List, [], ◌∷◌, ◌++◌, Option, Some, None, refl, arith, filter, is_none, length, nat_le, nat_lt}
use Rattle.std.proofs.lemmas.Bool.{and_parts, eq-eqb, eqb-true}
use Rattle.std.proofs.lemmas.Bool.Decides.{nat_tests}
use Rattle.std.proofs.lemmas.List.{length-set}
use Rattle.std.specs.List.{count_by, find}
use Rattle.std.specs.Ordering.{is_gt}
use Rattle.std.specs.Prelude.{bytes_eq, slice_index, slice_set}
use Rattle.hs_deeds.proofs.GrantedLemmas.{some_where, when_false}
use Rattle.hs_deeds.specs.Told.{store_after}
use Rattle.hs_laws.proofs.EnterLemmas.{set-at}
use Rattle.hs_laws.proofs.JudgeKeeps.{all_none}
use Rattle.hs_laws.proofs.RootKeeps.{found_root}
use Rattle.hs_limits.specs.declared.limits.Limits.{Limits}
use Rattle.hs_loaded.specs.Counts.{KeepNewKeys, KeepsNewKey, dropped_in, entered_in, enters_shard, is_dropped, is_rooted, retained_count, rooted_in}
use Rattle.hs_model.proofs.CountLemmas.{count-cons}
use Rattle.hs_model.specs.declared.deed.Deed.{Deed}
use Rattle.hs_model.specs.declared.deed.Deed.TheVariants as deed
use Rattle.hs_model.specs.declared.op.Asked.TheVariants as asked
use Rattle.hs_model.specs.declared.reply.Reply.{Reply}
use Rattle.hs_model.specs.declared.reply.Reply.TheVariants as reply
use Rattle.hs_model.specs.Deeds.{AreDeeds, Busy, DeedEntry, IsDeed, IsDeedOf, MayBeRefused, NothingRefuses, Refused, deed_store, refusals_told}
use Rattle.hs_model.specs.Inner.{enter, stays}
use Rattle.hs_model.specs.Judge.{drop_root, roots_with}
use Rattle.hs_model.specs.Refusals.{epoch_end, first, no_key, refused_when, running}
use Rattle.hs_model.specs.Store.{Root, Session, Store, is_retained, place_root, put_session, retained_at, root_cmp, root_epoch, without_first}

-- ---- counts of roots

-- one where a test holds
abbrev once : Bool → ℕ
once b = cond b 1 0

abbrev is_kept : Root → Bool
is_kept root = is_none root.dropped

count_place : (root : Root) (roots : List Root) → count_by is_kept (place_root root roots) ≡ once (is_kept root) + count_by is_kept roots
count_place root [] = count-cons is_kept root []
count_place root (x ∷ rest) = go (is_gt (root_cmp root x)) (count_place root rest)
  where
    go : (b : Bool) → count_by is_kept (place_root root rest) ≡ once (is_kept root) + count_by is_kept rest
        → count_by is_kept (cond b (x ∷ place_root root rest) (root ∷ x ∷ rest)) ≡ once (is_kept root) + count_by is_kept (x ∷ rest)
    go true ih =
        let one : count_by is_kept (x ∷ place_root root rest) ≡ once (is_kept x) + count_by is_kept (place_root root rest) = count-cons is_kept x (place_root root rest) in
        let two : count_by is_kept (x ∷ rest) ≡ once (is_kept x) + count_by is_kept rest = count-cons is_kept x rest in
        omega (arith, one, two, ih)
    go false ih = count-cons is_kept root (x ∷ rest)

count_without : (test : Root → Bool) (roots : List Root) (root : Root) → find test roots ≡ Some root → is_kept root ≡ true → count_by is_kept (without_first test roots) + 1 ≡ count_by is_kept roots
count_without test [] root e k = absurd (cc e)
count_without test (x ∷ rest) root e k = go (test x) (count_without test rest root) e
  where
    go : (b : Bool) → (find test rest ≡ Some root → is_kept root ≡ true → count_by is_kept (without_first test rest) + 1 ≡ count_by is_kept rest) → cond b (Some x) (find test rest) ≡ Some root
        → count_by is_kept (cond b rest (x ∷ without_first test rest)) + 1 ≡ count_by is_kept (x ∷ rest)
    go true ih h =
        let same : x ≡ root = cc h in
        let one : count_by is_kept (x ∷ rest) ≡ once (is_kept x) + count_by is_kept rest = count-cons is_kept x rest in
        let its : once (is_kept x) ≡ 1 = ap (λ (b : Bool). once b) (ap (λ (r : Root). is_kept r) same ∙ k) in
        omega (arith, one, its)
    go false ih h =
        let one : count_by is_kept (x ∷ rest) ≡ once (is_kept x) + count_by is_kept rest = count-cons is_kept x rest in
        let two : count_by is_kept (x ∷ without_first test rest) ≡ once (is_kept x) + count_by is_kept (without_first test rest) = count-cons is_kept x (without_first test rest) in
        omega (arith, one, two, ih h k)

count_filter : (q : Root → Bool) → ((root : Root) → is_kept root ≡ true → q root ≡ true) → (roots : List Root) → count_by is_kept (filter q roots) ≡ count_by is_kept roots
count_filter q h [] = refl
count_filter q h (x ∷ rest) = go (q x) refl (count_filter q h rest)
  where
    go : (b : Bool) → q x ≡ b → count_by is_kept (filter q rest) ≡ count_by is_kept rest → count_by is_kept (cond b (x ∷ filter q rest) (filter q rest)) ≡ count_by is_kept (x ∷ rest)
    go true e ih =
        let one : count_by is_kept (x ∷ filter q rest) ≡ once (is_kept x) + count_by is_kept (filter q rest) = count-cons is_kept x (filter q rest) in
        let two : count_by is_kept (x ∷ rest) ≡ once (is_kept x) + count_by is_kept rest = count-cons is_kept x rest in
        omega (arith, one, two, ih)
    go false e ih = by_kept (is_kept x) refl
      where
        by_kept : (k : Bool) → is_kept x ≡ k → count_by is_kept (filter q rest) ≡ count_by is_kept (x ∷ rest)
        by_kept true k = let never : true ≡ false = sym (h x k) ∙ e in absurd (cc never)
        by_kept false k =
            let two : count_by is_kept (x ∷ rest) ≡ once (is_kept x) + count_by is_kept rest = count-cons is_kept x rest in
            let none : once (is_kept x) ≡ 0 = ap (λ (b : Bool). once b) k in
            omega (arith, two, none, ih)

-- ---- each deed

put_roots : (s : Store) (name : List ℕ) (o : Option Session) → (put_session s name o).roots ≡ s.roots
put_roots s name None = refl
put_roots s name (Some session) = refl

kept_stays : (s : Store) (root : Root) → is_none root.dropped ≡ true → stays s root ≡ true
kept_stays s root h = go root.dropped h
  where
    go : (o : Option ℕ) → is_none o ≡ true → stays s (record root { dropped = o }) ≡ true
    go None e = refl
    go (Some d) e = absurd (cc e)

module _ (limits : Limits) (s : Store) (before : List DeedEntry) where
  abbrev Counts : Deed → Type 0
  Counts d = retained_count (deed_store s d) + once (is_dropped d) ≡ retained_count s + once (is_rooted d)

  same_roots : (d : Deed) → (deed_store s d).roots ≡ s.roots → is_dropped d ≡ false → is_rooted d ≡ false → Counts d
  same_roots d e f g =
      let one : retained_count (deed_store s d) ≡ retained_count s = ap (λ (roots : List Root). count_by is_kept roots) e in
      let two : once (is_dropped d) ≡ 0 = ap (λ (b : Bool). once b) f in
      let three : once (is_rooted d) ≡ 0 = ap (λ (b : Bool). once b) g in
      omega (arith, one, two, three)

  rooted_one : (key : List ℕ) (root : Root) → root.dropped ≡ None → retained_at s key ≡ None → count_by is_kept (roots_with (retained_at s key) s.roots root) ≡ count_by is_kept s.roots + 1
  rooted_one key root whole none =
      let placed : count_by is_kept (roots_with (retained_at s key) s.roots root) ≡ count_by is_kept (place_root root s.roots) = ap (λ (o : Option Root). count_by is_kept (roots_with o s.roots root)) none in
      let counted : count_by is_kept (place_root root s.roots) ≡ once (is_kept root) + count_by is_kept s.roots = count_place root s.roots in
      let one : once (is_kept root) ≡ 1 = ap (λ (o : Option ℕ). once (is_none o)) whole in
      omega (arith, placed, counted, one)

  dropped_one : (key : List ℕ) → NothingRefuses limits s (asked.Drop key) → count_by is_kept (drop_root (retained_at s key) s.roots key (root_epoch s key)) + 1 ≡ count_by is_kept s.roots
  unfolding refusals_told
  dropped_one key none =
      let there = some_where (retained_at s key) (when_false (is_none (retained_at s key)) (reply.NoKey key) (all_none (no_key s key ∷ []) none).0) in
      let root : Root = there.0 in
      let test = found_root (is_retained key) s.roots root there.1 in
      let kept : is_kept root ≡ true = (and_parts (is_none root.dropped) (bytes_eq root.key key) test.1).0 in
      let gone : Root = record root { dropped = Some (root_epoch s key) } in
      let is : count_by is_kept (drop_root (retained_at s key) s.roots key (root_epoch s key)) ≡ count_by is_kept (place_root gone (without_first (is_retained key) s.roots)) =
      ap (λ (o : Option Root). count_by is_kept (drop_root o s.roots key (root_epoch s key))) there.1 in
      let placed : count_by is_kept (place_root gone (without_first (is_retained key) s.roots)) ≡ 0 + count_by is_kept (without_first (is_retained key) s.roots) = count_place gone (without_first (is_retained key) s.roots) in
      let less = count_without (is_retained key) s.roots root there.1 kept in
      omega (arith, is, placed, less)

  one_counts : (d : Deed) (r : Reply) → IsDeedOf limits s before d r → KeepsNewKey s d → Counts d
  one_counts (deed.Opened name) r done new = same_roots (deed.Opened name) refl refl refl
  one_counts (deed.Closed name) r done new = same_roots (deed.Closed name) refl refl refl
  one_counts (deed.Wrote name a pointers handle) r done new = same_roots (deed.Wrote name a pointers handle) (put_roots _ name _) refl refl
  one_counts (deed.Marked name a handle) r done new = same_roots (deed.Marked name a handle) (put_roots _ name _) refl refl
  one_counts (deed.ReadBlock name a epoch handles) r done new = same_roots (deed.ReadBlock name a epoch handles) (put_roots _ name _) refl refl
  one_counts (deed.Looked name key handle) r done new = same_roots (deed.Looked name key handle) (put_roots _ name _) refl refl
  one_counts (deed.Rooted key a) r done new = let more = rooted_one key (record { key = key; address = a; dropped = None }) refl new in omega (arith, more)
  one_counts (deed.Dropped key) r done new = let less = dropped_one key done.0 in omega (arith, less)
  one_counts (deed.Forgot name handle) r done new = same_roots (deed.Forgot name handle) (put_roots _ name _) refl refl
  one_counts (deed.Entered shard) r done new =
      let same : retained_count (enter s shard) ≡ retained_count s = count_filter (stays (record s { epochs = slice_set s.epochs shard (slice_index s.epochs shard + 1) })) (λ root k. kept_stays (record s { epochs = slice_set s.epochs shard (slice_index s.epochs shard + 1) }) root k) s.roots in
      omega (arith, same)
  one_counts (deed.Swept shard) r done new = same_roots (deed.Swept shard) refl refl refl
  one_counts (deed.Refused o) r done new = same_roots (deed.Refused o) refl refl refl
  one_counts deed.Nothing r done new = same_roots deed.Nothing refl refl refl

-- ---- all deeds

pub roots_counted : (limits : Limits) (s : Store) (before es : List DeedEntry) → AreDeeds limits s before es → KeepNewKeys s es → retained_count (store_after s es) + dropped_in es ≡ retained_count s + rooted_in es
roots_counted limits s before [] deeds new = refl
roots_counted limits s before (e ∷ es) deeds new =
    let one : retained_count (deed_store s e.deed) + once (is_dropped e.deed) ≡ retained_count s + once (is_rooted e.deed) = one_counts limits s before e.deed e.reply deeds.0.done new.0 in
    let rest : retained_count (store_after (deed_store s e.deed) es) + dropped_in es ≡ retained_count (deed_store s e.deed) + rooted_in es = roots_counted limits (deed_store s e.deed) (before ++ e ∷ []) es deeds.1 new.1 in
    let drops : dropped_in (e ∷ es) ≡ once (is_dropped e.deed) + dropped_in es = count-cons (λ (x : DeedEntry). is_dropped x.deed) e es in
    let keeps : rooted_in (e ∷ es) ≡ once (is_rooted e.deed) + rooted_in es = count-cons (λ (x : DeedEntry). is_rooted x.deed) e es in
    omega (arith, one, rest, drops, keeps)

-- ---- epochs

put_epochs : (s : Store) (name : List ℕ) (o : Option Session) → (put_session s name o).epochs ≡ s.epochs
put_epochs s name None = refl
put_epochs s name (Some session) = refl

module _ (shard : ℕ) (s : Store) (low : shard < length s.epochs) where
  abbrev Rises : Deed → Type 0
  Rises d = slice_index (deed_store s d).epochs shard ≡ slice_index s.epochs shard + once (enters_shard shard d)

  same_epochs : (d : Deed) → (deed_store s d).epochs ≡ s.epochs → enters_shard shard d ≡ false → Rises d
  same_epochs d e f =
      let one : slice_index (deed_store s d).epochs shard ≡ slice_index s.epochs shard = ap (λ (es : List ℕ). slice_index es shard) e in
      let two : once (enters_shard shard d) ≡ 0 = ap (λ (b : Bool). once b) f in
      omega (arith, one, two)

  entered_one : (g : ℕ) → slice_index (slice_set s.epochs g (slice_index s.epochs g + 1)) shard ≡ slice_index s.epochs shard + once (g == shard)
  entered_one g = by_place (set-at s.epochs g (slice_index s.epochs g + 1) shard)
    where
      by_test : (b : Bool) → (g == shard) ≡ b → slice_index (slice_set s.epochs g (slice_index s.epochs g + 1)) shard ≡ slice_index s.epochs shard → (g < length s.epochs → shard ≢ g)
          → slice_index (slice_set s.epochs g (slice_index s.epochs g + 1)) shard ≡ slice_index s.epochs shard + once b
      by_test true e same other = let is : g ≡ shard = eqb-true g shard e in absurd (other (subst (λ (n : ℕ). n < length s.epochs) (sym is) low) (sym is))
      by_test false e same other = omega (arith, same)

      by_place : ((shard ≡ g) × (g < length s.epochs) × (slice_index (slice_set s.epochs g (slice_index s.epochs g + 1)) shard ≡ slice_index s.epochs g + 1))
          ⊎ ((slice_index (slice_set s.epochs g (slice_index s.epochs g + 1)) shard ≡ slice_index s.epochs shard) × (g < length s.epochs → shard ≢ g))
          → slice_index (slice_set s.epochs g (slice_index s.epochs g + 1)) shard ≡ slice_index s.epochs shard + once (g == shard)
      by_place (inl h) =
          let one : once (g == shard) ≡ 1 = ap (λ (b : Bool). once b) (eq-eqb g shard (sym h.0)) in
          let same : slice_index s.epochs shard ≡ slice_index s.epochs g = ap (λ (k : ℕ). slice_index s.epochs k) h.0 in
          omega (arith, one, same, h.2)
      by_place (inr h) = by_test (g == shard) refl h.0 h.1

  one_rises : (d : Deed) → Rises d
  one_rises (deed.Opened name) = same_epochs (deed.Opened name) refl refl
  one_rises (deed.Closed name) = same_epochs (deed.Closed name) refl refl
  one_rises (deed.Wrote name a pointers handle) = same_epochs (deed.Wrote name a pointers handle) (put_epochs _ name _) refl
  one_rises (deed.Marked name a handle) = same_epochs (deed.Marked name a handle) (put_epochs _ name _) refl
  one_rises (deed.ReadBlock name a epoch handles) = same_epochs (deed.ReadBlock name a epoch handles) (put_epochs _ name _) refl
  one_rises (deed.Looked name key handle) = same_epochs (deed.Looked name key handle) (put_epochs _ name _) refl
  one_rises (deed.Rooted key a) = same_epochs (deed.Rooted key a) refl refl
  one_rises (deed.Dropped key) = same_epochs (deed.Dropped key) refl refl
  one_rises (deed.Forgot name handle) = same_epochs (deed.Forgot name handle) (put_epochs _ name _) refl
  one_rises (deed.Entered g) = entered_one g
  one_rises (deed.Swept g) = same_epochs (deed.Swept g) refl refl
  one_rises (deed.Refused o) = same_epochs (deed.Refused o) refl refl
  one_rises deed.Nothing = same_epochs deed.Nothing refl refl

many_epochs : (s : Store) (d : Deed) → length (deed_store s d).epochs ≡ length s.epochs
many_epochs s (deed.Opened name) = refl
many_epochs s (deed.Closed name) = refl
many_epochs s (deed.Wrote name a pointers handle) = ap (λ (es : List ℕ). length es) (put_epochs _ name _)
many_epochs s (deed.Marked name a handle) = ap (λ (es : List ℕ). length es) (put_epochs _ name _)
many_epochs s (deed.ReadBlock name a epoch handles) = ap (λ (es : List ℕ). length es) (put_epochs _ name _)
many_epochs s (deed.Looked name key handle) = ap (λ (es : List ℕ). length es) (put_epochs _ name _)
many_epochs s (deed.Rooted key a) = refl
many_epochs s (deed.Dropped key) = refl
many_epochs s (deed.Forgot name handle) = ap (λ (es : List ℕ). length es) (put_epochs _ name _)
many_epochs s (deed.Entered g) = length-set s.epochs g (slice_index s.epochs g + 1)
many_epochs s (deed.Swept g) = refl
many_epochs s (deed.Refused o) = refl
many_epochs s deed.Nothing = refl

pub epochs_rise : (s : Store) (shard : ℕ) (es : List DeedEntry) → shard < length s.epochs → slice_index (store_after s es).epochs shard ≡ slice_index s.epochs shard + entered_in shard es
epochs_rise s shard [] low = omega arith
epochs_rise s shard (e ∷ es) low =
    let one : slice_index (deed_store s e.deed).epochs shard ≡ slice_index s.epochs shard + once (enters_shard shard e.deed) = one_rises shard s low e.deed in
    let rest : slice_index (store_after (deed_store s e.deed) es).epochs shard ≡ slice_index (deed_store s e.deed).epochs shard + entered_in shard es =
    epochs_rise (deed_store s e.deed) shard es (subst (λ (n : ℕ). shard < n) (sym (many_epochs s e.deed)) low) in
    let more : entered_in shard (e ∷ es) ≡ once (enters_shard shard e.deed) + entered_in shard es = count-cons (λ (x : DeedEntry). enters_shard shard x.deed) e es in
    omega (arith, one, rest, more)

-- ---- a deletion

-- where no run is in progress and the epoch is below the limit, a deletion is not refused
pub deletion_runs : (limits : Limits) (s : Store) (before : List DeedEntry) (e : DeedEntry) → IsDeed limits s before e → e.deed ≡ deed.Refused asked.Delete → ((line : ℕ) → e.reply ≢ reply.Busy line)
    → slice_index s.epochs 0 ≤ slice_index s.swept 0 → slice_index s.epochs 0 < limits.epochs → ⊥
unfolding refusals_told
deletion_runs limits s before e its is free swept low = by (subst (λ (d : Deed). IsDeedOf limits s before d e.reply) is its.done)
  where
    not_running : nat_lt (slice_index s.swept 0) (slice_index s.epochs 0) ≡ false
    not_running = grind (arith, nat_tests, swept)

    not_ended : nat_le limits.epochs (slice_index s.epochs 0) ≡ false
    not_ended = grind (arith, nat_tests, low)

    none : first (running s ∷ epoch_end limits s ∷ []) ≡ None
    none = (λ i. first (refused_when (not_running i) (reply.Running (slice_index s.epochs 0)) ∷ refused_when (not_ended i) (reply.EpochEnd limits.epochs) ∷ []))

    by : MayBeRefused limits s before asked.Delete e.reply → ⊥
    by (Busy line told unanswered) = free line told
    by (Refused r) = let never : None ≡ Some e.reply = sym none ∙ r.first_of in cc never
