-- Along the acts of an event: the lines of a shard's tails stay open while its View has not taken effect, and where it has, an entry of the view took effect.
use Rattle.std.proofs.Common.{◌≡◌, ◌∙◌, ap, sym, subst, ◌⊎◌, inl, inr, ℕ, zero, suc, ◌+◌, ◌-◌, ◌<◌, ◌≤◌, ◌==◌, ◌&&◌, Bool, true, false, not, List, [], ◌∷◌, Option, Some, None, refl, arith, take, drop}
use Rattle.std.proofs.lemmas.Bool.{eq-eqb, ne_eqb}
use Rattle.std.specs.BTreeMap.{is_at}
use Rattle.std.specs.Map.{lookup}
use Rattle.std.specs.Option.{option_map}
use Rattle.std.specs.Ordering.{nat_cmp}
use Rattle.std.specs.Prelude.{if◌then◌else◌, slice_get, slice_index_or, slice_set}
use Rattle.hs_anatomy.proofs.LookLemmas.{found_map, one_or_other}
use Rattle.hs_awaiting.specs.declared.wait.Wait.{Wait}
use Rattle.hs_awaiting.specs.declared.wait.Wait.TheVariants as wait
use Rattle.hs_awaiting.specs.declared.waiting.Waiting.{Waiting}
use Rattle.hs_awaiting.specs.Views.{is_within, restarted}
use Rattle.hs_core_words.specs.Changing.{change_group, post, set_viewed}
use Rattle.hs_core_words.specs.Looking.{front_of, group_of, operation_of}
use Rattle.hs_core_words.specs.State.{Core}
use Rattle.hs_core_words.specs.Views.{begin_view, restart, restart_at}
use Rattle.hs_effects.proofs.GroupLemmas.{group_changed}
use Rattle.hs_effects.specs.Logged.{asked_by}
use Rattle.hs_entry.specs.declared.entry.Entry.{Entry}
use Rattle.hs_entry.specs.declared.entry.Entry.TheVariants as kind
use Rattle.hs_ops.specs.declared.operation.Stage.{Stage}
use Rattle.hs_members.specs.Members.{view_of}
use Rattle.hs_replica.specs.Group.{Group, last_number, renew, renewal}
use Rattle.hs_tails.proofs.MovedLemmas.{MovesAt, proposed_operations, some_waiting}
use Rattle.hs_tails.proofs.SameViewLemmas.{HasSameViews, same_propose}
use Rattle.hs_tails.specs.Lines.{IsUnderWay, WaitsToLog, is_viewed}
use Rattle.hs_tails.specs.Tails.{HasOpenLines, IsOpenAt}

abbrev pub view_at : ℕ → Core → ℕ
view_at g a = (group_of g a).view

-- ---- lists

heads : (x w : Entry) (t ws : List Entry) → x ∷ t ≡ w ∷ ws → x ≡ w
heads x w t ws e = cc e

tails : (x w : Entry) (t ws : List Entry) → x ∷ t ≡ w ∷ ws → t ≡ ws
tails x w t ws e = cc e

some_entry : (x w : Entry) → Some x ≡ Some w → x ≡ w
some_entry x w e = cc e

no_entry : (w : Entry) → None ≡ Some w → ⊥
no_entry w e = cc e

not_empty : (w : Entry) (ws : List Entry) → [] ≡ w ∷ ws → ⊥
not_empty w ws e = cc e

one_dropped : (n : ℕ) (t ws : List Entry) (entry : Entry) → take (suc n) t ≡ take (suc n) ws → slice_get ws n ≡ Some entry → (take n t ≡ take n ws) × (drop n t ≡ entry ∷ drop (suc n) t)
one_dropped n t [] entry same at = absurd (no_entry entry at)
one_dropped n [] (w ∷ ws) entry same at = absurd (not_empty w (take n ws) same)
one_dropped zero (x ∷ t) (w ∷ ws) entry same at = (refl, ap (λ y. y ∷ t) (heads x w (take 0 t) (take 0 ws) same ∙ some_entry w entry at))
one_dropped (suc n) (x ∷ t) (w ∷ ws) entry same at =
    let first : x ≡ w = heads x w (take (suc n) t) (take (suc n) ws) same in
    let rest = one_dropped n t ws entry (tails x w (take (suc n) t) (take (suc n) ws) same) at in
    ((λ i. first i ∷ rest.0 i), rest.1)

-- ---- Views

pub cleared_at : (xs : List Bool) (k : ℕ) → slice_index_or (slice_set xs k false) k false ≡ false
cleared_at [] k = refl
cleared_at (x ∷ xs) zero = refl
cleared_at (x ∷ xs) (suc k) = cleared_at xs k

reached_at : (xs : List Bool) (k : ℕ) → (slice_index_or (slice_set xs k true) k false ≡ true) ⊎ (slice_index_or (slice_set xs k true) k false ≡ slice_index_or xs k false)
reached_at [] k = inr refl
reached_at (x ∷ xs) zero = inl refl
reached_at (x ∷ xs) (suc k) = reached_at xs k

pub set_elsewhere : (xs : List Bool) (k j : ℕ) (b : Bool) → (j ≡ k → ⊥) → slice_index_or (slice_set xs k b) j false ≡ slice_index_or xs j false
set_elsewhere [] k j b apart = refl
set_elsewhere (x ∷ xs) zero zero b apart = absurd (apart refl)
set_elsewhere (x ∷ xs) zero (suc j) b apart = refl
set_elsewhere (x ∷ xs) (suc k) zero b apart = refl
set_elsewhere (x ∷ xs) (suc k) (suc j) b apart = set_elsewhere xs k j b (λ e. apart (ap (λ n. suc n) e))

-- ---- operations that start again

again_same : (shard last : ℕ) (w : Waiting) → ((restarted shard last w).shard ≡ w.shard) × ((restarted shard last w).operation.stage ≡ w.operation.stage)
again_same shard last w = go (w.shard == shard && not (is_within last w.wait))
  where
    go : (b : Bool) → ((if b then record w { wait = wait.View } else w).shard ≡ w.shard) × ((if b then record w { wait = wait.View } else w).operation.stage ≡ w.operation.stage)
    go true = (refl, refl)
    go false = (refl, refl)

again_other : (shard last : ℕ) (w : Waiting) → (w.shard ≡ shard → ⊥) → restarted shard last w ≡ w
again_other shard last w apart = ap (λ b. if b && not (is_within last w.wait) then record w { wait = wait.View } else w) (ne_eqb w.shard shard apart)

within_logs : (last : ℕ) (x : Wait) → is_within last x ≡ true → WaitsToLog x
within_logs last wait.View e = tt
within_logs last (wait.Entry number) e = tt
within_logs last wait.Address e = absurd (cc e)
within_logs last wait.Room e = absurd (cc e)
within_logs last (wait.Bytes number) e = absurd (cc e)

again_waits : (shard last : ℕ) (w : Waiting) → w.shard ≡ shard → WaitsToLog (restarted shard last w).wait
again_waits shard last w own = go (is_within last w.wait) refl
  where
    go : (b : Bool) → is_within last w.wait ≡ b → WaitsToLog (restarted shard last w).wait
    go true e = rw (eq-eqb w.shard shard own, e) (within_logs last w.wait e)
    go false e = rw (eq-eqb w.shard shard own, e) tt

-- ---- what holds between acts, of a shard and its tails as the event has begun

module _ (g : ℕ) (s : Core) (Tail : List Entry → Type 0) where
  -- how many entries took effect since
  abbrev pub since : Core → ℕ
  since a = front_of g a - front_of g s

  abbrev pub Reached : Core → Type 0
  Reached a = ((is_viewed g s ≡ true) × (view_at g a ≡ view_at g s)) ⊎ ((place : ℕ) × ((place < since a) × (slice_get (group_of g s).waiting place ≡ Some (kind.View (view_at g a)))))

  abbrev pub Parked : Core → Type 0
  Parked a = (line : ℕ) (w : Waiting) → operation_of line a ≡ Some w → w.shard ≡ g → WaitsToLog w.wait

  abbrev pub Opened : Core → Type 0
  Opened a = (t : List Entry) → Tail t → take (since a) t ≡ take (since a) (group_of g s).waiting → HasOpenLines a g (drop (since a) t)

  abbrev pub Stands : Core → Type 0
  Stands a = ((is_viewed g a ≡ true) × Reached a) ⊎ ((is_viewed g a ≡ false) × (Parked a × Opened a))

  pub record IsLined (a : Core) : Type 0 where
    pub begun : (line : ℕ) (w : Waiting) → operation_of line a ≡ Some w → IsUnderWay w.operation.stage
    pub state : Stands a

  -- ---- where fronts stay

  module _ (a b : Core) (viewed : is_viewed g b ≡ is_viewed g a) (view : view_at g b ≡ view_at g a) (front : front_of g b ≡ front_of g a) where
    since_same : since b ≡ since a
    since_same = ap (λ n. n - front_of g s) front

    reached_same : Reached a → Reached b
    reached_same (inl k) = inl (k.0, view ∙ k.1)
    reached_same (inr k) = inr (k.0, ((let low = k.1.0 in let n = since_same in omega (arith, low, n)), k.1.1 ∙ ap (λ v. Some (kind.View v)) (sym view)))

    opened_same : ((k : ℕ) → IsOpenAt a g k → IsOpenAt b g k) → Opened a → Opened b
    opened_same stays all t of begins =
        let n = since_same in
        let was : HasOpenLines a g (drop (since a) t) = all t of (ap (λ m. take m t) (sym n) ∙ begins ∙ ap (λ m. take m (group_of g s).waiting) n) in
        subst (λ m. HasOpenLines b g (drop m t)) (sym n) (record { asked = λ at line entry there asks. stays line (was.asked at line entry there asks); once = was.once })

    pub lined_on : ((line : ℕ) (w : Waiting) → operation_of line b ≡ Some w → IsUnderWay w.operation.stage) → (is_viewed g a ≡ false → Parked a → Parked b) → (is_viewed g a ≡ false → Parked a → (k : ℕ) → IsOpenAt a g k → IsOpenAt b g k) → IsLined a → IsLined b
    lined_on begun parks stays h = record {
      begun = begun;
      state = elim h.state [
        | inl k ↦ inl (viewed ∙ k.0, reached_same k.1)
        | inr k ↦ inr (viewed ∙ k.0, (parks k.0 k.1.0, opened_same (stays k.0 k.1.0) k.1.1))
      ];
    }

  viewed_by : (a b : Core) → HasSameViews a b → is_viewed g b ≡ is_viewed g a
  viewed_by a b same = ap (λ vs. slice_index_or vs g false) same.viewed

  -- the operations are the same
  pub lined_same : (a b : Core) → HasSameViews a b → front_of g b ≡ front_of g a → b.operations ≡ a.operations → IsLined a → IsLined b
  lined_same a b same front operations h =
      let at : (line : ℕ) → operation_of line b ≡ operation_of line a = λ line. ap (λ (es : List (ℕ × Waiting)). lookup (is_at (nat_cmp line)) es) operations in
      lined_on a b (viewed_by a b same) (same.views g) front (λ line w there. h.begun line w (sym (at line) ∙ there)) (λ v p line w there of. p line w (sym (at line) ∙ there) of)
      (λ v p k o. record { waiting = o.waiting; at = at k ∙ o.at; judges = o.judges }) h

  -- one operation takes a step
  pub lined_moves : (a b : Core) (line shard : ℕ) (logs : Type 0) → HasSameViews a b → front_of g b ≡ front_of g a → MovesAt line shard logs a b → (is_viewed g a ≡ false → Parked a → shard ≡ g → logs)
      → (is_viewed g a ≡ false → Parked a → IsOpenAt a g line → IsOpenAt b g line) → IsLined a → IsLined b
  lined_moves a b line shard logs same front m quiet stays h = lined_on a b (viewed_by a b same) (same.views g) front begun parks opens h
    where
      begun : (k : ℕ) (w : Waiting) → operation_of k b ≡ Some w → IsUnderWay w.operation.stage
      begun k w there = elim (one_or_other k line) [
        | inl is ↦ (m.own w (subst (λ j. operation_of j b ≡ Some w) is there)).1.0
        | inr apart ↦ h.begun k w (sym (m.others k apart) ∙ there)
      ]

      parks : is_viewed g a ≡ false → Parked a → Parked b
      parks v p k w there of = elim (one_or_other k line) [
        | inl is ↦ (let own = m.own w (subst (λ j. operation_of j b ≡ Some w) is there) in own.1.1 (quiet v p (sym own.0 ∙ of)))
        | inr apart ↦ p k w (sym (m.others k apart) ∙ there) of
      ]

      opens : is_viewed g a ≡ false → Parked a → (k : ℕ) → IsOpenAt a g k → IsOpenAt b g k
      opens v p k o = elim (one_or_other k line) [
        | inl is ↦ subst (λ j. IsOpenAt b g j) (sym is) (stays v p (subst (λ j. IsOpenAt a g j) is o))
        | inr apart ↦ record { waiting = o.waiting; at = m.others k apart ∙ o.at; judges = o.judges }
      ]

  -- ---- an entry takes effect

  -- what it tells: its own line alone goes on
  pub record TellsLine (shard : ℕ) (entry : Entry) (a b : Core) : Type 0 where
    pub others : (k : ℕ) → (asked_by entry ≡ Some k → ⊥) → operation_of k b ≡ operation_of k a
    pub own : (k : ℕ) (u : Waiting) → asked_by entry ≡ Some k → operation_of k b ≡ Some u → (u.shard ≡ shard) × (IsUnderWay u.operation.stage × (is_viewed shard a ≡ false → WaitsToLog u.wait))

  module _ (a b : Core) (shard : ℕ) (entry : Entry) (same : HasSameViews a b) (tells : TellsLine shard entry a b) (asked : (k : ℕ) → asked_by entry ≡ Some k → (w : Waiting) → operation_of k a ≡ Some w → w.shard ≡ shard) where
    -- whether it is of a line
    by_line : (k : ℕ) → (asked_by entry ≡ Some k) ⊎ (asked_by entry ≡ Some k → ⊥)
    by_line k = go (asked_by entry)
      where
        go : (o : Option ℕ) → (o ≡ Some k) ⊎ (o ≡ Some k → ⊥)
        go None = inr (λ e. (let wrong : None ≡ Some k = e in cc wrong))
        go (Some j) = elim (one_or_other j k) [
          | inl is ↦ inl (ap (λ n. Some n) is)
          | inr apart ↦ inr (λ e. apart (let is : j ≡ k = cc e in is))
        ]

    begun_told : IsLined a → (k : ℕ) (w : Waiting) → operation_of k b ≡ Some w → IsUnderWay w.operation.stage
    begun_told h k w there = elim (by_line k) [
      | inl is ↦ (tells.own k w is there).1.0
      | inr apart ↦ h.begun k w (sym (tells.others k apart) ∙ there)
    ]

    parked_told : is_viewed g a ≡ false → Parked a → Parked b
    parked_told v p k w there of = elim (by_line k) [
      | inl is ↦ (let own = tells.own k w is there in own.1.1 (subst (λ j. is_viewed j a ≡ false) (sym of ∙ own.0) v))
      | inr apart ↦ p k w (sym (tells.others k apart) ∙ there) of
    ]

    open_told : (k : ℕ) → (asked_by entry ≡ Some k → ⊥) → IsOpenAt a g k → IsOpenAt b g k
    open_told k apart o = record { waiting = o.waiting; at = tells.others k apart ∙ o.at; judges = o.judges }

    viewed_told : is_viewed g b ≡ is_viewed g a
    viewed_told = viewed_by a b same

    -- of another shard
    pub lined_other : (g ≡ shard → ⊥) → front_of g b ≡ front_of g a → IsLined a → IsLined b
    lined_other apart front h =
        lined_on a b (viewed_by a b same) (same.views g) front (begun_told h) parked_told
        (λ v p k o. open_told k (λ is. apart (sym o.judges ∙ asked k is o.waiting o.at)) o) h

    -- of this one
    pub lined_first : g ≡ shard → front_of g b ≡ front_of g a + 1 → front_of g s ≤ front_of g a → slice_get (group_of g s).waiting (since a) ≡ Some entry → IsLined a → IsLined b
    lined_first is front up first h = record {
      begun = begun_told h;
      state = elim h.state [
        | inl k ↦ inl (viewed_told ∙ k.0, reached_told k.1)
        | inr k ↦ inr (viewed_told ∙ k.0, (parked_told k.0 k.1.0, opened_told k.1.1))
      ];
    }
      where
        more : since b ≡ suc (since a)
        more = omega (arith, front, up)

        reached_told : Reached a → Reached b
        reached_told (inl k) = inl (k.0, same.views g ∙ k.1)
        reached_told (inr k) = inr (k.0, ((let low = k.1.0 in let n = more in omega (arith, low, n)), k.1.1 ∙ ap (λ v. Some (kind.View v)) (sym (same.views g))))

        opened_told : Opened a → Opened b
        opened_told all t of begins =
            let n = more in
            let parts = one_dropped (since a) t (group_of g s).waiting entry (ap (λ m. take m t) (sym n) ∙ begins ∙ ap (λ m. take m (group_of g s).waiting) n) first in
            let was : HasOpenLines a g (entry ∷ drop (suc (since a)) t) = subst (λ es. HasOpenLines a g es) parts.1 (all t of parts.0) in
            subst (λ m. HasOpenLines b g (drop m t)) (sym n) (record {
              asked = λ at line x there asks. open_told line (λ own. (let wrong : 0 ≡ suc at = was.once 0 (suc at) line entry x refl there own asks in absurd (omega (arith, wrong)))) (was.asked (suc at) line x there asks);
              once = λ at other line one x p q asks too. (let both : suc at ≡ suc other = was.once (suc at) (suc other) line one x p q asks too in omega (arith, both));
            })

  -- its View took effect
  pub lined_viewed : (a b : Core) (shard : ℕ) (view : ℕ) → HasSameViews a b → view ≡ view_at shard a → (g ≡ shard → (since b ≡ since a + 1) × (slice_get (group_of g s).waiting (since a) ≡ Some (kind.View view))) → IsLined b → IsLined (set_viewed shard true b)
  lined_viewed a b shard view same current first h = elim (one_or_other g shard) [
    | inl is ↦ here is (reached_at b.progress.viewed shard)
    | inr apart ↦ record { begun = h.begun; state = elsewhere (set_elsewhere b.progress.viewed shard g true apart) h.state }
  ]
    where
      c : Core
      c = set_viewed shard true b

      elsewhere : is_viewed g c ≡ is_viewed g b → Stands b → Stands c
      elsewhere e (inl k) = inl (e ∙ k.0, k.1)
      elsewhere e (inr k) = inr (e ∙ k.0, (k.1.0, λ t of begins. (let was = k.1.1 t of begins in record { asked = λ at line x there asks. (let o = was.asked at line x there asks in record { waiting = o.waiting; at = o.at; judges = o.judges }); once = was.once })))

      here : g ≡ shard → (is_viewed shard c ≡ true) ⊎ (is_viewed shard c ≡ is_viewed shard b) → IsLined c
      here is (inl now) =
          let f = first is in
          let v : view ≡ view_at g c = current ∙ ap (λ k. view_at k a) (sym is) ∙ sym (same.views g) in
          record { begun = h.begun; state = inl (ap (λ k. is_viewed k c) is ∙ now, inr (since a, ((let n : since c ≡ since a + 1 = f.0 in omega (arith, n)), f.1 ∙ ap (λ n. Some (kind.View n)) v))) }
      here is (inr same_view) = record { begun = h.begun; state = elsewhere (ap (λ k. is_viewed k c) is ∙ same_view ∙ ap (λ k. is_viewed k b) (sym is)) h.state }

  -- ---- a view begins

  module _ (shard : ℕ) (a : Core) (front : front_of g (begin_view shard a) ≡ front_of g a) where
    -- where this is the last number of the list that is cut
    abbrev last : ℕ
    last = last_number (group_of shard (change_group shard (renew a.members) (set_viewed shard false a)))

    abbrev b : Core
    b = begin_view shard a

    operations_are : (begin_view shard a).operations ≡ (restart_at shard (last_number (group_of shard (change_group shard (renew a.members) (set_viewed shard false a)))) a).operations
    operations_are = proposed_operations shard (kind.View (view_of shard a.members)) _

    at_is : (line : ℕ) → operation_of line (begin_view shard a) ≡ option_map (restarted shard last) (operation_of line a)
    at_is line = ap (λ (es : List (ℕ × Waiting)). lookup (is_at (nat_cmp line)) es) operations_are ∙ found_map (restarted shard last) (is_at (nat_cmp line)) a.operations

    again_is : (line : ℕ) (w : Waiting) → operation_of line (begin_view shard a) ≡ Some w → (u : Waiting) × ((operation_of line a ≡ Some u) × (restarted shard last u ≡ w))
    again_is line w there = go (operation_of line a) refl (sym (at_is line) ∙ there)
      where
        go : (o : Option Waiting) → operation_of line a ≡ o → option_map (restarted shard last) o ≡ Some w → (u : Waiting) × ((operation_of line a ≡ Some u) × (restarted shard last u ≡ w))
        go None at e = (let wrong : None ≡ Some w = e in absurd (cc wrong))
        go (Some u) at e = (u, (at, some_waiting (restarted shard last u) w e))

    open_again : (k : ℕ) → IsOpenAt a g k → IsOpenAt (begin_view shard a) g k
    open_again k o = record {
      waiting = restarted shard last o.waiting;
      at = at_is k ∙ ap (λ (x : Option Waiting). option_map (restarted shard last) x) o.at;
      judges = (again_same shard last o.waiting).0 ∙ o.judges;
    }

    begun_again : IsLined a → (line : ℕ) (w : Waiting) → operation_of line (begin_view shard a) ≡ Some w → IsUnderWay w.operation.stage
    begun_again h line w there =
        let k = again_is line w there in
        subst (λ (x : Waiting). IsUnderWay x.operation.stage) k.1.1 (subst (λ (x : Stage). IsUnderWay x) (sym (again_same shard last k.0).1) (h.begun line k.0 k.1.0))

    -- the views of others are as they were
    view_elsewhere : (g ≡ shard → ⊥) → view_at g (begin_view shard a) ≡ view_at g a
    view_elsewhere apart =
        let cut : Core = change_group shard (renew a.members) (set_viewed shard false a) in
        let posted : Core = post (renewal (group_of shard (restart shard cut))) (restart shard cut) in
        (same_propose shard (kind.View (view_of shard a.members)) posted).views g ∙ elim (group_changed shard (renew a.members) (set_viewed shard false a) g) [
          | inl is ↦ ap (λ (x : Group). x.view) is
          | inr is ↦ absurd (apart is.0)
        ]

    progress_is : (begin_view shard a).progress.viewed ≡ slice_set a.progress.viewed shard false
    progress_is =
        let cut : Core = change_group shard (renew a.members) (set_viewed shard false a) in
        let posted : Core = post (renewal (group_of shard (restart shard cut))) (restart shard cut) in
        (same_propose shard (kind.View (view_of shard a.members)) posted).viewed

    pub lined_view : (g ≡ shard → (since a ≡ 0) × ((t : List Entry) → Tail t → HasOpenLines a g t)) → IsLined a → IsLined (begin_view shard a)
    lined_view first h = elim (one_or_other g shard) [
      | inl is ↦ record { begun = begun_again h; state = inr (cleared is, (parked is, opened (first is))) }
      | inr apart ↦
          lined_on a (begin_view shard a) (ap (λ vs. slice_index_or vs g false) progress_is ∙ set_elsewhere a.progress.viewed shard g false apart) (view_elsewhere apart) front (begun_again h)
          (λ v p line w there of. (
          let k = again_is line w there in
          let own : k.0.shard ≡ g = sym (again_same shard last k.0).0 ∙ ap (λ (x : Waiting). x.shard) k.1.1 ∙ of in
          let same : restarted shard last k.0 ≡ k.0 = again_other shard last k.0 (λ e. apart (sym own ∙ e)) in
          subst (λ (x : Waiting). WaitsToLog x.wait) (sym same ∙ k.1.1) (p line k.0 k.1.0 own)
          )) (λ v p k o. open_again k o) h
    ]
      where
        cleared : g ≡ shard → is_viewed g (begin_view shard a) ≡ false
        cleared is = ap (λ vs. slice_index_or vs g false) progress_is ∙ ap (λ k. slice_index_or (slice_set a.progress.viewed shard false) k false) is ∙ cleared_at a.progress.viewed shard

        parked : g ≡ shard → Parked (begin_view shard a)
        parked is line w there of =
            let k = again_is line w there in
            let own : k.0.shard ≡ shard = sym (again_same shard last k.0).0 ∙ ap (λ (x : Waiting). x.shard) k.1.1 ∙ of ∙ is in
            subst (λ (x : Waiting). WaitsToLog x.wait) k.1.1 (again_waits shard last k.0 own)

        opened : (since a ≡ 0) × ((t : List Entry) → Tail t → HasOpenLines a g t) → Opened (begin_view shard a)
        opened f t of begins =
            let none : since (begin_view shard a) ≡ 0 = ap (λ n. n - front_of g s) front ∙ f.0 in
            let was = f.1 t of in
            subst (λ m. HasOpenLines (begin_view shard a) g (drop m t)) (sym none) (record { asked = λ at line x there asks. open_again line (was.asked at line x there asks); once = was.once })
