-- A new view keeps the order: entries that are gone have operations that start again.
use Rattle.std.proofs.Common.{◌≡◌, ◌∙◌, sym, ap, subst, ◌⊎◌, inl, inr, ℕ, zero, suc, ◌+◌, ◌<◌, ◌≤◌, ◌==◌, ◌&&◌, Bool, true, false, cond, not, take, List, [], ◌∷◌, length, Option, Some, None, refl, arith, nat_le, slice_get}
use Rattle.std.proofs.lemmas.Bool.{eqb-true}
use Rattle.std.proofs.lemmas.Bool.Decides.{nat_tests}
use Rattle.std.proofs.lemmas.Grind.{common_steps}
use Rattle.std.specs.BTreeMap.{is_at}
use Rattle.std.specs.Option.{option_map}
use Rattle.std.specs.Ordering.{nat_cmp}
use Rattle.hs_awaiting.specs.declared.wait.Wait.{Wait}
use Rattle.hs_awaiting.specs.declared.wait.Wait.TheVariants as wait
use Rattle.hs_awaiting.specs.declared.waiting.Waiting.{Waiting}
use Rattle.hs_awaiting.specs.Views.{is_within, restarted}
use Rattle.hs_awaiting.specs.Words.{change_if}
use Rattle.hs_core_words.specs.Changing.{change_group, post, set_viewed}
use Rattle.hs_core_words.specs.Looking.{front_of, group_of, operation_of}
use Rattle.hs_core_words.specs.State.{Core}
use Rattle.hs_core_words.specs.Views.{begin_view, change_view, restart}
use Rattle.hs_effects.specs.Logged.{HasAsked, IsOrderly, IsPending, asked_by}
use Rattle.hs_effects.proofs.GroupLemmas.{group_changed}
use Rattle.hs_effects.proofs.LookLemmas.{found_map, once_map}
use Rattle.hs_effects.proofs.OrderlyLemmas.{alike_orderly, asked_alike, own_orderly, session_in, some_is, with_lists}
use Rattle.hs_effects.proofs.RoomLemmas.{alike_room, cut_room}
use Rattle.hs_entry.specs.declared.entry.Entry.{Entry}
use Rattle.hs_entry.specs.declared.entry.Entry.TheVariants as kind
use Rattle.hs_limits.specs.declared.address.Address.{Address}
use Rattle.hs_members.specs.Members.{Members, has_good, view_of}
use Rattle.hs_ops.specs.Operations.{Operation}
use Rattle.hs_replica.specs.Group.{Group, last_number, renew, renewal}

-- ---- a list that is cut

pub at_cut : {X : Type 0} (k : ℕ) (xs : List X) (place : ℕ) (x : X) → slice_get (take k xs) place ≡ Some x → slice_get xs place ≡ Some x
at_cut zero xs place x e = absurd (nothing place e)
  where
    nothing : (p : ℕ) → slice_get (take 0 xs) p ≡ Some x → ⊥
    nothing zero f = cc f
    nothing (suc p) f = cc f
at_cut (suc k) [] place x e = absurd (nothing place e)
  where
    nothing : (p : ℕ) → slice_get (take (suc k) []) p ≡ Some x → ⊥
    nothing zero f = cc f
    nothing (suc p) f = cc f
at_cut (suc k) (y ∷ xs) zero x e = e
at_cut (suc k) (y ∷ xs) (suc place) x e = at_cut k xs place x e

at_low : {X : Type 0} (xs : List X) (place : ℕ) (x : X) → slice_get xs place ≡ Some x → place < length xs
at_low [] zero x e = absurd (cc e)
at_low [] (suc place) x e = absurd (cc e)
at_low (y ∷ xs) zero x e = omega arith
at_low (y ∷ xs) (suc place) x e = let low = at_low xs place x e in grind (arith, common_steps, low)

renewed_orderly : (name : List ℕ → Address) (shard : ℕ) (members : Members) (c : Core) → IsOrderly name c → IsOrderly name (change_group shard (renew members) c)
renewed_orderly name shard members c its = with_lists name c (change_group shard (renew members) c) its refl refl refl refl (λ g place k e at by. go g place k e at by (group_changed shard (renew members) c g))
    (cut_room shard _ (renew members) c refl its.roomy)
  where
    go : (g place k : ℕ) (e : Entry) → slice_get (group_of g (change_group shard (renew members) c)).waiting place ≡ Some e → asked_by e ≡ Some k
        → (group_of g (change_group shard (renew members) c) ≡ group_of g c) ⊎ ((g ≡ shard) × (group_of g (change_group shard (renew members) c) ≡ renew members (group_of shard c)))
        → HasAsked name (change_group shard (renew members) c) g (front_of g (change_group shard (renew members) c) + 1 + place) k e
    go g place k e at by (inl same) =
        asked_alike name c (change_group shard (renew members) c) g (front_of g c + 1 + place) (front_of g (change_group shard (renew members) c) + 1 + place) k e refl refl refl refl
        (ap (λ (x : Group). x.front + 1 + place) (sym same)) (its.asked g place k e (sym (ap (λ (x : Group). slice_get x.waiting place) same) ∙ at) by)
    go g place k e at by (inr is) =
        let there : slice_get (renew members (group_of shard c)).waiting place ≡ Some e = sym (ap (λ (x : Group). slice_get x.waiting place) is.1) ∙ at in
        subst (λ j. HasAsked name (change_group shard (renew members) c) j (front_of g (change_group shard (renew members) c) + 1 + place) k e) (sym is.0)
        (asked_alike name c (change_group shard (renew members) c) shard (front_of shard c + 1 + place) (front_of g (change_group shard (renew members) c) + 1 + place) k e refl refl refl refl
        (ap (λ (x : Group). x.front + 1 + place) (sym is.1)) (its.asked shard place k e (at_cut _ (group_of shard c).waiting place e there) by))

-- ---- operations that start again

module _ (name : List ℕ → Address) (shard : ℕ) (c : Core) (its : IsOrderly name c) where
  abbrev last : ℕ
  last = last_number (group_of shard c)

  abbrev again : Waiting → Waiting
  again w = restarted shard last w

  again_operation : (w : Waiting) → (again w).operation ≡ w.operation
  again_operation w = go (w.shard == shard && not (is_within last w.wait))
    where
      go : (b : Bool) → (cond b (record w { wait = wait.View }) w).operation ≡ w.operation
      go true = refl
      go false = refl

  again_shard : (w : Waiting) → (again w).shard ≡ w.shard
  again_shard w = go (w.shard == shard && not (is_within last w.wait))
    where
      go : (b : Bool) → (cond b (record w { wait = wait.View }) w).shard ≡ w.shard
      go true = refl
      go false = refl

  found : (l : ℕ) → operation_of l (restart shard c) ≡ option_map again (operation_of l c)
  found l = found_map again (is_at (nat_cmp l)) c.operations

  -- what is found was there
  record Was (l : ℕ) (w : Waiting) : Type 0 where
    old : Waiting
    at : operation_of l c ≡ Some old
    is : again old ≡ w

  was : (l : ℕ) (w : Waiting) → operation_of l (restart shard c) ≡ Some w → Was l w
  was l w e = go (operation_of l c) refl (sym (found l) ∙ e)
    where
      go : (o : Option Waiting) → operation_of l c ≡ o → option_map again o ≡ Some w → Was l w
      go None at f = absurd (cc f)
      go (Some old) at f = record { old = old; at = at; is = some_is (again old) w f }

  same_operation : (l : ℕ) (w : Waiting) (x : Was l w) → w.operation ≡ x.old.operation
  same_operation l w x = sym (ap (λ (y : Waiting). y.operation) x.is) ∙ again_operation x.old

  pending_again : (l : ℕ) (w : Waiting) → operation_of l (restart shard c) ≡ Some w → IsPending name (restart shard c) l w
  pending_again l w e =
      let x = was l w e in
      let p = its.pending l x.old x.at in
      let there : IsPending name (restart shard c) l (record x.old { operation = x.old.operation }) = record { of_line = p.of_line; counted = p.counted; opened = p.opened; called = p.called; judges = p.judges } in
      let back : IsPending name (restart shard c) l (record x.old { operation = w.operation }) = subst (λ (o : Operation). IsPending name (restart shard c) l (record x.old { operation = o })) (sym (same_operation l w x)) there in
      record { of_line = back.of_line; counted = back.counted; opened = back.opened; called = back.called; judges = sym (ap (λ (y : Waiting). y.shard) x.is) ∙ again_shard x.old ∙ back.judges }

  alone_again : (l m : ℕ) (v w : Waiting) (q : List ℕ) → operation_of l (restart shard c) ≡ Some v → operation_of m (restart shard c) ≡ Some w → session_in v ≡ Some q → session_in w ≡ Some q → l ≡ m
  alone_again l m v w q e f s t =
      let x = was l v e in
      let y = was m w f in
      let one : session_in x.old ≡ Some q = ap (λ (o : Operation). session_in (record x.old { operation = o })) (sym (same_operation l v x)) ∙ s in
      let two : session_in y.old ≡ Some q = ap (λ (o : Operation). session_in (record y.old { operation = o })) (sym (same_operation m w y)) ∙ t in
      its.alone l m x.old y.old q x.at y.at one two

  -- one that waits for an entry of the list stays
  stays : (g place : ℕ) (w : Waiting) → w.shard ≡ g → w.wait ≡ wait.Entry (front_of g c + 1 + place) → place < length (group_of g c).waiting → again w ≡ w
  stays g place w judges waits low = go (w.shard == shard) refl
    where
      go : (b : Bool) → (w.shard == shard) ≡ b → cond (b && not (is_within last w.wait)) (record w { wait = wait.View }) w ≡ w
      go false e = refl
      go true e = ap (λ b. cond b (record w { wait = wait.View }) w) (ap (λ (x : Wait). not (is_within last x)) waits ∙ ap (λ b. not b) within)
        where
          here : g ≡ shard
          here = sym judges ∙ eqb-true w.shard shard e

          low_last : front_of g c + 1 + place ≤ last
          low_last = subst (λ k. front_of g c + 1 + place ≤ last_number (group_of k c)) here (omega (arith, low))

          within : nat_le (front_of g c + 1 + place) last ≡ true
          within = grind (arith, nat_tests, low_last)

  asked_again : (g place k : ℕ) (e : Entry) → slice_get (group_of g c).waiting place ≡ Some e → asked_by e ≡ Some k → HasAsked name (restart shard c) g (front_of g c + 1 + place) k e
  asked_again g place k e at by =
      let h = its.asked g place k e at by in
      record {
        waiting = h.waiting;
        at = found k ∙ ap (λ (o : Option Waiting). option_map again o) h.at ∙ ap (λ (w : Waiting). Some w) (stays g place h.waiting h.judges h.waits (at_low (group_of g c).waiting place e at));
        waits = h.waits;
        judges = h.judges;
        asks = h.asks;
        own = h.own;
      }

  pub restarted_orderly : IsOrderly name (restart shard c)
  restarted_orderly = record { once = once_map again c.operations its.once; pending = pending_again; alone = alone_again; asked = asked_again; roomy = λ g. alike_room c (restart shard c) g refl refl refl (its.roomy g) }

-- ---- the view

pub view_began : (name : List ℕ → Address) (shard : ℕ) (c : Core) → IsOrderly name c → IsOrderly name (begin_view shard c)
view_began name shard c its =
    let one : Core = set_viewed shard false c in
    let two : Core = change_group shard (renew c.members) one in
    let three : Core = restart shard two in
    let four : Core = post (renewal (group_of shard three)) three in
    own_orderly name shard (kind.View (view_of shard four.members)) four refl
    (alike_orderly name three four (record { operations = refl; sessions = refl; limits = refl; shape = refl; waiting = λ g. refl; front = λ g. refl; catalogue = λ g. refl })
    (restarted_orderly name shard two
    (renewed_orderly name shard c.members one
    (alike_orderly name c one (record { operations = refl; sessions = refl; limits = refl; shape = refl; waiting = λ g. refl; front = λ g. refl; catalogue = λ g. refl }) its))))

pub view_changed : (name : List ℕ → Address) (shard : ℕ) (c : Core) → IsOrderly name c → IsOrderly name (change_view shard c)
view_changed name shard c its = go (has_good shard c.members)
  where
    go : (b : Bool) → IsOrderly name (change_if b (begin_view shard) c)
    go true = view_began name shard c its
    go false = its
