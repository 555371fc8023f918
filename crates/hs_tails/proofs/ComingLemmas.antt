-- What takes effect by an event waited first as it began: what comes first in an event leaves all that is committed among what waited.
use Rattle.std.proofs.Common.{◌≡◌, ◌∙◌, ap, sym, subst, ◌⊎◌, inl, inr, ℕ, ◌+◌, ◌-◌, ◌*◌, ◌<◌, ◌≤◌, Bool, true, false, List, [], ◌∷◌, ◌++◌, Some, None, refl, arith, length, max, slice_index_or, if◌then◌else◌}
use Rattle.std.proofs.lemmas.Bool.{cases_lt}
use Rattle.std.proofs.lemmas.List.{get_or_past}
use Rattle.std.specs.Option.{option_map_or}
use Rattle.hs_anatomy.proofs.ListLemmas.{lists_aside}
use Rattle.hs_anatomy.proofs.StepLemmas.{length_set}
use Rattle.hs_anatomy.specs.Acts.{ByCopying, ByEmptying, Copies, Empties, IsAnswered, IsBehind, IsFalling, copied_by, emptied_by, fallen, joined, sealed_by, without_job}
use Rattle.hs_awaiting.specs.Words.{change_if, each}
use Rattle.hs_core_words.specs.Changing.{change_group, change_pool, change_rejoin, post, set_rejoin, set_status}
use Rattle.hs_core_words.specs.declared.event.Event.{Event}
use Rattle.hs_core_words.specs.Failing.{leave}
use Rattle.hs_core_words.specs.Joining.{begin_joining, follow_lead, joining_peers}
use Rattle.hs_core_words.specs.Looking.{front_of, group_of, home, lead_of, shape_of, status_of}
use Rattle.hs_core_words.specs.State.{Core}
use Rattle.hs_core_words.specs.Views.{begin_view, change_view}
use Rattle.hs_desk.specs.declared.done.Done.{Done}
use Rattle.hs_desk.specs.declared.done.Done.TheVariants as done
use Rattle.hs_effects.proofs.GroupLemmas.{group_changed}
use Rattle.hs_limits.specs.declared.limits.PeerStatus.TheVariants.{Down, Good}
use Rattle.hs_limits.specs.declared.shape.Shape.{Shape}
use Rattle.hs_limits.specs.Shape.{peer_of}
use Rattle.hs_members.specs.Members.{Members, become, has_good, home_of, is_good_status, status}
use Rattle.hs_post.specs.declared.message.Message.TheVariants as message
use Rattle.hs_post.specs.Pool.{message_at, without}
use Rattle.hs_rejoin.specs.Rejoin.{copied, emptied, follow}
use Rattle.hs_replica.specs.Group.{Group, change_copy, commit_front, copy_of, have, hears, is_peer, last_number, lead, new_group, on_copied, on_emptied, on_have, on_sealed}
use Rattle.hs_replica.specs.declared.replica.Replica.{Replica}
use Rattle.hs_standing.proofs.GrownLemmas.{Grown, grown_each, grown_still, grown_with}
use Rattle.hs_standing.proofs.KnownLemmas.{copy_known, heard_known, sealed_known}
use Rattle.hs_standing.proofs.RoomyLemmas.{IsGoodCopy, good_before, good_behind, good_copy}
use Rattle.hs_standing.proofs.SeatedLemmas.{any_place, good_shard}
use Rattle.hs_standing.specs.Copies.{IsSeated, KnowsCopies, KnowsItsCopies, is_of_joining}
use Rattle.hs_tails.proofs.FirstLemmas.{IsFresh, fresh_grown, fresh_listed, fresh_same, fresh_view}
use Rattle.hs_standing.proofs.FewLemmas.{apart_of, copy_joins, other_copy, reset_joins, seal_is}

-- ---- a list of another place

same_most : (n : ℕ) → n ≤ n
same_most n = omega arith

-- a list changes, but not what waits in it, nor how much took effect
fresh_group : (s : Core) (shard : ℕ) (f : Group → Group) (c : Core) → ((g : ℕ) → group_of g c ≡ group_of g s) → ((g : ℕ) → commit_front (group_of g s) ≤ last_number (group_of g s))
    → (f (group_of shard c)).waiting ≡ (group_of shard c).waiting → (f (group_of shard c)).front ≡ (group_of shard c).front → commit_front (f (group_of shard c)) ≤ last_number (f (group_of shard c)) → (g : ℕ) → IsFresh s g (change_group shard f c)
fresh_group s shard f c same within waits front known g = by (group_changed shard f c g)
  where
    by : (group_of g (change_group shard f c) ≡ group_of g c) ⊎ ((g ≡ shard) × (group_of g (change_group shard f c) ≡ f (group_of shard c))) → IsFresh s g (change_group shard f c)
    by (inl is) =
        let all : group_of g (change_group shard f c) ≡ group_of g s = is ∙ same g in
        fresh_same s g (change_group shard f c) (ap (λ (x : Group). x.waiting) all) (ap (λ (x : Group). x.front) all) (subst (λ (x : Group). commit_front x ≤ last_number x) (sym all) (within g))
    by (inr is) =
        let there : group_of shard c ≡ group_of g s = ap (λ k. group_of k c) (sym is.0) ∙ same g in
        fresh_same s g (change_group shard f c) (ap (λ (x : Group). x.waiting) is.1 ∙ waits ∙ ap (λ (x : Group). x.waiting) there) (ap (λ (x : Group). x.front) is.1 ∙ front ∙ ap (λ (x : Group). x.front) there)
        (subst (λ (x : Group). commit_front x ≤ last_number x) (sym is.1) known)

module _ (s : Core) (e : Event) (seated : IsSeated s) (known : KnowsItsCopies s) where
  within_start : (g : ℕ) → commit_front (group_of g s) ≤ last_number (group_of g s)
  within_start g = go (cases_lt g (shape_of s).shards)
    where
      nowhere : (shape_of s).shards ≤ g → group_of g s ≡ new_group (shape_of s) g 0 0 []
      nowhere high = get_or_past s.groups g (new_group (shape_of s) g 0 0 []) (subst (λ n. n ≤ g) (sym seated.lists) high)

      go : (g < (shape_of s).shards) ⊎ ((shape_of s).shards ≤ g) → commit_front (group_of g s) ≤ last_number (group_of g s)
      go (inl low) = (known.each g low).known
      go (inr high) = subst (λ (x : Group). commit_front x ≤ last_number x) (sym (nowhere high)) (same_most 0)

  pub start_fresh : (g : ℕ) → IsFresh s g s
  start_fresh g = fresh_same s g s refl refl (within_start g)

  -- a Seal, and a Have
  pub sealed_fresh : (peer number : ℕ) → IsAnswered s (Some e) s peer (done.Sealed number) → (g : ℕ) → IsFresh s g (sealed_by peer number (without_job peer s))
  sealed_fresh peer number k g =
      fresh_group s (home peer s) (on_sealed peer number) (post (have peer number (group_of (home peer s) s)) (without_job peer s)) (λ j. refl) within_start refl refl
      (sealed_known peer number (last_number (group_of (home peer s) s)) (group_of (home peer s) s) (within_start (home peer s)) (known.seals peer number k.task k.first (seal_is number k.task.job k.fits))) g

  pub heard_fresh : (number shard from to view sealed : ℕ) → message_at number s.pool ≡ Some (message.Have shard from to view sealed) → (g : ℕ) → IsFresh s g (change_group shard (on_have from view sealed) (change_pool (without number) s))
  heard_fresh number shard from to view sealed at g =
      fresh_group s shard (on_have from view sealed) (change_pool (without number) s) (λ j. refl) within_start (same (λ (y : Group). y.waiting) refl) (same (λ (y : Group). y.front) refl)
      (subst (λ n. commit_front (on_have from view sealed (group_of shard s)) ≤ n) (sym (same last_number refl)) (heard_known from view sealed (last_number (group_of shard s)) (group_of shard s) (within_start shard) (known.haves number shard from to view sealed at))) g
    where
      same : {X : Type 0} (of : Group → X) → of (change_copy from (λ (copy : Replica). record copy { known = max copy.known sealed }) (group_of shard s)) ≡ of (group_of shard s) → of (on_have from view sealed (group_of shard s)) ≡ of (group_of shard s)
      same of is = go (hears from view (group_of shard s))
        where
          go : (b : Bool) → of (if b then change_copy from (λ (copy : Replica). record copy { known = max copy.known sealed }) (group_of shard s) else group_of shard s) ≡ of (group_of shard s)
          go true = is
          go false = refl

  -- ---- views

  view_if : (shard : ℕ) (c : Core) → ((g : ℕ) → (group_of g c).waiting ≡ (group_of g s).waiting) → ((g : ℕ) → front_of g c ≡ front_of g s) → ((g : ℕ) → commit_front (group_of g c) ≤ last_number (group_of g c))
      → (has_good shard c.members ≡ true → (place : ℕ) × IsGoodCopy (group_of shard c) c.members place) → (g : ℕ) → IsFresh s g (change_view shard c)
  view_if shard c waits fronts within copy g = go (has_good shard c.members) refl
    where
      go : (b : Bool) → has_good shard c.members ≡ b → IsFresh s g (change_if b (begin_view shard) c)
      go true good = let its = copy good in fresh_view s shard its.0 c waits fronts within its.1 g
      go false none = fresh_same s g c (waits g) (fronts g) (within g)

  -- a shard with a good peer is one of the store
  low_shard : (shard : ℕ) (m : Members) → m.shape ≡ shape_of s → length m.statuses ≡ length s.members.statuses → has_good shard m ≡ true → shard < (shape_of s).shards
  low_shard shard m shape long good =
      subst (λ (x : Shape). shard < x.shards) shape
      (good_shard shard m (long ∙ seated.peers ∙ ap (λ (x : Shape). x.shards * x.copies) (sym shape)) good)

  -- a peer has gone down
  left_copy : (peer shard : ℕ) → has_good shard (become peer Down s.members) ≡ true → (place : ℕ) × IsGoodCopy (group_of shard s) (become peer Down s.members) place
  left_copy peer shard good =
      let low : shard < (shape_of s).shards = low_shard shard (become peer Down s.members) refl (length_set s.members.statuses peer Down) good in
      let at = any_place (λ p. is_good_status (status p (become peer Down s.members))) (peer_of (shape_of s) shard 0) (shape_of s).copies good in
      (at.0, good_copy shard s (known.each shard low) at.0 at.1 (good_before s.members.statuses (peer_of (shape_of s) shard 0 + at.0) peer at.2) (become peer Down s.members) at.2)

  pub fallen_fresh : (a : Core) (peer : ℕ) → IsFalling s (Some e) a peer → (g : ℕ) → IsFresh s g (fallen peer a)
  fallen_fresh a peer k g = again (is_peer peer (lead_of (home peer a) a)) (viewed (is_good_status (status_of peer a)))
    where
      groups : (j : ℕ) → group_of j a ≡ group_of j s
      groups j = ap (λ (gs : List Group). slice_index_or gs j (new_group (shape_of a) j 0 0 [])) k.lists ∙ ap (λ (m : Members). slice_index_or s.groups j (new_group m.shape j 0 0 [])) k.members

      within : (j : ℕ) → commit_front (group_of j a) ≤ last_number (group_of j a)
      within j = subst (λ (x : Group). commit_front x ≤ last_number x) (sym (groups j)) (within_start j)

      copy : has_good (home peer a) (become peer Down a.members) ≡ true → (place : ℕ) × IsGoodCopy (group_of (home peer a) a) (become peer Down a.members) place
      copy good =
          subst (λ (x : Group). (place : ℕ) × IsGoodCopy x (become peer Down a.members) place) (sym (groups (home peer a)))
          (subst (λ (m : Members). (place : ℕ) × IsGoodCopy (group_of (home peer a) s) (become peer Down m) place) (sym k.members)
          (left_copy peer (home peer a) (subst (λ (m : Members). has_good (home peer a) (become peer Down m) ≡ true) k.members good)))

      viewed : (b : Bool) → IsFresh s g (change_if b (change_view (home peer a)) (leave peer a))
      viewed true = view_if (home peer a) (leave peer a) (λ j. ap (λ (x : Group). x.waiting) (groups j)) (λ j. ap (λ (x : Group). x.front) (groups j)) within copy g
      viewed false = fresh_same s g (leave peer a) (ap (λ (x : Group). x.waiting) (groups g)) (ap (λ (x : Group). x.front) (groups g)) (within g)

      again : (b : Bool) {x : Core} → IsFresh s g x → IsFresh s g (change_if b (λ core. each (joining_peers (home peer a) core) begin_joining core) x)
      again true {x} p = fresh_grown s g x (each (joining_peers (home peer a) x) begin_joining x) (grown_each (joining_peers (home peer a) x) begin_joining x (λ q y. grown_still y (begin_joining q y) refl refl (λ j. refl))) p
      again false {x} p = p

  pub follow_grown : (shard : ℕ) (c : Core) → Grown c (follow_lead shard c)
  follow_grown shard c =
      grown_with (lead_of shard c) (λ lead x. each (joining_peers shard x) (λ peer. change_rejoin peer (follow lead)) x) c
      (λ lead x. grown_each (joining_peers shard x) (λ peer. change_rejoin peer (follow lead)) x (λ peer y. grown_still y _ refl refl (λ g. refl)))

  -- a peer that was not good has joined, with another list: there is another good copy
  level_fresh : (a : Core) (peer : ℕ) (f : Replica → Replica) → a.members ≡ s.members → is_good_status (status_of peer s) ≡ false
      → ((j : ℕ) → (group_of j a).waiting ≡ (group_of j s).waiting) → ((j : ℕ) → front_of j a ≡ front_of j s) → ((j : ℕ) → commit_front (group_of j a) ≤ last_number (group_of j a))
      → (group_of (home peer s) a ≡ group_of (home peer s) s) ⊎ (group_of (home peer s) a ≡ change_copy peer f (group_of (home peer s) s)) → (g : ℕ) → IsFresh s g (joined peer a)
  level_fresh a peer f members bad waits fronts within group g =
      fresh_grown s g (change_view (home peer a) good) (joined peer a) (follow_grown (home peer a) (change_view (home peer a) good)) (view_if (home peer a) good waits fronts within copy g)
    where
      good : Core
      good = set_rejoin peer None (set_status peer Good a)

      start : has_good (home peer s) (become peer Good s.members) ≡ true → (place : ℕ) × IsGoodCopy (group_of (home peer s) a) (become peer Good s.members) place
      start has =
          let low : home peer s < (shape_of s).shards = low_shard (home peer s) (become peer Good s.members) refl (length_set s.members.statuses peer Good) has in
          let k : KnowsCopies (home peer s) s = known.each (home peer s) low in
          let at = any_place (λ p. is_good_status (status p s.members)) (peer_of (shape_of s) (home peer s) 0) (shape_of s).copies k.led in
          let its = good_copy (home peer s) s k at.0 at.1 at.2 (become peer Good s.members) (good_behind s.members.statuses (peer_of (shape_of s) (home peer s) 0 + at.0) peer at.2) in
          (at.0, by at.0 its (other_copy (group_of (home peer s) s) peer at.0 f (become peer Good s.members) its (apart_of s peer at.0 k at.2 bad)) group)
        where
          by : (place : ℕ) → IsGoodCopy (group_of (home peer s) s) (become peer Good s.members) place → IsGoodCopy (change_copy peer f (group_of (home peer s) s)) (become peer Good s.members) place
              → (group_of (home peer s) a ≡ group_of (home peer s) s) ⊎ (group_of (home peer s) a ≡ change_copy peer f (group_of (home peer s) s)) → IsGoodCopy (group_of (home peer s) a) (become peer Good s.members) place
          by place one other (inl is) = subst (λ (x : Group). IsGoodCopy x (become peer Good s.members) place) (sym is) one
          by place one other (inr is) = subst (λ (x : Group). IsGoodCopy x (become peer Good s.members) place) (sym is) other

      copy : has_good (home peer a) (become peer Good a.members) ≡ true → (place : ℕ) × IsGoodCopy (group_of (home peer a) a) (become peer Good a.members) place
      copy has =
          subst (λ (m : Members). (place : ℕ) × IsGoodCopy (group_of (home_of m.shape peer) a) (become peer Good m) place) (sym members)
          (start (subst (λ (m : Members). has_good (home_of m.shape peer) (become peer Good m) ≡ true) members has))

  not_good : (peer : ℕ) (d : Done) → (k : IsAnswered s (Some e) s peer d) → is_of_joining k.task.job ≡ true → is_good_status (status_of peer s) ≡ false
  not_good peer d k is = known.joining peer k.task k.first is

  pub emptied_known : (peer : ℕ) (group : Group) → commit_front (on_emptied peer group) ≡ commit_front group
  emptied_known peer group = copy_known peer (λ copy. record copy { stamps = []; sealed = 0 }) group refl refl

  pub copied_known : (peer number : ℕ) (group : Group) → commit_front (on_copied peer number group) ≡ commit_front group
  copied_known peer number group =
      let from : List ℕ = option_map_or (λ l. (copy_of group l).stamps) (lead group) [] in
      copy_known peer (λ copy. record copy { stamps = copy.stamps ++ slice_index_or from (number - 1) 0 ∷ []; sealed = number }) group refl refl

  list_by : (peer : ℕ) (f : Group → Group) (x : Core) → ((j : ℕ) → group_of j x ≡ group_of j s)
      → (group_of (home peer s) (change_group (home peer s) f x) ≡ group_of (home peer s) x) ⊎ ((home peer s ≡ home peer s) × (group_of (home peer s) (change_group (home peer s) f x) ≡ f (group_of (home peer s) x)))
      → (group_of (home peer s) (change_group (home peer s) f x) ≡ group_of (home peer s) s) ⊎ (group_of (home peer s) (change_group (home peer s) f x) ≡ f (group_of (home peer s) s))
  list_by peer f x same (inl is) = inl (is ∙ same (home peer s))
  list_by peer f x same (inr is) = inr (is.1 ∙ ap f (same (home peer s)))

  pub joined_fresh : (a : Core) (peer : ℕ) → IsBehind s (Some e) a peer → (g : ℕ) → IsFresh s g (joined peer a)
  joined_fresh a peer (ByEmptying k is) g =
      let x : Core = change_rejoin peer emptied (without_job peer s) in
      let b : Core = emptied_by peer (without_job peer s) in
      let lists = lists_aside (Empties peer k) in
      let fresh : (j : ℕ) → IsFresh s j b =
      fresh_group s (home peer s) (on_emptied peer) x (λ j. refl) within_start refl refl (subst (λ n. n ≤ last_number (group_of (home peer s) s)) (sym (emptied_known peer (group_of (home peer s) s))) (within_start (home peer s))) in
      subst (λ y. IsFresh s g (joined peer y)) (sym is)
      (level_fresh b peer (λ copy. record copy { stamps = []; sealed = 0 }) refl (not_good peer done.Emptied k (reset_joins k.task.job k.fits)) lists.waiting lists.front (λ j. (fresh_listed s j b (fresh j)).within)
      (list_by peer (on_emptied peer) x (λ j. refl) (group_changed (home peer s) (on_emptied peer) x (home peer s))) g)
  joined_fresh a peer (ByCopying number k is) g =
      let x : Core = change_rejoin peer (copied number) (without_job peer s) in
      let b : Core = copied_by peer number (without_job peer s) in
      let from : List ℕ = option_map_or (λ l. (copy_of (group_of (home peer s) s) l).stamps) (lead (group_of (home peer s) s)) [] in
      let lists = lists_aside (Copies peer number k) in
      let fresh : (j : ℕ) → IsFresh s j b =
      fresh_group s (home peer s) (on_copied peer number) x (λ j. refl) within_start refl refl (subst (λ n. n ≤ last_number (group_of (home peer s) s)) (sym (copied_known peer number (group_of (home peer s) s))) (within_start (home peer s))) in
      subst (λ y. IsFresh s g (joined peer y)) (sym is)
      (level_fresh b peer (λ copy. record copy { stamps = copy.stamps ++ slice_index_or from (number - 1) 0 ∷ []; sealed = number }) refl (not_good peer (done.Copied number) k (copy_joins number k.task.job k.fits)) lists.waiting lists.front (λ j. (fresh_listed s j b (fresh j)).within)
      (list_by peer (on_copied peer number) x (λ j. refl) (group_changed (home peer s) (on_copied peer number) x (home peer s))) g)
