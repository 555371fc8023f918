-- A view that begins leaves a core beside one whose writes have payloads that tell their addresses.
use Rattle.std.proofs.Common.{◌≡◌, ◌∙◌, sym, ap, ℕ, zero, suc, ◌+◌, ◌-◌, ◌==◌, ◌&&◌, ◌++◌, Bool, true, false, List, [], ◌∷◌, drop, flat_map, length, map, not, refl, take, if◌then◌else◌}
use Rattle.std.proofs.lemmas.List.{map-append}
use Rattle.std.specs.List.{enumerate_from}
use Rattle.std.specs.Option.{option_map_or}
use Rattle.std.specs.Prelude.{slice_set}
use Rattle.hs_any_events.proofs.CodedCoreLemmas.{IsCoded, coded_operations, coded_waiting, group_alike, same_last}
use Rattle.hs_any_events.proofs.CodedEntryLemmas.{Outline, outline}
use Rattle.hs_any_events.proofs.CodedGroupLemmas.{GroupOutline, bare, group_outline}
use Rattle.hs_any_events.proofs.CodedLemmas.{Code}
use Rattle.hs_any_events.proofs.CodedStepLemmas.{group_coded, post_coded, propose_coded}
use Rattle.hs_awaiting.specs.declared.wait.Wait.TheVariants as wait
use Rattle.hs_awaiting.specs.declared.waiting.Waiting.{Waiting}
use Rattle.hs_awaiting.specs.Views.{is_within, restarted}
use Rattle.hs_core_words.specs.Changing.{change_group, post, set_viewed}
use Rattle.hs_core_words.specs.Looking.{group_of}
use Rattle.hs_core_words.specs.State.{Core}
use Rattle.hs_core_words.specs.Views.{begin_view, restart}
use Rattle.hs_entry.specs.declared.entry.Entry.{Entry}
use Rattle.hs_entry.specs.declared.entry.Entry.TheVariants as kind
use Rattle.hs_members.specs.Members.{Members, view_of}
use Rattle.hs_post.specs.declared.message.Message.{Message}
use Rattle.hs_post.specs.declared.message.Message.TheVariants as message
use Rattle.hs_replica.specs.declared.replica.Replica.{Replica}
use Rattle.hs_replica.specs.Group.{Group, copies_above, last_number, lead, length_of, others, renew, renewal, told}

-- ---- the list that is left

take-outline : (k : ℕ) (es : List Entry) → map outline (take k es) ≡ take k (map outline es)
take-outline zero es = refl
take-outline (suc k) [] = refl
take-outline (suc k) (e ∷ es) = ap (λ (os : List Outline). outline e ∷ os) (take-outline k es)

abbrev renewed_outline : Members → GroupOutline → GroupOutline
renewed_outline m x = record { rest = told m x.rest; waiting = take (option_map_or (length_of (told m x.rest)) (lead (told m x.rest)) 0 - x.rest.front) x.waiting }

renewed_is : (m : Members) (g : Group) → group_outline (renew m g) ≡ renewed_outline m (group_outline g)
renewed_is m g = λ i. record { rest = record (told m g) { waiting = [] }; waiting = take-outline (option_map_or (length_of (told m g)) (lead (told m g)) 0 - g.front) g.waiting i }

renew_alike : (m n : Members) (g h : Group) → n ≡ m → group_outline h ≡ group_outline g → group_outline (renew n h) ≡ group_outline (renew m g)
renew_alike m n g h same alike = renewed_is n h ∙ (λ i. renewed_outline (same i) (alike i)) ∙ sym (renewed_is m g)

-- ---- what is sent

-- bare Copies of entries from a number on, behind some of them
bare_copies : (shard peer view k n : ℕ) (es : List Entry)
    → map bare (map (λ (e : ℕ × Entry). message.Copy shard peer view e.0 e.1) (drop k (enumerate_from n es))) ≡ map (λ (o : ℕ × Outline). message.Copy shard peer view o.0 (kind.View 0)) (drop k (enumerate_from n (map outline es)))
bare_copies shard peer view zero n [] = refl
bare_copies shard peer view zero n (e ∷ es) = ap (λ (ms : List Message). message.Copy shard peer view n (kind.View 0) ∷ ms) (bare_copies shard peer view zero (n + 1) es)
bare_copies shard peer view (suc k) n [] = refl
bare_copies shard peer view (suc k) n (e ∷ es) = bare_copies shard peer view k (n + 1) es

abbrev bare_above : GroupOutline → ℕ → ℕ → List Message
bare_above x peer above = map (λ (o : ℕ × Outline). message.Copy x.rest.shard peer x.rest.view o.0 (kind.View 0)) (drop (above - x.rest.front) (enumerate_from (x.rest.front + 1) x.waiting))

abbrev bare_renewal : GroupOutline → List Message
bare_renewal x = flat_map (λ (y : ℕ × Replica). bare_above x y.0 (length y.1.stamps)) (others x.rest)

renewal_is : (g : Group) → map bare (renewal g) ≡ bare_renewal (group_outline g)
renewal_is g = go (others g)
  where
    go : (xs : List (ℕ × Replica)) → map bare (flat_map (λ (x : ℕ × Replica). copies_above x.0 (length x.1.stamps) g) xs) ≡ flat_map (λ (y : ℕ × Replica). bare_above (group_outline g) y.0 (length y.1.stamps)) xs
    go [] = refl
    go (x ∷ xs) =
        map-append bare (copies_above x.0 (length x.1.stamps) g) (flat_map (λ (y : ℕ × Replica). copies_above y.0 (length y.1.stamps) g) xs)
        ∙ (λ i. bare_copies g.shard x.0 g.view (length x.1.stamps - g.front) (g.front + 1) g.waiting i ++ go xs i)

renewal_alike : (g h : Group) → group_outline h ≡ group_outline g → map bare (renewal h) ≡ map bare (renewal g)
renewal_alike g h same = renewal_is h ∙ ap (λ (x : GroupOutline). bare_renewal x) same ∙ sym (renewal_is g)

-- ---- the core before its View is proposed

abbrev cut : ℕ → Core → Core
cut shard x = change_group shard (renew x.members) (set_viewed shard false x)

abbrev again : ℕ → Core → Core
again shard x = restart shard (cut shard x)

abbrev posted : ℕ → Core → Core
posted shard x = post (renewal (group_of shard (again shard x))) (again shard x)

module _ (code : Code) where
  -- ---- operations start again

  restarted_coded : (shard last : ℕ) (w : Waiting) → restarted shard last (coded_waiting code w) ≡ coded_waiting code (restarted shard last w)
  restarted_coded shard last w = go (w.shard == shard && not (is_within last w.wait))
    where
      go : (b : Bool) → (if b then record (coded_waiting code w) { wait = wait.View } else coded_waiting code w) ≡ coded_waiting code (if b then record w { wait = wait.View } else w)
      go true = refl
      go false = refl

  all_restarted : (shard last : ℕ) (es : List (ℕ × Waiting))
      → map (λ (e : ℕ × Waiting). (e.0, restarted shard last e.1)) (coded_operations code es) ≡ coded_operations code (map (λ (e : ℕ × Waiting). (e.0, restarted shard last e.1)) es)
  all_restarted shard last [] = refl
  all_restarted shard last (e ∷ es) = λ i. (e.0, restarted_coded shard last e.1 i) ∷ all_restarted shard last es i

  restart_coded : (c d : Core) (shard : ℕ) → IsCoded code c d → IsCoded code (restart shard c) (restart shard d)
  restart_coded c d shard r = record {
    same = r.same;
    operations =
        (λ i. map (λ (e : ℕ × Waiting). (e.0, restarted shard (same_last code c d r shard i) e.1)) (r.operations i))
        ∙ all_restarted shard (last_number (group_of shard c)) c.operations;
    groups = r.groups;
    pool = r.pool;
  }

  -- ---- the view

  viewed_coded : (c d : Core) (shard : ℕ) → IsCoded code c d → IsCoded code (set_viewed shard false c) (set_viewed shard false d)
  viewed_coded c d shard r = record {
    same = λ i. record (r.same i) { progress = record (r.same i).progress { viewed = slice_set (r.same i).progress.viewed shard false } };
    operations = r.operations;
    groups = r.groups;
    pool = r.pool;
  }

  pub begin_coded : (c d : Core) (shard : ℕ) → IsCoded code c d → IsCoded code (begin_view shard c) (begin_view shard d)
  begin_coded c d shard r =
      propose_coded code (posted shard c) (posted shard d) shard (kind.View (view_of shard c.members)) (kind.View (view_of shard d.members)) (ap (λ (m : Members). outline (kind.View (view_of shard m))) members)
      (post_coded code (again shard c) (again shard d) (renewal (group_of shard (again shard c))) (renewal (group_of shard (again shard d))) (renewal_alike (group_of shard (again shard c)) (group_of shard (again shard d)) (group_alike code (again shard c) (again shard d) both shard)) both)
    where
      members : d.members ≡ c.members
      members = ap (λ (x : Core). x.members) r.same

      both : IsCoded code (again shard c) (again shard d)
      both =
          restart_coded (cut shard c) (cut shard d) shard
          (group_coded code (set_viewed shard false c) (set_viewed shard false d) shard (renew c.members) (renew d.members) (renew_alike c.members d.members (group_of shard c) (group_of shard d) members (group_alike code c d r shard))
          (viewed_coded c d shard r))
