-- Each entry that takes effect by an event leaves no shard with more root records than it takes, for any number of copies.
use Rattle.std.proofs.Common.{◌≡◌, ◌∙◌, sym, ap, subst, ◌⊎◌, inl, inr, ℕ, ◌+◌, ◌-◌, ◌*◌, ◌<◌, ◌≤◌, ◌++◌, Bool, true, false, List, [], ◌∷◌, Option, Some, None, refl, arith, count_by, eqb-true, length, max, slice_index_or, slice_set, if◌then◌else◌}
use Rattle.std.proofs.lemmas.Bool.{cases_lt}
use Rattle.std.proofs.lemmas.List.{get_or_past}
use Rattle.std.proofs.Math.Nat.{div-mul-le_self}
use Rattle.std.specs.Option.{option_map_or}
use Rattle.hs_anatomy.proofs.StepLemmas.{length_set}
use Rattle.hs_anatomy.specs.Acts.{Act, Acts, AndThen, Asks, Aside, ByCopying, ByEmptying, Copies, Empties, Enters, Falls, FindsDown, Gets, Goes, Hands, Hears, IsAnswered, IsAside, IsBehind, IsFalling, Joins, Loses, NoAct, Opens, Refuses, Repeats, Reports, Resends, Seals, SendsRound, Starts, Takes, TakesEffect, TellsDown, Views, copied_by, emptied_by, fallen, joined, sealed_by, without_job}
use Rattle.hs_awaiting.specs.Words.{change_if, change_with, each}
use Rattle.hs_core_words.specs.Changing.{add_entry_tasks, change_group, change_pool, change_rejoin, post, set_rejoin, set_status}
use Rattle.hs_core_words.specs.declared.event.Event.{Event}
use Rattle.hs_core_words.specs.Failing.{leave}
use Rattle.hs_core_words.specs.Joining.{begin_joining, follow_lead, joining_peers}
use Rattle.hs_core_words.specs.Looking.{catalogue_of, group_of, home, lead_of, shape_of, status_of}
use Rattle.hs_core_words.specs.Records.{HasRecordRoom}
use Rattle.hs_core_words.specs.Seeing.{pointers_for}
use Rattle.hs_core_words.specs.State.{Core}
use Rattle.hs_core_words.specs.Views.{begin_view, change_view}
use Rattle.hs_desk.specs.Answers.{is_copy_of, is_reset, is_seal_of}
use Rattle.hs_desk.specs.declared.done.Done.{Done}
use Rattle.hs_desk.specs.declared.done.Done.TheVariants as done
use Rattle.hs_desk.specs.declared.job.Job.{Job}
use Rattle.hs_desk.specs.declared.job.Job.TheVariants as job
use Rattle.hs_effects.proofs.GroupLemmas.{group_changed}
use Rattle.hs_effects.specs.Taking.{done_by, taken}
use Rattle.hs_entry.specs.declared.entry.Entry.{Entry}
use Rattle.hs_entry.specs.declared.entry.Entry.TheVariants as kind
use Rattle.hs_fold.proofs.Shards.PlaceLemmas.{other-at}
use Rattle.hs_fold.specs.Shards.Sound.{most_records}
use Rattle.hs_limits.specs.declared.limits.PeerStatus.TheVariants.{Down, Good}
use Rattle.hs_limits.specs.declared.shape.Shape.{Shape}
use Rattle.hs_limits.specs.Shape.{peer_of}
use Rattle.hs_members.specs.Members.{Members, become, has_good, home_of, is_good_status, status}
use Rattle.hs_ops.specs.Operations.{bytes_step, go_step}
use Rattle.hs_post.specs.declared.message.Message.TheVariants as message
use Rattle.hs_post.specs.Pool.{message_at, without}
use Rattle.hs_rejoin.specs.Rejoin.{copied, emptied, follow}
use Rattle.hs_replica.specs.Group.{Group, change_copy, commit_front, committed, copy_of, first_peer, have, hears, is_peer, last_number, lead, new_group, no_copy, on_copied, on_emptied, on_have, on_sealed, take_entry}
use Rattle.hs_replica.specs.declared.replica.Replica.{Replica}
use Rattle.hs_standing.proofs.CommitLemmas.{HasFewLeft, few_grown, few_records, few_room, few_taken}
use Rattle.hs_standing.proofs.GrownLemmas.{Grown, grown_begins, grown_both, grown_each, grown_goes, grown_group, grown_proposes, grown_round, grown_still, grown_tells, grown_with}
use Rattle.hs_standing.proofs.KnownLemmas.{copy_known, heard_known, sealed_known, took_known}
use Rattle.hs_standing.proofs.RoomyLemmas.{IsGoodCopy, IsRoomy, first_of, good_before, good_behind, good_copy, roomy_each, roomy_group, roomy_still, roomy_view}
use Rattle.hs_replica.specs.Kinds.{is_root}
use Rattle.hs_shard.specs.Facts.{Catalogue, empty_catalogue}
use Rattle.hs_standing.proofs.SeatedLemmas.{any_place, good_shard, two_copies}
use Rattle.hs_standing.specs.Copies.{IsSeated, KnowsCopies, KnowsItsCopies, is_of_joining}

-- ---- numbers

same_most : (n : ℕ) → n ≤ n
same_most n = omega arith

equal_most : (m n : ℕ) → m ≡ n → m ≤ n
equal_most m n e = omega (arith, e)

-- ---- which job it was

pub seal_is : (number : ℕ) (j : Job) → is_seal_of number j ≡ true → j ≡ job.Seal number
seal_is number (job.Seal n) e = ap (λ k. job.Seal k) (sym (eqb-true number n e))
seal_is number other e = absurd (cc e)

pub reset_joins : (j : Job) → is_reset j ≡ true → is_of_joining j ≡ true
reset_joins job.Reset e = refl
reset_joins other e = absurd (cc e)

pub copy_joins : (number : ℕ) (j : Job) → is_copy_of number j ≡ true → is_of_joining j ≡ true
copy_joins number (job.Copy from n) e = refl
copy_joins number other e = absurd (cc e)

-- ---- a list of another place

-- all but one copy is as it was
pub other_copy : (group : Group) (peer place : ℕ) (f : Replica → Replica) (m : Members) → IsGoodCopy group m place → (place ≡ peer - first_peer group → ⊥) → IsGoodCopy (change_copy peer f group) m place
other_copy group peer place f m c apart = record {
  low = subst (λ n. place < n) (sym (length_set group.copies (peer - first_peer group) (f (copy_of group peer)))) c.low;
  good = c.good;
  own = subst (λ (x : Replica). x.sealed ≤ length x.stamps) (sym still) c.own;
  all = subst (λ (x : Replica). x.sealed ≤ last_number group) (sym still) c.all;
}
  where
    still : slice_index_or (slice_set group.copies (peer - first_peer group) (f (copy_of group peer))) place no_copy ≡ slice_index_or group.copies place no_copy
    still = other-at no_copy group.copies (peer - first_peer group) place (f (copy_of group peer)) apart

pub peer_is : (first base i peer : ℕ) → first ≡ base + 0 → base ≤ peer → i ≡ peer - first → base + 0 + i ≡ peer
peer_is first base i peer e l f = omega (arith, e, l, f)

-- a peer at another place than one that is not good
pub apart_of : (c : Core) (peer i : ℕ) → KnowsCopies (home peer c) c → is_good_status (status (peer_of (shape_of c) (home peer c) 0 + i) c.members) ≡ true → is_good_status (status_of peer c) ≡ false → i ≡ peer - first_peer (group_of (home peer c) c) → ⊥
apart_of c peer i k good bad same =
    let is : peer_of (shape_of c) (home peer c) 0 + i ≡ peer = peer_is (first_peer (group_of (home peer c) c)) (home peer c * (shape_of c).copies) i peer (first_of (home peer c) c k) (div-mul-le_self peer (shape_of c).copies) same in
    cc (sym bad ∙ subst (λ n. is_good_status (status n c.members) ≡ true) is good)

-- ---- acts that change no copy's numbers

follow_grown : (shard : ℕ) (c : Core) → Grown c (follow_lead shard c)
follow_grown shard c =
    grown_with (lead_of shard c) (λ lead x. each (joining_peers shard x) (λ peer. change_rejoin peer (follow lead)) x) c
    (λ lead x. grown_each (joining_peers shard x) (λ peer. change_rejoin peer (follow lead)) x (λ peer y. grown_still y _ refl refl (λ g. refl)))

emptied_known : (peer : ℕ) (group : Group) → commit_front (on_emptied peer group) ≡ commit_front group
emptied_known peer group = copy_known peer (λ copy. record copy { stamps = []; sealed = 0 }) group refl refl

copied_known : (peer number : ℕ) (group : Group) → commit_front (on_copied peer number group) ≡ commit_front group
copied_known peer number group =
    let from : List ℕ = option_map_or (λ l. (copy_of group l).stamps) (lead group) [] in
    copy_known peer (λ copy. record copy { stamps = copy.stamps ++ slice_index_or from (number - 1) 0 ∷ []; sealed = number }) group refl refl

module _ (s : Core) (e : Event) (seated : IsSeated s) (known : KnowsItsCopies s) (room : HasRecordRoom s) where
  -- ---- as the event has begun

  within_start : (g : ℕ) → commit_front (group_of g s) ≤ last_number (group_of g s)
  within_start g = go (cases_lt g (shape_of s).shards)
    where
      nowhere : (shape_of s).shards ≤ g → group_of g s ≡ new_group (shape_of s) g 0 0 []
      nowhere high = get_or_past s.groups g (new_group (shape_of s) g 0 0 []) (subst (λ n. n ≤ g) (sym seated.lists) high)

      go : (g < (shape_of s).shards) ⊎ ((shape_of s).shards ≤ g) → commit_front (group_of g s) ≤ last_number (group_of g s)
      go (inl low) = (known.each g low).known
      go (inr high) = subst (λ (x : Group). commit_front x ≤ last_number x) (sym (nowhere high)) (same_most 0)

  roomy_start : IsRoomy s
  roomy_start = record { room = room; within = within_start }

  few_roomy : (c : Core) → IsRoomy c → HasFewLeft c
  few_roomy c h = few_room c h.room h.within

  at_start : (a : Core) (peer : ℕ) (d : Done) → IsAnswered s (Some e) a peer d → IsAnswered s (Some e) s peer d
  at_start a peer d k = subst (λ x. IsAnswered s (Some e) x peer d) k.start k

  -- ---- what comes first

  sealed_few : (peer number : ℕ) → IsAnswered s (Some e) s peer (done.Sealed number) → IsRoomy (sealed_by peer number (without_job peer s))
  sealed_few peer number k =
      let x : Core = post (have peer number (group_of (home peer s) s)) (without_job peer s) in
      roomy_group (home peer s) (on_sealed peer number) x
      (sealed_known peer number (last_number (group_of (home peer s) s)) (group_of (home peer s) s) (within_start (home peer s)) (known.seals peer number k.task k.first (seal_is number k.task.job k.fits)))
      (same_most (count_by is_root (group_of (home peer s) s).waiting)) (roomy_still s x (λ g. refl) (λ g. refl) roomy_start)

  heard_few : (number shard from to view sealed : ℕ) → message_at number s.pool ≡ Some (message.Have shard from to view sealed) → IsRoomy (change_group shard (on_have from view sealed) (change_pool (without number) s))
  heard_few number shard from to view sealed at =
      let x : Core = change_pool (without number) s in
      let last : last_number (on_have from view sealed (group_of shard s)) ≡ last_number (group_of shard s) = same last_number refl in
      let kept : (on_have from view sealed (group_of shard s)).waiting ≡ (group_of shard s).waiting = same (λ (y : Group). y.waiting) refl in
      roomy_group shard (on_have from view sealed) x
      (subst (λ n. commit_front (on_have from view sealed (group_of shard s)) ≤ n) (sym last) (heard_known from view sealed (last_number (group_of shard s)) (group_of shard s) (within_start shard) (known.haves number shard from to view sealed at)))
      (equal_most (count_by is_root (on_have from view sealed (group_of shard s)).waiting) (count_by is_root (group_of shard s).waiting) (ap (λ ws. count_by is_root ws) kept)) (roomy_still s x (λ g. refl) (λ g. refl) roomy_start)
    where
      same : {X : Type 0} (of : Group → X) → of (change_copy from (λ (copy : Replica). record copy { known = max copy.known sealed }) (group_of shard s)) ≡ of (group_of shard s) → of (on_have from view sealed (group_of shard s)) ≡ of (group_of shard s)
      same of is = go (hears from view (group_of shard s))
        where
          go : (b : Bool) → of (if b then change_copy from (λ (copy : Replica). record copy { known = max copy.known sealed }) (group_of shard s) else group_of shard s) ≡ of (group_of shard s)
          go true = is
          go false = refl

  -- ---- views

  -- where a shard has a good peer, it has a good copy
  view_if : (shard : ℕ) (c : Core) → (has_good shard c.members ≡ true → (place : ℕ) × IsGoodCopy (group_of shard c) c.members place) → IsRoomy c → IsRoomy (change_view shard c)
  view_if shard c copy h = go (has_good shard c.members) refl
    where
      go : (b : Bool) → has_good shard c.members ≡ b → IsRoomy (change_if b (begin_view shard) c)
      go true good = let its = copy good in roomy_view shard its.0 c its.1 h
      go false none = h

  -- a shard with a good peer is one of the store
  low_shard : (shard : ℕ) (m : Members) → m.shape ≡ shape_of s → length m.statuses ≡ length s.members.statuses → has_good shard m ≡ true → shard < (shape_of s).shards
  low_shard shard m shape long good =
      subst (λ (x : Shape). shard < x.shards) shape
      (good_shard shard m (long ∙ seated.peers ∙ ap (λ (x : Shape). x.shards * x.copies) (sym shape)) good)

  -- a peer has gone down
  left_copy : (peer shard : ℕ) → has_good shard (become peer Down s.members) ≡ true → (place : ℕ) × IsGoodCopy (group_of shard s) (become peer Down s.members) place
  left_copy peer shard good =
      let low : shard < (shape_of s).shards = low_shard shard (become peer Down s.members) refl (length_set s.members.statuses peer Down) good in
      let at = any_place (λ p. is_good_status (status p (become peer Down s.members))) (peer_of (shape_of s) shard 0) (shape_of s).copies good in
      (at.0, good_copy shard s (known.each shard low) at.0 at.1 (good_before s.members.statuses (peer_of (shape_of s) shard 0 + at.0) peer at.2) (become peer Down s.members) at.2)

  fallen_few : (a : Core) (peer : ℕ) → IsFalling s (Some e) a peer → IsRoomy (fallen peer a)
  fallen_few a peer k = again (is_peer peer (lead_of (home peer a) a)) (viewed (is_good_status (status_of peer a)))
    where
      catalogues : (g : ℕ) → catalogue_of g a ≡ catalogue_of g s
      catalogues g = ap (λ (cs : List Catalogue). slice_index_or cs g (empty_catalogue (shape_of a) g)) k.catalogues ∙ ap (λ (m : Members). slice_index_or s.catalogues g (empty_catalogue m.shape g)) k.members

      groups : (g : ℕ) → group_of g a ≡ group_of g s
      groups g = ap (λ (gs : List Group). slice_index_or gs g (new_group (shape_of a) g 0 0 [])) k.lists ∙ ap (λ (m : Members). slice_index_or s.groups g (new_group m.shape g 0 0 [])) k.members

      left : IsRoomy (leave peer a)
      left = roomy_still s (leave peer a) catalogues groups roomy_start

      copy : has_good (home peer a) (become peer Down a.members) ≡ true → (place : ℕ) × IsGoodCopy (group_of (home peer a) a) (become peer Down a.members) place
      copy good =
          subst (λ (x : Group). (place : ℕ) × IsGoodCopy x (become peer Down a.members) place) (sym (groups (home peer a)))
          (subst (λ (m : Members). (place : ℕ) × IsGoodCopy (group_of (home peer a) s) (become peer Down m) place) (sym k.members)
          (left_copy peer (home peer a) (subst (λ (m : Members). has_good (home peer a) (become peer Down m) ≡ true) k.members good)))

      viewed : (b : Bool) → IsRoomy (change_if b (change_view (home peer a)) (leave peer a))
      viewed true = view_if (home peer a) (leave peer a) copy left
      viewed false = left

      again : (b : Bool) {x : Core} → IsRoomy x → IsRoomy (change_if b (λ core. each (joining_peers (home peer a) core) begin_joining core) x)
      again true {x} p = roomy_each (joining_peers (home peer a) x) begin_joining x (λ q y h. roomy_still y (begin_joining q y) (λ g. refl) (λ g. refl) h) p
      again false {x} p = p

  follow_roomy : (shard : ℕ) (c : Core) → IsRoomy c → IsRoomy (follow_lead shard c)
  follow_roomy shard c h = go (lead_of shard c)
    where
      go : (o : Option ℕ) → IsRoomy (change_with o (λ lead x. each (joining_peers shard x) (λ q. change_rejoin q (follow lead)) x) c)
      go None = h
      go (Some lead) = roomy_each (joining_peers shard c) (λ q. change_rejoin q (follow lead)) c (λ q y r. roomy_still y (change_rejoin q (follow lead) y) (λ g. refl) (λ g. refl) r) h

  -- a peer that was not good has joined, with another list: there is another good copy
  level_few : (a : Core) (peer : ℕ) (f : Replica → Replica) → a.members ≡ s.members → is_good_status (status_of peer s) ≡ false → IsRoomy a
      → (group_of (home peer s) a ≡ group_of (home peer s) s) ⊎ (group_of (home peer s) a ≡ change_copy peer f (group_of (home peer s) s)) → IsRoomy (joined peer a)
  level_few a peer f members bad roomy group =
      follow_roomy (home peer a) (change_view (home peer a) good) (view_if (home peer a) good copy (roomy_still a good (λ g. refl) (λ g. refl) roomy))
    where
      good : Core
      good = set_rejoin peer None (set_status peer Good a)

      start : has_good (home peer s) (become peer Good s.members) ≡ true → (place : ℕ) × IsGoodCopy (group_of (home peer s) a) (become peer Good s.members) place
      start has =
          let low : home peer s < (shape_of s).shards = low_shard (home peer s) (become peer Good s.members) refl (length_set s.members.statuses peer Good) has in
          let k : KnowsCopies (home peer s) s = known.each (home peer s) low in
          let at = any_place (λ p. is_good_status (status p s.members)) (peer_of (shape_of s) (home peer s) 0) (shape_of s).copies k.led in
          let its = good_copy (home peer s) s k at.0 at.1 at.2 (become peer Good s.members) (good_behind s.members.statuses (peer_of (shape_of s) (home peer s) 0 + at.0) peer at.2) in
          (at.0, by at.0 its (other_copy (group_of (home peer s) s) peer at.0 f (become peer Good s.members) its (apart_of s peer at.0 k at.2 bad)) group)
        where
          by : (place : ℕ) → IsGoodCopy (group_of (home peer s) s) (become peer Good s.members) place → IsGoodCopy (change_copy peer f (group_of (home peer s) s)) (become peer Good s.members) place
              → (group_of (home peer s) a ≡ group_of (home peer s) s) ⊎ (group_of (home peer s) a ≡ change_copy peer f (group_of (home peer s) s)) → IsGoodCopy (group_of (home peer s) a) (become peer Good s.members) place
          by place one other (inl is) = subst (λ (x : Group). IsGoodCopy x (become peer Good s.members) place) (sym is) one
          by place one other (inr is) = subst (λ (x : Group). IsGoodCopy x (become peer Good s.members) place) (sym is) other

      copy : has_good (home peer a) good.members ≡ true → (place : ℕ) × IsGoodCopy (group_of (home peer a) good) good.members place
      copy has =
          subst (λ (m : Members). (place : ℕ) × IsGoodCopy (group_of (home_of m.shape peer) a) (become peer Good m) place) (sym members)
          (start (subst (λ (m : Members). has_good (home_of m.shape peer) (become peer Good m) ≡ true) members has))

  not_good : (peer : ℕ) (d : Done) → (k : IsAnswered s (Some e) s peer d) → is_of_joining k.task.job ≡ true → is_good_status (status_of peer s) ≡ false
  not_good peer d k is = known.joining peer k.task k.first is

  -- so it has more than one copy
  pub joined_two : (a : Core) (peer : ℕ) → IsBehind s (Some e) a peer → has_good (home peer a) (become peer Good a.members) ≡ true → 1 < (shape_of a).copies
  joined_two a peer behind has =
      subst (λ (m : Members). 1 < m.shape.copies) (sym members)
      (two_copies s.members peer (known.each (home peer s) (low_shard (home peer s) (become peer Good s.members) refl (length_set s.members.statuses peer Good) (subst (λ (m : Members). has_good (home_of m.shape peer) (become peer Good m) ≡ true) members has))).led (bad behind))
    where
      members : a.members ≡ s.members
      members = of behind
        where
          of : IsBehind s (Some e) a peer → a.members ≡ s.members
          of (ByEmptying k is) = ap (λ (x : Core). x.members) is
          of (ByCopying number k is) = ap (λ (x : Core). x.members) is

      bad : IsBehind s (Some e) a peer → is_good_status (status_of peer s) ≡ false
      bad (ByEmptying k is) = not_good peer done.Emptied k (reset_joins k.task.job k.fits)
      bad (ByCopying number k is) = not_good peer (done.Copied number) k (copy_joins number k.task.job k.fits)

  joined_few : (a : Core) (peer : ℕ) → IsBehind s (Some e) a peer → IsRoomy (joined peer a)
  joined_few a peer (ByEmptying k is) = subst (λ x. IsRoomy (joined peer x)) (sym is)
      (level_few (emptied_by peer (without_job peer s)) peer (λ copy. record copy { stamps = []; sealed = 0 }) refl (not_good peer done.Emptied k (reset_joins k.task.job k.fits))
      (roomy_group (home peer s) (on_emptied peer) x (subst (λ n. n ≤ last_number (group_of (home peer s) s)) (sym (emptied_known peer (group_of (home peer s) s))) (within_start (home peer s)))
      (same_most (count_by is_root (group_of (home peer s) s).waiting)) (roomy_still s x (λ g. refl) (λ g. refl) roomy_start))
      (by (group_changed (home peer s) (on_emptied peer) x (home peer s))))
    where
      x : Core
      x = change_rejoin peer emptied (without_job peer s)

      by : (group_of (home peer s) (change_group (home peer s) (on_emptied peer) x) ≡ group_of (home peer s) x) ⊎ ((home peer s ≡ home peer s) × (group_of (home peer s) (change_group (home peer s) (on_emptied peer) x) ≡ on_emptied peer (group_of (home peer s) x)))
          → (group_of (home peer s) (emptied_by peer (without_job peer s)) ≡ group_of (home peer s) s) ⊎ (group_of (home peer s) (emptied_by peer (without_job peer s)) ≡ on_emptied peer (group_of (home peer s) s))
      by (inl same) = inl same
      by (inr other) = inr other.1
  joined_few a peer (ByCopying number k is) = subst (λ x. IsRoomy (joined peer x)) (sym is)
      (level_few (copied_by peer number (without_job peer s)) peer (λ copy. record copy { stamps = copy.stamps ++ slice_index_or from (number - 1) 0 ∷ []; sealed = number }) refl (not_good peer (done.Copied number) k (copy_joins number k.task.job k.fits))
      (roomy_group (home peer s) (on_copied peer number) x (subst (λ n. n ≤ last_number (group_of (home peer s) s)) (sym (copied_known peer number (group_of (home peer s) s))) (within_start (home peer s)))
      (same_most (count_by is_root (group_of (home peer s) s).waiting)) (roomy_still s x (λ g. refl) (λ g. refl) roomy_start))
      (by (group_changed (home peer s) (on_copied peer number) x (home peer s))))
    where
      x : Core
      x = change_rejoin peer (copied number) (without_job peer s)

      from : List ℕ
      from = option_map_or (λ l. (copy_of (group_of (home peer s) s) l).stamps) (lead (group_of (home peer s) s)) []

      by : (group_of (home peer s) (change_group (home peer s) (on_copied peer number) x) ≡ group_of (home peer s) x) ⊎ ((home peer s ≡ home peer s) × (group_of (home peer s) (change_group (home peer s) (on_copied peer number) x) ≡ on_copied peer number (group_of (home peer s) x)))
          → (group_of (home peer s) (copied_by peer number (without_job peer s)) ≡ group_of (home peer s) s) ⊎ (group_of (home peer s) (copied_by peer number (without_job peer s)) ≡ on_copied peer number (group_of (home peer s) s))
      by (inl same) = inl same
      by (inr other) = inr other.1

  -- ---- each act

  aside_few : (a b : Core) → Aside s (Some e) a b → HasFewLeft a → HasFewLeft b
  aside_few a b (Reports peer d k) h = few_grown a b (grown_still a b refl refl (λ g. refl)) h
  aside_few a b (Seals peer number k) h = subst (λ x. HasFewLeft (sealed_by peer number (without_job peer x))) (sym k.start) (few_roomy (sealed_by peer number (without_job peer s)) (sealed_few peer number (at_start a peer (done.Sealed number) k)))
  aside_few a b (Empties peer k) h =
      let x : Core = change_rejoin peer emptied (without_job peer a) in
      few_grown a b (grown_both a x b (grown_still a x refl refl (λ g. refl)) (grown_group (home peer a) (on_emptied peer) x refl refl (emptied_known peer (group_of (home peer a) a)))) h
  aside_few a b (Copies peer number k) h =
      let x : Core = change_rejoin peer (copied number) (without_job peer a) in
      few_grown a b (grown_both a x b (grown_still a x refl refl (λ g. refl)) (grown_group (home peer a) (on_copied peer number) x refl refl (copied_known peer number (group_of (home peer a) a)))) h
  aside_few a b (Loses number m at) h = few_grown a b (grown_still a b refl refl (λ g. refl)) h
  aside_few a b (Takes number shard to view next entry k fits) h =
      let gone : Core = change_pool (without number) a in
      let taken : Core = change_group shard (take_entry to entry) gone in
      let asked : Core = add_entry_tasks to next entry taken in
      few_grown a b (grown_both a gone b (grown_still a gone refl refl (λ g. refl))
      (grown_both gone taken b (grown_group shard (take_entry to entry) gone refl refl (took_known to entry (group_of shard a)))
      (grown_both taken asked b (grown_still taken asked refl refl (λ g. refl)) (follow_grown shard asked)))) h
  aside_few a b (Hears number shard from to view sealed k good) h =
      subst (λ x. HasFewLeft (change_group shard (on_have from view sealed) (change_pool (without number) x))) (sym k.start)
      (few_roomy (change_group shard (on_have from view sealed) (change_pool (without number) s)) (heard_few number shard from to view sealed (subst (λ (x : Core). message_at number x.pool ≡ Some (message.Have shard from to view sealed)) k.start k.at)))
  aside_few a b (Repeats number m at space) h = few_grown a b (grown_still a b refl refl (λ g. refl)) h
  aside_few a b (Resends shard peer k) h = few_grown a b (grown_still a b refl refl (λ g. refl)) h
  aside_few a b (Starts line peer start asked may) h = few_grown a b (grown_still a b refl refl (λ g. refl)) h
  aside_few a b (Views shard) h = few_grown a b (grown_still a b refl refl (λ g. refl)) h

  act_few : (a b : Core) → Act s (Some e) a b → HasFewLeft a → HasFewLeft b
  act_few a b (IsAside x) h = aside_few a b x h
  act_few a b (Refuses now refusal is why) h = few_grown a b (grown_still a b refl refl (λ g. refl)) h
  act_few a b (TellsDown by peer is) h = few_grown a b (grown_still a b refl refl (λ g. refl)) h
  act_few a b (FindsDown peer is bad) h = few_grown a b (grown_still a b refl refl (λ g. refl)) h
  act_few a b (Asks line o start is) h = few_grown a b (grown_begins line o a) h
  act_few a b (Goes line w at idle) h = few_grown a b (grown_goes go_step line a) h
  act_few a b (Hands peer number line bytes w k) h =
      let x : Core = without_job peer a in
      few_grown a b (grown_both a x b (grown_still a x refl refl (λ g. refl)) (grown_goes (λ v o. bytes_step v bytes (pointers_for w.shard w.operation.op x) o) line x)) h
  act_few a b (TakesEffect shard number entry next) h = few_grown (taken shard entry a) b (grown_tells shard entry (done_by shard entry a).effect (taken shard entry a)) (few_taken shard number entry a next h)
  act_few a b (Enters shard urged due) h = few_grown a b (grown_proposes shard (kind.Enter 0 ((catalogue_of shard a).epoch + 1)) a) h
  act_few a b (Gets number from to epoch round total deltas k new) h =
      let x : Core = change_pool (without number) a in
      few_grown a b (grown_both a x b (grown_still a x refl refl (λ g. refl)) (grown_proposes to (kind.Got from epoch round total deltas) x)) h
  act_few a b (SendsRound back shard peer k) h = few_grown a b (grown_round back shard a) h
  act_few a b (Falls peer k) h = few_roomy b (fallen_few a peer k)
  act_few a b (Joins peer k) h = few_roomy b (joined_few a peer k.behind)
  act_few a b (Opens shard is good) h = absurd (cc is)

  acts_few : (a : Core) → Acts s (Some e) a → HasFewLeft a
  acts_few a NoAct = few_roomy s roomy_start
  acts_few a (AndThen {a = c} xs x) = act_few c a x (acts_few c xs)

  -- so each entry that takes effect leaves few root records
  pub takes_few : (a : Core) → Acts s (Some e) a → (shard number : ℕ) (entry : Entry) → committed (group_of shard a) ≡ Some (number, entry) → (g : ℕ) → length (catalogue_of g (taken shard entry a)).roots ≤ most_records
  takes_few a xs shard number entry next = few_records (taken shard entry a) (few_taken shard number entry a next (acts_few a xs))
