-- The core as it opens is in step with the machine of each shard's copies.
use Rattle.std.proofs.Common.{◌≡◌, ◌∙◌, ap, sym, subst, refl, inl, inr, arith, ℕ, zero, suc, ◌+◌, ◌-◌, ◌*◌, ◌<◌, ◌≤◌, not, Bool, true, false, if◌then◌else◌, List, [], ◌∷◌, ◌++◌, Option, Some, None, length, drop}
use Rattle.std.proofs.Math.ListN.{get_or-map}
use Rattle.std.proofs.lemmas.Bool.{cases_eq, cases_lt}
use Rattle.std.proofs.lemmas.List.{get_or-drop, get_or-replicate, get_or-take, get_or_past, length-drop, length-map, length-replicate, length-take}
use Rattle.std.proofs.lemmas.List.Elements.{All-nil}
use Rattle.std.proofs.lemmas.List.FromFn.{get_or-map-range_with_len, length-range_with_len}
use Rattle.std.specs.List.{All, range_with_len}
use Rattle.std.specs.Map.{values_of}
use Rattle.std.specs.Prelude.{slice_index, slice_index_or}
use Rattle.hs_awaiting.specs.Words.{change_if, change_with, each}
use Rattle.hs_copies.proofs.FailLemmas.{good_found}
use Rattle.hs_copies.proofs.HomeLemmas.{Leads, lead_found}
use Rattle.hs_copies.proofs.NewViewLemmas.{told_copy_of, told_good, told_length}
use Rattle.hs_copies.proofs.OpenCoreLemmas.{opens}
use Rattle.hs_copies.proofs.StatusLemmas.{home_peer}
use Rattle.hs_copies.specs.CoreCopies.{opens_good}
use Rattle.hs_copies.specs.CoreRuns.{opened_core}
use Rattle.hs_copies.specs.Lists.{IsFront, Item}
use Rattle.hs_copies.specs.Machine.{Copies, after_events}
use Rattle.hs_copies.specs.Stamps.{view_told}
use Rattle.hs_copies.specs.Standing.{Continues, IsOpening}
use Rattle.hs_core_words.specs.declared.task.Task.{Task}
use Rattle.hs_core_words.specs.Changing.{add_entry_tasks, change_group, note, post, set_viewed}
use Rattle.hs_core_words.specs.declared.event.Event.{Event}
use Rattle.hs_core_words.specs.Looking.{front_of, group_of, lead_of, shape_of, shards_of, status_of, tasks_of}
use Rattle.hs_core_words.specs.Opening.{Taken, begin_views, first_members, first_view, good_copies, new_core, note_down, note_if_down, open_core, taken_group}
use Rattle.hs_core_words.specs.Operating.{propose_entry}
use Rattle.hs_core_words.specs.State.{Core}
use Rattle.hs_core_words.specs.Step.{end_event}
use Rattle.hs_core_words.specs.Views.{begin_view, change_view, restart}
use Rattle.hs_entry.specs.declared.entry.Entry.{Entry}
use Rattle.hs_entry.specs.declared.entry.Entry.TheVariants as kind
use Rattle.hs_journal.specs.declared.entry.Who.TheVariants as who
use Rattle.hs_limits.specs.declared.limits.Limits.{Limits}
use Rattle.hs_limits.specs.declared.limits.PeerStatus.{PeerStatus}
use Rattle.hs_limits.specs.declared.limits.PeerStatus.TheVariants.{Down, Good}
use Rattle.hs_limits.specs.declared.shape.Shape.{Shape}
use Rattle.hs_limits.specs.Shape.{IsShape, peer_of}
use Rattle.hs_members.specs.Members.{IsMembers, Members, all_peers, has_good, is_good_status, members_at, status, view_of}
use Rattle.hs_model.specs.declared.deed.Deed.TheVariants as deed
use Rattle.hs_model.specs.declared.reply.Reply.TheVariants as reply
use Rattle.hs_replica.specs.declared.replica.Replica.{Replica}
use Rattle.hs_replica.specs.Group.{Group, IsHome, commit_front, copy_of, first_peer, last_number, lead, length_of, new_group, no_copy, on_view, proposal, propose, renew, renewal, tell, told, view_after, view_messages, whole_copy}
use Rattle.hs_core_copies.proofs.GoingLemmas.{Moves, moves_both, moves_same, on_after, on_then}
use Rattle.hs_core_copies.proofs.BesideLemmas.{IsBeside, besides_both, besides_same, moves_beside, moves_quiet}
use Rattle.hs_core_copies.proofs.JobLemmas.{no_jobs}
use Rattle.hs_core_copies.proofs.LeadLemmas.{good_only, home_of_shard, of_home}
use Rattle.hs_core_copies.proofs.LikeLemmas.{like_stands}
use Rattle.hs_core_copies.proofs.RunLemmas.{front_in_step, goes_along, not_ended, stamps_in_step}
use Rattle.hs_core_copies.proofs.StillLemmas.{least_below, takes_known}
use Rattle.hs_core_copies.proofs.StepsLemmas.{ends, lost_told}
use Rattle.hs_core_copies.proofs.UnsealedLemmas.{IsHeld, none_unsealed}
use Rattle.hs_core_copies.proofs.ViewLemmas.{HasBegun, IsNewLead, view_here, views_apart}
use Rattle.hs_core_copies.specs.InStep.{GoesOn, IsOf, IsPlaced, IsSeated, IsUnderWay, IsWithin, copies_in, no_line, rejoin_at}
use Rattle.hs_core_copies.specs.Jobs.{HasItsJobs, unsealed}
use Rattle.hs_core_copies.specs.Opening.{IsTakenLog, MayOpen, OpensAs, opened_with}
use Rattle.hs_core_copies.specs.Runs.{core_after}

-- ---- what the core opens with

rows : (n k w : ℕ) → k < n → k * w + w ≤ n * w
rows n k w l = grind (arith, l)

-- all that each copy has is sealed
sealed_first : (shape : Shape) (shard view len : ℕ) (good : List Bool) (q : ℕ) → length_of (new_group shape shard view len good) q ≤ (copy_of (new_group shape shard view len good) q).sealed
sealed_first shape shard view len good q =
    let f : Bool → Replica = λ b. if b then whole_copy view len else no_copy in
    let copy : copy_of (new_group shape shard view len good) q ≡ f (slice_index_or good (q - peer_of shape shard 0) false) = get_or-map f good (q - peer_of shape shard 0) false in
    subst (λ (r : Replica). length r.stamps ≤ r.sealed) (sym copy) (go (slice_index_or good (q - peer_of shape shard 0) false))
  where
    go : (b : Bool) → length (if b then whole_copy view len else no_copy).stamps ≤ (if b then whole_copy view len else no_copy).sealed
    go true = omega (arith, length-replicate len view)
    go false = omega arith

module _ (shape : Shape) (taken : Taken) (fits : IsShape shape) (count : length taken.good ≡ shape.shards * shape.copies) where
  first_valid : IsMembers (first_members shape taken)
  first_valid = record {
    shape = fits;
    views = length-map (range_with_len 0 shape.shards) (first_view (members_at shape taken.views taken.good) taken.views) ∙ length-range_with_len 0 shape.shards;
    statuses = length-map taken.good (λ b. if b then Good else Down) ∙ count;
  }

  few_copies : (shard : ℕ) → length (good_copies shape taken.good shard) ≤ shape.copies
  few_copies shard = let n = length-take shape.copies (drop (peer_of shape shard 0) taken.good) in omega (arith, n)

  all_copies : (shard : ℕ) → shard < shape.shards → length (good_copies shape taken.good shard) ≡ shape.copies
  all_copies shard low =
      let n = length-take shape.copies (drop (peer_of shape shard 0) taken.good) in
      let l = length-drop (peer_of shape shard 0) taken.good in
      omega (arith, n, l, count, rows shape.shards shard shape.copies low)

  -- which peers are good
  first_status : (shard copy : ℕ) → copy < shape.copies → status (peer_of shape shard copy) (first_members shape taken) ≡ (if slice_index_or (good_copies shape taken.good shard) copy false then Good else Down)
  first_status shard copy low =
      let f : Bool → PeerStatus = λ b. if b then Good else Down in
      let place : peer_of shape shard 0 + copy ≡ peer_of shape shard copy = omega arith in
      get_or-map f taken.good (peer_of shape shard copy) false
      ∙ ap (λ p. f (slice_index_or taken.good p false)) (sym place)
      ∙ ap f (sym (get_or-take shape.copies (drop (peer_of shape shard 0) taken.good) copy false low ∙ get_or-drop (peer_of shape shard 0) taken.good copy false))

  module _ (shard : ℕ) (low : shard < shape.shards) (log : List (Item Entry)) (is : IsTakenLog taken shard log) (some : has_good shard (first_members shape taken) ≡ true) where
    first_of : view_of shard (first_members shape taken) ≡ suc (view_told view_after 0 log)
    first_of =
        let k : view_of shard (first_members shape taken) ≡ first_view (members_at shape taken.views taken.good) taken.views shard =
        get_or-map-range_with_len (first_view (members_at shape taken.views taken.good) taken.views) 0 shape.shards shard shard 0 low (omega arith) in
        let n : first_view (members_at shape taken.views taken.good) taken.views shard ≡ slice_index taken.views shard + 1 =
        ap (λ b. if b then slice_index taken.views shard + 1 else slice_index taken.views shard) some in
        omega (arith, k, n, is.view)

    pub opening : IsOpening shape shard log (good_copies shape taken.good shard) (first_members shape taken)
    opening = record {
      same = refl;
      valid = first_valid;
      within = low;
      copies = all_copies shard low;
      ascends = is.ascends;
      view = first_of;
      each = λ copy l. first_status shard copy l;
      some = some;
    }

    taken_is : taken_group shape taken shard ≡ new_group shape shard (view_told view_after 0 log) (length log) (good_copies shape taken.good shard)
    taken_is = rw (is.view, is.long) refl

    long_now : length (new_group shape shard (view_told view_after 0 log) (length log) (good_copies shape taken.good shard)).copies ≡ shape.copies
    long_now = length-map (good_copies shape taken.good shard) (λ b. if b then whole_copy (view_told view_after 0 log) (length log) else no_copy) ∙ all_copies shard low

    -- a good peer's copy has all of it
    whole_of : (q : ℕ) → IsHome (new_group shape shard (view_told view_after 0 log) (length log) (good_copies shape taken.good shard)) q → status q (first_members shape taken) ≡ Good
        → copy_of (new_group shape shard (view_told view_after 0 log) (length log) (good_copies shape taken.good shard)) q ≡ whole_copy (view_told view_after 0 log) (length log)
    whole_of q h good =
        let place : peer_of shape shard (q - peer_of shape shard 0) ≡ q = omega (arith, h.0) in
        let k : status q (first_members shape taken) ≡ (if slice_index_or (good_copies shape taken.good shard) (q - peer_of shape shard 0) false then Good else Down) =
        subst (λ p. status p (first_members shape taken) ≡ (if slice_index_or (good_copies shape taken.good shard) (q - peer_of shape shard 0) false then Good else Down)) place
        (first_status shard (q - peer_of shape shard 0) (omega (arith, h.0, h.1))) in
        get_or-map (λ b. if b then whole_copy (view_told view_after 0 log) (length log) else no_copy) (good_copies shape taken.good shard) (q - peer_of shape shard 0) false
        ∙ go (slice_index_or (good_copies shape taken.good shard) (q - peer_of shape shard 0) false) (sym k ∙ good)
      where
        go : (b : Bool) → (if b then Good else Down) ≡ Good → (if b then whole_copy (view_told view_after 0 log) (length log) else no_copy) ≡ whole_copy (view_told view_after 0 log) (length log)
        go true e = refl
        go false e = let wrong : Down ≡ Good = e in absurd (cc wrong)

    pub first_lead : (l : ℕ) × IsNewLead (first_members shape taken) (new_group shape shard (view_told view_after 0 log) (length log) (good_copies shape taken.good shard)) l
        × IsHome (new_group shape shard (view_told view_after 0 log) (length log) (good_copies shape taken.good shard)) l
    first_lead =
        let x : Group = new_group shape shard (view_told view_after 0 log) (length log) (good_copies shape taken.good shard) in
        let m : Members = first_members shape taken in
        let q = good_found x m refl some in
        let n : length (told m x).copies ≡ x.shape.copies = told_length m x ∙ long_now in
        let f = lead_found (told m x) q.0 n q.1 (told_good m x q.0 long_now q.1 ∙ q.2) in
        let k : Leads (told m x) f.0 = f.2 in
        let good : status f.0 m ≡ Good = good_only (status f.0 m) (sym (told_good m x f.0 long_now k.home) ∙ k.good) in
        let whole : copy_of x f.0 ≡ whole_copy (view_told view_after 0 log) (length log) = whole_of f.0 k.home good in
        let long : length_of x f.0 ≡ length log = ap (λ (c : Replica). length c.stamps) whole ∙ length-replicate (length log) (view_told view_after 0 log) in
        let sealed : (copy_of x f.0).sealed ≡ length log = ap (λ (c : Replica). c.sealed) whole in
        (f.0, record { chosen = f.1; leads = k; low = omega (arith, long); high = omega (arith, long); held = omega (arith, long, sealed) }, k.home)

    whole_held : (q : ℕ) → IsHome (new_group shape shard (view_told view_after 0 log) (length log) (good_copies shape taken.good shard)) q → status q (first_members shape taken) ≡ Good
        → IsHeld (new_group shape shard (view_told view_after 0 log) (length log) (good_copies shape taken.good shard)) q
    whole_held q h good =
        let x : Group = new_group shape shard (view_told view_after 0 log) (length log) (good_copies shape taken.good shard) in
        let whole : copy_of x q ≡ whole_copy (view_told view_after 0 log) (length log) = whole_of q h good in
        let long : length_of x q ≡ length log = ap (λ (c : Replica). length c.stamps) whole ∙ length-replicate (length log) (view_told view_after 0 log) in
        let sealed : (copy_of x q).sealed ≡ length log = ap (λ (c : Replica). c.sealed) whole in
        record { front = omega (arith, sealed); sealed = omega (arith, long, sealed); within = omega (arith, long) }

    -- no more is known than what the log has
    pub first_up : commit_front (on_view (first_members shape taken) (new_group shape shard (view_told view_after 0 log) (length log) (good_copies shape taken.good shard))) ≤ length log
    first_up =
        let x : Group = new_group shape shard (view_told view_after 0 log) (length log) (good_copies shape taken.good shard) in
        let m : Members = first_members shape taken in
        let d = first_lead in
        let is_good : (copy_of (told m x) d.0).good ≡ true = d.1.leads.good in
        let good : status d.0 m ≡ Good = good_only (status d.0 m) (sym (told_good m x d.0 long_now d.2) ∙ is_good) in
        let known : (copy_of (told m x) d.0).known ≡ length log =
        ap (λ (c : Replica). c.known) (told_copy_of m x d.0 long_now d.2) ∙ ap (λ k. (tell (is_good_status k) (copy_of x d.0)).known) good ∙ ap (λ (c : Replica). c.sealed) (whole_of d.0 d.2 good) in
        let n : length (told m x).copies ≡ x.shape.copies = told_length m x ∙ long_now in
        let low : commit_front (told m x) ≤ (copy_of (told m x) d.0).known = least_below (told m x).copies (d.0 - first_peer x) (omega (arith, n, d.2.0, d.2.1)) is_good in
        let same : commit_front (on_view m x) ≡ commit_front (renew m x) = takes_known (lead (renew m x)) (kind.View (view_of x.shard m)) (renew m x) in
        omega (arith, low, known, same)

  -- ---- nothing is under way

  module _ (limits : Limits) (moment : ℕ) where
    group_first : (shard : ℕ) → shard < shape.shards → group_of shard (new_core shape limits taken moment) ≡ taken_group shape taken shard
    group_first shard low = get_or-map-range_with_len (taken_group shape taken) 0 shape.shards shard shard (new_group shape shard 0 0 []) low (omega arith)

    long_groups : length (new_core shape limits taken moment).groups ≡ shape.shards
    long_groups = length-map (range_with_len 0 shape.shards) (taken_group shape taken) ∙ length-range_with_len 0 shape.shards

    placed_first : (shard : ℕ) → IsPlaced shape shard (group_of shard (new_core shape limits taken moment))
    placed_first shard = elim (cases_lt shard shape.shards) [
      | inl low ↦ rw (group_first shard low) (record {
        same_shape = refl;
        same_shard = refl;
        few =
            let n = length-map (good_copies shape taken.good shard) (λ b. if b then whole_copy (slice_index taken.views shard) (slice_index taken.lengths shard) else no_copy) in
            omega (arith, n, few_copies shard);
      })
      | inr high ↦
          let none : group_of shard (new_core shape limits taken moment) ≡ new_group shape shard 0 0 [] = get_or_past (new_core shape limits taken moment).groups shard (new_group shape shard 0 0 []) (omega (arith, high, long_groups)) in
          rw none (record { same_shape = refl; same_shard = refl; few = omega arith })
    ]

    pub seated_first : IsSeated (new_core shape limits taken moment)
    seated_first = record {
      groups = long_groups;
      tasks = length-replicate (shape.shards * shape.copies) [];
      rejoins = length-replicate (shape.shards * shape.copies) None;
      placed = placed_first;
      within = All-nil (IsWithin shape);
    }

    none_first : (q : ℕ) → tasks_of q (new_core shape limits taken moment) ≡ []
    none_first q = elim (cases_lt q (shape.shards * shape.copies)) [
      | inl low ↦ get_or-replicate (shape.shards * shape.copies) q [] [] low
      | inr high ↦ get_or_past (new_core shape limits taken moment).tasks q [] (let n = length-replicate {A = List Task} (shape.shards * shape.copies) [] in omega (arith, n, high))
    ]

    all_sealed : (g q : ℕ) → length_of (group_of g (new_core shape limits taken moment)) q ≤ (copy_of (group_of g (new_core shape limits taken moment)) q).sealed
    all_sealed g q = elim (cases_lt g shape.shards) [
      | inl low ↦ subst (λ (x : Group). length_of x q ≤ (copy_of x q).sealed) (sym (group_first g low)) (sealed_first shape g (slice_index taken.views g) (slice_index taken.lengths g) (good_copies shape taken.good g) q)
      | inr high ↦
          let none : group_of g (new_core shape limits taken moment) ≡ new_group shape g 0 0 [] = get_or_past (new_core shape limits taken moment).groups g (new_group shape g 0 0 []) (omega (arith, high, long_groups)) in
          subst (λ (x : Group). length_of x q ≤ (copy_of x q).sealed) (sym none) (sealed_first shape g 0 0 [] q)
    ]

    jobs_first : (g q : ℕ) → HasItsJobs g (new_core shape limits taken moment) q
    jobs_first g q = record {
      good = λ e. rw (none_first q) (no_jobs (unsealed q (group_of g (new_core shape limits taken moment))) (none_unsealed (group_of g (new_core shape limits taken moment)) q (all_sealed g q)));
      other = λ e. none_first q;
    }

    -- ---- the shard's first view

    module _ (g : ℕ) (low : g < shape.shards) (log : List (Item Entry)) (is : IsTakenLog taken g log) (some : has_good g (first_members shape taken) ≡ true)
        (a : Core) (k : IsBeside g (new_core shape limits taken moment) a) (members : a.members ≡ first_members shape taken) where
      pub group_is : group_of g a ≡ new_group shape g (view_told view_after 0 log) (length log) (good_copies shape taken.good g)
      group_is = k.group ∙ group_first g low ∙ taken_is g low log is some

      pub begun : HasBegun g a (group_of g a) [] (begin_view g a)
      begun =
          let d = first_lead g low log is some in
          let home : IsHome (group_of g a) d.0 = rw group_is d.2 in
          let lead_now : IsNewLead a.members (group_of g a) d.0 = rw (group_is, members) d.1 in
          let long : length (group_of g a).copies ≡ (group_of g a).shape.copies = rw group_is (long_now g low log is some) in
          let peer : d.0 < shape.shards * shape.copies = home_peer (new_group shape g (view_told view_after 0 log) (length log) (good_copies shape taken.good g)) d.0 low d.2 in
          let shape_is : a.members.shape ≡ shape = ap (λ (n : Members). n.shape) members in
          view_here g a [] k.seated (rw (k.seated.groups, shape_is) low) long (k.pool [] (All-nil (IsUnderWay g [])))
          (λ q h. k.jobs q (of_home shape g (group_of g a) q (sym ((k.seated.placed g).same_shape ∙ shape_is)) (k.seated.placed g).same_shard h) (jobs_first g q))
          (λ q h i. rw group_is (whole_held g low log is some q (rw group_is at h) (rw members at i))) d.0 lead_now (rw (k.seated.tasks, shape_is) peer)

      pub opened_here : (leads : ℕ) × (opens_good shape g (good_copies shape taken.good g) leads ≡ true) × GoesOn g (begin_view g a) (opened_with shape taken g log leads)
      opened_here =
          let b : Core = begin_view g a in
          let v : HasBegun g a (group_of g a) [] b = begun in
          let m : Members = first_members shape taken in
          let good : List Bool = good_copies shape taken.good g in
          let x : Group = new_group shape g (view_told view_after 0 log) (length log) good in
          let now : b.members ≡ m = v.members ∙ members in
          let o = opens shape g log good m (rejoin_at b) (opening g low log is some) no_line (λ view. refl) in
          let c : Continues no_line (opened_core shape g log good m (rejoin_at b)) (opened_with shape taken g log o.0) = o.2 in
          let of : (q : ℕ) → IsOf b.members.shape g q → IsHome (group_of g a) q = λ q own. home_of_shard shape g (group_of g a) q (sym ((k.seated.placed g).same_shape ∙ ap (λ (n : Members). n.shape) members)) (k.seated.placed g).same_shard fits.some_copy (rw now at own) in
          let sent_is : view_messages a.members (group_of g a) ≡ view_messages m x = ap (view_messages a.members) group_is ∙ ap (λ n. view_messages n x) members in
          let under : All (IsUnderWay g (view_messages m x ++ [])) (values_of b.pool.messages) = subst (λ ms. All (IsUnderWay g (ms ++ [])) (values_of b.pool.messages)) sent_is v.under_way in (
            o.0,
            o.1,
            record {
              events = c.events;
              allowed = c.allowed;
              keeps = record {
                seated = v.seated;
                here = rw now low;
                sent = view_messages m x ++ [];
                stands = like_stands (opened_core shape g log good m (rejoin_at b)) (copies_in g (view_messages m x ++ []) b) (after_events (opened_with shape taken g log o.0) c.events)
                    (record {
                      group = v.group ∙ ap (on_view a.members) group_is ∙ ap (λ n. on_view n x) members;
                      shape = ap (λ (n : Members). n.shape) now;
                      valid = rw now first_valid;
                      view = rw now refl;
                      statuses = λ q h. rw now refl;
                      empties = λ q h j. refl;
                      counts = λ q h j. refl;
                      sent = λ n h. h;
                    }) c.stands;
                under_way = under;
                jobs = λ q own. v.jobs q (of q own);
              };
            },
          )

-- ---- all shards, one after another

-- a view changes no status
proposed_members : (x : ℕ) (entry : Entry) (c : Core) → (propose_entry x entry c).members ≡ c.members
proposed_members x entry c = go (lead_of x c)
  where
    go : (o : Option ℕ)
        → (change_with o (λ peer. add_entry_tasks peer (last_number (group_of x c) + 1) entry) (post (proposal entry (group_of x c)) (change_group x (propose entry) c))).members ≡ c.members
    go None = refl
    go (Some l) = refl

pub viewed_members : (x : ℕ) (c : Core) → (change_view x c).members ≡ c.members
viewed_members x c = go (has_good x c.members)
  where
    go : (b : Bool) → (change_if b (begin_view x) c).members ≡ c.members
    go true = proposed_members x (kind.View (view_of x c.members)) (post (renewal (group_of x (restart x (change_group x (renew c.members) (set_viewed x false c))))) (restart x (change_group x (renew c.members) (set_viewed x false c))))
    go false = refl

each_members : (xs : List ℕ) (c : Core) → (each xs change_view c).members ≡ c.members
each_members [] c = refl
each_members (x ∷ xs) c = each_members xs (change_view x c) ∙ viewed_members x c

-- the views of later shards
later_views : (g from n : ℕ) (c : Core) → g < from → Moves g c (each (range_with_len from n) change_view c)
later_views g from zero c above = moves_same g c
later_views g from (suc n) c above =
    moves_both g c (change_view from c) (each (range_with_len (from + 1) n) change_view (change_view from c))
    (moves_beside g c (change_view from c) (views_apart g from c (λ e. omega (arith, e, above))))
    (later_views g (from + 1) n (change_view from c) (omega (arith, above)))

-- each peer that is not good is told of
down_moves : (g : ℕ) (ps : List ℕ) (c : Core) → Moves g c (each ps note_if_down c)
down_moves g [] c = moves_same g c
down_moves g (p ∷ ps) c = moves_both g c (note_if_down p c) (each ps note_if_down (note_if_down p c)) (one (not (is_good_status (status_of p c)))) (down_moves g ps (note_if_down p c))
  where
    one : (b : Bool) → Moves g c (change_if b (note who.Store deed.Nothing (reply.Down p 0)) c)
    one true = moves_quiet g c (note who.Store deed.Nothing (reply.Down p 0) c) (record { members = refl; groups = refl; tasks = refl; rejoins = refl; pool = refl })
    one false = moves_same g c

down_members : (ps : List ℕ) (c : Core) → (each ps note_if_down c).members ≡ c.members
down_members [] c = refl
down_members (p ∷ ps) c = down_members ps (note_if_down p c) ∙ one (not (is_good_status (status_of p c)))
  where
    one : (b : Bool) → (change_if b (note who.Store deed.Nothing (reply.Down p 0)) c).members ≡ c.members
    one true = refl
    one false = refl

opens_then : (shape : Shape) (taken : Taken) (g : ℕ) (log : List (Item Entry)) (a b : Core) → OpensAs shape taken g log a → Moves g a b → OpensAs shape taken g log b
opens_then shape taken g log a b o h = (o.0, o.1, on_then g a b (opened_with shape taken g log o.0) o.2 h)

module _ (shape : Shape) (limits : Limits) (taken : Taken) (moment : ℕ) (fits : IsShape shape) (count : length taken.good ≡ shape.shards * shape.copies)
    (g : ℕ) (low : g < shape.shards) (log : List (Item Entry)) (is : IsTakenLog taken g log) (some : has_good g (first_members shape taken) ≡ true) where
  opens_each : (n from : ℕ) → from ≤ g → g < from + n → (a : Core) → IsBeside g (new_core shape limits taken moment) a → a.members ≡ first_members shape taken
      → OpensAs shape taken g log (each (range_with_len from n) change_view a)
  opens_each zero from above below a k members = absurd (omega (arith, above, below))
  opens_each (suc n) from above below a k members = elim (cases_eq from g) [
    | inl e ↦ opens_then shape taken g log (change_view from a) (each (range_with_len (from + 1) n) change_view (change_view from a))
        (rw e (subst (λ (t : Bool). OpensAs shape taken g log (change_if t (begin_view g) a)) (sym (ap (has_good g) members ∙ some)) (opened_here shape taken fits count limits moment g low log is some a k members)))
        (later_views g (from + 1) n (change_view from a) (omega (arith, e)))
    | inr ne ↦ opens_each n (from + 1) (omega (arith, above, ne)) (omega (arith, below)) (change_view from a)
        (besides_both g (new_core shape limits taken moment) a (change_view from a) (λ st. k) (views_apart g from a (λ i. ne (sym i))) (seated_first shape taken fits count limits moment))
        (viewed_members from a ∙ members)
  ]

  opened_views : OpensAs shape taken g log (begin_views (new_core shape limits taken moment))
  opened_views =
      opens_each shape.shards 0 (omega arith) (omega (arith, low)) (new_core shape limits taken moment)
      (besides_same g (new_core shape limits taken moment) (seated_first shape taken fits count limits moment)) refl

-- all members are as at first
pub told_members : (shape : Shape) (limits : Limits) (taken : Taken) (moment : ℕ) → (note_down (begin_views (new_core shape limits taken moment))).members ≡ first_members shape taken
told_members shape limits taken moment =
    down_members (all_peers (shape_of (begin_views (new_core shape limits taken moment)))) (begin_views (new_core shape limits taken moment))
    ∙ each_members (shards_of (new_core shape limits taken moment)) (new_core shape limits taken moment)

-- a core that opens without a good peer of a shard ends
pub first_none : (shape : Shape) (limits : Limits) (taken : Taken) (moment g : ℕ) → g < shape.shards → has_good g (first_members shape taken) ≡ false → (open_core shape limits taken moment).ended ≡ None → ⊥
first_none shape limits taken moment g low none on =
    let b : Core = note_down (begin_views (new_core shape limits taken moment)) in
    let members : b.members ≡ first_members shape taken = told_members shape limits taken moment in
    lost_told g b (rw members low) (rw members none) ((ends b).ended on)

-- the core opens, and does not end at once
pub opens_in_step : (shape : Shape) (limits : Limits) (taken : Taken) (moment : ℕ) → IsShape shape → length taken.good ≡ shape.shards * shape.copies
    → (g : ℕ) → g < shape.shards → (log : List (Item Entry)) → IsTakenLog taken g log → (open_core shape limits taken moment).ended ≡ None
    → OpensAs shape taken g log (open_core shape limits taken moment)
opens_in_step shape limits taken moment fits count g low log is on = go (has_good g (first_members shape taken)) refl
  where
    go : (b : Bool) → has_good g (first_members shape taken) ≡ b → OpensAs shape taken g log (open_core shape limits taken moment)
    go true some =
        let a : Core = begin_views (new_core shape limits taken moment) in
        let b : Core = note_down a in
        opens_then shape taken g log b (end_event b)
        (opens_then shape taken g log a b (opened_views shape limits taken moment fits count g low log is some) (down_moves g (all_peers (shape_of a)) a))
        ((ends b).moves g)
    go false none = absurd (first_none shape limits taken moment g low none on)

pub opened_core_in_step : (shape : Shape) (limits : Limits) (taken : Taken) (moment g : ℕ) (log : List (Item Entry)) → MayOpen shape taken g log → (open_core shape limits taken moment).ended ≡ None
    → OpensAs shape taken g log (open_core shape limits taken moment)
opened_core_in_step shape limits taken moment g log may on = opens_in_step shape limits taken moment may.fits may.count g may.here log may.log_is on

pub run_in_step : (shape : Shape) (limits : Limits) (taken : Taken) (moment g : ℕ) (log : List (Item Entry)) (es : List (Event × ℕ)) → MayOpen shape taken g log
    → (core_after es (open_core shape limits taken moment)).ended ≡ None → OpensAs shape taken g log (core_after es (open_core shape limits taken moment))
run_in_step shape limits taken moment g log es may on =
    let a : Core = open_core shape limits taken moment in
    let o = opened_core_in_step shape limits taken moment g log may (not_ended es a on) in
    let start : Copies Entry = after_events (opened_with shape taken g log o.0) o.2.events in
    (o.0, o.1, on_after g a (core_after es a) (opened_with shape taken g log o.0) o.2 (goes_along g es a start o.2.keeps on))

module _ (shape : Shape) (limits : Limits) (taken : Taken) (moment g : ℕ) (log : List (Item Entry)) (es : List (Event × ℕ)) (core : Core) (may : MayOpen shape taken g log)
    (is : core ≡ core_after es (open_core shape limits taken moment)) (on : core.ended ≡ None) where
  in_run : OpensAs shape taken g log core
  in_run = rw is (run_in_step shape limits taken moment g log es may (rw is at on))

  pub stamps_in_run : (p l : ℕ) → IsOf core.members.shape g p → status_of p core ≡ Good → lead_of g core ≡ Some l → IsFront (copy_of (group_of g core) p).stamps (copy_of (group_of g core) l).stamps
  stamps_in_run p l own good leads =
      let o = in_run in
      stamps_in_step g core (after_events (opened_with shape taken g log o.0) o.2.events) o.2.keeps p l own good leads

  pub front_in_run : (p : ℕ) → IsOf core.members.shape g p → status_of p core ≡ Good → front_of g core ≤ length_of (group_of g core) p
  front_in_run p own good =
      let o = in_run in
      front_in_step g core (after_events (opened_with shape taken g log o.0) o.2.events) o.2.keeps p own good
