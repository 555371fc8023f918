-- A view begins, in the shard and in another one.
use Rattle.std.proofs.Common.{◌≡◌, ◌≢◌, ◌∙◌, ap, sym, subst, refl, arith, ℕ, ◌+◌, ◌-◌, ◌<◌, ◌≤◌, Bool, true, false, List, [], ◌∷◌, ◌++◌, Some, length, min}
use Rattle.std.proofs.lemmas.List.{length-set, length-take}
use Rattle.std.proofs.lemmas.List.Elements.{All-cons, All-head, All-nil, All-tail}
use Rattle.std.specs.List.{All}
use Rattle.std.specs.Map.{values_of}
use Rattle.std.specs.Option.{option_map_or}
use Rattle.std.specs.Prelude.{take}
use Rattle.hs_awaiting.specs.Words.{change_if}
use Rattle.hs_copies.proofs.HomeLemmas.{Leads}
use Rattle.hs_copies.proofs.NewViewLemmas.{told_copy_of, told_good, told_length, told_long}
use Rattle.hs_core_words.specs.Changing.{add_entry_tasks, change_group, post, set_viewed}
use Rattle.hs_core_words.specs.Looking.{group_of, lead_of, status_of, tasks_of}
use Rattle.hs_core_words.specs.Operating.{propose_entry}
use Rattle.hs_core_words.specs.State.{Core}
use Rattle.hs_core_words.specs.Views.{begin_view, change_view, restart}
use Rattle.hs_entry.specs.declared.entry.Entry.{Entry}
use Rattle.hs_entry.specs.declared.entry.Entry.TheVariants as kind
use Rattle.hs_limits.specs.declared.limits.PeerStatus.TheVariants.{Good}
use Rattle.hs_members.specs.Members.{Members, has_good, is_good_status, status, view_of}
use Rattle.hs_post.specs.declared.message.Message.{Message}
use Rattle.hs_replica.specs.declared.replica.Replica.{Replica}
use Rattle.hs_replica.specs.Group.{Group, IsHome, copy_of, last_number, lead, length_of, on_view, proposal, propose, renew, renewal, told, view_messages}
use Rattle.hs_core_copies.proofs.GoingLemmas.{Moves}
use Rattle.hs_core_copies.proofs.BesideLemmas.{Besides, IsSame, besides_both, besides_same, group_beside, moves_beside, posts_beside, same_beside, seated_post}
use Rattle.hs_core_copies.proofs.JobLemmas.{IsTakenAt, proposed_at, takes_jobs}
use Rattle.hs_core_copies.proofs.LeadLemmas.{good_only, same_lead}
use Rattle.hs_core_copies.proofs.PlaceLemmas.{group_here, proposed_kept, renewed_kept, seated_group, seated_tasks}
use Rattle.hs_core_copies.proofs.PostLemmas.{posted, proposal_within, renewal_beside, renewal_within, under_way_more, under_way_now}
use Rattle.hs_core_copies.proofs.StepLemmas.{proposes_apart}
use Rattle.hs_core_copies.proofs.UnsealedLemmas.{IsHeld, between_cut, unsealed_by}
use Rattle.hs_core_copies.specs.InStep.{IsSeated, IsUnderWay}
use Rattle.hs_core_copies.specs.Jobs.{HasItsJobs, HasJobs, unsealed}

seated_quiet : (a b : Core) → IsSame a b → IsSeated a → IsSeated b
seated_quiet a b e st = (same_beside 0 a b e st).seated

-- ---- at another shard

view_apart : (g x : ℕ) (c : Core) → g ≢ x → Besides g c (begin_view x c)
view_apart g x c ne =
    let a : Core = set_viewed x false c in
    let b : Core = change_group x (renew c.members) a in
    let d : Core = restart x b in
    let e : Core = post (renewal (group_of x d)) d in
    besides_both g c a (begin_view x c) (same_beside g c a (record { members = refl; groups = refl; tasks = refl; rejoins = refl; pool = refl }))
    (besides_both g a b (begin_view x c) (group_beside g x (renew c.members) a ne (renewed_kept c.members (group_of x a)))
    (besides_both g b d (begin_view x c) (same_beside g b d (record { members = refl; groups = refl; tasks = refl; rejoins = refl; pool = refl }))
    (besides_both g d e (begin_view x c)
    (λ st. posts_beside g d (renewal (group_of x d)) (renewal_beside (group_of x d) g (λ i. ne (sym i ∙ (st.placed x).same_shard)))
    (renewal_within d.members.shape (group_of x d) (st.placed x).same_shape (st.placed x).few) st)
    (proposes_apart g x (kind.View (view_of x c.members)) e ne))))

pub views_apart : (g x : ℕ) (c : Core) → g ≢ x → Besides g c (change_view x c)
views_apart g x c ne = go (has_good x c.members)
  where
    go : (b : Bool) → Besides g c (change_if b (begin_view x) c)
    go true = view_apart g x c ne
    go false = besides_same g c

pub views_beside : (g x : ℕ) (c : Core) → g ≢ x → Moves g c (change_view x c)
views_beside g x c ne = moves_beside g c (change_view x c) (views_apart g x c ne)

-- ---- in the shard

all_parts : {X : Type 0} (P : X → Type 0) (xs ys : List X) → All P (xs ++ ys) → All P xs × All P ys
all_parts P [] ys h = (All-nil P, h)
all_parts P (x ∷ xs) ys h =
    let rest = all_parts P xs ys (All-tail P x (xs ++ ys) h) in
    (All-cons P x xs (All-head P x (xs ++ ys) h) rest.0, rest.1)

-- what stands in the lead's list of the new view, where it has all that took effect and no more than the lead had before
renewed_last : (m : Members) (x : Group) (l : ℕ) → lead (told m x) ≡ Some l → x.front ≤ length_of (told m x) l → length_of (told m x) l ≤ last_number x
    → last_number (renew m x) ≡ length_of (told m x) l
renewed_last m x l e low high =
    let w : (renew m x).waiting ≡ take (length_of (told m x) l - x.front) x.waiting = ap (λ o. take (option_map_or (length_of (told m x)) o 0 - x.front) x.waiting) e in
    let n : length (renew m x).waiting ≡ min (length_of (told m x) l - x.front) (length x.waiting) = ap (λ ws. length ws) w ∙ length-take (length_of (told m x) l - x.front) x.waiting in
    omega (arith, n, low, high)

-- the view has begun, with what was sent before
pub record HasBegun (g : ℕ) (c : Core) (x : Group) (sent : List Message) (b : Core) : Type 0 where
  pub group : group_of g b ≡ on_view c.members x
  pub members : b.members ≡ c.members
  pub rejoins : b.progress.rejoins ≡ c.progress.rejoins
  pub seated : IsSeated b
  pub under_way : All (IsUnderWay g (view_messages c.members x ++ sent)) (values_of b.pool.messages)
  pub jobs : (q : ℕ) → IsHome x q → HasItsJobs g b q

-- who leads then
pub record IsNewLead (m : Members) (x : Group) (l : ℕ) : Type 0 where
  pub chosen : lead (told m x) ≡ Some l
  pub leads : Leads (told m x) l
  -- its list has all that took effect, all that it has sealed, and no more than the lead's
  pub low : x.front ≤ length_of x l
  pub high : length_of x l ≤ last_number x
  pub held : (copy_of x l).sealed ≤ length_of x l

module _ (g : ℕ) (c : Core) (sent : List Message) (seated : IsSeated c) (inside : g < length c.groups) (long : length (group_of g c).copies ≡ (group_of g c).shape.copies)
    (under : All (IsUnderWay g sent) (values_of c.pool.messages)) (jobs : (q : ℕ) → IsHome (group_of g c) q → HasItsJobs g c q)
    (held : (q : ℕ) → IsHome (group_of g c) q → status_of q c ≡ Good → IsHeld (group_of g c) q)
    (l : ℕ) (d : IsNewLead c.members (group_of g c) l) (low : l < length c.tasks) where
  of : (group_of g c).shard ≡ g
  of = (seated.placed g).same_shard

  kept : (q : ℕ) → IsHome (group_of g c) q → ((copy_of (renew c.members (group_of g c)) q).sealed ≡ (copy_of (group_of g c) q).sealed) × (length_of (renew c.members (group_of g c)) q ≡ length_of (group_of g c) q)
  kept q h = (ap (λ (r : Replica). r.sealed) (told_copy_of c.members (group_of g c) q long h), told_long c.members (group_of g c) q long h)

  good : status l c.members ≡ Good
  good = good_only (status l c.members) (sym (told_good c.members (group_of g c) l long d.leads.home) ∙ d.leads.good)

  long_now : length (renew c.members (group_of g c)).copies ≡ (renew c.members (group_of g c)).shape.copies
  long_now = told_length c.members (group_of g c) ∙ long

  last : last_number (renew c.members (group_of g c)) ≡ length_of (renew c.members (group_of g c)) l
  last =
      let n = told_long c.members (group_of g c) l long d.leads.home in
      renewed_last c.members (group_of g c) l d.chosen (omega (arith, n, d.low)) (omega (arith, n, d.high))

  -- a good peer's list is no longer than the new lead's
  no_longer : (q : ℕ) → IsHome (group_of g c) q → status_of q c ≡ Good → length_of (group_of g c) q ≤ length_of (told c.members (group_of g c)) l
  no_longer q h i =
      let n = told_long c.members (group_of g c) q long h in
      omega (arith, n, d.leads.longest q h (told_good c.members (group_of g c) q long h ∙ ap is_good_status i))

  -- what is cut stands above it
  kept_unsealed : (q : ℕ) → IsHome (group_of g c) q → status_of q c ≡ Good → unsealed q (renew c.members (group_of g c)) ≡ unsealed q (group_of g c)
  kept_unsealed q h i =
      let x : Group = group_of g c in
      let new : Group = told c.members x in
      let w : (renew c.members x).waiting ≡ take (length_of new l - x.front) x.waiting = ap (λ o. take (option_map_or (length_of new) o 0 - x.front) x.waiting) d.chosen in
      let k : IsHeld x q = held q h i in
      unsealed_by x (renew c.members x) q (kept q h).0 (kept q h).1
      (between_cut (copy_of x q).sealed (length_of x q) (length_of new l - x.front) x (renew c.members x) k.front k.sealed (omega (arith, no_longer q h i, k.front, k.sealed)) k.within refl w)

  kept_held : (q : ℕ) → IsHome (group_of g c) q → status_of q c ≡ Good → IsHeld (renew c.members (group_of g c)) q
  kept_held q h i =
      let k : IsHeld (group_of g c) q = held q h i in
      let sealed = (kept q h).0 in
      let long_q = (kept q h).1 in
      let leads = told_long c.members (group_of g c) l long d.leads.home in
      record { front = omega (arith, k.front, sealed); sealed = omega (arith, k.sealed, sealed, long_q); within = omega (arith, no_longer q h i, long_q, last, (kept l d.leads.home).1, leads) }

  module _ (e : Core) (at : group_of g e ≡ renew c.members (group_of g c)) (members : e.members ≡ c.members) (tasks : e.tasks ≡ c.tasks)
      (rejoins : e.progress.rejoins ≡ c.progress.rejoins) (st : IsSeated e) (within : g < length e.groups)
      (pool : (P : Message → Type 0) → All P (renewal (renew c.members (group_of g c))) → All P (values_of c.pool.messages) → All P (values_of e.pool.messages)) where
    leads_now : lead_of g e ≡ Some l
    leads_now =
        rw (at, members) (same_lead g (renew c.members (group_of g c)) c.members (sym (seated.placed g).same_shape) of long_now (λ q h. told_good c.members (group_of g c) q long h) ∙ d.chosen)

    jobs_now : (q : ℕ) → IsHome (group_of g c) q → HasItsJobs g e q
    jobs_now q h =
        let k : tasks_of q e ≡ tasks_of q c = rw tasks refl in
        record {
          good = λ i.
              let was : status_of q c ≡ Good = rw members at i in
              let same : unsealed q (group_of g e) ≡ unsealed q (group_of g c) = ap (λ (y : Group). unsealed q y) at ∙ kept_unsealed q h was in
              subst (λ es. HasJobs es (tasks_of q e)) (sym same) (subst (HasJobs (unsealed q (group_of g c))) (sym k) ((jobs q h).good was));
          other = λ i. k ∙ (jobs q h).other (λ j. i (rw members j));
        }

    home_now : (q : ℕ) → IsHome (group_of g c) q → IsHome (group_of g e) q
    home_now q h = rw at h

    begun : HasBegun g c (group_of g c) sent (propose_entry g (kind.View (view_of g c.members)) e)
    begun =
        let x : Group = group_of g c in
        let m : Members = c.members in
        let entry : Entry = kind.View (view_of g c.members) in
        let z : Group = group_of g e in
        let a : Core = post (proposal entry z) (change_group g (propose entry) e) in
        let here : group_of g a ≡ propose entry z = group_here g (propose entry) e within in
        let all : List Message = view_messages m x ++ sent in
        let parts = all_parts (IsUnderWay g all) (renewal (renew m x)) (proposal (kind.View (view_of x.shard m)) (renew m x)) (under_way_now g (view_messages m x) sent) in
        let lead_z : lead z ≡ Some l = rw at d.chosen in
        let long_z : length z.copies ≡ z.shape.copies = rw at long_now in
        let number : length_of z l ≡ last_number z = rw at (sym last) in
        let home_z : IsHome z l = home_now l d.leads.home in
        let held_z : (q : ℕ) → IsHome z q → status_of q e ≡ Good → IsHeld z q = λ q h i. subst (λ (y : Group). IsHeld y q) (sym at) (kept_held q (rw at at h) (rw members at i)) in
        let taken : IsTakenAt l (last_number z + 1) entry z (propose entry z) =
        subst (λ (k : ℕ). IsTakenAt l (k + 1) entry z (propose entry z)) number (proposed_at l entry z lead_z long_z home_z (held_z l home_z (rw members good)) number) in
        let begun_with : HasBegun g c x sent (add_entry_tasks l (last_number z + 1) entry a) = record {
          group = here ∙ ap (propose entry) at ∙ ap (λ k. propose (kind.View (view_of k m)) (renew m x)) (sym of);
          members = members;
          rejoins = rejoins;
          seated = seated_tasks l _ _ (seated_tasks l _ _ (seated_post (proposal entry z) (change_group g (propose entry) e)
              (proposal_within e.members.shape z (st.placed g).same_shape (st.placed g).few entry) (seated_group g (propose entry) e (proposed_kept entry z) st)));
          under_way = posted (IsUnderWay g all) (proposal entry z) e.pool
              (subst (λ (k : ℕ). All (IsUnderWay g all) (proposal (kind.View (view_of k m)) z)) of (subst (λ (k : Group). All (IsUnderWay g all) (proposal (kind.View (view_of x.shard m)) k)) (sym at) parts.1))
              (pool (IsUnderWay g all) parts.0 (under_way_more g (view_messages m x) sent (values_of c.pool.messages) under));
          jobs = λ q h.
              takes_jobs g e a l (last_number z + 1) entry refl refl (rw tasks low) (rw members good) (rw here taken) held_z q (home_now q h) (jobs_now q h);
        } in
        rw leads_now begun_with

  pub view_here : HasBegun g c (group_of g c) sent (begin_view g c)
  view_here =
      let a : Core = set_viewed g false c in
      let b : Core = change_group g (renew c.members) a in
      let e : Core = restart g b in
      let f : Core = post (renewal (group_of g e)) e in
      let at : group_of g e ≡ renew c.members (group_of g c) = group_here g (renew c.members) a inside in
      let st_b : IsSeated b = seated_group g (renew c.members) a (renewed_kept c.members (group_of g a)) (seated_quiet c a (record { members = refl; groups = refl; tasks = refl; rejoins = refl; pool = refl }) seated) in
      let st_e : IsSeated e = seated_quiet b e (record { members = refl; groups = refl; tasks = refl; rejoins = refl; pool = refl }) st_b in
      let st_f : IsSeated f = seated_post (renewal (group_of g e)) e (renewal_within e.members.shape (group_of g e) (st_e.placed g).same_shape (st_e.placed g).few) st_e in
      begun f at refl refl refl st_f (let n = length-set c.groups g (renew c.members (group_of g c)) in omega (arith, n, inside))
      (λ P h k. posted P (renewal (group_of g e)) c.pool (subst (λ (z : Group). All P (renewal z)) (sym at) h) k)
