-- What a peer is from now on.
use Rattle.std.proofs.Common.{◌≡◌, ◌≢◌, ◌∙◌, sym, ap, refl, ℕ, ◌+◌, ◌*◌, ◌<◌, ◌≤◌, false, List, Option, length, set-set}
use Rattle.std.proofs.lemmas.List.{get_or-set_other, get_or-set_same, get_or_past, set-get_or}
use Rattle.std.specs.Prelude.{slice_index_or, slice_set}
use Rattle.hs_core_state.specs.Keeping.{AreFronts, AreSteps, IsCore}
use Rattle.hs_core_words.specs.Looking.{group_of, rejoin_of, shape_of}
use Rattle.hs_core_state.specs.Renewing.{Renews}
use Rattle.hs_core_words.specs.State.{Core}
use Rattle.hs_desk.specs.declared.job.Job.{Job}
use Rattle.hs_limits.specs.declared.limits.PeerStatus.{PeerStatus}
use Rattle.hs_limits.specs.declared.limits.PeerStatus.TheVariants.{Down, Good, Joining}
use Rattle.hs_limits.specs.declared.shape.Shape.{Shape}
use Rattle.hs_members.specs.Members.{IsMembers, Members, become, changes_good, home_of, status, view_of}
use Rattle.hs_core_state.proofs.StepLemmas.{steps_renewed}

-- ---- members

no_change : (s : PeerStatus) → changes_good s s ≡ false
no_change Good = refl
no_change Joining = refl
no_change Down = refl

-- what a peer is already changes nothing
pub become_same : (peer : ℕ) (s : PeerStatus) (m : Members) → status peer m ≡ s → become peer s m ≡ m
become_same peer s m e =
    let none : changes_good (status peer m) s ≡ false = ap (λ t. changes_good t s) e ∙ no_change s in
    let set : slice_set m.statuses peer s ≡ m.statuses = ap (slice_set m.statuses peer) (sym e) ∙ set-get_or m.statuses peer Down in
    rw none (ap (λ ss. record m { statuses = ss }) set)

-- a peer that was down is good by way of joining
pub good_by_joining : (peer : ℕ) (m : Members) → peer < length m.statuses → status peer m ≡ Down → become peer Good (become peer Joining m) ≡ become peer Good m
good_by_joining peer m h e =
    let joins : become peer Joining m ≡ record m { statuses = slice_set m.statuses peer Joining } = rw e refl in
    let is : slice_index_or (slice_set m.statuses peer Joining) peer Down ≡ Joining = get_or-set_same m.statuses peer Joining Down h in
    let again : slice_set (slice_set m.statuses peer Joining) peer Good ≡ slice_set m.statuses peer Good = set-set m.statuses peer Joining Good in
    let rises : become peer Good m ≡ record m { views = slice_set m.views (home_of m.shape peer) (view_of (home_of m.shape peer) m + 1); statuses = slice_set m.statuses peer Good } = rw e refl in
    ap (become peer Good) joins ∙ rw (is, again) refl ∙ sym rises

-- a number that is no peer's becomes nothing
pub become_nothing : (peer : ℕ) (m : Members) → length m.statuses ≤ peer → become peer Down m ≡ m
become_nothing peer m h = become_same peer Down m (get_or_past m.statuses peer Down h)

-- ---- cores

-- a core whose members have changed
pub core_told : (old new : Core) → IsCore old → IsMembers new.members → new.members.shape ≡ old.members.shape → new.groups ≡ old.groups
    → length new.catalogues ≡ length old.catalogues → length new.progress.viewed ≡ length old.progress.viewed → length new.tasks ≡ length old.tasks → length new.progress.rejoins ≡ length old.progress.rejoins
    → IsCore new
core_told old new is ms e gs cs vs ts rs = record {
  members = ms;
  catalogues = cs ∙ is.catalogues ∙ shards;
  groups = ap length gs ∙ is.groups ∙ shards;
  viewed = vs ∙ is.viewed ∙ shards;
  tasks = ts ∙ is.tasks ∙ peers;
  rejoins = rs ∙ is.rejoins ∙ peers;
  each = λ s h. rw (e, gs) (is.each s (rw (← e) h));
}
  where
    shards : (shape_of old).shards ≡ (shape_of new).shards
    shards = ap (λ (x : Shape). x.shards) (sym e)

    peers : (shape_of old).shards * (shape_of old).copies ≡ (shape_of new).shards * (shape_of new).copies
    peers = ap (λ (x : Shape). x.shards * x.copies) (sym e)

group_same : (old new : Core) (s : ℕ) → new.members.shape ≡ old.members.shape → new.groups ≡ old.groups → group_of s new ≡ group_of s old
group_same old new s e gs = rw (e, gs) refl

-- its fronts
pub fronts_same : (old new : Core) (fs : List ℕ) → AreFronts old fs → new.members.shape ≡ old.members.shape → new.groups ≡ old.groups → AreFronts new fs
fronts_same old new fs are e gs = record {
  length = are.length ∙ ap (λ (x : Shape). x.shards) (sym e);
  each = λ s h. are.each s (rw (← e) h) ∙ ap (λ x. x.front) (sym (group_same old new s e gs));
}

-- its steps, where one peer has become something else, and only peers of its shard have gone on
pub steps_told : (old new : Core) (peer shard : ℕ) (is : PeerStatus) (ss ts : List (Option Job)) → IsCore old → IsCore new → AreSteps old ss
    → home_of (shape_of old) peer ≡ shard → new.members ≡ become peer is old.members → new.groups ≡ old.groups
    → Renews new.members (group_of shard old) new.progress.rejoins shard ss ts
    → ((k : ℕ) → home_of (shape_of old) k ≢ shard → rejoin_of k new ≡ rejoin_of k old)
    → AreSteps new ts
steps_told old new peer shard is ss ts io iw are at m gs renews rs =
    let e : new.members.shape ≡ old.members.shape = ap (λ (x : Members). x.shape) m in
    steps_renewed old new shard ss ts io iw are e
    (rw (group_same old new shard e gs) renews)
    (λ s d. group_same old new s e gs)
    (λ k d. ap (status k) m ∙ get_or-set_other old.members.statuses peer k is Down (λ q. d (ap (home_of (shape_of old)) q ∙ at)))
    rs
