-- The lists with which a core opens.
use Rattle.std.proofs.Common.{◌≡◌, ◌∙◌, sym, ap, subst, ℕ, ◌+◌, ◌*◌, ◌-◌, ◌<◌, ◌≤◌, suc, zero, List, [], ◌∷◌, Bool, true, false, Option, None, drop, length, map, replicate, take, refl, arith}
use Rattle.std.proofs.Math.Nat.{mul-le-mul_right, suc-mul}
use Rattle.std.proofs.lemmas.List.{length-drop, length-map, length-replicate, length-take-le}
use Rattle.std.proofs.lemmas.List.FromFn.{get_or-map-range_with_len, length-map-range_with_len}
use Rattle.std.specs.List.{range_with_len}
use Rattle.std.specs.Prelude.{if◌then◌else◌, slice_index, slice_index_or}
use Rattle.hs_core_words.specs.declared.task.Task.{Task}
use Rattle.hs_core_state.specs.Keeping.{AreFronts, AreLists, AreSteps, IsCore, IsOf}
use Rattle.hs_core_words.specs.Opening.{good_copies}
use Rattle.hs_core_words.specs.State.{Core}
use Rattle.hs_desk.specs.declared.job.Job.{Job}
use Rattle.hs_limits.specs.declared.limits.PeerStatus.{PeerStatus}
use Rattle.hs_limits.specs.declared.limits.PeerStatus.TheVariants.{Down, Good}
use Rattle.hs_limits.specs.declared.shape.Shape.{Shape}
use Rattle.hs_limits.specs.Shape.{IsShape, peer_of}
use Rattle.hs_members.specs.Members.{IsMembers, IsShard, Members, is_joining, members_at, status}
use Rattle.hs_replica.specs.Group.{Group, new_group, no_copy, whole_copy}

-- a shard has as many good or bad copies as the shape says
good_count : (shape : Shape) (good : List Bool) (shard : ℕ) → length good ≡ shape.shards * shape.copies → IsShard shape shard → length (good_copies shape good shard) ≡ shape.copies
good_count shape good shard g s =
    let m : suc shard * shape.copies ≤ shape.shards * shape.copies = mul-le-mul_right shape.copies (omega (arith, s)) in
    let d : suc shard * shape.copies ≡ shard * shape.copies + shape.copies = suc-mul shard shape.copies in
    let l : length (drop (peer_of shape shard 0) good) ≡ length good - peer_of shape shard 0 = length-drop (peer_of shape shard 0) good in
    length-take-le shape.copies (drop (peer_of shape shard 0) good) (omega (arith, m, d, l, g))

abbrev pub new_groups : Shape → List ℕ → List ℕ → List Bool → ℕ → Group
new_groups shape views lengths good shard = new_group shape shard (slice_index views shard) (slice_index lengths shard) (good_copies shape good shard)

-- lists as they are taken, of all shards and peers
pub new_of_all : (shape : Shape) (ms : List ℕ) (views lengths : List ℕ) (good : List Bool) → IsShape shape → length lengths ≡ shape.shards → length good ≡ shape.shards * shape.copies
    → AreLists (members_at shape ms good) (map (new_groups shape views lengths good) (range_with_len 0 shape.shards)) lengths (replicate shape.shards false) (replicate (shape.shards * shape.copies) [])
new_of_all shape ms views lengths good is ls gs = record {
  groups = length-map-range_with_len (new_groups shape views lengths good) 0 shape.shards;
  fronts = ls;
  viewed = length-replicate shape.shards false;
  tasks = length-replicate (shape.shards * shape.copies) [];
  each = λ s h.
      let found : slice_index_or (map (new_groups shape views lengths good) (range_with_len 0 shape.shards)) s (new_group shape s 0 0 []) ≡ new_groups shape views lengths good s
      = get_or-map-range_with_len (new_groups shape views lengths good) 0 shape.shards s s (new_group shape s 0 0 []) h (omega arith) in
      let is_of : IsOf shape s (new_groups shape views lengths good s) = record {
        valid = is;
        within = h;
        same_shape = refl;
        same_shard = refl;
        copies = length-map (good_copies shape good s) _ ∙ good_count shape good s gs h;
      } in
      rw found is_of;
  at = λ s h.
      let found : slice_index_or (map (new_groups shape views lengths good) (range_with_len 0 shape.shards)) s (new_group shape s 0 0 []) ≡ new_groups shape views lengths good s
      = get_or-map-range_with_len (new_groups shape views lengths good) 0 shape.shards s s (new_group shape s 0 0 []) h (omega arith) in
      ap (λ (g : Group). g.front) (sym found);
}

-- where each peer is good or down none is joining
pub none_joins : (good : List Bool) (peer : ℕ) → is_joining (slice_index_or (map (λ b. if b then Good else Down) good) peer Down) ≡ false
none_joins [] peer = refl
none_joins (true ∷ rest) zero = refl
none_joins (false ∷ rest) zero = refl
none_joins (b ∷ rest) (suc peer) = none_joins rest peer

-- a core with lists of all shards keeps to what it has to
pub kept_of_all : (core : Core) (fs : List ℕ) → IsMembers core.members → AreLists core.members core.groups fs core.progress.viewed core.tasks
    → length core.catalogues ≡ core.members.shape.shards → length core.progress.rejoins ≡ core.members.shape.shards * core.members.shape.copies → IsCore core
kept_of_all core fs ms all cs rs = record {
  members = ms;
  catalogues = cs;
  groups = all.groups;
  viewed = all.viewed;
  tasks = all.tasks;
  rejoins = rs;
  each = all.each;
}

pub fronts_of_all : (core : Core) (fs : List ℕ) → AreLists core.members core.groups fs core.progress.viewed core.tasks → AreFronts core fs
fronts_of_all core fs all = record { length = all.fronts; each = all.at }

abbrev no_job : Option Job
no_job = None

no_step : (n peer : ℕ) → slice_index_or (replicate n no_job) peer None ≡ None
no_step zero peer = refl
no_step (suc n) zero = refl
no_step (suc n) (suc peer) = no_step n peer

-- where none is joining there is no copying step
no_steps_kept : (core : Core) → ((peer : ℕ) → is_joining (status peer core.members) ≡ false)
    → AreSteps core (replicate (core.members.shape.shards * core.members.shape.copies) None)
no_steps_kept core none = record {
  length = length-replicate (core.members.shape.shards * core.members.shape.copies) None;
  each = λ peer h. rw (none peer) (no_step (core.members.shape.shards * core.members.shape.copies) peer);
}

pub steps_of_none : (core : Core) (ss : List (Option Job)) → ss ≡ replicate (core.members.shape.shards * core.members.shape.copies) None → ((peer : ℕ) → is_joining (status peer core.members) ≡ false) → AreSteps core ss
steps_of_none core ss told none = subst (λ (xs : List (Option Job)). AreSteps core xs) (sym told) (no_steps_kept core none)
