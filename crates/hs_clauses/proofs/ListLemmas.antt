-- With one copy of each shard: who has a log counts at entry, and the list with which its shard opens is that of its disk.
use Rattle.std.proofs.Common.{◌≡◌, ◌∙◌, inl, inr, ap, sym, refl, ℕ, ◌*◌, ◌<◌, ◌&&◌, ◌||◌, ◌++◌, not, Bool, true, false, List, [], Option, Some, None, length, arith, if◌then◌else◌}
use Rattle.std.specs.List.{list_any}
use Rattle.std.specs.Prelude.{IsSome, slice_index_or, unwrap_or}
use Rattle.hs_clauses.proofs.FoundLemmas.{many, opens_begins}
use Rattle.hs_clauses.proofs.TakenLemmas.{list_is, peers_are}
use Rattle.hs_events.specs.Course.{items_of}
use Rattle.hs_events.specs.Found.{first_core, opened_list, starts_good}
use Rattle.hs_events.specs.Taken.{peer_count, taken_list}
use Rattle.hs_fold.specs.Shards.Course.{begins}
use Rattle.hs_fold.specs.Shards.Setting.{Numbered}
use Rattle.hs_model.specs.declared.course.CourseItem.{CourseItem}
use Rattle.hs_ports.specs.Moments.{disk_at}
use Rattle.hs_promise.specs.Entry.{is_aside, tells_aside}
use Rattle.hs_promise.specs.Found.{IsReadAs}
use Rattle.hs_promise.specs.Machine.{Went}
use Rattle.hs_promise.specs.Run.{Ran, Script}
use Rattle.hs_promise.specs.Story.{Story, all_events}
use Rattle.hs_side.specs.Current.{list_in}

-- ---- small words

pub some_there : (o : Option Numbered) → IsSome o → (list : Numbered) × (o ≡ Some list)
some_there None e = absurd (cc e)
some_there (Some list) e = (list, refl)

-- a peer whose Good begins the course was not set aside
pub begins_counts : (S : Script) (r : Ran) (p : ℕ) → begins S.set.shape.shards r.course p ≡ true → is_aside S r p ≡ false
begins_counts S r p is = ap (λ b. list_any (tells_aside r.course p) (r.journal ++ r.refused) && not b) is ∙ never (list_any (tells_aside r.course p) (r.journal ++ r.refused))
  where
    never : (b : Bool) → (b && false) ≡ false
    never true = refl
    never false = refl

module _ (S : Script) (r : Ran) (story : Story) (went : Went S r story) (one : S.set.shape.copies ≡ 1) where
  -- who has a log begins the course, so its disk counts
  pub log_counts : (p : ℕ) → p < S.set.shape.shards → IsSome (slice_index_or story.found.logs p None) → is_aside S r p ≡ false
  log_counts p low is =
      begins_counts S r p
      (ap (λ (items : List CourseItem). begins S.set.shape.shards items p) went.course
      ∙ opens_begins S r story went.found one p (items_of (first_core S.set story.found) (all_events story)) low is)

  module _ (read : (peer : ℕ) → peer < peer_count S.set.shape → IsReadAs r story peer) where
    -- and it is what its disk read as
    pub log_is : (p : ℕ) → p < S.set.shape.shards → (list : Numbered) → slice_index_or story.found.logs p None ≡ Some list → list_in (disk_at r.old.disks p).seen ≡ Some list
    log_is p low list is = by_read (read p (let all = ap (λ n. S.set.shape.shards * n) one in omega (arith, low, all)))
      where
        by_read : IsReadAs r story p → list_in (disk_at r.old.disks p).seen ≡ Some list
        by_read (inl same) = sym same ∙ is
        by_read (inr failed) = let both : None ≡ Some list = sym failed.0 ∙ is in absurd (cc both)

    module _ (disks : length r.old.disks ≡ S.set.shape.shards) (good : (p : ℕ) → p < S.set.shape.shards → starts_good story.found p ≡ true) where
      log_there : (p : ℕ) → p < S.set.shape.shards → (list : Numbered) × (slice_index_or story.found.logs p None ≡ Some list)
      log_there p low = some_there (slice_index_or story.found.logs p None) (went.found.kept p (good p low))

      pub none_aside : (p : ℕ) → p < S.set.shape.shards → is_aside S r p ≡ false
      none_aside p low = log_counts p low (went.found.kept p (good p low))

      pub opened_is : (p : ℕ) → p < S.set.shape.shards → opened_list S.set story.found p ≡ unwrap_or (list_in (disk_at r.old.disks p).seen) []
      opened_is p low =
          let there : (list : Numbered) × (slice_index_or story.found.logs p None ≡ Some list) = log_there p low in
          ap (λ ps. if list_any (starts_good story.found) ps then taken_list S.set.shape story.found.logs p else []) (peers_are S.set.shape story.found.logs one (many S r story went.found one) p)
          ∙ ap (λ b. if b || false then taken_list S.set.shape story.found.logs p else []) (good p low)
          ∙ list_is S.set.shape story.found.logs one (many S r story went.found one) p low
          ∙ ap (λ (o : Option Numbered). unwrap_or o []) (there.1 ∙ sym (log_is p low there.0 there.1))
