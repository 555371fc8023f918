-- Which course counts, and what that of the logs at entry tells.
use Rattle.std.proofs.Common.{◌≡◌, ◌∙◌, ◌⊎◌, inl, inr, ap, sym, subst, ℕ, ◌<◌, ◌==◌, ◌&&◌, Bool, true, false, List, [], Option, Some, None, refl, length, true≢false, arith, if◌then◌else◌}
use Rattle.std.proofs.lemmas.Bool.{and_parts}
use Rattle.std.specs.List.{AllByRecursion}
use Rattle.std.specs.Prelude.{filter, slice_index_or, unwrap_or}
use Rattle.hs_clauses.proofs.CourseLemmas.{BeginsNone, filter_none, filter_took, none_begun, none_good, pairs, pairs_begin_none, pairs_none, taken_pairs, took_there}
use Rattle.hs_clauses.proofs.EntryLemmas.{entry_count, entry_log}
use Rattle.hs_clauses.proofs.ListLemmas.{some_there}
use Rattle.hs_clauses.proofs.RestLemmas.{IsRested}
use Rattle.hs_clauses.proofs.TakenLemmas.{has_log, list_is, peer_is}
use Rattle.hs_clauses.specs.Shown.{KeepsList, OnDisks}
use Rattle.hs_entry.specs.Entries.{rank_of}
use Rattle.hs_events.specs.Taken.{taken_items, taken_list}
use Rattle.hs_fold.specs.Good.{IsBegun, good_from, taken_from}
use Rattle.hs_fold.specs.Shards.Setting.{Numbered}
use Rattle.hs_standing.proofs.AllLemmas.{all_filter}
use Rattle.hs_model.specs.declared.course.CourseItem.{CourseItem}
use Rattle.hs_ports.specs.Moments.{disk_at}
use Rattle.hs_ports.specs.Objects.{IsDuring}
use Rattle.hs_promise.specs.Ending.{ending_of}
use Rattle.hs_promise.specs.Entry.{counted_course, entry_logs, is_aside, still_counts}
use Rattle.hs_promise.specs.Run.{Ran, Script}
use Rattle.hs_side.specs.Current.{list_in}

-- the course of the logs at entry, without the Goods of disks that failed
abbrev pub entry_course : Script → Ran → List CourseItem
entry_course S r = filter (still_counts r) (taken_items S.set.shape (entry_logs S r) r.old.moment)

-- where memory was wanting it may be that one, and else it is the run's
pub counted_cases : (S : Script) (r : Ran) → ((counted_course S r ≡ entry_course S r) × ((ending_of r.ending).wanting ≡ true)) ⊎ (counted_course S r ≡ r.course)
counted_cases S r = go ((ending_of r.ending).wanting && length r.course == 0) refl
  where
    go : (b : Bool) → ((ending_of r.ending).wanting && length r.course == 0) ≡ b → ((counted_course S r ≡ entry_course S r) × ((ending_of r.ending).wanting ≡ true)) ⊎ (counted_course S r ≡ r.course)
    go true e = inl (ap (λ b. if b then entry_course S r else r.course) e, (and_parts (ending_of r.ending).wanting (length r.course == 0) e).0)
    go false e = inr (ap (λ b. if b then entry_course S r else r.course) e)

-- the log of a disk that counts is that which the disk reads as
log_read : (aside : Bool) (read : Option Numbered) (list : Numbered) → (if aside then None else read) ≡ Some list → (aside ≡ false) × (read ≡ Some list)
log_read true read list e = absurd (cc e)
log_read false read list e = (refl, e)

module _ (S : Script) (r : Ran) (on : OnDisks S r) where
  abbrev number_at : ℕ → ℕ
  number_at p = (rank_of (taken_list S.set.shape (entry_logs S r) p)).number

  many : length (entry_logs S r) ≡ S.set.shape.shards
  many = entry_count S r ∙ on.disks

  entry_pairs : taken_items S.set.shape (entry_logs S r) r.old.moment ≡ pairs (λ p. has_log (entry_logs S r) p) (λ p. number_at p) r.old.moment 0 S.set.shape.shards
  entry_pairs = taken_pairs S.set.shape (entry_logs S r) r.old.moment (λ p. has_log (entry_logs S r) p) (peer_is S.set.shape (entry_logs S r) on.one many)

  -- it begins no line
  pub entry_begins : (line m : ℕ) → IsBegun (entry_course S r) line m → ⊥
  entry_begins line m begun =
      none_begun (entry_course S r) line m
      (all_filter BeginsNone (still_counts r) (taken_items S.set.shape (entry_logs S r) r.old.moment)
      (subst (λ (items : List CourseItem). AllByRecursion BeginsNone items) (sym entry_pairs) (pairs_begin_none (λ p. has_log (entry_logs S r) p) (λ p. number_at p) r.old.moment 0 S.set.shape.shards))) begun

  -- who is good by it has a log, which counts and took effect
  pub entry_rested : (m p : ℕ) → IsDuring r.old r.new m → p < S.set.shape.shards → counted_course S r ≡ entry_course S r → KeepsList r p → good_from false (counted_course S r) m p ≡ true → IsRested S r m p
  entry_rested m p during low counted kept good = go (has_log (entry_logs S r) p) refl
    where
      course_is : counted_course S r ≡ filter (still_counts r) (pairs (λ p. has_log (entry_logs S r) p) (λ p. number_at p) r.old.moment 0 S.set.shape.shards)
      course_is = counted ∙ ap (λ (items : List CourseItem). filter (still_counts r) items) entry_pairs

      bad : has_log (entry_logs S r) p ≡ false → good_from false (counted_course S r) m p ≡ false
      bad lacks =
          ap (λ (items : List CourseItem). good_from false items m p) course_is
          ∙ none_good m p (filter (still_counts r) (pairs (λ p. has_log (entry_logs S r) p) (λ p. number_at p) r.old.moment 0 S.set.shape.shards))
          (filter_none (still_counts r) p (pairs (λ p. has_log (entry_logs S r) p) (λ p. number_at p) r.old.moment 0 S.set.shape.shards)
          (pairs_none (λ p. has_log (entry_logs S r) p) (λ p. number_at p) r.old.moment p 0 S.set.shape.shards lacks))

      rests : has_log (entry_logs S r) p ≡ true → (list : Numbered) → slice_index_or (entry_logs S r) p None ≡ Some list → IsRested S r m p
      rests is list at =
          let read : (is_aside S r p ≡ false) × (list_in (disk_at r.old.disks p).seen ≡ Some list) =
          log_read (is_aside S r p) (list_in (disk_at r.old.disks p).seen) list (sym (entry_log S r p (let disks = on.disks in omega (arith, low, disks))) ∙ at) in
          record {
            list = list;
            read = read.1;
            counts = read.0;
            took =
                ap (λ (items : List CourseItem). taken_from 0 items m p) course_is
                ∙ filter_took (still_counts r) m p (λ shard number k. refl) (pairs (λ p. has_log (entry_logs S r) p) (λ p. number_at p) r.old.moment 0 S.set.shape.shards) 0
                ∙ took_there (λ p. has_log (entry_logs S r) p) (λ p. number_at p) r.old.moment m p 0 S.set.shape.shards 0 during.above is (omega arith) (omega (arith, low))
                ∙ ap (λ (l : Numbered). (rank_of l).number) (list_is S.set.shape (entry_logs S r) on.one many p low ∙ ap (λ (o : Option Numbered). unwrap_or o []) at);
            kept = kept;
          }

      go : (b : Bool) → has_log (entry_logs S r) p ≡ b → IsRested S r m p
      go true is = let there = some_there (slice_index_or (entry_logs S r) p None) is in rests is there.0 there.1
      go false lacks = absurd (true≢false (sym good ∙ bad lacks))
