-- The logs of the disks at entry, and their lists.
use Rattle.std.proofs.Common.{◌≡◌, ◌∙◌, ap, ℕ, zero, suc, ◌+◌, ◌<◌, List, [], ◌∷◌, Option, None, refl, length, arith, if◌then◌else◌}
use Rattle.std.specs.Prelude.{slice_index_or, unwrap_or}
use Rattle.hs_clauses.proofs.TakenLemmas.{lists_are}
use Rattle.hs_events.specs.Taken.{or_blank, taken_lists}
use Rattle.hs_fold.specs.Shards.Setting.{Numbered}
use Rattle.hs_ports.specs.Disk.{Standing}
use Rattle.hs_ports.specs.Moments.{disk_at}
use Rattle.hs_promise.specs.Entry.{entry_logs, is_aside, logs_from}
use Rattle.hs_promise.specs.Run.{Ran, Script}
use Rattle.hs_side.specs.Current.{list_in}
use Rattle.hs_standing.specs.Lists.{Lists, whole_from}

-- lists that count as blank where there is none, as whole lists
blank_whole : (lists : Lists) (k : ℕ) (logs : List (Option Numbered)) → ((j p : ℕ) → j < length logs → p ≡ k + j → unwrap_or (slice_index_or logs j None) [] ≡ lists.whole p) → or_blank logs ≡ whole_from lists k (length logs)
blank_whole lists k [] h = refl
blank_whole lists k (log ∷ logs) h =
    let first : unwrap_or log [] ≡ lists.whole k = h 0 k (omega arith) (omega arith) in
    let rest : or_blank logs ≡ whole_from lists (k + 1) (length logs) = blank_whole lists (k + 1) logs (λ j p low e. h (suc j) p (omega (arith, low)) (omega (arith, e))) in
    λ i. first i ∷ rest i

module _ (S : Script) (r : Ran) where
  log_from : (k : ℕ) (disks : List Standing) (j p : ℕ) → j < length disks → p ≡ k + j → slice_index_or (logs_from S r k disks) j None ≡ (if is_aside S r p then None else list_in (disk_at disks j).seen)
  log_from k [] j p low e = absurd (omega (arith, low))
  log_from k (disk ∷ disks) zero p low e = ap (λ q. if is_aside S r q then None else list_in disk.seen) (let back : k ≡ p = omega (arith, e) in back)
  log_from k (disk ∷ disks) (suc j) p low e = log_from (k + 1) disks j p (omega (arith, low)) (omega (arith, e))

  log_count : (k : ℕ) (disks : List Standing) → length (logs_from S r k disks) ≡ length disks
  log_count k [] = refl
  log_count k (disk ∷ disks) = ap (λ n. suc n) (log_count (k + 1) disks)

  pub entry_count : length (entry_logs S r) ≡ length r.old.disks
  entry_count = log_count 0 r.old.disks

  -- the log of a peer at entry
  pub entry_log : (p : ℕ) → p < length r.old.disks → slice_index_or (entry_logs S r) p None ≡ (if is_aside S r p then None else list_in (disk_at r.old.disks p).seen)
  entry_log p low = log_from 0 r.old.disks p p low (zero_left p)
    where
      zero_left : (a : ℕ) → a ≡ 0 + a
      zero_left a = omega arith

  -- of one copy each, the lists of all shards
  pub entry_lists : (lists : Lists) → S.set.shape.copies ≡ 1 → length r.old.disks ≡ S.set.shape.shards
      → ((p : ℕ) → p < S.set.shape.shards → unwrap_or (slice_index_or (entry_logs S r) p None) [] ≡ lists.whole p) → taken_lists S.set.shape (entry_logs S r) ≡ whole_from lists 0 S.set.shape.shards
  entry_lists lists one disks same =
      lists_are S.set.shape (entry_logs S r) one (entry_count ∙ disks)
      ∙ blank_whole lists 0 (entry_logs S r) (λ j p low e. at j p (let n = entry_count in omega (arith, low, n, disks)) e)
      ∙ ap (λ n. whole_from lists 0 n) (entry_count ∙ disks)
    where
      at : (j p : ℕ) → j < S.set.shape.shards → p ≡ 0 + j → unwrap_or (slice_index_or (entry_logs S r) j None) [] ≡ lists.whole p
      at j p low e = same j low ∙ ap (λ q. lists.whole q) (let back : j ≡ p = omega (arith, e) in back)
