-- How many entries a journal has.
use Rattle.std.proofs.Common.{◌≡◌, ◌∙◌, ap, subst, true, ℕ, ◌+◌, ◌-◌, ◌*◌, ◌<◌, ◌≤◌, length, arith, slice_index}
use Rattle.std.proofs.lemmas.List.Elements.{recursion_from_All}
use Rattle.hs_settled.proofs.EndsCountLemmas.{AllAbove, above_at, above_each, many, sum_from, times, times-is, times-more, times-sum, times_le, total, total_least, total_most}
use Rattle.hs_settled.proofs.DoneLemmas.{came_first, done_swept, is_done}
use Rattle.hs_settled.proofs.StepLemmas.{Fits, Steps, is_delete, is_entered, is_of_line, is_swept, journal_steps}
use Rattle.hs_settled.specs.Calm.{IsCalm}
use Rattle.hs_events.specs.Taken.{peer_count}
use Rattle.hs_journal.specs.Notes.{note_count}
use Rattle.hs_laws.specs.Valid.{IsValid}
use Rattle.hs_model.specs.Run.{run}
use Rattle.hs_model.specs.Store.{Store}
use Rattle.hs_promise.specs.Answers.{IsEntry, events_in}
use Rattle.hs_promise.specs.Run.{Ran, Script}
use Rattle.hs_settled.proofs.KindLemmas.{all_downs, all_kinds}

-- ---- epochs

-- what the epochs of valid stores leave for a journal between them: G shards, and so many deletions
record Leaves (shards entered swept done deletions : ℕ) : Type 0 where
  enters : entered ≤ times shards (deletions + 2)
  sweeps : swept ≤ times shards (deletions + 2)
  ends : done ≤ deletions + 2

module _ (s t : Store) (entered swept done deletions : ℕ) (first : IsValid s) (steps : Steps s t entered swept deletions) (above : AllAbove ((slice_index s.epochs 0 - 2) + done) t.swept) where
  top : (i : ℕ) → i < length t.epochs → slice_index t.epochs i ≤ slice_index s.epochs 0 + deletions
  top i low = let ahead = steps.valid.epochs.not_ahead i low in let lead = steps.lead in omega (arith, ahead, lead)

  top_swept : (i : ℕ) → i < length t.swept → slice_index t.swept i ≤ slice_index s.epochs 0 + deletions
  top_swept i low =
      let each = steps.valid.epochs.swept_each in
      let within : i < length t.epochs = omega (arith, each, low) in
      let ahead = steps.valid.epochs.swept_not_ahead i within in
      omega (arith, ahead, top i within)

  ground : (i : ℕ) → i < length s.epochs → slice_index s.epochs 0 ≤ slice_index s.epochs i + 1
  ground i low = first.epochs.not_behind i low

  ground_swept : (i : ℕ) → i < length s.swept → slice_index s.epochs 0 ≤ slice_index s.swept i + 2
  ground_swept i low =
      let each = first.epochs.swept_each in
      let within : i < length s.epochs = omega (arith, each, low) in
      let behind = first.epochs.swept_not_behind i within in
      omega (arith, behind, ground i within)

  split : (n : ℕ) → times n (slice_index s.epochs 0 + deletions) ≡ times n (slice_index s.epochs 0) + times n deletions
  split n = times-sum n (slice_index s.epochs 0) deletions

  leaves : Leaves (length s.epochs) entered swept done deletions
  leaves = record { enters = enters; sweeps = sweeps; ends = ends }
    where
      n : ℕ
      n = length s.epochs

      spare : times (length s.epochs) (deletions + 2) ≡ times (length s.epochs) deletions + times (length s.epochs) 2
      spare = times-sum (length s.epochs) deletions 2

      one_two : times (length s.epochs) 1 ≤ times (length s.epochs) 2
      one_two = times_le (length s.epochs) 1 2 (omega arith)

      long : length t.epochs ≡ length s.epochs
      long = steps.long

      swept_long : length t.swept ≡ length s.epochs
      swept_long = steps.valid.epochs.swept_each ∙ steps.long

      swept_first : length s.swept ≡ length s.epochs
      swept_first = first.epochs.swept_each

      enters : entered ≤ times (length s.epochs) (deletions + 2)
      enters =
          let most : total t.epochs ≤ times (length s.epochs) (slice_index s.epochs 0 + deletions) = subst (λ k. total t.epochs ≤ times k (slice_index s.epochs 0 + deletions)) long (total_most t.epochs (slice_index s.epochs 0 + deletions) top) in
          let least : times (length s.epochs) (slice_index s.epochs 0) ≤ total s.epochs + times (length s.epochs) 1 = total_least s.epochs (slice_index s.epochs 0) 1 ground in
          let more = steps.more in
          omega (arith, most, least, more, split (length s.epochs), spare, one_two)

      sweeps : swept ≤ times (length s.epochs) (deletions + 2)
      sweeps =
          let most : total t.swept ≤ times (length s.epochs) (slice_index s.epochs 0 + deletions) = subst (λ k. total t.swept ≤ times k (slice_index s.epochs 0 + deletions)) swept_long (total_most t.swept (slice_index s.epochs 0 + deletions) top_swept) in
          let least : times (length s.epochs) (slice_index s.epochs 0) ≤ total s.swept + times (length s.epochs) 2 =
          subst (λ k. times k (slice_index s.epochs 0) ≤ total s.swept + times k 2) swept_first (total_least s.swept (slice_index s.epochs 0) 2 ground_swept) in
          let more = steps.cleaner in
          omega (arith, most, least, more, split (length s.epochs), spare)

      ends : done ≤ deletions + 2
      ends =
          let some : 0 < length s.epochs = first.epochs.some_shard in
          let within : 0 < length t.swept = omega (arith, some, swept_long) in
          let low : (slice_index s.epochs 0 - 2) + done ≤ slice_index t.swept 0 = above_at ((slice_index s.epochs 0 - 2) + done) t.swept 0 within above in
          omega (arith, low, top_swept 0 within)

-- ---- all of them

-- the bound, by its terms
bound_is : (n k : ℕ) → (2 * n + 1) * k ≡ times n k + times n k + k
bound_is n k =
    let two : 2 * n + 1 ≡ n + (n + 1) = omega arith in
    let last : times 1 k ≡ k = omega arith in
    let both : times (n + (n + 1)) k ≡ times n k + times (n + 1) k = times-more n (n + 1) k in
    let rest : times (n + 1) k ≡ times n k + times 1 k = times-more n 1 k in
    let product : times (2 * n + 1) k ≡ (2 * n + 1) * k = times-is (2 * n + 1) k in
    let same : times (2 * n + 1) k ≡ times (n + (n + 1)) k = ap (λ m. times m k) two in
    omega (arith, last, both, rest, product, same)

-- of so many lines, deletions and notes at most
pub calm_most : (S : Script) (entry : Store) (last lines deletes notes : ℕ) (caps : ℕ → ℕ) (r : Ran) → IsValid entry → length entry.epochs ≡ S.set.shape.shards → IsCalm S entry last r
    → many (is_of_line (λ o. true) S) r.journal ≤ lines → many (is_delete S) r.journal ≤ deletes
    → ((peer : ℕ) → peer < peer_count S.set.shape → note_count peer r.journal ≤ caps peer) → sum_from 0 (peer_count S.set.shape) caps ≤ notes
    → length r.journal ≤ lines + (2 * S.set.shape.shards + 1) * (deletes + 2) + notes
calm_most S entry last lines deletes notes caps r valid shards calm of_lines deletions noted few =
    let kinds = all_kinds S last r.journal fits.each in
    let downs = all_downs S last r.journal fits.each caps noted in
    let wider : times S.set.shape.shards (many (is_delete S) r.journal + 2) ≤ times S.set.shape.shards (deletes + 2) =
    times_le S.set.shape.shards (many (is_delete S) r.journal + 2) (deletes + 2) (omega (arith, deletions)) in
    let enters : many is_entered r.journal ≤ times S.set.shape.shards (many (is_delete S) r.journal + 2) = subst (λ n. many is_entered r.journal ≤ times n (many (is_delete S) r.journal + 2)) shards left.enters in
    let sweeps : many is_swept r.journal ≤ times S.set.shape.shards (many (is_delete S) r.journal + 2) = subst (λ n. many is_swept r.journal ≤ times n (many (is_delete S) r.journal + 2)) shards left.sweeps in
    let ends = left.ends in
    omega (arith, kinds, of_lines, deletions, downs, few, wider, enters, sweeps, ends, bound_is S.set.shape.shards (deletes + 2))
  where
    fits : Fits S last entry r.journal
    fits = record { valid = valid; shards = shards; legal = calm.answers.legal; each = recursion_from_All (IsEntry S last) r.journal calm.entries; led = calm.led }

    swept_ground : AllAbove (slice_index entry.epochs 0 - 2) entry.swept
    swept_ground = above_each (slice_index entry.epochs 0 - 2) entry.swept (λ i low.
        let each = valid.epochs.swept_each in
        let within : i < length entry.epochs = omega (arith, each, low) in
        let behind = valid.epochs.swept_not_behind i within in
        let follows = valid.epochs.not_behind i within in
        omega (arith, behind, follows))

    left : Leaves (length entry.epochs) (many is_entered r.journal) (many is_swept r.journal) (many is_done r.journal) (many (is_delete S) r.journal)
    left = leaves entry (run S.set.limits entry (events_in S entry r.journal)) _ _ _ _ valid (journal_steps S last entry r.journal fits)
        (done_swept S last r.journal entry (slice_index entry.epochs 0 - 2) fits swept_ground (came_first S entry (slice_index entry.epochs 0 - 2) r calm.deletes))
