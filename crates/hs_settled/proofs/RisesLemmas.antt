-- The count of a disk stands whose peer is not told to be down, in the journal or in what found it full.
use Rattle.std.proofs.Common.{◌≡◌, ◌∙◌, inl, inr, ap, sym, subst, ℕ, ◌+◌, ◌*◌, ◌<◌, ◌++◌, Bool, true, false, cond, List, [], Some, IfSome, refl, arith}
use Rattle.std.proofs.lemmas.Bool.{false≢true, true≢false}
use Rattle.std.specs.Prelude.{if◌then◌else◌}
use Rattle.hs_desk.specs.declared.fault.CoreFault.TheVariants as fault
use Rattle.hs_events.specs.Found.{first_core, starts_good}
use Rattle.hs_events.specs.Reports.{failures}
use Rattle.hs_journal.specs.declared.entry.JournalEntry.{JournalEntry}
use Rattle.hs_journal.specs.Notes.{note_count}
use Rattle.hs_ports.specs.Objects.{faults_at}
use Rattle.hs_promise.specs.Calm.{RisesAreTold}
use Rattle.hs_promise.specs.declared.status.Status.{Status}
use Rattle.hs_promise.specs.declared.status.Status.TheVariants as status
use Rattle.hs_promise.specs.Ending.{ending_of}
use Rattle.hs_promise.specs.Machine.{NeverOpened, Went}
use Rattle.hs_promise.specs.Run.{Ran, Script}
use Rattle.hs_promise.specs.Story.{Story, all_events as all_of, last_core}
use Rattle.hs_settled.proofs.CausesCountLemmas.{counted, first_count}
use Rattle.hs_settled.proofs.CausesRunLemmas.{last_kept}
use Rattle.hs_told.specs.InTurn.{told_of}

module _ (S : Script) (r : Ran) (story : Story) (went : Went S r story) where
  -- ---- what is handed back is all that was told

  quiet : (last_core S story).refused ≡ [] → (ending_of r.ending).full ≡ false → r.journal ++ r.refused ≡ told_of (last_core S story)
  quiet clean none =
      ap (λ (es : List JournalEntry). es ++ r.refused) went.journal
      ∙ ap (λ (es : List JournalEntry). (last_core S story).journal ++ es) (went.refused ∙ ap (λ b. if b then (last_core S story).refused else []) none ∙ sym clean)

  full : (ending_of r.ending).full ≡ true → r.journal ++ r.refused ≡ told_of (last_core S story)
  full is =
      ap (λ (es : List JournalEntry). es ++ r.refused) went.journal
      ∙ ap (λ (es : List JournalEntry). (last_core S story).journal ++ es) (went.refused ∙ ap (λ b. if b then (last_core S story).refused else []) is)

  module _ (st : Status) (e : r.ending ≡ st) where
    past : (ending_of st).past ≡ true → (ending_of st).full ≡ false → r.journal ++ r.refused ≡ told_of (last_core S story)
    past is none =
        quiet ((last_kept S r story went).noted.going (went.ends.past (ap (λ st. (ending_of st).past) e ∙ is))) (ap (λ st. (ending_of st).full) e ∙ none)

    opened : (ending_of st).closed ≡ true → ⊥
    opened closed = false≢true (sym went.ends.opened ∙ ap (λ st. (ending_of st).closed) e ∙ closed)

    scripted : (ending_of st).unscripted ≡ true → ⊥
    scripted other = false≢true (sym went.ends.scripted ∙ ap (λ st. (ending_of st).unscripted) e ∙ other)

  all_told : (st : Status) → r.ending ≡ st → (ending_of st).short ≡ false → r.journal ++ r.refused ≡ told_of (last_core S story)
  all_told status.Done e whole = past status.Done e refl refl
  all_told status.Usage e whole = absurd (opened status.Usage e refl)
  all_told (status.BadLine line) e whole = past (status.BadLine line) e refl refl
  all_told (status.ShardLost shard) e whole =
      quiet ((last_kept S r story went).ends.clean shard (subst (λ (st : Status). IfSome (ending_of st).lost (λ g. (last_core S story).ended ≡ Some (fault.ShardLost g))) e went.ends.lost))
      (ap (λ st. (ending_of st).full) e)
  all_told status.ReadFault e whole = past status.ReadFault e refl refl
  all_told status.WriteFault e whole = absurd (true≢false whole)
  all_told status.NoMemory e whole = absurd (true≢false whole)
  all_told (status.WrongShape peer found) e whole = absurd (opened (status.WrongShape peer found) e refl)
  all_told status.OpsFull e whole = full (ap (λ st. (ending_of st).full) e)
  all_told status.InputFull e whole = past status.InputFull e refl refl
  all_told (status.Mismatch session place told kept) e whole = absurd (scripted (status.Mismatch session place told kept) e refl)
  all_told (status.Torn peer place told kept) e whole = absurd (scripted (status.Torn peer place told kept) e refl)
  all_told (status.NotEmpty blocks roots) e whole = absurd (scripted (status.NotEmpty blocks roots) e refl)
  all_told (status.Refused reply) e whole = absurd (scripted (status.Refused reply) e refl)
  all_told (status.NotATree address) e whole = absurd (scripted (status.NotATree address) e refl)
  all_told (status.NoSource peer) e whole = absurd (scripted (status.NoSource peer) e refl)
  all_told (status.CopyFull blocks) e whole = absurd (scripted (status.CopyFull blocks) e refl)

  -- ---- so a disk of which nothing is told has failed no call

  module _ (stands : (ending_of r.ending).short ≡ false → (disk : ℕ) → starts_good story.found disk ≡ true → failures true disk (first_core S.set story.found) (all_of story) ≡ 0 → faults_at r.new.disk_faults disk ≡ faults_at r.old.disk_faults disk)
      (whole : (ending_of r.ending).short ≡ false) (peer : ℕ) (low : peer < S.set.shape.shards * S.set.shape.copies) (none : note_count peer (r.journal ++ r.refused) ≡ 0) where
    none_told : note_count peer (told_of (first_core S.set story.found)) + failures true peer (first_core S.set story.found) (all_of story) ≡ 0
    none_told = sym (counted S r story went peer) ∙ sym (ap (λ (es : List JournalEntry). note_count peer es) (all_told r.ending refl whole)) ∙ none

    was_good : starts_good story.found peer ≡ true
    was_good = go (starts_good story.found peer) refl
      where
        go : (b : Bool) → starts_good story.found peer ≡ b → starts_good story.found peer ≡ true
        go true is = is
        go false is =
            let one : note_count peer (told_of (first_core S.set story.found)) ≡ 1 = first_count S r story went peer low ∙ ap (λ b. cond b 0 1) is in
            let all = none_told in
            absurd (omega (arith, one, all))

    count_stands : faults_at r.new.disk_faults peer ≡ faults_at r.old.disk_faults peer
    count_stands = stands whole peer was_good (let all = none_told in omega (arith, all))

  pub rises_told : ((ending_of r.ending).short ≡ false → (disk : ℕ) → starts_good story.found disk ≡ true → failures true disk (first_core S.set story.found) (all_of story) ≡ 0 → faults_at r.new.disk_faults disk ≡ faults_at r.old.disk_faults disk)
      → RisesAreTold S r
  rises_told stands = λ closed whole peer low none. count_stands stands whole peer low none

-- a run that opened no core ended as a disk is of another store, or for want of memory
pub never_told : (S : Script) (r : Ran) → NeverOpened r → RisesAreTold S r
never_told S r never = λ closed whole peer low none. elim never.cause [
  | inl is ↦ absurd (false≢true (sym closed ∙ is))
  | inr want ↦ absurd (false≢true (sym whole ∙ short_of r.ending want))
]
  where
    short_of : (st : Status) → (ending_of st).wanting ≡ true → (ending_of st).short ≡ true
    short_of status.NoMemory e = refl
    short_of status.Done e = cc e
    short_of status.Usage e = cc e
    short_of (status.BadLine line) e = cc e
    short_of (status.ShardLost shard) e = cc e
    short_of status.ReadFault e = cc e
    short_of status.WriteFault e = refl
    short_of (status.WrongShape peer found) e = cc e
    short_of status.OpsFull e = cc e
    short_of status.InputFull e = cc e
    short_of (status.Mismatch session place told kept) e = cc e
    short_of (status.Torn peer place told kept) e = cc e
    short_of (status.NotEmpty blocks roots) e = cc e
    short_of (status.Refused reply) e = cc e
    short_of (status.NotATree address) e = cc e
    short_of (status.NoSource peer) e = cc e
    short_of (status.CopyFull blocks) e = cc e
