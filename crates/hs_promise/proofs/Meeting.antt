-- The run in which a peer joins again is the machine's: all that is said of one holds of it, where the objects tell nothing.
use Rattle.std.proofs.lemmas.Bool.{false≢true}
use Rattle.std.proofs.lemmas.List.Elements.{All-nil}
use Rattle.std.proofs.Common.{arith, sym, ◌∙◌}
use Rattle.std.specs.Prelude.{◌≡◌, refl, ℕ, zero, suc, ◌<◌, ◌≤◌, false, true, Some, None, IsSome, slice_index_or}
use Rattle.hs_entry.specs.Entries.{rank_of}
use Rattle.hs_limits.specs.Reading.{addresses, block_at, read_block}
use Rattle.hs_model.specs.Refusals.{no_handle_in, stale_in}
use Rattle.hs_model.specs.Store.{helds_of}
use Rattle.hs_ops.specs.Answers.{deed_of, gained, seats_after}
use Rattle.hs_ops.specs.Going.{asked_for, begin, block_entry, compared, data_of, go, is_same_block, judged_in, mark_entry, on_bytes, on_effect}
use Rattle.hs_ops.specs.Refusals.{refusals_of}
use Rattle.hs_ops.specs.Speaking.{asked_block, least_epoch}
use Rattle.hs_promise.proofs.Rejoining.{ran, script, story, the_end, the_lines, the_opening}
use Rattle.hs_promise.specs.Found.{HasFound, IsLostBefore}
use Rattle.hs_events.specs.Due.{MomentsRise}
use Rattle.hs_ports.specs.Objects.{RoseBy}
use Rattle.hs_promise.specs.Machine.{IsOfMachine, Went}
use Rattle.hs_events.specs.Found.{starts_good}
use Rattle.hs_promise.specs.Story.{all_events}

le : 0 ≤ 0
le = omega arith

-- ---- what opening found: two blank disks

both_are_good : (peer : ℕ) → peer < 2 → starts_good story.found peer ≡ true
both_are_good zero within = refl
both_are_good (suc zero) within = refl
both_are_good (suc (suc peer)) within = absurd (omega arith)

good_has_a_log : (peer : ℕ) → starts_good story.found peer ≡ true → IsSome (slice_index_or story.found.logs peer None)
good_has_a_log zero good = refl
good_has_a_log (suc zero) good = refl
good_has_a_log (suc (suc peer)) good = absurd (false≢true good)

never_aside : (peer : ℕ) → peer < 2 → starts_good story.found peer ≡ false → ⊥
never_aside peer within bad = false≢true (sym bad ∙ both_are_good peer within)

found : HasFound script ran story
found = record {
  logs = refl;
  goods = refl;
  later = le;
  lost = All-nil (IsLostBefore script ran story);
  once = λ i j d before within. absurd (omega arith);
  all_lost = λ peer within taken bad. absurd (never_aside peer within bad);
  kept = good_has_a_log;
  aside = λ peer within bad. absurd (never_aside peer within bad);
}

-- ---- the events

moments_rise : MomentsRise 0 (all_events story) 0
moments_rise = (le, (le, (le, (le, (le, (le, (le, (le, (le, (le, (le, (le, (le, (le, (le, (le, (le, (le, (le, (le, (le, (le, (le, (le, (le, (le, (le, (le, (le, (le, (le, (le, (le, (le, (le, (le, (le, (le, (le, (le, (le, (le, (le, le)))))))))))))))))))))))))))))))))))))))))))

pub no_rise : (count : ℕ) → RoseBy 0 count count
no_rise count = omega arith

went : Went script ran story
unfolding gained addresses block_at read_block no_handle_in stale_in helds_of deed_of seats_after asked_for begin block_entry compared data_of go is_same_block judged_in mark_entry on_bytes on_effect refusals_of asked_block least_epoch rank_of
went = record {
  found = found;
  opening = the_opening;
  lines = the_lines;
  line = refl;
  rises = moments_rise;
  journal = refl;
  refused = refl;
  course = refl;
  ends = record { scripted = refl; opened = refl; past = λ past. the_end; full = λ full. absurd (false≢true full); lost = tt };
  failed = λ disk. no_rise _;
}

the_run_is_the_machines : IsOfMachine ⊥ script ran
the_run_is_the_machines = record { script = tt; how = Some story; went = went; told = λ none. absurd none }
