-- So far the first ones are handed back.
use Rattle.std.proofs.Common.{◌≡◌, ◌<◌, ℕ, Result, get_or, length, vec_len}
use Rattle.hs_load.specs.Seating.{AreAskers}
use Rattle.hs_load.specs.Team.{AskerEnds, Task}
use Rattle.hs_promise.specs.declared.load.Kept.{Kept}
use Rattle.hs_script.specs.declared.sums.WriterSum.{WriterSum}
use Rattle.hs_workers.specs.declared.fault.WorkFault.{WorkFault}
use Rattle.hs_load.proofs.handing.hand_askers.Given as goal

abbrev pub invariant-loop-number : goal.invariant-loop-number
invariant-loop-number l = record {
  count : vec_len l.told ≡ vec_len l.initial.told;
  kept_count : length l.kept.items ≡ l.number;
  ends_count : length l.ends.items ≡ l.number;
  left : (task : Task) → AreAskers task l.initial.told.items → AreAskers task l.told.items;
  each : (task : Task) → AreAskers task l.initial.told.items → (number : ℕ) (given : Kept) (end : Result WriterSum WorkFault) → number < l.number
      → AskerEnds task number (get_or l.kept.items number given) (get_or l.ends.items number end);
}
