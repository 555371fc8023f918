-- That what the last core counts is what the writers did, and that the last deletions ran.
use Rattle.std.specs.List.{list_any}
use Rattle.std.specs.Option.{option_map_or}
use Rattle.std.specs.Prelude.{◌≡◌, ℕ, ◌+◌, ◌==◌, ◌&&◌, Bool, true, false, List, count_by, is_some, length, sum_by}
use Rattle.hs_core_words.specs.Plain.{plain_store}
use Rattle.hs_core_words.specs.State.{Core}
use Rattle.hs_journal.specs.Deeds.{line_answered}
use Rattle.hs_journal.specs.declared.entry.JournalEntry.{JournalEntry}
use Rattle.hs_load.specs.Reached.{EachIsReached}
use Rattle.hs_model.specs.declared.deed.Deed.{Deed}
use Rattle.hs_model.specs.declared.deed.Deed.TheVariants as deed
use Rattle.hs_model.specs.declared.op.Asked.{Asked}
use Rattle.hs_model.specs.declared.op.Asked.TheVariants as asked
use Rattle.hs_roots.specs.Roots.{retained_count}
use Rattle.hs_script.specs.declared.sums.WriterSum.{WriterSum}

-- the present blocks of all shards, and the retained roots
abbrev pub blocks_in : Core → ℕ
blocks_in core = sum_by (λ c. length c.blocks) core.catalogues

abbrev pub roots_in : Core → ℕ
roots_in core = sum_by (λ c. retained_count c.roots) core.catalogues

-- whether a refused operation is a deletion
abbrev pub is_delete : Asked → Bool
is_delete (asked.Open name) = false
is_delete (asked.Close name) = false
is_delete (asked.Write name count handles address) = false
is_delete (asked.Read name handle) = false
is_delete (asked.Look name key) = false
is_delete (asked.Root name key handle) = false
is_delete (asked.Drop key) = false
is_delete (asked.Forget name handle) = false
is_delete (asked.Name name handle) = false
is_delete asked.Delete = true
is_delete asked.Stat = false

-- whether a deed begins a deletion run, and whether it is that of a deletion, refused or not
abbrev pub begins_run : Deed → Bool
begins_run (deed.Opened name) = false
begins_run (deed.Closed name) = false
begins_run (deed.Wrote name address pointers handle) = false
begins_run (deed.Marked name address handle) = false
begins_run (deed.ReadBlock name address epoch handles) = false
begins_run (deed.Looked name key handle) = false
begins_run (deed.Rooted key address) = false
begins_run (deed.Dropped key) = false
begins_run (deed.Forgot name handle) = false
begins_run (deed.Entered shard) = true
begins_run (deed.Swept shard) = false
begins_run (deed.Refused told) = false
begins_run deed.Nothing = false

abbrev pub deletes : Deed → Bool
deletes (deed.Opened name) = false
deletes (deed.Closed name) = false
deletes (deed.Wrote name address pointers handle) = false
deletes (deed.Marked name address handle) = false
deletes (deed.ReadBlock name address epoch handles) = false
deletes (deed.Looked name key handle) = false
deletes (deed.Rooted key address) = false
deletes (deed.Dropped key) = false
deletes (deed.Forgot name handle) = false
deletes (deed.Entered shard) = true
deletes (deed.Swept shard) = false
deletes (deed.Refused told) = is_delete told
deletes deed.Nothing = false

-- whether an entry answers a deletion, and whether it tells that the deletion of a line runs
abbrev pub is_deletion : JournalEntry → Bool
is_deletion entry = is_some (line_answered entry.who) && deletes entry.deed

abbrev pub runs_at : ℕ → JournalEntry → Bool
runs_at line entry = option_map_or (λ own. own == line) (line_answered entry.who) false && begins_run entry.deed

-- the retained roots are as many as the files that writers kept, and reach each block; six deletions were answered, and those of the last lines, behind this one, run
pub record HasTallied (sums : List WriterSum) (core : Core) (line : ℕ) : Type 0 where
  pub roots : roots_in core ≡ sum_by (λ sum. sum.kept) sums
  pub deletions : count_by is_deletion core.journal ≡ 6
  pub first : list_any (λ entry. runs_at (line + 2) entry) core.journal ≡ true
  pub second : list_any (λ entry. runs_at (line + 4) entry) core.journal ≡ true
  pub reached : EachIsReached (plain_store core)
