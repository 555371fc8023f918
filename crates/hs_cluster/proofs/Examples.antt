-- A shard of two copies: the logs of its peers while one fails, is started again, is emptied and copies the other's list.
use Rattle.std.proofs.Common.{◌≡◌, ◌∙◌, ◌∷◌, [], Some, None, ap, arith, refl, sym, true}
use Rattle.hs_cluster.specs.PeerLogs.{log_of_peer}
use Rattle.hs_cluster.specs.Sealed.{sealed_front}
use Rattle.hs_cluster.specs.Steady.{IsNextCopy, KeepsItsLog, TellsItsLog}
use Rattle.hs_core_words.specs.declared.event.Event.TheVariants as event
use Rattle.hs_core_words.specs.Looking.{first_job}
use Rattle.hs_desk.specs.declared.done.Done.TheVariants as done
use Rattle.hs_desk.specs.declared.job.Job.TheVariants as job
use Rattle.hs_entry.specs.declared.entry.Entry.{Entry}
use Rattle.hs_entry.specs.declared.entry.Entry.TheVariants as kind
use Rattle.hs_entry.specs.Entries.{rank_of}
use Rattle.hs_events.specs.Found.{Found}
use Rattle.hs_events.specs.Sane.{appended_of}
use Rattle.hs_events.specs.Whole.{Whole, open_whole, reach, step_whole}
use Rattle.hs_fold.specs.Shards.Setting.{Numbered, Setting}
use Rattle.hs_limits.specs.Limits.{greatest_limits}
use Rattle.hs_peerlog.specs.Lists.{numbered_entry}

abbrev set : Setting
set = record { name = λ bytes. record { 0 = bytes }; limits = greatest_limits; shape = record { shards = 1; copies = 2 } }

-- blank disks
abbrev found : Found
found = record { logs = Some [] ∷ Some [] ∷ []; lost = []; good = true ∷ true ∷ []; opened = 0 }

abbrev opened : Whole
opened = open_whole set found

-- peer 0 leads, and has put its View on the disk and not sealed it
abbrev appended : Whole
appended = step_whole (event.Report 0 (done.Stored 1)) 1 opened

abbrev sealed : Whole
sealed = step_whole (event.Report 0 (done.Sealed 1)) 2 appended

-- peer 1 fails, and is started again: its emptying is due
abbrev failed : Whole
failed = step_whole (event.Fail 1 1) 3 sealed

abbrev started : Whole
started = step_whole (event.Start 2 1) 4 failed

-- it follows, and copies what the lead has sealed
abbrev emptied : Whole
emptied = step_whole (event.Report 1 done.Emptied) 5 started

abbrev copied : Whole
copied = step_whole (event.Report 1 (done.Copied 1)) 6 emptied

its_log_is_what_is_sealed : (log_of_peer opened 0 ≡ Some []) × (log_of_peer appended 0 ≡ Some []) × (appended_of 0 appended.core ≡ Some (kind.View 1)) × (log_of_peer sealed 0 ≡ Some ((1, kind.View 1) ∷ []))
unfolding rank_of
its_log_is_what_is_sealed = (refl, refl, refl, refl)

nothing_is_told_until_it_is_emptied : (log_of_peer failed 1 ≡ None) × (log_of_peer started 1 ≡ None) × (first_job 1 started.core ≡ Some job.Reset)
unfolding rank_of
nothing_is_told_until_it_is_emptied = (refl, refl, refl)

it_follows : (log_of_peer emptied 1 ≡ Some []) × (first_job 1 emptied.core ≡ Some (job.Copy 0 1)) × (reach emptied 1 ≡ (1, kind.View 1) ∷ []) × (log_of_peer copied 1 ≡ Some ((1, kind.View 1) ∷ []))
unfolding rank_of
it_follows = (refl, refl, refl, refl)

-- ---- it goes on as it should

some_is : {A : Type 0} (x y : A) → Some x ≡ Some y → x ≡ y
some_is x y e = cc

some_is_not : {A P : Type 0} (x : A) → Some x ≡ None → P
some_is_not x e = absurd (never x e)
  where
    never : {A : Type 0} (x : A) → Some x ≡ None → ⊥
    never x e = cc e

abbrev views : Numbered
views = (1, kind.View 1) ∷ []

lead_was : log_of_peer emptied 0 ≡ Some views
unfolding rank_of
lead_was = refl

lead_is : log_of_peer copied 0 ≡ Some views
unfolding rank_of
lead_is = refl

lead_had_none : appended_of 0 emptied.core ≡ None
unfolding rank_of
lead_had_none = refl

lead_has_none : appended_of 0 copied.core ≡ None
unfolding rank_of
lead_has_none = refl

sealed_is : sealed_front emptied 0 ≡ views
unfolding rank_of
sealed_is = refl

adds_is : emptied.adds 1 ≡ views
unfolding rank_of
adds_is = refl

reach_is : reach emptied 1 ≡ views
unfolding rank_of
reach_is = refl

log_is : log_of_peer copied 1 ≡ Some views
unfolding rank_of
log_is = refl

none_waits : appended_of 1 copied.core ≡ None
unfolding rank_of
none_waits = refl

-- the copying step gets the entry that the lead has sealed
its_copy_is_next : IsNextCopy emptied 1 0 1
unfolding rank_of
its_copy_is_next = record {
  there = omega arith;
  other = λ e. cc e;
  source = refl;
  follows = refl;
  unsealed = refl;
  sealed = (kind.View 1, ap (λ l. numbered_entry l 1) sealed_is);
  added = added;
}
  where
    first : (entry : Entry) → numbered_entry views 1 ≡ Some entry → views ≡ (1, entry) ∷ []
    first entry at = ap (λ x. (1, x) ∷ []) (some_is (kind.View 1) entry at)

    added : (entry : Entry) → numbered_entry (sealed_front emptied 0) 1 ≡ Some entry → emptied.adds 1 ≡ (1, entry) ∷ []
    added entry at = adds_is ∙ first entry (ap (λ l. numbered_entry l 1) (sym sealed_is) ∙ at)

-- its report tells that it has it, and the lead keeps its log
its_copy_is_told : TellsItsLog emptied copied 1 (done.Copied 1)
its_copy_is_told = record {
  log = λ list at. (sym (some_is views list (sym log_is ∙ at)) ∙ sym reach_is, none_waits);
  begins = λ none. some_is_not views (sym log_is ∙ none);
}

the_lead_keeps_its_log : KeepsItsLog emptied copied 0
the_lead_keeps_its_log = record {
  same = λ list at. (lead_was ∙ sym lead_is ∙ at, lead_has_none ∙ sym lead_had_none);
  begins = λ none. some_is_not views (sym lead_is ∙ none);
}
