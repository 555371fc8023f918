-- What the words say of small values.
use Rattle.std.proofs.Common.{◌≡◌, ℕ, true, false, List, [], ◌∷◌, map, Option, Some, None, refl}
use Rattle.hs_book.specs.Answers.{is_line_answered, answer_place}
use Rattle.hs_book.specs.Book.{Book, delivery_by, next_by}
use Rattle.hs_book.specs.Calls.{book_after, book_behind, is_out_of_memory, memory_ran_out}
use Rattle.hs_book.specs.History.{no_core}
use Rattle.hs_book.specs.Reports.{numbers_along, numbers_of, with_report}
use Rattle.hs_core_words.specs.declared.event.Event.TheVariants as event
use Rattle.hs_desk.specs.declared.done.Done.TheVariants as done
use Rattle.hs_desk.specs.declared.fault.CoreFault.{CoreFault}
use Rattle.hs_desk.specs.declared.fault.CoreFault.TheVariants as fault
use Rattle.hs_desk.specs.declared.job.Job.TheVariants as job
use Rattle.hs_desk.specs.declared.job.Next.TheVariants as next
use Rattle.hs_journal.specs.declared.entry.JournalEntry.{JournalEntry}
use Rattle.hs_journal.specs.declared.entry.Who.{Who}
use Rattle.hs_journal.specs.declared.entry.Who.TheVariants as who
use Rattle.hs_model.specs.declared.deed.Deed.TheVariants as deed
use Rattle.hs_model.specs.declared.reply.Reply.TheVariants as reply

-- ---- answers

abbrev entry_of : Who → JournalEntry
entry_of w = record { who = w; moment = 0; deed = deed.Nothing; reply = reply.Ok }

-- a note, the answer to line 4, what a shard did, and the answer to line 3
abbrev journal : List JournalEntry
journal = entry_of who.Store ∷ entry_of (who.Line 4) ∷ entry_of (who.Shard 3) ∷ entry_of (who.Line 3) ∷ []

places : map (λ line. answer_place line journal) (3 ∷ 4 ∷ 5 ∷ 0 ∷ []) ≡ Some 3 ∷ Some 1 ∷ None ∷ None ∷ []
places = refl

told_lines : map (λ line. is_line_answered line journal) (3 ∷ 4 ∷ 5 ∷ []) ≡ true ∷ true ∷ false ∷ []
told_lines = refl

-- ---- what is next

-- a job comes before a message; a peer that is not there has neither
a_job : next_by true (Some (job.Seal 7)) (Some 2) ≡ next.Do (job.Seal 7)
a_job = refl

a_message : next_by true None (Some 2) ≡ next.Handled
a_message = refl

nothing : next_by true None None ≡ next.Idle
nothing = refl

nobody : next_by false (Some (job.Seal 7)) (Some 2) ≡ next.Idle
nobody = refl

deliveries : delivery_by true (Some (job.Seal 7)) (Some 2) ∷ delivery_by true None (Some 2) ∷ delivery_by true None None ∷ delivery_by false None (Some 2) ∷ []
    ≡ None ∷ Some (event.Deliver 0 2) ∷ None ∷ None ∷ []
deliveries = refl

-- ---- reports

-- of two peers the second has sealed entry 5
abbrev reported : List (List ℕ)
reported = [] ∷ (5 ∷ []) ∷ []

sealed : with_report (event.Report 1 (done.Sealed 7)) reported ≡ [] ∷ (5 ∷ 7 ∷ []) ∷ []
sealed = refl

failed : with_report (event.Report 0 (done.Failed 0)) reported ≡ (0 ∷ []) ∷ (5 ∷ []) ∷ []
failed = refl

-- what was stored is not sealed, and no other event reports anything
others : map (λ e. with_report e reported) (event.Report 1 (done.Stored 7) ∷ event.Deliver 0 7 ∷ []) ≡ reported ∷ reported ∷ []
others = refl

told : map (λ peer. numbers_of peer (event.Report 1 (done.Sealed 7))) (0 ∷ 1 ∷ []) ≡ [] ∷ (7 ∷ []) ∷ []
told = refl

-- ---- ends

shortages : map is_out_of_memory (None ∷ Some fault.OpsFull ∷ Some (fault.ShardLost 1) ∷ Some fault.NoMemory ∷ []) ≡ false ∷ false ∷ false ∷ true ∷ []
shortages = refl

abbrev book_with_end : Option CoreFault → Book
book_with_end ended = record { core = no_core; reported = [] ∷ []; ended = ended }

-- memory runs out once: a book that has ended for want of it stays so
ran_out : memory_ran_out (book_with_end None) (book_with_end (Some fault.NoMemory)) ≡ true
ran_out = refl

had_run_out : memory_ran_out (book_with_end (Some fault.NoMemory)) (book_with_end (Some fault.NoMemory)) ≡ false
had_run_out = refl

stays : book_behind (Some (event.Deliver 0 1)) (book_with_end (Some fault.OpsFull)) ≡ book_with_end (Some fault.OpsFull)
stays = refl

-- the shard of this core has no good peer: it ends at the first event, and the report of that is not kept
abbrev last : Book
last = book_after (event.Report 0 (done.Sealed 1)) (book_with_end None)

ends : last.ended ≡ Some (fault.ShardLost 0)
ends = refl

not_kept : last.reported ≡ [] ∷ []
not_kept = refl

not_told : numbers_along 0 no_core ((event.Report 0 (done.Sealed 1), 0) ∷ []) ≡ []
not_told = refl
