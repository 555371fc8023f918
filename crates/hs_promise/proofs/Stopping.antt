-- What a stop leaves of one block that was written: the bytes of its disk are read, and reopen at the store with it, before its line was answered and behind that.
use Rattle.std.specs.Option.{option_map}
use Rattle.std.specs.Prelude.{◌≡◌, refl, ℕ, ◌==◌, List, [], ◌∷◌, ◌++◌, find, take, Option, Some, None}
use Rattle.hs_entry.specs.declared.entry.Entry.{Entry}
use Rattle.hs_entry.specs.declared.entry.Entry.TheVariants as kind
use Rattle.hs_entry.specs.Entries.{rank_of}
use Rattle.hs_entry.specs.Reading.{block_at as block_entry_at, entry_at, epoch_at, fields_at, view_at}
use Rattle.hs_fold.specs.Runs.Opened.{opened}
use Rattle.hs_fold.specs.Shards.Change.{stores}
use Rattle.hs_fold.specs.Shards.Happening.{Happening, changes, happen_all, happenings}
use Rattle.hs_fold.specs.Shards.Images.{Image}
use Rattle.hs_fold.specs.Shards.Pending.{AreOneRun, changing_lines}
use Rattle.hs_fold.specs.Shards.Setting.{Numbered}
use Rattle.hs_journal.specs.declared.entry.JournalEntry.{JournalEntry}
use Rattle.hs_journal.specs.declared.entry.Who.TheVariants as who
use Rattle.hs_limits.specs.Limits.{greatest_limits}
use Rattle.hs_limits.specs.Reading.{addresses, block_at, read_block}
use Rattle.hs_model.specs.declared.command.Command.{Command}
use Rattle.hs_model.specs.declared.command.Command.TheVariants as command
use Rattle.hs_model.specs.declared.course.CourseItem.TheVariants as item
use Rattle.hs_model.specs.declared.deed.Deed.TheVariants as deed
use Rattle.hs_model.specs.declared.op.Op.TheVariants as op
use Rattle.hs_model.specs.declared.reply.Reply.TheVariants as reply
use Rattle.hs_model.specs.Judge.{granted, judge, refusals}
use Rattle.hs_model.specs.Refusals.{no_handle_in, stale_in}
use Rattle.hs_model.specs.Store.{Store, empty_store, helds_of, reborn}
use Rattle.hs_ports.specs.declared.disk.Side.TheVariants.{Zero, One}
use Rattle.hs_side.specs.Current.{list_in}
use Rattle.hs_side.specs.Reading.{found_in, frames, log_of, payload_at}
use Rattle.hs_promise.specs.declared.status.Status.TheVariants as status
use Rattle.hs_promise.specs.Answers.{events_in, store_after}
use Rattle.hs_journal.specs.Moments.{below}
use Rattle.hs_events.specs.Taken.{or_blank}
use Rattle.hs_promise.specs.Run.{Ran, Script}
use Rattle.hs_promise.specs.Stops.{image_logs, pending_at}
use Rattle.hs_promise.proofs.Rejoining.{a, its_address, nothing, spelling, written}

-- ---- the bytes

-- the head of a side of one shard in one copy, its View, and the frame of the block's entry behind it, but for its gate
abbrev head : List ℕ
head = 0xa5 ∷ 0x48 ∷ 0x53 ∷ 0x4c ∷ 0x31 ∷ 1 ∷ 1 ∷ 1 ∷ 0 ∷ 0 ∷ 0 ∷ 0 ∷ 0 ∷ 0 ∷ 0 ∷ 0 ∷ 1 ∷ []

abbrev number : ℕ → List ℕ
number n = 0 ∷ 0 ∷ 0 ∷ 0 ∷ 0 ∷ 0 ∷ 0 ∷ n ∷ []

abbrev view_frame : List ℕ
view_frame = 0xa5 ∷ 0 ∷ 0 ∷ 0 ∷ 17 ∷ 1 ∷ number 1 ++ number 1

abbrev block_frame : List ℕ
block_frame = 0 ∷ 0 ∷ 0 ∷ 34 ∷ 2 ∷ number 2 ++ number 2 ++ 0 ∷ 0 ∷ 0xff ∷ 0xff ∷ 0xff ∷ 0xff ∷ 0xff ∷ 0xff ∷ spelling

-- side zero with this gate before the block's frame, and side one blank
abbrev image : ℕ → Image
image gate Zero = head ++ view_frame ++ gate ∷ block_frame ++ 0 ∷ []
image gate One = []

-- the entries that they give: where the gate is closed the block's is none of them
abbrev entries : Numbered
entries = (1, kind.View 1) ∷ (2, kind.Block 2 281474976710655 spelling) ∷ []

with_an_open_gate : list_in (image 0xa5) ≡ Some entries
unfolding log_of frames payload_at found_in entry_at epoch_at fields_at view_at block_entry_at addresses block_at read_block
with_an_open_gate = refl

with_a_closed_gate : list_in (image 0x5a) ≡ Some ((1, kind.View 1) ∷ [])
unfolding log_of frames payload_at found_in entry_at epoch_at fields_at view_at block_entry_at addresses block_at read_block
with_a_closed_gate = refl

-- ---- the run

abbrev lines : ℕ → Option Command
lines n = option_map (λ (l : ℕ × Command). l.1) (find (λ (l : ℕ × Command). l.0 == n) ((1, command.Client (op.Open a)) ∷ (2, command.Client (written None)) ∷ (3, command.Settle) ∷ []))

abbrev pub one_block : Script
one_block = record { set = record { name = λ bytes. its_address; limits = greatest_limits; shape = record { shards = 1; copies = 1 } }; commands = lines }

-- the lines are begun at moments 3 and 4, the block is sealed at moment 7, and this is reported at moment 8
abbrev answers : List JournalEntry
answers = record { who = who.Line 1; moment = 3; deed = deed.Opened a; reply = reply.Ok }
    ∷ record { who = who.Line 2; moment = 8; deed = deed.Wrote a its_address [] 0; reply = reply.New 0 1 } ∷ []

abbrev stopped : Ran
stopped = record {
  ending = status.Done;
  line = 3;
  journal = answers;
  kept = [];
  stored = [];
  refused = [];
  course = item.Good 0 0 ∷ item.Took 0 0 0 ∷ item.Took 0 1 2 ∷ item.Begun 1 3 ∷ item.Begun 2 4 ∷ item.Took 0 2 8 ∷ [];
  old = nothing;
  new = record nothing { moment = 9 };
}

abbrev images : List Image
images = image 0xa5 ∷ []

-- the second answer is made at moment 8, and not below it
the_first_is_below : below 8 answers ≡ take 1 answers
the_first_is_below = refl

-- ---- what is pending

-- at moment 8 the block is, which is of line 2, and at moment 9 nothing
abbrev its_change : List (Entry × Option Happening)
its_change = (kind.Block 2 281474976710655 spelling, Some (changes (stores 281474976710655 its_address (record { pointers = []; bytes = 97 ∷ 98 ∷ [] })))) ∷ []

the_block_is_pending : pending_at one_block stopped 8 images ≡ its_change
unfolding log_of frames payload_at found_in entry_at epoch_at fields_at view_at block_entry_at addresses block_at read_block rank_of
the_block_is_pending = refl

nothing_is_pending : pending_at one_block stopped 9 images ≡ []
unfolding log_of frames payload_at found_in entry_at epoch_at fields_at view_at block_entry_at addresses block_at read_block rank_of
nothing_is_pending = refl

of_line_2 : changing_lines its_change ≡ 2 ∷ []
of_line_2 = refl

-- ---- the store at which they reopen

abbrev reopened : List Image → Store
reopened some = opened one_block.set (or_blank (image_logs some))

-- behind the answers below a moment and then what is pending
abbrev stands_at : ℕ → List Image → Store
stands_at moment some = reborn (happen_all (store_after one_block (empty_store 1) (below moment stopped.journal)) (happenings (pending_at one_block stopped moment some)))

before_the_answer : reopened images ≡ stands_at 8 images
unfolding log_of frames payload_at found_in entry_at epoch_at fields_at view_at block_entry_at addresses block_at read_block rank_of judge refusals granted no_handle_in stale_in helds_of
before_the_answer = refl

behind_the_answer : reopened images ≡ stands_at 9 images
unfolding log_of frames payload_at found_in entry_at epoch_at fields_at view_at block_entry_at addresses block_at read_block rank_of judge refusals granted no_handle_in stale_in helds_of
behind_the_answer = refl

-- before the gate was opened the block is not there, and nothing is pending
without_the_block : reopened (image 0x5a ∷ []) ≡ stands_at 5 (image 0x5a ∷ [])
unfolding log_of frames payload_at found_in entry_at epoch_at fields_at view_at block_entry_at addresses block_at read_block rank_of judge refusals granted no_handle_in stale_in helds_of
without_the_block = refl

all_of_it_is_legal : AreOneRun greatest_limits (empty_store 1) (events_in one_block (empty_store 1) (below 8 answers)) (happenings its_change)
unfolding judge refusals granted
all_of_it_is_legal = record { events_legal = (tt, tt); more_legal = (tt, tt) }
