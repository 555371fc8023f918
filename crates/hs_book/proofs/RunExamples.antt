-- A book that workers of peers drive in turn, computed: what its journal tells.
use Rattle.std.proofs.Common.{◌≡◌, ℕ, zero, suc, ◌+◌, ◌-◌, ◌*◌, ◌==◌, ◌&&◌, ◌++◌, true, List, [], ◌∷◌, None, Some, length, drop, replicate, map, refl}
use Rattle.std.specs.List.{range_with_len}
use Rattle.std.specs.Option.{option_map_or}
use Rattle.std.specs.Prelude.{find, fold}
use Rattle.hs_book.specs.Book.{Book, delivery_of, handed_next}
use Rattle.hs_book.specs.Calls.{book_behind}
use Rattle.hs_core_words.specs.declared.event.Event.TheVariants as event
use Rattle.hs_core_words.specs.Looking.{home, shape_of}
use Rattle.hs_core_words.specs.Opening.{open_core}
use Rattle.hs_core_words.specs.State.{Core}
use Rattle.hs_desk.specs.declared.done.Done.{Done}
use Rattle.hs_desk.specs.declared.done.Done.TheVariants as done
use Rattle.hs_desk.specs.declared.job.Job.{Job}
use Rattle.hs_desk.specs.declared.job.Job.TheVariants as job
use Rattle.hs_desk.specs.declared.job.Next.{Next}
use Rattle.hs_desk.specs.declared.job.Next.TheVariants as next
use Rattle.hs_entry.specs.declared.entry.Entry.TheVariants as kind
use Rattle.hs_events.specs.Asked.{addressed}
use Rattle.hs_journal.specs.declared.entry.Who.{Who}
use Rattle.hs_journal.specs.declared.entry.Who.TheVariants as who
use Rattle.hs_limits.specs.declared.address.Address.{Address}
use Rattle.hs_limits.specs.declared.shape.Shape.{Shape}
use Rattle.hs_limits.specs.Limits.{greatest_limits}
use Rattle.hs_limits.specs.Reading.{addresses, block_at, read_block}
use Rattle.hs_members.specs.Members.{all_peers}
use Rattle.hs_model.specs.declared.op.Op.{Op}
use Rattle.hs_model.specs.declared.op.Op.TheVariants as op
use Rattle.hs_model.specs.declared.reply.Reply.{Reply}
use Rattle.hs_model.specs.declared.reply.Reply.TheVariants as reply
use Rattle.hs_model.specs.Refusals.{no_handle_in, stale_in}
use Rattle.hs_model.specs.Store.{helds_of}
use Rattle.hs_ops.specs.Answers.{deed_of, gained, seats_after}
use Rattle.hs_ops.specs.Going.{asked_for, begin, block_entry, compared, data_of, go, is_same_block, judged_in, mark_entry, on_bytes, on_effect}
use Rattle.hs_ops.specs.Refusals.{refusals_of}
use Rattle.hs_ops.specs.Speaking.{asked_block, least_epoch}
use Rattle.hs_shard.specs.Facts.{empty_catalogue}

-- ---- disks that never fail

-- the blocks that were appended: shard, number of the entry, spelling
abbrev Appended : Type 0
Appended = List (ℕ × ℕ × List ℕ)

abbrev kept_with : ℕ → Job → Appended → Appended
kept_with shard (job.Append number (kind.Block line least bytes)) kept = (shard, number, bytes) ∷ kept
kept_with shard other kept = kept

abbrev report_of : ℕ → Appended → Job → Done
report_of shard kept (job.Append number entry) = done.Stored number
report_of shard kept (job.Seal number) = done.Sealed number
report_of shard kept (job.Read number) = option_map_or (λ e. done.Bytes number e.2) (find (λ e. e.0 == shard && e.1 == number) kept) (done.Gone number)
report_of shard kept other = done.Emptied

-- the naming: the last 32 bytes of a block's spelling, behind zeros where there are fewer
abbrev tail_name : List ℕ → Address
tail_name bytes = record { 0 = replicate (32 - length bytes) 0 ++ drop (length bytes - 32) bytes }

-- ---- workers

-- a book, and the blocks that its workers appended
record Driven : Type 0 where
  book : Book
  kept : Appended

-- the worker of a peer does what is next, and its disk never fails
abbrev works : Driven → ℕ → Driven
works d peer = by_next (handed_next peer d.book.core)
  where
    by_next : Next → Driven
    by_next (next.Do j) = record {
      book = book_behind (Some (event.Report peer (report_of (home peer d.book.core) d.kept j))) d.book;
      kept = kept_with (home peer d.book.core) j d.kept;
    }
    by_next next.Handled = record d { book = book_behind (delivery_of peer d.book.core) d.book }
    by_next next.Idle = d

-- all of them in turn, so often
abbrev turns : ℕ → Driven → Driven
turns zero d = d
turns (suc n) d = turns n (fold works d (all_peers (shape_of d.book.core)))

-- some operations, each with as many turns behind it
abbrev asks : ℕ → List Op → Driven → Driven
asks n [] d = d
asks n (o ∷ os) d =
    asks n os (turns n (record d { book = book_behind (Some (event.Line (d.book.core.progress.last_line + 1) (addressed tail_name d.book.core.sessions o))) d.book }))

-- a book of a store of this shape, with blank disks, behind some turns
abbrev opened : ℕ × ℕ → Core
opened (shards, copies) =
    let shape : Shape = record { shards = shards; copies = copies } in
    open_core shape greatest_limits (record {
      catalogues = map (λ shard. empty_catalogue shape shard) (range_with_len 0 shards);
      views = replicate shards 0;
      lengths = replicate shards 0;
      good = replicate (shards * copies) true;
    }) 0

abbrev book_of : ℕ × ℕ → Driven
book_of shape = turns 12 (record {
  book = record { core = opened shape; reported = replicate (shape.0 * shape.1) []; ended = None };
  kept = [];
})

-- ---- what is asked

abbrev a : List ℕ
a = 97 ∷ []

abbrev k : List ℕ
k = 107 ∷ []

-- open a / write a 6162 / write a 6162 / root a k h0 / delete / read a h1
abbrev ops : List Op
ops = op.Open a ∷ op.Write a (97 ∷ 98 ∷ []) [] None ∷ op.Write a (97 ∷ 98 ∷ []) [] None ∷ op.Root a k 0 ∷ op.Delete ∷ op.Read a 1 ∷ []

abbrev told : List (Who × Reply)
told =
    (who.Line 1, reply.Ok) ∷ (who.Line 2, reply.New 0 1) ∷ (who.Line 3, reply.Dup 1 1) ∷ (who.Line 4, reply.Ok)
    ∷ (who.Line 5, reply.Run 2) ∷ (who.Shard 1, reply.Enter 2) ∷ (who.Shard 0, reply.Sweep 2 0) ∷ (who.Shard 1, reply.Sweep 2 0) ∷ (who.Store, reply.Done 2)
    ∷ (who.Line 6, reply.Bytes (97 ∷ 98 ∷ []) []) ∷ []

abbrev said : Core → List (Who × Reply)
said core = map (λ e. (e.who, e.reply)) core.journal

-- two shards of one copy, and of two
alone : said (asks 40 ops (book_of (2, 1))).book.core ≡ told
unfolding gained addresses block_at read_block no_handle_in stale_in helds_of deed_of seats_after asked_for begin block_entry compared data_of go is_same_block judged_in mark_entry on_bytes on_effect refusals_of asked_block least_epoch
alone = refl

in_pairs : said (asks 40 ops (book_of (2, 2))).book.core ≡ told
unfolding gained addresses block_at read_block no_handle_in stale_in helds_of deed_of seats_after asked_for begin block_entry compared data_of go is_same_block judged_in mark_entry on_bytes on_effect refusals_of asked_block least_epoch
in_pairs = refl
