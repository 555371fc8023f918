use Rattle.std.proofs.Common.{◌≡◌, ◌∙◌, sym, subst, refl, ℕ, ◌*◌, ◌<◌, ◌≤◌, List, [], ◌++◌, ◌^◌, ◌-◌, Option, Some, true, false, length, map, arith}
use Rattle.std.proofs.lemmas.List.{length-map}
use Rattle.std.specs.Prelude.{IfSome}
use Rattle.hs_checks.proofs.ScrubLemmas.{copied_too, err_is, kept, kept_on, mark_read, none_is, put_alone, put_both, read_alone, when_err, when_ok}
use Rattle.hs_checks.proofs.SilentLemmas.{counts_of, time_with, time_without}
use Rattle.hs_checks.specs.Compared.{Compared, Compares, Copied, CopiedCut, CopiesFrom, Cut, IsCompared, Lacking, Refused, Uncopied}
use Rattle.hs_checks.specs.Silent.{RunsNoScript}
use Rattle.hs_peerlog.proofs.ImageLemmas.{Since}
use Rattle.hs_ports.specs.Disk.{Standing}
use Rattle.hs_ports.specs.Fault.{HasRisen}
use Rattle.hs_ports.specs.Objects.{KeepsTime, Objects, handed}
use Rattle.hs_ports.specs.Putting.{PutsFront}
use Rattle.hs_ports.specs.Sink.{bytes_of, followed}
use Rattle.hs_promise.specs.Run.{Ran, ran_of}
use Rattle.hs_run.proofs.DisksLemmas.{handed_counts, handed_stands}
use Rattle.hs_run.proofs.PrintedLemmas.{front_behind, least, stamped_both, stamped_on}
use Rattle.hs_run.proofs.WholeLemmas.{handed_count}
use Rattle.hs_run.specs.Machine.{AreHanded}
use Rattle.hs_run.specs.Puts.{IsStamped}
use Rattle.hs_run.specs.declared.stop.Stop.TheVariants as stop
use Rattle.hs_scrub.specs.Copied.{HasCopied}
use Rattle.hs_scrub.specs.Marks.{is_read}
use Rattle.hs_scrub.specs.Scrubbed.{HasScrubbed, mark_at}
use Rattle.hs_taking.proofs.DiskLemmas.{seen_each}
use Rattle.hs_taking.proofs.ViewLemmas.{only_wait}
use Rattle.hs_taking.specs.Disks.{DiskSeen, seen_as, seen_at}
use Rattle.hs_taking.specs.Viewed.{IsOnlyRead}
use Rattle.hs_checks.proofs.comparing.run_scrub.Goals as goal

-- the disks can't be compared
pub returns-in-Err-clause-compared : goal.returns-in-Err-clause-compared
returns-in-Err-clause-compared g c = λ source.
    let tells : Type 0 = g.D.Disk.tells in
    let f : g.row.D.Denot → DiskSeen = λ disk. seen_as (g.D.Disk.size disk) (g.D.Disk.stands disk) (g.D.Disk.faults disk) in
    let h : g.row.D.Denot → Standing × ℕ = λ disk. (g.D.Disk.stands disk, g.D.Disk.faults disk) in
    let old : Objects = handed c.args.watch.now (map h c.args.disks.now) (g.K.Sink.got c.args.sink.now, g.K.Sink.faults c.args.sink.now) source in
    let new : Objects = handed c.scrub.new.watch (map h c.scrub.new.disks) (g.K.Sink.got c.args.sink.now, g.K.Sink.faults c.args.sink.now) source in
    let r : Ran = ran_of c.closed.result old new in
    let was : List DiskSeen = map f c.args.disks.now in
    let mid : List DiskSeen = map f c.scrub.new.disks in
    let is : List DiskSeen = map f c.scrub.new.disks in
    let before : AreHanded old was = record { stands = handed_stands f h (λ disk. refl) c.args.disks.now; counts = handed_counts f h (λ disk. refl) c.args.disks.now } in
    let behind : AreHanded new is = record { stands = handed_stands f h (λ disk. refl) c.scrub.new.disks; counts = handed_counts f h (λ disk. refl) c.scrub.new.disks } in
    let long : length was ≡ length c.args.disks.now = length-map c.args.disks.now f in
    let scrubbed : c.args.watch.now ≤ c.scrub.new.watch = c.scrub.ensures.ticks in
    let read : (peer : ℕ) → peer < length was → IsOnlyRead tells c.args.watch.now c.scrub.new.watch (seen_at was peer) (seen_at mid peer) = λ peer low. c.scrub.ensures.read peer (omega (arith, long, low)) in
    let counted : (peer : ℕ) → peer < length was → (seen_at was peer).faults ≤ (seen_at is peer).faults = λ peer low. (read peer low).counted in
    let time : KeepsTime old new = time_without old new scrubbed refl in
    let silent : RunsNoScript r = record {
      journal = c.closed.ensures.journal;
      no_load = record { kept = c.closed.ensures.kept; stored = c.closed.ensures.stored };
      refused = c.closed.ensures.refused;
      course = c.closed.ensures.course;
      line = c.closed.ensures.line;
      left = refl;
      handed_back = handed_count h c.args.disks.now c.scrub.new.disks c.scrub.ensures.count;
      time = time;
      counts = counts_of old new was is before behind counted (omega arith) (omega arith);
    } in
    let since : (peer : ℕ) → peer < length was → tells → Since (seen_at mid peer).stands = λ peer low told.
    seen_each (λ (s : DiskSeen). Since s.stands) f (λ x side m high. g.met.D.Disk.since told x side m high) c.scrub.new.disks peer (omega (arith, long, low, c.scrub.ensures.count)) in
    read_alone tells c.args.shape c.args.from r was mid c.scrub.new.watch before behind silent (omega arith) read
    (Refused c.in-Err.fault (c.closed.ensures.status ∙ c.status_of.ensures) refl c.in-Err.ensures.other refl)
    (λ peer low copy copied. kept tells (seen_at mid peer) c.scrub.new.watch c.scrub.new.watch copied (omega arith) (since peer low))

-- the sink failed
pub returns-then-is_err-clause-compared : goal.returns-then-is_err-clause-compared
returns-then-is_err-clause-compared g c = λ source.
    let text : List ℕ = c.scrub.new.out.items in
    let said : c.as_slice.result.now ≡ text = c.as_slice.ensures.value in
    let passed : c.scrub.new.watch ≤ c.put_all.new.watch = c.put_all.ensures.late.later in
    let stamped : IsStamped c.scrub.new.watch c.put_all.new.watch (g.K.Sink.got c.args.sink.now) (g.K.Sink.got c.put_all.new.sink) = c.put_all.ensures.stamped in
    let sunk : g.K.Sink.faults c.args.sink.now ≤ g.K.Sink.faults c.put_all.new.sink = c.put_all.ensures.cause.later in
    let tells : Type 0 = g.D.Disk.tells in
    let f : g.row.D.Denot → DiskSeen = λ disk. seen_as (g.D.Disk.size disk) (g.D.Disk.stands disk) (g.D.Disk.faults disk) in
    let h : g.row.D.Denot → Standing × ℕ = λ disk. (g.D.Disk.stands disk, g.D.Disk.faults disk) in
    let old : Objects = handed c.args.watch.now (map h c.args.disks.now) (g.K.Sink.got c.args.sink.now, g.K.Sink.faults c.args.sink.now) source in
    let new : Objects = handed c.put_all.new.watch (map h c.scrub.new.disks) (g.K.Sink.got c.put_all.new.sink, g.K.Sink.faults c.put_all.new.sink) source in
    let r : Ran = ran_of c.closed-then-is_err.result old new in
    let was : List DiskSeen = map f c.args.disks.now in
    let mid : List DiskSeen = map f c.scrub.new.disks in
    let is : List DiskSeen = map f c.scrub.new.disks in
    let before : AreHanded old was = record { stands = handed_stands f h (λ disk. refl) c.args.disks.now; counts = handed_counts f h (λ disk. refl) c.args.disks.now } in
    let behind : AreHanded new is = record { stands = handed_stands f h (λ disk. refl) c.scrub.new.disks; counts = handed_counts f h (λ disk. refl) c.scrub.new.disks } in
    let long : length was ≡ length c.args.disks.now = length-map c.args.disks.now f in
    let scrubbed : c.args.watch.now ≤ c.scrub.new.watch = c.scrub.ensures.ticks in
    let read : (peer : ℕ) → peer < length was → IsOnlyRead tells c.args.watch.now c.scrub.new.watch (seen_at was peer) (seen_at mid peer) = λ peer low. c.scrub.ensures.read peer (omega (arith, long, low)) in
    let counted : (peer : ℕ) → peer < length was → (seen_at was peer).faults ≤ (seen_at is peer).faults = λ peer low. (read peer low).counted in
    let time : KeepsTime old new = time_with old new c.scrub.new.watch scrubbed passed stamped in
    let silent : RunsNoScript r = record {
      journal = c.closed-then-is_err.ensures.journal;
      no_load = record { kept = c.closed-then-is_err.ensures.kept; stored = c.closed-then-is_err.ensures.stored };
      refused = c.closed-then-is_err.ensures.refused;
      course = c.closed-then-is_err.ensures.course;
      line = c.closed-then-is_err.ensures.line;
      left = refl;
      handed_back = handed_count h c.args.disks.now c.scrub.new.disks c.scrub.ensures.count;
      time = time;
      counts = counts_of old new was is before behind counted sunk (omega arith);
    } in
    let since : (peer : ℕ) → peer < length was → tells → Since (seen_at mid peer).stands = λ peer low told.
    seen_each (λ (s : DiskSeen). Since s.stands) f (λ x side m high. g.met.D.Disk.since told x side m high) c.scrub.new.disks peer (omega (arith, long, low, c.scrub.ensures.count)) in
    let reads : (peer : ℕ) → peer < length was → IsOnlyRead tells c.args.watch.now c.put_all.new.watch (seen_at was peer) (seen_at mid peer) = λ peer low. only_wait tells c.args.watch.now c.scrub.new.watch c.put_all.new.watch (seen_at was peer) (seen_at mid peer) passed (read peer low) in
    let compared : Compares tells c.args.shape was mid = record {
      marks = c.in-Ok.marks.items;
      text = text;
      scrubbed = subst (λ (xs : List ℕ). HasScrubbed tells c.args.shape was mid c.in-Ok.marks.items xs text) c.new-text.ensures.items c.in-Ok.ensures.scrubbed;
    } in
    let cut : PutsFront (bytes_of old.got) text (bytes_of new.got) = subst (λ (t : List ℕ). PutsFront (bytes_of old.got) t (bytes_of new.got)) said (when_err c.put_all.result c.if-is_err.ensures.value c.put_all.ensures.front) in
    let failed : HasRisen old.sink_faults new.sink_faults = c.put_all.ensures.cause.failed (err_is c.put_all.result stop.WriteFault c.if-is_err.ensures.value c.put_all.ensures.err) in
    read_alone tells c.args.shape c.args.from r was mid c.put_all.new.watch before behind silent (omega arith) reads
    (Cut compared c.closed-then-is_err.ensures.status cut failed refl)
    (λ peer low copy copied. kept tells (seen_at mid peer) c.put_all.new.watch c.put_all.new.watch copied (omega arith) (since peer low))

-- nothing is to be copied
pub returns-in_default-clause-compared : goal.returns-in_default-clause-compared
returns-in_default-clause-compared g c = λ source.
    let text : List ℕ = c.scrub.new.out.items in
    let said : c.as_slice.result.now ≡ text = c.as_slice.ensures.value in
    let passed : c.scrub.new.watch ≤ c.put_all.new.watch = c.put_all.ensures.late.later in
    let stamped : IsStamped c.scrub.new.watch c.put_all.new.watch (g.K.Sink.got c.args.sink.now) (g.K.Sink.got c.put_all.new.sink) = c.put_all.ensures.stamped in
    let sunk : g.K.Sink.faults c.args.sink.now ≤ g.K.Sink.faults c.put_all.new.sink = c.put_all.ensures.cause.later in
    let tells : Type 0 = g.D.Disk.tells in
    let f : g.row.D.Denot → DiskSeen = λ disk. seen_as (g.D.Disk.size disk) (g.D.Disk.stands disk) (g.D.Disk.faults disk) in
    let h : g.row.D.Denot → Standing × ℕ = λ disk. (g.D.Disk.stands disk, g.D.Disk.faults disk) in
    let old : Objects = handed c.args.watch.now (map h c.args.disks.now) (g.K.Sink.got c.args.sink.now, g.K.Sink.faults c.args.sink.now) source in
    let new : Objects = handed c.put_all.new.watch (map h c.scrub.new.disks) (g.K.Sink.got c.put_all.new.sink, g.K.Sink.faults c.put_all.new.sink) source in
    let r : Ran = ran_of c.closed-in_default.result old new in
    let was : List DiskSeen = map f c.args.disks.now in
    let mid : List DiskSeen = map f c.scrub.new.disks in
    let is : List DiskSeen = map f c.scrub.new.disks in
    let before : AreHanded old was = record { stands = handed_stands f h (λ disk. refl) c.args.disks.now; counts = handed_counts f h (λ disk. refl) c.args.disks.now } in
    let behind : AreHanded new is = record { stands = handed_stands f h (λ disk. refl) c.scrub.new.disks; counts = handed_counts f h (λ disk. refl) c.scrub.new.disks } in
    let long : length was ≡ length c.args.disks.now = length-map c.args.disks.now f in
    let scrubbed : c.args.watch.now ≤ c.scrub.new.watch = c.scrub.ensures.ticks in
    let read : (peer : ℕ) → peer < length was → IsOnlyRead tells c.args.watch.now c.scrub.new.watch (seen_at was peer) (seen_at mid peer) = λ peer low. c.scrub.ensures.read peer (omega (arith, long, low)) in
    let counted : (peer : ℕ) → peer < length was → (seen_at was peer).faults ≤ (seen_at is peer).faults = λ peer low. (read peer low).counted in
    let time : KeepsTime old new = time_with old new c.scrub.new.watch scrubbed passed stamped in
    let silent : RunsNoScript r = record {
      journal = c.closed-in_default.ensures.journal;
      no_load = record { kept = c.closed-in_default.ensures.kept; stored = c.closed-in_default.ensures.stored };
      refused = c.closed-in_default.ensures.refused;
      course = c.closed-in_default.ensures.course;
      line = c.closed-in_default.ensures.line;
      left = refl;
      handed_back = handed_count h c.args.disks.now c.scrub.new.disks c.scrub.ensures.count;
      time = time;
      counts = counts_of old new was is before behind counted sunk (omega arith);
    } in
    let since : (peer : ℕ) → peer < length was → tells → Since (seen_at mid peer).stands = λ peer low told.
    seen_each (λ (s : DiskSeen). Since s.stands) f (λ x side m high. g.met.D.Disk.since told x side m high) c.scrub.new.disks peer (omega (arith, long, low, c.scrub.ensures.count)) in
    let reads : (peer : ℕ) → peer < length was → IsOnlyRead tells c.args.watch.now c.put_all.new.watch (seen_at was peer) (seen_at mid peer) = λ peer low. only_wait tells c.args.watch.now c.scrub.new.watch c.put_all.new.watch (seen_at was peer) (seen_at mid peer) passed (read peer low) in
    let compared : Compares tells c.args.shape was mid = record {
      marks = c.in-Ok.marks.items;
      text = text;
      scrubbed = subst (λ (xs : List ℕ). HasScrubbed tells c.args.shape was mid c.in-Ok.marks.items xs text) c.new-text.ensures.items c.in-Ok.ensures.scrubbed;
    } in
    let whole : bytes_of (g.K.Sink.got c.put_all.new.sink) ≡ followed (bytes_of old.got) c.as_slice.result.now = when_ok c.put_all.result c.if-is_err.ensures.value c.put_all.ensures.put in
    let alone : bytes_of new.got ≡ followed (bytes_of old.got) (text ++ []) = put_alone (bytes_of old.got) (bytes_of new.got) text c.as_slice.result.now said whole in
    read_alone tells c.args.shape c.args.from r was mid c.put_all.new.watch before behind silent (omega arith) reads
    (Compared compared c.closed-in_default.ensures.status alone (none_is c.args.from c.in_default.not-Some, refl))
    (λ peer low copy copied. kept tells (seen_at mid peer) c.put_all.new.watch c.put_all.new.watch copied (omega arith) (since peer low))

-- the peer that is to be copied has no list
pub returns-then-not-has_list-clause-compared : goal.returns-then-not-has_list-clause-compared
returns-then-not-has_list-clause-compared g c = λ source.
    let text : List ℕ = c.scrub.new.out.items in
    let said : c.as_slice.result.now ≡ text = c.as_slice.ensures.value in
    let passed : c.scrub.new.watch ≤ c.put_all.new.watch = c.put_all.ensures.late.later in
    let stamped : IsStamped c.scrub.new.watch c.put_all.new.watch (g.K.Sink.got c.args.sink.now) (g.K.Sink.got c.put_all.new.sink) = c.put_all.ensures.stamped in
    let sunk : g.K.Sink.faults c.args.sink.now ≤ g.K.Sink.faults c.put_all.new.sink = c.put_all.ensures.cause.later in
    let tells : Type 0 = g.D.Disk.tells in
    let f : g.row.D.Denot → DiskSeen = λ disk. seen_as (g.D.Disk.size disk) (g.D.Disk.stands disk) (g.D.Disk.faults disk) in
    let h : g.row.D.Denot → Standing × ℕ = λ disk. (g.D.Disk.stands disk, g.D.Disk.faults disk) in
    let old : Objects = handed c.args.watch.now (map h c.args.disks.now) (g.K.Sink.got c.args.sink.now, g.K.Sink.faults c.args.sink.now) source in
    let new : Objects = handed c.put_all.new.watch (map h c.scrub.new.disks) (g.K.Sink.got c.put_all.new.sink, g.K.Sink.faults c.put_all.new.sink) source in
    let r : Ran = ran_of c.closed-then-not-has_list.result old new in
    let was : List DiskSeen = map f c.args.disks.now in
    let mid : List DiskSeen = map f c.scrub.new.disks in
    let is : List DiskSeen = map f c.scrub.new.disks in
    let before : AreHanded old was = record { stands = handed_stands f h (λ disk. refl) c.args.disks.now; counts = handed_counts f h (λ disk. refl) c.args.disks.now } in
    let behind : AreHanded new is = record { stands = handed_stands f h (λ disk. refl) c.scrub.new.disks; counts = handed_counts f h (λ disk. refl) c.scrub.new.disks } in
    let long : length was ≡ length c.args.disks.now = length-map c.args.disks.now f in
    let scrubbed : c.args.watch.now ≤ c.scrub.new.watch = c.scrub.ensures.ticks in
    let read : (peer : ℕ) → peer < length was → IsOnlyRead tells c.args.watch.now c.scrub.new.watch (seen_at was peer) (seen_at mid peer) = λ peer low. c.scrub.ensures.read peer (omega (arith, long, low)) in
    let counted : (peer : ℕ) → peer < length was → (seen_at was peer).faults ≤ (seen_at is peer).faults = λ peer low. (read peer low).counted in
    let time : KeepsTime old new = time_with old new c.scrub.new.watch scrubbed passed stamped in
    let silent : RunsNoScript r = record {
      journal = c.closed-then-not-has_list.ensures.journal;
      no_load = record { kept = c.closed-then-not-has_list.ensures.kept; stored = c.closed-then-not-has_list.ensures.stored };
      refused = c.closed-then-not-has_list.ensures.refused;
      course = c.closed-then-not-has_list.ensures.course;
      line = c.closed-then-not-has_list.ensures.line;
      left = refl;
      handed_back = handed_count h c.args.disks.now c.scrub.new.disks c.scrub.ensures.count;
      time = time;
      counts = counts_of old new was is before behind counted sunk (omega arith);
    } in
    let since : (peer : ℕ) → peer < length was → tells → Since (seen_at mid peer).stands = λ peer low told.
    seen_each (λ (s : DiskSeen). Since s.stands) f (λ x side m high. g.met.D.Disk.since told x side m high) c.scrub.new.disks peer (omega (arith, long, low, c.scrub.ensures.count)) in
    let reads : (peer : ℕ) → peer < length was → IsOnlyRead tells c.args.watch.now c.put_all.new.watch (seen_at was peer) (seen_at mid peer) = λ peer low. only_wait tells c.args.watch.now c.scrub.new.watch c.put_all.new.watch (seen_at was peer) (seen_at mid peer) passed (read peer low) in
    let compared : Compares tells c.args.shape was mid = record {
      marks = c.in-Ok.marks.items;
      text = text;
      scrubbed = subst (λ (xs : List ℕ). HasScrubbed tells c.args.shape was mid c.in-Ok.marks.items xs text) c.new-text.ensures.items c.in-Ok.ensures.scrubbed;
    } in
    let whole : bytes_of (g.K.Sink.got c.put_all.new.sink) ≡ followed (bytes_of old.got) c.as_slice.result.now = when_ok c.put_all.result c.if-is_err.ensures.value c.put_all.ensures.put in
    let alone : bytes_of new.got ≡ followed (bytes_of old.got) (text ++ []) = put_alone (bytes_of old.got) (bytes_of new.got) text c.as_slice.result.now said whole in
    let peer : ℕ = c.in-Some.peer in
    let own : peer < c.args.shape.shards * c.args.shape.copies = subst (λ (o : Option ℕ). IfSome o (λ k. k < c.args.shape.shards * c.args.shape.copies)) c.in-Some.is c.requires.from in
    let marked : length c.in-Ok.marks.items ≡ c.args.shape.shards * c.args.shape.copies = compared.scrubbed.marked.peers in
    let lacking : is_read (mark_at c.in-Ok.marks.items peer) ≡ false = mark_read c.in-Ok.marks.items c.from.result peer c.index.result.now c.has_list.result false c.from.ensures (omega (arith, own, marked)) c.index.ensures c.has_list.ensures c.if-not-has_list.true in
    read_alone tells c.args.shape c.args.from r was mid c.put_all.new.watch before behind silent (omega arith) reads
    (Lacking compared peer c.in-Some.is lacking c.closed-then-not-has_list.ensures.status alone refl)
    (λ peer low copy copied. kept tells (seen_at mid peer) c.put_all.new.watch c.put_all.new.watch copied (omega arith) (since peer low))

-- the list could not be copied
pub returns-in-Err-copy_from-clause-compared : goal.returns-in-Err-copy_from-clause-compared
returns-in-Err-copy_from-clause-compared g c = λ source.
    let text : List ℕ = c.scrub.new.out.items in
    let said : c.as_slice.result.now ≡ text = c.as_slice.ensures.value in
    let passed : c.scrub.new.watch ≤ c.put_all.new.watch = c.put_all.ensures.late.later in
    let stamped : IsStamped c.scrub.new.watch c.put_all.new.watch (g.K.Sink.got c.args.sink.now) (g.K.Sink.got c.put_all.new.sink) = c.put_all.ensures.stamped in
    let sunk : g.K.Sink.faults c.args.sink.now ≤ g.K.Sink.faults c.put_all.new.sink = c.put_all.ensures.cause.later in
    let copied : c.put_all.new.watch ≤ c.copy_from.new.watch = c.copy_from.ensures.ticks in
    let tells : Type 0 = g.D.Disk.tells in
    let f : g.row.D.Denot → DiskSeen = λ disk. seen_as (g.D.Disk.size disk) (g.D.Disk.stands disk) (g.D.Disk.faults disk) in
    let h : g.row.D.Denot → Standing × ℕ = λ disk. (g.D.Disk.stands disk, g.D.Disk.faults disk) in
    let old : Objects = handed c.args.watch.now (map h c.args.disks.now) (g.K.Sink.got c.args.sink.now, g.K.Sink.faults c.args.sink.now) source in
    let new : Objects = handed c.copy_from.new.watch (map h c.copy_from.new.disks) (g.K.Sink.got c.put_all.new.sink, g.K.Sink.faults c.put_all.new.sink) source in
    let r : Ran = ran_of c.closed-in-Err-copy_from.result old new in
    let was : List DiskSeen = map f c.args.disks.now in
    let mid : List DiskSeen = map f c.scrub.new.disks in
    let is : List DiskSeen = map f c.copy_from.new.disks in
    let before : AreHanded old was = record { stands = handed_stands f h (λ disk. refl) c.args.disks.now; counts = handed_counts f h (λ disk. refl) c.args.disks.now } in
    let behind : AreHanded new is = record { stands = handed_stands f h (λ disk. refl) c.copy_from.new.disks; counts = handed_counts f h (λ disk. refl) c.copy_from.new.disks } in
    let long : length was ≡ length c.args.disks.now = length-map c.args.disks.now f in
    let scrubbed : c.args.watch.now ≤ c.scrub.new.watch = c.scrub.ensures.ticks in
    let read : (peer : ℕ) → peer < length was → IsOnlyRead tells c.args.watch.now c.scrub.new.watch (seen_at was peer) (seen_at mid peer) = λ peer low. c.scrub.ensures.read peer (omega (arith, long, low)) in
    let counted : (peer : ℕ) → peer < length was → (seen_at was peer).faults ≤ (seen_at is peer).faults = λ peer low.
    let first : (seen_at was peer).faults ≤ (seen_at mid peer).faults = (read peer low).counted in
    let more : (seen_at mid peer).faults ≤ (seen_at is peer).faults = c.copy_from.ensures.counted peer in
    omega (arith, first, more) in
    let time : KeepsTime old new = time_with old new c.scrub.new.watch scrubbed (omega (arith, passed, copied)) (stamped_on c.scrub.new.watch c.put_all.new.watch c.copy_from.new.watch (g.K.Sink.got c.args.sink.now) (g.K.Sink.got c.put_all.new.sink) copied stamped) in
    let silent : RunsNoScript r = record {
      journal = c.closed-in-Err-copy_from.ensures.journal;
      no_load = record { kept = c.closed-in-Err-copy_from.ensures.kept; stored = c.closed-in-Err-copy_from.ensures.stored };
      refused = c.closed-in-Err-copy_from.ensures.refused;
      course = c.closed-in-Err-copy_from.ensures.course;
      line = c.closed-in-Err-copy_from.ensures.line;
      left = refl;
      handed_back = handed_count h c.args.disks.now c.copy_from.new.disks (c.copy_from.ensures.count ∙ c.scrub.ensures.count);
      time = time;
      counts = counts_of old new was is before behind counted sunk (omega arith);
    } in
    let reads : (peer : ℕ) → peer < length was → IsOnlyRead tells c.args.watch.now c.put_all.new.watch (seen_at was peer) (seen_at mid peer) = λ peer low. only_wait tells c.args.watch.now c.scrub.new.watch c.put_all.new.watch (seen_at was peer) (seen_at mid peer) passed (read peer low) in
    let compared : Compares tells c.args.shape was mid = record {
      marks = c.in-Ok.marks.items;
      text = text;
      scrubbed = subst (λ (xs : List ℕ). HasScrubbed tells c.args.shape was mid c.in-Ok.marks.items xs text) c.new-text.ensures.items c.in-Ok.ensures.scrubbed;
    } in
    let whole : bytes_of (g.K.Sink.got c.put_all.new.sink) ≡ followed (bytes_of old.got) c.as_slice.result.now = when_ok c.put_all.result c.if-is_err.ensures.value c.put_all.ensures.put in
    let peer : ℕ = c.in-Some.peer in
    let own : peer < c.args.shape.shards * c.args.shape.copies = subst (λ (o : Option ℕ). IfSome o (λ k. k < c.args.shape.shards * c.args.shape.copies)) c.in-Some.is c.requires.from in
    let marked : length c.in-Ok.marks.items ≡ c.args.shape.shards * c.args.shape.copies = compared.scrubbed.marked.peers in
    let copies : CopiesFrom tells c.args.shape (Some peer) c.in-Ok.marks.items peer = record { asked = refl; listed = mark_read c.in-Ok.marks.items c.from.result peer c.index.result.now c.has_list.result true c.from.ensures (omega (arith, own, marked)) c.index.ensures c.has_list.ensures c.if-not-has_list.false } in
    let alone : bytes_of new.got ≡ followed (bytes_of old.got) (text ++ []) = put_alone (bytes_of old.got) (bytes_of new.got) text c.as_slice.result.now said whole in
    subst (λ (o : Option ℕ). IsCompared tells c.args.shape o r) (sym c.in-Some.is)
    (copied_too tells c.args.shape peer r was mid is c.put_all.new.watch c.copy_from.new.watch before behind silent reads c.copy_from.ensures.source c.copy_from.ensures.others copied (omega arith)
    (Uncopied compared peer copies c.in-Err-copy_from.fault (c.closed-in-Err-copy_from.ensures.status ∙ c.status_of-in-Err-copy_from.ensures) alone c.in-Err-copy_from.ensures.other)
    (λ k low other list told. kept_on tells (seen_at mid k) (seen_at is k) c.put_all.new.watch c.copy_from.new.watch c.copy_from.new.watch list (omega arith) (c.copy_from.ensures.fronts k (omega (arith, long, low, c.scrub.ensures.count)) other list told)))

-- the sink failed behind the copying
pub returns-then-is_err-2-clause-compared : goal.returns-then-is_err-2-clause-compared
returns-then-is_err-2-clause-compared g c = λ source.
    let text : List ℕ = c.scrub.new.out.items in
    let said : c.as_slice.result.now ≡ text = c.as_slice.ensures.value in
    let passed : c.scrub.new.watch ≤ c.put_all.new.watch = c.put_all.ensures.late.later in
    let stamped : IsStamped c.scrub.new.watch c.put_all.new.watch (g.K.Sink.got c.args.sink.now) (g.K.Sink.got c.put_all.new.sink) = c.put_all.ensures.stamped in
    let sunk : g.K.Sink.faults c.args.sink.now ≤ g.K.Sink.faults c.put_all.new.sink = c.put_all.ensures.cause.later in
    let copied : c.put_all.new.watch ≤ c.copy_from.new.watch = c.copy_from.ensures.ticks in
    let lines : List ℕ = c.copy_from.new.out.items in
    let told : c.as_slice-2.result.now ≡ lines = c.as_slice-2.ensures.value in
    let then : c.copy_from.new.watch ≤ c.put_all-2.new.watch = c.put_all-2.ensures.late.later in
    let later : c.put_all.new.watch ≤ c.put_all-2.new.watch = omega (arith, copied, then) in
    let stamped-2 : IsStamped c.copy_from.new.watch c.put_all-2.new.watch (g.K.Sink.got c.put_all.new.sink) (g.K.Sink.got c.put_all-2.new.sink) = c.put_all-2.ensures.stamped in
    let sunk-2 : g.K.Sink.faults c.put_all.new.sink ≤ g.K.Sink.faults c.put_all-2.new.sink = c.put_all-2.ensures.cause.later in
    let tells : Type 0 = g.D.Disk.tells in
    let f : g.row.D.Denot → DiskSeen = λ disk. seen_as (g.D.Disk.size disk) (g.D.Disk.stands disk) (g.D.Disk.faults disk) in
    let h : g.row.D.Denot → Standing × ℕ = λ disk. (g.D.Disk.stands disk, g.D.Disk.faults disk) in
    let old : Objects = handed c.args.watch.now (map h c.args.disks.now) (g.K.Sink.got c.args.sink.now, g.K.Sink.faults c.args.sink.now) source in
    let new : Objects = handed c.put_all-2.new.watch (map h c.copy_from.new.disks) (g.K.Sink.got c.put_all-2.new.sink, g.K.Sink.faults c.put_all-2.new.sink) source in
    let r : Ran = ran_of c.closed-then-is_err-2.result old new in
    let was : List DiskSeen = map f c.args.disks.now in
    let mid : List DiskSeen = map f c.scrub.new.disks in
    let is : List DiskSeen = map f c.copy_from.new.disks in
    let before : AreHanded old was = record { stands = handed_stands f h (λ disk. refl) c.args.disks.now; counts = handed_counts f h (λ disk. refl) c.args.disks.now } in
    let behind : AreHanded new is = record { stands = handed_stands f h (λ disk. refl) c.copy_from.new.disks; counts = handed_counts f h (λ disk. refl) c.copy_from.new.disks } in
    let long : length was ≡ length c.args.disks.now = length-map c.args.disks.now f in
    let scrubbed : c.args.watch.now ≤ c.scrub.new.watch = c.scrub.ensures.ticks in
    let read : (peer : ℕ) → peer < length was → IsOnlyRead tells c.args.watch.now c.scrub.new.watch (seen_at was peer) (seen_at mid peer) = λ peer low. c.scrub.ensures.read peer (omega (arith, long, low)) in
    let counted : (peer : ℕ) → peer < length was → (seen_at was peer).faults ≤ (seen_at is peer).faults = λ peer low.
    let first : (seen_at was peer).faults ≤ (seen_at mid peer).faults = (read peer low).counted in
    let more : (seen_at mid peer).faults ≤ (seen_at is peer).faults = c.copy_from.ensures.counted peer in
    omega (arith, first, more) in
    let time : KeepsTime old new = time_with old new c.scrub.new.watch scrubbed (omega (arith, passed, later))
    (stamped_both c.scrub.new.watch c.put_all.new.watch c.copy_from.new.watch c.put_all-2.new.watch (g.K.Sink.got c.args.sink.now) (g.K.Sink.got c.put_all.new.sink) (g.K.Sink.got c.put_all-2.new.sink) (omega (arith, passed, copied)) later stamped stamped-2) in
    let silent : RunsNoScript r = record {
      journal = c.closed-then-is_err-2.ensures.journal;
      no_load = record { kept = c.closed-then-is_err-2.ensures.kept; stored = c.closed-then-is_err-2.ensures.stored };
      refused = c.closed-then-is_err-2.ensures.refused;
      course = c.closed-then-is_err-2.ensures.course;
      line = c.closed-then-is_err-2.ensures.line;
      left = refl;
      handed_back = handed_count h c.args.disks.now c.copy_from.new.disks (c.copy_from.ensures.count ∙ c.scrub.ensures.count);
      time = time;
      counts = counts_of old new was is before behind counted (omega (arith, sunk, sunk-2)) (omega arith);
    } in
    let reads : (peer : ℕ) → peer < length was → IsOnlyRead tells c.args.watch.now c.put_all.new.watch (seen_at was peer) (seen_at mid peer) = λ peer low. only_wait tells c.args.watch.now c.scrub.new.watch c.put_all.new.watch (seen_at was peer) (seen_at mid peer) passed (read peer low) in
    let compared : Compares tells c.args.shape was mid = record {
      marks = c.in-Ok.marks.items;
      text = text;
      scrubbed = subst (λ (xs : List ℕ). HasScrubbed tells c.args.shape was mid c.in-Ok.marks.items xs text) c.new-text.ensures.items c.in-Ok.ensures.scrubbed;
    } in
    let whole : bytes_of (g.K.Sink.got c.put_all.new.sink) ≡ followed (bytes_of old.got) c.as_slice.result.now = when_ok c.put_all.result c.if-is_err.ensures.value c.put_all.ensures.put in
    let peer : ℕ = c.in-Some.peer in
    let own : peer < c.args.shape.shards * c.args.shape.copies = subst (λ (o : Option ℕ). IfSome o (λ k. k < c.args.shape.shards * c.args.shape.copies)) c.in-Some.is c.requires.from in
    let marked : length c.in-Ok.marks.items ≡ c.args.shape.shards * c.args.shape.copies = compared.scrubbed.marked.peers in
    let copies : CopiesFrom tells c.args.shape (Some peer) c.in-Ok.marks.items peer = record { asked = refl; listed = mark_read c.in-Ok.marks.items c.from.result peer c.index.result.now c.has_list.result true c.from.ensures (omega (arith, own, marked)) c.index.ensures c.has_list.ensures c.if-not-has_list.false } in
    let has : HasCopied tells c.args.shape peer c.put_all.new.watch mid is [] lines = subst (λ (xs : List ℕ). HasCopied tells c.args.shape peer c.put_all.new.watch mid is xs lines) c.new-lines.ensures.items c.in-Ok-copy_from.ensures.copied in
    let first : bytes_of (g.K.Sink.got c.put_all.new.sink) ≡ followed (bytes_of old.got) text = subst (λ (t : List ℕ). bytes_of (g.K.Sink.got c.put_all.new.sink) ≡ followed (bytes_of old.got) t) said whole in
    let front : PutsFront (bytes_of (g.K.Sink.got c.put_all.new.sink)) lines (bytes_of new.got) = subst (λ (t : List ℕ). PutsFront (bytes_of (g.K.Sink.got c.put_all.new.sink)) t (bytes_of new.got)) told (when_err c.put_all-2.result c.if-is_err-2.ensures.value c.put_all-2.ensures.front) in
    let cut : PutsFront (bytes_of old.got) (text ++ lines) (bytes_of new.got) = front_behind (bytes_of old.got) (bytes_of (g.K.Sink.got c.put_all.new.sink)) (bytes_of new.got) text lines first front in
    let risen : HasRisen (g.K.Sink.faults c.put_all.new.sink) (g.K.Sink.faults c.put_all-2.new.sink) = c.put_all-2.ensures.cause.failed (err_is c.put_all-2.result stop.WriteFault c.if-is_err-2.ensures.value c.put_all-2.ensures.err) in
    let failed : HasRisen old.sink_faults new.sink_faults = least (2 ^ 64 - 1) old.sink_faults (g.K.Sink.faults c.put_all.new.sink) new.sink_faults sunk risen in
    subst (λ (o : Option ℕ). IsCompared tells c.args.shape o r) (sym c.in-Some.is)
    (copied_too tells c.args.shape peer r was mid is c.put_all.new.watch c.copy_from.new.watch before behind silent reads c.copy_from.ensures.source c.copy_from.ensures.others copied then
    (CopiedCut compared peer copies lines has c.closed-then-is_err-2.ensures.status cut failed)
    (λ k low other list told. kept_on tells (seen_at mid k) (seen_at is k) c.put_all.new.watch c.copy_from.new.watch c.put_all-2.new.watch list then (c.copy_from.ensures.fronts k (omega (arith, long, low, c.scrub.ensures.count)) other list told)))

-- the list was copied
pub returns-clause-compared : goal.returns-clause-compared
returns-clause-compared g c = λ source.
    let text : List ℕ = c.scrub.new.out.items in
    let said : c.as_slice.result.now ≡ text = c.as_slice.ensures.value in
    let passed : c.scrub.new.watch ≤ c.put_all.new.watch = c.put_all.ensures.late.later in
    let stamped : IsStamped c.scrub.new.watch c.put_all.new.watch (g.K.Sink.got c.args.sink.now) (g.K.Sink.got c.put_all.new.sink) = c.put_all.ensures.stamped in
    let sunk : g.K.Sink.faults c.args.sink.now ≤ g.K.Sink.faults c.put_all.new.sink = c.put_all.ensures.cause.later in
    let copied : c.put_all.new.watch ≤ c.copy_from.new.watch = c.copy_from.ensures.ticks in
    let lines : List ℕ = c.copy_from.new.out.items in
    let told : c.as_slice-2.result.now ≡ lines = c.as_slice-2.ensures.value in
    let then : c.copy_from.new.watch ≤ c.put_all-2.new.watch = c.put_all-2.ensures.late.later in
    let later : c.put_all.new.watch ≤ c.put_all-2.new.watch = omega (arith, copied, then) in
    let stamped-2 : IsStamped c.copy_from.new.watch c.put_all-2.new.watch (g.K.Sink.got c.put_all.new.sink) (g.K.Sink.got c.put_all-2.new.sink) = c.put_all-2.ensures.stamped in
    let sunk-2 : g.K.Sink.faults c.put_all.new.sink ≤ g.K.Sink.faults c.put_all-2.new.sink = c.put_all-2.ensures.cause.later in
    let tells : Type 0 = g.D.Disk.tells in
    let f : g.row.D.Denot → DiskSeen = λ disk. seen_as (g.D.Disk.size disk) (g.D.Disk.stands disk) (g.D.Disk.faults disk) in
    let h : g.row.D.Denot → Standing × ℕ = λ disk. (g.D.Disk.stands disk, g.D.Disk.faults disk) in
    let old : Objects = handed c.args.watch.now (map h c.args.disks.now) (g.K.Sink.got c.args.sink.now, g.K.Sink.faults c.args.sink.now) source in
    let new : Objects = handed c.put_all-2.new.watch (map h c.copy_from.new.disks) (g.K.Sink.got c.put_all-2.new.sink, g.K.Sink.faults c.put_all-2.new.sink) source in
    let r : Ran = ran_of c.closed-2.result old new in
    let was : List DiskSeen = map f c.args.disks.now in
    let mid : List DiskSeen = map f c.scrub.new.disks in
    let is : List DiskSeen = map f c.copy_from.new.disks in
    let before : AreHanded old was = record { stands = handed_stands f h (λ disk. refl) c.args.disks.now; counts = handed_counts f h (λ disk. refl) c.args.disks.now } in
    let behind : AreHanded new is = record { stands = handed_stands f h (λ disk. refl) c.copy_from.new.disks; counts = handed_counts f h (λ disk. refl) c.copy_from.new.disks } in
    let long : length was ≡ length c.args.disks.now = length-map c.args.disks.now f in
    let scrubbed : c.args.watch.now ≤ c.scrub.new.watch = c.scrub.ensures.ticks in
    let read : (peer : ℕ) → peer < length was → IsOnlyRead tells c.args.watch.now c.scrub.new.watch (seen_at was peer) (seen_at mid peer) = λ peer low. c.scrub.ensures.read peer (omega (arith, long, low)) in
    let counted : (peer : ℕ) → peer < length was → (seen_at was peer).faults ≤ (seen_at is peer).faults = λ peer low.
    let first : (seen_at was peer).faults ≤ (seen_at mid peer).faults = (read peer low).counted in
    let more : (seen_at mid peer).faults ≤ (seen_at is peer).faults = c.copy_from.ensures.counted peer in
    omega (arith, first, more) in
    let time : KeepsTime old new = time_with old new c.scrub.new.watch scrubbed (omega (arith, passed, later))
    (stamped_both c.scrub.new.watch c.put_all.new.watch c.copy_from.new.watch c.put_all-2.new.watch (g.K.Sink.got c.args.sink.now) (g.K.Sink.got c.put_all.new.sink) (g.K.Sink.got c.put_all-2.new.sink) (omega (arith, passed, copied)) later stamped stamped-2) in
    let silent : RunsNoScript r = record {
      journal = c.closed-2.ensures.journal;
      no_load = record { kept = c.closed-2.ensures.kept; stored = c.closed-2.ensures.stored };
      refused = c.closed-2.ensures.refused;
      course = c.closed-2.ensures.course;
      line = c.closed-2.ensures.line;
      left = refl;
      handed_back = handed_count h c.args.disks.now c.copy_from.new.disks (c.copy_from.ensures.count ∙ c.scrub.ensures.count);
      time = time;
      counts = counts_of old new was is before behind counted (omega (arith, sunk, sunk-2)) (omega arith);
    } in
    let reads : (peer : ℕ) → peer < length was → IsOnlyRead tells c.args.watch.now c.put_all.new.watch (seen_at was peer) (seen_at mid peer) = λ peer low. only_wait tells c.args.watch.now c.scrub.new.watch c.put_all.new.watch (seen_at was peer) (seen_at mid peer) passed (read peer low) in
    let compared : Compares tells c.args.shape was mid = record {
      marks = c.in-Ok.marks.items;
      text = text;
      scrubbed = subst (λ (xs : List ℕ). HasScrubbed tells c.args.shape was mid c.in-Ok.marks.items xs text) c.new-text.ensures.items c.in-Ok.ensures.scrubbed;
    } in
    let whole : bytes_of (g.K.Sink.got c.put_all.new.sink) ≡ followed (bytes_of old.got) c.as_slice.result.now = when_ok c.put_all.result c.if-is_err.ensures.value c.put_all.ensures.put in
    let peer : ℕ = c.in-Some.peer in
    let own : peer < c.args.shape.shards * c.args.shape.copies = subst (λ (o : Option ℕ). IfSome o (λ k. k < c.args.shape.shards * c.args.shape.copies)) c.in-Some.is c.requires.from in
    let marked : length c.in-Ok.marks.items ≡ c.args.shape.shards * c.args.shape.copies = compared.scrubbed.marked.peers in
    let copies : CopiesFrom tells c.args.shape (Some peer) c.in-Ok.marks.items peer = record { asked = refl; listed = mark_read c.in-Ok.marks.items c.from.result peer c.index.result.now c.has_list.result true c.from.ensures (omega (arith, own, marked)) c.index.ensures c.has_list.ensures c.if-not-has_list.false } in
    let has : HasCopied tells c.args.shape peer c.put_all.new.watch mid is [] lines = subst (λ (xs : List ℕ). HasCopied tells c.args.shape peer c.put_all.new.watch mid is xs lines) c.new-lines.ensures.items c.in-Ok-copy_from.ensures.copied in
    let both : bytes_of new.got ≡ followed (bytes_of old.got) (text ++ lines) = put_both (bytes_of old.got) (bytes_of (g.K.Sink.got c.put_all.new.sink)) (bytes_of new.got) text c.as_slice.result.now lines c.as_slice-2.result.now said told whole
    (when_ok c.put_all-2.result c.if-is_err-2.ensures.value c.put_all-2.ensures.put) in
    subst (λ (o : Option ℕ). IsCompared tells c.args.shape o r) (sym c.in-Some.is)
    (copied_too tells c.args.shape peer r was mid is c.put_all.new.watch c.copy_from.new.watch before behind silent reads c.copy_from.ensures.source c.copy_from.ensures.others copied then
    (Copied compared peer copies lines has c.closed-2.ensures.status both)
    (λ k low other list told. kept_on tells (seen_at mid k) (seen_at is k) c.put_all.new.watch c.copy_from.new.watch c.put_all-2.new.watch list then (c.copy_from.ensures.fronts k (omega (arith, long, low, c.scrub.ensures.count)) other list told)))
