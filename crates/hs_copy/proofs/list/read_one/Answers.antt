use Rattle.std.proofs.lemmas.Result.{err_from_is_err_and}
use Rattle.std.proofs.Common.{◌+◌, arith, refl, subst}
use Rattle.hs_copy.proofs.ListLemmas.{call_stops, reads_forget, reads_read, reads_then, stops_then}
use Rattle.hs_copy.proofs.FailLemmas.{read_fails, unforgotten, unnumbered}
use Rattle.hs_copy.proofs.ReadLemmas.{reads_one}
use Rattle.hs_copy.specs.Calls.{CallFails}
use Rattle.hs_copy.specs.Whole.{NumbersAll, NumbersFail}
use Rattle.hs_model.specs.declared.op.Op.TheVariants as op
use Rattle.hs_model.specs.declared.reply.Reply.TheVariants as reply
use Rattle.hs_tree.specs.Calls.{Hears}
use Rattle.hs_tree.specs.Storing.{our_session}
use Rattle.hs_copy.proofs.list.read_one.Goals as goal

pub returns-in_err-bytes-clause-stops : goal.returns-in_err-bytes-clause-stops
returns-in_err-bytes-clause-stops g c =
    let p = err_from_is_err_and c.from_residual.result c.from_residual.ensures.1 in
    rw (p.1, p.2) (call_stops (g.B.Asker.shows c.args.asker.now) (g.B.Asker.shows c.read.new.asker) (op.Read our_session c.args.handle) 1 c.in_err-bytes.field-0.0 c.requires.going refl (omega arith)
    (subst (λ z. CallFails (g.B.Asker.shows c.args.asker.now) (g.B.Asker.shows c.read.new.asker) (op.Read z c.args.handle) c.in_err-bytes.field-0.0) c.requires.ours c.in_err-bytes.ensures.err))

pub returns-in_err-forget-clause-stops : goal.returns-in_err-forget-clause-stops
returns-in_err-forget-clause-stops g c =
    let p = err_from_is_err_and c.from_residual-in_err-forget.result c.from_residual-in_err-forget.ensures.1 in
    let h = subst (λ z. Hears (g.B.Asker.shows c.args.asker.now) (g.B.Asker.shows c.read.new.asker) (op.Read z c.args.handle) (reply.Bytes c.in_ok-bytes.bytes c.in_ok-bytes.handles)) c.requires.ours c.in_ok-bytes.ensures.ok in
    rw (p.1, p.2) (stops_then (g.B.Asker.shows c.args.asker.now) (g.B.Asker.shows c.read.new.asker) (g.B.Asker.shows c.forget.new.asker) 1 0 1 c.in_err-forget.field-0.0 (reads_read (g.B.Asker.shows c.args.asker.now) (g.B.Asker.shows c.read.new.asker) c.args.handle (reply.Bytes c.in_ok-bytes.bytes c.in_ok-bytes.handles) h) (omega arith)
    (call_stops (g.B.Asker.shows c.read.new.asker) (g.B.Asker.shows c.forget.new.asker) (op.Forget our_session c.args.handle) 0 c.in_err-forget.field-0.0 h.going refl (omega arith)
    (subst (λ z. CallFails (g.B.Asker.shows c.read.new.asker) (g.B.Asker.shows c.forget.new.asker) (op.Forget z c.args.handle) c.in_err-forget.field-0.0) c.requires.ours c.in_err-forget.ensures.err)))

pub returns-in_err-pointers-clause-stops : goal.returns-in_err-pointers-clause-stops
returns-in_err-pointers-clause-stops g c =
    let p = err_from_is_err_and c.from_residual-in_err-pointers.result c.from_residual-in_err-pointers.ensures.1 in
    let h = subst (λ z. Hears (g.B.Asker.shows c.args.asker.now) (g.B.Asker.shows c.read.new.asker) (op.Read z c.args.handle) (reply.Bytes c.in_ok-bytes.bytes c.in_ok-bytes.handles)) c.requires.ours c.in_ok-bytes.ensures.ok in
    let k = subst (λ z. Hears (g.B.Asker.shows c.read.new.asker) (g.B.Asker.shows c.forget.new.asker) (op.Forget z c.args.handle) reply.Ok) c.requires.ours c.in_ok-forget.ensures.ok in
    rw (p.1, p.2) (stops_then (g.B.Asker.shows c.args.asker.now) (g.B.Asker.shows c.forget.new.asker) (g.B.Asker.shows c.number_all.new.asker) (1 + 0) 0 1 c.in_err-pointers.field-0.0
    (reads_then (g.B.Asker.shows c.args.asker.now) (g.B.Asker.shows c.read.new.asker) (g.B.Asker.shows c.forget.new.asker) 1 0 (reads_read (g.B.Asker.shows c.args.asker.now) (g.B.Asker.shows c.read.new.asker) c.args.handle (reply.Bytes c.in_ok-bytes.bytes c.in_ok-bytes.handles) h) (reads_forget (g.B.Asker.shows c.read.new.asker) (g.B.Asker.shows c.forget.new.asker) c.args.handle k)) (omega arith) c.in_err-pointers.ensures.stops)

pub returns-clause-reads : goal.returns-clause-reads
returns-clause-reads g c =
    let h = subst (λ z. Hears (g.B.Asker.shows c.args.asker.now) (g.B.Asker.shows c.read.new.asker) (op.Read z c.args.handle) (reply.Bytes c.in_ok-bytes.bytes c.in_ok-bytes.handles)) c.requires.ours c.in_ok-bytes.ensures.ok in
    let k = subst (λ z. Hears (g.B.Asker.shows c.read.new.asker) (g.B.Asker.shows c.forget.new.asker) (op.Forget z c.args.handle) reply.Ok) c.requires.ours c.in_ok-forget.ensures.ok in
    reads_then (g.B.Asker.shows c.args.asker.now) (g.B.Asker.shows c.forget.new.asker) (g.B.Asker.shows c.number_all.new.asker) (1 + 0) 0
    (reads_then (g.B.Asker.shows c.args.asker.now) (g.B.Asker.shows c.read.new.asker) (g.B.Asker.shows c.forget.new.asker) 1 0 (reads_read (g.B.Asker.shows c.args.asker.now) (g.B.Asker.shows c.read.new.asker) c.args.handle (reply.Bytes c.in_ok-bytes.bytes c.in_ok-bytes.handles) h) (reads_forget (g.B.Asker.shows c.read.new.asker) (g.B.Asker.shows c.forget.new.asker) c.args.handle k)) c.in_ok-pointers.ensures.reads

pub returns-clause-one : goal.returns-clause-one
returns-clause-one g c =
    let h = subst (λ z. Hears (g.B.Asker.shows c.args.asker.now) (g.B.Asker.shows c.read.new.asker) (op.Read z c.args.handle) (reply.Bytes c.in_ok-bytes.bytes c.in_ok-bytes.handles)) c.requires.ours c.in_ok-bytes.ensures.ok in
    let k = subst (λ z. Hears (g.B.Asker.shows c.read.new.asker) (g.B.Asker.shows c.forget.new.asker) (op.Forget z c.args.handle) reply.Ok) c.requires.ours c.in_ok-forget.ensures.ok in
    reads_one (g.B.Asker.shows c.args.asker.now) (g.B.Asker.shows c.read.new.asker) (g.B.Asker.shows c.forget.new.asker) (g.B.Asker.shows c.number_all.new.asker) c.args.handle c.args.numbers.now.entries c.number_all.new.numbers.entries c.args.found.now.items c.number_all.new.found.items c.in_ok-bytes.bytes c.in_ok-bytes.handles c.in_ok-pointers.pointers h k c.in_ok-pointers.ensures.reads
    (subst (λ z. NumbersAll (g.B.Asker.shows c.forget.new.asker) (g.B.Asker.shows c.number_all.new.asker) z c.args.numbers.now.entries c.number_all.new.numbers.entries c.args.found.now.items c.number_all.new.found.items c.in_ok-pointers.pointers) c.as_slice.ensures c.in_ok-pointers.ensures.numbers)

pub returns-in_err-bytes-clause-fails : goal.returns-in_err-bytes-clause-fails
returns-in_err-bytes-clause-fails g c =
    let p = err_from_is_err_and c.from_residual.result c.from_residual.ensures.1 in
    rw (p.1, p.2) (read_fails (g.B.Asker.shows c.args.asker.now) (g.B.Asker.shows c.read.new.asker) c.args.handle c.args.numbers.now.entries c.args.found.now.items c.in_err-bytes.field-0.0
    (subst (λ z. CallFails (g.B.Asker.shows c.args.asker.now) (g.B.Asker.shows c.read.new.asker) (op.Read z c.args.handle) c.in_err-bytes.field-0.0) c.requires.ours c.in_err-bytes.ensures.err))

pub returns-in_err-forget-clause-fails : goal.returns-in_err-forget-clause-fails
returns-in_err-forget-clause-fails g c =
    let p = err_from_is_err_and c.from_residual-in_err-forget.result c.from_residual-in_err-forget.ensures.1 in
    let h = subst (λ z. Hears (g.B.Asker.shows c.args.asker.now) (g.B.Asker.shows c.read.new.asker) (op.Read z c.args.handle) (reply.Bytes c.in_ok-bytes.bytes c.in_ok-bytes.handles)) c.requires.ours c.in_ok-bytes.ensures.ok in
    rw (p.1, p.2) (unforgotten (g.B.Asker.shows c.args.asker.now) (g.B.Asker.shows c.read.new.asker) c.args.handle c.args.numbers.now.entries c.args.found.now.items c.in_ok-bytes.bytes c.in_ok-bytes.handles h (g.B.Asker.shows c.forget.new.asker) c.in_err-forget.field-0.0
    (subst (λ z. CallFails (g.B.Asker.shows c.read.new.asker) (g.B.Asker.shows c.forget.new.asker) (op.Forget z c.args.handle) c.in_err-forget.field-0.0) c.requires.ours c.in_err-forget.ensures.err))

pub returns-in_err-pointers-clause-fails : goal.returns-in_err-pointers-clause-fails
returns-in_err-pointers-clause-fails g c =
    let p = err_from_is_err_and c.from_residual-in_err-pointers.result c.from_residual-in_err-pointers.ensures.1 in
    let h = subst (λ z. Hears (g.B.Asker.shows c.args.asker.now) (g.B.Asker.shows c.read.new.asker) (op.Read z c.args.handle) (reply.Bytes c.in_ok-bytes.bytes c.in_ok-bytes.handles)) c.requires.ours c.in_ok-bytes.ensures.ok in
    let k = subst (λ z. Hears (g.B.Asker.shows c.read.new.asker) (g.B.Asker.shows c.forget.new.asker) (op.Forget z c.args.handle) reply.Ok) c.requires.ours c.in_ok-forget.ensures.ok in
    rw (p.1, p.2) (unnumbered (g.B.Asker.shows c.args.asker.now) (g.B.Asker.shows c.read.new.asker) c.args.handle c.args.numbers.now.entries c.args.found.now.items c.in_ok-bytes.bytes c.in_ok-bytes.handles h (g.B.Asker.shows c.forget.new.asker) c.in_err-pointers.field-0.0 k
    (subst (λ z. NumbersFail (g.B.Asker.shows c.forget.new.asker) z c.args.numbers.now.entries c.args.found.now.items c.in_err-pointers.field-0.0) c.as_slice.ensures c.in_err-pointers.ensures.fails))
