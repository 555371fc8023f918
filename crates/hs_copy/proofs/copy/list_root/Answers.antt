use Rattle.std.proofs.lemmas.Result.{err_from_is_err_and}
use Rattle.std.proofs.Common.{◌≡◌, length, subst, sym}
use Rattle.hs_copy.proofs.StepLemmas.{err_map, ok_below, ok_listed}
use Rattle.hs_asking.specs.Shown.{IfTold, store_now}
use Rattle.hs_copy.proofs.AllLemmas.{ok_root_listed}
use Rattle.hs_copy.proofs.FailLemmas.{list_cause, look_cause, open_cause}
use Rattle.hs_copy.specs.Finding.{IsRootCause, ListingStops}
use Rattle.hs_copy.specs.declared.fault.PartFault.TheVariants.{NoMemory}
use Rattle.hs_copy.proofs.ListLemmas.{listed, unlooked, unopened, unordered, unread}
use Rattle.hs_copy.specs.Calls.{CallFails}
use Rattle.hs_model.specs.declared.op.Op.TheVariants as op
use Rattle.hs_model.specs.declared.reply.Reply.TheVariants as reply
use Rattle.hs_tree.specs.Calls.{Hears}
use Rattle.hs_tree.specs.Telling.{IsLookedAs}
use Rattle.hs_copy.proofs.copy.list_root.Goals as goal

pub returns-in_err-open-clause-stops : goal.returns-in_err-open-clause-stops
returns-in_err-open-clause-stops g c =
    let p = err_from_is_err_and c.from_residual.result c.from_residual.ensures.1 in
    rw (p.1, p.2) (unopened c.args.key.now (g.B.Asker.shows c.args.asker.now) (g.B.Asker.shows c.open.new.asker) c.in_err-open.field-0.0 c.requires.going
    (subst (λ z. CallFails (g.B.Asker.shows c.args.asker.now) (g.B.Asker.shows c.open.new.asker) (op.Open z) c.in_err-open.field-0.0) c.requires.ours c.in_err-open.ensures.err))

pub returns-in_err-handle-clause-stops : goal.returns-in_err-handle-clause-stops
returns-in_err-handle-clause-stops g c =
    let p = err_from_is_err_and c.from_residual-in_err-handle.result c.from_residual-in_err-handle.ensures.1 in
    let h = subst (λ z. Hears (g.B.Asker.shows c.args.asker.now) (g.B.Asker.shows c.open.new.asker) (op.Open z) reply.Ok) c.requires.ours c.in_ok-open.ensures.ok in
    rw (p.1, p.2) (unlooked c.args.key.now (g.B.Asker.shows c.args.asker.now) (g.B.Asker.shows c.open.new.asker) (g.B.Asker.shows c.look.new.asker) c.in_err-handle.field-0.0 h
    (subst (λ z. CallFails (g.B.Asker.shows c.open.new.asker) (g.B.Asker.shows c.look.new.asker) (op.Look z c.args.key.now) c.in_err-handle.field-0.0) c.requires.ours c.in_err-handle.ensures.err))

pub returns-in_err-listed-clause-stops : goal.returns-in_err-listed-clause-stops
returns-in_err-listed-clause-stops g c =
    let p = err_from_is_err_and c.from_residual-in_err-listed.result c.from_residual-in_err-listed.ensures.1 in
    let h = subst (λ z. Hears (g.B.Asker.shows c.args.asker.now) (g.B.Asker.shows c.open.new.asker) (op.Open z) reply.Ok) c.requires.ours c.in_ok-open.ensures.ok in
    let l = c.in_ok-handle.ensures.ok in
    let k = subst (λ z. Hears (g.B.Asker.shows c.open.new.asker) (g.B.Asker.shows c.look.new.asker) (op.Look z c.args.key.now) l.told) c.requires.ours l.hears in
    rw (p.1, p.2) (unread c.args.key.now (g.B.Asker.shows c.args.asker.now) (g.B.Asker.shows c.open.new.asker) (g.B.Asker.shows c.look.new.asker) (g.B.Asker.shows c.list_blocks.new.asker) l.told c.in_err-listed.field-0.0 h k c.in_err-listed.ensures.stops)

pub returns-clause-listed : goal.returns-clause-listed
returns-clause-listed g c =
    let h = subst (λ z. Hears (g.B.Asker.shows c.args.asker.now) (g.B.Asker.shows c.open.new.asker) (op.Open z) reply.Ok) c.requires.ours c.in_ok-open.ensures.ok in
    let l = c.in_ok-handle.ensures.ok in
    let k = subst (λ z. Hears (g.B.Asker.shows c.open.new.asker) (g.B.Asker.shows c.look.new.asker) (op.Look z c.args.key.now) l.told) c.requires.ours l.hears in
    let all = listed c.args.key.now (g.B.Asker.shows c.args.asker.now) (g.B.Asker.shows c.open.new.asker) (g.B.Asker.shows c.look.new.asker) (g.B.Asker.shows c.list_blocks.new.asker) l.told (length c.in_ok-listed.listed.items) c.known.ensures h k c.in_ok-listed.ensures.reads in
    ok_listed c.args.key.now (g.B.Asker.shows c.args.asker.now) (g.B.Asker.shows c.list_blocks.new.asker) c.deref.result.now c.in_ok-listed.listed.items c.order_blocks.result (λ v. v.items) c.deref.ensures.value all c.order_blocks.ensures.ok

pub returns-clause-below : goal.returns-clause-below
returns-clause-below g c = ok_below c.deref.result.now c.order_blocks.result (λ v. v.items) c.order_blocks.ensures.ok

pub returns-clause-stops : goal.returns-clause-stops
returns-clause-stops g c =
    let h = subst (λ z. Hears (g.B.Asker.shows c.args.asker.now) (g.B.Asker.shows c.open.new.asker) (op.Open z) reply.Ok) c.requires.ours c.in_ok-open.ensures.ok in
    let l = c.in_ok-handle.ensures.ok in
    let k = subst (λ z. Hears (g.B.Asker.shows c.open.new.asker) (g.B.Asker.shows c.look.new.asker) (op.Look z c.args.key.now) l.told) c.requires.ours l.hears in
    let all = listed c.args.key.now (g.B.Asker.shows c.args.asker.now) (g.B.Asker.shows c.open.new.asker) (g.B.Asker.shows c.look.new.asker) (g.B.Asker.shows c.list_blocks.new.asker) l.told (length c.in_ok-listed.listed.items) c.known.ensures h k c.in_ok-listed.ensures.reads in
    err_map (λ f. f ≡ NoMemory) (λ f. ListingStops c.args.key.now (g.B.Asker.shows c.args.asker.now) (g.B.Asker.shows c.list_blocks.new.asker) f) c.order_blocks.result
    (λ f e. subst (λ z. ListingStops c.args.key.now (g.B.Asker.shows c.args.asker.now) (g.B.Asker.shows c.list_blocks.new.asker) z) (sym e) (unordered c.args.key.now (g.B.Asker.shows c.args.asker.now) (g.B.Asker.shows c.list_blocks.new.asker) (length c.in_ok-listed.listed.items) c.in_ok-listed.ensures.few all)) c.order_blocks.ensures.err

pub returns-clause-all : goal.returns-clause-all
returns-clause-all g c =
    let h = subst (λ z. Hears (g.B.Asker.shows c.args.asker.now) (g.B.Asker.shows c.open.new.asker) (op.Open z) reply.Ok) c.requires.ours c.in_ok-open.ensures.ok in
    let l = subst (λ z. IsLookedAs (g.B.Asker.shows c.open.new.asker) (g.B.Asker.shows c.look.new.asker) (op.Look z c.args.key.now) c.in_ok-handle.handle) c.requires.ours c.in_ok-handle.ensures.ok in
    let all = listed c.args.key.now (g.B.Asker.shows c.args.asker.now) (g.B.Asker.shows c.open.new.asker) (g.B.Asker.shows c.look.new.asker) (g.B.Asker.shows c.list_blocks.new.asker) l.told (length c.in_ok-listed.listed.items) c.known.ensures h l.hears c.in_ok-listed.ensures.reads in
    ok_root_listed c.args.key.now (g.B.Asker.shows c.args.asker.now) (g.B.Asker.shows c.open.new.asker) (g.B.Asker.shows c.look.new.asker) c.in_ok-handle.handle c.requires.alone c.known.ensures h l (g.B.Asker.shows c.list_blocks.new.asker) c.deref.result.now c.in_ok-listed.listed.items c.order_blocks.result (λ v. v.items) (length c.in_ok-listed.listed.items) c.deref.ensures.value c.in_ok-listed.ensures.all all c.order_blocks.ensures.ok

pub returns-in_err-open-clause-cause : goal.returns-in_err-open-clause-cause
returns-in_err-open-clause-cause g c =
    let p = err_from_is_err_and c.from_residual.result c.from_residual.ensures.1 in
    rw (p.1, p.2) (open_cause c.args.key.now (g.B.Asker.shows c.args.asker.now) c.requires.alone c.known.ensures (g.B.Asker.shows c.open.new.asker) c.in_err-open.field-0.0
    (subst (λ z. CallFails (g.B.Asker.shows c.args.asker.now) (g.B.Asker.shows c.open.new.asker) (op.Open z) c.in_err-open.field-0.0) c.requires.ours c.in_err-open.ensures.err))

pub returns-in_err-handle-clause-cause : goal.returns-in_err-handle-clause-cause
returns-in_err-handle-clause-cause g c =
    let p = err_from_is_err_and c.from_residual-in_err-handle.result c.from_residual-in_err-handle.ensures.1 in
    let h = subst (λ z. Hears (g.B.Asker.shows c.args.asker.now) (g.B.Asker.shows c.open.new.asker) (op.Open z) reply.Ok) c.requires.ours c.in_ok-open.ensures.ok in
    rw (p.1, p.2) (look_cause c.args.key.now (g.B.Asker.shows c.args.asker.now) c.requires.alone c.known.ensures (g.B.Asker.shows c.open.new.asker) h (g.B.Asker.shows c.look.new.asker) c.in_err-handle.field-0.0
    (subst (λ z. CallFails (g.B.Asker.shows c.open.new.asker) (g.B.Asker.shows c.look.new.asker) (op.Look z c.args.key.now) c.in_err-handle.field-0.0) c.requires.ours c.in_err-handle.ensures.err))

pub returns-in_err-listed-clause-cause : goal.returns-in_err-listed-clause-cause
returns-in_err-listed-clause-cause g c =
    let p = err_from_is_err_and c.from_residual-in_err-listed.result c.from_residual-in_err-listed.ensures.1 in
    let h = subst (λ z. Hears (g.B.Asker.shows c.args.asker.now) (g.B.Asker.shows c.open.new.asker) (op.Open z) reply.Ok) c.requires.ours c.in_ok-open.ensures.ok in
    let l = subst (λ z. IsLookedAs (g.B.Asker.shows c.open.new.asker) (g.B.Asker.shows c.look.new.asker) (op.Look z c.args.key.now) c.in_ok-handle.handle) c.requires.ours c.in_ok-handle.ensures.ok in
    rw (p.1, p.2) (list_cause c.args.key.now (g.B.Asker.shows c.args.asker.now) c.requires.alone c.known.ensures (g.B.Asker.shows c.open.new.asker) h (g.B.Asker.shows c.look.new.asker) c.in_ok-handle.handle l c.in_err-listed.field-0.0 c.in_err-listed.ensures.fails)

pub returns-clause-cause : goal.returns-clause-cause
returns-clause-cause g c =
    err_map (λ f. f ≡ NoMemory) (λ f. IfTold (g.B.Asker.shows c.args.asker.now) (λ b. IsRootCause (store_now b (g.B.Asker.shows c.args.asker.now)) c.args.key.now f)) c.order_blocks.result
    (λ f e. subst (λ z. IfTold (g.B.Asker.shows c.args.asker.now) (λ b. IsRootCause (store_now b (g.B.Asker.shows c.args.asker.now)) c.args.key.now z)) (sym e) (λ is. tt)) c.order_blocks.ensures.err
