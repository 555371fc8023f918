use Rattle.std.proofs.Common.{◌≡◌, ◌∙◌, ◌++◌, [], IfSome, ap, subst, true}
use Rattle.std.proofs.lemmas.Result.{err_from_is_err_and}
use Rattle.hs_asking.specs.Shown.{IfTold, store_now}
use Rattle.hs_model.specs.Store.{held_at}
use Rattle.hs_model.specs.declared.op.Op.TheVariants as op
use Rattle.hs_model.specs.declared.reply.Reply.TheVariants as reply
use Rattle.hs_tree.proofs.FileReads.{has_fetched, look_stops, open_stops, top_fails, unput_stops}
use Rattle.hs_tree.proofs.TopReads.{both_ok, row_err}
use Rattle.hs_tree.specs.Calls.{CallFails, Hears}
use Rattle.hs_tree.specs.Fetching.{HasFetched, IsFetchStopped}
use Rattle.hs_tree.specs.Rows.{IsUnput, ReadsTop, TopStops}
use Rattle.hs_tree.specs.Storing.{our_session}
use Rattle.hs_tree.specs.Telling.{IsLookedAs}
use Rattle.hs_tree.proofs.fetch.fetch_file.Goals as goal

pub returns-in_err-open-clause-stopped : goal.returns-in_err-open-clause-stopped
returns-in_err-open-clause-stopped g c =
    let p = err_from_is_err_and c.from_residual-in_err-open.result c.from_residual-in_err-open.ensures.1 in
    rw (p.1, p.2) (open_stops c.args.key.now (g.B.Asker.shows c.args.asker.now) c.requires.alone c.known.ensures (g.B.Asker.shows c.open.new.asker) c.in_err-open.field-0.0 c.requires.going (subst (λ z. CallFails (g.B.Asker.shows c.args.asker.now) (g.B.Asker.shows c.open.new.asker) (op.Open z) c.in_err-open.field-0.0) c.in_ok-session.ensures c.in_err-open.ensures.err))

pub returns-in_err-handle-clause-stopped : goal.returns-in_err-handle-clause-stopped
returns-in_err-handle-clause-stopped g c =
    let opened = subst (λ z. Hears (g.B.Asker.shows c.args.asker.now) (g.B.Asker.shows c.open.new.asker) (op.Open z) reply.Ok) c.in_ok-session.ensures c.in_ok-open.ensures.ok in
    let p = err_from_is_err_and c.from_residual-in_err-handle.result c.from_residual-in_err-handle.ensures.1 in
    rw (p.1, p.2) (look_stops c.args.key.now (g.B.Asker.shows c.args.asker.now) c.requires.alone c.known.ensures (g.B.Asker.shows c.open.new.asker) opened (g.B.Asker.shows c.look.new.asker) c.in_err-handle.field-0.0 (subst (λ z. CallFails (g.B.Asker.shows c.open.new.asker) (g.B.Asker.shows c.look.new.asker) (op.Look z c.args.key.now) c.in_err-handle.field-0.0) c.in_ok-session.ensures c.in_err-handle.ensures.err))

pub returns-in_err-good-clause-stopped : goal.returns-in_err-good-clause-stopped
returns-in_err-good-clause-stopped g c =
    let opened = subst (λ z. Hears (g.B.Asker.shows c.args.asker.now) (g.B.Asker.shows c.open.new.asker) (op.Open z) reply.Ok) c.in_ok-session.ensures c.in_ok-open.ensures.ok in
    let w = subst (λ z. IsLookedAs (g.B.Asker.shows c.open.new.asker) (g.B.Asker.shows c.look.new.asker) (op.Look z c.args.key.now) c.in_ok-handle.handle) c.in_ok-session.ensures c.in_ok-handle.ensures.ok in
    let p = err_from_is_err_and c.from_residual-in_err-good.result c.from_residual-in_err-good.ensures.1 in
    rw (p.1, p.2) (top_fails c.args.key.now (g.B.Asker.shows c.args.asker.now) c.requires.alone c.known.ensures (g.B.Asker.shows c.open.new.asker) opened (g.B.Asker.shows c.look.new.asker) c.in_ok-handle.handle w (g.B.Asker.shows c.fetch_top.new.asker) c.in_err-good.field-0.0 (subst (λ z. TopStops z (g.B.Asker.shows c.look.new.asker) (g.B.Asker.shows c.fetch_top.new.asker) c.in_ok-handle.handle c.in_err-good.field-0.0) c.in_ok-session.ensures c.in_err-good.ensures.err))

pub returns-clause-fetched : goal.returns-clause-fetched
returns-clause-fetched g c =
    let opened = subst (λ z. Hears (g.B.Asker.shows c.args.asker.now) (g.B.Asker.shows c.open.new.asker) (op.Open z) reply.Ok) c.in_ok-session.ensures c.in_ok-open.ensures.ok in
    let w = subst (λ z. IsLookedAs (g.B.Asker.shows c.open.new.asker) (g.B.Asker.shows c.look.new.asker) (op.Look z c.args.key.now) c.in_ok-handle.handle) c.in_ok-session.ensures c.in_ok-handle.ensures.ok in
    let t = subst (λ z. ReadsTop our_session (g.B.Asker.shows c.look.new.asker) (g.B.Asker.shows c.fetch_top.new.asker) c.in_ok-handle.handle z c.fetch_top.new.out.items c.in_ok-good.good) c.new-file.ensures.items
    (subst (λ z. ReadsTop z (g.B.Asker.shows c.look.new.asker) (g.B.Asker.shows c.fetch_top.new.asker) c.in_ok-handle.handle c.new-file.result.items c.fetch_top.new.out.items c.in_ok-good.good) c.in_ok-session.ensures c.in_ok-good.ensures.ok) in
    both_ok c.put_file.result (c.put_file.new.out.items ≡ c.args.out.now.items ++ c.deref.result.now) (c.in_ok-good.good ≡ true) (HasFetched c.args.key.now (g.B.Asker.shows c.args.asker.now) (g.B.Asker.shows c.fetch_top.new.asker) c.args.out.now.items c.put_file.new.out.items)
    (λ put good. has_fetched c.args.key.now (g.B.Asker.shows c.args.asker.now) c.requires.alone c.known.ensures (g.B.Asker.shows c.open.new.asker) opened (g.B.Asker.shows c.look.new.asker) c.in_ok-handle.handle w (g.B.Asker.shows c.fetch_top.new.asker) c.fetch_top.new.out.items (subst (λ z. ReadsTop our_session (g.B.Asker.shows c.look.new.asker) (g.B.Asker.shows c.fetch_top.new.asker) c.in_ok-handle.handle [] c.fetch_top.new.out.items z) good t) c.args.out.now.items c.put_file.new.out.items
    (put ∙ ap (λ z. c.args.out.now.items ++ z) c.deref.ensures.value)) c.put_file.ensures.put c.put_file.ensures.good

pub returns-clause-stopped : goal.returns-clause-stopped
returns-clause-stopped g c =
    let opened = subst (λ z. Hears (g.B.Asker.shows c.args.asker.now) (g.B.Asker.shows c.open.new.asker) (op.Open z) reply.Ok) c.in_ok-session.ensures c.in_ok-open.ensures.ok in
    let w = subst (λ z. IsLookedAs (g.B.Asker.shows c.open.new.asker) (g.B.Asker.shows c.look.new.asker) (op.Look z c.args.key.now) c.in_ok-handle.handle) c.in_ok-session.ensures c.in_ok-handle.ensures.ok in
    let t = subst (λ z. ReadsTop our_session (g.B.Asker.shows c.look.new.asker) (g.B.Asker.shows c.fetch_top.new.asker) c.in_ok-handle.handle z c.fetch_top.new.out.items c.in_ok-good.good) c.new-file.ensures.items
    (subst (λ z. ReadsTop z (g.B.Asker.shows c.look.new.asker) (g.B.Asker.shows c.fetch_top.new.asker) c.in_ok-handle.handle c.new-file.result.items c.fetch_top.new.out.items c.in_ok-good.good) c.in_ok-session.ensures c.in_ok-good.ensures.ok) in
    row_err c.put_file.result (λ f. IsUnput c.in_ok-good.good c.held_address-address.result f) (λ f. IsFetchStopped c.args.key.now (g.B.Asker.shows c.args.asker.now) (g.B.Asker.shows c.fetch_top.new.asker) f)
    (unput_stops c.args.key.now (g.B.Asker.shows c.args.asker.now) c.requires.alone c.known.ensures (g.B.Asker.shows c.open.new.asker) opened (g.B.Asker.shows c.look.new.asker) c.in_ok-handle.handle w (g.B.Asker.shows c.fetch_top.new.asker) c.fetch_top.new.out.items c.in_ok-good.good c.held_address-address.result
    (subst (λ z. IfTold (g.B.Asker.shows c.look.new.asker) (λ b. IfSome (held_at (store_now b (g.B.Asker.shows c.look.new.asker)) z c.in_ok-handle.handle) (λ held. c.held_address-address.result ≡ held.address))) c.in_ok-session.ensures c.held_address-address.ensures) t) c.put_file.ensures.unput
