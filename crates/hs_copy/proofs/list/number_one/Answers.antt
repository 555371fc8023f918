use Rattle.std.proofs.lemmas.Result.{err_from_is_err_and}
use Rattle.std.proofs.Common.{◌≡◌, ◌≤◌, None, Some, arith, length, refl, rules, subst}
use Rattle.std.specs.BTreeMap.{is_at}
use Rattle.std.specs.Map.{lookup}
use Rattle.hs_copy.proofs.FailLemmas.{forget_fails, many_found}
use Rattle.hs_copy.proofs.ListingLemmas.{numbers_known, numbers_new}
use Rattle.hs_copy.specs.Whole.{IsHeldAddress}
use Rattle.hs_model.specs.Store.{address_cmp}
use Rattle.hs_copy.proofs.ListLemmas.{call_stops, reads_forget, reads_none}
use Rattle.hs_copy.specs.Calls.{CallFails}
use Rattle.hs_model.specs.declared.op.Op.TheVariants as op
use Rattle.hs_model.specs.declared.reply.Reply.TheVariants as reply
use Rattle.hs_tree.specs.Calls.{Hears}
use Rattle.hs_tree.specs.Storing.{our_session}
use Rattle.hs_copy.proofs.list.number_one.Goals as goal

pub returns-in_err-forget-clause-stops : goal.returns-in_err-forget-clause-stops
returns-in_err-forget-clause-stops g c =
    let p = err_from_is_err_and c.from_residual-in_err-forget.result c.from_residual-in_err-forget.ensures.1 in
    rw (p.1, p.2) (call_stops (g.B.Asker.shows c.args.asker.now) (g.B.Asker.shows c.forget.new.asker) (op.Forget our_session c.args.handle) 0 c.in_err-forget.field-0.0 c.requires.going refl (omega arith)
    (subst (λ z. CallFails (g.B.Asker.shows c.args.asker.now) (g.B.Asker.shows c.forget.new.asker) (op.Forget z c.args.handle) c.in_err-forget.field-0.0) c.requires.ours c.in_err-forget.ensures.err))

pub returns-in-Some-clause-reads : goal.returns-in-Some-clause-reads
returns-in-Some-clause-reads g c = reads_forget (g.B.Asker.shows c.args.asker.now) (g.B.Asker.shows c.forget.new.asker) c.args.handle
    (subst (λ z. Hears (g.B.Asker.shows c.args.asker.now) (g.B.Asker.shows c.forget.new.asker) (op.Forget z c.args.handle) reply.Ok) c.requires.ours c.in_ok-forget.ensures.ok)

pub returns-clause-reads : goal.returns-clause-reads
returns-clause-reads g c = reads_none (g.B.Asker.shows c.args.asker.now) c.requires.going

pub returns-in-Some-clause-numbers : goal.returns-in-Some-clause-numbers
returns-in-Some-clause-numbers g c =
    let stands = subst (λ z. IsHeldAddress (g.B.Asker.shows c.args.asker.now) z c.args.handle c.in_ok-address.address) c.requires.ours c.in_ok-address.ensures.ok in
    let e : lookup (is_at (address_cmp c.in_ok-address.address)) c.args.numbers.now.entries ≡ Some c.in-Some.number = search rules in
    numbers_known (g.B.Asker.shows c.args.asker.now) c.args.handle c.args.numbers.now.entries c.args.found.now.items c.in_ok-address.address stands (g.B.Asker.shows c.forget.new.asker) c.in-Some.number e
    (subst (λ z. Hears (g.B.Asker.shows c.args.asker.now) (g.B.Asker.shows c.forget.new.asker) (op.Forget z c.args.handle) reply.Ok) c.requires.ours c.in_ok-forget.ensures.ok)

pub returns-clause-numbers : goal.returns-clause-numbers
returns-clause-numbers g c =
    let stands = subst (λ z. IsHeldAddress (g.B.Asker.shows c.args.asker.now) z c.args.handle c.in_ok-address.address) c.requires.ours c.in_ok-address.ensures.ok in
    let e : lookup (is_at (address_cmp c.in_ok-address.address)) c.args.numbers.now.entries ≡ None = search rules in
    let counted : c.len-number.result ≡ length c.args.found.now.items = search rules in
    numbers_new (g.B.Asker.shows c.args.asker.now) c.args.handle c.args.numbers.now.entries c.args.found.now.items c.in_ok-address.address stands c.note_number.new.numbers.entries c.push_to.new.items.items c.len-number.result e counted c.in_ok-note_number.ensures c.in_ok-push_to.ensures.ok

pub returns-in_err-forget-clause-fails : goal.returns-in_err-forget-clause-fails
returns-in_err-forget-clause-fails g c =
    let p = err_from_is_err_and c.from_residual-in_err-forget.result c.from_residual-in_err-forget.ensures.1 in
    rw (p.1, p.2) (forget_fails (g.B.Asker.shows c.args.asker.now) (g.B.Asker.shows c.forget.new.asker) c.args.handle c.args.numbers.now.entries c.args.found.now.items c.in_err-forget.field-0.0
    (subst (λ z. CallFails (g.B.Asker.shows c.args.asker.now) (g.B.Asker.shows c.forget.new.asker) (op.Forget z c.args.handle) c.in_err-forget.field-0.0) c.requires.ours c.in_err-forget.ensures.err))

pub returns-then-len-ge-MOST_BLOCKS-clause-fails : goal.returns-then-len-ge-MOST_BLOCKS-clause-fails
returns-then-len-ge-MOST_BLOCKS-clause-fails g c =
    let stands = subst (λ z. IsHeldAddress (g.B.Asker.shows c.args.asker.now) z c.args.handle c.in_ok-address.address) c.requires.ours c.in_ok-address.ensures.ok in
    let e : lookup (is_at (address_cmp c.in_ok-address.address)) c.args.numbers.now.entries ≡ None = search rules in
    let many : 4000 ≤ length c.args.found.now.items = search rules in
    many_found (g.B.Asker.shows c.args.asker.now) c.args.handle c.args.numbers.now.entries c.args.found.now.items c.in_ok-address.address stands e many
