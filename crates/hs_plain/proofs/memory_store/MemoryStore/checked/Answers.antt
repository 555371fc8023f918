use Rattle.std.proofs.Common.{◌≡◌, ◌∙◌, sym, map}
use Rattle.hs_limits.specs.Block.{Block}
use Rattle.hs_model.specs.Judge.{address_of, written}
use Rattle.hs_model.proofs.RefusalLemmas.{write_of_session, write_of_block}
use Rattle.hs_plain.proofs.memory_store.MemoryStore.checked.Goals as goal

pub returns-in-Some : goal.returns-in-Some
returns-in-Some c =
    let a = c.args in
    let early = rw (c.as_slice-payload.ensures, c.as_slice-handles.ensures) at (sym c.in_ok-refusal.ensures ∙ c.in-Some.is) in
    write_of_session a.limits a.self.now a.session.now a.payload.now a.handles.now a.address c.given_address-place.result c.in-Some.refusal c.given_address-place.ensures early

pub returns-in-Some-block_refusal : goal.returns-in-Some-block_refusal
returns-in-Some-block_refusal c =
    let a = c.args in
    let s = a.self.now in
    let none = rw (c.as_slice-payload.ensures, c.as_slice-handles.ensures) at (sym c.in_ok-refusal.ensures ∙ c.in_default.is) in
    let pointers : c.in_ok-pointers.pointers ≡ map (λ handle. address_of s a.session.now handle) a.handles.now = rw c.as_slice-handles.ensures at c.in_ok-pointers.ensures in
    let block : Block = record { pointers = c.as_slice.result.now; bytes = c.as_slice-payload.result.now } in
    let same : block ≡ written s a.session.now a.payload.now a.handles.now = rw (c.as_slice.ensures, pointers, c.as_slice-payload.ensures) in
    write_of_block a.limits s a.session.now a.payload.now a.handles.now a.address c.given_address-place.result block c.given_address-place.ensures same none ∙ sym c.block_refusal.ensures ∙ c.in-Some-block_refusal.is

pub returns : goal.returns
returns c =
    let a = c.args in
    let s = a.self.now in
    let none = rw (c.as_slice-payload.ensures, c.as_slice-handles.ensures) at (sym c.in_ok-refusal.ensures ∙ c.in_default.is) in
    let pointers : c.in_ok-pointers.pointers ≡ map (λ handle. address_of s a.session.now handle) a.handles.now = rw c.as_slice-handles.ensures at c.in_ok-pointers.ensures in
    let block : Block = record { pointers = c.as_slice.result.now; bytes = c.as_slice-payload.result.now } in
    let same : block ≡ written s a.session.now a.payload.now a.handles.now = rw (c.as_slice.ensures, pointers, c.as_slice-payload.ensures) in
    (write_of_block a.limits s a.session.now a.payload.now a.handles.now a.address c.given_address-place.result block c.given_address-place.ensures same none ∙ sym c.block_refusal.ensures ∙ c.in_default-block_refusal.is, pointers)
