use Rattle.std.proofs.Common.{◌∙◌, ap, refl, sym, ◌++◌, List, ℕ, Some}
use Rattle.hs_events.proofs.AddressLemmas.{address_found}
use Rattle.hs_limits.specs.Block.{spell}
use Rattle.hs_limits.specs.declared.address.Address.{Address}
use Rattle.hs_events.proofs.asking.address_of.Goals as goal

pub returns-in-Ok : goal.returns-in-Ok
returns-in-Ok g c =
    let a = c.args in
    let name = g.A.Addresser.name a.naming.now in
    let pointers = c.as_slice.ensures ∙ c.in_ok-pointers.ensures.ok in
    let old = c.new-head.ensures.items in
    let bytes = ap (λ (xs : List ℕ). xs ++ a.payload.now) c.as_slice-in-Ok.ensures.value
    ∙ c.in-Ok.ensures.ok a.payload.now refl
    ∙ ap (λ (xs : List ℕ). xs ++ spell (record { pointers = c.as_slice.result.now; bytes = a.payload.now })) old
    ∙ ap (λ (ps : List Address). spell (record { pointers = ps; bytes = a.payload.now })) pointers in
    record {
      ok = ap (λ x. Some x) (c.address_of_parts.ensures ∙ ap name bytes)
          ∙ sym (address_found name a.core.now.sessions a.session.now a.payload.now a.handles.now (sym c.are_held.ensures ∙ c.if-not-are_held.false) c.if-handles-gt-MOST_POINTERS.false c.if-payload-gt-MOST_BYTES.false);
    }
