use Rattle.std.proofs.Common.{◌≡◌, ℕ, Bool, List, ◌++◌, Option, bytes_eq, ◌&&◌, refl, sym, ap, ◌∙◌, Bor}
use Rattle.std.specs.Cmp.Lexicographic.{pointwise}
use Rattle.std.specs.Option.{option_map}
use Rattle.hs_limits.specs.Block.{Block, spell}
use Rattle.hs_limits.specs.declared.address.Address.{Address}
use Rattle.hs_ops.specs.Speaking.{asked_block}
use Rattle.hs_ops.proofs.BlockLemmas.{asked_is, same_is}
use Rattle.hs_ops.proofs.view.OpView.is_same_block.Goals as goal
use Rattle.hs_ops.proofs.view.OpView.is_same_block.Goals.{then-are_joined, else-are_joined}

pub returns : goal.returns
returns c =
    let a = c.args in
    let asked : List Address = c.as_slice-asked.result.now in
    let given : List Address = a.report.now.pointers.now in
    let block : Block = record { pointers = asked; bytes = a.payload.now } in
    let is_asked : block ≡ asked_block a.self.now.seats a.session.now a.payload.now a.handles.now =
    rw (← c.self.view_is) (asked_is c.self.inside.sessions a.session.now a.payload.now a.handles.now asked (c.as_slice-asked.ensures ∙ c.in_ok-pointers.ensures)) in
    let spelled = ap (λ (xs : List ℕ). xs ++ a.payload.now) c.as_slice-2.ensures.value
    ∙ c.in_ok-head.ensures a.payload.now refl
    ∙ ap (λ (ps : List Address). spell (record { pointers = ps; bytes = a.payload.now })) (c.as_slice.ensures ∙ sym c.as_slice-asked.ensures) in
    let joined = c.are_joined.ensures ∙ ap (λ (xs : List ℕ). bytes_eq (c.as_slice-2.result.now ++ a.payload.now) xs) c.as_slice-3.ensures in
    let told = ap (λ (o : Option (Bor (List ℕ))). option_map (λ told. told.now) o) c.in-Some.is in
    let same : c.if-are_joined.result ≡ (c.are_joined.result && pointwise (λ p q. bytes_eq p.0 q.0) asked given) =
    elim c.if-are_joined.branch [
      | then-are_joined w ↦ w.result-is ∙ w.eq.ensures ∙ ap (λ (b : Bool). b && pointwise (λ p q. bytes_eq p.0 q.0) asked given) (sym w.if-are_joined.true)
      | else-are_joined w ↦ w.result-is ∙ w.if-are_joined.false ∙ ap (λ (b : Bool). b && pointwise (λ p q. bytes_eq p.0 q.0) asked given) (sym w.if-are_joined.false)
    ] in
    same_is block _ c.are_joined.result c.if-are_joined.result _ c.in-Some.bytes.now given _ is_asked told spelled joined same
