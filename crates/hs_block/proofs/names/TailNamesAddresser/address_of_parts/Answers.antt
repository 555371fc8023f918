use Rattle.std.proofs.Common.{ℕ, drop, refl, ap, ◌∙◌}
use Rattle.std.proofs.lemmas.List.{take_rest}
use Rattle.hs_block.proofs.NamesLemmas.{tail_of_parts}
use Rattle.hs_block.proofs.names.TailNamesAddresser.address_of_parts.Goals as goal

pub returns : goal.returns
returns c =
    let a = c.args in
    let back = take_rest a.data.now c.saturating_sub.result ∙ ap (λ (n : ℕ). drop n a.data.now) c.saturating_sub.ensures in
    let front = take_rest a.head.now c.saturating_sub-2.result ∙ ap (λ (n : ℕ). drop n a.head.now) c.saturating_sub-2.ensures in
    let tail = c.behind_zeros.ensures ∙ tail_of_parts a.head.now a.data.now _ _ back front in
    rw tail refl
