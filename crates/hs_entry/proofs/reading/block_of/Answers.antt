use Rattle.std.proofs.Common.{◌∙◌, ◌≤◌, Ok, List, ℕ, ap, drop, length, subst, sym}
use Rattle.hs_entry.specs.declared.entry.Entry.TheVariants.{Block}
use Rattle.hs_entry.specs.Reading.{block_at}
use Rattle.hs_entry.proofs.LentLemmas.{block_lent}
use Rattle.hs_entry.proofs.reading.block_of.Goals as goal

pub behind-bytes-requires : goal.behind-bytes-requires
behind-bytes-requires c =
    subst (λ (l : List ℕ). 16 ≤ length l) c.as_slice.ensures (block_lent c.args.whole c.in_ok-op.op c.in_ok-op.least _ _ c.in_ok-op.ensures).0

pub returns : goal.returns
returns c =
    let op = c.in_ok-op.op in
    let least = c.in_ok-op.least in
    let lent = block_lent c.args.whole op least _ _ c.in_ok-op.ensures in
    let there = c.behind-bytes.ensures ∙ ap (λ (l : List ℕ). drop 16 l) (sym c.as_slice.ensures) ∙ sym lent.1 in
    ap (block_at c.args.whole) (sym c.as_slice.ensures) ∙ c.in_ok-op.ensures ∙ ap (λ (l : List ℕ). Ok (Block op least l)) (sym there)
