use Rattle.std.proofs.Common.{List, ℕ, subst}
use Rattle.hs_limits.proofs.FieldLemmas.{IsBytes}
use Rattle.hs_entry.proofs.EntryLemmas.{is_found, is_read}
use Rattle.hs_entry.proofs.reading.read_entry.Goals as goal

pub returns-clause-found : goal.returns-clause-found
returns-clause-found c =
    let fit : IsBytes c.args.bytes = subst (λ (l : List ℕ). IsBytes l) c.as_slice.ensures c.len_of-whole.ensures.each in
    is_found c.args.bytes c.entry_of.result fit c.entry_of.ensures

pub returns-clause-only : goal.returns-clause-only
returns-clause-only c = is_read c.args.bytes c.entry_of.result c.entry_of.ensures
