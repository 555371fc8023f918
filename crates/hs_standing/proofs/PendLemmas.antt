-- What is awaited so is awaited otherwise.
use Rattle.std.proofs.Common.{ℕ, inl, inr}
use Rattle.hs_entry.specs.declared.entry.Entry.{Entry}
use Rattle.hs_entry.specs.declared.entry.Entry.TheVariants as kind
use Rattle.hs_fold.specs.Shards.Outstanding.{MayPend}

pub pend_from : (One Other : ℕ → Type 0) → ((line : ℕ) → One line → Other line) → (entry : Entry) → MayPend One entry → MayPend Other entry
pend_from One Other f (kind.View view) p = p
pend_from One Other f (kind.Block line least bytes) p = f line p
pend_from One Other f (kind.Mark line least block address) p = f line p
pend_from One Other f (kind.Root line held address key) p = f line p
pend_from One Other f (kind.Drop line key) p = f line p
pend_from One Other f (kind.Enter line epoch) (inl none) = inl none
pend_from One Other f (kind.Enter line epoch) (inr p) = inr (f line p)
pend_from One Other f (kind.Got sender epoch round total deltas) p = p
pend_from One Other f (kind.Base view epoch swept round frames) p = p
pend_from One Other f (kind.KeptBlock born mark flags count bytes) p = p
pend_from One Other f (kind.KeptRoot created dropped counted address key) p = p
pend_from One Other f (kind.KeptRound way other epoch round total deltas) p = p
