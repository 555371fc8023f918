use Rattle.std.proofs.Common.{◌≡◌, drop, fold, max}
use Rattle.hs_core_state.proofs.open_work.top_epoch.Given as goal

abbrev pub invariant-loop-catalogue : goal.invariant-loop-catalogue
invariant-loop-catalogue l =
    fold (λ top c. max top c.epoch) l.top (drop l.catalogue-index l.catalogues) ≡ fold (λ top c. max top c.epoch) 0 l.catalogues
