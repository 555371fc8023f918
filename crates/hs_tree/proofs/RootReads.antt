-- What a key keeps stays with all below it, where nothing that is asked drops it.
use Rattle.std.proofs.Common.{◌≡◌, ℕ, List, [], ◌∷◌, Some, subst}
use Rattle.std.specs.List.{AllByRecursion}
use Rattle.hs_asking.proofs.RootLemmas.{root_stays}
use Rattle.hs_asking.proofs.SaneLemmas.{step_sane}
use Rattle.hs_asking.proofs.StayLemmas.{drift, stays-trans}
use Rattle.hs_asking.specs.Judged.{Drifts, IsInner, IsJudged}
use Rattle.hs_asking.specs.Seats.{IsSane}
use Rattle.hs_asking.specs.Staying.{NeverDrops, NotDropping, Stays}
use Rattle.hs_limits.specs.declared.limits.Limits.{Limits}
use Rattle.hs_model.specs.Judge.{judge}
use Rattle.hs_model.specs.Run.{Event, asks, enters, sweeps}
use Rattle.hs_model.specs.Store.{Root, Store, retained_at}
use Rattle.hs_model.specs.declared.op.Op.{Op}
use Rattle.hs_model.specs.declared.reply.Reply.{Reply}

inner_never : (key : List ℕ) (es : List Event) → AllByRecursion IsInner es → AllByRecursion (NeverDrops key) es
inner_never key [] h = tt
inner_never key (asks o ∷ es) h = absurd h.0
inner_never key (enters shard ∷ es) h = (tt, inner_never key es h.1)
inner_never key (sweeps shard ∷ es) h = (tt, inner_never key es h.1)

drifts_stay : (limits : Limits) (s t : Store) (key : List ℕ) (root : Root) → IsSane s → Drifts limits s t → retained_at s key ≡ Some root → (retained_at t key ≡ Some root) × Stays s t root.address
drifts_stay limits s t key root sane d kept =
    subst (λ z. (retained_at z key ≡ Some root) × Stays s z root.address) d.leaves (root_stays limits s d.events key root sane d.legal (inner_never key d.events d.inner) kept)

pub judged_stays : (limits : Limits) (s t : Store) (o : Op) (told : Reply) (key : List ℕ) (root : Root) → IsSane s → NotDropping key o → IsJudged limits s t o told → retained_at s key ≡ Some root → Stays s t root.address
judged_stays limits s t o told key root sane never j kept =
    let at : Store = j.at in
    let u : Store = (judge limits at o).store in
    let first = drifts_stay limits s at key root sane j.before kept in
    let there : IsSane at = (drift limits s at j.before sane).sane in
    let once = root_stays limits at (asks o ∷ []) key root there (tt, tt) (never, tt) first.0 in
    let last = drifts_stay limits u t key root (step_sane limits at (asks o) tt there) j.behind once.0 in
    stays-trans s at t root.address first.1 (stays-trans at u t root.address once.1 last.1)
