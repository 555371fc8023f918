-- What a store keeps under its keys stays, where nothing that is asked drops a key.
use Rattle.std.proofs.Common.{◌≡◌, ◌∙◌, ℕ, List, [], ◌∷◌, Some, refl}
use Rattle.hs_asking.proofs.RootLemmas.{root_stays}
use Rattle.hs_asking.proofs.SaneLemmas.{step_sane}
use Rattle.hs_asking.proofs.StayLemmas.{Drifted, drift, stays-refl, stays-trans}
use Rattle.hs_asking.specs.Judged.{IsJudged}
use Rattle.hs_asking.specs.Seats.{IsSane}
use Rattle.hs_asking.specs.Staying.{NotDropping, Stays, by_root}
use Rattle.hs_copy.specs.Listing.{KeepsItsOwn}
use Rattle.hs_limits.specs.declared.limits.Limits.{Limits}
use Rattle.hs_model.specs.Judge.{judge}
use Rattle.hs_model.specs.Run.{asks}
use Rattle.hs_model.specs.Store.{Root, Store, retained_at}
use Rattle.hs_model.specs.declared.op.Op.{Op}
use Rattle.hs_model.specs.declared.reply.Reply.{Reply}

pub own-refl : (s : Store) → KeepsItsOwn s s
own-refl s = record { roots = λ key root kept. kept; blocks = λ key root kept. stays-refl s root.address }

pub own-trans : (s t u : Store) → KeepsItsOwn s t → KeepsItsOwn t u → KeepsItsOwn s u
own-trans s t u h k = record {
  roots = λ key root kept. k.roots key root (h.roots key root kept);
  blocks = λ key root kept. stays-trans s t u root.address (h.blocks key root kept) (k.blocks key root (h.roots key root kept));
}

pub judged_own : (limits : Limits) (s t : Store) (o : Op) (told : Reply) → IsSane s → ((key : List ℕ) → NotDropping key o) → IsJudged limits s t o told → KeepsItsOwn s t × IsSane t
judged_own limits s t o told sane never j =
    (record { roots = λ key root kept. (both key root kept).0; blocks = λ key root kept. (both key root kept).1 }, (drift limits u t j.behind there).sane)
  where
    at : Store
    at = j.at

    u : Store
    u = (judge limits at o).store

    before : Drifted s at
    before = drift limits s at j.before sane

    there : IsSane u
    there = step_sane limits at (asks o) tt before.sane

    both : (key : List ℕ) (root : Root) → retained_at s key ≡ Some root → (retained_at t key ≡ Some root) × Stays s t root.address
    both key root kept =
        let once = root_stays limits at (asks o ∷ []) key root before.sane (tt, tt) (never key, tt) (before.retained key ∙ kept) in
        let behind : Drifted u t = drift limits u t j.behind there in
        (behind.retained key ∙ once.0, stays-trans s at t root.address (before.stays root.address (by_root key root kept refl)) (stays-trans at u t root.address once.1 (behind.stays root.address (by_root key root once.0 refl))))
