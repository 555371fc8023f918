-- Those that work, from their seats to the joins.
use Rattle.std.proofs.Common.{◌≡◌, ◌∙◌, sym, subst, ℕ, ◌+◌, ◌<◌, ◌≤◌, List, [], Option, Some, None, Result, length, get_or, refl, arith}
use Rattle.std.specs.Prelude.{All, replicate}
use Rattle.hs_desk.specs.declared.slip.Slip.{Slip}
use Rattle.hs_desk.specs.declared.token.Token.{Token}
use Rattle.hs_peerlog.specs.Lists.{IsReady, Keeping}
use Rattle.hs_ports.specs.declared.disk.Side.{Side}
use Rattle.hs_ports.specs.Disk.{Standing}
use Rattle.hs_taking.specs.Disks.{AreReady, DiskSeen, log_at, seen_as, seen_at}
use Rattle.hs_workers.specs.Elements.{CanBegin, HasCome}
use Rattle.hs_workers.specs.declared.element.Element.{Element}
use Rattle.hs_workers.specs.declared.element.Element.TheVariants as element
use Rattle.hs_load.specs.declared.gathering.Answered.{Answered}
use Rattle.hs_load.specs.declared.gathering.Returned.{Returned}
use Rattle.hs_load.specs.Seating.{AreAskers, AreBack, HasCameBack, IsSeated}
use Rattle.hs_load.specs.Team.{Task, fresh_slip, fresh_token}
use Rattle.hs_load.proofs.ListLemmas.{none_at}

pub all_none : {T : Type 0} (P : T → Type 0) → All P []
all_none P k d low = absurd (omega (arith, low))

pub askers_none : (task : Task) (n : ℕ) (told : List (Option Answered)) → told ≡ replicate n None → AreAskers task told
askers_none task n told is = subst (λ (xs : List (Option Answered)). AreAskers task xs) (sym is) (record { each = λ k a at. absurd (none_at n k a at) })

module _ {D : Type 0} (tells : Type 0) (size : D → Side → ℕ) (stands : D → Standing) (faults : D → ℕ) (slots : List (Option Keeping)) (disks : List DiskSeen) where
  pub back_none : (n : ℕ) (back : List (Option (Returned D))) → back ≡ replicate n None → AreBack tells size stands faults slots disks back
  back_none n back is = subst (λ (xs : List (Option (Returned D))). AreBack tells size stands faults slots disks xs) (sym is) (record { each = λ k r at. absurd (none_at n k r at) })

  module _ (now : ℕ) (task : Task) where
    -- each that is seated so may begin
    one_can_begin : AreReady tells slots disks → (e : Element Slip Token D) → IsSeated tells size stands faults slots disks now task e → CanBegin (λ seat. seat) (λ pass. pass) tells size stands e
    one_can_begin ready (element.Worker w) seated = (
      (λ i. (seated.0 i).fault),
      (λ i. (seated.0 i).work),
      subst (λ (d : DiskSeen). IsReady tells w.log (d.size w.log.log.side) d.stands) seated.3 (ready.each w.seat.peer w.log seated.2),
    )
    one_can_begin ready (element.Writer w) seated = ((λ i. (seated.1 i).fault), (λ i. (seated.1 i).asked), (λ i. (seated.1 i).session))
    one_can_begin ready (element.Deleter d) seated = ((λ i. (seated i).fault), (λ i. (seated i).asked))

    pub can_begin : AreReady tells slots disks → (elements : List (Element Slip Token D)) → All (IsSeated tells size stands faults slots disks now task) elements
        → All (CanBegin (λ seat. seat) (λ pass. pass) tells size stands) elements
    can_begin ready elements all k d low = one_can_begin ready (get_or elements k d) (all k d low)

    pub came_back : (olds news : List (Element Slip Token D)) → length news ≡ length olds → All (IsSeated tells size stands faults slots disks now task) olds
        → ((k : ℕ) (d : Element Slip Token D) → k < length olds → HasCome (λ seat. seat) (λ pass. pass) tells size stands faults task.name task.seed task.files (get_or olds k d) (get_or news k d))
        → All (HasCameBack tells size stands faults slots disks now task) news
    came_back olds news same all each k d low =
        let here : k < length olds = omega (arith, low, same) in
        record { old = get_or olds k d; seated = all k d here; came = each k d here }
