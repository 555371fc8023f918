-- As a core opens: what its sessions and shards keep has addresses of 32 bytes, and no Mark waits.
use Rattle.std.proofs.Common.{List, Some, ap, false, inl, inr, slice_get, subst, sym, ℕ, ◌∙◌, ◌≡◌, ◌⊎◌}
use Rattle.std.specs.List.{AllByRecursion}
use Rattle.hs_fold.specs.Runs.Fits.{catalogue_at}
use Rattle.hs_ops.specs.Operations.{Operation}
use Rattle.hs_effects.proofs.ViewLemmas.{at_cut}
use Rattle.hs_effects.proofs.GroupLemmas.{group_changed}
use Rattle.hs_standing.proofs.AgainLemmas.{Was, was}
use Rattle.hs_core_words.specs.Changing.{change_group, post, set_viewed}
use Rattle.hs_core_words.specs.Looking.{group_of}
use Rattle.hs_core_words.specs.Opening.{Taken, new_core}
use Rattle.hs_core_words.specs.State.{Core}
use Rattle.hs_core_words.specs.Views.{begin_view, restart}
use Rattle.hs_entry.specs.declared.entry.Entry.TheVariants as kind
use Rattle.hs_fold.specs.Runs.Facts.{Catalogue as Folded}
use Rattle.hs_standing.specs.Held.{AreAddressed, AreWritten, IsOfWrite, KeepsAddresses}
use Rattle.hs_standing.proofs.HeldHeldLemmas.{proposed_held}
use Rattle.hs_standing.proofs.WrittenLemmas.{proposed_written}
use Rattle.hs_limits.specs.declared.limits.Limits.{Limits}
use Rattle.hs_limits.specs.declared.shape.Shape.{Shape}
use Rattle.hs_members.specs.Members.{view_of}
use Rattle.hs_replica.specs.Group.{Group, last_number, renew, renewal}

pub held_new : (shape : Shape) (limits : Limits) (found : Taken) (moment : ℕ) → AllByRecursion KeepsAddresses found.catalogues → AreAddressed (new_core shape limits found moment)
held_new shape limits found moment h = record { sessions = tt; catalogues = h }

pub written_new : (cs : List Folded) (shape : Shape) (limits : Limits) (found : Taken) (moment : ℕ) → AreWritten (new_core shape limits found moment) cs
written_new cs shape limits found moment shard place line least number a w at of = absurd (cc of)

module _ (shard : ℕ) (c : Core) where
  -- all copies are told of the view, and operations start again
  abbrev again : Core
  again = restart shard (change_group shard (renew c.members) (set_viewed shard false c))

  -- each good peer is sent what it lacks
  abbrev posted : Core
  posted = post (renewal (group_of shard again)) again

  pub held_opens : AreAddressed c → AreAddressed (begin_view shard c)
  held_opens its = proposed_held shard (kind.View (view_of shard posted.members)) posted (record { sessions = its.sessions; catalogues = its.catalogues })

  -- each Mark that waits still is of the same write
  kept_written : (cs : List Folded) → AreWritten c cs → AreWritten posted cs
  kept_written cs its g place line least number a w at of =
      let last : ℕ = last_number (group_of shard (change_group shard (renew c.members) (set_viewed shard false c))) in
      let u : Was (change_group shard (renew c.members) (set_viewed shard false c)) line w = was shard last (change_group shard (renew c.members) (set_viewed shard false c)) line w of in
      subst (λ (o : Operation). IsOfWrite c.sessions o.op (catalogue_at cs g) number a) u.same (its g place line least number a u.waiting (there (group_changed shard (renew c.members) (set_viewed shard false c) g)) u.at)
    where
      there : (group_of g (change_group shard (renew c.members) (set_viewed shard false c)) ≡ group_of g c) ⊎ ((g ≡ shard) × (group_of g (change_group shard (renew c.members) (set_viewed shard false c)) ≡ renew c.members (group_of shard c)))
          → slice_get (group_of g c).waiting place ≡ Some (kind.Mark line least number a)
      there (inl same) = ap (λ (x : Group). slice_get x.waiting place) (sym same) ∙ at
      there (inr is) =
          ap (λ k. slice_get (group_of k c).waiting place) is.0
          ∙ at_cut _ (group_of shard c).waiting place (kind.Mark line least number a) (ap (λ (x : Group). slice_get x.waiting place) (sym is.1) ∙ at)

  pub written_opens : (cs : List Folded) → AreWritten c cs → AreWritten (begin_view shard c) cs
  written_opens cs its = proposed_written shard (kind.View (view_of shard posted.members)) posted cs (λ line least number m w is at. absurd (cc is)) (kept_written cs its)
