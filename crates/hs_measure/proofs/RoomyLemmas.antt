-- Each event leaves the limit of the pool as it was.
use Rattle.std.proofs.Common.{◌≡◌, ◌∙◌, sym, ap, subst, refl, ℕ, ◌+◌, ◌==◌, ◌&&◌, Bool, true, false, cond, not, [], ◌∷◌, Option, Some, None, length, nat_lt}
use Rattle.hs_anatomy.proofs.EventLemmas.{does_acts}
use Rattle.hs_anatomy.proofs.SizeLemmas.{sizes_same}
use Rattle.hs_anatomy.proofs.StrokeLemmas.{strokes_of}
use Rattle.hs_anatomy.specs.Sizes.{Sizes}
use Rattle.hs_awaiting.specs.Words.{change_if}
use Rattle.hs_core_words.specs.declared.event.Event.{Event}
use Rattle.hs_core_words.specs.State.{Core}
use Rattle.hs_core_words.specs.Step.{do_event, end_event, keep_entries, line_of, refuse_entries, step}
use Rattle.hs_desk.specs.declared.fault.CoreFault.{CoreFault}
use Rattle.hs_events.specs.Course.{steps}
use Rattle.hs_events.specs.Due.{Events}
use Rattle.hs_moments.proofs.AloneEventLemmas.{begun, step_is}
use Rattle.hs_post.specs.Pool.{is_empty, restart_numbers}
use Rattle.hs_standing.proofs.LinesStepLemmas.{step_ended}

pub record Roomy (a b : Core) : Type 0 where
  pub limit : b.pool.limit ≡ a.pool.limit

roomy_same : (c : Core) → Roomy c c
roomy_same c = record { limit = refl }

roomy_both : (a b c : Core) → Roomy a b → Roomy b c → Roomy a c
roomy_both a b c p q = record { limit = q.limit ∙ p.limit }

roomy_do : (e : Event) (c : Core) → Roomy c (do_event e c)
roomy_do e c = record { limit = ap (λ (z : Sizes). z.limit) (sizes_same (do_event e c) (strokes_of (does_acts c e))) }

roomy_begun : (e : Event) (at : ℕ) (c : Core) → Roomy c (begun e at c)
roomy_begun e at c = go ((c.progress.event_line == 0 && not (line_of e == 0)) && is_empty c.pool)
  where
    go : (b : Bool) → Roomy c (record (begun e at c) { pool = change_if b restart_numbers c.pool })
    go true = record { limit = refl }
    go false = record { limit = refl }

roomy_ended : (c : Core) → Roomy c (end_event c)
roomy_ended c = go (nat_lt c.limits.ops (length c.journal + length c.entries))
  where
    go : (full : Bool) → Roomy c (cond full (refuse_entries c) (keep_entries c))
    go true = record { limit = refl }
    go false = record { limit = refl }

pub step_roomy : (e : Event) (at : ℕ) (c : Core) → Roomy c (step e at c)
step_roomy e at c = by_end c.ended refl
  where
    by_end : (o : Option CoreFault) → c.ended ≡ o → Roomy c (step e at c)
    by_end None going =
        subst (λ (x : Core). Roomy c x) (sym (step_is e at c going))
        (roomy_both c (begun e at c) (end_event (do_event e (begun e at c))) (roomy_begun e at c)
        (roomy_both (begun e at c) (do_event e (begun e at c)) (end_event (do_event e (begun e at c))) (roomy_do e (begun e at c)) (roomy_ended (do_event e (begun e at c)))))
    by_end (Some fault) over = subst (λ (x : Core). Roomy c x) (sym (step_ended e at c fault over)) (roomy_same c)

pub steps_roomy : (es : Events) (c : Core) → Roomy c (steps c es)
steps_roomy [] c = roomy_same c
steps_roomy (e ∷ es) c = roomy_both c (step e.0 e.1 c) (steps c (e ∷ es)) (step_roomy e.0 e.1 c) (steps_roomy es (step e.0 e.1 c))
