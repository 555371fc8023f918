-- The last line of a core after an event, and cores that have ended.
use Rattle.std.proofs.Common.{◌≡◌, ◌⊎◌, inl, inr, ◌∙◌, ap, sym, ℕ, ◌≤◌, ◌==◌, false, Option, Some, None, refl, is_none, arith}
use Rattle.std.proofs.lemmas.Bool.{cases_eq}
use Rattle.std.proofs.lemmas.Bool.Decides.{nat_tests}
use Rattle.std.specs.Prelude.{if◌then◌else◌}
use Rattle.hs_awaiting.specs.Words.{change_if}
use Rattle.hs_core_words.specs.declared.event.Event.{Event}
use Rattle.hs_core_words.specs.State.{Core}
use Rattle.hs_core_words.specs.Step.{begin_event, do_event, line_of, run_event, step}
use Rattle.hs_desk.specs.declared.fault.CoreFault.{CoreFault}
use Rattle.hs_events.proofs.FrameLemmas.{Frame, ended_same, frame_done}

-- a core that has ended stays as it is
pub step_ended : (e : Event) (at : ℕ) (c : Core) (f : CoreFault) → c.ended ≡ Some f → step e at c ≡ c
step_ended e at c f h = let over : is_none c.ended ≡ false = ap is_none h in rw over refl

pub step_line : (e : Event) (at : ℕ) (c : Core) → c.ended ≡ None → (step e at c).progress.event_line ≡ (if line_of e == 0 then c.progress.event_line else line_of e)
step_line e at c going =
    ap (λ o. (change_if (is_none o) (run_event e at) c).progress.event_line) going
    ∙ ended_same (λ (x : Core). x.progress.event_line) (do_event e (begin_event (line_of e) at c)) refl refl ∙ ap (λ (f : Frame). f.event_line) (frame_done e at c)

-- one that goes on after an event went on before it
pub went : (e : Event) (at : ℕ) (c : Core) → (step e at c).ended ≡ None → c.ended ≡ None
went e at c h = go c.ended refl
  where
    go : (x : Option CoreFault) → c.ended ≡ x → c.ended ≡ None
    go None f = f
    go (Some fault) f =
        let over : Some fault ≡ None = sym f ∙ ap (λ (d : Core). d.ended) (sym (step_ended e at c fault f)) ∙ h in
        absurd (cc over)

-- a line that is not 0 is then the last one
pub step_at : (e : Event) (at line : ℕ) (c : Core) → c.ended ≡ None → line_of e ≡ line → 1 ≤ line → (step e at c).progress.event_line ≡ line
step_at e at line c going same low =
    let some : (line == 0) ≡ false = grind (arith, nat_tests, low) in
    step_line e at c going ∙ ap (λ n. if n == 0 then c.progress.event_line else n) same ∙ rw some refl

-- an event of no line, or of this one, leaves the last line or makes it this one
pub step_moves : (e : Event) (at line : ℕ) (c : Core) → (line_of e ≡ 0) ⊎ (line_of e ≡ line) → ((step e at c).progress.event_line ≡ c.progress.event_line) ⊎ ((step e at c).progress.event_line ≡ line)
step_moves e at line c of = go c.ended refl
  where
    by_line : c.ended ≡ None → (line_of e ≡ 0) ⊎ (line_of e ≡ line) → ((step e at c).progress.event_line ≡ c.progress.event_line) ⊎ ((step e at c).progress.event_line ≡ line)
    by_line going (inl zero) = inl (step_line e at c going ∙ ap (λ n. if n == 0 then c.progress.event_line else n) zero)
    by_line going (inr same) = elim (cases_eq line 0) [
      | inl z ↦ inl (step_line e at c going ∙ ap (λ n. if n == 0 then c.progress.event_line else n) (same ∙ z))
      | inr d ↦ inr (step_at e at line c going same (omega (arith, d)))
    ]

    go : (x : Option CoreFault) → c.ended ≡ x → ((step e at c).progress.event_line ≡ c.progress.event_line) ⊎ ((step e at c).progress.event_line ≡ line)
    go None f = by_line f of
    go (Some fault) f = inl (ap (λ (d : Core). d.progress.event_line) (step_ended e at c fault f))
