use Rattle.std.proofs.Common.{◌≡◌, ◌∙◌, ap, refl}
use Rattle.hs_core_state.specs.Anew.{with_lists}
use Rattle.hs_core_words.specs.Opening.{begin_views, new_core, note_down}
use Rattle.hs_core_words.specs.State.{Core}
use Rattle.hs_core_words.specs.Step.{end_event}
use Rattle.hs_members.specs.Members.{Members}
use Rattle.hs_core_state.proofs.opening.open_lists.Goals as goal

pub returns : goal.returns
returns c taken same taken_lists =
    let a = c.args in
    let before : Core = new_core a.shape a.limits taken a.moment in
    let shape : c.begin_views.new.self.members.shape ≡ a.shape = ap (λ (m : Members). m.shape) c.in_ok-begin_views.ensures.members ∙ c.requires.shape in
    let made : c.in_ok-core.core ≡ with_lists c.begin_views.new.self before = c.in_ok-core.ensures a.shape taken shape same in
    let begun : with_lists c.begin_views.new.self before ≡ begin_views (with_lists a.lists before) = c.in_ok-begin_views.ensures.ok before refl in
    let first : begin_views (with_lists a.lists before) ≡ begin_views before = ap begin_views taken_lists in
    c.in_ok-end_event.ensures.ok ∙ ap end_event (c.in_ok-note_down.ensures ∙ ap note_down (made ∙ begun ∙ first))
