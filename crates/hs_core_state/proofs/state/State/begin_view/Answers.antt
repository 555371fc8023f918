use Rattle.std.proofs.Common.{◌≡◌, ◌∙◌, sym, refl, arith, None}
use Rattle.std.proofs.lemmas.Grind.{common_steps}
use Rattle.hs_core_words.specs.State.{Core}
use Rattle.std.proofs.Common.{None, Some, subst}
use Rattle.hs_core_words.specs.Changing.{add_entry_tasks}
use Rattle.hs_core_state.specs.Anew.{group_anew}
use Rattle.hs_core_state.specs.Keeping.{IsCore}
use Rattle.hs_core_words.specs.Looking.{lead_of}
use Rattle.hs_entry.specs.declared.entry.Entry.TheVariants as kind
use Rattle.hs_members.specs.Members.{view_of}
use Rattle.hs_replica.specs.Group.{last_number}
use Rattle.hs_core_words.specs.Views.{begin_view}
use Rattle.hs_core_state.proofs.ViewLemmas.{begin_view_left}
use Rattle.hs_core_state.proofs.state.State.begin_view.Goals as goal

pub returns-in_default-clause-ok : goal.returns-in_default-clause-ok
returns-in_default-clause-ok c =
    let old : Core = c.args.self.now in
    let shard = c.args.shard in
    let mid : Core = c.tell_view.new.self in
    let is : IsCore old = subst (λ (x : Core). IsCore x) c.self.view_is c.self.invariant.kept in
    let lead : c.lead-lead.result ≡ lead_of shard old = c.lead-lead.ensures.value in
    let left = begin_view_left shard old mid c.lead-lead.result is c.requires c.in_ok-number.ensures.ok lead in
    let none : c.lead-lead.result ≡ None = grind (arith, common_steps) in
    sym (left ∙ rw none refl)

pub returns-in_ok-add_entry_tasks-clause-ok : goal.returns-in_ok-add_entry_tasks-clause-ok
returns-in_ok-add_entry_tasks-clause-ok c =
    let old : Core = c.args.self.now in
    let shard = c.args.shard in
    let mid : Core = c.tell_view.new.self in
    let is : IsCore old = subst (λ (x : Core). IsCore x) c.self.view_is c.self.invariant.kept in
    let lead : c.lead-lead.result ≡ lead_of shard old = c.lead-lead.ensures.value in
    let left = begin_view_left shard old mid c.lead-lead.result is c.requires c.in_ok-number.ensures.ok lead in
    let peer = c.in-Some.lead in
    let some : c.lead-lead.result ≡ Some peer = c.in-Some.is in
    let number : c.in_ok-number.number ≡ last_number (group_anew shard old) = c.in_ok-number.ensures.number in
    let view : c.view-view.result ≡ view_of shard old.members = grind (arith, common_steps) in
    let made : add_entry_tasks peer c.in_ok-number.number (kind.View c.view-view.result) mid ≡ add_entry_tasks peer (last_number (group_anew shard old)) (kind.View (view_of shard old.members)) mid = rw (number, view) refl in
    let begun : begin_view shard old ≡ add_entry_tasks peer (last_number (group_anew shard old)) (kind.View (view_of shard old.members)) mid = left ∙ rw some refl in
    c.in_ok-add_entry_tasks.ensures.ok ∙ made ∙ sym begun
