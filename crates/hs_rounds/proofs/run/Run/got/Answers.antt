use Rattle.std.proofs.Common.{◌≡◌, true, false, sym, ◌∙◌, subst}
use Rattle.hs_rounds.specs.declared.body.RoundBody.{RoundBody}
use Rattle.hs_rounds.specs.declared.place.Place.{Place}
use Rattle.hs_rounds.specs.Changes.{AreChanges}
use Rattle.hs_rounds.specs.Rounds.{Run, is_kept}
use Rattle.hs_rounds.specs.Steps.{is_open}
use Rattle.hs_rounds.proofs.RunLemmas.{got_is_run, received_elsewhere}
use Rattle.hs_rounds.proofs.run.Run.got.Goals as goal

pub invariant_of-self-2 : goal.invariant_of-self-2
invariant_of-self-2 c =
    let run : Run = record { shape = c.self.inside.shape; shard = c.self.inside.shard; opened = c.self.inside.opened; gots = c.self.inside.gots; sent = c.self.inside.sent.items } in
    let place : Place = record { epoch = c.args.epoch; round = c.args.round; from = c.args.from } in
    let told : RoundBody = record { total = c.args.total; deltas = c.from_vec.result } in
    let kept : is_kept place run ≡ true = subst (λ r. is_kept place r ≡ true) (sym c.self.view_is) (sym c.is_kept.ensures ∙ c.if-not-is_kept.false) in
    let apart : is_open place run ≡ false = subst (λ r. is_open place r ≡ false) (sym c.self.view_is) (sym c.is_open.ensures ∙ c.if-is_open.false) in (
      got_is_run run place told c.insert.new.self c.self.invariant.0 kept (subst AreChanges (sym c.from_vec.ensures) c.requires) c.in_ok-insert.ensures.found,
      c.self.invariant.1 ∙ sym (received_elsewhere run place told c.insert.new.self apart c.in_ok-insert.ensures.found),
    )
