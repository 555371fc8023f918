use Rattle.std.proofs.Common.{◌≡◌, ◌-◌, ◌++◌, true, false, length, ap, ap₂, sym, ◌∙◌, subst, refl, Result, Ok, Err, OnOk, arith}
use Rattle.std.specs.Result.{is_err}
use Rattle.hs_rounds.specs.Rounds.{Run, changes_of, is_kept, received}
use Rattle.hs_rounds.specs.Steps.{is_open, moved}
use Rattle.hs_rounds.proofs.RunLemmas.{HasGot, below_received, got_is_run, received_here}
use Rattle.hs_rounds.proofs.run.Run.got_open.Goals as goal

on_ok : {X E P : Type 0} (r : Result X E) → is_err r ≡ false → OnOk r P → P
on_ok (Ok x) e h = h
on_ok (Err x) e h = cc

pub count_below-before-requires : goal.count_below-before-requires
count_below-before-requires c =
    let run : Run = record { shape = c.self.inside.shape; shard = c.self.inside.shard; opened = c.self.inside.opened; gots = c.self.inside.gots; sent = c.self.inside.sent.items } in
    let kept : is_kept c.args.place run ≡ true = subst (λ r. is_kept c.args.place r ≡ true) (sym c.self.view_is) c.requires.kept in
    let opened : is_open c.args.place run ≡ true = subst (λ r. is_open c.args.place r ≡ true) (sym c.self.view_is) c.requires.opened in
    let all : length c.self.inside.arrived.items ≡ length (received run) = ap length c.self.invariant.1 in
    omega (arith, below_received run c.args.place kept opened, all, c.self.inside.arrived.ok, c.self.inside.arrived.small)

pub move_last-requires : goal.move_last-requires
move_last-requires c =
    let run : Run = record { shape = c.self.inside.shape; shard = c.self.inside.shard; opened = c.self.inside.opened; gots = c.self.inside.gots; sent = c.self.inside.sent.items } in
    let kept : is_kept c.args.place run ≡ true = subst (λ r. is_kept c.args.place r ≡ true) (sym c.self.view_is) c.requires.kept in
    let opened : is_open c.args.place run ≡ true = subst (λ r. is_open c.args.place r ≡ true) (sym c.self.view_is) c.requires.opened in
    let all : length c.self.inside.arrived.items ≡ length (received run) = ap length c.self.invariant.1 in
    let len : c.self.inside.arrived.len ≡ length c.self.inside.arrived.items = c.self.inside.arrived.ok.0 in
    omega (arith, below_received run c.args.place kept opened, all, len, c.count_below-before.ensures, c.len.ensures, c.len-end.ensures, c.in_ok-extend_from_slice.ensures.len)

pub invariant_of-self-2 : goal.invariant_of-self-2
invariant_of-self-2 c =
    let run : Run = record { shape = c.self.inside.shape; shard = c.self.inside.shard; opened = c.self.inside.opened; gots = c.self.inside.gots; sent = c.self.inside.sent.items } in
    let kept : is_kept c.args.place run ≡ true = subst (λ r. is_kept c.args.place r ≡ true) (sym c.self.view_is) c.requires.kept in
    let opened : is_open c.args.place run ≡ true = subst (λ r. is_open c.args.place r ≡ true) (sym c.self.view_is) c.requires.opened in
    let has : HasGot c.args.place c.args.told c.self.inside.gots c.insert.new.self = on_ok c.insert.result (sym c.is_err.ensures.value ∙ c.if-is_err.false) c.insert.ensures.found in
    let more : c.len.result - c.len-end.result ≡ length c.args.told.deltas = let told : length c.as_slice.result.now ≡ length c.args.told.deltas = ap length c.as_slice.ensures in omega (arith, told, c.len.ensures, c.len-end.ensures, c.in_ok-extend_from_slice.ensures.len) in
    let items : c.extend_from_slice.new.self.items ≡ received run ++ c.args.told.deltas = c.in_ok-extend_from_slice.ensures.items ∙ ap₂ (λ old more. old ++ more) c.self.invariant.1 c.as_slice.ensures in
    let moves : c.move_last.new.changes.items ≡ moved (length (changes_of c.args.place.from c.args.place.epoch c.args.place.round c.self.inside.gots)) (length c.args.told.deltas) (received run ++ c.args.told.deltas) =
    c.move_last.ensures ∙ rw (c.count_below-before.ensures, more, items) refl in (
      got_is_run run c.args.place c.args.told c.insert.new.self c.self.invariant.0 kept c.requires.changes has,
      moves ∙ received_here run c.args.place c.args.told c.insert.new.self kept opened has,
    )
