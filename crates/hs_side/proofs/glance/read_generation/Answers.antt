use Rattle.std.proofs.Common.{◌≡◌, ◌∙◌, ◌≤◌, length, ap, arith, List, ℕ, take, drop, ◌++◌, Some, None, if◌then◌else◌}
use Rattle.hs_ports.specs.Disk.{Standing, byte_at}
use Rattle.hs_side.specs.Reading.{is_open, generation_of}
use Rattle.hs_side.proofs.HeadLemmas.{generation_told}
use Rattle.hs_side.proofs.glance.read_generation.Goals as goal

pub returns-clause-value : goal.returns-clause-value
returns-clause-value g c told =
    let disk = c.args.disk.now in
    let sized = g.met.D.Disk.sized told disk c.args.side in
    let seen = (g.D.Disk.stands disk).seen c.args.side in
    let held = c.fill.new.into.items in
    let long : 18 ≤ length seen = omega (arith, c.if-size-lt18.false, c.in_ok-size.ensures.value, sized) in
    let is : held ≡ take 17 seen =
    c.in_ok-fill.ensures.value told
    ∙ ap (λ (l : List ℕ). l ++ take 17 (drop 0 ((g.D.Disk.stands c.len.new.self).seen c.args.side))) c.new-held.ensures.items
    ∙ ap (λ (d : Standing). take 17 (d.seen c.args.side)) (c.len.ensures.same told) in
    c.generation_in.ensures
    ∙ ap (λ bytes. if is_open (byte_at bytes 0) then Some (generation_of bytes) else None) c.deref.ensures.value
    ∙ generation_told seen held long is
