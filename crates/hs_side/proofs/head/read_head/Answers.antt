use Rattle.std.proofs.Common.{◌≡◌, ◌∙◌, ◌≤◌, ◌+◌, length, ap, arith, List, ℕ, take, drop, ◌++◌}
use Rattle.hs_side.proofs.HeadLemmas.{head_told, bytes_within}
use Rattle.hs_side.proofs.head.read_head.Goals as goal

pub returns-clause-exact : goal.returns-clause-exact
returns-clause-exact g c told =
    let disk = c.args.disk.now in
    let sized = g.met.D.Disk.sized told disk c.args.side in
    let seen = (g.D.Disk.stands disk).seen c.args.side in
    let held = c.fill.new.into.items in
    let long : 18 ≤ length seen = omega arith in
    let fill = c.in_ok-fill.ensures in
    let size : length held ≡ 17 = fill.len ∙ ap (λ (l : List ℕ). length l + 17) c.clear.ensures.items in
    let is : held ≡ take 17 seen = fill.value told ∙ ap (λ (l : List ℕ). l ++ take 17 (drop 0 seen)) c.clear.ensures.items in
    head_told c.head_in.result seen held long size is (bytes_within held (λ i low. omega (arith, c.type_inv.held i 0 low))) (rw c.deref.ensures.value at c.head_in.ensures)
