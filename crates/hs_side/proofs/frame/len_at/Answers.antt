use Rattle.std.proofs.Common.{◌≡◌, ◌∙◌, ◌+◌, ◌-◌, ◌++◌, length, length-drop, ap, sym, refl, arith, List, ℕ, take, drop}
use Rattle.std.proofs.Math.Seq.{take-length}
use Rattle.std.proofs.lemmas.List.{drop_at}
use Rattle.std.specs.Int.{w32, from_be_bytes}
use Rattle.hs_side.proofs.FrameLemmas.{payload_short, payload_long, payload_past}
use Rattle.hs_side.proofs.frame.len_at.Goals as goal

-- what was read behind what is held
field_is : (was : ℕ) (held given into four : List ℕ) → length held ≡ was → given ≡ into → into ≡ held ++ four → take (length given - was) (drop was given) ≡ four
field_is was held given into four len is more =
    ap (λ (n : ℕ). take n (drop was given)) (sym (length-drop was given)) ∙ take-length (drop was given)
    ∙ ap (λ (l : List ℕ). drop was l) (is ∙ more) ∙ drop_at held four was len

pub returns-then-size-at-lt5-clause-exact : goal.returns-then-size-at-lt5-clause-exact
returns-then-size-at-lt5-clause-exact g c told =
    let disk = c.args.disk.now in
    let seen = (g.D.Disk.stands disk).seen c.args.side in
    let sized = g.met.D.Disk.sized told disk c.args.side in
    (refl, payload_short (drop (c.args.at + 1) seen) (omega (arith, length-drop (c.args.at + 1) seen)))

pub returns-then-len-gt-MOST_PAYLOAD-clause-exact : goal.returns-then-len-gt-MOST_PAYLOAD-clause-exact
returns-then-len-gt-MOST_PAYLOAD-clause-exact g c told =
    let disk = c.args.disk.now in
    let seen = (g.D.Disk.stands disk).seen c.args.side in
    let sized = g.met.D.Disk.sized told disk c.args.side in
    let held = c.args.held.now in
    let was : length held.items ≡ c.len-was.result = omega (arith, c.len-was.ensures, held.ok.0) in
    let field = field_is c.len-was.result held.items c.deref.result.now c.fill.new.into.items (take 4 (drop (c.args.at + 1) seen)) was c.deref.ensures.value (c.in_ok-fill.ensures.value told) in
    let len : c.length_of-len.result ≡ from_be_bytes w32 (take 4 (drop (c.args.at + 1) seen)) = c.length_of-len.ensures.value ∙ ap (from_be_bytes w32) field in
    (refl, payload_long (drop (c.args.at + 1) seen) (omega (arith, length-drop (c.args.at + 1) seen)) (omega arith))

pub returns-then-size-at-clause-exact : goal.returns-then-size-at-clause-exact
returns-then-size-at-clause-exact g c told =
    let disk = c.args.disk.now in
    let seen = (g.D.Disk.stands disk).seen c.args.side in
    let sized = g.met.D.Disk.sized told disk c.args.side in
    let held = c.args.held.now in
    let was : length held.items ≡ c.len-was.result = omega (arith, c.len-was.ensures, held.ok.0) in
    let field = field_is c.len-was.result held.items c.deref.result.now c.fill.new.into.items (take 4 (drop (c.args.at + 1) seen)) was c.deref.ensures.value (c.in_ok-fill.ensures.value told) in
    let len : c.length_of-len.result ≡ from_be_bytes w32 (take 4 (drop (c.args.at + 1) seen)) = c.length_of-len.ensures.value ∙ ap (from_be_bytes w32) field in
    (refl, payload_past (drop (c.args.at + 1) seen) (omega (arith, length-drop (c.args.at + 1) seen)) (omega arith) (omega (arith, length-drop (c.args.at + 1) seen)))

pub returns-clause-exact : goal.returns-clause-exact
returns-clause-exact g c told =
    let disk = c.args.disk.now in
    let seen = (g.D.Disk.stands disk).seen c.args.side in
    let sized = g.met.D.Disk.sized told disk c.args.side in
    let held = c.args.held.now in
    let was : length held.items ≡ c.len-was.result = omega (arith, c.len-was.ensures, held.ok.0) in
    let field = field_is c.len-was.result held.items c.deref.result.now c.fill.new.into.items (take 4 (drop (c.args.at + 1) seen)) was c.deref.ensures.value (c.in_ok-fill.ensures.value told) in
    (c.length_of-len.ensures.back ∙ field, omega arith)
