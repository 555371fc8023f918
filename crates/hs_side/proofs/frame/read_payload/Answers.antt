use Rattle.std.proofs.Common.{◌≡◌, ◌∙◌, ◌+◌, ◌++◌, length, length-drop, ap, refl, subst, sym, arith, List, ℕ, take, drop}
use Rattle.std.proofs.lemmas.List.{drop-drop, drop_at, take-append-drop}
use Rattle.hs_ports.specs.Disk.{Standing}
use Rattle.hs_side.specs.Spelling.{body}
use Rattle.hs_side.proofs.FrameLemmas.{payload_is}
use Rattle.hs_side.proofs.frame.read_payload.Goals as goal

-- the places behind a gate
there : (at : ℕ) (seen : List ℕ) → drop (at + 5) seen ≡ drop 4 (drop (at + 1) seen)
there at seen = sym (drop-drop 4 (at + 1) seen ∙ ap (λ (n : ℕ). drop n seen) (omega arith))

past : (at n : ℕ) (seen : List ℕ) → drop (4 + n) (drop (at + 1) seen) ≡ drop (at + 5 + n) seen
past at n seen = drop-drop (4 + n) (at + 1) seen ∙ ap (λ (m : ℕ). drop m seen) (omega arith)

-- what stands behind what was held
behind : (held held' into more : List ℕ) → held' ≡ held → into ≡ held' ++ more → drop (length held) into ≡ more
behind held held' into more same is =
    ap (λ (l : List ℕ). drop (length held) l) (is ∙ ap (λ (l : List ℕ). l ++ more) same) ∙ drop_at held more (length held) refl

pub returns-clause-exact : goal.returns-clause-exact
returns-clause-exact g c told =
    let side = c.args.side in
    let seen = (g.D.Disk.stands c.args.disk.now).seen side in
    let at = c.args.at in
    let len = c.in-Ok.len in
    let bytes = drop (at + 1) seen in
    let fits = c.in-Ok.ensures.exact told in
    let payload = drop (length c.args.held.now.items) c.fill.new.into.items in
    let after : (g.D.Disk.stands c.len_at.new.disk).seen side ≡ seen = ap (λ (d : Standing). d.seen side) (c.len_at.ensures.same told) in
    let held : payload ≡ take len (drop 4 bytes) =
    behind c.args.held.now.items c.len_at.new.held.items c.fill.new.into.items _ c.len_at.ensures.held (c.in_ok-fill.ensures.value told)
    ∙ ap (λ (l : List ℕ). take len (drop (at + 5) l)) after ∙ ap (λ (l : List ℕ). take len l) (there at seen) in
    payload_is bytes payload len (omega (arith, length-drop (at + 1) seen, fits.1)) fits.0 (omega (arith, length-drop (at + 1) seen, fits.1)) held
    ∙ ap (λ (l : List ℕ). body payload ++ l) (past at (length payload) seen)

pub returns-clause-more : goal.returns-clause-more
returns-clause-more g c =
    let old = c.args.held.now.items in
    let new = c.fill.new.into.items in
    let front : take (length old) new ≡ old = subst (λ (l : List ℕ). take (length l) new ≡ l) c.len_at.ensures.held c.fill.ensures.front in
    sym (take-append-drop (length old) new) ∙ ap (λ (l : List ℕ). l ++ drop (length old) new) front
