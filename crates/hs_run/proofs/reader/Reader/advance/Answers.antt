use Rattle.std.proofs.Common.{◌≡◌, ℕ, ◌-◌, List, length, drop, ap, ◌∙◌, arith, length-drop}
use Rattle.hs_ports.specs.Source.{before}
use Rattle.hs_run.proofs.LinesLemmas.{next_held, next_gathered, last_gathered}
use Rattle.hs_run.proofs.SpendsLemmas.{spends_held, spends_last, nothing_pending, no_lines, none_held}
use Rattle.hs_run.proofs.reader.Reader.advance.Goals as goal

-- a line feed was held
pub returns-in-Some-clause-read : goal.returns-in-Some-clause-read
returns-in-Some-clause-read g c = next_held _ _ _ _ (rw c.as_slice.ensures.value at c.in-Some.ensures.found)

-- one was gathered
pub returns-in-Some-gathered-clause-read : goal.returns-in-Some-gathered-clause-read
returns-in-Some-gathered-clause-read g c =
    let gathered = rw c.in-Some-gathered.is at c.in_ok-gathered.ensures.gathered in
    next_gathered _ _ _ _ _ (gathered.0.stream ∙ ap (λ (held : List ℕ). before held (g.S.Source.left c.args.source.now)) c.in_ok-compact.ensures.held) gathered.1

-- the input ended
pub returns-in-None-clause-read : goal.returns-in-None-clause-read
returns-in-None-clause-read g c =
    let gathered = rw c.in-None.is at c.in_ok-gathered.ensures.gathered in
    let stream = gathered.0.stream ∙ ap (λ (held : List ℕ). before held (g.S.Source.left c.args.source.now)) c.in_ok-compact.ensures.held in
    let end : c.len-self.result ≡ length c.gather.new.buffer.items = omega (arith, c.len-self.ensures, c.gather.new.buffer.ok) in
    rw end (last_gathered _ _ _ _ stream gathered.1 gathered.2)

pub returns-in-Some-clause-spends : goal.returns-in-Some-clause-spends
returns-in-Some-clause-spends g c =
    let found = rw c.as_slice.ensures.value at c.in-Some.ensures.found in
    spends_held _ _ _ _ _ _ _ _ found (omega (arith, found.within, found.from_on)) (omega (arith, found.within, found.from_on))

-- the input had ended
pub returns-then-self-clause-read : goal.returns-then-self-clause-read
returns-then-self-clause-read g c = no_lines _ (c.requires c.if-self.true)

pub gather-requires : goal.gather-requires
gather-requires g c = λ k low lt.
    let none = none_held _ _ (rw c.as_slice.ensures.value at c.in_default.ensures.none) in
    let held = c.in_ok-compact.ensures.held in
    let long : length c.compact.new.self.buffer.items ≡ length (drop c.args.self.now.rest c.args.self.now.buffer.items) = ap length held in
    rw held (none k low (omega (arith, c.compact.new.self.buffer.ok, long)))

pub returns-in-Some-gathered-clause-spends : goal.returns-in-Some-gathered-clause-spends
returns-in-Some-gathered-clause-spends g c =
    let gathered = rw c.in-Some-gathered.is at c.in_ok-gathered.ensures.gathered in
    let held = c.in_ok-compact.ensures.held in
    let stream = gathered.0.stream ∙ ap (λ (h : List ℕ). before h (g.S.Source.left c.args.source.now)) held in
    let long : length c.compact.new.self.buffer.items ≡ length c.args.self.now.buffer.items - c.args.self.now.rest = ap length held ∙ length-drop c.args.self.now.rest c.args.self.now.buffer.items in
    let spent = gathered.0.spent in
    let found = gathered.1 in
    let within = found.within in
    let same = c.in_ok-compact.ensures.same.0 in
    rw (← stream) (spends_held _ _ 0 _ _ _ _ _ found (omega (arith, long, spent, within, same)) (omega (arith, long, spent, within, same)))

pub returns-in-None-clause-spends : goal.returns-in-None-clause-spends
returns-in-None-clause-spends g c =
    let gathered = rw c.in-None.is at c.in_ok-gathered.ensures.gathered in
    let held = c.in_ok-compact.ensures.held in
    let stream = gathered.0.stream ∙ ap (λ (h : List ℕ). before h (g.S.Source.left c.args.source.now)) held in
    let long : length c.compact.new.self.buffer.items ≡ length c.args.self.now.buffer.items - c.args.self.now.rest = ap length held ∙ length-drop c.args.self.now.rest c.args.self.now.buffer.items in
    let end : c.len-self.result ≡ length c.gather.new.buffer.items = omega (arith, c.len-self.ensures, c.gather.new.buffer.ok) in
    let spent = gathered.0.spent in
    let same = c.in_ok-compact.ensures.same.0 in
    rw (← stream, end) (spends_last _ _ _ _ _ gathered.2 (omega (arith, long, spent, same)) (omega (arith, long, spent, same)))

pub returns-in-None-clause-ended : goal.returns-in-None-clause-ended
returns-in-None-clause-ended g c is =
    let gathered = rw c.in-None.is at c.in_ok-gathered.ensures.gathered in
    let end : c.len-self.result ≡ length c.gather.new.buffer.items = omega (arith, c.len-self.ensures, c.gather.new.buffer.ok) in
    rw end (nothing_pending c.gather.new.buffer.items _ gathered.2)
