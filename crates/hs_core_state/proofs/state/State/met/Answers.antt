use Rattle.std.proofs.Common.{ℕ, Bool, arith}
use Rattle.hs_awaiting.specs.Indexing.{passes, stores}
use Rattle.hs_core_words.specs.Looking.{group_of}
use Rattle.hs_core_state.specs.Waking.{stands}
use Rattle.hs_core_state.proofs.StoredLemmas.{both_there, none_below, none_further, none_left}
use Rattle.hs_core_state.proofs.state.State.met.Goals as goal

pub loop-block-init : goal.loop-block-init
loop-block-init c = λ n low found. absurd (omega (arith, low))

pub loop-block-preserved : goal.loop-block-preserved
loop-block-preserved c =
    let core = c.args.self.now in
    let p : ℕ → Bool = stands (group_of c.args.shard core).waiting in
    let q : ℕ → Bool = passes (stores c.args.what) core.operations in
    rw c.bounded-from.ensures.value
    (none_below p q c.loop-block.from c.loop-block.invariant c.in-Some.block c.in-Some-next_storing.line c.in-Some.ensures c.in-Some-next_storing.ensures)

pub loop-block-smaller : goal.loop-block-smaller
loop-block-smaller c =
    omega (arith, c.bounded-from.ensures.value, c.bounded-from.ensures.fits, c.in-Some.ensures.0, c.in-Some-next_storing.ensures.0, c.if-line-block.false)

pub returns-then-line-block : goal.returns-then-line-block
returns-then-line-block c =
    let core = c.args.self.now in
    let p : ℕ → Bool = stands (group_of c.args.shard core).waiting in
    let q : ℕ → Bool = passes (stores c.args.what) core.operations in
    both_there p q c.loop-block.from c.loop-block.invariant c.in-Some.block c.in-Some-next_storing.line c.in-Some.ensures c.in-Some-next_storing.ensures c.if-line-block.true

pub returns-in_default-next_storing : goal.returns-in_default-next_storing
returns-in_default-next_storing c =
    let core = c.args.self.now in
    let p : ℕ → Bool = stands (group_of c.args.shard core).waiting in
    let q : ℕ → Bool = passes (stores c.args.what) core.operations in
    none_further p q c.loop-block.from c.loop-block.invariant c.in-Some.block c.in-Some.ensures c.in_default-next_storing.ensures

pub returns : goal.returns
returns c =
    let core = c.args.self.now in
    let p : ℕ → Bool = stands (group_of c.args.shard core).waiting in
    let q : ℕ → Bool = passes (stores c.args.what) core.operations in
    none_left p q c.loop-block.from c.loop-block.invariant c.in_default.ensures
