use Rattle.std.proofs.Common.{◌∙◌, ◌++◌, List, ℕ, ap, sym, append_assoc}
use Rattle.std.specs.List.{flat_map, range_with_len}
use Rattle.hs_audit.proofs.RangeLemmas.{flat_more}
use Rattle.hs_audit.specs.Text.{shard_line}
use Rattle.hs_model.specs.Plain.{plain_of}
use Rattle.hs_audit.proofs.reporting.report_shards.Goals as goal

pub loop-shard-preserved : goal.loop-shard-preserved
loop-shard-preserved c =
    let line : ℕ → List ℕ = shard_line (plain_of c.args.store.now) in
    c.in_ok-report_shard.ensures
    ∙ ap (λ (z : List ℕ). z ++ line c.loop-shard.shard) c.loop-shard.invariant
    ∙ append_assoc c.args.text.now.items (flat_map line (range_with_len 0 c.loop-shard.shard)) (line c.loop-shard.shard)
    ∙ ap (λ (z : List ℕ). c.args.text.now.items ++ z) (sym (flat_more line c.loop-shard.shard))
