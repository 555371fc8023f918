use Rattle.std.proofs.Common.{◌≡◌, ◌∙◌, arith, length, map, string_bytes, vec_len}
use Rattle.hydra.proofs.ShapeLemmas.{no_run_on, no_shape}
use Rattle.hydra.proofs.run.serve.Goals as goal

-- src/run.rt:80:1
pub returns-clause-only_usage : goal.returns-clause-only_usage
returns-clause-only_usage g c usage =
    let long : length c.in-Ok-disks_of.disks.items ≡ vec_len c.in-Ok-disks_of.disks = omega (arith, c.in-Ok-disks_of.disks.ok.0) in
    no_run_on _ (map (λ word. string_bytes word) c.args.words.now) c.in-Ok-disks_of.disks.items
    (long ∙ c.in-Ok-disks_of.ensures.count) (c.do_words-outcome.ensures.called.only_usage usage)

-- src/run.rt:80:1
pub returns-clause-usage : goal.returns-clause-usage
returns-clause-usage g c none other =
    (c.do_words-outcome.ensures.called.usage (no_shape (map (λ word. string_bytes word) c.args.words.now) _ none)).ending
