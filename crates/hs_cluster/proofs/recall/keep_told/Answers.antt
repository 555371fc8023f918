use Rattle.std.proofs.Common.{◌≡◌, ◌∙◌, ap, arith, subst}
use Rattle.hs_cluster.proofs.RecallLemmas.{keeps_pair}
use Rattle.hs_cluster.specs.Cached.{KeepsRead}
use Rattle.hs_core_words.specs.Looking.{front_of, home}
use Rattle.hs_limits.specs.declared.shape.Shape.{Shape}
use Rattle.hs_members.specs.Members.{home_of}
use Rattle.hs_cluster.proofs.recall.keep_told.Goals as goal

pub returns-then-number-front : goal.returns-then-number-front
returns-then-number-front c =
    let shard : c.home_of-shard.result ≡ home c.args.peer c.args.core.now = c.home_of-shard.ensures.home ∙ ap (λ (s : Shape). home_of s c.args.peer) c.shape.ensures.value in
    subst (λ k. KeepsRead k (front_of k c.args.core.now) c.args.told.now c.args.cache.now c.remember.new.cache) shard
    (keeps_pair c.home_of-shard.result (front_of c.home_of-shard.result c.args.core.now) c.in-Bytes.number _ c.args.told.now c.args.cache.now c.remember.new.cache c.in-Bytes.is (omega (arith, c.if-number-front.true, c.front.ensures)) c.remember.ensures)
