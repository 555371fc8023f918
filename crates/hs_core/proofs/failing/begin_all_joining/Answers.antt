use Rattle.std.proofs.Common.{◌≡◌, ◌∙◌, sym, ap, ℕ, ◌+◌, ◌-◌, ◌<◌, Bool, arith}
use Rattle.hs_awaiting.specs.Words.{change_if}
use Rattle.hs_core_words.specs.Joining.{begin_joining}
use Rattle.hs_core_words.specs.Looking.{status_of}
use Rattle.hs_core_words.specs.State.{Core}
use Rattle.hs_core.proofs.JoiningLemmas.{each_from, each_from_next, members_if}
use Rattle.hs_core.proofs.KeptLemmas.{kept_then}
use Rattle.hs_limits.specs.declared.shape.Shape.{Shape}
use Rattle.hs_limits.specs.Shape.{peer_of}
use Rattle.hs_members.specs.Members.{Members, is_joining, status}
use Rattle.hs_core.proofs.failing.begin_all_joining.Goals as goal

pub loop-copy-preserved : goal.loop-copy-preserved
loop-copy-preserved c =
    let old : Core = c.args.core.now in
    let mid : Core = c.loop-copy.core in
    let new : Core = c.begin_if_joining.new.core in
    let shape : Shape = old.members.shape in
    let first : ℕ = peer_of shape c.args.shard 0 in
    let copy : ℕ = c.loop-copy.copy in
    let test : ℕ → Bool = λ peer. is_joining (status_of peer old) in
    let peer : ℕ = c.peer_of.result in
    let at : peer ≡ first + copy = c.peer_of.ensures ∙ ap (λ (s : Shape). peer_of s c.args.shard copy) c.shape-shape.ensures.value ∙ omega arith in
    let same : mid.members ≡ old.members = c.loop-copy.invariant.members in
    let ok : new ≡ change_if (is_joining (status_of peer mid)) (begin_joining peer) mid = c.begin_if_joining.ensures.ok in
    let tested : new ≡ change_if (test peer) (begin_joining peer) mid = ok ∙ ap (λ (m : Members). change_if (is_joining (status peer m)) (begin_joining peer) mid) same in
    let made : new ≡ change_if (test (first + copy)) (begin_joining (first + copy)) mid = tested ∙ ap (λ p. change_if (test p) (begin_joining p) mid) at in
    let copies : c.shape-shape.result.copies ≡ shape.copies = ap (λ (s : Shape). s.copies) c.shape-shape.ensures.value in
    let less : copy < shape.copies = omega (arith, c.loop-copy-test.true, copies) in
    let next = each_from_next test begin_joining first copy shape.copies mid less in
    record {
      kept = kept_then old mid new c.loop-copy.invariant.kept c.begin_if_joining.ensures.kept;
      members = ap (λ (x : Core). x.members) ok ∙ members_if (is_joining (status_of peer mid)) peer mid ∙ same;
      begun = ap (λ x. each_from test begin_joining (first + (copy + 1)) (shape.copies - (copy + 1)) x) made ∙ sym next ∙ c.loop-copy.invariant.begun;
    }
