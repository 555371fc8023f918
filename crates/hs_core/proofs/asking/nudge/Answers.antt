use Rattle.std.proofs.Common.{◌≡◌, ◌∙◌, ap, subst, ℕ, OnOk}
use Rattle.hs_awaiting.specs.Words.{change_if}
use Rattle.hs_core_words.specs.Asking.{nudge, send_rounds}
use Rattle.hs_core_words.specs.Changing.{post}
use Rattle.hs_core_words.specs.Entering.{propose_due}
use Rattle.hs_core_words.specs.Looking.{group_of, home, lead_of}
use Rattle.hs_core_words.specs.State.{Core}
use Rattle.hs_limits.specs.declared.shape.Shape.{Shape}
use Rattle.hs_members.specs.Members.{home_of}
use Rattle.hs_replica.specs.Group.{is_peer, resend}
use Rattle.hs_core.proofs.asking.nudge.Goals as goal

pub returns-clause-ok : goal.returns-clause-ok
returns-clause-ok c =
    let peer : ℕ = c.args.peer in
    let old : Core = c.args.core.now in
    let mid : Core = c.nudge_lead.new.core in
    let at : home peer mid ≡ home peer old = ap (λ (s : Shape). home_of s peer) c.in_ok-nudge_lead.ensures.kept.shape in
    let led : mid ≡ change_if (is_peer peer (lead_of (home peer old) old)) (λ core. send_rounds (home peer old) (propose_due (home peer old) core)) old =
    c.in_ok-nudge_lead.ensures.ok ∙ ap (λ s. change_if (is_peer peer (lead_of s old)) (λ core. send_rounds s (propose_due s core)) old) c.home-shard.ensures.home in
    let made : post (resend peer (group_of (home peer mid) mid)) mid ≡ nudge peer old =
    ap (λ s. post (resend peer (group_of s mid)) mid) at ∙ ap (λ (x : Core). post (resend peer (group_of (home peer old) x)) x) led in
    subst (λ (x : Core). OnOk c.resend.result (c.resend.new.self ≡ x)) made c.resend.ensures.ok
