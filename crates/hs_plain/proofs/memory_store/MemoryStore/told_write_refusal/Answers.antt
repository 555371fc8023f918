use Rattle.std.proofs.Common.{◌≡◌, ◌∙◌, ◌∷◌, [], ap, arith, sym, true, false}
use Rattle.std.proofs.lemmas.Grind.{common_steps}
use Rattle.hs_model.specs.declared.reply.Reply.TheVariants as reply
use Rattle.hs_model.specs.Judge.{given_address}
use Rattle.hs_model.specs.Refusals.{first, refused_when, shard_full}
use Rattle.hs_plain.proofs.FirstLemmas.{first_one, told_of_block, told_of_session}
use Rattle.hs_plain.proofs.memory_store.MemoryStore.told_write_refusal.Goals as goal

pub returns-in-Some : goal.returns-in-Some
returns-in-Some c =
    let a = c.args in
    let early = rw c.given_address-place.ensures at (sym c.in_ok-refusal.ensures ∙ c.in-Some.is) in
    sym (told_of_session a.limits a.self.now a.session.now a.length a.handles.now a.address a.collides c.in-Some.refusal early)

pub returns-then-collides : goal.returns-then-collides
returns-then-collides c =
    let a = c.args in
    let none = rw c.given_address-place.ensures at (sym c.in_ok-refusal.ensures ∙ c.in_default.is) in
    let on : a.collides ≡ true = grind (arith, common_steps) in
    sym (told_of_block a.limits a.self.now a.session.now a.length a.handles.now a.address a.collides none ∙ ap (λ b. first (refused_when b reply.Collision ∷ shard_full a.limits a.self.now (given_address a.address) ∷ [])) on)

pub returns : goal.returns
returns c =
    let a = c.args in
    let none = rw c.given_address-place.ensures at (sym c.in_ok-refusal.ensures ∙ c.in_default.is) in
    let off : a.collides ≡ false = grind (arith, common_steps) in
    c.room_refusal.ensures ∙ ap (λ z. shard_full a.limits a.self.now z) c.given_address-place.ensures
    ∙ sym (told_of_block a.limits a.self.now a.session.now a.length a.handles.now a.address a.collides none ∙ ap (λ b. first (refused_when b reply.Collision ∷ shard_full a.limits a.self.now (given_address a.address) ∷ [])) off ∙ first_one (shard_full a.limits a.self.now (given_address a.address)))
