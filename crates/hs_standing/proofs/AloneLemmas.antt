-- What is under way where each shard has one copy.
use Rattle.std.proofs.Common.{◌≡◌, subst, ℕ, true, IfSome, Option, Some}
use Rattle.std.proofs.lemmas.Map.Views.{IfSome-lookup_from_All}
use Rattle.std.specs.BTreeMap.{is_at}
use Rattle.std.specs.Ordering.{nat_cmp}
use Rattle.hs_core_words.specs.State.{Core}
use Rattle.hs_events.specs.Alone.{AreAlone, face, is_round}
use Rattle.hs_post.specs.declared.message.Message.{Message}
use Rattle.hs_post.specs.Pool.{message_at}

-- a message is a Round
pub is_a_round : (c : Core) (number : ℕ) (m : Message) → AreAlone (face c) → message_at number c.pool ≡ Some m → is_round m ≡ true
is_a_round c number m h at =
    subst (λ (o : Option Message). IfSome o (λ (x : Message). is_round x ≡ true)) at
    (IfSome-lookup_from_All (λ (x : Message). is_round x ≡ true) (is_at (nat_cmp number)) c.pool.messages h.rounds)
