-- Why what a peer is known to have sealed changes.
use Rattle.std.specs.Prelude.{◌≡◌, ℕ, true, Option}
use Rattle.hs_anatomy.specs.Acts.{IsAnswered, IsComing, IsFelled, IsLevel}
use Rattle.hs_core_words.specs.declared.event.Event.{Event}
use Rattle.hs_core_words.specs.Looking.{home, status_of}
use Rattle.hs_core_words.specs.State.{Core}
use Rattle.hs_desk.specs.declared.done.Done.TheVariants as done
use Rattle.hs_members.specs.Members.{is_good_status}
use Rattle.hs_post.specs.declared.message.Message.TheVariants as message

-- of an event that has begun so: the peer's Seal is reported; a Have of it comes; the good peers of its shard change, since one goes down, or one that has all of the lead's list joins
pub data IsKnownBy (s : Core) (e : Option Event) (peer : ℕ) : Type 0 where
  BySeal : (number : ℕ) → IsAnswered s e s peer (done.Sealed number) → IsKnownBy s e peer
  ByHave : (number shard to view sealed : ℕ) → IsComing s e s number (message.Have shard peer to view sealed) → IsKnownBy s e peer
  ByFall : (other : ℕ) → IsFelled s e other → is_good_status (status_of other s) ≡ true → home other s ≡ home peer s → IsKnownBy s e peer
  ByJoin : (other : ℕ) (a : Core) → IsLevel s e a other → home other s ≡ home peer s → IsKnownBy s e peer
