-- Copies of the core that are like others stand for the same copies of the machine.
use Rattle.std.proofs.Common.{◌≡◌, ℕ, ◌∙◌, refl, Bool}
use Rattle.hs_copies.specs.CoreCopies.{CoreCopies}
use Rattle.hs_copies.specs.Lists.{IsAmong}
use Rattle.hs_copies.specs.Machine.{Copies, Down as DownStage, Following, Good as GoodStage}
use Rattle.hs_copies.specs.Standing.{ArePeers, StandsFor, stage_of}
use Rattle.hs_entry.specs.declared.entry.Entry.{Entry}
use Rattle.hs_limits.specs.declared.limits.PeerStatus.{PeerStatus}
use Rattle.hs_limits.specs.declared.limits.PeerStatus.TheVariants.{Down, Good, Joining}
use Rattle.hs_members.specs.Members.{IsMembers, status, view_of}
use Rattle.hs_post.specs.declared.message.Message.{Message}
use Rattle.hs_replica.specs.Group.{IsHome, copy_of}
use Rattle.hs_core_copies.specs.InStep.{no_line}

-- another core keeps the same of a shard: how far peers have come counts of those that join
pub record IsLike (c d : CoreCopies) : Type 0 where
  pub group : d.group ≡ c.group
  pub shape : d.members.shape ≡ c.members.shape
  pub valid : IsMembers d.members
  pub view : view_of c.group.shard d.members ≡ view_of c.group.shard c.members
  pub statuses : (peer : ℕ) → IsHome c.group peer → status peer d.members ≡ status peer c.members
  pub empties : (peer : ℕ) → IsHome c.group peer → status peer c.members ≡ Joining → (d.rejoins peer).empty ≡ (c.rejoins peer).empty
  pub counts : (peer : ℕ) → IsHome c.group peer → status peer c.members ≡ Joining → (d.rejoins peer).len ≡ (c.rejoins peer).len
  pub sent : (m : Message) → IsAmong m d.sent → IsAmong m c.sent

-- a peer's stage, where the status is the same and what is due, if it joins
same_stage : (k l : PeerStatus) (due other : Bool) → l ≡ k → (k ≡ Joining → other ≡ due) → stage_of k due ≡ stage_of l other
same_stage Good l due other e h = rw e refl
same_stage Joining l due other e h = rw (e, h refl) refl
same_stage Down l due other e h = rw e refl

pub follows_joins : (k : PeerStatus) (due : Bool) → stage_of k due ≡ Following → k ≡ Joining
follows_joins Good due e = let wrong : GoodStage ≡ Following = e in absurd (cc wrong)
follows_joins Joining due e = refl
follows_joins Down due e = let wrong : DownStage ≡ Following = e in absurd (cc wrong)

pub like_stands : (c d : CoreCopies) (s : Copies Entry) → IsLike c d → StandsFor no_line c s → StandsFor no_line d s
like_stands c d s a st =
    record {
      shape = rw a.group (a.shape ∙ st.shape);
      members = a.valid;
      shard = rw a.group st.shard;
      copies = rw a.group st.copies;
      view = rw a.group st.view;
      of_members = rw a.group (a.view ∙ st.of_members);
      peers = rw a.group peers;
      front = rw a.group st.front;
      waiting = rw a.group st.waiting;
      sent = λ m k. st.sent m (a.sent m k);
      views = st.views;
      lines = record {
        waiting = λ y n k line. let wrong = line.of_line in absurd (cc wrong);
        once = λ y m n k one two. let wrong = one.of_line in absurd (cc wrong);
      };
      faithful = st.faithful;
      begun = st.begun;
      begun_at = st.begun_at;
      told = st.told;
    }
  where
    peers : ArePeers (IsHome c.group) (copy_of c.group) (λ q. status q d.members) d.rejoins s.peers
    peers = record {
      each = st.peers.each;
      stage = λ q h. st.peers.stage q h ∙ same_stage (status q c.members) (status q d.members) (c.rejoins q).empty (d.rejoins q).empty (a.statuses q h) (a.empties q h);
      counted = λ q h f. a.counts q h (follows_joins (status q c.members) (c.rejoins q).empty (let k = st.peers.stage q h in cc)) ∙ st.peers.counted q h f;
      still = st.peers.still;
      elsewhere = st.peers.elsewhere;
    }
