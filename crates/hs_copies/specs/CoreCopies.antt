-- One shard's copies as the core keeps them, and what becomes of them by the functions of the group, the members and
-- the joining peers, as the core composes them.
use Rattle.std.specs.Option.{option_map_or}
use Rattle.std.specs.Prelude.{ℕ, ◌-◌, ◌&&◌, Bool, true, false, List, [], ◌++◌, Option, nat_le, slice_index_or, if◌then◌else◌}
use Rattle.hs_entry.specs.declared.entry.Entry.{Entry}
use Rattle.hs_limits.specs.declared.limits.PeerStatus.TheVariants as status
use Rattle.hs_limits.specs.declared.shape.Shape.{Shape}
use Rattle.hs_limits.specs.Shape.{peer_of}
use Rattle.hs_members.specs.Members.{Members, become}
use Rattle.hs_post.specs.declared.message.Message.{Message}
use Rattle.hs_rejoin.specs.Rejoin.{Rejoin, copied, emptied, new_rejoin}
use Rattle.hs_replica.specs.Group.{Group, have, is_peer, lead, new_group, on_append, on_copied, on_emptied, on_have, on_sealed, on_view, proposal, propose, resend, take_committed, view_messages}
use Rattle.hs_copies.specs.Lines.{set_waits}
use Rattle.hs_copies.specs.Machine.{put_at}

-- the shard's group, all members, how far each joining peer has come, every message that was ever sent, and which lines have
-- no answer yet
pub record CoreCopies : Type 0 where
  pub group : Group
  pub members : Members
  pub rejoins : ℕ → Rejoin
  pub sent : List Message
  pub waits : ℕ → Bool

-- ---- in a view

-- an entry is proposed
abbrev pub core_propose : Entry → CoreCopies → CoreCopies
core_propose entry c = record c { group = propose entry c.group; sent = proposal entry c.group ++ c.sent }

-- a Copy comes to a peer
abbrev pub core_append : ℕ → ℕ → ℕ → Entry → CoreCopies → CoreCopies
core_append peer view number entry c = record c { group = on_append peer view number entry c.group }

-- a peer has sealed so many
abbrev pub core_seal : ℕ → ℕ → CoreCopies → CoreCopies
core_seal peer number c =
    record c { group = on_sealed peer number c.group; sent = have peer number c.group ++ c.sent }

-- a Have comes
abbrev pub core_have : ℕ → ℕ → ℕ → CoreCopies → CoreCopies
core_have from view sealed c = record c { group = on_have from view sealed c.group }

-- the next entry takes effect
abbrev pub core_commit : CoreCopies → CoreCopies
core_commit c = record c { group = take_committed c.group }

-- a line begins, and one is answered
abbrev pub core_begin : ℕ → CoreCopies → CoreCopies
core_begin k c = record c { waits = set_waits k true c.waits }

abbrev pub core_answer : ℕ → CoreCopies → CoreCopies
core_answer k c = record c { waits = set_waits k false c.waits }

-- a nudge at a peer
abbrev pub core_nudge : ℕ → CoreCopies → CoreCopies
core_nudge peer c = record c { sent = resend peer c.group ++ c.sent }

-- ---- new views

-- the view rises as these members say
abbrev pub core_view : Members → CoreCopies → CoreCopies
core_view members c = record c {
  group = on_view members c.group;
  members = members;
  sent = view_messages members c.group ++ c.sent;
}

-- a joining peer begins, or begins again, with the lead that there is
abbrev pub begin_with : Option ℕ → Rejoin → Rejoin
begin_with lead r = option_map_or new_rejoin lead r

-- a good peer goes down; where it led, the joining peers begin again
abbrev pub core_fail : ℕ → CoreCopies → CoreCopies
core_fail peer c =
    let new : CoreCopies = core_view (become peer status.Down c.members) c in
    if is_peer peer (lead c.group) then record new { rejoins = λ q. begin_with (lead new.group) (c.rejoins q) }
    else new

-- a joining peer is good
abbrev pub core_join : ℕ → CoreCopies → CoreCopies
core_join peer c = core_view (become peer status.Good c.members) c

-- ---- opening

-- each good peer has so many entries, the last of this view, and a view begins as these members say
abbrev pub core_open : Shape → ℕ → ℕ → ℕ → List Bool → Members → (ℕ → Rejoin) → CoreCopies
core_open shape shard view len good members rejoins =
    core_view members (record {
      group = new_group shape shard view len good;
      members = members;
      rejoins = rejoins;
      sent = [];
      waits = λ k. false;
    })

-- the peer has a copy of the shard that is good at opening
abbrev pub opens_good : Shape → ℕ → List Bool → ℕ → Bool
opens_good shape shard good peer =
    nat_le (peer_of shape shard 0) peer && slice_index_or good (peer - peer_of shape shard 0) false

-- ---- joining

-- a joining peer goes down
abbrev pub core_give_up : ℕ → CoreCopies → CoreCopies
core_give_up peer c = record c { members = become peer status.Down c.members }

-- a peer that is down begins to join
abbrev pub core_start : ℕ → CoreCopies → CoreCopies
core_start peer c = record c {
  members = become peer status.Joining c.members;
  rejoins = put_at peer (begin_with (lead c.group) (c.rejoins peer)) c.rejoins;
}

-- its disk was emptied
abbrev pub core_empty : ℕ → CoreCopies → CoreCopies
core_empty peer c = record c {
  group = on_emptied peer c.group;
  rejoins = put_at peer (emptied (c.rejoins peer)) c.rejoins;
}

-- the entry of this number was copied to it
abbrev pub core_copied : ℕ → ℕ → CoreCopies → CoreCopies
core_copied peer number c = record c {
  group = on_copied peer number c.group;
  rejoins = put_at peer (copied number (c.rejoins peer)) c.rejoins;
}
