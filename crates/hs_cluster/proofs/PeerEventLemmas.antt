-- An event without a call, for the logs and the disks of any number of copies.
use Rattle.std.proofs.Common.{◌≡◌, ◌∙◌, ◌⊎◌, inl, inr, ap, sym, subst, ℕ, true, List, Option, Some, None, refl}
use Rattle.std.specs.Option.{option_and_then}
use Rattle.std.specs.Prelude.{if◌then◌else◌}
use Rattle.hs_cluster.proofs.PeerLogLemmas.{counts_before, peers_fine, rest_fine}
use Rattle.hs_cluster.specs.Disks.{DiskSeen, log_at, stands_of}
use Rattle.hs_cluster.specs.PeerLogs.{HasPeerLog, KeepsPeerLogs, KeepsPeers, log_of_peer}
use Rattle.hs_cluster.specs.Steady.{GoesAlong}
use Rattle.hs_core_words.specs.declared.event.Event.{Event}
use Rattle.hs_core_words.specs.declared.event.Event.TheVariants as event
use Rattle.hs_core_words.specs.State.{Core}
use Rattle.hs_desk.specs.declared.done.Done.{Done}
use Rattle.hs_entry.specs.declared.entry.Entry.{Entry}
use Rattle.hs_events.proofs.GoingLemmas.{step_goes}
use Rattle.hs_events.specs.Asked.{report_in}
use Rattle.hs_events.specs.Due.{is_answer}
use Rattle.hs_events.specs.Sane.{appended_of}
use Rattle.hs_events.specs.Whole.{Whole, counts, step_whole, taken_report}
use Rattle.hs_fold.specs.Shards.Setting.{Numbered}
use Rattle.hs_limits.specs.declared.shape.Shape.{Shape}
use Rattle.hs_members.specs.Members.{IsPeer}
use Rattle.hs_moments.specs.Moments.{Keeps}
use Rattle.hs_moments.specs.WholeMachine.{whole_machine}
use Rattle.hs_peerlog.specs.Heads.{LeavesHeader}
use Rattle.hs_peerlog.specs.Lists.{HasLog, Keeping}
use Rattle.hs_ports.specs.Moments.{disk_at}
use Rattle.hs_side.specs.Headers.{own_header}

none_is_not : {A : Type 0} (x : A) → None ≡ Some x → ⊥
none_is_not x e = cc e

-- the log of a peer stays as it is, or a line has the peer fail
abbrev pub SlotStays : Event → List (Option Keeping) → List (Option Keeping) → ℕ → Type 0
SlotStays e logs after peer = (log_at after peer ≡ log_at logs peer) ⊎ ((line : ℕ) × (e ≡ event.Fail line peer))

-- as the logs that are in use, and the disks, stay
pub log_stays : (shape : Shape) (logs after : List (Option Keeping)) (disks left : List DiskSeen) (peer : ℕ) (list : Numbered) (waiting : Option Entry) → log_at after peer ≡ log_at logs peer
    → disk_at (stands_of left) peer ≡ disk_at (stands_of disks) peer → HasPeerLog shape logs disks peer list waiting → HasPeerLog shape after left peer list waiting
log_stays shape logs after disks left peer list waiting same still log = record {
  keeping = log.keeping;
  used = same ∙ log.used;
  generation = log.generation;
  head = log.head;
  has = subst (λ d. HasLog log.keeping d list waiting) (sym still) log.has;
}

-- the log of a peer gives its header
pub log_headed : (shape : Shape) (logs : List (Option Keeping)) (disks : List DiskSeen) (peer : ℕ) (list : Numbered) (waiting : Option Entry) → HasPeerLog shape logs disks peer list waiting
    → LeavesHeader (disk_at (stands_of disks) peer) (own_header shape peer)
log_headed shape logs disks peer list waiting log = log.has.headed (own_header shape peer, log.generation) log.head

-- an event that is no report tells of no peer
pub none_told : (core : Core) (e : Event) → report_in e ≡ None → (peer : ℕ) (told : Done) → taken_report core e ≡ Some (peer, told) → ⊥
none_told core e quiet peer told is = none_is_not (peer, told) (sym (ap (λ o. option_and_then (λ r. if is_answer core r.0 r.1 then Some r else None) o) quiet) ∙ is)

module _ (c : Whole) (e : Event) (now : ℕ) (logs after : List (Option Keeping)) (disks : List DiskSeen) (was : c.core.ended ≡ None) (quiet : report_in e ≡ None) (stays : (peer : ℕ) → SlotStays e logs after peer)
    (keeps : KeepsPeers c logs disks now) (goes : GoesAlong c e (step_whole e now c)) where
  abbrev new : Whole
  new = step_whole e now c

  shape_is : new.core.members.shape ≡ c.core.members.shape
  shape_is = (step_goes e now c.core was).shape

  low : (peer : ℕ) → IsPeer new.core.members.shape peer → IsPeer c.core.members.shape peer
  low peer is = subst (λ (s : Shape). IsPeer s peer) shape_is is

  pub quiet_listed : KeepsPeerLogs new after disks
  quiet_listed = record { each = λ peer list is at. by peer list is at (stays peer) }
    where
      by : (peer : ℕ) (list : Numbered) → IsPeer new.core.members.shape peer → log_of_peer new peer ≡ Some list → SlotStays e logs after peer
          → HasPeerLog new.core.members.shape after disks peer list (appended_of peer new.core)
      by peer list is at slot = elim slot [
        | inl same ↦
            let still = (goes.beside peer (λ told there. none_told c.core e quiet peer told there)).same list at in
            subst (λ (s : Shape). HasPeerLog s after disks peer list (appended_of peer new.core)) (sym shape_is)
            (subst (λ w. HasPeerLog c.core.members.shape after disks peer list w) (sym still.1)
            (log_stays c.core.members.shape logs after disks disks peer list (appended_of peer c.core) same refl (keeps.listed.each peer list (low peer is) still.0)))
        | inr fails ↦ absurd (none_is_not list (sym (goes.down fails.0 peer fails.1) ∙ at))
      ]

  pub quiet_fine : Keeps whole_machine new now (stands_of disks)
  quiet_fine = peers_fine new now after disks goes.peers goes.within quiet_listed keeps.keeps.called
      (λ peer none counted image stands. rest_fine c new peer image none ((goes.beside peer (λ told there. none_told c.core e quiet peer told there)).begins none)
      (keeps.keeps.fine peer (counts_before c e now peer none counted) image stands))

  quiet_headed : (peer : ℕ) → counts new peer ≡ true → LeavesHeader (disk_at (stands_of disks) peer) (own_header new.core.members.shape peer)
  quiet_headed peer counted = by (log_of_peer new peer) refl
    where
      by : (o : Option Numbered) → log_of_peer new peer ≡ o → LeavesHeader (disk_at (stands_of disks) peer) (own_header new.core.members.shape peer)
      by None at = subst (λ (s : Shape). LeavesHeader (disk_at (stands_of disks) peer) (own_header s peer)) (sym shape_is) (keeps.headed peer (counts_before c e now peer at counted))
      by (Some list) at = log_headed new.core.members.shape after disks peer list _ (quiet_listed.each peer list (goes.peers peer list at) at)

  pub quiet_peers : KeepsPeers new after disks now
  quiet_peers = record { listed = quiet_listed; keeps = quiet_fine; headed = quiet_headed }
