-- What the log of a peer tells of the list that its disk may have, with any number of copies.
use Rattle.std.proofs.Common.{◌≡◌, ◌∙◌, ap, sym, subst, ℕ, ◌≤◌, Bool, true, false, List, ◌++◌, length, take, drop, Option, Some, None, refl, arith, not}
use Rattle.std.proofs.lemmas.List.{append_assoc, length-take-le, take-append-drop, take_at}
use Rattle.std.specs.Prelude.{◌&&◌, if◌then◌else◌}
use Rattle.hs_cluster.proofs.HeldLemmas.{last_numbered}
use Rattle.hs_cluster.specs.Disks.{DiskSeen, stands_of}
use Rattle.hs_cluster.specs.Kept.{sealed_front}
use Rattle.hs_cluster.specs.PeerLogs.{HasPeerLog, KeepsPeerLogs, log_by, log_of_peer}
use Rattle.hs_core_words.specs.declared.event.Event.{Event}
use Rattle.hs_core_words.specs.Looking.{rejoin_of, sealed_of, status_of}
use Rattle.hs_core_words.specs.Step.{step}
use Rattle.hs_entry.specs.declared.entry.Entry.{Entry}
use Rattle.hs_events.specs.Whole.{Whole, counts, floor, reach, step_whole}
use Rattle.hs_fold.specs.Shards.Setting.{Numbered}
use Rattle.hs_limits.specs.declared.limits.PeerStatus.{PeerStatus}
use Rattle.hs_limits.specs.declared.limits.PeerStatus.TheVariants.{Down, Good, Joining}
use Rattle.hs_limits.specs.declared.shape.Shape.{Shape}
use Rattle.hs_members.specs.Members.{IsPeer, is_good_status}
use Rattle.hs_moments.specs.Moments.{GivesFine, IsStanding, Keeps}
use Rattle.hs_moments.specs.WholeMachine.{IsFrontOf, last_of, whole_machine}
use Rattle.hs_peerlog.specs.Lists.{IsNumbered, Keeping}
use Rattle.hs_ports.specs.declared.disk.Side.{Side}
use Rattle.hs_ports.specs.Moments.{disk_at}
use Rattle.hs_rejoin.specs.Rejoin.{Rejoin}

none_is_not : {A : Type 0} (x : A) → None ≡ Some x → ⊥
none_is_not x e = cc e

some_is : {A : Type 0} (x y : A) → Some x ≡ Some y → x ≡ y
some_is x y e = cc

-- ---- fronts

pub front_then : (peer : ℕ) (a b c : Numbered) → IsFrontOf peer a b → IsFrontOf peer b c → IsFrontOf peer a c
front_then peer a b c one two = (one.0 ++ two.0, two.1 ∙ ap (λ l. l ++ two.0) one.1 ∙ append_assoc a one.0 two.0)

-- a front is so many entries of a list
pub front_is : (peer : ℕ) (list whole : Numbered) → IsFrontOf peer list whole → list ≡ take (length list) whole
front_is peer list whole front = sym (ap (λ l. take (length list) l) front.1 ∙ take_at list front.0 (length list) refl)

pub take_begins : (peer n : ℕ) (whole : Numbered) → IsFrontOf peer (take n whole) whole
take_begins peer n whole = (drop n whole, sym (take-append-drop n whole))

-- ---- the list of a log

-- it begins what the disk may have
pub log_begins : (c : Whole) (peer : ℕ) (list : Numbered) → log_of_peer c peer ≡ Some list → IsFrontOf peer list (reach c peer)
log_begins c peer list at = go (status_of peer c.core) (rejoin_of peer c.core) at
  where
    follows : (b : Bool) → (if b then None else Some (c.lists peer)) ≡ Some list → IsFrontOf peer list (reach c peer)
    follows true h = absurd (none_is_not list h)
    follows false h = subst (λ l. IsFrontOf peer l (reach c peer)) (some_is (c.lists peer) list h) (c.adds peer, refl)

    go : (s : PeerStatus) (rejoin : Option Rejoin) → log_by c peer s rejoin ≡ Some list → IsFrontOf peer list (reach c peer)
    go Good rejoin h = subst (λ l. IsFrontOf peer l (reach c peer)) (some_is (sealed_front c peer) list h) (take_begins peer (floor c peer) (reach c peer))
    go Joining None h = absurd (none_is_not list h)
    go Joining (Some r) h = follows r.empty h
    go Down rejoin h = absurd (none_is_not list h)

not_good : (c : Whole) (peer : ℕ) (s : PeerStatus) → status_of peer c.core ≡ s → is_good_status s ≡ false → floor c peer ≡ 0
not_good c peer s is other = ap (λ b. if b then sealed_of peer c.core else 0) (ap is_good_status is ∙ other)

-- of whose log nothing is said, it is not known to have sealed anything
pub floor_none : (c : Whole) (peer : ℕ) → log_of_peer c peer ≡ None → floor c peer ≡ 0
floor_none c peer none = go (status_of peer c.core) refl
  where
    some_is_not : Some (sealed_front c peer) ≡ None → ⊥
    some_is_not e = cc e

    go : (s : PeerStatus) → status_of peer c.core ≡ s → floor c peer ≡ 0
    go Good is = absurd (some_is_not (ap (λ s. log_by c peer s (rejoin_of peer c.core)) (sym is) ∙ none))
    go Joining is = not_good c peer Joining is refl
    go Down is = not_good c peer Down is refl

-- it is no shorter than what is sealed
pub log_long : (c : Whole) (peer : ℕ) (list : Numbered) → floor c peer ≤ length (reach c peer) → log_of_peer c peer ≡ Some list → IsNumbered list → floor c peer ≤ last_of list
log_long c peer list within at numbered = go (status_of peer c.core) refl
  where
    zero_low : floor c peer ≡ 0 → floor c peer ≤ last_of list
    zero_low is = omega (arith, is)

    go : (s : PeerStatus) → status_of peer c.core ≡ s → floor c peer ≤ last_of list
    go Good is =
        let same : sealed_front c peer ≡ list = some_is (sealed_front c peer) list (ap (λ s. log_by c peer s (rejoin_of peer c.core)) (sym is) ∙ at) in
        let last = last_numbered list numbered in
        let long : length list ≡ floor c peer = ap length (sym same) ∙ length-take-le (floor c peer) (reach c peer) within in
        omega (arith, last, long)
    go Joining is = zero_low (not_good c peer Joining is refl)
    go Down is = zero_low (not_good c peer Down is refl)

-- so whatever a stop leaves of its disk is fine
pub log_fine : (c : Whole) (shape : Shape) (logs : List (Option Keeping)) (disks : List DiskSeen) (peer : ℕ) (list : Numbered) (waiting : Option Entry) → floor c peer ≤ length (reach c peer) → log_of_peer c peer ≡ Some list
    → HasPeerLog shape logs disks peer list waiting → (image : Side → List ℕ) → IsStanding (disk_at (stands_of disks) peer) image → GivesFine whole_machine c peer image
log_fine c shape logs disks peer list waiting within at log image stands = record {
  list = list;
  read = log.has.leaves image (record { sides = stands.sides });
  front = log_begins c peer list at;
  long = log_long c peer list within at log.has.kept.numbered;
}

-- ---- of whose log nothing is said

-- a disk that counts then counted before
pub counts_before : (c : Whole) (e : Event) (at peer : ℕ) → log_of_peer (step_whole e at c) peer ≡ None → counts (step_whole e at c) peer ≡ true → counts c peer ≡ true
counts_before c e at peer none counted = go (status_of peer (step e at c.core)) none counted
  where
    some_is_not : Some (sealed_front (step_whole e at c) peer) ≡ None → ⊥
    some_is_not h = cc h

    still : (b : Bool) → not (b && true) ≡ true → not b ≡ true
    still true h = h
    still false h = refl

    go : (s : PeerStatus) → log_by (step_whole e at c) peer s (rejoin_of peer (step e at c.core)) ≡ None → not (c.aside peer && not (is_good_status s)) ≡ true → not (c.aside peer) ≡ true
    go Good h counted = absurd (some_is_not h)
    go Joining h counted = still (c.aside peer) counted
    go Down h counted = still (c.aside peer) counted

-- what was fine still is
pub rest_fine : (c new : Whole) (peer : ℕ) (image : Side → List ℕ) → log_of_peer new peer ≡ None → IsFrontOf peer (reach c peer) (reach new peer) → GivesFine whole_machine c peer image → GivesFine whole_machine new peer image
rest_fine c new peer image none begins fine = record {
  list = fine.list;
  read = fine.read;
  front = front_then peer fine.list (reach c peer) (reach new peer) fine.front begins;
  long = let none_sealed = floor_none new peer none in omega (arith, none_sealed);
}

-- ---- all of them

-- by the logs that are told of, and the others
pub peers_fine : (new : Whole) (now : ℕ) (logs : List (Option Keeping)) (disks : List DiskSeen) → ((peer : ℕ) (list : Numbered) → log_of_peer new peer ≡ Some list → IsPeer new.core.members.shape peer)
    → ((peer : ℕ) → floor new peer ≤ length (reach new peer)) → KeepsPeerLogs new logs disks → ((peer : ℕ) → (disk_at (stands_of disks) peer).last ≤ now)
    → ((peer : ℕ) → log_of_peer new peer ≡ None → counts new peer ≡ true → (image : Side → List ℕ) → IsStanding (disk_at (stands_of disks) peer) image → GivesFine whole_machine new peer image)
    → Keeps whole_machine new now (stands_of disks)
peers_fine new now logs disks peers within listed called rest = record {
  called = called;
  fine = λ peer counted image stands. by peer counted image stands (log_of_peer new peer) refl;
}
  where
    by : (peer : ℕ) → counts new peer ≡ true → (image : Side → List ℕ) → IsStanding (disk_at (stands_of disks) peer) image → (o : Option Numbered) → log_of_peer new peer ≡ o
        → GivesFine whole_machine new peer image
    by peer counted image stands None at = rest peer at counted image stands
    by peer counted image stands (Some list) at = log_fine new new.core.members.shape logs disks peer list _ (within peer) at (listed.each peer list (peers peer list at) at) image stands
