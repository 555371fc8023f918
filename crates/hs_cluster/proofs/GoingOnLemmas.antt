-- Behind opening's reading a store of one copy may go on, and its turns are put behind that.
use Rattle.std.proofs.Common.{◌≡◌, ◌∙◌, inl, inr, ap, sym, subst, ℕ, zero, suc, ◌+◌, ◌-◌, ◌*◌, ◌^◌, ◌/◌, ◌<◌, ◌≤◌, not, true, false, List, [], ◌∷◌, ◌++◌, Option, Some, None, refl, arith, length, nat_lt, is_none, is_some, if◌then◌else◌}
use Rattle.std.proofs.lemmas.Bool.{cases_lt}
use Rattle.std.proofs.lemmas.List.{get_or_past, take_at}
use Rattle.std.proofs.lemmas.List.Elements.{All-cons, All-nil}
use Rattle.std.specs.List.{All, enumerate_from}
use Rattle.std.specs.Prelude.{IsSome, OnOk, Result, Ok, Err, ⊤, take}
use Rattle.hs_cluster.proofs.CachedLemmas.{none_cached}
use Rattle.hs_cluster.proofs.CountLemmas.{rises_within}
use Rattle.hs_cluster.proofs.EventLemmas.{still_going}
use Rattle.hs_cluster.proofs.HeadLemmas.{header_shown, heads_next}
use Rattle.hs_cluster.proofs.OpenedLemmas.{shape_opens}
use Rattle.hs_cluster.proofs.FoundLemmas.{begins_so, finds, found, opens_so, was_read}
use Rattle.hs_cluster.proofs.OpeningMoves.{alone_sane, alone_whole, jobs_first, same_members, sealed_first}
use Rattle.hs_cluster.proofs.StretchLemmas.{rises_to}
use Rattle.hs_cluster.specs.Cached.{AreCached}
use Rattle.hs_cluster.specs.Begins.{Begins, HasOpened, opened_with}
use Rattle.hs_cluster.specs.Calls.{Does, ran_out}
use Rattle.hs_cluster.specs.Calm.{GoesCalmly}
use Rattle.hs_cluster.specs.Counts.{AreAllCounted, AreCounted, UntoldStand}
use Rattle.hs_cluster.specs.declared.fault.ClusterFault.{ClusterFault}
use Rattle.hs_cluster.specs.Headed.{IsHeadedAt, IsOwnAt, KeepsHeads, LeavesHeads}
use Rattle.hs_cluster.specs.Kept.{CanGoOn, CanRead, KeepsLogs, LeavesLists, ReadsLogs, sealed_front}
use Rattle.hs_cluster.specs.Opens.{Finds, IsFound, LeaveOneList, Opens, OpensLists}
use Rattle.hs_cluster.specs.PeerLogs.{KeepsPeers}
use Rattle.hs_cluster.specs.Past.{HoldsLog, LeavesPast}
use Rattle.hs_cluster.specs.Rooms.{HaveRecordRoom}
use Rattle.hs_cluster.specs.Running.{Running}
use Rattle.hs_core_words.specs.Looking.{group_of, home}
use Rattle.hs_core_words.specs.Opening.{Taken as Opened, open_core}
use Rattle.hs_core_words.specs.State.{Core}
use Rattle.hs_core_words.specs.Step.{step}
use Rattle.hs_desk.specs.declared.fault.CoreFault.{CoreFault}
use Rattle.hs_entry.specs.declared.entry.Entry.{Entry}
use Rattle.hs_entry.specs.Entries.{is_of_base}
use Rattle.hs_events.specs.Beginning.{first_items}
use Rattle.hs_events.specs.Course.{happened, items_of, steps}
use Rattle.hs_events.specs.Due.{Events, MomentsRise, is_walk, next_turn}
use Rattle.hs_events.specs.Found.{Found, first_core, opened_list, starts_good}
use Rattle.hs_events.specs.Sane.{IsFromOne, IsSane, appended_of}
use Rattle.hs_events.specs.Whole.{Whole, counts, floor, grown, open_whole, reach}
use Rattle.hs_fold.proofs.PrefixLemmas.{last-length}
use Rattle.hs_fold.specs.Images.{IsLeft}
use Rattle.hs_fold.specs.Shards.Setting.{Numbered, Setting}
use Rattle.hs_limits.specs.declared.shape.Shape.{Shape}
use Rattle.hs_members.specs.Members.{IsPeer, Members, home_of}
use Rattle.hs_moments.proofs.AloneEventLemmas.{home_here}
use Rattle.hs_moments.proofs.HappenedLemmas.{happened_rise}
use Rattle.hs_moments.proofs.MomentLemmas.{le-is}
use Rattle.hs_moments.proofs.OpeningLemmas.{all_good, opening_is_sane}
use Rattle.hs_moments.proofs.WorkLemmas.{floor_alone, none_appended, reach_sane}
use Rattle.hs_moments.specs.Machine.{runs, state_at, until}
use Rattle.hs_moments.specs.Moments.{GivesFine, IsStanding, Keeps}
use Rattle.hs_moments.specs.WholeMachine.{IsFrontOf, last_of, whole_machine}
use Rattle.hs_peerlog.specs.Heads.{LeavesHeader}
use Rattle.hs_peerlog.specs.Images.{GivesList, Is, LeavesOnly}
use Rattle.hs_peerlog.specs.Lists.{GoOn, HasLog, IsKept, Keeping}
use Rattle.hs_ports.specs.declared.disk.Side.{Side}
use Rattle.hs_ports.specs.Disk.{IsImage, Standing}
use Rattle.hs_ports.specs.MemoryDisk.{untold}
use Rattle.hs_ports.specs.Moments.{disk_at}
use Rattle.hs_replica.specs.Group.{entries_above, length_of}
use Rattle.hs_side.specs.Current.{list_in}
use Rattle.hs_side.specs.declared.header.Header.{Header}
use Rattle.hs_side.specs.Headers.{own_header}
use Rattle.hs_taking.proofs.PastLemmas.{past_still, past_then, past_wait}
use Rattle.hs_taking.specs.Copies.{HasEvened}
use Rattle.hs_taking.specs.Disks.{DiskSeen, log_at, seen_at, stands_of}
use Rattle.hs_taking.specs.Headed.{OwnTheirLogs}
use Rattle.hs_taking.specs.Past.{PastStays}
use Rattle.hs_taking.specs.Shares.{Span, Taken}

-- ---- lists, disks, events

false_is_not : false ≡ true → ⊥
false_is_not e = cc e

none_is_not : (keeping : Keeping) → None ≡ Some keeping → ⊥
none_is_not keeping e = cc e

-- entries that go on by one have numbers, and no Base is among them
counted : (n : ℕ) (list : Numbered) → GoOn n list → (entries : List Entry) × (list ≡ enumerate_from (n + 1) entries) × All (λ entry. is_of_base entry ≡ false) entries
counted n [] g = ([], refl, All-nil (λ (e : Entry). is_of_base e ≡ false))
counted n (e ∷ es) g =
    let rest = counted (n + 1) es g.2 in
    (e.1 ∷ rest.0, (λ i. (g.0 i, e.1) ∷ rest.1 i), All-cons (λ (x : Entry). is_of_base x ≡ false) e.1 rest.0 g.1 rest.2)

from_one : (list : Numbered) → GoOn 0 list → IsFromOne list
from_one list g = let c = counted 0 list g in record { entries = c.0; counted = c.1; plain = c.2 }

from_empty : IsFromOne []
from_empty = record { entries = []; counted = refl; plain = All-nil (λ (e : Entry). is_of_base e ≡ false) }

stands_seen : (disks : List DiskSeen) (k : ℕ) → disk_at (stands_of disks) k ≡ (seen_at disks k).stands
stands_seen [] k = refl
stands_seen (d ∷ disks) zero = refl
stands_seen (d ∷ disks) (suc k) = stands_seen disks k

-- events at a moment or behind it are not below it
none_below : (m from to : ℕ) (es : Events) → m ≤ from → MomentsRise from es to → until m es ≡ []
none_below m from to [] low rises = refl
none_below m from to (e ∷ es) low rises =
    let is : nat_lt e.1 m ≡ false = le-is e.1 m (let above = rises.0 in omega (arith, low, above)) in
    ap (λ b. if b then e ∷ until m es else []) is

-- a core that goes on went on before
pub going_before : (core : Core) (es : Events) → (steps core es).ended ≡ None → core.ended ≡ None
going_before core [] h = h
going_before core (e ∷ es) h = go (going_before core es) core.ended refl
  where
    go : ((steps core es).ended ≡ None → core.ended ≡ None) → (o : Option CoreFault) → core.ended ≡ o → core.ended ≡ None
    go ih None is = is
    go ih (Some fault) is =
        let ended : is_none core.ended ≡ false = ap is_none is in
        let same : step e.0 e.1 core ≡ core = rw ended refl in
        ih (ap (λ x. (steps x es).ended) (sym same) ∙ h)

-- a log is in use
kept_by : (o : Option Keeping) → is_some o ≡ true → (keeping : Keeping) × (o ≡ Some keeping)
kept_by None e = absurd (false_is_not e)
kept_by (Some keeping) e = (keeping, refl)

-- ---- right before the first turn

module _ (tells : Type 0) (set : Setting) (span : Span) (taken : Taken) (some : 0 < set.shape.copies) (one : set.shape.copies ≡ 1) (h : HasEvened tells set span taken) (shares : length taken.shares ≡ set.shape.shards) (logs : length taken.logs ≡ set.shape.shards * set.shape.copies) (ticks : span.before ≤ span.now)
    (olds : length span.old ≡ set.shape.shards * set.shape.copies) (news : length span.new ≡ length span.old) where
  abbrev count : ℕ
  count = set.shape.shards

  peers : set.shape.shards * set.shape.copies ≡ set.shape.shards
  peers = ap (λ n. set.shape.shards * n) one ∙ omega arith

  abbrev f : Found
  f = found tells set span taken some h shares logs ticks

  all : Finds tells set span f taken.logs
  all = finds tells set span taken some h shares logs ticks

  of : (p : ℕ) → p < count → IsFound tells set span f taken.logs p
  of p low = all.each p (omega (arith, low, peers))

  home_one : (p : ℕ) → home_of set.shape p ≡ p
  home_one p = ap (λ n. p / n) one ∙ omega arith

  -- the log of a peer, by its number
  log_of : (p : ℕ) (low : p < count) → tells → (seen_at span.old p).stands.last ≤ span.before → (keeping : Keeping) → log_at taken.logs p ≡ Some keeping → HasLog keeping (seen_at span.new p).stands (opened_list set f p) None
  log_of p low told last keeping at = subst (λ k. HasLog keeping (seen_at span.new p).stands (opened_list set f k) None) (home_one p) ((of p low).log told last keeping at)

  reads_of : (p : ℕ) (low : p < count) → tells → (keeping : Keeping) → log_at taken.logs p ≡ Some keeping → IsKept keeping ((seen_at span.new p).stands.seen keeping.log.side) (opened_list set f p) None
  reads_of p low told keeping at = subst (λ k. IsKept keeping ((seen_at span.new p).stands.seen keeping.log.side) (opened_list set f k) None) (home_one p) ((of p low).reads one told keeping at)

  abbrev c : Whole
  c = open_whole set f

  new_past : (p : ℕ) → count ≤ p → (seen_at span.new p).stands ≡ untold
  new_past p high = ap (λ (d : DiskSeen). d.stands) (get_or_past span.new p (record { size = λ side. 0; stands = untold; faults = 0 }) (omega (arith, high, peers, olds, news)))

  old_past : (p : ℕ) → count ≤ p → (seen_at span.old p).stands ≡ untold
  old_past p high = ap (λ (d : DiskSeen). d.stands) (get_or_past span.old p (record { size = λ side. 0; stands = untold; faults = 0 }) (omega (arith, high, peers, olds)))

  -- ---- from entry on, of each disk that no call was ahead of

  log_past : (p : ℕ) → count ≤ p → log_at taken.logs p ≡ None
  log_past p high = get_or_past taken.logs p None (omega (arith, high, peers, logs))

  module _ (told : tells) (p : ℕ) (last : (disk_at (stands_of span.old) p).last ≤ span.before) where
    last_seen : (seen_at span.old p).stands.last ≤ span.before
    last_seen = subst (λ (d : Standing). d.last ≤ span.before) (stands_seen span.old p) last

    past_seen : PastStays span.before span.now (seen_at span.old p).stands (seen_at span.new p).stands
    past_seen = elim (cases_lt p count) [
      | inl low ↦ (of p low).past told last_seen
      | inr high ↦ subst (λ (d : Standing). PastStays span.before span.now d (seen_at span.new p).stands) (sym (old_past p high))
          (subst (λ (d : Standing). PastStays span.before span.now untold d) (sym (new_past p high)) (past_still span.before span.now untold ticks (omega arith)))
    ]

    pub read_past : PastStays span.before span.now (disk_at (stands_of span.old) p) (disk_at (stands_of span.new) p)
    read_past = subst (λ (d : Standing). PastStays span.before span.now d (disk_at (stands_of span.new) p)) (sym (stands_seen span.old p))
        (subst (λ (d : Standing). PastStays span.before span.now (seen_at span.old p).stands d) (sym (stands_seen span.new p)) past_seen)

    pub read_holds : HoldsLog span.now taken.logs span.new p
    read_holds = record {
      called = read_past.last;
      log = λ keeping at. elim (cases_lt p count) [
        | inl low ↦ record {
          list = opened_list set f p;
          waiting = None;
          has = subst (λ (d : Standing). HasLog keeping d (opened_list set f p) None) (sym (stands_seen span.new p)) (log_of p low told last_seen keeping at);
        }
        | inr high ↦ absurd (none_is_not keeping (sym (log_past p high) ∙ at))
      ];
    }

  module _ (told : tells) (going : (first_core set f).ended ≡ None) where
    abbrev core : Core
    core = first_core set f

    good : (p : ℕ) → p < count → starts_good f p ≡ true
    good p low = all_good set f one all.goods going p low

    slot : (p : ℕ) → p < count → (keeping : Keeping) × (log_at taken.logs p ≡ Some keeping)
    slot p low = kept_by (log_at taken.logs p) (sym (of p low).good ∙ good p low)

    read_is : (p : ℕ) (low : p < count) → (keeping : Keeping) → log_at taken.logs p ≡ Some keeping → IsKept keeping ((seen_at span.new p).stands.seen keeping.log.side) (opened_list set f p) None
    read_is p low keeping at = reads_of p low told keeping at

    numbered : (p : ℕ) → p < count → GoOn 0 (opened_list set f p)
    numbered p low = let s = slot p low in (read_is p low s.0 s.1).numbered

    sane : IsSane c
    sane = opening_is_sane set f one going (λ p low. from_one (opened_list set f p) (numbered p low)) all.goods

    within : (p : ℕ) → p < count → p < core.members.shape.shards
    within p low = subst (λ (m : Members). p < m.shape.shards) (sym (same_members set f one all.goods going)) low

    -- the list of a peer begins with what was read
    begins : (p : ℕ) → p < count → IsFrontOf p (opened_list set f p) (reach c p)
    begins p low = (rest, reach_sane c p sane ∙ ap (λ b. if b then grown (group_of (home p core) core) p (opened_list set f (home p core)) else []) (good p low) ∙ ap (λ k. opened_list set f k ++ rest) (home_here core p sane.alone.copies))
      where
        rest : Numbered
        rest = take (length_of (group_of (home p core) core) p - length (opened_list set f (home p core))) (entries_above (length (opened_list set f (home p core))) (group_of (home p core) core))

    floor_is : (p : ℕ) → p < count → floor c p ≡ last_of (opened_list set f p)
    floor_is p low = floor_alone c p sane.alone (within p low) ∙ sealed_first set f one all.goods going p low

    sealed_is : (p : ℕ) → p < count → sealed_front c p ≡ opened_list set f p
    sealed_is p low =
        let front = begins p low in
        let long : floor c p ≡ length (opened_list set f p) = floor_is p low ∙ last-length (opened_list set f p) (numbered p low) in
        ap (λ xs. take (floor c p) xs) front.1 ∙ take_at (opened_list set f p) front.0 (floor c p) (sym long)

    appended_is : (p : ℕ) → p < count → appended_of p core ≡ None
    appended_is p low = none_appended core p sane.alone (within p low) (jobs_first set f one all.goods going p low)

    peer_low : (p : ℕ) → IsPeer core.members.shape p → p < count
    peer_low p is =
        let there : p < set.shape.shards * set.shape.copies = subst (λ (m : Members). p < m.shape.shards * m.shape.copies) (same_members set f one all.goods going) is in
        omega (arith, there, peers)

    reads_listed : ReadsLogs c taken.logs span.new
    reads_listed = record {
      each = λ p keeping is at.
          let low : p < count = peer_low p is in
          subst (λ (d : Standing). IsKept keeping (d.seen keeping.log.side) (sealed_front c p) (appended_of p core)) (sym (stands_seen span.new p))
          (subst (λ list. IsKept keeping ((seen_at span.new p).stands.seen keeping.log.side) list (appended_of p core)) (sym (sealed_is p low))
          (subst (λ w. IsKept keeping ((seen_at span.new p).stands.seen keeping.log.side) (opened_list set f p) w) (sym (appended_is p low)) (read_is p low keeping at)));
    }

    pub can_read : CanRead c taken.logs span.new
    can_read = record { sane = sane; listed = reads_listed }

    module _ (sound : LeaveOneList span.before span.old) where
      log_is : (p : ℕ) (low : p < count) → (keeping : Keeping) → log_at taken.logs p ≡ Some keeping → HasLog keeping (seen_at span.new p).stands (opened_list set f p) None
      log_is p low keeping at = log_of p low told (sound.called p) keeping at

      listed : KeepsLogs c taken.logs span.new
      listed = record {
        each = λ p keeping is at.
            let low : p < count = peer_low p is in
            subst (λ d. HasLog keeping d (sealed_front c p) (appended_of p core)) (sym (stands_seen span.new p))
            (subst (λ list. HasLog keeping (seen_at span.new p).stands list (appended_of p core)) (sym (sealed_is p low))
            (subst (λ w. HasLog keeping (seen_at span.new p).stands (opened_list set f p) w) (sym (appended_is p low)) (log_is p low keeping at)));
      }

      -- ---- what a stop leaves

      counted_low : (p : ℕ) → counts c p ≡ true → p < count
      counted_low p is = elim (cases_lt p count) [
        | inl low ↦ low
        | inr high ↦
            let aside : starts_good f p ≡ false = get_or_past f.good p false (let goods = all.goods in omega (arith, goods, peers, high)) in
            absurd (false_is_not (sym (ap (λ b. not (not b)) aside) ∙ is))
      ]

      fine_at : (p : ℕ) → p < count → (image : Side → List ℕ) → list_in image ≡ Some (opened_list set f p) → GivesFine whole_machine c p image
      fine_at p low image is = record {
        list = opened_list set f p;
        read = is;
        front = begins p low;
        long = let e = floor_is p low in omega (arith, e);
      }

      only : (p : ℕ) → p < count → LeavesOnly (seen_at span.old p).stands (opened_list set f p)
      only p low = let s = slot p low in sound.only p (opened_list set f p) (was_read tells set span taken some h shares logs ticks one p (omega (arith, low, peers)) s.0 s.1 told ∙ ap (λ k. Some (opened_list set f k)) (home_one p))

      called : (p : ℕ) → (disk_at (stands_of span.new) p).last ≤ span.now
      called p = subst (λ (d : Standing). d.last ≤ span.now) (sym (stands_seen span.new p)) (elim (cases_lt p count) [
        | inl low ↦ (((of p low).disk one).moments told (sound.called p) (opened_list set f p) (only p low)).last
        | inr high ↦ subst (λ (d : Standing). d.last ≤ span.now) (sym (new_past p high)) (omega arith)
      ])

      keeps : Keeps whole_machine c span.now (stands_of span.new)
      keeps = record {
        called = called;
        fine = λ p is image stands.
            let low : p < count = counted_low p is in
            let s = slot p low in
            let there : IsStanding (seen_at span.new p).stands image = subst (λ d. IsStanding d image) (stands_seen span.new p) stands in
            fine_at p low image ((log_is p low s.0 s.1).leaves image (record { sides = there.sides }));
      }

      pub can_go_on : CanGoOn c taken.logs span.new span.now
      can_go_on = record { sane = sane; listed = listed; keeps = keeps }

      -- from entry on
      pub read_earlier : (p m : ℕ) (side : Side) → m ≤ span.before → m < 2 ^ 64 - 1 → (disk_at (stands_of span.new) p).past m side ≡ (disk_at (stands_of span.old) p).past m side
      read_earlier p m side low fits =
          ap (λ (d : Standing). d.past m side) (stands_seen span.new p) ∙ at ∙ sym (ap (λ (d : Standing). d.past m side) (stands_seen span.old p))
        where
          at : (seen_at span.new p).stands.past m side ≡ (seen_at span.old p).stands.past m side
          at = elim (cases_lt p count) [
            | inl below ↦ (((of p below).disk one).moments told (sound.called p) (opened_list set f p) (only p below)).earlier side m low fits
            | inr high ↦ ap (λ (d : Standing). d.past m side) (new_past p high) ∙ sym (ap (λ (d : Standing). d.past m side) (old_past p high))
          ]

      pub read_moments : (m p : ℕ) → span.before < m → m < 2 ^ 64 - 1 → counts c p ≡ true → (image : Side → List ℕ) → IsLeft (disk_at (stands_of span.new) p) m image → GivesFine whole_machine c p image
      read_moments m p after fits is image left =
          let low : p < count = counted_low p is in
          let there : IsLeft (seen_at span.new p).stands m image = subst (λ d. IsLeft d m image) (stands_seen span.new p) left in
          let gives : GivesList (Is (opened_list set f p)) image = (((of p low).disk one).moments told (sound.called p) (opened_list set f p) (only p low)).each m after fits image there.sides in
          fine_at p low image (gives.read ∙ ap (λ (l : Numbered). Some l) gives.holds)

-- ---- and the turns

-- the lists of the turns are put behind those of the reading
joined : (c : Whole) (es : Events) (before mid now : ℕ) (old between left : List DiskSeen) (begun cluster : Running) → before ≤ mid → MomentsRise mid es now
    → ((p m : ℕ) (side : Side) → m ≤ before → m < 2 ^ 64 - 1 → (disk_at (stands_of between) p).past m side ≡ (disk_at (stands_of old) p).past m side)
    → ((m p : ℕ) → before < m → m < 2 ^ 64 - 1 → counts c p ≡ true → (image : Side → List ℕ) → IsLeft (disk_at (stands_of between) p) m image → GivesFine whole_machine c p image)
    → LeavesLists c es (record { before = mid; now = now; old = begun; new = cluster; disks = between; left = left })
    → LeavesLists c es (record { before = before; now = now; old = begun; new = cluster; disks = old; left = left })
joined c es before mid now old between left begun cluster ticks rises earlier moments turns = record {
  earlier = λ p m side low fits. turns.earlier p m side (omega (arith, low, ticks)) fits ∙ earlier p m side low fits;
  moments = record {
    fine = λ m p after high fits counted image is_left. elim (cases_lt mid m) [
      | inl above ↦ turns.moments.fine m p above high fits counted image is_left
      | inr le ↦ early m p after le fits counted image is_left
    ];
  };
  keeps = turns.keeps;
  told = turns.told;
}
  where
    early : (m p : ℕ) → before < m → m ≤ mid → m < 2 ^ 64 - 1 → counts (state_at whole_machine c (happened c.core es) m) p ≡ true → (image : Side → List ℕ) → IsLeft (disk_at (stands_of left) p) m image
        → GivesFine whole_machine (state_at whole_machine c (happened c.core es) m) p image
    early m p after le fits counted image is_left =
        let same : state_at whole_machine c (happened c.core es) m ≡ c = ap (λ xs. runs whole_machine c xs) (none_below m mid now (happened c.core es) le (happened_rise c.core mid now es rises)) in
        subst (λ s. GivesFine whole_machine s p image) (sym same)
        (moments m p after fits (subst (λ s. counts s p ≡ true) same counted) image (record { sides = λ side. subst (λ x. IsImage x (image side)) (turns.earlier p m side le fits) (is_left.sides side) }))

-- ---- all of it

module _ (tells : Type 0) (set : Setting) (span : Span) (cluster : Running) (done : Result ⊤ ClusterFault) (o : HasOpened tells set span cluster done) where
  abbrev mid : Span
  mid = record { before = span.before; now = o.opened; old = span.old; new = o.disks }

  abbrev b : Begins tells set (record { before = span.before; now = o.opened; old = span.old; new = o.disks }) o.begun
  b = o.begins

  read : HasEvened tells set (record { before = span.before; now = o.opened; old = span.old; new = o.disks }) o.begins.taken
  read = o.begins.read

  some : 0 < set.shape.copies
  some = let c = b.shape.some_copy in omega (arith, c)

  abbrev opened_found : Found
  opened_found = found tells set mid b.taken some read b.shares b.count b.ticks

  core_is : first_core set opened_found ≡ o.begun.core
  core_is = ap (λ (x : Opened). open_core set.shape set.limits x o.opened) (opens_so tells set mid b.taken some read b.shares b.count b.ticks) ∙ sym b.core

  course_is : o.begun.course ≡ first_items set.shape opened_found span.before
  course_is = b.course ∙ sym (begins_so tells set mid b.taken some read b.shares b.count b.ticks span.before)

  can : set.shape.copies ≡ 1 → tells → LeaveOneList span.before span.old → (first_core set opened_found).ended ≡ None → CanGoOn (open_whole set opened_found) o.begun.logs o.disks o.opened
  can one told sound going =
      subst (λ l. CanGoOn (open_whole set opened_found) l o.disks o.opened) (sym b.logs)
      (can_go_on tells set mid b.taken some one read b.shares b.count b.ticks b.disks b.left told going sound)

  could_read : set.shape.copies ≡ 1 → tells → (first_core set opened_found).ended ≡ None → CanRead (open_whole set opened_found) o.begun.logs o.disks
  could_read one told going =
      subst (λ l. CanRead (open_whole set opened_found) l o.disks) (sym b.logs)
      (can_read tells set mid b.taken some one read b.shares b.count b.ticks b.disks b.left told going)

  -- nothing is cached yet
  uncached : (c : Whole) → AreCached c o.begun.cache
  uncached c = none_cached c o.begun.cache b.uncached

  -- no disk failed before the first turn of a core that goes on
  calm_first : set.shape.copies ≡ 1 → (first_core set opened_found).ended ≡ None → GoesCalmly o.begun.core span.old o.disks
  calm_first one going = record {
    whole = alone_whole set opened_found one f.goods going;
    same = core_is;
    sane = alone_sane set opened_found one f.goods going;
    none = rises_within span.old o.disks b.left (λ p within.
        let low : p < set.shape.shards = omega (arith, within, b.disks, peers_are) in
        (f.each p (omega (arith, within, b.disks))).calm (all_good set opened_found one f.goods going p low));
  }
    where
      f : Finds tells set mid opened_found b.taken.logs
      f = finds tells set mid b.taken some read b.shares b.count b.ticks

      peers_are : set.shape.shards * set.shape.copies ≡ set.shape.shards
      peers_are = ap (λ n. set.shape.shards * n) one ∙ omega arith

  lists : set.shape.copies ≡ 1 → tells → LeaveOneList span.before span.old → (first_core set opened_found).ended ≡ None
      → LeavesLists (open_whole set opened_found) o.turned.events (record { before = span.before; now = span.now; old = o.begun; new = cluster; disks = span.old; left = span.new })
  lists one told sound going =
      joined (open_whole set opened_found) o.turned.events span.before o.opened span.now span.old o.disks span.new o.begun cluster b.ticks o.turned.rises
      (read_earlier tells set mid b.taken some one read b.shares b.count b.ticks b.disks b.left told going sound)
      (read_moments tells set mid b.taken some one read b.shares b.count b.ticks b.disks b.left told going sound)
      (o.turned.shows.lists told (open_whole set opened_found) core_is (can one told sound going) (uncached (open_whole set opened_found)))

  -- a core that goes on behind the turns went on before
  began : (x : ⊤) → done ≡ Ok x → (first_core set opened_found).ended ≡ None
  began x is =
      let does : Does o.turned.events o.begun cluster (Ok x) = subst (λ r. Does o.turned.events o.begun cluster r) is o.turned.does in
      going_before (first_core set opened_found) o.turned.events (ap (λ c. (steps c o.turned.events).ended) core_is ∙ ap (λ (c : Core). c.ended) (sym (does.core refl)) ∙ still_going o.turned.events o.begun cluster does)

  calm : set.shape.copies ≡ 1 → OnOk done (GoesCalmly cluster.core span.old span.new)
  calm one = by done refl
    where
      by : (r : Result ⊤ ClusterFault) → done ≡ r → OnOk r (GoesCalmly cluster.core span.old span.new)
      by (Err fault) is = tt
      by (Ok x) is = subst (λ r. OnOk r (GoesCalmly cluster.core span.old span.new)) is (o.turned.shows.calm span.old (calm_first one (began x is)))

  -- ---- what is past

  module _ (one : set.shape.copies ≡ 1) (told : tells) (p : ℕ) (last : (disk_at (stands_of span.old) p).last ≤ span.before) where
    first_past : PastStays span.before o.opened (disk_at (stands_of span.old) p) (disk_at (stands_of o.disks) p)
    first_past = read_past tells set mid b.taken some one read b.shares b.count b.ticks b.disks b.left told p last

    first_holds : HoldsLog o.opened o.begun.logs o.disks p
    first_holds = subst (λ l. HoldsLog o.opened l o.disks p) (sym b.logs) (read_holds tells set mid b.taken some one read b.shares b.count b.ticks b.disks b.left told p last)

    turns_past : (first_core set opened_found).ended ≡ None → LeavesPast o.opened span.now o.disks span.new cluster.logs done p
    turns_past going = o.turned.shows.past told span.old (calm_first one going) p first_holds

    whole_past : PastStays span.before span.now (disk_at (stands_of span.old) p) (disk_at (stands_of span.new) p)
    whole_past = go (first_core set opened_found).ended refl
      where
        go : (ended : Option CoreFault) → (first_core set opened_found).ended ≡ ended → PastStays span.before span.now (disk_at (stands_of span.old) p) (disk_at (stands_of span.new) p)
        go None going = past_then span.before o.opened span.now (disk_at (stands_of span.old) p) (disk_at (stands_of o.disks) p) (disk_at (stands_of span.new) p) first_past (turns_past going).stays
        go (Some fault) ended =
            let left : span.new ≡ o.disks = o.turned.still (subst (λ (x : Core). IsSome x.ended) core_is (ap is_some ended)) in
            subst (λ (ds : List DiskSeen). PastStays span.before span.now (disk_at (stands_of span.old) p) (disk_at (stands_of ds) p)) (sym left)
            (past_wait span.before o.opened span.now (disk_at (stands_of span.old) p) (disk_at (stands_of o.disks) p) (rises_to o.opened span.now o.turned.events o.turned.rises) first_past)

    past : LeavesPast span.before span.now span.old span.new cluster.logs done p
    past = record { stays = whole_past; holds = by done refl }
      where
        by : (r : Result ⊤ ClusterFault) → done ≡ r → OnOk r (HoldsLog span.now cluster.logs span.new p)
        by (Err fault) is = tt
        by (Ok x) is = subst (λ r. OnOk r (HoldsLog span.now cluster.logs span.new p)) is (turns_past (began x is)).holds

  goes_on : set.shape.copies ≡ 1 → tells → LeaveOneList span.before span.old → OnOk done (CanGoOn (runs whole_machine (open_whole set opened_found) o.turned.events) cluster.logs span.new span.now)
  goes_on one told sound = by done refl
    where
      by : (r : Result ⊤ ClusterFault) → done ≡ r → OnOk r (CanGoOn (runs whole_machine (open_whole set opened_found) o.turned.events) cluster.logs span.new span.now)
      by (Err fault) is = tt
      by (Ok x) is =
          subst (λ r. OnOk r (CanGoOn (runs whole_machine (open_whole set opened_found) o.turned.events) cluster.logs span.new span.now)) is
          (o.turned.shows.goes_on told (open_whole set opened_found) core_is (can one told sound (began x is)))

  reads_on : set.shape.copies ≡ 1 → tells → OnOk done (CanRead (runs whole_machine (open_whole set opened_found) o.turned.events) cluster.logs span.new)
  reads_on one told = by done refl
    where
      by : (r : Result ⊤ ClusterFault) → done ≡ r → OnOk r (CanRead (runs whole_machine (open_whole set opened_found) o.turned.events) cluster.logs span.new)
      by (Err fault) is = tt
      by (Ok x) is =
          subst (λ r. OnOk r (CanRead (runs whole_machine (open_whole set opened_found) o.turned.events) cluster.logs span.new)) is
          (o.turned.shows.reads_on told (open_whole set opened_found) core_is (could_read one told (began x is)))

  cached_on : set.shape.copies ≡ 1 → tells → OnOk done (AreCached (runs whole_machine (open_whole set opened_found) o.turned.events) cluster.cache)
  cached_on one told = by done refl
    where
      by : (r : Result ⊤ ClusterFault) → done ≡ r → OnOk r (AreCached (runs whole_machine (open_whole set opened_found) o.turned.events) cluster.cache)
      by (Err fault) is = tt
      by (Ok x) is =
          subst (λ r. OnOk r (AreCached (runs whole_machine (open_whole set opened_found) o.turned.events) cluster.cache)) is
          (o.turned.shows.cached told (open_whole set opened_found) core_is (could_read one told (began x is)) (uncached (open_whole set opened_found)))

  -- ---- whose header

  shape_is : o.begun.core.members.shape ≡ set.shape
  shape_is = shape_opens set.shape set.limits (opened_with b.taken) o.opened o.begun.core b.core

  module _ (told : tells) (peer : ℕ) (own : IsOwnAt set.shape span.before span.old peer) where
    abbrev head : Header
    head = own_header set.shape peer

    last_own : (seen_at span.old peer).stands.last ≤ span.before
    last_own = subst (λ (d : Standing). d.last ≤ span.before) (stands_seen span.old peer) own.called

    first_heads : KeepsHeads head span.before o.opened (disk_at (stands_of span.old) peer) (disk_at (stands_of o.disks) peer)
    first_heads = subst (λ (d : Standing). KeepsHeads head span.before o.opened d (disk_at (stands_of o.disks) peer)) (sym (stands_seen span.old peer))
        (subst (λ (d : Standing). KeepsHeads head span.before o.opened (seen_at span.old peer).stands d) (sym (stands_seen o.disks peer))
        (b.headed peer own.within told last_own (subst (λ (d : Standing). LeavesHeader d head) (stands_seen span.old peer) own.leaves)))

    first_headed : IsHeadedAt head o.opened o.begun.logs o.disks peer
    first_headed = record {
      called = first_heads.past.last;
      leaves = first_heads.keeps.standing;
      log = λ keeping at.
          let there : log_at b.taken.logs peer ≡ Some keeping = ap (λ l. log_at l peer) (sym b.logs) ∙ at in
          let under = b.owns.each told peer keeping there in
          record {
            generation = under.0;
            head = under.1;
            some = record {
              list = opened_list set opened_found (home_of set.shape peer);
              waiting = None;
              has = subst (λ (d : Standing). HasLog keeping d (opened_list set opened_found (home_of set.shape peer)) None) (sym (stands_seen o.disks peer))
                  (((finds tells set mid b.taken some read b.shares b.count b.ticks).each peer (omega (arith, own.within, b.disks))).log told last_own keeping there);
            };
          };
    }

    heads_opened : LeavesHeads head span.before span.now span.old span.new cluster.logs done peer
    heads_opened = heads_next head span.before o.opened span.now span.old o.disks span.new cluster.logs done peer
        (header_shown head span.before o.opened (disk_at (stands_of span.old) peer) (disk_at (stands_of o.disks) peer) first_heads)
        (subst (λ (s : Shape). IsHeadedAt (own_header s peer) o.opened o.begun.logs o.disks peer → LeavesHeads (own_header s peer) o.opened span.now o.disks span.new cluster.logs done peer) shape_is (o.turned.shows.headed told peer) first_headed)

  -- ---- the logs of the peers, with any number of copies

  abbrev all_found : Finds tells set mid opened_found b.taken.logs
  all_found = finds tells set mid b.taken some read b.shares b.count b.ticks

  module _ (told : tells) (calls : (peer : ℕ) → (seen_at span.old peer).stands.last ≤ span.before) (c : Whole) (opens : OpensLists set opened_found c) where
    shape_so : c.core.members.shape ≡ set.shape
    shape_so = ap (λ (x : Core). x.members.shape) (opens.core ∙ core_is) ∙ shape_is

    good_low : (p : ℕ) → starts_good opened_found p ≡ true → p < set.shape.shards * set.shape.copies
    good_low p good = elim (cases_lt p (set.shape.shards * set.shape.copies)) [
      | inl low ↦ low
      | inr high ↦ absurd (false_is_not (sym (get_or_past opened_found.good p false (let goods = all_found.goods in omega (arith, goods, high))) ∙ good))
    ]

    slot_good : (p : ℕ) → p < set.shape.shards * set.shape.copies → starts_good opened_found p ≡ true → (keeping : Keeping) × (log_at b.taken.logs p ≡ Some keeping)
    slot_good p low good = kept_by (log_at b.taken.logs p) (sym (all_found.each p low).good ∙ good)

    log_there : (p : ℕ) → p < set.shape.shards * set.shape.copies → (keeping : Keeping) → log_at b.taken.logs p ≡ Some keeping → HasLog keeping (disk_at (stands_of o.disks) p) (opened_list set opened_found (home_of set.shape p)) None
    log_there p low keeping at = subst (λ (d : Standing). HasLog keeping d (opened_list set opened_found (home_of set.shape p)) None) (sym (stands_seen o.disks p)) ((all_found.each p low).log told (calls p) keeping at)

    none_there : (p : ℕ) → set.shape.shards * set.shape.copies ≤ p → (seen_at o.disks p).stands ≡ untold
    none_there p high = ap (λ (d : DiskSeen). d.stands) (get_or_past o.disks p (record { size = λ side. 0; stands = untold; faults = 0 }) (let olds = b.disks in let news = b.left in omega (arith, high, olds, news)))

    called_there : (p : ℕ) → (disk_at (stands_of o.disks) p).last ≤ o.opened
    called_there p = elim (cases_lt p (set.shape.shards * set.shape.copies)) [
      | inl low ↦ subst (λ (d : Standing). d.last ≤ o.opened) (sym (stands_seen o.disks p)) ((all_found.each p low).past told (calls p)).last
      | inr high ↦ subst (λ (d : Standing). d.last ≤ o.opened) (sym (stands_seen o.disks p ∙ none_there p high)) (omega arith)
    ]

    peers_kept : KeepsPeers c o.begun.logs o.disks o.opened
    peers_kept = record {
      listed = record {
        each = λ p list is at.
            let low : p < set.shape.shards * set.shape.copies = subst (λ (s : Shape). IsPeer s p) shape_so is in
            let s = slot_good p low (opens.good p list low at) in
            let under = b.owns.each told p s.0 s.1 in
            record {
              keeping = s.0;
              used = ap (λ l. log_at l p) b.logs ∙ s.1;
              generation = under.0;
              head = subst (λ (h : Shape). s.0.log.head ≡ Some (own_header h p, under.0)) (sym shape_so) under.1;
              has = subst (λ w. HasLog s.0 (disk_at (stands_of o.disks) p) list w) (sym (opens.none p list low at))
                  (subst (λ (l : Numbered). HasLog s.0 (disk_at (stands_of o.disks) p) l None) (sym (opens.listed p list low at)) (log_there p low s.0 s.1));
            };
      };
      keeps = record {
        called = called_there;
        fine = λ p is image stands.
            let low = good_low p (opens.counted p is) in
            let s = slot_good p low (opens.counted p is) in
            record {
              list = opened_list set opened_found (home_of set.shape p);
              read = (log_there p low s.0 s.1).leaves image (record { sides = stands.sides });
              front = opens.front p is;
              long = opens.long p is;
            };
      };
      headed = λ p is.
          let low = good_low p (opens.counted p is) in
          let s = slot_good p low (opens.counted p is) in
          let under = b.owns.each told p s.0 s.1 in
          subst (λ (h : Shape). LeavesHeader (disk_at (stands_of o.disks) p) (own_header h p)) (sym shape_so) ((log_there p low s.0 s.1).headed (own_header set.shape p, under.0) under.1);
    }

  -- what was found is told of the core over what was taken
  pub opens_found : Opens tells set span cluster done
  opens_found = record {
    found = opened_found;
    begun = o.begun;
    disks = o.disks;
    finds = subst (λ l. Finds tells set mid opened_found l) (sym b.logs) (finds tells set mid b.taken some read b.shares b.count b.ticks);
    own = b.own;
    events = o.turned.events;
    due = subst (λ x. is_walk next_turn (not (ran_out done)) 0 x o.turned.events ≡ true) (sym core_is) o.turned.due;
    rises = o.turned.rises;
    core = λ there. o.turned.does.core there ∙ ap (λ x. steps x o.turned.events) (sym core_is);
    outcome = o.turned.does.outcome;
    going = λ out. ap (λ x. (steps x o.turned.events).ended) core_is ∙ o.turned.does.going out;
    journal = o.turned.does.journal ∙ ap (λ x. (steps x o.turned.events).journal) (sym core_is);
    refused = o.turned.does.refused ∙ ap (λ x. (steps x o.turned.events).refused) (sym core_is);
    course = o.turned.does.course ∙ (λ i. course_is i ++ items_of (sym core_is i) o.turned.events);
    falls = b.falls;
    counted = subst (λ x. AreCounted x o.turned.events o.disks span.new) (sym core_is) o.turned.shows.counted;
    untold = λ out. subst (λ x. UntoldStand x o.turned.events o.disks span.new) (sym core_is) (o.turned.shows.untold out);
    rooms = subst (λ x. HaveRecordRoom x o.turned.events) (sym core_is) o.turned.does.rooms;
    calm = calm;
    past = past;
    still = λ ended. o.turned.still (subst (λ (x : Core). IsSome x.ended) core_is ended);
    lists = lists;
    goes_on = goes_on;
    told = λ one told going. o.turned.shows.told told (open_whole set opened_found) core_is (could_read one told going) (uncached (open_whole set opened_found));
    read = λ one told going stored.
        subst (λ x. AreAllCounted x o.turned.events o.disks span.new) (sym core_is)
        (o.turned.shows.read told (open_whole set opened_found) core_is (could_read one told going) stored);
    reads_on = reads_on;
    cached = cached_on;
    owns = subst (λ l. OwnTheirLogs tells set.shape (log_at l)) (sym b.logs) b.owns;
    headed = heads_opened;
    peers = peers_kept;
    begins = sym core_is;
    uncached = b.uncached;
    copies = λ told. o.turned.shows.copies told;
  }
