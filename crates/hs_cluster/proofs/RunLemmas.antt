-- A run on disks goes on: from its opening, by the events of a line, and while the watch alone ticks.
use Rattle.std.proofs.Common.{◌≡◌, ◌∙◌, inl, inr, ap, sym, subst, ℕ, suc, ◌+◌, ◌-◌, ◌^◌, ◌<◌, ◌≤◌, Bool, true, false, List, [], ◌∷◌, ◌++◌, length, None, refl, arith, nat_lt}
use Rattle.std.proofs.lemmas.Bool.{cases_lt, false≢true, ne_eqb}
use Rattle.std.proofs.lemmas.List.{get_or_past}
use Rattle.std.proofs.lemmas.List.Sums.{sum_by-cons}
use Rattle.std.specs.List.{AllPairs}
use Rattle.std.specs.Prelude.{◌==◌, ⊤, Contains, OnOk, Result, Ok, Err, cond, count_by, if◌then◌else◌, slice_index_or, Option}
use Rattle.hs_cluster.proofs.CountLemmas.{all_then, counted_before, counted_then, failures_append, rose_none, rose_then}
use Rattle.hs_cache.specs.Cached.{Cached, pairs_of}
use Rattle.hs_cluster.proofs.CachedLemmas.{empty_cached, none_cached}
use Rattle.hs_cluster.proofs.GoingOnLemmas.{going_before}
use Rattle.hs_cluster.proofs.HeadLemmas.{header_wait, heads_behind, heads_next}
use Rattle.hs_cluster.proofs.OpenedLemmas.{opens_so}
use Rattle.hs_cluster.proofs.PastLemmas.{leaves_then}
use Rattle.hs_cluster.proofs.PeerShowLemmas.{steady_back, steady_front}
use Rattle.hs_cluster.proofs.RoomLemmas.{rooms_then}
use Rattle.hs_cluster.proofs.StretchLemmas.{lists_then, rises_to, runs_append, runs_core, steps_shape, stored_back, stored_front, told_then}
use Rattle.hs_cluster.proofs.TurnedLemmas.{not_ended}
use Rattle.hs_cluster.specs.Calls.{ran_out}
use Rattle.hs_cluster.specs.Cached.{AreCached}
use Rattle.hs_cluster.specs.Calm.{GoesCalmly}
use Rattle.hs_cluster.specs.Counts.{AreAllCounted}
use Rattle.hs_cluster.specs.declared.fault.ClusterFault.{ClusterFault}
use Rattle.hs_cluster.specs.Disks.{DiskSeen, seen_at, stands_of}
use Rattle.hs_cluster.specs.Headed.{IsHeadedAt, IsOwnAt, LeavesHeads}
use Rattle.hs_cluster.specs.Kept.{AreStored, CanGoOn, CanRead, LeavesLists, Shows, Span}
use Rattle.hs_cluster.specs.Opens.{LeaveOneList, Opens, OpensLists}
use Rattle.hs_cluster.specs.Past.{HoldsLog, LeavesPast}
use Rattle.hs_cluster.specs.PeerLogs.{KeepsPeers}
use Rattle.hs_cluster.specs.Rooms.{HaveRecordRoom}
use Rattle.hs_cluster.specs.Running.{Running}
use Rattle.hs_cluster.specs.RunsOn.{CanRunOn, RunsOn, StandUntold}
use Rattle.hs_cluster.specs.Steady.{AreSteady}
use Rattle.hs_core_words.specs.State.{Core}
use Rattle.hs_events.specs.Course.{happened, steps}
use Rattle.hs_events.specs.Due.{Events, MomentsRise}
use Rattle.hs_events.specs.Found.{Found, first_core, opens_with, starts_good}
use Rattle.hs_events.specs.Reports.{failures}
use Rattle.hs_events.specs.Taken.{peer_count}
use Rattle.hs_events.specs.Whole.{Whole, counts, open_whole}
use Rattle.hs_fold.specs.Images.{IsLeft}
use Rattle.hs_fold.specs.Shards.Setting.{Setting}
use Rattle.hs_limits.specs.declared.shape.Shape.{Shape}
use Rattle.hs_moments.proofs.HappenedLemmas.{happened_rise}
use Rattle.hs_moments.proofs.MomentLemmas.{later-keeps, lt-is}
use Rattle.hs_moments.specs.Machine.{runs, state_at, until}
use Rattle.hs_moments.specs.Moments.{GivesFine, IsStanding, Since}
use Rattle.hs_moments.specs.WholeMachine.{whole_machine}
use Rattle.hs_ports.specs.declared.disk.Side.{Side}
use Rattle.hs_ports.specs.Disk.{IsImage}
use Rattle.hs_ports.specs.Fault.{HasRisen}
use Rattle.hs_ports.specs.Moments.{disk_at}
use Rattle.hs_ports.specs.Objects.{RoseBy}
use Rattle.hs_side.specs.Headers.{own_header}
use Rattle.hs_taking.proofs.PastLemmas.{past_wait}
use Rattle.hs_taking.specs.Shares.{IsLater, Span as Taking}

-- ---- opening

-- no count rose but of a disk that is told of, or whose peer was not good
pub untold_opened : (tells : Type 0) (set : Setting) (s : Taking) (cluster : Running) (done : Result ⊤ ClusterFault) (o : Opens tells set s cluster done) → ran_out done ≡ false → StandUntold set o.found o.events s.old s.new
untold_opened tells set s cluster done o out = λ disk good none. o.untold out disk none ∙ (o.finds.each disk (low disk good)).calm good
  where
    low : (disk : ℕ) → starts_good o.found disk ≡ true → disk < peer_count set.shape
    low disk good = elim (cases_lt disk (peer_count set.shape)) [
      | inl less ↦ less
      | inr high ↦ absurd (false≢true (sym (get_or_past o.found.good disk false (let goods = o.finds.goods in omega (arith, goods, high))) ∙ good))
    ]

-- from entry to behind its turns
abbrev pub opening_span : Taking → Running → Running → Span
opening_span s begun cluster = record { before = s.before; now = s.now; old = begun; new = cluster; disks = s.old; left = s.new }

pub runs_opened : (tells : Type 0) (set : Setting) (s : Taking) (cluster : Running) (done : Result ⊤ ClusterFault) (o : Opens tells set s cluster done) → RunsOn tells set (opening_span s o.begun cluster) o.found o.events
runs_opened tells set s cluster done o = record {
  slots = o.begun.logs;
  disks = o.disks;
  finds = o.finds;
  own = o.own;
  falls = o.falls;
  counted = o.counted;
  rooms = o.rooms;
  still = o.still;
  past = λ one told peer last. (o.past one told peer last).stays;
  headed = λ told peer own. (o.headed told peer own).disk;
  lists = o.lists;
  told = o.told;
  read = o.read;
  copies = λ told called c opens steady. (o.copies told).lists c (opens.core ∙ sym o.begins) steady (o.peers told called c opens) (none_cached c o.begun.cache o.uncached);
  reads = λ told called c opens steady stored.
      subst (λ x. AreAllCounted x o.events o.disks s.new) o.begins ((o.copies told).read c (opens.core ∙ sym o.begins) steady (o.peers told called c opens) stored);
}

pub can_opened : (tells : Type 0) (set : Setting) (s : Taking) (cluster : Running) (done : Result ⊤ ClusterFault) (o : Opens tells set s cluster done) → OnOk done (CanRunOn tells set (opening_span s o.begun cluster) o.found o.events)
can_opened tells set s cluster (Ok tt) o = record { untold = untold_opened tells set s cluster (Ok tt) o refl; calm = o.calm; holds = λ one told peer last. (o.past one told peer last).holds; owns = λ told peer own. heads_behind (own_header set.shape peer) s.before s.now s.old s.new cluster.logs peer (o.headed told peer own); goes = λ one told sound. o.goes_on one told sound; reads = λ one told. o.reads_on one told; cached = λ one told. o.cached one told; keeps = λ told called c opens steady. (o.copies told).goes_on c (opens.core ∙ sym o.begins) steady (o.peers told called c opens); keeps_cached = λ told called c opens steady. (o.copies told).cached c (opens.core ∙ sym o.begins) steady (o.peers told called c opens) (none_cached c o.begun.cache o.uncached) }
can_opened tells set s cluster (Err fault) o = tt

-- ---- the events of a line

rises_from : (low from to : ℕ) (es : Events) → low ≤ from → MomentsRise from es to → MomentsRise low es to
rises_from low from to [] below h = omega (arith, below, h)
rises_from low from to (e ∷ es) below h = let above = h.0 in (omega (arith, below, above), h.1)

module _ (tells : Type 0) (set : Setting) (found : Found) (before mid now : ℕ) (begun here new : Running) (disks between left : List DiskSeen) (r : Result ⊤ ClusterFault) (es fs : Events)
    (so_far : RunsOn tells set (record { before = before; now = mid; old = begun; new = here; disks = disks; left = between }) found es)
    (can : CanRunOn tells set (record { before = before; now = mid; old = begun; new = here; disks = disks; left = between }) found es)
    (core : here.core ≡ steps (first_core set found) es) (going : here.core.ended ≡ None) (rises : MomentsRise found.opened es mid) (on : MomentsRise mid fs now) (rooms : HaveRecordRoom here.core fs)
    (shows : Shows tells (record { before = mid; now = now; old = here; new = new; disks = between; left = left }) r fs) where
  abbrev c : Whole
  c = open_whole set found

  abbrev behind : Whole
  behind = runs whole_machine c es

  behind_core : behind.core ≡ here.core
  behind_core = runs_core c es ∙ sym core

  goes : (steps c.core es).ended ≡ None
  goes = ap (λ (x : Core). x.ended) (sym core) ∙ going

  shape_is : here.core.members.shape ≡ set.shape
  shape_is = ap (λ (x : Core). x.members.shape) core ∙ steps_shape es (first_core set found) ∙ (opens_so set.shape set.limits (opens_with set found) found.opened).shape

  rise : MomentsRise before es mid
  rise = rises_from before found.opened mid es so_far.finds.later rises

  lists : set.shape.copies ≡ 1 → tells → LeaveOneList before disks → (first_core set found).ended ≡ None → LeavesLists c (es ++ fs) (record { before = before; now = now; old = begun; new = new; disks = disks; left = left })
  lists alone told sound first =
      lists_then c es fs before mid now begun here new disks between left goes rise on (so_far.lists alone told sound first) (shows.lists told behind behind_core (can.goes alone told sound) (can.cached alone told))

  past : set.shape.copies ≡ 1 → tells → (peer : ℕ) → (disk_at (stands_of disks) peer).last ≤ before → LeavesPast before now disks left new.logs r peer
  past one told peer last = leaves_then before mid now disks between left new.logs r peer (so_far.past one told peer last) (shows.past told disks (can.calm one) peer (can.holds one told peer last))

  heads : tells → (peer : ℕ) → IsOwnAt set.shape before disks peer → LeavesHeads (own_header set.shape peer) before now disks left new.logs r peer
  heads told peer own = heads_next (own_header set.shape peer) before mid now disks between left new.logs r peer (so_far.headed told peer own)
      (subst (λ (s : Shape). IsHeadedAt (own_header s peer) mid here.logs between peer → LeavesHeads (own_header s peer) mid now between left new.logs r peer) shape_is (shows.headed told peer) (can.owns told peer own))

  -- ---- with any number of copies

  module _ (told : tells) (called : (peer : ℕ) → (seen_at disks peer).stands.last ≤ before) (x : Whole) (opens : OpensLists set found x) (steady : AreSteady x (es ++ fs)) where
    x_goes : (steps x.core es).ended ≡ None
    x_goes = ap (λ y. (steps y es).ended) opens.core ∙ goes

    x_front : AreSteady x es
    x_front = steady_front x es fs x_goes steady

    x_core : (runs whole_machine x es).core ≡ here.core
    x_core = runs_core x es ∙ ap (λ y. steps y es) opens.core ∙ sym core

    x_lists : LeavesLists x (es ++ fs) (record { before = found.opened; now = now; old = begun; new = new; disks = so_far.disks; left = left })
    x_lists =
        lists_then x es fs found.opened mid now begun here new so_far.disks between left x_goes rises on (so_far.copies told called x opens x_front)
        ((shows.copies told).lists (runs whole_machine x es) x_core (steady_back x es fs steady) (can.keeps told called x opens x_front) (can.keeps_cached told called x opens x_front))

    x_keeps : OnOk r (KeepsPeers (runs whole_machine x (es ++ fs)) new.logs left now)
    x_keeps =
        subst (λ s. OnOk r (KeepsPeers s new.logs left now)) (sym (runs_append x es fs))
        ((shows.copies told).goes_on (runs whole_machine x es) x_core (steady_back x es fs steady) (can.keeps told called x opens x_front))

    x_reads : AreStored x (es ++ fs) → AreAllCounted (first_core set found) (es ++ fs) so_far.disks left
    x_reads stored =
        all_then (first_core set found) here.core es fs so_far.disks between left core (so_far.reads told called x opens x_front (stored_front x es fs stored))
        ((shows.copies told).read (runs whole_machine x es) x_core (steady_back x es fs steady) (can.keeps told called x opens x_front) (stored_back x es fs stored))

    x_cached : OnOk r (AreCached (runs whole_machine x (es ++ fs)) new.cache)
    x_cached =
        subst (λ s. OnOk r (AreCached s new.cache)) (sym (runs_append x es fs))
        ((shows.copies told).cached (runs whole_machine x es) x_core (steady_back x es fs steady) (can.keeps told called x opens x_front) (can.keeps_cached told called x opens x_front))

  pub untold_more : ran_out r ≡ false → StandUntold set found (es ++ fs) disks left
  untold_more out = λ disk good none.
      let sum = sym (failures_append true disk (first_core set found) es fs) ∙ none in
      shows.untold out disk (ap (λ x. failures true disk x fs) core ∙ none_right (failures true disk (first_core set found) es) (failures true disk (steps (first_core set found) es) fs) sum)
      ∙ can.untold disk good (none_left (failures true disk (first_core set found) es) (failures true disk (steps (first_core set found) es) fs) sum)
    where
      none_left : (a b : ℕ) → a + b ≡ 0 → a ≡ 0
      none_left a b h = omega (arith, h)

      none_right : (a b : ℕ) → a + b ≡ 0 → b ≡ 0
      none_right a b h = omega (arith, h)

  pub runs_more : RunsOn tells set (record { before = before; now = now; old = begun; new = new; disks = disks; left = left }) found (es ++ fs)
  runs_more = record {
    slots = so_far.slots;
    disks = so_far.disks;
    finds = so_far.finds;
    own = so_far.own;
    falls = so_far.falls;
    counted = counted_then (first_core set found) here.core es fs so_far.disks between left core so_far.counted shows.counted;
    still = λ ended. absurd (not_ended (first_core set found).ended (going_before (first_core set found) es goes) ended);
    past = λ one told peer last. (past one told peer last).stays;
    headed = λ told peer own. (heads told peer own).disk;
    rooms = rooms_then (first_core set found) es fs so_far.rooms (subst (λ x. HaveRecordRoom x fs) core rooms);
    lists = lists;
    told = λ one told first. told_then c es fs (so_far.told one told first) (shows.told told behind behind_core (can.reads one told) (can.cached one told));
    read = λ one told first stored.
        all_then (first_core set found) here.core es fs so_far.disks between left core (so_far.read one told first (stored_front c es fs stored))
        (shows.read told behind behind_core (can.reads one told) (stored_back c es fs stored));
    copies = x_lists;
    reads = x_reads;
  }

  pub can_more : OnOk r (CanRunOn tells set (record { before = before; now = now; old = begun; new = new; disks = disks; left = left }) found (es ++ fs))
  can_more =
      by r (λ one. shows.calm disks (can.calm one)) (λ one told peer last. (past one told peer last).holds) heads (λ one told sound. shows.goes_on told behind behind_core (can.goes one told sound))
      (λ one told. shows.reads_on told behind behind_core (can.reads one told)) x_keeps (λ one told. shows.cached told behind behind_core (can.reads one told) (can.cached one told)) x_cached untold_more
    where
      by : (r : Result ⊤ ClusterFault) → (set.shape.copies ≡ 1 → OnOk r (GoesCalmly new.core disks left)) → (set.shape.copies ≡ 1 → tells → (peer : ℕ) → (disk_at (stands_of disks) peer).last ≤ before → OnOk r (HoldsLog now new.logs left peer))
          → (tells → (peer : ℕ) → IsOwnAt set.shape before disks peer → LeavesHeads (own_header set.shape peer) before now disks left new.logs r peer)
          → (set.shape.copies ≡ 1 → tells → LeaveOneList before disks → OnOk r (CanGoOn (runs whole_machine behind fs) new.logs left now)) → (set.shape.copies ≡ 1 → tells → OnOk r (CanRead (runs whole_machine behind fs) new.logs left))
          → (tells → ((peer : ℕ) → (seen_at disks peer).stands.last ≤ before) → (x : Whole) → OpensLists set found x → AreSteady x (es ++ fs) → OnOk r (KeepsPeers (runs whole_machine x (es ++ fs)) new.logs left now))
          → (set.shape.copies ≡ 1 → tells → OnOk r (AreCached (runs whole_machine behind fs) new.cache))
          → (tells → ((peer : ℕ) → (seen_at disks peer).stands.last ≤ before) → (x : Whole) → OpensLists set found x → AreSteady x (es ++ fs) → OnOk r (AreCached (runs whole_machine x (es ++ fs)) new.cache))
          → (ran_out r ≡ false → StandUntold set found (es ++ fs) disks left)
          → OnOk r (CanRunOn tells set (record { before = before; now = now; old = begun; new = new; disks = disks; left = left }) found (es ++ fs))
      by (Err fault) calm holds own h g k p q u = tt
      by (Ok tt) calm holds own h g k p q u = record {
        untold = u refl;
        calm = calm;
        holds = holds;
        owns = λ told peer is. heads_behind (own_header set.shape peer) before now disks left new.logs peer (own told peer is);
        goes = λ one told sound. subst (λ s. CanGoOn s new.logs left now) (sym (runs_append c es fs)) (h one told sound);
        reads = λ one told. subst (λ s. CanRead s new.logs left) (sym (runs_append c es fs)) (g one told);
        cached = λ one told. subst (λ s. AreCached s new.cache) (sym (runs_append c es fs)) (p one told);
        keeps = k;
        keeps_cached = q;
      }

-- ---- time alone

until_all : (m from to : ℕ) (es : Events) → to < m → MomentsRise from es to → until m es ≡ es
until_all m from to [] high rises = refl
until_all m from to (e ∷ es) high rises =
    let is : nat_lt e.1 m ≡ true = lt-is e.1 m (let rest = rises_to e.1 to es rises.1 in omega (arith, high, rest)) in
    ap (λ b. if b then e ∷ until m es else []) is ∙ ap (λ xs. e ∷ xs) (until_all m e.1 to es high rises.1)

lists_later : (c : Whole) (es : Events) (before now later : ℕ) (begun cluster : Running) (disks left : List DiskSeen) → now ≤ later → MomentsRise before es now → Since (stands_of left)
    → LeavesLists c es (record { before = before; now = now; old = begun; new = cluster; disks = disks; left = left })
    → LeavesLists c es (record { before = before; now = later; old = begun; new = cluster; disks = disks; left = left })
lists_later c es before now later begun cluster disks left ticks rises since so_far = record {
  earlier = so_far.earlier;
  moments = record {
    fine = λ m k low high fits counted image is_left. elim (cases_lt now m) [
      | inl above ↦ late m k above counted image is_left
      | inr le ↦ so_far.moments.fine m k low le fits counted image is_left
    ];
  };
  keeps = later-keeps whole_machine (runs whole_machine c (happened c.core es)) now later (stands_of left) ticks so_far.keeps;
  told = so_far.told;
}
  where
    late : (m k : ℕ) → now < m → counts (state_at whole_machine c (happened c.core es) m) k ≡ true → (image : Side → List ℕ) → IsLeft (disk_at (stands_of left) k) m image
        → GivesFine whole_machine (state_at whole_machine c (happened c.core es) m) k image
    late m k above counted image is_left =
        let same : state_at whole_machine c (happened c.core es) m ≡ runs whole_machine c (happened c.core es) = ap (λ xs. runs whole_machine c xs) (until_all m before now (happened c.core es) above (happened_rise c.core before now es rises)) in
        let stands : IsStanding (disk_at (stands_of left) k) image = record { sides = λ side. subst (λ x. IsImage x (image side)) (since k side m (let last = so_far.keeps.called k in omega (arith, last, above))) (is_left.sides side) } in
        subst (λ s. GivesFine whole_machine s k image) (sym same) (so_far.keeps.fine k (subst (λ s. counts s k ≡ true) same counted) image stands)

pub runs_later : (tells : Type 0) (set : Setting) (found : Found) (before now later : ℕ) (begun cluster : Running) (disks left : List DiskSeen) (es : Events) → now ≤ later → MomentsRise found.opened es now → (tells → Since (stands_of left))
    → RunsOn tells set (record { before = before; now = now; old = begun; new = cluster; disks = disks; left = left }) found es
    → RunsOn tells set (record { before = before; now = later; old = begun; new = cluster; disks = disks; left = left }) found es
runs_later tells set found before now later begun cluster disks left es ticks rises since so_far = record {
  slots = so_far.slots;
  disks = so_far.disks;
  finds = so_far.finds;
  own = so_far.own;
  falls = so_far.falls;
  counted = so_far.counted;
  rooms = so_far.rooms;
  still = so_far.still;
  past = λ one told peer last. past_wait before now later (disk_at (stands_of disks) peer) (disk_at (stands_of left) peer) ticks (so_far.past one told peer last);
  headed = λ told peer own. header_wait (own_header set.shape peer) before now later (disk_at (stands_of disks) peer) (disk_at (stands_of left) peer) ticks (since told peer) (so_far.headed told peer own);
  lists = λ one told sound first. lists_later (open_whole set found) es before now later begun cluster disks left ticks (rises_from before found.opened now es so_far.finds.later rises) (since told) (so_far.lists one told sound first);
  told = so_far.told;
  read = so_far.read;
  copies = λ told called x opens steady. lists_later x es found.opened now later begun cluster so_far.disks left ticks rises (since told) (so_far.copies told called x opens steady);
  reads = so_far.reads;
}

pub can_later : (tells : Type 0) (set : Setting) (found : Found) (before now later : ℕ) (begun cluster : Running) (disks left : List DiskSeen) (es : Events) → now ≤ later
    → CanRunOn tells set (record { before = before; now = now; old = begun; new = cluster; disks = disks; left = left }) found es
    → CanRunOn tells set (record { before = before; now = later; old = begun; new = cluster; disks = disks; left = left }) found es
can_later tells set found before now later begun cluster disks left es ticks can = record {
  untold = can.untold;
  calm = can.calm;
  holds = λ one told peer last.
      let so_far = can.holds one told peer last in
      record { called = let low = so_far.called in omega (arith, low, ticks); log = so_far.log };
  owns = λ told peer own.
      let so_far = can.owns told peer own in
      record { called = let low = so_far.called in omega (arith, low, ticks); leaves = so_far.leaves; log = so_far.log };
  goes = λ one told sound.
      let so_far = can.goes one told sound in
      record {
        sane = so_far.sane;
        listed = so_far.listed;
        keeps = later-keeps whole_machine (runs whole_machine (open_whole set found) es) now later (stands_of left) ticks so_far.keeps;
      };
  reads = can.reads;
  cached = can.cached;
  keeps = λ told called x opens steady.
      let so_far = can.keeps told called x opens steady in
      record { listed = so_far.listed; keeps = later-keeps whole_machine (runs whole_machine x es) now later (stands_of left) ticks so_far.keeps; headed = so_far.headed };
  keeps_cached = can.keeps_cached;
}

-- ---- another cache, in which nothing is kept

lists_beside : (c : Whole) (es : Events) (before now : ℕ) (begun cluster other : Running) (disks left : List DiskSeen) → LeavesLists c es (record { before = before; now = now; old = begun; new = cluster; disks = disks; left = left })
    → LeavesLists c es (record { before = before; now = now; old = begun; new = other; disks = disks; left = left })
lists_beside c es before now begun cluster other disks left h = record { earlier = h.earlier; moments = h.moments; keeps = h.keeps; told = h.told }

-- what was shown so far is so whatever the cluster is then
pub runs_beside : (tells : Type 0) (set : Setting) (found : Found) (before now : ℕ) (begun cluster other : Running) (disks left : List DiskSeen) (es : Events)
    → RunsOn tells set (record { before = before; now = now; old = begun; new = cluster; disks = disks; left = left }) found es
    → RunsOn tells set (record { before = before; now = now; old = begun; new = other; disks = disks; left = left }) found es
runs_beside tells set found before now begun cluster other disks left es so_far = record {
  slots = so_far.slots;
  disks = so_far.disks;
  finds = so_far.finds;
  own = so_far.own;
  falls = so_far.falls;
  counted = so_far.counted;
  rooms = so_far.rooms;
  still = so_far.still;
  past = so_far.past;
  headed = so_far.headed;
  lists = λ one told sound first. lists_beside (open_whole set found) es before now begun cluster other disks left (so_far.lists one told sound first);
  told = so_far.told;
  read = so_far.read;
  copies = λ told called x opens steady. lists_beside x es found.opened now begun cluster other so_far.disks left (so_far.copies told called x opens steady);
  reads = so_far.reads;
}

pub can_cache : (tells : Type 0) (set : Setting) (found : Found) (before now : ℕ) (begun cluster : Running) (cache : Option Cached) (disks left : List DiskSeen) (es : Events) → pairs_of cache ≡ []
    → CanRunOn tells set (record { before = before; now = now; old = begun; new = cluster; disks = disks; left = left }) found es
    → CanRunOn tells set (record { before = before; now = now; old = begun; new = record cluster { cache = cache }; disks = disks; left = left }) found es
can_cache tells set found before now begun cluster cache disks left es none can = record {
  untold = can.untold;
  calm = can.calm;
  holds = can.holds;
  owns = can.owns;
  goes = can.goes;
  reads = can.reads;
  cached = λ one told. empty_cached (runs whole_machine (open_whole set found) es) cache none;
  keeps = can.keeps;
  keeps_cached = λ told called x opens steady. empty_cached (runs whole_machine x es) cache none;
}

-- ---- failed calls from entry on

count_none : (disk : ℕ) (xs : List (ℕ × ℕ)) → ((k : ℕ) (d : ℕ × ℕ) → k < length xs → ((slice_index_or xs k d).0 == disk) ≡ false) → count_by (λ x. x.0 == disk) xs ≡ 0
count_none disk [] none = refl
count_none disk (x ∷ xs) none =
    sum_by-cons (λ y. cond (y.0 == disk) 1 0) x xs
    ∙ ap (λ b. cond b 1 0 + count_by (λ y. y.0 == disk) xs) (none 0 x (omega arith))
    ∙ ap (λ n. 0 + n) (count_none disk xs (λ k d low. none (suc k) d (omega (arith, low))))

-- no peer is lost twice, so its loss is at its count
losses : (disk a b : ℕ) (xs : List (ℕ × ℕ)) → a ≤ b → ((x : ℕ × ℕ) → Contains xs x → x.0 ≡ disk → HasRisen a b) → AllPairs IsLater xs → RoseBy (count_by (λ x. x.0 == disk) xs) a b
losses disk a b [] later rose once = rose_none (2 ^ 64 - 1) a b later
losses disk a b (x ∷ xs) later rose once =
    go (losses disk a b xs later (λ y c same. rose y (suc c.0, (let low = c.1 in omega (arith, low)), c.2) same) (λ i j d lt within. once (suc i) (suc j) d (omega (arith, lt)) (omega (arith, within)))) (x.0 == disk) refl
  where
    there : (n m : ℕ) → (n == m) ≡ true → n ≡ m
    there n m h = grind arith

    more : (t : Bool) → (x.0 == disk) ≡ t → count_by (λ y. y.0 == disk) (x ∷ xs) ≡ cond t 1 0 + count_by (λ y. y.0 == disk) xs
    more t is = sum_by-cons (λ y. cond (y.0 == disk) 1 0) x xs ∙ ap (λ b. cond b 1 0 + count_by (λ y. y.0 == disk) xs) is

    bare : (n : ℕ) → 0 + n ≡ n
    bare n = omega arith

    none : x.0 ≡ disk → count_by (λ y. y.0 == disk) xs ≡ 0
    none same = count_none disk xs (λ k d low. ne_eqb (slice_index_or xs k d).0 disk (λ e. (once 0 (suc k) d (omega arith) (omega (arith, low))).1 (same ∙ sym e)))

    go : RoseBy (count_by (λ y. y.0 == disk) xs) a b → (t : Bool) → (x.0 == disk) ≡ t → RoseBy (count_by (λ y. y.0 == disk) (x ∷ xs)) a b
    go rest true is =
        subst (λ n. RoseBy n a b) (sym (more true is ∙ ap (λ n. 1 + n) (none (there x.0 disk is)))) (rose x (0, omega arith, refl) (there x.0 disk is))
    go rest false is = subst (λ n. RoseBy n a b) (sym (more false is ∙ bare (count_by (λ y. y.0 == disk) xs))) rest

pub lost_before : (tells : Type 0) (set : Setting) (s : Span) (found : Found) (es : Events) (on : RunsOn tells set s found es) → tells → (disk : ℕ)
    → RoseBy (count_by (λ x. x.0 == disk) found.lost) (seen_at s.disks disk).faults (seen_at on.disks disk).faults
lost_before tells set s found es on told disk =
    losses disk (seen_at s.disks disk).faults (seen_at on.disks disk).faults found.lost (on.falls disk)
    (λ x among same. subst (λ p. HasRisen (seen_at s.disks p).faults (seen_at on.disks p).faults) same ((on.finds.lost x among).disk.failed told)) on.finds.once

-- those of opening's reading, with those that the reports tell
pub all_failed : (tells : Type 0) (set : Setting) (s : Span) (found : Found) (es : Events) (on : RunsOn tells set s found es) → tells → AreAllCounted (first_core set found) es on.disks s.left
    → (disk : ℕ) → RoseBy (failures true disk (first_core set found) es + count_by (λ x. x.0 == disk) found.lost) (seen_at s.disks disk).faults (seen_at s.left disk).faults
all_failed tells set s found es on told counted = λ disk.
    subst (λ n. RoseBy n (seen_at s.disks disk).faults (seen_at s.left disk).faults) (swapped (count_by (λ x. x.0 == disk) found.lost) (failures true disk (first_core set found) es))
    (rose_then (2 ^ 64 - 1) (seen_at s.disks disk).faults (seen_at on.disks disk).faults (seen_at s.left disk).faults (count_by (λ x. x.0 == disk) found.lost) (failures true disk (first_core set found) es)
    (lost_before tells set s found es on told disk) (counted disk))
  where
    swapped : (a b : ℕ) → a + b ≡ b + a
    swapped a b = omega arith

-- of whatever disks, but for reads
pub some_failed : (tells : Type 0) (set : Setting) (s : Span) (found : Found) (es : Events) → RunsOn tells set s found es → (disk : ℕ) → RoseBy (failures false disk (first_core set found) es) (seen_at s.disks disk).faults (seen_at s.left disk).faults
some_failed tells set s found es on = (counted_before (first_core set found) es s.disks on.disks s.left on.falls on.counted).failed
