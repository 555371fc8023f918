-- A cluster that opens over sound lists is in a run.
use Rattle.std.proofs.Common.{◌≡◌, ◌≢◌, ◌⊎◌, ◌∙◌, inl, inr, ap, sym, subst, ℕ, zero, suc, ◌+◌, ◌*◌, ◌<◌, ◌≤◌, not, Bool, true, false, List, [], ◌∷◌, Option, Some, None, refl, drop, length, map, take, arith, if◌then◌else◌}
use Rattle.std.proofs.lemmas.Bool.{cases_eq, cases_lt}
use Rattle.std.proofs.lemmas.List.{get_or_past}
use Rattle.std.specs.List.{AllByRecursion, list_any, range_with_len}
use Rattle.std.specs.Prelude.{⊤, OnOk, Result, Ok, slice_index_or, unwrap_or}
use Rattle.hs_answered.specs.Telling.{Judging}
use Rattle.hs_standing.proofs.AddressedLemmas.{settle_addressed}
use Rattle.hs_clauses.proofs.FirstLemmas.{opens_first}
use Rattle.hs_clauses.proofs.LineLemmas.{opening_due}
use Rattle.hs_clauses.proofs.ReadLemmas.{BringsAll, applied_all, from_empty, read_brings, read_from_one}
use Rattle.hs_standing.proofs.FirstRoomLemmas.{first_room}
use Rattle.hs_cluster.proofs.CachedLemmas.{none_cached}
use Rattle.hs_cluster.specs.Cached.{AreCached}
use Rattle.hs_cluster.specs.Calls.{ran_out}
use Rattle.hs_cluster.specs.Counts.{AreAllCounted}
use Rattle.hs_cluster.specs.declared.fault.ClusterFault.{ClusterFault}
use Rattle.hs_cluster.specs.Kept.{AreStored, AreTold}
use Rattle.hs_cluster.specs.Opens.{Opens, OpensLists}
use Rattle.hs_cluster.specs.PeerLogs.{KeepsPeers}
use Rattle.hs_cluster.specs.Running.{Running}
use Rattle.hs_cluster.specs.Steady.{AreSteady}
use Rattle.hs_copies.specs.Machine.{Copies}
use Rattle.hs_core_words.specs.Opening.{Taken, open_core}
use Rattle.hs_core_words.specs.State.{Core}
use Rattle.hs_settled.specs.Deletion.{TellsDeletion}
use Rattle.hs_effects.specs.Logged.{MayBeginAll}
use Rattle.hs_entry.specs.declared.entry.Entry.{Entry}
use Rattle.hs_entry.specs.Entries.{rank_of}
use Rattle.hs_events.specs.Course.{steps}
use Rattle.hs_events.specs.Due.{Events, MomentsRise, is_walk, next_due}
use Rattle.hs_events.specs.Found.{Found, first_core, opened_catalogue, opened_list, opens_with, starts_good}
use Rattle.hs_events.specs.Sane.{IsFromOne}
use Rattle.hs_events.specs.Taken.{or_blank, peer_count, taken_list}
use Rattle.hs_events.specs.Whole.{Whole, open_whole}
use Rattle.hs_fold.specs.Opened.{chosen, chosen_each, outranks}
use Rattle.hs_fold.specs.Shards.Setting.{Numbered, Setting}
use Rattle.hs_settled.proofs.BegunLemmas.{ranked}
use Rattle.hs_settled.specs.Moving.{IsMoving}
use Rattle.hs_settled.specs.Opened.{OpensRanked}
use Rattle.hs_standing.specs.Held.{GivesAddresses, KeepsAddresses}
use Rattle.hs_journal.specs.Events.{client_op}
use Rattle.hs_limits.specs.declared.address.Address.{Address}
use Rattle.hs_limits.specs.declared.limits.Limits.{Limits}
use Rattle.hs_limits.specs.declared.shape.Shape.{Shape}
use Rattle.hs_limits.specs.Shape.{IsShape}
use Rattle.hs_standing.specs.Script.{IsNext}
use Rattle.hs_model.specs.declared.command.Command.{Command}
use Rattle.hs_model.specs.Store.{Store}
use Rattle.hs_moments.specs.Machine.{runs}
use Rattle.hs_moments.specs.WholeMachine.{whole_machine}
use Rattle.hs_settled.specs.Noted.{IsNoted}
use Rattle.hs_ports.specs.declared.disk.Side.{Side}
use Rattle.hs_known_copies.proofs.KnownLemmas.{whole_opens}
use Rattle.hs_clauses.specs.Run.{ReadsInStep}
use Rattle.hs_measure.proofs.AlongLemmas.{AlongLaws, Comes, goes_on, kept, moments}
use Rattle.hs_measure.proofs.LineLemmas.{from_ok, going_of, on_ok}
use Rattle.hs_measure.proofs.RestLemmas.{runs_core}
use Rattle.hs_measure.specs.Between.{HasLogs, IsAlong, IsInRun, KeepsOn, start_of}
use Rattle.hs_measure.specs.Promised.{KeepsPromise}
use Rattle.hs_shard.specs.Facts.{Catalogue, empty_catalogue}
use Rattle.hs_side.specs.Current.{list_in}
use Rattle.hs_sound.specs.Stay.{AreSoundAlong}
use Rattle.hs_standing.proofs.TakenLemmas.{FoldsInMemory}
use Rattle.hs_standing.specs.Opening.{opened_lists}
use Rattle.hs_standing.specs.Run.{RunBegins}
use Rattle.hs_standing.specs.Standing.{judging_of}
use Rattle.hs_standing.specs.Lists.{whole_from}
use Rattle.hs_standing.specs.Start.{Start}
use Rattle.hs_taking.specs.Disks.{seen_at}
use Rattle.hs_taking.specs.Shares.{Span}
use Rattle.hs_members.specs.Members.{peers_of}
use Rattle.hs_whole_copies.specs.Opening.{MayOpenWhole}
use Rattle.hs_whole_copies.specs.Whole.{IsWholeInStep}
use Rattle.hs_told.specs.InTurn.{AllMayCome}

-- ---- the laws below, in one place

pub record OpeningLaws : Type 0 where
  pub memory : FoldsInMemory
  pub reads : (start : Start) (found : Found) → RunBegins start found → (first_core start.set found).ended ≡ None → ReadsInStep start (open_whole start.set found)
  pub steady : (c : Whole) (events : Events) (machines : ℕ → Copies Entry) → IsWholeInStep c machines → AreSteady c events
  pub lists : (set : Setting) (found : Found) → MayOpenWhole set found → (first_core set found).ended ≡ None → OpensLists set found (open_whole set found)
  pub come : (commands : ℕ → Option Command) (whole : Bool) (core : Core) (es : Events) (to : ℕ) → client_op (commands 0) ≡ None → core.progress.event_line ≡ 0 → MomentsRise core.moment es to → is_walk next_due whole 0 core es ≡ true → AllMayCome commands core es
  pub fresh : (name : List ℕ → Address) (whole : Bool) (core : Core) (es : Events) → is_walk next_due whole 0 core es ≡ true → MayBeginAll name es core

-- and of what goes on behind it
pub record OpenLaws : Type 0 where
  pub moves : (name : List ℕ → Address) (set : Setting) (found : Found) → length found.good ≡ peer_count set.shape → OpensRanked set found → (first_core set found).ended ≡ None → IsMoving name (first_core set found)
  pub deletes : (by : Judging) (start : Store) (shape : Shape) (limits : Limits) (taken : Taken) (moment : ℕ) → TellsDeletion by start (open_core shape limits taken moment)
  pub noted : (commands : ℕ → Option Command) (shape : Shape) (limits : Limits) (taken : Taken) (moment : ℕ) → length taken.good ≡ shape.shards * shape.copies → IsNoted commands (open_core shape limits taken moment)
  pub next : (commands : ℕ → Option Command) (whole : Bool) (core : Core) (es : Events) → client_op (commands 0) ≡ None → core.progress.event_line ≡ 0 → is_walk next_due whole 0 core es ≡ true → IsNext commands (steps core es) 1

-- ---- what was read

pub from_one : (seen : Side → List ℕ) → IsFromOne (unwrap_or (list_in seen) [])
from_one seen = go (list_in seen) refl
  where
    go : (o : Option Numbered) → list_in seen ≡ o → IsFromOne (unwrap_or o [])
    go None e = from_empty
    go (Some list) e = read_from_one seen list e

-- of the lists of a shard one counts, or none
module _ (P : Numbered → Type 0) (none : P []) where
  chosen_all : (lists : List Numbered) → AllByRecursion P lists → P (chosen lists)
  chosen_all [] all = none
  chosen_all (l ∷ ls) all = go (outranks (rank_of (chosen ls)) (rank_of l)) (chosen_all ls all.1)
    where
      go : (b : Bool) → P (chosen ls) → P (if b then chosen ls else l)
      go true h = h
      go false h = all.0

  taken_all : (n : ℕ) (lists : List Numbered) → AllByRecursion P lists → AllByRecursion P (take n lists)
  taken_all zero lists all = tt
  taken_all (suc n) [] all = tt
  taken_all (suc n) (l ∷ ls) all = (all.0, taken_all n ls all.1)

  dropped_all : (n : ℕ) (lists : List Numbered) → AllByRecursion P lists → AllByRecursion P (drop n lists)
  dropped_all zero lists all = all
  dropped_all (suc n) [] all = tt
  dropped_all (suc n) (l ∷ ls) all = dropped_all n ls all.1

  each_chosen : (n copies : ℕ) (lists : List Numbered) → AllByRecursion P lists → (k : ℕ) → P (slice_index_or (chosen_each n copies lists) k [])
  each_chosen zero copies lists all k = none
  each_chosen (suc n) copies lists all zero = chosen_all (take copies lists) (taken_all copies lists all)
  each_chosen (suc n) copies lists all (suc k) = each_chosen n copies (drop copies lists) (dropped_all copies lists all) k

  blanks_all : (logs : List (Option Numbered)) → ((peer : ℕ) → P (unwrap_or (slice_index_or logs peer None) [])) → AllByRecursion P (or_blank logs)
  blanks_all [] h = tt
  blanks_all (log ∷ logs) h = (h 0, blanks_all logs (λ peer. h (suc peer)))

each_of : (P : Catalogue → Type 0) (f : ℕ → Catalogue) (k n : ℕ) → ((j : ℕ) → k ≤ j → j < k + n → P (f j)) → AllByRecursion P (map f (range_with_len k n))
each_of P f k zero h = tt
each_of P f k (suc n) h = (h k (omega arith) (omega arith), each_of P f (k + 1) n (λ j low high. h j (omega (arith, low)) (omega (arith, high))))

module _ (opening : OpeningLaws) (tells : Type 0) (told : tells) (set : Setting) (commands : ℕ → Option Command) (span : Span) (cluster : Running) (done : Result ⊤ ClusterFault)
    (shape : IsShape set.shape) (calm : (set.shape.copies ≡ 1 → ⊥) → (peer : ℕ) → (seen_at span.old peer).stands.last ≤ span.before) (names : GivesAddresses set.name) (nobody : client_op (commands 0) ≡ None) (o : Opens tells set span cluster done) (first_going : (first_core set o.found).ended ≡ None)
    (sound : AreSoundAlong set (whole_from (opened_lists set o.found) 0 set.shape.shards)) where
  abbrev found : Found
  found = o.found

  abbrev first : Core
  first = first_core set o.found

  abbrev start : Start
  start = start_of set commands o.found

  -- the log of a peer is what its disk read as, or it has none; so what is so of each list that is read, and of none, is so of that with which a shard opens
  read_log : (P : Numbered → Type 0) → P [] → ((seen : Side → List ℕ) → P (unwrap_or (list_in seen) [])) → (peer : ℕ) → P (unwrap_or (slice_index_or o.found.logs peer None) [])
  read_log P none of peer = elim (cases_lt peer (peer_count set.shape)) [
    | inl low ↦ elim ((o.finds.each peer low).read told) [
      | inl same ↦ subst (λ (x : Option Numbered). P (unwrap_or x [])) (sym same) (of (seen_at span.old peer).stands.seen)
      | inr failed ↦ subst (λ (x : Option Numbered). P (unwrap_or x [])) (sym failed.0) none
    ]
    | inr high ↦ subst (λ (x : Option Numbered). P (unwrap_or x [])) (sym (get_or_past o.found.logs peer None (let long = o.finds.logs in omega (arith, long, high)))) none
  ]

  opens_read : (P : Numbered → Type 0) → P [] → ((seen : Side → List ℕ) → P (unwrap_or (list_in seen) [])) → (shard : ℕ) → P (opened_list set o.found shard)
  opens_read P none of shard = go (list_any (starts_good o.found) (peers_of set.shape shard))
    where
      go : (b : Bool) → P (if b then taken_list set.shape o.found.logs shard else [])
      go true = each_chosen P none set.shape.shards set.shape.copies (or_blank o.found.logs) (blanks_all P none o.found.logs (read_log P none of)) shard
      go false = none

  pub lists : (shard : ℕ) → shard < set.shape.shards → IsFromOne (opened_list set o.found shard)
  lists shard low = opens_read (λ (list : Numbered). IsFromOne list) from_empty from_one shard

  brings : (shard : ℕ) → BringsAll set.name names (opened_list set o.found shard)
  brings shard = opens_read (λ (list : Numbered). BringsAll set.name names list) tt (λ seen. go seen (list_in seen) refl) shard
    where
      go : (seen : Side → List ℕ) (x : Option Numbered) → list_in seen ≡ x → BringsAll set.name names (unwrap_or x [])
      go seen None e = tt
      go seen (Some list) e = read_brings set.name names seen list e

  addressed : AllByRecursion KeepsAddresses (opens_with set o.found).catalogues
  addressed =
      each_of KeepsAddresses (opened_catalogue set found) 0 set.shape.shards
      (λ g low high. applied_all set.name names (opened_list set found g) (empty_catalogue set.shape g) (brings g) (record { blocks = tt; roots = tt }))

  pub begins : RunBegins (start_of set commands o.found) o.found
  begins = record {
    soundly = record { shape = shape; names = names; many = o.finds.goods; lists = lists; sound = sound; addressed = addressed };
    entry = refl;
    nobody = nobody;
  }

  -- ---- as the core opens

  moment_is : (first_core set o.found).moment ≡ o.found.opened
  moment_is = (opens_first set.shape set.limits (opens_with set found) found.opened).moment

  pub no_line : (first_core set o.found).progress.event_line ≡ 0
  no_line = (opens_first set.shape set.limits (opens_with set found) found.opened).event_line

  -- ---- the events of opening

  walks : is_walk next_due false 0 (first_core set o.found) o.events ≡ true
  walks = opening_due (not (ran_out done)) first o.events o.due

  rises : MomentsRise (first_core set o.found).moment o.events span.now
  rises = subst (λ (m : ℕ). MomentsRise m o.events span.now) (sym moment_is) o.rises

  pub come : AllMayCome commands (first_core set o.found) o.events
  come = opening.come commands false first o.events span.now nobody no_line rises walks

  -- ---- what the logs have, and the reports tell

  pub reading : ReadsInStep (start_of set commands o.found) (open_whole set o.found)
  reading = opening.reads start found begins first_going

  steady : AreSteady (open_whole set o.found) o.events
  steady = opening.steady (open_whole set found) o.events reading.machines reading.whole

  has : (set.shape.copies ≡ 1 → ⊥) → KeepsPeers (open_whole set o.found) o.begun.logs o.disks o.found.opened
  has more = o.peers told (calm more) (open_whole set found) (opening.lists set found (whole_opens set found begins.soundly) first_going)

  uncached : AreCached (open_whole set o.found) o.begun.cache
  uncached = none_cached (open_whole set o.found) o.begun.cache o.uncached

  told_by : (set.shape.copies ≡ 1) ⊎ (set.shape.copies ≢ 1) → AreTold (open_whole set o.found) o.events
  told_by (inl one) = o.told one told first_going
  told_by (inr more) = ((o.copies told).lists (open_whole set found) (sym o.begins) steady (has more) uncached).told

  -- failed calls that the turns report are at the counts, those of reads too, where what is to be read stands in the lists
  pub opening_costs : AreStored (open_whole set o.found) o.events → AreAllCounted (first_core set o.found) o.events o.disks span.new
  opening_costs stored = by (cases_eq set.shape.copies 1)
    where
      by : (set.shape.copies ≡ 1) ⊎ (set.shape.copies ≢ 1) → AreAllCounted (first_core set o.found) o.events o.disks span.new
      by (inl one) = o.read one told first_going stored
      by (inr more) = subst (λ (x : Core). AreAllCounted x o.events o.disks span.new) o.begins ((o.copies told).read (open_whole set found) (sym o.begins) steady (has more) stored)

  logs_behind : done ≡ Ok tt → HasLogs set.shape.copies (runs whole_machine (open_whole set o.found) o.events) cluster.logs span.new span.now
  logs_behind ok = record {
    alone = λ one. from_ok done ok (o.reads_on one told);
    several = λ more. from_ok done ok ((o.copies told).goes_on (open_whole set found) (sym o.begins) steady (has more));
  }

  cached_by : (set.shape.copies ≡ 1) ⊎ (set.shape.copies ≢ 1) → OnOk done (AreCached (runs whole_machine (open_whole set o.found) o.events) cluster.cache)
  cached_by (inl one) = o.cached one told
  cached_by (inr more) = (o.copies told).cached (open_whole set found) (sym o.begins) steady (has more) uncached

  cached_behind : done ≡ Ok tt → AreCached (runs whole_machine (open_whole set o.found) o.events) cluster.cache
  cached_behind ok = from_ok done ok (cached_by (cases_eq set.shape.copies 1))

  pub comes : Comes (start_of set commands o.found) (open_whole set o.found) o.events
  comes = record {
    come = come;
    fresh = opening.fresh set.name false first o.events walks;
    addressed = settle_addressed (judging_of start) false 0 first o.events walks;
    rooms = o.rooms;
    told = told_by (cases_eq set.shape.copies 1);
  }

  -- ---- how it goes on behind them

  module _ (laws : OpenLaws) (along : AlongLaws) where
    limits_is : (first_core set o.found).limits ≡ set.limits
    limits_is = (opens_first set.shape set.limits (opens_with set found) found.opened).limits

    first_along : IsAlong (start_of set commands o.found) (open_whole set o.found)
    first_along = record {
      reading = reading;
      few = first_room set found opening.memory sound;
      moving = laws.moves set.name set found o.finds.goods (ranked start found begins) first_going;
      deletes = laws.deletes (judging_of start) start.entry set.shape set.limits (opens_with set found) found.opened;
      pool = (laws.noted commands set.shape set.limits (opens_with set found) found.opened o.finds.goods).pool ∙ ap (λ (l : Limits). l.pool) limits_is;
    }

    module _ (ok : done ≡ Ok tt) where
      fine : ran_out done ≡ false
      fine = ap (λ (x : Result ⊤ ClusterFault). ran_out x) ok

      going : (steps (first_core set o.found) o.events).ended ≡ None
      going = ap (λ (x : Core). x.ended) (sym (o.core fine)) ∙ going_of done cluster.core o.outcome ok

      in_run : IsInRun (start_of set commands o.found) cluster span.new span.now
      in_run = record {
        whole = runs whole_machine (open_whole set found) o.events;
        same = runs_core (open_whole set found) o.events ∙ sym (o.core fine);
        along = goes_on along start (open_whole set found) first_along o.events comes going;
        logs = logs_behind ok;
        cached = cached_behind ok;
      }

      first_next : IsNext commands cluster.core 1
      first_next = subst (λ (x : Core). IsNext commands x 1) (sym (o.core fine)) (laws.next commands false first o.events nobody no_line walks)

    pub opens_keeps : KeepsOn (start_of set commands o.found) 0 (first_core set o.found) o.events done cluster span.new span.now
    opens_keeps = record {
      moments = λ n. moments along start (open_whole set found) first_along o.events comes n;
      left = λ fine. subst (λ (x : Core). KeepsPromise start x) (sym (o.core fine)) (kept along start (open_whole set found) first_along o.events comes);
      goes_on = on_ok done in_run;
      next = on_ok done first_next;
    }
