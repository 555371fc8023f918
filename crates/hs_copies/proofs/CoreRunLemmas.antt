-- A run of the core is a run of the machine.
use Rattle.std.proofs.Common.{◌≡◌, ℕ, true, Bool, Option, None, List, [], ◌∷◌, ◌++◌, arith}
use Rattle.hs_entry.specs.declared.entry.Entry.{Entry}
use Rattle.hs_entry.specs.declared.entry.Entry.TheVariants.{View}
use Rattle.hs_limits.specs.declared.shape.Shape.{Shape}
use Rattle.hs_members.specs.Members.{Members}
use Rattle.hs_rejoin.specs.Rejoin.{Rejoin}
use Rattle.hs_copies.specs.CoreCopies.{CoreCopies, core_append, core_commit, core_copied, core_empty, core_fail, core_give_up, core_have, core_join, core_nudge, core_propose, core_seal, core_start, opens_good}
use Rattle.hs_copies.specs.CoreRuns.{Answers, Begins, Commits, CommitsAndAnswers, CoreCall, CopiesTo, Empties, Fails, GivesUp, Hears, Joins, MayCall, MayCallAll, Nudges, Proposes, Seals, Starts, TakesCopy, after_call, after_calls, opened_core, opened_machine}
use Rattle.hs_copies.specs.Lists.{Item}
use Rattle.hs_copies.specs.Machine.{Copies, after_events}
use Rattle.hs_copies.specs.Standing.{Continues, IsOpening, StandsFor}
use Rattle.hs_copies.proofs.CallLemmas.{answered_by, answers_line, appended, begins_line, heard, nudged, proposed, seals_core, took_effect}
use Rattle.hs_copies.proofs.FailLemmas.{failed, joined}
use Rattle.hs_copies.proofs.JoinLemmas.{copied_core, emptied_core, gave_up, started}
use Rattle.hs_copies.proofs.OpenCoreLemmas.{opens}
use Rattle.hs_copies.proofs.QuietLemmas.{SealsSome, goes_falling, goes_getting, goes_quietly, goes_sealing}
use Rattle.hs_copies.proofs.SendLemmas.{after_append, allowed_append}
use Rattle.hs_copies.proofs.StandLemmas.{good_peer, length_is}

pub sealed_core : {line : Entry → Option ℕ} (c : CoreCopies) (s : Copies Entry) → StandsFor line c s → (peer number : ℕ) → MayCall line (Seals peer number) c
    → SealsSome line (core_seal peer number c) s peer number
sealed_core c s st peer number m =
    seals_core c s st peer number m.0 (good_peer c s st peer m.0 m.1) (omega (arith, m.2, (st.peers.each peer m.0).sealed)) (omega (arith, m.3, length_is c s st peer m.0))

pub one_call : (line : Entry → Option ℕ) (call : CoreCall) (c : CoreCopies) (s : Copies Entry) → StandsFor line c s → MayCall line call c → Continues line (after_call call c) s
one_call line (Proposes entry) c s st m = goes_quietly (core_propose entry c) s (proposed c s st entry m.0 m.1)
one_call line (TakesCopy shard peer view number entry) c s st m = goes_quietly (core_append peer view number entry c) s (appended c s st shard peer view number entry m.0 m.1)
one_call line (Seals peer number) c s st m = goes_sealing (core_seal peer number c) s peer number (sealed_core c s st peer number m)
one_call line (Hears shard from to view sealed) c s st m = goes_quietly (core_have from view sealed c) s (heard c s st shard from to view sealed m.0 m.1)
one_call line Commits c s st m = goes_quietly (core_commit c) s (took_effect c s st)
one_call line (CommitsAndAnswers k) c s st m = answered_by c s st m.0 k m.1 m.2
one_call line (Begins k) c s st m = begins_line c s st k
one_call line (Answers k leads) c s st m = answers_line c s st k leads m.0 m.1 m.2
one_call line (Nudges peer) c s st m = goes_quietly (core_nudge peer c) s (nudged c s st peer m.0 m.1)
one_call line (Fails peer) c s st m = goes_falling (core_fail peer c) s (failed c s st peer m.0 m.1 m.2)
one_call line (Joins peer leads) c s st m = goes_quietly (core_join peer c) s (joined c s st peer leads m.0 m.1 m.2 m.3)
one_call line (Starts peer) c s st m = goes_quietly (core_start peer c) s (started c s st peer m.0 m.1)
one_call line (Empties peer) c s st m = goes_getting (core_empty peer c) s peer [] (emptied_core c s st peer m.0 m.1 m.2)
one_call line (CopiesTo peer number leads) c s st m =
    let k = copied_core c s st peer number leads m.0 m.1 m.2 m.3 m.4 m.5 in
    goes_getting (core_copied peer number c) s peer ((s.peers peer).list ++ k.0 ∷ []) k.2
one_call line (GivesUp peer) c s st m = goes_quietly (core_give_up peer c) s (gave_up c s st peer m.0 m.1)

pub all_calls : (line : Entry → Option ℕ) (calls : List CoreCall) (c : CoreCopies) (s : Copies Entry) → Continues line c s → MayCallAll line calls c → Continues line (after_calls calls c) s
all_calls line [] c s k m = k
all_calls line (call ∷ calls) c s k m =
    let one = one_call line call c (after_events s k.events) k.stands m.0 in
    all_calls line calls (after_call call c) s
    (record {
      events = k.events ++ one.events;
      allowed = allowed_append s k.events one.events k.allowed one.allowed;
      stands = rw (after_append s k.events one.events) one.stands;
    })
    m.1

pub all_from_opening : (line : Entry → Option ℕ) (shape : Shape) (shard : ℕ) (log : List (Item Entry)) (good : List Bool) (m : Members) (rejoins : ℕ → Rejoin) (calls : List CoreCall)
    → ((view : ℕ) → line (View view) ≡ None) → IsOpening shape shard log good m → MayCallAll line calls (opened_core shape shard log good m rejoins)
    → (leads : ℕ) × (opens_good shape shard good leads ≡ true)
    × Continues line (after_calls calls (opened_core shape shard log good m rejoins)) (opened_machine shape shard log good m leads)
all_from_opening line shape shard log good m rejoins calls views o may =
    let k = opens shape shard log good m rejoins o line views in
    (k.0, k.1, all_calls line calls (opened_core shape shard log good m rejoins) (opened_machine shape shard log good m k.0) k.2 may)
