-- A run of what was asked for, as the machine's.
use Rattle.std.proofs.Common.{◌≡◌, ◌∙◌, ap, sym, ℕ, ◌*◌, ◌<◌, ◌≤◌, Bool, false, List, [], Option, Some, None, refl, arith, length}
use Rattle.std.proofs.lemmas.List.{length-map}
use Rattle.std.proofs.lemmas.List.Elements.{All-nil}
use Rattle.std.specs.Prelude.{if◌then◌else◌}
use Rattle.hs_cluster.specs.Disks.{DiskSeen, seen_at, stands_of}
use Rattle.hs_cluster.specs.Kept.{Span}
use Rattle.hs_cluster.specs.Running.{Running}
use Rattle.hs_cluster.specs.RunsOn.{RunsOn, StandUntold}
use Rattle.hs_desk.specs.declared.fault.CoreFault.{CoreFault}
use Rattle.hs_events.specs.Due.{Events}
use Rattle.hs_events.specs.Found.{Found}
use Rattle.hs_limits.specs.Shape.{IsShape}
use Rattle.hs_model.specs.declared.command.Command.{Command}
use Rattle.hs_moments.specs.Moments.{Since}
use Rattle.hs_peerlog.specs.declared.fault.LogFault.TheVariants as log
use Rattle.hs_peerlog.specs.Opening.{refusal_in}
use Rattle.hs_ports.specs.Disk.{Standing}
use Rattle.hs_ports.specs.Moments.{disk_at}
use Rattle.hs_ports.specs.Watch.{next_moment}
use Rattle.hs_promise.specs.Ending.{ending_of}
use Rattle.hs_promise.specs.Found.{HasFound}
use Rattle.hs_promise.specs.Machine.{Went}
use Rattle.hs_promise.specs.Run.{DiskRose, Ran, Script}
use Rattle.hs_promise.specs.Shapes.{IsFirstOther}
use Rattle.hs_promise.specs.Story.{Story, all_events}
use Rattle.hs_script.specs.Text.{text}
use Rattle.hs_side.specs.declared.header.Header.{Header}
use Rattle.hs_run.specs.Ended.{ran_at}
use Rattle.hs_run.specs.Going.{Begun, story_of}
use Rattle.hs_run.specs.Machine.{AreHanded, IsOfCluster, RunsOnDisks}
use Rattle.hs_run.specs.Served.{Served}
use Rattle.hs_run.proofs.DisksLemmas.{disk_is, failed_by, falls_is, lost_by, none_fell, paid_by, past_is, read_as, risen_since, rose_is, stands_as, told_as}
use Rattle.hs_run.proofs.FoundLemmas.{has_found}
use Rattle.hs_run.proofs.HeaderLemmas.{headers_kept}
use Rattle.hs_run.proofs.RunLemmas.{put_by}
use Rattle.hs_run.proofs.ShapeLemmas.{refusal_of}
use Rattle.hs_run.proofs.WentLemmas.{ArePaid}
use Rattle.hs_asker.specs.Going.{AtEntry, begun_by}
use Rattle.hs_asker.specs.Silent.{silent, status_by}
use Rattle.hs_asker.proofs.EndsLemmas.{never_read, never_shape, never_write}

pub handed_so : (now : ℕ) (disks : List DiskSeen) → AreHanded (silent now disks) disks
handed_so now disks = record { stands = refl; counts = refl }

some_none : (story : Story) → Some story ≡ None → ⊥
some_none story e = cc

module _ (tells : Type 0) (e : AtEntry) (found : Found) (first : Running) (opening : Events)
    (commands : ℕ → Option Command) (why : Option CoreFault) (line now : ℕ) (cluster last : Running) (disks : List DiskSeen) (lines : List Events) where
  abbrev b : Begun
  b = begun_by e found first opening

  abbrev r : Ran
  r = ran_at (status_by why) line (Some cluster) (silent e.moment e.disks) (silent now disks)

  abbrev S : Script
  S = record { set = e.set; commands = commands }

  abbrev span : Span
  span = record { before = e.moment; now = now; old = first; new = last; disks = e.disks; left = disks }

  abbrev story : Story
  story = story_of b lines

  module _ (shown : RunsOn tells e.set span found (all_events story)) (since : tells → Since (stands_of disks)) where
    -- no count rose of which nothing is told, where memory was not wanting
    abbrev StandsUntold : Type 0
    StandsUntold = (ending_of (status_by why)).short ≡ false → StandUntold e.set found (all_events story) e.disks disks

    pub found_so : HasFound S r story
    found_so = has_found tells b lines commands r span refl (handed_so e.moment e.disks) (handed_so now disks) shown

    pub paid_so : ArePaid b lines (silent now disks)
    paid_so = paid_by tells e.set span found (all_events story) (silent e.moment e.disks) (silent now disks) (handed_so e.moment e.disks) (handed_so now disks) shown

    on_disks : StandsUntold → RunsOnDisks tells S r story
    on_disks stands = record {
      span = span;
      before = refl;
      now = refl;
      old = handed_so e.moment e.disks;
      new = handed_so now disks;
      since = since;
      shown = shown;
      lost = lost_by tells e.set span found (all_events story) (silent e.moment e.disks) (silent now disks) (handed_so e.moment e.disks) (handed_so now disks) shown;
      failed = failed_by tells e.set span found (all_events story) (silent e.moment e.disks) (silent now disks) (handed_so e.moment e.disks) (handed_so now disks) shown;
      untold = λ whole. stands_as e.set span found (all_events story) (silent e.moment e.disks) (silent now disks) (handed_so e.moment e.disks) (handed_so now disks) (stands whole);
    }

    -- a disk of another store failed
    no_other : tells → (peer : ℕ) (header : Header) → IsFirstOther S r peer header → DiskRose r 1 peer
    no_other told peer header is =
        let low : peer < length e.disks = let within = is.other.within in let there = length-map e.disks (λ (d : DiskSeen). d.stands) in omega (arith, within, there) in
        let refused : refusal_in e.set.shape peer (seen_at e.disks peer).stands.seen ≡ Some (log.WrongShape header) =
        ap (λ (d : Standing). refusal_in e.set.shape peer d.seen) (sym (disk_is (silent e.moment e.disks) e.disks (handed_so e.moment e.disks) peer))
        ∙ refusal_of e.set.shape peer (disk_at (stands_of e.disks) peer).seen header is.other.header is.other.other in
        rose_is 1 (silent e.moment e.disks) (silent now disks) e.disks disks (handed_so e.moment e.disks) (handed_so now disks) peer
        (risen_since tells e.set span found (all_events story) shown peer (shown.own told peer header low refused))

    served : length disks ≡ length e.disks → length cluster.core.journal ≤ e.set.limits.ops → e.moment ≤ now → Served tells S r
    served count fits later = record {
      script = tt;
      handed_back = length-map disks (λ (d : DiskSeen). d.stands) ∙ count ∙ sym (length-map e.disks (λ (d : DiskSeen). d.stands));
      prints = record {
        fits = fits;
        printed = put_by (ending_of (status_by why)).short None (text cluster.core.journal) None (record { count = 0; put = refl }) (λ whole. refl);
        in_time = λ m behind during. record { count = 0; put = refl };
      };
      time = record { later = later; puts = record { more = []; put = refl; stamped = All-nil (λ (byte : ℕ × ℕ). (next_moment e.moment ≤ byte.1) × (byte.1 ≤ now)) } };
      counts = record {
        disks = falls_is (silent e.moment e.disks) (silent now disks) e.disks disks (handed_so e.moment e.disks) (handed_so now disks) (none_fell tells e.set span found (all_events story) shown);
        sink = omega arith;
        source = omega arith;
      };
      no_load = record { kept = refl; stored = refl };
      causes = record {
        refused = λ none. ap (λ (full : Bool). if full then cluster.core.refused else []) none;
        read = λ is. absurd (never_read why is);
        write = λ is. absurd (never_write why is);
        shape = λ peer header is. absurd (never_shape why peer header is);
      };
      within = λ peer header is. absurd (never_shape why peer header is);
      others = λ peer header is. absurd (never_shape why peer header is);
      left = λ some. some;
      ends = tt;
      past = λ one told. past_is (silent e.moment e.disks) (silent now disks) e.moment now e.disks disks (handed_so e.moment e.disks) (handed_so now disks) refl refl (shown.past one told);
      headers = λ told. headers_kept S r e.moment now e.disks disks (handed_so e.moment e.disks) (handed_so now disks) refl refl (shown.headed told);
      shape = λ told. record {
        only = λ peer header is. absurd (never_shape why peer header is);
        exact = λ peer header is may stands. absurd (stands (no_other told peer header is));
        unwritten = λ peer header is stands. absurd (stands (no_other told peer header is));
      };
    }

    pub hub : IsShape e.set.shape → length e.disks ≡ e.set.shape.shards * e.set.shape.copies → length disks ≡ length e.disks → length cluster.core.journal ≤ e.set.limits.ops → e.moment ≤ now → commands 0 ≡ None
        → StandsUntold → Went S r story → IsOfCluster tells S r
    hub shape count left fits later nobody stands went = record {
      shape = shape;
      count = length-map e.disks (λ (d : DiskSeen). d.stands) ∙ count;
      script = tt;
      nobody = nobody;
      how = Some story;
      went = went;
      told = λ told. record { read = read_as tells S r story (on_disks stands) told; told = λ one. told_as tells S r story (on_disks stands) one told };
      runs = on_disks stands;
      ended = record { written = λ is. absurd (never_write why is); answered = λ is. absurd (never_write why is); unread = λ some. refl };
      unopened = λ one none. absurd (some_none story none);
      closed = λ none. absurd (some_none story none);
      served = served left fits later;
    }
