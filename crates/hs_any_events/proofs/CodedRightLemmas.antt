-- The counts of a core that is beside a steady one are right, and so are its zero blocks by the naming of that.
use Rattle.std.proofs.Common.{◌≡◌, ◌≢◌, ◌∙◌, sym, ap, subst, ◌⊎◌, inl, inr, ℕ, ◌+◌, ◌<◌, ◌≤◌, false, length, List, Option, Some, None, refl, slice_get, slice_index_or, slice_set}
use Rattle.std.proofs.lemmas.Option.{slice_get-map}
use Rattle.std.specs.Option.{option_map}
use Rattle.hs_any_events.proofs.CodedCoreLemmas.{same_front, same_limits, waiting_alike}
use Rattle.hs_any_events.proofs.CodedEntryLemmas.{Outline, outline, same_entry}
use Rattle.hs_any_events.proofs.CodedGroupLemmas.{bare}
use Rattle.hs_any_events.proofs.CodedLemmas.{Code, coded_name}
use Rattle.hs_any_events.proofs.CodedPoolLemmas.{all_alike}
use Rattle.hs_any_events.proofs.CodedWalkLemmas.{IsCodedSteady, few_there}
use Rattle.hs_any_events.proofs.RightLemmas.{ZerosBehind, counts_right, zeros_now}
use Rattle.hs_any_events.proofs.SweptLemmas.{IsRound, round_called, round_no_block, round_or_same, round_sweeps, sweeps_up_to}
use Rattle.hs_any_events.specs.Events.{AreCountedRight, Sweeps, SweepsRight}
use Rattle.hs_core_words.specs.Looking.{catalogue_of, front_of, group_of, shape_of}
use Rattle.hs_core_words.specs.Pending.{named}
use Rattle.hs_core_words.specs.State.{Core}
use Rattle.hs_effects.specs.Lawful.{IsLawful, MayFollow}
use Rattle.hs_effects.proofs.GroupLemmas.{committed_first, set_at}
use Rattle.hs_effects.specs.Taking.{done_by, next_deed, setting_of, taken}
use Rattle.hs_entry.specs.declared.entry.Entry.{Entry}
use Rattle.hs_fold.specs.Lawful.{Deed}
use Rattle.hs_fold.specs.Runs.Facts.{Catalogue as Folded}
use Rattle.hs_fold.specs.Shards.Sound.{most_records}
use Rattle.hs_fold.specs.Shards.Setting.{Setting}
use Rattle.hs_limits.specs.declared.address.Address.{Address}
use Rattle.hs_limits.specs.declared.limits.Limits.{Limits}
use Rattle.hs_measure.specs.Zeros.{AreZerosRight, EachUnreachedIsZero}
use Rattle.hs_post.specs.declared.message.Message.{Message}
use Rattle.hs_post.specs.declared.message.Message.TheVariants as message
use Rattle.hs_replica.specs.Group.{committed}
use Rattle.hs_replica.specs.Kinds.{is_block}
use Rattle.hs_rounds.specs.declared.body.RoundBody.{RoundBody}
use Rattle.hs_rounds.specs.declared.place.Place.{Place}
use Rattle.hs_shard.specs.Facts.{Catalogue, empty_catalogue}
use Rattle.hs_settled.proofs.DeletesCountLemmas.{CountLaws}
use Rattle.hs_standing.proofs.AtomLemmas.{set_on}
use Rattle.hs_standing.proofs.FollowLemmas.{may_follow}
use Rattle.hs_standing.proofs.HistoryLemmas.{Likewise, lawful_on}
use Rattle.hs_standing.specs.Held.{GivesAddresses}
use Rattle.hs_standing.specs.Rests.{IsResting}
use Rattle.hs_standing.specs.Sent.{AreSent, HasGot, IsOfSent, got_of}

-- an entry leaves no shard with more root records than it takes
abbrev pub TakesFew : ℕ → Entry → Core → Type 0
TakesFew shard entry core = (g : ℕ) → length (catalogue_of g (taken shard entry core)).roots ≤ most_records

module _ (code : Code) (limits : Limits) (last : ℕ) (core : Core) (s : IsCodedSteady code limits last core) where
  abbrev name : List ℕ → Address
  name = coded_name code

  abbrev cs : List Folded
  cs = s.steady.0

  abbrev history : List Deed
  history = s.steady.1.lawful.lawful.history

  like : Likewise s.coded core
  like = record {
    limits = sym (same_limits code core s.coded s.beside);
    shape = sym (ap (λ (x : Core). shape_of x) s.beside.same);
    catalogues = sym (ap (λ (x : Core). x.catalogues) s.beside.same);
  }

  set_there : setting_of (coded_name code) s.coded ≡ setting_of (coded_name code) core
  set_there = sym (set_on name s.coded core like.limits like.shape)

  abbrev lawful_here : IsLawful (coded_name code) core s.steady.0
  lawful_here = lawful_on (coded_name code) s.coded core s.steady.0 like s.steady.1.lawful

  -- ---- what is under way, and what waits, was sent

  -- what is no Block waits there too
  waits_there : (shard place : ℕ) (entry : Entry) → is_block entry ≡ false → slice_get (group_of shard core).waiting place ≡ Some entry → slice_get (group_of shard s.coded).waiting place ≡ Some entry
  waits_there shard place entry none at = by (slice_get (group_of shard s.coded).waiting place) refl outlined
    where
      outlined : option_map outline (slice_get (group_of shard s.coded).waiting place) ≡ Some (outline entry)
      outlined =
          sym (slice_get-map outline (group_of shard s.coded).waiting place)
          ∙ ap (λ (os : List Outline). slice_get os place) (waiting_alike code core s.coded s.beside shard)
          ∙ slice_get-map outline (group_of shard core).waiting place
          ∙ ap (λ (x : Option Entry). option_map outline x) at

      by : (x : Option Entry) → slice_get (group_of shard s.coded).waiting place ≡ x → option_map outline x ≡ Some (outline entry) → slice_get (group_of shard s.coded).waiting place ≡ Some entry
      by None there e = absurd (cc e)
      by (Some f) there e = let same : outline f ≡ outline entry = cc e in there ∙ ap (λ (x : Entry). Some x) (same_entry entry f same none)

  got_there : (shard at : ℕ) (place : Place) (told : RoundBody) → HasGot core shard at place told → HasGot s.coded shard at place told
  got_there shard at place told got = waits_there shard at (got_of place told) refl got

  -- of a Copy nothing is said
  full : (set : Setting) (m : Message) → IsOfSent set s.steady.1.lawful.lawful.history (bare m) → IsOfSent set s.steady.1.lawful.lawful.history m
  full set (message.Copy shard to view number entry) h = tt
  full set (message.Have shard from to view sealed) h = tt
  full set (message.Round from to epoch round total deltas) h = h

  empty : (set : Setting) (m : Message) → IsOfSent set s.steady.1.lawful.lawful.history m → IsOfSent set s.steady.1.lawful.lawful.history (bare m)
  empty set (message.Copy shard to view number entry) h = tt
  empty set (message.Have shard from to view sealed) h = tt
  empty set (message.Round from to epoch round total deltas) h = h

  sent_here : AreSent (setting_of (coded_name code) core) s.steady.1.lawful.lawful.history core
  sent_here = subst (λ (set : Setting). AreSent set history core) set_there its
    where
      its : AreSent (setting_of (coded_name code) s.coded) s.steady.1.lawful.lawful.history core
      its = record {
        messages = all_alike core.pool s.coded.pool s.beside.pool (IsOfSent (setting_of (coded_name code) s.coded) history) (full (setting_of (coded_name code) s.coded)) (empty (setting_of (coded_name code) s.coded)) s.steady.1.sent.messages;
        gots = λ shard at place told got. s.steady.1.sent.gots shard at place told (got_there shard at place told got);
        due = λ shard at place told ds gives got. s.steady.1.sent.due shard at place told ds gives (got_there shard at place told got);
        once = λ shard p q place told other one more. s.steady.1.sent.once shard p q place told other (got_there shard p place told one) (got_there shard q place other more);
      }

  -- ---- what it takes next

  -- an Enter or a Got that waits first may come
  follows_here : (shard : ℕ) (entry : Entry) → IsRound entry → TakesFew shard entry core → slice_get (group_of shard core).waiting 0 ≡ Some entry
      → MayFollow (setting_of (coded_name code) core) s.steady.0 (next_deed shard entry core)
  follows_here shard entry is few at =
      subst (λ (set : Setting). MayFollow set cs (next_deed shard entry core)) set_there
      (subst (λ (n : ℕ). MayFollow (setting_of name s.coded) cs (record { shard = shard; number = n + 1; entry = entry })) (same_front code core s.coded s.beside shard)
      (may_follow name cs s.coded s.steady.1.lawful shard entry low (round_called name s.coded entry is)
      (few_there code limits last core s shard entry entry refl few) rests.waits))
    where
      rests : IsResting s.steady.0 shard (front_of shard s.coded) entry
      rests = s.steady.1.resting shard 0 entry (waits_there shard 0 entry (round_no_block entry is) at)

      low : shard < (shape_of s.coded).shards
      low = subst (λ (n : ℕ). shard < n) s.steady.1.lawful.folded.shards rests.of

  module _ (laws : CountLaws) (zeros : ZerosBehind) where
    right : AreZerosRight (setting_of (coded_name code) core) s.steady.0
    right = zeros_now laws zeros name core cs lawful_here sent_here

    -- where it takes effect, and the shard has swept otherwise then, it sweeps up to its epoch, and finds each zero block
    swept_here : (shard : ℕ) (entry : Entry) → IsRound entry → TakesFew shard entry core → slice_get (group_of shard core).waiting 0 ≡ Some entry
        → (done_by shard entry core).catalogue.swept ≢ (catalogue_of shard core).swept
        → ((done_by shard entry core).catalogue.swept ≡ (catalogue_of shard core).epoch) × EachUnreachedIsZero s.steady.0 shard
    swept_here shard entry is few at differs = elim (round_sweeps name cs core shard lawful_here entry is may) [
      | inl same ↦ absurd (differs same)
      | inr sweeping ↦ (sweeps_up_to name cs core shard lawful_here entry is may sweeping, right.exact_zero (next_deed shard entry core) may sweeping)
    ]
      where
        may : MayFollow (setting_of (coded_name code) core) s.steady.0 (next_deed shard entry core)
        may = follows_here shard entry is few at

    -- so it is of whatever entry takes effect
    swept_by : (shard number : ℕ) (entry : Entry) → committed (group_of shard core) ≡ Some (number, entry) → TakesFew shard entry core → Sweeps shard core (taken shard entry core)
        → ((catalogue_of shard (taken shard entry core)).swept ≡ (catalogue_of shard core).epoch) × EachUnreachedIsZero s.steady.0 shard
    swept_by shard number entry next few sweeps = by (set_at (empty_catalogue (shape_of core) shard) core.catalogues shard (done_by shard entry core).catalogue)
      where
        done : Catalogue
        done = (done_by shard entry core).catalogue

        none : Catalogue
        none = empty_catalogue (shape_of core) shard

        by : (slice_index_or (slice_set core.catalogues shard done) shard none ≡ done) ⊎ (slice_index_or (slice_set core.catalogues shard done) shard none ≡ slice_index_or core.catalogues shard none)
            → ((catalogue_of shard (taken shard entry core)).swept ≡ (catalogue_of shard core).epoch) × EachUnreachedIsZero s.steady.0 shard
        by (inr old) = absurd (sweeps (ap (λ (k : Catalogue). k.swept) old))
        by (inl now) = elim (round_or_same (front_of shard core + 1) entry (named entry core) (catalogue_of shard core)) [
          | inr same ↦ absurd (sweeps (ap (λ (k : Catalogue). k.swept) now ∙ same))
          | inl is ↦
              let its = swept_here shard entry is few (committed_first (group_of shard core) number entry next).first (λ same. sweeps (ap (λ (k : Catalogue). k.swept) now ∙ same)) in
              (ap (λ (k : Catalogue). k.swept) now ∙ its.0, its.1)
        ]

    pub sweeps_so : GivesAddresses (coded_name code) → (shard number : ℕ) (entry : Entry) → committed (group_of shard core) ≡ Some (number, entry) → TakesFew shard entry core → Sweeps shard core (taken shard entry core) → SweepsRight shard entry core
    sweeps_so names shard number entry next few sweeps =
        let its = swept_by shard number entry next few sweeps in
        record { naming = name; names = names; zeros = record { folds = cs; lawful = lawful_here; now = right }; upto = its.0; exact = its.1 }

    -- so are its counts, by that naming
    pub counted_so : GivesAddresses (coded_name code) → AreCountedRight core
    counted_so names = record {
      naming = name;
      names = names;
      counts = counts_right laws zeros name core cs lawful_here sent_here;
      zeros = record { folds = cs; lawful = lawful_here; now = right };
    }
