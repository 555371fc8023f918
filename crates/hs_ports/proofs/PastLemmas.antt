-- The calls that a record shows at a moment leave one of the contents that a crash may have left.
use Rattle.std.proofs.Common.{◌≡◌, ◌∙◌, ◌⊎◌, inl, inr, ℕ, ◌+◌, ◌<◌, ◌≤◌, Bool, true, false, not, ◌&&◌, ◌||◌, nat_lt, nat_eq, List, [], ◌∷◌, ◌++◌, length, take, refl, ap, sym, subst, arith, length-append}
use Rattle.std.proofs.lemmas.Bool.{lt-ltb, le-ltb, ltb-false}
use Rattle.std.proofs.lemmas.List.{take-append-le}
use Rattle.std.proofs.Math.Seq.{take-append_seam, take-length}
use Rattle.std.proofs.lemmas.Bool.Decides.{nat_tests}
use Rattle.hs_ports.specs.declared.change.Change.{Change}
use Rattle.hs_ports.specs.declared.change.Deed.{Deed}
use Rattle.hs_ports.specs.declared.change.Deed.TheVariants as deed
use Rattle.hs_ports.specs.Disk.{Loose, IsImage, IsOutside, settled}
use Rattle.hs_ports.specs.Image.{told_onto, told_all, is_sync, shown_with, shown_from}
use Rattle.hs_ports.specs.Platter.{IsFailed, AreLostFailed, IsReplayed, kept_of, seen_of, last_of, past_of}
use Rattle.hs_ports.specs.Replay.{seen_after, loose_after, loose_during, seen_by, loose_by, last_by, is_earlier, past_by}
use Rattle.hs_ports.specs.ReplayLaws.{since_by, earlier_below, past_earlier, past_here, past_above}
use Rattle.hs_ports.specs.Called.{Called}
use Rattle.hs_ports.proofs.PlatterLemmas.{seen_failed}
use Rattle.hs_ports.proofs.ReplayLemmas.{told_snoc, shown_snoc, shown_bound}

ordered : (m n : ℕ) → (m < n) ⊎ ((m ≡ n) ⊎ (n < m))
ordered m n = grind arith

-- whatever may be left by the first may be left by the second
pub record Widens (narrow wide : Loose) : Type 0 where
  pub base : wide.base ≡ narrow.base
  pub least : wide.least ≤ narrow.least
  pub most : narrow.most ≤ wide.most
  pub outside : (i : ℕ) → IsOutside wide.ranges i → IsOutside narrow.ranges i

pub widens_image : (l k : Loose) (c : List ℕ) → Widens l k → IsImage l c → IsImage k c
widens_image l k c wide image =
    let shorter = image.no_shorter in
    let longer = image.no_longer in
    let least = wide.least in
    let most = wide.most in
    record {
      no_shorter = omega arith;
      no_longer = omega arith;
      kept = λ i low out. rw wide.base (image.kept i (omega arith) (wide.outside i out));
    }

same_widens : (l : Loose) → Widens l l
same_widens l = record { base = refl; least = omega arith; most = omega arith; outside = λ i out. out }

-- a deed keeps it so
after_widens : (deed : Deed) (seen : List ℕ) (l k : Loose) → Widens l k
    → Widens (loose_after deed seen l) (loose_after deed seen k)
after_widens (deed.Wrote at bytes) seen l k wide =
    let most = wide.most in
    record { base = wide.base; least = wide.least; most = omega arith; outside = λ i out. (out.0, wide.outside i out.1) }
after_widens (deed.Cut len) seen l k wide =
    let least = wide.least in
    record { base = wide.base; least = omega arith; most = wide.most; outside = wide.outside }
after_widens deed.Synced seen l k wide = same_widens (settled seen)
after_widens (deed.WriteFailed at len) seen l k wide =
    let most = wide.most in
    record { base = wide.base; least = wide.least; most = omega arith; outside = λ i out. (out.0, wide.outside i out.1) }
after_widens (deed.CutFailed len) seen l k wide =
    let least = wide.least in
    record { base = wide.base; least = omega arith; most = wide.most; outside = wide.outside }
after_widens deed.SyncFailed seen l k wide = wide

-- a call that failed widens what may be left
failed_widens : (deed : Deed) (seen : List ℕ) (l k : Loose) → IsFailed deed → Widens l k → Widens l (loose_after deed seen k)
failed_widens (deed.Wrote at bytes) seen l k failed wide = absurd failed
failed_widens (deed.Cut len) seen l k failed wide = absurd failed
failed_widens deed.Synced seen l k failed wide = absurd failed
failed_widens (deed.WriteFailed at len) seen l k failed wide =
    let most = wide.most in
    record { base = wide.base; least = wide.least; most = omega arith; outside = λ i out. wide.outside i out.1 }
failed_widens (deed.CutFailed len) seen l k failed wide =
    let least = wide.least in
    record { base = wide.base; least = omega arith; most = wide.most; outside = wide.outside }
failed_widens deed.SyncFailed seen l k failed wide = wide

-- while it acts too
during_failed : (deed : Deed) (seen : List ℕ) (l : Loose) → IsFailed deed → loose_during deed l ≡ loose_after deed seen l
during_failed (deed.Wrote at bytes) seen l failed = absurd failed
during_failed (deed.Cut len) seen l failed = absurd failed
during_failed deed.Synced seen l failed = absurd failed
during_failed (deed.WriteFailed at len) seen l failed = refl
during_failed (deed.CutFailed len) seen l failed = refl
during_failed deed.SyncFailed seen l failed = refl

-- but for a sync, what may be left while a deed acts may be left after it
during_after : (deed : Deed) (seen : List ℕ) (l : Loose) → is_sync deed ≡ false → loose_during deed l ≡ loose_after deed seen l
during_after (deed.Wrote at bytes) seen l is = refl
during_after (deed.Cut len) seen l is = refl
during_after deed.Synced seen l is = cc
during_after (deed.WriteFailed at len) seen l is = refl
during_after (deed.CutFailed len) seen l is = refl
during_after deed.SyncFailed seen l is = refl

during_sync : (deed : Deed) (l : Loose) → is_sync deed ≡ true → loose_during deed l ≡ l
during_sync (deed.Wrote at bytes) l is = cc
during_sync (deed.Cut len) l is = cc
during_sync deed.Synced l is = refl
during_sync (deed.WriteFailed at len) l is = cc
during_sync (deed.CutFailed len) l is = cc
during_sync deed.SyncFailed l is = cc

-- the change of a call
abbrev change_of : Called → Change
change_of call = record { moment = call.moment; deed = call.deed }

kept_on : (call : Called) (older : List Called) → call.kept ≡ true → kept_of (call ∷ older) ≡ kept_of older ++ change_of call ∷ []
unfolding kept_of
kept_on call older on = rw on refl

kept_off : (call : Called) (older : List Called) → call.kept ≡ false → kept_of (call ∷ older) ≡ kept_of older
unfolding kept_of
kept_off call older off = rw off refl

on_or_off : (b : Bool) → (b ≡ true) ⊎ (b ≡ false)
on_or_off true = inl refl
on_or_off false = inr refl

-- what a read gives is what the record's calls make of it
pub kept_seen : (first : List ℕ) (calls : List Called) → AreLostFailed calls
    → seen_by first (told_all (kept_of calls)) ≡ seen_by first calls
unfolding seen_by kept_of AreLostFailed told_onto
kept_seen first [] lost = refl
kept_seen first (call ∷ older) lost = elim (on_or_off call.kept) [
  | inl on ↦ ap (λ (cs : List Change). seen_by first (told_all cs)) (kept_on call older on)
      ∙ ap (seen_by first) (told_snoc [] (kept_of older) (change_of call))
      ∙ ap (seen_after call.deed) (kept_seen first older lost.1)
  | inr off ↦ ap (λ (cs : List Change). seen_by first (told_all cs)) (kept_off call older off)
      ∙ kept_seen first older lost.1 ∙ sym (seen_failed call.deed (seen_by first older) (lost.0 off))
]

-- and what they may leave may be left
kept_widens : (first : List ℕ) (calls : List Called) → AreLostFailed calls
    → Widens (loose_by first (told_all (kept_of calls))) (loose_by first calls)
unfolding loose_by kept_of AreLostFailed told_onto
kept_widens first [] lost = same_widens (settled first)
kept_widens first (call ∷ older) lost = elim (on_or_off call.kept) [
  | inl on ↦ rw (kept_on call older on, told_snoc [] (kept_of older) (change_of call), kept_seen first older lost.1)
      (after_widens call.deed (seen_by first older) _ _ (kept_widens first older lost.1))
  | inr off ↦ rw (kept_off call older off)
      (failed_widens call.deed (seen_by first older) _ _ (lost.0 off) (kept_widens first older lost.1))
]

same_numbers : (m n : ℕ) → m ≡ n → nat_eq m n ≡ true
same_numbers m n is = grind (arith, nat_tests)

differs : (m n : ℕ) → n < m → nat_eq m n ≡ false
differs m n h = grind (arith, nat_tests)

-- which call shows, by its moment
shown_low : (m i n : ℕ) (change : Change) → m < change.moment → shown_with m i n change ≡ n
shown_low m i n change h =
    rw (le-ltb change.moment m (omega arith), differs change.moment m h) refl

shown_high : (m i n : ℕ) (change : Change) → change.moment < m → shown_with m i n change ≡ i + 1
shown_high m i n change h = rw (lt-ltb change.moment m h) refl

shown_here : (m i n : ℕ) (change : Change) → change.moment ≡ m → is_sync change.deed ≡ false → shown_with m i n change ≡ i + 1
shown_here m i n change is off =
    rw (le-ltb change.moment m (omega arith), same_numbers change.moment m is, off) refl

shown_acting : (m i n : ℕ) (change : Change) → change.moment ≡ m → is_sync change.deed ≡ true → shown_with m i n change ≡ i
shown_acting m i n change is on =
    rw (le-ltb change.moment m (omega arith), same_numbers change.moment m is, on) refl

-- whether a call leaves what could be left at a moment as it was
later_kept : (call : Called) (older : List Called) (m : ℕ) → call.kept ≡ true → call.moment ≤ m → is_earlier call older m ≡ false
later_kept call older m on high = rw (le-ltb m call.moment high, on) refl

later_lost : (call : Called) (older : List Called) (m : ℕ) → call.kept ≡ false → is_earlier call older m ≡ false
    → (call.moment ≤ m) × (last_by older < m)
later_lost call older m off is = both (nat_lt m call.moment) (nat_lt m (last_by older + 1)) call.kept refl refl off is
  where
    both : (a b k : Bool) → nat_lt m call.moment ≡ a → nat_lt m (last_by older + 1) ≡ b → k ≡ false
        → (a || (not k && b)) ≡ false → (call.moment ≤ m) × (last_by older < m)
    both true b k is_a is_b k_off e = cc
    both false true true is_a is_b k_off e = cc
    both false true false is_a is_b k_off e = cc
    both false false k is_a is_b k_off e =
        let one = ltb-false m call.moment is_a in
        let two = ltb-false m (last_by older + 1) is_b in
        (one, omega (arith, two))

-- the calls of a record that show at a moment
abbrev pub shown_calls : ℕ → List Change → List Change
shown_calls m changes = take (shown_from m 0 0 changes) changes

-- the newest call shows, and with it all
shown_whole : (m : ℕ) (call : Called) (older : List Called) → call.kept ≡ true
    → ((n : ℕ) → shown_with m (length (kept_of older)) n (change_of call) ≡ length (kept_of older) + 1)
    → shown_calls m (kept_of (call ∷ older)) ≡ kept_of (call ∷ older)
shown_whole m call older on is =
    let changes = kept_of older in
    let more = kept_on call older on in
    let size : length (changes ++ change_of call ∷ []) ≡ length changes + 1 = length-append changes (change_of call ∷ []) in
    let from_start : 0 + length changes ≡ length changes = omega arith in
    let count : shown_from m 0 0 (changes ++ change_of call ∷ []) ≡ length changes + 1
    = rw from_start at (shown_snoc m 0 0 changes (change_of call)) ∙ is (shown_from m 0 0 changes) in
    rw (more, count, ← size) (take-length (changes ++ change_of call ∷ []))

-- the newest call does not show
shown_without : (m : ℕ) (call : Called) (older : List Called) → call.kept ≡ true → m < call.moment
    → shown_calls m (kept_of (call ∷ older)) ≡ shown_calls m (kept_of older)
shown_without m call older on low =
    let changes = kept_of older in
    let bound = shown_bound m 0 0 changes (omega arith) in
    let count : shown_from m 0 0 (changes ++ change_of call ∷ []) ≡ shown_from m 0 0 changes
    = shown_snoc m 0 0 changes (change_of call) ∙ shown_low m (0 + length changes) (shown_from m 0 0 changes) (change_of call) low in
    rw (kept_on call older on, count) (take-append-le (shown_from m 0 0 changes) changes (change_of call ∷ []) (omega (arith, bound)))

-- the newest call is a sync that acts still
shown_but_sync : (m : ℕ) (call : Called) (older : List Called) → call.kept ≡ true → call.moment ≡ m → is_sync call.deed ≡ true
    → shown_calls m (kept_of (call ∷ older)) ≡ kept_of older
shown_but_sync m call older on is sync =
    let changes = kept_of older in
    let from_start : 0 + length changes ≡ length changes = omega arith in
    let count : shown_from m 0 0 (changes ++ change_of call ∷ []) ≡ length changes
    = rw from_start at (shown_snoc m 0 0 changes (change_of call)) ∙ shown_acting m (length changes) (shown_from m 0 0 changes) (change_of call) is sync in
    rw (kept_on call older on, count) (take-append_seam changes (change_of call ∷ []))

-- what these calls may leave, and whether that may have been left at the moment
abbrev HasImage : List ℕ → List Change → List ℕ → Type 0
HasImage first changes content = IsImage (loose_by first (told_all changes)) content

past_kept : (first : List ℕ) (call : Called) (older : List Called) (m : ℕ) (content : List ℕ)
    → AreLostFailed (call ∷ older) → call.kept ≡ true
    → (HasImage first (shown_calls m (kept_of older)) content → IsImage (past_by first older m) content)
    → HasImage first (shown_calls m (kept_of (call ∷ older))) content
    → IsImage (past_by first (call ∷ older) m) content
unfolding AreLostFailed loose_by
past_kept first call older m content lost on before image = elim (ordered m call.moment) [
  | inl low ↦
      rw (past_earlier first call older m (earlier_below call older m low))
      (before (subst (λ (cs : List Change). HasImage first cs content) (shown_without m call older on low) image))
  | inr rest ↦ elim rest [
    | inl here ↦ elim (on_or_off (is_sync call.deed)) [
      | inl sync ↦
          let same = shown_but_sync m call older on (sym here) sync in
          let left = widens_image _ _ content (kept_widens first older lost.1) (subst (λ (cs : List Change). HasImage first cs content) same image) in
          rw (here, past_here first call older (later_kept call older call.moment on (omega arith)), during_sync call.deed (loose_by first older) sync) left
      | inr other ↦
          let same = shown_whole m call older on (λ n. shown_here m (length (kept_of older)) n (change_of call) (sym here) other) in
          let left = widens_image _ _ content (kept_widens first (call ∷ older) lost) (subst (λ (cs : List Change). HasImage first cs content) same image) in
          rw (here, past_here first call older (later_kept call older call.moment on (omega arith)), during_after call.deed (seen_by first older) (loose_by first older) other) left
    ]
    | inr above ↦
        let same = shown_whole m call older on (λ n. shown_high m (length (kept_of older)) n (change_of call) above) in
        let left = widens_image _ _ content (kept_widens first (call ∷ older) lost) (subst (λ (cs : List Change). HasImage first cs content) same image) in
        rw (past_above first call older m (later_kept call older m on (omega arith)) above) left
  ]
]

past_lost : (first : List ℕ) (call : Called) (older : List Called) (m : ℕ) (content : List ℕ)
    → IsFailed call.deed → call.kept ≡ false
    → IsImage (past_by first older m) content
    → IsImage (past_by first (call ∷ older) m) content
unfolding loose_by
past_lost first call older m content failed off image = elim (on_or_off (is_earlier call older m)) [
  | inl earlier ↦ rw (past_earlier first call older m earlier) image
  | inr later ↦
      let high = later_lost call older m off later in
      let now = rw (since_by first older m high.1) at image in
      let left = widens_image _ _ content (failed_widens call.deed (seen_by first older) (loose_by first older) (loose_by first older) failed (same_widens (loose_by first older))) now in
      elim (ordered m call.moment) [
        | inl low ↦ absurd (omega (arith, high.0))
        | inr rest ↦ elim rest [
          | inl here ↦ rw (here, past_here first call older (rw here at later), during_failed call.deed (seen_by first older) (loose_by first older) failed) left
          | inr above ↦ rw (past_above first call older m later above) left
        ]
      ]
]

-- what the shown calls of the record may leave may have been left at the moment
pub past_image : (first : List ℕ) (calls : List Called) (m : ℕ) (content : List ℕ)
    → AreLostFailed calls
    → IsImage (loose_by first (told_all (shown_calls m (kept_of calls)))) content
    → IsImage (past_by first calls m) content
unfolding AreLostFailed kept_of shown_from told_onto loose_by past_by
past_image first [] m content lost image = image
past_image first (call ∷ older) m content lost image = elim (on_or_off call.kept) [
  | inl on ↦ past_kept first call older m content lost on (λ shown. past_image first older m content lost.1 shown) image
  | inr off ↦ past_lost first call older m content (lost.0 off) off
      (past_image first older m content lost.1 (subst (λ (cs : List Change). HasImage first (shown_calls m cs) content) (kept_off call older off) image))
]

-- at a moment after the last call all calls of the record show
all_shown : (calls : List Called) (m : ℕ) → last_by calls < m → shown_calls m (kept_of calls) ≡ kept_of calls
unfolding last_by kept_of shown_from
all_shown [] m later = refl
all_shown (call ∷ older) m later = elim (on_or_off call.kept) [
  | inl on ↦ shown_whole m call older on (λ n. shown_high m (length (kept_of older)) n (change_of call) (omega arith))
  | inr off ↦ rw (kept_off call older off) (all_shown older m (omega arith))
]

-- then they give what a read gives
pub seen_shown : (first : List ℕ) (calls : List Called) (m : ℕ) → AreLostFailed calls → last_by calls < m
    → seen_by first (told_all (shown_calls m (kept_of calls))) ≡ seen_by first calls
seen_shown first calls m lost later = rw (all_shown calls m later) (kept_seen first calls lost)

-- the same of what one side keeps
pub image_of_track : (first now : List ℕ) (changes : List Change) (calls : List Called) (m count : ℕ) (content : List ℕ)
    → IsReplayed first now changes calls
    → count ≡ shown_from m 0 0 changes
    → IsImage (loose_by first (told_all (take count changes))) content
    → IsImage (past_of (record { first = first; calls = calls }) m) content
unfolding past_of
image_of_track first now changes calls m count content is counted image =
    past_image first calls m content is.lost (rw is.record_part at (rw counted at image))

pub seen_of_track : (first now : List ℕ) (changes : List Change) (calls : List Called) (m count : ℕ) (content : List ℕ)
    → IsReplayed first now changes calls
    → count ≡ shown_from m 0 0 changes
    → last_of (record { first = first; calls = calls }) < m
    → content ≡ seen_by first (told_all (take count changes))
    → content ≡ seen_of (record { first = first; calls = calls })
unfolding seen_of last_of
seen_of_track first now changes calls m count content is counted later same =
    rw is.record_part at (rw counted at same) ∙ seen_shown first calls m is.lost later
