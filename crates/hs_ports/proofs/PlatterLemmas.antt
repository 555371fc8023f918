-- What one side of a disk in memory keeps, call by call.
use Rattle.std.proofs.Common.{◌≡◌, ◌∙◌, Bool, true, false, ℕ, List, [], ◌∷◌, ◌++◌, refl, ap, sym}
use Rattle.std.specs.Prelude.{if◌then◌else◌}
use Rattle.hs_ports.specs.declared.change.Change.{Change}
use Rattle.hs_ports.specs.declared.change.Deed.{Deed}
use Rattle.hs_ports.specs.declared.change.Deed.TheVariants as deed
use Rattle.hs_ports.specs.Platter.{IsReplayed, IsFailed, AreLostFailed, kept_of}
use Rattle.hs_ports.specs.Replay.{seen_after, seen_by}
use Rattle.hs_ports.specs.Called.{Called, told}

-- before the first call
pub replayed_first : (bytes : List ℕ) (changes : List Change) (calls : List Called) → changes ≡ [] → calls ≡ []
    → IsReplayed bytes bytes changes calls
unfolding seen_by kept_of AreLostFailed
replayed_first bytes changes calls no_changes no_calls = rw (no_changes, no_calls) (record { bytes = refl; record_part = refl; lost = tt })

true_isnt_false : true ≡ false → ⊥
true_isnt_false is = cc

-- a call that the record has
pub replayed_kept : (first now : List ℕ) (changes : List Change) (calls : List Called)
    (first' now' : List ℕ) (changes' : List Change) (calls' : List Called) (change : Change)
    → IsReplayed first now changes calls
    → first' ≡ first
    → now' ≡ seen_after change.deed now
    → changes' ≡ changes ++ change ∷ []
    → calls' ≡ told change true ∷ calls
    → IsReplayed first' now' changes' calls'
unfolding seen_by kept_of AreLostFailed
replayed_kept first now changes calls first' now' changes' calls' change is same_first is_now is_changes is_calls =
    rw (same_first, is_calls) (record {
      bytes = is_now ∙ ap (seen_after change.deed) is.bytes;
      record_part = is_changes ∙ ap (λ (cs : List Change). cs ++ change ∷ []) is.record_part;
      lost = (λ on. absurd (true_isnt_false on), is.lost);
    })

-- a call that failed shows nothing
pub seen_failed : (deed : Deed) (seen : List ℕ) → IsFailed deed → seen_after deed seen ≡ seen
seen_failed (deed.Wrote at bytes) seen is = absurd is
seen_failed (deed.Cut len) seen is = absurd is
seen_failed deed.Synced seen is = absurd is
seen_failed (deed.WriteFailed at len) seen is = refl
seen_failed (deed.CutFailed len) seen is = refl
seen_failed deed.SyncFailed seen is = refl

-- a call that failed, whether the record has it or not
pub replayed_failed : (first now : List ℕ) (changes : List Change) (calls : List Called)
    (changes' : List Change) (calls' : List Called) (change : Change) (kept : Bool)
    → IsReplayed first now changes calls
    → IsFailed change.deed
    → changes' ≡ (if kept then changes ++ change ∷ [] else changes)
    → calls' ≡ told change kept ∷ calls
    → IsReplayed first now changes' calls'
unfolding seen_by kept_of AreLostFailed
replayed_failed first now changes calls changes' calls' change true is failed is_changes is_calls =
    rw is_calls (record {
      bytes = is.bytes ∙ sym (seen_failed change.deed (seen_by first calls) failed);
      record_part = is_changes ∙ ap (λ (cs : List Change). cs ++ change ∷ []) is.record_part;
      lost = (λ off. failed, is.lost);
    })
replayed_failed first now changes calls changes' calls' change false is failed is_changes is_calls =
    rw is_calls (record {
      bytes = is.bytes ∙ sym (seen_failed change.deed (seen_by first calls) failed);
      record_part = is_changes ∙ is.record_part;
      lost = (λ off. failed, is.lost);
    })
