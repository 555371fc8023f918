-- The first line feed from a place on, as the search for a byte finds it.
use Rattle.std.proofs.Common.{◌≡◌, ℕ, ◌+◌, ◌-◌, ◌<◌, ◌≤◌, ◌==◌, List, length, drop, get_or, slice_index, Some, None, sym, ap, ◌∙◌, arith, length-drop}
use Rattle.std.proofs.lemmas.Bool.{eqb-true}
use Rattle.std.proofs.lemmas.List.{get_or-drop}
use Rattle.memchr.specs.Find.{IsFirstByte, is_byte}
use Rattle.hs_run.specs.Lines.{HasNoFeed, IsFeedAt}

-- the byte at a place, counted from another
behind : (bytes : List ℕ) (from k : ℕ) → from ≤ k → slice_index (drop from bytes) (k - from) ≡ slice_index bytes k
behind bytes from k low =
    let there : from + (k - from) ≡ k = omega (arith, low) in
    get_or-drop from bytes (k - from) 0 ∙ ap (λ (n : ℕ). get_or bytes n 0) there

pub no_feed_found : (bytes : List ℕ) (from : ℕ) → IsFirstByte (is_byte 10) (drop from bytes) None → HasNoFeed bytes from (length bytes)
no_feed_found bytes from none = λ k low lt same.
    let short : k - from < length (drop from bytes) = omega (arith, length-drop from bytes, low, lt) in
    none (k - from) (omega arith) short (ap (λ (b : ℕ). b == 10) (behind bytes from k low ∙ same))

pub feed_found : (bytes : List ℕ) (from at : ℕ) → IsFirstByte (is_byte 10) (drop from bytes) (Some at) → IsFeedAt bytes from (from + at)
feed_found bytes from at found = record {
  from_on = omega arith;
  within = omega (arith, length-drop from bytes, found.0.high);
  feed = sym (get_or-drop from bytes at 0) ∙ eqb-true (slice_index (drop from bytes) at) 10 found.1;
  first = λ k low lt same.
      let short : k - from < at = omega (arith, low, lt) in
      found.0.before (k - from) (omega arith) short (ap (λ (b : ℕ). b == 10) (behind bytes from k low ∙ same));
}
