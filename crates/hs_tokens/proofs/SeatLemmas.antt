-- Handles of a session in their order, and a session that is put back as it was.
use Rattle.std.proofs.Common.{◌≡◌, ◌∙◌, sym, ap, ℕ, ◌<◌, ◌≤◌, true, List, Option, Some, None, length, option_map}
use Rattle.std.proofs.lemmas.Cmp.{eq_by_cmp_equiv, nat_cmp_total}
use Rattle.std.proofs.lemmas.Map.Steps.{set_value_same}
use Rattle.std.proofs.lemmas.Map.Text.{is_eq-slice_cmp}
use Rattle.std.proofs.lemmas.Map.Views.{All-keys_from_lookup, length-le_from_below}
use Rattle.std.proofs.lemmas.Slice.Eq.{bytes_eq-Decides}
use Rattle.std.specs.declared.cmp.Ordering.TheVariants.{Equal}
use Rattle.std.specs.BTreeMap.{is_at}
use Rattle.std.specs.List.Sorted.{IsStrictlySortedBy}
use Rattle.std.specs.Map.{keys_of, lookup, set_value}
use Rattle.std.specs.Option.{IsSome}
use Rattle.std.specs.Ordering.{is_eq, nat_cmp}
use Rattle.std.specs.Prelude.{IfSome, bytes_eq}
use Rattle.hs_tokens.specs.Seats.{Seat, Seats, name_cmp, seat_of}

-- a session in its own place changes nothing
pub same_seat : (name : List ℕ) (seats : Seats) (seat : Seat) → seat_of name seats ≡ Some seat → set_value (is_at (name_cmp name)) seats seat ≡ seats
same_seat name seats seat h = set_value_same (is_at (name_cmp name)) seats seat h

-- below a number there are at most as many keys as that number
pub keys_below : {X : Type 0} (n : ℕ) (es : List (ℕ × X)) → IsStrictlySortedBy nat_cmp (keys_of es) → ((k : ℕ) → IsSome (lookup (is_at (nat_cmp k)) es) → k < n) → length (keys_of es) ≤ n
keys_below n es sorted below =
    length-le_from_below n (keys_of es) sorted (All-keys_from_lookup (eq_by_cmp_equiv nat_cmp_total) (λ k. k < n) es below)

-- names with the same bytes are one
pub same_name : (a b : List ℕ) → bytes_eq a b ≡ true → a ≡ b
same_name a b h = (bytes_eq-Decides a b).0 h

-- and so are those that the order does not tell apart
equal_names : (a b : List ℕ) → name_cmp a b ≡ Equal → a ≡ b
equal_names a b h = same_name a b (sym (is_eq-slice_cmp a b) ∙ ap is_eq h)

-- a session that is found by a name is that of the name beside it
pub entry_is : {A B : Type 0} (key : A → List ℕ) (seat : B → Seat) (name : List ℕ) (seats : Seats) (o : Option (A × B))
    → IfSome o (λ p. name_cmp name (key p.0) ≡ Equal) → option_map (λ p. seat p.1) o ≡ seat_of name seats
    → IfSome o (λ p. seat_of (key p.0) seats ≡ Some (seat p.1))
entry_is key seat name seats None same found = same
entry_is key seat name seats (Some p) same found = ap (λ n. seat_of n seats) (sym (equal_names name (key p.0) same)) ∙ sym found
