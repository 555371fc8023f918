-- Each part of a payload: what is read is spelled so, and what is spelled so is read.
use Rattle.std.proofs.Common.{◌≡◌, ℕ, ◌+◌, ◌^◌, ◌<◌, ◌≤◌, ◌&&◌, Bool, true, false, leb, ltb, List, [], ◌∷◌, ◌++◌, length, Result, Ok, IsTrue, refl, sym, subst, arith, get_or}
use Rattle.std.specs.Int.{w32, w64}
use Rattle.std.proofs.lemmas.Bool.{leb-true, le-leb, ltb-true, lt-ltb}
use Rattle.hs_limits.specs.Key.{is_key, is_key_byte}
use Rattle.std.specs.List.{list_all}
use Rattle.hs_limits.specs.Fields.{◌>>=◌, check, byte_at, bytes_at, number_at}
use Rattle.hs_limits.proofs.FieldLemmas.{IsBytes, bind_ok, check_ok, ok_is, Takes, Takes-then, byte_takes, bytes_takes, bytes_again, wide32, wide64, number_takes, number_again}
use Rattle.hs_entry.specs.declared.fault.EntryFault.{EntryFault}
use Rattle.hs_entry.specs.declared.fault.EntryFault.TheVariants.{Short, BadField}
use Rattle.hs_entry.specs.Payload.{four, eight, key_field}
use Rattle.hs_entry.specs.Reading.{is_epoch, epoch_at, key_at}

-- ---- numbers

pub four_takes : (whole : ℕ) (bytes : List ℕ) (x : ℕ × List ℕ) → IsBytes bytes → number_at (Short whole) w32 bytes ≡ Ok x → Takes bytes (four x.0) x.1 × (x.0 < 2 ^ 32)
unfolding four
four_takes whole bytes x fit e = number_takes (Short whole) w32 (2 ^ 32) wide32 bytes x fit e

pub four_again : (whole n : ℕ) (rest : List ℕ) → n < 2 ^ 32 → number_at (Short whole) w32 (four n ++ rest) ≡ Ok (n, rest)
unfolding four
four_again whole n rest lt = number_again (Short whole) w32 (2 ^ 32) wide32 n rest lt

pub eight_takes : (whole : ℕ) (bytes : List ℕ) (x : ℕ × List ℕ) → IsBytes bytes → number_at (Short whole) w64 bytes ≡ Ok x → Takes bytes (eight x.0) x.1 × (x.0 < 2 ^ 64)
unfolding eight
eight_takes whole bytes x fit e = number_takes (Short whole) w64 (2 ^ 64) wide64 bytes x fit e

pub eight_again : (whole n : ℕ) (rest : List ℕ) → n < 2 ^ 64 → number_at (Short whole) w64 (eight n ++ rest) ≡ Ok (n, rest)
unfolding eight
eight_again whole n rest lt = number_again (Short whole) w64 (2 ^ 64) wide64 n rest lt

-- one byte, and that it is one
pub one_takes : (whole : ℕ) (bytes : List ℕ) (x : ℕ × List ℕ) → IsBytes bytes → byte_at (Short whole) bytes ≡ Ok x → Takes bytes (x.0 ∷ []) x.1 × (x.0 < 2 ^ 8)
one_takes whole bytes x fit e =
    let t = byte_takes (Short whole) bytes x fit e in
    (t, subst (λ (b : List ℕ). get_or b 0 0 < 256) t.parts (fit 0))

-- ---- epochs

pub both_true : (a b : Bool) → (a && b) ≡ true → (a ≡ true) × (b ≡ true)
both_true true b e = (refl, e)
both_true false b e = absurd cc

epoch_is : (n : ℕ) → is_epoch n ≡ true → (1 ≤ n) × (n < 2 ^ 48)
epoch_is n e =
    let both = both_true (leb 1 n) (ltb n (2 ^ 48)) e in
    (leb-true _ _ both.0, ltb-true _ _ both.1)

is_epoch-true : (n : ℕ) → 1 ≤ n → n < 2 ^ 48 → is_epoch n ≡ true
is_epoch-true n low high = rw (le-leb 1 n low, lt-ltb n (2 ^ 48) high) refl

pub epoch_takes : (whole at : ℕ) (bytes : List ℕ) (x : ℕ × List ℕ) → IsBytes bytes → epoch_at whole at bytes ≡ Ok x → Takes bytes (eight x.0) x.1 × (1 ≤ x.0) × (x.0 < 2 ^ 48)
unfolding epoch_at
epoch_takes whole at bytes x fit e =
    let b1 = bind_ok (number_at (Short whole) w64 bytes) (λ number. check (is_epoch number.0) (BadField at) >>= λ _. Ok number) x e in
    let t1 = eight_takes whole bytes b1.0 fit b1.1 in
    let c1 = check_ok (is_epoch b1.0.0) (BadField at) (Ok b1.0) x b1.2 in
    let epoch = epoch_is b1.0.0 c1.0 in
    subst (λ (y : ℕ × List ℕ). Takes bytes (eight y.0) y.1 × (1 ≤ y.0) × (y.0 < 2 ^ 48)) (ok_is {E = EntryFault} b1.0 x c1.1) (t1.0, epoch.0, epoch.1)

pub epoch_again : (whole at n : ℕ) (rest : List ℕ) → 1 ≤ n → n < 2 ^ 48 → epoch_at whole at (eight n ++ rest) ≡ Ok (n, rest)
unfolding epoch_at
epoch_again whole at n rest low high = rw (eight_again whole n rest (omega (arith, high)), is_epoch-true n low high) refl

-- ---- keys

behind_key : ℕ → List ℕ × List ℕ → Result (List ℕ × List ℕ) EntryFault
behind_key at key = check (is_key key.0) (BadField (at + 1)) >>= λ _. Ok key

behind_len : ℕ → ℕ → ℕ × List ℕ → Result (List ℕ × List ℕ) EntryFault
behind_len whole at len = check (leb 1 len.0 && leb len.0 64) (BadField at) >>= λ _. bytes_at (Short whole) len.0 len.1 >>= behind_key at

pub key_takes : (whole at : ℕ) (bytes : List ℕ) (x : List ℕ × List ℕ) → IsBytes bytes → key_at whole at bytes ≡ Ok x → Takes bytes (key_field x.0) x.1 × IsTrue (is_key x.0)
unfolding key_at behind_len behind_key
key_takes whole at bytes x fit e =
    let b1 = bind_ok (byte_at (Short whole) bytes) (behind_len whole at) x e in
    let t1 = byte_takes (Short whole) bytes b1.0 fit b1.1 in
    let c1 = check_ok (leb 1 b1.0.0 && leb b1.0.0 64) (BadField at) (bytes_at (Short whole) b1.0.0 b1.0.1 >>= behind_key at) x b1.2 in
    let b2 = bind_ok (bytes_at (Short whole) b1.0.0 b1.0.1) (behind_key at) x c1.1 in
    let t2 = bytes_takes (Short whole) b1.0.0 b1.0.1 b2.0 t1.rest_fits b2.1 in
    let c2 = check_ok (is_key b2.0.0) (BadField (at + 1)) (Ok b2.0) x b2.2 in
    let all : Takes bytes (b1.0.0 ∷ b2.0.0) b2.0.1 = Takes-then bytes (b1.0.0 ∷ []) b1.0.1 b2.0.0 b2.0.1 t1 t2.0 in
    let taken : Takes bytes (key_field b2.0.0) b2.0.1 = subst (λ (n : ℕ). Takes bytes (n ∷ b2.0.0) b2.0.1) (sym t2.1) all in
    subst (λ (y : List ℕ × List ℕ). Takes bytes (key_field y.0) y.1 × IsTrue (is_key y.0)) (ok_is {E = EntryFault} b2.0 x c2.1) (taken, c2.0)

pub key_again : (whole at : ℕ) (key rest : List ℕ) → IsTrue (is_key key) → key_at whole at (key_field key ++ rest) ≡ Ok (key, rest)
unfolding key_at
key_again whole at key rest is =
    let sized = both_true (leb 1 (length key) && leb (length key) 64) (list_all is_key_byte key) is in
    rw (sized.0, bytes_again (Short whole) (length key) key rest refl, is) refl
