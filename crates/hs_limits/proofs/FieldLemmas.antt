-- A field that is read is the field that was written, and what was written is read again.
use Rattle.std.proofs.Common.{◌≡◌, ℕ, suc, ◌+◌, ◌^◌, ◌<◌, ◌≤◌, Bool, true, false, cond, ltb, List, [], ◌∷◌, ◌++◌, length, get_or, take, drop, Result, Ok, Err, refl, sym, ap, subst, ◌∙◌, append_assoc, arith, inl, inr}
use Rattle.std.specs.Int.{Width, w16, w32, w64, byte_len, from_be_bytes, to_be_bytes}
use Rattle.std.proofs.lemmas.Bool.{cases_lt, ltb-false, le-ltb}
use Rattle.std.proofs.lemmas.List.{take_at, drop_at, take-append-drop, length-append, length-take, get_or-drop, get_or-take, get_or_past}
use Rattle.std.proofs.lemmas.Nat.{be_bytes_2, be_bytes_4, be_bytes_8, from_be_bytes-to_be_bytes_2, from_be_bytes-to_be_bytes_4, from_be_bytes-to_be_bytes_8}
use Rattle.hs_limits.specs.Fields.{◌>>=◌, check, byte_at, bytes_at, number_at}

-- each is a byte
abbrev pub IsBytes : List ℕ → Type 0
IsBytes bytes = (i : ℕ) → get_or bytes i 0 < 256

pub IsBytes-drop : (n : ℕ) (bytes : List ℕ) → IsBytes bytes → IsBytes (drop n bytes)
IsBytes-drop n bytes fit i = rw get_or-drop (fit (n + i))

pub IsBytes-take : (n : ℕ) (bytes : List ℕ) → IsBytes bytes → IsBytes (take n bytes)
IsBytes-take n bytes fit i =
    elim (cases_lt i n) [
      | inl lt ↦ rw (get_or-take n bytes i 0 lt) (fit i)
      | inr le ↦ rw (get_or_past (take n bytes) i 0 (omega (arith, length-take n bytes))) (omega arith)
    ]

-- the value of a step that did not fail, and what came of it
pub bind_ok : {A B E : Type 0} (r : Result A E) (f : A → Result B E) (y : B) → (r >>= f) ≡ Ok y → (x : A) × (r ≡ Ok x) × (f x ≡ Ok y)
bind_ok (Ok x) f y e = (x, refl, e)
bind_ok (Err d) f y e = absurd cc

-- a check that did not stop
pub check_ok : {B E : Type 0} (test : Bool) (fault : E) (next : Result B E) (y : B) → (check test fault >>= λ _. next) ≡ Ok y → (test ≡ true) × (next ≡ Ok y)
check_ok true fault next y e = (refl, e)
check_ok false fault next y e = absurd cc

abbrev done : {A E : Type 0} → A → Result A E
done x = Ok x

pub ok_is : {A E : Type 0} (x y : A) → done {E = E} x ≡ done y → x ≡ y
ok_is x y e = cc

-- what a reader took from the front
pub record Takes (bytes text rest : List ℕ) : Type 0 where
  pub parts : bytes ≡ text ++ rest
  pub rest_fits : IsBytes rest

pub Takes-then : (a x b y c : List ℕ) → Takes a x b → Takes b y c → Takes a (x ++ y) c
Takes-then a x b y c p q = record { parts = p.parts ∙ ap (λ (t : List ℕ). x ++ t) q.parts ∙ sym (append_assoc x y c); rest_fits = q.rest_fits }

-- ---- one byte

pub byte_takes : {E : Type 0} (short : E) (bytes : List ℕ) (x : ℕ × List ℕ) → IsBytes bytes → byte_at short bytes ≡ Ok x → Takes bytes (x.0 ∷ []) x.1
byte_takes short [] x fit e = absurd cc
byte_takes {E} short (byte ∷ bytes) x fit e =
    subst (λ (y : ℕ × List ℕ). Takes (byte ∷ bytes) (y.0 ∷ []) y.1) (ok_is {E = E} (byte, bytes) x e) (record { parts = refl; rest_fits = λ i. fit (suc i) })

-- ---- several bytes

pub bytes_takes : {E : Type 0} (short : E) (n : ℕ) (bytes : List ℕ) (x : List ℕ × List ℕ) → IsBytes bytes → bytes_at short n bytes ≡ Ok x
    → Takes bytes x.0 x.1 × (length x.0 ≡ n) × IsBytes x.0
bytes_takes {E} short n bytes x fit e =
    let taken : (b : Bool) → ltb (length bytes) n ≡ b → cond b (Err short) (Ok (take n bytes, drop n bytes)) ≡ Ok x → Takes bytes x.0 x.1 × (length x.0 ≡ n) × IsBytes x.0 =
    λ b. elim b as (λ v. ltb (length bytes) n ≡ v → cond v (Err short) (Ok (take n bytes, drop n bytes)) ≡ Ok x → Takes bytes x.0 x.1 × (length x.0 ≡ n) × IsBytes x.0) [
      | true ↦ λ is fails. absurd (cc)
      | false ↦ λ is gave.
          let long : n ≤ length bytes = ltb-false _ _ is in
          subst (λ (y : List ℕ × List ℕ). Takes bytes y.0 y.1 × (length y.0 ≡ n) × IsBytes y.0) (ok_is {E = E} (take n bytes, drop n bytes) x gave)
          (record { parts = sym (take-append-drop n bytes); rest_fits = IsBytes-drop n bytes fit }, omega (arith, length-take n bytes), IsBytes-take n bytes fit)
    ] in
    taken (ltb (length bytes) n) refl e

pub bytes_again : {E : Type 0} (short : E) (n : ℕ) (front rest : List ℕ) → length front ≡ n → bytes_at short n (front ++ rest) ≡ Ok (front, rest)
bytes_again short n front rest len =
    let long : ltb (length (front ++ rest)) n ≡ false = le-ltb _ _ (omega (arith, length-append front rest)) in
    rw (long, take_at front rest n len, drop_at front rest n len) refl

-- ---- numbers

pub record IsWide (w : Width) (limit : ℕ) : Type 0 where
  pub len : (n : ℕ) → length (to_be_bytes w n) ≡ byte_len w
  pub back : (bytes : List ℕ) → length bytes ≡ byte_len w → IsBytes bytes → to_be_bytes w (from_be_bytes w bytes) ≡ bytes
  pub again : (n : ℕ) → n < limit → from_be_bytes w (to_be_bytes w n) ≡ n
  pub below : (bytes : List ℕ) → IsBytes bytes → from_be_bytes w bytes < limit

pub wide16 : IsWide w16 (2 ^ 16)
wide16 = record {
  len = λ n. refl;
  back = λ bytes len fit. be_bytes_2 bytes _ len fit refl;
  again = λ n lt. from_be_bytes-to_be_bytes_2 n lt;
  below = λ bytes fit. omega (arith, fit 0, fit 1);
}

pub wide32 : IsWide w32 (2 ^ 32)
wide32 = record {
  len = λ n. refl;
  back = λ bytes len fit. be_bytes_4 bytes _ len fit refl;
  again = λ n lt. from_be_bytes-to_be_bytes_4 n lt;
  below = λ bytes fit. omega (arith, fit 0, fit 1, fit 2, fit 3);
}

pub wide64 : IsWide w64 (2 ^ 64)
wide64 = record {
  len = λ n. refl;
  back = λ bytes len fit. be_bytes_8 bytes _ len fit refl;
  again = λ n lt. from_be_bytes-to_be_bytes_8 n lt;
  below = λ bytes fit. omega (arith, fit 0, fit 1, fit 2, fit 3, fit 4, fit 5, fit 6, fit 7);
}

pub number_takes : {E : Type 0} (short : E) (w : Width) (limit : ℕ) → IsWide w limit → (bytes : List ℕ) (x : ℕ × List ℕ) → IsBytes bytes → number_at short w bytes ≡ Ok x
    → Takes bytes (to_be_bytes w x.0) x.1 × (x.0 < limit)
number_takes {E} short w limit wide bytes x fit e =
    let b = bind_ok (bytes_at short (byte_len w) bytes) (λ field. Ok (from_be_bytes w field.0, field.1)) x e in
    let t = bytes_takes short (byte_len w) bytes b.0 fit b.1 in
    let front : to_be_bytes w (from_be_bytes w b.0.0) ≡ b.0.0 = wide.back b.0.0 t.1 t.2 in
    subst (λ (y : ℕ × List ℕ). Takes bytes (to_be_bytes w y.0) y.1 × (y.0 < limit)) (ok_is {E = E} (from_be_bytes w b.0.0, b.0.1) x b.2)
    (subst (λ (text : List ℕ). Takes bytes text b.0.1) (sym front) t.0, wide.below b.0.0 t.2)

pub number_again : {E : Type 0} (short : E) (w : Width) (limit : ℕ) → IsWide w limit → (n : ℕ) (rest : List ℕ) → n < limit → number_at short w (to_be_bytes w n ++ rest) ≡ Ok (n, rest)
number_again short w limit wide n rest lt =
    rw (bytes_again short (byte_len w) (to_be_bytes w n) rest (wide.len n), wide.again n lt) refl
