-- What follows where no refusal of an operation holds, and that each refusal is an answer of its line.
use Rattle.std.proofs.Common.{◌≡◌, ◌∙◌, ◌+◌, ℕ, List, [], ◌∷◌, Bool, true, false, not, refl, sym, ap, subst, map, is_none, Option, None, Some, IsSome, nat_lt, arith}
use Rattle.std.proofs.lemmas.Bool.{and_parts}
use Rattle.std.proofs.lemmas.Bool.Decides.{nat_tests}
use Rattle.std.specs.Cmp.Lexicographic.{pointwise}
use Rattle.std.specs.List.{AllByRecursion}
use Rattle.std.specs.Prelude.{bytes_eq, unwrap_or}
use Rattle.hs_laws.proofs.JudgeKeeps.{all_none}
use Rattle.hs_limits.specs.declared.address.Address.{Address}
use Rattle.hs_limits.specs.declared.address.Held.{Held}
use Rattle.hs_limits.specs.declared.limits.Limits.{Limits}
use Rattle.hs_limits.specs.Block.{Block}
use Rattle.hs_model.proofs.Members.{same_from}
use Rattle.hs_model.specs.declared.op.Asked.{Asked}
use Rattle.hs_model.specs.declared.op.Asked.TheVariants as asked
use Rattle.hs_model.specs.declared.reply.Reply.{Reply}
use Rattle.hs_model.specs.declared.reply.Reply.TheVariants as reply
use Rattle.hs_model.specs.declared.store.StoredBlock.{StoredBlock}
use Rattle.hs_model.specs.Deeds.{HoldsFresh, refusals_told}
use Rattle.hs_model.specs.Judge.{address_of, nothing}
use Rattle.hs_model.specs.Refusals.{first, is_block, is_other, no_handle, no_handle_in, no_such_handle, refused_when, stale, stale_handle, stale_in}
use Rattle.hs_model.specs.Replies.{is_of_line}
use Rattle.hs_model.specs.Store.{Session, Store, epoch_at, held_at, held_in, session_at}

-- ---- refusals

pub when_false : (b : Bool) (r : Reply) → refused_when b r ≡ None → b ≡ false
when_false true r e = absurd (cc e)
when_false false r e = refl

pub some_where : {X : Type 0} (o : Option X) → is_none o ≡ false → (x : X) × (o ≡ Some x)
some_where None e = absurd (cc e)
some_where (Some x) e = (x, refl)

pub is_open : (session : Option Session) (r : Reply) → refused_when (is_none session) r ≡ None → IsSome session
is_open None r e = absurd (cc e)
is_open (Some session) r e = refl

first-rest : (r : Option Reply) (rest : List (Option Reply)) → first (r ∷ rest) ≡ None → first rest ≡ None
first-rest None rest e = e
first-rest (Some x) rest e = absurd (cc e)

-- the last two of five
pub last_two : (a b c d e : Option Reply) → first (a ∷ b ∷ c ∷ d ∷ e ∷ []) ≡ None → first (d ∷ e ∷ []) ≡ None
last_two a b c d e h = first-rest c (d ∷ e ∷ []) (first-rest b (c ∷ d ∷ e ∷ []) (first-rest a (b ∷ c ∷ d ∷ e ∷ []) h))

-- ---- handles

-- a handle that is held and fresh
fresh_one : (s : Store) (name : List ℕ) (now handle : ℕ) → no_such_handle (session_at s name) handle ≡ None → stale_handle now handle (held_in (session_at s name) handle) ≡ None
    → HoldsFresh s name now (address_of s name handle)
fresh_one s name now handle there fresh = go (held_at s name handle) refl
  where
    go : (o : Option Held) → held_at s name handle ≡ o → HoldsFresh s name now (address_of s name handle)
    go None at =
        let no : true ≡ false = sym (ap (λ (o : Option Held). is_none o) at) ∙ when_false (is_none (held_at s name handle)) _ there in
        absurd (cc no)
    go (Some held) at =
        let late : nat_lt (held.epoch + 1) now ≡ false = when_false (nat_lt (held.epoch + 1) now) _ (sym (ap (λ (o : Option Held). stale_handle now handle o) at) ∙ fresh) in
        let is : address_of s name handle ≡ held.address = ap (λ (o : Option Held). (unwrap_or o nothing).address) at in
        subst (λ (a : Address). HoldsFresh s name now a) (sym is) (record { handle = handle; epoch = held.epoch; held = at; fresh = grind (arith, nat_tests, late) })

pub fresh_each : (s : Store) (name : List ℕ) (now : ℕ) (handles : List ℕ) → no_handle s name handles ≡ None → stale s name now handles ≡ None → AllByRecursion (HoldsFresh s name now) (map (λ handle. address_of s name handle) handles)
unfolding no_handle_in stale_in
fresh_each s name now handles there fresh = go handles there fresh
  where
    go : (hs : List ℕ) → first (map (λ handle. no_such_handle (session_at s name) handle) hs) ≡ None → first (map (λ handle. stale_handle now handle (held_in (session_at s name) handle)) hs) ≡ None
        → AllByRecursion (HoldsFresh s name now) (map (λ handle. address_of s name handle) hs)
    go [] e f = tt
    go (h ∷ hs) e f =
        let one = all_none (no_such_handle (session_at s name) h ∷ map (λ handle. no_such_handle (session_at s name) handle) hs) e in
        let two = all_none (stale_handle now h (held_in (session_at s name) h) ∷ map (λ handle. stale_handle now handle (held_in (session_at s name) handle)) hs) f in
        (fresh_one s name now h one.0 two.0, go hs (first-rest (no_such_handle (session_at s name) h) (map (λ handle. no_such_handle (session_at s name) handle) hs) e) (first-rest (stale_handle now h (held_in (session_at s name) h)) (map (λ handle. stale_handle now handle (held_in (session_at s name) handle)) hs) f))

-- ---- blocks

pub same_pointers : (ps qs : List Address) → pointwise (λ p q. bytes_eq p.0 q.0) ps qs ≡ true → ps ≡ qs
same_pointers [] [] e = refl
same_pointers [] (q ∷ qs) e = absurd (cc e)
same_pointers (p ∷ ps) [] e = absurd (cc e)
same_pointers (p ∷ ps) (q ∷ qs) e =
    let both = and_parts (bytes_eq p.0 q.0) (pointwise (λ p q. bytes_eq p.0 q.0) ps qs) e in
    let head : p ≡ q = same_from p q both.0 in
    let tail : ps ≡ qs = same_pointers ps qs both.1 in
    λ i. head i ∷ tail i

not_other : (b : Bool) → not b ≡ false → b ≡ true
not_other true e = refl
not_other false e = absurd (cc e)

-- a block that is no other has the pointers
pub its_pointers : (stored : StoredBlock) (block : Block) → is_other (Some stored) block ≡ false → stored.pointers ≡ block.pointers
its_pointers stored block e =
    same_pointers stored.pointers block.pointers (and_parts (pointwise (λ p q. bytes_eq p.0 q.0) stored.pointers block.pointers) (bytes_eq stored.bytes block.bytes) (not_other (is_block stored block) e)).0

-- ---- answers of a line

abbrev IsOfLine : Option Reply → Type 0
IsOfLine None = Unit {0}
IsOfLine (Some r) = is_of_line r ≡ true

first_line : (rs : List (Option Reply)) → AllByRecursion IsOfLine rs → IsOfLine (first rs)
first_line [] h = tt
first_line (None ∷ rs) h = first_line rs h.1
first_line (Some r ∷ rs) h = h.0

when_line : (b : Bool) (r : Reply) → is_of_line r ≡ true → IsOfLine (refused_when b r)
when_line true r h = h
when_line false r h = tt

each_line : (f : ℕ → Option Reply) → ((n : ℕ) → IsOfLine (f n)) → (ns : List ℕ) → AllByRecursion IsOfLine (map f ns)
each_line f h [] = tt
each_line f h (n ∷ ns) = (h n, each_line f h ns)

no_handle_line : (session : Option Session) (handles : List ℕ) → IsOfLine (no_handle_in session handles)
unfolding no_handle_in
no_handle_line session handles =
    let f : ℕ → Option Reply = λ handle. no_such_handle session handle in
    first_line (map f handles) (each_line f (λ n. when_line (is_none (held_in session n)) (reply.NoHandle n) refl) handles)

stale_one : (now handle : ℕ) (o : Option Held) → IsOfLine (stale_handle now handle o)
stale_one now handle None = tt
stale_one now handle (Some held) = when_line (nat_lt (held.epoch + 1) now) (reply.Stale handle held.epoch now) refl

stale_line : (session : Option Session) (now : ℕ) (handles : List ℕ) → IsOfLine (stale_in session now handles)
unfolding stale_in
stale_line session now handles =
    let f : ℕ → Option Reply = λ handle. stale_handle now handle (held_in session handle) in
    first_line (map f handles) (each_line f (λ n. stale_one now n (held_in session n)) handles)

lines_told : (limits : Limits) (s : Store) (o : Asked) (collides : Bool) → AllByRecursion IsOfLine (refusals_told limits s o collides)
unfolding refusals_told
lines_told limits s (asked.Open name) collides = (when_line _ _ refl, (when_line _ _ refl, tt))
lines_told limits s (asked.Close name) collides = (when_line _ _ refl, tt)
lines_told limits s (asked.Write name bytes handles address) collides =
    (when_line _ _ refl, (when_line _ _ refl, (when_line _ _ refl, (no_handle_line _ handles, (when_line _ _ refl, (stale_line _ _ handles, (when_line _ _ refl, (when_line _ _ refl, tt))))))))
lines_told limits s (asked.Read name handle) collides = (when_line _ _ refl, (no_handle_line _ (handle ∷ []), (stale_line _ _ (handle ∷ []), (when_line _ _ refl, tt))))
lines_told limits s (asked.Look name key) collides = (when_line _ _ refl, (when_line _ _ refl, (when_line _ _ refl, tt)))
lines_told limits s (asked.Root name key handle) collides =
    (when_line _ _ refl, (no_handle_line _ (handle ∷ []), (stale_line _ _ (handle ∷ []), (when_line _ _ refl, (when_line _ _ refl, tt)))))
lines_told limits s (asked.Drop key) collides = (when_line _ _ refl, tt)
lines_told limits s (asked.Forget name handle) collides = (when_line _ _ refl, (no_handle_line _ (handle ∷ []), tt))
lines_told limits s (asked.Name name handle) collides = (when_line _ _ refl, (no_handle_line _ (handle ∷ []), tt))
lines_told limits s asked.Delete collides = (when_line _ _ refl, (when_line _ _ refl, tt))
lines_told limits s asked.Stat collides = tt

-- a refusal that holds answers its line
pub refusal_of_line : (limits : Limits) (s : Store) (o : Asked) (collides : Bool) (r : Reply) → first (refusals_told limits s o collides) ≡ Some r → is_of_line r ≡ true
refusal_of_line limits s o collides r e = go (first (refusals_told limits s o collides)) e (first_line (refusals_told limits s o collides) (lines_told limits s o collides))
  where
    go : (x : Option Reply) → x ≡ Some r → IsOfLine x → is_of_line r ≡ true
    go None e h = absurd (cc e)
    go (Some q) e h = let same : q ≡ r = cc e in ap (λ (p : Reply). is_of_line p) (sym same) ∙ h

-- ---- no refusal tells bytes

abbrev IsNoBytes : Reply → Type 0
IsNoBytes (reply.Bytes bytes handles) = ⊥
IsNoBytes other = Unit {0}

abbrev AreNoBytes : Option Reply → Type 0
AreNoBytes None = Unit {0}
AreNoBytes (Some r) = IsNoBytes r

none_tells : (rs : List (Option Reply)) → AllByRecursion AreNoBytes rs → AreNoBytes (first rs)
none_tells [] h = tt
none_tells (None ∷ rs) h = none_tells rs h.1
none_tells (Some r ∷ rs) h = h.0

when_tells : (b : Bool) (r : Reply) → IsNoBytes r → AreNoBytes (refused_when b r)
when_tells true r h = h
when_tells false r h = tt

stale_tells : (now handle : ℕ) (o : Option Held) → AreNoBytes (stale_handle now handle o)
stale_tells now handle None = tt
stale_tells now handle (Some held) = when_tells (nat_lt (held.epoch + 1) now) (reply.Stale handle held.epoch now) tt

pub told_no_bytes : (limits : Limits) (s : Store) (name : List ℕ) (handle : ℕ) (bytes handles : List ℕ) → first (refusals_told limits s (asked.Read name handle) false) ≡ Some (reply.Bytes bytes handles) → ⊥
unfolding refusals_told no_handle_in stale_in
told_no_bytes limits s name handle bytes handles e =
    go (first (refusals_told limits s (asked.Read name handle) false)) e
    (none_tells (refusals_told limits s (asked.Read name handle) false)
    (when_tells _ _ tt, (none_tells (no_such_handle (session_at s name) handle ∷ []) (when_tells _ _ tt, tt), (none_tells (stale_handle (epoch_at s (address_of s name handle)) handle (held_in (session_at s name) handle) ∷ []) (stale_tells (epoch_at s (address_of s name handle)) handle (held_in (session_at s name) handle), tt), (when_tells _ _ tt, tt)))))
  where
    go : (x : Option Reply) → x ≡ Some (reply.Bytes bytes handles) → AreNoBytes x → ⊥
    go None e h = cc e
    go (Some q) e h = let same : q ≡ reply.Bytes bytes handles = cc e in subst (λ (r : Reply). IsNoBytes r) same h
