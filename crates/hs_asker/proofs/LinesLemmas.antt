-- The commands of what was asked for.
use Rattle.std.proofs.Common.{◌≡◌, ◌∙◌, inl, inr, ap, subst, ℕ, suc, ◌+◌, ◌-◌, ◌<◌, ◌≤◌, ◌==◌, Bool, true, false, List, [], ◌∷◌, ◌++◌, Option, Some, None, refl, arith, append-nil, length, if◌then◌else◌}
use Rattle.std.proofs.lemmas.Bool.{cases_eq, ne_eqb}
use Rattle.std.proofs.lemmas.List.Elements.{filter_map-append}
use Rattle.std.specs.List.{AllByRecursion, filter_map}
use Rattle.std.specs.Prelude.{IsSome}
use Rattle.hs_events.specs.Commands.{is_served}
use Rattle.hs_journal.specs.Events.{client_op}
use Rattle.hs_model.specs.declared.command.Command.{Command}
use Rattle.hs_model.specs.declared.command.Command.TheVariants as command
use Rattle.hs_model.specs.declared.op.Op.{Op}
use Rattle.hs_asker.specs.Lines.{AreAsked, IsDriving, IsOfAsker, command_at, ops_of}

-- ---- by number

none_some : (c : Command) → None ≡ Some c → ⊥
none_some c e = cc

pub command_front : (xs ys : List Command) (n : ℕ) (c : Command) → command_at xs n ≡ Some c → command_at (xs ++ ys) n ≡ Some c
command_front [] ys n c h = absurd (none_some c h)
command_front (x ∷ xs) ys n c h = go (command_front xs ys (n - 1) c) (n == 1) h
  where
    go : (command_at xs (n - 1) ≡ Some c → command_at (xs ++ ys) (n - 1) ≡ Some c) → (b : Bool) → (if b then Some x else command_at xs (n - 1)) ≡ Some c → (if b then Some x else command_at (xs ++ ys) (n - 1)) ≡ Some c
    go rest true k = k
    go rest false k = rest k

-- that of the number behind some
pub command_behind : (xs ys : List Command) (n : ℕ) → 0 < n → command_at (xs ++ ys) (length xs + n) ≡ command_at ys n
command_behind [] ys n some = ap (λ (k : ℕ). command_at ys k) (none_on n)
  where
    none_on : (n : ℕ) → 0 + n ≡ n
    none_on n = omega arith
command_behind (x ∷ xs) ys n some =
    let far : ((suc (length xs) + n) == 1) ≡ false = not_one (length xs) n some in
    ap (λ (b : Bool). if b then Some x else command_at (xs ++ ys) (suc (length xs) + n - 1)) far
    ∙ ap (λ (k : ℕ). command_at (xs ++ ys) k) (less (length xs) n) ∙ command_behind xs ys n some
  where
    not_one : (k n : ℕ) → 0 < n → ((suc k + n) == 1) ≡ false
    not_one k n some = grind (arith, some)

    less : (k n : ℕ) → suc k + n - 1 ≡ k + n
    less k n = omega arith

pub command_last : (xs : List Command) (c : Command) → command_at (xs ++ c ∷ []) (length xs + 1) ≡ Some c
command_last xs c = command_behind xs (c ∷ []) 1 (omega arith)

pub command_zero : (xs : List Command) → command_at xs 0 ≡ None
command_zero [] = refl
command_zero (x ∷ xs) = command_zero xs

-- a client's line is one of them
pub command_within : (xs : List Command) (n : ℕ) → IsSome (client_op (command_at xs n)) → n ≤ length xs
command_within [] n some = absurd (cc some)
command_within (x ∷ xs) n some = elim (cases_eq n 1) [
  | inl one ↦ omega (arith, one)
  | inr other ↦ (let rest = command_within xs (n - 1) (subst (λ (b : Bool). IsSome (client_op (if b then Some x else command_at xs (n - 1)))) (ne_eqb n 1 other) some) in omega (arith, rest))
]

-- ---- one more

pub asked_less : (commands : ℕ → Option Command) (said : List Command) (c : Command) → AreAsked commands (said ++ c ∷ []) → AreAsked commands said
asked_less commands said c h = λ n d at. h n d (command_front said (c ∷ []) n d at)

pub asked_last : (commands : ℕ → Option Command) (said : List Command) (c : Command) → AreAsked commands (said ++ c ∷ []) → commands (length said + 1) ≡ Some c
asked_last commands said c h = h (length said + 1) c (command_last said c)

pub are_asked : (said : List Command) → AreAsked (command_at said) said
are_asked said = λ n c h. h

-- the commands of some lines begin with the first ones
pub asked_front : (said more : List Command) → AreAsked (command_at (said ++ more)) said
asked_front said more = λ n c at. command_front said more n c at

-- ---- lines that drive

pub drives_none : (c : Command) → IsDriving c → client_op (Some c) ≡ None
drives_none (command.Client o) h = cc h
drives_none command.Settle h = refl
drives_none (command.Turn peer) h = refl
drives_none (command.Nudge peer) h = refl
drives_none (command.Deliver message) h = refl
drives_none (command.Lose message) h = refl
drives_none (command.Repeat message) h = refl
drives_none (command.Fail peer) h = refl
drives_none (command.Start peer) h = refl
drives_none (command.Reclaim peer) h = refl

pub drives_served : (c : Command) → IsDriving c → is_served c ≡ true
drives_served (command.Client o) h = refl
drives_served command.Settle h = refl
drives_served (command.Turn peer) h = refl
drives_served (command.Nudge peer) h = refl
drives_served (command.Deliver message) h = refl
drives_served (command.Lose message) h = refl
drives_served (command.Repeat message) h = refl
drives_served (command.Fail peer) h = refl
drives_served (command.Start peer) h = refl
drives_served (command.Reclaim peer) h = cc h

drives_of_asker : (c : Command) → IsDriving c → IsOfAsker c
drives_of_asker (command.Client o) h = tt
drives_of_asker command.Settle h = h
drives_of_asker (command.Turn peer) h = h
drives_of_asker (command.Nudge peer) h = h
drives_of_asker (command.Deliver message) h = h
drives_of_asker (command.Lose message) h = h
drives_of_asker (command.Repeat message) h = h
drives_of_asker (command.Fail peer) h = h
drives_of_asker (command.Start peer) h = h
drives_of_asker (command.Reclaim peer) h = h

pub all_of_asker : (said : List Command) → AllByRecursion IsDriving said → AllByRecursion IsOfAsker said
all_of_asker [] h = tt
all_of_asker (c ∷ cs) h = (drives_of_asker c h.0, all_of_asker cs h.1)

-- ---- what a client asks for

-- lines that drive ask for nothing
ops_none : (said : List Command) → AllByRecursion IsDriving said → ops_of said ≡ []
ops_none [] h = refl
ops_none (c ∷ cs) h = go (client_op (Some c)) (drives_none c h.0) (ops_none cs h.1)
  where
    go : (o : Option Op) → o ≡ None → ops_of cs ≡ [] → filter_map (λ (c : Command). client_op (Some c)) (c ∷ cs) ≡ []
    go o e rest = rw (drives_none c h.0) rest

pub ops_more : (said more : List Command) (o : Op) → AllByRecursion IsDriving more → ops_of ((said ++ command.Client o ∷ []) ++ more) ≡ ops_of said ++ o ∷ []
ops_more said more o h =
    let f : Command → Option Op = λ c. client_op (Some c) in
    filter_map-append f (said ++ command.Client o ∷ []) more
    ∙ ap (λ (rest : List Op). ops_of (said ++ command.Client o ∷ []) ++ rest) (ops_none more h)
    ∙ append-nil (ops_of (said ++ command.Client o ∷ []))
    ∙ filter_map-append f said (command.Client o ∷ [])

none_asked : (more : List Command) (n : ℕ) → AllByRecursion IsDriving more → client_op (command_at more n) ≡ None
none_asked [] n h = refl
none_asked (c ∷ cs) n h = go (none_asked cs (n - 1) h.1) (n == 1)
  where
    go : client_op (command_at cs (n - 1)) ≡ None → (b : Bool) → client_op (if b then Some c else command_at cs (n - 1)) ≡ None
    go rest true = drives_none c h.0
    go rest false = rest

-- behind lines that drive every line asks as before
client_driven : (said more : List Command) (n : ℕ) → AllByRecursion IsDriving more → client_op (command_at (said ++ more) n) ≡ client_op (command_at said n)
client_driven [] more n h = none_asked more n h
client_driven (x ∷ xs) more n h = go (client_driven xs more (n - 1) h) (n == 1)
  where
    go : client_op (command_at (xs ++ more) (n - 1)) ≡ client_op (command_at xs (n - 1)) → (b : Bool) → client_op (if b then Some x else command_at (xs ++ more) (n - 1)) ≡ client_op (if b then Some x else command_at xs (n - 1))
    go rest true = refl
    go rest false = rest

-- behind one that asks every other does
client_more : (cs : List Command) (o : Op) (n : ℕ) → (n ≡ length cs + 1 → ⊥) → client_op (command_at (cs ++ command.Client o ∷ []) n) ≡ client_op (command_at cs n)
client_more [] o n other = first (n == 1) refl
  where
    is_one : (n : ℕ) → (n == 1) ≡ true → n ≡ 1
    is_one n e = grind (arith, e)

    first : (b : Bool) → (n == 1) ≡ b → client_op (if b then Some (command.Client o) else None) ≡ None
    first true e = absurd (other (is_one n e))
    first false e = refl
client_more (x ∷ cs) o n other = go (client_more cs o (n - 1)) (n == 1) refl
  where
    zero_or : (n : ℕ) → (n == 1) ≡ false → n - 1 ≡ length cs + 1 → n ≡ suc (length cs) + 1
    zero_or n e k = grind (arith, e, k)

    go : ((n - 1 ≡ length cs + 1 → ⊥) → client_op (command_at (cs ++ command.Client o ∷ []) (n - 1)) ≡ client_op (command_at cs (n - 1)))
        → (b : Bool) → (n == 1) ≡ b → client_op (if b then Some x else command_at (cs ++ command.Client o ∷ []) (n - 1)) ≡ client_op (if b then Some x else command_at cs (n - 1))
    go rest true e = refl
    go rest false e = rest (λ is. other (zero_or n e is))

pub asks_there : (said more : List Command) (o : Op) → AllByRecursion IsDriving more → client_op (command_at ((said ++ command.Client o ∷ []) ++ more) (length said + 1)) ≡ Some o
asks_there said more o h = client_driven (said ++ command.Client o ∷ []) more (length said + 1) h ∙ ap client_op (command_last said (command.Client o))

pub asks_other : (said more : List Command) (o : Op) (n : ℕ) → AllByRecursion IsDriving more → (n ≡ length said + 1 → ⊥) → client_op (command_at ((said ++ command.Client o ∷ []) ++ more) n) ≡ client_op (command_at said n)
asks_other said more o n h other = client_driven (said ++ command.Client o ∷ []) more n h ∙ client_more said o n other
