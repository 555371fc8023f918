-- Words that name a shape are run on as many disks as it has peers.
use Rattle.std.proofs.Common.{◌≡◌, ◌∙◌, ℕ, ◌+◌, ◌*◌, ◌==◌, Bool, true, false, List, Option, Some, None, length, map, refl, subst, ap, arith}
use Rattle.std.proofs.lemmas.Bool.{eq-eqb}
use Rattle.std.specs.Option.{option_and_then, option_map}
use Rattle.std.specs.Prelude.{if◌then◌else◌}
use Rattle.hs_script.specs.CommandLine.{disks_of, invocation_of, second_disks}
use Rattle.hs_script.specs.declared.invocation.Invocation.{Invocation}
use Rattle.hs_script.specs.declared.invocation.Task.{Task}
use Rattle.hs_script.specs.declared.invocation.Task.TheVariants as task
use Rattle.hs_top.proofs.CalledLemmas.{handed_count}
use Rattle.hs_top.specs.Words.{is_served, second_of, served_on, shape_in, where_served}
use Rattle.hydra.specs.CommandLine.{peers_in, peers_of}

some_none : {X : Type 0} (x : X) → Some x ≡ None → ⊥
some_none x is = absurd cc

-- the second store's disks
seconds : (t : Task) → peers_of (second_of t) ≡ second_disks t
seconds (task.Script limits visits cache) = refl
seconds (task.Load seed writers files) = refl
seconds task.Audit = refl
seconds (task.Store key) = refl
seconds (task.Fetch key) = refl
seconds (task.Scrub from) = refl
seconds (task.Copy key dir second delete) = refl

module _ (n : ℕ) (a : Invocation) where
  unshaped : (o : Option Invocation) → option_map (λ asked. asked.shape) o ≡ None → o ≡ None
  unshaped None none = refl
  unshaped (Some b) none = absurd (some_none b.shape none)

  no_fit : (fits : Bool) → where_served a ≡ None → option_and_then where_served (if fits then Some a else None) ≡ None
  no_fit true none = none
  no_fit false none = refl

  shaped : (served : Bool) → is_served a.task ≡ served → n ≡ peers_of (option_map (λ asked. asked.shape) (if served then Some a else None)) + peers_of (second_of a.task)
      → ((n == disks_of a) ≡ true → (if served then Some a else None) ≡ None) → option_map (λ asked. asked.shape) (if served then Some a else None) ≡ None
  shaped true is same none = absurd (some_none a (none (eq-eqb n (disks_of a) (omega (arith, same, seconds a.task)))))
  shaped false is same none = refl

  where_fit : (fits : Bool) → option_and_then where_served (if fits then Some a else None) ≡ None → fits ≡ true → where_served a ≡ None
  where_fit true none is = none
  where_fit false none is = absurd cc

-- words that name none are run on no disks
pub no_shape : (words : List (List ℕ)) (n : ℕ) → shape_in words ≡ None → served_on words n ≡ None
no_shape words n none = go (invocation_of words) none
  where
    go : (o : Option Invocation) → option_map (λ asked. asked.shape) (option_and_then where_served o) ≡ None
        → option_and_then where_served (option_and_then (λ asked. if n == disks_of asked then Some asked else None) o) ≡ None
    go None h = refl
    go (Some a) h = no_fit n a (n == disks_of a) (unshaped n a (where_served a) h)

-- words that are not run on as many disks as they name peers name no shape
pub no_run : (words : List (List ℕ)) (n : ℕ) → n ≡ peers_in words → served_on words n ≡ None → shape_in words ≡ None
no_run words n same none = go (invocation_of words) same none
  where
    go : (o : Option Invocation) → n ≡ peers_of (option_map (λ asked. asked.shape) (option_and_then where_served o)) + peers_of (option_and_then (λ asked. second_of asked.task) o)
        → option_and_then where_served (option_and_then (λ asked. if n == disks_of asked then Some asked else None) o) ≡ None
        → option_map (λ asked. asked.shape) (option_and_then where_served o) ≡ None
    go None m h = refl
    go (Some a) m h = shaped n a (is_served a.task) refl m (where_fit n a (n == disks_of a) h)

-- nor do those that are handed in
pub no_run_on : {A B C : Type 0} (f : A → B × C) (words : List (List ℕ)) (disks : List A) → length disks ≡ peers_in words
    → served_on words (length (map (λ (d : B × C). d.0) (map f disks))) ≡ None → shape_in words ≡ None
no_run_on {A} {B} {C} f words disks same none = no_run words (length disks) same (subst (λ (n : ℕ). served_on words n ≡ None) (handed_count f disks) none)
