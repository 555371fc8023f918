-- What a call promises, from what is promised of a run and what hs_run says of it.
use Rattle.std.proofs.Common.{◌≡◌, ◌∙◌, ap, sym, subst, refl, ℕ, zero, suc, ◌≤◌, ◌++◌, List, [], ◌∷◌, Option, Some, None, length, map, take, drop, take_all, arith}
use Rattle.std.proofs.lemmas.Bool.{false≢true}
use Rattle.std.proofs.lemmas.List.{length-map}
use Rattle.std.specs.Prelude.{IfSome, is_some}
use Rattle.hs_limits.specs.declared.address.Address.{Address}
use Rattle.hs_promise.specs.declared.status.Status.TheVariants as status
use Rattle.hs_promise.specs.Promise.{IsUsage}
use Rattle.hs_promise.specs.Run.{Ran}
use Rattle.hs_script.specs.declared.invocation.Invocation.{Invocation}
use Rattle.hs_top.specs.Calls.{Does, IsCalled}
use Rattle.hs_top.specs.Words.{served_on}

-- as many disks are handed in as there are
pub handed_count : {A B C : Type 0} (f : A → B × C) (disks : List A) → length (map (λ (d : B × C). d.0) (map f disks)) ≡ length disks
handed_count {A} {B} {C} f disks = length-map (map f disks) (λ (d : B × C). d.0) ∙ length-map disks f

-- ---- what a vector holds behind a call on its slice

none_behind : {X : Type 0} (n : ℕ) (xs : List X) → length xs ≤ n → drop n xs ≡ []
none_behind zero [] h = refl
none_behind (suc n) [] h = refl
none_behind zero (x ∷ xs) h = absurd (omega (arith, h))
none_behind (suc n) (x ∷ xs) h = none_behind n xs (omega (arith, h))

and_none : {X : Type 0} (xs : List X) → xs ++ [] ≡ xs
and_none [] = refl
and_none {X} (x ∷ xs) = ap (λ (ys : List X). x ∷ ys) (and_none xs)

pub written_back : {X : Type 0} (n : ℕ) (new old : List X) → length new ≡ length old → length old ≡ n → take n (new ++ drop (length new) old) ≡ new
written_back {X} n new old same all =
    ap (λ (ys : List X). take n (new ++ ys)) (none_behind (length new) old (omega (arith, same)))
    ∙ ap (λ (ys : List X). take n ys) (and_none new)
    ∙ take_all n new (omega (arith, same, all))

-- so what is of the slice before and behind is of the vector
pub of_vector : {X : Type 0} (P : List X → List X → Type 0) (n : ℕ) (slice old left : List X) → slice ≡ old → length left ≡ length slice → length slice ≡ n → P slice left → P old (take n (left ++ drop (length left) old))
of_vector {X} P n slice old left all same long holds =
    subst (λ (disks : List X). P disks (take n (left ++ drop (length left) disks))) all (subst (λ (disks : List X). P slice disks) (sym (written_back n left slice same long)) holds)

-- ---- a call

none_there : {T : Type 0} (o : Option T) (x : T) → o ≡ None → o ≡ Some x → ⊥
none_there {T} o x none there = false≢true (ap (λ (o : Option T). is_some o) (sym none ∙ there))

module _ (tells : Type 0) (name : List ℕ → Address) (words : List (List ℕ)) (disks : ℕ) (r : Ran) (same : length r.old.disks ≡ disks) where
  -- what the words ask for was done
  pub called_of : (asked : Invocation) → served_on words disks ≡ Some asked → Does tells name asked.shape asked.task r → (r.ending ≡ status.Usage → ⊥) → IsCalled tells name words r
  called_of asked is does begun = record {
    does = subst (λ (n : ℕ). IfSome (served_on words n) (λ (a : Invocation). Does tells name a.shape a.task r)) (sym same)
        (subst (λ (o : Option Invocation). IfSome o (λ (a : Invocation). Does tells name a.shape a.task r)) (sym is) does);
    usage = λ none. absurd (none_there (served_on words disks) asked (subst (λ (n : ℕ). served_on words n ≡ None) same none) is);
    only_usage = λ ends. absurd (begun ends);
  }

  -- they ask for nothing that is served
  pub called_not : served_on words disks ≡ None → IsUsage r → IsCalled tells name words r
  called_not none usage =
      let there : served_on words (length r.old.disks) ≡ None = subst (λ (n : ℕ). served_on words n ≡ None) (sym same) none in
      record {
        does = subst (λ (o : Option Invocation). IfSome o (λ (a : Invocation). Does tells name a.shape a.task r)) (sym there) tt;
        usage = λ is. usage;
        only_usage = λ ends. there;
      }
