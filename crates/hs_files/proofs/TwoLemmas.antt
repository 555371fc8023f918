-- The disks of two stores, which one list has.
use Rattle.std.proofs.Common.{◌≡◌, ◌∙◌, ap, sym, subst, refl, ℕ, zero, suc, ◌+◌, ◌<◌, ◌≤◌, List, [], ◌∷◌, ◌++◌, Option, drop, length, map, take, arith}
use Rattle.std.proofs.Math.Seq.{drop-append_seam, take-append_seam}
use Rattle.std.proofs.lemmas.List.{drop-map, length-append, take-append-drop, take-map}
use Rattle.hs_limits.specs.declared.shape.Shape.{Shape}
use Rattle.hs_ports.specs.Disk.{Standing}
use Rattle.hs_ports.specs.Objects.{Objects, faults_at, handed}
use Rattle.hs_files.specs.Copied.{first_disks, peers_of, second_disks}

-- ---- lists

parts_length : {X : Type 0} (n : ℕ) (xs : List X) → length (take n xs) + length (drop n xs) ≡ length xs
parts_length n xs = sym (length-append (take n xs) (drop n xs)) ∙ ap (λ ys. length ys) (take-append-drop n xs)

pub lengths_of : {X : Type 0} (n : ℕ) (old new : List X) → length (take n new) ≡ length (take n old) → length (drop n new) ≡ length (drop n old) → length new ≡ length old
lengths_of n old new first second =
    let was = parts_length n old in
    let is = parts_length n new in
    omega (arith, was, is, first, second)

pub counts_of : (n : ℕ) (old new : List ℕ) → ((k : ℕ) → faults_at (take n old) k ≤ faults_at (take n new) k) → ((k : ℕ) → faults_at (drop n old) k ≤ faults_at (drop n new) k) → (k : ℕ) → faults_at old k ≤ faults_at new k
counts_of zero old new first second k = second k
counts_of (suc n) [] new first second k = omega arith
counts_of (suc n) (x ∷ old) [] first second zero = first 0
counts_of (suc n) (x ∷ old) [] first second (suc k) = counts_of n old [] (λ j. let low = first (suc j) in omega (arith, low)) (λ j. let low = second j in omega (arith, low)) k
counts_of (suc n) (x ∷ old) (y ∷ new) first second zero = first 0
counts_of (suc n) (x ∷ old) (y ∷ new) first second (suc k) = counts_of n old new (λ j. first (suc j)) second k

pub taken_length : {X : Type 0} (n : ℕ) (xs : List X) → n ≤ length xs → length (take n xs) ≡ n
taken_length zero xs low = refl
taken_length (suc n) [] low = absurd (omega (arith, low))
taken_length (suc n) (x ∷ xs) low = ap (λ k. suc k) (taken_length n xs (omega (arith, low)))

pub front_of : {X : Type 0} (n : ℕ) (xs ys : List X) → length xs ≡ n → take n (xs ++ ys) ≡ xs
front_of n xs ys is = subst (λ (m : ℕ). take m (xs ++ ys) ≡ xs) is (take-append_seam xs ys)

pub rest_of : {X : Type 0} (n : ℕ) (xs ys : List X) → length xs ≡ n → drop n (xs ++ ys) ≡ ys
rest_of n xs ys is = subst (λ (m : ℕ). drop m (xs ++ ys) ≡ ys) is (drop-append_seam xs ys)

-- ---- objects

module _ {X : Type 0} (h : X → Standing × ℕ) (shape : Shape) (moment : ℕ) (sink : Option (List (ℕ × ℕ)) × ℕ) (source : Option (List ℕ) × ℕ) where
  pub first_is : (xs : List X) → first_disks shape (handed moment (map h xs) sink source) ≡ handed moment (map h (take (peers_of shape) xs)) sink source
  first_is xs = λ i. record {
    moment = moment;
    disks = (take-map (λ (d : Standing × ℕ). d.0) (peers_of shape) (map h xs) ∙ ap (λ (ds : List (Standing × ℕ)). map (λ (d : Standing × ℕ). d.0) ds) (take-map h (peers_of shape) xs)) i;
    got = sink.0;
    left = source.0;
    disk_faults = (take-map (λ (d : Standing × ℕ). d.1) (peers_of shape) (map h xs) ∙ ap (λ (ds : List (Standing × ℕ)). map (λ (d : Standing × ℕ). d.1) ds) (take-map h (peers_of shape) xs)) i;
    sink_faults = sink.1;
    source_faults = source.1;
  }

  pub second_is : (xs : List X) → second_disks shape (handed moment (map h xs) sink source) ≡ handed moment (map h (drop (peers_of shape) xs)) sink source
  second_is xs = λ i. record {
    moment = moment;
    disks = (drop-map (λ (d : Standing × ℕ). d.0) (peers_of shape) (map h xs) ∙ ap (λ (ds : List (Standing × ℕ)). map (λ (d : Standing × ℕ). d.0) ds) (drop-map h (peers_of shape) xs)) i;
    got = sink.0;
    left = source.0;
    disk_faults = (drop-map (λ (d : Standing × ℕ). d.1) (peers_of shape) (map h xs) ∙ ap (λ (ds : List (Standing × ℕ)). map (λ (d : Standing × ℕ). d.1) ds) (drop-map h (peers_of shape) xs)) i;
    sink_faults = sink.1;
    source_faults = source.1;
  }
