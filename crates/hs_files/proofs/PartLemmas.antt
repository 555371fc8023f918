-- The run of a command on the disks of two stores, and its parts on those of each.
use Rattle.std.proofs.Common.{◌≡◌, ◌∙◌, ap, sym, subst, refl, ℕ, List, ◌++◌, Option, drop, length, map, take}
use Rattle.hs_limits.specs.declared.shape.Shape.{Shape}
use Rattle.hs_ports.specs.Disk.{Standing}
use Rattle.hs_ports.specs.Objects.{Objects, handed}
use Rattle.hs_promise.specs.Run.{Ran, ran_of}
use Rattle.hs_promise.specs.declared.outcome.Outcome.{Outcome}
use Rattle.hs_promise.specs.declared.status.Status.{Status}
use Rattle.hs_files.specs.Client.{beneath, disks_alone}
use Rattle.hs_files.specs.Copied.{IsInFirst, first_disks, in_first, in_second, peers_of, second_disks}
use Rattle.hs_files.proofs.TwoLemmas.{first_is, front_of, rest_of, second_is}

module _ {X : Type 0} (h : X → Standing × ℕ) (shape : Shape) (sink sink' : Option (List (ℕ × ℕ)) × ℕ) (source source' : Option (List ℕ) × ℕ) (before now : ℕ) (xs ys zs : List X) (front : length ys ≡ peers_of shape) where
  -- the disks at entry, and at the end
  abbrev was : Objects
  was = handed before (map h xs) sink source

  abbrev is : Objects
  is = handed now (map h (ys ++ zs)) sink' source'

  first_was : handed before (map h (take (peers_of shape) xs)) sink source ≡ first_disks shape was
  first_was = sym (first_is h shape before sink source xs)

  first_now : handed now (map h ys) sink' source' ≡ first_disks shape is
  first_now = ap (λ (ds : List X). handed now (map h ds) sink' source') (sym (front_of (peers_of shape) ys zs front)) ∙ sym (first_is h shape now sink' source' (ys ++ zs))

  second_was : handed before (map h (drop (peers_of shape) xs)) sink source ≡ second_disks shape was
  second_was = sym (second_is h shape before sink source xs)

  second_now : handed now (map h zs) sink' source' ≡ second_disks shape is
  second_now = ap (λ (ds : List X). handed now (map h ds) sink' source') (sym (rest_of (peers_of shape) ys zs front)) ∙ sym (second_is h shape now sink' source' (ys ++ zs))

  module _ (o : Outcome) where
    -- a run on those of the first store alone
    pub in_first_of : (p : Outcome) → IsInFirst shape (ran_of o was is) (ran_of p (handed before (map h (take (peers_of shape) xs)) sink source) (handed now (map h ys) sink' source'))
    in_first_of p = record { old = first_was; new = first_now }

    -- what the machine did on them
    pub first_beneath : (until : ℕ) (ending mid : Status)
        → beneath (ran_of o (handed before (map h (take (peers_of shape) xs)) sink source) (handed now (map h ys) sink' source')) until ending ≡ beneath (in_first shape mid (ran_of o was is)) until ending
    first_beneath until ending mid = λ i. record {
      ending = ending;
      line = o.line;
      journal = o.journal.entries;
      kept = o.kept;
      stored = o.stored;
      refused = o.refused;
      course = o.course;
      old = disks_alone before (first_was i);
      new = disks_alone until (first_now i);
    }

    pub second_beneath : (until : ℕ) (ending mid : Status)
        → beneath (ran_of o (handed before (map h (drop (peers_of shape) xs)) sink source) (handed now (map h zs) sink' source')) until ending ≡ beneath (in_second shape mid (ran_of o was is)) until ending
    second_beneath until ending mid = λ i. record {
      ending = ending;
      line = o.line;
      journal = o.journal.entries;
      kept = o.kept;
      stored = o.stored;
      refused = o.refused;
      course = o.course;
      old = disks_alone before (second_was i);
      new = disks_alone until (second_now i);
    }

    -- the run itself, on those of the second
    pub second_ran : ran_of o (handed before (map h (drop (peers_of shape) xs)) sink source) (handed now (map h zs) sink' source') ≡ in_second shape o.status (ran_of o was is)
    second_ran = λ i. record {
      ending = o.status;
      line = o.line;
      journal = o.journal.entries;
      kept = o.kept;
      stored = o.stored;
      refused = o.refused;
      course = o.course;
      old = second_was i;
      new = second_now i;
    }

  -- where the others were not called
  pub second_still : zs ≡ drop (peers_of shape) xs → sink' ≡ sink → source' ≡ source → second_disks shape is ≡ record (second_disks shape was) { moment = now }
  second_still same sinks sources = sym second_now ∙ (λ i. handed now (map h (same i)) (sinks i) (sources i)) ∙ ap (λ (objects : Objects). record objects { moment = now }) second_was
