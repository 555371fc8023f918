-- Lines that have peers do what is due, one after another.
use Rattle.std.specs.List.{AllByRecursion}
use Rattle.std.proofs.Common.{◌≡◌, ◌∙◌, ap, sym, subst, ℕ, ◌+◌, ◌≤◌, List, [], ◌∷◌, ◌++◌, Result, Ok, Err, refl, append-nil, arith, length}
use Rattle.std.proofs.lemmas.List.{append_assoc}
use Rattle.std.specs.Prelude.{⊤}
use Rattle.hs_asking.proofs.HandLemmas.{all_append}
use Rattle.hs_cluster.specs.declared.fault.ClusterFault.{ClusterFault}
use Rattle.hs_cluster.specs.declared.fault.ClusterFault.TheVariants as cluster
use Rattle.hs_limits.specs.declared.address.Address.{Address}
use Rattle.hs_model.specs.declared.command.Command.{Command}
use Rattle.hs_run.specs.Between.{Point}
use Rattle.hs_asker.specs.Driven.{Cut, Drives, DrivesOn, HasDriven, Onward, Still, Wanting, Whole}
use Rattle.hs_asker.specs.Going.{RunsAlone}
use Rattle.hs_asker.specs.Lines.{IsDriving}
use Rattle.hs_asker.proofs.HeardLemmas.{journal_on}

err_ok : (f : ClusterFault) → ◌≡◌ {A = Result ⊤ ClusterFault} (Err f) (Ok tt) → ⊥
err_ok f e = cc

module _ (tells : Type 0) (name : List ℕ → Address) where
  -- ---- one after another

  drives_then : (old mid new : Point) (front back : List Command) → Drives tells name old front mid → Drives tells name mid back new → Drives tells name old (front ++ back) new
  drives_then old mid new front back d Still = subst (λ (said : List Command). Drives tells name old said mid) (sym (append-nil front)) d
  drives_then old mid new front back d (Onward {front = some} {mid = last} c k h runs) =
      subst (λ (said : List Command). Drives tells name old said new) (append_assoc front some (c ∷ []))
      (Onward c (drives_then old mid last front some d k) h runs)

  -- all of some lines were gone past
  pub whole_drives : (old new : Point) (said : List Command) → HasDriven tells name old new said (Ok tt) → Drives tells name old said new
  whole_drives old new said (Whole d e) = d
  whole_drives old new said (Wanting d e) = absurd (err_ok cluster.NoMemory (sym e))
  whole_drives old new said (Cut last front c fault d h runs is e) = absurd (err_ok fault (sym e))

  driven_then : (old mid new : Point) (front back : List Command) (did : Result ⊤ ClusterFault) → Drives tells name old front mid → HasDriven tells name mid new back did → HasDriven tells name old new (front ++ back) did
  driven_then old mid new front back did d (Whole k e) = Whole (drives_then old mid new front back d k) e
  driven_then old mid new front back did d (Wanting k e) = Wanting (drives_then old mid new front back d k) e
  driven_then old mid new front back did d (Cut last some c fault k h runs is e) =
      Cut last (front ++ some) c fault (drives_then old mid last front some d k) h runs (ap (λ (said : List Command). front ++ said) is ∙ sym (append_assoc front some (c ∷ []))) e

  pub drives_on : (old mid new : Point) (was then is : List Command) (did : Result ⊤ ClusterFault) → DrivesOn tells name old mid was then (Ok tt) → DrivesOn tells name mid new then is did → DrivesOn tells name old new was is did
  drives_on old mid new was then is did h k = record {
    said = h.said ++ k.said;
    more = k.more ∙ ap (λ (said : List Command). said ++ k.said) h.more ∙ append_assoc was h.said k.said;
    driving = all_append IsDriving h.said k.said h.driving k.driving;
    driven = driven_then old mid new h.said k.said did (whole_drives old mid h.said h.driven) k.driven;
  }

  pub drives_as : (old new : Point) (was is : List Command) (did end : Result ⊤ ClusterFault) → end ≡ did → DrivesOn tells name old new was is did → DrivesOn tells name old new was is end
  drives_as old new was is did end same h = subst (λ (r : Result ⊤ ClusterFault). DrivesOn tells name old new was is r) (sym same) h

  -- ---- none, and one

  pub drives_nothing : (old : Point) (was : List Command) → DrivesOn tells name old old was was (Ok tt)
  drives_nothing old was = record { said = []; more = sym (append-nil was); driving = tt; driven = Whole Still refl }

  pub drives_short : (old : Point) (was : List Command) → DrivesOn tells name old old was was (Err cluster.NoMemory)
  drives_short old was = record { said = []; more = sym (append-nil was); driving = tt; driven = Wanting Still refl }

  -- there was no room for its command
  pub drives_refused : (old : Point) (was is : List Command) → is ≡ was → DrivesOn tells name old old was is (Err cluster.NoMemory)
  drives_refused old was is same = record { said = []; more = same ∙ sym (append-nil was); driving = tt; driven = Wanting Still refl }

  pub drives_one : (old new : Point) (was is : List Command) (c : Command) (did : Result ⊤ ClusterFault) → IsDriving c → is ≡ was ++ c ∷ [] → RunsAlone tells name c old new did → DrivesOn tells name old new was is did
  drives_one old new was is c (Ok x) h same runs = record { said = c ∷ []; more = same; driving = (h, tt); driven = Whole (Onward c Still h runs) refl }
  drives_one old new was is c (Err fault) h same runs = record { said = c ∷ []; more = same; driving = (h, tt); driven = Cut old [] c fault Still h runs refl refl }

  -- ---- the journal

  pub journal_driven : (old new : Point) (said : List Command) → Drives tells name old said new → length old.cluster.core.journal ≤ length new.cluster.core.journal
  journal_driven old new said Still = omega arith
  journal_driven old new said (Onward {mid = mid} c d h runs) =
      let one = journal_driven old mid _ d in
      let two = journal_on tells name c mid new (Ok tt) runs in
      omega (arith, one, two)
