-- That a root is not copied, and what is put of one that was.
use Rattle.std.proofs.Common.{◌≡◌, ◌∙◌, sym, subst, refl, ℕ, List, Option, Some, Result, Ok, Err}
use Rattle.std.specs.Prelude.{IfErr, IfOk}
use Rattle.hs_asker.specs.Silent.{status_by}
use Rattle.hs_asking.specs.Shown.{Shown}
use Rattle.hs_copy.specs.Copying.{HasCopied, IsStopped}
use Rattle.hs_copy.specs.Due.{DeletesWhenDue}
use Rattle.hs_copy.specs.declared.fault.CopyFault.{CopyFault}
use Rattle.hs_copy.specs.declared.fault.CopyFault.TheVariants as fault
use Rattle.hs_desk.specs.declared.fault.CoreFault.{CoreFault}
use Rattle.hs_desk.specs.declared.fault.CoreFault.TheVariants as core
use Rattle.hs_limits.specs.declared.address.Address.{Address}
use Rattle.hs_limits.specs.declared.shape.Shape.{Shape}
use Rattle.hs_promise.specs.declared.status.Status.{Status}
use Rattle.hs_promise.specs.declared.status.Status.TheVariants as status
use Rattle.hs_files.specs.Copied.{CopiesDuly, HadBoth, HaltsCopy, InFirst, InSecond, IsTextPut, StopsCopy, TextPut, TextUnput, copied_text, fault_status, second_status}
use Rattle.hs_files.specs.Put.{Front, IsPutAs, Whole}
use Rattle.hs_files.proofs.EndLemmas.{core_begun}

-- ---- what had ended before it was asked

module _ {P Q : Type 0} (name : List ℕ → Address) (key : List ℕ) (s : Shown P) (u : Shown Q) where
  pub copy_had_first : (ended : CoreFault) → Some ended ≡ s.ended → HaltsCopy name key s s u u (fault.First ended)
  copy_had_first ended is = HadBoth (InFirst ended (sym is) refl) refl refl

  pub copy_had_second : (ended : CoreFault) → Some ended ≡ u.ended → HaltsCopy name key s s u u (fault.Second ended)
  copy_had_second ended is = HadBoth (InSecond ended (sym is) refl) refl refl

-- ---- what stops

pub copy_stops : {P Q : Type 0} (name : List ℕ → Address) (key : List ℕ) (s t : Shown P) (u v : Shown Q) (res : Result ℕ CopyFault) → IfErr res (λ f. IsStopped name key s t u v f)
    → IfErr res (HaltsCopy name key s t u v)
copy_stops name key s t u v (Ok blocks) stopped = tt
copy_stops name key s t u v (Err f) stopped = StopsCopy stopped

pub copied_duly : {P Q : Type 0} (name : List ℕ → Address) (key : List ℕ) (every : Option ℕ) (s t : Shown P) (u v : Shown Q) (res : Result ℕ CopyFault) → IfOk res (λ blocks. HasCopied name key s t u v blocks) → IfOk res (λ blocks. DeletesWhenDue every u v)
    → IfOk res (CopiesDuly name key every s t u v)
copied_duly name key every s t u v (Ok blocks) copied due = (copied, due)
copied_duly name key every s t u v (Err f) copied due = tt

-- ---- what is put

pub text_put : (blocks : ℕ) (text : List ℕ) (got got' : Option (List (ℕ × ℕ))) (faults faults' : ℕ) (ending : Status) → text ≡ copied_text blocks → IsPutAs text got got' faults faults' ending
    → IsTextPut blocks got got' faults faults' ending
text_put blocks text got got' faults faults' ending is put = TextPut (subst (λ (bytes : List ℕ). IsPutAs bytes got got' faults faults' ending) is put)

-- ---- a status is never that of faulty words

second_begun : (first : Shape) (s : Status) → (s ≡ status.Usage → ⊥) → second_status first s ≡ status.Usage → ⊥
second_begun first (status.WrongShape peer found) may is = absurd cc
second_begun first (status.ShardLost shard) may is = absurd cc
second_begun first other may is = may is

pub fault_begun : (first : Shape) (f : CopyFault) → fault_status first f ≡ status.Usage → ⊥
fault_begun first (fault.First ended) is = core_begun ended is
fault_begun first (fault.Second ended) is = second_begun first (status_by (Some ended)) (core_begun ended) is
fault_begun first (fault.Refused told) is = absurd cc
fault_begun first (fault.CopyFull blocks) is = absurd cc
fault_begun first fault.NoMemory is = absurd cc

put_begun : (text : List ℕ) (got got' : Option (List (ℕ × ℕ))) (faults faults' : ℕ) (ending : Status) → IsPutAs text got got' faults faults' ending → ending ≡ status.Usage → ⊥
put_begun text got got' faults faults' ending (Whole is done) usage = let no : status.Done ≡ status.Usage = sym done ∙ usage in absurd cc
put_begun text got got' faults faults' ending (Front front failed cut) usage = let no : status.WriteFault ≡ status.Usage = sym cut ∙ usage in absurd cc

pub copied_begun : (first : Shape) (res : Result ℕ CopyFault) (ending : Status) (got got' : Option (List (ℕ × ℕ))) (faults faults' : ℕ) → IfOk res (λ blocks. IsTextPut blocks got got' faults faults' ending)
    → IfErr res (λ f. (ending ≡ fault_status first f) × (got' ≡ got) × (faults' ≡ faults)) → ending ≡ status.Usage → ⊥
copied_begun first (Ok blocks) ending got got' faults faults' (TextPut put) unput usage = put_begun (copied_text blocks) got got' faults faults' ending put usage
copied_begun first (Ok blocks) ending got got' faults faults' (TextUnput wanting same still) unput usage = let no : status.NoMemory ≡ status.Usage = sym wanting ∙ usage in absurd cc
copied_begun first (Err f) ending got got' faults faults' put unput usage = fault_begun first f (sym unput.0 ∙ usage)
