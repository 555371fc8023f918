-- What a copy of a root comes to in the words of the plain store.
use Rattle.std.proofs.Common.{◌≡◌, ◌∙◌, ◌⊎◌, inl, inr, ap, sym, subst, refl, ℕ, List, [], ◌∷◌, ◌++◌, map, Option, Some, arith}
use Rattle.hs_asker.specs.Going.{AtEntry}
use Rattle.hs_asker.specs.Shows.{IsTold}
use Rattle.hs_asker.specs.Silent.{status_by}
use Rattle.hs_asking.specs.Shown.{Began, Shown, store_now}
use Rattle.hs_copy.proofs.HeardLemmas.{heard_began}
use Rattle.hs_copy.specs.Copied.{IsCopied}
use Rattle.hs_copy.specs.Copying.{HasCopied, IsOfLast, IsStopped}
use Rattle.hs_copy.specs.Heard.{joined}
use Rattle.hs_copy.specs.Writing.{IsCopyRefusal}
use Rattle.hs_copy.specs.declared.fault.CopyFault.{CopyFault}
use Rattle.hs_copy.specs.declared.fault.CopyFault.TheVariants as fault
use Rattle.hs_desk.specs.declared.fault.CoreFault.{CoreFault}
use Rattle.hs_events.specs.Taken.{taken_lists}
use Rattle.hs_files.specs.Client.{AsksAsClient}
use Rattle.hs_files.specs.Copied.{Copied, CopiesRoot, Cut, EndsCopy, EndsCopying, FirstUnopened, Had, InFirst, InSecond, IsInFirst, Opened, SecondUnopened, Shapes, Stopped, Unbegun, Untold, fault_status, in_first, in_second, second_status}
use Rattle.hs_founded.specs.Spelled.{HoldBytes}
use Rattle.hs_limits.specs.declared.address.Address.{Address}
use Rattle.hs_limits.specs.declared.shape.Shape.{Shape}
use Rattle.hs_model.specs.Store.{Store}
use Rattle.hs_model.specs.declared.op.Op.TheVariants as op
use Rattle.hs_model.specs.declared.reply.Reply.{Reply}
use Rattle.hs_model.specs.declared.reply.Reply.TheVariants as reply
use Rattle.hs_ports.specs.Objects.{Objects}
use Rattle.hs_promise.specs.Run.{Ran}
use Rattle.hs_promise.specs.declared.status.Status.{Status}
use Rattle.hs_promise.specs.declared.status.Status.TheVariants as status
use Rattle.hs_side.specs.Current.{list_in}
use Rattle.hs_sound.specs.Stay.{AreSoundAlong}
use Rattle.hs_standing.specs.Held.{GivesAddresses}
use Rattle.hs_tree.specs.Storing.{our_session}
use Rattle.hs_kept.proofs.FilesLemmas.{asks_plainly, behind_is, here}
use Rattle.hs_kept.proofs.LawLemmas.{Laws}
use Rattle.hs_kept.proofs.StatusLemmas.{closed_tells_none, core_tells_none, cut_not, done_not, never, told_by_status}
use Rattle.hs_kept.specs.Copied.{AreSoundStarts, CopiesPlainly, HasRootOf}
use Rattle.hs_kept.specs.Entry.{OpensAlike}
use Rattle.hs_kept.specs.Kept.{IsSoundStart, StartsAlike, set_of, store_behind}

-- ---- statuses

-- a status of the second store tells what it tells of any
second_told : (first : Shape) (s : Status) → told_by_status (second_status first s) ≡ told_by_status s
second_told first (status.WrongShape peer found) = refl
second_told first (status.ShardLost shard) = refl
second_told first other = refl

-- which fault it is that tells something of a root
second_core : (first : Shape) (c : CoreFault) → told_by_status (second_status first (status_by (Some c))) ≡ 6
second_core first c = second_told first (status_by (Some c)) ∙ core_tells_none c

fault_told : (first : Shape) (f : CopyFault) (s : Status) → fault_status first f ≡ s → (told_by_status s ≡ 6 → ⊥) → (told : Reply) × (f ≡ fault.Refused told) × (status.Refused told ≡ s)
fault_told first (fault.First core) s is tells = absurd (never (status_by (Some core)) s (core_tells_none core) is tells)
fault_told first (fault.Second core) s is tells = absurd (never (second_status first (status_by (Some core))) s (second_core first core) is tells)
fault_told first (fault.Refused told) s is tells = (told, refl, is)
fault_told first (fault.CopyFull blocks) s is tells = absurd (tells (sym (ap told_by_status is)))
fault_told first fault.NoMemory s is tells = absurd (tells (sym (ap told_by_status is)))

same_refusal : (a b : Reply) → status.Refused a ≡ status.Refused b → a ≡ b
same_refusal a b e = cc e

refused_not_done : (told : Reply) → status.Refused told ≡ status.Done → ⊥
refused_not_done told e = let k : 1 ≡ 0 = ap told_by_status e in omega (arith, k)

pub sound_same : (name : List ℕ → Address) (shape : Shape) (r q : Ran) → q.old ≡ r.old → IsSoundStart name shape r → IsSoundStart name shape q
sound_same name shape r q e h = record {
  bytes = subst (λ (o : Objects). HoldBytes o.disks) (sym e) h.bytes;
  sound = subst (λ (o : Objects). AreSoundAlong (set_of name shape) (taken_lists shape (map (λ disk. list_in disk.seen) o.disks))) (sym e) h.sound;
}

pub alike_same : (shape : Shape) (r q : Ran) → q.old ≡ r.old → StartsAlike shape r → StartsAlike shape q
alike_same shape r q e h = subst (λ (o : Objects). OpensAlike shape o.moment o.disks) (sym e) h

module _ (laws : Laws) (tells : Type 0) (name : List ℕ → Address) (shapes : Shapes) (r : Ran) (told : tells) (first_alike : StartsAlike shapes.first (in_first shapes.first r.ending r)) (second_alike : StartsAlike shapes.second (in_second shapes.first r.ending r)) (names : GivesAddresses name) (sound : AreSoundStarts name shapes r) (key : List ℕ) where
  abbrev second : Ran
  second = in_second shapes.first r.ending r

  module _ (one : Ran) (in_it : IsInFirst shapes.first r one) (e d : AtEntry) (s t : Shown (IsTold tells e)) (u v : Shown (IsTold tells d)) (asks : AsksAsClient tells name shapes.first one e s t) (writes : AsksAsClient tells name shapes.second second d u v) where
    one_alike : StartsAlike shapes.first one
    one_alike = alike_same shapes.first (in_first shapes.first r.ending r) one in_it.old first_alike

    first_sound : IsSoundStart name shapes.first one
    first_sound = sound_same name shapes.first (in_first shapes.first r.ending r) one in_it.old sound.first

    first_told : IsTold tells e
    first_told = here laws tells name shapes.first one told one_alike names first_sound e s t asks

    second_is_told : IsTold tells d
    second_is_told = here laws tells name shapes.second second told second_alike names sound.second d u v writes

    -- ---- a root that was copied

    has_root : (blocks : ℕ) → HasCopied name key s t u v blocks → HasRootOf tells name shapes key r
    has_root blocks h =
        let began : v.began ≡ u.began = heard_began u v ((op.Open our_session, reply.Ok) ∷ (joined h.written.rounds ++ (h.written.work ++ (op.Root our_session key h.written.handle, reply.Ok) ∷ []))) h.written.heard in
        let first_is : store_now s.began t ≡ store_behind name shapes.first t.commands one = ap (λ (b : Began). store_now b t) (sym h.listed.began) ∙ behind_is laws tells name shapes.first one told one_alike names first_sound e s t asks h.listed.began in
        let second_is : store_now v.began v ≡ store_behind name shapes.second v.commands second = behind_is laws tells name shapes.second second told second_alike names sound.second d u v writes began in
        record {
          one = one;
          in_it = in_it;
          reads = t.commands;
          read = asks_plainly laws tells name shapes.first one told one_alike names first_sound e s t asks;
          writes = v.commands;
          written = asks_plainly laws tells name shapes.second second told second_alike names sound.second d u v writes;
          copied = subst (λ (x : Store). IsCopied (store_behind name shapes.first t.commands one) x key) second_is (subst (λ (x : Store). IsCopied x (store_now v.began v) key) first_is (h.still first_told second_is_told));
        }

    -- ---- one that was refused

    refused_so : (answer : Reply) → IsOfLast key s t u v (fault.Refused answer) → (answer ≡ reply.NoKey key) ⊎ IsCopyRefusal key answer
    refused_so answer h = elim h [ inl first ↦ inl (first.2 first_told).0 | inr other ↦ inr (other.1 second_is_told) ]

    refused_by : (f : CopyFault) → IsStopped name key s t u v f → (answer : Reply) → f ≡ fault.Refused answer → (answer ≡ reply.NoKey key) ⊎ IsCopyRefusal key answer
    refused_by f h answer e = refused_so answer (subst (λ (x : CopyFault). IsOfLast key s t u v x) e h.last)

    done_ends : (every : Option ℕ) → EndsCopying name shapes.first key every s t u v r → r.ending ≡ status.Done → HasRootOf tells name shapes key r
    done_ends every (Had f (InFirst core ended is) same still put end) done = absurd (refused_not_done _ (fault_told shapes.first f status.Done (sym end ∙ done) (λ e. omega (arith, e))).2)
    done_ends every (Had f (InSecond core ended is) same still put end) done = absurd (refused_not_done _ (fault_told shapes.first f status.Done (sym end ∙ done) (λ e. omega (arith, e))).2)
    done_ends every (Copied blocks copies put end) done = has_root blocks copies.0
    done_ends every (Untold blocks copies put end) done = absurd (never status.NoMemory status.Done refl (sym end ∙ done) (λ e. omega (arith, e)))
    done_ends every (Cut blocks copies put risen end) done = absurd (cut_not status.Done (sym end ∙ done) (λ e. omega (arith, e)))
    done_ends every (Stopped f stops put end) done = absurd (refused_not_done _ (fault_told shapes.first f status.Done (sym end ∙ done) (λ e. omega (arith, e))).2)

    refused_ends : (every : Option ℕ) → EndsCopying name shapes.first key every s t u v r → (answer : Reply) → r.ending ≡ status.Refused answer → (answer ≡ reply.NoKey key) ⊎ IsCopyRefusal key answer
    refused_ends every (Had f (InFirst core ended is) same still put end) answer refused = absurd (never (status_by (Some core)) (status.Refused answer) (core_tells_none core) (ap (λ (x : CopyFault). fault_status shapes.first x) (sym is) ∙ (sym end ∙ refused)) (λ e. omega (arith, e)))
    refused_ends every (Had f (InSecond core ended is) same still put end) answer refused = absurd (never (second_status shapes.first (status_by (Some core))) (status.Refused answer) (second_core shapes.first core) (ap (λ (x : CopyFault). fault_status shapes.first x) (sym is) ∙ (sym end ∙ refused)) (λ e. omega (arith, e)))
    refused_ends every (Copied blocks copies put end) answer refused = absurd (done_not (status.Refused answer) (sym end ∙ refused) (λ e. omega (arith, e)))
    refused_ends every (Untold blocks copies put end) answer refused = absurd (never status.NoMemory (status.Refused answer) refl (sym end ∙ refused) (λ e. omega (arith, e)))
    refused_ends every (Cut blocks copies put risen end) answer refused = absurd (cut_not (status.Refused answer) (sym end ∙ refused) (λ e. omega (arith, e)))
    refused_ends every (Stopped f stops put end) answer refused =
        let k = fault_told shapes.first f (status.Refused answer) (sym end ∙ refused) (λ e. omega (arith, e)) in
        refused_by f stops answer (k.1 ∙ ap (λ (x : Reply). fault.Refused x) (same_refusal k.0 answer k.2))

  -- ---- the command

  done_copy : (every : Option ℕ) → EndsCopy tells name shapes key every r → r.ending ≡ status.Done → HasRootOf tells name shapes key r
  done_copy every (Unbegun nothing) done = absurd (never r.ending status.Done (closed_tells_none r.ending (inr nothing.ending)) done (λ e. omega (arith, e)))
  done_copy every (FirstUnopened opens still put) done = absurd (never r.ending status.Done (closed_tells_none r.ending opens.ending) done (λ e. omega (arith, e)))
  done_copy every (SecondUnopened ending opens is one in_it e s asks put) done = absurd (never r.ending status.Done (ap told_by_status is ∙ (second_told shapes.first ending ∙ closed_tells_none ending opens.ending)) done (λ e. omega (arith, e)))
  done_copy every (Opened one in_it e d s t u v asks writes ends) done = done_ends one in_it e d s t u v asks writes every ends done

  refused_copy : (every : Option ℕ) → EndsCopy tells name shapes key every r → (answer : Reply) → r.ending ≡ status.Refused answer → (answer ≡ reply.NoKey key) ⊎ IsCopyRefusal key answer
  refused_copy every (Unbegun nothing) answer refused = absurd (never r.ending (status.Refused answer) (closed_tells_none r.ending (inr nothing.ending)) refused (λ e. omega (arith, e)))
  refused_copy every (FirstUnopened opens still put) answer refused = absurd (never r.ending (status.Refused answer) (closed_tells_none r.ending opens.ending) refused (λ e. omega (arith, e)))
  refused_copy every (SecondUnopened ending opens is one in_it e s asks put) answer refused = absurd (never r.ending (status.Refused answer) (ap told_by_status is ∙ (second_told shapes.first ending ∙ closed_tells_none ending opens.ending)) refused (λ e. omega (arith, e)))
  refused_copy every (Opened one in_it e d s t u v asks writes ends) answer refused = refused_ends one in_it e d s t u v asks writes every ends answer refused

  pub copies_plainly : (every : Option ℕ) → CopiesRoot tells name shapes key every r → CopiesPlainly tells name shapes key r
  copies_plainly every h = record { done = λ is. done_copy every h.ends is; refusal = λ answer is. refused_copy every h.ends answer is }
