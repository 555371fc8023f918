-- What an ask comes to where the store is told.
use Rattle.std.proofs.Common.{◌≡◌, ◌∙◌, Bool, Result, Ok, Err, IfErr, sym, subst, ap, append-nil, append_assoc, List, [], ◌∷◌, ◌++◌, ℕ, refl}
use Rattle.hs_asking.proofs.AskLemmas.{ask_judged}
use Rattle.hs_asking.specs.Asked.{HasAsked}
use Rattle.hs_asking.specs.Judged.{IsJudged}
use Rattle.hs_asking.specs.Lawful.{AreAnswersOf}
use Rattle.hs_asking.specs.Shown.{Began, IfTold, Shown, store_now}
use Rattle.hs_asking.specs.Telling.{grants}
use Rattle.hs_journal.specs.Events.{addressed}
use Rattle.hs_model.specs.declared.op.Op.{Op}
use Rattle.hs_model.specs.declared.reply.Reply.{Reply}
use Rattle.hs_tree.specs.Calls.{AskWithFew, AsksWithFew, CallFails, HasAskedLast, Hears, HoldsFew, IsToldLast}
use Rattle.hs_tree.specs.Telling.{IsRefusedAs}
use Rattle.hs_tree.specs.declared.fault.TreeFault.{TreeFault}
use Rattle.hs_tree.specs.declared.fault.TreeFault.TheVariants as fault

pub judged_where : {tells : Type 0} → (old new : Shown tells) (o : Op) (told : Reply) → new.began ≡ old.began → IfTold new (λ b. AreAnswersOf b new) → IfTold old (λ b. addressed b.name (store_now b old) o ≡ o) → HasAsked old new o told → IfTold old (λ b. IsJudged b.limits (store_now b old) (store_now b new) o told)
judged_where old new o told same law named h = λ is. ask_judged old.began old new o told (subst (λ b. AreAnswersOf b new) same (law is)) h (named is)

-- a reply that is not as it was hoped for fails the call, whose operation p is o
pub refused_fails : {tells : Type 0} → {T : Type 0} (old new : Shown tells) (p o : Op) (told : Reply) (hoped : Bool) (r : Result T TreeFault) → p ≡ o → grants o told ≡ hoped → Hears old new p told → IfErr r (λ f. IsRefusedAs told hoped f) → IfErr r (λ f. CallFails old new o f)
refused_fails old new p o told hoped (Ok x) same e h k = tt
refused_fails old new p o told hoped (Err f) same e h k = subst (CallFails old new o) (sym k.0) (subst (λ z. Hears old new z told) same h, e ∙ k.1)

-- ---- the last operation

abbrev last_now : {tells : Type 0} (old : Shown tells) (o : Op) → HasAskedLast old
last_now old o = record { front = []; last = o; before = old; so_far = sym (append-nil old.asked) }

pub told_last : {tells : Type 0} (old new : Shown tells) (o : Op) (f : TreeFault) → CallFails old new o f → IsToldLast old new f
told_last old new o (fault.Core core) c = (last_now old o, c)
told_last old new o fault.Read c = tt
told_last old new o fault.InputFull c = tt
told_last old new o (fault.Refused told) c = (last_now old o, c.0, c.1)
told_last old new o (fault.NotATree address) c = tt
told_last old new o fault.NoMemory c = tt

abbrev last_from : {tells : Type 0} (old mid : Shown tells) (ops : List Op) → mid.asked ≡ old.asked ++ ops → HasAskedLast mid → HasAskedLast old
last_from old mid ops e l = record { front = ops ++ l.front; last = l.last; before = l.before; so_far = l.so_far ∙ (ap (λ z. z ++ l.front) e ∙ append_assoc old.asked ops l.front) }

-- so it is behind an earlier start
pub last_behind : {tells : Type 0} (old mid new : Shown tells) (ops : List Op) (f : TreeFault) → mid.asked ≡ old.asked ++ ops → IsToldLast mid new f → IsToldLast old new f
last_behind old mid new ops (fault.Core core) e t = (last_from old mid ops e t.0, t.1)
last_behind old mid new ops fault.Read e t = tt
last_behind old mid new ops fault.InputFull e t = tt
last_behind old mid new ops (fault.Refused told) e t = (last_from old mid ops e t.0, t.1, t.2)
last_behind old mid new ops (fault.NotATree address) e t = tt
last_behind old mid new ops fault.NoMemory e t = tt

-- ---- operations in a row, with few handles after each

module _ {tells : Type 0} (b : Began) (session : List ℕ) (most : ℕ) where
  pub few_none : (old : Shown tells) → AsksWithFew b session most old old
  few_none old = record { along = []; each = refl }

  pub few_one : (old new : Shown tells) (o : Op) (told : Reply) → Hears old new o told → HoldsFew (store_now b new) session most → AsksWithFew b session most old new
  few_one old new o told h few = record { along = new ∷ []; each = (o, told, h, few, refl) }

  few_along : (old mid new : Shown tells) (xs ys : List (Shown tells)) → AskWithFew b session most old xs mid → AskWithFew b session most mid ys new → AskWithFew b session most old (xs ++ ys) new
  few_along old mid new [] ys h k = subst (λ z. AskWithFew b session most z ys new) h k
  few_along old mid new (s ∷ xs) ys h k = (h.0, h.1, h.2, h.3, few_along s mid new xs ys h.4 k)

  pub few_then : (old mid new : Shown tells) → AsksWithFew b session most old mid → AsksWithFew b session most mid new → AsksWithFew b session most old new
  few_then old mid new h k = record { along = h.along ++ k.along; each = few_along old mid new h.along k.along h.each k.each }
