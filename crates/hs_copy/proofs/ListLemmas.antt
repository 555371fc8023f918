-- Reads and forgets in a row.
use Rattle.std.proofs.Common.{◌≡◌, ◌∙◌, ◌⊎◌, inl, inr, ℕ, ◌+◌, ◌≤◌, List, [], ◌∷◌, ◌++◌, None, refl, sym, ap, subst, arith, append-nil, append_assoc, length}
use Rattle.std.proofs.lemmas.List.{length-append}
use Rattle.hs_asking.proofs.HandLemmas.{all_append}
use Rattle.hs_asking.proofs.SaneLemmas.{answers_sane}
use Rattle.hs_asking.specs.Lawful.{AreAnswersOf}
use Rattle.hs_asking.specs.Seats.{IsSane}
use Rattle.hs_asking.specs.Shown.{Began, IfTold, Shown, store_now}
use Rattle.hs_asking.specs.Staying.{NotDropping}
use Rattle.hs_copy.proofs.HeardLemmas.{reads-append}
use Rattle.hs_copy.proofs.OwnLemmas.{judged_own, own-refl, own-trans}
use Rattle.hs_copy.specs.Calls.{CallFails}
use Rattle.hs_copy.specs.Finding.{EndsSo, IsToldLast, KeepsWhereTold, ListingStops, Reads, ReadsStop}
use Rattle.hs_copy.specs.Listing.{HasListed, KeepsItsOwn, reads_in}
use Rattle.hs_copy.specs.declared.fault.PartFault.{PartFault}
use Rattle.hs_copy.specs.declared.fault.PartFault.TheVariants as part
use Rattle.hs_copy.specs.declared.list.Listed.{Listed}
use Rattle.hs_model.specs.declared.op.Op.{Op}
use Rattle.hs_model.specs.declared.op.Op.TheVariants as op
use Rattle.hs_model.specs.declared.reply.Reply.{Reply}
use Rattle.hs_model.specs.declared.reply.Reply.TheVariants as reply
use Rattle.hs_tree.specs.Calls.{HasAskedLast, Hears}
use Rattle.hs_tree.specs.Fetching.{IsReading}
use Rattle.hs_tree.specs.Storing.{our_session}

keeps-refl : {tells : Type 0} (old : Shown tells) → KeepsWhereTold old old
keeps-refl old is sane = (own-refl (store_now old.began old), sane)

keeps_then : {tells : Type 0} (old mid new : Shown tells) → mid.began ≡ old.began → KeepsWhereTold old mid → KeepsWhereTold mid new → KeepsWhereTold old new
keeps_then old mid new e h k is sane =
    let one = h is sane in
    let two = subst (λ (z : Began). IsSane (store_now z mid) → KeepsItsOwn (store_now z mid) (store_now z new) × IsSane (store_now z new)) e (k is) one.1 in
    (own-trans (store_now old.began old) (store_now old.began mid) (store_now old.began new) one.0 two.0, two.1)

hears_keeps : {tells : Type 0} (old new : Shown tells) (o : Op) (told : Reply) → ((key : List ℕ) → NotDropping key o) → Hears old new o told → KeepsWhereTold old new
hears_keeps old new o told never h is sane = judged_own old.began.limits (store_now old.began old) (store_now old.began new) o told sane never (h.judged is)

pub reads_none : {tells : Type 0} (old : Shown tells) → old.ended ≡ None → Reads old old 0
reads_none old going = record { ops = []; asked = sym (append-nil old.asked); kinds = tt; reads = refl; going = going; began = refl; keeps = keeps-refl old }

pub reads_then : {tells : Type 0} (old mid new : Shown tells) (m n : ℕ) → Reads old mid m → Reads mid new n → Reads old new (m + n)
reads_then old mid new m n h k =
    let both : length (reads_in (h.ops ++ k.ops)) ≡ length (reads_in h.ops) + length (reads_in k.ops) = ap (λ z. length z) (reads-append h.ops k.ops) ∙ length-append (reads_in h.ops) (reads_in k.ops) in
    let one : length (reads_in h.ops) ≡ m = h.reads in
    let two : length (reads_in k.ops) ≡ n = k.reads in
    record {
      ops = h.ops ++ k.ops;
      asked = k.asked ∙ (ap (λ z. z ++ k.ops) h.asked ∙ append_assoc old.asked h.ops k.ops);
      kinds = all_append (IsReading our_session) h.ops k.ops h.kinds k.kinds;
      reads = omega (arith, both, one, two);
      going = k.going;
      began = k.began ∙ h.began;
      keeps = keeps_then old mid new h.began h.keeps k.keeps;
    }

pub reads_forget : {tells : Type 0} (old new : Shown tells) (handle : ℕ) → Hears old new (op.Forget our_session handle) reply.Ok → Reads old new 0
reads_forget old new handle h = record { ops = op.Forget our_session handle ∷ []; asked = h.asked; kinds = (refl, tt); reads = refl; going = h.going; began = h.began; keeps = hears_keeps old new (op.Forget our_session handle) reply.Ok (λ key. tt) h }

pub reads_read : {tells : Type 0} (old new : Shown tells) (handle : ℕ) (told : Reply) → Hears old new (op.Read our_session handle) told → Reads old new 1
reads_read old new handle told h = record { ops = op.Read our_session handle ∷ []; asked = h.asked; kinds = (refl, tt); reads = refl; going = h.going; began = h.began; keeps = hears_keeps old new (op.Read our_session handle) told (λ key. tt) h }

pub reads_on : {tells : Type 0} (old mid new : Shown tells) → Reads old mid 0 → Reads mid new 0 → Reads old new 0
reads_on old mid new h k = subst (λ z. Reads old new z) (none 0 refl) (reads_then old mid new 0 0 h k)
  where
    none : (z : ℕ) → z ≡ 0 → z + z ≡ 0
    none z e = omega (arith, e)

pub reads_one_more : {tells : Type 0} (old mid new : Shown tells) (n : ℕ) (xs ys : List Listed) (x : Listed) → ys ≡ xs ++ x ∷ [] → Reads old mid (length xs) → Reads mid new 1 → Reads old new (length ys)
reads_one_more old mid new n xs ys x e h k = subst (λ z. Reads old new z) (sym (ap (λ z. length z) e ∙ length-append xs (x ∷ []))) (reads_then old mid new (length xs) 1 h k)

-- ---- how they stop

pub quiet_stop : {tells : Type 0} (old : Shown tells) (most : ℕ) → old.ended ≡ None → ReadsStop old old most part.NoMemory
quiet_stop old most going = record { ops = []; asked = sym (append-nil old.asked); kinds = tt; few = omega arith; began = refl; ended = going; last = tt }

pub many_stop : {tells : Type 0} (old : Shown tells) (most : ℕ) → old.ended ≡ None → ReadsStop old old most part.TooMany
many_stop old most going = record { ops = []; asked = sym (append-nil old.asked); kinds = tt; few = omega arith; began = refl; ended = going; last = tt }

abbrev last_now : {tells : Type 0} (old : Shown tells) (o : Op) → HasAskedLast old
last_now old o = record { front = []; last = o; before = old; so_far = sym (append-nil old.asked) }

pub told_last : {tells : Type 0} (old new : Shown tells) (o : Op) (f : PartFault) → CallFails old new o f → IsToldLast old new f
told_last old new o (part.Core core) c = (last_now old o, c)
told_last old new o (part.Refused told) c = (last_now old o, c.0, c.1)
told_last old new o part.TooMany c = tt
told_last old new o part.NoMemory c = tt

abbrev last_from : {tells : Type 0} (old mid : Shown tells) (ops : List Op) → mid.asked ≡ old.asked ++ ops → HasAskedLast mid → HasAskedLast old
last_from old mid ops e l = record { front = ops ++ l.front; last = l.last; before = l.before; so_far = l.so_far ∙ (ap (λ z. z ++ l.front) e ∙ append_assoc old.asked ops l.front) }

pub last_behind : {tells : Type 0} (old mid new : Shown tells) (ops : List Op) (f : PartFault) → mid.asked ≡ old.asked ++ ops → IsToldLast mid new f → IsToldLast old new f
last_behind old mid new ops (part.Core core) e t = (last_from old mid ops e t.0, t.1)
last_behind old mid new ops (part.Refused told) e t = (last_from old mid ops e t.0, t.1, t.2)
last_behind old mid new ops part.TooMany e t = tt
last_behind old mid new ops part.NoMemory e t = tt

-- what a call that fails has asked for
pub record Failed {tells : Type 0} (old new : Shown tells) (o : Op) (f : PartFault) : Type 0 where
  pub asked : (new.asked ≡ old.asked) ⊎ (new.asked ≡ old.asked ++ o ∷ [])
  pub began : new.began ≡ old.began
  pub ended : EndsSo new.ended f
  pub last : IsToldLast old new f

pub call_failed : {tells : Type 0} (old new : Shown tells) (o : Op) (f : PartFault) → old.ended ≡ None → CallFails old new o f → Failed old new o f
call_failed old new o (part.Core core) going c = record { asked = inr c.asked; began = c.began; ended = c.ended; last = told_last old new o (part.Core core) c }
call_failed old new o (part.Refused told) going c = record { asked = inr c.0.asked; began = c.0.began; ended = c.0.going; last = told_last old new o (part.Refused told) c }
call_failed old new o part.TooMany going c = absurd c
call_failed old new o part.NoMemory going c = record { asked = inl (ap (λ z. z.asked) c); began = ap (λ z. z.began) c; ended = ap (λ z. z.ended) c ∙ going; last = tt }

pub call_stops : {tells : Type 0} (old new : Shown tells) (o : Op) (most : ℕ) (f : PartFault) → old.ended ≡ None → IsReading our_session o → length (reads_in (o ∷ [])) ≤ most → CallFails old new o f → ReadsStop old new most f
call_stops old new o most f going kind few c =
    let h = call_failed old new o f going c in
    elim h.asked [
      | inl e ↦ record { ops = []; asked = e ∙ sym (append-nil old.asked); kinds = tt; few = omega arith; began = h.began; ended = h.ended; last = h.last }
      | inr e ↦ record { ops = o ∷ []; asked = e; kinds = (kind, tt); few = few; began = h.began; ended = h.ended; last = h.last }
    ]

pub stops_then : {tells : Type 0} (old mid new : Shown tells) (m n most : ℕ) (f : PartFault) → Reads old mid m → m + n ≤ most → ReadsStop mid new n f → ReadsStop old new most f
stops_then old mid new m n most f h few k =
    let both : length (reads_in (h.ops ++ k.ops)) ≡ length (reads_in h.ops) + length (reads_in k.ops) = ap (λ z. length z) (reads-append h.ops k.ops) ∙ length-append (reads_in h.ops) (reads_in k.ops) in
    let one : length (reads_in h.ops) ≡ m = h.reads in
    let two : length (reads_in k.ops) ≤ n = k.few in
    record {
      ops = h.ops ++ k.ops;
      asked = k.asked ∙ (ap (λ z. z ++ k.ops) h.asked ∙ append_assoc old.asked h.ops k.ops);
      kinds = all_append (IsReading our_session) h.ops k.ops h.kinds k.kinds;
      few = omega (arith, both, one, two, few);
      began = k.began ∙ h.began;
      ended = k.ended;
      last = last_behind old mid new h.ops f h.asked k.last;
    }

-- ---- a whole listing

module _ {tells : Type 0} (key : List ℕ) where
  pub listed : (old first mid new : Shown tells) (told : Reply) (n : ℕ) → IfTold old (λ b. AreAnswersOf b old) → Hears old first (op.Open our_session) reply.Ok → Hears first mid (op.Look our_session key) told → Reads mid new n → HasListed key old new n
  listed old first mid new told n law h k r = record {
    ops = r.ops;
    asked = r.asked ∙ (ap (λ z. z ++ r.ops) (k.asked ∙ (ap (λ z. z ++ op.Look our_session key ∷ []) h.asked ∙ append_assoc old.asked (op.Open our_session ∷ []) (op.Look our_session key ∷ []))) ∙ append_assoc old.asked (op.Open our_session ∷ (op.Look our_session key ∷ [])) r.ops);
    kinds = r.kinds;
    reads = r.reads;
    going = r.going;
    began = r.began ∙ (k.began ∙ h.began);
    keeps = λ is. (whole is (answers_sane old.began old (law is))).0;
  }
    where
      whole : KeepsWhereTold old new
      whole = keeps_then old first new h.began (hears_keeps old first (op.Open our_session) reply.Ok (λ key. tt) h)
          (keeps_then first mid new k.began (hears_keeps first mid (op.Look our_session key) told (λ k. tt) k) r.keeps)

  pub unopened : (old new : Shown tells) (f : PartFault) → old.ended ≡ None → CallFails old new (op.Open our_session) f → ListingStops key old new f
  unopened old new f going c =
      let h = call_failed old new (op.Open our_session) f going c in
      elim h.asked [
        | inl e ↦ record { ops = []; asked = e ∙ sym (append-nil old.asked); kinds = tt; few = omega arith; began = h.began; ended = h.ended; last = h.last }
        | inr e ↦ record { ops = op.Open our_session ∷ []; asked = e; kinds = refl; few = omega arith; began = h.began; ended = h.ended; last = h.last }
      ]

  pub unlooked : (old mid new : Shown tells) (f : PartFault) → Hears old mid (op.Open our_session) reply.Ok → CallFails mid new (op.Look our_session key) f → ListingStops key old new f
  unlooked old mid new f k c =
      let h = call_failed mid new (op.Look our_session key) f k.going c in
      let last : IsToldLast old new f = last_behind old mid new (op.Open our_session ∷ []) f k.asked h.last in
      elim h.asked [
        | inl e ↦ record { ops = op.Open our_session ∷ []; asked = e ∙ k.asked; kinds = refl; few = omega arith; began = h.began ∙ k.began; ended = h.ended; last = last }
        | inr e ↦ record { ops = op.Open our_session ∷ (op.Look our_session key ∷ []); asked = e ∙ (ap (λ z. z ++ op.Look our_session key ∷ []) k.asked ∙ append_assoc old.asked (op.Open our_session ∷ []) (op.Look our_session key ∷ [])); kinds = (refl, refl, tt); few = omega arith; began = h.began ∙ k.began; ended = h.ended; last = last }
      ]

  pub unread : (old first mid new : Shown tells) (told : Reply) (f : PartFault) → Hears old first (op.Open our_session) reply.Ok → Hears first mid (op.Look our_session key) told → ReadsStop mid new 4000 f → ListingStops key old new f
  unread old first mid new told f h k r =
      let both : mid.asked ≡ old.asked ++ op.Open our_session ∷ (op.Look our_session key ∷ []) = k.asked ∙ (ap (λ z. z ++ op.Look our_session key ∷ []) h.asked ∙ append_assoc old.asked (op.Open our_session ∷ []) (op.Look our_session key ∷ [])) in
      record {
        ops = op.Open our_session ∷ (op.Look our_session key ∷ r.ops);
        asked = r.asked ∙ (ap (λ z. z ++ r.ops) both ∙ append_assoc old.asked (op.Open our_session ∷ (op.Look our_session key ∷ [])) r.ops);
        kinds = (refl, refl, r.kinds);
        few = r.few;
        began = r.began ∙ (k.began ∙ h.began);
        ended = r.ended;
        last = last_behind old mid new (op.Open our_session ∷ (op.Look our_session key ∷ [])) f both r.last;
      }

  pub unordered : (old new : Shown tells) (n : ℕ) → n ≤ 4000 → HasListed key old new n → ListingStops key old new part.NoMemory
  unordered old new n few h = record {
    ops = op.Open our_session ∷ (op.Look our_session key ∷ h.ops);
    asked = h.asked;
    kinds = (refl, refl, h.kinds);
    few = let r : length (reads_in h.ops) ≡ n = h.reads in omega (arith, r, few);
    began = h.began;
    ended = h.going;
    last = tt;
  }

-- a fault behind reads that were done
pub done_stop : {tells : Type 0} (old new : Shown tells) (n most : ℕ) → n ≤ most → Reads old new n → ReadsStop old new most part.NoMemory
done_stop old new n most few h = record {
  ops = h.ops;
  asked = h.asked;
  kinds = h.kinds;
  few = let r : length (reads_in h.ops) ≡ n = h.reads in omega (arith, r, few);
  began = h.began;
  ended = h.going;
  last = tt;
}

pub listed_few : (xs ys : List Listed) (x : Listed) → ys ≡ xs ++ x ∷ [] → length xs + 1 ≤ 4000 → length ys ≤ 4000
listed_few xs ys x e room =
    let longer : length (xs ++ x ∷ []) ≡ length xs + 1 = length-append xs (x ∷ []) in
    subst (λ z. length z ≤ 4000) (sym e) (omega (arith, longer, room))
