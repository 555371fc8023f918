-- Operations that were answered, in a row.
use Rattle.std.proofs.Common.{◌≡◌, ◌∙◌, ◌+◌, List, [], ◌∷◌, ◌++◌, refl, sym, ap, subst, arith, append-nil, append_assoc}
use Rattle.std.proofs.lemmas.List.{map-append}
use Rattle.hs_asking.specs.Shown.{Shown}
use Rattle.hs_copy.specs.Heard.{AreHeard, ops_of}
use Rattle.hs_copy.specs.Listing.{reads_in}
use Rattle.hs_copy.specs.Writing.{deletes_in}
use Rattle.hs_model.specs.declared.op.Op.{Op}
use Rattle.hs_model.specs.declared.op.Op.TheVariants as op
use Rattle.hs_model.specs.declared.reply.Reply.{Reply}
use Rattle.hs_tree.specs.Calls.{Hears}

pub heard_then : {tells : Type 0} (old mid new : Shown tells) (hs ks : List (Op × Reply)) → AreHeard old mid hs → AreHeard mid new ks → AreHeard old new (hs ++ ks)
heard_then old mid new [] ks h k = subst (λ z. AreHeard z new ks) h k
heard_then old mid new (x ∷ hs) ks h k = (h.0, h.1, heard_then h.0 mid new hs ks h.2 k)

pub heard_one : {tells : Type 0} (old new : Shown tells) (o : Op) (told : Reply) → Hears old new o told → AreHeard old new ((o, told) ∷ [])
heard_one old new o told h = (new, h, refl)

pub heard_more : {tells : Type 0} (old mid new : Shown tells) (hs : List (Op × Reply)) (o : Op) (told : Reply) → AreHeard old mid hs → Hears mid new o told → AreHeard old new (hs ++ (o, told) ∷ [])
heard_more old mid new hs o told h k = heard_then old mid new hs ((o, told) ∷ []) h (heard_one mid new o told k)

pub heard_asked : {tells : Type 0} (old new : Shown tells) (hs : List (Op × Reply)) → AreHeard old new hs → new.asked ≡ old.asked ++ ops_of hs
heard_asked old new [] h = ap (λ z. z.asked) h ∙ sym (append-nil old.asked)
heard_asked old new (x ∷ hs) h = heard_asked h.0 new hs h.2 ∙ (ap (λ z. z ++ ops_of hs) h.1.asked ∙ append_assoc old.asked (x.0 ∷ []) (ops_of hs))

pub heard_began : {tells : Type 0} (old new : Shown tells) (hs : List (Op × Reply)) → AreHeard old new hs → new.began ≡ old.began
heard_began old new [] h = ap (λ z. z.began) h
heard_began old new (x ∷ hs) h = heard_began h.0 new hs h.2 ∙ h.1.began

pub ops-append : (hs ks : List (Op × Reply)) → ops_of (hs ++ ks) ≡ ops_of hs ++ ops_of ks
ops-append hs ks = map-append (λ (h : Op × Reply). h.0) hs ks

-- ---- counts

pub deletes-append : (xs ys : List Op) → deletes_in (xs ++ ys) ≡ deletes_in xs + deletes_in ys
deletes-append [] ys = omega arith
deletes-append (op.Open name ∷ xs) ys = deletes-append xs ys
deletes-append (op.Close name ∷ xs) ys = deletes-append xs ys
deletes-append (op.Write name payload handles address ∷ xs) ys = deletes-append xs ys
deletes-append (op.Read name handle ∷ xs) ys = deletes-append xs ys
deletes-append (op.Look name key ∷ xs) ys = deletes-append xs ys
deletes-append (op.Root name key handle ∷ xs) ys = deletes-append xs ys
deletes-append (op.Drop key ∷ xs) ys = deletes-append xs ys
deletes-append (op.Forget name handle ∷ xs) ys = deletes-append xs ys
deletes-append (op.Name name handle ∷ xs) ys = deletes-append xs ys
deletes-append (op.Delete ∷ xs) ys = let h = deletes-append xs ys in omega (arith, h)
deletes-append (op.Stat ∷ xs) ys = deletes-append xs ys

pub reads-append : (xs ys : List Op) → reads_in (xs ++ ys) ≡ reads_in xs ++ reads_in ys
reads-append [] ys = refl
reads-append (op.Open name ∷ xs) ys = reads-append xs ys
reads-append (op.Close name ∷ xs) ys = reads-append xs ys
reads-append (op.Write name payload handles address ∷ xs) ys = reads-append xs ys
reads-append (op.Read name handle ∷ xs) ys = ap (λ z. handle ∷ z) (reads-append xs ys)
reads-append (op.Look name key ∷ xs) ys = reads-append xs ys
reads-append (op.Root name key handle ∷ xs) ys = reads-append xs ys
reads-append (op.Drop key ∷ xs) ys = reads-append xs ys
reads-append (op.Forget name handle ∷ xs) ys = reads-append xs ys
reads-append (op.Name name handle ∷ xs) ys = reads-append xs ys
reads-append (op.Delete ∷ xs) ys = reads-append xs ys
reads-append (op.Stat ∷ xs) ys = reads-append xs ys
