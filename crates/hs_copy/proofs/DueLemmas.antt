-- Deletions are asked for just where one is due.
use Rattle.std.proofs.Common.{◌≡◌, ◌∙◌, inl, inr, ℕ, ◌+◌, ◌-◌, ◌<◌, ◌≤◌, Bool, true, false, List, [], ◌∷◌, ◌++◌, Option, None, Some, Result, Ok, Err, IfErr, IfOk, OnOk, refl, sym, ap, subst, arith, tests, nat_le, nat_lt}
use Rattle.std.specs.List.{AllByRecursion}
use Rattle.hs_asking.specs.Shown.{Shown}
use Rattle.hs_asking.specs.Telling.{grants, is_written}
use Rattle.hs_copy.proofs.HeardLemmas.{heard_one, heard_then}
use Rattle.hs_copy.specs.Calls.{CallFails, IsCore, IsHeard}
use Rattle.hs_copy.specs.Due.{AreDue, Count, DeletesOn, DeletesSo, WhereRefused, counted, counted_all, due_in, is_deletion, is_due, with_write, with_write_if}
use Rattle.hs_copy.specs.Heard.{AreHeard}
use Rattle.hs_copy.specs.Rounds.{Forgets, IsTriedAs, PlacedFails, WritesPlaced, failed, quiet, write_above}
use Rattle.hs_copy.specs.Writing.{IsForgetDone}
use Rattle.hs_copy.specs.declared.fault.PartFault.{PartFault}
use Rattle.hs_copy.specs.declared.fault.PartFault.TheVariants as part
use Rattle.hs_copy.specs.declared.order.Placed.{Placed}
use Rattle.hs_copy.specs.declared.write.Node.{Node}
use Rattle.hs_limits.specs.declared.address.Address.{Address}
use Rattle.hs_model.specs.declared.op.Op.{Op}
use Rattle.hs_model.specs.declared.op.Op.TheVariants as op
use Rattle.hs_model.specs.declared.reply.Reply.{Reply}
use Rattle.hs_model.specs.declared.reply.Reply.TheVariants as reply
use Rattle.hs_tree.specs.Calls.{Hears}
use Rattle.hs_tree.specs.Storing.{our_session}
use Rattle.hs_tree.specs.Telling.{GivesWritten}

-- ---- counts

counted-append : (c : Count) (hs ks : List (Op × Reply)) → counted_all c (hs ++ ks) ≡ counted_all (counted_all c hs) ks
counted-append c [] ks = refl
counted-append c (h ∷ hs) ks = counted-append (counted c h) hs ks

due_append : (c : Count) (hs ks : List (Op × Reply)) → AreDue c hs → AreDue (counted_all c hs) ks → AreDue c (hs ++ ks)
due_append c [] ks h k = k
due_append c (x ∷ hs) ks h k = (h.0, due_append (counted c x) hs ks h.1 k)

pub deletes_then : {tells : Type 0} (c d e : Count) (old mid new : Shown tells) → DeletesSo c d old mid → DeletesSo d e mid new → DeletesSo c e old new
deletes_then c d e old mid new h k = record {
  heard = h.heard ++ k.heard;
  all = heard_then old mid new h.heard k.heard h.all k.all;
  due = due_append c h.heard k.heard h.due (subst (λ z. AreDue z k.heard) (sym h.counts) k.due);
  counts = counted-append c h.heard k.heard ∙ (ap (λ z. counted_all z k.heard) h.counts ∙ k.counts);
  rest = k.rest;
}

pub deletes_none : {tells : Type 0} (c : Count) (old : Shown tells) → is_due c ≡ false → DeletesSo c c old old
deletes_none c old rest = record { heard = []; all = refl; due = tt; counts = refl; rest = rest }

-- an operation that is not counted
pub deletes_other : {tells : Type 0} (c : Count) (old new : Shown tells) (o : Op) (told : Reply) → is_due c ≡ false → is_deletion o ≡ false → counted c (o, told) ≡ c → Hears old new o told → DeletesSo c c old new
deletes_other c old new o told rest none same h = record { heard = (o, told) ∷ []; all = heard_one old new o told h; due = (none ∙ sym rest, tt); counts = same; rest = rest }

-- ---- a write

gives_so : (told : Reply) (handle : ℕ) → GivesWritten told handle → is_written told ≡ true
gives_so reply.Ok handle g = absurd g
gives_so (reply.New at epoch) handle g = refl
gives_so (reply.Dup at epoch) handle g = refl
gives_so (reply.Bytes bytes handles) handle g = absurd g
gives_so (reply.Held at epoch) handle g = absurd g
gives_so (reply.Name address) handle g = absurd g
gives_so (reply.Stat blocks roots sessions epochs swept) handle g = absurd g
gives_so (reply.Run epoch) handle g = absurd g
gives_so (reply.Enter epoch) handle g = absurd g
gives_so (reply.Sweep epoch removed) handle g = absurd g
gives_so (reply.Done epoch) handle g = absurd g
gives_so (reply.Down peer line) handle g = absurd g
gives_so (reply.Visits epoch count) handle g = absurd g
gives_so (reply.NoSession session) handle g = absurd g
gives_so (reply.SessionTaken session) handle g = absurd g
gives_so (reply.SessionsFull limit) handle g = absurd g
gives_so (reply.Busy line) handle g = absurd g
gives_so (reply.TooLong found) handle g = absurd g
gives_so (reply.TooMany found) handle g = absurd g
gives_so (reply.NoHandle at) handle g = absurd g
gives_so (reply.HandlesFull limit) handle g = absurd g
gives_so (reply.Stale at held now) handle g = absurd g
gives_so reply.Collision handle g = absurd g
gives_so (reply.ShardFull limit) handle g = absurd g
gives_so (reply.KeyTaken key) handle g = absurd g
gives_so (reply.NoKey key) handle g = absurd g
gives_so (reply.RootsFull limit) handle g = absurd g
gives_so (reply.Running epoch) handle g = absurd g
gives_so (reply.EpochEnd limit) handle g = absurd g
gives_so (reply.NoPeer peer) handle g = absurd g
gives_so (reply.NotUp peer) handle g = absurd g
gives_so (reply.NotDown peer) handle g = absurd g
gives_so (reply.NoMessage message) handle g = absurd g
gives_so (reply.PoolFull limit) handle g = absurd g

-- a write that was done, and then what is due
pub write_then : {tells : Type 0} (name : List ℕ → Address) (c d : Count) (old mid new : Shown tells) (nodes : List Node) (q : Placed) (made : Node) → is_due c ≡ false → WritesPlaced name old mid nodes q made → DeletesSo (with_write c) d mid new → DeletesSo c d old new
write_then name c d old mid new nodes q made rest w k =
    let o : Op = write_above name our_session w.below q.bytes in
    let told : Reply = w.node.answered.told in
    let same : counted c (o, told) ≡ with_write c = ap (λ z. with_write_if z c) (gives_so told made.handle w.node.answered.gives) in
    record {
      heard = (o, told) ∷ k.heard;
      all = (mid, w.node.answered.hears, k.all);
      due = (sym rest, subst (λ z. AreDue z k.heard) (sym same) k.due);
      counts = ap (λ z. counted_all z k.heard) same ∙ k.counts;
      rest = k.rest;
    }

-- one that was refused
pub write_refused : {tells : Type 0} (name : List ℕ → Address) (c : Count) (old new : Shown tells) (nodes : List Node) (q : Placed) (f : PartFault) → is_due c ≡ false → PlacedFails name old new nodes q f → WhereRefused f (DeletesSo c c old new)
unfolding grants
write_refused name c old new nodes q f rest (quiet e same) = subst (λ z. WhereRefused z (DeletesSo c c old new)) (sym e) tt
write_refused name c old new nodes q (part.Core core) rest (failed below are k) = tt
write_refused name c old new nodes q (part.Refused told) rest (failed below are k) =
    deletes_other c old new (write_above name our_session below q.bytes) told rest refl (ap (λ z. with_write_if z c) k.1) k.0
write_refused name c old new nodes q part.TooMany rest (failed below are k) = tt
write_refused name c old new nodes q part.NoMemory rest (failed below are k) = tt

pub where_then : {tells : Type 0} (c d : Count) (old mid new : Shown tells) (f : PartFault) → DeletesSo c d old mid → WhereRefused f (DeletesSo d d mid new) → WhereRefused f (DeletesSo c d old new)
where_then c d old mid new (part.Core core) h k = tt
where_then c d old mid new (part.Refused told) h k = deletes_then c d d old mid new h k
where_then c d old mid new part.TooMany h k = tt
where_then c d old mid new part.NoMemory h k = tt

pub where_core : (f : PartFault) (P : Type 0) → IsCore f → WhereRefused f P
where_core (part.Core core) P h = tt
where_core (part.Refused told) P h = absurd h
where_core part.TooMany P h = absurd h
where_core part.NoMemory P h = absurd h

-- ---- the root

pub root_keeps : {tells : Type 0} {T : Type 0} (c d : Count) (old mid new : Shown tells) (session key : List ℕ) (handle : ℕ) (r : Result T PartFault) → DeletesSo c d old mid → OnOk r (Hears mid new (op.Root session key handle) reply.Ok) → OnOk r (DeletesSo c d old new)
root_keeps c d old mid new session key handle (Ok x) h k = deletes_then c d d old mid new h (deletes_other d mid new (op.Root session key handle) reply.Ok h.rest refl refl k)
root_keeps c d old mid new session key handle (Err f) h k = tt

pub root_refuses : {tells : Type 0} {T : Type 0} (c d : Count) (old mid new : Shown tells) (session key : List ℕ) (handle : ℕ) (r : Result T PartFault) → DeletesSo c d old mid → IfErr r (λ f. CallFails mid new (op.Root session key handle) f) → IfErr r (λ f. WhereRefused f (DeletesSo c d old new))
root_refuses c d old mid new session key handle (Ok x) h k = tt
root_refuses c d old mid new session key handle (Err (part.Core core)) h k = tt
root_refuses c d old mid new session key handle (Err (part.Refused told)) h k = deletes_then c d d old mid new h (deletes_other d mid new (op.Root session key handle) told h.rest refl refl k.0)
root_refuses c d old mid new session key handle (Err part.TooMany) h k = tt
root_refuses c d old mid new session key handle (Err part.NoMemory) h k = tt

-- ---- a beginning, whole or stale

pub tried_so : {T : Type 0} (P : Type 0) (r : Result T PartFault) (t : Result Bool PartFault) → IsTriedAs r t → OnOk r P → IfErr r (λ f. WhereRefused f P) → IfOk t (λ whole. P)
tried_so P (Ok x) t e h k = subst (λ z. IfOk z (λ whole. P)) (sym e) h
tried_so P (Err (part.Refused told)) t (inl e) h k = subst (λ z. IfOk z (λ whole. P)) (sym e.0) k
tried_so P (Err (part.Refused told)) t (inr e) h k = subst (λ z. IfOk z (λ whole. P)) (sym e.0) tt
tried_so P (Err (part.Core core)) t e h k = subst (λ z. IfOk z (λ whole. P)) (sym e) tt
tried_so P (Err part.TooMany) t e h k = subst (λ z. IfOk z (λ whole. P)) (sym e) tt
tried_so P (Err part.NoMemory) t e h k = subst (λ z. IfOk z (λ whole. P)) (sym e) tt

-- ---- forgets

forgets_same : {tells : Type 0} (c : Count) (old new : Shown tells) (hs : List (Op × Reply)) → is_due c ≡ false → AllByRecursion IsForgetDone hs → AreHeard old new hs → DeletesSo c c old new
forgets_same c old new [] rest done h = subst (λ z. DeletesSo c c old z) (sym h) (deletes_none c old rest)
forgets_same c old new ((op.Forget name handle, told) ∷ hs) rest done h = deletes_then c c c old h.0 new (deletes_other c old h.0 (op.Forget name handle) told rest refl refl h.1) (forgets_same c h.0 new hs rest done.1 h.2)
forgets_same c old new ((op.Open session, told) ∷ hs) rest done h = absurd done.0
forgets_same c old new ((op.Close session, told) ∷ hs) rest done h = absurd done.0
forgets_same c old new ((op.Write session payload handles address, told) ∷ hs) rest done h = absurd done.0
forgets_same c old new ((op.Read session handle, told) ∷ hs) rest done h = absurd done.0
forgets_same c old new ((op.Look session k, told) ∷ hs) rest done h = absurd done.0
forgets_same c old new ((op.Root session k handle, told) ∷ hs) rest done h = absurd done.0
forgets_same c old new ((op.Drop k, told) ∷ hs) rest done h = absurd done.0
forgets_same c old new ((op.Name session handle, told) ∷ hs) rest done h = absurd done.0
forgets_same c old new ((op.Delete, told) ∷ hs) rest done h = absurd done.0
forgets_same c old new ((op.Stat, told) ∷ hs) rest done h = absurd done.0

pub forgets_so : {tells : Type 0} (name : List ℕ → Address) (c d : Count) (old mid new : Shown tells) (nodes : List Node) → DeletesSo c d old mid → Forgets name mid new nodes → DeletesSo c d old new
forgets_so name c d old mid new nodes h k = deletes_then c d d old mid new h (forgets_same d mid new k.forgets h.rest k.done k.heard)

-- ---- all beginnings, and the open

pub on_then : {tells : Type 0} (c d e : Count) (old mid new : Shown tells) → DeletesSo c d old mid → DeletesSo d e mid new → DeletesOn c old new
on_then c d e old mid new h k = record { behind = e; deletes = deletes_then c d e old mid new h k }

pub on_ok_on : {tells : Type 0} {T : Type 0} (c d e : Count) (old mid new : Shown tells) (r : Result T PartFault) → DeletesSo c d old mid → OnOk r (DeletesSo d e mid new) → OnOk r (DeletesOn c old new)
on_ok_on c d e old mid new (Ok x) h k = on_then c d e old mid new h k
on_ok_on c d e old mid new (Err f) h k = tt

pub opened_on : {tells : Type 0} {T : Type 0} (c : Count) (old mid new : Shown tells) (session : List ℕ) (r : Result T PartFault) → is_due c ≡ false → Hears old mid (op.Open session) reply.Ok → OnOk r (DeletesOn c mid new) → OnOk r (DeletesOn c old new)
opened_on c old mid new session (Ok x) rest h k = on_then c c k.behind old mid new (deletes_other c old mid (op.Open session) reply.Ok rest refl refl h) k.deletes
opened_on c old mid new session (Err f) rest h k = tt

pub begins_at_rest : (every : Option ℕ) → due_in every 0 0 ≡ false
begins_at_rest None = refl
begins_at_rest (Some n) = refl

-- ---- what is due behind a write

none_due : (every : Option ℕ) (w a : ℕ) → every ≡ None → (with_write (record { every = every; since = w; asked = a }) ≡ record { every = every; since = w; asked = a }) × (due_in every w a ≡ false)
none_due None w a e = (refl, refl)
none_due (Some n) w a e = cc e

full_due : (every : Option ℕ) (w a : ℕ) → 4 ≤ a → (with_write (record { every = every; since = w; asked = a }) ≡ record { every = every; since = w; asked = a }) × (due_in every w a ≡ false)
full_due None w a full = (refl, refl)
full_due (Some n) w a full = go (nat_lt a 4) refl
  where
    go : (b : Bool) → nat_lt a 4 ≡ b → (with_write (record { every = Some n; since = w; asked = a }) ≡ record { every = Some n; since = w; asked = a }) × (due_in (Some n) w a ≡ false)
    go true t = absurd (grind (arith, tests, t, full))
    go false t = rw t (refl, refl)

under : (a : ℕ) → a < 4 → nat_lt a 4 ≡ true
under a h = go (nat_lt a 4) refl
  where
    go : (b : Bool) → nat_lt a 4 ≡ b → nat_lt a 4 ≡ true
    go true t = t
    go false t = absurd (grind (arith, tests, t, h))

short_of : (n w : ℕ) → w < n - 1 → nat_le n (w + 1) ≡ false
short_of n w h = go (nat_le n (w + 1)) refl
  where
    go : (b : Bool) → nat_le n (w + 1) ≡ b → nat_le n (w + 1) ≡ false
    go true t = absurd (grind (arith, tests, t, h))
    go false t = t

up_to : (n w : ℕ) → n - 1 ≤ w → nat_le n (w + 1) ≡ true
up_to n w h = go (nat_le n (w + 1)) refl
  where
    go : (b : Bool) → nat_le n (w + 1) ≡ b → nat_le n (w + 1) ≡ true
    go true t = t
    go false t = absurd (grind (arith, tests, t, h))

above_none : (w : ℕ) → nat_lt 0 (w + 1) ≡ true
above_none w = go (nat_lt 0 (w + 1)) refl
  where
    go : (b : Bool) → nat_lt 0 (w + 1) ≡ b → nat_lt 0 (w + 1) ≡ true
    go true t = t
    go false t = absurd (grind (arith, tests, t))

none_since : (b : Bool) (n a : ℕ) → due_in (Some n) 0 a ≡ false
none_since b n a = go (nat_lt a 4) refl
  where
    go : (b : Bool) → nat_lt a 4 ≡ b → due_in (Some n) 0 a ≡ false
    go true t = rw t refl
    go false t = rw t refl

module _ {tells : Type 0} (old : Shown tells) where
  at_rest : (c : Count) → with_write c ≡ c → is_due c ≡ false → DeletesSo (with_write c) c old old
  at_rest c same rest = subst (λ z. DeletesSo z c old old) (sym same) (deletes_none c old rest)

  pub no_deletion : (every : Option ℕ) (w a : ℕ) → every ≡ None → DeletesSo (with_write (record { every = every; since = w; asked = a })) (record { every = every; since = w; asked = a }) old old
  no_deletion every w a e = let h = none_due every w a e in at_rest (record { every = every; since = w; asked = a }) h.0 h.1

  pub no_more : (every : Option ℕ) (w a : ℕ) → 4 ≤ a → DeletesSo (with_write (record { every = every; since = w; asked = a })) (record { every = every; since = w; asked = a }) old old
  no_more every w a full = let h = full_due every w a full in at_rest (record { every = every; since = w; asked = a }) h.0 h.1

  on_write : (every : Option ℕ) (n w a : ℕ) → every ≡ Some n → a < 4 → with_write (record { every = every; since = w; asked = a }) ≡ record { every = Some n; since = w + 1; asked = a }
  on_write every n w a e room = subst (λ z. with_write (record { every = z; since = w; asked = a }) ≡ record { every = Some n; since = w + 1; asked = a }) (sym e) (let u = under a room in rw u refl)

  pub not_yet : (every : Option ℕ) (n w a : ℕ) → every ≡ Some n → a < 4 → w < n - 1 → DeletesSo (with_write (record { every = every; since = w; asked = a })) (record { every = every; since = w + 1; asked = a }) old old
  not_yet every n w a e room short =
      subst (λ z. DeletesSo (with_write (record { every = every; since = w; asked = a })) (record { every = z; since = w + 1; asked = a }) old old) (sym e)
      (subst (λ z. DeletesSo z (record { every = Some n; since = w + 1; asked = a }) old old) (sym (on_write every n w a e room))
      (deletes_none (record { every = Some n; since = w + 1; asked = a }) old (let u = under a room in let v = above_none w in let s = short_of n w short in rw (u, v, s) refl)))

  pub one_due : {T : Type 0} (new : Shown tells) (every : Option ℕ) (n w a : ℕ) (r : Result T PartFault) → every ≡ Some n → a < 4 → n - 1 ≤ w → OnOk r (IsHeard old new op.Delete) → OnOk r (DeletesSo (with_write (record { every = every; since = w; asked = a })) (record { every = every; since = 0; asked = a + 1 }) old new)
  one_due new every n w a (Err f) e room much h = tt
  one_due new every n w a (Ok x) e room much h =
      subst (λ z. DeletesSo (with_write (record { every = every; since = w; asked = a })) (record { every = z; since = 0; asked = a + 1 }) old new) (sym e)
      (subst (λ z. DeletesSo z (record { every = Some n; since = 0; asked = a + 1 }) old new) (sym (on_write every n w a e room))
      (record {
        heard = (op.Delete, h.told) ∷ [];
        all = heard_one old new op.Delete h.told h.hears;
        due = (let u = under a room in let v = above_none w in let s = up_to n w much in rw (u, v, s) refl, tt);
        counts = refl;
        rest = none_since true n (a + 1);
      }))
