-- How a storing stops, from a tree that has grown so far.
use Rattle.std.proofs.Common.{◌≡◌, ◌+◌, ◌≤◌, arith, length, ℕ, List, [], ◌∷◌, ◌++◌, Option, None, Some, map, false, refl, sym, ap, ◌∙◌, subst, append-nil, append_assoc}
use Rattle.std.proofs.lemmas.List.{map-append}
use Rattle.std.specs.List.{AllByRecursion}
use Rattle.hs_asking.proofs.HandLemmas.{all_append}
use Rattle.hs_asking.specs.Judged.{IsJudged}
use Rattle.hs_asking.specs.Shown.{Began, Shown, store_now}
use Rattle.hs_asking.specs.Telling.{grants, is_ok}
use Rattle.hs_desk.specs.declared.fault.CoreFault.{CoreFault}
use Rattle.hs_limits.specs.Block.{Block, spell}
use Rattle.hs_limits.specs.declared.address.Address.{Address}
use Rattle.hs_model.specs.Store.{Store}
use Rattle.hs_model.specs.declared.op.Op.{Op}
use Rattle.hs_model.specs.declared.op.Op.TheVariants as op
use Rattle.hs_model.specs.declared.reply.Reply.{Reply}
use Rattle.hs_model.specs.declared.reply.Reply.TheVariants as reply
use Rattle.hs_tree.proofs.GrowLemmas.{few_more, few_open, held_few, writes-append}
use Rattle.hs_tree.proofs.StepLemmas.{both_at, both_told, forget_told, where_told}
use Rattle.hs_tree.specs.Calls.{CallFails}
use Rattle.hs_tree.specs.Growing.{HasPlanted, HasLast, IsEndOf, IsGrowing, IsHalted, IsOfLast, IsOpenAndWork, IsStopped, IsStoreFault, IsStoreRefusal, IsStoringOp, IsWork, KeepsAll, KeepsRoots, Place, as_write, as_writes, block_of, name_of, write_above, writes_in}
use Rattle.hs_tree.specs.declared.fault.TreeFault.{TreeFault}
use Rattle.hs_tree.specs.declared.fault.TreeFault.TheVariants as fault
use Rattle.hs_tree.specs.declared.grow.Node.{Node}

-- ---- kinds of operations

work_kind : (session key : List ℕ) (o : Op) → IsWork session o → IsStoringOp session key o
work_kind session key (op.Open name) h = absurd h
work_kind session key (op.Close name) h = absurd h
work_kind session key (op.Write name payload handles address) h = h
work_kind session key (op.Read name handle) h = absurd h
work_kind session key (op.Look name k) h = absurd h
work_kind session key (op.Root name k handle) h = absurd h
work_kind session key (op.Drop k) h = absurd h
work_kind session key (op.Forget name handle) h = h
work_kind session key (op.Name name handle) h = absurd h
work_kind session key op.Delete h = absurd h
work_kind session key op.Stat h = absurd h

work_kinds : (session key : List ℕ) (ops : List Op) → AllByRecursion (IsWork session) ops → AllByRecursion (IsStoringOp session key) ops
work_kinds session key [] h = tt
work_kinds session key (o ∷ ops) h = (work_kind session key o h.0, work_kinds session key ops h.1)

not_none : {session : List ℕ} {ops : List Op} → op.Open session ∷ ops ≡ [] → ⊥
not_none e = cc e

-- ---- faults that come of no asker

abbrev pub IsQuiet : TreeFault → Type 0
IsQuiet (fault.Core core) = ⊥
IsQuiet fault.Read = Unit {0}
IsQuiet fault.InputFull = Unit {0}
IsQuiet (fault.Refused told) = ⊥
IsQuiet (fault.NotATree address) = ⊥
IsQuiet fault.NoMemory = Unit {0}

quiet_end : (ended : Option CoreFault) (f : TreeFault) → ended ≡ None → IsQuiet f → IsEndOf ended f
quiet_end ended (fault.Core core) e q = absurd q
quiet_end ended fault.Read e q = e
quiet_end ended fault.InputFull e q = e
quiet_end ended (fault.Refused told) e q = absurd q
quiet_end ended (fault.NotATree address) e q = absurd q
quiet_end ended fault.NoMemory e q = e

quiet_cause : (key : List ℕ) (f : TreeFault) → IsQuiet f → IsStoreFault key f
quiet_cause key (fault.Core core) q = absurd q
quiet_cause key fault.Read q = tt
quiet_cause key fault.InputFull q = tt
quiet_cause key (fault.Refused told) q = absurd q
quiet_cause key (fault.NotATree address) q = absurd q
quiet_cause key fault.NoMemory q = tt

quiet_kept : (s t : Store) (f : TreeFault) → IsQuiet f → KeepsRoots s t → KeepsAll s t f
quiet_kept s t (fault.Core core) q h = absurd q
quiet_kept s t fault.Read q h = h
quiet_kept s t fault.InputFull q h = h
quiet_kept s t (fault.Refused told) q h = absurd q
quiet_kept s t (fault.NotATree address) q h = absurd q
quiet_kept s t fault.NoMemory q h = h

quiet_last : {tells : Type 0} (session : List ℕ) (start now : Shown tells) (ops : List Op) (f : TreeFault) → IsQuiet f → IsOpenAndWork session ops → IsOfLast session start now ops f
quiet_last session start now ops (fault.Core core) q h = absurd q
quiet_last session start now ops fault.Read q h = h
quiet_last session start now ops fault.InputFull q h = h
quiet_last session start now ops (fault.Refused told) q h = absurd q
quiet_last session start now ops (fault.NotATree address) q h = absurd q
quiet_last session start now ops fault.NoMemory q h = h

pub where_any : {tells : Type 0} (P : Began → Type 0) (b : Began) → ((b : Began) → P b) → tells → P b
where_any P b f = λ is. f b

module _ {tells : Type 0} (name : List ℕ → Address) (session key : List ℕ) (start : Shown tells) where
  pub stops_quietly : (now : Shown tells) (front spare last : List Node) (written : List Block) (places : List Place) (f : TreeFault) → IsQuiet f → IsGrowing name session start now front spare last written places → IsStopped session key start now f
  stops_quietly now front spare last written places f q h = record {
    ops = op.Open session ∷ h.worked.ops;
    asked = h.worked.asked;
    kinds = (refl, work_kinds session key h.worked.ops h.worked.work);
    began = h.began;
    ended = quiet_end now.ended f h.going q;
    few = few_open session h.worked.ops h.worked.few;
    last = quiet_last session start now (op.Open session ∷ h.worked.ops) f q (refl, h.worked.work);
    cause = where_any (λ b. IsStoreFault key f) now.began (λ b. quiet_cause key f q);
    kept = where_told (λ b. KeepsRoots (store_now b start) (store_now b now)) (λ b. KeepsAll (store_now b start) (store_now b now) f) now.began now.began refl (λ b k. quiet_kept (store_now b start) (store_now b now) f q k) h.roots;
  }

  -- an operation is the last one
  abbrev lasts : (old : Shown tells) (front spare last : List Node) (written : List Block) (places : List Place) (o : Op) (h : IsGrowing name session start old front spare last written places) → HasLast session start (op.Open session ∷ h.worked.ops ++ o ∷ [])
  lasts old front spare last written places o h = record {
    asked = record { front = op.Open session ∷ h.worked.ops; last = o; before = old; so_far = h.worked.asked };
    split = refl;
    work = (refl, h.worked.work);
    first = λ e. absurd (not_none e);
  }

  -- a call of this kind fails, where a refusal is one that a storing may meet
  pub fails_stops : (old new : Shown tells) (front spare last : List Node) (written : List Block) (places : List Place) (o : Op) (f : TreeFault) → IsGrowing name session start old front spare last written places → IsStoringOp session key o → length front + length spare + length last + length (writes_in (o ∷ [])) ≤ 81
      → ((b : Began) → HasPlanted name b (store_now b old) session front spare last places → (told : Reply) → IsJudged b.limits (store_now b old) (store_now b new) o told → grants o told ≡ false → IsStoreRefusal key told × KeepsRoots (store_now b old) (store_now b new))
      → CallFails old new o f → IsStopped session key start new f
  fails_stops old new front spare last written places o (fault.Core core) h kind room refusal c = record {
    ops = op.Open session ∷ h.worked.ops ++ o ∷ [];
    asked = c.asked ∙ (ap (λ z. z ++ o ∷ []) h.worked.asked ∙ append_assoc start.asked (op.Open session ∷ h.worked.ops) (o ∷ []));
    kinds = (refl, all_append (IsStoringOp session key) h.worked.ops (o ∷ []) (work_kinds session key h.worked.ops h.worked.work) (kind, tt));
    began = c.began ∙ h.began;
    ended = c.ended;
    few = few_open session (h.worked.ops ++ o ∷ []) (few_more (length front + length spare + length last) h.worked.ops h.worked.balance h.worked.few o room);
    last = (lasts old front spare last written places o h, c);
    cause = where_any (λ b. Unit {0}) new.began (λ b. tt);
    kept = where_any (λ b. Unit {0}) new.began (λ b. tt);
  }
  fails_stops old new front spare last written places o fault.Read h kind room refusal c = absurd c
  fails_stops old new front spare last written places o fault.InputFull h kind room refusal c = absurd c
  fails_stops old new front spare last written places o (fault.Refused told) h kind room refusal c = record {
    ops = op.Open session ∷ h.worked.ops ++ o ∷ [];
    asked = c.0.asked ∙ (ap (λ z. z ++ o ∷ []) h.worked.asked ∙ append_assoc start.asked (op.Open session ∷ h.worked.ops) (o ∷ []));
    kinds = (refl, all_append (IsStoringOp session key) h.worked.ops (o ∷ []) (work_kinds session key h.worked.ops h.worked.work) (kind, tt));
    began = c.0.began ∙ h.began;
    ended = c.0.going;
    few = few_open session (h.worked.ops ++ o ∷ []) (few_more (length front + length spare + length last) h.worked.ops h.worked.balance h.worked.few o room);
    last = (lasts old front spare last written places o h, c.0, c.1);
    cause = both_told (λ b. HasPlanted name b (store_now b old) session front spare last places) (λ b. IsJudged b.limits (store_now b old) (store_now b new) o told) (λ b. IsStoreRefusal key told) old.began new.began c.0.began (λ b x y. (refusal b x told y c.1).0) h.told c.0.judged;
    kept = both_told (λ b. HasPlanted name b (store_now b old) session front spare last places × KeepsRoots (store_now b start) (store_now b old)) (λ b. IsJudged b.limits (store_now b old) (store_now b new) o told) (λ b. KeepsRoots (store_now b start) (store_now b new)) old.began new.began c.0.began
        (λ b x y key. (refusal b x.0 told y c.1).1 key ∙ x.1 key) (both_at (λ b. HasPlanted name b (store_now b old) session front spare last places) (λ b. KeepsRoots (store_now b start) (store_now b old)) old.began h.told h.roots) c.0.judged;
  }
  fails_stops old new front spare last written places o (fault.NotATree address) h kind room refusal c = absurd c
  fails_stops old new front spare last written places o fault.NoMemory h kind room refusal c = subst (λ z. IsStopped session key start z fault.NoMemory) (sym c) (stops_quietly old front spare last written places fault.NoMemory tt h)

  -- ---- and what was written by then

  pub halts_quietly : (now : Shown tells) (front spare last : List Node) (written : List Block) (places : List Place) (all : List Block) (f : TreeFault) → IsQuiet f → IsGrowing name session start now front spare last written places
      → (back : List (List ℕ × Option Address)) → as_writes name written ++ back ≡ as_writes name all → IsHalted name session key start now all f
  halts_quietly now front spare last written places all f q h back e = record {
    stopped = stops_quietly now front spare last written places f q h;
    ops = h.worked.ops;
    asked = h.worked.asked;
    work = h.worked.work;
    back = back;
    writes = ap (λ z. z ++ back) h.worked.writes ∙ e;
  }

  module _ (old new : Shown tells) (front spare last : List Node) (written : List Block) (places : List Place) (o : Op) (all : List Block) (h : IsGrowing name session start old front spare last written places) (work : IsWork session o)
      (back : List (List ℕ × Option Address)) (writes : as_writes name written ++ (writes_in (o ∷ []) ++ back) ≡ as_writes name all) where
    halts_with : (f : TreeFault) → new.asked ≡ old.asked ++ o ∷ [] → IsStopped session key start new f → IsHalted name session key start new all f
    halts_with f asked s = record {
      stopped = s;
      ops = h.worked.ops ++ o ∷ [];
      asked = asked ∙ (ap (λ z. z ++ o ∷ []) h.worked.asked ∙ append_assoc start.asked (op.Open session ∷ h.worked.ops) (o ∷ []));
      work = all_append (IsWork session) h.worked.ops (o ∷ []) h.worked.work (work, tt);
      back = back;
      writes = ap (λ z. z ++ back) (writes-append h.worked.ops (o ∷ [])) ∙ (append_assoc (writes_in h.worked.ops) (writes_in (o ∷ [])) back ∙ (ap (λ z. z ++ (writes_in (o ∷ []) ++ back)) h.worked.writes ∙ writes));
    }

    pub fails_halts : (f : TreeFault) → CallFails old new o f → IsStopped session key start new f → IsHalted name session key start new all f
    fails_halts (fault.Core core) c s = halts_with (fault.Core core) c.asked s
    fails_halts fault.Read c s = absurd c
    fails_halts fault.InputFull c s = absurd c
    fails_halts (fault.Refused told) c s = halts_with (fault.Refused told) c.0.asked s
    fails_halts (fault.NotATree address) c s = absurd c
    fails_halts fault.NoMemory c s = subst (λ z. IsHalted name session key start z all fault.NoMemory) (sym c) (halts_quietly old front spare last written places all fault.NoMemory tt h (writes_in (o ∷ []) ++ back) writes)

  -- a forget is never refused
  forget_stops : (old new : Shown tells) (front : List Node) (x : Node) (spare last : List Node) (written : List Block) (places : List Place) (f : TreeFault) → IsGrowing name session start old front (x ∷ spare) last written places → CallFails old new (op.Forget session x.handle) f → IsStopped session key start new f
  unfolding grants
  forget_stops old new front x spare last written places f h c =
      fails_stops old new front (x ∷ spare) last written places (op.Forget session x.handle) f h refl (let few = held_few (length front + length (x ∷ spare) + length last) h.worked.ops h.worked.balance h.worked.few in omega (arith, few))
      (λ b y told j refusal. never b told (forget_told name session start old new b front x spare last places y h.names told j).0 refusal) c
    where
      never : (b : Began) (told : Reply) → told ≡ reply.Ok → is_ok told ≡ false → IsStoreRefusal key told × KeepsRoots (store_now b old) (store_now b new)
      never b told e refusal = let k = subst (λ z. is_ok z ≡ false) e refusal in cc k

  pub forget_halts : (old new : Shown tells) (front : List Node) (x : Node) (spare last : List Node) (written : List Block) (places : List Place) (f : TreeFault) → IsGrowing name session start old front (x ∷ spare) last written places → CallFails old new (op.Forget session x.handle) f → IsHalted name session key start new written f
  forget_halts old new front x spare last written places f h c =
      fails_halts old new front (x ∷ spare) last written places (op.Forget session x.handle) written h refl [] (append-nil (as_writes name written)) f c (forget_stops old new front x spare last written places f h c)

-- more was to be written
pub halts_within : {tells : Type 0} (name : List ℕ → Address) (session key : List ℕ) (start now : Shown tells) (blocks all : List Block) (f : TreeFault) → (rest : List Block) × (blocks ++ rest ≡ all) → IsHalted name session key start now blocks f → IsHalted name session key start now all f
halts_within name session key start now blocks all f r h = record {
  stopped = h.stopped;
  ops = h.ops;
  asked = h.asked;
  work = h.work;
  back = h.back ++ as_writes name r.0;
  writes = sym (append_assoc (writes_in h.ops) h.back (as_writes name r.0)) ∙ (ap (λ z. z ++ as_writes name r.0) h.writes ∙ (sym (map-append (as_write name) blocks r.0) ∙ ap (λ z. as_writes name z) r.1));
}

-- a block comes behind some
pub written_last : (name : List ℕ → Address) (session payload : List ℕ) (nodes : List Node) (p : Place) (written all : List Block) → record { pointers = map (λ (n : Node). n.address) nodes; bytes = payload } ≡ block_of name p → written ++ block_of name p ∷ [] ≡ all
    → as_writes name written ++ (writes_in (write_above name session nodes payload ∷ []) ++ []) ≡ as_writes name all
written_last name session payload nodes p written all is e =
    let bytes_are : payload ≡ (block_of name p).bytes = ap (λ (z : Block). z.bytes) is in
    let addr_is : name (spell (record { pointers = map (λ (n : Node). n.address) nodes; bytes = payload })) ≡ name_of name p = ap (λ z. name (spell z)) is in
    (λ i. as_writes name written ++ ((bytes_are i, Some (addr_is i)) ∷ [])) ∙ (sym (map-append (as_write name) written (block_of name p ∷ [])) ∙ ap (λ z. as_writes name z) e)
