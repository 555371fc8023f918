-- What is read of a tree, call by call.
use Rattle.std.proofs.Common.{◌≡◌, ℕ, ◌+◌, ◌*◌, ◌≤◌, List, [], ◌∷◌, ◌++◌, zero, suc, None, false, refl, sym, ap, ◌∙◌, subst, map, length, arith, append-nil, append_assoc}
use Rattle.std.specs.List.{range_with_len}
use Rattle.hs_asking.proofs.AloneLemmas.{forgets_alone, reads_alone}
use Rattle.hs_asking.proofs.HandLemmas.{all_append}
use Rattle.hs_asking.specs.Alone.{IsForgot, IsRead}
use Rattle.hs_asking.specs.Judged.{IsJudged}
use Rattle.hs_asking.specs.Seats.{HasSeat, numbered}
use Rattle.hs_asking.specs.Shown.{Began, Shown, store_now}
use Rattle.hs_asking.specs.Telling.{grants, is_bytes, is_ok}
use Rattle.hs_laws.specs.Written.{IsBlockAt}
use Rattle.hs_limits.specs.declared.address.Address.{Address}
use Rattle.hs_limits.specs.declared.address.Held.{Held}
use Rattle.hs_model.proofs.Members.{member-append_left}
use Rattle.hs_model.specs.Store.{Store, helds_of}
use Rattle.hs_model.specs.declared.op.Op.{Op}
use Rattle.hs_model.specs.declared.op.Op.TheVariants as op
use Rattle.hs_model.specs.declared.reply.Reply.{Reply}
use Rattle.hs_model.specs.declared.reply.Reply.TheVariants as reply
use Rattle.hs_tree.proofs.CallLemmas.{told_last}
use Rattle.hs_tree.proofs.RowSteps.{goes_keeps, the_one}
use Rattle.hs_tree.specs.Calls.{CallFails, Hears, IsAskFault}
use Rattle.hs_tree.specs.Fetching.{IsReading}
use Rattle.hs_tree.specs.Growing.{IsEndOf}
use Rattle.hs_tree.specs.Rows.{HoldsPart, IsReadFault, KeepsFront, OnlyReads, PartStops, addresses_in}
use Rattle.hs_tree.specs.declared.fault.TreeFault.{TreeFault}
use Rattle.hs_tree.specs.declared.fault.TreeFault.TheVariants as fault

-- ---- what was asked for

pub reads_none : {tells : Type 0} → (session : List ℕ) (old : Shown tells) → OnlyReads session old old
reads_none session old = record { ops = []; asked = sym (append-nil old.asked); kinds = tt; began = refl }

pub reads_more : {tells : Type 0} → (session : List ℕ) (old mid new : Shown tells) → OnlyReads session old mid → OnlyReads session mid new → OnlyReads session old new
reads_more session old mid new h k = record {
  ops = h.ops ++ k.ops;
  asked = k.asked ∙ (ap (λ z. z ++ k.ops) h.asked ∙ append_assoc old.asked h.ops k.ops);
  kinds = all_append (IsReading session) h.ops k.ops h.kinds k.kinds;
  began = k.began ∙ h.began;
}

pub reads_one : {tells : Type 0} → (session : List ℕ) (old new : Shown tells) (o : Op) (told : Reply) → IsReading session o → Hears old new o told → OnlyReads session old new
reads_one session old new o told kind h = record { ops = o ∷ []; asked = h.asked; kinds = (kind, tt); began = h.began }

-- a call that fails asked for nothing else
pub fails_reads : {tells : Type 0} → (session : List ℕ) (old new : Shown tells) (o : Op) (f : TreeFault) → IsReading session o → old.ended ≡ None → CallFails old new o f → OnlyReads session old new × IsEndOf new.ended f
fails_reads session old new o (fault.Core core) kind going c = (record { ops = o ∷ []; asked = c.asked; kinds = (kind, tt); began = c.began }, c.ended)
fails_reads session old new o fault.Read kind going c = absurd c
fails_reads session old new o fault.InputFull kind going c = absurd c
fails_reads session old new o (fault.Refused told) kind going c = (reads_one session old new o told kind c.0, c.0.going)
fails_reads session old new o (fault.NotATree address) kind going c = absurd c
fails_reads {tells = tells} session old new o fault.NoMemory kind going c = (subst (λ z. OnlyReads session old z) (sym c) (reads_none session old), ap (λ (z : Shown tells). z.ended) c ∙ going)

pub fails_kind : {tells : Type 0} → (old new : Shown tells) (o : Op) (f : TreeFault) → CallFails old new o f → IsAskFault f
fails_kind old new o (fault.Core core) c = tt
fails_kind old new o fault.Read c = absurd c
fails_kind old new o fault.InputFull c = absurd c
fails_kind old new o (fault.Refused told) c = tt
fails_kind old new o (fault.NotATree address) c = absurd c
fails_kind old new o fault.NoMemory c = tt

-- and where it is never refused it failed with the asker or for memory
pub fails_cause : {tells : Type 0} → (old new : Shown tells) (o : Op) (f : TreeFault) → ((told : Reply) → Hears old new o told → grants o told ≡ false → ⊥) → CallFails old new o f → IsReadFault f
fails_cause old new o (fault.Core core) never c = tt
fails_cause old new o fault.Read never c = absurd c
fails_cause old new o fault.InputFull never c = absurd c
fails_cause old new o (fault.Refused told) never c = absurd (never told c.0 c.1)
fails_cause old new o (fault.NotATree address) never c = absurd c
fails_cause old new o fault.NoMemory never c = tt

judged_of : {tells : Type 0} → (b : Began) (old new : Shown tells) (o : Op) (told : Reply) → tells → old.began ≡ b → Hears old new o told → IsJudged b.limits (store_now b old) (store_now b new) o told
judged_of b old new o told sure e h = subst (λ z. IsJudged z.limits (store_now z old) (store_now z new) o told) e (h.judged sure)

-- ---- a read and a forget where the store is told

module _ {tells : Type 0} (session : List ℕ) (old new : Shown tells) (sure : tells) (b : Began) (e : old.began ≡ b) (next h : ℕ) (front rest : List (ℕ × Held)) (x : ℕ × Held) (k : ℕ) (same : x.0 ≡ k) (held : HoldsPart b (store_now b old) session next h front x rest) where
  pub read_told : (told : Reply) → Hears old new (op.Read session k) told → IsRead (store_now b old) (store_now b new) session next (front ++ x ∷ rest) x.1 told
  read_told told hears =
      let few : length (front ++ x ∷ rest) + 64 * (h + 1) ≤ 193 = held.few in
      let limit : b.limits.handles ≡ 4096 = held.limit in
      reads_alone b.limits (store_now b old) (store_now b new) session next (front ++ x ∷ rest) held.seat x.0 x.1 told (the_one front x rest) (omega (arith, few, limit))
      (subst (λ z. IsJudged b.limits (store_now b old) (store_now b new) (op.Read session z) told) (sym same) (judged_of b old new (op.Read session k) told sure e hears))

  pub read_never : (told : Reply) → Hears old new (op.Read session k) told → grants (op.Read session k) told ≡ false → ⊥
  unfolding grants
  read_never told hears refusal = let r = read_told told hears in let z = subst (λ z. is_bytes z ≡ false) r.told_is refusal in cc z

module _ {tells : Type 0} (session : List ℕ) (old new : Shown tells) (sure : tells) (b : Began) (e : old.began ≡ b) (next : ℕ) (front rest : List (ℕ × Held)) (x : ℕ × Held) (k : ℕ) (same : x.0 ≡ k) (seat : HasSeat (store_now b old) session next (front ++ x ∷ rest)) where
  pub forget_told : (told : Reply) → Hears old new (op.Forget session k) told → IsForgot (store_now b old) (store_now b new) session next (front ++ x ∷ rest) (front ++ rest) told
  forget_told told hears =
      forgets_alone b.limits (store_now b old) (store_now b new) session next (front ++ x ∷ rest) seat front x rest told refl
      (subst (λ z. IsJudged b.limits (store_now b old) (store_now b new) (op.Forget session z) told) (sym same) (judged_of b old new (op.Forget session k) told sure e hears))

  pub forget_never : (told : Reply) → Hears old new (op.Forget session k) told → grants (op.Forget session k) told ≡ false → ⊥
  unfolding grants
  forget_never told hears refusal = let r = forget_told told hears in let z = subst (λ z. is_ok z ≡ false) r.told_is refusal in cc z

-- what a read tells of the block
pub record IsTold (s t : Store) (session : List ℕ) (next : ℕ) (es : List (ℕ × Held)) (held : Held) (content below : List ℕ) : Type 0 where
  pub pointers : List Address
  pub few : length pointers ≤ 64
  pub block : IsBlockAt t held.address (record { pointers = pointers; bytes = content })
  pub handles : below ≡ range_with_len next (length pointers)
  pub seat : HasSeat t session (next + length pointers) (es ++ numbered next (helds_of pointers held.epoch))
  pub keeps : KeepsFront s t es

bytes_are : (b c : List ℕ) (d e : List ℕ) → reply.Bytes b d ≡ reply.Bytes c e → (b ≡ c) × (d ≡ e)
bytes_are b c d e h = (cc h, cc h)

pub told_read : (s t : Store) (session : List ℕ) (next : ℕ) (es : List (ℕ × Held)) (held : Held) (content below : List ℕ) → IsRead s t session next es held (reply.Bytes content below) → IsTold s t session next es held content below
told_read s t session next es held content below r =
    let same = bytes_are content r.stored.bytes below (range_with_len next (length r.stored.pointers)) r.told_is in
    record {
      pointers = r.stored.pointers;
      few = r.few;
      block = record { stored = r.stored; present = r.present; bytes = sym same.0; pointers = refl };
      handles = same.1;
      seat = r.goes.seat;
      keeps = goes_keeps s t session es (next + length r.stored.pointers) (es ++ numbered next (helds_of r.stored.pointers held.epoch)) es r.goes (λ e m. m) (λ e m. member-append_left e es (numbered next (helds_of r.stored.pointers held.epoch)) m);
    }

-- ---- the handles of a block's pointers

pub numbers_are : (next epoch : ℕ) (pointers : List Address) → map (λ (e : ℕ × Held). e.0) (numbered next (helds_of pointers epoch)) ≡ range_with_len next (length pointers)
unfolding helds_of
numbers_are next epoch [] = refl
numbers_are next epoch (a ∷ pointers) = ap (λ z. next ∷ z) (numbers_are (next + 1) epoch pointers)

pub addresses_are : (next epoch : ℕ) (pointers : List Address) → addresses_in (numbered next (helds_of pointers epoch)) ≡ pointers
unfolding helds_of
addresses_are next epoch [] = refl
addresses_are next epoch (a ∷ pointers) = ap (λ z. a ∷ z) (addresses_are (next + 1) epoch pointers)

pub numbered-length : (next epoch : ℕ) (pointers : List Address) → length (numbered next (helds_of pointers epoch)) ≡ length pointers
unfolding helds_of
numbered-length next epoch [] = refl
numbered-length next epoch (a ∷ pointers) = let k : length (numbered (next + 1) (helds_of pointers epoch)) ≡ length pointers = numbered-length (next + 1) epoch pointers in omega (arith, k)

range-length : (next n : ℕ) → length (range_with_len next n) ≡ n
range-length next zero = refl
range-length next (suc n) = let k : length (range_with_len (next + 1) n) ≡ n = range-length (next + 1) n in omega (arith, k)

pub no_pointers : (next : ℕ) (below : List ℕ) (pointers : List Address) → below ≡ range_with_len next (length pointers) → length below ≡ 0 → pointers ≡ []
no_pointers next below [] e z = refl
no_pointers next below (a ∷ pointers) e z =
    let l : length below ≡ length (range_with_len next (length (a ∷ pointers))) = ap (λ y. length y) e in
    let m : length (range_with_len next (length (a ∷ pointers))) ≡ length (a ∷ pointers) = range-length next (length (a ∷ pointers)) in
    absurd (omega (arith, l, m, z))

-- ---- how a part fails

module _ {tells : Type 0} (session : List ℕ) (old : Shown tells) (h k : ℕ) (going : old.ended ≡ None) where
  pub unread : (new : Shown tells) (f : TreeFault) → CallFails old new (op.Read session k) f → PartStops session old new h k f
  unread new f c =
      let r = fails_reads session old new (op.Read session k) f refl going c in
      record {
        reads = r.0;
        ended = r.1;
        kind = fails_kind old new (op.Read session k) f c;
        last = told_last old new (op.Read session k) f c;
        cause = λ sure b e next front rest x same held. fails_cause old new (op.Read session k) f (read_never session old new sure b e next h front rest x k same held) c;
      }

  pub unmade : (mid : Shown tells) (told : Reply) → Hears old mid (op.Read session k) told → PartStops session old mid h k fault.NoMemory
  unmade mid told hears = record {
    reads = reads_one session old mid (op.Read session k) told refl hears;
    ended = hears.going;
    kind = tt;
    last = tt;
    cause = λ sure b e next front rest x same held. tt;
  }
