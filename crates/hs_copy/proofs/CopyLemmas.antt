-- A copy, from its two halves.
use Rattle.std.proofs.Common.{◌≡◌, ◌∙◌, inl, inr, ℕ, ◌+◌, ◌<◌, ◌≤◌, List, [], ◌∷◌, ◌++◌, Option, None, refl, sym, ap, subst, arith, append-nil, append_assoc, length, map, Contains}
use Rattle.std.proofs.lemmas.List.{length-append}
use Rattle.std.proofs.lemmas.List.Elements.{Contains-get_or}
use Rattle.std.specs.List.{AllByRecursion}
use Rattle.hs_asking.specs.Shown.{IfTold, Shown, store_now}
use Rattle.hs_copy.proofs.BackLemmas.{copied_later}
use Rattle.hs_copy.proofs.CopiedLemmas.{copied_from}
use Rattle.hs_copy.proofs.HeardLemmas.{deletes-append, heard_asked, heard_began, heard_then, ops-append}
use Rattle.hs_copy.proofs.ListLemmas.{told_last}
use Rattle.hs_copy.proofs.ThereLemmas.{there_last}
use Rattle.hs_copy.specs.Calls.{CallFails}
use Rattle.hs_copy.specs.Copied.{IsCopied}
use Rattle.hs_copy.specs.Copying.{AreThere, FirstEnds, HasCopied, IsOfLast, IsPart, IsPartOf, IsStopped, IsTail, SecondEnds}
use Rattle.hs_copy.specs.Faults.{IsFirst, IsSecond}
use Rattle.hs_copy.specs.Finding.{EndsSo, IsRootCause, IsToldLast, ListingStops}
use Rattle.hs_copy.specs.Heard.{AreHeard, joined, ops_of}
use Rattle.hs_copy.specs.Listing.{AreAllOf, AreDifferent, HasListed, name_of, reads_in}
use Rattle.hs_copy.specs.Placing.{AreBelow}
use Rattle.hs_copy.specs.Rounds.{ForgetStops, IsEnd, IsForgetEnd, IsNext, IsWriteCause, RootDone, RootStops, RoundStale, RoundsBroken, address_at, block_in, blocks_of, writes_of}
use Rattle.hs_copy.specs.Rounds.RootStops.{opened, unopened}
use Rattle.hs_copy.specs.Rounds.RoundsStop.{in_forgets, in_round}
use Rattle.hs_copy.specs.Writing.{AreChildrenFirst, ComesNext, HasWritten, IsForget, IsForgetDone, IsWorkDone, deletes_in}
use Rattle.hs_copy.specs.declared.fault.CopyFault.{CopyFault}
use Rattle.hs_copy.specs.declared.fault.CopyFault.TheVariants as fault
use Rattle.hs_copy.specs.declared.fault.PartFault.{PartFault}
use Rattle.hs_copy.specs.declared.fault.PartFault.TheVariants as part
use Rattle.hs_copy.specs.declared.order.Placed.{Placed}
use Rattle.hs_copy.specs.declared.write.Node.{Node}
use Rattle.hs_desk.specs.declared.fault.CoreFault.{CoreFault}
use Rattle.hs_limits.specs.Block.{Block}
use Rattle.hs_limits.specs.declared.address.Address.{Address}
use Rattle.hs_model.specs.declared.op.Op.{Op}
use Rattle.hs_model.specs.declared.op.Op.TheVariants as op
use Rattle.hs_model.specs.declared.reply.Reply.{Reply}
use Rattle.hs_model.specs.declared.reply.Reply.TheVariants as reply
use Rattle.hs_tree.specs.Calls.{HasAskedLast, Hears}
use Rattle.hs_tree.specs.Growing.{writes_in}
use Rattle.hs_tree.specs.Fetching.{IsAlone}
use Rattle.hs_tree.specs.Storing.{IsIdle, our_session}

-- ---- children first

pointers_before : (before : List Address) (n : ℕ) → length before ≡ n → (places : List ℕ) → AllByRecursion (λ p. p < n) places → AllByRecursion (Contains before) (map (λ p. address_at before p) places)
pointers_before before n counted [] h = tt
pointers_before before n counted (p ∷ places) h = (Contains-get_or before p _ (subst (λ z. p < z) (sym counted) h.0), pointers_before before n counted places h.1)

pub children_first : (name : List ℕ → Address) (before : List Address) (n : ℕ) → length before ≡ n → (placed : List Placed) → AreBelow n placed → AreChildrenFirst name before (blocks_of name before placed)
children_first name before n counted [] h = tt
children_first name before n counted (q ∷ placed) h =
    let after : List Address = before ++ name_of name (block_in before q) ∷ [] in
    let longer : length after ≡ length before + 1 = length-append before (name_of name (block_in before q) ∷ []) in
    (pointers_before before n counted q.below h.0, children_first name after (n + 1) (omega (arith, longer, counted)) placed h.1)

pub blocks-length : (name : List ℕ → Address) (before : List Address) (placed : List Placed) → length (blocks_of name before placed) ≡ length placed
blocks-length name before [] = refl
blocks-length name before (q ∷ placed) = let h = blocks-length name (before ++ name_of name (block_in before q) ∷ []) placed in omega (arith, h)

-- ---- what was written

pub written_from : {Q : Type 0} (name : List ℕ → Address) (key : List ℕ) (u v : Shown Q) (placed : List Placed) → RootDone name key u v placed → HasWritten name key u v (blocks_of name [] placed)
written_from name key u v placed h =
    let broken = h.done.broken in
    let round = h.done.done in
    let counts : deletes_in (ops_of (joined broken.rounds ++ round.work)) ≡ deletes_in (ops_of (joined broken.rounds)) + deletes_in (ops_of round.work) = ap (λ z. deletes_in z) (ops-append (joined broken.rounds) round.work) ∙ deletes-append (ops_of (joined broken.rounds)) (ops_of round.work) in
    let one : deletes_in (ops_of (joined broken.rounds)) + 0 ≡ h.done.c = broken.deletes in
    let two : deletes_in (ops_of round.work) + h.done.c ≡ h.done.b = round.deletes in
    let most : h.done.b ≤ 4 = h.done.deletes in
    let counted : length broken.rounds ≡ h.done.n = broken.counted in
    let few : h.done.n ≤ 4 = h.done.few in
    record {
      rounds = broken.rounds;
      few = omega (arith, counted, few);
      broken = broken.broken;
      work = round.work;
      done = round.done;
      writes = round.writes;
      handle = round.handle;
      heard = (h.mid, h.opened, heard_then h.mid h.done.mid v (joined broken.rounds) (round.work ++ (op.Root our_session key round.handle, reply.Ok) ∷ []) broken.heard round.heard);
      deletes = omega (arith, counts, one, two, most);
    }

-- ---- how the second half stops

record SecondStops {Q : Type 0} (name : List ℕ → Address) (key : List ℕ) (u v : Shown Q) (placed : List Placed) (f : PartFault) : Type 0 where
  ops : List Op
  asked : v.asked ≡ u.asked ++ ops
  part_of : IsPartOf key (writes_of name placed) ops
  began : v.began ≡ u.began
  ended : EndsSo v.ended f
  last : IsToldLast u v f
  some : f ≡ part.TooMany → ⊥

module _ (name : List ℕ → Address) (key : List ℕ) (placed : List Placed) where
  abbrev all : List (List ℕ × Option Address)
  all = writes_of name placed

  -- nothing, or an open alone
  open_alone : IsPart key all (op.Open our_session ∷ [])
  open_alone = record { rounds = []; few = omega arith; broken = tt; work = []; done = tt; back = all; writes = refl; tail = []; next = tt; split = refl; deletes = omega arith }

  open_stops : {Q : Type 0} (u v : Shown Q) (f : PartFault) → u.ended ≡ None → CallFails u v (op.Open our_session) f → SecondStops name key u v placed f
  open_stops u v (part.Core core) going c = record { ops = op.Open our_session ∷ []; asked = c.asked; part_of = inr open_alone; began = c.began; ended = c.ended; last = told_last u v (op.Open our_session) (part.Core core) c; some = λ e. differ core e }
    where
      differ : (core : CoreFault) → part.Core core ≡ part.TooMany → ⊥
      differ core e = cc e
  open_stops u v (part.Refused told) going c = record { ops = op.Open our_session ∷ []; asked = c.0.asked; part_of = inr open_alone; began = c.0.began; ended = c.0.going; last = told_last u v (op.Open our_session) (part.Refused told) c; some = λ e. differ told e }
    where
      differ : (told : Reply) → part.Refused told ≡ part.TooMany → ⊥
      differ told e = cc e
  open_stops u v part.TooMany going c = absurd c
  open_stops u v part.NoMemory going c = record { ops = []; asked = ap (λ z. z.asked) c ∙ sym (append-nil u.asked); part_of = inl refl; began = ap (λ z. z.began) c; ended = ap (λ z. z.ended) c ∙ going; last = tt; some = λ e. differ e }
    where
      differ : part.NoMemory ≡ part.TooMany → ⊥
      differ e = cc e

  tail_next : (work : List (Op × Reply)) (a : ℕ) (o : Op) → IsNext key all work a o → IsTail key all work (o ∷ [])
  tail_next work a op.Delete h = refl
  tail_next work a (op.Write session payload handles address) h = (h, tt)
  tail_next work a (op.Root session k handle) h = (h, tt)
  tail_next work a (op.Forget session handle) h = absurd h
  tail_next work a (op.Open session) h = absurd h
  tail_next work a (op.Close session) h = absurd h
  tail_next work a (op.Read session handle) h = absurd h
  tail_next work a (op.Look session k) h = absurd h
  tail_next work a (op.Drop k) h = absurd h
  tail_next work a (op.Name session handle) h = absurd h
  tail_next work a op.Stat h = absurd h

  -- behind an operation that comes next only forgets
  tail_forgets : (work : List (Op × Reply)) (o : Op) (rest : List Op) → ComesNext key all work o → AllByRecursion IsForget rest → IsTail key all work (o ∷ rest)
  tail_forgets work (op.Write session payload handles address) rest h f = (h, f)
  tail_forgets work (op.Root session k handle) rest h f = (h, f)
  tail_forgets work (op.Forget session handle) rest h f = absurd h
  tail_forgets work (op.Open session) rest h f = absurd h
  tail_forgets work (op.Close session) rest h f = absurd h
  tail_forgets work (op.Read session handle) rest h f = absurd h
  tail_forgets work (op.Look session k) rest h f = absurd h
  tail_forgets work (op.Drop k) rest h f = absurd h
  tail_forgets work (op.Name session handle) rest h f = absurd h
  tail_forgets work op.Delete rest h f = absurd h
  tail_forgets work op.Stat rest h f = absurd h

  next_deletes : (work : List (Op × Reply)) (a : ℕ) (o : Op) → deletes_in (ops_of work) + a ≤ 4 → IsNext key all work a o → (deletes_in (ops_of work) + a) + deletes_in (o ∷ []) ≤ 4
  next_deletes work a op.Delete few h = omega (arith, few, h)
  next_deletes work a (op.Write session payload handles address) few h = omega (arith, few)
  next_deletes work a (op.Root session k handle) few h = omega (arith, few)
  next_deletes work a (op.Forget session handle) few h = absurd h
  next_deletes work a (op.Open session) few h = absurd h
  next_deletes work a (op.Close session) few h = absurd h
  next_deletes work a (op.Read session handle) few h = absurd h
  next_deletes work a (op.Look session k) few h = absurd h
  next_deletes work a (op.Drop k) few h = absurd h
  next_deletes work a (op.Name session handle) few h = absurd h
  next_deletes work a op.Stat few h = absurd h

  is_next : (work : List (Op × Reply)) (a : ℕ) (o : Op) → ComesNext key all work o → IsNext key all work a o
  is_next work a (op.Write session payload handles address) h = h
  is_next work a (op.Root session k handle) h = h
  is_next work a (op.Forget session handle) h = absurd h
  is_next work a (op.Open session) h = absurd h
  is_next work a (op.Close session) h = absurd h
  is_next work a (op.Read session handle) h = absurd h
  is_next work a (op.Look session k) h = absurd h
  is_next work a (op.Drop k) h = absurd h
  is_next work a (op.Name session handle) h = absurd h
  is_next work a op.Delete h = absurd h
  is_next work a op.Stat h = absurd h

  -- an open, broken beginnings, some work, and a tail
  module _ {Q : Type 0} (u first mid at : Shown Q) (n c : ℕ) (few : n ≤ 4) (open_is : Hears u first (op.Open our_session) reply.Ok) (broken : RoundsBroken name key first mid placed n 0 c)
      (work : List (Op × Reply)) (done : AllByRecursion IsWorkDone work) (heard : AreHeard mid at work) (back : List (List ℕ × Option Address)) (front : writes_in (ops_of work) ++ back ≡ all) where
    so_far : at.asked ≡ u.asked ++ op.Open our_session ∷ ops_of (joined broken.rounds ++ work)
    so_far = heard_asked first at (joined broken.rounds ++ work) (heard_then first mid at (joined broken.rounds) work broken.heard heard) ∙ (ap (λ z. z ++ ops_of (joined broken.rounds ++ work)) open_is.asked ∙ append_assoc u.asked (op.Open our_session ∷ []) (ops_of (joined broken.rounds ++ work)))

    with_tail : (v : Shown Q) (tail : List Op) → v.asked ≡ at.asked ++ tail → v.asked ≡ u.asked ++ op.Open our_session ∷ (ops_of (joined broken.rounds ++ work) ++ tail)
    with_tail v tail e = e ∙ (ap (λ z. z ++ tail) so_far ∙ append_assoc u.asked (op.Open our_session ∷ ops_of (joined broken.rounds ++ work)) tail)

    part_with : (tail : List Op) → IsTail key all work tail → (deletes_in (ops_of work) + c) + deletes_in tail ≤ 4 → IsPart key all (op.Open our_session ∷ (ops_of (joined broken.rounds ++ work) ++ tail))
    part_with tail is_tail most =
        let counts : deletes_in (ops_of (joined broken.rounds ++ work)) ≡ deletes_in (ops_of (joined broken.rounds)) + deletes_in (ops_of work) = ap (λ z. deletes_in z) (ops-append (joined broken.rounds) work) ∙ deletes-append (ops_of (joined broken.rounds)) (ops_of work) in
        let tails : deletes_in (ops_of (joined broken.rounds ++ work) ++ tail) ≡ deletes_in (ops_of (joined broken.rounds ++ work)) + deletes_in tail = deletes-append (ops_of (joined broken.rounds ++ work)) tail in
        let one : deletes_in (ops_of (joined broken.rounds)) + 0 ≡ c = broken.deletes in
        let counted : length broken.rounds ≡ n = broken.counted in
        record {
          rounds = broken.rounds;
          few = omega (arith, counted, few);
          broken = broken.broken;
          work = work;
          done = done;
          back = back;
          writes = front;
          tail = tail;
          next = is_tail;
          split = refl;
          deletes = omega (arith, counts, tails, one, most);
        }

    begun : at.began ≡ u.began
    begun = heard_began mid at work heard ∙ (broken.began ∙ open_is.began)

    abbrev last_at : (before : Shown Q) (tail : List Op) → before.asked ≡ at.asked ++ tail → Op → HasAskedLast u
    last_at before tail e o = record { front = op.Open our_session ∷ (ops_of (joined broken.rounds ++ work) ++ tail); last = o; before = before; so_far = with_tail before tail e }

    core_many : (core : CoreFault) → part.Core core ≡ part.TooMany → ⊥
    core_many core e = cc e

    refused_many : (told : Reply) → part.Refused told ≡ part.TooMany → ⊥
    refused_many told e = cc e

    memory_many : part.NoMemory ≡ part.TooMany → ⊥
    memory_many e = cc e

    round_ends : (v : Shown Q) (f : PartFault) → at.ended ≡ None → deletes_in (ops_of work) + c ≤ 4 → IsEnd key all work c at v f → SecondStops name key u v placed f
    round_ends v (part.Core core) going most (o, next, ends) = record {
      ops = op.Open our_session ∷ (ops_of (joined broken.rounds ++ work) ++ o ∷ []);
      asked = with_tail v (o ∷ []) ends.asked;
      part_of = inr (part_with (o ∷ []) (tail_next work c o next) (next_deletes work c o most next));
      began = ends.began ∙ begun;
      ended = ends.ended;
      last = (last_at at [] (sym (append-nil at.asked)) o, ends);
      some = core_many core;
    }
    round_ends v (part.Refused told) going most (o, next, hears, denied) = record {
      ops = op.Open our_session ∷ (ops_of (joined broken.rounds ++ work) ++ o ∷ []);
      asked = with_tail v (o ∷ []) hears.asked;
      part_of = inr (part_with (o ∷ []) (tail_next work c o (is_next work c o next)) (next_deletes work c o most (is_next work c o next)));
      began = hears.began ∙ begun;
      ended = hears.going;
      last = (last_at at [] (sym (append-nil at.asked)) o, hears, denied);
      some = refused_many told;
    }
    round_ends v part.TooMany going most h = absurd h
    round_ends v part.NoMemory going most h = record {
      ops = op.Open our_session ∷ (ops_of (joined broken.rounds ++ work) ++ []);
      asked = with_tail v [] (ap (λ z. z.asked) h ∙ sym (append-nil at.asked));
      part_of = inr (part_with [] tt (omega (arith, most)));
      began = ap (λ z. z.began) h ∙ begun;
      ended = ap (λ z. z.ended) h ∙ going;
      last = tt;
      some = memory_many;
    }

  all_forgets : (hs : List (Op × Reply)) → AllByRecursion IsForgetDone hs → AllByRecursion IsForget (ops_of hs)
  all_forgets [] h = tt
  all_forgets ((op.Forget session handle, told) ∷ hs) h = (h.0.0, all_forgets hs h.1)
  all_forgets ((op.Open session, told) ∷ hs) h = absurd h.0
  all_forgets ((op.Close session, told) ∷ hs) h = absurd h.0
  all_forgets ((op.Write session payload handles address, told) ∷ hs) h = absurd h.0
  all_forgets ((op.Read session handle, told) ∷ hs) h = absurd h.0
  all_forgets ((op.Look session k, told) ∷ hs) h = absurd h.0
  all_forgets ((op.Root session k handle, told) ∷ hs) h = absurd h.0
  all_forgets ((op.Drop k, told) ∷ hs) h = absurd h.0
  all_forgets ((op.Name session handle, told) ∷ hs) h = absurd h.0
  all_forgets ((op.Delete, told) ∷ hs) h = absurd h.0
  all_forgets ((op.Stat, told) ∷ hs) h = absurd h.0

  forgets_last : (xs : List Op) (o : Op) → AllByRecursion IsForget xs → IsForget o → AllByRecursion IsForget (xs ++ o ∷ [])
  forgets_last [] o h k = (k, tt)
  forgets_last (x ∷ xs) o h k = (h.0, forgets_last xs o h.1 k)

  no_deletes : (xs : List Op) → AllByRecursion IsForget xs → deletes_in xs ≡ 0
  no_deletes [] h = refl
  no_deletes (op.Forget session handle ∷ xs) h = no_deletes xs h.1
  no_deletes (op.Open session ∷ xs) h = absurd h.0
  no_deletes (op.Close session ∷ xs) h = absurd h.0
  no_deletes (op.Write session payload handles address ∷ xs) h = absurd h.0
  no_deletes (op.Read session handle ∷ xs) h = absurd h.0
  no_deletes (op.Look session k ∷ xs) h = absurd h.0
  no_deletes (op.Root session k handle ∷ xs) h = absurd h.0
  no_deletes (op.Drop k ∷ xs) h = absurd h.0
  no_deletes (op.Name session handle ∷ xs) h = absurd h.0
  no_deletes (op.Delete ∷ xs) h = absurd h.0
  no_deletes (op.Stat ∷ xs) h = absurd h.0

  next_no_deletes : (work : List (Op × Reply)) (o : Op) (rest : List Op) → ComesNext key all work o → AllByRecursion IsForget rest → deletes_in (o ∷ rest) ≡ 0
  next_no_deletes work (op.Write session payload handles address) rest h f = no_deletes rest f
  next_no_deletes work (op.Root session k handle) rest h f = no_deletes rest f
  next_no_deletes work (op.Forget session handle) rest h f = absurd h
  next_no_deletes work (op.Open session) rest h f = absurd h
  next_no_deletes work (op.Close session) rest h f = absurd h
  next_no_deletes work (op.Read session handle) rest h f = absurd h
  next_no_deletes work (op.Look session k) rest h f = absurd h
  next_no_deletes work (op.Drop k) rest h f = absurd h
  next_no_deletes work (op.Name session handle) rest h f = absurd h
  next_no_deletes work op.Delete rest h f = absurd h
  next_no_deletes work op.Stat rest h f = absurd h

  -- the forgets behind a stale handle
  forgets_end : {Q : Type 0} (u first mid stale v : Shown Q) (n c b : ℕ) (nodes : List Node) (f : PartFault) → n ≤ 4 → Hears u first (op.Open our_session) reply.Ok → (broken : RoundsBroken name key first mid placed n 0 c) → (s : RoundStale name key mid stale placed nodes c b) → b ≤ 4 → ForgetStops stale v f → SecondStops name key u v placed f
  forgets_end u first mid stale v n c b nodes f few open_is broken s most g = go f g.end
    where
      -- the stale operation and the forgets, as they are asked for behind the work
      round : List (Op × Reply)
      round = s.work ++ (s.o, s.told) ∷ g.forgets

      before : List Op
      before = s.o ∷ ops_of g.forgets

      heard : AreHeard first g.mid (joined broken.rounds ++ round)
      heard = heard_then first mid g.mid (joined broken.rounds) round broken.heard (subst (AreHeard mid g.mid) (append_assoc s.work ((s.o, s.told) ∷ []) g.forgets) (heard_then mid stale g.mid (s.work ++ (s.o, s.told) ∷ []) g.forgets s.heard g.heard))

      ops_are : ops_of (joined broken.rounds ++ round) ≡ ops_of (joined broken.rounds ++ s.work) ++ before
      ops_are = ops-append (joined broken.rounds) round ∙ (ap (λ z. ops_of (joined broken.rounds) ++ z) (ops-append s.work ((s.o, s.told) ∷ g.forgets)) ∙ (sym (append_assoc (ops_of (joined broken.rounds)) (ops_of s.work) before) ∙ ap (λ z. z ++ before) (sym (ops-append (joined broken.rounds) s.work))))

      so_far : g.mid.asked ≡ u.asked ++ op.Open our_session ∷ (ops_of (joined broken.rounds ++ s.work) ++ before)
      so_far = heard_asked first g.mid (joined broken.rounds ++ round) heard ∙ (ap (λ z. z ++ ops_of (joined broken.rounds ++ round)) open_is.asked ∙ (append_assoc u.asked (op.Open our_session ∷ []) (ops_of (joined broken.rounds ++ round)) ∙ ap (λ z. u.asked ++ op.Open our_session ∷ z) ops_are))

      begun : g.mid.began ≡ u.began
      begun = heard_began first g.mid (joined broken.rounds ++ round) heard ∙ open_is.began

      part_of : (rest : List Op) → AllByRecursion IsForget rest → IsPart key all (op.Open our_session ∷ (ops_of (joined broken.rounds ++ s.work) ++ s.o ∷ rest))
      part_of rest forgets =
          let counts : deletes_in (ops_of (joined broken.rounds ++ s.work)) ≡ deletes_in (ops_of (joined broken.rounds)) + deletes_in (ops_of s.work) = ap (λ z. deletes_in z) (ops-append (joined broken.rounds) s.work) ∙ deletes-append (ops_of (joined broken.rounds)) (ops_of s.work) in
          let tails : deletes_in (ops_of (joined broken.rounds ++ s.work) ++ s.o ∷ rest) ≡ deletes_in (ops_of (joined broken.rounds ++ s.work)) + deletes_in (s.o ∷ rest) = deletes-append (ops_of (joined broken.rounds ++ s.work)) (s.o ∷ rest) in
          let none : deletes_in (s.o ∷ rest) ≡ 0 = next_no_deletes s.work s.o rest s.next forgets in
          let one : deletes_in (ops_of (joined broken.rounds)) + 0 ≡ c = broken.deletes in
          let two : deletes_in (ops_of s.work) + c ≡ b = s.deletes in
          let counted : length broken.rounds ≡ n = broken.counted in
          let fronts = front s.o s.next in
          record {
            rounds = broken.rounds;
            few = omega (arith, counted, few);
            broken = broken.broken;
            work = s.work;
            done = s.done;
            back = fronts.0;
            writes = fronts.1;
            tail = s.o ∷ rest;
            next = tail_forgets s.work s.o rest s.next forgets;
            split = refl;
            deletes = omega (arith, counts, tails, none, one, two, most);
          }
        where
          front : (o : Op) → ComesNext key all s.work o → (back : List (List ℕ × Option Address)) × (writes_in (ops_of s.work) ++ back ≡ all)
          front (op.Write session payload handles address) h = ((payload, address) ∷ h.1, h.2)
          front (op.Root session k handle) h = ([], append-nil (writes_in (ops_of s.work)) ∙ h.2)
          front (op.Forget session handle) h = absurd h
          front (op.Open session) h = absurd h
          front (op.Close session) h = absurd h
          front (op.Read session handle) h = absurd h
          front (op.Look session k) h = absurd h
          front (op.Drop k) h = absurd h
          front (op.Name session handle) h = absurd h
          front op.Delete h = absurd h
          front op.Stat h = absurd h

      forgot : AllByRecursion IsForget (ops_of g.forgets)
      forgot = all_forgets g.forgets g.done

      with_last : (o : Op) → v.asked ≡ g.mid.asked ++ o ∷ [] → v.asked ≡ u.asked ++ op.Open our_session ∷ (ops_of (joined broken.rounds ++ s.work) ++ s.o ∷ (ops_of g.forgets ++ o ∷ []))
      with_last o e = e ∙ (ap (λ z. z ++ o ∷ []) so_far ∙ (append_assoc u.asked (op.Open our_session ∷ (ops_of (joined broken.rounds ++ s.work) ++ before)) (o ∷ []) ∙ ap (λ z. u.asked ++ op.Open our_session ∷ z) (append_assoc (ops_of (joined broken.rounds ++ s.work)) before (o ∷ []))))

      last_at : Op → HasAskedLast u
      last_at o = record { front = op.Open our_session ∷ (ops_of (joined broken.rounds ++ s.work) ++ before); last = o; before = g.mid; so_far = so_far }

      core_many : (core : CoreFault) → part.Core core ≡ part.TooMany → ⊥
      core_many core e = cc e

      refused_many : (told : Reply) → part.Refused told ≡ part.TooMany → ⊥
      refused_many told e = cc e

      memory_many : part.NoMemory ≡ part.TooMany → ⊥
      memory_many e = cc e

      go : (f : PartFault) → IsForgetEnd g.mid v f → SecondStops name key u v placed f
      go (part.Core core) (o, is, ends) = record {
        ops = op.Open our_session ∷ (ops_of (joined broken.rounds ++ s.work) ++ s.o ∷ (ops_of g.forgets ++ o ∷ []));
        asked = with_last o ends.asked;
        part_of = inr (part_of (ops_of g.forgets ++ o ∷ []) (forgets_last (ops_of g.forgets) o forgot is));
        began = ends.began ∙ begun;
        ended = ends.ended;
        last = (last_at o, ends);
        some = core_many core;
      }
      go (part.Refused told) (o, is, hears, denied) = record {
        ops = op.Open our_session ∷ (ops_of (joined broken.rounds ++ s.work) ++ s.o ∷ (ops_of g.forgets ++ o ∷ []));
        asked = with_last o hears.asked;
        part_of = inr (part_of (ops_of g.forgets ++ o ∷ []) (forgets_last (ops_of g.forgets) o forgot is));
        began = hears.began ∙ begun;
        ended = hears.going;
        last = (last_at o, hears, denied);
        some = refused_many told;
      }
      go part.TooMany h = absurd h
      go part.NoMemory h = record {
        ops = op.Open our_session ∷ (ops_of (joined broken.rounds ++ s.work) ++ before);
        asked = ap (λ z. z.asked) h ∙ so_far;
        part_of = inr (part_of (ops_of g.forgets) forgot);
        began = ap (λ z. z.began) h ∙ begun;
        ended = ap (λ z. z.ended) h ∙ g.calm;
        last = tt;
        some = memory_many;
      }

  second_stops : {Q : Type 0} (u v : Shown Q) (f : PartFault) → u.ended ≡ None → RootStops name key u v placed f → SecondStops name key u v placed f
  second_stops u v f going (unopened c) = open_stops u v f going c
  second_stops u v f going (opened first h (in_round n few mid c b nodes broken r caught)) = round_ends u first mid r.mid n c few h broken r.work r.done r.heard r.back r.writes v f r.calm r.deletes r.end
  second_stops u v f going (opened first h (in_forgets n few mid stale c b nodes broken s most g granted)) = forgets_end u first mid stale v n c b nodes f few h broken s most g

-- ---- the whole

pub first_stopped : {P Q : Type 0} (name : List ℕ → Address) (key : List ℕ) (s t : Shown P) (u : Shown Q) (f : PartFault) (g : CopyFault) → u.ended ≡ None → IsFirst f g → ListingStops key s t f → IfTold s (λ b. IsRootCause (store_now b s) key f) → IsStopped name key s t u u g
first_stopped name key s t u f g going is h cause = record {
  reads = h.ops;
  read = h.asked;
  listing = h.kinds;
  few = h.few;
  first_began = h.began;
  first_ended = (ends f g is h.ended h.last cause).0;
  blocks = [];
  children_first = tt;
  ops = [];
  asked = sym (append-nil u.asked);
  part = inl refl;
  most = omega arith;
  all = λ some. absurd (some refl);
  second_began = refl;
  second_ended = (ends f g is h.ended h.last cause).1;
  last = (ends f g is h.ended h.last cause).2;
}
  where
    ends : (f : PartFault) (g : CopyFault) → IsFirst f g → EndsSo t.ended f → IsToldLast s t f → IfTold s (λ b. IsRootCause (store_now b s) key f) → FirstEnds t.ended g × SecondEnds u.ended g × IsOfLast key s t u u g
    ends (part.Core core) g is e l w = subst (λ z. FirstEnds t.ended z × SecondEnds u.ended z × IsOfLast key s t u u z) (sym is) (e, going, (l.0, l.1, refl))
    ends (part.Refused told) g is e l w = subst (λ z. FirstEnds t.ended z × SecondEnds u.ended z × IsOfLast key s t u u z) (sym is) (e, going, inl ((l.0, l.1, l.2), refl, w))
    ends part.TooMany g is e l w = subst (λ z. FirstEnds t.ended z × SecondEnds u.ended z × IsOfLast key s t u u z) (sym is) (e, going, (refl, refl, w))
    ends part.NoMemory g is e l w = subst (λ z. FirstEnds t.ended z × SecondEnds u.ended z × IsOfLast key s t u u z) (sym is) (e, going, tt)

-- what was listed is all of the key, by this naming
all_named : {P : Type 0} (name : List ℕ → Address) (key : List ℕ) (s : Shown P) (placed : List Placed) → IfTold s (λ b. IsIdle name b s) → IfTold s (λ b. AreAllOf b.name (store_now b s) key (blocks_of b.name [] placed)) → IfTold s (λ b. AreAllOf name (store_now b s) key (blocks_of name [] placed))
all_named name key s placed idle all is = subst (λ (n : List ℕ → Address). AreAllOf n (store_now s.began s) key (blocks_of n [] placed)) (idle is).named (all is)

pub second_stopped : {P Q : Type 0} (name : List ℕ → Address) (key : List ℕ) (s t : Shown P) (u v : Shown Q) (placed : List Placed) (f : PartFault) (g : CopyFault) → u.ended ≡ None → length placed ≤ 4000 → HasListed key s t (length placed) → AreBelow 0 placed → IfTold s (λ b. IsIdle name b s) → IfTold s (λ b. AreAllOf b.name (store_now b s) key (blocks_of b.name [] placed)) → IsSecond f g → RootStops name key u v placed f → IsWriteCause key u f → IsStopped name key s t u v g
second_stopped name key s t u v placed f g going few listed below idle all is h cause =
    let k = second_stops name key placed u v f going h in
    let e = ends f g is k.ended k.last cause in
    record {
      reads = op.Open our_session ∷ (op.Look our_session key ∷ listed.ops);
      read = listed.asked;
      listing = (refl, refl, listed.kinds);
      few = let r : length (reads_in listed.ops) ≡ length placed = listed.reads in omega (arith, r, few);
      first_began = listed.began;
      first_ended = e.0;
      blocks = blocks_of name [] placed;
      children_first = children_first name [] 0 refl placed below;
      ops = k.ops;
      asked = k.asked;
      part = k.part_of;
      most = let long : length (blocks_of name [] placed) ≡ length placed = blocks-length name [] placed in omega (arith, long, few);
      all = λ some. all_named name key s placed idle all;
      second_began = k.began;
      second_ended = e.1;
      last = e.2;
    }
  where
    ends : (f : PartFault) (g : CopyFault) → IsSecond f g → EndsSo v.ended f → IsToldLast u v f → IsWriteCause key u f → FirstEnds t.ended g × SecondEnds v.ended g × IsOfLast key s t u v g
    ends (part.Core core) g is e l w = subst (λ z. FirstEnds t.ended z × SecondEnds v.ended z × IsOfLast key s t u v z) (sym is) (listed.going, e, l)
    ends (part.Refused told) g is e l w = subst (λ z. FirstEnds t.ended z × SecondEnds v.ended z × IsOfLast key s t u v z) (sym is) (listed.going, e, inr ((l.0, l.1, l.2), w))
    ends part.TooMany g is e l w = subst (λ z. FirstEnds t.ended z × SecondEnds v.ended z × IsOfLast key s t u v z) (sym is) (listed.going, e, tt)
    ends part.NoMemory g is e l w = subst (λ z. FirstEnds t.ended z × SecondEnds v.ended z × IsOfLast key s t u v z) (sym is) (listed.going, e, tt)

-- nothing was begun
pub unbegun : {P Q : Type 0} (name : List ℕ → Address) (key : List ℕ) (s : Shown P) (u : Shown Q) → s.ended ≡ None → u.ended ≡ None → IsStopped name key s s u u fault.NoMemory
unbegun name key s u calm going = record {
  reads = [];
  read = sym (append-nil s.asked);
  listing = tt;
  few = omega arith;
  first_began = refl;
  first_ended = calm;
  blocks = [];
  children_first = tt;
  ops = [];
  asked = sym (append-nil u.asked);
  part = inl refl;
  most = omega arith;
  all = λ some. absurd (some refl);
  second_began = refl;
  second_ended = going;
  last = tt;
}

pub is_copied : {P Q : Type 0} (name : List ℕ → Address) (key : List ℕ) (s t : Shown P) (u v : Shown Q) (placed : List Placed) → length placed ≤ 4000 → HasListed key s t (length placed) → AreBelow 0 placed → IfTold s (λ b. IsIdle name b s) → IfTold s (λ b. AreAllOf b.name (store_now b s) key (blocks_of b.name [] placed)) → RootDone name key u v placed → HasCopied name key s t u v (length placed)
is_copied name key s t u v placed few listed below idle reached h =
    let blocks : List Block = blocks_of name [] placed in
    let first : AreChildrenFirst name [] blocks = children_first name [] 0 refl placed below in
    let all : IfTold s (λ b. AreAllOf name (store_now b s) key blocks) = all_named name key s placed idle reached in
    let there : IfTold v (λ c. AreDifferent (map (name_of name) blocks) → AreThere name (store_now c v) key blocks) = λ is different. there_last name (store_now v.began v) key placed first (h.done.done.sane is) (h.done.done.kept is) (h.done.done.mine is different) in
    let copied : IfTold s (λ b. IfTold v (λ c. IsCopied (store_now b s) (store_now c v) key)) = λ is so. copied_from name (store_now s.began s) (store_now v.began v) key blocks (all is) (there so (all is).addresses.once) in
    record {
      blocks = blocks;
      counted = sym (blocks-length name [] placed);
      few = few;
      children_first = first;
      listed = listed;
      written = written_from name key u v placed h;
      all = all;
      there = there;
      copied = copied;
      still = λ is so. copied_later (store_now s.began s) (store_now s.began t) (store_now v.began v) key (listed.keeps is) (copied is so);
    }

pub copied_as : {P Q : Type 0} (name : List ℕ → Address) (key : List ℕ) (s t : Shown P) (u v : Shown Q) (placed seen other : List Placed) (n : ℕ) → length placed ≤ 4000 → HasListed key s t (length placed) → AreBelow 0 placed → IfTold s (λ b. IsIdle name b s) → IfTold s (λ b. AreAllOf b.name (store_now b s) key (blocks_of b.name [] placed)) → seen ≡ placed → RootDone name key u v seen → other ≡ placed → n ≡ length other → HasCopied name key s t u v n
copied_as name key s t u v placed seen other n few listed below idle all same h again count =
    subst (λ z. HasCopied name key s t u v z) (sym (count ∙ ap (λ z. length z) again)) (is_copied name key s t u v placed few listed below idle all (subst (λ z. RootDone name key u v z) same h))

pub stopped_as : {P Q : Type 0} (name : List ℕ → Address) (key : List ℕ) (s t : Shown P) (u v : Shown Q) (placed seen : List Placed) (f : PartFault) (g : CopyFault) → u.ended ≡ None → length placed ≤ 4000 → HasListed key s t (length placed) → AreBelow 0 placed → IfTold s (λ b. IsIdle name b s) → IfTold s (λ b. AreAllOf b.name (store_now b s) key (blocks_of b.name [] placed)) → IsSecond f g → seen ≡ placed → RootStops name key u v seen f → IsWriteCause key u f → IsStopped name key s t u v g
stopped_as name key s t u v placed seen f g going few listed below idle all is same h cause = second_stopped name key s t u v placed f g going few listed below idle all is (subst (λ z. RootStops name key u v z f) same h) cause

-- a store that is idle is so of whatever naming
pub alone_from : {P : Type 0} (name : List ℕ → Address) (s : Shown P) → IfTold s (λ b. IsIdle name b s) → IfTold s (λ b. IsAlone b s)
alone_from name s idle is = let i = idle is in record { none_open = i.none_open; limits = i.limits }
