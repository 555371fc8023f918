-- Changes that keep operations and the entries that they asked for in order.
use Rattle.std.proofs.Common.{◌≡◌, ◌∙◌, sym, ap, subst, ◌⊎◌, inl, inr, ℕ, suc, ◌+◌, List, [], ◌∷◌, ◌++◌, length, Option, Some, None, IsSome, refl, arith, slice_get}
use Rattle.std.specs.BTreeMap.{is_at}
use Rattle.std.specs.Map.{lookup}
use Rattle.std.specs.Ordering.{nat_cmp}
use Rattle.hs_awaiting.specs.declared.wait.Wait.TheVariants as wait
use Rattle.hs_awaiting.specs.declared.waiting.Waiting.{Waiting}
use Rattle.hs_awaiting.specs.Words.{change_with}
use Rattle.hs_core_words.specs.Changing.{add_entry_tasks, change_group, end_operation, post, put_operation}
use Rattle.hs_core_words.specs.Looking.{catalogue_of, front_of, group_of, lead_of, operation_of, shape_of}
use Rattle.hs_core_words.specs.Operating.{answer, propose_entry}
use Rattle.hs_core_words.specs.Seeing.{pointers_for, view_for}
use Rattle.hs_core_words.specs.State.{Core}
use Rattle.hs_effects.specs.Room.{HasRoom}
use Rattle.hs_effects.specs.Logged.{AreOnce, HasAsked, IsCalled, IsEntryOf, IsOrderly, IsOwn, IsPending, asked_by}
use Rattle.hs_effects.proofs.GroupLemmas.{IsTaken, at_end, at_front, group_changed, propose_front, taken_or_same}
use Rattle.hs_effects.proofs.LookLemmas.{found_set, gone, number_exact, once_remove, once_set, one_or_other, remove_other, set_other}
use Rattle.hs_effects.proofs.RoomLemmas.{HasPlace, alike_room, committed_room, listed_room, own_place}
use Rattle.hs_effects.proofs.SeatLemmas.{called_on, entry_on, judging_on, own_on, seats_other}
use Rattle.hs_entry.specs.declared.entry.Entry.{Entry}
use Rattle.hs_journal.specs.Order.{session_of}
use Rattle.hs_limits.specs.declared.address.Address.{Address}
use Rattle.hs_limits.specs.declared.limits.Limits.{Limits}
use Rattle.hs_limits.specs.declared.shape.Shape.{Shape}
use Rattle.hs_ops.specs.Speaking.{judging_shard}
use Rattle.hs_model.specs.declared.reply.Reply.{Reply}
use Rattle.hs_ops.specs.Answers.{gained}
use Rattle.hs_replica.specs.Group.{Group, last_number, proposal, propose, take_committed}
use Rattle.hs_tokens.specs.Seats.{Seats, seat_of}

pub some_is : {A : Type 0} (x y : A) → Some x ≡ Some y → x ≡ y
some_is x y e = cc

-- the session of an operation
abbrev pub session_in : Waiting → Option (List ℕ)
session_in w = session_of (Some w.operation.op)

-- no entry that has not taken effect is of this line
abbrev pub IsFree : Core → ℕ → Type 0
IsFree core line = (shard place : ℕ) (entry : Entry) → slice_get (group_of shard core).waiting place ≡ Some entry → asked_by entry ≡ Some line → ⊥

-- ---- changes of one line's operation

-- operations, lists and sessions of two cores, but for the operation of one line and its session
pub record ChangesAt (name : List ℕ → Address) (a b : Core) (line : ℕ) : Type 0 where
  pub limits : b.limits ≡ a.limits
  pub shape : shape_of b ≡ shape_of a
  pub waiting : (g : ℕ) → (group_of g b).waiting ≡ (group_of g a).waiting
  pub front : (g : ℕ) → front_of g b ≡ front_of g a
  pub catalogue : (g : ℕ) → catalogue_of g b ≡ catalogue_of g a
  pub others : (l : ℕ) → (l ≡ line → ⊥) → operation_of l b ≡ operation_of l a
  pub once : AreOnce b.operations
  pub here : (w : Waiting) → operation_of line b ≡ Some w → IsPending name b line w
  pub apart : (m : ℕ) (v w : Waiting) (q : List ℕ) → (m ≡ line → ⊥) → operation_of m a ≡ Some v → operation_of line b ≡ Some w → session_in v ≡ Some q → session_in w ≡ Some q → ⊥
  pub seats : (m : ℕ) (v : Waiting) (q : List ℕ) → (m ≡ line → ⊥) → operation_of m a ≡ Some v → session_in v ≡ Some q → seat_of q b.sessions ≡ seat_of q a.sessions

module _ (name : List ℕ → Address) (a b : Core) (line : ℕ) (its : IsOrderly name a) (free : IsFree a line) (ch : ChangesAt name a b line) where
  was : (l : ℕ) (w : Waiting) → (l ≡ line → ⊥) → operation_of l b ≡ Some w → operation_of l a ≡ Some w
  was l w d e = sym (ch.others l d) ∙ e

  pending_on : (l : ℕ) (w : Waiting) → operation_of l b ≡ Some w → IsPending name b l w
  pending_on l w e = go (one_or_other l line)
    where
      go : (l ≡ line) ⊎ (l ≡ line → ⊥) → IsPending name b l w
      go (inl is) = subst (λ k. IsPending name b k w) (sym is) (ch.here w (subst (λ k. operation_of k b ≡ Some w) is e))
      go (inr d) =
          let old = was l w d e in
          let p = its.pending l w old in
          record {
            of_line = p.of_line;
            counted = p.counted;
            opened = λ q s. subst (λ seat. IsSome seat) (sym (ch.seats l w q d old s)) (p.opened q s);
            called = called_on name a.sessions b.sessions w.operation.op (λ q s. ch.seats l w q d old s) p.called;
            judges = p.judges ∙ sym (judging_on (shape_of a) (shape_of b) a.sessions b.sessions w.operation.op (λ q s. ch.seats l w q d old s) ch.shape);
          }

  alone_on : (l m : ℕ) (v w : Waiting) (q : List ℕ) → operation_of l b ≡ Some v → operation_of m b ≡ Some w → session_in v ≡ Some q → session_in w ≡ Some q → l ≡ m
  alone_on l m v w q e f s t = go (one_or_other l line) (one_or_other m line)
    where
      go : (l ≡ line) ⊎ (l ≡ line → ⊥) → (m ≡ line) ⊎ (m ≡ line → ⊥) → l ≡ m
      go (inl i) (inl j) = i ∙ sym j
      go (inl i) (inr d) = absurd (ch.apart m w v q d (was m w d f) (subst (λ k. operation_of k b ≡ Some v) i e) t s)
      go (inr d) (inl j) = absurd (ch.apart l v w q d (was l v d e) (subst (λ k. operation_of k b ≡ Some w) j f) s t)
      go (inr c) (inr d) = its.alone l m v w q (was l v c e) (was m w d f) s t

  asked_on : (shard place k : ℕ) (entry : Entry) → slice_get (group_of shard b).waiting place ≡ Some entry → asked_by entry ≡ Some k → HasAsked name b shard (front_of shard b + 1 + place) k entry
  asked_on shard place k entry at by = go (one_or_other k line)
    where
      there : slice_get (group_of shard a).waiting place ≡ Some entry
      there = sym (ap (λ es. slice_get es place) (ch.waiting shard)) ∙ at

      go : (k ≡ line) ⊎ (k ≡ line → ⊥) → HasAsked name b shard (front_of shard b + 1 + place) k entry
      go (inl is) = absurd (free shard place entry there (by ∙ ap (λ j. Some j) is))
      go (inr d) =
          let h = its.asked shard place k entry there by in
          record {
            waiting = h.waiting;
            at = ch.others k d ∙ h.at;
            waits = h.waits ∙ ap (λ f. wait.Entry (f + 1 + place)) (sym (ch.front shard));
            judges = h.judges;
            asks = entry_on name a.sessions b.sessions k h.waiting.operation.op entry (λ q s. ch.seats k h.waiting q d h.at s) h.asks;
            own = own_on a.limits b.limits a.sessions b.sessions h.waiting.operation.op (λ q s. ch.seats k h.waiting q d h.at s) ch.limits h.own;
          }

  pub changed_orderly : IsOrderly name b
  changed_orderly = record { once = ch.once; pending = pending_on; alone = alone_on; asked = asked_on; roomy = λ g. alike_room a b g ch.limits (ch.waiting g) (ch.catalogue g) (its.roomy g) }

-- ---- an answer, and a wait

module _ (name : List ℕ → Address) (c : Core) (line : ℕ) (its : IsOrderly name c) (free : IsFree c line) (u : Waiting) (at : operation_of line c ≡ Some u) where
  pub answered_orderly : (w : Waiting) (told : Reply) → w.operation.op ≡ u.operation.op → IsOrderly name (answer line w told c)
  answered_orderly w told same = changed_orderly name c (answer line w told c) line its free (record {
    limits = refl;
    shape = refl;
    waiting = λ g. refl;
    front = λ g. refl;
    catalogue = λ g. refl;
    others = λ l d. remove_other nat_cmp number_exact c.operations line l d;
    once = once_remove line c.operations its.once;
    here = λ v e. absurd (none v e);
    apart = λ m v x q d e f s t. none x f;
    seats = λ m v q d e s. seats_other (gained (view_for w.shard w.operation.op c) (pointers_for w.shard w.operation.op c) w.operation.op) w.operation.op told c.sessions q
        (λ t. d (its.alone m line v u q e at s (ap (λ o. session_of (Some o)) (sym same) ∙ t)));
  })
    where
      none : (v : Waiting) → operation_of line (end_operation line c) ≡ Some v → ⊥
      none v e = cc (sym (gone line c.operations its.once) ∙ e)

  pub waits_orderly : (w : Waiting) → w.operation.op ≡ u.operation.op → w.operation.line ≡ u.operation.line → w.shard ≡ u.shard → IsOrderly name (put_operation line w c)
  waits_orderly w same lines shards = changed_orderly name c (put_operation line w c) line its free (record {
    limits = refl;
    shape = refl;
    waiting = λ g. refl;
    front = λ g. refl;
    catalogue = λ g. refl;
    others = λ l d. set_other nat_cmp number_exact c.operations line l w d;
    once = once_set line c.operations w its.once;
    here = λ v e. subst (λ x. IsPending name (put_operation line w c) line x) (found v e) pending;
    apart = λ m v x q d e f s t. d (its.alone m line v u q e at s (ap (λ o. session_of (Some o)) (sym same) ∙ ap (λ y. session_in y) (found x f) ∙ t));
    seats = λ m v q d e s. refl;
  })
    where
      found : (v : Waiting) → operation_of line (put_operation line w c) ≡ Some v → w ≡ v
      found v e = some_is w v (sym (found_set line c.operations u w at) ∙ e)

      p : IsPending name c line u
      p = its.pending line u at

      pending : IsPending name (put_operation line w c) line w
      pending = record {
        of_line = lines ∙ p.of_line;
        counted = p.counted;
        opened = λ q s. p.opened q (ap (λ o. session_of (Some o)) (sym same) ∙ s);
        called = subst (λ o. IsCalled name c.sessions o) (sym same) p.called;
        judges = shards ∙ p.judges ∙ ap (λ o. judging_shard (shape_of c).shards c.sessions o) (sym same);
      }

-- ---- changes beside

pub record Alike (a b : Core) : Type 0 where
  pub operations : b.operations ≡ a.operations
  pub sessions : b.sessions ≡ a.sessions
  pub limits : b.limits ≡ a.limits
  pub shape : shape_of b ≡ shape_of a
  pub waiting : (g : ℕ) → (group_of g b).waiting ≡ (group_of g a).waiting
  pub front : (g : ℕ) → front_of g b ≡ front_of g a
  pub catalogue : (g : ℕ) → catalogue_of g b ≡ catalogue_of g a

pub alike_both : (a b c : Core) → Alike a b → Alike b c → Alike a c
alike_both a b c p q = record {
  operations = q.operations ∙ p.operations;
  sessions = q.sessions ∙ p.sessions;
  limits = q.limits ∙ p.limits;
  shape = q.shape ∙ p.shape;
  waiting = λ g. q.waiting g ∙ p.waiting g;
  front = λ g. q.front g ∙ p.front g;
  catalogue = λ g. q.catalogue g ∙ p.catalogue g;
}

pub alike_same : (c : Core) → Alike c c
alike_same c = record { operations = refl; sessions = refl; limits = refl; shape = refl; waiting = λ g. refl; front = λ g. refl; catalogue = λ g. refl }

at_same : (a b : Core) (line : ℕ) → b.operations ≡ a.operations → operation_of line b ≡ operation_of line a
at_same a b line e = ap (λ (es : List (ℕ × Waiting)). lookup (is_at (nat_cmp line)) es) e

pending_alike : (name : List ℕ → Address) (a b : Core) (line : ℕ) (w : Waiting) → b.sessions ≡ a.sessions → shape_of b ≡ shape_of a → IsPending name a line w → IsPending name b line w
pending_alike name a b line w e z p = record {
  of_line = p.of_line;
  counted = p.counted;
  opened = λ q s. subst (λ (seats : Seats). IsSome (seat_of q seats)) (sym e) (p.opened q s);
  called = subst (λ (seats : Seats). IsCalled name seats w.operation.op) (sym e) p.called;
  judges =
      p.judges ∙ ap (λ (shape : Shape). judging_shard shape.shards a.sessions w.operation.op) (sym z)
      ∙ ap (λ (seats : Seats). judging_shard (shape_of b).shards seats w.operation.op) (sym e);
}

-- what an operation has asked for, in a core that has the same operations and sessions
pub asked_alike : (name : List ℕ → Address) (a b : Core) (shard number other line : ℕ) (entry : Entry) → b.operations ≡ a.operations → b.sessions ≡ a.sessions → b.limits ≡ a.limits → shape_of b ≡ shape_of a → number ≡ other
    → HasAsked name a shard number line entry → HasAsked name b shard other line entry
asked_alike name a b shard number other line entry e f x z n h = record {
  waiting = h.waiting;
  at = at_same a b line e ∙ h.at;
  waits = h.waits ∙ ap (λ k. wait.Entry k) n;
  judges = h.judges;
  asks = subst (λ (seats : Seats). IsEntryOf name seats line h.waiting.operation.op entry) (sym f) h.asks;
  own = subst (λ (limits : Limits). IsOwn limits b.sessions h.waiting.operation.op) (sym x) (subst (λ (seats : Seats). IsOwn a.limits seats h.waiting.operation.op) (sym f) h.own);
}

-- operations and sessions are the same, and the entries are told
pub with_lists : (name : List ℕ → Address) (a b : Core) → IsOrderly name a → b.operations ≡ a.operations → b.sessions ≡ a.sessions → b.limits ≡ a.limits → shape_of b ≡ shape_of a
    → ((shard place k : ℕ) (entry : Entry) → slice_get (group_of shard b).waiting place ≡ Some entry → asked_by entry ≡ Some k → HasAsked name b shard (front_of shard b + 1 + place) k entry)
    → ((shard : ℕ) → HasRoom b shard) → IsOrderly name b
with_lists name a b its e f x z asked roomy = record {
  once = subst (λ (es : List (ℕ × Waiting)). AreOnce es) (sym e) its.once;
  pending = λ line w at. pending_alike name a b line w f z (its.pending line w (sym (at_same a b line e) ∙ at));
  alone = λ l m v w q x y s t. its.alone l m v w q (sym (at_same a b l e) ∙ x) (sym (at_same a b m e) ∙ y) s t;
  asked = asked;
  roomy = roomy;
}

pub alike_orderly : (name : List ℕ → Address) (a b : Core) → Alike a b → IsOrderly name a → IsOrderly name b
alike_orderly name a b same its = with_lists name a b its same.operations same.sessions same.limits same.shape (λ shard place k entry at by.
    asked_alike name a b shard (front_of shard a + 1 + place) (front_of shard b + 1 + place) k entry same.operations same.sessions same.limits same.shape (ap (λ f. f + 1 + place) (sym (same.front shard)))
    (its.asked shard place k entry (sym (ap (λ es. slice_get es place) (same.waiting shard)) ∙ at) by))
    (λ g. alike_room a b g same.limits (same.waiting g) (same.catalogue g) (its.roomy g))

pub alike_free : (a b : Core) (line : ℕ) → Alike a b → IsFree a line → IsFree b line
alike_free a b line same free = λ shard place entry at by. free shard place entry (sym (ap (λ es. slice_get es place) (same.waiting shard)) ∙ at) by

-- a list changes, but not what waits in it
pub group_alike : (shard : ℕ) (f : Group → Group) (c : Core) → (f (group_of shard c)).waiting ≡ (group_of shard c).waiting → (f (group_of shard c)).front ≡ (group_of shard c).front → Alike c (change_group shard f c)
group_alike shard f c e n = record { operations = refl; sessions = refl; limits = refl; shape = refl; waiting = λ g. waits g (group_changed shard f c g); front = λ g. fronts g (group_changed shard f c g); catalogue = λ g. refl }
  where
    waits : (g : ℕ) → (group_of g (change_group shard f c) ≡ group_of g c) ⊎ ((g ≡ shard) × (group_of g (change_group shard f c) ≡ f (group_of shard c))) → (group_of g (change_group shard f c)).waiting ≡ (group_of g c).waiting
    waits g (inl s) = ap (λ (x : Group). x.waiting) s
    waits g (inr s) = ap (λ (x : Group). x.waiting) s.1 ∙ e ∙ ap (λ k. (group_of k c).waiting) (sym s.0)

    fronts : (g : ℕ) → (group_of g (change_group shard f c) ≡ group_of g c) ⊎ ((g ≡ shard) × (group_of g (change_group shard f c) ≡ f (group_of shard c))) → front_of g (change_group shard f c) ≡ front_of g c
    fronts g (inl s) = ap (λ (x : Group). x.front) s
    fronts g (inr s) = ap (λ (x : Group). x.front) s.1 ∙ n ∙ ap (λ k. front_of k c) (sym s.0)

-- ---- an entry is proposed

place_is : (front more : ℕ) → front + more + 1 ≡ front + 1 + more
place_is front more = omega arith

module _ (name : List ℕ → Address) (shard : ℕ) (entry : Entry) (c : Core) (its : IsOrderly name c) (new : (k : ℕ) → asked_by entry ≡ Some k → HasAsked name c shard (last_number (group_of shard c) + 1) k entry)
    (place_for : HasPlace c shard entry) where
  listed_orderly : IsOrderly name (change_group shard (propose entry) c)
  listed_orderly = with_lists name c (change_group shard (propose entry) c) its refl refl refl refl (λ g place k e at by. go g place k e at by (group_changed shard (propose entry) c g))
      (listed_room shard entry c place_for its.roomy)
    where
      more : (place k : ℕ) (e : Entry) → (slice_get (group_of shard c).waiting place ≡ Some e) ⊎ ((place ≡ length (group_of shard c).waiting) × (entry ≡ e)) → asked_by e ≡ Some k
          → HasAsked name c shard (front_of shard c + 1 + place) k e
      more place k e (inl old) by = its.asked shard place k e old by
      more place k e (inr last) by =
          asked_alike name c c shard (last_number (group_of shard c) + 1) (front_of shard c + 1 + place) k e refl refl refl refl
          (place_is (front_of shard c) (length (group_of shard c).waiting) ∙ ap (λ n. front_of shard c + 1 + n) (sym last.0))
          (subst (λ x. HasAsked name c shard (last_number (group_of shard c) + 1) k x) last.1 (new k (ap (λ x. asked_by x) last.1 ∙ by)))

      go : (g place k : ℕ) (e : Entry) → slice_get (group_of g (change_group shard (propose entry) c)).waiting place ≡ Some e → asked_by e ≡ Some k
          → (group_of g (change_group shard (propose entry) c) ≡ group_of g c) ⊎ ((g ≡ shard) × (group_of g (change_group shard (propose entry) c) ≡ propose entry (group_of shard c)))
          → HasAsked name (change_group shard (propose entry) c) g (front_of g (change_group shard (propose entry) c) + 1 + place) k e
      go g place k e at by (inl same) =
          asked_alike name c (change_group shard (propose entry) c) g (front_of g c + 1 + place) (front_of g (change_group shard (propose entry) c) + 1 + place) k e refl refl refl refl
          (ap (λ (x : Group). x.front + 1 + place) (sym same)) (its.asked g place k e (sym (ap (λ (x : Group). slice_get x.waiting place) same) ∙ at) by)
      go g place k e at by (inr is) =
          let front : front_of g (change_group shard (propose entry) c) ≡ front_of shard c = ap (λ (x : Group). x.front) is.1 ∙ propose_front entry (group_of shard c) in
          let there : slice_get ((group_of shard c).waiting ++ entry ∷ []) place ≡ Some e = sym (ap (λ (x : Group). slice_get x.waiting place) is.1) ∙ at in
          subst (λ j. HasAsked name (change_group shard (propose entry) c) j (front_of g (change_group shard (propose entry) c) + 1 + place) k e) (sym is.0)
          (asked_alike name c (change_group shard (propose entry) c) shard (front_of shard c + 1 + place) (front_of g (change_group shard (propose entry) c) + 1 + place) k e refl refl refl refl
          (ap (λ f. f + 1 + place) (sym front)) (more place k e (at_end (group_of shard c).waiting entry e place there) by))

  -- the jobs and messages are beside
  sent_alike : Alike (change_group shard (propose entry) c) (propose_entry shard entry c)
  sent_alike = go (lead_of shard c)
    where
      sent : Core
      sent = post (proposal entry (group_of shard c)) (change_group shard (propose entry) c)

      go : (lead : Option ℕ) → Alike (change_group shard (propose entry) c) (change_with lead (λ peer. add_entry_tasks peer (last_number (group_of shard c) + 1) entry) sent)
      go None = record { operations = refl; sessions = refl; limits = refl; shape = refl; waiting = λ g. refl; front = λ g. refl; catalogue = λ g. refl }
      go (Some peer) = record { operations = refl; sessions = refl; limits = refl; shape = refl; waiting = λ g. refl; front = λ g. refl; catalogue = λ g. refl }

  pub proposed_orderly : IsOrderly name (propose_entry shard entry c)
  proposed_orderly = alike_orderly name (change_group shard (propose entry) c) (propose_entry shard entry c) sent_alike listed_orderly

-- an entry that no operation asked for
pub own_orderly : (name : List ℕ → Address) (shard : ℕ) (entry : Entry) (c : Core) → asked_by entry ≡ None → IsOrderly name c → IsOrderly name (propose_entry shard entry c)
own_orderly name shard entry c none its = proposed_orderly name shard entry c its (λ k by. absurd (cc (sym none ∙ by))) (own_place c shard entry none)

-- ---- an entry takes effect

next_place : (front place : ℕ) → front + 1 + suc place ≡ front + 1 + 1 + place
next_place front place = omega arith

pub committed_orderly : (name : List ℕ → Address) (shard : ℕ) (c : Core) → IsOrderly name c → IsOrderly name (change_group shard take_committed c)
committed_orderly name shard c its = with_lists name c (change_group shard take_committed c) its refl refl refl refl (λ g place k e at by. go g place k e at by (group_changed shard take_committed c g))
    (committed_room shard c its.roomy)
  where
    as_before : (g place k : ℕ) (e : Entry) → group_of g (change_group shard take_committed c) ≡ group_of g c → slice_get (group_of g (change_group shard take_committed c)).waiting place ≡ Some e → asked_by e ≡ Some k
        → HasAsked name (change_group shard take_committed c) g (front_of g (change_group shard take_committed c) + 1 + place) k e
    as_before g place k e same at by =
        asked_alike name c (change_group shard take_committed c) g (front_of g c + 1 + place) (front_of g (change_group shard take_committed c) + 1 + place) k e refl refl refl refl
        (ap (λ (x : Group). x.front + 1 + place) (sym same)) (its.asked g place k e (sym (ap (λ (x : Group). slice_get x.waiting place) same) ∙ at) by)

    go : (g place k : ℕ) (e : Entry) → slice_get (group_of g (change_group shard take_committed c)).waiting place ≡ Some e → asked_by e ≡ Some k
        → (group_of g (change_group shard take_committed c) ≡ group_of g c) ⊎ ((g ≡ shard) × (group_of g (change_group shard take_committed c) ≡ take_committed (group_of shard c)))
        → HasAsked name (change_group shard take_committed c) g (front_of g (change_group shard take_committed c) + 1 + place) k e
    go g place k e at by (inl same) = as_before g place k e same at by
    go g place k e at by (inr is) = by_taken (taken_or_same (group_of shard c))
      where
        by_taken : (take_committed (group_of shard c) ≡ group_of shard c) ⊎ IsTaken (group_of shard c) (take_committed (group_of shard c))
            → HasAsked name (change_group shard take_committed c) g (front_of g (change_group shard take_committed c) + 1 + place) k e
        by_taken (inl same) = as_before g place k e (is.1 ∙ same ∙ ap (λ j. group_of j c) (sym is.0)) at by
        by_taken (inr t) =
            let front : front_of g (change_group shard take_committed c) ≡ front_of shard c + 1 = ap (λ (x : Group). x.front) is.1 ∙ t.front in
            let there : slice_get (group_of shard c).waiting (suc place) ≡ Some e =
            sym (at_front (group_of shard c).waiting place) ∙ sym (ap (λ es. slice_get es place) t.waiting) ∙ sym (ap (λ (x : Group). slice_get x.waiting place) is.1) ∙ at in
            subst (λ j. HasAsked name (change_group shard take_committed c) j (front_of g (change_group shard take_committed c) + 1 + place) k e) (sym is.0)
            (asked_alike name c (change_group shard take_committed c) shard (front_of shard c + 1 + suc place) (front_of g (change_group shard take_committed c) + 1 + place) k e refl refl refl refl
            (next_place (front_of shard c) place ∙ ap (λ f. f + 1 + place) (sym front)) (its.asked shard (suc place) k e there by))
