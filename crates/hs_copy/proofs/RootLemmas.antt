-- The root that ends a beginning, and the forgets where it was stale.
use Rattle.std.proofs.Common.{◌≡◌, ◌∙◌, inl, inr, ℕ, ◌+◌, ◌≤◌, List, [], ◌∷◌, ◌++◌, None, false, refl, sym, ap, subst, arith, append-nil, append_assoc, length, map}
use Rattle.std.proofs.lemmas.List.{length-append, map-append}
use Rattle.std.specs.List.{AllByRecursion, AllZip}
use Rattle.hs_asking.proofs.HandLemmas.{all_append}
use Rattle.hs_asking.specs.Judged.{IsJudged}
use Rattle.hs_asking.specs.Seats.{IsSane}
use Rattle.hs_asking.specs.Shown.{Began, IfTold, Shown, store_now}
use Rattle.hs_asking.specs.Telling.{grants, is_ok}
use Rattle.hs_copy.proofs.EpochLemmas.{heard_rises}
use Rattle.hs_copy.proofs.HeardLemmas.{deletes-append, heard_more, heard_then, ops-append}
use Rattle.hs_copy.proofs.JudgedLemmas.{forget_judged, root_judged}
use Rattle.hs_copy.proofs.RoundLemmas.{mine_less}
use Rattle.hs_copy.specs.Calls.{CallFails}
use Rattle.hs_copy.specs.Hands.{HasHands, Lessens, RootsSo, rooted, unrooted}
use Rattle.hs_copy.specs.Heard.{AreHeard, joined, ops_of}
use Rattle.hs_copy.specs.Rounds.{AreForgettable, ForgetStops, Forgets, HoldsNodes, HoldsSo, IsEnd, IsForgetEnd, IsMine, IsToldWhy, KeepsLast, Matches, RoundDone, RoundStale, RoundStops, RoundsBroken, WritesAll, blocks_of, epoch_now, names_in, writes_of}
use Rattle.hs_copy.specs.Writing.IsCopyRefusal.{Collides, KeyIsTaken, RootsAreFull, ShardIsFull}
use Rattle.hs_copy.specs.Writing.{ComesNext, IsBroken, IsCopyRefusal, IsForgetDone, IsStale, deletes_in}
use Rattle.hs_copy.specs.declared.fault.PartFault.{PartFault}
use Rattle.hs_copy.specs.declared.fault.PartFault.TheVariants as part
use Rattle.hs_copy.specs.declared.order.Placed.{Placed}
use Rattle.hs_copy.specs.declared.write.Node.{Node}
use Rattle.hs_desk.specs.declared.fault.CoreFault.{CoreFault}
use Rattle.hs_limits.specs.declared.address.Address.{Address}
use Rattle.hs_limits.specs.declared.address.Held.{Held}
use Rattle.hs_model.proofs.Members.{Member, member-append_right}
use Rattle.hs_model.specs.Store.{Store}
use Rattle.hs_model.specs.declared.op.Op.{Op}
use Rattle.hs_model.specs.declared.op.Op.TheVariants as op
use Rattle.hs_model.specs.declared.reply.Reply.{Reply}
use Rattle.hs_model.specs.declared.reply.Reply.TheVariants as reply
use Rattle.hs_tree.proofs.GrowLemmas.{zip_split}
use Rattle.hs_tree.specs.Calls.{Hears}
use Rattle.hs_tree.specs.Growing.{writes_in}
use Rattle.hs_tree.specs.Storing.{our_session}

no_core : (core : CoreFault) (told : Reply) → part.Core core ≡ part.Refused told → ⊥
no_core core told e = cc e

-- the last of some nodes is the last of their names
last_named : (nodes front : List Node) (top : Node) (names : List Address) → nodes ≡ front ++ top ∷ [] → map (λ (n : Node). n.address) nodes ≡ names → names ≡ map (λ (n : Node). n.address) front ++ top.address ∷ []
last_named nodes front top names e f = sym f ∙ (ap (λ z. map (λ (n : Node). n.address) z) e ∙ map-append (λ (n : Node). n.address) front (top ∷ []))

-- the entry of the last
pub record Last (es : List (ℕ × Held)) (top : Node) : Type 0 where
  pub held : Held
  pub among : Member (top.handle, held) es
  pub same : top.address ≡ held.address

last_entry : (nodes front : List Node) (top : Node) (es : List (ℕ × Held)) → nodes ≡ front ++ top ∷ [] → AllZip Matches nodes es → Last es top
last_entry nodes front top es e h =
    let s = zip_split Matches front (top ∷ []) es (subst (λ z. AllZip Matches z es) e h) in
    subst (λ z. Last z top) (sym s.whole) (at s.left s.right s.second)
  where
    at : (left right : List (ℕ × Held)) → AllZip Matches (top ∷ []) right → Last (left ++ right) top
    at left [] m = absurd m
    at left (x ∷ right) m = record { held = x.1; among = member-append_right (top.handle, x.1) left (x ∷ right) (inl (λ i. (m.0.0 i, x.1))); same = m.0.1 }

pub stale_not_refused : (key : List ℕ) (r : Reply) → IsStale r → IsCopyRefusal key r → ⊥
stale_not_refused key r s (Collides e) = subst IsStale e s
stale_not_refused key r s (ShardIsFull e) = subst IsStale e s
stale_not_refused key r s (KeyIsTaken e) = subst IsStale e s
stale_not_refused key r s (RootsAreFull e) = subst IsStale e s

stale_not_ok : (r : Reply) → IsStale r → r ≡ reply.Ok → ⊥
stale_not_ok r s e = subst IsStale e s

taken_not_ok : (r : Reply) (key : List ℕ) → r ≡ reply.KeyTaken key → r ≡ reply.Ok → ⊥
taken_not_ok r key e f = cc (e, f)

full_not_ok : (r : Reply) (n : ℕ) → r ≡ reply.RootsFull n → r ≡ reply.Ok → ⊥
full_not_ok r n e f = cc (e, f)

module _ (name : List ℕ → Address) (key : List ℕ) (placed : List Placed) where
  -- ---- the root

  pub root_done : {tells : Type 0} (old mid new : Shown tells) (nodes front : List Node) (top : Node) (a b : ℕ) → nodes ≡ front ++ top ∷ [] → WritesAll name old mid placed nodes a b → Hears mid new (op.Root our_session key top.handle) reply.Ok → RoundDone name key old new placed a b
  root_done {tells} old mid new nodes front top a b split h hears = record {
    work = h.work;
    done = h.done;
    writes = h.writes;
    handle = top.handle;
    heard = heard_more old mid new h.work (op.Root our_session key top.handle) reply.Ok h.heard hears;
    deletes = h.deletes;
    going = hears.going;
    began = hears.began ∙ h.began;
    kept = λ is. subst (λ z. KeepsLast name (store_now z new) key placed) (sym hears.began) (after is).0;
    sane = λ is. subst (λ z. IsSane (store_now z new)) (sym hears.began) (after is).2;
    mine = λ is d. subst (λ z. AllByRecursion (IsMine name (store_now z new)) (blocks_of name [] placed)) (sym hears.began) (mine_less name (store_now mid.began mid) (store_now mid.began new) (after is).1 (blocks_of name [] placed) (h.mine is d));
  }
    where
      after : tells → KeepsLast name (store_now mid.began new) key placed × Lessens (store_now mid.began mid) (store_now mid.began new) × IsSane (store_now mid.began new)
      after is =
          let holds : HoldsNodes name mid.began (store_now mid.began mid) (h.holds is).0 nodes = (h.holds is).1 in
          let last : Last holds.entries top = last_entry nodes front top holds.entries split holds.matches in
          go holds last (root_judged mid.began.limits (store_now mid.began mid) (store_now mid.began new) (h.holds is).0 holds.next holds.entries holds.hands top.handle last.held key reply.Ok last.among (hears.judged is))
        where
          go : {since : ℕ} (holds : HoldsNodes name mid.began (store_now mid.began mid) since nodes) (last : Last holds.entries top) → RootsSo mid.began.limits (store_now mid.began mid) (store_now mid.began new) since holds.next holds.entries key last.held reply.Ok → KeepsLast name (store_now mid.began new) key placed × Lessens (store_now mid.began mid) (store_now mid.began new) × IsSane (store_now mid.began new)
          go holds last (rooted told_is root kept same hands less) =
              (record { front = map (λ (n : Node). n.address) front; last = top.address; split = last_named nodes front top (names_in name placed) split h.names; root = root; kept = kept; same = same ∙ sym last.same }, less, hands.sane)
          go holds last (unrooted (inl old) hands less) = absurd (stale_not_ok reply.Ok old.stale refl)
          go holds last (unrooted (inr (inl e)) hands less) = absurd (taken_not_ok reply.Ok key e refl)
          go holds last (unrooted (inr (inr e)) hands less) = absurd (full_not_ok reply.Ok mid.began.limits.roots e refl)

  root_refused : (b : Began) (s t : Store) (since : ℕ) (nodes front : List Node) (top : Node) (told : Reply) → nodes ≡ front ++ top ∷ [] → HoldsNodes name b s since nodes → IsJudged b.limits s t (op.Root our_session key top.handle) told → grants (op.Root our_session key top.handle) told ≡ false → HoldsNodes name b t since nodes × IsToldWhy key since t told
  unfolding grants
  root_refused b s t since nodes front top told split h j denied =
      let last : Last h.entries top = last_entry nodes front top h.entries split h.matches in
      go (root_judged b.limits s t since h.next h.entries h.hands top.handle last.held key told last.among j)
    where
      go : {held : Held} → RootsSo b.limits s t since h.next h.entries key held told → HoldsNodes name b t since nodes × IsToldWhy key since t told
      go (rooted told_is root kept same hands less) = let k : is_ok reply.Ok ≡ false = subst (λ z. is_ok z ≡ false) told_is denied in absurd (cc k)
      go (unrooted why hands less) = (
        record { named = h.named; limits = h.limits; next = h.next; entries = h.entries; hands = hands; matches = h.matches },
        elim why [
          | inl old ↦ inl old
          | inr w ↦ inr (elim w [ inl e ↦ KeyIsTaken e | inr e ↦ RootsAreFull (e ∙ ap (λ l. reply.RootsFull l.roots) h.limits) ])
        ],
      )

  pub root_stops : {tells : Type 0} (old mid new : Shown tells) (nodes front : List Node) (top : Node) (a b : ℕ) (f : PartFault) → b ≤ 4 → nodes ≡ front ++ top ∷ [] → WritesAll name old mid placed nodes a b → CallFails mid new (op.Root our_session key top.handle) f → RoundStops name key old new placed nodes a b f
  root_stops {tells} old mid new nodes front top a b f few split h c = go f c
    where
      o : Op
      o = op.Root our_session key top.handle

      comes : ComesNext key (writes_of name placed) h.work o
      comes = (refl, refl, h.writes)

      with_end : (new : Shown tells) (g : PartFault) → IsEnd key (writes_of name placed) h.work a mid new g → new.began ≡ mid.began → ((told : Reply) → g ≡ part.Refused told → new.ended ≡ None) → ((told : Reply) → g ≡ part.Refused told → HoldsSo name new nodes × IfTold new (λ c. IsToldWhy key (epoch_now old) (store_now c new) told)) → RoundStops name key old new placed nodes a b g
      with_end new g end begun going why = record {
        work = h.work;
        done = h.done;
        mid = mid;
        heard = h.heard;
        calm = h.going;
        back = [];
        writes = append-nil (writes_in (ops_of h.work)) ∙ h.writes;
        end = end;
        deletes = let d : deletes_in (ops_of h.work) + a ≡ b = h.deletes in omega (arith, d, few);
        began = begun ∙ h.began;
        exact = λ told e. h.deletes;
        going = going;
        holds = λ told e. (why told e).0;
        cause = λ told e. (why told e).1;
      }

      go : (f : PartFault) → CallFails mid new o f → RoundStops name key old new placed nodes a b f
      go (part.Core core) c = with_end new (part.Core core) (o, comes, c) c.began (λ told e. absurd (no_core core told e)) (λ told e. absurd (no_core core told e))
      go (part.Refused told) c = with_end new (part.Refused told) (o, comes, c.0, c.1) c.0.began (λ r e. c.0.going) (λ r e. ((λ is. (epoch_now old, (left told c is).0)), λ is. subst (λ z. IsToldWhy key (epoch_now old) (store_now new.began new) z) (same_told told r e) (left told c is).1))
        where
          left : (told : Reply) → Hears mid new o told × (grants o told ≡ false) → tells → HoldsNodes name new.began (store_now new.began new) (epoch_now old) nodes × IsToldWhy key (epoch_now old) (store_now new.began new) told
          left told c is =
              subst (λ z. HoldsNodes name z (store_now z new) (epoch_now old) nodes × IsToldWhy key (epoch_now old) (store_now z new) told) (sym c.0.began)
              (root_refused mid.began (store_now mid.began mid) (store_now mid.began new) (epoch_now old) nodes front top told split (h.fresh is) (c.0.judged is) c.1)

          same_told : (told r : Reply) → part.Refused told ≡ part.Refused r → told ≡ r
          same_told told r e = cc e
      go part.TooMany c = absurd c
      go part.NoMemory c = subst (λ z. RoundStops name key old z placed nodes a b part.NoMemory) (sym c) (with_end mid part.NoMemory refl refl (λ told e. absurd (no_memory told e)) (λ told e. absurd (no_memory told e)))
        where
          no_memory : (told : Reply) → part.NoMemory ≡ part.Refused told → ⊥
          no_memory told e = cc e

  -- ---- a stale handle

  pub round_stale : {tells : Type 0} (old new : Shown tells) (nodes : List Node) (a b : ℕ) (told : Reply) → RoundStops name key old new placed nodes a b (part.Refused told) → IsStale told → RoundStale name key old new placed nodes a b
  round_stale old new nodes a b told h s = record {
    work = h.work;
    done = h.done;
    o = h.end.0;
    told = told;
    next = h.end.1;
    stale = s;
    heard = heard_more old h.mid new h.work h.end.0 told h.heard h.end.2;
    deletes = h.exact told refl;
    going = h.going told refl;
    began = h.began;
    holds = h.holds told refl;
    risen = λ is. elim (h.cause told refl is) [ inl old_one ↦ old_one.risen | inr refused ↦ absurd (stale_not_refused key told s refused) ];
  }

-- ---- forgets

forgot_both : (name : List ℕ → Address) (b : Began) (s t : Store) (since : ℕ) (n : Node) (rest : List Node) (told : Reply) → HoldsNodes name b s since (n ∷ rest) → IsJudged b.limits s t (op.Forget our_session n.handle) told → HoldsNodes name b t since rest × (told ≡ reply.Ok)
forgot_both name b s t since n rest told h j = go h.entries h.matches h.hands
  where
    go : (es : List (ℕ × Held)) → AllZip Matches (n ∷ rest) es → HasHands s since h.next es → HoldsNodes name b t since rest × (told ≡ reply.Ok)
    go [] m k = absurd m
    go (e ∷ es) m k =
        let j' : IsJudged b.limits s t (op.Forget our_session e.0) told = subst (λ z. IsJudged b.limits s t (op.Forget our_session z) told) m.0.0 j in
        let r = forget_judged b.limits s t since h.next (e ∷ es) k [] e es told refl j' in
        (record { named = h.named; limits = h.limits; next = h.next; entries = es; hands = r.0.hands; matches = m.1 }, r.1)

forgot_one : (name : List ℕ → Address) (b : Began) (s t : Store) (since : ℕ) (n : Node) (rest : List Node) (told : Reply) → HoldsNodes name b s since (n ∷ rest) → IsJudged b.limits s t (op.Forget our_session n.handle) told → HoldsNodes name b t since rest
forgot_one name b s t since n rest told h j = (forgot_both name b s t since n rest told h j).0

forgot_told : (name : List ℕ → Address) (b : Began) (s t : Store) (since : ℕ) (n : Node) (rest : List Node) (told : Reply) → HoldsNodes name b s since (n ∷ rest) → IsJudged b.limits s t (op.Forget our_session n.handle) told → told ≡ reply.Ok
forgot_told name b s t since n rest told h j = (forgot_both name b s t since n rest told h j).1

pub forgets_none : {tells : Type 0} (name : List ℕ → Address) (old : Shown tells) → old.ended ≡ None → Forgets name old old []
forgets_none name old going = record { forgets = []; done = tt; heard = refl; going = going; began = refl; holds = λ rest h. h }

pub forgets_more : {tells : Type 0} (name : List ℕ → Address) (old mid new : Shown tells) (front : List Node) (n : Node) → Forgets name old mid front → Hears mid new (op.Forget our_session n.handle) reply.Ok → Forgets name old new (front ++ n ∷ [])
forgets_more {tells} name old mid new front n h hears = record {
  forgets = h.forgets ++ (op.Forget our_session n.handle, reply.Ok) ∷ [];
  done = all_append IsForgetDone h.forgets ((op.Forget our_session n.handle, reply.Ok) ∷ []) h.done ((refl, refl), tt);
  heard = heard_more old mid new h.forgets (op.Forget our_session n.handle) reply.Ok h.heard hears;
  going = hears.going;
  began = hears.began ∙ h.began;
  holds = λ rest k is.
      let before = h.holds (n ∷ rest) (subst (λ z. HoldsSo name old z) (append_assoc front (n ∷ []) rest) k) is in
      (before.0, subst (λ z. HoldsNodes name z (store_now z new) before.0 rest) (sym hears.began) (forgot_one name mid.began (store_now mid.began mid) (store_now mid.began new) before.0 n rest reply.Ok before.1 (hears.judged is)));
}

pub forget_stops : {tells : Type 0} (name : List ℕ → Address) (old mid new : Shown tells) (front : List Node) (n : Node) (f : PartFault) → Forgets name old mid front → CallFails mid new (op.Forget our_session n.handle) f → ForgetStops old new f
forget_stops name old mid new front n f h c = record { forgets = h.forgets; done = h.done; mid = mid; heard = h.heard; calm = h.going; end = (go f c).0; began = (go f c).1 ∙ h.began }
  where
    go : (f : PartFault) → CallFails mid new (op.Forget our_session n.handle) f → IsForgetEnd mid new f × (new.began ≡ mid.began)
    go (part.Core core) c = ((op.Forget our_session n.handle, refl, c), c.began)
    go (part.Refused told) c = ((op.Forget our_session n.handle, refl, c.0, c.1), c.0.began)
    go part.TooMany c = absurd c
    go part.NoMemory c = (c, ap (λ z. z.began) c)

-- a forget of one that is held is never refused
pub forgettable : {tells : Type 0} (name : List ℕ → Address) (old mid new : Shown tells) (front : List Node) (n : Node) (rest nodes : List Node) (f : PartFault) → nodes ≡ front ++ n ∷ rest → Forgets name old mid front → CallFails mid new (op.Forget our_session n.handle) f → AreForgettable name old nodes f
unfolding grants
forgettable name old mid new front n rest nodes (part.Core core) split h c = tt
forgettable name old mid new front n rest nodes (part.Refused told) split h c = λ holds is.
    let k = h.holds (n ∷ rest) (subst (λ z. HoldsSo name old z) split holds) is in
    let z = subst (λ z. is_ok z ≡ false) (forgot_told name mid.began (store_now mid.began mid) (store_now mid.began new) k.0 n rest told k.1 (c.0.judged is)) c.1 in
    cc z
forgettable name old mid new front n rest nodes part.TooMany split h c = tt
forgettable name old mid new front n rest nodes part.NoMemory split h c = tt

-- ---- beginnings in a row

joined-more : (rows : List (List (Op × Reply))) (row : List (Op × Reply)) → joined (rows ++ row ∷ []) ≡ joined rows ++ row
joined-more [] row = append-nil row
joined-more (r ∷ rows) row = ap (λ z. r ++ z) (joined-more rows row) ∙ sym (append_assoc r (joined rows) row)

module _ (name : List ℕ → Address) (key : List ℕ) (placed : List Placed) where
  pub broken_none : {tells : Type 0} (old : Shown tells) (a : ℕ) → old.ended ≡ None → RoundsBroken name key old old placed 0 a a
  broken_none old a going = record { rounds = []; counted = refl; broken = tt; heard = refl; deletes = omega arith; going = going; began = refl; holds = λ h. h; risen = λ is. omega arith }

  no_deletes : (hs : List (Op × Reply)) → AllByRecursion IsForgetDone hs → deletes_in (ops_of hs) ≡ 0
  no_deletes [] h = refl
  no_deletes ((op.Forget session handle, told) ∷ hs) h = no_deletes hs h.1
  no_deletes ((op.Open session, told) ∷ hs) h = absurd h.0
  no_deletes ((op.Close session, told) ∷ hs) h = absurd h.0
  no_deletes ((op.Write session payload handles address, told) ∷ hs) h = absurd h.0
  no_deletes ((op.Read session handle, told) ∷ hs) h = absurd h.0
  no_deletes ((op.Look session k, told) ∷ hs) h = absurd h.0
  no_deletes ((op.Root session k handle, told) ∷ hs) h = absurd h.0
  no_deletes ((op.Drop k, told) ∷ hs) h = absurd h.0
  no_deletes ((op.Name session handle, told) ∷ hs) h = absurd h.0
  no_deletes ((op.Delete, told) ∷ hs) h = absurd h.0
  no_deletes ((op.Stat, told) ∷ hs) h = absurd h.0

  pub none_next : (work : List (Op × Reply)) (o : Op) → ComesNext key (writes_of name placed) work o → deletes_in (o ∷ []) ≡ 0
  none_next work (op.Write session payload handles address) h = refl
  none_next work (op.Root session k handle) h = refl
  none_next work (op.Forget session handle) h = absurd h
  none_next work (op.Open session) h = absurd h
  none_next work (op.Close session) h = absurd h
  none_next work (op.Read session handle) h = absurd h
  none_next work (op.Look session k) h = absurd h
  none_next work (op.Drop k) h = absurd h
  none_next work (op.Name session handle) h = absurd h
  none_next work op.Delete h = absurd h
  none_next work op.Stat h = absurd h

  pub broken_more : {tells : Type 0} (old mid stale new : Shown tells) (n a b c : ℕ) (nodes : List Node) → RoundsBroken name key old mid placed n a b → RoundStale name key mid stale placed nodes b c → Forgets name stale new nodes → RoundsBroken name key old new placed (n + 1) a c
  broken_more old mid stale new n a b c nodes h s f =
      let round : List (Op × Reply) = s.work ++ (s.o, s.told) ∷ f.forgets in
      let heard_round : AreHeard mid new round = subst (AreHeard mid new) (append_assoc s.work ((s.o, s.told) ∷ []) f.forgets) (heard_then mid stale new (s.work ++ (s.o, s.told) ∷ []) f.forgets s.heard f.heard) in
      let in_round : deletes_in (ops_of round) ≡ deletes_in (ops_of s.work) = ap (λ z. deletes_in z) (ops-append s.work ((s.o, s.told) ∷ f.forgets)) ∙ (deletes-append (ops_of s.work) (s.o ∷ ops_of f.forgets) ∙ (ap (λ z. deletes_in (ops_of s.work) + z) (deletes-append (s.o ∷ []) (ops_of f.forgets) ∙ add-zero (deletes_in (s.o ∷ [])) (deletes_in (ops_of f.forgets)) (none_next s.work s.o s.next) (no_deletes f.forgets f.done)) ∙ plus-zero (deletes_in (ops_of s.work)))) in
      let whole : deletes_in (ops_of (joined (h.rounds ++ round ∷ []))) ≡ deletes_in (ops_of (joined h.rounds)) + deletes_in (ops_of s.work) = ap (λ z. deletes_in (ops_of z)) (joined-more h.rounds round) ∙ (ap (λ z. deletes_in z) (ops-append (joined h.rounds) round) ∙ (deletes-append (ops_of (joined h.rounds)) (ops_of round) ∙ ap (λ z. deletes_in (ops_of (joined h.rounds)) + z) in_round)) in
      let one : deletes_in (ops_of (joined h.rounds)) + a ≡ b = h.deletes in
      let two : deletes_in (ops_of s.work) + b ≡ c = s.deletes in
      let counted : length h.rounds ≡ n = h.counted in
      let longer : length (h.rounds ++ round ∷ []) ≡ length h.rounds + 1 = length-append h.rounds (round ∷ []) in
      record {
        rounds = h.rounds ++ round ∷ [];
        counted = omega (arith, longer, counted);
        broken = all_append (IsBroken key (writes_of name placed)) h.rounds (round ∷ []) h.broken (record { work = s.work; o = s.o; told = s.told; forgets = f.forgets; split = refl; done = s.done; next = s.next; stale = s.stale; forgot = f.done }, tt);
        heard = subst (AreHeard old new) (sym (joined-more h.rounds round)) (heard_then old mid new (joined h.rounds) round h.heard heard_round);
        deletes = omega (arith, whole, one, two);
        going = f.going;
        began = f.began ∙ (s.began ∙ h.began);
        holds = λ k. f.holds [] (subst (λ z. HoldsSo name stale z) (sym (append-nil nodes)) s.holds);
        risen = λ is.
            let once : epoch_now old + n ≤ epoch_now mid = h.risen is in
            let more : epoch_now mid + 1 ≤ epoch_now stale = s.risen is in
            let on : epoch_now stale ≤ epoch_now new = (heard_rises stale new f.forgets is f.heard (s.holds is).1.hands.sane).low in
            omega (arith, once, more, on);
      }
    where
      add-zero : (x y : ℕ) → x ≡ 0 → y ≡ 0 → x + y ≡ 0
      add-zero x y e f = omega (arith, e, f)

      plus-zero : (x : ℕ) → x + 0 ≡ x
      plus-zero x = omega arith
