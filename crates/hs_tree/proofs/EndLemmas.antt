-- How a storing begins with its session, and ends with its root.
use Rattle.std.proofs.Common.{◌≡◌, ◌⊎◌, inl, inr, ℕ, ◌≤◌, List, [], ◌∷◌, ◌++◌, Option, None, Result, Ok, Err, IfErr, OnErr, OnOk, false, refl, sym, ap, ◌∙◌, subst, length, arith, append-nil, append_assoc, length-append, ◌+◌}
use Rattle.std.specs.List.{AllZip, flat_map}
use Rattle.hs_asking.proofs.AloneLemmas.{opens_alone, roots_alone}
use Rattle.hs_asking.proofs.SaneLemmas.{answers_sane}
use Rattle.hs_asking.specs.Asked.{HasBegun}
use Rattle.hs_asking.specs.Alone.{IsOpened, IsRooted, rooted, unrooted}
use Rattle.hs_asking.specs.Judged.{IsJudged}
use Rattle.hs_asking.specs.Lawful.{AreAnswersOf}
use Rattle.hs_asking.specs.Seats.{HasSeat}
use Rattle.hs_asking.specs.Shown.{IfTold, Began, Shown, store_now}
use Rattle.hs_asking.specs.Staying.{Stays}
use Rattle.hs_asking.specs.Telling.{grants, is_ok}
use Rattle.hs_limits.specs.declared.address.Address.{Address}
use Rattle.hs_limits.specs.declared.address.Held.{Held}
use Rattle.hs_limits.specs.declared.limits.Limits.{Limits}
use Rattle.hs_model.proofs.Members.{Member}
use Rattle.hs_model.specs.Store.{Store}
use Rattle.hs_model.specs.declared.op.Op.{Op}
use Rattle.hs_model.specs.declared.op.Op.TheVariants as op
use Rattle.hs_model.specs.declared.reply.Reply.{Reply}
use Rattle.hs_model.specs.declared.reply.Reply.TheVariants as reply
use Rattle.hs_ports.specs.Source.{IsEnded, before}
use Rattle.hs_tree.proofs.CallLemmas.{few_one, few_then}
use Rattle.hs_tree.proofs.GrowLemmas.{done_more, few_none, few_open, writes-append, zip_length}
use Rattle.hs_tree.proofs.PlantLemmas.{planted_present, planted_stays}
use Rattle.hs_tree.proofs.StepLemmas.{both_at, both_told}
use Rattle.hs_tree.proofs.StopLemmas.{fails_stops, where_any}
use Rattle.hs_tree.specs.Calls.{AsksWithFew, CallFails, Hears, HoldsFew}
use Rattle.hs_tree.specs.Growing.{HasLast, HasPlanted, HasTop, IsGrown, IsOpenAndWork, IsStopped, IsStoreRefusal, KeepsRoots, Matches, Place, as_writes, name_of, tree_below, writes_in}
use Rattle.hs_tree.specs.Storing.{AsksRoot, HasStored, IsIdle, IsUnfinished, IsUnwritten, our_session}
use Rattle.hs_tree.specs.Trees.{IsStored, height, stored_cut, top, tree, tree_of}
use Rattle.hs_tree.specs.declared.fault.TreeFault.{TreeFault}
use Rattle.hs_tree.specs.declared.fault.TreeFault.TheVariants as fault
use Rattle.hs_tree.specs.declared.grow.Node.{Node}

-- ---- the session

-- nothing was asked for
pub nothing_stopped : {tells : Type 0} (key : List ℕ) (old : Shown tells) → old.ended ≡ None → IsStopped our_session key old old fault.NoMemory
nothing_stopped key old going = record { ops = []; asked = sym (append-nil old.asked); kinds = tt; began = refl; ended = going; few = few_none; last = tt; cause = where_any (λ b. Unit {0}) old.began (λ b. tt); kept = λ is key. refl }

module _ {tells : Type 0} (name : List ℕ → Address) (old new : Shown tells) (idle : IfTold old (λ b. IsIdle name b old)) (law : IfTold old (λ b. AreAnswersOf b old)) where
  opened_as : (b : Began) (told : Reply) → IsIdle name b old × AreAnswersOf b old → IsJudged b.limits (store_now b old) (store_now b new) (op.Open our_session) told → IsOpened (store_now b old) (store_now b new) our_session told
  opened_as b told h j =
      let sessions : b.limits.sessions ≡ 64 = ap (λ l. l.sessions) h.0.limits in
      let none : length (store_now b old).sessions ≡ 0 = ap (λ z. length z) h.0.none_open in
      opens_alone b.limits (store_now b old) (store_now b new) our_session told (answers_sane b old h.1) none (omega (arith, sessions)) j

  pub opens_grown : Hears old new (op.Open our_session) reply.Ok → IsGrown name our_session old new [] []
  opens_grown w = record {
    worked = record { ops = []; asked = w.asked; work = tt; writes = refl; done = (new, reply.Ok, w, refl, refl); balance = refl; few = few_none };
    going = w.going;
    began = w.began;
    names = refl;
    told = both_told (λ b. IsIdle name b old × AreAnswersOf b old) (λ b. IsJudged b.limits (store_now b old) (store_now b new) (op.Open our_session) reply.Ok) (λ b. HasPlanted name b (store_now b new) our_session [] [] [] []) old.began new.began w.began
        (λ b h j. record {
          ours = record { named = h.0.named; handles = ap (λ l. l.handles) h.0.limits };
          next = 0;
          fore = [];
          middle = [];
          back = [];
          seat = (opened_as b reply.Ok h j).goes.seat;
          fronts = tt;
          spares = tt;
          lasts = tt;
          planted = tt;
        })
        (both_at (λ b. IsIdle name b old) (λ b. AreAnswersOf b old) old.began idle law) w.judged;
    held = both_told (λ b. IsIdle name b old × AreAnswersOf b old) (λ b. IsJudged b.limits (store_now b old) (store_now b new) (op.Open our_session) reply.Ok) (λ b. AsksWithFew b our_session 81 old new) old.began new.began w.began
        (λ b h j. few_one b our_session 81 old new (op.Open our_session) reply.Ok w (record { next = 0; handles = []; seat = (opened_as b reply.Ok h j).goes.seat; few = omega arith })) (both_at (λ b. IsIdle name b old) (λ b. AreAnswersOf b old) old.began idle law) w.judged;
    roots = both_told (λ b. IsIdle name b old × AreAnswersOf b old) (λ b. IsJudged b.limits (store_now b old) (store_now b new) (op.Open our_session) reply.Ok) (λ b. KeepsRoots (store_now b old) (store_now b new)) old.began new.began w.began
        (λ b h j. (opened_as b reply.Ok h j).goes.roots) (both_at (λ b. IsIdle name b old) (λ b. AreAnswersOf b old) old.began idle law) w.judged;
  }

  abbrev opens_last : HasLast our_session old (op.Open our_session ∷ [])
  opens_last = record { asked = record { front = []; last = op.Open our_session; before = old; so_far = sym (append-nil old.asked) }; split = refl; work = tt; first = λ e. refl }

  pub open_stops : (key : List ℕ) (f : TreeFault) → old.ended ≡ None → CallFails old new (op.Open our_session) f → IsStopped our_session key old new f
  unfolding grants
  open_stops key (fault.Core core) going c = record { ops = op.Open our_session ∷ []; asked = c.asked; kinds = (refl, tt); began = c.began; ended = c.ended; few = few_open our_session [] few_none; last = (opens_last, c); cause = where_any (λ b. Unit {0}) new.began (λ b. tt); kept = where_any (λ b. Unit {0}) new.began (λ b. tt) }
  open_stops key fault.Read going c = absurd c
  open_stops key fault.InputFull going c = absurd c
  open_stops key (fault.Refused told) going c = record {
    ops = op.Open our_session ∷ [];
    asked = c.0.asked;
    kinds = (refl, tt);
    began = c.0.began;
    ended = c.0.going;
    few = few_open our_session [] few_none;
    last = (opens_last, c.0, c.1);
    cause = both_told (λ b. IsIdle name b old × AreAnswersOf b old) (λ b. IsJudged b.limits (store_now b old) (store_now b new) (op.Open our_session) told) (λ b. IsStoreRefusal key told) old.began new.began c.0.began
        (λ b h j. never (opened_as b told h j).told_is c.1) (both_at (λ b. IsIdle name b old) (λ b. AreAnswersOf b old) old.began idle law) c.0.judged;
    kept = both_told (λ b. IsIdle name b old × AreAnswersOf b old) (λ b. IsJudged b.limits (store_now b old) (store_now b new) (op.Open our_session) told) (λ b. KeepsRoots (store_now b old) (store_now b new)) old.began new.began c.0.began
        (λ b h j. (opened_as b told h j).goes.roots) (both_at (λ b. IsIdle name b old) (λ b. AreAnswersOf b old) old.began idle law) c.0.judged;
  }
    where
      never : told ≡ reply.Ok → is_ok told ≡ false → IsStoreRefusal key told
      never e refusal = let k = subst (λ z. is_ok z ≡ false) e refusal in cc k
  open_stops key (fault.NotATree address) going c = absurd c
  open_stops key fault.NoMemory going c = subst (λ z. IsStopped our_session key old z fault.NoMemory) (sym c) (nothing_stopped key old going)

  pub open_unwritten : (f : TreeFault) → CallFails old new (op.Open our_session) f → IsUnwritten old new
  open_unwritten (fault.Core core) c = record { ops = op.Open our_session ∷ []; asked = c.asked; work = (refl, tt); writes = refl }
  open_unwritten fault.Read c = absurd c
  open_unwritten fault.InputFull c = absurd c
  open_unwritten (fault.Refused told) c = record { ops = op.Open our_session ∷ []; asked = c.0.asked; work = (refl, tt); writes = refl }
  open_unwritten (fault.NotATree address) c = absurd c
  open_unwritten fault.NoMemory c = subst (λ z. IsUnwritten old z) (sym c) (record { ops = []; asked = sym (append-nil old.asked); work = tt; writes = refl })

-- ---- the root

module _ {tells : Type 0} (name : List ℕ → Address) (key : List ℕ) (start old new : Shown tells) (n : Node) (file : List ℕ) (h : HasTop name our_session start old n file) where
  abbrev place : Place
  place = record { height = height stored_cut (length file); bytes = file }

  names_top : n.address ≡ name_of name place
  names_top = let e : n.address ∷ [] ≡ name_of name place ∷ [] = h.names in cc e

  rooted_as : {C : Type 0} (b : Began) (told : Reply) → HasPlanted name b (store_now b old) our_session (n ∷ []) [] [] (place ∷ []) → IsJudged b.limits (store_now b old) (store_now b new) (op.Root our_session key n.handle) told
      → ((next : ℕ) (e : ℕ × Held) (es : List (ℕ × Held)) → Member e es → Matches n e → length es ≤ 81 → IsRooted b.limits (store_now b old) (store_now b new) our_session next es key e.1 told → C) → C
  rooted_as {C = C} b told k j f = go k.fore k.fronts k.seat
    where
      go : (fore : List (ℕ × Held)) → AllZip Matches (n ∷ []) fore → HasSeat (store_now b old) our_session k.next (fore ++ (k.middle ++ k.back)) → C
      go [] z seat = absurd z
      go (e ∷ es) z seat =
          let j' : IsJudged b.limits (store_now b old) (store_now b new) (op.Root our_session key e.0) told = subst (λ z. IsJudged b.limits (store_now b old) (store_now b new) (op.Root our_session key z) told) z.0.0 j in
          let none : 0 ≡ length es = zip_length Matches [] es z.1 in
          let middle : 0 ≡ length k.middle = zip_length Matches [] k.middle k.spares in
          let back : 0 ≡ length k.back = zip_length Matches [] k.back k.lasts in
          let inner : length (k.middle ++ k.back) ≡ length k.middle + length k.back = length-append k.middle k.back in
          let all : length (es ++ (k.middle ++ k.back)) ≡ length es + length (k.middle ++ k.back) = length-append es (k.middle ++ k.back) in
          f k.next e (e ∷ es ++ (k.middle ++ k.back)) (inl refl) z.0 (omega (arith, none, middle, back, inner, all)) (roots_alone b.limits (store_now b old) (store_now b new) our_session k.next (e ∷ es ++ (k.middle ++ k.back)) seat key e.0 e.1 told (inl refl) j')

  stored_as : (b : Began) → HasPlanted name b (store_now b old) our_session (n ∷ []) [] [] (place ∷ []) → IsJudged b.limits (store_now b old) (store_now b new) (op.Root our_session key n.handle) reply.Ok → IsStored name (store_now b new) key file
  unfolding top tree_of
  stored_as b k j = rooted_as b reply.Ok k j (λ next e es m z few r. which e es m z r)
    where
      which : {next : ℕ} (e : ℕ × Held) (es : List (ℕ × Held)) → Member e es → Matches n e → IsRooted b.limits (store_now b old) (store_now b new) our_session next es key e.1 reply.Ok → IsStored name (store_now b new) key file
      which e es m z (rooted told root kept same seat stays) =
          let addr : e.1.address ≡ name_of name place = sym z.1 ∙ names_top in
          record {
            root = root;
            kept = kept;
            tops = same ∙ addr;
            tree = planted_present name (store_now b new) (height stored_cut (length file)) file (planted_stays name (store_now b old) (store_now b new) (height stored_cut (length file)) file k.planted.0 (subst (λ a. Stays (store_now b old) (store_now b new) a) addr (stays e m)));
          }
      which e es m z (unrooted (inl told) goes) = cc told
      which e es m z (unrooted (inr told) goes) = cc told

  -- a root gives no handle
  rooted_few : (b : Began) → HasPlanted name b (store_now b old) our_session (n ∷ []) [] [] (place ∷ []) → IsJudged b.limits (store_now b old) (store_now b new) (op.Root our_session key n.handle) reply.Ok → HoldsFew (store_now b new) our_session 81
  rooted_few b k j = rooted_as b reply.Ok k j (λ next e es m z few r. which e es few r)
    where
      which : {next : ℕ} (e : ℕ × Held) (es : List (ℕ × Held)) → length es ≤ 81 → IsRooted b.limits (store_now b old) (store_now b new) our_session next es key e.1 reply.Ok → HoldsFew (store_now b new) our_session 81
      which {next} e es few (rooted told root kept same seat stays) = record { next = next; handles = es; seat = seat; few = few }
      which e es few (unrooted (inl told) goes) = cc told
      which e es few (unrooted (inr told) goes) = cc told

  -- it is asked for last
  asks_root : new.asked ≡ old.asked ++ op.Root our_session key n.handle ∷ [] → HasBegun old new (op.Root our_session key n.handle) → new.began ≡ old.began → AsksRoot name key start new file
  asks_root asked begun began = record { before = old; top = n; grown = h; asked = asked; begun = begun; began = began }

  pub ends_stored : (left left' : Option (List ℕ)) (bytes : ℕ) → bytes ≡ length file → length file ≤ 67108864 → before file left' ≡ left → IsEnded left' → Hears old new (op.Root our_session key n.handle) reply.Ok → HasStored name key start new left left' bytes
  unfolding tree_of
  ends_stored left left' bytes counted fits stream ended w = record {
    file = file;
    counted = counted;
    fits = fits;
    stream = stream;
    ended = ended;
    ops = h.worked.ops;
    handle = n.handle;
    asked = w.asked ∙ (ap (λ z. z ++ op.Root our_session key n.handle ∷ []) h.worked.asked ∙ append_assoc start.asked (op.Open our_session ∷ h.worked.ops) (op.Root our_session key n.handle ∷ []));
    work = h.worked.work;
    writes = h.worked.writes ∙ ap (λ z. as_writes name z) (append-nil (tree stored_cut name (height stored_cut (length file)) file));
    few = h.worked.few;
    held = both_told (λ b. HasPlanted name b (store_now b old) our_session (n ∷ []) [] [] (place ∷ []) × AsksWithFew b our_session 81 start old) (λ b. IsJudged b.limits (store_now b old) (store_now b new) (op.Root our_session key n.handle) reply.Ok) (λ b. AsksWithFew b our_session 81 start new) old.began new.began w.began
        (λ b x y. few_then b our_session 81 start old new x.1 (few_one b our_session 81 old new (op.Root our_session key n.handle) reply.Ok w (rooted_few b x.0 y)))
        (both_at (λ b. HasPlanted name b (store_now b old) our_session (n ∷ []) [] [] (place ∷ [])) (λ b. AsksWithFew b our_session 81 start old) old.began h.told h.held) w.judged;
    going = w.going;
    began = w.began ∙ h.began;
    done = done_more start old new (op.Open our_session ∷ h.worked.ops) (op.Root our_session key n.handle) reply.Ok h.worked.done w refl;
    stored = both_told (λ b. HasPlanted name b (store_now b old) our_session (n ∷ []) [] [] (place ∷ [])) (λ b. IsJudged b.limits (store_now b old) (store_now b new) (op.Root our_session key n.handle) reply.Ok) (λ b. IsStored name (store_now b new) key file) old.began new.began w.began stored_as h.told w.judged;
    root = asks_root w.asked w.begun w.began;
  }

  pub root_stops : (f : TreeFault) → CallFails old new (op.Root our_session key n.handle) f → IsStopped our_session key start new f
  unfolding grants
  root_stops f c = fails_stops name our_session key start old new (n ∷ []) [] [] (flat_map (tree_below name) (place ∷ [])) (place ∷ []) (op.Root our_session key n.handle) f h (refl, refl) (omega arith) (λ b k told j refusal. rooted_as b told k j (λ next e es m z few r. which told refusal r)) c
    where
      which : {limits : Limits} {s t : Store} {next : ℕ} {es : List (ℕ × Held)} {held : Held} (told : Reply) → is_ok told ≡ false → IsRooted limits s t our_session next es key held told → IsStoreRefusal key told × KeepsRoots s t
      which told refusal (rooted e root kept same seat stays) = let k = subst (λ z. is_ok z ≡ false) e refusal in cc k
      which told refusal (unrooted (inl e) goes) = (subst (λ z. IsStoreRefusal key z) (sym e) refl, goes.roots)
      which told refusal (unrooted (inr e) goes) = (subst (λ z. IsStoreRefusal key z) (sym e) tt, goes.roots)

  -- a root was asked for last, or none was
  abbrev RootOf : Option (List ℕ) → Shown tells → List Op → Type 0
  RootOf left' now ops = ((session : List ℕ) × IsOpenAndWork session ops) ⊎ ((taken : List ℕ) × AsksRoot name taken start now file × IsEnded left' × (length file ≤ 67108864))

  -- the whole tree is written before it is asked for
  pub root_unfinished : (left left' : Option (List ℕ)) (f : TreeFault) → length file ≤ 67108864 → before file left' ≡ left → IsEnded left' → CallFails old new (op.Root our_session key n.handle) f → IsUnfinished name start new left left'
  unfolding tree_of
  root_unfinished left left' f fits stream ended c = go f c
    where
      with_ops : (now : Shown tells) (ops : List Op) → now.asked ≡ start.asked ++ ops → writes_in ops ≡ writes_in h.worked.ops → RootOf left' now ops → IsUnfinished name start now left left'
      with_ops now ops asked same root = record {
        file = file;
        stream = stream;
        ops = ops;
        asked = asked;
        back = [];
        writes = append-nil (writes_in ops) ∙ (same ∙ (h.worked.writes ∙ ap (λ z. as_writes name z) (append-nil (tree stored_cut name (height stored_cut (length file)) file))));
        whole = λ front session taken handle e. (refl, ended, fits);
        root = root;
      }

      asked_last : new.asked ≡ old.asked ++ op.Root our_session key n.handle ∷ [] → HasBegun old new (op.Root our_session key n.handle) → new.began ≡ old.began → IsUnfinished name start new left left'
      asked_last e begun began = with_ops new (op.Open our_session ∷ h.worked.ops ++ op.Root our_session key n.handle ∷ [])
          (e ∙ (ap (λ z. z ++ op.Root our_session key n.handle ∷ []) h.worked.asked ∙ append_assoc start.asked (op.Open our_session ∷ h.worked.ops) (op.Root our_session key n.handle ∷ [])))
          (writes-append h.worked.ops (op.Root our_session key n.handle ∷ []) ∙ append-nil (writes_in h.worked.ops))
          (inr (key, asks_root e begun began, ended, fits))

      go : (f : TreeFault) → CallFails old new (op.Root our_session key n.handle) f → IsUnfinished name start new left left'
      go (fault.Core core) c = asked_last c.asked c.begun c.began
      go fault.Read c = absurd c
      go fault.InputFull c = absurd c
      go (fault.Refused told) c = asked_last c.0.asked c.0.begun c.0.began
      go (fault.NotATree address) c = absurd c
      go fault.NoMemory c = subst (λ z. IsUnfinished name start z left left') (sym c) (with_ops old (op.Open our_session ∷ h.worked.ops) h.worked.asked refl (inl (our_session, (refl, h.worked.work))))

-- ---- the same of results

pub begins : {tells : Type 0} → {T : Type 0} (r : Result T TreeFault) (name : List ℕ → Address) (session : List ℕ) (old new : Shown tells) → session ≡ our_session → IfTold old (λ b. IsIdle name b old) → IfTold old (λ b. AreAnswersOf b old) → OnOk r (Hears old new (op.Open session) reply.Ok) → OnOk r (IsGrown name our_session old new [] [])
begins (Ok x) name session old new same idle law h = opens_grown name old new idle law (subst (λ z. Hears old new (op.Open z) reply.Ok) same h)
begins (Err f) name session old new same idle law h = tt

pub begin_stops : {tells : Type 0} → {T : Type 0} (r : Result T TreeFault) (name : List ℕ → Address) (session : List ℕ) (old new : Shown tells) → session ≡ our_session → old.ended ≡ None → IfTold old (λ b. IsIdle name b old) → IfTold old (λ b. AreAnswersOf b old) → IfErr r (λ f. CallFails old new (op.Open session) f) → IfErr r (λ f. (key : List ℕ) → IsStopped our_session key old new f)
begin_stops (Ok x) name session old new same going idle law h = tt
begin_stops (Err f) name session old new same going idle law h = λ key. open_stops name old new idle law key f going (subst (λ z. CallFails old new (op.Open z) f) same h)

pub begin_unwritten : {tells : Type 0} → {T : Type 0} (r : Result T TreeFault) (name : List ℕ → Address) (session : List ℕ) (old new : Shown tells) → session ≡ our_session → IfTold old (λ b. IsIdle name b old) → IfTold old (λ b. AreAnswersOf b old) → IfErr r (λ f. CallFails old new (op.Open session) f) → OnErr r (IsUnwritten old new)
begin_unwritten (Ok x) name session old new same idle law h = tt
begin_unwritten (Err f) name session old new same idle law h = open_unwritten name old new idle law f (subst (λ z. CallFails old new (op.Open z) f) same h)
