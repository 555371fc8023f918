-- What loops and exits ask for.
use Rattle.std.proofs.Common.{◌≡◌, ◌∙◌, inl, inr, ℕ, ◌+◌, ◌<◌, ◌≤◌, Bool, zero, suc, List, [], ◌∷◌, ◌++◌, Some, None, Result, Ok, Err, IfErr, IfOk, OnOk, refl, sym, ap, subst, arith, append_assoc, length, map, take, drop, get_or, slice_get, slice_index, slice_set}
use Rattle.std.specs.List.{AllZip}
use Rattle.std.proofs.lemmas.Grind.{common_steps}
use Rattle.std.proofs.lemmas.List.{length-append, map-append}
use Rattle.hs_asking.proofs.SaneLemmas.{answers_sane}
use Rattle.hs_asking.specs.Asked.{IsNamed}
use Rattle.hs_asking.specs.Judged.{IsJudged}
use Rattle.hs_asking.specs.Lawful.{AreAnswersOf}
use Rattle.hs_asking.specs.Shown.{Began, IfTold, Shown, store_now}
use Rattle.hs_copy.proofs.JudgedLemmas.{open_judged}
use Rattle.hs_copy.proofs.NodeLemmas.{is_named, op_is}
use Rattle.hs_copy.proofs.PlaceLemmas.{entered_not, placed_below, places_one}
use Rattle.hs_copy.proofs.RootLemmas.{forgets_more, forgettable, root_done, root_stops, round_stale}
use Rattle.hs_copy.proofs.RoundLemmas.{stop_write, writes_next}
use Rattle.hs_copy.specs.Calls.{CallFails, IsCore}
use Rattle.hs_copy.specs.Listing.{HasListed}
use Rattle.hs_copy.specs.Placing.{AreBelow, IsOrdered, Places}
use Rattle.hs_copy.specs.Hands.{HasHands}
use Rattle.hs_copy.specs.Rounds.{AreBelowOf, AreForgettable, DeleteStops, Forgets, HoldsNodes, HoldsSo, IsLast, IsNamedBy, IsNotStale, IsTriedAs, Matches, PlacedFails, RoundDone, RoundIs, RoundStops, WritesAll, WritesPlaced, write_above}
use Rattle.hs_copy.specs.Rounds.PlacedFails.{failed}
use Rattle.hs_copy.specs.declared.fault.PartFault.{PartFault}
use Rattle.hs_copy.specs.declared.fault.PartFault.TheVariants as part
use Rattle.hs_copy.specs.declared.list.Listed.{Listed}
use Rattle.hs_copy.specs.declared.order.Mark.{Mark}
use Rattle.hs_copy.specs.declared.order.Mark.TheVariants as mark
use Rattle.hs_copy.specs.declared.order.Placed.{Placed}
use Rattle.hs_copy.specs.declared.write.Node.{Node}
use Rattle.hs_limits.specs.Block.{spell}
use Rattle.hs_limits.specs.declared.address.Address.{Address}
use Rattle.hs_limits.specs.declared.spelling.TheConstants.{MOST_BYTES, MOST_POINTERS}
use Rattle.hs_limits.specs.declared.address.Held.{Held}
use Rattle.hs_model.specs.Store.{Session, Store}
use Rattle.hs_model.specs.declared.op.Op.TheVariants as op
use Rattle.hs_model.specs.declared.reply.Reply.TheVariants as reply
use Rattle.hs_tree.specs.Calls.{Hears}
use Rattle.hs_tree.specs.Storing.{IsIdle, our_session}

-- ---- rows

pub take_more : {X : Type 0} (xs : List X) (i : ℕ) (d : X) → i < length xs → take (i + 1) xs ≡ take i xs ++ get_or xs i d ∷ []
take_more [] i d h = absurd (omega (arith, h))
take_more (x ∷ xs) zero d h = refl
take_more (x ∷ xs) (suc i) d h =
    let next : suc i + 1 ≡ suc (i + 1) = omega arith in
    ap (λ k. take k (x ∷ xs)) next ∙ ap (λ z. x ∷ z) (take_more xs i d (omega (arith, h)))

pub split_at : {X : Type 0} (xs : List X) (i : ℕ) → xs ≡ take i xs ++ drop i xs
split_at [] i = grind (arith, common_steps)
split_at (x ∷ xs) zero = refl
split_at (x ∷ xs) (suc i) = ap (λ z. x ∷ z) (split_at xs i)

pub split_with : {X : Type 0} (xs : List X) (i : ℕ) (d : X) → i < length xs → xs ≡ take i xs ++ get_or xs i d ∷ drop (i + 1) xs
split_with xs i d h = split_at xs (i + 1) ∙ (ap (λ z. z ++ drop (i + 1) xs) (take_more xs i d h) ∙ append_assoc (take i xs) (get_or xs i d ∷ []) (drop (i + 1) xs))

pub map_take_more : {X Y Z : Type 0} (f : X → Z) (g : Y → Z) (xs : List X) (ys after : List Y) (i : ℕ) (d : X) (y : Y) → i < length xs → map f (take i xs) ≡ map g ys → f (get_or xs i d) ≡ g y → after ≡ ys ++ y ∷ [] → map f (take (i + 1) xs) ≡ map g after
map_take_more f g xs ys after i d y h e here pushed =
    ap (λ z. map f z) (take_more xs i d h) ∙ (map-append f (take i xs) (get_or xs i d ∷ []) ∙ (ap (λ z. z ++ f (get_or xs i d) ∷ []) e ∙ (ap (λ z. map g ys ++ z ∷ []) here ∙ (sym (map-append g ys (y ∷ [])) ∙ ap (λ z. map g z) (sym pushed)))))

pub err_map : {T : Type 0} (P Q : PartFault → Type 0) (r : Result T PartFault) → ((f : PartFault) → P f → Q f) → IfErr r P → IfErr r Q
err_map P Q (Ok x) h k = tt
err_map P Q (Err f) h k = h f k

-- ---- one call

pub delete_stops : {tells : Type 0} {T : Type 0} (old new : Shown tells) (a : ℕ) (r : Result T PartFault) → IfErr r (λ f. CallFails old new op.Delete f) → IfErr r IsCore → a + 1 ≤ 4 → IfErr r (λ f. DeleteStops old new a f)
delete_stops old new a (Ok x) c k room = tt
delete_stops old new a (Err f) c k room = (k, c, room)

pub may_write : {tells : Type 0} (name : List ℕ → Address) (old : Shown tells) (session : List ℕ) (nodes : List Node) (addresses : List Address) (handles payload bytes : List ℕ) (a : Address) → session ≡ our_session → length nodes ≤ MOST_POINTERS → length bytes ≤ MOST_BYTES → IsNamedBy name session old nodes
    → addresses ≡ map (λ (n : Node). n.address) nodes → handles ≡ map (λ (n : Node). n.handle) nodes → payload ≡ bytes → a ≡ name (spell (record { pointers = addresses; bytes = bytes })) → IsNamed old (op.Write session payload handles (Some a))
may_write name old session nodes addresses handles payload bytes a ours few short named e f g h =
    let there : op.Write session payload handles (Some a) ≡ write_above name our_session nodes bytes = ap (λ z. op.Write z payload handles (Some a)) ours ∙ op_is name our_session bytes nodes addresses handles payload a e f g h in
    subst (IsNamed old) (sym there) (refl, is_named name old nodes bytes few short (subst (λ z. IsNamedBy name z old nodes) ours named))

pub placed_fails : {tells : Type 0} {T : Type 0} (name : List ℕ → Address) (old new : Shown tells) (session : List ℕ) (nodes below : List Node) (q : Placed) (bytes : List ℕ) (r : Result T PartFault) → session ≡ our_session → bytes ≡ q.bytes → AreBelowOf nodes q below → IfErr r (λ f. CallFails old new (write_above name session below bytes) f) → IfErr r (λ f. PlacedFails name old new nodes q f)
placed_fails name old new session nodes below q bytes r ours same are c =
    err_map (λ f. CallFails old new (write_above name session below bytes) f) (λ f. PlacedFails name old new nodes q f) r
    (λ f k. failed below are (subst (λ z. CallFails old new (write_above name our_session below z) f) same (subst (λ z. CallFails old new (write_above name z below bytes) f) ours k))) c

-- ---- blocks in their places

pub places_entered : (block : Listed) (number place : ℕ) (marks after : List Mark) (placed placed' : List Placed) (pointers bytes below : List ℕ) → slice_get marks number ≡ Some mark.Entered → place ≡ length placed → pointers ≡ block.pointers → bytes ≡ block.bytes → map (λ n. slice_get marks n) pointers ≡ map (λ p. Some (mark.At p)) below
    → after ≡ slice_set marks number (mark.At place) → placed' ≡ placed ++ record { number = number; bytes = bytes; below = below } ∷ [] → Places block number marks after placed placed'
places_entered block number place marks after placed placed' pointers bytes below e at pointers_are bytes_are below_are marked pushed =
    let q : Placed = record { number = number; bytes = bytes; below = below } in
    let one : Places block number marks (slice_set marks number (mark.At (length placed))) placed (placed ++ q ∷ []) =
    places_one block number marks mark.Entered placed q e entered_not refl bytes_are (ap (λ z. map (λ n. slice_get marks n) z) (sym pointers_are) ∙ below_are) in
    subst (λ z. Places block number marks after placed z) (sym pushed) (subst (λ z. Places block number marks z placed (placed ++ q ∷ [])) (ap (λ z. slice_set marks number (mark.At z)) (sym at) ∙ sym marked) one)

-- ---- writing

-- who holds nothing holds it since now
fresh_now : (name : List ℕ → Address) (b : Began) (s : Store) (since : ℕ) → HoldsNodes name b s since [] → HoldsNodes name b s (slice_index s.epochs 0) []
fresh_now name b s since h = go h.entries h.matches h.hands
  where
    go : (es : List (ℕ × Held)) → AllZip Matches [] es → HasHands s since h.next es → HoldsNodes name b s (slice_index s.epochs 0) []
    go [] m k = record { named = h.named; limits = h.limits; next = h.next; entries = []; hands = record { sane = k.sane; opened = k.opened; ascend = k.ascend; given = tt; now = omega arith }; matches = tt }
    go (e ∷ es) m k = absurd m

pub begun_all : {tells : Type 0} (name : List ℕ → Address) (old : Shown tells) (nodes : List Node) (a : ℕ) → old.ended ≡ None → nodes ≡ [] → HoldsSo name old [] → WritesAll name old old [] nodes a a
begun_all name old nodes a going empty holds = subst (λ z. WritesAll name old old [] z a a) (sym empty) (record {
  work = [];
  done = tt;
  heard = refl;
  writes = refl;
  names = refl;
  deletes = omega arith;
  going = going;
  began = refl;
  holds = holds;
  fresh = λ is. fresh_now name old.began (store_now old.began old) (holds is).0 (holds is).1;
  mine = λ is d. tt;
})

pub step_written : {tells : Type 0} (name : List ℕ → Address) (old mid new : Shown tells) (placed : List Placed) (nodes seen after : List Node) (a b i : ℕ) (d : Placed) (made : Node) → i < length placed → d ≡ get_or placed i d → length placed ≤ 4000 → length nodes ≡ i → WritesAll name old mid (take i placed) nodes a b → seen ≡ nodes → WritesPlaced name mid new seen d made → after ≡ nodes ++ made ∷ [] → WritesAll name old new (take (i + 1) placed) after a b
step_written name old mid new placed nodes seen after a b i d made within is most counted h same w pushed =
    subst (λ z. WritesAll name old new z after a b) (sym (take_more placed i d within))
    (subst (λ z. WritesAll name old new (take i placed ++ get_or placed i d ∷ []) z a b) (sym pushed) (writes_next name old mid new (take i placed) nodes a b (get_or placed i d) made (omega (arith, within, most, counted)) h (subst (λ z. WritesPlaced name mid new z (get_or placed i d) made) same (subst (λ z. WritesPlaced name mid new seen z made) is w))))

pub step_counted : (nodes after : List Node) (made : Node) (i : ℕ) → length nodes ≡ i → after ≡ nodes ++ made ∷ [] → length after ≡ i + 1
step_counted nodes after made i e pushed =
    let longer : length (nodes ++ made ∷ []) ≡ length nodes + 1 = length-append nodes (made ∷ []) in
    ap (λ z. length z) pushed ∙ (longer ∙ ap (λ z. z + 1) e)

take_whole : {X : Type 0} (xs : List X) (i : ℕ) → length xs ≤ i → take i xs ≡ xs
take_whole [] i h = grind (arith, common_steps)
take_whole (x ∷ xs) zero h = absurd (omega (arith, h))
take_whole (x ∷ xs) (suc i) h = ap (λ z. x ∷ z) (take_whole xs i (omega (arith, h)))

pub root_ok : {tells : Type 0} {T : Type 0} (name : List ℕ → Address) (key : List ℕ) (placed : List Placed) (old mid new : Shown tells) (session : List ℕ) (nodes seen : List Node) (top : Node) (a b : ℕ) (r : Result T PartFault) → session ≡ our_session → seen ≡ nodes → IsLast seen top → WritesAll name old mid placed nodes a b → OnOk r (Hears mid new (op.Root session key top.handle) reply.Ok) → OnOk r (RoundDone name key old new placed a b)
root_ok name key placed old mid new session nodes seen top a b (Ok x) ours same last h k = root_done name key placed old mid new nodes last.front top a b (sym same ∙ last.split) h (subst (λ z. Hears mid new (op.Root z key top.handle) reply.Ok) ours k)
root_ok name key placed old mid new session nodes seen top a b (Err f) ours same last h k = tt

pub root_err : {tells : Type 0} {T : Type 0} (name : List ℕ → Address) (key : List ℕ) (placed : List Placed) (old mid new : Shown tells) (session : List ℕ) (nodes seen : List Node) (top : Node) (a b : ℕ) (r : Result T PartFault) → session ≡ our_session → seen ≡ nodes → IsLast seen top → b ≤ 4 → WritesAll name old mid placed nodes a b → IfErr r (λ f. CallFails mid new (op.Root session key top.handle) f) → IfErr r (λ f. RoundStops name key old new placed nodes a b f)
root_err name key placed old mid new session nodes seen top a b r ours same last few h k =
    err_map (λ f. CallFails mid new (op.Root session key top.handle) f) (λ f. RoundStops name key old new placed nodes a b f) r
    (λ f c. root_stops name key placed old mid new nodes last.front top a b f few (sym same ∙ last.split) h (subst (λ z. CallFails mid new (op.Root z key top.handle) f) ours c)) k

pub forgets_next : {tells : Type 0} (name : List ℕ → Address) (old mid new : Shown tells) (session : List ℕ) (nodes : List Node) (i : ℕ) (d : Node) → session ≡ our_session → i < length nodes → Forgets name old mid (take i nodes) → Hears mid new (op.Forget session (get_or nodes i d).handle) reply.Ok → Forgets name old new (take (i + 1) nodes)
forgets_next name old mid new session nodes i d ours within h k =
    subst (λ z. Forgets name old new z) (sym (take_more nodes i d within)) (forgets_more name old mid new (take i nodes) (get_or nodes i d) h (subst (λ z. Hears mid new (op.Forget z (get_or nodes i d).handle) reply.Ok) ours k))

-- ---- an open

pub no_sessions : (xs : List (List ℕ × Session)) → xs ≡ [] → length xs ≡ 0
no_sessions xs e = ap (λ z. length z) e

pub open_holds : {tells : Type 0} (name : List ℕ → Address) (old new : Shown tells) (session : List ℕ) → session ≡ our_session → IfTold old (λ b. IsIdle name b old) → IfTold old (λ b. AreAnswersOf b old) → Hears old new (op.Open session) reply.Ok → HoldsSo name new []
open_holds {tells} name old new session ours idle law hears = λ is.
    let i : IsIdle name old.began old = idle is in
    let limits : old.began.limits.sessions ≡ 64 = ap (λ l. l.sessions) i.limits in
    let j = subst (λ z. IsJudged old.began.limits (store_now old.began old) (store_now old.began new) (op.Open z) reply.Ok) ours (hears.judged is) in
    let h = open_judged old.began.limits (store_now old.began old) (store_now old.began new) reply.Ok (answers_sane old.began old (law is)) (no_sessions (store_now old.began old).sessions i.none_open) (omega (arith, limits)) j in
    (slice_index (store_now old.began new).epochs 0, subst (λ z. HoldsNodes name z (store_now z new) (slice_index (store_now old.began new).epochs 0) []) (sym hears.began) (record { named = i.named; limits = i.limits; next = 0; entries = []; hands = h.0; matches = tt }))

pub stop_written : {tells : Type 0} (name : List ℕ → Address) (key : List ℕ) (old mid new : Shown tells) (placed : List Placed) (nodes seen : List Node) (a b i : ℕ) (d : Placed) (f : PartFault) → i < length placed → d ≡ get_or placed i d → length placed ≤ 4000 → length nodes ≡ i → b ≤ 4 → WritesAll name old mid (take i placed) nodes a b → seen ≡ nodes → PlacedFails name mid new seen d f → RoundStops name key old new placed nodes a b f
stop_written name key old mid new placed nodes seen a b i d f within is most counted few h same k =
    stop_write name key old mid new (take i placed) (drop (i + 1) placed) placed nodes a b (get_or placed i d) f (split_with placed i d within) few (omega (arith, within, most, counted)) h (subst (λ z. PlacedFails name mid new z (get_or placed i d) f) same (subst (λ z. PlacedFails name mid new seen z f) is k))

-- ---- a whole round, or a stale handle

pub tried_ok : {tells : Type 0} {T : Type 0} (name : List ℕ → Address) (key : List ℕ) (placed : List Placed) (old new : Shown tells) (nodes : List Node) (a b : ℕ) (r : Result T PartFault) (t : Result Bool PartFault) → IsTriedAs r t → OnOk r (RoundDone name key old new placed a b) → IfErr r (λ f. RoundStops name key old new placed nodes a b f) → IfOk t (λ whole. RoundIs name key old new placed nodes a b whole)
tried_ok name key placed old new nodes a b (Ok x) t e done stops = subst (λ z. IfOk z (λ whole. RoundIs name key old new placed nodes a b whole)) (sym e) done
tried_ok name key placed old new nodes a b (Err (part.Refused told)) t (inl e) done stops = subst (λ z. IfOk z (λ whole. RoundIs name key old new placed nodes a b whole)) (sym e.0) (round_stale name key placed old new nodes a b told stops e.1)
tried_ok name key placed old new nodes a b (Err (part.Refused told)) t (inr e) done stops = subst (λ z. IfOk z (λ whole. RoundIs name key old new placed nodes a b whole)) (sym e.0) tt
tried_ok name key placed old new nodes a b (Err (part.Core core)) t e done stops = subst (λ z. IfOk z (λ whole. RoundIs name key old new placed nodes a b whole)) (sym e) tt
tried_ok name key placed old new nodes a b (Err part.TooMany) t e done stops = subst (λ z. IfOk z (λ whole. RoundIs name key old new placed nodes a b whole)) (sym e) tt
tried_ok name key placed old new nodes a b (Err part.NoMemory) t e done stops = subst (λ z. IfOk z (λ whole. RoundIs name key old new placed nodes a b whole)) (sym e) tt

pub tried_err : {T : Type 0} (P : PartFault → Type 0) (r : Result T PartFault) (t : Result Bool PartFault) → IsTriedAs r t → IfErr r P → IfErr t P
tried_err P (Ok x) t e h = subst (λ z. IfErr z P) (sym e) tt
tried_err P (Err (part.Refused told)) t (inl e) h = subst (λ z. IfErr z P) (sym e.0) tt
tried_err P (Err (part.Refused told)) t (inr e) h = subst (λ z. IfErr z P) (sym e.0) h
tried_err P (Err (part.Core core)) t e h = subst (λ z. IfErr z P) (sym e) h
tried_err P (Err part.TooMany) t e h = subst (λ z. IfErr z P) (sym e) h
tried_err P (Err part.NoMemory) t e h = subst (λ z. IfErr z P) (sym e) h

pub tried_caught : {T : Type 0} (r : Result T PartFault) (t : Result Bool PartFault) → IsTriedAs r t → IfErr t IsNotStale
tried_caught (Ok x) t e = subst (λ z. IfErr z IsNotStale) (sym e) tt
tried_caught (Err (part.Refused told)) t (inl e) = subst (λ z. IfErr z IsNotStale) (sym e.0) tt
tried_caught (Err (part.Refused told)) t (inr e) = subst (λ z. IfErr z IsNotStale) (sym e.0) e.1
tried_caught (Err (part.Core core)) t e = subst (λ z. IfErr z IsNotStale) (sym e) tt
tried_caught (Err part.TooMany) t e = subst (λ z. IfErr z IsNotStale) (sym e) tt
tried_caught (Err part.NoMemory) t e = subst (λ z. IfErr z IsNotStale) (sym e) tt

pub forget_of : {tells : Type 0} (name : List ℕ → Address) (old mid new : Shown tells) (session : List ℕ) (nodes : List Node) (i : ℕ) (d : Node) (f : PartFault) → session ≡ our_session → i < length nodes → Forgets name old mid (take i nodes) → CallFails mid new (op.Forget session (get_or nodes i d).handle) f → AreForgettable name old nodes f
forget_of name old mid new session nodes i d f ours within h c =
    forgettable name old mid new (take i nodes) (get_or nodes i d) (drop (i + 1) nodes) nodes f (split_with nodes i d within) h (subst (λ z. CallFails mid new (op.Forget z (get_or nodes i d).handle) f) ours c)

-- ---- what was listed, in order

pub ok_listed : {tells : Type 0} {T : Type 0} (key : List ℕ) (old new : Shown tells) (seen listed : List Listed) (r : Result T PartFault) (items : T → List Placed) → seen ≡ listed → HasListed key old new (length listed) → IfOk r (λ x. IsOrdered seen (items x)) → IfOk r (λ x. HasListed key old new (length (items x)))
ok_listed key old new seen listed (Ok x) items same h o = subst (λ n. HasListed key old new n) (sym (o.counted ∙ ap (λ z. length z) same)) h
ok_listed key old new seen listed (Err f) items same h o = tt

pub ok_below : {T : Type 0} (seen : List Listed) (r : Result T PartFault) (items : T → List Placed) → IfOk r (λ x. IsOrdered seen (items x)) → IfOk r (λ x. AreBelow 0 (items x))
ok_below seen (Ok x) items o = placed_below seen [] 0 refl (items x) o.all
ok_below seen (Err f) items o = tt
