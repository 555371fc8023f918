-- Along an event: lines of tails stay open, operations stay parked, and Views are reached as they take effect.
use Rattle.std.proofs.Common.{◌≡◌, ◌∙◌, ap, sym, subst, inl, inr, ℕ, suc, ◌+◌, ◌-◌, ◌<◌, ◌≤◌, Bool, true, false, List, [], ◌∷◌, ◌++◌, Option, Some, None, refl, arith, length, slice_index_or, take}
use Rattle.std.specs.BTreeMap.{is_at}
use Rattle.std.specs.Map.{lookup}
use Rattle.std.specs.Ordering.{nat_cmp}
use Rattle.std.specs.Prelude.{drop, slice_get}
use Rattle.hs_anatomy.proofs.AsideLemmas.{kept_aside, kept_follow, kept_joining, kept_round}
use Rattle.hs_anatomy.proofs.ListLemmas.{lists_aside, lists_follow, lists_joining}
use Rattle.hs_anatomy.proofs.LookLemmas.{found_insert, found_set, insert_other, number_exact, once_insert, one_or_other}
use Rattle.hs_anatomy.specs.Acts.{Act, Acts, Asks, ByCopying, ByEmptying, Copies, Empties, Enters, Falls, FindsDown, Gets, Goes, Hands, IsAside, IsBehind, IsFalling, IsLevel, Joins, Opens, Refuses, SendsRound, TakesEffect, TellsDown, fallen, joined, without_job}
use Rattle.hs_anatomy.specs.Effect.{done_by, taken, told_at_once}
use Rattle.hs_anatomy.specs.Kept.{Kept}
use Rattle.hs_answered.specs.Telling.{Judging}
use Rattle.hs_awaiting.specs.declared.wait.Wait.{Wait}
use Rattle.hs_awaiting.specs.declared.wait.Wait.TheVariants as wait
use Rattle.hs_awaiting.specs.declared.waiting.Waiting.{Waiting}
use Rattle.hs_awaiting.specs.Words.{change_if, change_with, each}
use Rattle.hs_core_words.specs.Asking.{send_round}
use Rattle.hs_core_words.specs.Changing.{add_operation, change_pool, set_rejoin, set_status}
use Rattle.hs_core_words.specs.declared.event.Event.{Event}
use Rattle.hs_core_words.specs.declared.event.Event.TheVariants as event
use Rattle.hs_core_words.specs.Failing.{leave}
use Rattle.hs_core_words.specs.Joining.{begin_joining, joining_peers}
use Rattle.hs_core_words.specs.Looking.{catalogue_of, front_of, group_of, home, lead_of, operation_of, shape_of, status_of}
use Rattle.hs_core_words.specs.Operating.{begin_line, busy_line, go_on_with, take_step, what_holds}
use Rattle.hs_core_words.specs.Records.{HasRecordRoom}
use Rattle.hs_core_words.specs.Seeing.{pointers_for, view_for}
use Rattle.hs_core_words.specs.State.{Core}
use Rattle.hs_core_words.specs.Views.{begin_view, change_view}
use Rattle.hs_effects.proofs.EffectLemmas.{taken_here}
use Rattle.hs_effects.proofs.GroupLemmas.{committed_first}
use Rattle.hs_effects.proofs.SweepLemmas.{ByViews}
use Rattle.hs_effects.specs.Logged.{IsOrderly}
use Rattle.hs_entry.specs.declared.entry.Entry.{Entry}
use Rattle.hs_entry.specs.declared.entry.Entry.TheVariants as kind
use Rattle.hs_fold.proofs.Shards.PlaceLemmas.{other-at}
use Rattle.hs_fold.specs.Runs.Facts.{Catalogue as Folded}
use Rattle.hs_laws.specs.Valid.{IsValid}
use Rattle.hs_limits.specs.declared.limits.PeerStatus.TheVariants.{Good}
use Rattle.hs_members.specs.Members.{Members, has_good, is_good_status}
use Rattle.hs_model.specs.declared.op.Op.{Op}
use Rattle.hs_model.specs.Store.{Store}
use Rattle.hs_ops.specs.declared.step.OpStep.{OpStep}
use Rattle.hs_ops.specs.declared.step.OpStep.TheVariants as step
use Rattle.hs_ops.specs.Operations.{after_step, bytes_step, go_step, new_operation}
use Rattle.hs_ops.specs.Speaking.{judging_shard}
use Rattle.hs_ops.specs.Views.{OpView}
use Rattle.hs_post.specs.Pool.{without}
use Rattle.hs_replica.specs.Group.{Group, commit_front, committed, is_peer, new_group, take_committed}
use Rattle.hs_standing.proofs.Laws.{Entries, Steps}
use Rattle.hs_standing.proofs.OrderLemmas.{again_alike}
use Rattle.hs_standing.proofs.RestsListLemmas.{front_begun, front_goes, front_proposed, front_told, front_viewed}
use Rattle.hs_standing.proofs.StandLemmas.{NoLineWaitsTwice}
use Rattle.hs_standing.specs.Copies.{IsSeated, KnowsItsCopies}
use Rattle.hs_standing.specs.Held.{GivesAddresses}
use Rattle.hs_standing.specs.Legal.{IsStanding, MayStand}
use Rattle.hs_tails.proofs.AlongLemmas.{IsAlong, acts_go_along, falls_front, joins_front}
use Rattle.hs_tails.proofs.FineLemmas.{Fine, IsPlain, NoneYet, Then, ThenFalls, ThenJoins, ThenView, acts_of}
use Rattle.hs_tails.proofs.FirstLemmas.{committed_known, first_is}
use Rattle.hs_tails.proofs.FrontLemmas.{front_open}
use Rattle.hs_tails.proofs.LinedLemmas.{IsLined, Stands, lined_first, lined_moves, lined_other, lined_same, lined_view, lined_viewed}
use Rattle.hs_tails.proofs.MovedLemmas.{MovesAt, WantsNone, begin_wants, carried, proposed_operations, step_waits}
use Rattle.hs_tails.proofs.SameViewLemmas.{HasSameViews, same_follow, same_joining, same_told}
use Rattle.hs_tails.proofs.TellingLemmas.{line_judges, tells_line}
use Rattle.hs_tails.proofs.WaitsLemmas.{waits_open}
use Rattle.hs_tails.specs.Lines.{WaitsToLog, is_viewed}
use Rattle.hs_tails.specs.Tails.{HasOpenLines, IsOpenAt}

same_waiting : (u w : Waiting) → Some u ≡ Some w → u ≡ w
same_waiting u w e = cc e

none_there : (w : Waiting) → None ≡ Some w → ⊥
none_there w e = cc e

get_behind : (xs ys zs : List Entry) (x : Entry) → slice_get (xs ++ ((x ∷ ys) ++ zs)) (length xs) ≡ Some x
get_behind [] ys zs x = refl
get_behind (w ∷ xs) ys zs x = get_behind xs ys zs x

one_left : (k f : ℕ) → f < k → (n : ℕ) × (k - f ≡ suc n)
one_left k f low = (k - f - 1, omega (arith, low))

module _ (views : ByViews) (steps : Steps) (laws : Entries) (alone : NoLineWaitsTwice) (by : Judging) (names : GivesAddresses by.name) (start : Store) (valid : IsValid start) (Rested : ℕ → List Entry → Type 0)
    (s : Core) (e : Event) (may : MayStand by start e s) (seated : IsSeated s) (known : KnowsItsCopies s) (room : HasRecordRoom s) (stands : (cs : List Folded) × IsStanding by start s cs) (first : IsAlong by start Rested s stands.0 (λ g. []) s)
    (g : ℕ) (Tail : List Entry → Type 0) (whole : is_viewed g s ≡ true → (t : List Entry) → Tail t → (more : List Entry) × ((group_of g s).waiting ≡ t ++ more)) where
  abbrev Lined : Core → Type 0
  Lined a = IsLined g s Tail a

  abbrev since : Core → ℕ
  since a = front_of g a - front_of g s

  along : (a : Core) → Acts s (Some e) a → (took : ℕ → List Entry) × IsAlong by start Rested s stands.0 took a
  along a xs = acts_go_along views steps laws by names start valid Rested s e may seated known room stands first a xs

  orderly_at : (a : Core) → Acts s (Some e) a → IsOrderly by.name a
  orderly_at a xs = ((along a xs).1.gone.stands).orderly

  up_at : (a : Core) → Acts s (Some e) a → front_of g s ≤ front_of g a
  up_at a xs = let fronts : front_of g a ≡ front_of g s + length ((along a xs).0 g) = (along a xs).1.gone.fronts g in omega (arith, fronts)

  -- what takes effect next stood there as the event had begun
  stood_at : (a : Core) (xs : Acts s (Some e) a) (number : ℕ) (entry : Entry) → committed (group_of g a) ≡ Some (number, entry) → slice_get (group_of g s).waiting (since a) ≡ Some entry
  stood_at a xs number entry next =
      let r = along a xs in
      let listed = r.1.listed g in
      let fronts : front_of g a ≡ front_of g s + length (r.0 g) = r.1.gone.fronts g in
      let n = one_left (commit_front (group_of g a)) (front_of g a) (committed_known (group_of g a) (number, entry) next) in
      let waits : (group_of g a).waiting ≡ entry ∷ drop 1 (group_of g a).waiting = first_is (group_of g a).waiting entry (committed_first (group_of g a) number entry next).first in
      let some : take (commit_front (group_of g a) - front_of g a) (group_of g a).waiting ≡ entry ∷ take n.0 (drop 1 (group_of g a).waiting) =
      ap (λ k. take k (group_of g a).waiting) n.1 ∙ ap (λ (ws : List Entry). take (suc n.0) ws) waits in
      let place : since a ≡ length (r.0 g) = omega (arith, fronts) in
      ap (λ (ws : List Entry). slice_get ws (since a)) (listed.parts ∙ ap (λ (ws : List Entry). r.0 g ++ (ws ++ listed.rest)) some)
      ∙ ap (λ k. slice_get (r.0 g ++ ((entry ∷ take n.0 (drop 1 (group_of g a).waiting)) ++ listed.rest)) k) place
      ∙ get_behind (r.0 g) (take n.0 (drop 1 (group_of g a).waiting)) listed.rest entry

  -- ---- an entry takes effect

  told_here : (a : Core) (shard number : ℕ) (entry : Entry) → committed (group_of shard a) ≡ Some (number, entry) → front_of shard (told_at_once shard entry a) ≡ front_of shard a + 1
  told_here a shard number entry next =
      front_told shard shard (taken shard entry a) entry (done_by shard entry a).effect ∙ ap (λ (x : Group). x.front) (taken_here shard number entry a next) ∙ (committed_first (group_of shard a) number entry next).taken.front

  told_other : (a : Core) (shard : ℕ) (entry : Entry) → (g ≡ shard → ⊥) → front_of g (told_at_once shard entry a) ≡ front_of g a
  told_other a shard entry apart =
      front_told g shard (taken shard entry a) entry (done_by shard entry a).effect
      ∙ ap (λ (x : Group). x.front) (other-at (new_group (shape_of a) g 0 0 []) a.groups shard g (take_committed (group_of shard a)) apart)

  told_first : (a : Core) (shard number : ℕ) (entry : Entry) → committed (group_of shard a) ≡ Some (number, entry) → g ≡ shard → front_of g (told_at_once shard entry a) ≡ front_of g a + 1
  told_first a shard number entry next is = subst (λ k. front_of k (told_at_once shard entry a) ≡ front_of k a + 1) (sym is) (told_here a shard number entry next)

  stood_first : (a : Core) (xs : Acts s (Some e) a) (shard number : ℕ) (entry : Entry) → committed (group_of shard a) ≡ Some (number, entry) → g ≡ shard → slice_get (group_of g s).waiting (since a) ≡ Some entry
  stood_first a xs shard number entry next is = stood_at a xs number entry (subst (λ k. committed (group_of k a) ≡ Some (number, entry)) (sym is) next)

  lined_effect : (a : Core) (xs : Acts s (Some e) a) (shard number : ℕ) (entry : Entry) → committed (group_of shard a) ≡ Some (number, entry) → Lined a → Lined (told_at_once shard entry a)
  lined_effect a xs shard number entry next h =
      let b : Core = told_at_once shard entry a in
      let tells = tells_line g s Tail by.name a (orderly_at a xs) shard number entry next in
      let judges = line_judges g s Tail by.name a (orderly_at a xs) shard number entry next in
      elim (one_or_other g shard) [
        | inl is ↦ lined_first g s Tail a b shard entry (same_told shard entry a) tells judges is (told_first a shard number entry next is) (up_at a xs) (stood_first a xs shard number entry next is) h
        | inr apart ↦ lined_other g s Tail a b shard entry (same_told shard entry a) tells judges apart (told_other a shard entry apart) h
      ]

  -- ---- operations

  -- one goes on that is not refused by a View: in a view whose View has not taken effect it waits for that
  lined_goes : (a : Core) (xs : Acts s (Some e) a) (line : ℕ) (w : Waiting) → operation_of line a ≡ Some w → HasSameViews a (go_on_with go_step line a) → Lined a → Lined (go_on_with go_step line a)
  lined_goes a xs line w at same h =
      let b : Core = go_on_with go_step line a in
      let v : OpView = view_for w.shard w.operation.op a in
      let taken : OpStep = go_step v w.operation in
      let left : go_on_with go_step line a ≡ take_step line w taken a = ap (λ (o : Option Waiting). change_with o (λ (x : Waiting). take_step line x (go_step (view_for x.shard x.operation.op a) x.operation)) a) at in
      let moves : MovesAt line w.shard ((is_viewed w.shard a ≡ false) × WantsNone taken) a b =
      subst (λ (c : Core). MovesAt line w.shard ((is_viewed w.shard a ≡ false) × WantsNone taken) a c) (sym left) (carried line w a (orderly_at a xs).once w at taken) in
      lined_moves g s Tail a b line w.shard ((is_viewed w.shard a ≡ false) × WantsNone taken) same (front_goes g go_step line a) moves
      (λ viewed parked is. (
      let here : is_viewed w.shard a ≡ false = subst (λ k. is_viewed k a ≡ false) (sym is) viewed in
      (here, subst (λ (x : OpStep). WantsNone x) (sym (step_waits v w.operation here (h.begun line w at))) tt)
      ))
      (λ viewed parked o. (
      let own : w.shard ≡ g = ap (λ (x : Waiting). x.shard) (same_waiting w o.waiting (sym at ∙ o.at)) ∙ o.judges in
      let here : is_viewed w.shard a ≡ false = subst (λ k. is_viewed k a ≡ false) (sym own) viewed in
      let waits : take_step line w taken a ≡ take_step line w step.Wait a = ap (λ (x : OpStep). take_step line w x a) (step_waits v w.operation here (h.begun line w at)) in
      stays_open line w a b at own (left ∙ waits)
      )) h
    where
      stays_open : (line : ℕ) (w : Waiting) (a b : Core) → operation_of line a ≡ Some w → w.shard ≡ g → b ≡ take_step line w step.Wait a → IsOpenAt b g line
      stays_open line w a b at own is =
          let y : Waiting = record w { operation = after_step step.Wait w.operation } in
          let x : Waiting = record y { wait = what_holds y a } in
          record { waiting = x; at = ap (λ (c : Core). operation_of line c) is ∙ found_set line a.operations w x at; judges = own }

  -- one is told bytes: it waits for them, and so its View has taken effect
  lined_hands : (a : Core) (xs : Acts s (Some e) a) (peer number line : ℕ) (bytes : Option (List ℕ)) (w : Waiting) → operation_of line a ≡ Some w → w.wait ≡ wait.Bytes number
      → HasSameViews a (go_on_with (λ v o. bytes_step v bytes (pointers_for w.shard w.operation.op (without_job peer a)) o) line (without_job peer a)) → Lined a
      → Lined (go_on_with (λ v o. bytes_step v bytes (pointers_for w.shard w.operation.op (without_job peer a)) o) line (without_job peer a))
  lined_hands a xs peer number line bytes w at waits same h =
      let x : Core = without_job peer a in
      let taken : OpStep = bytes_step (view_for w.shard w.operation.op x) bytes (pointers_for w.shard w.operation.op x) w.operation in
      let b : Core = go_on_with (λ v o. bytes_step v bytes (pointers_for w.shard w.operation.op x) o) line x in
      let left : b ≡ take_step line w taken x = ap (λ (o : Option Waiting). change_with o (λ (y : Waiting). take_step line y (bytes_step (view_for y.shard y.operation.op x) bytes (pointers_for w.shard w.operation.op x) y.operation)) x) at in
      let moves : MovesAt line w.shard ((is_viewed w.shard x ≡ false) × WantsNone taken) a b =
      subst (λ (c : Core). MovesAt line w.shard ((is_viewed w.shard x ≡ false) × WantsNone taken) a c) (sym left) (moves_from (carried line w x (orderly_at a xs).once w at taken)) in
      lined_moves g s Tail a b line w.shard ((is_viewed w.shard x ≡ false) × WantsNone taken) same (front_goes g (λ v o. bytes_step v bytes (pointers_for w.shard w.operation.op x) o) line x) moves
      (λ viewed parked is. absurd (never parked is))
      (λ viewed parked o. absurd (never parked (ap (λ (y : Waiting). y.shard) (same_waiting w o.waiting (sym at ∙ o.at)) ∙ o.judges))) h
    where
      never : ((k : ℕ) (u : Waiting) → operation_of k a ≡ Some u → u.shard ≡ g → WaitsToLog u.wait) → w.shard ≡ g → ⊥
      never parked is = subst (λ (x : Wait). WaitsToLog x) waits (parked line w at is)

      moves_from : {sh : ℕ} {logs : Type 0} {c : Core} → MovesAt line sh logs (without_job peer a) c → MovesAt line sh logs a c
      moves_from m = record { others = m.others; own = m.own }

  -- a client's line is begun, which is new
  lined_asks : (a : Core) (xs : Acts s (Some e) a) (line : ℕ) (o : Op) → operation_of line a ≡ None → HasSameViews a (begin_line line o a) → Lined a → Lined (begin_line line o a)
  lined_asks a xs line o new same h =
      let begun : Core = record a { progress = record a.progress { last_line = line } } in
      let shard : ℕ = judging_shard (shape_of a).shards a.sessions o in
      let w : Waiting = record { operation = new_operation line o; shard = shard; wait = wait.View } in
      let v : OpView = record (view_for shard o begun) { busy = busy_line o a } in
      let added : Core = add_operation line w begun in
      let taken : OpStep = go_step v w.operation in
      let there : operation_of line added ≡ Some w = found_insert line a.operations w in
      let moves = carried line w added (once_insert line a.operations w new (orderly_at a xs).once) w there taken in
      lined_moves g s Tail a (begin_line line o a) line shard ((is_viewed shard added ≡ false) × WantsNone taken) same (front_begun g line o a)
      (record { others = λ k apart. moves.others k apart ∙ insert_other nat_cmp number_exact a.operations line k w apart; own = moves.own })
      (λ viewed parked is. (let here : is_viewed shard a ≡ false = subst (λ k. is_viewed k a ≡ false) (sym is) viewed in (here, begin_wants v line o here)))
      (λ viewed parked x. absurd (none_there x.waiting (sym new ∙ x.at))) h

  -- ---- each act

  new_line : (line : ℕ) (o : Op) → Some e ≡ Some (event.Line line o) → operation_of line s ≡ None
  new_line line o is = (subst (λ x. MayStand by start x s) (event_is (event.Line line o) is) may).fresh.new
    where
      event_is : (x : Event) → Some e ≡ Some x → e ≡ x
      event_is x is = cc is

  act_lined : (a b : Core) (xs : Acts s (Some e) a) (x : Act s (Some e) a b) → IsPlain x → HasSameViews a b → Lined a → Lined b
  act_lined a b xs (IsAside x) plain same h = lined_same g s Tail a b same ((lists_aside x).front g) (ap (λ (k : Kept). k.operations) (kept_aside x)) h
  act_lined a b xs (Refuses now refusal is why) plain same h = lined_same g s Tail a b same refl refl h
  act_lined a b xs (TellsDown from peer is) plain same h = lined_same g s Tail a b same refl refl h
  act_lined a b xs (FindsDown peer is bad) plain same h = lined_same g s Tail a b same refl refl h
  act_lined a b xs (Asks line o begins is) plain same h = lined_asks a xs line o (ap (λ (c : Core). operation_of line c) begins ∙ new_line line o is) same h
  act_lined a b xs (Goes line w at idle) plain same h = lined_goes a xs line w at same h
  act_lined a b xs (Hands peer number line bytes w k) plain same h = lined_hands a xs peer number line bytes w k.at k.waits same h
  act_lined a b xs (TakesEffect shard number entry next) plain same h = lined_effect a xs shard number entry next h
  act_lined a b xs (Enters shard urged due) plain same h =
      let entry : Entry = kind.Enter 0 ((catalogue_of shard a).epoch + 1) in
      lined_same g s Tail a b same (front_proposed g shard entry a) (proposed_operations shard entry a) h
  act_lined a b xs (Gets number from to epoch round total deltas k new) plain same h =
      let entry : Entry = kind.Got from epoch round total deltas in
      lined_same g s Tail a b same (front_proposed g to entry (change_pool (without number) a)) (proposed_operations to entry (change_pool (without number) a)) h
  act_lined a b xs (SendsRound back shard peer k) plain same h = lined_same g s Tail a b same (round_front back shard a) (ap (λ (k : Kept). k.operations) (kept_round back shard a)) h
    where
      round_front : (back shard : ℕ) (c : Core) → front_of g (send_round back shard c) ≡ front_of g c
      round_front back shard c = (again_alike back shard c).front g
  act_lined a b xs (Falls peer k) plain same h = absurd plain
  act_lined a b xs (Joins peer k) plain same h = absurd plain
  act_lined a b xs (Opens shard is good) plain same h = absurd plain

  -- ---- views

  -- before anything took effect each tail's lines are open
  tails_open : (a : Core) (xs : Acts s (Some e) a) → front_of g a ≡ front_of g s → (group_of g a).waiting ≡ (group_of g s).waiting → Lined a → (t : List Entry) → Tail t → HasOpenLines a g t
  tails_open a xs front waiting h t of = by_state h.state
    where
      none : since a ≡ 0
      none = omega (arith, front)

      of_list : is_viewed g s ≡ true → HasOpenLines a g t
      of_list viewed =
          let m = whole viewed t of in
          front_open a g t m.0 (subst (λ es. HasOpenLines a g es) (waiting ∙ m.1) (waits_open alone by.name a (orderly_at a xs) g))

      by_state : Stands g s Tail a → HasOpenLines a g t
      by_state (inl (v, inl k)) = of_list k.0
      by_state (inl (v, inr k)) = let low = k.1.0 in absurd (omega (arith, low, none))
      by_state (inr k) = subst (λ n. HasOpenLines a g (drop n t)) none (k.1.1 t of (ap (λ n. take n t) none ∙ sym (ap (λ n. take n (group_of g s).waiting) none)))

  lined_change : (shard : ℕ) (c : Core) → since c ≡ 0 → ((t : List Entry) → Tail t → HasOpenLines c g t) → Lined c → Lined (change_view shard c)
  lined_change shard c none lines h = go (has_good shard c.members)
    where
      go : (b : Bool) → Lined (change_if b (begin_view shard) c)
      go true = lined_view g s Tail shard c (front_viewed shard c g) (λ is. (none, lines)) h
      go false = h

  -- lines are open where the operations are the same
  open_same : (a b : Core) → b.operations ≡ a.operations → (t : List Entry) → HasOpenLines a g t → HasOpenLines b g t
  open_same a b same t h = record { asked = λ at line x there asks. (let o = h.asked at line x there asks in record { waiting = o.waiting; at = ap (λ (es : List (ℕ × Waiting)). lookup (is_at (nat_cmp line)) es) same ∙ o.at; judges = o.judges }); once = h.once }

  lined_fallen : (a : Core) (xs : Acts s (Some e) a) (peer : ℕ) → IsFalling s (Some e) a peer → Lined a → Lined (fallen peer a)
  lined_fallen a xs peer k h = again (is_peer peer (lead_of (home peer a) a)) (viewed (is_good_status (status_of peer a)))
    where
      front : front_of g a ≡ front_of g s
      front = falls_front s e seated known a k.lists k.members g

      waiting : (group_of g a).waiting ≡ (group_of g s).waiting
      waiting =
          ap (λ (x : Group). x.waiting) (ap (λ (gs : List Group). slice_index_or gs g (new_group (shape_of a) g 0 0 [])) k.lists ∙ ap (λ (m : Members). slice_index_or s.groups g (new_group m.shape g 0 0 [])) k.members)

      none_left : since (leave peer a) ≡ 0
      none_left = let same : front_of g (leave peer a) ≡ front_of g s = front in omega (arith, same)

      left : Lined (leave peer a)
      left = lined_same g s Tail a (leave peer a) (record { viewed = refl; views = λ j. refl }) refl refl h

      viewed : (b : Bool) → Lined (change_if b (change_view (home peer a)) (leave peer a))
      viewed true = lined_change (home peer a) (leave peer a) none_left (λ t of. open_same a (leave peer a) refl t (tails_open a xs front waiting h t of)) left
      viewed false = left

      again : (b : Bool) {x : Core} → Lined x → Lined (change_if b (λ core. each (joining_peers (home peer a) core) begin_joining core) x)
      again true {x} p =
          let ps : List ℕ = joining_peers (home peer a) x in
          lined_same g s Tail x (each ps begin_joining x) (same_joining ps x) ((lists_joining ps x).front g) (ap (λ (y : Kept). y.operations) (kept_joining ps x)) p
      again false {x} p = p

  lined_joined : (a : Core) (xs : Acts s (Some e) a) (peer : ℕ) → IsLevel s (Some e) a peer → Lined a → Lined (joined peer a)
  lined_joined a xs peer k h =
      let good : Core = set_rejoin peer None (set_status peer Good a) in
      let viewed : Core = change_view (home peer a) good in
      let none_good : since good ≡ 0 = (let same : front_of g good ≡ front_of g s = front in omega (arith, same)) in
      let h_good : Lined good = lined_same g s Tail a good (record { viewed = refl; views = λ j. refl }) refl refl h in
      let h_viewed : Lined viewed = lined_change (home peer a) good none_good (λ t of. open_same a good refl t (tails_open a xs front (waiting k.behind) h t of)) h_good in
      lined_same g s Tail viewed (joined peer a) (same_follow (home peer a) viewed) ((lists_follow (home peer a) viewed).front g) (ap (λ (y : Kept). y.operations) (kept_follow (home peer a) viewed)) h_viewed
    where
      front : front_of g a ≡ front_of g s
      front = joins_front s e seated known a peer k.behind g

      waiting : IsBehind s (Some e) a peer → (group_of g a).waiting ≡ (group_of g s).waiting
      waiting (ByEmptying answered is) = ap (λ (x : Core). (group_of g x).waiting) is ∙ (lists_aside (Empties peer answered)).waiting g
      waiting (ByCopying number answered is) = ap (λ (x : Core). (group_of g x).waiting) is ∙ (lists_aside (Copies peer number answered)).waiting g

  -- ---- all of them

  pub fine_lined : Lined s → (b : Core) → Fine s (Some e) b → Lined b
  fine_lined h b NoneYet = h
  fine_lined h b (Then {a = a} xs x plain same) = act_lined a b (acts_of xs) x plain same (fine_lined h a xs)
  fine_lined h b (ThenView {a = a} shard number view xs next is) =
      let told : Core = told_at_once shard (kind.View view) a in
      lined_viewed g s Tail a told shard view (same_told shard (kind.View view) a) is
      (λ own. (
      let more = told_first a shard number (kind.View view) next own in
      let up = up_at a (acts_of xs) in
      (omega (arith, more, up), stood_first a (acts_of xs) shard number (kind.View view) next own)
      ))
      (lined_effect a (acts_of xs) shard number (kind.View view) next (fine_lined h a xs))
  fine_lined h b (ThenFalls {a = a} peer xs k) = lined_fallen a (acts_of xs) peer k (fine_lined h a xs)
  fine_lined h b (ThenJoins {a = a} peer xs k) = lined_joined a (acts_of xs) peer k (fine_lined h a xs)
