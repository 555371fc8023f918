-- Along the acts of an event: what took effect waited first as it began, and of each tail that began with it the rest rests.
use Rattle.std.proofs.Common.{◌≡◌, ◌∙◌, ap, sym, subst, ◌⊎◌, inl, inr, ℕ, ◌+◌, ◌*◌, ◌<◌, ◌≤◌, Bool, true, false, List, [], ◌∷◌, ◌++◌, Option, Some, None, refl, arith, length, slice_index_or, take}
use Rattle.std.proofs.lemmas.Bool.{cases_lt}
use Rattle.std.proofs.lemmas.Nat.{div_below}
use Rattle.hs_anatomy.proofs.AsideLemmas.{kept_follow, kept_joining}
use Rattle.hs_anatomy.proofs.EventLemmas.{does_acts}
use Rattle.hs_anatomy.proofs.ListLemmas.{lists_aside, lists_follow, lists_joining}
use Rattle.hs_anatomy.proofs.RoundLemmas.{known_same, pool_follow, pool_joining}
use Rattle.hs_anatomy.proofs.SizeLemmas.{sizes_good, sizes_leave, sizes_same}
use Rattle.hs_anatomy.proofs.StepLemmas.{committed_low, step_is}
use Rattle.hs_anatomy.proofs.StrokeLemmas.{strokes_of}
use Rattle.hs_anatomy.specs.Acts.{Act, Acts, begun, AndThen, Asks, Aside, ByCopying, ByEmptying, ByNudge, ByRound, Copies, Empties, Enters, Falls, FindsDown, Gets, Goes, Hands, Hears, IsAnswered, IsAside, IsBehind, IsUrged, Joins, Loses, NoAct, Opens, Refuses, Repeats, Reports, Resends, Seals, SendsRound, Starts, Takes, TakesEffect, TellsDown, Views, bytes_report, fallen, joined, sealed_by, without_job}
use Rattle.hs_anatomy.specs.Effect.{done_by, taken, told_at_once}
use Rattle.hs_anatomy.specs.Refusing.{refusal_in}
use Rattle.hs_anatomy.specs.Sizes.{Sizes, sizes_of}
use Rattle.hs_answered.specs.Telling.{Judging}
use Rattle.hs_awaiting.specs.declared.waiting.Waiting.{Waiting}
use Rattle.hs_awaiting.specs.Words.{change_if, each}
use Rattle.hs_core_words.specs.Changing.{add_entry_tasks, change_group, change_pool, change_rejoin, set_rejoin, set_status}
use Rattle.hs_core_words.specs.declared.event.Event.{Event}
use Rattle.hs_core_words.specs.declared.event.Event.TheVariants as event
use Rattle.hs_core_words.specs.Failing.{leave}
use Rattle.hs_core_words.specs.Joining.{begin_joining, joining_peers}
use Rattle.hs_core_words.specs.Looking.{catalogue_of, front_of, group_of, home, lead_of, shape_of, status_of}
use Rattle.hs_core_words.specs.Records.{HasRecordRoom}
use Rattle.hs_core_words.specs.Seeing.{pointers_for}
use Rattle.hs_core_words.specs.State.{Core}
use Rattle.hs_core_words.specs.Views.{begin_view, change_view}
use Rattle.hs_core_words.specs.Step.{do_event, end_event, line_of, step}
use Rattle.hs_desk.specs.declared.done.Done.{Done}
use Rattle.hs_desk.specs.declared.done.Done.TheVariants as done
use Rattle.hs_entry.specs.declared.entry.Entry.{Entry}
use Rattle.hs_entry.specs.declared.entry.Entry.TheVariants as kind
use Rattle.hs_limits.specs.declared.shape.Shape.{Shape}
use Rattle.hs_members.specs.Members.{Members, has_good, is_good_status}
use Rattle.hs_model.specs.declared.reply.Reply.{Reply}
use Rattle.hs_model.specs.Store.{Store}
use Rattle.hs_ops.specs.Operations.{bytes_step, go_step}
use Rattle.hs_post.specs.declared.message.Message.TheVariants as message
use Rattle.hs_post.specs.Pool.{message_at, without}
use Rattle.hs_rejoin.specs.Rejoin.{copied, emptied}
use Rattle.hs_replica.specs.Group.{Group, committed, is_peer, new_group, on_copied, on_emptied, on_have, take_entry}
use Rattle.hs_standing.proofs.ActLemmas.{beside_aside, beside_by, same_rounds}
use Rattle.hs_standing.proofs.BesideLemmas.{beside_begun, beside_ended, beside_leave, beside_nowhere, beside_tasks, beside_without}
use Rattle.hs_standing.proofs.AlongWalkLemmas.{do_refuses, knows_begun, may_begun, seated_begun}
use Rattle.hs_standing.proofs.AtomLemmas.{set_on}
use Rattle.hs_tails.specs.Tails.{RestsIn, TakesFirst}
use Rattle.hs_standing.proofs.FewLemmas.{takes_few}
use Rattle.hs_standing.proofs.Laws.{Entries, Steps}
use Rattle.hs_standing.proofs.LegalLineLemmas.{begun_quiet}
use Rattle.hs_standing.proofs.LegalOpenLemmas.{began_like, standing_opens}
use Rattle.hs_standing.proofs.OrderLemmas.{again_alike}
use Rattle.hs_standing.proofs.RestsListLemmas.{front_begun, front_goes, front_proposed, front_viewed}
use Rattle.hs_standing.proofs.StandingLemmas.{walks_standing, standing_again, standing_beside, standing_downed, standing_due, standing_goes, standing_line, standing_refused, standing_round, standing_told, tell_beside}
use Rattle.hs_standing.specs.Bytes.{TellsItsBlock}
use Rattle.hs_standing.specs.Changes.{IsBeside, IsIdle}
use Rattle.hs_standing.specs.Commands.{IsLineOf, IsNobodys}
use Rattle.hs_standing.specs.Held.{GivesAddresses}
use Rattle.hs_standing.specs.Legal.{IsStanding, MayStand}
use Rattle.hs_standing.specs.Walks.{IsReadFor, MayReport}
use Rattle.hs_effects.proofs.LookLemmas.{one_or_other}
use Rattle.hs_effects.proofs.QuietLemmas.{going_quiet, proposed_quiet}
use Rattle.hs_effects.proofs.SweepLemmas.{ByViews}
use Rattle.hs_fold.specs.Runs.Facts.{Catalogue as Folded}
use Rattle.hs_laws.specs.Valid.{IsValid}
use Rattle.hs_limits.specs.declared.limits.PeerStatus.TheVariants.{Good}
use Rattle.hs_standing.proofs.GrownLemmas.{Grown, grown_begins, grown_both, grown_goes, grown_group, grown_proposes, grown_round, grown_still, grown_tells}
use Rattle.hs_standing.proofs.KnownLemmas.{took_known}
use Rattle.hs_standing.proofs.SeatedLemmas.{good_shard, peer_low}
use Rattle.hs_standing.specs.Copies.{IsSeated, KnowsItsCopies}
use Rattle.hs_tails.proofs.ComingLemmas.{copied_known, emptied_known, fallen_fresh, follow_grown, heard_fresh, joined_fresh, sealed_fresh, start_fresh}
use Rattle.hs_tails.proofs.FirstLemmas.{IsFresh, IsListed, fresh_listed, listed_grown, listed_other, listed_taken}
use Rattle.hs_tails.proofs.GoneLemmas.{GoneWith, began_at, effect_goes, gone_start, quiet_set, rests_alike, stays, took_by, took_more}

-- what an act does to lists: entries come behind what waits; or it comes first, and what is committed is of what is left
abbrev pub GoesOn : Core → Core → Core → Type 0
GoesOn s a b = Grown a b ⊎ (((g : ℕ) → front_of g a ≡ front_of g s) × ((g : ℕ) → IsFresh s g b))

no_length : {X : Type 0} (xs : List X) → length xs ≡ 0 → xs ≡ []
no_length [] e = refl
no_length (x ∷ xs) e = absurd (omega (arith, e))

-- what is listed stays so
pub listed_on : (s a b : Core) (took : List Entry) (g : ℕ) → GoesOn s a b → front_of g a ≡ front_of g s + length took → IsListed s took g a → IsListed s took g b
listed_on s a b took g (inl grown) fronts h = listed_grown s took g a b grown h
listed_on s a b took g (inr first) fronts h =
    let same = first.0 g in
    let none : took ≡ [] = no_length took (omega (arith, fronts, same)) in
    subst (λ t. IsListed s t g b) (sym none) (fresh_listed s g b (first.1 g))

module _ (s : Core) (e : Event) (seated : IsSeated s) (known : KnowsItsCopies s) where
  at_start : (a : Core) (peer : ℕ) (d : Done) → IsAnswered s (Some e) a peer d → IsAnswered s (Some e) s peer d
  at_start a peer d k = subst (λ x. IsAnswered s (Some e) x peer d) k.start k

  still : (a b : Core) → shape_of b ≡ shape_of a → b.catalogues ≡ a.catalogues → ((g : ℕ) → group_of g b ≡ group_of g a) → GoesOn s a b
  still a b shape catalogues groups = inl (grown_still a b shape catalogues groups)

  aside_on : (a b : Core) → Aside s (Some e) a b → GoesOn s a b
  aside_on a b (Reports peer d k) = still a b refl refl (λ g. refl)
  aside_on a b (Seals peer number k) = inr ((λ g. ap (λ (x : Core). front_of g x) k.start), λ g. subst (λ x. IsFresh s g (sealed_by peer number (without_job peer x))) (sym k.start) (sealed_fresh s e seated known peer number (at_start a peer (done.Sealed number) k) g))
  aside_on a b (Empties peer k) =
      let x : Core = change_rejoin peer emptied (without_job peer a) in
      inl (grown_both a x b (grown_still a x refl refl (λ g. refl)) (grown_group (home peer a) (on_emptied peer) x refl refl (emptied_known s e seated known peer (group_of (home peer a) a))))
  aside_on a b (Copies peer number k) =
      let x : Core = change_rejoin peer (copied number) (without_job peer a) in
      inl (grown_both a x b (grown_still a x refl refl (λ g. refl)) (grown_group (home peer a) (on_copied peer number) x refl refl (copied_known s e seated known peer number (group_of (home peer a) a))))
  aside_on a b (Loses number m at) = still a b refl refl (λ g. refl)
  aside_on a b (Takes number shard to view next entry k fits) =
      let gone : Core = change_pool (without number) a in
      let got : Core = change_group shard (take_entry to entry) gone in
      let asked : Core = add_entry_tasks to next entry got in
      inl (grown_both a gone b (grown_still a gone refl refl (λ g. refl))
      (grown_both gone got b (grown_group shard (take_entry to entry) gone refl refl (took_known to entry (group_of shard a)))
      (grown_both got asked b (grown_still got asked refl refl (λ g. refl)) (follow_grown s e seated known shard asked))))
  aside_on a b (Hears number shard from to view sealed k good) =
      inr (
        (λ g. ap (λ (x : Core). front_of g x) k.start),
        λ g. subst (λ x. IsFresh s g (change_group shard (on_have from view sealed) (change_pool (without number) x))) (sym k.start)
            (heard_fresh s e seated known number shard from to view sealed (subst (λ (x : Core). message_at number x.pool ≡ Some (message.Have shard from to view sealed)) k.start k.at) g),
      )
  aside_on a b (Repeats number m at space) = still a b refl refl (λ g. refl)
  aside_on a b (Resends shard peer k) = still a b refl refl (λ g. refl)
  aside_on a b (Starts line peer start asked may) = still a b refl refl (λ g. refl)
  aside_on a b (Views shard) = still a b refl refl (λ g. refl)

  -- the front of each shard is as it was where a peer falls or has joined
  pub falls_front : (a : Core) → a.groups ≡ s.groups → a.members ≡ s.members → (g : ℕ) → front_of g a ≡ front_of g s
  falls_front a lists members g =
      ap (λ (x : Group). x.front) (ap (λ (gs : List Group). slice_index_or gs g (new_group (shape_of a) g 0 0 [])) lists ∙ ap (λ (m : Members). slice_index_or s.groups g (new_group m.shape g 0 0 [])) members)

  pub joins_front : (a : Core) (peer : ℕ) → IsBehind s (Some e) a peer → (g : ℕ) → front_of g a ≡ front_of g s
  joins_front a peer (ByEmptying k is) g = ap (λ (x : Core). front_of g x) is ∙ (lists_aside (Empties peer k)).front g
  joins_front a peer (ByCopying number k is) g = ap (λ (x : Core). front_of g x) is ∙ (lists_aside (Copies peer number k)).front g

-- ---- an entry takes effect

taken_listed : (s a : Core) (took : ℕ → List Entry) (shard number : ℕ) (entry : Entry) → committed (group_of shard a) ≡ Some (number, entry) → ((g : ℕ) → IsListed s (took g) g a) → (g : ℕ) → IsListed s (took_more took shard entry g) g (told_at_once shard entry a)
taken_listed s a took shard number entry next h g = by (one_or_other g shard)
  where
    tells : Grown (taken shard entry a) (told_at_once shard entry a)
    tells = grown_tells shard entry (done_by shard entry a).effect (taken shard entry a)

    by : (o : (g ≡ shard) ⊎ (g ≡ shard → ⊥)) → IsListed s (took_by took shard entry g o) g (told_at_once shard entry a)
    by (inl is) = listed_grown s (took g ++ entry ∷ []) g (taken shard entry a) (told_at_once shard entry a) tells
        (subst (λ j. IsListed s (took j ++ entry ∷ []) j (taken shard entry a)) (sym is) (listed_taken s shard number entry a next (took shard) (h shard)))
    by (inr apart) = listed_grown s (took g) g (taken shard entry a) (told_at_once shard entry a) tells (listed_other s shard number entry a next g apart (took g) (h g))

-- ---- both along the acts

pub record IsAlong (by : Judging) (start : Store) (Tail : ℕ → List Entry → Type 0) (s : Core) (cs : List Folded) (took : ℕ → List Entry) (a : Core) : Type 0 where
  pub gone : GoneWith by start Tail (began_at s cs) took a
  pub listed : (g : ℕ) → IsListed s (took g) g a

some_waiting : (w u : Waiting) → Some w ≡ Some u → w ≡ u
some_waiting w u e = cc e

module _ (views : ByViews) (steps : Steps) (laws : Entries) (by : Judging) (names : GivesAddresses by.name) (start : Store) (valid : IsValid start) (Tail : ℕ → List Entry → Type 0)
    (s : Core) (e : Event) (may : MayStand by start e s) (seated : IsSeated s) (known : KnowsItsCopies s) (room : HasRecordRoom s) (stands : (cs : List Folded) × IsStanding by start s cs) where
  abbrev Gone : (ℕ → List Entry) → Core → Type 0
  Gone took a = GoneWith by start Tail (began_at s stands.0) took a

  event_is : (x : Event) → Some e ≡ Some x → e ≡ x
  event_is x is = cc is

  may_refuse : (x : Event) → MayStand by start x s → (r : Reply) → refusal_in x s ≡ Some r → IsNobodys by (line_of x)
  may_refuse (event.Line line o) m r why = absurd (cc why)
  may_refuse (event.Report peer d) m r why = absurd (cc why)
  may_refuse (event.Turn line peer) m r why = m
  may_refuse (event.Deliver line number) m r why = m
  may_refuse (event.Lose line number) m r why = m
  may_refuse (event.Repeat line number) m r why = m
  may_refuse (event.Nudge line peer) m r why = m
  may_refuse (event.Fail line peer) m r why = m
  may_refuse (event.Start line peer) m r why = m

  may_tell : (peer number : ℕ) (bytes : Option (List ℕ)) (w : Waiting) (c : Core) → MayReport (TellsItsBlock by start) peer (bytes_report number bytes) c → IsReadFor peer number c w → TellsItsBlock by start number bytes w c
  may_tell peer number None w c m read = m w read
  may_tell peer number (Some bytes) w c m read = m w read

  shape_at : (a : Core) → Acts s (Some e) a → shape_of a ≡ shape_of s
  shape_at a xs = ap (λ (z : Sizes). z.shape) (sizes_same a (strokes_of xs))

  shards_at : (a : Core) → Acts s (Some e) a → (shape_of a).shards ≡ (shape_of s).shards
  shards_at a xs = ap (λ (x : Shape). x.shards) (shape_at a xs)

  seats_at : (a : Core) → Acts s (Some e) a → (sizes_of a).peers ≡ (sizes_of a).shape.shards * (sizes_of a).shape.copies
  seats_at a xs = subst (λ (z : Sizes). z.peers ≡ z.shape.shards * z.shape.copies) (sym (sizes_same a (strokes_of xs))) seated.peers

  listed_at : (a : Core) → Acts s (Some e) a → length a.groups ≡ (shape_of a).shards
  listed_at a xs = ap (λ (z : Sizes). z.groups) (sizes_same a (strokes_of xs)) ∙ seated.lists ∙ sym (shards_at a xs)

  low_at : (a : Core) → Acts s (Some e) a → (shard : ℕ) → shard < length a.groups → shard < (shape_of a).shards
  low_at a xs shard low = subst (λ n. shard < n) (listed_at a xs) low

  urged_low : (a : Core) → Acts s (Some e) a → (shard : ℕ) → IsUrged s (Some e) a shard → shard < (shape_of a).shards
  urged_low a xs shard (ByRound low) = low_at a xs shard low
  urged_low a xs shard (ByNudge peer k) =
      subst (λ n. shard < n) (sym (shards_at a xs)) (subst (λ g. g < (shape_of s).shards) (sym k.home) (div_below peer (shape_of s).copies (shape_of s).shards seated.copies (subst (λ n. peer < n) seated.peers (peer_low s.members peer k.good))))

  -- ---- beside, and views

  beside_goes : {took : ℕ → List Entry} (a b : Core) → IsBeside a b → Gone took a → Gone took b
  beside_goes a b beside q = stays by start Tail (began_at s stands.0) a b q (standing_beside views steps laws by names start valid a q.cs q.stands b beside) (set_on by.name a b beside.limits beside.shape) beside.front

  begins_goes : {took : ℕ → List Entry} (shard : ℕ) (c : Core) → shard < (shape_of c).shards → Gone took c → Gone took (begin_view shard c)
  begins_goes shard c low q =
      let like = began_like by shard c in
      stays by start Tail (began_at s stands.0) c (begin_view shard c) q (standing_opens by shard c start q.cs q.stands low) (set_on by.name c (begin_view shard c) like.limits like.shape) (λ g. front_viewed shard c g)

  view_goes : {took : ℕ → List Entry} (shard : ℕ) (c : Core) → (sizes_of c).peers ≡ (sizes_of c).shape.shards * (sizes_of c).shape.copies → Gone took c → Gone took (change_view shard c)
  view_goes {took} shard c seats q = go (has_good shard c.members) refl
    where
      go : (b : Bool) → has_good shard c.members ≡ b → Gone took (change_if b (begin_view shard) c)
      go true good = begins_goes shard c (good_shard shard c.members seats good) q
      go false none = q

  fallen_goes : {took : ℕ → List Entry} (peer : ℕ) (c : Core) → (sizes_of c).peers ≡ (sizes_of c).shape.shards * (sizes_of c).shape.copies → Gone took c → Gone took (fallen peer c)
  fallen_goes {took} peer c seats q = again (is_peer peer (lead_of (home peer c) c)) (viewed (is_good_status (status_of peer c)))
    where
      left : Gone took (leave peer c)
      left = beside_goes c (leave peer c) (beside_leave peer c) q

      viewed : (b : Bool) → Gone took (change_if b (change_view (home peer c)) (leave peer c))
      viewed true = view_goes (home peer c) (leave peer c) (subst (λ (z : Sizes). z.peers ≡ z.shape.shards * z.shape.copies) (sym (sizes_leave peer c)) seats) left
      viewed false = left

      again : (b : Bool) {x : Core} → Gone took x → Gone took (change_if b (λ core. each (joining_peers (home peer c) core) begin_joining core) x)
      again true {x} p =
          let ps : List ℕ = joining_peers (home peer c) x in
          beside_goes x (each ps begin_joining x) (beside_by x (each ps begin_joining x) (kept_joining ps x) (lists_joining ps x) (same_rounds x (each ps begin_joining x) (pool_joining ps x))) p
      again false {x} p = p

  joined_goes : {took : ℕ → List Entry} (peer : ℕ) (c : Core) → (sizes_of c).peers ≡ (sizes_of c).shape.shards * (sizes_of c).shape.copies → Gone took c → Gone took (joined peer c)
  joined_goes peer c seats q =
      let good : Core = set_rejoin peer None (set_status peer Good c) in
      let viewed : Core = change_view (home peer c) good in
      let q_good = beside_goes c good (beside_by c good refl (record { shape = refl; waiting = λ g. refl; front = λ g. refl }) (known_same c.pool.messages)) q in
      beside_goes viewed (joined peer c) (beside_by viewed (joined peer c) (kept_follow (home peer c) viewed) (lists_follow (home peer c) viewed) (same_rounds viewed (joined peer c) (pool_follow (home peer c) viewed)))
      (view_goes (home peer c) good (subst (λ (z : Sizes). z.peers ≡ z.shape.shards * z.shape.copies) (sym (sizes_good peer c)) seats) q_good)

  -- ---- each act

  along_by : {took : ℕ → List Entry} (a b : Core) → Gone took b → GoesOn s a b → IsAlong by start Tail s stands.0 took a → IsAlong by start Tail s stands.0 took b
  along_by {took} a b gone on q = record { gone = gone; listed = λ g. listed_on s a b (took g) g on (q.gone.fronts g) (q.listed g) }

  Along : Core → Type 0
  Along a = (took : ℕ → List Entry) × IsAlong by start Tail s stands.0 took a

  act_goes : (a b : Core) → Acts s (Some e) a → Act s (Some e) a b → (took : ℕ → List Entry) → IsAlong by start Tail s stands.0 took a → (took : ℕ → List Entry) × IsAlong by start Tail s stands.0 took b
  act_goes a b xs (IsAside x) took q = (took, along_by a b (beside_goes a b (beside_aside a b x) q.gone) (aside_on s e seated known a b x) q)
  act_goes a b xs (Refuses now refusal is why) took q = (
    took,
    along_by a b (stays by start Tail (began_at s stands.0) a b q.gone (standing_refused views steps laws by names start valid a q.gone.cs q.gone.stands (line_of now) refusal (may_refuse now (subst (λ x. MayStand by start x s) (event_is now is) may) refusal why)) refl (λ g. refl))
        (still s e seated known a b refl refl (λ g. refl)) q,
  )
  act_goes a b xs (TellsDown from peer is) took q =
      (took, along_by a b (stays by start Tail (began_at s stands.0) a b q.gone (standing_downed views steps laws by names start valid a q.gone.cs q.gone.stands peer a.progress.event_line) refl (λ g. refl)) (still s e seated known a b refl refl (λ g. refl)) q)
  act_goes a b xs (FindsDown peer is bad) took q = absurd (cc is)
  act_goes a b xs (Asks line o begins is) took q = (
    took,
    along_by a b (stays by start Tail (began_at s stands.0) a b q.gone
        (standing_line views steps laws by names start valid a q.gone.cs q.gone.stands line o (subst (λ c. IsLineOf by c line o) (sym begins) (subst (λ x. MayStand by start x s) (event_is (event.Line line o) is) may)))
        (quiet_set by.name a b (begun_quiet line o a)) (λ g. front_begun g line o a)) (inl (grown_begins line o a)) q,
  )
  act_goes a b xs (Goes line w at idle) took q = (
    took,
    along_by a b (stays by start Tail (began_at s stands.0) a b q.gone
        (standing_goes views steps laws by names start valid a q.gone.cs q.gone.stands line (λ u there. subst (λ (x : Waiting). IsIdle x.wait) (some_waiting w u (sym at ∙ there)) (idle stands.1.orderly.once)))
        (quiet_set by.name a b (going_quiet go_step line a)) (λ g. front_goes g go_step line a)) (inl (grown_goes go_step line a)) q,
  )
  act_goes a b xs (Hands peer number line bytes w k) took q =
      let x : Core = without_job peer a in
      let beside : IsBeside a x = beside_tasks peer _ a in
      let m = subst (λ y. MayStand by start y s) (event_is (event.Report peer (bytes_report number bytes)) k.answered.reported) may in
      let here = subst (λ c. MayReport (TellsItsBlock by start) peer (bytes_report number bytes) c) (sym k.answered.start) m in
      let told = tell_beside by start number bytes w a x beside (may_tell peer number bytes w a here (record { line = line; first = k.first; at = k.at; waits = k.waits })) in
      let q_x = beside_goes a x beside q.gone in (
        took,
        along_by a b (stays by start Tail (began_at s stands.0) x b q_x (standing_told views steps laws by names start valid x q_x.cs q_x.stands line number bytes w k.at k.waits told)
            (quiet_set by.name x b (going_quiet (λ v o. bytes_step v bytes (pointers_for w.shard w.operation.op x) o) line x)) (λ g. front_goes g (λ v o. bytes_step v bytes (pointers_for w.shard w.operation.op x) o) line x))
            (inl (grown_both a x b (grown_still a x refl refl (λ g. refl)) (grown_goes (λ v o. bytes_step v bytes (pointers_for w.shard w.operation.op x) o) line x))) q,
      )
  act_goes a b xs (TakesEffect shard number entry next) took q =
      let low = low_at a xs shard (committed_low shard (number, entry) a next) in
      let few = takes_few s e seated known room a xs shard number entry next in (
        took_more took shard entry,
        record {
          gone = effect_goes views steps laws by names start valid Tail (began_at s stands.0) took a q.gone shard number entry low next few;
          listed = taken_listed s a took shard number entry next q.listed;
        },
      )
  act_goes a b xs (Enters shard urged due) took q =
      let entry : Entry = kind.Enter 0 ((catalogue_of shard a).epoch + 1) in (
        took,
        along_by a b (stays by start Tail (began_at s stands.0) a b q.gone (standing_due views steps laws by names start valid a q.gone.cs q.gone.stands shard (urged_low a xs shard urged) due)
            (quiet_set by.name a b (proposed_quiet shard entry a)) (λ g. front_proposed g shard entry a)) (inl (grown_proposes shard entry a)) q,
      )
  act_goes a b xs (Gets number from to epoch round total deltas k new) took q =
      let x : Core = change_pool (without number) a in
      let entry : Entry = kind.Got from epoch round total deltas in
      let on : GoesOn s a b = inl (grown_both a x b (grown_still a x refl refl (λ g. refl)) (grown_proposes to entry x)) in
      elim (cases_lt to (shape_of a).shards) [
        | inl low ↦ (
          took,
          along_by a b (stays by start Tail (began_at s stands.0) a b q.gone (standing_round views steps laws by names start valid a q.gone.cs q.gone.stands number from to epoch round total deltas low k.at new)
              (quiet_set by.name x b (proposed_quiet to entry x)) (λ g. front_proposed g to entry x)) on q,
        )
        | inr high ↦ (took, along_by a b (beside_goes x b (beside_nowhere to entry x (subst (λ n. n ≤ to) (sym (listed_at a xs)) high)) (beside_goes a x (beside_without number a) q.gone)) on q)
      ]
  act_goes a b xs (SendsRound back shard peer k) took q =
      let like = again_alike back shard a in
      (took, along_by a b (stays by start Tail (began_at s stands.0) a b q.gone (standing_again views steps laws by names start valid a q.gone.cs q.gone.stands back shard) (set_on by.name a b like.limits like.shape) like.front) (inl (grown_round back shard a)) q)
  act_goes a b xs (Falls peer k) took q = (took, along_by a b (fallen_goes peer a (seats_at a xs) q.gone) (inr (falls_front s e seated known a k.lists k.members, fallen_fresh s e seated known a peer k)) q)
  act_goes a b xs (Joins peer k) took q = (took, along_by a b (joined_goes peer a (seats_at a xs) q.gone) (inr (joins_front s e seated known a peer k.behind, joined_fresh s e seated known a peer k.behind)) q)
  act_goes a b xs (Opens shard is good) took q = absurd (cc is)

  pub acts_go_along : IsAlong by start Tail s stands.0 (λ g. []) s → (b : Core) → Acts s (Some e) b → (took : ℕ → List Entry) × IsAlong by start Tail s stands.0 took b
  acts_go_along q b NoAct = ((λ g. []), q)
  acts_go_along q b (AndThen {a = a} xs x) = let r = acts_go_along q a xs in act_goes a b xs x r.0 r.1

-- ---- an event

taken_first : {X : Type 0} (xs ys : List X) → take (length xs) (xs ++ ys) ≡ xs
taken_first [] ys = refl
taken_first (x ∷ xs) ys = ap (λ zs. x ∷ zs) (taken_first xs ys)

pub takes_first : ByViews → Steps → Entries → (by : Judging) → GivesAddresses by.name → (start : Store) → IsValid start → (core : Core) (event : Event) (moment : ℕ) (cs : List Folded)
    → core.ended ≡ None → IsSeated core → KnowsItsCopies core → HasRecordRoom core → core.refused ≡ [] → MayStand by start event core → IsStanding by start core cs → TakesFirst by start core (step event moment core) cs
takes_first views steps laws by names start valid core event moment cs going seated known room clean may stands = record {
  gone = record { after = last.cs; stands = last.stands; took = r.0; fronts = last.fronts; folds = last.folds; rests = last.rests; history = last.history };
  first = λ g. sym (ap (λ (ws : List Entry). take (length (r.0 g)) ws) (r.1.listed g).parts ∙ taken_first (r.0 g) _);
}
  where
    Tail : ℕ → List Entry → Type 0
    Tail g tail = RestsIn by.name core cs g tail

    s : Core
    s = begun event moment core

    beside : IsBeside core s
    beside = beside_begun event moment core

    stands_s : IsStanding by start s cs
    stands_s = standing_beside views steps laws by names start valid core cs stands s beside

    first_along : IsAlong by start Tail s cs (λ g. []) s
    first_along = record {
      gone = gone_start views steps laws by names start valid Tail (began_at s cs) s cs (λ g. refl) (λ g. refl) stands_s
          (λ g tail rests. rests_alike by.name core s cs g tail (set_on by.name core s beside.limits beside.shape) (beside.front g) rests) (λ h. h);
      listed = λ g. fresh_listed s g s (start_fresh s event (seated_begun event moment core seated) (knows_begun event moment core known) g);
    }

    b : Core
    b = do_event event s

    r : (took : ℕ → List Entry) × IsAlong by start Tail s cs took b
    r = acts_go_along views steps laws by names start valid Tail s event (may_begun (walks_standing views steps laws by names start valid) event moment core may) (seated_begun event moment core seated) (knows_begun event moment core known) room (cs, stands_s)
        first_along b (does_acts s event)

    end : IsBeside b (end_event b)
    end = beside_ended b (do_refuses event s ∙ clean)

    last : GoneWith by start Tail (began_at s cs) r.0 (step event moment core)
    last = subst (λ (x : Core). GoneWith by start Tail (began_at s cs) r.0 x) (sym (step_is event moment core going))
        (stays by start Tail (began_at s cs) b (end_event b) (r.1.gone) (standing_beside views steps laws by names start valid b (r.1.gone).cs (r.1.gone).stands (end_event b) end) (set_on by.name b (end_event b) end.limits end.shape) end.front)
