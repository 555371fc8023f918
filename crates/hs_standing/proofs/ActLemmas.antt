-- What each of the changes keeps, and a view that begins, each event keeps, for any number of copies.
use Rattle.std.proofs.Common.{◌≡◌, ◌∙◌, sym, ap, subst, inl, inr, ℕ, ◌*◌, ◌<◌, ◌≤◌, ◌++◌, Bool, true, false, List, Option, Some, None, refl, length}
use Rattle.std.proofs.lemmas.Bool.{cases_lt}
use Rattle.std.proofs.lemmas.Nat.{div_below}
use Rattle.hs_anatomy.proofs.AsideLemmas.{kept_aside, kept_follow, kept_joining}
use Rattle.hs_anatomy.proofs.ListLemmas.{HasSameLists, lists_aside, lists_follow, lists_joining}
use Rattle.hs_anatomy.proofs.RoundLemmas.{known_same, pool_follow, pool_joining, rounds_aside}
use Rattle.hs_anatomy.proofs.SizeLemmas.{sizes_good, sizes_leave, sizes_same}
use Rattle.hs_anatomy.proofs.StepLemmas.{committed_low}
use Rattle.hs_anatomy.proofs.StrokeLemmas.{strokes_of}
use Rattle.hs_anatomy.specs.Acts.{Act, Acts, AndThen, Asks, Aside, ByNudge, ByRound, Enters, Falls, FindsDown, Gets, Goes, Hands, IsAside, IsUrged, Joins, NoAct, Opens, Refuses, SendsRound, TakesEffect, TellsDown, bytes_report, fallen, joined, without_job}
use Rattle.hs_anatomy.specs.Kept.{Kept, kept_of}
use Rattle.hs_anatomy.specs.Refusing.{refusal_in}
use Rattle.hs_anatomy.specs.Rounds.{BringsNoRound}
use Rattle.hs_anatomy.specs.Sizes.{Sizes, sizes_of}
use Rattle.hs_awaiting.specs.declared.waiting.Waiting.{Waiting}
use Rattle.hs_awaiting.specs.Words.{change_if, each}
use Rattle.hs_core_words.specs.Changing.{change_pool, set_rejoin, set_status}
use Rattle.hs_core_words.specs.declared.event.Event.{Event}
use Rattle.hs_core_words.specs.declared.event.Event.TheVariants as event
use Rattle.hs_core_words.specs.Failing.{leave}
use Rattle.hs_core_words.specs.Joining.{begin_joining, joining_peers}
use Rattle.hs_core_words.specs.Looking.{home, lead_of, shape_of, status_of}
use Rattle.hs_core_words.specs.Operating.{propose_entry}
use Rattle.hs_core_words.specs.Records.{HasRecordRoom}
use Rattle.hs_core_words.specs.State.{Core}
use Rattle.hs_core_words.specs.Step.{line_of}
use Rattle.hs_core_words.specs.Views.{begin_view, change_view}
use Rattle.hs_entry.specs.declared.entry.Entry.TheVariants as kind
use Rattle.hs_limits.specs.declared.limits.PeerStatus.TheVariants.{Good}
use Rattle.hs_limits.specs.declared.shape.Shape.{Shape}
use Rattle.hs_members.specs.Members.{become, has_good, is_good_status}
use Rattle.hs_model.specs.declared.op.Op.{Op}
use Rattle.hs_model.specs.declared.reply.Reply.{Reply}
use Rattle.hs_post.specs.Pool.{Pool, without}
use Rattle.hs_replica.specs.Group.{is_peer}
use Rattle.hs_standing.proofs.BesideLemmas.{beside_leave, beside_nowhere, beside_tasks, beside_without}
use Rattle.hs_standing.proofs.FewLemmas.{joined_two, takes_few}
use Rattle.hs_standing.proofs.SeatedLemmas.{fallen_two, good_shard, peer_low}
use Rattle.hs_standing.specs.Changes.{IsBeside, IsIdle}
use Rattle.hs_standing.specs.Copies.{IsSeated, KnowsItsCopies}
use Rattle.hs_standing.specs.Walks.{IsReadFor, MayEvent, MayReport, Walks, WalksViews}

pub beside_by : (a b : Core) → kept_of b ≡ kept_of a → HasSameLists a b → BringsNoRound a b → IsBeside a b
beside_by a b kept lists rounds = record {
  limits = ap (λ (k : Kept). k.limits) kept;
  shape = lists.shape;
  catalogues = ap (λ (k : Kept). k.catalogues) kept;
  sessions = ap (λ (k : Kept). k.sessions) kept;
  operations = ap (λ (k : Kept). k.operations) kept;
  told = ap (λ (k : Kept). (k.journal ++ k.refused) ++ k.entries) kept;
  waiting = lists.waiting;
  front = lists.front;
  rounds = rounds;
}

-- the same messages are under way
pub same_rounds : (a b : Core) → b.pool ≡ a.pool → BringsNoRound a b
same_rounds a b same = subst (λ (p : Pool). BringsNoRound a (record a { pool = p })) (sym same) (known_same a.pool.messages)

-- an act aside is beside a run
pub beside_aside : {s : Core} {e : Option Event} (a b : Core) → Aside s e a b → IsBeside a b
beside_aside a b x = beside_by a b (kept_aside x) (lists_aside x) (rounds_aside x)

-- ---- shards and peers

-- there is a status for each peer
abbrev AreSeated : Sizes → Type 0
AreSeated z = z.peers ≡ z.shape.shards * z.shape.copies

some_waiting : (w u : Waiting) → Some w ≡ Some u → w ≡ u
some_waiting w u e = cc e

module _ {MayLine : ℕ → Op → Core → Type 0} {MayTell : ℕ → Option (List ℕ) → Waiting → Core → Type 0} {MayRefuse : ℕ → Type 0} {Q : Core → Type 0} (W : Walks MayLine MayTell MayRefuse Q)
    (shape : Shape) (views : WalksViews shape Q) where
  -- ---- views

  view_goes : (shard : ℕ) (c : Core) → shape_of c ≡ shape → AreSeated (sizes_of c) → (has_good shard c.members ≡ true → 1 < (shape_of c).copies) → Q c → Q (change_view shard c)
  view_goes shard c same seats two q = go (has_good shard c.members) refl
    where
      go : (b : Bool) → has_good shard c.members ≡ b → Q (change_if b (begin_view shard) c)
      go true good = views shard c same (good_shard shard c.members seats good) (two good) q
      go false none = q

  fallen_goes : (peer : ℕ) (c : Core) → shape_of c ≡ shape → AreSeated (sizes_of c) → Q c → Q (fallen peer c)
  fallen_goes peer c same seats q = again (is_peer peer (lead_of (home peer c) c)) (viewed (is_good_status (status_of peer c)))
    where
      left : Q (leave peer c)
      left = W.beside c (leave peer c) (beside_leave peer c) q

      viewed : (b : Bool) → Q (change_if b (change_view (home peer c)) (leave peer c))
      viewed true = view_goes (home peer c) (leave peer c) same (subst (λ (z : Sizes). AreSeated z) (sym (sizes_leave peer c)) seats) (fallen_two c.members peer) left
      viewed false = left

      again : (b : Bool) {x : Core} → Q x → Q (change_if b (λ core. each (joining_peers (home peer c) core) begin_joining core) x)
      again true {x} p =
          let ps : List ℕ = joining_peers (home peer c) x in
          W.beside x (each ps begin_joining x) (beside_by x (each ps begin_joining x) (kept_joining ps x) (lists_joining ps x) (same_rounds x (each ps begin_joining x) (pool_joining ps x))) p
      again false {x} p = p

  joined_goes : (peer : ℕ) (c : Core) → shape_of c ≡ shape → AreSeated (sizes_of c) → (has_good (home peer c) (become peer Good c.members) ≡ true → 1 < (shape_of c).copies) → Q c → Q (joined peer c)
  joined_goes peer c same seats two q =
      let good : Core = set_rejoin peer None (set_status peer Good c) in
      let viewed : Core = change_view (home peer c) good in
      let q_good : Q good = W.beside c good (beside_by c good refl (record { shape = refl; waiting = λ g. refl; front = λ g. refl }) (known_same c.pool.messages)) q in
      W.beside viewed (joined peer c) (beside_by viewed (joined peer c) (kept_follow (home peer c) viewed) (lists_follow (home peer c) viewed) (same_rounds viewed (joined peer c) (pool_follow (home peer c) viewed)))
      (view_goes (home peer c) good same (subst (λ (z : Sizes). AreSeated z) (sym (sizes_good peer c)) seats) two q_good)

  -- ---- acts of an event, where there are seats, what is known of copies is within their lists, and root records are few

  module _ (s : Core) (e : Event) (start : shape_of s ≡ shape) (may : MayEvent MayLine MayTell MayRefuse e s) (seated : IsSeated s) (known : KnowsItsCopies s) (room : HasRecordRoom s) (q_s : Q s) where
    event_is : (x : Event) → Some e ≡ Some x → e ≡ x
    event_is x is = cc is

    may_refuse : (x : Event) → MayEvent MayLine MayTell MayRefuse x s → (r : Reply) → refusal_in x s ≡ Some r → MayRefuse (line_of x)
    may_refuse (event.Line line o) m r why = absurd (cc why)
    may_refuse (event.Report peer d) m r why = absurd (cc why)
    may_refuse (event.Turn line peer) m r why = m
    may_refuse (event.Deliver line number) m r why = m
    may_refuse (event.Lose line number) m r why = m
    may_refuse (event.Repeat line number) m r why = m
    may_refuse (event.Nudge line peer) m r why = m
    may_refuse (event.Fail line peer) m r why = m
    may_refuse (event.Start line peer) m r why = m

    may_tell : (peer number : ℕ) (bytes : Option (List ℕ)) (w : Waiting) (c : Core) → MayReport MayTell peer (bytes_report number bytes) c → IsReadFor peer number c w → MayTell number bytes w c
    may_tell peer number None w c m known = m w known
    may_tell peer number (Some bytes) w c m known = m w known

    shape_at : (a : Core) → Acts s (Some e) a → shape_of a ≡ shape_of s
    shape_at a xs = ap (λ (z : Sizes). z.shape) (sizes_same a (strokes_of xs))

    shards_at : (a : Core) → Acts s (Some e) a → (shape_of a).shards ≡ (shape_of s).shards
    shards_at a xs = ap (λ (x : Shape). x.shards) (shape_at a xs)

    seats_at : (a : Core) → Acts s (Some e) a → AreSeated (sizes_of a)
    seats_at a xs = subst (λ (z : Sizes). AreSeated z) (sym (sizes_same a (strokes_of xs))) seated.peers

    listed_at : (a : Core) → Acts s (Some e) a → length a.groups ≡ (shape_of a).shards
    listed_at a xs = ap (λ (z : Sizes). z.groups) (sizes_same a (strokes_of xs)) ∙ seated.lists ∙ sym (shards_at a xs)

    -- a list that is there is a shard's
    low_at : (a : Core) → Acts s (Some e) a → (shard : ℕ) → shard < length a.groups → shard < (shape_of a).shards
    low_at a xs shard low = subst (λ n. shard < n) (listed_at a xs) low

    urged_low : (a : Core) → Acts s (Some e) a → (shard : ℕ) → IsUrged s (Some e) a shard → shard < (shape_of a).shards
    urged_low a xs shard (ByRound low) = low_at a xs shard low
    urged_low a xs shard (ByNudge peer k) =
        subst (λ n. shard < n) (sym (shards_at a xs)) (subst (λ g. g < (shape_of s).shards) (sym k.home) (div_below peer (shape_of s).copies (shape_of s).shards seated.copies (subst (λ n. peer < n) seated.peers (peer_low s.members peer k.good))))

    act_goes : (a b : Core) → Acts s (Some e) a → Act s (Some e) a b → Q a → Q b
    act_goes a b xs (IsAside x) q = W.beside a b (beside_aside a b x) q
    act_goes a b xs (Refuses now refusal is why) q =
        W.refused (line_of now) refusal a (may_refuse now (subst (λ x. MayEvent MayLine MayTell MayRefuse x s) (event_is now is) may) refusal why) q
    act_goes a b xs (TellsDown by peer is) q = W.downed peer a.progress.event_line a q
    act_goes a b xs (FindsDown peer is bad) q = absurd (cc is)
    act_goes a b xs (Asks line o start is) q = W.line line o a (subst (λ c. MayLine line o c) (sym start) (subst (λ x. MayEvent MayLine MayTell MayRefuse x s) (event_is (event.Line line o) is) may)) q
    act_goes a b xs (Goes line w at idle) q = W.goes line a (λ u there. subst (λ (x : Waiting). IsIdle x.wait) (some_waiting w u (sym at ∙ there)) (idle (W.once s q_s))) q
    act_goes a b xs (Hands peer number line bytes w k) q =
        let x : Core = without_job peer a in
        let beside : IsBeside a x = beside_tasks peer _ a in
        let m = subst (λ y. MayEvent MayLine MayTell MayRefuse y s) (event_is (event.Report peer (bytes_report number bytes)) k.answered.reported) may in
        let here = subst (λ c. MayReport MayTell peer (bytes_report number bytes) c) (sym k.answered.start) m in
        W.told line number bytes w x k.at k.waits (W.tell_beside number bytes w a x beside (may_tell peer number bytes w a here (record { line = line; first = k.first; at = k.at; waits = k.waits }))) (W.beside a x beside q)
    act_goes a b xs (TakesEffect shard number entry next) q = W.effect shard number entry a (low_at a xs shard (committed_low shard (number, entry) a next)) next (takes_few s e seated known room a xs shard number entry next) q
    act_goes a b xs (Enters shard urged due) q = W.due shard a (urged_low a xs shard urged) due q
    act_goes a b xs (Gets number from to epoch round total deltas k new) q = elim (cases_lt to (shape_of a).shards) [
      | inl low ↦ W.round number from to epoch round total deltas a low k.at new q
      | inr high ↦
          let x : Core = change_pool (without number) a in
          W.beside x (propose_entry to (kind.Got from epoch round total deltas) x) (beside_nowhere to (kind.Got from epoch round total deltas) x (subst (λ n. n ≤ to) (sym (listed_at a xs)) high)) (W.beside a x (beside_without number a) q)
    ]
    act_goes a b xs (SendsRound back shard peer k) q = W.again back shard a q
    act_goes a b xs (Falls peer k) q = fallen_goes peer a (shape_at a xs ∙ start) (seats_at a xs) q
    act_goes a b xs (Joins peer k) q = joined_goes peer a (shape_at a xs ∙ start) (seats_at a xs) (joined_two s e seated known room a peer k.behind) q
    act_goes a b xs (Opens shard is good) q = absurd (cc is)

    -- so each core that the event's acts reach has it
    pub acts_go : (b : Core) → Acts s (Some e) b → Q b
    acts_go b NoAct = q_s
    acts_go b (AndThen {a = a} xs x) = act_goes a b xs x (acts_go a xs)
