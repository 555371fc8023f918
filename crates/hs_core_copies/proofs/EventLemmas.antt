-- Every event of the core is events of the machine of a shard's copies.
use Rattle.std.proofs.Common.{◌≡◌, ◌⊎◌, ◌∙◌, ap, sym, refl, inl, inr, ℕ, not, Bool, true, false, [], ◌∷◌, ◌++◌, Option, Some, None}
use Rattle.std.proofs.lemmas.Bool.{cases_eq}
use Rattle.std.specs.List.{All}
use Rattle.std.specs.Map.{values_of}
use Rattle.hs_awaiting.specs.Words.{change_if, change_with, ◌▸◌}
use Rattle.hs_copies.proofs.CallLemmas.{nudged}
use Rattle.hs_copies.proofs.QuietLemmas.{Quietly}
use Rattle.hs_copies.specs.CoreCopies.{core_nudge}
use Rattle.hs_copies.specs.Machine.{Copies, after_events}
use Rattle.hs_core_words.specs.Asking.{no_peer, not_down, not_up, nudge, nudge_good, send_rounds}
use Rattle.hs_core_words.specs.Changing.{add_entry_tasks, post}
use Rattle.hs_core_words.specs.declared.event.Event.{Event}
use Rattle.hs_core_words.specs.declared.event.Event.TheVariants as event
use Rattle.hs_core_words.specs.Entering.{propose_due}
use Rattle.hs_core_words.specs.Failing.{go_down}
use Rattle.hs_core_words.specs.Joining.{start}
use Rattle.hs_core_words.specs.Looking.{group_of, home, lead_of, status_of}
use Rattle.hs_core_words.specs.Operating.{add_read, begin_line}
use Rattle.hs_core_words.specs.State.{Core}
use Rattle.hs_core_words.specs.Step.{do_event}
use Rattle.hs_entry.specs.declared.entry.Entry.{Entry}
use Rattle.hs_limits.specs.declared.limits.PeerStatus.{PeerStatus}
use Rattle.hs_limits.specs.declared.limits.PeerStatus.TheVariants.{Down, Good, Joining}
use Rattle.hs_members.specs.Members.{home_of, is_down, is_good_status, status}
use Rattle.hs_model.specs.declared.reply.Reply.{Reply}
use Rattle.hs_model.specs.declared.reply.Reply.TheVariants as reply
use Rattle.hs_model.specs.Refusals.{first, refused_when}
use Rattle.hs_replica.specs.Group.{Group, IsHome, copy_of, is_peer, resend}
use Rattle.hs_core_copies.proofs.GoingLemmas.{GoesFalling, GoesTold, lists_of, told_of, Goes, Moves, moves_both, moves_same}
use Rattle.hs_core_copies.proofs.BesideLemmas.{home_of_peer, moves_beside, moves_quiet, posts_beside, seated_post}
use Rattle.hs_core_copies.proofs.DeliverLemmas.{delivered, lost, refuses, repeated}
use Rattle.hs_core_copies.proofs.FallLemmas.{IsLost, MovesOrLost, falls, or_moves}
use Rattle.hs_core_copies.proofs.LeadLemmas.{good_as_told, good_only}
use Rattle.hs_core_copies.proofs.LikeLemmas.{like_stands}
use Rattle.hs_core_copies.proofs.PostLemmas.{posted, resend_beside, resend_within, under_way_more, under_way_now}
use Rattle.hs_core_copies.proofs.ReportLemmas.{reports}
use Rattle.hs_core_copies.proofs.RiseLemmas.{starts}
use Rattle.hs_core_copies.proofs.StepLemmas.{steps_move}
use Rattle.hs_core_copies.proofs.WalkLemmas.{StepLeaves, keeps_begin_line, keeps_if, keeps_propose_due, keeps_send_rounds, unless_by}
use Rattle.hs_core_copies.specs.InStep.{IsInStep, IsOf, IsUnderWay, IsWithin, copies_in, no_line}
use Rattle.hs_core_copies.specs.Lists.{lists_told}

-- ---- a nudge

-- no step of an operation changes the members
abbrev HasMembers : Core → Core → Type 0
HasMembers a b = b.members ≡ a.members

members_stay : StepLeaves HasMembers
members_stay = record {
  same = λ c. refl;
  both = λ a b c f h. h ∙ f;
  catalogue = λ x y c. refl;
  viewed = λ x y c. refl;
  operations = λ x c. refl;
  sessions = λ x c. refl;
  noted = λ of did told c. refl;
  proposes = λ x entry c plain. entry_stays (lead_of x c) _ _ entry;
  reads = λ x number line c. read_stays (lead_of x c) number line c;
  sends = λ x sent c. refl;
  commits = λ x c. refl;
}
  where
    entry_stays : (o : Option ℕ) (n : ℕ) (c : Core) (entry : Entry) → (change_with o (λ peer. add_entry_tasks peer n entry) c).members ≡ c.members
    entry_stays None n c entry = refl
    entry_stays (Some l) n c entry = refl

    read_stays : (o : Option ℕ) (number line : ℕ) (c : Core) → (change_with o (add_read number line) c).members ≡ c.members
    read_stays None number line c = refl
    read_stays (Some l) number line c = refl

-- a good peer sends again
resends_here : (g p : ℕ) (c : Core) (s : Copies Entry) → IsInStep g c s → IsOf c.members.shape g p → status_of p c ≡ Good → Goes g (post (resend p (group_of g c)) c) s
resends_here g p c s st own good =
    let x : Group = group_of g c in
    let home_p : IsHome x p = home_of_peer g c s st p own in
    let ms = resend p x in
    let b : Core = post ms c in
    let is_good : (copy_of x p).good ≡ true = good_as_told (copies_in g st.sent c) s st.stands p home_p ∙ ap is_good_status good in
    let k : Quietly no_line (core_nudge p (copies_in g st.sent c)) s = nudged (copies_in g st.sent c) s st.stands p home_p is_good in
    let of : x.shard ≡ g = (st.seated.placed g).same_shard in
    let within : All (IsWithin c.members.shape) ms = resend_within c.members.shape x (st.seated.placed g).same_shape (st.seated.placed g).few p (rw of own) in
    record {
      events = k.events;
      allowed = k.allowed;
      stays = k.stays;
      keeps = record {
        seated = seated_post ms c within st.seated;
        here = st.here;
        sent = ms ++ st.sent;
        stands = like_stands (core_nudge p (copies_in g st.sent c)) (copies_in g (ms ++ st.sent) b) (after_events s k.events)
            (record { group = refl; shape = refl; valid = st.stands.members; view = refl; statuses = λ q h. refl; empties = λ q h j. refl; counts = λ q h j. refl; sent = λ m h. h }) k.stands;
        under_way = posted (IsUnderWay g (ms ++ st.sent)) ms c.pool (under_way_now g ms st.sent) (under_way_more g ms st.sent (values_of c.pool.messages) st.under_way);
        jobs = λ q at. record { good = (st.jobs q at).good; other = (st.jobs q at).other };
      };
    }

resends : (g x p : ℕ) (c : Core) → home_of c.members.shape p ≡ x → status_of p c ≡ Good → Moves g c (post (resend p (group_of x c)) c)
resends g x p c own good s st = elim (cases_eq x g) [
  | inl e ↦ rw e (resends_here g p c s st (own ∙ e) good)
  | inr n ↦
      let of : (group_of x c).shard ≡ x = (st.seated.placed x).same_shard in
      moves_beside g c (post (resend p (group_of x c)) c)
      (posts_beside g c (resend p (group_of x c)) (resend_beside (group_of x c) g (λ e. n (sym of ∙ e)) p)
      (resend_within c.members.shape (group_of x c) (st.seated.placed x).same_shape (st.seated.placed x).few p (own ∙ sym of))) s st
]

nudges : (g p : ℕ) (c : Core) → status_of p c ≡ Good → Moves g c (nudge p c)
nudges g p c good =
    let x : ℕ = home p c in
    let lead_part : Core → Core = λ core. core ▸ propose_due x ▸ send_rounds x in
    let c1 : Core = change_if (is_peer p (lead_of x c)) (λ core. core ▸ propose_due x ▸ send_rounds x) c in
    let same : c1.members ≡ c.members = keeps_if members_stay (is_peer p (lead_of x c)) (λ core. core ▸ propose_due x ▸ send_rounds x) c
    (λ y. members_stay.both y (propose_due x y) (send_rounds x (propose_due x y)) (keeps_propose_due members_stay x y) (keeps_send_rounds members_stay x (propose_due x y))) in
    moves_both g c c1 (nudge p c)
    (keeps_if (steps_move g) (is_peer p (lead_of x c)) (λ core. core ▸ propose_due x ▸ send_rounds x) c
    (λ y. moves_both g y (propose_due x y) (send_rounds x (propose_due x y)) (keeps_propose_due (steps_move g) x y) (keeps_send_rounds (steps_move g) x (propose_due x y))))
    (resends g x p c1 (ap (λ m. home_of m.shape p) same) (ap (λ m. status p m) same ∙ good))

nudges_good : (g p : ℕ) (c : Core) → Moves g c (nudge_good p c)
nudges_good g p c = go (is_good_status (status_of p c)) refl
  where
    go : (b : Bool) → is_good_status (status_of p c) ≡ b → Moves g c (change_if b (nudge p) c)
    go true e = nudges g p c (good_only (status_of p c) e)
    go false e = moves_same g c

-- ---- lines of peers

down_of : (p : ℕ) (c : Core) → first (no_peer p c ∷ not_down p c ∷ []) ≡ None → status_of p c ≡ Down
down_of p c e = go (no_peer p c) (status_of p c) refl e
  where
    go : (o : Option Reply) (k : PeerStatus) → status_of p c ≡ k → first (o ∷ not_down p c ∷ []) ≡ None → status_of p c ≡ Down
    go (Some r) k f i = let wrong : Some r ≡ None = i in absurd (cc wrong)
    go None Down f i = f
    go None Good f i = let wrong : Some (reply.NotDown p) ≡ None = sym (ap (λ s. first (None ∷ refused_when (not (is_down s)) (reply.NotDown p) ∷ [])) f) ∙ i in absurd (cc wrong)
    go None Joining f i = let wrong : Some (reply.NotDown p) ≡ None = sym (ap (λ s. first (None ∷ refused_when (not (is_down s)) (reply.NotDown p) ∷ [])) f) ∙ i in absurd (cc wrong)

-- ---- what an event does

-- what is told by it
told_so : (g : ℕ) (c : Core) (s : Copies Entry) → GoesFalling g c s ⊎ IsLost g c → GoesTold g c s (lists_of s) ⊎ IsLost g c
told_so g c s (inl k) = inl (told_of g c s k)
told_so g c s (inr e) = inr e

pub does : (g : ℕ) (e : Event) (c : Core) (s : Copies Entry) → IsInStep g c s → GoesTold g (do_event e c) s (lists_told g e c s) ⊎ IsLost g (do_event e c)
does g (event.Line line o) c s st =
    let a : Core = record c { progress = record c.progress { last_line = line } } in
    told_so g (begin_line line o c) s (or_moves g c (begin_line line o c) (moves_both g c a (begin_line line o c) (moves_quiet g c a (record { members = refl; groups = refl; tasks = refl; rejoins = refl; pool = refl })) (keeps_begin_line (steps_move g) line o c)) s st)
does g (event.Report p d) c s st = reports g p d c s st
does g (event.Turn line p) c s st = told_so g _ s (or_moves g c _ (unless_by line (no_peer p c ∷ not_up p c ∷ []) (λ core. core) c (Moves g c) (refuses g line c) (λ e. moves_same g c)) s st)
does g (event.Deliver line number) c s st = told_so g _ s (or_moves g c _ (delivered g line number c) s st)
does g (event.Lose line number) c s st = told_so g _ s (or_moves g c _ (lost g line number c) s st)
does g (event.Repeat line number) c s st = told_so g _ s (or_moves g c _ (repeated g line number c) s st)
does g (event.Nudge line p) c s st = told_so g _ s (or_moves g c _ (unless_by line (no_peer p c ∷ not_up p c ∷ []) (nudge_good p) c (Moves g c) (refuses g line c) (λ e. nudges_good g p c)) s st)
does g (event.Fail line p) c s st = told_so g _ s (unless_by line (no_peer p c ∷ not_up p c ∷ []) (go_down p) c (MovesOrLost g c) (λ r. or_moves g c _ (refuses g line c r)) (λ e. falls g p c) s st)
does g (event.Start line p) c s st = told_so g _ s (or_moves g c _ (unless_by line (no_peer p c ∷ not_down p c ∷ []) (start p) c (Moves g c) (refuses g line c) (λ e. starts g p c (down_of p c e))) s st)
