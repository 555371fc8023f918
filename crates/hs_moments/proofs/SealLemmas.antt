-- How many entries a peer has sealed is changed by reports alone.
use Rattle.std.proofs.Common.{◌≡◌, ◌∙◌, ap, sym, ℕ, zero, suc, ◌+◌, ◌-◌, Bool, true, false, List, [], ◌∷◌, Option, Some, None, refl, max, nat_lt}
use Rattle.std.specs.Prelude.{slice_get, slice_index_or, slice_set}
use Rattle.hs_anatomy.proofs.EventLemmas.{does_acts}
use Rattle.hs_anatomy.proofs.StillLemmas.{strokes_keep}
use Rattle.hs_anatomy.proofs.StrokeLemmas.{strokes_of}
use Rattle.hs_anatomy.specs.Acts.{Aside, Copies, Empties, Hears, Loses, Repeats, Reports, Resends, Seals, Starts, Takes, Views}
use Rattle.hs_anatomy.specs.Strokes.{Adds, Answers, BeginsAgain, Besides, Follows, IsStill, Leaves, Notes, Proposes, Reads, Renews, SendsAgain, Still, Stroke, TakesOut, TurnsGood, Waits}
use Rattle.hs_awaiting.specs.Words.{change_with, each}
use Rattle.hs_core_words.specs.Changing.{add_entry_tasks, change_group, change_pool, change_rejoin, post}
use Rattle.hs_core_words.specs.declared.event.Event.{Event}
use Rattle.hs_core_words.specs.declared.event.Event.TheVariants as event
use Rattle.hs_core_words.specs.Effects.{round_messages}
use Rattle.hs_core_words.specs.Joining.{begin_joining, follow_lead, joining_peers}
use Rattle.hs_core_words.specs.Looking.{catalogue_of, group_of, home, lead_of, sealed_of, shape_of}
use Rattle.hs_core_words.specs.Operating.{add_read}
use Rattle.hs_core_words.specs.State.{Core}
use Rattle.hs_core_words.specs.Step.{begin_event, do_event, line_of, step}
use Rattle.hs_desk.specs.declared.done.Done.{Done}
use Rattle.hs_entry.specs.declared.entry.Entry.{Entry}
use Rattle.hs_events.proofs.FrameLemmas.{Frame, begun_is, ended_same, frame_does, step_by}
use Rattle.hs_events.specs.Asked.{report_in}
use Rattle.hs_members.specs.Members.{Members, home_of}
use Rattle.hs_post.specs.Pool.{without}
use Rattle.hs_rejoin.specs.Rejoin.{follow}
use Rattle.hs_replica.specs.declared.replica.Replica.{Replica}
use Rattle.hs_replica.specs.Group.{Group, change_copy, commit_front, copy_of, first_peer, hears, last_number, lead, lead_takes, new_group, no_copy, on_have, proposal, propose, renew, stamp, take_committed, take_entry, tell_from}
use Rattle.hs_rounds.specs.Rounds.{sent_back}
use Rattle.hs_shard.specs.Rounds.{messages}

-- what a group knows sealed of a peer
abbrev sealed_in : Group → ℕ → ℕ
sealed_in g peer = (copy_of g peer).sealed

-- one of several is changed, but for this of it
set_same : {A : Type 0} (of : A → ℕ) (xs : List A) (place at : ℕ) (new d e : A) → of new ≡ of (slice_index_or xs place d) → of (slice_index_or (slice_set xs place new) at e) ≡ of (slice_index_or xs at e)
set_same of [] place at new d e h = refl
set_same of (x ∷ xs) zero zero new d e h = h
set_same of (x ∷ xs) zero (suc at) new d e h = refl
set_same of (x ∷ xs) (suc place) zero new d e h = refl
set_same of (x ∷ xs) (suc place) (suc at) new d e h = set_same of xs place at new d e h

-- ---- of each change of a group

change_seals : (p : ℕ) (f : Replica → Replica) (g : Group) (peer : ℕ) → ((x : Replica) → (f x).sealed ≡ x.sealed) → sealed_in (change_copy p f g) peer ≡ sealed_in g peer
change_seals p f g peer h = set_same (λ (x : Replica). x.sealed) g.copies (p - first_peer g) (peer - first_peer g) (f (copy_of g p)) no_copy no_copy (h (copy_of g p))

take_seals : (p : ℕ) (entry : Entry) (g : Group) (peer : ℕ) → sealed_in (take_entry p entry g) peer ≡ sealed_in g peer
take_seals p entry g peer = change_seals p (λ c. record c { stamps = stamp entry c.stamps }) g peer (λ x. refl)

lead_seals : (l : Option ℕ) (entry : Entry) (g : Group) (peer : ℕ) → sealed_in (lead_takes l entry g) peer ≡ sealed_in g peer
lead_seals None entry g peer = refl
lead_seals (Some l) entry g peer = take_seals l entry g peer

have_seals : (from view sealed : ℕ) (g : Group) (peer : ℕ) → sealed_in (on_have from view sealed g) peer ≡ sealed_in g peer
have_seals from view sealed g peer = go (hears from view g) refl
  where
    go : (b : Bool) → hears from view g ≡ b → sealed_in (on_have from view sealed g) peer ≡ sealed_in g peer
    go true e = rw e (change_seals from (λ c. record c { known = max c.known sealed }) g peer (λ x. refl))
    go false e = rw e refl

tell_seals : (members : Members) (first : ℕ) (copies : List Replica) (at : ℕ) → (slice_index_or (tell_from members first copies) at no_copy).sealed ≡ (slice_index_or copies at no_copy).sealed
tell_seals members first [] at = refl
tell_seals members first (c ∷ copies) zero = refl
tell_seals members first (c ∷ copies) (suc at) = tell_seals members (first + 1) copies at

commit_seals : (g : Group) (peer : ℕ) → sealed_in (take_committed g) peer ≡ sealed_in g peer
commit_seals g peer = go (nat_lt g.front (commit_front g)) refl (slice_get g.waiting 0) refl
  where
    go : (b : Bool) → nat_lt g.front (commit_front g) ≡ b → (o : Option Entry) → slice_get g.waiting 0 ≡ o → sealed_in (take_committed g) peer ≡ sealed_in g peer
    go true e None f = rw (e, f) refl
    go true e (Some entry) f = rw (e, f) refl
    go false e o f = rw e refl

-- ---- of each stroke

-- of each peer as many are sealed
abbrev SealsStay : Core → Core → Type 0
SealsStay a b = (at peer : ℕ) (none : Group) → sealed_in (slice_index_or b.groups at none) peer ≡ sealed_in (slice_index_or a.groups at none) peer

same_groups : (a b : Core) → b.groups ≡ a.groups → SealsStay a b
same_groups a b e = λ at peer none. ap (λ gs. sealed_in (slice_index_or gs at none) peer) e

stay_both : (a b c : Core) → SealsStay a b → SealsStay b c → SealsStay a c
stay_both a b c f g = λ at peer none. g at peer none ∙ f at peer none

stay_by : (shard : ℕ) (f : Group → Group) (c : Core) → ((peer : ℕ) → sealed_in (f (group_of shard c)) peer ≡ sealed_in (group_of shard c) peer) → SealsStay c (change_group shard f c)
stay_by shard f c h = λ at peer none. set_same (λ (g : Group). sealed_in g peer) c.groups shard at (f (group_of shard c)) (new_group (shape_of c) shard 0 0 []) none (h peer)

groups_with : {B : Type 0} (o : Option B) (f : B → Core → Core) (c : Core) → ((y : B) (x : Core) → (f y x).groups ≡ x.groups) → (change_with o f c).groups ≡ c.groups
groups_with None f c h = refl
groups_with (Some y) f c h = h y c

groups_each : {B : Type 0} (ys : List B) (f : B → Core → Core) (c : Core) → ((y : B) (x : Core) → (f y x).groups ≡ x.groups) → (each ys f c).groups ≡ c.groups
groups_each [] f c h = refl
groups_each (y ∷ ys) f c h = groups_each ys f (f y c) h ∙ h y c

groups_follow : (shard : ℕ) (c : Core) → (follow_lead shard c).groups ≡ c.groups
groups_follow shard c =
    groups_with (lead_of shard c) (λ lead x. each (joining_peers shard x) (λ peer. change_rejoin peer (follow lead)) x) c
    (λ lead x. groups_each (joining_peers shard x) (λ peer. change_rejoin peer (follow lead)) x (λ peer y. refl))

module _ {s : Core} {e : Option Event} (quiet : (peer : ℕ) (d : Done) → e ≡ Some (event.Report peer d) → ⊥) where
  seals_aside : (a b : Core) → Aside s e a b → SealsStay a b
  seals_aside a b (Reports peer d known) = absurd (quiet peer _ known.reported)
  seals_aside a b (Seals peer number known) = absurd (quiet peer _ known.reported)
  seals_aside a b (Empties peer known) = absurd (quiet peer _ known.reported)
  seals_aside a b (Copies peer number known) = absurd (quiet peer _ known.reported)
  seals_aside a b (Loses number m at) = same_groups a b refl
  seals_aside a b (Takes number shard to view next entry known fits) =
      let one : Core = change_group shard (take_entry to entry) (change_pool (without number) a) in
      stay_both a one b (stay_by shard (take_entry to entry) (change_pool (without number) a) (λ peer. take_seals to entry (group_of shard a) peer)) (same_groups one b (groups_follow shard (add_entry_tasks to next entry one)))
  seals_aside a b (Hears number shard from to view sealed known good) = stay_by shard (on_have from view sealed) (change_pool (without number) a) (λ peer. have_seals from view sealed (group_of shard a) peer)
  seals_aside a b (Repeats number m at room) = same_groups a b refl
  seals_aside a b (Resends shard peer known) = same_groups a b refl
  seals_aside a b (Starts line peer start known may) = same_groups a b refl
  seals_aside a b (Views shard) = same_groups a b refl

  seals_still : (a b : Core) → Still s e a b → SealsStay a b
  seals_still a b (Besides x) = seals_aside a b x
  seals_still a b (Proposes shard entry by) =
      let one : Core = change_group shard (propose entry) a in
      stay_both a one b (stay_by shard (propose entry) a (λ peer. lead_seals (lead (group_of shard a)) entry (group_of shard a) peer))
      (same_groups one b (groups_with (lead_of shard a) (λ peer. add_entry_tasks peer (last_number (group_of shard a) + 1) entry) (post (proposal entry (group_of shard a)) one) (λ peer x. refl)))
  seals_still a b (Reads line number w at waits) = same_groups a b (groups_with (lead_of w.shard a) (add_read number line) a (λ peer x. refl))
  seals_still a b (SendsAgain back shard peer known) =
      let run = (catalogue_of shard a).run in
      same_groups a b (groups_with (sent_back back run) (λ sent. post (round_messages shard (messages (catalogue_of shard a).shape.shards sent.0 sent.1 run))) a (λ sent x. refl))
  seals_still a b (Leaves peer known) = same_groups a b refl
  seals_still a b (TurnsGood peer) = same_groups a b refl
  seals_still a b (BeginsAgain shard) = same_groups a b (groups_each (joining_peers shard a) begin_joining a (λ peer x. refl))
  seals_still a b (Follows shard) = same_groups a b (groups_follow shard a)

  seals_stroke : (a b : Core) → Stroke s e a b → SealsStay a b
  seals_stroke a b (IsStill x) = seals_still a b x
  seals_stroke a b (Notes by) = same_groups a b refl
  seals_stroke a b (Adds line o start is) = same_groups a b refl
  seals_stroke a b (Waits line w was at one) = same_groups a b refl
  seals_stroke a b (Answers line w was told at one by) = same_groups a b refl
  seals_stroke a b (TakesOut shard number entry next) = stay_by shard take_committed a (λ peer. commit_seals (group_of shard a) peer)
  seals_stroke a b (Renews shard) = stay_by shard (renew a.members) a (λ peer. tell_seals a.members (first_peer (group_of shard a)) (group_of shard a).copies (peer - first_peer (group_of shard a)))

-- ---- of an event

pub seals_stay : (core : Core) (e : Event) (at peer : ℕ) → report_in e ≡ None → sealed_of peer (step e at core) ≡ sealed_of peer core
seals_stay core e at peer none = step_by (λ (c : Core). sealed_of peer c ≡ sealed_of peer core) e at core refl
    (ended_same (λ (c : Core). sealed_of peer c) d refl refl ∙ does ∙ ap (λ (c : Core). sealed_of peer c) (begun_is e at core))
  where
    b : Core
    b = begin_event (line_of e) at core

    d : Core
    d = do_event e b

    quiet : (p : ℕ) (x : Done) → Some e ≡ Some (event.Report p x) → ⊥
    quiet p x is = some_is_not (p, x) (sym (reported is) ∙ none)
      where
        reported : Some e ≡ Some (event.Report p x) → report_in e ≡ Some (p, x)
        reported is = let same : e ≡ event.Report p x = cc is in ap report_in same

        some_is_not : (y : ℕ × Done) → Some y ≡ None → ⊥
        some_is_not y is = cc is

    does : sealed_of peer d ≡ sealed_of peer b
    does =
        (strokes_keep (λ (c : Core). SealsStay b c) (λ x y one h. stay_both b x y h (seals_stroke quiet x y one)) d (strokes_of (does_acts b e)) (same_groups b b refl)) (home peer d) peer (new_group (shape_of d) (home peer d) 0 0 [])
        ∙ ap (λ (f : Frame). sealed_in (slice_index_or b.groups (home_of f.shape peer) (new_group f.shape (home_of f.shape peer) 0 0 [])) peer) (frame_does e b)
