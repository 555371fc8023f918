-- How far a shard has swept changes by an event only by an entry that takes effect in it.
use Rattle.std.proofs.Common.{◌≡◌, ◌∙◌, sym, ap, subst, ◌⊎◌, inl, inr, ℕ, ◌+◌, Bool, true, false, cond, List, length, Option, Some, None, refl, nat_lt, slice_index_or}
use Rattle.std.proofs.lemmas.Bool.{cases_eq}
use Rattle.hs_anatomy.proofs.AsideLemmas.{kept_aside, kept_follow, kept_joining, kept_round}
use Rattle.hs_anatomy.proofs.EventLemmas.{does_acts}
use Rattle.hs_anatomy.proofs.SizeLemmas.{sizes_same}
use Rattle.hs_anatomy.proofs.StepLemmas.{step_is}
use Rattle.hs_anatomy.proofs.StrokeLemmas.{strokes_of}
use Rattle.hs_anatomy.specs.Acts.{Act, Acts, AndThen, Asks, Enters, Falls, FindsDown, Gets, Goes, Hands, IsAside, Joins, NoAct, Opens, Refuses, SendsRound, TakesEffect, TellsDown, begun, fallen, joined, without_job}
use Rattle.hs_anatomy.specs.Kept.{Kept}
use Rattle.hs_anatomy.specs.Sizes.{Sizes}
use Rattle.hs_any_events.proofs.OpeningLemmas.{began_like}
use Rattle.hs_any_events.specs.Events.{Sweeps, SweepsBy}
use Rattle.hs_awaiting.specs.Words.{change_if, each}
use Rattle.hs_core_words.specs.Changing.{change_pool, set_rejoin, set_status}
use Rattle.hs_core_words.specs.declared.event.Event.{Event}
use Rattle.hs_core_words.specs.Failing.{leave}
use Rattle.hs_core_words.specs.Joining.{begin_joining, joining_peers}
use Rattle.hs_core_words.specs.Looking.{catalogue_of, group_of, home, lead_of, shape_of, status_of}
use Rattle.hs_core_words.specs.Seeing.{pointers_for}
use Rattle.hs_core_words.specs.State.{Core}
use Rattle.hs_core_words.specs.Step.{do_event, end_event, keep_entries, refuse_entries, step}
use Rattle.hs_core_words.specs.Views.{begin_view, change_view}
use Rattle.hs_desk.specs.declared.fault.CoreFault.{CoreFault}
use Rattle.hs_effects.proofs.QuietLemmas.{Quiet, going_quiet, proposed_quiet}
use Rattle.hs_effects.specs.Taking.{done_by, taken}
use Rattle.hs_entry.specs.declared.entry.Entry.{Entry}
use Rattle.hs_entry.specs.declared.entry.Entry.TheVariants as kind
use Rattle.hs_fold.proofs.Shards.PlaceLemmas.{other-at}
use Rattle.hs_limits.specs.declared.limits.PeerStatus.TheVariants.{Good}
use Rattle.hs_limits.specs.declared.shape.Shape.{Shape}
use Rattle.hs_members.specs.Members.{Members, has_good, is_good_status}
use Rattle.hs_ops.specs.Operations.{bytes_step, go_step}
use Rattle.hs_post.specs.Pool.{without}
use Rattle.hs_replica.specs.Group.{committed, is_peer}
use Rattle.hs_shard.specs.Facts.{Catalogue, empty_catalogue}
use Rattle.hs_standing.proofs.LegalLineLemmas.{begun_quiet}
use Rattle.hs_standing.proofs.LinesStepLemmas.{step_ended}
use Rattle.hs_standing.proofs.MuteLemmas.{at_once_quiet}
use Rattle.hs_standing.specs.Changes.{told_at_once}

-- ---- acts but an entry's that takes effect leave all catalogues

abbrev Same : Core → Core → Type 0
Same a b = b.catalogues ≡ a.catalogues

view_same : (shard : ℕ) (c : Core) → Same c (change_view shard c)
view_same shard c = go (has_good shard c.members)
  where
    go : (b : Bool) → Same c (change_if b (begin_view shard) c)
    go true = (began_like shard c).catalogues
    go false = refl

fallen_same : (peer : ℕ) (c : Core) → Same c (fallen peer c)
fallen_same peer c = again (is_peer peer (lead_of (home peer c) c)) (change_if (is_good_status (status_of peer c)) (change_view (home peer c)) (leave peer c)) (viewed (is_good_status (status_of peer c)))
  where
    viewed : (b : Bool) → Same c (change_if b (change_view (home peer c)) (leave peer c))
    viewed true = view_same (home peer c) (leave peer c)
    viewed false = refl

    again : (b : Bool) (x : Core) → Same c x → Same c (change_if b (λ core. each (joining_peers (home peer c) core) begin_joining core) x)
    again true x same = ap (λ (k : Kept). k.catalogues) (kept_joining (joining_peers (home peer c) x) x) ∙ same
    again false x same = same

joined_same : (peer : ℕ) (c : Core) → Same c (joined peer c)
joined_same peer c =
    let good : Core = set_rejoin peer None (set_status peer Good c) in
    let viewed : Core = change_view (home peer c) good in
    ap (λ (k : Kept). k.catalogues) (kept_follow (home peer c) viewed) ∙ view_same (home peer c) good

-- it takes effect, and is told of
record IsEffect (a b : Core) : Type 0 where
  shard : ℕ
  number : ℕ
  entry : Entry
  next : committed (group_of shard a) ≡ Some (number, entry)
  is : b ≡ told_at_once shard entry a

act_same : {s : Core} {e : Option Event} (a b : Core) → Act s e a b → Same a b ⊎ IsEffect a b
act_same a b (IsAside x) = inl (ap (λ (k : Kept). k.catalogues) (kept_aside x))
act_same a b (Refuses now refusal is why) = inl refl
act_same a b (TellsDown by peer is) = inl refl
act_same a b (FindsDown peer is bad) = inl refl
act_same a b (Asks line o start is) = inl (begun_quiet line o a).catalogues
act_same a b (Goes line w at idle) = inl (going_quiet go_step line a).catalogues
act_same a b (Hands peer number line bytes w known) =
    let x : Core = without_job peer a in
    inl (going_quiet (λ v o. bytes_step v bytes (pointers_for w.shard w.operation.op x) o) line x).catalogues
act_same a b (TakesEffect shard number entry next) = inr (record { shard = shard; number = number; entry = entry; next = next; is = refl })
act_same a b (Enters shard urged due) = inl (proposed_quiet shard (kind.Enter 0 ((catalogue_of shard a).epoch + 1)) a).catalogues
act_same a b (Gets number from to epoch round total deltas known new) = inl (proposed_quiet to (kind.Got from epoch round total deltas) (change_pool (without number) a)).catalogues
act_same a b (SendsRound back shard peer known) = inl (ap (λ (k : Kept). k.catalogues) (kept_round back shard a))
act_same a b (Falls peer known) = inl (fallen_same peer a)
act_same a b (Joins peer level) = inl (joined_same peer a)
act_same a b (Opens shard is good) = inl (began_like shard a).catalogues

-- ---- how far a shard has swept

abbrev swept : ℕ → Core → ℕ
swept shard c = (catalogue_of shard c).swept

catalogue_like : (shard : ℕ) (a b : Core) → shape_of b ≡ shape_of a → Same a b → catalogue_of shard b ≡ catalogue_of shard a
catalogue_like shard a b shape same =
    ap (λ (s : Shape). slice_index_or b.catalogues shard (empty_catalogue s shard)) shape
    ∙ ap (λ (ks : List Catalogue). slice_index_or ks shard (empty_catalogue (shape_of a) shard)) same

module _ (shard : ℕ) (event : Event) (moment : ℕ) (core : Core) where
  abbrev s : Core
  s = begun event moment core

  shape_at : (a : Core) → Acts (begun event moment core) (Some event) a → shape_of a ≡ shape_of (begun event moment core)
  shape_at a xs = ap (λ (z : Sizes). z.shape) (sizes_same a (strokes_of xs))

  -- an entry takes effect, by which the shard has swept otherwise
  here : (a b : Core) → Acts (begun event moment core) (Some event) a → IsEffect a b → Sweeps shard a b → SweepsBy shard event moment core
  here a b xs x differs = elim (cases_eq shard x.shard) [
    | inl is ↦
        let next : committed (group_of shard a) ≡ Some (x.number, x.entry) = subst (λ g. committed (group_of g a) ≡ Some (x.number, x.entry)) (sym is) x.next in
        record { reached = a; acts = xs; number = x.number; entry = x.entry; next = next; sweeps = λ same. differs (told is ∙ same) }
    | inr differs_from ↦ absurd (differs (other differs_from))
  ]
    where
      t : Core
      t = taken x.shard x.entry a

      left : swept shard b ≡ swept shard t
      left =
          let q : Quiet t (told_at_once x.shard x.entry a) = at_once_quiet x.shard x.entry (done_by x.shard x.entry a).effect t in
          ap (swept shard) x.is ∙ ap (λ (k : Catalogue). k.swept) (catalogue_like shard t (told_at_once x.shard x.entry a) (ap (λ (m : Members). m.shape) q.members) q.catalogues)

      told : shard ≡ x.shard → swept shard b ≡ swept shard (taken shard x.entry a)
      told is = left ∙ ap (λ g. swept shard (taken g x.entry a)) (sym is)

      other : (shard ≡ x.shard → ⊥) → swept shard b ≡ swept shard a
      other apart = left ∙ ap (λ (k : Catalogue). k.swept) (other-at (empty_catalogue (shape_of a) shard) a.catalogues x.shard shard (done_by x.shard x.entry a).catalogue apart)

  swept_by : (b : Core) → Acts (begun event moment core) (Some event) b → Sweeps shard (begun event moment core) b → SweepsBy shard event moment core
  swept_by b NoAct differs = absurd (differs refl)
  swept_by b (AndThen {a = a} xs x) differs = by (cases_eq (swept shard a) (swept shard s)) (λ early. swept_by a xs early)
    where
      by : (swept shard a ≡ swept shard s) ⊎ (swept shard a ≡ swept shard s → ⊥) → (Sweeps shard (begun event moment core) a → SweepsBy shard event moment core) → SweepsBy shard event moment core
      by (inr early) before = before early
      by (inl same) before = elim (act_same a b x) [
        | inl still ↦ absurd (differs (ap (λ (k : Catalogue). k.swept) (catalogue_like shard a b (shape_at b (AndThen xs x) ∙ sym (shape_at a xs)) still) ∙ same))
        | inr effect ↦ here a b xs effect (λ stays. differs (stays ∙ same))
      ]

  ended_same : (c : Core) → swept shard (end_event c) ≡ swept shard c
  ended_same c = go (nat_lt c.limits.ops (length c.journal + length c.entries))
    where
      go : (b : Bool) → swept shard (cond b (refuse_entries c) (keep_entries c)) ≡ swept shard c
      go true = refl
      go false = refl

  pub sweeps_by : Sweeps shard core (step event moment core) → SweepsBy shard event moment core
  sweeps_by differs = go core.ended refl
    where
      b : Core
      b = do_event event (begun event moment core)

      go : (o : Option CoreFault) → core.ended ≡ o → SweepsBy shard event moment core
      go None going = swept_by b (does_acts (begun event moment core) event) (λ same. differs (ap (swept shard) (step_is event moment core going) ∙ ended_same b ∙ same))
      go (Some fault) over = absurd (differs (ap (swept shard) (step_ended event moment core fault over)))
