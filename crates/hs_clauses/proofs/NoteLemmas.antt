-- What a core has told as it opens: notes of peers that are down. They are no events of the plain store.
use Rattle.std.proofs.Common.{◌≡◌, ◌∙◌, sym, ap, subst, ℕ, zero, suc, ◌+◌, ◌*◌, ◌<◌, ◌≤◌, Bool, true, false, not, List, [], ◌∷◌, ◌++◌, length, Option, Some, None, refl, arith, nat_lt}
use Rattle.std.specs.List.{AllByRecursion, range_with_len}
use Rattle.std.specs.Prelude.{if◌then◌else◌}
use Rattle.hs_answered.specs.Telling.{Judging, events_in}
use Rattle.hs_awaiting.specs.Words.{change_if, change_with, each}
use Rattle.hs_core_words.specs.Changing.{add_entry_tasks, change_group, note, post, set_viewed}
use Rattle.hs_core_words.specs.Looking.{group_of, lead_of, shape_of, shards_of, status_of}
use Rattle.hs_core_words.specs.Opening.{Taken, begin_views, new_core, note_down, note_if_down, open_core}
use Rattle.hs_core_words.specs.State.{Core}
use Rattle.hs_core_words.specs.Step.{end_event, keep_entries, refuse_entries}
use Rattle.hs_core_words.specs.Views.{begin_view, change_view, restart}
use Rattle.hs_entry.specs.declared.entry.Entry.TheVariants as kind
use Rattle.hs_standing.proofs.AllLemmas.{all_append, all_filter}
use Rattle.hs_journal.specs.declared.entry.JournalEntry.{JournalEntry}
use Rattle.hs_journal.specs.declared.entry.Who.{Who}
use Rattle.hs_journal.specs.declared.entry.Who.TheVariants as who
use Rattle.hs_journal.specs.Events.{HasAnswer, IsAnswered, event_at, events_of, store_by, with_event}
use Rattle.hs_journal.specs.Moments.{below}
use Rattle.hs_limits.specs.declared.limits.Limits.{Limits}
use Rattle.hs_limits.specs.declared.shape.Shape.{Shape}
use Rattle.hs_members.specs.Members.{Members, all_peers, has_good, is_good_status, status, view_of}
use Rattle.hs_model.specs.declared.deed.Deed.TheVariants as deed
use Rattle.hs_model.specs.declared.reply.Reply.TheVariants as reply
use Rattle.hs_model.specs.Run.{Event, IsLegal}
use Rattle.hs_model.specs.Store.{Store}
use Rattle.hs_replica.specs.Group.{last_number, proposal, propose, renew, renewal}

-- ---- entries of the store

abbrev pub IsNote : JournalEntry → Type 0
IsNote entry = entry.who ≡ who.Store

-- they have no event
module _ (by : Judging) where
  none_at : (s : Store) (entry : JournalEntry) → IsNote entry → event_at by.commands by.name s entry ≡ None
  none_at s entry noted = ap (λ (w : Who). event_at by.commands by.name s (record entry { who = w })) noted

  pub no_events : (s : Store) (entries : List JournalEntry) → AllByRecursion IsNote entries → events_in by s entries ≡ []
  no_events s [] h = refl
  no_events s (x ∷ entries) h =
      ap (λ (o : Option Event). with_event o (events_of by.commands by.name by.limits (store_by by.limits s o) entries)) (none_at s x h.0)
      ∙ no_events s entries h.1

  pub notes_legal : (s : Store) (entries : List JournalEntry) → AllByRecursion IsNote entries → IsLegal by.limits s (events_in by s entries)
  notes_legal s entries h = subst (λ (es : List Event). IsLegal by.limits s es) (sym (no_events s entries h)) tt

  pub notes_answered : (s : Store) (entries : List JournalEntry) → AllByRecursion IsNote entries → IsAnswered by.commands by.name by.limits s entries
  notes_answered s [] h = tt
  notes_answered s (x ∷ entries) h = (
    subst (λ (o : Option Event). HasAnswer by.limits s x o) (sym (none_at s x h.0)) tt,
    notes_answered (store_by by.limits s (event_at by.commands by.name s x)) entries h.1,
  )

pub notes_below : (moment : ℕ) (entries : List JournalEntry) → AllByRecursion IsNote entries → AllByRecursion IsNote (below moment entries)
notes_below moment entries h = all_filter IsNote (λ (entry : JournalEntry). nat_lt entry.moment moment) entries h

-- ---- views begin beside peers and what is told

pub record Silent (a b : Core) : Type 0 where
  pub members : b.members ≡ a.members
  pub catalogues : b.catalogues ≡ a.catalogues
  pub journal : b.journal ≡ a.journal
  pub refused : b.refused ≡ a.refused
  pub entries : b.entries ≡ a.entries
  pub moment : b.moment ≡ a.moment

view_silent : (shard : ℕ) (c : Core) → Silent c (begin_view shard c)
view_silent shard c = go (lead_of shard posted)
  where
    again : Core
    again = restart shard (change_group shard (renew c.members) (set_viewed shard false c))

    posted : Core
    posted = post (renewal (group_of shard again)) again

    sent : Core
    sent = post (proposal (kind.View (view_of shard posted.members)) (group_of shard posted)) (change_group shard (propose (kind.View (view_of shard posted.members))) posted)

    go : (lead : Option ℕ) → Silent c (change_with lead (λ peer. add_entry_tasks peer (last_number (group_of shard posted) + 1) (kind.View (view_of shard posted.members))) sent)
    go None = record { members = refl; catalogues = refl; journal = refl; refused = refl; entries = refl; moment = refl }
    go (Some peer) = record { members = refl; catalogues = refl; journal = refl; refused = refl; entries = refl; moment = refl }

change_silent : (shard : ℕ) (c : Core) → Silent c (change_view shard c)
change_silent shard c = go (has_good shard c.members)
  where
    go : (b : Bool) → Silent c (change_if b (begin_view shard) c)
    go true = view_silent shard c
    go false = record { members = refl; catalogues = refl; journal = refl; refused = refl; entries = refl; moment = refl }

pub all_silent : (shards : List ℕ) (c : Core) → Silent c (each shards change_view c)
all_silent [] c = record { members = refl; catalogues = refl; journal = refl; refused = refl; entries = refl; moment = refl }
all_silent (s ∷ shards) c =
    let one : Silent c (change_view s c) = change_silent s c in
    let rest : Silent (change_view s c) (each shards change_view (change_view s c)) = all_silent shards (change_view s c) in
    record { members = rest.members ∙ one.members; catalogues = rest.catalogues ∙ one.catalogues; journal = rest.journal ∙ one.journal; refused = rest.refused ∙ one.refused; entries = rest.entries ∙ one.entries; moment = rest.moment ∙ one.moment }

-- ---- the notes

record Noted (a c : Core) : Type 0 where
  catalogues : c.catalogues ≡ a.catalogues
  journal : c.journal ≡ []
  refused : c.refused ≡ []
  entries : AllByRecursion IsNote c.entries

one_noted : (a : Core) (peer : ℕ) (c : Core) → Noted a c → Noted a (note_if_down peer c)
one_noted a peer c its = go (not (is_good_status (status_of peer c)))
  where
    go : (b : Bool) → Noted a (change_if b (note who.Store deed.Nothing (reply.Down peer 0)) c)
    go true = record {
      catalogues = its.catalogues;
      journal = its.journal;
      refused = its.refused;
      entries = all_append IsNote c.entries (record { who = who.Store; moment = c.moment; deed = deed.Nothing; reply = reply.Down peer 0 } ∷ []) its.entries (refl, tt);
    }
    go false = its

all_noted : (a : Core) (peers : List ℕ) (c : Core) → Noted a c → Noted a (each peers note_if_down c)
all_noted a [] c its = its
all_noted a (peer ∷ peers) c its = all_noted a peers (note_if_down peer c) (one_noted a peer c its)

-- ---- a core that opens

pub record Opens (taken : Taken) (c : Core) : Type 0 where
  pub catalogues : c.catalogues ≡ taken.catalogues
  pub journal : AllByRecursion IsNote c.journal
  pub refused : AllByRecursion IsNote c.refused
  pub entries : c.entries ≡ []

ended : (taken : Taken) (a c : Core) → a.catalogues ≡ taken.catalogues → Noted a c → Opens taken (end_event c)
ended taken a c same its = go (nat_lt c.limits.ops (length c.journal + length c.entries))
  where
    none : (xs : List JournalEntry) → xs ≡ [] → AllByRecursion IsNote xs
    none xs e = subst (λ (es : List JournalEntry). AllByRecursion IsNote es) (sym e) tt

    go : (b : Bool) → Opens taken (if b then refuse_entries c else keep_entries c)
    go true = record { catalogues = its.catalogues ∙ same; journal = none c.journal its.journal; refused = its.entries; entries = refl }
    go false = record {
      catalogues = its.catalogues ∙ same;
      journal = all_append IsNote c.journal c.entries (none c.journal its.journal) its.entries;
      refused = none c.refused its.refused;
      entries = refl;
    }

module _ (shape : Shape) (limits : Limits) (taken : Taken) (moment : ℕ) where
  abbrev first : Core
  first = new_core shape limits taken moment

  viewed : Silent (new_core shape limits taken moment) (begin_views (new_core shape limits taken moment))
  viewed = all_silent (shards_of (new_core shape limits taken moment)) (new_core shape limits taken moment)

  pub opens_noted : Opens taken (open_core shape limits taken moment)
  opens_noted =
      let b : Core = begin_views (new_core shape limits taken moment) in
      ended taken b (note_down b) viewed.catalogues
      (all_noted b (all_peers (shape_of b)) b (record { catalogues = refl; journal = viewed.journal; refused = viewed.refused; entries = subst (λ (es : List JournalEntry). AllByRecursion IsNote es) (sym viewed.entries) tt }))

  -- ---- where all peers are good

  none_noted : (k n : ℕ) (c : Core) → ((p : ℕ) → k ≤ p → p < k + n → is_good_status (status_of p c) ≡ true) → each (range_with_len k n) note_if_down c ≡ c
  none_noted k zero c good = refl
  none_noted k (suc n) c good =
      ap (λ (x : Core). each (range_with_len (k + 1) n) note_if_down x) (ap (λ b. change_if (not b) (note who.Store deed.Nothing (reply.Down k 0)) c) (good k (omega arith) (omega arith)))
      ∙ none_noted (k + 1) n c (λ p low high. good p (omega (arith, low)) (omega (arith, high)))

  -- nothing is told
  pub opens_silent : ((p : ℕ) → p < shape.shards * shape.copies → is_good_status (status p (new_core shape limits taken moment).members) ≡ true) → (open_core shape limits taken moment).journal ≡ []
  opens_silent good =
      let b : Core = begin_views (new_core shape limits taken moment) in
      ap (λ (x : Core). (end_event x).journal)
      (none_noted 0 ((shape_of b).shards * (shape_of b).copies) b (λ p low high.
      ap (λ (m : Members). is_good_status (status p m)) viewed.members
      ∙ good p (let is = ap (λ (m : Members). m.shape.shards * m.shape.copies) viewed.members in omega (arith, is, high))))
      ∙ over b viewed.journal viewed.entries
    where
      over : (c : Core) → c.journal ≡ [] → c.entries ≡ [] → (end_event c).journal ≡ []
      over c journal entries = go (nat_lt c.limits.ops (length c.journal + length c.entries))
        where
          go : (b : Bool) → (if b then refuse_entries c else keep_entries c).journal ≡ []
          go true = journal
          go false = ap (λ (xs : List JournalEntry). xs ++ c.entries) journal ∙ entries
