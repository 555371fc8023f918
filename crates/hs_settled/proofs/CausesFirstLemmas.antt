-- What a core has told as it opens: that each peer which is not good is down, before any line.
use Rattle.std.proofs.Common.{◌≡◌, ◌⊎◌, inl, inr, ◌∙◌, sym, ap, subst, ℕ, ◌+◌, ◌*◌, ◌<◌, ◌++◌, Bool, true, false, cond, not, List, [], ◌∷◌, Option, Some, None, refl, arith, length, nat_lt}
use Rattle.std.proofs.lemmas.Bool.{cases_lt}
use Rattle.std.proofs.lemmas.List.{get_or-replicate, get_or_past, length-map, length-replicate}
use Rattle.std.specs.List.{AllByRecursion}
use Rattle.std.specs.Prelude.{if◌then◌else◌, replicate, slice_index_or}
use Rattle.hs_settled.proofs.AddingLemmas.{Ends, ends_so}
use Rattle.hs_settled.proofs.CausesListLemmas.{range_all}
use Rattle.hs_settled.proofs.SeatLemmas.{AreOwn, CopiesFrom, Seated, peers_in, seats_end, seats_opening}
use Rattle.hs_awaiting.specs.Words.{change_if, change_with, each}
use Rattle.hs_core_words.specs.Changing.{add_entry_tasks, change_group, note, post, set_viewed}
use Rattle.hs_core_words.specs.Looking.{group_of, lead_of, shape_of, shards_of, status_of}
use Rattle.hs_core_words.specs.Opening.{Taken, begin_views, new_core, note_down, note_if_down, open_core}
use Rattle.hs_core_words.specs.State.{Core}
use Rattle.hs_core_words.specs.Step.{keep_entries, refuse_entries}
use Rattle.hs_core_words.specs.Views.{begin_view, change_view, restart}
use Rattle.hs_entry.specs.declared.entry.Entry.TheVariants as kind
use Rattle.hs_journal.specs.declared.entry.JournalEntry.{JournalEntry}
use Rattle.hs_journal.specs.declared.entry.Who.TheVariants as who
use Rattle.hs_limits.specs.declared.limits.Limits.{Limits}
use Rattle.hs_limits.specs.declared.limits.PeerStatus.TheVariants.{Down, Good}
use Rattle.hs_limits.specs.declared.shape.Shape.{Shape}
use Rattle.hs_members.specs.Members.{Members, all_peers, has_good, is_good_status, view_of}
use Rattle.hs_model.specs.declared.deed.Deed.TheVariants as deed
use Rattle.hs_model.specs.declared.reply.Reply.TheVariants as reply
use Rattle.hs_settled.proofs.NotingLemmas.{all_append}
use Rattle.hs_settled.proofs.RefusalLemmas.{ended_told}
use Rattle.hs_replica.specs.Group.{last_number, proposal, propose, renew, renewal}
use Rattle.hs_told.specs.InTurn.{told_of}

-- ---- views begin beside all that is told

pub record Quiet (a b : Core) : Type 0 where
  pub members : b.members ≡ a.members
  pub limits : b.limits ≡ a.limits
  pub journal : b.journal ≡ a.journal
  pub refused : b.refused ≡ a.refused
  pub entries : b.entries ≡ a.entries
  pub line : b.progress.event_line ≡ a.progress.event_line
  pub moment : b.moment ≡ a.moment

view_quiet : (shard : ℕ) (c : Core) → Quiet c (begin_view shard c)
view_quiet shard c = go (lead_of shard posted)
  where
    again : Core
    again = restart shard (change_group shard (renew c.members) (set_viewed shard false c))

    posted : Core
    posted = post (renewal (group_of shard again)) again

    sent : Core
    sent = post (proposal (kind.View (view_of shard posted.members)) (group_of shard posted)) (change_group shard (propose (kind.View (view_of shard posted.members))) posted)

    go : (lead : Option ℕ) → Quiet c (change_with lead (λ peer. add_entry_tasks peer (last_number (group_of shard posted) + 1) (kind.View (view_of shard posted.members))) sent)
    go None = record { members = refl; limits = refl; journal = refl; refused = refl; entries = refl; line = refl; moment = refl }
    go (Some peer) = record { members = refl; limits = refl; journal = refl; refused = refl; entries = refl; line = refl; moment = refl }

change_quiet : (shard : ℕ) (c : Core) → Quiet c (change_view shard c)
change_quiet shard c = go (has_good shard c.members)
  where
    go : (b : Bool) → Quiet c (change_if b (begin_view shard) c)
    go true = view_quiet shard c
    go false = record { members = refl; limits = refl; journal = refl; refused = refl; entries = refl; line = refl; moment = refl }

all_quiet : (shards : List ℕ) (c : Core) → Quiet c (each shards change_view c)
all_quiet [] c = record { members = refl; limits = refl; journal = refl; refused = refl; entries = refl; line = refl; moment = refl }
all_quiet (s ∷ shards) c =
    let one : Quiet c (change_view s c) = change_quiet s c in
    let rest : Quiet (change_view s c) (each shards change_view (change_view s c)) = all_quiet shards (change_view s c) in
    record {
      members = rest.members ∙ one.members;
      limits = rest.limits ∙ one.limits;
      journal = rest.journal ∙ one.journal;
      refused = rest.refused ∙ one.refused;
      entries = rest.entries ∙ one.entries;
      line = rest.line ∙ one.line;
      moment = rest.moment ∙ one.moment;
    }

-- ---- the notes

-- an entry tells that one of so many peers is down, before any line
pub record IsFirst (n : ℕ) (entry : JournalEntry) : Type 0 where
  pub peer : ℕ
  pub low : peer < n
  pub store : entry.who ≡ who.Store
  pub told : entry.reply ≡ reply.Down peer 0

pub record First (n : ℕ) (m : Members) (l : Limits) (at : ℕ) (c : Core) : Type 0 where
  pub members : c.members ≡ m
  pub limits : c.limits ≡ l
  pub journal : c.journal ≡ []
  pub refused : c.refused ≡ []
  pub line : c.progress.event_line ≡ 0
  pub moment : c.moment ≡ at
  pub entries : AllByRecursion (λ (e : JournalEntry). IsFirst n e) c.entries

one_first : (n : ℕ) (m : Members) (l : Limits) (at peer : ℕ) (c : Core) → peer < n → First n m l at c → First n m l at (note_if_down peer c)
one_first n m l at peer c low p = go (not (is_good_status (status_of peer c)))
  where
    entry : JournalEntry
    entry = record { who = who.Store; moment = c.moment; deed = deed.Nothing; reply = reply.Down peer 0 }

    go : (b : Bool) → First n m l at (change_if b (note who.Store deed.Nothing (reply.Down peer 0)) c)
    go true = record {
      members = p.members;
      limits = p.limits;
      journal = p.journal;
      refused = p.refused;
      line = p.line;
      moment = p.moment;
      entries = all_append (λ (e : JournalEntry). IsFirst n e) c.entries (entry ∷ []) p.entries (record { peer = peer; low = low; store = refl; told = refl }, tt);
    }
    go false = p

all_first : (n : ℕ) (m : Members) (l : Limits) (at : ℕ) (peers : List ℕ) (c : Core) → AllByRecursion (λ k. k < n) peers → First n m l at c → First n m l at (each peers note_if_down c)
all_first n m l at [] c low p = p
all_first n m l at (peer ∷ peers) c low p = all_first n m l at peers (note_if_down peer c) low.1 (one_first n m l at peer c low.0 p)

same_each : {X : Type 0} (n : ℕ) (v : X) (x : ℕ) → slice_index_or (replicate n v) x v ≡ v
same_each n v x = elim (cases_lt x n) [
  | inl low ↦ get_or-replicate n x v v low
  | inr high ↦ get_or_past (replicate n v) x v (let e : length (replicate n v) ≡ n = length-replicate n v in omega (arith, e, high))
]

module _ (shape : Shape) (limits : Limits) (found : Taken) (moment : ℕ) (peers : length found.good ≡ shape.shards * shape.copies) where
  abbrev n : ℕ
  n = shape.shards * shape.copies

  abbrev new : Core
  new = new_core shape limits found moment

  abbrev noted : Core
  noted = note_down (begin_views new)

  first_noted : First (shape.shards * shape.copies) new.members limits moment noted
  first_noted =
      let quiet : Quiet new (begin_views new) = all_quiet (shards_of new) new in
      let begun : First n new.members limits moment (begin_views new) = record {
        members = quiet.members;
        limits = quiet.limits;
        journal = quiet.journal;
        refused = quiet.refused;
        line = quiet.line;
        moment = quiet.moment;
        entries = subst (λ (es : List JournalEntry). AllByRecursion (λ (e : JournalEntry). IsFirst n e) es) (sym quiet.entries) tt;
      } in
      all_first n new.members limits moment (all_peers (shape_of (begin_views new))) (begin_views new)
      (subst (λ (m : Members). AllByRecursion (λ k. k < n) (all_peers m.shape)) (sym quiet.members) (range_all (λ k. k < n) n 0 (λ k low high. omega (arith, high)))) begun

  -- what was told, by whom, and of which line
  pub told_first : AllByRecursion (λ (e : JournalEntry). IsFirst (shape.shards * shape.copies) e) (told_of (open_core shape limits found moment))
  told_first =
      subst (λ (es : List JournalEntry). AllByRecursion (λ (e : JournalEntry). IsFirst n e) es)
      (sym (ended_told noted first_noted.refused ∙ ap (λ (es : List JournalEntry). es ++ noted.entries) first_noted.journal)) first_noted.entries

  pub members_first : (open_core shape limits found moment).members ≡ new.members
  members_first = go (nat_lt noted.limits.ops (length noted.journal + length noted.entries))
    where
      go : (b : Bool) → (cond b (refuse_entries noted) (keep_entries noted)).members ≡ new.members
      go true = first_noted.members
      go false = first_noted.members

  -- where the journal had room nothing was refused, and else it is empty
  pub room_first : ((open_core shape limits found moment).refused ≡ []) ⊎ ((open_core shape limits found moment).journal ≡ [])
  room_first = go (nat_lt noted.limits.ops (length noted.journal + length noted.entries))
    where
      go : (b : Bool) → ((cond b (refuse_entries noted) (keep_entries noted)).refused ≡ []) ⊎ ((cond b (refuse_entries noted) (keep_entries noted)).journal ≡ [])
      go true = inr first_noted.journal
      go false = inl first_noted.refused

  pub limits_first : (open_core shape limits found moment).limits ≡ limits
  limits_first = go (nat_lt noted.limits.ops (length noted.journal + length noted.entries))
    where
      go : (b : Bool) → (cond b (refuse_entries noted) (keep_entries noted)).limits ≡ limits
      go true = first_noted.limits
      go false = first_noted.limits

  pub line_first : (open_core shape limits found moment).progress.event_line ≡ 0
  line_first = go (nat_lt noted.limits.ops (length noted.journal + length noted.entries))
    where
      go : (b : Bool) → (cond b (refuse_entries noted) (keep_entries noted)).progress.event_line ≡ 0
      go true = first_noted.line
      go false = first_noted.line

  pub moment_first : (open_core shape limits found moment).moment ≡ moment
  moment_first = go (nat_lt noted.limits.ops (length noted.journal + length noted.entries))
    where
      go : (b : Bool) → (cond b (refuse_entries noted) (keep_entries noted)).moment ≡ moment
      go true = first_noted.moment
      go false = first_noted.moment

  pub ends_first : Ends (open_core shape limits found moment)
  ends_first = ends_so noted first_noted.refused (let e : length noted.journal ≡ 0 = ap (λ (es : List JournalEntry). length es) first_noted.journal in omega (arith, e))

  -- ---- its peers

  abbrev Anyone : ℕ → Type 0
  Anyone x = Unit {0}

  new_seats : Seated n Anyone (peers_in new)
  new_seats = record {
    statuses = length-map found.good (λ (b : Bool). if b then Good else Down) ∙ peers;
    count = length-replicate n [];
    good = λ x low. inl tt;
    tasks = λ x. subst (λ ts. AreOwn ts) (sym (same_each n [] x)) tt;
    rejoins = λ x. subst (λ r. CopiesFrom n r) (sym (same_each n None x)) tt;
  }

  pub seats_first : Seated (shape.shards * shape.copies) (λ x. Unit {0}) (peers_in (open_core shape limits found moment))
  seats_first = seats_end n Anyone noted (seats_opening n Anyone new new_seats)
