-- As a core opens each peer that is not good is told of once.
use Rattle.std.proofs.Common.{◌≡◌, ◌∙◌, sym, ap, subst, ℕ, zero, suc, ◌+◌, ◌*◌, ◌<◌, ◌≤◌, ◌==◌, ◌&&◌, Bool, true, false, cond, not, List, [], ◌∷◌, ◌++◌, Option, Some, None, refl, arith}
use Rattle.std.proofs.lemmas.Bool.{eqb-true}
use Rattle.std.proofs.lemmas.Bool.Decides.{nat_tests}
use Rattle.std.proofs.lemmas.List.Sums.{sum_by-cons}
use Rattle.std.specs.List.{range_with_len}
use Rattle.std.specs.Prelude.{count_by}
use Rattle.hs_awaiting.specs.Words.{change_if, change_with, each}
use Rattle.hs_core_words.specs.Changing.{add_entry_tasks, change_group, note, post, set_viewed}
use Rattle.hs_core_words.specs.Looking.{group_of, lead_of, shape_of, shards_of}
use Rattle.hs_core_words.specs.Opening.{Taken, begin_views, new_core, note_down, note_if_down, open_core}
use Rattle.hs_core_words.specs.State.{Core}
use Rattle.hs_core_words.specs.Views.{begin_view, change_view, restart}
use Rattle.hs_entry.specs.declared.entry.Entry.TheVariants as kind
use Rattle.hs_journal.specs.declared.entry.JournalEntry.{JournalEntry}
use Rattle.hs_journal.specs.declared.entry.Who.TheVariants as who
use Rattle.hs_journal.specs.Notes.{note_count}
use Rattle.hs_limits.specs.declared.limits.Limits.{Limits}
use Rattle.hs_limits.specs.declared.shape.Shape.{Shape}
use Rattle.hs_members.specs.Members.{Members, all_peers, has_good, is_good_status, status, view_of}
use Rattle.hs_model.specs.declared.deed.Deed.TheVariants as deed
use Rattle.hs_model.specs.declared.reply.Reply.TheVariants as reply
use Rattle.hs_settled.proofs.NotedCountLemmas.{count_more}
use Rattle.hs_settled.proofs.RefusalLemmas.{ended_told}
use Rattle.hs_replica.specs.Group.{last_number, proposal, propose, renew, renewal}
use Rattle.hs_told.specs.InTurn.{told_of}

-- ---- views begin beside peers and what is told

pub record Silent (a b : Core) : Type 0 where
  pub members : b.members ≡ a.members
  pub journal : b.journal ≡ a.journal
  pub refused : b.refused ≡ a.refused
  pub entries : b.entries ≡ a.entries

view_silent : (shard : ℕ) (c : Core) → Silent c (begin_view shard c)
view_silent shard c = go (lead_of shard posted)
  where
    again : Core
    again = restart shard (change_group shard (renew c.members) (set_viewed shard false c))

    posted : Core
    posted = post (renewal (group_of shard again)) again

    sent : Core
    sent = post (proposal (kind.View (view_of shard posted.members)) (group_of shard posted)) (change_group shard (propose (kind.View (view_of shard posted.members))) posted)

    go : (lead : Option ℕ) → Silent c (change_with lead (λ peer. add_entry_tasks peer (last_number (group_of shard posted) + 1) (kind.View (view_of shard posted.members))) sent)
    go None = record { members = refl; journal = refl; refused = refl; entries = refl }
    go (Some peer) = record { members = refl; journal = refl; refused = refl; entries = refl }

change_silent : (shard : ℕ) (c : Core) → Silent c (change_view shard c)
change_silent shard c = go (has_good shard c.members)
  where
    go : (b : Bool) → Silent c (change_if b (begin_view shard) c)
    go true = view_silent shard c
    go false = record { members = refl; journal = refl; refused = refl; entries = refl }

all_silent : (shards : List ℕ) (c : Core) → Silent c (each shards change_view c)
all_silent [] c = record { members = refl; journal = refl; refused = refl; entries = refl }
all_silent (s ∷ shards) c =
    let one : Silent c (change_view s c) = change_silent s c in
    let rest : Silent (change_view s c) (each shards change_view (change_view s c)) = all_silent shards (change_view s c) in
    record { members = rest.members ∙ one.members; journal = rest.journal ∙ one.journal; refused = rest.refused ∙ one.refused; entries = rest.entries ∙ one.entries }

-- ---- the notes

-- a peer that is not good is this one
abbrev is_down_here : Members → ℕ → ℕ → Bool
is_down_here m disk peer = not (is_good_status (status peer m)) && peer == disk

record Told (disk n : ℕ) (m : Members) (c : Core) : Type 0 where
  members : c.members ≡ m
  journal : c.journal ≡ []
  refused : c.refused ≡ []
  count : note_count disk c.entries ≡ n

one_told : (disk n : ℕ) (m : Members) (peer : ℕ) (c : Core) → Told disk n m c → Told disk (n + cond (is_down_here m disk peer) 1 0) m (note_if_down peer c)
one_told disk n m peer c its = subst (λ (x : Members). Told disk (n + cond (is_down_here x disk peer) 1 0) m (note_if_down peer c)) its.members (go (is_good_status (status peer c.members)))
  where
    nothing : (k : ℕ) → k + 0 ≡ k
    nothing k = omega arith

    go : (b : Bool) → Told disk (n + cond (not b && peer == disk) 1 0) m (change_if (not b) (note who.Store deed.Nothing (reply.Down peer 0)) c)
    go true = record { members = its.members; journal = its.journal; refused = its.refused; count = its.count ∙ sym (nothing n) }
    go false = record {
      members = its.members;
      journal = its.journal;
      refused = its.refused;
      count =
          count_more disk c.entries (record { who = who.Store; moment = c.moment; deed = deed.Nothing; reply = reply.Down peer 0 }) ∙ ap (λ k. k + cond (peer == disk) 1 0) its.count;
    }

all_told : (disk n : ℕ) (m : Members) (peers : List ℕ) (c : Core) → Told disk n m c → Told disk (n + count_by (is_down_here m disk) peers) m (each peers note_if_down c)
all_told disk n m [] c its = record { members = its.members; journal = its.journal; refused = its.refused; count = its.count ∙ sym (nothing n) }
  where
    nothing : (k : ℕ) → k + 0 ≡ k
    nothing k = omega arith
all_told disk n m (peer ∷ peers) c its =
    subst (λ k. Told disk k m (each peers note_if_down (note_if_down peer c)))
    (shift n (cond (is_down_here m disk peer) 1 0) (count_by (is_down_here m disk) peers)
    ∙ ap (λ k. n + k) (sym (sum_by-cons (λ (p : ℕ). cond (is_down_here m disk p) 1 0) peer peers)))
    (all_told disk (n + cond (is_down_here m disk peer) 1 0) m peers (note_if_down peer c) (one_told disk n m peer c its))
  where
    shift : (a b c : ℕ) → (a + b) + c ≡ a + (b + c)
    shift a b c = omega arith

-- ---- of all peers

zero_left : (k : ℕ) → 0 + k ≡ k
zero_left k = omega arith

module _ (m : Members) (disk : ℕ) where
  past : (n from : ℕ) → disk < from → count_by (is_down_here m disk) (range_with_len from n) ≡ 0
  past zero from low = refl
  past (suc n) from low =
      sum_by-cons (λ (p : ℕ). cond (is_down_here m disk p) 1 0) from (range_with_len (from + 1) n)
      ∙ ap (λ b. cond b 1 0 + count_by (is_down_here m disk) (range_with_len (from + 1) n)) (other (not (is_good_status (status from m))))
      ∙ zero_left (count_by (is_down_here m disk) (range_with_len (from + 1) n)) ∙ past n (from + 1) (omega (arith, low))
    where
      differs : (from == disk) ≡ false
      differs = grind (arith, nat_tests, low)

      other : (b : Bool) → (b && from == disk) ≡ false
      other true = differs
      other false = refl

  one : (n from : ℕ) → from ≤ disk → disk < from + n → count_by (is_down_here m disk) (range_with_len from n) ≡ cond (is_good_status (status disk m)) 0 1
  one zero from low high = absurd (omega (arith, low, high))
  one (suc n) from low high = sum_by-cons (λ (p : ℕ). cond (is_down_here m disk p) 1 0) from (range_with_len (from + 1) n) ∙ go (λ up. one n (from + 1) up (omega (arith, high))) (from == disk) refl
    where
      drops : (b : Bool) → (b && false) ≡ false
      drops true = refl
      drops false = refl

      above : (a b : ℕ) → (a == b) ≡ false → a ≤ b → a + 1 ≤ b
      above a b e le = grind (arith, nat_tests, e, le)

      by_status : (b : Bool) → cond (not b && true) 1 0 + 0 ≡ cond b 0 1
      by_status true = refl
      by_status false = refl

      go : (from + 1 ≤ disk → count_by (is_down_here m disk) (range_with_len (from + 1) n) ≡ cond (is_good_status (status disk m)) 0 1) → (t : Bool) → (from == disk) ≡ t
          → cond (not (is_good_status (status from m)) && from == disk) 1 0 + count_by (is_down_here m disk) (range_with_len (from + 1) n) ≡ cond (is_good_status (status disk m)) 0 1
      go rest true e =
          let same : from ≡ disk = eqb-true from disk e in
          ap (λ b. cond (not (is_good_status (status from m)) && b) 1 0 + count_by (is_down_here m disk) (range_with_len (from + 1) n)) e
          ∙ ap (λ k. cond (not (is_good_status (status from m)) && true) 1 0 + k) (past n (from + 1) (omega (arith, same)))
          ∙ by_status (is_good_status (status from m)) ∙ ap (λ k. cond (is_good_status (status k m)) 0 1) same
      go rest false e =
          ap (λ b. cond (not (is_good_status (status from m)) && b) 1 0 + count_by (is_down_here m disk) (range_with_len (from + 1) n)) e
          ∙ ap (λ b. cond b 1 0 + count_by (is_down_here m disk) (range_with_len (from + 1) n)) (drops (not (is_good_status (status from m))))
          ∙ zero_left (count_by (is_down_here m disk) (range_with_len (from + 1) n)) ∙ rest (above from disk e low)

-- ---- a core that opens

pub first_notes : (shape : Shape) (limits : Limits) (found : Taken) (moment disk : ℕ) → disk < shape.shards * shape.copies
    → note_count disk (told_of (open_core shape limits found moment)) ≡ cond (is_good_status (status disk (new_core shape limits found moment).members)) 0 1
first_notes shape limits found moment disk low =
    ap (λ (es : List JournalEntry). note_count disk es) (ended_told noted told.refused ∙ ap (λ (es : List JournalEntry). es ++ noted.entries) told.journal)
    ∙ told.count ∙ zero_left (count_by (is_down_here first.members disk) (all_peers (shape_of viewed))) ∙ counted
  where
    first : Core
    first = new_core shape limits found moment

    viewed : Core
    viewed = begin_views first

    noted : Core
    noted = note_down viewed

    quiet : Silent first viewed
    quiet = all_silent (shards_of first) first

    begun : Told disk 0 first.members viewed
    begun = record { members = quiet.members; journal = quiet.journal; refused = quiet.refused; count = ap (λ (es : List JournalEntry). note_count disk es) quiet.entries }

    told : Told disk (0 + count_by (is_down_here first.members disk) (all_peers (shape_of viewed))) first.members noted
    told = all_told disk 0 first.members (all_peers (shape_of viewed)) viewed begun

    counted : count_by (is_down_here first.members disk) (all_peers (shape_of viewed)) ≡ cond (is_good_status (status disk first.members)) 0 1
    counted =
        ap (λ (z : Members). count_by (is_down_here first.members disk) (all_peers z.shape)) quiet.members
        ∙ one first.members disk (shape.shards * shape.copies) 0 (omega arith) (omega (arith, low))
