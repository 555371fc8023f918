-- With one copy a shard, a report that a disk failed leaves its peer down, and tells no more than that.
use Rattle.std.proofs.Common.{◌≡◌, ◌∙◌, ap, sym, subst, ℕ, ◌<◌, ◌++◌, Bool, true, false, drop, length, List, [], ◌∷◌, Option, Some, None, refl}
use Rattle.std.proofs.lemmas.List.{get_or-set_same}
use Rattle.std.specs.Option.{option_map, option_map_or}
use Rattle.hs_awaiting.specs.Words.{change_if, change_with, each, ◌▸◌}
use Rattle.hs_core_words.specs.Changing.{note, set_tasks}
use Rattle.hs_core_words.specs.declared.task.Task.{Task}
use Rattle.hs_core_words.specs.Effects.{commit}
use Rattle.hs_core_words.specs.Failing.{commit_rest, go_down, leave}
use Rattle.hs_core_words.specs.Joining.{begin_joining, joining_peers}
use Rattle.hs_core_words.specs.Looking.{first_task, home, lead_of, shape_of, status_of, tasks_of}
use Rattle.hs_core_words.specs.Reporting.{on_report, take_report}
use Rattle.hs_core_words.specs.State.{Core}
use Rattle.hs_core_words.specs.Views.{begin_view, change_view}
use Rattle.hs_desk.specs.Answers.{answers}
use Rattle.hs_desk.specs.declared.done.Done.TheVariants as done
use Rattle.hs_events.specs.Due.{is_answer}
use Rattle.hs_journal.specs.declared.entry.JournalEntry.{JournalEntry}
use Rattle.hs_journal.specs.declared.entry.Who.TheVariants as who
use Rattle.hs_limits.specs.declared.limits.PeerStatus.TheVariants.{Down}
use Rattle.hs_members.specs.Members.{has_good, is_good_status, status}
use Rattle.hs_model.specs.declared.deed.Deed.TheVariants as deed
use Rattle.hs_model.specs.declared.reply.Reply.TheVariants as reply
use Rattle.hs_moments.proofs.AloneEventLemmas.{has_good_is, home_here}
use Rattle.hs_replica.specs.Group.{is_peer}

-- ---- whoever joins anew tells nothing, and changes no status

record Same (a b : Core) : Type 0 where
  members : b.members ≡ a.members
  journal : b.journal ≡ a.journal
  refused : b.refused ≡ a.refused
  entries : b.entries ≡ a.entries

same_each : (ps : List ℕ) (c : Core) → Same c (each ps begin_joining c)
same_each [] c = record { members = refl; journal = refl; refused = refl; entries = refl }
same_each (p ∷ ps) c = let j : Same (begin_joining p c) (each ps begin_joining (begin_joining p c)) = same_each ps (begin_joining p c) in record { members = j.members; journal = j.journal; refused = j.refused; entries = j.entries }

same_if : (b : Bool) (s : ℕ) (c : Core) → Same c (change_if b (λ core. core ▸ each (joining_peers s core) begin_joining) c)
same_if true s c = same_each (joining_peers s c) c
same_if false s c = record { members = refl; journal = refl; refused = refl; entries = refl }

if_same : (b : Bool) (f : Core → Core) (x : Core) → f x ≡ x → change_if b f x ≡ x
if_same true f x e = e
if_same false f x e = refl

-- ---- a peer goes down

-- the note of a disk, as it is told
abbrev pub down_entry : ℕ → Core → JournalEntry
down_entry disk c = record { who = who.Store; moment = c.moment; deed = deed.Nothing; reply = reply.Down disk c.progress.event_line }

-- its peer is not good, and beside this note nothing was told
pub record Fallen (disk : ℕ) (a b : Core) : Type 0 where
  pub down : is_good_status (status_of disk b) ≡ false
  pub journal : b.journal ≡ a.journal
  pub refused : b.refused ≡ a.refused
  pub entries : b.entries ≡ a.entries ++ down_entry disk a ∷ []

module _ (p : ℕ) (c : Core) (one : (shape_of c).copies ≡ 1) (low : p < length c.members.statuses) where
  abbrev gone : Core
  gone = leave p c

  abbrev again : Core
  again = change_if (is_peer p (lead_of (home p c) c)) (λ core. core ▸ each (joining_peers (home p c) core) begin_joining) gone

  left : status p gone.members ≡ Down
  left = get_or-set_same c.members.statuses p Down Down low

  none : has_good (home p c) gone.members ≡ false
  none = ap (λ k. has_good k gone.members) (home_here c p one) ∙ has_good_is gone.members p Down one left

  beside : Same gone again
  beside = same_if (is_peer p (lead_of (home p c) c)) (home p c) gone

  -- nobody is left, so that no view begins and nothing takes effect
  down_is : go_down p c ≡ again
  down_is =
      let s : ℕ = home p c in
      let was_good : Bool = is_good_status (status_of p c) in
      let was_lead : Bool = is_peer p (lead_of s c) in
      let no_view : change_if was_good (change_view s) gone ≡ gone = if_same was_good (change_view s) gone (ap (λ b. change_if b (begin_view s) gone) none) in
      let nobody : has_good s again.members ≡ false = ap (has_good s) beside.members ∙ none in
      let no_rest : change_if was_good (commit_rest s) again ≡ again = if_same was_good (commit_rest s) again (ap (λ b. change_if b (commit s) again) nobody) in
      ap (λ x. change_if was_good (commit_rest s) (change_if was_lead (λ core. core ▸ each (joining_peers s core) begin_joining) x)) no_view ∙ no_rest

  down_status : is_good_status (status_of p again) ≡ false
  down_status = ap is_good_status (ap (status p) beside.members ∙ left)

-- ---- a report

module _ (peer disk : ℕ) (c : Core) (one : (shape_of c).copies ≡ 1) (low : disk < length c.members.statuses) where
  abbrev behind : Core
  behind = set_tasks peer (drop 1 (tasks_of peer c)) c

  abbrev noted : Core
  noted = note who.Store deed.Nothing (reply.Down disk behind.progress.event_line) behind

  taken : (line : ℕ) → Fallen disk c (take_report peer line (done.Failed disk) behind)
  taken line =
      let s : Same (leave disk noted) (again disk noted one low) = beside disk noted one low in
      subst (λ (x : Core). Fallen disk c x) (sym (down_is disk noted one low))
      (record { down = down_status disk noted one low; journal = s.journal; refused = s.refused; entries = s.entries })

  by_answer : (task : Task) (b : Bool) → b ≡ true → Fallen disk c (change_if b (λ x. take_report peer task.line (done.Failed disk) (set_tasks peer (drop 1 (tasks_of peer x)) x)) c)
  by_answer task true e = taken task.line
  by_answer task false e = absurd (cc e)

  pub reported : is_answer c peer (done.Failed disk) ≡ true → Fallen disk c (on_report peer (done.Failed disk) c)
  reported answered = go (first_task peer c) answered
    where
      go : (o : Option Task) → option_map_or (λ j. answers peer j (done.Failed disk)) (option_map (λ (task : Task). task.job) o) false ≡ true
          → Fallen disk c (change_with o (λ task. change_if (answers peer task.job (done.Failed disk)) (λ x. take_report peer task.line (done.Failed disk) (set_tasks peer (drop 1 (tasks_of peer x)) x))) c)
      go None e = absurd (cc e)
      go (Some task) e = by_answer task (answers peer task.job (done.Failed disk)) e
