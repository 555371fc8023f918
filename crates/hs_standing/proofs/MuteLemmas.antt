-- What single steps leave as it was: the journal, and where none answers all that was told, sessions and the other operations.
use Rattle.std.proofs.Common.{◌≡◌, ◌∙◌, ap, ℕ, ◌+◌, Bool, true, false, cond, List, Option, Some, None, is_some, refl, nat_le}
use Rattle.std.specs.BTreeMap.{is_at}
use Rattle.std.specs.List.{list_all}
use Rattle.std.specs.Map.{set_value}
use Rattle.std.specs.Ordering.{nat_cmp}
use Rattle.hs_standing.specs.Changes.{tells_at_once}
use Rattle.hs_awaiting.specs.declared.wait.Wait.TheVariants as wait
use Rattle.hs_awaiting.specs.declared.waiting.Waiting.{Waiting}
use Rattle.hs_awaiting.specs.Words.{change_if, change_with}
use Rattle.hs_core_words.specs.Changing.{add_entry_tasks, change_group, note, post, put_operation}
use Rattle.hs_core_words.specs.Effects.{note_enter, note_sweep, tell_enter, tell_operation}
use Rattle.hs_core_words.specs.Looking.{catalogue_of, group_of, lead_of, operation_of}
use Rattle.hs_core_words.specs.Operating.{add_read, go_on_with, propose_entry, take_step, what_holds}
use Rattle.hs_core_words.specs.Seeing.{view_for}
use Rattle.hs_core_words.specs.State.{Core}
use Rattle.hs_desk.specs.declared.what.What.{What}
use Rattle.hs_desk.specs.declared.what.What.TheVariants as what
use Rattle.hs_effects.proofs.QuietLemmas.{Quiet, going_quiet}
use Rattle.hs_entry.specs.declared.entry.Entry.{Entry}
use Rattle.hs_entry.specs.declared.entry.Entry.TheVariants as kind
use Rattle.hs_journal.specs.declared.entry.JournalEntry.{JournalEntry}
use Rattle.hs_journal.specs.declared.entry.Who.TheVariants as who
use Rattle.hs_model.specs.declared.deed.Deed.TheVariants as deed
use Rattle.hs_model.specs.declared.reply.Reply.{Reply}
use Rattle.hs_model.specs.declared.reply.Reply.TheVariants as reply
use Rattle.hs_ops.specs.declared.step.OpStep.{OpStep}
use Rattle.hs_ops.specs.declared.step.OpStep.TheVariants.{Answer, Compare, Propose, Wait}
use Rattle.hs_ops.specs.Operations.{Operation, after_step, effect_step}
use Rattle.hs_ops.specs.Views.{OpView}
use Rattle.hs_replica.specs.Group.{last_number, proposal, propose}
use Rattle.hs_shard.specs.declared.effect.Effect.{Effect}
use Rattle.hs_shard.specs.Facts.{Catalogue}
use Rattle.hs_tokens.specs.Seats.{Seats}

-- ---- the journal

pub record Books : Type 0 where
  pub journal : List JournalEntry
  pub refused : List JournalEntry

abbrev pub books_of : Core → Books
books_of c = record { journal = c.journal; refused = c.refused }

pub books_with : {B : Type 0} (o : Option B) (f : B → Core → Core) (c : Core) → ((y : B) (x : Core) → books_of (f y x) ≡ books_of x) → books_of (change_with o f c) ≡ books_of c
books_with None f c h = refl
books_with (Some y) f c h = h y c

pub step_books : (line : ℕ) (w : Waiting) (s : OpStep) (c : Core) → books_of (take_step line w s c) ≡ books_of c
step_books line w (Answer r) c = refl
step_books line w (Propose entry) c =
    let u : Waiting = record w { operation = after_step (Propose entry) w.operation; wait = wait.Entry (last_number (group_of w.shard c) + 1) } in
    let one : Core = put_operation line u c in
    books_with (lead_of w.shard one) (λ peer. add_entry_tasks peer (last_number (group_of w.shard one) + 1) entry) (post (proposal entry (group_of w.shard one)) (change_group w.shard (propose entry) one)) (λ peer x. refl)
step_books line w (Compare number) c =
    let u : Waiting = record w { operation = after_step (Compare number) w.operation; wait = wait.Bytes number } in
    books_with (lead_of w.shard c) (add_read number line) (put_operation line u c) (λ peer x. refl)
step_books line w Wait c = refl

pub going_books : (next : OpView → Operation → OpStep) (line : ℕ) (c : Core) → books_of (go_on_with next line c) ≡ books_of c
going_books next line c = go (operation_of line c)
  where
    go : (o : Option Waiting) → books_of (change_with o (λ w. take_step line w (next (view_for w.shard w.operation.op c) w.operation)) c) ≡ books_of c
    go None = refl
    go (Some w) = step_books line w (next (view_for w.shard w.operation.op c) w.operation) c

-- ---- what was told, sessions, and operations

pub record Words : Type 0 where
  pub entries : List JournalEntry
  pub sessions : Seats
  pub operations : List (ℕ × Waiting)

abbrev pub words_of : Core → Words
words_of c = record { entries = c.entries; sessions = c.sessions; operations = c.operations }

pub words_with : {B : Type 0} (o : Option B) (f : B → Core → Core) (c : Core) → ((y : B) (x : Core) → words_of (f y x) ≡ words_of x) → words_of (change_with o f c) ≡ words_of c
words_with None f c h = refl
words_with (Some y) f c h = h y c

-- an entry that is proposed
pub proposed_words : (shard : ℕ) (entry : Entry) (c : Core) → words_of (propose_entry shard entry c) ≡ words_of c
proposed_words shard entry c =
    words_with (lead_of shard c) (λ peer. add_entry_tasks peer (last_number (group_of shard c) + 1) entry) (post (proposal entry (group_of shard c)) (change_group shard (propose entry) c)) (λ peer x. refl)

pub proposed_books : (shard : ℕ) (entry : Entry) (c : Core) → books_of (propose_entry shard entry c) ≡ books_of c
proposed_books shard entry c =
    books_with (lead_of shard c) (λ peer. add_entry_tasks peer (last_number (group_of shard c) + 1) entry) (post (proposal entry (group_of shard c)) (change_group shard (propose entry) c)) (λ peer x. refl)

-- where a step does not answer, its operation stands there at another stage, and all else is as it was
pub record Stays (a b : Core) (line : ℕ) (w : Waiting) : Type 0 where
  pub next : Waiting
  pub same : next.operation.op ≡ w.operation.op
  pub words : words_of b ≡ record { entries = a.entries; sessions = a.sessions; operations = set_value (is_at (nat_cmp line)) a.operations next }

pub step_stays : (line : ℕ) (w : Waiting) (s : OpStep) (c : Core) → ((r : Reply) → s ≡ Answer r → ⊥) → Stays c (take_step line w s c) line w
step_stays line w (Answer r) c h = absurd (h r refl)
step_stays line w (Propose entry) c h =
    let u : Waiting = record w { operation = after_step (Propose entry) w.operation; wait = wait.Entry (last_number (group_of w.shard c) + 1) } in
    record { next = u; same = refl; words = proposed_words w.shard entry (put_operation line u c) }
step_stays line w (Compare number) c h =
    let u : Waiting = record w { operation = after_step (Compare number) w.operation; wait = wait.Bytes number } in
    record { next = u; same = refl; words = words_with (lead_of w.shard c) (add_read number line) (put_operation line u c) (λ peer x. refl) }
step_stays line w Wait c h =
    let u : Waiting = record w { operation = after_step Wait w.operation; wait = what_holds (record w { operation = after_step Wait w.operation }) c } in
    record { next = u; same = refl; words = refl }

-- ---- what a shard tells of its own

-- all but what is told is as it was
pub record Still (a b : Core) : Type 0 where
  pub journal : b.journal ≡ a.journal
  pub refused : b.refused ≡ a.refused
  pub sessions : b.sessions ≡ a.sessions
  pub operations : b.operations ≡ a.operations
  pub groups : b.groups ≡ a.groups
  pub limits : b.limits ≡ a.limits
  pub members : b.members ≡ a.members
  pub catalogues : b.catalogues ≡ a.catalogues
  pub moment : b.moment ≡ a.moment

pub still_same : (c : Core) → Still c c
still_same c = record { journal = refl; refused = refl; sessions = refl; operations = refl; groups = refl; limits = refl; members = refl; catalogues = refl; moment = refl }

pub swept_still : (shard removed : ℕ) (c : Core) → Still c (note_sweep shard removed c)
swept_still shard removed c = go (list_all (λ (x : Catalogue). nat_le epoch x.swept) c.catalogues)
  where
    epoch : ℕ
    epoch = (catalogue_of shard c).swept

    go : (b : Bool) → Still c (change_if b (note who.Store deed.Nothing (reply.Done epoch)) (note (who.Shard shard) (deed.Swept shard) (reply.Sweep epoch removed) c))
    go true = record { journal = refl; refused = refl; sessions = refl; operations = refl; groups = refl; limits = refl; members = refl; catalogues = refl; moment = refl }
    go false = record { journal = refl; refused = refl; sessions = refl; operations = refl; groups = refl; limits = refl; members = refl; catalogues = refl; moment = refl }

pub entered_still : (shard : ℕ) (did : What) (c : Core) → Still c (note_enter shard did c)
entered_still shard what.Nothing c = still_same c
entered_still shard (what.Viewed view) c = still_same c
entered_still shard what.Stored c = still_same c
entered_still shard what.Marked c = still_same c
entered_still shard what.Again c = still_same c
entered_still shard what.Rooted c = still_same c
entered_still shard what.Dropped c = still_same c
entered_still shard (what.Entered epoch) c = record { journal = refl; refused = refl; sessions = refl; operations = refl; groups = refl; limits = refl; members = refl; catalogues = refl; moment = refl }
entered_still shard what.Refused c = still_same c

pub removed_still : (shard : ℕ) (removed : Option ℕ) (c : Core) → Still c (change_with removed (note_sweep shard) c)
removed_still shard None c = still_same c
removed_still shard (Some n) c = swept_still shard n c

-- ---- an entry that takes effect

abbrev both : List JournalEntry → List JournalEntry → Books
both journal refused = record { journal = journal; refused = refused }

still_books : (a b : Core) → Still a b → books_of b ≡ books_of a
still_books a b s = ap (λ (j : List JournalEntry). both j b.refused) s.journal ∙ ap (λ (r : List JournalEntry). both a.journal r) s.refused

told_enter_books : (shard line : ℕ) (did : What) (c : Core) → books_of (tell_enter shard line did c) ≡ books_of c
told_enter_books shard line did c = go (is_some (operation_of line c))
  where
    go : (b : Bool) → books_of (cond b (tell_operation line did c) (note_enter shard did c)) ≡ books_of c
    go true = going_books (λ v o. effect_step v did o) line c
    go false = still_books c (note_enter shard did c) (entered_still shard did c)

pub at_once_books : (shard : ℕ) (entry : Entry) (effect : Effect) (c : Core) → books_of (tells_at_once shard entry effect c) ≡ books_of c
at_once_books shard (kind.View view) effect c = refl
at_once_books shard (kind.Block line least bytes) effect c = going_books (λ v o. effect_step v effect.what o) line c
at_once_books shard (kind.Mark line least block a) effect c = going_books (λ v o. effect_step v effect.what o) line c
at_once_books shard (kind.Root line held a key) effect c = going_books (λ v o. effect_step v effect.what o) line c
at_once_books shard (kind.Drop line key) effect c = going_books (λ v o. effect_step v effect.what o) line c
at_once_books shard (kind.Enter line epoch) effect c = told_enter_books shard line effect.what c
at_once_books shard (kind.Got from epoch round total deltas) effect c = still_books c (change_with effect.removed (note_sweep shard) c) (removed_still shard effect.removed c)
at_once_books shard (kind.Base view epoch swept round frames) effect c = refl
at_once_books shard (kind.KeptBlock born mark flags count bytes) effect c = refl
at_once_books shard (kind.KeptRoot created dropped counted address key) effect c = refl
at_once_books shard (kind.KeptRound way other epoch round total deltas) effect c = refl

still_quiet : (a b : Core) → Still a b → Quiet a b
still_quiet a b s = record { catalogues = s.catalogues; members = s.members; limits = s.limits; moment = s.moment }

pub at_once_quiet : (shard : ℕ) (entry : Entry) (effect : Effect) (c : Core) → Quiet c (tells_at_once shard entry effect c)
at_once_quiet shard (kind.View view) effect c = still_quiet c c (still_same c)
at_once_quiet shard (kind.Block line least bytes) effect c = going_quiet (λ v o. effect_step v effect.what o) line c
at_once_quiet shard (kind.Mark line least block a) effect c = going_quiet (λ v o. effect_step v effect.what o) line c
at_once_quiet shard (kind.Root line held a key) effect c = going_quiet (λ v o. effect_step v effect.what o) line c
at_once_quiet shard (kind.Drop line key) effect c = going_quiet (λ v o. effect_step v effect.what o) line c
at_once_quiet shard (kind.Enter line epoch) effect c = by_operation (is_some (operation_of line c))
  where
    by_operation : (b : Bool) → Quiet c (cond b (tell_operation line effect.what c) (note_enter shard effect.what c))
    by_operation true = going_quiet (λ v o. effect_step v effect.what o) line c
    by_operation false = still_quiet c (note_enter shard effect.what c) (entered_still shard effect.what c)
at_once_quiet shard (kind.Got from epoch round total deltas) effect c = still_quiet c (change_with effect.removed (note_sweep shard) c) (removed_still shard effect.removed c)
at_once_quiet shard (kind.Base view epoch swept round frames) effect c = still_quiet c c (still_same c)
at_once_quiet shard (kind.KeptBlock born mark flags count bytes) effect c = still_quiet c c (still_same c)
at_once_quiet shard (kind.KeptRoot created dropped counted address key) effect c = still_quiet c c (still_same c)
at_once_quiet shard (kind.KeptRound way other epoch round total deltas) effect c = still_quiet c c (still_same c)
