-- Entries that take effect keep the order, and each has the name of its block.
use Rattle.std.proofs.Common.{◌≡◌, ◌∙◌, sym, ap, subst, ◌⊎◌, inl, inr, ℕ, zero, suc, ◌+◌, ◌<◌, ◌≤◌, ◌==◌, Bool, true, false, cond, List, [], ◌∷◌, length, count_by, drop, Option, Some, None, refl, is_some, arith, slice_get}
use Rattle.std.proofs.lemmas.Bool.Decides.{nat_tests}
use Rattle.std.proofs.lemmas.Grind.{common_steps}
use Rattle.std.specs.Option.{option_and_then}
use Rattle.std.specs.Prelude.{slice_index_or, slice_set}
pub use Rattle.hs_anatomy.proofs.ReadyLemmas.{view_idle, wakes_idle}
use Rattle.hs_anatomy.specs.Effect.{told_at_once, tells_at_once}
use Rattle.hs_awaiting.specs.declared.wait.Wait.TheVariants as wait
use Rattle.hs_awaiting.specs.declared.waiting.Waiting.{Waiting}
use Rattle.hs_model.specs.Op.{written_address}
use Rattle.hs_awaiting.specs.Words.{change_if, change_with}
use Rattle.hs_core_words.specs.Changing.{change_group, note}
use Rattle.hs_core_words.specs.Effects.{note_enter, note_sweep, tell_enter, tell_operation}
use Rattle.hs_core_words.specs.Entering.{is_enter_due, propose_due}
use Rattle.hs_core_words.specs.Looking.{catalogue_of, front_of, group_of, operation_of, shape_of}
use Rattle.hs_core_words.specs.Operating.{propose_entry}
use Rattle.hs_core_words.specs.Pending.{named, stored}
use Rattle.hs_core_words.specs.State.{Core}
use Rattle.hs_desk.specs.declared.what.What.{What}
use Rattle.hs_desk.specs.declared.what.What.TheVariants as what
use Rattle.hs_effects.specs.Logged.{HasAsked, IsEntryOf, IsOrderly, asked_by}
use Rattle.hs_effects.specs.Room.{Fit, HasRoom}
use Rattle.hs_effects.specs.Taking.{IsNamed, done_by, taken}
use Rattle.hs_effects.proofs.GoingLemmas.{going_orderly}
use Rattle.hs_effects.proofs.GroupLemmas.{IsFirst, at_front, committed_first, group_changed, set_at}
use Rattle.hs_effects.proofs.GrowLemmas.{Grows, applied_grows}
use Rattle.hs_effects.proofs.LookLemmas.{one_or_other}
use Rattle.hs_effects.proofs.OrderlyLemmas.{Alike, IsFree, alike_orderly, alike_same, asked_alike, committed_orderly, own_orderly, some_is, with_lists}
use Rattle.hs_effects.proofs.RoomLemmas.{alike_room, first_counts, one_less}
use Rattle.hs_effects.proofs.StepLemmas.{done_asks}
use Rattle.hs_entry.specs.declared.entry.Entry.{Entry}
use Rattle.hs_entry.specs.declared.entry.Entry.TheVariants as kind
use Rattle.hs_fold.proofs.Shards.PlaceLemmas.{other-at, same-at}
use Rattle.hs_journal.specs.declared.entry.Who.TheVariants as who
use Rattle.hs_limits.specs.declared.address.Address.{Address}
use Rattle.hs_memory.specs.Forget.{named as named_by}
use Rattle.hs_model.specs.declared.deed.Deed.TheVariants as deed
use Rattle.hs_model.specs.declared.op.Op.{Op}
use Rattle.hs_model.specs.declared.op.Op.TheVariants as op
use Rattle.hs_model.specs.declared.reply.Reply.TheVariants as reply
use Rattle.hs_ops.specs.Operations.{effect_step}
use Rattle.hs_ops.specs.Speaking.{wanted_address}
use Rattle.hs_replica.specs.Group.{Group, committed, new_group, take_committed}
use Rattle.hs_replica.specs.Kinds.{is_block, is_root}
use Rattle.hs_roots.specs.Roots.{retained_count}
use Rattle.hs_shard.specs.declared.effect.Effect.{Effect}
use Rattle.hs_shard.specs.Facts.{Catalogue, empty_catalogue}
use Rattle.hs_tokens.specs.Seats.{Seats}

-- ---- the name of an entry's block

block_of : (name : List ℕ → Address) (seats : Seats) (line k least : ℕ) (bytes : List ℕ) (o : Op) → IsEntryOf name seats k o (kind.Block line least bytes)
    → (written_address o ≡ Some (name bytes)) × (wanted_address seats o ≡ Some (name bytes))
block_of name seats line k least bytes (op.Write session payload handles address) asks = (go asks, go asks)
  where
    go : IsEntryOf name seats k (op.Write session payload handles address) (kind.Block line least bytes) → address ≡ Some (name bytes)
    go (inl is) = is.1 ∙ ap (λ x. Some (name x)) (spelled is.0)
      where
        spelled : {l m : ℕ} {x : List ℕ} → kind.Block line least bytes ≡ kind.Block l m x → x ≡ bytes
        spelled e = cc e
    go (inr is) = absurd (cc is.1)
block_of name seats line k least bytes (op.Root session key handle) asks = absurd (cc asks)
block_of name seats line k least bytes (op.Drop key) asks = absurd (cc asks)
block_of name seats line k least bytes op.Delete asks = absurd (cc asks.1)
block_of name seats line k least bytes (op.Open session) asks = absurd asks
block_of name seats line k least bytes (op.Close session) asks = absurd asks
block_of name seats line k least bytes (op.Read session handle) asks = absurd asks
block_of name seats line k least bytes (op.Look session key) asks = absurd asks
block_of name seats line k least bytes (op.Forget session handle) asks = absurd asks
block_of name seats line k least bytes (op.Name session handle) asks = absurd asks
block_of name seats line k least bytes op.Stat asks = absurd asks

-- an entry that waits stores the block of its name, by its write, and that is what its operation is about
listed : (name : List ℕ → Address) (c : Core) (shard place : ℕ) (entry : Entry) → IsOrderly name c → slice_get (group_of shard c).waiting place ≡ Some entry
    → (stored entry c ≡ named_by name entry) × IsNamed name entry c
listed name c shard place (kind.Block line least bytes) its at =
    let h = its.asked shard place line (kind.Block line least bytes) at refl in
    let both : (written_address h.waiting.operation.op ≡ Some (name bytes)) × (wanted_address c.sessions h.waiting.operation.op ≡ Some (name bytes))
    = block_of name c.sessions line line least bytes h.waiting.operation.op h.asks in (
      ap (λ (o : Option Waiting). option_and_then (λ (w : Waiting). written_address w.operation.op) o) h.at ∙ both.0,
      ap (λ (o : Option Waiting). option_and_then (λ (w : Waiting). wanted_address c.sessions w.operation.op) o) h.at ∙ both.1,
    )
listed name c shard place (kind.View view) its at = (refl, refl)
listed name c shard place (kind.Mark line least block a) its at = (refl, refl)
listed name c shard place (kind.Root line held a key) its at = (refl, refl)
listed name c shard place (kind.Drop line key) its at = (refl, refl)
listed name c shard place (kind.Enter line epoch) its at = (refl, refl)
listed name c shard place (kind.Got from epoch round total deltas) its at = (refl, refl)
listed name c shard place (kind.Base view epoch swept round frames) its at = (refl, refl)
listed name c shard place (kind.KeptBlock born mark flags count bytes) its at = (refl, refl)
listed name c shard place (kind.KeptRoot created dropped counted address key) its at = (refl, refl)
listed name c shard place (kind.KeptRound way other epoch round total deltas) its at = (refl, refl)

pub listed_named : (name : List ℕ → Address) (c : Core) (shard place : ℕ) (entry : Entry) → IsOrderly name c → slice_get (group_of shard c).waiting place ≡ Some entry → IsNamed name entry c
listed_named name c shard place entry its at = (listed name c shard place entry its at).1

pub listed_stored : (name : List ℕ → Address) (c : Core) (shard place : ℕ) (entry : Entry) → IsOrderly name c → slice_get (group_of shard c).waiting place ≡ Some entry → stored entry c ≡ named_by name entry
listed_stored name c shard place entry its at = (listed name c shard place entry its at).0

pub committed_named : (name : List ℕ → Address) (c : Core) (shard number : ℕ) (entry : Entry) → IsOrderly name c → committed (group_of shard c) ≡ Some (number, entry) → IsNamed name entry c
committed_named name c shard number entry its e = listed_named name c shard 0 entry its (committed_first (group_of shard c) number entry e).first

-- ---- the line of an entry that is taken is free

beyond : {X : Type 0} (none : X) (xs : List X) (k : ℕ) → (k < length xs) ⊎ (slice_index_or xs k none ≡ none)
beyond none [] k = inr refl
beyond none (x ∷ xs) zero = inl (omega arith)
beyond none (x ∷ xs) (suc k) = go (beyond none xs k)
  where
    go : (k < length xs) ⊎ (slice_index_or xs k none ≡ none) → (suc k < length (x ∷ xs)) ⊎ (slice_index_or xs k none ≡ none)
    go (inl l) = inl (grind (arith, common_steps, l))
    go (inr e) = inr e

pub taken_here : (shard number : ℕ) (entry : Entry) (c : Core) → committed (group_of shard c) ≡ Some (number, entry) → group_of shard (change_group shard take_committed c) ≡ take_committed (group_of shard c)
taken_here shard number entry c e = go (beyond (new_group (shape_of c) shard 0 0 []) c.groups shard)
  where
    go : (shard < length c.groups) ⊎ (group_of shard c ≡ new_group (shape_of c) shard 0 0 []) → group_of shard (change_group shard take_committed c) ≡ take_committed (group_of shard c)
    go (inl low) = same-at (new_group (shape_of c) shard 0 0 []) c.groups shard (take_committed (group_of shard c)) low
    go (inr out) = absurd (nothing (ap (λ (x : Group). committed x) (sym out) ∙ e))
      where
        nothing : committed (new_group (shape_of c) shard 0 0 []) ≡ Some (number, entry) → ⊥
        nothing e = cc e

entry_number : (a b : ℕ) → wait.Entry a ≡ wait.Entry b → a ≡ b
entry_number a b e = cc e

pub taken_free : (name : List ℕ → Address) (shard number line : ℕ) (entry : Entry) (c : Core) → IsOrderly name c → committed (group_of shard c) ≡ Some (number, entry) → asked_by entry ≡ Some line
    → IsFree (change_group shard take_committed c) line
taken_free name shard number line entry c its e by = λ g place x at of. go g place x at of (group_changed shard take_committed c g)
  where
    one : IsFirst (group_of shard c) number entry
    one = committed_first (group_of shard c) number entry e

    h : HasAsked name c shard (front_of shard c + 1 + 0) line entry
    h = its.asked shard 0 line entry one.first by

    -- another entry of the line would stand at the same place
    same_place : (g place : ℕ) (x : Entry) → slice_get (group_of g c).waiting place ≡ Some x → asked_by x ≡ Some line → (g ≡ shard) × (front_of g c + 1 + place ≡ front_of shard c + 1 + 0)
    same_place g place x at of =
        let k = its.asked g place line x at of in
        let w : k.waiting ≡ h.waiting = some_is k.waiting h.waiting (sym k.at ∙ h.at) in
        (sym k.judges ∙ ap (λ (y : Waiting). y.shard) w ∙ h.judges, entry_number _ _ (sym k.waits ∙ ap (λ (y : Waiting). y.wait) w ∙ h.waits))

    go : (g place : ℕ) (x : Entry) → slice_get (group_of g (change_group shard take_committed c)).waiting place ≡ Some x → asked_by x ≡ Some line
        → (group_of g (change_group shard take_committed c) ≡ group_of g c) ⊎ ((g ≡ shard) × (group_of g (change_group shard take_committed c) ≡ take_committed (group_of shard c))) → ⊥
    go g place x at of (inl same) =
        let there = same_place g place x (sym (ap (λ (y : Group). slice_get y.waiting place) same) ∙ at) of in
        let here : take_committed (group_of shard c) ≡ group_of shard c = sym (taken_here shard number entry c e) ∙ subst (λ j. group_of j (change_group shard take_committed c) ≡ group_of j c) there.0 same in
        let rises = one.taken.front in
        let stays : (take_committed (group_of shard c)).front ≡ (group_of shard c).front = ap (λ (y : Group). y.front) here in
        omega (arith, rises, stays)
    go g place x at of (inr is) =
        let there : slice_get (group_of shard c).waiting (suc place) ≡ Some x =
        sym (at_front (group_of shard c).waiting place) ∙ sym (ap (λ es. slice_get es place) one.taken.waiting) ∙ sym (ap (λ (y : Group). slice_get y.waiting place) is.1) ∙ at in
        let again = (same_place shard (suc place) x there of).1 in
        omega (arith, again)

-- ---- what is told of an entry

pub sweep_alike : (shard removed : ℕ) (c : Core) → Alike c (note_sweep shard removed c)
sweep_alike shard removed c = go _
  where
    first : Core
    first = note (who.Shard shard) (deed.Swept shard) (reply.Sweep (catalogue_of shard c).swept removed) c

    go : (b : Bool) → Alike c (change_if b (note who.Store deed.Nothing (reply.Done (catalogue_of shard c).swept)) (note (who.Shard shard) (deed.Swept shard) (reply.Sweep (catalogue_of shard c).swept removed) c))
    go true = record { operations = refl; sessions = refl; limits = refl; shape = refl; waiting = λ g. refl; front = λ g. refl; catalogue = λ g. refl }
    go false = record { operations = refl; sessions = refl; limits = refl; shape = refl; waiting = λ g. refl; front = λ g. refl; catalogue = λ g. refl }

enter_alike : (shard : ℕ) (did : What) (c : Core) → Alike c (note_enter shard did c)
enter_alike shard what.Nothing c = alike_same c
enter_alike shard (what.Viewed view) c = alike_same c
enter_alike shard what.Stored c = alike_same c
enter_alike shard what.Marked c = alike_same c
enter_alike shard what.Again c = alike_same c
enter_alike shard what.Rooted c = alike_same c
enter_alike shard what.Dropped c = alike_same c
enter_alike shard (what.Entered epoch) c = record { operations = refl; sessions = refl; limits = refl; shape = refl; waiting = λ g. refl; front = λ g. refl; catalogue = λ g. refl }
enter_alike shard what.Refused c = alike_same c

pub due_orderly : (name : List ℕ → Address) (shard : ℕ) (c : Core) → IsOrderly name c → IsOrderly name (propose_due shard c)
due_orderly name shard c its = go (is_enter_due shard c)
  where
    go : (b : Bool) → IsOrderly name (change_if b (propose_entry shard (kind.Enter 0 ((catalogue_of shard c).epoch + 1))) c)
    go true = own_orderly name shard (kind.Enter 0 ((catalogue_of shard c).epoch + 1)) c refl its
    go false = its

-- ---- one entry, and all that are committed

module _ (name : List ℕ → Address) (shard : ℕ) (c : Core) (its : IsOrderly name c) where
  pub told_orderly : (line : ℕ) (did : What) → IsFree c line → IsOrderly name (tell_operation line did c)
  told_orderly line did free = going_orderly (λ v o. effect_step v did o) (done_asks did) name line c its free

  pub enter_orderly : (line : ℕ) (did : What) → ((line == 0) ≡ false → IsFree c line) → IsOrderly name (tell_enter shard line did c)
  enter_orderly line did free = go (operation_of line c) refl
    where
      counted : 1 ≤ line → (line == 0) ≡ false
      counted low = grind (arith, nat_tests, low)

      go : (o : Option Waiting) → operation_of line c ≡ o → IsOrderly name (cond (is_some o) (tell_operation line did c) (note_enter shard did c))
      go None at = alike_orderly name c (note_enter shard did c) (enter_alike shard did c) its
      go (Some u) at = told_orderly line did (free (counted ((its.pending line u at).counted)))

  swept_orderly : (removed : Option ℕ) → IsOrderly name (change_with removed (note_sweep shard) c)
  swept_orderly None = its
  swept_orderly (Some n) = alike_orderly name c (note_sweep shard n c) (sweep_alike shard n c) its

  at_once_orderly : (entry : Entry) (effect : Effect) → ((line : ℕ) → asked_by entry ≡ Some line → IsFree c line) → IsOrderly name (tells_at_once shard entry effect c)
  at_once_orderly (kind.Block line least bytes) effect free = told_orderly line effect.what (free line refl)
  at_once_orderly (kind.Mark line least block a) effect free = told_orderly line effect.what (free line refl)
  at_once_orderly (kind.Root line held a key) effect free = told_orderly line effect.what (free line refl)
  at_once_orderly (kind.Drop line key) effect free = told_orderly line effect.what (free line refl)
  at_once_orderly (kind.Enter line epoch) effect free = enter_orderly line effect.what (λ e. free line (ap (λ b. cond b None (Some line)) e))
  at_once_orderly (kind.Got from epoch round total deltas) effect free = swept_orderly effect.removed
  at_once_orderly other effect free = its

same_le : (m n k : ℕ) → m ≡ n → m ≤ n + k
same_le m n k e = omega (arith, e)

-- what is taken leaves its place, and adds no more than that to its shard
pub taken_room : (name : List ℕ → Address) (shard number : ℕ) (entry : Entry) (c : Core) → IsOrderly name c → committed (group_of shard c) ≡ Some (number, entry) → (g : ℕ) → HasRoom (taken shard entry c) g
taken_room name shard number entry c its e g = go (one_or_other g shard)
  where
    here : Core
    here = taken shard entry c

    done : Catalogue
    done = (done_by shard entry c).catalogue

    one : IsFirst (group_of shard c) number entry
    one = committed_first (group_of shard c) number entry e

    grows : Grows entry (catalogue_of shard c) done
    grows = applied_grows (front_of shard c + 1) entry (named entry c) (catalogue_of shard c)

    list_is : (group_of shard here).waiting ≡ drop 1 (group_of shard c).waiting
    list_is = ap (λ (x : Group). x.waiting) (taken_here shard number entry c e) ∙ one.taken.waiting

    none : Catalogue
    none = empty_catalogue (shape_of c) shard

    -- whatever is counted of a catalogue
    held_is : (f : Catalogue → ℕ) (more : ℕ) → f done ≤ f (catalogue_of shard c) + more → f (catalogue_of shard here) ≤ f (catalogue_of shard c) + more
    held_is f more low = by (set_at none c.catalogues shard done)
      where
        by : (slice_index_or (slice_set c.catalogues shard done) shard none ≡ done) ⊎ (slice_index_or (slice_set c.catalogues shard done) shard none ≡ slice_index_or c.catalogues shard none)
            → f (catalogue_of shard here) ≤ f (catalogue_of shard c) + more
        by (inl set) = subst (λ k. k ≤ f (catalogue_of shard c) + more) (sym (ap f set)) low
        by (inr old) = same_le (f (catalogue_of shard here)) (f (catalogue_of shard c)) more (ap f old)

    fits : (p : Entry → Bool) (f : Catalogue → ℕ) (limit : ℕ) → f done ≤ f (catalogue_of shard c) + cond (p entry) 1 0 → Fit (count_by p (group_of shard c).waiting) (f (catalogue_of shard c)) limit
        → Fit (count_by p (group_of shard here).waiting) (f (catalogue_of shard here)) limit
    fits p f limit low fit =
        subst (λ es. Fit (count_by p es) (f (catalogue_of shard here)) limit) (sym list_is)
        (one_less (count_by p (drop 1 (group_of shard c).waiting)) (cond (p entry) 1 0) (f (catalogue_of shard c)) (f (catalogue_of shard here)) limit (held_is f (cond (p entry) 1 0) low)
        (subst (λ n. Fit n (f (catalogue_of shard c)) limit) (first_counts p (group_of shard c).waiting entry one.first) fit))

    at_shard : HasRoom here shard
    at_shard = record {
      blocks = fits is_block (λ x. length x.blocks) c.limits.blocks grows.blocks (its.roomy shard).blocks;
      roots = fits is_root (λ x. retained_count x.roots) c.limits.roots grows.roots (its.roomy shard).roots;
    }

    list_other : (g ≡ shard → ⊥) → (group_of g (change_group shard take_committed c) ≡ group_of g c) ⊎ ((g ≡ shard) × (group_of g (change_group shard take_committed c) ≡ take_committed (group_of shard c)))
        → (group_of g here).waiting ≡ (group_of g c).waiting
    list_other d (inl same) = ap (λ (x : Group). x.waiting) same
    list_other d (inr is) = absurd (d is.0)

    go : (g ≡ shard) ⊎ (g ≡ shard → ⊥) → HasRoom (taken shard entry c) g
    go (inl is) = subst (λ j. HasRoom (taken shard entry c) j) (sym is) at_shard
    go (inr d) = alike_room c here g refl (list_other d (group_changed shard take_committed c g)) (other-at (empty_catalogue (shape_of c) g) c.catalogues shard g done d) (its.roomy g)

-- the core when an entry has taken effect and was told of
pub effect_orderly : (name : List ℕ → Address) (shard number : ℕ) (entry : Entry) (c : Core) → IsOrderly name c → committed (group_of shard c) ≡ Some (number, entry) → IsOrderly name (told_at_once shard entry c)
effect_orderly name shard number entry c its e =
    let first : Core = change_group shard take_committed c in
    let here : Core = taken shard entry c in
    let its_first : IsOrderly name first = committed_orderly name shard c its in
    let its_here : IsOrderly name here = with_lists name first here its_first refl refl refl refl
    (λ g place k x at by. asked_alike name first here g (front_of g first + 1 + place) (front_of g here + 1 + place) k x refl refl refl refl refl (its_first.asked g place k x at by))
    (taken_room name shard number entry c its e) in
    at_once_orderly name shard here its_here entry (done_by shard entry c).effect (λ line by g place x at of. taken_free name shard number line entry c its e by g place x at of)
