-- What an entry that is counted as a note tells.
use Rattle.std.proofs.Common.{◌≡◌, ◌∙◌, ap, sym, ℕ, ◌==◌, ◌&&◌, Bool, true, false, List, [], ◌∷◌, Option, Some, None, refl}
use Rattle.std.proofs.lemmas.Bool.{eqb-true}
use Rattle.std.specs.List.{AllByRecursion}
use Rattle.std.specs.Option.{option_map_or}
use Rattle.hs_settled.proofs.CausesFirstLemmas.{IsFirst}
use Rattle.hs_settled.proofs.CausesListLemmas.{any_all, count_none, not_both}
use Rattle.hs_journal.specs.declared.entry.JournalEntry.{JournalEntry}
use Rattle.hs_journal.specs.Notes.{down_in, is_first_note, is_first_noted, is_note, note_count}
use Rattle.hs_model.specs.declared.reply.Reply.{Reply}
use Rattle.hs_model.specs.declared.reply.Reply.TheVariants as reply

pub down_of : (r : Reply) (d : ℕ × ℕ) → down_in r ≡ Some d → r ≡ reply.Down d.0 d.1
down_of (reply.Down peer line) d e = let same : (peer, line) ≡ d = cc e in ap (λ (x : ℕ × ℕ). reply.Down x.0 x.1) same
down_of reply.Ok d e = absurd (cc e)
down_of (reply.New handle epoch) d e = absurd (cc e)
down_of (reply.Dup handle epoch) d e = absurd (cc e)
down_of (reply.Bytes bytes handles) d e = absurd (cc e)
down_of (reply.Held handle epoch) d e = absurd (cc e)
down_of (reply.Name address) d e = absurd (cc e)
down_of (reply.Stat blocks roots sessions epochs swept) d e = absurd (cc e)
down_of (reply.Run epoch) d e = absurd (cc e)
down_of (reply.Enter epoch) d e = absurd (cc e)
down_of (reply.Sweep epoch removed) d e = absurd (cc e)
down_of (reply.Done epoch) d e = absurd (cc e)
down_of (reply.Visits epoch count) d e = absurd (cc e)
down_of (reply.NoSession session) d e = absurd (cc e)
down_of (reply.SessionTaken session) d e = absurd (cc e)
down_of (reply.SessionsFull limit) d e = absurd (cc e)
down_of (reply.Busy line) d e = absurd (cc e)
down_of (reply.TooLong found) d e = absurd (cc e)
down_of (reply.TooMany found) d e = absurd (cc e)
down_of (reply.NoHandle handle) d e = absurd (cc e)
down_of (reply.HandlesFull limit) d e = absurd (cc e)
down_of (reply.Stale handle held now) d e = absurd (cc e)
down_of reply.Collision d e = absurd (cc e)
down_of (reply.ShardFull limit) d e = absurd (cc e)
down_of (reply.KeyTaken key) d e = absurd (cc e)
down_of (reply.NoKey key) d e = absurd (cc e)
down_of (reply.RootsFull limit) d e = absurd (cc e)
down_of (reply.Running epoch) d e = absurd (cc e)
down_of (reply.EpochEnd limit) d e = absurd (cc e)
down_of (reply.NoPeer peer) d e = absurd (cc e)
down_of (reply.NotUp peer) d e = absurd (cc e)
down_of (reply.NotDown peer) d e = absurd (cc e)
down_of (reply.NoMessage message) d e = absurd (cc e)
down_of (reply.PoolFull limit) d e = absurd (cc e)

-- a note of a peer has some line
pub record Notes (peer : ℕ) (entry : JournalEntry) : Type 0 where
  pub line : ℕ
  pub in_it : down_in entry.reply ≡ Some (peer, line)
  pub told : entry.reply ≡ reply.Down peer line

pub note_is : (peer : ℕ) (entry : JournalEntry) → is_note peer entry ≡ true → Notes peer entry
note_is peer entry e = go (down_in entry.reply) refl e
  where
    go : (o : Option (ℕ × ℕ)) → down_in entry.reply ≡ o → option_map_or (λ (d : ℕ × ℕ). d.0 == peer) o false ≡ true → Notes peer entry
    go None is k = absurd (cc k)
    go (Some d) is k =
        let same : d.0 ≡ peer = eqb-true d.0 peer k in
        let all : down_in entry.reply ≡ Some (peer, d.1) = is ∙ ap (λ n. Some (n, d.1)) same in
        record { line = d.1; in_it = all; told = down_of entry.reply (peer, d.1) all }

-- ---- first notes

-- a first note is of a peer where its reply names it
pub first_is_note : (n peer : ℕ) (entry : JournalEntry) → IsFirst n entry → is_first_note peer entry ≡ false → is_note peer entry ≡ false
first_is_note n peer entry first e = go (first.peer == peer) refl
  where
    note : is_note peer entry ≡ (first.peer == peer)
    note = ap (λ o. option_map_or (λ (d : ℕ × ℕ). d.0 == peer) o false) (ap down_in first.told)

    none : (first.peer == peer && true) ≡ false
    none = sym (ap (λ o. option_map_or (λ (d : ℕ × ℕ). d.0 == peer && d.1 == 0) o false) (ap down_in first.told)) ∙ e

    go : (b : Bool) → (first.peer == peer) ≡ b → is_note peer entry ≡ false
    go false t = note ∙ t
    go true t = absurd (not_both (sym (ap (λ b. b && true) t) ∙ none))

firsts_none : (n peer : ℕ) (es : List JournalEntry) → AllByRecursion (λ (e : JournalEntry). IsFirst n e) es → AllByRecursion (λ e. is_first_note peer e ≡ false) es → AllByRecursion (λ e. is_note peer e ≡ false) es
firsts_none n peer [] h k = tt
firsts_none n peer (e ∷ es) h k = (first_is_note n peer e h.0 k.0, firsts_none n peer es h.1 k.1)

-- so that none of them notes a peer which none notes first
pub not_noted : (n peer : ℕ) (es : List JournalEntry) → AllByRecursion (λ (e : JournalEntry). IsFirst n e) es → is_first_noted peer es ≡ false → note_count peer es ≡ 0
not_noted n peer es h none = count_none peer es (firsts_none n peer es h (any_all (is_first_note peer) es none))
