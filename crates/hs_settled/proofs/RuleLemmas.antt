-- What is told beyond a journal that keeps the rule of sweeps and of `done`.
use Rattle.std.proofs.Common.{◌≡◌, ◌∙◌, inl, inr, sym, ap, subst, ℕ, List, [], ◌∷◌, ◌++◌, Option, Some, None, IsSome, refl}
use Rattle.std.specs.List.{AllByRecursion}
use Rattle.hs_answered.specs.Telling.{Judging, events_in}
use Rattle.hs_core_words.specs.Changing.{refuse}
use Rattle.hs_core_words.specs.State.{Core}
use Rattle.hs_settled.proofs.ReplyLemmas.{IsNoSweep, IsNotDone, judge_undone}
use Rattle.hs_settled.proofs.SaidLemmas.{IsPlain, IsSpoken, Says, noted_told}
use Rattle.hs_settled.specs.Deletion.{IsMereRefusal}
use Rattle.hs_journal.specs.declared.entry.JournalEntry.{JournalEntry}
use Rattle.hs_journal.specs.declared.entry.Who.{Who}
use Rattle.hs_journal.specs.declared.entry.Who.TheVariants as who
use Rattle.hs_journal.specs.Events.{HasAnswer, IsAnswered, addressed, asked, client_op, event_at, store_by}
use Rattle.hs_standing.specs.Telling.{told_so_far}
use Rattle.hs_model.specs.declared.deed.Deed.{Deed}
use Rattle.hs_model.specs.declared.deed.Deed.TheVariants as deed
use Rattle.hs_model.specs.declared.op.Op.{Op}
use Rattle.hs_model.specs.declared.reply.Reply.{Reply}
use Rattle.hs_model.specs.declared.reply.Reply.TheVariants as reply
use Rattle.hs_model.specs.Run.{run}
use Rattle.hs_model.specs.Store.{Store}
use Rattle.hs_swept.proofs.DoneLemmas.{none_swept, other_swept}
use Rattle.hs_swept.proofs.JoinLemmas.{joined}
use Rattle.hs_swept.specs.Swept.{AreSwept, IsOther}

-- ---- lists

pub all_front : {X : Type 0} (P : X → Type 0) (xs ys : List X) → AllByRecursion P (xs ++ ys) → AllByRecursion P xs
all_front P [] ys h = tt
all_front P (x ∷ xs) ys h = (h.0, all_front P xs ys h.1)

pub all_back : {X : Type 0} (P : X → Type 0) (xs ys : List X) → AllByRecursion P (xs ++ ys) → AllByRecursion P ys
all_back P [] ys h = h
all_back P (x ∷ xs) ys h = all_back P xs ys h.1

-- ---- entries

-- those that tell neither of a sweep nor of the end of a run keep it, wherever they stand
pub others_swept : (by : Judging) (s : Store) (entries : List JournalEntry) → AllByRecursion IsOther entries → AreSwept by s entries
others_swept by s [] h = none_swept by s
others_swept by s (e ∷ entries) h = joined by s (e ∷ []) entries (other_swept by s e h.0) (others_swept by (run by.limits s (events_in by s (e ∷ []))) entries h.1)

-- what the plain store answers tells of no run that it is done
spoken_other : (by : Judging) (s : Store) (e : JournalEntry) → HasAnswer by.limits s e (event_at by.commands by.name s e) → IsSpoken by.commands e → IsOther e
spoken_other by s e has its = record { no_sweep = λ shard is. subst (λ (d : Deed). IsNoSweep d) is its.did; no_done = λ epoch is. undone epoch is }
  where
    same : (epoch : ℕ) → e.reply ≡ reply.Done epoch → e ≡ record { who = who.Line its.line; moment = e.moment; deed = e.deed; reply = reply.Done epoch }
    same epoch is =
        ap (λ (x : Who). record { who = x; moment = e.moment; deed = e.deed; reply = e.reply }) its.of
        ∙ ap (λ (x : Reply). record { who = who.Line its.line; moment = e.moment; deed = e.deed; reply = x }) is

    never : (epoch : ℕ) (o : Option Op) → IsSome o → HasAnswer by.limits s (record { who = who.Line its.line; moment = e.moment; deed = e.deed; reply = reply.Done epoch }) (asked by.name s o) → ⊥
    never epoch None some h = cc some
    never epoch (Some said) some h = subst (λ (r : Reply). IsNotDone r) (sym h.0) (judge_undone by.limits s (addressed by.name s said))

    undone : (epoch : ℕ) → e.reply ≡ reply.Done epoch → ⊥
    undone epoch is = never epoch (client_op (by.commands its.line)) its.client (subst (λ (x : JournalEntry). HasAnswer by.limits s x (event_at by.commands by.name s x)) (same epoch is) has)

plain_others : (by : Judging) (s : Store) (entries : List JournalEntry) → IsAnswered by.commands by.name by.limits s entries → AllByRecursion (IsPlain by.commands) entries → AllByRecursion IsOther entries
plain_others by s [] answered h = tt
plain_others by s (e ∷ entries) answered h = (one h.0, plain_others by (store_by by.limits s (event_at by.commands by.name s e)) entries answered.1 h.1)
  where
    one : IsPlain by.commands e → IsOther e
    one (inl spoken) = spoken_other by s e answered.0 spoken
    one (inr other) = other

-- the answers of the back of a journal, from some store on
answered_back : (by : Judging) (s : Store) (front back : List JournalEntry) → IsAnswered by.commands by.name by.limits s (front ++ back) → (t : Store) × IsAnswered by.commands by.name by.limits t back
answered_back by s [] back h = (s, h)
answered_back by s (e ∷ front) back h = answered_back by (store_by by.limits s (event_at by.commands by.name s e)) front back h.1

-- ---- the rule, as a core tells on

module _ (by : Judging) (start : Store) where
  -- where no line that is no client's tells of a sweep or of the end of a run, the rule is kept
  abbrev pub Rule : Core → Type 0
  Rule c = AllByRecursion (IsMereRefusal by.commands) (told_so_far c) → AreSwept by start (told_so_far c)

  pub rule_same : (a b : Core) → told_so_far b ≡ told_so_far a → Rule a → Rule b
  rule_same a b same rule mere =
      subst (λ (es : List JournalEntry). AreSwept by start es) (sym same) (rule (subst (λ (es : List JournalEntry). AllByRecursion (IsMereRefusal by.commands) es) same mere))

  pub rule_on : (a b : Core) → Says (IsPlain by.commands) a b → IsAnswered by.commands by.name by.limits start (told_so_far b) → Rule a → Rule b
  rule_on a b says answered rule mere =
      subst (λ (es : List JournalEntry). AreSwept by start es) (sym says.told)
      (joined by start (told_so_far a) says.more (rule front) (others_swept by (run by.limits start (events_in by start (told_so_far a))) says.more (plain_others by back.0 says.more back.1 says.each)))
    where
      front : AllByRecursion (IsMereRefusal by.commands) (told_so_far a)
      front = all_front (IsMereRefusal by.commands) (told_so_far a) says.more (subst (λ (es : List JournalEntry). AllByRecursion (IsMereRefusal by.commands) es) says.told mere)

      back : (t : Store) × IsAnswered by.commands by.name by.limits t says.more
      back = answered_back by start (told_so_far a) says.more (subst (λ (es : List JournalEntry). IsAnswered by.commands by.name by.limits start es) says.told answered)

  -- a line that is no client's is refused
  pub rule_refused : (line : ℕ) (refusal : Reply) (c : Core) → client_op (by.commands line) ≡ None → IsAnswered by.commands by.name by.limits start (told_so_far (refuse line refusal c)) → Rule c → Rule (refuse line refusal c)
  rule_refused line refusal c nobody answered rule mere =
      rule_on c (refuse line refusal c) (record { more = entry ∷ []; told = noted_told (who.Line line) deed.Nothing refusal c; each = (inr (here.0 line refl nobody), tt) }) answered rule mere
    where
      entry : JournalEntry
      entry = record { who = who.Line line; moment = c.moment; deed = deed.Nothing; reply = refusal }

      here : AllByRecursion (IsMereRefusal by.commands) (entry ∷ [])
      here = all_back (IsMereRefusal by.commands) (told_so_far c) (entry ∷ [])
          (subst (λ (es : List JournalEntry). AllByRecursion (IsMereRefusal by.commands) es) (noted_told (who.Line line) deed.Nothing refusal c) mere)
