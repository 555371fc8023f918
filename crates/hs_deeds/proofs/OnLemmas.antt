-- What a change of a core tells, as deeds: from the store of some folds, without data, to that of the folds behind it.
use Rattle.std.proofs.Common.{◌≡◌, ◌∙◌, ◌<◌, sym, ap, subst, ℕ, Bool, true, false, cond, List, [], ◌∷◌, ◌++◌, length, map, Some, refl, append-nil, append_assoc, nat_le}
use Rattle.std.specs.List.{list_all}
use Rattle.std.specs.Option.{option_map_or}
use Rattle.std.specs.Prelude.{slice_index}
use Rattle.std.proofs.lemmas.Bool.{eq-eqb}
use Rattle.hs_answered.specs.Judged.{IsJudged, entry_of, judged_at}
use Rattle.hs_answered.specs.Standing.{store_with}
use Rattle.hs_core_words.specs.State.{Core}
use Rattle.hs_deeds.proofs.HollowLemmas.{sweep_hollow}
use Rattle.hs_deeds.proofs.JudgedLemmas.{enter_is, judge_is, judge_left, sweep_is}
use Rattle.hs_deeds.specs.On.{DeedsOn}
use Rattle.hs_deeds.specs.Told.{store_after}
use Rattle.hs_effects.specs.Answered.{HasAnswer, IsAnsweredBy}
use Rattle.hs_effects.specs.Telling.{HasHappened, HasSwept, done_entries, shard_entry}
use Rattle.hs_effects.specs.Telling.{event_at as done_at}
use Rattle.hs_fold.specs.Runs.Facts.{Catalogue as Folded}
use Rattle.hs_journal.specs.declared.entry.JournalEntry.{JournalEntry}
use Rattle.hs_journal.specs.declared.entry.Who.TheVariants as who
use Rattle.hs_journal.specs.Deeds.{as_deed}
use Rattle.hs_limits.specs.declared.limits.Limits.{Limits}
use Rattle.hs_model.specs.declared.deed.Deed.TheVariants as deed
use Rattle.hs_model.specs.declared.op.Op.{Op}
use Rattle.hs_model.specs.declared.reply.Reply.TheVariants as reply
use Rattle.hs_model.specs.Deeds.{AreDeeds, DeedEntry, IsDeed, deed_store, is_sweep_of, last_reply}
use Rattle.hs_model.specs.Hollow.{hollow}
use Rattle.hs_model.specs.Inner.{sweep}
use Rattle.hs_model.specs.Judge.{judge}
use Rattle.hs_model.specs.Run.{enters, sweeps}
use Rattle.hs_model.specs.Store.{Store}

-- ---- one behind another

pub deeds_join : (limits : Limits) (s : Store) (before es fs : List DeedEntry) → AreDeeds limits s before es → AreDeeds limits (store_after s es) (before ++ es) fs → AreDeeds limits s before (es ++ fs)
deeds_join limits s before [] fs its more = subst (λ (b : List DeedEntry). AreDeeds limits s b fs) (append-nil before) more
deeds_join limits s before (e ∷ es) fs its more =
    (its.0, deeds_join limits (deed_store s e.deed) (before ++ e ∷ []) es fs its.1 (subst (λ (b : List DeedEntry). AreDeeds limits (store_after (deed_store s e.deed) es) b fs) (sym (append_assoc before (e ∷ []) es)) more))

pub after_join : (s : Store) (es fs : List DeedEntry) → store_after s (es ++ fs) ≡ store_after (store_after s es) fs
after_join s [] fs = refl
after_join s (e ∷ es) fs = after_join (deed_store s e.deed) es fs

pub map_join : {X Y : Type 0} (f : X → Y) (xs ys : List X) → map f (xs ++ ys) ≡ map f xs ++ map f ys
map_join f [] ys = refl
map_join f (x ∷ xs) ys = ap (λ zs. f x ∷ zs) (map_join f xs ys)

last_is : (before : List DeedEntry) (e : DeedEntry) → last_reply (before ++ e ∷ []) ≡ Some e.reply
last_is [] e = refl
last_is (x ∷ []) e = refl
last_is (x ∷ y ∷ rest) e = last_is (y ∷ rest) e

-- ---- what a change tells

module _ (Known : List DeedEntry → Type 0) (limits : Limits) (cs behind : List Folded) (a b : Core) where
  -- nothing is told
  pub silent_on : b.journal ≡ a.journal → b.refused ≡ a.refused → b.entries ≡ a.entries → store_with behind b.sessions ≡ store_with cs a.sessions → DeedsOn Known limits cs behind a b
  silent_on journal refused same left = record {
    more = [];
    journal = journal;
    refused = refused;
    told = same ∙ sym (append-nil a.entries);
    deeds = λ before k. tt;
    left = sym (ap (λ (s : Store). hollow s) left);
  }

  -- an operation is answered as the judge says
  pub answered_on : (line : ℕ) (o : Op) → a.limits ≡ limits → IsAnsweredBy cs behind a b line o → b.journal ≡ a.journal → b.refused ≡ a.refused → DeedsOn Known limits cs behind a b
  answered_on line o same its journal refused = record {
    more = entry_of line a.moment (judged_at cs a o) ∷ [];
    journal = journal;
    refused = refused;
    told = its.told;
    deeds = λ before k. (subst (λ (l : Limits). IsDeed limits (hollow (store_with cs a.sessions)) before (as_deed (entry_of line a.moment (judge l (store_with cs a.sessions) o)))) (sym same) (judge_is limits (store_with cs a.sessions) o before line), tt);
    left = sym (judge_left a.limits (store_with cs a.sessions) o) ∙ sym (ap (λ (s : Store). hollow s) its.left);
  }

  pub has_answer_on : (line : ℕ) → a.limits ≡ limits → HasAnswer cs behind a b line → b.journal ≡ a.journal → b.refused ≡ a.refused → DeedsOn Known limits cs behind a b
  has_answer_on line same h journal refused = answered_on line h.waiting.operation.op same h.answered journal refused

  -- a shard has entered by itself
  pub entered_on : (shard : ℕ) → a.limits ≡ limits → shard < length (store_with cs a.sessions).epochs → HasHappened cs behind a b shard (enters shard) [] → b.journal ≡ a.journal → b.refused ≡ a.refused → DeedsOn Known limits cs behind a b
  entered_on shard same low its journal refused = record {
    more = shard_entry shard a.moment (done_at cs a (enters shard)) ∷ [];
    journal = journal;
    refused = refused;
    told = its.told;
    deeds = λ before k. (enter_is limits (store_with cs a.sessions) shard before low its.allowed, tt);
    left = sym (ap (λ (s : Store). hollow s) its.left);
  }

  -- a shard has swept
  pub swept_on : (shard : ℕ) → a.limits ≡ limits → shard < length (store_with cs a.sessions).epochs → HasSwept cs behind a b shard → b.journal ≡ a.journal → b.refused ≡ a.refused → DeedsOn Known limits cs behind a b
  swept_on shard same low its journal refused = record {
    more = shard_entry shard a.moment (done_at cs a (sweeps shard)) ∷ done_entries a.moment run t;
    journal = journal;
    refused = refused;
    told = its.told;
    deeds = λ before k. (sweep_is limits s shard before low its.allowed, dones (list_all (λ e. nat_le run e) t.swept) refl before);
    left = left_by (list_all (λ e. nat_le run e) t.swept) ∙ sym (ap (λ (x : Store). hollow x) its.left);
  }
    where
      s : Store
      s = store_with cs a.sessions

      run : ℕ
      run = slice_index (store_with cs a.sessions).epochs shard

      t : Store
      t = sweep (store_with cs a.sessions) shard

      first_entry : DeedEntry
      first_entry = as_deed (shard_entry shard a.moment (done_at cs a (sweeps shard)))

      done_list : Bool → List JournalEntry
      done_list all = cond all (record { who = who.Store; moment = a.moment; deed = deed.Nothing; reply = reply.Done (slice_index (store_with cs a.sessions).epochs shard) } ∷ []) []

      left_by : (all : Bool) → store_after (sweep (hollow (store_with cs a.sessions)) shard) (map as_deed (done_list all)) ≡ hollow (sweep (store_with cs a.sessions) shard)
      left_by true = sym (sweep_hollow s shard)
      left_by false = sym (sweep_hollow s shard)

      dones : (all : Bool) → list_all (λ e. nat_le run e) t.swept ≡ all → (before : List DeedEntry) → AreDeeds limits (sweep (hollow (store_with cs a.sessions)) shard) (before ++ first_entry ∷ []) (map as_deed (done_list all))
      dones true e before = (
        record {
          printed = refl;
          done = (
            ap (λ o. option_map_or (is_sweep_of run) o false) (last_is before first_entry) ∙ eq-eqb run run refl,
            e,
          );
        },
        tt,
      )
      dones false e before = tt

-- so it is where no catalogue has changed
pub judged_on : (Known : List DeedEntry → Type 0) (limits : Limits) (cs : List Folded) (a b : Core) (line : ℕ) (o : Op) → a.limits ≡ limits → IsJudged cs a b line o → b.journal ≡ a.journal → b.refused ≡ a.refused → DeedsOn Known limits cs cs a b
judged_on Known limits cs a b line o same its journal refused = answered_on Known limits cs cs a b line o same (record { told = its.told; left = its.left; folded = its.folded }) journal refused

pub same_on : (Known : List DeedEntry → Type 0) (limits : Limits) (cs : List Folded) (a : Core) → DeedsOn Known limits cs cs a a
same_on Known limits cs a = silent_on Known limits cs cs a a refl refl refl refl

-- where the store of the first core is that of other folds, it leads on from those
pub from_folds : (Known : List DeedEntry → Type 0) (limits : Limits) (cs ds behind : List Folded) (a b : Core) → store_with ds a.sessions ≡ store_with cs a.sessions → DeedsOn Known limits ds behind a b → DeedsOn Known limits cs behind a b
from_folds Known limits cs ds behind a b same on = record {
  more = on.more;
  journal = on.journal;
  refused = on.refused;
  told = on.told;
  deeds = λ before k. subst (λ (s : Store). AreDeeds limits (hollow s) before (map as_deed on.more)) same (on.deeds before k);
  left = ap (λ (s : Store). store_after (hollow s) (map as_deed on.more)) (sym same) ∙ on.left;
}
