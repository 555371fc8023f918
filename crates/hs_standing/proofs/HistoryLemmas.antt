-- Catalogues stay those of a lawful history, which goes on by the entry that takes effect.
use Rattle.std.proofs.Common.{◌≡◌, ◌∙◌, sym, ap, subst, ℕ, List, [], ◌∷◌, ◌++◌}
use Rattle.hs_standing.specs.Changes.{told_at_once}
use Rattle.hs_answered.specs.Standing.{IsFolded, forget_all}
use Rattle.hs_core_words.specs.Looking.{shape_of}
use Rattle.hs_core_words.specs.State.{Core}
use Rattle.hs_effects.proofs.FoldLemmas.{quiet_folds, taken_folds}
use Rattle.hs_effects.proofs.QuietLemmas.{Quiet}
use Rattle.hs_effects.specs.Lawful.{AreOfHistory, IsLawful, MayFollow}
use Rattle.hs_effects.specs.Taking.{IsNamed, done_by, folds_behind, next_deed, setting_of, taken}
use Rattle.hs_entry.specs.declared.entry.Entry.{Entry}
use Rattle.hs_fold.specs.Lawful.{Deed}
use Rattle.hs_fold.specs.Runs.Facts.{Catalogue as Folded}
use Rattle.hs_fold.specs.Runs.History.{FitAll, follow, follow_all, no_entries}
use Rattle.hs_fold.specs.Runs.Own.{AreOwn}
use Rattle.hs_fold.specs.Shards.Setting.{Setting}
use Rattle.hs_joint.specs.Along.{KeepFewRecords}
use Rattle.hs_standing.proofs.MuteLemmas.{at_once_quiet}
use Rattle.hs_limits.specs.declared.address.Address.{Address}
use Rattle.hs_limits.specs.declared.shape.Shape.{Shape}
use Rattle.hs_limits.specs.Shape.{IsShape}
use Rattle.hs_members.specs.Members.{Members}
use Rattle.hs_standing.proofs.AtomLemmas.{set_on}
use Rattle.hs_waiting.proofs.ListLemmas.{fit_append, follow_append}

-- the catalogues of two cores, and what they are set up with, are the same
pub record Likewise (a b : Core) : Type 0 where
  pub limits : b.limits ≡ a.limits
  pub shape : shape_of b ≡ shape_of a
  pub catalogues : b.catalogues ≡ a.catalogues

pub from_quiet : (a b : Core) → Quiet a b → Likewise a b
from_quiet a b q = record { limits = q.limits; shape = ap (λ (m : Members). m.shape) q.members; catalogues = q.catalogues }

pub folded_on : (a b : Core) (cs : List Folded) → Likewise a b → IsFolded a cs → IsFolded b cs
folded_on a b cs like folded = record {
  valid = subst (λ (s : Shape). IsShape s) (sym like.shape) folded.valid;
  shards = folded.shards ∙ ap (λ (s : Shape). s.shards) (sym like.shape);
  own = subst (λ (s : Shape). AreOwn s.shards 0 cs) (sym like.shape) folded.own;
  catalogues = like.catalogues ∙ folded.catalogues ∙ ap (λ (s : Shape). forget_all s 0 cs) (sym like.shape);
}

-- the history is the same, whatever else of what it is set up with is
pub fits_on : (set other : Setting) (history : List Deed) → other ≡ set → FitAll set (no_entries set) history → FitAll other (no_entries other) history
fits_on set other history e fits = subst (λ (x : Setting). FitAll x (no_entries x) history) (sym e) fits

pub records_on : (set other : Setting) (history : List Deed) → other ≡ set → KeepFewRecords set (no_entries set) history → KeepFewRecords other (no_entries other) history
records_on set other history e records = subst (λ (x : Setting). KeepFewRecords x (no_entries x) history) (sym e) records

pub gives_on : (set other : Setting) (history : List Deed) (cs : List Folded) → other ≡ set → follow_all set (no_entries set) history ≡ cs → follow_all other (no_entries other) history ≡ cs
gives_on set other history cs e gives = subst (λ (x : Setting). follow_all x (no_entries x) history ≡ cs) (sym e) gives

abbrev pub history_on : (set other : Setting) (cs : List Folded) → other ≡ set → AreOfHistory set cs → AreOfHistory other cs
history_on set other cs e its = record {
  history = its.history;
  fits = fits_on set other its.history e its.fits;
  records = records_on set other its.history e its.records;
  gives = gives_on set other its.history cs e its.gives;
}

abbrev pub lawful_on : (name : List ℕ → Address) (a b : Core) (cs : List Folded) → Likewise a b → IsLawful name a cs → IsLawful name b cs
lawful_on name a b cs like its = record {
  folded = folded_on a b cs like its.folded;
  lawful = history_on (setting_of name a) (setting_of name b) cs (set_on name a b like.limits like.shape) its.lawful;
}

-- ---- an entry more

few_on : (set : Setting) (cs : List Folded) (one more : List Deed) → KeepFewRecords set cs one → KeepFewRecords set (follow_all set cs one) more → KeepFewRecords set cs (one ++ more)
few_on set cs [] more f g = g
few_on set cs (d ∷ one) more f g = (f.0, few_on set (follow set cs d) one more f.1 g)

there : (set : Setting) (cs : List Folded) (its : AreOfHistory set cs) (deed : Deed) → MayFollow set cs deed → MayFollow set (follow_all set (no_entries set) its.history) deed
there set cs its deed may = subst (λ (ds : List Folded). MayFollow set ds deed) (sym its.gives) may

pub more_fits : (set : Setting) (cs : List Folded) (its : AreOfHistory set cs) (deed : Deed) → MayFollow set cs deed → FitAll set (no_entries set) (its.history ++ deed ∷ [])
more_fits set cs its deed may =
    let m : MayFollow set (follow_all set (no_entries set) its.history) deed = there set cs its deed may in
    fit_append set (no_entries set) its.history (deed ∷ []) its.fits (m.of, m.rests, tt)

pub more_records : (set : Setting) (cs : List Folded) (its : AreOfHistory set cs) (deed : Deed) → MayFollow set cs deed → KeepFewRecords set (no_entries set) (its.history ++ deed ∷ [])
more_records set cs its deed may =
    let m : MayFollow set (follow_all set (no_entries set) its.history) deed = there set cs its deed may in
    few_on set (no_entries set) its.history (deed ∷ []) its.records (m.records, tt)

pub more_gives : (set : Setting) (cs : List Folded) (its : AreOfHistory set cs) (deed : Deed) → follow_all set (no_entries set) (its.history ++ deed ∷ []) ≡ follow set cs deed
more_gives set cs its deed = follow_append set (no_entries set) its.history (deed ∷ []) ∙ ap (λ (ds : List Folded). follow set ds deed) its.gives

abbrev pub history_more : (set : Setting) (cs : List Folded) (its : AreOfHistory set cs) (deed : Deed) → MayFollow set cs deed → AreOfHistory set (follow set cs deed)
history_more set cs its deed may = record {
  history = its.history ++ deed ∷ [];
  fits = more_fits set cs its deed may;
  records = more_records set cs its deed may;
  gives = more_gives set cs its deed;
}

-- what is told of it leaves the catalogues
pub told_folds : (name : List ℕ → Address) (cs : List Folded) (core : Core) (shard : ℕ) (entry : Entry) (its : IsLawful name core cs) → IsNamed name entry core → MayFollow (setting_of name core) cs (next_deed shard entry core)
    → IsFolded (told_at_once shard entry core) (folds_behind name cs shard entry core)
told_folds name cs core shard entry its called may =
    quiet_folds (taken shard entry core) (told_at_once shard entry core) (folds_behind name cs shard entry core) (at_once_quiet shard entry (done_by shard entry core).effect (taken shard entry core))
    (taken_folds name cs core shard entry its.folded may.of called)

pub told_set : (name : List ℕ → Address) (core : Core) (shard : ℕ) (entry : Entry) → setting_of name (told_at_once shard entry core) ≡ setting_of name core
told_set name core shard entry =
    let like : Likewise (taken shard entry core) (told_at_once shard entry core) = from_quiet (taken shard entry core) (told_at_once shard entry core) (at_once_quiet shard entry (done_by shard entry core).effect (taken shard entry core)) in
    set_on name (taken shard entry core) (told_at_once shard entry core) like.limits like.shape

abbrev pub lawful_behind : (name : List ℕ → Address) (cs : List Folded) (core : Core) (shard : ℕ) (entry : Entry) (its : IsLawful name core cs) → IsNamed name entry core → MayFollow (setting_of name core) cs (next_deed shard entry core)
    → IsLawful name (told_at_once shard entry core) (folds_behind name cs shard entry core)
lawful_behind name cs core shard entry its called may = record {
  folded = told_folds name cs core shard entry its called may;
  lawful = history_on (setting_of name core) (setting_of name (told_at_once shard entry core)) (folds_behind name cs shard entry core) (told_set name core shard entry)
      (history_more (setting_of name core) cs its.lawful (next_deed shard entry core) may);
}
