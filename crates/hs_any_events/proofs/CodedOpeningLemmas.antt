-- As a core opens no operation waits: it is beside itself, and steady by the naming that finds addresses in payloads.
use Rattle.std.proofs.Common.{◌≡◌, ◌∙◌, sym, subst, ℕ, List, [], ◌∷◌, ◌++◌, Some, refl}
use Rattle.std.proofs.lemmas.List.Elements.{All-weaker}
use Rattle.std.specs.BTreeMap.{is_at}
use Rattle.std.specs.Map.{lookup, values_of}
use Rattle.std.specs.Ordering.{nat_cmp}
use Rattle.hs_any_events.proofs.CodedCoreLemmas.{IsCoded, coded_operations}
use Rattle.hs_any_events.proofs.CodedHistoryLemmas.{AreBelow, fits_same, gives_same, records_same}
use Rattle.hs_any_events.proofs.CodedLemmas.{Code, coded_name}
use Rattle.hs_any_events.proofs.SteadyLemmas.{IsSteady}
use Rattle.hs_awaiting.specs.declared.waiting.Waiting.{Waiting}
use Rattle.hs_core_words.specs.Looking.{operation_of, shape_of}
use Rattle.hs_core_words.specs.State.{Core}
use Rattle.hs_effects.proofs.LookLemmas.{same_number}
use Rattle.hs_effects.specs.Lawful.{IsLawful}
use Rattle.hs_effects.specs.Taking.{setting_of}
use Rattle.hs_fold.specs.Lawful.{Deed}
use Rattle.hs_fold.specs.Runs.Facts.{Catalogue as Folded}
use Rattle.hs_fold.specs.Runs.Fits.{HasSent, catalogue_at}
use Rattle.hs_fold.specs.Runs.History.{no_entries}
use Rattle.hs_fold.specs.Shards.Setting.{Setting}
use Rattle.hs_limits.specs.declared.limits.Limits.{Limits}
use Rattle.hs_post.specs.declared.message.Message.{Message}
use Rattle.hs_post.specs.declared.message.Message.TheVariants as message
use Rattle.hs_rounds.specs.declared.body.RoundBody.{RoundBody}
use Rattle.hs_rounds.specs.declared.place.Place.{Place}
use Rattle.hs_standing.specs.Sent.{AreSent, IsOfSent, WasSent}

-- where no line has an operation there is none
none_there : (es : List (ℕ × Waiting)) → ((line : ℕ) (w : Waiting) → lookup (is_at (nat_cmp line)) es ≡ Some w → ⊥) → [] ≡ es
none_there [] idle = refl
none_there (e ∷ es) idle = absurd (idle e.0 e.1 (rw (same_number e.0) refl))

module _ (code : Code) (core : Core) (idle : (line : ℕ) (w : Waiting) → operation_of line core ≡ Some w → ⊥) where
  pub beside_itself : IsCoded code core core
  beside_itself = record { same = refl; operations = subst (λ (es : List (ℕ × Waiting)). es ≡ coded_operations code es) (none_there core.operations idle) refl; groups = refl; pool = refl }

  module _ (limits : Limits) (last : ℕ) (cs : List Folded) (its : IsSteady code.name limits last core cs) (below : AreBelow code.base its.lawful.lawful.history) where
    abbrev set : Setting
    set = setting_of code.name core

    abbrev coded : Setting
    coded = setting_of (coded_name code) core

    abbrev history : List Deed
    history = its.lawful.lawful.history

    abbrev lawful_then : IsLawful (coded_name code) core cs
    lawful_then = record {
      folded = its.lawful.folded;
      lawful = record {
        history = its.lawful.lawful.history;
        fits = fits_same code core.limits (shape_of core) history (no_entries set) below its.lawful.lawful.fits;
        records = records_same code core.limits (shape_of core) history (no_entries set) below its.lawful.lawful.records;
        gives = gives_same code core.limits (shape_of core) history (no_entries set) below ∙ its.lawful.lawful.gives;
      };
    }

    below_front : (front later : List Deed) → AreBelow code.base (front ++ later) → AreBelow code.base front
    below_front [] later all = tt
    below_front (deed ∷ front) later all = (all.0, below_front front later all.1)

    -- behind each front of the history the folds are the same
    was_sent : (to : ℕ) (place : Place) (told : RoundBody) → WasSent (setting_of code.name core) its.lawful.lawful.history to place told → WasSent (setting_of (coded_name code) core) its.lawful.lawful.history to place told
    was_sent to place told was = record {
      front = was.front;
      later = was.later;
      parted = was.parted;
      of = was.of;
      sent =
          subst (λ (ds : List Folded). HasSent (catalogue_at ds place.from).sent to place.epoch place.round told)
          (sym (gives_same code core.limits (shape_of core) was.front (no_entries set) (below_front was.front was.later (subst (λ (ds : List Deed). AreBelow code.base ds) (sym was.parted) below)))) was.sent;
    }

    of_sent : (m : Message) → IsOfSent (setting_of code.name core) its.lawful.lawful.history m → IsOfSent (setting_of (coded_name code) core) its.lawful.lawful.history m
    of_sent (message.Copy shard to view number entry) was = tt
    of_sent (message.Have shard from to view sealed) was = tt
    of_sent (message.Round from to epoch round total deltas) was = was_sent to (record { epoch = epoch; round = round; from = from }) (record { total = total; deltas = deltas }) was

    sent_then : AreSent (setting_of (coded_name code) core) its.lawful.lawful.history core
    sent_then = record {
      messages = All-weaker (IsOfSent set history) (IsOfSent coded history) of_sent (values_of core.pool.messages) its.sent.messages;
      gots = λ shard at place told got. was_sent shard place told (its.sent.gots shard at place told got);
      due = λ shard at place told ds gives got. its.sent.due shard at place told ds (sym (gives_same code core.limits (shape_of core) history (no_entries set) below) ∙ gives) got;
      once = its.sent.once;
    }

    pub steady_coded : IsSteady (coded_name code) limits last core cs
    steady_coded = record {
      commands = its.commands;
      none_above = its.none_above;
      limited = its.limited;
      orderly = record {
        once = its.orderly.once;
        pending = λ line w at. absurd (idle line w at);
        alone = λ l m v w session at other of with. absurd (idle l v at);
        asked = λ shard place line entry there by. absurd (let asked = its.orderly.asked shard place line entry there by in idle line asked.waiting asked.at);
        roomy = its.orderly.roomy;
      };
      lawful = lawful_then;
      sent = sent_then;
      resting = its.resting;
      stored = its.stored;
      addressed = its.addressed;
      commanded = λ line w at. absurd (idle line w at);
      epochs = its.epochs;
      valid = its.valid;
    }
