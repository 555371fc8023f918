-- What the single changes keep of a core and its folds, beside lists that go on, each event keeps.
use Rattle.std.proofs.Common.{subst, ℕ, ◌+◌, ◌<◌, List, Option, refl}
use Rattle.hs_standing.specs.Changes.{told_at_once}
use Rattle.hs_standing.specs.Walks.{Walks}
use Rattle.hs_awaiting.specs.declared.waiting.Waiting.{Waiting}
use Rattle.hs_core_words.specs.Changing.{change_pool, note, refuse}
use Rattle.hs_core_words.specs.Asking.{send_round}
use Rattle.hs_core_words.specs.Looking.{catalogue_of}
use Rattle.hs_core_words.specs.Operating.{begin_line, go_on_with, propose_entry, resume}
use Rattle.hs_core_words.specs.Seeing.{pointers_for}
use Rattle.hs_core_words.specs.State.{Core}
use Rattle.hs_effects.specs.Lawful.{MayFollow}
use Rattle.hs_effects.specs.Taking.{done_by, folds_behind, next_deed, taken}
use Rattle.hs_entry.specs.declared.entry.Entry.{Entry}
use Rattle.hs_entry.specs.declared.entry.Entry.TheVariants as kind
use Rattle.hs_fold.specs.Runs.Facts.{Catalogue as Folded}
use Rattle.hs_fold.specs.Runs.History.{follow}
use Rattle.hs_fold.specs.Shards.Setting.{Setting}
use Rattle.hs_journal.specs.declared.entry.Who.TheVariants as who
use Rattle.hs_limits.specs.declared.shape.Shape.{Shape}
use Rattle.hs_model.specs.declared.deed.Deed.TheVariants as deed
use Rattle.hs_model.specs.declared.op.Op.{Op}
use Rattle.hs_model.specs.declared.reply.Reply.TheVariants as reply
use Rattle.hs_ops.specs.Operations.{bytes_step, go_step}
use Rattle.hs_post.specs.Pool.{without}
use Rattle.hs_standing.proofs.GoLemmas.{GoesOn, goes_proposes, goes_taken, setting_is}
use Rattle.hs_standing.proofs.ProposeLemmas.{Proposes, proposes_as, proposes_beside, proposes_both, proposes_entry, proposes_go_on, proposes_line, proposes_round, proposes_told}
use Rattle.hs_standing.proofs.QuietLemmas.{quiet_bytes, quiet_step}
use Rattle.hs_standing.proofs.KeepLemmas.{Keeps}
use Rattle.hs_standing.specs.Lists.{Lists}

-- P is known of a core within an event, with folds that are what took effect of its lists, which go on from the old ones
pub record StandsWithin (set : Setting) (old : Lists) (P : Core → List Folded → Type 0) (core : Core) : Type 0 where
  pub cs : List Folded
  pub holds : P core cs
  pub goes : GoesOn set old core cs

module _ (set : Setting) (old : Lists) (MayLine : ℕ → Op → Core → Type 0) (MayTell : ℕ → Option (List ℕ) → Waiting → Core → Type 0) (MayRefuse : ℕ → Type 0) (P : Core → List Folded → Type 0)
    (keeps : Keeps set.name MayLine MayTell MayRefuse P) where
  -- the folds stay where no entry takes effect
  stays : (a b : Core) (s : StandsWithin set old P a) → P b s.cs → Proposes a b → StandsWithin set old P b
  stays a b s holds p = record { cs = s.cs; holds = holds; goes = goes_proposes set old a b s.cs s.goes p }

  taken_stands : (shard number : ℕ) (entry : Entry) (c : Core) (s : StandsWithin set old P c) → P (told_at_once shard entry c) (folds_behind set.name s.cs shard entry c) → GoesOn set old (taken shard entry c) (follow set s.cs (next_deed shard entry c))
      → StandsWithin set old P (told_at_once shard entry c)
  taken_stands shard number entry c s holds goes = record {
    cs = follow set s.cs (next_deed shard entry c);
    holds = subst (λ (t : Setting). P (told_at_once shard entry c) (follow t s.cs (next_deed shard entry c))) (setting_is set c s.goes.limits s.goes.shape) holds;
    goes = goes_proposes set old (taken shard entry c) (told_at_once shard entry c) (follow set s.cs (next_deed shard entry c)) goes (proposes_told shard entry (done_by shard entry c).effect (taken shard entry c));
  }

  pub joined : Walks MayLine MayTell MayRefuse (StandsWithin set old P)
  joined = record {
    once = λ c s. (keeps.orderly c s.cs s.holds).once;
    line_beside = keeps.line_beside;
    tell_beside = keeps.tell_beside;
    beside = λ a b beside s. stays a b s (keeps.beside a b s.cs beside s.holds) (proposes_beside a b beside);
    downed = λ peer line c s. stays c (note who.Store deed.Nothing (reply.Down peer line) c) s (keeps.downed peer line c s.cs s.holds) (proposes_as c (note who.Store deed.Nothing (reply.Down peer line) c) refl refl (λ g. refl));
    refused = λ line refusal c may s. stays c (refuse line refusal c) s (keeps.refused line refusal c s.cs may s.holds) (proposes_as c (refuse line refusal c) refl refl (λ g. refl));
    line = λ line o c may s. stays c (begin_line line o c) s (keeps.line line o c s.cs may s.holds) (proposes_line line o c);
    goes = λ line c idle s. stays c (resume line c) s (keeps.goes line c s.cs idle s.holds) (proposes_go_on go_step line c quiet_step);
    told = λ line number bytes w c at waits may s.
        stays c (go_on_with (λ v o. bytes_step v bytes (pointers_for w.shard w.operation.op c) o) line c) s (keeps.told line number bytes w c s.cs at waits may s.holds)
        (proposes_go_on (λ v o. bytes_step v bytes (pointers_for w.shard w.operation.op c) o) line c (λ v o. quiet_bytes v bytes (pointers_for w.shard w.operation.op c) o));
    effect = λ shard number entry c low is few s.
        let here = subst (λ (x : Shape). shard < x.shards) s.goes.shape low in
        let may : MayFollow set s.cs (next_deed shard entry c) =
        subst (λ (t : Setting). MayFollow t s.cs (next_deed shard entry c)) (setting_is set c s.goes.limits s.goes.shape) (keeps.follows shard number entry c s.cs low is few s.holds) in
        taken_stands shard number entry c s (keeps.effect shard number entry c s.cs low is few s.holds) (goes_taken set old c s.cs s.goes shard number entry here is may);
    due = λ shard c low due s.
        stays c (propose_entry shard (kind.Enter 0 ((catalogue_of shard c).epoch + 1)) c) s (keeps.due shard c s.cs low due s.holds)
        (proposes_entry shard (kind.Enter 0 ((catalogue_of shard c).epoch + 1)) c (λ views. refl));
    round = λ number from to epoch round total deltas c low at new s.
        let x : Core = change_pool (without number) c in
        stays c (propose_entry to (kind.Got from epoch round total deltas) x) s (keeps.round number from to epoch round total deltas c s.cs low at new s.holds)
        (proposes_both c x (propose_entry to (kind.Got from epoch round total deltas) x) (proposes_as c x refl refl (λ g. refl)) (proposes_entry to (kind.Got from epoch round total deltas) x (λ views. refl)));
    again = λ back shard c s. stays c (send_round back shard c) s (keeps.again back shard c s.cs s.holds) (proposes_round back shard c);
  }
