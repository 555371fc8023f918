-- A core stands as it opens.
use Rattle.std.proofs.Common.{◌≡◌, ◌∙◌, sym, ap, subst, inr, ℕ, zero, suc, ◌<◌, false, List, [], Some, None, refl, slice_get}
use Rattle.std.specs.BTreeMap.{is_at}
use Rattle.std.specs.Map.{lookup}
use Rattle.std.specs.Ordering.{nat_cmp}
use Rattle.hs_tokens.specs.Seats.{Seats}
use Rattle.hs_ops.specs.Operations.{Operation}
use Rattle.hs_standing.proofs.AgainLemmas.{Was, was}
use Rattle.hs_standing.proofs.AlongOpenLemmas.{opens_core}
use Rattle.hs_standing.specs.Walks.{WalksOpen}
use Rattle.hs_answered.proofs.TellingLemmas.{tells_none}
use Rattle.hs_answered.specs.Standing.{store_with}
use Rattle.hs_answered.specs.Telling.{Judging}
use Rattle.hs_awaiting.specs.declared.waiting.Waiting.{Waiting}
use Rattle.hs_core_words.specs.Changing.{change_group, post, set_viewed}
use Rattle.hs_core_words.specs.Looking.{group_of, shape_of}
use Rattle.hs_core_words.specs.Opening.{Taken, new_core, open_core}
use Rattle.hs_core_words.specs.State.{Core}
use Rattle.hs_core_words.specs.Views.{begin_view, restart}
use Rattle.hs_effects.proofs.EventLemmas.{new_orderly, none_wait}
use Rattle.hs_effects.proofs.QuietLemmas.{Quiet, proposed_quiet}
use Rattle.hs_effects.proofs.SweepLemmas.{ByViews}
use Rattle.hs_effects.proofs.ViewLemmas.{view_began}
use Rattle.hs_effects.specs.Lawful.{IsLawful}
use Rattle.hs_effects.specs.Taking.{setting_of}
use Rattle.hs_entry.specs.declared.entry.Entry.{Entry}
use Rattle.hs_entry.specs.declared.entry.Entry.TheVariants as kind
use Rattle.hs_fold.specs.Runs.Facts.{Catalogue as Folded}
use Rattle.hs_standing.proofs.HeldOpenLemmas.{held_new, held_opens, written_new, written_opens}
use Rattle.hs_standing.specs.Held.{GivesAddresses}
use Rattle.hs_joint.proofs.HistoryLemmas.{history_goes, shape_few, shape_some}
use Rattle.hs_laws.proofs.ValidLemmas.{is_from_valid}
use Rattle.hs_laws.specs.Valid.{IsValid}
use Rattle.hs_standing.proofs.EpochLemmas.{IsWithin, epochs_by}
use Rattle.hs_standing.proofs.HistoryLemmas.{Likewise, from_quiet, lawful_on}
use Rattle.hs_standing.proofs.Laws.{Entries, Steps}
use Rattle.hs_standing.proofs.MuteLemmas.{Books, Words, proposed_books, proposed_words}
use Rattle.hs_standing.proofs.StandingLemmas.{walks_standing}
use Rattle.hs_standing.proofs.TellLemmas.{TellsOn, silent_on, telling_on}
use Rattle.hs_standing.specs.Bytes.{TellsItsBlock}
use Rattle.hs_standing.specs.Commands.{AreCommanded, IsCommanded, IsLineOf, IsNobodys}
use Rattle.hs_standing.specs.Epochs.{HaveEpochs}
use Rattle.hs_standing.specs.Opens.{MayOpen}
use Rattle.hs_standing.specs.Legal.{IsStanding}
use Rattle.hs_limits.specs.declared.address.Address.{Address}
use Rattle.hs_limits.specs.declared.shape.Shape.{Shape}
use Rattle.hs_members.specs.Members.{view_of}
use Rattle.hs_model.specs.Store.{Store}
use Rattle.hs_replica.specs.Group.{last_number, renew, renewal}
use Rattle.hs_standing.proofs.RestsListLemmas.{each_viewed}
use Rattle.hs_standing.proofs.RestLemmas.{rests_new, rests_opens}
use Rattle.hs_standing.proofs.StoredLemmas.{stored_opens}
use Rattle.hs_standing.proofs.AtomLemmas.{sent_new, sent_opens}

-- ---- a view begins

none_some : (w : Waiting) → None ≡ Some w → ⊥
none_some w e = cc e

module _ (by : Judging) (shard : ℕ) (c : Core) where
  abbrev cut : Core
  cut = change_group shard (renew c.members) (set_viewed shard false c)

  abbrev posted : Core
  posted = post (renewal (group_of shard (restart shard cut))) (restart shard cut)

  abbrev first : Entry
  first = kind.View (view_of shard c.members)

  pub began_like : Likewise c (begin_view shard c)
  began_like =
      let q : Quiet posted (begin_view shard c) = proposed_quiet shard first posted in
      from_quiet c (begin_view shard c) (record { catalogues = q.catalogues; members = q.members; limits = q.limits; moment = q.moment })

  pub began_seats : (begin_view shard c).sessions ≡ c.sessions
  began_seats = ap (λ (x : Words). x.sessions) (proposed_words shard first posted)

  pub began_commands : AreCommanded by c → AreCommanded by (begin_view shard c)
  began_commands its line w at =
      let u : Was cut line w = was shard (last_number (group_of shard cut)) cut line w (sym (ap (λ (x : Words). lookup (is_at (nat_cmp line)) x.operations) (proposed_words shard first posted)) ∙ at) in
      subst (λ (seats : Seats). IsCommanded by seats line w.operation.op) (sym (ap (λ (x : Words). x.sessions) (proposed_words shard first posted)))
      (subst (λ (o : Operation). IsCommanded by c.sessions line o.op) u.same (its line u.waiting u.at))

  pub began_epochs : HaveEpochs c → HaveEpochs (begin_view shard c)
  began_epochs its =
      epochs_by c (begin_view shard c) began_like.limits
      (λ g place e at. inr (each_viewed shard c (λ k n x. IsWithin c.limits x) (λ l n is counted. absurd (cc is)) (λ k place x there l n is counted. its k place l n (there ∙ ap (λ (y : Entry). Some y) is) counted) g place e at)) its

  began_tells : (cs : List Folded) → TellsOn by cs cs c (begin_view shard c)
  began_tells cs =
      silent_on by cs cs c (begin_view shard c) (ap (λ (b : Books). b.journal) (proposed_books shard first posted)) (ap (λ (b : Books). b.refused) (proposed_books shard first posted))
      (ap (λ (x : Words). x.entries) (proposed_words shard first posted)) (ap (λ (x : Words). store_with cs x.sessions) (proposed_words shard first posted))

  pub standing_opens : (start : Store) (cs : List Folded) → IsStanding by start c cs → shard < (shape_of c).shards → IsStanding by start (begin_view shard c) cs
  standing_opens start cs its low = record {
    limits = began_like.limits ∙ its.limits;
    orderly = view_began by.name shard c its.orderly;
    lawful = lawful_on by.name c (begin_view shard c) cs began_like its.lawful;
    sent = sent_opens by.name its.lawful.lawful.history c its.sent shard;
    resting = rests_opens cs c its.resting shard (subst (λ (n : ℕ). shard < n) (sym its.lawful.folded.shards) low);
    stored = stored_opens cs c its.stored shard;
    addressed = held_opens shard c its.addressed;
    written = written_opens shard c cs its.written;
    commands = began_commands its.commands;
    epochs = began_epochs its.epochs;
    tells = telling_on by start cs cs c (begin_view shard c) (began_tells cs) its.tells;
  }

-- ---- before any view

module _ (by : Judging) (shape : Shape) (taken : Taken) (moment : ℕ) where
  abbrev new : Core
  new = new_core shape by.limits taken moment

  new_epochs : HaveEpochs (new_core shape by.limits taken moment)
  new_epochs g place line epoch at counted = absurd (nothing place (sym (ap (λ (es : List Entry). slice_get es place) (none_wait by.name shape taken _ g _ refl)) ∙ at))
    where
      nothing : (k : ℕ) → slice_get [] k ≡ Some (kind.Enter line epoch) → ⊥
      nothing zero e = cc e
      nothing (suc k) e = cc e

  pub standing_new : (cs : List Folded) → MayOpen by shape taken moment cs → IsStanding by (store_with cs []) (new_core shape by.limits taken moment) cs
  standing_new cs may = record {
    limits = refl;
    orderly = new_orderly by.name shape by.limits taken moment;
    lawful = may.lawful;
    sent = sent_new by.name may.lawful.lawful.history shape by.limits taken moment;
    resting = rests_new cs shape by.limits taken moment;
    stored = may.stored;
    addressed = held_new shape by.limits taken moment may.addressed;
    written = written_new cs shape by.limits taken moment;
    commands = λ line w at. absurd (none_some w at);
    epochs = new_epochs;
    tells = tells_none by (store_with cs []);
  }

-- the store of folds of a lawful history is valid
pub folds_valid : (name : List ℕ → Address) (core : Core) (cs : List Folded) → IsLawful name core cs → IsValid (store_with cs [])
folds_valid name core cs its =
    subst (λ (ds : List Folded). IsValid (store_with ds [])) its.lawful.gives
    (is_from_valid _ (history_goes (setting_of name core) (shape_some (shape_of core) its.folded.valid) (shape_few (shape_of core) its.folded.valid) its.lawful.history its.lawful.fits its.lawful.records).valid)

module _ (views : ByViews) (steps : Steps) (laws : Entries) (by : Judging) (names : GivesAddresses by.name) where
  opens_standing : (start : Store) → IsValid start → WalksOpen (λ line o c. IsLineOf by c line o) (TellsItsBlock by start) (IsNobodys by) (λ c. (cs : List Folded) × IsStanding by start c cs)
  opens_standing start valid = record {
    walks = walks_standing views steps laws by names start valid;
    opens = λ shard c low waits none s. (s.0, standing_opens by shard c start s.0 s.1 low);
  }

  pub opened : (shape : Shape) (taken : Taken) (moment : ℕ) (cs : List Folded) → MayOpen by shape taken moment cs → (after : List Folded) × IsStanding by (store_with cs []) (open_core shape by.limits taken moment) after
  opened shape taken moment cs may =
      opens_core (opens_standing (store_with cs []) (folds_valid by.name (new_core shape by.limits taken moment) cs may.lawful)) shape by.limits taken moment (cs, standing_new by shape taken moment cs may)
