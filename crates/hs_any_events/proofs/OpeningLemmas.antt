-- Over sound lists a core opens with the folds of a lawful history, and nothing is under way that was not sent: also where it has ended as it opened.
use Rattle.std.proofs.Common.{ℕ, List, refl, false}
use Rattle.hs_core_words.specs.Changing.{change_group, note, post, set_viewed}
use Rattle.hs_core_words.specs.Looking.{group_of}
use Rattle.hs_core_words.specs.State.{Core}
use Rattle.hs_core_words.specs.Views.{begin_view, restart}
use Rattle.hs_effects.proofs.QuietLemmas.{Quiet, proposed_quiet}
use Rattle.hs_effects.specs.Lawful.{IsLawful}
use Rattle.hs_effects.specs.Taking.{setting_of}
use Rattle.hs_entry.specs.declared.entry.Entry.TheVariants as kind
use Rattle.hs_events.specs.Found.{Found, first_core, opens_with}
use Rattle.hs_fold.specs.Runs.Facts.{Catalogue as Folded}
use Rattle.hs_fold.specs.Shards.Setting.{Setting}
use Rattle.hs_journal.specs.declared.entry.Who.TheVariants as who
use Rattle.hs_limits.specs.declared.address.Address.{Address}
use Rattle.hs_limits.specs.Shape.{IsShape}
use Rattle.hs_members.specs.Members.{view_of}
use Rattle.hs_model.specs.declared.deed.Deed.TheVariants as deed
use Rattle.hs_model.specs.declared.reply.Reply.TheVariants as reply
use Rattle.hs_replica.specs.Group.{renew, renewal}
use Rattle.hs_sound.specs.Stay.{AreSoundAlong}
use Rattle.hs_standing.proofs.AtomLemmas.{sent_beside, sent_downed, sent_new, sent_opens}
use Rattle.hs_standing.proofs.FirstLemmas.{KeepsFirst, first_held}
use Rattle.hs_standing.proofs.HistoryLemmas.{Likewise, from_quiet, lawful_on}
use Rattle.hs_standing.proofs.TakenLemmas.{FoldsInMemory, opens_lawful}
use Rattle.hs_standing.specs.Lists.{whole_from}
use Rattle.hs_standing.specs.Opening.{opened_folds, opened_lists}
use Rattle.hs_standing.specs.Sent.{AreSent}

-- the folds of a core are those of a lawful history, behind which all that is under way was sent
pub record IsOfHistory (name : List ℕ → Address) (cs : List Folded) (core : Core) : Type 0 where
  pub lawful : IsLawful name core cs
  pub sent : AreSent (setting_of name core) lawful.lawful.history core

-- a first view changes no catalogue
pub began_like : (shard : ℕ) (c : Core) → Likewise c (begin_view shard c)
began_like shard c =
    let cut : Core = change_group shard (renew c.members) (set_viewed shard false c) in
    let posted : Core = post (renewal (group_of shard (restart shard cut))) (restart shard cut) in
    let q : Quiet posted (begin_view shard c) = proposed_quiet shard (kind.View (view_of shard c.members)) posted in
    from_quiet c (begin_view shard c) (record { catalogues = q.catalogues; members = q.members; limits = q.limits; moment = q.moment })

keeps_history : (name : List ℕ → Address) (cs : List Folded) → KeepsFirst (IsOfHistory name cs)
keeps_history name cs = record {
  beside = λ a b beside its. record {
    lawful = lawful_on name a b cs (record { limits = beside.limits; shape = beside.shape; catalogues = beside.catalogues }) its.lawful;
    sent = sent_beside name its.lawful.lawful.history a b its.sent beside;
  };
  downed = λ peer c its. record {
    lawful = lawful_on name c (note who.Store deed.Nothing (reply.Down peer 0) c) cs (record { limits = refl; shape = refl; catalogues = refl }) its.lawful;
    sent = sent_downed name its.lawful.lawful.history c its.sent peer 0;
  };
  views = λ shard c low none its. record {
    lawful = lawful_on name c (begin_view shard c) cs (began_like shard c) its.lawful;
    sent = sent_opens name its.lawful.lawful.history c its.sent shard;
  };
}

module _ (memory : FoldsInMemory) (set : Setting) (found : Found) (shape : IsShape set.shape) (sound : AreSoundAlong set (whole_from (opened_lists set found) 0 set.shape.shards)) where
  pub opens_of_history : IsOfHistory set.name (opened_folds set found) (first_core set found)
  opens_of_history =
      first_held (IsOfHistory set.name (opened_folds set found)) (keeps_history set.name (opened_folds set found)) set.shape set.limits (opens_with set found) found.opened
      (record { lawful = opens_lawful memory set found shape sound; sent = sent_new set.name sound.sound.lawful.history set.shape set.limits (opens_with set found) found.opened })
