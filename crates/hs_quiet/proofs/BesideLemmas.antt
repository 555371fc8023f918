-- Changes beside operations, lists and jobs.
use Rattle.std.proofs.Common.{◌≡◌, ◌∙◌, ap, ℕ, List, [], refl}
use Rattle.std.specs.Prelude.{slice_index_or}
use Rattle.hs_awaiting.specs.declared.waiting.Waiting.{Waiting}
use Rattle.hs_core_words.specs.Changing.{post, refuse}
use Rattle.hs_core_words.specs.Looking.{group_of, shape_of}
use Rattle.hs_core_words.specs.State.{Core}
use Rattle.hs_effects.proofs.OrderlyLemmas.{Alike, alike_orderly}
use Rattle.hs_quiet.proofs.GoingGoodLemmas.{IsGood, good_stays}
use Rattle.hs_quiet.proofs.StayLemmas.{stays_by}
use Rattle.hs_limits.specs.declared.address.Address.{Address}
use Rattle.hs_members.specs.Members.{Members}
use Rattle.hs_model.specs.declared.reply.Reply.{Reply}
use Rattle.hs_post.specs.declared.message.Message.{Message}
use Rattle.hs_replica.specs.Group.{Group, new_group}
use Rattle.hs_shard.specs.Facts.{Catalogue, empty_catalogue}

-- all that the laws of operations speak of is the same
pub record IsAside (a b : Core) : Type 0 where
  pub members : b.members ≡ a.members
  pub viewed : b.progress.viewed ≡ a.progress.viewed
  pub groups : b.groups ≡ a.groups
  pub tasks : b.tasks ≡ a.tasks
  pub operations : b.operations ≡ a.operations
  pub sessions : b.sessions ≡ a.sessions
  pub limits : b.limits ≡ a.limits
  pub catalogues : b.catalogues ≡ a.catalogues

pub aside_same : (c : Core) → IsAside c c
aside_same c = record { members = refl; viewed = refl; groups = refl; tasks = refl; operations = refl; sessions = refl; limits = refl; catalogues = refl }

aside_alike : (a b : Core) → IsAside a b → Alike a b
aside_alike a b x = record {
  operations = x.operations;
  sessions = x.sessions;
  limits = x.limits;
  shape = ap (λ (m : Members). m.shape) x.members;
  waiting = λ g. ap (λ (y : Group). y.waiting) (same g);
  front = λ g. ap (λ (y : Group). y.front) (same g);
  catalogue = λ g. ap (λ (m : Members). slice_index_or b.catalogues g (empty_catalogue m.shape g)) x.members
      ∙ ap (λ (cs : List Catalogue). slice_index_or cs g (empty_catalogue (shape_of a) g)) x.catalogues;
}
  where
    same : (g : ℕ) → group_of g b ≡ group_of g a
    same g =
        ap (λ (m : Members). slice_index_or b.groups g (new_group m.shape g 0 0 [])) x.members
        ∙ ap (λ (gs : List Group). slice_index_or gs g (new_group (shape_of a) g 0 0 [])) x.groups

pub aside_good : (name : List ℕ → Address) (but : ℕ → Waiting → Type 0) (un : ℕ → Type 0) (a b : Core) → IsAside a b → IsGood name but un a → IsGood name but un b
aside_good name but un a b x g =
    good_stays name but un a b g (stays_by a b x.members x.viewed x.groups x.tasks) x.operations (alike_orderly name a b (aside_alike a b x) g.orderly)

pub refused_good : (name : List ℕ → Address) (but : ℕ → Waiting → Type 0) (un : ℕ → Type 0) (line : ℕ) (told : Reply) (c : Core) → IsGood name but un c → IsGood name but un (refuse line told c)
refused_good name but un line told c g =
    aside_good name but un c (refuse line told c) (record { members = refl; viewed = refl; groups = refl; tasks = refl; operations = refl; sessions = refl; limits = refl; catalogues = refl }) g

pub posted_good : (name : List ℕ → Address) (but : ℕ → Waiting → Type 0) (un : ℕ → Type 0) (messages : List Message) (c : Core) → IsGood name but un c → IsGood name but un (post messages c)
posted_good name but un messages c g =
    aside_good name but un c (post messages c) (record { members = refl; viewed = refl; groups = refl; tasks = refl; operations = refl; sessions = refl; limits = refl; catalogues = refl }) g
