-- One read of a log.
use Rattle.std.proofs.Common.{◌≡◌, ◌∙◌, ◌+◌, ◌*◌, ◌<◌, ap, sym, subst, ℕ, List, Option, None, Some, true, false, refl, arith}
use Rattle.std.proofs.lemmas.Bool.{false≢true}
use Rattle.std.specs.Prelude.{IsSome, Err}
use Rattle.hs_audit.proofs.GatherLemmas.{lists_same}
use Rattle.hs_audit.specs.declared.fault.AuditFault.{AuditFault}
use Rattle.hs_audit.specs.declared.fault.AuditFault.TheVariants as fault
use Rattle.hs_audit.specs.Rereading.{AreStill, HasNoShardView, HasShardView, IsFirstUnviewed, IsLogOf, IsNotViewed, IsTakenOf, IsUnviewed, IsWithoutView, fold_in, ran_out}
use Rattle.hs_fold.specs.Opened.{chosen}
use Rattle.hs_fold.specs.Shards.Setting.{Numbered, Setting}
use Rattle.hs_limits.specs.declared.shape.Shape.{Shape}
use Rattle.hs_limits.specs.Shape.{peer_of}
use Rattle.hs_memory.proofs.AgreeLemmas.{list_alike}
use Rattle.hs_peerlog.specs.Views.{HasView, Viewing}
use Rattle.hs_ports.specs.Disk.{Standing}
use Rattle.hs_shard.specs.Facts.{Catalogue}
use Rattle.hs_side.specs.Current.{list_in}
use Rattle.hs_taking.proofs.ChoiceLemmas.{shard_within}
use Rattle.hs_taking.specs.declared.loading.Loaded.{Loaded}
use Rattle.hs_taking.specs.Disks.{DiskSeen}
use Rattle.hs_taking.specs.Loaded.{IsLoaded}
use Rattle.hs_taking.specs.Viewed.{IsViewOf}

pub some_is : {A : Type 0} (o : Option A) → IsSome o → (x : A) × (o ≡ Some x)
some_is None h = absurd (false≢true h)
some_is (Some x) h = (x, refl)

-- what holds of the list of a view's disk holds where the disk tells
pub of_its_list : (tells : Type 0) (shape : Shape) (peer : ℕ) (disk : DiskSeen) (viewing : Viewing) → IsViewOf tells shape peer disk viewing → tells → (X : Type 0) → ((list : Numbered) → HasView viewing disk.stands.seen list → X) → X
of_its_list tells shape peer disk viewing is told X h =
    let some = some_is (list_in disk.stands.seen) (is.listed told) in
    h some.0 (is.has told some.0 some.1)

pub loaded_log : (tells : Type 0) (fold : Numbered → Catalogue) (shape : Shape) (peer : ℕ) (disk : DiskSeen) (viewing : Viewing) (loaded : Loaded) → IsViewOf tells shape peer disk viewing → IsLoaded tells fold (HasView viewing disk.stands.seen) loaded
    → IsLogOf tells fold disk loaded.catalogue
loaded_log tells fold shape peer disk viewing loaded is so = record {
  list = so.list;
  folded = so.catalogue;
  told = λ told. let some = some_is (list_in disk.stands.seen) (is.listed told) in some.1 ∙ ap (λ (l : Numbered). Some l) (sym (so.told told some.0 (is.has told some.0 some.1)));
}

-- ---- of a fault

true_is_not : true ≡ false → ⊥
true_is_not e = cc e

pub unviewed_of : (shape : Shape) (shard : ℕ) (views : List (Option Viewing)) (view : Option Viewing) (why : AuditFault) → (view ≡ None → HasNoShardView shape views shard) → IsNotViewed shard view why → IsUnviewed shape views shard why
unviewed_of shape shard views view (fault.WrongShape peer found) h is = is
unviewed_of shape shard views view (fault.ShardLost lost) h is = (is.0, h is.1)
unviewed_of shape shard views view fault.NoMemory h is = tt

pub calm_of : (X T : Type 0) (shard : ℕ) (view : Option Viewing) (why : AuditFault) → IsNotViewed shard view why → ((lost : ℕ) → why ≡ fault.ShardLost lost → X) → ran_out {T = T} (Err why) ≡ false → X
calm_of X T shard view (fault.WrongShape peer found) is h e = absurd is
calm_of X T shard view (fault.ShardLost lost) is h e = h lost refl
calm_of X T shard view fault.NoMemory is h e = absurd (true_is_not e)

-- this shard has no view, and each one before it has one
pub first_unviewed : (shape : Shape) (views : List (Option Viewing)) (shard : ℕ) (why : AuditFault) → shard < shape.shards → ((before : ℕ) → before < shard → HasShardView shape views before) → IsUnviewed shape views shard why → IsFirstUnviewed shape views why
first_unviewed shape views shard (fault.WrongShape peer found) low first is = is
first_unviewed shape views shard (fault.ShardLost lost) low first is =
    subst (λ n. IsWithoutView shape views n) (sym is.0) (record { within = low; none = is.1; first = first })
first_unviewed shape views shard fault.NoMemory low first is = tt

-- ---- what is taken, by the disks as they were before

pub taken_before : (tells : Type 0) (fold : Numbered → Catalogue) (shape : Shape) (a b : List DiskSeen) (views : List (Option Viewing)) (shard : ℕ) (catalogue : Catalogue) → shard < shape.shards → AreStill tells (shape.shards * shape.copies) a b
    → IsTakenOf tells fold shape b views shard catalogue → IsTakenOf tells fold shape a views shard catalogue
taken_before tells fold shape a b views shard catalogue low still taken = record {
  list = taken.list;
  folded = taken.folded;
  told = λ told. taken.told told ∙ ap chosen (lists_same tells shape a b views views shard
      (λ i small. ap (λ (s : Standing). list_in s.seen) ((still (peer_of shape shard 0 + i) (let w = shard_within shape shard low in omega (arith, small, w))).same told)) (λ i small. refl));
  viewed = taken.viewed;
}

pub taken_shape : (tells : Type 0) (set : Setting) (disks : List DiskSeen) (views : List (Option Viewing)) (shard : ℕ) (catalogue : Catalogue) → IsTakenOf tells (fold_in set shard) set.shape disks views shard catalogue → catalogue.shape ≡ set.shape
taken_shape tells set disks views shard catalogue taken = ap (λ (x : Catalogue). x.shape) (taken.folded ∙ list_alike set.name set.shape shard taken.list)
