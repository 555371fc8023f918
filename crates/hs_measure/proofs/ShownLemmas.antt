-- What the machine's run shows of its disks, over disks that tell.
use Rattle.std.proofs.Common.{◌≡◌, ◌∙◌, ap, ◌*◌, Option, Some, None, length, arith}
use Rattle.std.specs.Prelude.{IfSome}
use Rattle.hs_clauses.proofs.ShownLemmas.{shown_of}
use Rattle.hs_clauses.specs.Shown.{IsShown, OnDisks}
use Rattle.hs_standing.specs.Held.{GivesAddresses}
use Rattle.hs_journal.specs.Events.{client_op}
use Rattle.hs_model.specs.declared.command.Command.{Command}
use Rattle.hs_promise.specs.Machine.{WentAs}
use Rattle.hs_promise.specs.Run.{Ran, Script}
use Rattle.hs_promise.specs.Story.{Story}
use Rattle.hs_run.specs.Machine.{HasReadDisks, IsOfCluster, RunsOnDisks}

-- what is so of each story that disks show is so of the machine's, where a core was opened
pub if_run : (tells : Type 0) (S : Script) (r : Ran) (P : Story → Type 0) → GivesAddresses S.set.name → (machine : IsOfCluster tells S r) → S.set.shape.copies ≡ 1 → tells → ((story : Story) → OnDisks S r → IsShown S r story → RunsOnDisks tells S r story → P story) → IfSome machine.how P
if_run tells S r P names machine one told holds = by_how machine.how machine.went (machine.told told) machine.runs
  where
    on : OnDisks S r
    on = record {
      shape = machine.shape;
      one = one;
      names = names;
      nobody = ap (λ (c : Option Command). client_op c) machine.nobody;
      disks = disks;
      left = machine.served.handed_back ∙ disks;
    }
      where
        disks : length r.old.disks ≡ S.set.shape.shards
        disks = machine.count ∙ ap (λ n. S.set.shape.shards * n) one ∙ omega arith

    by_how : (how : Option Story) → WentAs S r how → IfSome how (HasReadDisks S r) → IfSome how (RunsOnDisks tells S r) → IfSome how P
    by_how None went read runs = tt
    by_how (Some story) went read runs = holds story on (shown_of tells S r story on runs.span told runs.before runs.now runs.old.stands runs.new.stands runs.shown went read.read) runs

pub if_shown : (tells : Type 0) (S : Script) (r : Ran) (P : Story → Type 0) → GivesAddresses S.set.name → (machine : IsOfCluster tells S r) → S.set.shape.copies ≡ 1 → tells → ((story : Story) → OnDisks S r → IsShown S r story → P story) → IfSome machine.how P
if_shown tells S r P names machine one told holds = if_run tells S r P names machine one told (λ story on shown runs. holds story on shown)
