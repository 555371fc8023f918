-- What the single changes of a core tell, by the laws below.
use Rattle.std.proofs.Common.{◌≡◌, ◌∙◌, sym, ap, subst, ℕ, List, Option, Some}
use Rattle.hs_answered.specs.Asked.{IsAsked}
use Rattle.hs_answered.specs.Standing.{IsFolded, store_with}
use Rattle.hs_answered.specs.Telling.{Judging}
use Rattle.hs_awaiting.specs.declared.waiting.Waiting.{Waiting}
use Rattle.hs_core_words.specs.Looking.{group_of, operation_of}
use Rattle.hs_core_words.specs.Operating.{begin_line, go_on_with, resume}
use Rattle.hs_core_words.specs.Seeing.{pointers_for, view_for}
use Rattle.hs_core_words.specs.State.{Core}
use Rattle.hs_deeds.proofs.BytesDeedLemmas.{ReadsAnyBytes, bytes_deeds}
use Rattle.hs_deeds.proofs.EffectDeedLemmas.{deeds_effect}
use Rattle.hs_deeds.proofs.GivenDeedLemmas.{ByPointers, given_deeds}
use Rattle.hs_deeds.proofs.LineDeedLemmas.{line_deeds}
use Rattle.hs_deeds.proofs.StepDeedLemmas.{goes_deeds}
use Rattle.hs_deeds.specs.On.{AreUnanswered, DeedsOn, Whatever}
use Rattle.hs_deeds.specs.Points.{MarksPoint}
use Rattle.hs_effects.proofs.SweepLemmas.{ByViews}
use Rattle.hs_effects.specs.Answered.{HoldAddresses}
use Rattle.hs_effects.specs.Lawful.{IsLawful, MayFollow}
use Rattle.hs_effects.specs.Logged.{IsOrderly}
use Rattle.hs_effects.specs.Taking.{folds_behind, next_deed, setting_of}
use Rattle.hs_entry.specs.declared.entry.Entry.{Entry}
use Rattle.hs_entry.specs.declared.entry.Entry.TheVariants as kind
use Rattle.hs_fold.specs.Runs.Facts.{Catalogue as Folded}
use Rattle.hs_limits.specs.declared.address.Address.{Address}
use Rattle.hs_limits.specs.declared.limits.Limits.{Limits}
use Rattle.hs_model.specs.declared.op.Op.{Op}
use Rattle.hs_ops.specs.Operations.{bytes_step}
use Rattle.hs_replica.specs.Group.{committed}
use Rattle.hs_shown.specs.Showing.{Shows}
use Rattle.hs_standing.proofs.Laws.{Entries, Steps}
use Rattle.hs_standing.specs.Changes.{told_at_once}
use Rattle.hs_standing.specs.Commands.{AreCommanded}
use Rattle.hs_standing.specs.Epochs.{HaveEpochs}

pub line_tells : Steps → (name : List ℕ → Address) (limits : Limits) (cs : List Folded) (core : Core) (line : ℕ) (o : Op) → core.limits ≡ limits → IsFolded core cs → IsOrderly name core → IsAsked (store_with cs core.sessions) o
    → DeedsOn (AreUnanswered core) limits cs cs core (begin_line line o core)
line_tells steps name limits cs core line o same folded order asked = line_deeds name limits cs core order line o asked steps same folded

pub goes_tells : Steps → (by : Judging) (cs : List Folded) (core : Core) (line : ℕ) → core.limits ≡ by.limits → IsFolded core cs → IsOrderly by.name core → AreCommanded by core → DeedsOn Whatever by.limits cs cs core (resume line core)
goes_tells steps by cs core line limits folded order commands = goes_deeds Whatever steps by cs core limits folded order commands line

pub told_tells : ByViews → Steps → ReadsAnyBytes → (by : Judging) (cs : List Folded) (core : Core) (line : ℕ) (bytes : Option (List ℕ)) (w : Waiting) → core.limits ≡ by.limits → IsFolded core cs → IsOrderly by.name core → AreCommanded by core
    → operation_of line core ≡ Some w → DeedsOn Whatever by.limits cs cs core (go_on_with (λ v o. bytes_step v bytes (pointers_for w.shard w.operation.op core) o) line core)
told_tells views steps reads by cs core line bytes w limits folded order commands at =
    let place = (order.pending line w at).judges in
    bytes_deeds Whatever steps reads by.limits cs core limits folded line w (commands line w at).has place
    (subst (λ (k : ℕ). Shows core.limits (store_with cs core.sessions) w.operation.op (view_for k w.operation.op core)) (sym place) (views cs core w.operation.op folded (commands line w at).has))
    bytes at

pub effect_tells : ByViews → ByPointers → Steps → Entries → (by : Judging) (cs : List Folded) (core : Core) (shard number : ℕ) (entry : Entry) → core.limits ≡ by.limits → IsLawful by.name core cs → IsOrderly by.name core → HoldAddresses core.sessions
    → AreCommanded by core → HaveEpochs core → MarksPoint core → committed (group_of shard core) ≡ Some (number, entry) → MayFollow (setting_of by.name core) cs (next_deed shard entry core)
    → DeedsOn Whatever by.limits cs (folds_behind by.name cs shard entry core) core (told_at_once shard entry core)
effect_tells views shown steps laws by cs core shard number entry limits lawful order holds commands epochs points leads may =
    deeds_effect Whatever views steps laws by cs core shard number (record { limits = limits; orderly = order; lawful = lawful; holds = holds; commands = commands; epochs = epochs }) entry leads may
    (λ line least block a is did.
    subst (λ (l : Limits). DeedsOn Whatever l cs (folds_behind by.name cs shard (kind.Mark line least block a) core) core (told_at_once shard (kind.Mark line least block a) core)) limits
    (given_deeds Whatever views shown by.name cs core shard number line least block a lawful order (leads ∙ ap (λ (e : Entry). Some (number, e)) is) (subst (λ (e : Entry). MayFollow (setting_of by.name core) cs (next_deed shard e core)) is may) did points))
