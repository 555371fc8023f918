use Rattle.std.proofs.Common.{◌≡◌, ◌∙◌, ap, refl}
use Rattle.hs_book.proofs.StepLemmas.{step_has_front}
use Rattle.hs_book.specs.Book.{Book}
use Rattle.hs_core_words.specs.Step.{step}
use Rattle.hs_book.proofs.keeper.Keeper.do_event.Goals as goal

pub note-requires-clause-within : goal.note-requires-clause-within
note-requires-clause-within c =
    let before : c.entries-before.result.now ≡ c.self.inside.core.journal = c.entries-before.ensures ∙ c.journal.ensures in
    let after : c.entries.result.now ≡ c.step.new.self.journal = c.entries.ensures ∙ c.journal-2.ensures in
    let same : c.step.new.self ≡ step c.args.event c.last_moment-moment.result c.self.inside.core = c.in_default.ensures.steps.done refl in
    rw (before, after, same) (step_has_front c.args.event c.last_moment-moment.result c.self.inside.core).within

pub note-requires-clause-before : goal.note-requires-clause-before
note-requires-clause-before c = λ line.
    let before : c.entries-before.result.now ≡ c.self.inside.core.journal = c.entries-before.ensures ∙ c.journal.ensures in
    let after : c.entries.result.now ≡ c.step.new.self.journal = c.entries.ensures ∙ c.journal-2.ensures in
    let same : c.step.new.self ≡ step c.args.event c.last_moment-moment.result c.self.inside.core = c.in_default.ensures.steps.done refl in
    rw (before, after, same, (step_has_front c.args.event c.last_moment-moment.result c.self.inside.core).front) (c.self.invariant (ap (λ (b : Book). b.ended) c.self.view_is ∙ c.requires.going) line)
