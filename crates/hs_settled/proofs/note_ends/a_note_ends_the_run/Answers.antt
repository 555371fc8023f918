use Rattle.std.proofs.Common.{◌≡◌, Option, Some, None}
use Rattle.hs_settled.proofs.note_ends.a_note_ends_the_run.Goals as goal
use Rattle.hs_settled.proofs.NotesEndLemmas.{never_notes, notes_end}
use Rattle.hs_promise.specs.Lost.{NotesEnd}
use Rattle.hs_promise.specs.Machine.{WentAs}
use Rattle.hs_promise.specs.Run.{Ran, Script}
use Rattle.hs_promise.specs.Story.{Story}

ends_of : (S : Script) (r : Ran) (how : Option Story) → S.set.shape.copies ≡ 1 → WentAs S r how → NotesEnd r
ends_of S r None one never = never_notes r never.journal
ends_of S r (Some story) one went = notes_end S r story went one

pub returns : goal.returns
returns c = λ S r how one went. ends_of S r how one went
