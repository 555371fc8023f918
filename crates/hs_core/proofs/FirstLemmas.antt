-- The first step of an operation: one that is answered at once is put nowhere, and one that waits for bytes is put with that wait.
use Rattle.std.proofs.Common.{◌≡◌, ◌∙◌, sym, ap, ℕ, List, Some, None, refl}
use Rattle.hs_awaiting.proofs.EntryLemmas.{find_insert, insert_set, remove_insert}
use Rattle.hs_awaiting.specs.declared.wait.Wait.TheVariants as wait
use Rattle.hs_awaiting.specs.declared.waiting.Waiting.{Waiting}
use Rattle.hs_awaiting.specs.Words.{change_with}
use Rattle.hs_core_words.specs.Changing.{add_operation, put_operation}
use Rattle.hs_core_state.specs.Going.{answer_new, answer_with, compare_new, set_wait, told_with}
use Rattle.hs_core_words.specs.Looking.{lead_of, operation_of}
use Rattle.hs_core_words.specs.Operating.{add_read}
use Rattle.hs_core_words.specs.State.{Core}
use Rattle.hs_limits.specs.declared.address.Held.{Held}
use Rattle.hs_model.specs.declared.reply.Reply.{Reply}

module _ (line : ℕ) (w : Waiting) (core : Core) where
  abbrev added : Core
  added = add_operation line w core

  added_found : operation_of line added ≡ Some w
  added_found = find_insert line core.operations w

  -- one that stood nowhere is answered as if it had been put and had ended
  pub told_first : (reply : Reply) (helds : List Held) → operation_of line core ≡ None → told_with line reply helds w core ≡ answer_new line reply helds w core
  told_first reply helds none =
      let ended : answer_new line reply helds w core ≡ answer_with line reply helds w added = rw added_found refl in
      let left : answer_with line reply helds w added ≡ told_with line reply helds w core
      = ap (λ ops. told_with line reply helds w (record core { operations = ops })) (remove_insert line core.operations w none) in
      sym (ended ∙ left)

  -- one that is put with what it waits for
  abbrev waiting : ℕ → Waiting
  waiting number = record w { wait = wait.Bytes number }

  put_waits : (number : ℕ) → set_wait line (wait.Bytes number) added ≡ add_operation line (waiting number) core
  put_waits number =
      let first : set_wait line (wait.Bytes number) added ≡ put_operation line (waiting number) added = rw added_found refl in
      first ∙ ap (λ ops. record core { operations = ops }) (insert_set line core.operations w (waiting number))

  pub compared_first : (shard number : ℕ) (last between : Core) → between ≡ add_operation line (waiting number) core
      → last ≡ change_with (lead_of shard between) (add_read number line) between → last ≡ compare_new shard line number w core
  compared_first shard number last between put reads =
      reads ∙ ap (λ c. change_with (lead_of shard c) (add_read number line) c) put
      ∙ ap (change_with (lead_of shard core) (add_read number line)) (sym (put_waits number))
