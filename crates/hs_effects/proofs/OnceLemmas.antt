-- Entries that wait and are of one line.
use Rattle.std.proofs.Common.{◌≡◌, ◌∙◌, ap, sym, ℕ, ◌+◌, List, Some, arith}
use Rattle.std.specs.Prelude.{slice_get}
use Rattle.hs_awaiting.specs.declared.wait.Wait.TheVariants as wait
use Rattle.hs_awaiting.specs.declared.waiting.Waiting.{Waiting}
use Rattle.hs_core_words.specs.Looking.{front_of, group_of}
use Rattle.hs_core_words.specs.State.{Core}
use Rattle.hs_effects.specs.Logged.{IsOrderly, asked_by}
use Rattle.hs_entry.specs.declared.entry.Entry.{Entry}
use Rattle.hs_limits.specs.declared.address.Address.{Address}

one_waits : (v w : Waiting) → Some v ≡ Some w → v ≡ w
one_waits v w e = cc

one_number : (m n : ℕ) → wait.Entry m ≡ wait.Entry n → m ≡ n
one_number m n e = cc

pub once : (name : List ℕ → Address) (core : Core) → IsOrderly name core → (shard i : ℕ) (entry : Entry) (other j : ℕ) (second : Entry) (line : ℕ)
    → slice_get (group_of shard core).waiting i ≡ Some entry → slice_get (group_of other core).waiting j ≡ Some second
    → asked_by entry ≡ Some line → asked_by second ≡ Some line → (shard ≡ other) × (i ≡ j)
once name core orderly shard i entry other j second line at_one at_other of_one of_other =
    let a = orderly.asked shard i line entry at_one of_one in
    let b = orderly.asked other j line second at_other of_other in
    let same : a.waiting ≡ b.waiting = one_waits a.waiting b.waiting (sym a.at ∙ b.at) in
    let shards : shard ≡ other = sym a.judges ∙ ap (λ (w : Waiting). w.shard) same ∙ b.judges in
    let numbers = one_number (front_of shard core + 1 + i) (front_of other core + 1 + j) (sym a.waits ∙ ap (λ (w : Waiting). w.wait) same ∙ b.waits) in
    let fronts : front_of shard core ≡ front_of other core = ap (λ s. front_of s core) shards in
    (shards, omega (arith, numbers, fronts))
