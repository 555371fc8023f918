-- Where a sink failed something was put, and a core that ended as it opened has no events behind it.
use Rattle.std.proofs.Common.{◌≡◌, ◌∙◌, inl, inr, ap, sym, subst, ℕ, ◌<◌, List, [], ◌∷◌, ◌++◌, Option, Some, None, Result, Ok, Err, refl, arith, length, length-append, drop}
use Rattle.std.proofs.lemmas.Bool.{cases_lt}
use Rattle.std.proofs.lemmas.List.{drop_all}
use Rattle.std.specs.Prelude.{IsSome, OnErr, ⊤}
use Rattle.hs_cluster.specs.declared.fault.ClusterFault.{ClusterFault}
use Rattle.hs_cluster.specs.declared.fault.ClusterFault.TheVariants as cluster
use Rattle.hs_core_words.specs.State.{Core}
use Rattle.hs_core_words.specs.Step.{step}
use Rattle.hs_desk.specs.declared.fault.CoreFault.{CoreFault}
use Rattle.hs_events.specs.Course.{steps}
use Rattle.hs_events.specs.Due.{Events}
use Rattle.hs_journal.specs.declared.entry.JournalEntry.{JournalEntry}
use Rattle.hs_promise.specs.declared.status.Status.TheVariants as status
use Rattle.hs_script.specs.Text.{text}
use Rattle.hs_run.specs.declared.stop.Stop.{Stop}
use Rattle.hs_run.specs.declared.stop.Stop.TheVariants as stop
use Rattle.hs_run.specs.Stopping.{end_of, of_cluster, status_of}
use Rattle.hs_run.proofs.LastLineLemmas.{ended_stays}

-- ---- the sink failed

pub write_stop : (result : Result ⊤ Stop) (line : ℕ) → status_of result line ≡ status.WriteFault → result ≡ Err stop.WriteFault
write_stop (Ok x) line is = absurd cc
write_stop (Err (stop.WrongShape peer found)) line is = absurd cc
write_stop (Err (stop.ShardLost shard)) line is = absurd cc
write_stop (Err stop.BadLine) line is = absurd cc
write_stop (Err stop.ReadFault) line is = absurd cc
write_stop (Err stop.WriteFault) line is = refl
write_stop (Err stop.NoMemory) line is = absurd cc
write_stop (Err stop.OpsFull) line is = absurd cc
write_stop (Err stop.InputFull) line is = absurd cc

-- no cluster answers that
did_no_write : (fault : ClusterFault) (line : ℕ) → status_of (Err (of_cluster fault)) line ≡ status.WriteFault → ⊥
did_no_write (cluster.WrongShape peer found) line is = cc
did_no_write (cluster.ShardLost shard) line is = cc
did_no_write cluster.OpsFull line is = cc
did_no_write cluster.NoMemory line is = cc

pub put_failed : (did : Result ⊤ ClusterFault) (put : Result ⊤ Stop) (line : ℕ) → status_of (end_of did put) line ≡ status.WriteFault → put ≡ Err stop.WriteFault
put_failed did (Err halt) line is = write_stop (Err halt) line is
put_failed (Ok x) (Ok y) line is = absurd cc
put_failed (Err fault) (Ok y) line is = absurd (did_no_write fault line is)

-- what a fault says
pub on_fault : {T E : Type 0} (P : Type 0) (r : Result T E) (e : E) → r ≡ Err e → OnErr r P → P
on_fault P r e is h = subst (λ r. OnErr r P) is h

pub memory_no_write : (halt : Stop) → halt ≡ stop.NoMemory → halt ≡ stop.WriteFault → ⊥
memory_no_write halt memory write = differ (sym memory ∙ write)
  where
    differ : stop.NoMemory ≡ stop.WriteFault → ⊥
    differ e = cc

abbrev halted : Stop → Result ⊤ Stop
halted halt = Err halt

pub same_halt : (a b : Stop) → halted a ≡ halted b → a ≡ b
same_halt a b e = cc

-- ---- so something was answered

pub longer : (k : ℕ) (journal : List JournalEntry) → 0 < length (text (drop k journal)) → k < length journal
longer k journal some = elim (cases_lt k (length journal)) [
  | inl low ↦ low
  | inr high ↦
      let none : length (text (drop k journal)) ≡ 0 = ap (λ (j : List JournalEntry). length (text j)) (drop_all k journal high) in
      absurd (omega (arith, some, none))
]

-- what comes before the last is the same
pub snoc_is : (xs ys : List Events) (x y : Events) → xs ++ x ∷ [] ≡ ys ++ y ∷ [] → xs ≡ ys
snoc_is [] [] x y e = refl
snoc_is [] (b ∷ ys) x y e = absurd (let n = ap length e in omega (arith, n, length-append ys (y ∷ [])))
snoc_is (a ∷ xs) [] x y e = absurd (let n = ap length e in omega (arith, n, length-append xs (x ∷ [])))
snoc_is (a ∷ xs) (b ∷ ys) x y e =
    let first : a ≡ b = cc in
    let rest : xs ++ x ∷ [] ≡ ys ++ y ∷ [] = cc in
    λ i. first i ∷ snoc_is xs ys x y rest i

pub snoc_some : (ys : List Events) (y : Events) → [] ≡ ys ++ y ∷ [] → ⊥
snoc_some ys y e = let n = ap length e in omega (arith, n, length-append ys (y ∷ []))

-- ---- a core that has ended

steps_stay : (core : Core) (es : Events) (fault : CoreFault) → core.ended ≡ Some fault → steps core es ≡ core
steps_stay core [] fault ended = refl
steps_stay core (e ∷ es) fault ended =
    let same : step e.0 e.1 core ≡ core = ended_stays e.0 e.1 core fault ended in
    steps_stay (step e.0 e.1 core) es fault (ap (λ (c : Core). c.ended) same ∙ ended) ∙ same

pub first_going : (core : Core) (es : Events) → (steps core es).ended ≡ None → core.ended ≡ None
first_going core es going = go core.ended refl
  where
    no_way : (fault : CoreFault) → Some fault ≡ None → ⊥
    no_way fault e = cc

    go : (o : Option CoreFault) → core.ended ≡ o → core.ended ≡ None
    go None is = is
    go (Some fault) is = absurd (no_way fault (sym is ∙ ap (λ (c : Core). c.ended) (sym (steps_stay core es fault is)) ∙ going))

pub none_some : (o : Option CoreFault) → o ≡ None → IsSome o → ⊥
none_some None e h = cc h
none_some (Some x) e h = cc e
