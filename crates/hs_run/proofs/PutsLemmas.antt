-- What is put of what was written out before.
use Rattle.std.proofs.Common.{◌≡◌, ◌∙◌, ap, sym, subst, ℕ, ◌-◌, List, [], ◌++◌, Option, Result, Ok, Err, refl, arith, length, drop, take, take_all}
use Rattle.std.proofs.lemmas.List.{take_rest}
use Rattle.std.specs.Prelude.{IfErr, IsOkUnless, OnErr, OnOk, ⊤}
use Rattle.hs_journal.specs.declared.entry.JournalEntry.{JournalEntry}
use Rattle.hs_ports.specs.Putting.{PutsFront, got_by}
use Rattle.hs_ports.specs.Sink.{bytes_of, followed}
use Rattle.hs_script.specs.Text.{text}
use Rattle.hs_run.specs.declared.stop.Stop.{Stop}
use Rattle.hs_run.specs.declared.stop.Stop.TheVariants as stop
use Rattle.hs_run.specs.Puts.{IsStamped, Puts, PutsAll, PutsLate}
use Rattle.hs_cluster.specs.declared.fault.ClusterFault.{ClusterFault}
use Rattle.hs_run.specs.Stopping.{IsPutStop, end_of}
use Rattle.hs_run.proofs.LateLemmas.{front_none}
use Rattle.hs_run.proofs.PrintedLemmas.{stamped_none}

-- bytes that are put whole are a front of themselves
whole_front : (got got' : Option (List ℕ)) (bytes : List ℕ) → got' ≡ followed got bytes → PutsFront got bytes got'
whole_front got got' bytes put = record { count = length bytes; put = put ∙ ap (followed got) (sym (take_all (length bytes) bytes (omega arith))) }

-- the front that was put, whatever came of it
front_of : (got got' : Option (List ℕ)) (bytes : List ℕ) (result : Result ⊤ Stop) → OnOk result (got' ≡ followed got bytes) → OnErr result (PutsFront got bytes got') → PutsFront got bytes got'
front_of got got' bytes (Ok x) whole front = whole_front got got' bytes whole
front_of got got' bytes (Err halt) whole front = front

pub puts_of : (before now : ℕ) (bytes : List ℕ) (got got' : Option (List (ℕ × ℕ))) (result : Result ⊤ Stop) → PutsLate before now bytes got got' → IsStamped before now got got' → OnOk result (bytes_of got' ≡ followed (bytes_of got) bytes)
    → OnErr result (PutsFront (bytes_of got) bytes (bytes_of got')) → OnOk result (PutsAll now bytes got got') → Puts before now bytes got got' result
puts_of before now bytes got got' result late stamped whole front all = record {
  late = late;
  stamped = stamped;
  front = front_of (bytes_of got) (bytes_of got') bytes result whole front;
  whole = whole;
  all = all;
}

-- nothing was put of it
pub puts_none : (now : ℕ) (bytes : List ℕ) (got : Option (List (ℕ × ℕ))) (halt : Stop) → Puts now now bytes got got (Err halt)
puts_none now bytes got halt = record {
  late = record {
    later = omega arith;
    same = λ m le early. refl;
    front = λ m early. front_none (bytes_of (got_by m got)) (bytes_of (got_by m got)) bytes refl;
  };
  stamped = stamped_none now got;
  front = front_none (bytes_of got) (bytes_of got) bytes refl;
  whole = tt;
  all = tt;
}

-- a put stops only where the sink failed or memory was wanting
pub only_write : (result : Result ⊤ Stop) → IsOkUnless result stop.WriteFault → IfErr result IsPutStop
only_write (Ok x) h = tt
only_write (Err halt) h = subst (λ (s : Stop). IsPutStop s) (sym h) tt

pub only_memory : (halt : Stop) → halt ≡ stop.NoMemory → IsPutStop halt
only_memory halt is = subst (λ (s : Stop). IsPutStop s) (sym is) tt

-- what came to its end was printed
pub ended_printed : (did : Result ⊤ ClusterFault) (put result : Result ⊤ Stop) (P : Type 0) → result ≡ end_of did put → OnOk put P → OnOk result P
ended_printed did put result P is h = subst (λ (r : Result ⊤ Stop). OnOk r P) (sym is) (go did put h)
  where
    go : (did : Result ⊤ ClusterFault) (put : Result ⊤ Stop) → OnOk put P → OnOk (end_of did put) P
    go (Ok x) (Ok y) h = h
    go (Err fault) (Ok y) h = tt
    go (Ok x) (Err halt) h = tt
    go (Err fault) (Err halt) h = tt

-- what is written behind nothing of the entries from a place on
pub written_text : (out before : List ℕ) (entries journal : List JournalEntry) (k : ℕ) → out ≡ before ++ text (take (length entries - k) (drop k entries)) → before ≡ [] → entries ≡ journal → out ≡ text (drop k journal)
written_text out before entries journal k is none same =
    is ∙ ap (λ (front : List ℕ). front ++ text (take (length entries - k) (drop k entries))) none ∙ ap text (take_rest entries k ∙ ap (λ (j : List JournalEntry). drop k j) same)
