-- The loop over the lines of a script.
use Rattle.std.proofs.Common.{◌≡◌, ◌∙◌, ap, sym, subst, ℕ, ◌+◌, ◌-◌, ◌^◌, ◌≤◌, true, false, List, [], ◌∷◌, ◌++◌, Option, Some, None, Result, Ok, Err, refl, arith, length}
use Rattle.std.proofs.lemmas.Bool.{false≢true, true≢false}
use Rattle.std.specs.Prelude.{IfSome, is_ok, ⊤}
use Rattle.hs_events.specs.Due.{Events}
use Rattle.hs_limits.specs.declared.address.Address.{Address}
use Rattle.hs_script.specs.Reading.{Reading, command_in, commands, reading}
use Rattle.hs_script.specs.Lines.{lines_of}
use Rattle.hs_script.specs.Scripts.{input_limit, is_bad}
use Rattle.hs_ports.specs.Fault.{HasRisen}
use Rattle.hs_ports.specs.Source.{before}
use Rattle.hs_run.specs.declared.reader.Reader.{Reader}
use Rattle.hs_run.specs.Reader.{cost, held_of, pending}
use Rattle.hs_run.specs.Reading.{IsReadThrough}
use Rattle.hs_run.specs.declared.stop.Stop.{Stop}
use Rattle.hs_run.specs.declared.stop.Stop.TheVariants as stop
use Rattle.hs_run.specs.Between.{Point}
use Rattle.hs_run.specs.Going.{AreRead, Begun, Between, HasGone, HasShown, HasStopped, IsBetween, IsSoFar, Within}
use Rattle.hs_run.specs.Lines.{Halts}
use Rattle.hs_run.specs.OneLine.{Bad, Blank, Commanded, DoesLine, Stretch, Unread}
use Rattle.hs_run.proofs.EndingLemmas.{none_bad}
use Rattle.hs_run.proofs.EndsLemmas.{IsWithin, end_within, says_good}
use Rattle.hs_run.proofs.PassedLemmas.{blank_gone, command_gone}
use Rattle.hs_run.proofs.PrintedLemmas.{least}
use Rattle.hs_run.proofs.ReadLemmas.{read_more, read_none}
use Rattle.hs_run.proofs.ShownLemmas.{blank_shown, command_shown}

-- a result that is a stop
abbrev stop_err : Stop → Result ⊤ Stop
stop_err halt = Err halt

-- where a script is told, this is what its next line says
abbrev pub IsNextOf : Option (List ℕ) → ℕ → List ℕ → Type 0
IsNextOf script n line = IfSome script (λ told. commands told (n + 1) ≡ command_in (reading line))

-- the lines that were read, and that one
said_more : (script : Option (List ℕ)) (read : List (List ℕ)) (n : ℕ) (line : List ℕ) → n ≡ length read → IsNextOf script n line → IfSome script (λ told. AreRead (commands told) read) → IfSome script (λ told. AreRead (commands told) (read ++ line ∷ []))
said_more None read n line here next said = tt
said_more (Some told) read n line here next said = read_more (commands told) read line said (ap (λ (k : ℕ). commands told (k + 1)) (sym here) ∙ next)

-- how many there are
read_count : (b : Begun) (read : List (List ℕ)) (lines : List Events) (at : Point) → HasGone b read lines at → at.line ≡ length read
read_count b read lines at gone = gone.line ∙ sym gone.each

-- ---- one line more

pub so_far_more : (tells : Type 0) (name : List ℕ → Address) (b : Begun) (script : Option (List ℕ)) (at new : Point) (line : List ℕ) (result : Result ⊤ Stop) → b.set.name ≡ name → IsSoFar tells b script at → IsNextOf script at.line line → is_ok result ≡ true
    → DoesLine tells name (reading line) (record { old = at; new = new; result = result }) → IsSoFar tells b script new
so_far_more tells name b script at new line result named h next fine (Bad wrong same is) = absurd (true≢false (sym fine ∙ ap (λ (r : Result ⊤ Stop). is_ok r) is))
so_far_more tells name b script at new line result named h next fine (Unread same is) = absurd (true≢false (sym fine ∙ ap (λ (r : Result ⊤ Stop). is_ok r) is))
so_far_more tells name b script at new line result named h next fine (Blank said same is) = record {
  read = h.read ++ line ∷ [];
  lines = h.lines ++ [] ∷ [];
  gone = subst (λ (p : Point). HasGone b (h.read ++ line ∷ []) (h.lines ++ [] ∷ []) p) (sym same) (blank_gone b h.read h.lines at line h.gone said);
  shows = subst (λ (p : Point). HasShown tells b (h.lines ++ [] ∷ []) p) (sym same) (blank_shown tells b h.lines at (at.line + 1) h.shows);
  said = said_more script h.read at.line line (read_count b h.read h.lines at h.gone) next h.said;
}
so_far_more tells name b script at new line result named h next fine (Commanded asked said runs) = record {
  read = h.read ++ line ∷ [];
  lines = h.lines ++ runs.runs.events ∷ [];
  gone = command_gone tells name b h.read h.lines at new line asked result named h.gone said fine runs;
  shows = command_shown tells name b h.read h.lines at new asked result h.gone runs h.shows fine;
  said = said_more script h.read at.line line (read_count b h.read h.lines at h.gone) next h.said;
}

-- ---- it stopped

-- no line was found
halts_between : (halt : Stop) (left : Option (List ℕ)) (held : List ℕ) (budget : ℕ) (left' : Option (List ℕ)) (held' : List ℕ) (budget' : ℕ) → Halts halt left held budget left' held' budget' → IsBetween (Err halt)
halts_between (stop.WrongShape peer found) left held budget left' held' budget' h = absurd h
halts_between (stop.ShardLost shard) left held budget left' held' budget' h = absurd h
halts_between stop.BadLine left held budget left' held' budget' h = tt
halts_between stop.ReadFault left held budget left' held' budget' h = tt
halts_between stop.WriteFault left held budget left' held' budget' h = absurd h
halts_between stop.NoMemory left held budget left' held' budget' h = tt
halts_between stop.OpsFull left held budget left' held' budget' h = absurd h
halts_between stop.InputFull left held budget left' held' budget' h = tt

pub stopped_reading : (tells : Type 0) (name : List ℕ → Address) (b : Begun) (script : Option (List ℕ)) (start at : Point) (halt : Stop) (left : Option (List ℕ)) (held : List ℕ) (budget : ℕ) (left' : Option (List ℕ)) (held' : List ℕ) (budget' : ℕ)
    → IsSoFar tells b script at → Halts halt left held budget left' held' budget' → HasStopped tells name b script (record { old = start; new = at; result = Err halt })
stopped_reading tells name b script start at halt left held budget left' held' budget' h halts = Between h (halts_between halt left held budget left' held' budget' halts)

pub stopped_line : (tells : Type 0) (name : List ℕ → Address) (b : Begun) (script : Option (List ℕ)) (start at new : Point) (line : List ℕ) (result : Result ⊤ Stop) → b.set.name ≡ name → IsSoFar tells b script at → IsNextOf script at.line line → is_ok result ≡ false
    → DoesLine tells name (reading line) (record { old = at; new = new; result = result }) → HasStopped tells name b script (record { old = start; new = new; result = result })
stopped_line tells name b script start at new line result named h next cut (Bad wrong same is) =
    Between (subst (λ (p : Point). IsSoFar tells b script p) (sym same) h) (subst (λ (r : Result ⊤ Stop). IsBetween r) (sym is) tt)
stopped_line tells name b script start at new line result named h next cut (Unread same is) =
    Between (subst (λ (p : Point). IsSoFar tells b script p) (sym same) h) (subst (λ (r : Result ⊤ Stop). IsBetween r) (sym is) tt)
stopped_line tells name b script start at new line result named h next cut (Blank said same is) = absurd (false≢true (sym cut ∙ ap (λ (r : Result ⊤ Stop). is_ok r) is))
stopped_line tells name b script start at new line result named h next cut (Commanded asked said runs) =
    Within at h.read h.lines line asked h.gone h.shows (said_more script h.read at.line line (read_count b h.read h.lines at h.gone) next h.said) said cut runs

-- nothing is read yet
pub so_far_none : (tells : Type 0) (b : Begun) (script : Option (List ℕ)) (at : Point) → HasGone b [] [] at → HasShown tells b [] at → IsSoFar tells b script at
so_far_none tells b script at gone shows = record { read = []; lines = []; gone = gone; shows = shows; said = none script }
  where
    none : (o : Option (List ℕ)) → IfSome o (λ told. AreRead (commands told) [])
    none None = tt
    none (Some told) = read_none (commands told)

-- ---- what a line that was gone past is

pub line_good : (tells : Type 0) (name : List ℕ → Address) (said : Reading) (part : Stretch) → is_ok part.result ≡ true → DoesLine tells name said part → is_bad said ≡ false
line_good tells name said part fine (Bad wrong same is) = absurd (true≢false (sym fine ∙ ap (λ (r : Result ⊤ Stop). is_ok r) is))
line_good tells name said part fine (Unread same is) = absurd (true≢false (sym fine ∙ ap (λ (r : Result ⊤ Stop). is_ok r) is))
line_good tells name said part fine (Blank nothing same is) = ap is_bad nothing
line_good tells name said part fine (Commanded asked says_so runs) = says_good said asked says_so runs.served

pub line_next : (tells : Type 0) (name : List ℕ → Address) (said : Reading) (part : Stretch) → is_ok part.result ≡ true → DoesLine tells name said part → part.new.line ≡ part.old.line + 1
line_next tells name said part fine (Bad wrong same is) = absurd (true≢false (sym fine ∙ ap (λ (r : Result ⊤ Stop). is_ok r) is))
line_next tells name said part fine (Unread same is) = absurd (true≢false (sym fine ∙ ap (λ (r : Result ⊤ Stop). is_ok r) is))
line_next tells name said part fine (Blank nothing same is) = ap (λ (p : Point). p.line) same
line_next tells name said part fine (Commanded asked says_so runs) = runs.line

-- no line finds that the source failed
pub line_reads : (tells : Type 0) (name : List ℕ → Address) (said : Reading) (part : Stretch) → DoesLine tells name said part → part.result ≡ Err stop.ReadFault → ⊥
line_reads tells name said part (Bad wrong same is) read = not_bad (sym is ∙ read)
  where
    not_bad : stop_err stop.BadLine ≡ stop_err stop.ReadFault → ⊥
    not_bad e = cc
line_reads tells name said part (Unread same is) read = not_memory (sym is ∙ read)
  where
    not_memory : stop_err stop.NoMemory ≡ stop_err stop.ReadFault → ⊥
    not_memory e = cc
line_reads tells name said part (Blank nothing same is) read = not_ok (sym is ∙ read)
  where
    not_ok : Ok tt ≡ stop_err stop.ReadFault → ⊥
    not_ok e = cc
line_reads tells name said part (Commanded asked says_so runs) read =
    subst (λ (r : Result ⊤ Stop). IsWithin r) (sym runs.ended ∙ read)
    (end_within runs.did runs.put part.new.cluster.core.ended runs.runs.does.outcome runs.only (ap (λ (r : Result ⊤ Stop). is_ok r) (sym runs.ended ∙ read)))

-- a count that rose later
pub risen_from : (first before now : ℕ) → first ≤ before → HasRisen before now → HasRisen first now
risen_from first before now low risen = least (2 ^ 64 - 1) first before now low risen

-- nothing of a script is taken yet
pub read_none_of : (script : List ℕ) (reader : Reader) (left : Option (List ℕ)) (n : ℕ) → held_of reader ≡ [] → cost reader ≡ input_limit → n ≡ 0 → left ≡ Some script → IsReadThrough script (pending reader left) (cost reader) reader.ended n
read_none_of script reader left n held whole none told = rw (whole, none) (record {
  left = ap (λ (h : List ℕ). before h left) held ∙ ap (before []) told;
  low = omega arith;
  high = omega arith;
  lines = refl;
  complete = λ e. refl;
  within = omega arith;
  good = λ k low bad. none_bad (lines_of script) k bad.line low bad.at;
})
