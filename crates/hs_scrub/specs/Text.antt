-- What a scrub prints.
use Rattle.std.specs.Prelude.{ℕ, ◌/◌, ◌==◌, Bool, true, false, not, List, ◌∷◌, [], ◌++◌, codes, count_by, slice_index_or, if◌then◌else◌}
use Rattle.std.specs.List.{enumerate_from, flat_map}
use Rattle.std.specs.Fmt.{decimal}
use Rattle.hs_scrub.specs.declared.mark.PeerMark.{PeerMark}
use Rattle.hs_scrub.specs.declared.mark.PeerMark.TheVariants.{Same, Behind, Differs, NoLog, Fault}

-- whether a mark says that the list is the taken one
abbrev pub is_same : PeerMark → Bool
is_same Same = true
is_same (Behind length) = false
is_same (Differs number) = false
is_same (NoLog at) = false
is_same Fault = false

-- the words of a mark, where the taken log has so many entries
abbrev pub mark_text : ℕ → PeerMark → List ℕ
mark_text taken Same = codes "same " ++ (decimal taken ++ 10 ∷ [])
mark_text taken (Behind length) = codes "behind " ++ (decimal length ++ (codes " " ++ (decimal taken ++ 10 ∷ [])))
mark_text taken (Differs number) = codes "differs " ++ (decimal number ++ 10 ∷ [])
mark_text taken (NoLog at) = codes "nolog " ++ (decimal at ++ 10 ∷ [])
mark_text taken Fault = codes "fault\n"

-- the line of a peer
abbrev pub line_of : ℕ → ℕ → PeerMark → List ℕ
line_of taken peer mark = codes "peer " ++ (decimal peer ++ (codes " " ++ mark_text taken mark))

-- a line for each peer, ascending; peer g*R+i keeps a copy of shard g
abbrev pub lines_of : ℕ → List ℕ → List PeerMark → List ℕ
lines_of copies lengths marks = flat_map (λ x. line_of (slice_index_or lengths (x.0 / copies) 0) x.0 x.1) (enumerate_from 0 marks)

-- how many peers don't have the taken list
abbrev pub bad_of : List PeerMark → ℕ
bad_of marks = count_by (λ mark. not (is_same mark)) marks

-- the last line, where so many don't
abbrev pub end_text : ℕ → List ℕ
end_text bad = if bad == 0 then codes "scrub ok\n" else codes "scrub bad " ++ (decimal bad ++ 10 ∷ [])

-- all of it, where the taken logs of the shards have so many entries
abbrev pub scrub_text : ℕ → List ℕ → List PeerMark → List ℕ
scrub_text copies lengths marks = lines_of copies lengths marks ++ end_text (bad_of marks)
