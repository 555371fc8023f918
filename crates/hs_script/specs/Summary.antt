-- The summary of a load.
use Rattle.std.specs.Prelude.{ℕ, List, ◌∷◌, [], ◌++◌, codes}
use Rattle.std.specs.List.{enumerate_from, flat_map}
use Rattle.std.specs.Fmt.{decimal}
use Rattle.hs_script.specs.declared.sums.WriterSum.{WriterSum}

-- the line of a writer by its number: how many files it rooted, and how many of them it kept
abbrev pub writer_text : ℕ → WriterSum → List ℕ
writer_text number sum = codes "writer " ++ (decimal number ++ (codes " files " ++ (decimal sum.files ++ (codes " kept " ++ (decimal sum.kept ++ 10 ∷ [])))))

-- a line for each writer from 0, then the roots that are retained, then the blocks that are present
abbrev pub summary_text : List WriterSum → ℕ → ℕ → List ℕ
summary_text writers roots blocks =
    flat_map (λ w. writer_text w.0 w.1) (enumerate_from 0 writers)
    ++ (codes "roots " ++ (decimal roots ++ (codes "\nblocks " ++ (decimal blocks ++ 10 ∷ []))))
