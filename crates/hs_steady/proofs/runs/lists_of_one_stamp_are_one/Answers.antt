use Rattle.hs_steady.proofs.LedLemmas.{stamps_one}
use Rattle.hs_steady.proofs.StampLemmas.{one_stamp}
use Rattle.hs_steady.proofs.runs.lists_of_one_stamp_are_one.Goals as goal

pub returns : goal.returns
returns c = record {
  store = λ c machines w peer other low same list more f h rank. one_stamp c machines w peer other low same list more f h rank;
  disks = λ set found events span shows may store moment at peer other low same one two image its_image left its_left list more read its_read n m rank.
      stamps_one set found events span shows may store moment at peer other low same one two image its_image left its_left list more read its_read n m rank;
}
