use Rattle.hs_standing.specs.Lists.{whole_from}
use Rattle.hs_tails.proofs.ChosenLemmas.{chosen_count, chosen_fronts, chosen_lists, chosen_once, chosen_took, may_be_left}
use Rattle.hs_tails.specs.Chosen.{with_chosen}
use Rattle.hs_tails.proofs.chosen.chosen_lists_reopen.Goals as goal

pub returns-clause-stands : goal.returns-clause-stands
returns-clause-stands c = λ start stop journal disks lists core chosen s may.
    c.fronts_reopen.ensures.stands start stop journal (chosen_lists start stop journal disks lists core s chosen may) (whole_from (with_chosen lists chosen) 0 start.set.shape.shards) s.shape
    (chosen_took start stop journal disks lists core s chosen may) (λ g low. may_be_left start stop journal disks lists core s chosen may g low)
    (chosen_count (with_chosen lists chosen) start.set.shape.shards) (chosen_fronts start stop journal disks lists core s chosen may)

pub returns-clause-legal : goal.returns-clause-legal
returns-clause-legal c = λ start stop journal disks lists core chosen s may.
    c.fronts_reopen.ensures.legal start stop journal (chosen_lists start stop journal disks lists core s chosen may) (whole_from (with_chosen lists chosen) 0 start.set.shape.shards) s.shape
    (chosen_took start stop journal disks lists core s chosen may) (λ g low. may_be_left start stop journal disks lists core s chosen may g low)
    (chosen_count (with_chosen lists chosen) start.set.shape.shards) (chosen_fronts start stop journal disks lists core s chosen may)

pub returns-clause-sound : goal.returns-clause-sound
returns-clause-sound c = λ start stop journal disks lists core chosen s may.
    c.fronts_reopen.ensures.sound start stop journal (chosen_lists start stop journal disks lists core s chosen may) (whole_from (with_chosen lists chosen) 0 start.set.shape.shards) s.shape
    (chosen_took start stop journal disks lists core s chosen may) (λ g low. may_be_left start stop journal disks lists core s chosen may g low)
    (chosen_count (with_chosen lists chosen) start.set.shape.shards) (chosen_fronts start stop journal disks lists core s chosen may)

pub returns-clause-awaited : goal.returns-clause-awaited
returns-clause-awaited c = λ start stop journal disks lists core chosen s may.
    c.fronts_reopen.ensures.awaited start stop journal (chosen_lists start stop journal disks lists core s chosen may) (whole_from (with_chosen lists chosen) 0 start.set.shape.shards) s.shape
    (chosen_took start stop journal disks lists core s chosen may) (λ g low. may_be_left start stop journal disks lists core s chosen may g low)
    (chosen_count (with_chosen lists chosen) start.set.shape.shards) (chosen_fronts start stop journal disks lists core s chosen may)

pub returns-clause-once : goal.returns-clause-once
returns-clause-once c = λ start stop journal disks lists core chosen s may.
    c.fronts_reopen.ensures.once start stop journal (chosen_lists start stop journal disks lists core s chosen may) (whole_from (with_chosen lists chosen) 0 start.set.shape.shards) s.shape
    (chosen_took start stop journal disks lists core s chosen may) (λ g low. may_be_left start stop journal disks lists core s chosen may g low)
    (chosen_count (with_chosen lists chosen) start.set.shape.shards) (chosen_fronts start stop journal disks lists core s chosen may) (chosen_once start stop journal disks lists core s chosen may)
