use Rattle.std.proofs.Common.{◌≡◌, take}
use Rattle.hs_ports.specs.declared.tear.Tear.TheVariants.{New}
use Rattle.hs_ports.specs.Disk.{IsImage}
use Rattle.hs_ports.specs.Image.{told_all}
use Rattle.hs_ports.specs.Replay.{seen_by, loose_by}
use Rattle.hs_ports.proofs.image.replay.Given as goal

-- the calls so far were done again
abbrev pub invariant-loop-change : goal.invariant-loop-change
invariant-loop-change l = record {
  seen : l.seen.items ≡ seen_by l.first (told_all (take l.change-index l.changes));
  image : IsImage (loose_by l.first (told_all (take l.change-index l.changes))) l.torn.items;
  new : l.tear ≡ New → l.torn.items ≡ l.seen.items;
}
