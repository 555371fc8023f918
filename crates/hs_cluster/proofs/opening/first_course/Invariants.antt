use Rattle.std.proofs.Common.{◌≡◌, ◌++◌, take}
use Rattle.std.specs.Prelude.{flat_map}
use Rattle.hs_cluster.specs.Begins.{bad_of, took_of}
use Rattle.hs_cluster.proofs.opening.first_course.Given as goal

abbrev pub invariant-tooks : goal.invariant-tooks
invariant-tooks l = l.course.items ≡ flat_map (took_of l.entry) (take l.share-index l.shares)

abbrev pub invariant-losses : goal.invariant-losses
invariant-losses l = l.course.items ≡ flat_map (took_of l.fn.entry) l.shares ++ flat_map bad_of (take l.share-index l.shares)
