use Rattle.hs_scrub.proofs.CauseLemmas.{caused_once, failed_so}
use Rattle.hs_scrub.proofs.laws.each_mark_is_by_its_cause.Goals as goal

pub returns-clause-one : goal.returns-clause-one
returns-clause-one g c = λ told shape peer old new taken mark other calm one two. caused_once g.D.Disk.tells told shape peer old new taken mark other calm one two

pub returns-clause-failed : goal.returns-clause-failed
returns-clause-failed g c = λ shape peer old new taken mark rose cause. failed_so g.D.Disk.tells shape peer old new taken mark rose cause
