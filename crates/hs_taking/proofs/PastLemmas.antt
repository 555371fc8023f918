-- The past of a disk stays: by no call, by calls one after another, and by those that leave its list or all as it is.
use Rattle.std.proofs.Common.{◌∙◌, ℕ, ◌≤◌, List, refl, arith}
use Rattle.hs_entry.specs.declared.entry.Entry.{Entry}
use Rattle.hs_peerlog.specs.Images.{LeavesAll, LeavesEach}
use Rattle.hs_ports.specs.Disk.{Standing}
use Rattle.hs_taking.specs.Past.{PastStays}

-- nothing was called
pub past_still : (before now : ℕ) (disk : Standing) → before ≤ now → disk.last ≤ before → PastStays before now disk disk
past_still before now disk up last = record {
  later = up;
  last = omega (arith, last, up);
  earlier = λ side m low fits. refl;
}

-- some calls, and then some
pub past_then : (before mid now : ℕ) (a b c : Standing) → PastStays before mid a b → PastStays mid now b c → PastStays before now a c
past_then before mid now a b c one two = record {
  later = let l = one.later in let m = two.later in omega (arith, l, m);
  last = two.last;
  earlier = λ side m low fits. two.earlier side m (let l = one.later in omega (arith, low, l)) fits ∙ one.earlier side m low fits;
}

-- and time went on
pub past_wait : (before mid now : ℕ) (a b : Standing) → mid ≤ now → PastStays before mid a b → PastStays before now a b
past_wait before mid now a b up one = record {
  later = let l = one.later in omega (arith, l, up);
  last = let l = one.last in omega (arith, l, up);
  earlier = one.earlier;
}

pub past_all : (before now : ℕ) (old new : Standing) → LeavesAll before now old new → PastStays before now old new
past_all before now old new run = record { later = run.later; last = run.last; earlier = run.earlier }

pub past_each : (before now : ℕ) (old new : Standing) (P : List (ℕ × Entry) → Type 0) → LeavesEach before now old new P → PastStays before now old new
past_each before now old new P run = record { later = run.later; last = run.last; earlier = run.earlier }
