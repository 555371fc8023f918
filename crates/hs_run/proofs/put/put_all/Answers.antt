use Rattle.std.proofs.Common.{◌≡◌, ◌-◌, ◌^◌, ◌∙◌, ℕ, List, Option, take, ap, subst, sym, arith, take_all}
use Rattle.hs_ports.specs.Sink.{bytes_of, followed}
use Rattle.hs_ports.specs.Putting.{got_by}
use Rattle.hs_run.specs.Puts.{IsStamped}
use Rattle.hs_run.proofs.PrintedLemmas.{stamped_none, stamped_on, stamped_piece}
use Rattle.hs_run.proofs.TellingLemmas.{put_more}
use Rattle.hs_run.proofs.LateLemmas.{followed_none, late_begun, late_front, late_more, late_ticked}
use Rattle.hs_run.proofs.put.put_all.Goals as goal

pub putting-init : goal.putting-init
putting-init g c = record {
  within = omega arith;
  put = sym (followed_none (bytes_of (g.K.Sink.got c.args.sink.now)));
  late = late_begun (2 ^ 64 - 1) c.args.watch.now c.args.bytes.now (g.K.Sink.got c.args.sink.now);
  stamped = stamped_none c.args.watch.now (g.K.Sink.got c.args.sink.now);
  counted = omega arith;
}

pub putting-preserved : goal.putting-preserved
putting-preserved g c = record {
  within = grind arith;
  put = put_more _ _ _ _ _ _ c.putting.invariant.put c.in-Ok.ensures.put.bytes;
  late = late_more (2 ^ 64 - 1) _ _ _ _ _ _ _ _ _ c.putting.invariant.late c.in-Ok.ensures.later.next c.in-Ok.ensures.later.later c.in-Ok.ensures.put.front;
  stamped = stamped_piece _ _ _ _ _ _ _ c.putting.invariant.late.later c.in-Ok.ensures.later.next c.in-Ok.ensures.later.later c.in-Ok.ensures.put.front c.putting.invariant.stamped;
  counted = omega (arith, c.putting.invariant.counted, c.in-Ok.ensures.cause.later);
}

-- a put failed
pub returns-in-Err-clause-late : goal.returns-in-Err-clause-late
returns-in-Err-clause-late g c =
    let ticked = late_ticked (2 ^ 64 - 1) _ _ _ _ _ _ _ _ c.putting.invariant.late c.in-Err.ensures.later.later c.in-Err.ensures.kept in
    record { later = ticked.later; same = ticked.upto; front = late_front (2 ^ 64 - 1) _ _ _ _ _ _ ticked }

pub returns-in-Err-clause-stamped : goal.returns-in-Err-clause-stamped
returns-in-Err-clause-stamped g c = subst (λ (got : Option (List (ℕ × ℕ))). IsStamped c.args.watch.now c.put.new.watch (g.K.Sink.got c.args.sink.now) got) (sym c.in-Err.ensures.kept)
    (stamped_on _ _ _ _ _ c.in-Err.ensures.later.later c.putting.invariant.stamped)

-- all was put
pub returns-clause-late : goal.returns-clause-late
returns-clause-late g c = record { later = c.putting.invariant.late.later; same = c.putting.invariant.late.upto; front = late_front (2 ^ 64 - 1) _ _ _ _ _ _ c.putting.invariant.late }

pub returns-clause-all : goal.returns-clause-all
returns-clause-all g c = λ m le low.
    let whole : take c.putting.done c.args.bytes.now ≡ c.args.bytes.now = take_all c.putting.done c.args.bytes.now (omega (arith, c.putting-test.false)) in
    c.putting.invariant.late.all m le low ∙ ap (λ (bytes : List ℕ). followed (bytes_of (got_by m (g.K.Sink.got c.args.sink.now))) bytes) whole
