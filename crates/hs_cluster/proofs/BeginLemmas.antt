-- What opening answers, from what was taken.
use Rattle.std.proofs.Common.{◌≡◌, ◌∙◌, ap, sym, subst, ℕ, ◌*◌, ◌<◌, ◌≤◌, List, length, None, Result, Ok, Err, Some, refl}
use Rattle.std.specs.Prelude.{IfErr, IfOk}
use Rattle.hs_cluster.specs.declared.fault.ClusterFault.{ClusterFault}
use Rattle.hs_cluster.specs.declared.fault.ClusterFault.TheVariants as cluster
use Rattle.hs_cluster.specs.Begins.{Begins, IsClosed, begun_course, of_taking, opened_with}
use Rattle.hs_cluster.specs.Counts.{NoneFalls}
use Rattle.hs_cluster.specs.Running.{Running}
use Rattle.hs_core_words.specs.Opening.{open_core}
use Rattle.hs_fold.specs.Shards.Setting.{Setting}
use Rattle.hs_limits.specs.declared.shape.Shape.{Shape}
use Rattle.hs_limits.specs.Shape.{IsShape}
use Rattle.hs_peerlog.specs.declared.fault.LogFault.TheVariants as log
use Rattle.hs_peerlog.specs.Opening.{refusal_in}
use Rattle.hs_ports.specs.Fault.{HasRisen}
use Rattle.hs_side.specs.declared.header.Header.{Header}
use Rattle.hs_side.specs.Headers.{own_header}
use Rattle.hs_taking.specs.Copies.{HasEvened}
use Rattle.hs_taking.specs.declared.fault.TakeFault.{TakeFault}
use Rattle.hs_taking.specs.declared.fault.TakeFault.TheVariants as take
use Rattle.hs_taking.specs.Disks.{DiskSeen, log_at, seen_at}
use Rattle.hs_taking.specs.Headed.{KeepsItsHeader, OwnTheirLogs}
use Rattle.hs_taking.specs.Shares.{Span, Taken}
use Rattle.hs_taking.specs.Viewed.{IsOther}

pub closed_of : (tells : Type 0) (shape : Shape) (old new : List DiskSeen) (f : TakeFault) (fault : ClusterFault) → fault ≡ of_taking f → IsOther tells shape old new f → IsClosed tells shape old new fault
closed_of tells shape old new (take.WrongShape peer found) fault is h = subst (λ x. IsClosed tells shape old new x) (sym is) h
closed_of tells shape old new take.NoMemory fault is h = subst (λ x. IsClosed tells shape old new x) (sym is) tt

pub closed_memory : {T : Type 0} (tells : Type 0) (shape : Shape) (old new : List DiskSeen) (r : Result T ClusterFault) → IfErr r (λ fault. fault ≡ cluster.NoMemory) → IfErr r (IsClosed tells shape old new)
closed_memory tells shape old new (Ok x) h = tt
closed_memory tells shape old new (Err fault) h = subst (λ x. IsClosed tells shape old new x) (sym h) tt

pub unwritten_of : (P : Type 0) (f : TakeFault) (fault : ClusterFault) → fault ≡ of_taking f → ((at : ℕ) (found : Header) → f ≡ take.WrongShape at found → P) → (at : ℕ) (found : Header) → fault ≡ cluster.WrongShape at found → P
unwritten_of P (take.WrongShape peer other) fault is h at found e = h peer other refl
unwritten_of P take.NoMemory fault is h at found e = cc (sym is ∙ e)

pub unwritten_memory : {T : Type 0} (P : Type 0) (r : Result T ClusterFault) → IfErr r (λ fault. fault ≡ cluster.NoMemory) → IfErr r (λ fault. (at : ℕ) (found : Header) → fault ≡ cluster.WrongShape at found → P)
unwritten_memory P (Ok x) h = tt
unwritten_memory P (Err fault) h = λ at found e. cc (sym h ∙ e)

pub begins_ok : (tells : Type 0) (set : Setting) (span : Span) (taken : Taken) (entry moment : ℕ) (r : Result Running ClusterFault) → entry ≡ span.before → moment ≡ span.now → IsShape set.shape → HasEvened tells set span taken → length taken.shares ≡ set.shape.shards
    → length taken.logs ≡ set.shape.shards * set.shape.copies → span.before ≤ span.now → length span.old ≡ set.shape.shards * set.shape.copies → length span.new ≡ length span.old → NoneFalls span.old span.new
    → (tells → (peer : ℕ) (found : Header) → peer < length span.old → refusal_in set.shape peer (seen_at span.old peer).stands.seen ≡ Some (log.WrongShape found) → HasRisen (seen_at span.old peer).faults (seen_at span.new peer).faults)
    → OwnTheirLogs tells set.shape (log_at taken.logs) → ((peer : ℕ) → peer < length span.old → KeepsItsHeader tells (own_header set.shape peer) span.before span.now (seen_at span.old peer) (seen_at span.new peer))
    → IfOk r (λ c. c.logs ≡ taken.logs) → IfOk r (λ c. c.core ≡ open_core set.shape set.limits (opened_with taken) moment) → IfOk r (λ c. c.course ≡ begun_course set.shape entry moment taken) → IfOk r (λ c. c.cache ≡ None) → IfOk r (Begins tells set span)
begins_ok tells set span taken entry moment (Ok c) first last shape read shares count ticks disks left falls own owns headed logs core course uncached = record {
  taken = taken;
  shape = shape;
  read = read;
  shares = shares;
  own = own;
  count = count;
  ticks = ticks;
  falls = falls;
  disks = disks;
  left = left;
  logs = logs;
  uncached = uncached;
  owns = owns;
  headed = headed;
  core = core ∙ ap (λ m. open_core set.shape set.limits (opened_with taken) m) last;
  course = course ∙ (λ i. begun_course set.shape (first i) (last i) taken);
}
begins_ok tells set span taken entry moment (Err fault) first last shape read shares count ticks disks left falls own owns headed logs core course uncached = tt
