-- An audit, from what its calls say.
use Rattle.std.proofs.Common.{◌≡◌, ◌∙◌, ◌⊎◌, inl, inr, ap, sym, subst, ℕ, ◌<◌, List, [], length}
use Rattle.hs_audit.specs.Audited.{Audits, CanBeAudited, IsAuditRefused}
use Rattle.hs_audit.specs.declared.fault.AuditFault.{AuditFault}
use Rattle.hs_audit.specs.declared.fault.AuditFault.TheVariants as fault
use Rattle.hs_fold.specs.Shards.Setting.{Setting}
use Rattle.hs_limits.specs.Limits.{greatest_limits}
use Rattle.hs_limits.specs.declared.address.Address.{Address}
use Rattle.hs_limits.specs.declared.shape.Shape.{Shape}
use Rattle.hs_ports.specs.Fault.{HasRisen}
use Rattle.hs_ports.specs.Putting.{PutsFront}
use Rattle.hs_ports.specs.Sink.{bytes_of, followed}
use Rattle.hs_promise.specs.Run.{Ran}
use Rattle.hs_promise.specs.declared.status.Status.{Status}
use Rattle.hs_promise.specs.declared.status.Status.TheVariants as status
use Rattle.hs_run.specs.Machine.{AreHanded}
use Rattle.hs_taking.specs.Disks.{DiskSeen, seen_at}
use Rattle.hs_taking.specs.Viewed.{IsOnlyRead}
use Rattle.hs_checks.specs.Audited.{EndsAudit, IsAudited, audit_status}
use Rattle.hs_checks.specs.Silent.{RunsNoScript}

module _ (tells : Type 0) (name : List ℕ → Address) (shape : Shape) (r : Ran) (old new : List DiskSeen) (before : AreHanded r.old old) (behind : AreHanded r.new new) (silent : RunsNoScript r)
    (read : (peer : ℕ) → peer < length old → IsOnlyRead tells r.old.moment r.new.moment (seen_at old peer) (seen_at new peer)) where
  abbrev set : Setting
  set = record { name = name; limits = greatest_limits; shape = shape }

  -- the text was put, or the sink failed
  pub by_text : (text : List ℕ) → Audits tells set old new [] text → (r.ending ≡ status.Done) ⊎ (r.ending ≡ status.WriteFault)
      → (r.ending ≡ status.Done → bytes_of r.new.got ≡ followed (bytes_of r.old.got) text)
      → (r.ending ≡ status.WriteFault → PutsFront (bytes_of r.old.got) text (bytes_of r.new.got))
      → (r.ending ≡ status.WriteFault → HasRisen r.old.sink_faults r.new.sink_faults) → IsAudited tells name shape r
  by_text text audits only done front failed = record {
    silent = silent;
    old = old;
    new = new;
    before = before;
    behind = behind;
    ends = elim only [
      | inl is ↦ subst (λ (s : Status). EndsAudit tells set old new r s) (sym is) (record { text = text; audits = audits; put = done is })
      | inr is ↦ subst (λ (s : Status). EndsAudit tells set old new r s) (sym is) (record { text = text; audits = audits; put = front is; failed = failed is })
    ];
    read = read;
    complete = λ told can calm. elim only [
      | inl is ↦ inl is
      | inr is ↦ absurd (calm (failed is))
    ];
  }

  ends_by : (f : AuditFault) → r.new.got ≡ r.old.got → IsAuditRefused tells shape old new f → EndsAudit tells set old new r (audit_status f)
  ends_by (fault.WrongShape peer found) same refused = (same, refused)
  ends_by (fault.ShardLost shard) same refused = (same, refused)
  ends_by fault.NoMemory same refused = same

  -- it could not be given
  pub by_fault : (f : AuditFault) → r.ending ≡ audit_status f → r.new.got ≡ r.old.got → IsAuditRefused tells shape old new f → (tells → CanBeAudited shape old new → f ≡ fault.NoMemory) → IsAudited tells name shape r
  by_fault f is same refused complete = record {
    silent = silent;
    old = old;
    new = new;
    before = before;
    behind = behind;
    ends = subst (λ (s : Status). EndsAudit tells set old new r s) (sym is) (ends_by f same refused);
    read = read;
    complete = λ told can calm. inr (is ∙ ap audit_status (complete told can));
  }
