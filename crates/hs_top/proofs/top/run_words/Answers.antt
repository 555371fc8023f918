use Rattle.std.proofs.Common.{◌≡◌, ◌∙◌, sym, ℕ, List, length, map, arith}
use Rattle.std.specs.Prelude.{string_bytes}
use Rattle.hs_limits.specs.declared.address.Address.{Address}
use Rattle.hs_ports.specs.Objects.{Objects, handed}
use Rattle.hs_promise.specs.Run.{Ran, ran_of}
use Rattle.hs_top.proofs.CalledLemmas.{called_of, handed_count}
use Rattle.hs_top.proofs.top.run_words.Goals as goal

pub returns-in-Some : goal.returns-in-Some
returns-in-Some g c =
    let name : List ℕ → Address = g.A.Addresser.name c.args.naming.now in
    let words : List (List ℕ) = map (λ word. string_bytes word) c.args.words.now in
    let old : Objects = handed c.args.watch.now (map (λ disk. (g.D.Disk.stands disk, g.D.Disk.faults disk)) c.args.disks.now.items) (g.K.Sink.got c.args.sink.now, g.K.Sink.faults c.args.sink.now) (g.S.Source.left c.args.source.now, g.S.Source.faults c.args.source.now) in
    let new : Objects = handed c.do_task.new.watch (map (λ disk. (g.D.Disk.stands disk, g.D.Disk.faults disk)) c.do_task.new.disks.items) (g.K.Sink.got c.do_task.new.sink, g.K.Sink.faults c.do_task.new.sink) (g.S.Source.left c.do_task.new.source, g.S.Source.faults c.do_task.new.source) in
    let r : Ran = ran_of c.do_task.result old new in
    let long : length c.args.disks.now.items ≡ c.args.disks.now.len = omega (arith, c.args.disks.now.ok.0) in
    record {
      called = called_of g.D.Disk.tells name words c.len.result r (handed_count (λ disk. (g.D.Disk.stands disk, g.D.Disk.faults disk)) c.args.disks.now.items ∙ long ∙ sym c.len.ensures) c.in-Some.asked (sym c.in-Some.ensures.exact) c.do_task.ensures.does
          c.do_task.ensures.begun;
    }
