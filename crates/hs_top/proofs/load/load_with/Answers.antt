use Rattle.std.proofs.Common.{◌≡◌, ◌∙◌, sym, subst, ℕ, List, Option, length, map, arith}
use Rattle.std.specs.Prelude.{string_bytes}
use Rattle.hs_limits.specs.declared.address.Address.{Address}
use Rattle.hs_ports.specs.Objects.{Objects, handed}
use Rattle.hs_promise.specs.Run.{Ran, ran_of}
use Rattle.hs_script.specs.declared.invocation.Task.{Task}
use Rattle.hs_summed.specs.Store.{LoadsStore}
use Rattle.hs_top.proofs.CalledLemmas.{called_of, handed_count}
use Rattle.hs_top.proofs.LoadEndLemmas.{never_usage}
use Rattle.hs_top.specs.Calls.{Does}
use Rattle.hs_top.proofs.load.load_with.Goals as goal

pub returns-in-Load-clause-called : goal.returns-in-Load-clause-called
returns-in-Load-clause-called g c = λ is source.
    let name : List ℕ → Address = g.A.Addresser.name c.args.naming.now in
    let words : List (List ℕ) = map (λ word. string_bytes word) c.args.words.now in
    let old : Objects = handed c.args.watch.now (map (λ disk. (g.D.Disk.stands disk, g.D.Disk.faults disk)) c.args.disks.now.items) (g.K.Sink.got c.args.sink.now, g.K.Sink.faults c.args.sink.now) source in
    let new : Objects = handed c.run_load.new.watch (map (λ disk. (g.D.Disk.stands disk, g.D.Disk.faults disk)) c.run_load.new.disks.items) (g.K.Sink.got c.run_load.new.sink, g.K.Sink.faults c.run_load.new.sink) source in
    let r : Ran = ran_of c.run_load.result old new in
    let long : length c.args.disks.now.items ≡ c.args.disks.now.len = omega (arith, c.args.disks.now.ok.0) in
    let loaded : LoadsStore g.D.Disk.tells name c.in-Some.asked.shape c.in-Load.seed c.in-Load.writers c.from.result r
    = c.a_done_load_leaves_its_store.ensures name c.in-Some.asked.shape c.in-Load.seed c.in-Load.writers c.from.result r (c.run_load.ensures.loaded source) in
    called_of g.D.Disk.tells name words c.len.result r (handed_count (λ disk. (g.D.Disk.stands disk, g.D.Disk.faults disk)) c.args.disks.now.items ∙ long ∙ sym c.len.ensures) c.in-Some.asked (sym c.in-Some.ensures.exact)
    (subst (λ (t : Task). Does g.D.Disk.tells name c.in-Some.asked.shape t r) (sym c.in-Load.is)
    (subst (λ (n : ℕ). LoadsStore g.D.Disk.tells name c.in-Some.asked.shape c.in-Load.seed c.in-Load.writers n r) c.from.ensures loaded))
    (never_usage g.D.Disk.tells name c.in-Some.asked.shape c.in-Load.seed c.in-Load.writers c.from.result r loaded.loaded)
