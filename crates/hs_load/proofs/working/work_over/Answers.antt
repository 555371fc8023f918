use Rattle.std.proofs.Common.{◌≡◌, ◌<◌, length, vec_len, arith}
use Rattle.hs_load.proofs.JoinLemmas.{came_back}
use Rattle.hs_load.proofs.working.work_over.Goals as goal

pub returns : goal.returns
returns g c =
    let olds = c.args.elements.now in
    let news = c.all_work.new.elements in
    let same : length news.items ≡ length olds.items = let e = c.all_work.ensures.count in omega (arith, e, news.ok.0, olds.ok.0) in
    record {
      came = λ slots old now writers all.
          came_back g.D.Disk.tells g.D.Disk.size g.D.Disk.stands g.D.Disk.faults slots old now
          (record { name = g.A.Addresser.name c.args.naming.now; seed = c.args.seed; writers = writers; files = c.args.files }) olds.items news.items same all
          (λ k d low. c.all_work.ensures.each k d (omega (arith, low, olds.ok.0)));
    }
