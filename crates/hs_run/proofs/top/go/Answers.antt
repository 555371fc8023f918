use Rattle.std.proofs.Common.{◌∙◌, ap, length, map, refl, subst, sym}
use Rattle.std.specs.Prelude.{Err}
use Rattle.hs_cluster.specs.Disks.{DiskSeen, seen_as}
use Rattle.hs_core_words.specs.State.{Core}
use Rattle.hs_run.specs.Between.{Point}
use Rattle.hs_run.specs.Going.{Between, IsBetween, Opened, Unopened}
use Rattle.hs_run.proofs.CaseLemmas.{if_any}
use Rattle.hs_run.proofs.EndsLemmas.{ends_opening, ends_unread}
use Rattle.hs_run.proofs.ServeLemmas.{so_far_none}
use Rattle.hs_run.proofs.TopLemmas.{core_cached, gone_cached, opened_gone, opened_ok, opened_shown, ready_cached, ready_on, shown_cached}
use Rattle.hs_run.proofs.top.go.Goals as goal

-- ---- opening was not told whole, or did not come to its end

pub returns-in-Err-clause-runs : goal.returns-in-Err-clause-runs
returns-in-Err-clause-runs g c = λ b starts. Unopened c.in-Err.ensures.puts refl c.print_opening.ensures.cluster refl (c.print_opening.ensures.line ∙ c.requires.line) refl

pub returns-in-Err-clause-ends : goal.returns-in-Err-clause-ends
returns-in-Err-clause-ends g c = if_any _ _ (λ script told. ends_opening script _ c.args.did _ _ _ _ c.requires.outcome told (c.print_opening.ensures.line ∙ c.requires.line) refl c.in-Err.ensures.puts)

-- ---- there was no memory for a cache

pub returns-in-Err-use_cache-clause-runs : goal.returns-in-Err-use_cache-clause-runs
returns-in-Err-use_cache-clause-runs g c = λ b starts.
    let f : g.row.D.Denot → DiskSeen = λ disk. seen_as (g.D.Disk.size disk) (g.D.Disk.stands disk) (g.D.Disk.faults disk) in
    let mid : Point = record { now = c.print_opening.new.watch; cluster = c.use_cache.new.self.cluster; disks = map f c.args.disks.now; got = g.K.Sink.got c.print_opening.new.sink; line = c.use_cache.new.self.line } in
    let same = c.in-Err-use_cache.ensures.same ∙ c.print_opening.ensures.cluster in
    let gone = opened_gone g.D.Disk.tells b c.args.did _ mid _ same (c.use_cache.ensures.line ∙ c.print_opening.ensures.line ∙ c.requires.line) starts.opened starts.got refl c.in-Ok.ensures.puts in
    let shows = opened_shown g.D.Disk.tells b c.args.did _ mid _ same refl starts.opened refl c.in-Ok.ensures.puts in
    Opened mid (Between (so_far_none g.D.Disk.tells b _ mid gone shows) (subst (λ s. IsBetween (Err s)) (sym c.in-Err-use_cache.ensures.only) tt))

pub returns-in-Err-use_cache-clause-ends : goal.returns-in-Err-use_cache-clause-ends
returns-in-Err-use_cache-clause-ends g c = if_any _ _ (λ script told. ends_unread script _ c.in-Err-use_cache.stop _ told (c.use_cache.ensures.line ∙ c.print_opening.ensures.line ∙ c.requires.line) c.in-Err-use_cache.ensures.only)

-- ---- the script was run

pub serve-requires : goal.serve-requires
serve-requires g c = record {
  line = c.use_cache.ensures.line ∙ c.print_opening.ensures.line ∙ c.requires.line;
  held = c.new-reader.ensures.held;
  ended = c.new-reader.ensures.ended;
  cost = c.new-reader.ensures.cost;
  printed = c.use_cache.ensures.printed ∙ c.in-Ok.ensures.printed ∙ ap (λ (x : Core). length x.journal) (sym (core_cached _ _ c.in-Ok-use_cache.ensures.cached));
  ready = ready_cached g.D.Disk.tells _ _ c.in-Ok-use_cache.ensures.cached
      (ready_on g.D.Disk.tells _ (record { now = c.print_opening.new.watch; cluster = c.print_opening.new.self.cluster; disks = _; got = _; line = c.use_cache.new.self.line }) c.print_opening.ensures.cluster refl (c.use_cache.ensures.line ∙ c.print_opening.ensures.line) (c.in-Ok.ensures.puts.puts.late.later)
      (c.requires.ready (opened_ok c.args.did _ _ _ refl c.in-Ok.ensures.puts)));
}

pub returns-clause-runs : goal.returns-clause-runs
returns-clause-runs g c = λ b starts.
    let gone = opened_gone g.D.Disk.tells b c.args.did _ (record { now = c.print_opening.new.watch; cluster = c.print_opening.new.self.cluster; disks = _; got = _; line = c.use_cache.new.self.line }) _ c.print_opening.ensures.cluster (c.use_cache.ensures.line ∙ c.print_opening.ensures.line ∙ c.requires.line) starts.opened starts.got refl c.in-Ok.ensures.puts in
    let shows = opened_shown g.D.Disk.tells b c.args.did _ (record { now = c.print_opening.new.watch; cluster = c.print_opening.new.self.cluster; disks = _; got = _; line = c.use_cache.new.self.line }) _ c.print_opening.ensures.cluster refl starts.opened refl c.in-Ok.ensures.puts in
    Opened _ (c.serve.ensures.goes b starts.named (gone_cached b _ _ c.in-Ok-use_cache.ensures.cached gone) (shown_cached g.D.Disk.tells b _ _ c.in-Ok-use_cache.ensures.cached shows))
