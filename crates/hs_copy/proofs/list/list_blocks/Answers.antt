use Rattle.std.proofs.lemmas.Result.{err_from_is_err_and}
use Rattle.std.proofs.lemmas.Option.{slice_get_read}
use Rattle.std.proofs.Common.{◌≡◌, ◌+◌, ◌<◌, ◌≤◌, Some, arith, get_or, length, refl, rules, slice_get}
use Rattle.hs_copy.proofs.AllLemmas.{lists_all, lists_begun, lists_more}
use Rattle.hs_copy.proofs.FailLemmas.{begun_fails, more_fails}
use Rattle.hs_copy.proofs.ListLemmas.{done_stop, listed_few, reads_none, reads_one_more, reads_then, stops_then}
use Rattle.hs_copy.proofs.list.list_blocks.Goals as goal

pub returns-in_err-number_one-clause-stops : goal.returns-in_err-number_one-clause-stops
returns-in_err-number_one-clause-stops g c =
    let p = err_from_is_err_and c.from_residual.result c.from_residual.ensures.1 in
    rw (p.1, p.2) (stops_then (g.B.Asker.shows c.args.asker.now) (g.B.Asker.shows c.args.asker.now) (g.B.Asker.shows c.number_one.new.asker) 0 0 4000 c.in_err-number_one.field-0.0 (reads_none (g.B.Asker.shows c.args.asker.now) c.requires.going) (omega arith) c.in_err-number_one.ensures.stops)

pub returns-in_err-block-clause-stops : goal.returns-in_err-block-clause-stops
returns-in_err-block-clause-stops g c =
    let p = err_from_is_err_and c.from_residual-in_err-block.result c.from_residual-in_err-block.ensures.1 in
    let room : length c.blocks-2.listed.items + 1 ≤ 4000 = search rules in
    rw (p.1, p.2) (stops_then (g.B.Asker.shows c.args.asker.now) (g.B.Asker.shows c.blocks-2.asker) (g.B.Asker.shows c.read_one.new.asker) (length c.blocks-2.listed.items) 1 4000 c.in_err-block.field-0.0 c.blocks-2.invariant.reads room c.in_err-block.ensures.stops)

pub returns-in_err-push_to-clause-stops : goal.returns-in_err-push_to-clause-stops
returns-in_err-push_to-clause-stops g c =
    let p = err_from_is_err_and c.from_residual-in_err-push_to.result c.from_residual-in_err-push_to.ensures.1 in
    let room : length c.blocks-2.listed.items + 1 ≤ 4000 = search rules in
    rw (p.1, p.2) (done_stop (g.B.Asker.shows c.args.asker.now) (g.B.Asker.shows c.read_one.new.asker) (length c.blocks-2.listed.items + 1) 4000 room (reads_then (g.B.Asker.shows c.args.asker.now) (g.B.Asker.shows c.blocks-2.asker) (g.B.Asker.shows c.read_one.new.asker) (length c.blocks-2.listed.items) 1 c.blocks-2.invariant.reads c.in_ok-block.ensures.reads))

pub blocks-2-preserved : goal.blocks-2-preserved
blocks-2-preserved g c =
    let room : length c.blocks-2.listed.items + 1 ≤ 4000 = search rules in
    let within : length c.blocks-2.listed.items < length c.blocks-2.found.items = search rules in
    let got : c.index.result.now ≡ get_or c.blocks-2.found.items (length c.blocks-2.listed.items) c.index.result.now = search rules in
    let at : slice_get c.blocks-2.found.items (length c.blocks-2.listed.items) ≡ Some c.index.result.now = slice_get_read c.blocks-2.found.items (length c.blocks-2.found.items) (length c.blocks-2.listed.items) c.index.result.now refl within got in
    record {
      reads = reads_one_more (g.B.Asker.shows c.args.asker.now) (g.B.Asker.shows c.blocks-2.asker) (g.B.Asker.shows c.read_one.new.asker) 0 c.blocks-2.listed.items c.push_to.new.items.items c.in_ok-block.block c.in_ok-push_to.ensures.ok c.blocks-2.invariant.reads c.in_ok-block.ensures.reads;
      found = c.in_ok-block.ensures.few c.blocks-2.invariant.found;
      few = listed_few c.blocks-2.listed.items c.push_to.new.items.items c.in_ok-block.block c.in_ok-push_to.ensures.ok room;
      listing = lists_more (g.B.Asker.shows c.args.asker.now) (g.B.Asker.shows c.blocks-2.asker) (g.B.Asker.shows c.read_one.new.asker) c.args.handle c.index.result.now.handle c.blocks-2.numbers.entries c.read_one.new.numbers.entries c.blocks-2.found.items c.read_one.new.found.items c.blocks-2.listed.items c.push_to.new.items.items c.in_ok-block.block c.index.result.now c.blocks-2.invariant.reads.began c.blocks-2.invariant.found at refl c.blocks-2.invariant.listing c.in_ok-block.ensures.one c.in_ok-push_to.ensures.ok;
    }

pub returns-in_err-number_one-clause-fails : goal.returns-in_err-number_one-clause-fails
returns-in_err-number_one-clause-fails g c =
    let p = err_from_is_err_and c.from_residual.result c.from_residual.ensures.1 in
    rw (p.1, p.2) (begun_fails (g.B.Asker.shows c.args.asker.now) c.args.handle _ _ c.in_err-number_one.field-0.0 c.new-numbers.ensures.empty c.new-found.ensures.items c.in_err-number_one.ensures.fails)

pub returns-in_err-block-clause-fails : goal.returns-in_err-block-clause-fails
returns-in_err-block-clause-fails g c =
    let p = err_from_is_err_and c.from_residual-in_err-block.result c.from_residual-in_err-block.ensures.1 in
    let within : length c.blocks-2.listed.items < length c.blocks-2.found.items = search rules in
    let got : c.index.result.now ≡ get_or c.blocks-2.found.items (length c.blocks-2.listed.items) c.index.result.now = search rules in
    let at : slice_get c.blocks-2.found.items (length c.blocks-2.listed.items) ≡ Some c.index.result.now = slice_get_read c.blocks-2.found.items (length c.blocks-2.found.items) (length c.blocks-2.listed.items) c.index.result.now refl within got in
    rw (p.1, p.2) (more_fails (g.B.Asker.shows c.args.asker.now) (g.B.Asker.shows c.blocks-2.asker) c.args.handle c.index.result.now.handle (length c.blocks-2.listed.items) c.blocks-2.numbers.entries c.blocks-2.found.items c.blocks-2.listed.items c.index.result.now c.in_err-block.field-0.0 c.blocks-2.invariant.found at refl c.blocks-2.invariant.reads c.blocks-2.invariant.listing c.in_err-block.ensures.fails)

pub blocks-2-init : goal.blocks-2-init
blocks-2-init g c = record {
  reads = search rules;
  found = search rules;
  few = search rules;
  listing = lists_begun (g.B.Asker.shows c.args.asker.now) (g.B.Asker.shows c.number_one.new.asker) c.args.handle _ c.number_one.new.numbers.entries _ c.number_one.new.found.items _ c.in_ok-number_one.field-0 c.new-numbers.ensures.empty c.new-found.ensures.items c.new-listed.ensures.items c.in_ok-number_one.ensures.numbers;
}

pub returns-clause-all : goal.returns-clause-all
returns-clause-all g c =
    let most : length c.blocks-2.found.items ≤ length c.blocks-2.listed.items = search rules in
    lists_all (g.B.Asker.shows c.args.asker.now) (g.B.Asker.shows c.blocks-2.asker) c.args.handle c.blocks-2.numbers.entries c.blocks-2.found.items c.blocks-2.listed.items most c.blocks-2.invariant.listing
