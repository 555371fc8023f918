use Rattle.std.proofs.Common.{◌≡◌, ◌∙◌, ◌+◌, ◌-◌, ℕ, Ok, slice_index, ap, sym, arith}
use Rattle.hs_entry.specs.Reading.{entry_at}
use Rattle.hs_side.specs.Opening.{ReadsAt}
use Rattle.hs_peerlog.specs.Lists.{numbered_entry}
use Rattle.hs_peerlog.proofs.PlaceLemmas.{found-is, frame-at, memory_is_outside, none-is, none-there, payload-is, place-is, some-there}
use Rattle.hs_peerlog.proofs.read.entry_of.Goals as goal

pub returns-in_default-clause-found : goal.returns-in_default-clause-found
returns-in_default-clause-found g c = λ told list has numbered.
    sym (none-there c.args.log.now.places _ list c.args.number has numbered (c.place_of.ensures.none (none-is c.place_of.result c.in_default.not-Some)))

pub returns-clause-found : goal.returns-clause-found
returns-clause-found g c = λ told list has numbered.
    let seen = (g.D.Disk.stands c.args.disk.now).seen c.args.log.now.side in
    let index : ℕ = c.args.number - 1 in
    let some = c.in-Some.ensures.some in
    let number : index + 1 ≡ c.args.number = omega (arith, some.0) in
    let there = some-there c.args.log.now.places seen list index has some.1 in
    let f = frame-at c.args.log.now.places seen list index there numbered some.1 in
    let found : ReadsAt seen (slice_index c.args.log.now.places index) c.new-payload.result.items c.read.new.out.items = rw some.2 at (c.in-Ok.ensures.found told) in
    let read : entry_at c.in-Ok-from_vec.bytes ≡ Ok (c.args.number, f.frame.entry) =
    ap (λ bytes. entry_at bytes) c.in-Ok-from_vec.ensures ∙ payload-is c.args.log.now.places seen list index there f c.new-payload.result.items c.read.new.out.items c.new-payload.ensures.items found ∙ ap (λ n. Ok (n, f.frame.entry)) number in
    found-is c.entry_in.result f.frame.entry _ (sym (ap (λ n. numbered_entry list n) number) ∙ f.found) (c.entry_in.ensures.value f.frame.entry read)

pub returns-clause-refused : goal.returns-clause-refused
returns-clause-refused g c = λ told list has numbered.
    let seen = (g.D.Disk.stands c.args.disk.now).seen c.args.log.now.side in
    let index : ℕ = c.args.number - 1 in
    let some = c.in-Some.ensures.some in
    let number : index + 1 ≡ c.args.number = omega (arith, some.0) in
    let there = some-there c.args.log.now.places seen list index has some.1 in
    let f = frame-at c.args.log.now.places seen list index there numbered some.1 in
    let found : ReadsAt seen (slice_index c.args.log.now.places index) c.new-payload.result.items c.read.new.out.items = rw some.2 at (c.in-Ok.ensures.found told) in
    let read : entry_at c.in-Ok-from_vec.bytes ≡ Ok (c.args.number, f.frame.entry) =
    ap (λ bytes. entry_at bytes) c.in-Ok-from_vec.ensures ∙ payload-is c.args.log.now.places seen list index there f c.new-payload.result.items c.read.new.out.items c.new-payload.ensures.items found ∙ ap (λ n. Ok (n, f.frame.entry)) number in
    memory_is_outside c.entry_in.result (c.entry_in.ensures.refused f.frame.entry read)

pub returns-clause-place : goal.returns-clause-place
returns-clause-place g c = place-is c.entry_in.result c.in-Some.place c.args.number c.args.log.now.places c.in-Some.ensures.some.2 c.entry_in.ensures.place
