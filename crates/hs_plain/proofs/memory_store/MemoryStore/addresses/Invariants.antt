use Rattle.std.proofs.Common.{◌≡◌, map, take}
use Rattle.hs_model.specs.Judge.{address_of}
use Rattle.hs_plain.proofs.memory_store.MemoryStore.addresses.Given as goal

-- the addresses of the handles so far
abbrev pub invariant-loop-handle : goal.invariant-loop-handle
invariant-loop-handle l = l.addresses ≡ map (λ handle. address_of l.self l.session handle) (take l.handle-index l.handles)
