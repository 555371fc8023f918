-- Each naming gives addresses of 32 bytes.
use Rattle.std.specs.Prelude.{ℕ, ◌+◌, ◌-◌, ◌≡◌, List, ◌++◌, length, drop, replicate}
use Rattle.std.proofs.Common.{arith}
use Rattle.std.proofs.lemmas.List.{length-append, length-drop, length-replicate}
use Rattle.sha2.proofs.Facts256.{length-sha256}
use Rattle.hs_block.specs.Names.{sha_name, tail_name}

pub sha_names_are_sized : (bytes : List ℕ) → length (sha_name bytes).0 ≡ 32
sha_names_are_sized bytes = length-sha256 bytes

pub tail_names_are_sized : (bytes : List ℕ) → length (tail_name bytes).0 ≡ 32
tail_names_are_sized bytes =
    let none : List ℕ = replicate (32 - length bytes) 0 in
    let last : List ℕ = drop (length bytes - 32) bytes in
    let zeros : length none ≡ 32 - length bytes = length-replicate (32 - length bytes) 0 in
    let rest : length last ≡ length bytes - (length bytes - 32) = length-drop (length bytes - 32) bytes in
    let parts : length (none ++ last) ≡ length none + length last = length-append none last in
    omega (arith, parts, zeros, rest)
