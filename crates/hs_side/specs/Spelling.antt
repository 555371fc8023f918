-- How a log is spelled as bytes.
use Rattle.std.specs.Prelude.{◌≡◌, ℕ, ◌+◌, ◌^◌, ◌<◌, ◌≤◌, true, false, List, [], ◌∷◌, ◌++◌, length, drop, Some}
use Rattle.std.specs.List.{flat_map}
use Rattle.std.specs.Int.{w32, w64, to_be_bytes}
use Rattle.hs_side.specs.declared.frame.TheConstants.{MOST_PAYLOAD}
use Rattle.hs_side.specs.declared.header.Header.{Header}
use Rattle.hs_side.specs.Follow.{Follow, start, may_end}
use Rattle.hs_side.specs.Reading.{is_open, Found, found_in, Frame, Log}

-- the bytes before the first gate: byte 0, `HSL1`, version 1, the header, the generation
abbrev pub head : ℕ → Header → ℕ → List ℕ
head gate header generation =
    gate ∷ 0x48 ∷ 0x53 ∷ 0x4c ∷ 0x31 ∷ 1 ∷ header.shards ∷ header.copies ∷ header.peer
    ∷ to_be_bytes w64 generation

-- what stands behind a gate: the length in 4 bytes, and the payload
abbrev pub body : List ℕ → List ℕ
body payload = to_be_bytes w32 (length payload) ++ payload

-- a frame with an open gate
abbrev pub frame : List ℕ → List ℕ
frame payload = 0xa5 ∷ body payload

-- a side: its head, its sealed frames, the gate behind them, and what stands behind that
abbrev pub spelled : ℕ → Header → ℕ → List (List ℕ) → ℕ → List ℕ → List ℕ
spelled gate header generation payloads closing rest =
    head gate header generation ++ flat_map frame payloads ++ closing ∷ rest

-- the bytes 1 to 17 of a log without a frame
abbrev pub empty_back : Header → ℕ → List ℕ
empty_back header generation = drop 1 (head 0 header generation) ++ 0 ∷ []

-- these payloads make these frames from a place on, each of an entry that may come at its place, and
-- behind them this may follow
abbrev pub AreLaid : ℕ → Follow → List (List ℕ) → List Frame → Follow → Type 0
AreLaid at follow [] [] last = last ≡ follow
AreLaid at follow [] (placed ∷ found) last = ⊥
AreLaid at follow (payload ∷ payloads) [] last = ⊥
AreLaid at follow (payload ∷ payloads) (placed ∷ found) last =
    (x : Found) × (length payload ≤ MOST_PAYLOAD) × (found_in follow payload ≡ Some x)
    × (placed ≡ record { place = at; number = x.number; entry = x.entry })
    × AreLaid (at + 5 + length payload) x.follow payloads found last

-- the bytes spell this log: its head, its frames, and a closed gate where it may end
pub record IsSpelled (bytes : List ℕ) (log : Log) : Type 0 where
  pub payloads : List (List ℕ)
  pub last : Follow
  pub closing : ℕ
  pub rest : List ℕ
  pub is : bytes ≡ spelled 0xa5 log.header log.generation payloads closing rest
  pub fits : log.generation < 2 ^ 64
  pub laid : AreLaid 17 start payloads log.frames last
  pub ends : may_end last ≡ true
  pub closed : is_open closing ≡ false
