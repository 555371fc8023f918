-- A source is taken to its end.
use Rattle.std.proofs.Common.{◌≡◌, ℕ, ◌+◌, ◌*◌, ◌<◌, ◌≤◌, List, [], ◌++◌, Option, Some, None, IfSome, refl, sym, ap, ◌∙◌, subst, length, arith, append-nil, append_assoc, length-append}
use Rattle.hs_asking.specs.Shown.{Shown}
use Rattle.hs_limits.specs.declared.address.Address.{Address}
use Rattle.hs_ports.specs.Source.{IsEnded, before}
use Rattle.hs_tree.proofs.NextLemmas.{taking_halts}
use Rattle.hs_tree.proofs.StopLemmas.{IsQuiet}
use Rattle.hs_tree.proofs.StoreLemmas.{ended, file-count, no_length}
use Rattle.hs_tree.specs.Calls.{HasGone, IsTakeFault}
use Rattle.hs_tree.specs.Storing.{HasGathered, HasHalted, HasTaken, IsGathered, IsTaking, IsUnderWay}
use Rattle.hs_tree.specs.declared.fault.TreeFault.{TreeFault}
use Rattle.hs_tree.specs.declared.fault.TreeFault.TheVariants as fault
use Rattle.hs_tree.specs.declared.grow.Node.{Node}

before-append : (xs ys : List ℕ) (left : Option (List ℕ)) → before (xs ++ ys) left ≡ before xs (before ys left)
before-append xs ys None = refl
before-append xs ys (Some rest) = ap (λ z. Some z) (append_assoc xs ys rest)

pub before_none : (left : Option (List ℕ)) → before [] left ≡ left
before_none None = refl
before_none (Some rest) = refl

-- a fault of a source comes of no asker
pub take_quiet : (m n : ℕ) (f : TreeFault) → IsTakeFault m n f → IsQuiet f
take_quiet m n (fault.Core core) h = absurd h
take_quiet m n fault.Read h = tt
take_quiet m n fault.InputFull h = absurd h
take_quiet m n (fault.Refused told) h = absurd h
take_quiet m n (fault.NotATree address) h = absurd h
take_quiet m n fault.NoMemory h = tt

-- so far, from a start
abbrev pub SoFar : {tells : Type 0} → (List ℕ → Address) → List ℕ → Shown tells → Shown tells → List Node → List Node → ℕ → Option (List ℕ) → Option (List ℕ) → Type 0
SoFar name session start now upper lower bytes left0 left = (file : List ℕ) × IsTaking name session start now upper lower file × (bytes ≡ length file) × (before file left ≡ left0)

module _ {tells : Type 0} (name : List ℕ → Address) (session : List ℕ) (start : Shown tells) where
  pub starts : (now : Shown tells) (upper lower : List Node) (left : Option (List ℕ)) → IsTaking name session start now upper lower [] → SoFar name session start now upper lower 0 left left
  starts now upper lower left t = ([], t, refl, before_none left)

  module _ (old new : Shown tells) (upper lower above below : List Node) (bytes taken : ℕ) (left0 left left' : Option (List ℕ)) (p : SoFar name session start old upper lower bytes left0 left) (short : bytes < 67108864) (h : HasTaken name session start new left left' above below p.0 taken) where
    count : bytes + taken ≡ length (p.0 ++ h.piece)
    count = let a : bytes ≡ length p.0 = p.2 in let b : taken ≡ length h.piece = h.counted in let c : length (p.0 ++ h.piece) ≡ length p.0 + length h.piece = length-append p.0 h.piece in omega (arith, a, b, c)

    room : bytes + taken ≤ 67108864
    room =
        let a : bytes ≡ length p.0 = p.2 in
        let c : length p.0 ≡ 4194304 * length p.1.gathering.tops + 65536 * length p.1.gathering.pieces = file-count name session start old upper lower p.0 p.1.gathering in
        let b : taken ≤ 65536 = h.bound in
        omega (arith, a, c, b, short)

    stream : before (p.0 ++ h.piece) left' ≡ left0
    stream = before-append p.0 h.piece left' ∙ (ap (λ z. before p.0 z) h.stream ∙ p.3)

    pub goes_on : 65536 ≤ taken → SoFar name session start new above below (bytes + taken) left0 left'
    goes_on full =
        let b : taken ≤ 65536 = h.bound in
        let piece_full : length h.piece ≡ 65536 = let e : taken ≡ length h.piece = h.counted in omega (arith, b, e, full) in
        let c = count in
        let r = room in
        (p.0 ++ h.piece, h.added.going_on piece_full (omega (arith, c, r)), count, stream)

    pub stops_here : taken < 65536 → HasGathered name session start new left0 left' above below (bytes + taken)
    stops_here less = record { file = p.0 ++ h.piece; counted = count; fits = (let c = count in let r = room in omega (arith, c, r)); stream = stream; ended = h.ended less; gathered = h.added.gathered }

  module _ (now : Shown tells) (upper lower : List Node) (bytes : ℕ) (left0 left : Option (List ℕ)) (p : SoFar name session start now upper lower bytes left0 left) (full : 67108864 ≤ bytes) where
    pub stops_full : (left' : Option (List ℕ)) → IsEnded left' → left' ≡ left → HasGathered name session start now left0 left' upper lower bytes
    stops_full left' e same =
        let a : bytes ≡ length p.0 = p.2 in
        record {
          file = p.0;
          counted = p.2;
          fits = p.1.fits;
          stream = ap (λ z. before p.0 z) same ∙ p.3;
          ended = e;
          gathered = subst (λ z. IsGathered name session start now upper lower z) (append-nil p.0) (ended name session start now upper lower p.0 p.1 (omega (arith, a, full)));
        }

    pub too_long : IfSome left (λ rest. 0 < length rest) → IfSome left0 (λ all. 67108864 < length all)
    too_long h = subst (λ z. IfSome z (λ all. 67108864 < length all)) p.3 (go left h)
      where
        go : (l : Option (List ℕ)) → IfSome l (λ rest. 0 < length rest) → IfSome (before p.0 l) (λ all. 67108864 < length all)
        go None h = tt
        go (Some rest) h =
            let a : bytes ≡ length p.0 = p.2 in
            let c : length (p.0 ++ rest) ≡ length p.0 + length rest = length-append p.0 rest in
            omega (arith, a, c, full, h)

  -- it stops behind what was taken so far
  pub halts_so_far : (key : List ℕ) (old new : Shown tells) (upper lower : List Node) (bytes : ℕ) (left0 left left' : Option (List ℕ)) (f : TreeFault) (p : SoFar name session start old upper lower bytes left0 left) → HasHalted name session key start new left left' p.0 f → HasHalted name session key start new left0 left' [] f
  halts_so_far key old new upper lower bytes left0 left left' f p h = record {
    more = p.0 ++ h.more;
    stream = before-append p.0 h.more left' ∙ (ap (λ z. before p.0 z) h.stream ∙ p.3);
    halted = h.halted;
  }

  pub taking_stops : (key : List ℕ) (now : Shown tells) (upper lower : List Node) (bytes : ℕ) (left0 left left' : Option (List ℕ)) (f : TreeFault) → IsQuiet f → HasGone left left' → (p : SoFar name session start now upper lower bytes left0 left) → HasHalted name session key start now left0 left' [] f
  taking_stops key now upper lower bytes left0 left left' f q gone p = halts_so_far key now now upper lower bytes left0 left left' f p (taking_halts name session key start now upper lower p.0 left left' f q gone p.1)

-- under way from somewhere
pub so_under_way : {tells : Type 0} → (name : List ℕ → Address) (session : List ℕ) (start now : Shown tells) (upper lower : List Node) (bytes : ℕ) (left0 left : Option (List ℕ)) → SoFar name session start now upper lower bytes left0 left → IsUnderWay name session now upper lower bytes
so_under_way name session start now upper lower bytes left0 left p = record { start = start; file = p.0; taking = p.1; counted = p.2 }

pub begun_at : {tells : Type 0} → (name : List ℕ → Address) (session : List ℕ) (now : Shown tells) (upper lower : List Node) (u : IsUnderWay name session now upper lower 0) → IsTaking name session u.start now upper lower []
begun_at name session now upper lower u = subst (λ z. IsTaking name session u.start now upper lower z) (no_length u.file (sym u.counted)) u.taking
