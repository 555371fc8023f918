-- The next piece of a file, behind a run that is closed first where it is whole.
use Rattle.std.proofs.Common.{◌≡◌, ℕ, ◌+◌, ◌*◌, ◌<◌, ◌≤◌, List, [], ◌++◌, Option, Result, Ok, Err, IfErr, OnOk, refl, sym, ap, ◌∙◌, subst, length, arith, append-nil, ◌∷◌}
use Rattle.std.specs.List.{concat, flat_map}
use Rattle.hs_asking.specs.Shown.{Shown}
use Rattle.hs_limits.specs.Block.{Block}
use Rattle.hs_limits.specs.declared.address.Address.{Address}
use Rattle.hs_ports.specs.Source.{IsEnded, before}
use Rattle.hs_tree.proofs.FrontLemmas.{front_adding, front_closing, front_taking}
use Rattle.hs_tree.proofs.PartLemmas.{grown_named}
use Rattle.hs_tree.proofs.RunsLemmas.{full_cut, length-full, runs-concat, span-0}
use Rattle.hs_tree.proofs.StopLemmas.{IsQuiet, halts_quietly, halts_within}
use Rattle.hs_tree.proofs.StoreLemmas.{added, closed, ended, fitting, no_length, places-count}
use Rattle.hs_tree.specs.Growing.{IsHalted, IsNamedBy, Place, as_writes, piece_at, places_at, run_at, tree_below}
use Rattle.hs_tree.specs.Calls.{HasGone}
use Rattle.hs_tree.specs.Steps.{AddsPiece, CloseStops, ClosesRun, IsRun, Stops}
use Rattle.hs_tree.specs.Storing.{HasAdded, HasHalted, HasTaken, IsGathering, IsTaking, IsUnderWay}
use Rattle.hs_tree.specs.Trees.{runs, stored_cut, tree_of}
use Rattle.hs_tree.specs.declared.fault.TreeFault.{TreeFault}
use Rattle.hs_tree.specs.declared.grow.Node.{Node}

-- from every start from which a file is being taken
abbrev pub Always : {tells : Type 0} → (List ℕ → Address) → List ℕ → Shown tells → List Node → List Node → ℕ → (Shown tells → List ℕ → Type 0) → Type 0
Always {tells} name session old upper lower bytes P = (start : Shown tells) (file : List ℕ) → IsTaking name session start old upper lower file → bytes ≡ length file → P start file

abbrev pub AddStops : {tells : Type 0} → (List ℕ → Address) → List ℕ → Shown tells → Shown tells → List Node → List Node → ℕ → List ℕ → TreeFault → Type 0
AddStops {tells} name session old new upper lower bytes piece f = (key : List ℕ) (start : Shown tells) (file : List ℕ) → IsTaking name session start old upper lower file → bytes ≡ length file → IsHalted name session key start new (tree_of stored_cut name (file ++ piece)) f

abbrev pub TakeStops : {tells : Type 0} → (List ℕ → Address) → List ℕ → Shown tells → Shown tells → List Node → List Node → ℕ → Option (List ℕ) → Option (List ℕ) → TreeFault → Type 0
TakeStops {tells} name session old new upper lower bytes left left' f = (key : List ℕ) (start : Shown tells) (file : List ℕ) → IsTaking name session start old upper lower file → bytes ≡ length file → HasHalted name session key start new left left' file f

on_both : {T : Type 0} {P Q R : Type 0} (r : Result T TreeFault) → (P → Q → R) → OnOk r P → OnOk r Q → OnOk r R
on_both (Ok x) f h k = f h k
on_both (Err e) f h k = tt

if_weaker : {T : Type 0} (P Q : TreeFault → Type 0) (r : Result T TreeFault) → ((f : TreeFault) → P f → Q f) → IfErr r P → IfErr r Q
if_weaker P Q (Ok x) f h = tt
if_weaker P Q (Err e) f h = f e h

-- it stops while bytes are taken
pub taking_halts : {tells : Type 0} (name : List ℕ → Address) (session key : List ℕ) (start now : Shown tells) (upper lower : List Node) (file : List ℕ) (left left' : Option (List ℕ)) (f : TreeFault) → IsQuiet f → HasGone left left' → IsTaking name session start now upper lower file → HasHalted name session key start now left left' file f
taking_halts name session key start now upper lower file left left' f q gone t =
    let g = t.gathering in
    let places : List Place = places_at 1 g.tops ++ places_at 0 g.pieces in
    let written : List Block = flat_map (tree_below name) places in
    record {
      more = gone.piece;
      stream = gone.stream;
      halted = halts_within name session key start now written (tree_of stored_cut name (file ++ gone.piece)) f (front_taking name session start now upper lower file g gone.piece)
          (halts_quietly name session key start now (upper ++ lower) [] [] written places written f q g.grown [] (append-nil (as_writes name written)));
    }

module _ {tells : Type 0} (name : List ℕ → Address) (session : List ℕ) (old : Shown tells) (upper lower : List Node) (bytes : ℕ) where
  pub under_named : IsUnderWay name session old upper lower bytes → IsNamedBy name session old lower
  under_named u = grown_named name session u.start old upper lower (places_at 1 u.taking.gathering.tops ++ places_at 0 u.taking.gathering.pieces) u.taking.gathering.grown

  -- a run is open
  module _ (new : Shown tells) (after : List Node) (piece : List ℕ) (room_left : length lower < 64) (short : length piece ≤ 65536) (some : length piece ≡ 0 → bytes ≡ 0) where
    pub added_ok : {T : Type 0} (r : Result T TreeFault) → OnOk r (AddsPiece name session old new piece lower after) → OnOk r (length after ≡ length lower + 1) → OnOk r (Always name session old upper lower bytes (λ start file. HasAdded name session start new upper after file piece))
    added_ok r h k = on_both r (λ adds one start file t counted. added name session start old new upper lower after file piece t.gathering t.fits room_left short (λ e. no_length file (sym counted ∙ some e)) adds one) h k

    pub stopped_ok : {T : Type 0} (r : Result T TreeFault) → IfErr r (λ f. Stops name session old new piece lower f) → IfErr r (λ f. AddStops name session old new upper lower bytes piece f)
    stopped_ok r h = if_weaker (λ f. Stops name session old new piece lower f) (λ f. AddStops name session old new upper lower bytes piece f) r (λ f s key start file t counted.
        let g = t.gathering in
        let pieces : length lower ≡ length g.pieces = g.lowers in
        let places : List Place = places_at 1 g.tops ++ places_at 0 g.pieces in
        halts_within name session key start new (flat_map (tree_below name) (places ++ piece_at piece ∷ [])) (tree_of stored_cut name (file ++ piece)) f
        (front_adding name session start old upper lower file g piece (omega (arith, pieces, room_left)) short (λ e. sym counted ∙ some e))
        (s key start upper places (fitting name session start old upper lower file g t.fits) g.grown)) h

  -- the run is whole
  module _ (full : 64 ≤ length lower) where
    is_full : (start : Shown tells) (file : List ℕ) (g : IsGathering name session start old upper lower file) → length lower ≡ 64
    is_full start file g = let l : length lower ≡ length g.pieces = g.lowers in let f : length g.pieces ≤ 64 = g.few in omega (arith, l, f, full)

    whole_run : (start : Shown tells) (file : List ℕ) (g : IsGathering name session start old upper lower file) → IsRun upper (places_at 1 g.tops) 0 g.pieces 4194304
    whole_run start file g =
        let pieces_are : length g.pieces ≡ 64 = sym g.lowers ∙ is_full start file g in
        let p : length (concat g.pieces) ≡ 65536 * length g.pieces = length-full 65536 g.pieces g.full_pieces in
        record {
          counted = g.uppers ∙ sym (places-count 1 g.tops);
          cut = ap (λ n. runs n (concat g.pieces)) span-0 ∙ runs-concat 65536 g.pieces (omega arith) (full_cut 65536 g.pieces (omega arith) g.full_pieces);
          below = omega (arith, p, pieces_are);
        }

    pub close_stopped : (new : Shown tells) (piece : List ℕ) (f : TreeFault) → CloseStops name session old new 4194304 lower upper f → AddStops name session old new upper lower bytes piece f
    close_stopped new piece f h key start file t counted =
        let g = t.gathering in
        halts_within name session key start new (flat_map (tree_below name) (places_at 1 g.tops ++ run_at 0 g.pieces ∷ [])) (tree_of stored_cut name (file ++ piece)) f
        (front_closing name session start old upper lower file g piece (sym g.lowers ∙ is_full start file g))
        (h key start (places_at 1 g.tops) 0 g.pieces (whole_run start file g) (fitting name session start old upper lower file g t.fits).room g.grown)

    module _ (mid : Shown tells) (above : List Node) (closes : ClosesRun name session old mid 4194304 lower upper above) (one : length above ≡ length upper + 1) where
      closed_here : (start : Shown tells) (file : List ℕ) → IsTaking name session start old upper lower file → IsGathering name session start mid above [] file
      closed_here start file t = closed name session start old mid upper lower above file t.gathering t.fits (is_full start file t.gathering) closes one

      pub closed_named : IsUnderWay name session old upper lower bytes → IsNamedBy name session mid []
      closed_named u = let g = closed_here u.start u.file u.taking in grown_named name session u.start mid above [] (places_at 1 g.tops ++ places_at 0 g.pieces) g.grown

      module _ (below : List Node) (none : below ≡ []) (new : Shown tells) (after : List Node) (piece : List ℕ) (short : length piece ≤ 65536) (some : length piece ≡ 0 → bytes ≡ 0) where
        pub added_closed : {T : Type 0} (r : Result T TreeFault) → OnOk r (AddsPiece name session mid new piece below after) → OnOk r (length after ≡ length below + 1) → OnOk r (Always name session old upper lower bytes (λ start file. HasAdded name session start new above after file piece))
        added_closed r h k = on_both r (λ adds more start file t counted.
            let g : IsGathering name session start mid above below file = subst (λ z. IsGathering name session start mid above z file) (sym none) (closed_here start file t) in
            let empty : length below ≡ 0 = ap (λ z. length z) none in
            added name session start mid new above below after file piece g t.fits (omega (arith, empty)) short (λ e. no_length file (sym counted ∙ some e)) adds more) h k

        pub stopped_closed : {T : Type 0} (r : Result T TreeFault) → IfErr r (λ f. Stops name session mid new piece below f) → IfErr r (λ f. AddStops name session old new upper lower bytes piece f)
        stopped_closed r h = if_weaker (λ f. Stops name session mid new piece below f) (λ f. AddStops name session old new upper lower bytes piece f) r (λ f s key start file t counted.
            let g : IsGathering name session start mid above below file = subst (λ z. IsGathering name session start mid above z file) (sym none) (closed_here start file t) in
            let pieces : length below ≡ length g.pieces = g.lowers in
            let empty : length below ≡ 0 = ap (λ z. length z) none in
            let places : List Place = places_at 1 g.tops ++ places_at 0 g.pieces in
            halts_within name session key start new (flat_map (tree_below name) (places ++ piece_at piece ∷ [])) (tree_of stored_cut name (file ++ piece)) f
            (front_adding name session start mid above below file g piece (omega (arith, pieces, empty)) short (λ e. sym counted ∙ some e))
            (s key start above places (fitting name session start mid above below file g t.fits) g.grown)) h

  -- ---- taking

  pub taken_nothing : (left left' : Option (List ℕ)) (piece : List ℕ) → length piece ≡ 0 → before piece left' ≡ left → (length piece < 65536 → IsEnded left') → 0 < bytes → Always name session old upper lower bytes (λ start file. HasTaken name session start old left left' upper lower file 0)
  taken_nothing left left' piece none stream end p start file t counted =
      let empty : piece ≡ [] = no_length piece none in
      record {
        piece = [];
        counted = refl;
        stream = subst (λ z. before z left' ≡ left) empty stream;
        bound = omega arith;
        added = record { gathered = ended name session start old upper lower file t (omega (arith, counted, p)); going_on = λ e. absurd (omega (arith, e)) };
        ended = λ h. end (omega (arith, none));
      }

  pub taken_piece : (new : Shown tells) (left left' : Option (List ℕ)) (piece : List ℕ) (above below : List Node) (taken : ℕ) → taken ≡ length piece → length piece ≤ 65536 → before piece left' ≡ left → (length piece < 65536 → IsEnded left') → Always name session old upper lower bytes (λ start file. HasAdded name session start new above below file piece) → Always name session old upper lower bytes (λ start file. HasTaken name session start new left left' above below file taken)
  taken_piece new left left' piece above below taken e bound stream end adds start file t counted = record {
    piece = piece;
    counted = e;
    stream = stream;
    bound = omega (arith, e, bound);
    added = adds start file t counted;
    ended = λ h. end (omega (arith, e, h));
  }

  pub taking_stopped : (left left' : Option (List ℕ)) (f : TreeFault) → IsQuiet f → HasGone left left' → TakeStops name session old old upper lower bytes left left' f
  taking_stopped left left' f q gone key start file t counted = taking_halts name session key start old upper lower file left left' f q gone t

  -- a piece that was taken is not added
  pub piece_stopped : (new : Shown tells) (left left' : Option (List ℕ)) (piece : List ℕ) (f : TreeFault) → before piece left' ≡ left → AddStops name session old new upper lower bytes piece f → TakeStops name session old new upper lower bytes left left' f
  piece_stopped new left left' piece f stream h key start file t counted = record { more = piece; stream = stream; halted = h key start file t counted }
