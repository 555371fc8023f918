-- The header of the side in use, while an entry is appended and sealed.
use Rattle.std.proofs.Common.{◌≡◌, ◌∙◌, inl, inr, ℕ, ◌≤◌, List, [], ◌∷◌, ◌++◌, ap, sym, subst}
use Rattle.hs_ports.specs.declared.disk.Side.{Side}
use Rattle.hs_ports.specs.Disk.{Standing, IsImage, other_side}
use Rattle.hs_ports.specs.Moments.{EachMoment}
use Rattle.hs_entry.specs.declared.entry.Entry.{Entry}
use Rattle.hs_side.specs.declared.header.Header.{Header}
use Rattle.hs_side.specs.Current.{generation_in}
use Rattle.hs_side.specs.Giving.{GivesEither, GivesSame}
use Rattle.hs_side.specs.Reading.{Frame, log_of, with_frame}
use Rattle.hs_side.specs.Standing.{opened}
use Rattle.hs_peerlog.specs.Heads.{IsBlankOrOf, KeepsHeader, LeavesHeader}
use Rattle.hs_peerlog.specs.Images.{IsSole}
use Rattle.hs_peerlog.specs.Lists.{HasList}
use Rattle.hs_peerlog.specs.Steps.{current_bytes}
use Rattle.hs_peerlog.proofs.HeaderLemmas.{headed-log, log-headed, same-headed}
use Rattle.hs_peerlog.proofs.ImageLemmas.{Since, frame-generation, same-generation}
use Rattle.hs_peerlog.proofs.ShownLemmas.{one-shown, shown-header}
use Rattle.hs_peerlog.proofs.SoleLemmas.{sole-stays}

module _ {side : Side} {old : Standing} (places : List ℕ) (list : List (ℕ × Entry)) (has : HasList places (old.seen side) list) (sole : IsSole side old) (stays : (s : Side) → IsImage (old.loose s) (old.seen s)) (header : Header)
    (headed : LeavesHeader old header) where
  -- what the side reads as has the header
  log-own : has.log.header ≡ header
  log-own = headed-log header (old.seen side) has.log (subst (λ (s : Side). IsBlankOrOf header (old.seen s)) (sole old.seen (record { sides = stays })) (headed old.seen (record { sides = stays }))) has.read

  -- a content with the generation of the side, and the header
  pub record Keeps (content : List ℕ) : Type 0 where
    pub same : generation_in content ≡ generation_in (old.seen side)
    pub own : IsBlankOrOf header content

  same-kept : (content : List ℕ) → log_of content ≡ log_of (old.seen side) → Keeps content
  same-kept content same = record { same = same-generation (old.seen side) content has.log has.read same; own = same-headed header (old.seen side) content has.log has.read log-own same }

  more-kept : (content : List ℕ) (frame : Frame) → log_of content ≡ with_frame frame (log_of (old.seen side)) → Keeps content
  more-kept content frame more = record {
    same = frame-generation (old.seen side) content has.log frame has.read more;
    own = subst (λ (h : Header). IsBlankOrOf h content) log-own (log-headed content (record has.log { frames = has.log.frames ++ frame ∷ [] }) (more ∙ ap (λ r. with_frame frame r) has.read));
  }

  module _ {before now : ℕ} {new : Standing} (last : old.last ≤ before) (since : Since old) where
    -- calls on the side that leave such contents
    side-header : {P : List ℕ → Type 0} → EachMoment before now side old new P → ((content : List ℕ) → P content → Keeps content) → KeepsHeader before new header
    side-header {P} run gives = shown-header (one-shown run last since given)
      where
        given : (image : Side → List ℕ) → P (image side) → IsImage (old.loose (other_side side)) (image (other_side side)) → IsBlankOrOf header (current_bytes image)
        given image p left = let what = gives (image side) p in subst (λ (s : Side). IsBlankOrOf header (image s)) (sym (sole-stays side old sole (stays side) image what.same left)) what.own

    pub append-header : EachMoment before now side old new (GivesSame (old.seen side)) → KeepsHeader before new header
    append-header run = side-header run (λ content g. same-kept content g.same)

    pub seal-header : (end : ℕ) (frame : Frame) → log_of (opened end (old.seen side)) ≡ with_frame frame (log_of (old.seen side)) → EachMoment before now side old new (GivesEither (old.seen side) (opened end (old.seen side))) → KeepsHeader before new header
    seal-header end frame opens run = side-header run (λ content g. elim g.one [ inl e ↦ same-kept content e | inr e ↦ more-kept content frame (e ∙ opens) ])
