-- What a crash leaves of a side while its byte 0 is closed.
use Rattle.std.proofs.Common.{◌≡◌, ◌∙◌, ◌⊎◌, inl, inr, ℕ, ◌<◌, ◌≤◌, true, false, List, [], ◌∷◌, length, ap, sym, subst, arith}
use Rattle.std.proofs.lemmas.Bool.{cases_eq, false≢true}
use Rattle.hs_ports.specs.declared.disk.Side.{Side}
use Rattle.hs_ports.specs.Disk.{Standing, Loose, IsImage, IsOutside, byte_at, overwritten, settled, written}
use Rattle.hs_ports.specs.Moments.{EachMoment}
use Rattle.hs_ports.proofs.Images.{settled_only}
use Rattle.hs_ports.proofs.MomentLemmas.{begun, weaker}
use Rattle.hs_side.specs.Giving.{IsBlankEverywhere}
use Rattle.hs_peerlog.specs.Images.{GivesClosed}
use Rattle.hs_side.specs.Reading.{is_blank}
use Rattle.hs_side.proofs.BlankLemmas.{blank_or}

-- while byte 0 is written where it is an open gate, what is not blank could be left before
closed_image : (loose : Loose) (seen : List ℕ) → IsImage loose seen → (0 < length seen → byte_at seen 0 ≡ 165) → (content : List ℕ) → IsImage (written 0 1 loose) content → (is_blank content ≡ true) ⊎ IsImage loose content
closed_image loose seen here gate content image = elim (blank_or content) [
  | inl is ↦ inl is
  | inr like ↦ inr (record {
    no_shorter = image.no_shorter;
    no_longer = omega (arith, like.long, image.no_longer);
    kept = λ i low out. elim (cases_eq i 0) [
      | inl is ↦
          let low0 : 0 < loose.least = omega arith in
          let out0 : IsOutside loose.ranges 0 = subst (λ (k : ℕ). IsOutside loose.ranges k) is out in
          subst (λ (k : ℕ). byte_at content k ≡ byte_at loose.base k) (sym is) (like.gate ∙ sym (gate (omega (arith, here.no_shorter))) ∙ here.kept 0 low0 out0)
      | inr is ↦ image.kept i low (inr (omega arith), out)
    ];
  })
]

-- nothing was written
pub close_stays : (now : ℕ) (side : Side) (old new : Standing) → new ≡ old → old.last ≤ now → ((m : ℕ) → old.last < m → old.past m side ≡ old.loose side) → EachMoment now now side old new (GivesClosed (old.loose side))
close_stays now side old new same last since =
    subst (λ (d : Standing). EachMoment now now side old d (GivesClosed (old.loose side))) (sym same) (begun last since (λ content image. record { one = inr image }))

-- the gate of a side that is not blank is open
gate_open : (seen : List ℕ) → is_blank seen ≡ false → 0 < length seen → byte_at seen 0 ≡ 165
gate_open seen full long = elim (blank_or seen) [ inl blank ↦ absurd (false≢true (sym full ∙ blank)) | inr like ↦ like.gate ]

-- a byte of 0 is written there
pub close_writes : (before now : ℕ) (side : Side) (old mid new : Standing) → mid ≡ old → is_blank (old.seen side) ≡ false → IsImage (old.loose side) (old.seen side)
    → EachMoment before now side mid new (IsImage (written 0 1 (mid.loose side))) → EachMoment before now side old new (GivesClosed (old.loose side))
close_writes before now side old mid new same full stays run =
    let there : EachMoment before now side old new (IsImage (written 0 1 (old.loose side))) = subst (λ (d : Standing). EachMoment before now side d new (IsImage (written 0 1 (d.loose side)))) same run in
    weaker there (λ content image. record { one = closed_image (old.loose side) (old.seen side) stays (gate_open (old.seen side) full) content image })

-- and then it is blank
pub written_blank : (seen content : List ℕ) → content ≡ overwritten 0 (0 ∷ []) seen → is_blank content ≡ true
written_blank seen content same = elim (blank_or content) [ inl blank ↦ blank | inr like ↦ absurd (cc (sym like.gate ∙ ap (λ (c : List ℕ). byte_at c 0) same)) ]

pub close_blank : (loose : Loose) (seen : List ℕ) → loose ≡ settled (overwritten 0 (0 ∷ []) seen) → IsBlankEverywhere loose
close_blank loose seen is content image = written_blank seen content (settled_only (overwritten 0 (0 ∷ []) seen) content (subst (λ l. IsImage l content) is image))

-- a side that reads as blank, all of it on the medium
pub settled_blank : (loose : Loose) (seen : List ℕ) → loose ≡ settled seen → is_blank seen ≡ true → IsBlankEverywhere loose
settled_blank loose seen is blank content image = subst (λ c. is_blank c ≡ true) (sym (settled_only seen content (subst (λ l. IsImage l content) is image))) blank
