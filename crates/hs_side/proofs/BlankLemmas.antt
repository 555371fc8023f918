-- What a crash leaves of a blank side while an empty log is written.
use Rattle.std.proofs.Common.{◌≡◌, ◌∙◌, ◌⊎◌, inl, inr, ℕ, zero, suc, ◌-◌, ◌<◌, ◌≤◌, ◌^◌, max, Bool, true, false, cond, ltb, List, [], ◌∷◌, ◌++◌, length, get_or, take, drop, replicate, None, Some, Ok, refl, ap, sym, subst, arith, length-append}
use Rattle.std.proofs.lemmas.Bool.{cases_eq, eqb-true, ltb-false, le-ltb, false≢true}
use Rattle.std.proofs.lemmas.List.{get_or-take, get_or-drop, length-take-le, length-replicate}
use Rattle.hs_ports.specs.declared.disk.Side.{Side}
use Rattle.hs_ports.specs.Moments.{EachMoment}
use Rattle.hs_ports.proofs.MomentLemmas.{begun, weaker}
use Rattle.hs_ports.specs.Disk.{Standing, Loose, IsImage, IsOutside, byte_at, settled, written, shortened, overwritten}
use Rattle.hs_side.specs.declared.header.Header.{Header}
use Rattle.hs_side.specs.Follow.{start, followed}
use Rattle.hs_side.specs.Giving.{GivesEmpty, IsBlankEverywhere}
use Rattle.hs_side.specs.Reading.{is_open, is_blank, log_of}
use Rattle.hs_side.specs.Spelling.{empty_back}
use Rattle.hs_side.specs.Standing.{SideState, HasLog, Stands}
use Rattle.hs_side.proofs.AppendLemmas.{has_bytes}
use Rattle.hs_side.proofs.ReadLemmas.{Front_none, log_closed}
use Rattle.hs_side.proofs.CrashLemmas.{gate_image, settled_firm}

-- blank, or of 18 bytes and with an open gate at 0
pub record IsLogLike (content : List ℕ) : Type 0 where
  pub long : 18 ≤ length content
  pub gate : byte_at content 0 ≡ 165

pub blank_or : (content : List ℕ) → (is_blank content ≡ true) ⊎ IsLogLike content
blank_or content = go (ltb (length content) 18) refl (is_open (byte_at content 0)) refl
  where
    go : (a : Bool) → ltb (length content) 18 ≡ a → (b : Bool) → is_open (byte_at content 0) ≡ b → (cond a true (cond b false true) ≡ true) ⊎ IsLogLike content
    go true is b is' = inl refl
    go false is true is' = inr (record { long = ltb-false _ _ is; gate = eqb-true _ _ is' })
    go false is false is' = inl refl

-- such a content is not blank
pub not_blank : (content : List ℕ) → IsLogLike content → is_blank content ≡ true → ⊥
not_blank content like blank =
    let long : ltb (length content) 18 ≡ false = le-ltb _ _ like.long in
    false≢true (rw (long, like.gate) at blank)

-- a blank side gives none
pub blank_log : (content : List ℕ) → is_blank content ≡ true → log_of content ≡ Ok None
unfolding log_of
blank_log content blank = rw blank refl

-- a byte of 0 is written where there is none, or where it is an open gate
pub shut_blank :
    (loose : Loose) (seen : List ℕ) (n : ℕ) → n ≡ 1 → IsBlankEverywhere loose → IsImage loose seen → (0 < length seen → byte_at seen 0 ≡ 165) → IsBlankEverywhere (written 0 n loose)
shut_blank loose seen n one blank here gate content image = elim (blank_or content) [
  | inl is ↦ is
  | inr like ↦ absurd (not_blank content like (blank content (record {
    no_shorter = image.no_shorter;
    no_longer = omega (arith, like.long, image.no_longer);
    kept = λ i low out. elim (cases_eq i 0) [
      | inl is ↦
          let low0 : 0 < loose.least = omega arith in
          let out0 : IsOutside loose.ranges 0 = subst (λ (k : ℕ). IsOutside loose.ranges k) is out in
          subst (λ (k : ℕ). byte_at content k ≡ byte_at loose.base k) (sym is) (like.gate ∙ sym (gate (omega (arith, here.no_shorter))) ∙ here.kept 0 low0 out0)
      | inr is ↦ image.kept i low (inr (omega arith), out)
    ];
  })))
]

get_or_padded : (xs : List ℕ) (m i : ℕ) → get_or (xs ++ replicate m 0) i 0 ≡ get_or xs i 0
get_or_padded [] zero i = refl
get_or_padded [] (suc m) zero = refl
get_or_padded [] (suc m) (suc i) = get_or_padded [] m i
get_or_padded (x ∷ xs) m zero = refl
get_or_padded (x ∷ xs) m (suc i) = get_or_padded xs m i

-- a side is cut
pub cut_blank : (loose : Loose) (seen : List ℕ) (len : ℕ) → len ≡ 1 → IsBlankEverywhere loose → IsImage loose seen → IsBlankEverywhere (shortened len loose)
cut_blank loose seen len one blank here content image = elim (blank_or content) [
  | inl is ↦ is
  | inr like ↦
      let m : ℕ = max (length content) loose.least - 1 in
      let padded : List ℕ = drop 1 loose.base ++ replicate m 0 in
      let whole : List ℕ = 165 ∷ take m padded in
      let size : length (take m padded) ≡ m = length-take-le m padded (omega (arith, length-append (drop 1 loose.base) (replicate m 0), length-replicate {A = ℕ} m 0)) in
      let same : (i : ℕ) → i < loose.least → IsOutside loose.ranges i → byte_at whole i ≡ byte_at loose.base i = λ i. elim i as (λ k. k < loose.least → IsOutside loose.ranges k → byte_at whole k ≡ byte_at loose.base k) [
        | zero ↦ λ low out. sym like.gate ∙ image.kept 0 (omega arith) out
        | suc j ↦ λ low out.
            let inside : j < m = omega arith in
            get_or-take m padded j 0 inside ∙ get_or_padded (drop 1 loose.base) m j ∙ get_or-drop 1 loose.base j 0 ∙ ap (λ (k : ℕ). get_or loose.base k 0) (omega arith)
      ] in
      let is_image : IsImage loose whole = record {
        no_shorter = omega (arith, size, like.long);
        no_longer = omega (arith, size, like.long, image.no_longer, here.no_shorter, here.no_longer);
        kept = same;
      } in
      absurd (not_blank whole (record { long = omega (arith, size, like.long); gate = refl }) (blank whole is_image))
]

-- a closed gate at 0 that no write reaches
pub closed_blank : (seen : List ℕ) (n : ℕ) → 0 < length seen → is_open (byte_at seen 0) ≡ false → IsBlankEverywhere (written 1 n (settled seen))
closed_blank seen n some closed content image = elim (blank_or content) [
  | inl is ↦ is
  | inr like ↦
      let same : byte_at content 0 ≡ byte_at seen 0 = image.kept 0 some (inl (omega arith), tt) in
      absurd (false≢true (sym closed ∙ ap is_open (sym same ∙ like.gate)))
]

-- an empty log
pub empty_log : (header : Header) (generation : ℕ) → generation < 2 ^ 64 → log_of (165 ∷ empty_back header generation) ≡ Ok (Some (record { header = header; generation = generation; frames = [] }))
empty_log header generation fits = log_closed header generation [] [] start 0 [] fits Front_none refl refl

-- the gate at 0 is opened
pub gate_empty :
    (header : Header) (generation n : ℕ) (byte : ℕ) (content : List ℕ) → n ≡ 1 → generation < 2 ^ 64 → IsImage (written 0 n (settled (byte ∷ empty_back header generation))) content
    → GivesEmpty header generation content
gate_empty header generation n byte content one fits image =
    let is = gate_image 0 n (byte ∷ empty_back header generation) content (omega arith) one image in
    by (byte_at content 0) is refl
  where
    by : (gate : ℕ) → content ≡ gate ∷ empty_back header generation → byte_at content 0 ≡ gate → GivesEmpty header generation content
    by gate is there = elim (blank_or content) [
      | inl blank ↦ record { one = inl (blank_log content blank) }
      | inr like ↦
          let opens : gate ≡ 165 = sym there ∙ like.gate in
          record { one = inr (ap log_of (is ∙ ap (λ (g : ℕ). g ∷ empty_back header generation) opens) ∙ empty_log header generation fits) }
    ]

-- a value of an empty log, and the side that has it
pub empty_has :
    (log : SideState) (header : Header) (generation : ℕ) → log.head ≡ Some (header, generation) → log.places ≡ [] → log.end ≡ 17 → log.waiting ≡ None → generation < 2 ^ 64
    → HasLog 165 header generation log (165 ∷ empty_back header generation) (settled (165 ∷ empty_back header generation))
unfolding followed
empty_has log header generation head_is none end_is rests fits = record {
  bytes = [];
  found = [];
  follow = start;
  closing = 0;
  rest = [];
  front = Front_none;
  followed = refl;
  places = none;
  end = end_is;
  spelled = refl;
  fits = fits;
  closed = refl;
  ends = λ opens. refl;
  firm = settled_firm log.end (165 ∷ empty_back header generation) (omega arith);
  waits = rw rests refl;
}

-- a blank side to which nothing is done
pub blank_stays :
    (header : Header) (generation now : ℕ) (side : Side) (old new : Standing) → new ≡ old → IsBlankEverywhere (old.loose side) → old.last ≤ now → ((m : ℕ) → old.last < m → old.past m side ≡ old.loose side)
    → EachMoment now now side old new (GivesEmpty header generation)
blank_stays header generation now side old new same blank last since =
    subst (λ (d : Standing). EachMoment now now side old d (GivesEmpty header generation)) (sym same) (begun last since (λ content image. record { one = inl (blank_log content (blank content image)) }))

-- a blank side whose byte 0 is written
pub blank_shut :
    (header : Header) (generation before now : ℕ) (side : Side) (old mid new : Standing) → mid ≡ old → IsBlankEverywhere (old.loose side) → IsImage (old.loose side) (old.seen side)
    → (0 < length (old.seen side) → byte_at (old.seen side) 0 ≡ 165) → EachMoment before now side mid new (IsImage (written 0 1 (mid.loose side))) → EachMoment before now side old new (GivesEmpty header generation)
blank_shut header generation before now side old mid new same blank stays gate run =
    let there : EachMoment before now side old new (IsImage (written 0 1 (old.loose side))) = subst (λ (d : Standing). EachMoment before now side d new (IsImage (written 0 1 (d.loose side)))) same run in
    weaker there (λ content image. record { one = inl (blank_log content (shut_blank (old.loose side) (old.seen side) 1 refl blank stays gate content image)) })

-- behind the one byte of a side that was cut
pub behind_one : (header : Header) (generation : ℕ) (seen : List ℕ) → length seen ≡ 1 → overwritten 1 (empty_back header generation) seen ≡ byte_at seen 0 ∷ empty_back header generation
behind_one header generation [] one = absurd (omega arith)
behind_one header generation (byte ∷ []) one = refl
behind_one header generation (byte ∷ other ∷ seen) one = absurd (omega arith)

-- the head is written behind it
pub blank_head :
    (header : Header) (generation n before now : ℕ) (side : Side) (old new : Standing) → 0 < length (old.seen side) → is_open (byte_at (old.seen side) 0) ≡ false → old.loose side ≡ settled (old.seen side)
    → EachMoment before now side old new (IsImage (written 1 n (old.loose side))) → EachMoment before now side old new (GivesEmpty header generation)
blank_head header generation n before now side old new some closed still run =
    let there : EachMoment before now side old new (IsImage (written 1 n (settled (old.seen side)))) = subst (λ (l : Loose). EachMoment before now side old new (IsImage (written 1 n l))) still run in
    weaker there (λ content image. record { one = inl (blank_log content (closed_blank (old.seen side) n some closed content image)) })

-- and its gate is opened
pub empty_gate :
    (header : Header) (generation before now : ℕ) (byte : ℕ) (side : Side) (old new : Standing) → generation < 2 ^ 64 → old.seen side ≡ byte ∷ empty_back header generation → old.loose side ≡ settled (old.seen side)
    → EachMoment before now side old new (IsImage (written 0 1 (old.loose side))) → EachMoment before now side old new (GivesEmpty header generation)
empty_gate header generation before now byte side old new fits is still run =
    let there : EachMoment before now side old new (IsImage (written 0 1 (settled (byte ∷ empty_back header generation)))) =
    subst (λ (l : Loose). EachMoment before now side old new (IsImage (written 0 1 l))) (still ∙ ap settled is) run in
    weaker there (λ content image. gate_empty header generation 1 byte content refl fits image)

-- how an empty log stands
pub empty_stands :
    (T : Type 0) (log : SideState) (header : Header) (generation size : ℕ) (disk : Standing) → log.head ≡ Some (header, generation) → log.places ≡ [] → log.end ≡ 17 → log.waiting ≡ None → generation < 2 ^ 64
    → size ≡ 18 → (T → disk.seen log.side ≡ 165 ∷ empty_back header generation) → (T → disk.loose log.side ≡ settled (165 ∷ empty_back header generation)) → Stands T log size disk
empty_stands T log header generation size disk head_is none end_is rests fits size_is seen loose =
    let there : HasLog 165 header generation log (165 ∷ empty_back header generation) (settled (165 ∷ empty_back header generation)) = empty_has log header generation head_is none end_is rests fits in
    record {
      room = rw (head_is, rests, end_is, size_is) (omega arith);
      told = λ t. rw (seen t, loose t) (has_bytes 165 log (165 ∷ empty_back header generation) (settled (165 ∷ empty_back header generation)) (header, generation) head_is there);
    }
