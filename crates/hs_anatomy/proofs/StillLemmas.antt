-- What strokes leave as it is.
use Rattle.std.proofs.Common.{◌≡◌, Option, refl}
use Rattle.hs_anatomy.proofs.AsideLemmas.{kept_aside, kept_follow, kept_joining, kept_propose, kept_round, kept_with}
use Rattle.hs_anatomy.specs.Kept.{kept_of}
use Rattle.hs_anatomy.specs.Strokes.{AndStroke, BeginsAgain, Besides, Follows, Leaves, NoStroke, Proposes, Reads, SendsAgain, Still, Stroke, Strokes, TurnsGood}
use Rattle.hs_core_words.specs.declared.event.Event.{Event}
use Rattle.hs_core_words.specs.Joining.{joining_peers}
use Rattle.hs_core_words.specs.Looking.{lead_of}
use Rattle.hs_core_words.specs.Operating.{add_read}
use Rattle.hs_core_words.specs.State.{Core}

pub kept_still : {s : Core} {e : Option Event} {a : Core} {b : Core} → Still s e a b → kept_of b ≡ kept_of a
kept_still (Besides x) = kept_aside x
kept_still {a = a} (Proposes shard entry by) = kept_propose shard entry a
kept_still {a = a} (Reads line number w at waits) = kept_with (lead_of w.shard a) (add_read number line) a (λ peer x. refl)
kept_still {a = a} (SendsAgain back shard peer known) = kept_round back shard a
kept_still (Leaves peer known) = refl
kept_still (TurnsGood peer) = refl
kept_still {a = a} (BeginsAgain shard) = kept_joining (joining_peers shard a) a
kept_still {a = a} (Follows shard) = kept_follow shard a

-- what each stroke keeps, all of them keep
pub strokes_keep : {s : Core} {e : Option Event} (P : Core → Type 0) → ((a b : Core) → Stroke s e a b → P a → P b) → (b : Core) → Strokes s e b → P s → P b
strokes_keep P k b NoStroke p = p
strokes_keep P k b (AndStroke {a = a} xs x) p = k a b x (strokes_keep P k a xs p)
