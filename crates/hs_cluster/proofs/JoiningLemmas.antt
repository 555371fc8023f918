-- Nobody begins to join by an event, but by the line that starts it.
use Rattle.std.proofs.Common.{◌≡◌, ◌≢◌, ◌∙◌, sym, ap, refl, ℕ, zero, suc, ◌==◌, Bool, true, false, List, [], ◌∷◌, map, arith}
use Rattle.std.proofs.lemmas.Bool.{eq-eqb}
use Rattle.std.specs.Prelude.{⊤, OnOk, Result, Ok, Err, if◌then◌else◌, slice_index_or}
use Rattle.hs_cluster.specs.declared.fault.ClusterFault.{ClusterFault}
use Rattle.hs_cluster.specs.Growing.{is_start}
use Rattle.hs_core_words.specs.declared.event.Event.{Event}
use Rattle.hs_core_words.specs.Looking.{status_of}
use Rattle.hs_core_words.specs.Opening.{Taken, new_core, open_core}
use Rattle.hs_core_words.specs.State.{Core}
use Rattle.hs_core_words.specs.Step.{step}
use Rattle.hs_limits.specs.declared.limits.Limits.{Limits}
use Rattle.hs_limits.specs.declared.limits.PeerStatus.TheVariants.{Good, Down}
use Rattle.hs_limits.specs.declared.shape.Shape.{Shape}
use Rattle.hs_members.specs.Members.{is_joining}
use Rattle.hs_model.specs.declared.command.Command.{Command}
use Rattle.hs_model.specs.declared.command.Command.TheVariants as command
use Rattle.hs_events.proofs.JoiningLemmas.{nobody_joins, nobody_joins_yet}

-- a peer begins as good or down
first_status : (goods : List Bool) (k : ℕ) → is_joining (slice_index_or (map (λ b. if b then Good else Down) goods) k Down) ≡ false
first_status [] k = refl
first_status (true ∷ goods) zero = refl
first_status (false ∷ goods) zero = refl
first_status (b ∷ goods) (suc k) = first_status goods k

pub opens_apart : (shape : Shape) (limits : Limits) (taken : Taken) (moment peer : ℕ) (core : Core) → core ≡ open_core shape limits taken moment → is_joining (status_of peer core) ≡ false
opens_apart shape limits taken moment peer core is = ap (λ (c : Core). is_joining (status_of peer c)) is ∙ nobody_joins_yet peer (new_core shape limits taken moment) (first_status taken.good peer)

-- so is each
pub none_joins : (r : Result ⊤ ClusterFault) (P : ℕ → Type 0) → ((peer : ℕ) → OnOk r (P peer)) → OnOk r ((peer : ℕ) → P peer)
none_joins (Ok x) P h = h
none_joins (Err fault) P h = tt

-- ---- one event, and lines

-- of one event
pub stays_apart : (peer : ℕ) (e : Event) (at : ℕ) (old new : Core) → new ≡ step e at old → is_start peer e ≡ false → is_joining (status_of peer old) ≡ false → is_joining (status_of peer new) ≡ false
stays_apart peer e at old new is none h = ap (λ (c : Core). is_joining (status_of peer c)) is ∙ nobody_joins peer e at old (λ line same. never (sym none ∙ ap (is_start peer) same ∙ eq-eqb peer peer refl)) h
  where
    never : false ≡ true → ⊥
    never e = cc e

-- a line that starts another peer
pub starts_another : (asked : Command) (a peer : ℕ) → asked ≡ command.Start a → asked ≢ command.Start peer → (a == peer) ≡ false
starts_another asked a peer is another = by (a == peer) refl
  where
    same_number : (a == peer) ≡ true → a ≡ peer
    same_number e = grind arith

    by : (b : Bool) → (a == peer) ≡ b → (a == peer) ≡ false
    by false e = e
    by true e = absurd (another (is ∙ ap command.Start (same_number e)))
