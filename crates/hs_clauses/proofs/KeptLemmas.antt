-- From a valid store on, what is answered as the plain store does keeps all.
use Rattle.std.proofs.Common.{◌≡◌, List, None, take}
use Rattle.std.specs.Prelude.{Contains}
use Rattle.hs_answered.specs.Telling.{Judging}
use Rattle.hs_clauses.proofs.FrontLemmas.{legal_take}
use Rattle.hs_laws.specs.Held.{IsFreshHeld, IsHeld}
use Rattle.hs_laws.specs.Kept.{KeepsAll}
use Rattle.hs_laws.specs.Reached.{IsWhole}
use Rattle.hs_laws.specs.Valid.{IsValid}
use Rattle.hs_limits.specs.declared.address.Held.{Held}
use Rattle.hs_limits.specs.declared.limits.Limits.{Limits}
use Rattle.hs_model.specs.Run.{Event, IsLegal, run}
use Rattle.hs_model.specs.Store.{Root, Store}
use Rattle.hs_promise.specs.Answers.{Answers, events_in, store_before}
use Rattle.hs_promise.specs.Kept.{KeepsAlong}
use Rattle.hs_promise.specs.Run.{Ran, Script}

-- the laws of the plain store
pub record PlainLaws : Type 0 where
  pub valid : (limits : Limits) (s : Store) (events : List Event) → IsValid s → IsLegal limits s events → IsValid (run limits s events)
  pub rooted : (s : Store) (root : Root) → IsValid s → Contains s.roots root → root.dropped ≡ None → IsWhole s root.address
  pub held : (s : Store) (held : Held) → IsValid s → IsHeld s held → IsFreshHeld s held → IsWhole s held.address

-- by what a journal of a script is judged
abbrev by_script : Script → Judging
by_script S = record { commands = S.commands; name = S.set.name; limits = S.set.limits }

keeps_all : (laws : PlainLaws) (s : Store) → IsValid s → KeepsAll s
keeps_all laws s valid = record {
  valid = valid;
  rooted = λ root has kept. laws.rooted s root valid has kept;
  held = λ held is fresh. laws.held s held valid is fresh;
}

pub keeps_along : (laws : PlainLaws) (S : Script) (entry : Store) (r : Ran) → IsValid entry → Answers S entry r.journal → KeepsAlong S entry r
keeps_along laws S entry r valid answers place =
    keeps_all laws (store_before S entry r.journal place)
    (laws.valid S.set.limits entry (events_in S entry (take place r.journal)) valid (legal_take (by_script S) entry place r.journal answers.legal))
