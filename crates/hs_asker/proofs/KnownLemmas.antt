-- Where the store is told, an asker shows what is lawful, and tells what its handles stand for.
use Rattle.std.proofs.Common.{◌≡◌, ◌∙◌, ap, sym, subst, ℕ, List, Option, None}
use Rattle.hs_asking.specs.Lawful.{AreAnswersOf}
use Rattle.hs_asking.specs.Shown.{store_now}
use Rattle.hs_limits.specs.declared.address.Address.{Address}
use Rattle.hs_limits.specs.declared.address.Held.{Held}
use Rattle.hs_model.specs.Store.{held_at as store_held}
use Rattle.hs_tokens.specs.Seats.{held_at, seat_of}
use Rattle.hs_asker.specs.Going.{AtEntry, Inside, IsAsker}
use Rattle.hs_asker.specs.Shows.{Asking, IsAnswering, IsTold, began_by, shown_in, shows_of}

abbrev pub asking_in : Inside → Asking
asking_in s = record { said = s.said; journal = s.cluster.core.journal; ended = s.ended }

module _ (tells : Type 0) (name : List ℕ → Address) (e : AtEntry) (s : Inside) (h : IsAsker tells name e s) (told : IsTold tells e) where
  answering : IsAnswering e s
  answering = told s (subst (λ (n : List ℕ → Address). IsAsker tells n e s) (sym h.named) h)

  lawful_in : AreAnswersOf (began_by e) (shows_of tells e (asking_in s))
  lawful_in =
      let law : AreAnswersOf (began_by e) (shown_in e s) = answering.lawful in
      record { valid = law.valid; distinct = law.distinct; blocks = law.blocks; named = law.named; acyclic = law.acyclic; legal = law.legal; answered = law.answered; led = law.led }

  pub known_so : (a : Asking) → asking_in s ≡ a → AreAnswersOf (began_by e) (shows_of tells e a)
  known_so a is = subst (λ (x : Asking). AreAnswersOf (began_by e) (shows_of tells e x)) is lawful_in

  pub held_so : (a : Asking) → asking_in s ≡ a → a.ended ≡ None → (session : List ℕ) (handle : ℕ) (result : Option Held) → result ≡ held_at (seat_of session s.cluster.core.sessions) handle
      → result ≡ store_held (store_now (began_by e) (shows_of tells e a)) session handle
  held_so a is going session handle result same =
      let none : s.ended ≡ None = ap (λ (x : Asking). x.ended) is ∙ going in
      same ∙ answering.held none session handle ∙ ap (λ (x : Asking). store_held (store_now (began_by e) (shows_of tells e x)) session handle) is
