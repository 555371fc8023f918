-- Every lawful history keeps the machine right, from nothing on.
use Rattle.std.proofs.Common.{◌≡◌, ℕ, ◌+◌, Bool, true, false, List, [], ◌∷◌, ◌++◌, inl, inr, refl, sym, ◌∙◌, ap, subst, arith}
use Rattle.hs_limits.specs.declared.address.Address.{Address}
use Rattle.hs_model.proofs.ReachLemmas.Reached.{start, onward}
use Rattle.hs_deletion.specs.Machine.{Layout, Machine, empty_machine}
use Rattle.hs_deletion.specs.Rounds.{raised_in, lowered_in, total_in}
use Rattle.hs_deletion.specs.Clocks.{label_of}
use Rattle.hs_deletion.specs.Anchors.{IsReachedIn}
use Rattle.hs_deletion.specs.Counts.{indegree}
use Rattle.hs_deletion.specs.History.{Effect, is_last, after_effect, MayComplete, MayHappen, history, IsLawful, IsMade}
use Rattle.hs_deletion.specs.History.Effect.{Stores, Gives, Puts, Drops, Enters, Completes}
use Rattle.hs_deletion.specs.Promises.{IsAtTheLast}
use Rattle.hs_deletion.specs.Invariants.{IsRight}
use Rattle.hs_deletion.specs.Invariants.IsFounded.{founded}
use Rattle.hs_deletion.proofs.SumLemmas.{sum_below_none}
use Rattle.hs_deletion.proofs.RoundLemmas.{times_none}
use Rattle.hs_deletion.proofs.LabelLemmas.{last_tells, not_last_tells}
use Rattle.hs_deletion.proofs.EnterKeeps.{right_entered}
use Rattle.hs_deletion.proofs.SearchKeeps.{right_searched}
use Rattle.hs_deletion.proofs.SweepKeeps.{right_swept}
use Rattle.hs_deletion.proofs.ClientEntries.{right_stored, right_given, right_put, right_dropped}

module _ (layout : Layout) where
  -- a shard that may complete the last row of a run is at it
  pub at_the_last : (m : Machine) (g : ℕ) → MayComplete layout m g → is_last layout g m ≡ true → IsAtTheLast layout m g
  at_the_last m g may e = let l = last_tells (m.states g).round (total_in layout m.states (m.states g).completed) e in record { within = may.within; late = l.0; sent = may.sent; none = l.1 }

  pub right_after : (m : Machine) (effect : Effect) → IsRight layout m → MayHappen layout effect m → IsRight layout (after_effect layout effect m)
  right_after m (Stores a pointers) right may = right_stored layout m right a pointers may
  right_after m (Gives a) right may = right_given layout m right a may
  right_after m (Puts g key addresses) right may = right_put layout m right g may.0 key addresses may.1
  right_after m (Drops g key) right may = right_dropped layout m right g may key
  right_after m (Enters g) right may = right_entered layout m right g may
  right_after m (Completes g) right may = go (is_last layout g m) refl
    where
      go : (t : Bool) → is_last layout g m ≡ t → IsRight layout (after_effect layout (Completes g) m)
      go true e = rw e (right_swept layout m right g (at_the_last m g may e))
      go false e = rw e (right_searched layout m right g may (not_last_tells (m.states g).round (total_in layout m.states (m.states g).completed) e))

  pub right_history : (effects : List Effect) (m : Machine) → IsRight layout m → IsLawful layout effects m → IsRight layout (history layout effects m)
  right_history [] m right may = right
  right_history (effect ∷ effects) m right may = right_history effects (after_effect layout effect m) (right_after m effect right may.0) may.1

  -- ---- the empty machine

  none_raised : (n : ℕ) (a : Address) → raised_in layout empty_machine.states n a ≡ 0
  unfolding raised_in
  none_raised n a = sum_below_none layout.shards _ (λ k l. times_none a)

  none_lowered : (n : ℕ) (a : Address) → lowered_in layout empty_machine.states n a ≡ 0
  unfolding lowered_in
  none_lowered n a = sum_below_none layout.shards _ (λ k l. times_none a)

  nothing_reached : (run : ℕ) (a : Address) → ¬ IsReachedIn empty_machine run a
  nothing_reached run a (start (inl g)) = elim g.stands [ ]
  nothing_reached run a (start (inr r)) = elim r.kept [ ]
  nothing_reached run a (onward r p) = elim p.stands [ ]

  pub right_empty : IsRight layout empty_machine
  unfolding indegree label_of
  right_empty = record {
    clocks = λ g l. record { phase = inr (record { is_swept = refl; level = refl; of_epoch = refl; of_round = refl }); come = λ h k. omega arith; unsent = λ n k. refl; raises = λ n. inl refl; lowers = λ n. inl refl };
    distinct = λ b c k l e. elim k [ ];
    blocks = λ b k. elim k [ ];
    homes = λ r k. elim k [ ];
    roots = λ r k. elim k [ ];
    counts = record { present = λ b k. elim k [ ]; absent = λ a none. omega (arith, none_raised 0 a, none_raised (0 + 1) a, none_lowered 0 a, none_lowered (0 + 1) a) };
    raised = λ h n a l k q. elim k [ ];
    supported = λ run range a r. absurd (nothing_reached run a r);
    no_wrong_zero = λ b k z r. elim k [ ];
    anchored = λ h a l r. absurd (nothing_reached 1 a r);
    founded = λ a. founded (λ c p. elim p.stands [ ]);
    searched = λ b k r l c z o. elim k [ ];
    exact_zero = λ g last b k away. elim k [ ];
  }

  pub right_made : (m : Machine) → IsMade layout m → IsRight layout m
  right_made m made = subst (IsRight layout) made.makes (right_history made.effects empty_machine right_empty made.lawful)

  -- ---- one entry more

  history_on : (effects : List Effect) (effect : Effect) (m : Machine) → history layout (effects ++ effect ∷ []) m ≡ after_effect layout effect (history layout effects m)
  history_on [] effect m = refl
  history_on (e ∷ es) effect m = history_on es effect (after_effect layout e m)

  lawful_on : (effects : List Effect) (effect : Effect) (m : Machine) → IsLawful layout effects m → MayHappen layout effect (history layout effects m) → IsLawful layout (effects ++ effect ∷ []) m
  lawful_on [] effect m l may = (may, tt)
  lawful_on (e ∷ es) effect m l may = (l.0, lawful_on es effect (after_effect layout e m) l.1 may)

  pub made_after : (m : Machine) (effect : Effect) → IsMade layout m → MayHappen layout effect m → IsMade layout (after_effect layout effect m)
  made_after m effect made may = record {
    effects = made.effects ++ effect ∷ [];
    lawful = lawful_on made.effects effect empty_machine made.lawful (subst (MayHappen layout effect) (sym made.makes) may);
    makes = history_on made.effects effect empty_machine ∙ ap (after_effect layout effect) made.makes;
  }

  pub made_history : (effects : List Effect) (m : Machine) → IsMade layout m → IsLawful layout effects m → IsMade layout (history layout effects m)
  made_history [] m made l = made
  made_history (e ∷ es) m made l = made_history es (after_effect layout e m) (made_after m e made l.0) l.1

  pub made_empty : IsMade layout empty_machine
  made_empty = record { effects = []; lawful = tt; makes = refl }
