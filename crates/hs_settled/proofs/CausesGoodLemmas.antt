-- Who is good as a core opens, and that nothing comes to one that ended so.
use Rattle.std.proofs.Common.{◌≡◌, ◌∙◌, ap, sym, ℕ, zero, suc, ◌*◌, ◌≤◌, ◌++◌, Bool, true, false, List, [], ◌∷◌, Some, None, refl, arith, length, map}
use Rattle.std.proofs.lemmas.List.{get_or_past}
use Rattle.std.specs.Prelude.{if◌then◌else◌, slice_index_or}
use Rattle.hs_settled.proofs.AskLemmas.{next_going, opening_none}
use Rattle.hs_settled.proofs.CausesFirstLemmas.{members_first}
use Rattle.hs_settled.proofs.CausesRunLemmas.{are_lines, last_is, lined}
use Rattle.hs_core_words.specs.Looking.{status_of}
use Rattle.hs_core_words.specs.State.{Core}
use Rattle.hs_desk.specs.declared.fault.CoreFault.{CoreFault}
use Rattle.hs_events.specs.Course.{steps}
use Rattle.hs_events.specs.Due.{Events}
use Rattle.hs_events.specs.Found.{first_core, opens_with, starts_good}
use Rattle.hs_limits.specs.declared.limits.PeerStatus.TheVariants.{Down, Good}
use Rattle.hs_standing.specs.Script.{AreLines, all_events}
use Rattle.hs_members.specs.Members.{Members, is_good_status, status}
use Rattle.hs_promise.specs.Machine.{Went, opening_is_whole}
use Rattle.hs_promise.specs.Run.{Ran, Script}
use Rattle.hs_promise.specs.Story.{Story, last_core}

flag_is : (goods : List Bool) (x : ℕ) → is_good_status (slice_index_or (map (λ (b : Bool). if b then Good else Down) goods) x Down) ≡ slice_index_or goods x false
flag_is [] x = refl
flag_is (true ∷ goods) zero = refl
flag_is (false ∷ goods) zero = refl
flag_is (b ∷ goods) (suc x) = flag_is goods x

module _ (S : Script) (r : Ran) (story : Story) (went : Went S r story) where
  abbrev opened : Core
  opened = first_core S.set story.found

  -- the peers that opening found good
  pub opened_good : (x : ℕ) → is_good_status (status_of x (first_core S.set story.found)) ≡ starts_good story.found x
  opened_good x =
      ap (λ (m : Members). is_good_status (status x m)) (members_first S.set.shape S.set.limits (opens_with S.set story.found) story.found.opened went.found.goods)
      ∙ flag_is story.found.good x

  pub past_good : (x : ℕ) → S.set.shape.shards * S.set.shape.copies ≤ x → starts_good story.found x ≡ false
  past_good x high = get_or_past story.found.good x false (let n : length story.found.good ≡ S.set.shape.shards * S.set.shape.copies = went.found.goods in omega (arith, n, high))

  module _ (f : CoreFault) (over : (first_core S.set story.found).ended ≡ Some f) where
    no_opening : story.opening ≡ []
    no_opening = opening_none (opening_is_whole r story.lines) opened story.opening f over went.opening

    behind_is : steps opened story.opening ≡ opened
    behind_is = ap (λ es. steps opened es) no_opening

    pub no_lines : story.lines ≡ []
    no_lines = go story.lines (are_lines S r story went)
      where
        go : (lines : List Events) → AreLines (lined S r) 1 (steps opened story.opening) lines → lines ≡ []
        go [] are = refl
        go (es ∷ rest) are =
            let going : (steps opened story.opening).ended ≡ None = next_going (lined S r) 1 (steps opened story.opening) es rest are in
            let both : Some f ≡ None = sym over ∙ ap (λ (c : Core). c.ended) (sym behind_is) ∙ going in absurd (cc both)

    pub no_events : story.opening ++ all_events story.lines ≡ []
    no_events = ap (λ es. es ++ all_events story.lines) no_opening ∙ ap all_events no_lines

    pub last_opened : last_core S story ≡ first_core S.set story.found
    last_opened = last_is S r story went ∙ ap (λ es. steps opened es) no_events

    pub no_line : r.line ≡ 0
    no_line = went.line ∙ ap (λ (ls : List Events). length ls) no_lines
