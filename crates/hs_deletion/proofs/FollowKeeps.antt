-- What fitting entries do is a lawful history, and all catalogues follow it.
use Rattle.std.proofs.Common.{◌≡◌, ℕ, ◌<◌, Bool, true, false, ◌&&◌, List, [], ◌∷◌, ◌++◌, ◌⊎◌, inl, inr, refl, Some, if◌then◌else◌, nat_eq}
use Rattle.std.proofs.lemmas.Bool.{cases_Bool, and_parts, eqb-true}
use Rattle.hs_deletion.specs.Machine.{Layout, Round, Machine, set_at, empty_machine}
use Rattle.hs_deletion.specs.History.{Effect, is_last, after_effect, history, IsLawful}
use Rattle.hs_deletion.specs.History.Effect.{Completes}
use Rattle.hs_deletion.specs.Invariants.{IsRight}
use Rattle.hs_deletion.specs.Catalogue.{ShardCatalogue, blank_catalogue, is_accepted, with_got, is_complete, is_open_last, searched_in, swept_in, ShardEntry, catalogue_after}
use Rattle.hs_deletion.specs.Catalogue.ShardEntry.{BlockEntry, MarkEntry, RootEntry, DropEntry, EnterEntry, GotEntry}
use Rattle.hs_deletion.specs.Following.{IsSent, IsFollowing, AreFollowing, IsFollowed, FitsAt, effects_at, LoggedEntry, all_after, catalogues_after, effects_of, AreFitting, KeepsFollowed}
use Rattle.hs_deletion.proofs.HistoryKeeps.{right_history, right_made, made_history, made_empty}
use Rattle.hs_deletion.proofs.SameLemmas.{same_none}
use Rattle.hs_deletion.proofs.OpenLemmas.{last_same, may_complete}
use Rattle.hs_deletion.proofs.FollowLemmas.{IsStepAt, all_follow}
use Rattle.hs_deletion.proofs.FollowClients.{store_elsewhere, store_follows, mark_elsewhere, mark_follows, root_elsewhere, root_follows, drop_elsewhere, drop_follows}
use Rattle.hs_deletion.proofs.FollowShards.{enter_elsewhere, enter_follows, search_elsewhere, search_follows, sweep_elsewhere, sweep_follows}

-- ---- one entry

module _ (layout : Layout) (m : Machine) (right : IsRight layout m) (catalogues : ℕ → ShardCatalogue) (follow : AreFollowing layout m catalogues) (g : ℕ) (lg : g < layout.shards) where
  -- no step
  nothing_done : IsStepAt layout g m m
  nothing_done = record { blocks = λ h o. refl; roots = λ h o. refl; states = λ h o. refl; sent = λ to h epoch round body s. s }

  module _ (sender epoch round : ℕ) (body : Round) (sent : IsSent layout m.states g sender epoch round body) where
    abbrev logged : ShardCatalogue
    logged = with_got sender epoch round body (catalogues g)

    logged_follows : IsFollowing layout m g logged
    logged_follows = record {
      blocks = (follow g lg).blocks;
      roots = (follow g lg).roots;
      epoch = (follow g lg).epoch;
      swept = (follow g lg).swept;
      round = (follow g lg).round;
      got = λ h e r b q. go h e r b (nat_eq h sender && (nat_eq e epoch && nat_eq r round)) refl q;
    }
      where
        go : (h e r : ℕ) (b : Round) (t : Bool) → nat_eq h sender && (nat_eq e epoch && nat_eq r round) ≡ t → (if t then Some body else (catalogues g).got h e r) ≡ Some b → IsSent layout m.states g h e r b
        go h e r b true t q =
            let p = and_parts (nat_eq h sender) (nat_eq e epoch && nat_eq r round) t in
            let p' = and_parts (nat_eq e epoch) (nat_eq r round) p.1 in
            let is : body ≡ b = cc in
            rw (eqb-true h sender p.0, eqb-true e epoch p'.0, eqb-true r round p'.1, ← is) sent
        go h e r b false t q = (follow g lg).got h e r b q

    -- a complete round is gone on from as the shard completes its row
    goes_on_follows : is_complete layout.shards logged ≡ true → AreFollowing layout (after_effect layout (Completes g) m) (set_at g (if is_open_last layout.shards logged then swept_in logged else searched_in layout.shards logged) catalogues)
    goes_on_follows complete = go (cases_Bool (is_last layout g m))
      where
        go : (is_last layout g m ≡ true) ⊎ (is_last layout g m ≡ false) → AreFollowing layout (after_effect layout (Completes g) m) (set_at g (if is_open_last layout.shards logged then swept_in logged else searched_in layout.shards logged) catalogues)
        go (inl e) = rw (last_same layout m right g lg logged logged_follows complete, e) (all_follow layout g m _ catalogues (swept_in logged) (sweep_elsewhere layout m right g lg logged logged_follows complete) follow (sweep_follows layout m right g lg logged logged_follows complete))
        go (inr e) = rw (last_same layout m right g lg logged logged_follows complete, e) (all_follow layout g m _ catalogues (searched_in layout.shards logged) (search_elsewhere layout m right g lg logged logged_follows complete) follow (search_follows layout m right g lg logged logged_follows complete))

    got_follows : (t d : Bool) → is_complete layout.shards logged ≡ d
        → IsLawful layout (if t && d then Completes g ∷ [] else []) m
        × AreFollowing layout (history layout (if t && d then Completes g ∷ [] else []) m) (set_at g (if t then (if d then (if is_open_last layout.shards logged then swept_in logged else searched_in layout.shards logged) else logged) else catalogues g) catalogues)
    got_follows false d e = (tt, all_follow layout g m m catalogues (catalogues g) nothing_done follow (follow g lg))
    got_follows true false e = (tt, all_follow layout g m m catalogues logged nothing_done follow logged_follows)
    got_follows true true e = ((may_complete layout m right g lg logged logged_follows e, tt), goes_on_follows e)

  pub entry_follows : (entry : ShardEntry) → FitsAt layout m g entry → IsLawful layout (effects_at layout g entry (catalogues g)) m × AreFollowing layout (history layout (effects_at layout g entry (catalogues g)) m) (set_at g (catalogue_after layout.shards g entry (catalogues g)) catalogues)
  entry_follows (BlockEntry a pointers) fit = ((fit.1, tt), all_follow layout g m _ catalogues _ (store_elsewhere layout m g a pointers fit.0) follow (store_follows layout m g a pointers fit.0 (catalogues g) (follow g lg)))
  entry_follows (MarkEntry a) fit = ((fit.1, tt), all_follow layout g m _ catalogues _ (mark_elsewhere layout m g a fit.0) follow (mark_follows layout m g a fit.0 (catalogues g) (follow g lg)))
  entry_follows (RootEntry key addresses) fit = (((lg, fit), tt), all_follow layout g m _ catalogues _ (root_elsewhere layout m g key addresses) follow (root_follows layout m g key addresses (catalogues g) (follow g lg)))
  entry_follows (DropEntry key) fit = ((lg, tt), all_follow layout g m _ catalogues _ (drop_elsewhere layout m g key) follow (drop_follows layout m g key (catalogues g) (follow g lg)))
  entry_follows EnterEntry fit = ((fit, tt), all_follow layout g m _ catalogues _ (enter_elsewhere layout m right g lg) follow (enter_follows layout m right g lg (catalogues g) (follow g lg)))
  entry_follows (GotEntry sender epoch round body) fit = got_follows sender epoch round body fit (is_accepted layout.shards (catalogues g) sender epoch round) (is_complete layout.shards (with_got sender epoch round body (catalogues g))) refl

-- ---- a list of entries

module _ (layout : Layout) where
  history_append : (xs ys : List Effect) (m : Machine) → history layout (xs ++ ys) m ≡ history layout ys (history layout xs m)
  history_append [] ys m = refl
  history_append (x ∷ xs) ys m = history_append xs ys (after_effect layout x m)

  lawful_append : (xs ys : List Effect) (m : Machine) → IsLawful layout xs m → IsLawful layout ys (history layout xs m) → IsLawful layout (xs ++ ys) m
  lawful_append [] ys m l k = k
  lawful_append (x ∷ xs) ys m l k = (l.0, lawful_append xs ys (after_effect layout x m) l.1 k)

  entries_follow : (entries : List LoggedEntry) (catalogues : ℕ → ShardCatalogue) (m : Machine) → IsRight layout m → AreFollowing layout m catalogues → AreFitting layout entries catalogues m
      → IsLawful layout (effects_of layout entries catalogues) m × AreFollowing layout (history layout (effects_of layout entries catalogues) m) (catalogues_after layout entries catalogues)
  entries_follow [] catalogues m right follow fit = (tt, follow)
  entries_follow (e ∷ es) catalogues m right follow fit =
      let effects = effects_at layout e.shard e.entry (catalogues e.shard) in
      let one = entry_follows layout m right catalogues follow e.shard fit.0 e.entry fit.1 in
      let next = all_after layout e catalogues in
      let rest = entries_follow es next (history layout effects m) (right_history layout effects m right one.0) one.1 fit.2 in
      (lawful_append effects (effects_of layout es next) m one.0 rest.0, rw (history_append effects (effects_of layout es next) m) rest.1)

  empty_follows : AreFollowing layout empty_machine (λ shard. blank_catalogue)
  empty_follows g l = record { blocks = same_none; roots = same_none; epoch = refl; swept = refl; round = λ r. refl; got = λ h e r b q. cc }

  pub empty_followed : IsFollowed layout empty_machine (λ shard. blank_catalogue)
  empty_followed = record { made = made_empty layout; each = empty_follows }

  pub entries_followed : (m : Machine) (catalogues : ℕ → ShardCatalogue) (entries : List LoggedEntry) → IsFollowed layout m catalogues → AreFitting layout entries catalogues m → KeepsFollowed layout m catalogues entries
  entries_followed m catalogues entries f fit =
      let both = entries_follow entries catalogues m (right_made layout m f.made) f.each fit in
      record { lawful = both.0; followed = record { made = made_history layout (effects_of layout entries catalogues) m f.made both.0; each = both.1 } }
