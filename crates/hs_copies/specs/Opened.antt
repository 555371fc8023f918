-- The copies of a shard as it is opened, and what may come of them.
use Rattle.std.specs.Prelude.{◌≡◌, ℕ, suc, Bool, true, false, List, [], ◌∷◌, length}
use Rattle.hs_copies.specs.Lists.{Item, AreBelow, Rises}
use Rattle.hs_copies.specs.Machine.{Good, Down, PeerCopy, Copies, CopyEvent, CanComeAll, after_events, item, with_new_view}

-- the list with one view at all of its entries, as it is counted after opening
abbrev pub stamped_alike : {X : Type 0} → ℕ → List (Item X) → List (Item X)
stamped_alike v [] = []
stamped_alike v (x ∷ xs) = item v x.what ∷ stamped_alike v xs

-- a peer that has the list that was taken, or one that counts as having none
abbrev pub copy_with : {X : Type 0} → List (Item X) → Bool → PeerCopy X
copy_with log true = record { stage = Good; list = log; adding = []; sealed = length log; known = length log }
copy_with log false = record { stage = Down; list = []; adding = []; sealed = 0; known = 0 }

-- the shard with the list at its good peers, before its first view
abbrev pub taken_copies : {X : Type 0} → ℕ → List (Item X) → (ℕ → Bool) → Copies X
taken_copies view log good =
    record { view = view; log = log; took = log; peers = λ q. copy_with log (good q); sent = [] }

-- a shard as it is opened
abbrev pub opened_copies : {X : Type 0} → ℕ → List (Item X) → (ℕ → Bool) → ℕ → X → Copies X
opened_copies view log good lead x = with_new_view lead x (λ q. copy_with log (good q)) (taken_copies view log good)

-- the shard was opened with a list whose views never fall, and only what may come has come
pub record IsCopyRun {X : Type 0} (s : Copies X) : Type 0 where
  pub view : ℕ
  pub taken_log : List (Item X)
  pub good : ℕ → Bool
  pub lead : ℕ
  pub what : X
  pub events : List (CopyEvent X)
  pub rises : Rises 0 taken_log
  pub below : AreBelow (suc view) taken_log
  pub leads : good lead ≡ true
  pub legal : CanComeAll (opened_copies view taken_log good lead what) events
  pub here : after_events (opened_copies view taken_log good lead what) events ≡ s
