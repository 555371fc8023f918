-- What a shard's known lists have behind all that took effect rests still behind an event, where what took effect in the core is what stood first.
use Rattle.std.proofs.Common.{◌≡◌, ◌∙◌, ap, sym, arith, ℕ, ◌+◌, List, ◌++◌, length, map}
use Rattle.std.proofs.lemmas.List.{drop-drop, drop-take, map-append, take-append-drop}
use Rattle.std.specs.Prelude.{drop, take}
use Rattle.hs_answered.specs.Telling.{Judging}
use Rattle.hs_copies.proofs.ListLemmas.{front_both, front_trans}
use Rattle.hs_copies.specs.Lists.{IsFront, Item}
use Rattle.hs_copies.specs.Machine.{Copies}
use Rattle.hs_core_copies.proofs.NextLemmas.{front_take, map_take}
use Rattle.hs_core_copies.specs.InStep.{IsInStep}
use Rattle.hs_core_words.specs.Looking.{group_of}
use Rattle.hs_core_words.specs.State.{Core}
use Rattle.hs_entry.specs.declared.entry.Entry.{Entry}
use Rattle.hs_fold.specs.Runs.Facts.{Catalogue as Folded}
use Rattle.hs_model.specs.Store.{Store}
use Rattle.hs_tails.specs.Known.{IsKnown, KnownListsRest, entries_behind}
use Rattle.hs_tails.specs.Tails.{RestsIn, TailsGoOn}

-- a list that begins with a front has behind so many what the front has there, and the rest
behind_front : {X : Type 0} (n m : ℕ) (front list : List X) → IsFront front list → length front ≡ n + m → drop n list ≡ drop n front ++ drop (n + m) list
behind_front n m front list f long =
    let is : front ≡ take (n + m) list = front_take front list f ∙ ap (λ k. take k list) long in
    let first : take m (drop n list) ≡ drop n front = sym (drop-take n m list) ∙ ap (λ xs. drop n xs) (sym is) in
    sym (take-append-drop m (drop n list)) ∙ ap (λ xs. xs ++ drop m (drop n list)) first ∙ ap (λ xs. drop n front ++ xs) (drop-drop m n list)

-- so of two lists that begin with it
first_alike : {X : Type 0} (n m : ℕ) (front list : List X) → IsFront front list → length front ≡ n + m → take m (drop n list) ≡ drop n front
first_alike n m front list f long =
    let is : front ≡ take (n + m) list = front_take front list f ∙ ap (λ k. take k list) long in
    sym (drop-take n m list) ∙ ap (λ xs. drop n xs) (sym is)

module _ (by : Judging) (start : Store) (old new : Core) (cs : List Folded) (go : TailsGoOn by start old new cs) (shard : ℕ) (s t : Copies Entry) (a : IsInStep shard old s) (b : IsInStep shard new t)
    (stood : IsFront t.took s.log) (first : go.took shard ≡ take (length (go.took shard)) (group_of shard old).waiting) where
  abbrev m : ℕ
  m = length (go.took shard)

  abbrev n : ℕ
  n = length s.took

  more : length t.took ≡ length s.took + length (go.took shard)
  more = let before = a.stands.front in let after = b.stands.front in let fronts = go.fronts shard in omega (arith, before, after, fronts)

  pub stays : IsFront s.took t.took
  stays = front_both s.took t.took s.log a.stands.faithful.took stood (let long = more in omega (arith, long))

  -- what took effect is what the machine has of it
  pub took_is : map (λ (x : Item Entry). x.what) (drop (length s.took) t.took) ≡ go.took shard
  took_is =
      let what : Item Entry → Entry = λ x. x.what in
      ap (λ xs. map what xs) (sym (first_alike n m t.took s.log stood more))
      ∙ sym (map_take what m (drop n s.log))
      ∙ ap (λ xs. take m xs) (sym a.stands.waiting)
      ∙ sym first

  pub known_goes_on : KnownListsRest by.name old cs shard s → (list : List (Item Entry)) → IsKnown s list → IsFront t.took list → RestsIn by.name new go.after shard (entries_behind (length t.took) list)
  known_goes_on all list known has =
      let what : Item Entry → Entry = λ x. x.what in
      let before : RestsIn by.name old cs shard (entries_behind (length s.took) list) = all list known (front_trans s.took t.took list stays has) in
      let parts : entries_behind (length s.took) list ≡ go.took shard ++ entries_behind (length t.took) list =
      ap (λ xs. map what xs) (behind_front n m t.took list has more)
      ∙ map-append what (drop n t.took) (drop (n + m) list)
      ∙ ap (λ xs. xs ++ map what (drop (n + m) list)) took_is
      ∙ ap (λ k. go.took shard ++ map what (drop k list)) (sym more) in
      go.rests shard (entries_behind (length s.took) list) (entries_behind (length t.took) list) before parts
