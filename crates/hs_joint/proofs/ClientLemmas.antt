-- A client's entry that may come: the machine goes on with it, and so do the catalogues.
use Rattle.std.proofs.Common.{◌≡◌, ◌⊎◌, inl, inr, ℕ, ◌+◌, ◌<◌, ◌≤◌, ◌==◌, ◌&&◌, List, [], ◌∷◌, length, map, Bool, true, false, cond, not, Option, Some, None, is_none, Result, Ok, Err, refl, sym, ap, ◌∙◌, subst, arith}
use Rattle.std.proofs.lemmas.Bool.{and_parts, eqb-true, cases_eq}
use Rattle.std.proofs.lemmas.Map.Made.{lookup-map_values}
use Rattle.std.specs.BTreeMap.{insert_entry, is_at}
use Rattle.std.specs.List.Sorted.{IsStrictlySortedBy}
use Rattle.std.specs.Map.{lookup, keys_of, set_value}
use Rattle.std.specs.Option.{option_map}
use Rattle.hs_limits.specs.declared.address.Address.{Address}
use Rattle.hs_limits.specs.declared.spelling.SpellingFault.{SpellingFault}
use Rattle.hs_limits.specs.Block.{Block}
use Rattle.hs_limits.specs.Reading.{read_block}
use Rattle.hs_limits.specs.Shape.{shard_of, shard_of_key}
use Rattle.hs_model.specs.Refusals.{keeps_other}
use Rattle.hs_model.specs.Store.{address_cmp}
use Rattle.hs_model.proofs.Members.{Member, contains_from_member}
use Rattle.hs_model.proofs.ReachLemmas.{reached_from_is}
use Rattle.hs_laws.proofs.EpochLemmas.{nat_le_from}
use Rattle.hs_laws.proofs.InsertLemmas.{lookup-insert_same}
use Rattle.hs_laws.proofs.SweepLemmas.{member_from_found}
use Rattle.hs_laws.specs.Valid.{rests_on}
use Rattle.hs_entry.specs.declared.entry.Entry.{Entry}
use Rattle.hs_entry.specs.declared.entry.Entry.TheVariants as kind
use Rattle.hs_deletion.specs.Machine.{Layout, ShardState, Machine}
use Rattle.hs_deletion.specs.Clocks.{label_of}
use Rattle.hs_deletion.specs.Records.{BlockRecord}
use Rattle.hs_deletion.specs.Anchors.{IsThere, IsReachedIn}
use Rattle.hs_deletion.specs.Catalogue.{ShardCatalogue, stored_in, marked_in, rooted_in, unrooted_in}
use Rattle.hs_deletion.specs.Following.{IsFollowing}
use Rattle.hs_deletion.specs.History.{IsMade, MayStore, MayGive, after_effect}
use Rattle.hs_deletion.specs.History.Effect.{Stores, Gives, Puts, Drops}
use Rattle.hs_deletion.specs.Invariants.{IsRight}
use Rattle.hs_deletion.proofs.FollowClients.{store_elsewhere, store_follows, mark_elsewhere, mark_follows, root_elsewhere, root_follows, drop_elsewhere, drop_follows}
use Rattle.hs_deletion.proofs.FollowLemmas.{IsStepAt}
use Rattle.hs_deletion.proofs.HistoryKeeps.{made_after}
use Rattle.hs_fold.specs.Catalogue.{Present, Shard, fresh_present}
use Rattle.hs_fold.specs.Lawful.{shard_at}
use Rattle.hs_fold.specs.Shards.Catalogue.{is_stored, is_marked, is_rooted, is_fresh, has_room, takes_root, retained_in, present_at}
use Rattle.hs_fold.specs.Shards.Fits.{EachRests, MarkRests, RootRests}
use Rattle.hs_fold.specs.Shards.Setting.{Setting}
use Rattle.hs_fold.specs.Runs.Catalogue.{apply}
use Rattle.hs_fold.specs.Runs.Clients.{new_facts, store_block, remark, marked, give_block, insert_root, new_root, keep_root, end_retention, drop_key}
use Rattle.hs_fold.specs.Runs.Facts.{Facts, Catalogue, plain, facts_at}
use Rattle.hs_fold.specs.Runs.Fits.{catalogue_at, MayCome}
use Rattle.hs_fold.specs.Runs.Happening.{IsClients}
use Rattle.hs_fold.specs.Runs.Opened.{store_of}
use Rattle.hs_fold.specs.Runs.Own.{IsOwn}
use Rattle.hs_fold.proofs.Runs.InsertLemmas.{length-insert_root}
use Rattle.hs_fold.proofs.Runs.OwnLemmas.{apply-own}
use Rattle.hs_fold.proofs.Runs.KeyLemmas.{one-entry}
use Rattle.hs_fold.proofs.Runs.RoomLemmas.{apply-fits}
use Rattle.hs_fold.proofs.Shards.StoreLemmas.{found-mine}
use Rattle.hs_joint.specs.Joined.{IsSentSo, KeepsTheLast}
use Rattle.hs_joint.specs.Seen.{layout_of, seen_block, seen_root, seen_round, seen}
use Rattle.hs_joint.proofs.BoundLemmas.{IsBounded, bounded_stored, bounded_given}
use Rattle.hs_joint.proofs.FewLemmas.{few_apply}
use Rattle.hs_joint.proofs.KeyLemmas.{found-entry}
use Rattle.hs_joint.proofs.LikeLemmas.{follow_like, seen_insert, seen_mark, seen_drop}
use Rattle.hs_joint.proofs.ReachedLemmas.{here_at, rests_there}
use Rattle.hs_joint.proofs.SameLists.{same_as, same_inserted}
use Rattle.hs_joint.proofs.SendLemmas.{ordered_keys}
use Rattle.hs_joint.proofs.StandLemmas.{IsStanding, GoesOn, right, own_here, join_on, room_on, few_on, nothing_done, same_rows}

-- an entry that is given again as it is
set_as_it_is : {V : Type 0} (test : Address → Bool) (es : List (Address × V)) (v : V) → lookup test es ≡ Some v → set_value test es v ≡ es
set_as_it_is test [] v e = refl
set_as_it_is {V} test (x ∷ es) v e = go (test x.0) refl (λ h. set_as_it_is test es v h) e
  where
    go : (t : Bool) → test x.0 ≡ t → (lookup test es ≡ Some v → set_value test es v ≡ es) → cond t (Some x.1) (lookup test es) ≡ Some v → cond t ((x.0, v) ∷ es) (x ∷ set_value test es v) ≡ x ∷ es
    go true t ih q = (let is : x.1 ≡ v = cc q in ap (λ (y : V). (x.0, y) ∷ es) (sym is))
    go false t ih q = ap (λ rest. x ∷ rest) (ih q)

set_look : {V : Type 0} (test : Address → Bool) (es : List (Address × V)) (v w : V) → lookup test es ≡ Some v → lookup test (set_value test es w) ≡ Some w
set_look test [] v w e = cc e
set_look {V} test (x ∷ es) v w e = go (test x.0) refl (λ h. set_look test es v w h) e
  where
    go : (t : Bool) → test x.0 ≡ t → (lookup test es ≡ Some v → lookup test (set_value test es w) ≡ Some w) → cond t (Some x.1) (lookup test es) ≡ Some v → lookup test (cond t ((x.0, w) ∷ es) (x ∷ set_value test es w)) ≡ Some w
    go true t ih q = rw t refl
    go false t ih q = rw t (ih q)

-- ---- an entry that changes something may come; one that changes nothing needs not

pub comes_or_not : (at : Shard) (cs : List Catalogue) (g number : ℕ) (entry : Entry) → IsClients entry → ((apply at (catalogue_at cs g) (number, entry) ≡ catalogue_at cs g → ⊥) → MayCome cs g entry) → (apply at (catalogue_at cs g) (number, entry) ≡ catalogue_at cs g) ⊎ MayCome cs g entry
comes_or_not at cs g number (kind.View view) u fit = inr tt
comes_or_not at cs g number (kind.Drop op key) u fit = inr tt
comes_or_not at cs g number (kind.Enter op epoch) u fit = elim u [ ]
comes_or_not at cs g number (kind.Got sender epoch round total deltas) u fit = elim u [ ]
comes_or_not at cs g number (kind.Base view epoch swept round frames) u fit = inr tt
comes_or_not at cs g number (kind.KeptBlock born mark flags count bytes) u fit = inr tt
comes_or_not at cs g number (kind.KeptRoot created dropped counted address key) u fit = inr tt
comes_or_not at cs g number (kind.KeptRound way other epoch round total deltas) u fit = inr tt
comes_or_not at cs g number (kind.Block op least bytes) u fit = go (read_block bytes) fit
  where
    abbrev_c : Catalogue
    abbrev_c = catalogue_at cs g

    go : (read : Result Block SpellingFault) → ((store_block at (catalogue_at cs g) number least (at.name bytes) read ≡ catalogue_at cs g → ⊥) → MayCome cs g (kind.Block op least bytes)) → (store_block at (catalogue_at cs g) number least (at.name bytes) read ≡ catalogue_at cs g) ⊎ MayCome cs g (kind.Block op least bytes)
    go (Err fault) f = inl refl
    go (Ok block) f = two (is_stored at (plain (catalogue_at cs g)) least (at.name bytes)) refl f
      where
        abbrev_d : Catalogue
        abbrev_d = record (catalogue_at cs g) { blocks = insert_entry address_cmp (catalogue_at cs g).blocks (at.name bytes) (new_facts (fresh_present (catalogue_at cs g).epoch number block)) }

        is-none : {X : Type 0} (o : Option X) → is_none o ≡ true → o ≡ None
        is-none None e = refl
        is-none (Some x) e = cc e

        none_there : is_none (present_at (plain (catalogue_at cs g)) (at.name bytes)) ≡ true → lookup (is_at (address_cmp (at.name bytes))) (catalogue_at cs g).blocks ≡ None
        none_there e = bare (lookup (is_at (address_cmp (at.name bytes))) (catalogue_at cs g).blocks) (sym (lookup-map_values (λ (f : Facts). f.present) (is_at (address_cmp (at.name bytes))) (catalogue_at cs g).blocks) ∙ is-none (present_at (plain (catalogue_at cs g)) (at.name bytes)) e)
          where
            bare : (o : Option Facts) → option_map (λ (f : Facts). f.present) o ≡ None → o ≡ None
            bare None q = refl
            bare (Some f) q = cc q

        differs : is_stored at (plain (catalogue_at cs g)) least (at.name bytes) ≡ true → abbrev_d ≡ catalogue_at cs g → ⊥
        differs t same =
            let p = and_parts ((shard_of at.shards (at.name bytes) == at.shard && is_none (present_at (plain (catalogue_at cs g)) (at.name bytes))) && is_fresh (plain (catalogue_at cs g)) least) (has_room (plain (catalogue_at cs g))) t in
            let q = and_parts (shard_of at.shards (at.name bytes) == at.shard && is_none (present_at (plain (catalogue_at cs g)) (at.name bytes))) (is_fresh (plain (catalogue_at cs g)) least) p.0 in
            let r = and_parts (shard_of at.shards (at.name bytes) == at.shard) (is_none (present_at (plain (catalogue_at cs g)) (at.name bytes))) q.0 in
            let none = none_there r.1 in
            let found = lookup-insert_same (catalogue_at cs g).blocks (at.name bytes) (new_facts (fresh_present (catalogue_at cs g).epoch number block)) in
            let moved = ap (λ (x : Catalogue). lookup (is_at (address_cmp (at.name bytes))) x.blocks) same in
            cc (none, found, moved)

        two : (b : Bool) → is_stored at (plain (catalogue_at cs g)) least (at.name bytes) ≡ b → ((cond b abbrev_d (catalogue_at cs g) ≡ catalogue_at cs g → ⊥) → MayCome cs g (kind.Block op least bytes)) → (cond b abbrev_d (catalogue_at cs g) ≡ catalogue_at cs g) ⊎ MayCome cs g (kind.Block op least bytes)
        two false e f = inl refl
        two true e f = inr (f (differs e))
comes_or_not at cs g number (kind.Mark op least block a) u fit = go (facts_at (catalogue_at cs g) a) refl fit
  where
    one : (f : Facts) → facts_at (catalogue_at cs g) a ≡ Some f → (b : Bool) → ((cond b (record (catalogue_at cs g) { blocks = marked (catalogue_at cs g).epoch (Some f) (catalogue_at cs g).blocks a }) (catalogue_at cs g) ≡ catalogue_at cs g → ⊥) → MayCome cs g (kind.Mark op least block a))
        → (cond b (record (catalogue_at cs g) { blocks = marked (catalogue_at cs g).epoch (Some f) (catalogue_at cs g).blocks a }) (catalogue_at cs g) ≡ catalogue_at cs g) ⊎ MayCome cs g (kind.Mark op least block a)
    one f e false fit = inl refl
    one f e true fit = elim (cases_eq f.present.mark (catalogue_at cs g).epoch) [
      | inl same ↦ inl (
          let is : remark (catalogue_at cs g).epoch f ≡ f = λ i. record f { present = record f.present { mark = sym same i } } in
          ap (λ (bs : List (Address × Facts)). record (catalogue_at cs g) { blocks = bs }) (ap (λ (x : Facts). set_value (is_at (address_cmp a)) (catalogue_at cs g).blocks x) is ∙ set_as_it_is (is_at (address_cmp a)) (catalogue_at cs g).blocks f e)
          )
      | inr other ↦ inr (fit (λ same. (
          let now = set_look (is_at (address_cmp a)) (catalogue_at cs g).blocks f (remark (catalogue_at cs g).epoch f) e in
          let moved = ap (λ (x : Catalogue). lookup (is_at (address_cmp a)) x.blocks) same in
          let is : Some (remark (catalogue_at cs g).epoch f) ≡ Some f = sym now ∙ moved ∙ e in
          let inside : remark (catalogue_at cs g).epoch f ≡ f = cc is in
          other (sym (ap (λ (x : Facts). x.present.mark) inside))
          )))
    ]

    go : (found : Option Facts) → facts_at (catalogue_at cs g) a ≡ found → ((cond (is_marked (plain (catalogue_at cs g)) least block (option_map (λ f. f.present) found)) (record (catalogue_at cs g) { blocks = marked (catalogue_at cs g).epoch found (catalogue_at cs g).blocks a }) (catalogue_at cs g) ≡ catalogue_at cs g → ⊥) → MayCome cs g (kind.Mark op least block a))
        → (cond (is_marked (plain (catalogue_at cs g)) least block (option_map (λ f. f.present) found)) (record (catalogue_at cs g) { blocks = marked (catalogue_at cs g).epoch found (catalogue_at cs g).blocks a }) (catalogue_at cs g) ≡ catalogue_at cs g) ⊎ MayCome cs g (kind.Mark op least block a)
    go None e fit = inl refl
    go (Some f) e fit = one f e (is_marked (plain (catalogue_at cs g)) least block (Some f.present)) fit
comes_or_not at cs g number (kind.Root op held a key) u fit = go (is_rooted at (plain (catalogue_at cs g)) held a key && is_none (retained_in (plain (catalogue_at cs g)) key)) fit
  where
    more : Catalogue
    more = record (catalogue_at cs g) { roots = insert_root (new_root (catalogue_at cs g).epoch a key) (catalogue_at cs g).roots }

    go : (b : Bool) → ((cond b (record (catalogue_at cs g) { roots = insert_root (new_root (catalogue_at cs g).epoch a key) (catalogue_at cs g).roots }) (catalogue_at cs g) ≡ catalogue_at cs g → ⊥) → MayCome cs g (kind.Root op held a key))
        → (cond b (record (catalogue_at cs g) { roots = insert_root (new_root (catalogue_at cs g).epoch a key) (catalogue_at cs g).roots }) (catalogue_at cs g) ≡ catalogue_at cs g) ⊎ MayCome cs g (kind.Root op held a key)
    go false f = inl refl
    go true f = inr (f (λ same. (
        let long = length-insert_root (catalogue_at cs g).roots (new_root (catalogue_at cs g).epoch a key) in
        let short : length (insert_root (new_root (catalogue_at cs g).epoch a key) (catalogue_at cs g).roots) ≡ length (catalogue_at cs g).roots = ap (λ (x : Catalogue). length x.roots) same in
        omega (arith, long, short)
        )))

-- ---- the machine

module _ (set : Setting) (some : 0 < set.shape.shards) (cs : List Catalogue) (m : Machine) (st : IsStanding set some cs m) (g : ℕ) (lg : g < set.shape.shards) where
  abbrev n : ℕ
  n = set.shape.shards

  abbrev L : Layout
  L = layout_of n some

  abbrev c : Catalogue
  c = catalogue_at cs g

  abbrev C : ShardCatalogue
  C = seen g c

  abbrev at : Shard
  at = shard_at set.name n g

  R : IsRight L m
  R = right set some cs m st

  follows : IsFollowing L m g C
  follows = st.joined.followed.each g lg

  own : IsOwn n g c
  own = own_here set some cs m st g lg

  -- what rests on a fresh epoch is backed
  backed : (least : ℕ) → is_fresh (plain c) least ≡ true → (pointers : List Address) → EachRests (store_of cs) least pointers → (p : Address) → Member p pointers → IsReachedIn m (m.states g).epoch p
  backed least fresh pointers rests p k =
      let low : c.epoch ≤ least + 1 = nat_le_from c.epoch (least + 1) fresh in
      let there = rests_there n some cs st.joined.each st.joined.own m st.joined.followed.each c.epoch least low p (reached_from_is (store_of cs) (rests_on (store_of cs) least) p (rests p (contains_from_member p pointers k))) in
      subst (λ e. IsReachedIn m e p) follows.epoch there

  -- the blocks of the machine that are of this shard are those of this catalogue
  here_entry : (b : BlockRecord) → Member b m.blocks → shard_of n b.address ≡ g → (e : Address × Facts) × Member e c.blocks × (b ≡ seen_block e)
  here_entry b k h =
      let o = here_at n some cs st.joined.each st.joined.own m st.joined.followed.each b k in
      (o.0, subst (λ j. Member o.0 (catalogue_at cs j).blocks) h o.1, o.2)

  ordered : IsStrictlySortedBy address_cmp (keys_of c.blocks)
  ordered = ordered_keys n g c own

  pub record IsFollowed (d : Catalogue) : Type 0 where
    pub later : Machine
    pub made : IsMade L later
    pub step : IsStepAt L g m later
    pub follows : IsFollowing L later g (seen g d)
    pub bounded : IsBounded L later
    pub sent : d.sent ≡ c.sent
    pub states : later.states ≡ m.states

  nothing_new : IsFollowed c
  nothing_new = record { later = m; made = st.joined.followed.made; step = nothing_done set some cs m st g; follows = follows; bounded = st.bounded; sent = refl; states = refl }

  -- ---- Block

  none-there : (o : Option Present) → is_none o ≡ true → o ≡ None
  none-there None e = refl
  none-there (Some x) e = cc e

  none_facts : (a : Address) → present_at (plain c) a ≡ None → lookup (is_at (address_cmp a)) c.blocks ≡ None
  none_facts a e = go (lookup (is_at (address_cmp a)) c.blocks) (sym (lookup-map_values (λ (f : Facts). f.present) (is_at (address_cmp a)) c.blocks) ∙ e)
    where
      go : (o : Option Facts) → option_map (λ (f : Facts). f.present) o ≡ None → o ≡ None
      go None q = refl
      go (Some f) q = cc q

  absent_here : (a : Address) → shard_of n a ≡ g → lookup (is_at (address_cmp a)) c.blocks ≡ None → IsThere m.blocks a → ⊥
  absent_here a h none p =
      let e = here_entry p.block p.stands (ap (λ x. shard_of n x) p.here ∙ h) in
      let same : e.0.0 ≡ a = sym (ap (λ (b : BlockRecord). b.address) e.2) ∙ p.here in
      let found : lookup (is_at (address_cmp e.0.0)) c.blocks ≡ Some e.0.1 = found-entry c.blocks ordered e.0 e.1 in
      let found' : lookup (is_at (address_cmp a)) c.blocks ≡ Some e.0.1 = subst (λ (x : Address). lookup (is_at (address_cmp x)) c.blocks ≡ Some e.0.1) same found in
      cc (none, found')

  block_goes : (number least : ℕ) (a : Address) (read : Result Block SpellingFault) → (is_fresh (plain c) least ≡ true → (block : Block) → read ≡ Ok block → EachRests (store_of cs) least block.pointers) → IsFollowed (store_block at c number least a read)
  block_goes number least a (Err fault) ready = nothing_new
  block_goes number least a (Ok block) ready = go (is_stored at (plain c) least a) refl
    where
      go : (b : Bool) → is_stored at (plain c) least a ≡ b → IsFollowed (cond b (record c { blocks = insert_entry address_cmp c.blocks a (new_facts (fresh_present c.epoch number block)) }) c)
      go false e = nothing_new
      go true e =
          let p = and_parts ((shard_of n a == g && is_none (present_at (plain c) a)) && is_fresh (plain c) least) (has_room (plain c)) e in
          let q = and_parts (shard_of n a == g && is_none (present_at (plain c) a)) (is_fresh (plain c) least) p.0 in
          let r = and_parts (shard_of n a == g) (is_none (present_at (plain c) a)) q.0 in
          let h : shard_of n a ≡ g = eqb-true (shard_of n a) g r.0 in
          let none = none_facts a (none-there (present_at (plain c) a) r.1) in
          let d : Catalogue = record c { blocks = insert_entry address_cmp c.blocks a (new_facts (fresh_present c.epoch number block)) } in
          let may : MayStore L m a block.pointers = record { absent = absent_here a h none; backed = λ x k. subst (λ j. IsReachedIn m (m.states j).epoch x) (sym h) (backed least q.1 block.pointers (ready q.1 block refl) x k) } in
          record {
            later = after_effect L (Stores a block.pointers) m;
            made = made_after L m (Stores a block.pointers) st.joined.followed.made may;
            step = store_elsewhere L m g a block.pointers h;
            follows = follow_like L (after_effect L (Stores a block.pointers) m) g (seen g d) (stored_in a block.pointers C)
                (record {
                  blocks = seen_insert c.blocks a (new_facts (fresh_present c.epoch number block)) none;
                  roots = same_as C.roots C.roots refl;
                  epoch = refl;
                  swept = refl;
                  round = λ l. refl;
                  got = λ sender epoch round body k. k;
                })
                (store_follows L m g a block.pointers h C follows);
            bounded = bounded_stored L m R st.bounded a block.pointers may;
            sent = refl;
            states = refl;
          }

  -- ---- Mark

  mark_goes : (number least : ℕ) (a : Address) → MarkRests (store_of cs) (plain c) least number a → IsFollowed (give_block c least number a)
  mark_goes number least a rests = go (facts_at c a) refl
    where
      present_is : (f : Facts) → facts_at c a ≡ Some f → present_at (plain c) a ≡ Some f.present
      present_is f e = lookup-map_values (λ (f : Facts). f.present) (is_at (address_cmp a)) c.blocks ∙ ap (option_map (λ (f : Facts). f.present)) e

      here : (f : Facts) → facts_at c a ≡ Some f → shard_of n a ≡ g
      here f e = found-mine n g (plain c).blocks a f.present own.mine.blocks (present_is f e)

      one : (f : Facts) → facts_at c a ≡ Some f → (b : Bool) → is_marked (plain c) least number (Some f.present) ≡ b → IsFollowed (cond b (record c { blocks = marked c.epoch (Some f) c.blocks a }) c)
      one f e false q = nothing_new
      one f e true q =
          let both = and_parts (f.present.number == number) (is_fresh (plain c) least) q in
          let fresh = both.1 in
          let h = here f e in
          let d : Catalogue = record c { blocks = marked c.epoch (Some f) c.blocks a } in
          let may : MayGive L m a = λ b k here p i. (
          let w = here_entry b k (ap (λ x. shard_of n x) here ∙ h) in
          let key : w.0.0 ≡ a = sym (ap (λ (y : BlockRecord). y.address) w.2) ∙ here in
          let is : w.0 ≡ (a, f) = one-entry c.blocks ordered w.0 w.1 (a, f) (member_from_found c.blocks a f e) key in
          let i' : Member p f.present.stored.pointers = subst (λ (y : Address × Facts). Member p y.1.present.stored.pointers) is (subst (λ (y : BlockRecord). Member p y.pointers) w.2 i) in
          subst (λ j. IsReachedIn m (m.states j).epoch p) (sym h) (backed least fresh f.present.stored.pointers (rests fresh f.present (present_is f e) (eqb-true f.present.number number both.0)) p i')
          ) in
          record {
            later = after_effect L (Gives a) m;
            made = made_after L m (Gives a) st.joined.followed.made may;
            step = mark_elsewhere L m g a h;
            follows = follow_like L (after_effect L (Gives a) m) g (seen g d) (marked_in a C)
                (record {
                  blocks = same_as (seen g d).blocks (marked_in a C).blocks (seen_mark a c.epoch f c.blocks ordered e);
                  roots = same_as C.roots C.roots refl;
                  epoch = refl;
                  swept = refl;
                  round = λ l. refl;
                  got = λ sender epoch round body k. k;
                })
                (mark_follows L m g a h C follows);
            bounded = bounded_given L m R st.bounded a;
            sent = refl;
            states = refl;
          }

      go : (found : Option Facts) → facts_at c a ≡ found → IsFollowed (cond (is_marked (plain c) least number (option_map (λ f. f.present) found)) (record c { blocks = marked c.epoch found c.blocks a }) c)
      go None e = nothing_new
      go (Some f) e = one f e (is_marked (plain c) least number (Some f.present)) refl

  -- ---- Root and Drop

  root_goes : (held : ℕ) (a : Address) (key : List ℕ) → RootRests (store_of cs) (plain c) held a → IsFollowed (keep_root at c held a key)
  root_goes held a key rests = go (is_rooted at (plain c) held a key) refl (is_none (retained_in (plain c) key))
    where
      go : (b : Bool) → is_rooted at (plain c) held a key ≡ b → (u : Bool) → IsFollowed (cond (b && u) (record c { roots = insert_root (new_root c.epoch a key) c.roots }) c)
      go false e u = nothing_new
      go true e false = nothing_new
      go true e true =
          let p = and_parts ((shard_of_key n key == g && is_fresh (plain c) held) && not (keeps_other (retained_in (plain c) key) a)) (takes_root (plain c).roots (retained_in (plain c) key)) e in
          let q = and_parts (shard_of_key n key == g && is_fresh (plain c) held) (not (keeps_other (retained_in (plain c) key) a)) p.0 in
          let fresh = (and_parts (shard_of_key n key == g) (is_fresh (plain c) held) q.0).1 in
          let d : Catalogue = record c { roots = insert_root (new_root c.epoch a key) c.roots } in
          let low : c.epoch ≤ held + 1 = nat_le_from c.epoch (held + 1) fresh in
          let there = rests_there n some cs st.joined.each st.joined.own m st.joined.followed.each c.epoch held low a (reached_from_is (store_of cs) (rests_on (store_of cs) held) a (rests fresh)) in
          let is_there : IsReachedIn m (m.states g).epoch a = subst (λ e. IsReachedIn m e a) follows.epoch there in
          record {
            later = after_effect L (Puts g key (a ∷ [])) m;
            made = made_after L m (Puts g key (a ∷ [])) st.joined.followed.made (lg, λ x k. elim k [ inl same ↦ subst (λ y. IsReachedIn m (m.states g).epoch y) (sym same) is_there | inr z ↦ elim z [ ] ]);
            step = root_elsewhere L m g key (a ∷ []);
            follows = follow_like L (after_effect L (Puts g key (a ∷ [])) m) g (seen g d) (rooted_in g key (a ∷ []) C)
                (record {
                  blocks = same_as C.blocks C.blocks refl;
                  roots = same_inserted (seen_root g) c.roots _ (new_root c.epoch a key);
                  epoch = refl;
                  swept = refl;
                  round = λ l. refl;
                  got = λ sender epoch round body k. k;
                })
                (root_follows L m g key (a ∷ []) C follows);
            bounded = st.bounded;
            sent = refl;
            states = refl;
          }

  drop_goes : (key : List ℕ) → IsFollowed (drop_key at c key)
  drop_goes key = go (shard_of_key n key == g)
    where
      go : (b : Bool) → IsFollowed (cond b (record c { roots = map (end_retention key c.epoch) c.roots }) c)
      go false = nothing_new
      go true =
          let d : Catalogue = record c { roots = map (end_retention key c.epoch) c.roots } in
          record {
            later = after_effect L (Drops g key) m;
            made = made_after L m (Drops g key) st.joined.followed.made lg;
            step = drop_elsewhere L m g key;
            follows = follow_like L (after_effect L (Drops g key) m) g (seen g d) (unrooted_in key C)
                (record {
                  blocks = same_as C.blocks C.blocks refl;
                  roots = same_as (seen g d).roots (unrooted_in key C).roots (seen_drop key c.epoch g c.roots);
                  epoch = refl;
                  swept = refl;
                  round = λ l. refl;
                  got = λ sender epoch round body k. k;
                })
                (drop_follows L m g key C follows);
            bounded = st.bounded;
            sent = refl;
            states = refl;
          }

  view_goes : (view : ℕ) → IsFollowed (record c { view = view })
  view_goes view = record {
    later = m;
    made = st.joined.followed.made;
    step = nothing_done set some cs m st g;
    follows = record { blocks = follows.blocks; roots = follows.roots; epoch = follows.epoch; swept = follows.swept; round = follows.round; got = follows.got };
    bounded = st.bounded;
    sent = refl;
    states = refl;
  }

  -- ---- any entry

  client_follows : (number : ℕ) (entry : Entry) → IsClients entry → MayCome cs g entry → IsFollowed (apply at c (number, entry))
  client_follows number (kind.View view) u r = view_goes view
  client_follows number (kind.Block op least bytes) u r = block_goes number least (set.name bytes) (read_block bytes) r
  client_follows number (kind.Mark op least block a) u r = mark_goes block least a r
  client_follows number (kind.Root op held a key) u r = root_goes held a key r
  client_follows number (kind.Drop op key) u r = drop_goes key
  client_follows number (kind.Enter op epoch) u r = elim u [ ]
  client_follows number (kind.Got sender epoch round total deltas) u r = elim u [ ]
  client_follows number (kind.Base view epoch swept round frames) u r = nothing_new
  client_follows number (kind.KeptBlock born mark flags count bytes) u r = nothing_new
  client_follows number (kind.KeptRoot created dropped counted address key) u r = nothing_new
  client_follows number (kind.KeptRound way other epoch round total deltas) u r = nothing_new

  pub client_goes : (number : ℕ) (entry : Entry) → IsClients entry → MayCome cs g entry → GoesOn set some cs m g (apply at c (number, entry))
  client_goes number entry u r =
      let f = client_follows number entry u r in
      let d : Catalogue = apply at c (number, entry) in
      record {
        later = f.later;
        standing = record {
          joined = join_on set some cs m st g lg d f.later f.made f.step f.follows (apply-own at c own number entry) (subst (λ xs. IsSentSo L f.later g xs) (sym f.sent) (λ kept among to told tells. f.step.sent to g kept.epoch kept.round (seen_round kept.round told) (st.joined.sent g lg kept among to told tells))) (λ row l. ap (λ s. label_of L s row) f.states) (subst (λ xs. KeepsTheLast L f.later g xs) (sym f.sent) (same_rows L m f.later g c.sent (ap (λ (s : ℕ → ShardState). (s g).sent) f.states) (λ row l. ap (λ s. label_of L s row) f.states) (st.joined.last g lg)));
          bounded = f.bounded;
          room = room_on set some cs m st g lg d f.later (apply-fits at c number entry (st.room g lg));
          few = few_on set some cs m st g lg d f.later (few_apply at c number entry (st.few g lg));
        };
        moves = f.step.sent;
        sends = inl (f.sent, ap (λ (s : ℕ → ShardState). (s g).sent) f.states);
        states = f.step.states;
      }
