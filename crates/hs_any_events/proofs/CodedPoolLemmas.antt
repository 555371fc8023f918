-- Pools that are the same but for the entries of Copies: what is sent keeps them so, and each Round of one is under way in the other.
use Rattle.std.proofs.Common.{◌≡◌, ◌∙◌, sym, ap, subst, ℕ, ◌+◌, Bool, true, false, cond, List, [], ◌∷◌, map, All, Contains, Option, Some, None, refl}
use Rattle.std.proofs.lemmas.List.{length-map}
use Rattle.std.proofs.lemmas.List.Elements.{All-from_recursion, recursion_from_All}
use Rattle.std.proofs.lemmas.Map.Made.{lookup-map_values}
use Rattle.std.specs.BTreeMap.{insert_entry, is_at}
use Rattle.std.specs.List.{AllByRecursion}
use Rattle.std.specs.Map.{values_of}
use Rattle.std.specs.Option.{option_map}
use Rattle.std.specs.Ordering.{nat_cmp}
use Rattle.std.specs.Prelude.{nat_le}
use Rattle.hs_any_events.proofs.CodedGroupLemmas.{bare}
use Rattle.hs_any_events.proofs.CodedListLemmas.{insert_entry-map, remove_entry-map}
use Rattle.hs_events.specs.Alone.{is_round}
use Rattle.hs_model.proofs.Members.{Member, contains_from_member, member-map, member_from_contains, member_of_map}
use Rattle.hs_post.specs.declared.message.Message.{Message}
use Rattle.hs_post.specs.declared.message.Message.TheVariants as message
use Rattle.hs_post.specs.Pool.{Pool, is_full, message_at, send, without}
use Rattle.hs_replica.specs.Group.{send_all}

-- a pool of bare messages
abbrev pub bare_pool : Pool → Pool
bare_pool pool = record pool { messages = map (λ (e : ℕ × Message). (e.0, bare e.1)) pool.messages }

-- ---- what is sent and taken out

send_bare : (m : Message) (pool : Pool) → bare_pool (send m pool) ≡ send (bare m) (bare_pool pool)
send_bare m pool = by (is_full pool) ∙ ap (λ (n : ℕ). cond (nat_le pool.limit n) (bare_pool pool) with_it) (sym (length-map pool.messages (λ (e : ℕ × Message). (e.0, bare e.1))))
  where
    with_it : Pool
    with_it = record (bare_pool pool) { messages = insert_entry nat_cmp (bare_pool pool).messages pool.next (bare m); next = pool.next + 1 }

    by : (b : Bool) → bare_pool (cond b pool (record pool { messages = insert_entry nat_cmp pool.messages pool.next m; next = pool.next + 1 })) ≡ cond b (bare_pool pool) with_it
    by true = refl
    by false = ap (λ (es : List (ℕ × Message)). record pool { messages = es; next = pool.next + 1 }) (sym (insert_entry-map bare nat_cmp pool.messages pool.next m))

sends_bare : (ms : List Message) (pool : Pool) → bare_pool (send_all ms pool) ≡ send_all (map bare ms) (bare_pool pool)
sends_bare [] pool = refl
sends_bare (m ∷ ms) pool = sends_bare ms (send m pool) ∙ ap (λ (x : Pool). send_all (map bare ms) x) (send_bare m pool)

pub sends_alike : (ms ns : List Message) (p q : Pool) → map bare ns ≡ map bare ms → bare_pool q ≡ bare_pool p → bare_pool (send_all ns q) ≡ bare_pool (send_all ms p)
sends_alike ms ns p q same alike = sends_bare ns q ∙ (λ i. send_all (same i) (alike i)) ∙ sym (sends_bare ms p)

without_bare : (number : ℕ) (pool : Pool) → bare_pool (without number pool) ≡ without number (bare_pool pool)
without_bare number pool = ap (λ (es : List (ℕ × Message)). record pool { messages = es }) (sym (remove_entry-map bare (is_at (nat_cmp number)) pool.messages))

pub without_alike : (number : ℕ) (p q : Pool) → bare_pool q ≡ bare_pool p → bare_pool (without number q) ≡ bare_pool (without number p)
without_alike number p q alike = without_bare number q ∙ ap (λ (x : Pool). without number x) alike ∙ sym (without_bare number p)

-- ---- Rounds

-- a Round is all of what is bare of it, and nothing else is a Round when bare
itself : (m : Message) → is_round m ≡ true → bare m ≡ m
itself (message.Copy shard to view number entry) r = absurd (cc r)
itself (message.Have shard from to view sealed) r = absurd (cc r)
itself (message.Round from to epoch round total deltas) r = refl

round_bare : (m : Message) → is_round (bare m) ≡ is_round m
round_bare (message.Copy shard to view number entry) = refl
round_bare (message.Have shard from to view sealed) = refl
round_bare (message.Round from to epoch round total deltas) = refl

one_round : (m x : Message) → is_round m ≡ true → bare x ≡ bare m → x ≡ m
one_round m x r e = sym (itself x (sym (round_bare x) ∙ ap (λ (y : Message). is_round y) e ∙ round_bare m ∙ r)) ∙ e ∙ itself m r

values_bare : (es : List (ℕ × Message)) → values_of (map (λ (e : ℕ × Message). (e.0, bare e.1)) es) ≡ map bare (values_of es)
values_bare [] = refl
values_bare (e ∷ es) = ap (λ (ms : List Message). bare e.1 ∷ ms) (values_bare es)

module _ (p q : Pool) (alike : bare_pool q ≡ bare_pool p) where
  both_bare : map bare (values_of q.messages) ≡ map bare (values_of p.messages)
  both_bare = sym (values_bare q.messages) ∙ ap (λ (x : Pool). values_of x.messages) alike ∙ values_bare p.messages

  -- the Round of a number
  pub round_at : (number : ℕ) (m : Message) → is_round m ≡ true → message_at number p ≡ Some m → message_at number q ≡ Some m
  round_at number m r at = by (message_at number q) refl found
    where
      found : option_map bare (message_at number q) ≡ Some (bare m)
      found =
          sym (lookup-map_values bare (is_at (nat_cmp number)) q.messages)
          ∙ ap (λ (x : Pool). message_at number x) alike
          ∙ lookup-map_values bare (is_at (nat_cmp number)) p.messages
          ∙ ap (λ (x : Option Message). option_map bare x) at

      by : (x : Option Message) → message_at number q ≡ x → option_map bare x ≡ Some (bare m) → message_at number q ≡ Some m
      by None there e = absurd (cc e)
      by (Some x) there e = let is : bare x ≡ bare m = cc e in there ∙ ap (λ (y : Message). Some y) (one_round m x r is)

  -- each Round
  pub round_there : (m : Message) → is_round m ≡ true → Contains (values_of p.messages) m → Contains (values_of q.messages) m
  round_there m r there =
      let here : Member (bare m) (map bare (values_of q.messages)) =
      subst (λ (ms : List Message). Member (bare m) ms) (sym both_bare) (member-map bare m (values_of p.messages) (member_from_contains m (values_of p.messages) there)) in
      let was = member_of_map bare (bare m) (values_of q.messages) here in
      subst (λ (x : Message). Contains (values_of q.messages) x) (one_round m was.0 r (sym was.2)) (contains_from_member was.0 (values_of q.messages) was.1)

  -- what holds of all messages that are bare holds of all
  pub all_alike : (P : Message → Type 0) → ((m : Message) → P (bare m) → P m) → ((m : Message) → P m → P (bare m)) → All P (values_of q.messages) → All P (values_of p.messages)
  all_alike P full empty all =
      All-from_recursion P (values_of p.messages)
      (each (values_of p.messages) (subst (λ (ms : List Message). AllByRecursion P ms) both_bare (every (values_of q.messages) (recursion_from_All P (values_of q.messages) all))))
    where
      each : (ms : List Message) → AllByRecursion P (map bare ms) → AllByRecursion P ms
      each [] h = tt
      each (m ∷ ms) h = (full m h.0, each ms h.1)

      every : (ms : List Message) → AllByRecursion P ms → AllByRecursion P (map bare ms)
      every [] h = tt
      every (m ∷ ms) h = (empty m h.0, every ms h.1)
