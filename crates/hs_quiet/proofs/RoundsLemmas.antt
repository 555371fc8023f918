-- Rounds that a shard sends again: all that it keeps of its last two.
use Rattle.std.proofs.Common.{◌≡◌, ◌∙◌, inl, inr, sym, ap, subst, ℕ, zero, suc, ◌+◌, ◌<◌, ◌≤◌, ◌==◌, ◌&&◌, ◌++◌, Bool, true, false, List, [], ◌∷◌, Option, Some, None, refl, arith, tests, length, slice_get, length-append, map}
use Rattle.std.proofs.lemmas.Bool.{cases_eq}
use Rattle.std.specs.List.{flat_map, range_with_len}
use Rattle.std.specs.Option.{option_and_then, option_map, option_map_or}
use Rattle.std.specs.Prelude.{find}
use Rattle.hs_awaiting.specs.Words.{change_with}
use Rattle.hs_core_words.specs.Asking.{send_round}
use Rattle.hs_core_words.specs.Changing.{post}
use Rattle.hs_core_words.specs.Effects.{round_messages}
use Rattle.hs_core_words.specs.Looking.{catalogue_of, shape_of}
use Rattle.hs_core_words.specs.State.{Core}
use Rattle.hs_limits.specs.declared.delta.Delta.{Delta}
use Rattle.hs_post.specs.declared.message.Message.{Message}
use Rattle.hs_post.specs.declared.message.Message.TheVariants as message
use Rattle.hs_rounds.specs.declared.body.RoundBody.{RoundBody}
use Rattle.hs_rounds.specs.declared.sending.SentRound.{SentRound}
use Rattle.hs_rounds.specs.Rounds.{Run, is_round, outgoing}
use Rattle.hs_shard.specs.declared.effect.Sent.{Sent}
use Rattle.hs_shard.specs.Rounds.{message_to, messages}
use Rattle.hs_quiet.proofs.PoolLemmas.{get_back}

-- ---- lists

get_some : {X : Type 0} (xs : List X) (i : ℕ) → i < length xs → (x : X) × (slice_get xs i ≡ Some x)
get_some [] i low = absurd (omega (arith, low))
get_some (x ∷ xs) zero low = (x, refl)
get_some (x ∷ xs) (suc i) low = get_some xs i (omega (arith, low))

find_some : (test : SentRound → Bool) (xs : List SentRound) (place : ℕ) (x : SentRound) → slice_get xs place ≡ Some x → test x ≡ true → (y : SentRound) × ((find test xs ≡ Some y) × ((q : ℕ) × (slice_get xs q ≡ Some y)))
find_some test [] zero x at is = absurd (cc at)
find_some test [] (suc place) x at is = absurd (cc at)
find_some test (e ∷ xs) place x at is = by_test (λ q h. find_some test xs q x h is) (test e) refl place at
  where
    by_test : ((q : ℕ) → slice_get xs q ≡ Some x → (y : SentRound) × ((find test xs ≡ Some y) × ((r : ℕ) × (slice_get xs r ≡ Some y)))) → (b : Bool) → test e ≡ b → (place : ℕ) → slice_get (e ∷ xs) place ≡ Some x
        → (y : SentRound) × ((find test (e ∷ xs) ≡ Some y) × ((r : ℕ) × (slice_get (e ∷ xs) r ≡ Some y)))
    by_test again true t q h = (e, (rw t refl, (0, refl)))
    by_test again false t zero h =
        let same : e ≡ x = cc h in
        let both : false ≡ true = sym t ∙ ap test same ∙ is in
        absurd (cc both)
    by_test again false t (suc q) h = let r = again q h in (r.0, (rw t r.1.0, (suc r.1.1.0, r.1.1.1)))

in_flat : {X : Type 0} (f : ℕ → List X) (k n to : ℕ) (x : X) → k ≤ to → to < k + n → f to ≡ x ∷ [] → (j : ℕ) × (slice_get (flat_map f (range_with_len k n)) j ≡ Some x)
in_flat f k zero to x low high is = absurd (omega (arith, low, high))
in_flat f k (suc n) to x low high is = elim (cases_eq to k) [
  | inl same ↦ (0, ap (λ ys. slice_get (ys ++ flat_map f (range_with_len (k + 1) n)) 0) (ap f (sym same) ∙ is))
  | inr apart ↦
      let r = in_flat f (k + 1) n to x (omega (arith, low, apart)) (omega (arith, high)) is in
      (length (f k) + r.0, get_back (f k) (flat_map f (range_with_len (k + 1) n)) (length (f k) + r.0) r.0 refl ∙ r.1)
]

flat_short : {X : Type 0} (f : ℕ → List X) (k n : ℕ) → ((i : ℕ) → length (f i) ≤ 1) → length (flat_map f (range_with_len k n)) ≤ n
flat_short f k zero h = omega arith
flat_short f k (suc n) h =
    let both = length-append (f k) (flat_map f (range_with_len (k + 1) n)) in
    let one = h k in
    let rest = flat_short f (k + 1) n h in
    omega (arith, both, one, rest)

map_at : {X Y : Type 0} (f : X → Y) (xs : List X) (i : ℕ) (x : X) → slice_get xs i ≡ Some x → slice_get (map f xs) i ≡ Some (f x)
map_at f [] zero x e = absurd (cc e)
map_at f [] (suc i) x e = absurd (cc e)
map_at f (y ∷ xs) zero x e = let same : y ≡ x = cc e in ap (λ z. Some (f z)) same
map_at f (y ∷ xs) (suc i) x e = map_at f xs i x e

map_long : {X Y : Type 0} (f : X → Y) (xs : List X) → length (map f xs) ≡ length xs
map_long f [] = refl
map_long f (x ∷ xs) = ap (λ n. suc n) (map_long f xs)

same_true : (x : ℕ) → (x == x) ≡ true
same_true x = grind (arith, tests)

-- ---- rounds that are sent again

message_few : (epoch round : ℕ) (run : Run) (to : ℕ) → length (message_to epoch round run to) ≤ 1
message_few epoch round run to = go (outgoing epoch round to run)
  where
    go : (o : Option RoundBody) → length {A = Sent} (option_map_or (λ (told : RoundBody). record { to = to; epoch = epoch; round = round; body = told } ∷ []) o []) ≤ 1
    go None = omega arith
    go (Some told) = omega arith

abbrev as_message : ℕ → Sent → Message
as_message p s = message.Round p s.to s.epoch s.round s.body.total s.body.deltas

module _ (p : ℕ) (c : Core) (shape : (catalogue_of p c).shape.shards ≡ (shape_of c).shards) (bodies : (place : ℕ) (kept : SentRound) → slice_get (catalogue_of p c).run.sent place ≡ Some kept → length kept.bodies ≡ (shape_of c).shards) where
  pub record Posted (back : ℕ) : Type 0 where
    pub ms : List Message
    pub is : send_round back p c ≡ post ms c
    pub few : length ms ≤ (shape_of c).shards
    pub has : (kept : SentRound) → slice_get (catalogue_of p c).run.sent back ≡ Some kept → (to : ℕ) → to < (shape_of c).shards
        → (j : ℕ) × ((total : ℕ) × ((deltas : List Delta) × (slice_get ms j ≡ Some (message.Round p to kept.epoch kept.round total deltas))))

  abbrev run : Run
  run = (catalogue_of p c).run

  abbrev sends : SentRound → List Message
  sends s = round_messages p (messages (catalogue_of p c).shape.shards s.epoch s.round (catalogue_of p c).run)

  sends_has : (s : SentRound) (back : ℕ) → slice_get (catalogue_of p c).run.sent back ≡ Some s → (to : ℕ) → to < (shape_of c).shards
      → (j : ℕ) × ((total : ℕ) × ((deltas : List Delta) × (slice_get (sends s) j ≡ Some (message.Round p to s.epoch s.round total deltas))))
  sends_has s back at to low =
      let found = find_some (is_round s.epoch s.round) run.sent back s at ((λ i. same_true s.epoch i && same_true s.round i)) in
      let long : length found.0.bodies ≡ (shape_of c).shards = bodies found.1.1.0 found.0 found.1.1.1 in
      let told = get_some found.0.bodies to (omega (arith, low, long)) in
      let out : outgoing s.epoch s.round to run ≡ Some told.0 = ap (λ (o : Option SentRound). option_and_then (λ (x : SentRound). slice_get x.bodies to) o) found.1.0 ∙ told.1 in
      let sent : Sent = record { to = to; epoch = s.epoch; round = s.round; body = told.0 } in
      let one : message_to s.epoch s.round run to ≡ sent ∷ [] = ap (λ (o : Option RoundBody). option_map_or (λ (t : RoundBody). record { to = to; epoch = s.epoch; round = s.round; body = t } ∷ []) o []) out in
      let there = in_flat (message_to s.epoch s.round run) 0 (catalogue_of p c).shape.shards to sent (omega arith) (omega (arith, low, shape)) one in
      (there.0, (told.0.total, (told.0.deltas, map_at (as_message p) (messages (catalogue_of p c).shape.shards s.epoch s.round run) there.0 sent there.1)))

  pub posted : (back : ℕ) → Posted back
  posted back = go (slice_get (catalogue_of p c).run.sent back) refl
    where
      go : (o : Option SentRound) → slice_get (catalogue_of p c).run.sent back ≡ o → Posted back
      go None e = record {
        ms = [];
        is = ap (λ (o : Option SentRound). change_with (option_map {U = ℕ × ℕ} (λ (s : SentRound). (s.epoch, s.round)) o) (λ (at : ℕ × ℕ). post (round_messages p (messages (catalogue_of p c).shape.shards at.0 at.1 (catalogue_of p c).run))) c) e;
        few = omega arith;
        has = λ kept at to low. (let both : None ≡ Some kept = sym e ∙ at in absurd (cc both));
      }
      go (Some s) e = record {
        ms = sends s;
        is = ap (λ (o : Option SentRound). change_with (option_map {U = ℕ × ℕ} (λ (t : SentRound). (t.epoch, t.round)) o) (λ (at : ℕ × ℕ). post (round_messages p (messages (catalogue_of p c).shape.shards at.0 at.1 (catalogue_of p c).run))) c) e;
        few =
            let long = map_long (as_message p) (messages (catalogue_of p c).shape.shards s.epoch s.round run) in
            let short = flat_short (message_to s.epoch s.round run) 0 (catalogue_of p c).shape.shards (message_few s.epoch s.round run) in
            omega (arith, long, short, shape);
        has = λ kept at to low. (
            let same : s ≡ kept = (let both : Some s ≡ Some kept = sym e ∙ at in cc both) in
            subst (λ (k : SentRound). (j : ℕ) × ((total : ℕ) × ((deltas : List Delta) × (slice_get (sends s) j ≡ Some (message.Round p to k.epoch k.round total deltas))))) same (sends_has s back e to low)
            );
      }
