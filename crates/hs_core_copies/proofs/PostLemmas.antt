-- Messages of a shard's copies that are under way, as others are sent or taken out.
use Rattle.std.proofs.Common.{◌≡◌, ◌≢◌, ap, refl, inl, inr, arith, ℕ, ◌+◌, ◌<◌, ◌≤◌, Bool, true, false, List, [], ◌∷◌, ◌++◌, length, map}
use Rattle.std.proofs.lemmas.List.Elements.{All-append, All-cons, All-filter, All-head, All-map, All-nil, All-tail, All-weaker}
use Rattle.std.proofs.lemmas.Map.Views.{All-values-insert_entry}
use Rattle.std.specs.List.{All, enumerate_from, flat_map}
use Rattle.std.specs.Map.{values_of}
use Rattle.std.specs.Option.{option_to_list}
use Rattle.std.specs.Ordering.{nat_cmp}
use Rattle.std.specs.Prelude.{if◌then◌else◌}
use Rattle.hs_copies.proofs.StatusLemmas.{home_shard}
use Rattle.hs_copies.specs.Lists.{IsAmong}
use Rattle.hs_core_words.specs.Effects.{round_messages}
use Rattle.hs_entry.specs.declared.entry.Entry.{Entry}
use Rattle.hs_limits.specs.declared.shape.Shape.{Shape}
use Rattle.hs_post.specs.declared.message.Message.{Message}
use Rattle.hs_post.specs.declared.message.Message.TheVariants as message
use Rattle.hs_post.specs.Pool.{Pool, is_full, send}
use Rattle.hs_replica.specs.declared.replica.Replica.{Replica}
use Rattle.hs_replica.specs.Group.{Group, IsHome, copies_above, copy_of, entries_above, first_peer, have, is_peer, last_number, lead, others, proposal, renewal, resend, send_all}
use Rattle.hs_shard.specs.declared.effect.Sent.{Sent}
use Rattle.hs_core_copies.specs.InStep.{IsOf, IsOfCopies, IsUnderWay, IsWithin}

-- ---- sending

pub posted : (P : Message → Type 0) (ms : List Message) (pool : Pool) → All P ms → All P (values_of pool.messages) → All P (values_of (send_all ms pool).messages)
posted P [] pool new h = h
posted P (m ∷ ms) pool new h = posted P ms (send m pool) (All-tail P m ms new) (sent (is_full pool) refl)
  where
    sent : (b : Bool) → is_full pool ≡ b → All P (values_of (send m pool).messages)
    sent true e = rw e h
    sent false e = rw e (All-values-insert_entry nat_cmp pool.next m P pool.messages h (All-head P m ms new))

pub among_after : (m : Message) (ms sent : List Message) → IsAmong m sent → IsAmong m (ms ++ sent)
among_after m [] sent k = k
among_after m (x ∷ ms) sent k = inr (among_after m ms sent k)

-- what was under way is so with more that was sent
pub under_way_more : (g : ℕ) (ms sent ws : List Message) → All (IsUnderWay g sent) ws → All (IsUnderWay g (ms ++ sent)) ws
under_way_more g ms sent ws h = All-weaker (IsUnderWay g sent) (IsUnderWay g (ms ++ sent)) (λ m k of. among_after m ms sent (k of)) ws h

-- and so is what is sent
pub under_way_now : (g : ℕ) (ms sent : List Message) → All (IsUnderWay g (ms ++ sent)) ms
under_way_now g [] sent = All-nil (IsUnderWay g sent)
under_way_now g (m ∷ ms) sent =
    All-cons (IsUnderWay g (m ∷ ms ++ sent)) m ms (λ of. inl refl)
    (All-weaker (IsUnderWay g (ms ++ sent)) (IsUnderWay g (m ∷ ms ++ sent)) (λ x k of. inr (k of)) ms (under_way_now g ms sent))

-- messages that are not of the shard's copies are under way whatever was sent
pub under_way_beside : (g : ℕ) (sent ms : List Message) → All (λ m. IsOfCopies g m → ⊥) ms → All (IsUnderWay g sent) ms
under_way_beside g sent ms h = All-weaker (λ m. IsOfCopies g m → ⊥) (IsUnderWay g sent) (λ m k of. absurd (k of)) ms h

-- ---- what is sent

pub rounds_beside : (g shard : ℕ) (sends : List Sent) → All (λ m. IsOfCopies g m → ⊥) (round_messages shard sends)
rounds_beside g shard [] = All-nil (λ m. IsOfCopies g m → ⊥)
rounds_beside g shard (s ∷ sends) = All-cons (λ m. IsOfCopies g m → ⊥) _ (round_messages shard sends) (λ of. of) (rounds_beside g shard sends)

pub rounds_within : (shape : Shape) (shard : ℕ) (sends : List Sent) → All (IsWithin shape) (round_messages shard sends)
rounds_within shape shard [] = All-nil (IsWithin shape)
rounds_within shape shard (s ∷ sends) = All-cons (IsWithin shape) _ (round_messages shard sends) tt (rounds_within shape shard sends)

all_flat_map : {X : Type 0} (P : Message → Type 0) (f : X → List Message) (xs : List X) → All (λ x. All P (f x)) xs → All P (flat_map f xs)
all_flat_map P f [] h = All-nil P
all_flat_map P f (x ∷ xs) h = All-append P (f x) (flat_map f xs) (All-head (λ x. All P (f x)) x xs h) (all_flat_map P f xs (All-tail (λ x. All P (f x)) x xs h))

all_any : {X : Type 0} (P : X → Type 0) (xs : List X) → ((x : X) → P x) → All P xs
all_any P [] h = All-nil P
all_any P (x ∷ xs) h = All-cons P x xs (h x) (all_any P xs h)

-- a peer from n on, before n and so many
abbrev IsFrom : ℕ → ℕ → ℕ × Replica → Type 0
IsFrom n k x = (n ≤ x.0) × (x.0 < n + k)

numbered_from : (n : ℕ) (cs : List Replica) → All (IsFrom n (length cs)) (enumerate_from n cs)
numbered_from n [] = All-nil (IsFrom n 0)
numbered_from n (c ∷ cs) =
    All-cons (IsFrom n (length (c ∷ cs))) (n, c) (enumerate_from (n + 1) cs) (omega arith, omega arith)
    (All-weaker (IsFrom (n + 1) (length cs)) (IsFrom n (length (c ∷ cs))) (λ x h. (omega (arith, h.0), omega (arith, h.1))) (enumerate_from (n + 1) cs) (numbered_from (n + 1) cs))

module _ (shape : Shape) (x : Group) (same : x.shape ≡ shape) (few : length x.copies ≤ shape.copies) where
  own : (peer : ℕ) → IsHome x peer → IsOf shape x.shard peer
  own peer h = rw (← same) (home_shard x peer h)

  others_own : All (λ (y : ℕ × Replica). IsOf shape x.shard y.0) (others x)
  others_own =
      All-filter _ (λ (y : ℕ × Replica). IsOf shape x.shard y.0) (enumerate_from (first_peer x) x.copies)
      (All-weaker (IsFrom (first_peer x) (length x.copies)) (λ (y : ℕ × Replica). IsOf shape x.shard y.0)
      (λ y h. own y.0 (h.0, let n = ap (λ (k : Shape). k.copies) same in omega (arith, h.1, few, n))) (enumerate_from (first_peer x) x.copies) (numbered_from (first_peer x) x.copies))

  pub proposal_within : (entry : Entry) → All (IsWithin shape) (proposal entry x)
  proposal_within entry = All-map (IsWithin shape) (λ (y : ℕ × Replica). message.Copy x.shard y.0 x.view (last_number x + 1) entry) (others x) others_own

  copies_within : (peer above : ℕ) → IsOf shape x.shard peer → All (IsWithin shape) (copies_above peer above x)
  copies_within peer above h =
      All-map (IsWithin shape) (λ (e : ℕ × Entry). message.Copy x.shard peer x.view e.0 e.1) (entries_above above x)
      (all_any (λ (e : ℕ × Entry). IsOf shape x.shard peer) (entries_above above x) (λ e. h))

  all_copies : (above : ℕ × Replica → ℕ) → All (IsWithin shape) (flat_map (λ (y : ℕ × Replica). copies_above y.0 (above y) x) (others x))
  all_copies above =
      all_flat_map (IsWithin shape) (λ (y : ℕ × Replica). copies_above y.0 (above y) x) (others x)
      (All-weaker (λ (y : ℕ × Replica). IsOf shape x.shard y.0) (λ (y : ℕ × Replica). All (IsWithin shape) (copies_above y.0 (above y) x)) (λ y h. copies_within y.0 (above y) h) (others x) others_own)

  pub renewal_within : All (IsWithin shape) (renewal x)
  renewal_within = all_copies (λ y. length y.1.stamps)

  pub have_within : (peer sealed : ℕ) → IsOf shape x.shard peer → All (IsWithin shape) (have peer sealed x)
  have_within peer sealed h = go (is_peer peer (lead x))
    where
      go : (b : Bool) → All (IsWithin shape) (if b then [] else map (λ l. message.Have x.shard peer l x.view sealed) (option_to_list (lead x)))
      go true = All-nil (IsWithin shape)
      go false = All-map (IsWithin shape) (λ l. message.Have x.shard peer l x.view sealed) (option_to_list (lead x)) (all_any (λ (l : ℕ). IsOf shape x.shard peer) (option_to_list (lead x)) (λ l. h))

  pub resend_within : (peer : ℕ) → IsOf shape x.shard peer → All (IsWithin shape) (resend peer x)
  resend_within peer h = go (is_peer peer (lead x))
    where
      go : (b : Bool) → All (IsWithin shape) (if b then flat_map (λ (y : ℕ × Replica). copies_above y.0 y.1.known x) (others x) else have peer (copy_of x peer).sealed x)
      go true = all_copies (λ y. y.1.known)
      go false = have_within peer (copy_of x peer).sealed h

-- what another shard sends is not of this one's copies
module _ (x : Group) (g : ℕ) (n : x.shard ≢ g) where
  copies_beside : (peer above : ℕ) → All (λ m. IsOfCopies g m → ⊥) (copies_above peer above x)
  copies_beside peer above = All-map (λ m. IsOfCopies g m → ⊥) (λ (e : ℕ × Entry). message.Copy x.shard peer x.view e.0 e.1) (entries_above above x) (all_any (λ (e : ℕ × Entry). x.shard ≡ g → ⊥) (entries_above above x) (λ e. n))

  all_beside : (above : ℕ × Replica → ℕ) → All (λ m. IsOfCopies g m → ⊥) (flat_map (λ (y : ℕ × Replica). copies_above y.0 (above y) x) (others x))
  all_beside above = all_flat_map (λ m. IsOfCopies g m → ⊥) (λ (y : ℕ × Replica). copies_above y.0 (above y) x) (others x) (all_any (λ (y : ℕ × Replica). All (λ m. IsOfCopies g m → ⊥) (copies_above y.0 (above y) x)) (others x) (λ y. copies_beside y.0 (above y)))

  pub proposal_beside : (entry : Entry) → All (λ m. IsOfCopies g m → ⊥) (proposal entry x)
  proposal_beside entry = All-map (λ m. IsOfCopies g m → ⊥) (λ (y : ℕ × Replica). message.Copy x.shard y.0 x.view (last_number x + 1) entry) (others x) (all_any (λ (y : ℕ × Replica). x.shard ≡ g → ⊥) (others x) (λ y. n))

  pub renewal_beside : All (λ m. IsOfCopies g m → ⊥) (renewal x)
  renewal_beside = all_beside (λ y. length y.1.stamps)

  pub have_beside : (peer sealed : ℕ) → All (λ m. IsOfCopies g m → ⊥) (have peer sealed x)
  have_beside peer sealed = go (is_peer peer (lead x))
    where
      go : (b : Bool) → All (λ m. IsOfCopies g m → ⊥) (if b then [] else map (λ l. message.Have x.shard peer l x.view sealed) (option_to_list (lead x)))
      go true = All-nil (λ m. IsOfCopies g m → ⊥)
      go false = All-map (λ m. IsOfCopies g m → ⊥) (λ l. message.Have x.shard peer l x.view sealed) (option_to_list (lead x)) (all_any (λ (l : ℕ). x.shard ≡ g → ⊥) (option_to_list (lead x)) (λ l. n))

  pub resend_beside : (peer : ℕ) → All (λ m. IsOfCopies g m → ⊥) (resend peer x)
  resend_beside peer = go (is_peer peer (lead x))
    where
      go : (b : Bool) → All (λ m. IsOfCopies g m → ⊥) (if b then flat_map (λ (y : ℕ × Replica). copies_above y.0 y.1.known x) (others x) else have peer (copy_of x peer).sealed x)
      go true = all_beside (λ y. y.1.known)
      go false = have_beside peer (copy_of x peer).sealed
