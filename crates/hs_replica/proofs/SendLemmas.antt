-- Sending messages one after another.
use Rattle.std.proofs.Common.{◌≡◌, ℕ, zero, suc, ◌+◌, ◌-◌, ◌<◌, ◌≤◌, Bool, true, false, not, ◌&&◌, Option, List, [], ◌∷◌, ◌++◌, arith, refl, drop, length, map, flat_map, slice_index_or, ap, sym, ◌∙◌}
use Rattle.std.proofs.lemmas.List.{drop_all, drop_more}
use Rattle.std.proofs.lemmas.List.FromFn.{length-enumerate_from}
use Rattle.std.specs.List.{enumerate_from}
use Rattle.hs_entry.specs.declared.entry.Entry.TheVariants.{View}
use Rattle.hs_members.specs.Members.{Members, view_of}
use Rattle.hs_post.specs.declared.message.Message.{Message}
use Rattle.hs_post.specs.declared.message.Message.TheVariants.{Copy}
use Rattle.hs_post.specs.Pool.{Pool, send}
use Rattle.hs_replica.specs.declared.replica.Replica.{Replica}
use Rattle.hs_replica.specs.declared.sending.Since.{Since}
use Rattle.hs_replica.specs.Group.{Group, copies_above, is_peer, no_copy, others_from, proposal, renew, renewal, send_all, view_messages}
use Rattle.hs_replica.specs.Sending.{above, send_if_other}

pub send_append : (xs ys : List Message) (pool : Pool) → send_all (xs ++ ys) pool ≡ send_all ys (send_all xs pool)
send_append [] ys pool = refl
send_append (x ∷ xs) ys pool = send_append xs ys (send x pool)

-- numbered behind the first k
pub drop_enumerate : {X : Type 0} (k n : ℕ) (xs : List X) → drop k (enumerate_from n xs) ≡ enumerate_from (n + k) (drop k xs)
drop_enumerate zero n xs = let same : n + 0 ≡ n = omega arith in rw same refl
drop_enumerate (suc k) n [] = refl
drop_enumerate (suc k) n (x ∷ xs) = let same : n + suc k ≡ n + 1 + k = omega arith in rw same (drop_enumerate k (n + 1) xs)

-- no entry that waits has a number above this one
pub none_above : (to above : ℕ) (group : Group) → length group.waiting ≤ above - group.front → copies_above to above group ≡ []
none_above to above group l = ap (map (λ e. Copy group.shard to group.view e.0 e.1))
    (drop_all (above - group.front) (enumerate_from (group.front + 1) group.waiting) (omega (arith, l, length-enumerate_from (group.front + 1) group.waiting)))

-- those above it, numbered from there on
pub some_above : (to above : ℕ) (group : Group) → copies_above to above group
    ≡ map (λ e. Copy group.shard to group.view e.0 e.1) (enumerate_from (group.front + 1 + (above - group.front)) (drop (above - group.front) group.waiting))
some_above to above group = ap (map (λ e. Copy group.shard to group.view e.0 e.1)) (drop_enumerate (above - group.front) (group.front + 1) group.waiting)

-- what the copies from this one on are sent: what this one is sent, and then what the others are
pub since_next : (group : Group) (since : Since) (lead : Option ℕ) (peer i : ℕ) (cs : List Replica) (pool : Pool) → i < length cs
    → send_all (flat_map (λ x. copies_above x.0 (above since x.1) group) (others_from lead (peer + i) (drop i cs))) pool
    ≡ send_all (flat_map (λ x. copies_above x.0 (above since x.1) group) (others_from lead (peer + (i + 1)) (drop (i + 1) cs)))
    (send_if_other group since lead (peer + i) (slice_index_or cs i no_copy) pool)
since_next group since lead peer i cs pool l =
    let next : peer + (i + 1) ≡ peer + i + 1 = omega arith in
    rw (next, drop_more cs i no_copy l) (first (peer + i) (slice_index_or cs i no_copy) (drop (i + 1) cs))
  where
    first : (p : ℕ) (c : Replica) (rest : List Replica)
        → send_all (flat_map (λ x. copies_above x.0 (above since x.1) group) (others_from lead p (c ∷ rest))) pool
        ≡ send_all (flat_map (λ x. copies_above x.0 (above since x.1) group) (others_from lead (p + 1) rest)) (send_if_other group since lead p c pool)
    first p c rest = go (c.good && not (is_peer p lead)) refl
      where
        go : (b : Bool) → (c.good && not (is_peer p lead)) ≡ b
            → send_all (flat_map (λ x. copies_above x.0 (above since x.1) group) (others_from lead p (c ∷ rest))) pool
            ≡ send_all (flat_map (λ x. copies_above x.0 (above since x.1) group) (others_from lead (p + 1) rest)) (send_if_other group since lead p c pool)
        go true e = rw e (send_append (copies_above p (above since c) group) (flat_map (λ x. copies_above x.0 (above since x.1) group) (others_from lead (p + 1) rest)) pool)
        go false e = rw e refl

-- a new view: what the others lack is sent first, and then the View
pub view_sent : (members : Members) (old new : Group) (before between after : Pool) (view : ℕ) → new ≡ renew members old → view ≡ view_of old.shard members
    → between ≡ send_all (renewal new) before → after ≡ send_all (proposal (View view) new) between → after ≡ send_all (view_messages members old) before
view_sent members old new before between after view n v b a =
    a ∙ (ap (send_all (proposal (View view) new)) b
    ∙ (sym (send_append (renewal new) (proposal (View view) new) before)
    ∙ rw (n, v) refl))
