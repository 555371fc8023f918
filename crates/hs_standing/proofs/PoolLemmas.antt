-- What is under way behind some messages more.
use Rattle.std.proofs.Common.{◌≡◌, sym, subst, inl, inr, Bool, true, false, List, [], ◌∷◌, map, flat_map, All, refl}
use Rattle.std.proofs.lemmas.Map.Views.{All-values-insert_entry}
use Rattle.std.specs.Map.{values_of}
use Rattle.std.specs.Ordering.{nat_cmp}
use Rattle.hs_model.proofs.Members.{Member, member-append, member_of_map}
use Rattle.hs_post.specs.declared.message.Message.{Message}
use Rattle.hs_post.specs.Pool.{Pool, is_full, send}
use Rattle.hs_replica.specs.Group.{send_all}

-- what holds of all that is under way and of all that is sent holds of all that is under way then
pub all_sent : (P : Message → Type 0) (ms : List Message) (pool : Pool) → ((m : Message) → Member m ms → P m) → All P (values_of pool.messages) → All P (values_of (send_all ms pool).messages)
all_sent P [] pool h all = all
all_sent P (m ∷ ms) pool h all = all_sent P ms (send m pool) (λ x k. h x (inr k)) (one (is_full pool) refl)
  where
    one : (b : Bool) → is_full pool ≡ b → All P (values_of (send m pool).messages)
    one true e = rw e all
    one false e = rw e (All-values-insert_entry nat_cmp pool.next m P pool.messages all (h m (inl refl)))

-- what holds of each that is made of an item holds of all
pub of_each : {X Y : Type 0} (P : Y → Type 0) (f : X → Y) → ((x : X) → P (f x)) → (xs : List X) (y : Y) → Member y (map f xs) → P y
of_each P f h xs y k = let r = member_of_map f y xs k in subst P (sym r.2) (h r.0)

pub of_all : {X Y : Type 0} (P : Y → Type 0) (f : X → List Y) → ((x : X) (y : Y) → Member y (f x) → P y) → (xs : List X) (y : Y) → Member y (flat_map f xs) → P y
of_all P f h [] y k = elim k [ ]
of_all P f h (x ∷ xs) y k = elim (member-append y (f x) (flat_map f xs) k) [ inl here ↦ h x y here | inr later ↦ of_all P f h xs y later ]
