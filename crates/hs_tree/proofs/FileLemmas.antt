-- A file is stored, part by part.
use Rattle.std.proofs.Common.{◌≡◌, inl, ℕ, ◌≤◌, List, [], ◌∷◌, ◌++◌, Option, refl, sym, ap, ◌∙◌, subst, arith, append-nil}
use Rattle.hs_asking.proofs.HandLemmas.{all_right}
use Rattle.hs_asking.specs.Shown.{Shown}
use Rattle.hs_limits.specs.declared.address.Address.{Address}
use Rattle.hs_model.specs.declared.op.Op.{Op}
use Rattle.hs_model.specs.declared.op.Op.TheVariants as op
use Rattle.hs_model.specs.declared.reply.Reply.TheVariants as reply
use Rattle.hs_ports.specs.Source.{before}
use Rattle.hs_tree.proofs.EndLemmas.{ends_stored, root_stops, root_unfinished}
use Rattle.hs_tree.proofs.GatherLemmas.{before_none}
use Rattle.hs_tree.specs.Calls.{CallFails, Hears}
use Rattle.hs_tree.specs.Growing.{HasTop, IsGrown, IsHalted, IsOpenAndWork, IsStopped, IsWork, as_writes}
use Rattle.hs_tree.specs.Storing.{HasGathered, HasStored, IsTaking, IsUnderWay, IsUnfinished, IsUnwritten, IsWhole, our_session}
use Rattle.hs_tree.specs.Trees.{stored_cut, tree_of}
use Rattle.hs_tree.specs.declared.fault.TreeFault.{TreeFault}
use Rattle.hs_tree.specs.declared.grow.Node.{Node}

first_here : {tells : Type 0} → (name : List ℕ → Address) (old mid : Shown tells) → IsGrown name our_session old mid [] [] → IsTaking name our_session old mid [] [] []
first_here name old mid h = record {
  gathering = record { tops = []; pieces = []; grown = h; uppers = refl; lowers = refl; few = omega arith; full_tops = tt; full_pieces = tt; whole = refl };
  some = λ p. absurd (omega (arith, p));
  fits = omega arith;
}

-- nothing was taken yet
pub first_taking : {tells : Type 0} → (name : List ℕ → Address) (session : List ℕ) (old mid : Shown tells) (u l : List Node) → session ≡ our_session → u ≡ [] → l ≡ [] → IsGrown name our_session old mid [] [] → IsTaking name session old mid u l []
first_taking name session old mid u l e f g h =
    subst (λ z. IsTaking name z old mid u l []) (sym e) (subst (λ z. IsTaking name our_session old mid z l []) (sym f) (subst (λ z. IsTaking name our_session old mid [] z []) (sym g) (first_here name old mid h)))

pub first_under_way : {tells : Type 0} → (name : List ℕ → Address) (session : List ℕ) (old mid : Shown tells) (u l : List Node) → session ≡ our_session → u ≡ [] → l ≡ [] → IsGrown name our_session old mid [] [] → IsUnderWay name session mid u l 0
first_under_way name session old mid u l e f g h = record { start = old; file = []; taking = first_taking name session old mid u l e f g h; counted = refl }

pub whole_from : {tells : Type 0} → (name : List ℕ → Address) (session : List ℕ) (start now : Shown tells) (left left' : Option (List ℕ)) (u l : List Node) (bytes : ℕ) → HasGathered name session start now left left' u l bytes → IsWhole name session now u l bytes
whole_from name session start now left left' u l bytes h = record { start = start; file = h.file; gathered = h.gathered; counted = h.counted; fits = subst (λ z. z ≤ 67108864) (sym h.counted) h.fits }

pub stopped_as : {tells : Type 0} → (session key : List ℕ) (start now : Shown tells) (f : TreeFault) → session ≡ our_session → IsStopped session key start now f → IsStopped our_session key start now f
stopped_as session key start now f e h = subst (λ z. IsStopped z key start now f) e h

pub stored_at_last : {tells : Type 0} → (name : List ℕ → Address) (session key : List ℕ) (start mid old new : Shown tells) (left left' : Option (List ℕ)) (u l : List Node) (bytes : ℕ) (n : Node) → session ≡ our_session → (h : HasGathered name session start mid left left' u l bytes) → HasTop name session start old n h.file → Hears old new (op.Root session key n.handle) reply.Ok → HasStored name key start new left left' bytes
stored_at_last name session key start mid old new left left' u l bytes n e h t w =
    ends_stored name key start old new n h.file (subst (λ z. HasTop name z start old n h.file) e t) left left' bytes h.counted h.fits h.stream h.ended (subst (λ z. Hears old new (op.Root z key n.handle) reply.Ok) e w)

pub root_stopped : {tells : Type 0} → (name : List ℕ → Address) (session key : List ℕ) (start old new : Shown tells) (n : Node) (file : List ℕ) (f : TreeFault) → session ≡ our_session → HasTop name session start old n file → CallFails old new (op.Root session key n.handle) f → IsStopped our_session key start new f
root_stopped name session key start old new n file f e t c = root_stops name key start old new n file (subst (λ z. HasTop name z start old n file) e t) f (subst (λ z. CallFails old new (op.Root z key n.handle) f) e c)

-- ---- what was written until it stopped

no_root : (session : List ℕ) (ops front : List Op) (s k : List ℕ) (handle : ℕ) → IsOpenAndWork session ops → ops ≡ front ++ op.Root s k handle ∷ [] → ⊥
no_root session ops front s k handle h e = go front (subst (λ z. IsOpenAndWork session z) e h)
  where
    go : (front : List Op) → IsOpenAndWork session (front ++ op.Root s k handle ∷ []) → ⊥
    go [] w = cc w.0
    go (x ∷ xs) w = (all_right (IsWork session) xs (op.Root s k handle ∷ []) w.1).0

module _ {tells : Type 0} (name : List ℕ → Address) (start now : Shown tells) (left left' : Option (List ℕ)) where
  -- nothing
  pub none_unfinished : left' ≡ left → IsUnwritten start now → IsUnfinished name start now left left'
  none_unfinished same u = record {
    file = [];
    stream = before_none left' ∙ same;
    ops = u.ops;
    asked = u.asked;
    back = as_writes name (tree_of stored_cut name []);
    writes = ap (λ z. z ++ as_writes name (tree_of stored_cut name [])) u.writes;
    whole = λ front s k handle e. absurd (no_root our_session u.ops front s k handle u.work e);
    root = inl (our_session, u.work);
  }

  -- a front of the tree
  pub halted_unfinished : (session key file : List ℕ) (f : TreeFault) → before file left' ≡ left → IsHalted name session key start now (tree_of stored_cut name file) f → IsUnfinished name start now left left'
  halted_unfinished session key file f stream h = record {
    file = file;
    stream = stream;
    ops = op.Open session ∷ h.ops;
    asked = h.asked;
    back = h.back;
    writes = h.writes;
    whole = λ front s k handle e. absurd (no_root session (op.Open session ∷ h.ops) front s k handle (refl, h.work) e);
    root = inl (session, (refl, h.work));
  }

pub nothing_unwritten : {tells : Type 0} (start : Shown tells) → IsUnwritten start start
nothing_unwritten start = record { ops = []; asked = sym (append-nil start.asked); work = tt; writes = refl }

pub root_left : {tells : Type 0} → (name : List ℕ → Address) (session key : List ℕ) (start mid old new : Shown tells) (left left' : Option (List ℕ)) (u l : List Node) (bytes : ℕ) (n : Node) (f : TreeFault) → session ≡ our_session → (h : HasGathered name session start mid left left' u l bytes) → HasTop name session start old n h.file → CallFails old new (op.Root session key n.handle) f → IsUnfinished name start new left left'
root_left name session key start mid old new left left' u l bytes n f e h t c =
    root_unfinished name key start old new n h.file (subst (λ z. HasTop name z start old n h.file) e t) left left' f h.fits h.stream h.ended (subst (λ z. CallFails old new (op.Root z key n.handle) f) e c)
