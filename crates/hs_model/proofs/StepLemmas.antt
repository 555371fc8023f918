-- One step of following pointers: what is reached from one more address is that address, and what the others and its pointers reach without it.
use Rattle.std.proofs.Common.{◌≡◌, ◌⊎◌, inl, inr, List, [], ◌∷◌, ◌++◌, Bool, true, false, cond, refl, sym, subst}
use Rattle.hs_limits.specs.declared.address.Address.{Address}
use Rattle.hs_model.specs.Reach.{is_same}
use Rattle.hs_model.proofs.Members.{Member, member-append_left, member-append_right, member-append, same-refl, same_from}
use Rattle.hs_model.proofs.ReachLemmas.{Reached, Reached-each, start, onward, Among}

-- reached where each address has these pointers
abbrev pub Follows : (Address → List Address) → List Address → Address → Type 0
Follows f from b = Reached (Among from) (λ a b. Member b (f a)) b

-- the pointers of an address are given up
abbrev pub Without : (Address → List Address) → Address → (Address → List Address) → Type 0
Without f a g = (q : Address) → g q ≡ cond (is_same a q) [] (f q)

module _ (f g : Address → List Address) (work : List Address) (a : Address) (w : Without f a g) where
  here : g a ≡ []
  here = rw (w a, same-refl a)

  there : (x : Address) → is_same a x ≡ false → g x ≡ f x
  there x t = rw (w x, t)

  -- a pointer that is still there was there
  was : (x b : Address) → Member b (g x) → Member b (f x)
  was x b m = go (is_same a x) refl
    where
      go : (c : Bool) → is_same a x ≡ c → Member b (f x)
      go true t = let e : g x ≡ [] = rw (w x, t) in let n : Member b [] = subst (λ z. Member b z) e m in absurd n
      go false t = subst (λ z. Member b z) (there x t) m

  -- a pointer that was there is still there, or was of the address
  still : (x b : Address) → Member b (f x) → Member b (g x) ⊎ Member b (f a)
  still x b m = go (is_same a x) refl
    where
      go : (c : Bool) → is_same a x ≡ c → Member b (g x) ⊎ Member b (f a)
      go true t = inr (subst (λ z. Member b (f z)) (sym (same_from a x t)) m)
      go false t = inl (subst (λ z. Member b z) (sym (there x t)) m)

  pub follow_in : (b : Address) → Follows f (work ++ a ∷ []) b → (b ≡ a) ⊎ Follows g (work ++ f a) b
  follow_in b r = Reached-each (λ b. (b ≡ a) ⊎ Follows g (work ++ f a) b) begins goes b r
    where
      begins : (x : Address) → Member x (work ++ a ∷ []) → (x ≡ a) ⊎ Follows g (work ++ f a) x
      begins x m = elim (member-append x work (a ∷ []) m) [ inl n ↦ inr (start (member-append_left x work (f a) n)) | inr n ↦ elim n [ inl e ↦ inl e | inr o ↦ absurd o ] ]

      goes : (x b : Address) → Follows f (work ++ a ∷ []) x → (x ≡ a) ⊎ Follows g (work ++ f a) x → Member b (f x) → (b ≡ a) ⊎ Follows g (work ++ f a) b
      goes x b q (inl e) m = inr (start (member-append_right b work (f a) (subst (λ z. Member b (f z)) e m)))
      goes x b q (inr h) m = elim (still x b m) [ inl n ↦ inr (onward h n) | inr n ↦ inr (start (member-append_right b work (f a) n)) ]

  pub follow_out : (b : Address) → (b ≡ a) ⊎ Follows g (work ++ f a) b → Follows f (work ++ a ∷ []) b
  follow_out b (inl e) = start (member-append_right b work (a ∷ []) (inl e))
  follow_out b (inr r) = Reached-each (λ b. Follows f (work ++ a ∷ []) b) begins (λ x b q h m. onward h (was x b m)) b r
    where
      begins : (x : Address) → Member x (work ++ f a) → Follows f (work ++ a ∷ []) x
      begins x m = elim (member-append x work (f a) m) [ inl n ↦ start (member-append_left x work (a ∷ []) n) | inr n ↦ onward (start (member-append_right a work (a ∷ []) (inl refl))) n ]

-- from nothing nothing is reached
pub follow_none : (f : Address → List Address) (b : Address) → Follows f [] b → ⊥
follow_none f b r = Reached-each (λ b. ⊥) (λ x m. elim m [ ]) (λ x b q h m. h) b r
