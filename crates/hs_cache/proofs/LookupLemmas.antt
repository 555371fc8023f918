-- What is found behind a look-up that brings a pair to the front.
use Rattle.std.proofs.Common.{◌≡◌, ◌∙◌, ap, sym, refl, Bool, true, false, List, [], ◌∷◌, Option, Some, None}
use Rattle.std.specs.Map.{lookup, lookup_entry, remove_entry}
use Rattle.std.specs.Option.{option_map, option_map_or}
use Rattle.std.specs.Prelude.{cond}
use Rattle.lru.proofs.CallerLemmas.{Contains-lookup_entry}
use Rattle.lru.specs.LruCache.{promoted}

module _ {K V : Type 0} (test : K → Bool) where
  lookup_is : (es : List (K × V)) → lookup test es ≡ option_map (λ e. e.1) (lookup_entry test es)
  lookup_is [] = refl
  lookup_is (e ∷ es) = step (lookup_is es) (test e.0)
    where
      step : lookup test es ≡ option_map (λ e. e.1) (lookup_entry test es) → (b : Bool) → cond b (Some e.1) (lookup test es) ≡ option_map (λ e. e.1) (cond b (Some e) (lookup_entry test es))
      step later true = refl
      step later false = later

  -- it finds the same again
  pub lookup_promoted : (es : List (K × V)) → lookup test (promoted test es) ≡ lookup test es
  lookup_promoted es = go (lookup_entry test es) refl
    where
      go : (o : Option (K × V)) → lookup_entry test es ≡ o → lookup test (option_map_or (λ e. e ∷ remove_entry test es) o es) ≡ lookup test es
      go None is = refl
      go (Some f) is = ap (λ b. cond b (Some f.1) (lookup test (remove_entry test es))) (Contains-lookup_entry test es f is).1 ∙ sym (lookup_is es ∙ ap (option_map (λ e. e.1)) is)
