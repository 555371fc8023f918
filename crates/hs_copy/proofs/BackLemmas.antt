-- What an address leads to later it led to before, where all of it stays.
use Rattle.std.proofs.Common.{◌≡◌, ◌∙◌, inl, List, [], ◌∷◌, ℕ, refl, sym, subst, Contains}
use Rattle.hs_asking.specs.Staying.{Stays}
use Rattle.hs_copy.proofs.CopiedLemmas.{reached_more}
use Rattle.hs_copy.proofs.ListingLemmas.{from_top}
use Rattle.hs_copy.proofs.WholeLemmas.{get_member}
use Rattle.hs_copy.specs.Copied.{IsCopied}
use Rattle.hs_copy.specs.Listing.{KeepsItsOwn, ReachesMore}
use Rattle.hs_copy.specs.Whole.{HasListedAt, IsListCause, IsWhole}
use Rattle.hs_copy.specs.declared.fault.PartFault.{PartFault}
use Rattle.hs_copy.specs.declared.fault.PartFault.TheVariants as part
use Rattle.hs_copy.specs.declared.list.Listed.{Listed}
use Rattle.hs_limits.specs.declared.address.Address.{Address}
use Rattle.hs_model.proofs.Members.{Member, contains_from_member}
use Rattle.hs_model.specs.Reach.{IsReached, Leads, pointers_of}
use Rattle.hs_model.specs.Store.{Store, block_at}

pub reached_top : (s : Store) (top : Address) → IsReached s (top ∷ []) top
reached_top s top = record { start = top; path = []; anchored = contains_from_member top (top ∷ []) (inl refl); leads = refl }

module _ (s t : Store) (top : Address) (st : Stays s t top) where
  pub same_at : (a : Address) → IsReached s (top ∷ []) a → block_at t a ≡ block_at s a
  same_at a r = st.blocks r.path a (from_top s top a r)

  back_along : (x : Address) → IsReached s (top ∷ []) x → (path : List Address) (a : Address) → Leads t x path a → IsReached s (top ∷ []) a
  back_along x r [] a l = subst (λ z. IsReached s (top ∷ []) z) l r
  back_along x r (next ∷ path) a l = back_along next (reached_more s top x next r (subst (λ z. Contains (pointers_of z) next) (same_at x r) l.0)) path a l.1

  pub reached_back : (a : Address) → IsReached t (top ∷ []) a → IsReached s (top ∷ []) a
  reached_back a r = back_along top (reached_top s top) r.path a (from_top t top a r)

  listed_back : (found : List Address) (n : ℕ) (x : Listed) → ((a : Address) → Member a found → IsReached t (top ∷ []) a) → HasListedAt t found n x → HasListedAt s found n x
  listed_back found n x reached h =
      let r : IsReached s (top ∷ []) h.address = reached_back h.address (reached h.address (get_member found n h.address h.at)) in
      record { address = h.address; at = h.at; stored = h.stored; present = sym (same_at h.address r) ∙ h.present; bytes = h.bytes; pointers = h.pointers }

  pub whole_back : (found : List Address) (listed : List Listed) → IsWhole t top found listed → IsWhole s top found listed
  whole_back found listed h = record {
    first = h.first;
    counted = h.counted;
    once = h.once;
    reached = λ a c. reached_back a (h.reached a c);
    blocks = λ n x e. listed_back found n x (λ a m. h.reached a (contains_from_member a found m)) (h.blocks n x e);
  }

  more_back : (n : ℕ) → ReachesMore t top n → ReachesMore s top n
  more_back n h = record { list = h.list; once = h.once; reached = λ a c. reached_back a (h.reached a c); more = h.more }

  pub cause_back : (f : PartFault) → IsListCause t top f → IsListCause s top f
  cause_back (part.Core core) h = tt
  cause_back (part.Refused told) h = absurd h
  cause_back part.TooMany h = more_back 4000 h
  cause_back part.NoMemory h = tt

-- a key that is copied stays so where its store keeps its own
pub copied_later : (s t u : Store) (key : List ℕ) → KeepsItsOwn s t → IsCopied s u key → IsCopied t u key
copied_later s t u key own h =
    let st : Stays s t h.root.address = own.blocks key h.root h.kept in
    record {
      root = h.root;
      kept = own.roots key h.root h.kept;
      copy = h.copy;
      kept_there = h.kept_there;
      same = h.same;
      blocks = λ a r.
          let before : IsReached s (h.root.address ∷ []) a = reached_back s t h.root.address st a r in
          let alike = h.blocks a before in
          record { stored = alike.stored; present = same_at s t h.root.address st a before ∙ alike.present; there = alike.there };
    }
