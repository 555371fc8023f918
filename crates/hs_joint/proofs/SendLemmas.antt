-- What a shard sends is told whole to each shard, where all that it names is present.
use Rattle.std.proofs.Common.{◌≡◌, inl, inr, ℕ, ◌+◌, ◌<◌, ◌≤◌, ◌==◌, List, [], ◌∷◌, length, map, filter, refl, sym, ap, ◌∙◌, subst, arith}
use Rattle.std.specs.List.Sorted.{IsStrictlySortedBy}
use Rattle.std.specs.Map.{keys_of}
use Rattle.hs_limits.specs.declared.address.Address.{Address}
use Rattle.hs_limits.specs.Shape.{shard_of}
use Rattle.hs_model.specs.Store.{address_cmp}
use Rattle.hs_model.proofs.Members.{Member}
use Rattle.hs_rounds.specs.Changes.{changes_for}
use Rattle.hs_deletion.specs.Records.{BlockRecord}
use Rattle.hs_deletion.specs.Machine.{Machine}
use Rattle.hs_deletion.specs.Rounds.{times}
use Rattle.hs_deletion.specs.Anchors.{IsThere}
use Rattle.hs_deletion.specs.Following.{AreFollowing}
use Rattle.hs_fold.specs.Catalogue.{Present}
use Rattle.hs_fold.specs.Runs.Facts.{Facts, Catalogue}
use Rattle.hs_fold.specs.Runs.Fits.{catalogue_at}
use Rattle.hs_fold.specs.Runs.Own.{IsOwn, AreOwn}
use Rattle.hs_fold.specs.Runs.Told.{tally}
use Rattle.hs_joint.specs.Seen.{layout_of, repeated, all_seen}
use Rattle.hs_joint.proofs.CutLemmas.{times_told, whole_told}
use Rattle.hs_joint.proofs.ReachedLemmas.{here_at}
use Rattle.hs_joint.proofs.StandLemmas.{own_at}

key_member : {V : Type 0} (e : Address × V) (es : List (Address × V)) → Member e es → Member e.0 (keys_of es)
key_member e [] m = elim m [ ]
key_member {V} e (x ∷ es) (inl q) = inl (ap (λ (y : Address × V). y.0) q)
key_member e (x ∷ es) (inr m) = inr (key_member e es m)

pub plain_keys : (es : List (Address × Facts)) → keys_of (map {B = Address × Present} (λ (e : Address × Facts). (e.0, e.1.present)) es) ≡ keys_of es
plain_keys [] = refl
plain_keys (e ∷ es) = ap (λ ks. e.0 ∷ ks) (plain_keys es)

length_keys : (es : List (Address × Facts)) → length (keys_of es) ≡ length es
length_keys [] = refl
length_keys (e ∷ es) = let rest = length_keys es in omega (arith, rest)

pub ordered_keys : (n g : ℕ) (c : Catalogue) → IsOwn n g c → IsStrictlySortedBy address_cmp (keys_of c.blocks)
ordered_keys n g c own = subst (λ ks. IsStrictlySortedBy address_cmp ks) (plain_keys c.blocks) own.mine.ordered

module _ (n : ℕ) (some : 0 < n) (cs : List Catalogue) (each : length cs ≡ n) (own : AreOwn n 0 cs) (m : Machine) (follow : AreFollowing (layout_of n some) m (all_seen cs)) where
  among : (to : ℕ) → to < n → (xs : List Address) → ((a : Address) → Member a xs → shard_of n a ≡ to → IsThere m.blocks a) → (a : Address) → Member a xs → shard_of n a ≡ to → Member a (keys_of (catalogue_at cs to).blocks)
  among to lt xs there a k e =
      let t = there a k e in
      let o = here_at n some cs each own m follow t.block t.stands in
      let at : o.0.0 ≡ a = sym (ap (λ (b : BlockRecord). b.address) o.2) ∙ t.here in
      let place : shard_of n t.block.address ≡ to = ap (λ x. shard_of n x) t.here ∙ e in
      let inside : Member o.0 (catalogue_at cs to).blocks = subst (λ j. Member o.0 (catalogue_at cs j).blocks) place o.1 in
      subst (λ x. Member x (keys_of (catalogue_at cs to).blocks)) at (key_member o.0 (catalogue_at cs to).blocks inside)

  ordered : (to : ℕ) → to < n → IsStrictlySortedBy address_cmp (keys_of (catalogue_at cs to).blocks)
  ordered to lt = ordered_keys n (0 + to) (catalogue_at cs to) (own_at n 0 cs own to (omega (arith, lt, each)))

  fits : (to : ℕ) → length (catalogue_at cs to).blocks ≤ 16384 → length (keys_of (catalogue_at cs to).blocks) ≤ 16384
  fits to room = let same = length_keys (catalogue_at cs to).blocks in omega (arith, same, room)

  pub told_whole : (to : ℕ) → to < n → length (catalogue_at cs to).blocks ≤ 16384 → (xs : List Address) → ((a : Address) → Member a xs → shard_of n a ≡ to → IsThere m.blocks a)
      → (a : Address) → shard_of n a ≡ to → times a (repeated (changes_for n (tally xs) to)) ≡ times a (repeated (tally xs))
  told_whole to lt room xs there = times_told n to xs (keys_of (catalogue_at cs to).blocks) (ordered to lt) (among to lt xs there) (fits to room)

  pub part_whole : (to : ℕ) → to < n → length (catalogue_at cs to).blocks ≤ 16384 → (xs : List Address) → ((a : Address) → Member a xs → shard_of n a ≡ to → IsThere m.blocks a)
      → changes_for n (tally xs) to ≡ filter (λ d. shard_of n d.address == to) (tally xs)
  part_whole to lt room xs there = whole_told n to xs (keys_of (catalogue_at cs to).blocks) (ordered to lt) (among to lt xs there) (fits to room)
