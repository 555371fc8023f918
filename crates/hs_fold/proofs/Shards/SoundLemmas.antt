-- Sound lists stay sound.
use Rattle.std.proofs.Common.{◌≡◌, ℕ, zero, suc, ◌+◌, ◌<◌, ◌≤◌, List, [], ◌∷◌, length, map, refl, sym, ap, ◌∙◌, subst, arith}
use Rattle.std.proofs.lemmas.List.Elements.{All-cons, All-nil, All-head, All-tail}
use Rattle.std.specs.Prelude.{All, replicate}
use Rattle.hs_laws.proofs.PromiseLemmas.{empty_valid}
use Rattle.hs_laws.proofs.ValidLemmas.{valid_from_is, is_from_valid}
use Rattle.hs_laws.specs.Valid.{IsValid}
use Rattle.hs_model.specs.Store.{empty_store}
use Rattle.hs_fold.specs.Lawful.{list_at}
use Rattle.hs_fold.specs.Prefix.{last_of}
use Rattle.hs_fold.specs.Shards.Catalogue.{Catalogue, empty_catalogue, catalogue_of}
use Rattle.hs_fold.specs.Shards.Opened.{all_present, all_roots, store_of, catalogues}
use Rattle.hs_fold.specs.Shards.Parted.{Parted, done_lists, whole_lists, MayAllWait}
use Rattle.hs_fold.specs.Shards.Setting.{Numbered, Setting, shard_in}
use Rattle.hs_fold.specs.Shards.Sound.{HasRoom, HasRisingViews, AreSound, most_records}
use Rattle.hs_fold.proofs.Shards.LawfulLemmas.{whole-valid, whole-lawful}
use Rattle.hs_fold.proofs.Shards.RoomLemmas.{blocks-fit}

-- ---- room

pub rooms : (set : Setting) (g : ℕ) (lists : List Numbered) → All (λ (c : Catalogue). length c.roots ≤ most_records) (catalogues set g lists) → All HasRoom (catalogues set g lists)
rooms set g [] f = All-nil HasRoom
rooms set g (list ∷ lists) f =
    let rest = All-tail (λ (c : Catalogue). length c.roots ≤ most_records) (catalogue_of (shard_in set g) list) (catalogues set (g + 1) lists) f in
    All-cons HasRoom (catalogue_of (shard_in set g) list) (catalogues set (g + 1) lists)
    (record { blocks = blocks-fit (shard_in set g) list; records = All-head (λ (c : Catalogue). length c.roots ≤ most_records) (catalogue_of (shard_in set g) list) (catalogues set (g + 1) lists) f })
    (rooms set (g + 1) lists rest)

-- ---- what waits of sound lists

pub whole-sound : (set : Setting) (lists : List Parted) → length lists ≡ set.shape.shards → AreSound set (done_lists lists) → MayAllWait (catalogues set 0 (done_lists lists)) 0 lists
    → All (λ (c : Catalogue). length c.roots ≤ most_records) (catalogues set 0 (whole_lists lists)) → All HasRisingViews (whole_lists lists) → AreSound set (whole_lists lists)
whole-sound set lists count s waits records views =
    let v = valid_from_is (store_of (catalogues set 0 (done_lists lists))) s.valid in
    record {
      valid = is_from_valid (store_of (catalogues set 0 (whole_lists lists))) (whole-valid set lists count waits v);
      room = rooms set 0 (whole_lists lists) records;
      lawful = whole-lawful set lists count waits v s.lawful;
      views = views;
    }

-- ---- blank lists

abbrev blank_lists : ℕ → List Numbered
blank_lists n = replicate n []

blank-catalogues : (set : Setting) (g n : ℕ) → catalogues set g (blank_lists n) ≡ replicate n empty_catalogue
blank-catalogues set g zero = refl
blank-catalogues set g (suc n) = ap (λ rest. empty_catalogue ∷ rest) (blank-catalogues set (g + 1) n)

blank-present : (n : ℕ) → all_present (replicate n empty_catalogue) ≡ []
blank-present zero = refl
blank-present (suc n) = blank-present n

blank-roots : (n : ℕ) → all_roots (replicate n empty_catalogue) ≡ []
blank-roots zero = refl
blank-roots (suc n) = blank-roots n

ones : (f : Catalogue → ℕ) → f empty_catalogue ≡ 1 → (n : ℕ) → map f (replicate n empty_catalogue) ≡ replicate n 1
ones f e zero = refl
ones f e (suc n) = let rest = ones f e n in λ i. e i ∷ rest i

pub blank-store : (n : ℕ) → store_of (replicate n empty_catalogue) ≡ empty_store n
blank-store n =
    let present = blank-present n in
    let roots = blank-roots n in
    let epochs = ones (λ c. c.epoch) refl n in
    let swept = ones (λ c. c.swept) refl n in
    λ i. record {
      blocks = map (λ e. (e.0, e.1.stored)) (present i);
      given = map (λ e. (e.0, e.1.mark)) (present i);
      roots = roots i;
      epochs = epochs i;
      swept = swept i;
      sessions = [];
    }

no-views : HasRisingViews []
no-views i j d l m = absurd (omega (arith, m))

pub blank-views : (n : ℕ) → All HasRisingViews (blank_lists n)
blank-views zero = All-nil HasRisingViews
blank-views (suc n) = All-cons HasRisingViews [] (blank_lists n) no-views (blank-views n)

blank-records : (n : ℕ) → All (λ (c : Catalogue). length c.roots ≤ most_records) (replicate n empty_catalogue)
blank-records zero = All-nil (λ (c : Catalogue). length c.roots ≤ most_records)
blank-records (suc n) = All-cons (λ (c : Catalogue). length c.roots ≤ most_records) empty_catalogue (replicate n empty_catalogue) (omega arith) (blank-records n)

pub blank-sound : (set : Setting) → 0 < set.shape.shards → AreSound set (replicate set.shape.shards [])
blank-sound set some =
    let n : ℕ = set.shape.shards in
    let same = blank-catalogues set 0 n in
    record {
      valid = subst (λ s. IsValid s) (sym (ap store_of same ∙ blank-store n)) (is_from_valid (empty_store n) (empty_valid n some));
      room = rooms set 0 (blank_lists n) (subst (λ cs. All (λ (c : Catalogue). length c.roots ≤ most_records) cs) (sym same) (blank-records n));
      lawful = record {
        history = [];
        ascends = λ i j d h k. absurd (omega (arith, k));
        within = All-nil (λ deed. deed.number ≤ last_of (list_at (blank_lists n) deed.shard));
        fits = tt;
        gives = sym same;
      };
      views = blank-views n;
    }
