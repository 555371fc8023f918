-- What waits behind lists that took effect leaves them sound.
use Rattle.std.proofs.Common.{◌≡◌, ℕ, zero, suc, ◌+◌, ◌<◌, ◌≤◌, List, [], ◌∷◌, ◌++◌, length, refl, sym, ap, ◌∙◌, subst, arith, replicate}
use Rattle.std.proofs.lemmas.List.Elements.{All-nil}
use Rattle.std.specs.Prelude.{All}
use Rattle.hs_limits.specs.Shape.{IsShape}
use Rattle.hs_laws.proofs.ValidLemmas.{is_from_valid}
use Rattle.hs_fold.specs.Lawful.{Deed, list_at}
use Rattle.hs_fold.specs.Prefix.{last_of}
use Rattle.hs_fold.specs.Shards.Parted.{Parted, done_lists, whole_lists}
use Rattle.hs_fold.specs.Shards.Setting.{Setting}
use Rattle.hs_fold.specs.Shards.Sound.{HasRisingViews}
use Rattle.hs_fold.specs.Runs.Counts.{AreCounted}
use Rattle.hs_fold.specs.Runs.Facts.{Catalogue, empty_catalogue}
use Rattle.hs_fold.specs.Runs.History.{follow, follow_all, FitAll, AreLawful, no_entries}
use Rattle.hs_fold.specs.Runs.Opened.{catalogues, store_of}
use Rattle.hs_fold.proofs.Runs.BlankLemmas.{blank-sound}
use Rattle.hs_joint.specs.Along.{KeepFewRecords}
use Rattle.hs_waiting.specs.Lists.{MayAllWait, pending_deeds}
use Rattle.hs_waiting.proofs.ListLemmas.{all_records, follow_append, fit_append, gives_whole, runs, whole_valid, whole_lawful, whole_room, whole_sent}
use Rattle.hs_sound.specs.Stay.{AreSoundAlong}
use Rattle.hs_sound.proofs.CountedLemmas.{history_counted}

few_append : (set : Setting) (cs : List Catalogue) (one more : List Deed) → KeepFewRecords set cs one → KeepFewRecords set (follow_all set cs one) more → KeepFewRecords set cs (one ++ more)
few_append set cs [] more f k = k
few_append set cs (d ∷ one) more f k = (f.0, few_append set (follow set cs d) one more f.1 k)

module _ (set : Setting) (lists : List Parted) (lawful : AreLawful set (done_lists lists) (catalogues set 0 (done_lists lists))) (shape : IsShape set.shape) (count : length lists ≡ set.shape.shards)
    (records : KeepFewRecords set (no_entries set) lawful.history) (waits : MayAllWait (catalogues set 0 (done_lists lists)) 0 lists) (more : KeepFewRecords set (catalogues set 0 (done_lists lists)) (pending_deeds 0 lists)) where
  abbrev whole : List Catalogue
  whole = catalogues set 0 (whole_lists lists)

  abbrev later : List Deed
  later = pending_deeds 0 lists

  all_fit : FitAll set (no_entries set) (lawful.history ++ later)
  all_fit = fit_append set (no_entries set) lawful.history later lawful.fits (subst (λ cs. FitAll set cs later) (sym lawful.gives) (runs set lists lawful shape count records waits more).fits)

  all_few : KeepFewRecords set (no_entries set) (lawful.history ++ later)
  all_few = few_append set (no_entries set) lawful.history later records (subst (λ cs. KeepFewRecords set cs later) (sym lawful.gives) more)

  gives : follow_all set (no_entries set) (lawful.history ++ later) ≡ whole
  gives = follow_append set (no_entries set) lawful.history later ∙ ap (λ cs. follow_all set cs later) lawful.gives ∙ gives_whole set lists

  pub whole_counted : All (AreCounted whole) whole
  whole_counted = subst (λ cs. All (AreCounted cs) cs) gives (history_counted set (lawful.history ++ later) shape all_fit all_few)

  few_whole : KeepFewRecords set (no_entries set) (whole_lawful set lists lawful shape count records waits more).history
  few_whole = all_records set lists lawful shape count records waits more

  pub whole_along : All HasRisingViews (whole_lists lists) → AreSoundAlong set (whole_lists lists)
  whole_along views = record {
    sound = record {
      valid = is_from_valid (store_of whole) (whole_valid set lists lawful shape count records waits more);
      room = whole_room set lists lawful shape count records waits more;
      counted = whole_counted;
      sent = λ shard l. whole_sent set lists lawful shape count records waits more shard l;
      lawful = whole_lawful set lists lawful shape count records waits more;
      views = views;
    };
    records = few_whole;
  }

-- ---- blank lists

blank_catalogues : (set : Setting) (g n : ℕ) → catalogues set g (replicate n []) ≡ replicate n empty_catalogue
blank_catalogues set g zero = refl
blank_catalogues set g (suc n) = ap (λ cs. empty_catalogue ∷ cs) (blank_catalogues set (g + 1) n)

pub blank_along : (set : Setting) → 0 < set.shape.shards → AreSoundAlong set (replicate set.shape.shards [])
blank_along set some =
    let s = blank-sound set some in
    record {
      sound = record {
        valid = s.valid;
        room = s.room;
        counted = s.counted;
        sent = s.sent;
        lawful = record {
          history = [];
          ascends = λ i j d h k. absurd (omega (arith, k));
          within = All-nil (λ deed. deed.number ≤ last_of (list_at (replicate set.shape.shards []) deed.shard));
          fits = tt;
          gives = sym (blank_catalogues set 0 set.shape.shards);
        };
        views = s.views;
      };
      records = tt;
    }
