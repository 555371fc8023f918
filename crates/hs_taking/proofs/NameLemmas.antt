-- A list of a rank, whatever is told: the one that the disk has, where it tells.
use Rattle.std.proofs.Common.{◌≡◌, ◌≢◌, ◌∙◌, ◌⊎◌, ap, sym, inl, inr, [], ◌∷◌, Option, None, Some, refl}
use Rattle.std.proofs.lemmas.Bool.Decides.{eqb_tells}
use Rattle.hs_entry.specs.declared.entry.Entry.TheVariants as kind
use Rattle.hs_entry.specs.declared.rank.Rank.{Rank}
use Rattle.hs_entry.specs.Entries.{rank_of}
use Rattle.hs_fold.specs.Shards.Setting.{Numbered}
use Rattle.hs_peerlog.specs.Lists.{IsNumbered}
use Rattle.hs_taking.proofs.EvenLemmas.{none_listed}

abbrev pub least : Rank
least = record { view = 0; number = 0 }

same_rank : (a b : Rank) → (a ≡ b) ⊎ (a ≢ b)
same_rank a b = elim (eqb_tells a.view b.view) [
  | inl views ↦ elim (eqb_tells a.number b.number) [
    | inl numbers ↦ inl (λ i. record { view = views.1 i; number = numbers.1 i })
    | inr differ ↦ inr (λ same. differ.1 (ap (λ (r : Rank). r.number) same))
  ]
  | inr differ ↦ inr (λ same. differ.1 (ap (λ (r : Rank). r.view) same))
]

stand_in : Rank → Numbered
stand_in rank = (rank.number, kind.View rank.view) ∷ []

pick_list : (rank : Rank) (list : Numbered) → (rank_of list ≡ rank) ⊎ (rank_of list ≢ rank) → Numbered
pick_list rank list (inl same) = list
pick_list rank list (inr differ) = stand_in rank

pick_by : (rank : Rank) → (rank ≡ least) ⊎ (rank ≢ least) → Option Numbered → Numbered
pick_by rank (inl zeros) read = []
pick_by rank (inr some) None = stand_in rank
pick_by rank (inr some) (Some list) = pick_list rank list (same_rank (rank_of list) rank)

-- a list of this rank: the one that was read, where that has it
pub pick_log : Option Numbered → Rank → Numbered
pick_log read rank = pick_by rank (same_rank rank least) read

none_rank : rank_of [] ≡ least
unfolding rank_of
none_rank = refl

one_rank : (rank : Rank) → rank_of (stand_in rank) ≡ rank
unfolding rank_of stand_in
one_rank rank = refl

some_same : (a b : Numbered) → Some a ≡ Some b → a ≡ b
some_same a b e = cc e

some_none : (a : Numbered) → None ≡ Some a → ⊥
some_none a e = cc e

pub pick_ranked : (read : Option Numbered) (rank : Rank) → rank_of (pick_log read rank) ≡ rank
unfolding pick_log pick_by pick_list
pick_ranked read rank = go (same_rank rank least) read
  where
    list_by : (list : Numbered) (o : (rank_of list ≡ rank) ⊎ (rank_of list ≢ rank)) → rank_of (pick_list rank list o) ≡ rank
    list_by list (inl same) = same
    list_by list (inr differ) = one_rank rank

    go : (o : (rank ≡ least) ⊎ (rank ≢ least)) (read : Option Numbered) → rank_of (pick_by rank o read) ≡ rank
    go (inl zeros) read = none_rank ∙ sym zeros
    go (inr some) None = one_rank rank
    go (inr some) (Some list) = list_by list (same_rank (rank_of list) rank)

pub name_told : (read : Option Numbered) (rank : Rank) (list : Numbered) → read ≡ Some list → IsNumbered list → rank ≡ rank_of list → read ≡ Some (pick_log read rank)
unfolding pick_log pick_by pick_list
name_told read rank list is numbered ranked = go (same_rank rank least) read is
  where
    list_by : (other : Numbered) → other ≡ list → (o : (rank_of other ≡ rank) ⊎ (rank_of other ≢ rank)) → Some other ≡ Some (pick_list rank other o)
    list_by other is (inl same) = refl
    list_by other is (inr differ) = absurd (differ (ap rank_of is ∙ sym ranked))

    go : (o : (rank ≡ least) ⊎ (rank ≢ least)) (read : Option Numbered) → read ≡ Some list → read ≡ Some (pick_by rank o read)
    go (inl zeros) read is = is ∙ ap (λ l. Some l) (none_listed list numbered (ap (λ (r : Rank). r.number) (sym ranked ∙ zeros)))
    go (inr some) None is = absurd (some_none list is)
    go (inr some) (Some other) is = list_by other (some_same other list is) (same_rank (rank_of other) rank)

pub pick_blank : (read : Option Numbered) (rank : Rank) → rank_of (pick_log read rank) ≡ least → pick_log read rank ≡ []
unfolding pick_log pick_by pick_list
pick_blank read rank none = go (same_rank rank least) read
  where
    zeros : rank ≡ least
    zeros = sym (pick_ranked read rank) ∙ none

    go : (o : (rank ≡ least) ⊎ (rank ≢ least)) (read : Option Numbered) → pick_by rank o read ≡ []
    go (inl zeros) read = refl
    go (inr some) read = absurd (some zeros)
