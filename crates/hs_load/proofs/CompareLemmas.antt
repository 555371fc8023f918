-- Where a list of answers parts from an owner's in a journal.
use Rattle.std.proofs.Common.{◌≡◌, ◌≢◌, ◌∙◌, ap, sym, subst, ℕ, zero, suc, ◌+◌, ◌<◌, ◌≤◌, Bool, true, false, List, [], ◌∷◌, ◌++◌, Option, Some, None, length, take, drop, get_or, refl, arith, append_assoc, length-append}
use Rattle.std.proofs.Math.Seq.{take-append_seam}
use Rattle.std.proofs.lemmas.List.{append-nil}
use Rattle.std.specs.Prelude.{if◌then◌else◌, slice_get}
use Rattle.hs_journal.specs.declared.entry.JournalEntry.{JournalEntry}
use Rattle.hs_model.specs.declared.deed.Deed.{Deed}
use Rattle.hs_workers.specs.Asks.{KeptAnswer}
use Rattle.hs_load.specs.Compared.{PartAt, answer_in, answer_of, is_own, own_answers, own_from}
use Rattle.std.specs.Option.{option_map}

-- ---- lists

some_not : {T : Type 0} (x y : T) → (x ≡ y → ⊥) → Some x ≡ Some y → ⊥
some_not {T} x y other e = other cc

none_not : {T : Type 0} (x : T) → None ≡ Some x → ⊥
none_not x e = grind arith

get_seam : {T : Type 0} (front : List T) (x : T) (rest : List T) → slice_get (front ++ x ∷ rest) (length front) ≡ Some x
get_seam [] x rest = refl
get_seam (y ∷ front) x rest = get_seam front x rest

get_past : {T : Type 0} (xs : List T) → slice_get xs (length xs) ≡ None
get_past [] = refl
get_past (x ∷ xs) = get_past xs

get_in : {T : Type 0} (xs : List T) (k : ℕ) → k < length xs → slice_get xs k ≡ None → ⊥
get_in [] k low e = omega (arith, low)
get_in (x ∷ xs) zero low e = none_not x (sym e)
get_in (x ∷ xs) (suc k) low e = get_in xs k (omega (arith, low)) e

get_is : {T : Type 0} (xs : List T) (k : ℕ) (x d : T) → slice_get xs k ≡ Some x → get_or xs k d ≡ x
get_is [] k x d e = absurd (none_not x e)
get_is (y ∷ xs) zero x d e = cc
get_is (y ∷ xs) (suc k) x d e = get_is xs k x d e

get_some : {T : Type 0} (xs : List T) (k : ℕ) (d : T) → k < length xs → slice_get xs k ≡ Some (get_or xs k d)
get_some [] k d low = absurd (omega (arith, low))
get_some (y ∷ xs) zero d low = refl
get_some (y ∷ xs) (suc k) d low = get_some xs k d (omega (arith, low))

get_low : {T : Type 0} (xs : List T) (k : ℕ) (x : T) → slice_get xs k ≡ Some x → k < length xs
get_low [] k x e = absurd (none_not x e)
get_low (y ∷ xs) zero x e = omega arith
get_low (y ∷ xs) (suc k) x e = let low = get_low xs k x e in omega (arith, low)

-- another item stands there, or none
pub other_there : {T : Type 0} (xs : List T) (k : ℕ) (x y : T) → x ≡ get_or xs k x → (x ≡ y → ⊥) → slice_get xs k ≡ Some y → ⊥
other_there {T} xs k x y is other e = other (is ∙ get_is xs k y x e)

pub none_there : {T : Type 0} (xs : List T) (k : ℕ) (y : T) → length xs ≤ k → slice_get xs k ≡ Some y → ⊥
none_there {T} xs k y past e = let low = get_low xs k y e in omega (arith, past, low)

-- it stands there
pub some_there : {T : Type 0} (xs : List T) (k : ℕ) (x : T) → k < length xs → x ≡ get_or xs k x → slice_get xs k ≡ Some x
some_there {T} xs k x low is = get_some xs k x low ∙ ap (λ (y : T). Some y) (sym is)

length_take : {T : Type 0} (k : ℕ) (xs : List T) → k ≤ length xs → length (take k xs) ≡ k
length_take zero xs low = refl
length_take (suc k) [] low = absurd (omega (arith, low))
length_take (suc k) (x ∷ xs) low = let e = length_take k xs (omega (arith, low)) in omega (arith, e)

take_all : {T : Type 0} (xs : List T) → take (length xs) xs ≡ xs
take_all {T} [] = refl
take_all {T} (x ∷ xs) = ap (λ (ys : List T). x ∷ ys) (take_all xs)

-- ---- an owner's answers

abbrev pub own_item : (Deed → Bool) → ℕ → JournalEntry → List KeptAnswer
own_item own place entry = if is_own own entry then answer_of place entry ∷ [] else []

-- the answers are those of the front, that of a place, and those behind it
own_part : (own : Deed → Bool) (n k : ℕ) (xs : List JournalEntry) (d : JournalEntry) → k < length xs
    → own_from own n xs ≡ own_from own n (take k xs) ++ (own_item own (n + k) (get_or xs k d) ++ own_from own (n + k + 1) (drop (suc k) xs))
own_part own n k [] d low = absurd (omega (arith, low))
own_part own n zero (x ∷ xs) d low =
    let e : n ≡ n + 0 = omega arith in ap (λ (m : ℕ). own_item own m x ++ own_from own (m + 1) xs) e
own_part own n (suc k) (x ∷ xs) d low =
    let e : n + 1 + k ≡ n + suc k = omega arith in
    ap (λ (ys : List KeptAnswer). own_item own n x ++ ys) (own_part own (n + 1) k xs d (omega (arith, low)) ∙ ap (λ (m : ℕ). own_from own (n + 1) (take k xs) ++ (own_item own m (get_or xs k d) ++ own_from own (m + 1) (drop (suc k) xs))) e)
    ∙ sym (append_assoc (own_item own n x) (own_from own (n + 1) (take k xs)) (own_item own (n + suc k) (get_or xs k d) ++ own_from own (n + suc k + 1) (drop (suc k) xs)))

own_suc : (own : Deed → Bool) (n k : ℕ) (xs : List JournalEntry) (d : JournalEntry) → k < length xs
    → own_from own n (take (suc k) xs) ≡ own_from own n (take k xs) ++ own_item own (n + k) (get_or xs k d)
own_suc own n k [] d low = absurd (omega (arith, low))
own_suc own n zero (x ∷ xs) d low =
    let e : n ≡ n + 0 = omega arith in append-nil (own_item own n x) ∙ ap (λ (m : ℕ). own_item own m x) e
own_suc own n (suc k) (x ∷ xs) d low =
    let e : n + 1 + k ≡ n + suc k = omega arith in
    ap (λ (ys : List KeptAnswer). own_item own n x ++ ys) (own_suc own (n + 1) k xs d (omega (arith, low)) ∙ ap (λ (m : ℕ). own_from own (n + 1) (take k xs) ++ own_item own m (get_or xs k d)) e)
    ∙ sym (append_assoc (own_item own n x) (own_from own (n + 1) (take k xs)) (own_item own (n + suc k) (get_or xs k d)))

-- the answer at a place, where the entry there is an owner's or not
item_own : (own : Deed → Bool) (k m : ℕ) (entry there : JournalEntry) → m ≡ k → there ≡ entry → is_own own entry ≡ true → own_item own m there ≡ answer_of k entry ∷ []
item_own own k m entry there e same true_is =
    ap (λ (j : ℕ). own_item own j there) e ∙ ap (λ (x : JournalEntry). own_item own k x) same ∙ ap (λ (b : Bool). if b then answer_of k entry ∷ [] else []) true_is

item_other : (own : Deed → Bool) (k : ℕ) (entry there : JournalEntry) → there ≡ entry → is_own own entry ≡ false → own_item own k there ≡ []
item_other own k entry there same false_is =
    ap (λ (x : JournalEntry). own_item own k x) same ∙ ap (λ (b : Bool). if b then answer_of k entry ∷ [] else []) false_is

module _ (own : Deed → Bool) (kept : List KeptAnswer) (journal : List JournalEntry) (next place : ℕ) (entry : JournalEntry)
    (low : place < length journal) (there : entry ≡ get_or journal place entry) (so_far : take next kept ≡ own_answers own (take place journal)) where
  -- one answer more
  pub more_own : (item : KeptAnswer) → slice_get kept next ≡ Some item → item ≡ answer_of place entry → is_own own entry ≡ true → take (next + 1) kept ≡ own_answers own (take (place + 1) journal)
  more_own item at same is =
      let one : suc next ≡ next + 1 = omega arith in
      let two : suc place ≡ place + 1 = omega arith in
      let zero_place : 0 + place ≡ place = omega arith in
      ap (λ (n : ℕ). take n kept) (sym one)
      ∙ take_suc next kept item at
      ∙ ap (λ (ys : List KeptAnswer). ys ++ item ∷ []) so_far
      ∙ ap (λ (x : KeptAnswer). own_answers own (take place journal) ++ x ∷ []) same
      ∙ ap (λ (ys : List KeptAnswer). own_answers own (take place journal) ++ ys) (sym (item_own own place (0 + place) entry (get_or journal place entry) zero_place (sym there) is))
      ∙ sym (own_suc own 0 place journal entry low)
      ∙ ap (λ (n : ℕ). own_answers own (take n journal)) two
    where
      take_suc : {T : Type 0} (k : ℕ) (xs : List T) (x : T) → slice_get xs k ≡ Some x → take (suc k) xs ≡ take k xs ++ x ∷ []
      take_suc k [] x e = absurd (none_not x e)
      take_suc zero (y ∷ xs) x e = let same : y ≡ x = cc in ap (λ z. z ∷ []) same
      take_suc (suc k) (y ∷ xs) x e = ap (λ zs. y ∷ zs) (take_suc k xs x e)

  -- none more
  pub more_other : is_own own entry ≡ false → take next kept ≡ own_answers own (take (place + 1) journal)
  more_other is =
      let two : suc place ≡ place + 1 = omega arith in
      so_far
      ∙ sym (append-nil (own_answers own (take place journal)))
      ∙ ap (λ (ys : List KeptAnswer). own_answers own (take place journal) ++ ys) (sym (item_other own (0 + place) entry (get_or journal place entry) (sym there) is))
      ∙ sym (own_suc own 0 place journal entry low)
      ∙ ap (λ (n : ℕ). own_answers own (take n journal)) two

  abbrev rest_behind : List KeptAnswer
  rest_behind = own_from own (0 + place + 1) (drop (suc place) journal)

  all_parts : is_own own entry ≡ true → own_answers own journal ≡ own_answers own (take place journal) ++ (answer_of place entry ∷ rest_behind)
  all_parts is =
      let zero_place : 0 + place ≡ place = omega arith in
      own_part own 0 place journal entry low
      ∙ ap (λ (ys : List KeptAnswer). own_answers own (take place journal) ++ (ys ++ rest_behind)) (item_own own place (0 + place) entry (get_or journal place entry) zero_place (sym there) is)

  count_before : next ≤ length kept → length (own_answers own (take place journal)) ≡ next
  count_before long = sym (ap (λ (ys : List KeptAnswer). length ys) so_far) ∙ length_take next kept long

  -- the owner's answer is there
  own_there : next ≤ length kept → is_own own entry ≡ true → slice_get (own_answers own journal) next ≡ Some (answer_of place entry)
  own_there long is =
      ap (λ (ys : List KeptAnswer). slice_get ys next) (all_parts is)
      ∙ ap (λ (n : ℕ). slice_get (own_answers own (take place journal) ++ answer_of place entry ∷ rest_behind) n) (sym (count_before long))
      ∙ get_seam (own_answers own (take place journal)) (answer_of place entry) rest_behind

  pub answer_there : next ≤ length kept → is_own own entry ≡ true → slice_get (own_answers own journal) next ≡ answer_in journal (Some place)
  answer_there long is = own_there long is ∙ ap (λ (o : Option JournalEntry). option_map (λ (e : JournalEntry). answer_of place e) o) (sym (some_there journal place entry low there))

  -- the list has another answer there, or none
  pub part_there : next ≤ length kept → is_own own entry ≡ true → (slice_get kept next ≡ Some (answer_of place entry) → ⊥) → PartAt next kept (own_answers own journal)
  part_there long is other =
      let front = own_answers own (take place journal) in
      record {
        before = so_far ∙ sym (take-append_seam front (answer_of place entry ∷ rest_behind)) ∙ ap (λ (n : ℕ). take n (front ++ answer_of place entry ∷ rest_behind)) (count_before long) ∙ ap (λ (ys : List KeptAnswer). take next ys) (sym (all_parts is));
        there = λ e. other (e ∙ own_there long is);
      }

-- the list has an answer more than the journal
module _ (own : Deed → Bool) (kept : List KeptAnswer) (journal : List JournalEntry) (next place : ℕ) (whole : place ≡ length journal) (more : next < length kept)
    (so_far : take next kept ≡ own_answers own (take place journal)) where
  all_taken : take next kept ≡ own_answers own journal
  all_taken = so_far ∙ ap (λ (n : ℕ). own_answers own (take n journal)) whole ∙ ap (λ (es : List JournalEntry). own_answers own es) (take_all journal)

  count_all : length (own_answers own journal) ≡ next
  count_all = sym (ap (λ (ys : List KeptAnswer). length ys) all_taken) ∙ length_take next kept (omega (arith, more))

  pub none_behind : slice_get (own_answers own journal) next ≡ None
  none_behind = ap (λ (n : ℕ). slice_get (own_answers own journal) n) (sym count_all) ∙ get_past (own_answers own journal)

  pub part_end : PartAt next kept (own_answers own journal)
  part_end = record {
    before = all_taken ∙ sym (take_all (own_answers own journal)) ∙ ap (λ (n : ℕ). take n (own_answers own journal)) count_all;
    there = λ e. get_in kept next more (e ∙ none_behind);
  }
