-- Each event leaves a core that stands, and of each tail that began with what took effect by it the rest rests.
use Rattle.std.proofs.Common.{◌≡◌, ◌∙◌, ap, sym, subst, ◌⊎◌, inl, inr, ℕ, ◌+◌, ◌<◌, ◌≤◌, List, [], ◌∷◌, ◌++◌, Some, None, refl, arith, append_assoc, length, length-append}
use Rattle.std.specs.List.{enumerate_from}
use Rattle.hs_answered.specs.Telling.{Judging}
use Rattle.hs_core_copies.proofs.UnsealedLemmas.{numbered_append}
use Rattle.hs_core_words.specs.Asking.{send_round}
use Rattle.hs_core_words.specs.Changing.{change_pool}
use Rattle.hs_core_words.specs.declared.event.Event.{Event}
use Rattle.hs_core_words.specs.Looking.{catalogue_of, front_of, group_of, shape_of}
use Rattle.hs_core_words.specs.Operating.{begin_line, go_on_with, propose_entry}
use Rattle.hs_core_words.specs.Seeing.{pointers_for}
use Rattle.hs_core_words.specs.State.{Core}
use Rattle.hs_core_words.specs.Step.{step}
use Rattle.hs_core_words.specs.Views.{begin_view}
use Rattle.hs_effects.proofs.EffectLemmas.{taken_here}
use Rattle.hs_effects.proofs.GroupLemmas.{committed_first}
use Rattle.hs_effects.proofs.LookLemmas.{one_or_other}
use Rattle.hs_effects.proofs.QuietLemmas.{Quiet, going_quiet, proposed_quiet}
use Rattle.hs_effects.proofs.SweepLemmas.{ByViews}
use Rattle.hs_effects.specs.Lawful.{MayFollow}
use Rattle.hs_effects.specs.Taking.{done_by, folds_behind, next_deed, setting_of, taken}
use Rattle.hs_entry.specs.declared.entry.Entry.{Entry}
use Rattle.hs_entry.specs.declared.entry.Entry.TheVariants as kind
use Rattle.hs_events.specs.Course.{steps as run_events}
use Rattle.hs_events.specs.Due.{Events}
use Rattle.hs_fold.proofs.Shards.PlaceLemmas.{other-at, same-at}
use Rattle.hs_fold.specs.Runs.Catalogue.{apply, apply_all}
use Rattle.hs_fold.specs.Runs.Facts.{Catalogue as Folded, empty_catalogue as empty_fold}
use Rattle.hs_fold.specs.Runs.Fits.{catalogue_at}
use Rattle.hs_fold.specs.Runs.History.{applied}
use Rattle.hs_fold.specs.Shards.Setting.{Numbered, Setting, shard_in}
use Rattle.hs_fold.specs.Shards.Sound.{most_records}
use Rattle.hs_laws.specs.Valid.{IsValid}
use Rattle.hs_limits.specs.declared.address.Address.{Address}
use Rattle.hs_members.specs.Members.{Members}
use Rattle.hs_model.specs.Store.{Store}
use Rattle.hs_ops.specs.Operations.{bytes_step, go_step}
use Rattle.hs_post.specs.Pool.{without}
use Rattle.hs_replica.specs.Group.{Group, committed, new_group, take_committed}
use Rattle.hs_standing.proofs.AlongWalkLemmas.{copies_step, copies_steps}
use Rattle.hs_standing.proofs.AtomLemmas.{set_on}
use Rattle.hs_standing.proofs.HistoryLemmas.{told_set}
use Rattle.hs_standing.proofs.Laws.{Entries, Steps}
use Rattle.hs_standing.proofs.LegalLineLemmas.{begun_quiet}
use Rattle.hs_standing.proofs.LegalOpenLemmas.{began_like, standing_opens}
use Rattle.hs_standing.proofs.OrderLemmas.{again_alike}
use Rattle.hs_standing.proofs.RestsListLemmas.{front_begun, front_goes, front_proposed, front_told, front_viewed}
use Rattle.hs_standing.proofs.StandingLemmas.{line_beside, standing_again, standing_beside, standing_downed, standing_due, standing_effect, standing_follows, standing_goes, standing_line, standing_refused, standing_round, standing_told, tell_beside}
use Rattle.hs_standing.proofs.StopsWalkLemmas.{apply_append}
use Rattle.hs_standing.specs.Bytes.{TellsItsBlock}
use Rattle.hs_standing.specs.Changes.{told_at_once}
use Rattle.hs_standing.specs.Commands.{IsLineOf, IsNobodys}
use Rattle.hs_standing.specs.Copies.{AllComeOn, IsSeated, KnowsItsCopies}
use Rattle.hs_standing.specs.Held.{GivesAddresses}
use Rattle.hs_standing.specs.Legal.{IsStanding, MayStand}
use Rattle.hs_standing.specs.Walks.{HasRecordRoom, Walks}
use Rattle.hs_tails.proofs.AscendLemmas.{ascend_more, ascend_up}
use Rattle.hs_tails.proofs.BehindLemmas.{first_taken, other_taken}
use Rattle.hs_tails.specs.Tails.{AreAscending, RestsIn, TailRests, TailsGoOn}

-- how much took effect of each shard as it began, and the folds
pub record Began : Type 0 where
  pub front : ℕ → ℕ
  pub folds : List Folded

abbrev pub began_at : Core → List Folded → Began
began_at core cs = record { front = λ g. front_of g core; folds = cs }

-- the fold of a shard with these entries more
abbrev folded_with : (List ℕ → Address) → Began → Core → ℕ → List Entry → Folded
folded_with name old core g entries = apply_all (shard_in (setting_of name core) g) (catalogue_at old.folds g) (enumerate_from (old.front g + 1) entries)

-- since then these entries of each shard took effect, which the folds have more, a history that gave the folds goes on with them, and of each tail that began with them the rest rests
pub record GoneWith (by : Judging) (start : Store) (Tail : ℕ → List Entry → Type 0) (old : Began) (took : ℕ → List Entry) (core : Core) : Type 0 where
  pub cs : List Folded
  pub stands : IsStanding by start core cs
  pub fronts : (g : ℕ) → front_of g core ≡ old.front g + length (took g)
  pub folds : (g : ℕ) → catalogue_at cs g ≡ folded_with by.name old core g (took g)
  pub rests : (g : ℕ) (tail rest : List Entry) → Tail g tail → tail ≡ took g ++ rest → RestsIn by.name core cs g rest
  pub history : AreAscending (setting_of by.name core) old.front old.folds → AreAscending (setting_of by.name core) (λ g. front_of g core) cs

-- so some did
abbrev GoneOn : Judging → Store → (ℕ → List Entry → Type 0) → Began → Core → Type 0
GoneOn by start Tail old core = (took : ℕ → List Entry) × GoneWith by start Tail old took core

-- with one entry more of a shard
abbrev pub took_by : (ℕ → List Entry) → (shard : ℕ) → Entry → (g : ℕ) → (g ≡ shard) ⊎ (g ≡ shard → ⊥) → List Entry
took_by took shard entry g (inl is) = took g ++ entry ∷ []
took_by took shard entry g (inr apart) = took g

abbrev pub took_more : (ℕ → List Entry) → ℕ → Entry → ℕ → List Entry
took_more took shard entry g = took_by took shard entry g (one_or_other g shard)

-- what is set up with is the same, and so much took effect
pub rests_alike : (name : List ℕ → Address) (a b : Core) (cs : List Folded) (g : ℕ) (tail : List Entry) → setting_of name b ≡ setting_of name a → front_of g b ≡ front_of g a → RestsIn name a cs g tail → RestsIn name b cs g tail
rests_alike name a b cs g tail set front t =
    subst (λ (s : Setting). TailRests s cs g (front_of g b) tail) (sym set) (subst (λ k. TailRests (setting_of name a) cs g k tail) (sym front) t)

pub quiet_set : (name : List ℕ → Address) (a b : Core) → Quiet a b → setting_of name b ≡ setting_of name a
quiet_set name a b q = set_on name a b q.limits (ap (λ (m : Members). m.shape) q.members)

module _ (by : Judging) (start : Store) (Tail : ℕ → List Entry → Type 0) (old : Began) where
  -- where no entry takes effect
  pub stays : {took : ℕ → List Entry} (a b : Core) (q : GoneWith by start Tail old took a) → IsStanding by start b q.cs → setting_of by.name b ≡ setting_of by.name a → ((g : ℕ) → front_of g b ≡ front_of g a) → GoneWith by start Tail old took b
  stays {took} a b q stands set front = record {
    cs = q.cs;
    stands = stands;
    fronts = λ g. front g ∙ q.fronts g;
    folds = λ g. q.folds g ∙ ap (λ (s : Setting). apply_all (shard_in s g) (catalogue_at old.folds g) (enumerate_from (old.front g + 1) (took g))) (sym set);
    rests = λ g tail rest is parts. rests_alike by.name a b q.cs g rest set (front g) (q.rests g tail rest is parts);
    history = λ h. ascend_up (setting_of by.name b) (λ g. front_of g a) (λ g. front_of g b) q.cs (λ g. let same = front g in omega (arith, same))
        (subst (λ (s : Setting). AreAscending s (λ g. front_of g a) q.cs) (sym set) (q.history (subst (λ (s : Setting). AreAscending s old.front old.folds) set h)));
  }

module _ (views : ByViews) (steps : Steps) (laws : Entries) (by : Judging) (names : GivesAddresses by.name) (start : Store) (valid : IsValid start) (Tail : ℕ → List Entry → Type 0) (old : Began) where
  -- ---- an entry takes effect

  module _ (took : ℕ → List Entry) (c : Core) (q : GoneWith by start Tail old took c) (shard number : ℕ) (entry : Entry) (low : shard < (shape_of c).shards) (leads : committed (group_of shard c) ≡ Some (number, entry))
      (few : (g : ℕ) → length (catalogue_of g (taken shard entry c)).roots ≤ most_records) where
    abbrev after : Core
    after = told_at_once shard entry c

    may : MayFollow (setting_of by.name c) q.cs (next_deed shard entry c)
    may = standing_follows views steps laws by names start valid c q.cs q.stands shard number entry low leads few

    told_front : (g : ℕ) → front_of g (told_at_once shard entry c) ≡ front_of g (taken shard entry c)
    told_front g = front_told g shard (taken shard entry c) entry (done_by shard entry c).effect

    front_here : front_of shard (told_at_once shard entry c) ≡ front_of shard c + 1
    front_here = told_front shard ∙ ap (λ (x : Group). x.front) (taken_here shard number entry c leads) ∙ (committed_first (group_of shard c) number entry leads).taken.front

    front_other : (g : ℕ) → (g ≡ shard → ⊥) → front_of g (told_at_once shard entry c) ≡ front_of g c
    front_other g apart = told_front g ∙ ap (λ (x : Group). x.front) (other-at (new_group (shape_of c) g 0 0 []) c.groups shard g (take_committed (group_of shard c)) apart)

    fronts_by : (g : ℕ) (o : (g ≡ shard) ⊎ (g ≡ shard → ⊥)) → front_of g (told_at_once shard entry c) ≡ old.front g + length (took_by took shard entry g o)
    fronts_by g (inl is) =
        let here : front_of g (told_at_once shard entry c) ≡ front_of g c + 1 = subst (λ k. front_of k (told_at_once shard entry c) ≡ front_of k c + 1) (sym is) front_here in
        let was = q.fronts g in
        let count = length-append (took g) (entry ∷ []) in
        omega (arith, here, was, count)
    fronts_by g (inr apart) = front_other g apart ∙ q.fronts g

    rests_by : (g : ℕ) (o : (g ≡ shard) ⊎ (g ≡ shard → ⊥)) (tail rest : List Entry) → Tail g tail → tail ≡ took_by took shard entry g o ++ rest → RestsIn by.name (told_at_once shard entry c) (folds_behind by.name q.cs shard entry c) g rest
    rests_by g (inl is) tail rest of parts =
        let before : RestsIn by.name c q.cs g (entry ∷ rest) = q.rests g tail (entry ∷ rest) of (parts ∙ append_assoc (took g) (entry ∷ []) rest) in
        let behind : TailRests (setting_of by.name c) (folds_behind by.name q.cs shard entry c) shard (front_of shard c + 1) rest =
        first_taken (setting_of by.name c) q.stands.lawful.folded.valid q.cs shard (front_of shard c) entry may rest (subst (λ k. RestsIn by.name c q.cs k (entry ∷ rest)) is before) in
        subst (λ k. RestsIn by.name (told_at_once shard entry c) (folds_behind by.name q.cs shard entry c) k rest) (sym is)
        (subst (λ (s : Setting). TailRests s (folds_behind by.name q.cs shard entry c) shard (front_of shard (told_at_once shard entry c)) rest) (sym (told_set by.name c shard entry))
        (subst (λ k. TailRests (setting_of by.name c) (folds_behind by.name q.cs shard entry c) shard k rest) (sym front_here) behind))
    rests_by g (inr apart) tail rest of parts =
        let before : RestsIn by.name c q.cs g rest = q.rests g tail rest of parts in
        let behind : TailRests (setting_of by.name c) (folds_behind by.name q.cs shard entry c) g (front_of g c) rest =
        other_taken (setting_of by.name c) q.stands.lawful.folded.valid q.cs shard (front_of shard c) entry may g (front_of g c) rest before apart in
        subst (λ (s : Setting). TailRests s (folds_behind by.name q.cs shard entry c) g (front_of g (told_at_once shard entry c)) rest) (sym (told_set by.name c shard entry))
        (subst (λ k. TailRests (setting_of by.name c) (folds_behind by.name q.cs shard entry c) g k rest) (sym (front_other g apart)) behind)

    low_fold : shard < length q.cs
    low_fold = subst (λ n. shard < n) (sym q.stands.lawful.folded.shards) low

    numbers : front_of shard c + 1 ≡ old.front shard + 1 + length (took shard)
    numbers = let is = q.fronts shard in omega (arith, is)

    same_set : (g : ℕ) (entries : List Entry) → folded_with by.name old c g entries ≡ folded_with by.name old (told_at_once shard entry c) g entries
    same_set g entries = ap (λ (s : Setting). apply_all (shard_in s g) (catalogue_at old.folds g) (enumerate_from (old.front g + 1) entries)) (sym (told_set by.name c shard entry))

    one_more : folded_with by.name old c shard (took shard ++ entry ∷ []) ≡ apply (shard_in (setting_of by.name c) shard) (folded_with by.name old c shard (took shard)) (old.front shard + 1 + length (took shard), entry)
    one_more =
        ap (λ (es : Numbered). apply_all (shard_in (setting_of by.name c) shard) (catalogue_at old.folds shard) es) (numbered_append (old.front shard + 1) (took shard) (entry ∷ []))
        ∙ apply_append (shard_in (setting_of by.name c) shard) (catalogue_at old.folds shard) (enumerate_from (old.front shard + 1) (took shard)) (enumerate_from (old.front shard + 1 + length (took shard)) (entry ∷ []))

    fold_here : catalogue_at (folds_behind by.name q.cs shard entry c) shard ≡ folded_with by.name old (told_at_once shard entry c) shard (took shard ++ entry ∷ [])
    fold_here =
        same-at empty_fold q.cs shard (applied (setting_of by.name c) q.cs (next_deed shard entry c)) low_fold
        ∙ ap (λ (d : Folded). apply (shard_in (setting_of by.name c) shard) d (front_of shard c + 1, entry)) (q.folds shard)
        ∙ ap (λ n. apply (shard_in (setting_of by.name c) shard) (folded_with by.name old c shard (took shard)) (n, entry)) numbers
        ∙ sym one_more ∙ same_set shard (took shard ++ entry ∷ [])

    folds_by : (g : ℕ) (o : (g ≡ shard) ⊎ (g ≡ shard → ⊥)) → catalogue_at (folds_behind by.name q.cs shard entry c) g ≡ folded_with by.name old (told_at_once shard entry c) g (took_by took shard entry g o)
    folds_by g (inl is) = subst (λ k. catalogue_at (folds_behind by.name q.cs shard entry c) k ≡ folded_with by.name old (told_at_once shard entry c) k (took k ++ entry ∷ [])) (sym is) fold_here
    folds_by g (inr apart) = other-at empty_fold q.cs shard g (applied (setting_of by.name c) q.cs (next_deed shard entry c)) apart ∙ q.folds g ∙ same_set g (took g)

    front_up : (g : ℕ) → front_of g c ≤ front_of g (told_at_once shard entry c)
    front_up g = elim (one_or_other g shard) [
      | inl is ↦ (let more : front_of g (told_at_once shard entry c) ≡ front_of g c + 1 = subst (λ k. front_of k (told_at_once shard entry c) ≡ front_of k c + 1) (sym is) front_here in omega (arith, more))
      | inr apart ↦ (let same = front_other g apart in omega (arith, same))
    ]

    history_on : AreAscending (setting_of by.name (told_at_once shard entry c)) old.front old.folds → AreAscending (setting_of by.name (told_at_once shard entry c)) (λ g. front_of g (told_at_once shard entry c)) (folds_behind by.name q.cs shard entry c)
    history_on h =
        subst (λ (s : Setting). AreAscending s (λ g. front_of g (told_at_once shard entry c)) (folds_behind by.name q.cs shard entry c)) (sym (told_set by.name c shard entry))
        (ascend_more (setting_of by.name c) (λ g. front_of g c) (λ g. front_of g (told_at_once shard entry c)) q.cs (next_deed shard entry c) may refl front_up (let more = front_here in omega (arith, more))
        (q.history (subst (λ (s : Setting). AreAscending s old.front old.folds) (told_set by.name c shard entry) h)))

    pub effect_goes : GoneWith by start Tail old (took_more took shard entry) (told_at_once shard entry c)
    effect_goes = record {
      cs = folds_behind by.name q.cs shard entry c;
      stands = standing_effect views steps laws by names start valid c q.cs q.stands shard number entry low leads few;
      fronts = λ g. fronts_by g (one_or_other g shard);
      folds = λ g. folds_by g (one_or_other g shard);
      rests = λ g tail rest of parts. rests_by g (one_or_other g shard) tail rest of parts;
      history = history_on;
    }

  -- ---- every change

  gone_walks : Walks (λ line o c. IsLineOf by c line o) (TellsItsBlock by start) (IsNobodys by) (GoneOn by start Tail old)
  gone_walks = record {
    once = λ c q. q.1.stands.orderly.once;
    line_beside = λ line o a b beside may. line_beside by start line o a b beside may;
    tell_beside = λ number bytes w a b beside may. tell_beside by start number bytes w a b beside may;
    beside = λ a b beside q. (q.0, stays by start Tail old a b q.1 (standing_beside views steps laws by names start valid a q.1.cs q.1.stands b beside) (set_on by.name a b beside.limits beside.shape) beside.front);
    downed = λ peer line c q. (q.0, stays by start Tail old c _ q.1 (standing_downed views steps laws by names start valid c q.1.cs q.1.stands peer line) refl (λ g. refl));
    refused = λ line refusal c nobody q. (q.0, stays by start Tail old c _ q.1 (standing_refused views steps laws by names start valid c q.1.cs q.1.stands line refusal nobody) refl (λ g. refl));
    line = λ line o c may q. (q.0, stays by start Tail old c _ q.1 (standing_line views steps laws by names start valid c q.1.cs q.1.stands line o may) (quiet_set by.name c (begin_line line o c) (begun_quiet line o c)) (λ g. front_begun g line o c));
    goes = λ line c idle q. (q.0, stays by start Tail old c _ q.1 (standing_goes views steps laws by names start valid c q.1.cs q.1.stands line idle) (quiet_set by.name c (go_on_with go_step line c) (going_quiet go_step line c)) (λ g. front_goes g go_step line c));
    told = λ line number bytes w c at waits may q. (
      q.0,
      stays by start Tail old c _ q.1 (standing_told views steps laws by names start valid c q.1.cs q.1.stands line number bytes w at waits may)
          (quiet_set by.name c (go_on_with (λ v o. bytes_step v bytes (pointers_for w.shard w.operation.op c) o) line c) (going_quiet (λ v o. bytes_step v bytes (pointers_for w.shard w.operation.op c) o) line c))
          (λ g. front_goes g (λ v o. bytes_step v bytes (pointers_for w.shard w.operation.op c) o) line c),
    );
    effect = λ shard number entry c low leads few q. (took_more q.0 shard entry, effect_goes q.0 c q.1 shard number entry low leads few);
    due = λ shard c low due q. (
      q.0,
      stays by start Tail old c _ q.1 (standing_due views steps laws by names start valid c q.1.cs q.1.stands shard low due)
          (quiet_set by.name c (propose_entry shard (kind.Enter 0 ((catalogue_of shard c).epoch + 1)) c) (proposed_quiet shard (kind.Enter 0 ((catalogue_of shard c).epoch + 1)) c)) (λ g. front_proposed g shard (kind.Enter 0 ((catalogue_of shard c).epoch + 1)) c),
    );
    round = λ number from to epoch round total deltas c low at new q. (
      q.0,
      stays by start Tail old c _ q.1 (standing_round views steps laws by names start valid c q.1.cs q.1.stands number from to epoch round total deltas low at new)
          (quiet_set by.name (change_pool (without number) c) (propose_entry to (kind.Got from epoch round total deltas) (change_pool (without number) c)) (proposed_quiet to (kind.Got from epoch round total deltas) (change_pool (without number) c))) (λ g. front_proposed g to (kind.Got from epoch round total deltas) (change_pool (without number) c)),
    );
    again = λ back shard c q. (let like = again_alike back shard c in (q.0, stays by start Tail old c (send_round back shard c) q.1 (standing_again views steps laws by names start valid c q.1.cs q.1.stands back shard) (set_on by.name c (send_round back shard c) like.limits like.shape) like.front));
  }

  view_goes : (shard : ℕ) (c : Core) → shard < (shape_of c).shards → GoneOn by start Tail old c → GoneOn by start Tail old (begin_view shard c)
  view_goes shard c low q =
      let like = began_like by shard c in
      (q.0, stays by start Tail old c (begin_view shard c) q.1 (standing_opens by shard c start q.1.cs q.1.stands low) (set_on by.name c (begin_view shard c) like.limits like.shape) (λ g. front_viewed shard c g))

  gone_step : (core : Core) (event : Event) (moment : ℕ) → core.ended ≡ None → IsSeated core → KnowsItsCopies core → HasRecordRoom core → core.refused ≡ [] → MayStand by start event core
      → GoneOn by start Tail old core → GoneOn by start Tail old (step event moment core)
  gone_step core event moment going seated known room clean may q =
      copies_step gone_walks core (λ shard c same low more g. view_goes shard c low g) event moment going seated known room clean may q

  pub gone_start : (core : Core) (cs : List Folded) → ((g : ℕ) → front_of g core ≡ old.front g) → ((g : ℕ) → catalogue_at cs g ≡ catalogue_at old.folds g) → IsStanding by start core cs → ((g : ℕ) (tail : List Entry) → Tail g tail → RestsIn by.name core cs g tail)
      → (AreAscending (setting_of by.name core) old.front old.folds → AreAscending (setting_of by.name core) (λ g. front_of g core) cs) → GoneWith by start Tail old (λ g. []) core
  gone_start core cs same folds stands all came = record {
    cs = cs;
    stands = stands;
    fronts = λ g. (let is = same g in omega (arith, is));
    folds = λ g. folds g;
    rests = λ g tail rest of parts. subst (λ t. RestsIn by.name core cs g t) parts (all g tail of);
    history = λ h. came h;
  }

pub tails_go_on : ByViews → Steps → Entries → (by : Judging) → GivesAddresses by.name → (start : Store) → IsValid start → (core : Core) (event : Event) (moment : ℕ) (cs : List Folded)
    → core.ended ≡ None → IsSeated core → KnowsItsCopies core → HasRecordRoom core → core.refused ≡ [] → MayStand by start event core → IsStanding by start core cs → TailsGoOn by start core (step event moment core) cs
tails_go_on views steps laws by names start valid core event moment cs going seated known room clean may stands =
    let Tail : ℕ → List Entry → Type 0 = λ g tail. RestsIn by.name core cs g tail in
    let began : Began = began_at core cs in
    let q : GoneOn by start Tail began (step event moment core) =
    gone_step views steps laws by names start valid Tail began core event moment going seated known room clean may ((λ g. []), gone_start views steps laws by names start valid Tail began core cs (λ g. refl) (λ g. refl) stands (λ g tail of. of) (λ h. h)) in
    record { after = q.1.cs; stands = q.1.stands; took = q.0; fronts = q.1.fronts; folds = q.1.folds; rests = q.1.rests; history = q.1.history }

-- so do some, one after another
pub all_tails_go_on : ByViews → Steps → Entries → (by : Judging) → GivesAddresses by.name → (start : Store) → IsValid start → (core : Core) (events : Events) (cs : List Folded)
    → core.refused ≡ [] → core.entries ≡ [] → AllComeOn (MayStand by start) core events → IsStanding by start core cs → TailsGoOn by start core (run_events core events) cs
all_tails_go_on views steps laws by names start valid core events cs clean told may stands =
    let Tail : ℕ → List Entry → Type 0 = λ g tail. RestsIn by.name core cs g tail in
    let began : Began = began_at core cs in
    let q : GoneOn by start Tail began (run_events core events) =
    copies_steps (gone_walks views steps laws by names start valid Tail began) (λ shape shard c same low more g. view_goes views steps laws by names start valid Tail began shard c low g) events core clean told may
    ((λ g. []), gone_start views steps laws by names start valid Tail began core cs (λ g. refl) (λ g. refl) stands (λ g tail of. of) (λ h. h)) in
    record { after = q.1.cs; stands = q.1.stands; took = q.0; fronts = q.1.fronts; folds = q.1.folds; rests = q.1.rests; history = q.1.history }
