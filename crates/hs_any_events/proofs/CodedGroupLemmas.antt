-- The lists of two shards whose entries have the same outlines: what is proposed, committed and sent of them is alike.
use Rattle.std.proofs.Common.{◌≡◌, ◌∙◌, sym, ap, ℕ, ◌+◌, ◌-◌, Bool, true, false, cond, List, [], ◌∷◌, ◌++◌, length, drop, map, Option, Some, None, refl, nat_lt, slice_get}
use Rattle.std.proofs.lemmas.List.{length-map, map-append}
use Rattle.std.specs.Option.{option_map, option_map_or}
use Rattle.std.specs.Prelude.{slice_set}
use Rattle.hs_any_events.proofs.CodedEntryLemmas.{Outline, outline, view_outlined}
use Rattle.hs_any_events.proofs.CodedListLemmas.{first-map}
use Rattle.hs_entry.specs.declared.entry.Entry.{Entry}
use Rattle.hs_entry.specs.declared.entry.Entry.TheVariants as kind
use Rattle.hs_post.specs.declared.message.Message.{Message}
use Rattle.hs_post.specs.declared.message.Message.TheVariants as message
use Rattle.hs_replica.specs.declared.replica.Replica.{Replica}
use Rattle.hs_replica.specs.Group.{Group, commit_front, committed, copy_of, first_peer, last_number, last_view, lead, lead_takes, others, proposal, propose, take_committed}

-- a shard's list with no entries that wait, and the outlines of these
pub record GroupOutline : Type 0 where
  pub rest : Group
  pub waiting : List Outline

abbrev pub group_outline : Group → GroupOutline
group_outline group = record { rest = record group { waiting = [] }; waiting = map outline group.waiting }

pub number_alike : (g h : Group) → group_outline h ≡ group_outline g → last_number h ≡ last_number g
number_alike g h same =
    ap (λ (n : ℕ). h.front + n) (sym (length-map h.waiting outline)) ∙ ap (λ (x : GroupOutline). x.rest.front + length x.waiting) same ∙ ap (λ (n : ℕ). g.front + n) (length-map g.waiting outline)

-- ---- an entry more

-- what the list is then
abbrev rest_then : Entry → Group → Group
rest_then e rest = record (lead_takes (lead rest) e rest) { waiting = [] }

abbrev proposed_outline : Outline → GroupOutline → GroupOutline
proposed_outline o x = record { rest = rest_then o.entry x.rest; waiting = x.waiting ++ o ∷ [] }

module _ (e : Entry) (g : Group) where
  rest_is : rest_then e g ≡ rest_then (outline e).entry (record g { waiting = [] })
  rest_is = by (lead g)
    where
      by : (l : Option ℕ) → record (lead_takes l e g) { waiting = [] } ≡ record (lead_takes l (outline e).entry (record g { waiting = [] })) { waiting = [] }
      by None = refl
      by (Some l) =
          ap (λ (v : ℕ). record g { waiting = []; copies = slice_set g.copies (l - first_peer g) (record (copy_of g l) { stamps = (copy_of g l).stamps ++ v ∷ [] }) })
          (view_outlined (last_view (copy_of g l).stamps) e)

  proposed_is : group_outline (propose e g) ≡ proposed_outline (outline e) (group_outline g)
  proposed_is = λ i. record { rest = rest_is i; waiting = map-append outline g.waiting (e ∷ []) i }

pub propose_alike : (e f : Entry) (g h : Group) → outline f ≡ outline e → group_outline h ≡ group_outline g → group_outline (propose f h) ≡ group_outline (propose e g)
propose_alike e f g h same alike = proposed_is f h ∙ (λ i. proposed_outline (same i) (alike i)) ∙ sym (proposed_is e g)

-- ---- the Copies of it

-- a message but for the entry of a Copy
abbrev pub bare : Message → Message
bare (message.Copy shard to view number entry) = message.Copy shard to view number (kind.View 0)
bare (message.Have shard from to view sealed) = message.Have shard from to view sealed
bare (message.Round from to epoch round total deltas) = message.Round from to epoch round total deltas

-- bare Copies of the entry of a number for the other good peers
abbrev bare_copies : Group → ℕ → List Message
bare_copies rest last = map (λ (x : ℕ × Replica). message.Copy rest.shard x.0 rest.view (last + 1) (kind.View 0)) (others rest)

copies_bare : (shard view number : ℕ) (e : Entry) (xs : List (ℕ × Replica)) → map bare (map (λ (x : ℕ × Replica). message.Copy shard x.0 view number e) xs) ≡ map (λ (x : ℕ × Replica). message.Copy shard x.0 view number (kind.View 0)) xs
copies_bare shard view number e [] = refl
copies_bare shard view number e (x ∷ xs) = ap (λ (ms : List Message). message.Copy shard x.0 view number (kind.View 0) ∷ ms) (copies_bare shard view number e xs)

proposal_bare : (e : Entry) (g : Group) → map bare (proposal e g) ≡ bare_copies (record g { waiting = [] }) (last_number g)
proposal_bare e g = copies_bare g.shard g.view (last_number g + 1) e (others g)

pub proposal_alike : (e f : Entry) (g h : Group) → group_outline h ≡ group_outline g → map bare (proposal f h) ≡ map bare (proposal e g)
proposal_alike e f g h same =
    proposal_bare f h ∙ (λ i. bare_copies (same i).rest (number_alike g h same i)) ∙ sym (proposal_bare e g)

-- ---- the entry that is committed

abbrev numbered : ℕ × Entry → ℕ × Outline
numbered x = (x.0, outline x.1)

abbrev committed_outline : GroupOutline → Option (ℕ × Outline)
committed_outline x = cond (nat_lt x.rest.front (commit_front x.rest)) (option_map (λ (o : Outline). (x.rest.front + 1, o)) (slice_get x.waiting 0)) None

committed_is : (g : Group) → option_map numbered (committed g) ≡ committed_outline (group_outline g)
committed_is g = by (nat_lt g.front (commit_front g)) g.waiting
  where
    by : (b : Bool) (es : List Entry) → option_map numbered (cond b (option_map (λ (e : Entry). (g.front + 1, e)) (slice_get es 0)) None) ≡ cond b (option_map (λ (o : Outline). (g.front + 1, o)) (slice_get (map outline es) 0)) None
    by true [] = refl
    by true (e ∷ es) = refl
    by false es = refl

module _ (g h : Group) (same : group_outline h ≡ group_outline g) where
  both_committed : option_map numbered (committed h) ≡ option_map numbered (committed g)
  both_committed = committed_is h ∙ ap (λ (x : GroupOutline). committed_outline x) same ∙ sym (committed_is g)

  -- the entry that the other list commits
  pub record IsCommitted (number : ℕ) (entry : Entry) : Type 0 where
    pub other : Entry
    pub leads : committed h ≡ Some (number, other)
    pub alike : outline other ≡ outline entry

  pub committed_alike : (number : ℕ) (entry : Entry) → committed g ≡ Some (number, entry) → IsCommitted number entry
  committed_alike number entry leads = by (committed h) refl (both_committed ∙ ap (λ (x : Option (ℕ × Entry)). option_map numbered x) leads)
    where
      by : (x : Option (ℕ × Entry)) → committed h ≡ x → option_map numbered x ≡ Some (number, outline entry) → IsCommitted number entry
      by None at e = absurd (cc e)
      by (Some x) at e =
          let is : (x.0, outline x.1) ≡ (number, outline entry) = cc e in
          record {
            other = x.1;
            leads = at ∙ (λ i. Some ((is i).0, x.1));
            alike = ap (λ (y : ℕ × Outline). y.1) is;
          }

-- ---- an entry less

abbrev taken_outline : Option (ℕ × Outline) → GroupOutline → GroupOutline
taken_outline first x = option_map_or (λ (y : ℕ × Outline). record { rest = record x.rest { front = y.0 }; waiting = drop 1 x.waiting }) first x

taken_is : (g : Group) → group_outline (take_committed g) ≡ taken_outline (option_map numbered (committed g)) (group_outline g)
taken_is g = by (committed g)
  where
    by : (x : Option (ℕ × Entry)) → group_outline (option_map_or (λ (y : ℕ × Entry). record g { front = y.0; waiting = drop 1 g.waiting }) x g) ≡ taken_outline (option_map numbered x) (group_outline g)
    by None = refl
    by (Some x) = λ i. record { rest = record g { front = x.0; waiting = [] }; waiting = first-map outline g.waiting i }

pub take_alike : (g h : Group) → group_outline h ≡ group_outline g → group_outline (take_committed h) ≡ group_outline (take_committed g)
take_alike g h same = taken_is h ∙ (λ i. taken_outline (both_committed g h same i) (same i)) ∙ sym (taken_is g)
