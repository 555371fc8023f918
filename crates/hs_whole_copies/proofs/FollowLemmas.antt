-- A joining peer copies from the lead: which changes of a core leave that so.
use Rattle.std.proofs.Common.{◌≡◌, ◌≢◌, ◌∙◌, ap, sym, subst, refl, inl, inr, arith, ℕ, ◌+◌, ◌-◌, ◌*◌, ◌<◌, ◌≤◌, Bool, true, false, List, [], ◌∷◌, ◌++◌, Option, Some, None, length, map}
use Rattle.std.proofs.Math.ListN.{get_or-map}
use Rattle.std.proofs.lemmas.Bool.{cases_eq, cases_lt}
use Rattle.std.proofs.lemmas.List.{length-append, length-map, length-set}
use Rattle.std.specs.Option.{option_map}
use Rattle.std.specs.Prelude.{slice_index_or}
use Rattle.hs_awaiting.specs.Words.{change_with}
use Rattle.hs_copies.proofs.CallLemmas.{propose_is}
use Rattle.hs_copies.proofs.FailLemmas.{good_found}
use Rattle.hs_copies.proofs.HomeLemmas.{lead_found, set_other, set_same}
use Rattle.hs_copies.proofs.StatusLemmas.{become_here, become_members, become_other, home_peer}
use Rattle.hs_core_copies.proofs.LeadLemmas.{good_only, home_of_shard, lead_is, of_home, same_lead}
use Rattle.hs_core_copies.proofs.PlaceLemmas.{IsKept, committed_copies, committed_kept, group_here, group_other, proposed_kept, rejoin_here, rejoin_other}
use Rattle.hs_core_copies.proofs.WalkLemmas.{StepLeaves}
use Rattle.hs_core_copies.specs.InStep.{IsOf}
use Rattle.hs_core_words.specs.Changing.{add_entry_tasks, change_group, post, set_rejoin, set_status}
use Rattle.hs_core_words.specs.Looking.{group_of, lead_of, rejoin_of, status_of}
use Rattle.hs_core_words.specs.Operating.{add_read, propose_entry}
use Rattle.hs_core_words.specs.State.{Core}
use Rattle.hs_entry.specs.declared.entry.Entry.{Entry}
use Rattle.hs_limits.specs.declared.limits.PeerStatus.{PeerStatus}
use Rattle.hs_limits.specs.declared.limits.PeerStatus.TheVariants.{Good, Joining}
use Rattle.hs_limits.specs.declared.shape.Shape.{Shape}
use Rattle.hs_limits.specs.Shape.{peer_of}
use Rattle.hs_members.proofs.LeadLemmas.{IsBest, IsJudged, longest_is_judged, passing}
use Rattle.hs_members.specs.Members.{IsMembers, IsShard, Members, has_good, is_good_status, longest}
use Rattle.hs_rejoin.specs.Rejoin.{Rejoin}
use Rattle.hs_replica.specs.declared.replica.Replica.{Replica}
use Rattle.hs_replica.specs.Group.{Group, IsHome, copy_of, first_peer, last_number, lead, length_of, no_copy, proposal, propose, stamp, take_committed, take_entry}
use Rattle.hs_whole_copies.specs.Whole.{FollowsLead}

-- ---- the longest of some lists stays the longest

still_best : (p now : ℕ → Bool) (n : ℕ) (xs ys : List ℕ) (best : ℕ × ℕ) (h : IsBest p n xs best) → length ys ≡ length xs → now best.0 ≡ true → best.1 ≤ slice_index_or ys h.place 0
    → ((i peer : ℕ) → peer ≡ n + i → i < length ys → peer ≢ best.0 → now peer ≡ true → (p peer ≡ true) × (slice_index_or ys i 0 ≤ slice_index_or xs i 0))
    → option_map (λ (x : ℕ × ℕ). x.0) (longest (passing now n ys)) ≡ Some best.0
still_best p now n xs ys best h len pass long others = go (longest (passing now n ys)) refl (longest_is_judged now n ys)
  where
    same : (new : ℕ × ℕ) → IsBest now n ys new → new.0 ≡ best.0
    same new j = elim (cases_eq j.place h.place) [
      | inl e ↦ omega (arith, j.number, h.number, e)
      | inr ne ↦
          let apart : new.0 ≢ best.0 = λ i. ne (omega (arith, i, j.number, h.number)) in
          let o = others j.place new.0 j.number j.within apart j.passes in
          let up : slice_index_or xs j.place 0 ≤ best.1 = h.longest j.place new.0 j.number (omega (arith, j.within, len)) o.0 in
          elim (cases_lt j.place h.place) [
            | inl low ↦ let l : slice_index_or xs j.place 0 < best.1 = h.lowest j.place new.0 j.number low o.0 in
                let down : slice_index_or ys h.place 0 ≤ new.1 = j.longest h.place best.0 h.number (omega (arith, h.within, len)) pass in
                let is : new.1 ≡ slice_index_or ys j.place 0 = j.long in
                absurd (omega (arith, l, o.1, down, long, is))
            | inr high ↦ let l : slice_index_or ys h.place 0 < new.1 = j.lowest h.place best.0 h.number (omega (arith, high, ne)) pass in
                let is : new.1 ≡ slice_index_or ys j.place 0 = j.long in
                absurd (omega (arith, l, o.1, up, long, is))
          ]
    ]

    go : (o : Option (ℕ × ℕ)) → longest (passing now n ys) ≡ o → IsJudged now n ys o → option_map (λ (x : ℕ × ℕ). x.0) (longest (passing now n ys)) ≡ Some best.0
    go None e j = let wrong : false ≡ true = sym (j h.place best.0 h.number (omega (arith, h.within, len))) ∙ pass in absurd (cc wrong)
    go (Some new) e j = ap (option_map (λ (x : ℕ × ℕ). x.0)) e ∙ ap Some (same new j)

-- ---- a group that is as the members say

pub record IsSized (g : ℕ) (c : Core) : Type 0 where
  pub inside : g < length c.groups
  pub low : IsShard c.members.shape g
  pub shape : c.members.shape ≡ (group_of g c).shape
  pub shard : (group_of g c).shard ≡ g
  pub long : length (group_of g c).copies ≡ (group_of g c).shape.copies
  pub some : 1 ≤ c.members.shape.copies
  pub valid : IsMembers c.members
  pub rejoins : length c.progress.rejoins ≡ c.members.shape.shards * c.members.shape.copies

pub record IsTold (g : ℕ) (c : Core) : Type 0 where
  pub sized : IsSized g c
  pub good : (p : ℕ) → IsHome (group_of g c) p → (copy_of (group_of g c) p).good ≡ is_good_status (status_of p c)

module _ (g : ℕ) (c : Core) (k : IsSized g c) where
  pub home_own : (p : ℕ) → IsOf c.members.shape g p → IsHome (group_of g c) p
  home_own p own = home_of_shard c.members.shape g (group_of g c) p k.shape k.shard k.some own

  pub own_home : (p : ℕ) → IsHome (group_of g c) p → IsOf c.members.shape g p
  own_home p h = of_home c.members.shape g (group_of g c) p k.shape k.shard h

  pub within : (p : ℕ) → IsOf c.members.shape g p → p < c.members.shape.shards * c.members.shape.copies
  within p own = rw k.shape (home_peer (group_of g c) p (rw (← k.shape, k.shard) k.low) (home_own p own))

  few : length (group_of g c).copies ≤ c.members.shape.copies
  few = let e : c.members.shape.copies ≡ (group_of g c).shape.copies = ap (λ (x : Shape). x.copies) k.shape in let l = k.long in omega (arith, e, l)

  pub lead_good : (l : ℕ) → lead_of g c ≡ Some l → IsHome (group_of g c) l × (status_of l c ≡ Good)
  lead_good l e = let d = lead_is g c l few e in (home_own l d.own, d.good)

pub lead_told : (g : ℕ) (c : Core) → IsTold g c → lead_of g c ≡ lead (group_of g c)
lead_told g c k = same_lead g (group_of g c) c.members k.sized.shape k.sized.shard k.sized.long k.good

pub some_lead : (g q : ℕ) (c : Core) → IsTold g c → IsHome (group_of g c) q → (copy_of (group_of g c) q).good ≡ true → (l : ℕ) × (lead_of g c ≡ Some l)
some_lead g q c k h good = let f = lead_found (group_of g c) q k.sized.long h good in (f.0, lead_told g c k ∙ f.1)

pub has_lead : (g : ℕ) (c : Core) → IsTold g c → has_good g c.members ≡ true → (l : ℕ) × (lead_of g c ≡ Some l)
has_lead g c k some =
    let q = good_found (group_of g c) c.members k.sized.shape (rw k.sized.shard some) in
    some_lead g q.0 c k q.1 (k.good q.0 q.1 ∙ q.2)

-- ---- the lead stays

-- the length at a place of the list
length_at : (x : Group) (shape : Shape) (g i peer : ℕ) → shape ≡ x.shape → x.shard ≡ g → peer ≡ peer_of shape g 0 + i
    → slice_index_or (map (λ (copy : Replica). length copy.stamps) x.copies) i 0 ≡ length_of x peer
length_at x shape g i peer e f is =
    let place : i ≡ peer - first_peer x = rw (← e, f) (omega (arith, is)) in
    get_or-map (λ (copy : Replica). length copy.stamps) x.copies i no_copy ∙ ap (λ k. length (slice_index_or x.copies k no_copy).stamps) place

home_at : (x : Group) (shape : Shape) (g i peer : ℕ) → shape ≡ x.shape → x.shard ≡ g → length x.copies ≡ x.shape.copies → peer ≡ peer_of shape g 0 + i → i < length x.copies → IsHome x peer
home_at x shape g i peer e f long is low = rw (← e, f) (omega (arith, is), let n : length x.copies ≡ shape.copies = long ∙ ap (λ (z : Shape). z.copies) (sym e) in omega (arith, is, low, n))

pub lead_kept : (g : ℕ) (a b : Core) (l : ℕ) → IsSized g a → lead_of g a ≡ Some l → b.members.shape ≡ a.members.shape → IsKept (group_of g a) (group_of g b) → status_of l b ≡ Good
    → length_of (group_of g a) l ≤ length_of (group_of g b) l
    → ((q : ℕ) → IsHome (group_of g a) q → q ≢ l → status_of q b ≡ Good → (status_of q a ≡ Good) × (length_of (group_of g b) q ≤ length_of (group_of g a) q))
    → lead_of g b ≡ Some l
lead_kept g a b l k leads shape kept good longer others = go (longest (passing (λ peer. is_good_status (status_of peer a)) n xs)) refl (longest_is_judged (λ peer. is_good_status (status_of peer a)) n xs)
  where
    n : ℕ
    n = peer_of a.members.shape g 0

    xs : List ℕ
    xs = map (λ (copy : Replica). length copy.stamps) (group_of g a).copies

    ys : List ℕ
    ys = map (λ (copy : Replica). length copy.stamps) (group_of g b).copies

    long : length ys ≡ length xs
    long = length-map (group_of g b).copies (λ (copy : Replica). length copy.stamps) ∙ kept.copies ∙ sym (length-map (group_of g a).copies (λ (copy : Replica). length copy.stamps))

    shape_b : a.members.shape ≡ (group_of g b).shape
    shape_b = k.shape ∙ sym kept.shape

    at_a : (i peer : ℕ) → peer ≡ peer_of a.members.shape g 0 + i → slice_index_or (map (λ (copy : Replica). length copy.stamps) (group_of g a).copies) i 0 ≡ length_of (group_of g a) peer
    at_a i peer is = length_at (group_of g a) a.members.shape g i peer k.shape k.shard is

    at_b : (i peer : ℕ) → peer ≡ peer_of a.members.shape g 0 + i → slice_index_or (map (λ (copy : Replica). length copy.stamps) (group_of g b).copies) i 0 ≡ length_of (group_of g b) peer
    at_b i peer is = length_at (group_of g b) a.members.shape g i peer shape_b (kept.shard ∙ k.shard) is

    found : (best : ℕ × ℕ) → best.0 ≡ l → IsBest (λ peer. is_good_status (status_of peer a)) (peer_of a.members.shape g 0) (map (λ (copy : Replica). length copy.stamps) (group_of g a).copies) best → lead_of g b ≡ Some l
    found best same h =
        let good_now : is_good_status (status_of best.0 b) ≡ true = ap (λ i. is_good_status (status_of i b)) same ∙ ap is_good_status good in
        let up : best.1 ≤ slice_index_or (map (λ (copy : Replica). length copy.stamps) (group_of g b).copies) h.place 0 =
        let e = at_a h.place best.0 h.number in let f = at_b h.place best.0 h.number in let w : length_of (group_of g a) best.0 ≤ length_of (group_of g b) best.0 = rw same longer in omega (arith, h.long, e, f, w) in
        let kept_best : option_map (λ (x : ℕ × ℕ). x.0) (longest (passing (λ peer. is_good_status (status_of peer b)) (peer_of a.members.shape g 0) (map (λ (copy : Replica). length copy.stamps) (group_of g b).copies))) ≡ Some best.0 =
        still_best (λ peer. is_good_status (status_of peer a)) (λ peer. is_good_status (status_of peer b)) (peer_of a.members.shape g 0)
        (map (λ (copy : Replica). length copy.stamps) (group_of g a).copies) (map (λ (copy : Replica). length copy.stamps) (group_of g b).copies) best h long good_now up
        (λ i peer is low apart passes.
        let inside : i < length (group_of g a).copies = let m = length-map (group_of g b).copies (λ (copy : Replica). length copy.stamps) in let e = kept.copies in omega (arith, low, m, e) in
        let o = others peer (home_at (group_of g a) a.members.shape g i peer k.shape k.shard k.long is inside) (λ e. apart (e ∙ sym same)) (good_only (status_of peer b) passes) in
        (ap is_good_status o.0, let e = at_a i peer is in let f = at_b i peer is in omega (arith, e, f, o.1))) in
        ap (λ (sh : Shape). option_map (λ (x : ℕ × ℕ). x.0) (longest (passing (λ peer. is_good_status (status_of peer b)) (peer_of sh g 0) (map (λ (copy : Replica). length copy.stamps) (group_of g b).copies)))) shape
        ∙ kept_best ∙ ap Some same

    go : (o : Option (ℕ × ℕ)) → longest (passing (λ peer. is_good_status (status_of peer a)) (peer_of a.members.shape g 0) (map (λ (copy : Replica). length copy.stamps) (group_of g a).copies)) ≡ o
        → IsJudged (λ peer. is_good_status (status_of peer a)) (peer_of a.members.shape g 0) (map (λ (copy : Replica). length copy.stamps) (group_of g a).copies) o → lead_of g b ≡ Some l
    go None f h = let wrong : None ≡ Some l = sym (ap (option_map (λ (x : ℕ × ℕ). x.0)) f) ∙ leads in absurd (cc wrong)
    go (Some best) f h = found best (let w : Some best.0 ≡ Some l = sym (ap (option_map (λ (x : ℕ × ℕ). x.0)) f) ∙ leads in cc w) h

-- ---- the lead stays, and whom joining peers copy from

pub record IsSteady (g : ℕ) (a b : Core) : Type 0 where
  pub shape : b.members.shape ≡ a.members.shape
  pub lead : (l : ℕ) → lead_of g a ≡ Some l → lead_of g b ≡ Some l
  pub joins : (q : ℕ) (r : Rejoin) → IsOf a.members.shape g q → status_of q b ≡ Joining → rejoin_of q b ≡ Some r
      → (status_of q a ≡ Joining) × ((was : Rejoin) × (rejoin_of q a ≡ Some was) × (was.from ≡ r.from))

pub steady_keeps : (g : ℕ) (a b : Core) → IsSteady g a b → FollowsLead g a → FollowsLead g b
steady_keeps g a b k f q r own joins came =
    let of : IsOf a.members.shape g q = rw (← k.shape) own in
    let j = k.joins q r of joins came in
    k.lead r.from (f q j.1.0 of j.0 j.1.1 ∙ ap Some j.1.2)

pub steady_both : (g : ℕ) (a b c : Core) → IsSteady g a b → IsSteady g b c → IsSteady g a c
steady_both g a b c h k = record {
  shape = k.shape ∙ h.shape;
  lead = λ l e. k.lead l (h.lead l e);
  joins = λ q r own joins came.
      let j = k.joins q r (rw h.shape own) joins came in
      let i = h.joins q j.1.0 own j.0 j.1.1 in
      (i.0, (i.1.0, i.1.1, i.1.2 ∙ j.1.2));
}

-- where the group is told before it is so behind, and the lead stays
abbrev pub Follows : ℕ → Core → Core → Type 0
Follows g a b = IsTold g a → IsTold g b × IsSteady g a b

pub follows_both : (g : ℕ) (a b c : Core) → Follows g a b → Follows g b c → Follows g a c
follows_both g a b c f h k = let one = f k in let two = h one.0 in (two.0, steady_both g a b c one.1 two.1)

-- neither members nor joining peers are touched, and of the group neither copies nor place
pub follows_quiet : (g : ℕ) (a b : Core) → b.members ≡ a.members → b.progress.rejoins ≡ a.progress.rejoins → length b.groups ≡ length a.groups → group_of g b ≡ group_of g a → Follows g a b
follows_quiet g a b members rejoins count group k =
    let z = k.sized in (
      record {
        sized = record {
          inside = rw count z.inside;
          low = rw members z.low;
          shape = rw (group, members) z.shape;
          shard = rw group z.shard;
          long = rw group z.long;
          some = rw members z.some;
          valid = rw members z.valid;
          rejoins = rw (members, rejoins) z.rejoins;
        };
        good = λ p h. rw (group, members) (k.good p (rw group at h));
      },
      record {
        shape = ap (λ (m : Members). m.shape) members;
        lead = λ l e. rw (group, members) e;
        joins = λ q r own joins came. (rw members at joins, (r, rw rejoins at came, refl));
      },
    )

-- the copies of a group change, but for who is good; the lead's list is no shorter, and no other good one is longer
pub record IsLonger (x y : Group) (o : Option ℕ) : Type 0 where
  pub kept : IsKept x y
  pub good : (p : ℕ) → IsHome x p → (copy_of y p).good ≡ (copy_of x p).good
  pub long : (p l : ℕ) → o ≡ Some l → IsHome x p → (copy_of x p).good ≡ true → (p ≢ l → length_of y p ≤ length_of x p) × (length_of x p ≤ length_of y p)

-- the group is told still, where it is of its place and the same copies are good
pub told_group : (g : ℕ) (f : Group → Group) (c : Core) → IsKept (group_of g c) (f (group_of g c)) → ((p : ℕ) → IsHome (group_of g c) p → (copy_of (f (group_of g c)) p).good ≡ is_good_status (status_of p c))
    → IsSized g c → IsTold g (change_group g f c)
told_group g f c keep good z =
    let here : group_of g (change_group g f c) ≡ f (group_of g c) = group_here g f c z.inside in
    let kept : IsKept (group_of g c) (group_of g (change_group g f c)) = rw here keep in
    record {
      sized = record {
        inside = let n = length-set c.groups g (f (group_of g c)) in let l = z.inside in omega (arith, n, l);
        low = z.low;
        shape = z.shape ∙ sym kept.shape;
        shard = kept.shard ∙ z.shard;
        long = kept.copies ∙ z.long ∙ ap (λ (s : Shape). s.copies) (sym kept.shape);
        some = z.some;
        valid = z.valid;
        rejoins = z.rejoins;
      };
      good = λ p h. rw here (good p (rw (kept.shape, kept.shard) at h));
    }

pub follows_group : (g : ℕ) (f : Group → Group) (c : Core) → (IsTold g c → IsLonger (group_of g c) (f (group_of g c)) (lead_of g c)) → Follows g c (change_group g f c)
follows_group g f c change k =
    let x : Group = group_of g c in
    let b : Core = change_group g f c in
    let w : IsLonger x (f x) (lead_of g c) = change k in
    let z = k.sized in
    let here : group_of g b ≡ f x = group_here g f c z.inside in
    let kept : IsKept x (group_of g b) = rw here w.kept in (
      told_group g f c w.kept (λ p h. w.good p h ∙ k.good p h) z,
      record {
        shape = refl;
        lead = λ l e.
            let own = lead_good g c z l e in
            let is_good : (p : ℕ) → IsHome x p → status_of p c ≡ Good → (copy_of x p).good ≡ true = λ p h i. k.good p h ∙ ap is_good_status i in
            lead_kept g c b l z e refl kept own.1 (rw here (w.long l l e own.0 (is_good l own.0 own.1)).1)
            (λ q h n i. (i, rw here ((w.long q l e h (is_good q h i)).0 n)));
        joins = λ q r own joins came. (joins, (r, came, refl));
      },
    )

pub follows_beside : (g x : ℕ) (f : Group → Group) (c : Core) → g ≢ x → Follows g c (change_group x f c)
follows_beside g x f c n = follows_quiet g c (change_group x f c) refl refl (length-set c.groups x (f (group_of x c))) (group_other g x f c n)

-- how far a peer has come, of another shard or from where it copied before
pub follows_rejoin : (g p : ℕ) (r : Option Rejoin) (c : Core)
    → (IsOf c.members.shape g p → status_of p c ≡ Joining → (new : Rejoin) → r ≡ Some new → (was : Rejoin) × (rejoin_of p c ≡ Some was) × (was.from ≡ new.from)) → Follows g c (set_rejoin p r c)
follows_rejoin g p r c h k =
    let z = k.sized in (
      record { sized = record { inside = z.inside; low = z.low; shape = z.shape; shard = z.shard; long = z.long; some = z.some; valid = z.valid; rejoins = length-set c.progress.rejoins p r ∙ z.rejoins }; good = k.good },
      record {
        shape = refl;
        lead = λ l e. e;
        joins = λ q new own joins came. elim (cases_eq q p) [
          | inl e ↦
              let here : rejoin_of p (set_rejoin p r c) ≡ r = rejoin_here p r c (rw z.rejoins (within g c z p (rw (← e) own))) in
              let new_is : r ≡ Some new = sym here ∙ ap (λ i. rejoin_of i (set_rejoin p r c)) (sym e) ∙ came in
              let w = h (rw (← e) own) (rw (← e) joins) new new_is in
              (joins, (w.0, ap (λ i. rejoin_of i c) e ∙ w.1, w.2))
          | inr n ↦ (joins, (new, sym (rejoin_other p q r c n) ∙ came, refl))
        ];
      },
    )

pub rejoin_apart : (g p : ℕ) (r : Option Rejoin) (c : Core) → (IsOf c.members.shape g p → ⊥) → Follows g c (set_rejoin p r c)
rejoin_apart g p r c n = follows_rejoin g p r c (λ own. absurd (n own))

pub rejoin_none : (g p : ℕ) (c : Core) → Follows g c (set_rejoin p None c)
rejoin_none g p c = follows_rejoin g p None c (λ own joins new e. let wrong : None ≡ Some new = e in absurd (cc wrong))

-- the status of a peer of another shard
pub status_apart : (g p : ℕ) (s : PeerStatus) (c : Core) → (IsOf c.members.shape g p → ⊥) → Follows g c (set_status p s c)
status_apart g p s c n k =
    let z = k.sized in
    let same : (q : ℕ) → IsHome (group_of g c) q → status_of q (set_status p s c) ≡ status_of q c =
    λ q h. become_other p q s c.members (λ e. n (rw (← e) (own_home g c z q h))) in (
      record {
        sized = record { inside = z.inside; low = z.low; shape = z.shape; shard = z.shard; long = z.long; some = z.some; valid = become_members p s c.members z.valid; rejoins = z.rejoins };
        good = λ q h. k.good q h ∙ ap is_good_status (sym (same q h));
      },
      record {
        shape = refl;
        lead = λ l e.
            let own = lead_good g c z l e in
            lead_kept g c (set_status p s c) l z e refl (record { shape = refl; shard = refl; copies = refl }) (same l own.0 ∙ own.1) (omega arith)
            (λ q h apart i. (sym (same q h) ∙ i, omega arith));
        joins = λ q r own joins came. (sym (same q (home_own g c z q own)) ∙ joins, (r, came, refl));
      },
    )

-- a peer that is not good gets a status that is not
pub status_bad : (g p : ℕ) (s : PeerStatus) (c : Core) → is_good_status (status_of p c) ≡ false → is_good_status s ≡ false → (s ≡ Joining → status_of p c ≡ Joining) → Follows g c (set_status p s c)
status_bad g p s c was now only k = told_bad
  where
    told_bad : IsTold g (set_status p s c) × IsSteady g c (set_status p s c)
    told_bad = (
      record {
        sized = record { inside = k.sized.inside; low = k.sized.low; shape = k.sized.shape; shard = k.sized.shard; long = k.sized.long; some = k.sized.some; valid = become_members p s c.members k.sized.valid; rejoins = k.sized.rejoins };
        good = λ q h. elim (cases_eq q p) [
          | inl e ↦
              let own : IsOf c.members.shape g p = rw (← e) (own_home g c k.sized q h) in
              let here : status_of q (set_status p s c) ≡ s = ap (λ i. status_of i (set_status p s c)) e ∙ become_here p s c.members k.sized.valid (within g c k.sized p own) in
              k.good q h ∙ ap (λ i. is_good_status (status_of i c)) e ∙ was ∙ sym (ap is_good_status here ∙ now)
          | inr n ↦ k.good q h ∙ ap is_good_status (sym (become_other p q s c.members n))
        ];
      },
      record {
        shape = refl;
        lead = λ l e.
            let own = lead_good g c k.sized l e in
            let apart : l ≢ p = λ i. (let wrong : false ≡ true = sym (ap (λ j. is_good_status (status_of j c)) i ∙ was) ∙ ap is_good_status own.1 in cc wrong) in
            lead_kept g c (set_status p s c) l k.sized e refl (record { shape = refl; shard = refl; copies = refl }) (become_other p l s c.members apart ∙ own.1) (omega arith)
            (λ q h n i. elim (cases_eq q p) [
              | inl j ↦
                  let own_p : IsOf c.members.shape g p = rw (← j) (own_home g c k.sized q h) in
                  let here : status_of q (set_status p s c) ≡ s = ap (λ x. status_of x (set_status p s c)) j ∙ become_here p s c.members k.sized.valid (within g c k.sized p own_p) in
                  let wrong : false ≡ true = sym now ∙ ap is_good_status (sym here ∙ i) in absurd (cc wrong)
              | inr j ↦ (sym (become_other p q s c.members j) ∙ i, omega arith)
            ]);
        joins = λ q r own joins came. elim (cases_eq q p) [
          | inl e ↦
              let own_p : IsOf c.members.shape g p = rw (← e) own in
              let here : status_of q (set_status p s c) ≡ s = ap (λ x. status_of x (set_status p s c)) e ∙ become_here p s c.members k.sized.valid (within g c k.sized p own_p) in
              (ap (λ x. status_of x c) e ∙ only (sym here ∙ joins), (r, came, refl))
          | inr n ↦ (sym (become_other p q s c.members n) ∙ joins, (r, came, refl))
        ];
      },
    )

-- ---- what operations and entries that take effect do

longer_propose : (g : ℕ) (entry : Entry) (c : Core) → IsTold g c → IsLonger (group_of g c) (propose entry (group_of g c)) (lead_of g c)
longer_propose g entry c k = go (lead (group_of g c)) refl
  where
    go : (o : Option ℕ) → lead (group_of g c) ≡ o → IsLonger (group_of g c) (propose entry (group_of g c)) (lead_of g c)
    go None e =
        let none : lead_of g c ≡ None = lead_told g c k ∙ e in
        rw e (record {
          kept = record { shape = refl; shard = refl; copies = refl };
          good = λ p h. refl;
          long = λ p l i h good. (λ n. omega arith, omega arith);
        })
    go (Some d) e =
        let x : Group = group_of g c in
        let f : Replica → Replica = λ r. record r { stamps = stamp entry r.stamps } in
        let own = lead_good g c k.sized d (lead_told g c k ∙ e) in
        let is : propose entry x ≡ record (take_entry d entry x) { waiting = x.waiting ++ entry ∷ [] } = propose_is entry x d e in
        let here : copy_of (take_entry d entry x) d ≡ f (copy_of x d) = set_same x d f k.sized.long own.0 in
        let other : (p : ℕ) → IsHome x p → p ≢ d → copy_of (take_entry d entry x) p ≡ copy_of x p = λ p h n. set_other x d p f own.0 h n in
        record {
          kept = proposed_kept entry x;
          good = λ p h. ap (λ (y : Group). (copy_of y p).good) is ∙ elim (cases_eq p d) [
            | inl i ↦ rw i (ap (λ (r : Replica). r.good) here)
            | inr n ↦ ap (λ (r : Replica). r.good) (other p h n)
          ];
          long = λ p l i h good.
              let same : d ≡ l = let w : Some d ≡ Some l = sym (lead_told g c k ∙ e) ∙ i in cc w in
              subst (λ (y : Group). (p ≢ l → length_of y p ≤ length_of x p) × (length_of x p ≤ length_of y p)) (sym is) (elim (cases_eq p d) [
                | inl j ↦
                    let n : length_of (take_entry d entry x) p ≡ length_of x p + 1 =
                    ap (λ y. length_of (take_entry d entry x) y) j ∙ ap (λ (r : Replica). length r.stamps) here ∙ length-append (copy_of x d).stamps _ ∙ ap (λ y. length_of x y + 1) (sym j) in
                    (λ n2. absurd (n2 (j ∙ same)), omega (arith, n))
                | inr j ↦
                    let n : length_of (take_entry d entry x) p ≡ length_of x p = ap (λ (r : Replica). length r.stamps) (other p h j) in
                    (λ n2. omega (arith, n), omega (arith, n))
              ]);
        }

entry_quiet : (g : ℕ) (o : Option ℕ) (n : ℕ) (entry : Entry) (c : Core) → Follows g c (change_with o (λ peer. add_entry_tasks peer n entry) c)
entry_quiet g None n entry c = follows_quiet g c c refl refl refl refl
entry_quiet g (Some l) n entry c = follows_quiet g c (add_entry_tasks l n entry c) refl refl refl refl

pub follows_proposes : (g x : ℕ) (entry : Entry) (c : Core) → Follows g c (propose_entry x entry c)
follows_proposes g x entry c =
    let a : Core = change_group x (propose entry) c in
    let b : Core = post (proposal entry (group_of x c)) a in
    follows_both g c a (propose_entry x entry c) first
    (follows_both g a b (propose_entry x entry c) (follows_quiet g a b refl refl refl refl) (entry_quiet g (lead_of x c) (last_number (group_of x c) + 1) entry b))
  where
    first : Follows g c (change_group x (propose entry) c)
    first = elim (cases_eq x g) [
      | inl e ↦ rw e (follows_group g (propose entry) c (longer_propose g entry c))
      | inr n ↦ follows_beside g x (propose entry) c (λ e. n (sym e))
    ]

-- lists as they were
pub longer_same : (x y : Group) (o : Option ℕ) → IsKept x y → ((p : ℕ) → IsHome x p → ((copy_of y p).good ≡ (copy_of x p).good) × (length_of y p ≡ length_of x p)) → IsLonger x y o
longer_same x y o kept same = record {
  kept = kept;
  good = λ p h. (same p h).0;
  long = λ p l i h good. let n = (same p h).1 in (λ ne. omega (arith, n), omega (arith, n));
}

pub longer_copies : (x y : Group) (o : Option ℕ) → IsKept x y → y.copies ≡ x.copies → IsLonger x y o
longer_copies x y o kept e = longer_same x y o kept (λ p h. (rw (e, kept.shape, kept.shard) refl, rw (e, kept.shape, kept.shard) refl))

follows_commits : (g x : ℕ) (c : Core) → Follows g c (change_group x take_committed c)
follows_commits g x c = elim (cases_eq x g) [
  | inl e ↦ rw e (follows_group g take_committed c (λ k. longer_copies (group_of g c) (take_committed (group_of g c)) (lead_of g c) (committed_kept (group_of g c)) (committed_copies (group_of g c))))
  | inr n ↦ follows_beside g x take_committed c (λ e. n (sym e))
]

follows_reads : (g : ℕ) (o : Option ℕ) (number line : ℕ) (c : Core) → Follows g c (change_with o (add_read number line) c)
follows_reads g None number line c = follows_quiet g c c refl refl refl refl
follows_reads g (Some l) number line c = follows_quiet g c (add_read number line l c) refl refl refl refl

pub steps_follow : (g : ℕ) → StepLeaves (Follows g)
steps_follow g = record {
  same = λ c. follows_quiet g c c refl refl refl refl;
  both = follows_both g;
  catalogue = λ x y c. follows_quiet g c _ refl refl refl refl;
  viewed = λ x y c. follows_quiet g c _ refl refl refl refl;
  operations = λ x c. follows_quiet g c _ refl refl refl refl;
  sessions = λ x c. follows_quiet g c _ refl refl refl refl;
  noted = λ of did told c. follows_quiet g c _ refl refl refl refl;
  proposes = λ x entry c plain. follows_proposes g x entry c;
  reads = λ x number line c. follows_reads g (lead_of x c) number line c;
  sends = λ x sent c. follows_quiet g c _ refl refl refl refl;
  commits = follows_commits g;
}
