-- What a store opens with, shard by shard, and what that is of one copy.
use Rattle.std.proofs.Common.{◌≡◌, ◌∙◌, ap, sym, subst, inl, inr, ℕ, zero, suc, ◌*◌, ◌<◌, ◌≤◌, ◌&&◌, ◌||◌, Bool, true, false, not, List, [], ◌∷◌, length, map, Option, Some, None, is_some, refl, arith, if◌then◌else◌, Contains, unwrap_or}
use Rattle.std.proofs.lemmas.List.Elements.{Contains-append_cases, Contains-append_left, Contains-append_right}
use Rattle.std.specs.List.{list_any, range_with_len}
use Rattle.std.specs.Option.{option_map, option_map_or}
use Rattle.std.specs.Prelude.{IfSome, flat_map, slice_index_or}
use Rattle.hs_fold.specs.Shards.Setting.{Numbered, Setting}
use Rattle.hs_entry.specs.Entries.{rank_of}
use Rattle.hs_limits.specs.Shape.{peer_of}
use Rattle.hs_memory.specs.Forget.{apply_all}
use Rattle.hs_peerlog.proofs.ImageLemmas.{Since}
use Rattle.hs_peerlog.specs.Lists.{HasLog, IsKept, Keeping}
use Rattle.hs_peerlog.specs.Views.{Viewing}
use Rattle.hs_shard.specs.Facts.{empty_catalogue}
use Rattle.hs_side.specs.Current.{list_in}
use Rattle.hs_taking.proofs.ChoiceLemmas.{shard_within}
use Rattle.hs_taking.proofs.ReadLemmas.{leaves_read, shard_read}
use Rattle.hs_taking.proofs.RunLemmas.{view_slot}
use Rattle.hs_taking.specs.Copies.{HasEvened, HasShard, IsCopy, IsLostOf, IsOf, begun_list, is_kept}
use Rattle.hs_taking.specs.declared.shares.Share.{Share}
use Rattle.hs_taking.specs.declared.slot.Slot.{Slot}
use Rattle.hs_taking.specs.declared.slot.Slot.TheVariants.{Aside, Viewed, Equal, Kept}
use Rattle.hs_taking.specs.Disks.{DiskSeen, log_at, seen_at}
use Rattle.hs_taking.specs.Evens.{IsTaken, TakesAll, TakesFrom, slot_of}
use Rattle.hs_taking.specs.Shares.{HasShare, IsLostDisk, KeepsDisk, Span, Taken, all_lost, kept_list, lost_of, no_share, share_at}
use Rattle.hs_taking.specs.Slots.{slot_at}
use Rattle.hs_taking.specs.Store.{HasRead}
use Rattle.hs_taking.specs.Viewed.{IsOnlyRead, IsUnread, IsViewed, IsViewOf}

-- ---- the logs that were lost

nothing : (x : ℕ × ℕ) → Contains [] x → ⊥
nothing x has = omega (arith, has.1)

contains_one : (y x : ℕ × ℕ) → Contains (y ∷ []) x → y ≡ x
contains_one y x (zero, low, is) = is
contains_one y x (suc k, low, is) = absurd (omega (arith, low))

-- it is of one of the shares
record OfShare (shares : List Share) (x : ℕ × ℕ) : Type 0 where
  at : ℕ
  within : at < length shares
  peer : x.0 ≡ (slice_index_or shares at no_share).peer
  lost : (slice_index_or shares at no_share).lost ≡ Some x.1

own_lost : (peer : ℕ) (lost : Option ℕ) (x : ℕ × ℕ) → Contains (option_map_or (λ moment. (peer, moment) ∷ []) lost []) x → (x.0 ≡ peer) × (lost ≡ Some x.1)
own_lost peer None x has = absurd (nothing x has)
own_lost peer (Some m) x has = let e = contains_one (peer, m) x has in (ap (λ (z : ℕ × ℕ). z.0) (sym e), ap (λ (z : ℕ × ℕ). Some z.1) e)

of_share : (shares : List Share) (x : ℕ × ℕ) → Contains (flat_map lost_of shares) x → OfShare shares x
of_share [] x has = absurd (nothing x has)
of_share (s ∷ shares) x has = elim (Contains-append_cases (lost_of s) (flat_map lost_of shares) x has) [
  | inl here ↦ let o = own_lost s.peer s.lost x here in record { at = 0; within = omega arith; peer = o.0; lost = o.1 }
  | inr there ↦
      let o = of_share shares x there in
      let w = o.within in
      record { at = suc o.at; within = omega (arith, w); peer = o.peer; lost = o.lost }
]

lost_share_in : (share : Share) (m : ℕ) → share.lost ≡ Some m → Contains {X = ℕ × ℕ} (lost_of share) (share.peer, m)
lost_share_in share m e = subst (λ (o : Option ℕ). Contains {X = ℕ × ℕ} (option_map_or (λ moment. (share.peer, moment) ∷ []) o []) (share.peer, m)) (sym e) (0, omega arith, refl)

lost_in : (shares : List Share) (k m : ℕ) → k < length shares → (slice_index_or shares k no_share).lost ≡ Some m → Contains (flat_map lost_of shares) ((slice_index_or shares k no_share).peer, m)
lost_in [] k m low e = absurd (omega (arith, low))
lost_in (s ∷ shares) zero m low e = Contains-append_left (lost_of s) (flat_map lost_of shares) (s.peer, m) (lost_share_in s m e)
lost_in (s ∷ shares) (suc k) m low e = Contains-append_right (lost_of s) (flat_map lost_of shares) ((slice_index_or shares k no_share).peer, m) (lost_in shares k m (omega (arith, low)) e)

some_moment : (o : Option ℕ) → is_some o ≡ true → (m : ℕ) × (o ≡ Some m)
some_moment None e = cc e
some_moment (Some m) e = (m, refl)

none_some : (m : ℕ) → None ≡ Some m → ⊥
none_some m e = cc e

-- ---- all shards

module _ (tells : Type 0) (set : Setting) (before mid now : ℕ) (old via new : List DiskSeen) (views : List (Option Viewing)) (taken : Taken) (up : before ≤ mid) (on : mid ≤ now) (count : length taken.shares ≡ set.shape.shards) (many : length views ≡ set.shape.shards * set.shape.copies)
    (read : (peer : ℕ) → peer < set.shape.shards * set.shape.copies → IsOnlyRead tells before mid (seen_at old peer) (seen_at via peer)) (viewed : (peer : ℕ) → peer < set.shape.shards * set.shape.copies → IsViewed tells set.shape peer (seen_at old peer) (seen_at via peer) (slice_index_or views peer None))
    (stand : (peer : ℕ) → peer < set.shape.shards * set.shape.copies → IfSome (slice_index_or views peer None) (IsViewOf tells set.shape peer (seen_at via peer))) (since : (peer : ℕ) → tells → Since (seen_at via peer).stands)
    (all : TakesAll tells set mid now via new views taken) where
  abbrev whole : Span
  whole = record { before = before; now = now; old = old; new = new }

  within : (shard peer : ℕ) → shard < length taken.shares → IsOf set.shape shard peer → peer < set.shape.shards * set.shape.copies
  within shard peer low of =
      let w = shard_within set.shape shard (omega (arith, low, count)) in
      let t = of.to in
      omega (arith, w, t)

  each : (shard : ℕ) → shard < length taken.shares → HasShard tells set whole taken shard
  each shard low =
      let w = shard_within set.shape shard (omega (arith, low, count)) in
      shard_read tells set before mid now old via new views taken all.slots up on (set.shape.shards * set.shape.copies) read viewed stand since all.logs shard (λ peer of. within shard peer low of) (all.chosen shard low) (all.home shard low) (omega (arith, w, many)) (all.numbered shard low)
      (all.each shard low)

  -- when a taken log was lost
  record LostAt (peer moment : ℕ) : Type 0 where
    low : mid ≤ moment
    high : moment ≤ now
    disk : IsLostDisk tells mid (seen_at via peer) (seen_at new peer) moment

  lost_of_slot : (peer : ℕ) (slot : Slot) (lost : Option ℕ) (m : ℕ) → lost ≡ Some m → IsTaken tells mid now (seen_at via peer) (seen_at new peer) slot lost → LostAt peer m
  lost_of_slot peer (Kept log) lost m e t = absurd (subst (λ o. IsTaken tells mid now (seen_at via peer) (seen_at new peer) (Kept log) o) e t)
  lost_of_slot peer Aside lost m e t =
      let h : IsTaken tells mid now (seen_at via peer) (seen_at new peer) Aside (Some m) = subst (λ o. IsTaken tells mid now (seen_at via peer) (seen_at new peer) Aside o) e t in
      record { low = h.0; high = h.1; disk = h.2 }
  lost_of_slot peer (Viewed view) lost m e t = absurd t
  lost_of_slot peer (Equal view) lost m e t = absurd t

  lost_at : (shard m : ℕ) → shard < length taken.shares → (share_at taken shard).lost ≡ Some m → LostAt (share_at taken shard).peer m
  lost_at shard m low e = by (slot_at (map slot_of views) (share_at taken shard).peer) (all.each shard low)
    where
      by : (slot : Slot) → TakesFrom tells (apply_all set.name (empty_catalogue set.shape shard)) set.shape shard (share_at taken shard).peer mid now via new (map slot_of views) all.slots (share_at taken shard) slot → LostAt (share_at taken shard).peer m
      by (Viewed view) t = lost_of_slot (share_at taken shard).peer (slot_at all.slots (share_at taken shard).peer) (share_at taken shard).lost m e t.copies.taken
      by Aside t = absurd (none_some m (sym t.lost ∙ e))
      by (Equal view) t = absurd (none_some m (sym t.lost ∙ e))
      by (Kept log) t = absurd (none_some m (sym t.lost ∙ e))

  lost_is : (x : ℕ × ℕ) → OfShare taken.shares x → IsLostOf tells whole taken x
  lost_is x o =
      let l = lost_at o.at x.1 o.within o.lost in
      let low = l.low in
      let r = read (share_at taken o.at).peer (within o.at (share_at taken o.at).peer o.within (all.home o.at o.within)) in
      record {
        shard = o.at;
        within = o.within;
        peer = o.peer;
        lost = o.lost;
        later = omega (arith, up, low);
        up_to = l.high;
        disk = subst (λ p. IsLostDisk tells before (seen_at old p) (seen_at new p) x.1) (sym o.peer) (record {
          still = λ told last list leaves.
              let m = r.moments told last in
              l.disk.still told m.last list (leaves_read before mid (seen_at old (share_at taken o.at).peer).stands (seen_at via (share_at taken o.at).peer).stands list m leaves);
          failed = λ told. let c = r.counted in let f = l.disk.failed told in omega (arith, c, f);
        });
      }

  pub all_opened : HasEvened tells set whole taken
  all_opened = record {
    each = each;
    lost = λ x has. lost_is x (of_share taken.shares x has);
    once = all.once;
    all = λ shard low some. let m = some_moment (share_at taken shard).lost some in (m.0, lost_in taken.shares shard m.0 low m.1);
  }

  -- of one copy: who has no log was not read
  pub unread_one : (peer : ℕ) → peer < length taken.shares → (share_at taken peer).peer ≡ peer → (share_at taken peer).took ≡ None → ((peer : ℕ) → peer < set.shape.shards * set.shape.copies → (seen_at via peer).faults ≤ (seen_at new peer).faults) → IsUnread tells (seen_at old peer) (seen_at new peer)
  unread_one peer low own none counted =
      let in_all = within peer peer low (subst (λ p. IsOf set.shape peer p) own (all.home peer low)) in
      let c = counted peer in_all in
      elim ((viewed peer in_all).none (by (slice_index_or views peer None) refl)) [
        | inl rose ↦ inl (omega (arith, rose, c))
        | inr is_none ↦ inr is_none
      ]
    where
      some_took : (x : ℕ) → Some x ≡ None → ⊥
      some_took x e = cc e

      by : (view : Option Viewing) → slice_index_or views peer None ≡ view → slice_index_or views peer None ≡ None
      by None is = is
      by (Some view) is =
          let slot = view_slot views peer ∙ ap (λ v. slot_of v) is in
          let t = subst (λ (s : Slot). TakesFrom tells (apply_all set.name (empty_catalogue set.shape peer)) set.shape peer (share_at taken peer).peer mid now via new (map slot_of views) all.slots (share_at taken peer) s) (ap (λ p. slot_at (map slot_of views) p) own ∙ slot) (all.each peer low) in
          absurd (some_took (rank_of t.log).number (sym t.took ∙ none))

-- ---- one copy

module _ (tells : Type 0) (set : Setting) (span : Span) (taken : Taken) (one : set.shape.copies ≡ 1) (has : HasEvened tells set span taken) where
  first_is : (shard : ℕ) → peer_of set.shape shard 0 ≡ shard
  first_is shard = let m : shard * set.shape.copies ≡ shard * 1 = ap (λ n. shard * n) one in omega (arith, m)

  pub peer_is : (shard : ℕ) → shard < length taken.shares → (share_at taken shard).peer ≡ shard
  peer_is shard low =
      let h = (has.each shard low).first.home in
      let f = h.from in
      let t = h.to in
      let i = first_is shard in
      omega (arith, f, t, i, one)

  kept_one : (shard : ℕ) → is_kept set.shape taken.logs shard ≡ is_some (log_at taken.logs shard)
  kept_one shard = ap (λ n. list_any (λ peer. is_some (log_at taken.logs peer)) (range_with_len (peer_of set.shape shard 0) n)) one ∙ ap (λ n. is_some (log_at taken.logs n) || false) (first_is shard) ∙ or_false (is_some (log_at taken.logs shard))
    where
      or_false : (b : Bool) → (b || false) ≡ b
      or_false true = refl
      or_false false = refl

  list_one : (log : Option Numbered) (slot : Option Keeping) (b : Bool) → b ≡ is_some slot → (if b then unwrap_or log [] else []) ≡ kept_list log slot
  list_one log None b e = ap (λ (x : Bool). if x then unwrap_or log [] else []) e
  list_one log (Some keeping) b e = ap (λ (x : Bool). if x then unwrap_or log [] else []) e

  took_some : {o : Option ℕ} (log : Option Numbered) → o ≡ option_map (λ list. (rank_of list).number) log → is_some o ≡ true → log ≡ None → ⊥
  took_some log e some none = cc (sym some ∙ ap (λ (x : Option ℕ). is_some x) e ∙ ap (λ (l : Option Numbered). is_some (option_map (λ list. (rank_of list).number) l)) none)

  some_not_none : (log : Option Numbered) → is_some log ≡ true → log ≡ None → ⊥
  some_not_none log some none = cc (sym some ∙ ap (λ (l : Option Numbered). is_some l) none)

  unwrap_is : (log : Option Numbered) (list : Numbered) → log ≡ Some list → unwrap_or log [] ≡ list
  unwrap_is log list e = ap (λ (l : Option Numbered). unwrap_or l []) e

  share_one : (shard : ℕ) → shard < length taken.shares → HasShare tells set span taken shard
  share_one shard low =
      let h = has.each shard low in
      let p = peer_is shard low in
      let home = subst (λ n. IsOf set.shape shard n) p h.first.home in
      let c = subst (λ n. IsCopy tells span.before span.now (seen_at span.old shard) (seen_at span.new shard) (h.logs shard) (unwrap_or (h.logs n) []) (log_at taken.logs shard) (is_some (share_at taken shard).lost)) p (h.each shard home) in
      let begun : begun_list set.shape taken (h.logs (share_at taken shard).peer) shard ≡ kept_list (h.logs shard) (log_at taken.logs shard) =
      ap (λ n. begun_list set.shape taken (h.logs n) shard) p ∙ list_one (h.logs shard) (log_at taken.logs shard) (is_kept set.shape taken.logs shard) (kept_one shard) in
      let took = h.took ∙ ap (λ n. option_map (λ (list : Numbered). (rank_of list).number) (h.logs n)) p in
      let read : tells → (h.logs shard ≡ None → ⊥) → h.logs shard ≡ list_in (seen_at span.old shard).stands.seen = λ told some. elim (c.read told) [ inl is ↦ is | inr none ↦ absurd (some none.0) ] in
      let there : (keeping : Keeping) → log_at taken.logs shard ≡ Some keeping → h.logs shard ≡ None → ⊥ = λ keeping e. some_not_none (h.logs shard) (c.kept (ap (λ (o : Option Keeping). is_some o) e)) in
      record {
        share = record {
          log = h.logs shard;
          told = λ told some. read told (took_some (h.logs shard) took some);
          kept = c.kept;
          catalogue = h.catalogue ∙ ap (λ l. apply_all set.name (empty_catalogue set.shape shard) l) begun;
          rank = h.rank ∙ ap (λ l. rank_of l) begun;
          took = took;
          lost = h.lost ∙ ap (λ n. is_some (share_at taken shard).took && not (is_some (log_at taken.logs n))) p;
        };
        disk = subst (λ n. KeepsDisk tells span.before span.now (seen_at span.old n) (seen_at span.new n)) p h.disk;
        log = λ told last keeping is list listed. subst (λ l. HasLog keeping (seen_at span.new shard).stands l None) (unwrap_is (h.logs shard) list (read told (there keeping is) ∙ listed)) (c.has told last keeping is);
        reads = λ told keeping is list listed.
            let e = unwrap_is (h.logs shard) list (read told (there keeping is) ∙ listed) in
            subst (λ l. IsKept keeping ((seen_at span.new shard).stands.seen keeping.log.side) l None) e (c.reads told keeping is (listed ∙ ap (λ l. Some l) (sym e)));
        calm = c.calm;
        shard_is = h.shard_is;
        peer_is = p;
      }

  pub read_one : ((peer : ℕ) → peer < length taken.shares → (share_at taken peer).took ≡ None → IsUnread tells (seen_at span.old peer) (seen_at span.new peer)) → HasRead tells set span taken
  read_one unread = record {
    each = share_one;
    unread = unread;
    lost = λ x is.
        let l = has.lost x is in
        let same : x.0 ≡ l.shard = l.peer ∙ peer_is l.shard l.within in
        let w = l.within in
        record {
          within = subst (λ n. n < length taken.shares) (sym same) w;
          lost = ap (λ n. is_some (share_at taken n).lost) same ∙ ap (λ (o : Option ℕ). is_some o) l.lost;
          later = l.later;
          up_to = l.up_to;
          disk = l.disk;
        };
    once = has.once;
    all = λ peer low some. let m = has.all peer low some in (m.0, subst (λ n. Contains (all_lost taken) (n, m.0)) (peer_is peer low) m.1);
  }
