-- Each operation of a client alone, with what shards do around it.
use Rattle.std.proofs.Common.{◌≡◌, inl, inr, ℕ, ◌+◌, ◌<◌, ◌≤◌, List, [], ◌∷◌, ◌++◌, Option, Some, refl, sym, ap, ◌∙◌, subst, length, map, unwrap_or}
use Rattle.std.specs.List.{AllByRecursion}
use Rattle.std.specs.BTreeMap.{is_at}
use Rattle.std.specs.Map.{lookup}
use Rattle.std.specs.Prelude.{find}
use Rattle.hs_asking.proofs.SeatLemmas.{IsUsable, WriteComes, more_same, seat_drift, seat_kept, write_comes}
use Rattle.hs_asking.proofs.StayLemmas.{Drifted, SameWhereBoth, drift, kept_whole, stays_where_both, stays-trans}
use Rattle.hs_asking.proofs.UseLemmas.{LookComes, RootComes, forget_comes, look_comes, open_comes, read_comes, root_comes}
use Rattle.hs_asking.proofs.SeatLemmas.WriteComes.{done as write_done, refused as write_refused}
use Rattle.hs_asking.proofs.UseLemmas.LookComes.{done as look_done, none as look_none}
use Rattle.hs_asking.proofs.UseLemmas.RootComes.{done as root_done, refused as root_refused}
use Rattle.hs_asking.specs.Alone.{Goes, IsForgot, IsLooked, IsOpened, IsRead, IsRooted, IsWritten, looked, nothing, rooted, unrooted, unwritten, written}
use Rattle.hs_asking.specs.Judged.{Drifts, IsJudged}
use Rattle.hs_asking.specs.Seats.{HasSeat, IsSane, numbered}
use Rattle.hs_asking.specs.Staying.{Stays}
use Rattle.hs_laws.proofs.ValidLemmas.{valid_from_is}
use Rattle.hs_laws.specs.Written.{IsBlockAt}
use Rattle.hs_limits.specs.Block.{Block}
use Rattle.hs_limits.specs.declared.address.Address.{Address}
use Rattle.hs_limits.specs.declared.address.Held.{Held}
use Rattle.hs_limits.specs.declared.limits.Limits.{Limits}
use Rattle.hs_limits.specs.declared.spelling.TheConstants.{MOST_BYTES, MOST_POINTERS}
use Rattle.hs_model.proofs.Members.{Member, member-append_left, member-append_right}
use Rattle.hs_model.specs.Judge.{address_of, judge, written as written_block}
use Rattle.hs_model.specs.Judge as judging
use Rattle.hs_model.specs.Store.{Session, Store, address_cmp, block_at, held_in, helds_of, is_retained, retained_at}
use Rattle.hs_model.specs.declared.op.Op.{Op}
use Rattle.hs_model.specs.declared.op.Op.TheVariants as op
use Rattle.hs_model.specs.declared.reply.Reply.{Reply}

same_roots : (s u : Store) → u.roots ≡ s.roots → (key : List ℕ) → retained_at u key ≡ retained_at s key
same_roots s u e key = ap (λ x. find (is_retained key) x) e

-- shards, a change in which no address comes to another block, and shards again
module _ (s at u t : Store) (name : List ℕ) (next : ℕ) (es : List (ℕ × Held)) (n : ℕ) (fs : List (ℕ × Held)) (before : Drifted s at) (seat : HasSeat s name next es) (after : HasSeat u name n fs) (same : SameWhereBoth at u) (behind : Drifted u t) where
  seat_there : HasSeat at name next es
  seat_there = seat_drift s at name next es before seat

  pub stays_through : (e : ℕ × Held) → Member e es → Member e fs → Stays s t e.1.address
  stays_through e m k =
      stays-trans s at t e.1.address (before.stays e.1.address (seat_kept s name next es seat e m))
      (stays-trans at u t e.1.address
      (stays_where_both at u e.1.address (kept_whole at (valid_from_is at seat_there.sane.valid) e.1.address (seat_kept at name next es seat_there e m)) (kept_whole u (valid_from_is u after.sane.valid) e.1.address (seat_kept u name n fs after e k)) same)
      (behind.stays e.1.address (seat_kept u name n fs after e k)))

  pub goes_through : ((key : List ℕ) → retained_at u key ≡ retained_at at key) → Goes s t name es n fs
  goes_through roots = record {
    seat = seat_drift u t name n fs behind after;
    stays = stays_through;
    roots = λ key. behind.retained key ∙ (roots key ∙ before.retained key);
  }

same_blocks : (s u : Store) → u.blocks ≡ s.blocks → SameWhereBoth s u
same_blocks s u e = (more_same s u e).same

block_after : (u t : Store) (a : Address) (block : Block) → Stays u t a → IsBlockAt u a block → IsBlockAt t a block
block_after u t a block h b = record { stored = b.stored; present = h.blocks [] a refl ∙ b.present; bytes = b.bytes; pointers = b.pointers }

pub usable_drift : (s at : Store) (session : Session) → Drifted s at → (handles : List ℕ) → AllByRecursion (IsUsable s session) handles → AllByRecursion (IsUsable at session) handles
usable_drift s at session d [] h = tt
usable_drift s at session d (handle ∷ rest) h = ((h.0.0, h.0.1, subst (λ z. z ≤ h.0.0.epoch + 1) (sym d.first) h.0.2), usable_drift s at session d rest h.1)

module _ (limits : Limits) (s t : Store) (name : List ℕ) where
  -- ---- an open

  pub opens_alone : (told : Reply) → IsSane s → length s.sessions ≡ 0 → 0 < limits.sessions → IsJudged limits s t (op.Open name) told → IsOpened s t name told
  opens_alone told sane none room j =
      let before : Drifted s j.at = drift limits s j.at j.before sane in
      let c = open_comes limits j.at name before.sane (before.count ∙ none) room in
      let behind : Drifted (judge limits j.at (op.Open name)).store t = drift limits (judge limits j.at (op.Open name)).store t j.behind c.after.sane in
      record {
        told_is = sym j.reply ∙ c.told_is;
        goes = record {
          seat = seat_drift (judge limits j.at (op.Open name)).store t name 0 [] behind c.after;
          stays = λ e m k. absurd m;
          roots = λ key. behind.retained key ∙ (same_roots j.at (judge limits j.at (op.Open name)).store c.rest.roots key ∙ before.retained key);
        };
      }

  module _ (next : ℕ) (es : List (ℕ × Held)) (seat : HasSeat s name next es) where
    abbrev session : Session
    session = record { next = next; handles = es }

    -- nothing that is judged changes the store
    stays_put : (at u : Store) → Drifted s at → u ≡ at → Drifts limits u t → Goes s t name es next es
    stays_put at u before e d =
        let here : HasSeat at name next es = seat_drift s at name next es before seat in
        let there : Drifts limits at t = subst (λ z. Drifts limits z t) e d in
        goes_through s at at t name next es next es before seat here (same_blocks at at refl) (drift limits at t there here.sane) (λ key. refl)

    -- ---- a write

    pub writes_alone : (payload handles : List ℕ) (a : Address) (told : Reply) → length payload ≤ MOST_BYTES → length handles ≤ MOST_POINTERS → length es + 1 ≤ limits.handles → AllByRecursion (IsUsable s session) handles
        → IsJudged limits s t (op.Write name payload handles (Some a)) told → IsWritten limits s t name next es a (written_block s name payload handles) told
    writes_alone payload handles a told short few room usable j =
        let before : Drifted s j.at = drift limits s j.at j.before seat.sane in
        let here : HasSeat j.at name next es = seat_drift s j.at name next es before seat in
        let same : written_block j.at name payload handles ≡ written_block s name payload handles = ap (λ (x : Option Session). record { pointers = map (λ handle. (unwrap_or (held_in x handle) judging.nothing).address) handles; bytes = payload }) (before.sessions name) in
        go before (judge limits j.at (op.Write name payload handles (Some a))).store refl
        (subst (λ z. WriteComes limits j.at (judge limits j.at (op.Write name payload handles (Some a))).store name next es a z (judge limits j.at (op.Write name payload handles (Some a))).reply) same
        (write_comes limits j.at name next es here payload handles a short few room (usable_drift s j.at session before handles usable)))
      where
        go : Drifted s j.at → (u : Store) → (judge limits j.at (op.Write name payload handles (Some a))).store ≡ u
            → WriteComes limits j.at u name next es a (written_block s name payload handles) (judge limits j.at (op.Write name payload handles (Some a))).reply
            → IsWritten limits s t name next es a (written_block s name payload handles) told
        go before u e (write_done epoch told_is after there same roots epochs) =
            let behind : Drifted u t = drift limits u t (subst (λ z. Drifts limits z t) e j.behind) after.sane in
            let held : ℕ × Held = (next, record { address = a; epoch = epoch }) in
            let last : Member held (es ++ held ∷ []) = member-append_right held es (held ∷ []) (inl refl) in
            written epoch (elim told_is [ inl q ↦ inl (sym j.reply ∙ q) | inr q ↦ inr (sym j.reply ∙ q) ])
            (goes_through s j.at u t name next es (next + 1) (es ++ held ∷ []) before seat after same behind (same_roots j.at u roots))
            (block_after u t a (written_block s name payload handles) (behind.stays a (seat_kept u name (next + 1) (es ++ held ∷ []) after held last)) there)
        go before u e (write_refused told_is still) =
            unwritten (elim told_is [ inl q ↦ inl (sym j.reply ∙ q) | inr q ↦ inr (sym j.reply ∙ q) ]) (stays_put j.at u before still (subst (λ z. Drifts limits z t) e j.behind))

    -- ---- a read

    pub reads_alone : (handle : ℕ) (held : Held) (told : Reply) → Member (handle, held) es → length es + MOST_POINTERS ≤ limits.handles → IsJudged limits s t (op.Read name handle) told → IsRead s t name next es held told
    reads_alone handle held told m room j =
        let o : Op = op.Read name handle in
        let u : Store = (judge limits j.at o).store in
        let before : Drifted s j.at = drift limits s j.at j.before seat.sane in
        let here : HasSeat j.at name next es = seat_drift s j.at name next es before seat in
        let c = read_comes limits j.at name next es here handle held m room in
        let behind : Drifted u t = drift limits u t j.behind c.after.sane in
        let fs : List (ℕ × Held) = es ++ numbered next (helds_of c.stored.pointers held.epoch) in
        let still : Member (handle, held) fs = member-append_left (handle, held) es _ m in
        let at_u : block_at u held.address ≡ Some c.stored = ap (λ x. lookup (is_at (address_cmp held.address)) x) c.rest.blocks ∙ c.present in
        record {
          stored = c.stored;
          present = (behind.stays held.address (seat_kept u name (next + length c.stored.pointers) fs c.after (handle, held) still)).blocks [] held.address refl ∙ at_u;
          few = c.few;
          told_is = sym j.reply ∙ c.told_is;
          goes = goes_through s j.at u t name next es (next + length c.stored.pointers) fs before seat c.after (same_blocks j.at u c.rest.blocks) behind (same_roots j.at u c.rest.roots);
        }

    -- ---- a look

    pub looks_alone : (key : List ℕ) (told : Reply) → length es + 1 ≤ limits.handles → IsJudged limits s t (op.Look name key) told → IsLooked s t name next es key told
    looks_alone key told room j =
        let before : Drifted s j.at = drift limits s j.at j.before seat.sane in
        let here : HasSeat j.at name next es = seat_drift s j.at name next es before seat in
        go before here (judge limits j.at (op.Look name key)).store refl (look_comes limits j.at name next es here key room)
      where
        go : Drifted s j.at → (here : HasSeat j.at name next es) → (u : Store) → (judge limits j.at (op.Look name key)).store ≡ u → LookComes limits j.at name next es here key u (judge limits j.at (op.Look name key)).reply → IsLooked s t name next es key told
        go before here u e (look_done root r epoch told_is after rest) =
            let behind : Drifted u t = drift limits u t (subst (λ z. Drifts limits z t) e j.behind) after.sane in
            let fs : List (ℕ × Held) = es ++ (next, record { address = root.address; epoch = epoch }) ∷ [] in
            looked root epoch (behind.retained key ∙ (same_roots j.at u rest.roots key ∙ r)) (sym j.reply ∙ told_is)
            (goes_through s j.at u t name next es (next + 1) fs before seat after (same_blocks j.at u rest.blocks) behind (same_roots j.at u rest.roots))
        go before here u e (look_none told_is r still) =
            let goes : Goes s t name es next es = stays_put j.at u before still (subst (λ z. Drifts limits z t) e j.behind) in
            nothing (sym j.reply ∙ told_is) (goes.roots key ∙ (sym (before.retained key) ∙ r)) goes

    -- ---- a root

    pub roots_alone : (key : List ℕ) (handle : ℕ) (held : Held) (told : Reply) → Member (handle, held) es → IsJudged limits s t (op.Root name key handle) told → IsRooted limits s t name next es key held told
    roots_alone key handle held told m j =
        let before : Drifted s j.at = drift limits s j.at j.before seat.sane in
        let here : HasSeat j.at name next es = seat_drift s j.at name next es before seat in
        go before here (judge limits j.at (op.Root name key handle)).store refl (root_comes limits j.at name next es here handle held m key)
      where
        go : Drifted s j.at → (here : HasSeat j.at name next es) → (u : Store) → (judge limits j.at (op.Root name key handle)).store ≡ u → RootComes limits j.at name next es here handle held m key u (judge limits j.at (op.Root name key handle)).reply → IsRooted limits s t name next es key held told
        go before here u e (root_done told_is r kept same after blocks epochs) =
            let behind : Drifted u t = drift limits u t (subst (λ z. Drifts limits z t) e j.behind) after.sane in
            rooted (sym j.reply ∙ told_is) r (behind.retained key ∙ kept) same (seat_drift u t name next es behind after)
            (λ x k. stays_through s j.at u t name next es next es before seat after (same_blocks j.at u blocks) behind x k k)
        go before here u e (root_refused told_is still) =
            unrooted (elim told_is [ inl q ↦ inl (sym j.reply ∙ q) | inr q ↦ inr (sym j.reply ∙ q) ]) (stays_put j.at u before still (subst (λ z. Drifts limits z t) e j.behind))

    -- ---- a forget

    pub forgets_alone : (front : List (ℕ × Held)) (e : ℕ × Held) (back : List (ℕ × Held)) (told : Reply) → es ≡ front ++ e ∷ back → IsJudged limits s t (op.Forget name e.0) told → IsForgot s t name next es (front ++ back) told
    forgets_alone front e back told split j =
        let o : Op = op.Forget name e.0 in
        let u : Store = (judge limits j.at o).store in
        let before : Drifted s j.at = drift limits s j.at j.before seat.sane in
        let here : HasSeat j.at name next es = seat_drift s j.at name next es before seat in
        let c = forget_comes limits j.at name next es here front e back split in
        let behind : Drifted u t = drift limits u t j.behind c.after.sane in
        record {
          told_is = sym j.reply ∙ c.told_is;
          goes = goes_through s j.at u t name next es next (front ++ back) before seat c.after (same_blocks j.at u c.rest.blocks) behind (same_roots j.at u c.rest.roots);
        }
