-- What sessions come to hold.
use Rattle.std.proofs.Common.{◌≡◌, ℕ, ◌+◌, ◌≤◌, ◌⊎◌, inl, inr, List, [], ◌∷◌, Option, Some, None, refl, sym, subst}
use Rattle.std.specs.BTreeMap.{is_at}
use Rattle.std.specs.Map.{set_value}
use Rattle.std.specs.Option.{option_map}
use Rattle.std.specs.Ordering.{nat_cmp}
use Rattle.hs_limits.specs.declared.address.Held.{Held}
use Rattle.hs_model.specs.Store.{Store, Session, text_cmp, session_at, holding, holding_all, with_sessions, put_session, hold_all}
use Rattle.hs_laws.specs.Valid.{least_epoch, rests_on}
use Rattle.hs_laws.proofs.InsertLemmas.{insert-value, set-value, entry_from_lookup}
use Rattle.hs_model.proofs.Members.{Member}
use Rattle.hs_model.proofs.ReachLemmas.{Reaches}
use Rattle.hs_laws.proofs.ValidLemmas.{HeldIn, AreHeld, Valid}

-- other sessions, which hold no more than may be held
pub sessions_valid : (s : Store) → Valid s → (sessions : List (List ℕ × Session)) → AreHeld s (least_epoch s) sessions → Valid (with_sessions s sessions)
sessions_valid s v sessions h = record { epochs = record { some_shard = v.epochs.some_shard; swept_each = v.epochs.swept_each; not_ahead = v.epochs.not_ahead; not_behind = v.epochs.not_behind; swept_not_ahead = v.epochs.swept_not_ahead; swept_not_behind = v.epochs.swept_not_behind; swept_entered = v.epochs.swept_entered }; anchored = v.anchored; held = h; given = record { given_present = v.given.given_present; present_given = v.given.present_given; born = v.given.born; now = v.given.now } }

-- what a session holds comes from what it held, or from what it was given
pub holding_all-handles : (helds : List Held) (session : Session) (h : ℕ × Held) → Member h (holding_all helds session).handles → Member h session.handles ⊎ Member h.1 helds
holding_all-handles [] session h m = inl m
holding_all-handles (held ∷ rest) session h m = go (holding_all-handles rest (holding held session) h m)
  where
    here : (h.1 ≡ held) ⊎ Member h session.handles → Member h session.handles ⊎ Member h.1 (held ∷ rest)
    here (inl e) = inr (inl e)
    here (inr n) = inl n

    go : Member h (holding held session).handles ⊎ Member h.1 rest → Member h session.handles ⊎ Member h.1 (held ∷ rest)
    go (inl n) = here (insert-value nat_cmp session.handles session.next held h n)
    go (inr n) = inr (inr n)

pub session_entry : (s : Store) (name : List ℕ) (session : Session) → session_at s name ≡ Some session → (e : List ℕ × Session) × Member e s.sessions × (e.1 ≡ session)
session_entry s name session h = entry_from_lookup (is_at (text_cmp name)) s.sessions session h

-- an open session that holds what was held or may be held
pub put_valid : (s : Store) → Valid s → (name : List ℕ) (session after : Session) → session_at s name ≡ Some session → ((h : ℕ × Held) → Member h after.handles → Member h session.handles ⊎ (least_epoch s ≤ h.1.epoch + 1 → Reaches s.blocks (rests_on s h.1.epoch) h.1.address)) → Valid (put_session s name (Some after))
put_valid s v name session after found f = sessions_valid s v (set_value (is_at (text_cmp name)) s.sessions after) held
  where
    old : (h : ℕ × Held) → Member h session.handles → HeldIn s.sessions h.1
    old h n = let e = session_entry s name session found in (e.0, h, e.1, subst (λ z. Member h z.handles) (sym e.2) n, refl)

    here : (h : ℕ × Held) → Member h session.handles ⊎ (least_epoch s ≤ h.1.epoch + 1 → Reaches s.blocks (rests_on s h.1.epoch) h.1.address) → least_epoch s ≤ h.1.epoch + 1 → Reaches s.blocks (rests_on s h.1.epoch) h.1.address
    here h (inl n) l = v.held h.1 (old h n) l
    here h (inr g) l = g l

    go : (held : Held) (e : List ℕ × Session) (h : ℕ × Held) → Member h e.1.handles → h.1 ≡ held → (e.1 ≡ after) ⊎ Member e s.sessions → least_epoch s ≤ held.epoch + 1 → Reaches s.blocks (rests_on s held.epoch) held.address
    go held e h n same (inl q) l = subst (λ z. least_epoch s ≤ z.epoch + 1 → Reaches s.blocks (rests_on s z.epoch) z.address) same (here h (f h (subst (λ z. Member h z.handles) q n))) l
    go held e h n same (inr q) l = v.held held (e, h, q, n, same) l

    held : AreHeld s (least_epoch s) (set_value (is_at (text_cmp name)) s.sessions after)
    held x i l = go x i.0 i.1 i.3 i.4 (set-value (is_at (text_cmp name)) s.sessions after i.0 i.2) l

pub hold_all_valid : (s : Store) → Valid s → (name : List ℕ) (helds : List Held) → ((held : Held) → Member held helds → least_epoch s ≤ held.epoch + 1 → Reaches s.blocks (rests_on s held.epoch) held.address) → Valid (hold_all s name helds)
hold_all_valid s v name helds f = go (session_at s name) refl
  where
    new : (session : Session) (h : ℕ × Held) → Member h session.handles ⊎ Member h.1 helds → Member h session.handles ⊎ (least_epoch s ≤ h.1.epoch + 1 → Reaches s.blocks (rests_on s h.1.epoch) h.1.address)
    new session h (inl n) = inl n
    new session h (inr n) = inr (f h.1 n)

    go : (found : Option Session) → session_at s name ≡ found → Valid (put_session s name (option_map (holding_all helds) found))
    go None e = v
    go (Some session) e = put_valid s v name session (holding_all helds session) e (λ h n. new session h (holding_all-handles helds session h n))
