-- A write that nothing refuses by what it sees stands free in the plain store too, but for a collision and for room.
use Rattle.std.proofs.Common.{◌≡◌, ◌∙◌, sym, ap, ℕ, List, [], ◌∷◌, true, Option, Some, None, is_none, is_some, length}
use Rattle.std.specs.Prelude.{slice_index}
use Rattle.hs_answered.proofs.AnswerLemmas.{session_is}
use Rattle.hs_deeds.proofs.HollowLemmas.{is_there_hollow}
use Rattle.hs_laws.proofs.JudgeKeeps.{all_none}
use Rattle.hs_limits.specs.declared.address.Address.{Address}
use Rattle.hs_limits.specs.declared.limits.Limits.{Limits}
use Rattle.hs_model.specs.declared.op.Asked.TheVariants as asked
use Rattle.hs_model.specs.declared.op.Op.TheVariants as op
use Rattle.hs_model.specs.declared.reply.Reply.TheVariants as reply
use Rattle.hs_model.specs.Deeds.{IsRefused, refusals_told}
use Rattle.hs_model.specs.Hollow.{hollow}
use Rattle.hs_model.specs.Refusals.{first, handles_full, handles_full_in, no_handle, no_handle_in, no_session, refused_when, shard_full, stale, stale_in, too_long, too_many}
use Rattle.hs_model.specs.Store.{Session, Store, block_at, epoch_at, session_at}
use Rattle.hs_ops.specs.Refusals.{refusal_of, refusals_of}
use Rattle.hs_ops.specs.Views.{OpView, now_in, open_in}
use Rattle.hs_shown.specs.Showing.{Shows}

pub record StandsFree (limits : Limits) (s : Store) (name payload handles : List ℕ) (a : Address) : Type 0 where
  pub session : no_session s name ≡ None
  pub long : too_long payload ≡ None
  pub many : too_many handles ≡ None
  pub held : no_handle s name handles ≡ None
  pub full : handles_full limits s name 1 ≡ None
  pub fresh : stale s name (epoch_at s a) handles ≡ None

pub free_at : (limits : Limits) (s : Store) (v : OpView) (name payload handles : List ℕ) (a : Address) → Shows limits s (op.Write name payload handles (Some a)) v → refusal_of v (op.Write name payload handles (Some a)) ≡ None
    → StandsFree limits s name payload handles a
unfolding refusals_of
free_at limits s v name payload handles a shows free =
    let n = all_none (refusals_of v (op.Write name payload handles (Some a))) free in
    let opened : session_at s name ≡ open_in v name = session_is s v.seats shows.sessions name in
    let now : epoch_at s a ≡ now_in v = sym (ap (λ (es : List ℕ). slice_index es v.shard) shows.epochs ∙ ap (λ (k : ℕ). slice_index s.epochs k) shows.judging) in
    record {
      session = ap (λ (o : Option Session). refused_when (is_none o) (reply.NoSession name)) opened ∙ n.0;
      long = n.1.1.0;
      many = n.1.1.1.0;
      held = ap (λ (o : Option Session). no_handle_in o handles) opened ∙ n.1.1.1.1.0;
      full = ap (λ (l : Limits). handles_full_in l (session_at s name) 1) (sym shows.limited) ∙ ap (λ (o : Option Session). handles_full_in v.limits o 1) opened ∙ n.1.1.1.1.1.0;
      fresh = ap (λ (e : ℕ). stale_in (session_at s name) e handles) now ∙ ap (λ (o : Option Session). stale_in o (now_in v) handles) opened ∙ n.1.1.1.1.1.1.0;
    }

-- so where a block is there, a collision is the first refusal that may be told
pub collides_so : (limits : Limits) (s : Store) (name payload handles : List ℕ) (a : Address) → StandsFree limits s name payload handles a → is_some (block_at s a) ≡ true
    → IsRefused limits (hollow s) (asked.Write name (length payload) handles (Some a)) reply.Collision
unfolding refusals_told
collides_so limits s name payload handles a f there = record {
  collides = true;
  there = λ h. is_there_hollow s a ∙ there;
  first_of = λ i. first (f.session i ∷ f.long i ∷ f.many i ∷ f.held i ∷ f.full i ∷ f.fresh i ∷ Some reply.Collision ∷ shard_full limits (hollow s) a ∷ []);
}
