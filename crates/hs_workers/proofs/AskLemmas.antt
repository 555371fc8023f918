-- Operations asked one after another.
use Rattle.std.proofs.Common.{◌≡◌, ◌<◌, ℕ, ◌+◌, Bool, cond, true, arith, List, [], ◌∷◌, ◌++◌, Option, Some, None, Result, Ok, Err, refl, sym, ap, subst, append_assoc, ◌∙◌}
use Rattle.std.proofs.lemmas.List.{append-nil}
use Rattle.std.proofs.lemmas.List.Sums.{fold-append}
use Rattle.std.specs.Prelude.{fold, nat_lt, ⊤}
use Rattle.hs_limits.specs.declared.address.Held.{Held}
use Rattle.hs_model.specs.Deed.{deed_of}
use Rattle.hs_model.specs.Judge.{asked_of}
use Rattle.hs_model.specs.declared.op.Op.{Op}
use Rattle.hs_model.specs.declared.op.Op.TheVariants as op
use Rattle.hs_model.specs.declared.reply.Reply.{Reply}
use Rattle.hs_desk.specs.declared.token.Token.{Token}
use Rattle.hs_script.specs.Loads.{Stage, Writer, answers_after, asked_behind, asked, deletion_asked, deletion_behind, opening, stage_after, stage_behind}
use Rattle.hs_workers.specs.Asks.{IsAnswerOf, Asks, AsksAll, AsksSome, Follow, AsksOnce, HasEnded, HasFault, LeavesAnswers, KeptAnswer, held_behind, replies_of}
use Rattle.hs_workers.specs.declared.fault.WorkFault.{WorkFault}
use Rattle.hs_workers.specs.declared.fault.WorkFault.TheVariants as fault

-- ---- lists of answers

follow_on : (next : List Reply → Option Op) (replies : List Reply) (h k m : List Held) (xs ys : List KeptAnswer)
    → Follow next replies h xs k → Follow next (replies ++ replies_of xs) k ys m → Follow next replies h (xs ++ ys) m
follow_on next replies h k m [] ys one two = subst (λ (r : List Reply). Follow next r h ys m) (append-nil replies) (subst (λ (x : List Held). Follow next (replies ++ []) x ys m) one two)
follow_on next replies h k m (x ∷ xs) ys one two = (
  one.0,
  follow_on next (replies ++ x.2 ∷ []) (held_behind h (next replies) x.2) k m xs ys one.1
      (subst (λ (r : List Reply). Follow next r k ys m) (sym (append_assoc replies (x.2 ∷ []) (replies_of xs))) two),
)

pub asks_none : (next : List Reply → Option Op) (a : Token) → Asks next a a []
asks_none next a = record { answers = refl; kept = sym (append-nil a.kept); session = refl }

-- one answer more
pub asks_more : (next : List Reply → Option Op) (a b c : Token) (items : List KeptAnswer) (o : Op) (reply : Reply)
    → Asks next a b items → next (replies_of items) ≡ Some o → AsksOnce o b c (Ok reply)
    → (place : ℕ) × Asks next a c (items ++ (place, deed_of b.held (asked_of o) reply, reply) ∷ [])
asks_more next a b c items o reply one is did = (
  did.1,
  record {
    answers = follow_on next [] a.held b.held c.held items (item ∷ []) one.answers (answer, held);
    kept = ap (λ (t : Token). t.kept) did.2 ∙ (ap (λ (xs : List KeptAnswer). xs ++ item ∷ []) one.kept ∙ append_assoc a.kept items (item ∷ []));
    session = ap (λ (t : Token). t.session) did.2 ∙ one.session;
  },
)
  where
    item : KeptAnswer
    item = (did.1, deed_of b.held (asked_of o) reply, reply)

    answer : IsAnswerOf b.held (next (replies_of items)) item
    answer = subst (λ (x : Option Op). IsAnswerOf b.held x item) (sym is) refl

    held : c.held ≡ held_behind b.held (next (replies_of items)) reply
    held = ap (λ (t : Token). t.held) did.2 ∙ sym (ap (λ (x : Option Op). held_behind b.held x reply) is)

same_asks : (next : List Reply → Option Op) (a b c : Token) (items : List KeptAnswer) → Asks next a b items → c.held ≡ b.held → c.kept ≡ b.kept → c.session ≡ b.session → Asks next a c items
same_asks next a b c items one held kept session = record {
  answers = subst (λ (h : List Held). Follow next [] a.held items h) (sym held) one.answers;
  kept = kept ∙ one.kept;
  session = session ∙ one.session;
}

-- what was not answered leaves the answers
pub left_some : (next : List Reply → Option Op) (a b c : Token) (items : List KeptAnswer) (why : WorkFault) → Asks next a b items → LeavesAnswers b c why → AsksSome next a c × HasFault c why
left_some next a b c items (fault.Core f) one left =
    (record { items = items; asked = same_asks next a b c items one (ap (λ (t : Token). t.held) left) (ap (λ (t : Token). t.kept) left) (ap (λ (t : Token). t.session) left) }, ap (λ (t : Token). t.fault) left)
left_some next a b c items (fault.Torn place told kept) one left = absurd left
left_some next a b c items fault.NoMemory one left =
    (record { items = items; asked = same_asks next a b c items one (ap (λ (t : Token). t.held) left) (ap (λ (t : Token). t.kept) left) (ap (λ (t : Token). t.session) left) }, tt)

-- ---- on the way

-- what a writer keeps on its way, which stands at a stage
pub record Stands (w : Writer) (a b : Token) (stage : Stage) : Type 0 where
  pub items : List KeptAnswer
  pub asked : Asks (asked_behind w) a b items
  pub at : stage_behind w (replies_of items) ≡ stage
  pub rests : b.asked ≡ None
  pub calm : b.fault ≡ a.fault

pub stands_first : (w : Writer) (a : Token) → a.asked ≡ None → Stands w a a opening
stands_first w a rests = record { items = []; asked = asks_none (asked_behind w) a; at = refl; rests = rests; calm = refl }

replies_on : (xs ys : List KeptAnswer) → replies_of (xs ++ ys) ≡ replies_of xs ++ replies_of ys
replies_on [] ys = refl
replies_on (x ∷ xs) ys = ap (λ (rs : List Reply). x.2 ∷ rs) (replies_on xs ys)

pub stands_more : (w : Writer) (a b c : Token) (s : Stage) (o : Op) (asks : Result Reply WorkFault) (reply : Reply)
    → Stands w a b s → asked w s ≡ Some o → AsksOnce o b c asks → asks ≡ Ok reply → Stands w a c (stage_after w s reply)
stands_more w a b c s o asks reply one is had was =
    let did : AsksOnce o b c (Ok reply) = subst (λ (x : Result Reply WorkFault). AsksOnce o b c x) was had in
    let more = asks_more (asked_behind w) a b c one.items o reply one.asked (ap (λ (x : Stage). asked w x) one.at ∙ is) did in
    record {
      items = one.items ++ (more.0, deed_of b.held (asked_of o) reply, reply) ∷ [];
      asked = more.1;
      at = ap (λ (rs : List Reply). stage_behind w rs) (replies_on one.items ((more.0, deed_of b.held (asked_of o) reply, reply) ∷ []))
          ∙ (fold-append (λ stage answer. stage_after w stage answer) opening (replies_of one.items) (reply ∷ []) ∙ ap (λ (x : Stage). stage_after w x reply) one.at);
      rests = ap (λ (t : Token). t.asked) did.2;
      calm = ap (λ (t : Token). t.fault) did.2 ∙ one.calm;
    }

pub stands_stage : (w : Writer) (a b : Token) (s t : Stage) → t ≡ s → Stands w a b s → Stands w a b t
stands_stage w a b s t is one = subst (λ (x : Stage). Stands w a b x) (sym is) one

-- a want of memory ends a writer's work
pub stands_memory : {T : Type 0} (w : Writer) (a b : Token) (s : Stage) (result : Result T WorkFault) → Stands w a b s → result ≡ Err fault.NoMemory → HasEnded (asked_behind w) a b result
stands_memory {T} w a b s result one out = subst (λ (x : Result T WorkFault). HasEnded (asked_behind w) a b x) (sym out) (record { items = one.items; asked = one.asked }, tt)

-- so does what was not answered
pub stands_left : (w : Writer) (a b c : Token) (s : Stage) (o : Op) (asks : Result Reply WorkFault) (why : WorkFault)
    → (result : Result ⊤ WorkFault) → Stands w a b s → AsksOnce o b c asks → asks ≡ Err why → result ≡ Err why → HasEnded (asked_behind w) a c result
stands_left w a b c s o asks why result one had was out = subst (λ (x : Result ⊤ WorkFault). HasEnded (asked_behind w) a c x) (sym out) (left_some (asked_behind w) a b c one.items why one.asked (subst (λ (x : Result Reply WorkFault). AsksOnce o b c x) was had))

pub stands_some : (w : Writer) (a b : Token) (s : Stage) → Stands w a b s → AsksSome (asked_behind w) a b
stands_some w a b s one = record { items = one.items; asked = one.asked }

-- where nothing more is asked for, all was
pub stands_all : (w : Writer) (a b : Token) (s : Stage) → Stands w a b s → asked w s ≡ None → AsksAll (asked_behind w) a b
stands_all w a b s one none = record { items = one.items; asked = one.asked; rests = one.rests; calm = one.calm; none = ap (λ (x : Stage). asked w x) one.at ∙ none }

-- what the deleter keeps on its way, behind so many answers
pub record Deletes (a b : Token) (count : ℕ) : Type 0 where
  pub items : List KeptAnswer
  pub asked : Asks deletion_behind a b items
  pub at : fold answers_after 0 (replies_of items) ≡ count
  pub rests : b.asked ≡ None
  pub calm : b.fault ≡ a.fault

pub deletes_first : (a : Token) → a.asked ≡ None → Deletes a a 0
deletes_first a rests = record { items = []; asked = asks_none deletion_behind a; at = refl; rests = rests; calm = refl }

pub one_of_four : (count : ℕ) → count < 4 → deletion_asked count ≡ Some op.Delete
one_of_four count below =
    let is : nat_lt count 4 ≡ true = grind arith in
    ap (λ (b : Bool). cond b (Some op.Delete) None) is

pub deletes_more : (a b c : Token) (count : ℕ) (asks : Result Reply WorkFault) (reply : Reply)
    → Deletes a b count → deletion_asked count ≡ Some op.Delete → AsksOnce op.Delete b c asks → asks ≡ Ok reply → Deletes a c (count + 1)
deletes_more a b c count asks reply one is had was =
    let did : AsksOnce op.Delete b c (Ok reply) = subst (λ (x : Result Reply WorkFault). AsksOnce op.Delete b c x) was had in
    let more = asks_more deletion_behind a b c one.items op.Delete reply one.asked (ap (λ (n : ℕ). deletion_asked n) one.at ∙ is) did in
    record {
      items = one.items ++ (more.0, deed_of b.held (asked_of op.Delete) reply, reply) ∷ [];
      asked = more.1;
      at = ap (λ (rs : List Reply). fold answers_after 0 rs) (replies_on one.items ((more.0, deed_of b.held (asked_of op.Delete) reply, reply) ∷ []))
          ∙ (fold-append answers_after 0 (replies_of one.items) (reply ∷ []) ∙ ap (λ (n : ℕ). n + 1) one.at);
      rests = ap (λ (t : Token). t.asked) did.2;
      calm = ap (λ (t : Token). t.fault) did.2 ∙ one.calm;
    }

pub deletes_left : (a b c : Token) (count : ℕ) (asks : Result Reply WorkFault) (why : WorkFault)
    → (result : Result ⊤ WorkFault) → Deletes a b count → AsksOnce op.Delete b c asks → asks ≡ Err why → result ≡ Err why → HasEnded deletion_behind a c result
deletes_left a b c count asks why result one had was out = subst (λ (x : Result ⊤ WorkFault). HasEnded deletion_behind a c x) (sym out) (left_some deletion_behind a b c one.items why one.asked (subst (λ (x : Result Reply WorkFault). AsksOnce op.Delete b c x) was had))

pub deletes_all : (a b : Token) (count : ℕ) → Deletes a b count → count ≡ 4 → AsksAll deletion_behind a b
deletes_all a b count one four = record { items = one.items; asked = one.asked; rests = one.rests; calm = one.calm; none = ap (λ (n : ℕ). deletion_asked n) (one.at ∙ four) }
