-- One entry more keeps the order.
use Rattle.std.proofs.Common.{◌≡◌, ℕ, zero, suc, ◌+◌, ◌<◌, ◌≤◌, List, [], ◌∷◌, ◌++◌, length, Option, Some, None, IsSome, ◌⊎◌, inl, inr, refl, sym, ap, subst, ◌∙◌, arith}
use Rattle.std.proofs.lemmas.Bool.{cases_eq, cases_lt}
use Rattle.std.proofs.lemmas.Option.{slice_get_within}
use Rattle.std.specs.List.{slice_get}
use Rattle.hs_journal.specs.declared.entry.JournalEntry.{JournalEntry}
use Rattle.hs_journal.specs.declared.entry.Who.TheVariants as who
use Rattle.hs_journal.specs.Events.{client_op}
use Rattle.hs_journal.specs.Order.{IsAt, IsOfLine, IsOpen, IsOrdered, IsPrompt, IsWaiting, session_of}
use Rattle.hs_model.specs.declared.command.Command.{Command}
use Rattle.hs_model.specs.declared.op.Op.{Op}
use Rattle.hs_model.specs.declared.reply.Reply.TheVariants as reply
use Rattle.hs_told.specs.Turns.{IsFor, Turns}

-- ---- places in a list with one more element

at_more : {X : Type 0} (xs : List X) (y : X) (i : ℕ) (x : X) → slice_get (xs ++ y ∷ []) i ≡ Some x → (slice_get xs i ≡ Some x) ⊎ ((i ≡ length xs) × (x ≡ y))
at_more [] y zero x at = inr (refl, cc)
at_more [] y (suc i) x at = absurd cc
at_more (z ∷ zs) y zero x at = inl at
at_more (z ∷ zs) y (suc i) x at = elim (at_more zs y i x at) [ inl old ↦ inl old | inr new ↦ inr (ap suc new.0, new.1) ]

at_stays : {X : Type 0} (xs : List X) (y : X) (i : ℕ) (x : X) → slice_get xs i ≡ Some x → slice_get (xs ++ y ∷ []) i ≡ Some x
at_stays [] y i x at = absurd cc
at_stays (z ∷ zs) y zero x at = at
at_stays (z ∷ zs) y (suc i) x at = at_stays zs y i x at

at_end : {X : Type 0} (xs : List X) (y : X) → slice_get (xs ++ y ∷ []) (length xs) ≡ Some y
at_end [] y = refl
at_end (z ∷ zs) y = at_end zs y

line_one : {m n : ℕ} → who.Line m ≡ who.Line n → m ≡ n
line_one e = cc e

module _ (entries : List JournalEntry) (e : JournalEntry) where
  abbrev more : List JournalEntry
  more = entries ++ e ∷ []

  of_more : (i n : ℕ) → IsOfLine more i n → IsOfLine entries i n ⊎ ((i ≡ length entries) × (e.who ≡ who.Line n))
  of_more i n o = elim (at_more entries e i o.entry o.at) [ inl h ↦ inl (record { entry = o.entry; at = h; line = o.line }) | inr h ↦ inr (h.0, ap (λ (x : JournalEntry). x.who) (sym h.1) ∙ o.line) ]

  of_stays : (i n : ℕ) → IsOfLine entries i n → IsOfLine more i n
  of_stays i n o = record { entry = o.entry; at = at_stays entries e i o.entry o.at; line = o.line }

  within : (i n : ℕ) → IsOfLine entries i n → i < length entries
  within i n o = slice_get_within entries i o.entry o.at

  waits_back : (commands : ℕ → Option Command) (i k l : ℕ) → IsWaiting commands more i k l → IsWaiting commands entries i k l
  waits_back commands i k l w = record { earlier = w.earlier; same_session = w.same_session; unanswered = λ j lt o. w.unanswered j lt (of_stays j l o) }

  waits_stays : (commands : ℕ → Option Command) (i k l : ℕ) → i ≤ length entries → IsWaiting commands entries i k l → IsWaiting commands more i k l
  waits_stays commands i k l h w = record { earlier = w.earlier; same_session = w.same_session; unanswered = λ j lt o. elim (of_more j l o) [ inl x ↦ w.unanswered j lt x | inr x ↦ let f : j ≡ length entries = x.0 in absurd (omega (arith, f, lt, h)) ] }

-- an entry of line n may come next
pub record MayCome (commands : ℕ → Option Command) (entries : List JournalEntry) (n : ℕ) (e : JournalEntry) : Type 0 where
  pub line : e.who ≡ who.Line n
  pub named : IsSome (commands n)
  pub fresh : (i : ℕ) → IsOfLine entries i n → ⊥
  pub alone : (session : List ℕ) → session_of (client_op (commands n)) ≡ Some session → (IsOpen (client_op (commands n)) → ⊥) → (l m : ℕ) → IsWaiting commands entries (length entries) n l → IsWaiting commands entries (length entries) n m → l ≡ m
  pub busy : (session : List ℕ) → session_of (client_op (commands n)) ≡ Some session → (IsOpen (client_op (commands n)) → ⊥) → (l : ℕ) → IsWaiting commands entries (length entries) n l → e.reply ≡ reply.Busy l
  pub only_busy : (l : ℕ) → e.reply ≡ reply.Busy l → (session : List ℕ) × (session_of (client_op (commands n)) ≡ Some session) × (IsOpen (client_op (commands n)) → ⊥) × IsWaiting commands entries (length entries) n l
  pub prompt : IsPrompt (client_op (commands n)) → (j k : ℕ) → IsOfLine entries j k → k < n
  pub prompt_busy : (l : ℕ) → e.reply ≡ reply.Busy l → (j k : ℕ) → IsOfLine entries j k → k < n
  pub later : (i : ℕ) (f : JournalEntry) → IsAt entries i f → f.moment ≤ e.moment

module _ (commands : ℕ → Option Command) (entries : List JournalEntry) (n : ℕ) (e : JournalEntry) (o : IsOrdered commands entries) (c : MayCome commands entries n e) where
  same_line : (k : ℕ) → e.who ≡ who.Line k → n ≡ k
  same_line k h = line_one (sym c.line ∙ h)

  pub ordered_more : IsOrdered commands (entries ++ e ∷ [])
  ordered_more = record {
    named = λ i k x. elim (of_more entries e i k x) [ inl h ↦ o.named i k h | inr h ↦ subst (λ m. IsSome (commands m)) (same_line k h.1) c.named ];
    once = λ i j k x y. elim (of_more entries e i k x) [
      | inl g ↦ elim (of_more entries e j k y) [
        | inl h ↦ o.once i j k g h
        | inr h ↦ absurd (c.fresh i (subst (IsOfLine entries i) (sym (same_line k h.1)) g))
      ]
      | inr g ↦ elim (of_more entries e j k y) [
        | inl h ↦ absurd (c.fresh j (subst (IsOfLine entries j) (sym (same_line k g.1)) h))
        | inr h ↦ g.0 ∙ sym h.0
      ]
    ];
    alone = λ i k session x s d l m v w. elim (of_more entries e i k x) [
      | inl g ↦ o.alone i k session g s d l m (waits_back entries e commands i k l v) (waits_back entries e commands i k m w)
      | inr g ↦
          let at_n = same_line k g.1 in
          let back : (l : ℕ) → IsWaiting commands (entries ++ e ∷ []) i k l → IsWaiting commands entries (length entries) n l = λ l v. subst (λ j. IsWaiting commands entries j n l) g.0 (subst (λ j. IsWaiting commands entries i j l) (sym at_n) (waits_back entries e commands i k l v)) in
          c.alone session (ap (λ j. session_of (client_op (commands j))) at_n ∙ s) (λ y. d (subst (λ j. IsOpen (client_op (commands j))) at_n y)) l m (back l v) (back m w)
    ];
    busy = λ i k session f a h s d l v. elim (at_more entries e i f a) [
      | inl g ↦ o.busy i k session f g h s d l (waits_back entries e commands i k l v)
      | inr g ↦
          let at_n = same_line k (ap (λ (x : JournalEntry). x.who) (sym g.1) ∙ h) in
          let back : IsWaiting commands entries (length entries) n l = subst (λ j. IsWaiting commands entries j n l) g.0 (subst (λ j. IsWaiting commands entries i j l) (sym at_n) (waits_back entries e commands i k l v)) in
          ap (λ (x : JournalEntry). x.reply) g.1 ∙ c.busy session (ap (λ j. session_of (client_op (commands j))) at_n ∙ s) (λ y. d (subst (λ j. IsOpen (client_op (commands j))) at_n y)) l back
    ];
    only_busy = λ i k l f a h b. elim (at_more entries e i f a) [
      | inl g ↦ let r = o.only_busy i k l f g h b in (r.0, r.1, r.2, waits_stays entries e commands i k l (below i f g) r.3)
      | inr g ↦
          let at_n = same_line k (ap (λ (x : JournalEntry). x.who) (sym g.1) ∙ h) in
          let r = c.only_busy l (ap (λ (x : JournalEntry). x.reply) (sym g.1) ∙ b) in (
            r.0,
            ap (λ j. session_of (client_op (commands j))) (sym at_n) ∙ r.1,
            λ y. r.2 (subst (λ j. IsOpen (client_op (commands j))) (sym at_n) y),
            subst (λ j. IsWaiting commands (entries ++ e ∷ []) i j l) at_n (subst (λ j. IsWaiting commands (entries ++ e ∷ []) j n l) (sym g.0) (waits_stays entries e commands (length entries) n l (omega arith) r.3)),
          )
    ];
    prompt = λ i j k m x p y lt. elim (of_more entries e i k x) [
      | inl g ↦ elim (of_more entries e j m y) [
        | inl h ↦ o.prompt i j k m g p h lt
        | inr h ↦ let a : i < length entries = within entries e i k g in let b : j ≡ length entries = h.0 in omega (arith, a, b)
      ]
      | inr g ↦
          let at_n : n ≡ k = same_line k g.1 in
          elim (of_more entries e j m y) [
            | inl h ↦ let a : m < n = c.prompt (subst (λ z. IsPrompt (client_op (commands z))) (sym at_n) p) j m h in absurd (omega (arith, a, at_n, lt))
            | inr h ↦ let a : n ≡ m = same_line m h.1 in absurd (omega (arith, a, at_n, lt))
          ]
    ];
    prompt_busy = λ i j k m l f a h b y lt. elim (at_more entries e i f a) [
      | inl g ↦ elim (of_more entries e j m y) [
        | inl q ↦ o.prompt_busy i j k m l f g h b q lt
        | inr q ↦ let u : i < length entries = slice_get_within entries i f g in let v : j ≡ length entries = q.0 in omega (arith, u, v)
      ]
      | inr g ↦
          let at_n : n ≡ k = same_line k (ap (λ (x : JournalEntry). x.who) (sym g.1) ∙ h) in
          elim (of_more entries e j m y) [
            | inl q ↦ let u : m < n = c.prompt_busy l (ap (λ (x : JournalEntry). x.reply) (sym g.1) ∙ b) j m q in absurd (omega (arith, u, at_n, lt))
            | inr q ↦ let u : n ≡ m = same_line m q.1 in absurd (omega (arith, u, at_n, lt))
          ]
    ];
    moments = λ i j f g a b le. elim (at_more entries e i f a) [
      | inl x ↦ elim (at_more entries e j g b) [
        | inl y ↦ o.moments i j f g x y le
        | inr y ↦ subst (λ (z : JournalEntry). f.moment ≤ z.moment) (sym y.1) (c.later i f x)
      ]
      | inr x ↦ elim (at_more entries e j g b) [
        | inl y ↦ let u : j < length entries = slice_get_within entries j g y in let v : i ≡ length entries = x.0 in absurd (omega (arith, u, v, le))
        | inr y ↦ subst (λ (z : JournalEntry). f.moment ≤ z.moment) (sym y.1) (subst (λ (z : JournalEntry). z.moment ≤ e.moment) (sym x.1) (omega arith))
      ]
    ];
  }
    where
      below : (i : ℕ) (f : JournalEntry) → IsAt entries i f → i ≤ length entries
      below i f g = let u : i < length entries = slice_get_within entries i f g in omega (arith, u)

-- ---- an entry of no line

module _ (entries : List JournalEntry) (e : JournalEntry) (nobody : (n : ℕ) → e.who ≡ who.Line n → ⊥) where
  only_old : (i n : ℕ) → IsOfLine (entries ++ e ∷ []) i n → IsOfLine entries i n
  only_old i n x = elim (of_more entries e i n x) [ inl h ↦ h | inr h ↦ absurd (nobody n h.1) ]

  old_at : (i n : ℕ) (f : JournalEntry) → IsAt (entries ++ e ∷ []) i f → f.who ≡ who.Line n → IsAt entries i f
  old_at i n f a h = elim (at_more entries e i f a) [ inl x ↦ x | inr x ↦ absurd (nobody n (ap (λ (z : JournalEntry). z.who) (sym x.1) ∙ h)) ]

ordered_noted : (commands : ℕ → Option Command) (entries : List JournalEntry) (e : JournalEntry) → IsOrdered commands entries → ((n : ℕ) → e.who ≡ who.Line n → ⊥)
    → ((i : ℕ) (f : JournalEntry) → IsAt entries i f → f.moment ≤ e.moment) → IsOrdered commands (entries ++ e ∷ [])
ordered_noted commands entries e o nobody later = record {
  named = λ i n x. o.named i n (old i n x);
  once = λ i j n x y. o.once i j n (old i n x) (old j n y);
  alone = λ i k session x s d l m v w. o.alone i k session (old i k x) s d l m (waits_back entries e commands i k l v) (waits_back entries e commands i k m w);
  busy = λ i k session f a h s d l v. o.busy i k session f (old_at entries e nobody i k f a h) h s d l (waits_back entries e commands i k l v);
  only_busy = λ i k l f a h b. let r = o.only_busy i k l f (old_at entries e nobody i k f a h) h b in (r.0, r.1, r.2, waits_stays entries e commands i k l (below i f (old_at entries e nobody i k f a h)) r.3);
  prompt = λ i j k m x p y lt. o.prompt i j k m (old i k x) p (old j m y) lt;
  prompt_busy = λ i j k m l f a h b y lt. o.prompt_busy i j k m l f (old_at entries e nobody i k f a h) h b (old j m y) lt;
  moments = λ i j f g a b le. elim (at_more entries e i f a) [
    | inl x ↦ elim (at_more entries e j g b) [
      | inl y ↦ o.moments i j f g x y le
      | inr y ↦ subst (λ (z : JournalEntry). f.moment ≤ z.moment) (sym y.1) (later i f x)
    ]
    | inr x ↦ elim (at_more entries e j g b) [
      | inl y ↦ let u : j < length entries = slice_get_within entries j g y in let v : i ≡ length entries = x.0 in absurd (omega (arith, u, v, le))
      | inr y ↦ subst (λ (z : JournalEntry). f.moment ≤ z.moment) (sym y.1) (subst (λ (z : JournalEntry). z.moment ≤ e.moment) (sym x.1) (omega arith))
    ]
  ];
}
  where
    old : (i n : ℕ) → IsOfLine (entries ++ e ∷ []) i n → IsOfLine entries i n
    old = only_old entries e nobody

    below : (i : ℕ) (f : JournalEntry) → IsAt entries i f → i ≤ length entries
    below i f g = let u : i < length entries = slice_get_within entries i f g in omega (arith, u)

-- ---- answers

module _ (commands : ℕ → Option Command) (bound moment : ℕ) (entries : List JournalEntry) (waits : ℕ → Option Op) (t : Turns commands bound moment entries waits) where
  -- a line of a session without an entry waits
  waiting_of : (k : ℕ) (session : List ℕ) (l : ℕ) → k ≤ bound → session_of (client_op (commands k)) ≡ Some session → IsWaiting commands entries (length entries) k l → (o : Op) × (waits l ≡ Some o) × (session_of (Some o) ≡ Some session)
  waiting_of k session l le of w = go (client_op (commands l)) refl
    where
      go : (x : Option Op) → client_op (commands l) ≡ x → (o : Op) × (waits l ≡ Some o) × (session_of (Some o) ≡ Some session)
      go None e = let s = w.same_session ∙ of in let n : session_of (client_op (commands l)) ≡ None = ap session_of e in absurd (cc (s, n))
      go (Some o) e = elim (t.each l o (let lt : l < k = w.earlier in omega (arith, lt, le)) e) [
        | inl h ↦ absurd (w.unanswered h.0 (slice_get_within entries h.0 h.1.entry h.1.at) h.1)
        | inr h ↦ (h.0, h.1, sym (t.asked l h.0 h.1).same ∙ w.same_session ∙ of)
      ]

  -- an operation that waited is answered
  pub turns_answered : (n : ℕ) (o : Op) (e : JournalEntry) (after : ℕ → Option Op) → waits n ≡ Some o → after n ≡ None → ((m : ℕ) → (m ≡ n → ⊥) → after m ≡ waits m)
      → e.who ≡ who.Line n → e.moment ≡ moment → ((l : ℕ) → e.reply ≡ reply.Busy l → ⊥) → Turns commands bound moment (entries ++ e ∷ []) after
  turns_answered n o e after here gone others line now not_busy = record {
    ordered = ordered_more commands entries n e t.ordered (record {
      line = line;
      named = (t.asked n o here).named;
      fresh = t.unanswered n o here;
      alone = λ session s d l m v w. absurd (none session s l v);
      busy = λ session s d l v. absurd (none session s l v);
      only_busy = λ l b. absurd (not_busy l b);
      prompt = λ q. absurd ((t.asked n o here).slow q);
      prompt_busy = λ l b. absurd (not_busy l b);
      later = λ i f a. subst (λ m. f.moment ≤ m) (sym now) (t.until i f a);
    });
    begun = λ i k x. elim (of_more entries e i k x) [ inl h ↦ t.begun i k h | inr h ↦ subst (λ m. m < bound) (line_one (sym line ∙ h.1)) (t.below n o here) ];
    until = λ i f a. elim (at_more entries e i f a) [ inl h ↦ t.until i f h | inr h ↦ subst (λ (z : JournalEntry). z.moment ≤ moment) (sym h.1) (subst (λ m. m ≤ moment) (sym now) (omega arith)) ];
    below = λ m q h. t.below m q (back m q h).1;
    unanswered = λ m q h i x. let k = back m q h in elim (of_more entries e i m x) [ inl y ↦ t.unanswered m q k.1 i y | inr y ↦ k.0 (sym (line_one (sym line ∙ y.1))) ];
    each = λ k q lt c. elim (cases_eq k n) [
      | inl eq ↦ inl (length entries, record { entry = e; at = at_end entries e; line = line ∙ ap (λ m. who.Line m) (sym eq) })
      | inr d ↦ elim (t.each k q lt c) [ inl h ↦ inl (h.0, of_stays entries e h.0 k h.1) | inr h ↦ inr (h.0, others k d ∙ h.1) ]
    ];
    asked = λ m q h. t.asked m q (back m q h).1;
    alone = λ l m q r name h i. t.alone l m q r name (back l q h).1 (back m r i).1;
  }
    where
      back : (m : ℕ) (q : Op) → after m ≡ Some q → (m ≡ n → ⊥) × (waits m ≡ Some q)
      back m q h = elim (cases_eq m n) [
        | inl eq ↦ let f : after m ≡ None = ap after eq ∙ gone in absurd (cc (f, h))
        | inr d ↦ (d, sym (others m d) ∙ h)
      ]

      none : (session : List ℕ) → session_of (client_op (commands n)) ≡ Some session → (l : ℕ) → IsWaiting commands entries (length entries) n l → ⊥
      none session s l v =
          let lt : n < bound = t.below n o here in
          let q = waiting_of n session l (omega (arith, lt)) s v in
          let same : l ≡ n = t.alone l n q.0 o session q.1 here q.2 (sym (t.asked n o here).same ∙ s) in
          let before : l < n = v.earlier in
          omega (arith, same, before)

  -- a new line is told of at once
  pub turns_now : (e : JournalEntry) → e.who ≡ who.Line bound → moment ≤ e.moment → IsSome (commands bound)
      → ((session : List ℕ) → session_of (client_op (commands bound)) ≡ Some session → (IsOpen (client_op (commands bound)) → ⊥) → (l : ℕ) (o : Op) → waits l ≡ Some o → session_of (Some o) ≡ Some session → e.reply ≡ reply.Busy l)
      → ((l : ℕ) → e.reply ≡ reply.Busy l → (session : List ℕ) × (o : Op) × (session_of (client_op (commands bound)) ≡ Some session) × (IsOpen (client_op (commands bound)) → ⊥) × (waits l ≡ Some o) × (session_of (Some o) ≡ Some session))
      → Turns commands (bound + 1) e.moment (entries ++ e ∷ []) waits
  turns_now e line le named busy only = record {
    ordered = ordered_more commands entries bound e t.ordered (record {
      line = line;
      named = named;
      fresh = λ i x. let lt : bound < bound = t.begun i bound x in omega (arith, lt);
      alone = λ session s d l m v w. let p = waiting_of bound session l (omega arith) s v in let q = waiting_of bound session m (omega arith) s w in t.alone l m p.0 q.0 session p.1 q.1 p.2 q.2;
      busy = λ session s d l v. let p = waiting_of bound session l (omega arith) s v in busy session s d l p.0 p.1 p.2;
      only_busy = λ l b. let r = only l b in (
        r.0,
        r.2,
        r.3,
        record {
          earlier = t.below l r.1 r.4;
          same_session = (t.asked l r.1 r.4).same ∙ r.5 ∙ sym r.2;
          unanswered = λ j lt x. t.unanswered l r.1 r.4 j x;
        },
      );
      prompt = λ q j k x. t.begun j k x;
      prompt_busy = λ l b j k x. t.begun j k x;
      later = λ i f a. let u : f.moment ≤ moment = t.until i f a in omega (arith, u, le);
    });
    begun = λ i k x. elim (of_more entries e i k x) [ inl h ↦ let u : k < bound = t.begun i k h in omega (arith, u) | inr h ↦ let u : bound ≡ k = line_one (sym line ∙ h.1) in omega (arith, u) ];
    until = λ i f a. elim (at_more entries e i f a) [ inl h ↦ let u : f.moment ≤ moment = t.until i f h in omega (arith, u, le) | inr h ↦ subst (λ (z : JournalEntry). z.moment ≤ e.moment) (sym h.1) (omega arith) ];
    below = λ m q h. let u : m < bound = t.below m q h in omega (arith, u);
    unanswered = λ m q h i x. elim (of_more entries e i m x) [ inl y ↦ t.unanswered m q h i y | inr y ↦ let u : m < bound = t.below m q h in let v : bound ≡ m = line_one (sym line ∙ y.1) in omega (arith, u, v) ];
    each = λ k o lt c. elim (cases_eq k bound) [
      | inl eq ↦ inl (length entries, record { entry = e; at = at_end entries e; line = line ∙ ap (λ m. who.Line m) (sym eq) })
      | inr d ↦ elim (t.each k o (omega (arith, lt, d)) c) [ inl h ↦ inl (h.0, of_stays entries e h.0 k h.1) | inr h ↦ inr h ]
    ];
    asked = t.asked;
    alone = t.alone;
  }

  -- a new line waits
  pub turns_begins : (o : Op) (after : ℕ → Option Op) → after bound ≡ Some o → ((m : ℕ) → (m ≡ bound → ⊥) → after m ≡ waits m) → IsFor (commands bound) o
      → ((l : ℕ) (q : Op) (name : List ℕ) → waits l ≡ Some q → session_of (Some q) ≡ Some name → session_of (Some o) ≡ Some name → ⊥)
      → Turns commands (bound + 1) moment entries after
  turns_begins o after here others asks only = record {
    ordered = t.ordered;
    begun = λ i k x. let u : k < bound = t.begun i k x in omega (arith, u);
    until = t.until;
    below = λ m q h. elim (slot m q h) [ inl x ↦ let u : m ≡ bound = x.0 in omega (arith, u) | inr x ↦ let u : m < bound = t.below m q x.1 in omega (arith, u) ];
    unanswered = λ m q h i x. elim (slot m q h) [ inl y ↦ let u : m < bound = t.begun i m x in let v : m ≡ bound = y.0 in omega (arith, u, v) | inr y ↦ t.unanswered m q y.1 i x ];
    each = λ k q lt c. elim (cases_eq k bound) [
      | inl eq ↦ inr (o, ap after eq ∙ here)
      | inr d ↦ elim (t.each k q (omega (arith, lt, d)) c) [ inl h ↦ inl h | inr h ↦ inr (h.0, others k d ∙ h.1) ]
    ];
    asked = λ m q h. elim (slot m q h) [ inl x ↦ subst (λ j. IsFor (commands j) q) (sym x.0) (subst (λ z. IsFor (commands bound) z) (sym x.1) asks) | inr x ↦ t.asked m q x.1 ];
    alone = λ l m q r name h i f g. elim (slot l q h) [
      | inl x ↦ elim (slot m r i) [ inl y ↦ x.0 ∙ sym y.0 | inr y ↦ absurd (only m r name y.1 g (ap (λ (z : Op). session_of (Some z)) (sym x.1) ∙ f)) ]
      | inr x ↦ elim (slot m r i) [ inl y ↦ absurd (only l q name x.1 f (ap (λ (z : Op). session_of (Some z)) (sym y.1) ∙ g)) | inr y ↦ t.alone l m q r name x.1 y.1 f g ]
    ];
  }
    where
      some_is : {x y : Op} → Some x ≡ Some y → x ≡ y
      some_is z = cc z

      slot : (m : ℕ) (q : Op) → after m ≡ Some q → ((m ≡ bound) × (q ≡ o)) ⊎ ((m ≡ bound → ⊥) × (waits m ≡ Some q))
      slot m q h = elim (cases_eq m bound) [ inl e ↦ inl (e, some_is (sym h ∙ ap after e ∙ here)) | inr d ↦ inr (d, sym (others m d) ∙ h) ]

  -- what is told of no line
  pub turns_noted : (e : JournalEntry) → ((n : ℕ) → e.who ≡ who.Line n → ⊥) → e.moment ≡ moment → Turns commands bound moment (entries ++ e ∷ []) waits
  turns_noted e nobody now = record {
    ordered = ordered_noted commands entries e t.ordered nobody (λ i f a. subst (λ m. f.moment ≤ m) (sym now) (t.until i f a));
    begun = λ i k x. t.begun i k (only_old entries e nobody i k x);
    until = λ i f a. elim (at_more entries e i f a) [ inl h ↦ t.until i f h | inr h ↦ subst (λ (z : JournalEntry). z.moment ≤ moment) (sym h.1) (subst (λ m. m ≤ moment) (sym now) (omega arith)) ];
    below = t.below;
    unanswered = λ m q h i x. t.unanswered m q h i (only_old entries e nobody i m x);
    each = λ k o lt c. elim (t.each k o lt c) [ inl h ↦ inl (h.0, of_stays entries e h.0 k h.1) | inr h ↦ inr h ];
    asked = t.asked;
    alone = t.alone;
  }

  -- a later moment, and lines that no client has
  pub turns_later : (later : ℕ) → moment ≤ later → Turns commands bound later entries waits
  turns_later later le = record {
    ordered = t.ordered;
    begun = t.begun;
    until = λ i f a. let u : f.moment ≤ moment = t.until i f a in omega (arith, u, le);
    below = t.below;
    unanswered = t.unanswered;
    each = t.each;
    asked = t.asked;
    alone = t.alone;
  }

  pub turns_raised : (above : ℕ) → bound ≤ above → ((k : ℕ) → bound ≤ k → k < above → client_op (commands k) ≡ None) → Turns commands above moment entries waits
  turns_raised above le nobody = record {
    ordered = t.ordered;
    begun = λ i n x. let u : n < bound = t.begun i n x in omega (arith, u, le);
    until = t.until;
    below = λ n o h. let u : n < bound = t.below n o h in omega (arith, u, le);
    unanswered = t.unanswered;
    each = λ k o lt c. elim (cases_lt k bound) [
      | inl low ↦ t.each k o low c
      | inr high ↦ let f : client_op (commands k) ≡ None = nobody k high lt in absurd (cc (f, c))
    ];
    asked = t.asked;
    alone = t.alone;
  }

  -- the same operations wait
  pub turns_same : (after : ℕ → Option Op) → ((n : ℕ) → after n ≡ waits n) → Turns commands bound moment entries after
  turns_same after same = record {
    ordered = t.ordered;
    begun = t.begun;
    until = t.until;
    below = λ n o h. t.below n o (sym (same n) ∙ h);
    unanswered = λ n o h. t.unanswered n o (sym (same n) ∙ h);
    each = λ k o lt c. elim (t.each k o lt c) [ inl h ↦ inl h | inr h ↦ inr (h.0, same k ∙ h.1) ];
    asked = λ n o h. t.asked n o (sym (same n) ∙ h);
    alone = λ m n o p name h i. t.alone m n o p name (sym (same m) ∙ h) (sym (same n) ∙ i);
  }
