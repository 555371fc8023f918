-- What a nudge or a message that changes nothing leaves, and what is left new to others.
use Rattle.std.proofs.Common.{◌≡◌, ◌≢◌, ◌∙◌, ◌⊎◌, inl, inr, sym, ap, subst, ℕ, ◌<◌, ◌≤◌, true, false, List, Some, refl, arith, slice_get}
use Rattle.hs_core_words.specs.Delivering.{is_new_round}
use Rattle.hs_core_words.specs.Entering.{is_enter_due}
use Rattle.hs_core_words.specs.Looking.{catalogue_of, first_job, group_of, home, known_of, lead_of, sealed_of, shape_of, status_of}
use Rattle.hs_core_words.specs.State.{Core}
use Rattle.hs_desk.specs.declared.job.Job.{Job}
use Rattle.hs_entry.specs.declared.entry.Entry.{Entry}
use Rattle.hs_limits.specs.declared.delta.Delta.{Delta}
use Rattle.hs_limits.specs.declared.limits.PeerStatus.TheVariants.{Good}
use Rattle.hs_members.specs.Members.{Members}
use Rattle.hs_post.specs.declared.message.Message.{Message}
use Rattle.hs_post.specs.declared.message.Message.TheVariants as message
use Rattle.hs_replica.specs.Group.{last_number, takes}
use Rattle.hs_rounds.specs.declared.sending.SentRound.{SentRound}

-- ---- what is there

-- a message is under way
pub record UnderWay (c : Core) (m : Message) : Type 0 where
  pub place : ℕ
  pub number : ℕ
  pub at : slice_get c.pool.messages place ≡ Some (number, m)

-- some peer has a job
pub record Busy (c : Core) : Type 0 where
  pub peer : ℕ
  pub job : Job
  pub is : first_job peer c ≡ Some job

-- a Round of a sender to a shard is under way; a Have of what a peer has sealed, in the view; a Copy that its receiver will take
pub record RoundComes (c : Core) (from to epoch round : ℕ) : Type 0 where
  pub total : ℕ
  pub deltas : List Delta
  pub under : UnderWay c (message.Round from to epoch round total deltas)

pub record HaveComes (c : Core) (p : ℕ) : Type 0 where
  pub to : ℕ
  pub under : UnderWay c (message.Have (home p c) p to (group_of (home p c) c).view (sealed_of p c))

pub record CopyComes (c : Core) (g : ℕ) : Type 0 where
  pub to : ℕ
  pub view : ℕ
  pub number : ℕ
  pub entry : Entry
  pub under : UnderWay c (message.Copy g to view number entry)
  pub fits : takes to view number (group_of g c) ≡ true

-- a good peer of a shard has sealed more than it is known to have
pub record Behind (c : Core) (g : ℕ) : Type 0 where
  pub peer : ℕ
  pub own : home peer c ≡ g
  pub good : status_of peer c ≡ Good
  pub less : known_of peer c < sealed_of peer c

-- what a lead that was nudged has left for the others of its shard: all is known of each, or one has a Have to send, or a Copy to take
abbrev pub IsLevel : Core → ℕ → ℕ → Type 0
IsLevel c g lead = (q : ℕ) → home q c ≡ g → status_of q c ≡ Good → q ≢ lead → last_number (group_of g c) ≤ known_of q c

-- of the first so many peers no Enter is due where they lead, and their last rounds are new to nobody, or under way; and what they have sealed is known, or will come
pub record QuietTo (k : ℕ) (c : Core) : Type 0 where
  pub due : (p : ℕ) → p < k → lead_of (home p c) c ≡ Some p → is_enter_due (home p c) c ≡ false
  pub came : (p place to : ℕ) (kept : SentRound) → p < k → lead_of (home p c) c ≡ Some p → to < (shape_of c).shards → place < 2
      → slice_get (catalogue_of (home p c) c).run.sent place ≡ Some kept → (is_new_round to (home p c) kept.epoch kept.round c ≡ false) ⊎ RoundComes c (home p c) to kept.epoch kept.round
  pub told : (p : ℕ) → p < k → status_of p c ≡ Good → (lead_of (home p c) c ≡ Some p → ⊥) → (known_of p c ≡ sealed_of p c) ⊎ HaveComes c p
  pub sent : (p : ℕ) → p < k → lead_of (home p c) c ≡ Some p → IsLevel c (home p c) p ⊎ Behind c (home p c) ⊎ CopyComes c (home p c)

pub quiet_none : (c : Core) → QuietTo 0 c
quiet_none c = record {
  due = λ p less led. absurd (omega (arith, less));
  came = λ p place to kept less led low two at. absurd (omega (arith, less));
  told = λ p less good no. absurd (omega (arith, less));
  sent = λ p less led. absurd (omega (arith, less));
}

-- ---- nothing changes but messages

pub record IsStill (a b : Core) : Type 0 where
  pub members : b.members ≡ a.members
  pub groups : b.groups ≡ a.groups
  pub tasks : b.tasks ≡ a.tasks
  pub rejoins : b.progress.rejoins ≡ a.progress.rejoins
  pub catalogues : b.catalogues ≡ a.catalogues

pub still_same : (c : Core) → IsStill c c
still_same c = record { members = refl; groups = refl; tasks = refl; rejoins = refl; catalogues = refl }

pub still_both : (a b c : Core) → IsStill a b → IsStill b c → IsStill a c
still_both a b c x y = record {
  members = y.members ∙ x.members;
  groups = y.groups ∙ x.groups;
  tasks = y.tasks ∙ x.tasks;
  rejoins = y.rejoins ∙ x.rejoins;
  catalogues = y.catalogues ∙ x.catalogues;
}

-- what is told of the parts that stay
module _ (a b : Core) (x : IsStill a b) where
  -- with the parts of another core a core says the same
  abbrev again : Core
  again = record b { members = a.members; groups = a.groups; tasks = a.tasks; catalogues = a.catalogues; progress = record b.progress { rejoins = a.progress.rejoins } }

  as_again : b ≡ again
  as_again = λ i. record b { members = x.members i; groups = x.groups i; tasks = x.tasks i; catalogues = x.catalogues i; progress = record b.progress { rejoins = x.rejoins i } }

  pub same : {X : Type 0} (f : Core → X) → f again ≡ f a → f b ≡ f a
  same f e = ap f as_again ∙ e

  pub busy_still : Busy a → Busy b
  busy_still busy = record { peer = busy.peer; job = busy.job; is = same (first_job busy.peer) refl ∙ busy.is }

-- a message that is no more under way has nothing new: its round was had, its Have was known, its Copy is not taken
abbrev pub IsSpent : Core → Message → Type 0
IsSpent c (message.Copy g to view number entry) = takes to view number (group_of g c) ≡ false
IsSpent c (message.Have g from to view sealed) = home from c ≡ g → status_of from c ≡ Good → view ≡ (group_of g c).view → sealed ≡ sealed_of from c → known_of from c ≡ sealed_of from c
IsSpent c (message.Round from to epoch round total deltas) = is_new_round to from epoch round c ≡ false

module _ (k : ℕ) (a b : Core) (x : IsStill a b) (way : (m : Message) → UnderWay a m → IsSpent b m ⊎ UnderWay b m) (quiet : QuietTo k a) where
  home_is : (p : ℕ) → home p b ≡ home p a
  home_is p = same a b x (home p) refl

  lead_is : (p : ℕ) → lead_of (home p b) b ≡ lead_of (home p a) a
  lead_is p = same a b x (λ (c : Core). lead_of (home p c) c) refl

  round_on : (from to epoch round : ℕ) → RoundComes a from to epoch round → (is_new_round to from epoch round b ≡ false) ⊎ RoundComes b from to epoch round
  round_on from to epoch round r = elim (way (message.Round from to epoch round r.total r.deltas) r.under) [
    | inl old ↦ inl old
    | inr on ↦ inr (record { total = r.total; deltas = r.deltas; under = on })
  ]

  pub quiet_still : QuietTo k b
  quiet_still = record {
    due = λ p less led. same a b x (λ (c : Core). is_enter_due (home p c) c) refl ∙ quiet.due p less (sym (lead_is p) ∙ led);
    came = λ p place to kept less led low two at. elim (quiet.came p place to kept less (sym (lead_is p) ∙ led) (subst (λ (m : Members). to < m.shape.shards) x.members low) two
        (sym (same a b x (λ (c : Core). slice_get (catalogue_of (home p c) c).run.sent place) refl) ∙ at)) [
          | inl old ↦ inl (same a b x (λ (c : Core). is_new_round to (home p c) kept.epoch kept.round c) refl ∙ old)
          | inr r ↦ elim (round_on (home p a) to kept.epoch kept.round r) [
            | inl old ↦ inl (ap (λ g. is_new_round to g kept.epoch kept.round b) (home_is p) ∙ old)
            | inr on ↦ inr (subst (λ g. RoundComes b g to kept.epoch kept.round) (sym (home_is p)) on)
          ]
        ];
    told = λ p less good no. elim (quiet.told p less (sym (same a b x (status_of p) refl) ∙ good) (λ led. no (lead_is p ∙ led))) [
      | inl known ↦ inl (same a b x (known_of p) refl ∙ known ∙ sym (same a b x (sealed_of p) refl))
      | inr h ↦ elim (way (message.Have (home p a) p h.to (group_of (home p a) a).view (sealed_of p a)) h.under) [
        | inl spent ↦ inl (spent (home_is p) good (sym (same a b x (λ (c : Core). (group_of (home p a) c).view) refl)) (sym (same a b x (sealed_of p) refl)))
        | inr on ↦ inr (record {
          to = h.to;
          under = subst (λ (m : Message). UnderWay b m) (λ i. message.Have (sym (home_is p) i) p h.to (sym (same a b x (λ (c : Core). (group_of (home p c) c).view) refl) i) (sym (same a b x (sealed_of p) refl) i)) on;
        })
      ]
    ];
    sent = λ p less led. elim (quiet.sent p less (sym (lead_is p) ∙ led)) [
      | inl level ↦ inl (λ q own good other.
          let was = level q (sym (home_is q) ∙ own ∙ home_is p) (sym (same a b x (status_of q) refl) ∙ good) other in
          let n = same a b x (λ (c : Core). last_number (group_of (home p c) c)) refl in
          let m = same a b x (known_of q) refl in
          omega (arith, was, n, m))
      | inr (inl h) ↦ inr (inl (record {
        peer = h.peer;
        own = home_is h.peer ∙ h.own ∙ sym (home_is p);
        good = same a b x (status_of h.peer) refl ∙ h.good;
        less = (let n = same a b x (known_of h.peer) refl in let m = same a b x (sealed_of h.peer) refl in omega (arith, h.less, n, m));
      }))
      | inr (inr h) ↦ elim (way (message.Copy (home p a) h.to h.view h.number h.entry) h.under) [
        | inl spent ↦
            let wrong : false ≡ true = sym spent ∙ same a b x (λ (c : Core). takes h.to h.view h.number (group_of (home p a) c)) refl ∙ h.fits in
            absurd (cc wrong)
        | inr on ↦ inr (inr (record {
          to = h.to;
          view = h.view;
          number = h.number;
          entry = h.entry;
          under = subst (λ g. UnderWay b (message.Copy g h.to h.view h.number h.entry)) (sym (home_is p)) on;
          fits = same a b x (λ (c : Core). takes h.to h.view h.number (group_of (home p c) c)) refl ∙ h.fits;
        }))
      ]
    ];
  }
