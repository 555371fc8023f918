-- While an event is done, each single change leaves what the entries stand for.
use Rattle.std.proofs.Common.{◌≡◌, ◌∙◌, sym, subst, ◌⊎◌, inl, inr, ℕ, ◌*◌, ◌<◌, ◌≤◌, List, [], ◌∷◌, ◌++◌, length, map, Option, Some, None, IsSome, refl, arith}
use Rattle.std.specs.BTreeMap.{insert_entry, is_at}
use Rattle.std.specs.List.{AllByRecursion}
use Rattle.std.specs.Map.{lookup, remove_entry, set_value}
use Rattle.std.specs.Option.{option_map}
use Rattle.std.specs.Ordering.{nat_cmp}
use Rattle.hs_awaiting.specs.declared.waiting.Waiting.{Waiting}
use Rattle.hs_awaiting.specs.Views.{restarted}
use Rattle.hs_core_words.specs.Changing.{add_operation, note, put_operation}
use Rattle.hs_core_words.specs.Looking.{operation_of, shape_of}
use Rattle.hs_core_words.specs.Operating.{answer}
use Rattle.hs_core_words.specs.State.{Core}
use Rattle.hs_core_words.specs.Views.{restart_at}
use Rattle.hs_effects.proofs.LookLemmas.{found_map, insert_other, number_exact, one_or_other, remove_other, set_other}
use Rattle.hs_journal.specs.declared.entry.JournalEntry.{JournalEntry}
use Rattle.hs_journal.specs.declared.entry.Who.{Who}
use Rattle.hs_journal.specs.declared.entry.Who.TheVariants as who
use Rattle.hs_journal.specs.Events.{client_op}
use Rattle.hs_journal.specs.Telling.{IsOfStore, MayTell}
use Rattle.hs_journal.specs.Telling.IsOfStore.{Done, Down}
use Rattle.hs_limits.specs.declared.limits.Limits.{Limits}
use Rattle.hs_limits.specs.declared.shape.Shape.{Shape}
use Rattle.hs_model.specs.declared.command.Command.{Command}
use Rattle.hs_model.specs.declared.deed.Deed.TheVariants as deed
use Rattle.hs_model.specs.declared.reply.Reply.{Reply}
use Rattle.hs_model.specs.declared.reply.Reply.TheVariants as reply
use Rattle.hs_settled.proofs.AsideLemmas.{Aside}
use Rattle.hs_settled.proofs.NotedWalkLemmas.{Tells}
use Rattle.hs_settled.specs.Noted.{StandsFor}
use Rattle.hs_ops.specs.Answers.{deed_of}

-- ---- lists

pub all_append : {X : Type 0} (P : X → Type 0) (xs ys : List X) → AllByRecursion P xs → AllByRecursion P ys → AllByRecursion P (xs ++ ys)
all_append P [] ys h k = k
all_append P (x ∷ xs) ys h k = (h.0, all_append P xs ys h.1 k)

pub all_weaker : {X : Type 0} (P Q : X → Type 0) → ((x : X) → P x → Q x) → (xs : List X) → AllByRecursion P xs → AllByRecursion Q xs
all_weaker P Q f [] h = tt
all_weaker P Q f (x ∷ xs) h = (f x h.0, all_weaker P Q f xs h.1)

-- ---- the lines of operations

-- what is so of each line that has an operation
abbrev pub OfEach : (ℕ → Type 0) → List (ℕ × Waiting) → Type 0
OfEach P operations = (n : ℕ) (w : Waiting) → lookup (is_at (nat_cmp n)) operations ≡ Some w → P n

module _ (P : ℕ → Type 0) (operations : List (ℕ × Waiting)) (its : OfEach P operations) where
  pub lines_set : (line : ℕ) (w was : Waiting) → lookup (is_at (nat_cmp line)) operations ≡ Some was → OfEach P (set_value (is_at (nat_cmp line)) operations w)
  lines_set line w was at n u e = go (one_or_other n line)
    where
      go : (n ≡ line) ⊎ (n ≡ line → ⊥) → P n
      go (inl is) = subst P (sym is) (its line was at)
      go (inr d) = its n u (sym (set_other nat_cmp number_exact operations line n w d) ∙ e)

  pub lines_remove : (line : ℕ) (was : Waiting) → lookup (is_at (nat_cmp line)) operations ≡ Some was → OfEach P (remove_entry (is_at (nat_cmp line)) operations)
  lines_remove line was at n u e = go (one_or_other n line)
    where
      go : (n ≡ line) ⊎ (n ≡ line → ⊥) → P n
      go (inl is) = subst P (sym is) (its line was at)
      go (inr d) = its n u (sym (remove_other nat_cmp number_exact operations line n d) ∙ e)

  pub lines_insert : (line : ℕ) (w : Waiting) → P line → OfEach P (insert_entry nat_cmp operations line w)
  lines_insert line w new n u e = go (one_or_other n line)
    where
      go : (n ≡ line) ⊎ (n ≡ line → ⊥) → P n
      go (inl is) = subst P (sym is) new
      go (inr d) = its n u (sym (insert_other nat_cmp number_exact operations line n w d) ∙ e)

  pub lines_map : (f : Waiting → Waiting) → OfEach P (map (λ (e : ℕ × Waiting). (e.0, f e.1)) operations)
  lines_map f n u e = go (lookup (is_at (nat_cmp n)) operations) refl (sym (found_map f (is_at (nat_cmp n)) operations) ∙ e)
    where
      go : (o : Option Waiting) → lookup (is_at (nat_cmp n)) operations ≡ o → option_map f o ≡ Some u → P n
      go None at g = absurd (cc g)
      go (Some w) at g = its n w at

-- ---- while an event of a line is done

module _ (commands : ℕ → Option Command) (shape : Shape) (limits : Limits) (last : ℕ) where
  abbrev pub Stands : JournalEntry → Type 0
  Stands entry = StandsFor commands shape limits last entry

  -- a line's operation is a client's
  abbrev pub IsClients : ℕ → Type 0
  IsClients n = (n ≤ last) × IsSome (client_op (commands n))

pub record During (commands : ℕ → Option Command) (shape : Shape) (limits : Limits) (last : ℕ) (c : Core) : Type 0 where
  pub shaped : shape_of c ≡ shape
  pub limited : c.limits ≡ limits
  pub groups : length c.groups ≡ shape.shards
  pub peers : length c.members.statuses ≡ shape.shards * shape.copies
  pub pool : c.pool.limit ≡ limits.pool
  pub line : c.progress.event_line ≡ last
  pub asking : OfEach (IsClients commands shape limits last) c.operations
  pub journal : AllByRecursion (Stands commands shape limits last) c.journal
  pub refused : c.refused ≡ []
  pub entries : AllByRecursion (Stands commands shape limits last) c.entries

module _ (commands : ℕ → Option Command) (shape : Shape) (limits : Limits) (last : ℕ) where
  abbrev pub D : Core → Type 0
  D c = During commands shape limits last c

  pub on_aside : (c d : Core) → Aside c d → D c → D d
  on_aside c d s p = record {
    shaped = s.shape ∙ p.shaped;
    limited = s.limits ∙ p.limited;
    groups = s.groups ∙ p.groups;
    peers = s.peers ∙ p.peers;
    pool = s.pool ∙ p.pool;
    line = s.line ∙ p.line;
    asking = subst (λ (es : List (ℕ × Waiting)). OfEach (IsClients commands shape limits last) es) (sym s.operations) p.asking;
    journal = subst (λ (es : List JournalEntry). AllByRecursion (Stands commands shape limits last) es) (sym s.journal) p.journal;
    refused = s.refused ∙ p.refused;
    entries = subst (λ (es : List JournalEntry). AllByRecursion (Stands commands shape limits last) es) (sym s.entries) p.entries;
  }

  -- other operations wait
  with_operations : (c : Core) (operations : List (ℕ × Waiting)) → OfEach (IsClients commands shape limits last) operations → D c → D (record c { operations = operations })
  with_operations c operations each p = record {
    shaped = p.shaped;
    limited = p.limited;
    groups = p.groups;
    peers = p.peers;
    pool = p.pool;
    line = p.line;
    asking = each;
    journal = p.journal;
    refused = p.refused;
    entries = p.entries;
  }

  pub on_wait : (line : ℕ) (w was : Waiting) (c : Core) → operation_of line c ≡ Some was → D c → D (put_operation line w c)
  on_wait line w was c at p =
      with_operations c (set_value (is_at (nat_cmp line)) c.operations w) (lines_set (IsClients commands shape limits last) c.operations p.asking line w was at) p

  pub on_restart : (shard number : ℕ) (c : Core) → D c → D (restart_at shard number c)
  on_restart shard number c p =
      with_operations c (map (λ (e : ℕ × Waiting). (e.0, restarted shard number e.1)) c.operations) (lines_map (IsClients commands shape limits last) c.operations p.asking (restarted shard number)) p

  pub on_begin : (line : ℕ) (w : Waiting) (c : Core) → IsClients commands shape limits last line → D c → D (add_operation line w c)
  on_begin line w c client p = with_operations c (insert_entry nat_cmp c.operations line w) (lines_insert (IsClients commands shape limits last) c.operations p.asking line w client) p

  -- an entry more
  pub on_note : (entry : JournalEntry) (c : Core) → Stands commands shape limits last entry → D c → D (record c { entries = c.entries ++ entry ∷ [] })
  on_note entry c stands p = record {
    shaped = p.shaped;
    limited = p.limited;
    groups = p.groups;
    peers = p.peers;
    pool = p.pool;
    line = p.line;
    asking = p.asking;
    journal = p.journal;
    refused = p.refused;
    entries = all_append (Stands commands shape limits last) c.entries (entry ∷ []) p.entries (stands, tt);
  }

  -- an answer is of its client's line
  of_client : (line : ℕ) (entry : JournalEntry) → IsClients commands shape limits last line → (line ≤ last) × MayTell shape limits (commands line) entry
  of_client line entry client = (client.0, go (commands line) client.1)
    where
      go : (o : Option Command) → IsSome (client_op o) → MayTell shape limits o entry
      go None s = cc s
      go (Some c) s = inl s

  pub on_answer : (line : ℕ) (w was : Waiting) (told : Reply) (c : Core) → operation_of line c ≡ Some was → D c → D (answer line w told c)
  on_answer line w was told c at p = record {
    shaped = p.shaped;
    limited = p.limited;
    groups = p.groups;
    peers = p.peers;
    pool = p.pool;
    line = p.line;
    asking = lines_remove (IsClients commands shape limits last) c.operations p.asking line was at;
    journal = p.journal;
    refused = p.refused;
    entries = all_append (Stands commands shape limits last) c.entries (entry ∷ []) p.entries (of_client line entry (p.asking line was at), tt);
  }
    where
      entry : JournalEntry
      entry = record { who = who.Line line; moment = c.moment; deed = deed_of c.sessions w.operation.op told; reply = told }

  -- what a shard does by itself, and what is told of the store
  pub on_sweep : (shard : ℕ) (told : Reply) (c : Core) → shard < shape.shards → D c → D (note (who.Shard shard) (deed.Swept shard) told c)
  on_sweep shard told c low p = on_note (record { who = who.Shard shard; moment = c.moment; deed = deed.Swept shard; reply = told }) c (low, inr refl) p

  pub on_enter : (shard : ℕ) (told : Reply) (c : Core) → shard < shape.shards → D c → D (note (who.Shard shard) (deed.Entered shard) told c)
  on_enter shard told c low p = on_note (record { who = who.Shard shard; moment = c.moment; deed = deed.Entered shard; reply = told }) c (low, inl refl) p

  pub on_done : (epoch : ℕ) (c : Core) → D c → D (note who.Store deed.Nothing (reply.Done epoch) c)
  on_done epoch c p = on_note (record { who = who.Store; moment = c.moment; deed = deed.Nothing; reply = reply.Done epoch }) c (refl, Done epoch refl) p

  pub on_down : (peer line : ℕ) (c : Core) → peer < shape.shards * shape.copies → line ≤ last → D c → D (note who.Store deed.Nothing (reply.Down peer line) c)
  on_down peer line c low upto p = on_note (record { who = who.Store; moment = c.moment; deed = deed.Nothing; reply = reply.Down peer line }) c (refl, Down peer line refl low upto) p

  -- so each change of which events are made, but for the note of a peer that is down
  pub during_tells : Tells shape (λ (c : Core). During commands shape limits last c)
  during_tells = record {
    beside = on_aside;
    groups = λ c p. p.groups;
    waits = on_wait;
    answers = λ line w was told c at calm p. on_answer line w was told c at p;
    restarts = on_restart;
    sweeps = λ shard epoch removed c low p. on_sweep shard (reply.Sweep epoch removed) c low p;
    enters = λ shard epoch c low p. on_enter shard (reply.Enter epoch) c low p;
    dones = on_done;
  }

-- ---- a later line

stands_later : (commands : ℕ → Option Command) (shape : Shape) (limits : Limits) (a b : ℕ) → a ≤ b → (entry : JournalEntry) → StandsFor commands shape limits a entry → StandsFor commands shape limits b entry
stands_later commands shape limits a b le entry s = go entry.who s
  where
    up : (n : ℕ) → n ≤ a → n ≤ b
    up n h = omega (arith, h, le)

    of_store : (told : Reply) → IsOfStore shape a told → IsOfStore shape b told
    of_store told (Done epoch e) = Done epoch e
    of_store told (Down peer line e low upto) = Down peer line e low (up line upto)

    go : (w : Who) → StandsFor commands shape limits a (record entry { who = w }) → StandsFor commands shape limits b (record entry { who = w })
    go (who.Line n) h = (up n h.0, h.1)
    go (who.Shard g) h = h
    go who.Store h = (h.0, of_store entry.reply h.1)

pub all_later : (commands : ℕ → Option Command) (shape : Shape) (limits : Limits) (a b : ℕ) → a ≤ b → (entries : List JournalEntry)
    → AllByRecursion (StandsFor commands shape limits a) entries → AllByRecursion (StandsFor commands shape limits b) entries
all_later commands shape limits a b le entries h = all_weaker (StandsFor commands shape limits a) (StandsFor commands shape limits b) (stands_later commands shape limits a b le) entries h
