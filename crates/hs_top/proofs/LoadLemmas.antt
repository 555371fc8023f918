-- The words ask for a load exactly where the first one is `load`.
use Rattle.std.proofs.Common.{◌≡◌, ◌∙◌, ap, sym, subst, refl, ℕ, Bool, true, false, ◌==◌, if◌then◌else◌, List, [], ◌∷◌, Option, Some, None, bytes_eq}
use Rattle.std.proofs.lemmas.Bool.{false≢true}
use Rattle.std.proofs.lemmas.Slice.Eq.{bytes_eq-Decides}
use Rattle.std.specs.Option.{option_and_then, option_map}
use Rattle.std.specs.Prelude.{codes, is_some, ⊤}
use Rattle.hs_limits.specs.declared.shape.Shape.{Shape}
use Rattle.hs_script.specs.CommandLine.{command_of, disks_of, folder_of, invocation_of, invocation_on, load_of, options_of, scrub_of, shape_word, task_of}
use Rattle.hs_script.specs.Parts.{key_of}
use Rattle.hs_script.specs.declared.invocation.CommandName.{CommandName}
use Rattle.hs_script.specs.declared.invocation.CommandName.TheVariants as command
use Rattle.hs_script.specs.declared.invocation.Invocation.{Invocation}
use Rattle.hs_script.specs.declared.invocation.Options.{Options}
use Rattle.hs_script.specs.declared.invocation.Task.{Task}
use Rattle.hs_script.specs.declared.invocation.Task.TheVariants as task
use Rattle.hs_top.specs.Words.{is_load, is_load_task}

abbrev is_load_command : CommandName → Bool
is_load_command command.Load = true
is_load_command other = false

-- ---- what comes out of an option

some_of : {A B : Type 0} (P : B → Type 0) (f : A → Option B) (o : Option A) (x : B) → ((a : A) → f a ≡ Some x → P x) → option_and_then f o ≡ Some x → P x
some_of {A} {B} P f None x h is = absurd (false≢true (ap (λ (o : Option B). is_some o) is))
some_of {A} {B} P f (Some a) x h is = h a is

mapped_of : {A B : Type 0} (P : B → Type 0) (f : A → B) (o : Option A) (x : B) → ((a : A) → P (f a)) → option_map f o ≡ Some x → P x
mapped_of {A} {B} P f None x h is = absurd (false≢true (ap (λ (o : Option B). is_some o) is))
mapped_of {A} {B} P f (Some a) x h is = subst (λ (o : Option B). Holds o) is (h a)
  where
    Holds : Option B → Type 0
    Holds None = ⊤
    Holds (Some b) = P b

-- ---- the task of a command

abbrev Is : Bool → Task → Type 0
Is b t = is_load_task t ≡ b

task_is : (which : CommandName) (shape : Shape) (words : List (List ℕ)) (t : Task) → task_of which shape words ≡ Some t → Is (is_load_command which) t
unfolding task_of
task_is command.Script shape words t is = mapped_of (Is false) (λ (o : Options). task.Script o.limits o.visits o.cache) _ t (λ o. refl) is
task_is command.Load shape words t is =
    some_of (Is true) load_of _ t (λ (o : Options). some_of (Is true) _ o.seed t (λ seed. mapped_of (Is true) (λ (writers : ℕ). task.Load seed writers o.files) o.writers t (λ writers. refl))) is
task_is command.Audit shape words t is = mapped_of (Is false) (λ (o : Options). task.Audit) _ t (λ o. refl) is
task_is command.Store shape [] t is = absurd (false≢true (ap (λ (o : Option Task). is_some o) is))
task_is command.Store shape (key ∷ words) t is = some_of (Is false) _ (key_of key) t (λ k. mapped_of (Is false) (λ (o : Options). task.Store k) (options_of command.Store words) t (λ o. refl)) is
task_is command.Fetch shape [] t is = absurd (false≢true (ap (λ (o : Option Task). is_some o) is))
task_is command.Fetch shape (key ∷ words) t is = some_of (Is false) _ (key_of key) t (λ k. mapped_of (Is false) (λ (o : Options). task.Fetch k) (options_of command.Fetch words) t (λ o. refl)) is
task_is command.Scrub shape words t is = some_of (Is false) (λ (o : Options). scrub_of shape o.from) _ t (λ o. scrubs o.from) is
  where
    scrubs : (from : Option ℕ) → scrub_of shape from ≡ Some t → Is false t
    scrubs None is = subst Holds is refl
      where
        Holds : Option Task → Type 0
        Holds None = ⊤
        Holds (Some t) = Is false t
    scrubs (Some peer) is = go _ is
      where
        go : (b : Bool) → (if b then Some (task.Scrub (Some peer)) else None) ≡ Some t → Is false t
        go true is = mapped_of (Is false) (λ (u : ⊤). task.Scrub (Some peer)) (Some tt) t (λ u. refl) is
        go false is = absurd (false≢true (ap (λ (o : Option Task). is_some o) is))
task_is command.Copy shape (key ∷ dir ∷ shards ∷ copies ∷ words) t is =
    some_of (Is false) _ (key_of key) t (λ k. some_of (Is false) _ (folder_of dir) t (λ d. some_of (Is false) _ (shape_word shards copies) t (λ s. mapped_of (Is false) (λ (o : Options). task.Copy k d s o.delete) (options_of command.Copy words) t (λ o. refl)))) is
task_is command.Copy shape [] t is = absurd (false≢true (ap (λ (o : Option Task). is_some o) is))
task_is command.Copy shape (a ∷ []) t is = absurd (false≢true (ap (λ (o : Option Task). is_some o) is))
task_is command.Copy shape (a ∷ b ∷ []) t is = absurd (false≢true (ap (λ (o : Option Task). is_some o) is))
task_is command.Copy shape (a ∷ b ∷ c ∷ []) t is = absurd (false≢true (ap (λ (o : Option Task). is_some o) is))

-- ---- the first word

-- a word names the command of a load exactly where it is `load`
command_is : (word : List ℕ) (c : CommandName) → command_of word ≡ Some c → bytes_eq word (codes "load") ≡ is_load_command c
command_is word c is = go (bytes_eq word (codes "script")) refl is
  where
    Names : CommandName → Type 0
    Names c = bytes_eq word (codes "load") ≡ is_load_command c

    other : (o : Option CommandName) → (o ≡ Some c → ⊥) → o ≡ Some c → Names c
    other o none is = absurd (none is)

    named : (d : CommandName) → Some d ≡ Some c → Names d → Names c
    named d is h = mapped_of Names (λ (u : ⊤). d) (Some tt) c (λ u. h) is

    behind : bytes_eq word (codes "load") ≡ false → (b2 b3 b4 b5 b6 : Bool) → (if b2 then Some command.Audit else if b3 then Some command.Store else if b4 then Some command.Fetch else if b5 then Some command.Scrub else if b6 then Some command.Copy else None) ≡ Some c → Names c
    behind not true b3 b4 b5 b6 is = named command.Audit is not
    behind not false true b4 b5 b6 is = named command.Store is not
    behind not false false true b5 b6 is = named command.Fetch is not
    behind not false false false true b6 is = named command.Scrub is not
    behind not false false false false true is = named command.Copy is not
    behind not false false false false false is = absurd (false≢true (ap (λ (o : Option CommandName). is_some o) is))

    second : (b : Bool) → bytes_eq word (codes "load") ≡ b → (if b then Some command.Load else if bytes_eq word (codes "audit") then Some command.Audit else if bytes_eq word (codes "store") then Some command.Store else if bytes_eq word (codes "fetch") then Some command.Fetch else if bytes_eq word (codes "scrub") then Some command.Scrub else if bytes_eq word (codes "copy") then Some command.Copy else None) ≡ Some c → Names c
    second true there is = named command.Load is there
    second false not is = behind not (bytes_eq word (codes "audit")) (bytes_eq word (codes "store")) (bytes_eq word (codes "fetch")) (bytes_eq word (codes "scrub")) (bytes_eq word (codes "copy")) is

    go : (b : Bool) → bytes_eq word (codes "script") ≡ b → (if b then Some command.Script else if bytes_eq word (codes "load") then Some command.Load else if bytes_eq word (codes "audit") then Some command.Audit else if bytes_eq word (codes "store") then Some command.Store else if bytes_eq word (codes "fetch") then Some command.Fetch else if bytes_eq word (codes "scrub") then Some command.Scrub else if bytes_eq word (codes "copy") then Some command.Copy else None) ≡ Some c → Names c
    go true there is = named command.Script is (ap (λ w. bytes_eq w (codes "load")) ((bytes_eq-Decides word (codes "script")).0 there))
    go false not is = second (bytes_eq word (codes "load")) refl is

-- the words ask for a load exactly where the first one is `load`
pub invocation_is : (words : List (List ℕ)) (asked : Invocation) → invocation_of words ≡ Some asked → is_load words ≡ is_load_task asked.task
unfolding invocation_of
invocation_is [] asked is = absurd (false≢true (ap (λ (o : Option Invocation). is_some o) is))
invocation_is (a ∷ []) asked is = absurd (false≢true (ap (λ (o : Option Invocation). is_some o) is))
invocation_is (a ∷ b ∷ []) asked is = absurd (false≢true (ap (λ (o : Option Invocation). is_some o) is))
invocation_is (a ∷ b ∷ c ∷ []) asked is = absurd (false≢true (ap (λ (o : Option Invocation). is_some o) is))
invocation_is (word ∷ dir ∷ shards ∷ copies ∷ words) asked is = by_command (command_of word) refl is
  where
    Is_load : Invocation → Type 0
    Is_load asked = bytes_eq word (codes "load") ≡ is_load_task asked.task

    by_task : (c : CommandName) → command_of word ≡ Some c → (d : List ℕ) (s : Shape) (o : Option Task) → task_of c s words ≡ o → option_map (λ t. record { dir = d; shape = s; task = t }) o ≡ Some asked → Is_load asked
    by_task c named d s None of is = absurd (false≢true (ap (λ (o : Option Invocation). is_some o) is))
    by_task c named d s (Some t) of is = mapped_of Is_load (λ (u : ⊤). record { dir = d; shape = s; task = t }) (Some tt) asked (λ u. command_is word c named ∙ sym (task_is c s words t of)) is

    by_command : (o : Option CommandName) → command_of word ≡ o → option_and_then (λ c. option_and_then (λ d. option_and_then (λ s. option_map (λ t. record { dir = d; shape = s; task = t }) (task_of c s words)) (shape_word shards copies)) (folder_of dir)) o ≡ Some asked → Is_load asked
    by_command None named is = absurd (false≢true (ap (λ (o : Option Invocation). is_some o) is))
    by_command (Some c) named is = some_of Is_load (λ (d : List ℕ). option_and_then (λ (s : Shape). option_map (λ (t : Task). record { dir = d; shape = s; task = t }) (task_of c s words)) (shape_word shards copies)) (folder_of dir) asked
        (λ d. some_of Is_load (λ (s : Shape). option_map (λ (t : Task). record { dir = d; shape = s; task = t }) (task_of c s words)) (shape_word shards copies) asked
        (λ s. by_task c named d s (task_of c s words) refl)) is

-- so it is on whatever number of disks
pub asked_is : (words : List (List ℕ)) (disks : ℕ) (asked : Invocation) → invocation_on words disks ≡ Some asked → is_load words ≡ is_load_task asked.task
asked_is words disks asked is = go (invocation_of words) refl is
  where
    Loads : Invocation → Type 0
    Loads a = is_load words ≡ is_load_task a.task

    counted : (a : Invocation) → invocation_of words ≡ Some a → (b : Bool) → (if b then Some a else None) ≡ Some asked → Loads asked
    counted a there true is = mapped_of Loads (λ (u : ⊤). a) (Some tt) asked (λ u. invocation_is words a there) is
    counted a there false is = absurd (false≢true (ap (λ (o : Option Invocation). is_some o) is))

    go : (o : Option Invocation) → invocation_of words ≡ o → option_and_then (λ (a : Invocation). if disks == disks_of a then Some a else None) o ≡ Some asked → Loads asked
    go None there is = absurd (false≢true (ap (λ (o : Option Invocation). is_some o) is))
    go (Some a) there is = counted a there (disks == disks_of a) is
