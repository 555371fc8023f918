-- Command lines, computed: the words of each command, and what makes them faulty.
use Rattle.std.proofs.Common.{◌≡◌, ℕ, List, [], ◌∷◌, Option, Some, None, true, false, refl}
use Rattle.std.specs.Prelude.{codes}
use Rattle.hs_limits.specs.Limits.{greatest_limits}
use Rattle.hs_script.specs.CommandLine.{Wanted, invocation_of, invocation_on, task_of, wanted, wanted_of}
use Rattle.hs_script.specs.Parts.{number_below}
use Rattle.hs_script.specs.declared.invocation.Invocation.{Invocation}
use Rattle.hs_script.specs.declared.invocation.Task.{Task}
use Rattle.hs_script.specs.declared.invocation.Task.TheVariants as task

-- what an example computes with
unfoldable computing : Unit {0}
unfolding invocation_of task_of wanted number_below
computing = tt

-- `d 2 3`, and what is behind a command there
abbrev on : Task → Option Invocation
on t = Some (record { dir = codes "d"; shape = record { shards = 2; copies = 3 }; task = t })

abbrev line : List ℕ → List (List ℕ) → List (List ℕ)
line command words = command ∷ codes "d" ∷ codes "2" ∷ codes "3" ∷ words

-- ---- script

abbrev script : List (List ℕ) → List (List ℕ)
script options = line (codes "script") options

a_script : invocation_of (script []) ≡ on (task.Script greatest_limits None None)
unfolding computing
a_script = refl

options_in_any_order : invocation_of (script (codes "--pool" ∷ codes "16" ∷ codes "--ops" ∷ codes "9" ∷ []))
    ≡ on (task.Script (record greatest_limits { pool = 16; ops = 9 }) None None)
unfolding computing
options_in_any_order = refl

visits_and_a_cache : invocation_of (script (codes "--visits" ∷ codes "yes" ∷ codes "--cache" ∷ codes "4096" ∷ []))
    ≡ on (task.Script greatest_limits (Some true) (Some 4096))
unfolding computing
visits_and_a_cache = refl

no_cache : invocation_of (script (codes "--cache" ∷ codes "0" ∷ codes "--visits" ∷ codes "no" ∷ []))
    ≡ on (task.Script greatest_limits (Some false) (Some 0))
unfolding computing
no_cache = refl

a_cache_too_great : invocation_of (script (codes "--cache" ∷ codes "4097" ∷ [])) ≡ None
unfolding computing
a_cache_too_great = refl

a_pool_too_small : invocation_of (script (codes "--pool" ∷ codes "15" ∷ [])) ≡ None
unfolding computing
a_pool_too_small = refl

twice : invocation_of (script (codes "--ops" ∷ codes "9" ∷ codes "--ops" ∷ codes "9" ∷ [])) ≡ None
unfolding computing
twice = refl

no_value : invocation_of (script (codes "--ops" ∷ [])) ≡ None
unfolding computing
no_value = refl

a_name_with_its_value : invocation_of (script (codes "--ops=9" ∷ [])) ≡ None
unfolding computing
a_name_with_its_value = refl

a_leading_zero : invocation_of (script (codes "--ops" ∷ codes "09" ∷ [])) ≡ None
unfolding computing
a_leading_zero = refl

a_sign : invocation_of (script (codes "--ops" ∷ codes "+9" ∷ [])) ≡ None
unfolding computing
a_sign = refl

an_option_of_another_command : invocation_of (script (codes "--seed" ∷ codes "9" ∷ [])) ≡ None
unfolding computing
an_option_of_another_command = refl

-- ---- load

abbrev load : List (List ℕ) → List (List ℕ)
load options = line (codes "load") options

a_load : invocation_of (load (codes "--seed" ∷ codes "0" ∷ codes "--writers" ∷ codes "8" ∷ [])) ≡ on (task.Load 0 8 20)
unfolding computing
a_load = refl

a_load_of_files : invocation_of (load (codes "--files" ∷ codes "100" ∷ codes "--writers" ∷ codes "1" ∷ codes "--seed" ∷ codes "18446744073709551615" ∷ []))
    ≡ on (task.Load 18446744073709551615 1 100)
unfolding computing
a_load_of_files = refl

no_seed : invocation_of (load (codes "--writers" ∷ codes "8" ∷ [])) ≡ None
unfolding computing
no_seed = refl

no_writers : invocation_of (load (codes "--seed" ∷ codes "8" ∷ [])) ≡ None
unfolding computing
no_writers = refl

nine_writers : invocation_of (load (codes "--seed" ∷ codes "0" ∷ codes "--writers" ∷ codes "9" ∷ [])) ≡ None
unfolding computing
nine_writers = refl

no_files : invocation_of (load (codes "--seed" ∷ codes "0" ∷ codes "--writers" ∷ codes "8" ∷ codes "--files" ∷ codes "0" ∷ [])) ≡ None
unfolding computing
no_files = refl

a_seed_too_great : invocation_of (load (codes "--seed" ∷ codes "18446744073709551616" ∷ codes "--writers" ∷ codes "8" ∷ [])) ≡ None
unfolding computing
a_seed_too_great = refl

-- ---- audit

an_audit : invocation_of (line (codes "audit") []) ≡ on task.Audit
unfolding computing
an_audit = refl

an_audit_has_no_options : invocation_of (line (codes "audit") (codes "--ops" ∷ codes "9" ∷ [])) ≡ None
unfolding computing
an_audit_has_no_options = refl

-- ---- store, fetch

a_store : invocation_of (line (codes "store") (codes "k.1" ∷ [])) ≡ on (task.Store (codes "k.1"))
unfolding computing
a_store = refl

a_fetch : invocation_of (line (codes "fetch") (codes "k" ∷ [])) ≡ on (task.Fetch (codes "k"))
unfolding computing
a_fetch = refl

no_key : invocation_of (line (codes "store") []) ≡ None
unfolding computing
no_key = refl

a_key_of_great_letters : invocation_of (line (codes "fetch") (codes "K" ∷ [])) ≡ None
unfolding computing
a_key_of_great_letters = refl

a_store_has_no_options : invocation_of (line (codes "store") (codes "k" ∷ codes "--ops" ∷ codes "9" ∷ [])) ≡ None
unfolding computing
a_store_has_no_options = refl

-- ---- scrub

a_scrub : invocation_of (line (codes "scrub") []) ≡ on (task.Scrub None)
unfolding computing
a_scrub = refl

a_scrub_from_the_last_peer : invocation_of (line (codes "scrub") (codes "--from" ∷ codes "5" ∷ [])) ≡ on (task.Scrub (Some 5))
unfolding computing
a_scrub_from_the_last_peer = refl

a_scrub_from_no_peer : invocation_of (line (codes "scrub") (codes "--from" ∷ codes "6" ∷ [])) ≡ None
unfolding computing
a_scrub_from_no_peer = refl

-- ---- copy

abbrev copy : List ℕ → List ℕ → List (List ℕ) → List (List ℕ)
copy shards copies options = line (codes "copy") (codes "k" ∷ codes "e" ∷ shards ∷ copies ∷ options)

a_copy : invocation_of (copy (codes "8") (codes "4") []) ≡ on (task.Copy (codes "k") (codes "e") (record { shards = 8; copies = 4 }) None)
unfolding computing
a_copy = refl

a_copy_that_deletes : invocation_of (copy (codes "1") (codes "1") (codes "--delete" ∷ codes "1000" ∷ []))
    ≡ on (task.Copy (codes "k") (codes "e") (record { shards = 1; copies = 1 }) (Some 1000))
unfolding computing
a_copy_that_deletes = refl

no_write_between_deletions : invocation_of (copy (codes "1") (codes "1") (codes "--delete" ∷ codes "0" ∷ [])) ≡ None
unfolding computing
no_write_between_deletions = refl

three_shards_of_the_second_store : invocation_of (copy (codes "3") (codes "1") []) ≡ None
unfolding computing
three_shards_of_the_second_store = refl

no_second_store : invocation_of (line (codes "copy") (codes "k" ∷ [])) ≡ None
unfolding computing
no_second_store = refl

-- ---- the words of all commands

three_shards : invocation_of (codes "audit" ∷ codes "d" ∷ codes "3" ∷ codes "1" ∷ []) ≡ None
unfolding computing
three_shards = refl

five_copies : invocation_of (codes "audit" ∷ codes "d" ∷ codes "1" ∷ codes "5" ∷ []) ≡ None
unfolding computing
five_copies = refl

no_folder : invocation_of (codes "audit" ∷ [] ∷ codes "1" ∷ codes "1" ∷ []) ≡ None
unfolding computing
no_folder = refl

no_copies : invocation_of (codes "audit" ∷ codes "d" ∷ codes "1" ∷ []) ≡ None
unfolding computing
no_copies = refl

no_command : invocation_of (codes "scrip" ∷ codes "d" ∷ codes "1" ∷ codes "1" ∷ []) ≡ None
unfolding computing
no_command = refl

-- ---- disks

a_disk_for_each_peer : invocation_on (line (codes "audit") []) 6 ≡ on task.Audit
unfolding computing
a_disk_for_each_peer = refl

a_disk_too_few : invocation_on (line (codes "audit") []) 5 ≡ None
unfolding computing
a_disk_too_few = refl

disks_of_both_stores : invocation_on (copy (codes "8") (codes "4") []) 38 ≡ on (task.Copy (codes "k") (codes "e") (record { shards = 8; copies = 4 }) None)
unfolding computing
disks_of_both_stores = refl

no_disks_of_the_second_store : invocation_on (copy (codes "8") (codes "4") []) 6 ≡ None
unfolding computing
no_disks_of_the_second_store = refl

-- ---- what is served of a script

abbrev whole : Wanted
whole = record { shape = record { shards = 2; copies = 3 }; limits = greatest_limits }

a_script_is_wanted : wanted_of (script []) 6 ≡ Some whole
unfolding computing
a_script_is_wanted = refl

lower_limits_are_wanted : wanted (script (codes "--pool" ∷ codes "16" ∷ codes "--ops" ∷ codes "9" ∷ []))
    ≡ Some (record whole { limits = record greatest_limits { pool = 16; ops = 9 } })
unfolding computing
lower_limits_are_wanted = refl

visits_are_not_served : wanted (script (codes "--visits" ∷ codes "no" ∷ [])) ≡ None
unfolding computing
visits_are_not_served = refl

a_cache_is_not_served : wanted (script (codes "--cache" ∷ codes "0" ∷ [])) ≡ None
unfolding computing
a_cache_is_not_served = refl

an_audit_is_no_script : wanted (line (codes "audit") []) ≡ None
unfolding computing
an_audit_is_no_script = refl
