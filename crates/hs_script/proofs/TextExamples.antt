-- Entries of a journal, computed as they are printed: each reply once.
use Rattle.std.proofs.Common.{◌≡◌, [], ◌∷◌, refl}
use Rattle.std.specs.Prelude.{codes, replicate}
use Rattle.std.specs.Fmt.{digits}
use Rattle.hex.proofs.OnLiterals.{hex_on_literals}
use Rattle.hs_model.specs.declared.deed.Deed.TheVariants as deed
use Rattle.hs_model.specs.declared.reply.Reply.{Reply}
use Rattle.hs_model.specs.declared.reply.Reply.TheVariants as reply
use Rattle.hs_journal.specs.declared.entry.JournalEntry.{JournalEntry}
use Rattle.hs_journal.specs.declared.entry.Who.{Who}
use Rattle.hs_journal.specs.declared.entry.Who.TheVariants as who
use Rattle.hs_script.specs.Text.{entry_text, text}

-- an entry of whom, with this reply
abbrev entry_of : Who → Reply → JournalEntry
entry_of w r = record { who = w; moment = 0; deed = deed.Nothing; reply = r }

-- what an example computes with
unfoldable computing : Unit {0}
unfolding entry_text digits hex_on_literals
computing = tt

-- ---- answers

an_answer : entry_text (entry_of (who.Line 1) (reply.Ok)) ≡ codes "1 ok\n"
unfolding computing
an_answer = refl

a_new_block : entry_text (entry_of (who.Line 4) (reply.New 0 1)) ≡ codes "4 new h0 e1\n"
unfolding computing
a_new_block = refl

a_known_block : entry_text (entry_of (who.Line 5) (reply.Dup 3 12)) ≡ codes "5 dup h3 e12\n"
unfolding computing
a_known_block = refl

a_read_of_a_byte : entry_text (entry_of (who.Line 6) (reply.Bytes (98 ∷ []) (2 ∷ []))) ≡ codes "6 bytes 62 h2\n"
unfolding computing
a_read_of_a_byte = refl

a_read_of_nothing : entry_text (entry_of (who.Line 13) (reply.Bytes [] [])) ≡ codes "13 bytes -\n"
unfolding computing
a_read_of_nothing = refl

a_read_with_handles : entry_text (entry_of (who.Line 7) (reply.Bytes (10 ∷ 255 ∷ []) (0 ∷ 4294967295 ∷ []))) ≡ codes "7 bytes 0aff h0 h4294967295\n"
unfolding computing
a_read_with_handles = refl

a_held_root : entry_text (entry_of (who.Line 8) (reply.Held 1 281474976710655)) ≡ codes "8 held h1 e281474976710655\n"
unfolding computing
a_held_root = refl

counts : entry_text (entry_of (who.Line 2) (reply.Stat 1 0 1 (1 ∷ 2 ∷ []) (1 ∷ 1 ∷ []))) ≡ codes "2 stat blocks 1 roots 0 sessions 1 epochs 1,2 swept 1,1\n"
unfolding computing
counts = refl

a_run : entry_text (entry_of (who.Line 11) (reply.Run 2)) ≡ codes "11 run e2\n"
unfolding computing
a_run = refl

-- ---- entries of no line

an_enter : entry_text (entry_of (who.Shard 1) (reply.Enter 2)) ≡ codes "- enter 1 e2\n"
unfolding computing
an_enter = refl

a_sweep : entry_text (entry_of (who.Shard 0) (reply.Sweep 3 1)) ≡ codes "- sweep 0 e3 1\n"
unfolding computing
a_sweep = refl

an_end_of_a_run : entry_text (entry_of (who.Store) (reply.Done 2)) ≡ codes "- done e2\n"
unfolding computing
an_end_of_a_run = refl

a_lost_peer : entry_text (entry_of (who.Store) (reply.Down 3 12)) ≡ codes "- down 3\n"
unfolding computing
a_lost_peer = refl

visits : entry_text (entry_of (who.Store) (reply.Visits 2 7)) ≡ codes "- visits e2 7\n"
unfolding computing
visits = refl

-- ---- refusals

no_session : entry_text (entry_of (who.Line 7) (reply.NoSession (codes "a"))) ≡ codes "7 no session a\n"
unfolding computing
no_session = refl

a_taken_session : entry_text (entry_of (who.Line 3) (reply.SessionTaken (codes "a"))) ≡ codes "3 no taken a\n"
unfolding computing
a_taken_session = refl

full_sessions : entry_text (entry_of (who.Line 3) (reply.SessionsFull 64)) ≡ codes "3 no sessionsfull 64\n"
unfolding computing
full_sessions = refl

a_busy_session : entry_text (entry_of (who.Line 3) (reply.Busy 2)) ≡ codes "3 no busy 2\n"
unfolding computing
a_busy_session = refl

too_long : entry_text (entry_of (who.Line 8) (reply.TooLong 65537)) ≡ codes "8 no toolong 65537\n"
unfolding computing
too_long = refl

too_many : entry_text (entry_of (who.Line 8) (reply.TooMany 65)) ≡ codes "8 no toomany 65\n"
unfolding computing
too_many = refl

no_handle : entry_text (entry_of (who.Line 7) (reply.NoHandle 2)) ≡ codes "7 no handle h2\n"
unfolding computing
no_handle = refl

full_handles : entry_text (entry_of (who.Line 7) (reply.HandlesFull 4096)) ≡ codes "7 no handlesfull 4096\n"
unfolding computing
full_handles = refl

a_stale_handle : entry_text (entry_of (who.Line 2) (reply.Stale 0 1 3)) ≡ codes "2 no stale h0 e1 e3\n"
unfolding computing
a_stale_handle = refl

a_collision : entry_text (entry_of (who.Line 6) (reply.Collision)) ≡ codes "6 no collision\n"
unfolding computing
a_collision = refl

a_full_shard : entry_text (entry_of (who.Line 6) (reply.ShardFull 16384)) ≡ codes "6 no shardfull 16384\n"
unfolding computing
a_full_shard = refl

a_taken_key : entry_text (entry_of (who.Line 9) (reply.KeyTaken (codes "a.b"))) ≡ codes "9 no keytaken a.b\n"
unfolding computing
a_taken_key = refl

no_key : entry_text (entry_of (who.Line 9) (reply.NoKey (codes "z"))) ≡ codes "9 no key z\n"
unfolding computing
no_key = refl

full_roots : entry_text (entry_of (who.Line 9) (reply.RootsFull 4096)) ≡ codes "9 no rootsfull 4096\n"
unfolding computing
full_roots = refl

a_run_goes_on : entry_text (entry_of (who.Line 9) (reply.Running 2)) ≡ codes "9 no running e2\n"
unfolding computing
a_run_goes_on = refl

the_last_epoch : entry_text (entry_of (who.Line 9) (reply.EpochEnd 281474976710655)) ≡ codes "9 no epochend 281474976710655\n"
unfolding computing
the_last_epoch = refl

no_peer : entry_text (entry_of (who.Line 1) (reply.NoPeer 9)) ≡ codes "1 no peer 9\n"
unfolding computing
no_peer = refl

a_peer_that_is_down : entry_text (entry_of (who.Line 1) (reply.NotUp 0)) ≡ codes "1 no notup 0\n"
unfolding computing
a_peer_that_is_down = refl

a_peer_that_is_up : entry_text (entry_of (who.Line 1) (reply.NotDown 0)) ≡ codes "1 no notdown 0\n"
unfolding computing
a_peer_that_is_up = refl

no_message : entry_text (entry_of (who.Line 1) (reply.NoMessage 3)) ≡ codes "1 no message 3\n"
unfolding computing
no_message = refl

a_full_pool : entry_text (entry_of (who.Line 1) (reply.PoolFull 65536)) ≡ codes "1 no poolfull 65536\n"
unfolding computing
a_full_pool = refl

an_address : entry_text (entry_of (who.Line 9) (reply.Name (record { 0 = replicate 32 160 }))) ≡ codes "9 name a0a0a0a0a0a0a0a0a0a0a0a0a0a0a0a0a0a0a0a0a0a0a0a0a0a0a0a0a0a0a0a0\n"
unfolding computing
an_address = refl

-- ---- a journal

two_lines : text (entry_of (who.Line 1) reply.Ok ∷ entry_of (who.Line 3) (reply.Busy 2) ∷ []) ≡ codes "1 ok\n3 no busy 2\n"
unfolding computing
two_lines = refl
