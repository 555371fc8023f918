-- How the entries of a journal are printed.
use Rattle.std.specs.Prelude.{ℕ, List, [], ◌∷◌, ◌++◌, codes, map}
use Rattle.std.specs.List.{flat_map, join_with_byte}
use Rattle.std.specs.Fmt.{decimal}
use Rattle.hex.specs.Hex.{encode_lower}
use Rattle.hs_journal.specs.declared.entry.JournalEntry.{JournalEntry}
use Rattle.hs_journal.specs.declared.entry.Who.{Who}
use Rattle.hs_journal.specs.declared.entry.Who.TheVariants as who
use Rattle.hs_model.specs.declared.reply.Reply.{Reply}
use Rattle.hs_model.specs.declared.reply.Reply.TheVariants as reply

-- the number of the line, or a dash
abbrev pub who_text : Who → List ℕ
who_text (who.Line n) = decimal n
who_text (who.Shard g) = codes "-"
who_text who.Store = codes "-"

-- data in hexadecimal digits, or a dash where there are none
abbrev pub data_text : List ℕ → List ℕ
data_text [] = codes "-"
data_text (b ∷ bs) = encode_lower (b ∷ bs)

-- handles one after another, each behind a space
abbrev pub handles_text : List ℕ → List ℕ
handles_text handles = flat_map (λ handle. codes " h" ++ decimal handle) handles

-- one number for each shard, parted by commas
abbrev pub list_text : List ℕ → List ℕ
list_text numbers = join_with_byte 44 (map decimal numbers)

-- a handle and its epoch
abbrev pub held_text : ℕ → ℕ → List ℕ
held_text handle epoch = codes "h" ++ (decimal handle ++ (codes " e" ++ decimal epoch))

-- the shard that an entry is about
abbrev pub shard_text : Who → List ℕ
shard_text (who.Shard g) = decimal g
shard_text (who.Line n) = decimal 0
shard_text who.Store = decimal 0

-- what the store has, and the epochs of its shards
abbrev pub stat_text : ℕ → ℕ → ℕ → List ℕ → List ℕ → List ℕ
stat_text blocks roots sessions epochs swept =
    codes "stat blocks " ++ (decimal blocks ++ (codes " roots " ++ (decimal roots ++ (codes " sessions " ++ (decimal sessions ++ (codes " epochs " ++ (list_text epochs ++ (codes " swept " ++ list_text swept))))))))

-- why a root, a deletion, or a command that is no client's was refused; any other reply is no refusal
abbrev pub other_refusal_text : Reply → List ℕ
other_refusal_text (reply.KeyTaken key) = codes "no keytaken " ++ key
other_refusal_text (reply.NoKey key) = codes "no key " ++ key
other_refusal_text (reply.RootsFull limit) = codes "no rootsfull " ++ decimal limit
other_refusal_text (reply.Running epoch) = codes "no running e" ++ decimal epoch
other_refusal_text (reply.EpochEnd limit) = codes "no epochend " ++ decimal limit
other_refusal_text (reply.NoPeer peer) = codes "no peer " ++ decimal peer
other_refusal_text (reply.NotUp peer) = codes "no notup " ++ decimal peer
other_refusal_text (reply.NotDown peer) = codes "no notdown " ++ decimal peer
other_refusal_text (reply.NoMessage message) = codes "no message " ++ decimal message
other_refusal_text (reply.PoolFull limit) = codes "no poolfull " ++ decimal limit
other_refusal_text answer = []

-- why a command was refused, first what sessions and blocks refuse
abbrev pub refusal_text : Reply → List ℕ
refusal_text (reply.NoSession session) = codes "no session " ++ session
refusal_text (reply.SessionTaken session) = codes "no taken " ++ session
refusal_text (reply.SessionsFull limit) = codes "no sessionsfull " ++ decimal limit
refusal_text (reply.Busy line) = codes "no busy " ++ decimal line
refusal_text (reply.TooLong found) = codes "no toolong " ++ decimal found
refusal_text (reply.TooMany found) = codes "no toomany " ++ decimal found
refusal_text (reply.NoHandle handle) = codes "no handle h" ++ decimal handle
refusal_text (reply.HandlesFull limit) = codes "no handlesfull " ++ decimal limit
refusal_text (reply.Stale handle held now) = codes "no stale h" ++ (decimal handle ++ (codes " e" ++ (decimal held ++ (codes " e" ++ decimal now))))
refusal_text reply.Collision = codes "no collision"
refusal_text (reply.ShardFull limit) = codes "no shardfull " ++ decimal limit
refusal_text other = other_refusal_text other

-- the text of a reply; an enter and a sweep name the shard that the entry is about
abbrev pub reply_text : Who → Reply → List ℕ
reply_text w reply.Ok = codes "ok"
reply_text w (reply.New handle epoch) = codes "new " ++ held_text handle epoch
reply_text w (reply.Dup handle epoch) = codes "dup " ++ held_text handle epoch
reply_text w (reply.Bytes bytes handles) = codes "bytes " ++ (data_text bytes ++ handles_text handles)
reply_text w (reply.Held handle epoch) = codes "held " ++ held_text handle epoch
reply_text w (reply.Name address) = codes "name " ++ encode_lower address.0
reply_text w (reply.Stat blocks roots sessions epochs swept) = stat_text blocks roots sessions epochs swept
reply_text w (reply.Run epoch) = codes "run e" ++ decimal epoch
reply_text w (reply.Enter epoch) = codes "enter " ++ (shard_text w ++ (codes " e" ++ decimal epoch))
reply_text w (reply.Sweep epoch removed) = codes "sweep " ++ (shard_text w ++ (codes " e" ++ (decimal epoch ++ (codes " " ++ decimal removed))))
reply_text w (reply.Done epoch) = codes "done e" ++ decimal epoch
reply_text w (reply.Down peer line) = codes "down " ++ decimal peer
reply_text w (reply.Visits epoch count) = codes "visits e" ++ (decimal epoch ++ (codes " " ++ decimal count))
reply_text w refusal = refusal_text refusal

-- the line of an entry
unfoldable pub entry_text : JournalEntry → List ℕ
entry_text entry = who_text entry.who ++ (32 ∷ (reply_text entry.who entry.reply ++ 10 ∷ []))

-- the lines of a journal
abbrev pub text : List JournalEntry → List ℕ
text entries = flat_map entry_text entries
