-- What is known of the copies of one shard's list, and what each call makes of it.
use Rattle.std.specs.List.{enumerate_from}
use Rattle.std.specs.Option.{option_map, option_map_or, option_to_list}
use Rattle.std.specs.Prelude.{◌≡◌, ℕ, ◌+◌, ◌-◌, ◌<◌, ◌≤◌, ◌^◌, ◌==◌, ◌&&◌, Bool, true, false, not, List, [], ◌∷◌, ◌++◌, length, map, flat_map, filter, drop, take, replicate, Option, Some, None, max, min, nat_lt, slice_get, slice_index_or, slice_set, if◌then◌else◌}
use Rattle.hs_entry.specs.declared.entry.Entry.{Entry}
use Rattle.hs_entry.specs.declared.entry.Entry.TheVariants.{View, Block, Mark, Root, Drop, Enter, Got, Base, KeptBlock, KeptRoot, KeptRound}
use Rattle.hs_limits.specs.declared.shape.Shape.{Shape}
use Rattle.hs_limits.specs.Shape.{IsShape, peer_of}
use Rattle.hs_members.specs.Members.{Members, IsShard, is_good_status, longest, status, view_of}
use Rattle.hs_post.specs.declared.message.Message.{Message}
use Rattle.hs_post.specs.declared.message.Message.TheVariants.{Copy, Have}
use Rattle.hs_post.specs.Pool.{Pool, send}
use Rattle.hs_replica.specs.declared.replica.Replica.{Replica}

-- the copies of a shard's list in the order of their peers, the shard's view, how many entries of the lead's list were
-- handed out, and those behind them
pub record Group : Type 0 where
  pub shape : Shape
  pub shard : ℕ
  pub view : ℕ
  pub copies : List Replica
  pub front : ℕ
  pub waiting : List Entry

-- the number of the last entry that waits
abbrev pub last_number : Group → ℕ
last_number group = group.front + length group.waiting

-- each peer of the shard has a copy, and numbers of entries have 64 bits
pub record IsGroup (group : Group) : Type 0 where
  pub shape : IsShape group.shape
  pub shard : IsShard group.shape group.shard
  pub copies : length group.copies ≡ group.shape.copies
  pub numbers : last_number group < 2 ^ 64

-- a copy that has nothing
abbrev pub no_copy : Replica
no_copy = record { good = false; stamps = []; sealed = 0; known = 0 }

-- a good copy that has sealed so many entries, the last of this view
abbrev pub whole_copy : ℕ → ℕ → Replica
whole_copy view len = record { good = true; stamps = replicate len view; sealed = len; known = len }

-- each good copy has all entries, and they were handed out; the other copies count as having none
abbrev pub new_group : Shape → ℕ → ℕ → ℕ → List Bool → Group
new_group shape shard view len good = record {
  shape = shape;
  shard = shard;
  view = view;
  copies = map (λ b. if b then whole_copy view len else no_copy) good;
  front = len;
  waiting = [];
}

-- ---- looking

-- the first peer of the shard
abbrev pub first_peer : Group → ℕ
first_peer group = peer_of group.shape group.shard 0

-- a peer of the shard
abbrev pub IsHome : Group → ℕ → Type 0
IsHome group peer = (first_peer group ≤ peer) × (peer < first_peer group + group.shape.copies)

-- the copy of a peer
abbrev pub copy_of : Group → ℕ → Replica
copy_of group peer = slice_index_or group.copies (peer - first_peer group) no_copy

-- the length of its list
abbrev pub length_of : Group → ℕ → ℕ
length_of group peer = length (copy_of group peer).stamps

-- the good copies among these, the first of which is this peer's, each peer with the length of its list
abbrev pub good_from : ℕ → List Replica → List (ℕ × ℕ)
good_from peer copies = map (λ x. (x.0, length x.1.stamps)) (filter (λ x. x.1.good) (enumerate_from peer copies))

-- the lead: the good peer with the longest list, of equals the lowest
abbrev pub lead : Group → Option ℕ
lead group = option_map (λ x. x.0) (longest (good_from (first_peer group) group.copies))

-- whether a lead is this peer
abbrev pub is_peer : ℕ → Option ℕ → Bool
is_peer peer lead = option_map_or (λ l. l == peer) lead false

-- the good copies among these that aren't the lead's, each with its peer
abbrev pub others_from : Option ℕ → ℕ → List Replica → List (ℕ × Replica)
others_from lead peer copies = filter (λ x. x.1.good && not (is_peer x.0 lead)) (enumerate_from peer copies)

abbrev pub others : Group → List (ℕ × Replica)
others group = others_from (lead group) (first_peer group) group.copies

-- of two numbers the lower
abbrev pub lower : ℕ → Option ℕ → ℕ
lower x None = x
lower x (Some y) = min x y

-- the least known number of good copies, if one is good
abbrev pub least_known : List Replica → Option ℕ
least_known [] = None
least_known (c ∷ cs) = if c.good then Some (lower c.known (least_known cs)) else least_known cs

-- how far every good peer is known to have sealed
abbrev pub commit_front : Group → ℕ
commit_front group = option_map_or (λ n. n) (least_known group.copies) 0

-- ---- what is sent

-- the pool after these were sent
abbrev pub send_all : List Message → Pool → Pool
send_all [] pool = pool
send_all (message ∷ messages) pool = send_all messages (send message pool)

-- the entries that wait whose number is above this one, each with its number
abbrev pub entries_above : ℕ → Group → List (ℕ × Entry)
entries_above above group = drop (above - group.front) (enumerate_from (group.front + 1) group.waiting)

-- Copies of them for a peer
abbrev pub copies_above : ℕ → ℕ → Group → List Message
copies_above peer above group = map (λ e. Copy group.shard peer group.view e.0 e.1) (entries_above above group)

-- a Have to the lead; a lead sends none
abbrev pub have : ℕ → ℕ → Group → List Message
have peer sealed group =
    if is_peer peer (lead group) then []
    else map (λ l. Have group.shard peer l group.view sealed) (option_to_list (lead group))

-- ---- changing

-- with another copy of a peer
abbrev pub change_copy : ℕ → (Replica → Replica) → Group → Group
change_copy peer f group = record group { copies = slice_set group.copies (peer - first_peer group) (f (copy_of group peer)) }

-- the view of the last entry of a list with these views, 0 where there is none
abbrev pub last_view : List ℕ → ℕ
last_view stamps = slice_index_or stamps (length stamps - 1) 0

-- the view of an entry behind one of this view: that of the last View or Base at or before it
abbrev pub view_after : ℕ → Entry → ℕ
view_after before (View view) = view
view_after before (Block op least bytes) = before
view_after before (Mark op least block address) = before
view_after before (Root op held address key) = before
view_after before (Drop op key) = before
view_after before (Enter op epoch) = before
view_after before (Got sender epoch round total deltas) = before
view_after before (Base view epoch swept round frames) = view
view_after before (KeptBlock born mark flags count bytes) = before
view_after before (KeptRoot created dropped counted address key) = before
view_after before (KeptRound way other epoch round total deltas) = before

-- a peer's list has an entry more
abbrev pub stamp : Entry → List ℕ → List ℕ
stamp entry stamps = stamps ++ view_after (last_view stamps) entry ∷ []

abbrev pub take_entry : ℕ → Entry → Group → Group
take_entry peer entry = change_copy peer (λ c. record c { stamps = stamp entry c.stamps })

-- the lead's list has an entry more
abbrev pub lead_takes : Option ℕ → Entry → Group → Group
lead_takes None entry group = group
lead_takes (Some l) entry group = take_entry l entry group

abbrev pub propose : Entry → Group → Group
propose entry group = record (lead_takes (lead group) entry group) { waiting = group.waiting ++ entry ∷ [] }

-- and every other good peer is sent a Copy of it
abbrev pub proposal : Entry → Group → List Message
proposal entry group = map (λ x. Copy group.shard x.0 group.view (last_number group + 1) entry) (others group)

-- a good peer takes a Copy of its view whose number is the next of its list
abbrev pub takes : ℕ → ℕ → ℕ → Group → Bool
takes peer view number group = (copy_of group peer).good && view == group.view && number == length_of group peer + 1

abbrev pub on_append : ℕ → ℕ → ℕ → Entry → Group → Group
on_append peer view number entry group = if takes peer view number group then take_entry peer entry group else group

-- a peer has sealed so many: the lead knows its own at once, and another peer sends it a Have
abbrev pub on_sealed : ℕ → ℕ → Group → Group
on_sealed peer number group =
    change_copy peer (λ c. record c { sealed = number; known = if is_peer peer (lead group) then max c.known number else c.known }) group

-- a Have of the current view raises the known number of a good peer
abbrev pub hears : ℕ → ℕ → Group → Bool
hears peer view group = view == group.view && (copy_of group peer).good

abbrev pub on_have : ℕ → ℕ → ℕ → Group → Group
on_have peer view sealed group =
    if hears peer view group then change_copy peer (λ c. record c { known = max c.known sealed }) group else group

-- ---- a new view

-- a copy is good or not from now on; of a good one is known all that it has sealed
abbrev pub tell : Bool → Replica → Replica
tell good copy = record copy { good = good; known = if good then copy.sealed else copy.known }

-- these copies, the first of which is this peer's, are good as the members say
abbrev pub tell_from : Members → ℕ → List Replica → List Replica
tell_from members peer copies = map (λ x. tell (is_good_status (status x.0 members)) x.1) (enumerate_from peer copies)

abbrev pub told : Members → Group → Group
told members group = record group {
  view = view_of group.shard members;
  copies = tell_from members (first_peer group) group.copies;
}

-- all copies are told, and what stands above the new lead's list is gone
abbrev pub renew : Members → Group → Group
renew members group =
    let new : Group = told members group in
    record new { waiting = take (option_map_or (length_of new) (lead new) 0 - new.front) new.waiting }

-- each other good peer is sent what stands above its list
abbrev pub renewal : Group → List Message
renewal group = flat_map (λ x. copies_above x.0 (length x.1.stamps) group) (others group)

-- and the View of the new view is proposed
abbrev pub on_view : Members → Group → Group
on_view members group = propose (View (view_of group.shard members)) (renew members group)

abbrev pub view_messages : Members → Group → List Message
view_messages members group =
    let new : Group = renew members group in
    renewal new ++ proposal (View (view_of group.shard members)) new

-- ---- sending again, and taking effect

-- the lead sends again what it doesn't know the others to have sealed; another peer sends its Have
abbrev pub resend : ℕ → Group → List Message
resend peer group =
    if is_peer peer (lead group) then flat_map (λ x. copies_above x.0 x.1.known group) (others group)
    else have peer (copy_of group peer).sealed group

-- the next entry with its number, where every good peer is known to have sealed it
abbrev pub committed : Group → Option (ℕ × Entry)
committed group =
    if nat_lt group.front (commit_front group) then option_map (λ entry. (group.front + 1, entry)) (slice_get group.waiting 0)
    else None

-- it is handed out
abbrev pub take_committed : Group → Group
take_committed group = option_map_or (λ x. record group { front = x.0; waiting = drop 1 group.waiting }) (committed group) group

-- ---- joining

-- a peer's list was emptied
abbrev pub on_emptied : ℕ → Group → Group
on_emptied peer = change_copy peer (λ c. record c { stamps = []; sealed = 0 })

-- it got the lead's entry of this number, sealed
abbrev pub on_copied : ℕ → ℕ → Group → Group
on_copied peer number group =
    let from : List ℕ = option_map_or (λ l. (copy_of group l).stamps) (lead group) [] in
    change_copy peer (λ c. record c { stamps = c.stamps ++ slice_index_or from (number - 1) 0 ∷ []; sealed = number }) group
