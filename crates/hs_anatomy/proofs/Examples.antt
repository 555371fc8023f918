-- The anatomy of events, computed: three copies of one shard, whose lead fails between two rounds of a deletion.
use Rattle.std.proofs.Common.{◌≡◌, ℕ, true, List, [], ◌∷◌, Some, refl}
use Rattle.hs_anatomy.specs.Acts.{Acts, AndThen, ByLine, Falls, Gets, Hears, IsAside, NoAct, TakesEffect, Views, fallen}
use Rattle.hs_anatomy.specs.Effect.{told_at_once}
use Rattle.hs_core_words.specs.Changing.{change_group, change_pool, set_viewed}
use Rattle.hs_core_words.specs.declared.event.Event.{Event}
use Rattle.hs_core_words.specs.declared.event.Event.TheVariants as event
use Rattle.hs_core_words.specs.Looking.{group_of}
use Rattle.hs_core_words.specs.Opening.{Taken, open_core}
use Rattle.hs_core_words.specs.Operating.{propose_entry}
use Rattle.hs_core_words.specs.State.{Core}
use Rattle.hs_core_words.specs.Step.{do_event, step}
use Rattle.hs_desk.specs.declared.done.Done.TheVariants as done
use Rattle.hs_entry.specs.declared.entry.Entry.{Entry}
use Rattle.hs_entry.specs.declared.entry.Entry.TheVariants as kind
use Rattle.hs_journal.specs.declared.entry.JournalEntry.{JournalEntry}
use Rattle.hs_journal.specs.declared.entry.Who.TheVariants as who
use Rattle.hs_limits.specs.declared.shape.Shape.{Shape}
use Rattle.hs_limits.specs.Limits.{greatest_limits}
use Rattle.hs_model.specs.declared.deed.Deed.TheVariants as deed
use Rattle.hs_model.specs.declared.op.Op.TheVariants as op
use Rattle.hs_model.specs.declared.reply.Reply.TheVariants as reply
use Rattle.hs_ops.specs.Answers.{deed_of, gained, seats_after}
use Rattle.hs_ops.specs.Going.{asked_for, begin, go, judged_in, on_effect}
use Rattle.hs_ops.specs.Refusals.{refusals_of}
use Rattle.hs_post.specs.declared.message.Message.{Message}
use Rattle.hs_post.specs.declared.message.Message.TheVariants as message
use Rattle.hs_post.specs.Pool.{without}
use Rattle.hs_replica.specs.Group.{on_have}
use Rattle.hs_shard.specs.Facts.{empty_catalogue}

abbrev three : Shape
three = record { shards = 1; copies = 3 }

-- each log is empty
abbrev blank : Taken
blank = record { catalogues = empty_catalogue three 0 ∷ []; views = 0 ∷ []; lengths = 0 ∷ []; good = true ∷ true ∷ true ∷ [] }

-- what is seen of a core: the messages under way, what waits in the list, and what the event has told
pub record Seen : Type 0 where
  pub messages : List (ℕ × Message)
  pub waiting : List Entry
  pub told : List JournalEntry

abbrev seen_of : Core → Seen
seen_of core = record { messages = core.pool.messages; waiting = (group_of 0 core).waiting; told = core.entries }

-- an event that leaves this is made of acts that leave it
pub record IsMade (core : Core) (e : Event) (left : Core) (seen : Seen) : Type 0 where
  pub acts : Acts core (Some e) left
  pub by_acts : seen_of left ≡ seen
  pub by_event : seen_of (do_event e core) ≡ seen

-- events, all at one moment
abbrev after : List Event → Core → Core
after [] core = core
after (e ∷ es) core = after es (step e 1 core)

-- each copy seals an entry that the lead proposed, whose Copies have these numbers
abbrev sealed_by_all : ℕ → ℕ → ℕ → List Event
sealed_by_all number one two =
    event.Report 0 (done.Stored number) ∷ event.Report 0 (done.Sealed number)
    ∷ event.Deliver 0 one ∷ event.Report 1 (done.Stored number) ∷ event.Report 1 (done.Sealed number)
    ∷ event.Deliver 0 two ∷ event.Report 2 (done.Stored number) ∷ event.Report 2 (done.Sealed number) ∷ []

-- of two Haves that are under way one has come: with the other the View takes effect
abbrev one_came : Core
one_came = after (event.Deliver 0 3 ∷ []) (after (sealed_by_all 1 1 2) (open_core three greatest_limits blank 1))

abbrev heard : ℕ → Core → Core
heard number core = change_group 0 (on_have 2 1 number) (change_pool (without 4) core)

viewed_by : IsMade one_came (event.Deliver 0 4) (set_viewed 0 true (told_at_once 0 (kind.View 1) (heard 1 one_came))) (record { messages = []; waiting = []; told = [] })
unfolding gained deed_of seats_after asked_for begin go judged_in on_effect refusals_of
viewed_by = record {
  acts = AndThen (AndThen (AndThen NoAct (IsAside (Hears 4 0 2 0 1 1 (record { start = refl; line = 0; delivered = refl; at = refl }) refl))) (TakesEffect 0 1 (kind.View 1) refl)) (IsAside (Views 0));
  by_acts = refl;
  by_event = refl;
}

-- a client asks for a deletion; its Enter was sealed by all, and the lead knows it of all but one: the deletion begins, and the round 0 of its run is sent
abbrev entering : Core
entering = after (event.Deliver 0 3 ∷ []) (after (sealed_by_all 2 1 2) (after (event.Line 1 op.Delete ∷ []) (after (event.Deliver 0 4 ∷ []) one_came)))

entered_by : IsMade entering (event.Deliver 0 4) (told_at_once 0 (kind.Enter 1 2) (heard 2 entering)) (record {
  messages = (5, message.Round 0 0 2 0 0 []) ∷ [];
  waiting = [];
  told = record { who = who.Line 1; moment = 1; deed = deed.Entered 0; reply = reply.Run 2 } ∷ [];
})
unfolding gained deed_of seats_after asked_for begin go judged_in on_effect refusals_of
entered_by = record {
  acts = AndThen (AndThen NoAct (IsAside (Hears 4 0 2 0 1 2 (record { start = refl; line = 0; delivered = refl; at = refl }) refl))) (TakesEffect 0 2 (kind.Enter 1 2) refl);
  by_acts = refl;
  by_event = refl;
}

-- the lead fails before that round comes: its Copies and Haves are gone, another view begins, and its View is proposed by another lead
abbrev between : Core
between = after (event.Deliver 0 4 ∷ []) entering

failed_by : IsMade between (event.Fail 2 0) (fallen 0 between) (record { messages = (5, message.Round 0 0 2 0 0 []) ∷ (6, message.Copy 0 2 2 3 (kind.View 2)) ∷ []; waiting = kind.View 2 ∷ []; told = [] })
unfolding gained deed_of seats_after asked_for begin go judged_in on_effect refusals_of
failed_by = record { acts = AndThen NoAct (Falls 0 (record { why = ByLine 2 refl refl; members = refl; lists = refl; catalogues = refl })); by_acts = refl; by_event = refl }

-- then the round comes to the lead that there is now, which proposes its Got
abbrev left : Core
left = after (event.Fail 2 0 ∷ []) between

came_by : IsMade left (event.Deliver 0 5) (propose_entry 0 (kind.Got 0 2 0 0 []) (change_pool (without 5) left)) (record { messages = (6, message.Copy 0 2 2 3 (kind.View 2)) ∷ (7, message.Copy 0 2 2 4 (kind.Got 0 2 0 0 [])) ∷ []; waiting = kind.View 2 ∷ kind.Got 0 2 0 0 [] ∷ []; told = [] })
unfolding gained deed_of seats_after asked_for begin go judged_in on_effect refusals_of
came_by = record { acts = AndThen NoAct (Gets 5 0 0 2 0 0 [] (record { start = refl; line = 0; delivered = refl; at = refl }) refl); by_acts = refl; by_event = refl }
