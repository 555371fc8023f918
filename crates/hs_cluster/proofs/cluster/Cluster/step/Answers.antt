use Rattle.std.proofs.Common.{◌≡◌, ◌∙◌, ap, sym, subst, refl, ◌*◌, ◌++◌, ◌∷◌, [], List, None, false, map}
use Rattle.std.specs.List.{range_with_len}
use Rattle.std.specs.Prelude.{Ok, Err}
use Rattle.hs_cluster.proofs.EventLemmas.{err_ends, event_done, event_refused, ok_goes}
use Rattle.hs_cluster.proofs.JoiningLemmas.{stays_apart}
use Rattle.hs_cluster.proofs.RoomLemmas.{room_ended}
use Rattle.hs_events.proofs.GoingLemmas.{step_goes}
use Rattle.hs_cluster.specs.Calls.{Does, outcome_by}
use Rattle.hs_events.specs.Course.{is_refused, items_between}
use Rattle.hs_cluster.specs.declared.fault.ClusterFault.TheVariants as cluster
use Rattle.hs_cluster.specs.Running.{Running}
use Rattle.hs_core_words.specs.Looking.{front_of, status_of}
use Rattle.hs_core_words.specs.State.{Core}
use Rattle.hs_core_words.specs.Step.{step}
use Rattle.hs_desk.specs.declared.fault.CoreFault.TheVariants as core
use Rattle.hs_limits.specs.declared.shape.Shape.{Shape}
use Rattle.hs_members.specs.Members.{is_good_status, is_joining}
use Rattle.hs_model.specs.declared.course.CourseItem.{CourseItem}
use Rattle.hs_cluster.proofs.cluster.Cluster.step.Goals as goal

pub returns-in-Ok-clause-does : goal.returns-in-Ok-clause-does
returns-in-Ok-clause-does c =
    let old = c.self.inside.core in
    let new = c.step.new.self in
    let going : old.ended ≡ None = ap (λ (r : Running). r.core.ended) c.self.view_is ∙ c.requires.going in
    let is : new ≡ step c.args.event c.args.moment old = c.in-Ok.ensures.steps.done refl in
    let shape : old.members.shape ≡ new.members.shape = sym (ap (λ (x : Core). x.members.shape) is ∙ (step_goes c.args.event c.args.moment old going).shape) in
    let same : c.shape-shape.result ≡ new.members.shape = c.shape-shape.ensures.value ∙ shape in
    let goods = c.in_ok-goods.ensures ∙ ap (λ (s : Shape). map (λ peer. is_good_status (status_of peer old)) (range_with_len 0 (s.shards * s.copies))) same in
    let fronts = c.in_ok-fronts.ensures ∙ ap (λ (s : Shape). map (λ shard. front_of shard old) (range_with_len 0 s.shards)) same in
    subst (λ (o : Running). Does ((c.args.event, c.args.moment) ∷ []) o (record { core = new; logs = c.self.inside.logs.items; course = c.note_event.new.course.items; cache = c.self.inside.cache }) (Ok tt)) c.self.view_is
    (event_done c.args.event c.args.moment (record { core = old; logs = c.self.inside.logs.items; course = c.self.inside.course.items; cache = c.self.inside.cache }) (record { core = new; logs = c.self.inside.logs.items; course = c.note_event.new.course.items; cache = c.self.inside.cache }) c.begun_line-line.result (Ok tt) is c.begun_line-line.ensures
    (c.note_event.ensures.items old shape goods fronts ∙ ap (λ (xs : List CourseItem). xs ++ items_between c.begun_line-line.result old new c.args.moment) c.in_ok-reserve.ensures.items)
    (ap is_refused (ok_goes new c.in-Ok.field-0 c.in-Ok.ensures.steps.outcome)) (ap outcome_by (sym (ok_goes new c.in-Ok.field-0 c.in-Ok.ensures.steps.outcome))) refl (λ going. c.in-Ok.ensures.room))

pub returns-in-Err-OpsFull-clause-does : goal.returns-in-Err-OpsFull-clause-does
returns-in-Err-OpsFull-clause-does c =
    let old = c.self.inside.core in
    let new = c.step.new.self in
    let steps = rw c.in-Err-OpsFull.field-0-is at c.in-Err-OpsFull.ensures.steps in
    let is : new ≡ step c.args.event c.args.moment old = steps.done refl in
    subst (λ (o : Running). Does ((c.args.event, c.args.moment) ∷ []) o (record { core = new; logs = c.self.inside.logs.items; course = c.reserve.new.self.items; cache = c.self.inside.cache }) (Err cluster.OpsFull)) c.self.view_is
    (event_refused c.args.event c.args.moment (record { core = old; logs = c.self.inside.logs.items; course = c.self.inside.course.items; cache = c.self.inside.cache }) (record { core = new; logs = c.self.inside.logs.items; course = c.reserve.new.self.items; cache = c.self.inside.cache }) is c.in_ok-reserve.ensures.items (err_ends new core.OpsFull steps.outcome))

pub returns-in-Err-ShardLost-clause-does : goal.returns-in-Err-ShardLost-clause-does
returns-in-Err-ShardLost-clause-does c =
    let old = c.self.inside.core in
    let new = c.step.new.self in
    let steps = rw c.in-Err-ShardLost.field-0-is at c.in-Err-ShardLost.ensures.steps in
    let going : old.ended ≡ None = ap (λ (r : Running). r.core.ended) c.self.view_is ∙ c.requires.going in
    let is : new ≡ step c.args.event c.args.moment old = steps.done refl in
    let shape : old.members.shape ≡ new.members.shape = sym (ap (λ (x : Core). x.members.shape) is ∙ (step_goes c.args.event c.args.moment old going).shape) in
    let same : c.shape-shape.result ≡ new.members.shape = c.shape-shape.ensures.value ∙ shape in
    let goods = c.in_ok-goods.ensures ∙ ap (λ (s : Shape). map (λ peer. is_good_status (status_of peer old)) (range_with_len 0 (s.shards * s.copies))) same in
    let fronts = c.in_ok-fronts.ensures ∙ ap (λ (s : Shape). map (λ shard. front_of shard old) (range_with_len 0 s.shards)) same in
    subst (λ (o : Running). Does ((c.args.event, c.args.moment) ∷ []) o (record { core = new; logs = c.self.inside.logs.items; course = c.note_event-in-Err-ShardLost.new.course.items; cache = c.self.inside.cache }) (Err (cluster.ShardLost c.in-Err-ShardLost.shard))) c.self.view_is
    (event_done c.args.event c.args.moment (record { core = old; logs = c.self.inside.logs.items; course = c.self.inside.course.items; cache = c.self.inside.cache }) (record { core = new; logs = c.self.inside.logs.items; course = c.note_event-in-Err-ShardLost.new.course.items; cache = c.self.inside.cache }) c.begun_line-line.result (Err (cluster.ShardLost c.in-Err-ShardLost.shard)) is c.begun_line-line.ensures
    (c.note_event-in-Err-ShardLost.ensures.items old shape goods fronts ∙ ap (λ (xs : List CourseItem). xs ++ items_between c.begun_line-line.result old new c.args.moment) c.in_ok-reserve.ensures.items)
    (ap is_refused (err_ends new (core.ShardLost c.in-Err-ShardLost.shard) steps.outcome)) (ap outcome_by (sym (err_ends new (core.ShardLost c.in-Err-ShardLost.shard) steps.outcome))) refl
    (room_ended new (core.ShardLost c.in-Err-ShardLost.shard) (err_ends new (core.ShardLost c.in-Err-ShardLost.shard) steps.outcome)))

pub returns-in-Ok-clause-joins : goal.returns-in-Ok-clause-joins
returns-in-Ok-clause-joins c = λ peer none apart.
    stays_apart peer c.args.event c.args.moment c.self.inside.core c.step.new.self (c.in-Ok.ensures.steps.done refl) none (subst (λ (r : Running). is_joining (status_of peer r.core) ≡ false) (sym c.self.view_is) apart)
