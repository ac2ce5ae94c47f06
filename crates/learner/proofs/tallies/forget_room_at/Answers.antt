use Rattle.std.proofs.Common.{◌∙◌, ap}
use Rattle.learner.specs.Polls.{Polls, tallies_of}
use Rattle.learner.specs.Terms.{open_in}
use Rattle.learner.proofs.Rooms.{open_set, without, without_counted, without_heard, without_least}
use Rattle.learner.proofs.tallies.forget_room_at.Goals as goal

pub returns-in-Some-clause-same : goal.returns-in-Some-clause-same
returns-in-Some-clause-same c = ap (λ (es : Polls). open_in (tallies_of es)) (c.get_mut.follows.holds c.forget_room.new.self).0 ∙ open_set c.args.position c.forget_room.new.self c.in-Some.poll.now c.args.polls.now.entries c.in-Some.ensures.value (without_heard c.forget_room.result _ _ (without c.forget_room.result _ _ c.forget_room.ensures.taken c.forget_room.ensures.same))

pub returns-in-Some-clause-least : goal.returns-in-Some-clause-least
returns-in-Some-clause-least c = λ e. without_least c.args.position c.forget_room.new.self c.in-Some.poll.now c.args.polls.now.entries c.in-Some.ensures.value (c.forget_room.ensures.taken e)

pub returns-in-Some-clause-counted : goal.returns-in-Some-clause-counted
returns-in-Some-clause-counted c = λ n h k. without_counted n h c.args.position c.args.polls.now.entries _ c.forget_room.new.self c.in-Some.poll.now c.forget_room.result k c.in-Some.ensures.value (c.get_mut.follows.holds c.forget_room.new.self).0 (without c.forget_room.result _ _ c.forget_room.ensures.taken c.forget_room.ensures.same)
