use Rattle.std.proofs.Common.{◌≡◌, ◌∙◌, ap}
use Rattle.learner.specs.Polls.{has_vote, poll_at}
use Rattle.learner.proofs.Rooms.{count_added, count_counted, none_without}
use Rattle.learner.proofs.Tallying.{found, poll_found}
use Rattle.learner.proofs.tallies.count_at.Goals as goal

pub count-requires-clause-room : goal.count-requires-clause-room
count-requires-clause-room c =
    let e : c.in-Some.poll.now ≡ poll_at c.args.position c.args.polls.now.entries = ap found c.in-Some.ensures.value ∙ poll_found c.args.position c.args.polls.now.entries in
    ap (has_vote c.args.vote.now) e ∙ c.requires.room

pub returns-in-Some-clause-added : goal.returns-in-Some-clause-added
returns-in-Some-clause-added c = λ n h k. count_added n h c.args.member c.args.position c.args.vote.now c.args.polls.now.entries _ c.count.new.self c.in-Some.poll.now c.requires.least k c.in-Some.ensures.value (c.get_mut.follows.holds c.count.new.self).0 c.count.ensures.counted

pub returns-in-Some-clause-counted : goal.returns-in-Some-clause-counted
returns-in-Some-clause-counted c = λ n h k.
    let e : c.in-Some.poll.now ≡ poll_at c.args.position c.args.polls.now.entries = ap found c.in-Some.ensures.value ∙ poll_found c.args.position c.args.polls.now.entries in
    count_counted n h c.args.member c.args.position c.args.vote.now c.args.polls.now.entries _ c.count.new.self c.in-Some.poll.now c.count.result k c.in-Some.ensures.value (c.get_mut.follows.holds c.count.new.self).0 c.count.ensures.counted (ap (has_vote c.args.vote.now) e ∙ c.requires.room) c.count.ensures.grew

pub returns-in-None-clause-added : goal.returns-in-None-clause-added
returns-in-None-clause-added c = λ n h k. absurd (none_without c.args.position c.args.vote.now c.args.polls.now.entries c.in-None.ensures.value c.requires.room)
