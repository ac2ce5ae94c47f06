use Rattle.std.proofs.Common.{◌≡◌, ◌∙◌, ap, sym, List, nat_cmp, rules}
use Rattle.std.proofs.lemmas.Map.Steps.{set_value_same}
use Rattle.std.specs.BTreeMap.{is_at}
use Rattle.std.specs.Map.{set_value}
use Rattle.std.specs.List.{filter}
use Rattle.learner.specs.declared.poll.Voters.{Voters}
use Rattle.learner.specs.Polls.{Polls, is_heard, tallies_of}
use Rattle.learner.specs.Terms.{open_in}
use Rattle.learner.proofs.Rooms.{open_set, room_counted, with_room_heard}
use Rattle.learner.proofs.tallies.reserve_at.Goals as goal

pub returns-in_ok-is_new-in-Some-clause-same : goal.returns-in_ok-is_new-in-Some-clause-same
returns-in_ok-is_new-in-Some-clause-same c = ap (λ (es : Polls). open_in (tallies_of es)) (c.get_mut.follows.holds c.reserve.new.self).0 ∙ open_set c.args.position c.reserve.new.self c.in-Some.poll.now c.args.polls.now.entries c.in-Some.ensures.value (ap (filter is_heard) c.in_ok-is_new-in-Some.ensures.made ∙ with_room_heard c.args.vote.now c.in-Some.poll.now)

pub returns-in_ok-is_new-in-Some-clause-counted : goal.returns-in_ok-is_new-in-Some-clause-counted
returns-in_ok-is_new-in-Some-clause-counted c = λ n h k. (room_counted n h c.args.position c.args.vote.now c.args.polls.now.entries _ c.reserve.new.self c.in-Some.poll.now c.in_ok-is_new-in-Some.is_new k c.in-Some.ensures.value (c.get_mut.follows.holds c.reserve.new.self).0 c.in_ok-is_new-in-Some.ensures.made c.in_ok-is_new-in-Some.ensures.grew).0

pub returns-in_ok-is_new-in-Some-clause-made : goal.returns-in_ok-is_new-in-Some-clause-made
returns-in_ok-is_new-in-Some-clause-made c = λ n h k. (room_counted n h c.args.position c.args.vote.now c.args.polls.now.entries _ c.reserve.new.self c.in-Some.poll.now c.in_ok-is_new-in-Some.is_new k c.in-Some.ensures.value (c.get_mut.follows.holds c.reserve.new.self).0 c.in_ok-is_new-in-Some.ensures.made c.in_ok-is_new-in-Some.ensures.grew).1

pub returns-in_err-is_new-in-Some-clause-refused : goal.returns-in_err-is_new-in-Some-clause-refused
returns-in_err-is_new-in-Some-clause-refused c =
    let same : (c.get_mut.follows.lender c.reserve.new.self).entries ≡ c.args.polls.now.entries = (c.get_mut.follows.holds c.reserve.new.self).0 ∙ ap (λ (xs : List Voters). set_value (is_at (nat_cmp c.args.position)) c.args.polls.now.entries xs) c.in_err-is_new-in-Some.ensures.refused ∙ set_value_same (is_at (nat_cmp c.args.position)) c.args.polls.now.entries c.in-Some.poll.now (sym c.in-Some.ensures.value) in
    search rules

pub returns-in_err-is_new-in-Some-clause-same : goal.returns-in_err-is_new-in-Some-clause-same
returns-in_err-is_new-in-Some-clause-same c = ap (λ (es : Polls). open_in (tallies_of es)) (c.get_mut.follows.holds c.reserve.new.self).0 ∙ open_set c.args.position c.reserve.new.self c.in-Some.poll.now c.args.polls.now.entries c.in-Some.ensures.value (ap (filter is_heard) c.in_err-is_new-in-Some.ensures.refused)
