use Rattle.std.proofs.Common.{◌-◌, length}
use Rattle.proposer.proofs.Lasts.{last_position_is, last_index}
use Rattle.proposer.proofs.view.last_position.Goals as goal

pub returns-in-Some-clause-most : goal.returns-in-Some-clause-most
returns-in-Some-clause-most c = (last_position_is 1 c.args.learnt.now c.in-Some.position.now (length c.args.learnt.now - 1) c.requires.rising (last_index c.args.learnt.now c.in-Some.position.now c.in-Some.ensures.value) c.in-Some.ensures.value).most

pub returns-in-Some-clause-above : goal.returns-in-Some-clause-above
returns-in-Some-clause-above c = (last_position_is 1 c.args.learnt.now c.in-Some.position.now (length c.args.learnt.now - 1) c.requires.rising (last_index c.args.learnt.now c.in-Some.position.now c.in-Some.ensures.value) c.in-Some.ensures.value).above

pub returns-in-Some-clause-there : goal.returns-in-Some-clause-there
returns-in-Some-clause-there c = λ l. (last_position_is 1 c.args.learnt.now c.in-Some.position.now (length c.args.learnt.now - 1) c.requires.rising (last_index c.args.learnt.now c.in-Some.position.now c.in-Some.ensures.value) c.in-Some.ensures.value).there
