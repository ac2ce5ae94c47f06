use Rattle.std.proofs.Common.{◌-◌, length}
use Rattle.proposer.proofs.Lasts.{last_entry_is, last_index}
use Rattle.proposer.proofs.view.last_entry.Goals as goal

pub returns-in-Some-clause-most : goal.returns-in-Some-clause-most
returns-in-Some-clause-most c = (last_entry_is 1 c.args.entries.now c.in-Some.entry.now (length c.args.entries.now - 1) c.requires.rising (last_index c.args.entries.now c.in-Some.entry.now c.in-Some.ensures.value) c.in-Some.ensures.value).most

pub returns-in-Some-clause-above : goal.returns-in-Some-clause-above
returns-in-Some-clause-above c = (last_entry_is 1 c.args.entries.now c.in-Some.entry.now (length c.args.entries.now - 1) c.requires.rising (last_index c.args.entries.now c.in-Some.entry.now c.in-Some.ensures.value) c.in-Some.ensures.value).above

pub returns-in-Some-clause-there : goal.returns-in-Some-clause-there
returns-in-Some-clause-there c = λ l. (last_entry_is 1 c.args.entries.now c.in-Some.entry.now (length c.args.entries.now - 1) c.requires.rising (last_index c.args.entries.now c.in-Some.entry.now c.in-Some.ensures.value) c.in-Some.ensures.value).there
