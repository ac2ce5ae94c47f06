use Rattle.ballots.specs.Values.{positions}
use Rattle.messages.proofs.Elements.{ends_with_eighth}
use Rattle.messages.proofs.bodies.covers_well.Goals as goal

pub returns-then-entries-eq-MOST_ENTRIES : goal.returns-then-entries-eq-MOST_ENTRIES
unfolding positions
returns-then-entries-eq-MOST_ENTRIES c = ends_with_eighth c.args.covered c.args.entries.now c.index-entries.result c.if-covered-eq-POSITIONS.false c.if-entries-eq-MOST_ENTRIES.true
