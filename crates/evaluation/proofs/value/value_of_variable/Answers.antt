use Rattle.query_meaning.specs.Sequences.{variable}
use Rattle.evaluation.proofs.Counted.{counted_gives}
use Rattle.evaluation.proofs.value.value_of_variable.Goals as goal

pub returns : goal.returns
returns c = rw c.lent.ensures (counted_gives (variable c.args.name.now c.args.env.now) c.args.run.now _ _ _ _ c.in_ok-items.ensures.given c.in_ok-count.ensures.counted c.in_ok-count.ensures.same)
