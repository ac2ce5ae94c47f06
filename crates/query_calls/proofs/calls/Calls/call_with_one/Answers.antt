use Rattle.query_meaning.specs.Meaning.{mean}
use Rattle.query_calls.proofs.Giving.{one_argument}
use Rattle.query_calls.proofs.calls.Calls.call_with_one.Goals as goal

pub returns : goal.returns
returns g c = one_argument c.args.function (mean c.args.argument.now) c.args.env.now c.args.run.now c.value_of_part.new.run c.applied.new.run c.in_ok-value.value c.from_ref.result.now c.applied.result c.in_ok-value.ensures (rw c.items.ensures at c.from_ref.ensures.value) c.applied.ensures
