use Rattle.query_calls.proofs.Giving.{call_gives}
use Rattle.query_calls.proofs.calls.Calls.call.Goals as goal

pub returns : goal.returns
returns g c =
    call_gives c.args.function c.args.arguments.now c.as_slice-arguments.result.now c.args.env.now c.args.run.now c.values_of.new.run c.applied.new.run _ c.as_slice.result.now c.applied.result c.as_slice-arguments.ensures c.as_slice.ensures c.in_ok-values.ensures c.applied.ensures
