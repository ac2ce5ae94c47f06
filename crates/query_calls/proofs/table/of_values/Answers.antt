use Rattle.query_calls.proofs.Giving.{more_give}
use Rattle.query_calls.proofs.table.of_values.Goals as goal

pub returns-in-len2-up : goal.returns-in-len2-up
returns-in-len2-up c = more_give c.args.function c.args.env.now c.args.values.now _ _ _ c.in-len2-up.len_at_least c.of_more.ensures
