use Rattle.query_meaning.specs.Functions.{string_of}
use Rattle.query_calls.proofs.Giving.{context_gives}
use Rattle.query_calls.proofs.focus.string_of_context.Goals as goal

pub returns : goal.returns
returns c = context_gives c.args.env.now string_of c.in_ok-items.items c.args.run.now c.string.new.run c.string.result c.in_ok-items.ensures c.string.ensures
