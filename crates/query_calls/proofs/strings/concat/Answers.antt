use Rattle.query_meaning.specs.Environment.{no_environment}
use Rattle.query_calls.proofs.Arguments.{concatenated_gives}
use Rattle.query_calls.proofs.strings.concat.Goals as goal

pub returns : goal.returns
returns c = concatenated_gives no_environment c.args.arguments.now c.args.run.now _ _ _ _ c.in_ok-gathered.ensures.ok c.concatenated.ensures
