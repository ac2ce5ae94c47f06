use Rattle.query_calls.proofs.Arguments.{IsGathering}
use Rattle.query_calls.proofs.strings.gathered.Given as goal

abbrev pub invariant-loop-argument : goal.invariant-loop-argument
invariant-loop-argument l = IsGathering l.fn.arguments l.fn.run l.argument-index l.gathered l.run
