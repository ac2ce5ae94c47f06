use Rattle.std.proofs.lemmas.Result.{err_from_is_err_and}
use Rattle.query_calls.proofs.Arguments.{gathers_not, gathers_on, still_stand}
use Rattle.query_calls.proofs.strings.gathered.Goals as goal

pub and_argument-requires : goal.and_argument-requires
and_argument-requires c = record { stand = still_stand _ _ _ _ _ _ c.loop-argument.invariant c.requires.stand c.loop-argument-test.true c.argument-item.is }

pub loop-argument-preserved : goal.loop-argument-preserved
loop-argument-preserved c = gathers_on _ _ _ _ _ _ _ _ c.loop-argument.invariant c.loop-argument-test.true c.argument-item.is c.in_ok-gathered.ensures.ok

pub returns-in_err-gathered-clause-code : goal.returns-in_err-gathered-clause-code
returns-in_err-gathered-clause-code c =
    let p = err_from_is_err_and c.from_residual-in_err-gathered.result c.from_residual-in_err-gathered.ensures.1 in
    rw (p.1, p.2) (gathers_not _ _ _ _ _ _ _ c.loop-argument.invariant c.loop-argument-test.true c.argument-item.is c.in_err-gathered.ensures.code)
