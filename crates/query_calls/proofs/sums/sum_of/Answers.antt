use Rattle.std.proofs.Common.{w64, FitsSigned, rules}
use Rattle.std.proofs.lemmas.Int.{to_z-of_z}
use Rattle.std.proofs.lemmas.Result.{err_from_is_err_and}
use Rattle.query_meaning.specs.Functions.{integer}
use Rattle.evaluation.specs.Gives.{Gives}
use Rattle.query_calls.proofs.Giving.{sum_fails, sum_gives}
use Rattle.query_calls.proofs.sums.sum_of.Goals as goal

pub returns-in_err-total : goal.returns-in_err-total
returns-in_err-total c =
    let p = err_from_is_err_and c.from_residual.result c.from_residual.ensures.1 in
    rw (p.1, p.2) (sum_fails c.args.values.now _ c.args.run.now c.in_err-total.ensures)

pub returns : goal.returns
returns c =
    let fits : FitsSigned w64 c.in_ok-total.total = search rules in
    let one : Gives (integer c.in_ok-total.total) c.args.run.now c.integer_of.result c.integer_of.new.run = search (rules, to_z-of_z) in
    sum_gives c.args.values.now c.in_ok-total.total _ _ _ c.in_ok-total.ensures one
