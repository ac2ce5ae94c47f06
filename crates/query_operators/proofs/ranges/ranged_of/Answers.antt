use Rattle.std.proofs.Common.{w64, FitsSigned, rules}
use Rattle.std.proofs.lemmas.Int.{to_z-of_z}
use Rattle.query_operators.proofs.Ranging.{ranged_gives, ranged_judged}
use Rattle.query_operators.proofs.ranges.ranged_of.Goals as goal

pub returns-in-Some-clause-given : goal.returns-in-Some-clause-given
returns-in-Some-clause-given c =
    let first : FitsSigned w64 c.in-Some.first = search rules in
    let last : FitsSigned w64 c.in-Some.last = search rules in
    ranged_gives c.args.xs.now c.args.ys.now c.in-Some.first c.in-Some.last c.args.run.now _ (rw c.in-Some.is at c.in_ok-integer_operands.ensures) (simp to_z-of_z at c.integers_to.ensures.items)

pub returns-in-Some-clause-judged : goal.returns-in-Some-clause-judged
returns-in-Some-clause-judged c =
    let first : FitsSigned w64 c.in-Some.first = search rules in
    let last : FitsSigned w64 c.in-Some.last = search rules in
    ranged_judged c.args.xs.now c.args.ys.now c.in-Some.first c.in-Some.last c.args.run.now _ (rw c.in-Some.is at c.in_ok-integer_operands.ensures) (simp to_z-of_z at c.integers_to.ensures.judged)
