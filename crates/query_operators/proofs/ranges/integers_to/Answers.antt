use Rattle.std.proofs.Common.{w64, FitsSigned, arith}
use Rattle.std.proofs.lemmas.Int.{to_z-of_z}
use Rattle.query_meaning.specs.Running.{most_items}
use Rattle.query_operators.proofs.Ranging.{too_many, enough}
use Rattle.query_operators.proofs.ranges.integers_to.Goals as goal

pub returns-then-others-clause-items : goal.returns-then-others-clause-items
unfolding most_items
returns-then-others-clause-items c =
    let first : FitsSigned w64 c.args.first = c.ranges.first in
    let last : FitsSigned w64 c.args.last = c.ranges.last in
    too_many c.args.first c.args.last _ (simp to_z-of_z at c.if-last-first.false) (simp to_z-of_z at c.abs_diff-others.ensures) (omega arith)

pub returns-clause-items : goal.returns-clause-items
unfolding most_items
returns-clause-items c =
    let first : FitsSigned w64 c.args.first = c.ranges.first in
    let last : FitsSigned w64 c.args.last = c.ranges.last in
    enough c.args.first c.args.last _ _ (simp to_z-of_z at c.if-last-first.false) (simp to_z-of_z at c.abs_diff-others.ensures) (omega arith) (simp to_z-of_z at c.in_ok-integers.ensures)
