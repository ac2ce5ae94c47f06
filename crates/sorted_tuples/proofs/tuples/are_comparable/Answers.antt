use Rattle.std.proofs.Common.{sym, ◌∙◌, arith}
use Rattle.sorted_tuples.proofs.Types.{all_of_one_type, not_of_one_type}
use Rattle.sorted_tuples.proofs.tuples.are_comparable.Goals as goal

pub returns-then-not-is_of_one_type : goal.returns-then-not-is_of_one_type
returns-then-not-is_of_one_type c = sym (not_of_one_type c.loop-position.position c.args.tuples.now (sym c.is_of_one_type.ensures ∙ c.if-not-is_of_one_type.true))

pub returns : goal.returns
returns c =
    sym (all_of_one_type c.args.count c.args.tuples.now c.requires.widths (λ k below. c.loop-position.invariant k (omega (arith, below, c.loop-position-test.false))))
