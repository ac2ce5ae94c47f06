use Rattle.std.proofs.Common.{arith}
use Rattle.std.proofs.lemmas.Bool.{le-leb, lt-leb}
use Rattle.static_checks.proofs.Nesting.{too_many, not_yet}
use Rattle.static_checks.proofs.brackets.nests_too_deep.Goals as goal

pub returns-then-open-gt-MOST_OPEN : goal.returns-then-open-gt-MOST_OPEN
returns-then-open-gt-MOST_OPEN c =
    too_many c.args.tokens.now c.loop-index.index c.loop-index.open c.open_after-open.result c.peek_at.result _
    (omega (arith, c.loop-index-test.true, c.left-index-end.ensures)) c.loop-index.invariant.1 c.peek_at.ensures c.open_after-open.ensures
    (le-leb 201 c.open_after-open.result (omega (arith, c.if-open-gt-MOST_OPEN.true)))

pub loop-index-preserved : goal.loop-index-preserved
loop-index-preserved c = (
  omega (arith, c.if-open-gt-MOST_OPEN.false),
  not_yet c.args.tokens.now c.loop-index.index c.loop-index.open c.open_after-open.result c.peek_at.result _
      (omega (arith, c.loop-index-test.true, c.left-index-end.ensures)) c.loop-index.invariant.1 c.peek_at.ensures c.open_after-open.ensures
      (lt-leb 201 c.open_after-open.result (omega (arith, c.if-open-gt-MOST_OPEN.false))),
)
