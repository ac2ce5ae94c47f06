use Rattle.std.proofs.Common.{sym, ◌∙◌, arith}
use Rattle.query_tokens.specs.Lexing.{is_inside, comment_part}
use Rattle.query_tokens.proofs.Rounds as turn
use Rattle.query_tokens.proofs.separators.comment_parts.Goals as goal

pub returns-then-not-is_inside : goal.returns-then-not-is_inside
returns-then-not-is_inside c = c.loop-turn.invariant.0 ∙ turn.ends is_inside comment_part _ _ _ (sym c.is_inside.ensures ∙ c.if-not-is_inside.true)

pub returns-in_err-deep : goal.returns-in_err-deep
returns-in_err-deep c =
    turn.passed_on _ _ _ _ c.in_err-deep.field-0.0 c.from_residual.ensures.1
    (turn.is_fault_in is_inside comment_part _ _ _ _ _ _ c.loop-turn-test.true (sym c.is_inside.ensures ∙ c.if-not-is_inside.false) c.in_err-deep.ensures.read c.loop-turn.invariant.0)

pub loop-turn-preserved : goal.loop-turn-preserved
loop-turn-preserved c =
    (c.loop-turn.invariant.0 ∙ turn.goes_on is_inside comment_part _ _ _ _ _ _ c.loop-turn-test.true (sym c.is_inside.ensures ∙ c.if-not-is_inside.false) c.in_ok-deep.ensures.read, omega (arith, c.in_ok-deep.ensures.deeper))

pub returns : goal.returns
returns c = c.loop-turn.invariant.0 ∙ turn.runs_out is_inside comment_part _ _ _ _ c.loop-turn-test.false
