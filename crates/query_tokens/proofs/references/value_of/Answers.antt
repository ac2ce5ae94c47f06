use Rattle.std.proofs.Common.{arith}
use Rattle.query_tokens.proofs.Saturating.{digit_more, all_read}
use Rattle.query_tokens.proofs.references.value_of.Goals as goal

pub loop-digit-preserved : goal.loop-digit-preserved
loop-digit-preserved c = (
  digit_more c.args.base c.loop-digit.value c.loop-digit.digit-index c.args.digits.now c.digit-item.result c.saturating_add-value.result _ c.requires c.loop-digit-test.true c.digit-item.is (rw (c.saturating_add-value.ensures, c.saturating_mul.ensures, c.digit_value.ensures.value)) c.loop-digit.invariant.0,
  omega (arith, c.saturating_add-value.ensures),
)

pub returns : goal.returns
returns c = all_read c.args.base c.loop-digit.value c.loop-digit.digit-index c.args.digits.now _ c.loop-digit-test.false c.loop-digit.invariant.1 c.loop-digit.invariant.0
