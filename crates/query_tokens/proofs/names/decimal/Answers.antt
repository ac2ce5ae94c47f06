use Rattle.query_tokens.proofs.Decimals.{too_large}
use Rattle.query_tokens.proofs.names.decimal.Goals as goal

pub returns-then-value-digit : goal.returns-then-value-digit
returns-then-value-digit c =
    too_large c.loop-character.value c.loop-character.character-index c.args.digits.now c.character-item.result _ c.loop-character-test.true c.character-item.is (rw (c.from-digit.ensures, c.from.ensures) at c.if-value-digit.true) c.loop-character.invariant.1
