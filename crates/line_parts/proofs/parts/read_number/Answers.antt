use Rattle.std.proofs.Common.{◌∙◌}
use Rattle.line_parts.proofs.Numbers.{number_below-from_parse}
use Rattle.line_parts.proofs.parts.read_number.Goals as goal

pub returns-then-are_digits : goal.returns-then-are_digits
returns-then-are_digits c =
    c.ok.ensures.value ∙ number_below-from_parse 64 c.args.digits.now c.parse.result c.parse.ensures.value.0 (cc)
