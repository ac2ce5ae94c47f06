use Rattle.std.proofs.Common.{refl}
use Rattle.std.specs.Char.{encode_utf8}
use Rattle.query_tokens.specs.Reading.{rounds}
use Rattle.query_tokens.specs.Lexing.{tokens}
use Rattle.query_tokens.proofs.laws.examples.Goals as goal

pub returns-clause-in_utf_8 : goal.returns-clause-in_utf_8
unfolding tokens rounds encode_utf8
returns-clause-in_utf_8 c = refl
