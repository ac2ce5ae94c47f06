-- The texts' characters compute.
use Rattle.std.proofs.Common.{refl}
use Rattle.std.specs.Str.{chars}
use Rattle.values.proofs.laws.examples.Goals as goal

pub returns-clause-as_strings : goal.returns-clause-as_strings
unfolding chars
returns-clause-as_strings c = refl

pub returns-clause-shorter_text : goal.returns-clause-shorter_text
unfolding chars
returns-clause-shorter_text c = refl

pub returns-clause-code_points : goal.returns-clause-code_points
unfolding chars
returns-clause-code_points c = refl
