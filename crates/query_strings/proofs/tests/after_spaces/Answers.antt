use Rattle.std.proofs.Common.{◌≡◌, ℕ, arith}
use Rattle.std.proofs.lemmas.Bool.Decides.{nat_tests}
use Rattle.std.specs.Char.{char_set_contains}
use Rattle.values.specs.Readings.{is_space}
use Rattle.values.proofs.Trims.{trimmed-front}
use Rattle.query_strings.specs.declared.tests.TheConstants.{SPACES}
use Rattle.query_strings.proofs.tests.after_spaces.Goals as goal

are-spaces : (c : ℕ) → char_set_contains SPACES c ≡ is_space c
are-spaces c = grind (arith, nat_tests)

pub returns : goal.returns
returns c = trimmed-front SPACES are-spaces _ _ c.trim_start_matches.ensures.matches
