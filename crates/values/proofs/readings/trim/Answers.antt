-- Spaces are cut off the front, and then off the end.
use Rattle.std.proofs.Common.{◌≡◌, ℕ, reverse, ap, ◌∙◌, arith}
use Rattle.std.proofs.lemmas.Bool.Decides.{nat_tests}
use Rattle.std.specs.Char.{char_set_contains}
use Rattle.values.specs.declared.readings.TheConstants.{SPACES}
use Rattle.values.specs.Readings.{is_space, after_spaces}
use Rattle.values.proofs.Trims.{trimmed-front, trimmed-back}
use Rattle.values.proofs.readings.trim.Goals as goal

are-spaces : (c : ℕ) → char_set_contains SPACES c ≡ is_space c
are-spaces c = grind (arith, nat_tests)

pub returns : goal.returns
returns c =
    trimmed-back SPACES are-spaces _ _ c.trim_end_matches.ensures.matches ∙ ap (λ l. reverse (after_spaces (reverse l))) (trimmed-front SPACES are-spaces _ _ c.trim_start_matches.ensures.matches)
