use Rattle.std.proofs.Common.{◌≡◌, ◌-◌}
use Rattle.query_tokens.specs.Reading.{rounds}
use Rattle.query_tokens.specs.Lexing as lexing
use Rattle.query_tokens.proofs.separators.separators.Given as goal

abbrev pub invariant-loop-turn : goal.invariant-loop-turn
invariant-loop-turn l = lexing.separators l.fn.text ≡ rounds (λ _ text. lexing.is_separated text) (λ _. lexing.separator) (l._turn-end - l._turn) tt l.rest
