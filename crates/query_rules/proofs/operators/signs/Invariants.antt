use Rattle.std.proofs.Common.{◌≡◌, ◌-◌}
use Rattle.query_grammar.specs.Reader.{sees_sign}
use Rattle.query_grammar.specs.Reading.{many, rounds, take_as}
use Rattle.query_grammar.specs.Words.{sign_of}
use Rattle.query_rules.proofs.operators.signs.Given as goal

abbrev pub invariant-loop-turn : goal.invariant-loop-turn
invariant-loop-turn l = many sees_sign (take_as sign_of) l.fn.tokens ≡ rounds sees_sign (take_as sign_of) (l._turn-end - l._turn) l.found l.tokens
