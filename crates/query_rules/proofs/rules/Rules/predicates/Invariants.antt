use Rattle.std.proofs.Common.{◌≡◌, ◌-◌}
use Rattle.query_grammar.specs.Reader as r
use Rattle.query_grammar.specs.Reading.{at_level, many, rounds}
use Rattle.query_rules.proofs.rules.Rules.predicates.Given as goal

abbrev pub invariant-loop-turn : goal.invariant-loop-turn
invariant-loop-turn g l = many (at_level 1) (r.predicate (r.single l.self.level l.self.depth)) l.fn.tokens ≡ rounds (at_level 1) (r.predicate (r.single l.self.level l.self.depth)) (l._turn-end - l._turn) l.found l.tokens
