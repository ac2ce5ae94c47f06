use Rattle.std.proofs.Common.{◌≡◌, ◌-◌}
use Rattle.query_grammar.specs.Reader as r
use Rattle.query_grammar.specs.Reading.{at_level}
use Rattle.query_rules.specs.Parts as part
use Rattle.query_rules.proofs.Turns.{flat_rounds}
use Rattle.query_rules.proofs.rules.Rules.segments.Given as goal

abbrev pub invariant-loop-turn : goal.invariant-loop-turn
invariant-loop-turn g l = part.segments (r.single l.self.level l.self.depth) l.fn.tokens ≡ flat_rounds (at_level 2) (r.segment (r.single l.self.level l.self.depth)) (l._turn-end - l._turn) l.found l.tokens
