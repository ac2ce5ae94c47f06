use Rattle.std.proofs.Common.{◌≡◌, ◌-◌, ◌+◌, ◌*◌}
use Rattle.query_grammar.specs.Reader as r
use Rattle.query_grammar.specs.Reading.{at_level, rounds}
use Rattle.query_parts.specs.Operators.{looseness_at}
use Rattle.query_rules.specs.Parts as part
use Rattle.query_rules.proofs.rules.Rules.+binary.Given as goal

abbrev pub decreases-operand : goal.decreases-operand
decreases-operand g l = 6 * looseness_at l.precedence

abbrev pub decreases-operation : goal.decreases-operation
decreases-operation g l = 6 * looseness_at l.precedence + 1

abbrev pub decreases-operations : goal.decreases-operations
decreases-operations g l = 6 * looseness_at l.precedence + 2

abbrev pub decreases-binary : goal.decreases-binary
decreases-binary g l = 6 * looseness_at l.precedence + 5

abbrev pub decreases-operand_from : goal.decreases-operand_from
decreases-operand_from g l = 6 * looseness_at l.precedence + 3

abbrev pub decreases-continued : goal.decreases-continued
decreases-continued g l = 6 * looseness_at l.precedence + 4

abbrev pub invariant-operations-loop-turn : goal.invariant-operations-loop-turn
invariant-operations-loop-turn g l = part.operations (r.single l.self.level l.self.depth) l.precedence l.fn.tokens ≡ rounds (at_level (looseness_at l.precedence)) (part.operation (r.single l.self.level l.self.depth) l.precedence) (l._turn-end - l._turn) l.found l.tokens
