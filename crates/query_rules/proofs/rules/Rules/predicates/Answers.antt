use Rattle.std.proofs.Common.{sym, ◌∙◌}
use Rattle.query_grammar.specs.Reader as r
use Rattle.query_grammar.specs.Reading.{at_level}
use Rattle.query_rules.proofs.Turns.{one_round}
use Rattle.query_rules.proofs.rules.Rules.predicates.Goals as goal

pub loop-turn-preserved : goal.loop-turn-preserved
loop-turn-preserved g c =
    c.loop-turn.invariant ∙ one_round (at_level 1) (r.predicate (r.single c.args.self.now.level c.args.self.now.depth)) _ _ _ _ _ _ _ c.loop-turn-test.true (sym c.at_level.ensures ∙ c.if-not-at_level.false) c.in_ok-x.ensures c.in_ok-push.ensures.ok
